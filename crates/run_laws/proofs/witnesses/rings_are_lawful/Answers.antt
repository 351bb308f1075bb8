use Rattle.run_laws.proofs.Common.{refl}
use Rattle.bench_types.specs.declared.exchanges.Mode.TheVariants.{ScuttleBreadth}
use Rattle.run_laws.proofs.SmallRings.{ring_lawful, ring_ample, modes_uncut, uncut_before, never_forgets, restarts_own, keeps_own}
use Rattle.run_laws.proofs.witnesses.rings_are_lawful.Goals as goal

pub returns : goal.returns
returns c = record {
  lawful = λ forget. ring_lawful forget ScuttleBreadth;
  ample = ring_ample;
  uncut = λ forget mode. modes_uncut forget mode 3;
  uncut_before = uncut_before;
  scuttle = λ forget. refl;
  never = never_forgets;
  keeps_own = (restarts_own, keeps_own);
}
