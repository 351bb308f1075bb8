use Rattle.workers.proofs.Common.{◌∙◌}
use Rattle.workers.specs.declared.gathering.Stamped.{Stamped}
use Rattle.bench_types.specs.declared.exchanges.Fate.TheVariants as fate
use Rattle.workers.proofs.Gathered.{write_next}
use Rattle.workers.proofs.gathering.write_all.Goals as goal

abbrev no_stamp : Stamped
no_stamp = record { index = 0; outcome = record { digest1 = 0; digest2 = 0; back = 0; forth = 0; back_cut = 0; forth_cut = 0; fate = fate.Ok } }

pub loop-stamped-preserved : goal.loop-stamped-preserved
loop-stamped-preserved c =
    write_next c.loop-stamped.records c.args.stamps.now c.loop-stamped.stamped-index no_stamp c.loop-stamped-test.true ∙ c.loop-stamped.invariant
