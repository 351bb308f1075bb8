use Rattle.run_laws.proofs.Common.{arith, inl}
use Rattle.run_laws.proofs.SmallRings.{all_passed_on, lags, passes_on, reaches}
use Rattle.run_laws.proofs.witnesses.paths_lead_on.Goals as goal

pub returns : goal.returns
returns c = record {
  upto = inl (omega arith);
  reached = reaches;
  passed_on = passes_on;
  all = all_passed_on;
  lags = lags;
}
