use Rattle.runs.proofs.Common.{subst, sym}
use Rattle.runs.specs.Inputs.{IsReadWhole}
use Rattle.runs.proofs.InputFacts.{accepted, fault_of_check}
use Rattle.runs.proofs.runs.check_input.Goals as goal

pub returns-clause-accepted : goal.returns-clause-accepted
returns-clause-accepted g c =
    accepted g.R.Source _ _ c.deref.result.now
    (subst (IsReadWhole g.R.Source _ _) (sym c.deref.ensures.value) c.in_ok-bytes.ensures.whole)
    c.read.result c.read.ensures.says c.read.ensures.no_fault

pub returns-clause-fault : goal.returns-clause-fault
returns-clause-fault g c =
    fault_of_check g.R.Source _ _ c.deref.result.now
    (subst (IsReadWhole g.R.Source _ _) (sym c.deref.ensures.value) c.in_ok-bytes.ensures.whole)
    c.read.result c.read.ensures.only c.read.ensures.first
