use Rattle.dependencies.proofs.Common.{◌≡◌, true}
use Rattle.dependencies.specs.Schedules.{is_finished}
use Rattle.dependencies.proofs.Predecessors.{predecessors_earlier, earlier_from_predecessors}
use Rattle.dependencies.proofs.Histories.{history_of}
use Rattle.dependencies.proofs.laws.predecessors_tell_of_all_earlier.Goals as goal

pub returns : goal.returns
returns c es events lawful i within =
    let history = history_of es events lawful in
    (earlier_from_predecessors es (λ j. is_finished events j ≡ true) i (λ k j _ below holds shared. history.free k j (history.started k holds) below shared), predecessors_earlier es (λ j. is_finished events j ≡ true) i)
