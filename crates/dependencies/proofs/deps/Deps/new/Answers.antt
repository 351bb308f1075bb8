use Rattle.dependencies.proofs.Common.{length, ap, arith}
use Rattle.dependencies.specs.Neighbours.{predecessors_of}
use Rattle.dependencies.proofs.Passes.{length_each}
use Rattle.dependencies.proofs.deps.Deps.new.Goals as goal

pub free_places-requires : goal.free_places-requires
free_places-requires c =
    let es = c.exchanges-2.result.now in
    let each = length_each (predecessors_of es) c.in_ok-before.before.items (length es) c.in_ok-before.ensures.value in
    record { few = omega (arith, each, ap length c.deref.ensures.value, ap length c.exchanges-2.ensures.value, c.exchanges-2.ensures.kept.size) }
