use Rattle.scenario.proofs.Common.{Ok, map, ap, ◌∙◌, sym, view, view-Array}
use Rattle.scenario.specs.Elements.{array_of}
use Rattle.scenario.proofs.Walks.{list_of-items_view}
use Rattle.scenario.proofs.arrays.array_of.Goals as goal

pub returns-in-Array-clause-ok : goal.returns-in-Array-clause-ok
returns-in-Array-clause-ok c =
    ap (array_of c.args.field) (ap view c.in-Array.is ∙ view-Array c.in-Array.array)
    ∙ ap (λ ds. Ok ds) (list_of-items_view c.in-Array.array.items ∙ ap (map view) (sym c.as_slice.ensures.value))
