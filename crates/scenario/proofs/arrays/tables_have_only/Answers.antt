use Rattle.scenario.proofs.Common.{Some, ap, sym, ◌∙◌, list_all, view, view-Array}
use Rattle.scenario.specs.Elements.{values_of, table_has_only}
use Rattle.scenario.proofs.Walks.{list_all-items_view}
use Rattle.scenario.proofs.arrays.tables_have_only.Goals as goal

pub returns-in-Array : goal.returns-in-Array
returns-in-Array c =
    let only = table_has_only c.args.fields.now in
    c.all_have_only.ensures
    ∙ ap (list_all (λ value. only (view value))) c.as_slice.ensures.value
    ∙ sym (list_all-items_view only c.in-Array.array.items)
    ∙ ap (λ d. list_all only (values_of (Some d))) (sym (ap view c.in-Array.is ∙ view-Array c.in-Array.array))
