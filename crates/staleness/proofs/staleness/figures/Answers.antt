use Rattle.staleness.proofs.Common.{length, ap, ◌∙◌, lists_in, tables_in}
use Rattle.staleness.specs.inner.Totals.{total_below, found_at}
use Rattle.staleness.proofs.Totals.{parts_few, parts_limit, figures_of_all}
use Rattle.staleness.proofs.staleness.figures.Goals as goal

pub joined_all-requires-clause-count : goal.joined_all-requires-clause-count
joined_all-requires-clause-count g c = rw c.deref.ensures.value (parts_limit c.args.round (tables_in c.args.tables.now) (lists_in c.args.lists.now) _ c.in_ok-nodes.ensures)

pub joined_all-requires-clause-few : goal.joined_all-requires-clause-few
joined_all-requires-clause-few g c = rw c.deref.ensures.value (parts_few c.args.round (tables_in c.args.tables.now) (lists_in c.args.lists.now) _ c.in_ok-nodes.ensures)

pub returns-clause-figures : goal.returns-clause-figures
returns-clause-figures g c =
    c.joined_all.ensures
    ∙ ap (λ fs. total_below (length fs) (found_at fs)) c.deref.ensures.value
    ∙ figures_of_all c.args.round (tables_in c.args.tables.now) (lists_in c.args.lists.now) _ c.in_ok-nodes.ensures
