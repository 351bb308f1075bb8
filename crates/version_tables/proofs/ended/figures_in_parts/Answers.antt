use Rattle.version_tables.proofs.Common.{map, length, sym, ap, ◌∙◌, subst, figures_of, lists_in, table_in, HistoriesView, AreBounds}
use Rattle.version_tables.proofs.ended.figures_in_parts.Goals as goal

pub figures_of_pieces-requires-clause-are : goal.figures_of_pieces-requires-clause-are
figures_of_pieces-requires-clause-are g c =
    let beside = c.numbers_of.ensures c.args.ended.tables.items (rw c.in_ok-whole.ensures.whole c.requires.ended)
    (rw (c.deref-2.ensures.value, ← c.in_ok-whole.ensures.whole, ← c.deref.ensures.value) c.in_ok-cells.ensures.cells) in
    (map (table_in g.H.Written.lists) c.args.ended.tables.items, beside.are)

pub figures_of_pieces-requires-clause-pieces : goal.figures_of_pieces-requires-clause-pieces
figures_of_pieces-requires-clause-pieces g c =
    let answered = c.in_ok-whole.ensures in
    let beside = rw answered.whole at (c.numbers_of.ensures c.args.ended.tables.items (rw answered.whole c.requires.ended)
    (rw (c.deref-2.ensures.value, ← answered.whole, ← c.deref.ensures.value) c.in_ok-cells.ensures.cells)) in
    let same = ap (λ (h : HistoriesView). length h.lists) beside.histories ∙ c.requires.ended.one_list_each in rw c.deref-3.ensures.value (record {
      bounds = c.args.bounds.items;
      are = subst (λ n. AreBounds n c.args.bounds.items) (sym same) c.requires.bounds;
      one_each = answered.one_each;
      each = λ i piece is. answered.each i piece is c.numbers_of.result beside;
    })

pub returns-clause-counted : goal.returns-clause-counted
returns-clause-counted g c =
    let whole = c.in_ok-whole.ensures.whole in let tables = map (table_in g.H.Written.lists) c.args.ended.tables.items in
    let beside = rw whole at (c.numbers_of.ensures c.args.ended.tables.items (rw whole c.requires.ended)
    (rw (c.deref-2.ensures.value, ← whole, ← c.deref.ensures.value) c.in_ok-cells.ensures.cells)) in
    record {
      figures_are = c.in_ok-figures.ensures.0 tables beside.are ∙ ap (λ (k : HistoriesView). figures_of k.rounds tables (lists_in k.lists)) beside.histories;
      same_tables = rw whole;
      same_histories = rw whole;
    }

pub look_in_parts-requires-clause-may : goal.look_in_parts-requires-clause-may
look_in_parts-requires-clause-may g c i lt = (c.requires.ended, c.requires.bounds.parts i lt)
