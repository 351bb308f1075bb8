use Rattle.staleness.proofs.Common.{◌≡◌, ◌*◌, ap, sym, subst, ◌∙◌, arith, Figures, lists_in, Table, table_of_node, tables_in, table_indexed}
use Rattle.staleness.specs.inner.Totals.{total_below, triple_figures, AreFew}
use Rattle.staleness.proofs.Totals.{room, total_few, triple_few}
use Rattle.staleness.proofs.staleness.figures_of_copy.Goals as goal

pub joined-total-requires : goal.joined-total-requires
joined-total-requires c =
    let figures = triple_figures c.args.round (tables_in c.args.tables.now) (lists_in c.args.lists.now) c.args.node c.args.owner in
    let each = triple_few c.args.round (tables_in c.args.tables.now) (lists_in c.args.lists.now) c.args.node c.args.owner in
    let key = c.loop-key.key in
    room (key * 1) 1 c.loop-key.total c.figures_of_triple.result
    (subst (AreFew (key * 1)) (sym c.loop-key.invariant) (total_few figures key 1 (λ i lt. each i)))
    (subst (AreFew 1) (sym c.figures_of_triple.ensures) (each key))
    (omega (arith, c.loop-key-test.true))

pub returns-clause-figures : goal.returns-clause-figures
returns-clause-figures c =
    let tables = tables_in c.args.tables.now in
    let table_is = table_indexed c.args.tables.now c.args.node c.index-tables-node.result c.requires.node c.index-tables-node.is in
    let all : c.loop-key.key ≡ (table_of_node tables c.args.node).keys = omega (arith, c.loop-key-test.false, c.loop-key.auto.key-end, c.keys-key-end.ensures.value, ap (λ (t : Table). t.keys) table_is) in
    c.loop-key.invariant ∙ ap (λ n. total_below n (triple_figures c.args.round tables (lists_in c.args.lists.now) c.args.node c.args.owner)) all

pub returns-clause-few : goal.returns-clause-few
returns-clause-few c =
    let tables = tables_in c.args.tables.now in
    let lists = lists_in c.args.lists.now in
    let few = total_few (triple_figures c.args.round tables lists c.args.node c.args.owner) c.loop-key.key 1 (λ i lt. triple_few c.args.round tables lists c.args.node c.args.owner i) in
    let proper = c.keys-key-end.ensures.proper in
    record {
      stale = omega (arith, c.loop-key.auto.key-end, c.keys-key-end.ensures.value, proper.keys_limit, ap (λ (f : Figures). f.stale) c.loop-key.invariant, few.stale);
      leftover = omega (arith, c.loop-key.auto.key-end, c.keys-key-end.ensures.value, proper.keys_limit, ap (λ (f : Figures). f.leftover) c.loop-key.invariant, few.leftover);
    }
