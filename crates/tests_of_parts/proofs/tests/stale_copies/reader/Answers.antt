use Rattle.std.proofs.Common.{◌≡◌, List, sym, subst, ◌∙◌}
use Rattle.bench_types.specs.declared.entries.Item.{Item}
use Rattle.model.specs.Table.{Table, applied}
use Rattle.model.proofs.TableLaws.{KeepsFrame, frame-applied}
use Rattle.tests_of_parts.proofs.tests.stale_copies.reader.Goals as goal

-- a table makes room for items, and takes them
kept : (before room after : Table) (held : List Item) → room ≡ before → after ≡ applied room held → KeepsFrame before after
kept before room after held same is = subst (KeepsFrame before) (sym is) (subst (λ t. KeepsFrame before (applied t held)) (sym same) (frame-applied before held))

pub returns-clause-node : goal.returns-clause-node
returns-clause-node g c =
    (kept c.writer-table.result.0.table c.reserve_for.new.self.table c.apply.new.self.table c.args.held.now c.reserve_for.ensures.same c.apply.ensures).node ∙ c.writer-table.ensures.node

pub returns-clause-nodes : goal.returns-clause-nodes
returns-clause-nodes g c =
    (kept c.writer-table.result.0.table c.reserve_for.new.self.table c.apply.new.self.table c.args.held.now c.reserve_for.ensures.same c.apply.ensures).nodes ∙ c.writer-table.ensures.nodes

pub returns-clause-keys : goal.returns-clause-keys
returns-clause-keys g c =
    (kept c.writer-table.result.0.table c.reserve_for.new.self.table c.apply.new.self.table c.args.held.now c.reserve_for.ensures.same c.apply.ensures).keys ∙ c.writer-table.ensures.keys
