use Rattle.node_table.proofs.Common.{refl, arith, proper-empty_table}
use Rattle.node_table.proofs.Empty.{table_bare, layout_bare}
use Rattle.node_table.proofs.tables.NodeTable.new.Goals as goal

pub invariant_of-result : goal.invariant_of-result
invariant_of-result c =
    layout_bare _ c.new.ensures.items (c.in_ok-vec.ensures.items_if_clones_equal (λ y e. e)) (proper-empty_table c.args.node c.args.nodes c.args.keys c.requires.node c.requires.nodes c.requires.some_key c.requires.keys)
    (c.in_ok-vec-2.ensures.items_if_clones_equal (λ y e. e)) c.in_ok-with_capacity.ensures.items (omega (arith, c.in_ok-with_capacity.ensures.capacity)) refl

pub returns-clause-empty : goal.returns-clause-empty
returns-clause-empty c = table_bare c.args.node c.args.nodes c.args.keys 0 c.new.result.items c.in_ok-vec.field-0.items c.new.ensures.items (c.in_ok-vec.ensures.items_if_clones_equal (λ y e. e))
