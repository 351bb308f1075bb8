use Rattle.std.proofs.Common.{[], ap, arith, length, map, sym, ◌++◌, ◌-◌, ◌∙◌, ◌∷◌}
use Rattle.std.proofs.lemmas.List.{length-map, map-append}
use Rattle.std.proofs.lemmas.List.FromFn.{length-map-range_with_len}
use Rattle.model.specs.Table.{empty_table}
use Rattle.round_histories.proofs.EmptyTables.{one_more}
use Rattle.round_histories.proofs.openings.empty_tables.Goals as goal

pub loop-node-preserved : goal.loop-node-preserved
loop-node-preserved g c = record {
  from = omega (arith, c.loop-node.invariant.from);
  tables =
      ap (map g.T.MemoryTable.table) c.push_reserved.ensures.items
      ∙ map-append g.T.MemoryTable.table c.loop-node.tables.items (c.in_ok-empty_table.field-0 ∷ [])
      ∙ (λ i. c.loop-node.invariant.tables i ++ c.in_ok-empty_table.ensures.empty i ∷ [])
      ∙ sym (one_more (g.K.RoundHistories.kept c.args.histories.now) _ _ c.loop-node.invariant.from);
  room = c.push_reserved.ensures.capacity ∙ c.loop-node.invariant.room;
}

pub push_reserved-requires : goal.push_reserved-requires
push_reserved-requires g c =
    let h = g.K.RoundHistories.kept c.args.histories.now in
    let made = length-map-range_with_len (λ n. empty_table n (length h.lists) h.keys) c.args.nodes.start (c.loop-node.node - c.args.nodes.start) in
    omega (
      arith,
      c.loop-node.tables.ok.0,
      length-map c.loop-node.tables.items g.T.MemoryTable.table,
      ap length c.loop-node.invariant.tables,
      made,
      c.loop-node.invariant.from,
      c.loop-node.invariant.room,
      c.loop-node-test.true,
    )
