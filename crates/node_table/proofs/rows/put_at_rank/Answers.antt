use Rattle.node_table.proofs.Common.{◌≢◌, ◌-◌, All, take, ap, ◌∙◌, sym, subst, refl, arith, length-take-le, Entry}
use Rattle.node_table.proofs.Blocks.{closed_up}
use Rattle.node_table.proofs.InRow.{row_remove, absent_remove, put_over}
use Rattle.node_table.proofs.rows.put_at_rank.Goals as goal

pub insert-requires-clause-row : goal.insert-requires-clause-row
insert-requires-clause-row c =
    let front = length-take-le c.args.len c.args.block.now c.requires.row.within in
    let closed = ap (take (c.args.len - 1)) c.copy_within.ensures.after ∙ closed_up _ _ _ (omega (arith, c.if-index-len.true)) c.requires.row.within in
    record {
      within = omega (arith, c.requires.row.within, c.copy_within.auto.self);
      row = rw (c.copy_within.auto.self, closed) (row_remove _ _ _ _ c.requires.row.row c.index_of-index.ensures (omega (arith, c.if-index-len.true)));
    }

pub insert-requires-clause-absent : goal.insert-requires-clause-absent
insert-requires-clause-absent c =
    let front = length-take-le c.args.len c.args.block.now c.requires.row.within in
    let closed = ap (take (c.args.len - 1)) c.copy_within.ensures.after ∙ closed_up _ _ _ (omega (arith, c.if-index-len.true)) c.requires.row.within in
    subst (All (λ (e : Entry). e.key ≢ c.args.entry.key)) (sym closed) (absent_remove _ _ _ _ c.requires.row.row c.index_of-index.ensures (omega (arith, c.if-index-len.true)))

pub returns-then-index-len : goal.returns-then-index-len
returns-then-index-len c =
    let front = length-take-le c.args.len c.args.block.now c.requires.row.within in
    let closed = ap (take (c.args.len - 1)) c.copy_within.ensures.after ∙ closed_up _ _ _ (omega (arith, c.if-index-len.true)) c.requires.row.within in
    let within = c.insert.ensures.put.within in
    let after = length-take-le c.insert.result c.insert.new.block within in
    record {
      as_long = c.insert.ensures.put.as_long ∙ c.copy_within.auto.self;
      within = within;
      put = put_over _ _ _ _ c.requires.row.row c.index_of-index.ensures (omega (arith, c.if-index-len.true)) c.args.entry _ refl (omega (arith, c.insert.ensures.one_more, c.if-index-len.true))
          (rw (← closed, ← c.copy_within.auto.self) c.insert.ensures.put.put);
    }
