use Rattle.node_table.proofs.Common.{◌≡◌, ◌+◌, take, length, set, sym, ap, ◌∙◌, subst, arith, length-take-le, length-set}
use Rattle.std.specs.List.{insert}
use Rattle.node_table.specs.inner.Layouts.{IsPut}
use Rattle.node_table.proofs.InRow.{room_for_key, put_at_rank}
use Rattle.node_table.proofs.Blocks.{let_in, let_in_last}
use Rattle.node_table.proofs.rows.insert.Goals as goal
use Rattle.node_table.proofs.rows.insert.Goals.{then-rank-len, else-rank-len}

pub copy_within-requires-clause-dest_in_bounds : goal.copy_within-requires-clause-dest_in_bounds
copy_within-requires-clause-dest_in_bounds c =
    let room = room_for_key _ _ c.args.entry c.requires.row.row c.requires.absent c.requires.entry.key in
    omega (arith, room, c.rank_of-rank.ensures.within, length-take-le c.args.len c.args.block.now c.requires.row.within)

pub bounds-block-rank : goal.bounds-block-rank
bounds-block-rank c =
    let room = room_for_key _ _ c.args.entry c.requires.row.row c.requires.absent c.requires.entry.key in
    omega (arith, room, c.rank_of-rank.ensures.within, c.if-rank-len.auto.block, length-take-le c.args.len c.args.block.now c.requires.row.within)

pub returns-clause-put : goal.returns-clause-put
returns-clause-put c =
    let room = room_for_key _ _ c.args.entry c.requires.row.row c.requires.absent c.requires.entry.key in
    let front = length-take-le c.args.len c.args.block.now c.requires.row.within in
    let rank = c.rank_of-rank.result in
    let done : take (c.args.len + 1) (set c.if-rank-len.block rank c.args.entry) ≡ insert (take c.args.len c.args.block.now) rank c.args.entry = elim c.if-rank-len.branch [
      | then-rank-len w ↦ ap (λ ys. take (c.args.len + 1) (set ys rank c.args.entry)) (w.block-is ∙ w.copy_within.ensures.after)
          ∙ let_in c.args.block.now rank c.args.len c.args.entry (omega (arith, c.rank_of-rank.ensures.within)) (omega arith)
      | else-rank-len w ↦
          let at_end : rank ≡ c.args.len = omega (arith, w.if-rank-len.false, c.rank_of-rank.ensures.within) in
          ap (λ ys. take (c.args.len + 1) (set ys rank c.args.entry)) w.block-is
          ∙ ap (λ n. take (c.args.len + 1) (set c.args.block.now n c.args.entry)) at_end
          ∙ let_in_last c.args.block.now c.args.len c.args.entry (omega arith)
          ∙ ap (λ n. insert (take c.args.len c.args.block.now) n c.args.entry) (sym at_end)
    ] in
    record {
      as_long = length-set c.if-rank-len.block rank c.args.entry ∙ c.if-rank-len.auto.block;
      within = omega (arith, room, front, c.if-rank-len.auto.block, length-set c.if-rank-len.block rank c.args.entry);
      put = subst (IsPut (length c.args.block.now) c.args.entry (take c.args.len c.args.block.now)) (sym done)
          (put_at_rank _ _ _ _ c.requires.row.row c.requires.absent c.rank_of-rank.ensures c.requires.entry.key c.requires.entry.written);
    }
