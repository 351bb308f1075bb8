use Rattle.node_table.proofs.Common.{◌≡◌, drop, subst, sym, ap, ◌∙◌, arith, take_rest, generation_held}
use Rattle.node_table.specs.Entries.{AreAbove}
use Rattle.node_table.specs.inner.Layouts.{IsRankAbove, row_at, table_laid}
use Rattle.node_table.proofs.InLayout.{above_older, above_rank}
use Rattle.node_table.proofs.layouts.Layout.above.Goals as goal

pub returns-then-generation-mark-2 : goal.returns-then-generation-mark-2
returns-then-generation-mark-2 c =
    let l = c.args.self.now in
    subst (AreAbove (table_laid l) c.args.owner c.args.mark) (sym c.row-row.ensures)
    (above_older l c.requires.layout c.args.owner c.requires.owner c.args.mark (omega (arith, c.generation_of-generation.ensures, c.if-generation-mark-2.true)))

pub returns : goal.returns
returns c =
    let l = c.args.self.now in
    let row = row_at l.slots.items l.rows.items c.args.owner in
    let same : c.args.mark.generation ≡ generation_held (table_laid l) c.args.owner = omega (arith, c.generation_of-generation.ensures, c.if-generation-mark.false, c.if-generation-mark-2.false) in
    let ranked = subst (λ xs. IsRankAbove xs c.args.mark.version c.rank_above.result) c.row-row.ensures c.rank_above.ensures in
    subst (AreAbove (table_laid l) c.args.owner c.args.mark) (sym (take_rest c.row-row.result.now c.rank_above.result ∙ ap (drop c.rank_above.result) c.row-row.ensures))
    (above_rank l c.requires.layout c.args.owner c.requires.owner c.args.mark c.rank_above.result same ranked)
