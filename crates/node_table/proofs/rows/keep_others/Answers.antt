use Rattle.node_table.proofs.Common.{◌≡◌, ◌+◌, ◌<◌, not, length, get_or, set, sym, ap, subst, arith, eq-eqb, ne_eqb, get_or_default, FiltersInPlace, FiltersInPlace-more_set, Entry}
use Rattle.node_table.specs.inner.Layouts.{has_other_key}
use Rattle.node_table.proofs.InRow.{no_entry}
use Rattle.node_table.proofs.Newest.{written_over}
use Rattle.node_table.proofs.rows.keep_others.Goals as goal
use Rattle.node_table.proofs.rows.keep_others.Goals.{then-held-key, else-held-key}

pub loop-at-preserved : goal.loop-at-preserved
loop-at-preserved c =
    let held : Entry = get_or c.loop-at.block c.loop-at.at no_entry in
    let below : c.loop-at.at < length c.loop-at.block = omega (arith, c.loop-at-test.true, c.requires, c.loop-at.auto.block) in
    let read : held ≡ get_or c.loop-at.block c.loop-at.at held = get_or_default c.loop-at.block c.loop-at.at no_entry held below in
    elim c.if-held-key.branch [
      | then-held-key w ↦ subst (λ n. FiltersInPlace (has_other_key c.args.key) c.args.block.now (set c.loop-at.block c.loop-at.kept held) n (c.loop-at.at + 1)) (sym w.kept-is)
          (FiltersInPlace-more_set c.loop-at.invariant below (ap not (ne_eqb held.key c.args.key w.if-held-key.true)) read)
      | else-held-key w ↦ subst (λ n. FiltersInPlace (has_other_key c.args.key) c.args.block.now (set c.loop-at.block c.loop-at.kept held) n (c.loop-at.at + 1)) (sym w.kept-is)
          (written_over (has_other_key c.args.key) c.args.block.now c.loop-at.block c.loop-at.kept c.loop-at.at held c.loop-at.invariant below (ap not (eq-eqb held.key c.args.key w.if-held-key.false)) read)
    ]
