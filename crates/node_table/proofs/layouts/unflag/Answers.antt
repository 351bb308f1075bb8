use Rattle.node_table.proofs.Common.{◌≡◌, ◌+◌, length, sym, subst, inl, inr, arith}
use Rattle.node_table.specs.declared.layouts.Row.{Row}
use Rattle.node_table.proofs.Flags.{AreLeft, left_kept, left_cleared}
use Rattle.node_table.proofs.layouts.unflag.Goals as goal
use Rattle.node_table.proofs.layouts.unflag.Goals.{then-owner-rows+then-rows-owner-eq0, else-owner-rows, else-owner-rows-via-then-owner-rows+else-rows-owner-eq0, else-owner-rows-via-else-owner-rows}

pub loop-item-preserved : goal.loop-item-preserved
loop-item-preserved c =
    let added = c.args.added.now in
    let rows = c.args.rows.now in
    let before = c.args.greatest.now in
    let k = c.loop-item.item-index in
    let same : length c.loop-item.greatest ≡ length before = c.loop-item.auto.greatest in
    let no_row : Row = record { start = 0; len = 0 } in
    elim c.if-owner-rows.branch [
      | then-owner-rows+then-rows-owner-eq0 w ↦
          subst (λ xs. AreLeft rows added before xs (k + 1)) (sym w.greatest-is) (left_cleared rows added before c.loop-item.greatest k c.loop-item.invariant c.loop-item-test.true same c.requires no_row w.if-owner-rows.true w.if-rows-owner-eq0.true)
      | else-owner-rows w ↦
          let next : AreLeft rows added before c.loop-item.greatest (k + 1) = elim w.else-owner-rows.branch [
            | else-owner-rows-via-then-owner-rows+else-rows-owner-eq0 w' ↦ left_kept rows added before c.loop-item.greatest k c.loop-item.invariant c.loop-item-test.true same c.requires no_row (inr (omega (arith, w'.if-rows-owner-eq0.false)))
            | else-owner-rows-via-else-owner-rows w' ↦ left_kept rows added before c.loop-item.greatest k c.loop-item.invariant c.loop-item-test.true same c.requires no_row (inl w'.if-owner-rows.false)
          ] in
          subst (λ xs. AreLeft rows added before xs (k + 1)) (sym w.greatest-is) next
    ]
