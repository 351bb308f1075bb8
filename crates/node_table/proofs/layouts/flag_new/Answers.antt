use Rattle.node_table.proofs.Common.{◌≡◌, ◌+◌, length, set, get_or, sym, ap, subst, inl, inr, arith, drop_of_length-le, no_item}
use Rattle.node_table.specs.NodeTableView.{blocks_below}
use Rattle.node_table.proofs.Room.{blocks-nil}
use Rattle.node_table.proofs.Flags.{version_in, AreSet, set_none, set_one}
use Rattle.node_table.proofs.layouts.flag_new.Goals as goal
use Rattle.node_table.proofs.layouts.flag_new.Goals.{then-owner-greatest+then-greatest-owner-eq0, else-owner-greatest, else-owner-greatest-via-then-owner-greatest+else-greatest-owner-eq0, else-owner-greatest-via-else-owner-greatest}

pub loop-item-preserved : goal.loop-item-preserved
loop-item-preserved c =
    let added = c.args.added.now in
    let before = c.args.greatest.now in
    let k = c.loop-item.item-index in
    let same : length c.loop-item.greatest ≡ length before = c.loop-item.auto.greatest in
    elim c.if-owner-greatest.branch [
      | then-owner-greatest+then-greatest-owner-eq0 w ↦
          let next = set_one added before c.loop-item.greatest c.loop-item.blocks k c.loop-item.invariant c.loop-item-test.true same (omega (arith, w.if-owner-greatest.true, same)) w.if-greatest-owner-eq0.true in
          subst (λ xs. AreSet added before xs c.if-owner-greatest.blocks (k + 1)) (sym w.greatest-is) (subst (λ n. AreSet added before (set c.loop-item.greatest (get_or added k no_item).owner 1) n (k + 1)) (sym w.blocks-is) next)
      | else-owner-greatest w ↦
          let next : AreSet added before c.loop-item.greatest c.loop-item.blocks (k + 1) = elim w.else-owner-greatest.branch [
            | else-owner-greatest-via-then-owner-greatest+else-greatest-owner-eq0 w' ↦ set_none added before c.loop-item.greatest c.loop-item.blocks k c.loop-item.invariant c.loop-item-test.true same (inr w'.if-greatest-owner-eq0.false)
            | else-owner-greatest-via-else-owner-greatest w' ↦ set_none added before c.loop-item.greatest c.loop-item.blocks k c.loop-item.invariant c.loop-item-test.true same (inl (omega (arith, w'.if-owner-greatest.false, same)))
          ] in
          subst (λ xs. AreSet added before xs c.if-owner-greatest.blocks (k + 1)) (sym w.greatest-is) (subst (λ n. AreSet added before c.loop-item.greatest n (k + 1)) (sym w.blocks-is) next)
    ]

pub returns-clause-blocks : goal.returns-clause-blocks
returns-clause-blocks c =
    let none = blocks-nil (version_in c.loop-item.greatest) (length c.args.greatest.now) in
    let past = drop_of_length-le c.args.added.now c.loop-item-test.false in
    omega (arith, c.loop-item.invariant.counted, ap (λ is. blocks_below (version_in c.loop-item.greatest) is (length c.args.greatest.now)) past, none)
