use Rattle.node_table.proofs.Common.{◌≡◌, ℕ, ◌+◌, ◌&&◌, cond, sym, ap, ◌∙◌, arith, add-one, eq-eqb, ne_eqb, Mark, greatest_version}
use Rattle.node_table.specs.NodeTableView.{NodeTableView, comes_in, needs_block, blocks_below}
use Rattle.node_table.proofs.Room.{needs-le}
use Rattle.node_table.proofs.tables.NodeTable.blocks_for.Goals as goal
use Rattle.node_table.proofs.tables.NodeTable.blocks_for.Goals.{then-greatest-eq0+then-comes_in, else-greatest-eq0, else-greatest-eq0-via-then-greatest-eq0+else-comes_in, else-greatest-eq0-via-else-greatest-eq0}

abbrev version_of : Mark → ℕ
version_of m = m.version

pub loop-owner-preserved : goal.loop-owner-preserved
loop-owner-preserved c =
    let t = c.args.self.now.table in
    let added = c.args.added.now in
    let owner = c.loop-owner.owner in
    let needed : c.loop-owner.blocks + needs_block (greatest_version t) added owner ≡ c.if-greatest-eq0.blocks = elim c.if-greatest-eq0.branch [
      | then-greatest-eq0+then-comes_in w ↦
          let none = eq-eqb (greatest_version t owner) 0 (sym (ap version_of c.greatest.ensures) ∙ w.if-greatest-eq0.true) in
          let one : needs_block (greatest_version t) added owner ≡ 1 = ap (λ b. cond (b && comes_in added owner) 1 0) none ∙ ap (λ b. cond b 1 0) (sym w.comes_in.ensures ∙ w.if-comes_in.true) in
          omega (arith, one, w.blocks-is)
      | else-greatest-eq0 w ↦
          let zero_needed : needs_block (greatest_version t) added owner ≡ 0 = elim w.else-greatest-eq0.branch [
            | else-greatest-eq0-via-then-greatest-eq0+else-comes_in w' ↦
                ap (λ b. cond (b && comes_in added owner) 1 0) (eq-eqb (greatest_version t owner) 0 (sym (ap version_of c.greatest.ensures) ∙ w'.if-greatest-eq0.true))
                ∙ ap (λ b. cond b 1 0) (sym w'.comes_in.ensures ∙ w'.if-comes_in.false)
            | else-greatest-eq0-via-else-greatest-eq0 w' ↦
                ap (λ b. cond (b && comes_in added owner) 1 0) (ne_eqb (greatest_version t owner) 0 (λ none. w'.if-greatest-eq0.false (ap version_of c.greatest.ensures ∙ none)))
          ] in
          omega (arith, zero_needed, w.blocks-is)
    ] in
    record {
      counted = sym needed ∙ ap (λ n. n + needs_block (greatest_version t) added owner) c.loop-owner.invariant.counted ∙ ap (blocks_below (greatest_version t) added) (sym (add-one owner));
      fits = omega (arith, c.loop-owner.invariant.fits, needed, needs-le (greatest_version t) added owner);
    }

pub returns : goal.returns
returns c =
    let nodes = ap (λ (v : NodeTableView). v.table.nodes) c.self.view_is in
    let at_end : c.loop-owner.owner ≡ c.args.self.now.table.nodes = omega (arith, c.loop-owner-test.false, c.loop-owner.auto.owner-end, nodes) in
    c.loop-owner.invariant.counted ∙ ap (blocks_below (greatest_version c.args.self.now.table) c.args.added.now) at_end
