use Rattle.node_table.proofs.Common.{◌≡◌, ℕ, List, length, sym, ap, ◌∙◌, subst, arith, with_items, with_items_is, Item, greatest_version}
use Rattle.node_table.specs.Entries.{AreGreatest}
use Rattle.node_table.specs.NodeTableView.{blocks_below, blocks_for}
use Rattle.node_table.specs.inner.Flags.{AreFlagged, AreUnflagged}
use Rattle.node_table.specs.inner.Layouts.{table_laid, IsLayout}
use Rattle.node_table.specs.declared.layouts.Layout.{Layout}
use Rattle.node_table.proofs.Flags.{version_in, greatest_again}
use Rattle.node_table.proofs.Room.{blocks-same}
use Rattle.node_table.proofs.layouts.Layout.blocks_for.Goals as goal

-- the blocks by the list of greatest versions
blocks_are : (l : Layout) (sound : IsLayout l) (versions : List ℕ) (added : List Item) → versions ≡ l.greatest.items → blocks_below (version_in versions) added (length versions) ≡ blocks_for (table_laid l) added
blocks_are l sound versions added is =
    ap (λ xs. blocks_below (version_in xs) added (length xs)) is
    ∙ ap (blocks_below (version_in l.greatest.items) added) sound.greatest.count
    ∙ blocks-same (version_in l.greatest.items) (greatest_version (table_laid l)) added l.nodes (λ owner lt. sound.greatest.greatest owner lt)

pub returns-then-blocks-gt0-clause-layout : goal.returns-then-blocks-gt0-clause-layout
returns-then-blocks-gt0-clause-layout c =
    let l = c.args.self.now in
    let added = c.args.added.now in
    let marked : List ℕ = c.flag_new-blocks.new.greatest in
    let after : List ℕ = c.unflag.new.greatest in
    let len : length marked ≡ length l.greatest.items = omega (arith, c.flag_new-blocks.auto.greatest, ap length c.deref_mut.ensures.value) in
    let marked_is = with_items_is l.greatest marked (omega (arith, len, l.greatest.ok.0)) in
    let lent = c.deref_mut-then-blocks-gt0.ensures.value ∙ marked_is in
    let len' : length after ≡ length marked = omega (arith, c.unflag.auto.greatest, ap length lent) in
    let after_is = with_items_is (with_items l.greatest marked) after (omega (arith, len, len', l.greatest.ok.0)) in
    let are_flagged = subst (λ xs. AreFlagged added xs marked) c.deref_mut.ensures.value c.flag_new-blocks.ensures.flagged in
    let are_unflagged = subst (λ xs. AreUnflagged l.rows.items added xs after) lent (subst (λ rows. AreUnflagged rows added c.deref_mut-then-blocks-gt0.result.now after) c.deref.ensures.value c.unflag.ensures) in
    record {
      proper = c.requires.proper;
      laid = c.requires.laid;
      greatest = subst (AreGreatest (table_laid l)) (sym after_is) (greatest_again l c.requires added marked after are_flagged are_unflagged len len');
      generations = c.requires.generations;
      room = c.requires.room;
      counted = c.requires.counted;
    }

pub returns-then-blocks-gt0-clause-blocks : goal.returns-then-blocks-gt0-clause-blocks
returns-then-blocks-gt0-clause-blocks c = c.flag_new-blocks.ensures.blocks ∙ blocks_are c.args.self.now c.requires c.deref_mut.result.now c.args.added.now c.deref_mut.ensures.value

pub returns-else-blocks-gt0-clause-blocks : goal.returns-else-blocks-gt0-clause-blocks
returns-else-blocks-gt0-clause-blocks c = c.flag_new-blocks.ensures.blocks ∙ blocks_are c.args.self.now c.requires c.deref_mut.result.now c.args.added.now c.deref_mut.ensures.value
