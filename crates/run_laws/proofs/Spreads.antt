-- A copy that has all of its owner's own part hands it on by a delta of which nothing of that owner is cut.
-- Serves `Paths`.
use Rattle.run_laws.proofs.Common.{◌≡◌, ◌≢◌, ℕ, ◌<◌, ◌≤◌, List, Some, refl, sym, ◌∙◌, subst, arith, Exchange, Rules, IsPlanned, mark_of, mark_held, IsUpTo, up_to-itself}
use Rattle.model.specs.Table.{Table, applied, entry_at, mark_at, generation_held}
use Rattle.model.specs.Tables.{table_of_node}
use Rattle.model.specs.Candidates.{IsScuttleMode}
use Rattle.model.specs.Clusters.{AreCopiesOf, HaveNoGap}
use Rattle.model.specs.Copies.{WritesBy}
use Rattle.model.specs.Deltas.{delta_between}
use Rattle.model.specs.Folds.{Folded, exchange_in}
use Rattle.model.specs.Spreads.{SendsCopy}
use Rattle.model.proofs.FoldLaws.{step_copies, step_keeps_own}
use Rattle.run_laws.proofs.Fresh.{HasAllOf, caught_up, no_newer, own_generation}
use Rattle.run_laws.proofs.StateFolds.{proper_at, same_nodes, same_keys}
use Rattle.run_laws.proofs.States.{reaches}

module _ (rules : Rules) (nodes keys : ℕ) (s : Folded) (e : Exchange) (planned : IsPlanned nodes e) (writes : WritesBy) (copies : AreCopiesOf writes nodes keys s.tables) (gapless : IsScuttleMode rules.mode → HaveNoGap s.tables) where
  abbrev at : ℕ → Table
  at n = table_of_node s.tables n

  abbrev us : List Table
  us = (exchange_in rules s e).tables

  copies_then : AreCopiesOf writes nodes keys us
  copies_then = step_copies rules nodes keys s e planned writes copies

  -- from one of the two to the other, whose table becomes this
  module _ (from to owner : ℕ) (from_in : from < nodes) (to_in : to < nodes) (owner_in : owner < nodes) (other : owner ≢ to) (becomes : table_of_node us to ≡ applied (at to) (delta_between rules.mode e.rotation rules.budget (at from) (at to)).items) (sends : SendsCopy rules e.rotation owner (at from) (at to)) (has : HasAllOf owner (at from) (at owner)) where
    pub hands_on : HasAllOf owner (table_of_node us to) (table_of_node us owner)
    hands_on key x current =
        caught_up writes nodes keys us copies_then to owner to_in owner_in key x current
        (subst (λ (t : Table). IsUpTo (mark_of x) (mark_at t owner key)) (sym becomes)
        (reaches rules e.rotation (at from) (at to) (proper_at writes nodes keys s.tables copies from from_in) (proper_at writes nodes keys s.tables copies to to_in) (same_nodes writes nodes keys s.tables copies from to from_in to_in) (same_keys writes nodes keys s.tables copies from to from_in to_in) owner
        (λ same. other (same ∙ (copies.tables.tables to to_in).node)) key x (has key x before)
        (sends (record { owner = owner; entry = x }) refl)
        (λ scuttle _ up. subst (λ h. IsUpTo (mark_of x) (mark_held h)) (sym (gapless scuttle to (omega (arith, to_in, copies.tables.size)) owner key x before up)) (up_to-itself (mark_of x)))
        limit))
      where
        own_node : (at owner).node ≡ owner
        own_node = (copies.tables.tables owner owner_in).node

        before : entry_at (at owner) owner key ≡ Some x
        before = subst (λ n. entry_at (at owner) n key ≡ Some x) own_node
            (sym ((step_keeps_own rules nodes keys s e planned copies.tables owner).own_part key) ∙ subst (λ n. entry_at (table_of_node us owner) n key ≡ Some x) (sym own_node) current)

        limit : generation_held (applied (at to) (delta_between rules.mode e.rotation rules.budget (at from) (at to)).items) owner ≤ x.generation
        limit = omega (
          arith,
          subst (λ (t : Table). generation_held t owner ≤ (table_of_node us owner).generation) becomes (no_newer writes nodes keys us copies_then to owner to_in owner_in),
          own_generation writes nodes keys us copies_then to owner to_in owner_in key x current,
        )
