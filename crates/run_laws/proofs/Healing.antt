-- How long copies of a run stay fresh.
-- Serves `fresh_copies_stay` and `Paths`.
use Rattle.run_laws.proofs.Common.{◌≡◌, ℕ, ◌-◌, ◌<◌, ◌≤◌, true, false, if◌then◌else◌, List, Some, sym, ap, ◌∙◌, subst, arith, Entry, Settings, IsLawfulScenario, Table, entry_at, with_own_writes, without_others, without_all, IsProper, table_of_node, AreCopiesOf, WritesBy, before_keeps_own, entry_at-without_all, entry_at-without_others_own, forgets_now, restarts_now, round_list_of, planned_list}
use Rattle.cluster.specs.Rounds.{after_restart, begun, rules_of, tables_after}
use Rattle.played_rounds.specs.Soundness.{writes_by, tables_within}
use Rattle.run_laws.specs.Healing.{LeavesCopy, FreshCopiesStay}
use Rattle.cluster.proofs.Begins.{begun_at}
use Rattle.run_laws.proofs.Moments.{not_after, sound, stays}
use Rattle.run_laws.proofs.Fresh.{HasAllOf, all_stays, fresh_from, has_all}

module _ (s : Settings) (lawful : IsLawfulScenario s) where
  -- the tables with which a round begins
  abbrev first_tables : ℕ → List Table
  first_tables round = begun s round (tables_after s (round - 1))

  -- a node and an owner
  module _ (holder owner : ℕ) (in_nodes : holder < s.nodes) (owner_in : owner < s.nodes) where
    -- the node has all of the owner's own part, among these tables
    abbrev HasAll : List Table → Type 0
    HasAll ts = HasAllOf owner (table_of_node ts holder) (table_of_node ts owner)

    holder_proper : (writes : WritesBy) (ts : List Table) → AreCopiesOf writes s.nodes s.keys ts → IsProper (table_of_node ts holder)
    holder_proper writes ts copies = copies.proper holder (omega (arith, in_nodes, copies.tables.size))

    -- from one exchange of a round to a later one
    stays_within : (round i j : ℕ) → 1 ≤ round → i ≤ j → HasAll (tables_within s round i) → HasAll (tables_within s round j)
    stays_within round i j first le =
        all_stays (writes_by s round) s.nodes s.keys (tables_within s round i) (tables_within s round j) ((sound s lawful).within round j first).copies holder owner in_nodes owner_in
        (holder_proper (writes_by s round) (tables_within s round i) ((sound s lawful).within round i first).copies)
        (λ key e held. own_at i key ∙ sym (own_at j key) ∙ held)
        ((sound s lawful).exchanges round i j first le holder)
      where
        begins : AreCopiesOf (writes_by s round) s.nodes s.keys (first_tables round)
        begins = ((sound s lawful).within round 0 first).copies

        own_at : (k key : ℕ) → entry_at (table_of_node (tables_within s round k) owner) owner key ≡ entry_at (table_of_node (first_tables round) owner) owner key
        own_at k key =
            subst (λ n. entry_at (table_of_node (tables_within s round k) owner) n key ≡ entry_at (table_of_node (first_tables round) owner) n key)
            (begins.tables.tables owner owner_in).node
            ((before_keeps_own (rules_of s) s.nodes s.keys (round_list_of s round).exchanges (first_tables round) (planned_list s round lawful.nodes.0) begins.tables k owner).own_part key)

    -- and through the beginning of a round that leaves it
    module _ (round : ℕ) (first : 1 ≤ round) (leaves : LeavesCopy s holder owner round) where
      abbrev t : Table
      t = table_of_node (tables_after s (round - 1)) owner

      t_node : t.node ≡ owner
      t_node = (((sound s lawful).after (round - 1)).copies.tables.tables owner owner_in).node

      -- what an owner still has of itself it had before
      restarted_own : (key : ℕ) (e : Entry) → entry_at (after_restart s round owner t) owner key ≡ Some e → entry_at t owner key ≡ Some e
      restarted_own key e = elim (forgets_now s owner round) as (λ b. entry_at (if b then without_all t else (if restarts_now s owner round then without_others t else t)) owner key ≡ Some e → entry_at t owner key ≡ Some e) [
        | true ↦ λ held. let none = sym (entry_at-without_all t owner key) ∙ held in cc
        | false ↦ elim (restarts_now s owner round) as (λ b. entry_at (if b then without_others t else t) owner key ≡ Some e → entry_at t owner key ≡ Some e) [
          | true ↦ λ held. sym (subst (λ n. entry_at (without_others t) n key ≡ entry_at t n key) t_node (entry_at-without_others_own t key)) ∙ held
          | false ↦ λ held. held
        ]
      ]

      begun_own : HasAllOf owner t (table_of_node (first_tables round) owner)
      begun_own key e held =
          restarted_own key e
          (sym (ap (λ (u : Table). entry_at u owner key) (begun_at s round (tables_after s (round - 1)) owner owner_in ∙ ap (with_own_writes (after_restart s round owner t)) leaves.unwritten)) ∙ held)

      stays_begun : HasAll (tables_after s (round - 1)) → HasAll (tables_within s round 0)
      stays_begun =
          all_stays (writes_by s round) s.nodes s.keys (tables_after s (round - 1)) (tables_within s round 0) ((sound s lawful).within round 0 first).copies holder owner in_nodes owner_in
          (holder_proper (writes_by s (round - 1)) (tables_after s (round - 1)) ((sound s lawful).after (round - 1)).copies)
          begun_own
          ((sound s lawful).begins round first holder leaves.kept)

  pub copies_stay : FreshCopiesStay s
  copies_stay m n holder owner first in_nodes owner_in upto leaves fresh =
      fresh_from (writes_by s n.round) s.nodes s.keys (tables_within s n.round n.exchanges) ((sound s lawful).within n.round n.exchanges (omega (arith, first, not_after m n upto))).copies holder owner in_nodes owner_in
      (stays s lawful (HasAll holder owner in_nodes owner_in) (LeavesCopy s holder owner) (stays_within holder owner in_nodes owner_in) (stays_begun holder owner in_nodes owner_in) m n first upto leaves
      (has_all (writes_by s m.round) s.nodes s.keys (tables_within s m.round m.exchanges) ((sound s lawful).within m.round m.exchanges first).copies holder owner in_nodes owner_in fresh))
