-- In a run that has cut nothing a path of exchanges brings all that its owner had written when it began.
-- Serves `uncut_paths_catch_up` and `Bounds`.
use Rattle.run_laws.proofs.Common.{◌≡◌, ◌≢◌, ℕ, ◌-◌, ◌<◌, ◌≤◌, false, Some, sym, ap, ◌∙◌, subst, arith, slice_get, Exchange, IsUpTo, up_to-itself, up_to-then, Settings, IsLawfulScenario, Table, applied, greatest_mark, table_of_node, LosesNothing, restarts_now, round_list_of, All, Bool, List, inl, inr, refl, true, Entry, written_rises, greatest_mark-without_others_own, proper-without_others, AreCopiesOf, IsProper, with_own_writes, without_all, without_others, keys-own_writes, forgets_now, count_before, own_writes, if◌then◌else◌}
use Rattle.run_laws.specs.CatchingUp.{KeepsCopy, IsPassedOn, begins, keeps, passed_back, passed_forth, UncutPathsCatchUp}
use Rattle.run_laws.specs.Floors.{CutsNothingBefore}
use Rattle.run_laws.specs.Healing.{Moment, IsUpToMoment, table_at_moment}
use Rattle.run_laws.specs.Paths.{next_moment}
use Rattle.cluster.specs.Rounds.{after_restart, rules_of, tables_after}
use Rattle.played_rounds.specs.Soundness.{writes_by, tables_within}
use Rattle.cluster.proofs.Begins.{begun_at}
use Rattle.run_laws.proofs.Floors.{copies_are_states}
use Rattle.run_laws.proofs.Moments.{comes_back, comes_forth, cut_back, cut_forth, delta, folded, here, moments_then, next_tables, not_after, placed, planned, record_at, sound, stays, us}
use Rattle.run_laws.proofs.StateFolds.{CutsNothing, MissNone, brought}

module _ (s : Settings) (lawful : IsLawfulScenario s) where
  -- an owner that doesn't forget as a round begins doesn't lose its own greatest mark
  begins_own : (owner round : ℕ) → owner < s.nodes → 1 ≤ round → forgets_now s owner round ≡ false
      → IsUpTo (greatest_mark (table_of_node (tables_after s (round - 1)) owner) owner) (greatest_mark (table_of_node (tables_within s round 0) owner) owner)
  begins_own owner round owner_in first stays_it =
      subst (λ (v : Table). IsUpTo (greatest_mark t owner) (greatest_mark v owner)) (sym (begun_at s round (tables_after s (round - 1)) owner owner_in))
      (subst (λ m. IsUpTo m (greatest_mark (with_own_writes u writes) owner)) restarted_same
      ((written_rises writes u proper keys).greatest owner))
    where
      t : Table
      t = table_of_node (tables_after s (round - 1)) owner

      u : Table
      u = after_restart s round owner t

      writes : List Entry
      writes = own_writes s owner round (count_before s owner round)

      before : AreCopiesOf (writes_by s (round - 1)) s.nodes s.keys (tables_after s (round - 1))
      before = ((sound s lawful).after (round - 1)).copies

      restart_if : Bool → Table
      restart_if restarts = if restarts then without_others t else t

      u_is : u ≡ restart_if (restarts_now s owner round)
      u_is = ap (λ b. if b then without_all t else restart_if (restarts_now s owner round)) stays_it

      same_if : (b : Bool) → (greatest_mark (restart_if b) owner ≡ greatest_mark t owner) × IsProper (restart_if b) × ((restart_if b).keys ≡ t.keys)
      same_if true = (
        subst (λ n. greatest_mark (without_others t) n ≡ greatest_mark t n) (before.tables.tables owner owner_in).node (greatest_mark-without_others_own t),
        proper-without_others t (before.proper owner (omega (arith, owner_in, before.tables.size))),
        refl,
      )
      same_if false = (refl, before.proper owner (omega (arith, owner_in, before.tables.size)), refl)

      restarted_same : greatest_mark u owner ≡ greatest_mark t owner
      restarted_same = ap (λ (v : Table). greatest_mark v owner) u_is ∙ (same_if (restarts_now s owner round)).0

      proper : IsProper u
      proper = subst IsProper (sym u_is) (same_if (restarts_now s owner round)).1

      keys : All (λ e. e.key < u.keys) writes
      keys = subst (λ k. All (λ (e : Entry). e.key < k) writes) (sym (ap (λ (v : Table). v.keys) u_is ∙ (same_if (restarts_now s owner round)).2 ∙ (before.tables.tables owner owner_in).keys)) (keys-own_writes s owner round (count_before s owner round) (omega (arith, lawful.keys.0)))

  -- a node's greatest mark of an owner doesn't fall from one moment to another between which it keeps its copy
  between : (holder owner : ℕ) → owner < s.nodes → (m n : Moment) → 1 ≤ m.round → IsUpToMoment m n → ((round : ℕ) → m.round < round → round ≤ n.round → KeepsCopy s holder owner round) → IsUpTo (greatest_mark (table_at_moment s m holder) owner) (greatest_mark (table_at_moment s n holder) owner)
  between holder owner owner_in m n first upto kept =
      stays s lawful (λ ts. IsUpTo (greatest_mark (table_at_moment s m holder) owner) (greatest_mark (table_of_node ts holder) owner)) (KeepsCopy s holder owner)
      (λ round i j later le so_far. further (tables_within s round i) (tables_within s round j) so_far (((sound s lawful).exchanges round i j later le holder).greatest owner))
      (λ round later keeps_it so_far. further (tables_after s (round - 1)) (tables_within s round 0) so_far (begins_with round later keeps_it))
      m n first upto kept (up_to-itself (greatest_mark (table_at_moment s m holder) owner))
    where
      further : (ts us : List Table) → IsUpTo (greatest_mark (table_at_moment s m holder) owner) (greatest_mark (table_of_node ts holder) owner) → IsUpTo (greatest_mark (table_of_node ts holder) owner) (greatest_mark (table_of_node us holder) owner) → IsUpTo (greatest_mark (table_at_moment s m holder) owner) (greatest_mark (table_of_node us holder) owner)
      further ts us = up_to-then (greatest_mark (table_at_moment s m holder) owner) (greatest_mark (table_of_node ts holder) owner) (greatest_mark (table_of_node us holder) owner)

      begins_with : (round : ℕ) → 1 ≤ round → KeepsCopy s holder owner round → IsUpTo (greatest_mark (table_of_node (tables_after s (round - 1)) holder) owner) (greatest_mark (table_of_node (tables_within s round 0) holder) owner)
      begins_with round later (inl stays_up) = ((sound s lawful).begins round later holder stays_up).greatest owner
      begins_with round later (inr (own, stays_it)) =
          subst (λ n. IsUpTo (greatest_mark (table_of_node (tables_after s (round - 1)) n) owner) (greatest_mark (table_of_node (tables_within s round 0) n) owner)) (sym own) (begins_own owner round owner_in later (subst (λ n. forgets_now s n round ≡ false) own stays_it))

  uncut_upto : (m n : Moment) → IsUpToMoment m n → CutsNothingBefore s n → CutsNothingBefore s m
  uncut_upto m n upto none l r first before = none l r first (moments_then (next_moment l) m n before upto)

  -- one exchange that the owner's copy is passed on by
  module _ (owner : ℕ) (owner_in : owner < s.nodes) (m : Moment) (first : 1 ≤ m.round) (none : CutsNothingBefore s (next_moment m)) (e : Exchange) (listed : slice_get (round_list_of s m.round).exchanges m.exchanges ≡ Some e) where
    states : MissNone s.nodes (writes_by s m.round) (tables_within s m.round m.exchanges)
    states n o lt o_in = (copies_are_states s lawful.nodes.0 lawful.nodes.1 lawful.keys.0 lawful.keys.1 m first (uncut_upto m (next_moment m) (inr (refl, omega arith)) none) n o lt o_in).last

    uncut : CutsNothing (record_at s m e)
    uncut = none m (record_at s m e) first (inr (refl, omega arith)) (placed s lawful m e first listed)

    passes : (from to : ℕ) → from < s.nodes → to < s.nodes → owner ≢ to
        → table_of_node (us s lawful m e first listed) to ≡ applied (table_at_moment s m to) (delta s lawful m e first listed from to).items → (delta s lawful m e first listed from to).cut ≡ 0
        → IsUpTo (greatest_mark (table_at_moment s m from) owner) (greatest_mark (table_at_moment s (next_moment m) to) owner)
    passes from to from_in to_in other comes uncut_delta =
        subst (λ (t : Table). IsUpTo (greatest_mark (table_at_moment s m from) owner) (greatest_mark t owner))
        (sym (ap (λ ts. table_of_node ts to) (next_tables s lawful m e first listed) ∙ comes))
        (brought (rules_of s) s.nodes s.keys (folded s lawful m e first listed) e (planned s lawful m e first listed) (writes_by s m.round) (here s lawful m e first listed).copies states from to owner from_in to_in owner_in other uncut_delta).greatest

    passes_back : e.lost1 ≡ false → e.lost2 ≡ false → owner ≢ e.initiator → IsUpTo (greatest_mark (table_at_moment s m e.responder) owner) (greatest_mark (table_at_moment s (next_moment m) e.initiator) owner)
    passes_back came1 came2 other =
        passes e.responder e.initiator (planned s lawful m e first listed).responder (planned s lawful m e first listed).initiator other (comes_back s lawful m e first listed came1 came2) (sym (cut_back s lawful m e first listed came1 came2) ∙ uncut.0)

    passes_forth : LosesNothing e → owner ≢ e.responder → IsUpTo (greatest_mark (table_at_moment s m e.initiator) owner) (greatest_mark (table_at_moment s (next_moment m) e.responder) owner)
    passes_forth came other =
        passes e.initiator e.responder (planned s lawful m e first listed).initiator (planned s lawful m e first listed).responder other (comes_forth s lawful m e first listed came) (sym (cut_forth s lawful m e first listed came) ∙ uncut.1)

  -- a path is in rounds from its start on
  not_before : (owner : ℕ) (start m : Moment) (holder : ℕ) → IsPassedOn s owner start m holder → start.round ≤ m.round
  not_before owner start _ _ begins = omega arith
  not_before owner start _ _ (keeps m n holder path upto kept) = omega (arith, not_before owner start m holder path, not_after m n upto)
  not_before owner start _ _ (passed_back m e path listed came1 came2 other) = not_before owner start m e.responder path
  not_before owner start _ _ (passed_forth m e path listed came other) = not_before owner start m e.initiator path

  pub paths_catch_up : UncutPathsCatchUp s
  paths_catch_up owner owner_in start _ _ first none begins = up_to-itself (greatest_mark (table_at_moment s start owner) owner)
  paths_catch_up owner owner_in start _ _ first none (keeps m n holder path upto kept) =
      up_to-then (greatest_mark (table_at_moment s start owner) owner) (greatest_mark (table_at_moment s m holder) owner) (greatest_mark (table_at_moment s n holder) owner)
      (paths_catch_up owner owner_in start m holder first (uncut_upto m n upto none) path)
      (between holder owner owner_in m n (omega (arith, first, not_before owner start m holder path)) upto kept)
  paths_catch_up owner owner_in start _ _ first none (passed_back m e path listed came1 came2 other) =
      up_to-then (greatest_mark (table_at_moment s start owner) owner) (greatest_mark (table_at_moment s m e.responder) owner) (greatest_mark (table_at_moment s (next_moment m) e.initiator) owner)
      (paths_catch_up owner owner_in start m e.responder first (uncut_upto m (next_moment m) (inr (refl, omega arith)) none) path)
      (passes_back owner owner_in m (omega (arith, first, not_before owner start m e.responder path)) none e listed came1 came2 other)
  paths_catch_up owner owner_in start _ _ first none (passed_forth m e path listed came other) =
      up_to-then (greatest_mark (table_at_moment s start owner) owner) (greatest_mark (table_at_moment s m e.initiator) owner) (greatest_mark (table_at_moment s (next_moment m) e.responder) owner)
      (paths_catch_up owner owner_in start m e.initiator first (uncut_upto m (next_moment m) (inr (refl, omega arith)) none) path)
      (passes_forth owner owner_in m (omega (arith, first, not_before owner start m e.initiator path)) none e listed came other)
