-- A path of exchanges makes fresh what its last holder has.
-- Serves `exchanges_make_fresh`, `paths_make_fresh`, `uncut_exchanges_hand_on`, `Rings` and `SmallRings`.
use Rattle.run_laws.proofs.Common.{◌≡◌, ℕ, ◌+◌, ◌<◌, ◌≤◌, false, Some, inl, inr, refl, sym, ◌∙◌, subst, arith, Bool, true, if◌then◌else◌, slice_get, cases_eq, Exchange, Record, digest_kind, Settings, IsLawfulScenario, applied, table_of_node, DeltaView, digest_size, last_fate, sent_until, sent-uncut, round_list_of, IsSomeAnd}
use Rattle.bench_types.specs.declared.exchanges.Fate.TheVariants as fate
use Rattle.cluster.specs.Rounds.{rules_of}
use Rattle.played_rounds.specs.Soundness.{writes_by, tables_within}
use Rattle.run_laws.specs.Healing.{Moment, IsFreshAt, ExchangesMakeFresh, SendsOwnPartAt, AnswersWhole, table_at_moment}
use Rattle.run_laws.specs.Paths.{next_moment, SendsCopyAt, HandsOn, back, forth, UncutExchangesHandOn, IsReached, own, stays, handed, PathsMakeFresh}
use Rattle.run_laws.proofs.Moments.{comes_back, comes_forth, delta, folded, here, next_tables, not_after, placed, planned, record_at, sound, us}
use Rattle.run_laws.proofs.Healing.{copies_stay}
use Rattle.run_laws.proofs.Fresh.{HasAllOf, fresh_from, has_all}
use Rattle.run_laws.proofs.Spreads.{hands_on}

-- what a record tells of the messages that were lost, and of both deltas
abbrev recorded_of : (a b c : Bool) (d1 d2 : ℕ) (to_p to_q : DeltaView) → Record
recorded_of a b c = sent_until (if a then fate.Lost1 else (if b then fate.Lost2 else last_fate c))

answered_whole : (a b c : Bool) (d1 d2 : ℕ) (to_p to_q : DeltaView) → AnswersWhole (recorded_of a b c d1 d2 to_p to_q) → (a ≡ false) × (b ≡ false) × (to_p.cut ≡ 0)
answered_whole true b c d1 d2 to_p to_q is = absurd (is.first refl)
answered_whole false true c d1 d2 to_p to_q is = absurd (is.second refl)
answered_whole false false true d1 d2 to_p to_q is = (refl, refl, is.cut)
answered_whole false false false d1 d2 to_p to_q is = (refl, refl, is.cut)

ended_whole : (a b c : Bool) (d1 d2 : ℕ) (to_p to_q : DeltaView) → (recorded_of a b c d1 d2 to_p to_q).fate ≡ fate.Ok → (recorded_of a b c d1 d2 to_p to_q).forth_cut ≡ 0 → ((a ≡ false) × (b ≡ false) × (c ≡ false)) × (to_q.cut ≡ 0)
ended_whole true b c d1 d2 to_p to_q is none = cc
ended_whole false true c d1 d2 to_p to_q is none = cc
ended_whole false false true d1 d2 to_p to_q is none = cc
ended_whole false false false d1 d2 to_p to_q is none = ((refl, refl, refl), none)

module _ (s : Settings) (lawful : IsLawfulScenario s) where
  -- the exchange at a moment
  module _ (m : Moment) (e : Exchange) (first : 1 ≤ m.round) (listed : slice_get (round_list_of s m.round).exchanges m.exchanges ≡ Some e) where
    -- between its two nodes a fresh copy is handed on by a delta that comes
    spreads : (owner from to : ℕ) → owner < s.nodes → from < s.nodes → to < s.nodes
        → table_of_node (us s lawful m e first listed) to ≡ applied (table_at_moment s m to) (delta s lawful m e first listed from to).items
        → SendsCopyAt s m e.rotation owner from to → IsFreshAt s m from owner → IsFreshAt s (next_moment m) to owner
    spreads owner from to owner_in from_in to_in comes sends fresh = elim (cases_eq owner to) [
      | inl itself ↦ subst (λ n. IsFreshAt s (next_moment m) to n) (sym itself) (λ written key. refl)
      | inr other ↦
          fresh_from (writes_by s m.round) s.nodes s.keys (tables_within s m.round (m.exchanges + 1)) ((sound s lawful).within m.round (m.exchanges + 1) first).copies to owner to_in owner_in
          (subst (λ ts. HasAllOf owner (table_of_node ts to) (table_of_node ts owner)) (sym (next_tables s lawful m e first listed))
          (hands_on (rules_of s) s.nodes s.keys (folded s lawful m e first listed) e (planned s lawful m e first listed) (writes_by s m.round) (here s lawful m e first listed).copies (here s lawful m e first listed).no_gap
          from to owner from_in to_in owner_in other comes sends
          (has_all (writes_by s m.round) s.nodes s.keys (tables_within s m.round m.exchanges) (here s lawful m e first listed).copies from owner from_in owner_in fresh)))
    ]

    -- where nothing is cut each copy is sent
    pub all_sent : (owner from to : ℕ) → from < s.nodes → (delta s lawful m e first listed from to).cut ≡ 0 → SendsCopyAt s m e.rotation owner from to
    all_sent owner from to from_in none i own_item there =
        let tables = (here s lawful m e first listed).copies in
        sent-uncut s.mode (table_at_moment s m from) (table_at_moment s m to) e.rotation s.budget (tables.proper from (omega (arith, from_in, tables.tables.size)))
        (omega (arith, (planned s lawful m e first listed).rotation, (tables.tables.tables from from_in).nodes)) none i there

    -- so its record says enough
    pub hands_on_recorded : (owner : ℕ) → (AnswersWhole (record_at s m e) → HandsOn s m owner e.responder e.initiator) × ((record_at s m e).fate ≡ fate.Ok → (record_at s m e).forth_cut ≡ 0 → HandsOn s m owner e.initiator e.responder)
    hands_on_recorded owner =
        let meet = planned s lawful m e first listed in
        let size : ℕ → ℕ = λ n. digest_size (digest_kind s.mode) (table_at_moment s m n) in (
          λ whole.
              let said = answered_whole e.lost1 e.lost2 e.lost3 (size e.initiator) (size e.responder) (delta s lawful m e first listed e.responder e.initiator) (delta s lawful m e first listed e.initiator e.responder) whole in
              back e listed said.0 said.1 (all_sent owner e.responder e.initiator meet.responder said.2),
          λ is_ok none.
              let said = ended_whole e.lost1 e.lost2 e.lost3 (size e.initiator) (size e.responder) (delta s lawful m e first listed e.responder e.initiator) (delta s lawful m e first listed e.initiator e.responder) is_ok none in
              forth e listed said.0 (all_sent owner e.initiator e.responder meet.initiator said.1),
        )

    -- a node's own part is its copy of itself
    own_sent : (from to : ℕ) → from < s.nodes → SendsOwnPartAt s m e.rotation from to → SendsCopyAt s m e.rotation from from to
    own_sent from to from_in sends i of_owner = sends i (of_owner ∙ sym ((here s lawful m e first listed).copies.tables.tables from from_in).node)

  -- a path runs through nodes alone, in rounds alone
  in_rounds : (owner : ℕ) → owner < s.nodes → (m : Moment) (holder : ℕ) → IsReached s owner m holder → (1 ≤ m.round) × (holder < s.nodes)
  in_rounds owner owner_in _ _ (own m first) = (first, owner_in)
  in_rounds owner owner_in _ _ (stays m n holder reached upto leaves) =
      let before = in_rounds owner owner_in m holder reached in (omega (arith, before.0, not_after m n upto), before.1)
  in_rounds owner owner_in _ _ (handed m from to reached (back e listed came1 came2 sends)) =
      let before = in_rounds owner owner_in m from reached in (before.0, (planned s lawful m e before.0 listed).initiator)
  in_rounds owner owner_in _ _ (handed m from to reached (forth e listed came sends)) =
      let before = in_rounds owner owner_in m from reached in (before.0, (planned s lawful m e before.0 listed).responder)

  pub paths_fresh : PathsMakeFresh s
  paths_fresh owner owner_in _ _ (own m first) = λ written key. refl
  paths_fresh owner owner_in _ _ (stays m n holder reached upto leaves) =
      let before = in_rounds owner owner_in m holder reached in
      copies_stay s lawful m n holder owner before.0 before.1 owner_in upto leaves (paths_fresh owner owner_in m holder reached)
  paths_fresh owner owner_in _ _ (handed m from to reached (back e listed came1 came2 sends)) =
      let first = (in_rounds owner owner_in m from reached).0 in
      let meet = planned s lawful m e first listed in
      spreads m e first listed owner e.responder e.initiator owner_in meet.responder meet.initiator (comes_back s lawful m e first listed came1 came2) sends (paths_fresh owner owner_in m from reached)
  paths_fresh owner owner_in _ _ (handed m from to reached (forth e listed came sends)) =
      let first = (in_rounds owner owner_in m from reached).0 in
      let meet = planned s lawful m e first listed in
      spreads m e first listed owner e.initiator e.responder owner_in meet.initiator meet.responder (comes_forth s lawful m e first listed came) sends (paths_fresh owner owner_in m from reached)

  -- one exchange is a path from either of its nodes to the other
  pub exchanges_fresh : ExchangesMakeFresh s
  exchanges_fresh m e first listed =
      let meet = planned s lawful m e first listed in
      record {
        initiator = λ came1 came2 sends.
            paths_fresh e.responder meet.responder (next_moment m) e.initiator (handed m e.responder e.initiator (own m first) (back e listed came1 came2 (own_sent m e first listed e.responder e.initiator meet.responder sends)));
        responder = λ came sends.
            paths_fresh e.initiator meet.initiator (next_moment m) e.responder (handed m e.initiator e.responder (own m first) (forth e listed came (own_sent m e first listed e.initiator e.responder meet.initiator sends)));
      }

  pub exchanges_hand_on : UncutExchangesHandOn s
  exchanges_hand_on m e owner first listed =
      subst (λ o. IsSomeAnd o (λ r. (AnswersWhole r → HandsOn s m owner e.responder e.initiator) × (r.fate ≡ fate.Ok → r.forth_cut ≡ 0 → HandsOn s m owner e.initiator e.responder)))
      (sym (placed s lawful m e first listed)) (hands_on_recorded m e first listed owner)
