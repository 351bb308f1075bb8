-- The moments of a run: what the exchange at one of them does, and what stays from one to a later one.
-- Serves most of the crate.
use Rattle.run_laws.proofs.Common.{◌≡◌, ℕ, zero, suc, ◌+◌, ◌-◌, ◌<◌, ◌≤◌, Bool, true, false, if◌then◌else◌, List, [], length, take, drop, fold, get_or, Some, inl, inr, refl, sym, ap, ◌∙◌, subst, arith, slice_get, Contains, take-append-drop, take_all, fold-append, fold_more, get_or_from_slice_get, slice_get_within, Exchange, digest_kind, IsPlanned, Settings, IsLawfulScenario, Table, applied, table_of_node, DeltaView, delta_between, digest_size, LosesNothing, fate_of, initiator_after, last_fate, responder_after, sent_until, Folded, exchange_in, fold_of, initiator_is, responder_is, round_list_of, planned_list, length-append, get_or-append, length-take, get_or-append_right, slice_get-get_or, Record, Rules, fold_counts_records, exchanged, ◌∷◌}
use Rattle.bench_types.specs.declared.exchanges.Fate.TheVariants as fate
use Rattle.run_laws.specs.Healing.{Moment, IsUpToMoment, table_at_moment}
use Rattle.cluster.specs.Rounds.{begun, rules_of, tables_after, records_in}
use Rattle.played_rounds.specs.Soundness.{AreSound, tables_within, IsSoundRun}
use Rattle.played_rounds.proofs.Soundness.{sound_run}

-- where two messages came the last one decides
fate-answered : (e : Exchange) → e.lost1 ≡ false → e.lost2 ≡ false → fate_of e ≡ last_fate e.lost3
fate-answered e came1 came2 = λ i. if came1 i then fate.Lost1 else (if came2 i then fate.Lost2 else last_fate e.lost3)

-- and the initiator has got its delta
initiator-answered : (lost : Bool) (p : Table) (back : DeltaView) → initiator_after (last_fate lost) p back ≡ applied p back.items
initiator-answered true p back = refl
initiator-answered false p back = refl

cut-answered : (lost : Bool) (d1 d2 : ℕ) (back forth : DeltaView) → (sent_until (last_fate lost) d1 d2 back forth).back_cut ≡ back.cut
cut-answered true d1 d2 back forth = refl
cut-answered false d1 d2 back forth = refl

pub fate-ended : (e : Exchange) → LosesNothing e → fate_of e ≡ fate.Ok
fate-ended e (came1, came2, came3) = fate-answered e came1 came2 ∙ ap last_fate came3

pub not_after : (m n : Moment) → IsUpToMoment m n → m.round ≤ n.round
not_after m n (inl less) = omega (arith, less)
not_after m n (inr (same, le)) = omega (arith, same)

pub moments_then : (l m n : Moment) → IsUpToMoment l m → IsUpToMoment m n → IsUpToMoment l n
moments_then l m n (inl less) upto = inl (omega (arith, less, not_after m n upto))
moments_then l m n (inr (same, le)) (inl less) = inl (omega (arith, same, less))
moments_then l m n (inr (same, le)) (inr (same', le')) = inr (same ∙ same', omega (arith, le, le'))

-- what the exchange at a moment records
abbrev pub record_at : Settings → Moment → Exchange → Record
record_at s m e = (exchanged (rules_of s) e (table_at_moment s m e.initiator) (table_at_moment s m e.responder)).sent

-- what is recorded stays in its place
keeps_place : (rules : Rules) (es : List Exchange) (f : Folded) (k : ℕ) (d : Record) → k < length f.records → get_or (fold (exchange_in rules) f es).records k d ≡ get_or f.records k d
keeps_place rules [] f k d lt = refl
keeps_place rules (e ∷ es) f k d lt =
    let sent : Record = (exchanged rules e (table_of_node f.tables e.initiator) (table_of_node f.tables e.responder)).sent in
    keeps_place rules es (exchange_in rules f e) k d (omega (arith, lt, length-append f.records (sent ∷ []))) ∙ get_or-append f.records (sent ∷ []) d k lt

-- a round after so many of its exchanges
module _ (s : Settings) (round i : ℕ) where
  abbrev all : List Exchange
  all = (round_list_of s round).exchanges

  abbrev begun_round : Folded
  begun_round = record { tables = begun s round (tables_after s (round - 1)); records = [] }

  abbrev pub so_far : Folded
  so_far = fold_of (rules_of s) begun_round.tables (take i all)

  pub all_folded : fold (exchange_in (rules_of s)) so_far (drop i all) ≡ fold (exchange_in (rules_of s)) begun_round all
  all_folded = sym (fold-append (exchange_in (rules_of s)) begun_round (take i all) (drop i all)) ∙ ap (fold (exchange_in (rules_of s)) begun_round) (take-append-drop i all)

  pub counted : length so_far.records ≡ length (take i all)
  counted = fold_counts_records (rules_of s) (take i all) begun_round ∙ omega arith

  pub stays_placed : (k : ℕ) (d : Record) → k < length so_far.records → slice_get (records_in s round) k ≡ Some (get_or so_far.records k d)
  stays_placed k d lt =
      let within : k < length (records_in s round) = omega (arith, lt, counted, length-take i all, fold_counts_records (rules_of s) all begun_round) in
      slice_get-get_or (records_in s round) k d within
      ∙ ap Some (ap (λ (f : Folded). get_or f.records k d) (sym all_folded) ∙ keeps_place (rules_of s) (drop i all) so_far k d lt)

  -- each of their records stands in an earlier place among the round's
  pub recorded_before : (r : Record) → Contains so_far.records r → (k : ℕ) × (k + 1 ≤ i) × (slice_get (records_in s round) k ≡ Some r)
  recorded_before r (k, lt, is) = (k, omega (arith, lt, counted, length-take i all), stays_placed k r lt ∙ ap Some is)

module _ (s : Settings) (lawful : IsLawfulScenario s) where
  pub sound : IsSoundRun s
  sound = sound_run s lawful.nodes.0 lawful.nodes.1 lawful.keys.0 lawful.keys.1

  abbrev exchanges : ℕ → List Exchange
  exchanges round = (round_list_of s round).exchanges

  -- behind all its exchanges a round has ended
  pub ended : (round i : ℕ) → 1 ≤ round → tables_within s round (i + length (exchanges round)) ≡ tables_after s round
  ended round i first =
      ap (λ es. (fold_of (rules_of s) (begun s round (tables_after s (round - 1))) es).tables)
      (take_all (i + length (exchanges round)) (exchanges round) (omega arith) ∙ sym (take_all (length (exchanges round)) (exchanges round) (omega arith)))
      ∙ sound.ends round first

  -- the exchange at a moment
  module _ (m : Moment) (e : Exchange) (first : 1 ≤ m.round) (listed : slice_get (exchanges m.round) m.exchanges ≡ Some e) where
    abbrev opened : Folded
    opened = record { tables = begun s m.round (tables_after s (m.round - 1)); records = [] }

    abbrev pub folded : Folded
    folded = fold_of (rules_of s) opened.tables (take m.exchanges (exchanges m.round))

    abbrev pub at : ℕ → Table
    at n = table_at_moment s m n

    abbrev pub us : List Table
    us = (exchange_in (rules_of s) folded e).tables

    in_list : m.exchanges < length (exchanges m.round)
    in_list = slice_get_within (exchanges m.round) m.exchanges e listed

    is_at : get_or (exchanges m.round) m.exchanges e ≡ e
    is_at = get_or_from_slice_get (exchanges m.round) m.exchanges e e listed

    pub planned : IsPlanned s.nodes e
    planned = subst (IsPlanned s.nodes) is_at (planned_list s m.round lawful.nodes.0 m.exchanges e in_list)

    pub here : AreSound s m.round (tables_within s m.round m.exchanges)
    here = sound.within m.round m.exchanges first

    next_folded : fold_of (rules_of s) opened.tables (take (m.exchanges + 1) (exchanges m.round)) ≡ exchange_in (rules_of s) folded e
    next_folded = fold_more (exchange_in (rules_of s)) opened (exchanges m.round) m.exchanges e in_list ∙ ap (exchange_in (rules_of s) folded) is_at

    pub next_tables : tables_within s m.round (m.exchanges + 1) ≡ us
    next_tables = ap (λ (f : Folded). f.tables) next_folded

    -- its record stands in the same place among those of the round
    pub placed : slice_get (records_in s m.round) m.exchanges ≡ Some (record_at s m e)
    placed =
        let before : length folded.records ≡ m.exchanges = omega (arith, in_list, counted s m.round m.exchanges, length-take m.exchanges (exchanges m.round)) in
        let past : m.exchanges < length (so_far s m.round (m.exchanges + 1)).records = omega (arith, in_list, counted s m.round (m.exchanges + 1), length-take (m.exchanges + 1) (exchanges m.round)) in
        let none : m.exchanges - m.exchanges ≡ 0 = omega arith in
        stays_placed s m.round (m.exchanges + 1) m.exchanges (record_at s m e) past
        ∙ ap Some
        (ap (λ (f : Folded). get_or f.records m.exchanges (record_at s m e)) next_folded
        ∙ get_or-append_right folded.records (record_at s m e ∷ []) m.exchanges m.exchanges (record_at s m e) before (omega arith)
        ∙ ap (λ k. get_or (record_at s m e ∷ []) k (record_at s m e)) none)

    pub recorded : Contains (records_in s m.round) (record_at s m e)
    recorded = (m.exchanges, slice_get_within (records_in s m.round) m.exchanges (record_at s m e) placed, get_or_from_slice_get (records_in s m.round) m.exchanges (record_at s m e) (record_at s m e) placed)

    abbrev pub delta : ℕ → ℕ → DeltaView
    delta from to = delta_between s.mode e.rotation s.budget (at from) (at to)

    abbrev size : ℕ → ℕ
    size n = digest_size (digest_kind s.mode) (at n)

    -- what comes where no message up to it is lost, and what its record says then
    pub comes_back : e.lost1 ≡ false → e.lost2 ≡ false → table_of_node us e.initiator ≡ applied (at e.initiator) (delta e.responder e.initiator).items
    comes_back came1 came2 =
        initiator_is (rules_of s) s.nodes s.keys folded e planned here.copies.tables
        ∙ ap (λ f. initiator_after f (at e.initiator) (delta e.responder e.initiator)) (fate-answered e came1 came2)
        ∙ initiator-answered e.lost3 (at e.initiator) (delta e.responder e.initiator)

    pub cut_back : e.lost1 ≡ false → e.lost2 ≡ false → (record_at s m e).back_cut ≡ (delta e.responder e.initiator).cut
    cut_back came1 came2 =
        ap (λ f. (sent_until f (size e.initiator) (size e.responder) (delta e.responder e.initiator) (delta e.initiator e.responder)).back_cut) (fate-answered e came1 came2)
        ∙ cut-answered e.lost3 (size e.initiator) (size e.responder) (delta e.responder e.initiator) (delta e.initiator e.responder)

    pub comes_forth : LosesNothing e → table_of_node us e.responder ≡ applied (at e.responder) (delta e.initiator e.responder).items
    comes_forth came =
        responder_is (rules_of s) s.nodes s.keys folded e planned here.copies.tables ∙ ap (λ f. responder_after f (at e.responder) (delta e.initiator e.responder)) (fate-ended e came)

    pub cut_forth : LosesNothing e → (record_at s m e).forth_cut ≡ (delta e.initiator e.responder).cut
    cut_forth came = ap (λ f. (sent_until f (size e.initiator) (size e.responder) (delta e.responder e.initiator) (delta e.initiator e.responder)).forth_cut) (fate-ended e came)

  -- what a round's exchanges keep, and the beginning of a round with this, holds at each later moment up to which they have it
  module _ (Holds : List Table → Type 0) (Leaves : ℕ → Type 0) (within : (round i j : ℕ) → 1 ≤ round → i ≤ j → Holds (tables_within s round i) → Holds (tables_within s round j)) (begins : (round : ℕ) → 1 ≤ round → Leaves round → Holds (tables_after s (round - 1)) → Holds (tables_within s round 0)) where
    to_end : (round i : ℕ) → 1 ≤ round → Holds (tables_within s round i) → Holds (tables_after s round)
    to_end round i first holds = subst Holds (ended round i first) (within round i (i + length (exchanges round)) first (omega arith) holds)

    through : (more round : ℕ) → ((t : ℕ) → round < t → t ≤ round + more → Leaves t) → Holds (tables_after s round) → Holds (tables_after s (round + more))
    through zero round leaves holds = subst (λ t. Holds (tables_after s t)) (omega arith) holds
    through (suc more) round leaves holds =
        let before = through more round (λ t above upto. leaves t above (omega (arith, upto))) holds in
        let same : round + more ≡ round + suc more - 1 = omega arith in
        let first : 1 ≤ round + suc more = omega arith in
        to_end (round + suc more) 0 first (begins (round + suc more) first (leaves (round + suc more) (omega arith) (omega arith)) (subst (λ t. Holds (tables_after s t)) same before))

    pub stays : (m n : Moment) → 1 ≤ m.round → IsUpToMoment m n → ((round : ℕ) → m.round < round → round ≤ n.round → Leaves round) → Holds (tables_within s m.round m.exchanges) → Holds (tables_within s n.round n.exchanges)
    stays m n first (inr (same, le)) leaves holds = subst (λ r. Holds (tables_within s r n.exchanges)) same (within m.round m.exchanges n.exchanges first le holds)
    stays m n first (inl less) leaves holds =
        let more : ℕ = n.round - 1 - m.round in
        let reached : m.round + more ≡ n.round - 1 = omega (arith, less) in
        let later : 1 ≤ n.round = omega (arith, less) in
        let before = through more m.round (λ t above upto. leaves t above (omega (arith, upto, reached, less))) (to_end m.round m.exchanges first holds) in
        within n.round 0 n.exchanges later (omega arith) (begins n.round later (leaves n.round less (omega arith)) (subst (λ t. Holds (tables_after s t)) reached before))
