-- Laws of an exchange, for the crates above: in every mode, with every rotation, budget and loss, but where a law
-- names a mode or what was sent. That neither side's own part changes is in OwnParts.
-- Serves `enough_budget_cuts_nothing`, `entries_come_from_either`, `whole_precise_exchanges_give_the_newer`,
-- `BeginLaws`, `FoldLaws`, `played_rounds` and `run_laws`.
use Rattle.model.proofs.Common.{◌≡◌, ℕ, ◌<◌, max, inl, inr, refl, sym, ◌∙◌, subst, arith, if◌then◌else◌, Exchange, Fate, Rules, digest_kind, up_to-itself, up_to-then}
use Rattle.bench_types.specs.declared.exchanges.Fate.TheVariants as fate
use Rattle.model.specs.Table.{Table, applied, mark_at, greatest_mark, IsProper}
use Rattle.model.proofs.TableLaws.{frame-applied}
use Rattle.model.specs.Candidates.{IsScuttleMode}
use Rattle.model.specs.Deltas.{DeltaView, delta_between}
use Rattle.model.specs.Digests.{digest_size}
use Rattle.model.proofs.DeltaLaws.{cut-none}
use Rattle.model.specs.Exchanged.{exchanged, fate_of, last_fate, sent_until, initiator_after, responder_after}
use Rattle.model.specs.ExchangeLaws.{NoMarkFalls}
use Rattle.model.specs.calls.ExchangeLaws.{MayMeet, StoodInEither, IsPreciseMode, LosesAndCutsNothing, version_in, newer_generation, HasTheNewer, EnoughBudgetCutsNothing}
use Rattle.model.specs.Copies.{OwnParts, Generations, WritesBy, HoldsWrites}
use Rattle.model.specs.inner.Copies.{AreLastOf, HasNoGap}
use Rattle.model.proofs.Cases.{initiator_after-either, responder_after-either}
use Rattle.model.proofs.Received.{received-either, received-writes, received-proper, received-rises, received-generation, received-versions, received-no_gap}

-- an exchange without loss or cut came to its end, and cut neither delta
whole_ended : (f : Fate) (d1 d2 : ℕ) (back forth : DeltaView) → LosesAndCutsNothing (sent_until f d1 d2 back forth) → (f ≡ fate.Ok) × (back.cut ≡ 0) × (forth.cut ≡ 0)
whole_ended fate.Lost1 d1 d2 back forth is = let e = is.fate in cc
whole_ended fate.Lost2 d1 d2 back forth is = let e = is.fate in cc
whole_ended fate.Lost3 d1 d2 back forth is = let e = is.fate in cc
whole_ended fate.Ok d1 d2 back forth is = (refl, is.back, is.forth)

-- where no message is lost a budget for all candidates cuts none
pub whole_within_budget : EnoughBudgetCutsNothing
whole_within_budget rules e p q (came1, came2, came3) back_fits forth_fits = subst (λ f. LosesAndCutsNothing (sent_until f (digest_size (digest_kind rules.mode) p) (digest_size (digest_kind rules.mode) q) (delta_between rules.mode e.rotation rules.budget q p) (delta_between rules.mode e.rotation rules.budget p q)))
    (sym (λ i. if came1 i then fate.Lost1 else (if came2 i then fate.Lost2 else last_fate (came3 i)))) (record {
      fate = refl;
      back = cut-none rules.mode q p e.rotation rules.budget back_fits;
      forth = cut-none rules.mode p q e.rotation rules.budget forth_fits;
    })

-- a table that stays loses no mark
pub marks_stay : (t : Table) → NoMarkFalls t t
marks_stay t = record { greatest = λ owner. up_to-itself (greatest_mark t owner); within = λ owner key _. up_to-itself (mark_at t owner key) }

-- nor does one lose any by two steps that lose none
pub marks_then : (t u v : Table) → NoMarkFalls t u → NoMarkFalls u v → NoMarkFalls t v
marks_then t u v first second = record {
  greatest = λ owner. up_to-then (greatest_mark t owner) (greatest_mark u owner) (greatest_mark v owner) (first.greatest owner) (second.greatest owner);
  within = λ owner key same.
      let to = (first.greatest owner).generation in
      let from = (second.greatest owner).generation in
      up_to-then (mark_at t owner key) (mark_at u owner key) (mark_at v owner key) (first.within owner key (omega (arith, to, from, same))) (second.within owner key (omega (arith, to, from, same)));
}

module _ (rules : Rules) (e : Exchange) (p q : Table) (meet : MayMeet e p q) where
  back : DeltaView
  back = delta_between rules.mode e.rotation rules.budget q p

  forth : DeltaView
  forth = delta_between rules.mode e.rotation rules.budget p q

  in_responder : e.rotation < q.nodes
  in_responder = subst (λ n. e.rotation < n) meet.nodes meet.rotation

  -- no mark goes down
  pub initiator_rises : NoMarkFalls p (exchanged rules e p q).initiator
  unfolding back
  initiator_rises = initiator_after-either (NoMarkFalls p) (fate_of e) p back (marks_stay p) (received-rises rules e.rotation q p meet.responder (sym meet.nodes) (sym meet.keys) meet.initiator)

  pub responder_rises : NoMarkFalls q (exchanged rules e p q).responder
  unfolding forth
  responder_rises = responder_after-either (NoMarkFalls q) (fate_of e) q forth (marks_stay q) (received-rises rules e.rotation p q meet.initiator meet.nodes meet.keys meet.responder)

  -- each entry stood at its place in one of the two tables
  pub initiator_either : StoodInEither p q (exchanged rules e p q).initiator
  unfolding back
  initiator_either = initiator_after-either (StoodInEither p q) (fate_of e) p back (λ owner key x held. inl held) (received-either rules e.rotation q p meet.responder)

  pub responder_either : StoodInEither p q (exchanged rules e p q).responder
  unfolding forth
  responder_either = responder_after-either (StoodInEither p q) (fate_of e) q forth (λ owner key x held. inr held) (λ owner key x found. elim (received-either rules e.rotation p q meet.initiator owner key x found) [ inl held ↦ inr held | inr came ↦ inl came ])

  -- both tables stay proper
  pub initiator_proper : IsProper (exchanged rules e p q).initiator
  unfolding back
  initiator_proper = initiator_after-either IsProper (fate_of e) p back meet.initiator (received-proper rules e.rotation q p meet.responder (sym meet.nodes) (sym meet.keys) meet.initiator)

  pub responder_proper : IsProper (exchanged rules e p q).responder
  unfolding forth
  responder_proper = responder_after-either IsProper (fate_of e) q forth meet.responder (received-proper rules e.rotation p q meet.initiator meet.nodes meet.keys meet.responder)

  -- entries that are their owners' writes stay so
  module _ (writes : WritesBy) (p_writes : HoldsWrites writes p) (q_writes : HoldsWrites writes q) where
    pub initiator_writes : HoldsWrites writes (exchanged rules e p q).initiator
    unfolding back
    initiator_writes = initiator_after-either (HoldsWrites writes) (fate_of e) p back p_writes (received-writes rules e.rotation q p meet.responder writes p_writes q_writes)

    pub responder_writes : HoldsWrites writes (exchanged rules e p q).responder
    unfolding forth
    responder_writes = responder_after-either (HoldsWrites writes) (fate_of e) q forth q_writes (received-writes rules e.rotation p q meet.initiator writes q_writes p_writes)

    -- and in a scuttle mode copies without a gap stay without one
    module _ (scuttle : IsScuttleMode rules.mode) (generations : Generations) (own : OwnParts) (last : AreLastOf p.nodes generations writes own) (p_gapless : HasNoGap own p) (q_gapless : HasNoGap own q) where
      pub initiator_no_gap : HasNoGap own (exchanged rules e p q).initiator
      unfolding back
      initiator_no_gap = initiator_after-either (HasNoGap own) (fate_of e) p back p_gapless
          (received-no_gap rules e.rotation q p meet.responder (sym meet.nodes) (sym meet.keys) meet.initiator scuttle in_responder generations writes own last p_writes q_writes p_gapless q_gapless)

      pub responder_no_gap : HasNoGap own (exchanged rules e p q).responder
      unfolding forth
      responder_no_gap = responder_after-either (HasNoGap own) (fate_of e) q forth q_gapless
          (received-no_gap rules e.rotation p q meet.initiator meet.nodes meet.keys meet.responder scuttle meet.rotation generations writes own (subst (λ n. AreLastOf n generations writes own) meet.nodes last) q_writes p_writes q_gapless p_gapless)

  -- in a precise mode an exchange without loss or cut leaves each side, of all owners but itself, with what is newer
  module _ (precise : IsPreciseMode rules.mode) (whole : LosesAndCutsNothing (exchanged rules e p q).sent) where
    ended : (fate_of e ≡ fate.Ok) × (back.cut ≡ 0) × (forth.cut ≡ 0)
    unfolding back forth
    ended = whole_ended (fate_of e) (digest_size (digest_kind rules.mode) p) (digest_size (digest_kind rules.mode) q) back forth whole

    pub initiator_newer : HasTheNewer p q (exchanged rules e p q).initiator
    unfolding back
    initiator_newer = subst (λ f. HasTheNewer p q (initiator_after f p back)) (sym ended.0) (record {
      generation = λ owner other. received-generation rules e.rotation q p meet.responder (sym meet.nodes) (sym meet.keys) meet.initiator precise in_responder ended.1 owner (λ same. other (same ∙ sym (frame-applied p back.items).node));
      versions = λ owner key other. received-versions rules e.rotation q p meet.responder (sym meet.nodes) (sym meet.keys) meet.initiator precise in_responder ended.1 owner (λ same. other (same ∙ sym (frame-applied p back.items).node)) key;
    })

    pub responder_newer : HasTheNewer p q (exchanged rules e p q).responder
    unfolding forth
    responder_newer = subst (λ f. HasTheNewer p q (responder_after f q forth)) (sym ended.0) (record {
      generation = λ owner other. omega (arith, received-generation rules e.rotation p q meet.initiator meet.nodes meet.keys meet.responder precise meet.rotation ended.2 owner (λ same. other (same ∙ sym (frame-applied q forth.items).node)));
      versions = λ owner key other.
          let turned : newer_generation q p owner ≡ newer_generation p q owner = omega arith in
          omega (
            arith,
            subst (λ g. (mark_at (applied q forth.items) owner key).version ≡ max (version_in g q owner key) (version_in g p owner key)) turned
                (received-versions rules e.rotation p q meet.initiator meet.nodes meet.keys meet.responder precise meet.rotation ended.2 owner (λ same. other (same ∙ sym (frame-applied q forth.items).node)) key),
          );
    })
