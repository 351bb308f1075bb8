-- An exchange, case by case of its fate.
-- Serves `exchange` and `exchange_deltas`.
use Rattle.std.proofs.Common.{◌≡◌, ℕ, Bool, true, false, refl, sym, ap, ◌∙◌, if◌then◌else◌}
use Rattle.bench_types.specs.declared.exchanges.Exchange.{Exchange}
use Rattle.bench_types.specs.declared.exchanges.Fate.{Fate}
use Rattle.bench_types.specs.declared.exchanges.Fate.TheVariants as fate
use Rattle.bench_types.specs.declared.exchanges.Record.{Record}
use Rattle.bench_types.specs.declared.exchanges.Rules.{Rules}
use Rattle.bench_types.specs.Mode.{digest_kind}
use Rattle.model.specs.Table.{Table, applied}
use Rattle.reconcile.specs.Digests.{DigestView, IsDigestOf}
use Rattle.model.specs.Digests.{digest_size}
use Rattle.model.specs.Deltas.{DeltaView, delta_between}
use Rattle.model.specs.Exchanged.{Exchanged, exchanged, fate_of, last_fate, initiator_after, responder_after, sent_until}
use Rattle.exchange.specs.inner.Messages.{after_message}

-- where the third message was sent, the second came
initiator_after-last : (lost : Bool) (p : Table) (back : DeltaView) → initiator_after (last_fate lost) p back ≡ applied p back.items
initiator_after-last true p back = refl
initiator_after-last false p back = refl

responder_after-last : (lost : Bool) (q : Table) (forth : DeltaView) → responder_after (last_fate lost) q forth ≡ after_message lost q forth
responder_after-last true q forth = refl
responder_after-last false q forth = refl

module _ (rules : Rules) (e : Exchange) (p q : Table) where
  ended : Fate → Exchanged
  ended f =
      let back = delta_between rules.mode e.rotation rules.budget q p in
      let forth = delta_between rules.mode e.rotation rules.budget p q in
      record { initiator = initiator_after f p back; responder = responder_after f q forth; sent = sent_until f (digest_size (digest_kind rules.mode) p) (digest_size (digest_kind rules.mode) q) back forth }

  ended-fate : (f : Fate) → fate_of e ≡ f → exchanged rules e p q ≡ ended f
  unfolding ended
  ended-fate f is = ap ended is

  size_is : (t : Table) (told : DigestView) → IsDigestOf (digest_kind rules.mode) t told → digest_size (digest_kind rules.mode) t ≡ told.size
  size_is t told is = sym is.size

  pub lost1_case : (d1 : DigestView) (r : Record) → IsDigestOf (digest_kind rules.mode) p d1 → e.lost1 ≡ true → ((n : ℕ) (back forth : DeltaView) → r ≡ sent_until fate.Lost1 d1.size n back forth) → exchanged rules e p q ≡ record { initiator = p; responder = q; sent = r }
  unfolding ended
  lost1_case d1 r is lost sent =
      ended-fate fate.Lost1 (ap (λ b. if b then fate.Lost1 else (if e.lost2 then fate.Lost2 else last_fate e.lost3)) lost)
      ∙ ap (λ (s : Record). record { initiator = p; responder = q; sent = s })
      (ap (λ n. sent_until fate.Lost1 n (digest_size (digest_kind rules.mode) q) (delta_between rules.mode e.rotation rules.budget q p) (delta_between rules.mode e.rotation rules.budget p q)) (size_is p d1 is)
      ∙ sym (sent (digest_size (digest_kind rules.mode) q) (delta_between rules.mode e.rotation rules.budget q p) (delta_between rules.mode e.rotation rules.budget p q)))

  module _ (d1 d2 : DigestView) (is1 : IsDigestOf (digest_kind rules.mode) p d1) (is2 : IsDigestOf (digest_kind rules.mode) q d2) (first_came : e.lost1 ≡ false) (back : DeltaView) (back_is : back ≡ delta_between rules.mode e.rotation rules.budget q p) where
    pub lost2_case : (r : Record) → e.lost2 ≡ true → ((forth : DeltaView) → r ≡ sent_until fate.Lost2 d1.size d2.size back forth) → exchanged rules e p q ≡ record { initiator = p; responder = q; sent = r }
    unfolding ended
    lost2_case r lost sent =
        ended-fate fate.Lost2 (λ i. if first_came i then fate.Lost1 else (if lost i then fate.Lost2 else last_fate e.lost3))
        ∙ ap (λ (s : Record). record { initiator = p; responder = q; sent = s })
        ((λ i. sent_until fate.Lost2 (size_is p d1 is1 i) (size_is q d2 is2 i) (sym back_is i) (delta_between rules.mode e.rotation rules.budget p q))
        ∙ sym (sent (delta_between rules.mode e.rotation rules.budget p q)))

    pub both_case : (forth : DeltaView) (p' q' : Table) (r : Record) → e.lost2 ≡ false → forth ≡ delta_between rules.mode e.rotation rules.budget p q → p' ≡ applied p back.items → q' ≡ after_message e.lost3 q forth → r ≡ sent_until (last_fate e.lost3) d1.size d2.size back forth → exchanged rules e p q ≡ record { initiator = p'; responder = q'; sent = r }
    unfolding ended
    both_case forth p' q' r second_came forth_is p'_is q'_is sent =
        ended-fate (last_fate e.lost3) (λ i. if first_came i then fate.Lost1 else (if second_came i then fate.Lost2 else last_fate e.lost3))
        ∙ (λ i. record {
          initiator = (initiator_after-last e.lost3 p (delta_between rules.mode e.rotation rules.budget q p) ∙ ap (λ (d : DeltaView). applied p d.items) (sym back_is) ∙ sym p'_is) i;
          responder = (responder_after-last e.lost3 q (delta_between rules.mode e.rotation rules.budget p q) ∙ ap (after_message e.lost3 q) (sym forth_is) ∙ sym q'_is) i;
          sent = ((λ j. sent_until (last_fate e.lost3) (size_is p d1 is1 j) (size_is q d2 is2 j) (sym back_is j) (sym forth_is j)) ∙ sym sent) i;
        })
