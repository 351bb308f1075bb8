-- An exchange leaves each side's own part alone.
-- Serves `FoldLaws` and `planner`.
use Rattle.model.proofs.Common.{◌≢◌, ℕ, List, All, refl, sym, ap, ◌∙◌, Item, Exchange, Rules, digest_kind, All-weaker}
use Rattle.model.specs.Table.{Table, applied, items_of, entry_at, greatest_mark}
use Rattle.model.proofs.TableLaws.{entry_at-applied_other, frame-applied}
use Rattle.model.proofs.MarkLaws.{greatest_mark-applied_other}
use Rattle.model.specs.Candidates.{candidates, known_mark}
use Rattle.model.specs.Deltas.{delta_between}
use Rattle.model.proofs.Sent.{All-delta_between, All-items_above}
use Rattle.model.specs.Exchanged.{exchanged, fate_of}
use Rattle.model.specs.inner.Owns.{KeepsOwn}
use Rattle.model.proofs.Cases.{initiator_after-either, responder_after-either}

-- nothing that is sent is the receiver's own
pub delta-others : (rules : Rules) (s : ℕ) (from to : Table) → All (λ (i : Item). i.owner ≢ to.node) (delta_between rules.mode s rules.budget from to).items
delta-others rules s from to =
    All-delta_between (λ (i : Item). i.owner ≢ to.node) rules.mode s rules.budget from to
    (All-weaker (λ (i : Item). (i.owner ≢ to.node) × Unit {0}) (λ (i : Item). i.owner ≢ to.node) (λ i h. h.0) (candidates rules.mode from to)
    (All-items_above (λ i. Unit {0}) (known_mark (digest_kind rules.mode) to) to.node (items_of from) (λ k d lt. tt)))

pub keeps_own_same : (t : Table) → KeepsOwn t t
keeps_own_same t = record { node = refl; nodes = refl; keys = refl; generation = refl; own_part = λ key. refl; greatest = refl }

pub keeps_own_then : (t u v : Table) → KeepsOwn t u → KeepsOwn u v → KeepsOwn t v
keeps_own_then t u v a b = record {
  node = b.node ∙ a.node;
  nodes = b.nodes ∙ a.nodes;
  keys = b.keys ∙ a.keys;
  generation = b.generation ∙ a.generation;
  own_part = λ key. ap (λ o. entry_at v o key) (sym a.node) ∙ b.own_part key ∙ ap (λ o. entry_at u o key) a.node ∙ a.own_part key;
  greatest = ap (greatest_mark v) (sym a.node) ∙ b.greatest ∙ ap (greatest_mark u) a.node ∙ a.greatest;
}

keeps_own_applied : (t : Table) (added : List Item) → All (λ (i : Item). i.owner ≢ t.node) added → KeepsOwn t (applied t added)
keeps_own_applied t added others = record {
  node = (frame-applied t added).node;
  nodes = (frame-applied t added).nodes;
  keys = (frame-applied t added).keys;
  generation = (frame-applied t added).generation;
  own_part = λ key. entry_at-applied_other t added t.node key others;
  greatest = greatest_mark-applied_other t added t.node others;
}

module _ (rules : Rules) (e : Exchange) (p q : Table) where
  pub initiator_keeps_own : KeepsOwn p (exchanged rules e p q).initiator
  initiator_keeps_own = initiator_after-either (KeepsOwn p) (fate_of e) p (delta_between rules.mode e.rotation rules.budget q p) (keeps_own_same p) (keeps_own_applied p (delta_between rules.mode e.rotation rules.budget q p).items (delta-others rules e.rotation q p))

  pub responder_keeps_own : KeepsOwn q (exchanged rules e p q).responder
  responder_keeps_own = responder_after-either (KeepsOwn q) (fate_of e) q (delta_between rules.mode e.rotation rules.budget p q) (keeps_own_same q) (keeps_own_applied q (delta_between rules.mode e.rotation rules.budget p q).items (delta-others rules e.rotation p q))
