-- What the nodes write in a round, worked out by how much each had written before it.
-- Serves `begin_nodes` and `writes_of`.
use Rattle.cluster.proofs.Common.{◌≡◌, ℕ, ◌+◌, ◌-◌, ◌<◌, ◌≤◌, if◌then◌else◌, List, [], ◌∷◌, ◌++◌, length, map, get_or, inl, inr, sym, ap, ◌∙◌, subst, arith, length-append, length-map, cases_eq, get_or-append, get_or_push, get_or-map, OwnWrite, Table, Settings, OwnerListView, list_of_owner, no_writes, forgets_now, writes_before, writes_upto, writes_before-grown, length_unless, AreWritesOf}
use Rattle.std.specs.Prelude.{None, Option, Some}
use Rattle.cluster.proofs.Common.{Global, IfSome, Vec}
use Rattle.cluster.specs.calls.Standing.{StandAfterRound}
use Rattle.cluster.specs.calls.Plans.{AreCountsAfter, AreWritesOfAll}
use Rattle.cluster.specs.inner.Steps.{counted_in}

-- those of the first so many nodes
pub record AreWritesUpto (s : Settings) (round i : ℕ) (all : List (List OwnWrite)) : Type 0 where
  pub count : length all ≡ i
  pub each : (n : ℕ) → n < i → AreWritesOf s n round (length (writes_before s n round)) (get_or all n [])

pub writes_more : {s : Settings} {round i : ℕ} {all : List (List OwnWrite)} {writes : List OwnWrite} → AreWritesUpto s round i all
    → AreWritesOf s i round (length (writes_before s i round)) writes → AreWritesUpto s round (i + 1) (all ++ writes ∷ [])
writes_more {s} {round} {i} {all} {writes} so_far next = record {
  count = omega (arith, length-append all (writes ∷ []), so_far.count);
  each = λ n lt. elim (cases_eq n i) [
    | inl this ↦
        subst (λ m. AreWritesOf s m round (length (writes_before s m round)) (get_or (all ++ writes ∷ []) m [])) (sym this)
        (subst (AreWritesOf s i round (length (writes_before s i round))) (sym (get_or_push all writes [] i so_far.count)) next)
    | inr other ↦
        subst (AreWritesOf s n round (length (writes_before s n round))) (sym (get_or-append all (writes ∷ []) [] n (omega (arith, lt, other, so_far.count))))
        (so_far.each n (omega (arith, lt, other)))
  ];
}

pub all_writes_of : {s : Settings} {round i : ℕ} {all : List (List OwnWrite)} → AreWritesUpto s round i all → i ≡ s.nodes → AreWritesOfAll s round all
all_writes_of so_far end = record { count = so_far.count ∙ end; each = λ n lt. so_far.each n (omega (arith, lt, end)) }

-- how many writes a node has made before those of a round
pub counted_before : (s : Settings) (n round : ℕ) (counts : List ℕ) → 1 ≤ round → n < s.nodes → AreCountsAfter s (round - 1) counts
    → (if forgets_now s n round then 0 else get_or counts n 0) ≡ length (writes_before s n round)
counted_before s n round counts first below are =
    ap (λ k. if forgets_now s n round then 0 else k) (are.each n below)
    ∙ sym (length_unless (forgets_now s n round) (writes_upto s n (round - 1)))
    ∙ ap length (sym (writes_before-grown s n round first))

-- the owners' lists tell it
pub counts_after : (s : Settings) (round : ℕ) (ts : List Table) (lists : List OwnerListView) (counts : List ℕ)
    → counts ≡ map counted_in lists → StandAfterRound s round ts lists → AreCountsAfter s round counts
counts_after s round ts lists counts is standing = record {
  count = ap length is ∙ length-map lists counted_in ∙ standing.list_count;
  each = λ n lt. at n lt ∙ ap length (standing.owners n lt).writes;
  few = λ n lt. omega (arith, at n lt, (standing.owners n lt).few);
}
  where
    at : (n : ℕ) → n < s.nodes → get_or counts n 0 ≡ length (list_of_owner lists n).current
    at n lt = ap (λ ks. get_or ks n 0) is ∙ get_or-map counted_in lists n no_writes 0 (omega (arith, lt, standing.list_count))

pub counts_told : (s : Settings) (round : ℕ) (ts : List Table) (lists : List OwnerListView) (counts : Option (Vec ℕ Global))
    → IfSome counts (λ v. v.items ≡ map counted_in lists) → StandAfterRound s round ts lists → IfSome counts (λ v. AreCountsAfter s round v.items)
counts_told s round ts lists (Some v) are standing = counts_after s round ts lists v.items are standing
counts_told s round ts lists None are standing = tt
