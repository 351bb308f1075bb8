-- What is sent of the suffixes that were found, or of the candidates, is the answer to the digest.
-- Serves `precise_delta` and `scuttle_delta`.
use Rattle.reconcile.proofs.Common.{◌≡◌, ℕ, ◌-◌, ◌<◌, ◌≤◌, ◌^◌, not, ◌&&◌, eqb, Bool, List, length, sym, ap, arith, subst, IsPermutation, Contains-get_or, IsSorted, length_permutation, IsPermutation-trans, Budget, amount_of, Item, Mode, mark_of, is_before, Table, items_of, IsProper, IsScuttleMode, items_above, DeltaView, item_share, AreWithin, sending_order, length-fitting-le, sum-fitting, length-candidates-lt, sorted_sent}
use Rattle.reconcile.specs.inner.Parcels.{first_within}
use Rattle.reconcile.specs.Answers.{answer_of}
use Rattle.reconcile.specs.Digests.{DigestView, told_mark}
use Rattle.reconcile.specs.inner.Newer.{AreCandidates}
use Rattle.reconcile.specs.inner.Suffixes.{items_of_suffixes, IsTurned, layered, AreLayered}
use Rattle.reconcile.specs.declared.suffixes.Suffix.{Suffix}
use Rattle.reconcile.proofs.Layers.{first_key, layered-permutation, order_layers}
use Rattle.reconcile.proofs.Newer.{candidates-permuted}
use Rattle.reconcile.proofs.Turned.{turned-permutation, turned-pairs}

-- no more are sent than there are
pub length-layered-le : (number : Item → ℕ) (budget : Budget) (all items : List Item) → AreLayered number budget all items → length items ≤ length all
length-layered-le number budget all items layers =
    let whole = layered number all layers.least layers.layers in
    omega (arith, ap length layers.is, length-fitting-le (item_share budget) (amount_of budget) whole, length_permutation all whole (layered-permutation number layers.least all layers.layers layers.within))

-- and what is sent is within the budget
pub within-layered : (number : Item → ℕ) (budget : Budget) (all items : List Item) → AreLayered number budget all items → AreWithin budget items
within-layered number budget all items layers = subst (AreWithin budget) (sym layers.is) (sum-fitting (item_share budget) (amount_of budget) (layered number all layers.least layers.layers))

module _ (mode : Mode) (t : Table) (told : DigestView) (receiver rotation : ℕ) (proper : IsProper t) (in_nodes : rotation < t.nodes) where
  abbrev unknown : Item → Bool
  unknown i = not (eqb i.owner receiver) && is_before (told_mark told i) (mark_of i.entry)

  module _ (old new : List Suffix) (are : AreCandidates t told receiver t.nodes (items_of_suffixes old)) (turned : IsTurned rotation old new) where
    same : IsPermutation (items_above (told_mark told) receiver (items_of t)) (items_of_suffixes new)
    same = IsPermutation-trans (items_above (told_mark told) receiver (items_of t)) (items_of_suffixes old) (items_of_suffixes new) (candidates-permuted t told receiver (items_of_suffixes old) proper are) (turned-permutation t.nodes rotation in_nodes old new turned)

    pub few-turned : length (items_of_suffixes new) < 2 ^ 32
    few-turned = length-candidates-lt t unknown (items_of_suffixes new) proper same

    pub answer-turned : IsScuttleMode mode → (budget : Budget) (items : List Item) → AreLayered (first_key mode (items_of_suffixes new)) budget (items_of_suffixes new) items → ◌≡◌ {A = DeltaView} (record { items = items; cut = length (items_of_suffixes new) - length items }) (answer_of mode rotation budget t receiver told)
    answer-turned scuttle budget items layers =
        sorted_sent mode t unknown (items_of_suffixes new) (layered (first_key mode (items_of_suffixes new)) (items_of_suffixes new) layers.least layers.layers) items rotation budget proper in_nodes same
        (layered-permutation (first_key mode (items_of_suffixes new)) layers.least (items_of_suffixes new) layers.layers layers.within)
        (order_layers mode scuttle t.nodes rotation (items_of_suffixes new) few-turned layers.least layers.layers
        (turned-pairs t.nodes rotation in_nodes old new turned are.rising (λ k d lt. (are.each _ (Contains-get_or (items_of_suffixes old) k d lt)).1)) layers.within)
        layers.is

  module _ (found : List Item) (are : AreCandidates t told receiver t.nodes found) where
    same_found : IsPermutation (items_above (told_mark told) receiver (items_of t)) found
    same_found = candidates-permuted t told receiver found proper are

    pub few-found : length found < 2 ^ 32
    few-found = length-candidates-lt t unknown found proper same_found

    pub answer-found : (budget : Budget) (sorted items : List Item) → IsPermutation found sorted → IsSorted (sending_order mode t.nodes rotation found) sorted → items ≡ first_within budget sorted → ◌≡◌ {A = DeltaView} (record { items = items; cut = length found - length items }) (answer_of mode rotation budget t receiver told)
    answer-found budget sorted items moved rises is = sorted_sent mode t unknown found sorted items rotation budget proper in_nodes same_found moved rises is
