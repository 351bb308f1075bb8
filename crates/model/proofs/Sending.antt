-- What fits of the sorted candidates is the delta.
-- Serves `DeltaLaws` and `reconcile`.
use Rattle.model.proofs.Common.{◌≡◌, ℕ, ◌+◌, ◌-◌, ◌^◌, ◌<◌, ◌≤◌, Bool, List, length, get_or, All, sym, ap, ◌∙◌, arith, filter, IsPermutation, IsSorted, Ordering, Equal, is_lt, length-filter, count_by-le-length, All-filter, IsPermutation-trans, length_permutation, Budget, amount_of, Item, Mode}
use Rattle.model.specs.Table.{Table, items_of, IsProper}
use Rattle.model.proofs.Proper.{items_sound, length-le-limit}
use Rattle.model.specs.Order.{sending_order}
use Rattle.model.specs.Deltas.{DeltaView, item_share, delta_of}
use Rattle.model.specs.inner.Fitting.{fitting}
use Rattle.model.specs.inner.Items.{no_item}
use Rattle.model.proofs.Levels.{sending_total, sending_apart, sending_order-permuted}
use Rattle.model.proofs.Picked.{sent-is, cut_count-is}

-- a proper table has at most 262144 items
pub length-items_of-le : (t : Table) → IsProper t → length (items_of t) ≤ 262144
length-items_of-le t proper = length-le-limit t.node t.nodes t.keys (items_of t) (items_sound t proper)

pub length-filter-le : (q : Item → Bool) (xs : List Item) → length (filter q xs) ≤ length xs
length-filter-le q xs = omega (arith, length-filter q xs, count_by-le-length q xs)

pub owners_below : (t : Table) → IsProper t → All (λ (i : Item). i.owner < t.nodes) (items_of t)
owners_below t proper k d lt = ((items_sound t proper).in_place k d lt).owner_below

-- what fits of sorted candidates is the delta
pub sorted_delta : (mode : Mode) (t : Table) (q : Item → Bool) (sorted : List Item) (s : ℕ) (budget : Budget) → IsProper t → s < t.nodes → IsPermutation (filter q (items_of t)) sorted → IsSorted (sending_order mode t.nodes s (filter q (items_of t))) sorted → ◌≡◌ {A = DeltaView} (record { items = fitting (item_share budget) (amount_of budget) sorted; cut = length sorted - length (fitting (item_share budget) (amount_of budget) sorted) }) (delta_of mode t.nodes s budget (filter q (items_of t)))
sorted_delta mode t q sorted s budget proper in_s same rises = λ i. record {
  items = sym (sent-is order (sending_total t.nodes s cs mode) cs sorted no_item same rises apart (item_share budget) (amount_of budget)) i;
  cut = sym (cut_count-is order (sending_total t.nodes s cs mode) cs sorted no_item same rises apart (item_share budget) (amount_of budget)) i;
}
  where
    cs : List Item
    cs = filter q (items_of t)

    order : Item → Item → Ordering
    order = sending_order mode t.nodes s cs

    apart : (j k : ℕ) → j < length sorted → k < length sorted → order (get_or sorted j no_item) (get_or sorted k no_item) ≡ Equal → j ≡ k
    apart = sending_apart mode q (items_of t) sorted t.nodes s (items_sound t proper).rising (All-filter q (λ (i : Item). i.owner < t.nodes) (items_of t) (owners_below t proper)) in_s same

-- what fits of the candidates, found and sorted in whatever way, and how many don't, are the delta
pub sorted_sent : (mode : Mode) (t : Table) (q : Item → Bool) (found sorted items : List Item) (s : ℕ) (budget : Budget) → IsProper t → s < t.nodes → IsPermutation (filter q (items_of t)) found → IsPermutation found sorted → IsSorted (sending_order mode t.nodes s found) sorted → items ≡ fitting (item_share budget) (amount_of budget) sorted → ◌≡◌ {A = DeltaView} (record { items = items; cut = length found - length items }) (delta_of mode t.nodes s budget (filter q (items_of t)))
sorted_sent mode t q found sorted items s budget proper in_s same moved rises is =
    (λ i. record { items = is i; cut = sym (length_permutation found sorted moved) i - length (is i) })
    ∙ sorted_delta mode t q sorted s budget proper in_s (IsPermutation-trans cs found sorted same moved)
    (λ k d from in_range. ap is_lt (sending_order-permuted mode t.nodes s cs found same (get_or sorted (k + 1) d) (get_or sorted k d)) ∙ rises k d from in_range)
  where
    cs : List Item
    cs = filter q (items_of t)

-- and there are few enough to count
pub length-candidates-lt : (t : Table) (q : Item → Bool) (found : List Item) → IsProper t → IsPermutation (filter q (items_of t)) found → length found < 2 ^ 32
length-candidates-lt t q found proper same = omega (arith, length_permutation (filter q (items_of t)) found same, length-filter-le q (items_of t), length-items_of-le t proper)
