-- The items of a proper table are sound, and there are at most as many as places.
-- Serves `DeltaLaws`, `Sending`, `Sent` and `reconcile`.
use Rattle.model.proofs.Common.{◌≡◌, ℕ, zero, suc, ◌+◌, ◌*◌, ◌<◌, ◌≤◌, List, length, get_or, All, inl, inr, refl, ap, arith, Less, mul-le-mul_right, mul-le-mul_left, get_or_default, Item, MOST_NODES, MOST_KEYS}
use Rattle.model.specs.Table.{Place, place_cmp, Table, items_of, IsProper}
use Rattle.model.specs.inner.Items.{place_of, IsRising, IsSound}
use Rattle.model.specs.calls.Table.{IsItemInPlace}
use Rattle.model.proofs.Rising.{rising_at}
use Rattle.model.proofs.Greatest.{place_less}
use Rattle.model.proofs.Items.{rising-items_of, entry_at-items_of}

module _ (t : Table) (proper : IsProper t) where
  -- each item stands in its place
  in_place-items_of : All (IsItemInPlace t.nodes t.keys) (items_of t)
  in_place-items_of k d lt =
      let i = get_or (items_of t) k d in
      proper.in_place i.owner i.entry.key i.entry (entry_at-items_of t i proper (k, lt, get_or_default (items_of t) k i d lt))

  -- its items are sound
  pub items_sound : IsSound t.node t.nodes t.keys (items_of t)
  items_sound = record {
    node_below = proper.node_below;
    nodes_limit = proper.nodes_limit;
    some_key = proper.some_key;
    keys_limit = proper.keys_limit;
    rising = rising-items_of t proper;
    in_place = in_place-items_of;
  }

-- the number of a place, counted by owner and then by key
place_number : ℕ → Place → ℕ
place_number ks p = p.0 * ks + p.1

number_rises : (ks : ℕ) (p q : Place) → p.1 < ks → place_cmp p q ≡ Less → place_number ks p < place_number ks q
unfolding place_number
number_rises ks p q fits below = elim (place_less p q below) [
  | inl lt ↦ let step : (p.0 + 1) * ks ≤ q.0 * ks = mul-le-mul_right ks (omega arith) in omega (arith, step)
  | inr same ↦ let owners : p.0 * ks ≡ q.0 * ks = ap (λ o. o * ks) same.0 in omega (arith, owners, same.1)
]

module _ (ns ks : ℕ) (xs : List Item) (rising : IsRising xs) (in_place : All (IsItemInPlace ns ks) xs) where
  -- the item at an index has at least that number
  index-le-number : (d : Item) (i : ℕ) → i < length xs → i ≤ place_number ks (place_of (get_or xs i d))
  index-le-number d zero lt = omega arith
  index-le-number d (suc i) lt =
      omega (arith, index-le-number d i (omega arith), number_rises ks (place_of (get_or xs i d)) (place_of (get_or xs (suc i) d)) (in_place i d (omega arith)).key_below (rising_at xs i (suc i) d d rising (omega arith) lt))

  number-lt : (d : Item) (i : ℕ) → i < length xs → place_number ks (place_of (get_or xs i d)) < ns * ks
  unfolding place_number
  number-lt d i lt =
      let here = in_place i d lt in
      let step : ((get_or xs i d).owner + 1) * ks ≤ ns * ks = mul-le-mul_right ks (omega (arith, here.owner_below)) in
      omega (arith, step, here.key_below)

  -- there are no more items than places
  pub length-le-places : length xs ≤ ns * ks
  length-le-places = bounded (length xs) refl
    where
      none : Item
      none = record { owner = 0; entry = record { key = 0; generation = 0; version = 0; value = 0; born = 0 } }

      bounded : (n : ℕ) → length xs ≡ n → n ≤ ns * ks
      bounded zero e = omega arith
      bounded (suc n) e = omega (arith, index-le-number none n (omega arith), number-lt none n (omega arith))

-- so a sound list is short enough to count in 32 bits
pub length-le-limit : (n ns ks : ℕ) (xs : List Item) → IsSound n ns ks xs → length xs ≤ MOST_NODES * MOST_KEYS
length-le-limit n ns ks xs sound =
    let places = length-le-places ns ks xs sound.rising sound.in_place in
    let nodes : ns * ks ≤ MOST_NODES * ks = mul-le-mul_right ks sound.nodes_limit in
    let keys : MOST_NODES * ks ≤ MOST_NODES * MOST_KEYS = mul-le-mul_left MOST_NODES sound.keys_limit in
    omega (arith, places, nodes, keys)
