-- Suffixes turned by a rotation: their items stand by turn, then by version and then by key.
-- Serves `scuttle_delta`, `turn_to`, `Answering` and `SuffixLayers`.
use Rattle.reconcile.proofs.Common.{◌≡◌, ◌≢◌, ℕ, ◌+◌, ◌-◌, ◌<◌, ◌≤◌, true, false, ltb, List, [], ◌∷◌, ◌++◌, length, take, drop, get_or, All, ◌⊎◌, inl, inr, refl, sym, ap, ◌∙◌, subst, arith, Contains, IsPermutation, AllPairs, IsNonDecreasingBy, IsPartitionPoint, Less, Equal, Greater, nat_cmp, ordering_then, ranked, cases_lt, ltb-true, ltb-false, flat_map-append, get_or-take, get_or-drop, get_or_append_left, get_or-append_right, length-append, length-take, length-drop, take-append-drop, take_at, All-nil, All-append, All-map, All-head, All-tail, All-take, All-drop, All-contains, IsPermutation-append_comm, Item, StandsBefore, rotated, rotated-is, AllPairs-append}
use Rattle.reconcile.specs.inner.Newer.{item_with, version_order}
use Rattle.reconcile.specs.inner.Suffixes.{suffix_items, items_of_suffixes, OwnersRise, AreSuffixes, IsTurned}
use Rattle.reconcile.specs.declared.suffixes.Suffix.{Suffix}
use Rattle.reconcile.proofs.Layers.{InTurn}

-- what holds of the suffixes' owners holds of the items'
pub owners-items : (P : ℕ → Type 0) (suffixes : List Suffix) → All (λ (r : Suffix). P r.owner) suffixes → All (λ (i : Item). P i.owner) (items_of_suffixes suffixes)
owners-items P [] all = All-nil (λ (i : Item). P i.owner)
owners-items P (r ∷ suffixes) all =
    All-append (λ (i : Item). P i.owner) (suffix_items r) (items_of_suffixes suffixes)
    (All-map (λ (i : Item). P i.owner) (item_with r.owner) r.entries.now (λ k d lt. All-head (λ (s : Suffix). P s.owner) r suffixes all))
    (owners-items P suffixes (All-tail (λ (s : Suffix). P s.owner) r suffixes all))

-- pairs of one list are pairs of each of its parts
pub AllPairs-left : {X : Type 0} (R : X → X → Type 0) (xs ys : List X) → AllPairs R (xs ++ ys) → AllPairs R xs
AllPairs-left R xs ys pairs i j d lt in_range =
    rw (sym (get_or_append_left xs ys d i (omega arith)), sym (get_or_append_left xs ys d j in_range)) (pairs i j d lt (omega (arith, in_range, length-append xs ys)))

pub AllPairs-right : {X : Type 0} (R : X → X → Type 0) (xs ys : List X) → AllPairs R (xs ++ ys) → AllPairs R ys
AllPairs-right R xs ys pairs i j d lt in_range =
    subst (λ (y : _). R (get_or ys i d) y) (at j) (subst (λ (x : _). R x (get_or (xs ++ ys) (length xs + j) d)) (at i) (pairs (length xs + i) (length xs + j) d (omega arith) (omega (arith, in_range, length-append xs ys))))
  where
    at : (k : ℕ) → get_or (xs ++ ys) (length xs + k) d ≡ get_or ys k d
    at k = get_or-append_right xs ys (length xs) (length xs + k) d refl (omega arith) ∙ ap (λ n. get_or ys n d) {x = length xs + k - length xs} {y = k} (omega arith)

-- suffixes whose owners rise stand by owner, and apart
pub rise-sorted : (suffixes : List Suffix) → OwnersRise suffixes → IsNonDecreasingBy (λ (r : Suffix). r.owner) suffixes
rise-sorted suffixes rise i j d le lt = elim (cases_lt i j) [
  | inl before ↦ omega (arith, rise i j d before lt)
  | inr not_before ↦ omega (arith, ap (λ n. (get_or suffixes n d).owner) {x = i} {y = j} (omega arith))
]

-- where the owners below a rotation end, the suffixes are turned
pub turned-at : (rotation : ℕ) (old new : List Suffix) (start : ℕ) → start ≤ length old → IsPartitionPoint (λ (r : Suffix). ltb r.owner rotation ≡ true) (λ (r : Suffix). ltb r.owner rotation ≡ false) old start → new ≡ drop start old ++ take start old → IsTurned rotation old new
turned-at rotation old new start in_range parted turned = record {
  start = start;
  before = λ k d lt.
      let short = length-take start old in
      rw (get_or-take start old k d (omega arith)) (ltb-true (get_or old k d).owner rotation (parted.0 k d (omega arith) (omega arith)));
  from = λ k d lt.
      let short = length-drop start old in
      rw (get_or-drop start old k d) (ltb-false (get_or old (start + k) d).owner rotation (parted.1 (start + k) d (omega arith) (omega arith)));
  turned = turned;
}

-- no suffix comes in or goes
pub length-turned : (rotation : ℕ) (old new : List Suffix) → IsTurned rotation old new → length new ≡ length old
length-turned rotation old new turned =
    ap length turned.turned ∙ length-append (drop turned.start old) (take turned.start old)
    ∙ omega (arith, ap length (take-append-drop turned.start old), length-append (take turned.start old) (drop turned.start old))

-- and what a vector shows of them after a turn in place is turned
pub seen-turned : (rotation : ℕ) (first old new rest seen : List Suffix) (len : ℕ) → first ≡ old → len ≡ length old → IsTurned rotation first new → seen ≡ take len (new ++ rest) → IsTurned rotation old seen
seen-turned rotation first old new rest seen len is long turned shown =
    let same = subst (λ rs. IsTurned rotation rs new) is turned in
    subst (IsTurned rotation old) (sym (shown ∙ take_at new rest len (length-turned rotation old new same ∙ sym long))) same

version_less : (a b : Item) → version_order a b ≡ Less → (a.owner < b.owner) ⊎ ((a.owner ≡ b.owner) × (ordering_then (nat_cmp a.entry.version b.entry.version) (nat_cmp a.entry.key b.entry.key) ≡ Less))
version_less a b e =
    elim (nat_cmp a.owner b.owner) as (λ r. r ≡ nat_cmp a.owner b.owner → ordering_then r (ordering_then (nat_cmp a.entry.version b.entry.version) (nat_cmp a.entry.key b.entry.key)) ≡ Less → (a.owner < b.owner) ⊎ ((a.owner ≡ b.owner) × (ordering_then (nat_cmp a.entry.version b.entry.version) (nat_cmp a.entry.key b.entry.key) ≡ Less))) [
      | Less ↦ λ is h. inl (ranked a.owner b.owner Less is)
      | Equal ↦ λ is h. inr (ranked a.owner b.owner Equal is, h)
      | Greater ↦ λ is h. cc
    ] refl e

module _ (ns s : ℕ) (in_s : s < ns) where
  rotated-from : (o : ℕ) → o < ns → s ≤ o → rotated ns s o ≡ o - s
  rotated-from o in_o from = elim (rotated-is ns s o in_s in_o) [ inl a ↦ a.1 | inr a ↦ absurd (omega (arith, a.0)) ]

  rotated-before : (o : ℕ) → o < ns → o < s → rotated ns s o ≡ o + ns - s
  rotated-before o in_o before = elim (rotated-is ns s o in_s in_o) [ inl a ↦ absurd (omega (arith, a.0)) | inr a ↦ a.1 ]

  turn_from : (c d : Item) → c.owner < ns → d.owner < ns → s ≤ c.owner → s ≤ d.owner → version_order c d ≡ Less → InTurn ns s c d
  turn_from c d in_c in_d from_c from_d e = elim (version_less c d e) [
    | inl less ↦ inl (omega (arith, less, rotated-from c.owner in_c from_c, rotated-from d.owner in_d from_d))
    | inr same ↦ inr same
  ]

  turn_before : (c d : Item) → c.owner < ns → d.owner < ns → c.owner < s → d.owner < s → version_order c d ≡ Less → InTurn ns s c d
  turn_before c d in_c in_d from_c from_d e = elim (version_less c d e) [
    | inl less ↦ inl (omega (arith, less, rotated-before c.owner in_c from_c, rotated-before d.owner in_d from_d))
    | inr same ↦ inr same
  ]

  module _ (old new : List Suffix) (turned : IsTurned s old new) where
    abbrev early : List Suffix
    early = take turned.start old

    abbrev late : List Suffix
    late = drop turned.start old

    old_items : items_of_suffixes old ≡ items_of_suffixes early ++ items_of_suffixes late
    old_items = ap items_of_suffixes (sym (take-append-drop turned.start old)) ∙ flat_map-append suffix_items early late

    new_items : items_of_suffixes new ≡ items_of_suffixes late ++ items_of_suffixes early
    new_items = ap items_of_suffixes turned.turned ∙ flat_map-append suffix_items late early

    -- they have the same items
    pub turned-permutation : IsPermutation (items_of_suffixes old) (items_of_suffixes new)
    turned-permutation =
        subst (λ is. IsPermutation is (items_of_suffixes new)) (sym old_items)
        (subst (IsPermutation (items_of_suffixes early ++ items_of_suffixes late)) (sym new_items) (IsPermutation-append_comm (items_of_suffixes early) (items_of_suffixes late)))

    -- which stand by turn
    pub turned-pairs : AllPairs (λ i j. version_order i j ≡ Less) (items_of_suffixes old) → All (λ (i : Item). i.owner < ns) (items_of_suffixes old) → AllPairs (InTurn ns s) (items_of_suffixes new)
    turned-pairs rising owners =
        subst (AllPairs (InTurn ns s)) (sym new_items)
        (AllPairs-append (InTurn ns s) (items_of_suffixes late) (items_of_suffixes early)
        (λ i j d lt in_range. turn_from (get_or (items_of_suffixes late) i d) (get_or (items_of_suffixes late) j d) (late_in i d (omega arith)) (late_in j d in_range) (late_from i d (omega arith)) (late_from j d in_range) (AllPairs-right (λ i j. version_order i j ≡ Less) (items_of_suffixes early) (items_of_suffixes late) parts i j d lt in_range))
        (λ i j d lt in_range. turn_before (get_or (items_of_suffixes early) i d) (get_or (items_of_suffixes early) j d) (early_in i d (omega arith)) (early_in j d in_range) (early_before i d (omega arith)) (early_before j d in_range) (AllPairs-left (λ i j. version_order i j ≡ Less) (items_of_suffixes early) (items_of_suffixes late) parts i j d lt in_range))
        across)
      where
        parts : AllPairs (λ i j. version_order i j ≡ Less) (items_of_suffixes early ++ items_of_suffixes late)
        parts = subst (AllPairs (λ i j. version_order i j ≡ Less)) old_items rising

        below : All (λ (i : Item). i.owner < ns) (items_of_suffixes early ++ items_of_suffixes late)
        below = subst (All (λ (i : Item). i.owner < ns)) old_items owners

        early_in : All (λ (i : Item). i.owner < ns) (items_of_suffixes early)
        early_in k d lt = rw (sym (get_or_append_left (items_of_suffixes early) (items_of_suffixes late) d k lt)) (below k d (omega (arith, lt, length-append (items_of_suffixes early) (items_of_suffixes late))))

        late_in : All (λ (i : Item). i.owner < ns) (items_of_suffixes late)
        late_in k d lt =
            let n = length (items_of_suffixes early) in
            let here = get_or-append_right (items_of_suffixes early) (items_of_suffixes late) n (n + k) d refl (omega arith) ∙ ap (λ m. get_or (items_of_suffixes late) m d) {x = n + k - n} {y = k} (omega arith) in
            subst (λ (i : Item). i.owner < ns) here (below (n + k) d (omega (arith, lt, length-append (items_of_suffixes early) (items_of_suffixes late))))

        early_before : All (λ (i : Item). i.owner < s) (items_of_suffixes early)
        early_before = owners-items (λ o. o < s) early turned.before

        late_from : All (λ (i : Item). s ≤ i.owner) (items_of_suffixes late)
        late_from = owners-items (λ o. s ≤ o) late turned.from

        across : (c d : Item) → Contains (items_of_suffixes late) c → Contains (items_of_suffixes early) d → InTurn ns s c d
        across c d behind front =
            let in_c = All-contains (λ (i : Item). i.owner < ns) (items_of_suffixes late) c late_in behind in
            let in_d = All-contains (λ (i : Item). i.owner < ns) (items_of_suffixes early) d early_in front in
            let from = All-contains (λ (i : Item). s ≤ i.owner) (items_of_suffixes late) c late_from behind in
            let before = All-contains (λ (i : Item). i.owner < s) (items_of_suffixes early) d early_before front in
            inl (omega (arith, rotated-from c.owner in_c from, rotated-before d.owner in_d before))

    abbrev InOrder : Suffix → Type 0
    InOrder r = AllPairs StandsBefore r.entries.now

    -- and they are suffixes still
    pub turned-suffixes : AreSuffixes old → AreSuffixes new
    turned-suffixes suffixes =
        let apart = subst (AllPairs (λ (p q : Suffix). p.owner ≢ q.owner)) (sym (take-append-drop turned.start old)) suffixes.apart in
        record {
          apart = subst (AllPairs (λ (p q : Suffix). p.owner ≢ q.owner)) (sym turned.turned)
              (AllPairs-append (λ (p q : Suffix). p.owner ≢ q.owner) late early (AllPairs-right (λ (p q : Suffix). p.owner ≢ q.owner) early late apart) (AllPairs-left (λ (p q : Suffix). p.owner ≢ q.owner) early late apart)
              (λ p q behind front same. absurd (omega (arith, same, All-contains (λ (r : Suffix). s ≤ r.owner) late p turned.from behind, All-contains (λ (r : Suffix). r.owner < s) early q turned.before front))));
          rising = subst (All InOrder) (sym turned.turned) (All-append InOrder late early (All-drop InOrder turned.start old suffixes.rising) (All-take InOrder turned.start old suffixes.rising));
        }
