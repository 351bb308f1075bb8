-- Items that stand by turn, then by version and then by key, and are taken layer by layer, are in the order of their
-- scuttle mode.
-- Serves the functions of `suffixes`, `Answering`, `SuffixLayers` and `Turned`.
use Rattle.reconcile.proofs.Common.{◌≡◌, ℕ, zero, suc, ◌+◌, ◌<◌, ◌≤◌, ◌^◌, Bool, true, false, cond, not, ◌&&◌, eqb, ltb, List, [], ◌∷◌, ◌++◌, length, get_or, All, ◌⊎◌, inl, inr, refl, sym, ap, ◌∙◌, subst, arith, filter, Contains, IsPermutation, AllPairs, IsSorted, Ordering, Less, Greater, nat_cmp, ordering_then, ordering_reverse, is_lt, cases_lt, cases_order, eq-eqb, eqb-true, ne_eqb, lt-ltb, le-ltb, append-nil, append_assoc, length-append, All-nil, All-head, All-tail, All-append, All-weaker, All-contains, Contains-get_or, filter_passes, AllPairs-filter, count_by-le-length, length_permutation, Contains-permutation, IsPermutation-refl, IsPermutation-sym, IsPermutation-trans, IsPermutation-append_left, IsPermutation-filter_both, Item, Mode, ScuttleBreadth, ScuttleDepth, PreciseOldest, PreciseNewest, nat_cmp-less, nat_cmp-equal, nat_cmp-greater, IsScuttleMode, rotated, rank_among, owner_count, sending_order, fitting, left_after, sending_total, sending_order-ascending, length-fitting-le, fitting-zero, fitting-append, left_after-append, AllPairs-append}
use Rattle.reconcile.specs.inner.Suffixes.{layer_of, layered, reversed, lengths_first}

-- one filter after another
filter-twice : (p q r : Item → Bool) → ((c : Item) → r c ≡ (q c && p c)) → (cs : List Item) → filter p (filter q cs) ≡ filter r cs
filter-twice p q r same [] = refl
filter-twice p q r same (c ∷ cs) =
    let rest = filter-twice p q r same cs in
    elim (q c) as (λ b. r c ≡ (b && p c) → filter p (cond b (c ∷ filter q cs) (filter q cs)) ≡ cond (r c) (c ∷ filter r cs) (filter r cs)) [
      | true ↦ λ e. ap (λ ds. cond (p c) (c ∷ ds) ds) rest ∙ ap (λ b. cond b (c ∷ filter r cs) (filter r cs)) (sym e)
      | false ↦ λ e. rest ∙ ap (λ b. cond b (c ∷ filter r cs) (filter r cs)) (sym e)
    ] (same c)

-- what passes no test counts for nothing, and what passes each is all kept
pub filter-none : {X : Type 0} (p : X → Bool) (xs : List X) → All (λ x. p x ≡ false) xs → filter p xs ≡ []
filter-none p [] none = refl
filter-none p (x ∷ xs) none =
    ap (λ b. cond b (x ∷ filter p xs) (filter p xs)) (All-head (λ y. p y ≡ false) x xs none)
    ∙ filter-none p xs (All-tail (λ y. p y ≡ false) x xs none)

pub filter-each : {X : Type 0} (p : X → Bool) (xs : List X) → All (λ x. p x ≡ true) xs → filter p xs ≡ xs
filter-each p [] each = refl
filter-each p (x ∷ xs) each =
    ap (λ b. cond b (x ∷ filter p xs) (filter p xs)) (All-head (λ y. p y ≡ true) x xs each)
    ∙ ap (λ ys. x ∷ ys) (filter-each p xs (All-tail (λ y. p y ≡ true) x xs each))

module _ (number : Item → ℕ) (least : ℕ) (cs : List Item) where
  abbrev is_below : ℕ → Item → Bool
  is_below n c = ltb (number c) n

  -- the layers so far have the items below
  layered-below : (n : ℕ) → All (λ (c : Item). least ≤ number c) cs → IsPermutation (filter (is_below (least + n)) cs) (layered number cs least n)
  layered-below zero low = subst (λ ds. IsPermutation ds []) (sym (filter-none (is_below (least + 0)) cs (λ k d lt. le-ltb (number (get_or cs k d)) (least + 0) (omega (arith, low k d lt))))) (IsPermutation-refl [])
  layered-below (suc n) low =
      IsPermutation-trans (filter (is_below (least + suc n)) cs) (filter (is_below (least + n)) cs ++ layer_of number cs (least + n)) (layered number cs least n ++ layer_of number cs (least + n))
      (subst (IsPermutation (filter (is_below (least + suc n)) cs)) (λ i. older i ++ newest i) (IsPermutation-filter_both (is_below (least + n)) (λ c. not (is_below (least + n) c)) (λ _. refl) (filter (is_below (least + suc n)) cs)))
      (IsPermutation-append_left (layer_of number cs (least + n)) (filter (is_below (least + n)) cs) (layered number cs least n) (layered-below n low))
    where
      older : filter (is_below (least + n)) (filter (is_below (least + suc n)) cs) ≡ filter (is_below (least + n)) cs
      older = filter-twice (is_below (least + n)) (is_below (least + suc n)) (is_below (least + n)) (λ c. elim (cases_lt (number c) (least + n)) [
        | inl lt ↦ rw (lt-ltb (number c) (least + n) lt, lt-ltb (number c) (least + suc n) (omega arith)) refl
        | inr ge ↦ rw (le-ltb (number c) (least + n) ge) (elim (ltb (number c) (least + suc n)) as (λ b. false ≡ (b && false)) [ true ↦ refl | false ↦ refl ])
      ]) cs

      newest : filter (λ c. not (is_below (least + n) c)) (filter (is_below (least + suc n)) cs) ≡ layer_of number cs (least + n)
      newest = filter-twice (λ c. not (is_below (least + n) c)) (is_below (least + suc n)) (λ c. eqb (number c) (least + n)) (λ c. elim (cases_order (number c) (least + n)) [
        | inl same ↦ rw (eq-eqb (number c) (least + n) same, lt-ltb (number c) (least + suc n) (omega arith), le-ltb (number c) (least + n) (omega arith)) refl
        | inr differ ↦ elim differ [
          | inl below ↦ rw (ne_eqb (number c) (least + n) (λ e. absurd (omega arith)), lt-ltb (number c) (least + suc n) (omega arith), lt-ltb (number c) (least + n) below) refl
          | inr above ↦ rw (ne_eqb (number c) (least + n) (λ e. absurd (omega arith)), le-ltb (number c) (least + suc n) (omega arith)) refl
        ]
      ]) cs

  pub layered-permutation : (n : ℕ) → All (λ (c : Item). (least ≤ number c) × (number c < least + n)) cs → IsPermutation cs (layered number cs least n)
  layered-permutation n all =
      subst (λ ds. IsPermutation ds (layered number cs least n)) (filter-each (is_below (least + n)) cs (λ k d lt. lt-ltb (number (get_or cs k d)) (least + n) (all k d lt).1))
      (layered-below n (λ k d lt. (all k d lt).0))

  layered-lt : (n : ℕ) → All (λ (c : Item). number c < least + n) (layered number cs least n)
  layered-lt zero = All-nil (λ (c : Item). number c < least + 0)
  layered-lt (suc n) = All-append (λ (c : Item). number c < least + suc n) (layered number cs least n) (layer_of number cs (least + n))
      (All-weaker (λ (c : Item). number c < least + n) (λ (c : Item). number c < least + suc n) (λ c lt. omega arith) (layered number cs least n) (layered-lt n))
      (All-weaker (λ (c : Item). eqb (number c) (least + n) ≡ true) (λ (c : Item). number c < least + suc n) (λ c is. omega (arith, eqb-true (number c) (least + n) is)) (layer_of number cs (least + n)) (filter_passes (λ c. eqb (number c) (least + n)) cs))

  -- of two the first has the smaller number, or they stand as they stood
  layered-pairs : (P : Item → Item → Type 0) → AllPairs P cs → (n : ℕ) → AllPairs (λ c d. (number c < number d) ⊎ ((number c ≡ number d) × P c d)) (layered number cs least n)
  layered-pairs P pairs zero = λ i j d lt in_range. absurd (omega arith)
  layered-pairs P pairs (suc n) =
      let passes = filter_passes (λ c. eqb (number c) (least + n)) cs in
      AllPairs-append (λ c d. (number c < number d) ⊎ ((number c ≡ number d) × P c d)) (layered number cs least n) (layer_of number cs (least + n)) (layered-pairs P pairs n)
      (λ i j d lt in_range. inr (eqb-true _ (least + n) (passes i d (omega arith)) ∙ sym (eqb-true _ (least + n) (passes j d in_range)), AllPairs-filter P (λ c. eqb (number c) (least + n)) cs pairs i j d lt in_range))
      (λ c d before behind. inl (omega (arith, All-contains (λ (e : Item). number e < least + n) (layered number cs least n) c (layered-lt n) before, eqb-true (number d) (least + n) (All-contains (λ (e : Item). eqb (number e) (least + n) ≡ true) (layer_of number cs (least + n)) d passes behind))))

length-none : (items : List Item) → length items ≡ 0 → items ≡ []
length-none [] none = refl
length-none (x ∷ items) none = absurd (omega arith)

module _ (size : Item → ℕ) (some : (i : Item) → 1 ≤ size i) (number : Item → ℕ) (all : List Item) (least budget : ℕ) where
  -- the next layer comes in as far as it fits
  pub layered-next : (n : ℕ) (items more layer : List Item) (left : ℕ) → items ≡ fitting size budget (layered number all least n) → left ≡ left_after size budget (layered number all least n) → layer ≡ layer_of number all (least + n) → more ≡ items ++ fitting size left layer → more ≡ fitting size budget (layered number all least (n + 1))
  layered-next n items more layer left so_far rest is next =
      next
      ∙ (λ i. so_far i ++ fitting size (rest i) (is i))
      ∙ sym (fitting-append size some budget (layered number all least n) (layer_of number all (least + n)))
      ∙ ap (λ m. fitting size budget (layered number all least m)) {x = suc n} {y = n + 1} (omega arith)

  pub layered-left : (n : ℕ) (layer : List Item) (left less : ℕ) → left ≡ left_after size budget (layered number all least n) → layer ≡ layer_of number all (least + n) → less ≡ left_after size left layer → less ≡ left_after size budget (layered number all least (n + 1))
  layered-left n layer left less rest is next =
      next
      ∙ (λ i. left_after size (rest i) (is i))
      ∙ sym (left_after-append size some budget (layered number all least n) (layer_of number all (least + n)))
      ∙ ap (λ m. left_after size budget (layered number all least m)) {x = suc n} {y = n + 1} (omega arith)

  -- the layers from some on
  layered-more : (n m : ℕ) → (more : List Item) × (layered number all least (n + m) ≡ layered number all least n ++ more)
  layered-more n zero = ([], ap (layered number all least) {x = n + zero} {y = n} (omega arith) ∙ sym (append-nil (layered number all least n)))
  layered-more n (suc m) =
      let rest = layered-more n m in (
        rest.0 ++ layer_of number all (least + (n + m)),
        ap (layered number all least) {x = n + suc m} {y = suc (n + m)} (omega arith)
            ∙ ap (λ is. is ++ layer_of number all (least + (n + m))) rest.1
            ∙ append_assoc (layered number all least n) rest.0 (layer_of number all (least + (n + m))),
      )

  -- where nothing is left the other layers add nothing
  pub layered-full : (n m : ℕ) (items : List Item) (left : ℕ) → items ≡ fitting size budget (layered number all least n) → left ≡ left_after size budget (layered number all least n) → left ≡ 0 → items ≡ fitting size budget (layered number all least (n + m))
  layered-full n m items left so_far rest none =
      let more = layered-more n m in
      so_far
      ∙ sym (append-nil (fitting size budget (layered number all least n)))
      ∙ ap (λ is. fitting size budget (layered number all least n) ++ is) (sym (fitting-zero size some more.0))
      ∙ ap (λ l. fitting size budget (layered number all least n) ++ fitting size l more.0) (sym none ∙ rest)
      ∙ sym (fitting-append size some budget (layered number all least n) more.0)
      ∙ ap (fitting size budget) (sym more.1)

  -- nor do they where all items are in
  pub layered-whole : (n m : ℕ) (items : List Item) → items ≡ fitting size budget (layered number all least n) → All (λ (i : Item). (least ≤ number i) × (number i < least + (n + m))) all → length items ≡ length all → items ≡ fitting size budget (layered number all least (n + m))
  layered-whole n m items so_far within long =
      let more = layered-more n m in
      let behind = fitting size (left_after size budget (layered number all least n)) more.0 in
      let joined : fitting size budget (layered number all least (n + m)) ≡ items ++ behind = ap (fitting size budget) more.1 ∙ fitting-append size some budget (layered number all least n) more.0 ∙ ap (λ is. is ++ behind) (sym so_far) in
      let none : length behind ≡ 0 = omega (arith, long, ap length joined, length-append items behind, length-fitting-le size budget (layered number all least (n + m)), length_permutation all (layered number all least (n + m)) (layered-permutation number least all (n + m) within)) in
      sym (append-nil items) ∙ ap (λ is. items ++ is) (sym (length-none behind none)) ∙ sym joined

-- by turn, then by version and then by key
abbrev pub InTurn : ℕ → ℕ → Item → Item → Type 0
InTurn ns s i j = (rotated ns s i.owner < rotated ns s j.owner) ⊎ ((i.owner ≡ j.owner) × (ordering_then (nat_cmp i.entry.version j.entry.version) (nat_cmp i.entry.key j.entry.key) ≡ Less))

-- what a scuttle mode looks at first, among all candidates, and after the owner's turn, of a version
abbrev pub first_key : Mode → List Item → Item → ℕ
first_key ScuttleBreadth cs i = rank_among cs i
first_key ScuttleDepth cs i = lengths_first cs i
first_key PreciseOldest cs i = 0
first_key PreciseNewest cs i = 0

abbrev second_key : Mode → ℕ → ℕ
second_key ScuttleBreadth version = 0
second_key ScuttleDepth version = version
second_key PreciseOldest version = 0
second_key PreciseNewest version = 0

-- numbers that are taken from a greater one compare the other way round
nat_cmp-reversed : (a b : ℕ) → a < 2 ^ 32 → b < 2 ^ 32 → nat_cmp (reversed a) (reversed b) ≡ nat_cmp b a
nat_cmp-reversed a b in_a in_b = elim (cases_order a b) [
  | inl same ↦ nat_cmp-equal (reversed a) (reversed b) (omega arith) ∙ sym (nat_cmp-equal b a (omega arith))
  | inr differ ↦ elim differ [
    | inl below ↦ nat_cmp-greater (reversed a) (reversed b) (omega arith) ∙ sym (nat_cmp-greater b a (omega arith))
    | inr above ↦ nat_cmp-less (reversed a) (reversed b) (omega arith) ∙ sym (nat_cmp-less b a (omega arith))
  ]
]

-- they compare as the mode says
abbrev by_keys : Mode → ℕ → ℕ → List Item → Item → Item → Ordering
by_keys mode ns s items i j = ordering_then (nat_cmp (first_key mode items i) (first_key mode items j)) (ordering_then (nat_cmp (rotated ns s i.owner) (rotated ns s j.owner)) (ordering_then (nat_cmp (second_key mode i.entry.version) (second_key mode j.entry.version)) (nat_cmp i.entry.key j.entry.key)))

scuttle-sending : (mode : Mode) → IsScuttleMode mode → (ns s : ℕ) (items : List Item) (i j : Item) → length items < 2 ^ 32 → by_keys mode ns s items i j ≡ sending_order mode ns s items i j
scuttle-sending ScuttleBreadth is ns s items i j few = refl
scuttle-sending ScuttleDepth is ns s items i j few =
    ap (λ o. ordering_then o (ordering_then (nat_cmp (rotated ns s i.owner) (rotated ns s j.owner)) (ordering_then (nat_cmp i.entry.version j.entry.version) (nat_cmp i.entry.key j.entry.key))))
    (nat_cmp-reversed (owner_count items i) (owner_count items j) (omega (arith, count_by-le-length (λ (d : Item). eqb d.owner i.owner) items)) (omega (arith, count_by-le-length (λ (d : Item). eqb d.owner j.owner) items)))
scuttle-sending PreciseOldest is ns s items i j few = cc
scuttle-sending PreciseNewest is ns s items i j few = cc

module _ (mode : Mode) (scuttle : IsScuttleMode mode) (ns s : ℕ) (cs : List Item) (few : length cs < 2 ^ 32) where
  -- so an item comes before those of later layers, and in its layer before those of later turns
  pair_sent : (c d : Item) → Contains cs c → (first_key mode cs c < first_key mode cs d) ⊎ ((first_key mode cs c ≡ first_key mode cs d) × InTurn ns s c d) → sending_order mode ns s cs c d ≡ Less
  pair_sent c d stands (inl less) =
      sym (scuttle-sending mode scuttle ns s cs c d few)
      ∙ ap (λ o. ordering_then o (ordering_then (nat_cmp (rotated ns s c.owner) (rotated ns s d.owner)) (ordering_then (nat_cmp (second_key mode c.entry.version) (second_key mode d.entry.version)) (nat_cmp c.entry.key d.entry.key))))
      (nat_cmp-less (first_key mode cs c) (first_key mode cs d) less)
  pair_sent c d stands (inr (same, inl less)) =
      sym (scuttle-sending mode scuttle ns s cs c d few)
      ∙ (λ n. ordering_then (nat_cmp-equal (first_key mode cs c) (first_key mode cs d) same n) (ordering_then (nat_cmp-less (rotated ns s c.owner) (rotated ns s d.owner) less n) (ordering_then (nat_cmp (second_key mode c.entry.version) (second_key mode d.entry.version)) (nat_cmp c.entry.key d.entry.key))))
  pair_sent c d stands (inr (same, inr (owners, rest))) = elim (cases_order c.entry.version d.entry.version) [
    | inl versions ↦
        sym (scuttle-sending mode scuttle ns s cs c d few)
        ∙ (λ n. ordering_then (nat_cmp-equal (first_key mode cs c) (first_key mode cs d) same n) (ordering_then (nat_cmp-equal (rotated ns s c.owner) (rotated ns s d.owner) (ap (rotated ns s) owners) n) (ordering_then (nat_cmp-equal (second_key mode c.entry.version) (second_key mode d.entry.version) (ap (second_key mode) versions) n) (nat_cmp c.entry.key d.entry.key))))
        ∙ ap (λ o. ordering_then o (nat_cmp c.entry.key d.entry.key)) (sym (nat_cmp-equal c.entry.version d.entry.version versions))
        ∙ rest
    | inr differ ↦ elim differ [
      | inl older ↦ sending_order-ascending mode scuttle ns s cs c d stands owners older
      | inr newer ↦
          let turned : Greater ≡ Less = ap (λ o. ordering_then o (nat_cmp c.entry.key d.entry.key)) (sym (nat_cmp-greater c.entry.version d.entry.version newer)) ∙ rest in cc
    ]
  ]

  -- items that stand in turn, taken layer by layer, are in the order of the mode
  pub order_layers : (least layers : ℕ) → AllPairs (InTurn ns s) cs → All (λ (i : Item). (least ≤ first_key mode cs i) × (first_key mode cs i < least + layers)) cs → IsSorted (sending_order mode ns s cs) (layered (first_key mode cs) cs least layers)
  order_layers least layers in_turn within k d from in_range = up k (k + 1) d (omega arith) in_range
    where
      whole : List Item
      whole = layered (first_key mode cs) cs least layers

      moves : IsPermutation cs whole
      moves = layered-permutation (first_key mode cs) least cs layers within

      up : AllPairs (λ (c d : Item). is_lt (sending_order mode ns s cs d c) ≡ false) whole
      up i j d lt in_range =
          let x = get_or whole i d in
          let y = get_or whole j d in
          ap is_lt ((sending_total ns s cs mode).antisymm y x
          ∙ ap ordering_reverse (pair_sent x y (Contains-permutation whole cs x (IsPermutation-sym cs whole moves) (Contains-get_or whole i d (omega arith)))
          (layered-pairs (first_key mode cs) least cs (InTurn ns s) in_turn layers i j d lt in_range)))
