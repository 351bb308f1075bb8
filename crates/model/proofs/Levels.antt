-- What the sending order of each mode keeps, by cases of the mode: it is total, what ties has one place, a scuttle mode
-- sends each owner's candidates by version, the order in which candidates stand makes no difference, and all go by
-- level, turn, version and key.
-- Serves `DeltaLaws`, `Sending`, `delta_plans` and `reconcile`.
use Rattle.model.proofs.Common.{◌≡◌, ◌≢◌, ℕ, ◌<◌, List, inl, inr, refl, sym, ap, ◌∙◌, arith, Bool, ◌&&◌, eqb, ltb, length, get_or, All, count_by, filter, IsPermutation, Ordering, Less, Equal, Greater, nat_cmp, ordering_then, IsTotalOrder, nat_cmp_total, on_total, then_total, back_total, nat_cmp-IsAntisymmetric, cases_lt, cases_eq, eq-eqb, eqb-true, lt-ltb, ltb-true, le-ltb, and_parts, and_from, and_right, sum_by-IsPermutation, All-permutation, Item, Mode, ScuttleBreadth, ScuttleDepth, PreciseOldest, PreciseNewest, both_equal, nat_cmp-less, nat_cmp-equal, nat_cmp-greater}
use Rattle.std.specs.Prelude.{Contains}
use Rattle.model.specs.Candidates.{IsScuttleMode}
use Rattle.model.specs.Order.{rotated, rank_among, owner_count, sending_order}
use Rattle.model.specs.inner.Items.{no_item, IsRising}
use Rattle.model.proofs.Apart.{rotated-injective, same_place}
use Rattle.model.proofs.Places.{count_by-lt}

backwards_total : {X : Type 0} (f : X → ℕ) → IsTotalOrder (λ x y. nat_cmp (f y) (f x))
backwards_total f = back_total (on_total f nat_cmp_total)

module _ (ns s : ℕ) (cs : List Item) where
  turn_total : IsTotalOrder (λ (c d : Item). nat_cmp (rotated ns s c.owner) (rotated ns s d.owner))
  turn_total = on_total (λ (i : Item). rotated ns s i.owner) nat_cmp_total

  key_total : IsTotalOrder (λ (c d : Item). nat_cmp c.entry.key d.entry.key)
  key_total = on_total (λ (i : Item). i.entry.key) nat_cmp_total

  version_total : IsTotalOrder (λ (c d : Item). nat_cmp c.entry.version d.entry.version)
  version_total = on_total (λ (i : Item). i.entry.version) nat_cmp_total

  four_ties : (c d : Item) (a b : Ordering) → ordering_then a (ordering_then (nat_cmp (rotated ns s c.owner) (rotated ns s d.owner)) (ordering_then b (nat_cmp c.entry.key d.entry.key))) ≡ Equal → (rotated ns s c.owner ≡ rotated ns s d.owner) × (c.entry.key ≡ d.entry.key)
  four_ties c d a b e =
      let outer = both_equal a (ordering_then (nat_cmp (rotated ns s c.owner) (rotated ns s d.owner)) (ordering_then b (nat_cmp c.entry.key d.entry.key))) e in
      let turns = both_equal (nat_cmp (rotated ns s c.owner) (rotated ns s d.owner)) (ordering_then b (nat_cmp c.entry.key d.entry.key)) outer.1 in
      let last = both_equal b (nat_cmp c.entry.key d.entry.key) turns.1 in
      (nat_cmp-IsAntisymmetric _ _ turns.0, nat_cmp-IsAntisymmetric _ _ last.1)

  -- each mode's order is total
  pub sending_total : (mode : Mode) → IsTotalOrder (sending_order mode ns s cs)
  sending_total ScuttleBreadth = then_total (on_total (rank_among cs) nat_cmp_total) (then_total turn_total key_total)
  sending_total ScuttleDepth = then_total (backwards_total (owner_count cs)) (then_total turn_total (then_total version_total key_total))
  sending_total PreciseOldest = then_total (on_total (λ (i : Item). i.entry.born) nat_cmp_total) (then_total turn_total (then_total version_total key_total))
  sending_total PreciseNewest = then_total (backwards_total (λ (i : Item). i.entry.born)) (then_total turn_total (then_total (backwards_total (λ (i : Item). i.entry.version)) key_total))

  -- what ties has one owner, turned, and one key
  pub sending_ties : (mode : Mode) (c d : Item) → sending_order mode ns s cs c d ≡ Equal → (rotated ns s c.owner ≡ rotated ns s d.owner) × (c.entry.key ≡ d.entry.key)
  sending_ties ScuttleBreadth c d e =
      let outer = both_equal _ (ordering_then (nat_cmp (rotated ns s c.owner) (rotated ns s d.owner)) (nat_cmp c.entry.key d.entry.key)) e in
      let inner = both_equal (nat_cmp (rotated ns s c.owner) (rotated ns s d.owner)) (nat_cmp c.entry.key d.entry.key) outer.1 in
      (nat_cmp-IsAntisymmetric _ _ inner.0, nat_cmp-IsAntisymmetric _ _ inner.1)
  sending_ties ScuttleDepth c d e = four_ties c d (nat_cmp (owner_count cs d) (owner_count cs c)) (nat_cmp c.entry.version d.entry.version) e
  sending_ties PreciseOldest c d e = four_ties c d (nat_cmp c.entry.born d.entry.born) (nat_cmp c.entry.version d.entry.version) e
  sending_ties PreciseNewest c d e = four_ties c d (nat_cmp d.entry.born c.entry.born) (nat_cmp d.entry.version c.entry.version) e

-- so in an order of candidates of known owners each ties with itself alone
pub sending_apart : (mode : Mode) (q : Item → Bool) (xs sorted : List Item) (ns s : ℕ) → IsRising xs → All (λ (i : Item). i.owner < ns) (filter q xs) → s < ns → IsPermutation (filter q xs) sorted → (j k : ℕ) → j < length sorted → k < length sorted → sending_order mode ns s (filter q xs) (get_or sorted j no_item) (get_or sorted k no_item) ≡ Equal → j ≡ k
sending_apart mode q xs sorted ns s rising owners in_s same j k in_j in_k e =
    let ties = sending_ties ns s (filter q xs) mode (get_or sorted j no_item) (get_or sorted k no_item) e in
    let below = All-permutation (λ (i : Item). i.owner < ns) (filter q xs) sorted same owners in
    same_place q xs sorted rising same j k in_j in_k (rotated-injective ns s (get_or sorted j no_item).owner (get_or sorted k no_item).owner in_s (below j no_item in_j) (below k no_item in_k) ties.0) ties.1

-- of one owner's items those of greater versions have more candidates before them, where the others are candidates
pub rank-more : (cs : List Item) (c d : Item) → Contains cs c → c.owner ≡ d.owner → c.entry.version < d.entry.version → rank_among cs c < rank_among cs d
rank-more cs c d stands owners older =
    count_by-lt (λ (x : Item). eqb x.owner c.owner && ltb x.entry.version c.entry.version) (λ (x : Item). eqb x.owner d.owner && ltb x.entry.version d.entry.version) cs
    (λ x passes. let parts = and_parts (eqb x.owner c.owner) (ltb x.entry.version c.entry.version) passes in
    and_from _ _ (eq-eqb x.owner d.owner (eqb-true x.owner c.owner parts.0 ∙ owners)) (lt-ltb x.entry.version d.entry.version (omega (arith, older, ltb-true x.entry.version c.entry.version parts.1))))
    c stands (and_right (eqb c.owner c.owner) _ (le-ltb c.entry.version c.entry.version (omega arith))) (and_from _ _ (eq-eqb c.owner d.owner owners) (lt-ltb c.entry.version d.entry.version older))

-- in a scuttle mode a candidate comes before those of its owner with greater versions
pub sending_order-ascending : (mode : Mode) → IsScuttleMode mode → (nodes rotation : ℕ) (cs : List Item) (c d : Item) → Contains cs c → c.owner ≡ d.owner → c.entry.version < d.entry.version → sending_order mode nodes rotation cs c d ≡ Less
sending_order-ascending ScuttleBreadth is nodes rotation cs c d stands owners older =
    ap (λ o. ordering_then o (ordering_then (nat_cmp (rotated nodes rotation c.owner) (rotated nodes rotation d.owner)) (nat_cmp c.entry.key d.entry.key))) (nat_cmp-less (rank_among cs c) (rank_among cs d) (rank-more cs c d stands owners older))
sending_order-ascending ScuttleDepth is nodes rotation cs c d stands owners older =
    λ i. ordering_then (nat_cmp-equal (owner_count cs d) (owner_count cs c) (ap (λ o. count_by (λ (x : Item). eqb x.owner o) cs) (sym owners)) i)
    (ordering_then (nat_cmp-equal (rotated nodes rotation c.owner) (rotated nodes rotation d.owner) (ap (rotated nodes rotation) owners) i)
    (ordering_then (nat_cmp-less c.entry.version d.entry.version older i) (nat_cmp c.entry.key d.entry.key)))
sending_order-ascending PreciseOldest is nodes rotation cs c d stands owners older = cc
sending_order-ascending PreciseNewest is nodes rotation cs c d stands owners older = cc

-- each mode's order is the same among candidates in another order
pub sending_order-permuted : (mode : Mode) (ns s : ℕ) (xs ys : List Item) → IsPermutation xs ys → (c d : Item) → sending_order mode ns s xs c d ≡ sending_order mode ns s ys c d
sending_order-permuted ScuttleBreadth ns s xs ys same c d =
    let rank : (i : Item) → rank_among xs i ≡ rank_among ys i = λ i. sym (sum_by-IsPermutation _ xs ys same) in
    λ n. ordering_then (nat_cmp (rank c n) (rank d n)) (ordering_then (nat_cmp (rotated ns s c.owner) (rotated ns s d.owner)) (nat_cmp c.entry.key d.entry.key))
sending_order-permuted ScuttleDepth ns s xs ys same c d =
    let count : (i : Item) → owner_count xs i ≡ owner_count ys i = λ i. sym (sum_by-IsPermutation _ xs ys same) in
    λ n. ordering_then (nat_cmp (count d n) (count c n)) (ordering_then (nat_cmp (rotated ns s c.owner) (rotated ns s d.owner)) (ordering_then (nat_cmp c.entry.version d.entry.version) (nat_cmp c.entry.key d.entry.key)))
sending_order-permuted PreciseOldest ns s xs ys same c d = refl
sending_order-permuted PreciseNewest ns s xs ys same c d = refl

-- levels compare: by rank, by how many candidates the owner has, the most first, and by round
abbrev pub level_cmp : Mode → List Item → Item → Item → Ordering
level_cmp ScuttleBreadth cs c d = nat_cmp (rank_among cs c) (rank_among cs d)
level_cmp ScuttleDepth cs c d = nat_cmp (owner_count cs d) (owner_count cs c)
level_cmp PreciseOldest cs c d = nat_cmp c.entry.born d.entry.born
level_cmp PreciseNewest cs c d = nat_cmp d.entry.born c.entry.born

-- an owner's versions compare within a level
abbrev pub version_cmp : Mode → ℕ → ℕ → Ordering
version_cmp ScuttleBreadth v w = nat_cmp v w
version_cmp ScuttleDepth v w = nat_cmp v w
version_cmp PreciseOldest v w = nat_cmp v w
version_cmp PreciseNewest v w = nat_cmp w v

-- by level, turn, version and key
abbrev pub level_order : Mode → ℕ → ℕ → List Item → Item → Item → Ordering
level_order mode nodes rotation cs c d =
    ordering_then (level_cmp mode cs c d)
    (ordering_then (nat_cmp (rotated nodes rotation c.owner) (rotated nodes rotation d.owner))
    (ordering_then (version_cmp mode c.entry.version d.entry.version)
    (nat_cmp c.entry.key d.entry.key)))

-- what stands behind a comparison that decides makes no difference
undecided : (a b x y : Ordering) → b ≢ Equal → ordering_then a (ordering_then b x) ≡ ordering_then a (ordering_then b y)
undecided Less b x y decides = refl
undecided Greater b x y decides = refl
undecided Equal Less x y decides = refl
undecided Equal Greater x y decides = refl
undecided Equal Equal x y decides = absurd (decides refl)

pub turns_differ : (nodes rotation o p : ℕ) → rotation < nodes → o < nodes → p < nodes → o ≢ p → nat_cmp (rotated nodes rotation o) (rotated nodes rotation p) ≢ Equal
turns_differ nodes rotation o p in_nodes in_o in_p other e = elim (cases_lt (rotated nodes rotation o) (rotated nodes rotation p)) [
  | inl before ↦ absurd (clash (sym (nat_cmp-less (rotated nodes rotation o) (rotated nodes rotation p) before) ∙ e))
  | inr not_before ↦ elim (cases_lt (rotated nodes rotation p) (rotated nodes rotation o)) [
    | inl behind ↦ absurd (clash' (sym (nat_cmp-greater (rotated nodes rotation o) (rotated nodes rotation p) behind) ∙ e))
    | inr same ↦ other (rotated-injective nodes rotation o p in_nodes in_o in_p (omega (arith, not_before, same)))
  ]
]
  where
    clash : Less ≡ Equal → ⊥
    clash h = cc

    clash' : Greater ≡ Equal → ⊥
    clash' h = cc

-- of one owner, candidates of different versions have different ranks
module _ (nodes rotation : ℕ) (cs : List Item) (c d : Item) (in_c : Contains cs c) (in_d : Contains cs d) where
  abbrev rank : Ordering
  rank = nat_cmp (rank_among cs c) (rank_among cs d)

  abbrev turn : Ordering
  turn = nat_cmp (rotated nodes rotation c.owner) (rotated nodes rotation d.owner)

  abbrev version : Ordering
  version = nat_cmp c.entry.version d.entry.version

  abbrev key : Ordering
  key = nat_cmp c.entry.key d.entry.key

  by_rank : c.owner ≡ d.owner → ordering_then rank (ordering_then turn key) ≡ ordering_then rank (ordering_then turn (ordering_then version key))
  by_rank owners = elim (cases_lt c.entry.version d.entry.version) [
    | inl older ↦
        let less = nat_cmp-less (rank_among cs c) (rank_among cs d) (rank-more cs c d in_c owners older) in
        ap (λ o. ordering_then o (ordering_then turn key)) less
        ∙ sym (ap (λ o. ordering_then o (ordering_then turn (ordering_then version key))) less)
    | inr not_older ↦ elim (cases_lt d.entry.version c.entry.version) [
      | inl newer ↦
          let greater = nat_cmp-greater (rank_among cs c) (rank_among cs d) (rank-more cs d c in_d (sym owners) newer) in
          ap (λ o. ordering_then o (ordering_then turn key)) greater
          ∙ sym (ap (λ o. ordering_then o (ordering_then turn (ordering_then version key))) greater)
      | inr same ↦ sym (ap (λ o. ordering_then rank (ordering_then turn (ordering_then o key))) (nat_cmp-equal c.entry.version d.entry.version (omega (arith, not_older, same))))
    ]
  ]

-- among candidates, of owners that there are
pub order-levels : (mode : Mode) (nodes rotation : ℕ) (cs : List Item) (c d : Item) → rotation < nodes → c.owner < nodes → d.owner < nodes → Contains cs c → Contains cs d
    → sending_order mode nodes rotation cs c d ≡ level_order mode nodes rotation cs c d
order-levels ScuttleBreadth nodes rotation cs c d in_nodes below_c below_d in_c in_d = elim (cases_eq c.owner d.owner) [
  | inl same ↦ by_rank nodes rotation cs c d in_c in_d same
  | inr other ↦ undecided (nat_cmp (rank_among cs c) (rank_among cs d)) (nat_cmp (rotated nodes rotation c.owner) (rotated nodes rotation d.owner)) _ _ (turns_differ nodes rotation c.owner d.owner in_nodes below_c below_d other)
]
order-levels ScuttleDepth nodes rotation cs c d in_nodes below_c below_d in_c in_d = refl
order-levels PreciseOldest nodes rotation cs c d in_nodes below_c below_d in_c in_d = refl
order-levels PreciseNewest nodes rotation cs c d in_nodes below_c below_d in_c in_d = refl
