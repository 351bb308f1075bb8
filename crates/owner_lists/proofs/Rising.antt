-- Lists of writes that rise by key: what a search finds, and what an edit at an index does to the look-ups.
-- Serves `put`, `search`, `write_in` and `Keeping`.
use Rattle.owner_lists.proofs.Common.{◌≡◌, ◌≢◌, ℕ, zero, suc, ◌+◌, ◌<◌, false, cond, List, [], ◌∷◌, length, get_or, set, Some, None, Result, Ok, Err, IfOk, IfErr, inl, inr, refl, sym, ap, ◌∙◌, subst, arith, T, Less, Equal, Greater, nat_cmp, is_lt, is_eq, ranked, nat_cmp_total, insert, IsSearchInRange, IsBinarySearchResult, IsSortedBy, put, is_sorted, below_all, by_order, is_sorted-put, cases_lt, searchable_from_sorted, Write, first, second, less, nat_cmp-less, nat_cmp-equal, nat_cmp-greater}
use Rattle.std.specs.FinMap.{find}
use Rattle.owner_lists.specs.Latest.{keyed, KeysRise}
use Rattle.owner_lists.specs.inner.Keys.{IsIndexOfKey, IsGapForKey}

below_at : (key : ℕ) (ws : List Write) (i : ℕ) (d : Write) → T (below_all nat_cmp key (keyed ws)) → i < length ws → key < (get_or ws i d).key
below_at key [] i d h lt = absurd (omega arith)
below_at key (w ∷ ws) zero d h lt = ranked key w.key Less (sym (less _ (first _ _ h)))
below_at key (w ∷ ws) (suc i) d h lt = below_at key ws i d (second _ _ h) (omega arith)

-- of two writes the earlier has the lesser key
pub rising_at : (ws : List Write) (i j : ℕ) (d e : Write) → KeysRise ws → i < j → j < length ws → (get_or ws i d).key < (get_or ws j e).key
rising_at [] i j d e h lt in_range = absurd (omega arith)
rising_at (w ∷ ws) i zero d e h lt in_range = absurd (omega arith)
rising_at (w ∷ ws) zero (suc j) d e h lt in_range = below_at w.key ws j e (first _ _ h) (omega arith)
rising_at (w ∷ ws) (suc i) (suc j) d e h lt in_range = rising_at ws i j d e (second _ _ h) (omega arith) (omega arith)

-- the write at an index is found by its key
pub find-at : (ws : List Write) (key i : ℕ) (d : Write) → KeysRise ws → i < length ws → (get_or ws i d).key ≡ key → find nat_cmp key (keyed ws) ≡ Some (get_or ws i d)
find-at [] key i d rising lt here = absurd (omega arith)
find-at (w ∷ ws) key zero d rising lt here = ap (λ r. cond (is_eq r) (Some w) (find nat_cmp key (keyed ws))) (nat_cmp-equal key w.key (sym here))
find-at (w ∷ ws) key (suc i) d rising lt here =
    ap (λ r. cond (is_eq r) (Some w) (find nat_cmp key (keyed ws))) (nat_cmp-greater key w.key (subst (λ k. w.key < k) here (below_at w.key ws i d (first _ _ rising) (omega arith))))
    ∙ find-at ws key i d (second _ _ rising) (omega arith) here

-- a key that no write has is not found
pub find-none : (ws : List Write) (key : ℕ) → ((i : ℕ) (d : Write) → i < length ws → (get_or ws i d).key ≢ key) → find nat_cmp key (keyed ws) ≡ None
find-none [] key apart = refl
find-none (w ∷ ws) key apart =
    let ne : key ≢ w.key = λ e. apart 0 w (omega arith) (sym e) in
    ap (λ b. cond b (Some w) (find nat_cmp key (keyed ws))) (unequal key w.key ne)
    ∙ find-none ws key (λ i d lt. apart (suc i) d (omega arith))
  where
    unequal : (m n : ℕ) → m ≢ n → is_eq (nat_cmp m n) ≡ false
    unequal m n ne = elim (cases_lt m n) [
      | inl lt ↦ ap is_eq (nat_cmp-less m n lt)
      | inr le ↦ ap is_eq (nat_cmp-greater m n (omega arith))
    ]

-- as where it has a gap
pub find-gap : (ws : List Write) (key i : ℕ) → IsGapForKey ws key i → find nat_cmp key (keyed ws) ≡ None
find-gap ws key i gap = find-none ws key (λ j d lt same. elim (cases_lt j i) [
  | inl before ↦ omega (arith, gap.below j d before)
  | inr behind ↦ omega (arith, gap.above j d behind lt)
])

-- to put a write where its key stands is to set it there
pub put_at : (ws : List Write) (w : Write) (i : ℕ) → KeysRise ws → IsIndexOfKey ws w.key i → put nat_cmp w.key w (keyed ws) ≡ keyed (set ws i w)
put_at [] w i rising at = absurd (omega (arith, at.in_range))
put_at (v ∷ ws) w zero rising at =
    ap (λ r. by_order r ((w.key, w) ∷ keyed (v ∷ ws)) ((v.key, w) ∷ keyed ws) ((v.key, v) ∷ put nat_cmp w.key w (keyed ws))) (nat_cmp-equal w.key v.key (sym (at.here v)))
    ∙ ap (λ (k : ℕ). (k, w) ∷ keyed ws) (at.here v)
put_at (v ∷ ws) w (suc i) rising at =
    ap (λ r. by_order r ((w.key, w) ∷ keyed (v ∷ ws)) ((v.key, w) ∷ keyed ws) ((v.key, v) ∷ put nat_cmp w.key w (keyed ws))) (nat_cmp-greater w.key v.key (subst (λ k. v.key < k) (at.here v) (below_at v.key ws i v (first _ _ rising) (omega (arith, at.in_range)))))
    ∙ ap (λ es. (v.key, v) ∷ es) (put_at ws w i (second _ _ rising) (record { in_range = omega (arith, at.in_range); here = λ d. at.here d }))

-- to put a write in its gap is to insert it there
pub put_gap : (ws : List Write) (w : Write) (i : ℕ) → IsGapForKey ws w.key i → put nat_cmp w.key w (keyed ws) ≡ keyed (insert ws i w)
put_gap [] w zero gap = refl
put_gap [] w (suc i) gap = absurd (omega (arith, gap.in_range))
put_gap (v ∷ ws) w zero gap =
    ap (λ r. by_order r ((w.key, w) ∷ keyed (v ∷ ws)) ((v.key, w) ∷ keyed ws) ((v.key, v) ∷ put nat_cmp w.key w (keyed ws))) (nat_cmp-less w.key v.key (gap.above 0 v (omega arith) (omega arith)))
put_gap (v ∷ ws) w (suc i) gap =
    ap (λ r. by_order r ((w.key, w) ∷ keyed (v ∷ ws)) ((v.key, w) ∷ keyed ws) ((v.key, v) ∷ put nat_cmp w.key w (keyed ws))) (nat_cmp-greater w.key v.key (gap.below 0 v (omega arith)))
    ∙ ap (λ es. (v.key, v) ∷ es) (put_gap ws w i (record {
      in_range = omega (arith, gap.in_range);
      below = λ j d lt. gap.below (suc j) d (omega arith);
      above = λ j d le lt. gap.above (suc j) d (omega arith) (omega arith);
    }))

pub rising_put : (ws vs : List Write) (w : Write) → KeysRise ws → put nat_cmp w.key w (keyed ws) ≡ keyed vs → KeysRise vs
rising_put ws vs w rising is = subst (λ es. T (is_sorted nat_cmp es)) is (is_sorted-put nat_cmp nat_cmp_total w.key w (keyed ws) rising)

sorted_of_rising : (ws : List Write) → KeysRise ws → IsSortedBy (λ a b. is_lt (nat_cmp a.key b.key)) ws
sorted_of_rising ws rising k d from in_range = ap is_lt (nat_cmp-greater (get_or ws (k + 1) d).key (get_or ws k d).key (rising_at ws k (k + 1) d d rising (omega arith) in_range))

pub searched : (ws : List Write) (key : ℕ) (r : Result ℕ ℕ) → KeysRise ws → IsSearchInRange r (length ws) → IsBinarySearchResult (λ w. nat_cmp w.key key) ws r → record { found : IfOk r (IsIndexOfKey ws key); absent : IfErr r (IsGapForKey ws key) }
searched ws key (Ok i) rising in_range here = record { found = record { in_range = in_range; here = λ d. ranked (get_or ws i d).key key Equal (sym (here d)) }; absent = tt }
searched ws key (Err i) rising in_range parted =
    let parts = parted (searchable_from_sorted nat_cmp_total (λ (w : Write). w.key) ws key (sorted_of_rising ws rising)) in
    record {
      found = tt;
      absent = record {
        in_range = in_range;
        below = λ j d lt. ranked (get_or ws j d).key key Less (sym (parts.0 j d (omega arith) lt));
        above = λ j d le lt. ranked (get_or ws j d).key key Greater (sym (parts.1 j d le lt));
      };
    }
