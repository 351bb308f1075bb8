use Rattle.round_plan.proofs.Common.{◌≡◌, ◌==◌, ℕ, zero, suc, ◌+◌, ◌-◌, ◌<◌, ◌≤◌, Bool, true, false, not, ◌&&◌, List, length, get_or, Result, MatchResult, is_ok, refl, sym, subst, inl, inr, arith, ap, ◌∙◌, Ok, Err, list_any, IsStrictlyIncreasing, IsBinarySearchResult, nat_cmp, cases_lt, nat_tests, or_at, or_from_places, searched, beq}
use mathlib.Core.Bool.{xor}
use Rattle.round_plan.specs.Outages.{separates, is_between, lists}
use Rattle.round_plan.proofs.outages.separates.Goals as goal

-- numbers that rise at each step rise over any distance
rises : (xs : List ℕ) (i n : ℕ) → IsStrictlyIncreasing xs → i + n < length xs → get_or xs i 0 ≤ get_or xs (i + n) 0
rises xs i zero up within = let e : i ≡ i + zero = omega arith in subst (λ k. get_or xs i 0 ≤ get_or xs k 0) e (omega arith)
rises xs i (suc n) up within =
    let e : i + n + 1 ≡ i + suc n = omega arith in
    subst (λ k. get_or xs i 0 ≤ get_or xs k 0) e (omega (arith, rises xs i n up (omega arith), up (i + n) (omega arith)))

abbrev Says : List ℕ → ℕ → Result ℕ ℕ → Type 0
Says xs x r = MatchResult r (λ i. (i < length xs) × (get_or xs i 0 ≡ x)) (λ i. (i ≤ length xs) × ((k : ℕ) → k < i → get_or xs k 0 < x) × ((k : ℕ) → i ≤ k → k < length xs → x < get_or xs k 0))

found : (xs : List ℕ) (x : ℕ) (r : Result ℕ ℕ) → Says xs x r → is_ok r ≡ list_any (λ n. n == x) xs
found xs x (Ok i) h = sym (or_at (list_any (λ n. n == x)) (λ n. n == x) refl (λ _ _. refl) xs i 0 h.0 (grind (arith, nat_tests)))
found xs x (Err i) h = sym (or_from_places (list_any (λ n. n == x)) (λ n. n == x) refl (λ _ _. refl) xs 0 (λ k lt.
    elim (cases_lt k i) [
      | inl before ↦ let less = h.1 k before in grind (arith, nat_tests)
      | inr behind ↦ let more = h.2 k behind lt in grind (arith, nat_tests)
    ]))

searched_is : (xs : List ℕ) (x : ℕ) (r : Result ℕ ℕ) → IsStrictlyIncreasing xs → IsBinarySearchResult (λ y. nat_cmp y x) xs r → is_ok r ≡ list_any (λ n. n == x) xs
searched_is xs x r up search_result =
    found xs x r (searched xs x r search_result (λ i j le lt.
    let e : i + (j - i) ≡ j = omega arith in
    subst (λ k. get_or xs i 0 ≤ get_or xs k 0) e (rises xs i (j - i) up (omega arith))))

-- a binary search in numbers that rise finds what the list has
has : (xs apart : List ℕ) (x : ℕ) (r : Result ℕ ℕ) (b : Bool) → IsStrictlyIncreasing apart → xs ≡ apart → IsBinarySearchResult (λ y. nat_cmp y x) xs r → b ≡ is_ok r → b ≡ list_any (λ n. n == x) apart
has xs apart x r b up same search_result is =
    is ∙ searched_is xs x r (subst IsStrictlyIncreasing (sym same) up) search_result ∙ ap (list_any (λ n. n == x)) same

differ_xor : (a b : Bool) → not (beq a b) ≡ xor a b
unfolding xor
differ_xor true true = refl
differ_xor true false = refl
differ_xor false true = refl
differ_xor false false = refl

pub returns-then-is_between : goal.returns-then-is_between
unfolding separates
returns-then-is_between c =
    let up = rw (← c.partition.view_is) at c.requires in
    let between : is_between c.args.partition.now.from c.args.partition.now.to c.args.round ≡ true =
    rw (← c.partition.view_is) (sym c.is_between.ensures ∙ c.if-is_between.true) in
    let has_p : c.is_ok.result ≡ lists c.args.partition.now c.args.p =
    rw (← c.partition.view_is) (has _ _ c.args.p c.binary_search.result _ up c.deref.ensures.value c.binary_search.ensures.position c.is_ok.ensures.value) in
    let has_q : c.is_ok-then-is_between.result ≡ lists c.args.partition.now c.args.q =
    rw (← c.partition.view_is) (has _ _ c.args.q c.binary_search-then-is_between.result _ up c.deref-then-is_between.ensures.value c.binary_search-then-is_between.ensures.position c.is_ok-then-is_between.ensures.value) in
    differ_xor c.is_ok.result c.is_ok-then-is_between.result
    ∙ (λ i. xor (has_p i) (has_q i))
    ∙ ap (λ b. b && xor (lists c.args.partition.now c.args.p) (lists c.args.partition.now c.args.q)) (sym between)

pub returns-else-is_between : goal.returns-else-is_between
unfolding separates
returns-else-is_between c =
    let between : is_between c.args.partition.now.from c.args.partition.now.to c.args.round ≡ false =
    rw (← c.partition.view_is) (sym c.is_between.ensures ∙ c.if-is_between.false) in
    c.if-is_between.false
    ∙ ap (λ b. b && xor (lists c.args.partition.now c.args.p) (lists c.args.partition.now c.args.q)) (sym between)
