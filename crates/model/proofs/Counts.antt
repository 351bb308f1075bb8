-- Which elements of a list pass a test that holds on one stretch of it, and how many.
-- Serves `Apart`, `Picked`, `Places`, `delta_plans` and `reconcile`.
use Rattle.model.proofs.Common.{◌≡◌, ℕ, zero, suc, ◌+◌, ◌-◌, ◌<◌, ◌≤◌, Bool, true, false, cond, not, List, [], ◌∷◌, length, take, drop, get_or, ◌⊎◌, inl, inr, refl, sym, ap, ◌∙◌, arith, filter, count_by, length-take-le, length-drop, sum_by-cons, length-filter}
use Rattle.std.specs.Prelude.{Contains}

module _ {X : Type 0} (p : X → Bool) where
  -- one step of a count
  pub count_by-cons_true : (x : X) (xs : List X) → p x ≡ true → count_by p (x ∷ xs) ≡ suc (count_by p xs)
  count_by-cons_true x xs e = sum_by-cons (λ y. cond (p y) 1 0) x xs ∙ ap (λ b. cond b 1 0 + count_by p xs) e ∙ omega arith

  pub count_by-cons_false : (x : X) (xs : List X) → p x ≡ false → count_by p (x ∷ xs) ≡ count_by p xs
  count_by-cons_false x xs e = sum_by-cons (λ y. cond (p y) 1 0) x xs ∙ ap (λ b. cond b 1 0 + count_by p xs) e ∙ omega arith

  -- the test holds from index a to index b and nowhere else: what it keeps
  pub filter-stretch : (xs : List X) (a b : ℕ) → a ≤ b → b ≤ length xs → ((i : ℕ) (d : X) → a ≤ i → i < b → p (get_or xs i d) ≡ true) → ((i : ℕ) (d : X) → i < length xs → (i < a) ⊎ (b ≤ i) → p (get_or xs i d) ≡ false) → filter p xs ≡ take (b - a) (drop a xs)
  filter-stretch [] zero zero le in_range holds fails = refl
  filter-stretch [] zero (suc b) le in_range holds fails = absurd (omega arith)
  filter-stretch [] (suc a) b le in_range holds fails = absurd (omega arith)
  filter-stretch (x ∷ xs) zero zero le in_range holds fails =
      ap (λ c. cond c (x ∷ filter p xs) (filter p xs)) (fails 0 x (omega arith) (inr (omega arith)))
      ∙ filter-stretch xs 0 0 le (omega arith) (λ i d from to. absurd (omega arith)) (λ i d lt _. fails (suc i) d (omega arith) (inr (omega arith)))
  filter-stretch (x ∷ xs) zero (suc b) le in_range holds fails =
      ap (λ c. cond c (x ∷ filter p xs) (filter p xs)) (holds 0 x (omega arith) (omega arith))
      ∙ ap (λ ys. x ∷ ys) (filter-stretch xs 0 b (omega arith) (omega arith) (λ i d from to. holds (suc i) d (omega arith) (omega arith)) (λ i d lt outside. fails (suc i) d (omega arith) (inr (later i b outside))))
      ∙ ap (λ n. take n (x ∷ xs)) {x = suc (b - 0)} {y = suc b - 0} (omega arith)
    where
      later : (i b : ℕ) → (i < 0) ⊎ (b ≤ i) → suc b ≤ suc i
      later i b (inl lt) = absurd (omega arith)
      later i b (inr le) = omega arith
  filter-stretch (x ∷ xs) (suc a) zero le in_range holds fails = absurd (omega arith)
  filter-stretch (x ∷ xs) (suc a) (suc b) le in_range holds fails =
      ap (λ c. cond c (x ∷ filter p xs) (filter p xs)) (fails 0 x (omega arith) (inl (omega arith)))
      ∙ filter-stretch xs a b (omega arith) (omega arith) (λ i d from to. holds (suc i) d (omega arith) (omega arith)) (λ i d lt outside. fails (suc i) d (omega arith) (moved i a b outside))
      ∙ ap (λ n. take n (drop a xs)) {x = b - a} {y = suc b - suc a} (omega arith)
    where
      moved : (i a b : ℕ) → (i < a) ⊎ (b ≤ i) → (suc i < suc a) ⊎ (suc b ≤ suc i)
      moved i a b (inl lt) = inl (omega arith)
      moved i a b (inr le) = inr (omega arith)

  -- and how much that is
  pub count_by-stretch : (xs : List X) (a b : ℕ) → a ≤ b → b ≤ length xs → ((i : ℕ) (d : X) → a ≤ i → i < b → p (get_or xs i d) ≡ true) → ((i : ℕ) (d : X) → i < length xs → (i < a) ⊎ (b ≤ i) → p (get_or xs i d) ≡ false) → count_by p xs ≡ b - a
  count_by-stretch xs a b le in_range holds fails =
      sym (length-filter p xs) ∙ ap length (filter-stretch xs a b le in_range holds fails) ∙ length-take-le (b - a) (drop a xs) (omega (arith, length-drop a xs))

-- those that pass and those that don't are all
pub count_by-not : {X : Type 0} (q : X → Bool) (xs : List X) → count_by q xs + count_by (λ x. not (q x)) xs ≡ length xs
count_by-not q [] = omega arith
count_by-not q (x ∷ xs) =
    let rest = count_by-not q xs in
    elim (q x) as (λ b. q x ≡ b → count_by q (x ∷ xs) + count_by (λ y. not (q y)) (x ∷ xs) ≡ suc (length xs)) [
      | true ↦ λ e. omega (arith, rest, count_by-cons_true q x xs e, count_by-cons_false (λ y. not (q y)) x xs (ap not e))
      | false ↦ λ e. omega (arith, rest, count_by-cons_false q x xs e, count_by-cons_true (λ y. not (q y)) x xs (ap not e))
    ] refl
