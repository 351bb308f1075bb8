-- Lists that are changed element by element.
-- Serves the functions of `grids`, `owners` and `planes`, `delta_plans` and `grids`.
use Rattle.planes.proofs.Common.{◌≡◌, ℕ, ◌+◌, ◌<◌, ◌≤◌, List, length, get_or, set, map, sym, ap, ◌∙◌, subst, arith, below_more, get_or-set_same, get_or-set_other, length-set, get_or-map, length-map, map-set, Bool, cond, AreChangedUpto, AreChanged, IsMade, AreCountedUpto}
use Rattle.planes.proofs.Counts.{count_next, count_same}

-- what is read at an index, as a number
pub number-at : {N : Type 0} (number : N → ℕ) (xs : List N) (r : ℕ) (x : N) → r < length xs → x ≡ get_or xs r x → number x ≡ get_or (map number xs) r 0
number-at number xs r x lt is = ap number is ∙ sym (get_or-map number xs r x 0 lt)

module _ (changed : ℕ → ℕ → ℕ → Type 0) (old : List ℕ) where
  -- what is read at an index whose turn is still to come
  pub number-waits : {N : Type 0} (number : N → ℕ) (new : List N) (r : ℕ) (x : N) → AreChangedUpto changed old (map number new) r
      → r < length new → x ≡ get_or new r x → number x ≡ get_or old r 0
  number-waits number new r x before lt is = number-at number new r x lt is ∙ before.from r (omega arith)

  pub changed_all : (new : List ℕ) (bound : ℕ) → AreChangedUpto changed old new bound → length old ≤ bound → AreChanged changed old new
  changed_all new bound is le = record { size = is.size; each = λ r lt. is.below r (omega arith) }

  -- one more number is left as it was
  pub left_next : (new : List ℕ) (bound : ℕ) → AreChangedUpto changed old new bound → changed bound (get_or old bound 0) (get_or old bound 0)
      → AreChangedUpto changed old new (bound + 1)
  left_next new bound is same = record {
    size = is.size;
    below = below_more (λ k. changed k (get_or old k 0) (get_or new k 0)) bound is.below (rw (is.from bound (omega arith)) same);
    from = λ r le. is.from r (omega arith);
  }

  -- one more number is written
  pub written_next : {N : Type 0} (number : N → ℕ) (new : List N) (bound : ℕ) (x : N) → AreChangedUpto changed old (map number new) bound
      → bound < length old → changed bound (get_or old bound 0) (number x) → AreChangedUpto changed old (map number (set new bound x)) (bound + 1)
  written_next number new bound x is lt now =
      let xs = map number new in
      rw (map-set number new bound x) (record {
        size = length-set xs bound (number x) ∙ is.size;
        below = below_more (λ k. changed k (get_or old k 0) (get_or (set xs bound (number x)) k 0)) bound
            (λ r below. rw (get_or-set_other xs bound r (number x) 0 (λ e. omega arith)) (is.below r below))
            (rw (get_or-set_same xs bound (number x) 0 (omega arith)) now);
        from = λ r le. get_or-set_other xs bound r (number x) 0 (λ e. omega arith) ∙ is.from r (omega arith);
      })

  -- those that pass a test are counted
  module _ (test : ℕ → Bool) where
    pub counted_next : {N : Type 0} (number : N → ℕ) (new : List N) (bound to before passed now more : ℕ) (x : N)
        → AreCountedUpto changed test old (map number new) bound (before + passed) → bound < length new → bound + 1 ≡ to
        → changed bound (get_or old bound 0) (number x) → now ≡ passed + more → more ≡ cond (test bound) 1 0
        → AreCountedUpto changed test old (map number (set new bound x)) to (before + now)
    counted_next number new bound to before passed now more x is lt next made plus one = record {
      numbers = rw (← next) (written_next number new bound x is.numbers (omega (arith, length-map new number)) made);
      count = count_next test bound to before passed now is.count next plus one;
    }

    -- a loop over a part begins where the part before it ends
    pub counted-same : (new : List ℕ) (bound to count now : ℕ) → AreCountedUpto changed test old new bound count → bound ≡ to → count ≡ now
        → AreCountedUpto changed test old new to now
    counted-same new bound to count now is at same = record {
      numbers = subst (AreChangedUpto changed old new) at is.numbers;
      count = count_same test bound to count now is.count at same;
    }

-- what calls make of numbers, where each makes what a function does
pub made-as : {N : Type 0} (number : N → ℕ) (makes : ℕ → N → N → Type 0) (r x y : ℕ) (f : ℕ → ℕ) → IsMade number makes r x y
    → ((n m : N) → makes r n m → number m ≡ f (number n)) → y ≡ f x
made-as number makes r x y f made step = sym made.is ∙ step made.from made.to made.made ∙ ap f made.was
