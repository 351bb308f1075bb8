-- What is counted of tables doesn't depend on where their numbers lie.
-- Serves `version_tables`.
use Rattle.version_lags.proofs.Common.{◌≡◌, ℕ, zero, suc, ◌+◌, ◌*◌, ◌/◌, ◌%◌, ◌<◌, ◌≤◌, List, length, map, slice_index, sym, ◌∙◌, subst, arith, cell, Table, OwnerListView, IsLastNumber, RoundNumbers, histories_of, numbers_in, numbers_seen, AreNumbersOf, AreRoundNumbers, CountsPiece, div-lt_iff_lt-mul, ext_get_or}

-- a key has one last number
last-upto : (v : OwnerListView) (key m n : ℕ) → IsLastNumber v key m → IsLastNumber v key n → n ≤ m
last-upto v key m n one two =
    let below = λ (before : m < n). one.last n (two.there m before).0 (two.there m before).1 in
    grind arith

-- planes are alike where all of their places are
places-alike : (nodes keys : ℕ) (xs ys : List ℕ) → length xs ≡ keys * nodes → length ys ≡ keys * nodes
    → ((r k : ℕ) → r < nodes → k < keys → cell xs nodes r k ≡ cell ys nodes r k) → xs ≡ ys
places-alike zero keys xs ys one other each = ext_get_or 0 xs ys (one ∙ sym other) (λ i lt. absurd (omega arith))
places-alike (suc n) keys xs ys one other each = ext_get_or 0 xs ys (one ∙ sym other) (λ i lt.
    let some : 0 < suc n = omega arith in let same : i / suc n * suc n + i % suc n ≡ i = omega arith in
    subst (λ j. slice_index xs j ≡ slice_index ys j) same (each (i % suc n) (i / suc n) (omega arith) ((div-lt_iff_lt-mul some).1 (omega arith))))

module _ {N : Type 0} (number : N → ℕ) (most : ℕ) (tables : List Table) (a b : RoundNumbers N)
    (of_a : AreRoundNumbers number most a tables) (of_b : AreRoundNumbers number most b tables)
    (same : histories_of a ≡ histories_of b) (cells : numbers_in number a.cells.now ≡ numbers_in number b.cells.now) where
  pub counts-alike : (from to stale leftover : ℕ) (least : List ℕ) → CountsPiece (numbers_seen number a) from to stale leftover least
      → CountsPiece (numbers_seen number b) from to stale leftover least
  counts-alike from to stale leftover least =
      let one = subst (λ h. AreNumbersOf tables h (numbers_in number a.cells.now) (map number a.bases.now) (map number a.last.now)) same of_a.are in
      let two = of_b.are in let bases = ext_get_or 0 _ _ (one.based.size ∙ sym two.based.size)
      (λ r lt. one.based.each r (omega arith) ∙ sym (two.based.each r (omega arith))) in
      let last = places-alike _ _ _ _ one.lasts.size two.lasts.size (λ r k in_r in_k.
      let first = one.lasts.each r k in_r in_k in let second = two.lasts.each r k in_r in_k in
      omega (arith, last-upto _ k _ _ first second, last-upto _ k _ _ second first)) in
      let seen : numbers_seen number a ≡ numbers_seen number b =
      λ i. record { nodes = length (same i).lists; keys = (same i).keys; tables = cells i; bases = bases i; last = last i } in
      subst (λ v. CountsPiece v from to stale leftover least) seen
