-- Slots that are moved within a block, and rows outside of it.
-- Serves `Layout::renew`, `insert`, `put_among`, `put_at_rank` and `Opened`.
use Rattle.node_table.proofs.Common.{◌≡◌, ℕ, zero, suc, ◌+◌, ◌-◌, ◌<◌, ◌≤◌, List, [], ◌∷◌, ◌++◌, length, set, take, drop, replicate, ◌⊎◌, inl, inr, refl, sym, ap, ◌∙◌, arith, append_assoc, paste, put_mid, remove, copy_within, length-take-le, length-drop, take-take, take_more_set, drop-take, set-append_left, take-append-le, drop-append-le, drop_at, drop-set, drop-set-lt, take-set-le, take-replicate, take-paste, drop-put_mid}
use Rattle.std.specs.List.{insert}

take_set : {X : Type 0} (n : ℕ) (xs : List X) (i : ℕ) (y : X) → take n (set xs i y) ≡ set (take n xs) i y
take_set zero xs i y = refl
take_set (suc n) [] i y = refl
take_set (suc n) (x ∷ xs) zero y = refl
take_set (suc n) (x ∷ xs) (suc i) y = ap (λ ys. x ∷ ys) (take_set n xs i y)

-- the front of a list, closed up over an index
pub closed_up : {X : Type 0} (xs : List X) (index len : ℕ) → index < len → len ≤ length xs → take (len - 1) (copy_within xs (index + 1) len index) ≡ remove (take len xs) index
closed_up xs index len lt within =
    let m : ℕ = len - (index + 1) in
    let end_is : len - 1 ≡ index + m = omega arith in
    let next_is : index + 1 ≡ suc index = omega arith in
    let len_is : suc index + m ≡ len = omega arith in
    ap (λ n. take n (paste xs index (drop (index + 1) xs) m)) end_is
    ∙ take-paste xs index (drop (index + 1) xs) m (omega arith) (omega (arith, length-drop (index + 1) xs))
    ∙ ap (λ n. take index xs ++ take m (drop n xs)) next_is
    ∙ ap (λ ys. take index xs ++ ys) (sym (drop-take (suc index) m xs) ∙ ap (λ n. drop (suc index) (take n xs)) len_is)
    ∙ ap (λ ys. ys ++ drop (suc index) (take len xs)) (sym (take-take index len xs (omega arith)))

-- the front of a list, with an element let in at an index
pub let_in : {X : Type 0} (xs : List X) (rank len : ℕ) (y : X) → rank ≤ len → len < length xs → take (len + 1) (set (copy_within xs rank len (rank + 1)) rank y) ≡ insert (take len xs) rank y
let_in xs rank len y le within =
    let m : ℕ = len - rank in
    let end_is : len + 1 ≡ (rank + 1) + m = omega arith in
    let len_is : rank + m ≡ len = omega arith in
    let front = length-take-le (rank + 1) xs (omega arith) in
    take_set (len + 1) (paste xs (rank + 1) (drop rank xs) m) rank y
    ∙ ap (λ ys. set ys rank y) (ap (λ n. take n (paste xs (rank + 1) (drop rank xs) m)) end_is ∙ take-paste xs (rank + 1) (drop rank xs) m (omega arith) (omega (arith, length-drop rank xs)))
    ∙ set-append_left (take (rank + 1) xs) (take m (drop rank xs)) rank y (omega arith)
    ∙ ap (λ ys. ys ++ take m (drop rank xs)) (sym (take_set (rank + 1) xs rank y) ∙ take_more_set xs rank y (omega arith))
    ∙ append_assoc (take rank xs) (y ∷ []) (take m (drop rank xs))
    ∙ ap (λ ys. ys ++ y ∷ take m (drop rank xs)) (sym (take-take rank len xs le))
    ∙ ap (λ ys. take rank (take len xs) ++ y ∷ ys) (sym (drop-take rank m xs) ∙ ap (λ n. drop rank (take n xs)) len_is)

-- and at its end
pub let_in_last : {X : Type 0} (xs : List X) (len : ℕ) (y : X) → len < length xs → take (len + 1) (set xs len y) ≡ insert (take len xs) len y
let_in_last xs len y within =
    let len_is : len + 0 ≡ len = omega arith in
    take_more_set xs len y within
    ∙ ap (λ ys. ys ++ y ∷ []) (sym (take-take len len xs (omega arith)))
    ∙ ap (λ ys. take len (take len xs) ++ y ∷ ys) (sym (drop-take len 0 xs) ∙ ap (λ n. drop len (take n xs)) len_is)

-- the front of a block that was written
pub take-block : {X : Type 0} (start keys n : ℕ) (xs ys : List X) → start ≤ length xs → n ≤ length ys → take n (drop start (put_mid start keys xs ys)) ≡ take n ys
take-block start keys n xs ys within le =
    ap (take n) (drop_at (take start xs) (ys ++ drop keys (drop start xs)) start (length-take-le start xs within))
    ∙ take-append-le n ys (drop keys (drop start xs)) le

-- what stands before a block that was written, or behind it
pub take-outside : {X : Type 0} (start keys s n : ℕ) (xs ys : List X) → start + keys ≤ length xs → length ys ≡ keys → (s + n ≤ start) ⊎ (start + keys ≤ s) → take n (drop s (put_mid start keys xs ys)) ≡ take n (drop s xs)
take-outside start keys s n xs ys within same (inl before) =
    let m : ℕ = start - s in
    let start_is : s + m ≡ start = omega arith in
    let front = length-take-le start xs (omega arith) in
    let rest = length-drop s (take start xs) in
    ap (take n) (drop-append-le s (take start xs) (ys ++ drop keys (drop start xs)) (omega arith))
    ∙ take-append-le n (drop s (take start xs)) (ys ++ drop keys (drop start xs)) (omega arith)
    ∙ ap (take n) (ap (λ k. drop s (take k xs)) (sym start_is) ∙ drop-take s m xs)
    ∙ take-take n m (drop s xs) (omega arith)
take-outside start keys s n xs ys within same (inr behind) = ap (take n) (drop-put_mid start keys xs ys s behind (omega arith) same)

-- what stands among the slots stands there still where more are laid behind
pub take-behind : {X : Type 0} (s n : ℕ) (xs ys : List X) → s + n ≤ length xs → take n (drop s (xs ++ ys)) ≡ take n (drop s xs)
take-behind s n xs ys within =
    ap (take n) (drop-append-le s xs ys (omega arith))
    ∙ take-append-le n (drop s xs) ys (omega (arith, length-drop s xs))

-- a new block begins with what fills it
pub take-new : {X : Type 0} (keys : ℕ) (xs : List X) (y : X) → 1 ≤ keys → take 1 (drop (length xs) (xs ++ replicate keys y)) ≡ y ∷ []
take-new keys xs y some = ap (take 1) (drop_at xs (replicate keys y) (length xs) refl) ∙ take-replicate 1 keys y some

-- a row outside of a slot that was written
pub take-set_outside : {X : Type 0} (i s n : ℕ) (xs : List X) (y : X) → (s + n ≤ i) ⊎ (i < s) → take n (drop s (set xs i y)) ≡ take n (drop s xs)
take-set_outside i s n xs y (inl before) = sym (drop-take s n (set xs i y)) ∙ ap (drop s) (take-set-le (s + n) xs i y before) ∙ drop-take s n xs
take-set_outside i s n xs y (inr behind) = ap (take n) (drop-set-lt s xs i y behind)

-- and the row of that slot alone
pub take-set_here : {X : Type 0} (i : ℕ) (xs : List X) (y : X) → i < length xs → take 1 (drop i (set xs i y)) ≡ y ∷ []
take-set_here i xs y lt = ap (take 1) (drop-set xs i y lt)

pub length-block : {X : Type 0} (start keys : ℕ) (xs : List X) → start + keys ≤ length xs → length (take (start + keys - start) (drop start xs)) ≡ keys
length-block start keys xs within =
    let keys_is : start + keys - start ≡ keys = omega arith in
    ap (λ k. length (take k (drop start xs))) keys_is ∙ length-take-le keys (drop start xs) (omega (arith, length-drop start xs))
