-- How the writes of an owner grow from round to round, in its generation and over all of them.
-- Serves `writes_by`, `Written`, `cluster`, `played_rounds`, `run_laws` and `runs`.
use Rattle.round_plan.proofs.Common.{◌≡◌, ℕ, zero, suc, ◌+◌, ◌-◌, ◌*◌, ◌<◌, ◌≤◌, Bool, true, false, if◌then◌else◌, List, [], ◌∷◌, ◌++◌, map, reverse, find, option_map, unwrap_or, Some, length, get_or, All, refl, sym, ap, ◌∙◌, subst, inl, inr, arith, length-append, range_with_len, get_or-append, mod-lt, cases_lt, cond_both, length-map, length-reverse, get_or-reverse, get_or-append_right, get_or-map, All-nil, All-tail, All-map, length-map-range_with_len, get_or-map-range_with_len, Entry, IsNextAfter, AreNextAfter, MOST_WRITES, Load, Settings, IsLawfulScenario}
use Rattle.round_plan.specs.declared.owners.OwnWrite.{OwnWrite}
use Rattle.round_plan.specs.Generations.{generation_upto}
use Rattle.round_plan.specs.Outages.{is_up, forgets_now}
use Rattle.round_plan.specs.Writes.{covers, writes_in, count_upto, count_before, own_write_at, own_writes, writes_upto, written_upto}
use Rattle.round_plan.specs.calls.Writes.{born_in, writes_before}

-- how many writes a node makes in a round
abbrev now : Settings → ℕ → ℕ → ℕ
now s owner round = if is_up s owner round then writes_in s round else 0

length_if : {X : Type 0} (b : Bool) (xs : List X) → length (if b then xs else []) ≡ (if b then length xs else 0)
length_if true xs = refl
length_if false xs = refl

All_if : {X : Type 0} (P : X → Type 0) (b : Bool) (xs : List X) → All P xs → All P (if b then xs else [])
All_if P true xs all = all
All_if P false xs all = All-nil P

pub length-own_writes : (s : Settings) (owner round before : ℕ) → length (own_writes s owner round before) ≡ (if is_up s owner round then writes_in s round else 0)
length-own_writes s owner round before =
    length_if (is_up s owner round) (map (own_write_at s owner round before) (range_with_len 0 (writes_in s round)))
    ∙ ap (λ n. if is_up s owner round then n else 0) (length-map-range_with_len (own_write_at s owner round before) 0 (writes_in s round))

-- the writes of a round are of the generation that it has, and their versions follow those before it
pub next-own_writes : (s : Settings) (owner round before : ℕ) → AreNextAfter (generation_upto s owner round) before (own_writes s owner round before)
next-own_writes s owner round before i w lt = at (is_up s owner round) lt
  where
    at : (b : Bool) → i < length (if b then map (own_write_at s owner round before) (range_with_len 0 (writes_in s round)) else [])
        → IsNextAfter (generation_upto s owner round) (before + i) (get_or (if b then map (own_write_at s owner round before) (range_with_len 0 (writes_in s round)) else []) i w)
    at false below = absurd (omega arith)
    at true below =
        let is = get_or-map-range_with_len (own_write_at s owner round before) 0 (writes_in s round) i i w
        (omega (arith, length-map-range_with_len (own_write_at s owner round before) 0 (writes_in s round))) (omega arith) in
        (ap (λ (x : Entry). x.generation) is, ap (λ (x : Entry). x.version) is)

-- each write is to a key that there is
pub keys-own_writes : (s : Settings) (owner round before : ℕ) → 1 ≤ s.keys → All (λ w. w.key < s.keys) (own_writes s owner round before)
keys-own_writes s owner round before some =
    All_if (λ (w : Entry). w.key < s.keys) (is_up s owner round) (map (own_write_at s owner round before) (range_with_len 0 (writes_in s round)))
    (All-map (λ (w : Entry). w.key < s.keys) (own_write_at s owner round before) (range_with_len 0 (writes_in s round)) (λ k d lt. mod-lt _ some))

-- and keys are those of the writes without their round and generation
pub keys-born_in : (keys round generation : ℕ) (ws : List OwnWrite) → All (λ e. e.key < keys) (map (born_in round generation) ws) → All (λ w. w.key < keys) ws
keys-born_in keys round generation ws all k d lt =
    let born = born_in round generation in
    subst (λ (e : Entry). e.key < keys) (get_or-map born ws k d (born d) lt) (all k (born d) (omega (arith, lt, length-map ws born)))

-- the writes of a round are born in it
pub born-own_writes : (s : Settings) (owner round before : ℕ) → All (λ e. e.born ≡ round) (own_writes s owner round before)
born-own_writes s owner round before =
    All_if (λ (e : Entry). e.born ≡ round) (is_up s owner round) (map (own_write_at s owner round before) (range_with_len 0 (writes_in s round)))
    (All-map (λ (e : Entry). e.born ≡ round) (own_write_at s owner round before) (range_with_len 0 (writes_in s round)) (λ k d lt. refl))

-- what is left of a list where a node may forget it
pub length_unless : {X : Type 0} (b : Bool) (xs : List X) → length (if b then [] else xs) ≡ (if b then 0 else length xs)
length_unless true xs = refl
length_unless false xs = refl

pub length-writes_upto : (s : Settings) (owner round : ℕ) → length (writes_upto s owner round) ≡ count_upto s owner round
length-writes_upto s owner zero = refl
length-writes_upto s owner (suc round) =
    length-append (if forgets_now s owner (suc round) then [] else writes_upto s owner round) (own_writes s owner (suc round) (count_before s owner (suc round)))
    ∙ (λ i. (length_unless (forgets_now s owner (suc round)) (writes_upto s owner round) ∙ ap (λ n. if forgets_now s owner (suc round) then 0 else n) (length-writes_upto s owner round)) i
    + length-own_writes s owner (suc round) (count_before s owner (suc round)) i)

pub length-writes_before : (s : Settings) (owner round : ℕ) → length (writes_before s owner round) ≡ count_before s owner round
length-writes_before s owner zero = refl
length-writes_before s owner (suc round) =
    length_unless (forgets_now s owner (suc round)) (writes_upto s owner round)
    ∙ ap (λ n. if forgets_now s owner (suc round) then 0 else n) (length-writes_upto s owner round)

-- the counts of a round, where the round before is written as a difference
pub count_upto-grown : (s : Settings) (owner round : ℕ) → 1 ≤ round → count_upto s owner round ≡ count_before s owner round + length (own_writes s owner round (count_before s owner round))
count_upto-grown s owner zero some = absurd (omega arith)
count_upto-grown s owner (suc last) some =
    ap (λ n. count_before s owner (suc last) + n) (sym (length-own_writes s owner (suc last) (count_before s owner (suc last))))

-- a round begins to write with the writes of the round before, and with none where the node forgets
pub writes_before-grown : (s : Settings) (owner round : ℕ) → 1 ≤ round → writes_before s owner round ≡ (if forgets_now s owner round then [] else writes_upto s owner (round - 1))
writes_before-grown s owner zero some = absurd (omega arith)
writes_before-grown s owner (suc last) some =
    let e : last ≡ suc last - 1 = omega arith in
    ap (λ b. if forgets_now s owner (suc last) then [] else writes_upto s owner b) e

-- with as many as the round before, and with none where the node forgets
pub count_before-grown : (s : Settings) (owner round : ℕ) → 1 ≤ round → count_before s owner round ≡ (if forgets_now s owner round then 0 else count_upto s owner (round - 1))
count_before-grown s owner zero some = absurd (omega arith)
count_before-grown s owner (suc last) some =
    let e : last ≡ suc last - 1 = omega arith in
    ap (λ b. if forgets_now s owner (suc last) then 0 else count_upto s owner b) e

-- the writes of a round, put behind those before them
pub writes_upto-grown : (s : Settings) (owner round before : ℕ) → 1 ≤ round → length (writes_before s owner round) ≡ before → writes_upto s owner round ≡ writes_before s owner round ++ own_writes s owner round before
writes_upto-grown s owner zero before some is = absurd (omega arith)
writes_upto-grown s owner (suc last) before some is =
    ap (λ n. writes_before s owner (suc last) ++ own_writes s owner (suc last) n) (sym (length-writes_before s owner (suc last)) ∙ is)

-- and behind those of all generations
pub written_upto-grown : (s : Settings) (owner round before : ℕ) → 1 ≤ round → count_before s owner round ≡ before → written_upto s owner round ≡ written_upto s owner (round - 1) ++ own_writes s owner round before
written_upto-grown s owner zero before some is = absurd (omega arith)
written_upto-grown s owner (suc last) before some is =
    let e : last ≡ suc last - 1 = omega arith in
    λ i. written_upto s owner (e i) ++ own_writes s owner (suc last) (is i)

-- two lists of a generation, one after the other
next-append : (generation count : ℕ) (xs ys : List Entry) → AreNextAfter generation count xs → AreNextAfter generation (count + length xs) ys → AreNextAfter generation count (xs ++ ys)
next-append generation count xs ys first second i d lt =
    elim (cases_lt i (length xs)) [
      | inl early ↦ subst (IsNextAfter generation (count + i)) (sym (get_or-append xs ys d i early)) (first i d early)
      | inr late ↦
          let within : i - length xs < length ys = omega (arith, late, lt, length-append xs ys) in
          let place : count + length xs + (i - length xs) ≡ count + i = omega (arith, late) in
          subst (λ n. IsNextAfter generation n (get_or (xs ++ ys) i d)) place
          (subst (IsNextAfter generation (count + length xs + (i - length xs))) (sym (get_or-append_right xs ys (length xs) i d refl late)) (second (i - length xs) d within))
    ]

-- what is left of the writes of a generation is of the next one, or of it
next_unless : (b : Bool) (generation : ℕ) (xs : List Entry) → AreNextAfter generation 0 xs → AreNextAfter (generation + (if b then 1 else 0)) 0 (if b then [] else xs)
next_unless true generation xs next = λ i d lt. absurd (omega arith)
next_unless false generation xs next =
    let e : generation ≡ generation + 0 = omega arith in subst (λ g. AreNextAfter g 0 xs) e next

-- the writes of a generation are of it, and the one at a place comes after as many
pub next-writes_upto : (s : Settings) (owner round : ℕ) → AreNextAfter (generation_upto s owner round) 0 (writes_upto s owner round)
next-writes_upto s owner zero = λ i d lt. absurd (omega arith)
next-writes_upto s owner (suc round) =
    let next = suc round in
    next-append (generation_upto s owner next) 0 (writes_before s owner next) (own_writes s owner next (count_before s owner next))
    (next_unless (forgets_now s owner next) (generation_upto s owner round) (writes_upto s owner round) (next-writes_upto s owner round))
    (let e : count_before s owner next ≡ 0 + length (writes_before s owner next) = omega (arith, length-writes_before s owner next) in
    subst (λ n. AreNextAfter (generation_upto s owner next) n (own_writes s owner next (count_before s owner next))) e
    (next-own_writes s owner next (count_before s owner next)))

-- no more writes than the most in a round, for each round
module _ (s : Settings) (owner most : ℕ) (limit : (t : ℕ) → writes_in s t ≤ most) where
  at_most : (b : Bool) (n : ℕ) → n ≤ most → (if b then n else 0) ≤ most
  at_most true n le = le
  at_most false n le = omega arith

  left_at_most : (b : Bool) (n m : ℕ) → n ≤ m → (if b then 0 else n) ≤ m
  left_at_most true n m le = omega arith
  left_at_most false n m le = le

  pub count_upto_le : (round : ℕ) → count_upto s owner round ≤ most * round
  count_upto_le zero = omega arith
  count_upto_le (suc t) =
      omega (arith, left_at_most (forgets_now s owner (suc t)) (count_upto s owner t) (most * t) (count_upto_le t), at_most (is_up s owner (suc t)) (writes_in s (suc t)) (limit (suc t)))

-- the loads say how many a round adds, in a lawful scenario at most a constant
found_at_most : (p : Load → Bool) (usual most : ℕ) (ls : List Load) → usual ≤ most → All (λ l. l.writes ≤ most) ls → unwrap_or (option_map (λ (l : Load). l.writes) (find p ls)) usual ≤ most
found_at_most p usual most [] low all = low
found_at_most p usual most (l ∷ ls) low all =
    cond_both (p l) (Some l) (find p ls) (λ o. unwrap_or (option_map (λ (l : Load). l.writes) o) usual ≤ most)
    (λ _. all 0 l (omega arith))
    (λ _. found_at_most p usual most ls low (All-tail (λ (l : Load). l.writes ≤ most) l ls all))

pub writes_in_at_most : (s : Settings) (most : ℕ) → s.writes ≤ most → All (λ l. l.writes ≤ most) s.loads → (round : ℕ) → writes_in s round ≤ most
unfolding writes_in
writes_in_at_most s most usual all round =
    found_at_most (covers round) s.writes most (reverse s.loads) usual (λ k d lt.
    let within : k < length s.loads = omega (arith, lt, length-reverse s.loads) in
    subst (λ (l : Load). l.writes ≤ most) (sym (get_or-reverse s.loads k d within)) (all (length s.loads - 1 - k) d (omega (arith, within))))

pub writes_in_le : (s : Settings) → IsLawfulScenario s → (round : ℕ) → writes_in s round ≤ MOST_WRITES
writes_in_le s lawful round = writes_in_at_most s MOST_WRITES lawful.writes (λ k d lt. (lawful.loads.each k d lt).writes) round
