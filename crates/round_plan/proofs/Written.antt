-- All writes of an owner, over all its generations: their marks rise, and those of its generation are the last ones.
-- Serves `run_laws` and `runs`.
use Rattle.round_plan.proofs.Common.{◌≡◌, ◌==◌, ℕ, zero, suc, ◌+◌, ◌-◌, ◌<◌, ◌≤◌, Bool, true, false, ◌||◌, ◌&&◌, cond, if◌then◌else◌, List, [], ◌∷◌, ◌++◌, filter, length, get_or, All, AllPairs, Contains, refl, sym, ap, ◌∙◌, subst, inl, inr, arith, length-append, nat_lt, get_or-append, cases_lt, cases_eq, lt-ltb, eq-eqb, ne_eqb, nat_tests, get_or-append_right, get_or_default, All-nil, All-tail, All-append, All-weaker, All-filter, filter-append, Contains-append_left, Contains-append_right, Entry, Mark, next_version, mark_of, is_before, Settings}
use Rattle.round_plan.specs.Generations.{generation_upto}
use Rattle.round_plan.specs.Outages.{forgets_now}
use Rattle.round_plan.specs.Writes.{count_upto, count_before, own_writes, writes_upto, written_upto}
use Rattle.round_plan.specs.calls.Writes.{writes_before}
use Rattle.round_plan.proofs.Growth.{length-own_writes, next-own_writes, keys-own_writes, born-own_writes}

-- a write of an earlier generation, or one of this generation's first so many
pub record IsSoFar (current count : ℕ) (e : Entry) : Type 0 where
  pub generation : e.generation ≤ current
  pub version : e.generation ≡ current → e.version ≤ count

-- the writes of a round, one by one
of_round : (P : Entry → Type 0) (s : Settings) (owner round before : ℕ) → ((i : ℕ) (e : Entry) → i < length (own_writes s owner round before) → e.generation ≡ generation_upto s owner round → e.version ≡ next_version (before + i) → P e) → All P (own_writes s owner round before)
of_round P s owner round before so i d lt =
    let next = next-own_writes s owner round before i d lt in
    so i (get_or (own_writes s owner round before) i d) lt next.0 next.1

-- what the next round begins with: the same count of the generation, or none of the next one
so_far_unless : (b : Bool) (generation count : ℕ) (es : List Entry) → All (IsSoFar generation count) es → All (IsSoFar (generation + (if b then 1 else 0)) (if b then 0 else count)) es
so_far_unless true generation count es all = λ k d lt.
    let up = (all k d lt).generation in record { generation = omega (arith, up); version = λ same. absurd (omega (arith, up, same)) }
so_far_unless false generation count es all =
    let e : generation ≡ generation + 0 = omega arith in subst (λ g. All (IsSoFar g count) es) e all

-- each write is of a generation so far, and one of the last generation has a version up to the count of it
pub so_far-written_upto : (s : Settings) (owner round : ℕ) → All (IsSoFar (generation_upto s owner round) (count_upto s owner round)) (written_upto s owner round)
so_far-written_upto s owner zero = All-nil _
so_far-written_upto s owner (suc round) =
    let next = suc round in
    let before = count_before s owner next in
    let ours = IsSoFar (generation_upto s owner next) (count_upto s owner next) in
    All-append ours (written_upto s owner round) (own_writes s owner next before)
    (All-weaker (IsSoFar (generation_upto s owner next) before) ours (λ e h. record { generation = h.generation; version = λ same. let le = h.version same in omega (arith, le) }) (written_upto s owner round)
    (so_far_unless (forgets_now s owner next) (generation_upto s owner round) (count_upto s owner round) (written_upto s owner round) (so_far-written_upto s owner round)))
    (of_round ours s owner next before (λ i e lt is_of is. record {
      generation = omega (arith, is_of);
      version = λ _. omega (arith, is, lt, length-own_writes s owner next before);
    }))

-- and so are they where a round begins to write
pub so_far-written_before : (s : Settings) (owner round : ℕ) → All (IsSoFar (generation_upto s owner (suc round)) (count_before s owner (suc round))) (written_upto s owner round)
so_far-written_before s owner round =
    so_far_unless (forgets_now s owner (suc round)) (generation_upto s owner round) (count_upto s owner round) (written_upto s owner round) (so_far-written_upto s owner round)

-- what holds of the writes of each round holds of all writes
module _ (P : Entry → Type 0) (s : Settings) (owner : ℕ) where
  All-written_upto : (round : ℕ) → ((t before : ℕ) → 1 ≤ t → t ≤ round → All P (own_writes s owner t before)) → All P (written_upto s owner round)
  All-written_upto zero each = All-nil P
  All-written_upto (suc round) each =
      All-append P (written_upto s owner round) (own_writes s owner (suc round) (count_before s owner (suc round)))
      (All-written_upto round (λ t before first last. each t before first (omega (arith, last))))
      (each (suc round) (count_before s owner (suc round)) (omega arith) (omega arith))

-- a write that was made up to a round was born in one of its rounds
pub born-written_upto : (s : Settings) (owner round : ℕ) → All (λ e. (1 ≤ e.born) × (e.born ≤ round)) (written_upto s owner round)
born-written_upto s owner round =
    All-written_upto (λ (e : Entry). (1 ≤ e.born) × (e.born ≤ round)) s owner round (λ t before first last.
    All-weaker (λ (e : Entry). e.born ≡ t) (λ (e : Entry). (1 ≤ e.born) × (e.born ≤ round)) (λ e is. (omega (arith, is, first), omega (arith, is, last))) (own_writes s owner t before)
    (born-own_writes s owner t before))

pub keys-written_upto : (s : Settings) (owner round : ℕ) → 1 ≤ s.keys → All (λ e. e.key < s.keys) (written_upto s owner round)
keys-written_upto s owner round some =
    All-written_upto (λ (e : Entry). e.key < s.keys) s owner round (λ t before _ _. keys-own_writes s owner t before some)

-- none has the version of what is absent
pub version-written_upto : (s : Settings) (owner round : ℕ) → All (λ e. 1 ≤ e.version) (written_upto s owner round)
version-written_upto s owner round =
    All-written_upto (λ (e : Entry). 1 ≤ e.version) s owner round (λ t before _ _.
    of_round (λ (e : Entry). 1 ≤ e.version) s owner t before (λ i e lt is_of is. omega (arith, is)))

-- what was written stays written
pub stays-written_upto : (s : Settings) (owner earlier round : ℕ) (e : Entry) → earlier ≤ round → Contains (written_upto s owner earlier) e → Contains (written_upto s owner round) e
stays-written_upto s owner earlier zero e le has =
    let is : earlier ≡ zero = omega arith in subst (λ r. Contains (written_upto s owner r) e) is has
stays-written_upto s owner earlier (suc round) e le has =
    elim (cases_lt round earlier) [
      | inl later ↦
          let is : earlier ≡ suc round = omega arith in subst (λ r. Contains (written_upto s owner r) e) is has
      | inr upto ↦
          Contains-append_left (written_upto s owner round) (own_writes s owner (suc round) (count_before s owner (suc round))) e
          (stays-written_upto s owner earlier round e upto has)
    ]

-- the mark of one comes before that of the other
abbrev pub Precedes : Entry → Entry → Type 0
Precedes e f = is_before (mark_of e) (mark_of f) ≡ true

second_true : (a b : Bool) → b ≡ true → (a || b) ≡ true
second_true true b e = refl
second_true false b e = e

precedes_generation : (e f : Entry) → e.generation < f.generation → Precedes e f
precedes_generation e f less =
    ap (λ b. b || ((e.generation == f.generation) && nat_lt e.version f.version)) (lt-ltb e.generation f.generation less)

precedes_version : (e f : Entry) → e.generation ≡ f.generation → e.version < f.version → Precedes e f
precedes_version e f same less =
    second_true (nat_lt e.generation f.generation) _ (λ i. eq-eqb e.generation f.generation same i && lt-ltb e.version f.version less i)

apart_marks : (e f : Entry) → Precedes e f → mark_of e ≡ mark_of f → ⊥
apart_marks e f first same =
    let itself : is_before (mark_of f) (mark_of f) ≡ true = subst (λ (m : Mark). is_before m (mark_of f) ≡ true) same first in
    grind (arith, nat_tests)

pairs_append : {X : Type 0} (R : X → X → Type 0) (xs ys : List X) → AllPairs R xs → AllPairs R ys → ((i j : ℕ) (d : X) → i < length xs → j < length ys → R (get_or xs i d) (get_or ys j d)) → AllPairs R (xs ++ ys)
pairs_append R xs ys first second across i j d lt within =
    let long = length-append xs ys in
    let left : (k : ℕ) → k < length xs → get_or (xs ++ ys) k d ≡ get_or xs k d = λ k below. get_or-append xs ys d k below in
    let right : (k : ℕ) → length xs ≤ k → get_or (xs ++ ys) k d ≡ get_or ys (k - length xs) d = λ k past. get_or-append_right xs ys (length xs) k d refl past in
    elim (cases_lt j (length xs)) [
      | inl early ↦ rw (left i (omega arith), left j early) (first i j d lt early)
      | inr late ↦ elim (cases_lt i (length xs)) [
        | inl i_early ↦ rw (left i i_early, right j late) (across i (j - length xs) d i_early (omega arith))
        | inr i_late ↦ rw (right i i_late, right j late) (second (i - length xs) (j - length xs) d (omega arith) (omega arith))
      ]
    ]

-- the marks of an owner's writes rise
pub rising-written_upto : (s : Settings) (owner round : ℕ) → AllPairs Precedes (written_upto s owner round)
rising-written_upto s owner zero = λ i j d lt within. absurd (omega arith)
rising-written_upto s owner (suc round) =
    let next = suc round in
    let before = count_before s owner next in
    let generation = generation_upto s owner next in
    let earlier = written_upto s owner round in
    let ours = own_writes s owner next before in
    pairs_append Precedes earlier ours (rising-written_upto s owner round)
    (λ i j d lt within.
    let first = next-own_writes s owner next before i d (omega arith) in
    let second = next-own_writes s owner next before j d within in
    precedes_version (get_or ours i d) (get_or ours j d) (first.0 ∙ sym second.0) (omega (arith, first.1, second.1, lt)))
    (λ i j d lt within.
    let first = so_far-written_before s owner round i d lt in
    let second = next-own_writes s owner next before j d within in
    elim (cases_eq (get_or earlier i d).generation generation) [
      | inl same ↦
          let le = first.version same in
          precedes_version (get_or earlier i d) (get_or ours j d) (same ∙ sym second.0) (omega (arith, le, second.1))
      | inr apart ↦
          precedes_generation (get_or earlier i d) (get_or ours j d) (below (get_or earlier i d).generation generation (get_or ours j d).generation first.generation apart second.0)
    ])
  where
    below : (a b c : ℕ) → a ≤ b → (a ≡ b → ⊥) → c ≡ b → a < c
    below a b c le apart is = elim (cases_lt a c) [ inl less ↦ less | inr more ↦ absurd (apart (omega arith)) ]

-- so two of them with one mark are one write
pub apart-written_upto : (s : Settings) (owner round : ℕ) (e f : Entry) → Contains (written_upto s owner round) e → Contains (written_upto s owner round) f → mark_of e ≡ mark_of f → e ≡ f
apart-written_upto s owner round e f has_e has_f same =
    let all = written_upto s owner round in
    let (i, i_lt, e_is) = has_e in
    let (j, j_lt, f_is) = has_f in
    let e_at : get_or all i f ≡ e = get_or_default all i f e i_lt ∙ e_is in
    let rises = rising-written_upto s owner round in
    elim (cases_eq i j) [
      | inl here ↦ sym e_at ∙ ap (λ k. get_or all k f) here ∙ f_is
      | inr other ↦ elim (cases_lt i j) [
        | inl less ↦ absurd (apart_marks e f (rw (e_at, f_is) at (rises i j f less j_lt)) same)
        | inr more ↦ absurd (apart_marks f e (rw (e_at, f_is) at (rises j i f (behind i j other more) i_lt)) (sym same))
      ]
    ]
  where
    behind : (a b : ℕ) → (a ≡ b → ⊥) → b ≤ a → b < a
    behind a b apart le = elim (cases_lt b a) [ inl less ↦ less | inr more ↦ absurd (apart (omega arith)) ]

module _ {X : Type 0} (p : X → Bool) where
  filter_all : (xs : List X) → All (λ x. p x ≡ true) xs → filter p xs ≡ xs
  filter_all [] all = refl
  filter_all (x ∷ xs) all =
      (λ i. cond (all 0 x (omega arith) i) (x ∷ filter p xs) (filter p xs)) ∙ ap (λ l. x ∷ l) (filter_all xs (All-tail (λ x. p x ≡ true) x xs all))

  filter_none : (xs : List X) → All (λ x. p x ≡ false) xs → filter p xs ≡ []
  filter_none [] all = refl
  filter_none (x ∷ xs) all =
      (λ i. cond (all 0 x (omega arith) i) (x ∷ filter p xs) (filter p xs)) ∙ filter_none xs (All-tail (λ x. p x ≡ false) x xs all)

  filter_keeps : (xs : List X) (x : X) → p x ≡ true → Contains xs x → Contains (filter p xs) x
  filter_keeps [] x is (k, lt, at) = absurd (omega arith)
  filter_keeps (y ∷ xs) x is (zero, lt, at) =
      subst (λ b. Contains (cond b (y ∷ filter p xs) (filter p xs)) x) (sym (ap p at ∙ is)) (zero, omega arith, at)
  filter_keeps (y ∷ xs) x is (suc k, lt, at) = kept (p y) (filter_keeps xs x is (k, omega arith, at)) where
    kept : (b : Bool) → Contains (filter p xs) x → Contains (cond b (y ∷ filter p xs) (filter p xs)) x
    kept true has = Contains-append_right (y ∷ []) (filter p xs) x has
    kept false has = has

  filter_from : (xs : List X) (x : X) → Contains (filter p xs) x → Contains xs x
  filter_from [] x has = has
  filter_from (y ∷ xs) x has = here (p y) (filter_from xs x) has where
    here : (b : Bool) → (Contains (filter p xs) x → Contains xs x) → Contains (cond b (y ∷ filter p xs) (filter p xs)) x → Contains (y ∷ xs) x
    here true rest (zero, lt, at) = (zero, omega arith, at)
    here true rest (suc k, lt, at) = Contains-append_right (y ∷ []) xs x (rest (k, omega arith, at))
    here false rest has = Contains-append_right (y ∷ []) xs x (rest has)

-- a write of a generation
abbrev pub is_of : ℕ → Entry → Bool
is_of generation e = e.generation == generation

left_of : (b : Bool) (generation count : ℕ) (all current : List Entry) → All (IsSoFar generation count) all → current ≡ filter (is_of generation) all → (if b then [] else current) ≡ filter (is_of (generation + (if b then 1 else 0))) all
left_of true generation count all current so_far is =
    sym (filter_none (is_of (generation + 1)) all (λ k d lt. let le = (so_far k d lt).generation in ne_eqb (get_or all k d).generation (generation + 1) (λ same. absurd (omega (arith, le, same)))))
left_of false generation count all current so_far is =
    let e : generation ≡ generation + 0 = omega arith in subst (λ g. current ≡ filter (is_of g) all) e is

-- the writes of an owner's generation are those of all its writes that are of it
pub writes_upto-filtered : (s : Settings) (owner round : ℕ) → writes_upto s owner round ≡ filter (is_of (generation_upto s owner round)) (written_upto s owner round)
writes_upto-filtered s owner zero = refl
writes_upto-filtered s owner (suc round) =
    let next = suc round in
    let generation = generation_upto s owner next in
    let ours = own_writes s owner next (count_before s owner next) in
    let left : writes_before s owner next ≡ filter (is_of generation) (written_upto s owner round) =
    left_of (forgets_now s owner next) (generation_upto s owner round) (count_upto s owner round) (written_upto s owner round) (writes_upto s owner round) (so_far-written_upto s owner round) (writes_upto-filtered s owner round) in
    let all : ours ≡ filter (is_of generation) ours =
    sym (filter_all (is_of generation) ours (λ k d lt. eq-eqb (get_or ours k d).generation generation (next-own_writes s owner next (count_before s owner next) k d lt).0)) in
    (λ i. left i ++ all i) ∙ sym (filter-append (is_of generation) (written_upto s owner round) ours)

-- so it has them all, and no other
pub written-writes_upto : (s : Settings) (owner round : ℕ) (e : Entry) → Contains (writes_upto s owner round) e → Contains (written_upto s owner round) e
written-writes_upto s owner round e has =
    filter_from (is_of (generation_upto s owner round)) (written_upto s owner round) e
    (subst (λ es. Contains es e) (writes_upto-filtered s owner round) has)

pub writes_upto-written : (s : Settings) (owner round : ℕ) (e : Entry) → e.generation ≡ generation_upto s owner round → Contains (written_upto s owner round) e → Contains (writes_upto s owner round) e
writes_upto-written s owner round e is_of_it has =
    subst (λ es. Contains es e) (sym (writes_upto-filtered s owner round))
    (filter_keeps (is_of (generation_upto s owner round)) (written_upto s owner round) e (eq-eqb e.generation (generation_upto s owner round) is_of_it) has)

-- what holds of all writes holds of those of the generation
pub All-writes_upto : (P : Entry → Type 0) (s : Settings) (owner round : ℕ) → All P (written_upto s owner round) → All P (writes_upto s owner round)
All-writes_upto P s owner round all =
    subst (All P) (sym (writes_upto-filtered s owner round)) (All-filter (is_of (generation_upto s owner round)) P (written_upto s owner round) all)

pub born-writes_upto : (s : Settings) (owner round : ℕ) → All (λ e. (1 ≤ e.born) × (e.born ≤ round)) (writes_upto s owner round)
born-writes_upto s owner round =
    All-writes_upto (λ (e : Entry). (1 ≤ e.born) × (e.born ≤ round)) s owner round (born-written_upto s owner round)

pub keys-writes_upto : (s : Settings) (owner round : ℕ) → 1 ≤ s.keys → All (λ e. e.key < s.keys) (writes_upto s owner round)
keys-writes_upto s owner round some =
    All-writes_upto (λ (e : Entry). e.key < s.keys) s owner round (keys-written_upto s owner round some)
