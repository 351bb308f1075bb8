-- Sums below a bound, and what numbers weigh between marks.
-- Serves most of the crate and `version_tables`.
use Rattle.delta_plans.proofs.Common.{◌≡◌, ◌≢◌, ℕ, zero, suc, ◌+◌, ◌-◌, ◌*◌, ◌<◌, ◌≤◌, Bool, cond, ltb, leb, Option, Some, None, ◌⊎◌, inl, inr, ap, ◌∙◌, subst, arith, nat_tests, cases_lt, mul-le-mul_right, Entry, Budget, Entries, Bytes, MOST_NODES, MOST_KEYS, MOST_ENTRY_SIZE, write_numbered, numbered-some, all_writes, Cells, count_between, HasNoneAbove, sum_below, sum_below-most, sum_below-same, sum_below-le, sum_below-plus, fold_below-join, sums, Offer, cells_in, low_in, high_in, weights_in, weight_in, count_in, IsOffer, share_or_none, weight_of, weight_between, count_all_between}

-- a number where a test passes
abbrev pub where_true : Bool → ℕ → ℕ
where_true b n = cond b n 0

pub sum_below-none : (n : ℕ) (f : ℕ → ℕ) → ((i : ℕ) → i < n → f i ≡ 0) → sum_below n f ≡ 0
sum_below-none n f none = omega (arith, sum_below-most f n 0 (λ i lt. omega (arith, none i lt)))

-- a sum that changes at one index
pub sum_below-changed : (n r d : ℕ) (f g : ℕ → ℕ) → r < n → ((i : ℕ) → i < n → i ≢ r → g i ≡ f i) → g r ≡ f r + d → sum_below n g ≡ sum_below n f + d
sum_below-changed zero r d f g lt others here = absurd (omega (arith, lt))
sum_below-changed (suc n) r d f g lt others here = elim (cases_lt r n) [
  | inl below ↦
      let rest = sum_below-changed n r d f g below (λ i lt' ne. others i (omega (arith, lt')) ne) here in
      omega (arith, rest, others n (omega arith) (λ e. omega (arith, e, below)))
  | inr not_below ↦
      let at : g n ≡ f n + d = subst (λ i. g i ≡ f i + d) {x = r} {y = n} (omega (arith, lt, not_below)) here in
      omega (arith, at, sum_below-same n g f (λ i lt'. others i (omega (arith, lt')) (λ e. omega (arith, e, lt', not_below))))
]

pub sum_below-one : (n r : ℕ) (f : ℕ → ℕ) → r < n → ((i : ℕ) → i < n → i ≢ r → f i ≡ 0) → sum_below n f ≡ f r
sum_below-one n r f lt others = omega (arith, sum_below-changed n r (f r) (λ _. 0) f lt others (omega arith), sum_below-none n (λ _. 0) (λ i lt'. omega arith))

-- so many times a sum
pub sum_below-scaled : (n size : ℕ) (f : ℕ → ℕ) → sum_below n (λ i. f i * size) ≡ sum_below n f * size
sum_below-scaled zero size f = omega arith
sum_below-scaled (suc n) size f = omega (arith, sum_below-scaled n size f)

sum_below-times : (n most : ℕ) (f g : ℕ → ℕ) → ((i : ℕ) → i < n → f i ≤ g i * most) → sum_below n f ≤ sum_below n g * most
sum_below-times n most f g le = omega (arith, sum_below-le n f (λ i. g i * most) le, sum_below-scaled n most g)

-- a sum of fewer terms is no more
pub sum_below-longer : (f : ℕ → ℕ) (n m : ℕ) → n ≤ m → sum_below n f ≤ sum_below m f
sum_below-longer f n m le = omega (arith, fold_below-join sums f n (m - n), ap (λ k. sum_below k f) {x = n + (m - n)} {y = m} (omega (arith, le)))

-- where a sum is 0, each term is
pub sum_below-each_none : (n : ℕ) (f : ℕ → ℕ) → sum_below n f ≡ 0 → (i : ℕ) → i < n → f i ≡ 0
sum_below-each_none n f none i lt = omega (arith, none, sum_below-longer f (suc i) n (omega (arith, lt)))

-- one number's part of a weight
abbrev pub part : (ℕ → ℕ) → ℕ → ℕ → ℕ → ℕ
part weight low high number = where_true (ltb low number) (where_true (leb number high) (weight number))

-- a number is in between, or adds nothing
pub part-cases : (weight : ℕ → ℕ) (low high number : ℕ)
    → ((low < number) × (number ≤ high) × (part weight low high number ≡ weight number)) ⊎ (part weight low high number ≡ 0)
part-cases weight low high number = grind (arith, nat_tests)

-- nothing is between marks of which the higher is no more than the lower
pub weight_of-none : (weight : ℕ → ℕ) (cells : Cells) (keys owner low high : ℕ) → high ≤ low → weight_of weight cells keys owner low high ≡ 0
weight_of-none weight cells keys owner low high le = sum_below-none keys _ (λ key lt. grind (arith, nat_tests))

-- a single number of an owner lies between two marks
pub weight_of-one : (weight : ℕ → ℕ) (cells : Cells) (keys owner low high key : ℕ) → key < keys → low < cells owner key → cells owner key ≤ high
    → ((k : ℕ) → k < keys → low < cells owner k → cells owner k ≤ high → k ≡ key) → weight_of weight cells keys owner low high ≡ weight (cells owner key)
weight_of-one weight cells keys owner low high key in_keys above upto one =
    sum_below-one keys key _ in_keys (λ k lt other. let same = one k lt in grind (arith, nat_tests)) ∙ grind (arith, nat_tests)

-- the weights up to a mark and from it on, where it is no higher than the last mark, or nothing is above that
pub weight_of-parts : (weight : ℕ → ℕ) (cells : Cells) (keys owner low mark high : ℕ) → low ≤ mark → (mark ≤ high) ⊎ HasNoneAbove cells keys owner high
    → weight_of weight cells keys owner low high ≡ weight_of weight cells keys owner low mark + weight_of weight cells keys owner mark high
weight_of-parts weight cells keys owner low mark high below above =
    sum_below-same keys _ (λ key. part weight low mark (cells owner key) + part weight mark high (cells owner key))
    (λ key lt. elim above [ inl le ↦ grind (arith, nat_tests) | inr covered ↦ grind (arith, nat_tests, covered key lt) ]) ∙ sum_below-plus keys _ _

pub weight_of-split : (weight : ℕ → ℕ) (cells : Cells) (keys owner low mark high : ℕ) → low ≤ mark → mark ≤ high
    → weight_of weight cells keys owner low high ≡ weight_of weight cells keys owner low mark + weight_of weight cells keys owner mark high
weight_of-split weight cells keys owner low mark high below above = weight_of-parts weight cells keys owner low mark high below (inl above)

-- and so for all owners
pub weight_between-parts : (weights : ℕ → ℕ → ℕ) (cells : Cells) (nodes keys : ℕ) (low mark high : ℕ → ℕ)
    → ((r : ℕ) → r < nodes → (low r ≤ mark r) × ((mark r ≤ high r) ⊎ HasNoneAbove cells keys r (high r))) → weight_between weights cells nodes keys low high
    ≡ weight_between weights cells nodes keys low mark + weight_between weights cells nodes keys mark high
weight_between-parts weights cells nodes keys low mark high are =
    sum_below-same nodes _ _ (λ r lt. weight_of-parts (weights r) cells keys r (low r) (mark r) (high r) (are r lt).0 (are r lt).1) ∙ sum_below-plus nodes _ _

-- no more than so many times the largest
weight_of-most : (weight : ℕ → ℕ) (most : ℕ) (cells : Cells) (keys owner low high : ℕ) → ((number : ℕ) → weight number ≤ most)
    → weight_of weight cells keys owner low high ≤ count_between cells keys owner low high * most
weight_of-most weight most cells keys owner low high le = sum_below-times keys most _ _ (λ key lt. let few = le (cells owner key) in grind (arith, nat_tests))

pub weight_between-most : (weights : ℕ → ℕ → ℕ) (most : ℕ) (cells : Cells) (nodes keys : ℕ) (low high : ℕ → ℕ)
    → ((owner number : ℕ) → weights owner number ≤ most) → weight_between weights cells nodes keys low high ≤ count_all_between cells nodes keys low high * most
weight_between-most weights most cells nodes keys low high le =
    sum_below-times nodes most _ _ (λ owner lt. weight_of-most (weights owner) most cells keys owner (low owner) (high owner) (le owner))

-- so many at most
pub count_between-most : (cells : Cells) (keys owner low high : ℕ) → count_between cells keys owner low high ≤ keys
count_between-most cells keys owner low high =
    omega (arith, sum_below-most (λ key. part (λ _. 1) low high (cells owner key)) keys 1 (λ key lt. grind (arith, nat_tests)))

-- no write takes more than the largest share
pub share-most : (budget : Budget) (o : Option Entry) → share_or_none budget o ≤ MOST_ENTRY_SIZE
share-most budget None = omega arith
share-most (Entries n) (Some e) = omega arith
share-most (Bytes n) (Some e) = omega arith

-- what lemmas name of an offer
pub record Parts : Type 0 where
  pub cells : Cells
  pub low : ℕ → ℕ
  pub high : ℕ → ℕ

abbrev pub parts_of : {N : Type 0} → (N → ℕ) → Offer N → Parts
parts_of number offer = record { cells = cells_in number offer; low = low_in number offer; high = high_in number offer }

module _ {N : Type 0} (number : N → ℕ) (offer : Offer N) where
  open parts_of number offer use {cells}
  open offer.grid.size use {nodes, keys}

  most : (owner n : ℕ) → weights_in offer owner n ≤ MOST_ENTRY_SIZE
  most owner n = share-most offer.budget (write_numbered (all_writes offer.lists.now owner) n)

  -- no more than so many times the largest size
  pub offer-most : (low high : ℕ → ℕ) → weight_in number offer low high ≤ count_in number offer low high * MOST_ENTRY_SIZE
  offer-most low high = weight_between-most (weights_in offer) MOST_ENTRY_SIZE cells nodes keys low high most

  pub owner-most : (keys owner low high : ℕ) → weight_of (weights_in offer owner) cells keys owner low high
      ≤ count_between cells keys owner low high * MOST_ENTRY_SIZE
  owner-most keys owner low high = weight_of-most (weights_in offer owner) MOST_ENTRY_SIZE cells keys owner low high (most owner)

module _ {N : Type 0} {number : N → ℕ} {most : ℕ} {offer : Offer N} (is : IsOffer number most offer) where
  open parts_of number offer use {cells, low, high}
  open offer.grid.size use {nodes, keys}

  -- what marks above the low ones let through, and what is beyond them
  pub offer-parts : (weights : ℕ → ℕ → ℕ) (mark : ℕ → ℕ) → ((r : ℕ) → r < nodes → low r ≤ mark r)
      → weight_between weights cells nodes keys low high ≡ weight_between weights cells nodes keys low mark + weight_between weights cells nodes keys mark high
  offer-parts weights mark above = weight_between-parts weights cells nodes keys low mark high (λ r lt. (above r lt, inr (is.covered r lt)))

  -- nothing is beyond marks that are above all numbers
  pub offer-beyond : (weights : ℕ → ℕ → ℕ) (mark : ℕ → ℕ) → ((r : ℕ) → r < nodes → HasNoneAbove cells keys r (mark r))
      → weight_between weights cells nodes keys mark high ≡ 0
  offer-beyond weights mark none =
      sum_below-none nodes _ (λ r lt. sum_below-none keys _ (λ key in_keys. let le = none r lt key in_keys in grind (arith, nat_tests)))

  pub offer-few : (low high : ℕ → ℕ) → count_in number offer low high ≤ MOST_NODES * MOST_KEYS
  offer-few low high =
      let most = sum_below-most _ nodes keys (λ owner _. count_between-most cells keys owner (low owner) (high owner)) in
      omega (arith, most, mul-le-mul_right {m = nodes} {n = MOST_NODES} keys is.grid.few_nodes, is.grid.few_keys)

  -- where entries are counted, they take as much as they are
  module _ (n : ℕ) (counted : offer.budget ≡ Entries n) where
    pub owner-entries : (owner : ℕ) → owner < nodes → (low high : ℕ)
        → weight_of (weights_in offer owner) cells keys owner low high ≡ count_between cells keys owner low high
    owner-entries owner in_nodes low high = sum_below-same keys _ _ (λ key in_keys.
        let writes = all_writes offer.lists.now owner in let it = cells owner key in
        let one = λ (some : 0 < it). ap (λ budget. share_or_none budget (write_numbered writes it)) counted
        ∙ ap (share_or_none (Entries n)) (numbered-some writes it some (is.written owner key in_nodes in_keys)).1 in
        grind (arith, nat_tests, one))

    pub offer-entries : (low high : ℕ → ℕ) → weight_in number offer low high ≡ count_in number offer low high
    offer-entries low high = sum_below-same nodes _ _ (λ owner lt. owner-entries owner lt (low owner) (high owner))
