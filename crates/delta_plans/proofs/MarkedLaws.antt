-- Marks of all that is offered, or of a level that was shared out.
-- Serves `planned` and `version_tables`.
use Rattle.delta_plans.proofs.Common.{◌≡◌, ℕ, ◌-◌, ◌<◌, ◌≤◌, true, List, length, inl, inr, sym, ap, ◌∙◌, arith, lt-ltb, le-leb, Mode, amount_of, First, Oldest, Newest, Offer, Level, by_first, first_sent, lets_through, KeepsLow, AreMarked, IsLevelOf, marks, weights_in, weight_in, count_in, IsOffer, count_on, AreShared, weight_between, weight_through, one_each}
use Rattle.delta_plans.proofs.WeightLaws.{offer-parts, parts_of}

module _ {N : Type 0} (number : N → ℕ) (most : ℕ) (offer : Offer N) (is : IsOffer number most offer) where
  open parts_of number offer use {cells, low, high}
  open offer.grid.size use {nodes, keys}

  -- marks above the low ones let through no more than all
  above-tells : (first : First) (mark : ℕ → ℕ) → ((r : ℕ) → r < offer.grid.size.nodes → low r ≤ mark r)
      → (count_on first number offer mark ≤ count_in number offer low high) × KeepsLow first offer.grid.size.nodes low mark
  above-tells Oldest mark above = (omega (arith, offer-parts is one_each mark above), tt)
  above-tells Newest mark above = (omega (arith, offer-parts is one_each mark above), above)

  -- the marks that let all through: the high ones, or from the newest on the low ones
  abbrev whole_marks : First → List N
  whole_marks first = by_first first offer.high.now offer.low.now

  whole-tells : (first : First) → (length (whole_marks first) ≡ nodes) × KeepsLow first nodes low (marks number (whole_marks first))
      × ((weights : ℕ → ℕ → ℕ) → weight_through first weights cells nodes keys low high (marks number (whole_marks first))
      ≡ weight_between weights cells nodes keys low high) × ((owner key : ℕ) → owner < nodes → key < keys → low owner < cells owner key
      → lets_through first (marks number (whole_marks first) owner) (cells owner key) ≡ true)
  whole-tells Oldest = search (arith, le-leb, is.high, is.covered)
  whole-tells Newest = search (arith, lt-ltb, is.low)

  pub whole-size : (first : First) (xs : List N) → xs ≡ whole_marks first → length xs ≡ offer.grid.size.nodes
  whole-size first xs same = ap length same ∙ (whole-tells first).0

  -- all where it fits
  pub whole-marked : (rotation : ℕ) → weight_in number offer low high ≤ amount_of offer.budget → (mode : Mode) (xs : List N)
      → xs ≡ whole_marks (first_sent mode) → AreMarked mode rotation number offer (marks number xs) offer.found 0
  whole-marked rotation fits mode xs same = let tells = whole-tells (first_sent mode) in rw same (record {
    above = tells.1;
    count = is.found ∙ sym (tells.2 one_each);
    left = omega (arith, is.found);
    how = inl (record { all = tells.3; within = omega (arith, fits, tells.2 (weights_in offer)) });
  })

  -- and a level that was shared out
  pub share-marked : (rotation : ℕ) (mode : Mode) {level : Level N} (is_level : IsLevelOf mode number offer level) (xs : List N) {sent : ℕ}
      → AreShared (first_sent mode) rotation number offer (marks number level.near.items) (marks number level.far.items) (marks number xs) sent
      → AreMarked mode rotation number offer (marks number xs) sent (offer.found - sent)
  share-marked rotation mode {level} is_level xs shared = let tells = above-tells (first_sent mode) (marks number xs) shared.above in record {
    above = tells.1;
    count = shared.count;
    left = omega (arith, is.found, shared.count, tells.0);
    how = inr (record { near = marks number level.near.items; far = marks number level.far.items; shape = is_level.shape; shared = shared });
  }
