-- What a budget lets through of candidates in an order, each of some size. A candidate fits where its size and those
-- of all that come before it are together at most the budget. Sent are as many as fit, the one with exactly m
-- before it at place m, from 0. The cut is the number of the others. Of a list that stands in the order that is the
-- longest beginning that fits.
-- Source: this project, after the LADIS 2008 paper's demand that a message which can't hold all sends each
-- owner's entries in ascending version with none left out in between.
use Rattle.std.specs.Prelude.{ℕ, Bool, ◌==◌, nat_le, not, List, Option, count_by, find, if◌then◌else◌}
use Rattle.std.specs.Ordering.{is_lt}
use Rattle.std.specs.List.{filter_map, range_with_len, sum_by}
use Rattle.std.specs.declared.cmp.Ordering.{Ordering}

module _ {X : Type 0} (order : X → X → Ordering) (candidates : List X) where
  -- how many candidates come before one
  abbrev pub before_count : X → ℕ
  before_count c = count_by (λ d. is_lt (order d c)) candidates

  -- the candidate with exactly m before it
  abbrev pub at_place : ℕ → Option X
  at_place m = find (λ c. before_count c == m) candidates

  -- the candidates at the first so many places
  abbrev pub first_places : ℕ → List X
  first_places n = filter_map at_place (range_with_len 0 n)

  module _ (size : X → ℕ) where
    -- the sizes of a candidate and of all that come before it, which are those that it doesn't come before
    abbrev pub size_through : X → ℕ
    size_through c = sum_by (λ d. if is_lt (order c d) then 0 else size d) candidates

    abbrev pub fits : ℕ → X → Bool
    fits budget c = nat_le (size_through c) budget

    abbrev pub sent : ℕ → List X
    sent budget = first_places (count_by (fits budget) candidates)

    abbrev pub cut_count : ℕ → ℕ
    cut_count budget = count_by (λ c. not (fits budget c)) candidates
