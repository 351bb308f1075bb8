-- The numbers of an ascending array, and so the nodes of one side of a partition.
-- Serves `PartitionsElements::of`.
use Rattle.scenario.proofs.Common.{◌≡◌, ℕ, zero, suc, ◌+◌, ◌-◌, ◌<◌, ◌≤◌, pos, negsuc, nat_le, ◌&&◌, List, [], ◌∷◌, get_or, Ok, All, sym, subst, arith, IsStrictlyIncreasing, leb-true, and_parts, All-nil, All-cons, All-weaker, Data, integer, Members, Field}
use Rattle.bench_types.specs.declared.fields.Field.TheVariants as field
use Rattle.scenario.specs.Elements.{array_of}
use Rattle.scenario.specs.inner.Elements.{ascending, apart_at}
use Rattle.scenario.specs.Fields.{◌>>=◌, value_at, number_of}
use Rattle.scenario.specs.Settings.{IsWithin}
use Rattle.scenario.proofs.Steps.{passed, same_ok, kept}

number_within : (f : Field) (low high n : ℕ) (value : Data) → number_of f low high value ≡ Ok n → IsWithin low high n
number_within f low high n (integer (pos m)) e =
    let (test, same) = kept (nat_le low m && nat_le m high) m n _ e in
    let (above, below) = and_parts (nat_le low m) (nat_le m high) test in
    subst (IsWithin low high) same (leb-true low m above, leb-true m high below)
number_within f low high n (integer (negsuc m)) e = absurd cc
number_within f low high n _ e = absurd cc

-- the numbers of an ascending array are within its limits
ascending_within : (f : Field) (low high : ℕ) (values : List Data) (ns : List ℕ) → ascending f low high values ≡ Ok ns → All (IsWithin low high) ns
ascending_within f low high [] ns e = subst (All (IsWithin low high)) (same_ok [] ns e) (All-nil _)
ascending_within f low high (value ∷ others) ns e =
    passed (number_of f low high value) _ ns e (λ n is_n e.
    passed (ascending f (n + 1) high others) _ ns e (λ more is_more e.
    let here = number_within f low high n value is_n in
    let after = ascending_within f (n + 1) high others more is_more in
    subst (All (IsWithin low high)) (same_ok (n ∷ more) ns e)
    (All-cons (IsWithin low high) n more here (All-weaker (IsWithin (n + 1) high) (IsWithin low high) (λ m w. (omega (arith, w.0, here.0), w.1)) more after))))

increasing-cons : (n high : ℕ) (more : List ℕ) → All (IsWithin (n + 1) high) more → IsStrictlyIncreasing more → IsStrictlyIncreasing (n ∷ more)
increasing-cons n high more above rest zero h =
    let first = (above 0 0 (omega arith)).0 in omega (arith, first)
increasing-cons n high more above rest (suc k) h =
    let next : suc k + 1 ≡ suc (k + 1) = omega arith in
    subst (λ j. get_or more k 0 < get_or (n ∷ more) j 0) (sym next) (rest k (omega arith))

-- and each is above the one before
ascending_increases : (f : Field) (low high : ℕ) (values : List Data) (ns : List ℕ) → ascending f low high values ≡ Ok ns → IsStrictlyIncreasing ns
ascending_increases f low high [] ns e = subst IsStrictlyIncreasing (same_ok [] ns e) (λ k h. absurd (omega arith))
ascending_increases f low high (value ∷ others) ns e =
    passed (number_of f low high value) _ ns e (λ n is_n e.
    passed (ascending f (n + 1) high others) _ ns e (λ more is_more e.
    subst IsStrictlyIncreasing (same_ok (n ∷ more) ns e)
    (increasing-cons n high more (ascending_within f (n + 1) high others more is_more) (ascending_increases f (n + 1) high others more is_more))))

-- and so are the nodes of one side of a partition
pub apart_lawful : (nodes : ℕ) → 2 ≤ nodes → (table : Members) (apart : List ℕ) → apart_at nodes table ≡ Ok apart → IsStrictlyIncreasing apart × All (λ n. n < nodes) apart
apart_lawful nodes some table apart e =
    passed (value_at field.PartitionApart table >>= array_of field.PartitionApart) _ apart e (λ values _ e. (
      ascending_increases field.PartitionApart 0 (nodes - 1) values apart e,
      All-weaker (IsWithin 0 (nodes - 1)) (λ n. n < nodes) (λ n w. omega (arith, w.1)) apart (ascending_within field.PartitionApart 0 (nodes - 1) values apart e),
    ))
