-- What the owners of a scenario write may stand under numbers below a bound.
-- Serves `write_in` and `write_in_few_bits`.
use Rattle.runs.proofs.Common.{◌≡◌, ℕ, zero, suc, ◌*◌, ◌<◌, ◌≤◌, Bool, true, false, cond, List, [], ◌∷◌, length, sym, ap, ◌∙◌, arith, length-append, Some, Contains, same_Some, Entry, MOST_WRITES, sum_below-most, write_from, write_numbered, is_up, writes_in, count_before, own_writes, written_upto, length-own_writes, writes_in_le, apart-written_upto, Settings, IsLawfulScenario, MayWriteAll, IsWriteUnder}
use Rattle.runs.specs.inner.Writes.{AreWrittenIn, HasWritesBelow, writes_if_up}

up_to : (b : Bool) (n : ℕ) → cond b n 0 ≤ n
up_to true n = omega arith
up_to false n = omega arith

-- a round adds at most what a node writes that is up
length-written_upto_le : (s : Settings) (owner round : ℕ) → length (written_upto s owner round) ≤ writes_if_up s round
length-written_upto_le s owner zero = omega arith
length-written_upto_le s owner (suc round) =
    let before = count_before s owner (suc round) in
    omega (
      arith,
      length-append (written_upto s owner round) (own_writes s owner (suc round) before),
      length-written_upto_le s owner round,
      length-own_writes s owner (suc round) before,
      up_to (is_up s owner (suc round)) (writes_in s (suc round)),
    )

-- fewer than a bound are fewer than a greater one
pub below_more : (s : Settings) (most more : ℕ) → HasWritesBelow most s → most ≤ more → HasWritesBelow more s
below_more s most more below le = record { lawful = below.lawful; few = omega (arith, below.few, le) }

-- the limits of a scenario tell how many they are
pub below_limits : (s : Settings) (most : ℕ) → IsLawfulScenario s → MOST_WRITES * s.rounds < most → HasWritesBelow most s
below_limits s most lawful few = record {
  lawful = lawful;
  few = omega (arith, few, sum_below-most (λ done. writes_in s (suc done)) s.rounds MOST_WRITES (λ done lt. writes_in_le s lawful (suc done)));
}

-- what stands under a number is one of so many
placed : (es : List Entry) (place : ℕ) (e : Entry) → write_from es place ≡ Some e → (place < length es) × Contains es e
placed [] place e is = cc
placed (x ∷ xs) zero e is = (omega arith, (0, omega arith, same_Some x e is))
placed (x ∷ xs) (suc place) e is =
    let rest = placed xs place e is in
    (omega (arith, rest.0), (suc rest.1.0, omega (arith, rest.1.1), rest.1.2))

numbered : (es : List Entry) (number : ℕ) (e : Entry) → write_numbered es number ≡ Some e → (number ≤ length es) × Contains es e
numbered es zero e is = cc
numbered es (suc place) e is =
    let there = placed es place e is in
    (omega (arith, there.0), there.1)

-- so each is what a table asks of it
pub may_write_all : (s : Settings) (most : ℕ) (lists : ℕ → List Entry) → AreWrittenIn lists s → HasWritesBelow most s
    → MayWriteAll (IsWriteUnder lists most) s
may_write_all s most lists are below owner number e in_nodes is = record {
  is = under number e is;
  below = omega (arith, (numbered (written_upto s owner s.rounds) number e is).0, length-written_upto_le s owner s.rounds, below.few);
  apart = λ m n d c one other same.
      apart-written_upto s owner s.rounds d c (numbered (written_upto s owner s.rounds) m d (among m d one)).1
      (numbered (written_upto s owner s.rounds) n c (among n c other)).1 same;
}
  where
    under : (n : ℕ) (d : Entry) → write_numbered (written_upto s owner s.rounds) n ≡ Some d → write_numbered (lists owner) n ≡ Some d
    under n d there = ap (λ (es : List Entry). write_numbered es n) (are owner) ∙ there

    among : (n : ℕ) (d : Entry) → write_numbered (lists owner) n ≡ Some d → write_numbered (written_upto s owner s.rounds) n ≡ Some d
    among n d there = ap (λ (es : List Entry). write_numbered es n) (sym (are owner)) ∙ there
