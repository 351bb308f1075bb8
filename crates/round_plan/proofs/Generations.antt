-- The generation of a node never falls, and grows in a round in which the node forgets and in no other.
-- Serves `cluster`, `played_rounds` and `run_laws`.
use Rattle.round_plan.proofs.Common.{◌≡◌, ℕ, zero, suc, ◌+◌, ◌-◌, ◌≤◌, Bool, true, false, ◌&&◌, ◌==◌, if◌then◌else◌, List, [], ◌∷◌, ◌||◌, get_or, All, refl, ap, ◌∙◌, inl, inr, arith, list_any, cases_lt, and_parts, All-tail, Settings, IsLawfulScenario}
use Rattle.round_plan.specs.Generations.{generation_upto}
use Rattle.round_plan.specs.Outages.{restarts_in, forgets_in, restarts_now, forgets_now}
use Rattle.round_plan.specs.calls.Outages.{any_restart_now}

one_or_none : (b : Bool) → (if b then 1 else 0) ≤ 1
one_or_none true = omega arith
one_or_none false = omega arith

-- the generation of a round, where the round before is written as a difference
pub generation_upto-grown : (s : Settings) (node round : ℕ) → 1 ≤ round → generation_upto s node round ≡ generation_upto s node (round - 1) + (if forgets_now s node round then 1 else 0)
generation_upto-grown s node zero some = absurd (omega arith)
generation_upto-grown s node (suc last) some =
    let e : last ≡ suc last - 1 = omega arith in
    ap (λ b. generation_upto s node b + (if forgets_now s node (suc last) then 1 else 0)) e

-- where the node doesn't forget it stays
pub generation_upto-same : (s : Settings) (node round : ℕ) → 1 ≤ round → forgets_now s node round ≡ false → generation_upto s node round ≡ generation_upto s node (round - 1)
generation_upto-same s node round some keeps =
    generation_upto-grown s node round some ∙ ap (λ b. generation_upto s node (round - 1) + (if b then 1 else 0)) keeps ∙ omega arith

-- and where it does the next one begins
pub generation_upto-next : (s : Settings) (node round : ℕ) → 1 ≤ round → forgets_now s node round ≡ true → generation_upto s node round ≡ generation_upto s node (round - 1) + 1
generation_upto-next s node round some forgets =
    generation_upto-grown s node round some ∙ ap (λ b. generation_upto s node (round - 1) + (if b then 1 else 0)) forgets

pub generation_upto-rises : (s : Settings) (node earlier round : ℕ) → earlier ≤ round → generation_upto s node earlier ≤ generation_upto s node round
generation_upto-rises s node earlier zero le =
    let e : earlier ≡ zero = omega arith in rw e (omega arith)
generation_upto-rises s node earlier (suc round) le =
    elim (cases_lt round earlier) [
      | inl later ↦ let e : earlier ≡ suc round = omega arith in rw e (omega arith)
      | inr upto ↦ omega (arith, generation_upto-rises s node earlier round upto)
    ]

-- no more generations than rounds
pub generation_upto_le : (s : Settings) (node round : ℕ) → generation_upto s node round ≤ round
generation_upto_le s node zero = omega arith
generation_upto_le s node (suc round) =
    omega (arith, generation_upto_le s node round, one_or_none (forgets_now s node (suc round)))

any_then : {X : Type 0} (p q : X → Bool) → ((x : X) → p x ≡ true → q x ≡ true) → (xs : List X) → list_any p xs ≡ true → list_any q xs ≡ true
any_then p q so [] is = is
any_then p q so (x ∷ xs) is = either (p x) (so x) (any_then p q so xs) is where
  later : (b : Bool) → list_any q xs ≡ true → (b || list_any q xs) ≡ true
  later true e = refl
  later false e = e

  either : (b : Bool) → (b ≡ true → q x ≡ true) → (list_any p xs ≡ true → list_any q xs ≡ true) → (b || list_any p xs) ≡ true → (q x || list_any q xs) ≡ true
  either true here rest e = ap (λ b. b || list_any q xs) (here refl)
  either false here rest e = later (q x) (rest e)

-- a node that forgets restarts
pub restarts-forgets : (s : Settings) (node round : ℕ) → forgets_now s node round ≡ true → restarts_now s node round ≡ true
unfolding forgets_now restarts_now
restarts-forgets s node round =
    any_then (forgets_in node round) (restarts_in node round) (λ r is. (and_parts (restarts_in node round r) r.forget is).0) s.restarts

-- a node restarts in no round in which none does
pub restarts-any : (s : Settings) (node round : ℕ) → restarts_now s node round ≡ true → any_restart_now s round ≡ true
unfolding restarts_now any_restart_now
restarts-any s node round =
    any_then (restarts_in node round) (λ r. r.round == round) (λ r is. (and_parts (r.node == node) (r.round == round) is).1) s.restarts

none_of : {X : Type 0} (p : X → Bool) (xs : List X) → All (λ x. p x ≡ false) xs → list_any p xs ≡ false
none_of p [] none = refl
none_of p (x ∷ xs) none = rw (none 0 x (omega arith)) (none_of p xs (All-tail (λ x. p x ≡ false) x xs none))

-- in format 1 none forgets, and every generation is 0
module _ (s : Settings) (lawful : IsLawfulScenario s) (first : s.format ≡ 1) (node : ℕ) where
  never : (b : Bool) → (b ≡ true → s.format ≡ 2) → b ≡ false
  never true is = absurd (omega (arith, first, is refl))
  never false is = refl

  and_never : (b c : Bool) → c ≡ false → (b && c) ≡ false
  and_never true c e = e
  and_never false c e = refl

  pub forgets_now-format_1 : (round : ℕ) → forgets_now s node round ≡ false
  unfolding forgets_now
  forgets_now-format_1 round =
      none_of (forgets_in node round) s.restarts (λ k d lt.
      and_never (restarts_in node round (get_or s.restarts k d)) (get_or s.restarts k d).forget (never (get_or s.restarts k d).forget (lawful.restarts.each k d lt).forget))

  pub generation_upto-format_1 : (round : ℕ) → generation_upto s node round ≡ 0
  generation_upto-format_1 zero = refl
  generation_upto-format_1 (suc round) =
      ap (λ b. generation_upto s node round + (if b then 1 else 0)) (forgets_now-format_1 (suc round))
      ∙ ap (λ n. n + 0) (generation_upto-format_1 round)
