-- What owners write, who restarts and who meets whom is the same in each format, under each mode and with each budget.
-- Serves `Alike`, `Best` and `Formats`.
use Rattle.run_laws.proofs.Common.{◌≡◌, ℕ, zero, suc, ◌+◌, ◌++◌, [], map, if◌then◌else◌, refl, range_with_len, Rules, next_version, write_of_entry, generation_upto, round_list_of, word_of, number_by, count_upto, count_before, numbered_write, own_writes, writes_upto, written_upto, Settings}
use Rattle.round_plan.specs.Outages.{forgets_now, is_up, restarts_now, separated}
use Rattle.round_plan.specs.Writes.{writes_in}
use Rattle.played_rounds.specs.Lists.{lists_after}

module _ (s : Settings) (format : ℕ) (rules : Rules) where
  abbrev s' : Settings
  s' = record s { format = format; mode = rules.mode; budget = rules.budget }

  module _ (n : ℕ) where
    pub forgets : (round : ℕ) → forgets_now s' n round ≡ forgets_now s n round
    unfolding forgets_now
    forgets round = refl

    pub restarts : (round : ℕ) → restarts_now s' n round ≡ restarts_now s n round
    unfolding restarts_now
    restarts round = refl

    up : (round : ℕ) → is_up s' n round ≡ is_up s n round
    unfolding is_up
    up round = refl

    many : (round : ℕ) → writes_in s' round ≡ writes_in s round
    unfolding writes_in
    many round = refl

    word : (round place : ℕ) → word_of s' n round place ≡ word_of s n round place
    word round place = refl

    pub generation : (round : ℕ) → generation_upto s' n round ≡ generation_upto s n round
    generation zero = refl
    generation (suc round) = λ i. generation round i + (if forgets (suc round) i then 1 else 0)

    counted : (round : ℕ) → count_upto s' n round ≡ count_upto s n round
    counted zero = refl
    counted (suc round) = λ i. (if forgets (suc round) i then 0 else counted round i) + (if up (suc round) i then many (suc round) i else 0)

    before : (round : ℕ) → count_before s' n round ≡ count_before s n round
    before zero = refl
    before (suc round) = λ i. if forgets (suc round) i then 0 else counted round i

    pub now : (round : ℕ) → own_writes s' n round (count_before s' n round) ≡ own_writes s n round (count_before s n round)
    now round = λ i. if up round i then map (λ place. numbered_write s.keys round (generation round i)
        (number_by s.choice (word round (8 + place) i) (next_version (before round i + place))) (before round i + place))
        (range_with_len 0 (many round i)) else []

    pub written : (round : ℕ) → written_upto s' n round ≡ written_upto s n round
    written zero = refl
    written (suc round) = λ i. written round i ++ now (suc round) i

    current : (round : ℕ) → writes_upto s' n round ≡ writes_upto s n round
    current zero = refl
    current (suc round) = λ i. (if forgets (suc round) i then [] else current round i) ++ now (suc round) i

  pub same_list : (round : ℕ) → round_list_of s' round ≡ round_list_of s round
  unfolding is_up separated
  same_list round = refl

  pub same_lists : (round : ℕ) → lists_after s' round ≡ lists_after s round
  same_lists round = λ i. map (λ n. map write_of_entry (current n round i)) (range_with_len 0 s.nodes)
