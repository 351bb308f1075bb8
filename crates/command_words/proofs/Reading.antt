-- What the options of a command say, by what `clap` reads of them.
-- Serves `asked_for` and `workers_of`.
use Rattle.command_words.proofs.Common.{◌≡◌, ◌≤◌, ℕ, List, Option, Some, None, Result, codes, option_map, refl, sym, arith, Box, Global, MatchOption, ◌∙◌, ParsesUnsigned, ExplainsUnsignedError, HasUnsignedDigitsIfOk, IsNumeral, digits_value, without_leading_plus, ReadsOne, Row, Text, one_of, one_text, rows_of, subcommand_name_of, subcommand_rows, subcommand_rows_of, one_text-rows, Found, SubCommand, box_value, ParseIntError, ArgMatches, out-ArgMatches, out-SubCommand}
use Rattle.command_words.specs.Jobs.{AreWorkersOf, AsksForNone}
use Rattle.command_words.specs.Workers.{AreLawfulWorkers}
use Rattle.command_words.specs.declared.jobs.Job.TheVariants.{Check, Run, Compare}

-- no lawful number of workers is given
abbrev pub HasNoWorkers : List Row → Type 0
HasNoWorkers options = (workers : ℕ) → AreWorkersOf options workers → AreLawfulWorkers workers → ⊥

other_text : (options : List Row) (t : Text) → one_of (codes "workers") options ≡ Some t
    → (IsNumeral 10 (without_leading_plus t) → digits_value 10 (without_leading_plus t) ≤ 64 → ⊥) → HasNoWorkers options
other_text options t is unread workers asked lawful =
    let same : Some asked.text ≡ Some t = sym asked.given ∙ is in
    let text : asked.text ≡ t = cc in
    unread (rw (← text) asked.numeral) (rw (← text, ← asked.number) lawful.1)

-- `u32` as it is read
abbrev pub ReadsNumber : Text → Result ℕ ParseIntError → Type 0
ReadsNumber t x = ParsesUnsigned 32 10 t x × ExplainsUnsignedError 10 t x × HasUnsignedDigitsIfOk t x

workers_in : (options : List Row) (o : Option Text) → one_of (codes "workers") options ≡ o → (r : Option ℕ)
    → (o ≡ None → r ≡ None) → ((t : List ℕ) → o ≡ Some t → ReadsOne ReadsNumber t r)
    → MatchOption r (HasNoWorkers options) (AreWorkersOf options)
workers_in options None is r none value =
    rw (none refl) (λ workers asked lawful. let bad : None ≡ Some asked.text = sym is ∙ asked.given in cc)
workers_in options (Some t) is None none value =
    let read = value t refl in
    other_text options t is (λ numeral low. read.1.0 (numeral, omega arith))
workers_in options (Some t) is (Some workers) none value =
    let read = value t refl in
    record { text = t; given = is; numeral = read.0.0.0; number = read.0.1 }

-- what `get_one` reads of the option
pub workers_read : (f : Found) (r : Option ℕ) → (one_text f (codes "workers") ≡ None → r ≡ None)
    → ((t : List ℕ) → one_text f (codes "workers") ≡ Some t → ReadsOne ReadsNumber t r)
    → MatchOption r (HasNoWorkers (rows_of f)) (AreWorkersOf (rows_of f))
workers_read f r none value =
    workers_in (rows_of f) (one_text f (codes "workers")) (sym (one_text-rows f (codes "workers"))) r none value

pub other_number : (options : List Row) (workers : ℕ) → AreWorkersOf options workers → (AreLawfulWorkers workers → ⊥) → HasNoWorkers options
other_number options workers are unlawful other asked lawful =
    let same : Some asked.text ≡ Some are.text = sym asked.given ∙ are.given in
    let text : asked.text ≡ are.text = cc in
    let number : other ≡ workers = asked.number ∙ (rw text refl ∙ sym are.number) in
    unlawful (rw (← number) lawful)

-- the command that was met, from its name and its options
pub command_met : (m : ArgMatches) (name : Text) (options : List Row) → Some name ≡ subcommand_name_of m
    → Some options ≡ option_map (λ p. p.1) (subcommand_rows_of m) → subcommand_rows_of m ≡ Some (name, options)
command_met m name options = go (out-ArgMatches m).subcommand
  where
    go : (o : Option (Box SubCommand Global))
        → Some name ≡ option_map (λ b. (out-SubCommand (box_value b)).name.now) o
        → Some options ≡ option_map (λ p. p.1) (subcommand_rows o) → subcommand_rows o ≡ Some (name, options)
    go None is rows = cc
    go (Some b) is rows = cc

-- without workers a command that may have them asks for nothing
pub asks_for_none : (name : Text) (options : List Row) → (name ≡ codes "check" → ⊥) → HasNoWorkers options → AsksForNone (Some (name, options))
asks_for_none name options other none Check asked = absurd (other asked.0)
asks_for_none name options other none (Run trace workers) asked = none workers asked.0.2 asked.1
asks_for_none name options other none (Compare workers) asked = none workers asked.0.1 asked.1
