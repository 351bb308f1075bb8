-- What the formats have in common: but for their budgets, and restarts that forget, which format 2 alone may have,
-- they say the same. Source: this project.
use Rattle.std.specs.Prelude.{◌≡◌, ℕ, false, All}
use Rattle.scenario.specs.Settings.{Settings}
use Rattle.cluster.specs.Rounds.{tables_after}
use Rattle.played_rounds.specs.Outcomes.{figures_in, row_in}

-- no restart forgets
abbrev pub NeverForgets : Settings → Type 0
NeverForgets s = All (λ r. r.forget ≡ false) s.restarts

-- then nothing is ever left over, in either format; in format 1 none does
pub record LeavesNothingOver (s : Settings) : Type 0 where
  pub unforgetful : NeverForgets s → (round : ℕ) → (figures_in s round).leftover ≡ 0
  pub format_1 : s.format ≡ 1 → NeverForgets s

-- the number of the format has no part in tables and rows
abbrev pub FormatHasNoPart : Settings → Type 0
FormatHasNoPart s =
    (format round : ℕ)
    → (tables_after (record s { format = format }) round ≡ tables_after s round)
    × (row_in (record s { format = format }) round ≡ row_in s round)
