use Rattle.version_tables.proofs.Common.{both_ways}
use Rattle.version_tables.proofs.merging.all_fits.Goals as goal

pub returns-then-all_ahead_fits : goal.returns-then-all_ahead_fits
returns-then-all_ahead_fits g c =
    let one = c.all_ahead_fits.ensures.0 c.if-all_ahead_fits.true in let other = c.all_ahead_fits-then-all_ahead_fits.ensures in
    (λ yes. (one, other.0 yes), λ both. other.1 both.1)

pub returns-else-all_ahead_fits : goal.returns-else-all_ahead_fits
returns-else-all_ahead_fits g c =
    (λ yes. absurd (both_ways _ c.if-all_ahead_fits.false yes), λ both. c.all_ahead_fits.ensures.1 both.0)
