use Rattle.version_lags.proofs.Common.{◌+◌, ◌-◌, ◌*◌, length}
use Rattle.version_lags.proofs.lags.+rest.Given as goal

abbrev pub decreases-rest_from : goal.decreases-rest_from
decreases-rest_from g l = 2 * (length l.numbers.now.lists.now - l.from)

abbrev pub decreases-others : goal.decreases-others
decreases-others g l = 2 * (length l.numbers.now.lists.now - l.to) + 1
