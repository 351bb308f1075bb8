use Rattle.std.proofs.Common.{◌+◌, ◌-◌, ◌*◌}
use Rattle.round_histories.proofs.openings.+rest.Given as goal

abbrev pub decreases-empty_tables_by : goal.decreases-empty_tables_by
decreases-empty_tables_by g l = 2 * (l.shares.nodes.end - l.shares.nodes.start)

abbrev pub decreases-others : goal.decreases-others
decreases-others g l = 2 * (l.end - l.middle) + 1
