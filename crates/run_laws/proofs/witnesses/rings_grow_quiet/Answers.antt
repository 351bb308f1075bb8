use Rattle.run_laws.proofs.Otherwise.{lags_now, left_over}
use Rattle.run_laws.proofs.SmallRings.{quiet, all_meet, has_forgotten, written_since, not_fresh_later, not_healed}
use Rattle.run_laws.proofs.witnesses.rings_grow_quiet.Goals as goal

pub returns : goal.returns
returns c = record { quiet = quiet; exchanges = all_meet; forgot = has_forgotten; since = written_since; unhealed = not_healed; lags = lags_now; restarts = not_fresh_later; left_over = left_over }
