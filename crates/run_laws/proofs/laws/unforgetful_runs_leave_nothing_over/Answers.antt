use Rattle.run_laws.proofs.Formats.{leaves_nothing_over}
use Rattle.run_laws.proofs.laws.unforgetful_runs_leave_nothing_over.Goals as goal

pub returns : goal.returns
returns c s lawful = leaves_nothing_over s lawful
