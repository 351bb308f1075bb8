-- Whether any node restarts in a round, as a call answers it. Source: this project.
use Rattle.std.specs.Prelude.{ℕ, ◌==◌, Bool}
use Rattle.std.specs.List.{list_any}
use Rattle.scenario.specs.Settings.{Settings}

-- a restart of some node begins in a round
unfoldable pub any_restart_now : Settings → ℕ → Bool
any_restart_now s round = list_any (λ r. r.round == round) s.restarts
