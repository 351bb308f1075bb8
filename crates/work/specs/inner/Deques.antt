-- What a push, a pop and a steal tell of a worker's deque. Source: this project.
use Rattle.std.specs.Prelude.{◌≡◌, ℕ, List, [], ◌++◌}
use Rattle.work.specs.declared.push_logs.PushLog.{PushLog}

abbrev pub no_pushes : PushLog
no_pushes = record { indices = [] }

-- a worker has pushed these behind those before
abbrev pub IsPushed : PushLog → List ℕ → PushLog → Type 0
IsPushed old indices new = new.indices ≡ old.indices ++ indices

-- some left the deque at its front
abbrev pub IsTaken : PushLog → List ℕ → PushLog → Type 0
IsTaken old _ new = new ≡ old
