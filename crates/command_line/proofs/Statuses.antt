-- What a status tells of what was done.
-- Serves `main_with`.
use Rattle.std.proofs.Common.{◌≡◌, Ok, Err, Result, IfErr, arith}
use Rattle.bench_types.specs.declared.faults.Fault.{Fault}
use Rattle.bench_types.specs.declared.sinks.Sink.{Ghosts as Sink}
use Rattle.command_words.specs.Statuses.{IsTold, told_of}
use Rattle.command_words.specs.calls.Statuses.{IsOutcomeTold, status_of}

-- 1 comes of a fault, and that was told
pub was_told :
    {T E : Type 0} {P : Fault → Type 0} (sink : Sink E) (old new : E) (done : Result T Fault) → IfErr done P →
    IsOutcomeTold sink old new done → status_of done ≡ 1 → (fault : Fault) × P fault × IsTold sink old new (told_of fault)
was_told sink old new (Ok x) p told is = absurd (omega (arith, is))
was_told sink old new (Err fault) p told is = (fault, p, told)
