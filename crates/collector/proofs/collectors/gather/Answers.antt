use Rattle.std.proofs.Common.{◌≡◌, ℕ, zero, suc, ◌<◌, ◌≤◌, List, [], ◌∷◌, length, map, take, get_or, arith, ap, ◌∙◌}
use Rattle.std.specs.Prelude.{Some, None}
use Rattle.std.proofs.lemmas.Option.{slice_get-get_or}
use Rattle.bench_types.specs.declared.exchanges.Record.{Record}
use Rattle.collector.specs.Outcomes.{Outcomes, HasOutcome, IsFirstMissing}
use Rattle.collector.proofs.collectors.gather.Goals as goal

-- Records that stand in their places up to the first that is missing.
moved_before : (xs : Outcomes) (rs : List Record) (i j : ℕ) → map Some rs ≡ take i xs → i ≤ length xs → j < i → HasOutcome xs j
moved_before xs rs zero j e le lt = absurd (omega arith)
moved_before [] rs (suc i) j e le lt = absurd (omega arith)
moved_before (x ∷ xs) [] (suc i) j e le lt = cc
moved_before (x ∷ xs) (r ∷ rs) (suc i) zero e le lt = (r, cc)
moved_before (x ∷ xs) (r ∷ rs) (suc i) (suc j) e le lt = moved_before xs rs i j (cc) (omega arith) (omega arith)

first_missing : (xs : Outcomes) (rs : List Record) (i : ℕ) → map Some rs ≡ take i xs → i < length xs → get_or xs i None ≡ None → IsFirstMissing xs i
first_missing xs rs i moved lt none = record {
  missing = slice_get-get_or xs i None lt ∙ ap Some none;
  before = λ j below. moved_before xs rs i j moved (omega arith) below;
}

pub returns-in-None-clause-err : goal.returns-in-None-clause-err
returns-in-None-clause-err c = first_missing c.args.outcomes.now c.loop-at.room.items c.loop-at.at c.loop-at.invariant.moved c.loop-at-test.true c.in-None.is
