use Rattle.command_words.proofs.Common.{arith, ap, codes, sym, ◌∙◌, found_of, first_value-rows}
use Rattle.std.specs.Prelude.{length}
use Rattle.command_words.proofs.Reading.{command_met, asks_for_none}
use Rattle.command_words.proofs.words.asked_for.Goals as goal

pub returns-in_err-workers_of-in-run-default : goal.returns-in_err-workers_of-in-run-default
returns-in_err-workers_of-in-run-default c =
    let met = command_met c.args.matches.now _ _ c.in_ok-subcommand.ensures.name c.in_ok-subcommand.ensures.rows in
    rw (c.from_residual-in_err-workers_of-in-run-default.ensures, met)
    (asks_for_none _ _ (λ check. omega (arith, ap length (sym c.in-run-default.is-run-0 ∙ check))) c.in_err-workers_of-in-run-default.ensures)

pub returns-in_err-workers_of-in-compare-default : goal.returns-in_err-workers_of-in-compare-default
returns-in_err-workers_of-in-compare-default c =
    let met = command_met c.args.matches.now _ _ c.in_ok-subcommand.ensures.name c.in_ok-subcommand.ensures.rows in
    rw (c.from_residual-in_err-workers_of-in-compare-default.ensures, met)
    (asks_for_none _ _ (λ check. omega (arith, ap length (sym c.in-compare-default.is-compare-0 ∙ check))) c.in_err-workers_of-in-compare-default.ensures)

pub returns-in_ok-workers_of-in-run-default : goal.returns-in_ok-workers_of-in-run-default
returns-in_ok-workers_of-in-run-default c =
    let met = command_met c.args.matches.now _ _ c.in_ok-subcommand.ensures.name c.in_ok-subcommand.ensures.rows in
    let read = c.in_ok-workers_of-in-run-default.ensures in
    let trace = c.get_str.ensures ∙ first_value-rows (found_of c.in_ok-subcommand.field-0.1.now) (codes "trace") in
    rw met ((c.in-run-default.is-run-0, trace, read.0), read.1)

pub returns-in_ok-workers_of-in-compare-default : goal.returns-in_ok-workers_of-in-compare-default
returns-in_ok-workers_of-in-compare-default c =
    let met = command_met c.args.matches.now _ _ c.in_ok-subcommand.ensures.name c.in_ok-subcommand.ensures.rows in
    let read = c.in_ok-workers_of-in-compare-default.ensures in
    rw met ((c.in-compare-default.is-compare-0, read.0), read.1)

pub returns-in-check-default : goal.returns-in-check-default
returns-in-check-default c =
    let met = command_met c.args.matches.now _ _ c.in_ok-subcommand.ensures.name c.in_ok-subcommand.ensures.rows in
    rw met (c.in-check-default.is-check-0, tt)
