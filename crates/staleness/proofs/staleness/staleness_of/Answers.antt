use Rattle.staleness.proofs.Common.{◌≡◌, ℕ, ◌+◌, ◌-◌, ◌≤◌, option_map, sym, ap, ◌∙◌, arith, mark_held, Write, staleness_of, written, is_missed, first_missed, All-find}
use Rattle.staleness.proofs.Known.{staleness_known}
use Rattle.staleness.proofs.staleness.staleness_of.Goals as goal
use Rattle.staleness.proofs.staleness.staleness_of.Goals.{After-first_missed}

abbrev rounds : ℕ → Write → ℕ
rounds round w = round - w.born + 1

found : (c : After-first_missed) → option_map (rounds c.args.round) c.first_missed.result ≡ staleness_of c.args.round c.args.generation (written c.args.list.now) c.args.key (mark_held c.args.held)
found c =
    ap (option_map (rounds c.args.round)) (c.first_missed.ensures.missed ∙ ap (first_missed (written c.args.list.now) c.args.key) c.version_known-version.ensures)
    ∙ staleness_known c.args.round c.args.generation (written c.args.list.now) c.args.key c.args.held c.first_missed.ensures.numbered (omega (arith, c.first_missed.ensures.few))

pub returns-in_err-missed : goal.returns-in_err-missed
returns-in_err-missed c = c.from_residual.ensures ∙ ap (option_map (rounds c.args.round)) (sym c.in_err-missed.was) ∙ found (goal.at.returns-in_err-missed c).After-first_missed

pub overflow_sub-result : goal.overflow_sub-result
overflow_sub-result c = All-find (λ (w : Write). w.born ≤ c.args.round) (is_missed c.args.key c.version_known-version.result) (written c.args.list.now) c.in_ok-missed.missed c.requires.born (sym c.first_missed.ensures.missed ∙ c.in_ok-missed.was)

pub returns : goal.returns
returns c = ap (option_map (rounds c.args.round)) (sym c.in_ok-missed.was) ∙ found (goal.at.returns c).After-first_missed
