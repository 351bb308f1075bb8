use Rattle.std.proofs.Common.{◌≡◌, ◌<◌, ◌^◌, ◌∙◌, true, arith, rules}
use Rattle.report.specs.inner.Cells.{is_plain}
use Rattle.report.proofs.CellFacts.{is_plain-decimal}
use Rattle.report.proofs.cells.put_number.Goals as goal

pub returns-clause-added : goal.returns-clause-added
returns-clause-added c =
    let fits : c.args.number < 2 ^ 64 = omega arith in
    let text = c.as_bytes.ensures.value ∙ c.in_ok-to_string.ensures.ok in
    let plain : is_plain c.as_bytes.result.now ≡ true = rw text (is_plain-decimal c.args.number fits) in
    search (rules, plain, text)
