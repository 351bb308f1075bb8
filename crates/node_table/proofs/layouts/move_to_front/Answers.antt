use Rattle.node_table.proofs.Common.{◌≡◌, ℕ, ◌+◌, ◌-◌, List, take, drop, ap, ◌∙◌, arith, paste, take-take, length-drop, take-paste, Entry}
use Rattle.node_table.proofs.Laid.{len-le-keys}
use Rattle.node_table.proofs.layouts.move_to_front.Goals as goal

pub returns-else-row-eq0-clause-row : goal.returns-else-row-eq0-clause-row
returns-else-row-eq0-clause-row c =
    let slots : List Entry = c.args.slots.now.items in
    let n : ℕ = c.args.row.start + c.args.row.len - c.args.row.start in
    let len_is : n ≡ c.args.row.len = omega arith in
    let len_at : c.args.row.len ≡ 0 + n = omega arith in
    let fits = len-le-keys c.args.keys slots c.args.row c.requires.row in
    let within = c.requires.row.within in
    ap (take c.args.row.len) (c.truncate.ensures.items ∙ ap (take c.args.keys) c.copy_within.ensures.items)
    ∙ take-take c.args.row.len c.args.keys (paste slots 0 (drop c.args.row.start slots) n) fits
    ∙ ap (λ k. take k (paste slots 0 (drop c.args.row.start slots) n)) len_at
    ∙ take-paste slots 0 (drop c.args.row.start slots) n (omega arith) (omega (arith, length-drop c.args.row.start slots))
    ∙ ap (λ k. take k (drop c.args.row.start slots)) len_is
