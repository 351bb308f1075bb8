use Rattle.node_table.proofs.Common.{◌≡◌, ℕ, ◌+◌, ◌-◌, ◌<◌, List, ◌++◌, length, get_or, take, replicate, ap, ◌∙◌, arith, mul-le-mul_right, mul-le-mul_left, take_all, get_or_default, Entry, MOST_NODES}
use Rattle.node_table.specs.declared.layouts.Row.{Row}
use Rattle.node_table.proofs.Laid.{slots-le}
use Rattle.node_table.proofs.Opened.{laid_open, renewed_open}
use Rattle.node_table.proofs.layouts.open.Goals as goal
use Rattle.node_table.proofs.layouts.open.Goals.{After-index_mut}

pub overflow_cast-start : goal.overflow_cast-start
overflow_cast-start c =
    let most = slots-le _ _ _ _ c.requires.laid in
    let nodes = mul-le-mul_right c.args.keys c.requires.nodes in
    let keys = mul-le-mul_left MOST_NODES c.requires.keys in
    omega (arith, c.len-start.ensures, c.args.slots.now.ok.0)

-- the slots with a block more
grown : (slots now : List Entry) (start len keys : ℕ) (entry : Entry) → start ≡ length slots → len ≡ length slots → now ≡ take (start + keys) slots ++ replicate (start + keys - len) entry → now ≡ slots ++ replicate keys entry
grown slots now start len keys entry start_is len_is is =
    let rest : start + keys - len ≡ keys = omega arith in
    is ∙ ap (λ xs. xs ++ replicate (start + keys - len) entry) (take_all (start + keys) slots (omega arith)) ∙ ap (λ n. slots ++ replicate n entry) rest

none : Row
none = record { start = 0; len = 0 }

start_is : (c : After-index_mut) → c.len-start.result ≡ length c.args.slots.now.items
start_is c = omega (arith, c.len-start.ensures, c.args.slots.now.ok.0)

now : (c : After-index_mut) → c.resize.new.self.items ≡ c.args.slots.now.items ++ replicate c.args.keys c.args.entry
now c = grown c.args.slots.now.items _ c.len-start.result c.args.slots.now.len c.args.keys c.args.entry (start_is c) (omega (arith, c.args.slots.now.ok.0)) c.in_ok-resize.ensures.items

pub returns-clause-laid : goal.returns-clause-laid
returns-clause-laid c =
    let grew = (goal.at.returns-clause-laid c).After-index_mut in
    let lt : c.args.owner < length c.args.rows.now.items = omega (arith, c.requires.owner, c.args.rows.now.ok.0) in
    rw (now grew, start_is grew) (laid_open _ c.args.keys c.args.slots.now.items c.args.rows.now.items c.args.owner (get_or c.args.rows.now.items c.args.owner none) c.args.entry c.requires.laid lt (λ d. get_or_default c.args.rows.now.items c.args.owner d none lt) (c.requires.empty none) c.requires.entry.key c.requires.entry.written)

pub returns-clause-ok : goal.returns-clause-ok
returns-clause-ok c =
    let grew = (goal.at.returns-clause-ok c).After-index_mut in
    let lt : c.args.owner < length c.args.rows.now.items = omega (arith, c.requires.owner, c.args.rows.now.ok.0) in
    rw (now grew, start_is grew) (renewed_open _ c.args.keys c.args.slots.now.items c.args.rows.now.items c.args.owner (get_or c.args.rows.now.items c.args.owner none) c.args.entry c.requires.laid lt (λ d. get_or_default c.args.rows.now.items c.args.owner d none lt) (c.requires.empty none) c.requires.entry.key c.requires.entry.written)
