use Rattle.reconcile.proofs.Common.{rules, ◌≡◌, ◌-◌, ◌<◌, ◌≤◌, ◌^◌, length, sym, ap, ◌∙◌, subst, arith, is_lt, IsSorted, always_returns_same, length_permutation, ranks_by, Item, amount_of, item_share, AreWithin, sending_order, sending_total, length-fitting-le, sum-fitting}
use Rattle.reconcile.specs.inner.Parcels.{first_within}
use Rattle.reconcile.proofs.Answering.{few-found, answer-found}
use Rattle.reconcile.proofs.candidates.precise_delta.Goals as goal
use Rattle.reconcile.proofs.candidates.precise_delta.Goals.{After-len-2}

items_are : (c : After-len-2) → c.in_ok-items.items.items ≡ first_within c.args.question.budget c.sort_unstable_by.new.self.items
items_are c = c.in_ok-items.ensures.items ∙ ap (first_within c.args.question.budget) c.deref.ensures.value

in_nodes : (c : After-len-2) → c.args.question.turns.rotation < c.args.question.table.now.table.nodes
in_nodes c = subst (λ n. c.args.question.turns.rotation < n) c.requires.asked.nodes c.requires.asked.rotation

few : (c : After-len-2) → length c.in_ok-found.found.items < 2 ^ 32
few c = few-found c.args.question.turns.mode c.args.question.table.now.table c.args.question.digest.now c.args.question.receiver c.args.question.turns.rotation c.requires.asked.proper (in_nodes c) c.in_ok-found.found.items c.in_ok-found.ensures.all

count : (c : After-len-2) → c.len.result ≡ length c.in_ok-found.found.items
count c = c.len.ensures ∙ c.sort_unstable_by.new.self.ok.0 ∙ length_permutation c.in_ok-found.found.items c.sort_unstable_by.new.self.items c.sort_unstable_by.ensures.permutation

no_more : (c : After-len-2) → length c.in_ok-items.items.items ≤ c.len.result
no_more c =
    let budget = c.args.question.budget in
    let sorted = c.sort_unstable_by.new.self in
    omega (arith, ap length (items_are c), length-fitting-le (item_share budget) (amount_of budget) sorted.items, c.len.ensures, sorted.ok.0)

pub overflow_sub-cut : goal.overflow_sub-cut
overflow_sub-cut c = omega (arith, no_more c, c.len-2.ensures, c.in_ok-items.items.ok.0)

pub overflow_cast-cut : goal.overflow_cast-cut
overflow_cast-cut c = let now = goal.at.overflow_cast-cut c in omega (arith, few now.After-len-2, count now.After-len-2)

pub returns-clause-ok : goal.returns-clause-ok
returns-clause-ok c =
    let now = (goal.at.returns-clause-ok c).After-len-2 in
    let turns = c.args.question.turns in
    let t = c.args.question.table.now.table in
    let found = c.in_ok-found.found.items in
    let sorted = c.sort_unstable_by.new.self.items in
    let items = c.in_ok-items.items in
    let order = sending_order turns.mode turns.nodes turns.rotation found in
    let rises : IsSorted order sorted =
    c.sort_unstable_by.ensures.sorted (λ x y. is_lt (order x y)) (ranks_by (sending_total turns.nodes turns.rotation found turns.mode) (λ (x : Item). x))
    (always_returns_same _ (λ a r. is_lt r ≡ is_lt (order a.0.now a.1.0.now)) _ (λ a r f k. search rules)) in
    (λ i. record { items = items.items; cut = count now i - (c.len-2.ensures ∙ items.ok.0) i })
    ∙ answer-found turns.mode t c.args.question.digest.now c.args.question.receiver turns.rotation c.requires.asked.proper (in_nodes now) found c.in_ok-found.ensures.all c.args.question.budget sorted items.items c.sort_unstable_by.ensures.permutation
    (subst (λ n. IsSorted (sending_order turns.mode n turns.rotation found) sorted) c.requires.asked.nodes rises) (items_are now)

pub returns-clause-within : goal.returns-clause-within
returns-clause-within c =
    let budget = c.args.question.budget in
    subst (AreWithin budget) (sym (items_are (goal.at.returns-clause-within c).After-len-2)) (sum-fitting (item_share budget) (amount_of budget) c.sort_unstable_by.new.self.items)

pub returns-clause-few : goal.returns-clause-few
returns-clause-few c = let now = (goal.at.returns-clause-few c).After-len-2 in omega (arith, few now, count now, no_more now)
