use Rattle.round_plan.proofs.Common.{ℕ, Bor, Option, reverse, unwrap_or, sym, ap, ◌∙◌, rules, tests, option_map, find, YieldsList-from_rev_slice, find_from_yields_List, Load}
use Rattle.std.specs.Slice.Iter.{iter_rest}
use Rattle.round_plan.specs.Writes.{writes_in, covers}
use Rattle.round_plan.proofs.owners.writes_in.Goals as goal

-- the writes that an answer of the search says, or else the usual ones
abbrev said : Option Load → ℕ → ℕ
said o usual = unwrap_or (option_map (λ (l : Load). l.writes) o) usual

abbrev seen : Option (Bor Load) → Option Load
seen o = option_map (λ (x : Bor Load). x.now) o

pub returns-in-Some-clause-value : goal.returns-in-Some-clause-value
unfolding writes_in
returns-in-Some-clause-value c =
    let s = c.args.scenario.now in
    let last = find_from_yields_List (covers c.args.round) _ _ c.find.result c.find.ensures.ran (YieldsList-from_rev_slice c.loads.result.now
    (ap iter_rest c.rev-from_last.ensures.source ∙ c.iter.ensures.rest)) (λ x b q k. search (rules, tests)) in
    sym (ap (λ o. said (seen o) s.writes) c.in-Some.is)
    ∙ ap (λ o. said o s.writes) (last ∙ ap (λ ls. find (covers c.args.round) (reverse ls)) c.loads.ensures.value)

pub returns-in-None-clause-value : goal.returns-in-None-clause-value
unfolding writes_in
returns-in-None-clause-value c =
    let s = c.args.scenario.now in
    let last = find_from_yields_List (covers c.args.round) _ _ c.find.result c.find.ensures.ran (YieldsList-from_rev_slice c.loads.result.now
    (ap iter_rest c.rev-from_last.ensures.source ∙ c.iter.ensures.rest)) (λ x b q k. search (rules, tests)) in
    c.writes.ensures.value
    ∙ sym (ap (λ o. said (seen o) s.writes) c.in-None.is)
    ∙ ap (λ o. said o s.writes) (last ∙ ap (λ ls. find (covers c.args.round) (reverse ls)) c.loads.ensures.value)
