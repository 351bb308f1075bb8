use Rattle.version_tables.proofs.Common.{◌++◌, ◌<◌, ◌∙◌, ap, map, map-append, subst, sym, MOST_ROUNDS, HistoriesView}
use Rattle.version_tables.proofs.HistoryCalls.{histories-ended}
use Rattle.version_tables.proofs.histories.Histories.end_round.Goals as goal

pub invariant_of-self-2 : goal.invariant_of-self-2
invariant_of-self-2 g c =
    let ends = c.self.inside.ends.items in
    histories-ended c.self.invariant (ap (map g.N.Number.number) (c.in_ok-extend_from_slice.ensures.items ∙ ap (λ xs. ends ++ xs) c.deref.ensures.value)
    ∙ map-append g.N.Number.number ends c.self.inside.counts.items)
    (subst (λ (h : HistoriesView). h.rounds < MOST_ROUNDS) (sym c.self.view_is) c.requires)

pub returns-clause-known : goal.returns-clause-known
returns-clause-known g c = (invariant_of-self-2 g c).known

pub invariant_of-self : goal.invariant_of-self
invariant_of-self g c = rw c.in_err-extend_from_slice.ensures.items c.self.invariant
