use Rattle.version_tables.proofs.Common.{◌≡◌, ◌+◌, map, ap, ◌∙◌, with_items, without_all, AreChanged, table_in}
use Rattle.version_tables.proofs.OwnCalls.{LiesAs, lies-kept, lies-table, put-back, seen, forgets}
use Rattle.version_tables.proofs.tables.VersionTable.forget_all.Goals as goal

module _ (g : _) (c : goal.After-self-3-1 g) where
  after : LiesAs g.H.Written.lists (record (seen c.self.view_is) {
    generation = c.self.inside.generation + 1;
    cells = map g.N.Number.number (with_items c.self.inside.cells c.clear.new.numbers).items;
    greatest = map g.N.Number.number (with_items c.self.inside.greatest c.clear-2.new.numbers).items;
  }) (without_all (table_in g.H.Written.lists (seen c.self.view_is)))
  after =
      let zeros = AreChanged (λ r x y. y ≡ 0) in forgets c.self.invariant
      (put-back zeros g.N.Number.number c.self.inside.cells _ _ (c.clear.auto.numbers ∙ c.deref_mut.ensures.len) c.deref_mut.ensures.value c.clear.ensures)
      (put-back zeros g.N.Number.number c.self.inside.greatest _ _
      (c.clear-2.auto.numbers ∙ c.deref_mut-2.ensures.len) c.deref_mut-2.ensures.value c.clear-2.ensures)

pub invariant_of-self : goal.invariant_of-self
invariant_of-self g c = lies-kept (after g c)

pub returns : goal.returns
returns g c = lies-table (after g c) ∙ ap (λ v. without_all (table_in g.H.Written.lists v)) c.self.view_is
