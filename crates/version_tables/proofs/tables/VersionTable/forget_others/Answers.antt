use Rattle.version_tables.proofs.Common.{◌≡◌, ◌==◌, if◌then◌else◌, length, length-map, map, ap, sym, ◌∙◌, with_items, without_others, ArePlanesChanged, AreChanged, table_in}
use Rattle.version_tables.proofs.OwnCalls.{LiesAs, lies-kept, lies-table, put-back, seen, restarts}
use Rattle.version_tables.proofs.tables.VersionTable.forget_others.Goals as goal

module _ (g : _) (c : goal.After-self-2-1 g) where
  after : LiesAs g.H.Written.lists (record (seen c.self.view_is) {
    cells = map g.N.Number.number (with_items c.self.inside.cells c.keep_owner.new.cells).items;
    greatest = map g.N.Number.number (with_items c.self.inside.greatest c.keep_one.new.numbers).items;
  }) (without_others (table_in g.H.Written.lists (seen c.self.view_is)))
  after =
      restarts c.self.invariant
      (put-back (ArePlanesChanged (λ r k x y. y ≡ (if r == c.self.inside.node then x else 0)) c.self.inside.nodes c.self.inside.keys)
      g.N.Number.number c.self.inside.cells _ _ (c.keep_owner.auto.cells ∙ c.deref_mut.ensures.len) c.deref_mut.ensures.value c.keep_owner.ensures)
      (put-back (AreChanged (λ r x y. y ≡ (if r == c.self.inside.node then x else 0))) g.N.Number.number c.self.inside.greatest _ _
      (c.keep_one.auto.numbers ∙ c.deref_mut-2.ensures.len) c.deref_mut-2.ensures.value c.keep_one.ensures)

pub invariant_of-self : goal.invariant_of-self
invariant_of-self g c = lies-kept (after g c)

pub returns : goal.returns
returns g c = lies-table (after g c) ∙ ap (λ v. without_others (table_in g.H.Written.lists v)) c.self.view_is

pub keep_owner-requires : goal.keep_owner-requires
keep_owner-requires g c =
    let kept = c.self.invariant in
    let whole = ap length c.deref_mut.ensures.value ∙ sym (length-map c.self.inside.cells.items g.N.Number.number) ∙ kept.numbers.size in
    record { grid = record { whole = whole; few_nodes = kept.proper.nodes_limit; few_keys = kept.proper.keys_limit }; among = kept.proper.node_below }
