use Rattle.version_tables.proofs.Common.{◌+◌, ◌*◌, ◌<◌, ap, arith, length-map, sym, subst, transport, map-set, VersionTableView, IsNextWrite, HasOwnWrite}
use Rattle.version_tables.proofs.OwnCalls.{lies-kept, place-within, seen, writes, writes-table}
use Rattle.version_tables.proofs.tables.VersionTable.write_own.Goals as goal

module _ (g : _) (c : goal.After-self-2-1 g) where
  in_keys : c.args.key < c.self.inside.keys
  in_keys = subst (λ (v : VersionTableView). c.args.key < v.keys) (sym c.self.view_is) c.requires.key

  next : IsNextWrite g.H.Written.lists (seen c.self.view_is) c.args.key (g.N.Number.number c.args.number)
  next = subst (λ (v : VersionTableView). IsNextWrite g.H.Written.lists v c.args.key (g.N.Number.number c.args.number)) (sym c.self.view_is) c.requires.next

pub invariant_of-self : goal.invariant_of-self
invariant_of-self g c = simp map-set (lies-kept (writes c.self.invariant c.args.key (g.N.Number.number c.args.number) (in_keys g c) (next g c)))

pub returns : goal.returns
returns g c =
    transport (λ i. HasOwnWrite g.H.Written.lists (c.self.view_is i) (g.N.Number.number c.args.number) (record (seen c.self.view_is) {
      cells = sym (map-set g.N.Number.number c.self.inside.cells.items (c.args.key * c.self.inside.nodes + c.self.inside.node) c.args.number) i;
    }))
    (writes-table c.self.invariant c.args.key (g.N.Number.number c.args.number) (in_keys g c) (next g c))

pub index_mut-requires-2 : goal.index_mut-requires-2
index_mut-requires-2 g c =
    let greatest = c.self.inside.greatest in
    omega (arith, c.self.invariant.proper.node_below, c.self.invariant.most.size, length-map greatest.items g.N.Number.number, greatest.ok.0)

pub index_mut-requires : goal.index_mut-requires
index_mut-requires g c =
    let within = place-within c.self.inside.nodes c.self.inside.keys c.self.inside.node c.args.key c.self.invariant.proper.node_below
    (omega (arith, c.requires.key, ap (λ (v : VersionTableView). v.keys) c.self.view_is)) in
    omega (arith, within, c.self.invariant.numbers.size, length-map c.self.inside.cells.items g.N.Number.number, c.self.inside.cells.ok.0)
