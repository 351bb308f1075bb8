use Rattle.version_tables.proofs.Common.{◌∙◌, ap, arith, length-map, number-at, slice_index, VersionTableView}
use Rattle.version_tables.proofs.tables.VersionTable.greatest_of.Goals as goal

pub returns : goal.returns
returns g c =
    let size = length-map c.self.inside.greatest.items g.N.Number.number in
    number-at g.N.Number.number c.self.inside.greatest.items c.args.owner c.index.result.now
    (omega (arith, c.requires, ap (λ (v : VersionTableView). v.nodes) c.self.view_is, c.self.invariant.most.size, size)) c.index.ensures
    ∙ ap (λ (v : VersionTableView). slice_index v.greatest c.args.owner) c.self.view_is

pub index-requires : goal.index-requires
index-requires g c =
    let size = length-map c.self.inside.greatest.items g.N.Number.number in
    omega (arith, c.requires, ap (λ (v : VersionTableView). v.nodes) c.self.view_is, c.self.invariant.most.size, size, c.self.inside.greatest.ok.0)
