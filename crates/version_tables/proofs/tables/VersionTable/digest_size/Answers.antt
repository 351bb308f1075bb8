use Rattle.version_tables.proofs.Common.{sym, ◌∙◌, digest_size, table_in}
use Rattle.version_tables.proofs.DigestSizes.{cells-size, owners-size}
use Rattle.version_tables.proofs.tables.VersionTable.digest_size.Goals as goal

pub returns-in-Scuttle-clause-size : goal.returns-in-Scuttle-clause-size
returns-in-Scuttle-clause-size g c =
    c.count_held.ensures ∙ owners-size c.greatest.ensures.kept g.N.Number.number c.greatest.result.now c.greatest.ensures.value
    ∙ (λ i. digest_size ((sym c.in-Scuttle.is ∙ c.digest_kind.ensures) i) (table_in g.H.Written.lists c.args.self.now))

pub returns-in-Precise-clause-size : goal.returns-in-Precise-clause-size
returns-in-Precise-clause-size g c =
    c.count_held-in-Precise.ensures ∙ cells-size c.cells.ensures.kept g.N.Number.number c.cells.result.now c.cells.ensures.value
    ∙ (λ i. digest_size ((sym c.in-Precise.is ∙ c.digest_kind.ensures) i) (table_in g.H.Written.lists c.args.self.now))
