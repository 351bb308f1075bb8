use Rattle.version_tables.proofs.Common.{◌∙◌, length-map, refl, sym}
use Rattle.version_tables.proofs.histories.Histories.ends.Goals as goal

pub returns : goal.returns
returns g c =
    let size = sym (length-map c.self.inside.ends.items g.N.Number.number) ∙ c.self.invariant.ends_size in
    rw (← c.self.view_is, c.deref.ensures.value) (record { rounds = refl; size = size; parts = c.self.invariant.ended })
