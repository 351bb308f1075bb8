use Rattle.version_lags.proofs.Common.{◌+◌, ◌*◌, arith, refl, ◌∙◌, with_items_is, plane-within, length-map, Piece}
use Rattle.version_lags.proofs.Parts.{counts-joined}
use Rattle.version_lags.proofs.lags.Piece.take_in.Goals as goal

pub returns : goal.returns
returns g c v from mid to grids one two =
    let lowered = rw (c.deref_mut.ensures.value, c.deref.ensures.value) at c.lower.ensures.least in
    rw (with_items_is c.args.self.now.least c.lower.new.least (c.lower.auto.least ∙ c.deref_mut.ensures.len))
    (counts-joined v grids from mid to _ _ _ _ _ _ _ _ _ one refl refl two.stale_is.is two.leftover_is.is
    (λ r k in_r in_k. (two.least_is.each r k in_r in_k).is) (record {
      size = lowered.size;
      each = λ r k in_r in_k. lowered.each (k * v.nodes + r)
          (omega (arith, one.least_is.size, plane-within v.nodes v.keys _ k grids.grid in_k, grids.grid.whole));
    }))

pub lower-requires : goal.lower-requires
lower-requires g c =
    let same = λ (piece : Piece _). length-map piece.least.items g.N.Number.number in
    record { plane = omega (arith, same c.args.self.now, same c.args.others.now, c.requires.second.least_is.size, c.requires.first.least_is.size) }
