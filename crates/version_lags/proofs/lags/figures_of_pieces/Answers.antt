use Rattle.version_lags.proofs.Common.{◌≡◌, ◌+◌, ◌-◌, length, slice_index, refl, arith, IfOk-at_ok, numbers_seen, slice_get_read}
use Rattle.version_lags.proofs.Parts.{grids-of}
use Rattle.version_lags.proofs.lags.figures_of_pieces.Goals as goal

pub loop-counted-init : goal.loop-counted-init
loop-counted-init g c are = rw are.are.begins (c.in_ok-whole.ensures.0 0)

pub take_in-requires : goal.take_in-requires
take_in-requires g c =
    let are = c.requires.pieces in let i = c.loop-counted.counted-index in
    let read = slice_get_read c.args.pieces.now _ i c.counted-item.result refl c.loop-counted-test.true c.counted-item.is in
    record {
      v = numbers_seen g.N.Number.number c.args.numbers.now;
      grids = grids-of g.N.Number.number g.N.Number.most c.args.numbers.now c.requires.are.0 c.requires.are.1;
      from = 0;
      mid = slice_index are.bounds i;
      to = slice_index are.bounds (i + 1);
      part = are.are.parts i (omega arith);
      first = c.loop-counted.invariant are;
      second = IfOk-at_ok _ c.in-Ok.is (are.each i c.counted-item.result read).0;
    }

pub loop-counted-preserved : goal.loop-counted-preserved
loop-counted-preserved g c are =
    let i = c.loop-counted.counted-index in
    let read = slice_get_read c.args.pieces.now _ i c.counted-item.result refl c.loop-counted-test.true c.counted-item.is in
    c.take_in.ensures _ 0 _ _ (grids-of _ g.N.Number.most c.args.numbers.now _ c.requires.are.1) (c.loop-counted.invariant are)
    (IfOk-at_ok _ c.in-Ok.is (are.each i c.counted-item.result read).0)

pub figures-requires : goal.figures-requires
figures-requires g c =
    let are = c.requires.pieces in let last : c.loop-counted.counted-index ≡ length are.bounds - 1 = omega arith in
    record { tables = c.requires.are.0; are = c.requires.are.1; whole = rw (last, are.are.ends) at (c.loop-counted.invariant are) }
