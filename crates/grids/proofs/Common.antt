-- What these proofs cite of other libraries and of this crate's definitions, passed on from one place.
-- Serves the functions of `counts`, `grids`, `lags`, `merges` and `owners`, `ByOwner`, `Counted` and `version_lags`.
pub use Rattle.planes.proofs.Common.{Bool, IfOk-weaker, IsLeastOf, List, ap, arith, below_more, cases_lt, cond, drop, false, get_or, get_or-map, get_or-replicate, get_or-set_other, get_or-set_same, if◌then◌else◌, inl, inr, le-ltb, length, length-drop, length-map, length-replicate, length-set, length-take-le, lt-ltb, ltb-false, ltb-true, map, map-append, map-set, max, min, mul-le-mul_right, nat_le, nat_lt, nat_tests, ArePlanesChangedUpto, put_mid, refl, replicate, rules, set, slice_index, subst, sum_below, sum_below-most, sum_below-same, sym, take, with_items_is, ℕ, ◌&&◌, ◌*◌, ◌+◌, ◌-◌, ◌<◌, ◌==◌, ◌∙◌, ◌≡◌, ◌≢◌, ◌≤◌}
pub use borrow.Author.Rules.{scaled_fits≤}
pub use Rattle.std.proofs.Common.{All, Fits, take_all, vec_len, w64, ◌^◌}
pub use Rattle.std.proofs.lemmas.Bool.{cases_eq}
pub use Rattle.grids.specs.Common.{AreChangedUpto, AreCountedUpto, ArePlanesChanged, Cells, HasEach, HasEachPlace, HasNoneAbove, IsGrid, IsRaised, MOST_KEYS, MOST_NODES, cell, count_above, count_passing, most_ahead, number_ahead, number_raised, number_taken, total_above, total_of}
pub use Rattle.grids.specs.Grids.{number_kept, taken_by}
pub use Rattle.planes.proofs.Behind.{each-turned}
pub use Rattle.planes.proofs.Counts.{count_le, count_next, count_same, none-passes, one_le, owner_counted, owner_passed, sum_next, sum_whole}
pub use Rattle.planes.proofs.Elementwise.{changed_all, counted-same, counted_next, left_next, number-at, number-waits, written_next}
pub use Rattle.planes.proofs.Places.{block-cells, each-next, grid-within, plane-cells, plane-fits, plane-within, plane_count, planes-all, planes-written, raised-next, total-places, total-same, total_whole}
pub use Rattle.grids.specs.Lags.{IsLeastBehind}
pub use Rattle.grids.specs.inner.Loops.{AnswersBy, AreCounted, AreRaisedUpto, IsCounted, Made}
pub use Rattle.grids.specs.inner.Owners.{HasRaisedOwner}
pub use Rattle.grids.specs.inner.Masks.{HasNoneUptoMark, HasNoOtherMark}
