-- What these proofs cite of other libraries and of this crate's definitions, passed on from one place.
-- Serves the functions of `grids`, `owners` and `planes`, `Behind`, `Counts`, `Elementwise`, `Places`, `delta_plans`
-- and `grids`.
pub use Rattle.std.proofs.Common.{Bool, Fits, List, ap, arith, cond, drop, false, get_or, if◌then◌else◌, inl, inr, length, map, max, min, nat_le, nat_lt, refl, replicate, rules, set, slice_index, subst, suc, sym, take, true, w64, zero, ℕ, ◌&&◌, ◌*◌, ◌+◌, ◌-◌, ◌<◌, ◌==◌, ◌∙◌, ◌≡◌, ◌≢◌, ◌≤◌, ◌⊎◌}
pub use Rattle.std.proofs.Math.Nat.{mul-le-mul_right}
pub use Rattle.std.proofs.Math.Seq.{take-nil}
pub use Rattle.std.proofs.lemmas.Bool.{cases_lt, eq-eqb, eqb-true, le-ltb, lt-ltb, ltb-false, ltb-true}
pub use Rattle.std.proofs.lemmas.Bool.Decides.{nat_tests}
pub use Rattle.std.proofs.lemmas.List.{get_or-drop, get_or-map, get_or-replicate, get_or-set_other, get_or-set_same, get_or-take, length-drop, length-map, length-replicate, length-set, length-take-le, map-append, map-set, places, take-map, with_items_is}
pub use Rattle.std.proofs.lemmas.Result.{IfOk-weaker}
pub use Rattle.std.specs.List.{drop-map}
pub use Rattle.std.specs.Prelude.{IsTrue, ◌↔◌}
pub use borrow.Author.Count.{below_more}
pub use borrow.Rule.Slice.PartMut.{put_mid}
pub use Rattle.limits.proofs.Sums.{fold_below-join, one_more, sum_below-most, sum_below-same, sum_below-turned, sums}
pub use Rattle.limits.specs.Sums.{sum_below}
pub use Rattle.limits.specs.declared.TheConstants.{MOST_KEYS, MOST_NODES}
pub use Rattle.planes.specs.Elementwise.{AreChanged, AreChangedUpto}
pub use Rattle.planes.specs.Planes.{ArePlanesChanged, ArePlanesChangedUpto, Cells, HasEach, HasNoneAbove, IsGrid, IsLeastAbove, IsNextAbove, IsRaised, cell, count_above, count_between, total_of}
pub use Rattle.planes.specs.Loops.{AnswersAs, AreCountedUpto, HasRoomToCount, IsLeastOf, IsMade, count_passing, one_between}
