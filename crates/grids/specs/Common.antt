-- The names of other definitions that these ones, contracts and proofs cite, from one place. Declares nothing.
pub use Rattle.limits.specs.declared.TheConstants.{MOST_KEYS, MOST_NODES}
pub use Rattle.grids.specs.declared.grids.Masked.{Masked}
pub use Rattle.grids.specs.declared.grids.Peer.{Peer}
pub use Rattle.grids.specs.declared.grids.Sent.{Sent}
pub use Rattle.grids.specs.declared.merges.BothCounts.{BothCounts}
pub use Rattle.grids.specs.declared.merges.BothMarks.{BothMarks}
pub use Rattle.planes.specs.Elementwise.{AreChanged, AreChangedUpto}
pub use Rattle.planes.specs.Grids.{HasMarkOfEach, IsGridOf, cells_in}
pub use Rattle.planes.specs.Loops.{AreCountedUpto, IsPart, count_passing}
pub use Rattle.planes.specs.Planes.{AreCovered, ArePlanesChanged, AreRaised, Cells, HasEach, HasEachPlace, HasNoneAbove, IsGrid, IsRaised, cell, count_above, most_ahead, number_ahead, number_raised, number_taken, total_above, total_of}
pub use Rattle.planes.specs.declared.sizes.Grid.{Grid}
pub use Rattle.planes.specs.declared.sizes.Size.{Size}
