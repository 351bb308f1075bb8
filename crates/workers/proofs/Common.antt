-- The names of other libraries that these proofs cite, passed on from one place. Declares nothing.
-- Serves most of the crate.
pub use Rattle.std.proofs.Common.{All, Bool, IfOk, List, Ok, Result, Some, Vec, [], add-one, ap, arith, drop, false, get_or, if◌then◌else◌, inl, inr, length, map, refl, rules, set, subst, suc, sym, true, vec_capacity, vec_len, zero, append-nil, ℕ, ◌++◌, ◌+◌, ◌<◌, ◌||◌, ◌∙◌, ◌∷◌, ◌≡◌, ◌≢◌, ◌≤◌, ◌⊎◌}
pub use Rattle.std.proofs.lemmas.Bool.{cases_eq, cases_lt, or_right}
pub use Rattle.std.proofs.lemmas.Bool.Decides.{nat_tests}
pub use Rattle.std.proofs.lemmas.List.{append_assoc, length-set, map-append, same_lists}
pub use Rattle.std.proofs.lemmas.List.Elements.{All-head, All-push, All-tail, All-weaker}
pub use Rattle.std.proofs.lemmas.Option.{get_or_from_slice_get}
pub use Rattle.std.specs.Prelude.{MatchResult, nat_le, slice_get}
pub use Rattle.std.specs.Vec.Iter.{into_iter_len}
pub use Rattle.std.specs.declared.alloc.Global.{Global}
pub use Rattle.std.specs.Arc.{arc_value}
pub use Rattle.bench_types.specs.declared.faults.Fault.{Fault}
pub use Rattle.bench_types.specs.declared.faults.Fault.TheVariants.{OutOfMemory}
pub use Rattle.board.proofs.Claimed.{now_held}
pub use Rattle.board.proofs.Meeting.{may_be_exchanged}
pub use Rattle.board.proofs.Returning.{may_be_put_back}
pub use Rattle.board.proofs.Sums.{only-other, total-append}
pub use Rattle.board.specs.Boards.{AreLeft, HasMadeAll, IsHoldOf, IsSeatOf, MayPutBack, plan_of, seat_view}
pub use Rattle.board.specs.Laws.{IsCarriedOut}
pub use Rattle.board.specs.Plan.{BoardPlan, exchanged_at, initiator_of, responder_of, table_at}
pub use Rattle.board.specs.SeatView.{ALL_PARTS, SeatView, joined}
pub use Rattle.board.specs.Weights.{Has, only, times}
pub use Rattle.board.specs.declared.boards.Board.{Board}
pub use Rattle.board.specs.declared.boards.Freed.{Freed}
pub use Rattle.board.specs.declared.boards.Hold.{Hold}
pub use Rattle.dependencies.proofs.Moves.{record_kept}
pub use Rattle.dependencies.specs.Neighbours.{as_list, first_ready_of}
pub use Rattle.dependencies.specs.Sharing.{exchange_at, no_exchange}
pub use Rattle.model.proofs.Common.{Exchange, IsPlanned, Record, Rules}
pub use Rattle.model.proofs.FoldLaws.{before_keeps_each, before_tables, fold_counts_records}
pub use Rattle.model.specs.Exchanged.{Exchanged, exchanged}
pub use Rattle.model.specs.Folds.{fold_of}
pub use Rattle.model.specs.Table.{Table}
pub use Rattle.model.specs.Tables.{table_of_node}
pub use Rattle.model.specs.calls.Exchanging.{IsKeptByExchanges, MakesOf, MayBeExchanged}
pub use Rattle.model.specs.calls.RoundLists.{IsRoundPlan}
pub use Rattle.model.specs.calls.Tables.{IsCluster}
