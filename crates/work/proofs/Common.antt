-- The names of other libraries that these proofs cite, passed on from one place. Declares nothing.
-- Serves the functions of `in_order` and `tasks`, `Dealing`, `Moves`, `Pairs` and `Turns`.
pub use Rattle.std.proofs.Common.{◌≤◌, vec_capacity, vec_len, All, List, [], ap, arith, false, get_or, length, length-append, map, refl, set, subst, suc, sym, take, zero, ℕ, ◌++◌, ◌+◌, ◌-◌, ◌<◌, ◌∙◌, ◌∷◌, ◌≡◌, ◌≢◌, inl, inr, rules, ◌%◌}
pub use Rattle.std.proofs.lemmas.List.{get_or-append-add, get_or_append_left, length-map, length-set, map-append, map-set, set-append_left, set-append_right, take_all, get_or-map, get_or-set_other, get_or-set_same}
pub use Rattle.std.proofs.lemmas.List.Sums.{fold_more}
pub use Rattle.std.proofs.lemmas.Result.{IfOk-weaker}
pub use Rattle.std.proofs.Math.Nat.{mod-lt}
pub use Rattle.std.proofs.lemmas.Bool.{cases_eq}
pub use Rattle.std.proofs.lemmas.List.Elements.{Contains-append_left, Contains-append_right}
pub use Rattle.std.specs.Prelude.{Contains, ⊤}
pub use Rattle.model.proofs.Common.{Exchange, IsPlanned, Record, Rules}
pub use Rattle.model.proofs.FoldLaws.{before_keeps_each, before_tables}
pub use Rattle.model.proofs.Tables.{cluster_of}
pub use Rattle.model.specs.Exchanged.{Exchanged, exchanged}
pub use Rattle.model.specs.Folds.{Folded, exchange_in, fold_of}
pub use Rattle.model.specs.Table.{Table, empty_table}
pub use Rattle.model.specs.Tables.{AreTablesInOrder, HoldsOfEach, IsTableOf, table_of_node}
pub use Rattle.model.specs.calls.Exchanging.{MayBeExchanged}
pub use Rattle.model.specs.calls.Tables.{IsCluster}
pub use Rattle.crossbeam_deque.specs.Tasks.{Pushes, Takes}
