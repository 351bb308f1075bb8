-- The names of other libraries that these proofs cite, passed on from one place. Declares nothing.
-- Serves most of the crate.
pub use Rattle.std.proofs.Common.{All, Bool, Err, IfErr, IfOk, IsUtf8, List, None, Ok, OnOk, Option, Result, Some, [], ap, append_assoc, append-nil, arith, cond, drop, false, get_or, inl, inr, length, length-append, map, nat_le, negsuc, pos, refl, rules, string_bytes, subst, suc, sym, tests, true, zero, ℕ, ◌&&◌, ◌*◌, ◌++◌, ◌+◌, ◌-◌, ◌<◌, ◌∙◌, ◌∷◌, ◌≡◌, ◌≢◌, ◌≤◌, ◌⊎◌}
pub use Rattle.std.proofs.lemmas.Bool.{and_parts, leb-true}
pub use Rattle.std.proofs.lemmas.Grind.{common_steps}
pub use Rattle.std.proofs.lemmas.Iterator.Consumers.{YieldsList-from_rest}
pub use Rattle.std.proofs.lemmas.Iterator.Search.{all_from_yields_List}
pub use Rattle.std.proofs.lemmas.List.{at_drop_all, at_drop_more}
pub use Rattle.std.proofs.lemmas.List.Elements.{All-cons, All-nil, All-push, All-weaker}
pub use Rattle.std.proofs.lemmas.Map.Text.{is_eq-slice_cmp}
pub use Rattle.std.proofs.lemmas.Slice.Eq.{bytes_eq-Decides}
pub use Rattle.std.proofs.lemmas.Str.{IsUtf8-from_is_utf8, is_utf8-from_IsUtf8}
pub use Rattle.std.specs.Cmp.Lexicographic.{slice_cmp}
pub use Rattle.std.specs.List.{AllZip, flat_map, list_all}
pub use Rattle.std.specs.List.Sorted.{IsStrictlyIncreasing}
pub use Rattle.std.specs.Map.{keys_of}
pub use Rattle.std.specs.Ordering.{is_eq, match_ordering, nat_cmp}
pub use Rattle.std.specs.Result.{IsErrAnd, result_err, result_unwrap_or}
pub use Rattle.std.specs.Str.{is_utf8}
pub use Rattle.std.specs.declared.cmp.Ordering.TheVariants.{Equal, Greater, Less}
pub use Rattle.bench_types.specs.Field.{field_name}
pub use Rattle.bench_types.specs.Mode.{mode_named}
pub use Rattle.bench_types.specs.declared.exchanges.Budget.{Budget}
pub use Rattle.bench_types.specs.declared.exchanges.Budget.TheVariants.{Bytes, Entries}
pub use Rattle.bench_types.specs.declared.faults.Fault.{Fault}
pub use Rattle.bench_types.specs.declared.faults.Fault.TheVariants.{BudgetTooSmall, OutOfMemory, OutOfRange, TooLarge}
pub use Rattle.bench_types.specs.declared.fields.Field.{Field}
pub use Rattle.bench_types.specs.declared.fields.TableName.{TableName}
pub use Rattle.limits.specs.declared.TheConstants.{LEAST_KEYS, LEAST_NODES, MOST_BUDGET, MOST_BUDGET_BYTES, MOST_ELEMENTS, MOST_ENTRIES, MOST_ENTRY_SIZE, MOST_KEYS, MOST_LOSS, MOST_NODES, MOST_ROUNDS, MOST_SEED, MOST_WRITES}
pub use Rattle.toml.proofs.Views.{Entry, table_get, view-Array}
pub use Rattle.toml.specs.Data.{Data, Items, Members, array, boolean, get_member, integer, member, no_members, string}
pub use Rattle.toml.specs.Parse.{parse_document}
pub use Rattle.toml.specs.View.{items_view, members_view, table_view, view}
pub use Rattle.toml.specs.declared.value.Value.{Value}
