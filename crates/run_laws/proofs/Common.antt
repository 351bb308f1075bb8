-- The names of other libraries that these proofs cite, passed on from one place. Declares nothing.
-- Serves most of the crate.
pub use Rattle.std.proofs.Common.{All, AllPairs, Bool, List, None, Option, Some, [], ap, arith, cond, drop, eqb, false, fold, get_or, if◌then◌else◌, inl, inr, length, length-append, map, not, option_map, refl, rules, subst, suc, sym, take, true, zero, ℕ, ◌%◌, ◌&&◌, ◌*◌, ◌++◌, ◌+◌, ◌-◌, ◌/◌, ◌<◌, ◌∙◌, ◌∷◌, ◌≡◌, ◌≢◌, ◌≤◌, ◌⊎◌}
pub use Rattle.std.proofs.Math.ListN.{get_or-append}
pub use Rattle.std.proofs.Math.Nat.{add-mod_right, add-mul-mod_self_left, mod-add-div, mod-eq_of_lt, mod-lt, mul-le-mul_right}
pub use Rattle.std.proofs.lemmas.Bool.{and_from, and_parts, cases_eq, cases_lt, eqb-true, le-ltb, lt-ltb, ne_eqb}
pub use Rattle.std.proofs.lemmas.List.{get_or-append_right, get_or_past, length-take, take-append-drop, take_all}
pub use Rattle.std.proofs.lemmas.List.Elements.{All-cons, All-contains, All-head, All-map, All-nil, All-tail, All-take, Contains-append_cases, Contains-append_left, Contains-append_right}
pub use Rattle.std.proofs.lemmas.List.FromFn.{get_or-map-range_with_len, get_or-range_with_len, length-map-range_with_len, length-range_with_len}
pub use Rattle.std.proofs.lemmas.List.Kept.{AllPairs-filter}
pub use Rattle.std.proofs.lemmas.List.Sums.{fold-append, fold_more, sum_by-append, sum_by-cons, sum_by-le}
pub use Rattle.std.proofs.lemmas.Option.{get_or_from_slice_get, same_Some, slice_get-get_or, slice_get_within}
pub use Rattle.std.specs.List.{filter, range_with_len, sum_by}
pub use Rattle.std.specs.Prelude.{Contains, IsSomeAnd, nat_lt, slice_get}
pub use Rattle.std.specs.declared.cmp.Ordering.TheVariants.{Less}
pub use Rattle.bench_types.specs.Budget.{largest_share, share_of}
pub use Rattle.bench_types.specs.declared.exchanges.Budget.TheVariants.{Bytes, Entries}
pub use Rattle.limits.specs.declared.TheConstants.{ENTRY_SIZES}
pub use Rattle.bench_types.specs.declared.rows.Figures.{Figures}
pub use Rattle.model.proofs.Common.{Budget, DigestKind, Entry, Exchange, Fate, IsBefore, IsPlanned, IsUpTo, Item, Mark, Mode, Precise, Record, Rules, Scuttle, absent, absent-first, amount_of, before-no, before-true, before-up_to, before-yes, cases_before, digest_kind, is_before, mark_held, mark_of, most_below, next_version, not_both, sum_below, sum_below-le, up_to-before, up_to-both, up_to-itself, up_to-then}
pub use Rattle.model.proofs.BeginLaws.{copy-up_to, written_rises}
pub use Rattle.model.proofs.DeltaLaws.{cut-none, sent-uncut}
pub use Rattle.model.proofs.ExchangeLaws.{marks_stay}
pub use Rattle.model.proofs.FoldLaws.{before_keeps_own, fold_counts_records, initiator_is, responder_is, step_proper, step_tables}
pub use Rattle.model.proofs.Greatest.{greatest_mark-none, greatest_mark-same, mark_at-up_to_greatest, place_less}
pub use Rattle.model.proofs.Items.{apart-items_of}
pub use Rattle.model.proofs.MarkLaws.{greatest_mark-without_others_own}
pub use Rattle.model.proofs.Members.{AllPairs-map}
pub use Rattle.model.proofs.ProperLaws.{proper-without_others}
pub use Rattle.model.proofs.Sent.{candidates-in_place}
pub use Rattle.model.proofs.StateDeltas.{lengths-alike}
pub use Rattle.model.proofs.TableLaws.{entry_at-empty_table, entry_at-own_write_other, entry_at-without_all, entry_at-without_others_other, entry_at-without_others_own}
pub use Rattle.model.proofs.Tables.{same_tables}
pub use Rattle.model.specs.Candidates.{candidates, known_mark}
pub use Rattle.model.specs.Clusters.{AreCopiesOf}
pub use Rattle.model.specs.Copies.{WritesBy}
pub use Rattle.model.specs.Deltas.{DeltaView, delta_between, item_share}
pub use Rattle.model.specs.Digests.{digest_size}
pub use Rattle.model.specs.ExchangeLaws.{LosesNothing, NoMarkFalls}
pub use Rattle.model.specs.Exchanged.{exchanged, fate_of, initiator_after, last_fate, responder_after, sent_until}
pub use Rattle.model.specs.Figures.{figures_of, generation_at, is_left_over, leftover_at, rounds_behind, stale_count, staleness_at, staleness_of, writes_of_owner}
pub use Rattle.model.specs.Folds.{Folded, exchange_in, fold_of}
pub use Rattle.model.specs.Fresh.{HasOwnPart, IsFresh}
pub use Rattle.model.specs.RoundLists.{RoundListView}
pub use Rattle.model.specs.States.{HoldAsMuch, MissesNone}
pub use Rattle.model.specs.Table.{IsProper, Table, applied, empty_table, entry_at, greatest_mark, greatest_version, items_of, mark_at, place_cmp, with_own_write, with_own_writes, without_all, without_others}
pub use Rattle.model.specs.Tables.{AreProper, AreTablesInOrder, table_of_node}
pub use Rattle.model.specs.Writes.{first_above, write_of_entry}
pub use Rattle.model.specs.calls.Clusters.{own_mark}
pub use Rattle.model.specs.calls.DeltaLaws.{AreWithin}
pub use Rattle.model.specs.calls.Table.{IsItemInPlace}
pub use Rattle.model.specs.declared.writes.Write.{Write}
pub use Rattle.model.specs.inner.Items.{no_item, place_of}
pub use Rattle.round_plan.proofs.Generations.{generation_upto-next, generation_upto-rises, generation_upto-same, restarts-forgets}
pub use Rattle.round_plan.proofs.Growth.{born-own_writes, count_before-grown, keys-own_writes, next-own_writes, next-writes_upto, written_upto-grown}
pub use Rattle.round_plan.proofs.Planned.{planned_list}
pub use Rattle.round_plan.proofs.Written.{born-writes_upto, is_of, writes_upto-filtered, written-writes_upto}
pub use Rattle.round_plan.specs.Generations.{generation_upto}
pub use Rattle.round_plan.specs.Outages.{forgets_now, is_up, restarts_now}
pub use Rattle.round_plan.specs.Peer.{peer_by, peer_of, ring_peer}
pub use Rattle.round_plan.specs.Plan.{begins, exchange_of, round_list_of}
pub use Rattle.round_plan.specs.Words.{word_of}
pub use Rattle.round_plan.specs.Writes.{count_before, count_upto, number_by, numbered_write, own_write_at, own_writes, writes_in, writes_upto, written_upto}
pub use Rattle.scenario.specs.Settings.{IsLawfulScenario, Settings, with_mode}
pub use Rattle.scenario.specs.declared.choices.Peers.TheVariants.{Ring}
