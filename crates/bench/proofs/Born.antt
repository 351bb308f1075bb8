-- What owners write up to a round, in each owner's list.
-- Serves `EntryHistoriesRoundHistoriesNodeTable::figures`.
use Rattle.std.proofs.Common.{ℕ, ◌≤◌, All, List, [], ◌∷◌, ◌++◌, sym, subst, arith}
use Rattle.std.proofs.lemmas.List.Elements.{All-tail, All-map}
use Rattle.bench_types.specs.declared.entries.Entry.{Entry}
use Rattle.model.specs.declared.writes.Write.{Write}
use Rattle.model.specs.calls.OwnerListView.{OwnerListView, no_writes, list_of_owner, lists_in}
use Rattle.model.specs.Writes.{write_of_entry}
use Rattle.model.specs.calls.Writes.{AreBornBy}
use Rattle.model.proofs.Owners.{length-lists_in, list_read}
use Rattle.round_histories.specs.Histories.{AreWrittenBy}

All-second : {X : Type 0} (P : X → Type 0) (xs ys : List X) → All P (xs ++ ys) → All P ys
All-second P [] ys all = all
All-second P (x ∷ xs) ys all = All-second P xs ys (All-tail P x (xs ++ ys) all)

-- so are the lists of the owners' generations
pub lists_born : (round : ℕ) (lists : List OwnerListView) → AreWrittenBy round lists → All (AreBornBy round) (lists_in lists)
lists_born round lists is r d lt =
    let list = list_of_owner lists r in
    subst (AreBornBy round) (sym (list_read lists r no_writes d (omega (arith, lt, length-lists_in lists))))
    (All-map (λ (w : Write). w.born ≤ round) write_of_entry list.current (All-second (λ (e : Entry). e.born ≤ round) list.earlier list.current (is.born r)))
