-- Tables of versions beside the owners' lists so far: what their numbers are.
-- Serves `numbers_of`.
use Rattle.version_tables.proofs.Common.{◌≡◌, ℕ, ◌<◌, List, [], length, get_or, map, sym, ap, ◌∙◌, subst, transport, arith, Bor, get_or-map, length-map, Entry, Table, empty_table, table_of_node, IsCluster, all_writes, list_of_owner, AreWrites, cell, HasEach, HasEachPlace, HistoriesView, KeepLimits, StandAtRoundEnd, StandsAmong, base_of, IsLastNumber, IsNumberAt, numbers_at, numbers_in, AreNumbersAt, AreNumbersOf, MayBeCounted, VersionTableView, table_in, IsKept, AreCellsOf, IsBeginning}
use Rattle.version_tables.proofs.Fitting.{so-far-upto, has_cells}

module _ (written : ℕ → List Entry) (views : List VersionTableView) (h : HistoriesView) (end : StandAtRoundEnd (table_in written) views h) where
  abbrev tables : List Table
  tables = map (table_in written) views

  same : length tables ≡ length views
  same = length-map views (table_in written)

  pub may-be-counted : KeepLimits h → ((owner : ℕ) → AreWrites (list_of_owner h.lists owner)) → MayBeCounted tables h
  may-be-counted limits writes = record {
    together = record {
      cluster = subst (λ m. IsCluster m tables) (sym same) end.cluster;
      one_list_each = end.one_list_each ∙ sym same;
      limits = limits;
      writes = writes;
      standing = end.standing;
    };
    written = end.written_by;
  }

  module _ (begins : (owner : ℕ) → IsBeginning (all_writes h.lists owner) (written owner)) where
    abbrev no_view : VersionTableView
    no_view = record { node = 0; nodes = 0; keys = 0; generation = 0; cells = []; greatest = [] }

    -- a table's numbers are those of what it holds
    module _ (p : ℕ) (lt : p < length views) (kept : IsKept written (get_or views p no_view)) where
      abbrev v : VersionTableView
      v = get_or views p no_view

      read : table_of_node tables p ≡ table_in written v
      read = get_or-map (table_in written) views p no_view (empty_table 0 0 0) lt

      standing : StandsAmong h (table_in written v)
      standing = subst (StandsAmong h) read (end.standing p (omega (arith, lt, same)))

      numbers-here : AreNumbersAt tables h p v.cells
      numbers-here = transport (λ i. HasEachPlace (standing.nodes i) (standing.keys i) (IsNumberAt h.lists (sym read i)) v.cells) (record {
        size = kept.numbers.size;
        each = λ r k in_r in_k.
            let upto = so-far-upto kept (all_writes h.lists r) r (begins r) (λ j e held. (standing.holds r j e held).0) k in_r in_k in
            record { held = has_cells written v kept.numbers r k in_r in_k ∙ sym (begins r (cell v.cells v.nodes r k) upto); written = upto };
      })

    -- the numbers of all tables, as code has them
    pub numbers-of : {N : Type 0} (number : N → ℕ) (cells : List (Bor (List N))) {bases last : List ℕ} → AreCellsOf written views (numbers_in number cells)
        → HasEach (length h.lists) (λ r n. n ≡ base_of (list_of_owner h.lists r)) bases
        → HasEachPlace (length h.lists) h.keys (λ r k y. IsLastNumber (list_of_owner h.lists r) k y) last
        → AreNumbersOf tables h (numbers_in number cells) bases last
    numbers-of number cells of_views based lasts = record {
      count = ap (λ (xs : List (List ℕ)). length xs) of_views.are ∙ length-map views (λ (v : VersionTableView). v.cells) ∙ sym end.one_list_each;
      cells_are = λ p lt.
          let in_views : p < length views = omega (arith, lt, end.one_list_each) in subst (AreNumbersAt tables h p)
          (sym (ap (λ xs. numbers_at xs p) of_views.are ∙ get_or-map (λ (v : VersionTableView). v.cells) views p no_view [] in_views))
          (numbers-here p in_views (of_views.kept p no_view in_views));
      based = based;
      lasts = lasts;
    }
