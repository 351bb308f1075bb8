-- The figures of several parts together.
-- Serves the functions of `staleness`.
use Rattle.staleness.proofs.Common.{◌≡◌, ℕ, ◌+◌, ◌*◌, ◌^◌, ◌<◌, ◌≤◌, Bool, true, false, eqb, List, [], length, get_or, All, if◌then◌else◌, inl, inr, sym, ap, ◌∙◌, subst, arith, is_some, range_with_len, cases_lt, length-range_with_len, AllZip-long, at_place, sums, greatest, sum_below-most, fold_below-same, MOST_NODES, MOST_KEYS, Figures, generation_at, is_left_over, staleness_at, node_figures, Table, entry_at, table_of_node, Write, AreBornBy, length-lists_in, list_read, lists_in, written, OwnerListView, length-tables_in, table_indexed, tables_in, NodeTableView}
use Rattle.model.specs.Figures.{figures_of}
use Rattle.staleness.specs.inner.Totals.{total_below, triple_figures, found_at, AreFew, AreCountable, IsCounted, AreCounted, HaveRoom}

-- as many triples as parts times those of each
pub total_few : (f : ℕ → Figures) (n most : ℕ) → ((i : ℕ) → i < n → AreFew most (f i)) → AreFew (n * most) (total_below n f)
total_few f n most few = record {
  stale = sum_below-most (λ i. (f i).stale) n most (λ i lt. (few i lt).stale);
  leftover = sum_below-most (λ i. (f i).leftover) n most (λ i lt. (few i lt).leftover);
}

-- few and few have room together
pub room : (m n : ℕ) (f g : Figures) → AreFew m f → AreFew n g → m + n < 2 ^ 64 → HaveRoom f g
room m n f g few more fits = record {
  stale = omega (arith, few.stale, more.stale, fits);
  leftover = omega (arith, few.leftover, more.leftover, fits);
}

total_same : (f g : ℕ → Figures) (n : ℕ) → ((i : ℕ) → i < n → f i ≡ g i) → total_below n f ≡ total_below n g
total_same f g n same = λ j. record {
  stale = fold_below-same sums (λ i. (f i).stale) (λ i. (g i).stale) n (λ i lt. ap (λ (x : Figures). x.stale) (same i lt)) j;
  greatest = fold_below-same greatest (λ i. (f i).greatest) (λ i. (g i).greatest) n (λ i lt. ap (λ (x : Figures). x.greatest) (same i lt)) j;
  leftover = fold_below-same sums (λ i. (f i).leftover) (λ i. (g i).leftover) n (λ i lt. ap (λ (x : Figures). x.leftover) (same i lt)) j;
}

one_at_most : (b : Bool) → (if b then 1 else 0) ≤ 1
one_at_most true = omega arith
one_at_most false = omega arith

-- a triple counts once at most
pub triple_few : (round : ℕ) (tables : List Table) (lists : List (List Write)) (p r k : ℕ) → AreFew 1 (triple_figures round tables lists p r k)
triple_few round tables lists p r k =
    let left = one_at_most (is_left_over (generation_at tables r) (entry_at (table_of_node tables p) r k)) in
    record {
      stale = one_at_most (is_some (staleness_at round tables lists p r k));
      leftover = elim (eqb p r) as (λ b. (if b then 0 else (if is_left_over (generation_at tables r) (entry_at (table_of_node tables p) r k) then 1 else 0)) ≤ 1) [ true ↦ omega arith | false ↦ left ];
    }

-- a table as code reads it knows of all nodes
pub nodes_read : (round : ℕ) (ks : List NodeTableView) (lists : List (List Write)) → AreCountable round (tables_in ks) lists → (n : ℕ) (k : NodeTableView) → n < length ks → k ≡ get_or ks n k → k.table.nodes ≡ length ks
nodes_read round ks lists countable n k lt is =
    ap (λ (t : Table). t.nodes) (table_indexed ks n k lt is)
    ∙ (countable.cluster.tables n (omega (arith, lt, length-tables_in ks))).nodes
    ∙ length-tables_in ks

-- and no write of a list as code reads it was made later
pub born_read : (round : ℕ) (tables : List Table) (lists : List OwnerListView) → AreCountable round tables (lists_in lists) → (r : ℕ) (list : OwnerListView) → r < length tables → list ≡ get_or lists r list → AreBornBy round (written list)
born_read round tables lists countable r list lt is =
    let below : r < length lists = omega (arith, lt, countable.one_list_each, length-lists_in lists) in
    subst (AreBornBy round) (list_read lists r list [] below ∙ sym (ap written is)) (countable.born r [] (omega (arith, below, length-lists_in lists)))

-- those of all nodes
module _ (round : ℕ) (tables : List Table) (lists : List (List Write)) (parts : List Figures) (each : AreCounted round tables lists parts) where
  counted : (k : ℕ) (d : Figures) → k < length tables → IsCounted round tables lists k (get_or parts k d)
  counted k d lt = let same : 0 + k ≡ k = omega arith in
      subst (λ n. IsCounted round tables lists n (get_or parts k d)) same (at_place (IsCounted round tables lists) 0 (length tables) parts each k d lt)

  as_many : length parts ≡ length tables
  as_many = AllZip-long (IsCounted round tables lists) (range_with_len 0 (length tables)) parts each ∙ length-range_with_len 0 (length tables)

  pub parts_few : All (AreFew (MOST_NODES * MOST_KEYS)) parts
  parts_few k d lt = (counted k d (omega (arith, as_many))).few

  pub parts_limit : length parts ≤ MOST_NODES
  parts_limit = elim (cases_lt 0 (length tables)) [
    | inl some ↦ omega (arith, as_many, (counted 0 (found_at parts 0) some).nodes_limit)
    | inr none ↦ omega (arith, as_many)
  ]

  pub figures_of_all : total_below (length parts) (found_at parts) ≡ figures_of round tables lists
  unfolding figures_of
  figures_of_all =
      ap (λ n. total_below n (found_at parts)) as_many
      ∙ total_same (found_at parts) (node_figures round tables lists) (length tables) (λ k lt. (counted k (record { stale = 0; greatest = 0; leftover = 0 }) lt).are)
