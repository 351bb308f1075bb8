-- How far the nodes have begun their round, by node.
-- Serves `begin_nodes`, `played_rounds` and `run_laws`.
use Rattle.cluster.proofs.Common.{◌≡◌, ◌≢◌, ℕ, ◌+◌, ◌-◌, ◌<◌, ◌≤◌, List, length, map, get_or, set, inl, inr, refl, sym, ap, ◌∙◌, subst, arith, cases_eq, get_or-map, length-map, length-set, map-set, length-map-range_with_len, Table, empty_table, with_own_writes, count_before, own_writes, Settings, OwnerListView, list_of_owner, table_of_node, table_of_node-set_same, table_of_node-set_other, table_of_node-made, same_tables}
use Rattle.cluster.specs.Rounds.{restarted_table, restarted, written_table, begun}
use Rattle.cluster.specs.inner.Steps.{begun_table, IsNodeBefore, OthersStay}
use Rattle.cluster.specs.calls.Standing.{IsOwner, StandAfterRound}

-- the nodes below n have begun the round
pub record HaveBegun (s : Settings) (round : ℕ) (old new : List Table) (lists : List OwnerListView) (n : ℕ) : Type 0 where
  pub table_count : length new ≡ s.nodes
  pub list_count : length lists ≡ s.nodes
  pub done : (p : ℕ) → p < n → p < s.nodes
      → (table_of_node new p ≡ begun_table s round p (table_of_node old p)) × IsOwner s round p (table_of_node new p) (list_of_owner lists p)
  pub rest : (p : ℕ) → n ≤ p → p < s.nodes
      → (table_of_node new p ≡ table_of_node old p) × IsOwner s (round - 1) p (table_of_node new p) (list_of_owner lists p)

-- at first none has
pub begun_none : {s : Settings} {round : ℕ} {ts : List Table} {lists : List OwnerListView} → StandAfterRound s (round - 1) ts lists
    → HaveBegun s round ts ts lists 0
begun_none standing = record {
  table_count = standing.table_count;
  list_count = standing.list_count;
  done = λ p lt. absurd (omega (arith, lt));
  rest = λ p _ lt. (refl, standing.owners p lt);
}

-- one more node has
module _ (s : Settings) (round : ℕ) (old new : List Table) (lists : List OwnerListView) (n : ℕ)
    (so_far : HaveBegun s round old new lists n) (below : n < s.nodes) where
  pub begun_more : (t : Table) (lists' : List OwnerListView) → t ≡ begun_table s round n (table_of_node new n) → IsOwner s round n t (list_of_owner lists' n)
      → OthersStay n lists lists' → HaveBegun s round old (set new n t) lists' (n + 1)
  begun_more t lists' is own stay = record {
    table_count = length-set new n t ∙ so_far.table_count;
    list_count = stay.count ∙ so_far.list_count;
    done = λ p lt in_range. elim (cases_eq p n) [
      | inr other ↦
          moved p (λ u w. (u ≡ begun_table s round p (table_of_node old p)) × IsOwner s round p u w) other (so_far.done p (omega arith) in_range)
      | inl this ↦
          subst (λ q. (table_of_node (set new n t) q ≡ begun_table s round q (table_of_node old q))
          × IsOwner s round q (table_of_node (set new n t) q) (list_of_owner lists' q)) (sym this)
          (subst (λ u. (u ≡ begun_table s round n (table_of_node old n)) × IsOwner s round n u (list_of_owner lists' n))
          (sym (table_of_node-set_same new n t (omega (arith, so_far.table_count))))
          (is ∙ ap (begun_table s round n) (so_far.rest n (omega arith) below).0, own))
    ];
    rest = λ p le in_range.
        moved p (λ u w. (u ≡ table_of_node old p) × IsOwner s (round - 1) p u w) (λ e. absurd (omega arith)) (so_far.rest p (omega arith) in_range);
  }
    where
      moved : (p : ℕ) (P : Table → OwnerListView → Type 0) → p ≢ n → P (table_of_node new p) (list_of_owner lists p)
          → P (table_of_node (set new n t) p) (list_of_owner lists' p)
      moved p P other x =
          subst (λ w. P (table_of_node (set new n t) p) w) (sym (stay.others p other))
          (subst (λ u. P u (list_of_owner lists p)) (sym (table_of_node-set_other new n p t other)) x)

-- with the table as the code reads and writes it
module _ {T : Type 0} (table : T → Table) (s : Settings) (round : ℕ) (old : List Table) (new : List T) (lists : List OwnerListView)
    (n : ℕ) (so_far : HaveBegun s round old (map table new) lists n) (below : n < s.nodes) (d : T) where
  table_is : table (get_or new n d) ≡ table_of_node (map table new) n
  table_is = sym (get_or-map table new n d (empty_table 0 0 0) (omega (arith, so_far.table_count, length-map new table)))

  pub before_next : (k : T) → k ≡ get_or new n d → IsNodeBefore s round n (table k) lists
  before_next k is = record {
    node = below;
    one_each = so_far.list_count;
    owner = subst (λ u. IsOwner s (round - 1) n u (list_of_owner lists n)) (sym (ap table is ∙ table_is)) (so_far.rest n (omega arith) below).1;
  }

  pub begun_next : (k : T) (lists' : List OwnerListView) → table k ≡ begun_table s round n (table (get_or new n d))
      → IsOwner s round n (table k) (list_of_owner lists' n)
      → OthersStay n lists lists' → HaveBegun s round old (map table (set new n k)) lists' (n + 1)
  begun_next k lists' is own stay =
      subst (λ ts. HaveBegun s round old ts lists' (n + 1)) (sym (map-set table new n k))
      (begun_more s round old (map table new) lists n so_far below (table k) lists' (is ∙ ap (begun_table s round n) table_is) own stay)

-- the table of a node that has begun
pub begun_at : (s : Settings) (round : ℕ) (ts : List Table) (n : ℕ) → n < s.nodes
    → table_of_node (begun s round ts) n ≡ begun_table s round n (table_of_node ts n)
begun_at s round ts n lt =
    table_of_node-made (written_table s round (restarted s round ts)) s.nodes n lt
    ∙ ap (λ t. with_own_writes t (own_writes s n round (count_before s n round))) (table_of_node-made (restarted_table s round ts) s.nodes n lt)

-- all have
pub begun_all : (s : Settings) (round : ℕ) (old new : List Table) (lists : List OwnerListView) (n : ℕ) → HaveBegun s round old new lists n → n ≡ s.nodes
    → (new ≡ begun s round old) × StandAfterRound s round new lists
begun_all s round old new lists n reached end =
    (tables, record { table_count = so_far.table_count; list_count = so_far.list_count; owners = λ n lt. (so_far.done n lt lt).1 })
  where
    so_far : HaveBegun s round old new lists s.nodes
    so_far = subst (HaveBegun s round old new lists) end reached

    tables : new ≡ begun s round old
    tables = same_tables new (begun s round old) (so_far.table_count
        ∙ sym (length-map-range_with_len (written_table s round (restarted s round old)) 0 s.nodes))
        (λ n lt. let below : n < s.nodes = omega (arith, so_far.table_count) in (so_far.done n below below).0 ∙ sym (begun_at s round old n below))
