-- The tables of all nodes, in order: how they are read, written and made, and that they stay so where each keeps its own part.
-- Serves `FoldLaws` and the crates above.
use Rattle.model.proofs.Common.{◌≡◌, ◌≢◌, ℕ, zero, suc, ◌<◌, List, length, map, set, sym, ◌∙◌, subst, arith, range_with_len, ext_get_or, get_or-set_same, get_or-set_other, get_or-map-range_with_len}
use Rattle.model.specs.Table.{Table, empty_table}
use Rattle.model.specs.inner.Owns.{KeepsOwn, KeepOwnParts}
use Rattle.model.specs.Tables.{table_of_node, IsTableOf, AreTablesInOrder}
use Rattle.model.specs.calls.Tables.{IsCluster}

pub table_of_node-set_same : (ts : List Table) (n : ℕ) (t : Table) → n < length ts → table_of_node (set ts n t) n ≡ t
table_of_node-set_same ts n t lt = get_or-set_same ts n t (empty_table 0 0 0) lt

pub table_of_node-set_other : (ts : List Table) (n p : ℕ) (t : Table) → p ≢ n → table_of_node (set ts n t) p ≡ table_of_node ts p
table_of_node-set_other ts n p t other = get_or-set_other ts n p t (empty_table 0 0 0) other

-- where one is made for each node
pub table_of_node-made : (f : ℕ → Table) (nodes n : ℕ) → n < nodes → table_of_node (map f (range_with_len 0 nodes)) n ≡ f n
table_of_node-made f nodes n lt = get_or-map-range_with_len f 0 nodes n n (empty_table 0 0 0) lt (omega arith)

pub same_tables : (ts us : List Table) → length ts ≡ length us → ((n : ℕ) → n < length ts → table_of_node ts n ≡ table_of_node us n) → ts ≡ us
same_tables = ext_get_or (empty_table 0 0 0)

-- a table that keeps its own part is still that of its node
pub still_table_of : {nodes keys n : ℕ} {t u : Table} → KeepsOwn t u → IsTableOf nodes keys n t → IsTableOf nodes keys n u
still_table_of own is = record { node = own.node ∙ is.node; nodes = own.nodes ∙ is.nodes; keys = own.keys ∙ is.keys }

pub still_in_order : (nodes keys : ℕ) (ts us : List Table) → length us ≡ length ts → KeepOwnParts ts us → AreTablesInOrder nodes keys ts → AreTablesInOrder nodes keys us
still_in_order nodes keys ts us size own is = record {
  size = size ∙ is.size;
  tables = λ n lt. still_table_of (own n) (is.tables n lt);
}

-- tables in order with so many keys each have as many as the first
pub cluster_of : (nodes keys : ℕ) (ts : List Table) → AreTablesInOrder nodes keys ts → IsCluster nodes ts
cluster_of zero keys ts is = record { size = is.size; tables = λ n lt. absurd (omega arith) }
cluster_of (suc n) keys ts is = subst (λ k. AreTablesInOrder (suc n) k ts) (sym (is.tables 0 (omega arith)).keys) is
