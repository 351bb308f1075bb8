-- The words and slots that a board is made of, and the tables that come out at its end.
-- Serves `Board::close`, `Board::new` and `all_out`.
use Rattle.board.proofs.Common.{◌≡◌, ℕ, zero, suc, ◌+◌, ◌<◌, List, [], ◌∷◌, ◌++◌, length, map, take, drop, get_or, Option, None, Some, refl, sym, ap, ◌∙◌, subst, arith, Vec, Global, range_with_len, length-map, length-map-range_with_len, get_or-map-range_with_len, some, some-injective, some-ne-none, get_elem?, Table, RoundListView, IsRoundPlan, pending_of, in_place, table_of_node, IsCluster, fold_of, fold_counts_tables, tables_at_end}
use Rattle.board.specs.Plan.{BoardPlan, IsBoardPlan, table_at}
use Rattle.board.specs.Rule.{Slot}
use Rattle.board.specs.Keys.{IsBoardKey, key_plan}
use Rattle.board.specs.Models.{slot_model}
use Rattle.board.specs.declared.plays.BoardKey.{BoardKey}
use Rattle.board.proofs.Modelled.{table_of}
use Rattle.board.proofs.Ends.{IsOpening}

module _ {T : Type 0} where
  -- the table in the next slot
  pub taken_next : (kept : List T) (i : ℕ) (x : Option T) → get_elem? (map in_place kept) i ≡ some x → (k : T) × (x ≡ Some k) × (take (suc i) kept ≡ take i kept ++ k ∷ [])
  taken_next [] i x e = absurd (some-ne-none x (sym e))
  taken_next (k ∷ ks) zero x e = (k, sym (some-injective (Some k) x e), refl)
  taken_next (k ∷ ks) (suc i) x e = let t = taken_next ks i x e in (t.0, t.1, λ j. k ∷ t.2 j)

  -- slots that all have a table, and the models of these
  pub all_there : (table : T → Table) (slots : List (Option T)) (ts : List Table) → map (slot_model table) slots ≡ map in_place ts → (kept : List T) × (slots ≡ map in_place kept) × (map table kept ≡ ts)
  all_there table [] [] e = ([], refl, refl)
  all_there table [] (t ∷ ts) e = absurd (omega (arith, ap length e))
  all_there table (x ∷ xs) [] e = absurd (omega (arith, ap length e))
  all_there table (x ∷ xs) (t ∷ ts) e =
      let first = table_of table x t (ap (λ (l : List Slot). get_or l 0 None) e) in
      let rest = all_there table xs ts (ap (λ (l : List Slot). drop 1 l) e) in
      (first.0 ∷ rest.0, (λ k. first.1 k ∷ rest.1 k), (λ k. first.2 k ∷ rest.2 k))

  -- tables in their slots, as models
  pub placed_models : (table : T → Table) (kept : List T) → map (slot_model table) (map in_place kept) ≡ map in_place (map table kept)
  placed_models table [] = refl
  placed_models table (k ∷ ks) = λ j. Some (table k) ∷ placed_models table ks j

-- slots that have these tables
pub placed : (slots : List Slot) (ts : List Table) → length slots ≡ length ts → ((node : ℕ) → node < length ts → get_elem? slots node ≡ some (Some (table_of_node ts node))) → slots ≡ map in_place ts
placed [] [] long each = refl
placed [] (t ∷ ts) long each = absurd (omega arith)
placed (x ∷ xs) [] long each = absurd (omega arith)
placed (x ∷ xs) (t ∷ ts) long each =
    let rest = placed xs ts (omega arith) (λ node within. each (suc node) (omega arith)) in
    λ j. some-injective x (Some t) (each 0 (omega arith)) j ∷ rest j

pub table_in_slot : (ts : List Table) (node : ℕ) → node < length ts → get_elem? (map in_place ts) node ≡ some (Some (table_of_node ts node))
table_in_slot [] node within = absurd (omega arith)
table_in_slot (t ∷ ts) zero within = refl
table_in_slot (t ∷ ts) (suc node) within = table_in_slot ts node (omega arith)

pub opening_of : (plan : BoardPlan) (words : List ℕ) (slots : List Slot) → IsBoardPlan plan → words ≡ 0 ∷ map (pending_of plan.list.exchanges) (range_with_len 0 (length plan.list.exchanges)) → slots ≡ map in_place plan.tables → IsOpening plan words slots
opening_of plan words slots planned words_are slots_are =
    let n = length plan.list.exchanges in
    record {
      long = ap length words_are ∙ omega (arith, length-map-range_with_len (pending_of plan.list.exchanges) 0 n);
      count = ap (λ ws. get_or ws 0 0) words_are;
      waits = λ i within. ap (λ ws. get_or ws (i + 1) 0) words_are ∙ at i ∙ get_or-map-range_with_len (pending_of plan.list.exchanges) 0 n i i 0 within (omega arith);
      size = ap length slots_are ∙ length-map plan.tables in_place ∙ planned.tables;
      tables = λ node within. ap (λ xs. get_elem? xs node) slots_are ∙ table_in_slot plan.tables node (omega (arith, within, planned.tables));
    }
  where
    at : (i : ℕ) → get_or (0 ∷ map (pending_of plan.list.exchanges) (range_with_len 0 (length plan.list.exchanges))) (i + 1) 0 ≡ get_or (map (pending_of plan.list.exchanges) (range_with_len 0 (length plan.list.exchanges))) i 0
    at i = let next : i + 1 ≡ suc i = omega arith in ap (λ k. get_or (0 ∷ map (pending_of plan.list.exchanges) (range_with_len 0 (length plan.list.exchanges))) k 0) next

-- what a board is made of
pub key_is : {T : Type 0} (table : T → Table) (key : BoardKey T) (list : RoundListView) (tables : Vec T Global) → key.list.value ≡ list → key.tables.value ≡ tables → IsRoundPlan list → IsCluster list.nodes (map table tables.items) → IsBoardKey key
key_is {T = T} table key list tables list_is tables_are planned cluster = record {
  list = subst IsRoundPlan (sym list_is) planned;
  tables = ap (λ (v : Vec T Global). length v.items) tables_are ∙ sym (length-map tables.items table) ∙ cluster.size ∙ ap (λ (l : RoundListView). l.nodes) (sym list_is);
}

-- and that is a plan
pub planned_by : {T : Type 0} (table : T → Table) (key : BoardKey T) → IsBoardKey key → IsBoardPlan (key_plan table key)
planned_by table key is = record { list = is.list; tables = length-map key.tables.value.items table ∙ is.tables }

pub first_word : (words : List ℕ) (r : ℕ) → get_elem? words 0 ≡ some r → get_or words 0 0 ≡ r
first_word [] r e = absurd (some-ne-none r (sym e))
first_word (w ∷ ws) r e = some-injective w r e

-- the tables of list order in their slots, at the end
pub close_left : {T : Type 0} (table : T → Table) (plan : BoardPlan) (slots : List (Option T)) → IsBoardPlan plan → length slots ≡ plan.list.nodes
    → ((node : ℕ) → node < plan.list.nodes → get_elem? (map (slot_model table) slots) node ≡ some (Some (table_at plan node (length plan.list.exchanges))))
    → (kept : List T) × (slots ≡ map in_place kept) × (map table kept ≡ (fold_of plan.rules plan.tables plan.list.exchanges).tables)
close_left table plan slots planned count each =
    let ends = (fold_of plan.rules plan.tables plan.list.exchanges).tables in
    let long : length ends ≡ plan.list.nodes = fold_counts_tables plan.rules plan.list.exchanges (record { tables = plan.tables; records = [] }) ∙ planned.tables in
    all_there table slots ends (placed (map (slot_model table) slots) ends (length-map slots (slot_model table) ∙ count ∙ sym long) (λ node within.
    each node (omega (arith, within, long)) ∙ ap (λ ts. some (Some (table_of_node ts node))) (tables_at_end plan.rules plan.tables plan.list.exchanges)))
