-- Laws of the exchanges of a list, for the crates above: what holds of the tables of all nodes before any of the
-- exchanges, and after the last.
-- Serves `lists_keep_tables_proper` and the crates above.
use Rattle.model.proofs.Common.{◌≡◌, ◌≢◌, ℕ, ◌+◌, ◌<◌, ◌≤◌, List, [], ◌∷◌, ◌++◌, length, set, take, drop, fold, All, inl, inr, refl, sym, ap, ◌∙◌, subst, arith, cases_eq, get_or-set_same, get_or-set_other, length-set, length-append, take-take, take-append-drop, fold-append, All-head, All-tail, All-take, All-drop, Exchange, Rules, IsPlanned}
use Rattle.model.specs.Table.{Table, empty_table, entry_at, IsProper}
use Rattle.model.specs.Candidates.{IsScuttleMode}
use Rattle.model.specs.Exchanged.{Exchanged, exchanged}
use Rattle.model.specs.calls.Exchanging.{MayBeExchanged, IsKeptByExchanges}
use Rattle.model.specs.Tables.{table_of_node, AreTablesInOrder, IsTableOf, HoldsOfEach, AreProper}
use Rattle.model.specs.Folds.{Folded, exchange_in, fold_of, tables_before}
use Rattle.model.specs.ExchangeLaws.{NoMarkFalls}
use Rattle.model.specs.calls.ExchangeLaws.{MayMeet}
use Rattle.model.specs.Copies.{OwnParts, Generations, WritesBy, IsLastOf, HoldsWrites}
use Rattle.model.specs.inner.Copies.{AreLastOf, HasNoGap}
use Rattle.model.specs.Clusters.{own_parts, generations_of, AreCopiesOf, HaveNoGap, NoMarksFall}
use Rattle.model.specs.inner.Owns.{KeepOwnParts, KeepsOwn}
use Rattle.model.proofs.Owns.{keeps_own_same, keeps_own_then, initiator_keeps_own, responder_keeps_own}
use Rattle.model.proofs.Tables.{still_in_order, table_of_node-set_same, table_of_node-set_other}
use Rattle.model.proofs.ExchangeLaws.{marks_stay, marks_then, initiator_rises, responder_rises, initiator_proper, responder_proper, initiator_writes, responder_writes, initiator_no_gap, responder_no_gap}

-- what holds of two tables that are written back and of the others holds of each
set_both-each : (P : ℕ → Table → Type 0) (ts : List Table) (p q : ℕ) (x y : Table) → p < length ts → q < length ts → p ≢ q → P p x → P q y → ((n : ℕ) → P n (table_of_node ts n)) → (n : ℕ) → P n (table_of_node (set (set ts p x) q y) n)
set_both-each P ts p q x y in_p in_q apart first second others n = elim (cases_eq n q) [
  | inl here ↦ subst (λ m. P m (table_of_node (set (set ts p x) q y) m)) (sym here) (subst (P q) (sym (get_or-set_same (set ts p x) q y (empty_table 0 0 0) (omega (arith, length-set ts p x)))) second)
  | inr not_second ↦ subst (P n) (sym (get_or-set_other (set ts p x) q n y (empty_table 0 0 0) not_second)) (elim (cases_eq n p) [
    | inl here ↦ subst (λ m. P m (table_of_node (set ts p x) m)) (sym here) (subst (P p) (sym (get_or-set_same ts p x (empty_table 0 0 0) in_p)) first)
    | inr not_first ↦ subst (P n) (sym (get_or-set_other ts p n x (empty_table 0 0 0) not_first)) (others n)
  ])
]

-- there are as many tables as before, and one record more for each exchange
step_size : (rules : Rules) (s : Folded) (e : Exchange) → length (exchange_in rules s e).tables ≡ length s.tables
step_size rules s e =
    let done = exchanged rules e (table_of_node s.tables e.initiator) (table_of_node s.tables e.responder) in
    length-set (set s.tables e.initiator done.initiator) e.responder done.responder ∙ length-set s.tables e.initiator done.initiator

pub fold_counts_tables : (rules : Rules) (es : List Exchange) (s : Folded) → length (fold (exchange_in rules) s es).tables ≡ length s.tables
fold_counts_tables rules [] s = refl
fold_counts_tables rules (e ∷ es) s = fold_counts_tables rules es (exchange_in rules s e) ∙ step_size rules s e

pub fold_counts_records : (rules : Rules) (es : List Exchange) (s : Folded) → length (fold (exchange_in rules) s es).records ≡ length s.records + length es
fold_counts_records rules [] s = omega arith
fold_counts_records rules (e ∷ es) s =
    let sent = (exchanged rules e (table_of_node s.tables e.initiator) (table_of_node s.tables e.responder)).sent in
    omega (arith, fold_counts_records rules es (exchange_in rules s e), length-append s.records (sent ∷ []))

module _ (rules : Rules) (nodes keys : ℕ) (s : Folded) (e : Exchange) (planned : IsPlanned nodes e) (tables : AreTablesInOrder nodes keys s.tables) where
  -- the two tables, and what the exchange makes of them
  abbrev p : Table
  p = table_of_node s.tables e.initiator

  abbrev q : Table
  q = table_of_node s.tables e.responder

  abbrev done : Exchanged
  done = exchanged rules e p q

  -- where they stand after it
  pub initiator_is : table_of_node (exchange_in rules s e).tables e.initiator ≡ done.initiator
  initiator_is =
      table_of_node-set_other (set s.tables e.initiator done.initiator) e.responder e.initiator done.responder planned.apart
      ∙ table_of_node-set_same s.tables e.initiator done.initiator (omega (arith, planned.initiator, tables.size))

  pub responder_is : table_of_node (exchange_in rules s e).tables e.responder ≡ done.responder
  responder_is =
      table_of_node-set_same (set s.tables e.initiator done.initiator) e.responder done.responder (omega (arith, planned.responder, tables.size, length-set s.tables e.initiator done.initiator))

  pub other_is : (n : ℕ) → n ≢ e.initiator → n ≢ e.responder → table_of_node (exchange_in rules s e).tables n ≡ table_of_node s.tables n
  other_is n not_first not_second =
      table_of_node-set_other (set s.tables e.initiator done.initiator) e.responder n done.responder not_second
      ∙ table_of_node-set_other s.tables e.initiator n done.initiator not_first

  -- what holds of both tables after an exchange and of the others holds of each
  each : (P : ℕ → Table → Type 0) → P e.initiator done.initiator → P e.responder done.responder → ((n : ℕ) → P n (table_of_node s.tables n)) → (n : ℕ) → P n (table_of_node (exchange_in rules s e).tables n)
  each P first second others =
      set_both-each P s.tables e.initiator e.responder done.initiator done.responder (omega (arith, tables.size, planned.initiator)) (omega (arith, tables.size, planned.responder)) planned.apart first second others

  -- each node's own part stays
  pub step_keeps_own : KeepOwnParts s.tables (exchange_in rules s e).tables
  step_keeps_own = each (λ n t. KeepsOwn (table_of_node s.tables n) t) (initiator_keeps_own rules e p q) (responder_keeps_own rules e p q) (λ n. keeps_own_same (table_of_node s.tables n))

  -- and so do their generations
  pub step-generations : generations_of (exchange_in rules s e).tables ≡ generations_of s.tables
  step-generations = λ i n. (step_keeps_own n).generation i

  -- and what the nodes hold of themselves
  pub step-own_parts : own_parts (exchange_in rules s e).tables ≡ own_parts s.tables
  step-own_parts = λ i n key. each (λ m t. entry_at t m key ≡ own_parts s.tables m key)
      (subst (λ m. entry_at done.initiator m key ≡ entry_at p m key) first.node ((initiator_keeps_own rules e p q).own_part key))
      (subst (λ m. entry_at done.responder m key ≡ entry_at q m key) second.node ((responder_keeps_own rules e p q).own_part key))
      (λ m. refl) n i
    where
      first : IsTableOf nodes keys e.initiator p
      first = tables.tables e.initiator planned.initiator

      second : IsTableOf nodes keys e.responder q
      second = tables.tables e.responder planned.responder

  -- the tables stay those of all nodes
  pub step_tables : AreTablesInOrder nodes keys (exchange_in rules s e).tables
  step_tables = still_in_order nodes keys s.tables (exchange_in rules s e).tables (step_size rules s e) step_keeps_own tables

  -- what an exchange keeps of both tables, it keeps of each
  pub step_keeps_each : (P : Table → Type 0) → IsKeptByExchanges P → HoldsOfEach P s.tables → HoldsOfEach P (exchange_in rules s e).tables
  step_keeps_each P kept holds n lt =
      let first = tables.tables e.initiator planned.initiator in
      let second = tables.tables e.responder planned.responder in
      let may_be : MayBeExchanged e p q = record {
        first = first.node;
        second = second.node;
        nodes = first.nodes ∙ sym second.nodes;
        keys = first.keys ∙ sym second.keys;
        rotation = subst (λ m. e.rotation < m) (sym first.nodes) planned.rotation;
      } in
      let both = kept rules e p q may_be (holds e.initiator (omega (arith, tables.size, planned.initiator))) (holds e.responder (omega (arith, tables.size, planned.responder))) in
      each (λ m t. m < length s.tables → P t) (λ _. both.0) (λ _. both.1) holds n (omega (arith, lt, step_size rules s e))

  module _ (proper : AreProper s.tables) where
    proper_at : (n : ℕ) → n < nodes → IsProper (table_of_node s.tables n)
    proper_at n lt = proper n (omega (arith, lt, tables.size))

    meet : MayMeet e p q
    meet =
        let first = tables.tables e.initiator planned.initiator in
        let second = tables.tables e.responder planned.responder in
        record {
          initiator = proper_at e.initiator planned.initiator;
          responder = proper_at e.responder planned.responder;
          nodes = first.nodes ∙ sym second.nodes;
          keys = first.keys ∙ sym second.keys;
          rotation = subst (λ n. e.rotation < n) (sym first.nodes) planned.rotation;
        }

    -- no mark goes down
    pub step_rises : NoMarksFall s.tables (exchange_in rules s e).tables
    step_rises = each (λ n t. NoMarkFalls (table_of_node s.tables n) t) (initiator_rises rules e p q meet) (responder_rises rules e p q meet) (λ n. marks_stay (table_of_node s.tables n))

    -- and proper
    pub step_proper : AreProper (exchange_in rules s e).tables
    step_proper n lt = each (λ m t. m < nodes → IsProper t) (λ _. initiator_proper rules e p q meet) (λ _. responder_proper rules e p q meet) proper_at n (omega (arith, lt, step_size rules s e, tables.size))

-- copies hold nothing but their owners' writes
module _ (rules : Rules) (nodes keys : ℕ) (s : Folded) (e : Exchange) (planned : IsPlanned nodes e) (writes : WritesBy) (copies : AreCopiesOf writes nodes keys s.tables) where
  abbrev first : Table
  first = table_of_node s.tables e.initiator

  abbrev second : Table
  second = table_of_node s.tables e.responder

  meeting : MayMeet e first second
  meeting = meet rules nodes keys s e planned copies.tables copies.proper

  pub step_copies : AreCopiesOf writes nodes keys (exchange_in rules s e).tables
  step_copies = record {
    tables = step_tables rules nodes keys s e planned copies.tables;
    proper = step_proper rules nodes keys s e planned copies.tables copies.proper;
    last = λ owner lt. subst (λ g. IsLastOf (g owner) (writes owner) (own_parts (exchange_in rules s e).tables owner)) (sym (step-generations rules nodes keys s e planned copies.tables))
        (subst (λ own. IsLastOf (generations_of s.tables owner) (writes owner) (own owner)) (sym (step-own_parts rules nodes keys s e planned copies.tables)) (copies.last owner lt));
    holds = each rules nodes keys s e planned copies.tables (λ n t. n < nodes → HoldsWrites writes t)
        (λ lt. initiator_writes rules e first second meeting writes (copies.holds e.initiator planned.initiator) (copies.holds e.responder planned.responder))
        (λ lt. responder_writes rules e first second meeting writes (copies.holds e.initiator planned.initiator) (copies.holds e.responder planned.responder))
        copies.holds;
  }

  -- and in a scuttle mode without a gap
  pub step_no_gap : IsScuttleMode rules.mode → HaveNoGap s.tables → HaveNoGap (exchange_in rules s e).tables
  step_no_gap scuttle gapless n lt =
      subst (λ own. HasNoGap own (table_of_node (exchange_in rules s e).tables n)) (sym (step-own_parts rules nodes keys s e planned copies.tables))
      (each rules nodes keys s e planned copies.tables (λ m t. m < nodes → HasNoGap own t)
      (λ _. initiator_no_gap rules e first second meeting writes (copies.holds e.initiator planned.initiator) (copies.holds e.responder planned.responder) scuttle generations own last first_gapless second_gapless)
      (λ _. responder_no_gap rules e first second meeting writes (copies.holds e.initiator planned.initiator) (copies.holds e.responder planned.responder) scuttle generations own last first_gapless second_gapless)
      (λ m in_nodes. gapless m (omega (arith, in_nodes, copies.tables.size)))
      n (omega (arith, lt, (step_tables rules nodes keys s e planned copies.tables).size)))
    where
      own : OwnParts
      own = own_parts s.tables

      generations : Generations
      generations = generations_of s.tables

      last : AreLastOf first.nodes generations writes own
      last = subst (λ m. AreLastOf m generations writes own) (sym (copies.tables.tables e.initiator planned.initiator).nodes) copies.last

      first_gapless : HasNoGap own first
      first_gapless = gapless e.initiator (omega (arith, planned.initiator, copies.tables.size))

      second_gapless : HasNoGap own second
      second_gapless = gapless e.responder (omega (arith, planned.responder, copies.tables.size))

-- the exchanges of a list, from any tables and records
module _ (rules : Rules) (nodes keys : ℕ) where
  on_fold : (P : List Table → Type 0) → ((s : Folded) (e : Exchange) → IsPlanned nodes e → P s.tables → P (exchange_in rules s e).tables) → (es : List Exchange) (s : Folded) → All (IsPlanned nodes) es → P s.tables → P (fold (exchange_in rules) s es).tables
  on_fold P step [] s planned holds = holds
  on_fold P step (e ∷ es) s planned holds = on_fold P step es (exchange_in rules s e) (All-tail (IsPlanned nodes) e es planned) (step s e (All-head (IsPlanned nodes) e es planned) holds)

  -- what each exchange keeps beside the tables' order holds after all
  abbrev Stays : (List Table → Type 0) → List Table → Type 0
  Stays P ts = AreTablesInOrder nodes keys ts × P ts

  on_tables : (P : List Table → Type 0) → ((s : Folded) (e : Exchange) → IsPlanned nodes e → AreTablesInOrder nodes keys s.tables → P s.tables → P (exchange_in rules s e).tables) → (es : List Exchange) (ts : List Table) → All (IsPlanned nodes) es → AreTablesInOrder nodes keys ts → P ts → P (fold_of rules ts es).tables
  on_tables P step es ts planned tables holds =
      (on_fold (Stays P) (λ s e is both. (step_tables rules nodes keys s e is both.0, step s e is both.0 both.1)) es (record { tables = ts; records = [] }) planned (tables, holds)).1

  module _ (es : List Exchange) (ts : List Table) (planned : All (IsPlanned nodes) es) where
    module _ (tables : AreTablesInOrder nodes keys ts) where
      pub fold_tables : AreTablesInOrder nodes keys (fold_of rules ts es).tables
      fold_tables = on_fold (AreTablesInOrder nodes keys) (step_tables rules nodes keys) es (record { tables = ts; records = [] }) planned tables

      pub fold_keeps_own : KeepOwnParts ts (fold_of rules ts es).tables
      fold_keeps_own = on_tables (KeepOwnParts ts) (λ s e is still so_far n. keeps_own_then (table_of_node ts n) (table_of_node s.tables n) (table_of_node (exchange_in rules s e).tables n) (so_far n) (step_keeps_own rules nodes keys s e is still n)) es ts planned tables (λ n. keeps_own_same (table_of_node ts n))

      pub fold_proper : AreProper ts → AreProper (fold_of rules ts es).tables
      fold_proper proper = on_tables AreProper (step_proper rules nodes keys) es ts planned tables proper

    module _ (writes : WritesBy) (copies : AreCopiesOf writes nodes keys ts) where
      pub fold_copies : AreCopiesOf writes nodes keys (fold_of rules ts es).tables
      fold_copies = on_fold (AreCopiesOf writes nodes keys) (λ s e is so_far. step_copies rules nodes keys s e is writes so_far) es (record { tables = ts; records = [] }) planned copies

      pub fold_no_gap : IsScuttleMode rules.mode → HaveNoGap ts → HaveNoGap (fold_of rules ts es).tables
      fold_no_gap scuttle gapless =
          (on_fold (λ us. AreCopiesOf writes nodes keys us × HaveNoGap us) (λ s e is both. (step_copies rules nodes keys s e is writes both.0, step_no_gap rules nodes keys s e is writes both.0 scuttle both.1)) es (record { tables = ts; records = [] }) planned (copies, gapless)).1

-- before each exchange of the list
module _ (rules : Rules) (nodes keys : ℕ) (es : List Exchange) (ts : List Table) (planned : All (IsPlanned nodes) es) where
  ahead : (i : ℕ) → All (IsPlanned nodes) (take i es)
  ahead i = All-take (IsPlanned nodes) i es planned

  module _ (tables : AreTablesInOrder nodes keys ts) where
    pub before_tables : (i : ℕ) → AreTablesInOrder nodes keys (tables_before rules ts es i)
    before_tables i = fold_tables rules nodes keys (take i es) ts (ahead i) tables

    -- and proper
    pub before_proper : AreProper ts → (i : ℕ) → AreProper (tables_before rules ts es i)
    before_proper proper i = fold_proper rules nodes keys (take i es) ts (ahead i) tables proper

    -- what exchanges keep of both tables holds of each, as before the first
    pub before_keeps_each : (P : Table → Type 0) → IsKeptByExchanges P → HoldsOfEach P ts → (i : ℕ) → HoldsOfEach P (tables_before rules ts es i)
    before_keeps_each P kept holds i = on_tables rules nodes keys (HoldsOfEach P) (λ s e is still. step_keeps_each rules nodes keys s e is still P kept) (take i es) ts (ahead i) tables holds

    -- no node's own part has changed
    pub before_keeps_own : (i : ℕ) → KeepOwnParts ts (tables_before rules ts es i)
    before_keeps_own i = fold_keeps_own rules nodes keys (take i es) ts (ahead i) tables

    -- no mark has gone down since an earlier one
    pub before_rises : AreProper ts → (i j : ℕ) → i ≤ j → NoMarksFall (tables_before rules ts es i) (tables_before rules ts es j)
    before_rises proper i j le =
        subst (λ us. NoMarksFall (tables_before rules ts es i) (fold_of rules ts us).tables) (ap (λ us. us ++ drop i (take j es)) (sym (take-take i j es le)) ∙ take-append-drop i (take j es))
        (subst (λ (s : Folded). NoMarksFall (tables_before rules ts es i) s.tables) (sym (fold-append (exchange_in rules) (record { tables = ts; records = [] }) (take i es) (drop i (take j es))))
        (on_fold rules nodes keys (λ us. (AreTablesInOrder nodes keys us × AreProper us) × NoMarksFall (tables_before rules ts es i) us)
        (λ s e is both. (
          (step_tables rules nodes keys s e is both.0.0, step_proper rules nodes keys s e is both.0.0 both.0.1),
          λ n. marks_then (table_of_node (tables_before rules ts es i) n) (table_of_node s.tables n) (table_of_node (exchange_in rules s e).tables n) (both.1 n) (step_rises rules nodes keys s e is both.0.0 both.0.1 n),
        ))
        (drop i (take j es)) (fold_of rules ts (take i es)) (All-drop (IsPlanned nodes) i (take j es) (ahead j)) ((before_tables i, before_proper proper i), λ n. marks_stay (table_of_node (tables_before rules ts es i) n))).1)

  module _ (writes : WritesBy) (copies : AreCopiesOf writes nodes keys ts) where
    pub before_copies : (i : ℕ) → AreCopiesOf writes nodes keys (tables_before rules ts es i)
    before_copies i = fold_copies rules nodes keys (take i es) ts (ahead i) writes copies

    pub before_no_gap : IsScuttleMode rules.mode → HaveNoGap ts → (i : ℕ) → HaveNoGap (tables_before rules ts es i)
    before_no_gap scuttle gapless i = fold_no_gap rules nodes keys (take i es) ts (ahead i) writes copies scuttle gapless
