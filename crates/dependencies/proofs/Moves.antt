-- One node's table along list order: it changes by the exchanges of the node alone.
-- Serves `Lawful`, `board` and `workers`.
use Rattle.dependencies.proofs.Common.{◌≡◌, ◌∙◌, ℕ, suc, zero, ◌+◌, ◌<◌, ◌≤◌, Bool, true, false, ◌&&◌, if◌then◌else◌, List, [], ◌∷◌, ◌++◌, length, take, drop, get_or, set, fold, inl, inr, Some, refl, sym, ap, arith, add-one, slice_get, cases_Bool, cases_lt, and_from, get_or-set_same, get_or-set_other, length-set, take_all, take-append-drop, get_or_append_left, length-take-le, length-append, get_or-append_seam, fold_more, fold-append, All-get_or, slice_get-get_or, Exchange, Rules, Table, empty_table, Exchanged, exchanged, table_of_node, fold_counts_records, fold_counts_tables, Folded, exchange_in, fold_of, tables_before, IsPlanned}
use Rattle.dependencies.specs.declared.events.Event.{Event}
use Rattle.dependencies.specs.Sharing.{no_exchange, exchange_at, takes_part}
use Rattle.dependencies.specs.Schedules.{is_finished}
use Rattle.dependencies.specs.ListOrder.{AreAmong, finished_upto}
use Rattle.dependencies.proofs.Sharers.{not_initiator, not_responder}

-- an exchange adds its record behind those before it
fold_keeps_records : (rules : Rules) (xs : List Exchange) (s : Folded) (j : ℕ) → j < length s.records → slice_get (fold (exchange_in rules) s xs).records j ≡ slice_get s.records j
fold_keeps_records rules [] s j lt = refl
fold_keeps_records rules (x ∷ xs) s j lt =
    let t = exchange_in rules s x in
    let sent = (exchanged rules x (table_of_node s.tables x.initiator) (table_of_node s.tables x.responder)).sent in
    let more : j < length t.records = omega (arith, lt, length-append s.records (sent ∷ [])) in
    fold_keeps_records rules xs t j more
    ∙ slice_get-get_or t.records j sent more
    ∙ ap Some (get_or_append_left s.records (sent ∷ []) sent j lt)
    ∙ sym (slice_get-get_or s.records j sent lt)

module _ (rules : Rules) (ts : List Table) (es : List Exchange) where
  -- a node's table before an exchange
  abbrev pub table_before : ℕ → ℕ → Table
  table_before node i = table_of_node (tables_before rules ts es i) node

  -- what an exchange comes to in list order
  abbrev pub done_at : ℕ → Exchanged
  done_at i = exchanged rules (exchange_at es i) (table_before (exchange_at es i).initiator i) (table_before (exchange_at es i).responder i)

  step : (i : ℕ) → i < length es → fold_of rules ts (take (i + 1) es) ≡ exchange_in rules (fold_of rules ts (take i es)) (exchange_at es i)
  step i lt = fold_more (exchange_in rules) (record { tables = ts; records = [] }) es i no_exchange lt

  size : (i : ℕ) → length (tables_before rules ts es i) ≡ length ts
  size i = fold_counts_tables rules (take i es) (record { tables = ts; records = [] })

  pub table_still : (node i : ℕ) → i < length es → takes_part es node i ≡ false → table_before node (i + 1) ≡ table_before node i
  table_still node i lt none =
      ap (λ s. table_of_node s.tables node) (step i lt)
      ∙ get_or-set_other (set (tables_before rules ts es i) (exchange_at es i).initiator (done_at i).initiator) (exchange_at es i).responder node (done_at i).responder (empty_table 0 0 0) (not_responder es node i none)
      ∙ get_or-set_other (tables_before rules ts es i) (exchange_at es i).initiator node (done_at i).initiator (empty_table 0 0 0) (not_initiator es node i none)

  pub record_kept : (i : ℕ) → i < length es → slice_get (fold_of rules ts es).records i ≡ Some (done_at i).sent
  record_kept i lt =
      let begun : Folded = record { tables = ts; records = [] } in
      let before = fold_of rules ts (take i es) in
      let after = fold_of rules ts (take (i + 1) es) in
      let count : length before.records ≡ i = omega (arith, fold_counts_records rules (take i es) begun, length-take-le i es (omega (arith, lt))) in
      let counted : length after.records ≡ i + 1 = omega (arith, fold_counts_records rules (take (i + 1) es) begun, length-take-le (i + 1) es (omega (arith, lt))) in
      let sent = (done_at i).sent in
      ap (λ xs. slice_get (fold (exchange_in rules) begun xs).records i) (sym (take-append-drop (i + 1) es))
      ∙ ap (λ s. slice_get s.records i) (fold-append (exchange_in rules) begun (take (i + 1) es) (drop (i + 1) es))
      ∙ fold_keeps_records rules (drop (i + 1) es) after i (omega (arith, counted))
      ∙ slice_get-get_or after.records i sent (omega (arith, counted))
      ∙ ap (λ s. Some (get_or s.records i sent)) (step i lt)
      ∙ ap (λ n. Some (get_or (before.records ++ sent ∷ []) n sent)) (sym count)
      ∙ ap Some (get_or-append_seam before.records sent [] sent)

  -- at the end of the list
  pub tables_at_end : tables_before rules ts es (length es) ≡ (fold_of rules ts es).tables
  tables_at_end = ap (λ xs. (fold_of rules ts xs).tables) (take_all (length es) es (omega arith))

  pub table_at_end : (node : ℕ) → node < length ts → slice_get (fold_of rules ts es).tables node ≡ Some (table_before node (length es))
  table_at_end node lt =
      slice_get-get_or (fold_of rules ts es).tables node (empty_table 0 0 0) (omega (arith, lt, fold_counts_tables rules es (record { tables = ts; records = [] })))
      ∙ ap (λ xs. Some (table_of_node xs node)) (sym tables_at_end)

  module _ (among : AreAmong ts es) where
    pub among_at : (i : ℕ) → i < length es → IsPlanned (length ts) (exchange_at es i)
    among_at i lt = All-get_or (IsPlanned (length ts)) es i no_exchange lt among

    pub initiator_left : (i : ℕ) → i < length es → table_before (exchange_at es i).initiator (i + 1) ≡ (done_at i).initiator
    initiator_left i lt =
        let is = among_at i lt in
        let before = tables_before rules ts es i in
        ap (λ s. table_of_node s.tables (exchange_at es i).initiator) (step i lt)
        ∙ get_or-set_other (set before (exchange_at es i).initiator (done_at i).initiator) (exchange_at es i).responder (exchange_at es i).initiator (done_at i).responder (empty_table 0 0 0) is.apart
        ∙ get_or-set_same before (exchange_at es i).initiator (done_at i).initiator (empty_table 0 0 0) (omega (arith, is.initiator, size i))

    pub responder_left : (i : ℕ) → i < length es → table_before (exchange_at es i).responder (i + 1) ≡ (done_at i).responder
    responder_left i lt =
        let is = among_at i lt in
        let before = tables_before rules ts es i in
        ap (λ s. table_of_node s.tables (exchange_at es i).responder) (step i lt)
        ∙ get_or-set_same (set before (exchange_at es i).initiator (done_at i).initiator) (exchange_at es i).responder (done_at i).responder (empty_table 0 0 0) (omega (arith, is.responder, size i, length-set before (exchange_at es i).initiator (done_at i).initiator))

  -- a node whose exchanges so far are all finished has its table of the last of them
  pub table_upto : (events : List Event) (node i : ℕ) → i ≤ length es → ((j : ℕ) → j < i → takes_part es node j ≡ true → is_finished events j ≡ true)
      → table_before node (finished_upto es events node i) ≡ table_before node i
  table_upto events node zero le all = refl
  table_upto events node (suc i) le all = elim (cases_Bool (takes_part es node i)) [
    | inl part ↦ ap (table_before node) (ap (λ (b : Bool). if b then suc i else finished_upto es events node i) (and_from (takes_part es node i) (is_finished events i) part (all i (omega arith) part)))
    | inr none ↦
        ap (table_before node) (ap (λ (b : Bool). if b && is_finished events i then suc i else finished_upto es events node i) none)
        ∙ table_upto events node i (omega (arith, le)) (λ j lt. all j (omega (arith, lt)))
        ∙ sym (table_still node i (omega (arith, le)) none)
        ∙ ap (table_before node) (add-one i)
  ]

-- exchanges that aren't finished don't count
pub upto_quiet : (es : List Exchange) (events : List Event) (node i b : ℕ) → i ≤ b → ((j : ℕ) → i ≤ j → j < b → takes_part es node j ≡ true → is_finished events j ≡ false)
    → finished_upto es events node b ≡ finished_upto es events node i
upto_quiet es events node i zero le none =
    let none_left : zero ≡ i = omega (arith, le) in
    ap (finished_upto es events node) none_left
upto_quiet es events node i (suc b) le none = elim (cases_lt b i) [
  | inl here ↦
      let at_once : suc b ≡ i = omega (arith, le, here) in
      ap (finished_upto es events node) at_once
  | inr below ↦
      ap (λ (c : Bool). if c then suc b else finished_upto es events node b) (unfinished b below (omega arith))
      ∙ upto_quiet es events node i b below (λ j from lt. none j from (omega (arith, lt)))
]
  where
    unfinished : (j : ℕ) → i ≤ j → j < suc b → (takes_part es node j && is_finished events j) ≡ false
    unfinished j from lt = elim (cases_Bool (takes_part es node j)) [
      | inl part ↦ ap (λ (c : Bool). c && is_finished events j) part ∙ none j from lt part
      | inr out ↦ ap (λ (c : Bool). c && is_finished events j) out
    ]

-- what is finished among a node's exchanges decides
pub upto_same : (es : List Exchange) (old new : List Event) (node b : ℕ) → ((j : ℕ) → takes_part es node j ≡ true → is_finished new j ≡ is_finished old j)
    → finished_upto es new node b ≡ finished_upto es old node b
upto_same es old new node zero same = refl
upto_same es old new node (suc b) same =
    let rest = upto_same es old new node b same in
    elim (cases_Bool (takes_part es node b)) [
      | inl part ↦ ap (λ (c : Bool). if takes_part es node b && c then suc b else finished_upto es new node b) (same b part) ∙ ap (λ n. if takes_part es node b && is_finished old b then suc b else n) rest
      | inr none ↦ ap (λ (c : Bool). if c && is_finished new b then suc b else finished_upto es new node b) none ∙ rest ∙ sym (ap (λ (c : Bool). if c && is_finished old b then suc b else finished_upto es old node b) none)
    ]
