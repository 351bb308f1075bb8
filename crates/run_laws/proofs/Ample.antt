-- A budget for the largest entry of each key of all owners but one cuts nothing.
-- Serves `ample_budgets_cut_nothing` and `SmallRings`.
use Rattle.run_laws.proofs.Common.{◌≡◌, ◌≢◌, ℕ, zero, suc, ◌+◌, ◌-◌, ◌*◌, ◌%◌, ◌<◌, ◌≤◌, not, ◌&&◌, eqb, if◌then◌else◌, List, [], ◌∷◌, length, get_or, fold, All, AllPairs, inl, inr, refl, sym, ap, subst, arith, nat_lt, Less, mod-lt, mul-le-mul_right, cases_lt, le-ltb, lt-ltb, All-head, All-tail, AllPairs-filter, sum_by-append, sum_by-cons, sum_by-le, Entry, Item, Budget, Entries, Bytes, Exchange, Fate, Mode, Record, Rules, ENTRY_SIZES, amount_of, share_of, largest_share, IsPlanned, mark_of, is_before, digest_kind, Settings, IsLawfulScenario, place_cmp, Table, items_of, IsProper, IsItemInPlace, table_of_node, AreTablesInOrder, AreProper, known_mark, candidates, DeltaView, item_share, delta_between, AreWithin, digest_size, exchanged, fate_of, sent_until, Folded, exchange_in, no_item, place_of, cut-none, step_proper, step_tables, place_less, apart-items_of, candidates-in_place, round_list_of, planned_list}
use Rattle.bench_types.specs.declared.exchanges.Fate.TheVariants as fate
use Rattle.cluster.specs.Rounds.{begun, rules_of, tables_after}
use Rattle.played_rounds.specs.Rows.{cut_total}
use Rattle.run_laws.specs.Healing.{AmpleBudgetsCutNothing}
use Rattle.played_rounds.proofs.Soundness.{begun_sound}

-- the number of an owner among all but one, and of a place among those of these owners
among_others : ℕ → ℕ → ℕ
among_others gone owner = if nat_lt owner gone then owner else owner - 1

others_below : (gone owner : ℕ) → (owner < gone → among_others gone owner ≡ owner) × (gone ≤ owner → among_others gone owner ≡ owner - 1)
unfolding among_others
others_below gone owner = (
  (λ lt. ap (λ b. if b then owner else owner - 1) (lt-ltb owner gone lt)),
  (λ le. ap (λ b. if b then owner else owner - 1) (le-ltb owner gone le)),
)

others_rise : (gone p q : ℕ) → p ≢ gone → q ≢ gone → p < q → among_others gone p < among_others gone q
others_rise gone p q p_other q_other lt = elim (cases_lt p gone) [
  | inl p_below ↦ elim (cases_lt q gone) [
    | inl q_below ↦ omega (arith, lt, (others_below gone p).0 p_below, (others_below gone q).0 q_below)
    | inr q_above ↦ omega (arith, lt, p_below, (others_below gone p).0 p_below, (others_below gone q).1 q_above, apart q_other q_above)
  ]
  | inr p_above ↦
      let above : gone ≤ q = omega (arith, p_above, lt) in
      omega (arith, lt, (others_below gone p).1 p_above, (others_below gone q).1 above, apart p_other p_above)
]
  where
    apart : {n : ℕ} → n ≢ gone → gone ≤ n → gone < n
    apart {n} other le = elim (cases_lt gone n) [ inl less ↦ less | inr more ↦ absurd (other (omega (arith, le, more))) ]

others_fit : (gone nodes owner : ℕ) → owner ≢ gone → owner < nodes → gone < nodes → among_others gone owner < nodes - 1
others_fit gone nodes owner other lt gone_in = elim (cases_lt owner gone) [
  | inl below ↦ omega (arith, below, gone_in, (others_below gone owner).0 below)
  | inr above ↦ elim (cases_lt gone owner) [
    | inl less ↦ omega (arith, less, lt, (others_below gone owner).1 above)
    | inr more ↦ absurd (other (omega (arith, above, more)))
  ]
]

abbrev number_of : ℕ → ℕ → Item → ℕ
number_of gone keys i = among_others gone i.owner * keys + i.entry.key

-- items of all owners but one, each at its place and no two at one, are no more than those places
module _ (gone nodes keys : ℕ) (gone_in : gone < nodes) (xs : List Item) (apart : AllPairs (λ i j. place_cmp (place_of i) (place_of j) ≡ Less) xs) (in_place : All (λ (i : Item). (i.owner ≢ gone) × IsItemInPlace nodes keys i) xs) where
  number_rises : (i j : Item) → i.owner ≢ gone → j.owner ≢ gone → i.entry.key < keys → place_cmp (place_of i) (place_of j) ≡ Less → number_of gone keys i < number_of gone keys j
  number_rises i j i_other j_other fits less = elim (place_less (place_of i) (place_of j) less) [
    | inl lt ↦
        let rises = others_rise gone i.owner j.owner i_other j_other lt in
        let step : (among_others gone i.owner + 1) * keys ≤ among_others gone j.owner * keys = mul-le-mul_right keys (omega (arith, rises)) in
        omega (arith, step, fits)
    | inr same ↦
        let owners : among_others gone i.owner * keys ≡ among_others gone j.owner * keys = ap (λ o. among_others gone o * keys) same.0 in
        omega (arith, owners, same.1)
  ]

  index-le-number : (d : Item) (i : ℕ) → i < length xs → i ≤ number_of gone keys (get_or xs i d)
  index-le-number d zero lt = omega arith
  index-le-number d (suc i) lt =
      let here = in_place i d (omega (arith, lt)) in
      let next = in_place (suc i) d lt in
      omega (arith, index-le-number d i (omega (arith, lt)), number_rises (get_or xs i d) (get_or xs (suc i) d) here.0 next.0 here.1.key_below (apart i (suc i) d (omega arith) lt))

  number-lt : (d : Item) (i : ℕ) → i < length xs → number_of gone keys (get_or xs i d) < (nodes - 1) * keys
  number-lt d i lt =
      let here = in_place i d lt in
      let fits = others_fit gone nodes (get_or xs i d).owner here.0 here.1.owner_below gone_in in
      let step : (among_others gone (get_or xs i d).owner + 1) * keys ≤ (nodes - 1) * keys = mul-le-mul_right keys (omega (arith, fits)) in
      omega (arith, step, here.1.key_below)

  length-le : length xs ≤ (nodes - 1) * keys
  length-le = bounded (length xs) refl
    where
      bounded : (n : ℕ) → length xs ≡ n → n ≤ (nodes - 1) * keys
      bounded zero e = omega arith
      bounded (suc n) e = omega (arith, index-le-number no_item n (omega (arith, e)), number-lt no_item n (omega (arith, e)))

-- no entry takes more than the largest share
share-le : (budget : Budget) (e : Entry) → share_of budget e ≤ largest_share budget
share-le (Entries n) e = omega arith
share-le (Bytes n) e = let rest : e.value % ENTRY_SIZES < ENTRY_SIZES = mod-lt e.value (omega arith) in omega (arith, rest)

-- all candidates from one table to another fit
all_fit : (mode : Mode) (budget : Budget) (from to : Table) → IsProper from → to.node < from.nodes → (from.nodes - 1) * from.keys * largest_share budget ≤ amount_of budget → AreWithin budget (candidates mode from to)
all_fit mode budget from to proper to_in ample =
    let cs = candidates mode from to in
    let in_place = candidates-in_place from (known_mark (digest_kind mode) to) to.node proper in
    let apart = AllPairs-filter (λ i j. place_cmp (place_of i) (place_of j) ≡ Less) (λ (i : Item). not (eqb i.owner to.node) && is_before (known_mark (digest_kind mode) to i) (mark_of i.entry)) (items_of from) (apart-items_of from proper) in
    let count = length-le to.node from.nodes from.keys to_in cs apart in_place in
    let sum = sum_by-le (item_share budget) (largest_share budget) cs (λ k d lt. share-le budget (get_or cs k d).entry) in
    let step : length cs * largest_share budget ≤ (from.nodes - 1) * from.keys * largest_share budget = mul-le-mul_right (largest_share budget) count in
    omega (arith, sum, step, ample)

-- nothing cut in either delta is nothing cut in the record
cuts_none : (f : Fate) (d1 d2 : ℕ) (back forth : DeltaView) → back.cut ≡ 0 → forth.cut ≡ 0 → (sent_until f d1 d2 back forth).back_cut + (sent_until f d1 d2 back forth).forth_cut ≡ 0
cuts_none fate.Lost1 d1 d2 back forth b f = refl
cuts_none fate.Lost2 d1 d2 back forth b f = omega (arith, b)
cuts_none fate.Lost3 d1 d2 back forth b f = omega (arith, b, f)
cuts_none fate.Ok d1 d2 back forth b f = omega (arith, b, f)

module _ (rules : Rules) (nodes keys : ℕ) (ample : (nodes - 1) * keys * largest_share rules.budget ≤ amount_of rules.budget) where
  module _ (f : Folded) (e : Exchange) (planned : IsPlanned nodes e) (tables : AreTablesInOrder nodes keys f.tables) (proper : AreProper f.tables) where
    abbrev p : Table
    p = table_of_node f.tables e.initiator

    abbrev q : Table
    q = table_of_node f.tables e.responder

    abbrev sent : Record
    sent = (exchanged rules e p q).sent

    fit : (m n : ℕ) → m < nodes → n < nodes → AreWithin rules.budget (candidates rules.mode (table_of_node f.tables m) (table_of_node f.tables n))
    fit m n m_in n_in =
        let from = tables.tables m m_in in
        let to = tables.tables n n_in in
        all_fit rules.mode rules.budget (table_of_node f.tables m) (table_of_node f.tables n) (proper m (omega (arith, m_in, tables.size))) (omega (arith, n_in, to.node, from.nodes))
        (subst (λ c. (c - 1) * (table_of_node f.tables m).keys * largest_share rules.budget ≤ amount_of rules.budget) (sym from.nodes) (subst (λ k. (nodes - 1) * k * largest_share rules.budget ≤ amount_of rules.budget) (sym from.keys) ample))

    sent_none : sent.back_cut + sent.forth_cut ≡ 0
    sent_none =
        cuts_none (fate_of e) (digest_size (digest_kind rules.mode) p) (digest_size (digest_kind rules.mode) q) (delta_between rules.mode e.rotation rules.budget q p) (delta_between rules.mode e.rotation rules.budget p q)
        (cut-none rules.mode q p e.rotation rules.budget (fit e.responder e.initiator planned.responder planned.initiator))
        (cut-none rules.mode p q e.rotation rules.budget (fit e.initiator e.responder planned.initiator planned.responder))

    step_cuts : cut_total f.records ≡ 0 → cut_total (exchange_in rules f e).records ≡ 0
    step_cuts none =
        omega (arith, none, sent_none, sum_by-append (λ (r : Record). r.back_cut + r.forth_cut) f.records (sent ∷ []), sum_by-cons (λ (r : Record). r.back_cut + r.forth_cut) sent [])

  fold_cuts : (es : List Exchange) (f : Folded) → All (IsPlanned nodes) es → AreTablesInOrder nodes keys f.tables → AreProper f.tables → cut_total f.records ≡ 0 → cut_total (fold (exchange_in rules) f es).records ≡ 0
  fold_cuts [] f planned tables proper none = none
  fold_cuts (e ∷ es) f planned tables proper none =
      let this = All-head (IsPlanned nodes) e es planned in
      fold_cuts es (exchange_in rules f e) (All-tail (IsPlanned nodes) e es planned) (step_tables rules nodes keys f e this tables) (step_proper rules nodes keys f e this tables proper) (step_cuts f e this tables proper none)

pub ample_cuts : (s : Settings) → IsLawfulScenario s → AmpleBudgetsCutNothing s
ample_cuts s lawful ample round first =
    let begins = begun_sound s lawful.nodes.0 lawful.nodes.1 lawful.keys.0 lawful.keys.1 round first in
    fold_cuts (rules_of s) s.nodes s.keys ample (round_list_of s round).exchanges (record { tables = begun s round (tables_after s (round - 1)); records = [] })
    (planned_list s round lawful.nodes.0) begins.copies.tables begins.copies.proper refl
