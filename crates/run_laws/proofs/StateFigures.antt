-- Where copies hold no less, no more of them are stale, and none for longer.
-- Serves `Best`.
use Rattle.run_laws.proofs.Common.{◌≡◌, ℕ, zero, suc, ◌+◌, ◌-◌, ◌<◌, ◌≤◌, Bool, true, false, ◌&&◌, cond, eqb, if◌then◌else◌, List, [], ◌∷◌, length, Option, Some, None, All, AllPairs, option_map, inl, inr, refl, sym, ap, ◌∙◌, subst, arith, cases_lt, and_parts, and_from, same_Some, All-tail, Mark, mark_of, mark_held, is_before, IsBefore, IsUpTo, sum_below, most_below, before-true, before-yes, up_to-before, sum_below-le}
use Rattle.model.specs.Table.{Table, entry_at, mark_at}
use Rattle.model.specs.Tables.{table_of_node}
use Rattle.model.specs.Copies.{WritesBy}
use Rattle.model.specs.declared.writes.Write.{Write}
use Rattle.model.specs.Figures.{writes_of_owner, generation_at, staleness_of, staleness_at, stale_count, rounds_behind, figures_of}
use Rattle.model.specs.Writes.{first_above}
use Rattle.model.proofs.BeginLaws.{copy-up_to}
use Rattle.run_laws.proofs.StateFolds.{AreBeside}

-- no write is born before an earlier one
abbrev pub NoneIsOlder : List Write → Type 0
NoneIsOlder = AllPairs (λ d e. d.born ≤ e.born)

module _ (generation key : ℕ) where
  abbrev of : ℕ → Mark
  of version = record { generation = generation; version = version }

  abbrev passes : Mark → Write → Bool
  passes mark w = eqb w.key key && is_before mark (of w.version)

  -- what is found was born no earlier than all
  found-born : (mark : Mark) (round : ℕ) (ws : List Write) → All (λ w. round ≤ w.born) ws → (w : Write) → first_above generation ws key mark ≡ Some w → round ≤ w.born
  found-born mark round [] all w is = cc
  found-born mark round (x ∷ xs) all w is = elim (passes mark x) as (λ b. cond b (Some x) (first_above generation xs key mark) ≡ Some w → round ≤ w.born) [
    | true ↦ λ here. subst (λ (v : Write). round ≤ v.born) (same_Some x w here) (all 0 x (omega arith))
    | false ↦ λ later. found-born mark round xs (All-tail (λ (v : Write). round ≤ v.born) x xs all) w later
  ] is

  -- a mark that lets all through that another does finds one that was born no later
  module _ (low high : Mark) (lets : (version : ℕ) → IsBefore high (of version) → IsBefore low (of version)) where
    passes-both : (w : Write) → passes high w ≡ true → passes low w ≡ true
    passes-both w is_so =
        let parts = and_parts (eqb w.key key) (is_before high (of w.version)) is_so in
        and_from (eqb w.key key) (is_before low (of w.version)) parts.0 (before-yes low (of w.version) (lets w.version (before-true high (of w.version) parts.1)))

    found-earlier : (ws : List Write) → NoneIsOlder ws → (w : Write) → first_above generation ws key high ≡ Some w → (v : Write) × (first_above generation ws key low ≡ Some v) × (v.born ≤ w.born)
    found-earlier [] rise w is = cc
    found-earlier (x ∷ xs) rise w is = elim (passes high x) as (λ b. passes high x ≡ b → cond b (Some x) (first_above generation xs key high) ≡ Some w → (v : Write) × (first_above generation (x ∷ xs) key low ≡ Some v) × (v.born ≤ w.born)) [
      | true ↦ λ is_so here. (x, ap (λ b. cond b (Some x) (first_above generation xs key low)) (passes-both x is_so), omega (arith, ap (λ (v : Write). v.born) (same_Some x w here)))
      | false ↦ λ _ later. elim (passes low x) as (λ b. (v : Write) × (cond b (Some x) (first_above generation xs key low) ≡ Some v) × (v.born ≤ w.born)) [
        | true ↦ (x, refl, found-born high x.born xs (λ k d lt. rise 0 (suc k) d (omega arith) (omega arith)) w later)
        | false ↦ found-earlier xs (λ i j d lt in_range. rise (suc i) (suc j) d (omega arith) (omega arith)) w later
      ]
    ] refl is

    less_stale : (round : ℕ) (ws : List Write) → NoneIsOlder ws → (stale_count (staleness_of round generation ws key high) ≤ stale_count (staleness_of round generation ws key low)) × (rounds_behind (staleness_of round generation ws key high) ≤ rounds_behind (staleness_of round generation ws key low))
    less_stale round ws rise = elim (first_above generation ws key high) as (λ o. first_above generation ws key high ≡ o → (stale_count (option_map (λ (w : Write). round - w.born + 1) o) ≤ stale_count (staleness_of round generation ws key low)) × (rounds_behind (option_map (λ (w : Write). round - w.born + 1) o) ≤ rounds_behind (staleness_of round generation ws key low))) [
      | None ↦ λ _. (omega arith, omega arith)
      | Some w ↦ λ is.
          let there = found-earlier ws rise w is in
          let low_is = ap (option_map (λ (v : Write). round - v.born + 1)) there.1 in
          (omega (arith, ap stale_count low_is), omega (arith, ap rounds_behind low_is, there.2))
    ] refl

most_below-le : (n : ℕ) (f g : ℕ → ℕ) → ((i : ℕ) → i < n → f i ≤ g i) → most_below n f ≤ most_below n g
most_below-le zero f g le = omega arith
most_below-le (suc n) f g le = omega (arith, most_below-le n f g (λ i lt. le i (omega (arith, lt))), le n (omega arith))

-- tables beside others that hold no less
module _ (writes : WritesBy) (nodes keys : ℕ) (ts us : List Table) (beside : AreBeside writes nodes keys ts us) (round : ℕ) (lists : List (List Write)) (rise : (owner : ℕ) → owner < nodes → NoneIsOlder (writes_of_owner lists owner)) where
  module _ (p r k : ℕ) (p_in : p < nodes) (r_in : r < nodes) where
    abbrev t : Table
    t = table_of_node ts p

    abbrev u : Table
    u = table_of_node us p

    abbrev generation : ℕ
    generation = generation_at us r

    -- a write above what the second holds is above what the first does
    lets_through : (version : ℕ) → IsBefore (mark_at u r k) (record { generation = generation; version = version }) → IsBefore (mark_at t r k) (record { generation = generation; version = version })
    lets_through version above = elim (entry_at t r k) as (λ o. entry_at t r k ≡ o → IsBefore (mark_held o) (record { generation = generation; version = version })) [
      | None ↦ λ _. record { generation = omega arith; version = λ same. omega (arith, above.version (omega (arith, above.generation, same))) }
      | Some e ↦ λ held. elim (cases_lt e.generation generation) [
        | inl older ↦ record { generation = omega (arith, older); version = λ same. absurd (omega (arith, older, same)) }
        | inr as_new ↦
            let alike = (beside.first.proper p (omega (arith, p_in, beside.first.tables.size))).copies r k e held in
            let limit = (copy-up_to writes nodes keys us beside.second p r p_in r_in).generation in
            let as_much = beside.as_much p r p_in r_in in
            up_to-before (mark_of e) (mark_at u r k) (record { generation = generation; version = version })
            (subst (λ o. IsUpTo (mark_held o) (mark_at u r k)) held (as_much.within k (omega (arith, alike, limit, as_new, as_much.greatest.generation)))) above
      ]
    ] refl

    abbrev staleness_if : Bool → Table → ℕ → Option ℕ
    staleness_if same v g = if same then None else staleness_of round g (writes_of_owner lists r) k (mark_at v r k)

    triple-le : (stale_count (staleness_at round us lists p r k) ≤ stale_count (staleness_at round ts lists p r k)) × (rounds_behind (staleness_at round us lists p r k) ≤ rounds_behind (staleness_at round ts lists p r k))
    triple-le = subst (λ g. (stale_count (staleness_if (eqb p r) u generation) ≤ stale_count (staleness_if (eqb p r) t g)) × (rounds_behind (staleness_if (eqb p r) u generation) ≤ rounds_behind (staleness_if (eqb p r) t g))) (sym (beside.generations r r_in))
        (elim (eqb p r) as (λ b. (stale_count (staleness_if b u generation) ≤ stale_count (staleness_if b t generation)) × (rounds_behind (staleness_if b u generation) ≤ rounds_behind (staleness_if b t generation))) [
          | true ↦ (omega arith, omega arith)
          | false ↦ less_stale generation k (mark_at t r k) (mark_at u r k) lets_through round (writes_of_owner lists r) (rise r r_in)
        ])

  sizes : length us ≡ length ts
  sizes = beside.second.tables.size ∙ sym beside.first.tables.size

  triples-le : (fold : ℕ → (ℕ → ℕ) → ℕ) → ((n : ℕ) (f g : ℕ → ℕ) → ((i : ℕ) → i < n → f i ≤ g i) → fold n f ≤ fold n g) → (f g : ℕ → ℕ → ℕ → ℕ) → ((p r k : ℕ) → p < nodes → r < nodes → f p r k ≤ g p r k) → fold (length us) (λ p. fold (length us) (λ r. fold (table_of_node us p).keys (f p r))) ≤ fold (length ts) (λ p. fold (length ts) (λ r. fold (table_of_node ts p).keys (g p r)))
  triples-le fold le f g each =
      subst (λ n. fold (length us) (λ p. fold (length us) (λ r. fold (table_of_node us p).keys (f p r))) ≤ fold n (λ p. fold n (λ r. fold (table_of_node ts p).keys (g p r)))) sizes
      (le (length us) (λ p. fold (length us) (λ r. fold (table_of_node us p).keys (f p r))) (λ p. fold (length us) (λ r. fold (table_of_node ts p).keys (g p r))) (λ p p_lt.
      le (length us) (λ r. fold (table_of_node us p).keys (f p r)) (λ r. fold (table_of_node ts p).keys (g p r)) (λ r r_lt.
      subst (λ n. fold (table_of_node us p).keys (f p r) ≤ fold n (g p r)) (same_keys p (in_nodes p_lt))
      (le (table_of_node us p).keys (f p r) (g p r) (λ k _. each p r k (in_nodes p_lt) (in_nodes r_lt))))))
    where
      in_nodes : {n : ℕ} → n < length us → n < nodes
      in_nodes lt = omega (arith, lt, beside.second.tables.size)

      same_keys : (p : ℕ) → p < nodes → (table_of_node us p).keys ≡ (table_of_node ts p).keys
      same_keys p lt = (beside.second.tables.tables p lt).keys ∙ sym (beside.first.tables.tables p lt).keys

  pub stale-le : (figures_of round us lists).stale ≤ (figures_of round ts lists).stale
  unfolding figures_of
  stale-le = triples-le sum_below sum_below-le (λ p r k. stale_count (staleness_at round us lists p r k)) (λ p r k. stale_count (staleness_at round ts lists p r k)) (λ p r k p_in r_in. (triple-le p r k p_in r_in).0)

  pub greatest-le : (figures_of round us lists).greatest ≤ (figures_of round ts lists).greatest
  unfolding figures_of
  greatest-le = triples-le most_below most_below-le (λ p r k. rounds_behind (staleness_at round us lists p r k)) (λ p r k. rounds_behind (staleness_at round ts lists p r k)) (λ p r k p_in r_in. (triple-le p r k p_in r_in).1)
