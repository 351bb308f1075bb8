-- What laws conclude isn't so in small rings where what they ask for doesn't hold.
-- Serves `exchanges_come_whole` and `rings_grow_quiet`.
use Rattle.run_laws.proofs.Common.{◌≡◌, ◌∷◌, ℕ, zero, suc, ◌%◌, All, get_or, slice_get, filter, range_with_len, mod-lt, All-map, get_or_from_slice_get, slice_get_within, Exchange, begins, exchange_of, round_list_of, word_of, ◌<◌, ◌≤◌, Bool, true, false, if◌then◌else◌, [], Option, Some, None, length, inl, inr, refl, sym, ap, ◌∙◌, subst, arith, Contains, cases_lt, lt-ltb, Entry, absent, mark_held, IsUpTo, sum_below, most_below, Settings, IsLawfulScenario, Table, entry_at, mark_at, greatest_mark, greatest_version, greatest_mark-same, greatest_mark-none, table_of_node, generation_at, is_left_over, leftover_at, rounds_behind, staleness_at, staleness_of, generation_upto, own_write_at, written_upto, count_upto}
use Rattle.bench_types.specs.declared.exchanges.Mode.TheVariants.{ScuttleBreadth}
use Rattle.model.specs.Figures.{figures_of}
use Rattle.round_plan.specs.Outages.{forgets_now, is_up, restarts_now}
use Rattle.round_plan.specs.Writes.{writes_in}
use Rattle.limits.specs.declared.TheConstants.{MOST_LOSS}
use Rattle.run_laws.specs.Healing.{Moment, IsHealed}
use Rattle.played_rounds.specs.Lists.{list_after, lists_after}
use Rattle.played_rounds.specs.Outcomes.{figures_in}
use Rattle.run_laws.specs.Paths.{HandsOn, back, forth}
use Rattle.cluster.specs.Rounds.{tables_after}
use Rattle.run_laws.specs.calls.SmallRings.{ring_of_three, ring_that_loses}
use Rattle.run_laws.proofs.Moments.{sound}
use Rattle.run_laws.proofs.Rings.{rings_heal}
use Rattle.played_rounds.proofs.Soundness.{counts_after, round_rises}
use Rattle.run_laws.proofs.SmallRings.{none_held, none_meet, quiet, ring_lawful}

sum_below-has : (n : ℕ) (f : ℕ → ℕ) (i : ℕ) → i < n → f i ≤ sum_below n f
sum_below-has zero f i lt = absurd (omega (arith, lt))
sum_below-has (suc n) f i lt = elim (cases_lt i n) [
  | inl below ↦ omega (arith, sum_below-has n f i below)
  | inr last ↦ let is : i ≡ n = omega (arith, lt, last) in omega (arith, ap f is)
]

most_below-has : (n : ℕ) (f : ℕ → ℕ) (i : ℕ) → i < n → f i ≤ most_below n f
most_below-has zero f i lt = absurd (omega (arith, lt))
most_below-has (suc n) f i lt = elim (cases_lt i n) [
  | inl below ↦ omega (arith, most_below-has n f i below)
  | inr last ↦ let is : i ≡ n = omega (arith, lt, last) in omega (arith, ap f is)
]

-- one triple of three nodes is as much as all, or less
has_triple : (fold : ℕ → (ℕ → ℕ) → ℕ) → ((n : ℕ) (f : ℕ → ℕ) (i : ℕ) → i < n → f i ≤ fold n f) → (nodes p r k : ℕ) (keys : ℕ → ℕ) (f : ℕ → ℕ → ℕ → ℕ)
    → p < nodes → r < nodes → k < keys p → f p r k ≤ fold nodes (λ p. fold nodes (λ r. fold (keys p) (f p r)))
has_triple fold has nodes p r k keys f p_in r_in k_in =
    omega (
      arith,
      has nodes (λ p. fold nodes (λ r. fold (keys p) (f p r))) p p_in,
      has nodes (λ r. fold (keys p) (f p r)) r r_in,
      has (keys p) (f p r) k k_in,
    )

module _ (forget : Bool) where
  abbrev ring : Settings
  ring = ring_of_three forget

  lawful : IsLawfulScenario ring
  lawful = ring_lawful forget ScuttleBreadth

  abbrev table : ℕ → ℕ → Table
  table round n = table_of_node (tables_after ring round) n

  bounds : (round n : ℕ) → n < 3 → (length (tables_after ring round) ≡ 3) × ((table round n).keys ≡ 1)
  bounds round n lt =
      let tables = ((sound ring lawful).after round).copies.tables in
      (tables.size, (tables.tables n lt).keys)

  -- after round 1 node 1 lacks what node 2 has just written
  generation : generation_at (tables_after ring 1) 2 ≡ 0
  unfolding forgets_now
  generation = (counts_after ring lawful.nodes.0 lawful.nodes.1 lawful.keys.0 lawful.keys.1 1 2 (omega arith)).0

  lacks : mark_at (table 1 1) 2 0 ≡ absent
  lacks = ap mark_held (subst (λ ts. entry_at (table_of_node ts 1) 2 0 ≡ None) (none_meet forget) (none_held forget 1 (omega arith) 0))

  since_now : rounds_behind (staleness_of 1 0 (list_after ring 1 2) 0 absent) ≡ 1
  unfolding forgets_now is_up writes_in
  since_now = refl

  pub lags_now : 1 ≤ (figures_in ring 1).greatest
  unfolding figures_of
  lags_now =
      let size = bounds 1 1 (omega arith) in
      let triple : rounds_behind
      (staleness_at 1 (tables_after ring 1) (lists_after ring 1) 1 2 0) ≡ 1 = (λ i. rounds_behind
      (staleness_of 1 (generation i) (list_after ring 1 2) 0 (lacks i))) ∙ since_now in
      omega (
        arith,
        triple,
        has_triple most_below most_below-has (length (tables_after ring 1)) 1 2 0 (λ p. (table 1 p).keys)
            (λ p r k. rounds_behind (staleness_at 1 (tables_after ring 1) (lists_after ring 1) p r k)) (omega (arith, size.0))
            (omega (arith, size.0)) (omega (arith, size.1)),
      )

-- in round 4 node 0 forgets what node 1 still has
abbrev forgotten : Settings
forgotten = ring_of_three true

abbrev its : ℕ → ℕ → Table
its round n = table_of_node (tables_after forgotten round) n

its_lawful : IsLawfulScenario forgotten
its_lawful = ring_lawful true ScuttleBreadth

counts : (round : ℕ) → ((its round 0).generation ≡ generation_upto forgotten 0 round) × (greatest_version (its round 0) 0 ≡ count_upto forgotten 0 round)
counts round = counts_after forgotten its_lawful.nodes.0 its_lawful.nodes.1 its_lawful.keys.0 its_lawful.keys.1 round 0 (omega arith)

written_once : greatest_version (its 3 0) 0 ≡ 1
unfolding forgets_now is_up writes_in
written_once = (counts 3).1

forgotten_twice : generation_at (tables_after forgotten 4) 0 ≡ 2
unfolding forgets_now
forgotten_twice = (counts 4).0

stays_up : restarts_now forgotten 1 4 ≡ false
unfolding restarts_now
stays_up = refl

copied : greatest_mark (its 3 1) 0 ≡ greatest_mark (its 3 0) 0
copied =
    let tables = ((sound forgotten its_lawful).after 3).copies.tables.tables in
    let node : (its 3 0).node ≡ 0 = (tables 0 (omega arith)).node in
    let healed : IsHealed forgotten 3 = rings_heal forgotten its_lawful refl 1 (quiet true) in
    let fresh = healed.fresh 1 0 (omega arith) (omega arith) (subst (λ n. 1 ≤ greatest_version (its 3 0) n) (sym node) (omega (arith, written_once))) in
    greatest_mark-same (its 3 1) (its 3 0) 0 ((tables 1 (omega arith)).keys ∙ sym (tables 0 (omega arith)).keys)
    (λ key lt. ap mark_held (subst (λ n. entry_at (its 3 1) n key ≡ entry_at (its 3 0) n key) node (fresh key)))

kept : IsUpTo (greatest_mark (its 3 0) 0) (greatest_mark (its 4 1) 0)
kept =
    subst (λ m. IsUpTo m (greatest_mark (its 4 1) 0)) copied
    ((round_rises forgotten its_lawful.nodes.0 its_lawful.nodes.1 its_lawful.keys.0 its_lawful.keys.1 3 1 stays_up).greatest 0)

of_one : (w e : Entry) → Contains (w ∷ []) e → e.generation ≡ w.generation
of_one w e (zero, lt, is) = ap (λ (x : Entry). x.generation) (sym is)
of_one w e (suc k, lt, is) = absurd (omega (arith, lt))

early : (e : Entry) → Contains (written_upto forgotten 0 4) e → e.generation ≡ 1
unfolding forgets_now is_up writes_in
early e = of_one (own_write_at forgotten 0 1 0 0) e

is_old : (o : Option Entry) → entry_at (its 4 1) 0 0 ≡ o → is_left_over 2 o ≡ true
is_old None none =
    let keys : (its 4 1).keys ≡ 1 = (((sound forgotten its_lawful).after 4).copies.tables.tables 1 (omega arith)).keys in
    let nothing = greatest_mark-none (its 4 1) 0 (λ key lt. subst (λ k. entry_at (its 4 1) 0 k ≡ None) {x = 0} {y = key} (omega (arith, keys, lt)) none) in
    let upto : IsUpTo (greatest_mark (its 3 0) 0) absent = subst (IsUpTo (greatest_mark (its 3 0) 0)) nothing kept in
    absurd (omega (arith, upto.generation, upto.version (omega (arith, upto.generation)), written_once))
is_old (Some e) there =
    let old = early e (((sound forgotten its_lawful).after 4).copies.holds 1 (omega arith) 0 0 e there).0 in
    lt-ltb e.generation 2 (omega (arith, old))

pub left_over : 1 ≤ (figures_in forgotten 4).leftover
unfolding figures_of
left_over =
    let tables = ((sound forgotten its_lawful).after 4).copies.tables in
    let triple : leftover_at (tables_after forgotten 4) 1 0 0 ≡ 1 = (λ i. if is_left_over (forgotten_twice i) (entry_at (its 4 1) 0 0) then 1 else 0)
    ∙ ap (λ b. if b then 1 else 0) (is_old (entry_at (its 4 1) 0 0) refl) in
    omega (
      arith,
      triple,
      has_triple sum_below sum_below-has (length (tables_after forgotten 4)) 1 0 0 (λ p. (its 4 p).keys) (leftover_at (tables_after forgotten 4))
          (omega (arith, tables.size)) (omega (arith, tables.size)) (omega (arith, (tables.tables 1 (omega arith)).keys)),
    )

-- where all is lost nothing is handed on
pub losing_lawful : IsLawfulScenario ring_that_loses
losing_lawful =
    let l = ring_lawful false ScuttleBreadth in
    record {
      format = l.format;
      nodes = l.nodes;
      keys = l.keys;
      entries = l.entries;
      rounds = l.rounds;
      seed = l.seed;
      budget = l.budget;
      loss_ppm = omega arith;
      writes = l.writes;
      partitions = l.partitions;
      restarts = l.restarts;
      loads = l.loads;
    }

all_lost : (round : ℕ) → All (λ (e : Exchange). e.lost1 ≡ true) (round_list_of ring_that_loses round).exchanges
all_lost round =
    let nodes = filter (begins ring_that_loses round) (range_with_len 0 3) in
    All-map (λ (e : Exchange). e.lost1 ≡ true) (exchange_of ring_that_loses round) nodes (λ k d lt.
    let word = word_of ring_that_loses (get_or nodes k d) round 1 in lt-ltb (word % MOST_LOSS) 1000000 (mod-lt word (omega arith)))

lost_and_come : (m : Moment) (e : Exchange) → slice_get (round_list_of ring_that_loses m.round).exchanges m.exchanges ≡ Some e → e.lost1 ≡ false → ⊥
lost_and_come m e listed came =
    let exchanges = (round_list_of ring_that_loses m.round).exchanges in
    let is : get_or exchanges m.exchanges e ≡ e = get_or_from_slice_get exchanges m.exchanges e e listed in
    let lost : e.lost1 ≡ true = subst (λ (x : Exchange). x.lost1 ≡ true) is
    (all_lost m.round m.exchanges e (slice_get_within exchanges m.exchanges e listed)) in
    let both : true ≡ false = sym lost ∙ came in
    cc

pub hands_nothing : (m : Moment) (owner from to : ℕ) → HandsOn ring_that_loses m owner from to → ⊥
hands_nothing m owner _ _ (back e listed came1 came2 sends) = lost_and_come m e listed came1
hands_nothing m owner _ _ (forth e listed came sends) = lost_and_come m e listed came.0
