-- The versions of a table in one list, owner by owner, and where each stands.
-- Serves `each_of_table` and `each_version`.
use Rattle.reconcile.proofs.Common.{◌≡◌, ◌≢◌, ℕ, zero, suc, ◌+◌, ◌*◌, ◌<◌, ◌≤◌, ◌⊎◌, List, [], ◌∷◌, length, get_or, set, cond, All, Some, None, inl, inr, refl, sym, ap, ◌∙◌, subst, arith, mul-le-mul_right, cases_lt, cases_eq, ne_eqb, get_or_default, get_or-set_same, get_or-set_other, length-set, All-head, All-tail, Contains-get_or, Entry, absent, mark_held, Table, entry_at, mark_at, generation_held, IsProper, AreAbove, AreGenerations}
use Rattle.reconcile.specs.Digests.{mark_with, version_index}
use Rattle.reconcile.specs.inner.Inside.{AreVersions, with_row}

-- an owner's keys are counted behind those of the owners before it
pub index-lt : (nodes keys owner key : ℕ) → owner < nodes → key < keys → version_index keys owner key < nodes * keys
index-lt nodes keys owner key lt fits =
    let step : (owner + 1) * keys ≤ nodes * keys = mul-le-mul_right keys (omega arith) in
    omega (arith, step)

-- so of two owners each has numbers of its own
index-owner : (keys owner key other_owner other_key : ℕ) → key < keys → other_key < keys → version_index keys owner key ≡ version_index keys other_owner other_key → (owner ≡ other_owner) × (key ≡ other_key)
index-owner keys owner key other_owner other_key in_key in_other e =
    elim (cases_lt owner other_owner) [
      | inl below ↦ let step : (owner + 1) * keys ≤ other_owner * keys = mul-le-mul_right keys (omega arith) in absurd (omega (arith, step, e))
      | inr at_least ↦ elim (cases_lt other_owner owner) [
        | inl above ↦ let step : (other_owner + 1) * keys ≤ owner * keys = mul-le-mul_right keys (omega arith) in absurd (omega (arith, step, e))
        | inr at_most ↦
            let same : owner ≡ other_owner = omega arith in
            let starts : owner * keys ≡ other_owner * keys = ap (λ o. o * keys) same in
            (same, omega (arith, starts, e))
      ]
    ]

-- some entry has the key
abbrev HasKey : List Entry → ℕ → Type 0
HasKey es key = (k : ℕ) × (k < length es) × ((d : Entry) → (get_or es k d).key ≡ key)

pub length-with_row : (start : ℕ) (es : List Entry) (vs : List ℕ) → length (with_row start es vs) ≡ length vs
length-with_row start [] vs = refl
length-with_row start (e ∷ es) vs = length-with_row start es (set vs (start + e.key) e.version) ∙ length-set vs (start + e.key) e.version

-- numbers of no entry stay
with_row-other : (start i : ℕ) (es : List Entry) (vs : List ℕ) → All (λ (e : Entry). start + e.key ≢ i) es → get_or (with_row start es vs) i 0 ≡ get_or vs i 0
with_row-other start i [] vs others = refl
with_row-other start i (e ∷ es) vs others =
    with_row-other start i es (set vs (start + e.key) e.version) (All-tail (λ (e : Entry). start + e.key ≢ i) e es others)
    ∙ get_or-set_other vs (start + e.key) i e.version 0 (λ same. All-head (λ (e : Entry). start + e.key ≢ i) e es others (sym same))

-- and a key's number becomes the version that its entries have
with_row-at : (start key version : ℕ) (es : List Entry) (vs : List ℕ) → start + key < length vs → All (λ (e : Entry). e.key ≡ key → e.version ≡ version) es → HasKey es key ⊎ (get_or vs (start + key) 0 ≡ version) → get_or (with_row start es vs) (start + key) 0 ≡ version
with_row-at start key version [] vs lt all (inl (k, in_range, is)) = absurd (omega arith)
with_row-at start key version [] vs lt all (inr already) = already
with_row-at start key version (e ∷ es) vs lt all there =
    with_row-at start key version es (set vs (start + e.key) e.version) (omega (arith, lt, length-set vs (start + e.key) e.version)) (All-tail (λ (e : Entry). e.key ≡ key → e.version ≡ version) e es all)
    (elim (cases_eq e.key key) [
      | inl same ↦ inr (subst (λ n. get_or (set vs (start + n) e.version) (start + key) 0 ≡ version) (sym same) (get_or-set_same vs (start + key) e.version 0 lt ∙ All-head (λ (e : Entry). e.key ≡ key → e.version ≡ version) e es all same))
      | inr differs ↦ later differs there
    ])
  where
    later : e.key ≢ key → HasKey (e ∷ es) key ⊎ (get_or vs (start + key) 0 ≡ version) → HasKey es key ⊎ (get_or (set vs (start + e.key) e.version) (start + key) 0 ≡ version)
    later differs (inl (zero, in_range, is)) = absurd (differs (is e))
    later differs (inl (suc k, in_range, is)) = inl (k, omega arith, is)
    later differs (inr already) = inr (get_or-set_other vs (start + e.key) (start + key) e.version 0 (λ same. differs (omega (arith, same))) ∙ already)

-- the versions of the owners below a bound stand in their places, and the others are 0
pub record AreFilled (t : Table) (bound : ℕ) (vs : List ℕ) : Type 0 where
  pub count : length vs ≡ t.nodes * t.keys
  pub done : (owner key : ℕ) → owner < bound → key < t.keys → get_or vs (version_index t.keys owner key) 0 ≡ (mark_at t owner key).version
  pub blank : (owner key : ℕ) → bound ≤ owner → owner < t.nodes → key < t.keys → get_or vs (version_index t.keys owner key) 0 ≡ 0

module _ (t : Table) (proper : IsProper t) where
  -- the next owner's row comes in
  module _ (owner start : ℕ) (row : List Entry) (vs : List ℕ) (lt : owner < t.nodes) (at : start ≡ owner * t.keys) (are : AreAbove t owner absent row) (so_far : AreFilled t owner vs) where
    row_held : (k : ℕ) (d : Entry) → k < length row → entry_at t owner (get_or row k d).key ≡ Some (get_or row k d)
    row_held k d in_range = (are.held (get_or row k d) (Contains-get_or row k d in_range)).0

    pub row-fits : All (λ (e : Entry). start + e.key < length vs) row
    row-fits k d in_range =
        omega (arith, index-lt t.nodes t.keys owner (get_or row k d).key lt (proper.in_place owner (get_or row k d).key (get_or row k d) (row_held k d in_range)).key_below, so_far.count)

    own_version : (key : ℕ) → key < t.keys → get_or (with_row start row vs) (start + key) 0 ≡ (mark_at t owner key).version
    own_version key fits =
        with_row-at start key (mark_at t owner key).version row vs (omega (arith, index-lt t.nodes t.keys owner key lt fits, so_far.count))
        (λ k d in_range same. sym (ap (λ h. (mark_held h).version) (subst (λ n. entry_at t owner n ≡ Some (get_or row k d)) same (row_held k d in_range))))
        (elim (entry_at t owner key) as (λ o. entry_at t owner key ≡ o → HasKey row key ⊎ (get_or vs (start + key) 0 ≡ (mark_held o).version)) [
          | None ↦ λ none. inr (ap (λ n. get_or vs n 0) {x = start + key} {y = version_index t.keys owner key} (omega arith) ∙ so_far.blank owner key (omega arith) lt fits)
          | Some e ↦ λ held.
              let place = proper.in_place owner key e held in
              let there = are.all key e held (record { generation = omega arith; version = λ _. place.written }) in
              inl (there.0, there.1, λ d. ap (λ (x : Entry). x.key) (get_or_default row there.0 d e there.1 ∙ there.2) ∙ place.keyed)
        ] refl)

    other_version : (other key : ℕ) → other ≢ owner → key < t.keys → get_or (with_row start row vs) (version_index t.keys other key) 0 ≡ get_or vs (version_index t.keys other key) 0
    other_version other key differs fits =
        with_row-other start (version_index t.keys other key) row vs
        (λ k d in_range e. differs (sym (index-owner t.keys owner (get_or row k d).key other key (proper.in_place owner (get_or row k d).key (get_or row k d) (row_held k d in_range)).key_below fits (omega (arith, e))).0))

    pub filled-more : AreFilled t (owner + 1) (with_row start row vs)
    filled-more = record {
      count = length-with_row start row vs ∙ so_far.count;
      done = λ other key below fits. elim (cases_eq other owner) [
        | inl same ↦
            ap (λ n. get_or (with_row start row vs) n 0) {x = version_index t.keys other key} {y = start + key} (omega (arith, ap (λ o. o * t.keys) same))
            ∙ own_version key fits
            ∙ ap (λ o. (mark_at t o key).version) (sym same)
        | inr differs ↦ other_version other key differs fits ∙ so_far.done other key (omega arith) fits
      ];
      blank = λ other key above below fits. other_version other key (omega arith) fits ∙ so_far.blank other key (omega arith) below fits;
    }

-- a table's versions with its generations are its marks
module _ (t : Table) (proper : IsProper t) (generations versions : List ℕ) (held : AreGenerations t generations) (are : AreVersions t versions) where
  pub marks_there : (owner key : ℕ) → owner < t.nodes → key < t.keys → mark_with (get_or generations owner 0) (get_or versions (version_index t.keys owner key) 0) ≡ mark_at t owner key
  marks_there owner key lt fits =
      (λ i. mark_with (held.held owner lt i) (are.each owner key lt fits i))
      ∙ elim (entry_at t owner key) as (λ o. entry_at t owner key ≡ o → mark_with (generation_held t owner) (mark_held o).version ≡ mark_held o) [
        | None ↦ λ _. refl
        | Some e ↦ λ there.
            let some : e.version ≢ 0 = λ none. absurd (omega (arith, none, (proper.in_place owner key e there).written)) in
            ap (λ b. cond b absent (record { generation = generation_held t owner; version = e.version })) (ne_eqb e.version 0 some)
            ∙ λ i. record { generation = sym (proper.copies owner key e there) i; version = e.version }
      ] refl
