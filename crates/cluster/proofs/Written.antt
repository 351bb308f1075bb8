-- All writes of an owner up to a round: when they were born, and by which numbers they stand among those of the run.
-- Serves `Standing` and `run_laws`.
use Rattle.cluster.proofs.Common.{◌≡◌, ℕ, zero, suc, ◌+◌, ◌-◌, ◌<◌, ◌≤◌, All, List, [], ◌∷◌, ◌++◌, length, get_or, Some, inl, inr, refl, sym, ap, ◌∙◌, arith, append_assoc, length-append, add-one, get_or-append, cases_eq, cases_lt, append-nil, get_or-append_right, All-nil, All-append, All-weaker, Entry, write_from, write_numbered, count_before, own_writes, written_upto, born-own_writes, written_upto-grown, Settings, BirthsRise}
use Rattle.cluster.specs.calls.Standing.{MayWriteAll}
use Rattle.cluster.specs.inner.Steps.{MayWriteEach}

-- none was born later
pub born_upto : (s : Settings) (n round : ℕ) → All (λ e. e.born ≤ round) (written_upto s n round)
born_upto s n zero = All-nil (λ (e : Entry). e.born ≤ 0)
born_upto s n (suc round) =
    All-append (λ (e : Entry). e.born ≤ suc round) (written_upto s n round) (own_writes s n (suc round) (count_before s n (suc round)))
    (All-weaker (λ (e : Entry). e.born ≤ round) (λ (e : Entry). e.born ≤ suc round) (λ e le. omega arith) (written_upto s n round) (born_upto s n round))
    (All-weaker (λ (e : Entry). e.born ≡ suc round) (λ (e : Entry). e.born ≤ suc round) (λ e is. omega (arith, is)) (own_writes s n (suc round) (count_before s n (suc round))) (born-own_writes s n (suc round) (count_before s n (suc round))))

-- those of the next round behind them
births-append : (xs ys : List Entry) (round : ℕ) → BirthsRise xs → All (λ e. e.born ≤ round) xs → All (λ e. e.born ≡ suc round) ys → BirthsRise (xs ++ ys)
births-append xs ys round rise before now i j d le lt = elim (cases_lt j (length xs)) [
  | inl early ↦
      let at_i = ap (λ (e : Entry). e.born) (get_or-append xs ys d i (omega arith)) in
      let at_j = ap (λ (e : Entry). e.born) (get_or-append xs ys d j early) in
      omega (arith, at_i, at_j, rise i j d le early)
  | inr late ↦
      let at_j = ap (λ (e : Entry). e.born) (get_or-append_right xs ys (length xs) j d refl late) in
      let born_j = now (j - length xs) d (omega (arith, late, lt, length-append xs ys)) in
      elim (cases_lt i (length xs)) [
        | inl early ↦
            let at_i = ap (λ (e : Entry). e.born) (get_or-append xs ys d i early) in
            omega (arith, at_i, at_j, born_j, before i d early)
        | inr both ↦
            let at_i = ap (λ (e : Entry). e.born) (get_or-append_right xs ys (length xs) i d refl both) in
            let born_i = now (i - length xs) d (omega (arith, both, le, lt, length-append xs ys)) in
            omega (arith, at_i, at_j, born_i, born_j)
      ]
]

-- and births never fall
pub births_rise : (s : Settings) (n round : ℕ) → BirthsRise (written_upto s n round)
births_rise s n zero = λ i j d le lt. absurd (omega arith)
births_rise s n (suc round) =
    births-append (written_upto s n round) (own_writes s n (suc round) (count_before s n (suc round))) round (births_rise s n round) (born_upto s n round) (born-own_writes s n (suc round) (count_before s n (suc round)))

-- later rounds add to them
rest_after : (s : Settings) (n round last : ℕ) → round ≤ last → (rest : List Entry) × (written_upto s n last ≡ written_upto s n round ++ rest)
rest_after s n round zero le = ([], ap (written_upto s n) {x = zero} {y = round} (omega arith) ∙ sym (append-nil (written_upto s n round)))
rest_after s n round (suc last) le = elim (cases_eq round (suc last)) [
  | inl same ↦ ([], ap (written_upto s n) (sym same) ∙ sym (append-nil (written_upto s n round)))
  | inr other ↦
      let earlier = rest_after s n round last (omega (arith, le, other)) in
      let more = own_writes s n (suc last) (count_before s n (suc last)) in
      (earlier.0 ++ more, ap (λ ws. ws ++ more) earlier.1 ∙ append_assoc (written_upto s n round) earlier.0 more)
]

numbered_from : (ws : List Entry) (place : ℕ) (d : Entry) → place < length ws → write_from ws place ≡ Some (get_or ws place d)
numbered_from [] place d lt = absurd (omega arith)
numbered_from (e ∷ es) zero d lt = refl
numbered_from (e ∷ es) (suc place) d lt = numbered_from es place d (omega arith)

numbered : (ws : List Entry) (place : ℕ) (d : Entry) → place < length ws → write_numbered ws (place + 1) ≡ Some (get_or ws place d)
numbered ws place d lt = ap (write_numbered ws) (add-one place) ∙ numbered_from ws place d lt

-- the writes of a round stand among those of the run
pub may_write_each : (May : ℕ → ℕ → Entry → Type 0) (s : Settings) (n round : ℕ) → MayWriteAll May s → n < s.nodes → 1 ≤ round → round ≤ s.rounds → MayWriteEach May n (length (written_upto s n (round - 1))) (own_writes s n round (count_before s n round))
may_write_each May s n round all below first last i d lt = all n (length before + i + 1) (get_or now i d) below there
  where
    before : List Entry
    before = written_upto s n (round - 1)

    now : List Entry
    now = own_writes s n round (count_before s n round)

    later : (rest : List Entry) × (written_upto s n s.rounds ≡ written_upto s n round ++ rest)
    later = rest_after s n round s.rounds last

    within : length before + i < length (before ++ now)
    within = omega (arith, lt, length-append before now)

    written : written_upto s n s.rounds ≡ (before ++ now) ++ later.0
    written = later.1 ∙ ap (λ ws. ws ++ later.0) (written_upto-grown s n round (count_before s n round) first refl)

    there : write_numbered (written_upto s n s.rounds) (length before + i + 1) ≡ Some (get_or now i d)
    there =
        ap (λ ws. write_numbered ws (length before + i + 1)) written
        ∙ numbered ((before ++ now) ++ later.0) (length before + i) d (omega (arith, within, length-append (before ++ now) later.0))
        ∙ ap Some (get_or-append (before ++ now) later.0 d (length before + i) within
        ∙ get_or-append_right before now (length before) (length before + i) d refl (omega arith)
        ∙ ap (λ k. get_or now k d) {x = length before + i - length before} {y = i} (omega arith))
