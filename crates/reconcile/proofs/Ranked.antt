-- The entries of a rank, where entries stand by version: a stretch of one version.
-- Serves `Parcel::add_entries`, `entries_ranked` and `SuffixLayers`.
use Rattle.reconcile.proofs.Common.{◌≡◌, ◌≢◌, ℕ, zero, suc, ◌+◌, ◌-◌, ◌<◌, ◌≤◌, Bool, true, false, eqb, ltb, List, [], ◌∷◌, length, take, drop, get_or, ◌⊎◌, inl, inr, refl, ap, ◌∙◌, arith, count_by, AllPairs, Less, Equal, Greater, nat_cmp, ordering_then, ranked, cases_lt, eq-eqb, ne_eqb, lt-ltb, le-ltb, Entry, StandsBefore, count_by-cons_true, count_by-cons_false, filter-stretch}
use Rattle.reconcile.specs.inner.Suffixes.{rank_in, entries_ranked}

abbrev pub no_entry : Entry
no_entry = record { key = 0; generation = 0; version = 0; value = 0; born = 0 }

module _ {X : Type 0} (p : X → Bool) where
  -- as many pass at least as pass without a gap from the front on
  pub count_by-front_ge : (xs : List X) (b : ℕ) → b ≤ length xs → ((i : ℕ) (d : X) → i < b → p (get_or xs i d) ≡ true) → b ≤ count_by p xs
  count_by-front_ge xs zero in_range holds = omega arith
  count_by-front_ge [] (suc b) in_range holds = absurd (omega arith)
  count_by-front_ge (x ∷ xs) (suc b) in_range holds =
      omega (arith, count_by-cons_true p x xs (holds 0 x (omega arith)), count_by-front_ge xs b (omega arith) (λ i d lt. holds (suc i) d (omega arith)))

  -- and at most as many as stand before all that fail
  pub count_by-front_le : (xs : List X) (b : ℕ) → ((i : ℕ) (d : X) → b ≤ i → i < length xs → p (get_or xs i d) ≡ false) → count_by p xs ≤ b
  count_by-front_le [] b fails = omega arith
  count_by-front_le (x ∷ xs) zero fails =
      omega (arith, count_by-cons_false p x xs (fails 0 x (omega arith) (omega arith)), count_by-front_le xs 0 (λ i d from lt. fails (suc i) d (omega arith) (omega arith)))
  count_by-front_le (x ∷ xs) (suc b) fails =
      let rest = count_by-front_le xs b (λ i d from lt. fails (suc i) d (omega arith) (omega arith)) in
      elim (p x) as (λ c. p x ≡ c → count_by p (x ∷ xs) ≤ suc b) [
        | true ↦ λ e. omega (arith, rest, count_by-cons_true p x xs e)
        | false ↦ λ e. omega (arith, rest, count_by-cons_false p x xs e)
      ] refl

-- what stands before another has no greater version
before-le : (d e : Entry) → StandsBefore d e → d.version ≤ e.version
before-le d e before =
    elim (nat_cmp d.version e.version) as (λ r. r ≡ nat_cmp d.version e.version → ordering_then r (nat_cmp d.key e.key) ≡ Less → d.version ≤ e.version) [
      | Less ↦ λ is h. omega (arith, ranked d.version e.version Less is)
      | Equal ↦ λ is h. omega (arith, ranked d.version e.version Equal is)
      | Greater ↦ λ is h. cc
    ] refl before

module _ (es : List Entry) (rising : AllPairs StandsBefore es) where
  pub versions-rise : (i j : ℕ) (d : Entry) → i ≤ j → j < length es → (get_or es i d).version ≤ (get_or es j d).version
  versions-rise i j d le lt = elim (cases_lt i j) [
    | inl before ↦ before-le (get_or es i d) (get_or es j d) (rising i j d before lt)
    | inr not_before ↦ omega (arith, ap (λ n. (get_or es n d).version) {x = i} {y = j} (omega arith))
  ]

  -- the rank of an entry is at most its index
  pub rank-le : (i b : ℕ) (d : Entry) → b ≤ i → i < length es → ((j : ℕ) → b ≤ j → j < length es → (get_or es i d).version ≤ (get_or es j d).version) → rank_in es (get_or es i d).version ≤ b
  rank-le i b d le lt above = count_by-front_le (λ (e : Entry). ltb e.version (get_or es i d).version) es b
      (λ j e from in_range. ap (λ (x : Entry). ltb x.version (get_or es i d).version) (Rattle.std.proofs.lemmas.List.get_or_default es j e d in_range) ∙ le-ltb (get_or es j d).version (get_or es i d).version (above j from in_range))

  rank-ge : (i b : ℕ) (d : Entry) → b ≤ length es → ((j : ℕ) → j < b → (get_or es j d).version < (get_or es i d).version) → b ≤ rank_in es (get_or es i d).version
  rank-ge i b d in_range below = count_by-front_ge (λ (e : Entry). ltb e.version (get_or es i d).version) es b in_range
      (λ j e lt. ap (λ (x : Entry). ltb x.version (get_or es i d).version) (Rattle.std.proofs.lemmas.List.get_or_default es j e d (omega arith)) ∙ lt-ltb (get_or es j d).version (get_or es i d).version (below j lt))

  abbrev has_rank : ℕ → Entry → Bool
  has_rank rank e = eqb (rank_in es e.version) rank

  -- none has the rank of an index beyond the end
  pub ranked-beyond : (rank : ℕ) → length es ≤ rank → entries_ranked rank es ≡ []
  ranked-beyond rank beyond =
      filter-stretch (has_rank rank) es 0 0 (omega arith) (omega arith) (λ i d from to. absurd (omega arith))
      (λ i d lt _. ne_eqb (rank_in es (get_or es i d).version) rank (λ e. absurd (omega (arith, e, rank-le i i d (omega arith) lt (λ j from in_range. versions-rise i j d from in_range)))))

  -- nor has one that of an index where the version is the one before
  pub ranked-tied : (rank : ℕ) (d : Entry) → 0 < rank → rank < length es → (get_or es (rank - 1) d).version ≡ (get_or es rank d).version → entries_ranked rank es ≡ []
  ranked-tied rank d some in_range tied =
      filter-stretch (has_rank rank) es 0 0 (omega arith) (omega arith) (λ i e from to. absurd (omega arith))
      (λ i e lt _. ap (λ (x : Entry). has_rank rank x) (Rattle.std.proofs.lemmas.List.get_or_default es i e d lt) ∙ ne_eqb (rank_in es (get_or es i d).version) rank (λ is. absurd (differs i lt is)))
    where
      differs : (i : ℕ) → i < length es → rank_in es (get_or es i d).version ≡ rank → ⊥
      differs i lt is = elim (cases_lt (get_or es rank d).version (get_or es i d).version) [
        | inl above ↦ omega (arith, is, rank-ge i (rank + 1) d (omega arith) (λ j below. omega (arith, above, versions-rise j rank d (omega arith) in_range)))
        | inr not_above ↦ elim (cases_lt i rank) [
          | inl before ↦ omega (arith, is, before, rank-le i i d (omega arith) lt (λ j from in_j. versions-rise i j d from in_j))
          | inr behind ↦ omega (arith, is, some, rank-le i (rank - 1) d (omega arith) lt (λ j from in_j. omega (arith, not_above, tied, versions-rise (rank - 1) j d from in_j)))
        ]
      ]

  -- else those from that index on have it that have the version
  pub ranked-from : (rank end : ℕ) (d : Entry) → rank < end → end ≤ length es → (rank ≡ 0) ⊎ ((get_or es (rank - 1) d).version ≢ (get_or es rank d).version) → ((i : ℕ) → rank ≤ i → i < end → (get_or es i d).version ≡ (get_or es rank d).version) → (end ≡ length es) ⊎ ((get_or es end d).version ≢ (get_or es rank d).version) → entries_ranked rank es ≡ take (end - rank) (drop rank es)
  ranked-from rank end d some in_range begins same ends =
      filter-stretch (has_rank rank) es rank end (omega arith) in_range
      (λ i e from to. ap (λ (x : Entry). has_rank rank x) (Rattle.std.proofs.lemmas.List.get_or_default es i e d (omega arith)) ∙ eq-eqb (rank_in es (get_or es i d).version) rank (is_rank i from to))
      (λ i e lt outside. ap (λ (x : Entry). has_rank rank x) (Rattle.std.proofs.lemmas.List.get_or_default es i e d lt) ∙ ne_eqb (rank_in es (get_or es i d).version) rank (differs i lt outside))
    where
      older : (j : ℕ) → j < rank → (get_or es j d).version < (get_or es rank d).version
      older j lt = elim begins [
        | inl first ↦ absurd (omega arith)
        | inr differ ↦
            let one = versions-rise j (rank - 1) d (omega arith) (omega arith) in
            let two = versions-rise (rank - 1) rank d (omega arith) (omega arith) in
            elim (cases_lt (get_or es (rank - 1) d).version (get_or es rank d).version) [
              | inl less ↦ omega (arith, one, less)
              | inr not_less ↦ absurd (differ (omega (arith, two, not_less)))
            ]
      ]

      newer : (i : ℕ) → end ≤ i → i < length es → (get_or es rank d).version < (get_or es i d).version
      newer i from lt = elim ends [
        | inl all ↦ absurd (omega arith)
        | inr differ ↦
            let one = versions-rise end i d from lt in
            let two = versions-rise rank end d (omega arith) (omega arith) in
            elim (cases_lt (get_or es rank d).version (get_or es end d).version) [
              | inl less ↦ omega (arith, one, less)
              | inr not_less ↦ absurd (differ (omega (arith, two, not_less)))
            ]
      ]

      is_rank : (i : ℕ) → rank ≤ i → i < end → rank_in es (get_or es i d).version ≡ rank
      is_rank i from to =
          let here = same i from to in
          let most = rank-le i rank d from (omega arith) (λ j at in_j. omega (arith, here, versions-rise rank j d at in_j)) in
          let least = rank-ge i rank d (omega arith) (λ j lt. omega (arith, here, older j lt)) in
          omega (arith, most, least)

      differs : (i : ℕ) → i < length es → (i < rank) ⊎ (end ≤ i) → rank_in es (get_or es i d).version ≢ rank
      differs i lt (inl early) is = absurd (omega (arith, is, early, rank-le i i d (omega arith) lt (λ j from in_j. versions-rise i j d from in_j)))
      differs i lt (inr late) is =
          let up = newer i late lt in
          absurd (omega (
            arith,
            is,
            some,
            rank-ge i end d in_range (λ j below. elim (cases_lt j rank) [
              | inl before ↦ omega (arith, older j before, up)
              | inr within ↦ omega (arith, same j within below, up)
            ]),
          ))
