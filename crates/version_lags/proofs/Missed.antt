-- The first write that a copy misses, by numbers.
-- Serves `Lagging`, `Walks` and `version_tables`.
use Rattle.version_lags.proofs.Common.{◌≡◌, ℕ, zero, suc, ◌+◌, ◌-◌, ◌<◌, ◌≤◌, Bool, eqb, ltb, ◌&&◌, List, length, get_or, Some, None, ◌⊎◌, option_map, inl, inr, refl, sym, ap, ◌∙◌, arith, length-append, position_or_len, find_at, fails_before_first, passes_at_first, slice_get_cases, lt-ltb, ltb-true, eq-eqb, eqb-true, and_parts, get_or-append_right, get_or-map, length-map, Entry, absent, mark_of, mark_held, is_before, before-yes, Write, write_of_entry, OwnerListView, entries_of, written, AreWrites, write_numbered, BirthsRise, numbered-placed, numbered-some, numbered-within, numbers-compare, base_of, number_staleness, IsMissed, HasNoneMissed}

-- births don't fall with the numbers
pub numbers-born : (writes : List Entry) (rise : BirthsRise writes) (m n : ℕ) (d e : Entry)
    → write_numbered writes m ≡ Some d → write_numbered writes n ≡ Some e → m ≤ n → d.born ≤ e.born
numbers-born writes rise m n d e is_d is_e le =
    let first = numbered-placed writes m d is_d in let second = numbered-placed writes n e is_e in let born = λ (x : Entry). x.born in
    omega (arith, rise first.place second.place d (omega arith) second.within, ap born (first.there d), ap born (second.there d))

module _ (v : OwnerListView) (are : AreWrites v) where
  abbrev base : ℕ
  base = base_of v

  abbrev all : List Entry
  all = entries_of v

  -- a write of the generation
  pub record IsCurrent (number : ℕ) (e : Entry) : Type 0 where
    pub place : ℕ
    pub within : place < length (written v)
    pub is : number ≡ suc (base + place)
    pub there : (w : Write) → get_or (written v) place w ≡ write_of_entry e
    pub generation : e.generation ≡ v.generation
    pub version : number ≡ base + e.version

  pub current-numbered : (number : ℕ) (e : Entry) → write_numbered all number ≡ Some e → base < number → IsCurrent number e
  current-numbered number e is lt =
      let at = numbered-placed all number e is in let place = at.place - base in
      let within : place < length v.current = omega (arith, length-append v.earlier v.current) in
      let there : get_or v.current place e ≡ e = sym (get_or-append_right v.earlier v.current base at.place e refl (omega arith)) ∙ at.there e in
      let next = are.current place e within in
      record {
        place = place;
        within = omega (arith, within, length-map v.current write_of_entry);
        is = omega arith;
        there = λ w. get_or-map write_of_entry v.current place e w within ∙ ap write_of_entry there;
        generation = ap (λ (x : Entry). x.generation) (sym there) ∙ next.0;
        version = omega (arith, ap (λ (x : Entry). x.version) there);
      }

  module _ (rise : BirthsRise all) where
    -- a mark is below that of a write of the generation just where its number is
    before-number : (c m : ℕ) (e : Entry) → c ≤ length all → write_numbered all m ≡ Some e → IsCurrent m e
        → is_before (mark_held (write_numbered all c)) (mark_of e) ≡ ltb c m
    before-number zero m e le is at = before-yes absent (mark_of e) (record { generation = omega arith; version = λ same. omega arith })
        ∙ sym (lt-ltb 0 m (omega arith))
    before-number (suc i) m e le is at =
        let (d, here) = numbered-some all (suc i) (omega arith) le in
        ap (λ o. is_before (mark_held o) (mark_of e)) here ∙ numbers-compare all (record { rise = are.rising; born = rise }) (suc i) m d e here is

    module _ (key c : ℕ) (le : c ≤ length all) where
      test : Write → Bool
      test w = eqb w.key key && is_before (mark_held (write_numbered all c)) (record { generation = v.generation; version = w.version })

      -- just what is missed passes the test
      tested : (m : ℕ) (e : Entry) → write_numbered all m ≡ Some e → IsCurrent m e → test (write_of_entry e) ≡ (eqb e.key key && ltb c m)
      unfolding test
      tested m e is at =
          ap (λ g. eqb e.key key && is_before (mark_held (write_numbered all c)) (record { generation = g; version = e.version })) (sym at.generation)
          ∙ ap (λ b. eqb e.key key && b) (before-number c m e le is at)

      abbrev first : ℕ
      first = position_or_len test (written v)

      -- none stands before the first that passes
      none_before : (m : ℕ) (e : Entry) → IsMissed v key c m e → suc (base + first) ≤ m
      none_before m e missed =
          let at = current-numbered m e missed.written missed.current in let w = write_of_entry e in
          let passes = ap test (at.there w) ∙ tested m e missed.written at ∙ (λ i. eq-eqb e.key key missed.keyed i && lt-ltb c m missed.over i) in
          grind (arith, at.is, fails_before_first test (written v) at.place w)

      pub record HasMissed (round : ℕ) : Type 0 where
        pub number : ℕ
        pub e : Entry
        pub missed : IsMissed v key c number e
        pub first : (m : ℕ) (d : Entry) → IsMissed v key c m d → number ≤ m
        pub staleness : number_staleness round v key c ≡ Some (round - e.born + 1)

      -- nothing is missed, or there is a first write that is
      pub missed_cases : (round : ℕ) → (HasNoneMissed v key c × (number_staleness round v key c ≡ None)) ⊎ HasMissed round
      unfolding test
      missed_cases round =
          let behind = λ (w : Write). round - w.born + 1 in
          let size : length all ≡ base + length (written v) = omega (arith, length-map v.current write_of_entry, length-append v.earlier v.current) in
          elim (slice_get_cases (written v) first).1 [
            | inl found ↦
                let w = found.0 in let number = suc (base + first) in let (e, is) = numbered-some all number (omega arith) (omega arith) in
                let at = current-numbered number e is (omega arith) in
                let there : w ≡ write_of_entry e = sym found.3 ∙ ap (λ i. get_or (written v) i w) {y = at.place} (omega arith) ∙ at.there w in
                let passes = sym (tested number e is at) ∙ ap test (sym there ∙ sym found.3) ∙ passes_at_first test (written v) w found.1 in
                let parts = and_parts (eqb e.key key) (ltb c number) passes in
                inr (record {
                  number = number;
                  e = e;
                  missed = record { written = is; current = omega arith; keyed = eqb-true e.key key parts.0; over = ltb-true c number parts.1 };
                  first = none_before;
                  staleness = ap (option_map behind) (find_at test (written v) ∙ found.2) ∙ ap (λ x. Some (behind x)) there;
                })
            | inr past ↦ inl (
              λ m e missed. omega (arith, none_before m e missed, (numbered-within all m e missed.written).1),
              ap (option_map behind) (find_at test (written v) ∙ past.1),
            )
          ]
