-- How long copies have been behind, by the numbers that they hold: the least number has been longest.
-- Serves `Pieces`, `Walks` and `Whole`.
use Rattle.version_lags.proofs.Common.{◌≡◌, ℕ, zero, suc, ◌+◌, ◌-◌, ◌<◌, ◌≤◌, min, max, ◌&&◌, List, length, get_or, Some, None, if◌then◌else◌, option_map, inl, inr, refl, sym, ap, ◌∙◌, arith, nat_lt, nat_le, nat_tests, reverse, is_write_of, position_or_len, find_at, find_passes, fails_before_first, slice_get-get_or, eq-eqb, eqb-true, get_or-reverse, length-reverse, length-map, get_or_append_left, same_Some, get_or-map, Entry, Table, entry_at, IsProper, Write, write_of_entry, last_write, OwnerListView, entries_of, written, AreWrites, write_numbered, BirthsRise, StandsBeside, is_left_over, most_below, stale_count, rounds_behind, numbered-placed, numbered-some, base_of, number_staleness, IsMissed, IsLastNumber, least_below}
use Rattle.version_lags.proofs.Missed.{numbers-born, current-numbered, missed_cases}

module _ (v : OwnerListView) (are : AreWrites v) where
  abbrev all : List Entry
  all = entries_of v

  module _ (rise : BirthsRise all) (round key : ℕ) where
    abbrev lag : ℕ → ℕ
    lag number = rounds_behind (number_staleness round v key number)

    -- what a greater number misses, a lesser one does too
    missed-of : (c d m : ℕ) (e : Entry) → IsMissed v key c m e → d ≤ c → IsMissed v key d m e
    missed-of c d m e missed le = record { written = missed.written; current = missed.current; keyed = missed.keyed; over = omega arith }

    -- at the last write, or above it
    pub last_fresh : (last c : ℕ) → IsLastNumber v key last → last ≤ c → c ≤ length all → number_staleness round v key c ≡ None
    last_fresh last c is le within = elim (missed_cases v are rise key c within round) [
      | inl nothing ↦ nothing.1
      | inr found ↦ absurd (is.last found.number found.e (missed-of c last _ _ found.missed le))
    ]

    -- a copy is stale just where its number is below the last one
    pub stale_by_number : (last c : ℕ) → IsLastNumber v key last → c ≤ length all
        → stale_count (number_staleness round v key c) ≡ (if nat_lt c last then 1 else 0)
    stale_by_number last c is within = elim (missed_cases v are rise key c within round) [
      | inl none ↦ let upto = λ (below : c < last). none.0 last (is.there c below).0 (is.there c below).1 in rw none.1 (grind (arith, nat_tests))
      | inr found ↦
          let below = λ (le : last ≤ c). is.last found.number found.e (missed-of c last _ _ found.missed le) in
          rw found.staleness (grind (arith, nat_tests))
    ]

    -- no longer than since any write that may be missed, and as long as since each that is
    pub lag-upto : (c most : ℕ) → c ≤ length all → ((m : ℕ) (e : Entry) → IsMissed v key c m e → round - e.born + 1 ≤ most) → lag c ≤ most
    lag-upto c most within upto = elim (missed_cases v are rise key c within round) [
      | inl none ↦ omega (arith, ap rounds_behind none.1)
      | inr found ↦ omega (arith, ap rounds_behind found.staleness, upto found.number found.e found.missed)
    ]

    pub lag-since : (c m : ℕ) (e : Entry) → c ≤ length all → IsMissed v key c m e → round - e.born + 1 ≤ lag c
    lag-since c m e within missed = elim (missed_cases v are rise key c within round) [
      | inl none ↦ absurd (none.0 m e missed)
      | inr found ↦
          omega (arith, ap rounds_behind found.staleness, numbers-born all rise _ m _ e found.missed.written missed.written (found.first m e missed))
    ]

    -- one with a greater number hasn't been behind for longer
    lag-falls : (c d : ℕ) → c ≤ d → d ≤ length all → lag d ≤ lag c
    lag-falls c d le within = lag-upto d (lag c) within (λ m e missed. lag-since c m e (omega arith) (missed-of d c m e missed le))

    -- so the lesser of two has been longest
    lag-least : (c d : ℕ) → c ≤ length all → d ≤ length all → max (lag c) (lag d) ≡ lag (min c d)
    lag-least c d in_c in_d =
        let one = λ (le : c ≤ d). lag-falls c d le in_d in let other = λ (le : d ≤ c). lag-falls d c le in_c in
        grind arith

    pub lag-least_below : (f : ℕ → ℕ) (last n : ℕ) → IsLastNumber v key last → ((p : ℕ) → p < n → f p ≤ length all)
        → (least_below n f last ≤ length all) × (most_below n (λ p. lag (f p)) ≡ lag (least_below n f last))
    lag-least_below f last zero is within = (is.written, sym (ap rounds_behind (last_fresh last last is (omega arith) is.written)))
    lag-least_below f last (suc n) is within =
        let before = lag-least_below f last n is (λ p lt. within p (omega arith)) in let here = within n (omega arith) in
        (omega arith, ap (λ m. max m (lag (f n))) before.1 ∙ lag-least (least_below n f last) (f n) before.0 here)

  -- what is of an earlier generation
  earlier-numbered : (m : ℕ) (e : Entry) → write_numbered all m ≡ Some e → m ≤ base_of v → e.generation < v.generation
  earlier-numbered m e is le =
      let at = numbered-placed all m e is in let earlier : at.place < base_of v = omega arith in
      let there = sym (get_or_append_left v.earlier v.current e at.place earlier) ∙ at.there e in
      omega (arith, are.earlier at.place e earlier, ap (λ (x : Entry). x.generation) there)

  pub left_over-by_number : (c : ℕ) → c ≤ length all → is_left_over v.generation (write_numbered all c) ≡ (nat_lt 0 c && nat_le c (base_of v))
  left_over-by_number zero le = refl
  left_over-by_number (suc i) le =
      let (e, is) = numbered-some all (suc i) (omega arith) le in
      let later = λ (above : base_of v < suc i). (current-numbered v are (suc i) e is above).generation in let earlier = earlier-numbered (suc i) e is in
      rw is (grind (arith, nat_tests))

  -- the last write of a key has the number of each other one, or a greater one
  last-from : (m : ℕ) (e : Entry) → write_numbered all m ≡ Some e → base_of v < m
      → (w : Write) × ((last_write (written v) e.key ≡ Some w) × (m ≤ base_of v + w.version))
  last-from m e is current =
      let at = current-numbered v are m e is current in let ws = written v in let d = write_of_entry e in let test = is_write_of e.key in
      let back = reverse ws in let first = position_or_len test back in let turned = length ws - 1 - at.place in
      let same : length ws - 1 - turned ≡ at.place = omega arith in
      let there = get_or-reverse ws turned d (omega arith) ∙ ap (λ k. get_or ws k d) same ∙ at.there d in
      let passes = eq-eqb (get_or back turned d).key e.key (ap (λ (w : Write). w.key) there) in
      let upto : first ≤ turned = grind (arith, fails_before_first test back turned d) in
      let place = length ws - 1 - first in let within : place < length v.current = omega (arith, length-map v.current write_of_entry) in
      let here = get_or-reverse ws first d (omega arith) ∙ get_or-map write_of_entry v.current place e d within in
      let version = ap (λ (w : Write). w.version) here in (
        get_or back first d,
        (
          find_at test back ∙ slice_get-get_or back first d (omega (arith, length-reverse ws)),
          omega (arith, (are.current place e within).1),
        ),
      )

  -- a table that has the last writes
  module _ (t : Table) (proper : IsProper t) (beside : StandsBeside t v) where
    -- each key that the owner wrote is one that its table has
    pub key_held : (m : ℕ) (d : Entry) → write_numbered all m ≡ Some d → base_of v < m → d.key < t.keys
    key_held m d is current = elim (entry_at t t.node d.key) as (λ o. entry_at t t.node d.key ≡ o → d.key < t.keys) [
      | Some x ↦ λ held. (proper.in_place t.node d.key x held).key_below
      | None ↦ λ none.
          let last = last-from m d is current in let no : None ≡ Some last.0 = ap (option_map write_of_entry) (sym none) ∙ beside.own_part d.key ∙ last.1.0 in
          cc
    ] refl

    -- the owner's own number is that of its last write of the key
    pub own_is_last : (key c : ℕ) → entry_at t t.node key ≡ write_numbered all c → c ≤ length all → IsLastNumber v key c
    own_is_last key c held within = record {
      written = within;
      last = λ m d missed.
          let last = last-from m d missed.written missed.current in
          elim (write_numbered all c) as (λ o. write_numbered all c ≡ o → option_map write_of_entry o ≡ Some last.0 → ⊥) [
            | None ↦ λ _ no. absurd (cc)
            | Some e ↦ λ is one.
                let same = ap (λ (w : Write). w.version) (same_Some (write_of_entry e) last.0 one) in
                omega (arith, same, (current-numbered v are c e is (newer e is)).version)
          ] refl (found ∙ ap (last_write (written v)) (sym missed.keyed) ∙ last.1.0);
      there = λ below lt.
          let here = numbered-some all c (omega arith) within in
          let passes = find_passes (is_write_of key) (reverse (written v)) (write_of_entry here.0) (sym found ∙ ap (option_map write_of_entry) here.1) in
          (here.0, record { written = here.1; current = newer here.0 here.1; keyed = eqb-true here.0.key key passes; over = lt });
    }
      where
        found : option_map write_of_entry (write_numbered all c) ≡ last_write (written v) key
        found = ap (option_map write_of_entry) (sym held) ∙ beside.own_part key

        newer : (e : Entry) → write_numbered all c ≡ Some e → base_of v < c
        newer e is = grind (arith, earlier-numbered c e is, proper.own key e (held ∙ is), beside.generation)
