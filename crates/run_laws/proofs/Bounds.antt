-- Where all that was written as a round began has come to all others, nothing is stale for longer than since then.
-- Serves `staleness_is_bounded`.
use Rattle.run_laws.proofs.Common.{◌≡◌, ◌≢◌, ℕ, zero, suc, ◌+◌, ◌-◌, ◌<◌, ◌≤◌, Bool, true, false, ◌&&◌, cond, eqb, if◌then◌else◌, List, [], ◌∷◌, length, map, Option, Some, None, option_map, inl, inr, refl, sym, ap, ◌∙◌, subst, arith, Contains, cases_eq, cases_lt, and_parts, eqb-true, All-contains, Contains-append_cases, get_or-map-range_with_len, same_Some, Entry, Mark, mark_of, mark_held, is_before, IsBefore, IsUpTo, most_below, before-true, before-up_to, not_both, up_to-then, Settings, IsLawfulScenario, Table, entry_at, mark_at, greatest_mark, IsProper, table_of_node, AreCopiesOf, Write, writes_of_owner, generation_at, staleness_of, staleness_at, rounds_behind, write_of_entry, first_above, copy-up_to, mark_at-up_to_greatest, generation_upto, round_list_of, count_before, own_writes, writes_upto, written_upto, generation_upto-rises, born-own_writes, next-writes_upto, born-writes_upto, written-writes_upto}
use Rattle.model.specs.Figures.{figures_of}
use Rattle.run_laws.specs.CatchingUp.{AllArePassedOn, StalenessIsBounded}
use Rattle.run_laws.specs.Floors.{CutsNothingUpTo}
use Rattle.played_rounds.specs.Lists.{list_after, lists_after}
use Rattle.played_rounds.specs.Outcomes.{figures_in}
use Rattle.run_laws.specs.Paths.{next_moment}
use Rattle.cluster.specs.Rounds.{begun, tables_after}
use Rattle.played_rounds.specs.Soundness.{writes_by}
use Rattle.run_laws.proofs.Best.{begun_generation}
use Rattle.run_laws.proofs.CatchingUp.{paths_catch_up}
use Rattle.run_laws.proofs.Floors.{copies_after, copies_begun, states_after, uncut_rows}
use Rattle.run_laws.proofs.Moments.{not_after, sound}
use Rattle.played_rounds.proofs.Soundness.{counts_after}

-- what was written by a round stands among the writes up to it
written_by : (s : Settings) (owner from to : ℕ) (e : Entry) → from ≤ to → e.born ≤ from → Contains (written_upto s owner to) e → Contains (written_upto s owner from) e
written_by s owner from zero e le early there = subst (λ t. Contains (written_upto s owner t) e) {x = zero} {y = from} (omega (arith, le)) there
written_by s owner from (suc to) e le early there = elim (cases_eq from (suc to)) [
  | inl same ↦ subst (λ t. Contains (written_upto s owner t) e) (sym same) there
  | inr other ↦ elim (Contains-append_cases (written_upto s owner to) (own_writes s owner (suc to) (count_before s owner (suc to))) e there) [
    | inl before ↦ written_by s owner from to e (omega (arith, le, other)) early before
    | inr now ↦ absurd (omega (arith, le, other, early, All-contains (λ (d : Entry). d.born ≡ suc to) (own_writes s owner (suc to) (count_before s owner (suc to))) e (born-own_writes s owner (suc to) (count_before s owner (suc to))) now))
  ]
]

-- what is found above a mark
record IsFound (generation key : ℕ) (mark : Mark) (es : List Entry) (w : Write) (e : Entry) : Type 0 where
  stands : Contains es e
  is : write_of_entry e ≡ w
  keyed : e.key ≡ key
  above : IsBefore mark (record { generation = generation; version = e.version })

found_above : (generation key : ℕ) (mark : Mark) (es : List Entry) (w : Write) → first_above generation (map write_of_entry es) key mark ≡ Some w → (e : Entry) × IsFound generation key mark es w e
found_above generation key mark [] w is = cc
found_above generation key mark (x ∷ xs) w is = elim (eqb x.key key && is_before mark (record { generation = generation; version = x.version })) as (λ b. (eqb x.key key && is_before mark (record { generation = generation; version = x.version })) ≡ b → cond b (Some (write_of_entry x)) (first_above generation (map write_of_entry xs) key mark) ≡ Some w → (e : Entry) × IsFound generation key mark (x ∷ xs) w e) [
  | true ↦ λ passes here.
      let parts = and_parts (eqb x.key key) (is_before mark (record { generation = generation; version = x.version })) passes in (
        x,
        record {
          stands = (0, omega arith, refl);
          is = same_Some (write_of_entry x) w here;
          keyed = eqb-true x.key key parts.0;
          above = before-true mark (record { generation = generation; version = x.version }) parts.1;
        },
      )
  | false ↦ λ _ later.
      let rest = found_above generation key mark xs w later in (
        rest.0,
        record {
          stands = (suc rest.1.stands.0, omega (arith, rest.1.stands.1), rest.1.stands.2);
          is = rest.1.is;
          keyed = rest.1.keyed;
          above = rest.1.above;
        },
      )
] refl is

-- the mark of what is held is up to the greatest of its owner
held_up_to : (t : Table) (owner key : ℕ) (e : Entry) → IsProper t → entry_at t owner key ≡ Some e → IsUpTo (mark_of e) (greatest_mark t owner)
held_up_to t owner key e proper held =
    subst (λ h. IsUpTo (mark_held h) (greatest_mark t owner)) held (mark_at-up_to_greatest t owner key (proper.in_place owner key e held).key_below)

most_below-bound : (n most : ℕ) (f : ℕ → ℕ) → ((i : ℕ) → i < n → f i ≤ most) → most_below n f ≤ most
most_below-bound zero most f le = omega arith
most_below-bound (suc n) most f le = omega (arith, most_below-bound n most f (λ i lt. le i (omega (arith, lt))), le n (omega arith))

module _ (s : Settings) (lawful : IsLawfulScenario s) (from to : ℕ) (first : 1 ≤ from) (le : from ≤ to) (none : CutsNothingUpTo s to) (passed : AllArePassedOn s from to) where
  abbrev ts : List Table
  ts = tables_after s to

  copies : AreCopiesOf (writes_by s to) s.nodes s.keys ts
  copies = copies_after s lawful.nodes.0 lawful.nodes.1 lawful.keys.0 lawful.keys.1 to

  module _ (p r : ℕ) (p_in : p < s.nodes) (r_in : r < s.nodes) (apart : r ≢ p) where
    abbrev own : Table
    own = table_of_node (begun s from (tables_after s (from - 1))) r

    begun_copies : AreCopiesOf (writes_by s from) s.nodes s.keys (begun s from (tables_after s (from - 1)))
    begun_copies = copies_begun s lawful.nodes.0 lawful.nodes.1 lawful.keys.0 lawful.keys.1 from first

    own_proper : IsProper own
    own_proper = begun_copies.proper r (omega (arith, r_in, begun_copies.tables.size))

    -- the copy has come up to what the owner had written then
    caught_up : IsUpTo (greatest_mark own r) (greatest_mark (table_of_node ts p) r)
    caught_up =
        subst (λ us. IsUpTo (greatest_mark own r) (greatest_mark (table_of_node us p) r)) ((sound s lawful).ends to (omega (arith, first, le)))
        (paths_catch_up s lawful r r_in (record { round = from; exchanges = 0 }) (record { round = to; exchanges = length (round_list_of s to).exchanges }) p first (uncut_rows s lawful.nodes.0 lawful.nodes.1 lawful.keys.0 lawful.keys.1 to (record { round = to; exchanges = length (round_list_of s to).exchanges }) none (λ n upto. not_after (next_moment n) (record { round = to; exchanges = length (round_list_of s to).exchanges }) upto)) (passed r p r_in p_in apart))

    module _ (e : Entry) (there : Contains (writes_upto s r to) e) where
      generation : e.generation ≡ generation_upto s r to
      generation = of_now there
        where
          of_now : Contains (writes_upto s r to) e → e.generation ≡ generation_upto s r to
          of_now (i, lt, is) = subst (λ (x : Entry). x.generation ≡ generation_upto s r to) is (next-writes_upto s r to i e lt).0

      -- an early write is up to what the owner held then
      early_up_to : e.born ≤ from → IsUpTo (mark_of e) (greatest_mark own r)
      early_up_to early = elim ((begun_copies.last r r_in).last e (written_by s r from to e le early (written-writes_upto s r to e there))) [
        | inl forgotten ↦ absurd (omega (arith, forgotten, generation, generation_upto-rises s r from to le, begun_generation s lawful.nodes.0 lawful.nodes.1 lawful.keys.0 lawful.keys.1 from r first r_in))
        | inr (inl current) ↦ held_up_to own r e.key e own_proper current
        | inr (inr older) ↦ elim (entry_at own r e.key) as (λ o. entry_at own r e.key ≡ o → IsBefore (mark_of e) (mark_held o) → IsUpTo (mark_of e) (greatest_mark own r)) [
          | None ↦ λ _ below. absurd (omega (arith, below.generation, below.version (omega (arith, below.generation))))
          | Some d ↦ λ held below. up_to-then (mark_of e) (mark_of d) (greatest_mark own r) (before-up_to (mark_of e) (mark_of d) below) (held_up_to own r e.key d own_proper held)
        ] refl older
      ]

      -- so the copy doesn't lack it
      early_held : e.born ≤ from → IsUpTo (mark_of e) (mark_at (table_of_node ts p) r e.key)
      early_held early =
          let upto = up_to-then (mark_of e) (greatest_mark own r) (greatest_mark (table_of_node ts p) r) (early_up_to early) caught_up in
          let limit = (copy-up_to (writes_by s to) s.nodes s.keys ts copies p r p_in r_in).generation in
          let now = (counts_after s lawful.nodes.0 lawful.nodes.1 lawful.keys.0 lawful.keys.1 to r r_in).0 in
          states_after s lawful.nodes.0 lawful.nodes.1 lawful.keys.0 lawful.keys.1 to none p r p_in r_in e (written-writes_upto s r to e there)
          (omega (arith, upto.generation, limit, now, generation)) upto

    writes_are : writes_of_owner (lists_after s to) r ≡ map write_of_entry (writes_upto s r to)
    writes_are = get_or-map-range_with_len (list_after s to) 0 s.nodes r r [] r_in (omega arith)

    behind : (k : ℕ) → rounds_behind (staleness_of to (generation_at ts r) (writes_of_owner (lists_after s to) r) k (mark_at (table_of_node ts p) r k)) ≤ to - from
    behind k = subst (λ ws. rounds_behind (staleness_of to (generation_at ts r) ws k (mark_at (table_of_node ts p) r k)) ≤ to - from) (sym writes_are)
        (elim (first_above (generation_at ts r) (map write_of_entry (writes_upto s r to)) k (mark_at (table_of_node ts p) r k)) as (λ o. first_above (generation_at ts r) (map write_of_entry (writes_upto s r to)) k (mark_at (table_of_node ts p) r k) ≡ o → rounds_behind (option_map (λ (w : Write). to - w.born + 1) o) ≤ to - from) [
          | None ↦ λ _. omega arith
          | Some w ↦ λ found.
              let at = found_above (generation_at ts r) k (mark_at (table_of_node ts p) r k) (writes_upto s r to) w found in
              let e = at.0 in
              let same_born : e.born ≡ w.born = ap (λ (v : Write). v.born) at.1.is in
              let by_now = (All-contains (λ (d : Entry). (1 ≤ d.born) × (d.born ≤ to)) (writes_upto s r to) e (born-writes_upto s r to) at.1.stands).1 in
              elim (cases_lt from e.born) [
                | inl late ↦ omega (arith, late, same_born, by_now)
                | inr early ↦
                    let now = (counts_after s lawful.nodes.0 lawful.nodes.1 lawful.keys.0 lawful.keys.1 to r r_in).0 in
                    let same : generation_at ts r ≡ e.generation = now ∙ sym (generation e at.1.stands) in
                    absurd (not_both (mark_at (table_of_node ts p) r k) (mark_of e) (subst (λ g. IsBefore (mark_at (table_of_node ts p) r k) (record { generation = g; version = e.version })) same at.1.above)
                    (subst (λ j. IsUpTo (mark_of e) (mark_at (table_of_node ts p) r j)) at.1.keyed (early_held e at.1.stands early)))
              ]
        ] refl)

  abbrev staleness_if : ℕ → ℕ → ℕ → Bool → Option ℕ
  staleness_if p r k same = if same then None else staleness_of to (generation_at ts r) (writes_of_owner (lists_after s to) r) k (mark_at (table_of_node ts p) r k)

  triple : (p r k : ℕ) → p < s.nodes → r < s.nodes → rounds_behind (staleness_at to ts (lists_after s to) p r k) ≤ to - from
  triple p r k p_in r_in = elim (cases_eq p r) [
    | inl same ↦ subst (λ b. rounds_behind (staleness_if p r k b) ≤ to - from) (sym (Rattle.std.proofs.lemmas.Bool.eq-eqb p r same)) (omega arith)
    | inr other ↦ subst (λ b. rounds_behind (staleness_if p r k b) ≤ to - from) (sym (Rattle.std.proofs.lemmas.Bool.ne_eqb p r other)) (behind p r p_in r_in (λ same. other (sym same)) k)
  ]

  bounded : (figures_in s to).greatest ≤ to - from
  unfolding figures_of
  bounded =
      most_below-bound (length ts) (to - from) _ (λ p p_lt.
      most_below-bound (length ts) (to - from) _ (λ r r_lt.
      most_below-bound (table_of_node ts p).keys (to - from) _ (λ k lt. triple p r k (omega (arith, p_lt, copies.tables.size)) (omega (arith, r_lt, copies.tables.size)))))

pub staleness_bounded : (s : Settings) → IsLawfulScenario s → StalenessIsBounded s
staleness_bounded s lawful from to first le none passed = bounded s lawful from to first le none passed
