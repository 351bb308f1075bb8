-- On a ring quiet rounds, as many as a node has others, make all copies fresh.
-- Serves `quiet_rings_heal`, `Floors`, `Formats`, `Otherwise` and `SmallRings`.
use Rattle.run_laws.proofs.Common.{◌≡◌, ◌≢◌, ℕ, zero, suc, ◌+◌, ◌-◌, ◌*◌, ◌/◌, ◌%◌, ◌<◌, ◌≤◌, Bool, true, false, not, ◌&&◌, cond, eqb, if◌then◌else◌, List, [], ◌∷◌, map, length, get_or, All, Some, None, ◌⊎◌, inl, inr, refl, sym, ap, ◌∙◌, subst, arith, slice_get, Contains, range_with_len, filter, sum_by, option_map, mod-lt, mod-eq_of_lt, mod-add-div, add-mul-mod_self_left, add-mod_right, cases_lt, cases_eq, ne_eqb, le-ltb, slice_get-get_or, All-tail, sum_by-cons, get_or-map-range_with_len, length-map-range_with_len, get_or-range_with_len, length-range_with_len, Entry, Mark, mark_of, is_before, IsUpTo, sum_below, most_below, before-no, Ring, Settings, IsLawfulScenario, Table, entry_at, mark_at, greatest_version, table_of_node, writes_of_owner, generation_at, staleness_of, staleness_at, is_left_over, leftover_at, stale_count, rounds_behind, Write, write_of_entry, first_above, generation_upto, is_up, ring_peer, peer_by, peer_of, begins, exchange_of, round_list_of, word_of, count_before, count_upto, own_write_at, writes_in, writes_upto, next-writes_upto, written-writes_upto, HasOwnPart, IsFresh}
use Rattle.model.specs.Figures.{figures_of}
use Rattle.played_rounds.specs.Lists.{list_after, lists_after}
use Rattle.cluster.specs.Rounds.{tables_after}
use Rattle.played_rounds.specs.Soundness.{writes_by, AreSound}
use Rattle.run_laws.specs.Healing.{Moment, IsUpToMoment, LeavesCopy, IsQuiet, HaveWrittenSince, IsHealed, QuietRingsHeal}
use Rattle.run_laws.specs.Paths.{next_moment, HandsOn, own, stays, handed}
use Rattle.run_laws.proofs.Moments.{ended, record_at, recorded, sound}
use Rattle.run_laws.proofs.Paths.{hands_on_recorded, paths_fresh}
use Rattle.played_rounds.proofs.Soundness.{counts_after}
use Rattle.run_laws.proofs.Fresh.{HasAllOf, has_all, of_generation, not_behind}

-- so many steps from a start there is one with a given rest
reached : (most start rest : ℕ) → rest < most → (i : ℕ) × (i < most) × ((start + i) % most ≡ rest)
reached most start rest lt =
    let here : start % most < most = mod-lt start (omega (arith, lt)) in
    let whole : start % most + most * (start / most) ≡ start = mod-add-div start most in
    elim (cases_lt rest (start % most)) [
      | inr ahead ↦
          let i : ℕ = rest - start % most in
          let is : start + i ≡ rest + most * (start / most) = omega (arith, whole, ahead) in
          (i, omega (arith, lt), ap (λ n. n % most) is ∙ add-mul-mod_self_left rest most (start / most) ∙ mod-eq_of_lt lt)
      | inl behind ↦
          let i : ℕ = most - start % most + rest in
          let is : start + i ≡ rest + most * (start / most) + most = omega (arith, whole, behind, here) in
          (i, omega (arith, behind, here), ap (λ n. n % most) is ∙ add-mod_right (rest + most * (start / most)) most ∙ add-mul-mod_self_left rest most (start / most) ∙ mod-eq_of_lt lt)
    ]

-- on a ring a node meets each other one within as many rounds as there are others
ring_meets : (nodes holder owner round : ℕ) → holder < nodes → owner < nodes → holder ≢ owner → (i : ℕ) × (i < nodes - 1) × (ring_peer nodes holder (round + 1 + i) ≡ owner)
ring_meets nodes holder owner round in_nodes owner_in apart = elim (cases_lt holder owner) [
  | inl above ↦ met (owner - holder - 1) (omega (arith, above, owner_in)) (λ rest is. ap (λ n. n % nodes) {x = holder + 1 + rest} {y = owner} (omega (arith, is, above)) ∙ mod-eq_of_lt owner_in)
  | inr below ↦
      let apart_now : owner < holder = before_it below in
      met (owner + nodes - holder - 1) (omega (arith, apart_now, in_nodes)) (λ rest is. ap (λ n. n % nodes) {x = holder + 1 + rest} {y = owner + nodes} (omega (arith, is, in_nodes)) ∙ add-mod_right owner nodes ∙ mod-eq_of_lt owner_in)
]
  where
    before_it : owner ≤ holder → owner < holder
    before_it le = elim (cases_eq holder owner) [ inl same ↦ absurd (apart same) | inr other ↦ omega (arith, le, other) ]

    met : (rest : ℕ) → rest < nodes - 1 → ((found : ℕ) → found ≡ rest → (holder + 1 + found) % nodes ≡ owner) → (i : ℕ) × (i < nodes - 1) × (ring_peer nodes holder (round + 1 + i) ≡ owner)
    met rest lt ends =
        let there = reached (nodes - 1) round rest lt in
        let past : round + 1 + there.0 - 1 ≡ round + there.0 = omega arith in
        (there.0, there.1, ends ((round + 1 + there.0 - 1) % (nodes - 1)) (ap (λ n. n % (nodes - 1)) past ∙ there.2))

filter_all : {X : Type 0} (p : X → Bool) (xs : List X) → All (λ x. p x ≡ true) xs → filter p xs ≡ xs
filter_all p [] all = refl
filter_all p (x ∷ xs) all = (λ i. cond (all 0 x (omega arith) i) (x ∷ filter p xs) (filter p xs)) ∙ ap (λ l. x ∷ l) (filter_all p xs (All-tail (λ x. p x ≡ true) x xs all))

abbrev one_if : Bool → ℕ
one_if b = if b then 1 else 0

-- of a sum of nothing each part is nothing
pub sum_none : {X : Type 0} (f : X → ℕ) (xs : List X) (x : X) → sum_by f xs ≡ 0 → Contains xs x → f x ≡ 0
sum_none f [] x none (k, lt, is) = absurd (omega arith)
sum_none f (y ∷ ys) x none (zero, lt, is) = subst (λ z. f z ≡ 0) is (omega (arith, none, sum_by-cons f y ys))
sum_none f (y ∷ ys) x none (suc k, lt, is) = sum_none f ys x (omega (arith, none, sum_by-cons f y ys)) (k, omega arith, is)

pub sum_below-none : (n : ℕ) (f : ℕ → ℕ) → ((i : ℕ) → i < n → f i ≡ 0) → sum_below n f ≡ 0
sum_below-none zero f none = refl
sum_below-none (suc n) f none = omega (arith, sum_below-none n f (λ i lt. none i (omega (arith, lt))), none n (omega arith))

most_below-none : (n : ℕ) (f : ℕ → ℕ) → ((i : ℕ) → i < n → f i ≡ 0) → most_below n f ≡ 0
most_below-none zero f none = refl
most_below-none (suc n) f none = omega (arith, most_below-none n f (λ i lt. none i (omega (arith, lt))), none n (omega arith))

-- no write is above a mark that is behind none
none_above : (generation key : ℕ) (mark : Mark) (es : List Entry) → ((e : Entry) → Contains es e → e.key ≡ key → IsUpTo (record { generation = generation; version = e.version }) mark) → first_above generation (map write_of_entry es) key mark ≡ None
none_above generation key mark [] behind = refl
none_above generation key mark (e ∷ es) behind =
    (λ i. cond (test i) (Some (write_of_entry e)) (first_above generation (map write_of_entry es) key mark))
    ∙ none_above generation key mark es (λ d (k, lt, is). behind d (suc k, omega arith, is))
  where
    test : (eqb e.key key && is_before mark (record { generation = generation; version = e.version })) ≡ false
    test = elim (cases_eq e.key key) [
      | inl same ↦ (λ i. eqb e.key key && before-no mark (record { generation = generation; version = e.version }) (behind e (0, omega arith, refl) same) i) ∙ nothing (eqb e.key key)
      | inr other ↦ λ i. ne_eqb e.key key other i && is_before mark (record { generation = generation; version = e.version })
    ]
      where
        nothing : (b : Bool) → (b && false) ≡ false
        nothing true = refl
        nothing false = refl

module _ (s : Settings) (lawful : IsLawfulScenario s) where
  -- what a round's figures say where all copies are fresh
  module _ (round : ℕ) (fresh : (holder owner : ℕ) → holder < s.nodes → owner < s.nodes → IsFresh (table_of_node (tables_after s round) holder) (table_of_node (tables_after s round) owner)) where
    abbrev ts : List Table
    ts = tables_after s round

    after : AreSound s round ts
    after = (sound s lawful).after round

    size : length ts ≡ s.nodes
    size = after.copies.tables.size

    all : (holder owner : ℕ) → holder < s.nodes → owner < s.nodes → HasAllOf owner (table_of_node ts holder) (table_of_node ts owner)
    all holder owner in_nodes owner_in = has_all (writes_by s round) s.nodes s.keys ts after.copies holder owner in_nodes owner_in (fresh holder owner in_nodes owner_in)

    counts : (n : ℕ) → n < s.nodes → ((table_of_node ts n).generation ≡ generation_upto s n round) × (greatest_version (table_of_node ts n) n ≡ count_upto s n round)
    counts = counts_after s lawful.nodes.0 lawful.nodes.1 lawful.keys.0 lawful.keys.1 round

    module _ (p r : ℕ) (p_in : p < s.nodes) (r_in : r < s.nodes) (k : ℕ) where
      writes_are : writes_of_owner (lists_after s round) r ≡ map write_of_entry (writes_upto s r round)
      writes_are = get_or-map-range_with_len (list_after s round) 0 s.nodes r r [] r_in (omega arith)

      not_above : (e : Entry) → Contains (writes_upto s r round) e → e.key ≡ k → IsUpTo (record { generation = generation_at ts r; version = e.version }) (mark_at (table_of_node ts p) r k)
      not_above e there keyed =
          let generation : e.generation ≡ generation_at ts r = of_now there ∙ sym (counts r r_in).0 in
          subst (λ g. IsUpTo (record { generation = g; version = e.version }) (mark_at (table_of_node ts p) r k)) generation
          (subst (λ j. IsUpTo (mark_of e) (mark_at (table_of_node ts p) r j)) keyed
          (not_behind (writes_by s round) s.nodes s.keys ts after.copies p r p_in r_in (all p r p_in r_in) e (written-writes_upto s r round e there) generation))
        where
          of_now : Contains (writes_upto s r round) e → e.generation ≡ generation_upto s r round
          of_now (i, lt, is) = subst (λ (x : Entry). x.generation ≡ generation_upto s r round) is (next-writes_upto s r round i e lt).0

      not_stale : staleness_at round ts (lists_after s round) p r k ≡ None
      not_stale = elim (eqb p r) as (λ b. (if b then None else staleness_of round (generation_at ts r) (writes_of_owner (lists_after s round) r) k (mark_at (table_of_node ts p) r k)) ≡ None) [
        | true ↦ refl
        | false ↦
            ap (λ ws. staleness_of round (generation_at ts r) ws k (mark_at (table_of_node ts p) r k)) writes_are
            ∙ ap (option_map (λ (w : Write). round - w.born + 1)) (none_above (generation_at ts r) k (mark_at (table_of_node ts p) r k) (writes_upto s r round) not_above)
      ]

      abbrev leftover_if : Bool → ℕ
      leftover_if same = if same then 0 else (if is_left_over (generation_at ts r) (entry_at (table_of_node ts p) r k) then 1 else 0)

      not_left_over : HaveWrittenSince s round → leftover_at ts p r k ≡ 0
      not_left_over since = elim (eqb p r) as (λ b. leftover_if b ≡ 0) [
        | true ↦ refl
        | false ↦ ap one_if (elim (entry_at (table_of_node ts p) r k) as (λ o. entry_at (table_of_node ts p) r k ≡ o → is_left_over (generation_at ts r) o ≡ false) [
          | None ↦ λ _. refl
          | Some d ↦ λ found. le-ltb d.generation (generation_at ts r) (as_new d found (cases_lt 0 (generation_at ts r)))
        ] refl)
      ]
        where
          as_new : (d : Entry) → entry_at (table_of_node ts p) r k ≡ Some d → (0 < generation_at ts r) ⊎ (generation_at ts r ≤ 0) → generation_at ts r ≤ d.generation
          as_new d found (inr first) = omega (arith, first)
          as_new d found (inl forgot) =
              let written : 1 ≤ count_upto s r round = since r r_in (omega (arith, forgot, (counts r r_in).0)) in
              let own : HasOwnPart (table_of_node ts r) = subst (λ n. 1 ≤ greatest_version (table_of_node ts r) n) (sym (after.copies.tables.tables r r_in).node) (omega (arith, (counts r r_in).1)) in
              omega (arith, of_generation (writes_by s round) s.nodes s.keys ts after.copies p r p_in r_in (all p r p_in r_in) own k d found)

    triples : (fold : ℕ → (ℕ → ℕ) → ℕ) → ((n : ℕ) (f : ℕ → ℕ) → ((i : ℕ) → i < n → f i ≡ 0) → fold n f ≡ 0) → (f : ℕ → ℕ → ℕ → ℕ) → ((p r k : ℕ) → p < s.nodes → r < s.nodes → f p r k ≡ 0) → fold (length ts) (λ p. fold (length ts) (λ r. fold (table_of_node ts p).keys (f p r))) ≡ 0
    triples fold none f each =
        none (length ts) (λ p. fold (length ts) (λ r. fold (table_of_node ts p).keys (f p r))) (λ p p_lt.
        none (length ts) (λ r. fold (table_of_node ts p).keys (f p r)) (λ r r_lt.
        none (table_of_node ts p).keys (f p r) (λ k lt. each p r k (omega (arith, p_lt, size)) (omega (arith, r_lt, size)))))

    healed : IsHealed s round
    unfolding figures_of
    healed = record {
      fresh = fresh;
      stale = triples sum_below sum_below-none (λ p r k. stale_count (staleness_at round ts (lists_after s round) p r k)) (λ p r k p_in r_in. ap stale_count (not_stale p r p_in r_in k));
      greatest = triples most_below most_below-none (λ p r k. rounds_behind (staleness_at round ts (lists_after s round) p r k)) (λ p r k p_in r_in. ap rounds_behind (not_stale p r p_in r_in k));
      leftover = λ since. triples sum_below sum_below-none (leftover_at ts) (λ p r k p_in r_in. not_left_over p r p_in r_in k since);
    }

  -- a quiet round
  module _ (ring : s.peers ≡ Ring) (round : ℕ) (first : 1 ≤ round) (quiet : IsQuiet s round) where
    peer_is : (n : ℕ) → peer_of s n round ≡ ring_peer s.nodes n round
    peer_is n = ap (λ peers. peer_by peers s.nodes n round (word_of s n round 0)) ring

    peer_below : (n : ℕ) → peer_of s n round < s.nodes
    peer_below n =
        let below : ring_peer s.nodes n round < s.nodes = mod-lt (n + 1 + (round - 1) % (s.nodes - 1)) (omega (arith, lawful.nodes.0)) in
        omega (arith, peer_is n, below)

    -- each node begins an exchange
    all_begin : (n : ℕ) → n < s.nodes → begins s round n ≡ true
    all_begin n lt = λ i. quiet.up n lt i && (quiet.up (peer_of s n round) (peer_below n) i && not (quiet.joined n (peer_of s n round) lt (peer_below n) i))

    range_begins : All (λ n. begins s round n ≡ true) (range_with_len 0 s.nodes)
    range_begins k d lt =
        let below : k < s.nodes = omega (arith, lt, length-range_with_len 0 s.nodes) in
        let is : get_or (range_with_len 0 s.nodes) k d ≡ k = get_or-range_with_len 0 s.nodes k d below ∙ omega arith in
        subst (λ n. begins s round n ≡ true) (sym is) (all_begin k below)

    list_is : (round_list_of s round).exchanges ≡ map (exchange_of s round) (range_with_len 0 s.nodes)
    list_is = ap (map (exchange_of s round)) (filter_all (begins s round) (range_with_len 0 s.nodes) range_begins)

    pub listed : (n : ℕ) → n < s.nodes → slice_get (round_list_of s round).exchanges n ≡ Some (exchange_of s round n)
    listed n lt =
        ap (λ es. slice_get es n) list_is
        ∙ slice_get-get_or (map (exchange_of s round) (range_with_len 0 s.nodes)) n (exchange_of s round n) (omega (arith, lt, length-map-range_with_len (exchange_of s round) 0 s.nodes))
        ∙ ap Some (get_or-map-range_with_len (exchange_of s round) 0 s.nodes n n (exchange_of s round n) lt (omega arith))

    -- which hands its initiator all that its responder has
    hands : (n : ℕ) → n < s.nodes → HandsOn s (record { round = round; exchanges = n }) (peer_of s n round) (peer_of s n round) n
    hands n lt =
        let m : Moment = record { round = round; exchanges = n } in
        let e = exchange_of s round n in
        (hands_on_recorded s lawful m e first (listed n lt) e.responder).0 (quiet.answered (record_at s m e) (recorded s lawful m e first (listed n lt)))

    -- and leaves what copies have
    leaves : (holder owner : ℕ) → holder < s.nodes → LeavesCopy s holder owner round
    leaves holder owner in_nodes = record {
      unwritten = none (is_up s owner round);
      kept = quiet.kept holder in_nodes;
    }
      where
        none : (b : Bool) → (if b then map (own_write_at s owner round (count_before s owner round)) (range_with_len 0 (writes_in s round)) else []) ≡ []
        none true = ap (λ n. map (own_write_at s owner round (count_before s owner round)) (range_with_len 0 n)) quiet.unwritten
        none false = refl

  pub rings_heal : QuietRingsHeal s
  rings_heal ring round quiet = healed last fresh
    where
      last : ℕ
      last = round + (s.nodes - 1)

      quiet_at : (t : ℕ) → round < t → t ≤ last → IsQuiet s t
      quiet_at t above upto =
          let is : round + 1 + (t - round - 1) ≡ t = omega (arith, above) in
          subst (IsQuiet s) is (quiet (t - round - 1) (omega (arith, above, upto)))

      -- the path to a holder: the owner meets it, and it keeps what it got
      fresh : (holder owner : ℕ) → holder < s.nodes → owner < s.nodes → IsFresh (table_of_node (tables_after s last) holder) (table_of_node (tables_after s last) owner)
      fresh holder owner in_nodes owner_in = elim (cases_eq holder owner) [
        | inl same ↦ subst (λ n. IsFresh (table_of_node (tables_after s last) holder) (table_of_node (tables_after s last) n)) same (λ written key. refl)
        | inr apart ↦
            let there = ring_meets s.nodes holder owner round in_nodes owner_in apart in
            let met : ℕ = round + 1 + there.0 in
            let first : 1 ≤ met = omega arith in
            let at_it : IsQuiet s met = quiet there.0 there.1 in
            let peer : peer_of s holder met ≡ owner = peer_is ring met first at_it holder ∙ there.2 in
            let m : Moment = record { round = met; exchanges = holder } in
            let end : Moment = record { round = last; exchanges = holder + 1 + length (round_list_of s last).exchanges } in
            let handed_on = subst (λ o. HandsOn s m o o holder) peer (hands ring met first at_it holder in_nodes) in
            let upto : IsUpToMoment (next_moment m) end = elim (cases_lt met last) [ inl less ↦ inl less | inr not ↦ inr (omega (arith, not, there.1), omega arith) ] in
            subst (λ ts. IsFresh (table_of_node ts holder) (table_of_node ts owner)) (ended s lawful last (holder + 1) (omega (arith, there.1)))
            (paths_fresh s lawful owner owner_in end holder
            (stays (next_moment m) end holder (handed m owner holder (own m first) handed_on) upto
            (λ t above upto. leaves ring t (omega (arith, above)) (quiet_at t (omega (arith, above)) upto) holder owner in_nodes)))
      ]
