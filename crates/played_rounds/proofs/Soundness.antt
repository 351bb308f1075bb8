-- What holds of the tables along every run.
-- Serves `every_run_is_sound`, `Exchanged`, `run_laws` and `simulation`.
use Rattle.played_rounds.proofs.Common.{◌≡◌, ℕ, zero, suc, ◌+◌, ◌-◌, ◌<◌, ◌≤◌, true, false, if◌then◌else◌, List, ◌++◌, length, All, inl, inr, refl, sym, ap, ◌∙◌, subst, arith, take-length, cases_lt, get_or_past, length-map-range_with_len, Entry, Mark, Exchange, AreNextAfter, Table, empty_table, entry_at, greatest_version, with_own_writes, without_others, without_all, IsProper, entry_at-empty_table, greatest_mark-empty_table, greatest_mark-without_all, greatest_mark-without_others_own, generation_upto, forgets_now, restarts_now, round_list_of, count_upto, count_before, own_writes, written_upto, generation_upto-same, generation_upto-next, count_before-grown, count_upto-grown, keys-own_writes, next-own_writes, written_upto-grown, planned_list, Settings, IsPlanned, NoMarksFall, IsLastOf, table_of_node, AreTablesInOrder, AreProper, fold_of, tables_before, NoMarkFalls, marks_stay, marks_then, IsBegun, begun_same, begun_forget, begun_restart, begun_then, begun_writes, counted_writes, generation-written, written_rises, empty_copies, empty_no_gap, begun_copies, begun_no_gap, table_of_node-made, before_copies, before_no_gap, before_rises, before_keeps_own}
use Rattle.cluster.specs.Rounds.{opening_tables, restarted, written_table, after_restart, begun, rules_of, round_of, tables_after}
use Rattle.played_rounds.specs.Soundness.{writes_by, AreSound, OnlyRestartsLowerMarks, tables_within, IsSoundRun}
use Rattle.cluster.proofs.Begins.{begun_at}
use Rattle.cluster.proofs.Standing.{opening_proper, stays_same}

-- each owner's greatest version is how many writes of its generation it has made
abbrev AreCounted : Settings → ℕ → List Table → Type 0
AreCounted s round ts = (n : ℕ) → n < s.nodes → greatest_version (table_of_node ts n) n ≡ count_upto s n round

-- what the induction over the rounds carries
record IsHeld (s : Settings) (round : ℕ) (ts : List Table) : Type 0 where
  sound : AreSound s round ts
  counted : AreCounted s round ts
  generations : (n : ℕ) → n < s.nodes → (table_of_node ts n).generation ≡ generation_upto s n round

-- what the restarts of a round make of a node's table and of how many writes of its generation it has made
record IsRestartedFrom (s : Settings) (round n : ℕ) (writes : List Entry) (t r : Table) : Type 0 where
  begun : IsBegun writes t writes r
  keys : r.keys ≡ t.keys
  counted : greatest_version r r.node ≡ count_before s n round
  generation : r.generation ≡ generation_upto s n round

module _ (s : Settings) (some : 2 ≤ s.nodes) (most : s.nodes ≤ 4096) (some_key : 1 ≤ s.keys) (few_keys : s.keys ≤ 64) where
  opening_at : (n : ℕ) → n < s.nodes → table_of_node (opening_tables s) n ≡ empty_table n s.nodes s.keys
  opening_at n lt = table_of_node-made (λ m. empty_table m s.nodes s.keys) s.nodes n lt

  opening_in_order : AreTablesInOrder s.nodes s.keys (opening_tables s)
  opening_in_order = record {
    size = length-map-range_with_len (λ m. empty_table m s.nodes s.keys) 0 s.nodes;
    tables = λ n lt. rw (opening_at n lt) (record { node = refl; nodes = refl; keys = refl });
  }

  all_proper : AreProper (opening_tables s)
  all_proper = opening_proper s most some_key few_keys

  nothing_held : (n owner key : ℕ) → n < s.nodes → entry_at (table_of_node (opening_tables s) n) owner key ≡ Rattle.std.specs.Prelude.None
  nothing_held n owner key lt = ap (λ (t : Table). entry_at t owner key) (opening_at n lt) ∙ entry_at-empty_table n s.nodes s.keys owner key

  opening_held : IsHeld s 0 (opening_tables s)
  opening_held = record {
    sound = record {
      copies = empty_copies s.nodes s.keys (opening_tables s) opening_in_order all_proper nothing_held;
      no_gap = λ _. empty_no_gap s.nodes s.keys (opening_tables s) opening_in_order all_proper nothing_held;
    };
    counted = λ n lt. ap (λ (t : Table). greatest_version t n) (opening_at n lt) ∙ ap (λ (m : Mark). m.version) (greatest_mark-empty_table n s.nodes s.keys n);
    generations = λ n lt. ap (λ (t : Table). t.generation) (opening_at n lt);
  }

  -- the begin of a round
  module _ (round : ℕ) (first : 1 ≤ round) (ts : List Table) (held : IsHeld s (round - 1) ts) where
    abbrev writes : ℕ → List Entry
    writes n = own_writes s n round (count_before s n round)

    grown : (n : ℕ) → written_upto s n round ≡ written_upto s n (round - 1) ++ writes n
    grown n = written_upto-grown s n round (count_before s n round) first refl

    module _ (n : ℕ) (lt : n < s.nodes) where
      abbrev t : Table
      t = table_of_node ts n

      node_is : t.node ≡ n
      node_is = (held.sound.copies.tables.tables n lt).node

      keys_are : t.keys ≡ s.keys
      keys_are = (held.sound.copies.tables.tables n lt).keys

      t_proper : IsProper t
      t_proper = held.sound.copies.proper n (omega (arith, lt, held.sound.copies.tables.size))

      abbrev old : List Entry
      old = written_upto s n (round - 1)

      last : IsLastOf t.generation old (λ key. entry_at t t.node key)
      last = subst (λ m. IsLastOf t.generation old (λ key. entry_at t m key)) (sym node_is) (held.sound.copies.last n lt)

      counted_before : greatest_version t t.node ≡ count_upto s n (round - 1)
      counted_before = ap (greatest_version t) node_is ∙ held.counted n lt

      -- the restarts
      abbrev r : Table
      r = after_restart s round n t

      as_before : forgets_now s n round ≡ false → count_upto s n (round - 1) ≡ count_before s n round
      as_before stays = sym (count_before-grown s n round first ∙ ap (λ b. if b then 0 else count_upto s n (round - 1)) stays)

      stays_in : forgets_now s n round ≡ false → t.generation ≡ generation_upto s n round
      stays_in stays = held.generations n lt ∙ sym (generation_upto-same s n round first stays)

      restarted_from : IsRestartedFrom s round n old t r
      restarted_from = elim (forgets_now s n round) as (λ b. forgets_now s n round ≡ b → IsRestartedFrom s round n old t (if b then without_all t else (if restarts_now s n round then without_others t else t))) [
        | true ↦ λ forgets. record {
          begun = begun_forget old t t_proper last;
          keys = refl;
          counted = ap (λ (m : Mark). m.version) (greatest_mark-without_all t t.node) ∙ sym (count_before-grown s n round first ∙ ap (λ b. if b then 0 else count_upto s n (round - 1)) forgets);
          generation = ap (λ g. g + 1) (held.generations n lt) ∙ sym (generation_upto-next s n round first forgets);
        }
        | false ↦ λ stays. elim (restarts_now s n round) as (λ b. IsRestartedFrom s round n old t (if b then without_others t else t)) [
          | true ↦ record {
            begun = begun_restart old t t_proper last;
            keys = refl;
            counted = ap (λ (m : Mark). m.version) (greatest_mark-without_others_own t) ∙ counted_before ∙ as_before stays;
            generation = stays_in stays;
          }
          | false ↦ record {
            begun = begun_same old t t_proper last;
            keys = refl;
            counted = counted_before ∙ as_before stays;
            generation = stays_in stays;
          }
        ]
      ] refl

      keys_below : All (λ e. e.key < r.keys) (writes n)
      keys_below = subst (λ k. All (λ (e : Entry). e.key < k) (writes n)) (sym (restarted_from.keys ∙ keys_are)) (keys-own_writes s n round (count_before s n round) some_key)

      next : AreNextAfter r.generation (count_before s n round) (writes n)
      next = subst (λ g. AreNextAfter g (count_before s n round) (writes n)) (sym restarted_from.generation) (next-own_writes s n round (count_before s n round))

      node_begun : IsBegun old t (written_upto s n round) (table_of_node (begun s round ts) n)
      node_begun =
          subst (IsBegun old t (written_upto s n round)) (sym (begun_at s round ts n lt))
          (subst (λ l. IsBegun old t l (with_own_writes r (writes n))) (sym (grown n))
          (begun_then old old (old ++ writes n) t r (with_own_writes r (writes n)) restarted_from.begun (begun_writes (writes n) old r (count_before s n round) restarted_from.begun.proper restarted_from.begun.last restarted_from.counted next keys_below)))

      node_counted : greatest_version (table_of_node (begun s round ts) n) n ≡ count_upto s n round
      node_counted =
          ap (λ (u : Table). greatest_version u n) (begun_at s round ts n lt)
          ∙ ap (greatest_version (with_own_writes r (writes n))) (sym (restarted_from.begun.bounds.node ∙ node_is))
          ∙ counted_writes (writes n) r restarted_from.begun.proper keys_below
          ∙ ap (λ m. m + length (writes n)) restarted_from.counted
          ∙ sym (count_upto-grown s n round first)

      node_generation : (table_of_node (begun s round ts) n).generation ≡ generation_upto s n round
      node_generation = ap (λ (u : Table). u.generation) (begun_at s round ts n lt) ∙ generation-written (writes n) r ∙ restarted_from.generation

      node_rises : restarts_now s n round ≡ false → NoMarkFalls t (table_of_node (begun s round ts) n)
      node_rises stays = subst (NoMarkFalls t) (sym (begun_at s round ts n lt ∙ ap (λ u. with_own_writes u (writes n)) same)) (written_rises (writes n) t t_proper (subst (λ (u : Table). All (λ (e : Entry). e.key < u.keys) (writes n)) same keys_below))
        where
          same : r ≡ t
          same = stays_same s n round t stays

    begun_size : length (begun s round ts) ≡ s.nodes
    begun_size = length-map-range_with_len (written_table s round (restarted s round ts)) 0 s.nodes

    size : length (begun s round ts) ≡ length ts
    size = begun_size ∙ sym held.sound.copies.tables.size

    begun_held : IsHeld s round (begun s round ts)
    begun_held = record {
      sound = record {
        copies = begun_copies (writes_by s (round - 1)) (writes_by s round) s.nodes s.keys ts (begun s round ts) held.sound.copies size node_begun;
        no_gap = λ scuttle. begun_no_gap (writes_by s (round - 1)) (writes_by s round) s.nodes s.keys ts (begun s round ts) held.sound.copies size node_begun (held.sound.no_gap scuttle);
      };
      counted = node_counted;
      generations = node_generation;
    }

    begun_rises : OnlyRestartsLowerMarks s round ts (begun s round ts)
    begun_rises n stays = elim (cases_lt n s.nodes) [
      | inl lt ↦ node_rises n lt stays
      | inr past ↦ subst (NoMarkFalls (table_of_node ts n)) (get_or_past ts n (empty_table 0 0 0) (omega (arith, past, held.sound.copies.tables.size)) ∙ sym (get_or_past (begun s round ts) n (empty_table 0 0 0) (omega (arith, past, begun_size)))) (marks_stay (table_of_node ts n))
    ]

    -- and its exchanges
    abbrev exchanges : List Exchange
    exchanges = (round_list_of s round).exchanges

    among : All (IsPlanned s.nodes) exchanges
    among = planned_list s round some

    within_held : (i : ℕ) → IsHeld s round (tables_before (rules_of s) (begun s round ts) exchanges i)
    within_held i = record {
      sound = record {
        copies = before_copies (rules_of s) s.nodes s.keys exchanges (begun s round ts) among (writes_by s round) begun_held.sound.copies i;
        no_gap = λ scuttle. before_no_gap (rules_of s) s.nodes s.keys exchanges (begun s round ts) among (writes_by s round) begun_held.sound.copies scuttle (begun_held.sound.no_gap scuttle) i;
      };
      counted = λ n lt.
          let own = before_keeps_own (rules_of s) s.nodes s.keys exchanges (begun s round ts) among begun_held.sound.copies.tables i n in
          let node = (begun_held.sound.copies.tables.tables n lt).node in
          subst (λ m. greatest_version (table_of_node (tables_before (rules_of s) (begun s round ts) exchanges i) n) m ≡ greatest_version (table_of_node (begun s round ts) n) m) node (ap (λ (m : Mark). m.version) own.greatest) ∙ begun_held.counted n lt;
      generations = λ n lt. (before_keeps_own (rules_of s) s.nodes s.keys exchanges (begun s round ts) among begun_held.sound.copies.tables i n).generation ∙ begun_held.generations n lt;
    }

    within_rises : (i j : ℕ) → i ≤ j → NoMarksFall (tables_before (rules_of s) (begun s round ts) exchanges i) (tables_before (rules_of s) (begun s round ts) exchanges j)
    within_rises = before_rises (rules_of s) s.nodes s.keys exchanges (begun s round ts) among begun_held.sound.copies.tables begun_held.sound.copies.proper

    all_done : tables_before (rules_of s) (begun s round ts) exchanges (length exchanges) ≡ (round_of s round ts).tables
    all_done = ap (λ es. (fold_of (rules_of s) (begun s round ts) es).tables) (take-length exchanges)

  first_tables : tables_after s 0 ≡ opening_tables s
  unfolding tables_after
  first_tables = refl

  next_tables : (round : ℕ) → tables_after s (suc round) ≡ (round_of s (suc round) (tables_after s round)).tables
  unfolding tables_after
  next_tables round = refl

  before_is : (round : ℕ) → suc round - 1 ≡ round
  before_is round = omega arith

  -- all rounds, one after another
  after_held : (round : ℕ) → IsHeld s round (tables_after s round)
  after_held zero = subst (IsHeld s 0) (sym first_tables) opening_held
  after_held (suc round) =
      let before : IsHeld s (suc round - 1) (tables_after s round) = subst (λ n. IsHeld s n (tables_after s round)) (sym (before_is round)) (after_held round) in
      subst (IsHeld s (suc round)) (all_done (suc round) (omega arith) (tables_after s round) before ∙ sym (next_tables round)) (within_held (suc round) (omega arith) (tables_after s round) before (length (exchanges (suc round) (omega arith) (tables_after s round) before)))

  ends_at : (round : ℕ) → 1 ≤ round → tables_within s round (length (round_list_of s round).exchanges) ≡ tables_after s round
  ends_at zero first = absurd (omega arith)
  ends_at (suc round) first =
      all_done (suc round) first (tables_after s (suc round - 1)) (after_held (suc round - 1))
      ∙ ap (λ n. (round_of s (suc round) (tables_after s n)).tables) (before_is round)
      ∙ sym (next_tables round)

  pub sound_run : IsSoundRun s
  sound_run = record {
    after = λ round. (after_held round).sound;
    within = λ round i first. (within_held round first (tables_after s (round - 1)) (after_held (round - 1)) i).sound;
    begins = λ round first. begun_rises round first (tables_after s (round - 1)) (after_held (round - 1));
    exchanges = λ round i j first le. within_rises round first (tables_after s (round - 1)) (after_held (round - 1)) i j le;
    ends = ends_at;
  }

  -- each node's generation after a round, and how many writes of it it has made
  pub counts_after : (round n : ℕ) → n < s.nodes → ((table_of_node (tables_after s round) n).generation ≡ generation_upto s n round) × (greatest_version (table_of_node (tables_after s round) n) n ≡ count_upto s n round)
  counts_after round n lt = ((after_held round).generations n lt, (after_held round).counted n lt)

  -- from round to round a mark goes down only by a restart
  pub round_rises : (round : ℕ) → OnlyRestartsLowerMarks s (round + 1) (tables_after s round) (tables_after s (round + 1))
  round_rises round n stays =
      let first : 1 ≤ round + 1 = omega arith in
      let before : round + 1 - 1 ≡ round = omega arith in
      let ts = tables_after s (round + 1 - 1) in
      let begun = begun_rises (round + 1) first ts (after_held (round + 1 - 1)) n stays in
      let after = within_rises (round + 1) first ts (after_held (round + 1 - 1)) 0 (length (round_list_of s (round + 1)).exchanges) (omega arith) n in
      subst (λ m. NoMarkFalls (table_of_node (tables_after s m) n) (table_of_node (tables_after s (round + 1)) n)) before
      (subst (λ us. NoMarkFalls (table_of_node ts n) (table_of_node us n)) (ends_at (round + 1) first)
      (marks_then (table_of_node ts n) (table_of_node (tables_within s (round + 1) 0) n) (table_of_node (tables_within s (round + 1) (length (round_list_of s (round + 1)).exchanges)) n) begun after))

  -- and so as each round begins
  pub begun_sound : (round : ℕ) → 1 ≤ round → AreSound s round (begun s round (tables_after s (round - 1)))
  begun_sound round first = sound_run.within round 0 first
