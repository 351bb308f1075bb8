-- What holds of all nodes at the beginning, and still holds after exchanges, restarts and writes.
-- Serves `Cluster::opened`, `begin_nodes`, `histories_of`, `restart`, `Lent` and `played_rounds`.
use Rattle.cluster.proofs.Common.{◌≡◌, ℕ, both_ways, any_restart_now, restarts_now, restarts-any, restarts-forgets, ◌+◌, ◌-◌, ◌<◌, ◌≤◌, Bool, true, false, if◌then◌else◌, All, List, [], ◌∷◌, ◌++◌, length, map, inl, inr, refl, sym, ap, ◌∙◌, subst, arith, length-append, cases_lt, append_assoc, append-nil, get_or_past, length-map, All-nil, length-map-range_with_len, Entry, Mark, AreNextAfter, LEAST_KEYS, MOST_NODES, MOST_KEYS, Table, empty_table, entry_at, greatest_mark, with_own_write, with_own_writes, without_others, without_all, IsProper, entry_at-without_all, entry_at-without_others_own, greatest_mark-empty_table, greatest_mark-without_all, greatest_mark-without_others_own, proper-empty_table, proper-without_all, proper-without_others, OwnWrite, generation_upto, forgets_now, count_before, own_writes, writes_upto, written_upto, born_in, writes_before, generation_upto-same, generation_upto-next, next-own_writes, length-writes_before, writes_before-grown, writes_upto-grown, written_upto-grown, Settings, OwnerListView, all_writes, entries_of, no_writes, begun_generation, list_of_owner, write_of_entry, own_part-empty, KeepsOwn, KeepOwnParts, own_list, BirthsRise, AreWrittenBy, HistoriesView, StandsBeside, StaysBesideLists, table_of_node, AreProper, generation-written, table_of_node-made, still_table_of}
use Rattle.cluster.specs.Rounds.{opening_tables, after_restart}
use Rattle.cluster.proofs.Written.{born_upto, births_rise, may_write_each}
use Rattle.cluster.specs.calls.Standing.{IsOwnerOf, IsOwner, MayWriteAll, StandAfterRound}
use Rattle.cluster.specs.calls.Clusters.{HaveEnded}
use Rattle.cluster.specs.inner.Steps.{LeavesOthers, MayWriteEach, HasWritten, HasRestarted}

-- the round that comes next, and histories beside which nothing has changed
pub next_round : {s : Settings} {round : ℕ} {h : HistoriesView} → 1 ≤ round → HaveEnded s (round - 1) h → h.rounds + 1 ≡ round
next_round first ended = omega (arith, first, ended.rounds)

pub still_ended : {s : Settings} {round : ℕ} {old new : HistoriesView} → StaysBesideLists old new → HaveEnded s round old → HaveEnded s round new
still_ended stays ended = record { keys = stays.keys ∙ ended.keys; rounds = stays.rounds ∙ ended.rounds }

-- two steps leave the others
pub leaves_both : {n : ℕ} {h h' h'' : HistoriesView} → LeavesOthers n h h' → LeavesOthers n h' h'' → LeavesOthers n h h''
leaves_both a b = record {
  others = record { count = b.others.count ∙ a.others.count; others = λ other not. b.others.others other not ∙ a.others.others other not };
  beside = record { keys = b.beside.keys ∙ a.beside.keys; rounds = b.beside.rounds ∙ a.beside.rounds };
}

-- own writes leave whose table it is, and its bounds
node-with_own_writes : (t : Table) (es : List Entry) → (with_own_writes t es).node ≡ t.node
node-with_own_writes t [] = refl
node-with_own_writes t (e ∷ es) = node-with_own_writes (with_own_write t e.key e.value e.born) es

nodes-with_own_writes : (t : Table) (es : List Entry) → (with_own_writes t es).nodes ≡ t.nodes
nodes-with_own_writes t [] = refl
nodes-with_own_writes t (e ∷ es) = nodes-with_own_writes (with_own_write t e.key e.value e.born) es

keys-with_own_writes : (t : Table) (es : List Entry) → (with_own_writes t es).keys ≡ t.keys
keys-with_own_writes t [] = refl
keys-with_own_writes t (e ∷ es) = keys-with_own_writes (with_own_write t e.key e.value e.born) es

owner_opening : (s : Settings) (n : ℕ) (t : Table) (v : OwnerListView) → IsProper t → t ≡ empty_table n s.nodes s.keys → v ≡ no_writes → IsOwner s 0 n t v
owner_opening s n t v proper table list = subst (λ u. IsOwner s 0 n u v) (sym table) (subst (IsOwner s 0 n (empty_table n s.nodes s.keys)) (sym list) (record {
  table = record { node = refl; nodes = refl; keys = refl };
  proper = subst IsProper table proper;
  generation = refl;
  list_generation = refl;
  writes = refl;
  all = refl;
  few = omega arith;
  greatest = ap (λ (m : Mark). m.version) (greatest_mark-empty_table n s.nodes s.keys n);
  own_part = own_part-empty n s.nodes s.keys;
  born = λ k d lt. absurd (omega arith);
}))

pub standing_opening : (s : Settings) (ts : List Table) (lists : List OwnerListView) → AreProper ts → ts ≡ opening_tables s → length lists ≡ s.nodes
    → ((n : ℕ) → list_of_owner lists n ≡ no_writes) → StandAfterRound s 0 ts lists
standing_opening s ts lists proper opening count none = record {
  table_count = size;
  list_count = count;
  owners = λ n lt. owner_opening s n (table_of_node ts n) (list_of_owner lists n) (proper n (omega (arith, lt, size)))
      (ap (λ us. table_of_node us n) opening ∙ table_of_node-made (λ m. empty_table m s.nodes s.keys) s.nodes n lt) (none n);
}
  where
    size : length ts ≡ s.nodes
    size = ap length opening ∙ length-map-range_with_len (λ n. empty_table n s.nodes s.keys) 0 s.nodes

-- the opening tables are proper
pub opening_proper : (s : Settings) → s.nodes ≤ MOST_NODES → LEAST_KEYS ≤ s.keys → s.keys ≤ MOST_KEYS → AreProper (opening_tables s)
opening_proper s most some_key few_keys n lt =
    let below : n < s.nodes = omega (arith, lt, length-map-range_with_len (λ m. empty_table m s.nodes s.keys) 0 s.nodes) in
    subst IsProper (sym (table_of_node-made (λ m. empty_table m s.nodes s.keys) s.nodes n below))
    (proper-empty_table n s.nodes s.keys below most some_key few_keys)

owner_kept : (s : Settings) (n generation : ℕ) (writes all : List Entry) (round : ℕ) (t u : Table) (v : OwnerListView) → KeepsOwn t u → IsProper u
    → IsOwnerOf s n generation writes all round t v → IsOwnerOf s n generation writes all round u v
owner_kept s n generation writes all round t u v own proper is = record {
  table = still_table_of own is.table;
  proper = proper;
  generation = own.generation ∙ is.generation;
  list_generation = is.list_generation;
  writes = is.writes;
  all = is.all;
  few = is.few;
  greatest = ap (λ (m : Mark). m.version) (ap (greatest_mark u) own.node ∙ own.greatest) ∙ is.greatest;
  own_part = λ key. ap (Rattle.std.specs.Option.option_map write_of_entry) (ap (λ o. entry_at u o key) own.node ∙ own.own_part key) ∙ is.own_part key;
  born = is.born;
}

pub standing_kept : (s : Settings) (round : ℕ) (old new : List Table) (lists : List OwnerListView) → length new ≡ length old → KeepOwnParts old new
    → AreProper new → StandAfterRound s round old lists → StandAfterRound s round new lists
standing_kept s round old new lists size own proper is = record {
  table_count = size ∙ is.table_count;
  list_count = is.list_count;
  owners = λ n lt. owner_kept s n (generation_upto s n round) (writes_upto s n round) (written_upto s n round) round (table_of_node old n) (table_of_node new n)
      (list_of_owner lists n) (own n) (proper n (omega (arith, lt, size, is.table_count))) (is.owners n lt);
}

-- after its restarts a node has its own part, but where it forgets
owner_forgot : (s : Settings) (n generation : ℕ) (writes all : List Entry) (round : ℕ) (t : Table) (v : OwnerListView)
    → IsOwnerOf s n generation writes all round t v → IsOwnerOf s n (generation + 1) [] all round (without_all t) (begun_generation v)
owner_forgot s n generation writes all round t v is = record {
  table = record { node = is.table.node; nodes = is.table.nodes; keys = is.table.keys };
  proper = proper-without_all t is.proper;
  generation = ap (λ g. g + 1) is.generation;
  list_generation = ap (λ g. g + 1) is.list_generation;
  writes = refl;
  all = append-nil (entries_of v) ∙ is.all;
  few = omega arith;
  greatest = ap (λ (m : Mark). m.version) (greatest_mark-without_all t t.node);
  own_part = λ key. ap (Rattle.std.specs.Option.option_map write_of_entry) (entry_at-without_all t t.node key);
  born = λ k d lt. absurd (omega arith);
}

keeps_own_forgotten : (t : Table) → KeepsOwn t (without_others t)
keeps_own_forgotten t = record {
  node = refl;
  nodes = refl;
  keys = refl;
  generation = refl;
  own_part = λ key. entry_at-without_others_own t key;
  greatest = greatest_mark-without_others_own t;
}

-- what has a consequence that doesn't hold doesn't hold
contrary : (a b : Bool) → (a ≡ true → b ≡ true) → b ≡ false → a ≡ false
contrary true b so none = absurd (both_ways b none (so refl))
contrary false b so none = refl

-- a node that doesn't restart forgets nothing, and its table stays
pub stays_without : (s : Settings) (n round : ℕ) → restarts_now s n round ≡ false → forgets_now s n round ≡ false
stays_without s n round = contrary (forgets_now s n round) (restarts_now s n round) (restarts-forgets s n round)

-- where no node restarts
pub none_restarts : (s : Settings) (n round : ℕ) → any_restart_now s round ≡ false → restarts_now s n round ≡ false
none_restarts s n round = contrary (restarts_now s n round) (any_restart_now s round) (restarts-any s n round)

pub stays_same : (s : Settings) (n round : ℕ) (t : Table) → restarts_now s n round ≡ false → after_restart s round n t ≡ t
stays_same s n round t stays =
    ap (λ b. if b then without_all t else (if restarts_now s n round then without_others t else t)) (stays_without s n round stays)
    ∙ ap (λ b. if b then without_others t else t) stays

module _ (s : Settings) (round n : ℕ) (first : 1 ≤ round) (t : Table) (v : OwnerListView) (is : IsOwner s (round - 1) n t v) where
  before_is : forgets_now s n round ≡ false → writes_upto s n (round - 1) ≡ writes_before s n round
  before_is stays = sym (writes_before-grown s n round first ∙ ap (λ b. if b then [] else writes_upto s n (round - 1)) stays)

  of_round : (u : Table) → forgets_now s n round ≡ false
      → IsOwnerOf s n (generation_upto s n (round - 1)) (writes_upto s n (round - 1)) (written_upto s n (round - 1)) (round - 1) u v
      → HasRestarted s round n u v
  of_round u stays own =
      subst (λ g. IsOwnerOf s n g (writes_before s n round) (written_upto s n (round - 1)) (round - 1) u v) (sym (generation_upto-same s n round first stays))
      (subst (λ es. IsOwnerOf s n (generation_upto s n (round - 1)) es (written_upto s n (round - 1)) (round - 1) u v) (before_is stays) own)

  pub restarted_forgot : forgets_now s n round ≡ true → HasRestarted s round n (without_all t) (begun_generation v)
  restarted_forgot forgets =
      subst (λ g. IsOwnerOf s n g (writes_before s n round) (written_upto s n (round - 1)) (round - 1) (without_all t) (begun_generation v))
      (sym (generation_upto-next s n round first forgets))
      (subst (λ es. IsOwnerOf s n (generation_upto s n (round - 1) + 1) es (written_upto s n (round - 1)) (round - 1) (without_all t) (begun_generation v))
      (sym (writes_before-grown s n round first ∙ ap (λ b. if b then [] else writes_upto s n (round - 1)) forgets))
      (owner_forgot s n (generation_upto s n (round - 1)) (writes_upto s n (round - 1)) (written_upto s n (round - 1)) (round - 1) t v is))

  pub restarted_kept : forgets_now s n round ≡ false → HasRestarted s round n (without_others t) v
  restarted_kept stays =
      of_round (without_others t) stays (owner_kept s n (generation_upto s n (round - 1)) (writes_upto s n (round - 1)) (written_upto s n (round - 1))
      (round - 1) t (without_others t) v (keeps_own_forgotten t) (proper-without_others t is.proper) is)

  pub restarted_same : forgets_now s n round ≡ false → HasRestarted s round n t v
  restarted_same stays = of_round t stays is

-- the writes of the round, after its restarts
pub made_now : (s : Settings) (round n : ℕ) (t : Table) (v : OwnerListView) (writes : List OwnWrite) → HasRestarted s round n t v
    → map (born_in round (generation_upto s n round)) writes ≡ own_writes s n round (length v.current)
    → map (born_in round t.generation) writes ≡ own_writes s n round (count_before s n round)
made_now s round n t v writes is made =
    ap (λ g. map (born_in round g) writes) is.generation
    ∙ made
    ∙ ap (own_writes s n round) (ap length is.writes ∙ length-writes_before s n round)

-- what making them asks of the node's list, and of the run
module _ (s : Settings) (round n : ℕ) (t : Table) (lists : List OwnerListView) (writes : List OwnWrite) (is : HasRestarted s round n t (list_of_owner lists n))
    (made : map (born_in round (generation_upto s n round)) writes ≡ own_writes s n round (length (list_of_owner lists n).current)) where
  pub next_own : AreNextAfter t.generation (length (own_list t lists).current) (map (born_in round t.generation) writes)
  next_own =
      let count = length (list_of_owner lists n).current in
      subst (λ m. AreNextAfter t.generation (length (list_of_owner lists m).current) (map (born_in round t.generation) writes)) (sym is.table.node)
      (subst (λ k. AreNextAfter k count (map (born_in round k) writes)) (sym is.generation)
      (subst (AreNextAfter (generation_upto s n round) count) (sym made) (next-own_writes s n round count)))

  pub may_write_own : (May : ℕ → ℕ → Entry → Type 0) → MayWriteAll May s → n < s.nodes → 1 ≤ round → round ≤ s.rounds
      → MayWriteEach May t.node (length (all_writes lists t.node)) (map (born_in round t.generation) writes)
  may_write_own May all below first last =
      subst (λ m. MayWriteEach May m (length (all_writes lists m)) (map (born_in round t.generation) writes)) (sym is.table.node)
      (subst (MayWriteEach May n (length (all_writes lists n))) (sym (made_now s round n t (list_of_owner lists n) writes is made))
      (subst (λ es. MayWriteEach May n (length es) (own_writes s n round (count_before s n round))) (sym is.all)
      (may_write_each May s n round all below first last)))

-- and after its writes it is the round's
pub owner_written : (s : Settings) (round n : ℕ) (t u : Table) (h h' : HistoriesView) (writes : List OwnWrite) → 1 ≤ round → length writes ≤ 8
    → h.rounds + 1 ≡ round → HasRestarted s round n t (list_of_owner h.lists n)
    → HasWritten (h.rounds + 1) writes t u (own_list t h.lists) (own_list t h'.lists)
    → map (born_in round (generation_upto s n round)) writes ≡ own_writes s n round (length (list_of_owner h.lists n).current)
    → IsOwner s round n u (list_of_owner h'.lists n) × (u ≡ with_own_writes t (own_writes s n round (count_before s n round)))
owner_written s round n t u h h' writes first small next is made_in made = (
  record {
    table = record {
      node = ap (λ (v : Table). v.node) written.table ∙ node-with_own_writes t entries ∙ is.table.node;
      nodes = ap (λ (v : Table). v.nodes) written.table ∙ nodes-with_own_writes t entries ∙ is.table.nodes;
      keys = ap (λ (v : Table). v.keys) written.table ∙ keys-with_own_writes t entries ∙ is.table.keys;
    };
    proper = written.proper;
    generation = ap (λ (v : Table). v.generation) written.table ∙ generation-written entries t ∙ is.generation;
    list_generation = ap (λ (w : OwnerListView). w.generation) written.list ∙ is.list_generation;
    writes = current
        ∙ (λ i. is.writes i ++ now i)
        ∙ sym (writes_upto-grown s n round (count_before s n round) first (length-writes_before s n round));
    all = ap entries_of written.list
        ∙ sym (append_assoc v.earlier v.current entries)
        ∙ (λ i. is.all i ++ now i)
        ∙ sym (written_upto-grown s n round (count_before s n round) first refl);
    few = omega (arith, ap length current, length-append v.current entries, length-map writes (born_in round t.generation), small, is.few, first);
    greatest = written.greatest;
    own_part = written.own_part;
    born = written.born;
  },
  written.table ∙ ap (with_own_writes t) now,
)
  where
    v : OwnerListView
    v = list_of_owner h.lists n

    entries : List Entry
    entries = map (born_in round t.generation) writes

    written : HasWritten round writes t u v (list_of_owner h'.lists n)
    written =
        subst (λ r. HasWritten r writes t u v (list_of_owner h'.lists n)) next
        (subst (λ m. HasWritten (h.rounds + 1) writes t u (list_of_owner h.lists m) (list_of_owner h'.lists m)) is.table.node made_in)

    current : (list_of_owner h'.lists n).current ≡ v.current ++ entries
    current = ap (λ (w : OwnerListView). w.current) written.list

    now : entries ≡ own_writes s n round (count_before s n round)
    now = made_now s round n t v writes is made

-- what stands after the round's writes, as the tables see it
no_list : (s : Settings) (round : ℕ) (ts : List Table) (lists : List OwnerListView) → StandAfterRound s round ts lists → (n : ℕ) → s.nodes ≤ n
    → [] ≡ all_writes lists n
no_list s round ts lists is n past = ap entries_of (sym (get_or_past lists n no_writes (omega (arith, past, is.list_count))))

written_at : (s : Settings) (round : ℕ) (ts : List Table) (lists : List OwnerListView) → StandAfterRound s round ts lists → (P : List Entry → Type 0)
    → ((n : ℕ) → P (written_upto s n round)) → P [] → (n : ℕ) → P (all_writes lists n)
written_at s round ts lists is P each none n = elim (cases_lt n s.nodes) [
  | inl below ↦ subst P (sym (is.owners n below).all) (each n)
  | inr past ↦ subst P (no_list s round ts lists is n past) none
]

pub written_by : (s : Settings) (round : ℕ) (ts : List Table) (lists : List OwnerListView) → StandAfterRound s round ts lists → AreWrittenBy round lists
written_by s round ts lists is = record {
  born = written_at s round ts lists is (All (λ e. e.born ≤ round)) (λ n. born_upto s n round) (All-nil (λ (e : Entry). e.born ≤ round));
  in_order = written_at s round ts lists is BirthsRise (λ n. births_rise s n round) (λ i j d le lt. absurd (omega arith));
}

-- a table beside its own list
pub beside_own : (s : Settings) (n generation : ℕ) (writes all : List Entry) (round : ℕ) (t : Table) (lists : List OwnerListView)
    → IsOwnerOf s n generation writes all round t (list_of_owner lists n) → StandsBeside t (own_list t lists)
beside_own s n generation writes all round t lists is = subst (λ m. StandsBeside t (list_of_owner lists m)) (sym is.table.node) (record {
  generation = is.generation ∙ sym is.list_generation;
  greatest = is.greatest;
  own_part = is.own_part;
})
