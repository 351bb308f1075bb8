-- How far a node's writes of a round have been made.
-- Serves `write_own`.
use Rattle.cluster.proofs.Common.{◌≡◌, ℕ, ◌+◌, ◌^◌, ◌<◌, ◌≤◌, List, [], ◌∷◌, ◌++◌, length, map, take, get_or, refl, sym, ap, ◌∙◌, subst, arith, length-append, fold-append, All-push, append_assoc, get_or-map, length-map, length-take-le, map-append, take_more, Entry, next_version, IsNextAfter, Table, greatest_version, with_own_write, with_own_writes, IsProper, proper-with_own_write, counted_write, OwnWrite, born_in, Write, OwnerListView, all_writes, written, next_entry, with_write, list_of_owner, ListBecomes, write_of_entry, AreBornBy, next_write, written_more, OwnPartIsLastWrites, own_part-written, own_list, HistoriesView, StandsBeside, MayWrite, AddsWrite}
use Rattle.cluster.specs.inner.Steps.{LeavesOthers, MayWriteOwn}

-- these entries are written
pub record IsWriting (round : ℕ) (t0 t : Table) (v0 v : OwnerListView) (es : List Entry) : Type 0 where
  pub keys : t.keys ≡ t0.keys
  pub generation : t.generation ≡ t0.generation
  pub proper : IsProper t
  pub table : t ≡ with_own_writes t0 es
  pub count : length v.current ≡ length v0.current + length es
  pub list : v ≡ record v0 { current = v0.current ++ es }
  pub greatest : greatest_version t t.node ≡ length v.current
  pub own_part : OwnPartIsLastWrites t (written v)
  pub born : AreBornBy round (written v)

-- the next one is as the list numbers it
next_is : (round : ℕ) (t0 t : Table) (v0 v : OwnerListView) (es : List Entry) (e : Entry) → IsWriting round t0 t v0 v es → v0.generation ≡ t0.generation → IsNextAfter t0.generation (length v.current) e → next_entry v e.key e.value e.born ≡ e
next_is round t0 t v0 v es e so_far same next =
    λ j. record { key = e.key; generation = (ap (λ (u : OwnerListView). u.generation) so_far.list ∙ same ∙ sym next.0) j; version = sym next.1 j; value = e.value; born = e.born }

-- one more is written
pub writing_more : (round : ℕ) (t0 t t' : Table) (v0 v v' : OwnerListView) (es : List Entry) (e : Entry) → IsWriting round t0 t v0 v es → v0.generation ≡ t0.generation → IsNextAfter t0.generation (length v.current) e → e.born ≤ round → e.key < t.keys → t' ≡ with_own_write t e.key e.value e.born → v' ≡ with_write v e.key e.value e.born → IsWriting round t0 t' v0 v' (es ++ e ∷ [])
writing_more round t0 t t' v0 v v' es e so_far same next now key t'_is v'_is = record {
  keys = ap (λ (u : Table). u.keys) t'_is ∙ so_far.keys;
  generation = ap (λ (u : Table). u.generation) t'_is ∙ so_far.generation;
  proper = subst IsProper (sym t'_is) (proper-with_own_write t e.key e.value e.born so_far.proper key);
  table = t'_is ∙ ap (λ (u : Table). with_own_write u e.key e.value e.born) so_far.table
      ∙ sym (fold-append (λ (u : Table) (x : Entry). with_own_write u x.key x.value x.born) t0 es (e ∷ []));
  count = omega (arith, grown, so_far.count, length-append es (e ∷ []));
  list = v'_is
      ∙ (λ j. record (so_far.list j) { current = (so_far.list j).current ++ as_entry j ∷ [] })
      ∙ ap (λ l. record v0 { current = l }) (append_assoc v0.current es (e ∷ []));
  greatest = ap (λ (u : Table). greatest_version u u.node) t'_is ∙ counted_write t e.key e.value e.born so_far.proper key ∙ ap next_version so_far.greatest ∙ sym grown;
  own_part = subst (λ (u : Table). OwnPartIsLastWrites u (written v')) (sym t'_is) (subst (OwnPartIsLastWrites (with_own_write t e.key e.value e.born)) (sym shown)
      (own_part-written t (written v) e.key e.value e.born so_far.own_part (so_far.greatest ∙ sym (length-map v.current write_of_entry))));
  born = subst (AreBornBy round) (sym shown) (All-push (λ (x : Write). x.born ≤ round) (written v) (next_write (written v) e.key e.born) so_far.born now);
}
  where
    as_entry : next_entry v e.key e.value e.born ≡ e
    as_entry = next_is round t0 t v0 v es e so_far same next

    grown : length v'.current ≡ length v.current + 1
    grown = ap (λ (u : OwnerListView). length u.current) v'_is ∙ length-append v.current (next_entry v e.key e.value e.born ∷ []) ∙ omega arith

    shown : written v' ≡ written v ++ next_write (written v) e.key e.born ∷ []
    shown = ap written v'_is ∙ written_more v e.key e.value e.born

-- these entries of the next round are written to a node's table and its list, and nothing else has changed
pub record IsWritingIn (t0 t : Table) (h0 h : HistoriesView) (es : List Entry) : Type 0 where
  pub own : IsWriting (h0.rounds + 1) t0 t (own_list t0 h0.lists) (own_list t0 h.lists) es
  pub node : t.node ≡ t0.node
  pub others : LeavesOthers t0.node h0 h

module _ (t0 t : Table) (h0 h : HistoriesView) (es : List Entry) (e : Entry) (so_far : IsWritingIn t0 t h0 h es) (beside : StandsBeside t0 (own_list t0 h0.lists)) (next : IsNextAfter t0.generation (length (own_list t0 h.lists).current) e) (born : e.born ≡ h0.rounds + 1) where
  abbrev lists0 : List OwnerListView
  lists0 = h0.lists

  abbrev lists : List OwnerListView
  lists = h.lists

  -- it is born in the next round
  born_now : e.born ≡ h.rounds + 1
  born_now = omega (arith, born, so_far.others.beside.rounds)

  abbrev v0 : OwnerListView
  v0 = own_list t0 lists0

  abbrev v : OwnerListView
  v = own_list t0 lists

  same_list : own_list t lists ≡ v
  same_list = ap (list_of_owner lists) so_far.node

  counted : length (all_writes lists0 t0.node) + length es + 1 ≡ length (all_writes lists t0.node) + 1
  counted =
      omega (arith, length-append v0.earlier v0.current, length-append v.earlier v.current, ap (λ (u : OwnerListView). length u.earlier) so_far.own.list, so_far.own.count)

  -- the next one may be written
  pub may_write_next : (May : ℕ → ℕ → Entry → Type 0) → May t0.node (length (all_writes lists0 t0.node) + length es + 1) e → t0.node < length lists0 → t0.keys ≡ h0.keys → e.key < t0.keys → length v0.current + length es + 1 < 2 ^ 32 → MayWrite May t h e.key e.value
  may_write_next May may owner keys key few = record {
    owner = omega (arith, owner, so_far.node, so_far.others.others.count);
    keys = so_far.own.keys ∙ keys ∙ sym so_far.others.beside.keys;
    key_below = subst (λ k. e.key < k) (sym so_far.own.keys) key;
    few = omega (arith, few, so_far.own.count, ap (λ (u : OwnerListView). length u.current) same_list);
    beside = subst (StandsBeside t) (sym same_list) (record {
      generation = so_far.own.generation ∙ beside.generation ∙ sym (ap (λ (u : OwnerListView). u.generation) so_far.own.list);
      greatest = so_far.own.greatest;
      own_part = so_far.own.own_part;
    });
    may = subst (λ m. May m (length (all_writes lists m) + 1) (next_entry (list_of_owner lists m) e.key e.value (h.rounds + 1))) (sym so_far.node)
        (subst (λ b. May t0.node (length (all_writes lists t0.node) + 1) (next_entry v e.key e.value b)) born_now
        (subst (May t0.node (length (all_writes lists t0.node) + 1)) (sym (next_is (h0.rounds + 1) t0 t v0 v es e so_far.own (sym beside.generation) next))
        (subst (λ k. May t0.node k e) counted may)));
  }

  -- and once it is
  pub writing_next : (t' : Table) (h' : HistoriesView) → e.key < t0.keys → t' ≡ with_own_write t e.key e.value (h.rounds + 1) → AddsWrite t e.key e.value h h' → IsWritingIn t0 t' h0 h' (es ++ e ∷ [])
  writing_next t' h' key t'_is added = record {
    own = writing_more (h0.rounds + 1) t0 t t' v0 v (own_list t0 h'.lists) es e so_far.own (sym beside.generation) next (omega (arith, born)) (subst (λ k. e.key < k) (sym so_far.own.keys) key)
        (t'_is ∙ ap (with_own_write t e.key e.value) (sym born_now)) becomes.changed;
    node = ap (λ (u : Table). u.node) t'_is ∙ so_far.node;
    others = record {
      others = record {
        count = becomes.count ∙ so_far.others.others.count;
        others = λ other apart. becomes.others other apart ∙ so_far.others.others.others other apart;
      };
      beside = record {
        keys = added.beside.keys ∙ so_far.others.beside.keys;
        rounds = added.beside.rounds ∙ so_far.others.beside.rounds;
      };
    };
  }
    where
      becomes : ListBecomes t0.node (with_write v e.key e.value e.born) lists h'.lists
      becomes =
          subst (λ b. ListBecomes t0.node (with_write v e.key e.value b) lists h'.lists) (sym born_now)
          (subst (λ m. ListBecomes m (with_write (list_of_owner lists m) e.key e.value (h.rounds + 1)) lists h'.lists) so_far.node added.lists)

abbrev pub no_write : OwnWrite
no_write = record { key = 0; value = 0; version = 0 }

-- the writes of a round in order, those before the i-th made
module _ {May : ℕ → ℕ → Entry → Type 0} (t0 t : Table) (h0 h : HistoriesView) (writes : List OwnWrite) (i : ℕ) (lt : i < length writes) (so_far : IsWritingIn t0 t h0 h (map (born_in (h0.rounds + 1) t0.generation) (take i writes)))
    (may : MayWriteOwn May (h0.rounds + 1) writes t0 h0) where
  abbrev entry_of : OwnWrite → Entry
  entry_of = born_in (h0.rounds + 1) t0.generation

  abbrev done : List Entry
  done = map entry_of (take i writes)

  abbrev w : OwnWrite
  w = get_or writes i no_write

  count : length done ≡ i
  count = length-map (take i writes) entry_of ∙ length-take-le i writes (omega (arith, lt))

  within : i < length (map entry_of writes)
  within = omega (arith, lt, length-map writes entry_of)

  here : get_or (map entry_of writes) i (entry_of no_write) ≡ entry_of w
  here = get_or-map entry_of writes i no_write (entry_of no_write) lt

  is_next_write : IsNextAfter t0.generation (length (own_list t0 h.lists).current) (entry_of w)
  is_next_write = (refl, omega (arith, ap (λ (e : Entry). e.version) here, (may.next i (entry_of no_write) within).1, so_far.own.count, count))

  -- the i-th may be made
  pub may_write_at : MayWrite May t h w.key w.value
  may_write_at =
      may_write_next t0 t h0 h done (entry_of w) so_far may.beside is_next_write refl May
      (subst (λ k. May t0.node (length (all_writes h0.lists t0.node) + k + 1) (entry_of w)) (sym count)
      (subst (May t0.node (length (all_writes h0.lists t0.node) + i + 1)) here (may.may i (entry_of no_write) within)))
      may.owner may.as_many_keys (may.keys i no_write lt) (omega (arith, may.fits, count, lt))

  -- and once it is
  pub writing_at : (t' : Table) (h' : HistoriesView) → t' ≡ with_own_write t w.key w.value (h.rounds + 1) → AddsWrite t w.key w.value h h' → IsWritingIn t0 t' h0 h' (map entry_of (take (i + 1) writes))
  writing_at t' h' t'_is added =
      subst (IsWritingIn t0 t' h0 h') (sym longer) (writing_next t0 t h0 h done (entry_of w) so_far may.beside is_next_write refl t' h' (may.keys i no_write lt) t'_is added)
    where
      longer : map entry_of (take (i + 1) writes) ≡ done ++ entry_of w ∷ []
      longer = ap (map entry_of) (take_more writes i no_write lt) ∙ map-append entry_of (take i writes) (w ∷ [])
