-- Laws of the begin of a round, for the crates above: own writes and restarts leave copies that hold nothing but their
-- owners' writes, and none with a gap. Only the owner writes its own state, and each write gets a mark above all
-- earlier ones; a restart may drop what the node holds of another owner, and of itself where it forgets.
-- Serves `no_copy_is_ahead`, `cluster`, `fixtures`, `played_rounds` and `run_laws`.
use Rattle.model.proofs.Common.{◌≡◌, ◌≢◌, ℕ, suc, ◌+◌, ◌<◌, ◌≤◌, List, [], ◌∷◌, ◌++◌, length, Some, None, ◌⊎◌, inl, inr, All, refl, sym, ap, ◌∙◌, subst, arith, append_assoc, cases_eq, cases_lt, append-nil, get_or_past, All-head, All-tail, Contains-append_left, Contains-push, Contains-push_cases, Entry, Mark, next_version, IsNextAfter, AreNextAfter, mark_of, mark_held, IsBefore, IsUpTo, absent-first, before-up_to, not_both, up_to-before, up_to-itself, up_to-then, same_Some}
use Rattle.std.specs.Prelude.{Contains}
use Rattle.model.specs.Table.{Table, empty_table, entry_at, mark_at, greatest_mark, greatest_version, own_write, with_own_write, with_own_writes, without_others, without_all, IsProper}
use Rattle.model.proofs.Greatest.{greatest_mark-from, greatest_mark-none, greatest_mark-same, mark_at-up_to_greatest}
use Rattle.model.proofs.TableLaws.{entry_at-own_write, entry_at-own_write_other, entry_at-without_others_own, entry_at-without_others_other, entry_at-without_all, entry_at-empty_table}
use Rattle.model.proofs.MarkLaws.{greatest_mark-own_write, greatest_mark-own_write_other, greatest_mark-without_others_own}
use Rattle.model.proofs.ProperLaws.{proper-with_own_write, proper-without_others, proper-without_all}
use Rattle.model.specs.Tables.{table_of_node, AreTablesInOrder, AreProper}
use Rattle.model.specs.ExchangeLaws.{NoMarkFalls}
use Rattle.model.specs.Copies.{WritesBy, IsCurrentOrOlder, IsLastOf}
use Rattle.model.proofs.ExchangeLaws.{marks_stay, marks_then}
use Rattle.model.specs.Clusters.{own_parts, generations_of, AreCopiesOf, HaveNoGap}
use Rattle.model.specs.calls.Clusters.{own_mark}

-- the node stays, and so does how many nodes and keys there are
pub record KeepsBounds (old new : Table) : Type 0 where
  pub node : new.node ≡ old.node
  pub nodes : new.nodes ≡ old.nodes
  pub keys : new.keys ≡ old.keys

-- what a round's begin makes of a node's table and of its list of writes
pub record IsBegun (before : List Entry) (old : Table) (after : List Entry) (new : Table) : Type 0 where
  pub proper : IsProper new
  pub bounds : KeepsBounds old new
  -- no write is gone, and the new own part is the last write of each key in the node's generation
  pub kept : (e : Entry) → Contains before e → Contains after e
  pub last : IsLastOf new.generation after (λ key. entry_at new new.node key)
  -- what is new there has a mark above all before
  pub written : (key : ℕ) (e : Entry) → entry_at new new.node key ≡ Some e → (entry_at old old.node key ≡ Some e) ⊎ IsBefore (own_mark old) (mark_of e)
  pub rises : IsUpTo (own_mark old) (own_mark new)
  -- what is held of another owner stays, or none of it
  pub copies : (owner : ℕ) → owner ≢ old.node → ((key : ℕ) → entry_at new owner key ≡ entry_at old owner key) ⊎ ((key : ℕ) → entry_at new owner key ≡ None)

-- no own mark is above how far the writes have come
own-up_to : (t : Table) → IsProper t → (key : ℕ) → IsUpTo (mark_at t t.node key) (own_mark t)
own-up_to t proper key = elim (entry_at t t.node key) as (λ o. entry_at t t.node key ≡ o → IsUpTo (mark_held o) (own_mark t)) [
  | None ↦ λ _. absent-first (own_mark t)
  | Some e ↦ λ held.
      let known = subst (λ h. IsUpTo (mark_held h) (greatest_mark t t.node)) held (mark_at-up_to_greatest t t.node key (proper.in_place t.node key e held).key_below) in
      record { generation = omega (arith, proper.own key e held); version = λ _. known.version (proper.copies t.node key e held) }
] refl

-- no write of the owner is
write-up_to : (writes : List Entry) (t : Table) (e : Entry) → IsProper t → IsLastOf t.generation writes (λ key. entry_at t t.node key) → Contains writes e → IsUpTo (mark_of e) (own_mark t)
write-up_to writes t e proper last there = elim (last.last e there) [
  | inl forgotten ↦ record { generation = omega (arith, forgotten); version = λ same. absurd (omega (arith, forgotten, same)) }
  | inr (inl current) ↦ subst (λ h. IsUpTo (mark_held h) (own_mark t)) current (own-up_to t proper e.key)
  | inr (inr older) ↦ up_to-then (mark_of e) (mark_at t t.node e.key) (own_mark t) (before-up_to (mark_of e) (mark_at t t.node e.key) older) (own-up_to t proper e.key)
]

-- the greatest own mark is the absent one, or that
own-greatest : (t : Table) → IsProper t → IsUpTo (greatest_mark t t.node) (own_mark t)
own-greatest t proper = elim (greatest_mark-from t t.node) [
  | inl none ↦ subst (λ m. IsUpTo m (own_mark t)) (sym none) (absent-first (own_mark t))
  | inr (key, lt, is) ↦ subst (λ m. IsUpTo m (own_mark t)) is (own-up_to t proper key)
]

module _ (writes : List Entry) (t : Table) (proper : IsProper t) (last : IsLastOf t.generation writes (λ key. entry_at t t.node key)) where
  -- nothing may happen
  pub begun_same : IsBegun writes t writes t
  begun_same = record {
    proper = proper;
    bounds = record { node = refl; nodes = refl; keys = refl };
    kept = λ e there. there;
    last = last;
    written = λ key e held. inl held;
    rises = up_to-itself (own_mark t);
    copies = λ owner other. inl (λ key. refl);
  }

  -- a restart that forgets
  pub begun_forget : IsBegun writes t writes (without_all t)
  begun_forget = record {
    proper = proper-without_all t proper;
    bounds = record { node = refl; nodes = refl; keys = refl };
    kept = λ e there. there;
    last = record {
      apart = last.apart;
      written = λ key e held. absurd (forgotten key e held);
      last = λ e there. inl (omega (arith, (write-up_to writes t e proper last there).generation));
    };
    written = λ key e held. absurd (forgotten key e held);
    rises = record { generation = omega arith; version = λ same. absurd (omega (arith, same)) };
    copies = λ owner other. inr (λ key. entry_at-without_all t owner key);
  }
    where
      forgotten : (key : ℕ) (e : Entry) → entry_at (without_all t) t.node key ≡ Some e → ⊥
      forgotten key e held = let none = entry_at-without_all t t.node key in cc

  -- a restart that doesn't
  pub begun_restart : IsBegun writes t writes (without_others t)
  begun_restart = record {
    proper = proper-without_others t proper;
    bounds = record { node = refl; nodes = refl; keys = refl };
    kept = λ e there. there;
    last = subst (IsLastOf t.generation writes) (λ i key. sym (entry_at-without_others_own t key) i) last;
    written = λ key e held. inl (sym (entry_at-without_others_own t key) ∙ held);
    rises = subst (IsUpTo (own_mark t)) (λ i. record { generation = t.generation; version = (sym (greatest_mark-without_others_own t) i).version }) (up_to-itself (own_mark t));
    copies = λ owner other. inr (λ key. entry_at-without_others_other t owner key other);
  }

  -- an own write
  module _ (k v b : ℕ) (below : k < t.keys) where
    above : (m : Mark) → IsUpTo m (own_mark t) → IsBefore m (mark_of (own_write t k v b))
    above m up = record { generation = up.generation; version = λ same. omega (arith, up.version same) }

    older : (e : Entry) → Contains writes e → IsBefore (mark_of e) (mark_of (own_write t k v b))
    older e there = above (mark_of e) (write-up_to writes t e proper last there)

    last_written : IsLastOf t.generation (writes ++ own_write t k v b ∷ []) (λ key. entry_at (with_own_write t k v b) t.node key)
    last_written = record {
      apart = λ d e in_d in_e same. apart d e (Contains-push_cases writes (own_write t k v b) d in_d) (Contains-push_cases writes (own_write t k v b) e in_e) same;
      written = λ key e held. elim (cases_eq key k) [
        | inl here ↦
            let is : own_write t k v b ≡ e = same_Some _ e (sym (entry_at-own_write t k v b) ∙ subst (λ j. entry_at (with_own_write t k v b) t.node j ≡ Some e) here held) in
            (subst (Contains (writes ++ own_write t k v b ∷ [])) is (Contains-push writes (own_write t k v b)), ap (λ (x : Entry). x.key) (sym is) ∙ sym here, ap (λ (x : Entry). x.generation) (sym is))
        | inr other ↦
            let was = last.written key e (sym (entry_at-own_write_other t k v b t.node key (inr other)) ∙ held) in
            (Contains-append_left writes (own_write t k v b ∷ []) e was.0, was.1, was.2)
      ];
      last = λ e there. elim (Contains-push_cases writes (own_write t k v b) e there) [
        | inl before ↦ elim (cases_eq e.key k) [
          | inl here ↦ inr (inr (subst (λ h. IsBefore (mark_of e) (mark_held h)) (sym (subst (λ j. entry_at (with_own_write t k v b) t.node j ≡ Some (own_write t k v b)) (sym here) (entry_at-own_write t k v b))) (older e before)))
          | inr other ↦ subst (λ o. (e.generation < t.generation) ⊎ IsCurrentOrOlder o e) (sym (entry_at-own_write_other t k v b t.node e.key (inr other))) (last.last e before)
        ]
        | inr is ↦ inr (subst (λ (x : Entry). IsCurrentOrOlder (entry_at (with_own_write t k v b) t.node x.key) x) is (inl (entry_at-own_write t k v b)))
      ];
    }
      where
        apart : (d e : Entry) → Contains writes d ⊎ (own_write t k v b ≡ d) → Contains writes e ⊎ (own_write t k v b ≡ e) → mark_of d ≡ mark_of e → d ≡ e
        apart d e (inl in_d) (inl in_e) same = last.apart d e in_d in_e same
        apart d e (inl in_d) (inr is_e) same = absurd (omega (arith, (older d in_d).version (ap (λ (m : Mark). m.generation) (same ∙ ap mark_of (sym is_e))), ap (λ (m : Mark). m.version) (same ∙ ap mark_of (sym is_e))))
        apart d e (inr is_d) (inl in_e) same = absurd (omega (arith, (older e in_e).version (ap (λ (m : Mark). m.generation) (sym same ∙ ap mark_of (sym is_d))), ap (λ (m : Mark). m.version) (sym same ∙ ap mark_of (sym is_d))))
        apart d e (inr is_d) (inr is_e) same = sym is_d ∙ is_e

    pub begun_write : IsBegun writes t (writes ++ own_write t k v b ∷ []) (with_own_write t k v b)
    begun_write = record {
      proper = proper-with_own_write t k v b proper below;
      bounds = record { node = refl; nodes = refl; keys = refl };
      kept = λ e there. Contains-append_left writes (own_write t k v b ∷ []) e there;
      last = last_written;
      written = λ key e held. elim (cases_eq key k) [
        | inl here ↦
            let is : own_write t k v b ≡ e = same_Some _ e (sym (entry_at-own_write t k v b) ∙ subst (λ j. entry_at (with_own_write t k v b) t.node j ≡ Some e) here held) in
            inr (subst (λ (x : Entry). IsBefore (own_mark t) (mark_of x)) is (above (own_mark t) (up_to-itself (own_mark t))))
        | inr other ↦ inl (sym (entry_at-own_write_other t k v b t.node key (inr other)) ∙ held)
      ];
      rises = record { generation = omega arith; version = λ _. omega (arith, ap (λ (m : Mark). m.version) (greatest_mark-own_write t k v b proper below)) };
      copies = λ owner other. inl (λ key. entry_at-own_write_other t k v b owner key (inl other));
    }

-- one after another
pub begun_then : (a b c : List Entry) (t u v : Table) → IsBegun a t b u → IsBegun b u c v → IsBegun a t c v
begun_then a b c t u v first second = record {
  proper = second.proper;
  bounds = record { node = second.bounds.node ∙ first.bounds.node; nodes = second.bounds.nodes ∙ first.bounds.nodes; keys = second.bounds.keys ∙ first.bounds.keys };
  kept = λ e there. second.kept e (first.kept e there);
  last = second.last;
  written = λ key e held. elim (second.written key e held) [
    | inl before ↦ first.written key e before
    | inr above ↦ inr (up_to-before (own_mark t) (own_mark u) (mark_of e) first.rises above)
  ];
  rises = up_to-then (own_mark t) (own_mark u) (own_mark v) first.rises second.rises;
  copies = λ owner other. elim (second.copies owner (λ same. other (same ∙ first.bounds.node))) [
    | inl kept ↦ elim (first.copies owner other) [
      | inl before ↦ inl (λ key. kept key ∙ before key)
      | inr none ↦ inr (λ key. kept key ∙ none key)
    ]
    | inr none ↦ inr none
  ];
}

-- own writes one after another, of entries that are the owner's next ones
next_own_write : (t : Table) (count : ℕ) (e : Entry) → greatest_version t t.node ≡ count → IsNextAfter t.generation count e → own_write t e.key e.value e.born ≡ e
next_own_write t count e greatest next =
    λ i. record { key = e.key; generation = sym next.0 i; version = (ap next_version greatest ∙ sym next.1) i; value = e.value; born = e.born }

next_tail : (generation count : ℕ) (e : Entry) (es : List Entry) → AreNextAfter generation count (e ∷ es) → AreNextAfter generation (next_version count) es
next_tail generation count e es next i d lt = let at = next (suc i) d (omega arith) in (at.0, at.1 ∙ omega arith)

-- one counts on
pub counted_write : (t : Table) (k v b : ℕ) → IsProper t → k < t.keys → greatest_version (with_own_write t k v b) t.node ≡ next_version (greatest_version t t.node)
counted_write t k v b proper below = ap (λ (m : Mark). m.version) (greatest_mark-own_write t k v b proper below)

pub begun_writes : (es writes : List Entry) (t : Table) (count : ℕ) → IsProper t → IsLastOf t.generation writes (λ j. entry_at t t.node j) → greatest_version t t.node ≡ count → AreNextAfter t.generation count es → All (λ e. e.key < t.keys) es → IsBegun writes t (writes ++ es) (with_own_writes t es)
begun_writes [] writes t count proper last greatest next below = subst (λ ws. IsBegun writes t ws t) (sym (append-nil writes)) (begun_same writes t proper last)
begun_writes (e ∷ es) writes t count proper last greatest next below =
    let in_keys = All-head (λ (x : Entry). x.key < t.keys) e es below in
    let first = begun_write writes t proper last e.key e.value e.born in_keys in
    let u : Table = with_own_write t e.key e.value e.born in
    let written = writes ++ own_write t e.key e.value e.born ∷ [] in
    let rest = begun_writes es written u (next_version count) first.proper first.last
    (counted_write t e.key e.value e.born proper in_keys ∙ ap next_version greatest) (next_tail t.generation count e es next) (All-tail (λ (x : Entry). x.key < t.keys) e es below) in
    let here = next 0 e (omega arith) in
    subst (λ ws. IsBegun writes t ws (with_own_writes u es))
    (append_assoc writes (own_write t e.key e.value e.born ∷ []) es
    ∙ ap (λ x. writes ++ x ∷ es) (next_own_write t count e greatest (here.0, here.1 ∙ omega arith)))
    (begun_then writes written (written ++ es) t u (with_own_writes u es) first rest)

-- and no mark goes down by them
own_write_rises : (t : Table) (k v b : ℕ) → IsProper t → k < t.keys → NoMarkFalls t (with_own_write t k v b)
own_write_rises t k v b proper below = record {
  greatest = λ owner. elim (cases_eq owner t.node) [
    | inr other ↦ subst (IsUpTo (greatest_mark t owner)) (sym (greatest_mark-own_write_other t k v b owner other)) (up_to-itself (greatest_mark t owner))
    | inl own ↦ subst (λ o. IsUpTo (greatest_mark t o) (greatest_mark (with_own_write t k v b) o)) (sym own) (subst (IsUpTo (greatest_mark t t.node)) (sym (greatest_mark-own_write t k v b proper below)) (over (greatest_mark t t.node) (own-greatest t proper)))
  ];
  within = λ owner key _. elim (cases_eq owner t.node) [
    | inr other ↦ stays owner key (inl other)
    | inl own ↦ subst (λ o. IsUpTo (mark_at t o key) (mark_at (with_own_write t k v b) o key)) (sym own) (elim (cases_eq key k) [
      | inr other ↦ stays t.node key (inr other)
      | inl here ↦ subst (λ j. IsUpTo (mark_at t t.node j) (mark_at (with_own_write t k v b) t.node j)) (sym here) (subst (λ h. IsUpTo (mark_at t t.node k) (mark_held h)) (sym (entry_at-own_write t k v b)) (over (mark_at t t.node k) (own-up_to t proper k)))
    ])
  ];
}
  where
    over : (m : Mark) → IsUpTo m (own_mark t) → IsUpTo m (mark_of (own_write t k v b))
    over m up = record { generation = up.generation; version = λ same. omega (arith, up.version same) }

    stays : (owner key : ℕ) → (owner ≢ t.node) ⊎ (key ≢ k) → IsUpTo (mark_at t owner key) (mark_at (with_own_write t k v b) owner key)
    stays owner key other = subst (λ h. IsUpTo (mark_at t owner key) (mark_held h)) (sym (entry_at-own_write_other t k v b owner key other)) (up_to-itself (mark_at t owner key))

pub written_rises : (es : List Entry) (t : Table) → IsProper t → All (λ e. e.key < t.keys) es → NoMarkFalls t (with_own_writes t es)
written_rises [] t proper below = marks_stay t
written_rises (e ∷ es) t proper below =
    let fits = All-head (λ (x : Entry). x.key < t.keys) e es below in
    let u : Table = with_own_write t e.key e.value e.born in
    let rest = written_rises es u (proper-with_own_write t e.key e.value e.born proper fits) (All-tail (λ (x : Entry). x.key < t.keys) e es below) in
    marks_then t u (with_own_writes u es) (own_write_rises t e.key e.value e.born proper fits) rest

-- and each counts one on
pub counted_writes : (es : List Entry) (t : Table) → IsProper t → All (λ e. e.key < t.keys) es → greatest_version (with_own_writes t es) t.node ≡ greatest_version t t.node + length es
counted_writes [] t proper below = omega arith
counted_writes (e ∷ es) t proper below =
    let fits = All-head (λ (x : Entry). x.key < t.keys) e es below in
    counted_writes es (with_own_write t e.key e.value e.born) (proper-with_own_write t e.key e.value e.born proper fits) (All-tail (λ (x : Entry). x.key < t.keys) e es below)
    ∙ ap (λ n. n + length es) (counted_write t e.key e.value e.born proper fits)
    ∙ omega arith

-- writes leave the generation
pub generation-written : (es : List Entry) (t : Table) → (with_own_writes t es).generation ≡ t.generation
generation-written [] t = refl
generation-written (e ∷ es) t = generation-written es (with_own_write t e.key e.value e.born)

-- no copy is ahead of its owner
module _ (writes : WritesBy) (nodes keys : ℕ) (ts : List Table) (copies : AreCopiesOf writes nodes keys ts) where
  pub copy-up_to : (n owner : ℕ) → n < nodes → owner < nodes → IsUpTo (greatest_mark (table_of_node ts n) owner) (own_mark (table_of_node ts owner))
  copy-up_to n owner in_n in_owner = elim (greatest_mark-from (table_of_node ts n) owner) [
    | inl none ↦ subst (λ m. IsUpTo m (own_mark (table_of_node ts owner))) (sym none) (absent-first (own_mark (table_of_node ts owner)))
    | inr (key, lt, is) ↦ subst (λ m. IsUpTo m (own_mark (table_of_node ts owner))) is (elim (entry_at (table_of_node ts n) owner key) as (λ o. entry_at (table_of_node ts n) owner key ≡ o → IsUpTo (mark_held o) (own_mark (table_of_node ts owner))) [
      | None ↦ λ _. absent-first (own_mark (table_of_node ts owner))
      | Some e ↦ λ held. write-up_to (writes owner) (table_of_node ts owner) e (copies.proper owner (omega (arith, in_owner, copies.tables.size))) own_last (copies.holds n in_n owner key e held).0
    ] refl)
  ]
    where
      own_last : IsLastOf (table_of_node ts owner).generation (writes owner) (λ key. entry_at (table_of_node ts owner) (table_of_node ts owner).node key)
      own_last = subst (λ m. IsLastOf (table_of_node ts owner).generation (writes owner) (λ key. entry_at (table_of_node ts owner) m key)) (sym (copies.tables.tables owner in_owner).node) (copies.last owner in_owner)

-- past the last node nothing is held
nothing_past : (ts : List Table) (owner key : ℕ) (e : Entry) → length ts ≤ owner → own_parts ts owner key ≡ Some e → ⊥
nothing_past ts owner key e past held =
    let none : own_parts ts owner key ≡ None = ap (λ (t : Table). entry_at t owner key) (get_or_past ts owner (empty_table 0 0 0) past) ∙ entry_at-empty_table 0 0 0 owner key in
    cc

-- where nothing is held nothing was written
module _ (nodes keys : ℕ) (ts : List Table) (tables : AreTablesInOrder nodes keys ts) (proper : AreProper ts) (empty : (n owner key : ℕ) → n < nodes → entry_at (table_of_node ts n) owner key ≡ None) where
  nothing_held : (n owner key : ℕ) (e : Entry) → n < nodes → entry_at (table_of_node ts n) owner key ≡ Some e → ⊥
  nothing_held n owner key e lt held = let none = empty n owner key lt in cc

  pub empty_copies : AreCopiesOf (λ _. []) nodes keys ts
  empty_copies = record {
    tables = tables;
    proper = proper;
    last = λ owner lt. record {
      apart = λ d e there _ _. absurd (omega (arith, there.1));
      written = λ key e held. absurd (nothing_held owner owner key e lt held);
      last = λ e there. absurd (omega (arith, there.1));
    };
    holds = λ n lt owner key e held. absurd (nothing_held n owner key e lt held);
  }

  pub empty_no_gap : HaveNoGap ts
  empty_no_gap n lt owner key e current upto = elim (cases_lt owner (length ts)) [
    | inl in_ts ↦ absurd (nothing_held owner owner key e (omega (arith, in_ts, tables.size)) current)
    | inr past ↦ absurd (nothing_past ts owner key e past current)
  ]

-- each node of a list begins its round
module _ (writes writes' : WritesBy) (nodes keys : ℕ) (ts us : List Table) (copies : AreCopiesOf writes nodes keys ts) (size : length us ≡ length ts) (begun : (n : ℕ) → n < nodes → IsBegun (writes n) (table_of_node ts n) (writes' n) (table_of_node us n)) where
  at_node : (n : ℕ) → n < nodes → (table_of_node us n).node ≡ n
  at_node n lt = (begun n lt).bounds.node ∙ (copies.tables.tables n lt).node

  -- what is held of another owner was held before
  held_before : (n owner key : ℕ) (e : Entry) → n < nodes → owner ≢ n → entry_at (table_of_node us n) owner key ≡ Some e → entry_at (table_of_node ts n) owner key ≡ Some e
  held_before n owner key e lt other held = elim ((begun n lt).copies owner (λ same. other (same ∙ (copies.tables.tables n lt).node))) [
    | inl kept ↦ sym (kept key) ∙ held
    | inr none ↦ let nothing = none key in cc
  ]

  last_begun : (n : ℕ) → n < nodes → IsLastOf (generations_of us n) (writes' n) (own_parts us n)
  last_begun n lt = subst (λ m. IsLastOf (generations_of us n) (writes' n) (λ key. entry_at (table_of_node us n) m key)) (at_node n lt) (begun n lt).last

  pub begun_copies : AreCopiesOf writes' nodes keys us
  begun_copies = record {
    tables = record {
      size = size ∙ copies.tables.size;
      tables = λ n lt. record {
        node = at_node n lt;
        nodes = (begun n lt).bounds.nodes ∙ (copies.tables.tables n lt).nodes;
        keys = (begun n lt).bounds.keys ∙ (copies.tables.tables n lt).keys;
      };
    };
    proper = λ n lt. (begun n (omega (arith, lt, size, copies.tables.size))).proper;
    last = last_begun;
    holds = λ n lt owner key e held. elim (cases_eq owner n) [
      | inl own ↦
          let mine = (last_begun n lt).written key e (subst (λ m. entry_at (table_of_node us n) m key ≡ Some e) own held) in
          subst (λ m. Contains (writes' m) e × (e.key ≡ key)) (sym own) (mine.0, mine.1)
      | inr other ↦
          let before = held_before n owner key e lt other held in
          let table = copies.tables.tables n lt in
          let in_owner : owner < nodes = subst (λ m. owner < m) table.nodes ((copies.proper n (omega (arith, lt, copies.tables.size))).in_place owner key e before).owner_below in
          let was = copies.holds n lt owner key e before in
          ((begun owner in_owner).kept e was.0, was.1)
    ];
  }

  pub begun_no_gap : HaveNoGap ts → HaveNoGap us
  begun_no_gap gapless n lt owner key e current upto = elim (cases_eq owner n) [
    | inl own ↦ subst (λ m. entry_at (table_of_node us m) owner key ≡ Some e) own current
    | inr other ↦ elim (cases_lt owner (length us)) [
      | inl in_us ↦ of_other (omega (arith, in_us, size, copies.tables.size)) other
      | inr past ↦ absurd (nothing_past us owner key e past current)
    ]
  ]
    where
      in_n : n < nodes
      in_n = omega (arith, lt, size, copies.tables.size)

      -- what is new is above what any copy holds
      was_current : owner < nodes → greatest_mark (table_of_node us n) owner ≡ greatest_mark (table_of_node ts n) owner → own_parts ts owner key ≡ Some e
      was_current in_owner same =
          elim ((begun owner in_owner).written key e (subst (λ m. entry_at (table_of_node us owner) m key ≡ Some e) (sym (at_node owner in_owner)) current)) [
            | inl before ↦ subst (λ m. entry_at (table_of_node ts owner) m key ≡ Some e) (copies.tables.tables owner in_owner).node before
            | inr above ↦ absurd (not_both (own_mark (table_of_node ts owner)) (mark_of e) above
                (up_to-then (mark_of e) (greatest_mark (table_of_node ts n) owner) (own_mark (table_of_node ts owner)) (subst (IsUpTo (mark_of e)) same upto) (copy-up_to writes nodes keys ts copies n owner in_n in_owner)))
          ]

      of_other : owner < nodes → owner ≢ n → entry_at (table_of_node us n) owner key ≡ Some e
      of_other in_owner other = elim ((begun n in_n).copies owner (λ same. other (same ∙ (copies.tables.tables n in_n).node))) [
        | inl kept ↦
            let same = greatest_mark-same (table_of_node us n) (table_of_node ts n) owner (begun n in_n).bounds.keys (λ j _. ap mark_held (kept j)) in
            kept key ∙ gapless n (omega (arith, in_n, copies.tables.size)) owner key e (was_current in_owner same) (subst (IsUpTo (mark_of e)) same upto)
        | inr none ↦
            let behind = subst (IsUpTo (mark_of e)) (greatest_mark-none (table_of_node us n) owner (λ j _. none j)) upto in
            absurd (omega (arith, behind.version (omega (arith, behind.generation)), ((begun owner in_owner).proper.in_place owner key e current).written))
      ]
