-- What stands in the places, and how starts and finishes change it.
-- Serves `all_of`, `put_back`, `take_out` and `Playing`.
use Rattle.planner.proofs.Common.{◌≡◌, ◌≢◌, ℕ, zero, suc, ◌<◌, List, [], ◌∷◌, ◌++◌, length, get_or, set, map, fold, Option, None, Some, inl, inr, refl, sym, ap, ◌∙◌, subst, arith, slice_get, filter_map, cons_option, cases_eq, get_or-set_same, get_or-set_other, length-set, get_or_read, append_assoc, append-nil, filter_map-append, same_Some, none-some, slice_get_within, get_or_from_slice_get, Exchange, Record, Rules, Table, empty_table, NodeTableView, Exchanged, exchanged, tables_in, IsTableOf, AreTablesInOrder, still_table_of, initiator_keeps_own, responder_keeps_own, Event, Start, Finish, exchange_at, Taken, State, with_at, both_of, opened, put_back, after_event, state_of, in_place, with_at-same, with_at-other}
use Rattle.planner.specs.declared.plays.Pair.{Pair}
use Rattle.planner.specs.inner.Places.{without_room, taken_of, itself, both_or_none, IsPairOf, AreInPlace}

-- a list changed at one place, as a map
pub seen-set : {A B : Type 0} (f : A → B) (xs : List A) (d : A) (place : ℕ) (x : A) → place < length xs → (n : ℕ) → with_at (λ m. f (get_or xs m d)) place (f x) n ≡ f (get_or (set xs place x) n d)
seen-set f xs d place x lt n = elim (cases_eq n place) [
  | inl same ↦ with_at-same (λ m. f (get_or xs m d)) place n (f x) same ∙ ap f (sym (ap (λ m. get_or (set xs place x) m d) same ∙ get_or-set_same xs place x d lt))
  | inr other ↦ with_at-other (λ m. f (get_or xs m d)) place n (f x) other ∙ ap f (sym (get_or-set_other xs place n x d other))
]

-- and at two
pub seen-set_both : {A B : Type 0} (f : A → B) (xs : List A) (d : A) (p q : ℕ) (x y : A) → p < length xs → q < length xs → (n : ℕ) → with_at (with_at (λ m. f (get_or xs m d)) p (f x)) q (f y) n ≡ f (get_or (set (set xs p x) q y) n d)
seen-set_both f xs d p q x y in_p in_q n =
    (λ i. with_at (λ m. seen-set f xs d p x in_p m i) q (f y) n)
    ∙ seen-set f (set xs p x) d q y (omega (arith, length-set xs p x)) n

pub pair-both : (p q : Option NodeTableView) → both_of (without_room p) (without_room q) ≡ taken_of (both_or_none p q)
pair-both None None = refl
pair-both None (Some q) = refl
pair-both (Some p) None = refl
pair-both (Some p) (Some q) = refl

-- two states with the same maps
pub same_state : (s t : State) → ((n : ℕ) → s.home n ≡ t.home n) → ((i : ℕ) → s.out i ≡ t.out i) → ((i : ℕ) → s.records i ≡ t.records i) → s ≡ t
same_state s t home out records = λ i. record { home = λ n. home n i; out = λ n. out n i; records = λ n. records n i }

module _ (nodes keys : ℕ) (es : List Exchange) where
  with_at-each : {A : Type 0} (P : ℕ → A → Type 0) (f : ℕ → Option A) (place : ℕ) (x : Option A) → ((n : ℕ) (t : A) → f n ≡ Some t → P n t) → ((t : A) → x ≡ Some t → P place t) → (n : ℕ) (t : A) → with_at f place x n ≡ Some t → P n t
  with_at-each P f place x others here n t is = elim (cases_eq n place) [
    | inl same ↦ subst (λ m. P m t) (sym same) (here t (sym (with_at-same f place n x same) ∙ is))
    | inr other ↦ others n t (sym (with_at-other f place n x other) ∙ is)
  ]

  both : (e : Exchange) (p q : Option Table) → ((t : Table) → p ≡ Some t → IsTableOf nodes keys e.initiator t) → ((t : Table) → q ≡ Some t → IsTableOf nodes keys e.responder t) → (taken : Taken) → both_of p q ≡ Some taken → IsPairOf nodes keys e taken
  both e None None first second taken is = absurd (none-some taken is)
  both e None (Some q) first second taken is = absurd (none-some taken is)
  both e (Some p) None first second taken is = absurd (none-some taken is)
  both e (Some p) (Some q) first second taken is = subst (IsPairOf nodes keys e) (same_Some (record { initiator = p; responder = q }) taken is) (record { initiator = first p refl; responder = second q refl })

  came_back : (rules : Rules) (i : ℕ) (s : State) (taken : Option Taken) → ((t : Taken) → taken ≡ Some t → IsPairOf nodes keys (exchange_at es i) t) → AreInPlace nodes keys es s → AreInPlace nodes keys es (put_back rules (exchange_at es i) i s taken)
  came_back rules i s None pair placed = placed
  came_back rules i s (Some taken) pair placed =
      let e = exchange_at es i in
      let both_are = pair taken refl in
      let done = exchanged rules e taken.initiator taken.responder in
      record {
        home = with_at-each (IsTableOf nodes keys) (with_at s.home e.initiator (Some done.initiator)) e.responder (Some done.responder)
            (with_at-each (IsTableOf nodes keys) s.home e.initiator (Some done.initiator) placed.home
            (λ t is. subst (IsTableOf nodes keys e.initiator) (same_Some done.initiator t is) (still_table_of (initiator_keeps_own rules e taken.initiator taken.responder) both_are.initiator)))
            (λ t is. subst (IsTableOf nodes keys e.responder) (same_Some done.responder t is) (still_table_of (responder_keeps_own rules e taken.initiator taken.responder) both_are.responder));
        out = with_at-each (λ j t. IsPairOf nodes keys (exchange_at es j) t) s.out i None placed.out (λ t is. absurd (none-some t is));
      }

  in_place_then : (rules : Rules) (s : State) (event : Event) → AreInPlace nodes keys es s → AreInPlace nodes keys es (after_event rules es s event)
  in_place_then rules s (Start i) placed =
      let e = exchange_at es i in
      record {
        home = with_at-each (IsTableOf nodes keys) (with_at s.home e.initiator None) e.responder None
            (with_at-each (IsTableOf nodes keys) s.home e.initiator None placed.home (λ t is. absurd (none-some t is)))
            (λ t is. absurd (none-some t is));
        out = with_at-each (λ j t. IsPairOf nodes keys (exchange_at es j) t) s.out i (both_of (s.home e.initiator) (s.home e.responder)) placed.out
            (both e (s.home e.initiator) (s.home e.responder) (placed.home e.initiator) (placed.home e.responder));
      }
  in_place_then rules s (Finish i) placed = came_back rules i s (s.out i) (placed.out i) placed

  in_place_after : (rules : Rules) (events : List Event) (s : State) → AreInPlace nodes keys es s → AreInPlace nodes keys es (fold (after_event rules es) s events)
  in_place_after rules [] s placed = placed
  in_place_after rules (event ∷ events) s placed = in_place_after rules events (after_event rules es s event) (in_place_then rules s event placed)

  -- each table stays with its node
  pub always_in_place : (rules : Rules) (ts : List Table) (events : List Event) → AreInPlace nodes keys es (opened ts) → AreInPlace nodes keys es (state_of rules ts es events)
  always_in_place rules ts events placed = in_place_after rules events (opened ts) placed

-- the state that such lists show
abbrev pub state_with : List (Option NodeTableView) → List (Option Pair) → List (Option Record) → State
state_with homes out records = record {
  home = λ n. without_room (get_or homes n None);
  out = λ i. taken_of (get_or out i None);
  records = λ i. get_or records i None;
}

module _ (rules : Rules) (es read : List Exchange) (same : read ≡ es) (i : ℕ) (homes : List (Option NodeTableView)) (out : List (Option Pair)) (records : List (Option Record)) (in_p : (exchange_at read i).initiator < length homes) (in_q : (exchange_at read i).responder < length homes) (apart : (exchange_at read i).initiator ≢ (exchange_at read i).responder) (in_out : i < length out) where
  abbrev e : Exchange
  e = exchange_at read i

  -- both tables taken out
  pub taken_out : (a b x y : Option NodeTableView) (z : Option Pair) → a ≡ get_or homes e.initiator a → x ≡ None → b ≡ get_or (set homes e.initiator x) e.responder b → y ≡ None → z ≡ both_or_none a b → after_event rules es (state_with homes out records) (Start i) ≡ state_with (set (set homes e.initiator x) e.responder y) (set out i z) records
  taken_out a b x y z read_a empty_x read_b empty_y pair =
      ap (λ l. after_event rules l (state_with homes out records) (Start i)) (sym same)
      ∙ same_state (after_event rules read (state_with homes out records) (Start i)) (state_with (set (set homes e.initiator x) e.responder y) (set out i z) records)
      (λ n. (λ k. with_at (with_at (λ m. without_room (get_or homes m None)) e.initiator (without_room (sym empty_x k))) e.responder (without_room (sym empty_y k)) n) ∙ seen-set_both without_room homes None e.initiator e.responder x y in_p in_q n)
      (λ n. ap (λ t. with_at (λ m. taken_of (get_or out m None)) i t n) there ∙ seen-set taken_of out None i z in_out n)
      (λ n. refl)
    where
      first : get_or homes e.initiator None ≡ a
      first = sym (get_or_read homes e.initiator a in_p read_a None)

      second : get_or homes e.responder None ≡ b
      second = sym (get_or_read (set homes e.initiator x) e.responder b (omega (arith, length-set homes e.initiator x)) read_b None ∙ get_or-set_other homes e.initiator e.responder x None (λ h. apart (sym h)))

      there : both_of (without_room (get_or homes e.initiator None)) (without_room (get_or homes e.responder None)) ≡ taken_of z
      there = pair-both (get_or homes e.initiator None) (get_or homes e.responder None) ∙ (λ k. taken_of (both_or_none (first k) (second k))) ∙ ap taken_of (sym pair)

  -- both tables put back, and the record kept
  pub come_back : (in_records : i < length records) (pair : Pair) (x y : NodeTableView) (r : Record) (z : Option Pair) → get_or out i None ≡ Some pair → exchanged rules e pair.initiator.table pair.responder.table ≡ record { initiator = x.table; responder = y.table; sent = r } → z ≡ None → after_event rules es (state_with homes out records) (Finish i) ≡ state_with (set (set homes e.initiator (Some x)) e.responder (Some y)) (set out i z) (set records i (Some r))
  come_back in_records pair x y r z was done empty =
      ap (λ l. after_event rules l (state_with homes out records) (Finish i)) (sym same)
      ∙ ap (λ t. put_back rules e i (state_with homes out records) (taken_of t)) was
      ∙ ap put_all done
      ∙ same_state (put_all (record { initiator = x.table; responder = y.table; sent = r })) (state_with (set (set homes e.initiator (Some x)) e.responder (Some y)) (set out i z) (set records i (Some r)))
      (seen-set_both without_room homes None e.initiator e.responder (Some x) (Some y) in_p in_q)
      (λ n. ap (λ t. with_at (λ m. taken_of (get_or out m None)) i (taken_of t) n) (sym empty) ∙ seen-set taken_of out None i z in_out n)
      (seen-set (λ t. t) records None i (Some r) in_records)
    where
      put_all : Exchanged → State
      put_all d = record {
        home = with_at (with_at (λ n. without_room (get_or homes n None)) e.initiator (Some d.initiator)) e.responder (Some d.responder);
        out = with_at (λ n. taken_of (get_or out n None)) i None;
        records = with_at (λ n. get_or records n None) i (Some d.sent);
      }

-- what a `take` of a place gives
pub read_through : {A : Type 0} (xs : List A) (i : ℕ) (a b : A) → a ≡ b → b ≡ get_or xs i b → a ≡ get_or xs i a
read_through xs i a b same read = subst (λ z. z ≡ get_or xs i z) (sym same) read

pub taken_there : {A : Type 0} (xs : List (Option A)) (i : ℕ) (a b : Option A) (x : A) → i < length xs → a ≡ b → b ≡ get_or xs i b → a ≡ Some x → get_or xs i None ≡ Some x
taken_there xs i a b x lt same read is = sym (get_or_read xs i b lt read None) ∙ sym same ∙ is

-- the two tables that an exchange has taken out are its nodes' own
pub met : (nodes keys : ℕ) (es read : List Exchange) (i : ℕ) (homes : List (Option NodeTableView)) (out : List (Option Pair)) (records : List (Option Record)) (a b : Option Pair) (pair : Pair) → read ≡ es → AreInPlace nodes keys es (state_with homes out records) → i < length out → a ≡ b → b ≡ get_or out i b → a ≡ Some pair → IsPairOf nodes keys (exchange_at read i) (record { initiator = pair.initiator.table; responder = pair.responder.table })
met nodes keys es read i homes out records a b pair same placed lt moved stood is =
    subst (λ l. IsPairOf nodes keys (exchange_at l i) (record { initiator = pair.initiator.table; responder = pair.responder.table })) (sym same)
    (placed.out i (record { initiator = pair.initiator.table; responder = pair.responder.table }) (ap taken_of (taken_there out i a b pair lt moved stood is)))

-- one more place with nothing in it
pub none_more : {A : Type 0} (xs : List (Option A)) → ((i : ℕ) → get_or xs i None ≡ None) → (i : ℕ) → get_or (xs ++ None ∷ []) i None ≡ None
none_more [] none zero = refl
none_more [] none (suc i) = refl
none_more (x ∷ xs) none zero = none 0
none_more (x ∷ xs) none (suc i) = none_more xs (λ j. none (suc j)) i

-- the state before the first event
opened_home : (ks : List NodeTableView) (n : ℕ) → slice_get (tables_in ks) n ≡ without_room (get_or (map in_place ks) n None)
opened_home [] n = refl
opened_home (k ∷ ks) zero = refl
opened_home (k ∷ ks) (suc n) = opened_home ks n

pub opened_state : (ks : List NodeTableView) (homes : List (Option NodeTableView)) (out : List (Option Pair)) (records : List (Option Record)) → homes ≡ map in_place ks → ((i : ℕ) → get_or out i None ≡ None) → ((i : ℕ) → get_or records i None ≡ None) → opened (tables_in ks) ≡ state_with homes out records
opened_state ks homes out records is no_pair no_record =
    same_state (opened (tables_in ks)) (state_with homes out records)
    (λ n. opened_home ks n ∙ ap (λ l. without_room (get_or l n None)) (sym is))
    (λ i. ap taken_of (sym (no_pair i)))
    (λ i. sym (no_record i))

pub opened_in_place : (nodes keys : ℕ) (es : List Exchange) (ts : List Table) → AreTablesInOrder nodes keys ts → AreInPlace nodes keys es (opened ts)
opened_in_place nodes keys es ts ordered = record {
  home = λ n t is. subst (IsTableOf nodes keys n) (get_or_from_slice_get ts n t (empty_table 0 0 0) is) (ordered.tables n (omega (arith, slice_get_within ts n t is, ordered.size)));
  out = λ i t is. absurd (none-some t is);
}

-- where each place has what stands in a list, so has what comes out of the places
pub all_tables : (homes : List (Option NodeTableView)) (ts : List Table) → length homes ≡ length ts → ((n : ℕ) → n < length ts → slice_get ts n ≡ without_room (get_or homes n None)) → tables_in (filter_map itself homes) ≡ ts
all_tables [] [] same each = refl
all_tables [] (t ∷ ts) same each = absurd (omega arith)
all_tables (h ∷ homes) [] same each = absurd (omega arith)
all_tables (None ∷ homes) (t ∷ ts) same each = absurd (none-some t (sym (each 0 (omega arith))))
all_tables (Some k ∷ homes) (t ∷ ts) same each = ap (λ u. u ∷ tables_in (filter_map itself homes)) (sym (same_Some t k.table (each 0 (omega arith)))) ∙ ap (λ l. t ∷ l) (all_tables homes ts (omega arith) (λ n lt. each (suc n) (omega arith)))

pub all_records : {A : Type 0} (places : List (Option A)) (xs : List A) → length places ≡ length xs → ((n : ℕ) → n < length xs → slice_get xs n ≡ get_or places n None) → filter_map itself places ≡ xs
all_records [] [] same each = refl
all_records [] (x ∷ xs) same each = absurd (omega arith)
all_records (p ∷ places) [] same each = absurd (omega arith)
all_records (None ∷ places) (x ∷ xs) same each = absurd (none-some x (sym (each 0 (omega arith))))
all_records (Some y ∷ places) (x ∷ xs) same each = ap (λ z. z ∷ filter_map itself places) (sym (same_Some x y (each 0 (omega arith)))) ∙ ap (λ l. x ∷ l) (all_records places xs (omega arith) (λ n lt. each (suc n) (omega arith)))

-- one more element of a list that is gone through, and of what stands in its places
pub left_more : {A : Type 0} (xs rest next all : List A) (x : A) → xs ++ rest ≡ all → rest ≡ x ∷ next → (xs ++ x ∷ []) ++ next ≡ all
left_more xs rest next all x so_far is = append_assoc xs (x ∷ []) next ∙ ap (λ l. xs ++ l) (sym is) ∙ so_far

pub standing_more : {A : Type 0} (xs : List (Option A)) (p : Option A) (x : A) → p ≡ Some x → filter_map itself (xs ++ p ∷ []) ≡ filter_map itself xs ++ x ∷ []
standing_more xs p x is = filter_map-append itself xs (p ∷ []) ∙ ap (λ o. filter_map itself xs ++ cons_option o []) is

pub standing_same : {A : Type 0} (xs : List (Option A)) (p : Option A) → ((x : A) → p ≡ Some x → ⊥) → filter_map itself (xs ++ p ∷ []) ≡ filter_map itself xs
standing_same xs None none = filter_map-append itself xs (None ∷ []) ∙ append-nil (filter_map itself xs)
standing_same xs (Some x) none = absurd (none x refl)
