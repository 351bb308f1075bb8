-- Copies that are states through the exchanges of a list that cut nothing, beside those of another mode and budget.
-- Serves most of the crate.
use Rattle.run_laws.proofs.Common.{◌≡◌, ◌≢◌, ℕ, ◌<◌, List, [], ◌∷◌, fold, All, Some, None, inl, inr, refl, sym, ap, ◌∙◌, subst, arith, cases_eq, All-head, All-tail, Contains-append_left, Contains-append_right, Entry, Mark, Exchange, Fate, Record, Rules, IsPlanned, mark_of, mark_held, digest_kind, up_to-both}
use Rattle.std.specs.Prelude.{Contains}
use Rattle.bench_types.specs.declared.exchanges.Fate.TheVariants as fate
use Rattle.model.specs.Table.{Table, applied, entry_at, mark_at, greatest_mark, generation_held, IsProper}
use Rattle.model.specs.Tables.{table_of_node}
use Rattle.model.specs.Clusters.{AreCopiesOf}
use Rattle.model.specs.Copies.{WritesBy, IsLastOf, HoldsOf}
use Rattle.model.specs.Deltas.{DeltaView, delta_between}
use Rattle.model.specs.Digests.{digest_size}
use Rattle.model.specs.Exchanged.{exchanged, fate_of, sent_until, initiator_after, responder_after}
use Rattle.model.specs.Folds.{Folded, exchange_in}
use Rattle.model.specs.States.{MissesNone}
use Rattle.model.proofs.FoldLaws.{step_copies, step_keeps_own, initiator_is, responder_is, other_is}
use Rattle.model.proofs.Received.{received-either, received-proper}
use Rattle.run_laws.proofs.States.{HoldsAsMuchOf, as_much-then, as_much-either, own-misses, own-as_much, to-as_much, from-as_much, after-misses}
use Rattle.model.proofs.TableLaws.{same_table}

-- an exchange cut nothing, and none of these did
abbrev pub CutsNothing : Record → Type 0
CutsNothing r = (r.back_cut ≡ 0) × (r.forth_cut ≡ 0)

abbrev pub CutNothing : List Record → Type 0
CutNothing records = (r : Record) → Contains records r → CutsNothing r

-- no copy misses a write up to its greatest mark
abbrev pub MissNone : ℕ → WritesBy → List Table → Type 0
MissNone nodes writes ts = (n owner : ℕ) → n < nodes → owner < nodes → MissesNone owner (writes owner) (table_of_node ts n)

-- what is recorded stays so
pub keeps_records : (rules : Rules) (es : List Exchange) (f : Folded) (r : Record) → Contains f.records r → Contains (fold (exchange_in rules) f es).records r
keeps_records rules [] f r there = there
keeps_records rules (e ∷ es) f r there =
    keeps_records rules es (exchange_in rules f e) r
    (Contains-append_left f.records ((exchanged rules e (table_of_node f.tables e.initiator) (table_of_node f.tables e.responder)).sent ∷ []) r there)

-- what an exchange that cuts nothing makes of a table, and what two of one fate make of two tables
initiator_uncut : (P : Table → Type 0) (f : Fate) (d1 d2 : ℕ) (p : Table) (back forth : DeltaView) → CutsNothing (sent_until f d1 d2 back forth) → P p → (back.cut ≡ 0 → P (applied p back.items)) → P (initiator_after f p back)
initiator_uncut P fate.Lost1 d1 d2 p back forth none old new = old
initiator_uncut P fate.Lost2 d1 d2 p back forth none old new = old
initiator_uncut P fate.Lost3 d1 d2 p back forth none old new = new none.0
initiator_uncut P fate.Ok d1 d2 p back forth none old new = new none.0

responder_uncut : (P : Table → Type 0) (f : Fate) (d1 d2 : ℕ) (q : Table) (back forth : DeltaView) → CutsNothing (sent_until f d1 d2 back forth) → P q → (forth.cut ≡ 0 → P (applied q forth.items)) → P (responder_after f q forth)
responder_uncut P fate.Lost1 d1 d2 q back forth none old new = old
responder_uncut P fate.Lost2 d1 d2 q back forth none old new = old
responder_uncut P fate.Lost3 d1 d2 q back forth none old new = old
responder_uncut P fate.Ok d1 d2 q back forth none old new = new none.1

initiators_beside : (R : Table → Table → Type 0) (f : Fate) (d1 d2 : ℕ) (p p' : Table) (back back' forth' : DeltaView) → CutsNothing (sent_until f d1 d2 back' forth') → R p p' → (back'.cut ≡ 0 → R (applied p back.items) (applied p' back'.items)) → R (initiator_after f p back) (initiator_after f p' back')
initiators_beside R fate.Lost1 d1 d2 p p' back back' forth' none old new = old
initiators_beside R fate.Lost2 d1 d2 p p' back back' forth' none old new = old
initiators_beside R fate.Lost3 d1 d2 p p' back back' forth' none old new = new none.0
initiators_beside R fate.Ok d1 d2 p p' back back' forth' none old new = new none.0

responders_beside : (R : Table → Table → Type 0) (f : Fate) (d1 d2 : ℕ) (q q' : Table) (forth back' forth' : DeltaView) → CutsNothing (sent_until f d1 d2 back' forth') → R q q' → (forth'.cut ≡ 0 → R (applied q forth.items) (applied q' forth'.items)) → R (responder_after f q forth) (responder_after f q' forth')
responders_beside R fate.Lost1 d1 d2 q q' forth back' forth' none old new = old
responders_beside R fate.Lost2 d1 d2 q q' forth back' forth' none old new = old
responders_beside R fate.Lost3 d1 d2 q q' forth back' forth' none old new = old
responders_beside R fate.Ok d1 d2 q q' forth back' forth' none old new = new none.1

-- facts of one node's table among all
module _ (writes : WritesBy) (nodes keys : ℕ) (ts : List Table) (copies : AreCopiesOf writes nodes keys ts) (n : ℕ) (lt : n < nodes) where
  pub proper_at : IsProper (table_of_node ts n)
  proper_at = copies.proper n (omega (arith, lt, copies.tables.size))

  node_at : (table_of_node ts n).node ≡ n
  node_at = (copies.tables.tables n lt).node

  last_at : IsLastOf (table_of_node ts n).generation (writes n) (λ key. entry_at (table_of_node ts n) n key)
  last_at = copies.last n lt

  pub misses-own : MissesNone n (writes n) (table_of_node ts n)
  misses-own = own-misses (writes n) n (table_of_node ts n) proper_at node_at last_at

-- and of two nodes' that meet
module _ (writes : WritesBy) (nodes keys : ℕ) (ts : List Table) (copies : AreCopiesOf writes nodes keys ts) (a b : ℕ) (a_in : a < nodes) (b_in : b < nodes) where
  pub same_nodes : (table_of_node ts a).nodes ≡ (table_of_node ts b).nodes
  same_nodes = (copies.tables.tables a a_in).nodes ∙ sym (copies.tables.tables b b_in).nodes

  pub same_keys : (table_of_node ts a).keys ≡ (table_of_node ts b).keys
  same_keys = (copies.tables.tables a a_in).keys ∙ sym (copies.tables.tables b b_in).keys

-- one exchange that cuts nothing leaves copies states
module _ (rules : Rules) (nodes keys : ℕ) (s : Folded) (e : Exchange) (planned : IsPlanned nodes e) (writes : WritesBy) (copies : AreCopiesOf writes nodes keys s.tables) (states : MissNone nodes writes s.tables) where
  abbrev at : ℕ → Table
  at n = table_of_node s.tables n

  in_rotation : (n : ℕ) → n < nodes → e.rotation < (at n).nodes
  in_rotation n lt = subst (λ m. e.rotation < m) (sym (copies.tables.tables n lt).nodes) planned.rotation

  apart_from : (n owner : ℕ) → n < nodes → owner ≢ n → owner ≢ (at n).node
  apart_from n owner lt other same = other (same ∙ (copies.tables.tables n lt).node)

  -- what one delta brings from one of the two to the other
  module _ (from to owner : ℕ) (from_in : from < nodes) (to_in : to < nodes) (owner_in : owner < nodes) (other : owner ≢ to) (none : (delta_between rules.mode e.rotation rules.budget (at from) (at to)).cut ≡ 0) where
    pub brought : HoldsAsMuchOf owner (at from) (applied (at to) (delta_between rules.mode e.rotation rules.budget (at from) (at to)).items)
    brought =
        from-as_much rules e.rotation (at from) (at to) (proper_at writes nodes keys s.tables copies from from_in) (proper_at writes nodes keys s.tables copies to to_in) (same_nodes writes nodes keys s.tables copies from to from_in to_in) (same_keys writes nodes keys s.tables copies from to from_in to_in) owner (apart_from to owner to_in other)
        (in_rotation from from_in) none (writes owner) (copies.holds from from_in owner) (states to owner to_in owner_in)

    still : MissesNone owner (writes owner) (applied (at to) (delta_between rules.mode e.rotation rules.budget (at from) (at to)).items)
    still =
        after-misses rules e.rotation (at from) (at to) (proper_at writes nodes keys s.tables copies from from_in) (proper_at writes nodes keys s.tables copies to to_in) (same_nodes writes nodes keys s.tables copies from to from_in to_in) (same_keys writes nodes keys s.tables copies from to from_in to_in) owner (apart_from to owner to_in other)
        (in_rotation from from_in) none (writes owner) (copies.holds from from_in owner) (states to owner to_in owner_in) (states from owner from_in owner_in)

  abbrev back : DeltaView
  back = delta_between rules.mode e.rotation rules.budget (at e.responder) (at e.initiator)

  abbrev forth : DeltaView
  forth = delta_between rules.mode e.rotation rules.budget (at e.initiator) (at e.responder)

  pub step_states : CutsNothing (exchanged rules e (at e.initiator) (at e.responder)).sent → MissNone nodes writes (exchange_in rules s e).tables
  step_states none n owner lt owner_in = elim (cases_eq owner n) [
    | inl own ↦ subst (λ m. MissesNone m (writes m) (table_of_node (exchange_in rules s e).tables n)) (sym own) (misses-own writes nodes keys (exchange_in rules s e).tables (step_copies rules nodes keys s e planned writes copies) n lt)
    | inr other ↦ elim (cases_eq n e.initiator) [
      | inl first ↦ subst (λ m. MissesNone owner (writes owner) (table_of_node (exchange_in rules s e).tables m)) (sym first)
          (subst (MissesNone owner (writes owner)) (sym (initiator_is rules nodes keys s e planned copies.tables))
          (initiator_uncut (MissesNone owner (writes owner)) (fate_of e) (digest_size (digest_kind rules.mode) (at e.initiator)) (digest_size (digest_kind rules.mode) (at e.responder)) (at e.initiator) back forth none (states e.initiator owner planned.initiator owner_in)
          (still e.responder e.initiator owner planned.responder planned.initiator owner_in (λ same. other (same ∙ sym first)))))
      | inr not_first ↦ elim (cases_eq n e.responder) [
        | inl second ↦ subst (λ m. MissesNone owner (writes owner) (table_of_node (exchange_in rules s e).tables m)) (sym second)
            (subst (MissesNone owner (writes owner)) (sym (responder_is rules nodes keys s e planned copies.tables))
            (responder_uncut (MissesNone owner (writes owner)) (fate_of e) (digest_size (digest_kind rules.mode) (at e.initiator)) (digest_size (digest_kind rules.mode) (at e.responder)) (at e.responder) back forth none (states e.responder owner planned.responder owner_in)
            (still e.initiator e.responder owner planned.initiator planned.responder owner_in (λ same. other (same ∙ sym second)))))
        | inr not_second ↦ subst (MissesNone owner (writes owner)) (sym (other_is rules nodes keys s e planned copies.tables n not_first not_second)) (states n owner lt owner_in)
      ]
    ]
  ]

-- the tables of a run beside those of one that has cut nothing: copies of the same writes, the second of them states that
-- hold as much
pub record AreBeside (writes : WritesBy) (nodes keys : ℕ) (ts us : List Table) : Type 0 where
  pub first : AreCopiesOf writes nodes keys ts
  pub second : AreCopiesOf writes nodes keys us
  pub generations : (n : ℕ) → n < nodes → (table_of_node ts n).generation ≡ (table_of_node us n).generation
  pub states : MissNone nodes writes us
  pub as_much : (n owner : ℕ) → n < nodes → owner < nodes → HoldsAsMuchOf owner (table_of_node ts n) (table_of_node us n)

-- of what it owns itself each node holds as much in both
pub own_beside : (writes : WritesBy) (nodes keys : ℕ) (ts us : List Table) → AreCopiesOf writes nodes keys ts → AreCopiesOf writes nodes keys us → (n : ℕ) → n < nodes → (table_of_node ts n).generation ≡ (table_of_node us n).generation → HoldsAsMuchOf n (table_of_node ts n) (table_of_node us n)
own_beside writes nodes keys ts us first second n lt generations =
    own-as_much (writes n) n (table_of_node ts n) (table_of_node us n) (proper_at writes nodes keys ts first n lt) (node_at writes nodes keys ts first n lt) (node_at writes nodes keys us second n lt)
    ((first.tables.tables n lt).keys ∙ sym (second.tables.tables n lt).keys) generations (last_at writes nodes keys ts first n lt) (last_at writes nodes keys us second n lt)

-- one exchange, of which the second cuts nothing, leaves them so
module _ (rules rules' : Rules) (nodes keys : ℕ) (writes : WritesBy) (f g : Folded) (e : Exchange) (planned : IsPlanned nodes e) (beside : AreBeside writes nodes keys f.tables g.tables) where
  abbrev of_first : ℕ → Table
  of_first n = table_of_node f.tables n

  abbrev of_second : ℕ → Table
  of_second n = table_of_node g.tables n

  module _ (from to owner : ℕ) (from_in : from < nodes) (to_in : to < nodes) (owner_in : owner < nodes) (other : owner ≢ to) (none : (delta_between rules'.mode e.rotation rules'.budget (of_second from) (of_second to)).cut ≡ 0) where
    from_proper : IsProper (of_first from)
    from_proper = proper_at writes nodes keys f.tables beside.first from from_in

    to_proper : IsProper (of_first to)
    to_proper = proper_at writes nodes keys f.tables beside.first to to_in

    abbrev first_after : Table
    first_after = applied (of_first to) (delta_between rules.mode e.rotation rules.budget (of_first from) (of_first to)).items

    abbrev second_after : Table
    second_after = applied (of_second to) (delta_between rules'.mode e.rotation rules'.budget (of_second from) (of_second to)).items

    delivered : HoldsAsMuchOf owner first_after second_after
    delivered =
        as_much-either owner (of_first to) (of_first from) first_after to_proper from_proper
        (received-proper rules e.rotation (of_first from) (of_first to) from_proper (same_nodes writes nodes keys f.tables beside.first from to from_in to_in) (same_keys writes nodes keys f.tables beside.first from to from_in to_in) to_proper)
        (received-either rules e.rotation (of_first from) (of_first to) from_proper)
        second_after
        (as_much-then owner (of_first to) (of_second to) second_after (beside.as_much to owner to_in owner_in)
        (to-as_much rules' e.rotation (of_second from) (of_second to) (proper_at writes nodes keys g.tables beside.second from from_in) (proper_at writes nodes keys g.tables beside.second to to_in) (same_nodes writes nodes keys g.tables beside.second from to from_in to_in) (same_keys writes nodes keys g.tables beside.second from to from_in to_in) owner (λ same. other (same ∙ node_at writes nodes keys g.tables beside.second to to_in))))
        (as_much-then owner (of_first from) (of_second from) second_after (beside.as_much from owner from_in owner_in)
        (brought rules' nodes keys g e planned writes beside.second beside.states from to owner from_in to_in owner_in other none))

  abbrev back' : DeltaView
  back' = delta_between rules'.mode e.rotation rules'.budget (of_second e.responder) (of_second e.initiator)

  abbrev forth' : DeltaView
  forth' = delta_between rules'.mode e.rotation rules'.budget (of_second e.initiator) (of_second e.responder)

  abbrev ts : List Table
  ts = (exchange_in rules f e).tables

  abbrev us : List Table
  us = (exchange_in rules' g e).tables

  module _ (none : CutsNothing (exchanged rules' e (of_second e.initiator) (of_second e.responder)).sent) where
    generations_then : (n : ℕ) → n < nodes → (table_of_node ts n).generation ≡ (table_of_node us n).generation
    generations_then n lt =
        (step_keeps_own rules nodes keys f e planned beside.first.tables n).generation
        ∙ beside.generations n lt
        ∙ sym (step_keeps_own rules' nodes keys g e planned beside.second.tables n).generation

    first_then : AreCopiesOf writes nodes keys ts
    first_then = step_copies rules nodes keys f e planned writes beside.first

    second_then : AreCopiesOf writes nodes keys us
    second_then = step_copies rules' nodes keys g e planned writes beside.second

    -- what holds of both tables of a node then
    at_node : (m n owner : ℕ) → n ≡ m → (t u : Table) → table_of_node ts m ≡ t → table_of_node us m ≡ u → HoldsAsMuchOf owner t u → HoldsAsMuchOf owner (table_of_node ts n) (table_of_node us n)
    at_node m n owner here t u first second holds =
        subst (λ k. HoldsAsMuchOf owner (table_of_node ts k) (table_of_node us k)) (sym here)
        (subst (λ x. HoldsAsMuchOf owner x (table_of_node us m)) (sym first) (subst (HoldsAsMuchOf owner t) (sym second) holds))

    as_much-step : (n owner : ℕ) → n < nodes → owner < nodes → HoldsAsMuchOf owner (table_of_node ts n) (table_of_node us n)
    as_much-step n owner lt owner_in = elim (cases_eq owner n) [
      | inl own ↦ subst (λ m. HoldsAsMuchOf m (table_of_node ts n) (table_of_node us n)) (sym own) (own_beside writes nodes keys ts us first_then second_then n lt (generations_then n lt))
      | inr other ↦ elim (cases_eq n e.initiator) [
        | inl here ↦ at_node e.initiator n owner here _ _ (initiator_is rules nodes keys f e planned beside.first.tables) (initiator_is rules' nodes keys g e planned beside.second.tables)
            (initiators_beside (HoldsAsMuchOf owner) (fate_of e) (digest_size (digest_kind rules'.mode) (of_second e.initiator)) (digest_size (digest_kind rules'.mode) (of_second e.responder)) (of_first e.initiator) (of_second e.initiator)
            (delta_between rules.mode e.rotation rules.budget (of_first e.responder) (of_first e.initiator)) back' forth' none (beside.as_much e.initiator owner planned.initiator owner_in)
            (delivered e.responder e.initiator owner planned.responder planned.initiator owner_in (λ same. other (same ∙ sym here))))
        | inr not_first ↦ elim (cases_eq n e.responder) [
          | inl here ↦ at_node e.responder n owner here _ _ (responder_is rules nodes keys f e planned beside.first.tables) (responder_is rules' nodes keys g e planned beside.second.tables)
              (responders_beside (HoldsAsMuchOf owner) (fate_of e) (digest_size (digest_kind rules'.mode) (of_second e.initiator)) (digest_size (digest_kind rules'.mode) (of_second e.responder)) (of_first e.responder) (of_second e.responder)
              (delta_between rules.mode e.rotation rules.budget (of_first e.initiator) (of_first e.responder)) back' forth' none (beside.as_much e.responder owner planned.responder owner_in)
              (delivered e.initiator e.responder owner planned.initiator planned.responder owner_in (λ same. other (same ∙ sym here))))
          | inr not_second ↦ at_node n n owner refl _ _ (other_is rules nodes keys f e planned beside.first.tables n not_first not_second) (other_is rules' nodes keys g e planned beside.second.tables n not_first not_second)
              (beside.as_much n owner lt owner_in)
        ]
      ]
    ]

    pub step_beside : AreBeside writes nodes keys ts us
    step_beside = record {
      first = first_then;
      second = second_then;
      generations = generations_then;
      states = step_states rules' nodes keys g e planned writes beside.second beside.states none;
      as_much = as_much-step;
    }

-- the record of the next exchange of a list is among those of the whole list
pub next_recorded : (rules : Rules) (f : Folded) (e : Exchange) (es : List Exchange) → Contains (fold (exchange_in rules) (exchange_in rules f e) es).records (exchanged rules e (table_of_node f.tables e.initiator) (table_of_node f.tables e.responder)).sent
next_recorded rules f e es =
    let sent = (exchanged rules e (table_of_node f.tables e.initiator) (table_of_node f.tables e.responder)).sent in
    keeps_records rules es (exchange_in rules f e) sent (Contains-append_right f.records (sent ∷ []) sent (0, omega arith, refl))

-- and so do the exchanges of a list
pub fold_states : (rules : Rules) (nodes keys : ℕ) (writes : WritesBy) (es : List Exchange) (f : Folded) → All (IsPlanned nodes) es → AreCopiesOf writes nodes keys f.tables → MissNone nodes writes f.tables → CutNothing (fold (exchange_in rules) f es).records → MissNone nodes writes (fold (exchange_in rules) f es).tables
fold_states rules nodes keys writes [] f planned copies states none = states
fold_states rules nodes keys writes (e ∷ es) f planned copies states none =
    let this = All-head (IsPlanned nodes) e es planned in
    fold_states rules nodes keys writes es (exchange_in rules f e) (All-tail (IsPlanned nodes) e es planned) (step_copies rules nodes keys f e this writes copies)
    (step_states rules nodes keys f e this writes copies states (none (exchanged rules e (table_of_node f.tables e.initiator) (table_of_node f.tables e.responder)).sent (next_recorded rules f e es))) none

pub fold_beside : (rules rules' : Rules) (nodes keys : ℕ) (writes : WritesBy) (es : List Exchange) (f g : Folded) → All (IsPlanned nodes) es → AreBeside writes nodes keys f.tables g.tables → CutNothing (fold (exchange_in rules') g es).records → AreBeside writes nodes keys (fold (exchange_in rules) f es).tables (fold (exchange_in rules') g es).tables
fold_beside rules rules' nodes keys writes [] f g planned beside none = beside
fold_beside rules rules' nodes keys writes (e ∷ es) f g planned beside none =
    let this = All-head (IsPlanned nodes) e es planned in
    fold_beside rules rules' nodes keys writes es (exchange_in rules f e) (exchange_in rules' g e) (All-tail (IsPlanned nodes) e es planned)
    (step_beside rules rules' nodes keys writes f g e this beside (none (exchanged rules' e (table_of_node g.tables e.initiator) (table_of_node g.tables e.responder)).sent (next_recorded rules' g e es))) none

-- tables of one node that hold as much of every owner, each as the other, are one
module _ (writes : WritesBy) (nodes : ℕ) (t u : Table) (t_proper : IsProper t) (u_proper : IsProper u) (t_nodes : t.nodes ≡ nodes) (u_nodes : u.nodes ≡ nodes) (apart : (owner : ℕ) → owner < nodes → (d e : Entry) → Contains (writes owner) d → Contains (writes owner) e → mark_of d ≡ mark_of e → d ≡ e) (t_holds : (owner : ℕ) → HoldsOf owner (writes owner) t) (u_holds : (owner : ℕ) → HoldsOf owner (writes owner) u) (to : (owner : ℕ) → owner < nodes → HoldsAsMuchOf owner t u) (from : (owner : ℕ) → owner < nodes → HoldsAsMuchOf owner u t) where
  same_marks : (owner key : ℕ) → owner < nodes → mark_at t owner key ≡ mark_at u owner key
  same_marks owner key lt =
      let same : generation_held t owner ≡ generation_held u owner = ap (λ (m : Mark). m.generation) (up_to-both (greatest_mark t owner) (greatest_mark u owner) (to owner lt).greatest (from owner lt).greatest) in
      up_to-both (mark_at t owner key) (mark_at u owner key) ((to owner lt).within key (sym same)) ((from owner lt).within key same)

  same_entries : (owner key : ℕ) → entry_at t owner key ≡ entry_at u owner key
  same_entries owner key = elim (entry_at t owner key) as (λ o. entry_at t owner key ≡ o → o ≡ entry_at u owner key) [
    | Some d ↦ λ held. elim (entry_at u owner key) as (λ o. entry_at u owner key ≡ o → Some d ≡ o) [
      | Some e ↦ λ found.
          let below : owner < nodes = omega (arith, (t_proper.in_place owner key d held).owner_below, t_nodes) in
          ap Some (apart owner below d e (t_holds owner key d held).0 (u_holds owner key e found).0 (ap mark_held (sym held) ∙ same_marks owner key below ∙ ap mark_held found))
      | None ↦ λ none.
          let place = t_proper.in_place owner key d held in
          let marks = ap mark_held (sym held) ∙ same_marks owner key (omega (arith, place.owner_below, t_nodes)) ∙ ap mark_held none in
          absurd (omega (arith, place.written, ap (λ (m : Mark). m.version) marks))
    ] refl
    | None ↦ λ none. elim (entry_at u owner key) as (λ o. entry_at u owner key ≡ o → None ≡ o) [
      | Some e ↦ λ found.
          let place = u_proper.in_place owner key e found in
          let marks = ap mark_held (sym none) ∙ same_marks owner key (omega (arith, place.owner_below, u_nodes)) ∙ ap mark_held found in
          absurd (omega (arith, place.written, ap (λ (m : Mark). m.version) marks))
      | None ↦ λ _. refl
    ] refl
  ] refl

  pub same_held : t.node ≡ u.node → t.keys ≡ u.keys → t.generation ≡ u.generation → t ≡ u
  same_held node keys generation = same_table t u node (t_nodes ∙ sym u_nodes) keys generation same_entries
