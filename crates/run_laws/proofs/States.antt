-- Copies that are states of their owners, and tables that hold as much as others: what an exchange that cuts nothing makes
-- of them.
-- Serves `Best`, `Floors`, `Spreads` and `StateFolds`.
use Rattle.run_laws.proofs.Common.{◌≡◌, ◌≢◌, ℕ, ◌<◌, ◌≤◌, List, Some, None, ◌⊎◌, inl, inr, refl, sym, ap, subst, arith, cases_lt, Entry, Item, Mark, DigestKind, Scuttle, Precise, Rules, absent, mark_of, mark_held, IsUpTo, digest_kind, absent-first, before-up_to, cases_before, up_to-itself, up_to-then}
use Rattle.std.specs.Prelude.{Contains}
use Rattle.model.specs.Table.{Table, entry_at, mark_at, greatest_mark, generation_held, IsProper}
use Rattle.model.specs.Candidates.{IsScuttleMode, known_mark, candidates}
use Rattle.model.specs.Copies.{IsLastOf, HoldsOf}
use Rattle.model.specs.Deltas.{delta_between}
use Rattle.model.specs.calls.ExchangeLaws.{StoodInEither}
use Rattle.model.specs.States.{MissesNone}
use Rattle.model.proofs.DeltaLaws.{sent-uncut}
use Rattle.model.proofs.Greatest.{greatest_mark-from, mark_at-up_to_greatest}
use Rattle.model.proofs.TableLaws.{frame-applied}
use Rattle.model.proofs.Received.{candidate, received, received-either, received-proper, received-rises, sent-up_to}

-- a table holds as much of an owner as another: its greatest mark, and within one generation each key's, isn't below
pub record HoldsAsMuchOf (owner : ℕ) (other t : Table) : Type 0 where
  pub greatest : IsUpTo (greatest_mark other owner) (greatest_mark t owner)
  pub within : (key : ℕ) → generation_held t owner ≡ generation_held other owner → IsUpTo (mark_at other owner key) (mark_at t owner key)

pub as_much-then : (owner : ℕ) (t u v : Table) → HoldsAsMuchOf owner t u → HoldsAsMuchOf owner u v → HoldsAsMuchOf owner t v
as_much-then owner t u v first second = record {
  greatest = up_to-then (greatest_mark t owner) (greatest_mark u owner) (greatest_mark v owner) first.greatest second.greatest;
  within = λ key same.
      let to = first.greatest.generation in
      let from = second.greatest.generation in
      up_to-then (mark_at t owner key) (mark_at u owner key) (mark_at v owner key) (first.within key (omega (arith, to, from, same))) (second.within key (omega (arith, to, from, same)));
}

-- what is held of an owner is what one of its keys holds, or nothing
held-cases : (t : Table) (owner : ℕ) → (greatest_mark t owner ≡ absent) ⊎ ((key : ℕ) × (e : Entry) × (entry_at t owner key ≡ Some e) × (greatest_mark t owner ≡ mark_of e))
held-cases t owner = elim (greatest_mark-from t owner) [
  | inl none ↦ inl none
  | inr (key, lt, is) ↦ elim (entry_at t owner key) as (λ o. entry_at t owner key ≡ o → mark_held o ≡ greatest_mark t owner → (greatest_mark t owner ≡ absent) ⊎ ((k : ℕ) × (e : Entry) × (entry_at t owner k ≡ Some e) × (greatest_mark t owner ≡ mark_of e))) [
    | None ↦ λ _ at. inl (sym at)
    | Some e ↦ λ held at. inr (key, e, held, sym at)
  ] refl is
]

-- the mark of what a proper table holds is up to the greatest of its owner
held-up_to : (t : Table) (owner key : ℕ) (e : Entry) → IsProper t → entry_at t owner key ≡ Some e → IsUpTo (mark_of e) (greatest_mark t owner)
held-up_to t owner key e proper held =
    subst (λ h. IsUpTo (mark_held h) (greatest_mark t owner)) held (mark_at-up_to_greatest t owner key (proper.in_place owner key e held).key_below)

-- a fact of each entry of an owner in a table makes one of the whole
pub as_much-from : (owner : ℕ) (other t : Table)
    → ((key : ℕ) (e : Entry) → entry_at other owner key ≡ Some e → IsUpTo (mark_of e) (greatest_mark t owner))
    → ((key : ℕ) (e : Entry) → entry_at other owner key ≡ Some e → generation_held t owner ≡ generation_held other owner → IsUpTo (mark_of e) (mark_at t owner key))
    → HoldsAsMuchOf owner other t
as_much-from owner other t greatest within = record {
  greatest = elim (held-cases other owner) [
    | inl none ↦ subst (λ m. IsUpTo m (greatest_mark t owner)) (sym none) (absent-first (greatest_mark t owner))
    | inr (key, e, held, is) ↦ subst (λ m. IsUpTo m (greatest_mark t owner)) (sym is) (greatest key e held)
  ];
  within = λ key same. elim (entry_at other owner key) as (λ o. entry_at other owner key ≡ o → IsUpTo (mark_held o) (mark_at t owner key)) [
    | None ↦ λ _. absent-first (mark_at t owner key)
    | Some e ↦ λ held. within key e held same
  ] refl;
}

-- what stood in either of two tables is no more than a table that holds as much as both
module _ (owner : ℕ) (p q new : Table) (p_proper : IsProper p) (q_proper : IsProper q) (new_proper : IsProper new) (either : StoodInEither p q new) where
  pub as_much-either : (t : Table) → HoldsAsMuchOf owner p t → HoldsAsMuchOf owner q t → HoldsAsMuchOf owner new t
  as_much-either t of_p of_q = as_much-from owner new t
      (λ key e found. elim (either owner key e found) [
        | inl held ↦ up_to-then (mark_of e) (greatest_mark p owner) (greatest_mark t owner) (held-up_to p owner key e p_proper held) of_p.greatest
        | inr held ↦ up_to-then (mark_of e) (greatest_mark q owner) (greatest_mark t owner) (held-up_to q owner key e q_proper held) of_q.greatest
      ])
      (λ key e found same.
      let alike = new_proper.copies owner key e found in
      elim (either owner key e found) [
        | inl held ↦ subst (λ h. IsUpTo (mark_held h) (mark_at t owner key)) held (of_p.within key (omega (arith, same, alike, p_proper.copies owner key e held)))
        | inr held ↦ subst (λ h. IsUpTo (mark_held h) (mark_at t owner key)) held (of_q.within key (omega (arith, same, alike, q_proper.copies owner key e held)))
      ])

  -- and where that is the new table it misses no more than they do
  pub misses-either : (writes : List Entry) → HoldsAsMuchOf owner p new → HoldsAsMuchOf owner q new → MissesNone owner writes p → MissesNone owner writes q → MissesNone owner writes new
  misses-either writes of_p of_q p_none q_none e there alike upto = elim (held-cases new owner) [
    | inl none ↦ up_to-then (mark_of e) absent (mark_at new owner e.key) (subst (IsUpTo (mark_of e)) none upto) (absent-first (mark_at new owner e.key))
    | inr (key, d, found, is) ↦ elim (either owner key d found) [
      | inl held ↦ through p p_proper of_p p_none key d held is
      | inr held ↦ through q q_proper of_q q_none key d held is
    ]
  ]
    where
      through : (t : Table) → IsProper t → HoldsAsMuchOf owner t new → MissesNone owner writes t → (key : ℕ) (d : Entry) → entry_at t owner key ≡ Some d → greatest_mark new owner ≡ mark_of d → IsUpTo (mark_of e) (mark_at new owner e.key)
      through t proper of_t none key d held is =
          let of_new : d.generation ≡ generation_held new owner = sym (ap (λ (m : Mark). m.generation) is) in
          let of_old = proper.copies owner key d held in
          up_to-then (mark_of e) (mark_at t owner e.key) (mark_at new owner e.key)
          (none e there (omega (arith, alike, of_new, of_old)) (up_to-then (mark_of e) (mark_of d) (greatest_mark t owner) (subst (IsUpTo (mark_of e)) is upto) (held-up_to t owner key d proper held)))
          (of_t.within e.key (omega (arith, of_new, of_old)))

-- a table's own part is the last write of each key, so it misses none
pub own-misses : (writes : List Entry) (owner : ℕ) (t : Table) → IsProper t → t.node ≡ owner → IsLastOf t.generation writes (λ key. entry_at t owner key) → MissesNone owner writes t
own-misses writes owner t proper node last e there alike upto = elim (last.last e there) [
  | inr (inl current) ↦ subst (λ h. IsUpTo (mark_of e) (mark_held h)) (sym current) (up_to-itself (mark_of e))
  | inr (inr older) ↦ before-up_to (mark_of e) (mark_at t owner e.key) older
  | inl forgotten ↦ elim (held-cases t owner) [
    | inl none ↦ up_to-then (mark_of e) absent (mark_at t owner e.key) (subst (IsUpTo (mark_of e)) none upto) (absent-first (mark_at t owner e.key))
    | inr (key, d, held, is) ↦ absurd (omega (arith, forgotten, alike, ap (λ (m : Mark). m.generation) is, proper.own key d (subst (λ n. entry_at t n key ≡ Some d) (sym node) held)))
  ]
]

-- and it holds as much as another that is
pub own-as_much : (writes : List Entry) (owner : ℕ) (t u : Table) → IsProper t → t.node ≡ owner → u.node ≡ owner → t.keys ≡ u.keys → t.generation ≡ u.generation → IsLastOf t.generation writes (λ key. entry_at t owner key) → IsLastOf u.generation writes (λ key. entry_at u owner key) → HoldsAsMuchOf owner t u
own-as_much writes owner t u proper t_node u_node keys generations t_last u_last = as_much-from owner t u
    (λ key e held. up_to-then (mark_of e) (mark_at u owner key) (greatest_mark u owner) (at_key key e held) (mark_at-up_to_greatest u owner key (subst (λ k. key < k) keys (proper.in_place owner key e held).key_below)))
    (λ key e held same. at_key key e held)
  where
    at_key : (key : ℕ) (e : Entry) → entry_at t owner key ≡ Some e → IsUpTo (mark_of e) (mark_at u owner key)
    at_key key e held =
        let is = t_last.written key e held in
        elim (u_last.last e is.0) [
          | inl forgotten ↦ absurd (omega (arith, forgotten, generations, is.2))
          | inr (inl current) ↦ subst (λ k. IsUpTo (mark_of e) (mark_at u owner k)) is.1 (subst (λ h. IsUpTo (mark_of e) (mark_held h)) (sym current) (up_to-itself (mark_of e)))
          | inr (inr older) ↦ subst (λ k. IsUpTo (mark_of e) (mark_at u owner k)) is.1 (before-up_to (mark_of e) (mark_at u owner e.key) older)
        ]

-- what one delta brings
module _ (rules : Rules) (rotation : ℕ) (from to : Table) (from_proper : IsProper from) (to_proper : IsProper to) (nodes : from.nodes ≡ to.nodes) (keys : from.keys ≡ to.keys) (owner : ℕ) (other : owner ≢ to.node) where
  abbrev after : Table
  after = received rules rotation from to from_proper

  rises : (key : ℕ) → generation_held after owner ≡ generation_held to owner → IsUpTo (mark_at to owner key) (mark_at after owner key)
  rises = (received-rises rules rotation from to from_proper nodes keys to_proper).within owner

  grows : IsUpTo (greatest_mark to owner) (greatest_mark after owner)
  grows = (received-rises rules rotation from to from_proper nodes keys to_proper).greatest owner

  pub to-as_much : HoldsAsMuchOf owner to after
  to-as_much = record { greatest = grows; within = rises }

  -- an entry of the sender that is sent if it is a candidate, and that the receiver has where its greatest mark says so
  module _ (key : ℕ) (e : Entry) (held : entry_at from owner key ≡ Some e) where
    abbrev item : Item
    item = record { owner = owner; entry = e }

    module _ (sends : Contains (candidates rules.mode from to) item → Contains (delta_between rules.mode rotation rules.budget from to).items item) (knows : IsScuttleMode rules.mode → e.generation ≡ generation_held to owner → IsUpTo (mark_of e) (greatest_mark to owner) → IsUpTo (mark_of e) (mark_at to owner key)) (limit : generation_held after owner ≤ e.generation) where
      keyed : e.key ≡ key
      keyed = (from_proper.in_place owner key e held).keyed

      known : (kind : DigestKind) → digest_kind rules.mode ≡ kind → IsUpTo (mark_of e) (known_mark kind to item) → IsUpTo (mark_of e) (mark_at after owner key)
      known Scuttle is up =
          up_to-then (mark_of e) (mark_at to owner key) (mark_at after owner key)
          (knows is (omega (arith, limit, grows.generation, up.generation)) up)
          (rises key (omega (arith, limit, grows.generation, up.generation)))
      known Precise is up = elim (entry_at to owner key) as (λ o. entry_at to owner key ≡ o → IsUpTo (mark_of e) (mark_at after owner key)) [
        | None ↦ λ none. absurd (omega (arith, (from_proper.in_place owner key e held).written, version_known, ap (λ o. (mark_held o).version) none))
        | Some d ↦ λ found.
            let alike = to_proper.copies owner key d found in
            up_to-then (mark_of e) (mark_of d) (mark_at after owner key)
            (record { generation = omega (arith, up.generation, alike); version = λ _. omega (arith, version_known, ap (λ o. (mark_held o).version) found) })
            (subst (λ h. IsUpTo (mark_held h) (mark_at after owner key)) found (rises key (omega (arith, limit, grows.generation, up.generation))))
      ] refl
        where
          version_known : e.version ≤ (mark_at to owner key).version
          version_known = subst (λ k. e.version ≤ (mark_at to owner k).version) keyed (up.version (omega (arith, limit, grows.generation, up.generation)))

      pub reaches : IsUpTo (mark_of e) (mark_at after owner key)
      reaches = elim (cases_before (known_mark (digest_kind rules.mode) to item) (mark_of e)) [
        | inl unknown ↦ sent-up_to rules rotation from to from_proper nodes keys to_proper owner key e keyed (sends (candidate rules.mode from to owner key e held other unknown.1)) limit
        | inr old ↦ known (digest_kind rules.mode) refl old.1
      ]

  -- where nothing is cut the receiver comes to hold as much as the sender, of a copy that is its owner's state
  module _ (in_nodes : rotation < from.nodes) (none : (delta_between rules.mode rotation rules.budget from to).cut ≡ 0) (writes : List Entry) (written : HoldsOf owner writes from) (misses : MissesNone owner writes to) where
    each : (key : ℕ) (e : Entry) → entry_at from owner key ≡ Some e → generation_held after owner ≤ e.generation → IsUpTo (mark_of e) (mark_at after owner key)
    each key e held =
        let is = written key e held in
        reaches key e held
        (sent-uncut rules.mode from to rotation rules.budget from_proper in_nodes none (record { owner = owner; entry = e }))
        (λ _ alike up. subst (λ k. IsUpTo (mark_of e) (mark_at to owner k)) is.1 (misses e is.0 alike up))

    pub from-as_much : HoldsAsMuchOf owner from after
    from-as_much = as_much-from owner from after
        (λ key e held. elim (cases_lt e.generation (generation_held after owner)) [
          | inl older ↦ record { generation = omega (arith, older); version = λ same. absurd (omega (arith, older, same)) }
          | inr as_new ↦ up_to-then (mark_of e) (mark_at after owner key) (greatest_mark after owner) (each key e held as_new) (at_key key e held)
        ])
        (λ key e held same. each key e held (omega (arith, same, from_proper.copies owner key e held)))
      where
        at_key : (key : ℕ) (e : Entry) → entry_at from owner key ≡ Some e → IsUpTo (mark_at after owner key) (greatest_mark after owner)
        at_key key e held = mark_at-up_to_greatest after owner key (omega (arith, (from_proper.in_place owner key e held).key_below, keys, (frame-applied to (delta_between rules.mode rotation rules.budget from to).items).keys))

    pub after-misses : MissesNone owner writes from → MissesNone owner writes after
    after-misses sender =
        misses-either owner to from after to_proper from_proper (received-proper rules rotation from to from_proper nodes keys to_proper) (received-either rules rotation from to from_proper) writes to-as_much from-as_much misses sender
