-- What one delta makes of the table that receives it.
-- Serves `ExchangeLaws`, `run_laws` and `version_tables`.
use Rattle.model.proofs.Common.{◌≡◌, ◌≢◌, ℕ, zero, suc, ◌<◌, ◌≤◌, max, not, ◌&&◌, eqb, List, [], ◌∷◌, Some, None, All, ◌⊎◌, inl, inr, if◌then◌else◌, refl, sym, ap, ◌∙◌, subst, arith, Option, cases_lt, cases_eq, eq-eqb, ne_eqb, All-contains, All-weaker, Entry, Item, Mark, Mode, Rules, absent, mark_of, mark_held, is_before, IsBefore, IsUpTo, later, digest_kind, before-yes, cases_before, cases_later, first-later, second-later, later-first, up_to-itself, up_to-then, up_to-both, absent-first, not_both}
use Rattle.std.specs.Prelude.{Contains}
use Rattle.model.specs.Table.{Table, applied, entry_at, mark_at, greatest_mark, generation_held, items_of, IsProper}
use Rattle.model.specs.calls.Table.{IsItemInPlace, MayReceive}
use Rattle.model.specs.inner.GreatestMarks.{greatest_among}
use Rattle.model.proofs.Greatest.{greatest_mark-from, mark_at-up_to_greatest}
use Rattle.model.proofs.Items.{entry_at-items_of, Contains-items_of}
use Rattle.model.proofs.TableLaws.{entry_at-applied_from}
use Rattle.model.proofs.ProperLaws.{proper-applied}
use Rattle.model.proofs.MarkLaws.{greatest_mark-applied, greatest_mark-up_to_applied, keeps_up-applied, keeps_up-item, greatest_among-own, greatest_among-other}
use Rattle.model.specs.Candidates.{IsScuttleMode, known_mark, candidates}
use Rattle.model.specs.Deltas.{delta_between}
use Rattle.model.proofs.DeltaLaws.{sent-candidate, sent-no_gap, sent-uncut}
use Rattle.model.proofs.Members.{Contains-filter, Contains-kept}
use Rattle.model.proofs.Sent.{All-delta_between, candidates-in_place}
use Rattle.model.specs.ExchangeLaws.{NoMarkFalls}
use Rattle.model.specs.calls.ExchangeLaws.{StoodInEither, IsPreciseMode, version_in, newer_generation}
use Rattle.model.specs.Copies.{OwnParts, Generations, WritesBy, IsCurrentOrOlder, IsLastOf, HoldsWrites, HoldsOf}
use Rattle.model.specs.inner.Copies.{AreLastOf, HasNoGap}

-- an item of one owner with one mark
abbrev IsOneOf : List Item → ℕ → Mark → Item → Type 0
IsOneOf added owner mark d = Contains added d × (d.owner ≡ owner) × (mark_of d.entry ≡ mark)

-- the greatest mark of an owner's items is that of one of them
greatest_among-from : (owner : ℕ) (added : List Item) → (greatest_among owner added ≡ absent) ⊎ ((d : Item) × IsOneOf added owner (greatest_among owner added) d)
greatest_among-from owner [] = inl refl
greatest_among-from owner (i ∷ is) = elim (cases_eq i.owner owner) [
  | inl own ↦ elim (cases_later (mark_of i.entry) (greatest_among owner is)) [
    | inl second ↦ elim (greatest_among-from owner is) [
      | inl none ↦ inl (greatest_among-own i is owner own ∙ second.0 ∙ none)
      | inr (d, one) ↦ inr (d, ((suc one.0.0, omega (arith, one.0.1), one.0.2), one.1, one.2 ∙ sym second.0 ∙ sym (greatest_among-own i is owner own)))
    ]
    | inr kept ↦ inr (i, ((0, omega arith, refl), own, sym kept.0 ∙ sym (greatest_among-own i is owner own)))
  ]
  | inr other ↦ elim (greatest_among-from owner is) [
    | inl none ↦ inl (greatest_among-other i is owner other ∙ none)
    | inr (d, one) ↦ inr (d, ((suc one.0.0, omega (arith, one.0.1), one.0.2), one.1, one.2 ∙ sym (greatest_among-other i is owner other)))
  ]
]

-- and no item's is behind it
greatest_among-ge : (added : List Item) (i : Item) → Contains added i → IsUpTo (mark_of i.entry) (greatest_among i.owner added)
greatest_among-ge [] i (k, lt, is) = absurd (omega arith)
greatest_among-ge (x ∷ xs) i (zero, lt, is) =
    subst (λ (y : Item). IsUpTo (mark_of y.entry) (greatest_among y.owner (x ∷ xs))) is
    (subst (IsUpTo (mark_of x.entry)) (sym (greatest_among-own x xs x.owner refl)) (first-later (mark_of x.entry) (greatest_among x.owner xs)))
greatest_among-ge (x ∷ xs) i (suc k, lt, is) =
    let rest = greatest_among-ge xs i (k, omega arith, is) in
    elim (cases_eq x.owner i.owner) [
      | inl own ↦ subst (IsUpTo (mark_of i.entry)) (sym (greatest_among-own x xs i.owner own)) (up_to-then (mark_of i.entry) (greatest_among i.owner xs) (later (mark_of x.entry) (greatest_among i.owner xs)) rest (second-later (mark_of x.entry) (greatest_among i.owner xs)))
      | inr other ↦ subst (IsUpTo (mark_of i.entry)) (sym (greatest_among-other x xs i.owner other)) rest
    ]

-- a held entry that the receiver doesn't know is a candidate
pub candidate : (mode : Mode) (from to : Table) (owner key : ℕ) (e : Entry) → entry_at from owner key ≡ Some e → owner ≢ to.node → IsBefore (known_mark (digest_kind mode) to (record { owner = owner; entry = e })) (mark_of e) → Contains (candidates mode from to) (record { owner = owner; entry = e })
candidate mode from to owner key e held other newer =
    let i : Item = record { owner = owner; entry = e } in
    Contains-filter (λ (x : Item). not (eqb x.owner to.node) && is_before (known_mark (digest_kind mode) to x) (mark_of x.entry)) (items_of from) i (Contains-items_of from owner key e held)
    ((λ n. not (ne_eqb owner to.node other n) && is_before (known_mark (digest_kind mode) to i) (mark_of e)) ∙ before-yes (known_mark (digest_kind mode) to i) (mark_of e) newer)

-- what an owner holds at a key is what a copy does whose mark there is not before
current-held : (writes : WritesBy) (own : OwnParts) (t : Table) (generation owner key : ℕ) (e : Entry) → HoldsWrites writes t → IsLastOf generation (writes owner) (own owner) → own owner key ≡ Some e → 1 ≤ e.version → IsUpTo (mark_of e) (mark_at t owner key) → entry_at t owner key ≡ Some e
current-held writes own t generation owner key e holds last current written le = elim (entry_at t owner key) as (λ o. entry_at t owner key ≡ o → IsUpTo (mark_of e) (mark_held o) → o ≡ Some e) [
  | None ↦ λ _ none. absurd (omega (arith, none.version (omega (arith, none.generation)), written))
  | Some d ↦ λ found no_older.
      let is = holds owner key d found in
      elim (last.last d is.0) [
        | inl forgotten ↦ absurd (omega (arith, forgotten, no_older.generation, (last.written key e current).2))
        | inr alive ↦ elim (subst (λ k. IsCurrentOrOlder (own owner k) d) is.1 alive) [
          | inl same ↦ sym same ∙ current
          | inr older ↦ absurd (not_both (mark_of d) (mark_of e) (subst (λ h. IsBefore (mark_of d) (mark_held h)) current older) no_older)
        ]
      ]
] refl le

-- a copy of an owner's writes is of no newer generation than the owner
held-generation : (writes : List Entry) (own : ℕ → Option Entry) (t : Table) (generation owner : ℕ) → IsLastOf generation writes own → HoldsOf owner writes t → generation_held t owner ≤ generation
held-generation writes own t generation owner last holds = elim (greatest_mark-from t owner) [
  | inl none ↦ omega (arith, ap (λ (m : Mark). m.generation) none)
  | inr (key, lt, is) ↦ elim (entry_at t owner key) as (λ o. entry_at t owner key ≡ o → mark_held o ≡ greatest_mark t owner → generation_held t owner ≤ generation) [
    | None ↦ λ _ at. omega (arith, ap (λ (m : Mark). m.generation) at)
    | Some d ↦ λ found at. elim (last.last d (holds key d found).0) [
      | inl forgotten ↦ omega (arith, forgotten, ap (λ (m : Mark). m.generation) at)
      | inr (inl current) ↦ omega (arith, (last.written d.key d current).2, ap (λ (m : Mark). m.generation) at)
      | inr (inr older) ↦ omega (arith, older.generation, of_own (own d.key) d.key refl, ap (λ (m : Mark). m.generation) at)
    ]
  ] refl is
]
  where
    of_own : (o : Option Entry) (key : ℕ) → own key ≡ o → (mark_held o).generation ≤ generation
    of_own None key is = omega arith
    of_own (Some e) key is = omega (arith, (last.written key e is).2)

module _ (rules : Rules) (rotation : ℕ) (from to : Table) (proper : IsProper from) where
  -- the items that are sent
  abbrev items : List Item
  items = (delta_between rules.mode rotation rules.budget from to).items

  -- the receiver's table after them
  abbrev pub received : Table
  received = applied to items

  -- each is held by the sender
  pub sent-held : (d : Item) → Contains items d → entry_at from d.owner d.entry.key ≡ Some d.entry
  sent-held d there =
      entry_at-items_of from d proper (Contains-kept (λ (x : Item). not (eqb x.owner to.node) && is_before (known_mark (digest_kind rules.mode) to x) (mark_of x.entry)) (items_of from) d (sent-candidate rules.mode from to rotation rules.budget d there)).0

  sent-in_place : All (λ (i : Item). (i.owner ≢ to.node) × IsItemInPlace from.nodes from.keys i) items
  sent-in_place =
      All-delta_between (λ (i : Item). (i.owner ≢ to.node) × IsItemInPlace from.nodes from.keys i) rules.mode rotation rules.budget from to
      (candidates-in_place from (known_mark (digest_kind rules.mode) to) to.node proper)

  -- each entry was the receiver's or the sender's
  pub received-either : StoodInEither to from received
  received-either owner key e found = elim (entry_at-applied_from to items owner key e found) [
    | inl held ↦ inl held
    | inr came ↦ inr (subst (λ k. entry_at from owner k ≡ Some e) came.1 (sent-held (record { owner = owner; entry = e }) came.0))
  ]

  -- entries that are writes stay so
  pub received-writes : (writes : WritesBy) → HoldsWrites writes to → HoldsWrites writes from → HoldsWrites writes received
  received-writes writes old new owner key e found = elim (received-either owner key e found) [
    | inl held ↦ old owner key e held
    | inr came ↦ new owner key e came
  ]

  module _ (nodes : from.nodes ≡ to.nodes) (keys : from.keys ≡ to.keys) where
    may_take : All (MayReceive to) items
    may_take = All-weaker (λ (i : Item). (i.owner ≢ to.node) × IsItemInPlace from.nodes from.keys i) (MayReceive to) (λ i h. (h.0, subst (λ n. IsItemInPlace n to.keys i) nodes (subst (λ k. IsItemInPlace from.nodes k i) keys h.1))) items sent-in_place

    pub all_in_place : All (IsItemInPlace to.nodes to.keys) items
    all_in_place = All-weaker (MayReceive to) (IsItemInPlace to.nodes to.keys) (λ i h. h.1) items may_take

    pub greatest-received : (owner : ℕ) → greatest_mark received owner ≡ later (greatest_mark to owner) (greatest_among owner items)
    greatest-received owner = greatest_mark-applied to items owner all_in_place

    -- a proper table stays so
    pub received-proper : IsProper to → IsProper received
    received-proper is = proper-applied to items is may_take

    module _ (to_proper : IsProper to) where
      -- what was held is not forgotten, unless the copy is of a newer generation
      pub kept : (owner key : ℕ) (e : Entry) → entry_at to owner key ≡ Some e → generation_held received owner ≤ e.generation → IsUpTo (mark_of e) (mark_at received owner key)
      kept owner key e held le =
          keeps_up-applied (mark_of e) to items owner key all_in_place (to_proper.in_place owner key e held).key_below
          (λ _. subst (λ h. IsUpTo (mark_of e) (mark_held h)) (sym held) (up_to-itself (mark_of e))) le

      -- and neither is what is sent
      pub sent-up_to : (owner key : ℕ) (e : Entry) → e.key ≡ key → Contains items (record { owner = owner; entry = e }) → generation_held received owner ≤ e.generation → IsUpTo (mark_of e) (mark_at received owner key)
      sent-up_to owner key e keyed there le =
          subst (λ k. IsUpTo (mark_of e) (mark_at received owner k)) keyed (keeps_up-item to items (record { owner = owner; entry = e }) all_in_place there le)

      -- no mark goes down
      pub received-rises : NoMarkFalls to received
      received-rises = record {
        greatest = λ owner. greatest_mark-up_to_applied to items owner all_in_place;
        within = λ owner key same. elim (entry_at to owner key) as (λ o. entry_at to owner key ≡ o → IsUpTo (mark_held o) (mark_at received owner key)) [
          | None ↦ λ _. absent-first (mark_at received owner key)
          | Some e ↦ λ held. kept owner key e held (omega (arith, same, to_proper.copies owner key e held))
        ] refl;
      }

      -- in a precise mode, with nothing cut, of each owner the newer of the two generations is held, and of each key
      -- the greater of the two versions in it
      module _ (precise : IsPreciseMode rules.mode) (in_nodes : rotation < from.nodes) (none : (delta_between rules.mode rotation rules.budget from to).cut ≡ 0) (owner : ℕ) (other : owner ≢ to.node) where
        abbrev newest : ℕ
        newest = newer_generation to from owner

        comes : (key : ℕ) (e : Entry) → entry_at from owner key ≡ Some e → IsBefore (record { generation = generation_held to owner; version = (mark_at to owner key).version }) (mark_of e) → Contains items (record { owner = owner; entry = e })
        comes key e held news =
            let i : Item = record { owner = owner; entry = e } in
            let keyed = (proper.in_place owner key e held).keyed in
            let unknown : IsBefore (known_mark (digest_kind rules.mode) to i) (mark_of e) =
            subst (λ kind. IsBefore (known_mark kind to i) (mark_of e)) (sym precise) (subst (λ k. IsBefore (record { generation = generation_held to owner; version = (mark_at to owner k).version }) (mark_of e)) (sym keyed) news) in
            sent-uncut rules.mode from to rotation rules.budget proper in_nodes none i (candidate rules.mode from to owner key e held other unknown)

        -- an entry of a newer copy is sent, so the generation is reached
        reaches : generation_held to owner < generation_held from owner → generation_held from owner ≤ generation_held received owner
        reaches newer = elim (greatest_mark-from from owner) [
          | inl nothing ↦ absurd (omega (arith, newer, ap (λ (m : Mark). m.generation) nothing))
          | inr (key, lt, is) ↦ elim (entry_at from owner key) as (λ o. entry_at from owner key ≡ o → mark_held o ≡ greatest_mark from owner → generation_held from owner ≤ generation_held received owner) [
            | None ↦ λ _ at. absurd (omega (arith, newer, ap (λ (m : Mark). m.generation) at))
            | Some e ↦ λ held at.
                let same = ap (λ (m : Mark). m.generation) at in
                let there = comes key e held (record { generation = omega (arith, same, newer); version = λ tied. absurd (omega (arith, tied, same, newer)) }) in
                let among = greatest_among-ge items (record { owner = owner; entry = e }) there in
                let up = subst (IsUpTo (greatest_among owner items)) (sym (greatest-received owner)) (second-later (greatest_mark to owner) (greatest_among owner items)) in
                omega (arith, same, among.generation, up.generation)
          ] refl is
        ]

        -- and none newer than both
        no_newer : generation_held received owner ≤ newest
        no_newer = elim (greatest_mark-from received owner) [
          | inl nothing ↦ omega (arith, ap (λ (m : Mark). m.generation) nothing)
          | inr (key, lt, is) ↦ elim (entry_at received owner key) as (λ o. entry_at received owner key ≡ o → mark_held o ≡ greatest_mark received owner → generation_held received owner ≤ newer_generation to from owner) [
            | None ↦ λ _ at. omega (arith, ap (λ (m : Mark). m.generation) at)
            | Some e ↦ λ found at. elim (received-either owner key e found) [
              | inl held ↦ omega (arith, ap (λ (m : Mark). m.generation) at, to_proper.copies owner key e held)
              | inr came ↦ omega (arith, ap (λ (m : Mark). m.generation) at, proper.copies owner key e came)
            ]
          ] refl is
        ]

        pub received-generation : generation_held received owner ≡ newer_generation to from owner
        received-generation = elim (cases_lt (generation_held to owner) (generation_held from owner)) [
          | inl newer ↦ omega (arith, newer, reaches newer, no_newer)
          | inr not_newer ↦ omega (arith, not_newer, no_newer, (received-rises.greatest owner).generation)
        ]

        pub received-versions : (key : ℕ) → (mark_at received owner key).version ≡ max (version_in (newer_generation to from owner) to owner key) (version_in (newer_generation to from owner) from owner key)
        received-versions key = omega (arith, at_most, at_least_to, at_least_from)
          where
            in_same : (t : Table) → generation_held t owner ≡ newest → version_in newest t owner key ≡ (mark_at t owner key).version
            in_same t same = ap (λ b. if b then (mark_at t owner key).version else 0) (eq-eqb (generation_held t owner) newest same)

            in_other : (t : Table) → generation_held t owner ≢ newest → version_in newest t owner key ≡ 0
            in_other t apart = ap (λ b. if b then (mark_at t owner key).version else 0) (ne_eqb (generation_held t owner) newest apart)

            at_most : (mark_at received owner key).version ≤ max (version_in newest to owner key) (version_in newest from owner key)
            at_most = elim (entry_at received owner key) as (λ o. entry_at received owner key ≡ o → (mark_held o).version ≤ max (version_in newest to owner key) (version_in newest from owner key)) [
              | None ↦ λ _. omega arith
              | Some e ↦ λ found.
                  let alike = (received-proper to_proper).copies owner key e found in
                  elim (received-either owner key e found) [
                    | inl held ↦ omega (arith, in_same to (omega (arith, alike, received-generation, to_proper.copies owner key e held)), ap (λ h. (mark_held h).version) held)
                    | inr came ↦ omega (arith, in_same from (omega (arith, alike, received-generation, proper.copies owner key e came)), ap (λ h. (mark_held h).version) came)
                  ]
            ] refl

            -- the version of what is held, in the generation that is held then
            version-of : (e : Entry) → IsUpTo (mark_of e) (mark_at received owner key) → e.generation ≡ newest → e.version ≤ (mark_at received owner key).version
            version-of e up same = elim (entry_at received owner key) as (λ o. entry_at received owner key ≡ o → IsUpTo (mark_of e) (mark_held o) → e.version ≤ (mark_held o).version) [
              | None ↦ λ _ none. none.version (omega (arith, none.generation))
              | Some d ↦ λ found over. over.version (omega (arith, same, (received-proper to_proper).copies owner key d found, received-generation))
            ] refl up

            -- as much as a table holds in that generation
            at_least : (t : Table) → ((e : Entry) → entry_at t owner key ≡ Some e → generation_held t owner ≡ newest → e.version ≤ (mark_at received owner key).version) → version_in newest t owner key ≤ (mark_at received owner key).version
            at_least t each = elim (cases_eq (generation_held t owner) newest) [
              | inr apart ↦ omega (arith, in_other t apart)
              | inl same ↦ elim (entry_at t owner key) as (λ o. entry_at t owner key ≡ o → version_in newest t owner key ≤ (mark_at received owner key).version) [
                | None ↦ λ absent_there. omega (arith, in_same t same, ap (λ h. (mark_held h).version) absent_there)
                | Some e ↦ λ held. omega (arith, in_same t same, ap (λ h. (mark_held h).version) held, each e held same)
              ] refl
            ]

            at_least_to : version_in newest to owner key ≤ (mark_at received owner key).version
            at_least_to = at_least to (λ e held same.
                let of_copy = to_proper.copies owner key e held in
                version-of e (kept owner key e held (omega (arith, of_copy, same, received-generation))) (omega (arith, of_copy, same)))

            at_least_from : version_in newest from owner key ≤ (mark_at received owner key).version
            at_least_from = at_least from (λ e held same.
                let of_copy = proper.copies owner key e held in
                elim (cases_before (record { generation = generation_held to owner; version = (mark_at to owner key).version }) (mark_of e)) [
                  | inl news ↦ version-of e (sent-up_to owner key e (proper.in_place owner key e held).keyed (comes key e held news.1) (omega (arith, of_copy, same, received-generation))) (omega (arith, of_copy, same))
                  | inr known ↦
                      let as_new : generation_held to owner ≡ newest = omega (arith, known.1.generation, of_copy, same) in
                      omega (arith, known.1.version (omega (arith, as_new, of_copy, same)), in_same to as_new, at_least_to)
                ])

      -- in a scuttle mode no gap comes between what is held of an owner
      pub received-no_gap : IsScuttleMode rules.mode → rotation < from.nodes → (generations : Generations) (writes : WritesBy) (own : OwnParts) → AreLastOf to.nodes generations writes own → HoldsWrites writes to → HoldsWrites writes from → HasNoGap own to → HasNoGap own from → HasNoGap own received
      received-no_gap scuttle in_nodes generations writes own last to_writes from_writes to_gapless from_gapless owner key e current upto =
          elim (cases_before (greatest_mark to owner) (mark_of e)) [
            | inl newer ↦ elim (greatest_among-from owner items) [
              | inl none ↦ absurd (not_both (greatest_mark to owner) (mark_of e) newer.1 (subst (IsUpTo (mark_of e)) (greatest-received owner ∙ ap (later (greatest_mark to owner)) none ∙ later-first (greatest_mark to owner) absent (absent-first (greatest_mark to owner))) upto))
              | inr (d, one) ↦ came newer.1 d one
            ]
            | inr known ↦
                let held = to_gapless owner key e current known.1 in
                let place = to_proper.in_place owner key e held in
                stays place.owner_below place.written (kept owner key e held)
          ]
        where
          stays : owner < to.nodes → 1 ≤ e.version → (generation_held received owner ≤ e.generation → IsUpTo (mark_of e) (mark_at received owner key)) → entry_at received owner key ≡ Some e
          stays below written keeps =
              let is_last = last owner below in
              let holds = received-writes writes to_writes from_writes in
              let limit = held-generation (writes owner) (own owner) received (generations owner) owner is_last (holds owner) in
              current-held writes own received (generations owner) owner key e holds is_last current written (keeps (omega (arith, limit, (is_last.written key e current).2)))

          -- all of the owner's up to the newest that is sent are sent
          reached : IsBefore (greatest_mark to owner) (mark_of e) → (d : Item) → Contains items d → d.owner ≡ owner → entry_at from owner d.entry.key ≡ Some d.entry → IsUpTo (mark_of e) (mark_of d.entry) → entry_at from owner key ≡ Some e → Contains items (record { owner = owner; entry = e })
          reached newer d there own_item sent e_upto held =
              let i : Item = record { owner = owner; entry = e } in
              let alike : e.generation ≡ d.entry.generation = omega (arith, proper.copies owner key e held, proper.copies owner d.entry.key d.entry sent) in
              elim (cases_lt e.version d.entry.version) [
                | inl older ↦
                    let other : owner ≢ to.node = subst (λ r. r ≢ to.node) own_item (All-contains (λ (x : Item). (x.owner ≢ to.node) × IsItemInPlace from.nodes from.keys x) items d sent-in_place there).0 in
                    let unknown : IsBefore (known_mark (digest_kind rules.mode) to i) (mark_of e) = subst (λ kind. IsBefore (known_mark kind to i) (mark_of e)) (sym scuttle) newer in
                    sent-no_gap rules.mode from to rotation rules.budget scuttle proper in_nodes i d (candidate rules.mode from to owner key e held other unknown) there (sym own_item) older
                | inr as_old ↦
                    let marks : mark_of d.entry ≡ mark_of e = up_to-both (mark_of d.entry) (mark_of e) (record { generation = omega (arith, alike); version = λ _. as_old }) e_upto in
                    let same : d.entry ≡ e = (last owner (subst (λ n. owner < n) nodes (proper.in_place owner key e held).owner_below)).apart d.entry e (from_writes owner d.entry.key d.entry sent).0 (from_writes owner key e held).0 marks in
                    subst (Contains items) (λ n. record { owner = own_item n; entry = same n }) there
              ]

          came : IsBefore (greatest_mark to owner) (mark_of e) → (d : Item) → IsOneOf items owner (greatest_among owner items) d → entry_at received owner key ≡ Some e
          came newer d (there, own_item, most) =
              let sent = subst (λ r. entry_at from r d.entry.key ≡ Some d.entry) own_item (sent-held d there) in
              let below = (proper.in_place owner d.entry.key d.entry sent).key_below in
              let e_upto : IsUpTo (mark_of e) (mark_of d.entry) = elim (cases_later (greatest_mark to owner) (greatest_among owner items)) [
                | inl second ↦ subst (IsUpTo (mark_of e)) (greatest-received owner ∙ second.0 ∙ sym most) upto
                | inr first ↦ absurd (not_both (greatest_mark to owner) (mark_of e) newer (subst (IsUpTo (mark_of e)) (greatest-received owner ∙ first.0) upto))
              ] in
              let known = subst (λ h. IsUpTo (mark_held h) (greatest_mark from owner)) sent (mark_at-up_to_greatest from owner d.entry.key below) in
              let held = from_gapless owner key e current (up_to-then (mark_of e) (mark_of d.entry) (greatest_mark from owner) e_upto known) in
              let place = proper.in_place owner key e held in
              stays (subst (λ n. owner < n) nodes place.owner_below) place.written (sent-up_to owner key e place.keyed (reached newer d there own_item sent e_upto held))
