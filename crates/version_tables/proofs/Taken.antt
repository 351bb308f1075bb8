-- A table that took a delta by marks, and dropped what is of older generations, is the model's table that took its items.
-- Serves `exchange_deltas` and `Merged`.
use Rattle.version_tables.proofs.Common.{◌≡◌, ℕ, ◌-◌, ◌<◌, ◌≤◌, ◌↔◌, true, false, List, Some, inl, inr, refl, sym, ap, ◌∙◌, subst, get_or, arith, cases_lt, current-numbered, nat_tests, not_both, Entry, Mark, Rules, mark_of, mark_held, Table, entry_at, generation_held, write_numbered, all_writes, list_of_owner, cell, is_taken, number_kept, number_taken, numbers_taken, IsRaised, start_before, start_of, numbered-some, numbered-within, numbers-before, numbers-up_to, IsGreatest, VersionTableView, HistoriesView, table_in, is_taken_at, AreMarksOf, bases_in, IsWrittenSoFar, IsNumberedHistory, drop_start, HasTaken, frame-applied, delta_of_views, Option, None, ◌⊎◌, Contains, Item, Scuttle, Precise, IsUpTo, digest_kind, greatest_mark, IsProper, greatest_mark-from, entry_at-applied_from, applied, Lacks, candidates-lacked, sent-candidate, sent-held, received-proper, kept, sent-up_to, Bool, eqb, [], ◌∷◌, length, ◌||◌, both_ways, eqb-true, Exchange, Record, initiator_after, last_fate, responder_after, sent_until, MakesOf, DeltaView, digest_size, HasTakenUnless, map, length-map, first_sent, First, ◌*◌, IsDelta, IsArrivalOf, MayArrive, OwnerListView}
use Rattle.version_tables.specs.declared.deltas.DeltaMarks.{DeltaMarks}
use Rattle.version_tables.specs.declared.taking.Arrival.{Arrival}
pub use Rattle.version_tables.proofs.Fitting.{AreLaidBoth, HoldsNumber, LiesAs, cells-are, cells-held, greatest-mark, greatest-within, holds-same, kept-number, laid-both, lies-kept, lies-table, no-number, none-unless, turned}

-- where no later mark than an entry's is held, something is
stands : (e : Entry) (o : Option Entry) → 1 ≤ e.version → IsUpTo (mark_of e) (mark_held o) → (d : Entry) × (o ≡ Some d) × IsUpTo (mark_of e) (mark_of d)
stands e None some upto = absurd (omega (arith, some, upto.version (omega (arith, upto.generation))))
stands e (Some d) some upto = (d, refl, upto)

-- numbers up to where the generation of a write starts are of older ones, and the others up to it aren't
start-parts : {writes : List Entry} → IsNumberedHistory writes → (m n : ℕ) (d e : Entry)
    → write_numbered writes m ≡ Some d → write_numbered writes n ≡ Some e → m ≤ n → (m ≤ start_of writes n) ↔ (d.generation < e.generation)
start-parts {writes = writes} numbered m n d e is_d is_e le = (
  (λ upto. numbered.older m n d e is_d is_e (omega (arith, upto, start, (numbered.counted n e is_e).1))),
  (λ older. grind (arith, start, numbered.alike m n d e is_d is_e le)),
)
  where
    start : start_of writes n ≡ n - e.version
    start = ap (start_before n) is_e

-- where the third message was sent, the second came
came-back : (lost : Bool) (p : Table) (back : DeltaView) → initiator_after (last_fate lost) p back ≡ applied p back.items
came-back true p back = refl
came-back false p back = refl

-- what a table takes of some numbers it takes of others
abbrev pub SendAlike : VersionTableView → List ℕ → List ℕ → List ℕ → List ℕ → Type 0
SendAlike to low high sent now = (owner key : ℕ) → owner < to.nodes → key < to.keys
    → numbers_taken to.nodes to.cells now low high owner key ≡ numbers_taken to.nodes to.cells sent low high owner key

module _ (rules : Rules) (rotation : ℕ) {written : ℕ → List Entry} {most : ℕ} {h : HistoriesView} {from to : VersionTableView}
    (two : AreLaidBoth written most h from to) where
  abbrev F : Table
  F = table_in written from

  abbrev T : Table
  T = table_in written to

  abbrev sent : List Item
  sent = (delta_of_views rules rotation written from to).items

  abbrev pub after : Table
  after = applied T sent

  after-proper : IsProper after
  after-proper = received-proper rules rotation F T two.first.proper two.nodes two.keys two.second.proper

  -- of an owner
  module _ (owner : ℕ) where
    abbrev Comes : Entry → Type 0
    Comes e = Contains sent (record { owner = owner; entry = e })

    -- what comes the sender holds, and it is of no older generation than the receiver's copy
    came-held : (e : Entry) → Comes e → entry_at F owner e.key ≡ Some e
    came-held e = sent-held rules rotation F T two.first.proper (record { owner = owner; entry = e })

    came-current : (e : Entry) → Comes e → generation_held T owner ≤ e.generation
    came-current e comes =
        let i : Item = record { owner = owner; entry = e } in
        elim (digest_kind rules.mode) as (λ kind. Lacks kind T i → generation_held T owner ≤ e.generation) [
          | Scuttle ↦ λ lacked. lacked.1.generation
          | Precise ↦ λ lacked. lacked.1
        ] ((candidates-lacked rules.mode F T i two.first.proper two.second.proper).0 (sent-candidate rules.mode F T rotation rules.budget i comes)).1

    of-sender : (e : Entry) → Comes e → e.generation ≡ generation_held F owner
    of-sender e comes = two.first.proper.copies owner e.key e (came-held e comes)

    -- what was held at a place, or comes there
    abbrev Stood : ℕ → Entry → Type 0
    Stood key e = (entry_at T owner key ≡ Some e) ⊎ (Comes e × (e.key ≡ key))

    after-stood : (key : ℕ) (e : Entry) → entry_at after owner key ≡ Some e → Stood key e
    after-stood key e = entry_at-applied_from T sent owner key e

    -- unless it is of an older generation, it or a later entry is held there
    after-upto : (key : ℕ) (e : Entry) → Stood key e → generation_held after owner ≤ e.generation
        → (d : Entry) × (entry_at after owner key ≡ Some d) × IsUpTo (mark_of e) (mark_of d)
    after-upto key e (inl held) le =
        stands e (entry_at after owner key) (two.second.proper.in_place owner key e held).written
        (kept rules rotation F T two.first.proper two.nodes two.keys two.second.proper owner key e held le)
    after-upto key e (inr came) le =
        stands e (entry_at after owner key) (two.first.proper.in_place owner e.key e (came-held e came.0)).written
        (sent-up_to rules rotation F T two.first.proper two.nodes two.keys two.second.proper owner key e came.1 came.0 le)

    -- the copy is of the generation of an entry that stood, if none that did is of a newer one
    generation-is : (key : ℕ) (e : Entry) → Stood key e → ((k : ℕ) (d : Entry) → Stood k d → d.generation ≤ e.generation)
        → generation_held after owner ≡ e.generation
    generation-is key e stood no_newer =
        let there = after-upto key e stood upto in omega (arith, upto, there.2.generation, after-proper.copies owner key there.0 there.1)
      where
        upto : generation_held after owner ≤ e.generation
        upto = elim (greatest_mark-from after owner) [
          | inl nothing ↦ omega (arith, ap (λ (m : Mark). m.generation) nothing)
          | inr (k, lt, is) ↦ elim (entry_at after owner k) as
              (λ o. entry_at after owner k ≡ o → mark_held o ≡ greatest_mark after owner → generation_held after owner ≤ e.generation) [
                | None ↦ λ _ at. omega (arith, ap (λ (m : Mark). m.generation) at)
                | Some d ↦ λ found at. omega (arith, ap (λ (m : Mark). m.generation) at, no_newer k d (after-stood k d found))
              ] refl is
        ]

    -- what stood and is older than what did is the receiver's, and that is of the sender's generation
    older-stood : (key k : ℕ) (d e : Entry) → Stood key d → Stood k e → d.generation < e.generation
        → (entry_at T owner key ≡ Some d) × (d.generation ≡ generation_held T owner) × (e.generation ≡ generation_held F owner)
    older-stood key k d e (inl held) (inl other) older =
        absurd (omega (arith, older, two.second.proper.copies owner key d held, two.second.proper.copies owner k e other))
    older-stood key k d e (inl held) (inr came) older = (held, two.second.proper.copies owner key d held, of-sender e came.0)
    older-stood key k d e (inr came) (inl other) older = absurd (omega (arith, older, came-current d came.0, two.second.proper.copies owner k e other))
    older-stood key k d e (inr came) (inr other) older = absurd (omega (arith, older, of-sender d came.0, of-sender e other.0))

    -- by numbers that are taken from the sender as it was, or as it is now
    module _ {low high now : List ℕ} {count cut : ℕ} {new : VersionTableView} (delta : AreMarksOf rules rotation written from to low high count cut)
        (same : SendAlike to low high from.cells now) (taken : HasTaken h.lists to now low high new) (in_nodes : owner < to.nodes) where
      abbrev writes : List Entry
      writes = all_writes h.lists owner

      -- the owner's numbers before older ones are dropped, and its greatest one before and then
      abbrev y : ℕ → ℕ
      y = numbers_taken to.nodes to.cells now low high owner

      abbrev greatest : ℕ
      greatest = get_or new.greatest owner 0

      abbrev start : ℕ
      start = drop_start writes (get_or to.greatest owner 0) (bases_in h.lists owner) greatest

      so_far : IsWrittenSoFar (written owner) most writes
      so_far = two.first.known.so_far owner

      before : IsGreatest (cell to.cells to.nodes) to.keys owner (get_or to.greatest owner 0)
      before = two.second.tops.each owner in_nodes

      raised : IsRaised (numbers_taken to.nodes to.cells now low high) to.keys owner (get_or to.greatest owner 0) greatest
      raised = taken.raised.each owner in_nodes

      in_node : owner < from.nodes
      in_node = omega (arith, in_nodes, two.nodes)

      there : (key : ℕ) → cell from.cells to.nodes owner key ≡ cell from.cells from.nodes owner key
      there key = ap (λ n. cell from.cells n owner key) (sym two.nodes)

      y-sent : (key : ℕ) → key < to.keys → is_taken_at from to low high owner key ≡ true → y key ≡ cell from.cells from.nodes owner key
      y-sent key lt yes' = same owner key in_nodes lt ∙ (let at = there key in grind (arith, nat_tests))

      y-above : (key : ℕ) → cell to.cells to.nodes owner key ≤ y key
      y-above key = grind (arith, nat_tests)

      -- what stood at a place has a number, up to the one that is taken there
      stood-number : (key : ℕ) (e : Entry) → Stood key e → (n : ℕ) × (write_numbered writes n ≡ Some e) × (n ≤ y key) × (y key ≤ greatest)
      stood-number key e (inl held) =
          let lt = (two.second.proper.in_place owner key e held).key_below in
          (cell to.cells to.nodes owner key, sym (cells-are two.second owner in_nodes key lt) ∙ held, y-above key, raised.upto key lt)
      stood-number key e (inr came) =
          let held = came-held e came.0 in let below = (two.first.proper.in_place owner e.key e held).key_below in
          let lt : e.key < to.keys = omega (arith, below, two.keys) in let at = y-sent e.key lt ((delta.marks.members owner e.key e held).1 came.0) in
          subst (λ k. (n : ℕ) × (write_numbered writes n ≡ Some e) × (n ≤ y k) × (y k ≤ greatest)) came.1
          (cell from.cells from.nodes owner e.key, sym (cells-are two.first owner in_node e.key below) ∙ held, omega (arith, at), raised.upto e.key lt)

      -- and that is of what stood there
      abbrev IsTaken : ℕ → Type 0
      IsTaken key = (e : Entry) × (write_numbered writes (y key) ≡ Some e) × Stood key e × HoldsNumber (written owner) key (Some e) (y key)

      number-stood : (key : ℕ) → key < to.keys → 0 < y key → IsTaken key
      number-stood key lt some = elim (is_taken_at from to low high owner key) as (λ b. is_taken_at from to low high owner key ≡ b → IsTaken key) [
        | true ↦ λ yes'.
            let at = y-sent key lt yes' in let in_key : key < from.keys = omega (arith, lt, two.keys) in
            let e = cells-held two.first owner in_node key in_key (omega (arith, at, some)) in let comes = (delta.marks.members owner key e.0 e.2).0 yes' in
            let holds = holds-same (sym e.2) at (kept-number two.first.kept owner key in_node in_key) in
            (e.0, ap (write_numbered writes) at ∙ e.1, inr (comes, (two.first.proper.in_place owner key e.0 e.2).keyed), holds)
        | false ↦ λ no'.
            let at : y key ≡ cell to.cells to.nodes owner key = same owner key in_nodes lt ∙ (let its = there key in grind (arith, nat_tests)) in
            let e = cells-held two.second owner in_nodes key lt (omega (arith, at, some)) in
            (e.0, ap (write_numbered writes) at ∙ e.1, inl e.2, holds-same (sym e.2) at (kept-number two.second.kept owner key in_nodes lt))
      ] refl

      current : (number : ℕ) (e : Entry) → write_numbered writes number ≡ Some e → bases_in h.lists owner < number
          → e.generation ≡ (list_of_owner h.lists owner).generation
      current number e is over = (current-numbered (list_of_owner h.lists owner) (two.first.known.writes owner) number e is over).generation

      -- the greatest number is of an entry that stood, of the newest generation
      greatest-at : 0 < greatest → (key : ℕ) × (key < to.keys) × (y key ≡ greatest)
      greatest-at some = elim raised.from [
        | inr raises ↦ raises
        | inl stays ↦ elim before.held [
          | inl none ↦ absurd (omega (arith, none, stays, some))
          | inr (key, lt, is) ↦ (key, lt, omega (arith, is, stays, y-above key, raised.upto key lt))
        ]
      ]

      abbrev Newest : Type 0
      Newest = (e : Entry) × (write_numbered writes greatest ≡ Some e) × ((key : ℕ) × Stood key e) × (generation_held after owner ≡ e.generation)

      newest : 0 < greatest → Newest
      newest some =
          let at = greatest-at some in let e = number-stood at.0 at.1 (omega (arith, at.2, some)) in
          let is : write_numbered writes greatest ≡ Some e.0 = ap (write_numbered writes) (sym at.2) ∙ e.1 in (
            e.0,
            is,
            (at.0, e.2),
            generation-is at.0 e.0 e.2 (λ k d stood.
                let n = stood-number k d stood in (numbers-up_to writes so_far.history n.0 greatest d e.0 n.1 is (omega (arith, n.2, n.3))).generation),
          )

      module _ (key : ℕ) (in_keys : key < to.keys) (some : 0 < y key) where
        here : IsTaken key
        here = number-stood key in_keys some

        top : Newest
        top = newest (omega (arith, some, raised.upto key in_keys))

        parts : (y key ≤ start_of writes greatest) ↔ (here.0.generation < top.0.generation)
        parts = start-parts so_far.numbered (y key) greatest here.0 top.0 here.1 top.1 (raised.upto key in_keys)

        -- what isn't of an older generation is kept
        stays : generation_held after owner ≤ here.0.generation → start < y key
        stays no_older = grind (arith, nat_tests, top.3, parts.0)

        -- and what is was the receiver's, whose numbers are of its copy's generation, so it is dropped
        drops : here.0.generation < generation_held after owner → y key ≤ start
        drops older =
            let is_older : here.0.generation < top.0.generation = omega (arith, older, top.3) in
            let was = older-stood key top.2.0 here.0 top.0 here.2 top.2.1 is_older in
            let has = (numbered-within writes (cell to.cells to.nodes owner key) here.0 (sym (cells-are two.second owner in_nodes key in_keys) ∙ was.0)).0 in
            let some_old : 0 < (get_or to.greatest owner 0) = omega (arith, has, before.upto key in_keys) in
            let f = numbered-some writes (get_or to.greatest owner 0) some_old (greatest-within two.second owner in_nodes) in
            let copy = ap (λ (m : Mark). m.generation) (greatest-mark two.second owner in_nodes) ∙ ap (λ o. (mark_held o).generation) f.1 in
            let alike : f.0.generation < top.0.generation = omega (arith, is_older, was.1, copy) in
            let later = λ (le : greatest ≤ get_or to.greatest owner 0). (numbers-up_to writes so_far.history greatest _ top.0 f.0 top.1 f.1 le).generation in
            let below = parts.1 is_older in
            grind (arith, nat_tests, later, current (get_or to.greatest owner 0) f.0 f.1, current greatest top.0 top.1)

      -- each number is then that of what the model's table holds, or 0
      number-now : (key : ℕ) → key < to.keys → HoldsNumber (written owner) key (entry_at after owner key) (cell new.cells to.nodes owner key)
      number-now key in_keys =
          let is = taken.kept.each owner key in_nodes in_keys in elim (cases_lt start (y key)) [
            | inr gone ↦ holds-same (none-unless (entry_at after owner key) (λ d found.
                let n = stood-number key d (after-stood key d found) in let some : 0 < y key = omega (arith, n.2, (numbered-within writes n.0 d n.1).0) in
                let e = here key in_keys some in let newest = after-proper.copies owner key d found in
                let upto = (numbers-up_to writes so_far.history n.0 (y key) d e.0 n.1 e.1 n.2).generation in
                omega (arith, gone, stays key in_keys some (omega (arith, newest, upto))))) (is ∙ grind (arith, nat_tests)) (no-number (written owner) key)
            | inl above ↦
                let some : 0 < y key = omega (arith, above) in let e = here key in_keys some in
                let newest : generation_held after owner ≤ e.0.generation = grind (arith, drops key in_keys some) in
                let d = after-upto key e.0 e.2 newest in let n = stood-number key d.0 (after-stood key d.0 d.1) in
                let never = λ (before : n.0 < y key).
                not_both (mark_of d.0) (mark_of e.0) (numbers-before writes so_far.history n.0 (y key) d.0 e.0 n.1 e.1 before) d.2 in
                let last : n.0 ≡ y key = grind (arith, never, n.2) in
                holds-same (d.1 ∙ sym n.1 ∙ ap (write_numbered writes) last ∙ e.1) (is ∙ grind (arith, nat_tests)) e.3
          ]

      -- and the greatest one stands
      top-number : IsGreatest (cell new.cells to.nodes) to.keys owner greatest
      top-number = record {
        upto = λ key lt. let is = taken.kept.each owner key in_nodes lt in let le = raised.upto key lt in grind (arith, nat_tests);
        held = elim (cases_lt 0 greatest) [
          | inr none ↦ inl (omega (arith, none))
          | inl some ↦
              let (key, lt, at) = greatest-at some in let top = newest some in
              let counted = so_far.numbered.counted greatest top.0 top.1 in let begins = ap (start_before greatest) top.1 in
              inr (key, lt, taken.kept.each owner key in_nodes lt ∙ grind (arith, nat_tests))
        ];
      }

      -- all stays that was taken, unless the sender's copy is of a newer generation
      stays-unless : (key : ℕ) → key < to.keys → generation_held F owner ≤ generation_held T owner → cell new.cells to.nodes owner key ≡ y key
      stays-unless key in_keys no_newer =
          let is = taken.kept.each owner key in_nodes in_keys in elim (cases_lt 0 (y key)) [
            | inr none ↦ is ∙ grind (arith, nat_tests)
            | inl some ↦
                let e = here key in_keys some in let last = top key in_keys some in
                let was = λ (older : e.0.generation < last.0.generation). older-stood key last.2.0 e.0 last.0 e.2 last.2.1 older in
                let never : e.0.generation < last.0.generation → ⊥ = λ older. omega (arith, older, (was older).1, (was older).2, no_newer) in
                let above = stays key in_keys some (grind (arith, last.3, never)) in is ∙ grind (arith, nat_tests)
          ]

  module _ {low high : List ℕ} {count cut : ℕ} (delta : AreMarksOf rules rotation written from to low high count cut)
      (now : List ℕ) (same : SendAlike to low high from.cells now) (new : VersionTableView) where
    -- the table is the model's
    pub becomes : HasTaken h.lists to now low high new → LiesAs written new after
    becomes taken =
        let frame = frame-applied T sent in subst (λ v. LiesAs written v after) (sym taken.rest) (record {
          frame = record { node = frame.node; nodes = frame.nodes; keys = frame.keys; generation = frame.generation };
          proper = after-proper;
          numbers = record { size = taken.kept.size ∙ two.second.numbers.size; each = λ owner key lt. number-now owner delta same taken lt key };
          most = record { size = taken.raised.size; each = λ owner. top-number owner delta same taken };
        })

    -- or stays, where nothing is sent or the message was lost
    pub becomes-unless : (skips lost : Bool) → skips ≡ (lost || eqb count 0) → HasTakenUnless skips h.lists to now low high new
        → table_in written new ≡ responder_after (last_fate lost) T (delta_of_views rules rotation written from to)
    becomes-unless true true is unchanged = ap (table_in written) unchanged
    becomes-unless true false is unchanged = ap (table_in written) unchanged ∙ elim sent as (λ items. length items ≡ 0 → T ≡ applied T items) [
      | [] ↦ λ _. refl
      | i ∷ is ↦ λ none. absurd (omega (arith, none))
    ] (sym delta.count ∙ eqb-true count 0 (sym is))
    becomes-unless false true is takes = absurd (both_ways false refl is)
    becomes-unless false false is takes = lies-table (becomes takes)

-- what comes of a delta goes by its marks
pub marks-come : {N : Type 0} {number : N → ℕ} {rules : Rules} {rotation : ℕ} {written : ℕ → List Entry} {from to : VersionTableView}
    {delta : DeltaMarks N} {greatest : List ℕ} {first : First} {lost : Bool} {arrival : Arrival N}
    → IsDelta number written rules rotation from to delta → first ≡ first_sent rules.mode → greatest ≡ from.greatest
    → IsArrivalOf number delta greatest first lost arrival
    → AreMarksOf rules rotation written from to (map number arrival.low.now) (map number arrival.high.now) delta.marked.counts.sent delta.marked.counts.cut
marks-come is first top come = rw (come.low, come.high, first, top) is.marks

-- and may be taken
pub may-arrive : {N : Type 0} {number : N → ℕ} {rules : Rules} {rotation : ℕ} {written : ℕ → List Entry} {most : ℕ} {h : HistoriesView}
    {from to : VersionTableView} {arrival : Arrival N} {count cut : ℕ} → AreLaidBoth written most h from to
    → AreMarksOf rules rotation written from to (map number arrival.low.now) (map number arrival.high.now) count cut → (sent : List ℕ)
    → {read : List ℕ} → read ≡ sent → SendAlike to (map number arrival.low.now) (map number arrival.high.now) from.cells sent
    → length sent ≡ length from.cells → MayArrive number written h to read arrival
may-arrive two marks sent is same size = rw is (record {
  nodes = two.second.fits.nodes;
  cells = size ∙ two.first.numbers.size ∙ (λ i. two.keys i * two.nodes i) ∙ sym two.second.numbers.size;
  low_count = sym (length-map _ _) ∙ marks.low_count ∙ two.nodes;
  high_count = sym (length-map _ _) ∙ marks.high_count ∙ two.nodes;
  stays = λ new taken. lies-kept (becomes _ _ two marks sent same new taken);
})

-- numbers are read as those of the table
pub as-read : (skips : Bool) (lists : List OwnerListView) (to new : VersionTableView) (low high : List ℕ) {read sent : List ℕ} → read ≡ sent
    → HasTakenUnless skips lists to read low high new → HasTakenUnless skips lists to sent low high new
as-read skips lists to new low high is took = rw is at took

-- what one takes of another's number it takes of the one that this came to be
taken-alike : (x x' y y' z z' low high flow fhigh : ℕ) → x' ≡ x → y' ≡ y → z' ≡ z → is_taken x y flow fhigh ≡ true → z ≡ number_taken y x' low high
    → number_taken x z' flow fhigh ≡ number_taken x y' flow fhigh
taken-alike x x' y y' z z' low high flow fhigh at_x at_y at_z yes' is = grind (arith, nat_tests)

none-alike : (x x' y y' z z' low high flow fhigh start : ℕ) → x' ≡ x → y' ≡ y → z' ≡ z → is_taken x y flow fhigh ≡ false
    → z ≡ number_kept start (number_taken y x' low high) → number_taken x z' flow fhigh ≡ number_taken x y' flow fhigh
none-alike x x' y y' z z' low high flow fhigh start at_x at_y at_z no' is = grind (arith, nat_tests)

-- what both take, the initiator p of q first
module _ {rules : Rules} {written : ℕ → List Entry} {most : ℕ} {h : HistoriesView} {p q : VersionTableView} {low high flow fhigh : List ℕ}
    {back_sent back_cut forth_sent forth_cut : ℕ} (e : Exchange)
    (two : AreLaidBoth written most h p q) (back : AreMarksOf rules e.rotation written q p low high back_sent back_cut)
    (forth : AreMarksOf rules e.rotation written p q flow fhigh forth_sent forth_cut) where
  -- what came back to the initiator changes nothing of what is taken of it
  pub same-taken : (nothing : Bool) (p' : VersionTableView) → HasTakenUnless nothing h.lists p q.cells low high p' → SendAlike q flow fhigh p.cells p'.cells
  same-taken true p' is owner key _ _ = ap (λ (v : VersionTableView). numbers_taken q.nodes q.cells v.cells flow fhigh owner key) is
  same-taken false p' took owner key in_nodes in_keys =
      let now_at : cell p'.cells q.nodes owner key ≡ cell p'.cells p.nodes owner key = ap (λ n. cell p'.cells n owner key) (sym two.nodes) in
      let then_at : cell p.cells q.nodes owner key ≡ cell p.cells p.nodes owner key = ap (λ n. cell p.cells n owner key) (sym two.nodes) in
      let q_at : cell q.cells p.nodes owner key ≡ cell q.cells q.nodes owner key = ap (λ n. cell q.cells n owner key) two.nodes in
      let in_node : owner < p.nodes = omega (arith, in_nodes, two.nodes) in let in_key : key < p.keys = omega (arith, in_keys, two.keys) in
      elim (is_taken_at p q flow fhigh owner key) as (λ b. is_taken_at p q flow fhigh owner key ≡ b
      → numbers_taken q.nodes q.cells p'.cells flow fhigh owner key ≡ numbers_taken q.nodes q.cells p.cells flow fhigh owner key) [
        | true ↦ λ yes'.
            let there = forth.marks.held owner key in_node in_key yes' in
            let current = came-current rules e.rotation two owner there.0 ((forth.marks.members owner key there.0 there.1).0 yes') in
            let stays = stays-unless rules e.rotation (turned two) owner back (λ _ _ _ _. refl) took in_node key in_key
            (omega (arith, current, two.first.proper.copies owner key there.0 there.1)) in
            taken-alike _ _ _ _ _ _ _ _ _ _ q_at then_at now_at yes' stays
        | false ↦ λ no'. none-alike _ _ _ _ _ _ _ _ _ _ _ q_at then_at now_at no' (took.kept.each owner key in_node in_key)
      ] refl

  pub as-many : (nothing : Bool) (p' : VersionTableView) → HasTakenUnless nothing h.lists p q.cells low high p' → length p'.cells ≡ length p.cells
  as-many true p' is = ap (λ (v : VersionTableView). length v.cells) is
  as-many false p' took = took.kept.size

  pub exchange_whole : (nothing : Bool) (p' : VersionTableView) → HasTakenUnless nothing h.lists p q.cells low high p' → (d1 d2 : ℕ)
      → d1 ≡ digest_size (digest_kind rules.mode) (table_in written p) → d2 ≡ digest_size (digest_kind rules.mode) (table_in written q)
      → e.lost1 ≡ false → e.lost2 ≡ false → nothing ≡ eqb back_sent 0 → (skips : Bool) → skips ≡ (e.lost3 || eqb forth_sent 0)
      → (q' : VersionTableView) → HasTakenUnless skips h.lists q p'.cells flow fhigh q' → (r : Record)
      → ((b f : DeltaView) → back_sent ≡ length b.items → back_cut ≡ b.cut → forth_sent ≡ length f.items → forth_cut ≡ f.cut
      → r ≡ sent_until (last_fate e.lost3) d1 d2 b f) → MakesOf (table_in written) rules e p q p' q' r
  exchange_whole nothing p' took d1 d2 d1_is d2_is first second none skips skipped q' takes r said =
      let here = becomes-unless rules e.rotation (turned two) back _ (λ _ _ _ _. refl) p' nothing false none took in
      let there = becomes-unless rules e.rotation two forth _ (same-taken nothing p' took) q' skips e.lost3 skipped takes in
      let b = delta_of_views rules e.rotation written q p in
      let is = said b (delta_of_views rules e.rotation written p q) back.count back.left forth.count forth.left in
      rw (first, second) (cc (came-back e.lost3 (table_in written p) b))
