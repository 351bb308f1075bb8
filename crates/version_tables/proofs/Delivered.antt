-- From an offer's marks to the marks of a delta between two tables.
-- Serves `delta_above` and `Merged`.
use Rattle.version_tables.proofs.Common.{◌≡◌, ℕ, ◌<◌, ◌≤◌, List, length, get_or, map, Some, ◌⊎◌, inl, inr, refl, sym, ap, ◌∙◌, subst, arith, nat_lt, ◌&&◌, total_above, cases_eq, lt-ltb, le-ltb, length-map, nat_tests, Entry, First, Oldest, Newest, Rules, DigestKind, Scuttle, Precise, digest_kind, first_sent, entry_at, candidates, delta_between, write_numbered, all_writes, Cells, cell, Offer, HasNoneAbove, HasSet, by_first, AreMarked, KeepsLow, IsOffer, is_lacked, offered_by, told_by, lets_through, IsOffered, candidate-place, candidate-number, lets, count-above, count-sent, count-cut, are-sent, shared-sent, whole-sent, VersionTableView, HistoriesView, table_in, is_taken_at, AreMarksOf, AreLow, AreOffered, AreTold, is_taken}
pub use Rattle.version_tables.proofs.Fitting.{AreLaidBoth, cells-are, cells-held, cells-upto, lacks, laid-both}

-- what is offered is a number itself, or 0
offered-either : (kind : DigestKind) (sender receiver : Cells) (low : ℕ → ℕ) (owner key n : ℕ) → n ≡ offered_by kind sender receiver low owner key
    → (n ≡ sender owner key) ⊎ (n ≡ 0)
offered-either Scuttle sender receiver low owner key n is = inl is
offered-either Precise sender receiver low owner key n is = grind (arith, nat_tests)

-- what a receiver takes by the marks of a delta is what these let through of what is offered
taken-by : (kind : DigestKind) (first : First) (sender receiver : Cells) (low mark high : List ℕ) (owner key : ℕ)
    → (kind ≡ Scuttle → receiver owner key ≤ get_or low owner 0) → (first ≡ Newest → get_or low owner 0 ≤ get_or mark owner 0)
    → sender owner key ≤ get_or high owner 0
    → is_taken (receiver owner key) (sender owner key) (get_or (by_first first low mark) owner 0) (get_or (by_first first mark high) owner 0)
    ≡ (nat_lt (get_or low owner 0) (offered_by kind sender receiver (λ r. get_or low r 0) owner key) && lets_through first (get_or mark owner 0)
    (offered_by kind sender receiver (λ r. get_or low r 0) owner key))
taken-by Scuttle Oldest sender receiver low mark high owner key told above upto = let le = told refl in grind (arith, nat_tests)
taken-by Scuttle Newest sender receiver low mark high owner key told above upto = let le = told refl in let keeps = above refl in grind (arith, nat_tests)
taken-by Precise Oldest sender receiver low mark high owner key told above upto = grind (arith, nat_tests)
taken-by Precise Newest sender receiver low mark high owner key told above upto = let keeps = above refl in grind (arith, nat_tests)

by_first-size : (first : First) (xs ys : List ℕ) (n : ℕ) → length xs ≡ n → length ys ≡ n → length (by_first first xs ys) ≡ n
by_first-size Oldest xs ys n one other = one
by_first-size Newest xs ys n one other = other

-- an offer of a sender's owners and keys, with the lists so far
abbrev offer_of : {N : Type 0} → Rules → HistoriesView → VersionTableView → Offer N → Offer N
offer_of rules h from given = record given {
  grid = record given.grid { size = record { nodes = from.nodes; keys = from.keys } };
  lists = record given.lists { now = h.lists };
  budget = rules.budget;
}

-- it is of what one table lacks of another's
pub record IsOfferOf {N : Type 0} (number : N → ℕ) (rules : Rules) (h : HistoriesView) (from to : VersionTableView) (given : Offer N) : Type 0 where
  pub is : given ≡ offer_of rules h from given
  pub high : map number given.high.now ≡ from.greatest
  pub low : AreLow (digest_kind rules.mode) h from to (map number given.low.now)
  pub offered : AreOffered (digest_kind rules.mode) from to (map number given.low.now) (map number given.grid.cells.now)
  pub found : given.found ≡ total_above from.nodes from.keys (map number given.grid.cells.now) (map number given.low.now)

module _ {N : Type 0} (number : N → ℕ) {written : ℕ → List Entry} {most : ℕ} {h : HistoriesView} {from to : VersionTableView}
    (two : AreLaidBoth written most h from to) (rules : Rules) (given : Offer N) (is : IsOfferOf number rules h from to given) where
  abbrev kind : DigestKind
  kind = digest_kind rules.mode

  abbrev first : First
  first = first_sent rules.mode

  abbrev sender : Cells
  sender = cell from.cells from.nodes

  abbrev receiver : Cells
  receiver = cell to.cells to.nodes

  abbrev low : ℕ → ℕ
  low r = get_or (map number given.low.now) r 0

  abbrev high : ℕ → ℕ
  high r = get_or (map number given.high.now) r 0

  abbrev cells : Cells
  cells = cell (map number given.grid.cells.now) from.nodes

  module _ (owner key : ℕ) (in_nodes : owner < from.nodes) (in_keys : key < from.keys) where
    sender-high : sender owner key ≤ high owner
    sender-high = omega (arith, (two.first.tops.each owner in_nodes).upto key in_keys, ap (λ xs. get_or xs owner 0) is.high)

    -- what is offered is the sender's number, or 0
    either : (cells owner key ≡ sender owner key) ⊎ (cells owner key ≡ 0)
    either = offered-either kind sender receiver low owner key (cells owner key) (is.offered.each owner key in_nodes in_keys)

    upto : cells owner key ≤ sender owner key
    upto = grind (arith, either)

    at : 0 < cells owner key → cells owner key ≡ sender owner key
    at some = grind (arith, either)

  lacked-is : (owner key : ℕ) (e : Entry) → entry_at (table_in written from) owner key ≡ Some e
      → is_lacked rules.mode (table_in written to) (record { owner = owner; entry = e }) ≡ nat_lt (low owner) (cells owner key)
  lacked-is owner key e held =
      let place = two.first.proper.in_place owner key e held in let le = upto owner key place.owner_below place.key_below in
      let offered = is.offered.each owner key place.owner_below place.key_below in elim (cases_eq owner to.node) [
        | inl own ↦ let none = subst (λ o. sender o key ≤ low o) (sym own) (is.low.sent key place.key_below) in grind (arith, nat_tests)
        | inr other ↦
            let in_to : owner < to.nodes = omega (arith, place.owner_below, two.nodes) in
            let its = sym (cells-are two.first owner place.owner_below key place.key_below) ∙ held in
            let in_keys : key < to.keys = omega (arith, place.key_below, two.keys) in
            let at = lacks two.second owner in_to key in_keys e sender its place.keyed kind low (is.low.others owner in_to other) in
            grind (arith, nat_tests)
      ]

  -- what is told gives the candidates
  given_is : IsOffered rules.mode (table_in written from) (table_in written to) (all_writes h.lists) cells low
  given_is = record {
    proper = two.first.proper;
    histories = λ owner. (two.first.known.so_far owner).history;
    offers = record {
      above = λ owner key in_nodes in_keys lt.
          let its = at owner key in_nodes in_keys (omega (arith, lt)) in let e = cells-held two.first owner in_nodes key in_keys (omega (arith, lt, its)) in
          (e.0, e.2, ap (write_numbered (all_writes h.lists owner)) its ∙ e.1, lacked-is owner key e.0 e.2 ∙ lt-ltb (low owner) (cells owner key) lt);
      below = λ owner key e held le. lacked-is owner key e held ∙ le-ltb (low owner) (cells owner key) le;
    };
  }

  covered : (owner : ℕ) → owner < from.nodes → HasNoneAbove cells from.keys owner (high owner)
  covered owner lt key lt' = omega (arith, upto owner key lt lt', sender-high owner key lt lt')

  -- the numbers are an offer
  pub offer-is : IsOffer number most given
  offer-is = subst (IsOffer number most) (sym is.is) (record {
    grid = record {
      whole = sym (length-map given.grid.cells.now number) ∙ is.offered.size;
      few_nodes = two.first.proper.nodes_limit;
      few_keys = two.first.proper.keys_limit;
    };
    low = sym (length-map given.low.now number) ∙ is.low.count ∙ sym two.nodes;
    high = sym (length-map given.high.now number) ∙ ap length is.high ∙ two.first.tops.size;
    lists = sym two.first.fits.nodes;
    written = λ owner key lt lt'. omega (arith, upto owner key lt lt', cells-upto two.first owner lt key lt');
    below = λ owner key lt lt'. omega (arith, upto owner key lt lt', cells-upto two.first owner lt key lt', (two.first.known.so_far owner).few);
    differ = λ owner in_nodes k l in_k in_l some same.
        let one = at owner k in_nodes in_k some in let other = at owner l in_nodes in_l (omega (arith, some, same)) in
        let e = cells-held two.first owner in_nodes k in_k (omega (arith, some, one)) in
        let here = cells-are two.first owner in_nodes l in_l ∙ ap (write_numbered (all_writes h.lists owner)) (sym other ∙ sym same ∙ one) ∙ e.1 in
        sym (two.first.proper.in_place owner k e.0 e.2).keyed ∙ (two.first.proper.in_place owner l e.0 here).keyed;
    covered = covered;
    found = is.found ∙ count-above cells from.nodes from.keys high covered low;
  })

  -- what marks let through of the offer is the delta
  module _ (rotation : ℕ) (in_nodes : rotation < from.nodes) (mark : List ℕ) (sent cut : ℕ)
      (marked_is : AreMarked rules.mode rotation number given (λ r. get_or mark r 0) sent cut) where
    abbrev m : ℕ → ℕ
    m r = get_or mark r 0

    abbrev lows : List ℕ
    lows = map number given.low.now

    abbrev highs : List ℕ
    highs = map number given.high.now

    marked : AreMarked rules.mode rotation number (offer_of rules h from given) m sent cut
    marked = subst (λ o. AreMarked rules.mode rotation number o m sent cut) is.is marked_is

    has : HasSet (candidates rules.mode (table_in written from) (table_in written to)) (lets rules.mode cells m)
        (delta_between rules.mode rotation rules.budget (table_in written from) (table_in written to))
    has = elim marked.how [
      | inl all ↦
          whole-sent given_is in_nodes covered m marked.above rules.budget
          (λ c in_c. all.all c.owner c.entry.key (candidate-place given_is c in_c).owner_below (candidate-place given_is c in_c).key_below
          (candidate-number given_is c in_c).0) all.within
      | inr level ↦ shared-sent given_is in_nodes covered m marked.above rules.budget level.shape level.shared.stop level.shared.within level.shared.beyond
    ]

    taken-is : (owner key : ℕ) → owner < from.nodes → key < from.keys → is_taken_at from to (by_first first lows mark) (by_first first mark highs) owner key
        ≡ (nat_lt (low owner) (cells owner key) && lets_through first (m owner) (cells owner key))
    taken-is owner key lt in_keys =
        let in_to : owner < to.nodes = omega (arith, lt, two.nodes) in
        let in_key : key < to.keys = omega (arith, in_keys, two.keys) in taken-by kind first sender receiver lows mark highs owner key
        (λ is_scuttle. elim (cases_eq owner to.node) [
          | inl own ↦ subst (λ o. receiver o key ≤ low o) (sym own) (is.low.held key in_key)
          | inr other ↦
              let told = is.low.others owner in_to other ∙ ap (λ k. told_by k (all_writes h.lists owner) (get_or to.greatest owner 0)) is_scuttle in
              omega (arith, told, (two.second.tops.each owner in_to).upto key in_key)
        ])
        (λ is_newest. subst (λ f. KeepsLow f from.nodes low m) is_newest marked.above owner lt) (sender-high owner key lt in_keys)
        ∙ ap (λ n. nat_lt (low owner) n && lets_through first (m owner) n) (sym (is.offered.each owner key lt in_keys))

    pub delta-marks : length mark ≡ from.nodes → AreMarksOf rules rotation written from to (by_first first lows mark) (by_first first mark highs) sent cut
    delta-marks mark_size =
        let sent_is = marked.count ∙ sym (count-sent given_is in_nodes covered m marked.above rules.budget has) in record {
          low_count = by_first-size first lows mark from.nodes (is.low.count ∙ sym two.nodes) mark_size;
          high_count = by_first-size first mark highs from.nodes mark_size (ap length is.high ∙ two.first.tops.size);
          marks = are-sent given_is in_nodes covered m marked.above rules.budget has
              (is_taken_at from to (by_first first lows mark) (by_first first mark highs)) taken-is;
          count = sent_is;
          left = omega (arith, sent_is, marked.left, count-cut given_is in_nodes covered m marked.above rules.budget has);
        }

-- what is told makes low marks: of the receiver itself the most, which no number is
pub told-low : {written : ℕ → List Entry} {most : ℕ} {h : HistoriesView} {from to : VersionTableView} (two : AreLaidBoth written most h from to)
    (kind : DigestKind) (low : List ℕ) → AreTold kind most h to low → AreLow kind h from to low
told-low {most = most} {h = h} {from = from} {to = to} two kind low told = record {
  count = told.size ∙ sym two.second.fits.nodes;
  others = λ owner lt other. let is = told.each owner (omega (arith, lt, two.second.fits.nodes)) in grind (arith, nat_tests);
  sent = λ key lt. omega (arith, own, few, cells-upto two.first to.node (omega (arith, two.second.proper.node_below, two.nodes)) key lt);
  held = λ key lt. omega (arith, own, few, cells-upto two.second to.node two.second.proper.node_below key lt);
}
  where
    few : length (all_writes h.lists to.node) < most
    few = (two.first.known.so_far to.node).few

    own : get_or low to.node 0 ≡ most
    own = let is = told.each to.node (omega (arith, two.second.proper.node_below, two.second.fits.nodes)) in grind (arith, nat_tests)
