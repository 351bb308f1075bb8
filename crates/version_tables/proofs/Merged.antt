-- Tables that take all that the other has above their own greatest numbers exchange as the model's do.
-- Serves `exchange`.
use Rattle.version_tables.proofs.Common.{◌≡◌, ℕ, zero, suc, ◌+◌, ◌-◌, ◌<◌, ◌≤◌, false, max, List, get_or, length, map, inl, inr, refl, sym, ap, ◌∙◌, arith, Option, Some, None, mul-le-mul_right, cases_lt, map-id, nat_tests, Entry, Budget, Entries, Bytes, Scuttle, Exchange, First, Oldest, Newest, Record, Rules, amount_of, largest_share, digest_kind, first_sent, sum_below-le, DeltaView, digest_size, last_fate, sent_until, MakesOf, write_numbered, all_writes, Cells, cell, count_between, most_ahead, total_above, BothCounts, Offer, NumbersDiffer, by_first, IsOffer, share_or_none, number_shares, count_all_between, weight_between, sum_below-none, whole-size, whole-marked, part, part-cases, weight_of-none, weight_of-split, weight_between-most, count_between-most, VersionTableView, HistoriesView, table_in, delta_of_views, AreMarksOf, bases_in, BothStayMerged, HasMerged, HaveMerged, MayMerge, MayTakeAll, HasTaken}
use Rattle.version_tables.proofs.Delivered.{IsOfferOf, offer-is, delta-marks}
pub use Rattle.version_tables.proofs.Taken.{AreLaidBoth, LiesAs, after, becomes, laid-both, lies-kept, lies-table, turned}
use Rattle.version_tables.specs.inner.Merged.{SurelyFits}

-- marks that let all through are the high ones, or from the newest on the low ones, beside which are the others
whole-marks : (first : First) (low high : List ℕ) (P : List ℕ → List ℕ → Type 0)
    → P (by_first first low (by_first first high low)) (by_first first (by_first first high low) high) → P low high
whole-marks Oldest low high P are = are
whole-marks Newest low high P are = are

-- of numbers that differ no more are between two marks than these are apart
module _ (cells : Cells) (owner : ℕ) where
  one-between : (keys low high : ℕ) → high ≤ low + 1 → NumbersDiffer cells keys owner → count_between cells keys owner low high ≤ 1
  one-between zero low high le differ = omega arith
  one-between (suc keys) low high le differ = elim (part-cases (λ _. 1) low high (cells owner keys)) [
    | inr none ↦ omega (arith, none, one-between keys low high le (λ k l k_lt l_lt. differ k l (omega (arith, k_lt)) (omega (arith, l_lt))))
    | inl here ↦
        let none = sum_below-none keys (λ key. part (λ _. 1) low high (cells owner key))
        (λ key lt. let apart = differ key keys (omega (arith, lt)) (omega arith) in grind (arith, nat_tests)) in
        omega (arith, here.2, none)
  ]

  few-upto : (keys apart low high : ℕ) → high ≤ low + apart → NumbersDiffer cells keys owner → count_between cells keys owner low high ≤ apart
  few-upto keys zero low high le differ = omega (arith, weight_of-none (λ _. 1) cells keys owner low high (omega (arith, le)))
  few-upto keys (suc apart) low high le differ = elim (cases_lt low high) [
    | inr not_below ↦ omega (arith, weight_of-none (λ _. 1) cells keys owner low high (omega (arith, not_below)))
    | inl below ↦
        let parts = weight_of-split (λ _. 1) cells keys owner low (high - 1) high (omega (arith, below)) (omega arith) in
        omega (arith, parts, few-upto keys apart low (high - 1) (omega (arith, le)) differ, one-between keys (high - 1) high (omega arith) differ)
  ]

-- no write takes more than the largest share
largest-share : (budget : Budget) (o : Option Entry) → share_or_none budget o ≤ largest_share budget
largest-share (Entries n) None = omega arith
largest-share (Entries n) (Some e) = omega arith
largest-share (Bytes n) None = omega arith
largest-share (Bytes n) (Some e) = omega arith

module _ (rules : Rules) (rotation : ℕ) {written : ℕ → List Entry} {most : ℕ} {h : HistoriesView} {from to : VersionTableView}
    (two : AreLaidBoth written most h from to)
    (in_nodes : rotation < from.nodes) (scuttle : digest_kind rules.mode ≡ Scuttle) (may : MayTakeAll rules.budget (bases_in h.lists) from to) where
  abbrev id : ℕ → ℕ
  id n = n

  abbrev all : Offer ℕ
  all = record {
    grid = record { cells = record { ref_ptr = (0, 0); now = from.cells }; size = record { nodes = from.nodes; keys = from.keys } };
    low = record { ref_ptr = (0, 0); now = to.greatest };
    high = record { ref_ptr = (0, 0); now = from.greatest };
    lists = record { ref_ptr = (0, 0); now = h.lists };
    budget = rules.budget;
    found = total_above from.nodes from.keys from.cells to.greatest;
  }

  abbrev low : ℕ → ℕ
  low r = get_or to.greatest r 0

  abbrev high : ℕ → ℕ
  high r = get_or from.greatest r 0

  abbrev cells : Cells
  cells = cell from.cells from.nodes

  sender-upto : (owner key : ℕ) → owner < from.nodes → key < from.keys → cells owner key ≤ high owner
  sender-upto owner key in_owners in_keys = (two.first.tops.each owner in_owners).upto key in_keys

  of-all : IsOfferOf id rules h from to all
  of-all = record {
    is = refl;
    high = map-id from.greatest;
    low = simp (scuttle, map-id) (record {
      count = two.second.tops.size;
      others = λ _ _ _. refl;
      sent = λ key in_keys. omega (arith, may.own, sender-upto to.node key (omega (arith, two.second.proper.node_below, two.nodes)) in_keys);
      held = (two.second.tops.each to.node two.second.proper.node_below).upto;
    });
    offered = simp (scuttle, map-id) (record { size = two.first.numbers.size; each = λ _ _ _ _. refl });
    found = simp map-id;
  }

  is-offer : IsOffer id most all
  is-offer = offer-is id two rules all of-all

  -- what is offered is no more than the greatest numbers are apart, or was counted, so all of it fits
  within : weight_between (number_shares rules.budget (all_writes h.lists)) cells from.nodes from.keys low high ≤ amount_of rules.budget
  unfolding SurelyFits
  within =
      let weighs = weight_between-most (number_shares rules.budget (all_writes h.lists)) (largest_share rules.budget) cells from.nodes from.keys low high
      (λ owner number. largest-share rules.budget (write_numbered (all_writes h.lists owner) number)) in
      elim may.fits [
        | inl apart ↦
            let few = mul-le-mul_right {m = count_all_between cells from.nodes from.keys low high}
            {n = most_ahead from.nodes from.keys from.greatest to.greatest} (largest_share rules.budget)
            (sum_below-le from.nodes _ _ (λ r lt.
            let few = few-upto cells r from.keys (high r - low r) (low r) (high r) (omega arith) (simp map-id at (is-offer.differ r lt)) in
            omega (arith, few, count_between-most cells from.keys r (low r) (high r)))) in
            omega (arith, weighs, few, apart)
        | inr counted ↦ omega (arith, weighs, rw (simp map-id at is-offer.found) at counted)
      ]

  pub marks-of : AreMarksOf rules rotation written from to to.greatest from.greatest (total_above from.nodes from.keys from.cells to.greatest) 0
  marks-of =
      let whole = by_first (first_sent rules.mode) from.greatest to.greatest in whole-marks (first_sent rules.mode) to.greatest from.greatest
      (λ xs ys. AreMarksOf rules rotation written from to xs ys (total_above from.nodes from.keys from.cells to.greatest) 0)
      (simp map-id at (delta-marks id two rules all of-all rotation in_nodes (map id whole) (total_above from.nodes from.keys from.cells to.greatest) 0
      (whole-marked id most all is-offer rotation (simp map-id within) rules.mode whole refl)
      (whole-size id most all is-offer (first_sent rules.mode) (map id whole) (simp map-id))))

  -- what it then has was taken
  module _ {new : VersionTableView} (merged : HasMerged from to new) where
    here-sent : (owner key : ℕ) → owner < to.nodes → key < to.keys → cell from.cells to.nodes owner key ≤ high owner
    here-sent owner key in_owners in_keys =
        let upto = sender-upto owner key (omega (arith, in_owners, two.nodes)) (omega (arith, in_keys, two.keys)) in
        omega (arith, upto, ap (λ n. cell from.cells n owner key) two.nodes)

    taken : HasTaken h.lists to from.cells to.greatest from.greatest new
    taken = record {
      raised = record {
        size = merged.most.size ∙ two.second.tops.size;
        each = λ owner lt.
            let is : get_or new.greatest owner 0 ≡ max (low owner) (high owner) = merged.most.each owner (omega (arith, lt, two.second.tops.size)) in
            record {
              rises = omega (arith, is);
              upto = λ key in_keys. grind (arith, nat_tests, (two.second.tops.each owner lt).upto key in_keys, here-sent owner key lt in_keys);
              from = elim (two.first.tops.each owner (omega (arith, lt, two.nodes))).held [
                | inl none ↦ inl (omega (arith, none, is))
                | inr (key, in_keys, top) ↦ elim (cases_lt (low owner) (high owner)) [
                  | inr not_below ↦ inl (omega (arith, is, not_below))
                  | inl below ↦
                      let in_key : key < to.keys = omega (arith, in_keys, two.keys) in
                      let there : cell from.cells to.nodes owner key ≡ high owner = ap (λ n. cell from.cells n owner key) (sym two.nodes) ∙ top in
                      inr (key, in_key, grind (arith, nat_tests, (two.second.tops.each owner lt).upto key in_key))
                ]
              ];
            };
      };
      kept = record {
        size = merged.numbers.size;
        each = λ owner key lt in_keys.
            grind (arith, nat_tests, merged.numbers.each owner key lt in_keys, here-sent owner key lt in_keys, may.current owner lt);
      };
      rest = merged.rest;
    }

    pub merged-lies : LiesAs written new (after rules rotation two)
    merged-lies = becomes rules rotation two marks-of _ (λ _ _ _ _. refl) new taken

-- both tables take all
module _ (rules : Rules) (e : Exchange) {written : ℕ → List Entry} {most : ℕ} {h : HistoriesView} {p q : VersionTableView}
    (two : AreLaidBoth written most h p q) (in_nodes : e.rotation < p.nodes) (may : MayMerge rules h p q) where
  turns : e.rotation < q.nodes
  turns = omega (arith, in_nodes, two.nodes)

  pub both-stay : BothStayMerged written p q
  both-stay = record {
    nodes = two.nodes;
    keys = two.keys;
    first = λ new merged. lies-kept (merged-lies rules e.rotation (turned two) turns may.kind may.back merged);
    second = λ new merged. lies-kept (merged-lies rules e.rotation two in_nodes may.kind may.forth merged);
  }

  pub merged-whole : {p' q' : VersionTableView} {came : BothCounts} → HaveMerged p q p' q' came
      → (d1 d2 : ℕ) → d1 ≡ digest_size (digest_kind rules.mode) (table_in written p) → d2 ≡ digest_size (digest_kind rules.mode) (table_in written q)
      → e.lost1 ≡ false → e.lost2 ≡ false → e.lost3 ≡ false → (r : Record)
      → ((b f : DeltaView) → came.first ≡ length b.items → 0 ≡ b.cut → came.second ≡ length f.items → 0 ≡ f.cut → r ≡ sent_until (last_fate false) d1 d2 b f)
      → MakesOf (table_in written) rules e p q p' q' r
  merged-whole have d1 d2 d1_is d2_is first second third r sent =
      let back = marks-of rules e.rotation (turned two) turns may.kind may.back in let forth = marks-of rules e.rotation two in_nodes may.kind may.forth in
      let p_is = lies-table (merged-lies rules e.rotation (turned two) turns may.kind may.back have.first) in
      let q_is = lies-table (merged-lies rules e.rotation two in_nodes may.kind may.forth have.second) in
      let b = delta_of_views rules e.rotation written q p in let f = delta_of_views rules e.rotation written p q in
      let is = sent b f (have.back ∙ back.count) back.left (have.forth ∙ forth.count) forth.left in rw (first, second, third)
      (λ i. record { initiator = sym p_is i; responder = sym q_is i; sent = sym (is ∙ (λ j. sent_until (last_fate false) (d1_is j) (d2_is j) b f)) i })
