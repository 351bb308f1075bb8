-- A delta by marks: whole levels, and of the next one what comes before the first candidate that doesn't fit.
-- Serves `version_tables`.
use Rattle.delta_plans.proofs.Common.{◌≡◌, ◌≢◌, ℕ, ◌+◌, ◌<◌, ◌≤◌, Bool, true, false, cond, not, List, length, inl, inr, refl, sym, ap, ◌∙◌, arith, nat_tests, nat_lt, ltb, ◌&&◌, Contains, sum_by, Ordering, nat_cmp, ordering_then, is_lt, cases_eq, same_Some, Entry, Item, Budget, Mode, ScuttleBreadth, ScuttleDepth, PreciseOldest, PreciseNewest, amount_of, Table, candidates, rank_among, owner_count, DeltaView, delta_between, item_share, rotated, sending_order, rotated-injective, sending_order-total, order-levels, level_order, Cells, HasNoneAbove, sum_below-same, First, Oldest, Newest, HasSet, comes_first, item_number, KeepsLow, AreSent, first_sent, first_level, lets_through, level_number, round_of, AreLevelMarks, StopAt, share_or_none, number_shares, weight_between, weight_through, one_each, sum_below, size_in, count_by-not, sum_by-ones}
use Rattle.delta_plans.proofs.Candidates.{IsOffered, candidate-at, candidate-number, candidate-place, offered-sum, older, one_item, owner_count-is, rank_among-is}
use Rattle.delta_plans.proofs.SentSets.{stops_sent, all_sent, set_sent}

-- marks let a candidate through
abbrev pub lets : Mode → Cells → (ℕ → ℕ) → Item → Bool
lets mode cells mark c = lets_through (first_sent mode) (mark c.owner) (item_number cells c)

-- numbers compare: the lower first, or the higher
abbrev age_cmp : First → ℕ → ℕ → Ordering
age_cmp Oldest m n = nat_cmp m n
age_cmp Newest m n = nat_cmp n m

-- what of a candidate tells its level
abbrev level_key : Mode → List Item → Item → ℕ
level_key ScuttleBreadth cs c = rank_among cs c
level_key ScuttleDepth cs c = owner_count cs c
level_key PreciseOldest cs c = c.entry.born
level_key PreciseNewest cs c = c.entry.born

-- a mode's order goes by level, turn, version and key
order-by : (mode : Mode) (nodes rotation : ℕ) (cs : List Item) (c d : Item) → level_order mode nodes rotation cs c d
    ≡ ordering_then (age_cmp (first_level mode) (level_key mode cs c) (level_key mode cs d))
    (ordering_then (nat_cmp (rotated nodes rotation c.owner) (rotated nodes rotation d.owner))
    (ordering_then (age_cmp (first_sent mode) c.entry.version d.entry.version) (nat_cmp c.entry.key d.entry.key)))
order-by ScuttleBreadth nodes rotation cs c d = refl
order-by ScuttleDepth nodes rotation cs c d = refl
order-by PreciseOldest nodes rotation cs c d = refl
order-by PreciseNewest nodes rotation cs c d = refl

-- marks of a level, and one that stops in it, let a number through where it comes before the one at which that stops:
-- an owner's versions rise with its numbers, so its candidates of one level stand as these do
same-lets : (way first : First) (l m next t u v w j k near far mark n stop : ℕ) → t ≡ u
    → lets_through first near n ≡ comes_first way l next → lets_through first far n ≡ not (comes_first way next l)
    → comes_first way m next ≡ false → not (comes_first way next m) ≡ true
    → lets_through first mark n ≡ comes_first first n stop → lets_through first near stop ≡ false → lets_through first far stop ≡ true
    → (n < stop → v < w) → (stop < n → w < v) → (n ≡ stop → (v ≡ w) × (j ≡ k))
    → lets_through first mark n ≡ is_lt (ordering_then (age_cmp way l m) (ordering_then (nat_cmp t u) (ordering_then (age_cmp first v w) (nat_cmp j k))))
same-lets Oldest Oldest l m next t u v w j k near far mark n stop same nears fars before upto own outside inside rise fall one = grind (arith, nat_tests)
same-lets Newest Oldest l m next t u v w j k near far mark n stop same nears fars before upto own outside inside rise fall one = grind (arith, nat_tests)
same-lets Oldest Newest l m next t u v w j k near far mark n stop same nears fars before upto own outside inside rise fall one = grind (arith, nat_tests)
same-lets Newest Newest l m next t u v w j k near far mark n stop same nears fars before upto own outside inside rise fall one = grind (arith, nat_tests)

-- and of another owner the turns tell it
other-lets : (way first : First) (l m next t u near far mark n : ℕ) (behind : Ordering) → t ≢ u
    → lets_through first near n ≡ comes_first way l next → lets_through first far n ≡ not (comes_first way next l)
    → comes_first way m next ≡ false → not (comes_first way next m) ≡ true → mark ≡ cond (ltb t u) far near
    → lets_through first mark n ≡ is_lt (ordering_then (age_cmp way l m) (ordering_then (nat_cmp t u) behind))
other-lets Oldest Oldest l m next t u near far mark n behind other nears fars before upto is = grind (arith, nat_tests)
other-lets Newest Oldest l m next t u near far mark n behind other nears fars before upto is = grind (arith, nat_tests)
other-lets Oldest Newest l m next t u near far mark n behind other nears fars before upto is = grind (arith, nat_tests)
other-lets Newest Newest l m next t u near far mark n behind other nears fars before upto is = grind (arith, nat_tests)

module _ {mode : Mode} {from to : Table} {lists : ℕ → List Entry} {cells : Cells} {low : ℕ → ℕ} (given : IsOffered mode from to lists cells low)
    {rotation : ℕ} (in_nodes : rotation < from.nodes) where
  abbrev cs : List Item
  cs = candidates mode from to

  abbrev first : First
  first = first_sent mode

  abbrev way : First
  way = first_level mode

  abbrev order : Item → Item → Ordering
  order = sending_order mode from.nodes rotation cs

  level-is : (m : Mode) (c : Item) → Contains cs c → level_number m lists cells from.keys low c.owner (item_number cells c) ≡ level_key m cs c
  level-is ScuttleBreadth c in_c = sym (rank_among-is given c in_c)
  level-is ScuttleDepth c in_c = sym (owner_count-is given c in_c)
  level-is PreciseOldest c in_c = ap round_of (candidate-number given c in_c).1
  level-is PreciseNewest c in_c = ap round_of (candidate-number given c in_c).1

  -- marks that stop at a number let through what comes before its candidate
  module _ {near far mark : ℕ → ℕ} (shape : AreLevelMarks first way (level_number mode lists cells from.keys low) cells from.nodes from.keys low near far)
      (stop : StopAt first rotation from.nodes from.keys cells low near far mark) where
    open candidate-at given stop.owner stop.key stop.owner_below stop.key_below stop.stops.offered use {0 as entry, 1 as held, 2 as there}

    abbrev next : Item
    next = record { owner = stop.owner; entry = entry }

    in_next : Contains cs next
    in_next = there

    its_number : item_number cells next ≡ cells stop.owner stop.key
    its_number = ap (cells stop.owner) (given.proper.in_place stop.owner stop.key entry held).keyed

    level-lets : (c : Item) → Contains cs c → (lets mode cells near c ≡ comes_first way (level_key mode cs c) shape.next)
        × (lets mode cells far c ≡ not (comes_first way shape.next (level_key mode cs c)))
    level-lets c in_c =
        let place = candidate-place given c in_c in let above = (candidate-number given c in_c).0 in
        rw (← level-is mode c in_c) (
          shape.near_is c.owner c.entry.key place.owner_below place.key_below above,
          shape.far_is c.owner c.entry.key place.owner_below place.key_below above,
        )

    marks-stop : (c : Item) → Contains cs c → lets mode cells mark c ≡ is_lt (order c next)
    marks-stop c in_c =
        let place = candidate-place given c in_c in
        let outside : lets mode cells near next ≡ false = ap (lets_through first (near stop.owner)) its_number ∙ stop.stops.outside in
        let inside : lets mode cells far next ≡ true = ap (lets_through first (far stop.owner)) its_number ∙ stop.stops.inside in
        let before = sym (level-lets next in_next).0 ∙ outside in let upto = sym (level-lets next in_next).1 ∙ inside in
        let ordered = order-levels mode from.nodes rotation cs c next in_nodes place.owner_below stop.owner_below in_c in_next
        ∙ order-by mode from.nodes rotation cs c next in
        elim (cases_eq c.owner stop.owner) [
          | inl same ↦
              let one = one_item given c next in_c in_next same in
              same-lets way first _ _ _ _ _ _ _ _ _ _ _ _ _ _ (ap (rotated from.nodes rotation) same) (level-lets c in_c).0 (level-lets c in_c).1 before upto
              (cc (its_number, stop.stops.own c.entry.key place.key_below)) (cc outside) (cc inside)
              (older given c next in_c in_next same) (older given next c in_next in_c (sym same))
              (λ e. (ap (λ (i : Item). i.entry.version) (one e), ap (λ (i : Item). i.entry.key) (one e)))
          | inr other ↦ other-lets way first _ _ _ _ _ _ _ _ _ _
              (λ e. other (rotated-injective from.nodes rotation c.owner stop.owner in_nodes place.owner_below stop.owner_below e))
              (level-lets c in_c).0 (level-lets c in_c).1 before upto (stop.others c.owner place.owner_below other)
        ] ∙ sym (ap is_lt ordered)

  -- sums over what marks let through are weights
  module _ {high : ℕ → ℕ} (covered : (owner : ℕ) → owner < from.nodes → HasNoneAbove cells from.keys owner (high owner)) (mark : ℕ → ℕ)
      (above : KeepsLow first from.nodes low mark) where
    abbrev through : (ℕ → ℕ → ℕ) → ℕ
    through weights = weight_through first weights cells from.nodes from.keys low high mark

    sum-through : (f : Item → ℕ) (weights : ℕ → ℕ → ℕ)
        → ((c : Item) → Contains cs c → f c ≡ cond (lets mode cells mark c) (weights c.owner (item_number cells c)) 0) → sum_by f cs ≡ through weights
    sum-through f weights told = offered-sum given f
        (λ owner key. cond (lets_through first (mark owner) (cells owner key)) (weights owner (cells owner key)) 0) told ∙ by first above
      where
        by : (f : First) → KeepsLow f from.nodes low mark
            → sum_below from.nodes (λ owner. sum_below from.keys
            (λ key. cond (nat_lt (low owner) (cells owner key))
            (cond (lets_through f (mark owner) (cells owner key)) (weights owner (cells owner key)) 0) 0))
            ≡ weight_through f weights cells from.nodes from.keys low high mark
        by Oldest _ = refl
        by Newest above = sum_below-same from.nodes _ _
            (λ owner lt. sum_below-same from.keys _ _ (λ key lt'. let le = above owner lt in let upto = covered owner lt key lt' in grind (arith, nat_tests)))

    module _ (budget : Budget) where
      abbrev weights : ℕ → ℕ → ℕ
      weights = number_shares budget lists

      abbrev delta : DeltaView
      delta = delta_between mode rotation budget from to

      share-is : (c : Item) → Contains cs c → item_share budget c ≡ weights c.owner (item_number cells c)
      share-is c in_c = ap (share_or_none budget) (sym (candidate-number given c in_c).1)

      sizes-weigh : size_in order cs (item_share budget) (lets mode cells mark) ≡ through weights
      sizes-weigh = sum-through _ weights (λ c in_c. ap (λ n. cond (lets mode cells mark c) n 0) (share-is c in_c))

      -- marks that share out a level up to a number that doesn't fit give the delta
      pub shared-sent : {near far : ℕ → ℕ} → AreLevelMarks first way (level_number mode lists cells from.keys low) cells from.nodes from.keys low near far
          → (stop : StopAt first rotation from.nodes from.keys cells low near far mark)
          → through weights ≤ amount_of budget → amount_of budget < through weights + weights stop.owner (cells stop.owner stop.key)
          → HasSet cs (lets mode cells mark) delta
      shared-sent shape stop within beyond = set_sent mode rotation budget from to (lets mode cells mark) given.proper in_nodes
          (stops_sent (sending_order-total mode from.nodes rotation cs) (next shape stop) (in_next shape stop) (marks-stop shape stop)
          (omega (arith, sizes-weigh, within))
          (omega (arith, sizes-weigh, share-is (next shape stop) (in_next shape stop), ap (weights stop.owner) (its_number shape stop), beyond)))

      -- and marks that let all through, where it fits
      pub whole-sent : ((c : Item) → Contains cs c → lets mode cells mark c ≡ true) → through weights ≤ amount_of budget
          → HasSet cs (lets mode cells mark) delta
      whole-sent all within =
          set_sent mode rotation budget from to (lets mode cells mark) given.proper in_nodes (all_sent all (omega (arith, sizes-weigh, within)))

      -- the delta that marks let through, as it is taken
      module _ (has : HasSet cs (lets mode cells mark) delta) where
        pub count-sent : length delta.items ≡ through one_each
        count-sent = has.count ∙ sum-through _ one_each (λ c in_c. refl)

        pub count-cut : length delta.items + delta.cut ≡ weight_between one_each cells from.nodes from.keys low high
        count-cut =
            let all : sum_by (λ c. 1) cs ≡ weight_between one_each cells from.nodes from.keys low high =
            offered-sum given (λ c. 1) (λ owner key. 1) (λ c in_c. refl) ∙ sum_below-same from.nodes _ _ (λ owner lt.
            sum_below-same from.keys _ _ (λ key lt'. let upto = covered owner lt key lt' in grind (arith, nat_tests))) in
            omega (arith, has.count, has.cut, count_by-not (lets mode cells mark) cs, sum_by-ones (λ c. 1) (λ _. refl) cs, all)

        pub are-sent : (sent : ℕ → ℕ → Bool)
            → ((owner key : ℕ) → owner < from.nodes → key < from.keys → sent owner key ≡
            (nat_lt (low owner) (cells owner key) && lets_through first (mark owner) (cells owner key))) → AreSent from delta.items sent
        are-sent sent is = record {
          held = λ owner key lt lt' holds. let found = candidate-at given owner key lt lt' (parts owner key lt lt' holds).0 in (found.0, found.1);
          members = λ owner key e held.
              let item : Item = record { owner = owner; entry = e } in let place = given.proper.in_place owner key e held in
              let told = is owner key place.owner_below place.key_below in
              let its : item_number cells item ≡ cells owner key = ap (cells owner) place.keyed in (
                (λ holds.
                    let both = parts owner key place.owner_below place.key_below holds in
                    let found = candidate-at given owner key place.owner_below place.key_below both.0 in
                    let in_cs = rw (same_Some found.0 e (sym found.1 ∙ held)) at found.2 in
                    (has.members item).1 (in_cs, ap (lets_through first (mark owner)) its ∙ both.1)),
                (λ in_items.
                    let both = (has.members item).0 in_items in let above = (candidate-number given item both.0).0 in
                    let through = sym (ap (lets_through first (mark owner)) its) ∙ both.1 in
                    grind (arith, nat_tests, told)),
              );
        }
          where
            parts : (owner key : ℕ) → owner < from.nodes → key < from.keys → sent owner key ≡ true
                → (low owner < cells owner key) × (lets_through first (mark owner) (cells owner key) ≡ true)
            parts owner key lt lt' holds = grind (arith, nat_tests, is owner key lt lt')
