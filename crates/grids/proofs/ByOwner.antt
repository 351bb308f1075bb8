-- Tables whose owners are gone over one by one.
-- Serves `drop_owner`, `merge_owners`, `raise_owner`, `take_owner`, `take_owners` and `version_tables`.
use Rattle.grids.proofs.Common.{Fits, w64, IsGrid, plane-within, scaled_fits≤, ◌≡◌, ◌≢◌, ℕ, ◌+◌, ◌*◌, ◌^◌, ◌<◌, ◌≤◌, ◌==◌, cond, List, length, get_or, set, map, nat_lt, inl, inr, refl, sym, ap, ◌∙◌, subst, arith, below_more, nat_tests, mul-le-mul_right, lt-ltb, le-ltb, get_or-set_same, get_or-set_other, length-set, map-set, sum_below, sum_below-same, Cells, cell, count_above, number_raised, HasNoneAbove, IsRaised, ArePlanesChanged, ArePlanesChangedUpto, HasRaisedOwner, owner_counted, owner_passed}

-- an owner's place in bytes, among numbers that are owned memory
pub place-fits : (nodes keys size key r k : ℕ) → IsGrid nodes keys size → key < keys → r < nodes → size * k < 2 ^ 63 → Fits w64 ((key * nodes + r) * k)
place-fits nodes keys size key r k grid lt in_nodes room = scaled_fits≤ _ size _ (omega (arith, plane-within nodes keys size key grid lt)) room

-- numbers of one owner are changed
abbrev pub owner_changed : (ℕ → ℕ → ℕ → ℕ) → ℕ → ℕ → ℕ → ℕ → ℕ → Type 0
owner_changed to owner r k x y = y ≡ cond (r == owner) (to r k x) x

module _ (to : ℕ → ℕ → ℕ → ℕ) (owner nodes : ℕ) (old : List ℕ) (in_nodes : owner < nodes) where
  abbrev IsDone : List ℕ → ℕ → Type 0
  IsDone xs key = ArePlanesChangedUpto (owner_changed to owner) nodes old xs key

  -- one key more, where no other number changes
  owner_more : (xs ys : List ℕ) (key : ℕ) → IsDone xs key → length ys ≡ length xs → get_or ys (key * nodes + owner) 0 ≡ to owner key (cell old nodes owner key)
      → ((i : ℕ) → i ≢ key * nodes + owner → get_or ys i 0 ≡ get_or xs i 0) → IsDone ys (key + 1)
  owner_more xs ys key before size now others = record {
    size = size ∙ before.size;
    below = λ r k in_node. below_more (λ j. owner_changed to owner r j (cell old nodes r j) (cell ys nodes r j)) key
        (λ j lt.
        let earlier = mul-le-mul_right {m = j + 1} {n = key} nodes (omega arith) in
        others (j * nodes + r) (λ e. omega (arith, earlier)) ∙ before.below r j in_node lt)
        (let kept = others (key * nodes + r) in let was = before.from (key * nodes + r) (omega arith) in grind (arith, nat_tests)) k;
    from = λ i le. others i (λ e. omega arith) ∙ before.from i (omega arith);
  }

  -- it is written
  pub owner-next : {N : Type 0} (number : N → ℕ) (xs : List N) (key : ℕ) (x : N) → IsDone (map number xs) key → key * nodes + nodes ≤ length old
      → number x ≡ to owner key (cell old nodes owner key) → IsDone (map number (set xs (key * nodes + owner) x)) (key + 1)
  owner-next number xs key x before within is =
      rw (map-set number xs (key * nodes + owner) x) (owner_more (map number xs) _ key before (length-set (map number xs) (key * nodes + owner) (number x))
      (get_or-set_same (map number xs) (key * nodes + owner) (number x) 0 (omega arith) ∙ is)
      (λ i other. get_or-set_other (map number xs) (key * nodes + owner) i (number x) 0 other))

  -- or it stays
  pub owner-stays : (xs : List ℕ) (key : ℕ) → IsDone xs key → to owner key (cell old nodes owner key) ≡ cell old nodes owner key → IsDone xs (key + 1)
  owner-stays xs key before same = owner_more xs xs key before refl (before.from (key * nodes + owner) (omega arith) ∙ sym same) (λ i other. refl)

-- of the owners below a bound
abbrev pub owners_changed : (ℕ → ℕ → ℕ → ℕ) → ℕ → ℕ → ℕ → ℕ → ℕ → Type 0
owners_changed to bound r k x y = y ≡ cond (nat_lt r bound) (to r k x) x

module _ (to : ℕ → ℕ → ℕ → ℕ) (nodes keys : ℕ) (old : List ℕ) where
  abbrev AreDone : ℕ → List ℕ → Type 0
  AreDone bound xs = ArePlanesChanged (owners_changed to bound) nodes keys old xs

  -- an owner's turn comes, where those before it were changed already
  owners_turned : (bound : ℕ) (now : ℕ → ℕ → ℕ → ℕ) (mid new : List ℕ) → AreDone bound mid → ArePlanesChanged (owner_changed now bound) nodes keys mid new
      → ((k x : ℕ) → k < keys → now bound k x ≡ to bound k x) → AreDone (bound + 1) new
  owners_turned bound now mid new before after same = record {
    size = after.size ∙ before.size;
    each = λ r k in_node in_key.
        let was = before.each r k in_node in_key in let then = after.each r k in_node in_key in let here = same k (cell old nodes r k) in_key in
        grind (arith, nat_tests);
  }

  pub owners-next : (bound : ℕ) (now : ℕ → ℕ → ℕ → ℕ) (mid new : List ℕ) → AreDone bound mid → ArePlanesChanged (owner_changed now bound) nodes keys mid new
      → ((k x : ℕ) → now bound k x ≡ to bound k x) → AreDone (bound + 1) new
  owners-next bound now mid new before after same = owners_turned bound now mid new before after (λ k x _. same k x)

  pub owners-stay : (bound : ℕ) (mid : List ℕ) → AreDone bound mid → ((k x : ℕ) → k < keys → to bound k x ≡ x) → AreDone (bound + 1) mid
  owners-stay bound mid before same =
      owners_turned bound (λ r k y. y) mid mid before (record { size = refl; each = λ r k _ _. grind (arith, nat_tests) }) (λ k x lt. sym (same k x lt))

  pub owners-all : (bound : ℕ) (mid : List ℕ) → nodes ≤ bound → AreDone bound mid → ArePlanesChanged (λ r k x y. y ≡ to r k x) nodes keys old mid
  owners-all bound mid le before = record {
    size = before.size;
    each = λ r k in_node in_key. rw (lt-ltb r bound (omega arith)) at (before.each r k in_node in_key);
  }

  -- an owner whose turn is still to come has its numbers
  pub owner-waits : (bound : ℕ) (mid : List ℕ) → AreDone bound mid → (k : ℕ) → bound < nodes → k < keys → cell mid nodes bound k ≡ cell old nodes bound k
  owner-waits bound mid before k in_node in_key = rw (le-ltb bound bound (omega arith)) at (before.each bound k in_node in_key)

pub raised-same : (one other : Cells) (keys owner x y : ℕ) → ((k : ℕ) → k < keys → one owner k ≡ other owner k)
    → IsRaised one keys owner x y → IsRaised other keys owner x y
raised-same one other keys owner x y same is = record {
  rises = is.rises;
  upto = λ k lt. subst (λ n. n ≤ y) (same k lt) (is.upto k lt);
  from = elim is.from [ inl old ↦ inl old | inr (k, lt, e) ↦ inr (k, lt, sym (same k lt) ∙ e) ];
}

-- of the owners below a bound each number is raised to another table's, where that is above the owner's mark, and so many are
pub record HaveCome (nodes keys : ℕ) (others : List ℕ) (low : ℕ → ℕ) (old new : List ℕ) (bound raised : ℕ) : Type 0 where
  pub cells : ArePlanesChanged (owners_changed (λ r k x. number_raised x (cell others nodes r k) (low r)) bound) nodes keys old new
  pub count : raised ≡ sum_below bound (λ r. count_above (cell others nodes) keys r (low r))

module _ (nodes keys : ℕ) (others : List ℕ) (low : ℕ → ℕ) (old : List ℕ) where
  abbrev raised_in : ℕ → ℕ → ℕ → ℕ
  raised_in r k x = number_raised x (cell others nodes r k) (low r)

  -- an owner's numbers come, while the other table still has them as they were
  pub come-next : {N : Type 0} (number : N → ℕ) (owner : ℕ) (low_of_others : ℕ → ℕ) (others_mid mid new : List N) (came count more : ℕ) (mark : N)
      → owner < nodes → HaveCome nodes keys old low_of_others others (map number others_mid) owner came
      → HaveCome nodes keys others low old (map number mid) owner count → number mark ≡ low owner
      → HasRaisedOwner number nodes keys owner others_mid mark mid new more → HaveCome nodes keys others low old (map number new) (owner + 1) (count + more)
  come-next number owner low_of_others others_mid mid new came count more mark lt waits before same now =
      let there = owner-waits (λ r k x. number_raised x (cell old nodes r k) (low_of_others r)) nodes keys others owner (map number others_mid) waits.cells in
      record {
        cells = owners_turned raised_in nodes keys old owner (λ r k y. number_raised y (cell (map number others_mid) nodes r k) (number mark)) _ _
            before.cells now.cells (λ k x in_keys i. number_raised x (there k lt in_keys i) (same i));
        count = owner_counted (cell others nodes) keys low owner count before.count more (number mark)
            (now.count ∙ sum_below-same keys _ _ (λ k in_keys. ap (λ n. cond (nat_lt (number mark) n) 1 0) (there k lt in_keys))) same;
      }

  -- or none comes
  pub come-passed : (owner : ℕ) (mid : List ℕ) (count high : ℕ) → HaveCome nodes keys others low old mid owner count
      → HasNoneAbove (cell others nodes) keys owner high → high ≤ low owner → HaveCome nodes keys others low old mid (owner + 1) count
  come-passed owner mid count high before covered le = record {
    cells = owners-stay raised_in nodes keys old owner mid before.cells (λ k x lt. let none = covered k lt in grind (arith, nat_tests));
    count = owner_passed (cell others nodes) keys low owner count before.count high covered le;
  }
