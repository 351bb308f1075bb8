-- Any set of candidates that is closed downwards, fits, and lets nothing more in is what is sent.
-- Serves `deltas_have_their_sets` and `DeltaMarks`.
use Rattle.delta_plans.proofs.Common.{is_lacked, ◌≡◌, ℕ, suc, ◌+◌, ◌-◌, ◌<◌, ◌≤◌, Bool, true, false, cond, not, List, [], ◌∷◌, refl, sym, ap, ◌∙◌, subst, arith, nat_tests, count_by, filter, Contains, sum_by, Ordering, Less, Equal, Greater, is_lt, less, ordering_reverse, IsTotalOrder, tied_itself, both_ways, le-leb, lt-leb, AllPairs-filter, length_permutation, get_or-le-sum_by, sum_by-cons, length-filter, Item, items_of, stands_at, candidates, delta_between, sending_order-total, sending_order-strict, Contains-filter, Contains-kept, same_members, size_through, fits, sent, cut_count, Contains-first_places, first_places-Contains, sent_apart, size_in, IsSentSet, DeltasHaveTheirSets}
use Rattle.delta_plans.proofs.Candidates.{table_apart}

-- a sum over a list whose terms are no greater, and by how much, for the elements of the list
sum_by-gap : {X : Type 0} (f g : X → ℕ) (xs : List X) → ((x : X) → Contains xs x → f x ≤ g x) → sum_by f xs + sum_by (λ x. g x - f x) xs ≤ sum_by g xs
sum_by-gap f g [] le = omega arith
sum_by-gap f g (x ∷ xs) le =
    let rest = sum_by-gap f g xs (λ y (k, lt, is). le y (suc k, omega (arith, lt), is)) in
    omega (arith, sum_by-cons f x xs, sum_by-cons g x xs, sum_by-cons (λ y. g y - f y) x xs, le x (0, omega arith, refl), rest)

-- a term
no_more : (before is_in : Bool) (n : ℕ) → (before ≡ false → is_in ≡ true) → cond before 0 n ≤ cond is_in n 0
no_more before is_in n covers = grind (arith, nat_tests)

no_less : (before is_in : Bool) (n : ℕ) → (before ≡ true → is_in ≡ true → ⊥) → cond is_in n 0 ≤ cond before 0 n
no_less before is_in n apart = grind (arith, nat_tests)

-- and where one of them is greater by n
sum_by-more : {X : Type 0} (f g : X → ℕ) (xs : List X) (n : ℕ) (y : X) → Contains xs y
    → ((x : X) → Contains xs x → f x ≤ g x) → f y + n ≤ g y → sum_by f xs + n ≤ sum_by g xs
sum_by-more f g xs n y (k, lt, is) le more = omega (arith, sum_by-gap f g xs le, get_or-le-sum_by (λ x. g x - f x) xs k y lt, ap (λ x. g x - f x) is, more)

module _ {X : Type 0} {order : X → X → Ordering} {cs : List X} {size : X → ℕ} {is_in : X → Bool} {budget : ℕ} (total : IsTotalOrder order)
    (strict : (c d : X) → Contains cs c → Contains cs d → order c d ≡ Equal → c ≡ d) (is : IsSentSet order cs size is_in budget) where
  abbrev term : X → ℕ
  term d = cond (is_in d) (size d) 0

  abbrev through : X → X → ℕ
  through c d = cond (is_lt (order c d)) 0 (size d)

  -- what stands before one in the set, and behind none
  before_in : (c d : X) → Contains cs c → Contains cs d → is_lt (order c d) ≡ true → is_in d ≡ true → is_in c ≡ true
  before_in c d at_c at_d before yes' = is.closed c d at_c at_d (less (order c d) (rw before tt)) yes'

  behind_in : (c d : X) → Contains cs c → Contains cs d → is_lt (order c d) ≡ false → is_in c ≡ true → is_in d ≡ true
  behind_in c d at_c at_d behind yes' = elim (order c d) as (λ r. order c d ≡ r → is_in d ≡ true) [
    | Less ↦ λ e. absurd (both_ways (is_lt (order c d)) behind (ap is_lt e))
    | Equal ↦ λ e. subst (λ x. is_in x ≡ true) (strict c d at_c at_d e) yes'
    | Greater ↦ λ e. is.closed d c at_d at_c (total.antisymm d c ∙ ap ordering_reverse e) yes'
  ] refl

  -- a candidate fits where it is in the set
  fits-is : (c : X) → Contains cs c → fits order cs size budget c ≡ is_in c
  fits-is c at_c = elim (is_in c) as (λ b. is_in c ≡ b → fits order cs size budget c ≡ b) [
    | true ↦ λ e.
        let upto = sum_by-gap (through c) term cs (λ d at_d. no_more (is_lt (order c d)) (is_in d) (size d) (λ behind. behind_in c d at_c at_d behind e)) in
        le-leb (size_through order cs size c) budget (omega (arith, upto, is.within))
    | false ↦ λ e.
        let out = is.tight c at_c e in let no_later = λ (before : is_lt (order c out.next) ≡ true). out.no_later (less (order c out.next) (rw before tt)) in
        let beyond = sum_by-more term (through c) cs (size out.next) out.next out.candidate
        (λ d at_d. no_less (is_lt (order c d)) (is_in d) (size d) (λ before yes'. both_ways (is_in c) e (before_in c d at_c at_d before yes')))
        (omega (arith, no_less (is_lt (order c out.next)) true (size out.next) (λ b _. no_later b), ap (λ b. cond b (size out.next) 0) out.outside)) in
        lt-leb (size_through order cs size c) budget (omega (arith, beyond, out.beyond))
  ] refl

  abbrev one : Bool → ℕ
  one b = cond b 1 0

  -- so it is sent where it is in the set
  pub sent-in_set : (c : X) → Contains (sent order cs size budget) c → Contains cs c × (is_in c ≡ true)
  sent-in_set c there =
      let at = Contains-first_places order total cs _ c there in
      let le = λ (e : is_in c ≡ false). sum_by-gap (λ d. one (fits order cs size budget d)) (λ d. one (is_lt (order d c))) cs
      (λ d at_d. let behind = behind_in d c at_d at.0 in grind (arith, nat_tests, fits-is d at_d)) in (at.0, grind (arith, nat_tests, le, at.1))

  pub in_set-sent : (c : X) → Contains cs c → is_in c ≡ true → Contains (sent order cs size budget) c
  in_set-sent c at_c yes' =
      let more = sum_by-more (λ d. one (is_lt (order d c))) (λ d. one (fits order cs size budget d)) cs 1 c at_c
      (λ d at_d. let before = before_in d c at_d at_c in grind (arith, nat_tests, fits-is d at_d))
      (let tied = ap is_lt (tied_itself total c) in grind (arith, nat_tests, fits-is c at_c)) in
      first_places-Contains order total cs strict _ c at_c (omega (arith, more))

  pub cut-is : cut_count order cs size budget ≡ count_by (λ c. not (is_in c)) cs
  cut-is =
      let le = sum_by-gap (λ c. one (not (fits order cs size budget c))) (λ c. one (not (is_in c))) cs (λ c at_c. grind (arith, nat_tests, fits-is c at_c)) in
      let ge = sum_by-gap (λ c. one (not (is_in c))) (λ c. one (not (fits order cs size budget c))) cs (λ c at_c. grind (arith, nat_tests, fits-is c at_c)) in
      omega (arith, le, ge)

module _ {X : Type 0} {order : X → X → Ordering} {cs : List X} {size : X → ℕ} {is_in : X → Bool} {budget : ℕ} where
  -- what comes before a candidate that doesn't fit beside it
  pub stops_sent : IsTotalOrder order → (next : X) → Contains cs next → ((c : X) → Contains cs c → is_in c ≡ is_lt (order c next))
      → size_in order cs size is_in ≤ budget → budget < size_in order cs size is_in + size next → IsSentSet order cs size is_in budget
  stops_sent total next candidate set within beyond = record {
    closed = λ c d at_c at_d before yes'. set c at_c ∙ ap is_lt (total.trans c d next before (less (order d next) (rw (← set d at_d, yes') tt)));
    within = within;
    tight = λ c at_c no'. record {
      next = next;
      candidate = candidate;
      outside = set next candidate ∙ ap is_lt (tied_itself total next);
      no_later = λ before. both_ways (is_in c) no' (set c at_c ∙ ap is_lt before);
      beyond = beyond;
    };
  }

  -- all, where they fit
  pub all_sent : ((c : X) → Contains cs c → is_in c ≡ true) → size_in order cs size is_in ≤ budget → IsSentSet order cs size is_in budget
  all_sent all within =
      record { closed = λ c d at_c at_d before yes'. all c at_c; within = within; tight = λ c at_c no'. absurd (both_ways (is_in c) no' (all c at_c)) }

pub set_sent : DeltasHaveTheirSets
set_sent mode rotation budget from to is_in proper in_nodes is =
    let cs = candidates mode from to in let total = sending_order-total mode from.nodes rotation cs in
    let strict = sending_order-strict mode from to rotation proper in_nodes in let apart = λ (i j : Item). stands_at i.owner i.entry.key j ≡ false in
    let same = same_members (delta_between mode rotation budget from to).items (filter is_in cs)
    (sent_apart _ total from proper cs (λ c there. (Contains-kept (is_lacked mode to) (items_of from) c there).0) _)
    (AllPairs-filter apart is_in cs (AllPairs-filter apart (is_lacked mode to) (items_of from) (table_apart from proper)))
    (λ c there. let at = sent-in_set total strict is c there in Contains-filter is_in cs c at.0 at.1)
    (λ c there. let at = Contains-kept is_in cs c there in in_set-sent total strict is c at.0 at.1) in record {
      members = λ c. (sent-in_set total strict is c, (λ both. in_set-sent total strict is c both.0 both.1));
      count = sym (length_permutation _ (filter is_in cs) same) ∙ length-filter is_in cs;
      cut = cut-is total strict is;
    }
