-- The two passes over a list: the last exchange of each node before a place, and the first from a place on.
-- Serves the functions of `deps`.
use Rattle.dependencies.proofs.Common.{◌≡◌, ℕ, suc, inl, inr, ◌+◌, ◌-◌, ◌<◌, ◌≤◌, ◌||◌, Bool, true, false, cond, List, [], ◌∷◌, ◌++◌, length, map, get_or, set, add-one, refl, sym, ap, ◌∙◌, arith, append-nil, length-set, get_or-set_other, get_or-set_same, Option, None, Some, nat_eq, range_with_len, find, filter, cases_eq, eq-eqb, ne_eqb, map-id, map-range_with_len_more, fill_by_all, get_or-map-range_with_len, length-map-range_with_len, filter_of_map_range_with_len_more, Exchange, IsPlanned}
use Rattle.dependencies.specs.declared.deps.After.{After}
use Rattle.dependencies.specs.declared.deps.Before.{Before}
use Rattle.dependencies.specs.Sharing.{exchange_at, takes_part}
use Rattle.dependencies.specs.Neighbours.{last_before, first_from, unless_same, predecessors_of, successors, pending_of, is_first_ready}

-- a list written at one place, and at two
written : {X : Type 0} (xs : List X) (p node : ℕ) (x d : X) → p < length xs → get_or (set xs p x) node d ≡ cond (nat_eq p node) x (get_or xs node d)
written xs p node x d in_p = elim (cases_eq p node) [
  | inl at ↦ ap (λ n. get_or (set xs p x) n d) (sym at) ∙ get_or-set_same xs p x d in_p ∙ sym (ap (λ b. cond b x (get_or xs node d)) (eq-eqb p node at))
  | inr past ↦ get_or-set_other xs p node x d (λ e. past (sym e)) ∙ sym (ap (λ b. cond b x (get_or xs node d)) (ne_eqb p node past))
]

either : {X : Type 0} (a b : Bool) (x y : X) → cond b x (cond a x y) ≡ cond (a || b) x y
either true true x y = refl
either true false x y = refl
either false true x y = refl
either false false x y = refl

touched : {X : Type 0} (xs : List X) (p q node : ℕ) (x d : X) → p < length xs → q < length xs → get_or (set (set xs p x) q x) node d ≡ cond (nat_eq p node || nat_eq q node) x (get_or xs node d)
touched xs p q node x d in_p in_q =
    written (set xs p x) q node x d (omega (arith, length-set xs p x))
    ∙ ap (cond (nat_eq q node) x) (written xs p node x d in_p)
    ∙ either (nat_eq p node) (nat_eq q node) x (get_or xs node d)

last_more : (es : List Exchange) (node i : ℕ) → last_before es node (i + 1) ≡ cond (takes_part es node i) (Some i) (last_before es node i)
last_more es node i = ap (last_before es node) (add-one i)

first_more : (es : List Exchange) (node i : ℕ) → i < length es → first_from es node i ≡ cond (takes_part es node i) (Some i) (first_from es node (i + 1))
first_more es node i within =
    let e : length es - i ≡ suc (length es - (i + 1)) = omega arith in
    ap (λ n. find (takes_part es node) (range_with_len i n)) e

-- the exchanges before i are done
pub record IsForward (es : List Exchange) (nodes i : ℕ) (last : List (Option ℕ)) (before : List Before) : Type 0 where
  pub size : length last ≡ nodes
  pub known : (node : ℕ) → node < nodes → get_or last node None ≡ last_before es node i
  pub done : before ≡ map (predecessors_of es) (range_with_len 0 i)

pub forward_more : (es : List Exchange) (nodes i : ℕ) (last : List (Option ℕ)) (before : List Before) (first second : Option ℕ) → IsForward es nodes i last before → IsPlanned nodes (exchange_at es i)
    → first ≡ get_or last (exchange_at es i).initiator None → second ≡ unless_same first (get_or last (exchange_at es i).responder None)
    → IsForward es nodes (i + 1) (set (set last (exchange_at es i).initiator (Some i)) (exchange_at es i).responder (Some i)) (before ++ record { first = first; second = second } ∷ [])
forward_more es nodes i last before first second h planned first_is second_is =
    let e = exchange_at es i in
    let one : first ≡ last_before es e.initiator i = first_is ∙ h.known e.initiator planned.initiator in
    let two : second ≡ unless_same (last_before es e.initiator i) (last_before es e.responder i) = second_is ∙ (λ j. unless_same (one j) (h.known e.responder planned.responder j)) in
    record {
      size = length-set (set last e.initiator (Some i)) e.responder (Some i) ∙ length-set last e.initiator (Some i) ∙ h.size;
      known = λ node within.
          touched last e.initiator e.responder node (Some i) None (omega (arith, h.size, planned.initiator)) (omega (arith, h.size, planned.responder))
          ∙ ap (cond (takes_part es node i) (Some i)) (h.known node within)
          ∙ sym (last_more es node i);
      done =
          (λ j. h.done j ++ record { first = one j; second = two j } ∷ [])
          ∙ sym (map-range_with_len_more (predecessors_of es) 0 i i (omega arith));
    }

-- the exchanges from i on are done
pub record IsBackward (es : List Exchange) (nodes i : ℕ) (next : List (Option ℕ)) (after : List After) : Type 0 where
  pub size : length next ≡ nodes
  pub room : length after ≡ length es
  pub known : (node : ℕ) → node < nodes → get_or next node None ≡ first_from es node i
  pub done : (k : ℕ) (d : After) → i ≤ k → k < length es → get_or after k d ≡ successors es k

pub backward_more : (es : List Exchange) (nodes i : ℕ) (next : List (Option ℕ)) (after : List After) (first second : Option ℕ) → i < length es → IsBackward es nodes (i + 1) next after → IsPlanned nodes (exchange_at es i)
    → first ≡ get_or next (exchange_at es i).initiator None → second ≡ unless_same first (get_or next (exchange_at es i).responder None)
    → IsBackward es nodes i (set (set next (exchange_at es i).initiator (Some i)) (exchange_at es i).responder (Some i)) (set after i (record { first = first; second = second }))
backward_more es nodes i next after first second here h planned first_is second_is =
    let e = exchange_at es i in
    let a : After = record { first = first; second = second } in
    let one : first ≡ first_from es e.initiator (i + 1) = first_is ∙ h.known e.initiator planned.initiator in
    let two : second ≡ unless_same (first_from es e.initiator (i + 1)) (first_from es e.responder (i + 1)) = second_is ∙ (λ j. unless_same (one j) (h.known e.responder planned.responder j)) in
    let same : a ≡ successors es i = λ j. record { first = one j; second = two j } in
    record {
      size = length-set (set next e.initiator (Some i)) e.responder (Some i) ∙ length-set next e.initiator (Some i) ∙ h.size;
      room = length-set after i a ∙ h.room;
      known = λ node within.
          touched next e.initiator e.responder node (Some i) None (omega (arith, h.size, planned.initiator)) (omega (arith, h.size, planned.responder))
          ∙ ap (cond (takes_part es node i) (Some i)) (h.known node within)
          ∙ sym (first_more es node i here);
      done = λ k d from within. elim (cases_eq k i) [
        | inl at ↦ ap (λ n. get_or (set after i a) n d) at ∙ get_or-set_same after i a d (omega (arith, h.room)) ∙ same ∙ ap (successors es) (sym at)
        | inr past ↦ get_or-set_other after i k a d past ∙ h.done k d (omega arith) within
      ];
    }

pub backward_all : (es : List Exchange) (nodes : ℕ) (next : List (Option ℕ)) (after : List After) → IsBackward es nodes 0 next after → after ≡ map (successors es) (range_with_len 0 (length es))
backward_all es nodes next after h =
    fill_by_all (successors es) after (length es) (record { first = None; second = None }) h.room (λ k within. h.done k (record { first = None; second = None }) (omega arith) within)

-- the places before i without a predecessor
free_more : (es : List Exchange) (i : ℕ) → filter (is_first_ready es) (range_with_len 0 (i + 1)) ≡ filter (is_first_ready es) (range_with_len 0 i) ++ cond (is_first_ready es i) (i ∷ []) []
free_more es i =
    let p = is_first_ready es in
    ap (filter p) (sym (map-id (range_with_len 0 (i + 1))))
    ∙ filter_of_map_range_with_len_more p (λ x. x) 0 i i (omega arith)
    ∙ ap (λ xs. filter p xs ++ cond (p i) (i ∷ []) []) (map-id (range_with_len 0 i))

module _ (es : List Exchange) (i : ℕ) (free : List ℕ) (waits : ℕ) (waits_is : waits ≡ pending_of es i) (free_is : free ≡ filter (is_first_ready es) (range_with_len 0 i)) where
  pub free_kept : waits ≡ 0 → free ++ i ∷ [] ≡ filter (is_first_ready es) (range_with_len 0 (i + 1))
  free_kept none =
      let ready : is_first_ready es i ≡ true = eq-eqb (pending_of es i) 0 (sym waits_is ∙ none) in
      (λ j. free_is j ++ i ∷ [])
      ∙ sym (ap (λ b. filter (is_first_ready es) (range_with_len 0 i) ++ cond b (i ∷ []) []) ready)
      ∙ sym (free_more es i)

  pub free_passed : (waits ≡ 0 → ⊥) → free ≡ filter (is_first_ready es) (range_with_len 0 (i + 1))
  free_passed some =
      let bound : is_first_ready es i ≡ false = ne_eqb (pending_of es i) 0 (λ none. some (waits_is ∙ none)) in
      free_is
      ∙ sym (append-nil (filter (is_first_ready es) (range_with_len 0 i)))
      ∙ sym (ap (λ b. filter (is_first_ready es) (range_with_len 0 i) ++ cond b (i ∷ []) []) bound)
      ∙ sym (free_more es i)

-- a list with an element for each place
pub length_each : {X : Type 0} (f : ℕ → X) (xs : List X) (n : ℕ) → xs ≡ map f (range_with_len 0 n) → length xs ≡ n
length_each f xs n is = ap length is ∙ length-map-range_with_len f 0 n

pub each_at : {X : Type 0} (f : ℕ → X) (xs : List X) (n i : ℕ) (d : X) → xs ≡ map f (range_with_len 0 n) → i < n → get_or xs i d ≡ f i
each_at f xs n i d is within = ap (λ ys. get_or ys i d) is ∙ get_or-map-range_with_len f 0 n i i d within (omega arith)

-- and the element of a place, by the list that the caller sees
pub indexed : {X : Type 0} (f : List Exchange → ℕ → X) (es seen : List Exchange) (xs : List X) (i : ℕ) → es ≡ seen → xs ≡ map (f es) (range_with_len 0 (length es)) → i < length seen
    → (i < length xs) × ((x : X) → x ≡ get_or xs i x → x ≡ f seen i)
indexed f es seen xs i same is within =
    let lt : i < length es = omega (arith, within, ap length same) in (
      omega (arith, lt, length_each (f es) xs (length es) is),
      λ x at. at ∙ each_at (f es) xs (length es) i x is lt ∙ ap (λ ys. f ys i) same,
    )
