-- What is sent stood among the candidates.
-- Serves `Owns`, `Received`, `reconcile` and `run_laws`.
use Rattle.model.proofs.Common.{◌≡◌, ◌≢◌, ℕ, zero, suc, ◌+◌, true, false, cond, not, ◌&&◌, eqb, List, [], ◌∷◌, All, Some, None, refl, sym, ◌∙◌, subst, count_by, filter_map, range_with_len, cons_option, Ordering, eq-eqb, All-nil, All-cons, All-head, All-tail, Budget, amount_of, Item, Mark, mark_of, is_before, Mode}
use Rattle.model.specs.Table.{Table, items_of, IsProper}
use Rattle.model.specs.calls.Table.{IsItemInPlace}
use Rattle.model.proofs.Proper.{items_sound}
use Rattle.model.specs.Candidates.{items_above, candidates}
use Rattle.model.specs.Deltas.{item_share, delta_between}
use Rattle.model.specs.Order.{sending_order}
use Rattle.model.specs.Picks.{at_place, fits, sent}
use Rattle.model.proofs.Picked.{find_stands}

-- none of the candidates is the receiver's own, and each has what all the sender's items have
pub All-items_above : (P : Item → Type 0) (known : Item → Mark) (receiver : ℕ) (xs : List Item) → All P xs → All (λ (i : Item). (i.owner ≢ receiver) × P i) (items_above known receiver xs)
All-items_above P known receiver [] all = All-nil (λ (i : Item). (i.owner ≢ receiver) × P i)
All-items_above P known receiver (x ∷ xs) all =
    let rest = All-items_above P known receiver xs (All-tail P x xs all) in
    elim (eqb x.owner receiver) as (λ b. eqb x.owner receiver ≡ b → All (λ (i : Item). (i.owner ≢ receiver) × P i) (cond (not b && is_before (known x) (mark_of x.entry)) (x ∷ items_above known receiver xs) (items_above known receiver xs))) [
      | true ↦ λ own. rest
      | false ↦ λ other. elim (is_before (known x) (mark_of x.entry)) as (λ b. All (λ (i : Item). (i.owner ≢ receiver) × P i) (cond b (x ∷ items_above known receiver xs) (items_above known receiver xs))) [
        | true ↦ All-cons (λ (i : Item). (i.owner ≢ receiver) × P i) x (items_above known receiver xs) ((λ e. let yes = eq-eqb x.owner receiver e in let no : true ≡ false = sym yes ∙ other in cc), All-head P x xs all) rest
        | false ↦ rest
      ]
    ] refl

pub candidates-in_place : (t : Table) (known : Item → Mark) (receiver : ℕ) → IsProper t → All (λ (i : Item). (i.owner ≢ receiver) × IsItemInPlace t.nodes t.keys i) (items_above known receiver (items_of t))
candidates-in_place t known receiver proper = All-items_above (IsItemInPlace t.nodes t.keys) known receiver (items_of t) (items_sound t proper).in_place

-- what is sent has what all candidates have
pub All-sent : {X : Type 0} (P : X → Type 0) (order : X → X → Ordering) (cs : List X) (size : X → ℕ) (budget : ℕ) → All P cs → All P (sent order cs size budget)
All-sent P order cs size budget all = places 0 (count_by (fits order cs size budget) cs)
  where
    places : (a n : ℕ) → All P (filter_map (at_place order cs) (range_with_len a n))
    places a zero = All-nil P
    places a (suc n) =
        let rest = places (a + 1) n in
        elim (at_place order cs a) as (λ o. at_place order cs a ≡ o → All P (cons_option o (filter_map (at_place order cs) (range_with_len (a + 1) n)))) [
          | None ↦ λ e. rest
          | Some x ↦ λ e. let there = find_stands (λ c. eqb (Rattle.model.specs.Picks.before_count order cs c) a) cs x e in
              All-cons P x (filter_map (at_place order cs) (range_with_len (a + 1) n)) (subst P there.2 (all there.0 x there.1)) rest
        ] refl

pub All-delta_between : (P : Item → Type 0) (mode : Mode) (rotation : ℕ) (budget : Budget) (from to : Table) → All P (candidates mode from to) → All P (delta_between mode rotation budget from to).items
All-delta_between P mode rotation budget from to = All-sent P (sending_order mode from.nodes rotation (candidates mode from to)) (candidates mode from to) (item_share budget) (amount_of budget)
