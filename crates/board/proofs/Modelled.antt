-- Steps on tables in memory, from the same steps on their models.
-- Serves the functions of `boards`, `Calls`, `Filling` and `Steps`.
use Rattle.board.proofs.Common.{◌≡◌, ℕ, zero, suc, List, [], ◌∷◌, length, map, set, get_or, Option, None, Some, refl, sym, ap, ◌∙◌, subst, arith, length-map, map-set, none-some, same_Some, some, none, some-injective, some-ne-none, get_elem?, State, Me, Act, keeps, takes, gives, chain, Valid, carried_after, homes_after, Allows, Splits, Joins, opening, Final, Seen, at_map, Table}
use Rattle.board.specs.Rule.{Slot}
use Rattle.board.specs.Seats.{Sat}
use Rattle.board.specs.Models.{slot_model, home_model, state_model, carried_model, seat_model}
use Rattle.board.specs.declared.views.View.{View}

module _ {T : Type 0} (table : T → Table) where
  -- what stands in a slot, where its model does
  pub at_model : (homes : List (mathlib.Core.Option.Option (Option T))) (k : ℕ) (y : Slot) → get_elem? (map (home_model table) homes) k ≡ some (some y)
      → (x : Option T) × (get_elem? homes k ≡ some (some x)) × (slot_model table x ≡ y)
  at_model [] k y e = absurd (some-ne-none (some y) (sym e))
  at_model (none ∷ hs) zero y e = absurd (some-ne-none y (sym (some-injective none (some y) e)))
  at_model (some x ∷ hs) zero y e = (x, refl, some-injective (slot_model table x) y (some-injective (some (slot_model table x)) (some y) e))
  at_model (h ∷ hs) (suc k) y e = at_model hs k y e

  -- what a step does to slots, from what it does to their models
  record IsLifted (homes : List (mathlib.Core.Option.Option (Option T))) (carried : List (ℕ × Option T)) (a : Act Slot) : Type 0 where
    act : Act (Option T)
    valid : Valid homes carried act
    same_homes : map (home_model table) (homes_after homes carried act) ≡ homes_after (map (home_model table) homes) (carried_model table carried) a
    same_carried : carried_model table (carried_after carried act) ≡ carried_after (carried_model table carried) a

  lifted : (a : Act Slot) (homes : List (mathlib.Core.Option.Option (Option T))) (carried : List (ℕ × Option T)) → Valid (map (home_model table) homes) (carried_model table carried) a → IsLifted homes carried a
  lifted keeps homes carried valid = record { act = keeps; valid = tt; same_homes = refl; same_carried = refl }
  lifted (takes k y) homes carried valid =
      let there = at_model homes k y valid in
      record { act = takes k there.0; valid = there.1; same_homes = map-set (home_model table) homes k none; same_carried = λ j. (k, there.2 j) ∷ carried_model table carried }
  lifted gives homes [] valid = record { act = gives; valid = tt; same_homes = refl; same_carried = refl }
  lifted gives homes (c ∷ cs) valid = record { act = gives; valid = tt; same_homes = map-set (home_model table) homes c.0 (some c.1); same_carried = refl }
  lifted (chain a b) homes carried valid =
      let first = lifted a homes carried valid.0 in
      let second = lifted b (homes_after homes carried first.act) (carried_after carried first.act)
      (subst (λ hs. Valid hs (carried_model table (carried_after carried first.act)) b) (sym first.same_homes)
      (subst (λ cs. Valid (homes_after (map (home_model table) homes) (carried_model table carried) a) cs b) (sym first.same_carried) valid.1)) in
      record {
        act = chain first.act second.act;
        valid = (first.valid, second.valid);
        same_homes = second.same_homes ∙ (λ j. homes_after (first.same_homes j) (first.same_carried j) b);
        same_carried = second.same_carried ∙ ap (λ cs. carried_after cs b) first.same_carried;
      }

  -- A rule of the models allows of tables in memory what it allows of their models.
  pub allows_model : (holds : State Slot View → Type 0) (slots id : ℕ) (m : Me (Option T) View) (i : ℕ) (f : ℕ → ℕ) (told : ℕ → Sat → Type 0)
      → Allows holds slots id (seat_model table m) i f told → Allows (λ s. holds (state_model table s)) slots id m i f (λ r n. told r (seat_model table n))
  allows_model holds slots id m i f told allowed s held size me wide =
      let went = allowed (state_model table s) held (length-map s.homes (home_model table) ∙ size) me wide in
      let up = lifted went.1 s.homes m.1 went.2 in (
        went.0,
        up.act,
        up.valid,
        subst (λ hs. holds record { words = set s.words i (f (get_or s.words i 0)); homes = hs; views = set s.views id went.0 }) (sym up.same_homes) went.3,
        subst (λ cs. told (get_or s.words i 0) (went.0, cs)) (sym up.same_carried) went.4,
      )

  pub splits_model : (holds : State Slot View → Type 0) (id : ℕ) (v left right : View) → Splits holds id v left right → Splits (λ (s : State (Option T) View). holds (state_model table s)) id v left right
  splits_model holds id v left right split s held me = split (state_model table s) held me

  pub joins_model : (holds : State Slot View → Type 0) (id : ℕ) (v : View) (other : ℕ) (w both spent : View) → Joins holds id v other w both spent → Joins (λ (s : State (Option T) View). holds (state_model table s)) id v other w both spent
  joins_model holds id v other w both spent join s held me apart them = join (state_model table s) held me apart them

  homes_opening : (slots : List (Option T)) → map (home_model table) (map some slots) ≡ map some (map (slot_model table) slots)
  homes_opening [] = refl
  homes_opening (x ∷ xs) = λ k. some (slot_model table x) ∷ homes_opening xs k

  pub opening_model : (holds : State Slot View → Type 0) (words : List ℕ) (slots : List (Option T)) (v : View) → holds (opening words (map (slot_model table) slots) v) → holds (state_model table (opening words slots v))
  opening_model holds words slots v held = subst (λ hs. holds record { words = words; homes = hs; views = v ∷ [] }) (sym (homes_opening slots)) held

  pub final_model : (holds : State Slot View → Type 0) (id : ℕ) (v : View) (words : List ℕ) (slots : List (Option T)) → Final (Seen (λ s. holds (state_model table s)) id v) words slots → Final (Seen holds id v) words (map (slot_model table) slots)
  final_model holds id v words slots final = (
    state_model table final.0,
    final.1,
    final.2,
    length-map final.0.homes (home_model table) ∙ final.3 ∙ sym (length-map slots (slot_model table)),
    λ k y at. let there = at_model final.0.homes k y at in at_map (slot_model table) slots k there.0 (final.4 k there.0 there.1) ∙ ap some there.2,
  )

  -- What a seat carries, from its model.

  pub empty_of : (x : Option T) → slot_model table x ≡ None → x ≡ None
  empty_of None e = refl
  empty_of (Some kept) e = absurd (none-some (table kept) (sym e))

  pub table_of : (x : Option T) (t : Table) → slot_model table x ≡ Some t → (kept : T) × (x ≡ Some kept) × (table kept ≡ t)
  table_of None t e = absurd (none-some t e)
  table_of (Some kept) t e = (kept, refl, same_Some (table kept) t e)

  none_carried : (carried : List (ℕ × Option T)) → carried_model table carried ≡ [] → carried ≡ []
  none_carried [] e = refl
  none_carried (c ∷ cs) e = absurd (omega (arith, ap length e))

  two_carried : (carried : List (ℕ × Option T)) (p q : ℕ) (x y : Slot) → carried_model table carried ≡ (q, y) ∷ (p, x) ∷ []
      → (a b : Option T) × (carried ≡ (q, b) ∷ (p, a) ∷ []) × (slot_model table a ≡ x) × (slot_model table b ≡ y)
  two_carried [] p q x y e = absurd (omega (arith, ap length e))
  two_carried (c ∷ []) p q x y e = absurd (omega (arith, ap length e))
  two_carried (c ∷ d ∷ []) p q x y e = (
    d.1,
    c.1,
    (λ k. ((get_or (e k) 0 (q, y)).0, c.1) ∷ ((get_or (e k) 1 (p, x)).0, d.1) ∷ []),
    ap (λ (l : List (ℕ × Slot)). (get_or l 1 (p, x)).1) e,
    ap (λ (l : List (ℕ × Slot)). (get_or l 0 (q, y)).1) e,
  )
  two_carried (c ∷ d ∷ z ∷ cs) p q x y e = absurd (omega (arith, ap length e))

  module _ (n : Me (Option T) View) (w : View) where
    pub rests_of : seat_model table n ≡ (w, []) → n ≡ (w, [])
    rests_of e = λ k. ((e k).0, none_carried n.1 (ap (λ (x : Sat). x.1) e) k)

    module _ (p q : ℕ) where
      pub empties_of : seat_model table n ≡ (w, (q, None) ∷ (p, None) ∷ []) → n ≡ (w, (q, None) ∷ (p, None) ∷ [])
      empties_of e =
          let two = two_carried n.1 p q None None (ap (λ (x : Sat). x.1) e) in
          (λ k. ((e k).0, two.2 k)) ∙ (λ k. (w, (q, empty_of two.1 two.4 k) ∷ (p, empty_of two.0 two.3 k) ∷ []))

      pub tables_of : (s t : Table) → seat_model table n ≡ (w, (q, Some t) ∷ (p, Some s) ∷ []) → (a b : T) × (n ≡ (w, (q, Some b) ∷ (p, Some a) ∷ [])) × (table a ≡ s) × (table b ≡ t)
      tables_of s t e =
          let two = two_carried n.1 p q (Some s) (Some t) (ap (λ (x : Sat). x.1) e) in
          let first = table_of two.0 s two.3 in
          let second = table_of two.1 t two.4 in
          (first.0, second.0, (λ k. ((e k).0, two.2 k)) ∙ (λ k. (w, (q, second.1 k) ∷ (p, first.1 k) ∷ [])), first.2, second.2)
