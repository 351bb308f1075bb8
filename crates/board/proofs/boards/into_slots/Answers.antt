use Rattle.board.proofs.Common.{vec_capacity, ◌≡◌, ℕ, ◌<◌, ◌+◌, append-nil, List, [], ◌∷◌, ◌++◌, length, map, reverse}
use Rattle.board.proofs.Common.{Option, None, Some, refl, sym, ap, ◌∙◌, arith, length-append, length-map, same_Some, false≢true, in_place}
use Rattle.std.proofs.lemmas.List.{append_assoc, length-reverse, map-append, reverse-append}
use Rattle.std.specs.Prelude.{IsSome, option_to_list}
use Rattle.board.proofs.boards.into_slots.Goals as goal
use Rattle.board.proofs.boards.into_slots.Goals.{in-Some, in_default}

module _ {T : Type 0} where
  -- the last table is moved to the end of the slots
  moved_more : (all old new : List T) (slots more : List (Option T)) (found : Option T) (counter : ℕ)
      → map in_place all ≡ map in_place old ++ reverse slots → length old + counter ≡ length all → counter < length all
      → old ≡ new ++ option_to_list found → (0 < length old → IsSome found) → ((x : T) → found ≡ Some x → more ≡ slots ++ Some x ∷ [])
      → (map in_place all ≡ map in_place new ++ reverse more) × (length new + (counter + 1) ≡ length all)
  moved_more all old new slots more None counter so_far count less popped some pushed =
      absurd (false≢true (some (omega (arith, count, less))))
  moved_more all old new slots more (Some x) counter so_far count less popped some pushed = (
    so_far
        ∙ ap (λ l. map in_place l ++ reverse slots) popped
        ∙ ap (λ l. l ++ reverse slots) (map-append in_place new (x ∷ []))
        ∙ append_assoc (map in_place new) (Some x ∷ []) (reverse slots)
        ∙ ap (λ l. map in_place new ++ l) (sym (reverse-append slots (Some x ∷ [])))
        ∙ ap (λ l. map in_place new ++ reverse l) (sym (pushed x refl)),
    omega (arith, count, ap length popped, length-append new (x ∷ [])),
  )

  moved_count : (all left : List T) (slots : List (Option T)) → map in_place all ≡ map in_place left ++ reverse slots
      → length all ≡ length left + length slots
  moved_count all left slots so_far =
      omega (
        arith,
        ap length so_far,
        length-append (map in_place left) (reverse slots),
        length-map all in_place,
        length-map left in_place,
        length-reverse slots,
      )

  -- once no table is left
  all_moved : (all left : List T) (slots turned : List (Option T)) → map in_place all ≡ map in_place left ++ reverse slots
      → length left ≡ 0 → turned ≡ reverse slots → (turned ≡ map in_place all) × (left ≡ [])
  all_moved all [] slots turned so_far none is = (is ∙ sym so_far, refl)
  all_moved all (x ∷ left) slots turned so_far none is = absurd (omega (arith, none))

pub loop-preserved : goal.loop-preserved
loop-preserved g c =
    let so_far = c.loop.invariant in
    let slots = c.loop.slots.items in
    let step = moved_more c.args.tables.items c.loop.tables.items c.pop.new.self.items slots c.match-pop.slots.items c.pop.result c.loop.counter
    so_far.0 so_far.2 (omega (arith, c.loop-test.true, c.len-end.ensures, c.args.tables.ok.0)) c.pop.ensures.items
    (λ left. c.pop.ensures.variant.1 (omega (arith, left, c.loop.tables.ok.0)))
    (λ x is. elim c.match-pop.branch [
      | in-Some w ↦
          let same = same_Some w.in-Some.table x (sym w.in-Some.is ∙ is) in
          ap (λ v. v.items) w.slots-is ∙ w.push_reserved.ensures.items ∙ (λ t. slots ++ Some (same t) ∷ [])
      | in_default w ↦ absurd (w.in_default.not-Some x is)
    ]) in (
      step.0,
      c.pop.ensures.capacity ∙ so_far.1,
      step.1,
      elim c.match-pop.branch [
        | in-Some w ↦ ap vec_capacity w.slots-is ∙ w.push_reserved.ensures.capacity ∙ so_far.3
        | in_default w ↦ ap vec_capacity w.slots-is ∙ so_far.3
      ],
    )

pub returns-clause-moved : goal.returns-clause-moved
returns-clause-moved g c =
    let so_far = c.loop.invariant in
    let all = c.args.tables in
    let moved = all_moved all.items c.loop.tables.items c.loop.slots.items c.reverse.new.self.items so_far.0
    (omega (arith, so_far.2, c.loop-test.false, c.len-end.ensures, all.ok.0)) c.reverse.ensures.items in
    record { placed = moved.0; empty = moved.1; fits = omega (arith, so_far.1, all.ok.0, all.ok.1) }

pub loop-init : goal.loop-init
loop-init g c =
    let tables = map in_place c.args.tables.items in (
      sym (append-nil tables) ∙ ap (λ xs. tables ++ reverse xs) (sym c.in_ok-slots.ensures.items),
      refl,
      omega arith,
      omega (arith, c.in_ok-slots.ensures.exact, c.len.ensures, c.args.tables.ok.0),
    )

pub push_reserved-requires : goal.push_reserved-requires
push_reserved-requires g c =
    let so_far = c.loop.invariant in
    let moved = moved_count c.args.tables.items c.loop.tables.items c.loop.slots.items so_far.0 in
    omega (arith, c.loop.slots.ok.0, moved, so_far.2, so_far.3, c.loop-test.true, c.len-end.ensures, c.args.tables.ok.0)
