use Rattle.board.proofs.Common.{arith, ap, sym, ◌∙◌, ◌∷◌, ◌++◌, [], ◌≡◌, ◌<◌, length, vec_capacity, take, set, get_or, get_or-set_same, get_or-set_other, false, inl, inr, ℕ, suc, ◌+◌, cases_eq, slots_filled, slots_counts, length_push, length-map, take_all, in_place, subst, refl, ◌≤◌, same_Some, get_elem?}
use Rattle.board.proofs.Filling.{taken_next}
use Rattle.board.proofs.boards.all_out.Goals as goal
use Rattle.board.proofs.boards.all_out.Goals.{in-Some, in_default}

pub loop-i-preserved : goal.loop-i-preserved
loop-i-preserved g c =
    let i = c.loop-i.i in
    let inv = c.loop-i.invariant in
    let next : suc i ≡ i + 1 = omega arith in
    let filled = slots_filled c.loop-i.closed.slots in
    let within : i < length filled = omega (arith, (slots_counts c.loop-i.closed.slots).1, inv.3) in
    let gone : (k : ℕ) → get_or (slots_filled c.take.new.self.slots) k false ≡ get_or (set filled i false) k false = λ k. ap (λ fs. get_or fs k false) c.take.ensures.others.1 in (
      λ k from below. gone k ∙ get_or-set_other filled i k false false (λ e. omega (arith, e, from)) ∙ inv.0 k (omega (arith, from)) (omega (arith, below, c.take.ensures.others.2)),
      λ k below. gone k ∙ elim (cases_eq k i) [
        | inl here ↦ ap (λ j. get_or (set filled i false) j false) here ∙ get_or-set_same filled i false false within
        | inr other ↦ get_or-set_other filled i k false false other ∙ inv.1 k (omega (arith, below, other))
      ],
      c.take.ensures.others.0 ∙ inv.2,
      c.take.ensures.others.2 ∙ inv.3,
      elim c.match-take.branch [
        | in-Some w ↦ omega (arith, inv.4, ap (λ r. length r.items) w.room-is, ap length w.push_reserved.ensures.items, length_push c.loop-i.room.items w.in-Some.table)
        | in_default w ↦ omega (arith, inv.4, ap (λ r. length r.items) w.room-is)
      ],
      elim c.match-take.branch [
        | in-Some w ↦ ap vec_capacity w.room-is ∙ w.push_reserved.ensures.capacity ∙ inv.5
        | in_default w ↦ ap vec_capacity w.room-is ∙ inv.5
      ],
      λ kept is.
          let there = taken_next kept i c.take.result (ap (λ xs. get_elem? xs i) (sym (inv.2 ∙ is)) ∙ c.take.ensures.value) in
          elim c.match-take.branch [
            | in-Some w ↦
                let same : w.in-Some.table ≡ there.0 = same_Some w.in-Some.table there.0 (sym w.in-Some.is ∙ there.1) in
                ap (λ r. r.items) w.room-is ∙ w.push_reserved.ensures.items ∙ (λ t. inv.6 kept is t ++ same t ∷ []) ∙ sym there.2 ∙ ap (λ (n : ℕ). take n kept) next
            | in_default w ↦ absurd (w.in_default.not-Some there.0 there.1)
          ],
    )

pub loop-i-init : goal.loop-i-init
loop-i-init g c =
    let bare = c.requires.room.1 in
    (c.requires.room.0, λ k below. absurd (omega (arith, below)), refl, refl, omega (arith, ap length bare), refl, λ kept is. bare)

pub take-requires : goal.take-requires
take-requires g c =
    let inv = c.loop-i.invariant in
    let within = subst (λ n. c.loop-i.i < n) (c.slot_count-i-end.ensures ∙ sym inv.3) c.loop-i-test.true in
    (within, inv.0 c.loop-i.i (omega arith) within)

pub push_reserved-requires : goal.push_reserved-requires
push_reserved-requires g c =
    let inv = c.loop-i.invariant in
    omega (arith, c.loop-i.room.ok.0, inv.4, inv.5, c.loop-i-test.true, c.slot_count-i-end.ensures, c.requires.room.2)

pub free-requires : goal.free-requires
free-requires g c = λ k below.
    let inv = c.loop-i.invariant in
    inv.1 k (omega (arith, below, inv.3, c.loop-i-test.false, c.slot_count-i-end.ensures))

pub returns : goal.returns
returns g c = λ kept is.
    let inv = c.loop-i.invariant in
    let all : length kept ≤ c.loop-i.i =
    omega (arith, c.loop-i-test.false, c.slot_count-i-end.ensures, ap length is, length-map kept in_place, (slots_counts c.args.closed.slots).0) in
    inv.6 kept is ∙ take_all c.loop-i.i kept all
