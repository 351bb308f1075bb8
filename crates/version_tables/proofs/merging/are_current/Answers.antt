use Rattle.version_tables.proofs.Common.{ℕ, ◌≡◌, ◌<◌, ◌&&◌, false, nat_le, nat_lt, map, slice_index, refl, arith, eq-eqb, nat_tests, bases_in, none-passes}
use Rattle.version_tables.proofs.merging.are_current.Goals as goal

-- no number is of an earlier generation where there is none
none-current : (x base : ℕ) → base ≡ 0 → (nat_lt 0 x && nat_le x base) ≡ false
none-current x base none = grind (arith, nat_tests)

pub returns-then-count_held-eq0 : goal.returns-then-count_held-eq0
returns-then-count_held-eq0 g c =
    let bases = map g.N.Number.number c.bases-bases.result.now in
    let none_held = (none-passes (λ r. nat_lt 0 (slice_index bases r)) _ _ _ c.count_held.ensures refl).0 (eq-eqb _ _ c.if-count_held-eq0.true) in
    let none : (owner : ℕ) → owner < c.args.initiator.now.nodes → bases_in c.args.histories.now.lists owner ≡ 0 =
    λ owner lt.
    let is = c.bases-bases.ensures.each.each owner (omega (arith, lt, c.requires.first.nodes)) in
    let no_base = none_held owner (omega (arith, lt, c.requires.first.nodes, c.bases-bases.ensures.count)) in grind (arith, nat_tests) in
    (λ _. (λ owner lt. none-current _ _ (none owner lt), λ owner lt. none-current _ _ (none owner (omega (arith, lt, c.requires.nodes)))), λ _. refl)
