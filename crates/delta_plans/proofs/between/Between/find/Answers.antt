use Rattle.delta_plans.proofs.Common.{◌≡◌, ℕ, false, true, ◌||◌, get_or, inl, inr, sym, ◌∙◌, arith, nat_tests, cases_eq, get_or_default, get_or-set_other, get_or-set_same, sum_next, ◌+◌, ◌<◌}
use Rattle.delta_plans.proofs.between.Between.find.Goals as goal

pub loop-i-preserved : goal.loop-i-preserved
loop-i-preserved g c =
    let has = get_or c.loop-i.found c.loop-i.i false || c.is_between.result in
    let here = get_or-set_same c.loop-i.found c.loop-i.i has true (omega (arith, c.loop-i-test.true, c.loop-i.auto.found)) in
    let other = λ (j : ℕ). get_or-set_other c.loop-i.found c.loop-i.i j has true in
    let told = get_or_default c.loop-i.found c.loop-i.i true false (omega (arith, c.loop-i-test.true, c.loop-i.auto.found)) in
    record {
      gone = λ j lt out. elim (cases_eq j c.loop-i.i) [
        | inl same ↦
            let none : has ≡ false = sym here ∙ (rw same at out) in
            rw same (sym (sum_next _ c.loop-key.key 0 0 (sym (c.loop-i.invariant.left c.loop-i.i (omega arith) (grind (arith, told, none))))
            (grind (arith, nat_tests, none, c.is_between.ensures, c.cell_of-cell.ensures, c.number_at-low.ensures, c.number_at-high.ensures))))
        | inr apart ↦ c.loop-i.invariant.gone j (omega (arith, lt, apart)) (sym (other j apart) ∙ out)
      ];
      left = λ j le out. c.loop-i.invariant.left j (omega (arith, le)) (sym (other j (λ e. omega (arith, e, le))) ∙ out);
    }

pub cell_of-cell-requires : goal.cell_of-cell-requires
cell_of-cell-requires g c =
    let within : c.args.first + c.loop-i.i < c.args.self.now.offer.now.grid.size.nodes =
    omega (arith, c.requires.within, c.loop-i-test.true, c.loop-i.auto.found, c.loop-key.auto.found) in
    record { owner = record { is_offer = c.requires.between.is_offer; in_nodes = within }; key = c.loop-key-test.true }
