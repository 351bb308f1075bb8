use Rattle.grids.proofs.Common.{ℕ, cond, rules, nat_lt, slice_index, map, if◌then◌else◌, inl, inr, arith, nat_tests, cases_lt, cell, Cells, IfOk-weaker, IsLeastBehind, IsLeastOf, number-at, each-turned}
use Rattle.grids.proofs.lags.least_behind.Goals as goal

-- of those behind the last ones
least_is-behind : (most : ℕ) (cells last : Cells) (keys owner least : ℕ)
    → IsLeastOf most (λ k. cond (nat_lt (cells owner k) (last owner k)) (cells owner k) most) keys least → IsLeastBehind most cells last keys owner least
least_is-behind most cells last keys owner least is = record {
  no_less = λ k lt behind. let at = is.no_less k lt in grind (arith, nat_tests);
  is = elim is.is [
    | inl all ↦ inl all
    | inr (k, lt, here) ↦ elim (cases_lt (cells owner k) (last owner k)) [
      | inl behind ↦ inr (k, lt, behind, grind (arith, nat_tests))
      | inr not_behind ↦ inl (grind (arith, nat_tests))
    ]
  ];
}

pub returns : goal.returns
returns g c =
    let number = g.N.Number.number in let most = g.N.Number.most in let cells = map number c.args.grid.cells.now in let last = map number c.args.last.now in
    let size = c.args.grid.size in
    IfOk-weaker c.least_of.result _ _ (λ v is. each-turned _ _ _ _ is (λ r. least_is-behind most (cell cells size.nodes) (cell last size.nodes) size.keys r))
    (c.least_of.ensures (λ at r. if nat_lt (slice_index cells at) (slice_index last at) then slice_index cells at else most)
    (λ at r n in_cells lt given. search (rules, number-at number c.args.grid.cells.now at, number-at number c.args.last.now at)))
