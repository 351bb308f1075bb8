use Rattle.version_tables.proofs.Common.{ℕ, sym, ◌∙◌, ◌*◌, ◌≤◌, inl, inr, subst, both_ways, amount_of, largest_share, total_above}
use Rattle.version_tables.proofs.merging.all_ahead_fits.Goals as goal

pub total_above-requires : goal.total_above-requires
total_above-requires g c =
    let grid = c.grid-grid.ensures in let high = c.greatest-else-surely_fit.ensures in record {
      marked = record {
        marks = record {
          shape = grid.shape;
          low_count = c.greatest.ensures.count ∙ sym c.requires.nodes ∙ sym grid.nodes;
          high_count = high.count ∙ sym grid.nodes;
        };
        covered = rw (grid.nodes, grid.keys, grid.cells, high.value) (λ owner lt key lt_k. (grid.kept.most.each owner lt).upto key lt_k);
      };
    }

pub returns-then-surely_fit : goal.returns-then-surely_fit
unfolding Rattle.version_tables.specs.inner.Merged.SurelyFits
returns-then-surely_fit g c =
    let fits = λ (n : ℕ). n * largest_share c.args.budget ≤ amount_of c.args.budget in
    (λ _. inl (subst fits c.requires.most (c.surely_fit.ensures.0 c.if-surely_fit.true)), λ _. c.if-surely_fit.true)

pub returns-else-surely_fit : goal.returns-else-surely_fit
unfolding Rattle.version_tables.specs.inner.Merged.SurelyFits
returns-else-surely_fit g c =
    let grid = c.grid-grid.ensures in let fits = λ (n : ℕ). n * largest_share c.args.budget ≤ amount_of c.args.budget in
    let count = c.total_above.ensures ∙ (λ i. total_above (grid.nodes i) (grid.keys i) (grid.cells i) (c.greatest.ensures.value i)) in (
      (λ yes. inr (subst fits count (c.surely_fit-else-surely_fit.ensures.0 yes))),
      (λ fit. elim fit [
        | inl few ↦ absurd (both_ways _ c.if-surely_fit.false (c.surely_fit.ensures.1 (subst fits (sym c.requires.most) few)))
        | inr counted ↦ c.surely_fit-else-surely_fit.ensures.1 (subst fits (sym count) counted)
      ]),
    )
