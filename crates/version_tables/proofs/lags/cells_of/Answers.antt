use Rattle.version_tables.proofs.Common.{subst, arith, refl, take_all, IsKept}
use Rattle.std.proofs.lemmas.Grind.{common_steps}
use Rattle.std.proofs.lemmas.List.Elements.{All-more}
use Rattle.version_tables.proofs.lags.cells_of.Goals as goal

pub loop-table-preserved : goal.loop-table-preserved
loop-table-preserved g c =
    let kept = IsKept g.H.Written.lists in record {
      are = grind (arith, common_steps, c.loop-table.invariant.are, c.cells.ensures.value);
      kept = All-more kept c.args.tables.now c.loop-table.table-index c.table-item.result c.loop-table-test.true c.loop-table.invariant.kept
          (subst kept c.table-item.is c.cells.ensures.kept);
    }

pub returns-clause-cells : goal.returns-clause-cells
returns-clause-cells g c = rw (take_all c.loop-table.table-index c.args.tables.now c.loop-table-test.false) at c.loop-table.invariant

pub loop-table-init : goal.loop-table-init
loop-table-init g c = rw c.in_ok-cells.ensures.items (record { are = refl; kept = λ _ _ none. absurd (omega (arith, none)) })
