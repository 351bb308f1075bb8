use Rattle.version_tables.proofs.Common.{ap, ◌∙◌, map, IfOk-weaker, figures_of, lists_in, table_in, HistoriesView}
use Rattle.version_tables.proofs.lags.figures.Goals as goal

pub returns-clause-figures : goal.returns-clause-figures
returns-clause-figures g c =
    let tables = map (table_in g.H.Written.lists) c.args.tables.now in
    let beside = c.numbers_of.ensures c.args.tables.now c.requires (rw c.deref.ensures.value c.in_ok-cells.ensures.cells) in
    IfOk-weaker c.figures.result _ _
    (λ f all. all tables beside.are ∙ ap (λ (k : HistoriesView). figures_of k.rounds tables (lists_in k.lists)) beside.histories) c.figures.ensures.0
