use Rattle.std.proofs.Common.{All, sym, subst}
use Rattle.model.specs.calls.OwnerListView.{lists_in}
use Rattle.model.specs.calls.Writes.{AreBornBy}
use Rattle.round_histories.specs.Histories.{HistoriesView, AreWrittenBy}
use Rattle.bench.proofs.Born.{lists_born}
use Rattle.bench.proofs.entry_histories.EntryHistoriesRoundHistoriesNodeTable.figures.Goals as goal

pub figures-requires-clause-born : goal.figures-requires-clause-born
figures-requires-clause-born g c κs within =
    subst (λ ls. All (AreBornBy c.self.inside.rounds) (lists_in ls)) (sym c.deref.ensures.value)
    (lists_born c.self.inside.rounds c.self.inside.lists.items (subst (λ (h : HistoriesView). AreWrittenBy h.rounds h.lists) (sym c.self.view_is) c.requires.ended.written_by))
