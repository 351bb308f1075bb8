use Rattle.version_tables.proofs.carrying.HistoriesRoundHistoriesVersionTable.figures_by.Goals as goal

pub figures-requires-clause-ended : goal.figures-requires-clause-ended
figures-requires-clause-ended g c = rw c.deref.ensures.value c.requires.ended

pub figures_in_parts-requires-clause-ended : goal.figures_in_parts-requires-clause-ended
figures_in_parts-requires-clause-ended g c = c.requires.ended
