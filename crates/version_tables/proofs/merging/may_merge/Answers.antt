use Rattle.version_tables.proofs.merging.may_merge.Goals as goal

pub are_current-requires : goal.are_current-requires
are_current-requires g c = c.requires

pub all_fits-requires-clause-nodes : goal.all_fits-requires-clause-nodes
all_fits-requires-clause-nodes g c = c.requires.nodes

pub all_fits-requires-clause-keys : goal.all_fits-requires-clause-keys
all_fits-requires-clause-keys g c = c.requires.keys
