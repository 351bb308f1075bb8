-- The lists of all owners: the n-th write of a node's generation stands at place n, from 1, with its key, version and
-- round. Source: this project.
use Rattle.std.specs.Prelude.{ℕ, List, map}
use Rattle.std.specs.List.{range_with_len}
use Rattle.round_plan.specs.Writes.{writes_upto}
use Rattle.scenario.specs.Settings.{Settings}
use Rattle.model.specs.declared.writes.Write.{Write}
use Rattle.model.specs.Writes.{write_of_entry}

-- the list of an owner after a round
abbrev pub list_after : Settings → ℕ → ℕ → List Write
list_after s round n = map write_of_entry (writes_upto s n round)

abbrev pub lists_after : Settings → ℕ → List (List Write)
lists_after s round = map (list_after s round) (range_with_len 0 s.nodes)
