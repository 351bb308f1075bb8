use Rattle.owner_lists.proofs.Common.{◌≡◌, find, drop, map, write_of_entry, entry_kept, is_write_of}
use Rattle.owner_lists.proofs.lists.first_from.Given as goal

abbrev pub invariant-loop-at : goal.invariant-loop-at
invariant-loop-at l = find (is_write_of l.key) (drop l.from (map write_of_entry (map entry_kept l.writes))) ≡ find (is_write_of l.key) (drop l.at (map write_of_entry (map entry_kept l.writes)))
