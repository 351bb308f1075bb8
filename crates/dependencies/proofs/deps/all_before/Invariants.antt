use Rattle.std.specs.Prelude.{◌≡◌, ◌≤◌, length, vec_capacity, vec_len}
use Rattle.dependencies.proofs.Passes.{IsForward}
use Rattle.dependencies.proofs.deps.all_before.Given as goal

abbrev pub invariant-loop-i : goal.invariant-loop-i
invariant-loop-i l =
    record {
      so_far : IsForward l.exchanges l.nodes l.i l.last.items l.before.items;
      count : vec_len l.before ≡ l.i;
      room : length l.exchanges ≤ vec_capacity l.before;
    }
