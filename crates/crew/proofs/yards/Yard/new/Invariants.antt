use Rattle.std.proofs.Common.{◌≡◌, ◌≤◌, vec_capacity, vec_len}
use Rattle.crew.proofs.yards.Yard.new.Given as goal

abbrev pub invariant-loop : goal.invariant-loop
invariant-loop g l = record {
  count : vec_len l.posts ≡ l.counter;
  room : l.threads ≤ vec_capacity l.posts;
}
