use Rattle.std.proofs.Common.{◌≡◌, ◌≤◌, vec_capacity, vec_len}
use Rattle.crew.proofs.parts.looks_of.Given as goal

abbrev pub invariant-loop-place : goal.invariant-loop-place
invariant-loop-place g l = record {
  count : vec_len l.jobs ≡ l.place;
  room : l.count ≤ vec_capacity l.jobs;
}
