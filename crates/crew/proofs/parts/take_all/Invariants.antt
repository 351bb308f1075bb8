use Rattle.std.proofs.Common.{◌≡◌, ◌≤◌, vec_capacity, vec_len}
use Rattle.crew.specs.Parts.{HoldsAnswers}
use Rattle.crew.proofs.parts.take_all.Given as goal

abbrev pub invariant-loop-place : goal.invariant-loop-place
invariant-loop-place g l = record {
  count : vec_len l.answers ≡ l.place;
  room : l.count ≤ vec_capacity l.answers;
  each : HoldsAnswers g.S.Parted.tells l.shared.divided.whole l.shared.divided.bounds.items l.answers.items;
}
