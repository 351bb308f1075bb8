use Rattle.round_plan.proofs.Common.{◌≡◌, ◌+◌, ◌<◌, ℕ, slice_index, length, word_at}
use Rattle.round_plan.proofs.words.next_words.Given as goal

abbrev pub invariant-loop-place : goal.invariant-loop-place
invariant-loop-place l =
    let first = l.initial.stream in
    (l.stream ≡ record first { word_pos = first.word_pos + l.place }) × (length l.words ≡ 16) × ((m : ℕ) → m < l.place → slice_index l.words m ≡ word_at 10 first.key first.stream (first.word_pos + m))
