use Rattle.round_plan.proofs.Common.{◌≡◌, ◌++◌, ◌%◌, ◌^◌, replicate, ap, ◌∙◌, arith, w64, to_le_bytes, ChaCha, key_of}
use Rattle.round_plan.specs.Words.{position, seed_bytes}
use Rattle.round_plan.proofs.words.stream_at.Goals as goal

pub returns : goal.returns
unfolding seed_bytes
returns c =
    let bytes = c.copy_from_slice.ensures.after ∙ c.to_le_bytes.ensures ∙ ap (to_le_bytes w64) c.seed.ensures.value in
    let place : c.from-2.result % 2 ^ 68 ≡ position c.args.round c.args.place = omega arith in
    c.set_word_pos.ensures ∙ (λ i. record {
      key = (ap (λ (g : ChaCha). g.key) c.set_stream.ensures ∙ ap (λ (g : ChaCha). g.key) c.from_seed-stream.ensures ∙ ap (λ b. key_of (b ++ replicate 24 0)) bytes) i;
      stream = (ap (λ (g : ChaCha). g.stream) c.set_stream.ensures ∙ c.from.ensures) i;
      word_pos = place i;
    })
