use Rattle.round_plan.proofs.Common.{arith, refl, get_or, next_version, ◌≡◌, ℕ, ◌+◌, ◌≤◌, ◌<◌, ◌++◌, ◌∷◌, [], List, All, length, take, map, if◌then◌else◌, true, subst, sym, ap, ◌∙◌, range_with_len, length-set, take_more_set, map-append, map-range_with_len_more, Entry, Settings}
use Rattle.round_plan.specs.declared.owners.OwnWrite.{OwnWrite}
use Rattle.round_plan.specs.Outages.{is_up}
use Rattle.round_plan.specs.Generations.{generation_upto}
use Rattle.round_plan.specs.Words.{word_of}
use Rattle.round_plan.specs.Writes.{number_by, writes_in, own_write_at, own_writes, numbered_write}
use Rattle.scenario.specs.declared.choices.Choice.{Choice}
use Rattle.scenario.specs.declared.choices.Choice.TheVariants.{Random, Cycle}
use Rattle.round_plan.specs.calls.Writes.{writes_before, born_in, AreWritesOf}
use Rattle.round_plan.proofs.Growth.{writes_upto-grown, keys-own_writes, keys-born_in}
use Rattle.round_plan.proofs.owners.writes_by.Goals as goal

-- a word matters only where writes are random
by_words : (way : Choice) (read word version : ℕ) → (way ≡ Random → read ≡ word) → number_by way read version ≡ number_by way word version
by_words Random read word version same = same refl
by_words Cycle read word version same = refl

pub loop-place-preserved : goal.loop-place-preserved
loop-place-preserved c =
    let s = c.args.scenario.now in
    let items = c.loop-place.items in
    let place = c.loop-place.place in
    let before = c.args.count_before in
    let round = c.args.round in
    let ours = own_write_at s c.args.node round before in
    let made = c.numbered_write.result in
    let generation = generation_upto s c.args.node round in
    let born = born_in round generation in
    let lt : place < length items = omega (arith, c.loop-place.invariant.0) in
    let number =
    c.numbers_by-numbers.ensures.1 place (omega arith)
    ∙ ap (λ way. number_by way (get_or c.args.words.now (8 + place) 0) (next_version (before + place))) c.choice.ensures
    ∙ by_words s.choice _ (word_of s c.args.node round (8 + place)) _ (λ random. (c.requires.words random).value (8 + place) (omega arith)) in
    let write : born made ≡ ours place = c.numbered_write.ensures.value round generation ∙ (λ i. numbered_write (c.keys-keys.ensures.value i) round generation (number i) (before + place)) in (
      length-set items place made ∙ c.loop-place.invariant.0,
      ap (map born) (take_more_set items place made lt)
          ∙ map-append born (take place items) (made ∷ [])
          ∙ (λ i. c.loop-place.invariant.1 i ++ write i ∷ [])
          ∙ sym (map-range_with_len_more ours 0 place place (omega arith)),
    )

-- what is left of these writes without their round and generation
are_writes : (s : Settings) (node round before : ℕ) (ws : List OwnWrite) → 1 ≤ s.keys → 1 ≤ round → map (born_in round (generation_upto s node round)) ws ≡ own_writes s node round before → AreWritesOf s node round before ws
are_writes s node round before ws some first value = record {
  value = value;
  keys =
      keys-born_in s.keys round (generation_upto s node round) ws
      (subst (All (λ (e : Entry). e.key < s.keys)) (sym value) (keys-own_writes s node round before some));
  grows = λ is. writes_upto-grown s node round before first is ∙ ap (λ es. writes_before s node round ++ es) (sym value);
}

pub returns : goal.returns
returns c =
    let s = c.args.scenario.now in
    let ours = own_write_at s c.args.node c.args.round c.args.count_before in
    let all : c.loop-place.place ≡ c.writes_in-count.result = omega arith in
    let up : is_up s c.args.node c.args.round ≡ true = sym c.is_up.ensures ∙ c.if-not-is_up.false in
    let some : 1 ≤ s.keys = subst (λ k. 1 ≤ k) c.keys-keys.ensures.value c.keys-keys.ensures.limits.0 in
    are_writes s c.args.node c.args.round c.args.count_before _ some c.requires.first
    (subst (λ n. map (born_in c.args.round (generation_upto s c.args.node c.args.round)) (take n c.loop-place.items) ≡ map ours (range_with_len 0 n)) all c.loop-place.invariant.1
    ∙ ap (λ n. map ours (range_with_len 0 n)) c.writes_in-count.ensures.value
    ∙ ap (λ b. if b then map ours (range_with_len 0 (writes_in s c.args.round)) else []) (sym up))
