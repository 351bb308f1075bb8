-- The streams of all nodes, as they go on from round to round.
-- Serves `RunWords::next_round`, `RunWords::of_round`, `draw_next`, `parts_before` and `words_of`.
use Rattle.round_plan.proofs.Common.{◌≡◌, ℕ, ◌+◌, ◌<◌, ◌≤◌, ◌++◌, ◌∷◌, [], List, cases_lt, inl, inr, length, length-append, sym, take, drop, get_or, append-nil, ap, ◌∙◌, arith, drop_all, take_all, MOST_ROUNDS, ChaCha, word_at, key_of}
use Rattle.std.proofs.lemmas.List.{get_or_append_left, get_or_push}
use Rattle.round_plan.specs.declared.run_words.NodeWords.{NodeWords}
use Rattle.round_plan.specs.declared.words.TheConstants.{ROUND_WORDS}
use Rattle.round_plan.specs.Words.{position, seed_bytes, word_by}
use Rattle.round_plan.specs.calls.Words.{AreWordsOf}
use Rattle.round_plan.specs.inner.Streams.{stream_of, AreNextWords, HasDrawn, HaveDrawn, StandBefore, ArePartsOf}

-- the words that come next in a node's stream at the begin of a round are those of the round
pub words_next : (seed node round : ℕ) (stream : ChaCha) (words : List ℕ) → stream ≡ stream_of seed node round 0 → AreNextWords stream words → AreWordsOf seed
    node round words
unfolding word_by
words_next seed node round stream words is next = record {
  count = next.count;
  value = λ place lt.
      let e : position round 0 + place ≡ position round place = omega arith in
      next.value place lt
      ∙ ap (λ (g : ChaCha). word_at 10 g.key g.stream (g.word_pos + place)) is
      ∙ ap (word_at 10 (key_of (seed_bytes seed)) node) e;
}

-- what is lent whole comes back whole
pub back : {X : Type 0} (n : ℕ) (xs ys : List X) → length ys ≡ length xs → n ≡ length xs → take n (ys ++ drop (length ys) xs) ≡ ys
back n xs ys same len =
    ap (λ rest. take n (ys ++ rest)) (drop_all (length ys) xs (omega (arith, same)))
    ∙ ap (take n) (append-nil ys)
    ∙ take_all n ys (omega (arith, same, len))

-- one more part stands there too
pub stand_more : (seed round node : ℕ) (parts : List NodeWords) (p : NodeWords) → length parts ≡ node → StandBefore seed round parts
    → p.stream ≡ stream_of seed node round 0 → StandBefore seed round (parts ++ p ∷ [])
stand_more seed round node parts p count before is n d lt = elim (cases_lt n (length parts)) [
  | inl less ↦ ap (λ (q : NodeWords). q.stream) (get_or_append_left parts (p ∷ []) d n less) ∙ before n d less
  | inr last ↦
      let at : length parts ≡ n = omega (arith, last, lt, length-append parts (p ∷ [])) in
      ap (λ (q : NodeWords). q.stream) (get_or_push parts p d n at) ∙ is ∙ ap (λ m. stream_of seed m round 0) (sym count ∙ at)
]

-- the parts below a place have drawn
pub record HaveDrawnUpto (old new : List NodeWords) (i : ℕ) : Type 0 where
  pub count : length new ≡ length old
  pub done : (k : ℕ) (d : NodeWords) → k < i → k < length old → HasDrawn (get_or old k d) (get_or new k d)
  pub rest : (k : ℕ) (d : NodeWords) → i ≤ k → get_or new k d ≡ get_or old k d

-- where they have the words of a round next, they then stand in it
pub parts_next : (seed round : ℕ) (old new : List NodeWords) → 1 ≤ round → round ≤ MOST_ROUNDS → StandBefore seed round old → HaveDrawn old new → ArePartsOf
    seed round new
parts_next seed round old new first last before drawn = record {
  last = last;
  each = λ node d lt.
      let within : node < length old = omega (arith, lt, drawn.count) in
      let was = before node d within in
      let has = drawn.each node d within in
      let e : position round 0 + ROUND_WORDS ≡ position (round + 1) 0 = omega (arith, first) in
      record {
        stream =
            has.stream
            ∙ ap (λ (g : ChaCha). record g { word_pos = g.word_pos + ROUND_WORDS }) was
            ∙ ap (λ at. record { key = key_of (seed_bytes seed); stream = node; word_pos = at }) e;
        words = λ _. words_next seed node round (get_or old node d).stream (get_or new node d).words was has.words;
      };
}
