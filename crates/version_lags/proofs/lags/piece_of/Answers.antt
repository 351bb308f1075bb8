use Rattle.version_lags.proofs.Common.{◌≡◌, ◌+◌, ℕ, nat_lt, get_or, map, length, slice_index, sym, ap, ◌∙◌, subst, arith, Bor, eq-eqb, ltb-false, none-passes, length-map, with_items_is, IsGrid, total_of, numbers_seen, is_left}
use Rattle.version_lags.proofs.Parts.{counts-more, none_left, table-read}
use Rattle.version_lags.proofs.lags.piece_of.Goals as goal

pub loop-at-init : goal.loop-at-init
loop-at-init g c = c.in_ok-piece.ensures.0 c.args.from

pub count_behind-behind-requires : goal.count_behind-behind-requires
count_behind-behind-requires g c =
    let numbers = c.args.numbers.now in let read = table-read g.N.Number.number numbers c.requires.0 c.loop-at.at c.index-numbers-at.result (omega arith) in
    let last = length-map numbers.last.now g.N.Number.number in let least = length-map c.loop-at.piece.least.items g.N.Number.number in
    let count : length numbers.last.now ≡ length c.deref_mut.result.now = omega (arith, ap length c.deref_mut.ensures.value) in
    record {
      beside = record {
        beside = record { shape = subst (IsGrid _ numbers.keys) (last ∙ count) c.requires.0.grid; count = omega arith };
        last_count = count;
      };
    }

pub total_upto-requires : goal.total_upto-requires
total_upto-requires g c =
    let numbers = c.args.numbers.now in let read = table-read g.N.Number.number numbers c.requires.0 c.loop-at.at c.index-numbers-at.result (omega arith) in
    record {
      marked = record {
        shape = subst (IsGrid _ numbers.keys) (length-map numbers.last.now g.N.Number.number ∙ sym read.1) c.requires.0.grid;
        count = omega (arith, length-map numbers.bases.now g.N.Number.number);
      };
    }

pub loop-at-preserved : goal.loop-at-preserved
loop-at-preserved g c =
    let number = g.N.Number.number in let numbers = c.args.numbers.now in let v = numbers_seen number numbers in
    let read = table-read g.N.Number.number numbers c.requires.0 c.loop-at.at c.index-numbers-at.result (omega arith) in
    let grids = c.requires.0 in let piece = c.loop-at.piece in
    let here = map number (get_or numbers.cells.now c.loop-at.at c.index-numbers-at.result).now in
    let items = with_items_is piece.least c.count_behind-behind.new.least (c.count_behind-behind.auto.least ∙ c.deref_mut.ensures.len) in
    let stale = ap (λ n. piece.stale + n) (c.from.ensures ∙ c.count_behind-behind.ensures.count) in
    let changed = rw c.deref_mut.ensures.value at c.count_behind-behind.ensures.least in
    let step = λ (leftover : ℕ) (left : leftover ≡ piece.leftover + total_of v.nodes v.keys (is_left v here)).
    counts-more v grids c.args.from c.loop-at.at piece.stale piece.leftover _ leftover _ _ here c.loop-at.invariant read.0 stale left changed in
    elim c.if-forgot.branch [
      | goal.then-forgot w ↦ rw (w.piece-is, items) (step _ (ap (λ n. piece.leftover + n) (w.from-then-forgot.ensures ∙ w.total_upto.ensures)))
      | goal.else-forgot w ↦
          let whole = length-map numbers.bases.now number in let zero = eq-eqb c.count_held-forgot.result 0 (omega arith) in
          let none = (none-passes (λ r. nat_lt 0 (slice_index v.bases r)) _ _ _ c.count_held-forgot.ensures whole).0 zero in
          let left = none_left v grids here (λ r lt. omega (arith, ltb-false 0 (slice_index v.bases r) (none r (omega arith)))) in
          rw (w.piece-is, items) (step piece.leftover (omega arith))
    ]

pub bounds-numbers-at : goal.bounds-numbers-at
bounds-numbers-at g c = let cells = c.args.numbers.now.cells.now in omega (arith, length-map cells (λ (x : Bor _). map g.N.Number.number x.now))

pub returns : goal.returns
returns g c = let whole : c.loop-at.at ≡ c.args.to = omega arith in (rw whole at c.loop-at.invariant, tt)
