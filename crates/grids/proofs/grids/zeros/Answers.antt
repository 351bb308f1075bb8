use Rattle.grids.proofs.Common.{◌≡◌, ℕ, ◌-◌, replicate, sym, ap, ◌∙◌, arith, map, get_or-map, get_or-replicate, length-map, length-replicate, map-append, take_all, vec_len}
use Rattle.std.proofs.lemmas.List.Elements.{All-append}
use Rattle.grids.proofs.grids.zeros.Goals as goal

pub loop-filled-preserved : goal.loop-filled-preserved
loop-filled-preserved g c =
    let number = g.N.Number.number in let old = c.loop-filled.numbers in let z = c.zero.result in let n : ℕ = c.min-filled.result - vec_len old in
    let more = replicate n z in let size = length-map more number ∙ length-replicate n z in
    record {
      size = sym c.resize.new.self.ok.0 ∙ c.in_ok-resize.ensures.len;
      within = omega arith;
      each = rw (c.in_ok-resize.ensures.items, take_all c.min-filled.result old.items (omega (arith, old.ok.0)), map-append)
          (All-append (λ n. n ≡ 0) (map number old.items) (map number more) c.loop-filled.invariant.each (λ i d lt.
          get_or-map number more i z d (omega (arith, length-replicate n z)) ∙ ap number (get_or-replicate n i z z (omega arith)) ∙ c.zero.ensures));
    }

pub returns : goal.returns
returns g c =
    let all = c.loop-filled.invariant in let size = length-map c.loop-filled.numbers.items g.N.Number.number in
    record { size = omega arith; each = λ r lt. all.each r 0 (omega arith) }
