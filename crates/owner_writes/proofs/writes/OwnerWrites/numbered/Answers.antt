use Rattle.owner_writes.proofs.Common.{◌≡◌, suc, List, map, Some, None, sym, ap, ◌∙◌, arith, MatchOption, IsGetResult, Entry, write_numbered, entries_of, entry_kept, slice_get-get_or, slice_get_past, get_or-map, length-map}
use Rattle.owner_writes.proofs.Keeping.{entries_whole}
use Rattle.owner_writes.proofs.Numbers.{numbered-kept}
use Rattle.owner_writes.proofs.writes.OwnerWrites.numbered.Goals as goal

pub returns : goal.returns
returns c =
    let w = c.self.inside in
    let xs = c.deref.result.now in
    let place = c.in_ok-place.place in
    let number = c.args.number in
    let next : suc place ≡ number = omega (arith, c.in_ok-place.ensures.0, c.in_ok-place.ensures.1) in
    let all = sym (ap (map entry_kept) c.deref.ensures.value ∙ sym (entries_whole w.kept.items w.earlier w.generation) ∙ ap entries_of c.self.view_is) in
    let whole = ap (λ (es : List Entry). write_numbered es number) all ∙ numbered-kept xs place number next in
    let here = write_numbered (entries_of c.args.self.now) number in
    elim c.get.result as (λ r. IsGetResult xs place place r → MatchOption r (here ≡ None) (λ kept. here ≡ Some (entry_kept kept.now))) [
      | None ↦ λ found. whole ∙ slice_get_past (map entry_kept xs) place (omega (arith, found.3, length-map xs entry_kept))
      | Some x ↦ λ found.
          whole ∙ slice_get-get_or (map entry_kept xs) place (entry_kept x.now) (omega (arith, found.3.0, length-map xs entry_kept))
          ∙ ap Some (get_or-map entry_kept xs place x.now (entry_kept x.now) found.3.0 ∙ ap entry_kept (sym found.1))
    ] c.get.ensures.lookup
