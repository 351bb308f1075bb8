use Rattle.std.proofs.Common.{◌≡◌, arith, ap, ◌∙◌, subst}
use Rattle.crew.specs.Parts.{HoldsAnswers}
use Rattle.crew.proofs.parts.look_in_parts.Goals as goal

pub returns : goal.returns
returns g c =
    let looked : c.deref.result.now.divided ≡ c.args.divided = ap (λ s. s.divided) c.deref.ensures ∙ c.in_ok-shared.ensures.divided in
    record {
      whole = ap (λ s. s.divided.whole) c.alone-whole.ensures ∙ ap (λ d. d.whole) c.in_ok-shared.ensures.divided;
      one_each = omega (arith, c.take_all-answers.ensures.count, c.len-count.ensures, c.requires.some, c.args.divided.bounds.ok.0);
      each = subst (λ d. HoldsAnswers g.S.Parted.tells d.whole d.bounds.items c.take_all-answers.result.items) looked c.take_all-answers.ensures.each;
    }

pub looks_of-requires-clause-shared : goal.looks_of-requires-clause-shared
looks_of-requires-clause-shared g c = c.in_ok-shared.ensures.shared

pub looks_of-requires-clause-within : goal.looks_of-requires-clause-within
looks_of-requires-clause-within g c = rw c.in_ok-shared.ensures.divided (omega (arith, c.len-count.ensures, c.requires.some))

pub share-requires-clause-may : goal.share-requires-clause-may
share-requires-clause-may g c = c.requires.may

pub take_all-answers-requires-clause-shared : goal.take_all-answers-requires-clause-shared
take_all-answers-requires-clause-shared g c = rw c.deref.ensures c.in_ok-shared.ensures.shared

pub take_all-answers-requires-clause-within : goal.take_all-answers-requires-clause-within
take_all-answers-requires-clause-within g c =
    rw c.deref.ensures (rw c.in_ok-shared.ensures.divided (omega (arith, c.len-count.ensures, c.requires.some)))

pub take_all-answers-requires-clause-empty : goal.take_all-answers-requires-clause-empty
take_all-answers-requires-clause-empty g c = c.in_ok-answers.ensures.len

pub take_all-answers-requires-clause-room : goal.take_all-answers-requires-clause-room
take_all-answers-requires-clause-room g c = c.in_ok-answers.ensures.capacity
