use Rattle.std.proofs.Common.{◌≡◌, Result, Ok, Err, IfOk, ok_or, arith, ap, ◌∙◌}
use Rattle.std.specs.Arc.{arc_value}
use Rattle.std.specs.Result.{result_ok}
use Rattle.crew.proofs.parts.share.Goals as goal

-- what a value has that is there is had where the error is another
had : {A B E F : Type 0} (value : A → B) (b : B) {Q : A → Type 0} → (r : Result A E) (e : F) → IfOk r (λ a. value a ≡ b)
    → ((a : A) → value a ≡ b → Q a) → IfOk (ok_or (result_ok r) e) Q
had value b (Ok a) e has so = so a has
had value b (Err _) e has so = tt

pub returns : goal.returns
returns g c =
    let same = c.ok_or.ensures.value ∙ ap (λ o. ok_or o _) c.ok.ensures.value in
    record {
      shared = rw same (had arc_value _ _ _ c.new-2.ensures.ok (λ arc is. rw is (record {
        may_each = c.requires.may;
        labelled = ap (λ l. l.0.value) c.in_ok-trays.ensures.label ∙ c.of.ensures;
        one_each = omega (arith, c.in_ok-trays.ensures.count, c.len.ensures, c.requires.some, c.args.divided.bounds.ok.0);
      })));
      divided = rw same (had arc_value _ _ _ c.new-2.ensures.ok (λ arc is. ap (λ s. s.divided) is));
    }
