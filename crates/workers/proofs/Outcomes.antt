-- What a call comes to that may lack memory, from what another came to.
-- Serves `Posts::carry_out` and `share`.
use Rattle.workers.proofs.Common.{◌≡◌, Result, Ok, IfOk, refl, sym, ap, subst, ◌∙◌, Fault, OutOfMemory}
use Rattle.std.specs.Prelude.{Err, IsOkUnless}
use Rattle.std.specs.declared.option.Option.{Option}
use Rattle.std.specs.Option.{ok_or}
use Rattle.std.specs.Result.{result_ok}
use Rattle.workers.specs.inner.Outcomes.{ComesTo}

module _ {A : Type 0} where
  pub where_done : {P Q : A → Type 0} (result : Result A Fault) → ((a : A) → P a → Q a) → ComesTo result P → IfOk result Q
  where_done (Ok a) turns comes = turns a comes
  where_done (Err _) turns comes = tt

  pub only_memory : (P : A → Type 0) (result : Result A Fault) → ComesTo result P → IsOkUnless result OutOfMemory
  only_memory P (Ok _) comes = tt
  only_memory P (Err _) comes = comes

  -- another error in place of the one that it came with
  pub or_memory : {E : Type 0} (Q : A → Type 0) {P : A → Type 0} (made : Result A E) (kept : Option A) (result : Result A Fault)
      → kept ≡ result_ok made → result ≡ ok_or kept OutOfMemory → ((a : A) → P a → Q a) → IfOk made P → ComesTo result Q
  or_memory Q (Ok a) kept result once twice turns is =
      subst (λ r. ComesTo r Q) (sym (twice ∙ ap (λ k. ok_or k OutOfMemory) once)) (turns a is)
  or_memory Q (Err _) kept result once twice turns is = subst (λ r. ComesTo r Q) (sym (twice ∙ ap (λ k. ok_or k OutOfMemory) once)) refl
