-- What a source gave up to a pull, and then by that pull; and what reading a scenario comes to.
-- Serves `check_input`, `read_all`, `write_all`, `write_comparison` and `write_run`.
use Rattle.runs.proofs.Common.{◌≡◌, ◌≢◌, ◌<◌, ◌≤◌, ◌+◌, ◌++◌, ◌∙◌, ℕ, Bool, true, false, List, Option, None, Some, Result, Ok, Err, IfSome, IfOk, IfErr, inl, inr, length, take, arith, ap, refl, sym, subst, length-append, IsErrAnd, IsSomeAnd, OnOk, length-take-le, take-append-le, append-nil, [], Consumes-all, Consumes-trans, IsAtEnd, Consumes, Fault, OutOfMemory, document_of, first_fault, Says, IsFaultOfCheck, Settings}
use Rattle.bench_types.specs.declared.sources.Source.{Ghosts as Source}
use Rattle.runs.specs.Inputs.{Gave, GaveUpTo, IsReadWhole, IsRead, IsInputFault}

-- a pull of `count` bytes adds that many
pub gave_more : {R : Type 0} (source : Source R) (old now new : R) (text chunk : List ℕ) (count : ℕ)
    → Consumes (source.left old) (source.left now) text → Consumes (source.left now) (source.left new) (take count chunk) → count ≤ length chunk
    → Gave source old new (length text + count)
gave_more source old now new text chunk count so_far more bound = (
  text ++ take count chunk,
  Consumes-trans (source.left old) (source.left now) (source.left new) text (take count chunk) so_far more,
  length-append
      text (take count chunk) ∙ ap (λ n. length text + n) (length-take-le count chunk bound),
)

-- what was given is at most anything above its number
pub gave_up_to : {R : Type 0} (source : Source R) (old new : R) (n most : ℕ) → Gave source old new n → n ≤ most → GaveUpTo source old new most
gave_up_to source old new n most gave bound = let number = gave.2 in (gave.0, gave.1, omega arith)

-- who gave more than a text may have had more than that
pub had_more : (old new : Option (List ℕ)) (bytes : List ℕ) (most : ℕ) → Consumes old new bytes → length bytes ≡ most + 1
    → IfSome old (λ all. most < length all)
had_more None new bytes most given size = tt
had_more (Some all) None bytes most given size = absurd given
had_more (Some all) (Some rest) bytes most given size = omega (arith, length-append bytes rest, ap length given)

only_false : (b : Bool) → (b ≡ true → ⊥) → b ≡ false
only_false true never = absurd (never refl)
only_false false never = refl

-- who hasn't failed at the last pull hadn't at the first
pub never_failed : {R : Type 0} (source : Source R) (old now : R) → (source.failed old ≡ true → now ≡ old) → (source.failed now ≡ true → false ≡ true)
    → source.failed old ≡ true → ⊥
never_failed source old now stays sound failed =
    let no : false ≡ true = sound (subst (λ r. source.failed r ≡ true) (sym (stays failed)) failed) in
    cc

pub was_sound : {R : Type 0} (source : Source R) (old now : R) → (source.failed old ≡ true → now ≡ old) → (source.failed now ≡ true → false ≡ true)
    → source.failed old ≡ false
was_sound source old now stays sound = only_false (source.failed old) (never_failed source old now stays sound)

-- what a pull gave stands in front of what was in the chunk
pub pushed : {R : Type 0} (source : Source R) (old now new : R) (text more buf rest : List ℕ) (count : ℕ)
    → Consumes (source.left old) (source.left now) text → Consumes (source.left now) (source.left new) (take count buf) → count ≤ length buf
    → more ≡ text ++ take count (buf ++ rest) → Consumes (source.left old) (source.left new) more × (length more ≡ length text + count)
unfolding gave_more
pushed source old now new text more buf rest count so_far given bound is =
    let same : text ++ take count buf ≡ more = ap (λ part. text ++ part) (sym (take-append-le count buf rest bound)) ∙ sym is in
    let gave = gave_more source old now new text buf count so_far given bound in
    (subst (Consumes (source.left old) (source.left new)) same gave.1, ap length (sym same) ∙ gave.2)

-- a pull of no byte at the end ends the text
pub ended : {R : Type 0} (source : Source R) (old now new : R) (text buf : List ℕ) (count : ℕ)
    → Consumes (source.left old) (source.left now) text → Consumes (source.left now) (source.left new) (take count buf) → count ≡ 0
    → IsAtEnd (source.left new) → Consumes (source.left old) (source.left new) text × IfSome (source.left old) (λ bytes. text ≡ bytes)
ended source old now new text buf count so_far given none at_end =
    let whole : Consumes (source.left old) (source.left new) text =
    subst (Consumes (source.left old) (source.left new)) (ap (λ n. text ++ take n buf) none ∙ append-nil text)
    (Consumes-trans (source.left old) (source.left now) (source.left new) text (take count buf) so_far given) in
    (whole, Consumes-all (source.left old) (source.left new) text [] text whole at_end refl)

-- what holds of a fault that is handed on
pub at_fault : {A : Type 0} (r : Result A Fault) (fault : Fault) (P : Fault → Type 0) → IsErrAnd r (λ handed. handed ≡ fault) → P fault → IfErr r P
at_fault (Ok x) fault P is holds = tt
at_fault (Err handed) fault P is holds = subst P (sym is) holds

-- the check of a text that was read whole accepts it, or comes to its fault
module _ {R : Type 0} (source : Source R) (old new : R) (text : List ℕ) (whole : IsReadWhole source old new text) where
  pub accepted : (answer : Result Settings Fault) → IfOk answer (λ s. IsSomeAnd (document_of text) (λ table. Says table s))
      → OnOk answer (first_fault (document_of text) ≡ None)
      → IfOk answer (λ s. IsRead source old new (Ok s))
  accepted (Ok s) says no_fault = record { text = text; whole = whole; says = says; no_fault = no_fault; first = tt }
  accepted (Err fault) says no_fault = tt

  refused : (fault : Fault) → IsFaultOfCheck fault → fault ≢ OutOfMemory → (fault ≢ OutOfMemory → first_fault (document_of text) ≡ Some fault)
      → IsInputFault source old new fault
  refused fault of_check other first = inr (record {
    of_check = of_check;
    not_memory = other;
    read = record { text = text; whole = whole; says = tt; no_fault = tt; first = first other };
  })

  pub fault_of_check : (answer : Result Settings Fault) → IfErr answer IsFaultOfCheck
      → IfErr answer (λ fault. fault ≢ OutOfMemory → first_fault (document_of text) ≡ Some fault) → IfErr answer (IsInputFault source old new)
  fault_of_check (Ok s) of_check first = tt
  fault_of_check (Err OutOfMemory) of_check first =
      inl (record { given = (text, whole.given, whole.within); sound = whole.sound; was_sound = whole.was_sound })
  fault_of_check (Err fault) of_check first = refused fault of_check (λ e. cc e) first
