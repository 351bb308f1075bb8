use Rattle.scenario.proofs.Common.{◌≡◌, ℕ, Bool, true, false, List, Option, None, cond, IsUtf8, refl, arith, ◌∙◌, is_utf8, IsUtf8-from_is_utf8, is_utf8-from_IsUtf8, parse_document}
use Rattle.scenario.specs.Order.{document_of}
use Rattle.scenario.proofs.texts.document.Goals as goal

-- The document of some bytes, by whether they are UTF-8.
document_of-text : (bytes : List ℕ) → IsUtf8 bytes → document_of bytes ≡ parse_document bytes
document_of-text bytes text = rw (is_utf8-from_IsUtf8 bytes text)

unless : {A : Type 0} (b : Bool) (x : Option A) → ¬ (b ≡ true) → cond b x None ≡ None
unless true x fails = absurd (fails refl)
unless false x fails = refl

document_of-no_text : (bytes : List ℕ) → ¬ IsUtf8 bytes → document_of bytes ≡ None
document_of-no_text bytes fails = unless (is_utf8 bytes) (parse_document bytes) (λ e. fails (IsUtf8-from_is_utf8 bytes e))

pub returns-in-Err-clause-refused : goal.returns-in-Err-clause-refused
returns-in-Err-clause-refused c _ = (refl, document_of-no_text c.args.bytes.now c.in-Err.ensures.cases.0)

pub returns-in-Ok-table_from_str-clause-ok : goal.returns-in-Ok-table_from_str-clause-ok
returns-in-Ok-table_from_str-clause-ok c =
    let text = c.in-Ok.ensures.cases in
    document_of-text c.args.bytes.now text.1 ∙ rw text.0 at c.in-Ok-table_from_str.ensures.ok

pub returns-in-Err-2-clause-refused : goal.returns-in-Err-2-clause-refused
returns-in-Err-2-clause-refused c = grind arith

pub returns-in-Err-table_from_str-clause-no_text : goal.returns-in-Err-table_from_str-clause-no_text
returns-in-Err-table_from_str-clause-no_text c = grind arith

pub returns-in-Err-table_from_str-clause-refused : goal.returns-in-Err-table_from_str-clause-refused
returns-in-Err-table_from_str-clause-refused c = grind arith
