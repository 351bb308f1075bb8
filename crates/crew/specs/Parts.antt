-- Parts of a value, each from one bound up to the next, and what is found at them. Source: this project.
use Rattle.std.specs.Prelude.{◌≡◌, ℕ, ◌+◌, ◌<◌, List, length, Some, slice_get, slice_index}
use Rattle.crew.specs.declared.parts.Answered.{Answered}
use Rattle.crew.specs.declared.parts.Divided.{Divided}

-- each part may be looked at
abbrev pub MayLookAtEach : {S : Type 0} → (S → ℕ → ℕ → Type 0) → S → List ℕ → Type 0
MayLookAtEach may whole bounds =
    (i : ℕ) → i + 1 < length bounds → may whole (slice_index bounds i) (slice_index bounds (i + 1))

-- an answer tells of the part of a number
abbrev pub TellsOfPart : {S A : Type 0} → (S → ℕ → ℕ → A → Type 0) → S → List ℕ → ℕ → A → Type 0
TellsOfPart tells whole bounds i answer = tells whole (slice_index bounds i) (slice_index bounds (i + 1)) answer

-- each of these tells of the part at its place
abbrev pub HoldsAnswers : {S A : Type 0} → (S → ℕ → ℕ → A → Type 0) → S → List ℕ → List A → Type 0
HoldsAnswers tells whole bounds answers =
    (i : ℕ) (answer : _) → slice_get answers i ≡ Some answer → TellsOfPart tells whole bounds i answer

-- all parts were looked at, and the value comes back
pub record AreAnswered {S A : Type 0} (tells : S → ℕ → ℕ → A → Type 0) (divided : Divided S) (new : Answered S A) : Type 0 where
  pub whole : new.whole ≡ divided.whole
  pub one_each : length new.answers.items + 1 ≡ length divided.bounds.items
  pub each : HoldsAnswers tells divided.whole divided.bounds.items new.answers.items
