-- What the threads that look at a value share. Source: this project.
use Rattle.std.specs.Prelude.{◌≡◌, ℕ, ◌+◌, ◌<◌, length}
use Rattle.crew.specs.Named.{label_of, tray_count}
use Rattle.crew.specs.Parts.{MayLookAtEach}
use Rattle.crew.specs.declared.parts.Shared.{Shared}

-- each part may be looked at and has a tray
pub record IsSharedOut {S A : Type 0} (may : S → ℕ → ℕ → Type 0) (shared : Shared S A) : Type 0 where
  pub may_each : MayLookAtEach may shared.divided.whole shared.divided.bounds.items
  pub labelled : (label_of shared.trays).0.value ≡ shared.divided
  pub one_each : tray_count shared.trays + 1 ≡ length shared.divided.bounds.items

-- and this is one of them
pub record IsLook {S A : Type 0} (may : S → ℕ → ℕ → Type 0) (shared : Shared S A) (place : ℕ) : Type 0 where
  pub of_shared : IsSharedOut may shared
  pub within : place < tray_count shared.trays
