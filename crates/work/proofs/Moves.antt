-- The rule of a deque asks nothing, so each push, pop and steal keeps it.
-- Serves `Tasks::push`, `Tasks::take` and `Way::steal`.
use Rattle.work.proofs.Common.{ℕ, List, ◌++◌, ⊤, refl, Pushes, Takes}
use Rattle.work.specs.inner.Deques.{IsPushed, IsTaken}
use Rattle.work.specs.declared.push_logs.PushLog.{PushLog}

pub takes : (port : ℕ) (v : PushLog) (most : ℕ) → Takes {T = ℕ} (λ _ _. ⊤) port v most (IsTaken v)
takes port v most xs items views _ _ _ _ = (v, tt, refl)

pub pushes : (port : ℕ) (v : PushLog) (xs : List ℕ) → Pushes {T = ℕ} (λ _ _. ⊤) port v xs (IsPushed v xs)
pushes port v xs items views _ _ = (record { indices = v.indices ++ xs }, tt, refl)
