-- A map changed at one place, and at two.
-- Serves `Lawful` and `planner`.
use Rattle.dependencies.proofs.Common.{◌≡◌, ◌≢◌, ℕ, ◌==◌, ◌∙◌, eq-eqb, ne_eqb, cond-true, cond-false}
use Rattle.dependencies.specs.States.{with_at}

pub with_at-same : {A : Type 0} (f : ℕ → A) (place n : ℕ) (x : A) → n ≡ place → with_at f place x n ≡ x
with_at-same f place n x same = cond-true (n == place) x (f n) (eq-eqb n place same)

pub with_at-other : {A : Type 0} (f : ℕ → A) (place n : ℕ) (x : A) → n ≢ place → with_at f place x n ≡ f n
with_at-other f place n x other = cond-false (n == place) x (f n) (ne_eqb n place other)

pub with_two-neither : {A : Type 0} (f : ℕ → A) (p q n : ℕ) (x y : A) → n ≢ p → n ≢ q → with_at (with_at f p x) q y n ≡ f n
with_two-neither f p q n x y not_p not_q = with_at-other (with_at f p x) q n y not_q ∙ with_at-other f p n x not_p

pub with_two-first : {A : Type 0} (f : ℕ → A) (p q n : ℕ) (x y : A) → n ≡ p → n ≢ q → with_at (with_at f p x) q y n ≡ x
with_two-first f p q n x y is_p not_q = with_at-other (with_at f p x) q n y not_q ∙ with_at-same f p n x is_p
