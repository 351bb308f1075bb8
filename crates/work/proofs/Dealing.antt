-- Indices that are dealt to workers in turn.
-- Serves `Tasks::deal`.
use Rattle.work.proofs.Common.{◌≡◌, ℕ, ◌+◌, ◌%◌, ◌<◌, ◌≤◌, List, [], ◌∷◌, ◌++◌, length, map, get_or, set, inl, inr, refl, sym, ap, ◌∙◌, subst, arith, Contains, mod-lt, cases_eq, get_or-map, get_or-set_other, get_or-set_same, length-map, length-set, map-set, Contains-append_left, Contains-append_right}
use Rattle.work.specs.declared.tasks.Tasks.{Tasks}
use Rattle.work.specs.Pushes.{AreDealt, pushed}

-- one more stands behind the pushes of the worker whose turn it is
one_more : (indices : List ℕ) (pushes : List (List ℕ)) (few i : ℕ) (more : List ℕ) → 1 ≤ length pushes → get_or indices few 0 ≡ i → more ≡ get_or pushes (few % length pushes) [] ++ i ∷ []
    → AreDealt indices pushes few → AreDealt indices (set pushes (few % length pushes) more) (few + 1)
one_more indices pushes few i more some next is dealt place lt =
    subst (λ n. Contains (get_or (set pushes (few % length pushes) more) (place % n) []) (get_or indices place 0)) (sym (length-set pushes (few % length pushes) more))
    (elim (cases_eq (place % length pushes) (few % length pushes)) [
      | inl same ↦
          subst (λ n. Contains (get_or (set pushes (few % length pushes) more) n []) (get_or indices place 0)) (sym same)
          (subst (λ l. Contains l (get_or indices place 0)) (sym (get_or-set_same pushes (few % length pushes) more [] (mod-lt few (omega (arith, some))) ∙ is)) (elim (cases_eq place few) [
            | inl now ↦
                subst (λ n. Contains (get_or pushes (few % length pushes) [] ++ i ∷ []) n) (sym (ap (λ n. get_or indices n 0) now ∙ next))
                (Contains-append_right (get_or pushes (few % length pushes) []) (i ∷ []) i (0, omega arith, refl))
            | inr before ↦
                Contains-append_left (get_or pushes (few % length pushes) []) (i ∷ []) (get_or indices place 0)
                (subst (λ n. Contains (get_or pushes n []) (get_or indices place 0)) same (dealt place (omega (arith, lt, before))))
          ]))
      | inr other ↦
          subst (λ l. Contains l (get_or indices place 0)) (sym (get_or-set_other pushes (few % length pushes) (place % length pushes) more [] other))
          (dealt place (omega (arith, lt, λ (now : place ≡ few). other (ap (λ n. n % length pushes) now))))
    ])

pub next_dealt : (indices : List ℕ) (tasks : List Tasks) (few workers : ℕ) (one new : Tasks) → 1 ≤ workers → length tasks ≡ workers → one ≡ get_or tasks (few % workers) one → pushed new ≡ pushed one ++ get_or indices few 0 ∷ []
    → AreDealt indices (map pushed tasks) few → AreDealt indices (map pushed (set tasks (few % workers) new)) (few + 1)
next_dealt indices tasks few workers one new some count there is dealt =
    let size : length (map pushed tasks) ≡ workers = length-map tasks pushed ∙ count in
    let below : few % workers < workers = mod-lt few (omega (arith, some)) in
    let turn : few % workers ≡ few % length (map pushed tasks) = ap (λ n. few % n) (sym size) in
    subst (λ pushes. AreDealt indices pushes (few + 1)) (sym (map-set pushed tasks (few % workers) new ∙ ap (λ n. set (map pushed tasks) n (pushed new)) turn))
    (one_more indices (map pushed tasks) few (get_or indices few 0) (pushed new) (omega (arith, size, some)) refl
    (is ∙ ap (λ l. l ++ get_or indices few 0 ∷ []) (ap pushed there ∙ sym (get_or-map pushed tasks (few % workers) one [] (omega (arith, count, below))) ∙ ap (λ n. get_or (map pushed tasks) n []) turn)) dealt)
