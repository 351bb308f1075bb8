use Rattle.std.specs.Option.{ok_or}
use Rattle.std.specs.Result.{result_flatten, result_ok}
use Rattle.bench_types.specs.declared.faults.Fault.TheVariants.{NoThread, OutOfMemory}
use Rattle.simulation.proofs.Common.{Err, Fault, IfErr, IfOk, IsFaultOfWorkers, Ok, Result, ap, inl, inr, refl, subst, sym, ℕ, ◌<◌, ◌≡◌, ◌∙◌}
use Rattle.simulation.proofs.apart.play_apart.Goals as goal

-- what has come of it, or that a thread couldn't be started
played : {A D : Type 0} (P : A → Type 0) (Q : Result A Fault → Type 0) (r : Result (Result A Fault) D) (u : Result A Fault)
    → u ≡ result_flatten (ok_or (result_ok r) NoThread) → IfOk r (λ a. IfOk a P × Q a) → IfOk u P
played P Q (Ok a) u is done = subst (λ x. IfOk x P) (sym is) done.0
played P Q (Err d) u is done = subst (λ x. IfOk x P) (sym is) tt

failed : {A D : Type 0} (P : Result A Fault → Type 0) (workers : ℕ) (r : Result (Result A Fault) D) (u : Result A Fault)
    → u ≡ result_flatten (ok_or (result_ok r) NoThread) → IfOk r (λ a. P a × IfErr a (λ e. e ≡ OutOfMemory)) → IfErr r (λ _. 1 < workers)
    → IfErr u (IsFaultOfWorkers workers)
failed P workers (Ok (Ok p)) u is done several = subst (λ x. IfErr x (IsFaultOfWorkers workers)) (sym is) tt
failed P workers (Ok (Err e)) u is done several = subst (λ x. IfErr x (IsFaultOfWorkers workers)) (sym is) (inl done.1)
failed P workers (Err d) u is done several = subst (λ x. IfErr x (IsFaultOfWorkers workers)) (sym is) (inr (refl, several))

pub returns-clause-fault : goal.returns-clause-fault
returns-clause-fault g c =
    let threads = c.with_threads-answer.ensures in
    let is = c.flatten.ensures ∙ ap result_flatten (c.ok_or.ensures.value ∙ ap (λ o. ok_or o NoThread) c.ok.ensures.value) in
    subst (λ n. IfErr c.flatten.result (IsFaultOfWorkers n)) c.in-Ok.ensures.workers
    (failed _ c.in-Ok.posts c.with_threads-answer.result c.flatten.result is threads.done threads.several)

pub returns-clause-played : goal.returns-clause-played
returns-clause-played g c =
    let is = c.flatten.ensures ∙ ap result_flatten (c.ok_or.ensures.value ∙ ap (λ o. ok_or o NoThread) c.ok.ensures.value) in
    played _ _ c.with_threads-answer.result c.flatten.result is c.with_threads-answer.ensures.done
