use Rattle.std.specs.Option.{ok_or}
use Rattle.std.specs.Prelude.{None}
use Rattle.bench_types.specs.declared.faults.Fault.TheVariants.{Broken}
use Rattle.simulation.proofs.Common.{◌≡◌, ◌<◌, Fault, IfErr, IfOk, Option, Result, Some, inl, refl, sym, ◌∙◌, subst, arith, ap, inr, is_none}
use Rattle.std.proofs.lemmas.Bool.{true≢false}
use Rattle.simulation.specs.calls.Simulation.{SimView}
use Rattle.simulation.specs.inner.Insides.{simulation_of, tables_held}
use Rattle.simulation.proofs.Stepping.{after_before}
use Rattle.simulation.proofs.sims.Sim.take_out.Goals as goal

-- either there was something to take out, or it is broken
taken : {A : Type 0} (P : A → Type 0) (o : Option A) (r : Result A Fault) → r ≡ ok_or o Broken → ((a : A) → o ≡ Some a → P a) → IfOk r P
taken P (Some a) r is of = subst (λ x. IfOk x P) (sym is) (of a refl)
taken P None r is of = subst (λ x. IfOk x P) (sym is) tt

refused : {A : Type 0} (P : Fault → Type 0) (o : Option A) (r : Result A Fault) → r ≡ ok_or o Broken → (o ≡ None → P Broken) → IfErr r P
refused P (Some a) r is of = subst (λ x. IfErr x P) (sym is) tt
refused P None r is of = subst (λ x. IfErr x P) (sym is) (of refl)

pub returns-clause-taken : goal.returns-clause-taken
returns-clause-taken g c =
    let left : c.self.inside.rounds_done < c.self.inside.scenario.rounds =
    omega (arith, c.if-self-rounds.false, c.rounds.ensures.value, c.self.invariant.simulation.within) in
    let lawful = c.rounds.ensures.lawful in
    taken _ c.take.result c.ok_or.result c.ok_or.ensures.value (λ old there.
    let is = sym c.take.ensures.value ∙ there in
    record {
      may = (sym c.if-is_broken.ensures, subst (λ (v : SimView g.row.T.Denot). v.rounds_done < v.settings.rounds) c.self.view_is left);
      before = record {
        lawful = lawful;
        of_run = record {
          first = omega arith;
          last = omega (arith, left, lawful.rounds.1);
          within = omega (arith, left);
          may_write = c.self.invariant.may_write;
        };
        before = after_before g.T.MemoryTable.table g.K.RoundHistories.kept g.K.RoundHistories.may_write c.self.inside.scenario c.self.inside.cluster _
            c.self.inside.rounds_done c.self.invariant is;
      };
      tables = sym (ap (λ (v : SimView g.row.T.Denot). v.tables) c.self.view_is) ∙ ap tables_held is;
      broken = ap is_none c.take.ensures.after;
      settings = ap (λ (v : SimView g.row.T.Denot). v.settings) c.self.view_is;
      rounds_done = ap (λ (v : SimView g.row.T.Denot). v.rounds_done) c.self.view_is;
    })

pub returns-clause-refused : goal.returns-clause-refused
returns-clause-refused g c =
    refused _ c.take.result c.ok_or.result c.ok_or.ensures.value (λ there.
    let was = sym c.take.ensures.value ∙ there in (
      inl (refl, sym (ap (λ (v : SimView g.row.T.Denot). v.broken) c.self.view_is) ∙ ap is_none was),
      ap (λ o. simulation_of g.K.RoundHistories.kept c.self.inside.scenario o c.self.inside.rounds_done) (c.take.ensures.after ∙ sym was)
          ∙ c.self.view_is,
    ))

pub invariant_of-self : goal.invariant_of-self
invariant_of-self g c = rw c.take.ensures.after (record {
  simulation = record { within = c.self.invariant.simulation.within; standing = λ b. absurd (true≢false b); tables = λ b. absurd (true≢false b) };
  ended = tt;
  drawn = tt;
  may_write = c.self.invariant.may_write;
})

pub returns-then-is_broken-clause-refused : goal.returns-then-is_broken-clause-refused
returns-then-is_broken-clause-refused g c = (inl (refl, sym c.if-is_broken.ensures), refl)

pub returns-then-self-rounds-clause-refused : goal.returns-then-self-rounds-clause-refused
returns-then-self-rounds-clause-refused g c =
    (inr (refl, sym c.if-is_broken.ensures, rw (← c.self.view_is) (c.if-self-rounds.true ∙ c.rounds.ensures.value)), refl)
