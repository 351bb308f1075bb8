use Rattle.workers.proofs.Common.{length, map, ap, subst, ◌∙◌, first_ready_of}
use Rattle.work.specs.Pushes.{AreDealt, pushed}
use Rattle.workers.proofs.shifts.deal.Goals as goal

pub returns : goal.returns
returns c = record {
  same = c.in_ok-deps.ensures.value;
  dealt = record {
    one_each = c.in_ok-tasks.ensures.dealt.0;
    dealt =
        subst (λ l. AreDealt l (map pushed c.in_ok-tasks.tasks.items) (length l))
        (c.first_ready.ensures ∙ ap (λ l. first_ready_of l.exchanges) c.in_ok-deps.ensures.value) c.in_ok-tasks.ensures.dealt.1;
  };
}
