use Rattle.workers.proofs.Common.{sym, subst, ◌∙◌}
use Rattle.workers.proofs.Outcomes.{only_memory, where_done}
use Rattle.workers.specs.inner.Joined.{IsEndOf}
use Rattle.workers.proofs.posts.Posts.carry_out.Goals as goal

pub close-requires-after_bounds : goal.close-requires-after_bounds
close-requires-after_bounds g c _ _ = c.in_ok-opened.ensures.opened.handed

pub returns-clause-done : goal.returns-clause-done
returns-clause-done g c =
    let opened = c.in_ok-opened.ensures.opened in
    where_done c.close.result (λ done closed. record {
      exchanged = subst (λ plan. IsEndOf g.T.MemoryTable.table plan done.tables.items done.records.items) opened.made closed.ended;
      shared = closed.shared ∙ opened.shared;
      made = subst (g.F.FnOnce.post c.args.meanwhile tt) (sym closed.made) c.work_on-made.ensures;
    }) c.close.ensures

pub returns-clause-only : goal.returns-clause-only
returns-clause-only g c = only_memory _ c.close.result c.close.ensures

pub returns-then-self-eq1-clause-done : goal.returns-then-self-eq1-clause-done
returns-then-self-eq1-clause-done g c = where_done c.carry_out_alone.result (λ _ done. done) c.carry_out_alone.ensures

pub returns-then-self-eq1-clause-only : goal.returns-then-self-eq1-clause-only
returns-then-self-eq1-clause-only g c = only_memory _ c.carry_out_alone.result c.carry_out_alone.ensures
