use Rattle.std.proofs.lemmas.List.{with_items_is}
use Rattle.cluster.proofs.Common.{◌+◌, ◌-◌, ◌≤◌, ap, map, refl, subst, sym, ◌∙◌, IfSome, OnOk}
use Rattle.limits.specs.declared.TheConstants.{MOST_ROUNDS}
use Rattle.std.specs.Prelude.{IfOk}
use Rattle.cluster.specs.Rounds.{begun}
use Rattle.cluster.specs.calls.Plans.{AreCountsAfter}
use Rattle.cluster.specs.calls.Standing.{StandAfterRound}
use Rattle.cluster.specs.inner.InMemory.{HasBegun}
use Rattle.cluster.proofs.clusters.Cluster.begin.Goals as goal

pub begin_nodes-begun-requires-clause-standing : goal.begin_nodes-begun-requires-clause-standing
begin_nodes-begun-requires-clause-standing g c _ _ =
    let s = c.args.scenario.now in
    let round = c.args.round in
    subst (λ ts. StandAfterRound s (round - 1) (map g.T.MemoryTable.table ts) (g.K.RoundHistories.kept c.args.self.histories).lists)
    (sym c.deref_mut.ensures.value) c.requires.before.standing

pub returns-clause-begun : goal.returns-clause-begun
returns-clause-begun g c =
    let table = g.T.MemoryTable.table in
    let s = c.args.scenario.now in
    let round = c.args.round in
    let end = c.begin_nodes-begun in
    let is =
    subst (λ r. OnOk r (HasBegun table g.K.RoundHistories.kept g.K.Exchanging.fits s round c.deref_mut.result.now end.new.tables end.new.histories))
    c.in-Ok.is end.ensures.begun in
    let whole = with_items_is c.args.self.tables end.new.tables (end.auto.tables ∙ c.deref_mut.ensures.len) in
    record {
      lawful = c.requires.lawful;
      scenario_is = refl;
      round_is = refl;
      standing = subst (λ ts. StandAfterRound s round (map table ts) (g.K.RoundHistories.kept end.new.histories).lists) (sym whole) is.standing;
      tables = ap (map table) whole ∙ is.tables ∙ ap (λ ts. begun s round (map table ts)) c.deref_mut.ensures.value
          ∙ ap (begun s round) c.requires.before.tables;
      ended = is.ended;
      fits = is.fits;
      list = c.in_ok-plan.ensures.plan.list;
      may_draw = record {
        first = c.requires.of_run.first;
        drawn = c.in_ok-plan.ensures.plan.words;
        counted = subst (λ r. IfOk r (λ counts. IfSome counts (λ v. AreCountsAfter s round v.items))) c.in-Ok.is end.ensures.counted;
        another = subst (λ r. IfOk r (λ counts. IfSome counts (λ _. round + 1 ≤ MOST_ROUNDS))) c.in-Ok.is end.ensures.another;
      };
    }
