use Rattle.cluster.proofs.Common.{IfOk-at_ok, map, sym, subst, AreProper}
use Rattle.cluster.specs.Rounds.{tables_after}
use Rattle.cluster.proofs.Standing.{standing_opening}
use Rattle.cluster.proofs.clusters.Cluster.opened.Goals as goal

pub returns-clause-opens : goal.returns-clause-opens
unfolding tables_after
returns-clause-opens g c =
    let made = IfOk-at_ok _ c.in_ok-tables.was c.requires.tables in
    let begun = c.requires.begun in
    let s = c.args.scenario.now in
    record {
      standing = standing_opening s (map g.T.MemoryTable.table c.in_ok-tables.field-0.items) (g.K.RoundHistories.kept c.args.histories).lists
          (subst AreProper (sym made) c.requires.proper) made begun.count begun.empty;
      tables = made;
      ended = record { keys = begun.keys_are; rounds = begun.none_ended };
      drawn = c.in_ok-new.ensures.before;
    }
