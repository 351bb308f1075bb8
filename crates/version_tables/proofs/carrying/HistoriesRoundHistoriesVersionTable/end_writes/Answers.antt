use Rattle.version_tables.proofs.Common.{ap, arith, on_ok_weaker, subst, sym, Entry, numbered-placed, all_writes, AreWrittenBy, HistoriesView}
use Rattle.version_tables.proofs.carrying.HistoriesRoundHistoriesVersionTable.end_writes.Goals as goal

pub returns-clause-fits : goal.returns-clause-fits
returns-clause-fits g c =
    on_ok_weaker c.end_round.result (λ ended t standing.
    let written = subst (λ (k : HistoriesView). AreWrittenBy k.rounds k.lists) (sym ended) c.requires.written in record {
      known = c.end_round.ensures.known;
      among = record {
        proper = standing.proper;
        nodes = standing.nodes;
        holds = λ owner key e held. (standing.holds owner key e held).0;
        made = λ owner. record {
          first = (c.end_round.ensures.known.made owner).first;
          last = λ number e is.
              let at = numbered-placed (all_writes c.end_round.new.self.lists owner) number e is in
              omega (arith, written.born owner at.place e at.within, ap (λ (x : Entry). x.born) (at.there e));
        };
      };
    }) c.end_round.ensures.ok
