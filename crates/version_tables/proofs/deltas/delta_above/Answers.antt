use Rattle.version_tables.proofs.Common.{◌∙◌, map, length-map, digest_kind}
use Rattle.version_tables.proofs.Delivered.{AreLaidBoth, IsOfferOf, laid-both, offer-is, delta-marks, told-low}
use Rattle.version_tables.proofs.deltas.delta_above.Goals as goal

module _ (g : _) (c : goal.After-ends g) where
  two : AreLaidBoth g.H.Written.lists g.N.Number.most c.args.course.now.histories.now c.args.sender.now c.args.receiver.now
  two = laid-both c.lists.ensures.known c.requires.may.both c.grid.ensures.kept c.requires.offered.kept

  of-both : IsOfferOf g.N.Number.number c.args.course.now.rules.now c.args.course.now.histories.now c.args.sender.now c.args.receiver.now (record {
    grid = record { cells = c.args.offered.cells; size = c.grid.result.size };
    low = c.deref.result;
    high = c.greatest.result;
    lists = c.lists.result;
    budget = c.args.course.now.rules.now.budget;
    found = c.args.offered.found;
  })
  of-both = record {
    is = rw (← c.grid.ensures.nodes, ← c.grid.ensures.keys, ← c.lists.ensures.value);
    high = c.greatest.ensures.value;
    low = rw c.deref.ensures.value (told-low two (digest_kind c.args.course.now.rules.now.mode) _ c.requires.offered.told);
    offered = rw c.deref.ensures.value c.requires.offered.cells;
    found = rw c.deref.ensures.value c.requires.offered.found;
  }

pub planned-requires-clause-offer : goal.planned-requires-clause-offer
planned-requires-clause-offer g c = offer-is g.N.Number.number (two g c) c.args.course.now.rules.now _ (of-both g c)

pub returns-clause-delta : goal.returns-clause-delta
returns-clause-delta g c =
    let marked = c.in_ok-marked.marked in
    let ends = c.before.before.before in record {
      marks = rw (c.greatest.ensures.value, c.deref.ensures.value)
          at (delta-marks g.N.Number.number (two g ends) c.args.course.now.rules.now _ (of-both g ends) c.args.course.now.plan.now.rotation
          c.requires.may.rotation (map g.N.Number.number marked.mark.items) marked.counts.sent marked.counts.cut c.in_ok-marked.ensures.marked
          (length-map marked.mark.items g.N.Number.number ∙ c.in_ok-marked.ensures.size ∙ c.grid.ensures.nodes));
      digest = c.requires.offered.digest;
    }

pub planned-requires-clause-ends : goal.planned-requires-clause-ends
planned-requires-clause-ends g c =
    rw (c.grid.ensures.nodes, c.requires.may.both.first.nodes, c.lists.ensures.value, c.ends.ensures.rounds)
    (record { size = c.ends.ensures.size; are_ends = c.ends.ensures.parts; made = c.requires.may.both.first.made })
