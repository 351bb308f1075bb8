use Rattle.workers.proofs.Common.{refl, sym, ap, subst, ◌∙◌, arc_value}
use Rattle.workers.proofs.Outcomes.{or_memory}
use Rattle.workers.specs.inner.Starts.{IsShared}
use Rattle.workers.specs.declared.tasks.Back.{Back}
use Rattle.workers.proofs.shifts.share.Goals as goal

pub returns : goal.returns
returns g c =
    let trays = c.in_ok-trays.ensures in
    let labelled = ap (λ (back : Back g.row.T.Denot). back.0.value) trays.label ∙ c.of.ensures in
    let Shared = IsShared g.T.MemoryTable.table g.X.Exchanging.fits c.args.batch c.args.board c.args.workers in
    or_memory (λ shift. Shared (arc_value shift)) c.new-2.result c.ok.result c.ok_or.result c.ok.ensures.value c.ok_or.ensures.value
    (λ shift is. subst Shared (sym is) (record {
      of_shift = record { shop = record { rules = c.requires.rules; tables = c.requires.tables }; labelled = labelled };
      board = refl;
      shared = refl;
      trays = trays.count;
    })) c.new-2.ensures.ok
