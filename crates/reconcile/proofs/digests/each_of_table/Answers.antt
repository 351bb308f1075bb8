use Rattle.reconcile.proofs.Common.{get_or, refl, sym, ◌∙◌, subst, AreGenerations}
use Rattle.reconcile.specs.Digests.{mark_with, version_index}
use Rattle.reconcile.proofs.Dense.{marks_there}
use Rattle.reconcile.proofs.digests.each_of_table.Goals as goal

pub returns-clause-ok : goal.returns-clause-ok
returns-clause-ok c =
    let t = c.args.table.now.table in
    let gs = c.in_ok-from_slice.field-0.items in
    let vs = c.in_ok-each_version.field-0.items in
    let generations = subst (AreGenerations t) (sym c.in_ok-from_slice.ensures.items) c.generations.ensures.generations in
    record {
      nodes = c.nodes.ensures.value;
      keys = c.keys.ensures.value;
      size = c.count.ensures;
      of_kind = refl;
      generations = generations.held;
      tells = λ owner key lt fits.
          (λ i. mark_with (get_or gs owner 0) (get_or vs (version_index (c.keys.ensures.value i) owner key) 0))
          ∙ marks_there t c.nodes.ensures.proper gs vs generations c.in_ok-each_version.ensures.versions owner key lt fits;
    }
