use Rattle.delta_plans.proofs.Common.{◌∙◌, with_items_is, ap, length, length-map, sym}
use Rattle.delta_plans.proofs.sharing.Turns.share.Goals as goal

pub returns : goal.returns
returns g c =
    let whole = with_items_is c.in_ok-marks.marks c.share_into-more.new.mark (c.share_into-more.auto.mark ∙ c.deref_mut-2.ensures.len) in
    (rw whole c.share_into-more.ensures, tt)

pub share_into-more-requires : goal.share_into-more-requires
share_into-more-requires g c = record {
  turns = c.requires.turns;
  counts = ap length c.deref_mut.ensures.value ∙ sym (length-map c.in_ok-counts.counts.items g.N.Number.number) ∙ c.in_ok-counts.ensures.size;
  mark = c.deref_mut-2.ensures.value ∙ c.in_ok-marks.ensures.items;
}
