use Rattle.workers.proofs.Common.{◌<◌, All, length, subst, sym, ap, ◌∙◌, plan_of}
use Rattle.std.proofs.lemmas.List.{with_items_is}
use Rattle.std.specs.Vec.{with_items}
use Rattle.workers.specs.inner.Stamps.{with_records}
use Rattle.workers.specs.declared.gathering.Gathered.{Gathered}
use Rattle.workers.proofs.Joining.{returned_records, taken_one}
use Rattle.workers.proofs.Gathered.{all_within}
use Rattle.workers.proofs.shifts.take_one.Goals as goal

pub write_all-requires : goal.write_all-requires
write_all-requires g c =
    let table = g.T.MemoryTable.table in
    let board = c.args.board.now in
    let records = c.deref_mut.result.now in
    let more = returned_records table board c.args.returned c.in_ok-returned.field-0 c.requires.returned c.in_ok-returned.was in
    record {
      within = subst (All (λ s. s.index < length records)) (sym c.deref.ensures.value)
          (all_within (plan_of table board) records c.in_ok-returned.field-0.items
          (ap length c.deref_mut.ensures.value ∙ c.requires.gathered.records.size) more.each);
    }

pub returns : goal.returns
returns g c =
    let old = c.args.gathered.now in
    let new : Gathered g.row.T.Denot = record { seat = c.join.new.seat; records = with_items old.records c.write_all.new.records } in
    let written =
    with_items_is old.records c.write_all.new.records (c.write_all.auto.records ∙ c.deref_mut.ensures.len)
    ∙ c.write_all.ensures
    ∙ (λ i. with_records (c.deref_mut.ensures.value i) (c.deref.ensures.value i)) in
    taken_one g.T.MemoryTable.table c.args.board.now old new c.args.returned c.in_ok-returned.field-0
    c.requires.gathered c.requires.returned c.in_ok-returned.was c.join.ensures.seat c.join.ensures.joined written
