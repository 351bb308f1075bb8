use Rattle.node_table.proofs.Common.{rules, ◌≡◌, ◌≢◌, ◌+◌, ◌*◌, ◌≤◌, List, ◌∷◌, drop, get_or, sym, ap, ◌∙◌, subst, inl, inr, arith, vec_len, vec_capacity, IsOk, cases_eq, drop_more, Item, Table, greatest_version, taken, applied, no_item, IsItemInPlace, frame-taken, proper-taken}
use Rattle.node_table.specs.NodeTableView.{blocks_for}
use Rattle.node_table.specs.inner.Layouts.{table_laid}
use Rattle.node_table.proofs.Room.{room-rest, room-first}
use Rattle.node_table.proofs.tables.NodeTable.apply.Goals as goal

pub take-requires : goal.take-requires
take-requires c = record {
  layout = c.loop-item.invariant.layout;
  in_place = search rules;
  own = λ own. absurd (c.requires.others c.loop-item.item-index no_item c.loop-item-test.true (own ∙ c.loop-item.invariant.node));
}

pub unwrap-requires : goal.unwrap-requires
unwrap-requires c =
    let before = c.loop-item.self-inside.layout in
    let items = c.args.added.now in
    let item : Item = get_or items c.loop-item.item-index no_item in
    let more : drop c.loop-item.item-index items ≡ item ∷ drop (c.loop-item.item-index + 1) items = drop_more items c.loop-item.item-index no_item c.loop-item-test.true in
    let in_place : IsItemInPlace before.nodes before.keys item = rw (c.loop-item.invariant.nodes, c.loop-item.invariant.keys) (c.requires.in_place c.loop-item.item-index no_item c.loop-item-test.true) in
    let other : item.owner ≢ before.node = λ own. c.requires.others c.loop-item.item-index no_item c.loop-item-test.true (own ∙ c.loop-item.invariant.node) in
    let proper = proper-taken (table_laid before) item c.loop-item.invariant.layout.proper (other, in_place) in
    let ok : IsOk c.take.result = elim (cases_eq (greatest_version (table_laid before) item.owner) 0) [
      | inl none ↦ c.take.ensures.succeeds (room-first (table_laid before) item (drop (c.loop-item.item-index + 1) items) (vec_len before.slots) before.keys (vec_capacity before.slots) in_place proper
          (subst (λ xs. vec_len before.slots + blocks_for (table_laid before) xs * before.keys ≤ vec_capacity before.slots) more c.loop-item.invariant.room) none)
      | inr some ↦ c.take.ensures.held (omega arith)
    ] in
    ok

pub loop-item-preserved : goal.loop-item-preserved
loop-item-preserved c =
    let before = c.loop-item.self-inside.layout in
    let after = c.take.new.self in
    let items = c.args.added.now in
    let rest : List Item = drop (c.loop-item.item-index + 1) items in
    let item : Item = get_or items c.loop-item.item-index no_item in
    let more : drop c.loop-item.item-index items ≡ item ∷ rest = drop_more items c.loop-item.item-index no_item c.loop-item-test.true in
    let taking : table_laid after ≡ taken (table_laid before) item = rw c.unwrap.ensures at c.take.ensures.ok in
    let frame = frame-taken (table_laid before) item in
    let keys : after.keys ≡ before.keys = ap (λ (t : Table). t.keys) taking ∙ frame.keys in
    let in_place : IsItemInPlace before.nodes before.keys item = rw (c.loop-item.invariant.nodes, c.loop-item.invariant.keys) (c.requires.in_place c.loop-item.item-index no_item c.loop-item-test.true) in
    let room = room-rest (table_laid before) (table_laid after) item rest in_place taking c.take.ensures.layout.proper (vec_len before.slots) (vec_len after.slots) before.keys (vec_capacity before.slots) (vec_capacity after.slots)
    (subst (λ xs. vec_len before.slots + blocks_for (table_laid before) xs * before.keys ≤ vec_capacity before.slots) more c.loop-item.invariant.room)
    c.take.ensures.capacity c.take.ensures.same_slots c.take.ensures.slots in
    record {
      layout = c.take.ensures.layout;
      table = ap (λ t. applied t rest) taking ∙ ap (applied (table_laid before)) (sym more) ∙ c.loop-item.invariant.table;
      node = ap (λ (t : Table). t.node) taking ∙ frame.node ∙ c.loop-item.invariant.node;
      nodes = ap (λ (t : Table). t.nodes) taking ∙ frame.nodes ∙ c.loop-item.invariant.nodes;
      keys = keys ∙ c.loop-item.invariant.keys;
      room = subst (λ n. vec_len after.slots + blocks_for (table_laid after) rest * n ≤ vec_capacity after.slots) (sym keys) room;
    }
