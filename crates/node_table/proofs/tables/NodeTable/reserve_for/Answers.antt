use Rattle.node_table.proofs.Common.{◌≡◌, ◌-◌, ◌*◌, ◌<◌, ◌≤◌, List, sym, ap, ◌∙◌, arith, vec_len, vec_capacity, le-div, Entry, Table, held_by_lists}
use Rattle.node_table.specs.NodeTableView.{blocks_for}
use Rattle.node_table.specs.inner.Layouts.{rows_of}
use Rattle.node_table.proofs.tables.NodeTable.reserve_for.Goals as goal

pub returns-in_ok-reserve-in-Some-clause-room : goal.returns-in_ok-reserve-in-Some-clause-room
returns-in_ok-reserve-in-Some-clause-room c =
    let added = c.args.added.now in
    let now = c.blocks_for-blocks.new.self in
    let slots = c.reserve.new.self in
    let table = λ (xs : List Entry). let t : Table = record { node = now.node; nodes = now.nodes; keys = now.keys; generation = now.generation; held = held_by_lists (rows_of xs now.rows.items) } in t in
    let blocks : blocks_for (table slots.items) added ≡ c.blocks_for-blocks.result =
    ap (λ xs. blocks_for (table xs) added) c.reserve.ensures.items ∙ ap (λ (t : Table). blocks_for t added) c.blocks_for-blocks.ensures.table ∙ sym c.blocks_for-blocks.ensures.blocks in
    let some : 0 < now.keys = omega (arith, c.blocks_for-blocks.ensures.layout.proper.some_key) in
    let room : blocks_for (table slots.items) added * now.keys ≤ vec_capacity slots - vec_len slots = omega (arith, ap (λ n. n * now.keys) blocks, c.in-Some.ensures, c.in_ok-reserve-in-Some.ensures.ok) in
    le-div (blocks_for (table slots.items) added) (vec_capacity slots - vec_len slots) now.keys some room
