use Rattle.node_table.proofs.Common.{◌≡◌, ◌+◌, ◌<◌, List, [], length, get_or, set, sym, ap, ◌∙◌, subst, arith, Entry, Item, Table, generation_held, taken, IsProper, held_by_lists, proper-taking}
use Rattle.node_table.specs.declared.layouts.Layout.{Layout}
use Rattle.node_table.specs.declared.layouts.Row.{Row}
use Rattle.node_table.specs.Entries.{AreGenerations, AreGreatest}
use Rattle.node_table.specs.inner.Layouts.{rows_of, row_at, table_laid, count_in_rows, AreLaid}
use Rattle.node_table.proofs.Taking.{greatest_set, generations_same, generations_newer}
use Rattle.node_table.proofs.Laid.{entries_in_row-empty, row_at-get_or, total-most}
use Rattle.node_table.proofs.Opened.{generation_first, table_first, version_first}
use Rattle.node_table.proofs.layouts.Layout.put_first.Goals as goal
use Rattle.node_table.proofs.layouts.Layout.put_first.Goals.{In_ok-open}

-- the table of a layout with other slots and rows
abbrev table_of : Layout → List Entry → List Row → Table
table_of l slots rows = record { node = l.node; nodes = l.nodes; keys = l.keys; generation = l.generation; held = held_by_lists (rows_of slots rows) }

-- a layout once an item's entry stands in a block of its own, but for the generations
record IsBegun (l : Layout) (item : Item) (slots : List Entry) (rows : List Row) : Type 0 where
  table : table_of l slots rows ≡ taken (table_laid l) item
  proper : IsProper (table_of l slots rows)
  laid : AreLaid l.nodes l.keys slots rows
  greatest : AreGreatest (table_of l slots rows) (set l.greatest.items item.owner item.entry.version)
  counted : l.count + 1 ≡ count_in_rows rows
  nothing : generation_held (table_laid l) item.owner ≡ 0

none : Row
none = record { start = 0; len = 0 }

begun : (c : In_ok-open) → IsBegun c.args.self.now c.args.item c.open.new.slots.items c.open.new.rows.items
begun c =
    let l = c.args.self.now in
    let item = c.args.item in
    let placed = c.requires.may.in_place in
    let proper = c.requires.may.layout.proper in
    let lt : item.owner < length l.rows.items = omega (arith, placed.owner_below, c.requires.may.layout.laid.as_many) in
    let len : l.rows.len ≡ l.nodes = omega (arith, l.rows.ok.0, c.requires.may.layout.laid.as_many) in
    let empty : row_at l.slots.items l.rows.items item.owner ≡ [] = row_at-get_or l.slots.items l.rows.items item.owner none lt ∙ entries_in_row-empty l.slots.items (get_or l.rows.items item.owner none) (c.requires.empty none) in
    let table = table_first l item empty proper placed c.open.new.slots.items c.open.new.rows.items c.in_ok-open.ensures.ok in
    record {
      table = table;
      proper = subst IsProper (sym table) (proper-taking (table_laid l) item proper placed c.requires.may.own);
      laid = subst (λ n. AreLaid n l.keys c.open.new.slots.items c.open.new.rows.items) len c.in_ok-open.ensures.laid;
      greatest = subst (λ (t : Table). AreGreatest t (set l.greatest.items item.owner item.entry.version)) (sym table)
          (greatest_set (table_laid l) item placed.key_below l.greatest.items item.entry.version c.requires.may.layout.greatest placed.owner_below (version_first l item empty proper placed));
      counted = omega (arith, c.requires.may.layout.counted, c.in_ok-open.ensures.ok.counted, ap length empty);
      nothing = generation_first l item empty proper placed;
    }

pub overflow_add-self : goal.overflow_add-self
overflow_add-self c =
    let l = c.args.self.now in
    omega (arith, c.requires.may.layout.counted, total-most l.nodes l.keys l.slots.items l.rows.items c.requires.may.layout.laid c.requires.may.layout.proper.nodes_limit c.requires.may.layout.proper.keys_limit)

pub returns-then-item-eq0-clause-ok : goal.returns-then-item-eq0-clause-ok
returns-then-item-eq0-clause-ok c = (begun (goal.at.returns-then-item-eq0-clause-ok c).In_ok-open).table

pub returns-then-item-eq0-clause-layout : goal.returns-then-item-eq0-clause-layout
returns-then-item-eq0-clause-layout c =
    let now = begun (goal.at.returns-then-item-eq0-clause-layout c).In_ok-open in
    let l = c.args.self.now in
    let same = generations_same (table_laid l) c.args.item c.requires.may.in_place.key_below l.generations.items c.requires.may.layout.generations (omega (arith, now.nothing, c.if-item-eq0.true)) in
    record {
      proper = now.proper;
      laid = now.laid;
      greatest = now.greatest;
      generations = subst (λ (t : Table). AreGenerations t l.generations.items) (sym now.table) same;
      room = c.requires.may.layout.room;
      counted = now.counted;
    }

pub returns-clause-ok : goal.returns-clause-ok
returns-clause-ok c = (begun (goal.at.returns-clause-ok c).In_ok-open).table

pub returns-clause-layout : goal.returns-clause-layout
returns-clause-layout c =
    let now = begun (goal.at.returns-clause-layout c).In_ok-open in
    let l = c.args.self.now in
    let after = c.set_generation.new.generations in
    let newer = generations_newer (table_laid l) c.args.item c.requires.may.in_place.key_below l.generations.items after.items c.requires.may.layout.generations (omega (arith, now.nothing, c.if-item-eq0.false)) (omega (arith, c.set_generation.ensures.count, after.ok.0)) c.set_generation.ensures.own c.set_generation.ensures.others in
    record {
      proper = now.proper;
      laid = now.laid;
      greatest = now.greatest;
      generations = subst (λ (t : Table). AreGenerations t after.items) (sym now.table) newer;
      room = omega (arith, c.requires.may.layout.room, c.set_generation.ensures.capacity);
      counted = now.counted;
    }
