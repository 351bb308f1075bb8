use Rattle.node_table.proofs.Common.{◌≡◌, ℕ, ◌<◌, ◌≤◌, List, length, get_or, set, take, replicate, sym, ap, ◌∙◌, subst, arith, get_or_read, Entry, Table, without_others, greatest_version, IsProper, held_by_lists, proper-without_others}
use Rattle.node_table.specs.declared.layouts.Row.{Row}
use Rattle.node_table.specs.declared.layouts.Layout.{Layout}
use Rattle.node_table.specs.Entries.{AreGenerations, AreGreatest}
use Rattle.node_table.specs.inner.Layouts.{entries_in_row, rows_of, row_at, table_laid, block_len, count_in_rows, IsInSlots, AreLaid, AreOthersKept, IsLayout}
use Rattle.node_table.proofs.Laid.{row_at-get_or, len-le-keys}
use Rattle.node_table.proofs.Forgotten.{empty_row, one_row, laid_one, counted_one, row_at-one_own, row_at-one_other, table_one, greatest_one, generations_none, generations_one}
use Rattle.node_table.proofs.layouts.Layout.forget_others.Goals as goal

-- the table of a layout with other slots and rows
abbrev table_of : Layout → List Entry → List Row → Table
table_of l slots rows = record { node = l.node; nodes = l.nodes; keys = l.keys; generation = l.generation; held = held_by_lists (rows_of slots rows) }

-- what is left of a layout of which its node's row was moved to the front
record IsLeft (l : Layout) (slots : List Entry) (rows : List Row) (versions : List ℕ) (count : ℕ) : Type 0 where
  table : table_of l slots rows ≡ without_others (table_laid l)
  laid : AreLaid l.nodes l.keys slots rows
  greatest : AreGreatest (table_of l slots rows) versions
  counted : count ≡ count_in_rows rows

left : (l : Layout) (r : Row) (slots : List Entry) (rows : List Row) (versions : List ℕ) (version : ℕ) → IsLayout l → r ≡ get_or l.rows.items l.node r → version ≡ get_or l.greatest.items l.node version → take r.len slots ≡ entries_in_row l.slots.items r → length slots ≡ block_len l.keys r → rows ≡ replicate l.rows.len empty_row → versions ≡ replicate {A = ℕ} l.greatest.len 0 → IsLeft l slots (set rows l.node (record { start = 0; len = r.len })) (set versions l.node version) r.len
left l r slots rows versions version sound read read' front len cleared zeros = record {
  table = table_is;
  laid = subst (AreLaid l.nodes l.keys slots) (sym rows_are) (laid_one l.nodes l.keys l.node r l.slots.items slots sound.proper.node_below lies fits front len);
  greatest = subst (λ (t : Table). AreGreatest t (set versions l.node version)) (sym table_is) (subst (AreGreatest (without_others (table_laid l))) (sym versions_are) (greatest_one (table_laid l) version sound.proper.node_below version_is));
  counted = counted_one l.nodes l.keys l.node r l.slots.items slots sound.proper.node_below lies fits front len ∙ ap count_in_rows (sym rows_are);
}
  where
    below : l.node < length l.rows.items
    below = omega (arith, sound.laid.as_many, sound.proper.node_below)

    own : (d : Row) → get_or l.rows.items l.node d ≡ r
    own d = sym (get_or_read l.rows.items l.node r below read d)

    lies : IsInSlots l.keys l.slots.items r
    lies = subst (IsInSlots l.keys l.slots.items) (own r) (sound.laid.each l.node r below)

    fits : r.len ≤ l.keys
    fits = len-le-keys l.keys l.slots.items r lies

    rows_are : set rows l.node (record { start = 0; len = r.len }) ≡ one_row l.nodes l.node r.len
    rows_are = let len_is : l.rows.len ≡ l.nodes = omega (arith, l.rows.ok.0, sound.laid.as_many) in
        ap (λ xs. set xs l.node (record { start = 0; len = r.len })) (cleared ∙ ap (λ n. replicate n empty_row) len_is)

    versions_are : set versions l.node version ≡ set (replicate {A = ℕ} l.nodes 0) l.node version
    versions_are = let len_is : l.greatest.len ≡ l.nodes = omega (arith, l.greatest.ok.0, sound.greatest.count) in
        ap (λ xs. set xs l.node version) (zeros ∙ ap (λ n. replicate {A = ℕ} n 0) len_is)

    version_is : version ≡ greatest_version (table_laid l) l.node
    version_is = get_or_read l.greatest.items l.node version (omega (arith, sound.greatest.count, sound.proper.node_below)) read' 0 ∙ sound.greatest.greatest l.node sound.proper.node_below

    table_is : table_of l slots (set rows l.node (record { start = 0; len = r.len })) ≡ without_others (table_laid l)
    table_is = table_one l slots (set rows l.node (record { start = 0; len = r.len }))
        (ap (λ xs. row_at slots xs l.node) rows_are ∙ row_at-one_own l.nodes l.keys l.node r l.slots.items slots sound.proper.node_below lies fits front len ∙ ap (entries_in_row l.slots.items) (sym (own r)) ∙ sym (row_at-get_or l.slots.items l.rows.items l.node r below))
        (λ k other. ap (λ xs. row_at slots xs k) rows_are ∙ row_at-one_other l.nodes l.keys l.node r l.slots.items slots sound.proper.node_below lies fits front len k other)

pub returns-then-generation-gt0-clause-layout : goal.returns-then-generation-gt0-clause-layout
returns-then-generation-gt0-clause-layout c =
    let l = c.args.self.now in
    let is_left = left l c.index-row.result.now c.move_to_front.new.slots.items c.fill.new.self.items c.fill-2.new.self.items c.index-greatest.result.now c.requires c.index-row.ensures c.index-greatest.ensures c.move_to_front.ensures.row (omega (arith, c.move_to_front.ensures.len, c.move_to_front.new.slots.ok.0)) (c.fill.ensures.items (λ y e. e)) (c.fill-2.ensures.items (λ y e. e)) in
    let after = c.set_generation.new.generations in
    let others = subst (λ xs. AreOthersKept l.node xs after.items) c.clear.ensures.items c.set_generation.ensures.others in
    record {
      proper = subst IsProper (sym is_left.table) (proper-without_others (table_laid l) c.requires.proper);
      laid = is_left.laid;
      greatest = is_left.greatest;
      generations = subst (λ (t : Table). AreGenerations t after.items) (sym is_left.table) (generations_one (table_laid l) after.items (omega (arith, c.set_generation.ensures.count, after.ok.0)) (c.set_generation.ensures.own ∙ c.generation_of-generation.ensures) others);
      room = omega (arith, c.requires.room, c.clear.ensures.capacity, c.set_generation.ensures.capacity);
      counted = is_left.counted;
    }

pub returns-then-generation-gt0-clause-table : goal.returns-then-generation-gt0-clause-table
returns-then-generation-gt0-clause-table c =
    (left c.args.self.now c.index-row.result.now c.move_to_front.new.slots.items c.fill.new.self.items c.fill-2.new.self.items c.index-greatest.result.now c.requires c.index-row.ensures c.index-greatest.ensures c.move_to_front.ensures.row (omega (arith, c.move_to_front.ensures.len, c.move_to_front.new.slots.ok.0)) (c.fill.ensures.items (λ y e. e)) (c.fill-2.ensures.items (λ y e. e))).table

pub returns-else-generation-gt0-clause-layout : goal.returns-else-generation-gt0-clause-layout
returns-else-generation-gt0-clause-layout c =
    let l = c.args.self.now in
    let is_left = left l c.index-row.result.now c.move_to_front.new.slots.items c.fill.new.self.items c.fill-2.new.self.items c.index-greatest.result.now c.requires c.index-row.ensures c.index-greatest.ensures c.move_to_front.ensures.row (omega (arith, c.move_to_front.ensures.len, c.move_to_front.new.slots.ok.0)) (c.fill.ensures.items (λ y e. e)) (c.fill-2.ensures.items (λ y e. e)) in
    record {
      proper = subst IsProper (sym is_left.table) (proper-without_others (table_laid l) c.requires.proper);
      laid = is_left.laid;
      greatest = is_left.greatest;
      generations = subst (λ (t : Table). AreGenerations t c.clear.new.self.items) (sym is_left.table) (generations_none (table_laid l) c.clear.new.self.items (omega (arith, c.generation_of-generation.ensures, c.if-generation-gt0.false)) c.clear.ensures.items);
      room = omega (arith, c.requires.room, c.clear.ensures.capacity);
      counted = is_left.counted;
    }

pub returns-else-generation-gt0-clause-table : goal.returns-else-generation-gt0-clause-table
returns-else-generation-gt0-clause-table c =
    (left c.args.self.now c.index-row.result.now c.move_to_front.new.slots.items c.fill.new.self.items c.fill-2.new.self.items c.index-greatest.result.now c.requires c.index-row.ensures c.index-greatest.ensures c.move_to_front.ensures.row (omega (arith, c.move_to_front.ensures.len, c.move_to_front.new.slots.ok.0)) (c.fill.ensures.items (λ y e. e)) (c.fill-2.ensures.items (λ y e. e))).table
