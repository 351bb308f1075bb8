use Rattle.node_table.proofs.Common.{rules, ◌≡◌, ℕ, set, ◌+◌, ◌-◌, ◌<◌, ◌≤◌, List, [], ◌∷◌, length, get_or, inl, inr, refl, sym, ap, ◌∙◌, subst, arith, length-set, get_or_read, Entry, Mark, Table, IsProper, proper-taking}
use Rattle.node_table.specs.declared.layouts.Row.{Row}
use Rattle.node_table.specs.inner.Layouts.{entries_in_row, count_in_rows, table_laid, IsRow, IsInSlots, AreLaid, IsRenewed, KeepOutside}
use Rattle.node_table.specs.Entries.{AreGenerations, AreGreatest}
use Rattle.node_table.proofs.Blocks.{take-set_outside, take-set_here}
use Rattle.node_table.proofs.Taking.{mark-taken_newer, greatest_set, generations_newer}
use Rattle.node_table.proofs.Laid.{total-most, laid_put, renewed_put}
use Rattle.node_table.proofs.Opened.{one_row}
use Rattle.node_table.proofs.InLayout.{table_renewed, count_renewed}
use Rattle.node_table.proofs.layouts.Layout.renew.Goals as goal
use Rattle.node_table.proofs.layouts.Layout.renew.Goals.{After-index_mut}

abbrev first_of : Row → Row
first_of r = record { start = r.start; len = 1 }

-- a row whose first slot is written, and which ends there
module _ (nodes keys : ℕ) (slots : List Entry) (rows : List Row) (owner : ℕ) (r : Row) (entry : Entry) (laid : AreLaid nodes keys slots rows) (lt : owner < length rows) (is : (d : Row) → get_or rows owner d ≡ r) (held : 0 < r.len) (below : entry.key < keys) (written : 1 ≤ entry.version) where
  within : r.start + keys ≤ length slots
  within = (subst (IsInSlots keys slots) (is r) (laid.each owner r lt)).block held

  row_is : entries_in_row (set slots r.start entry) (first_of r) ≡ entry ∷ []
  row_is = take-set_here r.start slots entry (omega (arith, within))

  anew : IsRow keys (entries_in_row (set slots r.start entry) (first_of r))
  anew = subst (IsRow keys) (sym row_is) (one_row keys entry below written)

  outside : KeepOutside slots (set slots r.start entry) r.start keys
  outside = λ x apart. take-set_outside r.start x.start x.len slots entry (elim apart [ inl before ↦ inl before | inr behind ↦ inr (omega arith) ])

  alone : AreLaid nodes keys (set slots r.start entry) (set rows owner (first_of r)) × IsRenewed owner entry slots (set slots r.start entry) rows (set rows owner (first_of r))
  alone = (
    laid_put nodes keys slots (set slots r.start entry) rows owner r (first_of r) laid lt is held refl (omega arith) anew (omega (arith, ap length row_is)) (length-set slots r.start entry) outside,
    renewed_put nodes keys slots (set slots r.start entry) rows owner r (first_of r) laid lt is held refl (omega arith) anew (omega (arith, ap length row_is)) (length-set slots r.start entry) outside entry row_is,
  )

abbrev slots_after : After-index_mut → List Entry
slots_after c = set c.args.self.now.slots.items c.index-row.result.now.start c.args.item.entry

abbrev rows_after : After-index_mut → List Row
rows_after c = set c.args.self.now.rows.items c.args.item.owner (first_of c.index-row.result.now)

-- the blocks once the entry is alone in its row
renewed : (c : After-index_mut) → AreLaid c.args.self.now.nodes c.args.self.now.keys (slots_after c) (rows_after c)
    × IsRenewed c.args.item.owner c.args.item.entry c.args.self.now.slots.items (slots_after c) c.args.self.now.rows.items (rows_after c)
renewed c =
    let l = c.args.self.now in
    let rows : List Row = l.rows.items in
    let r : Row = c.index-row.result.now in
    let lt : c.args.item.owner < length rows = omega (arith, c.requires.may.in_place.owner_below, c.requires.may.layout.laid.as_many) in
    let is : (d : Row) → get_or rows c.args.item.owner d ≡ r = λ d. sym (get_or_read rows c.args.item.owner r lt c.index-row.ensures d) in
    let held : 0 < r.len = subst (λ (x : Row). 0 < x.len) (is r) (c.requires.some r) in
    alone l.nodes l.keys l.slots.items rows c.args.item.owner r c.args.item.entry c.requires.may.layout.laid lt is held c.requires.may.in_place.key_below c.requires.may.in_place.written

counted : (c : After-index_mut) → (c.args.self.now.count + 1 - c.index-row.result.now.len ≡ count_in_rows (rows_after c)) × (c.index-row.result.now.len ≤ c.args.self.now.count + 1)
counted c =
    let l = c.args.self.now in
    let counts = count_renewed l.keys c.args.item.owner l.nodes c.args.item.entry l.slots.items (slots_after c) l.rows.items (rows_after c) c.index-row.result.now (renewed c).1 c.requires.may.layout.laid c.requires.may.in_place.owner_below c.index-row.ensures in
    (ap (λ n. n + 1 - c.index-row.result.now.len) c.requires.may.layout.counted ∙ counts.0, omega (arith, counts.1, c.requires.may.layout.counted))

pub overflow_add-self : goal.overflow_add-self
overflow_add-self c =
    let l = c.args.self.now in
    omega (arith, c.requires.may.layout.counted, total-most l.nodes l.keys l.slots.items l.rows.items c.requires.may.layout.laid c.requires.may.layout.proper.nodes_limit c.requires.may.layout.proper.keys_limit)

pub overflow_sub-self : goal.overflow_sub-self
overflow_sub-self c = omega (arith, (counted (goal.at.overflow_sub-self c).After-index_mut).1)

pub returns : goal.returns
returns c =
    let now = (goal.at.returns c).After-index_mut in
    let l = c.args.self.now in
    let item = c.args.item in
    let table = table_renewed l (slots_after now) (rows_after now) item c.requires.newer (renewed now).1 in
    let after = c.set_generation.new.generations in
    record {
      layout = record {
        proper = subst IsProper (sym table) (proper-taking (table_laid l) item c.requires.may.layout.proper c.requires.may.in_place c.requires.may.own);
        laid = (renewed now).0;
        greatest = subst (λ (t : Table). AreGreatest t (set l.greatest.items item.owner item.entry.version)) (sym table)
            (greatest_set (table_laid l) item c.requires.may.in_place.key_below l.greatest.items item.entry.version c.requires.may.layout.greatest c.requires.may.in_place.owner_below (sym (ap (λ (m : Mark). m.version) (mark-taken_newer (table_laid l) item c.requires.may.in_place.key_below c.requires.newer))));
        generations = subst (λ (t : Table). AreGenerations t after.items) (sym table)
            (generations_newer (table_laid l) item c.requires.may.in_place.key_below l.generations.items after.items c.requires.may.layout.generations c.requires.newer (omega (arith, c.set_generation.ensures.count, after.ok.0)) c.set_generation.ensures.own c.set_generation.ensures.others);
        room = omega (arith, c.requires.may.layout.room, c.set_generation.ensures.capacity);
        counted = (counted now).0;
      };
      table = table;
      room = search rules;
    }
