use Rattle.node_table.proofs.Common.{rules, ◌≡◌, ◌+◌, ◌-◌, ◌<◌, List, length, max, get_or, set, sym, ap, ◌∙◌, subst, arith, with_items, with_items_is, get_or_read, get_or-set_same, Entry, Table, IsProper, proper-taking}
use Rattle.node_table.specs.declared.layouts.Row.{Row}
use Rattle.node_table.specs.inner.Layouts.{entries_in_row, count_in_rows, table_laid, AreLaid, IsPlaced, IsPut, KeepOutside}
use Rattle.node_table.specs.Entries.{AreGenerations, AreGreatest}
use Rattle.node_table.proofs.Taking.{taken_put, version-taken_same, greatest_set, generations_same}
use Rattle.node_table.proofs.Laid.{total-most, laid_put, placed_put}
use Rattle.node_table.proofs.InLayout.{table_placed, count_placed}
use Rattle.node_table.proofs.layouts.Layout.put.Goals as goal
use Rattle.node_table.proofs.layouts.Layout.put.Goals.{After-put_among-grown}

abbrev rows_after : After-put_among-grown → List Row
rows_after c = set c.args.self.now.rows.items c.args.item.owner c.put_among-grown.result

abbrev slots_after : After-put_among-grown → List Entry
slots_after c = (with_items c.args.self.now.slots c.put_among-grown.new.slots).items

in_range : (c : After-put_among-grown) → c.args.item.owner < length c.args.self.now.rows.items
in_range c = omega (arith, c.requires.may.in_place.owner_below, c.requires.may.layout.laid.as_many)

-- the blocks once the entry stands in its row
put : (c : After-put_among-grown) → AreLaid c.args.self.now.nodes c.args.self.now.keys (slots_after c) (rows_after c)
    × IsPlaced c.args.self.now.keys c.args.item.owner c.args.item.entry c.args.self.now.slots.items (slots_after c) c.args.self.now.rows.items (rows_after c)
put c =
    let l = c.args.self.now in
    let slots : List Entry = l.slots.items in
    let rows : List Row = l.rows.items in
    let slots' : List Entry = c.put_among-grown.new.slots in
    let owner = c.args.item.owner in
    let entry = c.args.item.entry in
    let r : Row = c.index-row.result.now in
    let r' : Row = c.put_among-grown.result in
    let laid = c.requires.may.layout.laid in
    let lt = in_range c in
    let is : (d : Row) → get_or rows owner d ≡ r = λ d. sym (get_or_read rows owner r lt c.index-row.ensures d) in
    let held : 0 < r.len = subst (λ (x : Row). 0 < x.len) (is r) (c.requires.some r) in
    let same_len : length slots' ≡ length slots = c.put_among-grown.ensures.as_long ∙ ap length c.deref_mut.ensures.value in
    let row = subst (λ xs. IsPut l.keys entry (entries_in_row xs r) (entries_in_row slots' r')) c.deref_mut.ensures.value c.put_among-grown.ensures.put in
    let others = subst (λ xs. KeepOutside xs slots' r.start l.keys) c.deref_mut.ensures.value c.put_among-grown.ensures.others in
    rw (with_items_is l.slots slots' (omega (arith, same_len, l.slots.ok.0))) (
      laid_put l.nodes l.keys slots slots' rows owner r r' laid lt is held c.put_among-grown.ensures.start c.put_among-grown.ensures.within row.row row.some same_len others,
      placed_put l.nodes l.keys slots slots' rows owner r r' laid lt is held c.put_among-grown.ensures.start c.put_among-grown.ensures.within row.row row.some same_len others entry row,
    )

counted : (c : After-put_among-grown) → c.args.self.now.count + (c.put_among-grown.result.len - c.index-row.result.now.len) ≡ count_in_rows (rows_after c)
counted c =
    let r' : Row = c.put_among-grown.result in
    ap (λ n. n + (r'.len - c.index-row.result.now.len)) c.requires.may.layout.counted
    ∙ (count_placed c.args.self.now.keys c.args.item.owner c.args.self.now.nodes c.args.item.entry c.args.self.now.slots.items (slots_after c) c.args.self.now.rows.items (rows_after c) c.index-row.result.now r'
    (put c).1 c.requires.may.layout.laid (put c).0 c.requires.may.in_place.owner_below c.index-row.ensures (sym (get_or-set_same c.args.self.now.rows.items c.args.item.owner r' r' (in_range c)))).0

pub overflow_add-self : goal.overflow_add-self
overflow_add-self c =
    let now = (goal.at.overflow_add-self c).After-put_among-grown in
    let l = c.args.self.now in
    omega (arith, counted now, total-most l.nodes l.keys (slots_after now) (rows_after now) (put now).0 c.requires.may.layout.proper.nodes_limit c.requires.may.layout.proper.keys_limit)

pub returns : goal.returns
returns c =
    let now = (goal.at.returns c).After-put_among-grown in
    let l = c.args.self.now in
    let item = c.args.item in
    let below : item.owner < length l.greatest.items = omega (arith, c.requires.may.layout.greatest.count, c.requires.may.in_place.owner_below) in
    let version = c.max.ensures
    ∙ ap (λ n. max n item.entry.version) (get_or_read l.greatest.items item.owner c.index.result.now below c.index.ensures 0 ∙ c.requires.may.layout.greatest.greatest item.owner c.requires.may.in_place.owner_below)
    ∙ sym (version-taken_same (table_laid l) item c.requires.may.in_place.key_below c.requires.same) in
    let table = table_placed l (slots_after now) (rows_after now) item.owner item.entry (put now).1 ∙ sym (taken_put (table_laid l) item c.requires.may.layout.proper c.requires.same c.requires.newer) in
    record {
      layout = record {
        proper = subst IsProper (sym table) (proper-taking (table_laid l) item c.requires.may.layout.proper c.requires.may.in_place c.requires.may.own);
        laid = (put now).0;
        greatest = subst (λ (t : Table). AreGreatest t (set l.greatest.items item.owner c.max.result)) (sym table)
            (greatest_set (table_laid l) item c.requires.may.in_place.key_below l.greatest.items c.max.result c.requires.may.layout.greatest c.requires.may.in_place.owner_below version);
        generations = subst (λ (t : Table). AreGenerations t l.generations.items) (sym table) (generations_same (table_laid l) item c.requires.may.in_place.key_below l.generations.items c.requires.may.layout.generations c.requires.same);
        room = c.requires.may.layout.room;
        counted = counted now;
      };
      table = table;
      room = search rules;
    }
