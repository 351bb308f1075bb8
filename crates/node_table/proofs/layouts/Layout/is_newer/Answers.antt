use Rattle.node_table.proofs.Common.{Option, sym, ap, ◌∙◌, arith, nat_lt, lt-ltb, get_or_read, Entry, mark_held, mark_at, entry_in}
use Rattle.node_table.specs.inner.Layouts.{table_laid}
use Rattle.node_table.proofs.Taking.{version-le-greatest}
use Rattle.node_table.proofs.InLayout.{entry_at-in}
use Rattle.node_table.proofs.layouts.Layout.is_newer.Goals as goal

pub returns-then-index-item : goal.returns-then-index-item
returns-then-index-item c =
    let l = c.args.self.now in
    let item = c.args.item in
    let greatest = get_or_read l.greatest.items item.owner c.index.result.now (omega (arith, c.requires.layout.greatest.count, c.requires.in_place.owner_below)) c.index.ensures 0 ∙ c.requires.layout.greatest.greatest item.owner c.requires.in_place.owner_below in
    sym (lt-ltb (mark_at (table_laid l) item.owner item.entry.key).version item.entry.version (omega (arith, greatest, c.if-index-item.true, version-le-greatest (table_laid l) item.owner item.entry.key c.requires.layout.proper c.requires.in_place.key_below)))

pub returns-in-Some : goal.returns-in-Some
returns-in-Some c =
    let l = c.args.self.now in
    let item = c.args.item in
    let at = entry_at-in l item.owner item.entry.key ∙ ap (λ es. entry_in es item.entry.key) (sym c.row.ensures) in
    ap (λ (o : Option Entry). nat_lt (mark_held o).version item.entry.version) (c.in-Some.ensures ∙ sym at)

pub returns-in-None : goal.returns-in-None
returns-in-None c =
    let l = c.args.self.now in
    let item = c.args.item in
    let at = entry_at-in l item.owner item.entry.key ∙ ap (λ es. entry_in es item.entry.key) (sym c.row.ensures) in
    sym (ap (λ (o : Option Entry). nat_lt (mark_held o).version item.entry.version) (at ∙ sym c.in-None.ensures) ∙ lt-ltb 0 item.entry.version (omega (arith, c.requires.in_place.written)))
