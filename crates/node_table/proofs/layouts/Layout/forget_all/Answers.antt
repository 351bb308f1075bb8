use Rattle.node_table.proofs.Common.{◌≡◌, ℕ, ◌+◌, replicate, refl, ap, ◌∙◌, arith, proper-without_all}
use Rattle.node_table.specs.inner.Layouts.{table_laid}
use Rattle.node_table.proofs.Forgotten.{empty_row}
use Rattle.node_table.proofs.Empty.{table_bare, layout_bare}
use Rattle.node_table.proofs.layouts.Layout.forget_all.Goals as goal

pub returns-clause-layout : goal.returns-clause-layout
returns-clause-layout c =
    let l = c.args.self.now in
    let rows_len : l.rows.len ≡ l.nodes = omega (arith, l.rows.ok.0, c.requires.layout.laid.as_many) in
    let greatest_len : l.greatest.len ≡ l.nodes = omega (arith, l.greatest.ok.0, c.requires.layout.greatest.count) in
    layout_bare _ c.clear.ensures.items (c.fill.ensures.items (λ y e. e) ∙ ap (λ n. replicate n empty_row) rows_len) (proper-without_all (table_laid l) c.requires.layout.proper)
    (c.fill-2.ensures.items (λ y e. e) ∙ ap (λ n. replicate {A = ℕ} n 0) greatest_len) c.clear-2.ensures.items (omega (arith, c.requires.layout.room, c.clear-2.ensures.capacity)) refl

pub returns-clause-table : goal.returns-clause-table
returns-clause-table c =
    let l = c.args.self.now in
    let rows_len : l.rows.len ≡ l.nodes = omega (arith, l.rows.ok.0, c.requires.layout.laid.as_many) in
    table_bare l.node l.nodes l.keys (l.generation + 1) c.clear.new.self.items c.fill.new.self.items c.clear.ensures.items (c.fill.ensures.items (λ y e. e) ∙ ap (λ n. replicate n empty_row) rows_len)
