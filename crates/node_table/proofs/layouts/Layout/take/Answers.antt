use Rattle.node_table.proofs.Common.{sym, ◌∙◌, arith, ltb-false, mark_at, taken-older}
use Rattle.node_table.specs.inner.Layouts.{table_laid}
use Rattle.node_table.proofs.Taking.{taken_kept}
use Rattle.node_table.proofs.InLayout.{none_held}
use Rattle.node_table.proofs.layouts.Layout.take.Goals as goal
use Rattle.node_table.proofs.layouts.Layout.take.Goals.{else-held-item-2-via-then-held-item-2+else-is_newer, else-held-item-2-via-else-held-item-2}

pub returns-then-index-eq0-clause-same_slots : goal.returns-then-index-eq0-clause-same_slots
returns-then-index-eq0-clause-same_slots c = λ some.
    absurd (omega (arith, some, none_held c.args.self.now c.args.item.owner c.index.result.now (omega (arith, c.requires.in_place.owner_below, c.requires.layout.laid.as_many)) c.index.ensures c.if-index-eq0.true))

pub returns-then-index-eq0-clause-held : goal.returns-then-index-eq0-clause-held
returns-then-index-eq0-clause-held c = λ some.
    absurd (omega (arith, some, none_held c.args.self.now c.args.item.owner c.index.result.now (omega (arith, c.requires.in_place.owner_below, c.requires.layout.laid.as_many)) c.index.ensures c.if-index-eq0.true))

pub returns-else-held-item-2-clause-ok : goal.returns-else-held-item-2-clause-ok
returns-else-held-item-2-clause-ok c =
    let t = table_laid c.args.self.now in
    let item = c.args.item in
    sym (elim c.else-held-item-2.branch [
      | else-held-item-2-via-then-held-item-2+else-is_newer w ↦
          taken_kept t item c.requires.layout.proper (omega (arith, c.generation_of-held.ensures, w.if-held-item-2.true)) c.requires.in_place.written
          (ltb-false (mark_at t item.owner item.entry.key).version item.entry.version (sym w.is_newer.ensures ∙ w.if-is_newer.false))
      | else-held-item-2-via-else-held-item-2 w ↦ taken-older t item (omega (arith, c.generation_of-held.ensures, c.if-held-item.false, w.if-held-item-2.false))
    ])
