use Rattle.version_tables.proofs.Common.{map, sym, ◌∙◌, IfOk-weaker, table_in, HasCounted, Piece}
use Rattle.version_lags.proofs.Alike.{counts-alike}
use Rattle.version_tables.proofs.ended.EndedParted.look.Goals as goal

pub returns : goal.returns
returns g c numbers of_these =
    let views = c.args.self.now.tables.items in let own = c.numbers_of.result in
    let beside = c.numbers_of.ensures views c.requires.0 (rw (c.deref-2.ensures.value, ← c.deref.ensures.value) c.in_ok-cells.ensures.cells) in (
      IfOk-weaker c.piece_of.result (HasCounted g.N.Number.number own c.args.from c.args.to) (HasCounted g.N.Number.number numbers c.args.from c.args.to)
          (λ (piece : Piece _) counted. counts-alike g.N.Number.number g.N.Number.most (map (table_in g.H.Written.lists) views) own numbers
          beside.are of_these.are (beside.histories ∙ sym of_these.histories) (beside.cells.are ∙ sym of_these.cells.are)
          c.args.from c.args.to piece.stale piece.leftover (map g.N.Number.number piece.least.items) counted) c.piece_of.ensures.0,
      c.piece_of.ensures.1,
    )
