use contract.BorrowLft.{⊑_static}
use Rattle.std.proofs.Common.{◌<◌, rules, arith}
use Rattle.crew.specs.Named.{label_of}
use Rattle.crew.proofs.Turns.{held_first, opens, shuts, was_kept, of_value, of_label, of_labels, of_rows}
use Rattle.crew.proofs.trays.Trays.turn.Goals as goal

pub swap_new_seat-found-requires-whole : goal.swap_new_seat-found-requires-whole
swap_new_seat-found-requires-whole g c κs w =
    let within : c.args.i < c.args.self.now.table.shared.table_id.words = omega (arith, c.args.self.now.even, c.requires.within) in
    let may = opens (g.P.Label.keeps (label_of c.args.self.now)) _ c.args.i c.args.self.now.table.shared.key c.requires.within in
    (of_value _ _ w.0, (of_label _ _ w.1.0, of_labels w.1.1 (within, may)))

pub exchange-before-requires-whole : goal.exchange-before-requires-whole
exchange-before-requires-whole g c κs w = of_rows w (
  c.swap_new_seat-found.ensures.0,
  held_first (g.P.Label.keeps (label_of c.args.self.now)) c.args.i c.swap_new_seat-found.result.1.me
      (c.swap_new_seat-found.ensures.1 c.if-found-eq-FREE.true),
)

pub store-requires-whole : goal.store-requires-whole
store-requires-whole g c κs w =
    let keeps = g.P.Label.keeps (label_of c.args.self.now) in
    let within : c.args.i < c.args.self.now.table.shared.table_id.words = omega (arith, c.args.self.now.even, c.requires.within) in
    of_rows w (⊑_static _, (search rules, within, shuts keeps _ _ c.args.i _ _ c.args.value _ c.exchange-before.ensures.3 c.requires.kept))

pub returns-then-found-eq-FREE : goal.returns-then-found-eq-FREE
returns-then-found-eq-FREE g c =
    record {
      kept = was_kept (g.P.Label.keeps (label_of c.args.self.now)) c.args.i c.swap_new_seat-found.result.1.me c.exchange-before.result
          (c.swap_new_seat-found.ensures.1 c.if-found-eq-FREE.true) c.exchange-before.ensures.2;
    }
