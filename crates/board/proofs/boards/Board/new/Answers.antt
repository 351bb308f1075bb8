use contract.BorrowLft.{⊑_static}
use Rattle.board.proofs.Common.{arith, ap, sym, ◌∙◌, ℕ, ◌<◌, length, ◌∷◌, map, subst, range_with_len, length-map, length-map-range_with_len, RoundListView, pending_of, in_place}
use Rattle.board.specs.Rule.{Orderly}
use Rattle.board.specs.Weights.{Has}
use Rattle.board.specs.Keys.{IsBoardKey, key_plan}
use Rattle.board.specs.Models.{slot_model}
use Rattle.board.specs.inner.Plays.{opened_view}
use Rattle.board.specs.declared.plays.BoardKey.{BoardKey}
use Rattle.board.proofs.Calls.{with_step}
use Rattle.board.proofs.Ends.{starts}
use Rattle.board.proofs.Modelled.{opening_model}
use Rattle.board.proofs.Filling.{key_is, planned_by, opening_of, placed_models}
use Rattle.board.proofs.boards.Board.new.Goals as goal

pub new-requires-whole : goal.new-requires-whole
new-requires-whole g c κs w =
    let table = g.T.MemoryTable.table in
    let key : BoardKey g.row.T.Denot = record { rules = c.args.rules; list = c.of.result; tables = c.of-2.result } in
    let plan = key_plan table key in
    let is = key_is table key c.args.deps c.args.tables c.of.ensures c.of-2.ensures c.first_words.ensures.kept c.requires.cluster in
    let words_are = c.deref.ensures.value ∙ c.in_ok-words.ensures.words
    ∙ ap (λ (l : RoundListView). 0 ∷ map (pending_of l.exchanges) (range_with_len 0 (length l.exchanges))) (sym c.of.ensures) in
    let slots = map (slot_model table) c.in_ok-slots.slots.items in
    let slots_are = ap (map (slot_model table)) c.in_ok-slots.ensures.moved.placed ∙ placed_models table c.args.tables.items
    ∙ ap (λ v. map in_place (map table v.items)) (sym c.of-2.ensures) in
    let planned = planned_by table key is in
    let opens = starts plan c.deref.result.now slots planned (opening_of plan c.deref.result.now slots planned words_are slots_are) in
    with_step w (⊑_static _, opening_model table (Orderly plan) c.deref.result.now c.in_ok-slots.slots.items (opened_view plan) opens)

pub invariant_of-result : goal.invariant_of-result
invariant_of-result g c =
    let table = g.T.MemoryTable.table in
    let key : BoardKey g.row.T.Denot = record { rules = c.args.rules; list = c.of.result; tables = c.of-2.result } in
    let is = key_is table key c.args.deps c.args.tables c.of.ensures c.of-2.ensures c.first_words.ensures.kept c.requires.cluster in
    let words_are = c.deref.ensures.value ∙ c.in_ok-words.ensures.words in
    let made = c.in-Ok.ensures.ok in
    record {
      planned = (subst IsBoardKey (sym made.5) is, sym (ap (λ k. k.list.value) made.5 ∙ c.of.ensures));
      words = made.0 ∙ ap length words_are ∙ omega (arith, length-map-range_with_len (pending_of c.args.deps.exchanges) 0 (length c.args.deps.exchanges));
      slots = made.1 ∙ ap length c.in_ok-slots.ensures.moved.placed ∙ length-map c.args.tables.items in_place ∙ sym (length-map c.args.tables.items table)
          ∙ c.requires.cluster.size;
      roomy = (
        c.in_ok-slots.ensures.moved.empty,
        omega (
          arith,
          c.in_ok-slots.ensures.moved.fits,
          length-map c.args.tables.items table,
          c.requires.cluster.size,
        ),
      );
    }

pub returns-in-Ok-clause-plan : goal.returns-in-Ok-clause-plan
returns-in-Ok-clause-plan g c =
    let table = g.T.MemoryTable.table in
    ap (key_plan table) c.in-Ok.ensures.ok.5 ∙ (λ j. record { rules = c.args.rules; list = c.of.ensures j; tables = map table ((c.of-2.ensures j).items) })

pub returns-in-Ok-clause-seat : goal.returns-in-Ok-clause-seat
returns-in-Ok-clause-seat g c =
    let made = c.in-Ok.ensures.ok in
    let all = length c.in-Ok.table.shared.key.list.value.exchanges in (
      record {
        id = made.2;
        plan = ap (λ m. m.0.plan) made.4 ∙ ap (key_plan g.T.MemoryTable.table) (sym made.5);
        rests = record {
          slots = ap (λ m. m.1) made.4;
          moving = ap (λ m. m.0.moving) made.4;
          owes = ap (λ m. m.0.owes) made.4;
          parts = subst (λ m. 0 < m.0.seat.parts) (sym made.4) (omega arith);
        };
        within = subst (λ m. (i : ℕ) → Has m.0.seat.held i → i < all) (sym made.4) (λ i has. absurd (omega (arith, has)));
      },
      ap (λ m. m.0.seat) made.4,
    )
