use Rattle.board.proofs.Common.{arith, ap, sym, ◌∙◌, refl, length, map, ◌≡◌, ◌/◌, get_or, slots_items, slots_counts, RoundListView}
use Rattle.board.specs.Boards.{plan_of, seat_view, exchanges_of}
use Rattle.board.specs.Rule.{Orderly}
use Rattle.board.specs.Models.{slot_model}
use Rattle.board.proofs.Ends.{EndTells, ends}
use Rattle.board.proofs.Modelled.{final_model}
use Rattle.board.proofs.Calls.{resting_seat}
use Rattle.board.proofs.Filling.{first_word, planned_by, close_left}
use Rattle.board.proofs.boards.Board.close.Given as given
use Rattle.board.proofs.boards.Board.close.Goals as goal
use Rattle.board.proofs.boards.Board.close.Goals.{After-word-finished}

-- what the words and the slots tell at the end, and the word that counts
ended : (g : given.Over) (c : After-word-finished g) → EndTells (plan_of g.T.MemoryTable.table c.args.self) (seat_view c.args.seat)
    (slots_items c.close_with-closed.result.words) (map (slot_model g.T.MemoryTable.table) (slots_items c.close_with-closed.result.slots))
    × (get_or (slots_items c.close_with-closed.result.words) 0 0 ≡ c.word-finished.result)
ended g c =
    let table = g.T.MemoryTable.table in
    let plan = plan_of table c.args.self in
    let seat = c.args.seat in
    let words = slots_items c.close_with-closed.result.words in
    let slots = slots_items c.close_with-closed.result.slots in (
      ends plan seat.raw.id seat.raw.me.0 (seat_view seat) words (map (slot_model table) slots) (resting_seat table c.args.self seat c.requires.seat)
          (final_model table (Orderly plan) seat.raw.id seat.raw.me.0 words slots c.close_with-closed.ensures.values.2),
      first_word words c.word-finished.result c.word-finished.ensures,
    )

pub returns-then-finished-from-clause-unfinished : goal.returns-then-finished-from-clause-unfinished
returns-then-finished-from-clause-unfinished g c =
    let end = ended g (goal.at.returns-then-finished-from-clause-unfinished g c).After-word-finished in
    let all : c.from.result ≡ length (exchanges_of c.args.self) =
    c.from.ensures ∙ c.len.ensures.value ∙ ap (λ (l : RoundListView). length l.exchanges) c.args.self.planned.1 in
    (refl, (omega (arith, end.0.tells.seen, end.1, all, c.if-finished-from.true), omega (arith, end.0.tells.made, end.1, all, c.if-finished-from.true)))

pub returns-clause-tables : goal.returns-clause-tables
returns-clause-tables g c =
    let table = g.T.MemoryTable.table in
    let plan = plan_of table c.args.self in
    let slots = slots_items c.close_with-closed.result.slots in
    let end = ended g (goal.at.returns-clause-tables g c).After-word-finished in
    let all : c.from.result ≡ length plan.list.exchanges =
    c.from.ensures ∙ c.len.ensures.value ∙ ap (λ (l : RoundListView). length l.exchanges) c.args.self.planned.1 in
    let count : length slots ≡ plan.list.nodes = sym (slots_counts c.close_with-closed.result.slots).0 ∙ c.close_with-closed.ensures.counts.1
    ∙ c.args.self.slots ∙ ap (λ (l : RoundListView). l.nodes) c.args.self.planned.1 in
    let left = close_left table plan slots (planned_by table c.args.self.table.shared.key c.args.self.planned.0) count
    (end.0.tables (omega (arith, end.0.tells.most, end.1, all, c.if-finished-from.false))) in
    ap (map table) (c.all_out-tables.ensures left.0 left.1) ∙ left.2

pub returns-clause-whole : goal.returns-clause-whole
returns-clause-whole g c =
    let end = ended g (goal.at.returns-clause-whole g c).After-word-finished in
    let all : c.from.result ≡ length (exchanges_of c.args.self) =
    c.from.ensures ∙ c.len.ensures.value ∙ ap (λ (l : RoundListView). length l.exchanges) c.args.self.planned.1 in
    let full : get_or (slots_items c.close_with-closed.result.words) 0 0 / 2 ≡ length (exchanges_of c.args.self) =
    omega (arith, end.0.tells.most, end.1, all, c.if-finished-from.false) in
    λ whole. (sym (end.0.tells.whole_count whole) ∙ full, end.0.whole whole full)

pub all_out-tables-requires : goal.all_out-tables-requires
all_out-tables-requires g c =
    let counts = c.close_with-closed.ensures.counts.1 in
    record { room = (c.close_with-closed.ensures.values.1, c.args.self.roomy.0, omega (arith, counts, c.args.self.slots, c.args.self.roomy.1)) }
