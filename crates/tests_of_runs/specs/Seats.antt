-- Two seats that two threads are given. Source: this project.
use Rattle.board.specs.Boards.{IsSeatOf}
use Rattle.board.specs.declared.boards.Board.{Board}
use Rattle.board.specs.declared.boards.Seat.{Seat}
use Rattle.node_table.specs.NodeTableView.{NodeTableView, kept_table}

-- both are of this board
abbrev pub AreSeatsOf : Board NodeTableView → Seat NodeTableView → Seat NodeTableView → Type 0
AreSeatsOf board one other = IsSeatOf kept_table one board × IsSeatOf kept_table other board
