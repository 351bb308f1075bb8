use Rattle.board.proofs.Common.{sym, ◌∙◌, refl, None, Some, ◌≡◌, ◌<◌, ◌+◌, subst, length, IfSome, none, step}
use Rattle.std.proofs.lemmas.Option.{none-some}
use Rattle.board.specs.Boards.{plan_of, exchanges_of}
use Rattle.board.specs.inner.Plays.{OwesTo, IsReleased}
use Rattle.board.proofs.Steps.{release_allowed}
use Rattle.board.proofs.Calls.{with_step, word_within, released_last, released_more}
use Rattle.board.proofs.boards.Board.release.Given as given
use Rattle.board.proofs.boards.Board.release.Goals as goal
use Rattle.board.proofs.boards.Board.release.Goals.{In_ok-j}

owed : (g : given.Over) (c : In_ok-j g) → (c.in_ok-j.j < length (exchanges_of c.args.self.now)) × OwesTo (plan_of g.T.MemoryTable.table c.args.self.now)
    c.args.raw.now.me c.in_ok-j.j
owed g c =
    let some : c.args.next ≡ Some c.in_ok-j.j = c.in_ok-j.was in
    subst (λ x. IfSome x (λ k. (k < length (exchanges_of c.args.self.now)) × OwesTo (plan_of g.T.MemoryTable.table c.args.self.now) c.args.raw.now.me k)) some
    c.requires.owes

pub fetch_sub-found-requires-whole : goal.fetch_sub-found-requires-whole
fetch_sub-found-requires-whole g c κs w =
    let owes = owed g (goal.at.fetch_sub-found-requires g c).In_ok-j in with_step w (
      c.requires.id,
      word_within c.args.self.now c.in_ok-j.j owes.0,
      release_allowed g.T.MemoryTable.table (plan_of g.T.MemoryTable.table c.args.self.now) _ _
          c.args.raw.now.me c.args.raw.now.me.0.seat owes.1.parts owes.1.by c.in_ok-j.j owes.1.more owes.0 owes.1.seat,
    )

pub returns-then-found-eq1 : goal.returns-then-found-eq1
returns-then-found-eq1 g c =
    let j = c.in_ok-j.j in
    let some : c.args.next ≡ Some j = c.in_ok-j.was in record {
      id = c.fetch_sub-found.ensures.0;
      none = λ is. absurd (none-some j (sym is ∙ some));
      released = subst (λ x. IfSome x (λ k. IsReleased (plan_of g.T.MemoryTable.table c.args.self.now) c.args.raw.now.me k
          (Some j) c.fetch_sub-found.new.seat.me)) (sym some)
          (released_last g.T.MemoryTable.table (plan_of g.T.MemoryTable.table c.args.self.now) c.args.raw.now.me c.fetch_sub-found.new.seat.me j
          c.fetch_sub-found.result (step c.args.self.now.table.shared.table_id.slots (j + 1) 1 0 none)
          (owed g (goal.at.returns-then-found-eq1 g c).In_ok-j).1 refl c.fetch_sub-found.ensures.2 c.if-found-eq1.true);
    }

pub returns-else-found-eq1 : goal.returns-else-found-eq1
returns-else-found-eq1 g c =
    let j = c.in_ok-j.j in
    let some : c.args.next ≡ Some j = c.in_ok-j.was in record {
      id = c.fetch_sub-found.ensures.0;
      none = λ is. absurd (none-some j (sym is ∙ some));
      released = subst (λ x. IfSome x (λ k. IsReleased (plan_of g.T.MemoryTable.table c.args.self.now) c.args.raw.now.me k None c.fetch_sub-found.new.seat.me))
          (sym some)
          (released_more g.T.MemoryTable.table (plan_of g.T.MemoryTable.table c.args.self.now) c.args.raw.now.me c.fetch_sub-found.new.seat.me j
          c.fetch_sub-found.result (step c.args.self.now.table.shared.table_id.slots (j + 1) 1 0 none)
          (owed g (goal.at.returns-else-found-eq1 g c).In_ok-j).1 refl c.fetch_sub-found.ensures.2 c.if-found-eq1.false);
    }

pub returns-in_err-j : goal.returns-in_err-j
returns-in_err-j g c =
    let plan = plan_of g.T.MemoryTable.table c.args.self.now in record {
      id = refl;
      none = λ is. (c.from_residual.ensures, refl);
      released = subst (λ x. IfSome x (λ k. IsReleased plan c.args.raw.now.me k c.from_residual.result c.args.raw.now.me)) (sym c.in_err-j.was) tt;
    }
