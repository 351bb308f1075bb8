use Rattle.version_lags.proofs.Common.{◌≡◌, ℕ, max, length, map, length-map, leb-true, ap, subst, number-at, IsGrid, refl, sym, ◌∙◌, arith, rules, cell, get_or_default, list_of_owner, no_writes, most_lag}
use Rattle.version_lags.proofs.Parts.{grids-of}
use Rattle.version_lags.proofs.Walks.{lag-recent, most-next}
use Rattle.version_lags.proofs.Whole.{may-walk, figures-are}
use Rattle.version_lags.proofs.lags.Piece.figures.Goals as goal

pub least_behind-requires : goal.least_behind-requires
least_behind-requires g c =
    let numbers = c.args.numbers.now in let last = length-map numbers.last.now g.N.Number.number in
    let least = length-map c.args.self.now.least.items g.N.Number.number in
    record {
      beside = record {
        shape = subst (IsGrid _ numbers.keys) last (grids-of _ _ numbers _ c.requires.are).grid;
        count = omega (arith, ap length c.deref.ensures.value, c.requires.whole.least_is.size, c.requires.are.are.lasts.size);
      };
    }

pub lag_of_owner-lag-requires : goal.lag_of_owner-lag-requires
lag_of_owner-lag-requires g c =
    rw (get_or_default c.args.numbers.now.lists.now c.loop-owner.owner c.index-numbers-owner.result no_writes c.loop-owner-test.true)
    (may-walk c.requires c.deref.result c.deref.ensures.value c.in_ok-firsts.firsts.items c.in_ok-firsts.ensures c.loop-owner.owner c.loop-owner-test.true
    c.index-first.result.now c.index-first.ensures)

pub loop-owner-preserved : goal.loop-owner-preserved
loop-owner-preserved g c =
    let r = c.loop-owner.owner in let joined : c.max-greatest.result ≡ max c.loop-owner.greatest c.lag_of_owner-lag.result = search rules in
    let list = get_or_default c.args.numbers.now.lists.now r c.index-numbers-owner.result no_writes c.loop-owner-test.true in
    most-next _ r _ _ _ c.loop-owner.invariant joined (rw list at c.lag_of_owner-lag.ensures)

pub loop-owner-preserved-then-is_upto : goal.loop-owner-preserved-then-is_upto
loop-owner-preserved-then-is_upto g c =
    let number = g.N.Number.number in let numbers = c.args.numbers.now in let r = c.loop-owner.owner in let lt = c.loop-owner-test.true in
    let since = c.saturating_sub-since.result in let first = c.index-first.result.now in
    let walk =
    may-walk c.requires c.deref.result c.deref.ensures.value c.in_ok-firsts.firsts.items c.in_ok-firsts.ensures r lt first c.index-first.ensures in
    let row = c.row-row.result.now in let read = number-at number row r c.index-row-owner.result (omega (arith, length-map row number)) c.index-row-owner.is in
    let after = leb-true (number c.index-row-owner.result) (number first) (sym c.is_upto.ensures ∙ c.if-is_upto.true) in
    let lag = λ (o : ℕ). most_lag numbers.keys numbers.ends.rounds (list_of_owner numbers.lists.now o)
    (cell (map number c.deref.result.now) (length numbers.lists.now) o) in
    let part = c.requires.are.ends.are_ends.parts r since lt (omega arith) in
    let upto = lag-recent walk.walks since _ c.loop-owner.greatest part (omega (arith, c.row-row.ensures.each r lt)) (omega arith) in
    most-next lag r c.loop-owner.greatest (lag r) c.loop-owner.greatest c.loop-owner.invariant (omega arith) refl

pub returns : goal.returns
returns g c =
    let whole : c.loop-owner.owner ≡ length c.args.numbers.now.lists.now = omega arith in (
      λ tables are.
          figures-are {piece = c.args.self.now} (record c.requires { tables = tables; are = are }) c.deref.result c.deref.ensures.value c.loop-owner.greatest
          (rw whole at c.loop-owner.invariant),
      tt,
    )

pub bounds-row-owner : goal.bounds-row-owner
bounds-row-owner g c = omega (arith, length-map c.row-row.result.now g.N.Number.number)

pub offset_bounds-row-owner : goal.offset_bounds-row-owner
offset_bounds-row-owner g c = omega (arith, bounds-row-owner g c)

pub index-first-requires : goal.index-first-requires
index-first-requires g c = omega (arith, length-map c.in_ok-firsts.firsts.items g.N.Number.number, c.in_ok-firsts.ensures.size)
