use Rattle.std.proofs.Common.{◌≡◌, ℕ, ◌+◌, ◌-◌, ◌*◌, ◌<◌, ◌≤◌, arith, rules}
use Rattle.round_histories.proofs.EmptyTables.{made_in_shares}
use Rattle.round_histories.proofs.openings.+rest.Goals as goal

pub returns : goal.returns
returns g t c =
    let h = g.K.RoundHistories.kept c.args.histories.now in
    let start = c.args.shares.nodes.start in
    let middle = start + c.args.shares.size in
    let made = c.join-first.ensures in (
      made_in_shares h g.T.MemoryTable.table start middle c.args.shares.nodes.end _ _ c.joined.result (omega arith)
          (omega (arith, c.if-end-start.false)) c.joined.ensures.0 made.first.0 made.second.0,
      c.joined.ensures.1,
    )

-- a share is taken off
middle : (start end size n t : ℕ) → 1 ≤ size → start ≤ end → end ≤ n → size < end - start → 2 * (end - start) ≡ t
    → (start ≤ start + size) × (start + size ≤ n) × (start + size ≤ end) × (2 * (end - (start + size)) + 1 < t)
middle start end size n t some is within more whole = (omega arith, omega arith, omega arith, omega arith)

pub join-first-requires-after_bounds : goal.join-first-requires-after_bounds
join-first-requires-after_bounds g t c _ _ =
    let m = middle c.args.shares.nodes.start c.args.shares.nodes.end _ _ t c.args.shares.some c.requires.0 c.requires.1 c.if-end-start.false c.decreases in
    (((m.0, m.1), search rules), (m.3, ((λ a m. m), ((λ a m. m), ((λ a m. m), ((λ a m. m), (((m.2, c.requires.1), c.args.shares.some), search rules)))))))

pub fn::empty_tables_by::others+FnOnce::call_once-others-requires : goal.fn::empty_tables_by::others+FnOnce::call_once-others-requires
fn::empty_tables_by::others+FnOnce::call_once-others-requires g t c _ b =
    let r = c.requires.1.1.1.1 in
    (omega (arith, c.decreases), (b.0, (b.1.0, (b.1.1.0, (b.1.1.1, (r.1.0, (r.1.1, (r.1.2, (r.1.3, r.0)))))))))
