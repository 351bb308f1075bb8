use Rattle.reconcile.proofs.Common.{◌≡◌, ◌≢◌, ◌-◌, ◌⊎◌, ◌∙◌, ap, length, take, drop, get_or, inl, inr, arith, sym}
use Rattle.reconcile.proofs.Ranked.{no_entry, ranked-beyond, ranked-tied, ranked-from}
use Rattle.reconcile.proofs.suffixes.entries_ranked.Goals as goal
use Rattle.reconcile.proofs.suffixes.entries_ranked.Goals.{Joined-else-rank-gt0, else-rank-gt0-via-then-rank-gt0+else-entries-rank, else-rank-gt0-via-else-rank-gt0}

pub returns-then-rank-entries : goal.returns-then-rank-entries
returns-then-rank-entries c = sym (ranked-beyond c.args.entries.now c.requires c.args.rank (omega arith))

pub returns-then-entries-rank : goal.returns-then-entries-rank
returns-then-entries-rank c = sym (ranked-tied c.args.entries.now c.requires c.args.rank no_entry c.if-rank-gt0.true c.if-rank-entries.false c.if-entries-rank.true)

begins : (c : Joined-else-rank-gt0) → (c.args.rank ≡ 0) ⊎ ((get_or c.args.entries.now (c.args.rank - 1) no_entry).version ≢ (get_or c.args.entries.now c.args.rank no_entry).version)
begins c = elim c.else-rank-gt0.branch [
  | else-rank-gt0-via-then-rank-gt0+else-entries-rank w ↦ inr w.if-entries-rank.false
  | else-rank-gt0-via-else-rank-gt0 w ↦ inl (omega (arith, w.if-rank-gt0.false))
]

pub returns-then-entries-end : goal.returns-then-entries-end
returns-then-entries-end c =
    let es = c.args.entries.now in
    let rank = c.args.rank in
    sym (ranked-from es c.requires rank c.loop-end.end no_entry c.loop-end.invariant.behind (omega (arith, c.loop-end-test.true)) (begins (goal.at.returns-then-entries-end c).Joined-else-rank-gt0) c.loop-end.invariant.same (inr c.if-entries-end.true))

pub returns : goal.returns
returns c =
    let es = c.args.entries.now in
    let rank = c.args.rank in
    let end : c.loop-end.end ≡ length es = omega arith in
    ap (λ n. take (n - rank) (drop rank es)) (sym end)
    ∙ sym (ranked-from es c.requires rank c.loop-end.end no_entry c.loop-end.invariant.behind (omega arith) (begins (goal.at.returns c).Joined-else-rank-gt0) c.loop-end.invariant.same (inl end))
