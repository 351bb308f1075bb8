use Rattle.version_tables.proofs.Common.{◌≡◌, ◌<◌, ◌∙◌, ℕ, List, length, length-map, nat_tests, refl, subst, arith, ap, number-at, owners-next, owners-all, IsNumberedHistory, all_writes-here, drop_starts, number_kept}
use Rattle.version_tables.proofs.taking.drop_older.Goals as goal

-- what an owner's numbers are dropped up to
starts : (g : _) (c : goal.After-cells-1 g)
    → c.drop_from-start.result ≡ drop_starts g.N.Number.number c.args.owners c.args.before.now c.args.greatest.now c.loop-owner.owner
starts g c =
    let at = λ (xs : List g.row.N.Denot) (x : g.row.N.Denot) (size : length xs ≡ c.args.size.nodes).
    number-at g.N.Number.number xs c.loop-owner.owner x (omega (arith, size, c.loop-owner-test.true)) in
    rw (
      all_writes-here c.args.owners.lists.now c.loop-owner.owner _ (omega (arith, c.requires.known.count, c.loop-owner-test.true)) c.index-lists-owner.is,
      ← at c.args.before.now c.index-before-owner.result c.requires.before_count c.index-before-owner.is,
      ← at c.args.owners.bases.now c.index-bases-owner.result c.requires.known.base_count c.index-bases-owner.is,
      ← at c.args.greatest.now c.index-greatest-owner.result c.requires.greatest_count c.index-greatest-owner.is,
    ) c.drop_from-start.ensures

pub drop_from-start-requires : goal.drop_from-start-requires
drop_from-start-requires g c =
    subst IsNumberedHistory (all_writes-here c.args.owners.lists.now c.loop-owner.owner c.index-lists-owner.result
    (omega (arith, c.requires.known.count, c.loop-owner-test.true)) c.index-lists-owner.is) (c.requires.known.numbered c.loop-owner.owner)

pub loop-owner-preserved : goal.loop-owner-preserved
loop-owner-preserved g c =
    owners-next _ _ _ _ _ (λ r k x. number_kept c.drop_from-start.result x) _ _ c.loop-owner.invariant c.drop_owner.ensures
    (λ k x. ap (λ n. number_kept n x) (starts g c))

pub returns : goal.returns
returns g c = owners-all _ _ _ _ _ _ c.loop-owner-test.false c.loop-owner.invariant

pub returns-then-none_upto : goal.returns-then-none_upto
returns-then-none_upto g c =
    let size = length-map c.args.before.now g.N.Number.number ∙ c.requires.before_count in
    let none = λ (r : ℕ) (lt : r < c.args.size.nodes). c.none_upto.ensures.0 c.if-none_upto.true r (omega (arith, lt, size)) in
    record { size = refl; each = λ owner key lt _. grind (arith, nat_tests, none owner lt) }
