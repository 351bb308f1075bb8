use Rattle.owner_writes.proofs.Common.{◌≡◌, ◌+◌, length, ap, subst, sym, ◌∙◌, arith, OwnerListView, next_entry, view_of, IsKept}
use Rattle.owner_writes.proofs.Keeping.{kept_pushed}
use Rattle.owner_writes.proofs.writes.OwnerWrites.write.Goals as goal

pub invariant_of-self-2 : goal.invariant_of-self-2
invariant_of-self-2 c =
    let w = c.self.inside in
    let v = view_of w.kept.items w.earlier w.generation in
    let count : c.len-version.result ≡ length v.current = c.len-version.ensures ∙ ap (λ (u : OwnerListView). length u.current) (sym c.self.view_is) in
    let next : record { key = c.args.key; generation = c.of-generation.result.value; version = c.len-version.result + 1; value = c.args.value; born = c.args.born } ≡ next_entry v c.args.key c.args.value c.args.born =
    λ i. record { key = c.args.key; generation = c.of-generation.ensures i; version = count i + 1; value = c.args.value; born = c.args.born } in
    subst (λ xs. IsKept xs w.earlier w.generation) (sym c.in_ok-push.ensures.items)
    (kept_pushed w.kept.items w.earlier w.generation c.self.invariant _ c.args.key c.args.value c.args.born next
    (omega (arith, ap (λ (u : OwnerListView). length u.current) c.self.view_is, c.requires)))
