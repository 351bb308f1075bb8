use Rattle.owner_lists.proofs.Common.{◌≡◌, ◌+◌, length, sym, ap, ◌∙◌, subst, arith, nat_cmp, put, OwnerListView, Write, next_entry, write_of_entry}
use Rattle.owner_lists.specs.Latest.{keyed}
use Rattle.owner_lists.specs.inner.Kept.{IsKeptList}
use Rattle.owner_lists.proofs.Keeping.{list_written}
use Rattle.owner_lists.proofs.lists.OwnerList.write.Goals as goal

pub invariant_of-self-2 : goal.invariant_of-self-2
invariant_of-self-2 c =
    let l = c.self.inside in
    let v = l.writes in
    let count : c.len-version.result ≡ length v.current = c.len-version.ensures.value ∙ ap (λ (u : OwnerListView). length u.current) (sym c.self.view_is) in
    let w : Write = record { key = c.args.key; version = c.len-version.result + 1; born = c.args.born } in
    let next : w ≡ write_of_entry (next_entry v c.args.key c.args.value c.args.born) = ap (λ n. record w { version = n + 1 }) count in
    subst (λ u. IsKeptList u c.put.new.writes.items) (sym c.in_ok-write.ensures.ok)
    (list_written v l.latest.items c.self.invariant c.args.key c.args.value c.args.born w c.put.new.writes.items next
    (omega (arith, ap (λ (u : OwnerListView). length u.current) c.self.view_is, c.requires))
    (ap (λ ws. put nat_cmp c.args.key w (keyed ws)) (sym c.in_ok-reserve.ensures.items) ∙ c.put.ensures))
