use Rattle.version_tables.proofs.Common.{rules, arith, refl, ◌≡◌, ◌+◌, ◌*◌, ◌<◌, length, length-map, map, set, set-get_or, ap, subst, sym, ◌∙◌, all_writes, err_from_is_err_and, list_of_owner, with_write, ListBecomes, HistoriesView, MayAddWrite, AreKnown}
use Rattle.version_tables.proofs.HistoryCalls.{count-read, histories-written, list-becomes, nodes-are, numbers-set, owner-within, place-within, seen}
use Rattle.version_tables.proofs.histories.Histories.write.Goals as goal

module _ (g : _) (c : goal.After-self-3-1 g) where
  may : MayAddWrite g.H.Written.lists g.N.Number.most (seen c.self.view_is) c.args.owner c.args.key c.args.value
  may = subst (λ h. MayAddWrite g.H.Written.lists g.N.Number.most h c.args.owner c.args.key c.args.value) (sym c.self.view_is) c.requires

  counted : g.N.Number.number c.plus-number.result ≡ length (all_writes c.self.inside.lists.items c.args.owner) + 1
  counted =
      let counts = c.self.inside.counts.items in let is = c.index_mut-count.ensures.value in c.plus-number.ensures
      ∙ ap (λ n. n + 1) (count-read g.N.Number.number counts c.self.invariant c.args.owner c.index_mut-count.result.now may.owner_below is)

  becomes : ListBecomes c.args.owner (with_write (list_of_owner c.self.inside.lists.items c.args.owner) c.args.key c.args.value (c.self.inside.rounds + 1))
      c.self.inside.lists.items (set c.self.inside.lists.items c.args.owner c.write.new.self)
  becomes = list-becomes c.self.inside.lists.items c.args.owner c.index_mut.result.now c.write.new.self
      (λ v. with_write v c.args.key c.args.value (c.self.inside.rounds + 1)) may.owner_below c.index_mut.ensures.value c.in_ok-write.ensures.ok

pub invariant_of-self-2 : goal.invariant_of-self-2
invariant_of-self-2 g c =
    let lists = c.self.inside.lists.items in let owner = c.args.owner in let count : c.len-nodes.result ≡ length lists = search rules in
    nodes-are (histories-written c.self.invariant (set lists owner c.write.new.self) owner (may g c).owner_below c.args.key c.args.value (may g c) (becomes g c)
    (numbers-set g.N.Number.number _ owner c.plus-number.result _ (counted g c))
    (numbers-set g.N.Number.number _ (c.args.key * c.len-nodes.result + owner) c.plus-number.result _ (counted g c)
    ∙ ap (λ n. set (map g.N.Number.number c.self.inside.lasts.items) (c.args.key * n + owner) (length (all_writes lists owner) + 1)) count))

pub returns-clause-number : goal.returns-clause-number
returns-clause-number g c = rw (← c.self.view_is) (counted g c)

pub returns-clause-ok : goal.returns-clause-ok
returns-clause-ok g c = rw (← c.self.view_is) (record { lists = becomes g c; beside = record { keys = refl; rounds = refl } })

pub index_mut-requires-2 : goal.index_mut-requires-2
index_mut-requires-2 g c =
    let within = place-within (length c.self.inside.lists.items) c.self.inside.keys c.args.owner c.args.key
    (omega (arith, ap (λ (h : HistoriesView). length h.lists) c.self.view_is)) (omega (arith, ap (λ (h : HistoriesView). h.keys) c.self.view_is)) in
    subst (λ n. c.args.key * n + c.args.owner < c.self.inside.lasts.len) (sym (c.len-nodes.ensures ∙ c.self.inside.lists.ok.0))
    (omega (arith, within, c.self.invariant.last.size, length-map c.self.inside.lasts.items g.N.Number.number, c.self.inside.lasts.ok.0))

-- after an error the lists are as they were
unchanged : (g : _) (c : goal.After-from_residual g) → set c.self.inside.lists.items c.args.owner c.write.new.self ≡ c.self.inside.lists.items
unchanged g c =
    ap (set c.self.inside.lists.items c.args.owner) (c.in_err-write.ensures.err ∙ c.index_mut.ensures.value)
    ∙ set-get_or c.self.inside.lists.items c.args.owner c.index_mut.result.now

pub invariant_of-self : goal.invariant_of-self
invariant_of-self g c = rw (unchanged g c) c.self.invariant

pub plus-number-requires : goal.plus-number-requires
plus-number-requires g c =
    subst (λ n. n < g.N.Number.most) (sym (count-read g.N.Number.number c.self.inside.counts.items c.self.invariant c.args.owner c.index_mut-count.result.now
    (subst (λ (h : HistoriesView). c.args.owner < length h.lists) (sym c.self.view_is) c.requires.owner_below) c.index_mut-count.ensures.value))
    (c.self.invariant.known.so_far c.args.owner).few

pub index_mut-count-requires : goal.index_mut-count-requires
index_mut-count-requires g c = owner-within g.N.Number.number c.self.inside.counts c.self.invariant.counted.size c.self.view_is c.requires.owner_below

pub returns-clause-known : goal.returns-clause-known
returns-clause-known g c = subst (AreKnown g.H.Written.lists g.N.Number.most) c.self.view_is c.self.invariant.known

pub returns-in_err-write-clause-err : goal.returns-in_err-write-clause-err
returns-in_err-write-clause-err g c = rw ((err_from_is_err_and c.from_residual.result c.from_residual.ensures.1).1, unchanged g c) c.self.view_is
