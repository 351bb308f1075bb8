use Rattle.version_tables.proofs.Common.{refl, ◌<◌, length, length-map, set, subst, sym, ◌∙◌, with_items_is, begun_generation, list_of_owner, ListBecomes, HistoriesView}
use Rattle.version_tables.proofs.HistoryCalls.{count-read, histories-begun, list-becomes, nodes-are, numbers-set, owner-within}
use Rattle.version_tables.proofs.histories.Histories.begin_generation.Goals as goal

module _ (g : _) (c : goal.After-self-2-1 g) where
  in_range : c.args.owner < length c.self.inside.lists.items
  in_range = subst (λ (h : HistoriesView). c.args.owner < length h.lists) (sym c.self.view_is) c.requires.owner

  becomes : ListBecomes c.args.owner (begun_generation (list_of_owner c.self.inside.lists.items c.args.owner)) c.self.inside.lists.items
      (set c.self.inside.lists.items c.args.owner c.begin_generation.new.self)
  becomes = list-becomes c.self.inside.lists.items c.args.owner c.index_mut.result.now c.begin_generation.new.self begun_generation in_range
      c.index_mut.ensures.value c.begin_generation.ensures

pub invariant_of-self : goal.invariant_of-self
invariant_of-self g c =
    let owner = c.args.owner in
    let n = count-read g.N.Number.number c.self.inside.counts.items c.self.invariant owner c.index-count.result.now (in_range g c) c.index-count.ensures in
    rw (with_items_is c.self.inside.lasts c.drop_owner.new.cells (c.drop_owner.auto.cells ∙ c.deref_mut.ensures.len))
    (nodes-are (histories-begun c.self.invariant (set c.self.inside.lists.items owner c.begin_generation.new.self) owner (in_range g c) (becomes g c)
    (numbers-set g.N.Number.number c.self.inside.bases.items owner c.index-count.result.now _ n)
    (rw (c.widen.ensures, n, c.len.ensures ∙ c.self.inside.lists.ok.0, c.deref_mut.ensures.value) at c.drop_owner.ensures)))

pub returns : goal.returns
returns g c = rw (← c.self.view_is) (record { lists = becomes g c; beside = record { keys = refl; rounds = refl } })

pub drop_owner-requires : goal.drop_owner-requires
drop_owner-requires g c =
    let whole = sym (length-map c.self.inside.lasts.items g.N.Number.number) ∙ c.self.invariant.last.size in
    let among = subst (λ (h : HistoriesView). c.args.owner < length h.lists) (sym c.self.view_is) c.requires.owner in
    rw (c.deref_mut.ensures.value, c.len.ensures, c.self.inside.lists.ok.0)
    (record { grid = record { whole = whole; few_nodes = c.self.invariant.limits.few_nodes; few_keys = c.self.invariant.limits.few_keys }; among = among })

pub index-count-requires : goal.index-count-requires
index-count-requires g c = owner-within g.N.Number.number c.self.inside.counts c.self.invariant.counted.size c.self.view_is c.requires.owner

pub index_mut-requires-2 : goal.index_mut-requires-2
index_mut-requires-2 g c = owner-within g.N.Number.number c.self.inside.bases c.self.invariant.based.size c.self.view_is c.requires.owner
