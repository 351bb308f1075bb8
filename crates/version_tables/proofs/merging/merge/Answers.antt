use Rattle.version_tables.proofs.Common.{◌≡◌, ℕ, ◌*◌, length, length-map, map, ap, refl, sym, ◌∙◌, with_items, with_items_is, VersionTableView, BothStayMerged, HasMerged, HaveMerged, ArePlanesChanged, AreChanged, BothCounts, number_raised, cell, get_or, max, total_above, transport}
use Rattle.version_tables.proofs.Laid.{seen}
use Rattle.version_tables.proofs.merging.merge.Goals as goal

module _ (g : _) (c : goal.After-responder-2-1 g) where
  abbrev number : g.row.N.Denot → ℕ
  number = g.N.Number.number

  stay : BothStayMerged g.H.Written.lists (seen c.initiator.view_is) (seen c.responder.view_is)
  stay = rw (c.initiator.view_is, c.responder.view_is) c.requires

  came : HasMerged (seen c.responder.view_is) (seen c.initiator.view_is) (record (seen c.initiator.view_is) {
    cells = map number (with_items c.initiator.inside.cells c.merge-came.new.first).items;
    greatest = map number (with_items c.initiator.inside.greatest c.raise_both.new.first).items;
  })
  came =
      let cells = with_items_is c.initiator.inside.cells c.merge-came.new.first (c.merge-came.auto.first ∙ c.deref_mut.ensures.len) in
      let greatest = with_items_is c.initiator.inside.greatest c.raise_both.new.first (c.raise_both.auto.first ∙ c.deref_mut-3.ensures.len) in
      record {
        numbers = transport (λ i. ArePlanesChanged (λ r k x y. y ≡ number_raised x
            (cell (map number (c.deref_mut-2.ensures.value i)) c.initiator.inside.nodes r k) (get_or (map number (c.deref.ensures.value i)) r 0))
            c.initiator.inside.nodes c.initiator.inside.keys (map number (c.deref_mut.ensures.value i)) (map number (sym cells i))) c.merge-came.ensures.first;
        most = transport (λ i. AreChanged (λ r x y. y ≡ max x (get_or (map number (c.deref_mut-4.ensures.value i)) r 0))
            (map number (c.deref_mut-3.ensures.value i)) (map number (sym greatest i))) c.raise_both.ensures.first;
        rest = refl;
      }

  went : HasMerged (seen c.initiator.view_is) (seen c.responder.view_is) (record (seen c.responder.view_is) {
    cells = map number (with_items c.responder.inside.cells c.merge-came.new.second).items;
    greatest = map number (with_items c.responder.inside.greatest c.raise_both.new.second).items;
  })
  went =
      let cells = with_items_is c.responder.inside.cells c.merge-came.new.second (c.merge-came.auto.second ∙ c.deref_mut-2.ensures.len) in
      let greatest = with_items_is c.responder.inside.greatest c.raise_both.new.second (c.raise_both.auto.second ∙ c.deref_mut-4.ensures.len) in
      record {
        numbers = transport (λ i. ArePlanesChanged (λ r k x y. y ≡ number_raised x (cell (map number (c.deref_mut.ensures.value i)) (stay.nodes i) r k)
            (get_or (map number (c.deref-2.ensures.value i)) r 0)) (stay.nodes i) (stay.keys i) (map number (c.deref_mut-2.ensures.value i))
            (map number (sym cells i))) c.merge-came.ensures.second;
        most = transport (λ i. AreChanged (λ r x y. y ≡ max x (get_or (map number (c.deref_mut-3.ensures.value i)) r 0))
            (map number (c.deref_mut-4.ensures.value i)) (map number (sym greatest i))) c.raise_both.ensures.second;
        rest = refl;
      }

-- what was merged is what was seen
as-seen : {p q p' q' to from : VersionTableView} {came : BothCounts} → p ≡ to → q ≡ from → HaveMerged p q p' q' came → HaveMerged to from p' q' came
as-seen to_is from_is have = rw (to_is, from_is) at have

pub invariant_of-initiator : goal.invariant_of-initiator
invariant_of-initiator g c = (stay g c).first _ (came g c)

pub invariant_of-responder : goal.invariant_of-responder
invariant_of-responder g c = (stay g c).second _ (went g c)

pub returns : goal.returns
returns g c =
    as-seen c.initiator.view_is c.responder.view_is (record {
      first = came g c;
      second = went g c;
      back = c.merge-came.ensures.first_count ∙ (λ i. total_above ((stay g c).nodes i) ((stay g c).keys i)
          (map g.N.Number.number (c.deref_mut-2.ensures.value i)) (map g.N.Number.number (c.deref.ensures.value i)));
      forth = c.merge-came.ensures.second_count ∙ (λ i. total_above c.initiator.inside.nodes c.initiator.inside.keys
          (map g.N.Number.number (c.deref_mut.ensures.value i)) (map g.N.Number.number (c.deref-2.ensures.value i)));
    })

pub merge-came-requires : goal.merge-came-requires
merge-came-requires g c =
    let other = c.responder.inside in let kept = c.initiator.invariant in
    let nodes : c.initiator.inside.nodes ≡ other.nodes = ap (λ (v : VersionTableView). v.nodes) c.initiator.view_is ∙ c.requires.nodes
    ∙ ap (λ (v : VersionTableView). v.nodes) (sym c.responder.view_is) in
    let keys : c.initiator.inside.keys ≡ other.keys = ap (λ (v : VersionTableView). v.keys) c.initiator.view_is ∙ c.requires.keys
    ∙ ap (λ (v : VersionTableView). v.keys) (sym c.responder.view_is) in
    let size = sym (length-map c.initiator.inside.cells.items g.N.Number.number) ∙ kept.numbers.size in record {
      marked = rw (c.deref.ensures.value, c.deref-2.ensures.value, c.deref_mut.ensures.value, c.deref_mut-2.ensures.value) (record {
        grid = record { whole = size; few_nodes = kept.proper.nodes_limit; few_keys = kept.proper.keys_limit };
        second = sym (length-map other.cells.items g.N.Number.number) ∙ c.responder.invariant.numbers.size ∙ (λ i. sym keys i * sym nodes i) ∙ sym size;
        first_low = sym (length-map c.initiator.inside.greatest.items g.N.Number.number) ∙ kept.most.size;
        second_low = sym (length-map other.greatest.items g.N.Number.number) ∙ c.responder.invariant.most.size ∙ sym nodes;
        first_covered = λ owner lt key lt'. (kept.most.each owner lt).upto key lt';
        second_covered = rw (nodes, keys) (λ owner lt key lt'. (c.responder.invariant.most.each owner lt).upto key lt');
      });
    }

pub raise_both-requires : goal.raise_both-requires
raise_both-requires g c =
    let number = g.N.Number.number in
    let nodes = ap (λ (v : VersionTableView). v.nodes) c.initiator.view_is ∙ c.requires.nodes
    ∙ ap (λ (v : VersionTableView). v.nodes) (sym c.responder.view_is) in record {
      second = ap length c.deref_mut-4.ensures.value ∙ sym (length-map c.responder.inside.greatest.items number) ∙ c.responder.invariant.most.size
          ∙ sym nodes ∙ sym c.initiator.invariant.most.size ∙ length-map c.initiator.inside.greatest.items number ∙ sym (ap length c.deref_mut-3.ensures.value);
    }
