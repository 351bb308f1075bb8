use Rattle.version_tables.proofs.Common.{◌≡◌, length, length-map, map, ap, arith, transport, get_or, cell, number_kept, numbers_taken, all_writes, drop_start, bases_in, AreRaised, refl, sym, ◌∙◌, with_items, with_items_is, VersionTableView, HasTaken}
use Rattle.version_tables.proofs.Laid.{seen}
use Rattle.version_tables.proofs.taking.take_unless.Goals as goal

module _ (g : _) (c : goal.After-table-3-1 g) where
  taken : HasTaken c.args.histories.now.lists (seen c.table.view_is) (map g.N.Number.number c.args.cells.now)
      (map g.N.Number.number c.args.arrival.low.now) (map g.N.Number.number c.args.arrival.high.now) (record (seen c.table.view_is) {
        cells = map g.N.Number.number (with_items (with_items c.table.inside.cells c.take.new.cells) c.drop_older.new.cells).items;
        greatest = map g.N.Number.number (with_items c.table.inside.greatest c.take.new.greatest).items;
      })
  taken =
      let inside = c.table.inside in let greatest = with_items_is inside.greatest c.take.new.greatest (c.take.auto.greatest ∙ c.deref_mut-2.ensures.len) in
      let kept = with_items_is (with_items inside.cells c.take.new.cells) c.drop_older.new.cells (c.drop_older.auto.cells ∙ c.deref_mut-3.ensures.len) in
      let sent = map g.N.Number.number c.args.cells.now in let low = map g.N.Number.number c.args.arrival.low.now in
      let high = map g.N.Number.number c.args.arrival.high.now in
      let read = c.deref_mut-3.ensures.value ∙ with_items_is inside.cells c.take.new.cells (c.take.auto.cells ∙ c.deref_mut.ensures.len) in
      let before = c.requires.before ∙ sym (ap (λ (v : VersionTableView). v.greatest) c.table.view_is) in record {
        raised = transport (λ i. AreRaised c.table.inside.nodes c.table.inside.keys (map g.N.Number.number (c.deref_mut.ensures.value i)) sent low high
            (map g.N.Number.number (c.deref_mut-2.ensures.value i)) (map g.N.Number.number (sym greatest i))) c.take.ensures.greatest;
        kept = record {
          size = (λ i. length (map g.N.Number.number (kept i))) ∙ c.drop_older.ensures.size ∙ (λ i. length (map g.N.Number.number (read i)))
              ∙ c.take.ensures.cells.size ∙ (λ i. length (map g.N.Number.number (c.deref_mut.ensures.value i)));
          each = λ owner key in_nodes in_keys.
              let based = c.bases.ensures.each.each owner
              (omega (arith, in_nodes, ap (λ (v : VersionTableView). v.nodes) c.table.view_is, c.requires.may.nodes)) in
              let start = drop_start (all_writes c.args.histories.now.lists owner)
              (get_or (map g.N.Number.number inside.greatest.items) owner 0) (bases_in c.args.histories.now.lists owner) in
              (λ i. cell (map g.N.Number.number (kept i)) c.table.inside.nodes owner key) ∙ c.drop_older.ensures.each owner key in_nodes in_keys
              ∙ (λ i. number_kept (drop_start (all_writes (c.lists.ensures.value i) owner) (get_or (before i) owner 0) (based i)
              (get_or (map g.N.Number.number (c.deref.ensures.value i)) owner 0)) (cell (map g.N.Number.number (read i)) c.table.inside.nodes owner key))
              ∙ ap (number_kept (start (get_or (map g.N.Number.number (with_items inside.greatest c.take.new.greatest).items) owner 0)))
              (c.take.ensures.cells.each owner key in_nodes in_keys
              ∙ (λ i. numbers_taken c.table.inside.nodes (map g.N.Number.number (c.deref_mut.ensures.value i)) sent low high owner key));
        };
        rest = refl;
      }

pub invariant_of-table : goal.invariant_of-table
invariant_of-table g c =
    let stays = rw (← c.table.view_is) at c.requires.may.stays in stays _ (taken g c)

pub returns : goal.returns
returns g c = rw (c.if-arrival.false, ← c.table.view_is) (taken g c)

pub drop_older-requires-clause-known : goal.drop_older-requires-clause-known
drop_older-requires-clause-known g c =
    let many : c.table.inside.nodes ≡ length c.args.histories.now.lists = ap (λ (v : VersionTableView). v.nodes) c.table.view_is ∙ c.requires.may.nodes in
    rw (c.lists.ensures.value, many) (record {
      count = refl;
      base_count = c.bases.ensures.count;
      bases = c.bases.ensures.each;
      numbered = λ owner. (c.lists.ensures.known.so_far owner).numbered;
    })

pub take-requires : goal.take-requires
take-requires g c =
    let kept = c.table.invariant in let nodes = ap (λ (v : VersionTableView). v.nodes) c.table.view_is in
    let size = length-map c.table.inside.cells.items g.N.Number.number in rw (c.deref_mut.ensures.value, c.deref_mut-2.ensures.value) (record {
      may = record {
        beside = record {
          shape = record { whole = omega (arith, size, kept.numbers.size); few_nodes = kept.proper.nodes_limit; few_keys = kept.proper.keys_limit };
          count = omega (arith, size, length-map c.args.cells.now g.N.Number.number, ap (λ (v : VersionTableView). length v.cells) c.table.view_is);
        };
        greatest_count = sym (length-map c.table.inside.greatest.items g.N.Number.number) ∙ kept.most.size;
        low_count = c.requires.may.low_count ∙ sym nodes;
        high_count = c.requires.may.high_count ∙ sym nodes;
        covered = λ owner lt key lt'. (kept.most.each owner lt).upto key lt';
      };
    })

pub drop_older-requires-clause-grid : goal.drop_older-requires-clause-grid
drop_older-requires-clause-grid g c =
    let same = with_items_is c.table.inside.cells c.take.new.cells (c.take.auto.cells ∙ c.deref_mut.ensures.len) in record {
      whole = ap length (c.deref_mut-3.ensures.value ∙ same) ∙ c.take.auto.cells ∙ ap length c.deref_mut.ensures.value
          ∙ sym (length-map c.table.inside.cells.items g.N.Number.number) ∙ c.table.invariant.numbers.size;
      few_nodes = c.table.invariant.proper.nodes_limit;
      few_keys = c.table.invariant.proper.keys_limit;
    }

pub drop_older-requires-clause-before_count : goal.drop_older-requires-clause-before_count
drop_older-requires-clause-before_count g c =
    sym (length-map c.args.before.now g.N.Number.number) ∙ ap length c.requires.before
    ∙ ap (λ (v : VersionTableView). length v.greatest) (sym c.table.view_is) ∙ c.table.invariant.most.size

pub drop_older-requires-clause-greatest_count : goal.drop_older-requires-clause-greatest_count
drop_older-requires-clause-greatest_count g c =
    let same = with_items_is c.table.inside.greatest c.take.new.greatest (c.take.auto.greatest ∙ c.deref_mut-2.ensures.len) in
    ap length (c.deref.ensures.value ∙ same) ∙ c.take.auto.greatest ∙ ap length c.deref_mut-2.ensures.value
    ∙ sym (length-map c.table.inside.greatest.items g.N.Number.number) ∙ c.table.invariant.most.size
