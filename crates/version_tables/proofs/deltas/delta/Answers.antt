use Rattle.version_tables.proofs.Common.{◌≡◌, ◌*◌, refl, map, cell, get_or, transport, digest_size, table_in, total_above, offered_by, HasEachPlace, AreOffered, AreTold, sym, ap, ◌∙◌, arith, length, length-map}
use Rattle.version_tables.proofs.DigestSizes.{cells-size}
use Rattle.version_tables.proofs.Fitting.{IsLaid, greatest-within}
use Rattle.version_tables.proofs.deltas.delta.Goals as goal

pub told-requires-clause-known : goal.told-requires-clause-known
told-requires-clause-known g c =
    let laid : IsLaid g.H.Written.lists g.N.Number.most c.args.course.now.histories.now c.args.receiver.now =
    record { known = c.lists.ensures.known; fits = c.requires.both.second; kept = c.greatest.ensures.kept } in
    rw (c.lists.ensures.value, c.greatest.ensures.value) (record {
      count = c.greatest.ensures.kept.most.size ∙ c.requires.both.second.nodes;
      base_count = c.bases.ensures.each.size;
      few_nodes = omega (arith, c.requires.both.second.nodes, c.greatest.ensures.kept.proper.nodes_limit);
      each = λ owner lt. record {
        few = (laid.known.so_far owner).few;
        within = greatest-within laid owner (omega (arith, lt, c.requires.both.second.nodes));
        based = c.bases.ensures.each.each owner lt;
        writes = laid.known.writes owner;
        numbered = (laid.known.so_far owner).numbered;
      };
    })

pub delta_above-requires-clause-offered : goal.delta_above-requires-clause-offered
delta_above-requires-clause-offered g c =
    let grid = c.grid-grid.ensures in record {
      kept = c.greatest.ensures.kept;
      told = transport (λ i. AreTold (c.digest_kind-kind.ensures i) g.N.Number.most (record c.args.course.now.histories.now { lists = c.lists.ensures.value i })
          (record c.args.receiver.now { node = c.node-own.ensures.value i; greatest = c.greatest.ensures.value i }) (map g.N.Number.number
          c.in_ok-low.low.items)) c.in_ok-low.ensures.told;
      cells = transport (λ i. AreOffered ((sym c.in-Scuttle.is ∙ c.digest_kind-kind.ensures) i) c.args.sender.now c.args.receiver.now
          (map g.N.Number.number c.in_ok-low.low.items) (sym grid.cells i)) (record { size = grid.kept.numbers.size; each = λ _ _ _ _. refl });
      found = c.total_above.ensures ∙ (λ i. total_above (grid.nodes i) (grid.keys i)
          (map g.N.Number.number c.grid-grid.result.cells.now) (map g.N.Number.number (c.deref.ensures.value i)));
      digest = c.digest_size.ensures.size;
    }

pub delta_above-requires-in-Precise-clause-offered : goal.delta_above-requires-in-Precise-clause-offered
delta_above-requires-in-Precise-clause-offered g c =
    let ahead = c.in_ok-ahead-in-Precise.ensures in let grid = c.grid-grid.ensures in
    let number = g.N.Number.number in let low = c.deref-in-Precise.ensures.value in
    let kind = sym c.in-Precise.is ∙ c.digest_kind-kind.ensures in record {
      kept = c.greatest.ensures.kept;
      told = transport (λ i. AreTold (c.digest_kind-kind.ensures i) g.N.Number.most (record c.args.course.now.histories.now { lists = c.lists.ensures.value i })
          (record c.args.receiver.now { node = c.node-own.ensures.value i; greatest = c.greatest.ensures.value i }) (map g.N.Number.number
          c.in_ok-low.low.items)) c.in_ok-low.ensures.told;
      cells = transport (λ i. HasEachPlace (grid.nodes i) (grid.keys i) (λ r k n. n ≡ offered_by (kind i) (cell (grid.cells i)
          (grid.nodes i)) (cell (c.cells.ensures.value i) ((grid.nodes ∙ c.requires.both.nodes) i)) (λ r. get_or (map number (low i)) r 0) r k)
          (map number (sym c.deref-in-Precise-2.ensures.value i))) ahead.numbers;
      found = ahead.count ∙ (λ i. total_above (grid.nodes i) (grid.keys i) (map number (sym c.deref-in-Precise-2.ensures.value i)) (map number (low i)));
      digest = ahead.held ∙ cells-size grid.kept number c.grid-grid.result.cells.now grid.cells
          ∙ (λ i. digest_size (kind i) (table_in g.H.Written.lists c.args.sender.now));
    }

pub total_above-requires : goal.total_above-requires
total_above-requires g c =
    let grid = c.grid-grid.ensures in record {
      marked = record {
        marks = record {
          shape = grid.shape;
          low_count = ap length c.deref.ensures.value ∙ sym (length-map c.in_ok-low.low.items g.N.Number.number) ∙ c.in_ok-low.ensures.told.size
              ∙ ap length c.lists.ensures.value ∙ sym c.requires.both.first.nodes ∙ sym grid.nodes;
          high_count = c.greatest-in-Scuttle.ensures.count ∙ sym grid.nodes;
        };
        covered = rw (grid.nodes, grid.keys, grid.cells, c.greatest-in-Scuttle.ensures.value)
            (λ owner lt key lt_k. (grid.kept.most.each owner lt).upto key lt_k);
      };
    }

pub ahead-requires : goal.ahead-requires
ahead-requires g c =
    let grid = c.grid-grid.ensures in record {
      marks = record {
        shape = grid.shape;
        count = ap length c.deref-in-Precise.ensures.value ∙ sym (length-map c.in_ok-low.low.items g.N.Number.number) ∙ c.in_ok-low.ensures.told.size
            ∙ ap length c.lists.ensures.value ∙ sym c.requires.both.first.nodes ∙ sym grid.nodes;
      };
      peer_count = sym (length-map c.cells.result.now g.N.Number.number) ∙ ap length c.cells.ensures.value ∙ c.cells.ensures.kept.numbers.size
          ∙ (λ i. (sym c.requires.both.keys ∙ sym grid.keys) i * (sym c.requires.both.nodes ∙ sym grid.nodes) i) ∙ sym grid.shape.whole;
      among = omega (arith, c.node-own.ensures.value, c.cells.ensures.kept.proper.node_below, c.requires.both.nodes, grid.nodes);
    }

pub delta_above-requires-clause-may : goal.delta_above-requires-clause-may
delta_above-requires-clause-may g c = c.requires

pub delta_above-requires-in-Precise-clause-may : goal.delta_above-requires-in-Precise-clause-may
delta_above-requires-in-Precise-clause-may g c = c.requires
