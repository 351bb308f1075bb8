use Rattle.scenario.proofs.Common.{◌≡◌, length, map, drop, All, view}
use Rattle.scenario.specs.inner.Elements.{each}
use Rattle.scenario.proofs.Walks.{joined}
use Rattle.scenario.proofs.arrays.array_at.Given as goal

abbrev pub invariant-loop-value : goal.invariant-loop-value
invariant-loop-value g l =
    let checked = g.A.Elements.checked l.format l.nodes in
    record {
      read : each checked (map view l.values) ≡ joined l.elements.items (each checked (map view (drop l.value-index l.values)));
      as_many : length l.elements.items ≡ l.value-index;
      lawful : All (g.A.Elements.lawful l.format l.nodes) l.elements.items;
    }
