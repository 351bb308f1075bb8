-- Places are in a total order, in which only equal places tie.
-- Serves most of the crate and `node_table`.
use Rattle.model.proofs.Common.{◌≡◌, ap, ◌∙◌, Ordering, nat_cmp, ordering_reverse, IsTotalOrder, nat_cmp_total, on_total, then_total, IsAntisymmetric, nat_cmp-IsAntisymmetric, both_equal}
use Rattle.model.specs.Table.{Place, place_cmp}

pub place_total : IsTotalOrder place_cmp
place_total = then_total (on_total (λ (p : Place). p.0) nat_cmp_total) (on_total (λ (p : Place). p.1) nat_cmp_total)

pub place_same : IsAntisymmetric place_cmp
place_same p q e =
    let parts = both_equal (nat_cmp p.0 q.0) (nat_cmp p.1 q.1) e in
    λ i. (nat_cmp-IsAntisymmetric p.0 q.0 parts.0 i, nat_cmp-IsAntisymmetric p.1 q.1 parts.1 i)

-- the comparison the other way round
pub place_turned : (p q : Place) (r : Ordering) → place_cmp p q ≡ r → place_cmp q p ≡ ordering_reverse r
place_turned p q r e = place_total.antisymm q p ∙ ap ordering_reverse e
