-- Lists of items that rise by place.
-- Serves `Apart`, `Items` and `Proper`.
use Rattle.model.proofs.Common.{◌≡◌, ℕ, zero, suc, ◌<◌, List, [], ◌∷◌, length, get_or, arith, T, Less, below_all, Item, first, second, less}
use Rattle.model.specs.Table.{Place, place_cmp}
use Rattle.model.specs.inner.Items.{place_of, pairs, IsRising}

below_at : (p : Place) (xs : List Item) (i : ℕ) (d : Item) → T (below_all place_cmp p (pairs xs)) → i < length xs → place_cmp p (place_of (get_or xs i d)) ≡ Less
below_at p [] i d h lt = absurd (omega arith)
below_at p (x ∷ xs) zero d h lt = less _ (first _ _ h)
below_at p (x ∷ xs) (suc i) d h lt = below_at p xs i d (second _ _ h) (omega arith)

-- of two items the earlier stands below
pub rising_at : (xs : List Item) (i j : ℕ) (d e : Item) → IsRising xs → i < j → j < length xs → place_cmp (place_of (get_or xs i d)) (place_of (get_or xs j e)) ≡ Less
rising_at [] i j d e h lt in_range = absurd (omega arith)
rising_at (x ∷ xs) i zero d e h lt in_range = absurd (omega arith)
rising_at (x ∷ xs) zero (suc j) d e h lt in_range = below_at (place_of x) xs j e (first _ _ h) (omega arith)
rising_at (x ∷ xs) (suc i) (suc j) d e h lt in_range = rising_at xs i j d e (second _ _ h) (omega arith) (omega arith)

pub rising_tail : (x : Item) (xs : List Item) → IsRising (x ∷ xs) → IsRising xs
rising_tail x xs rising = second _ _ rising
