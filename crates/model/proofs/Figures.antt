-- The figures of a round, counted by owner.
-- Serves `version_lags`.
use Rattle.model.proofs.Common.{◌≡◌, ℕ, List, length, sym, ap, ◌∙◌, most_below, IsFoldBelow, greatest, fold_below-same, fold_below-swap}
use Rattle.model.specs.Table.{Table}
use Rattle.model.specs.Tables.{table_of_node}
use Rattle.model.specs.calls.Tables.{IsCluster}
use Rattle.model.specs.declared.writes.Write.{Write}
use Rattle.model.specs.Figures.{staleness_at, rounds_behind}

-- by owner, by key and then by node they are the same
module _ (round : ℕ) (tables : List Table) (lists : List (List Write)) (cluster : IsCluster (length tables) tables) where
  abbrev keys : ℕ
  keys = (table_of_node tables 0).keys

  by_owner : {op : ℕ → ℕ → ℕ} {fold : ℕ → (ℕ → ℕ) → ℕ} → IsFoldBelow op fold → (f : ℕ → ℕ → ℕ → ℕ)
      → fold (length tables) (λ r. fold keys (λ k. fold (length tables) (λ p. f p r k))) ≡ fold (length tables) (λ p. fold (length tables) (λ r. fold (table_of_node tables p).keys (f p r)))
  by_owner {op} {fold} is f =
      fold_below-same is (λ r. fold keys (λ k. fold (length tables) (λ p. f p r k))) (λ r. fold (length tables) (λ p. fold keys (f p r))) (length tables) (λ r lt. sym (fold_below-swap is (λ p k. f p r k) (length tables) keys))
      ∙ fold_below-swap is (λ r p. fold keys (f p r)) (length tables) (length tables)
      ∙ fold_below-same is (λ p. fold (length tables) (λ r. fold keys (f p r))) (λ p. fold (length tables) (λ r. fold (table_of_node tables p).keys (f p r))) (length tables)
      (λ p lt. ap (λ n. fold (length tables) (λ r. fold n (f p r))) (sym (cluster.tables p lt).keys))

  pub most_by_owner : most_below (length tables) (λ r. most_below keys (λ k. most_below (length tables) (λ p. rounds_behind (staleness_at round tables lists p r k))))
      ≡ most_below (length tables) (λ p. most_below (length tables) (λ r. most_below (table_of_node tables p).keys (λ k. rounds_behind (staleness_at round tables lists p r k))))
  most_by_owner = by_owner greatest (λ p r k. rounds_behind (staleness_at round tables lists p r k))
