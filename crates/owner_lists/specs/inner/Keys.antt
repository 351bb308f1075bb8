-- Where a key stands in a list of writes that rises by key. Source: this project.
use Rattle.std.specs.Prelude.{◌≡◌, ℕ, ◌<◌, ◌≤◌, List, length, slice_index_or}
use Rattle.model.specs.declared.writes.Write.{Write}

-- the write at index i has the key
pub record IsIndexOfKey (ws : List Write) (key i : ℕ) : Type 0 where
  pub in_range : i < length ws
  pub here : (d : Write) → (slice_index_or ws i d).key ≡ key

-- the key would go at index i: the keys before it are less, those from it on greater
pub record IsGapForKey (ws : List Write) (key i : ℕ) : Type 0 where
  pub in_range : i ≤ length ws
  pub below : (j : ℕ) (d : Write) → j < i → (slice_index_or ws j d).key < key
  pub above : (j : ℕ) (d : Write) → i ≤ j → j < length ws → key < (slice_index_or ws j d).key
