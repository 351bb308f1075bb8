-- The lists of all owners, and what one more write is in them.
-- Serves the crates above.
use Rattle.model.proofs.Common.{◌≡◌, ℕ, ◌+◌, ◌<◌, List, [], ◌∷◌, ◌++◌, length, get_or, sym, ap, ◌∙◌, length-map, map-append, get_or-map}
use Rattle.model.specs.declared.writes.Write.{Write}
use Rattle.model.specs.calls.OwnerListView.{OwnerListView, written, next_entry, with_write, lists_in}
use Rattle.model.specs.Writes.{write_of_entry}
use Rattle.model.specs.inner.Writes.{next_write}

pub length-lists_in : (lists : List OwnerListView) → length (lists_in lists) ≡ length lists
length-lists_in lists = length-map lists written

pub list_read : (lists : List OwnerListView) (r : ℕ) (d : OwnerListView) (e : List Write) → r < length lists → get_or (lists_in lists) r e ≡ written (get_or lists r d)
list_read lists r d e lt = get_or-map written lists r d e lt

-- a write more, without its value
pub written_more : (v : OwnerListView) (key value born : ℕ) → written (with_write v key value born) ≡ written v ++ next_write (written v) key born ∷ []
written_more v key value born =
    map-append write_of_entry v.current (next_entry v key value born ∷ [])
    ∙ ap (λ n. written v ++ record { key = key; version = n + 1; born = born } ∷ []) (sym (length-map v.current write_of_entry))
