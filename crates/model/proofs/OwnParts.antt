-- A node's own part stays the last writes of its list, through its own writes and what it receives. For callers that
-- keep tables and lists side by side.
-- Serves `cluster`.
use Rattle.model.proofs.Common.{◌≡◌, ℕ, ◌+◌, ◌≤◌, Bool, true, false, cond, eqb, List, [], ◌∷◌, ◌++◌, length, Some, option_map, if◌then◌else◌, refl, sym, ap, ◌∙◌, arith, nat_cmp, ordering_then, is_eq, eq_by_cmp, get-empty, get-insert, nat_cmp-equal}
use Rattle.model.specs.Table.{place_cmp, Table, empty_table, entry_at, greatest_version, own_write, with_own_write}
use Rattle.model.proofs.Order.{place_total}
use Rattle.model.specs.declared.writes.Write.{Write}
use Rattle.model.specs.Writes.{write_of_entry}
use Rattle.model.specs.inner.Writes.{next_write}
use Rattle.model.specs.calls.Writes.{is_write_of, AreBornBy}
use Rattle.model.specs.calls.OwnParts.{OwnPartIsLastWrites}
use Rattle.model.proofs.LastWrites.{same_key, with_version, last_write-push}

-- nothing is held, and nothing was written
pub own_part-empty : (node nodes keys : ℕ) → OwnPartIsLastWrites (empty_table node nodes keys) []
own_part-empty node nodes keys key = ap (option_map write_of_entry) (get-empty place_cmp (node, key))

same_owner : (owner k q : ℕ) → eq_by_cmp place_cmp (owner, q) (owner, k) ≡ eqb k q
same_owner owner k q = ap (λ r. is_eq (ordering_then r (nat_cmp q k))) (nat_cmp-equal owner owner refl) ∙ same_key q k

-- an own write is pushed, with the version that it was given
pub own_part-written : (t : Table) (ws : List Write) (key value born : ℕ) → OwnPartIsLastWrites t ws → greatest_version t t.node ≡ length ws → OwnPartIsLastWrites (with_own_write t key value born) (ws ++ next_write ws key born ∷ [])
own_part-written t ws key value born own counted q =
    ap (option_map write_of_entry) (get-insert place_total t.held (t.node, key) (own_write t key value born) (t.node, q)
    ∙ ap (λ b. cond b (Some (own_write t key value born)) (entry_at t t.node q)) (same_owner t.node key q))
    ∙ mapped (eqb key q)
    ∙ ap (λ o. if is_write_of q (next_write ws key born) then Some (next_write ws key born) else o) (own q)
    ∙ sym (last_write-push ws (next_write ws key born) q)
  where
    as_write : write_of_entry (own_write t key value born) ≡ next_write ws key born
    as_write = ap (λ n. with_version (n + 1) key born) counted

    mapped : (b : Bool) → option_map write_of_entry (cond b (Some (own_write t key value born)) (entry_at t t.node q)) ≡ cond b (Some (next_write ws key born)) (option_map write_of_entry (entry_at t t.node q))
    mapped true = ap Some as_write
    mapped false = refl

-- what is born by a round is born by a later one
pub born-later : (round later : ℕ) (ws : List Write) → round ≤ later → AreBornBy round ws → AreBornBy later ws
born-later round later ws le before k d lt = omega (arith, before k d lt)
