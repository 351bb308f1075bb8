-- What an owner's list keeps through its calls.
-- Serves `OwnerList::begin_generation`, `OwnerList::first_missed` and `OwnerList::write`.
use Rattle.owner_lists.proofs.Common.{◌≡◌, ℕ, ◌+◌, ◌^◌, ◌<◌, cond, eqb, Some, List, [], ◌∷◌, ◌++◌, length, refl, sym, ap, ◌∙◌, subst, arith, nat_cmp, nat_cmp_total, put, find-put, length-append, length-map, get_or-map, map-append, Entry, Write, OwnerListView, written, AreWrites, next_entry, with_write, begun_generation, writes_more, writes_begun, write_of_entry, IsNumbered, last_write-push, same_key}
use Rattle.owner_lists.specs.Latest.{keyed, write_of, IsLatest}
use Rattle.owner_lists.specs.inner.Kept.{IsKeptList}
use Rattle.owner_lists.proofs.Rising.{rising_put}

-- what callers see is what is kept
module _ (v seen : OwnerListView) (latest : List Write) (list : IsKeptList v latest) (same : v ≡ seen) where
  pub numbered_kept : IsNumbered (written seen)
  numbered_kept i d lt =
      let in_range : i < length seen.current = omega (arith, length-map seen.current write_of_entry) in
      let e : Entry = record { key = 0; generation = 0; version = 0; value = 0; born = 0 } in
      ap (λ (w : Write). w.version) (get_or-map write_of_entry seen.current i e d in_range) ∙ omega (arith, ((subst AreWrites same list.writes).current i e in_range).1)

  pub few_kept : length (written seen) < 2 ^ 32
  few_kept = omega (arith, list.few, ap (λ (x : OwnerListView). length x.current) same, length-map seen.current write_of_entry)

-- the last writes, once one is added
latest_pushed : (ws latest latest' : List Write) (w : Write) → IsLatest latest ws → put nat_cmp w.key w (keyed latest) ≡ keyed latest' → IsLatest latest' (ws ++ w ∷ [])
latest_pushed ws latest latest' w ends is = record {
  rising = rising_put latest latest' w ends.rising is;
  last = λ q. ap (Rattle.std.specs.FinMap.find nat_cmp q) (sym is)
      ∙ find-put nat_cmp nat_cmp_total q w.key w (keyed latest)
      ∙ ap (λ b. cond b (Some w) (write_of latest q)) (same_key q w.key)
      ∙ ap (cond (eqb w.key q) (Some w)) (ends.last q)
      ∙ sym (last_write-push ws w q);
}

module _ (v : OwnerListView) (latest : List Write) (list : IsKeptList v latest) where
  -- the next generation
  pub list_begun : IsKeptList (begun_generation v) []
  list_begun = record { writes = writes_begun v list.writes; few = omega arith; ends = record { rising = tt; last = λ key. refl } }

  -- one more write
  pub list_written : (key value born : ℕ) (w : Write) (latest' : List Write) → w ≡ write_of_entry (next_entry v key value born) → length v.current + 1 < 2 ^ 32 → put nat_cmp w.key w (keyed latest) ≡ keyed latest' → IsKeptList (with_write v key value born) latest'
  list_written key value born w latest' next few is = record {
    writes = writes_more v list.writes key value born;
    few = omega (arith, few, length-append v.current (next_entry v key value born ∷ []));
    ends = subst (IsLatest latest') (sym shown) (latest_pushed (written v) latest latest' w list.ends is);
  }
    where
      shown : written (with_write v key value born) ≡ written v ++ w ∷ []
      shown =
          map-append write_of_entry v.current (next_entry v key value born ∷ [])
          ∙ ap (λ x. written v ++ x ∷ []) (sym next)
