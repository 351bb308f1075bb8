-- What an owner's writes keep through the calls that change them.
-- Serves `OwnerWrites::begin_generation`, `OwnerWrites::numbered`, `OwnerWrites::write`, `owner_lists` and
-- `version_tables`.
use Rattle.owner_writes.proofs.Common.{◌≡◌, ℕ, ◌+◌, ◌-◌, ◌^◌, ◌<◌, List, [], ◌∷◌, ◌++◌, length, get_or, map, take, drop, inl, inr, refl, sym, ap, ◌∙◌, subst, arith, length-append, cases_lt, length-drop, length-map, map-append, append_assoc, append-nil, get_or_append_left, get_or-append_right, get_or_push, take-append-drop, take-append-le, drop-append-le, take_all, drop_all, All-append, Entry, mark_of, IsBefore, Kept, entry_kept, OwnerListView, entries_of, MarksRise, AreWrites, next_entry, with_write, begun_generation, view_of, IsKept}

-- marks stay in order where one is added above all
rising_push : (es : List Entry) (e : Entry) → MarksRise es → ((i : ℕ) (d : Entry) → i < length es → IsBefore (mark_of (get_or es i d)) (mark_of e)) → MarksRise (es ++ e ∷ [])
rising_push es e rising above i j d lt in_range =
    rw (get_or_append_left es (e ∷ []) d i (omega (arith, length-append es (e ∷ [])))) (elim (cases_lt j (length es)) [
      | inl before ↦ rw (get_or_append_left es (e ∷ []) d j before) (rising i j d lt before)
      | inr last ↦ rw (get_or_push es e d j (omega (arith, length-append es (e ∷ [])))) (above i d (omega (arith, length-append es (e ∷ []))))
    ])

-- one more write
module _ (v : OwnerListView) (is : AreWrites v) (key value born : ℕ) where
  abbrev e : Entry
  e = next_entry v key value born

  below : (i : ℕ) (d : Entry) → i < length (entries_of v) → IsBefore (mark_of (get_or (entries_of v) i d)) (mark_of e)
  below i d lt =
      let older = is.earlier i d in
      let newer = is.current (i - length v.earlier) d in
      let front = get_or_append_left v.earlier v.current d i in
      let behind = get_or-append_right v.earlier v.current (length v.earlier) i d refl in
      let size = length-append v.earlier v.current in
      record { generation = grind (arith, older, newer, front, behind); version = λ same. grind (arith, older, newer, front, behind) }

  pub writes_more : AreWrites (with_write v key value born)
  writes_more = record {
    current = λ i d lt.
        let at = is.current i d in
        let size = length-append v.current (e ∷ []) in
        grind (arith, get_or_append_left v.current (e ∷ []) d i, get_or_push v.current e d i);
    earlier = is.earlier;
    rising = subst MarksRise (append_assoc v.earlier v.current (e ∷ [])) (rising_push (entries_of v) e is.rising below);
  }

-- the next generation
pub writes_begun : (v : OwnerListView) → AreWrites v → AreWrites (begun_generation v)
writes_begun v is = record {
  current = λ i d lt. absurd (omega arith);
  earlier = All-append (λ (x : Entry). x.generation < v.generation + 1) v.earlier v.current
      (λ i d lt. omega (arith, is.earlier i d lt)) (λ i d lt. omega (arith, (is.current i d lt).0));
  rising = subst MarksRise (sym (append-nil (entries_of v))) is.rising;
}

-- the same of what is kept
module _ (kept : List Kept) (n g : ℕ) where
  pub entries_whole : entries_of (view_of kept n g) ≡ map entry_kept kept
  entries_whole = sym (map-append entry_kept (take n kept) (drop n kept)) ∙ ap (map entry_kept) (take-append-drop n kept)

  pub view_begun : (m : ℕ) → m ≡ length kept → view_of kept m (g + 1) ≡ begun_generation (view_of kept n g)
  view_begun m all = λ i. record {
    earlier = (ap (map entry_kept) (take_all m kept (omega (arith, all))) ∙ sym entries_whole) i;
    current = map entry_kept (drop_all m kept (omega (arith, all)) i);
    generation = g + 1;
  }

  module _ (is : IsKept kept n g) where
    pub kept_begun : (m : ℕ) → m ≡ length kept → IsKept kept m (g + 1)
    kept_begun m all = record {
      within = omega (arith, all);
      few = omega (arith, length-drop m kept, all);
      writes = subst AreWrites (sym (view_begun m all)) (writes_begun _ is.writes);
    }

    -- one more
    module _ (x : Kept) (key value born : ℕ) (next : entry_kept x ≡ next_entry (view_of kept n g) key value born) where
      pub view_pushed : view_of (kept ++ x ∷ []) n g ≡ with_write (view_of kept n g) key value born
      view_pushed = λ i. record {
        earlier = map entry_kept (take-append-le n kept (x ∷ []) is.within i);
        current = (ap (map entry_kept) (drop-append-le n kept (x ∷ []) is.within) ∙ map-append entry_kept (drop n kept) (x ∷ []) ∙ ap (λ e. map entry_kept (drop n kept) ++ e ∷ []) next) i;
        generation = g;
      }

      pub kept_pushed : length (view_of kept n g).current + 1 < 2 ^ 32 → IsKept (kept ++ x ∷ []) n g
      kept_pushed few = record {
        within = omega (arith, is.within, length-append kept (x ∷ []));
        few = omega (arith, few, length-map (drop n kept) entry_kept, length-drop n kept, length-drop n (kept ++ x ∷ []), length-append kept (x ∷ []), is.within);
        writes = subst AreWrites (sym view_pushed) (writes_more _ is.writes key value born);
      }
