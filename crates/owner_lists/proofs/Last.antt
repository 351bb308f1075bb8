-- The last write of a key, and the first one that was missed.
-- Serves `OwnerList::first_missed`, `first_from` and `staleness`.
use Rattle.owner_lists.proofs.Common.{Kept, entry_kept, ◌≡◌, ◌≢◌, ℕ, zero, suc, ◌+◌, ◌<◌, ◌≤◌, Bool, true, false, cond, eqb, ltb, ◌&&◌, List, [], ◌∷◌, length, get_or, drop, drop-cons, map, reverse, Some, None, IfSome, All, if◌then◌else◌, refl, sym, ap, ◌∙◌, subst, arith, find, option_or, lt-ltb, le-ltb, eq-eqb, ne_eqb, reverse-append, drop_all, get_or-map, length-map, find-append, All-head, All-tail, Write, Entry, write_of_entry, IsNumbered, is_write_of, last_write}
use Rattle.owner_lists.specs.Missed.{is_missed, first_missed}

-- a write at the front is the last of its key where none follows
last_write-cons : (w : Write) (ws : List Write) (key : ℕ) → last_write (w ∷ ws) key ≡ option_or (last_write ws key) (if is_write_of key w then Some w else None)
last_write-cons w ws key = ap (find (is_write_of key)) (reverse-append (w ∷ []) ws) ∙ find-append (is_write_of key) (reverse ws) (w ∷ [])

-- the versions count up from n
abbrev CountsFrom : ℕ → List Write → Type 0
CountsFrom n ws = (i : ℕ) (d : Write) → i < length ws → (get_or ws i d).version ≡ i + n

counts_tail : (n : ℕ) (w : Write) (ws : List Write) → CountsFrom n (w ∷ ws) → CountsFrom (suc n) ws
counts_tail n w ws counts i d lt = counts (suc i) d (omega arith) ∙ omega arith

not_missed : (key version : ℕ) (w : Write) → w.version ≤ version → is_missed key version w ≡ false
not_missed key version w le = elim (eqb w.key key) as (λ b. (b && ltb version w.version) ≡ false) [ true ↦ le-ltb version w.version le | false ↦ refl ]

-- behind a version, the first write of the key is the first that was missed
first_missed-from : (ws : List Write) (n version key : ℕ) → CountsFrom n ws → version < n → find (is_missed key version) ws ≡ find (is_write_of key) ws
first_missed-from [] n version key counts lt = refl
first_missed-from (w ∷ ws) n version key counts lt =
    let above : ltb version w.version ≡ true = lt-ltb version w.version (omega (arith, counts 0 w (omega arith))) in
    let same : is_missed key version w ≡ is_write_of key w = elim (eqb w.key key) as (λ b. (b && ltb version w.version) ≡ b) [ true ↦ above | false ↦ refl ] in
    ap (λ b. cond b (Some w) (find (is_missed key version) ws)) same
    ∙ ap (cond (is_write_of key w) (Some w)) (first_missed-from ws (suc n) version key (counts_tail n w ws counts) (omega arith))

first_missed-skip : (ws : List Write) (n m version key : ℕ) → CountsFrom n ws → version + 1 ≡ n + m → find (is_missed key version) ws ≡ find (is_write_of key) (drop m ws)
first_missed-skip ws n zero version key counts e = first_missed-from ws n version key counts (omega arith)
first_missed-skip [] n (suc m) version key counts e = refl
first_missed-skip (w ∷ ws) n (suc m) version key counts e =
    ap (λ b. cond b (Some w) (find (is_missed key version) ws)) (not_missed key version w (omega (arith, counts 0 w (omega arith))))
    ∙ first_missed-skip ws (suc n) m version key (counts_tail n w ws counts) (omega arith)

pub first_missed-drop : (ws : List Write) (key version : ℕ) → IsNumbered ws → first_missed ws key version ≡ find (is_write_of key) (drop version ws)
first_missed-drop ws key version numbered = first_missed-skip ws 1 version version key numbered (omega arith)

-- where the last write of the key is no newer, none was missed
fresh_from : (ws : List Write) (n key version : ℕ) → CountsFrom n ws → IfSome (last_write ws key) (λ w. w.version ≤ version) → (find (is_missed key version) ws ≡ None) × IfSome (last_write ws key) (λ w. n ≤ w.version)
fresh_from [] n key version counts fresh = (refl, tt)
fresh_from (w ∷ ws) n key version counts fresh =
    elim (last_write ws key) as (λ o. last_write ws key ≡ o → (find (is_missed key version) (w ∷ ws) ≡ None) × IfSome (last_write (w ∷ ws) key) (λ x. n ≤ x.version)) [
      | Some last ↦ λ is. later (fresh_from ws (suc n) key version counts') last is
      | None ↦ λ is. none (fresh_from ws (suc n) key version counts') is
    ] refl
  where
    counts' : CountsFrom (suc n) ws
    counts' = counts_tail n w ws counts

    here : w.version ≡ n
    here = omega (arith, counts 0 w (omega arith))

    later : (IfSome (last_write ws key) (λ x. x.version ≤ version) → (find (is_missed key version) ws ≡ None) × IfSome (last_write ws key) (λ x. suc n ≤ x.version)) → (last : Write) → last_write ws key ≡ Some last → (find (is_missed key version) (w ∷ ws) ≡ None) × IfSome (last_write (w ∷ ws) key) (λ x. n ≤ x.version)
    later behind last is =
        let whole : last_write (w ∷ ws) key ≡ Some last = last_write-cons w ws key ∙ ap (λ o. option_or o (if is_write_of key w then Some w else None)) is in
        let le : last.version ≤ version = subst (λ o. IfSome o (λ x. x.version ≤ version)) whole fresh in
        let rest = behind (subst (λ o. IfSome o (λ x. x.version ≤ version)) (sym is) le) in
        let above : suc n ≤ last.version = subst (λ o. IfSome o (λ x. suc n ≤ x.version)) is rest.1 in (
          ap (λ b. cond b (Some w) (find (is_missed key version) ws)) (not_missed key version w (omega (arith, here))) ∙ rest.0,
          subst (λ o. IfSome o (λ x. n ≤ x.version)) (sym whole) (omega arith),
        )

    none : (IfSome (last_write ws key) (λ x. x.version ≤ version) → (find (is_missed key version) ws ≡ None) × IfSome (last_write ws key) (λ x. suc n ≤ x.version)) → last_write ws key ≡ None → (find (is_missed key version) (w ∷ ws) ≡ None) × IfSome (last_write (w ∷ ws) key) (λ x. n ≤ x.version)
    none behind is =
        let whole : last_write (w ∷ ws) key ≡ (if is_write_of key w then Some w else None) = last_write-cons w ws key ∙ ap (λ o. option_or o (if is_write_of key w then Some w else None)) is in
        let rest = behind (subst (λ o. IfSome o (λ x. x.version ≤ version)) (sym is) tt) in
        let parts = at_front (eqb w.key key) (subst (λ o. IfSome o (λ x. x.version ≤ version)) whole fresh) in
        (ap (λ b. cond b (Some w) (find (is_missed key version) ws)) parts.0 ∙ rest.0, subst (λ o. IfSome o (λ x. n ≤ x.version)) (sym whole) parts.1)
      where
        at_front : (b : Bool) → IfSome (if b then Some w else None) (λ x. x.version ≤ version) → ((b && ltb version w.version) ≡ false) × IfSome (if b then Some w else None) (λ x. n ≤ x.version)
        at_front true le = (le-ltb version w.version le, omega (arith, here))
        at_front false le = (refl, tt)

pub fresh : (ws : List Write) (key version : ℕ) → IsNumbered ws → IfSome (last_write ws key) (λ w. w.version ≤ version) → first_missed ws key version ≡ None
fresh ws key version numbered last = (fresh_from ws 1 key version numbered last).0

-- what holds of each write holds of the one that is found
pub All-find : (P : Write → Type 0) (test : Write → Bool) (ws : List Write) (w : Write) → All P ws → find test ws ≡ Some w → P w
All-find P test [] w all found = cc
All-find P test (v ∷ ws) w all found =
    elim (test v) as (λ b. cond b (Some v) (find test ws) ≡ Some w → P w) [
      | true ↦ λ here. let same : v ≡ w = cc in subst P same (All-head P v ws all)
      | false ↦ λ later. All-find P test ws w (All-tail P v ws all) later
    ] found

-- the first write of a key from a place on stands there, or behind it
module _ (kept : List Kept) (key at : ℕ) where
  abbrev es : List Entry
  es = map entry_kept kept

  next_write : (k : Kept) → at < length kept → drop at (map write_of_entry es) ≡ write_of_entry (entry_kept (get_or kept at k)) ∷ drop (suc at) (map write_of_entry es)
  next_write k lt =
      drop-cons (map write_of_entry es) at (write_of_entry (entry_kept k)) (omega (arith, lt, length-map es write_of_entry, length-map kept entry_kept))
      ∙ ap (λ w. w ∷ drop (suc at) (map write_of_entry es))
      (get_or-map write_of_entry es at (entry_kept k) (write_of_entry (entry_kept k)) (omega (arith, lt, length-map kept entry_kept)) ∙ ap write_of_entry (get_or-map entry_kept kept at k (entry_kept k) lt))

  pub first_here : (k : Kept) → at < length kept → (get_or kept at k).key ≡ key → find (is_write_of key) (drop at (map write_of_entry es)) ≡ Some (write_of_entry (entry_kept (get_or kept at k)))
  first_here k lt same =
      ap (find (is_write_of key)) (next_write k lt)
      ∙ ap (λ b. cond b (Some (write_of_entry (entry_kept (get_or kept at k)))) (find (is_write_of key) (drop (suc at) (map write_of_entry es)))) (eq-eqb (get_or kept at k).key key same)

  pub first_later : (k : Kept) → at < length kept → (get_or kept at k).key ≢ key → find (is_write_of key) (drop at (map write_of_entry es)) ≡ find (is_write_of key) (drop (at + 1) (map write_of_entry es))
  first_later k lt other =
      ap (find (is_write_of key)) (next_write k lt)
      ∙ ap (λ b. cond b (Some (write_of_entry (entry_kept (get_or kept at k)))) (find (is_write_of key) (drop (suc at) (map write_of_entry es)))) (ne_eqb (get_or kept at k).key key other)
      ∙ ap (λ n. find (is_write_of key) (drop n (map write_of_entry es))) {x = suc at} {y = at + 1} (omega arith)

  pub first_nowhere : length kept ≤ at → find (is_write_of key) (drop at (map write_of_entry es)) ≡ None
  first_nowhere past = ap (find (is_write_of key)) (drop_all at (map write_of_entry es) (omega (arith, past, length-map es write_of_entry, length-map kept entry_kept)))
