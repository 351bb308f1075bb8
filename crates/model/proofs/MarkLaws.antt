-- Laws of marks: when one goes down, and the greatest of an owner after a write, after a list of items and after a
-- restart.
-- Serves `BeginLaws`, `Owns`, `ProperLaws`, `Received` and the crates above.
use Rattle.model.proofs.Common.{◌≡◌, ◌≢◌, ℕ, zero, suc, ◌<◌, ◌≤◌, List, [], ◌∷◌, Some, None, All, ◌⊎◌, inl, inr, if◌then◌else◌, refl, sym, ap, ◌∙◌, subst, arith, cases_eq, eq-eqb, ne_eqb, All-head, All-tail, Item, Mark, absent, mark_of, mark_held, IsBefore, IsUpTo, later, up_to-itself, up_to-then, up_to-both, before-up_to, absent-first, first-later, second-later, later-up_to, later-first, later-second, cases_later, mark_held-newer}
use Rattle.std.specs.Prelude.{Contains}
use Rattle.model.specs.Table.{Table, empty_table, entry_at, mark_at, greatest_mark, generation_held, taken, applied, own_write, with_own_write, without_others, without_all, IsProper}
use Rattle.model.specs.calls.Table.{IsItemInPlace}
use Rattle.model.specs.inner.GreatestMarks.{greatest_among}
use Rattle.model.proofs.Greatest.{greatest_mark-unique, greatest_mark-same, greatest_mark-none, greatest_mark-from, mark_at-up_to_greatest}
use Rattle.model.proofs.TableLaws.{cases_taken, entry_at-taken_other, entry_at-taken_newer, entry_at-taken_same, entry_at-own_write, entry_at-own_write_other, entry_at-without_others_own, entry_at-without_others_other, entry_at-without_all, entry_at-empty_table, frame-taken}

pub later-assoc : (l m n : Mark) → later (later l m) n ≡ later l (later m n)
later-assoc l m n = up_to-both (later (later l m) n) (later l (later m n))
    (later-up_to bound (later l m) n (later-up_to bound l m (first-later l (later m n)) (up_to-then m (later m n) bound (first-later m n) (second-later l (later m n)))) (up_to-then n (later m n) bound (second-later m n) (second-later l (later m n))))
    (later-up_to other l (later m n) (up_to-then l (later l m) other (first-later l m) (first-later (later l m) n)) (later-up_to other m n (up_to-then m (later l m) other (second-later l m) (first-later (later l m) n)) (second-later (later l m) n)))
  where
    bound : Mark
    bound = later l (later m n)

    other : Mark
    other = later (later l m) n

-- a mark of a lower generation comes before
lower-before : (m n : Mark) → m.generation < n.generation → IsBefore m n
lower-before m n lt = record { generation = omega arith; version = λ same. absurd (omega arith) }

module _ (t : Table) (i : Item) where
  -- the item's mark, and the greatest before it
  abbrev mark : Mark
  mark = mark_of i.entry

  abbrev before : Mark
  before = greatest_mark t i.owner

  newer_here : generation_held t i.owner < i.entry.generation → (key : ℕ) → IsUpTo (mark_at (taken t i) i.owner key) mark
  newer_here newer key = elim (cases_eq i.entry.key key) [
    | inl same ↦ subst (λ h. IsUpTo (mark_held h) mark) (sym (subst (λ k. entry_at (taken t i) i.owner k ≡ Some i.entry) same (entry_at-taken_newer t i newer).0)) (up_to-itself mark)
    | inr apart ↦ subst (λ h. IsUpTo (mark_held h) mark) (sym ((entry_at-taken_newer t i newer).1 key apart)) (absent-first mark)
  ]

  -- at its own place one of the same generation leaves the later mark
  mark_at-taken_same : i.entry.generation ≡ generation_held t i.owner → mark_at (taken t i) i.owner i.entry.key ≡ later (mark_at t i.owner i.entry.key) mark
  mark_at-taken_same same = ap mark_held (entry_at-taken_same t i same).0 ∙ mark_held-newer (entry_at t i.owner i.entry.key) i.entry

  -- the greatest mark is then the later one of that before and the item's
  pub greatest_mark-taken : i.entry.key < t.keys → greatest_mark (taken t i) i.owner ≡ later before mark
  greatest_mark-taken below = elim (cases_taken t i) [
    | inl older ↦ ap (λ (u : Table). greatest_mark u i.owner) older.1 ∙ sym (later-first before mark (before-up_to mark before (lower-before mark before older.0)))
    | inr (inl newer) ↦
        greatest_mark-unique (taken t i) i.owner mark (λ key lt. newer_here newer.0 key) (inr (i.entry.key, in_keys, ap mark_held (entry_at-taken_newer t i newer.0).0))
        ∙ sym (later-second before mark (lower-before before mark newer.0))
    | inr (inr same) ↦ greatest_mark-unique (taken t i) i.owner (later before mark) (bounded same.0) (from same.0 (cases_later before mark))
  ]
    where
      in_keys : i.entry.key < (taken t i).keys
      in_keys = omega (arith, below, (frame-taken t i).keys)

      bounded : i.entry.generation ≡ generation_held t i.owner → (key : ℕ) → key < (taken t i).keys → IsUpTo (mark_at (taken t i) i.owner key) (later before mark)
      bounded same key lt = elim (cases_eq i.entry.key key) [
        | inl at ↦ subst (λ k. IsUpTo (mark_at (taken t i) i.owner k) (later before mark)) at (subst (λ m. IsUpTo m (later before mark)) (sym (mark_at-taken_same same))
            (later-up_to (later before mark) (mark_at t i.owner i.entry.key) mark (up_to-then (mark_at t i.owner i.entry.key) before (later before mark) (mark_at-up_to_greatest t i.owner i.entry.key below) (first-later before mark)) (second-later before mark)))
        | inr apart ↦ subst (λ h. IsUpTo (mark_held h) (later before mark)) (sym ((entry_at-taken_same t i same).1 key apart))
            (up_to-then (mark_at t i.owner key) before (later before mark) (mark_at-up_to_greatest t i.owner key (omega (arith, lt, (frame-taken t i).keys))) (first-later before mark))
      ]

      from : i.entry.generation ≡ generation_held t i.owner → ((later before mark ≡ mark) × IsBefore before mark) ⊎ ((later before mark ≡ before) × IsUpTo mark before) → (later before mark ≡ absent) ⊎ ((key : ℕ) × (key < (taken t i).keys) × (mark_at (taken t i) i.owner key ≡ later before mark))
      from same (inl (is, above)) = inr (i.entry.key, in_keys, mark_at-taken_same same ∙ later-bound ∙ sym is)
        where
          later-bound : later (mark_at t i.owner i.entry.key) mark ≡ mark
          later-bound = up_to-both (later (mark_at t i.owner i.entry.key) mark) mark (later-up_to mark (mark_at t i.owner i.entry.key) mark (up_to-then (mark_at t i.owner i.entry.key) before mark (mark_at-up_to_greatest t i.owner i.entry.key below) (before-up_to before mark above)) (up_to-itself mark)) (second-later (mark_at t i.owner i.entry.key) mark)
      from same (inr (is, up)) = elim (greatest_mark-from t i.owner) [
        | inl none ↦ inl (is ∙ none)
        | inr (key, lt, at) ↦ elim (cases_eq i.entry.key key) [
          | inl here ↦ inr (i.entry.key, in_keys, mark_at-taken_same same ∙ ap (λ m. later m mark) (subst (λ k. mark_at t i.owner k ≡ before) (sym here) at))
          | inr apart ↦ inr (key, omega (arith, lt, (frame-taken t i).keys), ap mark_held ((entry_at-taken_same t i same).1 key apart) ∙ at ∙ sym is)
        ]
      ]

pub greatest_mark-taken_other : (t : Table) (i : Item) (owner : ℕ) → i.owner ≢ owner → greatest_mark (taken t i) owner ≡ greatest_mark t owner
greatest_mark-taken_other t i owner other = greatest_mark-same (taken t i) t owner (frame-taken t i).keys (λ key lt. ap mark_held (entry_at-taken_other t i owner key other))

-- one item more, the owner's or another's
pub greatest_among-own : (i : Item) (is : List Item) (owner : ℕ) → i.owner ≡ owner → greatest_among owner (i ∷ is) ≡ later (mark_of i.entry) (greatest_among owner is)
greatest_among-own i is owner own = ap (λ b. if b then later (mark_of i.entry) (greatest_among owner is) else greatest_among owner is) (eq-eqb i.owner owner own)

pub greatest_among-other : (i : Item) (is : List Item) (owner : ℕ) → i.owner ≢ owner → greatest_among owner (i ∷ is) ≡ greatest_among owner is
greatest_among-other i is owner other = ap (λ b. if b then later (mark_of i.entry) (greatest_among owner is) else greatest_among owner is) (ne_eqb i.owner owner other)

in_place-taken : (t : Table) (i : Item) (is : List Item) → All (IsItemInPlace t.nodes t.keys) (i ∷ is) → All (IsItemInPlace (taken t i).nodes (taken t i).keys) is
in_place-taken t i is all =
    subst (λ n. All (IsItemInPlace n (taken t i).keys) is) (sym (frame-taken t i).nodes) (subst (λ k. All (IsItemInPlace t.nodes k) is) (sym (frame-taken t i).keys) (All-tail (IsItemInPlace t.nodes t.keys) i is all))

-- after a list of items it is the later one of that before and the greatest of the owner's items
pub greatest_mark-applied : (t : Table) (added : List Item) (owner : ℕ) → All (IsItemInPlace t.nodes t.keys) added → greatest_mark (applied t added) owner ≡ later (greatest_mark t owner) (greatest_among owner added)
greatest_mark-applied t [] owner all = sym (later-first (greatest_mark t owner) absent (absent-first (greatest_mark t owner)))
greatest_mark-applied t (i ∷ is) owner all =
    greatest_mark-applied (taken t i) is owner (in_place-taken t i is all)
    ∙ elim (cases_eq i.owner owner) [
      | inl own ↦
          ap (λ m. later m (greatest_among owner is)) (subst (λ o. greatest_mark (taken t i) o ≡ later (greatest_mark t o) (mark_of i.entry)) own (greatest_mark-taken t i (All-head (IsItemInPlace t.nodes t.keys) i is all).key_below))
          ∙ later-assoc (greatest_mark t owner) (mark_of i.entry) (greatest_among owner is)
          ∙ ap (later (greatest_mark t owner)) (sym (greatest_among-own i is owner own))
      | inr other ↦
          ap (λ m. later m (greatest_among owner is)) (greatest_mark-taken_other t i owner other)
          ∙ ap (later (greatest_mark t owner)) (sym (greatest_among-other i is owner other))
    ]

-- an owner that no item has keeps its greatest mark
pub greatest_mark-applied_other : (t : Table) (added : List Item) (owner : ℕ) → All (λ i. i.owner ≢ owner) added → greatest_mark (applied t added) owner ≡ greatest_mark t owner
greatest_mark-applied_other t [] owner others = refl
greatest_mark-applied_other t (i ∷ is) owner others =
    greatest_mark-applied_other (taken t i) is owner (All-tail (λ x. x.owner ≢ owner) i is others)
    ∙ greatest_mark-taken_other t i owner (All-head (λ x. x.owner ≢ owner) i is others)

-- no greatest mark goes down
pub greatest_mark-up_to_applied : (t : Table) (added : List Item) (owner : ℕ) → All (IsItemInPlace t.nodes t.keys) added → IsUpTo (greatest_mark t owner) (greatest_mark (applied t added) owner)
greatest_mark-up_to_applied t added owner all = subst (IsUpTo (greatest_mark t owner)) (sym (greatest_mark-applied t added owner all)) (first-later (greatest_mark t owner) (greatest_among owner added))

-- a place keeps up with a mark where it has that or a later one, unless the copy is of a newer generation
abbrev pub KeepsUpWith : Mark → Table → ℕ → ℕ → Type 0
KeepsUpWith m t owner key = generation_held t owner ≤ m.generation → IsUpTo m (mark_at t owner key)

pub keeps_up-taken : (m : Mark) (t : Table) (i : Item) (owner key : ℕ) → i.entry.key < t.keys → key < t.keys → KeepsUpWith m t owner key → KeepsUpWith m (taken t i) owner key
keeps_up-taken m t i owner key fits below keeps le = elim (cases_eq i.owner owner) [
  | inr other ↦ subst (λ h. IsUpTo m (mark_held h)) (sym (entry_at-taken_other t i owner key other)) (keeps (omega (arith, le, ap (λ (n : Mark). n.generation) (greatest_mark-taken_other t i owner other))))
  | inl own ↦ subst (λ o. IsUpTo m (mark_at (taken t i) o key)) own (of_owner (subst (λ o. generation_held (taken t i) o ≤ m.generation) (sym own) le) (subst (λ o. KeepsUpWith m t o key) (sym own) keeps))
]
  where
    of_owner : generation_held (taken t i) i.owner ≤ m.generation → KeepsUpWith m t i.owner key → IsUpTo m (mark_at (taken t i) i.owner key)
    of_owner upto kept =
        let most = greatest_mark-taken t i fits in
        let up = subst (IsUpTo (greatest_mark t i.owner)) (sym most) (first-later (greatest_mark t i.owner) (mark_of i.entry)) in
        let at_least = subst (IsUpTo (mark_of i.entry)) (sym most) (second-later (greatest_mark t i.owner) (mark_of i.entry)) in
        let was : IsUpTo m (mark_at t i.owner key) = kept (omega (arith, upto, up.generation)) in
        let known = mark_at-up_to_greatest t i.owner key below in
        elim (cases_taken t i) [
          | inl older ↦ subst (λ (u : Table). IsUpTo m (mark_at u i.owner key)) (sym older.1) was
          | inr (inl newer) ↦ absurd (omega (arith, newer.0, at_least.generation, upto, was.generation, known.generation))
          | inr (inr same) ↦ elim (cases_eq i.entry.key key) [
            | inl here ↦ subst (λ k. IsUpTo m (mark_at (taken t i) i.owner k)) here (subst (IsUpTo m) (sym (mark_at-taken_same t i same.0)) (up_to-then m (mark_at t i.owner i.entry.key) (later (mark_at t i.owner i.entry.key) (mark_of i.entry)) (subst (λ k. IsUpTo m (mark_at t i.owner k)) (sym here) was) (first-later (mark_at t i.owner i.entry.key) (mark_of i.entry))))
            | inr apart ↦ subst (λ h. IsUpTo m (mark_held h)) (sym ((entry_at-taken_same t i same.0).1 key apart)) was
          ]
        ]

-- a list of items leaves it so
pub keeps_up-applied : (m : Mark) (t : Table) (added : List Item) (owner key : ℕ) → All (IsItemInPlace t.nodes t.keys) added → key < t.keys → KeepsUpWith m t owner key → KeepsUpWith m (applied t added) owner key
keeps_up-applied m t [] owner key all below keeps = keeps
keeps_up-applied m t (i ∷ is) owner key all below keeps =
    keeps_up-applied m (taken t i) is owner key (in_place-taken t i is all) (omega (arith, below, (frame-taken t i).keys))
    (keeps_up-taken m t i owner key (All-head (IsItemInPlace t.nodes t.keys) i is all).key_below below keeps)

-- the place of an item that is taken keeps up with it
keeps_up-own : (t : Table) (i : Item) → KeepsUpWith (mark_of i.entry) (taken t i) i.owner i.entry.key
keeps_up-own t i le = elim (cases_taken t i) [
  | inl older ↦ absurd (omega (arith, le, older.0, ap (λ (u : Table). generation_held u i.owner) older.1))
  | inr (inl newer) ↦ subst (λ h. IsUpTo (mark_of i.entry) (mark_held h)) (sym (entry_at-taken_newer t i newer.0).0) (up_to-itself (mark_of i.entry))
  | inr (inr same) ↦ subst (IsUpTo (mark_of i.entry)) (sym (mark_at-taken_same t i same.0)) (second-later (mark_at t i.owner i.entry.key) (mark_of i.entry))
]

-- and so does that of each in a list
pub keeps_up-item : (t : Table) (added : List Item) (i : Item) → All (IsItemInPlace t.nodes t.keys) added → Contains added i → KeepsUpWith (mark_of i.entry) (applied t added) i.owner i.entry.key
keeps_up-item t [] i all (k, lt, is) = absurd (omega arith)
keeps_up-item t (x ∷ xs) i all (suc k, lt, is) = keeps_up-item (taken t x) xs i (in_place-taken t x xs all) (k, omega arith, is)
keeps_up-item t (x ∷ xs) i all (zero, lt, is) =
    subst (λ (y : Item). KeepsUpWith (mark_of y.entry) (applied t (x ∷ xs)) y.owner y.entry.key) is
    (keeps_up-applied (mark_of x.entry) (taken t x) xs x.owner x.entry.key (in_place-taken t x xs all) (omega (arith, fits, (frame-taken t x).keys)) (keeps_up-own t x))
  where
    fits : x.entry.key < t.keys
    fits = (All-head (IsItemInPlace t.nodes t.keys) x xs all).key_below

-- an own write is behind nothing that the node held of itself
pub own_before : (t : Table) (k v b : ℕ) → IsProper t → (key : ℕ) → key < t.keys → IsUpTo (mark_at t t.node key) (mark_of (own_write t k v b))
own_before t k v b proper key lt = elim (entry_at t t.node key) as (λ h. entry_at t t.node key ≡ h → IsUpTo (mark_held h) (mark_of (own_write t k v b))) [
  | None ↦ λ _. absent-first (mark_of (own_write t k v b))
  | Some e ↦ λ held.
      let known = subst (λ h. IsUpTo (mark_held h) (greatest_mark t t.node)) held (mark_at-up_to_greatest t t.node key lt) in
      let own = proper.own key e held in
      let alike = proper.copies t.node key e held in
      record { generation = omega (arith, own); version = λ _. omega (arith, known.version alike) }
] refl

-- its mark is then the greatest
pub greatest_mark-own_write : (t : Table) (k v b : ℕ) → IsProper t → k < t.keys → greatest_mark (with_own_write t k v b) t.node ≡ mark_of (own_write t k v b)
greatest_mark-own_write t k v b proper below =
    greatest_mark-unique (with_own_write t k v b) t.node (mark_of (own_write t k v b))
    (λ key lt. elim (cases_eq key k) [
      | inl same ↦ subst (λ j. IsUpTo (mark_at (with_own_write t k v b) t.node j) (mark_of (own_write t k v b))) (sym same) (subst (λ m. IsUpTo m (mark_of (own_write t k v b))) (sym written) (up_to-itself (mark_of (own_write t k v b))))
      | inr other ↦ subst (λ h. IsUpTo (mark_held h) (mark_of (own_write t k v b))) (sym (entry_at-own_write_other t k v b t.node key (inr other))) (own_before t k v b proper key lt)
    ])
    (inr (k, below, written))
  where
    written : mark_at (with_own_write t k v b) t.node k ≡ mark_of (own_write t k v b)
    written = ap mark_held (entry_at-own_write t k v b)

-- it leaves the other owners' greatest marks
pub greatest_mark-own_write_other : (t : Table) (k v b owner : ℕ) → owner ≢ t.node → greatest_mark (with_own_write t k v b) owner ≡ greatest_mark t owner
greatest_mark-own_write_other t k v b owner other = greatest_mark-same (with_own_write t k v b) t owner refl (λ key lt. ap mark_held (entry_at-own_write_other t k v b owner key (inl other)))

-- a restart keeps the node's own greatest mark, and of the others none is held
pub greatest_mark-without_others_own : (t : Table) → greatest_mark (without_others t) t.node ≡ greatest_mark t t.node
greatest_mark-without_others_own t = greatest_mark-same (without_others t) t t.node refl (λ key lt. ap mark_held (entry_at-without_others_own t key))

pub greatest_mark-without_others_other : (t : Table) (owner : ℕ) → owner ≢ t.node → greatest_mark (without_others t) owner ≡ absent
greatest_mark-without_others_other t owner other = greatest_mark-none (without_others t) owner (λ key lt. entry_at-without_others_other t owner key other)

-- one that forgets holds none
pub greatest_mark-without_all : (t : Table) (owner : ℕ) → greatest_mark (without_all t) owner ≡ absent
greatest_mark-without_all t owner = greatest_mark-none (without_all t) owner (λ key lt. entry_at-without_all t owner key)

pub greatest_mark-empty_table : (n ns ks owner : ℕ) → greatest_mark (empty_table n ns ks) owner ≡ absent
greatest_mark-empty_table n ns ks owner = greatest_mark-none (empty_table n ns ks) owner (λ key lt. entry_at-empty_table n ns ks owner key)
