-- A layer of the items of suffixes is what each suffix sends in it.
-- Serves the functions of `parcels` and `suffixes`.
use Rattle.reconcile.proofs.Common.{◌≡◌, ◌≢◌, ◌⊎◌, ℕ, zero, suc, ◌+◌, ◌<◌, ◌≤◌, ◌^◌, Bool, true, false, cond, ◌&&◌, eqb, ltb, List, [], ◌∷◌, ◌++◌, length, map, take, get_or, max, All, inl, inr, refl, sym, ap, ◌∙◌, subst, arith, filter, count_by, AllPairs, flat_map, ltb-false, cases_eq, eq-eqb, ne_eqb, flat_map-append, append-nil, map-append, take_more, length-append, length-map, length-flat_map-take, All-filter, filter-append, All-nil, All-cons, All-weaker, All-head, All-tail, All-append, All-map, AllPairs-filter, sum_by-append, Entry, Item, StandsBefore, rank_among, owner_count, count_by-cons_true, count_by-cons_false}
use Rattle.reconcile.specs.inner.Newer.{item_with}
use Rattle.reconcile.specs.inner.Suffixes.{suffix_items, items_of_suffixes, AreSuffixes, rank_in, ranked, of_length, lengths_first, layer_of, reversed}
use Rattle.reconcile.specs.declared.suffixes.Suffix.{Suffix}
use Rattle.reconcile.proofs.Ranked.{count_by-front_le, rank-le, ranked-beyond, versions-rise}
use Rattle.reconcile.proofs.Layers.{filter-none, filter-each}
use Rattle.reconcile.proofs.Turned.{owners-items}

abbrev pub no_suffix : Suffix
no_suffix = record { owner = 0; entries = record { ref_ptr = (0, 0); now = [] } }

abbrev pub InOrder : Suffix → Type 0
InOrder r = AllPairs StandsBefore r.entries.now

-- a suffix's entries are among all, behind those of the suffixes before it
pub length-suffix : (suffixes : List Suffix) (k : ℕ) (d : Suffix) → k < length suffixes → length (items_of_suffixes (take k suffixes)) + length (get_or suffixes k d).entries.now ≤ length (items_of_suffixes suffixes)
length-suffix suffixes k d lt = omega (arith, length-flat_map-take suffix_items suffixes k d lt, length-map (get_or suffixes k d).entries.now (item_with (get_or suffixes k d).owner))

-- how long the longest of the first suffixes is
pub record IsLongest (suffixes : List Suffix) (n most : ℕ) : Type 0 where
  pub all : All (λ (r : Suffix). length r.entries.now ≤ most) (take n suffixes)
  pub within : most ≤ length (items_of_suffixes (take n suffixes))

-- one more suffix is looked at
pub longest_more : (suffixes : List Suffix) (n most more : ℕ) (d : Suffix) → n < length suffixes → more ≡ max (length (get_or suffixes n d).entries.now) most → IsLongest suffixes n most → IsLongest suffixes (n + 1) more
longest_more suffixes n most more d lt is so_far =
    let r = get_or suffixes n d in
    let next = take_more suffixes n d lt in
    record {
      all = subst (All (λ (s : Suffix). length s.entries.now ≤ more)) (sym next)
          (All-append (λ (s : Suffix). length s.entries.now ≤ more) (take n suffixes) (r ∷ [])
          (All-weaker (λ (s : Suffix). length s.entries.now ≤ most) (λ (s : Suffix). length s.entries.now ≤ more) (λ s le. omega (arith, is, le)) (take n suffixes) so_far.all)
          (All-cons (λ (s : Suffix). length s.entries.now ≤ more) r [] (omega (arith, is)) (All-nil (λ (s : Suffix). length s.entries.now ≤ more))));
      within = omega (arith, is, so_far.within, ap (λ rs. length (items_of_suffixes rs)) next, ap length (flat_map-append suffix_items (take n suffixes) (r ∷ [])), length-append (items_of_suffixes (take n suffixes)) (items_of_suffixes (r ∷ [])), length-append (suffix_items r) [], length-map r.entries.now (item_with r.owner));
    }

-- one more comes behind
pub map-more : {X Y : Type 0} (f : X → Y) (xs : List X) (n : ℕ) (d : X) → n < length xs → map f (take n xs) ++ f (get_or xs n d) ∷ [] ≡ map f (take (n + 1) xs)
map-more f xs n d lt = sym (map-append f (take n xs) (get_or xs n d ∷ [])) ∙ ap (map f) (sym (take_more xs n d lt))

pub suffixes-more : (part : Suffix → List Item) (suffixes : List Suffix) (n : ℕ) (d : Suffix) → n < length suffixes → flat_map part (take n suffixes) ++ part (get_or suffixes n d) ≡ flat_map part (take (n + 1) suffixes)
suffixes-more part suffixes n d lt =
    ap (λ is. flat_map part (take n suffixes) ++ is) (sym (append-nil (part (get_or suffixes n d))))
    ∙ sym (flat_map-append part (take n suffixes) (get_or suffixes n d ∷ []))
    ∙ ap (flat_map part) (sym (take_more suffixes n d lt))

filter-map : {X Y : Type 0} (p : Y → Bool) (f : X → Y) (xs : List X) → filter p (map f xs) ≡ map f (filter (λ x. p (f x)) xs)
filter-map p f [] = refl
filter-map p f (x ∷ xs) =
    let rest = filter-map p f xs in
    elim (p (f x)) as (λ b. cond b (f x ∷ filter p (map f xs)) (filter p (map f xs)) ≡ map f (cond b (x ∷ filter (λ y. p (f y)) xs) (filter (λ y. p (f y)) xs))) [
      | true ↦ ap (λ ys. f x ∷ ys) rest
      | false ↦ rest
    ]

count_by-map : {X Y : Type 0} (p : Y → Bool) (f : X → Y) (xs : List X) → count_by p (map f xs) ≡ count_by (λ x. p (f x)) xs
count_by-map p f [] = refl
count_by-map p f (x ∷ xs) =
    let rest = count_by-map p f xs in
    elim (p (f x)) as (λ b. p (f x) ≡ b → count_by p (f x ∷ map f xs) ≡ count_by (λ y. p (f y)) (x ∷ xs)) [
      | true ↦ λ e. count_by-cons_true p (f x) (map f xs) e ∙ ap suc rest ∙ sym (count_by-cons_true (λ y. p (f y)) x xs e)
      | false ↦ λ e. count_by-cons_false p (f x) (map f xs) e ∙ rest ∙ sym (count_by-cons_false (λ y. p (f y)) x xs e)
    ] refl

count_by-each : {X : Type 0} (p : X → Bool) (xs : List X) → ((x : X) → p x ≡ true) → count_by p xs ≡ length xs
count_by-each p [] each = refl
count_by-each p (x ∷ xs) each = count_by-cons_true p x xs (each x) ∙ ap suc (count_by-each p xs each)

-- of other owners nothing counts that only one owner's items pass
count-others : (p : Item → Bool) (owner : ℕ) (suffixes : List Suffix) → ((i : Item) → i.owner ≢ owner → p i ≡ false) → All (λ (r : Suffix). r.owner ≢ owner) suffixes → count_by p (items_of_suffixes suffixes) ≡ 0
count-others p owner suffixes fails others =
    omega (arith, count_by-front_le p (items_of_suffixes suffixes) 0 (λ i d _ lt. fails (get_or (items_of_suffixes suffixes) i d) (owners-items (λ o. o ≢ owner) suffixes others i d lt)))

count-suffix : (p : Item → Bool) (suffixes : List Suffix) → AllPairs (λ (r s : Suffix). r.owner ≢ s.owner) suffixes → (k : ℕ) (d : Suffix) → k < length suffixes → ((i : Item) → i.owner ≢ (get_or suffixes k d).owner → p i ≡ false) → count_by p (items_of_suffixes suffixes) ≡ count_by p (suffix_items (get_or suffixes k d))
count-suffix p [] apart k d lt fails = absurd (omega arith)
count-suffix p (r ∷ suffixes) apart zero d lt fails =
    sum_by-append (λ i. cond (p i) 1 0) (suffix_items r) (items_of_suffixes suffixes)
    ∙ ap (λ n. count_by p (suffix_items r) + n) (count-others p r.owner suffixes fails (λ k e in_range same. apart 0 (suc k) e (omega arith) (omega arith) (sym same)))
    ∙ omega arith
count-suffix p (r ∷ suffixes) apart (suc k) d lt fails =
    omega (arith, sum_by-append (λ i. cond (p i) 1 0) (suffix_items r) (items_of_suffixes suffixes), none, count-suffix p suffixes (λ i j e before in_range. apart (suc i) (suc j) e (omega arith) (omega arith)) k d (omega arith) fails)
  where
    none : count_by p (suffix_items r) ≡ 0
    none = omega (arith, count_by-front_le p (suffix_items r) 0 (λ i e _ in_range. fails (get_or (suffix_items r) i e) (All-map (λ (x : Item). x.owner ≢ (get_or suffixes k d).owner) (item_with r.owner) r.entries.now (λ n x in_n. apart 0 (suc k) d (omega arith) (omega arith)) i e in_range)))

-- each suffix's part of a layer
pub layer-suffixes : (number : Item → ℕ) (n : ℕ) (part : Suffix → List Item) (suffixes : List Suffix) → ((k : ℕ) (d : Suffix) → k < length suffixes → filter (λ i. eqb (number i) n) (suffix_items (get_or suffixes k d)) ≡ part (get_or suffixes k d)) → filter (λ i. eqb (number i) n) (items_of_suffixes suffixes) ≡ flat_map part suffixes
layer-suffixes number n part [] is = refl
layer-suffixes number n part (r ∷ suffixes) is =
    filter-append (λ i. eqb (number i) n) (suffix_items r) (items_of_suffixes suffixes)
    ∙ λ j. is 0 r (omega arith) j ++ layer-suffixes number n part suffixes (λ k d lt. is (suc k) d (omega arith)) j

-- what holds of the items of each suffix holds of all
pub All-suffixes : (P : Item → Type 0) (suffixes : List Suffix) → ((k : ℕ) (d : Suffix) → k < length suffixes → All P (suffix_items (get_or suffixes k d))) → All P (items_of_suffixes suffixes)
All-suffixes P [] each = All-nil P
All-suffixes P (r ∷ suffixes) each = All-append P (suffix_items r) (items_of_suffixes suffixes) (each 0 r (omega arith)) (All-suffixes P suffixes (λ k d lt. each (suc k) d (omega arith)))

module _ (suffixes : List Suffix) (are : AreSuffixes suffixes) where
  -- an item's rank among all is that in its suffix
  rank_of : (k : ℕ) (d : Suffix) → k < length suffixes → (e : Entry) → rank_among (items_of_suffixes suffixes) (item_with (get_or suffixes k d).owner e) ≡ rank_in (get_or suffixes k d).entries.now e.version
  rank_of k d lt e =
      let r = get_or suffixes k d in
      let older : Item → Bool = λ x. eqb x.owner r.owner && ltb x.entry.version e.version in
      count-suffix older suffixes are.apart k d lt (λ i differs. ap (λ b. b && ltb i.entry.version e.version) (ne_eqb i.owner r.owner differs))
      ∙ count_by-map older (item_with r.owner) r.entries.now
      ∙ ap (λ b. count_by (λ (x : Entry). b && ltb x.version e.version) r.entries.now) (eq-eqb r.owner r.owner refl)

  -- and its owner has as many as the suffix
  count_of : (k : ℕ) (d : Suffix) → k < length suffixes → (e : Entry) → owner_count (items_of_suffixes suffixes) (item_with (get_or suffixes k d).owner e) ≡ length (get_or suffixes k d).entries.now
  count_of k d lt e =
      let r = get_or suffixes k d in
      let same : Item → Bool = λ x. eqb x.owner r.owner in
      count-suffix same suffixes are.apart k d lt (λ i differs. ne_eqb i.owner r.owner differs)
      ∙ count_by-map same (item_with r.owner) r.entries.now
      ∙ count_by-each (λ (x : Entry). eqb r.owner r.owner) r.entries.now (λ x. eq-eqb r.owner r.owner refl)

  -- so the layers by rank
  pub layer-ranked : (n : ℕ) → layer_of (rank_among (items_of_suffixes suffixes)) (items_of_suffixes suffixes) n ≡ flat_map (ranked n) suffixes
  layer-ranked n = layer-suffixes (rank_among (items_of_suffixes suffixes)) n (ranked n) suffixes (λ k d lt.
      let r = get_or suffixes k d in
      filter-map (λ i. eqb (rank_among (items_of_suffixes suffixes) i) n) (item_with r.owner) r.entries.now
      ∙ ap (λ (q : Entry → Bool). map (item_with r.owner) (filter q r.entries.now)) (λ j e. eqb (rank_of k d lt e j) n))

  abbrev IsRankBelow : ℕ → Item → Type 0
  IsRankBelow most i = (0 ≤ rank_among (items_of_suffixes suffixes) i) × (rank_among (items_of_suffixes suffixes) i < 0 + most)

  abbrev IsLengthBelow : ℕ → Item → Type 0
  IsLengthBelow most i = (reversed most ≤ lengths_first (items_of_suffixes suffixes) i) × (lengths_first (items_of_suffixes suffixes) i < reversed most + most)

  pub within-ranked : (most : ℕ) → All (λ (r : Suffix). length r.entries.now ≤ most) suffixes → All (IsRankBelow most) (items_of_suffixes suffixes)
  within-ranked most long = All-suffixes (IsRankBelow most) suffixes (λ k d lt.
      let r = get_or suffixes k d in
      All-map (IsRankBelow most) (item_with r.owner) r.entries.now (λ n e in_range.
      (omega arith, omega (arith, long k d lt, rank_of k d lt (get_or r.entries.now n e), rank-le r.entries.now (are.rising k d lt) n n e (omega arith) in_range (λ j from in_j. versions-rise r.entries.now (are.rising k d lt) n j e from in_j)))))

  -- and those by length
  pub layer-length : (len : ℕ) → len < 2 ^ 32 → length (items_of_suffixes suffixes) < 2 ^ 32 → layer_of (lengths_first (items_of_suffixes suffixes)) (items_of_suffixes suffixes) (reversed len) ≡ flat_map (of_length len) suffixes
  layer-length len fits few = layer-suffixes (lengths_first (items_of_suffixes suffixes)) (reversed len) (of_length len) suffixes (λ k d lt.
      let r = get_or suffixes k d in
      let q : Item → Bool = λ i. eqb (lengths_first (items_of_suffixes suffixes) i) (reversed len) in
      let number : (e : Entry) → lengths_first (items_of_suffixes suffixes) (item_with r.owner e) ≡ reversed (length r.entries.now) = λ e. ap reversed (count_of k d lt e) in
      let short = suffix-le k d lt in
      elim (cases_eq (length r.entries.now) len) [
        | inl same ↦
            filter-each q (suffix_items r) (All-map (λ i. q i ≡ true) (item_with r.owner) r.entries.now (λ n e in_range. eq-eqb _ (reversed len) (number (get_or r.entries.now n e) ∙ ap reversed same)))
            ∙ sym (ap (λ b. cond b (suffix_items r) []) (eq-eqb (length r.entries.now) len same))
        | inr differs ↦
            filter-none q (suffix_items r) (All-map (λ i. q i ≡ false) (item_with r.owner) r.entries.now (λ n e in_range. ne_eqb _ (reversed len) (λ is. differs (omega (arith, is, number (get_or r.entries.now n e), short, few, fits)))))
            ∙ sym (ap (λ b. cond b (suffix_items r) []) (ne_eqb (length r.entries.now) len differs))
      ])
    where
      suffix-le : (k : ℕ) (d : Suffix) → k < length suffixes → length (get_or suffixes k d).entries.now ≤ length (items_of_suffixes suffixes)
      suffix-le k d lt = omega (arith, length-flat_map-take suffix_items suffixes k d lt, length-map (get_or suffixes k d).entries.now (item_with (get_or suffixes k d).owner))

  pub within-length : (most : ℕ) → most < 2 ^ 32 → All (λ (r : Suffix). length r.entries.now ≤ most) suffixes → All (IsLengthBelow most) (items_of_suffixes suffixes)
  within-length most fits long = All-suffixes (IsLengthBelow most) suffixes (λ k d lt.
      let r = get_or suffixes k d in
      All-map (IsLengthBelow most) (item_with r.owner) r.entries.now (λ n e in_range.
      let count = count_of k d lt (get_or r.entries.now n e) in
      (omega (arith, long k d lt, count), omega (arith, long k d lt, count, in_range))))

-- a suffix sends nothing in layers beyond its end, so it may be dropped
pub layer-kept : (n next : ℕ) (suffixes : List Suffix) → All InOrder suffixes → next ≤ n → flat_map (ranked n) (filter (λ (r : Suffix). ltb next (length r.entries.now)) suffixes) ≡ flat_map (ranked n) suffixes
layer-kept n next [] rising le = refl
layer-kept n next (r ∷ suffixes) rising le =
    let rest = layer-kept n next suffixes (All-tail InOrder r suffixes rising) le in
    elim (ltb next (length r.entries.now)) as (λ b. ltb next (length r.entries.now) ≡ b → flat_map (ranked n) (cond b (r ∷ filter (λ (s : Suffix). ltb next (length s.entries.now)) suffixes) (filter (λ (s : Suffix). ltb next (length s.entries.now)) suffixes)) ≡ ranked n r ++ flat_map (ranked n) suffixes) [
      | true ↦ λ e. ap (λ is. ranked n r ++ is) rest
      | false ↦ λ e. rest ∙ ap (λ es. map (item_with r.owner) es ++ flat_map (ranked n) suffixes) (sym (ranked-beyond r.entries.now (All-head InOrder r suffixes rising) n (omega (arith, le, ltb-false next (length r.entries.now) e))))
    ] refl

pub kept-suffixes : (p : Suffix → Bool) (suffixes : List Suffix) → AreSuffixes suffixes → AreSuffixes (filter p suffixes)
kept-suffixes p suffixes are = record {
  apart = AllPairs-filter (λ (r s : Suffix). r.owner ≢ s.owner) p suffixes are.apart;
  rising = All-filter p InOrder suffixes are.rising;
}
