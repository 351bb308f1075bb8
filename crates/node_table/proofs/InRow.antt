-- One owner's row: how many entries it has at most, and what becomes of it where an entry is taken out or put in.
-- Serves the functions of `rows`, `InLayout`, `Laid` and `Newest`.
use Rattle.node_table.proofs.Common.{◌≡◌, ◌≢◌, ℕ, zero, suc, ◌+◌, ◌-◌, ◌<◌, ◌≤◌, false, cond, eqb, ◌==◌, List, [], ◌∷◌, length, map, get_or, Some, None, All, inl, inr, refl, sym, ap, ◌∙◌, subst, arith, Less, Equal, Greater, is_lt, AllPairs, remove, cases_lt, cases_eq, eq-eqb, ne_eqb, eqb-true, Decides-eqb, length-map, length-insert, get_or-insert_below, get_or-insert_at, get_or-insert_above, length-remove, get_or-remove_below, get_or-remove_above, All-cons, All-tail, All-map, All-contains, AllPairs-cons, all_pairs_remove, IsDistinct-from_AllPairs, length-le_from_distinct_below, Contains-from_any, Entry, Place, entry_in, HaveTwoKeys, place_total, place_same, place_turned}
use Rattle.std.specs.List.{insert}
use Rattle.std.proofs.lemmas.List.{get_or-map}
use Rattle.node_table.specs.Entries.{entry_cmp, StandsBefore}
use Rattle.node_table.specs.inner.Layouts.{IsRow, IsIndexOf, IsRankOf, IsPut}

abbrev pub no_entry : Entry
no_entry = record { key = 0; generation = 0; version = 0; value = 0; born = 0 }

abbrev key_of : Entry → ℕ
key_of e = e.key

-- the rank of an entry, which is compared as a place is
abbrev pub rank_place : Entry → Place
rank_place e = (e.version, e.key)

-- a list whose keys differ and are below a bound is no longer than that
pub row_fits : (keys : ℕ) (row : List Entry) → AllPairs HaveTwoKeys row → All (λ e. e.key < keys) row → length row ≤ keys
row_fits keys row apart below =
    let differ : AllPairs (λ x y. x ≢ y) (map key_of row) = λ i j d lt in_range same.
    let len = length-map row key_of in
    apart i j no_entry lt (omega arith) (sym (get_or-map key_of row i no_entry d (omega arith)) ∙ same ∙ get_or-map key_of row j no_entry d (omega arith)) in
    let most = length-le_from_distinct_below (map key_of row) keys (IsDistinct-from_AllPairs Decides-eqb (map key_of row) differ)
    (λ q has. All-contains (λ k. k < keys) (map key_of row) q (All-map (λ k. k < keys) key_of row below) (Contains-from_any {eq = eqb} eqb-true q (map key_of row) has)) in
    omega (arith, most, length-map row key_of)

-- and shorter where another key is below the bound
pub room_for_key : (keys : ℕ) (row : List Entry) (entry : Entry) → IsRow keys row → All (λ e. e.key ≢ entry.key) row → entry.key < keys → length row < keys
room_for_key keys row entry is_row absent below =
    let most = row_fits keys (entry ∷ row) (AllPairs-cons HaveTwoKeys entry row (λ k d lt same. absent k d lt (sym same)) is_row.apart) (All-cons (λ e. e.key < keys) entry row below is_row.keys_below) in
    omega (arith, most)

all_pairs_insert : {X : Type 0} (R : X → X → Type 0) (xs : List X) (n : ℕ) (y : X) → n ≤ length xs → AllPairs R xs → ((k : ℕ) (d : X) → k < n → R (get_or xs k d) y) → ((k : ℕ) (d : X) → n ≤ k → k < length xs → R y (get_or xs k d)) → AllPairs R (insert xs n y)
all_pairs_insert R xs n y within pairs front behind i j d lt in_range =
    let len = length-insert xs n y within in
    elim (cases_lt i n) [
      | inl i_front ↦ subst (λ x. R x (get_or (insert xs n y) j d)) (sym (get_or-insert_below xs n y d i i_front within)) (elim (cases_lt j n) [
        | inl j_front ↦ subst (R (get_or xs i d)) (sym (get_or-insert_below xs n y d j j_front within)) (pairs i j d lt (omega arith))
        | inr j_from ↦ elim (cases_eq j n) [
          | inl same ↦ subst (λ m. R (get_or xs i d) (get_or (insert xs n y) m d)) (sym same) (subst (R (get_or xs i d)) (sym (get_or-insert_at xs n y d within)) (front i d i_front))
          | inr other ↦ let j_is : (j - 1) + 1 ≡ j = omega arith in
              subst (λ m. R (get_or xs i d) (get_or (insert xs n y) m d)) j_is (subst (R (get_or xs i d)) (sym (get_or-insert_above xs n y d (j - 1) (omega arith) within)) (pairs i (j - 1) d (omega arith) (omega arith)))
        ]
      ])
      | inr i_from ↦ let j_is : (j - 1) + 1 ≡ j = omega arith in
          subst (λ m. R (get_or (insert xs n y) i d) (get_or (insert xs n y) m d)) j_is (subst (R (get_or (insert xs n y) i d)) (sym (get_or-insert_above xs n y d (j - 1) (omega arith) within)) (elim (cases_eq i n) [
            | inl same ↦ subst (λ m. R (get_or (insert xs n y) m d) (get_or xs (j - 1) d)) (sym same) (subst (λ x. R x (get_or xs (j - 1) d)) (sym (get_or-insert_at xs n y d within)) (behind (j - 1) d (omega arith) (omega arith)))
            | inr other ↦ let i_is : (i - 1) + 1 ≡ i = omega arith in
                subst (λ m. R (get_or (insert xs n y) m d) (get_or xs (j - 1) d)) i_is (subst (λ x. R x (get_or xs (j - 1) d)) (sym (get_or-insert_above xs n y d (i - 1) (omega arith) within)) (pairs (i - 1) (j - 1) d (omega arith) (omega arith)))
          ]))
    ]

all-insert : {X : Type 0} (P : X → Type 0) (xs : List X) (n : ℕ) (y : X) → n ≤ length xs → All P xs → P y → All P (insert xs n y)
all-insert P xs n y within all new k d in_range =
    let len = length-insert xs n y within in
    elim (cases_lt k n) [
      | inl front ↦ subst P (sym (get_or-insert_below xs n y d k front within)) (all k d (omega arith))
      | inr from ↦ elim (cases_eq k n) [
        | inl same ↦ subst (λ m. P (get_or (insert xs n y) m d)) (sym same) (subst P (sym (get_or-insert_at xs n y d within)) new)
        | inr other ↦ let k_is : (k - 1) + 1 ≡ k = omega arith in
            subst (λ m. P (get_or (insert xs n y) m d)) k_is (subst P (sym (get_or-insert_above xs n y d (k - 1) (omega arith) within)) (all (k - 1) d (omega arith)))
      ]
    ]

pub all-remove : {X : Type 0} (P : X → Type 0) (xs : List X) (n : ℕ) → n < length xs → All P xs → All P (remove xs n)
all-remove P xs n within all k d in_range =
    let len = length-remove xs n within in
    elim (cases_lt k n) [
      | inl front ↦ subst P (sym (get_or-remove_below xs n d k front within)) (all k d (omega arith))
      | inr from ↦ subst P (sym (get_or-remove_above xs n d k from within)) (all (k + 1) d (omega arith))
    ]

entry_in-insert_here : (xs : List Entry) (n : ℕ) (e : Entry) → All (λ x. x.key ≢ e.key) xs → entry_in (insert xs n e) e.key ≡ Some e
entry_in-insert_here xs zero e absent = ap (λ b. cond b (Some e) (entry_in xs e.key)) (eq-eqb e.key e.key refl)
entry_in-insert_here [] (suc n) e absent = ap (λ b. cond b (Some e) None) (eq-eqb e.key e.key refl)
entry_in-insert_here (x ∷ xs) (suc n) e absent =
    ap (λ b. cond b (Some x) (entry_in (insert xs n e) e.key)) (ne_eqb x.key e.key (absent 0 x (omega arith)))
    ∙ entry_in-insert_here xs n e (All-tail (λ x. x.key ≢ e.key) x xs absent)

entry_in-insert_other : (xs : List Entry) (n : ℕ) (e : Entry) (key : ℕ) → key ≢ e.key → entry_in (insert xs n e) key ≡ entry_in xs key
entry_in-insert_other xs zero e key other = ap (λ b. cond b (Some e) (entry_in xs key)) (ne_eqb e.key key (λ same. other (sym same)))
entry_in-insert_other [] (suc n) e key other = ap (λ b. cond b (Some e) None) (ne_eqb e.key key (λ same. other (sym same)))
entry_in-insert_other (x ∷ xs) (suc n) e key other = ap (λ r. cond (x.key == key) (Some x) r) (entry_in-insert_other xs n e key other)

entry_in-remove_other : (xs : List Entry) (n : ℕ) (d : Entry) (key : ℕ) → n < length xs → key ≢ (get_or xs n d).key → entry_in (remove xs n) key ≡ entry_in xs key
entry_in-remove_other [] n d key lt other = absurd (omega arith)
entry_in-remove_other (x ∷ xs) zero d key lt other = sym (ap (λ b. cond b (Some x) (entry_in xs key)) (ne_eqb x.key key (λ same. other (sym same))))
entry_in-remove_other (x ∷ xs) (suc n) d key lt other = ap (λ r. cond (x.key == key) (Some x) r) (entry_in-remove_other xs n d key (omega arith) other)

-- of two entries with two keys the one stands before the other or behind it
stands_behind : (d e : Entry) → d.key ≢ e.key → is_lt (entry_cmp d e) ≡ false → StandsBefore e d
stands_behind d e other not_before = elim (entry_cmp d e) as (λ r. entry_cmp d e ≡ r → is_lt r ≡ false → StandsBefore e d) [
  | Less ↦ λ is contrary. cc
  | Equal ↦ λ is _. absurd (other (ap (λ (p : Place). p.1) (place_same (rank_place d) (rank_place e) is)))
  | Greater ↦ λ is _. place_turned (rank_place d) (rank_place e) Greater is
] refl not_before

module _ (keys : ℕ) (row : List Entry) (entry : Entry) (rank : ℕ) (is_row : IsRow keys row) (absent : All (λ e. e.key ≢ entry.key) row) (ranked : IsRankOf row entry rank) where
  front_before : (k : ℕ) (d : Entry) → k < rank → StandsBefore (get_or row k d) entry
  front_before k d lt =
      let within = ranked.within in
      let last = stands_behind entry (get_or row (rank - 1) d) (λ same. absent (rank - 1) d (omega arith) (sym same)) (ranked.front d (omega arith)) in
      elim (cases_lt k (rank - 1)) [
        | inl before ↦ place_total.trans (rank_place (get_or row k d)) (rank_place (get_or row (rank - 1) d)) (rank_place entry) (is_row.rising k (rank - 1) d before (omega arith)) last
        | inr not_before ↦ let same : rank - 1 ≡ k = omega arith in subst (λ j. StandsBefore (get_or row j d) entry) same last
      ]

  -- an entry that came in at its rank
  pub put_at_rank : entry.key < keys → 1 ≤ entry.version → IsPut keys entry row (insert row rank entry)
  put_at_rank below written = record {
    row = record {
      rising = all_pairs_insert StandsBefore row rank entry ranked.within is_row.rising front_before ranked.behind;
      apart = all_pairs_insert HaveTwoKeys row rank entry ranked.within is_row.apart (λ k d lt. absent k d (omega (arith, ranked.within))) (λ k d le lt same. absent k d lt (sym same));
      keys_below = all-insert (λ e. e.key < keys) row rank entry ranked.within is_row.keys_below below;
      written = all-insert (λ e. 1 ≤ e.version) row rank entry ranked.within is_row.written written;
    };
    here = entry_in-insert_here row rank entry absent;
    others = λ key other. entry_in-insert_other row rank entry key other;
    some = omega (arith, length-insert row rank entry ranked.within);
    grows = omega (arith, length-insert row rank entry ranked.within);
  }

-- a row without the entry of a key
module _ (keys : ℕ) (row : List Entry) (key index : ℕ) (is_row : IsRow keys row) (found : IsIndexOf row key index) (within : index < length row) where
  pub row_remove : IsRow keys (remove row index)
  row_remove = record {
    rising = all_pairs_remove StandsBefore row index within is_row.rising;
    apart = all_pairs_remove HaveTwoKeys row index within is_row.apart;
    keys_below = all-remove (λ e. e.key < keys) row index within is_row.keys_below;
    written = all-remove (λ e. 1 ≤ e.version) row index within is_row.written;
  }

  pub absent_remove : All (λ e. e.key ≢ key) (remove row index)
  absent_remove k d in_range =
      let len = length-remove row index within in
      elim (cases_lt k index) [
        | inl front ↦ subst (λ (e : Entry). e.key ≢ key) (sym (get_or-remove_below row index d k front within)) (found.before k d front)
        | inr from ↦ subst (λ (e : Entry). e.key ≢ key) (sym (get_or-remove_above row index d k from within)) (λ same. is_row.apart index (k + 1) d (omega arith) (omega arith) (found.here d within ∙ sym same))
      ]

  -- what came in without it came in over it
  pub put_over : (entry : Entry) (after : List Entry) → entry.key ≡ key → length row ≤ length after → IsPut keys entry (remove row index) after → IsPut keys entry row after
  put_over entry after same grows put = record {
    row = put.row;
    here = put.here;
    others = λ k other. put.others k other ∙ entry_in-remove_other row index no_entry k within (λ is. other (is ∙ found.here no_entry within ∙ sym same));
    some = put.some;
    grows = grows;
  }

-- where the index is the row's end no entry has the key
pub absent_from_end : (row : List Entry) (key index : ℕ) → IsIndexOf row key index → length row ≤ index → All (λ e. e.key ≢ key) row
absent_from_end row key index found at_end k d in_range = found.before k d (omega arith)
