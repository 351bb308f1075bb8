-- What the calls of the histories make of all that is kept of the owners' writes.
-- Serves `Histories::begin_generation`, `Histories::end_round`, `Histories::new` and `Histories::write`.
use Rattle.version_tables.proofs.Common.{◌≡◌, ◌≢◌, ℕ, zero, suc, ◌+◌, ◌*◌, ◌<◌, ◌≤◌, ◌==◌, cond, List, [], ◌∷◌, ◌++◌, length, get_or, set, map, Some, ◌⊎◌, inl, inr, refl, sym, ap, ◌∙◌, subst, transport, arith, length-append, cases_lt, cases_eq, current-numbered, eq-eqb, ne_eqb, get_or-set_same, get_or-set_other, get_or_append_left, get_or_push, length-set, get_or-append-add, get_or_default, length-map, map-set, append_assoc, append-nil, same_Some, number-at, Entry, AreSizes, MOST_ROUNDS, write_numbered, OwnerListView, all_writes, entries_of, list_of_owner, no_writes, next_entry, with_write, begun_generation, AreWrites, ListBecomes, writes_more, writes_begun, HasEach, HasEachPlace, ArePlanesChanged, cell, nat_tests, number_kept, AreMadeBy, IsRoundMark, IsLastNumber, numbered-within, write_from-here, HistoriesView, round_ended, AreHistories, AreNoWrites, bases_in, IsWrittenSoFar, MayAddWrite, Vec}
use Rattle.version_tables.proofs.Fitting.{earlier-at}
pub use Rattle.version_tables.proofs.OwnCalls.{each-set, place-set, place-within, seen}

-- an owner's number is among as many as there are lists
pub owner-within : {N Z : Type 0} (number : N → ℕ) (v : Vec N Z) {h old : HistoriesView} {owner : ℕ} → length (map number v.items) ≡ length h.lists
    → h ≡ old → owner < length old.lists → owner < v.len
owner-within number v size is lt = omega (arith, size, lt, ap (λ (h : HistoriesView). length h.lists) is, length-map v.items number, v.ok.0)

-- one more write, in the round that comes next
module _ {all : List Entry} {most : ℕ} {v : OwnerListView} (key value rounds : ℕ) (are : AreWrites v) (so_far : IsWrittenSoFar all most (entries_of v))
    (made : AreMadeBy (rounds + 1) (entries_of v)) where
  abbrev w : List Entry
  w = entries_of v

  abbrev e : Entry
  e = next_entry v key value (rounds + 1)

  abbrev after : OwnerListView
  after = with_write v key value (rounds + 1)

  abbrev more : List Entry
  more = entries_of after

  whole : more ≡ w ++ e ∷ []
  whole = sym (append_assoc v.earlier v.current (e ∷ []))

  split : length w ≡ length v.earlier + length v.current
  split = length-append v.earlier v.current

  pub longer : length more ≡ length w + 1
  longer = omega (arith, ap (λ (es : List Entry). length es) whole, length-append w (e ∷ []))

  -- it has the number after theirs, and they keep their own
  numbered-before : (number : ℕ) → number ≤ length w → write_numbered more number ≡ write_numbered w number
  numbered-before zero le = refl
  numbered-before (suc place) le =
      write_from-here more place e (omega (arith, le, longer))
      ∙ ap Some (ap (λ es. get_or es place e) whole ∙ get_or_append_left w (e ∷ []) e place (omega (arith, le)))
      ∙ sym (write_from-here w place e (omega (arith, le)))

  numbered-last : write_numbered more (length w + 1) ≡ Some e
  numbered-last =
      ap (write_numbered more) {x = length w + 1} {y = suc (length w)} (omega arith) ∙ write_from-here more (length w) e (omega (arith, longer))
      ∙ ap Some (ap (λ es. get_or es (length w) e) whole ∙ get_or_push w e e (length w) refl)

  either : (number : ℕ) (d : Entry) → write_numbered more number ≡ Some d
      → ((number ≤ length w) × (write_numbered w number ≡ Some d)) ⊎ ((number ≡ length w + 1) × (d ≡ e))
  either number d is = elim (cases_lt (length w) number) [
    | inl behind ↦
        let last : number ≡ length w + 1 = omega (arith, behind, (numbered-within more number d is).1, longer) in
        inr (last, same_Some d e (sym is ∙ ap (write_numbered more) last ∙ numbered-last))
    | inr upto ↦ let le : number ≤ length w = omega (arith, upto) in inl (le, sym (numbered-before number le) ∙ is)
  ]

  pub so_far-more : write_numbered all (length w + 1) ≡ Some e → length w + 1 < most → IsWrittenSoFar all most more
  so_far-more is below = record {
    begins = λ number le. elim (cases_lt (length w) number) [
      | inl behind ↦ subst (λ n. write_numbered more n ≡ write_numbered all n) {x = length w + 1} (omega (arith, behind, le, longer)) (numbered-last ∙ sym is)
      | inr upto ↦ numbered-before number (omega (arith, upto)) ∙ so_far.begins number (omega (arith, upto))
    ];
    few = omega (arith, below, longer);
    history = record {
      rise = (writes_more v are key value (rounds + 1)).rising;
      born = λ i j d le lt. rw whole (
          let before = λ (lt : i < length w). made.last (suc i) (get_or w i d) (write_from-here w i d lt) in
          grind (arith, longer, get_or_append_left w (e ∷ []) d, get_or_push w e d, so_far.history.born i j d, before));
    };
    numbered = record {
      counted = λ number d is. grind (arith, split, either number d is, so_far.numbered.counted number d);
      older = λ m n c d is_c is_d le.
          grind (arith, split, either m c is_c, either n d is_d, so_far.numbered.older m n c d, earlier-at v are m c, so_far.numbered.counted n d);
      alike = λ m n c d is_c is_d le lt.
          let own = λ (is : write_numbered w m ≡ Some c) (lt : length v.earlier < m). (current-numbered v are m c is lt).generation in
          grind (arith, split, either m c is_c, either n d is_d, so_far.numbered.alike m n c d, own);
    };
  }

  -- its number is the last one of its key
  pub last-own : IsLastNumber after key (length w + 1)
  last-own = record {
    written = omega (arith, longer);
    last = λ m d missed. omega (arith, missed.over, (numbered-within more m d missed.written).1, longer);
    there = λ below lt. (e, record { written = numbered-last; current = omega (arith, split); keyed = refl; over = lt });
  }

  -- those of other keys stay
  pub last-other : (k n : ℕ) → k ≢ key → IsLastNumber v k n → IsLastNumber after k n
  last-other k n other last = record {
    written = omega (arith, last.written, longer);
    last = λ m d missed. elim (either m d missed.written) [
      | inl before ↦ last.last m d (record { written = before.1; current = missed.current; keyed = missed.keyed; over = missed.over })
      | inr one ↦ other (sym missed.keyed ∙ ap (λ (x : Entry). x.key) one.1)
    ];
    there = λ below lt.
        let old = last.there below lt in
        (old.0, record { written = numbered-before n last.written ∙ old.1.written; current = old.1.current; keyed = old.1.keyed; over = old.1.over });
  }

module _ {written : ℕ → List Entry} {most : ℕ} {h : HistoriesView} {nodes : ℕ} {counts bases lasts ends : List ℕ}
    (kept : AreHistories written most h nodes counts bases lasts ends) where
  -- a call that changes one owner's list
  module _ (new : List OwnerListView) (owner : ℕ) (in_nodes : owner < nodes) where
    abbrev list : OwnerListView
    list = list_of_owner h.lists owner

    abbrev n : ℕ
    n = length (all_writes h.lists owner)

    module _ {list' : OwnerListView} (changes : ListBecomes owner list' h.lists new) where
      -- what holds of the others' lists, which stay, and of this one holds of all
      each-list : (P : ℕ → OwnerListView → Type 0) → ((r : ℕ) → r ≢ owner → P r (list_of_owner h.lists r)) → P owner list' → (r : ℕ) → P r (list_of_owner new r)
      each-list P before here r = elim (cases_eq r owner) [
        | inl same ↦ subst (λ k. P k (list_of_owner new k)) (sym same) (subst (P owner) (sym changes.changed) here)
        | inr other ↦ subst (P r) (sym (changes.others r other)) (before r other)
      ]

      histories-changed : {counts' bases' lasts' : List ℕ} → AreWrites list' → IsWrittenSoFar (written owner) most (entries_of list')
          → AreMadeBy (h.rounds + 1) (entries_of list')
          → HasEach nodes (λ r m. m ≡ length (all_writes new r)) counts' → HasEach nodes (λ r m. m ≡ bases_in new r) bases'
          → HasEachPlace nodes h.keys (λ r k m. IsLastNumber (list_of_owner new r) k m) lasts' → n ≤ length (entries_of list')
          → ((round m : ℕ) → round ≤ h.rounds → m ≤ n → IsRoundMark (entries_of list) 0 round m → IsRoundMark (entries_of list') 0 round m)
          → AreHistories written most (record h { lists = new }) nodes counts' bases' lasts' ends
      histories-changed now now_so_far now_made counted based last longer parts = record {
        count = changes.count ∙ kept.count;
        limits = grind (arith, kept.limits, changes.count);
        known = record {
          so_far = each-list (λ r v. IsWrittenSoFar (written r) most (entries_of v)) (λ r _. kept.known.so_far r) now_so_far;
          made = each-list (λ _ v. AreMadeBy (h.rounds + 1) (entries_of v)) (λ r _. kept.known.made r) now_made;
          writes = each-list (λ _ v. AreWrites v) (λ r _. kept.known.writes r) now;
        };
        counted = counted;
        based = based;
        last = last;
        ends_size = kept.ends_size;
        ended = record {
          none = kept.ended.none;
          rise = kept.ended.rise;
          parts = λ r round lt upto. each-list (λ r v. r < nodes → IsRoundMark (entries_of v) 0 round (cell ends nodes r round))
              (λ r _ lt. kept.ended.parts r round lt upto)
              (λ lt. parts round (cell ends nodes owner round) upto (kept.reached owner round lt upto) (kept.ended.parts owner round lt upto)) r lt;
        };
        reached = λ r round lt upto. each-list (λ r v. r < nodes → cell ends nodes r round ≤ length (entries_of v))
            (λ r _ lt. kept.reached r round lt upto) (λ lt. omega (arith, kept.reached owner round lt upto, longer)) r lt;
      }

    pub histories-written : (key value : ℕ) {counts' lasts' : List ℕ} → MayAddWrite written most h owner key value
        → ListBecomes owner (with_write list key value (h.rounds + 1)) h.lists new
        → counts' ≡ set counts owner (n + 1) → lasts' ≡ set lasts (key * nodes + owner) (n + 1)
        → AreHistories written most (record h { lists = new }) nodes counts' bases lasts' ends
    histories-written key value may changes is last_is =
        let are = kept.known.writes owner in let so_far = kept.known.so_far owner in
        let made = kept.known.made owner in let more = longer key value h.rounds are so_far made in
        transport (λ i. AreHistories written most (record h { lists = new }) nodes (sym is i) bases (sym last_is i) ends)
        (histories-changed changes (writes_more list are key value (h.rounds + 1)) (so_far-more key value h.rounds are so_far made may.under.is may.under.below)
        (grind (arith, either key value h.rounds are so_far made, made))
        (each-set (λ r m. m ≡ length (all_writes new r)) counts nodes owner (n + 1) kept.counted.size in_nodes
        (sym (ap (λ (v : OwnerListView). length (entries_of v)) changes.changed ∙ more))
        (λ r lt other. kept.counted.each r lt ∙ ap (λ (v : OwnerListView). length (entries_of v)) (sym (changes.others r other))))
        (record {
          size = kept.based.size;
          each = λ r lt. kept.based.each r lt ∙ each-list changes (λ r v. bases_in h.lists r ≡ length v.earlier) (λ _ _. refl) refl r;
        })
        (place-set lasts nodes h.keys owner key (n + 1) kept.last.size in_nodes may.key_below (λ r k m. IsLastNumber (list_of_owner new r) k m)
        (subst (λ v. IsLastNumber v key (n + 1)) (sym changes.changed) (last-own key value h.rounds are so_far made))
        (λ r k lt in_key. each-list changes (λ r v. r < nodes → (r ≢ owner) ⊎ (k ≢ key) → IsLastNumber v k (cell lasts nodes r k))
        (λ r _ lt _. kept.last.each r k lt in_key)
        (λ lt other. last-other key value h.rounds are so_far made k (cell lasts nodes owner k) (elim other [ inl ne ↦ absurd (ne refl) | inr ne ↦ ne ])
        (kept.last.each owner k lt in_key)) r lt))
        (omega (arith, more)) (λ round n upto within parts. grind (arith, either key value h.rounds are so_far made, parts)))

    pub histories-begun : {bases' lasts' : List ℕ} → ListBecomes owner (begun_generation list) h.lists new → bases' ≡ set bases owner n
        → ArePlanesChanged (λ r k x y. y ≡ cond (r == owner) (number_kept n x) x) nodes h.keys lasts lasts'
        → AreHistories written most (record h { lists = new }) nodes counts bases' lasts' ends
    histories-begun {lasts' = lasts'} changes is cleared =
        subst (λ bs. AreHistories written most (record h { lists = new }) nodes counts bs lasts' ends) (sym is)
        (histories-changed changes (writes_begun list (kept.known.writes owner)) (rw whole (kept.known.so_far owner)) (rw whole (kept.known.made owner))
        (record {
          size = kept.counted.size;
          each = λ r lt. kept.counted.each r lt
              ∙ each-list changes (λ r v. length (all_writes h.lists r) ≡ length (entries_of v)) (λ _ _. refl) (sym same) r;
        })
        (each-set (λ r m. m ≡ bases_in new r) bases nodes owner n kept.based.size in_nodes
        (sym (ap (λ (v : OwnerListView). length v.earlier) changes.changed))
        (λ r lt other. kept.based.each r lt ∙ ap (λ (v : OwnerListView). length v.earlier) (sym (changes.others r other))))
        (record {
          size = cleared.size ∙ kept.last.size;
          each = λ r k lt in_key. each-list changes (λ r v. r < nodes → IsLastNumber v k (cell lasts' nodes r k))
              (λ r other lt. subst (IsLastNumber (list_of_owner h.lists r) k) (sym (rw (ne_eqb r owner other) at (cleared.each r k lt in_key)))
              (kept.last.each r k lt in_key))
              (λ lt. subst (IsLastNumber (begun_generation list) k) (sym (dropped k in_key)) (record {
                written = omega arith;
                last = λ m d missed. omega (arith, missed.current, (numbered-within (entries_of (begun_generation list)) m d missed.written).1, same);
                there = λ below lt. absurd (omega (arith, lt));
              })) r lt;
        })
        (omega (arith, same)) (λ round m _ _ parts. rw whole parts))
      where
        whole : entries_of (begun_generation list) ≡ entries_of list
        whole = append-nil (entries_of list)

        same : length (entries_of (begun_generation list)) ≡ n
        same = ap (λ (es : List Entry). length es) whole

        dropped : (k : ℕ) → k < h.keys → cell lasts' nodes owner k ≡ 0
        dropped k in_keys =
            let upto = (kept.last.each owner k in_nodes in_keys).written in
            (rw (eq-eqb owner owner refl) at (cleared.each owner k in_nodes in_keys)) ∙ grind (arith, nat_tests)

  -- one more round's end
  module _ (owner : ℕ) (lt : owner < nodes) where
    row-before : (round : ℕ) → round ≤ h.rounds → cell (ends ++ counts) nodes owner round ≡ cell ends nodes owner round
    row-before round upto =
        get_or_append_left ends counts 0 (round * nodes + owner)
        (omega (arith, place-within nodes (h.rounds + 1) owner round lt (omega (arith, upto)), kept.ends_size))

    row-last : cell (ends ++ counts) nodes owner (h.rounds + 1) ≡ length (all_writes h.lists owner)
    row-last =
        ap (λ i. get_or (ends ++ counts) i 0) {x = (h.rounds + 1) * nodes + owner} {y = length ends + owner} (omega (arith, kept.ends_size))
        ∙ get_or-append-add ends counts owner 0 ∙ kept.counted.each owner lt

    each-round : (P : ℕ → ℕ → Type 0) → ((round : ℕ) → round ≤ h.rounds → P round (cell ends nodes owner round))
        → P (h.rounds + 1) (length (all_writes h.lists owner)) → (round : ℕ) → round ≤ h.rounds + 1 → P round (cell (ends ++ counts) nodes owner round)
    each-round P before after round upto = elim (cases_lt h.rounds round) [
      | inl new ↦ subst (λ m. P m (cell (ends ++ counts) nodes owner m)) {x = h.rounds + 1} (omega arith) (subst (P (h.rounds + 1)) (sym row-last) after)
      | inr not_new ↦ let old : round ≤ h.rounds = omega (arith, not_new) in subst (P round) (sym (row-before round old)) (before round old)
    ]

  pub histories-ended : {ends' : List ℕ} → ends' ≡ ends ++ counts → h.rounds < MOST_ROUNDS
      → AreHistories written most (round_ended h) nodes counts bases lasts ends'
  histories-ended is left = subst (AreHistories written most (round_ended h) nodes counts bases lasts) (sym is) (record {
    count = kept.count;
    limits = record { few_nodes = kept.limits.few_nodes; some_key = kept.limits.some_key; few_keys = kept.limits.few_keys; few_rounds = omega (arith, left) };
    known = record {
      so_far = kept.known.so_far;
      made = λ owner. record { first = (kept.known.made owner).first; last = λ number d is. omega (arith, (kept.known.made owner).last number d is) };
      writes = kept.known.writes;
    };
    counted = kept.counted;
    based = kept.based;
    last = kept.last;
    ends_size = grind (arith, length-append ends counts, kept.ends_size, kept.counted.size);
    ended = record {
      none = λ owner lt. row-before owner lt 0 (omega arith) ∙ kept.ended.none owner lt;
      rise = λ owner round lt before.
          let last = λ (is : h.rounds ≡ round). ap (λ m. cell (ends ++ counts) nodes owner (m + 1)) is in
          let was = kept.ended.rise owner round lt in let within = kept.reached owner round lt in
          grind (arith, row-before owner lt round, row-before owner lt (round + 1), row-last owner lt, last);
      parts = λ owner round lt. each-round owner lt (λ round mark. IsRoundMark (all_writes h.lists owner) 0 round mark)
          (λ round. kept.ended.parts owner round lt) (record {
            upto = λ number d _ is _. (kept.known.made owner).last number d is;
            above = λ number d _ is behind. absurd (omega (arith, behind, (numbered-within (all_writes h.lists owner) number d is).1));
          }) round;
    };
    reached = λ owner round lt. each-round owner lt (λ _ mark. mark ≤ length (all_writes h.lists owner)) (λ round. kept.reached owner round lt)
        (omega arith) round;
  })

-- there are as many lists as nodes
pub nodes-are : {written : ℕ → List Entry} {most : ℕ} {h : HistoriesView} {nodes : ℕ} {counts bases lasts ends : List ℕ}
    → AreHistories written most h nodes counts bases lasts ends → AreHistories written most h (length h.lists) counts bases lasts ends
nodes-are kept = rw kept.count kept

-- what code reads of counts is how much the owner wrote
pub count-read : {N : Type 0} {written : ℕ → List Entry} {most nodes : ℕ} {h : HistoriesView} {bases lasts ends : List ℕ} (number : N → ℕ) (counts : List N)
    → AreHistories written most h nodes (map number counts) bases lasts ends
    → (owner : ℕ) (x : N) → owner < nodes → x ≡ get_or counts owner x → number x ≡ length (all_writes h.lists owner)
count-read number counts kept owner x lt is =
    number-at number counts owner x (omega (arith, lt, kept.counted.size, length-map counts number)) is ∙ kept.counted.each owner lt

-- no number is that of a write where nothing was written
none-written : {P : Type 0} (number : ℕ) (e : Entry) → write_numbered [] number ≡ Some e → P
none-written number e is = let within = numbered-within [] number e is in absurd (omega (arith, within.0, within.1))

so_far-none : (all : List Entry) (most : ℕ) → 0 < most → IsWrittenSoFar all most []
so_far-none all most some = record {
  begins = λ number le. subst (λ n. write_numbered [] n ≡ write_numbered all n) {x = 0} {y = number} (omega (arith, le)) refl;
  few = some;
  history = record { rise = λ i j d _ lt. absurd (omega arith); born = λ i j d _ lt. absurd (omega arith) };
  numbered = record { counted = λ n e. none-written n e; older = λ m n d e is _ _. none-written m d is; alike = λ m n d e is _ _ _. none-written m d is };
}

-- before the first round
pub histories-empty : (written : ℕ → List Entry) (most nodes keys : ℕ) (lists : List OwnerListView) {counts bases lasts ends : List ℕ} → 0 < most
    → AreSizes nodes keys → AreNoWrites nodes lists → HasEach nodes (λ r n. n ≡ 0) counts → HasEach nodes (λ r n. n ≡ 0) bases
    → HasEach (keys * nodes) (λ r n. n ≡ 0) lasts → HasEach nodes (λ r n. n ≡ 0) ends
    → AreHistories written most (record { lists = lists; keys = keys; rounds = 0 }) nodes counts bases lasts ends
histories-empty written most nodes keys lists {counts} {bases} {lasts} {ends} some sizes nothing no_counts no_bases no_lasts no_ends = record {
  count = nothing.count;
  limits = record { few_nodes = omega (arith, sizes.few_nodes, nothing.count); some_key = sizes.some_key; few_keys = sizes.few_keys; few_rounds = omega arith };
  known = record {
    so_far = λ r. of-none (λ v. IsWrittenSoFar (written r) most (entries_of v)) r (so_far-none (written r) most some);
    made = λ r. of-none (λ v. AreMadeBy 1 (entries_of v)) r (record { first = λ n e. none-written n e; last = λ n e. none-written n e });
    writes = λ r. of-none AreWrites r
        (record { current = λ i d lt. absurd (omega arith); earlier = λ i d lt. absurd (omega arith); rising = λ i j d _ lt. absurd (omega arith) });
  };
  counted = record { size = no_counts.size; each = λ r lt. of-none (λ v. get_or counts r 0 ≡ length (entries_of v)) r (no_counts.each r lt) };
  based = record { size = no_bases.size; each = λ r lt. of-none (λ v. get_or bases r 0 ≡ length v.earlier) r (no_bases.each r lt) };
  last = record {
    size = no_lasts.size;
    each = λ r k lt in_keys. of-none (λ v. IsLastNumber v k (cell lasts nodes r k)) r
        (subst (IsLastNumber no_writes k) (sym (no_lasts.each (k * nodes + r) (place-within nodes keys r k lt in_keys))) (record {
          written = omega arith;
          last = λ m d missed. none-written m d missed.written;
          there = λ below lt. absurd (omega arith);
        }));
  };
  ends_size = omega (arith, no_ends.size);
  ended = record {
    none = λ r lt. row r 0 lt (omega arith);
    rise = λ r round _ lt. absurd (omega arith);
    parts = λ r round lt upto. of-none (λ v. IsRoundMark (entries_of v) 0 round (cell ends nodes r round)) r
        (record { upto = λ n e _ is _. none-written n e is; above = λ n e _ is _. none-written n e is });
  };
  reached = λ r round lt upto. omega (arith, row r round lt upto);
}
  where
    of-none : (P : OwnerListView → Type 0) (r : ℕ) → P no_writes → P (list_of_owner lists r)
    of-none P r = subst P (sym (nothing.empty r))

    row : (r round : ℕ) → r < nodes → round ≤ 0 → cell ends nodes r round ≡ 0
    row r round lt upto = subst (λ i. get_or ends i 0 ≡ 0) {x = r} {y = round * nodes + r}
        (omega (arith, ap (λ (n : ℕ). n * nodes) {x = round} {y = 0} (omega (arith, upto)))) (no_ends.each r lt)

-- to set what is read at an owner's place changes that alone
pub list-becomes : (lists : List OwnerListView) (owner : ℕ) (held list : OwnerListView) (f : OwnerListView → OwnerListView) → owner < length lists
    → held ≡ get_or lists owner held → list ≡ f held → ListBecomes owner (f (list_of_owner lists owner)) lists (set lists owner list)
list-becomes lists owner held list f lt here is = record {
  count = length-set lists owner list;
  changed = get_or-set_same lists owner list no_writes lt ∙ is ∙ ap f (here ∙ get_or_default lists owner held no_writes lt);
  others = λ r other. get_or-set_other lists owner r list no_writes other;
}

-- one number is set
pub numbers-set : {A : Type 0} (number : A → ℕ) (xs : List A) (owner : ℕ) (x : A) (n : ℕ) → number x ≡ n
    → map number (set xs owner x) ≡ set (map number xs) owner n
numbers-set number xs owner x n is = map-set number xs owner x ∙ ap (set (map number xs) owner) is
