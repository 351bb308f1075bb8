-- Suffixes found owner by owner: their items are the candidates so far.
-- Serves `suffixes_above`.
use Rattle.reconcile.proofs.Common.{◌≡◌, ◌≢◌, ℕ, ◌+◌, ◌<◌, List, [], ◌∷◌, ◌++◌, length, map, get_or, All, refl, sym, ap, ◌∙◌, subst, arith, Contains, AllPairs, flat_map-append, append-nil, All-nil, All-cons, All-append, All-weaker, All-contains, Entry, Mark, IsUpTo, Table, greatest_mark, IsProper, StandsBefore, AreAbove, AreGenerations, AreGreatest, AllPairs-append}
use Rattle.reconcile.specs.Digests.{DigestView, Greatest, told_up_to, told_mark_at}
use Rattle.reconcile.specs.inner.Newer.{AreCandidates, item_with}
use Rattle.reconcile.specs.inner.Suffixes.{suffix_items, items_of_suffixes, OwnersRise, AreSuffixes}
use Rattle.reconcile.specs.declared.suffixes.Suffix.{Suffix}
use Rattle.reconcile.proofs.Newer.{newer-above, newer_items-above, above-none, candidates-own, candidates-more}

-- the suffixes of the owners below a bound
pub record AreFound (t : Table) (told : DigestView) (receiver bound : ℕ) (suffixes : List Suffix) : Type 0 where
  pub all : AreCandidates t told receiver bound (items_of_suffixes suffixes)
  pub rise : OwnersRise suffixes
  pub are : AreSuffixes suffixes
  pub below : All (λ (r : Suffix). r.owner < bound) suffixes

abbrev InOrder : Suffix → Type 0
InOrder r = AllPairs StandsBefore r.entries.now

AllPairs-one : {X : Type 0} (R : X → X → Type 0) (x : X) → AllPairs R (x ∷ [])
AllPairs-one R x i j d lt in_range = absurd (omega arith)

-- of no numbers each is 0
pub none_there : (numbers : List ℕ) (k : ℕ) → length numbers ≡ 0 → get_or numbers k 0 ≡ 0
none_there [] k none = refl
none_there (n ∷ numbers) k none = absurd (omega arith)

-- the mark of a generation and a version that stand in lists
module _ (owner : ℕ) (mark : Mark) (generations versions : List ℕ) (generation : mark.generation ≡ get_or generations owner 0) (version : mark.version ≡ get_or versions owner 0) where
  -- is told of all keys of an owner, where a digest has these
  pub told_alike : (told : DigestView) → told.generations ≡ generations → told.versions ≡ Greatest versions → (key : ℕ) → told_mark_at told owner key ≡ mark
  told_alike told gs vs key i = record {
    generation = (ap (λ ns. get_or ns owner 0) gs ∙ sym generation) i;
    version = (ap (λ k. told_up_to told.keys k owner key) vs ∙ sym version) i;
  }

  -- and is the greatest one, where these are a table's
  pub greatest_there : (t : Table) → owner < t.nodes → AreGenerations t generations → AreGreatest t versions → mark ≡ greatest_mark t owner
  greatest_there t lt gs vs i = record {
    generation = (generation ∙ gs.held owner lt) i;
    version = (version ∙ vs.greatest owner lt) i;
  }

module _ (t : Table) (told : DigestView) (receiver : ℕ) where
  module _ (bound : ℕ) (suffixes : List Suffix) (so_far : AreFound t told receiver bound suffixes) where
    wider : All (λ (r : Suffix). r.owner < bound + 1) suffixes
    wider = All-weaker (λ (r : Suffix). r.owner < bound) (λ (r : Suffix). r.owner < bound + 1) (λ r lt. omega (arith, lt)) suffixes so_far.below

    -- the receiver has none
    pub found-own : bound ≡ receiver → AreFound t told receiver (bound + 1) suffixes
    found-own own = record { all = candidates-own t told receiver bound (items_of_suffixes suffixes) own so_far.all; rise = so_far.rise; are = so_far.are; below = wider }

    module _ (mark : Mark) (entries : List Entry) (other : bound ≢ receiver) (same : (key : ℕ) → told_mark_at told bound key ≡ mark) (above : AreAbove t bound mark entries) where
      more : AreCandidates t told receiver (bound + 1) (items_of_suffixes suffixes ++ map (item_with bound) entries)
      more = subst (λ is. AreCandidates t told receiver (bound + 1) (items_of_suffixes suffixes ++ is)) (newer_items-above t told bound mark entries same above)
          (candidates-more t told receiver bound (items_of_suffixes suffixes) entries other so_far.all (newer-above t told bound mark entries same above))

      -- an owner has a suffix
      pub found-more : (r : Suffix) → r.owner ≡ bound → r.entries.now ≡ entries → AreFound t told receiver (bound + 1) (suffixes ++ r ∷ [])
      found-more r owner is = record {
        all = subst (AreCandidates t told receiver (bound + 1)) items more;
        rise = AllPairs-append (λ (p q : Suffix). p.owner < q.owner) suffixes (r ∷ []) so_far.rise (AllPairs-one (λ (p q : Suffix). p.owner < q.owner) r) (λ p q before behind. earlier p q before behind);
        are = record {
          apart = AllPairs-append (λ (p q : Suffix). p.owner ≢ q.owner) suffixes (r ∷ []) so_far.are.apart (AllPairs-one (λ (p q : Suffix). p.owner ≢ q.owner) r) (λ p q before behind e. absurd (omega (arith, e, earlier p q before behind)));
          rising = All-append InOrder suffixes (r ∷ []) so_far.are.rising (All-cons InOrder r [] (subst (AllPairs StandsBefore) (sym is) above.rising) (All-nil InOrder));
        };
        below = All-append (λ (q : Suffix). q.owner < bound + 1) suffixes (r ∷ []) wider (All-cons (λ (q : Suffix). q.owner < bound + 1) r [] (omega (arith, owner)) (All-nil (λ (q : Suffix). q.owner < bound + 1)));
      }
        where
          earlier : (p q : Suffix) → Contains suffixes p → Contains (r ∷ []) q → p.owner < q.owner
          earlier p q before behind =
              let last : q.owner ≡ bound = All-contains (λ (x : Suffix). x.owner ≡ bound) (r ∷ []) q (All-cons (λ (x : Suffix). x.owner ≡ bound) r [] owner (All-nil (λ (x : Suffix). x.owner ≡ bound))) behind in
              omega (arith, last, All-contains (λ (x : Suffix). x.owner < bound) suffixes p so_far.below before)

          items : items_of_suffixes suffixes ++ map (item_with bound) entries ≡ items_of_suffixes (suffixes ++ r ∷ [])
          items =
              ap (λ is. items_of_suffixes suffixes ++ is) (sym (append-nil (map (item_with bound) entries)))
              ∙ (λ i. items_of_suffixes suffixes ++ (map (item_with (sym owner i)) (sym is i) ++ []))
              ∙ sym (flat_map-append suffix_items suffixes (r ∷ []))

    -- or none, where the greatest mark is told
    pub found-none : (mark : Mark) → bound ≢ receiver → ((key : ℕ) → told_mark_at told bound key ≡ mark) → IsProper t → IsUpTo (greatest_mark t bound) mark → AreFound t told receiver (bound + 1) suffixes
    found-none mark other same proper most = record {
      all = subst (AreCandidates t told receiver (bound + 1)) (append-nil (items_of_suffixes suffixes)) (more mark [] other same (above-none t bound mark proper most));
      rise = so_far.rise;
      are = so_far.are;
      below = wider;
    }
