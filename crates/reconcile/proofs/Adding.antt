-- Items that come into a parcel, one list after another.
-- Serves the functions of `candidates`, `parcels` and `suffixes`.
use Rattle.reconcile.proofs.Common.{◌≡◌, ◌≤◌, List, [], ◌++◌, refl, sym, ap, ◌∙◌, arith, append-nil, append_assoc, Item, Budget, Entries, Bytes, item_share, fitting, left_after, fitting-append, left_after-append}
use Rattle.reconcile.specs.inner.Parcels.{AddsFitting}
use Rattle.reconcile.specs.declared.parcels.Parcel.{Parcel}

-- each item takes something
pub some_share : (budget : Budget) (i : Item) → 1 ≤ item_share budget i
some_share (Entries n) i = omega arith
some_share (Bytes n) i = omega arith

pub adds-none : (p : Parcel) → AddsFitting [] p p
adds-none p = record { budget = refl; added = sym (append-nil p.items.items); left = refl }

-- one list and then another
pub adds-append : (xs ys : List Item) (a b c : Parcel) → AddsFitting xs a b → AddsFitting ys b c → AddsFitting (xs ++ ys) a c
adds-append xs ys a b c first then =
    let share = item_share a.budget in
    record {
      budget = then.budget ∙ first.budget;
      added =
          then.added
          ∙ (λ i. first.added i ++ fitting (item_share (first.budget i)) (first.left i) ys)
          ∙ append_assoc a.items.items (fitting share a.left xs) (fitting share (left_after share a.left xs) ys)
          ∙ ap (λ is. a.items.items ++ is) (sym (fitting-append share (some_share a.budget) a.left xs ys));
      left =
          then.left
          ∙ (λ i. left_after (item_share (first.budget i)) (first.left i) ys)
          ∙ sym (left_after-append share (some_share a.budget) a.left xs ys);
    }

-- what comes in under a budget that is known by another name
pub record Adds (budget : Budget) (items : List Item) (old new : Parcel) : Type 0 where
  pub same : new.budget ≡ budget
  pub added : new.items.items ≡ old.items.items ++ fitting (item_share budget) old.left items
  pub left : new.left ≡ left_after (item_share budget) old.left items

pub adds-under : (budget : Budget) (items : List Item) (a b : Parcel) → a.budget ≡ budget → AddsFitting items a b → Adds budget items a b
adds-under budget items a b is adds = record {
  same = adds.budget ∙ is;
  added = adds.added ∙ ap (λ (m : Budget). a.items.items ++ fitting (item_share m) a.left items) is;
  left = adds.left ∙ ap (λ (m : Budget). left_after (item_share m) a.left items) is;
}
