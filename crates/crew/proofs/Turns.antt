-- Each step of a thread that opens and shuts a tray keeps the rule. Serves the functions of `trays`.
-- Serves `Trays::new` and `Trays::turn`.
use Rattle.std.proofs.Common.{◌≡◌, ◌≢◌, ℕ, ◌<◌, List, [], ◌∷◌, ◌++◌, get_or, set, length, sym, refl, ap, ◌∙◌, subst, arith, Option, None, IfSome, replicate, map, zero, suc, length-set, get_or-set_same, get_or-set_other}
use contract.BorrowLft.{◌⊑◌, ⊑_meet, ⊑_static}
use mathlib.Core.Logic.{dite}
use mathlib.Core.Option.{some, none}
use native.Mathlib.Decide.{ℕ_discrete}
use lib.ListN.{get_elem?}
use Rattle.std.proofs.lemmas.List.{length-map, length-replicate}
use Rattle.atomic_table.specs.Table.{State, Me, rest, keeps, takes, gives, Allows, Arrives, opening}
use Rattle.atomic_table.proofs.Lists.{set_here, set_else}
use Rattle.crew.specs.Trays.{AreTraysKept, IsTrayOpened}

abbrev first_held : {X : Type 0} → Option X → List (ℕ × Option X) → Option X
first_held d [] = d
first_held d (x ∷ xs) = x.1

empty_at : {X : Type 0} (n i : ℕ) → i < n → get_elem? (map some (replicate {A = Option X} n None)) i ≡ some (some None)
empty_at zero i h = absurd (omega arith)
empty_at (suc n) zero h = refl
empty_at (suc n) (suc i) h = empty_at n i (omega arith)

module _ {X V : Type 0} (kept : ℕ → X → Type 0) where
  pub all_empty : (words : List ℕ) (n : ℕ) (v : V) → length words ≡ n → AreTraysKept kept (opening words (replicate n None) v)
  all_empty words n v long = record {
    words = omega (arith, long, length-map (replicate {A = Option X} n None) some, length-replicate {A = Option X} n None);
    free = λ i below _. (
      None,
      empty_at {X = X} n i (omega (
        arith,
        below,
        length-map (replicate {A = Option X} n None) some,
        length-replicate {A = Option X} n
            None,
      )),
      tt,
    );
  }

  -- once a tray's word is 1, nothing is said of that tray
  opened : (s : State (Option X) V) (i : ℕ) (homes : List _) (views : List V) → AreTraysKept kept s → length homes ≡ length s.homes → i < length s.homes
      → ((j : ℕ) → j ≢ i → get_elem? homes j ≡ get_elem? s.homes j) → AreTraysKept kept (record { words = set s.words i 1; homes = homes; views = views })
  opened s i homes views is long within same = record {
    words = length-set s.words i 1 ∙ (is.words ∙ sym long);
    free = λ j below free. dite (ℕ_discrete j i)
        (λ e. let one : get_or (set s.words i 1) i 0 ≡ 1 = get_or-set_same s.words i 1 0 (omega (arith, is.words)) in
        let none_left : get_or (set s.words i 1) i 0 ≡ 0 = subst (λ k. get_or (set s.words i 1) k 0 ≡ 0) e free in absurd (omega arith))
        (λ ne. let was = is.free j (omega arith) (sym (get_or-set_other s.words i j 1 0 ne) ∙ free) in (was.0, same j ne ∙ was.1, was.2));
  }

  pub opens : (n i : ℕ) (v : V) → i < n → Arrives {V = V} (AreTraysKept kept) n i (λ _. 1) (λ found m. found ≡ 0 → IsTrayOpened (kept i) i m)
  opens n i v within s is wide _ =
      let below : i < length s.homes = omega arith in
      dite (ℕ_discrete (get_or s.words i 0) 0)
      (λ free. let t = is.free i below free in (
        v,
        takes i t.0,
        t.1,
        opened s i (set s.homes i none) (s.views ++ v ∷ []) is (length-set s.homes i none) below (λ j ne. set_else s.homes i j none ne),
        λ _. (t.0, refl, t.2),
      ))
      (λ taken. (v, keeps, tt, opened s i s.homes (s.views ++ v ∷ []) is refl below (λ j ne. refl), λ e. absurd (taken e)))

  shut : (s : State (Option X) V) (i : ℕ) (held : Option X) (views : List V) → AreTraysKept kept s → IfSome held (kept i)
      → AreTraysKept kept (record { words = set s.words i 0; homes = set s.homes i (some held); views = views })
  shut s i held views is ok = record {
    words = length-set s.words i 0 ∙ (is.words ∙ sym (length-set s.homes i (some held)));
    free = λ j below free. let within : j < length s.homes = omega (arith, length-set s.homes i (some held)) in dite (ℕ_discrete j i)
        (λ e. (
          held,
          subst (λ k. get_elem? (set s.homes i (some held)) k ≡ some (some held)) (sym e) (set_here s.homes i (some held) (omega arith)),
          subst
              (λ k. IfSome held (kept k)) (sym e) ok,
        ))
        (λ ne. let was = is.free j within (sym (get_or-set_other s.words i j 0 0 ne) ∙ free) in (was.0, set_else s.homes i j (some held) ne ∙ was.1, was.2));
  }

  pub shuts : (n id i : ℕ) (m : Me (Option X) V) (v : V) (held : Option X) (more : List (ℕ × Option X)) → m ≡ (v, (i, held) ∷ more) → IfSome held (kept i)
      → Allows (AreTraysKept kept) n id m i (λ _. 0) (λ _ _. Unit {0})
  shuts n id i m v held more e ok = subst (λ (x : Me (Option X) V). Allows (AreTraysKept kept) n id x i (λ _. 0) (λ _ _. Unit {0})) (sym e)
      (λ s is wide me _. (v, gives, tt, shut s i held (set s.views id v) is ok, tt))

  -- an opened tray comes first of all that a thread holds
  pub held_first : (i : ℕ) (m : Me (Option X) V) → IsTrayOpened (kept i) i m → (held : Option X) × (m.1 ≡ (i, held) ∷ rest m.1)
  held_first i m opened = (opened.0, opened.1 ∙ ap (λ l. (i, opened.0) ∷ rest l) (sym opened.1))

  -- what an opened tray held keeps the promise
  pub was_kept : (i : ℕ) (m : Me (Option X) V) (found : Option X) → IsTrayOpened (kept i) i m → m.1 ≡ (i, found) ∷ rest m.1 → IfSome found (kept i)
  was_kept i m found opened e =
      let same : opened.0 ≡ found = sym (ap (first_held None) opened.1) ∙ ap (first_held None) e in
      subst (λ x. IfSome x (kept i)) same opened.2

-- What a call on the table asks of the lifetimes, which are those of the trays' values and of their label, before what it asks else. An answer to
-- the whole of it spares the check the forms that it makes of a part, and they are dear here.
pub of_value : (κ X : List ℕ) → κ ⊑ X → κ ⊑ (X ++ []) ++ ((X ++ []) ++ [])
of_value κ X w = search (⊑_meet, ⊑_static)

pub of_label : (κ P : List ℕ) → κ ⊑ P → κ ⊑ (P ++ []) ++ (((P ++ []) ++ []) ++ [])
of_label κ P w = search (⊑_meet, ⊑_static)

abbrev Labels : (P κ1 κ2 κ3 : List ℕ) → Type 0 → Type 0
Labels P κ1 κ2 κ3 A =
    (κ1 ⊑ (P ++ []) ++ (((P ++ []) ++ []) ++ [])) × ((κ2 ⊑ (P ++ []) ++ (((P ++ []) ++ []) ++ [])) × ((κ3 ⊑ (P ++ []) ++ (((P ++ []) ++ []) ++ [])) × A))

pub of_labels : {A : Type 0} {P κ1 κ2 κ3 : List ℕ} → (κ1 ⊑ P) × ((κ2 ⊑ P) × (κ3 ⊑ P)) → A → Labels P κ1 κ2 κ3 A
of_labels w a = (of_label _ _ w.0, (of_label _ _ w.1.0, (of_label _ _ w.1.1, a)))

pub of_rows : {A : Type 0} {X P κ κ1 κ2 κ3 : List ℕ} → (κ ⊑ X) × ((κ1 ⊑ P) × ((κ2 ⊑ P) × (κ3 ⊑ P))) → A
    → (κ ⊑ (X ++ []) ++ ((X ++ []) ++ [])) × Labels P κ1 κ2 κ3 A
of_rows w a = (of_value _ _ w.0, of_labels w.1 a)
