-- How many blocks a list of items needs once one of them has come in.
-- Serves the functions of `layouts` and `tables` and `Flags`.
use Rattle.node_table.proofs.Common.{◌≡◌, ◌≢◌, ℕ, zero, suc, ◌+◌, ◌*◌, ◌/◌, ◌<◌, ◌≤◌, true, false, cond, ◌==◌, ◌&&◌, ◌||◌, List, [], ◌∷◌, inl, inr, refl, sym, ap, ◌∙◌, subst, arith, cases_lt, cases_eq, eq-eqb, ne_eqb, mul-le-mul_right, le-div, div-add-mod', Item, Mark, Table, greatest_version, taken, IsProper, IsItemInPlace, frame-taken, greatest_mark-taken_other}
use Rattle.node_table.specs.NodeTableView.{comes_in, needs_block, blocks_below, blocks_for}
use Rattle.node_table.proofs.Taking.{held-taken}

-- greatest versions before and after an item came in, or its owner was flagged
module _ (g h : ℕ → ℕ) (i : Item) (is : List Item) (others : (owner : ℕ) → owner ≢ i.owner → h owner ≡ g owner) where
  needs-other : (owner : ℕ) → owner ≢ i.owner → needs_block h is owner ≡ needs_block g (i ∷ is) owner
  needs-other owner other =
      ap (λ n. cond ((n == 0) && comes_in is owner) 1 0) (others owner other)
      ∙ ap (λ b. cond ((g owner == 0) && (b || comes_in is owner)) 1 0) (sym (ne_eqb i.owner owner (λ same. other (sym same))))

  -- the owners below the item's need as many blocks as before
  pub blocks-upto : (n : ℕ) → n ≤ i.owner → blocks_below h is n ≡ blocks_below g (i ∷ is) n
  blocks-upto zero le = refl
  blocks-upto (suc n) le = omega (arith, blocks-upto n (omega arith), needs-other n (omega arith))

  blocks-step : (part : ℕ) → needs_block h is i.owner + part ≡ needs_block g (i ∷ is) i.owner → (n : ℕ) → i.owner < n → blocks_below h is n + part ≡ blocks_below g (i ∷ is) n
  blocks-step part at zero lt = absurd (omega arith)
  blocks-step part at (suc n) lt = elim (cases_eq n i.owner) [
    | inl same ↦
        let here : needs_block h is n + part ≡ needs_block g (i ∷ is) n = subst (λ owner. needs_block h is owner + part ≡ needs_block g (i ∷ is) owner) (sym same) at in
        omega (arith, blocks-upto n (omega arith), here)
    | inr other ↦ omega (arith, blocks-step part at n (omega arith), needs-other n other)
  ]

  module _ (held : h i.owner ≢ 0) where
    needs-none : needs_block h is i.owner ≡ 0
    needs-none = ap (λ b. cond (b && comes_in is i.owner) 1 0) (ne_eqb (h i.owner) 0 held)

    -- an owner of whom something was held needed none
    pub blocks-came_held : g i.owner ≢ 0 → (n : ℕ) → blocks_below h is n ≡ blocks_below g (i ∷ is) n
    blocks-came_held before n = elim (cases_lt i.owner n) [
      | inl lt ↦ omega (arith, blocks-step 0 (omega (arith, needs-none, none)) n lt)
      | inr past ↦ blocks-upto n past
    ]
      where
        none : needs_block g (i ∷ is) i.owner ≡ 0
        none = ap (λ b. cond (b && comes_in (i ∷ is) i.owner) 1 0) (ne_eqb (g i.owner) 0 before)

    -- and another needed one
    pub blocks-came_new : g i.owner ≡ 0 → (n : ℕ) → i.owner < n → blocks_below h is n + 1 ≡ blocks_below g (i ∷ is) n
    blocks-came_new before n lt = blocks-step 1 (omega (arith, needs-none, one)) n lt
      where
        one : needs_block g (i ∷ is) i.owner ≡ 1
        one = ap (λ b. cond (b && comes_in (i ∷ is) i.owner) 1 0) (eq-eqb (g i.owner) 0 before)
            ∙ ap (λ b. cond (b || comes_in is i.owner) 1 0) (eq-eqb i.owner i.owner refl)

-- an owner needs one block at most
pub needs-le : (g : ℕ → ℕ) (added : List Item) (owner : ℕ) → needs_block g added owner ≤ 1
needs-le g added owner = elim ((g owner == 0) && comes_in added owner) as (λ b. let part : ℕ = cond b 1 0 in part ≤ 1) [ true ↦ omega arith | false ↦ omega arith ]

-- the same versions make the same need
pub blocks-same : (g h : ℕ → ℕ) (added : List Item) (n : ℕ) → ((owner : ℕ) → owner < n → g owner ≡ h owner) → blocks_below g added n ≡ blocks_below h added n
blocks-same g h added zero same = refl
blocks-same g h added (suc n) same =
    let last : needs_block g added n ≡ needs_block h added n = ap (λ v. cond ((v == 0) && comes_in added n) 1 0) (same n (omega arith)) in
    omega (arith, last, blocks-same g h added n (λ owner lt. same owner (omega arith)))

-- no list needs a block
pub blocks-nil : (g : ℕ → ℕ) (n : ℕ) → blocks_below g [] n ≡ 0
blocks-nil g zero = refl
blocks-nil g (suc n) = omega (arith, blocks-nil g n, none)
  where
    none : needs_block g [] n ≡ 0
    none = elim (g n == 0) as (λ b. let part : ℕ = cond (b && false) 1 0 in part ≡ 0) [ true ↦ refl | false ↦ refl ]

-- a table before and after an item came in
module _ (t u : Table) (i : Item) (is : List Item) (in_place : IsItemInPlace t.nodes t.keys i) (is_taken : u ≡ taken t i) (proper : IsProper u) where
  nodes : u.nodes ≡ t.nodes
  nodes = ap (λ (w : Table). w.nodes) is_taken ∙ (frame-taken t i).nodes

  greatest_is : (owner : ℕ) → greatest_version u owner ≡ greatest_version (taken t i) owner
  greatest_is owner = ap (λ (w : Table). greatest_version w owner) is_taken

  others : (owner : ℕ) → owner ≢ i.owner → greatest_version u owner ≡ greatest_version t owner
  others owner other = greatest_is owner ∙ ap (λ (m : Mark). m.version) (greatest_mark-taken_other t i owner (λ is_own. other (sym is_own)))

  held : greatest_version u i.owner ≢ 0
  held none = omega (arith, greatest_is i.owner, held-taken t i in_place.key_below (subst IsProper is_taken proper) in_place.written)

  blocks-rest_held : greatest_version t i.owner ≢ 0 → blocks_for u is ≡ blocks_for t (i ∷ is)
  blocks-rest_held some = ap (blocks_below (greatest_version u) is) nodes ∙ blocks-came_held (greatest_version t) (greatest_version u) i is others held some t.nodes

  pub blocks-rest_new : greatest_version t i.owner ≡ 0 → blocks_for u is + 1 ≡ blocks_for t (i ∷ is)
  blocks-rest_new none = ap (λ n. blocks_below (greatest_version u) is n + 1) nodes ∙ blocks-came_new (greatest_version t) (greatest_version u) i is others held none t.nodes in_place.owner_below

  -- the room that is left then
  pub room-rest : (len len' keys capacity capacity' : ℕ) → len + blocks_for t (i ∷ is) * keys ≤ capacity → capacity ≤ capacity' → (0 < greatest_version t i.owner → len' ≡ len) → len' ≤ len + keys → len' + blocks_for u is * keys ≤ capacity'
  room-rest len len' keys capacity capacity' room more same at_most = elim (cases_eq (greatest_version t i.owner) 0) [
    | inl none ↦
        let le : blocks_for u is + 1 ≤ blocks_for t (i ∷ is) = omega (arith, blocks-rest_new none) in
        let enough = mul-le-mul_right keys le in
        omega (arith, enough)
    | inr some ↦ omega (arith, ap (λ n. n * keys) (blocks-rest_held some), same (omega arith))
  ]

-- the room for an item of an owner of whom nothing is held
pub room-first : (t : Table) (i : Item) (is : List Item) (len keys capacity : ℕ) → IsItemInPlace t.nodes t.keys i → IsProper (taken t i) → len + blocks_for t (i ∷ is) * keys ≤ capacity → greatest_version t i.owner ≡ 0 → len + keys ≤ capacity
room-first t i is len keys capacity in_place proper room none =
    let le : 1 ≤ blocks_for t (i ∷ is) = omega (arith, blocks-rest_new t (taken t i) i is in_place refl proper none) in
    let enough = mul-le-mul_right keys le in
    omega (arith, enough)

-- a larger part has as much room
pub div-le-div : (a b k : ℕ) → 0 < k → a ≤ b → a / k ≤ b / k
div-le-div a b k some le = le-div (a / k) b k some (omega (arith, div-add-mod' a k))
