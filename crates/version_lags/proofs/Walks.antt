-- The first write of an owner that some copy misses has been missed for longest.
-- Serves `Piece::figures` and `lag_of_owner`.
use Rattle.version_lags.proofs.Common.{◌≡◌, ℕ, zero, suc, ◌+◌, ◌-◌, ◌*◌, ◌<◌, ◌≤◌, max, List, length, get_or, Some, refl, ap, ◌∙◌, arith, Entry, OwnerListView, entries_of, write_numbered, most_below, rounds_behind, IsRoundMark, numbered-placed, numbered-within, number-at, plane-within, cells_in, Grid, base_of, number_staleness, NonePassUpto, MayWalk, WalksFrom, most_lag}
use Rattle.version_lags.proofs.Missed.{numbers-born}
use Rattle.version_lags.proofs.Lagging.{lag-upto, lag-since}

most_below-le : (f : ℕ → ℕ) (m x : ℕ) → ((k : ℕ) → k < m → f k ≤ x) → most_below m f ≤ x
most_below-le f zero x le = omega arith
most_below-le f (suc m) x le = omega (arith, le m (omega arith), most_below-le f m x (λ k lt. le k (omega arith)))

most_below-has : (f : ℕ → ℕ) (m k : ℕ) → k < m → f k ≤ most_below m f
most_below-has f zero k lt = absurd (omega arith)
most_below-has f (suc m) k lt = grind (arith, most_below-has f m k)

module _ {list : OwnerListView} {keys round most first : ℕ} {least : ℕ → ℕ} (walks : WalksFrom list keys round most first least) where
  abbrev all : List Entry
  all = entries_of list

  -- no copy has been behind for longer than since the writes behind a place
  walk-upto : (place longest : ℕ) → NonePassUpto list least place
      → ((m : ℕ) (e : Entry) → place < m → write_numbered all m ≡ Some e → round - e.born + 1 ≤ longest) → most_lag keys round list least ≤ longest
  walk-upto place longest none upto = most_below-le _ keys longest (λ k in_keys.
      lag-upto list walks.writes walks.in_order round k (least k) longest (walks.written k in_keys) (λ m e missed.
      let behind = λ (later : place < m). upto m e later missed.written in
      grind (arith, none m e missed.written missed.current, ap least missed.keyed, missed.over)))

  pub walk-none : (place : ℕ) → NonePassUpto list least place → length all ≤ place → 0 ≡ most_lag keys round list least
  walk-none place none past = omega (arith, walk-upto place 0 none (λ m e behind is. absurd (omega (arith, (numbered-within all m e is).1))))

  -- no write is of a later round
  pub born-upto : (m : ℕ) (e : Entry) → write_numbered all m ≡ Some e → e.born ≤ round
  born-upto m e is =
      let at = numbered-placed all m e is in omega (arith, walks.born at.place e at.within, ap (λ (x : Entry). x.born) (at.there e))

  -- where all behind the number was written after a round, none has been behind for longer than since then
  pub lag-recent : (since mark longest : ℕ) → IsRoundMark all 0 since mark → mark ≤ first → round ≤ since + longest → most_lag keys round list least ≤ longest
  lag-recent since mark longest marked upto_first recent = walk-upto (max (base_of list) first) longest walks.start (λ m e past is.
      omega (arith, marked.above m e (omega arith) is (omega arith), born-upto m e is))

  -- what a walk reads next, where no write up to a place passes
  module _ (place : ℕ) (current : base_of list ≤ place) where
    pub walk-next : NonePassUpto list least place → ((e : Entry) → write_numbered all (place + 1) ≡ Some e → place < least e.key)
        → NonePassUpto list least (place + 1)
    walk-next none here m e is later le =
        let before = none m e is later in let next = λ (same : place + 1 ≡ m). here e (ap (write_numbered all) same ∙ is) in
        grind arith

    pub walk-found : (e : Entry) → write_numbered all (place + 1) ≡ Some e → NonePassUpto list least place → least e.key ≤ place
        → round - e.born + 1 ≡ most_lag keys round list least
    walk-found e is none over =
        let in_keys = walks.keyed (place + 1) e is (omega arith) in
        let older = λ (m : ℕ) (d : Entry) (behind : place < m) (is_d : write_numbered all m ≡ Some d).
        numbers-born all walks.in_order (place + 1) m e d is is_d (omega arith) in
        omega (
          arith,
          walk-upto place (round - e.born + 1) none (λ m d behind is_d. omega (arith, older m d behind is_d)),
          most_below-has (λ k. rounds_behind (number_staleness round list k (least k))) keys e.key in_keys,
          lag-since list walks.writes walks.in_order round e.key (least e.key) (place + 1) e (walks.written e.key in_keys)
              (record { written = is; current = omega arith; keyed = refl; over = omega arith }),
        )

-- the least number that is held of a write's key
module _ {N : Type 0} {number : N → ℕ} {most owner round first : ℕ} {list : OwnerListView} {least : Grid N}
    (may : MayWalk number most list least owner round first) (place : ℕ) (current : base_of list ≤ place)
    (e : Entry) (is : write_numbered (entries_of list) (place + 1) ≡ Some e) where
  pub walk-index : e.key * least.size.nodes + owner < length least.cells.now
  walk-index = omega (arith, plane-within _ _ _ e.key may.place.shape (may.walks.keyed (place + 1) e is (omega arith)))

  pub walk-read : (x : N) → x ≡ get_or least.cells.now (e.key * least.size.nodes + owner) x → number x ≡ cells_in number least owner e.key
  walk-read x at = number-at number least.cells.now (e.key * least.size.nodes + owner) x walk-index at

-- one more owner
pub most-next : (f : ℕ → ℕ) (r x y z : ℕ) → x ≡ most_below r f → z ≡ max x y → y ≡ f r → z ≡ most_below (r + 1) f
most-next f r x y z is joined now = joined ∙ (λ i. max (is i) (now i)) ∙ ap (λ m. most_below m f) {x = suc r} {y = r + 1} (omega arith)
