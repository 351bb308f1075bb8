-- What is counted of all tables comes to the figures of a round.
-- Serves `Piece::figures`.
use Rattle.version_lags.proofs.Common.{Bor, Grid, ◌≡◌, ℕ, ◌<◌, Bool, cond, refl, ◌&&◌, List, length, get_or, map, nat_lt, nat_le, sym, ap, ◌∙◌, subst, arith, number-at, HasEach, IsGrid, IsLeastBehind, Figures, OwnerListView, list_of_owner, lists_in, sum_below, most_below, total_of, cell, sum_below-same, most_below-same, leftover_at, stale_count, staleness_at, rounds_behind, figures_of, most_by_owner, table_of_node, length-map, number_staleness, AreAllCounted, Piece, RoundNumbers, NumbersView, numbers_seen, numbers_at, is_stale, is_left, least_below, IsLeastFrom, IsTotal, MayWalk, most_lag}
use Rattle.version_lags.proofs.Lagging.{lag-least_below}
use Rattle.version_lags.proofs.Parts.{grids-of}
use Rattle.version_lags.proofs.Pieces.{stands, key_within, place_staleness, place_stale, place_left}

module _ {N : Type 0} {number : N → ℕ} {most : ℕ} {numbers : RoundNumbers N} {piece : Piece N}
    (all : AreAllCounted number most numbers piece) (cells : Bor (List N)) (same : cells.now ≡ piece.least.items) where
  abbrev lists : List OwnerListView
  lists = numbers.lists.now

  abbrev v : NumbersView
  v = numbers_seen number numbers

  abbrev nodes : ℕ
  nodes = length lists

  abbrev round : ℕ
  round = numbers.ends.rounds

  abbrev last : ℕ → ℕ → ℕ
  last = cell v.last nodes

  abbrev held : ℕ → ℕ → ℕ → ℕ
  held p = cell (numbers_at v.tables p) nodes

  abbrev least_held : ℕ → ℕ → ℕ
  least_held = cell (map number cells.now) nodes

  nodes_are : nodes ≡ length all.tables
  nodes_are = all.are.may.together.one_list_each

  keys_are : (p : ℕ) → p < nodes → numbers.keys ≡ (table_of_node all.tables p).keys
  keys_are p in_p = sym (stands _ _ all.are.may.together p in_p).keys

  least_is : (r k : ℕ) → r < nodes → k < numbers.keys → IsLeastFrom (λ p. held p r k) (last r k) 0 nodes (least_held r k)
  least_is r k in_r in_k = rw same (all.whole.least_is.each r k in_r in_k)

  -- an owner's list may be walked over, from the least number that is behind on
  module _ (firsts : List N) (behind : HasEach nodes (λ r n. IsLeastBehind most least_held last numbers.keys r n) (map number firsts))
      (owner : ℕ) (among : owner < nodes) where
    size : length v.last ≡ length cells.now
    size = all.are.are.lasts.size ∙ sym all.whole.least_is.size ∙ length-map piece.least.items number ∙ ap length (sym same)

    pub may-walk : (first : N) → first ≡ get_or firsts owner first
        → let least : Grid N = record { cells = cells; size = record { nodes = nodes; keys = numbers.keys } } in
        MayWalk number most (list_of_owner lists owner) least owner round (number first)
    may-walk first is = record {
      place = record { shape = subst (IsGrid nodes numbers.keys) size (grids-of number most numbers all.tables all.are).grid; within = among };
      walks = record {
        round_limit = all.are.may.together.limits.few_rounds;
        writes = all.are.may.together.writes owner;
        few = all.are.few owner;
        born = all.are.may.written.born owner;
        in_order = all.are.may.written.in_order owner;
        keyed = λ m e there current. key_within _ _ all.are.may.together owner m e among there current;
        written = λ k in_k. omega (arith, (least_is owner k among in_k).upto, (all.are.are.lasts.each owner k among in_k).written);
        start = λ m e there current le.
            let in_keys = key_within _ _ all.are.may.together owner m e among there current in
            let read = number-at number firsts owner first (omega (arith, length-map firsts number)) is in
            let no_less = (behind.each owner among).no_less e.key in_keys in
            let upto = λ (over : last owner e.key < m). (all.are.are.lasts.each owner e.key among in_keys).last m e
            (record { written = there; current = current; keyed = refl; over = over }) in
            grind arith;
      };
    }

  -- what is counted place by place is summed up over all of them
  abbrev summed_at : (ℕ → ℕ → ℕ → ℕ) → ℕ → ℕ
  summed_at f p = sum_below (length all.tables) (λ r. sum_below (table_of_node all.tables p).keys (f p r))

  summed : (f : ℕ → ℕ → ℕ → ℕ) (test : List ℕ → ℕ → ℕ → Bool) (total : ℕ) → IsTotal v test 0 nodes total
      → ((p r k : ℕ) → p < nodes → r < nodes → k < numbers.keys → f p r k ≡ cond (test (numbers_at v.tables p) r k) 1 0)
      → total ≡ sum_below (length all.tables) (summed_at f)
  summed f test total is each = omega arith ∙ sum_below-same nodes (λ p. total_of nodes numbers.keys (test (numbers_at v.tables p))) (summed_at f) (λ p in_p.
      sum_below-same nodes _ _ (λ r in_r. sum_below-same numbers.keys _ _ (λ k in_k. sym (each p r k in_p in_r in_k)))
      ∙ (λ i. sum_below (nodes_are i) (λ r. sum_below (keys_are p in_p i) (f p r)))) ∙ ap (λ m. sum_below m (summed_at f)) nodes_are

  behind : ℕ → ℕ → ℕ → ℕ
  behind r k p = rounds_behind (staleness_at round all.tables (lists_in lists) p r k)

  -- for how long copies of a key have been behind
  longest : (r k : ℕ) → r < nodes → k < numbers.keys
      → rounds_behind (number_staleness round (list_of_owner lists r) k (least_held r k)) ≡ most_below nodes (behind r k)
  unfolding behind
  longest r k in_r in_k =
      let list = list_of_owner lists r in let held_least = least_is r k in_r in_k in
      let is : least_held r k ≡ least_below nodes (λ p. held p r k) (last r k) = omega (arith, held_least.upto, held_least.is) in
      let least = lag-least_below list (all.are.may.together.writes r) (all.are.may.written.in_order r) round k (λ p. held p r k) (last r k) nodes
      (all.are.are.lasts.each r k in_r in_k) (λ p in_p. ((all.are.are.cells_are p in_p).each r k in_r in_k).written) in
      let each = λ (p : ℕ) (in_p : p < nodes). place_staleness _ _ all.are.may p r k _ in_p in_r ((all.are.are.cells_are p in_p).each r k in_r in_k) in
      ap (λ c. rounds_behind (number_staleness round list k c)) is
      ∙ sym least.1 ∙ most_below-same _ _ nodes (λ p in_p. sym (ap rounds_behind (each p in_p)))

  pub figures-are : (greatest : ℕ) → greatest ≡ most_below nodes (λ r. most_lag numbers.keys round (list_of_owner lists r) (least_held r))
      → ◌≡◌ {A = Figures} (record { stale = piece.stale; greatest = greatest; leftover = piece.leftover }) (figures_of round all.tables (lists_in lists))
  unfolding figures_of behind
  figures-are greatest is =
      let stale_all = summed (λ p r k. stale_count (staleness_at round all.tables (lists_in lists) p r k)) (is_stale v) piece.stale all.whole.stale_is
      (λ p r k in_p in_r in_k. place_stale _ _ all.are.may p r k _ in_p in_r ((all.are.are.cells_are p in_p).each r k in_r in_k)
      _ (all.are.are.lasts.each r k in_r in_k)) in
      let leftover_all = summed (leftover_at all.tables) (is_left v) piece.leftover all.whole.leftover_is
      (λ p r k in_p in_r in_k. place_left _ _ all.are.may p r k (held p r k) in_p in_r ((all.are.are.cells_are p in_p).each r k in_r in_k)
      ∙ (λ i. cond (nat_lt 0 (held p r k) && nat_le (held p r k) (sym (all.are.are.based.each r in_r) i)) 1 0)) in
      let greatest_all : greatest ≡ (figures_of round all.tables (lists_in lists)).greatest = is
      ∙ most_below-same _ (λ r. most_below (table_of_node all.tables 0).keys (λ k. most_below nodes (behind r k))) nodes (λ r in_r.
      most_below-same _ _ numbers.keys (λ k in_k. longest r k in_r in_k)
      ∙ ap (λ m. most_below m (λ k. most_below nodes (behind r k))) (keys_are 0 (omega arith)))
      ∙ (λ i. most_below (nodes_are i) (λ r. most_below (table_of_node all.tables 0).keys (λ k. most_below (nodes_are i) (behind r k))))
      ∙ most_by_owner round all.tables (lists_in lists) all.are.may.together.cluster in
      λ i. record { stale = stale_all i; greatest = greatest_all i; leftover = leftover_all i }
