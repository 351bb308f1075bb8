-- An exchange of two tables of a list that is split between them.
-- Serves `exchange_pair`.
use Rattle.work.proofs.Common.{◌≡◌, ◌≢◌, ℕ, zero, suc, ◌+◌, ◌-◌, ◌<◌, List, [], ◌∷◌, ◌++◌, length, map, get_or, set, refl, sym, ap, ◌∙◌, subst, arith, set-append_left, set-append_right, get_or_append_left, get_or-append-add, length-set, length-map, map-set, map-append, Exchange, Record, Rules, Table, empty_table, Exchanged, exchanged, MayBeExchanged, table_of_node, IsTableOf, AreTablesInOrder, HoldsOfEach, Folded, exchange_in}

-- to write on both sides of a split is to write twice
set_both : {X : Type 0} (a b : List X) (m p : ℕ) (x y : X) → length a ≡ m → p < m → set a p x ++ set b 0 y ≡ set (set (a ++ b) p x) m y
set_both a b m p x y is lt =
    ap (λ n. set a p x ++ set b n y) {x = 0} {y = m - m} (omega arith)
    ∙ sym (set-append_right (set a p x) b m m y (length-set a p x ∙ is) (omega arith))
    ∙ ap (λ l. set l m y) (sym (set-append_left a b p x (omega (arith, is))))

-- the order of two writes at different places doesn't matter
set_swapped : {X : Type 0} (xs : List X) (p q : ℕ) (x y : X) → p ≢ q → set (set xs p x) q y ≡ set (set xs q y) p x
set_swapped [] p q x y apart = refl
set_swapped (k ∷ xs) zero zero x y apart = absurd (apart refl)
set_swapped (k ∷ xs) zero (suc q) x y apart = refl
set_swapped (k ∷ xs) (suc p) zero x y apart = refl
set_swapped (k ∷ xs) (suc p) (suc q) x y apart = ap (λ l. k ∷ l) (set_swapped xs p q x y (λ e. apart (ap suc e)))

-- both tables, and the record, in their places
abbrev put_in : List Table → List Record → ℕ → ℕ → Exchanged → Folded
put_in ts records p q done = record { tables = set (set ts p done.initiator) q done.responder; records = records ++ done.sent ∷ [] }

front : (a b : List Table) (p : ℕ) → p < length a → table_of_node (a ++ b) p ≡ table_of_node a p
front a b p lt = get_or_append_left a b (empty_table 0 0 0) p lt

back : (a b : List Table) (m : ℕ) → length a ≡ m → table_of_node (a ++ b) m ≡ table_of_node b 0
back a b m is = ap (λ n. table_of_node (a ++ b) n) {x = m} {y = length a + 0} (omega (arith, is)) ∙ get_or-append-add a b 0 (empty_table 0 0 0)

module _ (rules : Rules) (e : Exchange) (a b : List Table) (t u : Table) (r : Record) where
  -- the initiator stands first
  low : length a ≡ e.responder → e.initiator < e.responder → exchanged rules e (table_of_node a e.initiator) (table_of_node b 0) ≡ record { initiator = t; responder = u; sent = r }
      → (records : List Record) → exchange_in rules (record { tables = a ++ b; records = records }) e ≡ record { tables = set a e.initiator t ++ set b 0 u; records = records ++ r ∷ [] }
  low is lt done records =
      ap (put_in (a ++ b) records e.initiator e.responder) ((λ i. exchanged rules e (front a b e.initiator (omega (arith, is)) i) (back a b e.responder is i)) ∙ done)
      ∙ (λ i. record { tables = sym (set_both a b e.responder e.initiator t u is lt) i; records = records ++ r ∷ [] })

  -- the responder stands first
  high : length a ≡ e.initiator → e.responder < e.initiator → exchanged rules e (table_of_node b 0) (table_of_node a e.responder) ≡ record { initiator = u; responder = t; sent = r }
      → (records : List Record) → exchange_in rules (record { tables = a ++ b; records = records }) e ≡ record { tables = set a e.responder t ++ set b 0 u; records = records ++ r ∷ [] }
  high is lt done records =
      ap (put_in (a ++ b) records e.initiator e.responder) ((λ i. exchanged rules e (back a b e.initiator is i) (front a b e.responder (omega (arith, is)) i)) ∙ done)
      ∙ (λ i. record { tables = (set_swapped (a ++ b) e.initiator e.responder u t (λ same. absurd (omega arith)) ∙ sym (set_both a b e.initiator e.responder t u is lt)) i; records = records ++ r ∷ [] })

-- two tables of a cluster may be exchanged
pub may_be_exchanged : (nodes keys : ℕ) (e : Exchange) (t u : Table) → IsTableOf nodes keys e.initiator t → IsTableOf nodes keys e.responder u → e.rotation < nodes → MayBeExchanged e t u
may_be_exchanged nodes keys e t u first second rotation = record {
  first = first.node;
  second = second.node;
  nodes = first.nodes ∙ sym second.nodes;
  keys = first.keys ∙ sym second.keys;
  rotation = subst (λ n. e.rotation < n) (sym first.nodes) rotation;
}

-- with the tables as the code reads and writes them
module _ {T : Type 0} (table : T → Table) where
  table_read : (ks : List T) (n : ℕ) (d : T) → n < length ks → table (get_or ks n d) ≡ table_of_node (map table ks) n
  table_read [] n d lt = absurd (omega arith)
  table_read (k ∷ ks) zero d lt = refl
  table_read (k ∷ ks) (suc n) d lt = table_read ks n d (omega arith)

  module _ (xs a b : List T) (split : xs ≡ a ++ b) where
    before : map table xs ≡ map table a ++ map table b
    before = ap (map table) split ∙ map-append table a b

    module _ (nodes keys : ℕ) (tables : AreTablesInOrder nodes keys (map table xs)) (d : T) where
      pub front_table : (p : ℕ) → p < length a → p < nodes → IsTableOf nodes keys p (table (get_or a p d))
      front_table p lt below =
          subst (IsTableOf nodes keys p) (ap (λ ts. table_of_node ts p) before ∙ front (map table a) (map table b) p (omega (arith, lt, length-map a table)) ∙ sym (table_read a p d lt)) (tables.tables p below)

      pub back_table : (p : ℕ) → length a ≡ p → 0 < length b → p < nodes → IsTableOf nodes keys p (table (get_or b 0 d))
      back_table p is in_b below =
          subst (IsTableOf nodes keys p) (ap (λ ts. table_of_node ts p) before ∙ back (map table a) (map table b) p (length-map a table ∙ is) ∙ sym (table_read b 0 d in_b)) (tables.tables p below)

    module _ (Fits : Table → Type 0) (fits : HoldsOfEach Fits (map table xs)) (d : T) where
      pub front_fits : (p : ℕ) → p < length a → p < length xs → Fits (table (get_or a p d))
      front_fits p lt below = subst Fits (ap (λ ts. table_of_node ts p) before ∙ front (map table a) (map table b) p (omega (arith, lt, length-map a table)) ∙ sym (table_read a p d lt)) (fits p (omega (arith, below, length-map xs table)))

      pub back_fits : (p : ℕ) → length a ≡ p → 0 < length b → p < length xs → Fits (table (get_or b 0 d))
      back_fits p is in_b below = subst Fits (ap (λ ts. table_of_node ts p) before ∙ back (map table a) (map table b) p (length-map a table ∙ is) ∙ sym (table_read b 0 d in_b)) (fits p (omega (arith, below, length-map xs table)))

  module _ (rules : Rules) (e : Exchange) (xs a b : List T) (split : xs ≡ a ++ b) (in_b : 0 < length b) (d1 d2 x y : T) (r : Record) where
    abbrev At : (p q : ℕ) → Type 0
    At p q = (records : List Record) → exchange_in rules (record { tables = map table xs; records = records }) e ≡ record { tables = map table (set a p x ++ set b q y); records = records ++ r ∷ [] }

    after : (p : ℕ) → map table (set a p x ++ set b 0 y) ≡ set (map table a) p (table x) ++ set (map table b) 0 (table y)
    after p = map-append table (set a p x) (set b 0 y) ∙ (λ i. map-set table a p x i ++ map-set table b 0 y i)

    pub exchanged_low : length a ≡ e.responder → e.initiator < e.responder → exchanged rules e (table (get_or a e.initiator d1)) (table (get_or b 0 d2)) ≡ record { initiator = table x; responder = table y; sent = r } → At e.initiator 0
    exchanged_low is lt done records =
        (λ i. exchange_in rules (record { tables = before xs a b split i; records = records }) e)
        ∙ low rules e (map table a) (map table b) (table x) (table y) r (length-map a table ∙ is) lt
        ((λ i. exchanged rules e (sym (table_read a e.initiator d1 (omega (arith, is))) i) (sym (table_read b 0 d2 in_b) i)) ∙ done) records
        ∙ (λ i. record { tables = sym (after e.initiator) i; records = records ++ r ∷ [] })

    pub exchanged_high : length a ≡ e.initiator → e.responder < e.initiator → exchanged rules e (table (get_or b 0 d2)) (table (get_or a e.responder d1)) ≡ record { initiator = table y; responder = table x; sent = r } → At e.responder 0
    exchanged_high is lt done records =
        (λ i. exchange_in rules (record { tables = before xs a b split i; records = records }) e)
        ∙ high rules e (map table a) (map table b) (table x) (table y) r (length-map a table ∙ is) lt
        ((λ i. exchanged rules e (sym (table_read b 0 d2 in_b) i) (sym (table_read a e.responder d1 (omega (arith, is))) i)) ∙ done) records
        ∙ (λ i. record { tables = sym (after e.responder) i; records = records ++ r ∷ [] })
