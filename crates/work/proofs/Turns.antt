-- How far the exchanges of a round have been carried out.
-- Serves `exchange_all`.
use Rattle.work.proofs.Common.{◌≡◌, ℕ, ◌+◌, ◌<◌, List, [], ◌∷◌, ◌++◌, length, take, get_or, All, refl, sym, ap, ◌∙◌, subst, length-append, fold_more, IsPlanned, Exchange, Record, Rules, Table, AreTablesInOrder, Folded, exchange_in, fold_of, before_tables}

pub record IsTurned (rules : Rules) (es : List Exchange) (old new : List Table) (records : List Record) (i : ℕ) : Type 0 where
  pub folded : fold_of rules old (take i es) ≡ record { tables = new; records = records }
  pub count : length records ≡ i

pub turned_none : (rules : Rules) (es : List Exchange) (old : List Table) → IsTurned rules es old old [] 0
turned_none rules es old = record { folded = refl; count = refl }

-- one more exchange
pub turned_more : (rules : Rules) (es found : List Exchange) (old new new' : List Table) (records more : List Record) (i : ℕ) (d : Exchange) (r : Record)
    → found ≡ es → more ≡ records ++ r ∷ [] → IsTurned rules es old new records i → i < length found
    → ((before : List Record) → exchange_in rules (record { tables = new; records = before }) (get_or found i d)
    ≡ record { tables = new'; records = before ++ r ∷ [] })
    → IsTurned rules es old new' more (i + 1)
turned_more rules es found old new new' records more i d r same pushed so_far lt done = record {
  folded = fold_more (exchange_in rules) (record { tables = old; records = [] }) es i d (subst (λ l. i < length l) same lt)
      ∙ ap (λ (s : Folded). exchange_in rules s (get_or es i d)) so_far.folded
      ∙ ap (λ l. exchange_in rules (record { tables = new; records = records }) (get_or l i d)) (sym same)
      ∙ done records
      ∙ ap (λ rs. record { tables = new'; records = rs }) (sym pushed);
  count = ap length pushed ∙ length-append records (r ∷ []) ∙ ap (λ n. n + 1) so_far.count;
}

module _ (rules : Rules) (nodes keys : ℕ) (es : List Exchange) (old new : List Table) (records : List Record)
    (planned : All (IsPlanned nodes) es) (tables : AreTablesInOrder nodes keys old) where
  -- the tables are still those of all nodes
  pub still_tables : (i : ℕ) → IsTurned rules es old new records i → AreTablesInOrder nodes keys new
  still_tables i so_far = subst (λ (s : Folded). AreTablesInOrder nodes keys s.tables) so_far.folded (before_tables rules nodes keys es old planned tables i)
