-- What a document says fixes the settings of a scenario.
-- Serves `documents_fix_settings`.
use Rattle.scenario.proofs.Common.{◌≡◌, ℕ, pos, Bool, true, false, ◌&&◌, List, [], ◌∷◌, map, Option, Some, inl, inr, refl, sym, ap, ◌∙◌, subst, AllZip, slice_cmp, is_eq, nat_cmp, match_ordering, Less, Equal, Greater, is_eq-slice_cmp, bytes_eq-Decides, Data, integer, Members, no_members, member, get_member, Budget, Entries, Bytes, Field, field_name, mode_named}
use Rattle.bench_types.specs.declared.fields.Field.TheVariants as field
use Rattle.scenario.specs.declared.elements.Partition.{Partition}
use Rattle.scenario.specs.declared.elements.Restart.{Restart}
use Rattle.scenario.specs.declared.elements.Load.{Load}
use Rattle.scenario.specs.Budgets.{is_in_entries}
use Rattle.scenario.specs.Elements.{has_generations, list_of}
use Rattle.scenario.specs.Fields.{is_among, has_only}
use Rattle.scenario.specs.Order.{members_of, HasNumber, HasFlag, HasBudget, HasWord, HasNumbers, HasElements, SaysPartition, SaysRestart, SaysLoad, Says}
use Rattle.scenario.specs.Settings.{Settings}
use Rattle.scenario.specs.Top.{top_fields}
use Rattle.scenario.specs.Words.{peers_of, rotation_of, choice_of}

number_once : (table : Members) (f : Field) (m n : ℕ) → HasNumber table f m → HasNumber table f n → m ≡ n
number_once table f m n a b = cc

flag_once : (table : Members) (f : Field) (x y : Bool) → HasFlag table f x → HasFlag table f y → x ≡ y
flag_once table f x y (inl a) (inl b) = cc
flag_once table f x y (inl a) (inr (none, b)) = absurd cc
flag_once table f x y (inr (none, a)) (inl b) = absurd cc
flag_once table f x y (inr (none, a)) (inr (none', b)) = a ∙ sym b

word_once : {A : Type 0} (table : Members) (f : Field) (meaning : List ℕ → Option A) (x y : A) → HasWord table f meaning x → HasWord table f meaning y → x ≡ y
word_once table f meaning x y (word, has, means) (word', has', means') =
    let same : word ≡ word' = cc in
    let both : meaning word ≡ meaning word' = ap meaning same in
    cc

map_once : (ms ns : List ℕ) → map (λ n. integer (pos n)) ms ≡ map (λ n. integer (pos n)) ns → ms ≡ ns
map_once [] [] e = refl
map_once [] (n ∷ ns) e = absurd cc
map_once (m ∷ ms) [] e = absurd cc
map_once (m ∷ ms) (n ∷ ns) e =
    let first : m ≡ n = cc in
    let others : ms ≡ ns = map_once ms ns cc in
    λ i. first i ∷ others i

numbers_once : (table : Members) (f : Field) (ms ns : List ℕ) → HasNumbers table f ms → HasNumbers table f ns → ms ≡ ns
numbers_once table f ms ns (items, has, a) (items', has', b) =
    let same : items ≡ items' = cc in
    map_once ms ns (sym a ∙ ap list_of same ∙ b)

module _ {X : Type 0} (SaysElement : Data → X → Type 0) (once : (value : Data) (x y : X) → SaysElement value x → SaysElement value y → x ≡ y) where
  zip_once : (values : List Data) (xs ys : List X) → AllZip SaysElement values xs → AllZip SaysElement values ys → xs ≡ ys
  zip_once [] [] [] a b = refl
  zip_once [] (x ∷ xs) ys a b = absurd a
  zip_once [] [] (y ∷ ys) a b = absurd b
  zip_once (value ∷ values) [] ys a b = absurd a
  zip_once (value ∷ values) (x ∷ xs) [] a b = absurd b
  zip_once (value ∷ values) (x ∷ xs) (y ∷ ys) a b =
      let first = once value x y a.0 b.0 in
      let others = zip_once values xs ys a.1 b.1 in
      λ i. first i ∷ others i

  elements_once : (table : Members) (f : Field) (xs ys : List X) → HasElements table f SaysElement xs → HasElements table f SaysElement ys → xs ≡ ys
  elements_once table f xs ys (inl (none, a)) (inl (none', b)) = a ∙ sym b
  elements_once table f xs ys (inl (none, a)) (inr (items, has, b)) = absurd cc
  elements_once table f xs ys (inr (items, has, a)) (inl (none, b)) = absurd cc
  elements_once table f xs ys (inr (items, has, a)) (inr (items', has', b)) =
      let same : items ≡ items' = cc in
      zip_once (list_of items) xs ys a (subst (λ i. AllZip SaysElement (list_of i) ys) (sym same) b)

partition_once : (value : Data) (p q : Partition) → SaysPartition value p → SaysPartition value q → p ≡ q
partition_once value p q a b = λ i. record {
  from = number_once (members_of value) field.PartitionFrom p.from q.from a.from b.from i;
  to = number_once (members_of value) field.PartitionTo p.to q.to a.to b.to i;
  apart = numbers_once (members_of value) field.PartitionApart p.apart q.apart a.apart b.apart i;
}

restart_once : (format : ℕ) (value : Data) (r s : Restart) → SaysRestart format value r → SaysRestart format value s → r ≡ s
restart_once format value r s a b = λ i. record {
  node = number_once (members_of value) field.RestartNode r.node s.node a.node b.node i;
  round = number_once (members_of value) field.RestartRound r.round s.round a.round b.round i;
  down = number_once (members_of value) field.RestartDown r.down s.down a.down b.down i;
  forget = forget i;
}
  where
    forget : r.forget ≡ s.forget
    forget = elim (has_generations format) as (λ h. has_generations format ≡ h → r.forget ≡ s.forget) [
      | true ↦ λ has. flag_once (members_of value) field.RestartForget r.forget s.forget (a.forget has) (b.forget has)
      | false ↦ λ has. a.keeps has ∙ sym (b.keeps has)
    ] refl

load_once : (value : Data) (l m : Load) → SaysLoad value l → SaysLoad value m → l ≡ m
load_once value l m a b = λ i. record {
  from = number_once (members_of value) field.LoadFrom l.from m.from a.from b.from i;
  to = number_once (members_of value) field.LoadTo l.to m.to a.to b.to i;
  writes = number_once (members_of value) field.LoadWrites l.writes m.writes a.writes b.writes i;
}

both : (a b : Bool) → (a && b) ≡ true → (a ≡ true) × (b ≡ true)
both true b e = (refl, e)
both false b e = absurd cc

-- a key of a table that has only these fields is that of one of them
only_among : (fields : List Field) (key : List ℕ) (value : Data) (table : Members) → has_only fields table ≡ true → get_member key table ≡ Some value → is_among fields key ≡ true
only_among fields key value no_members only found = absurd cc
only_among fields key value (member name x others) only found =
    let split = both (is_among fields name) (has_only fields others) only in
    elim (slice_cmp nat_cmp key name) as (λ o. slice_cmp nat_cmp key name ≡ o → match_ordering o (get_member key others) (Some x) (get_member key others) ≡ Some value → is_among fields key ≡ true) [
      | Less ↦ λ _ later. only_among fields key value others split.1 later
      | Equal ↦ λ here _.
          let same : key ≡ name = (bytes_eq-Decides key name).0 (sym (is_eq-slice_cmp key name) ∙ ap is_eq here) in
          ap (is_among fields) same ∙ split.0
      | Greater ↦ λ _ later. only_among fields key value others split.1 later
    ] refl found

-- a format has one field for the budget
not_both : (format : ℕ) (table : Members) (m n : ℕ) → has_only (top_fields format) table ≡ true → HasNumber table field.Budget m → HasNumber table field.BudgetBytes n → ⊥
not_both format table m n only entries bytes =
    elim (is_in_entries format) as (λ b. is_in_entries format ≡ b → ⊥) [
      | true ↦ λ is. let among = only_among (top_fields format) (field_name field.BudgetBytes) _ table only bytes in let none : false ≡ true = rw is at among in absurd cc
      | false ↦ λ is. let among = only_among (top_fields format) (field_name field.Budget) _ table only entries in let none : false ≡ true = rw is at among in absurd cc
    ] refl

budget_once : (format : ℕ) (table : Members) (b c : Budget) → has_only (top_fields format) table ≡ true → HasBudget table b → HasBudget table c → b ≡ c
budget_once format table (Entries m) (Entries n) only a b = ap (λ k. Entries k) (number_once table field.Budget m n a b)
budget_once format table (Entries m) (Bytes n) only a b = absurd (not_both format table m n only a b)
budget_once format table (Bytes m) (Entries n) only a b = absurd (not_both format table n m only b a)
budget_once format table (Bytes m) (Bytes n) only a b = ap (λ k. Bytes k) (number_once table field.BudgetBytes m n a b)

-- no two scenarios are what one document says
pub Says-once : (table : Members) (s t : Settings) → Says table s → Says table t → s ≡ t
Says-once table s t a b = λ i. record {
  format = number_once table field.Format s.format t.format a.format b.format i;
  nodes = number_once table field.Nodes s.nodes t.nodes a.nodes b.nodes i;
  keys = number_once table field.Keys s.keys t.keys a.keys b.keys i;
  rounds = number_once table field.Rounds s.rounds t.rounds a.rounds b.rounds i;
  seed = number_once table field.Seed s.seed t.seed a.seed b.seed i;
  mode = word_once table field.Mode mode_named s.mode t.mode a.mode b.mode i;
  budget = budget_once s.format table s.budget t.budget a.others a.budget b.budget i;
  peers = word_once table field.Peers peers_of s.peers t.peers a.peers b.peers i;
  rotation = word_once table field.Rotation rotation_of s.rotation t.rotation a.rotation b.rotation i;
  choice = word_once table field.Choice choice_of s.choice t.choice a.choice b.choice i;
  loss_ppm = number_once table field.LossPpm s.loss_ppm t.loss_ppm a.loss_ppm b.loss_ppm i;
  writes = number_once table field.Writes s.writes t.writes a.writes b.writes i;
  partitions = elements_once SaysPartition partition_once table field.Partition s.partitions t.partitions a.partitions b.partitions i;
  restarts = elements_once (SaysRestart s.format) (restart_once s.format) table field.Restart s.restarts t.restarts a.restarts restarts' i;
  loads = elements_once SaysLoad load_once table field.Load s.loads t.loads a.loads b.loads i;
}
  where
    restarts' : HasElements table field.Restart (SaysRestart s.format) t.restarts
    restarts' = subst (λ n. HasElements table field.Restart (SaysRestart n) t.restarts) (sym (number_once table field.Format s.format t.format a.format b.format)) b.restarts
