-- Checks one after another, and what a check that passed has found.
-- Serves `Lawful`, `Order` and `Sayings`.
use Rattle.scenario.proofs.Common.{◌≡◌, ℕ, pos, negsuc, Bool, true, false, nat_le, ◌&&◌, cond, List, [], length, Option, None, Some, Result, Ok, Err, refl, ap, subst, Data, Members, integer, array, Fault, Field, MOST_ELEMENTS}
use Rattle.scenario.specs.declared.parts.Basics.{Basics}
use Rattle.scenario.specs.Elements.{list_of, array_of, elements_of, values_of}
use Rattle.scenario.specs.Fields.{◌>>=◌, present, number_of}
use Rattle.scenario.specs.Order.{size_checked}
use Rattle.scenario.specs.inner.Checked.{basics_at}
use Rattle.scenario.specs.Top.{format_at, nodes_at, keys_at, rounds_at, seed_at}

-- where all checks pass, each of them does
pub passed : {A B C : Type 0} (r : Result A Fault) (next : A → Result B Fault) (y : B) → (r >>= next) ≡ Ok y → ((x : A) → r ≡ Ok x → next x ≡ Ok y → C) → C
passed (Ok x) next y e rest = rest x refl e
passed (Err fault) next y e rest = absurd cc

abbrev accepted : {A : Type 0} → A → Result A Fault
accepted x = Ok x

pub same_ok : {A : Type 0} (x y : A) → accepted x ≡ accepted y → x ≡ y
same_ok x y e = cc

-- how large the run is, field by field
pub record ReadsBasics (table : Members) (b : Basics) : Type 0 where
  pub format : format_at table ≡ Ok b.format
  pub nodes : nodes_at table ≡ Ok b.nodes
  pub keys : keys_at table ≡ Ok b.keys
  pub rounds : rounds_at table ≡ Ok b.rounds
  pub seed : seed_at table ≡ Ok b.seed

pub basics_read : (table : Members) (b : Basics) → basics_at table ≡ Ok b → ReadsBasics table b
basics_read table b all =
    passed (format_at table) _ b all (λ format is_format e.
    passed (nodes_at table) _ b e (λ nodes is_nodes e.
    passed (keys_at table) _ b e (λ keys is_keys e.
    passed (size_checked nodes keys) _ b e (λ _ _ e.
    passed (rounds_at table) _ b e (λ rounds is_rounds e.
    passed (seed_at table) _ b e (λ seed is_seed e.
    subst (ReadsBasics table) (same_ok _ b e) (record { format = is_format; nodes = is_nodes; keys = is_keys; rounds = is_rounds; seed = is_seed })))))))

-- a value that is answered under a test
pub kept : {A : Type 0} (b : Bool) (x y : A) (fault : Fault) → cond b (Ok x) (Err fault) ≡ Ok y → (b ≡ true) × (x ≡ y)
kept true x y fault e = (refl, same_ok x y e)
kept false x y fault e = absurd cc

-- a number that was read is the value
pub number_found_at : (f : Field) (low high n : ℕ) (value : Data) → number_of f low high value ≡ Ok n → value ≡ integer (pos n)
number_found_at f low high n (integer (pos m)) e =
    ap (λ k. integer (pos k)) (kept (nat_le low m && nat_le m high) m n _ e).1
number_found_at f low high n (integer (negsuc m)) e = absurd cc
number_found_at f low high n _ e = absurd cc

-- the values of an array that was read
pub array_found : (f : Field) (o : Option Data) (values : List Data) → (present f o >>= array_of f) ≡ Ok values → values_of o ≡ values
array_found f None values e = absurd cc
array_found f (Some (array items)) values e = same_ok (list_of items) values e
array_found f (Some _) values e = absurd cc

-- the elements of an array that was read
pub elements_found : (f : Field) (o : Option Data) (values : List Data) → elements_of f o ≡ Ok values → values_of o ≡ values
elements_found f None values e = same_ok [] values e
elements_found f (Some (array items)) values e = (kept (nat_le (length (list_of items)) MOST_ELEMENTS) (list_of items) values _ e).1
elements_found f (Some _) values e = absurd cc
