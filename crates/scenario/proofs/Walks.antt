-- An array of the program beside that of a document, and a walk along it.
-- Serves `apart_at`, `array_at`, `array_of`, `conduct_at` and `tables_have_only`.
use Rattle.scenario.proofs.Common.{◌≡◌, ℕ, ◌+◌, ◌<◌, ◌≤◌, ◌∙◌, Bool, ◌&&◌, List, [], ◌∷◌, ◌++◌, map, drop, length, get_or, Result, Ok, Err, IfErr, IsErrAnd, OutOfMemory, ◌≢◌, refl, sym, ap, subst, append_assoc, append-nil, at_drop_all, at_drop_more, list_all, Data, view, items_view, Value, Fault}
use Rattle.scenario.specs.Elements.{list_of}
use Rattle.scenario.specs.Fields.{◌>>=◌}

-- the data of an array, as a list
pub list_of-items_view : (vs : List Value) → list_of (items_view vs) ≡ map view vs
list_of-items_view [] = refl
list_of-items_view (v ∷ vs) = ap (λ ds. view v ∷ ds) (list_of-items_view vs)

-- what was read so far, and then what the rest comes to
abbrev pub joined : {A : Type 0} → List A → Result (List A) Fault → Result (List A) Fault
joined done rest = rest >>= (λ xs. Ok (done ++ xs))

-- a test of each of them
pub list_all-items_view : (p : Data → Bool) (vs : List Value) → list_all p (list_of (items_view vs)) ≡ list_all (λ v. p (view v)) vs
list_all-items_view p [] = refl
list_all-items_view p (v ∷ vs) = ap (λ b. p (view v) && b) (list_all-items_view p vs)

-- one more was read, of which the rest is told with what follows
joined_more : {A : Type 0} (done : List A) (x : A) (rest : Result (List A) Fault) → joined done (rest >>= (λ xs. Ok (x ∷ xs))) ≡ joined (done ++ x ∷ []) rest
joined_more done x (Ok xs) = ap Ok (sym (append_assoc done (x ∷ []) xs))
joined_more done x (Err f) = refl

-- A walk along values, of which those before an index were read.
module _ {A : Type 0} (whole : Result (List A) Fault) (walk : List Data → Result (List A) Fault) (vs : List Value) (k : ℕ) (done : List A)
    (so_far : whole ≡ joined done (walk (map view (drop k vs)))) where
  -- the next value comes to x, and the walk goes on from there
  pub walk_more : (v : Value) (x : A) (more : Result (List A) Fault) → k < length vs → v ≡ get_or vs k v
      → walk (view v ∷ map view (drop (k + 1) vs)) ≡ (more >>= (λ xs. Ok (x ∷ xs))) → whole ≡ joined (done ++ x ∷ []) more
  walk_more v x more within is told =
      so_far ∙ at_drop_more (λ ws. joined done (walk (map view ws))) vs k v within
      ∙ ap (λ w. joined done (walk (view w ∷ map view (drop (k + 1) vs)))) (sym is) ∙ ap (joined done) told ∙ joined_more done x more

  -- or it comes to a fault, as the whole then does
  pub walk_fails : (v : Value) (fault : Fault) → k < length vs → v ≡ get_or vs k v → walk (view v ∷ map view (drop (k + 1) vs)) ≡ Err fault → whole ≡ Err fault
  walk_fails v fault within is told =
      so_far ∙ at_drop_more (λ ws. joined done (walk (map view ws))) vs k v within
      ∙ ap (λ w. joined done (walk (view w ∷ map view (drop (k + 1) vs)))) (sym is) ∙ ap (joined done) told

  -- and at its end
  pub walk_ends : length vs ≤ k → walk [] ≡ Ok [] → whole ≡ Ok done
  walk_ends all none = so_far ∙ at_drop_all (λ ws. joined done (walk (map view ws))) vs k all ∙ ap (joined done) none ∙ ap Ok (append-nil done)

-- what was read is walked along
pub walked : {A : Type 0} (read : Result (List Data) Fault) (walk : List Data → Result (List A) Fault) (ds : List Data) (r : Result (List A) Fault)
    → read ≡ Ok ds → walk ds ≡ r → (read >>= walk) ≡ r
walked read walk ds r found told = ap (λ x. x >>= walk) found ∙ told

-- where nothing was read so far, the rest is the whole
pub joined_nothing : {A : Type 0} (rest : Result (List A) Fault) → rest ≡ joined [] rest
joined_nothing (Ok xs) = refl
joined_nothing (Err fault) = refl

-- a fault that is handed on is what the whole comes to
pub handed_on : {A B : Type 0} (r : Result A Fault) (fault : Fault) (whole : Result B Fault) → IsErrAnd r (λ handed. handed ≡ fault)
    → (fault ≢ OutOfMemory → whole ≡ Err fault) → IfErr r (λ f. f ≢ OutOfMemory → whole ≡ Err f)
handed_on (Ok x) fault whole is told = tt
handed_on (Err handed) fault whole is told = subst (λ f. f ≢ OutOfMemory → whole ≡ Err f) (sym is) told

pub fault_is : {A : Type 0} (r : Result A Fault) (fault : Fault) → IsErrAnd r (λ handed. handed ≡ fault) → r ≡ Err fault
fault_is (Ok x) fault is = absurd is
fault_is (Err handed) fault is = ap (λ f. Err f) is

-- a check passed, and the next ones come to y; or it fails
pub passes : {A B : Type 0} (r : Result A Fault) (next : A → Result B Fault) (x : A) (y : Result B Fault) → Ok x ≡ r → y ≡ next x → y ≡ (r >>= next)
passes r next x y is rest = rest ∙ ap (λ s. s >>= next) is

pub fails : {A B : Type 0} (r : Result A Fault) (next : A → Result B Fault) (fault : Fault) → Err fault ≡ r → Err fault ≡ (r >>= next)
fails r next fault is = ap (λ s. s >>= next) is
