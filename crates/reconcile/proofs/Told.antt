-- What a digest tells is what the table holds, and what is sent stood among the candidates.
-- Serves `delta` and `push_newer`.
use Rattle.reconcile.proofs.Common.{◌≡◌, ◌≢◌, ℕ, ◌<◌, Bool, true, false, cond, not, ◌&&◌, eqb, List, [], ◌∷◌, get_or, All, Result, IfOk, refl, sym, ap, ◌∙◌, subst, filter, eqb-true, All-head, All-tail, IfOk-weaker, Budget, amount_of, Item, Fault, Mark, absent, mark_of, is_before, Mode, DigestKind, digest_kind, Table, items_of, IsProper, IsItemInPlace, IsFor, items_sound, items_above, candidates, known_mark, DeltaView, item_share, delta_of, sending_order, fits, candidates-in_place, All-sent}
use Rattle.bench_types.specs.declared.exchanges.DigestKind.TheVariants as kinds
use Rattle.reconcile.specs.Digests.{DigestView, ToldVersions, Greatest, Each, kind_told, IsDigestOf, greatest_in, each_in, told_up_to, mark_with, told_generation, told_mark}
use Rattle.reconcile.specs.Answers.{answer_of, IsDeltaToReceiver}

-- two tests that agree on a list keep the same of it
filter-same : (p q : Item → Bool) (xs : List Item) → All (λ (i : Item). p i ≡ q i) xs → filter p xs ≡ filter q xs
filter-same p q [] same = refl
filter-same p q (x ∷ xs) same =
    ap (λ b. cond b (x ∷ filter p xs) (filter p xs)) (All-head (λ (i : Item). p i ≡ q i) x xs same)
    ∙ ap (λ ys. cond (q x) (x ∷ ys) ys) (filter-same p q xs (All-tail (λ (i : Item). p i ≡ q i) x xs same))

-- what a digest knows of an item, by its kind
pub told_up_to-greatest : (k : ToldVersions) (keys owner key : ℕ) → kind_told k ≡ kinds.Scuttle → told_up_to keys k owner key ≡ greatest_in k owner
told_up_to-greatest (Greatest gs) keys owner key is = refl
told_up_to-greatest (Each vs) keys owner key is = cc

pub told_up_to-each : (k : ToldVersions) (keys owner key : ℕ) → kind_told k ≡ kinds.Precise → told_up_to keys k owner key ≡ each_in keys k owner key
told_up_to-each (Greatest gs) keys owner key is = cc
told_up_to-each (Each vs) keys owner key is = refl

-- the version of a mark, which has none where it is 0
pub version-mark_with : (generation version : ℕ) → (mark_with generation version).version ≡ version
version-mark_with generation version = elim (eqb version 0) as (λ b. eqb version 0 ≡ b → (cond b absent (record { generation = generation; version = version })).version ≡ version) [
  | true ↦ λ none. sym (eqb-true version 0 none)
  | false ↦ λ _. refl
] refl

-- a table's digest knows what the table does
pub told_mark-known : (kind : DigestKind) (to : Table) (told : DigestView) (i : Item) → IsDigestOf kind to told → i.owner < to.nodes → i.entry.key < to.keys → told_mark told i ≡ known_mark kind to i
told_mark-known kinds.Scuttle to told i is lt fits =
    ap (λ v. record { generation = told_generation told i.owner; version = v }) (told_up_to-greatest told.versions told.keys i.owner i.entry.key is.of_kind)
    ∙ is.tells i.owner lt
told_mark-known kinds.Precise to told i is lt fits =
    λ n. record {
      generation = is.generations i.owner lt n;
      version = (told_up_to-each told.versions told.keys i.owner i.entry.key is.of_kind ∙ sym (version-mark_with (told_generation told i.owner) (each_in told.keys told.versions i.owner i.entry.key)) ∙ ap (λ (m : Mark). m.version) (is.tells i.owner i.entry.key lt fits)) n;
    }

-- what a table's digest does not tell are the candidates to that table
pub candidates-told : (mode : Mode) (from to : Table) (told : DigestView) → IsProper from → IsDigestOf (digest_kind mode) to told → told.nodes ≡ from.nodes → told.keys ≡ from.keys → items_above (told_mark told) to.node (items_of from) ≡ candidates mode from to
candidates-told mode from to told proper is nodes keys =
    filter-same (λ i. not (eqb i.owner to.node) && is_before (told_mark told i) (mark_of i.entry)) (λ i. not (eqb i.owner to.node) && is_before (known_mark (digest_kind mode) to i) (mark_of i.entry)) (items_of from)
    (λ k d lt.
    let i = get_or (items_of from) k d in
    let here = (items_sound from proper).in_place k d lt in
    ap (λ v. not (eqb i.owner to.node) && is_before v (mark_of i.entry))
    (told_mark-known (digest_kind mode) to told i is (subst (λ n. i.owner < n) (sym nodes ∙ is.nodes) here.owner_below) (subst (λ n. i.entry.key < n) (sym keys ∙ is.keys) here.key_below)))

-- so a receiver may take what is sent in answer to its digest
pub answer-in_place : (mode : Mode) (rotation : ℕ) (budget : Budget) (from : Table) (receiver : ℕ) (told : DigestView) → IsProper from → All (IsFor receiver from.nodes from.keys) (answer_of mode rotation budget from receiver told).items
answer-in_place mode rotation budget from receiver told proper =
    let cs = items_above (told_mark told) receiver (items_of from) in
    All-sent (λ (i : Item). (i.owner ≢ receiver) × IsItemInPlace from.nodes from.keys i) (sending_order mode from.nodes rotation cs) cs (item_share budget) (amount_of budget) (candidates-in_place from (told_mark told) receiver proper)

-- and it is the delta to every table that the digest is of
pub answer-of_tables : (mode : Mode) (rotation : ℕ) (budget : Budget) (from : Table) (receiver : ℕ) (told : DigestView) (delta : DeltaView) → IsProper from → told.nodes ≡ from.nodes → told.keys ≡ from.keys → delta ≡ answer_of mode rotation budget from receiver told → IsDeltaToReceiver mode rotation budget from receiver told delta
answer-of_tables mode rotation budget from receiver told delta proper nodes keys is to at of_to =
    is
    ∙ ap (λ r. delta_of mode from.nodes rotation budget (items_above (told_mark told) r (items_of from))) (sym at)
    ∙ ap (delta_of mode from.nodes rotation budget) (candidates-told mode from to told proper of_to nodes keys)

pub answer-sound : (mode : Mode) (rotation : ℕ) (budget : Budget) (from : Table) (receiver : ℕ) (told : DigestView) (delta : DeltaView) → IsProper from → delta ≡ answer_of mode rotation budget from receiver told → All (IsFor receiver from.nodes from.keys) delta.items
answer-sound mode rotation budget from receiver told delta proper is =
    subst (λ (d : DeltaView). All (IsFor receiver from.nodes from.keys) d.items) (sym is) (answer-in_place mode rotation budget from receiver told proper)

-- both of what is answered where no fault is
pub answered : (mode : Mode) (rotation : ℕ) (budget : Budget) (from : Table) (receiver : ℕ) (told : DigestView) (answer : Result DeltaView Fault) → IsProper from → told.nodes ≡ from.nodes → told.keys ≡ from.keys → IfOk answer (λ d. d ≡ answer_of mode rotation budget from receiver told)
    → IfOk answer (IsDeltaToReceiver mode rotation budget from receiver told) × IfOk answer (λ d. All (IsFor receiver from.nodes from.keys) d.items)
answered mode rotation budget from receiver told answer proper nodes keys is = (
  IfOk-weaker answer _ _ (λ d of. answer-of_tables mode rotation budget from receiver told d proper nodes keys of) is,
  IfOk-weaker answer _ _ (λ d of. answer-sound mode rotation budget from receiver told d proper of) is,
)
