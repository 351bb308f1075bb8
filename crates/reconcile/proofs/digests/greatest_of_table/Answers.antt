use Rattle.reconcile.proofs.Common.{◌≡◌, ℕ, suc, ◌+◌, ◌<◌, Bool, cond, List, [], ◌∷◌, length, get_or, refl, sym, ap, ◌∙◌, arith, ltb, rules, subst, tests, count_by, range_with_len, sum_by-cons, greatest_version, AreGenerations, AreGreatest}
use Rattle.reconcile.proofs.digests.greatest_of_table.Goals as goal

-- A count over a list is the count over its indices.
count_by-indices : (p : ℕ → Bool) (f : ℕ → ℕ) (xs : List ℕ) (a : ℕ) → ((i : ℕ) → i < length xs → get_or xs i 0 ≡ f (a + i)) → count_by p xs ≡ count_by (λ r. p (f r)) (range_with_len a (length xs))
count_by-indices p f [] a is = refl
count_by-indices p f (x ∷ xs) a is =
    sum_by-cons (λ y. cond (p y) 1 0) x xs
    ∙ ap (λ y. cond (p y) 1 0 + count_by p xs) (is 0 (omega arith) ∙ ap f {x = a + 0} {y = a} (omega arith))
    ∙ ap (λ n. cond (p (f a)) 1 0 + n) (count_by-indices p f xs (a + 1) (λ i lt. is (suc i) (omega arith) ∙ ap f {x = a + suc i} {y = a + 1 + i} (omega arith)))
    ∙ sym (sum_by-cons (λ r. cond (p (f r)) 1 0) a (range_with_len (a + 1) (length xs)))

pub returns-clause-ok : goal.returns-clause-ok
returns-clause-ok c =
    let t = c.args.table.now.table in
    let vs = c.in_ok-greatest.greatest.items in
    let generations = subst (AreGenerations t) (sym c.in_ok-generations.ensures.items) c.generations.ensures.generations in
    let are = subst (AreGreatest t) (sym c.in_ok-greatest.ensures.items) c.greatest_versions.ensures.versions in
    let positive : c.count.result ≡ count_by (ltb 0) c.deref.result.now = search (rules, tests) in
    record {
      nodes = c.nodes.ensures.value;
      keys = c.keys.ensures.value;
      size = positive
          ∙ ap (count_by (ltb 0)) c.deref.ensures.value
          ∙ count_by-indices (ltb 0) (greatest_version t) vs 0 (λ i lt. are.greatest i (subst (λ n. i < n) are.count lt) ∙ ap (greatest_version t) {x = i} {y = 0 + i} (omega arith))
          ∙ ap (λ n. count_by (λ r. ltb 0 (greatest_version t r)) (range_with_len 0 n)) are.count;
      of_kind = refl;
      generations = generations.held;
      tells = λ owner lt i. record { generation = generations.held owner lt i; version = are.greatest owner lt i };
    }
