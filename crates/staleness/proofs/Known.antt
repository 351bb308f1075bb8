-- What copies count for in their owner's generation.
-- Serves `staleness_of`.
use Rattle.staleness.proofs.Common.{◌≡◌, ◌≢◌, ℕ, ◌+◌, ◌-◌, ◌<◌, ◌≤◌, Bool, cond, eqb, ltb, ◌&&◌, List, [], ◌∷◌, length, get_or, Option, Some, None, All, option_map, inl, inr, refl, sym, ap, ◌∙◌, arith, lt-ltb, le-ltb, eq-eqb, ne_eqb, find, cases_lt, All-head, All-tail, Entry, mark_held, is_before, Write, IsNumbered, is_missed, first_missed, staleness_of}
use Rattle.staleness.specs.inner.Totals.{version_known}

-- tests that agree on each element find the same
find-same : (f g : Write → Bool) (ws : List Write) → All (λ w. f w ≡ g w) ws → find f ws ≡ find g ws
find-same f g [] same = refl
find-same f g (w ∷ ws) same =
    ap (λ b. cond b (Some w) (find f ws)) (All-head (λ x. f x ≡ g x) w ws same)
    ∙ ap (cond (g w) (Some w)) (find-same f g ws (All-tail (λ x. f x ≡ g x) w ws same))

-- a mark is below a write's just where the version that it counts for is
before_known : (generation : ℕ) (held : Option Entry) (version : ℕ) → 0 < version → version ≤ 4294967295
    → is_before (mark_held held) (record { generation = generation; version = version }) ≡ ltb (version_known generation held) version
before_known generation None version some few = elim (cases_lt 0 generation) [
  | inl newer ↦ rw (lt-ltb 0 generation newer, lt-ltb 0 version some)
  | inr first ↦ let is : 0 ≡ generation = omega arith in rw (le-ltb 0 generation first, eq-eqb 0 generation is)
]
before_known generation (Some e) version some few = elim (cases_lt e.generation generation) [
  | inl older ↦ rw (lt-ltb e.generation generation older, lt-ltb 0 version some)
  | inr not_older ↦ elim (cases_lt generation e.generation) [
    | inl newer ↦
        let ne : e.generation ≢ generation = omega arith in
        rw (le-ltb e.generation generation not_older, ne_eqb e.generation generation ne, lt-ltb generation e.generation newer, le-ltb 4294967295 version few)
    | inr not_newer ↦
        let is : e.generation ≡ generation = omega arith in
        rw (le-ltb e.generation generation not_older, eq-eqb e.generation generation is, le-ltb generation e.generation not_newer)
  ]
]

-- so it lags as that version does
pub staleness_known : (round generation : ℕ) (ws : List Write) (key : ℕ) (held : Option Entry) → IsNumbered ws → length ws ≤ 4294967295
    → option_map (λ (w : Write). round - w.born + 1) (first_missed ws key (version_known generation held)) ≡ staleness_of round generation ws key (mark_held held)
staleness_known round generation ws key held numbered few =
    ap (option_map (λ (w : Write). round - w.born + 1)) (sym (find-same (λ w. eqb w.key key && is_before (mark_held held) (record { generation = generation; version = w.version })) (is_missed key (version_known generation held)) ws (λ i d lt.
    let at = numbered i d lt in
    ap (λ b. eqb (get_or ws i d).key key && b) (before_known generation held (get_or ws i d).version (omega (arith, at)) (omega (arith, at, lt, few))))))
