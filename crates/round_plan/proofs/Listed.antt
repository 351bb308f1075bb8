-- The list of a round, node by node.
-- Serves `round_list_by`.
use Rattle.round_plan.proofs.Common.{◌≡◌, ℕ, ◌+◌, ◌<◌, ◌≤◌, true, false, not, ◌&&◌, List, [], ◌∷◌, ◌++◌, cond, map, take, length, get_or, All, count_by, refl, subst, sym, ap, ◌∙◌, arith, append-nil, length-append, range_with_len, filter, map-append, take_all, All-push, filter_more, get_or-range_with_len, length-range_with_len, get_or-map-range_with_len, length-map-range_with_len, cond_both, count_by_more_yes, count_by_more_no, Exchange, Settings, IsPlanned, round_list_view}
use Rattle.round_plan.specs.declared.rounds.Chosen.{Chosen}
use Rattle.round_plan.specs.declared.rounds.Chosen.TheVariants.{Down, Unreached, Begins}
use Rattle.round_plan.specs.Outages.{is_up}
use Rattle.round_plan.specs.Plan.{exchange_of, begins, is_unreached, reaches, round_list_of}
use Rattle.round_plan.specs.inner.Rounds.{chosen_of, AreChosen}
use Rattle.round_plan.proofs.Planned.{planned_at}

-- what the nodes below i begin, and how many of them are unreached
pub record IsListed (s : Settings) (round i : ℕ) (done : List Exchange) (missed : ℕ) : Type 0 where
  pub exchanges : done ≡ map (exchange_of s round) (filter (begins s round) (take i (range_with_len 0 s.nodes)))
  pub unreached : missed ≡ count_by (is_unreached s round) (take i (range_with_len 0 s.nodes))
  pub planned : All (IsPlanned s.nodes) done
  pub few : missed ≤ i
  pub short : length done ≤ i

-- what a choice says of its node
abbrev pub IsChosen : Settings → ℕ → ℕ → Chosen → Type 0
IsChosen s round node Down = is_up s node round ≡ false
IsChosen s round node Unreached = (is_up s node round ≡ true) × (reaches s round node ≡ false)
IsChosen s round node (Begins e) = (is_up s node round ≡ true) × (reaches s round node ≡ true) × (e ≡ exchange_of s round node)

pub is_chosen : (s : Settings) (round node : ℕ) → IsChosen s round node (chosen_of s round node)
is_chosen s round node =
    cond_both (is_up s node round) _ _ (IsChosen s round node)
    (λ up. cond_both (reaches s round node) _ _ (IsChosen s round node) (λ reached. (up, reached, refl)) (λ away. (up, away)))
    (λ down. down)

-- what was made of the nodes in order: there are as many, and what stands at a place is what that node chose
module _ (s : Settings) (round : ℕ) (made read : List Chosen) (same : read ≡ made) (are : AreChosen s round made) where
  pub length_chosen : length read ≡ s.nodes
  length_chosen = ap length (same ∙ are) ∙ length-map-range_with_len (chosen_of s round) 0 s.nodes

  pub chosen_at : (i : ℕ) (d : Chosen) → i < length read → (i < s.nodes) × (get_or read i d ≡ chosen_of s round i)
  chosen_at i d lt =
      let here : i < s.nodes = omega (arith, lt, length_chosen) in
      (here, ap (λ xs. get_or xs i d) (same ∙ are) ∙ get_or-map-range_with_len (chosen_of s round) 0 s.nodes i i d here (omega arith))

-- all nodes make the round's plan
pub listed_all : (s : Settings) (round i : ℕ) (done : List Exchange) (missed : ℕ) → IsListed s round i done missed → s.nodes ≤ i → round_list_view s.nodes missed done ≡ round_list_of s round
listed_all s round i done missed listed all =
    let whole : take i (range_with_len 0 s.nodes) ≡ range_with_len 0 s.nodes = take_all i (range_with_len 0 s.nodes) (omega (arith, length-range_with_len 0 s.nodes)) in
    λ j. round_list_view s.nodes
    ((listed.unreached ∙ ap (count_by (is_unreached s round)) whole) j)
    ((listed.exchanges ∙ ap (λ ns. map (exchange_of s round) (filter (begins s round) ns)) whole) j)

module _ (s : Settings) (round i : ℕ) (done : List Exchange) (missed : ℕ) (here : i < s.nodes) (listed : IsListed s round i done missed) where
  within : i < length (range_with_len 0 s.nodes)
  within = omega (arith, length-range_with_len 0 s.nodes, here)

  node_at : get_or (range_with_len 0 s.nodes) i 0 ≡ i
  node_at = get_or-range_with_len 0 s.nodes i 0 here ∙ omega arith

  kept : filter (begins s round) (take (i + 1) (range_with_len 0 s.nodes)) ≡ filter (begins s round) (take i (range_with_len 0 s.nodes)) ++ cond (begins s round i) (i ∷ []) []
  kept =
      filter_more (begins s round) (range_with_len 0 s.nodes) i 0 within
      ∙ ap (λ n. filter (begins s round) (take i (range_with_len 0 s.nodes)) ++ cond (begins s round n) (n ∷ []) []) node_at

  passed_by : begins s round i ≡ false → done ≡ map (exchange_of s round) (filter (begins s round) (take (i + 1) (range_with_len 0 s.nodes)))
  passed_by out =
      listed.exchanges
      ∙ ap (map (exchange_of s round)) (sym (append-nil (filter (begins s round) (take i (range_with_len 0 s.nodes)))))
      ∙ ap (λ b. map (exchange_of s round) (filter (begins s round) (take i (range_with_len 0 s.nodes)) ++ cond b (i ∷ []) [])) (sym out)
      ∙ ap (map (exchange_of s round)) (sym kept)

  counted_no : is_unreached s round i ≡ false → missed ≡ count_by (is_unreached s round) (take (i + 1) (range_with_len 0 s.nodes))
  counted_no out =
      listed.unreached
      ∙ sym (count_by_more_no (is_unreached s round) (range_with_len 0 s.nodes) i 0 within (ap (is_unreached s round) node_at ∙ out))

  -- the node begins an exchange
  pub listed_begins : (e : Exchange) → 2 ≤ s.nodes → is_up s i round ≡ true → reaches s round i ≡ true → e ≡ exchange_of s round i → IsListed s round (i + 1) (done ++ e ∷ []) missed
  listed_begins e some up reached is = record {
    exchanges =
        (λ j. listed.exchanges j ++ is j ∷ [])
        ∙ sym (map-append (exchange_of s round) (filter (begins s round) (take i (range_with_len 0 s.nodes))) (i ∷ []))
        ∙ ap (λ b. map (exchange_of s round) (filter (begins s round) (take i (range_with_len 0 s.nodes)) ++ cond b (i ∷ []) [])) (sym (λ j. up j && reached j))
        ∙ ap (map (exchange_of s round)) (sym kept);
    unreached = counted_no (λ j. up j && not (reached j));
    planned = All-push (IsPlanned s.nodes) done e listed.planned (subst (IsPlanned s.nodes) (sym is) (planned_at s round i some here));
    few = omega (arith, listed.few);
    short = omega (arith, listed.short, length-append done (e ∷ []));
  }

  -- the node is up and unreached
  pub listed_unreached : is_up s i round ≡ true → reaches s round i ≡ false → IsListed s round (i + 1) done (missed + 1)
  listed_unreached up away = record {
    exchanges = passed_by (λ j. up j && away j);
    unreached =
        ap (λ n. n + 1) listed.unreached
        ∙ sym (count_by_more_yes (is_unreached s round) (range_with_len 0 s.nodes) i 0 within (ap (is_unreached s round) node_at ∙ (λ j. up j && not (away j))));
    planned = listed.planned;
    few = omega (arith, listed.few);
    short = omega (arith, listed.short);
  }

  -- the node is down
  pub listed_down : is_up s i round ≡ false → IsListed s round (i + 1) done missed
  listed_down down = record {
    exchanges = passed_by (λ j. down j && reaches s round i);
    unreached = counted_no (λ j. down j && not (reaches s round i));
    planned = listed.planned;
    few = omega (arith, listed.few);
    short = omega (arith, listed.short);
  }
