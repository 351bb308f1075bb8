-- The list of a round has exchanges of two different nodes, for the crates above.
-- Serves `Listed`, `played_rounds` and `run_laws`.
use Rattle.round_plan.proofs.Common.{◌≡◌, ◌≢◌, ℕ, ◌+◌, ◌-◌, ◌<◌, ◌≤◌, ◌%◌, All, inl, inr, ap, ◌∙◌, sym, arith, range_with_len, mod-lt, mod-eq_of_lt, add-mod_right, cases_lt, All-map, All-filter, get_or-range_with_len, length-range_with_len, Peers, Random, Ring, Rotation, Settings, IsPlanned}
use Rattle.scenario.specs.declared.choices.Rotation.TheVariants as rotation
use Rattle.round_plan.specs.Peer.{random_peer, ring_peer, peer_by}
use Rattle.round_plan.specs.Plan.{begins, exchange_of, rotation_by, round_list_of}
use Rattle.round_plan.specs.Words.{word_of}
use Rattle.round_plan.proofs.Others.{other_below, other_above}

-- another one of so many nodes
abbrev IsAnother : ℕ → ℕ → ℕ → Type 0
IsAnother nodes node n = (n < nodes) × (n ≢ node)

module _ (nodes node : ℕ) (some : 2 ≤ nodes) (here : node < nodes) where
  random_peer-low : (word : ℕ) → word % (nodes - 1) < node → random_peer nodes node word ≡ word % (nodes - 1)
  unfolding random_peer
  random_peer-low word less = other_below nodes node (word % (nodes - 1)) less here

  random_peer-high : (word : ℕ) → node ≤ word % (nodes - 1) → word % (nodes - 1) + 1 < nodes → random_peer nodes node word ≡ word % (nodes - 1) + 1
  unfolding random_peer
  random_peer-high word more within = other_above nodes node (word % (nodes - 1)) more within

  random_another : (word : ℕ) → IsAnother nodes node (random_peer nodes node word)
  random_another word =
      let place : word % (nodes - 1) < nodes - 1 = mod-lt word (omega arith) in
      elim (cases_lt (word % (nodes - 1)) node) [
        | inl less ↦ let is = random_peer-low word less in (omega (arith, is, less, place), λ e. absurd (omega (arith, is, less, e)))
        | inr more ↦ let is = random_peer-high word more (omega (arith, place)) in (omega (arith, is, place), λ e. absurd (omega (arith, is, more, e)))
      ]

  ring_another : (round : ℕ) → IsAnother nodes node (ring_peer nodes node round)
  ring_another round =
      let step : (round - 1) % (nodes - 1) < nodes - 1 = mod-lt (round - 1) (omega arith) in
      elim (cases_lt (node + 1 + (round - 1) % (nodes - 1)) nodes) [
        | inl within ↦ let is = mod-eq_of_lt within in (omega (arith, is, within), λ e. absurd (omega (arith, is, e)))
        | inr past ↦
            let rest : ℕ = node + 1 + (round - 1) % (nodes - 1) - nodes in
            let whole : node + 1 + (round - 1) % (nodes - 1) ≡ rest + nodes = omega (arith, past) in
            let is : (node + 1 + (round - 1) % (nodes - 1)) % nodes ≡ rest = ap (λ n. n % nodes) whole ∙ add-mod_right rest nodes ∙ mod-eq_of_lt (omega (arith, past, step)) in
            (omega (arith, is, past, step), λ e. absurd (omega (arith, is, past, step, e)))
      ]

  another_by : (peers : Peers) (round word : ℕ) → IsAnother nodes node (peer_by peers nodes node round word)
  another_by Random round word = random_another word
  another_by Ring round word = ring_another round

rotation-below : (r : Rotation) (nodes word : ℕ) → 2 ≤ nodes → rotation_by r nodes word < nodes
rotation-below rotation.Random nodes word some = mod-lt word (omega arith)
rotation-below rotation.Off nodes word some = omega arith

pub planned_at : (s : Settings) (round node : ℕ) → 2 ≤ s.nodes → node < s.nodes → IsPlanned s.nodes (exchange_of s round node)
planned_at s round node some here =
    let another = another_by s.nodes node some here s.peers round (word_of s node round 0) in
    record { initiator = here; responder = another.0; apart = λ e. another.1 (sym e); rotation = rotation-below s.rotation s.nodes (word_of s node round 4) some }

-- each exchange of a round's list is one of two different nodes
pub planned_list : (s : Settings) (round : ℕ) → 2 ≤ s.nodes → All (IsPlanned s.nodes) (round_list_of s round).exchanges
planned_list s round some =
    All-map (IsPlanned s.nodes) (exchange_of s round) _ (λ k d lt. planned_at s round _ some
    (All-filter (begins s round) (λ n. n < s.nodes) (range_with_len 0 s.nodes)
    (λ j e below. omega (arith, get_or-range_with_len 0 s.nodes j e (omega (arith, below, length-range_with_len 0 s.nodes)), below, length-range_with_len 0 s.nodes)) k d lt))
