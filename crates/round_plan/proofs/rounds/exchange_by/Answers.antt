use Rattle.round_plan.proofs.Common.{refl, ◌≡◌, ℕ, Bool, ap, sym, ◌∙◌, arith, mod-lt, Exchange, Settings}
use Rattle.round_plan.specs.Peer.{peer_of}
use Rattle.round_plan.specs.Plan.{is_lost, rotation_by, exchange_of}
use Rattle.round_plan.specs.Words.{word_of}
use Rattle.round_plan.proofs.rounds.exchange_by.Goals as goal

-- an exchange by its parts
by-parts : (s : Settings) (node round : ℕ) {peer rotation : ℕ} {lost1 lost2 lost3 : Bool} → peer ≡ peer_of s node round
    → lost1 ≡ is_lost s (word_of s node round 1) → lost2 ≡ is_lost s (word_of s node round 2) → lost3 ≡ is_lost s (word_of s node round 3)
    → rotation ≡ rotation_by s.rotation s.nodes (word_of s node round 4)
    → ◌≡◌ {A = Exchange} (record { initiator = node; responder = peer; lost1 = lost1; lost2 = lost2; lost3 = lost3; rotation = rotation })
    (exchange_of s round node)
by-parts s node round peer lost1 lost2 lost3 rotation = rw (peer, lost1, lost2, lost3, rotation) refl

pub returns-in-Off-clause-value : goal.returns-in-Off-clause-value
returns-in-Off-clause-value c =
    let s = c.args.scenario.now in
    by-parts s c.args.node c.args.round c.peer_by.ensures.value
    (c.is_lost.ensures ∙ ap (is_lost s) (c.requires.words.value 1 (omega arith)))
    (c.is_lost-2.ensures ∙ ap (is_lost s) (c.requires.words.value 2 (omega arith)))
    (c.is_lost-3.ensures ∙ ap (is_lost s) (c.requires.words.value 3 (omega arith)))
    (ap (λ r. rotation_by r s.nodes (word_of s c.args.node c.args.round 4)) c.in-Off.ensures)

pub returns-in-Random-clause-value : goal.returns-in-Random-clause-value
returns-in-Random-clause-value c =
    let s = c.args.scenario.now in
    by-parts s c.args.node c.args.round c.peer_by.ensures.value
    (c.is_lost.ensures ∙ ap (is_lost s) (c.requires.words.value 1 (omega arith)))
    (c.is_lost-2.ensures ∙ ap (is_lost s) (c.requires.words.value 2 (omega arith)))
    (c.is_lost-3.ensures ∙ ap (is_lost s) (c.requires.words.value 3 (omega arith)))
    (rw (c.requires.words.value 4 (omega arith), c.nodes.ensures.value)
    (ap (λ r. rotation_by r s.nodes (word_of s c.args.node c.args.round 4)) c.in-Random.ensures))

pub returns-in-Off-clause-planned : goal.returns-in-Off-clause-planned
returns-in-Off-clause-planned c = record {
  initiator = c.requires.node.0;
  responder = c.peer_by.ensures.below;
  apart = λ same. c.peer_by.ensures.another (sym same);
  rotation = omega (arith, c.requires.node.0);
}

pub returns-in-Random-clause-planned : goal.returns-in-Random-clause-planned
returns-in-Random-clause-planned c = record {
  initiator = c.requires.node.0;
  responder = c.peer_by.ensures.below;
  apart = λ same. c.peer_by.ensures.another (sym same);
  rotation = rw c.nodes.ensures.value (mod-lt _ (omega (arith, c.requires.node.0)));
}
