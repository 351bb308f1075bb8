use Rattle.round_plan.proofs.Common.{◌≡◌, sym, ap, ◌∙◌, arith, Peers, Random}
use Rattle.round_plan.specs.Peer.{peer_by, random_peer}
use Rattle.round_plan.specs.Words.{word_of}
use Rattle.round_plan.proofs.Others.{other_below, other_above}
use Rattle.round_plan.proofs.peers.peer_by.Goals as goal

pub returns-then-place-node-clause-value : goal.returns-then-place-node-clause-value
unfolding random_peer
returns-then-place-node-clause-value c =
    let s = c.args.scenario.now in
    let random : s.peers ≡ Random = sym c.peers.ensures ∙ c.in-Random.is in
    sym (other_below c.nodes-nodes.result c.args.node _ (omega arith) (omega (arith, c.requires.node.0, c.nodes-nodes.ensures.value)))
    ∙ (λ i. random_peer (c.nodes-nodes.ensures.value i) c.args.node (c.requires.word i))
    ∙ sym (ap (λ (p : Peers). peer_by p s.nodes c.args.node c.args.round (word_of s c.args.node c.args.round 0)) random)

pub returns-else-place-node-clause-value : goal.returns-else-place-node-clause-value
unfolding random_peer
returns-else-place-node-clause-value c =
    let s = c.args.scenario.now in
    let random : s.peers ≡ Random = sym c.peers.ensures ∙ c.in-Random.is in
    sym (other_above c.nodes-nodes.result c.args.node _ (omega arith) (omega (arith, c.nodes-nodes.ensures.limits)))
    ∙ (λ i. random_peer (c.nodes-nodes.ensures.value i) c.args.node (c.requires.word i))
    ∙ sym (ap (λ (p : Peers). peer_by p s.nodes c.args.node c.args.round (word_of s c.args.node c.args.round 0)) random)
