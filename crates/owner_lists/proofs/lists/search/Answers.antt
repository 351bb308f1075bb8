use Rattle.owner_lists.proofs.Common.{rules, answers_always, Write}
use Rattle.owner_lists.proofs.Rising.{searched}
use Rattle.owner_lists.proofs.lists.search.Goals as goal

-- the closure gives a write's key
pub returns : goal.returns
returns c =
    let facts = c.binary_search_by_key.ensures in
    let by_key = facts.position (λ (w : Write). w.key) (answers_always _ _ _ (λ f a r g called. search rules)) in
    searched _ c.args.key _ c.requires facts.bound by_key
