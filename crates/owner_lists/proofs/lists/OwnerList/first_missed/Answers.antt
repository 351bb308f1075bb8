use Rattle.owner_lists.proofs.Common.{◌≡◌, ◌≤◌, IfSome, None, find, map, drop, sym, ap, ◌∙◌, subst, Write, OwnerListView, written, write_of_entry, is_write_of, last_write, IsNumbered}
use Rattle.owner_lists.specs.Latest.{write_of}
use Rattle.owner_lists.specs.Missed.{first_missed}
use Rattle.owner_lists.proofs.Last.{first_missed-drop, fresh}
use Rattle.owner_lists.proofs.Keeping.{numbered_kept}
use Rattle.owner_lists.proofs.lists.OwnerList.first_missed.Goals as goal
use Rattle.owner_lists.proofs.lists.OwnerList.first_missed.Goals.{After-write_in}

numbered : (c : After-write_in) → IsNumbered (written c.args.self.now)
numbered c = numbered_kept _ _ _ c.self.invariant c.self.view_is

-- where the last write of the key is no newer
none_missed : (c : After-write_in) → IfSome c.write_in.result (λ (w : Write). w.version ≤ c.args.version) → None ≡ first_missed (written c.args.self.now) c.args.key c.args.version
none_missed c no_newer =
    let last : c.write_in.result ≡ last_write (written c.args.self.now) c.args.key =
    c.write_in.ensures ∙ ap (λ ws. write_of ws c.args.key) c.deref.ensures.value ∙ c.self.invariant.ends.last c.args.key ∙ ap (λ v. last_write (written v) c.args.key) c.self.view_is in
    sym (fresh (written c.args.self.now) c.args.key c.args.version (numbered c) (subst (λ o. IfSome o (λ (w : Write). w.version ≤ c.args.version)) last no_newer))

pub returns-in_err-last-clause-missed : goal.returns-in_err-last-clause-missed
returns-in_err-last-clause-missed c = c.from_residual.ensures ∙ none_missed (goal.at.returns-in_err-last-clause-missed c).After-write_in (subst (λ o. IfSome o (λ (w : Write). w.version ≤ c.args.version)) (sym c.in_err-last.was) tt)

pub returns-then-version-last-clause-missed : goal.returns-then-version-last-clause-missed
returns-then-version-last-clause-missed c =
    c.first_from.ensures
    ∙ ap (λ es. find (is_write_of c.args.key) (drop c.args.version (map write_of_entry es))) (c.current.ensures ∙ ap (λ (v : OwnerListView). v.current) c.self.view_is)
    ∙ sym (first_missed-drop (written c.args.self.now) c.args.key c.args.version (numbered (goal.at.returns-then-version-last-clause-missed c).After-write_in))

pub returns-else-version-last-clause-missed : goal.returns-else-version-last-clause-missed
returns-else-version-last-clause-missed c = none_missed (goal.at.returns-else-version-last-clause-missed c).After-write_in (subst (λ o. IfSome o (λ (w : Write). w.version ≤ c.args.version)) (sym c.in_ok-last.was) c.if-version-last.false)
