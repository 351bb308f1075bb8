use Rattle.owner_lists.proofs.Common.{◌≡◌, is_ok, if◌then◌else◌, sym, ap, ◌∙◌, subst, insert}
use Rattle.owner_lists.specs.Latest.{keyed}
use Rattle.owner_lists.specs.inner.Keys.{IsIndexOfKey, IsGapForKey}
use Rattle.owner_lists.proofs.Rising.{put_at, put_gap}
use Rattle.owner_lists.proofs.lists.put.Goals as goal

pub returns-in-Ok : goal.returns-in-Ok
returns-in-Ok c = put_at _ c.args.write c.in-Ok.at c.requires.rising (subst (λ ws. IsIndexOfKey ws c.args.write.key c.in-Ok.at) c.deref.ensures.value c.in-Ok.ensures.found)

pub returns-in-Err : goal.returns-in-Err
returns-in-Err c =
    let gap : IsGapForKey c.args.writes.now.items c.args.write.key c.in-Err.at = subst (λ ws. IsGapForKey ws c.args.write.key c.in-Err.at) c.deref.ensures.value c.in-Err.ensures.absent in
    let inserted : c.insert.new.self.items ≡ insert c.args.writes.now.items c.in-Err.at c.args.write = c.insert.ensures.items ∙ ap (λ r. if is_ok r then insert c.args.writes.now.items c.in-Err.at c.args.write else c.args.writes.now.items) c.unwrap.ensures in
    put_gap c.args.writes.now.items c.args.write c.in-Err.at gap ∙ ap keyed (sym inserted)
