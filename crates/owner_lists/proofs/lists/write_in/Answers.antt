use Rattle.owner_lists.proofs.Common.{sym, Write}
use Rattle.owner_lists.proofs.Rising.{find-at, find-gap}
use Rattle.owner_lists.proofs.lists.write_in.Goals as goal

abbrev no_write : Write
no_write = record { key = 0; version = 0; born = 0 }

pub returns-in-Ok : goal.returns-in-Ok
returns-in-Ok c =
    let at = c.in-Ok.ensures.found in
    sym (find-at c.args.writes.now c.args.key c.in-Ok.at no_write c.requires at.in_range (at.here no_write))

pub returns-in-Err : goal.returns-in-Err
returns-in-Err c = sym (find-gap c.args.writes.now c.args.key c.in-Err.field-0 c.in-Err.ensures.absent)
