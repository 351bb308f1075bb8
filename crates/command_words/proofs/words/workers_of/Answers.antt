use Rattle.command_words.proofs.Common.{refl, found_of, rows_of}
use Rattle.command_words.proofs.Reading.{other_number, workers_read}
use Rattle.command_words.proofs.words.workers_of.Goals as goal

pub returns-in_err-workers : goal.returns-in_err-workers
returns-in_err-workers c =
    let read = workers_read (found_of c.args.options.now) c.get_one.result c.get_one.ensures.none c.get_one.ensures.value in
    rw c.from_residual.ensures (rw (c.in_err-workers.was) at read)

pub returns-then-are_lawful : goal.returns-then-are_lawful
returns-then-are_lawful c =
    let read = workers_read (found_of c.args.options.now) c.get_one.result c.get_one.ensures.none c.get_one.ensures.value in
    (rw (c.in_ok-workers.was) at read, c.if-are_lawful.ensures.0 refl)

pub returns-else-are_lawful : goal.returns-else-are_lawful
returns-else-are_lawful c =
    let read = workers_read (found_of c.args.options.now) c.get_one.result c.get_one.ensures.none c.get_one.ensures.value in
    other_number (rows_of (found_of c.args.options.now)) c.in_ok-workers.workers (rw (c.in_ok-workers.was) at read) (λ lawful. let bad = c.if-are_lawful.ensures.1 lawful in cc)
