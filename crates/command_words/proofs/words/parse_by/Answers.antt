use Rattle.command_words.proofs.Common.{map, inr, Ok, Err, app_of, ArgMatches}
use Rattle.command_words.proofs.Faults.{command_is, faults_are, handed_on}
use Rattle.command_words.proofs.words.parse_by.Goals as goal

pub returns-in_err-matches : goal.returns-in_err-matches
returns-in_err-matches g c =
    let words = map g.S.AsStr.text c.args.words.now in
    let has = faults_are ArgMatches (app_of c.args.commands.now) words (Err c.in_err-matches.field-0.0) c.requires
    c.in_err-matches.ensures.kinds in
    handed_on words c.in_err-matches.field-0.0 c.from_residual.result has c.from_residual.ensures.1

pub returns-in-Some : goal.returns-in-Some
returns-in-Some g c =
    let words = map g.S.AsStr.text c.args.words.now in
    let app = app_of c.args.commands.now in
    record {
      taken = faults_are ArgMatches app words (Ok c.in_ok-matches.matches) c.requires c.in_ok-matches.ensures.kinds;
      asked = rw (← command_is app words c.in_ok-matches.matches c.requires c.in_ok-matches.ensures.ok.2) c.in-Some.ensures;
    }

pub returns : goal.returns
returns g c =
    let words = map g.S.AsStr.text c.args.words.now in
    let app = app_of c.args.commands.now in
    let none = c.in-None.ensures in
    inr (inr (
      c.in_ok-error-in-None.ensures.kind,
      record {
        taken = faults_are ArgMatches app words (Ok c.in_ok-matches.matches) c.requires c.in_ok-matches.ensures.kinds;
        none = rw (← command_is app words c.in_ok-matches.matches c.requires c.in_ok-matches.ensures.ok.2) none;
      },
    ))
