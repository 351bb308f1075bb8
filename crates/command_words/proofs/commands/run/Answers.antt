use Rattle.command_words.proofs.Common.{ap, refl, ◌∙◌, ◌≡◌, codes, IfOk-weaker, app_of_fields, App, app_of, new_app, with_rule}
use Rattle.command_words.specs.Program.{trace_option, workers_option}
use Rattle.command_words.proofs.Additions.{arg_added}
use Rattle.command_words.proofs.commands.run.Goals as goal

pub returns : goal.returns
returns c =
    let begun : app_of c.about.result ≡ new_app (codes "run") = ap app_of_fields c.about.ensures ∙ c.new.ensures.app in
    let first = arg_added c.about.result c.in_ok-arg.field-0 c.workers.result workers_option c.in_ok-arg.ensures c.workers.ensures refl
    ∙ ap (λ a. with_rule a workers_option) begun in
    IfOk-weaker c.arg-2.result _ _ (λ command added. ap (λ (a : App). a.top)
    (arg_added c.in_ok-arg.field-0 command c.trace.result trace_option added c.trace.ensures refl
    ∙ ap (λ a. with_rule a trace_option) first)) c.arg-2.ensures
