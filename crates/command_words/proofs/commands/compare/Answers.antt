use Rattle.command_words.proofs.Common.{ap, refl, ◌∙◌, ◌≡◌, codes, IfOk-weaker, app_of_fields, App, app_of, new_app, with_rule}
use Rattle.command_words.specs.Program.{workers_option}
use Rattle.command_words.proofs.Additions.{arg_added}
use Rattle.command_words.proofs.commands.compare.Goals as goal

pub returns : goal.returns
returns c =
    let begun : app_of c.about.result ≡ new_app (codes "compare") = ap app_of_fields c.about.ensures ∙ c.new.ensures.app in
    IfOk-weaker c.arg.result _ _ (λ command added. ap (λ (a : App). a.top)
    (arg_added c.about.result command c.workers.result workers_option added c.workers.ensures refl
    ∙ ap (λ a. with_rule a workers_option) begun)) c.arg.ensures
