use Rattle.command_words.proofs.Common.{ap, IfOk-weaker, ◌∙◌, ◌≡◌, codes, true, app_of_fields, on_top, app_of, new_app}
use Rattle.command_words.proofs.commands.program.Goals as goal

pub returns : goal.returns
returns c =
    let texts : app_of c.after_help.result ≡ new_app (codes "gossip_bench") =
    ap app_of_fields c.after_help.ensures ∙ (ap app_of_fields c.about.ensures ∙ c.new.ensures.app) in
    let unnamed : app_of c.no_binary_name.result ≡ on_top (λ s. record s { no_binary_name = true }) (new_app (codes "gossip_bench")) =
    ap app_of_fields c.no_binary_name.ensures ∙ ap (on_top (λ s. record s { no_binary_name = true })) texts in
    let unhelped : app_of c.disable_help_subcommand.result
    ≡ on_top (λ s. record s { no_binary_name = true; disable_help_subcommand = true }) (new_app (codes "gossip_bench")) =
    ap app_of_fields c.disable_help_subcommand.ensures
    ∙ ap (on_top (λ s. record s { disable_help_subcommand = true })) unnamed in
    let required = ap app_of_fields c.subcommand_required.ensures
    ∙ ap (on_top (λ s. record s { subcommand_required = true })) unhelped in
    IfOk-weaker c.bin_name.result _ _ (λ command named. ap app_of_fields named.0 ∙ required) c.bin_name.ensures
