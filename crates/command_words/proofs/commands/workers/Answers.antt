use Rattle.command_words.proofs.Common.{ap, ◌∙◌, ◌≡◌, codes, Option, Some, [], ◌∷◌, pos, Rule, new_rule, rule_of, ValueParser}
use Rattle.clap.specs.declared.builder.value_parser.ValueParser.TheVariants as is_value
use Rattle.command_words.proofs.commands.workers.Goals as goal

pub returns : goal.returns
returns c =
    let named : rule_of c.value_name.result
    ≡ record (new_rule (codes "workers")) { long = Some (codes "workers"); value_names = 1 } =
    ap rule_of c.value_name.ensures ∙ ap (λ (r : Rule). record r { value_names = 1 })
    (ap rule_of c.long.ensures ∙ ap (λ (r : Rule). record r { long = Some (codes "workers") }) c.new.ensures.rule) in
    let given = c.value_parser-2.ensures.given in
    let range : c.range.result ≡ is_value.Signed (pos 1) (pos 64) =
    rw (c.value_parser.ensures, c.new-2.ensures.start, c.new-2.ensures.end, c.from.ensures) at c.range.ensures in
    let parser : c.value_parser-2.result.value_parser ≡ Some (is_value.Signed (pos 1) (pos 64)) =
    given.1 ∙ ap Some (given.2 ∙ range) in
    let parsed = ap rule_of c.value_parser-2.ensures.others
    ∙ (ap (λ (r : Rule). record r { parser = c.value_parser-2.result.value_parser }) named
    ∙ ap (λ (p : Option ValueParser). record (new_rule (codes "workers")) { long = Some (codes "workers"); value_names = 1; parser = p }) parser) in
    ap rule_of c.help.ensures
    ∙ (ap rule_of c.default_value.ensures ∙ ap (λ (r : Rule). record r { defaults = codes "1" ∷ [] }) parsed)
