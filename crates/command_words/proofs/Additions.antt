-- What `clap` reads of a command that was added to.
-- Serves `commands`, `compare` and `run`.
use Rattle.command_words.proofs.Common.{◌≡◌, ◌∙◌, AllocError, Err, IfOk, IsOkAnd, Ok, Result, true, false, not, is_some, ap, is_empty, is_simple_arg, AddsArg, AddsSubcommand, App, Rule, Shape, app_of, rule_of, shape_of, with_rule, with_subcommand, is_false, plain_fields, both, Arg, Command}

simple_is_local : (a : Arg) → is_simple_arg a ≡ true → a.global ≡ false
simple_is_local a e =
    let p = both (is_empty a.overrides.items) _ e in
    let q = both (is_empty a.default_vals_ifs.items) _ p.1 in
    let r = both (is_empty a.groups.items) _ q.1 in
    let s = both (not (is_some a.val_delim)) _ r.1 in
    let t = both (not (is_some a.terminator)) _ s.1 in
    let u = both (not a.allow_hyphen_values) _ t.1 in
    let v = both (not a.allow_negative_numbers) _ u.1 in
    let w = both (not a.require_equals) _ v.1 in
    let x = both (not a.last) _ w.1 in
    is_false a.global x.1

pub arg_added : (old new : Command) (a : Arg) (rule : Rule) → AddsArg old a new → rule_of a ≡ rule → rule.is_simple ≡ true
    → app_of new ≡ with_rule (app_of old) rule
arg_added old new a rule added is simple =
    added.shape (simple_is_local a (ap (λ (r : Rule). r.is_simple) is ∙ simple)) ∙ ap (with_rule (app_of old)) is

pub subcommand_added : (all one result : Result Command AllocError) (app : App) (shape : Shape)
    → IfOk result (λ r. IsOkAnd all (λ old. IsOkAnd one (λ sub. AddsSubcommand old sub r)))
    → IfOk all (λ old. app_of old ≡ app) → IfOk one (λ sub. shape_of sub ≡ shape) → shape.is_plain ≡ true
    → IfOk result (λ r. app_of r ≡ with_subcommand app shape)
subcommand_added all one (Err e) app shape added begun is plain = tt
subcommand_added (Err e) one (Ok new) app shape added begun is plain = absurd added
subcommand_added (Ok old) (Err e) (Ok new) app shape added begun is plain = absurd added
subcommand_added (Ok old) (Ok sub) (Ok new) app shape added begun is plain =
    added.shape ((plain_fields sub (ap (λ (s : Shape). s.is_plain) is ∙ plain)).globals)
    ∙ (ap (with_subcommand (app_of old)) is ∙ ap (λ a. with_subcommand a shape) begun)
