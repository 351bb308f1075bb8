-- The names of other libraries that these proofs cite, passed on from one place. Declares nothing.
-- Serves the functions of `commands` and `words`, `Additions`, `Examples`, `Faults` and `Reading`.
pub use Rattle.std.proofs.Common.{Box, Err, Global, IfOk, IsErrAnd, IsOkAnd, List, MatchOption, MatchResult, None, Ok, Option, Result, Some, [], ap, arith, codes, false, inl, inr, is_some, map, not, option_map, pos, refl, subst, sym, true, ℕ, ◌∙◌, ◌∷◌, ◌≡◌, ◌≤◌}
pub use Rattle.std.proofs.lemmas.Result.{IfOk-weaker}
pub use Rattle.std.specs.Box.{box_value}
pub use Rattle.std.specs.Str.Parse.{ExplainsUnsignedError, HasUnsignedDigitsIfOk, IsNumeral, ParsesUnsigned, digits_value, without_leading_plus}
pub use Rattle.std.specs.declared.alloc.AllocError.{AllocError}
pub use Rattle.std.specs.declared.num.ParseIntError.{ParseIntError}
pub use Rattle.clap.proofs.SimpleLemmas.{is_false, plain_fields}
pub use Rattle.clap.proofs.WalkLemmas.{both, first_value-rows, one_text-rows}
pub use Rattle.clap.specs.Simple.{app_of_fields, on_top}
pub use Rattle.clap.specs.Walk.{is_empty, is_simple_arg}
pub use Rattle.clap.specs.Words.{AddsArg, AddsSubcommand, App, FailsBy, HasKind, HasMatchesOf, ReadsOne, Row, Rule, Shape, Text, app_of, fault_of, first_of, found_of, is_simple, is_simple_and_free, kind_of, new_app, new_rule, one_of, one_text, rows_of, rule_of, shape_of, subcommand_name_of, subcommand_of, subcommand_rows, subcommand_rows_of, with_rule, with_subcommand}
pub use Rattle.clap.specs.declared.builder.arg.Arg.{Arg}
pub use Rattle.clap.specs.declared.builder.command.Command.{Command}
pub use Rattle.clap.specs.declared.builder.value_parser.ValueParser.{ValueParser}
pub use Rattle.clap.specs.declared.error.Error.{Error}
pub use Rattle.clap.specs.declared.error.ErrorKind.{ErrorKind}
pub use Rattle.clap.specs.declared.error.ErrorKind.TheVariants.{DisplayHelp, MissingSubcommand, UnknownArgument, ValueValidation}
pub use Rattle.clap.specs.declared.parser.matches.ArgMatches.{ArgMatches}
pub use Rattle.clap.specs.declared.parser.matches.ArgMatches.TheViews.{out-ArgMatches, out-SubCommand}
pub use Rattle.clap.specs.declared.parser.matches.Found.{Found}
pub use Rattle.clap.specs.declared.parser.matches.SubCommand.{SubCommand}
