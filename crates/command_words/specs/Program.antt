-- The program as `clap` reads words for it: its commands and their options. Source: this project.
use Rattle.std.specs.Prelude.{pos, true, false, Some, [], ◌∷◌, codes}
use Rattle.limits.specs.declared.TheConstants.{MOST_WORKERS}
use Rattle.clap.specs.Simple.{new_shape}
use Rattle.clap.specs.Words.{App, Rule, Shape, new_rule}
use Rattle.clap.specs.declared.builder.value_parser.ValueParser.TheVariants as is_value

-- `--workers N`: a number from 1 to `MOST_WORKERS`, and 1 where none is given
abbrev pub workers_option : Rule
workers_option = record (new_rule (codes "workers")) {
  long = Some (codes "workers");
  value_names = 1;
  parser = Some (is_value.Signed (pos 1) (pos MOST_WORKERS));
  defaults = codes "1" ∷ [];
}

-- `--trace FILE`: any text
abbrev pub trace_option : Rule
trace_option = record (new_rule (codes "trace")) {
  long = Some (codes "trace");
  value_names = 1;
}

abbrev pub check_command : Shape
check_command = new_shape (codes "check")

abbrev pub run_command : Shape
run_command = record (new_shape (codes "run")) { rules = workers_option ∷ trace_option ∷ [] }

abbrev pub compare_command : Shape
compare_command = record (new_shape (codes "compare")) { rules = workers_option ∷ [] }

-- its words come without its name and have to name a command, and `help` is none
abbrev pub program_alone : Shape
program_alone = record (new_shape (codes "gossip_bench")) {
  no_binary_name = true;
  disable_help_subcommand = true;
  subcommand_required = true;
}

unfoldable pub program : App
program = record {
  top = record program_alone { is_leaf = false };
  subs = check_command ∷ run_command ∷ compare_command ∷ [];
}
