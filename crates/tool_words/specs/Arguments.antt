-- The arguments of a command by rows: what `clap` knows of each.
use Rattle.std.specs.Prelude.{◌≡◌, ℕ, List, [], ◌∷◌, Some, map, pos}
use Rattle.std.specs.List.{fold}
use Rattle.std.specs.Option.{option_map_or}
use Rattle.clap.specs.Words.{App, Rule, Shape, Text, app_of, new_app, new_rule, with_rule, with_subcommand}
use Rattle.clap.specs.declared.builder.action.ArgAction.TheVariants.{Append, SetTrue}
use Rattle.clap.specs.declared.builder.command.Command.{Command}
use Rattle.clap.specs.declared.builder.command.Command.TheViews.{out-Command}
use Rattle.clap.specs.declared.builder.value_parser.ValueParser.TheVariants as parser
use Rattle.tool_words.specs.declared.argument.Argument.{Argument}
use Rattle.tool_words.specs.declared.argument.Form.{Form}
use Rattle.tool_words.specs.declared.argument.Form.TheVariants.{Flag, Number, Value, Values, Word, Words}
use Rattle.tool_words.specs.declared.subcommand.Subcommand.{Subcommand}

-- `--word VALUE`
abbrev pub long_option : Text → Rule
long_option id = record (new_rule id) { long = Some id; value_names = 1 }

-- `--word VALUE` or `-x VALUE`
abbrev pub lettered_option : Text → ℕ → Rule
lettered_option id letter = record (long_option id) { short = Some letter }

-- `--word N`, a whole number from `least` to `most`
abbrev pub number_option : Text → ℕ → ℕ → Rule
number_option id least most =
    record (long_option id) { parser = Some (parser.Signed (pos least) (pos most)) }

-- `--word VALUE`, as often as it is given
abbrev pub repeated_option : Text → Rule
repeated_option id = record (long_option id) { action = Some Append }

-- `--word`
abbrev pub long_flag : Text → Rule
long_flag id = record (new_rule id) { long = Some id; action = Some SetTrue }

-- `--word` or `-x`
abbrev pub lettered_flag : Text → ℕ → Rule
lettered_flag id letter = record (long_flag id) { short = Some letter }

-- `[NAME]`
abbrev pub one : Text → Rule
one id = record (new_rule id) { value_names = 1 }

-- `[NAME]..`
abbrev pub many : Text → Rule
many id = record (new_rule id) { value_names = 1; action = Some Append }

-- an argument of this form, without a letter
abbrev pub rule_of_form : Form → Text → Rule
rule_of_form Flag id = long_flag id
rule_of_form Value id = long_option id
rule_of_form Values id = repeated_option id
rule_of_form (Number least most) id = number_option id least most
rule_of_form Word id = one id
rule_of_form Words id = many id

-- the argument of a row, without its second long form
abbrev pub unaliased : Argument → Rule
unaliased row = record (rule_of_form row.form row.id.now) { short = row.letter; required = row.required }

-- the argument of a row
abbrev pub rule_of_row : Argument → Rule
rule_of_row row = record (unaliased row) { aliases = option_map_or (λ alias. alias.now ∷ []) row.alias [] }

-- a command with these arguments after its own
abbrev pub with_rules : App → List Rule → App
with_rules = fold with_rule

-- a command of this name with these arguments
abbrev pub command : Text → List Rule → App
command name rules = with_rules (new_app name) rules

-- the subcommand of a row
abbrev pub app_of_row : Subcommand → App
app_of_row row = command row.name.now (map rule_of_row row.arguments.now)

abbrev pub shape_of_row : Subcommand → Shape
shape_of_row row = (app_of_row row).top

-- a command with these subcommands after its own
abbrev pub with_subcommands : App → List App → App
with_subcommands app subs = fold with_subcommand app (map (λ (sub : App). sub.top) subs)

-- `new` is `old` with these added after its own, one by one, and none of their arguments is global
pub record Adds {X : Type 0} (add : App → X → App) (old : Command) (xs : List X) (new : Command) : Type 0 where
  pub app_is : app_of new ≡ fold add (app_of old) xs
  pub globals : (out-Command new).has_globals ≡ (out-Command old).has_globals
