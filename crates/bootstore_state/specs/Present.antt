-- The moment that the parts of a running state make, and the variables of a scope in it.
use Rattle.std.specs.Prelude.{Option, reverse}
use Rattle.std.specs.Borrow.{Lends, MutBor, Fml}
use Rattle.bootstore_state.specs.declared.present.Present.{Present}
use Rattle.bootstore_state.specs.declared.present.Scope.{Scope}
use Rattle.bootstore_state.specs.declared.present.Scope.TheVariants.{Environment, Local}
use Rattle.bootstore_state.specs.declared.table.Table.{Table}
use Rattle.bootstore_state.specs.contracts.present.Present.{the_row}
use Rattle.bootstore_state.specs.contracts.table.Table as table
use Rattle.bootstore_state.specs.Moment.{Bytes, Moment}
use Rattle.bootstore_state.specs.Record.{assigned}
use Rattle.bootstore_state.specs.Table.{variables_of}
use Rattle.text.specs.TextsShown.{option_items}

-- the innermost frame was pushed last
abbrev pub moment_of : Present → Moment
moment_of p =
    record {
      environment = variables_of p.environment;
      locals = variables_of p.locals;
      status = p.status;
      text = option_items p.text;
      log = p.log;
      steps = p.steps;
      frames = reverse p.frames.items;
    }

-- the first of the two for the environment, the second for the shell
abbrev pub chosen : {A : Type 0} → Scope → A → A → A
chosen Environment environment locals = environment
chosen Local environment locals = locals

abbrev pub table_of : Present → Scope → Table
table_of p scope = chosen scope p.environment p.locals

abbrev pub with_table : Present → Scope → Table → Present
with_table p scope t = record p { environment = chosen scope t p.environment; locals = chosen scope p.locals t }

-- the state ends with the last value of the table
abbrev pub LendsTable : MutBor Present → Scope → MutBor Table → Fml
LendsTable p scope t = Lends the_row table.the_row p t (with_table p.now scope)

-- the variable is set to the value, or deleted
abbrev pub with_variable : Scope → Bytes → Option Bytes → Moment → Moment
with_variable scope name o m = record m {
  environment = chosen scope (assigned m.environment name o) m.environment;
  locals = chosen scope m.locals (assigned m.locals name o);
}
