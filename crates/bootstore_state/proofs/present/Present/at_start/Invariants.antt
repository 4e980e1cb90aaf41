use Rattle.std.proofs.Common.{◌≡◌, drop}
use Rattle.bootstore_state.specs.Moment.{set_in_turn, environment_of}
use Rattle.bootstore_state.specs.Record.{beginning}
use Rattle.bootstore_state.specs.Table.{variables_of, KeepsNothing}
use Rattle.bootstore_state.specs.Present.{moment_of}
use Rattle.bootstore_state.proofs.present.Present.at_start.Given as goal

-- setting what is left, after what was set, makes the environment
abbrev pub invariant-loop-place : goal.invariant-loop-place
invariant-loop-place l = record {
  environment : set_in_turn (variables_of l.present.environment) (drop l.place l.env) ≡ environment_of l.env;
  others : moment_of l.present ≡ beginning l.fn.written (variables_of l.present.environment);
  kept : KeepsNothing l.present.environment;
  kept_locals : KeepsNothing l.present.locals;
}
