-- A command that asks was given no answer: it takes an outcome of the word.
use Rattle.device_list.specs.declared.finish.BoardEnd.{BoardEnd}
use Rattle.rehearse_rules.specs.ByShell.{leaves_in, status_of_exit, asks_in, truth_in, fields_in, follows, reads_again, call_in}
use Rattle.std.proofs.Common.{ℕ, zero, suc, Bool, true, false, List, [], ◌∷◌, length, Option, Some, None, refl, subst, ◌≡◌, nat_lt, nat_le, nat_eq}
use Rattle.hushlang.specs.Tree as tree
use Rattle.hushlang.specs.Tree.{Script}
use Rattle.hushlang.specs.Expansion.{size, most_bytes}
use Rattle.bootstore_state.specs.Moment.{Moment, RunningFrame}
use Rattle.bootstore_state.specs.declared.frame.FrameKind.{FrameKind}
use Rattle.bootstore_state.specs.declared.frame.FrameKind.TheVariants as kinds
use Rattle.bootstore_state.specs.StoredState.{state_at}
use Rattle.rehearse_terms.specs.Outcomes.{Success}
use Rattle.rehearse_terms.specs.State.{Text, State}
use Rattle.rehearse_rules.specs.Parameters.{parameters_in}
use Rattle.device_list.specs.Called.{Called, BuiltIn, NoCommand, Device, called_by, sets_in}
use Rattle.commands.specs.BuiltInCommands.{ChangesVariables, WritesText, RunsTexts, Tests, Exits}
use Rattle.rehearse_rules.specs.Needs.{effect_now}
use Rattle.rehearse_terms.specs.declared.shell.Shell.{Shell}
use Rattle.rehearse_terms.specs.declared.shell.Shell.TheVariants.{Profile, Old2023, Old2025, Modern2025}
use Rattle.rehearse_rules.specs.Execution.{Limits, CutDevices, Size, Request, told, told_again, logged, set_environment, set_status, status_when, Unsupported, request_of, test_request}
use Rattle.rehearse_machine.specs.Places.{PlaceNext, GoOn, AskOn, StopOn, left, place_finish, place_exit, place_tell_or_ask, place_ask, place_called, place_fields, left_compound, left_script, left_by, command_over, place_simple_call, above_file, left_file, file_left}
use Rattle.rehearse_machine.specs.AskingCommand.{words_in_front, fields_again, found_again}
use Rattle.rehearse_machine.specs.Machine.{Asking}

abbrev AsksAnew : PlaceNext → Type 0
AsksAnew (GoOn ps s) = Unit {0}
AsksAnew (AskOn r ps s) = r.again ≡ false
AsksAnew (StopOn ending s) = Unit {0}

either_anew : (b : Bool) (x y : PlaceNext) → AsksAnew x → AsksAnew y → AsksAnew (elim b [ true ↦ x | false ↦ y ])
either_anew true x y h k = h
either_anew false x y h k = k

compound_anew : (shell : Shell) (ps : List RunningFrame) (outwards : PlaceNext) (s : State) → AsksAnew outwards → AsksAnew (left_compound shell ps outwards s)
compound_anew Profile ps outwards s h = h
compound_anew Old2023 ps outwards s h = h
compound_anew Old2025 ps outwards s h = h
compound_anew Modern2025 ps outwards s h = tt

script_anew : (shell : Shell) (turn : ℕ) (p : RunningFrame) (ps : List RunningFrame) (outwards : PlaceNext) (s : State) → AsksAnew outwards → AsksAnew (left_script shell turn p ps outwards s)
script_anew shell zero p ps outwards s h = h
script_anew shell (suc a) p ps outwards s h = compound_anew shell (command_over p ∷ ps) outwards s h

file_anew : (shell : Shell) (ps : List RunningFrame) (s : State) → AsksAnew (file_left shell ps s)
file_anew Profile ps s = tt
file_anew Old2023 ps s = tt
file_anew Old2025 ps s = tt
file_anew Modern2025 ps s = tt

kind_anew : (shell : Shell) (kind : FrameKind) (p : RunningFrame) (ps : List RunningFrame) (outwards : PlaceNext) (s : State) → AsksAnew outwards → AsksAnew (left_by shell kind p ps outwards s)
kind_anew shell kinds.Text p ps outwards s h = script_anew shell p.place.turn p ps outwards s h
kind_anew shell kinds.Block p ps outwards s h = script_anew shell p.place.turn p ps outwards s h
kind_anew shell kinds.For p ps outwards s h = compound_anew shell ps outwards s h
kind_anew shell kinds.Run p ps outwards s h = either_anew (nat_eq s.memory.status 0) (GoOn (p ∷ ps) s) (GoOn ps s) tt tt
kind_anew shell kinds.File p ps outwards s h = by p.place.turn
  where
    by : (turn : ℕ) → AsksAnew (left_file shell turn ps outwards s)
    by zero = h
    by (suc zero) = file_anew shell ps s
    by (suc (suc k)) = h

left_anew : (shell : Shell) (ps : List RunningFrame) (s : State) → AsksAnew (left shell ps s)
left_anew shell [] s = tt
left_anew shell (p ∷ ps) s = kind_anew shell p.kind p ps (left shell ps s) s (left_anew shell ps s)

exit_anew : (shell : Shell) (o : Option ℕ) (other : ℕ) (ps : List RunningFrame) (s : State) → AsksAnew (place_exit shell o other ps s)
exit_anew shell None other ps s = tt
exit_anew shell (Some status) other ps s = left_anew shell ps (set_status status s)

finish_anew : (ends : Option BoardEnd) (name : Text) (ps : List RunningFrame) (s : State) → AsksAnew (place_finish ends name ps s)
finish_anew (Some how) name ps s = tt
finish_anew None name ps s = tt

tell_anew : (o : Option Bool) (r : Request) (ps : List RunningFrame) (s : State) → r.again ≡ false → AsksAnew (place_tell_or_ask o r ps s)
tell_anew None r ps s e = e
tell_anew (Some true) r ps s e = finish_anew r.effect.ends r.name (above_file s.memory.status r.effect.runs ps) (set_environment (sets_in r.words r.effect.sets) (logged Success (told_again r) s))
tell_anew (Some false) r ps s e = tt

module _ (limits : Limits) where
  ask_anew : (r : Request) (ps : List RunningFrame) (s : State) → r.again ≡ false → AsksAnew (place_ask limits r ps s)
  ask_anew r ps s e = either_anew (nat_lt (length s.log) limits.device_bound) (place_tell_or_ask (told r s.log) r ps s) (StopOn CutDevices s) (tell_anew (told r s.log) r ps s e) tt

  called_anew : (again : Bool) (b : Called) (name : Text) (ws : List Text) (script : Script) (ps : List RunningFrame) (s : State) → AsksAnew (place_called limits again b name ws script ps s)
  called_anew again (BuiltIn (ChangesVariables change)) name ws script ps s = tt
  called_anew again (BuiltIn RunsTexts) name [] script ps s = tt
  called_anew again (BuiltIn RunsTexts) name (w ∷ ws) script ps s = tt
  called_anew again (BuiltIn Tests) name ws script ps s =
      let r : Request = test_request limits name ws in
      either_anew (asks_in limits.shell ws) (place_ask limits r ps s) (GoOn ps (set_status (status_when (truth_in limits.shell ws)) s)) (ask_anew r ps s refl) tt
  called_anew again (BuiltIn (WritesText written)) name ws script ps s = tt
  called_anew again (BuiltIn Exits) name ws script ps s = exit_anew limits.shell (leaves_in limits.shell again ws) (status_of_exit limits.shell ws) ps s
  called_anew again (Device effect) name ws script ps s = ask_anew (request_of name ws (effect_now limits.room s effect)) ps s refl
  called_anew again NoCommand name ws script ps s = tt

  call_anew : (again : Bool) (fs : List Text) (script : Script) (ps : List RunningFrame) (s : State) → AsksAnew (place_simple_call limits again fs script ps s)
  call_anew again [] script ps s = tt
  call_anew again (name ∷ ws) script ps s = either_anew (follows limits.shell limits.devices name ws) (place_called limits again (called_by limits.devices name ws) name ws script ps s) (StopOn (Unsupported name) s) (called_anew again (called_by limits.devices name ws) name ws script ps s) tt

  fields_anew : (again : Bool) (fs : List Text) (script : Script) (ps : List RunningFrame) (s : State) → AsksAnew (place_fields limits again fs script ps s)
  fields_anew again fs = call_anew again (call_in limits.shell fs)

  again_anew : (o : Option (List tree.Word)) (f : RunningFrame) (fs : List RunningFrame) (s : State) → AsksAnew (fields_again limits o f fs s)
  again_anew None f fs s = tt
  again_anew (Some words) f fs s =
      let found : List Text = fields_in limits.shell (parameters_in s.memory) words in
      either_anew (nat_le (size found) most_bytes) (place_fields limits (reads_again words) found f.script (f ∷ fs) s) (StopOn Size s) (fields_anew (reads_again words) found f.script (f ∷ fs) s) tt

  found_anew : (ps : List RunningFrame) (s : State) → AsksAnew (found_again limits ps s)
  found_anew [] s = tt
  found_anew (f ∷ fs) s = again_anew (words_in_front f) f fs s

  pub asks_anew : (m : Moment) (asking : Asking limits m) → asking.request.again ≡ false
  asks_anew m asking = subst AsksAnew (asking.again []) (found_anew m.frames (state_at m []))
