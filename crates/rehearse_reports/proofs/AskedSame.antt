-- With the same frames, and the same words, the same device command asks.
use Rattle.std.proofs.Common.{◌≡◌, ◌∙◌, refl, sym, ap, subst, ℕ, zero, suc, Bool, true, false, List, [], ◌∷◌, length, Option, Some, None, nat_eq, nat_lt, nat_le, if◌then◌else◌}
use Rattle.device_list.specs.declared.finish.BoardEnd.{BoardEnd}
use Rattle.device_list.specs.Called.{Called, BuiltIn, NoCommand, Device, called_by, sets_in}
use Rattle.commands.specs.BuiltInCommands.{ChangesVariables, WritesText, RunsTexts, Tests, Exits}
use Rattle.hushlang.specs.Tree as tree
use Rattle.hushlang.specs.Tree.{Script}
use Rattle.hushlang.specs.Expansion.{size, most_bytes}
use Rattle.bootstore_state.specs.Moment.{Moment, RunningFrame}
use Rattle.bootstore_state.specs.declared.frame.FrameKind.{FrameKind}
use Rattle.bootstore_state.specs.declared.frame.FrameKind.TheVariants as kinds
use Rattle.bootstore_state.specs.StoredState.{state_at}
use Rattle.rehearse_terms.specs.Outcomes.{Success}
use Rattle.rehearse_terms.specs.State.{Text, State}
use Rattle.device_list.specs.DeviceList.{Effect}
use Rattle.rehearse_rules.specs.Needs.{can_succeed, effect_now}
use Rattle.rehearse_terms.specs.declared.shell.Shell.{Shell}
use Rattle.rehearse_terms.specs.declared.shell.Shell.TheVariants.{Profile, Old2023, Old2025, Modern2025}
use Rattle.rehearse_rules.specs.Parameters.{parameters_in}
use Rattle.rehearse_rules.specs.ByShell.{reads_again, leaves_in, status_of_exit, asks_in, truth_in, fields_in, follows, call_in}
use Rattle.rehearse_rules.specs.Execution.{Limits, CutDevices, Size, Unsupported, Request, told, told_again, logged, set_environment, set_status, status_when, request_of, test_request}
use Rattle.rehearse_machine.specs.AskingCommand.{words_in_front, fields_again, found_again}
use Rattle.rehearse_machine.specs.Machine.{Asking, IsAsking}
use Rattle.rehearse_machine.specs.Places.{PlaceNext, GoOn, AskOn, StopOn, frames_of, left, place_exit, place_finish, place_tell_or_ask, place_ask, place_called, place_fields, left_compound, left_script, left_by, command_over, place_simple_call, above_file, left_file, file_left}
use Rattle.rehearse_reads.specs.Keys.{AgreeOn, AreAmong, Key}
use Rattle.rehearse_reads.specs.Accesses.{words_reads}
use Rattle.rehearse_reads.proofs.KeysRead.{all_itself}
use Rattle.rehearse_reads.proofs.SameWords.{fields_agree}
use Rattle.rehearse_frames.specs.KeysToCome.{request_in, request_at, AreAtOnePlace}
use Rattle.rehearse_reports.specs.Asked.{call_reads, asked_by, asked_reads}
use Rattle.rehearse_reports.specs.Reports.{memory_at}
use Rattle.rehearse_reports.specs.Laws.{PlacesAreSame}

-- if both ask, they ask the same
abbrev AsksFor : Request → PlaceNext → Type 0
AsksFor r (GoOn ps s) = Unit {0}
AsksFor r (AskOn r' ps s) = r' ≡ r
AsksFor r (StopOn ending s) = Unit {0}

abbrev AskSame : PlaceNext → PlaceNext → Type 0
AskSame (GoOn ps s) b = Unit {0}
AskSame (AskOn r ps s) b = AsksFor r b
AskSame (StopOn ending s) b = Unit {0}

gone_on : (zero : Bool) (run below : List RunningFrame) (s : State) (b : PlaceNext) → AskSame (elim zero [ true ↦ GoOn run s | false ↦ GoOn below s ]) b
gone_on true run below s b = tt
gone_on false run below s b = tt

compound_gone : (shell : Shell) (ps : List RunningFrame) (outwards : PlaceNext) (s : State) (b : PlaceNext) → AskSame outwards b → AskSame (left_compound shell ps outwards s) b
compound_gone Profile ps outwards s b h = h
compound_gone Old2023 ps outwards s b h = h
compound_gone Old2025 ps outwards s b h = h
compound_gone Modern2025 ps outwards s b h = tt

script_gone : (shell : Shell) (turn : ℕ) (p : RunningFrame) (ps : List RunningFrame) (outwards : PlaceNext) (s : State) (b : PlaceNext) → AskSame outwards b → AskSame (left_script shell turn p ps outwards s) b
script_gone shell zero p ps outwards s b h = h
script_gone shell (suc a) p ps outwards s b h = compound_gone shell (command_over p ∷ ps) outwards s b h

file_gone : (shell : Shell) (ps : List RunningFrame) (s : State) (b : PlaceNext) → AskSame (file_left shell ps s) b
file_gone Profile ps s b = tt
file_gone Old2023 ps s b = tt
file_gone Old2025 ps s b = tt
file_gone Modern2025 ps s b = tt

kind_gone : (shell : Shell) (kind : FrameKind) (p : RunningFrame) (ps : List RunningFrame) (outwards : PlaceNext) (s : State) (b : PlaceNext) → AskSame outwards b → AskSame (left_by shell kind p ps outwards s) b
kind_gone shell kinds.Text p ps outwards s b h = script_gone shell p.place.turn p ps outwards s b h
kind_gone shell kinds.Block p ps outwards s b h = script_gone shell p.place.turn p ps outwards s b h
kind_gone shell kinds.For p ps outwards s b h = compound_gone shell ps outwards s b h
kind_gone shell kinds.Run p ps outwards s b h = gone_on (nat_eq s.memory.status 0) (p ∷ ps) ps s b
kind_gone shell kinds.File p ps outwards s b h = by p.place.turn
  where
    by : (turn : ℕ) → AskSame (left_file shell turn ps outwards s) b
    by zero = h
    by (suc zero) = file_gone shell ps s b
    by (suc (suc k)) = h

left_same : (shell : Shell) (ps : List RunningFrame) (s : State) (b : PlaceNext) → AskSame (left shell ps s) b
left_same shell [] s b = tt
left_same shell (p ∷ ps) s b = kind_gone shell p.kind p ps (left shell ps s) s b (left_same shell ps s b)

exit_same : (shell : Shell) (o : Option ℕ) (other : ℕ) (ps : List RunningFrame) (s : State) (b : PlaceNext) → AskSame (place_exit shell o other ps s) b
exit_same shell None other ps s b = tt
exit_same shell (Some status) other ps s b = left_same shell ps (set_status status s) b

finish_same : (ends : Option BoardEnd) (name : Text) (ps : List RunningFrame) (s : State) (b : PlaceNext) → AskSame (place_finish ends name ps s) b
finish_same (Some how) name ps s b = tt
finish_same None name ps s b = tt

either_same : (b : Bool) (f g : State → PlaceNext) (s t : State) → AskSame (f s) (f t) → AskSame (g s) (g t) → AskSame (elim b [ true ↦ f s | false ↦ g s ]) (elim b [ true ↦ f t | false ↦ g t ])
either_same true f g s t h k = h
either_same false f g s t h k = k

-- what goes on or stops does not ask
none_asked : (r : Request) (ends : Option BoardEnd) (name : Text) (ps : List RunningFrame) (s : State) → AsksFor r (place_finish ends name ps s)
none_asked r (Some how) name ps s = tt
none_asked r None name ps s = tt

tell_same : (o p : Option Bool) (r : Request) (ps : List RunningFrame) (s t : State) → AskSame (place_tell_or_ask o r ps s) (place_tell_or_ask p r ps t)
tell_same None None r ps s t = refl
tell_same None (Some true) r ps s t = none_asked r r.effect.ends r.name (above_file t.memory.status r.effect.runs ps) (set_environment (sets_in r.words r.effect.sets) (logged Success (told_again r) t))
tell_same None (Some false) r ps s t = tt
tell_same (Some true) p r ps s t = finish_same r.effect.ends r.name (above_file s.memory.status r.effect.runs ps) (set_environment (sets_in r.words r.effect.sets) (logged Success (told_again r) s)) (place_tell_or_ask p r ps t)
tell_same (Some false) p r ps s t = tt

cut_same : (x : PlaceNext) (t : State) → AskSame x (StopOn CutDevices t)
cut_same (GoOn ps s) t = tt
cut_same (AskOn r ps s) t = tt
cut_same (StopOn ending s) t = tt

ask_by : (o p : Option Bool) (b c : Bool) (r : Request) (ps : List RunningFrame) (s t : State) → AskSame (elim b [ true ↦ place_tell_or_ask o r ps s | false ↦ StopOn CutDevices s ]) (elim c [ true ↦ place_tell_or_ask p r ps t | false ↦ StopOn CutDevices t ])
ask_by o p true true r ps s t = tell_same o p r ps s t
ask_by o p true false r ps s t = cut_same (place_tell_or_ask o r ps s) t
ask_by o p false c r ps s t = tt

module _ (limits : Limits) (s t : State) where
  ask_same : (r : Request) (ps : List RunningFrame) → AskSame (place_ask limits r ps s) (place_ask limits r ps t)
  ask_same r ps = ask_by (told r s.log) (told r t.log) (nat_lt (length s.log) limits.device_bound) (nat_lt (length t.log) limits.device_bound) r ps s t

  -- a command that needs a call asks only if that has succeeded; or else it is reported that it fails
  abbrev by_need : Effect → (met : Bool) → Effect
  by_need effect met = if met then effect else record effect { stays = false; always = Some false }

  failed_there : (room : Bool) (x : PlaceNext) (r : Request) (ps : List RunningFrame) (u : State) → AskSame x (elim room [ true ↦ place_tell_or_ask (Some false) r ps u | false ↦ StopOn CutDevices u ])
  failed_there true (GoOn qs v) r ps u = tt
  failed_there true (AskOn q qs v) r ps u = tt
  failed_there true (StopOn ending v) r ps u = tt
  failed_there false x r ps u = cut_same x u

  failed_here : (room : Bool) (x : PlaceNext) (r : Request) (ps : List RunningFrame) (u : State) → AskSame (elim room [ true ↦ place_tell_or_ask (Some false) r ps u | false ↦ StopOn CutDevices u ]) x
  failed_here true x r ps u = tt
  failed_here false x r ps u = tt

  listed_by : (here there : Bool) (name : Text) (ws : List Text) (effect : Effect) (ps : List RunningFrame) → AskSame (place_ask limits (request_of name ws (by_need effect here)) ps s) (place_ask limits (request_of name ws (by_need effect there)) ps t)
  listed_by true true name ws effect ps = ask_same (request_of name ws effect) ps
  listed_by true false name ws effect ps =
      failed_there (nat_lt (length t.log) limits.device_bound) (place_ask limits (request_of name ws effect) ps s) (request_of name ws (by_need effect false)) ps t
  listed_by false there name ws effect ps =
      failed_here (nat_lt (length s.log) limits.device_bound) (place_ask limits (request_of name ws (by_need effect there)) ps t) (request_of name ws (by_need effect false)) ps s

  listed_same : (name : Text) (ws : List Text) (effect : Effect) (ps : List RunningFrame) → AskSame (place_ask limits (request_of name ws (effect_now limits.room s effect)) ps s) (place_ask limits (request_of name ws (effect_now limits.room t effect)) ps t)
  listed_same name ws effect ps = listed_by (can_succeed limits.room s effect) (can_succeed limits.room t effect) name ws effect ps

  called_same : (again : Bool) (b : Called) (name : Text) (ws : List Text) (script : Script) (ps : List RunningFrame) → AskSame (place_called limits again b name ws script ps s) (place_called limits again b name ws script ps t)
  called_same again (BuiltIn (ChangesVariables change)) name ws script ps = tt
  called_same again (BuiltIn RunsTexts) name [] script ps = tt
  called_same again (BuiltIn RunsTexts) name (w ∷ ws) script ps = tt
  called_same again (BuiltIn Tests) name ws script ps = either_same (asks_in limits.shell ws) (place_ask limits (test_request limits name ws) ps) (λ x. GoOn ps (set_status (status_when (truth_in limits.shell ws)) x)) s t (ask_same (test_request limits name ws) ps) tt
  called_same again (BuiltIn (WritesText written)) name ws script ps = tt
  called_same again (BuiltIn Exits) name ws script ps = exit_same limits.shell (leaves_in limits.shell again ws) (status_of_exit limits.shell ws) ps s (place_exit limits.shell (leaves_in limits.shell again ws) (status_of_exit limits.shell ws) ps t)
  called_same again (Device effect) name ws script ps = listed_same name ws effect ps
  called_same again NoCommand name ws script ps = tt

  simple_call_same : (again : Bool) (fs : List Text) (script : Script) (ps : List RunningFrame) → AskSame (place_simple_call limits again fs script ps s) (place_simple_call limits again fs script ps t)
  simple_call_same again [] script ps = tt
  simple_call_same again (name ∷ ws) script ps = either_same (follows limits.shell limits.devices name ws) (place_called limits again (called_by limits.devices name ws) name ws script ps) (StopOn (Unsupported name)) s t (called_same again (called_by limits.devices name ws) name ws script ps) tt

  fields_same : (again : Bool) (fs : List Text) (script : Script) (ps : List RunningFrame) → AskSame (place_fields limits again fs script ps s) (place_fields limits again fs script ps t)
  fields_same again fs = simple_call_same again (call_in limits.shell fs)

  again_same : (o : Option (List tree.Word)) (f : RunningFrame) (fs : List RunningFrame) → AgreeOn (call_reads s.memory o) s t → AskSame (fields_again limits o f fs s) (fields_again limits o f fs t)
  again_same None f fs agree = tt
  again_same (Some words) f fs agree =
      let found : List Text = fields_in limits.shell (parameters_in s.memory) words in
      let there : (ws : List Text) → PlaceNext = λ ws. elim (nat_le (size ws) most_bytes) [ true ↦ place_fields limits (reads_again words) ws f.script (f ∷ fs) t | false ↦ StopOn Size t ] in
      subst (λ (ws : List Text). AskSame (fields_again limits (Some words) f fs s) (there ws)) (sym (fields_agree (words_reads s.memory words) s t agree limits.shell words (all_itself (words_reads s.memory words))))
      (either_same (nat_le (size found) most_bytes) (place_fields limits (reads_again words) found f.script (f ∷ fs)) (StopOn Size) s t (fields_same (reads_again words) found f.script (f ∷ fs)) tt)

  found_same : (ps : List RunningFrame) → AgreeOn (asked_by s.memory ps) s t → AskSame (found_again limits ps s) (found_again limits ps t)
  found_same [] agree = tt
  found_same (f ∷ fs) agree = again_same (words_in_front f) f fs agree

-- the requests are the same if both ask
same_asked : (a b : PlaceNext) (r r' : Request) (ps ps' : List RunningFrame) (s s' : State) → a ≡ AskOn r ps s → b ≡ AskOn r' ps' s' → AskSame a b → request_in b ≡ request_in a
same_asked (GoOn qs u) b r r' ps ps' s s' e f h = absurd (cc)
same_asked (StopOn ending u) b r r' ps ps' s s' e f h = absurd (cc)
same_asked (AskOn q qs u) (GoOn qs' u') r r' ps ps' s s' e f h = absurd (cc)
same_asked (AskOn q qs u) (StopOn ending u') r r' ps ps' s s' e f h = absurd (cc)
same_asked (AskOn q qs u) (AskOn q' qs' u') r r' ps ps' s s' e f h = ap Some h

pub places_are_same : PlacesAreSame
unfolding IsAsking
places_are_same limits m n am an same agree =
    let s : State = state_at m [] in
    let t : State = state_at n [] in
    let there : found_again limits m.frames t ≡ found_again limits n.frames t = ap (λ (ps : List RunningFrame). found_again limits ps t) (sym same) in
    record {
      frames = ap frames_of same;
      asks =
          ap request_in (sym there)
          ∙ same_asked (found_again limits m.frames s) (found_again limits m.frames t) am.request an.request m.frames n.frames s t (am.again []) (there ∙ an.again []) (found_same limits s t m.frames agree);
    }
