-- Worked examples, computed: what a device command is given again, and what it takes from the word.
use Rattle.std.proofs.Common.{◌≡◌, ℕ, Bool, true, false, List, [], ◌∷◌, Option, Some, None, codes, refl, map}
use Rattle.device_list.specs.declared.finish.BoardEnd.TheVariants.{Boots}
use Rattle.rehearse_terms.specs.Outcomes.{OutcomeWord, Success, Failure}
use Rattle.rehearse_terms.specs.State.{Text, Variables, LoggedCommand, State, start}
use Rattle.rehearse_terms.specs.declared.written.Written.TheVariants.{Kept}
use Rattle.device_list.specs.DeviceList.{Variable, Literal, ValueAt, LastValue, Deleted, CopyOf, Setting, Effect, only}
use Rattle.device_list.specs.DeviceLaws.{quiet}
use Rattle.rehearse_terms.specs.declared.shell.Shell.TheVariants.{Profile}
use Rattle.rehearse_rules.specs.Needs.{is_met, bytes_saved, has_room, can_succeed, effect_now}
use Rattle.rehearse_rules.specs.Execution.{Limits, Normal, Ended, Dry, Finished, CutDevices, Request, told, tell_or_take, device, test_effect, request_of}

abbrev steady : Effect
steady = record quiet { stays = true }

-- `load a`, which is asked
abbrev request : Effect → Request
request effect = request_of (codes "load") (codes "a" ∷ []) effect

abbrev logged : Text → LoggedCommand
logged name = record { success = false; words = name ∷ codes "a" ∷ []; stays = true; again = false }

-- ---- which answer is reported

is_told : told (request steady) (logged (codes "load") ∷ []) ≡ Some false
is_told = refl

-- a command that is not steady is reported nothing
not_steady : told (request quiet) (logged (codes "load") ∷ []) ≡ None
not_steady = refl

-- the name is one of the words
other_name : told (request steady) (logged (codes "boot") ∷ []) ≡ None
other_name = refl

name_and_words : told (request steady) (record (logged (codes "load")) { words = codes "a" ∷ [] } ∷ []) ≡ None
name_and_words = refl

not_asked_yet : told (request steady) [] ≡ None
not_asked_yet = refl

-- an answer that is always the same is reported from the first time on, and again
always_told : map (λ success. told (request (record quiet { always = Some success })) []) (true ∷ false ∷ []) ≡ Some true ∷ Some false ∷ []
always_told = refl

always_told_again : told (request (record quiet { always = Some true })) (logged (codes "load") ∷ []) ≡ Some true
always_told_again = refl

-- ---- its result, in a state with this log and this word

abbrev at : List LoggedCommand → OutcomeWord → State
at log word = record (start Kept ((codes "b", codes "2") ∷ []) word) { log = log; steps = 3 }

-- the state after a command with this log, this word, this status and these variables
abbrev then_at : List LoggedCommand → OutcomeWord → (status : ℕ) → Variables → State
then_at log word status variables = record (at log word) {
  memory = record { environment = variables; locals = []; status = status; text = Some [] };
}

abbrev entry : (success stays again : Bool) → LoggedCommand
entry success stays again = record { success = success; words = codes "load" ∷ codes "a" ∷ []; stays = stays; again = again }

abbrev unchanged : Variables
unchanged = (codes "b", codes "2") ∷ []

-- an answer that is reported takes no outcome of the word; it is logged as given again, and is the status
failure_told : tell_or_take (Some false) (request steady) (at [] (Success ∷ [])) ≡ Normal (then_at (entry false true true ∷ []) (Success ∷ []) 1 unchanged)
failure_told = refl

success_told : tell_or_take (Some true) (request steady) (at [] (Failure ∷ [])) ≡ Normal (then_at (entry true true true ∷ []) (Failure ∷ []) 0 unchanged)
success_told = refl

told_without_word : tell_or_take (Some true) (request steady) (at [] []) ≡ Normal (then_at (entry true true true ∷ []) [] 0 unchanged)
told_without_word = refl

-- without one it takes the next outcome, and is not given again
success_taken : tell_or_take None (request steady) (at [] (Success ∷ Failure ∷ [])) ≡ Normal (then_at (entry true true false ∷ []) (Failure ∷ []) 0 unchanged)
success_taken = refl

failure_taken : tell_or_take None (request quiet) (at [] (Failure ∷ Success ∷ [])) ≡ Normal (then_at (entry false false false ∷ []) (Success ∷ []) 1 unchanged)
failure_taken = refl

none_left : tell_or_take None (request steady) (at [] []) ≡ Dry (at [] [])
none_left = refl

-- what a success sets, it sets when it is reported; a failure sets nothing
abbrev setting : Effect
setting = record steady { sets = (Variable (codes "b"), Literal (codes "3")) ∷ [] }

success_sets : tell_or_take (Some true) (request setting) (at [] []) ≡ Normal (then_at (entry true true true ∷ []) [] 0 ((codes "b", codes "3") ∷ []))
success_sets = refl

failure_sets_nothing : tell_or_take (Some false) (request setting) (at [] []) ≡ Normal (then_at (entry false true true ∷ []) [] 1 unchanged)
failure_sets_nothing = refl

-- and a final command boots
success_boots : tell_or_take (Some true) (request (record steady { ends = Some Boots })) (at [] []) ≡ Ended (Finished Boots (codes "load")) (then_at (entry true true true ∷ []) [] 0 unchanged)
success_boots = refl

failure_goes_on : tell_or_take (Some false) (request (record steady { ends = Some Boots })) (at [] []) ≡ Normal (then_at (entry false true true ∷ []) [] 1 unchanged)
failure_goes_on = refl

-- ---- a call that is needed

-- none is needed
met_by_nothing : is_met [] [] ≡ true
met_by_nothing = refl

-- a success meets it, also one that was given again, and any word may follow
met : map (λ e. is_met (codes "load" ∷ []) (e ∷ [])) (entry true false false ∷ entry true true true ∷ []) ≡ true ∷ true ∷ []
met = refl

-- a failure does not, nor does another command
not_met : map (λ log. is_met (codes "load" ∷ []) log) ([] ∷ (entry false false false ∷ entry false true true ∷ []) ∷ (record (entry true false false) { words = codes "loadb" ∷ codes "load" ∷ [] } ∷ []) ∷ []) ≡ false ∷ false ∷ false ∷ []
not_met = refl

-- a later success does, after others
met_later : is_met (codes "load" ∷ []) (entry false false false ∷ record (entry true false false) { words = codes "usb" ∷ [] } ∷ entry true false false ∷ []) ≡ true
met_later = refl

-- the first word has to be this one, and to be there
met_by_first_word : map (λ word. is_met (codes "load" ∷ word ∷ []) (entry true false false ∷ [])) (codes "a" ∷ codes "b" ∷ codes "" ∷ []) ≡ true ∷ false ∷ false ∷ []
met_by_first_word = refl

met_without_a_word : is_met (codes "load" ∷ codes "a" ∷ []) (record (entry true false false) { words = codes "load" ∷ [] } ∷ []) ≡ false
met_without_a_word = refl

-- as long as it is not met, the command fails whatever else the list says, and this answer does not stay
abbrev needing : Effect → Effect
needing effect = record effect { needs = codes "load" ∷ [] }

needed : map (λ effect. effect_now None (at [] []) (needing effect)) (quiet ∷ steady ∷ record quiet { always = Some true } ∷ [])
    ≡ (let failing : Effect = record (needing quiet) { always = Some false } in failing ∷ failing ∷ failing ∷ [])
needed = refl

as_said : map (λ effect. effect_now None (at (entry true false false ∷ []) []) (needing effect)) (quiet ∷ steady ∷ record quiet { always = Some true } ∷ [])
    ≡ needing quiet ∷ needing steady ∷ needing (record quiet { always = Some true }) ∷ []
as_said = refl

-- ---- room for what a call saves

-- `b=2` and a byte 0
bytes_of_one : bytes_saved (codes "b") (Some (codes "2")) ≡ 4
bytes_of_one = refl

bytes_of_a_name : bytes_saved (codes "bb") (Some (codes "2")) ≡ 5
bytes_of_a_name = refl

bytes_of_a_value : bytes_saved (codes "b") (Some (codes "22")) ≡ 5
bytes_of_a_value = refl

no_bytes_unset : bytes_saved (codes "b") None ≡ 0
no_bytes_unset = refl

no_bytes_empty : bytes_saved (codes "b") (Some []) ≡ 0
no_bytes_empty = refl

abbrev copies : List Text → List Setting
copies names = map (λ name. (Variable (0 ∷ name), CopyOf name)) names

abbrev two : Variables
two = (codes "a", codes "1") ∷ (codes "b", codes "22") ∷ []

room_for_one : map (λ room. has_room room two (copies (codes "b" ∷ []))) (Some 6 ∷ Some 5 ∷ Some 4 ∷ Some 0 ∷ None ∷ []) ≡ true ∷ true ∷ false ∷ false ∷ true ∷ []
room_for_one = refl

room_for_both : map (λ room. has_room room two (copies (codes "a" ∷ codes "c" ∷ codes "b" ∷ []))) (Some 9 ∷ Some 8 ∷ []) ≡ true ∷ false ∷ []
room_for_both = refl

-- a call that copies nothing needs no room
room_for_none : has_room (Some 0) two ((Variable (codes "x"), Literal (codes "long")) ∷ (Variable (codes "a"), Deleted) ∷ (Variable (codes "b"), LastValue) ∷ (Variable (codes "c"), ValueAt 1) ∷ []) ≡ true
room_for_none = refl

-- without room it fails as a call does whose need is not met; with both it is what the list says
abbrev saving_b : Effect
saving_b = record steady { sets = copies (codes "b" ∷ []) }

no_room : effect_now (Some 3) (at [] []) saving_b ≡ record saving_b { stays = false; always = Some false }
no_room = refl

just_room : effect_now (Some 4) (at [] []) saving_b ≡ saving_b
just_room = refl

-- both are needed
room_and_need : map (λ room. map (λ log. can_succeed room (at log []) (needing saving_b)) ([] ∷ (entry true false false ∷ []) ∷ [])) (Some 3 ∷ Some 4 ∷ [])
    ≡ (false ∷ false ∷ []) ∷ (false ∷ true ∷ []) ∷ []
room_and_need = refl

-- ---- the bound counts what is reported: one more in the log, or none

abbrev bounded : ℕ → Limits
bounded bound = record { devices = only []; device_bound = bound; step_bound = 9; shell = Profile; room = None }

told_within : device (bounded 2) (request steady) (at (entry true true false ∷ []) (Failure ∷ [])) ≡ Normal (then_at (entry true true false ∷ entry true true true ∷ []) (Failure ∷ []) 0 unchanged)
told_within = refl

cut_by_bound : device (bounded 1) (request steady) (at (entry true true false ∷ []) (Failure ∷ [])) ≡ Ended CutDevices (at (entry true true false ∷ []) (Failure ∷ []))
cut_by_bound = refl

-- ---- `test -e`

test_stays : map (λ stays. test_effect (record (only []) { test_stays = stays })) (true ∷ false ∷ []) ≡ steady ∷ quiet ∷ []
test_stays = refl
