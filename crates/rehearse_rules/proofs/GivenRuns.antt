-- Runs by a definition that is given what a command does that is not built in.
use Rattle.std.proofs.Common.{◌≡◌, ℕ, zero, suc, nat_lt, nat_eq, Bool, true, false, cond, List, [], ◌∷◌, length, Option, Some, None, codes, refl, sym, ap, ◌∙◌}
use Rattle.std.specs.Cmp.Lexicographic.{bytes_decides}
use Rattle.hushlang.specs.Tree as tree
use Rattle.hushlang.specs.Tree.{Script, AndOr, Joined, Command, Arms}
use Rattle.rehearse_terms.specs.Outcomes.{OutcomeWord}
use Rattle.rehearse_terms.specs.State.{Text, Variables, State, get, start, answer_in}
use Rattle.rehearse_terms.specs.declared.written.Written.TheVariants.{Kept}
use Rattle.rehearse_rules.specs.Parameters.{parameters_in}
use Rattle.std.specs.List.{list_any}
use Rattle.std.specs.Str.{bytes_eq}
use Rattle.builtins.specs.Builtins.{Builtin, builtin_of}
use Rattle.commands.specs.KnownCommands.{Known, known_of}
use Rattle.commands.specs.Computed.{Computed, computes}
use Rattle.device_list.specs.Called.{Called, BuiltIn, listed_by, other_called, called_by}
use Rattle.commands.specs.BuiltInCommands.{Deed, ChangesVariables, WritesText, RunsTexts, Tests, Exits, deed_of, carried, asks_device, exit_status}
use Rattle.commands.specs.Verdict.{verdict}
use Rattle.device_list.specs.DeviceList.{Devices, computed_by}
use Rattle.rehearse_rules.specs.ByShell.{call_in, reads_again, leaves_in, status_of_exit, asks_in, truth_in, fields_in, skips_rest, status_of_nothing, status_of_no_block, follows, question_in, truth_if}
use Rattle.rehearse_terms.specs.declared.shell.Shell.{Shell}
use Rattle.rehearse_terms.specs.declared.shell.Shell.TheVariants.{Profile}
use Rattle.rehearse_rules.specs.Execution.{Limits, Answer, Normal, Exit, Ended, CutDevices, CutSteps, Request, tell_or_take, device, go_on, set_status, status_when, goes, begin, command, simple_call, simple, sized, turns, text_end, run_text, run_all, exec_script, exec_list, exec_joined, exec_command, exec_arms, exec, Unsupported, assign, started_text, for_words, for_begun, block_skipped, compound}
use Rattle.rehearse_rules.specs.GivenExecution.{Others, asked_anew, given_builtin, given_simple, given_script, given_list, given_joined, given_command, given_arms, given_exec, given_run_on}

-- what a part of a script does to states
abbrev pub Does : Type 0
Does = State → Answer

-- the bounds, with these device commands
abbrev limits : Limits → Devices → Limits
limits bounds devices = record bounds { devices = devices }

-- ---- texts that `run` starts

module _ (bounds : Limits) (devices : Devices) (f g : Script → Does) (same : f ≡ g) where
  run_text-same : (name text : Text) (s : State) → run_text (limits bounds devices) f name text s ≡ run_text bounds g name text s
  run_text-same name text s = λ i. run_text bounds (same i) name text s

  started-same : (name text : Text) (s : State) → started_text (limits bounds devices) f name text s ≡ started_text bounds g name text s
  started-same name text s = λ i. started_text bounds (same i) name text s

  run_all-same : (names : List Text) → run_all (limits bounds devices) f names ≡ run_all bounds g names
  run_all-same [] = refl
  run_all-same (name ∷ names) = λ i s. elim (get s.memory.environment name) [
    | None ↦ Normal (set_status 1 s)
    | Some text ↦ text_end bounds.shell (started-same name text s i) (run_all-same names i)
  ]

-- in each script, a command that is not built in does what is given
abbrev pub AreGiven : Limits → Devices → Others → Type 0
AreGiven bounds devices others = (again : Bool) (f : Script → Does) (name : Text) (words : List Text) (s : State)
    → command (limits bounds devices) again f (other_called devices name words) name words s ≡ others name words s

-- the same if no command is computed
abbrev pub AreGivenByList : Limits → Devices → Others → Type 0
AreGivenByList bounds devices others = (again : Bool) (f : Script → Does) (name : Text) (words : List Text) (s : State)
    → command (limits bounds devices) again f (listed_by devices name words) name words s ≡ others name words s

pub given_by_list : (bounds : Limits) (devices : Devices) (others : Others) → devices.known ≡ [] → AreGivenByList bounds devices others → AreGiven bounds devices others
given_by_list bounds devices others none given again f name words s =
    ap (λ (names : List Text). let o : Option Computed = cond (list_any (bytes_eq name) names) (elim (known_of name) [ Some known ↦ computes known words | None ↦ None ]) None in
    let c : Called = elim o [ Some computed ↦ BuiltIn (ChangesVariables (λ ws. carried computed)) | None ↦ listed_by devices name words ] in command (limits bounds devices) again f c name words s) none
    ∙ given again f name words s

-- a built-in command is not computed
not_known : (name : Text) (builtin : Builtin) → builtin_of name ≡ Some builtin → known_of name ≡ None
not_known name builtin e = by (bytes_eq name (codes "env")) (bytes_eq name (codes "itest")) (bytes_eq name (codes "setexpr")) refl refl refl
  where
    one : (known : Text) → builtin_of known ≡ None → name ≡ known → known_of name ≡ None
    one known other is = absurd (let f : builtin_of name ≡ None = ap builtin_of is ∙ other in let g = sym f ∙ e in cc)

    by : (a b c : Bool) → bytes_eq name (codes "env") ≡ a → bytes_eq name (codes "itest") ≡ b → bytes_eq name (codes "setexpr") ≡ c → known_of name ≡ None
    by true b c p q r = one (codes "env") refl ((bytes_decides name (codes "env")).0 p)
    by false true c p q r = one (codes "itest") refl ((bytes_decides name (codes "itest")).0 q)
    by false false true p q r = one (codes "setexpr") refl ((bytes_decides name (codes "setexpr")).0 r)
    by false false false p q r = rw (p, q, r) refl

abbrev chosen : Devices → (name : Text) → (words : List Text) → Option Computed → Option Builtin → Called
chosen devices name words o b = elim o [
  | Some computed ↦ BuiltIn (ChangesVariables (λ ws. carried computed))
  | None ↦ elim b [ Some builtin ↦ BuiltIn (deed_of builtin) | None ↦ listed_by devices name words ]
]

pub called_apart : (devices : Devices) (name : Text) (words : List Text)
    → called_by devices name words ≡ elim (builtin_of name) [ Some builtin ↦ BuiltIn (deed_of builtin) | None ↦ other_called devices name words ]
called_apart devices name words = by (builtin_of name) refl
  where
    none_if : (b : Bool) → ◌≡◌ {A = Option Computed} (cond b None None) None
    none_if true = refl
    none_if false = refl

    by : (b : Option Builtin) → builtin_of name ≡ b → called_by devices name words ≡ elim b [ Some builtin ↦ BuiltIn (deed_of builtin) | None ↦ other_called devices name words ]
    by None e = ap (chosen devices name words (computed_by devices name words)) e
    by (Some builtin) e =
        let none : computed_by devices name words ≡ None =
        ap (λ (k : Option Known). let o : Option Computed = cond (list_any (bytes_eq name) devices.known) (elim k [ Some known ↦ computes known words | None ↦ None ]) None in o) (not_known name builtin e)
        ∙ none_if (list_any (bytes_eq name) devices.known) in
        (λ i. chosen devices name words (none i) (e i))

-- how `exit` ends, or with which status it does not
abbrev ended_by : Option ℕ → (other : ℕ) → State → Answer
ended_by leaves other s = elim leaves [ Some status ↦ Exit (set_status status s) | None ↦ Normal (set_status other s) ]

-- a device command whose answers do not stay asks each time
pub asks_anew : (bounds : Limits) (request : Request) (s : State) → request.effect.stays ≡ false → request.effect.always ≡ None → device bounds request s ≡ asked_anew bounds request s
asks_anew bounds request s e none =
    ap (λ (b : Bool). let a : Answer = elim (nat_lt (length s.log) bounds.device_bound) [
      | true ↦ tell_or_take (cond b (answer_in s.log (request.name ∷ request.words)) request.effect.always) request s
      | false ↦ Ended CutDevices s
    ] in a) e
    ∙ ap (λ (o : Option Bool). let a : Answer = elim (nat_lt (length s.log) bounds.device_bound) [ true ↦ tell_or_take o request s | false ↦ Ended CutDevices s ] in a) none

module _ (bounds : Limits) (own : bounds.shell ≡ Profile) (devices : Devices) (test : devices.test_stays ≡ false) (others : Others) (given : AreGiven bounds devices others) where
  module _ (f g : Script → Does) (same : f ≡ g) where
    abbrev asked_in : Shell → (stays : Bool) → (name : Text) → (words : List Text) → Request
    asked_in shell stays name words = record {
      name = name;
      words = question_in shell words;
      effect = record { ends = None; stays = stays; always = None; needs = []; normal = false; runs = []; sets = [] };
      again = false;
      on_success = status_when (truth_if shell true words);
      on_failure = status_when (truth_if shell false words);
    }

    test-same : (again : Bool) (name : Text) (words : List Text) (s : State) → command (limits bounds devices) again f (BuiltIn Tests) name words s ≡ given_builtin bounds g Tests name words s
    test-same again name words s =
        ap (λ (sh : Shell). let a : Answer = elim (asks_in sh words) [
          | true ↦ device (limits bounds devices) (asked_in sh devices.test_stays name words) s
          | false ↦ Normal (set_status (status_when (truth_in sh words)) s)
        ] in a) own
        ∙ ap (λ (b : Bool). let a : Answer = elim (asks_device words) [
          | true ↦ device (limits bounds devices) (asked_in Profile b name words) s
          | false ↦ Normal (set_status (status_when (verdict words)) s)
        ] in a) test

    -- ubtool's own language looks at no more than the words
    exit-same : (again : Bool) (words : List Text) (s : State) → ended_by (leaves_in bounds.shell again words) (status_of_exit bounds.shell words) s ≡ ended_by (exit_status words) 1 s
    exit-same again words s = ap (λ (sh : Shell). ended_by (leaves_in sh again words) (status_of_exit sh words) s) own

    builtin-same : (again : Bool) (d : Deed) (name : Text) (words : List Text) (s : State) → command (limits bounds devices) again f (BuiltIn d) name words s ≡ given_builtin bounds g d name words s
    builtin-same again (ChangesVariables change) name words s = refl
    builtin-same again (WritesText written) name words s = refl
    builtin-same again RunsTexts name [] s = refl
    builtin-same again RunsTexts name (w ∷ ws) s = λ i. run_all-same bounds devices f g same (w ∷ ws) i s
    builtin-same again Tests name words s = test-same again name words s
    builtin-same again Exits name words s = exit-same again words s ∙ sym (exit-same false words s)

    call-same : (again : Bool) (fs : List Text) (s : State) → simple_call (limits bounds devices) again f fs s ≡ given_simple bounds others g fs s
    call-same again [] s = λ i. Normal (set_status (status_of_nothing (own i) s.memory.status) s)
    call-same again (name ∷ words) s =
        ap (λ (sh : Shell). let a : Answer = elim (follows sh devices name words) [
          | true ↦ command (limits bounds devices) again f (called_by devices name words) name words s
          | false ↦ Ended (Unsupported name) s
        ] in a) own
        ∙ ap (λ (c : Called). command (limits bounds devices) again f c name words s) (called_apart devices name words) ∙ by (builtin_of name)
      where
        by : (b : Option Builtin) → ◌≡◌ {A = Answer} (command (limits bounds devices) again f (elim b [ Some builtin ↦ BuiltIn (deed_of builtin) | None ↦ other_called devices name words ]) name words s)
            (elim b [ Some builtin ↦ given_builtin bounds g (deed_of builtin) name words s | None ↦ others name words s ])
        by (Some builtin) = builtin-same again (deed_of builtin) name words s
        by None = given again f name words s

    simple-same : (again : Bool) (fs : List Text) (s : State) → simple (limits bounds devices) again f fs s ≡ given_simple bounds others g fs s
    simple-same again fs s =
        ap (λ (sh : Shell). simple_call (limits bounds devices) again f (call_in sh fs) s) own ∙ call-same again fs s

  -- ---- the tree

  module _ (left : ℕ) (f g : Script → Does) (same : f ≡ g) where
    mutual
      script-same : (a : Script) → exec_script (limits bounds devices) left f a ≡ given_script bounds others left g a
      script-same tree.Empty = refl
      script-same (tree.Runs list more) = λ i s. go_on (list-same list i s) (script-same more i)

      list-same : (a : AndOr) → exec_list (limits bounds devices) left f a ≡ given_list bounds others left g a
      list-same (tree.Starts first rest) = λ i s. go_on (one-same first i s) (joined-same rest i)

      joined-same : (a : Joined) → exec_joined (limits bounds devices) left f a ≡ given_joined bounds others left g a
      joined-same tree.Alone = refl
      joined-same (tree.Joins op next rest) = λ i s. elim (goes op s.memory.status) [
        | true ↦ go_on (one-same next i s) (joined-same rest i)
        | false ↦ elim (skips_rest (own i)) [ true ↦ Normal s | false ↦ joined-same rest i s ]
      ]

      one-same : (a : Command) → exec_command (limits bounds devices) left f a ≡ given_command bounds others left g a
      one-same (tree.Simple words) = λ i s. begin (limits bounds devices) (λ t. sized (fields_in (own i) (parameters_in t.memory) words) (λ fs u. simple-same f g same (reads_again words) fs u i) t) s
      one-same (tree.Assign values) = λ i s. begin (limits bounds devices) (assign (own i) values) s
      one-same (tree.If arms) = λ i s. compound (own i) (arms-same arms i s)
      one-same (tree.Loop until cond body) = λ i s. compound (own i) (turns (own i) left until (script-same cond i) (script-same body i) 0 s)
      one-same (tree.For name words body) = λ i s. begin (limits bounds devices) (λ t. for_words (own i) name words (script-same body i) (for_begun (own i) t)) s

      arms-same : (a : Arms) → exec_arms (limits bounds devices) left f a ≡ given_arms bounds others left g a
      arms-same tree.NoElse = λ i s. Normal (set_status (status_of_no_block (own i) s.memory.status) s)
      arms-same (tree.Else body) = script-same body
      arms-same (tree.Arm cond body more) = λ i s. go_on (script-same cond i s) (λ t. elim (nat_eq t.memory.status 0) [
        | true ↦ script-same body i t
        | false ↦ arms-same more i (block_skipped (own i) body t)
      ])

  exec-same : (left : ℕ) → exec (limits bounds devices) left ≡ given_exec bounds others left
  exec-same zero = λ i a. script-same zero (λ t s. Ended CutSteps s) (λ t s. Ended CutSteps s) refl a i
  exec-same (suc left) = λ i a. script-same (suc left) (exec (limits bounds devices) left) (given_exec bounds others left) (exec-same left) a i

  -- ---- runs

  pub run-same : (environment : Variables) (name text : Text) (w : OutcomeWord)
      → run_text (limits bounds devices) (exec (limits bounds devices) bounds.step_bound) name text (start Kept environment w) ≡ given_run_on bounds others environment name text w
  run-same environment name text w =
      run_text-same bounds devices (exec (limits bounds devices) bounds.step_bound) (given_exec bounds others bounds.step_bound) (exec-same bounds.step_bound) name text (start Kept environment w)
