-- What a run has at a moment: the state of the script (U-Boot documentation, doc/usage/cmdline and
-- doc/usage/environment, on variables and `$?`), and the rest of its outcome word (ours).
use Rattle.std.specs.Prelude.{ℕ, Bool, true, false, List, [], ◌∷◌, ◌++◌, not, ◌&&◌, Option, Some, None, option_map, filter, map}
use Rattle.std.specs.FinMap.{find, put}
use Rattle.std.specs.Cmp.Lexicographic.{slice_cmp}
use Rattle.std.specs.Map.{lookup}
use Rattle.std.specs.Str.{bytes_eq}
use Rattle.std.specs.Ordering.{nat_cmp, eq_by_cmp}
pub use Rattle.text.specs.Lines.{Text}
use Rattle.rehearse_terms.specs.Outcomes.{OutcomeWord}
use Rattle.rehearse_terms.specs.declared.written.Written.{Written}
use Rattle.rehearse_terms.specs.declared.written.Written.TheVariants.{Kept, Dropped}

-- names with their values, in byte order of the names: the entries of a store's map
abbrev pub Variables : Type 0
Variables = List (Text × Text)

abbrev pub get : Variables → Text → Option Text
get variables name = find (slice_cmp nat_cmp) name variables

abbrev pub with_value : Variables → Text → Text → Variables
with_value variables name value = put (slice_cmp nat_cmp) name value variables

abbrev pub without : Variables → Text → Variables
without variables name = filter (λ e. not (eq_by_cmp (slice_cmp nat_cmp) name e.0)) variables

-- what a script reads and writes; the text that it has written is there if that is kept
pub record Memory : Type 0 where
  pub environment : Variables
  pub locals : Variables
  pub status : ℕ
  pub text : Option Text

-- a device command in the log, with its outcome
pub record LoggedCommand : Type 0 where
  pub success : Bool
  pub words : List Text
  -- whether the list says that its answer stays for the rest of the run
  pub stays : Bool
  -- whether it was asked before, and is given that answer again
  pub again : Bool

-- the commands that took an outcome of the word
abbrev pub asked_of : List LoggedCommand → List LoggedCommand
asked_of log = filter (λ e. not e.again) log

-- the answers that stay, by the words of the commands
abbrev pub answers_in : List LoggedCommand → List (List Text × Bool)
answers_in log = map (λ e. (e.words, e.success)) (filter (λ e. e.stays) (asked_of log))

abbrev pub same_words : List Text → List Text → Bool
same_words [] [] = true
same_words [] (w ∷ ws) = false
same_words (v ∷ vs) [] = false
same_words (v ∷ vs) (w ∷ ws) = bytes_eq v w && same_words vs ws

-- the answer that stays for a command with these words, its name first
abbrev pub answer_in : List LoggedCommand → (call : List Text) → Option Bool
answer_in log call = lookup (same_words call) (answers_in log)

-- with the log of device commands, how many steps are begun, and the rest of the word
pub record State : Type 0 where
  pub memory : Memory
  pub log : List LoggedCommand
  pub steps : ℕ
  pub word : OutcomeWord

-- a text with more after it, if it is kept
abbrev pub text_with : (more : Text) → Option Text → Option Text
text_with more text = option_map (λ t. t ++ more) text

-- nothing is written yet
abbrev pub unwritten : Written → Option Text
unwritten Kept = Some []
unwritten Dropped = None

-- the state at the start of a run
abbrev pub start : Written → Variables → OutcomeWord → State
start written environment word =
    record {
      memory = record { environment = environment; locals = []; status = 0; text = unwritten written };
      log = [];
      steps = 0;
      word = word;
    }

-- a variable's value: the environment's, or else the shell variable's
abbrev pub value_in : Memory → Text → Option Text
value_in m name = elim (get m.environment name) [ Some value ↦ Some value | None ↦ get m.locals name ]
