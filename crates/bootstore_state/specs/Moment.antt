-- What a run of a boot script is made of at a moment: the state of the script (U-Boot documentation,
-- doc/usage/cmdline and doc/usage/environment, on variables and `$?`), and what it still has to do (ours).
use Rattle.std.specs.Prelude.{ℕ, List, [], ◌∷◌, length, take, Option, Some, None, option_map, refl}
use Rattle.std.specs.FinMap.{FinMap, empty, insert}
use Rattle.std.specs.Ordering.{nat_cmp}
use Rattle.std.specs.Cmp.Lexicographic.{slice_cmp}
use Rattle.std.specs.declared.alloc.Global.{Global}
use Rattle.std.specs.declared.vec.Vec.{Vec}
use Rattle.std.specs.declared.rc.Rc.{Rc}
use Rattle.std.specs.Coded.{Coded, code_by, coded×, coded_ℕ, coded_list}
use Rattle.bootstore_state.specs.ScriptCode.{coded_script}
use Rattle.bootstore_state.specs.contracts.frame.FrameKind as kind_type
use Rattle.bootstore_state.specs.contracts.frame.At as at_type
use Rattle.text.specs.TextsShown.{bytes_of_words}
use Rattle.hushlang.specs.Tree.{Script}
use Rattle.rehearse_terms.specs.State.{LoggedCommand}
use Rattle.bootstore_state.specs.declared.frame.FrameKind.{FrameKind}
use Rattle.bootstore_state.specs.declared.frame.At.{At}

-- a text of any bytes
abbrev pub Bytes : Type 0
Bytes = List ℕ

-- values by name, in byte order of the names
abbrev pub Variables : Type 0
Variables = FinMap (slice_cmp nat_cmp) Bytes

-- the variables that pairs of a name and a value make, each set in turn
abbrev pub set_in_turn : Variables → List (Bytes × Bytes) → Variables
set_in_turn variables [] = variables
set_in_turn variables (pair ∷ pairs) = set_in_turn (insert variables pair.0 pair.1) pairs

abbrev pub environment_of : List (Bytes × Bytes) → Variables
environment_of pairs = set_in_turn empty pairs

-- a script that is running: what it says, the fields of its `for`, the names of its `run` or the name of its file, and the
-- place that it has reached
pub record RunningFrame : Type 0 where
  pub kind : FrameKind
  pub script : Script
  pub words : List Bytes
  pub place : At

-- the state of a run, and its frames, the innermost first; its text is there if it is kept
pub record Moment : Type 0 where
  pub environment : Variables
  pub locals : Variables
  pub status : ℕ
  pub text : Option Bytes
  pub log : List LoggedCommand
  pub steps : ℕ
  pub frames : List RunningFrame

-- the words that a frame shares, if it has any
abbrev pub shared_words : Option (Rc (Vec (Vec ℕ Global) Global) Global) → List Bytes
shared_words None = []
shared_words (Some words) = bytes_of_words words.value.items

-- how many bytes of a text are kept
abbrev pub text_length : Option Bytes → ℕ
text_length None = 0
text_length (Some text) = length text

-- the first so many of them
abbrev pub text_front : (count : ℕ) → Option Bytes → Option Bytes
text_front count text = option_map (take count) text

-- how the logic stores a frame
abbrev pub coded_frame : Coded RunningFrame
coded_frame =
    code_by (FrameKind × (Script × (List Bytes × At)))
    (coded× kind_type.the_row.coded
    (coded× coded_script (coded× (coded_list (coded_list coded_ℕ)) at_type.the_row.coded)))
    (λ f. (f.kind, (f.script, (f.words, f.place))))
    (λ p. record { kind = p.0; script = p.1.0; words = p.1.1.0; place = p.1.1.1 }) (λ _. refl)
