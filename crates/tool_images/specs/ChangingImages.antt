-- What a change of an image answers.
use Rattle.std.specs.Prelude.{◌≡◌, ◌⊎◌, ℕ, nat_lt, not, true, List, map, Option, None, Some, Result, Ok, Err, Vec, if◌then◌else◌}
use Rattle.std.specs.declared.alloc.Global.{Global}
use Rattle.envimage.specs.Data.{Pair, pairs_of}
use Rattle.envimage.specs.Encoding.{needed}
use Rattle.envimage.specs.Image.{LoadedShown, is_right, load_of}
use Rattle.envimage.specs.declared.image.ByteOrder.{ByteOrder}
use Rattle.envimage.specs.declared.image.ImageError.{ImageError}
use Rattle.envimage.specs.declared.image.ImageError.TheVariants.{TooLarge}
use Rattle.envimage.specs.declared.image.Which.{Which}
use Rattle.envimage.specs.declared.image.Which.TheVariants.{First, Second}
use Rattle.envtools.specs.Environment.{env_of, changed, is_name, are_values}
use Rattle.envtools.specs.Saving.{size_of, next_flag, copy_to_write, half_written, saved_image}
use Rattle.envtools.specs.Scripting.{Reached, scripted}
use Rattle.envtools.specs.declared.env_error.EnvError.TheVariants.{BadName, BadValue}
use Rattle.envtools.specs.declared.script.ScriptError.{ScriptError}
use Rattle.tool_images.specs.Errors.{script_fault}
use Rattle.tool_images.specs.declared.change.Edit.{Edit}
use Rattle.tool_images.specs.declared.change.Edit.TheVariants as edit
use Rattle.tool_images.specs.declared.error.ToolError.{ToolError}
use Rattle.tool_images.specs.declared.error.ToolError.TheVariants.{Image, Env, Script, Memory}

abbrev pub one_edited : List Pair → List ℕ → List (List ℕ) → Result (List Pair) ToolError
one_edited env name words =
    if not (is_name name) then Err (Env BadName)
    else (if not (are_values words) then Err (Env BadValue) else Ok (changed env name words))

abbrev pub all_edited : Reached → Result (List Pair) ToolError
all_edited reached = by reached.fault
  where
    by : Option ScriptError → Result (List Pair) ToolError
    by None = Ok reached.env
    by (Some fault) = Err (script_fault fault)

-- the environment after an edit, or its refusal
abbrev pub edited : List Pair → Edit → Result (List Pair) ToolError
edited env (edit.One name words) = one_edited env name.now (map (λ w. w.now) words.now)
edited env (edit.Script text) = all_edited (scripted env text.now)

-- which copy is written, and its bytes
abbrev pub written : LoadedShown → List Pair → Result (Which × List ℕ) ToolError
written loaded env =
    if nat_lt (size_of loaded) (needed (next_flag loaded.flag) env) then Err (Image TooLarge)
    else Ok (copy_to_write loaded, saved_image env loaded)

abbrev pub then_written : LoadedShown → Result (List Pair) ToolError → Result (Which × List ℕ) ToolError
then_written loaded (Ok env) = written loaded env
then_written loaded (Err e) = Err e

abbrev pub then_edited : Edit → Result LoadedShown ImageError → Result (Which × List ℕ) ToolError
then_edited change (Ok loaded) = then_written loaded (edited (env_of (pairs_of loaded.body)) change)
then_edited change (Err e) = Err (Image e)

-- what a change of an image answers: refusals of the image, the change, the size, in this order
abbrev pub set_of : ByteOrder → List ℕ → Option (List ℕ) → Edit → Result (Which × List ℕ) ToolError
set_of order first second change = then_edited change (load_of order first second)

-- ---- what the calls answer; memory can run out wherever a growth is made

abbrev pub Answers : Result LoadedShown ImageError → Result (Which × List ℕ) ToolError →
    Result (Which × Vec ℕ Global) ToolError → Type 0
Answers loaded answer (Ok w) = answer ≡ Ok (w.0, w.1.items)
Answers loaded answer (Err (Image e)) = answer ≡ Err (Image e)
Answers loaded answer (Err (Env e)) = answer ≡ Err (Env e)
Answers loaded answer (Err (Script e)) = answer ≡ Err (Script e)
Answers loaded answer (Err Memory) = (s : LoadedShown) × (loaded ≡ Ok s)
Answers loaded answer (Err _) = ⊥

-- ---- a write that breaks off

-- Of a pair: if the first n of the bytes are written over the copy that they are for, loading gives what it gave
-- before, or that copy is right.
abbrev pub IsSafeAt : ByteOrder → (first second : List ℕ) → Which → (bytes : List ℕ) → ℕ → Type 0
IsSafeAt order first second First bytes n =
    (load_of order (half_written first n bytes) (Some second) ≡ load_of order first (Some second))
    ⊎ (is_right order 5 (half_written first n bytes) ≡ true)
IsSafeAt order first second Second bytes n =
    (load_of order first (Some (half_written second n bytes)) ≡ load_of order first (Some second))
    ⊎ (is_right order 5 (half_written second n bytes) ≡ true)

-- of a pair, this holds for each prefix of the bytes; a single image may be lost
abbrev pub IsSafe : ByteOrder → List ℕ → Option (List ℕ) → Which → List ℕ → Type 0
IsSafe order first None which bytes = Unit {0}
IsSafe order first (Some second) which bytes = (n : ℕ) → IsSafeAt order first second which bytes n
