-- What is written of the lines of a check, which are written as it goes.
use Rattle.std.specs.Prelude.{Bool, List, [], Result, Ok, Err}
use Rattle.envimage.specs.Data.{Pair}
use Rattle.output.specs.Sink.{Sink, BrokeOff, Wrote}
use Rattle.output.specs.Outputs.{WroteFront}
use Rattle.hushcheck.specs.Names.{Text}
use Rattle.hushcheck.specs.Rules.{Rules}
use Rattle.envtools.specs.Printing.{all_found}
use Rattle.hushcheck.specs.Report.{BeginsNames, BeginsScript, BeginsTurns, ChecksNames, ChecksScript, TakesTurns}
use Rattle.hushcheck.specs.Unset.{Used}
use Rattle.hushcheck.specs.declared.check_error.CheckError.{CheckError}
use Rattle.hushcheck.specs.declared.check_error.CheckError.TheVariants.{Memory, Write}

-- The output broke off inside a text; or memory ran out, and the first bytes of the text were written.
abbrev pub Stops : CheckError → Sink → Sink → Text → Type 0
Stops Write old new text = BrokeOff old new text
Stops Memory old new text = WroteFront old new text

-- a text was written, or a part of it
abbrev pub Writes : {T : Type 0} → Result T CheckError → Sink → Sink → Text → Type 0
Writes (Ok done) old new text = Wrote old new text
Writes (Err error) old new text = Stops error old new text

-- What was written of what is reached, and what its texts use. Or the output failed, or memory ran out, within the lines
-- of the variables and files whose turn had come.
abbrev pub WritesTurns : Rules → List Pair → (before : List Used) → (asked called : List Text) → (so_far : Bool) →
    (used : List Used) → Result Bool CheckError → Sink → Sink → Type 0
WritesTurns rules env before asked called so_far used (Ok sound) old new =
    (told : Text) × TakesTurns rules env before asked called so_far told sound used × Wrote old new told
WritesTurns rules env before asked called so_far used (Err error) old new =
    (told : Text) × BeginsTurns rules env asked called told × Stops error old new told

-- What a check wrote: all lines, and whether all is well. Or the output failed, or memory ran out, within the lines of
-- the variables and files whose turn had come, or within all lines.
abbrev pub WritesNames : Rules → List Pair → (before : List Used) → (asked called : List Text) → (so_far : Bool) →
    Result Bool CheckError → Sink → Sink → Type 0
WritesNames rules env before asked called so_far (Ok sound) old new =
    (told : Text) × ChecksNames rules env before asked called so_far told sound × Wrote old new told
WritesNames rules env before asked called so_far (Err error) old new =
    (told : Text) × BeginsNames rules env before asked called told × Stops error old new told

-- the same where each name that is asked for has to be set
abbrev pub WritesCheck : Rules → List Pair → (asked : List Text) → Result Bool CheckError → Sink → Sink → Type 0
WritesCheck rules env asked answer old new = WritesNames rules env [] asked [] (all_found env asked) answer old new

-- the same of a script, and of the names after it
abbrev pub WritesScript : Rules → List Pair → (name text : Text) → (asked : List Text) → Result Bool CheckError → Sink → Sink →
    Type 0
WritesScript rules env name text asked (Ok sound) old new =
    (told : Text) × ChecksScript rules env name text asked told sound × Wrote old new told
WritesScript rules env name text asked (Err error) old new =
    (told : Text) × BeginsScript rules env name text asked told × Stops error old new told
