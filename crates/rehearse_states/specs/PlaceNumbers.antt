-- The number under which a table keeps a place: equal places have equal numbers. Ours.
use Rattle.std.specs.Prelude.{ℕ, suc, ◌*◌, ◌%◌, ◌^◌, bit_xor, List, length, reverse}
use Rattle.std.specs.List.{fold}
use Rattle.text.specs.Lines.{Text}
use Rattle.bootstore_state.specs.Moment.{RunningFrame}
use Rattle.hushlang.specs.Tree.{Piece, Bytes, Mark, Var, Status, Word, Script, Empty, Runs, AndOr, Starts, Joined, Alone, Joins, Command, Simple, Assign, If, Loop, For}

-- a number with one more part, as in the hash FNV-1a, with 64 bits to a part
abbrev pub mixed : ℕ → (part : ℕ) → ℕ
mixed number part = (bit_xor number part * 0x100000001b3) % 2 ^ 64

-- a number with how many parts there are, and each part
abbrev pub mixed_all : {A : Type 0} → (ℕ → A → ℕ) → ℕ → (parts : List A) → ℕ
mixed_all add number parts = fold add (mixed number (length parts)) parts

abbrev pub mixed_text : ℕ → Text → ℕ
mixed_text = mixed_all mixed

abbrev pub mixed_words : ℕ → List Text → ℕ
mixed_words = mixed_all mixed_text

-- ---- what is written in a script

abbrev pub mixed_piece : ℕ → Piece → ℕ
mixed_piece number (Bytes text) = mixed_text number text
mixed_piece number (Var name split) = mixed_text number name
mixed_piece number Mark = number
mixed_piece number Status = number

abbrev pub mixed_word : ℕ → Word → ℕ
mixed_word = mixed_all mixed_piece

abbrev pub mixed_written : ℕ → List Word → ℕ
mixed_written = mixed_all mixed_word

abbrev pub mixed_value : ℕ → List ℕ × Word → ℕ
mixed_value number value = mixed_word number value.1

abbrev pub mixed_command : ℕ → Command → ℕ
mixed_command number (Simple words) = mixed_written number words
mixed_command number (Assign values) = fold mixed_value number values
mixed_command number (If arms) = number
mixed_command number (Loop until cond body) = number
mixed_command number (For name words body) = mixed_written number words

abbrev pub how_many_joined : Joined → ℕ
how_many_joined Alone = 0
how_many_joined (Joins op command rest) = suc (how_many_joined rest)

abbrev pub how_many_lists : Script → ℕ
how_many_lists Empty = 0
how_many_lists (Runs list more) = suc (how_many_lists more)

-- a list: how many commands are joined to the first one, and what that says
abbrev pub mixed_list : ℕ → AndOr → ℕ
mixed_list number (Starts first rest) = mixed_command (mixed number (how_many_joined rest)) first

abbrev pub mixed_first : ℕ → Script → ℕ
mixed_first number Empty = number
mixed_first number (Runs list more) = mixed_list number list

-- a script: how many lists it has, and the first of them
abbrev pub mixed_script : ℕ → Script → ℕ
mixed_script number script = mixed_first (mixed number (how_many_lists script)) script

-- ---- where a run is

-- the place that a frame has reached, what it runs, and its words
abbrev pub mixed_frame : ℕ → RunningFrame → ℕ
mixed_frame number frame =
    let reached = mixed (mixed (mixed number frame.place.list) frame.place.command) frame.place.turn in
    mixed_words (mixed_script reached frame.script) frame.words

-- the number of a place, of which the innermost frame comes first
abbrev pub place_number : List RunningFrame → ℕ
place_number frames = fold mixed_frame 0xcbf29ce484222325 (reverse frames)
