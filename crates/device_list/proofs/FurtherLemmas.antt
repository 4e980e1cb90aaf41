-- Lines `or`, which go on from the last line of calls.
use Rattle.std.proofs.Common.{◌≡◌, ℕ, ◌-◌, Bool, true, cond, List, [], ◌∷◌, ◌++◌, map, length, Option, Some, None, Vec, Global, refl, sym, ap, ◌∙◌}
use Rattle.std.specs.Option.{option_map}
use Rattle.std.specs.List.{slice_get}
use Rattle.std.specs.Str.{bytes_eq}
use Rattle.std.specs.Map.{lookup, set_value}
use Rattle.std.proofs.lemmas.List.{length-map, map-append}
use Rattle.std.proofs.lemmas.Option.{slice_get-map}
use Rattle.text.specs.Lines.{Text}
use Rattle.commands.specs.TextsShown.{texts}
use Rattle.device_list.specs.Settings.{Effect}
use Rattle.device_list.specs.CallLines.{Pattern, is_continued, with_further, last_of, further_line, further_lines}
use Rattle.device_list.specs.DeviceList.{further_of}
use Rattle.device_list.specs.DevicesShown.{Bytes, pattern_shown}
use Rattle.device_list.specs.CommandsShown.{line_shown, lines_shown, listed_shown, calls_shown, IsFurther}
use Rattle.device_list.specs.declared.call_line.CallLine.{CallLine}
use Rattle.device_list.proofs.MapLemmas.{is_key, looked_up, set-table}

abbrev Line : Type 0
Line = Pattern × Effect

abbrev FurtherLines : Type 0
FurtherLines = Option (List Line × Text)

-- ---- the last line

abbrev behind_lines : List Line → Option (Line × Text) → FurtherLines
behind_lines front = option_map (λ one. (front ++ one.0 ∷ [], one.1))

abbrev onto : Line → FurtherLines → FurtherLines
onto line = option_map (λ more. (line ∷ more.0, more.1))

onto-behind : (line : Line) (front : List Line) (o : Option (Line × Text)) → onto line (behind_lines front o) ≡ behind_lines (line ∷ front) o
onto-behind line front None = refl
onto-behind line front (Some one) = refl

onto-lines : (line : Line) (front : List Line) (last further : Line) → further_lines (line ∷ front ++ last ∷ []) further ≡ onto line (further_lines (front ++ last ∷ []) further)
onto-lines line [] last further = refl
onto-lines line (next ∷ front) last further = refl

further-last : (front : List Line) (last further : Line) → further_lines (front ++ last ∷ []) further ≡ behind_lines front (further_line last further)
further-last [] last further = refl
further-last (line ∷ front) last further =
    onto-lines line front last further ∙ ap (onto line) (further-last front last further) ∙ onto-behind line front (further_line last further)

pub further-lines : (front : List CallLine) (last next further : CallLine) (found : Option Bytes) → IsFurther (further_line (line_shown last) (line_shown further)) (line_shown next) found
    → IsFurther (further_lines (map line_shown (front ++ last ∷ [])) (line_shown further)) (map line_shown (front ++ next ∷ [])) found
further-lines front last next further found e = by found e
  where
    here : further_lines (map line_shown (front ++ last ∷ [])) (line_shown further) ≡ behind_lines (map line_shown front) (further_line (line_shown last) (line_shown further))
    here = ap (λ (ls : List Line). further_lines ls (line_shown further)) (map-append line_shown front (last ∷ [])) ∙ further-last (map line_shown front) (line_shown last) (line_shown further)

    by : (found : Option Bytes) → IsFurther (further_line (line_shown last) (line_shown further)) (line_shown next) found
        → IsFurther (further_lines (map line_shown (front ++ last ∷ [])) (line_shown further)) (map line_shown (front ++ next ∷ [])) found
    by None f = here ∙ ap (behind_lines (map line_shown front)) f
    by (Some file) f = here ∙ ap (behind_lines (map line_shown front)) f ∙ ap (λ (ls : List Line). let o : FurtherLines = Some (ls, file.items) in o) (sym (map-append line_shown front (next ∷ [])))

-- ---- the table

pub further-table : (es fs : List (Bytes × Vec CallLine Global)) (name : Text) (further : Line) (old new : Vec CallLine Global) (found : Option Bytes) → lookup (is_key name) es ≡ Some old → fs ≡ set_value (is_key name) es new
    → IsFurther (further_lines (lines_shown old) further) (lines_shown new) found → IsFurther (further_of (calls_shown es) name further (lookup (bytes_eq name) (calls_shown es))) (calls_shown fs) found
further-table es fs name further old new found there written e = by found e
  where
    Table : Type 0
    Table = List (Text × List Line)

    in_table : FurtherLines → Option (Table × Text)
    in_table = option_map (λ more. (set_value (bytes_eq name) (calls_shown es) more.0, more.1))

    here : further_of (calls_shown es) name further (lookup (bytes_eq name) (calls_shown es)) ≡ in_table (further_lines (lines_shown old) further)
    here = ap (further_of (calls_shown es) name further) (looked_up lines_shown es name (Some old) there)

    by : (found : Option Bytes) → IsFurther (further_lines (lines_shown old) further) (lines_shown new) found → IsFurther (further_of (calls_shown es) name further (lookup (bytes_eq name) (calls_shown es))) (calls_shown fs) found
    by None f = here ∙ ap in_table f
    by (Some file) f = here ∙ ap in_table f ∙ ap (λ (t : Table). let o : Option (Table × Text) = Some (t, file.items) in o) (sym (ap calls_shown written ∙ set-table lines_shown es name new))

-- ---- one line

last-text : (names : List Bytes) (last : Bytes) → slice_get names (length names - 1) ≡ Some last → last_of (texts names) ≡ Some last.items
last-text names last e =
    ap (λ (n : ℕ). slice_get (texts names) (n - 1)) (length-map names (λ (v : Bytes). v.items))
    ∙ slice_get-map (λ (v : Bytes). v.items) names (length names - 1)
    ∙ ap (option_map (λ (v : Bytes). v.items)) e

pub further-added : (line further : CallLine) (runs : Vec Bytes Global) (last before : Bytes) → is_continued (line_shown line) (line_shown further) ≡ true
    → slice_get line.listed.runs.items (length line.listed.runs.items - 1) ≡ Some last → before.items ≡ last.items → runs.items ≡ line.listed.runs.items ++ further.listed.runs.items
    → further_line (line_shown line) (line_shown further) ≡ Some (line_shown (record line { listed = record line.listed { runs = runs } }), before.items)
further-added line further runs last before goes found named added =
    let old : Effect = listed_shown line.listed in
    let with_runs : List Text → Line = λ files. (pattern_shown line.pattern, record old { runs = files }) in
    let all : texts runs.items ≡ old.runs ++ texts further.listed.runs.items =
    ap texts added ∙ map-append (λ (v : Bytes). v.items) line.listed.runs.items further.listed.runs.items in
    let file : last_of old.runs ≡ Some before.items = last-text line.listed.runs.items last found ∙ ap (λ (t : Text). let o : Option Text = Some t in o) (sym named) in
    ap (λ (b : Bool). let o : Option (Line × Text) = cond b (option_map (λ t. (with_further (line_shown line) (line_shown further), t)) (last_of old.runs)) None in o) goes
    ∙ ap (option_map (λ (t : Text). (with_further (line_shown line) (line_shown further), t))) file
    ∙ ap (λ (files : List Text). let o : Option (Line × Text) = Some (with_runs files, before.items) in o) (sym all)
