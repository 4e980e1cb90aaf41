-- What the words ask for.
use Rattle.std.proofs.Common.{◌≡◌, ◌==◌, ℕ, Bool, true, false, not, refl, sym, subst, ◌∙◌, List, [], ◌∷◌, length, Option, Some, None, Ok, Err}
use Rattle.std.proofs.lemmas.Bool.{eqb-true}
use Rattle.std.proofs.lemmas.List.{length-map}
use Rattle.std.specs.Prelude.{Result, is_some, nat_lt, ◌||◌, option_and_then, option_map, if◌then◌else◌, ◌&&◌, codes, string_bytes}
use Rattle.std.specs.Option.{option_map_or}
use Rattle.std.specs.Str.{bytes_eq}
use Rattle.clap.specs.Words.{Row, Text, first_of, subcommand_of}
use Rattle.rehearse_terms.specs.Asking.{Alone, Listed, Wanted}
use Rattle.rehearse_terms.specs.declared.wanted.Page.{Page}
use Rattle.rehearse_terms.specs.Bounds.{BoundsShown, bounds_of, in_shell}
use Rattle.rehearse_terms.specs.declared.shell.Shell.{Shell}
use Rattle.tool_words.specs.CommandAnswers.{Answers, asked, meaning_of}
use Rattle.tool_words.specs.Called.{is_tool}
use Rattle.tool_words.specs.declared.ask.Taking.{Taking}
use Rattle.tool_words.specs.Asked.{Asked, Expected, asked_of, bad_value, booting, boots_asked, boots_by, boots_what, boots_with, bounds_asked, cause_bounds_asked, causes_asked, causes_with, causing, change_asked, ending, endings_asked, endings_with, expected_by, fill_of, has_no_folder, header_needs_one, image_asked, image_with, images_asked, input_scripted, inputs_asked, inspect_asked, inspecting, is_set, limits_asked, list_asked, listing_asked, lock_needs_folder, making_asked, named_values, needs_expect, number_within, numbers_asked, of_named, one_copy, order_of, origin_asked, page_asked, print_asked, print_form, printing, printing_asked, rehearsal_of, rehearsal_with, rehearse_asked, rehearsing, run_bounds_asked, script_asked, scripted, set_asked, setting, shell_of, size_of, too_many_devices, values_of, variable_of, wanted_by, word_alone, word_asked}
use Rattle.tool_words.specs.CommandLine.{most_failures, ubtool}
use Rattle.tool_words.specs.declared.ask.OriginError.{OriginError}
use Rattle.tool_words.specs.declared.called.CalledAs.{CalledAs}
use Rattle.tool_words.specs.declared.ask.Ask.{Ask}
use Rattle.tool_words.specs.declared.ask.Ask.TheVariants.{Boots, Causes, Endings, Help, Image, Inspect, Print, Rehearse, Setenv, Version}
use Rattle.ubtool.specs.Performing.{IsComplete}

-- a value without its name is asked for only with one name
abbrev IsFit : Option Asked → Type 0
IsFit (Some (printing origin form names order one_copy)) = form.header ≡ false → length names ≡ 1
IsFit asked = Unit {0}

either : (b : Bool) (x y : Option Asked) → IsFit x → IsFit y → IsFit (if b then x else y)
either true x y first second = first
either false x y first second = second

either-asked : (b : Bool) (x y : Asked) → IsFit (Some x) → IsFit (Some y) → IsFit (Some (if b then x else y))
either-asked true x y first second = first
either-asked false x y first second = second

found-fit : {X : Type 0} (found : Option X) (what : X → Option Asked) → ((x : X) → IsFit (what x)) → IsFit (option_and_then what found)
found-fit None what fit = tt
found-fit (Some x) what fit = fit x

-- of what is named, or refused for the words that name it
named-fit : {T : Type 0} (named : Result T OriginError) (what : T → Asked) → ((it : T) → IsFit (Some (what it))) → IsFit (Some (of_named named what))
named-fit (Ok it) what fit = fit it
named-fit (Err error) what fit = tt

print-fit : (header one : Bool) (what : Asked) → (one ≡ true → IsFit (Some what)) → (header ≡ true → IsFit (Some what))
    → IsFit (Some (if not header && not one then header_needs_one else what))
print-fit false true what of-one of-header = of-one refl
print-fit false false what of-one of-header = tt
print-fit true one what of-one of-header = of-header refl

set-fit : (called : CalledAs) (script name : Option Text) (rows : List Row) → IsFit (Some (change_asked called script name rows))
set-fit called (Some script) None rows =
    named-fit (images_asked rows) (λ origin. script_asked called script origin (order_of rows) (one_copy rows))
    (λ origin. either-asked (is_tool called && bytes_eq script (codes "-")) (input_scripted origin (order_of rows) (one_copy rows)) (scripted origin script (order_of rows) (one_copy rows)) tt tt)
set-fit called (Some script) (Some name) rows = tt
set-fit called None (Some name) rows =
    named-fit (images_asked rows) (λ origin. setting origin name (values_of (codes "values") rows) (order_of rows) (one_copy rows)) (λ origin. tt)
set-fit called None None rows = tt

rehearsal-fit : (list : Text × Taking) (shell : Shell) (rows : List Row) (within : BoundsShown × Wanted) → IsFit (Some (rehearsal_of list shell rows (Ok within)))
rehearsal-fit list shell rows within = named-fit (inputs_asked list.0 list.1 rows) (λ inputs. rehearsing inputs (record {
  variable = variable_of rows;
  bounds = in_shell shell within.0;
  wanted = within.1;
  names = values_of (codes "names") rows;
}) (order_of rows)) (λ inputs. tt)

listing-fit : (list : Text × Taking) (shell : Shell) (rows : List Row) (after : Option Text) (page : Page) (narrow : Option BoundsShown)
    → IsFit (Some (rehearsal_of list shell rows (elim narrow [ Some within ↦ Ok (within, Listed after page) | None ↦ Err too_many_devices ])))
listing-fit list shell rows after page (Some within) = rehearsal-fit list shell rows (within, Listed after page)
listing-fit list shell rows after page None = tt

narrow-fit : (list : Text × Taking) (shell : Shell) (rows : List Row) (after : Option Text) (page : Page) (failures : Option ℕ) (bounds : Option BoundsShown) → IsFit (option_map (rehearsal_of list shell rows) (option_map (listing_asked after page failures) bounds))
narrow-fit list shell rows after page failures (Some bounds) = listing-fit list shell rows after page (bounds_of bounds.devices bounds.steps failures)
narrow-fit list shell rows after page failures None = tt

word-fit : (list : Text × Taking) (shell : Shell) (rows : List Row) (word : Text) (bounds : BoundsShown) (beside : Bool) → IsFit (Some (rehearsal_of list shell rows (if beside then Err word_alone else Ok (bounds, Alone word))))
word-fit list shell rows word bounds true = tt
word-fit list shell rows word bounds false = rehearsal-fit list shell rows (bounds, Alone word)

wide-fit : (list : Text × Taking) (shell : Shell) (rows : List Row) (word : Text) (after : Option Text) (page : Page) (failures : Option ℕ) (bounds : Option BoundsShown) → IsFit (option_map (rehearsal_of list shell rows) (option_map (word_asked word after page failures) bounds))
wide-fit list shell rows word after page failures (Some bounds) = word-fit list shell rows word bounds (is_some after || is_some page.limit || is_some failures)
wide-fit list shell rows word after page failures None = tt

wanted-fit : (list : Text × Taking) (shell : Shell) (word after : Option Text) (page : Page) (failures : Option ℕ) (rows : List Row) → IsFit (option_map (rehearsal_of list shell rows) (wanted_by word after page failures rows))
wanted-fit list shell None after page failures rows = narrow-fit list shell rows after page failures (bounds_asked rows)
wanted-fit list shell (Some word) after page failures rows = wide-fit list shell rows word after page failures (run_bounds_asked rows)

rehearse-fit : (list : Option (Text × Taking)) (page : Option Page) (failures : Option (Option ℕ)) (shell : Shell) (rows : List Row) → IsFit (rehearsal_with list page failures shell rows)
rehearse-fit (Some list) (Some page) (Some failures) shell rows = wanted-fit list shell (first_of (codes "word") rows) (first_of (codes "after") rows) page failures rows
rehearse-fit None page failures shell rows = tt
rehearse-fit (Some list) None failures shell rows = tt
rehearse-fit (Some list) (Some page) None shell rows = tt

endings-fit : (list : Option (Text × Taking)) (bounds : Option BoundsShown) (limits : _) (shell : Shell) (rows : List Row) → IsFit (endings_with list bounds limits shell rows)
endings-fit (Some list) (Some bounds) (Some limits) shell rows = named-fit (inputs_asked list.0 list.1 rows) (λ inputs. ending inputs (record {
  variable = variable_of rows;
  bounds = in_shell shell bounds;
  states = limits.states;
  work = limits.work;
  memory = limits.memory;
  names = values_of (codes "names") rows;
  flow = is_set (codes "flow") rows;
}) (order_of rows)) (λ inputs. tt)
endings-fit None bounds limits shell rows = tt
endings-fit (Some list) None limits shell rows = tt
endings-fit (Some list) (Some bounds) None shell rows = tt

followed-fit : (list : Text × Taking) (bounds : BoundsShown) (limits : _) (numbers : _) (shell : Shell) (rows : List Row) (expected : Option Expected) → IsFit (Some (boots_by list bounds limits numbers shell rows (Ok expected)))
followed-fit list bounds limits numbers shell rows expected =
    named-fit (inputs_asked list.0 list.1 rows) (λ inputs. booting inputs (boots_what (in_shell shell bounds) limits numbers expected rows) (order_of rows)) (λ inputs. tt)

valued-fit : (list : Text × Taking) (bounds : BoundsShown) (limits : _) (numbers : _) (shell : Shell) (rows : List Row) (word : Text) (within : Option ℕ) (values : Option (List (Text × Text)))
    → IsFit (Some (boots_by list bounds limits numbers shell rows (option_map_or (λ values. Ok (Some (record { ending = word; within = within; values = values }))) values (Err bad_value))))
valued-fit list bounds limits numbers shell rows word within (Some values) = followed-fit list bounds limits numbers shell rows (Some (record { ending = word; within = within; values = values }))
valued-fit list bounds limits numbers shell rows word within None = tt

alone-fit : (list : Text × Taking) (bounds : BoundsShown) (limits : _) (numbers : _) (shell : Shell) (rows : List Row) (beside : Bool) → IsFit (Some (boots_by list bounds limits numbers shell rows (if beside then Err needs_expect else Ok None)))
alone-fit list bounds limits numbers shell rows true = tt
alone-fit list bounds limits numbers shell rows false = followed-fit list bounds limits numbers shell rows None

expected-fit : (list : Text × Taking) (bounds : BoundsShown) (limits : _) (numbers : _) (shell : Shell) (rows : List Row) (word : Option Text) (within : Option ℕ) (said : List Text)
    → IsFit (Some (boots_by list bounds limits numbers shell rows (expected_by word within said)))
expected-fit list bounds limits numbers shell rows None within said = alone-fit list bounds limits numbers shell rows (is_some within || nat_lt 0 (length said))
expected-fit list bounds limits numbers shell rows (Some []) within said = tt
expected-fit list bounds limits numbers shell rows (Some (b ∷ word)) within said = valued-fit list bounds limits numbers shell rows (b ∷ word) within (named_values said)

boots-fit : (list : Option (Text × Taking)) (bounds : Option BoundsShown) (limits : _) (numbers : _) (shell : Shell) (rows : List Row) → IsFit (boots_with list bounds limits numbers shell rows)
boots-fit (Some list) (Some bounds) (Some limits) (Some numbers) shell rows = expected-fit list bounds limits numbers shell rows (first_of (codes "expect") rows) numbers.within (values_of (codes "expect-var") rows)
boots-fit None bounds limits numbers shell rows = tt
boots-fit (Some list) None limits numbers shell rows = tt
boots-fit (Some list) (Some bounds) None numbers shell rows = tt
boots-fit (Some list) (Some bounds) (Some limits) None shell rows = tt

causes-fit : (list : Option (Text × Taking)) (bounds : Option BoundsShown) (shell : Shell) (rows : List Row) → IsFit (causes_with list bounds shell rows)
causes-fit (Some list) (Some bounds) shell rows = named-fit (inputs_asked list.0 list.1 rows) (λ inputs. causing inputs (record {
  variable = variable_of rows;
  bounds = in_shell shell bounds;
  check = is_set (codes "check") rows;
}) (order_of rows)) (λ inputs. tt)
causes-fit None bounds shell rows = tt
causes-fit (Some list) None shell rows = tt

making-fit : (text output : Text) (size fill : Option ℕ) (rows : List Row) → IsFit (Some (making_asked text output size fill rows))
making-fit text output None fill rows = tt
making-fit text output (Some size) None rows = tt
making-fit text output (Some size) (Some fill) rows = tt

image-fit : (text output : Option Text) (size : Option (Option ℕ)) (rows : List Row) → IsFit (image_with text output size rows)
image-fit (Some text) (Some output) (Some size) rows = making-fit text output size (fill_of rows) rows
image-fit None output size rows = tt
image-fit (Some text) None size rows = tt
image-fit (Some text) (Some output) None rows = tt

asked-fit : (called : CalledAs) (words : List Text) → IsFit (asked called words)
asked-fit called words = found-fit (subcommand_of ubtool words) (λ s. asked_of called s.0 s.1) (λ s. of s.0 s.1)
  where
    of : (name : Text) (rows : List Row) → IsFit (asked_of called name rows)
    of name rows =
        let names = values_of (codes "names") rows in
        let printed = either-asked (has_no_folder rows) lock_needs_folder (printing_asked rows) tt
        (print-fit (not (is_set (codes "noheader") rows)) (length names == 1) (of_named (origin_asked rows) (λ origin. printing origin (print_form rows) names (order_of rows) (one_copy rows)))
        (λ e. named-fit (origin_asked rows) (λ origin. printing origin (print_form rows) names (order_of rows) (one_copy rows)) (λ origin h. eqb-true (length names) 1 e))
        (λ is. named-fit (origin_asked rows) (λ origin. printing origin (print_form rows) names (order_of rows) (one_copy rows)) (λ origin h. let none : ⊥ = cc in absurd none))) in
        let set = either-asked (has_no_folder rows) lock_needs_folder (change_asked called (first_of (codes "script") rows) (first_of (codes "name") rows) rows) tt
        (set-fit called (first_of (codes "script") rows) (first_of (codes "name") rows) rows) in
        let list = list_asked rows in
        let failures = number_within 0 most_failures (codes "failures") rows in
        let limits = limits_asked rows in
        let numbers = numbers_asked rows in
        let rehearsed = found-fit (shell_of rows) (λ shell. rehearsal_with list (page_asked rows) failures shell rows)
        (λ shell. rehearse-fit list (page_asked rows) failures shell rows) in
        let ended = found-fit (shell_of rows) (λ shell. endings_with list (run_bounds_asked rows) limits shell rows)
        (λ shell. endings-fit list (run_bounds_asked rows) limits shell rows) in
        let booted = found-fit (shell_of rows) (λ shell. boots_with list (run_bounds_asked rows) limits numbers shell rows)
        (λ shell. boots-fit list (run_bounds_asked rows) limits numbers shell rows) in
        let caused = found-fit (shell_of rows) (λ shell. causes_with list (cause_bounds_asked rows) shell rows)
        (λ shell. causes-fit list (cause_bounds_asked rows) shell rows) in
        let made = image-fit (first_of (codes "text") rows) (first_of (codes "output") rows) (size_of rows) rows in
        let inspected = named-fit (images_asked rows) (λ origin. inspecting origin (order_of rows)) (λ origin. tt) in
        let final : Option Asked = if bytes_eq name (codes "inspect") then Some (inspect_asked rows) else None in
        let last : Option Asked = if bytes_eq name (codes "image") then image_asked rows else final in
        let one : Option Asked = if bytes_eq name (codes "causes") then causes_asked rows else last in
        let two : Option Asked = if bytes_eq name (codes "boots") then boots_asked rows else one in
        let three : Option Asked = if bytes_eq name (codes "endings") then endings_asked rows else two in
        let four : Option Asked = if bytes_eq name (codes "rehearse") then rehearse_asked rows else three in
        let five : Option Asked = if bytes_eq name (codes "setenv") then Some (set_asked called rows) else four in
        let final-fit = either (bytes_eq name (codes "inspect")) (Some (inspect_asked rows)) None inspected tt in
        let last-fit = either (bytes_eq name (codes "image")) (image_asked rows) final made final-fit in
        let one-fit = either (bytes_eq name (codes "causes")) (causes_asked rows) last caused last-fit in
        let two-fit = either (bytes_eq name (codes "boots")) (boots_asked rows) one booted one-fit in
        let three-fit = either (bytes_eq name (codes "endings")) (endings_asked rows) two ended two-fit in
        let four-fit = either (bytes_eq name (codes "rehearse")) (rehearse_asked rows) three rehearsed three-fit in
        let five-fit = either (bytes_eq name (codes "setenv")) (Some (set_asked called rows)) four set four-fit in
        either (bytes_eq name (codes "printenv")) (Some (print_asked rows)) five printed five-fit

-- what was asked for is complete
pub answer-complete : (called : CalledAs) (words : List Text) (ask : Ask) → Answers called words (Ok ask) → IsComplete ask
answer-complete called words (Print origin what order one_copy) h =
    let fit : IsFit (meaning_of (Print origin what order one_copy)) = subst IsFit (sym h.1) (asked-fit called words) in
    λ none. sym (length-map what.names.items string_bytes) ∙ fit none
answer-complete called words (Setenv origin change order one_copy) h = tt
answer-complete called words (Rehearse inputs what order) h = tt
answer-complete called words (Endings inputs what order) h = tt
answer-complete called words (Boots inputs what order) h = tt
answer-complete called words (Causes inputs what order) h = tt
answer-complete called words (Image text output what) h = tt
answer-complete called words (Inspect origin order) h = tt
answer-complete called words (Help text) h = tt
answer-complete called words Version h = tt
