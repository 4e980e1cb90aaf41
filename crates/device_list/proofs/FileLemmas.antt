-- Lists that name no file: which files there are changes nothing.
use Rattle.std.proofs.Common.{◌≡◌, ℕ, Bool, true, false, cond, List, [], ◌∷◌, ◌++◌, Option, Some, None, Result, Ok, Err, codes, length, nat_eq, not, ◌==◌, take, drop, ◌+◌, refl, sym, ap, subst, ◌∙◌}
use Rattle.std.specs.Str.{bytes_eq}
use Rattle.std.specs.List.{list_any, position}
use Rattle.std.specs.Option.{option_map}
use Rattle.text.specs.Lines.{Text, numbered_lines}
use Rattle.text.specs.Words.{has_nul}
use Rattle.device_list.specs.declared.clauses.Awaited.{Awaited}
use Rattle.device_list.specs.declared.clauses.Awaited.TheVariants.{Clause, Status, Name, FirstWord, Expected, File, Import}
use Rattle.device_list.specs.declared.devices_error.DevicesError.{DevicesError}
use Rattle.device_list.specs.declared.devices_error.DevicesError.TheVariants.{BadLine, ByteOrderMark}
use Rattle.device_list.specs.Settings.{LeftSide, RightSide, Literal, Setting, at_side, both_sides, call_setting, plain_side, right_side, size_of, sized_file, value_of_word, word_of_call}
use Rattle.device_list.specs.Finishes.{finish_named}
use Rattle.device_list.specs.declared.finish.BoardEnd.{BoardEnd}
use Rattle.device_list.specs.Quotes.{unquoted}
use Rattle.text.specs.Words.{is_equals}
use Rattle.device_list.specs.CallLines.{Clauses, Call, Files, Pattern, has_answer, is_decided, is_plain, is_saving, with_saving, once, with_finish, with_first_word, with_needed, with_new, with_setting, no_clause, pattern_of, taken, with_clause, clauses_of, call_with, call_between, call_parts, call_line, call_said, words_said, is_call, is_of_test, has_quote, lacks_colon, colon_place}
use Rattle.device_list.specs.DeviceList.{Effect, Devices, DeviceLine, only, with_files, with_known, after_known, is_or, further_in, goes_on, with_or, after_call, after_words, after_line, listed_lines, joined_by, device_words, begins_comment, known_named, is_steady_test, line_of, heading_of, most_choices, with_choice}
use Rattle.device_list.specs.DeviceLaws.{FilesChangeNothing}
use Rattle.device_list.proofs.JoinedLines.{ok-same}
use Rattle.device_list.proofs.MarkLemmas.{unmarked, lines_of}

module _ (files : Files) where
  -- ---- what a line of calls says

  at-same : (which : Text) (right : RightSide) → at_side [] which ≡ Some right → at_side files which ≡ Some right
  at-same which right e = by (sized_file which) e
    where
      by : (o : Option Text) → elim o [ Some name ↦ size_of [] name | None ↦ option_map value_of_word (word_of_call which) ] ≡ Some right
          → elim o [ Some name ↦ size_of files name | None ↦ option_map value_of_word (word_of_call which) ] ≡ Some right
      by None f = f
      by (Some name) f = absurd (let g = f in cc)

  right-same : (value : Text) (right : RightSide) → right_side [] value ≡ Some right → right_side files value ≡ Some right
  right-same [] right e = e
  right-same (b ∷ bytes) right e = by (bytes_eq (b ∷ []) (codes "@")) e
    where
      by : (word : Bool) → cond word (at_side [] bytes) (option_map Literal (unquoted (b ∷ bytes))) ≡ Some right → cond word (at_side files bytes) (option_map Literal (unquoted (b ∷ bytes))) ≡ Some right
      by true f = at-same bytes right f
      by false f = f

  both-same : (left : Option LeftSide) (value : Text) (set : Setting) → both_sides left (right_side [] value) ≡ Some set → both_sides left (right_side files value) ≡ Some set
  both-same None value set e = absurd (let f = e in cc)
  both-same (Some left) value set e = by (right_side [] value) refl e
    where
      by : (o : Option RightSide) → right_side [] value ≡ o → option_map (λ v. (left, v)) o ≡ Some set → option_map (λ v. (left, v)) (right_side files value) ≡ Some set
      by None is f = absurd (let g = f in cc)
      by (Some right) is f = ap (option_map (λ (v : RightSide). (left, v))) (right-same value right is) ∙ f

  setting-same : (word : Text) (set : Setting) → call_setting [] word ≡ Some set → call_setting files word ≡ Some set
  setting-same word set e = by (position is_equals word) e
    where
      of : Files → Option ℕ → Option Setting
      of given o = elim o [ None ↦ None | Some at ↦ both_sides (plain_side (take at word)) (right_side given (drop (at + 1) word)) ]

      by : (o : Option ℕ) → of [] o ≡ Some set → of files o ≡ Some set
      by None f = absurd (let g = f in cc)
      by (Some at) f = both-same (plain_side (take at word)) (drop (at + 1) word) set f

  finish-same : (clauses : Clauses) (finish : Option BoardEnd) (word : Text) (next : Clauses) → with_finish [] clauses finish word ≡ Some next → with_finish files clauses finish word ≡ Some next
  finish-same clauses (Some finish) word next e = e
  finish-same clauses None word next e = by (call_setting [] word) refl e
    where
      by : (o : Option Setting) → call_setting [] word ≡ o → with_setting clauses o ≡ Some next → with_setting clauses (call_setting files word) ≡ Some next
      by None is f = absurd (let g = f in cc)
      by (Some set) is f = ap (with_setting clauses) (setting-same word set is) ∙ f

  new-same : (clauses : Clauses) (word : Text) (next : Clauses) → with_new [] clauses word ≡ Some next → with_new files clauses word ≡ Some next
  new-same clauses word next e =
      by (bytes_eq word (codes "steady")) (bytes_eq word (codes "always")) (bytes_eq word (codes "normal")) (bytes_eq word (codes "runs")) (bytes_eq word (codes "imports")) (bytes_eq word (codes "saves")) (bytes_eq word (codes "needs")) e
    where
      new : Files → (a b c d f s g : Bool) → Option Clauses
      new given a b c d f s g =
          cond a (once clauses.effect.stays (record clauses { effect = record clauses.effect { stays = true } }))
          (cond b (once (has_answer clauses.effect) (record clauses { awaited = Status }))
          (cond c (once (has_answer clauses.effect) (record clauses { awaited = Expected }))
          (cond d (once (is_decided clauses.effect) (record clauses { awaited = File }))
          (cond f (Some (record clauses { awaited = Import }))
          (cond s (once (list_any is_saving clauses.effect.sets) (with_saving clauses))
          (cond g (once (not (length clauses.effect.needs == 0)) (record clauses { awaited = Name })) (with_finish given clauses (finish_named word) word)))))))

      by : (a b c d f s g : Bool) → new [] a b c d f s g ≡ Some next → new files a b c d f s g ≡ Some next
      by true b c d f s g h = h
      by false true c d f s g h = h
      by false false true d f s g h = h
      by false false false true f s g h = h
      by false false false false true s g h = h
      by false false false false false true g h = h
      by false false false false false false true h = h
      by false false false false false false false h = finish-same clauses (finish_named word) word next h

  first-same : (clauses : Clauses) (word : Text) (next : Clauses) → with_first_word [] clauses word ≡ Some next → with_first_word files clauses word ≡ Some next
  first-same clauses word next e = by (is_plain word) e
    where
      by : (plain : Bool) → cond plain (Some (with_needed clauses word Clause)) (with_new [] (record clauses { awaited = Clause }) word) ≡ Some next
          → cond plain (Some (with_needed clauses word Clause)) (with_new files (record clauses { awaited = Clause }) word) ≡ Some next
      by true f = f
      by false f = new-same (record clauses { awaited = Clause }) word next f

  taken-same : (awaited : Awaited) (clauses : Clauses) (word : Text) (next : Clauses) → taken [] awaited clauses word ≡ Some next → taken files awaited clauses word ≡ Some next
  taken-same Clause clauses word next e = new-same clauses word next e
  taken-same Status clauses word next e = e
  taken-same Name clauses word next e = e
  taken-same FirstWord clauses word next e = first-same clauses word next e
  taken-same Expected clauses word next e = e
  taken-same File clauses word next e = absurd (let f = e in cc)
  taken-same Import clauses word next e = absurd (let f = e in cc)

  abbrev then_more : Files → List Text → Option Clauses → Option Clauses
  then_more given words o = elim o [ None ↦ None | Some next ↦ clauses_of given next words ]

  clauses-same : (clauses : Clauses) (words : List Text) (all : Clauses) → clauses_of [] clauses words ≡ Some all → clauses_of files clauses words ≡ Some all
  clauses-same clauses [] all e = e
  clauses-same clauses (word ∷ words) all e = by (with_clause [] clauses word) refl e (λ next. clauses-same next words all)
    where
      by : (o : Option Clauses) → with_clause [] clauses word ≡ o → then_more [] words o ≡ Some all
          → ((next : Clauses) → clauses_of [] next words ≡ Some all → clauses_of files next words ≡ Some all) → then_more files words (with_clause files clauses word) ≡ Some all
      by None is f rest = absurd (let g = f in cc)
      by (Some next) is f rest = ap (then_more files words) (taken-same clauses.awaited clauses word next is) ∙ rest next f

  with-same : (number : ℕ) (name : Text) (of_test : Bool) (pattern : Option Pattern) (words : List Text) (call : Call)
      → call_with number name of_test pattern (clauses_of [] no_clause words) ≡ Ok call → call_with number name of_test pattern (clauses_of files no_clause words) ≡ Ok call
  with-same number name of_test None words call e = absurd (let f = e in cc)
  with-same number name of_test (Some pattern) words call e = by (clauses_of [] no_clause words) refl e
    where
      by : (o : Option Clauses) → clauses_of [] no_clause words ≡ o → call_with number name of_test (Some pattern) o ≡ Ok call → call_with number name of_test (Some pattern) (clauses_of files no_clause words) ≡ Ok call
      by None is f = absurd (let g = f in cc)
      by (Some all) is f = ap (call_with number name of_test (Some pattern)) (clauses-same no_clause words all is) ∙ f

  between-same : (number : ℕ) (of_test : Bool) (pattern clauses : List Text) (call : Call) → call_between [] number of_test pattern clauses ≡ Ok call → call_between files number of_test pattern clauses ≡ Ok call
  between-same number of_test [] clauses call e = absurd (let f = e in cc)
  between-same number of_test (name ∷ pattern) clauses call e = by (has_quote (name ∷ pattern)) e
    where
      by : (b : Bool) → cond b (Err (BadLine number)) (call_with number name of_test (pattern_of pattern) (clauses_of [] no_clause clauses)) ≡ Ok call
          → cond b (Err (BadLine number)) (call_with number name of_test (pattern_of pattern) (clauses_of files no_clause clauses)) ≡ Ok call
      by true f = absurd (let g = f in cc)
      by false f = with-same number name of_test (pattern_of pattern) clauses call f

  line-same : (number : ℕ) (words : List Text) (call : Call) → call_line [] number words ≡ Ok call → call_line files number words ≡ Ok call
  line-same number words call e = by (lacks_colon words) e
    where
      by : (b : Bool) → cond b (Err (BadLine number)) (call_parts [] number (take (colon_place words) words) (drop (colon_place words + 1) words)) ≡ Ok call
          → cond b (Err (BadLine number)) (call_parts files number (take (colon_place words) words) (drop (colon_place words + 1) words)) ≡ Ok call
      by true f = absurd (let g = f in cc)
      by false f =
          let front = take (colon_place words) words in
          let behind = drop (colon_place words + 1) words in
          between-same number (is_of_test front behind) front behind call f

  -- ---- the list after a line

  abbrev beside : Devices → Devices
  beside devices = record devices { files = files }

  -- a list without files, and what it is with them
  abbrev IsBeside : Result Devices DevicesError → (next : Devices) → Type 0
  IsBeside r next = (next.files ≡ []) × (r ≡ Ok (beside next))

  or-same : (devices : Devices) (without : devices.files ≡ []) (number : ℕ) (call : Call) (next : Devices) → with_or devices number call ≡ Ok next → IsBeside (with_or (beside devices) number call) next
  or-same devices without number call next e = by (further_in devices.calls call) e
    where
      by : (o : Option (List (Text × List (Pattern × Effect)) × Text)) → goes_on devices number o ≡ Ok next → IsBeside (goes_on (beside devices) number o) next
      by None f = absurd (let g = f in cc)
      by (Some further) f = when (nat_eq (length devices.choices) most_choices) f
        where
          when : (b : Bool) → cond b (Err (BadLine number)) (Ok (with_choice (record devices { calls = further.0 }) further.1)) ≡ Ok next
              → IsBeside (cond b (Err (BadLine number)) (Ok (with_choice (record (beside devices) { calls = further.0 }) further.1))) next
          when true g = absurd (let x = g in cc)
          when false g = let same = ok-same g in (sym (ap (λ (d : Devices). d.files) same) ∙ without, ap (λ (d : Devices). Ok (beside d)) same)

  call-same : (devices : Devices) (without : devices.files ≡ []) (number : ℕ) (line first : Text) (words : List Text) (next : Devices)
      → after_call devices number (is_or first) (call_said [] number line first words) ≡ Ok next → IsBeside (after_call (beside devices) number (is_or first) (call_said files number line first words)) next
  call-same devices without number line first words next e = by (call_said [] number line first words) refl (is_or first) e
    where
      after : (or : Bool) (call : Call) → after_call devices number or (Ok call) ≡ Ok next → IsBeside (after_call (beside devices) number or (Ok call)) next
      after true call f = or-same devices without number call next f
      after false call f = let same = ok-same f in (sym (ap (λ (d : Devices). d.files) same) ∙ without, ap (λ (d : Devices). Ok (beside d)) same)

      by : (r : Result Call DevicesError) → call_said [] number line first words ≡ r → (or : Bool) → after_call devices number or r ≡ Ok next → IsBeside (after_call (beside devices) number or (call_said files number line first words)) next
      by (Err fault) is or f = absurd (let g = f in cc)
      by (Ok call) is or f =
          let beside_it = after or call f in
          (beside_it.0, ap (after_call (beside devices) number or) (line-same number (words_said line first words) call is) ∙ beside_it.1)

  joined-same : (devices : Devices) (name : Text) (word : Option Text) (more : Effect) → (let d : Devices = joined_by devices name word more in (d.files ≡ devices.files) × (joined_by (beside devices) name word more ≡ beside d))
  joined-same devices name None more = (refl, refl)
  joined-same devices name (Some word) more = (refl, refl)

  known-same : (devices : Devices) (name : Text) → (let d : Devices = with_known devices name in (d.files ≡ devices.files) × (with_known (beside devices) name ≡ beside d))
  known-same devices name = by (list_any (bytes_eq name) devices.known)
    where
      by : (b : Bool) → (let d : Devices = cond b devices (record devices { known = devices.known ++ name ∷ [] }) in (d.files ≡ devices.files) × (cond b (beside devices) (record (beside devices) { known = devices.known ++ name ∷ [] }) ≡ beside d))
      by true = (refl, refl)
      by false = (refl, refl)

  other-same : (devices : Devices) (without : devices.files ≡ []) (known : Option Text) (test : Bool) (line : Result DeviceLine DevicesError) (next : Devices)
      → after_known devices known test line ≡ Ok next → IsBeside (after_known (beside devices) known test line) next
  other-same devices without (Some name) test line next e =
      let same = ok-same e in
      let known = known-same devices name in
      (sym (ap (λ (d : Devices). d.files) same) ∙ known.0 ∙ without, ap Ok known.1 ∙ ap (λ (d : Devices). Ok (beside d)) same)
  other-same devices without None true line next e = let same = ok-same e in (sym (ap (λ (d : Devices). d.files) same) ∙ without, ap (λ (d : Devices). Ok (beside d)) same)
  other-same devices without None false (Err fault) next e = absurd (let f = e in cc)
  other-same devices without None false (Ok more) next e =
      let same = ok-same e in
      let joins = joined-same devices more.name more.word more.effect in
      (sym (ap (λ (d : Devices). d.files) same) ∙ joins.0 ∙ without, ap Ok joins.1 ∙ ap (λ (d : Devices). Ok (beside d)) same)

  words-same : (devices : Devices) (without : devices.files ≡ []) (number : ℕ) (line : Text) (words : List Text) (next : Devices)
      → after_words devices number line words ≡ Ok next → IsBeside (after_words (beside devices) number line words) next
  words-same devices without number line [] next e = let same = ok-same e in (sym (ap (λ (d : Devices). d.files) same) ∙ without, ap (λ (d : Devices). Ok (beside d)) same)
  words-same devices without number line (first ∷ words) next e =
      by (begins_comment first) (has_nul line) (is_call first words) (subst (λ given. read given devices (begins_comment first) (has_nul line) (is_call first words) ≡ Ok next) without e)
    where
      read : Files → Devices → (comment nul call : Bool) → Result Devices DevicesError
      read given d comment nul call =
          cond comment (Ok d) (cond nul (Err (BadLine number)) (cond call (after_call d number (is_or first) (call_said given number line first words))
          (after_known d (known_named first words) (is_steady_test first words) (line_of number (heading_of first words)))))

      by : (comment nul call : Bool) → read [] devices comment nul call ≡ Ok next → IsBeside (read files (beside devices) comment nul call) next
      by true nul call f = let same = ok-same f in (sym (ap (λ (d : Devices). d.files) same) ∙ without, ap (λ (d : Devices). Ok (beside d)) same)
      by false true call f = absurd (let g = f in cc)
      by false false true f = call-same devices without number line first words next f
      by false false false f = other-same devices without (known_named first words) (is_steady_test first words) (line_of number (heading_of first words)) next f

  lines-same : (lines : List (ℕ × Text)) (devices done : Devices) → devices.files ≡ [] → listed_lines devices lines ≡ Ok done → listed_lines (beside devices) lines ≡ Ok (beside done)
  lines-same [] devices done without e = ap (λ (d : Devices). Ok (beside d)) (ok-same e)
  lines-same (l ∷ lines) devices done without e = by (after_line devices l.0 l.1) refl e (λ next. lines-same lines next done)
    where
      then_lines : Result Devices DevicesError → Result Devices DevicesError
      then_lines r = elim r [ Ok next ↦ listed_lines next lines | Err fault ↦ Err fault ]

      by : (r : Result Devices DevicesError) → after_line devices l.0 l.1 ≡ r → then_lines r ≡ Ok done
          → ((next : Devices) → next.files ≡ [] → listed_lines next lines ≡ Ok done → listed_lines (beside next) lines ≡ Ok (beside done))
          → then_lines (after_line (beside devices) l.0 l.1) ≡ Ok (beside done)
      by (Err fault) is f rest = absurd (let g = f in cc)
      by (Ok next) is f rest =
          let same = words-same devices without l.0 l.1 (device_words l.1) next is in
          ap then_lines same.1 ∙ rest next same.0 f

pub files_change_nothing : FilesChangeNothing
files_change_nothing files text devices e =
    ap (λ (marked : Bool). cond marked (Err ByteOrderMark) (listed_lines (with_files files) (numbered_lines text))) (unmarked text devices e)
    ∙ lines-same files (numbered_lines text) (only []) devices refl (lines_of text devices e)
