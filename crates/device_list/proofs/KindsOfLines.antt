-- Lists go by the kinds that their lines use.
use Rattle.std.proofs.Common.{◌≡◌, ℕ, ◌||◌, ◌&&◌, not, Bool, true, false, cond, List, [], ◌∷◌, filter, Option, Some, None, Result, Ok, Err, codes, refl, sym, ap, ◌∙◌}
use Rattle.std.proofs.lemmas.Bool.{and_parts}
use Rattle.std.proofs.Math.Bool.{and-true}
use Rattle.std.specs.Option.{is_some}
use Rattle.std.specs.List.{list_any, list_all}
use Rattle.std.specs.Str.{bytes_eq}
use Rattle.text.specs.Lines.{numbered_lines}
use Rattle.text.specs.Words.{has_nul, is_equals}
use Rattle.text.specs.Lines.{Text}
use Rattle.device_list.specs.CallLines.{call_said, is_call}
use Rattle.device_list.specs.DeviceList.{Devices, DeviceLine, Heading, named, call_of, steady_of, finish_before, finishing, heading_of, line_of, with_line, is_or, after_call, with_known, known_named, is_steady_test, after_known, device_words, begins_comment, after_words, after_line, only, is_marked, listed_lines}
use Rattle.device_list.specs.Kinds.{Kind, Settings, Final, Stops, Sub, Known, Steady, Calls, every_kind, kind_of, ends_by, has, has_words, uses, kinds_said, uses_only, call_among, steady_among, finish_among, finishing_among, heading_among, said_among, words_among, line_among, lines_among, LinesGoByKinds, ListsGoByKinds, FurtherKindsChangeNothing, KindsAreAll}
use Rattle.device_list.specs.declared.finish.BoardEnd.{BoardEnd}
use Rattle.device_list.specs.declared.finish.BoardEnd.TheVariants.{Boots, Restarts, Halts}
use Rattle.device_list.specs.declared.devices_error.DevicesError.{DevicesError}
use Rattle.device_list.specs.declared.devices_error.DevicesError.TheVariants.{BadLine, ByteOrderMark}
use Rattle.device_list.proofs.LineLemmas.{named_is_bad, steady_is_bad, finish_is_bad, finish_parts, known_is_bad, known_is_no_test, test_is, calls_are_bad, calls_are_not_known, calls_are_no_test}

either : {A : Type 0} (b : Bool) (x : A) → cond b x x ≡ x
either true x = refl
either false x = refl

is_false : (b : Bool) → not b ≡ true → b ≡ false
is_false true f = absurd (let g = f in cc)
is_false false f = refl

-- ---- what a heading keeps of what is in front of it

call-stays : (ends : Option BoardEnd) (stays : Bool) (first : Text) (words : List Text) → (call_of ends stays first words).stays ≡ stays
call-stays ends stays first [] = refl
call-stays ends stays first (second ∷ []) = refl
call-stays ends stays first (second ∷ third ∷ words) = by (bytes_eq first (codes "sub") && not (list_any is_equals second) && not (list_any is_equals third))
  where
    by : (b : Bool) → (let h : Heading = cond b (record { name = second; word = Some third; ends = ends; stays = stays; words = words }) (named ends stays first (second ∷ third ∷ words)) in h.stays) ≡ stays
    by true = refl
    by false = refl

call-ends : (ends : Option BoardEnd) (stays : Bool) (first : Text) (words : List Text) → (call_of ends stays first words).ends ≡ ends
call-ends ends stays first [] = refl
call-ends ends stays first (second ∷ []) = refl
call-ends ends stays first (second ∷ third ∷ words) = by (bytes_eq first (codes "sub") && not (list_any is_equals second) && not (list_any is_equals third))
  where
    by : (b : Bool) → (let h : Heading = cond b (record { name = second; word = Some third; ends = ends; stays = stays; words = words }) (named ends stays first (second ∷ third ∷ words)) in h.ends) ≡ ends
    by true = refl
    by false = refl

steady-ends : (ends : Option BoardEnd) (first : Text) (words : List Text) → (steady_of ends first words).ends ≡ ends
steady-ends ends first [] = refl
steady-ends ends first (second ∷ words) = by (bytes_eq first (codes "steady") && not (list_any is_equals second))
  where
    by : (b : Bool) → (let h : Heading = cond b (call_of ends true second words) (call_of ends false first (second ∷ words)) in h.ends) ≡ ends
    by true = call-ends ends true second words
    by false = call-ends ends false first (second ∷ words)

module _ (kinds : List Kind) where
  -- what is used is one of the kinds
  abbrev allowed : (used : Bool) → Kind → Bool
  allowed used kind = not used || has kinds kind

  abbrev fits_call : Heading → Bool
  fits_call h = allowed (is_some h.word) Sub && allowed (has_words h) Settings

  abbrev fits_steady : Heading → Bool
  fits_steady h = allowed h.stays Steady && fits_call h

  abbrev fits_finish : Option BoardEnd → (rest : Bool) → Bool
  fits_finish ends rest = allowed (ends_by ends Final) Final && (allowed (ends_by ends Stops) Stops && rest)

  abbrev fits : Heading → Bool
  fits h = fits_finish h.ends (fits_steady h)

  finish-fits : (finish : BoardEnd) (rest : Bool) → fits_finish (Some finish) rest ≡ (has kinds (kind_of finish) && rest)
  finish-fits Boots rest = refl
  finish-fits Restarts rest = refl
  finish-fits Halts rest = refl

  all-if : (used : Bool) (kind : Kind) (more : List Kind) → list_all (has kinds) (cond used (kind ∷ more) more) ≡ (allowed used kind && list_all (has kinds) more)
  all-if true kind more = refl
  all-if false kind more = refl

  all-kinds : (h : Heading) → list_all (has kinds) (filter (uses h) every_kind) ≡ fits h
  all-kinds h =
      all-if (ends_by h.ends Final) Final (filter (uses h) (Stops ∷ Steady ∷ Sub ∷ Settings ∷ Known ∷ Calls ∷ []))
      ∙ ap (λ b. allowed (ends_by h.ends Final) Final && b) (all-if (ends_by h.ends Stops) Stops (filter (uses h) (Steady ∷ Sub ∷ Settings ∷ Known ∷ Calls ∷ []))
      ∙ ap (λ b. allowed (ends_by h.ends Stops) Stops && b) (all-if h.stays Steady (filter (uses h) (Sub ∷ Settings ∷ Known ∷ Calls ∷ []))
      ∙ ap (λ b. allowed h.stays Steady && b) (all-if (is_some h.word) Sub (filter (uses h) (Settings ∷ Known ∷ Calls ∷ []))
      ∙ ap (λ b. allowed (is_some h.word) Sub && b) (all-if (has_words h) Settings [] ∙ and-true (allowed (has_words h) Settings)))))

  -- ---- one line

  module _ (number : ℕ) where
    abbrev bad : Result DeviceLine DevicesError
    bad = Err (BadLine number)

    abbrev read_if : Bool → Heading → Result DeviceLine DevicesError
    read_if b h = cond b (line_of number h) bad

    -- a bad line, read or not
    read-bad : (b : Bool) (h : Heading) → line_of number h ≡ bad → read_if b h ≡ bad
    read-bad b h e = ap (λ r. cond b r bad) e ∙ either b bad

    call-kinds : (ends : Option BoardEnd) (stays : Bool) (first : Text) (words : List Text) → said_among kinds number (call_among kinds ends stays first words) ≡ read_if (fits_call (call_of ends stays first words)) (call_of ends stays first words)
    call-kinds ends stays first [] = ap (said_among kinds number) (either (has kinds Sub) (named ends stays first []))
    call-kinds ends stays first (second ∷ []) = ap (said_among kinds number) (either (has kinds Sub) (named ends stays first (second ∷ [])))
    call-kinds ends stays first (second ∷ third ∷ words) =
        by (has kinds Sub) (bytes_eq first (codes "sub")) (not (list_any is_equals second)) (not (list_any is_equals third)) refl
      where
        by : (s a n m : Bool) → not (list_any is_equals second) ≡ n
            → let call : Heading = cond (a && n && m) (record { name = second; word = Some third; ends = ends; stays = stays; words = words }) (named ends stays first (second ∷ third ∷ words)) in
            said_among kinds number (cond s call (named ends stays first (second ∷ third ∷ words))) ≡ read_if ((not (is_some call.word) || s) && allowed (has_words call) Settings) call
        by true true true true e = refl
        by false true true true e = read-bad (has kinds Settings) (named ends stays first (second ∷ third ∷ words)) (named_is_bad number ends stays first second (third ∷ words) (is_false (list_any is_equals second) e))
        by true false n m e = refl
        by false false n m e = refl
        by true true false m e = refl
        by false true false m e = refl
        by true true true false e = refl
        by false true true false e = refl

    steady-kinds : (ends : Option BoardEnd) (first : Text) (words : List Text) → said_among kinds number (steady_among kinds ends first words) ≡ read_if (fits_steady (steady_of ends first words)) (steady_of ends first words)
    steady-kinds ends first [] = refl
    steady-kinds ends first (second ∷ words) = by (has kinds Steady) (bytes_eq first (codes "steady")) (not (list_any is_equals second)) refl refl
      where
        -- a heading by whether it is steady
        kept : (s stays : Bool) (h : Heading) → h.stays ≡ stays → read_if ((not stays || s) && fits_call h) h ≡ read_if ((not h.stays || s) && fits_call h) h
        kept s stays h e = ap (λ b. read_if ((not b || s) && fits_call h) h) (sym e)

        other : (s : Bool) → let h : Heading = call_of ends false first (second ∷ words) in said_among kinds number (call_among kinds ends false first (second ∷ words)) ≡ read_if ((not h.stays || s) && fits_call h) h
        other s = call-kinds ends false first (second ∷ words) ∙ kept s false (call_of ends false first (second ∷ words)) (call-stays ends false first (second ∷ words))

        by : (s a n : Bool) → bytes_eq first (codes "steady") ≡ a → not (list_any is_equals second) ≡ n
            → let h : Heading = cond (a && n) (call_of ends true second words) (call_of ends false first (second ∷ words)) in
            said_among kinds number (cond (s && a && n) (call_among kinds ends true second words) (call_among kinds ends false first (second ∷ words))) ≡ read_if ((not h.stays || s) && fits_call h) h
        by true true true e f = call-kinds ends true second words ∙ kept true true (call_of ends true second words) (call-stays ends true second words)
        by false true true e f =
            let h : Heading = call_of ends false first (second ∷ words) in
            call-kinds ends false first (second ∷ words)
            ∙ read-bad (fits_call h) h (steady_is_bad number ends first second words e (is_false (list_any is_equals second) f))
            ∙ kept false true (call_of ends true second words) (call-stays ends true second words)
        by true false n e f = other true
        by false false n e f = other false
        by true true false e f = other true
        by false true false e f = other false

    heading-kinds : (first : Text) (words : List Text) → said_among kinds number (heading_among kinds first words) ≡ read_if (fits (heading_of first words)) (heading_of first words)
    heading-kinds first [] = refl
    heading-kinds first (second ∷ words) = by (finish_before first second) refl
      where
        by : (o : Option BoardEnd) → finish_before first second ≡ o
            → let h : Heading = finishing o first second words in said_among kinds number (finishing_among kinds (finish_among kinds o) first second words) ≡ read_if (fits h) h
        by None e =
            let h : Heading = steady_of None first (second ∷ words) in
            steady-kinds None first (second ∷ words) ∙ ap (λ o. read_if (fits_finish o (fits_steady h)) h) (sym (steady-ends None first (second ∷ words)))
        by (Some finish) e = go (has kinds (kind_of finish)) refl
          where
            go : (b : Bool) → has kinds (kind_of finish) ≡ b
                → let h : Heading = steady_of (Some finish) second words in said_among kinds number (finishing_among kinds (cond b (Some finish) None) first second words) ≡ read_if (fits h) h
            go b is =
                let h : Heading = steady_of (Some finish) second words in
                let same : fits h ≡ (b && fits_steady h) =
                ap (λ o. fits_finish o (fits_steady h)) (steady-ends (Some finish) second words) ∙ finish-fits finish (fits_steady h) ∙ ap (λ c. c && fits_steady h) is in
                read b ∙ ap (λ c. read_if c h) (sym same)
              where
                read : (b : Bool) → let h : Heading = steady_of (Some finish) second words in said_among kinds number (finishing_among kinds (cond b (Some finish) None) first second words) ≡ read_if (b && fits_steady h) h
                read true = steady-kinds (Some finish) second words
                read false =
                    let g : Heading = steady_of None first (second ∷ words) in
                    let parts = finish_parts finish first second e in
                    steady-kinds None first (second ∷ words) ∙ read-bad (fits_steady g) g (finish_is_bad number finish first second words parts.0 parts.1)

  -- ---- the list after one line

  module _ (devices : Devices) (number : ℕ) where
    abbrev refused : Result Devices DevicesError
    refused = Err (BadLine number)

    abbrev said : (first : Text) → List Text → Result DeviceLine DevicesError
    said first words = said_among kinds number (heading_among kinds first words)

    -- no `known` line, and no `steady test` line that is read
    named-after : (first : Text) (words : List Text) (k s : Bool) → after_known devices (cond k None None) (s && false) (said first words) ≡ with_line devices (said first words)
    named-after first words true true = refl
    named-after first words true false = refl
    named-after first words false true = refl
    named-after first words false false = refl

    with-if : (b : Bool) (h : Heading) → with_line devices (read_if number b h) ≡ cond b (with_line devices (line_of number h)) refused
    with-if true h = refl
    with-if false h = refl

    -- a line that names a command
    command-kinds : (first : Text) (words : List Text) → after_known devices (cond (has kinds Known) None None) (has kinds Steady && false) (said first words)
        ≡ cond (list_all (has kinds) (filter (uses (heading_of first words)) every_kind)) (with_line devices (line_of number (heading_of first words))) refused
    command-kinds first words =
        let h : Heading = heading_of first words in
        named-after first words (has kinds Known) (has kinds Steady)
        ∙ ap (with_line devices) (heading-kinds number first words)
        ∙ with-if (fits h) h
        ∙ ap (λ b. cond b (with_line devices (line_of number h)) refused) (sym (all-kinds h))

    -- a `known` line
    known-kinds : (first : Text) (words : List Text) (name : Text) → known_named first words ≡ Some name
        → after_known devices (cond (has kinds Known) (Some name) None) (has kinds Steady && false) (said first words) ≡ cond (has kinds Known && true) (Ok (with_known devices name)) refused
    known-kinds first words name is = by (has kinds Known) (has kinds Steady)
      where
        unread : said first words ≡ Err (BadLine number)
        unread = heading-kinds number first words ∙ read-bad number (fits (heading_of first words)) (heading_of first words) (known_is_bad number first words name is)

        by : (k s : Bool) → after_known devices (cond k (Some name) None) (s && false) (said first words) ≡ cond (k && true) (Ok (with_known devices name)) refused
        by true s = refl
        by false true = ap (with_line devices) unread
        by false false = ap (with_line devices) unread

    -- a `steady test` line
    test-kinds : (first : Text) (words : List Text) → is_steady_test first words ≡ true
        → after_known devices (cond (has kinds Known) None None) (has kinds Steady && true) (said first words)
        ≡ cond (list_all (has kinds) (filter (uses (heading_of first words)) every_kind)) (Ok (record devices { test_stays = true })) refused
    test-kinds first words at =
        by (has kinds Known) (has kinds Steady) refl
        ∙ ap (λ b. cond b (Ok (record devices { test_stays = true })) refused) (sym is_steady)
      where
        is_steady : list_all (has kinds) (filter (uses (heading_of first words)) every_kind) ≡ has kinds Steady
        is_steady =
            let t = test_is first words at in
            let one : list_all (has kinds) (filter (uses (heading_of (codes "steady") (codes "test" ∷ []))) every_kind) ≡ (has kinds Steady && true) = refl in
            (λ i. list_all (has kinds) (filter (uses (heading_of (t.0 i) (t.1 i))) every_kind)) ∙ one ∙ and-true (has kinds Steady)

        unread : has kinds Steady ≡ false → said first words ≡ Err (BadLine number)
        unread e =
            let h : Heading = heading_of first words in
            heading-kinds number first words ∙ ap (λ b. read_if number b h) (sym (all-kinds h) ∙ is_steady ∙ e)

        by : (k s : Bool) → has kinds Steady ≡ s → after_known devices (cond k None None) (s && true) (said first words) ≡ cond s (Ok (record devices { test_stays = true })) refused
        by true true e = refl
        by false true e = refl
        by true false e = ap (with_line devices) (unread e)
        by false false e = ap (with_line devices) (unread e)

    -- the result of a line that is not one of calls
    abbrev read_other : (first : Text) → List Text → Result Devices DevicesError
    read_other first words = after_known devices (cond (has kinds Known) (known_named first words) None) (has kinds Steady && is_steady_test first words) (said first words)

    abbrev calls_of : (line first : Text) → List Text → Result Devices DevicesError
    calls_of line first words = after_call devices number (is_or first) (call_said devices.files number line first words)

    -- a line of calls
    calls-kinds : (line first : Text) (words : List Text) → is_call first words ≡ true → cond (has kinds Calls && true) (calls_of line first words) (read_other first words) ≡ cond (has kinds Calls && true) (calls_of line first words) refused
    calls-kinds line first words at = by (has kinds Calls)
      where
        unread : said first words ≡ Err (BadLine number)
        unread = heading-kinds number first words ∙ read-bad number (fits (heading_of first words)) (heading_of first words) (calls_are_bad number first words at)

        other : read_other first words ≡ refused
        other =
            (λ i. after_known devices (cond (has kinds Known) (calls_are_not_known first words at i) None) (has kinds Steady && calls_are_no_test first words at i) (said first words))
            ∙ named-after first words (has kinds Known) (has kinds Steady)
            ∙ ap (with_line devices) unread

        by : (k : Bool) → cond (k && true) (calls_of line first words) (read_other first words) ≡ cond (k && true) (calls_of line first words) refused
        by true = refl
        by false = other

    -- a line of another kind
    other-kinds : (first : Text) (words : List Text) → read_other first words
        ≡ cond (list_all (has kinds) (cond (is_some (known_named first words)) (Known ∷ []) (filter (uses (heading_of first words)) every_kind)))
        (after_known devices (known_named first words) (is_steady_test first words) (line_of number (heading_of first words))) refused
    other-kinds first words = by (known_named first words) refl (is_steady_test first words) refl
      where
        by : (o : Option Text) → known_named first words ≡ o → (test : Bool) → is_steady_test first words ≡ test
            → after_known devices (cond (has kinds Known) o None) (has kinds Steady && test) (said first words)
            ≡ cond (list_all (has kinds) (cond (is_some o) (Known ∷ []) (filter (uses (heading_of first words)) every_kind)))
            (after_known devices o test (line_of number (heading_of first words))) refused
        by (Some name) is true at = absurd (let f = sym (known_is_no_test first words name is) ∙ at in cc)
        by (Some name) is false at = known-kinds first words name is
        by None is true at = test-kinds first words at
        by None is false at = command-kinds first words

    -- the kinds of a line that is no comment
    abbrev kinds_here : (call : Bool) → (first : Text) → List Text → List Kind
    kinds_here call first words = cond call (Calls ∷ []) (cond (is_some (known_named first words)) (Known ∷ []) (filter (uses (heading_of first words)) every_kind))

    abbrev read_here : (call : Bool) → (line first : Text) → List Text → Result Devices DevicesError
    read_here call line first words = cond call (calls_of line first words) (after_known devices (known_named first words) (is_steady_test first words) (line_of number (heading_of first words)))

    words-kinds : (line : Text) (words : List Text) → words_among kinds devices number line words ≡ cond (list_all (has kinds) (kinds_said words)) (after_words devices number line words) refused
    words-kinds line [] = refl
    words-kinds line (first ∷ words) = by (begins_comment first) (has_nul line) (is_call first words) refl
      where
        no_call : (k : Bool) → cond (k && false) (calls_of line first words) (read_other first words) ≡ read_other first words
        no_call true = refl
        no_call false = refl

        by : (comment nul call : Bool) → is_call first words ≡ call
            → cond comment (Ok devices) (cond nul refused (cond (has kinds Calls && call) (calls_of line first words) (read_other first words)))
            ≡ cond (list_all (has kinds) (cond comment [] (kinds_here call first words))) (cond comment (Ok devices) (cond nul refused (read_here call line first words))) refused
        by true nul call at = refl
        by false true call at = sym (either (list_all (has kinds) (kinds_here call first words)) refused)
        by false false true at = calls-kinds line first words at
        by false false false at = no_call (has kinds Calls) ∙ other-kinds first words

pub lines_go_by_kinds : LinesGoByKinds
lines_go_by_kinds kinds devices number line = words-kinds kinds devices number line (device_words line)

-- ---- lists

-- the list after one line and further ones
abbrev then_lines : (Devices → Result Devices DevicesError) → Result Devices DevicesError → Result Devices DevicesError
then_lines more r = elim r [ Ok next ↦ more next | Err fault ↦ Err fault ]

module _ (kinds : List Kind) where
  lines-same : (lines : List (ℕ × Text)) (devices : Devices) → list_all (λ l. uses_only kinds l.1) lines ≡ true → lines_among kinds devices lines ≡ listed_lines devices lines
  lines-same [] devices fit = refl
  lines-same (l ∷ lines) devices fit =
      let both = and_parts (uses_only kinds l.1) (list_all (λ l. uses_only kinds l.1) lines) fit in
      let this : line_among kinds devices l.0 l.1 ≡ after_line devices l.0 l.1 =
      lines_go_by_kinds kinds devices l.0 l.1 ∙ ap (λ b. cond b (after_line devices l.0 l.1) (Err (BadLine l.0))) both.0 in
      ap (then_lines (λ next. lines_among kinds next lines)) this ∙ by (after_line devices l.0 l.1) (λ next. lines-same lines next both.1)
    where
      by : (r : Result Devices DevicesError) → ((next : Devices) → lines_among kinds next lines ≡ listed_lines next lines)
          → then_lines (λ next. lines_among kinds next lines) r ≡ then_lines (λ next. listed_lines next lines) r
      by (Ok next) rest = rest next
      by (Err fault) rest = refl

  lines-accepted : (lines : List (ℕ × Text)) (devices done : Devices) → lines_among kinds devices lines ≡ Ok done → listed_lines devices lines ≡ Ok done
  lines-accepted [] devices done e = e
  lines-accepted (l ∷ lines) devices done e =
      by (uses_only kinds l.1) (after_line devices l.0 l.1) (ap (then_lines (λ next. lines_among kinds next lines)) (sym (lines_go_by_kinds kinds devices l.0 l.1)) ∙ e) (λ next. lines-accepted lines next done)
    where
      by : (fit : Bool) (r : Result Devices DevicesError) → then_lines (λ next. lines_among kinds next lines) (cond fit r (Err (BadLine l.0))) ≡ Ok done
          → ((next : Devices) → lines_among kinds next lines ≡ Ok done → listed_lines next lines ≡ Ok done)
          → then_lines (λ next. listed_lines next lines) r ≡ Ok done
      by false r f rest = absurd (let g = f in cc)
      by true (Err fault) f rest = absurd (let g = f in cc)
      by true (Ok next) f rest = rest next f

abbrev after_mark : Bool → Result Devices DevicesError → Result Devices DevicesError
after_mark marked lines = cond marked (Err ByteOrderMark) lines

pub lists_go_by_kinds : ListsGoByKinds
lists_go_by_kinds kinds text fit = ap (after_mark (is_marked text)) (lines-same kinds (numbered_lines text) (only []) fit)

pub further_kinds_change_nothing : FurtherKindsChangeNothing
further_kinds_change_nothing kinds text devices e = by (is_marked text) e
  where
    by : (marked : Bool) → after_mark marked (lines_among kinds (only []) (numbered_lines text)) ≡ Ok devices → after_mark marked (listed_lines (only []) (numbered_lines text)) ≡ Ok devices
    by true f = absurd (let g = f in cc)
    by false f = lines-accepted kinds (numbered_lines text) (only []) devices f

-- ---- every kind

is_kind : (kind : Kind) → has every_kind kind ≡ true
is_kind Settings = refl
is_kind Final = refl
is_kind Stops = refl
is_kind Sub = refl
is_kind Known = refl
is_kind Steady = refl
is_kind Calls = refl

are_kinds : (kinds : List Kind) → list_all (has every_kind) kinds ≡ true
are_kinds [] = refl
are_kinds (kind ∷ kinds) = λ i. is_kind kind i && are_kinds kinds i

all_use_kinds : (lines : List (ℕ × Text)) → list_all (λ l. uses_only every_kind l.1) lines ≡ true
all_use_kinds [] = refl
all_use_kinds (l ∷ lines) = λ i. are_kinds (kinds_said (device_words l.1)) i && all_use_kinds lines i

pub kinds_are_all : KindsAreAll
kinds_are_all text = lists_go_by_kinds every_kind text (all_use_kinds (numbered_lines text))
