-- Lists without lines of the start.
use Rattle.std.proofs.Common.{◌≡◌, ℕ, ◌+◌, ◌<◌, Bool, true, List, [], ◌∷◌, ◌++◌, Ok, refl, ap, ◌∙◌, append-nil, inl, inr, arith}
use Rattle.std.proofs.lemmas.Bool.{and_parts}
use Rattle.std.proofs.lemmas.Bool.Decides.{eqb_tells}
use Rattle.std.proofs.lemmas.List.Splits.{join_with_byte-slice_split}
use Rattle.std.specs.List.{list_all, flat_map, enumerate_from, slice_split, join_with_byte}
use Rattle.text.specs.Lines.{Text, numbered_lines, is_newline}
use Rattle.device_list.specs.DeviceList.{listed_with}
use Rattle.board_start.specs.StartLines.{Said, Given, Before, Counts, Faulty, Other, said, front, line_left, without_start}
use Rattle.board_start.specs.Start.{Start, no_start, started_by}
use Rattle.board_start.specs.Boards.{board_with, board_from}
use Rattle.board_start.specs.StartLaws.{is_other, OtherListsStand}

abbrev are_other : List (ℕ × Text) → Bool
are_other = list_all (λ l. is_other (said l.1))

is-other : (s : Said) → is_other s ≡ true → s ≡ Other
is-other (Given name value) e = absurd (let f = e in cc)
is-other (Before name) e = absurd (let f = e in cc)
is-other (Counts counter) e = absurd (let f = e in cc)
is-other Faulty e = absurd (let f = e in cc)
is-other Other e = refl

-- ---- nothing is said of the start

starts : (lines : List (ℕ × Text)) (start : Start) → are_other lines ≡ true → started_by start lines ≡ Ok start
starts [] start e = refl
starts (l ∷ lines) start e =
    let both = and_parts (is_other (said l.1)) (are_other lines) e in
    let here : said l.1 ≡ Other = is-other (said l.1) both.0 in
    rw (started_by, here) (starts lines start both.1)

-- ---- the text is the same

abbrev plain : ℕ × Text → Text
plain l = front l.0 ++ l.1

plain-left : (lines : List (ℕ × Text)) → are_other lines ≡ true → flat_map (λ l. line_left l.0 l.1) lines ≡ flat_map plain lines
plain-left [] e = refl
plain-left (l ∷ lines) e =
    let both = and_parts (is_other (said l.1)) (are_other lines) e in
    let here : said l.1 ≡ Other = is-other (said l.1) both.0 in
    rw here (ap (λ t. (front l.0 ++ l.1) ++ t) (plain-left lines both.1))

front-newline : (n : ℕ) → 0 < n → front (n + 1) ≡ 10 ∷ []
front-newline n some = elim (eqb_tells (n + 1) 1) [ inl h ↦ absurd (let e = h.1 in omega (arith, some)) | inr h ↦ rw h.0 refl ]

-- lines with newlines between them, the first without one in front
abbrev behind : ℕ → List Text → Text
behind n [] = []
behind n (line ∷ lines) = line ++ flat_map plain (enumerate_from (n + 1) lines)

joined : (lines : List Text) (n : ℕ) → 0 < n → behind n lines ≡ join_with_byte 10 lines
joined [] n some = refl
joined (line ∷ []) n some = append-nil line
joined (line ∷ next ∷ lines) n some =
    let f = front-newline n some in
    ap (λ (t : Text). line ++ t)
    (rw f refl ∙ ap (λ (t : Text). 10 ∷ t) (joined (next ∷ lines) (n + 1) (omega arith)))

whole : (lines : List Text) → flat_map plain (enumerate_from 1 lines) ≡ behind 1 lines
whole [] = refl
whole (line ∷ lines) = refl

text-stands : (text : Text) → are_other (numbered_lines text) ≡ true → without_start text ≡ text
text-stands text e =
    plain-left (numbered_lines text) e
    ∙ (whole (slice_split is_newline text) ∙ (joined (slice_split is_newline text) 1 (omega arith) ∙ join_with_byte-slice_split 10 text))

pub other_lists_stand : OtherListsStand
other_lists_stand list e =
    ap (board_from list) (starts (numbered_lines list.text) no_start e)
    ∙ ap (λ t. board_with no_start (listed_with list.files t)) (text-stands list.text e)
