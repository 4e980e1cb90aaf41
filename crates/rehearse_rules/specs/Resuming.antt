-- Where a listing that broke off goes on. Ours.
use Rattle.std.specs.Prelude.{ℕ, suc, ◌+◌, nat_eq, Bool, true, false, ◌||◌, option_map, List, [], ◌∷◌, ◌++◌, flat_map, length, drop, Option, Some, None, codes}
use Rattle.std.specs.List.{starts_with}
use Rattle.text.specs.Bytes as ascii
use Rattle.rehearse_terms.specs.Outcomes.{OutcomeWord}
use Rattle.rehearse_terms.specs.State.{Text}
use Rattle.rehearse_rules.specs.Listing.{spelled, last_of}

-- how many of these records, in their order, are whole at the start of a text
abbrev pub whole : (records : List Text) → Text → ℕ
whole [] p = 0
whole (r ∷ rs) p = elim (starts_with nat_eq p r) [ true ↦ suc (whole rs (drop (length r) p)) | false ↦ 0 ]

-- what is written next: a record, or the closing line
abbrev pub next_text : (written : OutcomeWord → Text) → List OutcomeWord → (last : Text) → Text
next_text written [] last = last
next_text written (v ∷ vs) last = written v

-- ---- the point to resume at, found in the text alone

-- the printed word of the last whole record, and how many bytes the records up to it take
pub record Point : Type 0 where
  pub word : Text
  pub length_before : ℕ

-- the lines that a newline ends, the first of them after the part of a line that comes before
abbrev pub ended_lines : (part : Text) → Text → List Text
ended_lines part [] = []
ended_lines part (b ∷ bytes) =
    elim (nat_eq b ascii.newline) [
      | true ↦ part ∷ ended_lines [] bytes
      | false ↦ ended_lines (part ++ b ∷ []) bytes
    ]

-- a line that ends a record
abbrev pub is_last_line : Text → Bool
is_last_line l = starts_with nat_eq l (codes "end ") || starts_with nat_eq l (codes "cut ")
    || starts_with nat_eq l (codes "stop ") || starts_with nat_eq l (codes "booted ")
    || starts_with nat_eq l (codes "restarted ") || starts_with nat_eq l (codes "halted ")

-- a line that starts a record
abbrev pub is_first_line : Text → Bool
is_first_line l = starts_with nat_eq l (codes "run ")

-- over lines: the last `run ` so far named this word, this is the point so far, and the next line starts at this place
abbrev pub point_in : (word : Option Text) → (point : Option Point) → (at : ℕ) → List Text → Option Point
point_in word point at [] = point
point_in word point at (l ∷ ls) =
    elim (is_last_line l) [
      | true ↦ point_in word (option_map (λ w. record { word = w; length_before = at + suc (length l) }) word)
          (at + suc (length l)) ls
      | false ↦ elim (is_first_line l) [
        | true ↦ point_in (Some (drop 4 l)) point (at + suc (length l)) ls
        | false ↦ point_in word point (at + suc (length l)) ls
      ]
    ]

-- the place after the last line that ends a record, with the word of the record's first line; none if either is missing
abbrev pub resume_point_of : (written : Text) → Option Point
resume_point_of written = point_in None None 0 (ended_lines [] written)

-- the point after these records
abbrev pub point_after : (written : OutcomeWord → Text) → List OutcomeWord → Option Point
point_after written [] = None
point_after written (v ∷ vs) =
    Some (record { word = spelled (last_of v vs); length_before = length (flat_map written (v ∷ vs)) })
