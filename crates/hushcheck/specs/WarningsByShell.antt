-- Which warnings a text has, by the shell that the call names. Ours.
use Rattle.std.specs.Prelude.{ℕ, ◌++◌, ◌&&◌, not, Bool, true, false, List, [], ◌∷◌, filter, Option, Some, None, is_some}
use Rattle.hushcheck.specs.Calls.{Remark, NotFollowed, Lacks, SetsMore, Unset, Warns}
use Rattle.hushcheck.specs.Names.{Text, uboot_script}
use Rattle.hushcheck.specs.Warnings.{warnings_of}
use Rattle.hushcheck.specs.declared.warning.Warning.{Warning}
use Rattle.hushcheck.specs.declared.warning.Warning.TheVariants.{ManyWords, NotFollowedText, OptionOfSetenv, Parenthesis, ReservedName, SpecialParameter, StraightBehind}
use Rattle.rehearse_terms.specs.declared.shell.Shell.{Shell}
use Rattle.rehearse_terms.specs.declared.shell.Shell.TheVariants.{Profile, Old2023, Old2025, Modern2025}

-- what a rehearsal by an old shell of U-Boot does not follow, and that of 2023.01 beside it
abbrev pub stops_old : Warning → Bool
stops_old StraightBehind = true
stops_old ReservedName = true
stops_old OptionOfSetenv = true
stops_old warning = false

abbrev pub stops_2023 : Warning → Bool
stops_2023 ManyWords = true
stops_2023 warning = stops_old warning

-- what a rehearsal by U-Boot's modern shell does not follow
abbrev pub stops_modern : Warning → Bool
stops_modern StraightBehind = true
stops_modern OptionOfSetenv = true
stops_modern SpecialParameter = true
stops_modern Parenthesis = true
stops_modern warning = false

-- All warnings are reported if no shell is named. Of a shell those are reported of which a rehearsal stops there, and ubtool's own
-- reading has none.
abbrev pub tells : Option Shell → Warning → Bool
tells None warning = true
tells (Some Profile) warning = false
tells (Some Old2023) warning = stops_2023 warning
tells (Some Old2025) warning = stops_old warning
tells (Some Modern2025) warning = stops_modern warning

abbrev pub tells_remark : Option Shell → Remark → Bool
tells_remark shell (Warns warning) = tells shell warning
tells_remark shell NotFollowed = true
tells_remark shell (Lacks name) = true
tells_remark shell SetsMore = true
tells_remark shell (Unset name) = true

abbrev pub is_uboot : Option Shell → Bool
is_uboot None = false
is_uboot (Some Profile) = false
is_uboot (Some Old2023) = true
is_uboot (Some Old2025) = true
is_uboot (Some Modern2025) = true

-- the shell of U-Boot that the call names reads the text in a way that is not followed
abbrev pub is_unread : Option Shell → (text : Text) → Bool
is_unread shell text = is_uboot shell && not (is_some (uboot_script shell text))

-- it is reported at the first byte
abbrev pub unread : Bool → List (ℕ × Remark)
unread true = (0, Warns NotFollowedText) ∷ []
unread false = []

-- those of the warnings that are reported of a shell
abbrev pub told_by : Option Shell → List (ℕ × Remark) → List (ℕ × Remark)
told_by shell found = filter (λ f. tells_remark shell f.1) found

-- the warnings of a text
abbrev pub warnings_by : Option Shell → (text : Text) → List (ℕ × Remark)
warnings_by shell text = unread (is_unread shell text) ++ told_by shell (warnings_of text)
