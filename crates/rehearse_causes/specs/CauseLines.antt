-- The lines that say what it takes. Ours.
use Rattle.std.specs.Prelude.{Bool, true, false, not, cond, List, [], ◌∷◌, ◌++◌, filter, flat_map, length, codes, decimal}
use Rattle.device_list.specs.declared.finish.BoardEnd.TheVariants.{Boots, Restarts, Halts}
use Rattle.rehearse_terms.specs.State.{Text}
use Rattle.rehearse_rules.specs.Ending.{Ending, End, CutDevices, CutSteps, Unknown, Syntax, Unsupported, Panic, Size, Finished}
use Rattle.rehearse_rules.specs.Listing.{line, last_line}
use Rattle.rehearse_states.specs.EndingLines.{fails_lines}
use Rattle.rehearse_causes.specs.Causes.{Cause}

-- how many answers are unexpected, and how the run then ends
abbrev pub cause_line : Cause → Text
cause_line c = line (codes "cause " ++ decimal (length c.fails) ++ codes " " ++ last_line c.ending)

-- and a line for each of these commands
abbrev pub cause_lines : Cause → Text
cause_lines c = cause_line c ++ fails_lines c.fails

abbrev pub causes_text : List Cause → Text
causes_text cs = flat_map cause_lines cs

abbrev pub is_booted : Ending → Bool
is_booted (Finished Boots name) = true
is_booted _ = false

-- of a check, only what does not boot
abbrev pub reported : (check : Bool) → List Cause → List Cause
reported check cs = cond check (filter (λ c. not (is_booted c.ending)) cs) cs

-- whether all is well: nothing was checked, or everything boots
abbrev pub is_fine : (check : Bool) → List Cause → Bool
is_fine check [] = true
is_fine check (c ∷ cs) = not check
