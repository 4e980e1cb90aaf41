-- What is done for what is asked, on files whose contents are known. Ours.
use Rattle.std.specs.Prelude.{◌≡◌, Bool, Option, Result, codes, string_bytes}
use Rattle.hushcheck_program.specs.Asked.{asked_by}
use Rattle.hushcheck_program.specs.Checking.{ChecksFrom, LeavesOutput}
use Rattle.hushcheck_program.specs.Faults.{CountsShared, IsShared}
use Rattle.hushcheck_program.specs.declared.ask.Ask.{Ask}
use Rattle.hushcheck_program.specs.declared.fault.CheckFault.{CheckFault}
use Rattle.output.specs.Outputs.{Outputs}
use Rattle.tool_files.specs.Told.{IfTold, Told}
use Rattle.tool_words.specs.declared.answer.Answer.{Answer}
use Rattle.tool_words.specs.declared.answer.Answer.TheVariants.{Asks, Help, Version}
use Rattle.tool_steps.specs.Builds.{version_line}
use Rattle.tool_steps.specs.Running.{FilesShown}
use Rattle.tool_steps.specs.declared.build.Build.{Build}
use Rattle.tool_steps.specs.Showing.{Shows}

-- What a program of this build does for it, with the files before and after, and on the outputs. With status 0 each
-- text is well-formed, each name that was asked for is set and the device list lacks no command, or the help or the
-- version was shown.
abbrev pub Does : Build → Answer Ask → Option Told → Option Told → Outputs → Result Bool CheckFault → Type 0
Does build (Asks ask) before after outputs result =
    IfTold before after (λ old new.
    ChecksFrom (asked_by ask.origin ask.devices_file ask.what ask.order) outputs.out outputs.out' old new result)
    × LeavesOutput result outputs.out outputs.out'
    × (outputs.err' ≡ outputs.err)
Does build (Help text) before after outputs result = IsShared (Shows (string_bytes text) before after outputs) result
Does build Version before after outputs result =
    IsShared (Shows (version_line (codes "hushcheck") build) before after outputs) result

-- the answer has each call on files that failed
abbrev pub Leaves : Answer Ask → Result Bool CheckFault → FilesShown → FilesShown → Type 0
Leaves ask result before after = CountsShared before.faults after.faults result
