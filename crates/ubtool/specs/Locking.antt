-- What takes the lock. That a change does, is U-Boot's rule (tools/env/fw_env_main.c); that nothing else does, is ours.
use Rattle.std.specs.Prelude.{◌≡◌, ◌⊎◌, Bool, true, Result, Err}
use Rattle.tool_words.specs.declared.ask.Ask.{Ask}
use Rattle.tool_words.specs.declared.ask.Ask.TheVariants.{Setenv}
use Rattle.tool_files.specs.declared.files.LockFault.{LockFault}
use Rattle.ubtool.specs.declared.fault.ProgramFault.{ProgramFault}
use Rattle.ubtool.specs.declared.fault.ProgramFault.TheVariants.{Shared}
use Rattle.tool_images.specs.declared.fault.Fault.TheVariants.{Lock}
use Rattle.tool_steps.specs.Running.{FilesShown}

-- The lock is refused, and no file was touched.
pub record IsLockedOut (answer : Result Bool ProgramFault) (before after : FilesShown) : Type 0 where
  pub fault : LockFault
  pub told : answer ≡ Err (Shared (Lock fault))
  pub untouched : after ≡ before

-- a change takes the lock, or it is refused and touches no file; nothing else takes it
abbrev pub LocksFor : Ask → Result Bool ProgramFault → (before after : FilesShown) → Type 0
LocksFor (Setenv origin change order one_copy) answer before after =
    (after.locked ≡ true) ⊎ IsLockedOut answer before after
LocksFor ask answer before after = after.locked ≡ before.locked
