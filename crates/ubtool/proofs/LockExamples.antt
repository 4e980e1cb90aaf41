-- What takes the lock, in worked cases.
use Rattle.std.proofs.Common.{ap, arith, ℕ, Bool, true, false, refl, inl, inr, None, Ok, Err}
use Rattle.std.specs.Prelude.{String}
use Rattle.std.specs.declared.alloc.Global.{Global}
use Rattle.envimage.specs.declared.image.ByteOrder.{ByteOrder}
use Rattle.tool_words.specs.declared.ask.Ask.TheVariants.{Image, Print, Setenv, Version}
use Rattle.tool_words.specs.declared.ask.Change.{Change}
use Rattle.tool_words.specs.declared.ask.ImageAsk.{ImageAsk}
use Rattle.tool_words.specs.declared.ask.Origin.{Origin}
use Rattle.tool_words.specs.declared.ask.PrintAsk.{PrintAsk}
use Rattle.tool_files.specs.declared.files.LockFault.TheVariants.{NoFile}
use Rattle.ubtool.specs.declared.fault.ProgramFault.TheVariants.{Shared}
use Rattle.tool_images.specs.declared.fault.Fault.TheVariants.{Lock, Memory}
use Rattle.tool_steps.specs.Running.{FilesShown}
use Rattle.ubtool.specs.Locking.{IsLockedOut, LocksFor}

-- files whose contents are not known, with so many failures, and with the lock or without it
abbrev files : ℕ → Bool → FilesShown
files faults locked = record { faults = faults; told = None; locked = locked }

module _ (origin : Origin) (change : Change) (what : PrintAsk) (order : ByteOrder) (one_copy : Bool) where
  -- a change takes the lock, or goes on under a lock that is held already
  change_takes_it : LocksFor (Setenv origin change order one_copy) (Ok true) (files 0 false) (files 0 true)
  change_takes_it = inl refl

  change_keeps_it : LocksFor (Setenv origin change order one_copy) (Ok true) (files 0 true) (files 0 true)
  change_keeps_it = inl refl

  -- it is refused if the lock is, and touches no file then
  refused_with_it : LocksFor (Setenv origin change order one_copy) (Err (Shared (Lock NoFile))) (files 0 false) (files 0 false)
  refused_with_it = inr (record { fault = NoFile; told = refl; untouched = refl })

  touching_without_it : IsLockedOut (Err (Shared (Lock NoFile))) (files 0 false) (files 1 false) → ⊥
  touching_without_it h = omega (arith, ap (λ (f : FilesShown). f.faults) h.untouched)

  -- and is neither made nor refused for another reason without it
  no_change_without_it : IsLockedOut (Ok true) (files 0 false) (files 0 false) → ⊥
  no_change_without_it h = let is = h.told in cc

  no_other_refusal_without_it : IsLockedOut (Err (Shared Memory)) (files 0 false) (files 0 false) → ⊥
  no_other_refusal_without_it h = let is = h.told in cc

  -- printing takes none, and keeps a lock that is held
  printing_takes_none : LocksFor (Print origin what order one_copy) (Ok true) (files 0 false) (files 0 true) → ⊥
  printing_takes_none h = cc

  printing_keeps_it : LocksFor (Print origin what order one_copy) (Ok true) (files 0 true) (files 0 true)
  printing_keeps_it = refl

-- nor does a new image
module _ (text output : String Global) (what : ImageAsk) where
  making_takes_none : LocksFor (Image text output what) (Ok true) (files 0 false) (files 0 true) → ⊥
  making_takes_none h = cc

version_takes_none : LocksFor Version (Ok true) (files 0 false) (files 0 true) → ⊥
version_takes_none h = cc
