use Rattle.std.proofs.Common.{◌≡◌, false, take}
use Rattle.std.specs.List.{list_any}
use Rattle.envtools.specs.Importing.{is_doubtful}
use Rattle.envtools.proofs.ImportLemmas.{imported_of}
use Rattle.envtools.proofs.env.Env.imported.Given as goal

abbrev pub invariant-loop-place : goal.invariant-loop-place
invariant-loop-place l = record {
  some : l.env ≡ imported_of (take l.place l.self);
  none : list_any is_doubtful (take l.place l.self) ≡ false;
}
