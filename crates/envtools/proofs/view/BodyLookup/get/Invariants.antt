use Rattle.std.proofs.Common.{◌≡◌, fold}
use Rattle.std.specs.Option.{option_copied}
use Rattle.envimage.specs.Data.{pairs_of}
use Rattle.envimage.specs.Entries.{pairs_left}
use Rattle.envtools.specs.Environment.{env_of, value_of}
use Rattle.envtools.proofs.EnvOf.{last_value}
use Rattle.envtools.proofs.view.BodyLookup.get.Given as goal

-- what was found, together with the pairs that are left, gives the answer
abbrev pub invariant-loop-key : goal.invariant-loop-key
invariant-loop-key l =
    fold (last_value l.name) (option_copied l.found) (pairs_left l.key-iterator) ≡ value_of (env_of (pairs_of l.self.bytes.now)) l.name
