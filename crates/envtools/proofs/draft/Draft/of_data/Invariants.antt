use Rattle.std.proofs.Common.{◌≡◌, fold}
use Rattle.std.specs.List.{AllByRecursion}
use Rattle.envimage.specs.Data.{IsVariable, pairs_of}
use Rattle.envimage.specs.Entries.{pairs_left}
use Rattle.envtools.specs.Environment.{assigned, env_of}
use Rattle.envtools.proofs.draft.Draft.of_data.Given as goal

-- adding the variables that are left makes the whole environment
abbrev pub invariant-loop-name : goal.invariant-loop-name
invariant-loop-name l = record {
  whole : fold (λ env p. assigned env p.0 p.1) l.draft (pairs_left l.name-iterator) ≡ env_of (pairs_of l.body);
  each : AllByRecursion IsVariable (pairs_left l.name-iterator);
}
