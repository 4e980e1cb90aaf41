use Rattle.std.proofs.Common.{◌≡◌, drop}
use Rattle.std.specs.Prelude.{find}
use Rattle.std.specs.Str.{bytes_eq}
use Rattle.tool_words.specs.declared.subcommand.Subcommand.{Subcommand}
use Rattle.tool_words.proofs.command.row_named.Given as goal

-- the rows that are left have what all rows have
abbrev pub invariant-loop-row : goal.invariant-loop-row
invariant-loop-row l = find (λ (row : Subcommand). bytes_eq row.name.now l.name) (drop l.row-index l.rows) ≡ find (λ (row : Subcommand). bytes_eq row.name.now l.name) l.rows
