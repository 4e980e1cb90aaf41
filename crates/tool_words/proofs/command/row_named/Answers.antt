use Rattle.std.proofs.Common.{◌∙◌, ap, sym}
use Rattle.std.specs.Option.{option_map}
use Rattle.std.specs.Str.{bytes_eq}
use Rattle.tool_words.specs.Arguments.{app_of_row}
use Rattle.tool_words.specs.declared.subcommand.Subcommand.{Subcommand}
use Rattle.tool_words.proofs.ArgumentLemmas.{named_row, row_here, row_next, row_none}
use Rattle.tool_words.proofs.command.row_named.Goals as goal

pub returns-then-eq : goal.returns-then-eq
returns-then-eq c =
    ap (option_map app_of_row) (row_here (λ (row : Subcommand). bytes_eq row.name.now c.args.name.now) c.args.rows.now c.loop-row.row-index _ c.loop-row-test.true (sym c.eq.ensures ∙ c.if-eq.true) c.loop-row.invariant)
    ∙ named_row c.args.name.now c.args.rows.now

pub loop-row-preserved : goal.loop-row-preserved
loop-row-preserved c =
    row_next (λ (row : Subcommand). bytes_eq row.name.now c.args.name.now) c.args.rows.now c.loop-row.row-index _ c.loop-row-test.true (sym c.eq.ensures ∙ c.if-eq.false) c.loop-row.invariant

pub returns : goal.returns
returns c =
    ap (option_map app_of_row) (row_none (λ (row : Subcommand). bytes_eq row.name.now c.args.name.now) c.args.rows.now c.loop-row.row-index c.loop-row-test.false c.loop-row.invariant)
    ∙ named_row c.args.name.now c.args.rows.now
