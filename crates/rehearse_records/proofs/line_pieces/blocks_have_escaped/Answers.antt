use Rattle.std.proofs.Common.{◌≡◌, ◌+◌, ◌<◌, ℕ, List, not, drop, length, ap, arith, sym, subst, ◌∙◌}
use Rattle.std.proofs.lemmas.List.{drop-drop}
use Rattle.std.specs.List.{list_any}
use Rattle.rehearse_records.specs.LinePieces.{stands}
use Rattle.rehearse_records.proofs.EscapeLemmas.{any-found, any-after, any-last}
use Rattle.rehearse_records.proofs.line_pieces.blocks_have_escaped.Goals as goal

pub returns-then-block_has_escaped : goal.returns-then-block_has_escaped
returns-then-block_has_escaped g c =
    let test = λ (b : ℕ). not (stands c.args.form b) in
    any-found test c.args.bytes.now c.loop-block.rest.now g.row.N c.loop-block.invariant.2
    (ap (list_any test) (sym c.in-Some.ensures.cases.0) ∙ sym c.if-block_has_escaped.ensures)

pub loop-block-preserved : goal.loop-block-preserved
loop-block-preserved g c =
    let test = λ (b : ℕ). not (stands c.args.form b) in
    let so_far = c.loop-block.invariant in
    let cut = c.in-Some.ensures.cases in (
      so_far.0 + g.row.N,
      cut.1 ∙ (ap (drop g.row.N) so_far.1 ∙ drop-drop g.row.N so_far.0 c.args.bytes.now),
      any-after test c.args.bytes.now c.loop-block.rest.now g.row.N so_far.2
          (ap (list_any test) (sym cut.0) ∙ sym c.if-block_has_escaped.ensures)
          ∙ ap (list_any test) (sym cut.1),
    )

pub returns-in-Some-last_chunk : goal.returns-in-Some-last_chunk
returns-in-Some-last_chunk g c =
    let test = λ (b : ℕ). not (stands c.args.form b) in
    let bytes = c.args.bytes.now in
    let so_far = c.loop-block.invariant in
    let P : List ℕ → Type 0 = λ rest. list_any test bytes ≡ list_any test rest in
    let Q : List ℕ → Type 0 = λ rest. length rest < g.row.N in
    let short = subst Q so_far.1 c.in_default.ensures.cases in
    rw (c.block_has_escaped-in-Some-last_chunk.ensures, c.in-Some-last_chunk.ensures.cases.1.same)
    (any-last test bytes so_far.0 g.row.N (subst P so_far.1 so_far.2) (omega (arith, short)))
