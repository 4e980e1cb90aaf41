use Rattle.std.proofs.Common.{◌∙◌, ap, sym, Some}
use Rattle.tool_files.proofs.MemoryLemmas.{lookup-place, lookup-no_place}
use Rattle.tool_files.proofs.memory_files.bytes_of.Goals as goal

pub returns-in-Some : goal.returns-in-Some
returns-in-Some c =
    ap Some c.as_slice.ensures.value
    ∙ sym (lookup-place c.args.path.now c.args.files.now c.in-Some.at c.index-files-at.result (sym c.place_of.ensures ∙ c.in-Some.is))

pub returns-in-None : goal.returns-in-None
returns-in-None c = sym (lookup-no_place c.args.path.now c.args.files.now (sym c.place_of.ensures ∙ c.in-None.is))
