use Rattle.std.proofs.Common.{◌∙◌, ◌+◌, ap, refl, rules, length}
use Rattle.std.specs.Prelude.{nat_le}
use Rattle.tool_files.proofs.MemoryLemmas.{lookup-place, lookup-no_place, put-seen}
use Rattle.tool_files.proofs.memory_files.put.Goals as goal
use Rattle.tool_files.specs.declared.memory_files.MemoryFile.{MemoryFile}

pub returns-in-None-clause-room : goal.returns-in-None-clause-room
returns-in-None-clause-room c =
    let none = lookup-no_place c.args.path.now c.args.files.now.items (search (rules, c.place_of.ensures, c.in-None.is, c.deref.ensures.value)) in
    rw none refl

pub returns-in-None-clause-files : goal.returns-in-None-clause-files
returns-in-None-clause-files c =
    let none = lookup-no_place c.args.path.now c.args.files.now.items (search (rules, c.place_of.ensures, c.in-None.is, c.deref.ensures.value)) in
    rw none refl

pub returns-in-Some-clause-room : goal.returns-in-Some-clause-room
returns-in-Some-clause-room c =
    let there = lookup-place c.args.path.now c.args.files.now.items c.in-Some.at c.index_mut.result.now (search (rules, c.place_of.ensures, c.in-Some.is, c.deref.ensures.value)) in
    c.overwrite.ensures.fits
    ∙ rw there (ap (λ (f : MemoryFile). nat_le (c.args.offset + length c.args.bytes.now) (length f.bytes.items)) c.index_mut.ensures.value)

pub returns-in-Some-clause-files : goal.returns-in-Some-clause-files
returns-in-Some-clause-files c =
    put-seen c.args.path.now c.args.files.now.items c.in-Some.at c.args.offset c.args.bytes.now c.index_mut.result.now _
    (search (rules, c.place_of.ensures, c.in-Some.is, c.deref.ensures.value))
    c.index_mut.ensures.value
    refl
    (rw c.overwrite.ensures.fits at c.overwrite.ensures.after)
