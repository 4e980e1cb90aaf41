use Rattle.std.proofs.Common.{◌∙◌, arith, map}
use Rattle.std.proofs.lemmas.Grind.{common_steps}
use Rattle.tool_files.specs.MemoryFiles.{file_of}
use Rattle.tool_files.proofs.MemoryLemmas.{put-part}
use Rattle.tool_files.proofs.memory_files.MemoryFilesFiles.write_at.Goals as goal

pub returns-clause-told : goal.returns-clause-told
returns-clause-told c =
    let part = put-part c.args.path.now c.args.offset c.if-fails.kept c.args.bytes.now (map file_of c.args.self.now.files.items) in
    record {
      calls = grind (arith, common_steps, c.in_ok-push.ensures.items, c.in_ok-from_str.ensures.ok);
      stored = (part.0, c.put.ensures.files ∙ part.1);
    }
