use Rattle.std.proofs.Common.{◌≡◌, ◌++◌, false, drop, map}
use Rattle.commands.specs.TextsShown.{texts}
use Rattle.device_list.specs.NamedFiles.{files_behind}
use Rattle.device_list.proofs.file_names.add_files.Given as goal

-- the files so far, and then those of the words left
abbrev pub invariant-loop-word : goal.invariant-loop-word
invariant-loop-word l = texts l.names.items ++ files_behind l.behind (map (λ w. w.now) (drop l.word-index l.words))
    ≡ texts l.fn.names.items ++ files_behind false (map (λ w. w.now) l.words)
