-- Where the new file lies that is to replace a file, and its name. They are ours.
use Rattle.std.specs.Prelude.{ℕ, List, [], ◌++◌, codes, decimal, if◌then◌else◌, length, nat_le}
use Rattle.std.specs.Option.{unwrap_or}
use Rattle.std.specs.Path.{path_file_name, path_with_file_name}

-- a file's own name as it is in that of a new file, whose name has at most 255 bytes
abbrev pub own_part : List ℕ → List ℕ
own_part own = if nat_le (length own) 200 then own else []

-- the name of a new file: the file's own, the number of the process, and a number
abbrev pub name_beside : List ℕ → ℕ → ℕ → List ℕ
name_beside own process number =
    codes "." ++ (own ++ (codes "." ++ (decimal process ++ (codes "." ++ decimal number))))

-- its path: in the folder of the file
abbrev pub path_beside : List ℕ → ℕ → ℕ → List ℕ
path_beside path process number = path_with_file_name path
    (name_beside (own_part (unwrap_or (path_file_name path) [])) process number)
