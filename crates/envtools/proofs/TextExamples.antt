-- Texts as mkenvimage reads them, in worked cases. The data are those in the images of Debian's mkenvimage (2023.01), up to
-- one NUL more at the end of a text whose last line has its newline.
use Rattle.std.specs.Prelude.{◌≡◌, [], ◌∷◌, ◌++◌, Some, codes, refl}
use Rattle.envimage.specs.Data.{data_fault}
use Rattle.envimage.specs.declared.content.DataError.TheVariants.{EmptyName, NoEquals}
use Rattle.envtools.specs.FromText.{data_of, line_of}

-- each line is an entry
two_lines : data_of (codes "a=1\nb=2\n") ≡ codes "a=1" ++ 0 ∷ (codes "b=2" ++ 0 ∷ 0 ∷ 0 ∷ [])
two_lines = refl

-- comments and empty lines are skipped
comments : data_of (codes "# c\n\na=1\n#b=2\n\n\nc=3\n") ≡ codes "a=1" ++ 0 ∷ (codes "c=3" ++ 0 ∷ 0 ∷ 0 ∷ [])
comments = refl

-- a newline after a backslash belongs to the value
escaped : data_of (codes "a=1\\\n2\n") ≡ codes "a=1\n2" ++ 0 ∷ 0 ∷ 0 ∷ []
escaped = refl

-- an empty line after it is skipped all the same, and ends nothing
escaped_before_empty : data_of (codes "a=1\\\n\nb=2\n") ≡ codes "a=1\nb=2" ++ 0 ∷ 0 ∷ 0 ∷ []
escaped_before_empty = refl

-- and so is a comment
escaped_before_comment : data_of (codes "a=1\\\n#x\nb=2\n") ≡ codes "a=1\nb=2" ++ 0 ∷ 0 ∷ 0 ∷ []
escaped_before_comment = refl

-- the last line lacks its newline
cut_off : data_of (codes "a=1") ≡ codes "a=1" ++ 0 ∷ 0 ∷ []
cut_off = refl

-- the last byte is a backslash
last_backslash : data_of (codes "a=1\\") ≡ codes "a=1\\" ++ 0 ∷ 0 ∷ []
last_backslash = refl

-- the last newline is escaped
last_escaped : data_of (codes "a=1\\\n") ≡ codes "a=1\n" ++ 0 ∷ 0 ∷ []
last_escaped = refl

-- a hash that does not start its line
hash_within : data_of (codes "a=1 #x\n #b=2\n") ≡ codes "a=1 #x" ++ 0 ∷ (codes " #b=2" ++ 0 ∷ 0 ∷ 0 ∷ [])
hash_within = refl

-- the second of two backslashes is before the newline
two_backslashes : data_of (codes "a=\\\\\n2\n") ≡ codes "a=\\\n2" ++ 0 ∷ 0 ∷ 0 ∷ []
two_backslashes = refl

-- a comment that lacks its newline
cut_off_comment : data_of (codes "a=1\n#x") ≡ codes "a=1" ++ 0 ∷ 0 ∷ 0 ∷ []
cut_off_comment = refl

-- a backslash at the end of a comment
escape_in_comment : data_of (codes "a=1\n#x\\\nb=2\n") ≡ codes "a=1" ++ 0 ∷ (codes "b=2" ++ 0 ∷ 0 ∷ 0 ∷ [])
escape_in_comment = refl

-- a NUL ends an entry
nul_within : data_of (codes "a=1" ++ 0 ∷ (codes "b=2\n")) ≡ codes "a=1" ++ 0 ∷ (codes "b=2" ++ 0 ∷ 0 ∷ 0 ∷ [])
nul_within = refl

-- a carriage return is a byte of the value
returns : data_of (codes "a=1\r\n") ≡ codes "a=1\r" ++ 0 ∷ 0 ∷ 0 ∷ []
returns = refl

-- a backslash before another byte
other_escape : data_of (codes "a=\\n\n") ≡ codes "a=\\n" ++ 0 ∷ 0 ∷ 0 ∷ []
other_escape = refl

-- a backslash before a newline at the start
escape_first : data_of (codes "\\\na=1\n") ≡ codes "\na=1" ++ 0 ∷ 0 ∷ 0 ∷ []
escape_first = refl

-- nothing but a comment
only_comment : data_of (codes "#\n") ≡ 0 ∷ 0 ∷ []
only_comment = refl

-- nothing
empty : data_of [] ≡ 0 ∷ 0 ∷ []
empty = refl

-- ---- the lines of faulty entries

-- the third line has no `=`, and starts at byte 4 of the data
no_equals : data_fault (data_of (codes "a=1\n\nxy\n")) ≡ Some (NoEquals 4)
no_equals = refl

its_line : line_of (codes "a=1\n\nxy\n") 4 ≡ 3
its_line = refl

-- an entry of two lines, of which the first one counts
second_line : line_of (codes "# c\na=1\nx\\\ny\nb=2\n") 4 ≡ 3
second_line = refl

no_name : data_fault (data_of (codes "=1\n")) ≡ Some (EmptyName 0)
no_name = refl

first_line : line_of (codes "=1\n") 0 ≡ 1
first_line = refl

-- a line that starts with a backslash, whose byte is added with the next one
backslash_first : line_of (codes "a=1\n\\x\n") 4 ≡ 2
backslash_first = refl
