-- Texts from U-Boot's console, in worked cases, computed.
use Rattle.std.specs.Prelude.{◌≡◌, [], None, Some, false, true, codes, refl}
use Rattle.tool_images.specs.Dump.{dumped_text, is_size_line, read_text}

-- what U-Boot's sandbox (2025.01) writes: a carriage return in front of each newline, and a backslash in front of a newline or a
-- backslash in a value
console : dumped_text (codes "a=echo hi\r\nbaudrate=115200\r\nbootcmd=run a; echo \\\\$x\r\nz=one\\\r\ntwo\r\n\r\nEnvironment size: 104/8188 bytes\r\n")
    ≡ Some (codes "a=echo hi\nbaudrate=115200\nbootcmd=run a; echo \\\\$x\nz=one\\\ntwo\n")
console = refl

-- without carriage returns
plain : dumped_text (codes "a=1\nb=2\n\nEnvironment size: 9/8188 bytes\n") ≡ Some (codes "a=1\nb=2\n")
plain = refl

-- the last line lacks its newline
cut_off : dumped_text (codes "a=1\n\nEnvironment size: 5/8188 bytes") ≡ Some (codes "a=1\n")
cut_off = refl

-- empty lines may follow
more_empty : dumped_text (codes "a=1\n\nEnvironment size: 5/8188 bytes\n\r\n\n") ≡ Some (codes "a=1\n")
more_empty = refl

-- all carriage returns at the end of a line are left out, and none within it
returns : dumped_text (codes "a=1\r2\r\r\n\r\r\nEnvironment size: 7/8188 bytes\r\r\n") ≡ Some (codes "a=1\r2\n")
returns = refl

-- no variable
none : dumped_text (codes "\nEnvironment size: 1/8188 bytes\n") ≡ Some []
none = refl

-- ---- texts that are none

-- the line is not the last one
in_the_middle : dumped_text (codes "a=1\n\nEnvironment size: 5/8188 bytes\nb=2\n") ≡ None
in_the_middle = refl

-- there is no empty line in front of it
no_empty_line : dumped_text (codes "a=1\nEnvironment size: 5/8188 bytes\n") ≡ None
no_empty_line = refl

-- a variable of this name
variable : dumped_text (codes "a=1\n\nEnvironment size: 5/8188 bytes=\n") ≡ None
variable = refl

-- a text without the line keeps its carriage returns, as mkenvimage keeps them
as_it_is : read_text (codes "a=1\r\nb=2") ≡ codes "a=1\r\nb=2"
as_it_is = refl

empty : read_text [] ≡ []
empty = refl

-- ---- the line

no_size : is_size_line (codes "Environment size: /8188 bytes") ≡ false
no_size = refl

no_slash : is_size_line (codes "Environment size: 8188 bytes") ≡ false
no_slash = refl

no_total : is_size_line (codes "Environment size: 5/ bytes") ≡ false
no_total = refl

two_slashes : is_size_line (codes "Environment size: 5/6/7 bytes") ≡ false
two_slashes = refl

no_bytes : is_size_line (codes "Environment size: 5/8188") ≡ false
no_bytes = refl

hexadecimal : is_size_line (codes "Environment size: 0x5/0x1ffc bytes") ≡ false
hexadecimal = refl

in_front : is_size_line (codes "=> Environment size: 5/8188 bytes") ≡ false
in_front = refl

other_case : is_size_line (codes "environment size: 5/8188 bytes") ≡ false
other_case = refl

long : is_size_line (codes "Environment size: 1048571/1048572 bytes") ≡ true
long = refl
