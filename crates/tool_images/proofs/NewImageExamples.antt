-- New images of texts, in worked cases, computed. The bytes after the checksum are those of Debian's mkenvimage (2023.01).
use Rattle.std.specs.Prelude.{◌≡◌, [], ◌∷◌, ◌++◌, codes, true, false, refl}
use Rattle.envimage.specs.declared.image.ByteOrder.TheVariants.{Little, Big}
use Rattle.envtools.specs.Environment.{env_of}
use Rattle.tool_images.specs.NewImages.{data_of, image_of, is_size_of, needed_of}

-- the entries, one NUL at the end of the data, and the filling: `mkenvimage -s 16` of the line a=1
filled : data_of ((codes "a", codes "1") ∷ []) 7 255 ≡ codes "a=1" ++ 0 ∷ 0 ∷ 255 ∷ 255 ∷ 255 ∷ 255 ∷ 255 ∷ 255 ∷ 255 ∷ []
filled = refl

-- no variables
empty : data_of [] 2 255 ≡ 0 ∷ 255 ∷ 255 ∷ []
empty = refl

-- just room enough
full : needed_of (record { size = 12; redundant = false; order = Little; fill = 255 }) ((codes "abcd", codes "1") ∷ []) ≡ 12
full = refl

-- the flag of a copy takes one byte more
full_copy : needed_of (record { size = 13; redundant = true; order = Little; fill = 255 }) ((codes "abcd", codes "1") ∷ []) ≡ 13
full_copy = refl

-- `mkenvimage -s 12` of the line abcd=1, checksum and all
whole : image_of (record { size = 12; redundant = false; order = Little; fill = 255 }) ((codes "abcd", codes "1") ∷ [])
    ≡ 34 ∷ 33 ∷ 112 ∷ 160 ∷ (codes "abcd=1" ++ 0 ∷ 0 ∷ [])
whole = refl

-- `mkenvimage -s 16 -r -b -p 0x20` of the line a=1
copy : image_of (record { size = 16; redundant = true; order = Big; fill = 32 }) ((codes "a", codes "1") ∷ [])
    ≡ 174 ∷ 98 ∷ 226 ∷ 139 ∷ 1 ∷ (codes "a=1" ++ 0 ∷ 0 ∷ codes "      ")
copy = refl

-- the least sizes, and the greatest
least : is_size_of (record { size = 5; redundant = false; order = Little; fill = 255 }) ≡ true
least = refl

less : is_size_of (record { size = 4; redundant = false; order = Little; fill = 255 }) ≡ false
less = refl

least_copy : is_size_of (record { size = 6; redundant = true; order = Little; fill = 255 }) ≡ true
least_copy = refl

less_copy : is_size_of (record { size = 5; redundant = true; order = Little; fill = 255 }) ≡ false
less_copy = refl

greatest : is_size_of (record { size = 1048576; redundant = false; order = Little; fill = 255 }) ≡ true
greatest = refl

greater : is_size_of (record { size = 1048577; redundant = false; order = Little; fill = 255 }) ≡ false
greater = refl

-- a name that is there twice has one entry, in its first place, with its last value
repeated : data_of (env_of ((codes "a", codes "1") ∷ (codes "b", codes "3") ∷ (codes "a", codes "2") ∷ [])) 0 255 ≡ codes "a=2" ++ 0 ∷ (codes "b=3" ++ 0 ∷ 0 ∷ [])
repeated = refl
