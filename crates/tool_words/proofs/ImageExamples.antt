-- Worked calls for a new image, computed.
use Rattle.std.proofs.Common.{false, true, refl, [], ◌∷◌, codes}
use Rattle.clap.proofs.OnLiterals.{clap_on_literals}
use Rattle.envimage.specs.declared.image.ByteOrder.TheVariants.{Big, Little}
use Rattle.tool_words.proofs.CommandLineExamples.{AsksFor, IsRefused}
use Rattle.tool_words.specs.Asked.{bad_fill, bad_size, making}
use Rattle.tool_words.specs.CommandLine.{ubtool}

-- image --size 16384 -o o t
usual_image : AsksFor (codes "image" ∷ codes "--size" ∷ codes "16384" ∷ codes "-o" ∷ codes "o" ∷ codes "t" ∷ [])
    (making (codes "t") (codes "o") (record { size = 16384; redundant = false; order = Little; fill = 255 }))
unfolding clap_on_literals ubtool
usual_image = (refl, refl)

-- image --size 0x4000 -o o t
hexadecimal_size : AsksFor (codes "image" ∷ codes "--size" ∷ codes "0x4000" ∷ codes "-o" ∷ codes "o" ∷ codes "t" ∷ [])
    (making (codes "t") (codes "o") (record { size = 16384; redundant = false; order = Little; fill = 255 }))
unfolding clap_on_literals ubtool
hexadecimal_size = (refl, refl)

-- image --size 0xaF -o o t
mixed_digits : AsksFor (codes "image" ∷ codes "--size" ∷ codes "0xaF" ∷ codes "-o" ∷ codes "o" ∷ codes "t" ∷ [])
    (making (codes "t") (codes "o") (record { size = 175; redundant = false; order = Little; fill = 255 }))
unfolding clap_on_literals ubtool
mixed_digits = (refl, refl)

-- image t --output o --fill 0x10 --big-endian --redundant --size 20
all_of_it : AsksFor (codes "image" ∷ codes "t" ∷ codes "--output" ∷ codes "o" ∷ codes "--fill" ∷ codes "0x10" ∷ codes "--big-endian" ∷ codes "--redundant" ∷ codes "--size" ∷ codes "20" ∷ [])
    (making (codes "t") (codes "o") (record { size = 20; redundant = true; order = Big; fill = 16 }))
unfolding clap_on_literals ubtool
all_of_it = (refl, refl)

-- image --size 20 --fill 7 -o o t
decimal_fill : AsksFor (codes "image" ∷ codes "--size" ∷ codes "20" ∷ codes "--fill" ∷ codes "7" ∷ codes "-o" ∷ codes "o" ∷ codes "t" ∷ [])
    (making (codes "t") (codes "o") (record { size = 20; redundant = false; order = Little; fill = 7 }))
unfolding clap_on_literals ubtool
decimal_fill = (refl, refl)

-- image --size 20 --fill 255 -o o t
greatest_fill : AsksFor (codes "image" ∷ codes "--size" ∷ codes "20" ∷ codes "--fill" ∷ codes "255" ∷ codes "-o" ∷ codes "o" ∷ codes "t" ∷ [])
    (making (codes "t") (codes "o") (record { size = 20; redundant = false; order = Little; fill = 255 }))
unfolding clap_on_literals ubtool
greatest_fill = (refl, refl)

-- image --size 4294967295 -o o t
greatest_size : AsksFor (codes "image" ∷ codes "--size" ∷ codes "4294967295" ∷ codes "-o" ∷ codes "o" ∷ codes "t" ∷ [])
    (making (codes "t") (codes "o") (record { size = 4294967295; redundant = false; order = Little; fill = 255 }))
unfolding clap_on_literals ubtool
greatest_size = (refl, refl)

-- image --size 4294967296 -o o t
size_beyond : AsksFor (codes "image" ∷ codes "--size" ∷ codes "4294967296" ∷ codes "-o" ∷ codes "o" ∷ codes "t" ∷ [])
    bad_size
unfolding clap_on_literals ubtool
size_beyond = (refl, refl)

-- image --size 4k -o o t
size_in_letters : AsksFor (codes "image" ∷ codes "--size" ∷ codes "4k" ∷ codes "-o" ∷ codes "o" ∷ codes "t" ∷ [])
    bad_size
unfolding clap_on_literals ubtool
size_in_letters = (refl, refl)

-- image --size 0x -o o t
size_without_digits : AsksFor (codes "image" ∷ codes "--size" ∷ codes "0x" ∷ codes "-o" ∷ codes "o" ∷ codes "t" ∷ [])
    bad_size
unfolding clap_on_literals ubtool
size_without_digits = (refl, refl)

-- image --size 0X10 -o o t
size_with_capital : AsksFor (codes "image" ∷ codes "--size" ∷ codes "0X10" ∷ codes "-o" ∷ codes "o" ∷ codes "t" ∷ [])
    bad_size
unfolding clap_on_literals ubtool
size_with_capital = (refl, refl)

-- image --size 40a -o o t
hexadecimal_size_bare : AsksFor (codes "image" ∷ codes "--size" ∷ codes "40a" ∷ codes "-o" ∷ codes "o" ∷ codes "t" ∷ [])
    bad_size
unfolding clap_on_literals ubtool
hexadecimal_size_bare = (refl, refl)

-- image --size 20 --fill 256 -o o t
fill_beyond : AsksFor (codes "image" ∷ codes "--size" ∷ codes "20" ∷ codes "--fill" ∷ codes "256" ∷ codes "-o" ∷ codes "o" ∷ codes "t" ∷ [])
    bad_fill
unfolding clap_on_literals ubtool
fill_beyond = (refl, refl)

-- image --size 20 --fill 0x100 -o o t
fill_hexadecimal_beyond : AsksFor (codes "image" ∷ codes "--size" ∷ codes "20" ∷ codes "--fill" ∷ codes "0x100" ∷ codes "-o" ∷ codes "o" ∷ codes "t" ∷ [])
    bad_fill
unfolding clap_on_literals ubtool
fill_hexadecimal_beyond = (refl, refl)

-- image --size 20 --fill ff -o o t
fill_in_letters : AsksFor (codes "image" ∷ codes "--size" ∷ codes "20" ∷ codes "--fill" ∷ codes "ff" ∷ codes "-o" ∷ codes "o" ∷ codes "t" ∷ [])
    bad_fill
unfolding clap_on_literals ubtool
fill_in_letters = (refl, refl)

-- image --size x --fill y -o o t
size_before_fill : AsksFor (codes "image" ∷ codes "--size" ∷ codes "x" ∷ codes "--fill" ∷ codes "y" ∷ codes "-o" ∷ codes "o" ∷ codes "t" ∷ [])
    bad_size
unfolding clap_on_literals ubtool
size_before_fill = (refl, refl)

-- image -o o t
no_size : IsRefused (codes "image" ∷ codes "-o" ∷ codes "o" ∷ codes "t" ∷ [])
unfolding clap_on_literals ubtool
no_size = refl

-- image --size 20 t
no_output : IsRefused (codes "image" ∷ codes "--size" ∷ codes "20" ∷ codes "t" ∷ [])
unfolding clap_on_literals ubtool
no_output = refl

-- image --size 20 -o o
no_text : IsRefused (codes "image" ∷ codes "--size" ∷ codes "20" ∷ codes "-o" ∷ codes "o" ∷ [])
unfolding clap_on_literals ubtool
no_text = refl

-- image --size 20 -o o t u
two_texts : IsRefused (codes "image" ∷ codes "--size" ∷ codes "20" ∷ codes "-o" ∷ codes "o" ∷ codes "t" ∷ codes "u" ∷ [])
unfolding clap_on_literals ubtool
two_texts = refl
