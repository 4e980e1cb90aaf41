-- Worked examples of the files that are read, computed.
use Rattle.std.proofs.Common.{◌≡◌, ℕ, List, [], ◌∷◌, refl}
use Rattle.std.specs.Prelude.{codes}
use Rattle.std.specs.Str.{chars, is_utf8}
use Rattle.std.specs.Str.Lossy.{utf8_valid_len}
use lib.Utf8.{encode}
use Rattle.board_files.specs.NamedFiles.{each_once, once_more, path_below, total}
use Rattle.device_list.specs.CallLines.{FileText}

-- a name is kept once
again : once_more (codes "b.scr" ∷ codes "a.scr" ∷ []) (codes "b.scr") ≡ codes "b.scr" ∷ codes "a.scr" ∷ []
again = refl

another : once_more (codes "b.scr" ∷ []) (codes "a.scr") ≡ codes "b.scr" ∷ codes "a.scr" ∷ []
another = refl

below : path_below (codes "/boot") (codes "boot.scr") ≡ codes "/boot/boot.scr"
below = refl

abbrev file_of : (text : List ℕ) → (size : ℕ) → FileText
file_of text size = record { text = text; size = size }

-- the texts count, not the sizes of the files
together : total ((codes "a", file_of (codes "123") 3) ∷ (codes "b", file_of (codes "45") 80) ∷ []) ≡ 5
together = refl

-- ---- each name once

twice : each_once (codes "b.scr" ∷ codes "a.scr" ∷ codes "b.scr" ∷ []) ≡ codes "b.scr" ∷ codes "a.scr" ∷ []
unfolding utf8_valid_len is_utf8 chars encode
twice = refl

-- a name that is not UTF-8 is left out
no-path : each_once (codes "b.scr" ∷ (97 ∷ 255 ∷ []) ∷ codes "a.scr" ∷ []) ≡ codes "b.scr" ∷ codes "a.scr" ∷ []
unfolding utf8_valid_len is_utf8 chars encode
no-path = refl
