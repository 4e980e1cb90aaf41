-- What the pieces of an entry write, one after another.
use Rattle.std.proofs.Common.{◌≡◌, ℕ, ◌<◌, Bool, true, false, not, List, [], ◌∷◌, ◌++◌, length, Result, Ok, Err, refl, arith}
use Rattle.std.specs.Prelude.{if◌then◌else◌}
use Rattle.std.specs.List.{flat_map}
use Rattle.text.specs.Escapes.{word_escaped, word_form}
use Rattle.output.specs.Sink.{Sink, Wrote, BrokeOff, Prints}
use Rattle.output.proofs.SinkLemmas.{Wrote-append, BrokeOff-after}

-- a text that was written, then one that was written or broke off
pub Prints-after : {T E : Type 0} {a b : Sink} {xs : List ℕ} (c : Sink) (ys : List ℕ) (result : Result T E) → Wrote a b xs → Prints result b c ys → Prints result a c (xs ++ ys)
Prints-after c ys (Ok done) p q = Wrote-append p q
Prints-after c ys (Err e) p q = BrokeOff-after p q

-- a word with a byte in it that broke off
pub broke_in_word : {a b : Sink} (bytes : List ℕ) (at : ℕ) → at < length bytes → BrokeOff a b (flat_map word_escaped bytes) → BrokeOff a b (word_form bytes)
broke_in_word [] at h p = absurd (omega arith)
broke_in_word (b ∷ bytes) at h p = p

-- a header that is printed
pub header_there : (is_there : Bool) (text : List ℕ) → not is_there ≡ false → (if is_there then text else []) ≡ text
header_there true text e = refl
header_there false text e = cc
