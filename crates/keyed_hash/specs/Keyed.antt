-- A hash with a key: SipHash-1-3 of the key and then of what is hashed. That names are found by it is ours.
use Rattle.std.specs.Prelude.{ℕ, List}
use Rattle.std.specs.Hash.DefaultHasher as sip
use Rattle.keyed_hash.specs.declared.keyed.KeyedHash.{KeyedHash}

-- nothing is in front of what is hashed
abbrev pub without_key : KeyedHash
without_key = record { begun = sip.initial }

-- the key of a hash, and then a text
abbrev pub with_text : KeyedHash → (text : List ℕ) → KeyedHash
with_text hash text = record { begun = sip.write hash.begun text }
