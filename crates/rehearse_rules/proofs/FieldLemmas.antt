-- Words without a variable: their fields are the same in each shell.
use Rattle.std.proofs.Common.{◌≡◌, Bool, true, false, ◌&&◌, List, Some, None, refl, sym, ◌∙◌, nat_le}
use Rattle.std.specs.Prelude.{if◌then◌else◌}
use Rattle.hushlang.specs.Tree.{Word}
use Rattle.hushlang.specs.Expansion.{Parameters, fields, size, most_bytes}
use Rattle.hushlang.specs.KnownFields.{are_constant, nothing_set, known_fields}
use Rattle.rehearse_terms.specs.declared.shell.Shell.{Shell}
use Rattle.rehearse_terms.specs.declared.shell.Shell.TheVariants.{Profile, Old2023, Old2025, Modern2025}
use Rattle.rehearse_terms.specs.State.{Text}
use Rattle.rehearse_rules.specs.ByShell.{fields_in}
use Rattle.hushlang_old.proofs.OldFieldLemmas.{constant_words}
use Rattle.hushlang_modern.proofs.FieldLemmas as modern

constant_at : (b c : Bool) (found known : List Text) → Some known ≡ (if b && c then Some found else None) → b ≡ true
constant_at true c found known e = refl
constant_at false c found known e = absurd (let f = e in cc)

constant_if_known : (words : List Word) (known : List Text) → Some known ≡ known_fields words → are_constant words ≡ true
constant_if_known words known e = constant_at (are_constant words) (nat_le (size (fields nothing_set words)) most_bytes) (fields nothing_set words) known e

-- the fields that are known of a command are its fields in each shell
pub known_in_each : (shell : Shell) (parameters : Parameters) (words : List Word) (known : List Text) → Some known ≡ known_fields words → known ≡ fields parameters words → known ≡ fields_in shell parameters words
known_in_each Profile parameters words known e k = k
known_in_each Old2023 parameters words known e k = k ∙ sym (constant_words parameters words (constant_if_known words known e))
known_in_each Old2025 parameters words known e k = k ∙ sym (constant_words parameters words (constant_if_known words known e))
known_in_each Modern2025 parameters words known e k = k ∙ sym (modern.constant_words parameters words (constant_if_known words known e))
