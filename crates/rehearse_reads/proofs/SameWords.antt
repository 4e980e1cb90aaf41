-- Words expand to the same where the variables and the status that they read are the same.
use Rattle.std.proofs.Common.{◌≡◌, ◌∙◌, refl, sym, ap, ℕ, Bool, true, false, List, [], ◌∷◌, ◌++◌, map, Option, Some, None, unwrap_or, if◌then◌else◌}
use Rattle.std.specs.Prelude.{decimal}
use Rattle.std.specs.List.{flat_map, filter}
use Rattle.text.specs.Bytes as ascii
use Rattle.hushlang.specs.Tree as tree
use Rattle.hushlang.specs.Tree.{Word, Piece}
use Rattle.hushlang.specs.Expansion.{Parameters, Kept, split_atom, atoms_of_piece, atoms, cut, is_field, kept_bytes, fields_of_word, fields, all_bytes, joined}
use Rattle.hushlang.specs.KnownFields.{is_constant_word, are_constant}
use Rattle.hushlang_old.specs.OldFields.{newline_to_space, inserted, has_quotes, word_text, words_text, with_end, command_text, reread, old_fields, turns_of_word, old_turns}
use Rattle.hushlang_old.specs.OldFields as old
use Rattle.hushlang_old.specs.Defaults.{variable_of, behind_variable, has_more, with_default, looked_up}
use Rattle.hushlang_old.proofs.DefaultLemmas.{whole_name}
use Rattle.hushlang_modern.specs.ModernWords.{without_guards}
use Rattle.hushlang_modern.specs.ModernFields.{Expanding, nothing_expanded, with_bytes, piece_begun, guarded_all, with_value, with_piece, with_pieces, all_fields, expanded, modern_fields_of_word, modern_fields}
use Rattle.rehearse_terms.specs.State.{Text, State, get, value_in}
use Rattle.rehearse_terms.specs.declared.shell.Shell.{Shell}
use Rattle.rehearse_terms.specs.declared.shell.Shell.TheVariants.{Profile, Old2023, Old2025, Modern2025}
use Rattle.rehearse_rules.specs.Parameters.{parameters_in}
use Rattle.rehearse_rules.specs.ByShell.{fields_in, assigned_in, turns_in}
use Rattle.rehearse_reads.specs.Keys.{Key, Environment, Local, Status, AreAmong, AgreeOn}
use Rattle.rehearse_reads.specs.Accesses.{variable_reads, inside_reads, piece_reads, word_reads, words_reads}
use Rattle.rehearse_reads.proofs.AccessLemmas.{among_first, among_then}

module _ (known : List Key) (s t : State) (agree : AgreeOn known s t) where
  abbrev here : Parameters
  here = parameters_in s.memory

  abbrev there : Parameters
  there = parameters_in t.memory

  same_value : (name : Text) → AreAmong (variable_reads s.memory name) known → value_in t.memory name ≡ value_in s.memory name
  same_value name h = by (get s.memory.environment name) (get t.memory.environment name) (agree (Environment name) h.0) h.1
    where
      by : (o p : Option Text) → p ≡ o → AreAmong (elim o [ Some value ↦ [] | None ↦ Local name ∷ [] ]) known
          → ◌≡◌ {A = Option Text} (elim p [ Some value ↦ Some value | None ↦ get t.memory.locals name ]) (elim o [ Some value ↦ Some value | None ↦ get s.memory.locals name ])
      by (Some v) (Some w) e k = e
      by (Some v) None e k = absurd (cc)
      by None (Some w) e k = absurd (cc)
      by None None e k = agree (Local name) k.0

  abbrev behind_reads : Bool → Text → List Key
  behind_reads b inside = if b then variable_reads s.memory (variable_of inside) else []

  same_inside : (inside : Text) → AreAmong (inside_reads s.memory inside) known → value_in t.memory inside ≡ value_in s.memory inside
  same_inside inside h =
      same_value inside (among_first known (variable_reads s.memory inside) (behind_reads (has_more inside) inside) h)

  -- the variable that is named by the first bytes
  same_variable : (inside : Text) → AreAmong (inside_reads s.memory inside) known → value_in t.memory (variable_of inside) ≡ value_in s.memory (variable_of inside)
  same_variable inside h = by (has_more inside) refl h
    where
      by : (b : Bool) → has_more inside ≡ b → AreAmong (variable_reads s.memory inside ++ behind_reads b inside) known → value_in t.memory (variable_of inside) ≡ value_in s.memory (variable_of inside)
      by true e k = same_value (variable_of inside) (among_then known (variable_reads s.memory inside) (behind_reads true inside) k)
      by false e k =
          ap (value_in t.memory) (whole_name inside e)
          ∙ same_value inside (among_first known (variable_reads s.memory inside) [] k)
          ∙ ap (value_in s.memory) (sym (whole_name inside e))

  same_piece : (piece : Piece) → AreAmong (piece_reads s.memory piece) known → atoms_of_piece there piece ≡ atoms_of_piece here piece
  same_piece (tree.Bytes bytes) h = refl
  same_piece tree.Mark h = refl
  same_piece (tree.Var name true) h = ap (λ (o : Option Text). map split_atom (unwrap_or o [])) (same_inside name h)
  same_piece (tree.Var name false) h = ap (λ (o : Option Text). map Kept (unwrap_or o [])) (same_inside name h)
  same_piece tree.Status h = ap (λ (n : ℕ). map Kept (decimal n)) (agree Status h.0)

  -- the same, where the old shell looks for the values
  same_found : (piece : Piece) → AreAmong (piece_reads s.memory piece) known → atoms_of_piece (looked_up there) piece ≡ atoms_of_piece (looked_up here) piece
  same_found (tree.Bytes bytes) h = refl
  same_found tree.Mark h = refl
  same_found (tree.Var name true) h = ap (λ (o : Option Text). map split_atom (with_default (unwrap_or o []) (behind_variable name))) (same_variable name h)
  same_found (tree.Var name false) h = ap (λ (o : Option Text). map Kept (with_default (unwrap_or o []) (behind_variable name))) (same_variable name h)
  same_found tree.Status h = ap (λ (n : ℕ). map Kept (decimal n)) (agree Status h.0)

  module _ (p q : Parameters) (each : (piece : Piece) → AreAmong (piece_reads s.memory piece) known → atoms_of_piece q piece ≡ atoms_of_piece p piece) where
    same_pieces : (word : Word) → AreAmong (word_reads s.memory word) known → flat_map (atoms_of_piece q) word ≡ flat_map (atoms_of_piece p) word
    same_pieces [] h = refl
    same_pieces (piece ∷ word) h =
        ap (λ a. a ++ flat_map (atoms_of_piece q) word) (each piece (among_first known (piece_reads s.memory piece) (word_reads s.memory word) h))
        ∙ ap (λ a. atoms_of_piece p piece ++ a) (same_pieces word (among_then known (piece_reads s.memory piece) (word_reads s.memory word) h))

    atoms_by : (word : Word) → AreAmong (word_reads s.memory word) known → atoms q word ≡ atoms p word
    unfolding atoms
    atoms_by word h = same_pieces word h

    joined_by : (word : Word) → AreAmong (word_reads s.memory word) known → joined q word ≡ joined p word
    unfolding joined
    joined_by word h = ap all_bytes (atoms_by word h)

  same_atoms : (word : Word) → AreAmong (word_reads s.memory word) known → atoms there word ≡ atoms here word
  same_atoms word h = atoms_by here there same_piece word h

  same_joined : (word : Word) → AreAmong (word_reads s.memory word) known → joined there word ≡ joined here word
  same_joined word h = joined_by here there same_piece word h

  same_inserted : (word : Word) → AreAmong (word_reads s.memory word) known → inserted there word ≡ inserted here word
  unfolding inserted
  same_inserted word h =
      ap (λ (b : List ℕ). if is_constant_word word then b else map newline_to_space b) (joined_by (looked_up here) (looked_up there) same_found word h)

  same_text : (word : Word) → AreAmong (word_reads s.memory word) known → word_text there word ≡ word_text here word
  unfolding word_text
  same_text word h = ap (λ (b : List ℕ). if has_quotes word then (ascii.quote ∷ b) ++ ascii.quote ∷ [] else b) (same_inserted word h)

  -- what is made word by word
  same_each : {A : Type 0} (f g : Word → List A) → ((word : Word) → AreAmong (word_reads s.memory word) known → f word ≡ g word)
      → (words : List Word) → AreAmong (words_reads s.memory words) known → flat_map f words ≡ flat_map g words
  same_each f g each [] h = refl
  same_each f g each (word ∷ words) h =
      ap (λ a. a ++ flat_map f words) (each word (among_first known (word_reads s.memory word) (words_reads s.memory words) h))
      ∙ ap (λ a. g word ++ a) (same_each f g each words (among_then known (word_reads s.memory word) (words_reads s.memory words) h))

  same_fields : (words : List Word) → AreAmong (words_reads s.memory words) known → fields there words ≡ fields here words
  unfolding fields
  same_fields words h = same_each (fields_of_word there) (fields_of_word here) (λ word k. ap (λ a. map kept_bytes (filter is_field (cut a))) (same_atoms word k)) words h

  same_command : (words : List Word) → AreAmong (words_reads s.memory words) known → command_text there words ≡ command_text here words
  unfolding command_text
  same_command words h =
      ap with_end (same_each (λ word. ascii.space ∷ word_text there word) (λ word. ascii.space ∷ word_text here word) (λ word k. ap (λ (b : List ℕ). ascii.space ∷ b) (same_text word k)) words h)

  same_old_fields : (words : List Word) → AreAmong (words_reads s.memory words) known → old_fields there words ≡ old_fields here words
  unfolding old_fields
  same_old_fields words h =
      ap (λ (all : List Text). if are_constant words then all else unwrap_or (reread (command_text there words)) []) (same_fields words h)
      ∙ ap (λ (text : Text). if are_constant words then fields here words else unwrap_or (reread text) []) (same_command words h)

  same_old_turns : (words : List Word) → AreAmong (words_reads s.memory words) known → old_turns there words ≡ old_turns here words
  unfolding old_turns
  same_old_turns words h = same_each (turns_of_word there) (turns_of_word here) (λ word k. ap old.turns_in (same_inserted word k)) words h

  same_expanding : (piece : Piece) (e : Expanding) → AreAmong (piece_reads s.memory piece) known → with_piece there piece e ≡ with_piece here piece e
  same_expanding (tree.Bytes bytes) e h = refl
  same_expanding tree.Mark e h = refl
  same_expanding (tree.Var name true) e h = ap (λ (o : Option Text). with_value (unwrap_or o []) (piece_begun e)) (same_inside name h)
  same_expanding (tree.Var name false) e h = ap (λ (o : Option Text). with_bytes (guarded_all (unwrap_or o [])) (piece_begun e)) (same_inside name h)
  same_expanding tree.Status e h = ap (λ (n : ℕ). with_bytes (decimal n) (piece_begun e)) (agree Status h.0)

  same_word_expanding : (word : Word) (e : Expanding) → AreAmong (word_reads s.memory word) known → with_pieces there word e ≡ with_pieces here word e
  same_word_expanding [] e h = refl
  same_word_expanding (piece ∷ word) e h =
      ap (λ (f : Expanding). with_pieces there word f) (same_expanding piece e (among_first known (piece_reads s.memory piece) (word_reads s.memory word) h))
      ∙ same_word_expanding word (with_piece here piece e) (among_then known (piece_reads s.memory piece) (word_reads s.memory word) h)

  same_expanded : (word : Word) → AreAmong (word_reads s.memory word) known → expanded there word ≡ expanded here word
  unfolding expanded
  same_expanded word h = ap (λ (e : Expanding). map without_guards (all_fields e)) (same_word_expanding word nothing_expanded h)

  same_modern_word : (word : Word) → AreAmong (word_reads s.memory word) known → modern_fields_of_word there word ≡ modern_fields_of_word here word
  same_modern_word word h =
      ap (λ (a : List Text). if is_constant_word word then a else expanded there word) (ap (λ a. map kept_bytes (filter is_field (cut a))) (same_atoms word h))
      ∙ ap (λ (a : List Text). if is_constant_word word then fields_of_word here word else a) (same_expanded word h)

  same_modern_fields : (words : List Word) → AreAmong (words_reads s.memory words) known → modern_fields there words ≡ modern_fields here words
  unfolding modern_fields
  same_modern_fields words h = same_each (modern_fields_of_word there) (modern_fields_of_word here) same_modern_word words h

  -- ---- in each shell

  pub fields_agree : (shell : Shell) (words : List Word) → AreAmong (words_reads s.memory words) known → fields_in shell there words ≡ fields_in shell here words
  fields_agree Profile words h = same_fields words h
  fields_agree Old2023 words h = same_old_fields words h
  fields_agree Old2025 words h = same_old_fields words h
  fields_agree Modern2025 words h = same_modern_fields words h

  pub turns_agree : (shell : Shell) (words : List Word) → AreAmong (words_reads s.memory words) known → turns_in shell there words ≡ turns_in shell here words
  turns_agree Profile words h = same_fields words h
  turns_agree Old2023 words h = same_old_turns words h
  turns_agree Old2025 words h = same_old_turns words h
  turns_agree Modern2025 words h = same_modern_fields words h

  pub assigned_agree : (shell : Shell) (word : Word) → AreAmong (word_reads s.memory word) known → assigned_in shell there word ≡ assigned_in shell here word
  assigned_agree Profile word h = same_joined word h
  assigned_agree Old2023 word h = same_inserted word h
  assigned_agree Old2025 word h = same_inserted word h
  assigned_agree Modern2025 word h = same_joined word h
