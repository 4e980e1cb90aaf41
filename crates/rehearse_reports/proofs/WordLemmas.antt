-- Reports of what words read.
use Rattle.std.proofs.Common.{◌≡◌, ◌∙◌, refl, sym, ap, subst, ℕ, Bool, true, false, List, [], ◌∷◌, ◌++◌, append-nil, if◌then◌else◌, map, Option, Some, None, Vec, Global}
use Rattle.std.specs.Prelude.{OnOk, Result}
use Rattle.std.specs.List.{flat_map}
use Rattle.std.proofs.lemmas.List.Folds.{flat_map-map}
use Rattle.hushlang.specs.TreesShown as view
use Rattle.hushlang.specs.declared.tree.Piece.{Piece}
use Rattle.hushlang.specs.declared.tree.Word.{Word}
use Rattle.hushlang_old.specs.Defaults.{variable_of, has_more}
use Rattle.rehearse_terms.specs.State.{Text, Memory, get}
use Rattle.rehearse_reads.specs.Keys.{Key, Access, Reads, Writes, Environment, Local, all_read}
use Rattle.rehearse_reads.specs.Accesses.{variable_reads, inside_reads, piece_reads, word_reads, words_reads}
use Rattle.rehearse_reports.specs.Reports.{Reports}
use Rattle.rehearse_reports.proofs.ReportLemmas.{reports_then, reads_in_turn}

pub read_as : (old new : List Access) (name other : Text) (key : Text → Key) → other ≡ name → Reports old new (Reads (key other) ∷ []) → Reports old new (Reads (key name) ∷ [])
read_as old new name other key e h = subst (λ (x : Text). Reports old new (Reads (key x) ∷ [])) e h

pub variable_set : (old new : List Access) (m : Memory) (name value : Text) → get m.environment name ≡ Some value → Reports old new (Reads (Environment name) ∷ []) → Reports old new (all_read (variable_reads m name))
variable_set old new m name value e h = subst (λ (o : Option Text). Reports old new (all_read (Environment name ∷ (elim o [ Some v ↦ [] | None ↦ Local name ∷ [] ])))) (sym e) h

pub variable_unset : (old mid new : List Access) (m : Memory) (name : Text) → get m.environment name ≡ None → Reports old mid (Reads (Environment name) ∷ []) → Reports mid new (Reads (Local name) ∷ []) → Reports old new (all_read (variable_reads m name))
variable_unset old mid new m name e h k =
    subst (λ (o : Option Text). Reports old new (all_read (Environment name ∷ (elim o [ Some v ↦ [] | None ↦ Local name ∷ [] ])))) (sym e) (reports_then old mid new (Reads (Environment name) ∷ []) (Reads (Local name) ∷ []) h k)

reads_more : (xs ys : List Key) → all_read (xs ++ ys) ≡ all_read xs ++ all_read ys
reads_more [] ys = refl
reads_more (x ∷ xs) ys = ap (λ (a : List Access). Reads x ∷ a) (reads_more xs ys)

-- what is in the braces of a variable names another one
pub inside_more : (old mid new : List Access) (m : Memory) (inside variable : Text) → has_more inside ≡ true → variable ≡ variable_of inside → Reports old mid (all_read (variable_reads m inside)) → Reports mid new (all_read (variable_reads m variable)) → Reports old new (all_read (inside_reads m inside))
inside_more old mid new m inside variable more named h k =
    subst (λ (b : Bool). Reports old new (all_read (variable_reads m inside ++ (if b then variable_reads m (variable_of inside) else [])))) (sym more)
    (subst (Reports old new) (sym (reads_more (variable_reads m inside) (variable_reads m (variable_of inside))))
    (reports_then old mid new (all_read (variable_reads m inside)) (all_read (variable_reads m (variable_of inside))) h
    (subst (λ (t : Text). Reports mid new (all_read (variable_reads m t))) named k)))

pub inside_alone : (old new : List Access) (m : Memory) (inside : Text) → has_more inside ≡ false → Reports old new (all_read (variable_reads m inside)) → Reports old new (all_read (inside_reads m inside))
inside_alone old new m inside none h =
    subst (λ (b : Bool). Reports old new (all_read (variable_reads m inside ++ (if b then variable_reads m (variable_of inside) else [])))) (sym none)
    (subst (λ (keys : List Key). Reports old new (all_read keys)) (sym (append-nil (variable_reads m inside))) h)

pub piece_as : (old new : List Access) (m : Memory) (piece other : Piece) → piece ≡ other → Reports old new (all_read (piece_reads m (view.piece other))) → Reports old new (all_read (piece_reads m (view.piece piece)))
piece_as old new m piece other e h = subst (λ (x : Piece). Reports old new (all_read (piece_reads m (view.piece x)))) (sym e) h

pub piece_all_as : {E : Type 0} (r : Result (Unit {0}) E) (old new : List Access) (m : Memory) (piece other : Piece) → piece ≡ other → OnOk r (Reports old new (all_read (piece_reads m (view.piece other)))) → OnOk r (Reports old new (all_read (piece_reads m (view.piece piece))))
piece_all_as r old new m piece other e h = subst (λ (x : Piece). OnOk r (Reports old new (all_read (piece_reads m (view.piece x))))) (sym e) h

-- the pieces of a word in turn
abbrev pub of_piece : Memory → Piece → List Access
of_piece m piece = all_read (piece_reads m (view.piece piece))

pub word_done : (old new : List Access) (m : Memory) (pieces : List Piece) → Reports old new (flat_map (of_piece m) pieces) → Reports old new (all_read (word_reads m (map view.piece pieces)))
word_done old new m pieces h =
    subst (Reports old new) (reads_in_turn (λ (p : Piece). piece_reads m (view.piece p)) pieces ∙ ap all_read (sym (flat_map-map (piece_reads m) view.piece pieces))) h

abbrev pub of_word : Memory → Word → List Access
of_word m word = all_read (word_reads m (view.word word))

pub words_done : (old new : List Access) (m : Memory) (words : List Word) → Reports old new (flat_map (of_word m) words) → Reports old new (all_read (words_reads m (map view.word words)))
words_done old new m words h =
    subst (Reports old new) (reads_in_turn (λ (w : Word). word_reads m (view.word w)) words ∙ ap all_read (sym (flat_map-map (word_reads m) view.word words))) h

abbrev pub of_value : Memory → Vec ℕ Global × Word → List Access
of_value m value = all_read (word_reads m (view.word value.1))

pub values_done : (old new : List Access) (m : Memory) (values : List (Vec ℕ Global × Word)) → Reports old new (flat_map (of_value m) values) → Reports old new (all_read (flat_map (λ v. word_reads m (view.word v.1)) values))
values_done old new m values h = subst (Reports old new) (reads_in_turn (λ (v : Vec ℕ Global × Word). word_reads m (view.word v.1)) values) h

pub written_as : (old new : List Access) (name other : Text) → other ≡ name → Reports old new (Writes (Local other) ∷ []) → Reports old new (Writes (Local name) ∷ [])
written_as old new name other e h = subst (λ (x : Text). Reports old new (Writes (Local x) ∷ [])) e h
