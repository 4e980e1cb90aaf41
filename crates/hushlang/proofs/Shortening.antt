-- A value without separators side by side is cut as it was.
use Rattle.std.proofs.Common.{◌≡◌, ◌∙◌, refl, sym, ap, ℕ, ◌+◌, ◌*◌, ◌<◌, ◌≤◌, Bool, true, false, cond, List, [], ◌∷◌, ◌++◌, length, map, drop, get_or, append-nil, arith, length-append}
use Rattle.std.proofs.lemmas.List.{map-append, drop_more}
use Rattle.std.proofs.Math.ListN.{drop_of_length-le}
use Rattle.hushlang.specs.Expansion.{Atom, Kept, Separator, Mark, separates, split_atom, kept_bytes}
use Rattle.hushlang.specs.Splitting.{FieldsSoFar, closed, with_atom, with_atoms, AreCutAlike, IsBrief}
use Rattle.hushlang.proofs.ExpandLemmas.{with_atoms-append}

-- what is gathered after a split value
abbrev pub behind_value : FieldsSoFar → List ℕ → FieldsSoFar
behind_value g value = with_atoms g (map split_atom value)

-- a separator at the end adds one byte that no field keeps
abbrev pub for_cut : Bool → ℕ
for_cut true = 1
for_cut false = 0

-- the short value of the bytes that were read
pub record IsShortSoFar (value short : List ℕ) (at : ℕ) (cut : Bool) : Type 0 where
  pub alike : (g : FieldsSoFar) → behind_value (behind_value g short) (drop at value) ≡ behind_value g value
  pub ended : cut ≡ true → (g : FieldsSoFar) → closed (behind_value g short) ≡ behind_value g short
  pub brief : length short ≤ 2 * length (kept_bytes (map split_atom short)) + for_cut cut

closed-closed : (g : FieldsSoFar) → closed (closed g) ≡ closed g
closed-closed g = ap (λ whole. record { whole = whole; field = (closed g).field; begun = false }) (append-nil (closed g).whole)

behind_value-push : (g : FieldsSoFar) (short : List ℕ) (byte : ℕ) → behind_value g (short ++ byte ∷ []) ≡ with_atom (behind_value g short) (split_atom byte)
behind_value-push g short byte = ap (with_atoms g) (map-append split_atom short (byte ∷ [])) ∙ with_atoms-append g (map split_atom short) (split_atom byte ∷ [])

kept_bytes-append : (a b : List Atom) → kept_bytes (a ++ b) ≡ kept_bytes a ++ kept_bytes b
kept_bytes-append [] b = refl
kept_bytes-append (Kept byte ∷ a) b = ap (λ rest. byte ∷ rest) (kept_bytes-append a b)
kept_bytes-append (Separator byte ∷ a) b = kept_bytes-append a b
kept_bytes-append (Mark ∷ a) b = kept_bytes-append a b

split_atom-is : (byte : ℕ) (separator : Bool) → separates byte ≡ separator → split_atom byte ≡ cond separator (Separator byte) (Kept byte)
split_atom-is byte separator is = ap (λ separator. cond separator (Separator byte) (Kept byte)) is

closed_by : (g : FieldsSoFar) (byte : ℕ) → separates byte ≡ true → with_atom g (split_atom byte) ≡ closed g
closed_by g byte is = ap (with_atom g) (split_atom-is byte true is)

-- a separator after another is left out
pub skipped : (value short : List ℕ) (at : ℕ) → at < length value → separates (get_or value at 0) ≡ true → IsShortSoFar value short at true → IsShortSoFar value short (at + 1) true
skipped value short at inside separator so_far =
    let byte = get_or value at 0 in
    record {
      alike = λ g. ap (λ now. behind_value now (drop (at + 1) value)) (sym (so_far.ended refl g) ∙ sym (closed_by (behind_value g short) byte separator))
          ∙ ap (behind_value (behind_value g short)) (sym (drop_more value at 0 inside)) ∙ so_far.alike g;
      ended = so_far.ended;
      brief = so_far.brief;
    }

ended_by : (short : List ℕ) (byte : ℕ) → separates byte ≡ true → (g : FieldsSoFar) → closed (behind_value g (short ++ byte ∷ [])) ≡ behind_value g (short ++ byte ∷ [])
ended_by short byte separator g =
    let now : behind_value g (short ++ byte ∷ []) ≡ closed (behind_value g short) = behind_value-push g short byte ∙ closed_by (behind_value g short) byte separator in
    ap closed now ∙ closed-closed (behind_value g short) ∙ sym now

kept_with : (short : List ℕ) (byte : ℕ) (atom : Atom) → split_atom byte ≡ atom → length (kept_bytes (map split_atom (short ++ byte ∷ []))) ≡ length (kept_bytes (map split_atom short)) + length (kept_bytes (atom ∷ []))
kept_with short byte atom is =
    ap (λ atoms. length (kept_bytes atoms)) (map-append split_atom short (byte ∷ []))
    ∙ ap length (kept_bytes-append (map split_atom short) (split_atom byte ∷ []))
    ∙ length-append (kept_bytes (map split_atom short)) (kept_bytes (split_atom byte ∷ []))
    ∙ ap (λ atom. length (kept_bytes (map split_atom short)) + length (kept_bytes (atom ∷ []))) is

brief_more : (short : List ℕ) (byte : ℕ) (cut separator : Bool) → separates byte ≡ separator → (separator ≡ true → cut ≡ false) → length short ≤ 2 * length (kept_bytes (map split_atom short)) + for_cut cut → length (short ++ byte ∷ []) ≤ 2 * length (kept_bytes (map split_atom (short ++ byte ∷ []))) + for_cut separator
brief_more short byte true true is apart brief = let both = apart refl in cc
brief_more short byte false true is apart brief = omega (arith, kept_with short byte (Separator byte) (split_atom-is byte true is), length-append short (byte ∷ []))
brief_more short byte true false is apart brief = omega (arith, kept_with short byte (Kept byte) (split_atom-is byte false is), length-append short (byte ∷ []))
brief_more short byte false false is apart brief = omega (arith, kept_with short byte (Kept byte) (split_atom-is byte false is), length-append short (byte ∷ []))

brief_at_end : (cut : Bool) (value : List ℕ) → length value ≤ 2 * length (kept_bytes (map split_atom value)) + for_cut cut → IsBrief value
brief_at_end true value brief = brief
brief_at_end false value brief = omega arith

-- any other byte is kept
pub pushed : (value short : List ℕ) (at : ℕ) (cut separator : Bool) → at < length value → separates (get_or value at 0) ≡ separator → (separator ≡ true → cut ≡ false) → IsShortSoFar value short at cut → IsShortSoFar value (short ++ get_or value at 0 ∷ []) (at + 1) separator
pushed value short at cut separator inside is apart so_far =
    let byte = get_or value at 0 in
    record {
      alike = λ g. ap (λ now. behind_value now (drop (at + 1) value)) (behind_value-push g short byte)
          ∙ ap (behind_value (behind_value g short)) (sym (drop_more value at 0 inside)) ∙ so_far.alike g;
      ended = λ e. ended_by short byte (is ∙ e);
      brief = brief_more short byte cut separator is apart so_far.brief;
    }

-- all bytes were read
pub shortened_alike : (value short : List ℕ) (at : ℕ) (cut : Bool) → length value ≤ at → IsShortSoFar value short at cut → AreCutAlike value short
shortened_alike value short at cut all so_far g = sym (ap (behind_value (behind_value g short)) (sym (drop_of_length-le value {i = at} all)) ∙ so_far.alike g)

pub shortened_brief : (value short : List ℕ) (at : ℕ) (cut : Bool) → IsShortSoFar value short at cut → IsBrief short
shortened_brief value short at cut so_far = brief_at_end cut short so_far.brief
