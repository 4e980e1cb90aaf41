-- Keys that are equal: they show the same key. And sets of them.
use Rattle.std.proofs.Common.{◌≡◌, ◌∙◌, refl, sym, ap, Bool, true, false, ◌&&◌, ◌||◌, cond, List, [], ◌∷◌, ◌++◌, map, Vec, Global, ℕ}
use Rattle.std.specs.Str.{bytes_eq}
use Rattle.std.specs.List.{list_any}
use Rattle.std.specs.Cmp.Lexicographic.{pointwise}
use Rattle.std.proofs.Math.Bool.{or-false}
use Rattle.std.proofs.lemmas.List.{map-append}
use Rattle.std.proofs.lemmas.List.Folds.{list_any-append}
use Rattle.indexmap.specs.IndexSet.{insert_key}
use Rattle.text.specs.TextsShown.{bytes_of_words}
use Rattle.rehearse_terms.specs.State.{same_words}
use Rattle.rehearse_reads.specs.Keys as keys
use Rattle.rehearse_reads.specs.Keys.{same_key}
use Rattle.rehearse_reports.specs.ReportsShown.{key_shown, keys_shown}
use Rattle.rehearse_reports.specs.declared.key.Key.{Key}
use Rattle.rehearse_reports.specs.declared.key.Key.TheVariants.{Environment, Local, AnswerTo, Succeeded, Status}
use Rattle.rehearse_reports.specs.contracts.key.KeyPartialEq.TheImpl.{eq-value}
use Rattle.rehearse_reports.proofs.MemberLemmas.{equal_keys}

abbrev pub are_equal : Key → Key → Bool
are_equal = eq-value.it

-- words that are compared one by one
words_equal : (vs ws : List (Vec ℕ Global)) → pointwise (λ (v w : Vec ℕ Global). bytes_eq v.items w.items) vs ws ≡ same_words (bytes_of_words vs) (bytes_of_words ws)
words_equal [] [] = refl
words_equal [] (w ∷ ws) = refl
words_equal (v ∷ vs) [] = refl
words_equal (v ∷ vs) (w ∷ ws) = ap (λ (b : Bool). bytes_eq v.items w.items && b) (words_equal vs ws)

pub equal_shown : (a b : Key) → are_equal a b ≡ same_key (key_shown a) (key_shown b)
equal_shown (Environment a) (Environment b) = refl
equal_shown (Environment a) (Local b) = refl
equal_shown (Environment a) (AnswerTo b) = refl
equal_shown (Environment a) (Succeeded b) = refl
equal_shown (Environment a) Status = refl
equal_shown (Local a) (Environment b) = refl
equal_shown (Local a) (Local b) = refl
equal_shown (Local a) (AnswerTo b) = refl
equal_shown (Local a) (Succeeded b) = refl
equal_shown (Local a) Status = refl
equal_shown (AnswerTo a) (Environment b) = refl
equal_shown (AnswerTo a) (Local b) = refl
equal_shown (AnswerTo a) (AnswerTo b) = words_equal a.items b.items
equal_shown (AnswerTo a) (Succeeded b) = refl
equal_shown (AnswerTo a) Status = refl
equal_shown (Succeeded a) (Environment b) = refl
equal_shown (Succeeded a) (Local b) = refl
equal_shown (Succeeded a) (AnswerTo b) = refl
equal_shown (Succeeded a) (Succeeded b) = words_equal a.items b.items
equal_shown (Succeeded a) Status = refl
equal_shown Status (Environment b) = refl
equal_shown Status (Local b) = refl
equal_shown Status (AnswerTo b) = refl
equal_shown Status (Succeeded b) = refl
equal_shown Status Status = refl

-- a key that is looked for
pub found_as_shown : (key : Key) (ks : List Key) → list_any (are_equal key) ks ≡ list_any (same_key (key_shown key)) (keys_shown ks)
found_as_shown key [] = refl
found_as_shown key (k ∷ ks) =
    ap (λ (b : Bool). b || list_any (are_equal key) ks) (equal_shown key k)
    ∙ ap (λ (b : Bool). same_key (key_shown key) (key_shown k) || b) (found_as_shown key ks)

-- ---- a key that goes last, unless an equal one is there

-- one that is there already
already : (x key : keys.Key) (ks : List keys.Key) → list_any (same_key key) ks ≡ true → list_any (same_key x) ks ≡ (list_any (same_key x) ks || same_key x key)
already x key ks e = by (same_key x key) refl
  where
    by : (b : Bool) → same_key x key ≡ b → list_any (same_key x) ks ≡ (list_any (same_key x) ks || b)
    by true f = let all : list_any (same_key x) ks ≡ true = ap (λ (k : keys.Key). list_any (same_key k) ks) (equal_keys x key f) ∙ e in all ∙ sym (ap (λ (a : Bool). a || true) all)
    by false f = sym (or-false (list_any (same_key x) ks))

-- then a key is among them if it was, or is this one
pub any_inserted : (x : keys.Key) (ks : List Key) (key : Key) → list_any (same_key x) (keys_shown (insert_key are_equal ks key)) ≡ (list_any (same_key x) (keys_shown ks) || same_key x (key_shown key))
any_inserted x ks key = by (list_any (are_equal key) ks) (found_as_shown key ks)
  where
    by : (b : Bool) → b ≡ list_any (same_key (key_shown key)) (keys_shown ks) → list_any (same_key x) (keys_shown (cond b ks (ks ++ key ∷ []))) ≡ (list_any (same_key x) (keys_shown ks) || same_key x (key_shown key))
    by true e = already x (key_shown key) (keys_shown ks) (sym e)
    by false e =
        ap (list_any (same_key x)) (map-append key_shown ks (key ∷ []))
        ∙ list_any-append (same_key x) (keys_shown ks) (key_shown key ∷ [])
        ∙ ap (λ (b : Bool). list_any (same_key x) (keys_shown ks) || b) (or-false (same_key x (key_shown key)))
