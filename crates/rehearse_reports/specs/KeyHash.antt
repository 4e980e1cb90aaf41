-- What the hash of a key is made of. Ours.
use Rattle.std.specs.Prelude.{◌≡◌, ℕ, IsTrue, true, List, [], ◌∷◌, ◌++◌, Vec}
use Rattle.std.specs.Cmp.Lexicographic.{bytes_decides, pointwise}
use Rattle.std.specs.Str.{bytes_eq}
use Rattle.std.specs.declared.alloc.Global.{Global}
use Rattle.std.specs.Hash as fed
use Rattle.std.proofs.Common.{ap, refl}
use Rattle.rehearse_reports.specs.contracts.key.KeyPartialEq.TheImpl.{eq-value}
use Rattle.rehearse_reports.specs.declared.key.Key.{Key}
use Rattle.rehearse_reports.specs.declared.key.Key.TheVariants.{Environment, Local, AnswerTo, Succeeded, Status}

abbrev pub words_input : List (Vec ℕ Global) → fed.HashWrites
words_input words = fed.slice (λ word. fed.slice fed.u8 word.items) words

-- a name, or the words, and then which kind of key it is
abbrev pub key_input : Key → fed.HashWrites
key_input (Environment name) = name.items ∷ fed.u8 0
key_input (Local name) = name.items ∷ fed.u8 1
key_input (AnswerTo call) = words_input call.items ++ fed.u8 2
key_input (Succeeded start) = words_input start.items ++ fed.u8 3
key_input Status = fed.u8 4

-- (keys that are equal have the same hash)
name_alike : (n : ℕ) (a b : List ℕ) → bytes_eq a b ≡ true → (a ∷ fed.u8 n) ≡ (b ∷ fed.u8 n)
name_alike n a b same = ap (λ (name : List ℕ). name ∷ fed.u8 n) ((bytes_decides a b).0 same)

words_alike : (n : ℕ) (a b : List (Vec ℕ Global)) → pointwise (λ (v w : Vec ℕ Global). bytes_eq v.items w.items) a b ≡ true → (words_input a ++ fed.u8 n) ≡ (words_input b ++ fed.u8 n)
words_alike n a b same = ap (λ (input : fed.HashWrites). input ++ fed.u8 n)
    ((fed.items_Alike (fed.on_Alike (λ (v : Vec ℕ Global). v.items) (fed.same_Alike (fed.slice fed.u8) bytes_decides))).fed a b same)

pub same_input : (x y : Key) → IsTrue (eq-value.it x y) → key_input x ≡ key_input y
same_input (Environment a) (Environment b) same = name_alike 0 a.items b.items same
same_input (Environment a) (Local b) same = absurd (cc)
same_input (Environment a) (AnswerTo b) same = absurd (cc)
same_input (Environment a) (Succeeded b) same = absurd (cc)
same_input (Environment a) Status same = absurd (cc)
same_input (Local a) (Environment b) same = absurd (cc)
same_input (Local a) (Local b) same = name_alike 1 a.items b.items same
same_input (Local a) (AnswerTo b) same = absurd (cc)
same_input (Local a) (Succeeded b) same = absurd (cc)
same_input (Local a) Status same = absurd (cc)
same_input (AnswerTo a) (Environment b) same = absurd (cc)
same_input (AnswerTo a) (Local b) same = absurd (cc)
same_input (AnswerTo a) (AnswerTo b) same = words_alike 2 a.items b.items same
same_input (AnswerTo a) (Succeeded b) same = absurd (cc)
same_input (AnswerTo a) Status same = absurd (cc)
same_input (Succeeded a) (Environment b) same = absurd (cc)
same_input (Succeeded a) (Local b) same = absurd (cc)
same_input (Succeeded a) (AnswerTo b) same = absurd (cc)
same_input (Succeeded a) (Succeeded b) same = words_alike 3 a.items b.items same
same_input (Succeeded a) Status same = absurd (cc)
same_input Status (Environment b) same = absurd (cc)
same_input Status (Local b) same = absurd (cc)
same_input Status (AnswerTo b) same = absurd (cc)
same_input Status (Succeeded b) same = absurd (cc)
same_input Status Status same = refl
