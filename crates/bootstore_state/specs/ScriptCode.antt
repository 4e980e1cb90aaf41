-- How the logic stores what a script says: each part as a tree of numbers that gives it back. And so what becomes of a text.
use Rattle.std.specs.Prelude.{◌≡◌, ◌≢◌, ◌⊎◌, ℕ, zero, suc, List}
use Rattle.std.proofs.Common.{ap, arith, inl, inr, refl}
use Rattle.std.specs.Coded.{Coded, code_by, coded×, coded⊎, coded_ℕ, coded_bool, coded_list}
use base.Stored.{Gv, gnil, gnum, gcons}
use Rattle.hushlang.specs.contracts.tree.Op as op
use Rattle.hushlang_shells.specs.TreesByShell as read
use Rattle.hushlang.specs.Tree.{Piece, Bytes, Mark, Var, Status, Word, Script, Empty, Runs, AndOr, Starts, Joined, Alone, Joins, Command, Simple, Assign, If, Loop, For, Arms, NoElse, Else, Arm}

abbrev head : Gv → Gv
head gnil = gnil
head (gnum n) = gnil
head (gcons a b) = a

abbrev tail : Gv → Gv
tail gnil = gnil
tail (gnum n) = gnil
tail (gcons a b) = b

apart : (m n : ℕ) {a b : Gv} → gcons (gnum m) a ≡ gcons (gnum n) b → m ≢ n → ⊥
apart m n p other = other (cc)

abbrev coded_bytes : Coded (List ℕ)
coded_bytes = coded_list coded_ℕ

abbrev pub piece_code : Piece → Gv
piece_code (Bytes a0) = gcons (gnum 0) (coded_bytes.code a0)
piece_code Mark = gcons (gnum 1) gnil
piece_code (Var a0 a1) = gcons (gnum 2) (gcons (coded_bytes.code a0) (coded_bool.code a1))
piece_code Status = gcons (gnum 3) gnil

pub piece_inj : (x y : Piece) → piece_code x ≡ piece_code y → x ≡ y
piece_inj (Bytes a0) (Bytes b0) p = λ i. Bytes (coded_bytes.inj a0 b0 (ap (λ g. tail g) p) i)
piece_inj (Bytes a0) Mark p = absurd (apart 0 1 p (omega arith))
piece_inj (Bytes a0) (Var b0 b1) p = absurd (apart 0 2 p (omega arith))
piece_inj (Bytes a0) Status p = absurd (apart 0 3 p (omega arith))
piece_inj Mark (Bytes b0) p = absurd (apart 1 0 p (omega arith))
piece_inj Mark Mark p = λ i. Mark
piece_inj Mark (Var b0 b1) p = absurd (apart 1 2 p (omega arith))
piece_inj Mark Status p = absurd (apart 1 3 p (omega arith))
piece_inj (Var a0 a1) (Bytes b0) p = absurd (apart 2 0 p (omega arith))
piece_inj (Var a0 a1) Mark p = absurd (apart 2 1 p (omega arith))
piece_inj (Var a0 a1) (Var b0 b1) p =
    λ i. Var (coded_bytes.inj a0 b0 (ap (λ g. head (tail g)) p) i)
    (coded_bool.inj a1 b1 (ap (λ g. tail (tail g)) p) i)
piece_inj (Var a0 a1) Status p = absurd (apart 2 3 p (omega arith))
piece_inj Status (Bytes b0) p = absurd (apart 3 0 p (omega arith))
piece_inj Status Mark p = absurd (apart 3 1 p (omega arith))
piece_inj Status (Var b0 b1) p = absurd (apart 3 2 p (omega arith))
piece_inj Status Status p = λ i. Status

abbrev coded_word : Coded Word
coded_word = coded_list (record { code = piece_code; inj = piece_inj })

abbrev coded_words : Coded (List Word)
coded_words = coded_list coded_word

abbrev coded_values : Coded (List (List ℕ × Word))
coded_values = coded_list (coded× coded_bytes coded_word)

abbrev mutual
  pub script_code : Script → Gv
  script_code Empty = gcons (gnum 0) gnil
  script_code (Runs a0 a1) = gcons (gnum 1) (gcons (and_or_code a0) (script_code a1))

  pub and_or_code : AndOr → Gv
  and_or_code (Starts a0 a1) = gcons (gnum 0) (gcons (command_code a0) (joined_code a1))

  pub joined_code : Joined → Gv
  joined_code Alone = gcons (gnum 0) gnil
  joined_code (Joins a0 a1 a2) =
      gcons (gnum 1) (gcons (op.the_row.coded.code a0) (gcons (command_code a1) (joined_code a2)))

  pub command_code : Command → Gv
  command_code (Simple a0) = gcons (gnum 0) (coded_words.code a0)
  command_code (Assign a0) = gcons (gnum 1) (coded_values.code a0)
  command_code (If a0) = gcons (gnum 2) (arms_code a0)
  command_code (Loop a0 a1 a2) = gcons (gnum 3) (gcons (coded_bool.code a0) (gcons (script_code a1) (script_code a2)))
  command_code (For a0 a1 a2) =
      gcons (gnum 4) (gcons (coded_bytes.code a0) (gcons (coded_words.code a1) (script_code a2)))

  pub arms_code : Arms → Gv
  arms_code NoElse = gcons (gnum 0) gnil
  arms_code (Else a0) = gcons (gnum 1) (script_code a0)
  arms_code (Arm a0 a1 a2) = gcons (gnum 2) (gcons (script_code a0) (gcons (script_code a1) (arms_code a2)))

mutual
  pub script_inj : (x y : Script) → script_code x ≡ script_code y → x ≡ y
  script_inj Empty Empty p = λ i. Empty
  script_inj Empty (Runs b0 b1) p = absurd (apart 0 1 p (omega arith))
  script_inj (Runs a0 a1) Empty p = absurd (apart 1 0 p (omega arith))
  script_inj (Runs a0 a1) (Runs b0 b1) p =
      λ i. Runs (and_or_inj a0 b0 (ap (λ g. head (tail g)) p) i) (script_inj a1 b1 (ap (λ g. tail (tail g)) p) i)

  pub and_or_inj : (x y : AndOr) → and_or_code x ≡ and_or_code y → x ≡ y
  and_or_inj (Starts a0 a1) (Starts b0 b1) p =
      λ i. Starts (command_inj a0 b0 (ap (λ g. head (tail g)) p) i) (joined_inj a1 b1 (ap (λ g. tail (tail g)) p) i)

  pub joined_inj : (x y : Joined) → joined_code x ≡ joined_code y → x ≡ y
  joined_inj Alone Alone p = λ i. Alone
  joined_inj Alone (Joins b0 b1 b2) p = absurd (apart 0 1 p (omega arith))
  joined_inj (Joins a0 a1 a2) Alone p = absurd (apart 1 0 p (omega arith))
  joined_inj (Joins a0 a1 a2) (Joins b0 b1 b2) p =
      λ i. Joins (op.the_row.coded.inj a0 b0 (ap (λ g. head (tail g)) p) i)
      (command_inj a1 b1 (ap (λ g. head (tail (tail g))) p) i)
      (joined_inj a2 b2 (ap (λ g. tail (tail (tail g))) p) i)

  pub command_inj : (x y : Command) → command_code x ≡ command_code y → x ≡ y
  command_inj (Simple a0) (Simple b0) p = λ i. Simple (coded_words.inj a0 b0 (ap (λ g. tail g) p) i)
  command_inj (Simple a0) (Assign b0) p = absurd (apart 0 1 p (omega arith))
  command_inj (Simple a0) (If b0) p = absurd (apart 0 2 p (omega arith))
  command_inj (Simple a0) (Loop b0 b1 b2) p = absurd (apart 0 3 p (omega arith))
  command_inj (Simple a0) (For b0 b1 b2) p = absurd (apart 0 4 p (omega arith))
  command_inj (Assign a0) (Simple b0) p = absurd (apart 1 0 p (omega arith))
  command_inj (Assign a0) (Assign b0) p = λ i. Assign (coded_values.inj a0 b0 (ap (λ g. tail g) p) i)
  command_inj (Assign a0) (If b0) p = absurd (apart 1 2 p (omega arith))
  command_inj (Assign a0) (Loop b0 b1 b2) p = absurd (apart 1 3 p (omega arith))
  command_inj (Assign a0) (For b0 b1 b2) p = absurd (apart 1 4 p (omega arith))
  command_inj (If a0) (Simple b0) p = absurd (apart 2 0 p (omega arith))
  command_inj (If a0) (Assign b0) p = absurd (apart 2 1 p (omega arith))
  command_inj (If a0) (If b0) p = λ i. If (arms_inj a0 b0 (ap (λ g. tail g) p) i)
  command_inj (If a0) (Loop b0 b1 b2) p = absurd (apart 2 3 p (omega arith))
  command_inj (If a0) (For b0 b1 b2) p = absurd (apart 2 4 p (omega arith))
  command_inj (Loop a0 a1 a2) (Simple b0) p = absurd (apart 3 0 p (omega arith))
  command_inj (Loop a0 a1 a2) (Assign b0) p = absurd (apart 3 1 p (omega arith))
  command_inj (Loop a0 a1 a2) (If b0) p = absurd (apart 3 2 p (omega arith))
  command_inj (Loop a0 a1 a2) (Loop b0 b1 b2) p =
      λ i. Loop (coded_bool.inj a0 b0 (ap (λ g. head (tail g)) p) i)
      (script_inj a1 b1 (ap (λ g. head (tail (tail g))) p) i)
      (script_inj a2 b2 (ap (λ g. tail (tail (tail g))) p) i)
  command_inj (Loop a0 a1 a2) (For b0 b1 b2) p = absurd (apart 3 4 p (omega arith))
  command_inj (For a0 a1 a2) (Simple b0) p = absurd (apart 4 0 p (omega arith))
  command_inj (For a0 a1 a2) (Assign b0) p = absurd (apart 4 1 p (omega arith))
  command_inj (For a0 a1 a2) (If b0) p = absurd (apart 4 2 p (omega arith))
  command_inj (For a0 a1 a2) (Loop b0 b1 b2) p = absurd (apart 4 3 p (omega arith))
  command_inj (For a0 a1 a2) (For b0 b1 b2) p =
      λ i. For (coded_bytes.inj a0 b0 (ap (λ g. head (tail g)) p) i)
      (coded_words.inj a1 b1 (ap (λ g. head (tail (tail g))) p) i)
      (script_inj a2 b2 (ap (λ g. tail (tail (tail g))) p) i)

  pub arms_inj : (x y : Arms) → arms_code x ≡ arms_code y → x ≡ y
  arms_inj NoElse NoElse p = λ i. NoElse
  arms_inj NoElse (Else b0) p = absurd (apart 0 1 p (omega arith))
  arms_inj NoElse (Arm b0 b1 b2) p = absurd (apart 0 2 p (omega arith))
  arms_inj (Else a0) NoElse p = absurd (apart 1 0 p (omega arith))
  arms_inj (Else a0) (Else b0) p = λ i. Else (script_inj a0 b0 (ap (λ g. tail g) p) i)
  arms_inj (Else a0) (Arm b0 b1 b2) p = absurd (apart 1 2 p (omega arith))
  arms_inj (Arm a0 a1 a2) NoElse p = absurd (apart 2 0 p (omega arith))
  arms_inj (Arm a0 a1 a2) (Else b0) p = absurd (apart 2 1 p (omega arith))
  arms_inj (Arm a0 a1 a2) (Arm b0 b1 b2) p =
      λ i. Arm (script_inj a0 b0 (ap (λ g. head (tail g)) p) i)
      (script_inj a1 b1 (ap (λ g. head (tail (tail g))) p) i)
      (arms_inj a2 b2 (ap (λ g. tail (tail (tail g))) p) i)

abbrev pub coded_script : Coded Script
coded_script = record { code = script_code; inj = script_inj }

abbrev as_sum : read.TextRead → Script ⊎ ℕ
as_sum (read.Runs script) = inl script
as_sum read.Fails = inr 0
as_sum read.Panics = inr 1
as_sum read.Unread = inr 2

abbrev of_sum : Script ⊎ ℕ → read.TextRead
of_sum (inl script) = read.Runs script
of_sum (inr zero) = read.Fails
of_sum (inr (suc zero)) = read.Panics
of_sum (inr (suc (suc n))) = read.Unread

pub of_as_sum : (found : read.TextRead) → of_sum (as_sum found) ≡ found
of_as_sum (read.Runs script) = refl
of_as_sum read.Fails = refl
of_as_sum read.Panics = refl
of_as_sum read.Unread = refl

abbrev pub coded_read : Coded read.TextRead
coded_read = code_by (Script ⊎ ℕ) (coded⊎ coded_script coded_ℕ) as_sum of_sum of_as_sum
