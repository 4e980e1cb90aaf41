-- Worked examples of calls that save, computed.
use Rattle.std.proofs.Common.{◌≡◌, ℕ, true, false, List, [], ◌∷◌, map, Some, None, Ok, Err, refl}
use Rattle.std.specs.Prelude.{codes}
use Rattle.text.specs.Lines.{Text}
use Rattle.device_list.specs.CallLines.{Pattern, Exactly}
use Rattle.device_list.specs.Called.{Value, Copied, sets_in}
use Rattle.device_list.specs.DeviceList.{Effect, Devices, Variable, Literal, Saving, Deleted, CopyOf, only, effect_of, all_steady, listed}
use Rattle.device_list.specs.DeviceLaws.{quiet}
use Rattle.device_list.specs.Kinds.{Calls, kinds_of}
use Rattle.device_list.specs.Saving.{saved_name, saved_of, copy_of, saving, saves, names_with_saved}
use Rattle.device_list.specs.declared.devices_error.DevicesError.TheVariants.{BadLine, BuiltIn}

abbrev any : Pattern
any = record { words = []; more = true }

abbrev kept : Effect
kept = record quiet { sets = (Saving, Deleted) ∷ [] }

abbrev calls_of : (name : Text) → Pattern → Effect → Devices
calls_of name pattern effect = record (only []) { calls = (name, (pattern, effect) ∷ []) ∷ [] }

-- ---- the line, and the clause

a_line : listed (codes "saves saveenv") ≡ Ok (calls_of (codes "saveenv") any kept)
a_line = refl

a_clause : listed (codes "call env save : saves") ≡ Ok (calls_of (codes "env") (record { words = Exactly (codes "save") ∷ []; more = false }) kept)
a_clause = refl

-- beside other clauses, before settings and after them
among_others : map listed (codes "call keep : steady saves needs load a=1" ∷ codes "call keep : a=1 needs load saves steady" ∷ [])
    ≡ Ok (calls_of (codes "keep") (record { words = []; more = false }) (record quiet { stays = true; needs = codes "load" ∷ []; sets = (Saving, Deleted) ∷ (Variable (codes "a"), Literal (codes "1")) ∷ [] }))
    ∷ Ok (calls_of (codes "keep") (record { words = []; more = false }) (record quiet { stays = true; needs = codes "load" ∷ []; sets = (Variable (codes "a"), Literal (codes "1")) ∷ (Saving, Deleted) ∷ [] })) ∷ []
among_others = refl

-- it is there once; `saves` has one word after it, which is no built-in command; and a command may have this name
bad_lines : map listed (codes "call keep : saves saves" ∷ codes "saves" ∷ codes "saves a b" ∷ codes "saves test" ∷ codes "saves a=1" ∷ codes "saves 'a'" ∷ [])
    ≡ Err (BadLine 1) ∷ Ok (only ((codes "saves", quiet) ∷ [])) ∷ Err (BadLine 1) ∷ Err (BuiltIn 1) ∷ Ok (only ((codes "saves", record quiet { sets = (Variable (codes "a"), Literal (codes "1")) ∷ [] }) ∷ [])) ∷ Err (BadLine 1) ∷ []
bad_lines = refl

kind : kinds_of (codes "saves saveenv") ≡ Calls ∷ []
kind = refl

-- ---- copies of the variables that are asked for

abbrev names : List Text
names = codes "a" ∷ codes "b" ∷ []

-- after the other settings of the call
copies : effect_of (saving names (calls_of (codes "keep") any (record quiet { sets = (Saving, Deleted) ∷ (Variable (codes "c"), Literal []) ∷ [] }))) (codes "keep") []
    ≡ Some (record quiet { sets = (Saving, Deleted) ∷ (Variable (codes "c"), Literal []) ∷ (Variable (0 ∷ codes "a"), CopyOf (codes "a")) ∷ (Variable (0 ∷ codes "b"), CopyOf (codes "b")) ∷ [] })
copies = refl

-- a call that does not save is as it was, and so is each if nothing is asked for
others : map (λ wanted. saving wanted (calls_of (codes "keep") any quiet)) (names ∷ [] ∷ []) ≡ calls_of (codes "keep") any quiet ∷ calls_of (codes "keep") any quiet ∷ []
others = refl

nothing_asked : saving [] (calls_of (codes "keep") any kept) ≡ calls_of (codes "keep") any kept
nothing_asked = refl

what_it_sets : sets_in (codes "keep" ∷ []) ((Saving, Deleted) ∷ (Variable (0 ∷ codes "a"), CopyOf (codes "a")) ∷ []) ≡ (0 ∷ codes "a", Copied (codes "a")) ∷ []
what_it_sets = refl

-- a value, an empty one, and none
the_copies : map copy_of (Some (codes "1") ∷ Some [] ∷ None ∷ []) ≡ codes "=1" ∷ codes "=" ∷ [] ∷ []
the_copies = refl

the_names : map saved_of (saved_name (codes "a") ∷ codes "a" ∷ [] ∷ []) ≡ Some (codes "a") ∷ None ∷ None ∷ []
the_names = refl

asked : names_with_saved (calls_of (codes "keep") any kept) names ≡ codes "a" ∷ codes "b" ∷ (0 ∷ codes "a") ∷ (0 ∷ codes "b") ∷ []
asked = refl

asked_without : names_with_saved (calls_of (codes "keep") any quiet) names ≡ names
asked_without = refl

-- ---- whether a list saves

which_save : map saves (calls_of (codes "keep") any kept ∷ all_steady (calls_of (codes "keep") any kept) ∷ calls_of (codes "keep") any quiet ∷ only ((codes "saveenv", quiet) ∷ []) ∷ [])
    ≡ true ∷ true ∷ false ∷ false ∷ []
which_save = refl
