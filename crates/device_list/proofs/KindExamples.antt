-- Worked examples, computed: what each kind of a line is, and lists that are read with some kinds alone.
use Rattle.std.proofs.Common.{◌≡◌, true, false, Some, [], ◌∷◌, Ok, Err, codes, map, refl}
use Rattle.device_list.specs.declared.finish.BoardEnd.TheVariants.{Boots, Restarts, Halts}
use Rattle.device_list.specs.DeviceList.{Variable, Literal, Devices, only}
use Rattle.device_list.specs.DeviceLaws.{quiet}
use Rattle.device_list.specs.Kinds.{Final, Stops, Steady, Sub, Settings, Known, Calls, kinds_of, listed_among}
use Rattle.device_list.specs.declared.devices_error.DevicesError.TheVariants.{BadLine, BuiltIn, ByteOrderMark}

-- ---- a name alone

abbrev load : Devices
load = only ((codes "load", quiet) ∷ [])

name_alone : kinds_of (codes "load") ≡ []
name_alone = refl

names_read : listed_among [] (codes "# d\nload\n\nload") ≡ Ok load
names_read = refl

no_words : map kinds_of ([] ∷ codes " \t" ∷ codes "# final load a=1" ∷ []) ≡ [] ∷ [] ∷ [] ∷ []
no_words = refl

-- ---- `final`

final_uses : kinds_of (codes "final load") ≡ Final ∷ []
final_uses = refl

final_says : listed_among (Final ∷ []) (codes "final load") ≡ Ok (only ((codes "load", record quiet { ends = Some Boots }) ∷ []))
final_says = refl

final_left_out : listed_among (Steady ∷ Sub ∷ Settings ∷ Known ∷ []) (codes "load\nfinal load") ≡ Err (BadLine 2)
final_left_out = refl

-- ---- `restart` and `halt`

stops_use : map kinds_of (codes "restart load" ∷ codes "halt load" ∷ codes "restart a=1" ∷ []) ≡ (Stops ∷ []) ∷ (Stops ∷ []) ∷ (Settings ∷ []) ∷ []
stops_use = refl

stops_say : listed_among (Stops ∷ []) (codes "restart load\nhalt mmc") ≡ Ok (only ((codes "load", record quiet { ends = Some Restarts }) ∷ (codes "mmc", record quiet { ends = Some Halts }) ∷ []))
stops_say = refl

stops_left_out : map (listed_among (Final ∷ Steady ∷ Sub ∷ Settings ∷ Known ∷ Calls ∷ [])) (codes "load\nrestart load" ∷ codes "halt load" ∷ codes "final load" ∷ []) ≡ Err (BadLine 2) ∷ Err (BadLine 1) ∷ Ok (only ((codes "load", record quiet { ends = Some Boots }) ∷ [])) ∷ []
stops_left_out = refl

-- ---- `steady`

steady_uses : map kinds_of (codes "steady load" ∷ codes "steady test" ∷ []) ≡ (Steady ∷ []) ∷ (Steady ∷ []) ∷ []
steady_uses = refl

steady_says : listed_among (Steady ∷ []) (codes "steady load\nsteady test") ≡ Ok (record (only ((codes "load", record quiet { stays = true }) ∷ [])) { test_stays = true })
steady_says = refl

steady_left_out : listed_among (Final ∷ Sub ∷ Settings ∷ Known ∷ []) (codes "load\nsteady load") ≡ Err (BadLine 2)
steady_left_out = refl

steady_test_left_out : listed_among (Final ∷ Sub ∷ Settings ∷ Known ∷ []) (codes "load\nsteady test") ≡ Err (BadLine 2)
steady_test_left_out = refl

-- ---- `sub`

sub_uses : kinds_of (codes "sub part list") ≡ Sub ∷ []
sub_uses = refl

sub_says : listed_among (Sub ∷ []) (codes "sub part list") ≡ Ok (record (only []) { subs = (codes "part", (codes "list", quiet) ∷ []) ∷ [] })
sub_says = refl

sub_left_out : listed_among (Final ∷ Steady ∷ Settings ∷ Known ∷ []) (codes "part\nsub part list") ≡ Err (BadLine 2)
sub_left_out = refl

-- ---- settings

settings_used : kinds_of (codes "load a=1 b=") ≡ Settings ∷ []
settings_used = refl

settings_say : listed_among (Settings ∷ []) (codes "load a=1 b=") ≡ Ok (only ((codes "load", record quiet { sets = (Variable (codes "a"), Literal (codes "1")) ∷ (Variable (codes "b"), Literal []) ∷ [] }) ∷ []))
settings_say = refl

settings_left_out : listed_among (Final ∷ Steady ∷ Sub ∷ Known ∷ []) (codes "load\nload a=1") ≡ Err (BadLine 2)
settings_left_out = refl

-- a setting by a word of the call is one of a `sub` line
setting_of_a_call : kinds_of (codes "sub part list @last=1") ≡ Sub ∷ Settings ∷ []
setting_of_a_call = refl

-- ---- `known`

known_uses : kinds_of (codes "known env") ≡ Known ∷ []
known_uses = refl

known_says : listed_among (Known ∷ []) (codes "known env") ≡ Ok (record (only []) { known = codes "env" ∷ [] })
known_says = refl

known_left_out : listed_among (Final ∷ Steady ∷ Sub ∷ Settings ∷ []) (codes "env\nknown env") ≡ Err (BadLine 2)
known_left_out = refl

-- ---- together

-- a line may use more than one kind, and needs each of them
four_kinds : kinds_of (codes "final steady sub mmc boot a=1") ≡ Final ∷ Steady ∷ Sub ∷ Settings ∷ []
four_kinds = refl

one_of_four_left_out : map (λ kinds. listed_among kinds (codes "final steady sub mmc boot a=1"))
    ((Steady ∷ Sub ∷ Settings ∷ []) ∷ (Final ∷ Sub ∷ Settings ∷ []) ∷ (Final ∷ Steady ∷ Settings ∷ []) ∷ (Final ∷ Steady ∷ Sub ∷ []) ∷ [])
    ≡ Err (BadLine 1) ∷ Err (BadLine 1) ∷ Err (BadLine 1) ∷ Err (BadLine 1) ∷ []
one_of_four_left_out = refl

-- a word that begins no line of its kind is a name
names_like_kinds : map kinds_of (codes "final" ∷ codes "steady" ∷ codes "sub" ∷ codes "known" ∷ []) ≡ [] ∷ [] ∷ [] ∷ [] ∷ []
names_like_kinds = refl

names_like_kinds_set : map kinds_of (codes "final a=1" ∷ codes "steady a=1" ∷ codes "sub part=1" ∷ codes "known env=1" ∷ []) ≡ (Settings ∷ []) ∷ (Settings ∷ []) ∷ (Settings ∷ []) ∷ (Settings ∷ []) ∷ []
names_like_kinds_set = refl

-- a line that is refused with every kind is refused; without its kind it is a bad line
refused_built_in : listed_among (Final ∷ []) (codes "final echo") ≡ Err (BuiltIn 1)
refused_built_in = refl

refused_bad_line : listed_among [] (codes "final echo") ≡ Err (BadLine 1)
refused_bad_line = refl

refused_mark : listed_among [] (239 ∷ 187 ∷ 191 ∷ codes "load") ≡ Err ByteOrderMark
refused_mark = refl

-- ---- `call` and `absent`

calls_use : map kinds_of (codes "call load * : final steady a=1" ∷ codes "absent load" ∷ codes "call a=1" ∷ []) ≡ (Calls ∷ []) ∷ (Calls ∷ []) ∷ (Settings ∷ []) ∷ []
calls_use = refl

calls_say : listed_among (Calls ∷ []) (codes "call load : always 0") ≡ Ok (record (only []) { calls = (codes "load", (record { words = []; more = false }, record quiet { always = Some true }) ∷ []) ∷ [] })
calls_say = refl

calls_left_out : map (listed_among (Final ∷ Steady ∷ Sub ∷ Settings ∷ Known ∷ [])) (codes "load\ncall load : a=1" ∷ codes "load\nabsent load" ∷ []) ≡ Err (BadLine 2) ∷ Err (BadLine 2) ∷ []
calls_left_out = refl
