-- Worked calls of `boots`, computed: what the words ask for, and that `clap` accepts them or not.
use Rattle.std.proofs.Common.{true, false, refl, [], ◌∷◌, Some, None, codes}
use Rattle.clap.proofs.OnLiterals.{clap_on_literals}
use Rattle.envimage.specs.declared.image.ByteOrder.TheVariants.{Big, Little}
use Rattle.tool_words.specs.declared.ask.OriginError.TheVariants.{ScriptAndVariable, SecondNeedsImage}
use Rattle.tool_words.specs.Asked.{Boots, booting, configured, misnamed, no_images, texts, whole}
use Rattle.rehearse_terms.specs.declared.shell.Shell.TheVariants.{Modern2025, Old2023, Profile}
use Rattle.tool_words.specs.CommandLine.{ubtool}
use Rattle.tool_words.proofs.CommandLineExamples.{AsksFor, IsRefused, IsUnread, read_from, usual_list}

-- what is asked for if no option says otherwise
abbrev pub usual : Boots
usual = record {
  variable = codes "bootcmd";
  bounds = record { devices = 1000; steps = 1000000; failures = None; shell = Profile; room = None };
  states = 1000000;
  work = 1000000000;
  memory = 512;
  boots = 1000;
  failures = None;
  names = [];
  changes = None;
  expected = None;
}

-- boots -d d
all_boots : AsksFor (codes "boots" ∷ codes "-d" ∷ codes "d" ∷ [])
    (booting usual_list usual Little)
unfolding clap_on_literals ubtool
all_boots = (refl, refl)

-- boots -i f --second g --big-endian -d d --files s --steady --given 2 -b q --devices 3 --steps 4 --shell modern --states 5 --work 6 --memory 7 --boots 8 --failures 9 --then t --expect boot --within 10 --expect-var y=1 --expect-var z=2 x y
all_options : AsksFor
    (codes "boots" ∷ codes "-i" ∷ codes "f" ∷ codes "--second" ∷ codes "g" ∷ codes "--big-endian" ∷ codes "-d" ∷ codes "d" ∷ codes "--files" ∷ codes "s" ∷ codes "--steady" ∷ codes "--given" ∷ codes "2" ∷ codes "-b" ∷ codes "q" ∷ codes "--devices" ∷ codes "3" ∷ codes "--steps" ∷ codes "4" ∷ codes "--shell" ∷ codes "modern" ∷ codes "--states" ∷ codes "5" ∷ codes "--work" ∷ codes "6" ∷ codes "--memory" ∷ codes "7" ∷ codes "--boots" ∷ codes "8" ∷ codes "--failures" ∷ codes "9" ∷ codes "--then" ∷ codes "t" ∷ codes "--expect" ∷ codes "boot" ∷ codes "--within" ∷ codes "10" ∷ codes "--expect-var" ∷ codes "y=1" ∷ codes "--expect-var" ∷ codes "z=2" ∷ codes "x" ∷ codes "y" ∷ [])
    (booting (record {
      origin = whole (codes "f") (Some (codes "g"));
      device_list = codes "d";
      taking = record { steady = true; alternative = Some 2 };
      script = None;
      files = Some (codes "s");
    }) (record {
      variable = codes "q";
      bounds = record { devices = 3; steps = 4; failures = None; shell = Modern2025; room = None };
      states = 5;
      work = 6;
      memory = 7;
      boots = 8;
      failures = Some 9;
      names = codes "x" ∷ codes "y" ∷ codes "z" ∷ [];
      changes = Some (codes "t");
      expected = Some (record { ending = codes "boot"; within = Some 10; values = (codes "y", codes "1") ∷ (codes "z", codes "2") ∷ [] });
    }) Big)
unfolding clap_on_literals ubtool
all_options = (refl, refl)

-- boots -c f -d d
configured_boots : AsksFor (codes "boots" ∷ codes "-c" ∷ codes "f" ∷ codes "-d" ∷ codes "d" ∷ [])
    (booting (read_from (configured (codes "f")) (codes "d")) usual Little)
unfolding clap_on_literals ubtool
configured_boots = (refl, refl)

-- boots --text f -d d
boots_of_text : AsksFor (codes "boots" ∷ codes "--text" ∷ codes "f" ∷ codes "-d" ∷ codes "d" ∷ [])
    (booting (read_from (texts (codes "f") Little) (codes "d")) usual Little)
unfolding clap_on_literals ubtool
boots_of_text = (refl, refl)

-- boots --script f -d d
boots_of_script : AsksFor (codes "boots" ∷ codes "--script" ∷ codes "f" ∷ codes "-d" ∷ codes "d" ∷ [])
    (booting (record usual_list { origin = no_images Little; script = Some (codes "f") }) (record usual { variable = codes "f" }) Little)
unfolding clap_on_literals ubtool
boots_of_script = (refl, refl)

-- boots BOOT_ORDER -d d BOOT_A_LEFT
boots_of_names : AsksFor (codes "boots" ∷ codes "BOOT_ORDER" ∷ codes "-d" ∷ codes "d" ∷ codes "BOOT_A_LEFT" ∷ [])
    (booting usual_list (record usual { names = codes "BOOT_ORDER" ∷ codes "BOOT_A_LEFT" ∷ [] }) Little)
unfolding clap_on_literals ubtool
boots_of_names = (refl, refl)

-- boots -d d --boots 0
no_boots : AsksFor (codes "boots" ∷ codes "-d" ∷ codes "d" ∷ codes "--boots" ∷ codes "0" ∷ [])
    (booting usual_list (record usual { boots = 0 }) Little)
unfolding clap_on_literals ubtool
no_boots = (refl, refl)

-- boots -d d --boots 4294967295
most_boots_asked : AsksFor (codes "boots" ∷ codes "-d" ∷ codes "d" ∷ codes "--boots" ∷ codes "4294967295" ∷ [])
    (booting usual_list (record usual { boots = 4294967295 }) Little)
unfolding clap_on_literals ubtool
most_boots_asked = (refl, refl)

-- boots -d d --boots 4294967296
too_many_boots : IsRefused (codes "boots" ∷ codes "-d" ∷ codes "d" ∷ codes "--boots" ∷ codes "4294967296" ∷ [])
unfolding clap_on_literals ubtool
too_many_boots = refl

-- boots -d d --failures 0
no_failures : AsksFor (codes "boots" ∷ codes "-d" ∷ codes "d" ∷ codes "--failures" ∷ codes "0" ∷ [])
    (booting usual_list (record usual { failures = Some 0 }) Little)
unfolding clap_on_literals ubtool
no_failures = (refl, refl)

-- boots -d d --failures 32
most_failures_of_boots : AsksFor (codes "boots" ∷ codes "-d" ∷ codes "d" ∷ codes "--failures" ∷ codes "32" ∷ [])
    (booting usual_list (record usual { failures = Some 32 }) Little)
unfolding clap_on_literals ubtool
most_failures_of_boots = (refl, refl)

-- boots -d d --failures 33
too_many_failures_of_boots : IsRefused (codes "boots" ∷ codes "-d" ∷ codes "d" ∷ codes "--failures" ∷ codes "33" ∷ [])
unfolding clap_on_literals ubtool
too_many_failures_of_boots = refl

-- boots -d d --failures 4 --devices 1000
failures_beside_devices : AsksFor (codes "boots" ∷ codes "-d" ∷ codes "d" ∷ codes "--failures" ∷ codes "4" ∷ codes "--devices" ∷ codes "1000" ∷ [])
    (booting usual_list (record usual { failures = Some 4 }) Little)
unfolding clap_on_literals ubtool
failures_beside_devices = (refl, refl)

-- boots -d d --devices 1001
too_many_devices_of_boots : IsRefused (codes "boots" ∷ codes "-d" ∷ codes "d" ∷ codes "--devices" ∷ codes "1001" ∷ [])
unfolding clap_on_literals ubtool
too_many_devices_of_boots = refl

-- boots -d d --states 4294967296
too_many_states_of_boots : IsRefused (codes "boots" ∷ codes "-d" ∷ codes "d" ∷ codes "--states" ∷ codes "4294967296" ∷ [])
unfolding clap_on_literals ubtool
too_many_states_of_boots = refl

-- boots
boots_without_list : IsRefused (codes "boots" ∷ [])
unfolding clap_on_literals ubtool
boots_without_list = refl

-- boots -d d --flow
flow_of_boots : IsRefused (codes "boots" ∷ codes "-d" ∷ codes "d" ∷ codes "--flow" ∷ [])
unfolding clap_on_literals ubtool
flow_of_boots = refl

-- boots -d d --check
check_of_boots : IsRefused (codes "boots" ∷ codes "-d" ∷ codes "d" ∷ codes "--check" ∷ [])
unfolding clap_on_literals ubtool
check_of_boots = refl

-- boots -d d --word 01
word_of_boots : IsRefused (codes "boots" ∷ codes "-d" ∷ codes "d" ∷ codes "--word" ∷ codes "01" ∷ [])
unfolding clap_on_literals ubtool
word_of_boots = refl

-- boots -d d --boots 1 --boots 1
two_bounds_of_boots : IsRefused (codes "boots" ∷ codes "-d" ∷ codes "d" ∷ codes "--boots" ∷ codes "1" ∷ codes "--boots" ∷ codes "1" ∷ [])
unfolding clap_on_literals ubtool
two_bounds_of_boots = refl

-- endings -d d --boots 1
boots_of_endings : IsRefused (codes "endings" ∷ codes "-d" ∷ codes "d" ∷ codes "--boots" ∷ codes "1" ∷ [])
unfolding clap_on_literals ubtool
boots_of_endings = refl

-- boots -d d --boots +1
signed_boots : IsUnread (codes "boots" ∷ codes "-d" ∷ codes "d" ∷ codes "--boots" ∷ codes "+1" ∷ [])
unfolding clap_on_literals ubtool
signed_boots = (refl, refl)

-- boots -d d --failures +1
signed_failures_of_boots : IsUnread (codes "boots" ∷ codes "-d" ∷ codes "d" ∷ codes "--failures" ∷ codes "+1" ∷ [])
unfolding clap_on_literals ubtool
signed_failures_of_boots = (refl, refl)

-- boots -d d --states +1
signed_states_of_boots : IsUnread (codes "boots" ∷ codes "-d" ∷ codes "d" ∷ codes "--states" ∷ codes "+1" ∷ [])
unfolding clap_on_literals ubtool
signed_states_of_boots = (refl, refl)

-- boots -d d --work +1
signed_work_of_boots : IsUnread (codes "boots" ∷ codes "-d" ∷ codes "d" ∷ codes "--work" ∷ codes "+1" ∷ [])
unfolding clap_on_literals ubtool
signed_work_of_boots = (refl, refl)

-- boots -d d --memory +1
signed_memory_of_boots : IsUnread (codes "boots" ∷ codes "-d" ∷ codes "d" ∷ codes "--memory" ∷ codes "+1" ∷ [])
unfolding clap_on_literals ubtool
signed_memory_of_boots = (refl, refl)

-- boots -d d --given +1
signed_alternative_of_boots : IsUnread (codes "boots" ∷ codes "-d" ∷ codes "d" ∷ codes "--given" ∷ codes "+1" ∷ [])
unfolding clap_on_literals ubtool
signed_alternative_of_boots = (refl, refl)

-- boots -d d --shell old-2023.01 --boots 1
boots_in_old_2023 : AsksFor (codes "boots" ∷ codes "-d" ∷ codes "d" ∷ codes "--shell" ∷ codes "old-2023.01" ∷ codes "--boots" ∷ codes "1" ∷ [])
    (booting usual_list (record usual {
      bounds = record { devices = 1000; steps = 1000000; failures = None; shell = Old2023; room = None };
      boots = 1;
    }) Little)
unfolding clap_on_literals ubtool
boots_in_old_2023 = (refl, refl)

-- boots -d d --shell modern-2025
boots_in_no_shell : IsUnread (codes "boots" ∷ codes "-d" ∷ codes "d" ∷ codes "--shell" ∷ codes "modern-2025" ∷ [])
unfolding clap_on_literals ubtool
boots_in_no_shell = (refl, refl)

-- boots -d d --second g
boots_without_image : AsksFor (codes "boots" ∷ codes "-d" ∷ codes "d" ∷ codes "--second" ∷ codes "g" ∷ [])
    (misnamed SecondNeedsImage)
unfolding clap_on_literals ubtool
boots_without_image = (refl, refl)

-- boots --script f -b a -d d
boots_beside_variable : AsksFor (codes "boots" ∷ codes "--script" ∷ codes "f" ∷ codes "-b" ∷ codes "a" ∷ codes "-d" ∷ codes "d" ∷ [])
    (misnamed ScriptAndVariable)
unfolding clap_on_literals ubtool
boots_beside_variable = (refl, refl)

-- boots -d d --second g --boots +1
signed_boots_before_images : IsUnread (codes "boots" ∷ codes "-d" ∷ codes "d" ∷ codes "--second" ∷ codes "g" ∷ codes "--boots" ∷ codes "+1" ∷ [])
unfolding clap_on_literals ubtool
signed_boots_before_images = (refl, refl)
