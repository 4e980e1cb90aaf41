-- Worked calls of `rehearse`, computed: what the words ask for, and that `clap` accepts them or not.
use Rattle.std.proofs.Common.{refl, [], ◌∷◌, Some, None, codes}
use Rattle.clap.proofs.OnLiterals.{clap_on_literals}
use Rattle.envimage.specs.declared.image.ByteOrder.TheVariants.{Big, Little}
use Rattle.tool_words.specs.declared.ask.OriginError.TheVariants.{ImageAndConfig}
use Rattle.tool_words.specs.Asked.{configured, misnamed, page_with, rehearsing, too_many_devices, whole, word_alone}
use Rattle.rehearse_terms.specs.declared.shell.Shell.TheVariants.{Modern2025, Old2023, Old2025, Profile}
use Rattle.rehearse_terms.specs.Asking.{Alone, Listed, whole_page}
use Rattle.tool_words.specs.CommandLine.{ubtool}
use Rattle.tool_words.proofs.CommandLineExamples.{AsksFor, IsRefused, IsUnread, read_from, usual_list}

-- rehearse -d d.txt --limit 1 z
rehearsal : AsksFor
    (codes "rehearse" ∷ codes "-d" ∷ codes "d.txt" ∷ codes "--limit" ∷ codes "1" ∷ codes "z" ∷ [])
    (rehearsing (read_from (configured (codes "/etc/fw_env.config")) (codes "d.txt")) (record {
      variable = codes "bootcmd";
      bounds = record { devices = 16; steps = 10000; failures = None; shell = Profile; room = None };
      wanted = Listed None (page_with (Some 1));
      names = codes "z" ∷ [];
    }) Little)
unfolding clap_on_literals ubtool
rehearsal = (refl, refl)

-- rehearse --one-copy
rehearsed_from_one : IsRefused (codes "rehearse" ∷ codes "-d" ∷ codes "d" ∷ codes "--one-copy" ∷ [])
unfolding clap_on_literals ubtool
rehearsed_from_one = refl

-- rehearse -l d
locked_rehearsal : IsRefused (codes "rehearse" ∷ codes "-d" ∷ codes "d" ∷ codes "-l" ∷ codes "d" ∷ [])
unfolding clap_on_literals ubtool
locked_rehearsal = refl

-- rehearse -d d --devices 32 --steps 0 --after . --big-endian
bounded : AsksFor
    (codes "rehearse" ∷ codes "-d" ∷ codes "d" ∷ codes "--devices" ∷ codes "32" ∷ codes "--steps" ∷ codes "0" ∷ codes "--after" ∷ codes "." ∷ codes "--big-endian" ∷ [])
    (rehearsing usual_list (record {
      variable = codes "bootcmd";
      bounds = record { devices = 32; steps = 0; failures = None; shell = Profile; room = None };
      wanted = Listed (Some (codes ".")) whole_page;
      names = [];
    }) Big)
unfolding clap_on_literals ubtool
bounded = (refl, refl)

-- rehearse -d d -c c -i f --devices 33
bounds_before_images : AsksFor (codes "rehearse" ∷ codes "-d" ∷ codes "d" ∷ codes "-c" ∷ codes "c" ∷ codes "-i" ∷ codes "f" ∷ codes "--devices" ∷ codes "33" ∷ [])
    too_many_devices
unfolding clap_on_literals ubtool
bounds_before_images = (refl, refl)

-- rehearse -d d -c c -i f
rehearsed_beside_two : AsksFor (codes "rehearse" ∷ codes "-d" ∷ codes "d" ∷ codes "-c" ∷ codes "c" ∷ codes "-i" ∷ codes "f" ∷ [])
    (misnamed ImageAndConfig)
unfolding clap_on_literals ubtool
rehearsed_beside_two = (refl, refl)

-- rehearse -d d -i f
image_rehearsed : AsksFor (codes "rehearse" ∷ codes "-d" ∷ codes "d" ∷ codes "-i" ∷ codes "f" ∷ [])
    (rehearsing (read_from (whole (codes "f") None) (codes "d")) (record {
      variable = codes "bootcmd";
      bounds = record { devices = 16; steps = 10000; failures = None; shell = Profile; room = None };
      wanted = Listed None whole_page;
      names = [];
    }) Little)
unfolding clap_on_literals ubtool
image_rehearsed = (refl, refl)

-- rehearse
no_device_list : IsRefused (codes "rehearse" ∷ [])
unfolding clap_on_literals ubtool
no_device_list = refl

-- rehearse -d d --devices 33
more_devices_than_listed : AsksFor (codes "rehearse" ∷ codes "-d" ∷ codes "d" ∷ codes "--devices" ∷ codes "33" ∷ []) too_many_devices
unfolding clap_on_literals ubtool
more_devices_than_listed = (refl, refl)

-- rehearse -d d --word 01 z
one_run : AsksFor (codes "rehearse" ∷ codes "-d" ∷ codes "d" ∷ codes "--word" ∷ codes "01" ∷ codes "z" ∷ [])
    (rehearsing usual_list (record {
      variable = codes "bootcmd";
      bounds = record { devices = 1000; steps = 1000000; failures = None; shell = Profile; room = None };
      wanted = Alone (codes "01");
      names = codes "z" ∷ [];
    }) Little)
unfolding clap_on_literals ubtool
one_run = (refl, refl)

-- rehearse -d d --word . --limit 1
word_beside_limit : AsksFor (codes "rehearse" ∷ codes "-d" ∷ codes "d" ∷ codes "--word" ∷ codes "." ∷ codes "--limit" ∷ codes "1" ∷ []) word_alone
unfolding clap_on_literals ubtool
word_beside_limit = (refl, refl)

-- rehearse -d d --failures 3 --devices 1000
few_failures : AsksFor (codes "rehearse" ∷ codes "-d" ∷ codes "d" ∷ codes "--failures" ∷ codes "3" ∷ codes "--devices" ∷ codes "1000" ∷ [])
    (rehearsing usual_list (record {
      variable = codes "bootcmd";
      bounds = record { devices = 1000; steps = 10000; failures = Some 3; shell = Profile; room = None };
      wanted = Listed None whole_page;
      names = [];
    }) Little)
unfolding clap_on_literals ubtool
few_failures = (refl, refl)

-- rehearse -d d --failures 4 --devices 33
more_failures_than_few : AsksFor (codes "rehearse" ∷ codes "-d" ∷ codes "d" ∷ codes "--failures" ∷ codes "4" ∷ codes "--devices" ∷ codes "33" ∷ []) too_many_devices
unfolding clap_on_literals ubtool
more_failures_than_few = (refl, refl)

-- rehearse -d d --word . --failures 0
word_beside_failures : AsksFor (codes "rehearse" ∷ codes "-d" ∷ codes "d" ∷ codes "--word" ∷ codes "." ∷ codes "--failures" ∷ codes "0" ∷ []) word_alone
unfolding clap_on_literals ubtool
word_beside_failures = (refl, refl)

-- rehearse -d d --failures 33
too_many_failures : IsRefused (codes "rehearse" ∷ codes "-d" ∷ codes "d" ∷ codes "--failures" ∷ codes "33" ∷ [])
unfolding clap_on_literals ubtool
too_many_failures = refl

-- rehearse -d d --devices 1001
too_many_word_devices : IsRefused (codes "rehearse" ∷ codes "-d" ∷ codes "d" ∷ codes "--devices" ∷ codes "1001" ∷ [])
unfolding clap_on_literals ubtool
too_many_word_devices = refl

-- rehearse -d d --limit 0
limit_of_none : IsRefused (codes "rehearse" ∷ codes "-d" ∷ codes "d" ∷ codes "--limit" ∷ codes "0" ∷ [])
unfolding clap_on_literals ubtool
limit_of_none = refl

-- rehearse -d d --devices +1
signed_devices : IsUnread (codes "rehearse" ∷ codes "-d" ∷ codes "d" ∷ codes "--devices" ∷ codes "+1" ∷ [])
unfolding clap_on_literals ubtool
signed_devices = (refl, refl)

-- rehearse -d d --failures +2
signed_failures : IsUnread (codes "rehearse" ∷ codes "-d" ∷ codes "d" ∷ codes "--failures" ∷ codes "+2" ∷ [])
unfolding clap_on_literals ubtool
signed_failures = (refl, refl)

-- rehearse -d d --limit +1
signed_limit : IsUnread (codes "rehearse" ∷ codes "-d" ∷ codes "d" ∷ codes "--limit" ∷ codes "+1" ∷ [])
unfolding clap_on_literals ubtool
signed_limit = (refl, refl)

-- rehearse -d d --shell old-2023.01
rehearsed_in_old_2023 : AsksFor (codes "rehearse" ∷ codes "-d" ∷ codes "d" ∷ codes "--shell" ∷ codes "old-2023.01" ∷ [])
    (rehearsing usual_list (record {
      variable = codes "bootcmd";
      bounds = record { devices = 16; steps = 10000; failures = None; shell = Old2023; room = None };
      wanted = Listed None whole_page;
      names = [];
    }) Little)
unfolding clap_on_literals ubtool
rehearsed_in_old_2023 = (refl, refl)

-- rehearse -d d --shell=old --failures 1
failures_in_newest_old : AsksFor (codes "rehearse" ∷ codes "-d" ∷ codes "d" ∷ codes "--shell=old" ∷ codes "--failures" ∷ codes "1" ∷ [])
    (rehearsing usual_list (record {
      variable = codes "bootcmd";
      bounds = record { devices = 16; steps = 10000; failures = Some 1; shell = Old2025; room = None };
      wanted = Listed None whole_page;
      names = [];
    }) Little)
unfolding clap_on_literals ubtool
failures_in_newest_old = (refl, refl)

-- rehearse -d d --word 01 --shell old-2025.01
word_in_old_2025 : AsksFor (codes "rehearse" ∷ codes "-d" ∷ codes "d" ∷ codes "--word" ∷ codes "01" ∷ codes "--shell" ∷ codes "old-2025.01" ∷ [])
    (rehearsing usual_list (record {
      variable = codes "bootcmd";
      bounds = record { devices = 1000; steps = 1000000; failures = None; shell = Old2025; room = None };
      wanted = Alone (codes "01");
      names = [];
    }) Little)
unfolding clap_on_literals ubtool
word_in_old_2025 = (refl, refl)

-- rehearse -d d --shell profile --after 0
after_in_profile : AsksFor (codes "rehearse" ∷ codes "-d" ∷ codes "d" ∷ codes "--shell" ∷ codes "profile" ∷ codes "--after" ∷ codes "0" ∷ [])
    (rehearsing usual_list (record {
      variable = codes "bootcmd";
      bounds = record { devices = 16; steps = 10000; failures = None; shell = Profile; room = None };
      wanted = Listed (Some (codes "0")) whole_page;
      names = [];
    }) Little)
unfolding clap_on_literals ubtool
after_in_profile = (refl, refl)

-- rehearse -d d --word 01 --shell modern
word_in_newest_modern : AsksFor (codes "rehearse" ∷ codes "-d" ∷ codes "d" ∷ codes "--word" ∷ codes "01" ∷ codes "--shell" ∷ codes "modern" ∷ [])
    (rehearsing usual_list (record {
      variable = codes "bootcmd";
      bounds = record { devices = 1000; steps = 1000000; failures = None; shell = Modern2025; room = None };
      wanted = Alone (codes "01");
      names = [];
    }) Little)
unfolding clap_on_literals ubtool
word_in_newest_modern = (refl, refl)

-- rehearse -d d --shell modern-2023.01
modern_shell : IsUnread (codes "rehearse" ∷ codes "-d" ∷ codes "d" ∷ codes "--shell" ∷ codes "modern-2023.01" ∷ [])
unfolding clap_on_literals ubtool
modern_shell = (refl, refl)

-- rehearse -d d --shell=
shell_without_name : IsUnread (codes "rehearse" ∷ codes "-d" ∷ codes "d" ∷ codes "--shell=" ∷ [])
unfolding clap_on_literals ubtool
shell_without_name = (refl, refl)

-- rehearse -d d --shell Old
shell_in_capitals : IsUnread (codes "rehearse" ∷ codes "-d" ∷ codes "d" ∷ codes "--shell" ∷ codes "Old" ∷ [])
unfolding clap_on_literals ubtool
shell_in_capitals = (refl, refl)

-- rehearse -d d --shell old --shell old
two_shells : IsRefused (codes "rehearse" ∷ codes "-d" ∷ codes "d" ∷ codes "--shell" ∷ codes "old" ∷ codes "--shell" ∷ codes "old" ∷ [])
unfolding clap_on_literals ubtool
two_shells = refl
