-- Worked calls of `causes`, computed: what the words ask for, and that `clap` accepts them or not.
use Rattle.std.proofs.Common.{true, false, refl, [], ◌∷◌, None, Some, codes}
use Rattle.clap.proofs.OnLiterals.{clap_on_literals}
use Rattle.envimage.specs.declared.image.ByteOrder.TheVariants.{Big, Little}
use Rattle.tool_words.specs.declared.ask.OriginError.TheVariants.{SecondNeedsImage}
use Rattle.tool_words.specs.Asked.{causing, configured, misnamed, whole}
use Rattle.rehearse_terms.specs.declared.shell.Shell.TheVariants.{Modern2025, Old2023, Old2025, Profile}
use Rattle.tool_words.specs.CommandLine.{ubtool}
use Rattle.tool_words.proofs.CommandLineExamples.{AsksFor, IsRefused, IsUnread, read_from, usual_list}

-- causes -d d
all_causes : AsksFor (codes "causes" ∷ codes "-d" ∷ codes "d" ∷ [])
    (causing usual_list (record {
      variable = codes "bootcmd";
      bounds = record { devices = 1000; steps = 1000000; failures = Some 2; shell = Profile; room = None };
      check = false;
    }) Little)
unfolding clap_on_literals ubtool
all_causes = (refl, refl)

-- causes -c f -d d -b q --devices 0 --steps 7 --failures 0 --check --big-endian
few_causes : AsksFor (codes "causes" ∷ codes "-c" ∷ codes "f" ∷ codes "-d" ∷ codes "d" ∷ codes "-b" ∷ codes "q" ∷ codes "--devices" ∷ codes "0" ∷ codes "--steps" ∷ codes "7" ∷ codes "--failures" ∷ codes "0" ∷ codes "--check" ∷ codes "--big-endian" ∷ [])
    (causing (read_from (configured (codes "f")) (codes "d")) (record {
      variable = codes "q";
      bounds = record { devices = 0; steps = 7; failures = Some 0; shell = Profile; room = None };
      check = true;
    }) Big)
unfolding clap_on_literals ubtool
few_causes = (refl, refl)

-- causes -d d --failures=3 --devices 1000 --steps 1000000
most_causes : AsksFor (codes "causes" ∷ codes "-d" ∷ codes "d" ∷ codes "--failures=3" ∷ codes "--devices" ∷ codes "1000" ∷ codes "--steps" ∷ codes "1000000" ∷ [])
    (causing usual_list (record {
      variable = codes "bootcmd";
      bounds = record { devices = 1000; steps = 1000000; failures = Some 3; shell = Profile; room = None };
      check = false;
    }) Little)
unfolding clap_on_literals ubtool
most_causes = (refl, refl)

-- causes -i f --second g -d d
causes_of_pair : AsksFor (codes "causes" ∷ codes "-i" ∷ codes "f" ∷ codes "--second" ∷ codes "g" ∷ codes "-d" ∷ codes "d" ∷ [])
    (causing (read_from (whole (codes "f") (Some (codes "g"))) (codes "d")) (record {
      variable = codes "bootcmd";
      bounds = record { devices = 1000; steps = 1000000; failures = Some 2; shell = Profile; room = None };
      check = false;
    }) Little)
unfolding clap_on_literals ubtool
causes_of_pair = (refl, refl)

-- causes -d d --shell old
causes_in_newest_old : AsksFor (codes "causes" ∷ codes "-d" ∷ codes "d" ∷ codes "--shell" ∷ codes "old" ∷ [])
    (causing usual_list (record {
      variable = codes "bootcmd";
      bounds = record { devices = 1000; steps = 1000000; failures = Some 2; shell = Old2025; room = None };
      check = false;
    }) Little)
unfolding clap_on_literals ubtool
causes_in_newest_old = (refl, refl)

-- causes -d d --shell modern
causes_in_newest_modern : AsksFor (codes "causes" ∷ codes "-d" ∷ codes "d" ∷ codes "--shell" ∷ codes "modern" ∷ [])
    (causing usual_list (record {
      variable = codes "bootcmd";
      bounds = record { devices = 1000; steps = 1000000; failures = Some 2; shell = Modern2025; room = None };
      check = false;
    }) Little)
unfolding clap_on_literals ubtool
causes_in_newest_modern = (refl, refl)

-- causes --check -d d --shell old-2023.01 --failures 1
checked : AsksFor (codes "causes" ∷ codes "--check" ∷ codes "-d" ∷ codes "d" ∷ codes "--shell" ∷ codes "old-2023.01" ∷ codes "--failures" ∷ codes "1" ∷ [])
    (causing usual_list (record {
      variable = codes "bootcmd";
      bounds = record { devices = 1000; steps = 1000000; failures = Some 1; shell = Old2023; room = None };
      check = true;
    }) Little)
unfolding clap_on_literals ubtool
checked = (refl, refl)

-- causes -d d --second g
causes_of_second : AsksFor (codes "causes" ∷ codes "-d" ∷ codes "d" ∷ codes "--second" ∷ codes "g" ∷ [])
    (misnamed SecondNeedsImage)
unfolding clap_on_literals ubtool
causes_of_second = (refl, refl)

-- causes -d d --failures 4
too_many_cause_failures : IsRefused (codes "causes" ∷ codes "-d" ∷ codes "d" ∷ codes "--failures" ∷ codes "4" ∷ [])
unfolding clap_on_literals ubtool
too_many_cause_failures = refl

-- causes -d d --devices 1001
too_many_cause_devices : IsRefused (codes "causes" ∷ codes "-d" ∷ codes "d" ∷ codes "--devices" ∷ codes "1001" ∷ [])
unfolding clap_on_literals ubtool
too_many_cause_devices = refl

-- causes --check
causes_without_list : IsRefused (codes "causes" ∷ codes "--check" ∷ [])
unfolding clap_on_literals ubtool
causes_without_list = refl

-- causes -d d bootargs
causes_of_a_name : IsRefused (codes "causes" ∷ codes "-d" ∷ codes "d" ∷ codes "bootargs" ∷ [])
unfolding clap_on_literals ubtool
causes_of_a_name = refl

-- causes -d d --word 01
causes_of_a_word : IsRefused (codes "causes" ∷ codes "-d" ∷ codes "d" ∷ codes "--word" ∷ codes "01" ∷ [])
unfolding clap_on_literals ubtool
causes_of_a_word = refl

-- causes -d d --after 01
causes_after_a_word : IsRefused (codes "causes" ∷ codes "-d" ∷ codes "d" ∷ codes "--after" ∷ codes "01" ∷ [])
unfolding clap_on_literals ubtool
causes_after_a_word = refl

-- causes -d d --limit 1
page_of_causes : IsRefused (codes "causes" ∷ codes "-d" ∷ codes "d" ∷ codes "--limit" ∷ codes "1" ∷ [])
unfolding clap_on_literals ubtool
page_of_causes = refl

-- causes -d d --states 1
states_of_causes : IsRefused (codes "causes" ∷ codes "-d" ∷ codes "d" ∷ codes "--states" ∷ codes "1" ∷ [])
unfolding clap_on_literals ubtool
states_of_causes = refl

-- causes -d d --work 1
work_of_causes : IsRefused (codes "causes" ∷ codes "-d" ∷ codes "d" ∷ codes "--work" ∷ codes "1" ∷ [])
unfolding clap_on_literals ubtool
work_of_causes = refl

-- causes -d d --memory 1
memory_of_causes : IsRefused (codes "causes" ∷ codes "-d" ∷ codes "d" ∷ codes "--memory" ∷ codes "1" ∷ [])
unfolding clap_on_literals ubtool
memory_of_causes = refl

-- causes -d d --flow
flow_of_causes : IsRefused (codes "causes" ∷ codes "-d" ∷ codes "d" ∷ codes "--flow" ∷ [])
unfolding clap_on_literals ubtool
flow_of_causes = refl

-- causes -d d --check --check
two_checks : IsRefused (codes "causes" ∷ codes "-d" ∷ codes "d" ∷ codes "--check" ∷ codes "--check" ∷ [])
unfolding clap_on_literals ubtool
two_checks = refl

-- causes -d d --failures +2
signed_cause_failures : IsUnread (codes "causes" ∷ codes "-d" ∷ codes "d" ∷ codes "--failures" ∷ codes "+2" ∷ [])
unfolding clap_on_literals ubtool
signed_cause_failures = (refl, refl)

-- causes -d d --shell modern-2023.01
causes_in_no_shell : IsUnread (codes "causes" ∷ codes "-d" ∷ codes "d" ∷ codes "--shell" ∷ codes "modern-2023.01" ∷ [])
unfolding clap_on_literals ubtool
causes_in_no_shell = (refl, refl)
