-- Worked calls that say how the device list is taken, computed.
use Rattle.std.proofs.Common.{false, true, refl, [], ◌∷◌, None, Some, codes}
use Rattle.clap.proofs.OnLiterals.{clap_on_literals}
use Rattle.envimage.specs.declared.image.ByteOrder.TheVariants.{Little}
use Rattle.rehearse_terms.specs.Asking.{Alone, Listed, whole_page}
use Rattle.rehearse_terms.specs.declared.shell.Shell.TheVariants.{Profile}
use Rattle.tool_words.proofs.CommandLineExamples.{AsksFor, IsRefused, IsUnread, usual_list}
use Rattle.tool_words.specs.Asked.{InputsShown, causing, ending, no_images, rehearsing}
use Rattle.tool_words.specs.CommandLine.{ubtool}

-- the usual configuration and the device list d, all of it steady
abbrev steady_list : InputsShown
steady_list = record usual_list { taking = record { steady = true; alternative = None } }

-- rehearse -d d --steady z
steady_rehearsal : AsksFor (codes "rehearse" ∷ codes "-d" ∷ codes "d" ∷ codes "--steady" ∷ codes "z" ∷ [])
    (rehearsing steady_list (record {
      variable = codes "bootcmd";
      bounds = record { devices = 16; steps = 10000; failures = None; shell = Profile; room = None };
      wanted = Listed None whole_page;
      names = codes "z" ∷ [];
    }) Little)
unfolding clap_on_literals ubtool
steady_rehearsal = (refl, refl)

-- rehearse --steady -d d --word 01
steady_word : AsksFor (codes "rehearse" ∷ codes "--steady" ∷ codes "-d" ∷ codes "d" ∷ codes "--word" ∷ codes "01" ∷ [])
    (rehearsing steady_list (record {
      variable = codes "bootcmd";
      bounds = record { devices = 1000; steps = 1000000; failures = None; shell = Profile; room = None };
      wanted = Alone (codes "01");
      names = [];
    }) Little)
unfolding clap_on_literals ubtool
steady_word = (refl, refl)

-- rehearse --script f --steady -d d
steady_script : AsksFor (codes "rehearse" ∷ codes "--script" ∷ codes "f" ∷ codes "--steady" ∷ codes "-d" ∷ codes "d" ∷ [])
    (rehearsing (record steady_list { origin = no_images Little; script = Some (codes "f") }) (record {
      variable = codes "f";
      bounds = record { devices = 16; steps = 10000; failures = None; shell = Profile; room = None };
      wanted = Listed None whole_page;
      names = [];
    }) Little)
unfolding clap_on_literals ubtool
steady_script = (refl, refl)

-- endings -d d --steady
steady_endings : AsksFor (codes "endings" ∷ codes "-d" ∷ codes "d" ∷ codes "--steady" ∷ [])
    (ending steady_list (record {
      variable = codes "bootcmd";
      bounds = record { devices = 1000; steps = 1000000; failures = None; shell = Profile; room = None };
      states = 1000000;
      work = 1000000000;
      memory = 512;
      names = [];
      flow = false;
    }) Little)
unfolding clap_on_literals ubtool
steady_endings = (refl, refl)

-- causes -d d --check --steady --failures 1
steady_check : AsksFor (codes "causes" ∷ codes "-d" ∷ codes "d" ∷ codes "--check" ∷ codes "--steady" ∷ codes "--failures" ∷ codes "1" ∷ [])
    (causing steady_list (record {
      variable = codes "bootcmd";
      bounds = record { devices = 1000; steps = 1000000; failures = Some 1; shell = Profile; room = None };
      check = true;
    }) Little)
unfolding clap_on_literals ubtool
steady_check = (refl, refl)

-- rehearse -d d --steady --steady
steady_twice : IsRefused (codes "rehearse" ∷ codes "-d" ∷ codes "d" ∷ codes "--steady" ∷ codes "--steady" ∷ [])
unfolding clap_on_literals ubtool
steady_twice = refl

-- endings -d d --steady=1
steady_with_value : IsRefused (codes "endings" ∷ codes "-d" ∷ codes "d" ∷ codes "--steady=1" ∷ [])
unfolding clap_on_literals ubtool
steady_with_value = refl

-- printenv --steady
steady_printed : IsRefused (codes "printenv" ∷ codes "--steady" ∷ [])
unfolding clap_on_literals ubtool
steady_printed = refl

-- ---- an alternative of the list

abbrev third_list : InputsShown
third_list = record usual_list { taking = record { steady = false; alternative = Some 3 } }

-- rehearse -d d --given 3
third_given : AsksFor (codes "rehearse" ∷ codes "-d" ∷ codes "d" ∷ codes "--given" ∷ codes "3" ∷ [])
    (rehearsing third_list (record {
      variable = codes "bootcmd";
      bounds = record { devices = 16; steps = 10000; failures = None; shell = Profile; room = None };
      wanted = Listed None whole_page;
      names = [];
    }) Little)
unfolding clap_on_literals ubtool
third_given = (refl, refl)

-- causes --given=64 -d d --steady
last_given : AsksFor (codes "causes" ∷ codes "--given=64" ∷ codes "-d" ∷ codes "d" ∷ codes "--steady" ∷ [])
    (causing (record usual_list { taking = record { steady = true; alternative = Some 64 } }) (record {
      variable = codes "bootcmd";
      bounds = record { devices = 1000; steps = 1000000; failures = Some 2; shell = Profile; room = None };
      check = false;
    }) Little)
unfolding clap_on_literals ubtool
last_given = (refl, refl)

-- endings -d d --given 0
none_given : IsRefused (codes "endings" ∷ codes "-d" ∷ codes "d" ∷ codes "--given" ∷ codes "0" ∷ [])
unfolding clap_on_literals ubtool
none_given = refl

-- endings -d d --given 65
given_beyond : IsRefused (codes "endings" ∷ codes "-d" ∷ codes "d" ∷ codes "--given" ∷ codes "65" ∷ [])
unfolding clap_on_literals ubtool
given_beyond = refl

-- endings -d d --given +3
given_sign : IsUnread (codes "endings" ∷ codes "-d" ∷ codes "d" ∷ codes "--given" ∷ codes "+3" ∷ [])
unfolding clap_on_literals ubtool
given_sign = (refl, refl)

-- printenv --given 1
given_printed : IsRefused (codes "printenv" ∷ codes "--given" ∷ codes "1" ∷ [])
unfolding clap_on_literals ubtool
given_printed = refl
