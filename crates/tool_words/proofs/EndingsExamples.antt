-- Worked calls of `endings`, computed: what the words ask for, and that `clap` accepts them or not.
use Rattle.std.proofs.Common.{true, false, refl, [], ◌∷◌, Some, None, codes}
use Rattle.clap.proofs.OnLiterals.{clap_on_literals}
use Rattle.envimage.specs.declared.image.ByteOrder.TheVariants.{Big, Little}
use Rattle.tool_words.specs.declared.ask.OriginError.TheVariants.{SecondNeedsImage}
use Rattle.tool_words.specs.Asked.{configured, ending, misnamed, whole}
use Rattle.rehearse_terms.specs.declared.shell.Shell.TheVariants.{Modern2025, Old2023, Old2025, Profile}
use Rattle.tool_words.specs.CommandLine.{ubtool}
use Rattle.tool_words.proofs.CommandLineExamples.{AsksFor, IsRefused, IsUnread, read_from, usual_list}

-- endings -d d --second g
ended_without_image : AsksFor (codes "endings" ∷ codes "-d" ∷ codes "d" ∷ codes "--second" ∷ codes "g" ∷ [])
    (misnamed SecondNeedsImage)
unfolding clap_on_literals ubtool
ended_without_image = (refl, refl)

-- endings -i f --second g -d d
pair_ended : AsksFor (codes "endings" ∷ codes "-i" ∷ codes "f" ∷ codes "--second" ∷ codes "g" ∷ codes "-d" ∷ codes "d" ∷ [])
    (ending (read_from (whole (codes "f") (Some (codes "g"))) (codes "d")) (record {
      variable = codes "bootcmd";
      bounds = record { devices = 1000; steps = 1000000; failures = None; shell = Profile; room = None };
      states = 1000000;
      work = 1000000000;
      memory = 512;
      names = [];
      flow = false;
    }) Little)
unfolding clap_on_literals ubtool
pair_ended = (refl, refl)

-- endings -d d
all_endings : AsksFor (codes "endings" ∷ codes "-d" ∷ codes "d" ∷ [])
    (ending usual_list (record {
      variable = codes "bootcmd";
      bounds = record { devices = 1000; steps = 1000000; failures = None; shell = Profile; room = None };
      states = 1000000;
      work = 1000000000;
      memory = 512;
      names = [];
      flow = false;
    }) Little)
unfolding clap_on_literals ubtool
all_endings = (refl, refl)

-- endings -c f -d d -b q --devices 0 --steps 7 --states 0 --flow --big-endian
few_endings : AsksFor
    (codes "endings" ∷ codes "-c" ∷ codes "f" ∷ codes "-d" ∷ codes "d" ∷ codes "-b" ∷ codes "q" ∷ codes "--devices" ∷ codes "0" ∷ codes "--steps" ∷ codes "7" ∷ codes "--states" ∷ codes "0" ∷ codes "--flow" ∷ codes "--big-endian" ∷ [])
    (ending (read_from (configured (codes "f")) (codes "d")) (record {
      variable = codes "q";
      bounds = record { devices = 0; steps = 7; failures = None; shell = Profile; room = None };
      states = 0;
      work = 1000000000;
      memory = 512;
      names = [];
      flow = true;
    }) Big)
unfolding clap_on_literals ubtool
few_endings = (refl, refl)

-- endings bootargs -d d fdtfile
endings_of_names : AsksFor (codes "endings" ∷ codes "bootargs" ∷ codes "-d" ∷ codes "d" ∷ codes "fdtfile" ∷ [])
    (ending usual_list (record {
      variable = codes "bootcmd";
      bounds = record { devices = 1000; steps = 1000000; failures = None; shell = Profile; room = None };
      states = 1000000;
      work = 1000000000;
      memory = 512;
      names = codes "bootargs" ∷ codes "fdtfile" ∷ [];
      flow = false;
    }) Little)
unfolding clap_on_literals ubtool
endings_of_names = (refl, refl)

-- endings -d d --devices 1001
too_many_run_devices : IsRefused (codes "endings" ∷ codes "-d" ∷ codes "d" ∷ codes "--devices" ∷ codes "1001" ∷ [])
unfolding clap_on_literals ubtool
too_many_run_devices = refl

-- endings -d d --states 4294967296
too_many_states : IsRefused (codes "endings" ∷ codes "-d" ∷ codes "d" ∷ codes "--states" ∷ codes "4294967296" ∷ [])
unfolding clap_on_literals ubtool
too_many_states = refl

-- endings -d d --work 4294967295
most_steps_in_all : AsksFor (codes "endings" ∷ codes "-d" ∷ codes "d" ∷ codes "--work" ∷ codes "4294967295" ∷ [])
    (ending usual_list (record {
      variable = codes "bootcmd";
      bounds = record { devices = 1000; steps = 1000000; failures = None; shell = Profile; room = None };
      states = 1000000;
      work = 4294967295;
      memory = 512;
      names = [];
      flow = false;
    }) Little)
unfolding clap_on_literals ubtool
most_steps_in_all = (refl, refl)

-- endings -d d --states 7 --work 0
no_steps_in_all : AsksFor
    (codes "endings" ∷ codes "-d" ∷ codes "d" ∷ codes "--states" ∷ codes "7" ∷ codes "--work" ∷ codes "0" ∷ [])
    (ending usual_list (record {
      variable = codes "bootcmd";
      bounds = record { devices = 1000; steps = 1000000; failures = None; shell = Profile; room = None };
      states = 7;
      work = 0;
      memory = 512;
      names = [];
      flow = false;
    }) Little)
unfolding clap_on_literals ubtool
no_steps_in_all = (refl, refl)

-- endings -d d --memory 4294967295
most_memory : AsksFor (codes "endings" ∷ codes "-d" ∷ codes "d" ∷ codes "--memory" ∷ codes "4294967295" ∷ [])
    (ending usual_list (record {
      variable = codes "bootcmd";
      bounds = record { devices = 1000; steps = 1000000; failures = None; shell = Profile; room = None };
      states = 1000000;
      work = 1000000000;
      memory = 4294967295;
      names = [];
      flow = false;
    }) Little)
unfolding clap_on_literals ubtool
most_memory = (refl, refl)

-- endings -d d --memory 0 --work 7
no_memory : AsksFor
    (codes "endings" ∷ codes "-d" ∷ codes "d" ∷ codes "--memory" ∷ codes "0" ∷ codes "--work" ∷ codes "7" ∷ [])
    (ending usual_list (record {
      variable = codes "bootcmd";
      bounds = record { devices = 1000; steps = 1000000; failures = None; shell = Profile; room = None };
      states = 1000000;
      work = 7;
      memory = 0;
      names = [];
      flow = false;
    }) Little)
unfolding clap_on_literals ubtool
no_memory = (refl, refl)

-- endings -d d --memory 4294967296
too_much_memory : IsRefused (codes "endings" ∷ codes "-d" ∷ codes "d" ∷ codes "--memory" ∷ codes "4294967296" ∷ [])
unfolding clap_on_literals ubtool
too_much_memory = refl

-- endings -d d --work 4294967296
too_many_steps_in_all : IsRefused (codes "endings" ∷ codes "-d" ∷ codes "d" ∷ codes "--work" ∷ codes "4294967296" ∷ [])
unfolding clap_on_literals ubtool
too_many_steps_in_all = refl

-- endings
endings_without_list : IsRefused (codes "endings" ∷ [])
unfolding clap_on_literals ubtool
endings_without_list = refl

-- endings -d d --states +1
signed_states : IsUnread (codes "endings" ∷ codes "-d" ∷ codes "d" ∷ codes "--states" ∷ codes "+1" ∷ [])
unfolding clap_on_literals ubtool
signed_states = (refl, refl)

-- endings -d d --work +1
signed_work : IsUnread (codes "endings" ∷ codes "-d" ∷ codes "d" ∷ codes "--work" ∷ codes "+1" ∷ [])
unfolding clap_on_literals ubtool
signed_work = (refl, refl)

-- endings -d d --memory +1
signed_memory : IsUnread (codes "endings" ∷ codes "-d" ∷ codes "d" ∷ codes "--memory" ∷ codes "+1" ∷ [])
unfolding clap_on_literals ubtool
signed_memory = (refl, refl)

-- endings -d d --steps=+0
signed_steps : IsUnread (codes "endings" ∷ codes "-d" ∷ codes "d" ∷ codes "--steps=+0" ∷ [])
unfolding clap_on_literals ubtool
signed_steps = (refl, refl)

-- endings -d d --shell old-2023.01 --flow
flow_in_old_2023 : AsksFor (codes "endings" ∷ codes "-d" ∷ codes "d" ∷ codes "--shell" ∷ codes "old-2023.01" ∷ codes "--flow" ∷ [])
    (ending usual_list (record {
      variable = codes "bootcmd";
      bounds = record { devices = 1000; steps = 1000000; failures = None; shell = Old2023; room = None };
      states = 1000000;
      work = 1000000000;
      memory = 512;
      names = [];
      flow = true;
    }) Little)
unfolding clap_on_literals ubtool
flow_in_old_2023 = (refl, refl)

-- endings -d d --shell old
endings_in_newest_old : AsksFor (codes "endings" ∷ codes "-d" ∷ codes "d" ∷ codes "--shell" ∷ codes "old" ∷ [])
    (ending usual_list (record {
      variable = codes "bootcmd";
      bounds = record { devices = 1000; steps = 1000000; failures = None; shell = Old2025; room = None };
      states = 1000000;
      work = 1000000000;
      memory = 512;
      names = [];
      flow = false;
    }) Little)
unfolding clap_on_literals ubtool
endings_in_newest_old = (refl, refl)

-- endings -d d --shell modern-2025.01
endings_in_modern_2025 : AsksFor (codes "endings" ∷ codes "-d" ∷ codes "d" ∷ codes "--shell" ∷ codes "modern-2025.01" ∷ [])
    (ending usual_list (record {
      variable = codes "bootcmd";
      bounds = record { devices = 1000; steps = 1000000; failures = None; shell = Modern2025; room = None };
      states = 1000000;
      work = 1000000000;
      memory = 512;
      names = [];
      flow = false;
    }) Little)
unfolding clap_on_literals ubtool
endings_in_modern_2025 = (refl, refl)

-- endings -d d --shell modern-2025
modern_endings : IsUnread (codes "endings" ∷ codes "-d" ∷ codes "d" ∷ codes "--shell" ∷ codes "modern-2025" ∷ [])
unfolding clap_on_literals ubtool
modern_endings = (refl, refl)

-- endings -d d --check
checked_endings : IsRefused (codes "endings" ∷ codes "-d" ∷ codes "d" ∷ codes "--check" ∷ [])
unfolding clap_on_literals ubtool
checked_endings = refl
