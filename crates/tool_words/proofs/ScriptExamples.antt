-- Worked calls with a script in place of a variable, computed.
use Rattle.std.proofs.Common.{false, refl, [], ◌∷◌, None, Some, codes}
use Rattle.clap.proofs.OnLiterals.{clap_on_literals}
use Rattle.envimage.specs.declared.image.ByteOrder.TheVariants.{Big, Little}
use Rattle.rehearse_terms.specs.Asking.{Listed, whole_page}
use Rattle.rehearse_terms.specs.declared.shell.Shell.TheVariants.{Profile}
use Rattle.tool_words.proofs.CommandLineExamples.{AsksFor, IsRefused, as_listed}
use Rattle.tool_words.specs.Asked.{InputsShown, OriginShown, causing, configured, ending, misnamed, no_images, rehearsing, texts, whole, word_alone}
use Rattle.tool_words.specs.CommandLine.{ubtool}
use Rattle.tool_words.specs.declared.ask.OriginError.TheVariants.{ScriptAndVariable, SecondNeedsImage}

-- the device list d and the script f are read
abbrev runs_script : OriginShown → InputsShown
runs_script origin = record { origin = origin; device_list = codes "d"; taking = as_listed; script = Some (codes "f"); files = None }

-- rehearse --script f -d d: the environment is empty
script_alone : AsksFor (codes "rehearse" ∷ codes "--script" ∷ codes "f" ∷ codes "-d" ∷ codes "d" ∷ [])
    (rehearsing (runs_script (no_images Little)) (record {
      variable = codes "f";
      bounds = record { devices = 16; steps = 10000; failures = None; shell = Profile; room = None };
      wanted = Listed None whole_page;
      names = [];
    }) Little)
unfolding clap_on_literals ubtool
script_alone = (refl, refl)

-- rehearse --script f -d d --big-endian
script_big_endian : AsksFor (codes "rehearse" ∷ codes "--script" ∷ codes "f" ∷ codes "-d" ∷ codes "d" ∷ codes "--big-endian" ∷ [])
    (rehearsing (runs_script (no_images Big)) (record {
      variable = codes "f";
      bounds = record { devices = 16; steps = 10000; failures = None; shell = Profile; room = None };
      wanted = Listed None whole_page;
      names = [];
    }) Big)
unfolding clap_on_literals ubtool
script_big_endian = (refl, refl)

-- rehearse --script f -c c -d d
script_beside_config : AsksFor (codes "rehearse" ∷ codes "--script" ∷ codes "f" ∷ codes "-c" ∷ codes "c" ∷ codes "-d" ∷ codes "d" ∷ [])
    (rehearsing (runs_script (configured (codes "c"))) (record {
      variable = codes "f";
      bounds = record { devices = 16; steps = 10000; failures = None; shell = Profile; room = None };
      wanted = Listed None whole_page;
      names = [];
    }) Little)
unfolding clap_on_literals ubtool
script_beside_config = (refl, refl)

-- rehearse --script f -i i -d d
script_beside_image : AsksFor (codes "rehearse" ∷ codes "--script" ∷ codes "f" ∷ codes "-i" ∷ codes "i" ∷ codes "-d" ∷ codes "d" ∷ [])
    (rehearsing (runs_script (whole (codes "i") None)) (record {
      variable = codes "f";
      bounds = record { devices = 16; steps = 10000; failures = None; shell = Profile; room = None };
      wanted = Listed None whole_page;
      names = [];
    }) Little)
unfolding clap_on_literals ubtool
script_beside_image = (refl, refl)

-- rehearse --script f -i i --second j -d d
script_beside_pair : AsksFor (codes "rehearse" ∷ codes "--script" ∷ codes "f" ∷ codes "-i" ∷ codes "i" ∷ codes "--second" ∷ codes "j" ∷ codes "-d" ∷ codes "d" ∷ [])
    (rehearsing (runs_script (whole (codes "i") (Some (codes "j")))) (record {
      variable = codes "f";
      bounds = record { devices = 16; steps = 10000; failures = None; shell = Profile; room = None };
      wanted = Listed None whole_page;
      names = [];
    }) Little)
unfolding clap_on_literals ubtool
script_beside_pair = (refl, refl)

-- rehearse --script f --text t -d d
script_beside_text : AsksFor (codes "rehearse" ∷ codes "--script" ∷ codes "f" ∷ codes "--text" ∷ codes "t" ∷ codes "-d" ∷ codes "d" ∷ [])
    (rehearsing (runs_script (texts (codes "t") Little)) (record {
      variable = codes "f";
      bounds = record { devices = 16; steps = 10000; failures = None; shell = Profile; room = None };
      wanted = Listed None whole_page;
      names = [];
    }) Little)
unfolding clap_on_literals ubtool
script_beside_text = (refl, refl)

-- rehearse --script f --second j -d d
script_beside_second : AsksFor (codes "rehearse" ∷ codes "--script" ∷ codes "f" ∷ codes "--second" ∷ codes "j" ∷ codes "-d" ∷ codes "d" ∷ [])
    (misnamed SecondNeedsImage)
unfolding clap_on_literals ubtool
script_beside_second = (refl, refl)

-- rehearse --script f -b a -d d
script_beside_variable : AsksFor (codes "rehearse" ∷ codes "--script" ∷ codes "f" ∷ codes "-b" ∷ codes "a" ∷ codes "-d" ∷ codes "d" ∷ [])
    (misnamed ScriptAndVariable)
unfolding clap_on_literals ubtool
script_beside_variable = (refl, refl)

-- rehearse --script f -b a -i i -c c -d d: it comes before the refusal of the images
script_before_images : AsksFor (codes "rehearse" ∷ codes "--script" ∷ codes "f" ∷ codes "-b" ∷ codes "a" ∷ codes "-i" ∷ codes "i" ∷ codes "-c" ∷ codes "c" ∷ codes "-d" ∷ codes "d" ∷ [])
    (misnamed ScriptAndVariable)
unfolding clap_on_literals ubtool
script_before_images = (refl, refl)

-- rehearse --script f -b a --word 0 --limit 1 -d d
word_before_script : AsksFor (codes "rehearse" ∷ codes "--script" ∷ codes "f" ∷ codes "-b" ∷ codes "a" ∷ codes "--word" ∷ codes "0" ∷ codes "--limit" ∷ codes "1" ∷ codes "-d" ∷ codes "d" ∷ [])
    word_alone
unfolding clap_on_literals ubtool
word_before_script = (refl, refl)

-- endings --script f -d d
script_ended : AsksFor (codes "endings" ∷ codes "--script" ∷ codes "f" ∷ codes "-d" ∷ codes "d" ∷ [])
    (ending (runs_script (no_images Little)) (record {
      variable = codes "f";
      bounds = record { devices = 1000; steps = 1000000; failures = None; shell = Profile; room = None };
      states = 1000000;
      work = 1000000000;
      memory = 512;
      names = [];
      flow = false;
    }) Little)
unfolding clap_on_literals ubtool
script_ended = (refl, refl)

-- causes --script f -d d
script_of_causes : AsksFor (codes "causes" ∷ codes "--script" ∷ codes "f" ∷ codes "-d" ∷ codes "d" ∷ [])
    (causing (runs_script (no_images Little)) (record {
      variable = codes "f";
      bounds = record { devices = 1000; steps = 1000000; failures = Some 2; shell = Profile; room = None };
      check = false;
    }) Little)
unfolding clap_on_literals ubtool
script_of_causes = (refl, refl)

-- endings --script f -b a -d d
ended_beside_variable : AsksFor (codes "endings" ∷ codes "--script" ∷ codes "f" ∷ codes "-b" ∷ codes "a" ∷ codes "-d" ∷ codes "d" ∷ [])
    (misnamed ScriptAndVariable)
unfolding clap_on_literals ubtool
ended_beside_variable = (refl, refl)

-- causes --script f -b a -d d
causes_beside_variable : AsksFor (codes "causes" ∷ codes "--script" ∷ codes "f" ∷ codes "-b" ∷ codes "a" ∷ codes "-d" ∷ codes "d" ∷ [])
    (misnamed ScriptAndVariable)
unfolding clap_on_literals ubtool
causes_beside_variable = (refl, refl)

-- rehearse --script f --script g -d d
script_twice : IsRefused (codes "rehearse" ∷ codes "--script" ∷ codes "f" ∷ codes "--script" ∷ codes "g" ∷ codes "-d" ∷ codes "d" ∷ [])
unfolding clap_on_literals ubtool
script_twice = refl

-- printenv --script f
script_printed : IsRefused (codes "printenv" ∷ codes "--script" ∷ codes "f" ∷ [])
unfolding clap_on_literals ubtool
script_printed = refl
