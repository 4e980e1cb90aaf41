-- Worked calls with long options and for the version, computed.
use Rattle.std.proofs.Common.{◌≡◌, true, false, refl, List, [], ◌∷◌, Some, None, codes}
use Rattle.clap.specs.Words.{Text, fault_of}
use Rattle.clap.specs.declared.error.kind.ErrorKind.TheVariants.{DisplayVersion}
use Rattle.clap.proofs.OnLiterals.{clap_on_literals}
use Rattle.envimage.specs.declared.image.ByteOrder.TheVariants.{Little}
use Rattle.tool_words.specs.Asked.{configured, printing, rehearsing, scripted, whole}
use Rattle.rehearse_terms.specs.declared.shell.Shell.TheVariants.{Profile}
use Rattle.rehearse_terms.specs.Asking.{Listed, whole_page}
use Rattle.tool_words.specs.CommandLine.{ubtool}
use Rattle.envtools.specs.Printing.{plain}
use Rattle.tool_words.proofs.CommandLineExamples.{AsksFor, bare, usual_list}

-- the words ask for the version alone
abbrev AsksForVersion : List Text → Type 0
AsksForVersion words = fault_of ubtool words ≡ DisplayVersion ∷ []

-- printenv --config f --noheader a
long_print : AsksFor (codes "printenv" ∷ codes "--config" ∷ codes "f" ∷ codes "--noheader" ∷ codes "a" ∷ [])
    (printing (configured (codes "f")) bare (codes "a" ∷ []) Little false)
unfolding clap_on_literals ubtool
long_print = (refl, refl)

-- printenv --no-header --config=f a
second_name : AsksFor (codes "printenv" ∷ codes "--no-header" ∷ codes "--config=f" ∷ codes "a" ∷ [])
    (printing (configured (codes "f")) bare (codes "a" ∷ []) Little false)
unfolding clap_on_literals ubtool
second_name = (refl, refl)

-- printenv --image=f --second=g
long_image : AsksFor (codes "printenv" ∷ codes "--image=f" ∷ codes "--second=g" ∷ [])
    (printing (whole (codes "f") (Some (codes "g"))) plain [] Little false)
unfolding clap_on_literals ubtool
long_image = (refl, refl)

-- printenv --null
long_null : AsksFor (codes "printenv" ∷ codes "--null" ∷ [])
    (printing (configured (codes "/etc/fw_env.config")) (record plain { null = true }) [] Little false)
unfolding clap_on_literals ubtool
long_null = (refl, refl)

-- setenv --script f
long_script : AsksFor (codes "setenv" ∷ codes "--script" ∷ codes "f" ∷ [])
    (scripted (configured (codes "/etc/fw_env.config")) (codes "f") Little false)
unfolding clap_on_literals ubtool
long_script = (refl, refl)

-- rehearse --device-list d --variable q
long_rehearsal : AsksFor (codes "rehearse" ∷ codes "--device-list" ∷ codes "d" ∷ codes "--variable" ∷ codes "q" ∷ [])
    (rehearsing usual_list (record {
      variable = codes "q";
      bounds = record { devices = 16; steps = 10000; failures = None; shell = Profile; room = None };
      wanted = Listed None whole_page;
      names = [];
    }) Little)
unfolding clap_on_literals ubtool
long_rehearsal = (refl, refl)

-- --version
version_alone : AsksForVersion (codes "--version" ∷ [])
unfolding clap_on_literals ubtool
version_alone = refl

-- printenv -V
version_of_subcommand : AsksForVersion (codes "printenv" ∷ codes "-V" ∷ [])
unfolding clap_on_literals ubtool
version_of_subcommand = refl
