-- Worked calls with a text in place of images, computed.
use Rattle.std.proofs.Common.{false, true, refl, [], ◌∷◌, None, codes}
use Rattle.clap.proofs.OnLiterals.{clap_on_literals}
use Rattle.envimage.specs.declared.image.ByteOrder.TheVariants.{Big, Little}
use Rattle.envtools.specs.Printing.{plain}
use Rattle.rehearse_terms.specs.Asking.{Listed, whole_page}
use Rattle.rehearse_terms.specs.declared.shell.Shell.TheVariants.{Profile}
use Rattle.tool_words.proofs.CommandLineExamples.{AsksFor, IsRefused, bare, read_from}
use Rattle.tool_words.specs.Asked.{ending, header_needs_one, misnamed, printing, rehearsing, texts}
use Rattle.tool_words.specs.CommandLine.{ubtool}
use Rattle.tool_words.specs.declared.ask.OriginError.TheVariants.{TextAlone}

-- printenv --text f a
text_printed : AsksFor (codes "printenv" ∷ codes "--text" ∷ codes "f" ∷ codes "a" ∷ [])
    (printing (texts (codes "f") Little) plain (codes "a" ∷ []) Little false)
unfolding clap_on_literals ubtool
text_printed = (refl, refl)

-- printenv --text=f --big-endian -n a
text_big_endian : AsksFor (codes "printenv" ∷ codes "--text=f" ∷ codes "--big-endian" ∷ codes "-n" ∷ codes "a" ∷ [])
    (printing (texts (codes "f") Big) bare (codes "a" ∷ []) Big false)
unfolding clap_on_literals ubtool
text_big_endian = (refl, refl)

-- printenv --text f --one-copy
text_in_one : AsksFor (codes "printenv" ∷ codes "--text" ∷ codes "f" ∷ codes "--one-copy" ∷ [])
    (printing (texts (codes "f") Little) plain [] Little true)
unfolding clap_on_literals ubtool
text_in_one = (refl, refl)

-- printenv -c c --text f
text_beside_config : AsksFor (codes "printenv" ∷ codes "-c" ∷ codes "c" ∷ codes "--text" ∷ codes "f" ∷ [])
    (misnamed TextAlone)
unfolding clap_on_literals ubtool
text_beside_config = (refl, refl)

-- printenv --text f -i g
text_beside_image : AsksFor (codes "printenv" ∷ codes "--text" ∷ codes "f" ∷ codes "-i" ∷ codes "g" ∷ [])
    (misnamed TextAlone)
unfolding clap_on_literals ubtool
text_beside_image = (refl, refl)

-- printenv --text f --second g
text_beside_second : AsksFor (codes "printenv" ∷ codes "--text" ∷ codes "f" ∷ codes "--second" ∷ codes "g" ∷ [])
    (misnamed TextAlone)
unfolding clap_on_literals ubtool
text_beside_second = (refl, refl)

-- printenv --text f -c c -i g
text_beside_two : AsksFor (codes "printenv" ∷ codes "--text" ∷ codes "f" ∷ codes "-c" ∷ codes "c" ∷ codes "-i" ∷ codes "g" ∷ [])
    (misnamed TextAlone)
unfolding clap_on_literals ubtool
text_beside_two = (refl, refl)

-- printenv -n --text f -c c
names_before_text : AsksFor (codes "printenv" ∷ codes "-n" ∷ codes "--text" ∷ codes "f" ∷ codes "-c" ∷ codes "c" ∷ [])
    header_needs_one
unfolding clap_on_literals ubtool
names_before_text = (refl, refl)

-- setenv --text f a
text_set : IsRefused (codes "setenv" ∷ codes "--text" ∷ codes "f" ∷ codes "a" ∷ [])
unfolding clap_on_literals ubtool
text_set = refl

-- printenv --text f --text g
text_twice : IsRefused (codes "printenv" ∷ codes "--text" ∷ codes "f" ∷ codes "--text" ∷ codes "g" ∷ [])
unfolding clap_on_literals ubtool
text_twice = refl

-- rehearse --text f -d d
text_rehearsed : AsksFor (codes "rehearse" ∷ codes "--text" ∷ codes "f" ∷ codes "-d" ∷ codes "d" ∷ [])
    (rehearsing (read_from (texts (codes "f") Little) (codes "d")) (record {
      variable = codes "bootcmd";
      bounds = record { devices = 16; steps = 10000; failures = None; shell = Profile; room = None };
      wanted = Listed None whole_page;
      names = [];
    }) Little)
unfolding clap_on_literals ubtool
text_rehearsed = (refl, refl)

-- endings --text f -d d
text_ended : AsksFor (codes "endings" ∷ codes "--text" ∷ codes "f" ∷ codes "-d" ∷ codes "d" ∷ [])
    (ending (read_from (texts (codes "f") Little) (codes "d")) (record {
      variable = codes "bootcmd";
      bounds = record { devices = 1000; steps = 1000000; failures = None; shell = Profile; room = None };
      states = 1000000;
      work = 1000000000;
      memory = 512;
      names = [];
      flow = false;
    }) Little)
unfolding clap_on_literals ubtool
text_ended = (refl, refl)

-- rehearse --text f -i g -d d
rehearsed_beside_image : AsksFor (codes "rehearse" ∷ codes "--text" ∷ codes "f" ∷ codes "-i" ∷ codes "g" ∷ codes "-d" ∷ codes "d" ∷ [])
    (misnamed TextAlone)
unfolding clap_on_literals ubtool
rehearsed_beside_image = (refl, refl)
