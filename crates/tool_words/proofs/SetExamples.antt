-- Worked calls of `setenv`, computed: what the words ask for, and that `clap` accepts them or not.
use Rattle.std.proofs.Common.{true, false, refl, [], ◌∷◌, Some, None, codes}
use Rattle.clap.proofs.OnLiterals.{clap_on_literals}
use Rattle.envimage.specs.declared.image.ByteOrder.TheVariants.{Big, Little}
use Rattle.tool_words.specs.declared.ask.OriginError.TheVariants.{ImageAndConfig, SecondAndOneCopy, SecondNeedsImage}
use Rattle.tool_words.specs.declared.called.CalledAs.TheVariants.{FwSetenv}
use Rattle.tool_words.specs.Asked.{configured, input_scripted, lock_needs_folder, misnamed, needs_name, script_and_name, scripted, setting, whole}
use Rattle.tool_words.specs.CommandLine.{ubtool}
use Rattle.tool_words.proofs.CommandLineExamples.{AsksFor, AsksForAs}

-- setenv --one-copy a
deleted_in_one : AsksFor (codes "setenv" ∷ codes "--one-copy" ∷ codes "a" ∷ [])
    (setting (configured (codes "/etc/fw_env.config")) (codes "a") [] Little true)
unfolding clap_on_literals ubtool
deleted_in_one = (refl, refl)

-- fw_setenv --one-copy -s -
input_script_in_one : AsksForAs FwSetenv (codes "setenv" ∷ codes "--one-copy" ∷ codes "-s" ∷ codes "-" ∷ [])
    (input_scripted (configured (codes "/etc/fw_env.config")) Little true)
unfolding clap_on_literals ubtool
input_script_in_one = (refl, refl)

-- setenv -s f --one-copy
script_in_one : AsksFor (codes "setenv" ∷ codes "-s" ∷ codes "f" ∷ codes "--one-copy" ∷ [])
    (scripted (configured (codes "/etc/fw_env.config")) (codes "f") Little true)
unfolding clap_on_literals ubtool
script_in_one = (refl, refl)

-- setenv
no_name_set : AsksFor (codes "setenv" ∷ []) needs_name
unfolding clap_on_literals ubtool
no_name_set = (refl, refl)

-- setenv a 1 2
words_set : AsksFor (codes "setenv" ∷ codes "a" ∷ codes "1" ∷ codes "2" ∷ [])
    (setting (configured (codes "/etc/fw_env.config")) (codes "a") (codes "1" ∷ codes "2" ∷ []) Little false)
unfolding clap_on_literals ubtool
words_set = (refl, refl)

-- setenv -s f a
script_beside_name : AsksFor (codes "setenv" ∷ codes "-s" ∷ codes "f" ∷ codes "a" ∷ []) script_and_name
unfolding clap_on_literals ubtool
script_beside_name = (refl, refl)

-- setenv -l d a 1
locked_change : AsksFor (codes "setenv" ∷ codes "-l" ∷ codes "d" ∷ codes "a" ∷ codes "1" ∷ [])
    (setting (configured (codes "/etc/fw_env.config")) (codes "a") (codes "1" ∷ []) Little false)
unfolding clap_on_literals ubtool
locked_change = (refl, refl)

-- setenv --lock= -s f a: the folder is refused first
no_folder_setting : AsksFor (codes "setenv" ∷ codes "--lock=" ∷ codes "-s" ∷ codes "f" ∷ codes "a" ∷ []) lock_needs_folder
unfolding clap_on_literals ubtool
no_folder_setting = (refl, refl)

-- setenv -s f --big-endian
big_script : AsksFor (codes "setenv" ∷ codes "-s" ∷ codes "f" ∷ codes "--big-endian" ∷ [])
    (scripted (configured (codes "/etc/fw_env.config")) (codes "f") Big false)
unfolding clap_on_literals ubtool
big_script = (refl, refl)

-- setenv -s -: a file of that name
dashed_script : AsksFor (codes "setenv" ∷ codes "-s" ∷ codes "-" ∷ [])
    (scripted (configured (codes "/etc/fw_env.config")) (codes "-") Little false)
unfolding clap_on_literals ubtool
dashed_script = (refl, refl)

-- fw_setenv -s -: standard input
input_script : AsksForAs FwSetenv (codes "setenv" ∷ codes "-s" ∷ codes "-" ∷ [])
    (input_scripted (configured (codes "/etc/fw_env.config")) Little false)
unfolding clap_on_literals ubtool
input_script = (refl, refl)

-- fw_setenv -s f: a file
named_script : AsksForAs FwSetenv (codes "setenv" ∷ codes "-s" ∷ codes "f" ∷ [])
    (scripted (configured (codes "/etc/fw_env.config")) (codes "f") Little false)
unfolding clap_on_literals ubtool
named_script = (refl, refl)

-- fw_setenv -s - a
input_beside_name : AsksForAs FwSetenv (codes "setenv" ∷ codes "-s" ∷ codes "-" ∷ codes "a" ∷ []) script_and_name
unfolding clap_on_literals ubtool
input_beside_name = (refl, refl)

-- setenv -i f a 1 --big-endian
image_set : AsksFor (codes "setenv" ∷ codes "-i" ∷ codes "f" ∷ codes "a" ∷ codes "1" ∷ codes "--big-endian" ∷ [])
    (setting (whole (codes "f") None) (codes "a") (codes "1" ∷ []) Big false)
unfolding clap_on_literals ubtool
image_set = (refl, refl)

-- setenv -i f --second g a
pair_set : AsksFor (codes "setenv" ∷ codes "-i" ∷ codes "f" ∷ codes "--second" ∷ codes "g" ∷ codes "a" ∷ [])
    (setting (whole (codes "f") (Some (codes "g"))) (codes "a") [] Little false)
unfolding clap_on_literals ubtool
pair_set = (refl, refl)

-- setenv -i f -s s
script_of_image : AsksFor (codes "setenv" ∷ codes "-i" ∷ codes "f" ∷ codes "-s" ∷ codes "s" ∷ [])
    (scripted (whole (codes "f") None) (codes "s") Little false)
unfolding clap_on_literals ubtool
script_of_image = (refl, refl)

-- setenv -i f --second g --one-copy a
set_in_one_of_pair : AsksFor (codes "setenv" ∷ codes "-i" ∷ codes "f" ∷ codes "--second" ∷ codes "g" ∷ codes "--one-copy" ∷ codes "a" ∷ [])
    (misnamed SecondAndOneCopy)
unfolding clap_on_literals ubtool
set_in_one_of_pair = (refl, refl)

-- setenv -c c -i f
name_before_images : AsksFor (codes "setenv" ∷ codes "-c" ∷ codes "c" ∷ codes "-i" ∷ codes "f" ∷ [])
    needs_name
unfolding clap_on_literals ubtool
name_before_images = (refl, refl)

-- setenv -s s -c c -i f
script_beside_two : AsksFor (codes "setenv" ∷ codes "-s" ∷ codes "s" ∷ codes "-c" ∷ codes "c" ∷ codes "-i" ∷ codes "f" ∷ [])
    (misnamed ImageAndConfig)
unfolding clap_on_literals ubtool
script_beside_two = (refl, refl)

-- setenv --second g a
set_beside_two : AsksFor (codes "setenv" ∷ codes "--second" ∷ codes "g" ∷ codes "a" ∷ [])
    (misnamed SecondNeedsImage)
unfolding clap_on_literals ubtool
set_beside_two = (refl, refl)

-- fw_setenv -i f -s -
input_script_of_image : AsksForAs FwSetenv (codes "setenv" ∷ codes "-i" ∷ codes "f" ∷ codes "-s" ∷ codes "-" ∷ [])
    (input_scripted (whole (codes "f") None) Little false)
unfolding clap_on_literals ubtool
input_script_of_image = (refl, refl)
