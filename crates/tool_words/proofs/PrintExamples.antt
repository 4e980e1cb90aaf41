-- Worked calls of `printenv`, computed: what the words ask for, and that `clap` accepts them or not.
use Rattle.std.proofs.Common.{◌≡◌, true, false, refl, [], ◌∷◌, Some, None, codes}
use Rattle.std.specs.Prelude.{option_and_then}
use Rattle.clap.specs.Words.{subcommand_of}
use Rattle.clap.proofs.OnLiterals.{clap_on_literals}
use Rattle.envimage.specs.declared.image.ByteOrder.TheVariants.{Little}
use Rattle.envtools.specs.Printing.{plain}
use Rattle.tool_words.specs.declared.ask.OriginError.TheVariants.{ImageAndConfig, SecondAndOneCopy, SecondNeedsImage}
use Rattle.tool_words.specs.Asked.{configured, header_needs_one, lock_needs_folder, lock_of, misnamed, printing, whole}
use Rattle.tool_words.specs.CommandLine.{ubtool}
use Rattle.tool_words.proofs.CommandLineExamples.{AsksFor, IsRefused, bare}

-- printenv -n
no_name_printed : AsksFor (codes "printenv" ∷ codes "-n" ∷ []) header_needs_one
unfolding clap_on_literals ubtool
no_name_printed = (refl, refl)

-- printenv -n a b
two_names_printed : AsksFor (codes "printenv" ∷ codes "-n" ∷ codes "a" ∷ codes "b" ∷ []) header_needs_one
unfolding clap_on_literals ubtool
two_names_printed = (refl, refl)

-- printenv -- -x
dashed_name : AsksFor (codes "printenv" ∷ codes "--" ∷ codes "-x" ∷ [])
    (printing (configured (codes "/etc/fw_env.config")) plain (codes "-x" ∷ []) Little false)
unfolding clap_on_literals ubtool
dashed_name = (refl, refl)

-- printenv -0
null_ended : AsksFor (codes "printenv" ∷ codes "-0" ∷ [])
    (printing (configured (codes "/etc/fw_env.config")) (record plain { null = true }) [] Little false)
unfolding clap_on_literals ubtool
null_ended = (refl, refl)

-- printenv --escaped -n a
escaped_value : AsksFor (codes "printenv" ∷ codes "--escaped" ∷ codes "-n" ∷ codes "a" ∷ [])
    (printing (configured (codes "/etc/fw_env.config")) (record bare { escaped = true }) (codes "a" ∷ []) Little false)
unfolding clap_on_literals ubtool
escaped_value = (refl, refl)

-- printenv --one-copy a
printed_from_one : AsksFor (codes "printenv" ∷ codes "--one-copy" ∷ codes "a" ∷ [])
    (printing (configured (codes "/etc/fw_env.config")) plain (codes "a" ∷ []) Little true)
unfolding clap_on_literals ubtool
printed_from_one = (refl, refl)

-- printenv --lock d a: the folder that is named
named_lock : option_and_then (λ s. lock_of s.1) (subcommand_of ubtool (codes "printenv" ∷ codes "--lock" ∷ codes "d" ∷ codes "a" ∷ []))
    ≡ Some (codes "d")
unfolding clap_on_literals ubtool
named_lock = refl

-- printenv -l ''
no_folder_printing : AsksFor (codes "printenv" ∷ codes "-l" ∷ [] ∷ []) lock_needs_folder
unfolding clap_on_literals ubtool
no_folder_printing = (refl, refl)

-- printenv -l '': no lock is taken
unnamed_lock : option_and_then (λ s. lock_of s.1) (subcommand_of ubtool (codes "printenv" ∷ codes "-l" ∷ [] ∷ [])) ≡ None
unfolding clap_on_literals ubtool
unnamed_lock = refl

-- printenv -i f a
image_printed : AsksFor (codes "printenv" ∷ codes "-i" ∷ codes "f" ∷ codes "a" ∷ [])
    (printing (whole (codes "f") None) plain (codes "a" ∷ []) Little false)
unfolding clap_on_literals ubtool
image_printed = (refl, refl)

-- printenv --second g -i f
pair_printed : AsksFor (codes "printenv" ∷ codes "--second" ∷ codes "g" ∷ codes "-i" ∷ codes "f" ∷ [])
    (printing (whole (codes "f") (Some (codes "g"))) plain [] Little false)
unfolding clap_on_literals ubtool
pair_printed = (refl, refl)

-- printenv -i f --one-copy
image_in_one : AsksFor (codes "printenv" ∷ codes "-i" ∷ codes "f" ∷ codes "--one-copy" ∷ [])
    (printing (whole (codes "f") None) plain [] Little true)
unfolding clap_on_literals ubtool
image_in_one = (refl, refl)

-- printenv -c c -i f
image_beside_config : AsksFor (codes "printenv" ∷ codes "-c" ∷ codes "c" ∷ codes "-i" ∷ codes "f" ∷ [])
    (misnamed ImageAndConfig)
unfolding clap_on_literals ubtool
image_beside_config = (refl, refl)

-- printenv -c c -i f --second g --one-copy
pair_beside_config : AsksFor (codes "printenv" ∷ codes "-c" ∷ codes "c" ∷ codes "-i" ∷ codes "f" ∷ codes "--second" ∷ codes "g" ∷ codes "--one-copy" ∷ [])
    (misnamed ImageAndConfig)
unfolding clap_on_literals ubtool
pair_beside_config = (refl, refl)

-- printenv --second g
second_alone : AsksFor (codes "printenv" ∷ codes "--second" ∷ codes "g" ∷ [])
    (misnamed SecondNeedsImage)
unfolding clap_on_literals ubtool
second_alone = (refl, refl)

-- printenv -c c --second g
second_beside_config : AsksFor (codes "printenv" ∷ codes "-c" ∷ codes "c" ∷ codes "--second" ∷ codes "g" ∷ [])
    (misnamed SecondNeedsImage)
unfolding clap_on_literals ubtool
second_beside_config = (refl, refl)

-- printenv -i f --second g --one-copy
pair_in_one : AsksFor (codes "printenv" ∷ codes "-i" ∷ codes "f" ∷ codes "--second" ∷ codes "g" ∷ codes "--one-copy" ∷ [])
    (misnamed SecondAndOneCopy)
unfolding clap_on_literals ubtool
pair_in_one = (refl, refl)

-- printenv -n -c c -i f
names_before_images : AsksFor (codes "printenv" ∷ codes "-n" ∷ codes "-c" ∷ codes "c" ∷ codes "-i" ∷ codes "f" ∷ [])
    header_needs_one
unfolding clap_on_literals ubtool
names_before_images = (refl, refl)

-- printenv --shell old
printed_in_a_shell : IsRefused (codes "printenv" ∷ codes "--shell" ∷ codes "old" ∷ [])
unfolding clap_on_literals ubtool
printed_in_a_shell = refl
