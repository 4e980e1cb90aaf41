-- The command line that `clap` is given: nine options and three flags, and names. All but `--all` and `--strict` are those of
-- `ubtool`. It is ours.
use Rattle.std.specs.Prelude.{[], ◌∷◌, false, true, codes}
use Rattle.clap.specs.Words.{App, Rule, Shape, new_app}
use Rattle.clap.specs.Simple.{on_top}
use Rattle.tool_words.specs.Arguments.{long_flag, with_rules}
use Rattle.tool_words.specs.CommandLine as ubtool
use Rattle.tool_words.specs.CommandLine.{big_endian, config, files, image, names, script_file, second, shell, text_file}

-- the program, which has a version and no words of its own
abbrev pub base : App
base = on_top (λ (s : Shape). record s { no_binary_name = true; has_version = true }) (new_app (codes "hushcheck"))

-- `-d FILE`, which no call needs
abbrev pub device_list : Rule
device_list = record ubtool.device_list { required = false }

-- every variable
abbrev pub all : Rule
all = long_flag (codes "all")

-- a warning is a fault
abbrev pub strict : Rule
strict = long_flag (codes "strict")

-- `[-c FILE] [-i FILE] [--second FILE] [--text FILE] [--big-endian] [-d FILE] [--files FOLDER] [--script FILE] [--all]
-- [--shell NAME] [--strict] [NAME]..`
unfoldable pub hushcheck : App
hushcheck = with_rules base
    (config ∷ image ∷ second ∷ text_file ∷ big_endian ∷ device_list ∷ files ∷ script_file ∷ all ∷ shell ∷ strict ∷ names ∷ [])
