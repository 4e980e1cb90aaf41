-- What the rows of calls of each subcommand say, and a call without words, computed.
use Rattle.std.proofs.Common.{◌≡◌, true, false, refl, List, [], ◌∷◌, length, Some, None, codes}
use Rattle.std.specs.Prelude.{nat_lt}
use Rattle.clap.specs.Words.{Text, fault_of}
use Rattle.clap.proofs.OnLiterals.{clap_on_literals}
use Rattle.envtools.specs.Printing.{plain}
use Rattle.envtools.specs.declared.print_form.PrintForm.{PrintForm}
use Rattle.tool_words.specs.CommandAnswers.{asked}
use Rattle.tool_words.specs.Answered.{IsAccepted}
use Rattle.tool_words.specs.declared.ask.Taking.{Taking}
use Rattle.tool_words.specs.declared.called.CalledAs.{CalledAs}
use Rattle.tool_words.specs.declared.called.CalledAs.TheVariants.{Ubtool}
use Rattle.tool_words.specs.Asked.{Asked, InputsShown, OriginShown, configured}
use Rattle.tool_words.specs.CommandLine.{printenv, ubtool, ubtool_for, with_one}

-- the words are accepted and ask for this
abbrev pub AsksForAs : CalledAs → List Text → Asked → Type 0
AsksForAs called words what = IsAccepted ubtool words × (asked called words ≡ Some what)

-- the words are accepted and ask for this, called as ubtool
abbrev pub AsksFor : List Text → Asked → Type 0
AsksFor words what = AsksForAs Ubtool words what

-- the device list is taken as it is
abbrev pub as_listed : Taking
as_listed = record { steady = false; alternative = None }

-- these files are read, and no script
abbrev pub read_from : OriginShown → (device_list : Text) → InputsShown
read_from origin device_list = record { origin = origin; device_list = device_list; taking = as_listed; script = None; files = None }

-- what a call reads that names the device list d alone
abbrev pub usual_list : InputsShown
usual_list = read_from (configured (codes "/etc/fw_env.config")) (codes "d")

-- the value alone
abbrev pub bare : PrintForm
bare = record plain { header = false }

-- `clap` accepts the words, and the program does not
abbrev pub IsUnread : List Text → Type 0
IsUnread words = IsAccepted ubtool words × (asked Ubtool words ≡ None)

-- the words are refused
abbrev pub IsRefused : List Text → Type 0
IsRefused words = nat_lt 0 (length (fault_of ubtool words)) ≡ true

-- no words
no_words : IsRefused []
unfolding clap_on_literals ubtool
no_words = refl

-- printenv -n: the one subcommand is described
described_alone : ubtool_for (codes "printenv" ∷ codes "-n" ∷ []) ≡ with_one printenv
unfolding ubtool_for
described_alone = refl

-- -V printenv: all subcommands are described
described_whole : ubtool_for (codes "-V" ∷ codes "printenv" ∷ []) ≡ ubtool
unfolding ubtool_for
described_whole = refl
