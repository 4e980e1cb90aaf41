-- What a rehearsal of a board is read from.
use Rattle.std.proofs.Common.{◌≡◌, ℕ, sym, subst, List, Option, Some, None, Ok, Err, inl, inr}
use Rattle.std.specs.Prelude.{option_map}
use Rattle.board_files.proofs.FileLemmas as named
use Rattle.board_files.specs.BoardFiles.{AreAllRead, ReadsBoard, list_of, list_read}
use Rattle.board_files.specs.NamedFiles.{HaveReadNamed, IsNamedFilesFault}
use Rattle.board_files.specs.declared.board_files.BoardFiles.{BoardFiles}
use Rattle.board_start.specs.Boards.{ListRead}
use Rattle.device_list.specs.CallLines.{Files}
use Rattle.device_list.specs.CommandsShown.{files_shown}
use Rattle.device_list.specs.NamedFiles.{named_files}
use Rattle.tool_files.proofs.OrderLemmas.{OnlyReads-none, OnlyReads-then}
use Rattle.tool_files.specs.CallOrder.{OnlyReads}
use Rattle.tool_files.specs.Told.{Stored, Told}
use Rattle.tool_images.specs.declared.fault.Fault.{Fault}
use Rattle.tool_steps.proofs.SourceLemmas as sources
use Rattle.tool_steps.specs.Images.{Copy, copies}
use Rattle.tool_steps.specs.Sources.{ReadsSources}
use Rattle.tool_steps.specs.declared.sources.Sources.{Sources}
use Rattle.tool_words.specs.Asked.{InputsShown}

-- the files that the list names were only read
pub named-reads : (folder : Option (List ℕ)) (names : List (List ℕ)) (old new : Told) (files : Files) → HaveReadNamed folder names old new files → OnlyReads old new
named-reads None names old new files h = subst (λ (t : Told). OnlyReads old t) (sym h.0) (OnlyReads-none old)
named-reads (Some folder) names old new files h = named.only-read folder old new files h.0

-- all was only read
pub only-read : (inputs : InputsShown) (board : BoardFiles) (x z : Told) → ReadsBoard inputs x z (Ok board) → OnlyReads x z
only-read inputs board x z read =
    let here = read.read in
    OnlyReads-then x read.middle z
    (OnlyReads-then x here.after_list read.middle (sources.listed-reads inputs.origin inputs.device_list x here.after_list here.found here.text here.listed)
    (sources.named-reads inputs.script here.after_list read.middle here.script here.scripted))
    (named-reads inputs.files (named_files here.text) read.middle z read.files here.so.0)

-- what holds of what was read
pub so-of-board : (inputs : InputsShown) (board : BoardFiles) (x z : Told) (IsSo : List Copy → ListRead → Option (List ℕ) → Type 0) → ReadsBoard inputs x z (Ok board)
    → IsSo (copies board.images) (list_of board) (option_map (λ v. v.items) board.script) → AreAllRead inputs x z IsSo
so-of-board inputs board x z IsSo read so =
    let here = read.read in
    let is = here.so.1 in
    record {
      middle = read.middle;
      files = read.files;
      read = record {
        found = here.found;
        text = here.text;
        after_list = here.after_list;
        listed = here.listed;
        script = here.script;
        scripted = here.scripted;
        so = (
          here.so.0,
          subst (λ (found : List Copy). IsSo found (list_read here.text read.files) here.script) (sym is.0)
              (subst (λ (list : ListRead). IsSo (copies board.images) list here.script) (sym is.1)
              (subst (λ (script : Option (List ℕ)). IsSo (copies board.images) (list_of board) script) (sym is.2) so)),
        );
      };
    }

-- ---- each answer

pub board-unread : (inputs : InputsShown) (x z : Told) (f : Fault) → ReadsSources inputs x z (Err f) → ReadsBoard inputs x z (Err f)
board-unread inputs x z f h = (h.0, inl h)

pub board-unnamed : (inputs : InputsShown) (source : Sources) (x y z : Told) (f : Fault) → ReadsSources inputs x y (Ok source)
    → OnlyReads y z × IsNamedFilesFault inputs.files (named_files source.device_list.items) y.stored f → ReadsBoard inputs x z (Err f)
board-unnamed inputs source x y z f read h =
    let reads = sources.only-read inputs source x y read in
    let refused = subst (λ (s : Stored). IsNamedFilesFault inputs.files (named_files source.device_list.items) s f) reads.stored h.1 in
    (OnlyReads-then x y z reads h.0, inr (record { middle = y; read = sources.so-of-sources inputs source x y (λ found text script. IsNamedFilesFault inputs.files (named_files text) x.stored f) read refused }))

pub board-read : (inputs : InputsShown) (source : Sources) (board : BoardFiles) (x y z : Told) → board.images ≡ source.images → board.device_list ≡ source.device_list → board.script ≡ source.script
    → ReadsSources inputs x y (Ok source) → HaveReadNamed inputs.files (named_files source.device_list.items) y z (files_shown board.files.entries) → ReadsBoard inputs x z (Ok board)
board-read inputs source board x y z images list script read named =
    let files = files_shown board.files.entries in
    record {
      middle = y;
      files = files;
      read = sources.so-of-sources inputs source x y
          (λ found text said. HaveReadNamed inputs.files (named_files text) y z files × ((found ≡ copies board.images) × (list_read text files ≡ list_of board) × (said ≡ option_map (λ v. v.items) board.script))) read
          (named, ((λ i. copies (sym images i)), (λ i. list_read ((sym list i).items) files), (λ i. option_map (λ v. v.items) (sym script i))));
    }
