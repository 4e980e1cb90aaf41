-- Checking the texts of what was read.
use Rattle.std.proofs.Common.{◌≡◌, ◌∙◌, ℕ, refl, ap, sym, subst, List, Option, Some, None, Result, Ok, Err, ◌⊎◌, inl, inr, Bool}
use Rattle.std.specs.Prelude.{Vec, option_map}
use Rattle.std.specs.declared.alloc.Global.{Global}
use Rattle.envimage.specs.Data.{Pair}
use Rattle.envimage.specs.declared.image.ByteOrder.{ByteOrder}
use Rattle.envimage.specs.declared.image.ImageError.{ImageError}
use Rattle.envimage.specs.declared.image.ImageError.TheVariants as image
use Rattle.output.specs.Sink.{Sink}
use Rattle.hushcheck_program.specs.Asked.{Asked}
use Rattle.hushcheck_program.specs.Checking.{AreTexts, BeginTexts, BeginsAll, ChecksAll, ChecksBy, ChecksFrom, ChecksText, FromFiles, FromNamed, Given, IsUnread, IsUnreadBy, LeavesOutput, Lists, Named, checked_names, env_on, given, given_of, inputs_of, rules_in, TellsAll, IsBadList, BreaksOff, WritesFront}
use Rattle.hushcheck.specs.Names.{Text}
use Rattle.hushcheck.specs.Rules.{Rules}
use Rattle.rehearse_terms.specs.declared.shell.Shell.{Shell}
use Rattle.board_files.proofs.BoardLemmas.{only-read as board-reads, so-of-board}
use Rattle.board_files.specs.BoardFiles.{ReadsBoard, list_of}
use Rattle.board_files.specs.declared.board_files.BoardFiles.{BoardFiles}
use Rattle.board_start.specs.Boards.{Board}
use Rattle.board_start.specs.declared.board_error.BoardError.{BoardError}
use Rattle.hushcheck_program.specs.Faults.{CountsShared, of_image}
use Rattle.hushcheck_program.specs.declared.fault.CheckFault.{CheckFault}
use Rattle.hushcheck_program.specs.declared.fault.CheckFault.TheVariants.{DeviceList, Shared}
use Rattle.tool_images.specs.PrintingImages.{Finds, environment_in}
use Rattle.tool_images.specs.declared.error.ToolError.{ToolError}
use Rattle.tool_images.specs.declared.error.ToolError.TheVariants as tool
use Rattle.tool_images.specs.declared.fault.Fault.{Fault}
use Rattle.tool_images.specs.declared.fault.Fault.TheVariants as fault
use Rattle.tool_files.proofs.OrderLemmas.{OnlyReads-then}
use Rattle.tool_files.specs.CallOrder.{OnlyReads}
use Rattle.tool_files.specs.Told.{Stored, Told}
use Rattle.tool_steps.proofs.PrintLemmas.{image-bytes}
use Rattle.tool_steps.proofs.OriginLemmas.{origin-reads}
use Rattle.tool_steps.proofs.SourceLemmas.{has-read, named-reads}
use Rattle.tool_steps.specs.Images.{Copy, copies}
use Rattle.tool_steps.specs.Origins.{HasReadImages, IsOriginFault, ReadsOrigin}
use Rattle.tool_steps.specs.PrintingFiles.{environment, first_bytes, second_bytes}
use Rattle.tool_steps.specs.declared.images.Images.{Images}
use Rattle.tool_steps.specs.declared.read.StoredCopy.{StoredCopy}
use Rattle.tool_steps.specs.Faults.{IsScriptReadFault}
use Rattle.tool_steps.specs.Scripts.{HasReadNamed, IsNamedFault, ReadsNamed}
use Rattle.tool_words.specs.Asked.{OriginShown, configured, no_images, texts, whole}

-- the bytes of a text, if there is one
abbrev pub bytes_if : Option (Vec ℕ Global) → Option Text
bytes_if text = option_map (λ v. v.items) text

-- ---- reads that were refused

-- a refusal that is none of the tools is reported as it is
module _ (asked : Asked) (out : Sink) (old new : Told) where
  unread : (f : Fault) → ((error : ToolError) → f ≡ fault.Tool error → ⊥) → OnlyReads old new → IsUnread asked old new f → ChecksFrom asked out out old new (Err (Shared f))
  unread (fault.Config error) never reads h = h
  unread (fault.Tool error) never reads h = absurd (never error refl)
  unread (fault.CannotRead path) never reads h = h
  unread (fault.CannotWrite path) never reads h = h
  unread (fault.Exists path) never reads h = h
  unread (fault.FileShort path) never reads h = h
  unread (fault.FileTooLong path) never reads h = h
  unread fault.UnequalSizes never reads h = h
  unread (fault.Text error) never reads h = h
  unread fault.TextTooLarge never reads h = h
  unread fault.CannotReadInput never reads h = h
  unread fault.InputTooLong never reads h = h
  unread (fault.InputCutOff line) never reads h = h
  unread (fault.NoScript path why) never reads h = h
  unread (fault.Lock error) never reads h = h
  unread fault.Memory never reads h = (reads, inl refl)

-- reading images and scripts gives no refusal of the tools
no-tool : (origin : OriginShown) (stored : Stored) (error : ToolError) → IsOriginFault origin stored (fault.Tool error) → ⊥
no-tool (configured config) stored error h = h
no-tool (whole first None) stored error h = h
no-tool (whole first (Some second)) stored error (inl h) = h
no-tool (whole first (Some second)) stored error (inr h) = h
no-tool (texts path order) stored error h = h
no-tool (no_images order) stored error h = cc

no-named : (script : Option Text) (stored : Stored) (error : ToolError) → IsNamedFault script stored (fault.Tool error) → ⊥
no-named None stored error h = h
no-named (Some path) stored error h = h

no-script-read : (f : Fault) → IsScriptReadFault f → (error : ToolError) → f ≡ fault.Tool error → ⊥
no-script-read f h error e = let P : Fault → Type 0 = λ t. IsScriptReadFault t in let never : P (fault.Tool error) = subst P e h in never

-- without a device list: the refusal of the images
module _ (asked : Asked) (none : asked.device_list ≡ None) (out : Sink) where
  alone : (old new : Told) (f : Fault) → IsUnreadBy None asked old new f → IsUnread asked old new f
  alone old new f h = subst (λ (list : Option Text). IsUnreadBy list asked old new f) (sym none) h

  pub checks-unread : (old new : Told) (f : Fault) → ReadsOrigin asked.origin old new (Err f) → ChecksFrom asked out out old new (Err (Shared f))
  checks-unread old new f h =
      let never : (error : ToolError) → f ≡ fault.Tool error → ⊥ = λ error e. no-tool asked.origin old.stored error (subst (λ (t : Fault). IsOriginFault asked.origin old.stored t) e h.1) in
      unread asked out old new f never h.0 (alone old new f (h.0, inl h.1))

  -- the refusal of the script
  pub checks-unscripted : (found : List Copy) (x y z : Told) (f : Fault) → HasReadImages asked.origin x y found → ReadsNamed asked.script y z (Err f) → ChecksFrom asked out out x z (Err (Shared f))
  checks-unscripted found x y z f read h =
      let reads = origin-reads asked.origin x y found read in
      let all = OnlyReads-then x y z reads h.0 in
      let refused : IsNamedFault asked.script x.stored f = subst (λ (s : Stored). IsNamedFault asked.script s f) reads.stored h.1 in
      let never : (error : ToolError) → f ≡ fault.Tool error → ⊥ = λ error e. no-named asked.script x.stored error (subst (λ (t : Fault). IsNamedFault asked.script x.stored t) e refused) in
      unread asked out x z f never all (alone x z f (all, inr (record { found = found; after_images = y; read = read; refused = refused })))

-- with a device list
pub checks-listless : (asked : Asked) (path : Text) → asked.device_list ≡ Some path → (out : Sink) (old new : Told) (f : Fault) → IsScriptReadFault f → ReadsBoard (inputs_of asked path) old new (Err f)
    → ChecksFrom asked out out old new (Err (Shared f))
checks-listless asked path some out old new f of_script h =
    unread asked out old new f (no-script-read f of_script) h.0 (subst (λ (list : Option Text). IsUnreadBy list asked old new f) (sym some) h)

-- ---- the texts of what was read

-- what is not refused so by the texts: the files were read
module _ (asked : Asked) (out out' : Sink) (here : Given) (x w : Told) (only-read : OnlyReads x w) (from-files : (IsSo : Given → Type 0) → IsSo here → FromFiles asked x w IsSo) where
  checks-read : (answer : Result Bool CheckFault) → ChecksText here out out' answer → ChecksFrom asked out out' x w answer
  checks-read (Ok sound) h = from-files (λ g. TellsAll g out out' sound) h
  checks-read (Err (DeviceList error)) h = from-files (λ g. IsBadList g error) h.0
  checks-read (Err (Shared (fault.Tool (tool.Image error)))) h = from-files (λ g. g.env ≡ Err error) h.0
  checks-read (Err (Shared (fault.Tool tool.Write))) h = from-files (λ g. BreaksOff g out out') h
  checks-read (Err (Shared fault.Memory)) h = (only-read, by h)
    where
      by : ChecksText here out out' (Err (Shared fault.Memory)) → (out' ≡ out) ⊎ FromFiles asked x w (λ g. WritesFront g out out')
      by (inl same) = inl same
      by (inr front) = inr (from-files (λ g. WritesFront g out out') front)
  checks-read (Err (Shared (fault.Tool (tool.Env error)))) h = absurd h
  checks-read (Err (Shared (fault.Tool (tool.Script error)))) h = absurd h
  checks-read (Err (Shared (fault.Tool tool.Memory))) h = absurd h
  checks-read (Err (Shared (fault.Config error))) h = absurd h
  checks-read (Err (Shared (fault.Lock error))) h = absurd h
  checks-read (Err (Shared (fault.CannotRead path))) h = absurd h
  checks-read (Err (Shared (fault.CannotWrite path))) h = absurd h
  checks-read (Err (Shared (fault.Exists path))) h = absurd h
  checks-read (Err (Shared (fault.FileShort path))) h = absurd h
  checks-read (Err (Shared (fault.FileTooLong path))) h = absurd h
  checks-read (Err (Shared fault.UnequalSizes)) h = absurd h
  checks-read (Err (Shared (fault.Text error))) h = absurd h
  checks-read (Err (Shared fault.TextTooLarge)) h = absurd h
  checks-read (Err (Shared fault.CannotReadInput)) h = absurd h
  checks-read (Err (Shared fault.InputTooLong)) h = absurd h
  checks-read (Err (Shared (fault.InputCutOff line))) h = absurd h
  checks-read (Err (Shared (fault.NoScript path why))) h = absurd h

-- without a device list
pub checks-alone : (asked : Asked) → asked.device_list ≡ None → (out out' : Sink) (found : List Copy) (script : Option (Vec ℕ Global)) (x y z : Told) → HasReadImages asked.origin x y found → ReadsNamed asked.script y z (Ok script)
    → (answer : Result Bool CheckFault) → ChecksText (given_of asked found None (bytes_if script)) out out' answer → ChecksFrom asked out out' x z answer
checks-alone asked none out out' found script x y z read named answer checked =
    checks-read asked out out' (given_of asked found None (bytes_if script)) x z only-read from answer checked
  where
    scripted : HasReadNamed asked.script y z (bytes_if script)
    scripted = has-read asked.script y z script named

    only-read : OnlyReads x z
    only-read = OnlyReads-then x y z (origin-reads asked.origin x y found read) (named-reads asked.script y z (bytes_if script) scripted)

    from : (IsSo : Given → Type 0) → IsSo (given_of asked found None (bytes_if script)) → FromFiles asked x z IsSo
    from IsSo so = subst (λ (list : Option Text). FromNamed list asked x z IsSo) (sym none) (record {
      found = found;
      after_images = y;
      read = read;
      script = bytes_if script;
      scripted = scripted;
      so = so;
    })

-- with a device list
pub checks-listed : (asked : Asked) (path : Text) → asked.device_list ≡ Some path → (out out' : Sink) (board : BoardFiles) (x z : Told) → ReadsBoard (inputs_of asked path) x z (Ok board)
    → (answer : Result Bool CheckFault) → ChecksText (given_of asked (copies board.images) (Some (list_of board)) (bytes_if board.script)) out out' answer → ChecksFrom asked out out' x z answer
checks-listed asked path some out out' board x z read answer checked =
    checks-read asked out out' here x z (board-reads (inputs_of asked path) board x z read) from answer checked
  where
    here : Given
    here = given_of asked (copies board.images) (Some (list_of board)) (bytes_if board.script)

    from : (IsSo : Given → Type 0) → IsSo (given_of asked (copies board.images) (Some (list_of board)) (bytes_if board.script)) → FromFiles asked x z IsSo
    from IsSo so = subst (λ (list : Option Text). FromNamed list asked x z IsSo) (sym some)
        (so-of-board (inputs_of asked path) board x z (λ found list script. IsSo (given_of asked found (Some list) script)) read so)

-- ---- the answer, over any files

pub leaves-output : (g : Given) (out out' : Sink) (answer : Result Bool CheckFault) → ChecksText g out out' answer → LeavesOutput answer out out'
leaves-output g out out' (Ok sound) h = tt
leaves-output g out out' (Err (DeviceList error)) h = h.1
leaves-output g out out' (Err (Shared (fault.Tool (tool.Image error)))) h = h.1
leaves-output g out out' (Err (Shared (fault.Tool tool.Write))) h = tt
leaves-output g out out' (Err (Shared fault.Memory)) h = tt
leaves-output g out out' (Err (Shared (fault.Tool (tool.Env error)))) h = absurd h
leaves-output g out out' (Err (Shared (fault.Tool (tool.Script error)))) h = absurd h
leaves-output g out out' (Err (Shared (fault.Tool tool.Memory))) h = absurd h
leaves-output g out out' (Err (Shared (fault.Config error))) h = absurd h
leaves-output g out out' (Err (Shared (fault.Lock error))) h = absurd h
leaves-output g out out' (Err (Shared (fault.CannotRead path))) h = absurd h
leaves-output g out out' (Err (Shared (fault.CannotWrite path))) h = absurd h
leaves-output g out out' (Err (Shared (fault.Exists path))) h = absurd h
leaves-output g out out' (Err (Shared (fault.FileShort path))) h = absurd h
leaves-output g out out' (Err (Shared (fault.FileTooLong path))) h = absurd h
leaves-output g out out' (Err (Shared fault.UnequalSizes)) h = absurd h
leaves-output g out out' (Err (Shared (fault.Text error))) h = absurd h
leaves-output g out out' (Err (Shared fault.TextTooLarge)) h = absurd h
leaves-output g out out' (Err (Shared fault.CannotReadInput)) h = absurd h
leaves-output g out out' (Err (Shared fault.InputTooLong)) h = absurd h
leaves-output g out out' (Err (Shared (fault.InputCutOff line))) h = absurd h
leaves-output g out out' (Err (Shared (fault.NoScript path why))) h = absurd h

-- checking itself reads no file
pub counts-none : (g : Given) (out out' : Sink) (count : ℕ) (answer : Result Bool CheckFault) → ChecksText g out out' answer → CountsShared count count answer
counts-none g out out' count (Ok sound) h = refl
counts-none g out out' count (Err (DeviceList error)) h = refl
counts-none g out out' count (Err (Shared (fault.CannotRead path))) h = absurd h
counts-none g out out' count (Err (Shared (fault.CannotWrite path))) h = absurd h
counts-none g out out' count (Err (Shared (fault.Exists path))) h = absurd h
counts-none g out out' count (Err (Shared (fault.Tool error))) h = refl
counts-none g out out' count (Err (Shared fault.Memory)) h = refl
counts-none g out out' count (Err (Shared (fault.Config error))) h = refl
counts-none g out out' count (Err (Shared (fault.Lock error))) h = refl
counts-none g out out' count (Err (Shared (fault.FileShort path))) h = refl
counts-none g out out' count (Err (Shared (fault.FileTooLong path))) h = refl
counts-none g out out' count (Err (Shared fault.UnequalSizes)) h = refl
counts-none g out out' count (Err (Shared (fault.Text error))) h = refl
counts-none g out out' count (Err (Shared fault.TextTooLarge)) h = refl
counts-none g out out' count (Err (Shared fault.CannotReadInput)) h = refl
counts-none g out out' count (Err (Shared fault.InputTooLong)) h = refl
counts-none g out out' count (Err (Shared (fault.InputCutOff line))) h = refl
counts-none g out out' count (Err (Shared (fault.NoScript path why))) h = refl

-- ---- one environment

-- what is said of the environment that was found, by the names as they are given
pub texts-in : (answer : Result (List Pair) ImageError) (env : List Pair) (devices : Result (Option Board) BoardError) (script : Option Named) (names names' : List Text) (all : Bool) (shell : Option Shell) (strict : Bool) (old new : Sink) (told : Result Bool CheckFault) → answer ≡ Ok env
    → names ≡ names' → ChecksText (given (Ok env) devices script names all shell strict) old new told → ChecksText (given answer devices script names' all shell strict) old new told
texts-in answer env devices script names names' all shell strict old new told found same h =
    subst (λ (e : Result (List Pair) ImageError). ChecksText (given e devices script names' all shell strict) old new told) (sym found)
    (subst (λ (ns : List Text). ChecksText (given (Ok env) devices script ns all shell strict) old new told) same h)

-- the refusal of the image
pub no-texts : (answer : Result (List Pair) ImageError) (devices : Result (Option Board) BoardError) (script : Option Named) (names : List Text) (all : Bool) (shell : Option Shell) (strict : Bool) (old : Sink) (error : ImageError) → Finds answer (Err error)
    → ChecksText (given answer devices script names all shell strict) old old (Err (of_image error))
no-texts answer devices script names all shell strict old image.WrongSize h = (h, refl)
no-texts answer devices script names all shell strict old image.BadCrc h = (h, refl)
no-texts answer devices script names all shell strict old (image.Content error) h = (h, refl)
no-texts answer devices script names all shell strict old image.TooLarge h = (h, refl)
no-texts answer devices script names all shell strict old image.Memory h = inl refl

-- the refusal of the device list
pub no-list : (answer : Result (Option Board) BoardError) (env : List Pair) (script : Option Named) (names : List Text) (all : Bool) (shell : Option Shell) (strict : Bool) (old : Sink) (error : CheckFault) → Lists answer (Err error)
    → ChecksText (given (Ok env) answer script names all shell strict) old old (Err error)
no-list answer env script names all shell strict old (DeviceList error) h = (record { env = env; there = refl; refused = h }, refl)
no-list answer env script names all shell strict old (Shared fault.Memory) h = inl refl
no-list answer env script names all shell strict old (Shared (fault.Tool error)) h = absurd h
no-list answer env script names all shell strict old (Shared (fault.Config error)) h = absurd h
no-list answer env script names all shell strict old (Shared (fault.Lock error)) h = absurd h
no-list answer env script names all shell strict old (Shared (fault.CannotRead path)) h = absurd h
no-list answer env script names all shell strict old (Shared (fault.CannotWrite path)) h = absurd h
no-list answer env script names all shell strict old (Shared (fault.Exists path)) h = absurd h
no-list answer env script names all shell strict old (Shared (fault.FileShort path)) h = absurd h
no-list answer env script names all shell strict old (Shared (fault.FileTooLong path)) h = absurd h
no-list answer env script names all shell strict old (Shared fault.UnequalSizes) h = absurd h
no-list answer env script names all shell strict old (Shared (fault.Text error)) h = absurd h
no-list answer env script names all shell strict old (Shared fault.TextTooLarge) h = absurd h
no-list answer env script names all shell strict old (Shared fault.CannotReadInput) h = absurd h
no-list answer env script names all shell strict old (Shared fault.InputTooLong) h = absurd h
no-list answer env script names all shell strict old (Shared (fault.InputCutOff line)) h = absurd h
no-list answer env script names all shell strict old (Shared (fault.NoScript path why)) h = absurd h

-- the checks by what a list says, in the environment that it gives
pub texts-by : (g : Given) (env found : List Pair) (board : Option Board) (rules : Rules) (old new : Sink) → g.env ≡ Ok env → g.board ≡ Ok board → rules ≡ rules_in board g → found ≡ env_on board env
    → (r : Result Bool CheckFault) → ChecksBy rules found g.script (checked_names board found g) old new r → ChecksText g old new r
texts-by g env found board rules old new there listed held same = by
  where
    checks : (told : Text) (sound : Bool) → ChecksAll rules found g.script (checked_names board found g) told sound → AreTexts g told sound
    checks told sound h = record {
      env = env;
      there = there;
      board = board;
      are_listed = listed;
      checks = subst (λ (rs : Rules). ChecksAll rs (env_on board env) g.script (checked_names board (env_on board env) g) told sound) held
          (subst (λ (e : List Pair). ChecksAll rules e g.script (checked_names board e g) told sound) same h);
    }

    begins : (told : Text) → BeginsAll rules found g.script (checked_names board found g) told → BeginTexts g told
    begins told h = record {
      env = env;
      there = there;
      board = board;
      are_listed = listed;
      begins = subst (λ (rs : Rules). BeginsAll rs (env_on board env) g.script (checked_names board (env_on board env) g) told) held
          (subst (λ (e : List Pair). BeginsAll rules e g.script (checked_names board e g) told) same h);
    }

    by : (r : Result Bool CheckFault) → ChecksBy rules found g.script (checked_names board found g) old new r → ChecksText g old new r
    by (Ok sound) h = (h.0, checks h.0 sound h.1, h.2)
    by (Err (Shared (fault.Tool tool.Write))) h = (h.0, begins h.0 h.1, h.2)
    by (Err (Shared fault.Memory)) (inl h) = inl h
    by (Err (Shared fault.Memory)) (inr h) = inr (h.0, begins h.0 h.1, h.2)
    by (Err (DeviceList error)) h = absurd h
    by (Err (Shared (fault.Tool (tool.Image error)))) h = absurd h
    by (Err (Shared (fault.Tool (tool.Env error)))) h = absurd h
    by (Err (Shared (fault.Tool (tool.Script error)))) h = absurd h
    by (Err (Shared (fault.Tool tool.Memory))) h = absurd h
    by (Err (Shared (fault.Config error))) h = absurd h
    by (Err (Shared (fault.Lock error))) h = absurd h
    by (Err (Shared (fault.CannotRead path))) h = absurd h
    by (Err (Shared (fault.CannotWrite path))) h = absurd h
    by (Err (Shared (fault.Exists path))) h = absurd h
    by (Err (Shared (fault.FileShort path))) h = absurd h
    by (Err (Shared (fault.FileTooLong path))) h = absurd h
    by (Err (Shared fault.UnequalSizes)) h = absurd h
    by (Err (Shared (fault.Text error))) h = absurd h
    by (Err (Shared fault.TextTooLarge)) h = absurd h
    by (Err (Shared fault.CannotReadInput)) h = absurd h
    by (Err (Shared fault.InputTooLong)) h = absurd h
    by (Err (Shared (fault.InputCutOff line))) h = absurd h
    by (Err (Shared (fault.NoScript path why))) h = absurd h

-- the same check with a device list that is another way to write this one
pub listed-as : (answer answer' : Result (Option Board) BoardError) (env : List Pair) (script : Option Named) (names : List Text) (all : Bool) (shell : Option Shell) (strict : Bool) (old new : Sink) (told : Result Bool CheckFault) → answer ≡ answer'
    → ChecksText (given (Ok env) answer script names all shell strict) old new told → ChecksText (given (Ok env) answer' script names all shell strict) old new told
listed-as answer answer' env script names all shell strict old new told e h = subst (λ (d : Result (Option Board) BoardError). ChecksText (given (Ok env) d script names all shell strict) old new told) e h

-- the environment of the images, by the bytes of their copies
pub found-in : (order : ByteOrder) (images : Images) (first : List ℕ) (second : Option (List ℕ)) → first ≡ images.first.bytes.items → second ≡ option_map (λ copy. copy.bytes.items) images.second
    → environment order (copies images) ≡ environment_in order first second
found-in order images first second f s =
    ap (λ x. environment_in order x (second_bytes (copies images))) (by images.first images.second ∙ sym f) ∙ ap (λ y. environment_in order first y) (image-bytes images ∙ sym s)
  where
    by : (x : StoredCopy) (y : Option StoredCopy) → first_bytes (copies (record { first = x; second = y })) ≡ x.bytes.items
    by x None = refl
    by x (Some y) = refl
