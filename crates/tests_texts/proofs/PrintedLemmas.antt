-- The text that is printed of an environment, read byte by byte.
use Rattle.std.proofs.Common.{◌≡◌, ◌≢◌, ◌∙◌, ℕ, Bool, true, false, ◌==◌, inl, inr, refl, sym, ap, subst, arith, eqb-true, List, [], ◌∷◌, ◌++◌, append_assoc, Ok, Err}
use Rattle.std.specs.Prelude.{IfErr, IfOk, Result}
use Rattle.std.proofs.lemmas.Bool.{cases_Bool}
use Rattle.std.proofs.lemmas.Bool.Decides.{nat_tests}
use Rattle.std.proofs.lemmas.Option.{none-some}
use Rattle.std.specs.List.{AllByRecursion, flat_map}
use Rattle.text.specs.Bytes as ascii
use Rattle.envimage.specs.Data.{IsData, IsVariable, Pair, entry}
use Rattle.envimage.proofs.LawLemmas.{data_is_computed}
use Rattle.envtools.proofs.ListLemmas.{env_of-distinct}
use Rattle.envtools.specs.Environment.{IsEnvironment, env_of}
use Rattle.envtools.specs.FromText.{IsReadFromText, data_of}
use Rattle.envtools.specs.Printing.{line, plain}
use Rattle.envtools.specs.declared.text_file.TextError.{TextError}
use Rattle.envtools.specs.declared.text_file.TextError.TheVariants.{EmptyName, Memory, NoEquals}
use Rattle.tests_texts.specs.PrintedText.{IsLineByte, IsOneLine, PrintedReadsBack, printed_text}

-- a text without its first byte, and that byte
abbrev behind : List ℕ → List ℕ
behind [] = []
behind (b ∷ bytes) = bytes

abbrev first : List ℕ → ℕ
first [] = 0
first (b ∷ bytes) = b

-- the data of what is left of a text, within a line, or after a backslash that was held back
abbrev read_on : Bool → List ℕ → List ℕ
read_on false bytes = behind (data_of (ascii.equals ∷ bytes))
read_on true bytes = data_of (ascii.backslash ∷ bytes)

abbrev held : Bool → List ℕ
held true = ascii.backslash ∷ []
held false = []

-- the text does not end with a backslash
abbrev IsClosed : List ℕ → Type 0
IsClosed text = (front : List ℕ) → text ≢ front ++ ascii.backslash ∷ []

closed-tail : (b : ℕ) (text : List ℕ) → IsClosed (b ∷ text) → IsClosed text
closed-tail b text closed front e = closed (b ∷ front) (ap (λ t. b ∷ t) e)

-- a line up to its newline adds itself and a NUL
line_read : (escaped : Bool) (text rest : List ℕ) → AllByRecursion IsLineByte text → IsClosed (held escaped ++ text)
    → read_on escaped (text ++ ascii.newline ∷ rest) ≡ held escaped ++ (text ++ ascii.nul ∷ data_of rest)
line_read false [] rest all closed = refl
line_read true [] rest all closed = absurd (closed [] refl)
line_read false (b ∷ text) rest all closed =
    let within : (b == ascii.newline) ≡ false = grind (arith, nat_tests, all.0) in
    elim (cases_Bool (b == ascii.backslash)) [
      | inl is ↦
          let one : b ≡ ascii.backslash = eqb-true b ascii.backslash is in
          rw (within, is) (line_read true text rest all.1 (subst (λ c. IsClosed (c ∷ text)) one closed) ∙ ap (λ c. c ∷ (text ++ ascii.nul ∷ data_of rest)) (sym one))
      | inr other ↦ rw (within, other) (ap (λ t. b ∷ t) (line_read false text rest all.1 (closed-tail b text closed)))
    ]
line_read true (b ∷ text) rest all closed =
    let within : (b == ascii.newline) ≡ false = grind (arith, nat_tests, all.0) in
    elim (cases_Bool (b == ascii.backslash)) [
      | inl is ↦
          let one : b ≡ ascii.backslash = eqb-true b ascii.backslash is in
          let tail : IsClosed (b ∷ text) = closed-tail ascii.backslash (b ∷ text) closed in
          rw (within, is) (ap (λ t. ascii.backslash ∷ t) (line_read true text rest all.1 (subst (λ c. IsClosed (c ∷ text)) one tail) ∙ ap (λ c. c ∷ (text ++ ascii.nul ∷ data_of rest)) (sym one)))
      | inr other ↦
          let tail : IsClosed (b ∷ text) = closed-tail ascii.backslash (b ∷ text) closed in
          rw (within, other) (ap (λ t. ascii.backslash ∷ b ∷ t) (line_read false text rest all.1 (closed-tail b text tail)))
    ]

-- ---- one line

first-closed : (value : List ℕ) → IsClosed value → IsClosed (ascii.equals ∷ value)
first-closed value closed [] e = let bad : ascii.equals ≡ ascii.backslash = ap first e in absurd (omega (arith, bad))
first-closed value closed (b ∷ front) e = closed front (ap behind e)

byte-closed : (b : ℕ) (text : List ℕ) → text ≢ [] → IsClosed text → IsClosed (b ∷ text)
byte-closed b text some closed [] e = some (ap behind e)
byte-closed b text some closed (c ∷ front) e = closed front (ap behind e)

some-left : (name value : List ℕ) → name ++ ascii.equals ∷ value ≢ []
some-left [] value e = cc
some-left (b ∷ name) value e = cc

bare-closed : (name value : List ℕ) → IsClosed value → IsClosed (name ++ ascii.equals ∷ value)
bare-closed [] value closed = first-closed value closed
bare-closed (b ∷ name) value closed =
    byte-closed b (name ++ ascii.equals ∷ value) (some-left name value) (bare-closed name value closed)

bare-bytes : (name value : List ℕ) → AllByRecursion IsLineByte name → AllByRecursion IsLineByte value → AllByRecursion IsLineByte (name ++ ascii.equals ∷ value)
bare-bytes [] value named valued = ((λ e. cc), valued)
bare-bytes (b ∷ name) value named valued = (named.0, bare-bytes name value named.1 valued)

-- a line that is no comment starts as it goes on
started : (b : ℕ) (bytes : List ℕ) → b ≢ ascii.newline → b ≢ ascii.hash → data_of (b ∷ bytes) ≡ read_on false (b ∷ bytes)
started b bytes within apart =
    let same : (b == ascii.newline) ≡ false = grind (arith, nat_tests, within) in
    let other : (b == ascii.hash) ≡ false = grind (arith, nat_tests, apart) in
    rw (same, other) refl

name-started : (name value rest : List ℕ) → name ≢ [] → AllByRecursion IsLineByte name → ((left : List ℕ) → name ≢ ascii.hash ∷ left)
    → data_of ((name ++ ascii.equals ∷ value) ++ rest) ≡ read_on false ((name ++ ascii.equals ∷ value) ++ rest)
name-started [] value rest named all apart = absurd (named refl)
name-started (b ∷ name) value rest named all apart =
    started b ((name ++ ascii.equals ∷ value) ++ rest) all.0 (λ e. apart name (ap (λ c. c ∷ name) e))

line-rest : (p : Pair) (rest : List ℕ) → line plain p ++ rest ≡ (p.0 ++ ascii.equals ∷ p.1) ++ ascii.newline ∷ rest
line-rest p rest =
    append_assoc (p.0 ++ ascii.equals ∷ []) (p.1 ++ ascii.newline ∷ []) rest
    ∙ (ap (λ t. (p.0 ++ ascii.equals ∷ []) ++ t) (append_assoc p.1 (ascii.newline ∷ []) rest)
    ∙ (append_assoc p.0 (ascii.equals ∷ []) (p.1 ++ ascii.newline ∷ rest)
    ∙ sym (append_assoc p.0 (ascii.equals ∷ p.1) (ascii.newline ∷ rest))))

entry-rest : (p : Pair) (rest : List ℕ) → entry p ++ rest ≡ (p.0 ++ ascii.equals ∷ p.1) ++ ascii.nul ∷ rest
entry-rest p rest =
    append_assoc (p.0 ++ ascii.equals ∷ p.1) (ascii.nul ∷ []) rest

-- the line of a variable adds its entry
line_is_entry : (p : Pair) (rest : List ℕ) → IsVariable p → IsOneLine p → data_of (line plain p ++ rest) ≡ entry p ++ data_of rest
line_is_entry p rest v one =
    let text : List ℕ = p.0 ++ ascii.equals ∷ p.1 in
    ap data_of (line-rest p rest)
    ∙ (name-started p.0 p.1 (ascii.newline ∷ rest) v.named one.name one.no_comment
    ∙ (line_read false text rest (bare-bytes p.0 p.1 one.name one.value) (bare-closed p.0 p.1 one.no_escape)
    ∙ sym (entry-rest p (data_of rest))))

-- ---- all lines

pub printed_data : (env : List Pair) → AllByRecursion IsVariable env → AllByRecursion IsOneLine env → data_of (printed_text env) ≡ flat_map entry env ++ ascii.nul ∷ ascii.nul ∷ []
printed_data [] all lines = refl
printed_data (p ∷ ps) all lines =
    line_is_entry p (printed_text ps) all.0 lines.0
    ∙ (ap (λ t. entry p ++ t) (printed_data ps all.1 lines.1) ∙ sym (append_assoc (entry p) (flat_map entry ps) (ascii.nul ∷ ascii.nul ∷ [])))

pub printed_reads_back : PrintedReadsBack
printed_reads_back env is lines =
    let data_there : IsData (data_of (printed_text env)) env = record { filling = ascii.nul ∷ []; whole = printed_data env is.each lines; each = is.each } in
    let read = data_is_computed (data_of (printed_text env)) env data_there in
    (read.0, sym (ap env_of read.1 ∙ env_of-distinct env is.distinct))

-- whatever a reader answers that reads as specified is that environment, or memory ran out
pub same_again : (env : List Pair) (answer : Result (List Pair) TextError) → IsEnvironment env → AllByRecursion IsOneLine env → IsReadFromText (printed_text env) answer
    → (IfOk answer (λ again. again ≡ env)) × (IfErr answer (λ e. e ≡ Memory))
same_again env (Ok again) is lines read = (read.1 ∙ sym (printed_reads_back env is lines).1, tt)
same_again env (Err (NoEquals line)) is lines read = absurd (none-some _ (sym (printed_reads_back env is lines).0 ∙ read.refused))
same_again env (Err (EmptyName line)) is lines read = absurd (none-some _ (sym (printed_reads_back env is lines).0 ∙ read.refused))
same_again env (Err Memory) is lines read = (tt, refl)
