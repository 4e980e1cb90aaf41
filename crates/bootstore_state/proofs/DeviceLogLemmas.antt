-- Lines of device commands, and where they start.
use Rattle.std.proofs.Common.{◌≡◌, ◌∙◌, ℕ, zero, suc, ◌+◌, ◌<◌, ◌≤◌, List, [], ◌∷◌, ◌++◌, length, take, drop, get_or, refl, sym, ap, append-nil, append_assoc, arith}
use Rattle.std.specs.List.{flat_map}
use Rattle.std.proofs.lemmas.List.{length-append, take_at, take-append-drop, take_more, take_all}
use Rattle.text.specs.Escapes.{word_escaped}
use Rattle.std.proofs.lemmas.List.Concat.{flat_map-append}
use Rattle.rehearse_terms.specs.State.{Text, LoggedCommand}
use Rattle.bootstore_state.specs.DeviceLog.{entry_line, starts_from, AreLines}

abbrev lines_of : List LoggedCommand → Text
lines_of log = flat_map entry_line log

pub starts_count : (at : ℕ) (log : List LoggedCommand) → length (starts_from at log) ≡ length log
starts_count at [] = refl
starts_count at (e ∷ log) = ap suc (starts_count (at + length (entry_line e)) log)

-- a command more
starts_more : (at : ℕ) (log : List LoggedCommand) (e : LoggedCommand) → starts_from at (log ++ e ∷ []) ≡ starts_from at log ++ (at + length (lines_of log)) ∷ []
starts_more at [] e = ap (λ (n : ℕ). n ∷ []) (omega arith)
starts_more at (f ∷ log) e =
    let here = length (entry_line f) in
    let count = length-append (entry_line f) (lines_of log) in
    ap (λ (ns : List ℕ). at ∷ ns)
    (starts_more (at + here) log e
    ∙ ap (λ (n : ℕ). starts_from (at + here) log ++ n ∷ []) (omega (arith, count)))

pub with_line : (log : List LoggedCommand) (e : LoggedCommand) (lines : Text) (starts : List ℕ) → AreLines log lines starts → AreLines (log ++ e ∷ []) (lines ++ entry_line e) (starts ++ length lines ∷ [])
with_line log e lines starts are =
    let count : length lines ≡ 0 + length (lines_of log) = let whole = ap length are.whole in omega (arith, whole) in
    record {
      whole = ap (λ (t : Text). t ++ entry_line e) are.whole ∙ ap (λ (t : Text). lines_of log ++ t) (sym (append-nil (entry_line e))) ∙ sym (flat_map-append entry_line log (e ∷ []));
      cuts = ap (λ (ns : List ℕ). ns ++ length lines ∷ []) are.cuts ∙ ap (λ (n : ℕ). starts_from 0 log ++ n ∷ []) count ∙ sym (starts_more 0 log e);
    }

-- the first commands
starts_front : (at count : ℕ) (log : List LoggedCommand) → take count (starts_from at log) ≡ starts_from at (take count log)
starts_front at zero log = refl
starts_front at (suc count) [] = refl
starts_front at (suc count) (e ∷ log) = ap (λ (ns : List ℕ). at ∷ ns) (starts_front (at + length (entry_line e)) count log)

start_at : (at count : ℕ) (log : List LoggedCommand) (d : ℕ) → count < length log → get_or (starts_from at log) count d ≡ at + length (lines_of (take count log))
start_at at count [] d lt = absurd (omega arith)
start_at at zero (e ∷ log) d lt = omega arith
start_at at (suc count) (e ∷ log) d lt =
    let rest = start_at (at + length (entry_line e)) count log d (omega arith) in
    let whole = length-append (entry_line e) (lines_of (take count log)) in
    omega (arith, rest, whole)

lines_front : (count : ℕ) (log : List LoggedCommand) → take (length (lines_of (take count log))) (lines_of log) ≡ lines_of (take count log)
lines_front count log =
    ap (λ (es : List LoggedCommand). take (length (lines_of (take count log))) (lines_of es)) (sym (take-append-drop count log))
    ∙ ap (take (length (lines_of (take count log)))) (flat_map-append entry_line (take count log) (drop count log))
    ∙ take_at (lines_of (take count log)) (lines_of (drop count log)) (length (lines_of (take count log))) refl

pub front_lines : (log : List LoggedCommand) (lines : Text) (starts : List ℕ) (count start : ℕ) → AreLines log lines starts → count < length log → start ≡ get_or starts count start → AreLines (take count log) (take start lines) (take count starts)
front_lines log lines starts count start are lt read =
    let there = read ∙ ap (λ (ns : List ℕ). get_or ns count start) are.cuts ∙ start_at 0 count log start lt in
    let here : start ≡ length (lines_of (take count log)) = omega (arith, there) in
    record {
      whole = ap (λ (n : ℕ). take n lines) here ∙ ap (take (length (lines_of (take count log)))) are.whole ∙ lines_front count log;
      cuts = ap (take count) are.cuts ∙ starts_front 0 count log;
    }

-- ---- bytes that are printed in a word as they are

pub plain_more : (bytes : Text) (i b : ℕ) → i < length bytes → b ≡ get_or bytes i b → word_escaped b ≡ b ∷ [] → flat_map word_escaped (take i bytes) ≡ take i bytes → flat_map word_escaped (take (i + 1) bytes) ≡ take (i + 1) bytes
plain_more bytes i b within is plain before =
    let more : take (i + 1) bytes ≡ take i bytes ++ b ∷ [] = take_more bytes i b within ∙ ap (λ (c : ℕ). take i bytes ++ c ∷ []) (sym is) in
    ap (flat_map word_escaped) more
    ∙ flat_map-append word_escaped (take i bytes) (b ∷ [])
    ∙ ap (λ (t : Text). t ++ flat_map word_escaped (b ∷ [])) before
    ∙ ap (λ (t : Text). take i bytes ++ t) (append-nil (word_escaped b) ∙ plain)
    ∙ sym more

pub all_plain : (bytes : Text) (i : ℕ) → length bytes ≤ i → flat_map word_escaped (take i bytes) ≡ take i bytes → flat_map word_escaped bytes ≡ bytes
all_plain bytes i past h =
    let all = take_all i bytes past in
    sym (ap (flat_map word_escaped) all) ∙ h ∙ all
