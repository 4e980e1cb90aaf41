use Rattle.std.proofs.Common.{◌≡◌, false, nat_le, length, Result, List, Bor, take, ◌+◌, subst}
use Rattle.device_list.specs.CallLines.{Call, call_parts}
use Rattle.text.specs.Lines.{Text}
use Rattle.device_list.specs.CommandsShown.{files_shown}
use Rattle.device_list.specs.DeviceListAnswers.{SaysCall}
use Rattle.device_list.specs.declared.devices_error.DevicesError.{DevicesError}
use Rattle.device_list.proofs.WordLemmas.{bytes_of, call_line_at, not_below, rest_is}
use Rattle.device_list.proofs.call_line.call_line.Goals as goal

pub returns : goal.returns
returns c =
    let words = c.args.words.now in
    let at = c.colon_place-at.result in
    let there : nat_le (length (bytes_of words)) at ≡ false = not_below words at c.if-words-at.false in
    subst (λ (said : Result Call DevicesError). SaysCall said c.call_parts.result)
    (call_line_at (files_shown c.args.files.now.entries) c.args.number words at c.colon_place-at.ensures there)
    (subst (λ (rest : List (Bor Text)). SaysCall (call_parts (files_shown c.args.files.now.entries) c.args.number (bytes_of (take at words)) (bytes_of rest)) c.call_parts.result) (rest_is words (at + 1)) c.call_parts.ensures)
