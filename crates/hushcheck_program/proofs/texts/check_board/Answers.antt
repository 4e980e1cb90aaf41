use Rattle.std.proofs.Common.{◌≡◌, ◌∙◌, ap, subst, map, option_map, string_bytes, List, ℕ, Option, Some}
use Rattle.std.specs.Option.{option_copied}
use Rattle.board_files.specs.BoardFiles.{list_read}
use Rattle.device_list.specs.CommandsShown.{files_shown}
use Rattle.tool_steps.specs.Images.{copies}
use Rattle.hushcheck_program.specs.Checking.{ChecksText, Named, given_by, under}
use Rattle.hushcheck_program.specs.Shown.{script_shown}
use Rattle.hushcheck_program.proofs.CheckLemmas.{bytes_if}
use Rattle.hushcheck_program.proofs.texts.check_board.Goals as goal

pub returns : goal.returns
returns g c =
    let board = c.args.board in
    let what = c.args.what.now in
    let out = g.O.Out.sink c.args.out.now in
    let out' = g.O.Out.sink c.check_images.new.out in
    let name = option_map string_bytes what.script in
    let shown : script_shown c.under-script.result ≡ under name (bytes_if board.script) =
    c.under-script.ensures ∙ ap (λ (n : Option (List ℕ)). under n (option_copied c.as_deref.result)) c.bytes_of.ensures ∙ ap (under name) c.as_deref.ensures.value in
    let P : List ℕ → Option Named → Type 0 = λ text script.
    ChecksText (given_by c.args.order (copies board.images) (Some (list_read text (files_shown board.files.entries))) script (map string_bytes what.names.items) what.all what.shell what.strict) out out' c.check_images.result in
    let of_text : P board.device_list.items (script_shown c.under-script.result) = subst (λ (t : List ℕ). P t (script_shown c.under-script.result)) c.deref.ensures.value c.check_images.ensures in
    subst (λ (s : Option Named). P board.device_list.items s) shown of_text
