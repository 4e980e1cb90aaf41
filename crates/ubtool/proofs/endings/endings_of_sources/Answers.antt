use Rattle.std.proofs.Common.{◌≡◌, ◌∙◌, ap, subst, map, string_bytes, List, ℕ}
use Rattle.std.specs.Borrow.{Bor}
use Rattle.std.specs.Option.{option_copied}
use Rattle.text.specs.TextsShown.{option_bytes}
use Rattle.ubtool.specs.Given.{Given, all_runs, given}
use Rattle.ubtool.specs.GivenByFiles.{given_by, script_of}
use Rattle.tool_steps.specs.Images.{copies}
use Rattle.ubtool.specs.EndingsOfFiles.{TellsCopies, all_asked}
use Rattle.ubtool.proofs.EndingsLemmas.{copies-told, same-runs}
use Rattle.ubtool.proofs.GivenLemmas.{given-same}
use Rattle.device_list.specs.CommandsShown.{files_shown}
use Rattle.board_files.specs.BoardFiles.{list_of, list_read}
use Rattle.ubtool.proofs.endings.endings_of_sources.Goals as goal

pub returns : goal.returns
returns g c =
    let out = g.O.Out.sink c.args.out.now in
    let out' = g.O.Out.sink c.endings_bytes.new.out in
    let what = c.args.what.now in
    let read = c.bytes_of-bytes.result in
    let shown : List (List ℕ) = map (λ (n : Bor (List ℕ)). n.now) c.deref-2.result.now in
    let names : shown ≡ map string_bytes what.names.items =
    ap (map (λ (n : Bor (List ℕ)). n.now)) c.deref-2.ensures.value ∙ c.in-Ok.ensures.slices ∙ ap (map string_bytes) c.deref.ensures.value in
    let asking = same-runs _ _ what.bounds _ _ c.as_bytes.ensures.value names in
    let same = given-same c.args.order read.first.now _ (option_copied read.second) _ (list_read read.device_list.now (files_shown read.files.now.entries)) _ c.args.taking _ _ _ _ c.bytes_of-bytes.ensures.first c.bytes_of-bytes.ensures.second c.bytes_of-bytes.ensures.device_list c.bytes_of-bytes.ensures.script asking in
    let all : Given = given c.args.order read.first.now (option_copied read.second) (list_read read.device_list.now (files_shown read.files.now.entries)) c.args.taking (option_bytes read.script) (all_runs c.as_bytes.result.now what.bounds shown) in
    let told = copies-told all what.flow what.states what.work c.allowed_bytes.result out out' c.endings_bytes.result c.endings_bytes.ensures.ok c.endings_bytes.ensures.err in
    subst (λ (bytes : ℕ). TellsCopies (given_by c.args.order (copies c.args.board.now.images) (list_of c.args.board.now) c.args.taking (script_of c.args.board.now) (all_asked what)) what.flow what.states what.work bytes out out' c.endings_bytes.result) c.allowed_bytes.ensures
    (subst (λ (x : Given). TellsCopies x what.flow what.states what.work c.allowed_bytes.result out out' c.endings_bytes.result) same told)
