use Rattle.std.proofs.Common.{◌≡◌, ◌∙◌, ap, subst, map, string_bytes, List, ℕ, Option}
use Rattle.std.specs.Borrow.{Bor}
use Rattle.std.specs.Option.{option_copied}
use Rattle.board_files.specs.BoardFiles.{list_read}
use Rattle.device_list.specs.CommandsShown.{files_shown}
use Rattle.text.specs.TextsShown.{option_bytes}
use Rattle.ubtool.specs.BootsOfFiles.{TellsBootsOfCopies, limits_by, limits_with, runs_asked}
use Rattle.ubtool.specs.BootsOfImages.{BootLimits, limits_of, runs_by}
use Rattle.ubtool.specs.Given.{Given, all_runs, given}
use Rattle.ubtool.proofs.BootsLemmas.{boots-told}
use Rattle.ubtool.proofs.GivenLemmas.{given-same}
use Rattle.ubtool.proofs.boots.boots_of_sources.Goals as goal

pub returns : goal.returns
returns g c =
    let out = g.O.Out.sink c.args.out.now in
    let out' = g.O.Out.sink c.boots_bytes.new.out in
    let what = c.args.what.now in
    let read = c.bytes_of-bytes.result in
    let ask = c.asked-ask.result in
    let names : map (λ (n : Bor (List ℕ)). n.now) c.deref-2.result.now ≡ map string_bytes what.names.items =
    ap (map (λ (n : Bor (List ℕ)). n.now)) c.deref-2.ensures.value ∙ c.in-Ok-Ok.ensures.slices ∙ ap (map string_bytes) c.deref.ensures.value in
    let asking : runs_by ask ≡ runs_asked what = c.asked-ask.ensures.runs ∙ ap (all_runs (string_bytes what.name) what.bounds) names in
    let same = given-same c.args.order read.first.now _ (option_copied read.second) _ (list_read read.device_list.now (files_shown read.files.now.entries)) _ c.args.taking _ _ _ _ c.bytes_of-bytes.ensures.first c.bytes_of-bytes.ensures.second c.bytes_of-bytes.ensures.device_list c.bytes_of-bytes.ensures.script asking in
    let all : Given = given c.args.order read.first.now (option_copied read.second) (list_read read.device_list.now (files_shown read.files.now.entries)) c.args.taking (option_bytes read.script) (runs_by ask) in
    let changes = option_bytes c.args.changes in
    let within : limits_of ask ≡ limits_by c.args.images what changes all = c.asked-ask.ensures.limits ∙ ap (λ (room : Option ℕ). limits_with what room changes) c.room_if-room.ensures in
    let told = boots-told all (limits_of ask) out out' c.boots_bytes.result c.boots_bytes.ensures.ok c.boots_bytes.ensures.err in
    subst (λ (x : Given). TellsBootsOfCopies x (limits_by c.args.images what changes x) out out' c.boots_bytes.result) same
    (subst (λ (l : BootLimits). TellsBootsOfCopies all l out out' c.boots_bytes.result) within told)
