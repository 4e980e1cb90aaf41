use Rattle.std.proofs.Common.{[], ap, subst, List, ℕ}
use Rattle.std.specs.Option.{option_copied}
use Rattle.ubtool.specs.CausesOfFiles.{TellsCausesOfCopies}
use Rattle.text.specs.TextsShown.{option_bytes}
use Rattle.ubtool.specs.Given.{Given, all_runs, given}
use Rattle.ubtool.proofs.CausesLemmas.{causes-told}
use Rattle.ubtool.proofs.GivenLemmas.{given-same}
use Rattle.device_list.specs.CommandsShown.{files_shown}
use Rattle.board_files.specs.BoardFiles.{list_read}
use Rattle.ubtool.proofs.causes.causes_of_sources.Goals as goal

pub returns : goal.returns
returns g c =
    let out = g.O.Out.sink c.args.out.now in
    let out' = g.O.Out.sink c.causes_bytes.new.out in
    let what = c.args.what.now in
    let read = c.bytes_of-bytes.result in
    let asking = ap (λ (name : List ℕ). all_runs name what.bounds []) c.as_bytes.ensures.value in
    let same = given-same c.args.order read.first.now _ (option_copied read.second) _ (list_read read.device_list.now (files_shown read.files.now.entries)) _ c.args.taking _ _ _ _ c.bytes_of-bytes.ensures.first c.bytes_of-bytes.ensures.second c.bytes_of-bytes.ensures.device_list c.bytes_of-bytes.ensures.script asking in
    let all : Given = given c.args.order read.first.now (option_copied read.second) (list_read read.device_list.now (files_shown read.files.now.entries)) c.args.taking (option_bytes read.script) (all_runs c.as_bytes.result.now what.bounds []) in
    subst (λ (x : Given). TellsCausesOfCopies x what.check out out' c.causes_bytes.result) same (causes-told all what.check out out' c.causes_bytes.result c.causes_bytes.ensures.ok c.causes_bytes.ensures.err)
