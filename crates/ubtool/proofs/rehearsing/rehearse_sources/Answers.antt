use Rattle.std.proofs.Common.{◌≡◌, ◌∙◌, ap, subst, map, string_bytes, List, ℕ}
use Rattle.std.specs.Borrow.{Bor}
use Rattle.std.specs.Option.{option_copied}
use Rattle.ubtool.specs.Given.{Given}
use Rattle.ubtool.specs.RehearsingFiles.{RehearsesCopies}
use Rattle.ubtool.proofs.GivenLemmas.{given-same}
use Rattle.ubtool.proofs.RehearseLemmas.{copies-rehearsed, same-asking}
use Rattle.device_list.specs.CommandsShown.{files_shown}
use Rattle.board_files.specs.BoardFiles.{list_read}
use Rattle.ubtool.proofs.rehearsing.rehearse_sources.Goals as goal

pub returns : goal.returns
returns g c =
    let out = g.O.Out.sink c.args.out.now in
    let out' = g.O.Out.sink c.rehearse_bytes.new.out in
    let read = c.bytes_of-bytes.result in
    let shown : List (List ℕ) = map (λ (n : Bor (List ℕ)). n.now) c.deref-2.result.now in
    let names : shown ≡ map string_bytes c.args.what.now.names.items =
    ap (map (λ (n : Bor (List ℕ)). n.now)) c.deref-2.ensures.value ∙ c.in-Ok.ensures.slices ∙ ap (map string_bytes) c.deref.ensures.value in
    let asking = same-asking _ _ _ _ _ _ _ _ c.as_bytes.ensures.value c.as_bytes-2.ensures.bounds c.as_bytes-2.ensures.runs names in
    let same = given-same c.args.order read.first.now _ (option_copied read.second) _ (list_read read.device_list.now (files_shown read.files.now.entries)) _ c.args.taking _ _ _ _ c.bytes_of-bytes.ensures.first c.bytes_of-bytes.ensures.second c.bytes_of-bytes.ensures.device_list c.bytes_of-bytes.ensures.script asking in
    subst (λ (x : Given). RehearsesCopies x out out' c.rehearse_bytes.result) same (copies-rehearsed _ out out' c.rehearse_bytes.result c.rehearse_bytes.ensures.ok c.rehearse_bytes.ensures.err)
