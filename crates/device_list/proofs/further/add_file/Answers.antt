use Rattle.std.proofs.Common.{◌-◌, List, length, ap, sym, ◌∙◌}
use Rattle.std.specs.List.{slice_get}
use Rattle.device_list.specs.DevicesShown.{Bytes}
use Rattle.device_list.proofs.FurtherLemmas.{further-added}
use Rattle.device_list.proofs.further.add_file.Goals as goal

pub returns : goal.returns
returns c =
    further-added c.args.line.now c.args.further c.append.new.self c.in-Some.last.now c.in_ok-before.before
    (sym c.is_continued.ensures ∙ c.if-not-is_continued.false)
    (ap (λ (names : List Bytes). slice_get names (length names - 1)) (sym c.deref.ensures.value) ∙ sym c.in-Some.ensures.value)
    (c.in_ok-before.ensures.items ∙ c.deref-2.ensures.value) c.in_ok-append.ensures.items
