use Rattle.hushcheck.proofs.LinesLemmas.{marked_is}
use Rattle.hushcheck.proofs.lines.push_marked.Goals as goal

pub returns : goal.returns
returns c =
    marked_is c.args.told.now.items c.push_line.new.text.items c.push_line-2.new.text.items c.extend_from_slice.new.self.items c.push_mark.new.text.items c.extend_from_slice-2.new.self.items
    c.args.shown.now.front.now c.args.shown.now.rest.now
    c.in_ok-push_line.ensures c.in_ok-push_line-2.ensures c.in_ok-extend_from_slice.ensures.items c.in_ok-push_mark.ensures c.in_ok-extend_from_slice-2.ensures.items
