use Rattle.std.proofs.Common.{List, [], ◌∷◌, ◌++◌, map, subst, sym}
use Rattle.device_list.specs.CallLines.{further_lines}
use Rattle.device_list.specs.CommandsShown.{line_shown, IsFurther}
use Rattle.device_list.specs.declared.call_line.CallLine.{CallLine}
use Rattle.device_list.proofs.FurtherLemmas.{further-lines}
use Rattle.device_list.proofs.further.go_on.Goals as goal

pub returns : goal.returns
returns c =
    let front : List CallLine = c.pop.new.self.items in
    let said : List CallLine → List CallLine → Type 0 = λ old new. IsFurther (further_lines (map line_shown old) (line_shown c.args.further)) (map line_shown new) c.in_ok-before.before in
    let last = further-lines front c.in-Some.line c.add_file.new.line c.args.further c.in_ok-before.before c.in_ok-before.ensures in
    subst (λ new. said c.args.lines.now.items new) (sym c.in_ok-push.ensures.items)
    (subst (λ old. said old (front ++ c.add_file.new.line ∷ [])) (sym c.in-Some.ensures.items) last)
