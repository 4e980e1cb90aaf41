use Rattle.std.proofs.Common.{◌∙◌, ap, map, [], ◌∷◌, ◌++◌, List, option_map}
use Rattle.std.proofs.lemmas.List.{map_push}
use Rattle.hushlang.specs.Tree as tree
use Rattle.hushlang.specs.TreesShown as view
use Rattle.hushlang.specs.declared.tree.Op.{Op}
use Rattle.hushlang.proofs.ViewLemmas.{list_of}
use Rattle.hushlang_uboot.specs.Nests as says
use Rattle.hushlang_uboot.proofs.open_commands.Block.push_list.Goals as goal

pub returns : goal.returns
returns c =
    let old = c.args.self.now in
    let before = map view.list old.lists.items in
    let block : List tree.AndOr → List (Op × tree.Command) → says.Block = λ lists rest. record {
      lists = lists;
      first = option_map view.command old.first;
      rest = rest;
      op = old.op;
    } in
    let one = list_of c.args.first c.replace-rest.result
    ∙ ap (λ rest. tree.Starts (view.command c.args.first) (view.joins (map view.joined rest.items))) c.replace-rest.ensures.value in
    let lists = ap (map view.list) c.in_ok-push.ensures.items ∙ map_push view.list old.lists.items _ ∙ ap (λ l. before ++ l ∷ []) one in
    let rest = ap (λ made. map view.joined made.items) c.replace-rest.ensures.after ∙ ap (map view.joined) c.new.ensures.items in
    ap (λ now. block now (map view.joined c.replace-rest.new.dest.items)) lists ∙ ap (λ now. block (before ++ tree.Starts (view.command c.args.first) (view.joins (map view.joined old.rest.items)) ∷ []) now) rest
