-- One more turn of a rule that repeats, and one more level.
use Rattle.std.proofs.Common.{◌≡◌, ℕ, zero, suc, ◌-◌, ◌<◌, List, [], ◌∷◌, ◌++◌, Some, None, refl, ap, sym, ◌∙◌, arith}
use Rattle.hushlang.specs.Tree.{Command}
use Rattle.hushlang.specs.Parsing as spec
use Rattle.hushlang.specs.Parsing.{Input, Parser, pure, and_then, joined, op_next, next, keyword, command, simple}
use Rattle.hushlang.specs.Grammar.{is_newline_token}
use Rattle.hushlang.specs.TreesShown.{joins}
use Rattle.hushlang.specs.declared.tree.Op.{Op}
use Rattle.hushlang.specs.declared.words.Reserved.{Reserved}

joined_once : (rule : Parser Command) (turns : ℕ) (found : List (Op × Command)) (i : Input) → 0 < turns → joined rule turns found i ≡ spec.joined_by rule (joined rule (turns - 1)) found (op_next i) i
unfolding joined
joined_once rule zero found i some = absurd (omega arith)
joined_once rule (suc turns) found i some = let e : suc turns - 1 ≡ turns = omega arith in ap (λ n. spec.joined_by rule (joined rule n) found (op_next i) i) (sym e)

pub joined_more : (rule : Parser Command) (turns : ℕ) (found : List (Op × Command)) (i : Input) (op : Op) → 0 < turns → op_next i ≡ Some op → joined rule turns found i ≡ and_then (rule (spec.behind is_newline_token (next i))) (λ c. joined rule (turns - 1) (found ++ (op, c) ∷ []))
joined_more rule turns found i op some is = joined_once rule turns found i some ∙ ap (λ o. spec.joined_by rule (joined rule (turns - 1)) found o i) is

pub joined_end : (rule : Parser Command) (turns : ℕ) (found : List (Op × Command)) (i : Input) → op_next i ≡ None → joined rule turns found i ≡ pure (joins found) i
unfolding joined
joined_end rule zero found i is = refl
joined_end rule (suc turns) found i is = ap (λ o. spec.joined_by rule (joined rule turns) found o i) is

deeper : (depth : ℕ) (i : Input) → 0 < depth → command depth i ≡ spec.compound (command (depth - 1)) (keyword i) i
unfolding command
deeper zero i some = absurd (omega arith)
deeper (suc depth) i some = let e : suc depth - 1 ≡ depth = omega arith in ap (λ n. spec.compound (command n) (keyword i) i) (sym e)

pub command_by : (depth : ℕ) (i : Input) (word : Reserved) → 0 < depth → keyword i ≡ Some word → command depth i ≡ spec.compound (command (depth - 1)) (Some word) i
command_by depth i word some is = deeper depth i some ∙ ap (λ w. spec.compound (command (depth - 1)) w i) is

pub command_simple : (depth : ℕ) (i : Input) → keyword i ≡ None → command depth i ≡ simple i
unfolding command
command_simple zero i is = ap (λ w. spec.flat w i) is
command_simple (suc depth) i is = ap (λ w. spec.compound (command depth) w i) is
