-- What the grammar derives is what the reader computes. The rule of commands is a parameter, as in the reader.
use Rattle.std.proofs.Common.{◌≡◌, ℕ, zero, suc, ◌-◌, ◌<◌, ◌≤◌, Bool, true, false, List, [], ◌∷◌, ◌++◌, map, length, Option, Some, None, is_some, Ok, refl, ap, sym, ◌∙◌, arith}
use Rattle.text.proofs.ResultLemmas.{ok_same}
use Rattle.hushlang.specs.Token.{Token, Part, End, Whole}
use Rattle.hushlang.specs.Tree.{Script, Empty, Runs, AndOr, Starts, Joined, Alone, Joins, Command, Simple, Assign, If, Loop, For, Arms, NoElse, Else, Arm, Word}
use Rattle.hushlang.specs.TreesShown.{runs, joins as joins_of, arms as arms_of}
use Rattle.hushlang.specs.Grammar.{AreAssignments, no_word, assigned, IsCommand, simple, assign, «if», «while», until, for_in, IsArms, arm, IsMore, arms_end, «else», elif, IsScript, no_command, commands, IsLoop, loop, IsBody, body, IsBlock, block, IsLists, last, more, IsAndOr, starts, IsJoined, alone, joins, is_word, is_separator, is_newline_token, words, word_of, past, reserved_of, assignment, ends_block, closes_at}
use Rattle.hushlang.specs.Grammar as grammar
use Rattle.hushlang.specs.Parsing as spec
use Rattle.hushlang.specs.Parsing.{Input, Parser, Parsed, and_then, command, keyword, next, expect, sees, behind, op_next, joined, joined_all, and_or, lists, closes_next, separator_next, body_of, loop_command, if_command}
use Rattle.hushlang.proofs.CommandRuleLemmas.{joined_more, joined_end, command_simple}
use Rattle.hushlang.proofs.RestLengthLemmas.{command_shorter, and_or_shorter, block_shorter, past-shorter}
use Rattle.hushlang.specs.Laws.{EachTreeIsRead, OneTree}
use Rattle.hushlang.specs.declared.tree.Op.{Op}
use Rattle.hushlang.specs.declared.words.Reserved.{Reserved}
use Rattle.hushlang.specs.declared.words.Reserved.TheVariants as r

unfoldable pub append_joined : List (Op × Command) → Joined → Joined
append_joined [] j = j
append_joined (x ∷ xs) j = Joins x.0 x.1 (append_joined xs j)

pub joins-append : (found : List (Op × Command)) → joins_of found ≡ append_joined found Alone
unfolding append_joined
joins-append [] = refl
joins-append (x ∷ xs) = ap (Joins x.0 x.1) (joins-append xs)

pub append_joined-push : (found : List (Op × Command)) (op : Op) (c : Command) (j : Joined) → append_joined (found ++ (op, c) ∷ []) j ≡ append_joined found (Joins op c j)
unfolding append_joined
append_joined-push [] op c j = refl
append_joined-push (x ∷ xs) op c j = ap (Joins x.0 x.1) (append_joined-push xs op c j)

unfoldable pub append_runs : List AndOr → Script → Script
append_runs [] s = s
append_runs (x ∷ xs) s = Runs x (append_runs xs s)

pub runs-append : (found : List AndOr) (a : AndOr) → runs (found ++ a ∷ []) ≡ append_runs found (Runs a Empty)
unfolding append_runs
runs-append [] a = refl
runs-append (x ∷ xs) a = ap (Runs x) (runs-append xs a)

pub append_runs-push : (found : List AndOr) (a : AndOr) (s : Script) → append_runs (found ++ a ∷ []) s ≡ append_runs found (Runs a s)
unfolding append_runs
append_runs-push [] a s = refl
append_runs-push (x ∷ xs) a s = ap (Runs x) (append_runs-push xs a s)

-- a command does not start with a closing word
command_opens : {d : ℕ} {tokens rest : List Token} {c : Command} → IsCommand d tokens c rest → ends_block tokens ≡ false
command_opens (simple t tokens w k a) = ap closes_at k
command_opens (assign t tokens w k a v) = ap closes_at k
command_opens («if» k a f) = ap closes_at k
command_opens («while» k l) = ap closes_at k
command_opens (until k l) = ap closes_at k
command_opens (for_in tokens k n i e s l) = ap closes_at k

lists_open : {d : ℕ} {tokens rest : List Token} {l : Script} → IsLists d tokens l rest → ends_block tokens ≡ false
lists_open (last after (starts c j) e) = command_opens c
lists_open (more (starts c j) s l) = command_opens c

pub lists_once : (rule : Parser Command) (turns : ℕ) (found : List AndOr) (i : Input) → 0 < turns → lists rule turns found i ≡ and_then (and_or rule i) (λ a. λ i. spec.lists_by (lists rule (turns - 1) (found ++ a ∷ [])) (found ++ a ∷ []) (separator_next i) (closes_next (behind is_separator i)) i)
unfolding lists
lists_once rule zero found i some = absurd (omega arith)
lists_once rule (suc turns) found i some = let e : suc turns - 1 ≡ turns = omega arith in ap (λ n. and_then (and_or rule i) (λ a. λ i. spec.lists_by (lists rule n (found ++ a ∷ [])) (found ++ a ∷ []) (separator_next i) (closes_next (behind is_separator i)) i)) (sym e)

unfoldable pub append_arms : List (Script × Script) → Arms → Arms
append_arms [] a = a
append_arms (x ∷ xs) a = Arm x.0 x.1 (append_arms xs a)

pub arms_of-none : (found : List (Script × Script)) → arms_of found None ≡ append_arms found NoElse
unfolding append_arms
arms_of-none [] = refl
arms_of-none (x ∷ xs) = ap (Arm x.0 x.1) (arms_of-none xs)

pub arms_of-else : (found : List (Script × Script)) (b : Script) → arms_of found (Some b) ≡ append_arms found (Else b)
unfolding append_arms
arms_of-else [] b = refl
arms_of-else (x ∷ xs) b = ap (Arm x.0 x.1) (arms_of-else xs b)

pub append_arms-push : (found : List (Script × Script)) (cond b : Script) (a : Arms) → append_arms (found ++ (cond, b) ∷ []) a ≡ append_arms found (Arm cond b a)
unfolding append_arms
append_arms-push [] cond b a = refl
append_arms-push (x ∷ xs) cond b a = ap (Arm x.0 x.1) (append_arms-push xs cond b a)

pub arms_once : (rule : Parser Command) (turns : ℕ) (found : List (Script × Script)) (i : Input) → 0 < turns → spec.arms rule turns found i ≡ and_then (spec.arm rule i) (λ one. λ i. spec.more_by rule (spec.arms rule (turns - 1)) (found ++ one ∷ []) (keyword i) i)
unfolding spec.arms
arms_once rule zero found i some = absurd (omega arith)
arms_once rule (suc turns) found i some = let e : suc turns - 1 ≡ turns = omega arith in ap (λ n. and_then (spec.arm rule i) (λ one. λ i. spec.more_by rule (spec.arms rule n) (found ++ one ∷ []) (keyword i) i)) (sym e)

is_keyword-self : (word : Reserved) → spec.is_keyword word (Some word) ≡ true
is_keyword-self r.If = refl
is_keyword-self r.Then = refl
is_keyword-self r.Elif = refl
is_keyword-self r.Else = refl
is_keyword-self r.Fi = refl
is_keyword-self r.For = refl
is_keyword-self r.While = refl
is_keyword-self r.Until = refl
is_keyword-self r.Do = refl
is_keyword-self r.Done = refl

-- a command has at least one token
command_stands : {d : ℕ} {tokens rest : List Token} {c : Command} → IsCommand d tokens c rest → spec.is_empty tokens ≡ false
command_stands (simple t tokens w k a) = refl
command_stands (assign t tokens w k a v) = refl
command_stands («if» k a f) = refl
command_stands («while» k l) = refl
command_stands (until k l) = refl
command_stands (for_in tokens k n i e s l) = refl

lists_stand : {d : ℕ} {tokens rest : List Token} {l : Script} → IsLists d tokens l rest → spec.is_empty tokens ≡ false
lists_stand (last after (starts c j) e) = command_stands c
lists_stand (more (starts c j) s l) = command_stands c

module _ (end : End) (size : ℕ) where
  abbrev at : List Token → Input
  at tokens = record { tokens = tokens; end = end; size = size }

  module _ (rule : Parser Command) (d : ℕ) (ok : (tokens rest : List Token) (c : Command) → IsCommand d tokens c rest → rule (at tokens) ≡ Ok (c, at rest)) where
    joined_reads : (turns : ℕ) (found : List (Op × Command)) {tokens rest : List Token} {j : Joined} → length tokens ≤ turns → IsJoined d tokens j rest → joined rule turns found (at tokens) ≡ Ok (append_joined found j, at rest)
    unfolding op_next behind next
    joined_reads turns found {tokens = tokens} h (alone n) = joined_end rule turns found (at tokens) n ∙ ap (λ (x : Joined). Ok (x, at tokens)) (joins-append found)
    joined_reads turns found {rest = rest} h (joins {t = t} {op = op} tokens {after = after} {command = c} {joined = j} o k m) =
        let some : 0 < turns = omega arith in
        let s = command_shorter k in
        let p = past-shorter is_newline_token tokens in
        let onto = λ (x : Parsed Command). and_then x (λ one. joined rule (turns - 1) (found ++ (op, one) ∷ [])) in
        joined_more rule turns found (at (t ∷ tokens)) op some o ∙ ap onto (ok _ _ _ k) ∙ joined_reads (turns - 1) (found ++ (op, c) ∷ []) (omega arith) m ∙ ap (λ (x : Joined). Ok (x, at rest)) (append_joined-push found op c j)

    and_or_reads : {tokens rest : List Token} {a : AndOr} → IsAndOr d tokens a rest → and_or rule (at tokens) ≡ Ok (a, at rest)
    unfolding and_or joined_all append_joined
    and_or_reads {rest = rest} (starts {after = after} {first = c} {joined = j} k m) =
        let onto = λ (x : Parsed Command). and_then x (λ first. spec.◌>>=◌ (joined_all rule) (λ j. spec.pure (Starts first j))) in
        let then_joined = λ (x : Parsed Joined). and_then x (λ j. spec.pure (Starts c j)) in
        ap onto (ok _ _ _ k) ∙ ap then_joined (joined_reads (length after) [] (omega arith) m)

    lists_read : (turns : ℕ) (found : List AndOr) {tokens rest : List Token} {l : Script} → length tokens < turns → IsLists d tokens l rest → lists rule turns found (at tokens) ≡ Ok (append_runs found l, at rest)
    unfolding closes_next separator_next behind
    lists_read turns found {tokens = tokens} h (last after {list = a} k e) =
        let some : 0 < turns = omega arith in
        let onto = λ (x : Parsed AndOr). and_then x (λ a. λ i. spec.lists_by (lists rule (turns - 1) (found ++ a ∷ [])) (found ++ a ∷ []) (separator_next i) (closes_next (behind is_separator i)) i) in
        let closed = λ (b : Bool). spec.lists_by (lists rule (turns - 1) (found ++ a ∷ [])) (found ++ a ∷ []) (separator_next (at after)) b (at after) in
        lists_once rule turns found (at tokens) some ∙ ap onto (and_or_reads k) ∙ ap closed e ∙ ap (λ (x : Script). Ok (x, at (past is_separator after))) (runs-append found a)
    lists_read turns found {tokens = tokens} {rest = rest} h (more {sep = sep} {after = after} {list = a} {lists = l} k s m) =
        let some : 0 < turns = omega arith in
        let fewer = and_or_shorter k in
        let p = past-shorter is_separator after in
        let onto = λ (x : Parsed AndOr). and_then x (λ a. λ i. spec.lists_by (lists rule (turns - 1) (found ++ a ∷ [])) (found ++ a ∷ []) (separator_next i) (closes_next (behind is_separator i)) i) in
        let by = λ (s b : Bool). spec.lists_by (lists rule (turns - 1) (found ++ a ∷ [])) (found ++ a ∷ []) s b (at (sep ∷ after)) in
        let goes_on : ends_block (past is_separator (sep ∷ after)) ≡ false = rw s (lists_open m) in
        let from = λ (b : Bool). lists rule (turns - 1) (found ++ a ∷ []) (at (grammar.past_if b (sep ∷ after) (past is_separator after))) in
        lists_once rule turns found (at tokens) some ∙ ap onto (and_or_reads k)
        ∙ ap (λ b. by (is_separator sep) b) goes_on ∙ ap (λ b. by b false) s ∙ ap from s
        ∙ lists_read (turns - 1) (found ++ a ∷ []) (omega arith) m ∙ ap (λ (x : Script). Ok (x, at rest)) (append_runs-push found a l)

    block_reads : {tokens rest : List Token} {b : Script} → IsBlock d tokens b rest → spec.block rule (at tokens) ≡ Ok (b, at rest)
    unfolding spec.block spec.lists_all behind append_runs
    block_reads (block tokens l) = lists_read (suc (length (past is_separator tokens))) [] (omega arith) l

    expect_reads : (word : Reserved) (t : Token) (tokens : List Token) → reserved_of t ≡ Some word → expect word (at (t ∷ tokens)) ≡ Ok (tt, at tokens)
    unfolding expect next sees keyword
    expect_reads word t tokens is = rw is (rw (is_keyword-self word))

    body_reads : {tokens rest : List Token} {b : Script} → IsBody d tokens b rest → body_of rule (at tokens) ≡ Ok (b, at rest)
    unfolding body_of
    body_reads {rest = rest} (body {begin = begin} {done = done} {tokens = tokens} {body = b} k l e) =
        rw (expect_reads r.Do begin tokens k, block_reads l, expect_reads r.Done done rest e)

    loop_reads : (until : Bool) {tokens rest : List Token} {c b : Script} → IsLoop d tokens c b rest → loop_command until rule (at tokens) ≡ Ok (Loop until c b, at rest)
    unfolding loop_command
    loop_reads flips (loop c b) = rw (block_reads c, body_reads b)

    arm_reads : {then_word : Token} {tokens after rest : List Token} {cond body : Script} → IsBlock d tokens cond (then_word ∷ after) → reserved_of then_word ≡ Some r.Then → IsBlock d after body rest → spec.arm rule (at tokens) ≡ Ok ((cond, body), at rest)
    unfolding spec.arm
    arm_reads {then_word = then_word} {after = after} c k b = rw (block_reads c, expect_reads r.Then then_word after k, block_reads b)

    mutual
      unfolding keyword next

      arms_read : (turns : ℕ) (found : List (Script × Script)) {tokens rest : List Token} {a : Arms} → length tokens < turns → IsArms d tokens a rest → spec.arms rule turns found (at tokens) ≡ Ok (append_arms found a, at rest)
      arms_read turns found {tokens = tokens} {rest = rest} h (arm {after = after} {cond = cond} {body = b} {arms = a} c k bl m) =
          let some : 0 < turns = omega arith in
          let p = block_shorter c in
          let q = block_shorter bl in
          let onto = λ (x : Parsed (Script × Script)). and_then x (λ one. λ i. spec.more_by rule (spec.arms rule (turns - 1)) (found ++ one ∷ []) (keyword i) i) in
          arms_once rule turns found (at tokens) some ∙ ap onto (arm_reads c k bl)
          ∙ more_reads (turns - 1) (found ++ (cond, b) ∷ []) (omega arith) m ∙ ap (λ (x : Arms). Ok (x, at rest)) (append_arms-push found cond b a)

      more_reads : (turns : ℕ) (found : List (Script × Script)) {tokens rest : List Token} {a : Arms} → length tokens ≤ turns → IsMore d tokens a rest → spec.more_by rule (spec.arms rule turns) found (spec.reserved_first tokens) (at tokens) ≡ Ok (append_arms found a, at rest)
      more_reads turns found h (arms_end {fi = fi} {rest = rest} k) =
          ap (λ o. spec.more_by rule (spec.arms rule turns) found o (at (fi ∷ rest))) k ∙ ap (λ (x : Arms). Ok (x, at (fi ∷ rest))) (arms_of-none found)
      more_reads turns found {rest = rest} h («else» {t = t} {tokens = tokens} {body = b} k bl) =
          let onto = λ (x : Parsed Script). and_then x (λ b. spec.pure (arms_of found (Some b))) in
          ap (λ o. spec.more_by rule (spec.arms rule turns) found o (at (t ∷ tokens))) k ∙ ap onto (block_reads bl) ∙ ap (λ (x : Arms). Ok (x, at rest)) (arms_of-else found b)
      more_reads turns found h (elif {t = t} {tokens = tokens} k a) =
          ap (λ o. spec.more_by rule (spec.arms rule turns) found o (at (t ∷ tokens))) k ∙ arms_read turns found (omega arith) a

    if_reads : {fi : Token} {tokens rest : List Token} {a : Arms} → IsArms d tokens a (fi ∷ rest) → reserved_of fi ≡ Some r.Fi → if_command rule (at tokens) ≡ Ok (If a, at rest)
    unfolding if_command spec.arms_all append_arms
    if_reads {fi = fi} {tokens = tokens} {rest = rest} a k = rw (arms_read (suc (length tokens)) [] (omega arith) a, expect_reads r.Fi fi rest k)

    for_reads : (named in_word : Token) {sep : Token} (tokens : List Token) {after rest : List Token} {name : List ℕ} {body : Script} → grammar.name_in named ≡ Some name → grammar.is_in_word in_word ≡ true → past is_word tokens ≡ sep ∷ after → is_separator sep ≡ true → IsBody d (past is_separator after) body rest → spec.for_command rule (at (named ∷ in_word ∷ tokens)) ≡ Ok (For name (map word_of (words tokens)) body, at rest)
    unfolding spec.for_command spec.name spec.name_next spec.expect_in spec.in_next spec.all_words spec.separators separator_next behind next
    for_reads named in_word tokens n i e s b = rw (n, i, e, s, body_reads b)

  assignments_read : {tokens : List Token} {values : List (List ℕ × Word)} → AreAssignments tokens values → spec.assignments tokens ≡ Ok values
  unfolding spec.assignments
  assignments_read no_word = refl
  assignments_read (assigned found e m) = rw (e, assignments_read m)

  simple_reads : (t : Token) (tokens : List Token) → is_word t ≡ true → assignment t.parts ≡ None → spec.simple (at (t ∷ tokens)) ≡ Ok (Simple (map word_of (words (t ∷ tokens))), at (past is_word (t ∷ tokens)))
  unfolding spec.simple spec.word_next spec.assignment_next behind
  simple_reads t tokens w a =
      ap (λ b. spec.simple_by b (is_some (assignment t.parts)) (at (t ∷ tokens))) w ∙ ap (λ (o : Option (List ℕ × List Part)). spec.simple_by true (is_some o) (at (t ∷ tokens))) a

  assign_reads : (t : Token) (tokens : List Token) {values : List (List ℕ × Word)} → is_word t ≡ true → is_some (assignment t.parts) ≡ true → AreAssignments (words (t ∷ tokens)) values → spec.simple (at (t ∷ tokens)) ≡ Ok (Assign values, at (past is_word (t ∷ tokens)))
  unfolding spec.simple spec.word_next spec.assignment_next behind
  assign_reads t tokens w a v =
      ap (λ b. spec.simple_by b (is_some (assignment t.parts)) (at (t ∷ tokens))) w ∙ ap (λ b. spec.simple_by true b (at (t ∷ tokens))) a ∙ ap (λ o. spec.assign_by o (at (t ∷ tokens))) (assignments_read v)

  -- a command, by the levels that are left
  command_reads : (d : ℕ) (tokens rest : List Token) (c : Command) → IsCommand d tokens c rest → command d (at tokens) ≡ Ok (c, at rest)
  unfolding command keyword next
  command_reads d tokens rest c (simple t all w k a) = command_simple d (at (t ∷ all)) k ∙ simple_reads t all w a
  command_reads d tokens rest c (assign t all w k a v) = command_simple d (at (t ∷ all)) k ∙ assign_reads t all w a v
  command_reads (suc d) tokens rest c («if» k a f) = ap (λ o. spec.compound (command d) o (at tokens)) k ∙ if_reads (command d) d (command_reads d) a f
  command_reads (suc d) tokens rest c («while» k l) = ap (λ o. spec.compound (command d) o (at tokens)) k ∙ loop_reads (command d) d (command_reads d) false l
  command_reads (suc d) tokens rest c (until k l) = ap (λ o. spec.compound (command d) o (at tokens)) k ∙ loop_reads (command d) d (command_reads d) true l
  command_reads (suc d) tokens rest c (for_in all k n i e s l) = ap (λ o. spec.compound (command d) o (at tokens)) k ∙ for_reads (command d) d (command_reads d) _ _ all n i e s l

  script_reads : (d : ℕ) {tokens : List Token} {s : Script} → IsScript d tokens s → spec.script d (at tokens) ≡ Ok (s, at [])
  unfolding spec.script spec.lists_all spec.at_last behind append_runs
  script_reads d (no_command e) = rw e
  script_reads d (commands tokens l) =
      ap (λ b. spec.script_by d b (at (past is_separator tokens))) (lists_stand l) ∙ lists_read (command d) d (command_reads d) (suc (length (past is_separator tokens))) [] (omega arith) l

pub each_tree_is_read : EachTreeIsRead
unfolding spec.whole
each_tree_is_read depth tokens s size t = ap spec.finish (script_reads Whole size depth t)

pub one_tree_only : OneTree
one_tree_only depth tokens s other t u = ok_same _ (each_tree_is_read depth tokens s 0 t) (each_tree_is_read depth tokens other 0 u)
