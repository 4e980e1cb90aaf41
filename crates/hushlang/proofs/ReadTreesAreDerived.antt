-- What the reader finds is derived. The rule of commands is a parameter, as in the reader.
use Rattle.std.proofs.Common.{◌≡◌, ℕ, zero, suc, ◌≤◌, Bool, true, false, if◌then◌else◌, List, [], ◌∷◌, ◌++◌, map, length, Option, Some, None, is_some, Result, Ok, Err, refl, ap, sym, ◌∙◌, subst, arith}
use Rattle.std.proofs.lemmas.Bool.{false≢true}
use Rattle.std.proofs.lemmas.Option.{none-some}
use Rattle.text.proofs.ResultLemmas.{ok_same}
use Rattle.hushlang.specs.Token.{Token, Part, End, Whole, Refused}
use Rattle.hushlang.specs.Tree.{Script, Empty, Runs, AndOr, Starts, Joined, Alone, Joins, Command, If, Loop, For, Arms, NoElse, Else, Arm, Word}
use Rattle.hushlang.specs.TreesShown.{runs, joins as joins_of, arms as arms_of}
use Rattle.hushlang.specs.Grammar.{AreAssignments, no_word, assigned, IsCommand, IsArms, IsMore, IsLoop, IsBody, IsBlock, IsLists, IsAndOr, IsJoined, IsScript, no_command, commands, is_word, is_separator, is_newline_token, words, word_of, past, past_if, reserved_of, goes_on, assignment, value_of, ends_block, name_in, is_in_word}
use Rattle.hushlang.specs.Grammar as g
use Rattle.hushlang.specs.Parsing as spec
use Rattle.hushlang.specs.Parsing.{Input, Parser, Parsed, and_then, ◌>>=◌, command, keyword, next, expect, behind, joined, joined_all, and_or, lists, lists_by, joined_by, more_by, separator_first, reserved_first}
use Rattle.hushlang.specs.Laws.{WhatIsReadIsATree}
use Rattle.hushlang.proofs.DerivedTreesAreRead.{append_joined, joins-append, append_joined-push, append_runs, runs-append, append_runs-push, append_arms, arms_of-none, arms_of-else, append_arms-push}
use Rattle.hushlang.proofs.RestLengthLemmas.{command_shorter, past-shorter}
use Rattle.hushlang.specs.declared.tree.Op.{Op}
use Rattle.hushlang.specs.declared.token.SyntaxError.{SyntaxError}
use Rattle.hushlang.specs.declared.words.Reserved.{Reserved}
use Rattle.hushlang.specs.declared.words.Reserved.TheVariants as r

-- ---- outcomes

IsAnOk : {A E : Type 0} → Result A E → Type 0
IsAnOk (Ok a) = Unit
IsAnOk (Err e) = ⊥

pub err_not_ok : {A E : Type 0} {e : E} {a : A} → Err e ≡ Ok a → ⊥
unfolding IsAnOk
err_not_ok p = subst IsAnOk (sym p) tt

pub and_then_ok : {A B : Type 0} (o : Parsed A) (f : A → Parser B) (b : B) (j : Input) → and_then o f ≡ Ok (b, j) → (a : A) × (i : Input) × (o ≡ Ok (a, i)) × (f a i ≡ Ok (b, j))
and_then_ok (Ok p) f b j e = (p.0, p.1, refl, e)
and_then_ok (Err x) f b j e = absurd (err_not_ok e)

if_ok : {A : Type 0} (b : Bool) (a : A) (i : Input) (x : SyntaxError) (c : A) (j : Input) → if◌then◌else◌ {A = Parsed A} b (Ok (a, i)) (Err x) ≡ Ok (c, j) → (b ≡ true) × (a ≡ c) × (i ≡ j)
if_ok true a i x c j e = let p = ok_same _ refl e in (refl, ap (λ q. q.0) p, ap (λ q. q.1) p)
if_ok false a i x c j e = absurd (err_not_ok e)

pub is_keyword-sound : (word : Reserved) (found : Option Reserved) → spec.is_keyword word found ≡ true → found ≡ Some word
is_keyword-sound r.If (Some r.If) e = refl
is_keyword-sound r.Then (Some r.Then) e = refl
is_keyword-sound r.Elif (Some r.Elif) e = refl
is_keyword-sound r.Else (Some r.Else) e = refl
is_keyword-sound r.Fi (Some r.Fi) e = refl
is_keyword-sound r.For (Some r.For) e = refl
is_keyword-sound r.While (Some r.While) e = refl
is_keyword-sound r.Until (Some r.Until) e = refl
is_keyword-sound r.Do (Some r.Do) e = refl
is_keyword-sound r.Done (Some r.Done) e = refl
is_keyword-sound word found e = absurd (false≢true e)

module _ (end : End) (size : ℕ) where
  abbrev at : List Token → Input
  at tokens = record { tokens = tokens; end = end; size = size }

  -- what an Ok of a rule says
  abbrev Gives : {A : Type 0} → (List Token → A → List Token → Type 0) → Parser A → Type 0
  Gives {A} R p = (tokens : List Token) (a : A) (j : Input) → p (at tokens) ≡ Ok (a, j) → (rest : List Token) × (j ≡ at rest) × R tokens a rest

  abbrev Then : {A B : Type 0} → (List Token → A → List Token → Type 0) → (A → List Token → B → List Token → Type 0) → List Token → B → List Token → Type 0
  Then {A} R S tokens b rest = (a : A) × (mid : List Token) × R tokens a mid × S a mid b rest

  then_gives : {A B : Type 0} (R : List Token → A → List Token → Type 0) (S : A → List Token → B → List Token → Type 0) (p : Parser A) (f : A → Parser B) → Gives R p → ((a : A) → Gives (S a) (f a)) → Gives (Then R S) (p >>= f)
  then_gives R S p f gp gf tokens b j e =
      let o = and_then_ok (p (at tokens)) f b j e in
      let m = gp tokens o.0 o.1 o.2 in
      let h = gf o.0 m.0 b j (subst (λ i. f o.0 i ≡ Ok (b, j)) m.1 o.3) in
      (h.0, h.1, (o.0, m.0, m.2, h.2))

  abbrev Pure : {A : Type 0} → A → List Token → A → List Token → Type 0
  Pure a tokens b rest = (a ≡ b) × (tokens ≡ rest)

  pure_gives : {A : Type 0} (a : A) → Gives (Pure a) (spec.pure a)
  pure_gives a tokens b j e = let p = ok_same _ refl e in (tokens, sym (ap (λ q. q.1) p), (ap (λ q. q.0) p, refl))

  abbrev Takes : Reserved → List Token → Unit {0} → List Token → Type 0
  Takes word tokens u rest = (t : Token) × (tokens ≡ t ∷ rest) × (reserved_of t ≡ Some word)

  expect_gives : (word : Reserved) → Gives (Takes word) (expect word)
  unfolding expect spec.sees keyword next
  expect_gives word [] u j e = absurd (none-some _ (is_keyword-sound word None (if_ok (spec.is_keyword word None) tt (next (at [])) (spec.refusal (at [])) u j e).0))
  expect_gives word (t ∷ tokens) u j e =
      let p = if_ok (spec.is_keyword word (reserved_of t)) tt (at tokens) (spec.refusal (at (t ∷ tokens))) u j e in
      (tokens, sym p.2, (t, refl, is_keyword-sound word (reserved_of t) p.0))

  module _ (rule : Parser Command) (d : ℕ) (ok : (tokens : List Token) (c : Command) (j : Input) → rule (at tokens) ≡ Ok (c, j) → (rest : List Token) × (j ≡ at rest) × IsCommand d tokens c rest) where
    -- what is joined to a command
    abbrev JoinedFrom : List (Op × Command) → List Token → Joined → List Token → Type 0
    JoinedFrom found tokens all rest = (j : Joined) × (all ≡ append_joined found j) × IsJoined d tokens j rest

    joined_stops : (found : List (Op × Command)) (tokens : List Token) → goes_on tokens ≡ None → (all : Joined) (j : Input) → spec.pure (joins_of found) (at tokens) ≡ Ok (all, j) → (rest : List Token) × (j ≡ at rest) × JoinedFrom found tokens all rest
    joined_stops found tokens n all j e =
        let p = pure_gives (joins_of found) tokens all j e in
        (tokens, p.1 ∙ ap at (sym p.2.1), (Alone, sym p.2.0 ∙ joins-append found, g.alone n))

    joined_turn : (turns : ℕ) (ih : (found : List (Op × Command)) (tokens : List Token) → length tokens ≤ turns → (all : Joined) (j : Input) → joined rule turns found (at tokens) ≡ Ok (all, j) → (rest : List Token) × (j ≡ at rest) × JoinedFrom found tokens all rest) (found : List (Op × Command)) (tokens : List Token) → length tokens ≤ suc turns → (o : Option Op) → goes_on tokens ≡ o → (all : Joined) (j : Input) → joined_by rule (joined rule turns) found o (at tokens) ≡ Ok (all, j) → (rest : List Token) × (j ≡ at rest) × JoinedFrom found tokens all rest
    unfolding next behind
    joined_turn turns ih found tokens h None n all j e = joined_stops found tokens n all j e
    joined_turn turns ih found [] h (Some op) n all j e = absurd (none-some _ n)
    joined_turn turns ih found (t ∷ tokens) h (Some op) n all j e =
        let o = and_then_ok (rule (at (past is_newline_token tokens))) (λ c. joined rule turns (found ++ (op, c) ∷ [])) all j e in
        let c = ok (past is_newline_token tokens) o.0 o.1 o.2 in
        let s = command_shorter c.2 in
        let p = past-shorter is_newline_token tokens in
        let m = ih (found ++ (op, o.0) ∷ []) c.0 (omega arith) all j (subst (λ i. joined rule turns (found ++ (op, o.0) ∷ []) i ≡ Ok (all, j)) c.1 o.3) in
        (m.0, m.1, (Joins op o.0 m.2.0, m.2.1 ∙ append_joined-push found op o.0 m.2.0, g.joins tokens n c.2 m.2.2))

    joined_give : (turns : ℕ) (found : List (Op × Command)) (tokens : List Token) → length tokens ≤ turns → (all : Joined) (j : Input) → joined rule turns found (at tokens) ≡ Ok (all, j) → (rest : List Token) × (j ≡ at rest) × JoinedFrom found tokens all rest
    unfolding joined spec.op_next
    joined_give zero found [] h all j e = joined_stops found [] refl all j e
    joined_give zero found (t ∷ tokens) h all j e = absurd (omega (arith, h))
    joined_give (suc turns) found tokens h all j e = joined_turn turns (joined_give turns) found tokens h (goes_on tokens) refl all j e

    joined_all_gives : Gives (λ tokens j rest. IsJoined d tokens j rest) (joined_all rule)
    unfolding joined_all append_joined
    joined_all_gives tokens all j e =
        let m = joined_give (length tokens) [] tokens (omega arith) all j e in
        (m.0, m.1, subst (λ x. IsJoined d tokens x m.0) (sym m.2.1) m.2.2)

    pub and_or_gives : Gives (λ tokens a rest. IsAndOr d tokens a rest) (and_or rule)
    unfolding and_or
    and_or_gives tokens a j e =
        let o = then_gives (λ tokens c rest. IsCommand d tokens c rest) (λ c. Then (λ tokens j rest. IsJoined d tokens j rest) (λ j. Pure (Starts c j))) rule (λ c. joined_all rule >>= λ j. spec.pure (Starts c j)) ok
        (λ c. then_gives (λ tokens j rest. IsJoined d tokens j rest) (λ j. Pure (Starts c j)) (joined_all rule) (λ j. spec.pure (Starts c j)) joined_all_gives (λ j. pure_gives (Starts c j))) tokens a j e in
        let first = o.2 in
        let more = first.3 in
        let whole = g.starts first.2 more.2 in
        (o.0, o.1, subst (λ x. IsAndOr d tokens x o.0) more.3.0 (subst (λ r. IsAndOr d tokens (Starts first.0 more.0) r) more.3.1 whole))

    -- lists
    abbrev ListsFrom : List AndOr → List Token → Script → List Token → Type 0
    ListsFrom found tokens all rest = (l : Script) × (all ≡ append_runs found l) × IsLists d tokens l rest

    list_ends : (more : Parser Script) (found : List AndOr) (a : AndOr) (tokens mid : List Token) → IsAndOr d tokens a mid → ends_block (past is_separator mid) ≡ true → (sep : Bool) (all : Script) (j : Input) → lists_by more (found ++ a ∷ []) sep true (at mid) ≡ Ok (all, j) → (rest : List Token) × (j ≡ at rest) × ListsFrom found tokens all rest
    unfolding behind
    list_ends more found a tokens mid k ends sep all j e =
        let p = pure_gives (runs (found ++ a ∷ [])) (past is_separator mid) all j e in
        (past is_separator mid, p.1 ∙ ap at (sym p.2.1), (Runs a Empty, sym p.2.0 ∙ runs-append found a, g.last mid k ends))

    lists_turn : (turns : ℕ) (ih : (found : List AndOr) → Gives (ListsFrom found) (lists rule turns found)) (found : List AndOr) (a : AndOr) (tokens mid : List Token) → IsAndOr d tokens a mid → (sep ends : Bool) → separator_first mid ≡ sep → ends_block (past is_separator mid) ≡ ends → (all : Script) (j : Input) → lists_by (lists rule turns (found ++ a ∷ [])) (found ++ a ∷ []) sep ends (at mid) ≡ Ok (all, j) → (rest : List Token) × (j ≡ at rest) × ListsFrom found tokens all rest
    unfolding behind
    lists_turn turns ih found a tokens mid k sep true is ends all j e = list_ends (lists rule turns (found ++ a ∷ [])) found a tokens mid k ends sep all j e
    lists_turn turns ih found a tokens mid k false false is ends all j e = absurd (err_not_ok e)
    lists_turn turns ih found a tokens [] k true false is ends all j e = absurd (false≢true is)
    lists_turn turns ih found a tokens (s ∷ mid) k true false is ends all j e =
        let from = λ (b : Bool). lists rule turns (found ++ a ∷ []) (at (past_if b (s ∷ mid) (past is_separator mid))) in
        let m = ih (found ++ a ∷ []) (past is_separator mid) all j (ap from (sym is) ∙ e) in
        (m.0, m.1, (Runs a m.2.0, m.2.1 ∙ append_runs-push found a m.2.0, g.more k is m.2.2))

    lists_give : (turns : ℕ) (found : List AndOr) → Gives (ListsFrom found) (lists rule turns found)
    unfolding lists spec.separator_next spec.closes_next behind
    lists_give zero found tokens all j e = absurd (err_not_ok e)
    lists_give (suc turns) found tokens all j e =
        let after = λ (a : AndOr) (i : Input). lists_by (lists rule turns (found ++ a ∷ [])) (found ++ a ∷ []) (separator_first i.tokens) (ends_block (past is_separator i.tokens)) i in
        let o = and_then_ok (and_or rule (at tokens)) after all j e in
        let a = and_or_gives tokens o.0 o.1 o.2 in
        lists_turn turns (lists_give turns) found o.0 tokens a.0 a.2 (separator_first a.0) (ends_block (past is_separator a.0)) refl refl all j (subst (λ i. after o.0 i ≡ Ok (all, j)) a.1 o.3)

    block_gives : Gives (λ tokens b rest. IsBlock d tokens b rest) (spec.block rule)
    unfolding spec.block spec.lists_all behind append_runs
    block_gives tokens b j e =
        let m = lists_give (suc (length (past is_separator tokens))) [] (past is_separator tokens) b j e in
        (m.0, m.1, g.block tokens (subst (λ x. IsLists d (past is_separator tokens) x m.0) (sym m.2.1) m.2.2))

    -- `if`
    abbrev IsBlockHere : List Token → Script → List Token → Type 0
    IsBlockHere tokens b rest = IsBlock d tokens b rest

    abbrev IsArm : List Token → Script × Script → List Token → Type 0
    IsArm tokens a rest = (then_word : Token) × (after : List Token) × IsBlock d tokens a.0 (then_word ∷ after) × (reserved_of then_word ≡ Some r.Then) × IsBlock d after a.1 rest

    pub arm_gives : Gives IsArm (spec.arm rule)
    unfolding spec.arm
    arm_gives tokens a j e =
        let o = then_gives IsBlockHere (λ c. Then (Takes r.Then) (λ u. Then IsBlockHere (λ b. Pure (c, b)))) (spec.block rule) (λ c. expect r.Then >>= λ u. spec.block rule >>= λ b. spec.pure (c, b)) block_gives
        (λ c. then_gives (Takes r.Then) (λ u. Then IsBlockHere (λ b. Pure (c, b))) (expect r.Then) (λ u. spec.block rule >>= λ b. spec.pure (c, b)) (expect_gives r.Then)
        (λ u. then_gives IsBlockHere (λ b. Pure (c, b)) (spec.block rule) (λ b. spec.pure (c, b)) block_gives (λ b. pure_gives (c, b)))) tokens a j e in
        let cond = o.2 in
        let word = cond.3 in
        let body = word.3 in
        let from : IsBlock d tokens cond.0 (word.2.0 ∷ word.1) = subst (λ r. IsBlock d tokens cond.0 r) word.2.1 cond.2 in
        let to : IsBlock d word.1 body.0 o.0 = subst (λ r. IsBlock d word.1 body.0 r) body.3.1 body.2 in
        (o.0, o.1, (word.2.0, word.1, subst (λ (x : Script × Script). IsBlock d tokens x.0 (word.2.0 ∷ word.1)) body.3.0 from, word.2.2, subst (λ (x : Script × Script). IsBlock d word.1 x.1 o.0) body.3.0 to))

    abbrev ArmsFrom : List (Script × Script) → List Token → Arms → List Token → Type 0
    ArmsFrom found tokens all rest = (a : Arms) × (all ≡ append_arms found a) × IsArms d tokens a rest

    abbrev MoreFrom : List (Script × Script) → List Token → Arms → List Token → Type 0
    MoreFrom found tokens all rest = (a : Arms) × (all ≡ append_arms found a) × IsMore d tokens a rest

    more_turn : (turns : ℕ) (ih : (found : List (Script × Script)) → Gives (ArmsFrom found) (spec.arms rule turns found)) (found : List (Script × Script)) (tokens : List Token) (o : Option Reserved) → reserved_first tokens ≡ o → (all : Arms) (j : Input) → more_by rule (spec.arms rule turns) found o (at tokens) ≡ Ok (all, j) → (rest : List Token) × (j ≡ at rest) × MoreFrom found tokens all rest
    unfolding next
    more_turn turns ih found [] (Some word) is all j e = absurd (none-some _ is)
    more_turn turns ih found (t ∷ tokens) (Some r.Else) is all j e =
        let o = then_gives IsBlockHere (λ b. Pure (arms_of found (Some b))) (spec.block rule) (λ b. spec.pure (arms_of found (Some b))) block_gives (λ b. pure_gives (arms_of found (Some b))) tokens all j e in
        let b = o.2 in
        (o.0, o.1, (Else b.0, sym b.3.0 ∙ arms_of-else found b.0, g.«else» is (subst (λ r. IsBlock d tokens b.0 r) b.3.1 b.2)))
    more_turn turns ih found (t ∷ tokens) (Some r.Elif) is all j e =
        let m = ih found tokens all j e in
        (m.0, m.1, (m.2.0, m.2.1, g.elif is m.2.2))
    more_turn turns ih found (t ∷ tokens) (Some r.Fi) is all j e =
        let p = pure_gives (arms_of found None) (t ∷ tokens) all j e in
        (t ∷ tokens, p.1 ∙ ap at (sym p.2.1), (NoElse, sym p.2.0 ∙ arms_of-none found, g.arms_end is))
    more_turn turns ih found tokens o is all j e = absurd (err_not_ok e)

    arms_give : (turns : ℕ) (found : List (Script × Script)) → Gives (ArmsFrom found) (spec.arms rule turns found)
    unfolding spec.arms keyword
    arms_give zero found tokens all j e = absurd (err_not_ok e)
    arms_give (suc turns) found tokens all j e =
        let after = λ (one : Script × Script) (i : Input). more_by rule (spec.arms rule turns) (found ++ one ∷ []) (reserved_first i.tokens) i in
        let o = and_then_ok (spec.arm rule (at tokens)) after all j e in
        let a = arm_gives tokens o.0 o.1 o.2 in
        let m = more_turn turns (arms_give turns) (found ++ o.0 ∷ []) a.0 (reserved_first a.0) refl all j (subst (λ i. after o.0 i ≡ Ok (all, j)) a.1 o.3) in
        (m.0, m.1, (Arm o.0.0 o.0.1 m.2.0, m.2.1 ∙ append_arms-push found o.0.0 o.0.1 m.2.0, g.arm a.2.2 a.2.3 a.2.4 m.2.2))

    abbrev IsIf : List Token → Command → List Token → Type 0
    IsIf tokens c rest = (a : Arms) × (fi : Token) × IsArms d tokens a (fi ∷ rest) × (reserved_of fi ≡ Some r.Fi) × (If a ≡ c)

    if_gives : Gives IsIf (spec.if_command rule)
    unfolding spec.if_command spec.arms_all append_arms
    if_gives tokens c j e =
        let o = then_gives (ArmsFrom []) (λ a. Then (Takes r.Fi) (λ u. Pure (If a))) (spec.arms_all rule) (λ a. expect r.Fi >>= λ u. spec.pure (If a)) (λ tokens. arms_give (suc (length tokens)) [] tokens)
        (λ a. then_gives (Takes r.Fi) (λ u. Pure (If a)) (expect r.Fi) (λ u. spec.pure (If a)) (expect_gives r.Fi) (λ u. pure_gives (If a))) tokens c j e in
        let arms = o.2 in
        let fi = arms.3 in
        let from : IsArms d tokens arms.0 (fi.2.0 ∷ fi.1) = subst (λ x. IsArms d tokens x (fi.2.0 ∷ fi.1)) (sym arms.2.1) (subst (λ r. IsArms d tokens arms.2.0 r) fi.2.1 arms.2.2) in
        (o.0, o.1, (arms.0, fi.2.0, subst (λ r. IsArms d tokens arms.0 (fi.2.0 ∷ r)) fi.3.1 from, fi.2.2, fi.3.0))

    -- a body, and the loops
    body_gives : Gives (λ tokens b rest. IsBody d tokens b rest) (spec.body_of rule)
    unfolding spec.body_of
    body_gives tokens b j e =
        let o = then_gives (Takes r.Do) (λ u. Then IsBlockHere (λ b. Then (Takes r.Done) (λ u. Pure b))) (expect r.Do) (λ u. spec.block rule >>= λ b. expect r.Done >>= λ u. spec.pure b) (expect_gives r.Do)
        (λ u. then_gives IsBlockHere (λ b. Then (Takes r.Done) (λ u. Pure b)) (spec.block rule) (λ b. expect r.Done >>= λ u. spec.pure b) block_gives
        (λ b. then_gives (Takes r.Done) (λ u. Pure b) (expect r.Done) (λ u. spec.pure b) (expect_gives r.Done) (λ u. pure_gives b))) tokens b j e in
        let begin = o.2 in
        let block = begin.3 in
        let done = block.3 in
        let inside : IsBlock d begin.1 block.0 (done.2.0 ∷ o.0) = subst (λ r. IsBlock d begin.1 block.0 (done.2.0 ∷ r)) done.3.1 (subst (λ r. IsBlock d begin.1 block.0 r) done.2.1 block.2) in
        let whole : IsBody d (begin.2.0 ∷ begin.1) block.0 o.0 = g.body begin.2.2 inside done.2.2 in
        (o.0, o.1, subst (λ x. IsBody d tokens x o.0) done.3.0 (subst (λ l. IsBody d l block.0 o.0) (sym begin.2.1) whole))

    abbrev IsBodyHere : List Token → Script → List Token → Type 0
    IsBodyHere tokens b rest = IsBody d tokens b rest

    abbrev IsLoopOf : Bool → List Token → Command → List Token → Type 0
    IsLoopOf until tokens c rest = (cond : Script) × (body : Script) × IsLoop d tokens cond body rest × (Loop until cond body ≡ c)

    loop_gives : (until : Bool) → Gives (IsLoopOf until) (spec.loop_command until rule)
    unfolding spec.loop_command
    loop_gives until tokens c j e =
        let o = then_gives IsBlockHere (λ a. Then IsBodyHere (λ b. Pure (Loop until a b))) (spec.block rule) (λ a. spec.body_of rule >>= λ b. spec.pure (Loop until a b)) block_gives
        (λ a. then_gives IsBodyHere (λ b. Pure (Loop until a b)) (spec.body_of rule) (λ b. spec.pure (Loop until a b)) body_gives (λ b. pure_gives (Loop until a b))) tokens c j e in
        let cond = o.2 in
        let body = cond.3 in
        (o.0, o.1, (cond.0, body.0, g.loop cond.2 (subst (λ r. IsBody d cond.1 body.0 r) body.3.1 body.2), body.3.0))

    -- `for`
    abbrev IsNamed : List Token → List ℕ → List Token → Type 0
    IsNamed tokens name rest = (t : Token) × (tokens ≡ t ∷ rest) × (name_in t ≡ Some name)

    name_turn : (t : Token) (tokens : List Token) (o : Option (List ℕ)) → name_in t ≡ o → (n : List ℕ) (j : Input) → spec.name_by o (at (t ∷ tokens)) ≡ Ok (n, j) → (rest : List Token) × (j ≡ at rest) × IsNamed (t ∷ tokens) n rest
    unfolding next
    name_turn t tokens None is n j e = absurd (err_not_ok e)
    name_turn t tokens (Some name) is n j e = let p = pure_gives name tokens n j e in (tokens, p.1 ∙ ap at (sym p.2.1), (t, refl, is ∙ ap Some p.2.0))

    name_gives : Gives IsNamed spec.name
    unfolding spec.name spec.name_next
    name_gives [] n j e = absurd (err_not_ok e)
    name_gives (t ∷ tokens) n j e = name_turn t tokens (name_in t) refl n j e

    abbrev IsIn : List Token → Unit {0} → List Token → Type 0
    IsIn tokens u rest = (t : Token) × (tokens ≡ t ∷ rest) × (is_in_word t ≡ true)

    in_gives : Gives IsIn spec.expect_in
    unfolding spec.expect_in spec.in_next next
    in_gives [] u j e = absurd (err_not_ok e)
    in_gives (t ∷ tokens) u j e =
        let p = if_ok (is_in_word t) tt (at tokens) (spec.missing (at (t ∷ tokens))) u j e in
        (tokens, sym p.2, (t, refl, p.0))

    abbrev AreWords : List Token → List Word → List Token → Type 0
    AreWords tokens ws rest = (map word_of (words tokens) ≡ ws) × (past is_word tokens ≡ rest)

    words_give : Gives AreWords spec.all_words
    unfolding spec.all_words behind
    words_give tokens ws j e =
        let p = ok_same _ refl e in
        (past is_word tokens, sym (ap (λ q. q.1) p), (ap (λ q. q.0) p, refl))

    abbrev AreSeparators : List Token → Unit {0} → List Token → Type 0
    AreSeparators tokens u rest = (sep : Token) × (after : List Token) × (tokens ≡ sep ∷ after) × (is_separator sep ≡ true) × (past is_separator after ≡ rest)

    separators_give : Gives AreSeparators spec.separators
    unfolding spec.separators spec.separator_next behind
    separators_give [] u j e = absurd (err_not_ok e)
    separators_give (t ∷ tokens) u j e =
        let p = if_ok (is_separator t) tt (at (past is_separator (t ∷ tokens))) (spec.refusal (at (t ∷ tokens))) u j e in
        let same = ap (λ b. at (past_if b (t ∷ tokens) (past is_separator tokens))) p.0 in
        (past is_separator tokens, sym p.2 ∙ same, (t, tokens, refl, p.0, refl))

    abbrev IsForOf : List Token → Command → List Token → Type 0
    IsForOf tokens c rest = (t : Token) → reserved_of t ≡ Some r.For → IsCommand (suc d) (t ∷ tokens) c rest

    for_gives : Gives IsForOf (spec.for_command rule)
    unfolding spec.for_command
    for_gives tokens c j e =
        let last = λ (n : List ℕ) (ws : List Word). then_gives IsBodyHere (λ b. Pure (For n ws b)) (spec.body_of rule) (λ b. spec.pure (For n ws b)) body_gives (λ b. pure_gives (For n ws b)) in
        let ends = λ (n : List ℕ) (ws : List Word). then_gives AreSeparators (λ u. Then IsBodyHere (λ b. Pure (For n ws b))) spec.separators (λ u. spec.body_of rule >>= λ b. spec.pure (For n ws b)) separators_give (λ u. last n ws) in
        let these = λ (n : List ℕ). then_gives AreWords (λ ws. Then AreSeparators (λ u. Then IsBodyHere (λ b. Pure (For n ws b)))) spec.all_words (λ ws. spec.separators >>= λ u. spec.body_of rule >>= λ b. spec.pure (For n ws b)) words_give (λ ws. ends n ws) in
        let within = λ (n : List ℕ). then_gives IsIn (λ u. Then AreWords (λ ws. Then AreSeparators (λ u. Then IsBodyHere (λ b. Pure (For n ws b))))) spec.expect_in (λ u. spec.all_words >>= λ ws. spec.separators >>= λ u. spec.body_of rule >>= λ b. spec.pure (For n ws b)) in_gives (λ u. these n) in
        let o = then_gives IsNamed (λ n. Then IsIn (λ u. Then AreWords (λ ws. Then AreSeparators (λ u. Then IsBodyHere (λ b. Pure (For n ws b)))))) spec.name (λ n. spec.expect_in >>= λ u. spec.all_words >>= λ ws. spec.separators >>= λ u. spec.body_of rule >>= λ b. spec.pure (For n ws b)) name_gives within tokens c j e in
        let named = o.2 in
        let ins = named.3 in
        let ws = ins.3 in
        let seps = ws.3 in
        let body = seps.3 in
        let whole : (t : Token) → reserved_of t ≡ Some r.For → IsCommand (suc d) (t ∷ named.2.0 ∷ ins.2.0 ∷ ins.1) (For named.0 (map word_of (words ins.1)) body.0) o.0 =
        λ t k. g.for_in ins.1 k named.2.2 ins.2.2 (ws.2.1 ∙ seps.2.2) seps.2.3 (subst (λ l. IsBody d l body.0 o.0) (sym seps.2.4) (subst (λ r. IsBody d seps.1 body.0 r) body.3.1 body.2)) in
        let same : named.2.0 ∷ ins.2.0 ∷ ins.1 ≡ tokens = sym (named.2.1 ∙ ap (λ l. named.2.0 ∷ l) ins.2.1) in
        (o.0, o.1, λ t k. subst (λ x. IsCommand (suc d) (t ∷ tokens) x o.0) (ap (λ w. For named.0 w body.0) ws.2.0 ∙ body.3.0) (subst (λ l. IsCommand (suc d) (t ∷ l) (For named.0 (map word_of (words ins.1)) body.0) o.0) same (whole t k)))

  -- simple commands and assignments
  assigned_ok : (t : Token) (o : Option (List ℕ × List Part)) (more : Result (List (List ℕ × Word)) SyntaxError) (values : List (List ℕ × Word)) → spec.assigned t o more ≡ Ok values → (found : List ℕ × List Part) × (others : List (List ℕ × Word)) × (o ≡ Some found) × (more ≡ Ok others) × (value_of found ∷ others ≡ values)
  assigned_ok t None more values e = absurd (err_not_ok e)
  assigned_ok t (Some found) (Ok others) values e = (found, others, refl, refl, ok_same _ refl e)
  assigned_ok t (Some found) (Err x) values e = absurd (err_not_ok e)

  assignments_give : (tokens : List Token) (values : List (List ℕ × Word)) → spec.assignments tokens ≡ Ok values → AreAssignments tokens values
  unfolding spec.assignments
  assignments_give [] values e = subst (λ v. AreAssignments [] v) (ok_same _ refl e) no_word
  assignments_give (t ∷ tokens) values e =
      let o = assigned_ok t (assignment t.parts) (spec.assignments tokens) values e in
      subst (λ v. AreAssignments (t ∷ tokens) v) o.4 (assigned o.0 o.2 (assignments_give tokens o.1 o.3))

  assign_give : (d : ℕ) (t : Token) (tokens : List Token) → is_word t ≡ true → reserved_of t ≡ None → is_some (assignment t.parts) ≡ true → (v : Result (List (List ℕ × Word)) SyntaxError) → spec.assignments (words (t ∷ tokens)) ≡ v → (c : Command) (j : Input) → spec.assign_by v (at (t ∷ tokens)) ≡ Ok (c, j) → (rest : List Token) × (j ≡ at rest) × IsCommand d (t ∷ tokens) c rest
  unfolding behind
  assign_give d t tokens w k a (Ok values) is c j e =
      let p = ok_same _ refl e in
      (past is_word (t ∷ tokens), sym (ap (λ q. q.1) p), subst (λ x. IsCommand d (t ∷ tokens) x (past is_word (t ∷ tokens))) (ap (λ q. q.0) p) (g.assign t tokens w k a (assignments_give (words (t ∷ tokens)) values is)))
  assign_give d t tokens w k a (Err x) is c j e = absurd (err_not_ok e)

  is_some-none : {A : Type 0} (o : Option A) → is_some o ≡ false → o ≡ None
  is_some-none None e = refl
  is_some-none (Some a) e = absurd (false≢true (sym e))

  simple_turn : (d : ℕ) (t : Token) (tokens : List Token) → reserved_of t ≡ None → (w a : Bool) → is_word t ≡ w → is_some (assignment t.parts) ≡ a → (c : Command) (j : Input) → spec.simple_by w a (at (t ∷ tokens)) ≡ Ok (c, j) → (rest : List Token) × (j ≡ at rest) × IsCommand d (t ∷ tokens) c rest
  unfolding behind
  simple_turn d t tokens k false a w is c j e = absurd (err_not_ok e)
  simple_turn d t tokens k true false w is c j e =
      let p = ok_same _ refl e in
      (past is_word (t ∷ tokens), sym (ap (λ q. q.1) p), subst (λ x. IsCommand d (t ∷ tokens) x (past is_word (t ∷ tokens))) (ap (λ q. q.0) p) (g.simple t tokens w k (is_some-none (assignment t.parts) is)))
  simple_turn d t tokens k true true w is c j e = assign_give d t tokens w k is (spec.assignments (words (t ∷ tokens))) refl c j e

  simple_gives : (d : ℕ) (tokens : List Token) → reserved_first tokens ≡ None → (c : Command) (j : Input) → spec.simple (at tokens) ≡ Ok (c, j) → (rest : List Token) × (j ≡ at rest) × IsCommand d tokens c rest
  unfolding spec.simple spec.word_next spec.assignment_next
  simple_gives d [] k c j e = absurd (err_not_ok e)
  simple_gives d (t ∷ tokens) k c j e = simple_turn d t tokens k (is_word t) (is_some (assignment t.parts)) refl refl c j e

  -- a command, by the levels that are left
  flat_gives : (tokens : List Token) (o : Option Reserved) → reserved_first tokens ≡ o → (c : Command) (j : Input) → spec.flat o (at tokens) ≡ Ok (c, j) → (rest : List Token) × (j ≡ at rest) × IsCommand 0 tokens c rest
  flat_gives tokens None k c j e = simple_gives 0 tokens k c j e
  flat_gives tokens (Some r.If) k c j e = absurd (err_not_ok e)
  flat_gives tokens (Some r.While) k c j e = absurd (err_not_ok e)
  flat_gives tokens (Some r.Until) k c j e = absurd (err_not_ok e)
  flat_gives tokens (Some r.For) k c j e = absurd (err_not_ok e)
  flat_gives tokens (Some word) k c j e = absurd (err_not_ok e)

  compound_gives : (d : ℕ) (ok : (tokens : List Token) (c : Command) (j : Input) → command d (at tokens) ≡ Ok (c, j) → (rest : List Token) × (j ≡ at rest) × IsCommand d tokens c rest) (tokens : List Token) (o : Option Reserved) → reserved_first tokens ≡ o → (c : Command) (j : Input) → spec.compound (command d) o (at tokens) ≡ Ok (c, j) → (rest : List Token) × (j ≡ at rest) × IsCommand (suc d) tokens c rest
  unfolding next
  compound_gives d ok tokens None k c j e = simple_gives (suc d) tokens k c j e
  compound_gives d ok [] (Some word) k c j e = absurd (none-some _ k)
  compound_gives d ok (t ∷ tokens) (Some r.If) k c j e =
      let m = if_gives (command d) d ok tokens c j e in
      (m.0, m.1, subst (λ x. IsCommand (suc d) (t ∷ tokens) x m.0) m.2.4 (g.«if» k m.2.2 m.2.3))
  compound_gives d ok (t ∷ tokens) (Some r.While) k c j e =
      let m = loop_gives (command d) d ok false tokens c j e in
      (m.0, m.1, subst (λ x. IsCommand (suc d) (t ∷ tokens) x m.0) m.2.3 (g.«while» k m.2.2))
  compound_gives d ok (t ∷ tokens) (Some r.Until) k c j e =
      let m = loop_gives (command d) d ok true tokens c j e in
      (m.0, m.1, subst (λ x. IsCommand (suc d) (t ∷ tokens) x m.0) m.2.3 (g.until k m.2.2))
  compound_gives d ok (t ∷ tokens) (Some r.For) k c j e =
      let m = for_gives (command d) d ok tokens c j e in
      (m.0, m.1, m.2 t k)
  compound_gives d ok (t ∷ tokens) (Some word) k c j e = absurd (err_not_ok e)

  pub command_gives : (d : ℕ) (tokens : List Token) (c : Command) (j : Input) → command d (at tokens) ≡ Ok (c, j) → (rest : List Token) × (j ≡ at rest) × IsCommand d tokens c rest
  unfolding command keyword
  command_gives zero tokens c j e = flat_gives tokens (reserved_first tokens) refl c j e
  command_gives (suc d) tokens c j e = compound_gives d (command_gives d) tokens (reserved_first tokens) refl c j e

  -- a whole text
  script_turn : (d : ℕ) (tokens : List Token) (b : Bool) → spec.is_empty (past is_separator tokens) ≡ b → (s : Script) (j : Input) → spec.script_by d b (at (past is_separator tokens)) ≡ Ok (s, j) → j.tokens ≡ [] → (j.end ≡ end) × IsScript d tokens s
  unfolding append_runs spec.lists_all
  script_turn d tokens true is s j e last =
      let p = pure_gives Empty (past is_separator tokens) s j e in
      (ap (λ i. i.end) p.1, subst (λ x. IsScript d tokens x) p.2.0 (no_command (p.2.1 ∙ sym (ap (λ i. i.tokens) p.1) ∙ last)))
  script_turn d tokens false is s j e last =
      let m = lists_give (command d) d (command_gives d) (suc (length (past is_separator tokens))) [] (past is_separator tokens) s j e in
      let none : m.0 ≡ [] = sym (ap (λ i. i.tokens) m.1) ∙ last in
      (ap (λ i. i.end) m.1, commands tokens (subst (λ r. IsLists d (past is_separator tokens) s r) none (subst (λ x. IsLists d (past is_separator tokens) x m.0) (sym m.2.1) m.2.2)))

  script_gives : (d : ℕ) (tokens : List Token) (s : Script) (j : Input) → spec.script d (at tokens) ≡ Ok (s, j) → j.tokens ≡ [] → (j.end ≡ end) × IsScript d tokens s
  unfolding spec.script spec.at_last behind
  script_gives d tokens s j e last = script_turn d tokens (spec.is_empty (past is_separator tokens)) refl s j e last

finish_at_ok : (s : Script) (tokens : List Token) (end : End) (size : ℕ) (t : Script) → spec.finish_at s tokens end size ≡ Ok t → (tokens ≡ []) × (end ≡ Whole) × (s ≡ t)
finish_at_ok s [] Whole size t e = (refl, refl, ok_same _ refl e)
finish_at_ok s [] (Refused x) size t e = absurd (err_not_ok e)
finish_at_ok s (x ∷ tokens) end size t e = absurd (err_not_ok e)

finish_ok : (end : End) (size : ℕ) (d : ℕ) (tokens : List Token) (o : Parsed Script) → spec.script d (at end size tokens) ≡ o → (t : Script) → spec.finish o ≡ Ok t → (end ≡ Whole) × IsScript d tokens t
finish_ok end size d tokens (Err x) is t e = absurd (err_not_ok e)
finish_ok end size d tokens (Ok p) is t e =
    let f = finish_at_ok p.0 p.1.tokens p.1.end p.1.size t e in
    let m = script_gives end size d tokens p.0 p.1 is f.0 in
    (sym m.0 ∙ f.1, subst (λ x. IsScript d tokens x) f.2 m.1)

pub what_is_read_is_a_tree : WhatIsReadIsATree
unfolding spec.whole
what_is_read_is_a_tree depth tokens end s size e = finish_ok end size depth tokens (spec.script depth record { tokens = tokens; end = end; size = size }) refl s e
