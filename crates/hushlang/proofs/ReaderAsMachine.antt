-- The reader does what the machine does: a rule, and then what follows it, has the outcome of the machine for all
-- tokens.
use Rattle.std.proofs.Common.{◌≡◌, ℕ, zero, suc, ◌<◌, ◌≤◌, Bool, true, false, if◌then◌else◌, List, [], ◌∷◌, ◌++◌, length, Option, Some, None, is_some, Result, Ok, Err, refl, ap, sym, ◌∙◌, subst, arith}
use Rattle.std.proofs.lemmas.Bool.{false≢true, true≢false}
use Rattle.std.proofs.lemmas.Option.{none-some}
use Rattle.hushlang.specs.Token.{Token, Part, End, Whole, Refused}
use Rattle.hushlang.specs.Tree.{Script, AndOr, Starts, Command, If, Loop, For, Word}
use Rattle.hushlang.specs.TreesShown.{arms as arms_of}
use Rattle.hushlang.specs.Grammar.{is_word, is_separator, is_newline_token, words, words_if, past, past_if, reserved_of, goes_on, assignment, ends_block, closes_at, name_in, is_in_word}
use Rattle.hushlang.specs.Grammar as g
use Rattle.hushlang.specs.declared.token.Kind.{Kind}
use Rattle.hushlang.specs.declared.token.Kind.TheVariants as kinds
use Rattle.hushlang.proofs.ReadTreesAreDerived.{command_gives, and_or_gives, arm_gives}
use Rattle.hushlang.proofs.RestLengthLemmas.{command_shorter, and_or_shorter, block_shorter, past-shorter}
use Rattle.hushlang.specs.Parsing as spec
use Rattle.hushlang.specs.Parsing.{Input, Parser, Parsed, and_then, command, keyword, next, expect, behind, joined, joined_all, and_or, lists, lists_by, joined_by, more_by, separator_first, reserved_first}
use Rattle.hushlang.proofs.TokenMachine as m
use Rattle.hushlang.proofs.TokenMachine.{Frame, Condition, Consequence, Otherwise, LoopCondition, LoopBody, Phase, Start, Joint, Must, Words, After, Behind, Next, Close, Name, In, Items, Separators, Separated, State, step, ends, run, goes}
use Rattle.hushlang.specs.declared.tree.Op.{Op}
use Rattle.hushlang.specs.declared.token.SyntaxError.{SyntaxError}
use Rattle.hushlang.specs.declared.token.SyntaxError.TheVariants.{Unexpected, MissingWord}
use Rattle.hushlang.specs.declared.words.Reserved.{Reserved}
use Rattle.hushlang.specs.declared.words.Reserved.TheVariants as r
use Rattle.hushlang.proofs.SkippedTokenLemmas.{past_first}

abbrev Done : Type 0
Done = Result (Unit {0}) SyntaxError

-- what follows a rule
abbrev then_goes : {A : Type 0} → Parsed A → (Input → Done) → Done
then_goes (Ok p) more = more p.1
then_goes (Err e) more = Err e

abbrev on : ℕ → Phase → List Frame → Input → Done
on d p k i = run i.tokens i.end i.size record { left = d; phase = p; open_frames = k }

abbrev Leads : {A : Type 0} → Parser A → (last first : Input → Done) → Type 0
Leads p last first = (i : Input) → then_goes (p i) last ≡ first i

joins : {A B : Type 0} (o : Parsed A) (f : A → Parser B) (last mid : Input → Done) → ((a : A) → Leads (f a) last mid) → then_goes (and_then o f) last ≡ then_goes o mid
joins (Ok p) f last mid h = h p.0 p.1
joins (Err e) f last mid h = refl

pub leads_then : {A B : Type 0} (p : Parser A) (f : A → Parser B) (last mid first : Input → Done) → Leads p mid first → ((a : A) → Leads (f a) last mid) → Leads (λ i. and_then (p i) f) last first
leads_then p f last mid first hp hf i = joins (p i) f last mid hf ∙ hp i

-- ---- separators and newlines

start_if : (b : Bool) (d : ℕ) (k : List Frame) (t : Token) (tokens : List Token) (end : End) (size : ℕ) → run (past is_separator tokens) end size record { left = d; phase = Must; open_frames = k } ≡ run tokens end size record { left = d; phase = Start; open_frames = k } → run (past_if b (t ∷ tokens) (past is_separator tokens)) end size record { left = d; phase = Must; open_frames = k } ≡ goes (if b then m.to d Start k else m.begin d k (reserved_of t) t) (run tokens end size)
unfolding run step
start_if true d k t tokens end size h = h
start_if false d k t tokens end size h = refl

start_skips : (d : ℕ) (f : Frame) (k : List Frame) (tokens : List Token) (end : End) (size : ℕ) → run (past is_separator tokens) end size record { left = d; phase = Must; open_frames = f ∷ k } ≡ run tokens end size record { left = d; phase = Start; open_frames = f ∷ k }
unfolding run step ends
start_skips d f k [] end size = refl
start_skips d f k (t ∷ tokens) end size = start_if (is_separator t) d (f ∷ k) t tokens end size (start_skips d f k tokens end size)

joint_if : (b : Bool) (d : ℕ) (k : List Frame) (t : Token) (tokens : List Token) (end : End) (size : ℕ) → run (past is_newline_token tokens) end size record { left = d; phase = Must; open_frames = k } ≡ run tokens end size record { left = d; phase = Joint; open_frames = k } → run (past_if b (t ∷ tokens) (past is_newline_token tokens)) end size record { left = d; phase = Must; open_frames = k } ≡ goes (if b then m.to d Joint k else m.begin d k (reserved_of t) t) (run tokens end size)
unfolding run step
joint_if true d k t tokens end size h = h
joint_if false d k t tokens end size h = refl

joint_skips : (d : ℕ) (k : List Frame) (tokens : List Token) (end : End) (size : ℕ) → run (past is_newline_token tokens) end size record { left = d; phase = Must; open_frames = k } ≡ run tokens end size record { left = d; phase = Joint; open_frames = k }
unfolding run step ends
joint_skips d k [] end size = refl
joint_skips d k (t ∷ tokens) end size = joint_if (is_newline_token t) d k t tokens end size (joint_skips d k tokens end size)

-- after a separator: the end of the block, or a further list
next_if : (b : Bool) (d : ℕ) (k : List Frame) (t : Token) (tokens : List Token) (end : End) (size : ℕ) → run (past is_separator tokens) end size record { left = d; phase = Next; open_frames = k } ≡ run tokens end size record { left = d; phase = Next; open_frames = k } → b ≡ is_separator t → run (past_if b (t ∷ tokens) (past is_separator tokens)) end size record { left = d; phase = Next; open_frames = k } ≡ run (t ∷ tokens) end size record { left = d; phase = Next; open_frames = k }
unfolding run step
next_if true d k t tokens end size h e = h ∙ ap (λ b. goes (if b then m.to d Next k else m.another d k (closes_at (reserved_of t)) t) (run tokens end size)) e
next_if false d k t tokens end size h e = refl

next_skips : (d : ℕ) (k : List Frame) (tokens : List Token) (end : End) (size : ℕ) → run (past is_separator tokens) end size record { left = d; phase = Next; open_frames = k } ≡ run tokens end size record { left = d; phase = Next; open_frames = k }
next_skips d k [] end size = refl
next_skips d k (t ∷ tokens) end size = next_if (is_separator t) d k t tokens end size (next_skips d k tokens end size) refl

-- ---- tests of tokens

closes_kind : (kind : Kind) (parts : List Part) → closes_at (g.reserved_if kind parts) ≡ true → g.separates kind ≡ false
closes_kind kinds.Word parts e = refl
closes_kind kinds.Semi parts e = absurd (false≢true e)
closes_kind kinds.Newline parts e = absurd (false≢true e)
closes_kind kinds.AndAnd parts e = refl
closes_kind kinds.OrOr parts e = refl

-- a closing word is not a separator
closes_apart : (t : Token) → closes_at (reserved_of t) ≡ true → is_separator t ≡ false
unfolding reserved_of
closes_apart t e = closes_kind t.kind t.parts e

-- ---- the end of the tokens, or a closing word

ends_behind : (k : List Frame) (end : End) (size : ℕ) → ends Behind k end size ≡ ends After k end size
unfolding ends
ends_behind [] end size = refl
ends_behind (f ∷ k) end size = refl

ends_close : (k : List Frame) (end : End) (size : ℕ) → ends Close k end size ≡ ends Behind k end size
unfolding ends
ends_close [] end size = refl
ends_close (f ∷ k) end size = refl

ends_next : (k : List Frame) (end : End) (size : ℕ) → ends Close k end size ≡ ends Next k end size
unfolding ends
ends_next [] end size = refl
ends_next (f ∷ k) end size = refl

behind_after : (d : ℕ) (k : List Frame) (tokens : List Token) (end : End) (size : ℕ) → goes_on tokens ≡ None → run tokens end size record { left = d; phase = Behind; open_frames = k } ≡ run tokens end size record { left = d; phase = After; open_frames = k }
unfolding run step
behind_after d k [] end size e = ends_behind k end size
behind_after d k (t ∷ tokens) end size e = ap (λ o. goes (m.after_command d k o t) (run tokens end size)) (sym e)

close_next : (d : ℕ) (k : List Frame) (tokens : List Token) (end : End) (size : ℕ) → ends_block tokens ≡ true → run tokens end size record { left = d; phase = Close; open_frames = k } ≡ run tokens end size record { left = d; phase = Next; open_frames = k }
unfolding run step
close_next d k [] end size e = ends_next k end size
close_next d k (t ∷ tokens) end size e =
    ap (λ b. goes (m.another d k b t) (run tokens end size)) (sym e) ∙ ap (λ b. goes (if b then m.to d Next k else m.another d k (closes_at (reserved_of t)) t) (run tokens end size)) (sym (closes_apart t e))

must_next : (d : ℕ) (k : List Frame) (t : Token) (tokens : List Token) (end : End) (size : ℕ) → is_separator t ≡ false → closes_at (reserved_of t) ≡ false → run (t ∷ tokens) end size record { left = d; phase = Must; open_frames = k } ≡ run (t ∷ tokens) end size record { left = d; phase = Next; open_frames = k }
unfolding run step
must_next d k t tokens end size s e =
    ap (λ b. goes (m.another d k b t) (run tokens end size)) (sym e) ∙ ap (λ b. goes (if b then m.to d Next k else m.another d k (closes_at (reserved_of t)) t) (run tokens end size)) (sym s)

must_row : (d : ℕ) (k : List Frame) (tokens row : List Token) (end : End) (size : ℕ) → past is_separator tokens ≡ row → ends_block row ≡ false → run row end size record { left = d; phase = Must; open_frames = k } ≡ run row end size record { left = d; phase = Next; open_frames = k }
must_row d k tokens [] end size e b = absurd (true≢false b)
must_row d k tokens (t ∷ row) end size e b = must_next d k t row end size (past_first is_separator tokens t row e) b

-- after the last and-or list
last_if : (b : Bool) (d : ℕ) (k : List Frame) (t : Token) (tokens : List Token) (end : End) (size : ℕ) → ends_block (past_if b (t ∷ tokens) (past is_separator tokens)) ≡ true → run (past_if b (t ∷ tokens) (past is_separator tokens)) end size record { left = d; phase = Close; open_frames = k } ≡ goes (m.behind_list d k b t) (run tokens end size)
unfolding run step
last_if true d k t tokens end size e = close_next d k (past is_separator tokens) end size e ∙ next_skips d k tokens end size
last_if false d k t tokens end size e = refl

behind_last : (d : ℕ) (k : List Frame) (t : Token) (tokens : List Token) (end : End) (size : ℕ) (b : Bool) → is_separator t ≡ b → ends_block (past is_separator (t ∷ tokens)) ≡ true → run (past is_separator (t ∷ tokens)) end size record { left = d; phase = Close; open_frames = k } ≡ run (t ∷ tokens) end size record { left = d; phase = Behind; open_frames = k }
unfolding run step
behind_last d k t tokens end size b is e = last_if (is_separator t) d k t tokens end size e

none_left : (tokens : List Token) → length tokens ≤ 0 → goes_on tokens ≡ None
none_left [] h = refl
none_left (t ∷ tokens) h = absurd (omega (arith, h))

-- ---- joined commands, and-or lists

joins_ok : {A B : Type 0} (o : Parsed A) (f : A → Parser B) (last mid : Input → Done) → ((a : A) (j : Input) → o ≡ Ok (a, j) → then_goes (f a j) last ≡ mid j) → then_goes (and_then o f) last ≡ then_goes o mid
joins_ok (Ok p) f last mid h = h p.0 p.1 refl
joins_ok (Err e) f last mid h = refl

rule_shorter : (d : ℕ) (i : Input) (c : Command) (j : Input) → command d i ≡ Ok (c, j) → length j.tokens < length i.tokens
rule_shorter d i c j e =
    let p = command_gives i.end i.size d i.tokens c j e in
    let s = command_shorter p.2 in
    let same : j.tokens ≡ p.0 = ap (λ i. i.tokens) p.1 in
    subst (λ l. length l < length i.tokens) (sym same) s

list_shorter : (d : ℕ) (i : Input) (a : AndOr) (j : Input) → and_or (command d) i ≡ Ok (a, j) → length j.tokens < length i.tokens
list_shorter d i a j e =
    let p = and_or_gives i.end i.size (command d) d (command_gives i.end i.size d) i.tokens a j e in
    let s = and_or_shorter p.2 in
    let same : j.tokens ≡ p.0 = ap (λ i. i.tokens) p.1 in
    subst (λ l. length l < length i.tokens) (sym same) s

then_if : (d : ℕ) (k : List Frame) (t : Token) (tokens : List Token) (end : End) (size : ℕ) (o : Option Reserved) → then_goes {A = Unit {0}} (if spec.is_keyword r.Then o then Ok (tt, record { tokens = tokens; end = end; size = size }) else Err (Unexpected t.start)) (on d Start (Consequence ∷ k)) ≡ goes (m.close d (Condition ∷ k) o t) (run tokens end size)
then_if d k t tokens end size None = refl
then_if d k t tokens end size (Some r.If) = refl
then_if d k t tokens end size (Some r.Then) = refl
then_if d k t tokens end size (Some r.Elif) = refl
then_if d k t tokens end size (Some r.Else) = refl
then_if d k t tokens end size (Some r.Fi) = refl
then_if d k t tokens end size (Some r.For) = refl
then_if d k t tokens end size (Some r.While) = refl
then_if d k t tokens end size (Some r.Until) = refl
then_if d k t tokens end size (Some r.Do) = refl
then_if d k t tokens end size (Some r.Done) = refl

then_at : (d : ℕ) (k : List Frame) (tokens : List Token) (end : End) (size : ℕ) → then_goes (expect r.Then record { tokens = tokens; end = end; size = size }) (on d Start (Consequence ∷ k)) ≡ run tokens end size record { left = d; phase = Close; open_frames = Condition ∷ k }
unfolding run step ends expect spec.sees keyword next spec.refusal
then_at d k [] end size = refl
then_at d k (t ∷ tokens) end size = then_if d k t tokens end size (reserved_of t)

then_leads : (d : ℕ) (k : List Frame) → Leads (expect r.Then) (on d Start (Consequence ∷ k)) (on d Close (Condition ∷ k))
then_leads d k i = then_at d k i.tokens i.end i.size

fi_if : (d : ℕ) (k : List Frame) (t : Token) (tokens : List Token) (end : End) (size : ℕ) (o : Option Reserved) → then_goes {A = Unit {0}} (if spec.is_keyword r.Fi o then Ok (tt, record { tokens = tokens; end = end; size = size }) else Err (Unexpected t.start)) (on (suc d) After k) ≡ goes (m.close d (Otherwise ∷ k) o t) (run tokens end size)
fi_if d k t tokens end size None = refl
fi_if d k t tokens end size (Some r.If) = refl
fi_if d k t tokens end size (Some r.Then) = refl
fi_if d k t tokens end size (Some r.Elif) = refl
fi_if d k t tokens end size (Some r.Else) = refl
fi_if d k t tokens end size (Some r.Fi) = refl
fi_if d k t tokens end size (Some r.For) = refl
fi_if d k t tokens end size (Some r.While) = refl
fi_if d k t tokens end size (Some r.Until) = refl
fi_if d k t tokens end size (Some r.Do) = refl
fi_if d k t tokens end size (Some r.Done) = refl

fi_at : (d : ℕ) (k : List Frame) (tokens : List Token) (end : End) (size : ℕ) → then_goes (expect r.Fi record { tokens = tokens; end = end; size = size }) (on (suc d) After k) ≡ run tokens end size record { left = d; phase = Close; open_frames = Otherwise ∷ k }
unfolding run step ends expect spec.sees keyword next spec.refusal
fi_at d k [] end size = refl
fi_at d k (t ∷ tokens) end size = fi_if d k t tokens end size (reserved_of t)

fi_leads : (d : ℕ) (k : List Frame) → Leads (expect r.Fi) (on (suc d) After k) (on d Close (Otherwise ∷ k))
fi_leads d k i = fi_at d k i.tokens i.end i.size

do_if : (d : ℕ) (k : List Frame) (t : Token) (tokens : List Token) (end : End) (size : ℕ) (o : Option Reserved) → then_goes {A = Unit {0}} (if spec.is_keyword r.Do o then Ok (tt, record { tokens = tokens; end = end; size = size }) else Err (Unexpected t.start)) (on d Start (LoopBody ∷ k)) ≡ goes (m.close d (LoopCondition ∷ k) o t) (run tokens end size)
do_if d k t tokens end size None = refl
do_if d k t tokens end size (Some r.If) = refl
do_if d k t tokens end size (Some r.Then) = refl
do_if d k t tokens end size (Some r.Elif) = refl
do_if d k t tokens end size (Some r.Else) = refl
do_if d k t tokens end size (Some r.Fi) = refl
do_if d k t tokens end size (Some r.For) = refl
do_if d k t tokens end size (Some r.While) = refl
do_if d k t tokens end size (Some r.Until) = refl
do_if d k t tokens end size (Some r.Do) = refl
do_if d k t tokens end size (Some r.Done) = refl

do_at : (d : ℕ) (k : List Frame) (tokens : List Token) (end : End) (size : ℕ) → then_goes (expect r.Do record { tokens = tokens; end = end; size = size }) (on d Start (LoopBody ∷ k)) ≡ run tokens end size record { left = d; phase = Close; open_frames = LoopCondition ∷ k }
unfolding run step ends expect spec.sees keyword next spec.refusal
do_at d k [] end size = refl
do_at d k (t ∷ tokens) end size = do_if d k t tokens end size (reserved_of t)

do_leads : (d : ℕ) (k : List Frame) → Leads (expect r.Do) (on d Start (LoopBody ∷ k)) (on d Close (LoopCondition ∷ k))
do_leads d k i = do_at d k i.tokens i.end i.size

done_if : (d : ℕ) (k : List Frame) (t : Token) (tokens : List Token) (end : End) (size : ℕ) (o : Option Reserved) → then_goes {A = Unit {0}} (if spec.is_keyword r.Done o then Ok (tt, record { tokens = tokens; end = end; size = size }) else Err (Unexpected t.start)) (on (suc d) After k) ≡ goes (m.close d (LoopBody ∷ k) o t) (run tokens end size)
done_if d k t tokens end size None = refl
done_if d k t tokens end size (Some r.If) = refl
done_if d k t tokens end size (Some r.Then) = refl
done_if d k t tokens end size (Some r.Elif) = refl
done_if d k t tokens end size (Some r.Else) = refl
done_if d k t tokens end size (Some r.Fi) = refl
done_if d k t tokens end size (Some r.For) = refl
done_if d k t tokens end size (Some r.While) = refl
done_if d k t tokens end size (Some r.Until) = refl
done_if d k t tokens end size (Some r.Do) = refl
done_if d k t tokens end size (Some r.Done) = refl

done_at : (d : ℕ) (k : List Frame) (tokens : List Token) (end : End) (size : ℕ) → then_goes (expect r.Done record { tokens = tokens; end = end; size = size }) (on (suc d) After k) ≡ run tokens end size record { left = d; phase = Close; open_frames = LoopBody ∷ k }
unfolding run step ends expect spec.sees keyword next spec.refusal
done_at d k [] end size = refl
done_at d k (t ∷ tokens) end size = done_if d k t tokens end size (reserved_of t)

done_leads : (d : ℕ) (k : List Frame) → Leads (expect r.Done) (on (suc d) After k) (on d Close (LoopBody ∷ k))
done_leads d k i = done_at d k i.tokens i.end i.size

-- ---- the parts of a `for`

name_if : (d : ℕ) (k : List Frame) (t : Token) (tokens : List Token) (end : End) (size : ℕ) (o : Option (List ℕ)) → then_goes (spec.name_by o record { tokens = t ∷ tokens; end = end; size = size }) (on d In k) ≡ goes (m.named d k (is_some o) t) (run tokens end size)
unfolding next spec.missing
name_if d k t tokens end size None = refl
name_if d k t tokens end size (Some n) = refl

name_at : (d : ℕ) (k : List Frame) (tokens : List Token) (end : End) (size : ℕ) → then_goes (spec.name record { tokens = tokens; end = end; size = size }) (on d In k) ≡ run tokens end size record { left = d; phase = Name; open_frames = k }
unfolding run step ends spec.name spec.name_next spec.missing
name_at d k [] end size = refl
name_at d k (t ∷ tokens) end size = name_if d k t tokens end size (name_in t)

in_if : (d : ℕ) (k : List Frame) (t : Token) (tokens : List Token) (end : End) (size : ℕ) (b : Bool) → then_goes {A = Unit {0}} (if b then Ok (tt, record { tokens = tokens; end = end; size = size }) else Err (MissingWord t.start)) (on d Items k) ≡ goes (m.with_in d k b t) (run tokens end size)
in_if d k t tokens end size true = refl
in_if d k t tokens end size false = refl

in_at : (d : ℕ) (k : List Frame) (tokens : List Token) (end : End) (size : ℕ) → then_goes (spec.expect_in record { tokens = tokens; end = end; size = size }) (on d Items k) ≡ run tokens end size record { left = d; phase = In; open_frames = k }
unfolding run step ends spec.expect_in spec.in_next spec.missing next
in_at d k [] end size = refl
in_at d k (t ∷ tokens) end size = in_if d k t tokens end size (is_in_word t)

items_if : (b : Bool) (d : ℕ) (k : List Frame) (t : Token) (tokens : List Token) (end : End) (size : ℕ) → run (past is_word tokens) end size record { left = d; phase = Separators; open_frames = k } ≡ run tokens end size record { left = d; phase = Items; open_frames = k } → run (past_if b (t ∷ tokens) (past is_word tokens)) end size record { left = d; phase = Separators; open_frames = k } ≡ goes (m.item d k b (is_separator t) t) (run tokens end size)
unfolding run step
items_if true d k t tokens end size h = h
items_if false d k t tokens end size h = refl

items_skip : (d : ℕ) (k : List Frame) (tokens : List Token) (end : End) (size : ℕ) → run (past is_word tokens) end size record { left = d; phase = Separators; open_frames = k } ≡ run tokens end size record { left = d; phase = Items; open_frames = k }
unfolding run step ends
items_skip d k [] end size = refl
items_skip d k (t ∷ tokens) end size = items_if (is_word t) d k t tokens end size (items_skip d k tokens end size)

words_lead : (d : ℕ) (k : List Frame) → Leads spec.all_words (on d Separators k) (on d Items k)
unfolding spec.all_words behind
words_lead d k i = items_skip d k i.tokens i.end i.size

separated_if : (b : Bool) (d : ℕ) (k : List Frame) (t : Token) (tokens : List Token) (end : End) (size : ℕ) → run (past is_separator tokens) end size record { left = d; phase = Close; open_frames = k } ≡ run tokens end size record { left = d; phase = Separated; open_frames = k } → run (past_if b (t ∷ tokens) (past is_separator tokens)) end size record { left = d; phase = Close; open_frames = k } ≡ goes (if b then m.to d Separated k else m.close d k (reserved_of t) t) (run tokens end size)
unfolding run step
separated_if true d k t tokens end size h = h
separated_if false d k t tokens end size h = refl

separated_skip : (d : ℕ) (f : Frame) (k : List Frame) (tokens : List Token) (end : End) (size : ℕ) → run (past is_separator tokens) end size record { left = d; phase = Close; open_frames = f ∷ k } ≡ run tokens end size record { left = d; phase = Separated; open_frames = f ∷ k }
unfolding run step ends
separated_skip d f k [] end size = refl
separated_skip d f k (t ∷ tokens) end size = separated_if (is_separator t) d (f ∷ k) t tokens end size (separated_skip d f k tokens end size)

separators_if : (b : Bool) (d : ℕ) (f : Frame) (k : List Frame) (t : Token) (tokens : List Token) (end : End) (size : ℕ) → then_goes {A = Unit {0}} (if b then Ok (tt, record { tokens = past_if b (t ∷ tokens) (past is_separator tokens); end = end; size = size }) else Err (Unexpected t.start)) (on d Close (f ∷ k)) ≡ goes (m.item d (f ∷ k) false b t) (run tokens end size)
separators_if true d f k t tokens end size = separated_skip d f k tokens end size
separators_if false d f k t tokens end size = refl

separators_at : (d : ℕ) (f : Frame) (k : List Frame) (tokens : List Token) (end : End) (size : ℕ) → then_goes (spec.separators record { tokens = tokens; end = end; size = size }) (on d Close (f ∷ k)) ≡ run tokens end size record { left = d; phase = Separators; open_frames = f ∷ k }
unfolding run step ends spec.separators spec.separator_next behind spec.refusal
separators_at d f k [] end size = refl
separators_at d f k (t ∷ tokens) end size = separators_if (is_separator t) d f k t tokens end size

-- ---- simple commands and assignments

ends_words : (assigns : Bool) (k : List Frame) (end : End) (size : ℕ) → ends After k end size ≡ ends (Words assigns) k end size
unfolding ends
ends_words assigns [] end size = refl
ends_words assigns (f ∷ k) end size = refl

words_if_skip : (b : Bool) (d : ℕ) (k : List Frame) (t : Token) (tokens : List Token) (end : End) (size : ℕ) → run (past is_word tokens) end size record { left = d; phase = After; open_frames = k } ≡ run tokens end size record { left = d; phase = Words false; open_frames = k } → run (past_if b (t ∷ tokens) (past is_word tokens)) end size record { left = d; phase = After; open_frames = k } ≡ goes (m.further d k b false (is_some (assignment t.parts)) t) (run tokens end size)
unfolding run step
words_if_skip true d k t tokens end size h = h
words_if_skip false d k t tokens end size h = refl

words_skip : (d : ℕ) (k : List Frame) (tokens : List Token) (end : End) (size : ℕ) → run (past is_word tokens) end size record { left = d; phase = After; open_frames = k } ≡ run tokens end size record { left = d; phase = Words false; open_frames = k }
unfolding run step
words_skip d k [] end size = ends_words false k end size
words_skip d k (t ∷ tokens) end size = words_if_skip (is_word t) d k t tokens end size (words_skip d k tokens end size)

abbrev if_assigned : Result (List (List ℕ × Word)) SyntaxError → Done → Done
if_assigned (Ok values) more = more
if_assigned (Err e) more = Err e

assigned_one : (d : ℕ) (k : List Frame) (t : Token) (tokens : List Token) (end : End) (size : ℕ) (o : Option (List ℕ × List Part)) (values : Result (List (List ℕ × Word)) SyntaxError) (more : Done) → if_assigned values more ≡ run tokens end size record { left = d; phase = Words true; open_frames = k } → if_assigned (spec.assigned t o values) more ≡ goes (m.further d k true true (is_some o) t) (run tokens end size)
assigned_one d k t tokens end size None values more h = refl
assigned_one d k t tokens end size (Some found) (Ok values) more h = h
assigned_one d k t tokens end size (Some found) (Err e) more h = h

assign_if : (b : Bool) (d : ℕ) (k : List Frame) (t : Token) (tokens : List Token) (end : End) (size : ℕ) → if_assigned (spec.assignments (words tokens)) (run (past is_word tokens) end size record { left = d; phase = After; open_frames = k }) ≡ run tokens end size record { left = d; phase = Words true; open_frames = k } → if_assigned (spec.assignments (words_if b t (words tokens))) (run (past_if b (t ∷ tokens) (past is_word tokens)) end size record { left = d; phase = After; open_frames = k }) ≡ goes (m.further d k b true (is_some (assignment t.parts)) t) (run tokens end size)
unfolding run step spec.assignments
assign_if true d k t tokens end size h = assigned_one d k t tokens end size (assignment t.parts) (spec.assignments (words tokens)) (run (past is_word tokens) end size record { left = d; phase = After; open_frames = k }) h
assign_if false d k t tokens end size h = refl

assign_skip : (d : ℕ) (k : List Frame) (tokens : List Token) (end : End) (size : ℕ) → if_assigned (spec.assignments (words tokens)) (run (past is_word tokens) end size record { left = d; phase = After; open_frames = k }) ≡ run tokens end size record { left = d; phase = Words true; open_frames = k }
unfolding run step spec.assignments
assign_skip d k [] end size = ends_words true k end size
assign_skip d k (t ∷ tokens) end size = assign_if (is_word t) d k t tokens end size (assign_skip d k tokens end size)

assign_by_goes : (d : ℕ) (k : List Frame) (i : Input) (values : Result (List (List ℕ × Word)) SyntaxError) → then_goes (spec.assign_by values i) (on d After k) ≡ if_assigned values (on d After k (behind is_word i))
assign_by_goes d k i (Ok values) = refl
assign_by_goes d k i (Err e) = refl

simple_turn : (d : ℕ) (k : List Frame) (t : Token) (tokens : List Token) (end : End) (size : ℕ) (w a : Bool) → is_word t ≡ w → is_some (assignment t.parts) ≡ a → then_goes (spec.simple_by w a record { tokens = t ∷ tokens; end = end; size = size }) (on d After k) ≡ goes (m.first_word d k w a t) (run tokens end size)
unfolding run step behind spec.refusal
simple_turn d k t tokens end size false a w e = refl
simple_turn d k t tokens end size true false w e = words_skip d k (t ∷ tokens) end size ∙ ap (λ b. goes (m.further d k b false (is_some (assignment t.parts)) t) (run tokens end size)) w
simple_turn d k t tokens end size true true w e =
    assign_by_goes d k record { tokens = t ∷ tokens; end = end; size = size } (spec.assignments (words (t ∷ tokens))) ∙ assign_skip d k (t ∷ tokens) end size
    ∙ ap (λ b. goes (m.further d k b true (is_some (assignment t.parts)) t) (run tokens end size)) w ∙ ap (λ b. goes (m.further d k true true b t) (run tokens end size)) e

simple_leads : (d : ℕ) (k : List Frame) (tokens : List Token) (end : End) (size : ℕ) → reserved_first tokens ≡ None → then_goes (spec.simple record { tokens = tokens; end = end; size = size }) (on d After k) ≡ run tokens end size record { left = d; phase = Must; open_frames = k }
unfolding run step ends spec.simple spec.word_next spec.assignment_next spec.refusal
simple_leads d k [] end size e = refl
simple_leads d k (t ∷ tokens) end size e =
    simple_turn d k t tokens end size (is_word t) (is_some (assignment t.parts)) refl refl ∙ ap (λ o. goes (m.begin d k o t) (run tokens end size)) (sym e)

arm_shorter : (d : ℕ) (i : Input) (a : Script × Script) (j : Input) → spec.arm (command d) i ≡ Ok (a, j) → length j.tokens < length i.tokens
arm_shorter d i a j e =
    let p = arm_gives i.end i.size (command d) d (command_gives i.end i.size d) i.tokens a j e in
    let s = block_shorter p.2.2 in
    let t = block_shorter p.2.4 in
    let less : length p.0 < length i.tokens = omega arith in
    let same : j.tokens ≡ p.0 = ap (λ i. i.tokens) p.1 in
    subst (λ l. length l < length i.tokens) (sym same) less

module _ (d : ℕ) (leads : (k : List Frame) → Leads (command d) (on d After k) (on d Must k)) where
  abbrev rule : Parser Command
  rule = command d

  joined_turn : (k : List Frame) (turns : ℕ) (ih : (found : List (Op × Command)) (i : Input) → length i.tokens ≤ turns → then_goes (joined rule turns found i) (on d Behind k) ≡ on d After k i) (found : List (Op × Command)) (tokens : List Token) (end : End) (size : ℕ) (o : Option Op) → goes_on tokens ≡ o → length tokens ≤ suc turns → then_goes (joined_by rule (joined rule turns) found o record { tokens = tokens; end = end; size = size }) (on d Behind k) ≡ run tokens end size record { left = d; phase = After; open_frames = k }
  unfolding run step next behind
  joined_turn k turns ih found tokens end size None e h = behind_after d k tokens end size e
  joined_turn k turns ih found [] end size (Some op) e h = absurd (none-some _ e)
  joined_turn k turns ih found (t ∷ tokens) end size (Some op) e h =
      let i : Input = record { tokens = past is_newline_token tokens; end = end; size = size } in
      let p = past-shorter is_newline_token tokens in
      joins_ok (rule i) (λ c. joined rule turns (found ++ (op, c) ∷ [])) (on d Behind k) (on d After k) (λ c j is. let s = rule_shorter d i c j is in ih (found ++ (op, c) ∷ []) j (omega arith))
      ∙ leads k i ∙ joint_skips d k tokens end size ∙ ap (λ o. goes (m.after_command d k o t) (run tokens end size)) (sym e)

  joined_leads : (k : List Frame) (turns : ℕ) (found : List (Op × Command)) (i : Input) → length i.tokens ≤ turns → then_goes (joined rule turns found i) (on d Behind k) ≡ on d After k i
  unfolding joined spec.op_next
  joined_leads k zero found i h = behind_after d k i.tokens i.end i.size (none_left i.tokens h)
  joined_leads k (suc turns) found i h = joined_turn k turns (joined_leads k turns) found i.tokens i.end i.size (goes_on i.tokens) refl h

  and_or_leads : (k : List Frame) → Leads (and_or rule) (on d Behind k) (on d Must k)
  unfolding and_or joined_all
  and_or_leads k i = leads_then rule (λ c. λ j. and_then (joined_all rule j) (λ x. spec.pure (Starts c x))) (on d Behind k) (on d After k) (on d Must k) (leads k)
      (λ c. leads_then (joined_all rule) (λ x. spec.pure (Starts c x)) (on d Behind k) (on d Behind k) (on d After k) (λ j. joined_leads k (length j.tokens) [] j (omega arith)) (λ x j. refl)) i

  lists_turn : (k : List Frame) (turns : ℕ) (ih : (found : List AndOr) (i : Input) → length i.tokens < turns → then_goes (lists rule turns found i) (on d Close k) ≡ on d Must k i) (found : List AndOr) (tokens : List Token) (end : End) (size : ℕ) (separated last : Bool) → separator_first tokens ≡ separated → ends_block (past is_separator tokens) ≡ last → length tokens ≤ turns → then_goes (lists_by (lists rule turns found) found separated last record { tokens = tokens; end = end; size = size }) (on d Close k) ≡ run tokens end size record { left = d; phase = Behind; open_frames = k }
  unfolding run step next behind spec.refusal
  lists_turn k turns ih found [] end size separated true s e h = ends_close k end size
  lists_turn k turns ih found (t ∷ tokens) end size separated true s e h = behind_last d k t tokens end size (is_separator t) refl e
  lists_turn k turns ih found [] end size separated false s e h = absurd (true≢false e)
  lists_turn k turns ih found (t ∷ tokens) end size true false s e h =
      let p = past-shorter is_separator tokens in
      let row = past is_separator tokens in
      let open_row : ends_block row ≡ false = ap (λ b. ends_block (past_if b (t ∷ tokens) row)) (sym s) ∙ e in
      ap (λ b. then_goes (lists rule turns found record { tokens = past_if b (t ∷ tokens) row; end = end; size = size }) (on d Close k)) s
      ∙ ih found record { tokens = row; end = end; size = size } (omega arith) ∙ must_row d k tokens row end size refl open_row ∙ next_skips d k tokens end size
      ∙ ap (λ b. goes (m.behind_list d k b t) (run tokens end size)) (sym s)
  lists_turn k turns ih found (t ∷ tokens) end size false false s e h =
      let closed : closes_at (reserved_of t) ≡ false = ap (λ b. ends_block (past_if b (t ∷ tokens) (past is_separator tokens))) (sym s) ∙ e in
      ap (λ b. goes (if b then m.close_by d k (reserved_of t) t else m.unexpected t) (run tokens end size)) (sym closed) ∙ ap (λ b. goes (m.behind_list d k b t) (run tokens end size)) (sym s)

  lists_lead : (k : List Frame) (turns : ℕ) (found : List AndOr) (i : Input) → length i.tokens < turns → then_goes (lists rule turns found i) (on d Close k) ≡ on d Must k i
  unfolding lists spec.separator_next spec.closes_next behind
  lists_lead k zero found i h = absurd (omega (arith, h))
  lists_lead k (suc turns) found i h =
      joins_ok (and_or rule i) (λ a. λ i. lists_by (lists rule turns (found ++ a ∷ [])) (found ++ a ∷ []) (separator_first i.tokens) (ends_block (past is_separator i.tokens)) i) (on d Close k) (on d Behind k)
      (λ a j is. let s = list_shorter d i a j is in lists_turn k turns (lists_lead k turns) (found ++ a ∷ []) j.tokens j.end j.size (separator_first j.tokens) (ends_block (past is_separator j.tokens)) refl refl (omega arith))
      ∙ and_or_leads k i

  block_leads : (f : Frame) (k : List Frame) → Leads (spec.block rule) (on d Close (f ∷ k)) (on d Start (f ∷ k))
  unfolding spec.block spec.lists_all behind
  block_leads f k i = lists_lead (f ∷ k) (suc (length (past is_separator i.tokens))) [] record i { tokens = past is_separator i.tokens } (omega arith) ∙ start_skips d f k i.tokens i.end i.size

  arm_leads : (k : List Frame) → Leads (spec.arm rule) (on d Close (Consequence ∷ k)) (on d Start (Condition ∷ k))
  unfolding spec.arm
  arm_leads k i =
      let body = λ (c : Script). leads_then (spec.block rule) (λ b. spec.pure (c, b)) (on d Close (Consequence ∷ k)) (on d Close (Consequence ∷ k)) (on d Start (Consequence ∷ k)) (block_leads Consequence k) (λ b j. refl) in
      let rest = λ (c : Script). leads_then (expect r.Then) (λ u. λ j. and_then (spec.block rule j) (λ b. spec.pure (c, b))) (on d Close (Consequence ∷ k)) (on d Start (Consequence ∷ k)) (on d Close (Condition ∷ k)) (then_leads d k) (λ u. body c) in
      leads_then (spec.block rule) (λ c. λ j. and_then (expect r.Then j) (λ u. λ j. and_then (spec.block rule j) (λ b. spec.pure (c, b)))) (on d Close (Consequence ∷ k)) (on d Close (Condition ∷ k)) (on d Start (Condition ∷ k)) (block_leads Condition k) rest i

  more_turn : (k : List Frame) (turns : ℕ) (ih : (found : List (Script × Script)) (i : Input) → length i.tokens < turns → then_goes (spec.arms rule turns found i) (on d Close (Otherwise ∷ k)) ≡ on d Start (Condition ∷ k) i) (found : List (Script × Script)) (tokens : List Token) (end : End) (size : ℕ) (o : Option Reserved) → reserved_first tokens ≡ o → length tokens ≤ turns → then_goes (more_by rule (spec.arms rule turns) found o record { tokens = tokens; end = end; size = size }) (on d Close (Otherwise ∷ k)) ≡ run tokens end size record { left = d; phase = Close; open_frames = Consequence ∷ k }
  unfolding run step ends next spec.refusal
  more_turn k turns ih found [] end size None is h = refl
  more_turn k turns ih found [] end size (Some word) is h = absurd (none-some _ is)
  more_turn k turns ih found (t ∷ tokens) end size (Some r.Else) is h =
      leads_then (spec.block rule) (λ b. spec.pure (arms_of found (Some b))) (on d Close (Otherwise ∷ k)) (on d Close (Otherwise ∷ k)) (on d Start (Otherwise ∷ k)) (block_leads Otherwise k) (λ b j. refl) record { tokens = tokens; end = end; size = size }
      ∙ ap (λ o. goes (m.close d (Consequence ∷ k) o t) (run tokens end size)) (sym is)
  more_turn k turns ih found (t ∷ tokens) end size (Some r.Elif) is h =
      ih found record { tokens = tokens; end = end; size = size } (omega arith) ∙ ap (λ o. goes (m.close d (Consequence ∷ k) o t) (run tokens end size)) (sym is)
  more_turn k turns ih found (t ∷ tokens) end size (Some r.Fi) is h =
      ap (λ o. goes (m.close d (Otherwise ∷ k) o t) (run tokens end size)) is ∙ ap (λ o. goes (m.close d (Consequence ∷ k) o t) (run tokens end size)) (sym is)
  more_turn k turns ih found (t ∷ tokens) end size o is h = ap (λ o. goes (m.close d (Consequence ∷ k) o t) (run tokens end size)) (sym is)

  arms_lead : (k : List Frame) (turns : ℕ) (found : List (Script × Script)) (i : Input) → length i.tokens < turns → then_goes (spec.arms rule turns found i) (on d Close (Otherwise ∷ k)) ≡ on d Start (Condition ∷ k) i
  unfolding spec.arms keyword
  arms_lead k zero found i h = absurd (omega (arith, h))
  arms_lead k (suc turns) found i h =
      joins_ok (spec.arm rule i) (λ a. λ i. more_by rule (spec.arms rule turns) (found ++ a ∷ []) (reserved_first i.tokens) i) (on d Close (Otherwise ∷ k)) (on d Close (Consequence ∷ k))
      (λ a j is. let s = arm_shorter d i a j is in more_turn k turns (arms_lead k turns) (found ++ a ∷ []) j.tokens j.end j.size (reserved_first j.tokens) refl (omega arith))
      ∙ arm_leads k i

  if_leads : (k : List Frame) → Leads (spec.if_command rule) (on (suc d) After k) (on d Start (Condition ∷ k))
  unfolding spec.if_command spec.arms_all
  if_leads k i =
      leads_then (spec.arms_all rule) (λ a. λ j. and_then (expect r.Fi j) (λ u. spec.pure (If a))) (on (suc d) After k) (on d Close (Otherwise ∷ k)) (on d Start (Condition ∷ k)) (λ i. arms_lead k (suc (length i.tokens)) [] i (omega arith))
      (λ a. leads_then (expect r.Fi) (λ u. spec.pure (If a)) (on (suc d) After k) (on (suc d) After k) (on d Close (Otherwise ∷ k)) (fi_leads d k) (λ u j. refl)) i

  body_leads : (k : List Frame) → Leads (spec.body_of rule) (on (suc d) After k) (on d Close (LoopCondition ∷ k))
  unfolding spec.body_of
  body_leads k i =
      leads_then (expect r.Do) (λ u. λ j. and_then (spec.block rule j) (λ b. λ j. and_then (expect r.Done j) (λ u. spec.pure b))) (on (suc d) After k) (on d Start (LoopBody ∷ k)) (on d Close (LoopCondition ∷ k)) (do_leads d k)
      (λ u. leads_then (spec.block rule) (λ b. λ j. and_then (expect r.Done j) (λ u. spec.pure b)) (on (suc d) After k) (on d Close (LoopBody ∷ k)) (on d Start (LoopBody ∷ k)) (block_leads LoopBody k)
      (λ b. leads_then (expect r.Done) (λ u. spec.pure b) (on (suc d) After k) (on (suc d) After k) (on d Close (LoopBody ∷ k)) (done_leads d k) (λ u j. refl))) i

  loop_leads : (until : Bool) (k : List Frame) → Leads (spec.loop_command until rule) (on (suc d) After k) (on d Start (LoopCondition ∷ k))
  unfolding spec.loop_command
  loop_leads until k i =
      leads_then (spec.block rule) (λ c. λ j. and_then (spec.body_of rule j) (λ b. spec.pure (Loop until c b))) (on (suc d) After k) (on d Close (LoopCondition ∷ k)) (on d Start (LoopCondition ∷ k)) (block_leads LoopCondition k)
      (λ c. leads_then (spec.body_of rule) (λ b. spec.pure (Loop until c b)) (on (suc d) After k) (on (suc d) After k) (on d Close (LoopCondition ∷ k)) (body_leads k) (λ b j. refl)) i

  for_leads : (k : List Frame) → Leads (spec.for_command rule) (on (suc d) After k) (on d Name (LoopCondition ∷ k))
  unfolding spec.for_command
  for_leads k i =
      let f = LoopCondition ∷ k in
      let last = λ (n : List ℕ) (ws : List Word). leads_then (spec.body_of rule) (λ b. spec.pure (For n ws b)) (on (suc d) After k) (on (suc d) After k) (on d Close f) (body_leads k) (λ b j. refl) in
      let ends = λ (n : List ℕ) (ws : List Word). leads_then spec.separators (λ u. λ j. and_then (spec.body_of rule j) (λ b. spec.pure (For n ws b))) (on (suc d) After k) (on d Close f) (on d Separators f) (λ j. separators_at d LoopCondition k j.tokens j.end j.size) (λ u. last n ws) in
      let these = λ (n : List ℕ). leads_then spec.all_words (λ ws. λ j. and_then (spec.separators j) (λ u. λ j. and_then (spec.body_of rule j) (λ b. spec.pure (For n ws b)))) (on (suc d) After k) (on d Separators f) (on d Items f) (words_lead d f) (λ ws. ends n ws) in
      let within = λ (n : List ℕ). leads_then spec.expect_in (λ u. λ j. and_then (spec.all_words j) (λ ws. λ j. and_then (spec.separators j) (λ u. λ j. and_then (spec.body_of rule j) (λ b. spec.pure (For n ws b))))) (on (suc d) After k) (on d Items f) (on d In f) (λ j. in_at d f j.tokens j.end j.size) (λ u. these n) in
      leads_then spec.name (λ n. λ j. and_then (spec.expect_in j) (λ u. λ j. and_then (spec.all_words j) (λ ws. λ j. and_then (spec.separators j) (λ u. λ j. and_then (spec.body_of rule j) (λ b. spec.pure (For n ws b)))))) (on (suc d) After k) (on d In f) (on d Name f) (λ j. name_at d f j.tokens j.end j.size) within i

-- ---- commands, by the levels that are left

flat_turn : (k : List Frame) (tokens : List Token) (end : End) (size : ℕ) (o : Option Reserved) → reserved_first tokens ≡ o → then_goes (spec.flat o record { tokens = tokens; end = end; size = size }) (on 0 After k) ≡ run tokens end size record { left = 0; phase = Must; open_frames = k }
unfolding run step spec.refusal
flat_turn k tokens end size None e = simple_leads 0 k tokens end size e
flat_turn k [] end size (Some word) e = absurd (none-some _ e)
flat_turn k (t ∷ tokens) end size (Some r.If) e = ap (λ o. goes (m.begin 0 k o t) (run tokens end size)) (sym e)
flat_turn k (t ∷ tokens) end size (Some r.While) e = ap (λ o. goes (m.begin 0 k o t) (run tokens end size)) (sym e)
flat_turn k (t ∷ tokens) end size (Some r.Until) e = ap (λ o. goes (m.begin 0 k o t) (run tokens end size)) (sym e)
flat_turn k (t ∷ tokens) end size (Some r.For) e = ap (λ o. goes (m.begin 0 k o t) (run tokens end size)) (sym e)
flat_turn k (t ∷ tokens) end size (Some word) e = ap (λ o. goes (m.begin 0 k o t) (run tokens end size)) (sym e)

compound_turn : (d : ℕ) (leads : (k : List Frame) → Leads (command d) (on d After k) (on d Must k)) (k : List Frame) (tokens : List Token) (end : End) (size : ℕ) (o : Option Reserved) → reserved_first tokens ≡ o → then_goes (spec.compound (command d) o record { tokens = tokens; end = end; size = size }) (on (suc d) After k) ≡ run tokens end size record { left = suc d; phase = Must; open_frames = k }
unfolding run step spec.refusal next
compound_turn d leads k tokens end size None e = simple_leads (suc d) k tokens end size e
compound_turn d leads k [] end size (Some word) e = absurd (none-some _ e)
compound_turn d leads k (t ∷ tokens) end size (Some r.If) e = if_leads d leads k record { tokens = tokens; end = end; size = size } ∙ ap (λ o. goes (m.begin (suc d) k o t) (run tokens end size)) (sym e)
compound_turn d leads k (t ∷ tokens) end size (Some r.While) e = loop_leads d leads false k record { tokens = tokens; end = end; size = size } ∙ ap (λ o. goes (m.begin (suc d) k o t) (run tokens end size)) (sym e)
compound_turn d leads k (t ∷ tokens) end size (Some r.Until) e = loop_leads d leads true k record { tokens = tokens; end = end; size = size } ∙ ap (λ o. goes (m.begin (suc d) k o t) (run tokens end size)) (sym e)
compound_turn d leads k (t ∷ tokens) end size (Some r.For) e = for_leads d leads k record { tokens = tokens; end = end; size = size } ∙ ap (λ o. goes (m.begin (suc d) k o t) (run tokens end size)) (sym e)
compound_turn d leads k (t ∷ tokens) end size (Some word) e = ap (λ o. goes (m.begin (suc d) k o t) (run tokens end size)) (sym e)

pub command_leads : (d : ℕ) (k : List Frame) → Leads (command d) (on d After k) (on d Must k)
unfolding command keyword
command_leads zero k i = flat_turn k i.tokens i.end i.size (reserved_first i.tokens) refl
command_leads (suc d) k i = compound_turn d (command_leads d) k i.tokens i.end i.size (reserved_first i.tokens) refl

-- ---- a whole text

start_past_if : (b : Bool) (d : ℕ) (k : List Frame) (t : Token) (tokens : List Token) (end : End) (size : ℕ) → run (past is_separator tokens) end size record { left = d; phase = Start; open_frames = k } ≡ run tokens end size record { left = d; phase = Start; open_frames = k } → b ≡ is_separator t → run (past_if b (t ∷ tokens) (past is_separator tokens)) end size record { left = d; phase = Start; open_frames = k } ≡ run (t ∷ tokens) end size record { left = d; phase = Start; open_frames = k }
unfolding run step
start_past_if true d k t tokens end size h e = h ∙ ap (λ b. goes (if b then m.to d Start k else m.begin d k (reserved_of t) t) (run tokens end size)) e
start_past_if false d k t tokens end size h e = refl

start_past : (d : ℕ) (k : List Frame) (tokens : List Token) (end : End) (size : ℕ) → run (past is_separator tokens) end size record { left = d; phase = Start; open_frames = k } ≡ run tokens end size record { left = d; phase = Start; open_frames = k }
start_past d k [] end size = refl
start_past d k (t ∷ tokens) end size = start_past_if (is_separator t) d k t tokens end size (start_past d k tokens end size) refl

script_turn : (d : ℕ) (tokens row : List Token) (end : End) (size : ℕ) (b : Bool) → past is_separator tokens ≡ row → spec.is_empty row ≡ b → then_goes (spec.script_by d b record { tokens = row; end = end; size = size }) (on d Close []) ≡ run row end size record { left = d; phase = Start; open_frames = [] }
unfolding run step ends spec.lists_all
script_turn d tokens [] end size true e b = refl
script_turn d tokens (t ∷ row) end size true e b = absurd (false≢true b)
script_turn d tokens [] end size false e b = absurd (true≢false b)
script_turn d tokens (t ∷ row) end size false e b =
    lists_lead d (command_leads d) [] (suc (length (t ∷ row))) [] record { tokens = t ∷ row; end = end; size = size } (omega arith)
    ∙ ap (λ b. goes (if b then m.to d Start [] else m.begin d [] (reserved_of t) t) (run row end size)) (sym (past_first is_separator tokens t row e))

script_leads : (d : ℕ) → Leads (spec.script d) (on d Close []) (on d Start [])
unfolding spec.script spec.at_last behind
script_leads d i = script_turn d i.tokens (past is_separator i.tokens) i.end i.size (spec.is_empty (past is_separator i.tokens)) refl refl ∙ start_past d [] i.tokens i.end i.size

abbrev pub forget : Result Script SyntaxError → Done
forget (Ok s) = Ok tt
forget (Err e) = Err e

none_closes : (d : ℕ) (b : Bool) (o : Option Reserved) (t : Token) (more : State → Done) → Err (Unexpected t.start) ≡ goes (if b then m.close_by d [] o t else m.unexpected t) more
none_closes d true o t more = refl
none_closes d false o t more = refl

finish_goes : (d : ℕ) (s : Script) (tokens : List Token) (end : End) (size : ℕ) → forget (spec.finish_at s tokens end size) ≡ run tokens end size record { left = d; phase = Close; open_frames = [] }
unfolding run step ends
finish_goes d s [] Whole size = refl
finish_goes d s [] (Refused e) size = refl
finish_goes d s (t ∷ tokens) end size = none_closes d (closes_at (reserved_of t)) (reserved_of t) t (run tokens end size)

finishes : (d : ℕ) (o : Parsed Script) → forget (spec.finish o) ≡ then_goes o (on d Close [])
finishes d (Ok p) = finish_goes d p.0 p.1.tokens p.1.end p.1.size
finishes d (Err e) = refl

-- the reader and the machine refuse alike, with the same error
pub reader_runs : (d : ℕ) (i : Input) → forget (spec.whole d i) ≡ on d Start [] i
unfolding spec.whole
reader_runs d i = finishes d (spec.script d i) ∙ script_leads d i
