-- Each refusal is at the first token with which no script can go on.
use Rattle.std.proofs.Common.{◌≡◌, ℕ, zero, suc, Bool, true, false, if◌then◌else◌, List, [], ◌∷◌, ◌++◌, Option, Some, None, is_some, Result, Ok, Err, refl, ap, sym, ◌∙◌, subst, append_assoc}
use Rattle.hushlang.specs.Token.{Token, End, Whole, Refused}
use Rattle.hushlang.specs.Tree.{Script}
use Rattle.hushlang.specs.Grammar.{IsScript, is_word, is_separator, is_newline_token, reserved_of, op_of, assignment, name_in, name_of, is_in_word, closes_at}
use Rattle.hushlang.specs.Words.{reserved}
use Rattle.hushlang.specs.Parsing as spec
use Rattle.hushlang.proofs.TokenMachine as m
use Rattle.hushlang.proofs.TokenMachine.{Frame, Condition, Consequence, Otherwise, LoopCondition, LoopBody, Phase, Start, Joint, Must, Words, After, Behind, Next, Close, Name, In, Items, Separators, Separated, State, Step, step, ends, run, goes}
use Rattle.hushlang.specs.RefusalPlaces.{IsViable, place_of, IsRefusal, at_token, at_fault, at_end}
use Rattle.std.specs.List.{list_all}
use Rattle.hushlang.specs.Laws.{RefusalsArePlaced, FewTokensComplete, completes}
use Rattle.hushlang.proofs.FrameEndLemmas.{frames_end, frames_ends, frame_end, true_word, in_word, semi, frames_few, semi_few, true_few, in_few, name_few}
use Rattle.hushlang.proofs.ReaderAsMachine.{forget, reader_runs}
use Rattle.hushlang.proofs.DerivedTreesAreRead.{each_tree_is_read}
use Rattle.hushlang.proofs.ReadTreesAreDerived.{what_is_read_is_a_tree}
use Rattle.hushlang.specs.declared.tree.Op.{Op}
use Rattle.hushlang.specs.declared.token.SyntaxError.{SyntaxError}
use Rattle.hushlang.specs.declared.words.Reserved.{Reserved}
use Rattle.hushlang.specs.declared.words.Reserved.TheVariants as r

abbrev Done : Type 0
Done = Result (Unit {0}) SyntaxError

-- ---- what a step leaves, and where it refuses

abbrev IsOpen : List Frame → Type 0
IsOpen [] = ⊥
IsOpen (f ∷ k) = Unit

-- the parts of a `for` are inside one
abbrev Sound : Phase → List Frame → Type 0
Sound Name k = IsOpen k
Sound In k = IsOpen k
Sound Items k = IsOpen k
Sound Separators k = IsOpen k
Sound Separated k = IsOpen k
Sound p k = Unit

abbrev Good : Token → Step → Type 0
Good t (Ok s) = Sound s.phase s.open_frames
Good t (Err e) = place_of e ≡ Some t.start

close_by_good : (d : ℕ) (k : List Frame) (o : Option Reserved) (t : Token) → Good t (m.close_by d k o t)
close_by_good d (Condition ∷ k) (Some r.Then) t = tt
close_by_good d (Consequence ∷ k) (Some r.Elif) t = tt
close_by_good d (Consequence ∷ k) (Some r.Else) t = tt
close_by_good d (Consequence ∷ k) (Some r.Fi) t = tt
close_by_good d (Otherwise ∷ k) (Some r.Fi) t = tt
close_by_good d (LoopCondition ∷ k) (Some r.Do) t = tt
close_by_good d (LoopBody ∷ k) (Some r.Done) t = tt
close_by_good d k o t = refl

close_if_good : (b : Bool) (d : ℕ) (k : List Frame) (o : Option Reserved) (t : Token) → Good t (if b then m.close_by d k o t else m.unexpected t)
close_if_good true d k o t = close_by_good d k o t
close_if_good false d k o t = refl

close_good : (d : ℕ) (k : List Frame) (o : Option Reserved) (t : Token) → Good t (m.close d k o t)
close_good d k o t = close_if_good (closes_at o) d k o t

first_good : (d : ℕ) (k : List Frame) (w a : Bool) (t : Token) → Good t (m.first_word d k w a t)
first_good d k true a t = tt
first_good d k false a t = refl

begin_good : (d : ℕ) (k : List Frame) (o : Option Reserved) (t : Token) → Good t (m.begin d k o t)
begin_good d k None t = first_good d k (is_word t) (is_some (assignment t.parts)) t
begin_good zero k (Some r.If) t = refl
begin_good zero k (Some r.While) t = refl
begin_good zero k (Some r.Until) t = refl
begin_good zero k (Some r.For) t = refl
begin_good (suc d) k (Some r.If) t = tt
begin_good (suc d) k (Some r.While) t = tt
begin_good (suc d) k (Some r.Until) t = tt
begin_good (suc d) k (Some r.For) t = tt
begin_good d k (Some word) t = refl

behind_good : (d : ℕ) (k : List Frame) (b : Bool) (t : Token) → Good t (m.behind_list d k b t)
behind_good d k true t = tt
behind_good d k false t = close_good d k (reserved_of t) t

after_good : (d : ℕ) (k : List Frame) (o : Option Op) (t : Token) → Good t (m.after_command d k o t)
after_good d k (Some op) t = tt
after_good d k None t = behind_good d k (is_separator t) t

another_good : (d : ℕ) (k : List Frame) (b : Bool) (t : Token) → Good t (m.another d k b t)
another_good d k true t = close_good d k (reserved_of t) t
another_good d k false t = begin_good d k (reserved_of t) t

further_good : (d : ℕ) (k : List Frame) (w assigns is : Bool) (t : Token) → Good t (m.further d k w assigns is t)
further_good d k true true false t = refl
further_good d k true true true t = tt
further_good d k true false is t = tt
further_good d k false assigns is t = after_good d k (op_of t) t

start_good : (b : Bool) (d : ℕ) (k : List Frame) (t : Token) → Good t (if b then m.to d Start k else m.begin d k (reserved_of t) t)
start_good true d k t = tt
start_good false d k t = begin_good d k (reserved_of t) t

joint_good : (b : Bool) (d : ℕ) (k : List Frame) (t : Token) → Good t (if b then m.to d Joint k else m.begin d k (reserved_of t) t)
joint_good true d k t = tt
joint_good false d k t = begin_good d k (reserved_of t) t

next_good : (b : Bool) (d : ℕ) (k : List Frame) (t : Token) → Good t (if b then m.to d Next k else m.another d k (closes_at (reserved_of t)) t)
next_good true d k t = tt
next_good false d k t = another_good d k (closes_at (reserved_of t)) t

named_good : (b : Bool) (d : ℕ) (k : List Frame) (t : Token) → IsOpen k → Good t (m.named d k b t)
named_good true d k t h = h
named_good false d k t h = refl

in_good : (b : Bool) (d : ℕ) (k : List Frame) (t : Token) → IsOpen k → Good t (m.with_in d k b t)
in_good true d k t h = h
in_good false d k t h = refl

item_good : (w b : Bool) (d : ℕ) (k : List Frame) (t : Token) → IsOpen k → Good t (m.item d k w b t)
item_good true b d k t h = h
item_good false true d k t h = h
item_good false false d k t h = refl

separated_good : (b : Bool) (d : ℕ) (k : List Frame) (t : Token) → IsOpen k → Good t (if b then m.to d Separated k else m.close d k (reserved_of t) t)
separated_good true d k t h = h
separated_good false d k t h = close_good d k (reserved_of t) t

step_good : (d : ℕ) (p : Phase) (k : List Frame) (t : Token) → Sound p k → Good t (step d p k t)
unfolding step
step_good d Start k t h = start_good (is_separator t) d k t
step_good d Joint k t h = joint_good (is_newline_token t) d k t
step_good d Must k t h = begin_good d k (reserved_of t) t
step_good d (Words assigns) k t h = further_good d k (is_word t) assigns (is_some (assignment t.parts)) t
step_good d After k t h = after_good d k (op_of t) t
step_good d Behind k t h = behind_good d k (is_separator t) t
step_good d Next k t h = next_good (is_separator t) d k t
step_good d Close k t h = close_good d k (reserved_of t) t
step_good d Name k t h = named_good (is_some (name_in t)) d k t h
step_good d In k t h = in_good (is_in_word t) d k t h
step_good d Items k t h = item_good (is_word t) (is_separator t) d k t h
step_good d Separators k t h = item_good false (is_separator t) d k t h
step_good d Separated k t h = separated_good (is_separator t) d k t h

-- ---- from each state there is a way to the end

abbrev at : ℕ → Phase → List Frame → State
at d p k = record { left = d; phase = p; open_frames = k }

from_close : (f : Frame) (k : List Frame) (d : ℕ) (more : List Token) (end : End) (size : ℕ) → run (frame_end f ++ more) end size (at d Close (f ∷ k)) ≡ run more end size (at (suc d) Next k)
unfolding run step reserved_of reserved assignment
from_close Condition k d more end size = refl
from_close Consequence k d more end size = refl
from_close Otherwise k d more end size = refl
from_close LoopCondition k d more end size = refl
from_close LoopBody k d more end size = refl

from_separated : (f : Frame) (k : List Frame) (d : ℕ) (more : List Token) (end : End) (size : ℕ) → run (frame_end f ++ more) end size (at d Separated (f ∷ k)) ≡ run more end size (at (suc d) Next k)
unfolding run step reserved_of reserved assignment
from_separated Condition k d more end size = refl
from_separated Consequence k d more end size = refl
from_separated Otherwise k d more end size = refl
from_separated LoopCondition k d more end size = refl
from_separated LoopBody k d more end size = refl

ends_separated : (f : Frame) (k : List Frame) (d : ℕ) (size : ℕ) → run (frames_end (f ∷ k)) Whole size (at d Separated (f ∷ k)) ≡ Ok tt
ends_separated f k d size = from_separated f k d (frames_end k) Whole size ∙ frames_ends k (suc d) size

way_out : (d : ℕ) (p : Phase) (k : List Frame) → Sound p k → (more : List Token) × ((size : ℕ) → run more Whole size (at d p k) ≡ Ok tt) × (list_all completes more ≡ true)
unfolding run step ends reserved_of reserved assignment name_in name_of is_in_word
way_out d Start k h = (true_word ∷ semi ∷ frames_end k, (λ size. frames_ends k d size), true_few k)
way_out d Joint k h = (true_word ∷ semi ∷ frames_end k, (λ size. frames_ends k d size), true_few k)
way_out d Must k h = (true_word ∷ semi ∷ frames_end k, (λ size. frames_ends k d size), true_few k)
way_out d (Words true) k h = (semi ∷ frames_end k, (λ size. frames_ends k d size), semi_few k)
way_out d (Words false) k h = (semi ∷ frames_end k, (λ size. frames_ends k d size), semi_few k)
way_out d After k h = (semi ∷ frames_end k, (λ size. frames_ends k d size), semi_few k)
way_out d Behind k h = (semi ∷ frames_end k, (λ size. frames_ends k d size), semi_few k)
way_out d Next k h = (frames_end k, (λ size. frames_ends k d size), frames_few k)
way_out d Close [] h = ([], (λ size. refl), refl)
way_out d Close (f ∷ k) h = (frames_end (f ∷ k), (λ size. from_close f k d (frames_end k) Whole size ∙ frames_ends k (suc d) size), frames_few (f ∷ k))
way_out d Name [] h = absurd h
way_out d Name (f ∷ k) h = (true_word ∷ in_word ∷ semi ∷ frames_end (f ∷ k), (λ size. ends_separated f k d size), name_few (f ∷ k))
way_out d In [] h = absurd h
way_out d In (f ∷ k) h = (in_word ∷ semi ∷ frames_end (f ∷ k), (λ size. ends_separated f k d size), in_few (f ∷ k))
way_out d Items [] h = absurd h
way_out d Items (f ∷ k) h = (semi ∷ frames_end (f ∷ k), (λ size. ends_separated f k d size), semi_few (f ∷ k))
way_out d Separators [] h = absurd h
way_out d Separators (f ∷ k) h = (semi ∷ frames_end (f ∷ k), (λ size. ends_separated f k d size), semi_few (f ∷ k))
way_out d Separated [] h = absurd h
way_out d Separated (f ∷ k) h = (frames_end (f ∷ k), (λ size. ends_separated f k d size), frames_few (f ∷ k))

-- ---- how far the tokens go

IsAnOk : Done → Type 0
IsAnOk (Ok u) = Unit
IsAnOk (Err e) = ⊥

err_not_ok : {e : SyntaxError} {u : Unit {0}} → ◌≡◌ {A = Done} (Err e) (Ok u) → ⊥
unfolding IsAnOk
err_not_ok p = subst IsAnOk (sym p) tt

error_or : SyntaxError → Done → SyntaxError
error_or d (Ok u) = d
error_or d (Err e) = e

error_same : (a b : SyntaxError) → ◌≡◌ {A = Done} (Err a) (Err b) → a ≡ b
unfolding error_or
error_same a b p = ap (error_or a) p

-- the tokens lead from one state to another
data Goes : (s : State) → (tokens : List Token) → (last : State) → Type 0 where
  stays : {s : State} → Goes s [] s
  takes : {s next last : State} (t : Token) (tokens : List Token) → step s.left s.phase s.open_frames t ≡ Ok next → Goes next tokens last → Goes s (t ∷ tokens) last

goes_on_runs : {s last : State} {tokens : List Token} (more : List Token) (end : End) (size : ℕ) → Goes s tokens last → run (tokens ++ more) end size s ≡ run more end size last
unfolding run
goes_on_runs more end size stays = refl
goes_on_runs more end size (takes t tokens e g) = ap (λ x. goes x (run (tokens ++ more) end size)) e ∙ goes_on_runs more end size g

data Fails : (s : State) → (tokens : List Token) → (end : End) → (size : ℕ) → (e : SyntaxError) → Type 0 where
  on_token : {s last : State} {end : End} {size : ℕ} {e : SyntaxError} (front : List Token) (t : Token) (more : List Token) → Goes s front last → Sound last.phase last.open_frames → step last.left last.phase last.open_frames t ≡ Err e → place_of e ≡ Some t.start → Fails s (front ++ t ∷ more) end size e
  on_end : {s last : State} {tokens : List Token} {end : End} {size : ℕ} {e : SyntaxError} → Goes s tokens last → Sound last.phase last.open_frames → ends last.phase last.open_frames end size ≡ Err e → Fails s tokens end size e

fails_later : {s next : State} {tokens : List Token} {end : End} {size : ℕ} {e : SyntaxError} (t : Token) → step s.left s.phase s.open_frames t ≡ Ok next → Fails next tokens end size e → Fails s (t ∷ tokens) end size e
fails_later t is (on_token front u more g h f p) = on_token (t ∷ front) u more (takes t front is g) h f p
fails_later t is (on_end {tokens = tokens} g h f) = on_end (takes t tokens is g) h f

fails_step : (s : State) (t : Token) (tokens : List Token) (end : End) (size : ℕ) (e : SyntaxError) → Sound s.phase s.open_frames → (x : Step) → step s.left s.phase s.open_frames t ≡ x → Good t x → ((next : State) → Sound next.phase next.open_frames → run tokens end size next ≡ Err e → Fails next tokens end size e) → goes x (run tokens end size) ≡ Err e → Fails s (t ∷ tokens) end size e
fails_step s t tokens end size e h (Ok next) is good ih f = fails_later t is (ih next good f)
fails_step s t tokens end size e h (Err a) is good ih f =
    let same = error_same a e f in
    on_token [] t tokens stays h (is ∙ ap Err same) (ap place_of (sym same) ∙ good)

fails : (tokens : List Token) (end : End) (size : ℕ) (e : SyntaxError) (s : State) → Sound s.phase s.open_frames → run tokens end size s ≡ Err e → Fails s tokens end size e
unfolding run
fails [] end size e s h f = on_end stays h f
fails (t ∷ tokens) end size e s h f = fails_step s t tokens end size e h (step s.left s.phase s.open_frames t) refl (step_good s.left s.phase s.open_frames t h) (λ next good g. fails tokens end size e next good g) f

-- ---- the reader's refusals

forget_ok : (x : Result Script SyntaxError) → forget x ≡ Ok tt → (s : Script) × (x ≡ Ok s)
forget_ok (Ok s) e = (s, refl)
forget_ok (Err a) e = absurd (err_not_ok e)

first : ℕ → State
first depth = record { left = depth; phase = Start; open_frames = [] }

viable : (depth : ℕ) (front : List Token) (last : State) → Goes record { left = depth; phase = Start; open_frames = [] } front last → Sound last.phase last.open_frames → IsViable depth front
viable depth front last g h =
    let way = way_out last.left last.phase last.open_frames h in
    let i : spec.Input = record { tokens = front ++ way.0; end = Whole; size = 0 } in
    let read = forget_ok (spec.whole depth i) (reader_runs depth i ∙ goes_on_runs way.0 Whole 0 g ∙ way.1 0) in
    let tree = what_is_read_is_a_tree depth (front ++ way.0) Whole read.0 0 read.1 in
    (way.0, read.0, tree.1)

not_viable : (depth : ℕ) (front : List Token) (t : Token) (last : State) (e : SyntaxError) → Goes record { left = depth; phase = Start; open_frames = [] } front last → step last.left last.phase last.open_frames t ≡ Err e → IsViable depth (front ++ t ∷ []) → ⊥
unfolding run
not_viable depth front t last e g f v =
    let i : spec.Input = record { tokens = (front ++ t ∷ []) ++ v.0; end = Whole; size = 0 } in
    let same : (front ++ t ∷ []) ++ v.0 ≡ front ++ t ∷ v.0 = append_assoc front (t ∷ []) v.0 in
    let accepts = sym (reader_runs depth i) ∙ ap forget (each_tree_is_read depth ((front ++ t ∷ []) ++ v.0) v.1 0 v.2) in
    let refuses = ap (λ l. run l Whole 0 record { left = depth; phase = Start; open_frames = [] }) same ∙ goes_on_runs (t ∷ v.0) Whole 0 g ∙ ap (λ x. goes x (run v.0 Whole 0)) f in
    err_not_ok (sym refuses ∙ accepts)

-- at the end of the tokens
abbrev PlacedEnd : ℕ → Done → Type 0
PlacedEnd size (Ok u) = Unit
PlacedEnd size (Err e) = place_of e ≡ Some size

abbrev FaultEnd : SyntaxError → Done → Type 0
FaultEnd a (Ok u) = ⊥
FaultEnd a (Err e) = a ≡ e

whole_end : (p : Phase) (k : List Frame) (size : ℕ) → PlacedEnd size (ends p k Whole size)
unfolding ends
whole_end Start [] size = tt
whole_end (Words assigns) [] size = tt
whole_end After [] size = tt
whole_end Behind [] size = tt
whole_end Next [] size = tt
whole_end Close [] size = tt
whole_end p k size = refl

fault_end : (p : Phase) (k : List Frame) (a : SyntaxError) (size : ℕ) → FaultEnd a (ends p k (Refused a) size)
unfolding ends
fault_end Start [] a size = refl
fault_end (Words assigns) [] a size = refl
fault_end After [] a size = refl
fault_end Behind [] a size = refl
fault_end Next [] a size = refl
fault_end Close [] a size = refl
fault_end p k a size = refl

ends_placed : (p : Phase) (k : List Frame) (size : ℕ) (e : SyntaxError) → ends p k Whole size ≡ Err e → place_of e ≡ Some size
ends_placed p k size e f = subst (PlacedEnd size) f (whole_end p k size)

ends_fault : (p : Phase) (k : List Frame) (a : SyntaxError) (size : ℕ) (e : SyntaxError) → ends p k (Refused a) size ≡ Err e → a ≡ e
ends_fault p k a size e f = subst (FaultEnd a) f (fault_end p k a size)

ended : (depth : ℕ) (tokens : List Token) (end : End) (size : ℕ) (e : SyntaxError) (last : State) → IsViable depth tokens → ends last.phase last.open_frames end size ≡ Err e → IsRefusal depth tokens end size e
ended depth tokens Whole size e last v f = at_end v (ends_placed last.phase last.open_frames size e f)
ended depth tokens (Refused a) size e last v f = subst (λ x. IsRefusal depth tokens (Refused a) size x) (ends_fault last.phase last.open_frames a size e f) (at_fault v)

refused : (depth : ℕ) (tokens : List Token) (end : End) (size : ℕ) (e : SyntaxError) → Fails record { left = depth; phase = Start; open_frames = [] } tokens end size e → IsRefusal depth tokens end size e
refused depth tokens end size e (on_token {last = last} front t more g h f p) = at_token front t more (viable depth front last g h) (not_viable depth front t last e g f) p
refused depth tokens end size e (on_end {last = last} g h f) = ended depth tokens end size e last (viable depth tokens last g h) f

pub refusals_are_placed : RefusalsArePlaced
refusals_are_placed depth tokens end size e is =
    refused depth tokens end size e (fails tokens end size e record { left = depth; phase = Start; open_frames = [] } tt (sym (reader_runs depth record { tokens = tokens; end = end; size = size }) ∙ ap forget is))

-- ---- few tokens complete the start of a script

data Leads : (s : State) → (tokens : List Token) → Type 0 where
  leads_to : {s : State} {tokens : List Token} (last : State) → Goes s tokens last → Sound last.phase last.open_frames → Leads s tokens

leads_step : (s : State) (t : Token) (tokens more : List Token) → (x : Step) → step s.left s.phase s.open_frames t ≡ x → Good t x → ((next : State) → Sound next.phase next.open_frames → run (tokens ++ more) Whole 0 next ≡ Ok tt → Leads next tokens) → goes x (run (tokens ++ more) Whole 0) ≡ Ok tt → Leads s (t ∷ tokens)
leads_step s t tokens more (Ok next) is good ih f = elim (ih next good f) [ leads_to last g h ↦ leads_to last (takes t tokens is g) h ]
leads_step s t tokens more (Err a) is good ih f = absurd (err_not_ok f)

leads : (tokens more : List Token) (s : State) → Sound s.phase s.open_frames → run (tokens ++ more) Whole 0 s ≡ Ok tt → Leads s tokens
unfolding run
leads [] more s h f = leads_to s stays h
leads (t ∷ tokens) more s h f = leads_step s t tokens more (step s.left s.phase s.open_frames t) refl (step_good s.left s.phase s.open_frames t h) (λ next good g. leads tokens more next good g) f

completed : (depth : ℕ) (tokens : List Token) → Leads (first depth) tokens → (more : List Token) × (list_all completes more ≡ true) × ((s : Script) × IsScript depth (tokens ++ more) s)
unfolding first
completed depth tokens (leads_to last g h) =
    let way = way_out last.left last.phase last.open_frames h in
    let i : spec.Input = record { tokens = tokens ++ way.0; end = Whole; size = 0 } in
    let read = forget_ok (spec.whole depth i) (reader_runs depth i ∙ goes_on_runs way.0 Whole 0 g ∙ way.1 0) in
    let tree = what_is_read_is_a_tree depth (tokens ++ way.0) Whole read.0 0 read.1 in
    (way.0, way.2, (read.0, tree.1))

pub few_tokens_complete : FewTokensComplete
unfolding first
few_tokens_complete depth tokens v =
    let i : spec.Input = record { tokens = tokens ++ v.0; end = Whole; size = 0 } in
    let accepts = sym (reader_runs depth i) ∙ ap forget (each_tree_is_read depth (tokens ++ v.0) v.1 0 v.2) in
    completed depth tokens (leads tokens v.0 record { left = depth; phase = Start; open_frames = [] } tt accepts)
