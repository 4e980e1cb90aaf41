-- Whatever is open can be closed.
use Rattle.std.proofs.Common.{◌≡◌, ℕ, suc, true, List, [], ◌∷◌, ◌++◌, Ok, refl, ◌∙◌}
use Rattle.hushlang.specs.Token.{Token, Plain, End, Whole, sign, word}
use Rattle.hushlang.specs.Grammar.{reserved_of, assignment, is_in_word}
use Rattle.std.specs.List.{list_all}
use Rattle.hushlang.specs.Words.{reserved}
use Rattle.hushlang.specs.Laws.{completes}
use Rattle.hushlang.proofs.TokenMachine.{Frame, Condition, Consequence, Otherwise, LoopCondition, LoopBody, Phase, Next, State, step, ends, run}
use Rattle.hushlang.specs.declared.token.Kind.TheVariants as kinds

abbrev pub semi : Token
semi = sign kinds.Semi 0 0

abbrev then_word : Token
then_word = word 0 0 (Plain 116 ∷ Plain 104 ∷ Plain 101 ∷ Plain 110 ∷ [])

abbrev pub true_word : Token
true_word = word 0 0 (Plain 116 ∷ Plain 114 ∷ Plain 117 ∷ Plain 101 ∷ [])

abbrev fi_word : Token
fi_word = word 0 0 (Plain 102 ∷ Plain 105 ∷ [])

abbrev do_word : Token
do_word = word 0 0 (Plain 100 ∷ Plain 111 ∷ [])

abbrev done_word : Token
done_word = word 0 0 (Plain 100 ∷ Plain 111 ∷ Plain 110 ∷ Plain 101 ∷ [])

abbrev pub in_word : Token
in_word = word 0 0 (Plain 105 ∷ Plain 110 ∷ [])

-- the tokens that close a frame after a separator
abbrev pub frame_end : Frame → List Token
frame_end Condition = then_word ∷ true_word ∷ semi ∷ fi_word ∷ semi ∷ []
frame_end Consequence = fi_word ∷ semi ∷ []
frame_end Otherwise = fi_word ∷ semi ∷ []
frame_end LoopCondition = do_word ∷ true_word ∷ semi ∷ done_word ∷ semi ∷ []
frame_end LoopBody = done_word ∷ semi ∷ []

abbrev pub frames_end : List Frame → List Token
frames_end [] = []
frames_end (f ∷ k) = frame_end f ++ frames_end k

abbrev at : ℕ → Phase → List Frame → State
at d p k = record { left = d; phase = p; open_frames = k }

frame_ends : (f : Frame) (k : List Frame) (d : ℕ) (more : List Token) (end : End) (size : ℕ) → run (frame_end f ++ more) end size (at d Next (f ∷ k)) ≡ run more end size (at (suc d) Next k)
unfolding run step reserved_of reserved assignment
frame_ends Condition k d more end size = refl
frame_ends Consequence k d more end size = refl
frame_ends Otherwise k d more end size = refl
frame_ends LoopCondition k d more end size = refl
frame_ends LoopBody k d more end size = refl

pub frames_ends : (k : List Frame) (d : ℕ) (size : ℕ) → run (frames_end k) Whole size (at d Next k) ≡ Ok tt
unfolding run ends
frames_ends [] d size = refl
frames_ends (f ∷ k) d size = frame_ends f k d (frames_end k) Whole size ∙ frames_ends k (suc d) size

frame_few : (f : Frame) (more : List Token) → list_all completes (frame_end f ++ more) ≡ list_all completes more
unfolding reserved_of reserved is_in_word
frame_few Condition more = refl
frame_few Consequence more = refl
frame_few Otherwise more = refl
frame_few LoopCondition more = refl
frame_few LoopBody more = refl

pub frames_few : (k : List Frame) → list_all completes (frames_end k) ≡ true
frames_few [] = refl
frames_few (f ∷ k) = frame_few f (frames_end k) ∙ frames_few k

few_semi : (more : List Token) → list_all completes (semi ∷ more) ≡ list_all completes more
unfolding reserved_of reserved is_in_word
few_semi more = refl

few_true : (more : List Token) → list_all completes (true_word ∷ more) ≡ list_all completes more
unfolding reserved_of reserved is_in_word
few_true more = refl

few_in : (more : List Token) → list_all completes (in_word ∷ more) ≡ list_all completes more
unfolding reserved_of reserved is_in_word
few_in more = refl

pub semi_few : (k : List Frame) → list_all completes (semi ∷ frames_end k) ≡ true
semi_few k = few_semi (frames_end k) ∙ frames_few k

pub true_few : (k : List Frame) → list_all completes (true_word ∷ semi ∷ frames_end k) ≡ true
true_few k = few_true (semi ∷ frames_end k) ∙ semi_few k

pub in_few : (k : List Frame) → list_all completes (in_word ∷ semi ∷ frames_end k) ≡ true
in_few k = few_in (semi ∷ frames_end k) ∙ semi_few k

pub name_few : (k : List Frame) → list_all completes (true_word ∷ in_word ∷ semi ∷ frames_end k) ≡ true
name_few k = few_true (in_word ∷ semi ∷ frames_end k) ∙ in_few k
