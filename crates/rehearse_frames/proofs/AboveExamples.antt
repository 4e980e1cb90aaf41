-- Frames above the lowest ones, computed.
use Rattle.std.proofs.Common.{ℕ, ◌≡◌, ◌≤◌, refl, arith, [], ◌∷◌, codes}
use Rattle.hushlang.specs.Tree as tree
use Rattle.hushlang.specs.Tree.{Script}
use Rattle.bootstore_state.specs.Moment.{Moment, RunningFrame}
use Rattle.rehearse_terms.specs.Outcomes.{Success, OutcomeWord}
use Rattle.rehearse_terms.specs.State.{State}
use Rattle.rehearse_rules.specs.Execution.{CutSteps, End}
use Rattle.rehearse_rules.specs.declared.halt.Halt.TheVariants as halts
use Rattle.rehearse_machine.specs.Came.{Came, Over, Wants}
use Rattle.rehearse_machine.specs.Places.{text_frame, names_frame}
use Rattle.rehearse_machine.specs.declared.ask.Step.TheVariants as steps
use Rattle.rehearse_frames.specs.Above.{above, without_lowest, AboveAll, IsNoEnd, NeverReturns, StaysAbove}

-- a text of one command, which a `run` has started
abbrev one : Script
one = tree.Runs (tree.Starts (tree.Simple []) tree.Alone) tree.Empty

abbrev text : RunningFrame
text = text_frame one

abbrev run : RunningFrame
run = names_frame one (codes "a" ∷ [])

none_left_out : above 0 (text ∷ run ∷ text ∷ []) ≡ text ∷ run ∷ text ∷ []
none_left_out = refl

one_left_out : above 1 (text ∷ run ∷ text ∷ []) ≡ text ∷ run ∷ []
one_left_out = refl

all_left_out : above 4 (text ∷ run ∷ text ∷ []) ≡ []
all_left_out = refl

-- nothing else of a moment changes
all_else_stays : (below : ℕ) (m : Moment) → record (without_lowest below m) { frames = m.frames } ≡ m
all_else_stays below m = refl

-- ---- runs that come back

cut_never_returns : (s : State) → NeverReturns (λ w. Over CutSteps s)
cut_never_returns s w status t e = absurd (cc)

-- an end of the text comes back, with each status
end_returns : (status : ℕ) (s : State) → NeverReturns (λ w. Over (End status) s) → ⊥
end_returns status s never = never [] status s refl

-- and after some outcomes alone
after_one : State → OutcomeWord → Came
after_one s [] = Wants s
after_one s (outcome ∷ w) = Over (End 1) s

one_word_returns : (s : State) → NeverReturns (after_one s) → ⊥
unfolding after_one
one_word_returns s never = never (Success ∷ []) 1 s refl

-- ---- frames that a step leaves alone

one_stays : (m : Moment) → StaysAbove 1 steps.Going (record m { frames = text ∷ run ∷ [] })
one_stays m = omega arith

none_stays : (m : Moment) → StaysAbove 2 steps.Going (record m { frames = text ∷ run ∷ [] }) → ⊥
none_stays m stays = absurd (omega arith)

an_end_comes_back : IsNoEnd (End 3) → ⊥
an_end_comes_back never = never 3 refl

-- a step that ends the text leaves none alone, and one that is cut leaves all
an_end_leaves_none : (m : Moment) → StaysAbove 0 (steps.Ends (halts.End 0)) m → ⊥
an_end_leaves_none m never = never 0 refl

a_cut_leaves_all : (m : Moment) → StaysAbove 2 (steps.Ends halts.CutDevices) (record m { frames = [] })
a_cut_leaves_all m status e = absurd (cc)

a_cut_is_no_end : IsNoEnd CutSteps
a_cut_is_no_end status e = absurd (cc)

-- of three frames one is left, and of none on the way all are kept
two_of_three : AboveAll 3 (λ below. below ≤ 2)
two_of_three below within = omega arith

not_three_of_three : AboveAll 3 (λ below. below ≡ 3) → ⊥
not_three_of_three all = absurd (let e = all 0 (omega arith) in omega arith)

reaches_two : (IsSo : ℕ → Type 0) → AboveAll 3 IsSo → IsSo 2
reaches_two IsSo all = all 2 (omega arith)

all_are_kept : AboveAll 0 (λ below. below ≡ 0)
all_are_kept below within = omega arith
