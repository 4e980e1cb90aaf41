-- The words of a command that asks, expanded again.
use Rattle.rehearse_rules.specs.ByShell.{fields_in, reads_again}
use Rattle.std.proofs.Common.{ℕ, ◌-◌, true, false, List, ◌∷◌, Option, Some, None, refl, sym, ap, ◌∙◌, ◌≡◌, nat_le}
use Rattle.hushlang.specs.Tree as tree
use Rattle.hushlang.specs.Tree.{AndOr, Command}
use Rattle.hushlang.specs.TreesShown as view
use Rattle.hushlang.specs.declared.tree.AndOr.{AndOr as ListCode}
use Rattle.hushlang.specs.declared.call.Call.{Call}
use Rattle.hushlang.specs.declared.tree.Command.{Command as CommandCode, Simple}
use Rattle.hushlang.specs.Expansion as expansion
use Rattle.hushlang.specs.Expansion.{size, most_bytes}
use Rattle.bootstore_state.specs.declared.frame.At.{At}
use Rattle.bootstore_state.specs.Moment.{RunningFrame}
use Rattle.bootstore_state.specs.Record.{Record}
use Rattle.rehearse_terms.specs.Outcomes as outcomes
use Rattle.rehearse_terms.specs.State.{Text}
use Rattle.rehearse_rules.specs.Parameters.{parameters_in}
use Rattle.bootstore_state.specs.StoredState.{state_at}
use Rattle.rehearse_rules.specs.Execution.{Limits, Size}
use Rattle.rehearse_rules.specs.declared.halt.Halt.TheVariants as halts
use Rattle.rehearse_machine.specs.declared.ask.Step.TheVariants as steps
use Rattle.rehearse_machine.specs.Places.{StopOn, list_at, command_in, command_at, place_fields}
use Rattle.rehearse_machine.specs.AskingCommand.{command_in_front, words_of, words_in_front, fields_again}
use Rattle.rehearse_machine.specs.Variables.{parameters_at}
use Rattle.rehearse_machine.specs.MovesShown.{Does}
use Rattle.rehearse_machine.proofs.CommandLemmas.{says_if, says_loop, says_assign, says_for, Kind, AsSimple, AsAssign, AsIf, AsLoop, AsFor, kind_of}
use Rattle.rehearse_machine.proofs.ParameterLemmas.{same_parameters}
use Rattle.rehearse_machine.proofs.ListLemmas.{back}
use Rattle.rehearse_machine.proofs.Beginnings.{chosen, passed}

-- ---- the command before a place

module _ (at : At) (f : RunningFrame) (here : at ≡ f.place) where
  pub none_in_front : at.command ≡ 0 → None ≡ words_in_front f
  none_in_front z = sym (ap (λ (n : ℕ). words_of (command_in_front n f)) (ap (λ (x : At). x.command) (sym here) ∙ z))

  module _ (h : at.command ≡ 0 → ⊥) where
    in_front : words_in_front f ≡ words_of (command_at (list_at f.script f.place.list) (at.command - 1))
    in_front = ap (λ (n : ℕ). words_of (command_in_front n f)) (ap (λ (x : At). x.command) (sym here) ∙ back at.command h)

    pub no_list_in_front : list_at f.script f.place.list ≡ None → None ≡ words_in_front f
    no_list_in_front e = sym (in_front ∙ ap (λ (o : Option AndOr). words_of (command_at o (at.command - 1))) e)

    pub command_there_in_front : (l : ListCode) (c : Option Command) → list_at f.script f.place.list ≡ Some (view.list l) → c ≡ command_in (view.list l) (at.command - 1) → words_of c ≡ words_in_front f
    command_there_in_front l c e k = sym (in_front ∙ ap (λ (o : Option AndOr). words_of (command_at o (at.command - 1))) e ∙ ap words_of (sym k))

-- only a simple command has words
module _ (c : CommandCode) where
  wordless-at : Kind c → ((call : Call) → c ≡ Simple call → ⊥) → None ≡ words_of (Some (view.command c))
  wordless-at (AsSimple call e) other = absurd (other call e)
  wordless-at (AsAssign values e) other = sym (ap (λ (k : Command). words_of (Some k)) (says_assign c values e))
  wordless-at (AsIf arms rest e) other = sym (ap (λ (k : Command). words_of (Some k)) (says_if c arms rest e))
  wordless-at (AsLoop until cond body e) other = sym (ap (λ (k : Command). words_of (Some k)) (says_loop c until cond body e))
  wordless-at (AsFor name words body e) other = sym (ap (λ (k : Command). words_of (Some k)) (says_for c name words body e))

  pub wordless : ((call : Call) → c ≡ Simple call → ⊥) → None ≡ words_of (Some (view.command c))
  wordless = wordless-at (kind_of c)

-- ---- the result of its words

module _ (limits : Limits) (old : Record) (f : RunningFrame) (fs : List RunningFrame) where
  pub nothing_again : None ≡ words_in_front f → Does (steps.Ends (halts.End old.present.status)) old old (fields_again limits (words_in_front f) f fs)
  nothing_again e = (λ w. ap (λ (o : Option (List tree.Word)). fields_again limits o f fs (state_at old.present w)) e, record { marked = refl; begun = refl })

  module _ (words : List tree.Word) (in_front : Some words ≡ words_in_front f) where
    again : (w : outcomes.OutcomeWord) → fields_again limits (Some words) f fs (state_at old.present w) ≡ fields_again limits (words_in_front f) f fs (state_at old.present w)
    again w = ap (λ (o : Option (List tree.Word)). fields_again limits o f fs (state_at old.present w)) in_front

    abbrev expanded : outcomes.OutcomeWord → List Text
    expanded w = fields_in limits.shell (parameters_in (state_at old.present w).memory) words

    same_fields : (w : outcomes.OutcomeWord) → fields_in limits.shell (parameters_at old.present) words ≡ expanded w
    same_fields w = ap (λ (x : expansion.Parameters). fields_in limits.shell x words) (same_parameters old.present w)

    pub too_long_again : nat_le (size (fields_in limits.shell (parameters_at old.present) words)) most_bytes ≡ false → Does (steps.Ends halts.Size) old old (fields_again limits (words_in_front f) f fs)
    too_long_again h = (
      λ w. passed (nat_le (size (expanded w)) most_bytes) (place_fields limits (reads_again words) (expanded w) f.script (f ∷ fs) (state_at old.present w)) (StopOn Size (state_at old.present w)) (ap (λ (x : List Text). nat_le (size x) most_bytes) (sym (same_fields w)) ∙ h) ∙ again w,
      record { marked = refl; begun = refl },
    )

    pub fields_found : (found : List Text) → found ≡ fields_in limits.shell (parameters_at old.present) words → nat_le (size (fields_in limits.shell (parameters_at old.present) words)) most_bytes ≡ true → (w : outcomes.OutcomeWord) → place_fields limits (reads_again words) found f.script (f ∷ fs) (state_at old.present w) ≡ fields_again limits (words_in_front f) f fs (state_at old.present w)
    fields_found found e h w =
        ap (λ (x : List Text). place_fields limits (reads_again words) x f.script (f ∷ fs) (state_at old.present w)) (e ∙ same_fields w)
        ∙ chosen (nat_le (size (expanded w)) most_bytes) (place_fields limits (reads_again words) (expanded w) f.script (f ∷ fs) (state_at old.present w)) (StopOn Size (state_at old.present w)) (ap (λ (x : List Text). nat_le (size x) most_bytes) (sym (same_fields w)) ∙ h)
        ∙ again w
