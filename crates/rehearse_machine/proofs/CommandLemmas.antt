-- Commands of the program's tree, by what they say.
use Rattle.std.proofs.Common.{ℕ, zero, suc, Bool, List, ◌∷◌, map, Option, Some, refl, sym, ap, ◌∙◌, ◌≡◌}
use Rattle.std.specs.declared.alloc.Global.{Global}
use Rattle.std.specs.declared.rc.Rc.{Rc}
use Rattle.std.specs.declared.vec.Vec.{Vec}
use Rattle.hushlang.specs.declared.call.Call.{Call}
use Rattle.hushlang.specs.declared.tree.Script.{Script as Code}
use Rattle.hushlang.specs.declared.tree.Word.{Word}
use Rattle.hushlang.specs.declared.tree.AndOr.{AndOr as ListCode}
use Rattle.hushlang.specs.declared.tree.Command.{Command as CommandCode, Command-F, Simple, Assign, If, Loop, For, out-Command, roll-Command, roll-out-Command}
use Rattle.hushlang.specs.declared.tree.Command.TheVariants.{rolls-Simple, rolls-Assign, rolls-If, rolls-Loop, rolls-For}
use Rattle.hushlang.specs.declared.tree.Command.TheOpen as open_command
use Rattle.hushlang.specs.Tree as tree
use Rattle.hushlang.specs.Tree.{Script, Command, Arms}
use Rattle.hushlang.specs.TreesShown as view
use Rattle.hushlang.proofs.ViewLemmas.{command_simple, command_assign, command_loop, command_for, command_if}
use Rattle.bootstore_state.specs.declared.frame.At.{At}
use Rattle.bootstore_state.specs.Moment.{RunningFrame}
use Rattle.rehearse_terms.specs.State.{State}
use Rattle.rehearse_machine.specs.Places.{GoOn, drop_arms, place, moved_to, in_turn, block_frame, condition_ends, loop_ends, phase_move, if_moves, loop_moves, behind}
use Rattle.rehearse_machine.proofs.ArmLemmas.{Arm}
use Rattle.rehearse_terms.specs.declared.shell.Shell.{Shell}

abbrev pub says_if : (c : CommandCode) (arms : Vec Arm Global) (o : Option (Rc Code Global)) → c ≡ If arms o → view.command c ≡ tree.If (view.arms (map view.arm arms.items) (view.script_in o))
says_if c arms o e = ap view.command e ∙ command_if arms o

abbrev pub says_loop : (c : CommandCode) (until : Bool) (cond body : Rc Code Global) → c ≡ Loop until cond body → view.command c ≡ tree.Loop until (view.script cond.value) (view.script body.value)
says_loop c until cond body e = ap view.command e ∙ command_loop until cond body

abbrev pub says_simple : (c : CommandCode) (call : Call) → c ≡ Simple call → view.command c ≡ tree.Simple (view.call call)
says_simple c call e = ap view.command e ∙ command_simple call

abbrev pub says_assign : (c : CommandCode) (values : Vec (Vec ℕ Global × Word) Global) → c ≡ Assign values → view.command c ≡ tree.Assign (view.values_in values)
says_assign c values e = ap view.command e ∙ command_assign values

abbrev pub says_for : (c : CommandCode) (name : Vec ℕ Global) (words : Vec Word Global) (body : Rc Code Global) → c ≡ For name words body → view.command c ≡ tree.For name.items (map view.word words.items) (view.script body.value)
says_for c name words body e = ap view.command e ∙ command_for name words body

-- which kind of command it is, with what it says
pub data Kind (c : CommandCode) : Type 0 where
  AsSimple : (call : Call) → c ≡ Simple call → Kind c
  AsAssign : (values : Vec (Vec ℕ Global × Word) Global) → c ≡ Assign values → Kind c
  AsIf : (arms : Vec Arm Global) → (other : Option (Rc Code Global)) → c ≡ If arms other → Kind c
  AsLoop : (until : Bool) → (cond body : Rc Code Global) → c ≡ Loop until cond body → Kind c
  AsFor : (name : Vec ℕ Global) → (words : Vec Word Global) → (body : Rc Code Global) → c ≡ For name words body → Kind c

kind_at : (c : CommandCode) (k : Command-F CommandCode ListCode Code) → c ≡ roll-Command k → Kind c
kind_at c (open_command.Simple call) e = AsSimple call (e ∙ rolls-Simple call)
kind_at c (open_command.Assign values) e = AsAssign values (e ∙ rolls-Assign values)
kind_at c (open_command.If arms other) e = AsIf arms other (e ∙ rolls-If arms other)
kind_at c (open_command.Loop until cond body) e = AsLoop until cond body (e ∙ rolls-Loop until cond body)
kind_at c (open_command.For name words body) e = AsFor name words body (e ∙ rolls-For name words body)

pub kind_of : (c : CommandCode) → Kind c
kind_of c = kind_at c (out-Command c) (sym (roll-out-Command c))

module _ (shell : Shell) (c : CommandCode) (turn : ℕ) (f : RunningFrame) (fs : List RunningFrame) (s : State) where
  pub if_ends : (arms : Vec Arm Global) (o : Option (Rc Code Global)) (list : List Arm) → c ≡ If arms o → list ≡ arms.items → f.place.last ≡ 0 → condition_ends shell (drop_arms turn (view.arms (map view.arm list) (view.script_in o))) turn f fs s ≡ phase_move shell (Some (view.command c)) turn f fs s
  if_ends arms o list e l z =
      ap (λ (x : List Arm). condition_ends shell (drop_arms turn (view.arms (map view.arm x) (view.script_in o))) turn f fs s) l
      ∙ sym (ap (λ (n : ℕ). if_moves shell n (view.arms (map view.arm arms.items) (view.script_in o)) turn f fs s) z)
      ∙ sym (ap (λ (x : Command). phase_move shell (Some x) turn f fs s) (says_if c arms o e))

  if_over : (n : ℕ) → (n ≡ 0 → ⊥) → (arms : Arms) → GoOn (behind f ∷ fs) s ≡ if_moves shell n arms turn f fs s
  if_over zero h arms = absurd (h refl)
  if_over (suc n) h arms = refl

  -- an `if` that is over
  pub if_is_over : (arms : Vec Arm Global) (o : Option (Rc Code Global)) (at : At) → c ≡ If arms o → (f.place.last ≡ 0 → ⊥) → at ≡ place f.place.list (suc f.place.command) 0 0 → GoOn (moved_to at f ∷ fs) s ≡ phase_move shell (Some (view.command c)) turn f fs s
  if_is_over arms o at e z k =
      ap (λ (x : At). GoOn (moved_to x f ∷ fs) s) k ∙ if_over f.place.last z (view.arms (map view.arm arms.items) (view.script_in o))
      ∙ sym (ap (λ (x : Command). phase_move shell (Some x) turn f fs s) (says_if c arms o e))

  pub loop_checked : (until : Bool) (cond body : Rc Code Global) → c ≡ Loop until cond body → turn ≡ 0 → loop_ends shell until (view.script body.value) f fs s ≡ phase_move shell (Some (view.command c)) turn f fs s
  loop_checked until cond body e t = sym (ap (λ (x : Command). phase_move shell (Some x) turn f fs s) (says_loop c until cond body e) ∙ ap (λ (n : ℕ). phase_move shell (Some (tree.Loop until (view.script cond.value) (view.script body.value))) n f fs s) t)

  again : (n : ℕ) → (n ≡ 0 → ⊥) → (until : Bool) (x y : Script) → loop_moves f.place.last x f fs s ≡ phase_move shell (Some (tree.Loop until x y)) n f fs s
  again zero h until x y = absurd (h refl)
  again (suc n) h until x y = refl

  loop_over : (n : ℕ) → (n ≡ 0 → ⊥) → (x : Script) → GoOn (behind f ∷ fs) s ≡ loop_moves n x f fs s
  loop_over zero h x = absurd (h refl)
  loop_over (suc n) h x = refl

  -- a loop that is over
  pub loop_is_over : (until : Bool) (cond body : Rc Code Global) (at : At) → c ≡ Loop until cond body → (turn ≡ 0 → ⊥) → (f.place.last ≡ 0 → ⊥) → at ≡ place f.place.list (suc f.place.command) 0 0 → GoOn (moved_to at f ∷ fs) s ≡ phase_move shell (Some (view.command c)) turn f fs s
  loop_is_over until cond body at e t z k =
      ap (λ (x : At). GoOn (moved_to x f ∷ fs) s) k ∙ loop_over f.place.last z (view.script cond.value) ∙ again turn t until (view.script cond.value) (view.script body.value)
      ∙ sym (ap (λ (x : Command). phase_move shell (Some x) turn f fs s) (says_loop c until cond body e))

  pub loop_again : (until : Bool) (cond body : Rc Code Global) (last : ℕ) → c ≡ Loop until cond body → (turn ≡ 0 → ⊥) → f.place.last ≡ 0 → last ≡ s.memory.status → GoOn (block_frame (view.script cond.value) ∷ in_turn 1 last f ∷ fs) s ≡ phase_move shell (Some (view.command c)) turn f fs s
  loop_again until cond body last e t z l =
      ap (λ (n : ℕ). GoOn (block_frame (view.script cond.value) ∷ in_turn 1 n f ∷ fs) s) l
      ∙ sym (ap (λ (n : ℕ). loop_moves n (view.script cond.value) f fs s) z) ∙ again turn t until (view.script cond.value) (view.script body.value)
      ∙ sym (ap (λ (x : Command). phase_move shell (Some x) turn f fs s) (says_loop c until cond body e))

  pub no_block_simple : (call : Call) (at : At) → c ≡ Simple call → at ≡ place f.place.list (suc f.place.command) 0 0 → GoOn (moved_to at f ∷ fs) s ≡ phase_move shell (Some (view.command c)) turn f fs s
  no_block_simple call at e k = ap (λ (x : At). GoOn (moved_to x f ∷ fs) s) k ∙ sym (ap (λ (x : Command). phase_move shell (Some x) turn f fs s) (says_simple c call e))

  pub no_block_assign : (values : Vec (Vec ℕ Global × Word) Global) (at : At) → c ≡ Assign values → at ≡ place f.place.list (suc f.place.command) 0 0 → GoOn (moved_to at f ∷ fs) s ≡ phase_move shell (Some (view.command c)) turn f fs s
  no_block_assign values at e k = ap (λ (x : At). GoOn (moved_to x f ∷ fs) s) k ∙ sym (ap (λ (x : Command). phase_move shell (Some x) turn f fs s) (says_assign c values e))

  pub no_block_for : (name : Vec ℕ Global) (words : Vec Word Global) (body : Rc Code Global) (at : At) → c ≡ For name words body → at ≡ place f.place.list (suc f.place.command) 0 0 → GoOn (moved_to at f ∷ fs) s ≡ phase_move shell (Some (view.command c)) turn f fs s
  no_block_for name words body at e k = ap (λ (x : At). GoOn (moved_to x f ∷ fs) s) k ∙ sym (ap (λ (x : Command). phase_move shell (Some x) turn f fs s) (says_for c name words body e))
