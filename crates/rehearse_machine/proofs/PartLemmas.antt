-- Parts of the program's scripts by their numbers.
use Rattle.std.proofs.Common.{ℕ, zero, suc, ◌-◌, Bool, List, [], ◌∷◌, map, length, get_or, Option, Some, None, refl, sym, ap, ◌∙◌, ◌≡◌, ◌<◌, ◌≤◌}
use Rattle.std.specs.Prelude.{Vec, slice_get}
use Rattle.std.proofs.lemmas.Option.{slice_get_read, slice_get_past}
use Rattle.std.specs.declared.alloc.Global.{Global}
use Rattle.std.specs.declared.rc.Rc.{Rc}
use Rattle.hushlang.specs.declared.call.Call.{Call}
use Rattle.hushlang.specs.declared.tree.Word.{Word}
use Rattle.hushlang.specs.declared.tree.AndOr.{AndOr as ListCode}
use Rattle.hushlang.specs.declared.tree.Command.{Command as CommandCode, Simple, Assign, If, Loop, For}
use Rattle.hushlang.specs.declared.tree.Script.{Script as Code, out-Script}
use Rattle.hushlang.specs.Tree as tree
use Rattle.hushlang.specs.Tree.{Script, AndOr, Command}
use Rattle.hushlang.specs.TreesShown as view
use Rattle.hushlang.proofs.ViewLemmas.{script_out, list_of}
use Rattle.bootstore_state.specs.declared.frame.At.{At}
use Rattle.bootstore_state.specs.Moment.{RunningFrame}
use Rattle.rehearse_terms.specs.State.{Text, State}
use Rattle.rehearse_rules.specs.Execution.{Limits}
use Rattle.rehearse_machine.specs.Places.{GoOn, list_at, joined_at, command_in, command_at, second, place_begins, place_turn, place_list, phase_move, for_turn, for_move}
use Rattle.rehearse_machine.proofs.ArmLemmas.{Arm}
use Rattle.rehearse_machine.proofs.CommandLemmas.{says_if, says_loop, says_simple, says_assign, says_for, Kind, AsSimple, AsAssign, AsIf, AsLoop, AsFor, kind_of}
use Rattle.rehearse_machine.proofs.ListLemmas.{Join, back, join_some, join_none}
use Rattle.rehearse_terms.specs.declared.shell.Shell.{Shell}

list_some : (items : List ListCode) (i : ℕ) (l : ListCode) → slice_get items i ≡ Some l → list_at (view.runs (map view.list items)) i ≡ Some (view.list l)
list_some [] i l e = absurd (let f = e in cc)
list_some (x ∷ xs) zero l e = let f : x ≡ l = (let g = e in cc) in ap (λ (y : ListCode). Some (view.list y)) f
list_some (x ∷ xs) (suc i) l e = list_some xs i l e

list_none : (items : List ListCode) (i : ℕ) → slice_get items i ≡ None → list_at (view.runs (map view.list items)) i ≡ None
list_none [] i e = refl
list_none (x ∷ xs) zero e = absurd (let f = e in cc)
list_none (x ∷ xs) (suc i) e = list_none xs i e

module _ (s : Code) (items : List ListCode) (at : At) (f : RunningFrame) (says : view.script s ≡ f.script) (is : items ≡ (out-Script s).lists.items) (here : at ≡ f.place) where
  lists : list_at f.script f.place.list ≡ list_at (view.runs (map view.list items)) at.list
  lists =
      ap (λ (x : Script). list_at x f.place.list) (sym says ∙ script_out s ∙ ap (λ (x : List ListCode). view.runs (map view.list x)) (sym is))
      ∙ ap (λ (x : At). list_at (view.runs (map view.list items)) x.list) (sym here)

  pub list_found : (l : ListCode) → at.list < length items → l ≡ get_or items at.list l → list_at f.script f.place.list ≡ Some (view.list l)
  list_found l within e = lists ∙ list_some items at.list l (slice_get_read items (length items) at.list l refl within e)

  pub list_missing : length items ≤ at.list → list_at f.script f.place.list ≡ None
  list_missing past = lists ∙ list_none items at.list (slice_get_past items at.list past)

module _ (l : ListCode) (n : ℕ) where
  opened : command_in (view.list l) n ≡ command_in (tree.Starts (view.command l.first) (view.joins (map view.joined l.rest.items))) n
  opened = ap (λ (x : AndOr). command_in x n) (list_of l.first l.rest)

  pub first_command : n ≡ 0 → Some (view.command l.first) ≡ command_in (view.list l) n
  first_command e = sym (opened ∙ ap (command_in (tree.Starts (view.command l.first) (view.joins (map view.joined l.rest.items)))) e)

  later : (n ≡ 0 → ⊥) → command_in (view.list l) n ≡ command_in (tree.Starts (view.command l.first) (view.joins (map view.joined l.rest.items))) (suc (n - 1))
  later h = opened ∙ ap (command_in (tree.Starts (view.command l.first) (view.joins (map view.joined l.rest.items)))) (back n h)

  pub later_command : (items : List Join) (p : Join) → items ≡ l.rest.items → (n ≡ 0 → ⊥) → n - 1 < length items → p ≡ get_or items (n - 1) p → Some (view.command p.1) ≡ command_in (view.list l) n
  later_command items p is h within e =
      sym (later h ∙ ap (λ (x : List Join). command_in (tree.Starts (view.command l.first) (view.joins (map view.joined x))) (suc (n - 1))) (sym is)
      ∙ ap second (join_some items (n - 1) p (slice_get_read items (length items) (n - 1) p refl within e)))

  pub no_command : (items : List Join) → items ≡ l.rest.items → (n ≡ 0 → ⊥) → length items ≤ n - 1 → None ≡ command_in (view.list l) n
  no_command items is h past =
      sym (later h ∙ ap (λ (x : List Join). command_in (tree.Starts (view.command l.first) (view.joins (map view.joined x))) (suc (n - 1))) (sym is)
      ∙ ap second (join_none items (n - 1) (slice_get_past items (n - 1) past)))

-- the command after another one
module _ (l : ListCode) (n : ℕ) (items : List Join) (is : items ≡ l.rest.items) where
  behind : command_in (view.list l) (suc n) ≡ second (joined_at (view.joins (map view.joined items)) n)
  behind = opened l (suc n) ∙ ap (λ (x : List Join). second (joined_at (view.joins (map view.joined x)) n)) (sym is)

  pub command_found_behind : (p : Join) → n < length items → p ≡ get_or items n p → Some (view.command p.1) ≡ command_in (view.list l) (suc n)
  command_found_behind p within e = sym (behind ∙ ap second (join_some items n p (slice_get_read items (length items) n p refl within e)))

  pub no_command_behind : length items ≤ n → None ≡ command_in (view.list l) (suc n)
  no_command_behind past = sym (behind ∙ ap second (join_none items n (slice_get_past items n past)))

module _ (l : ListCode) (o : Option AndOr) (at : At) (f : RunningFrame) (found : o ≡ Some (view.list l)) (here : at ≡ f.place) where
  command_here : (c : Option Command) → c ≡ command_in (view.list l) at.command → command_in (view.list l) f.place.command ≡ c
  command_here c e = ap (λ (x : At). command_in (view.list l) x.command) (sym here) ∙ sym e

  pub command_there : (c : Option Command) → c ≡ command_in (view.list l) at.command → command_at o f.place.command ≡ c
  command_there c e = ap (λ (x : Option AndOr). command_at x f.place.command) found ∙ command_here c e

  pub list_goes : (limits : Limits) (fs : List RunningFrame) → at.turn ≡ 0 → (s : State) → place_begins limits (view.list l) f.place.command f fs s ≡ place_list limits o f fs s
  list_goes limits fs z s =
      sym (ap (λ (x : Option AndOr). place_list limits x f fs s) found
      ∙ ap (λ (n : ℕ). place_turn limits (view.list l) n f fs s) (ap (λ (x : At). x.turn) (sym here) ∙ z))

  pub block_ends : (limits : Limits) (fs : List RunningFrame) (c : Option Command) → (at.turn ≡ 0 → ⊥) → c ≡ command_in (view.list l) at.command → (s : State) → phase_move limits.shell c (at.turn - 1) f fs s ≡ place_list limits o f fs s
  block_ends limits fs c h e s =
      sym (ap (λ (x : Option AndOr). place_list limits x f fs s) found
      ∙ ap (λ (n : ℕ). place_turn limits (view.list l) n f fs s) (ap (λ (x : At). x.turn) (sym here) ∙ back at.turn h)
      ∙ ap (λ (x : Option Command). phase_move limits.shell x (at.turn - 1) f fs s) (command_here c e))

module _ (shell : Shell) (o : Option Command) (c : CommandCode) (f : RunningFrame) (fs : List RunningFrame) (s : State) (found : o ≡ Some (view.command c)) where
  goes : (k : Command) → view.command c ≡ k → for_move shell o f fs s ≡ for_move shell (Some k) f fs s
  goes k e = ap (λ (x : Option Command). for_move shell x f fs s) (found ∙ ap Some e)

  pub for_goes : (name : Vec ℕ Global) (words : Vec Word Global) (body : Rc Code Global) (bytes : Text) → c ≡ For name words body → bytes ≡ name.items → for_turn shell (slice_get f.words f.place.turn) bytes (view.script body.value) f fs s ≡ for_move shell o f fs s
  for_goes name words body bytes e n =
      ap (λ (x : Text). for_turn shell (slice_get f.words f.place.turn) x (view.script body.value) f fs s) n
      ∙ sym (goes (tree.For name.items (map view.word words.items) (view.script body.value)) (says_for c name words body e))

  no_for_simple : (call : Call) → c ≡ Simple call → GoOn fs s ≡ for_move shell o f fs s
  no_for_simple call e = sym (goes (tree.Simple (view.call call)) (says_simple c call e))

  no_for_assign : (values : Vec (Vec ℕ Global × Word) Global) → c ≡ Assign values → GoOn fs s ≡ for_move shell o f fs s
  no_for_assign values e = sym (goes (tree.Assign (view.values_in values)) (says_assign c values e))

  no_for_if : (arms : Vec Arm Global) (other : Option (Rc Code Global)) → c ≡ If arms other → GoOn fs s ≡ for_move shell o f fs s
  no_for_if arms other e = sym (goes (tree.If (view.arms (map view.arm arms.items) (view.script_in other))) (says_if c arms other e))

  no_for_loop : (until : Bool) (cond body : Rc Code Global) → c ≡ Loop until cond body → GoOn fs s ≡ for_move shell o f fs s
  no_for_loop until cond body e = sym (goes (tree.Loop until (view.script cond.value) (view.script body.value)) (says_loop c until cond body e))

  no_for-at : Kind c → ((name : Vec ℕ Global) (words : Vec Word Global) (body : Rc Code Global) → c ≡ For name words body → ⊥) → GoOn fs s ≡ for_move shell o f fs s
  no_for-at (AsSimple call e) other = no_for_simple call e
  no_for-at (AsAssign values e) other = no_for_assign values e
  no_for-at (AsIf arms rest e) other = no_for_if arms rest e
  no_for-at (AsLoop until cond body e) other = no_for_loop until cond body e
  no_for-at (AsFor name words body e) other = absurd (other name words body e)

  -- a command that is not a `for` is left
  pub no_for : ((name : Vec ℕ Global) (words : Vec Word Global) (body : Rc Code Global) → c ≡ For name words body → ⊥) → GoOn fs s ≡ for_move shell o f fs s
  no_for = no_for-at (kind_of c)
