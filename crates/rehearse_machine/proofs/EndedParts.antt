-- What the program finds of a frame that may have nothing left to do.
use Rattle.std.proofs.Common.{ℕ, zero, suc, ◌+◌, ◌<◌, ◌≤◌, Bool, true, false, not, ◌&&◌, ◌||◌, List, [], ◌∷◌, length, map, get_or, Option, Some, None, refl, sym, ap, ◌∙◌, ◌≡◌, ◌⊎◌, inl, inr, add-one, nat_eq, nat_lt}
use Rattle.std.specs.Prelude.{Vec, is_some, option_map, slice_get}
use Rattle.std.specs.declared.alloc.Global.{Global}
use Rattle.std.proofs.lemmas.Bool.{le-ltb, lt-ltb}
use Rattle.std.proofs.lemmas.Option.{slice_get_cases}
use Rattle.std.proofs.lemmas.List.{length-map}
use Rattle.text.specs.TextsShown.{bytes_of_words}
use Rattle.hushlang.specs.Tree.{Script, AndOr, Command}
use Rattle.hushlang.specs.TreesShown as view
use Rattle.hushlang.specs.declared.tree.AndOr.{AndOr as ListCode}
use Rattle.hushlang.specs.declared.tree.Script.{Script as Code, out-Script}
use Rattle.hushlang.proofs.ViewLemmas.{script_out}
use Rattle.rehearse_terms.specs.State.{Text}
use Rattle.bootstore_state.specs.declared.frame.At.{At}
use Rattle.bootstore_state.specs.declared.frame.FrameKind.{FrameKind}
use Rattle.bootstore_state.specs.Moment.{RunningFrame}
use Rattle.bootstore_state.specs.Record.{Record, changed, with_frame, without_frame, without_first}
use Rattle.rehearse_machine.specs.Places.{list_at}
use Rattle.rehearse_machine.specs.EndedTexts.{is_run, next_command, has_more, has_command, is_done, has_run_all, below_blocks, may_drop, without_text, without_blocks, with_fewer}
use Rattle.rehearse_machine.proofs.EndedLemmas.{lightened_by}

-- ---- parts that are there

in_list : {X : Type 0} (xs : List X) (i : ℕ) → ((x : X) × (i < length xs) × (slice_get xs i ≡ Some x) × (get_or xs i x ≡ x)) ⊎ ((length xs ≤ i) × (slice_get xs i ≡ None)) → is_some (slice_get xs i) ≡ nat_lt i (length xs)
in_list {X} xs i (inl h) = ap (λ (o : Option X). is_some o) h.2 ∙ sym (lt-ltb i (length xs) h.1)
in_list {X} xs i (inr h) = ap (λ (o : Option X). is_some o) h.1 ∙ sym (le-ltb i (length xs) h.0)

item_found : {X : Type 0} (xs : List X) (i : ℕ) → is_some (slice_get xs i) ≡ nat_lt i (length xs)
item_found xs i = in_list xs i (slice_get_cases xs i).1

pub name_found : (items : List (Vec ℕ Global)) (words : List Text) (k j : ℕ) → bytes_of_words items ≡ words → k ≡ j → is_some (slice_get words j) ≡ nat_lt k (length items)
name_found items words k j e same =
    ap (λ (x : List Text). is_some (slice_get x j)) (sym e)
    ∙ ap (λ (n : ℕ). is_some (slice_get (bytes_of_words items) n)) (sym same)
    ∙ item_found (bytes_of_words items) k ∙ ap (nat_lt k) (length-map items (λ (v : Vec ℕ Global). v.items))

list_there : (items : List ListCode) (i : ℕ) → is_some (list_at (view.runs (map view.list items)) i) ≡ is_some (slice_get items i)
list_there [] i = refl
list_there (x ∷ xs) zero = refl
list_there (x ∷ xs) (suc i) = list_there xs i

pub next_list_found : (s : Code) (items : List ListCode) (at : At) (f : RunningFrame) → view.script s ≡ f.script → items ≡ (out-Script s).lists.items → at ≡ f.place → is_some (list_at f.script (suc f.place.list)) ≡ nat_lt (at.list + 1) (length items)
next_list_found s items at f says same here =
    ap (λ (x : Script). is_some (list_at x (suc f.place.list))) (sym says ∙ script_out s ∙ ap (λ (x : List ListCode). view.runs (map view.list x)) (sym same))
    ∙ ap (λ (x : At). is_some (list_at (view.runs (map view.list items)) (suc x.list))) (sym here)
    ∙ list_there items (suc at.list) ∙ item_found items (suc at.list) ∙ ap (λ (n : ℕ). nat_lt n (length items)) (sym (add-one at.list))

pub mapped : {A B : Type 0} (f : A → B) (o : Option A) (b c : Bool) → b ≡ is_some o → b ≡ c → is_some (option_map f o) ≡ c
mapped f None b c e h = sym e ∙ h
mapped f (Some x) b c e h = sym e ∙ h

-- ---- what is left

module _ (f : RunningFrame) where
  pub name_left : is_some (slice_get f.words f.place.turn) ≡ true → false ≡ has_run_all f
  name_left e = sym (ap (λ (b : Bool). not b && is_run f.kind && not (nat_eq f.place.turn 0)) e)

  pub run_begun : (kind : FrameKind) (turn : ℕ) → is_run kind ≡ true → kind ≡ f.kind → turn ≡ f.place.turn → not (nat_eq turn 0) ≡ is_run f.kind && not (nat_eq f.place.turn 0)
  run_begun kind turn e k h =
      ap (λ (n : ℕ). not (nat_eq n 0)) h ∙ sym (ap (λ (b : Bool). b && not (nat_eq f.place.turn 0)) (sym (ap is_run k) ∙ e))

  pub no_run : (kind : FrameKind) → is_run kind ≡ false → kind ≡ f.kind → false ≡ is_run f.kind && not (nat_eq f.place.turn 0)
  no_run kind e k = sym (ap (λ (b : Bool). b && not (nat_eq f.place.turn 0)) (sym (ap is_run k) ∙ e))

  pub no_name_left : (b : Bool) → is_some (slice_get f.words f.place.turn) ≡ false → b ≡ is_run f.kind && not (nat_eq f.place.turn 0) → b ≡ has_run_all f
  no_name_left b e h = h ∙ sym (ap (λ (x : Bool). not x && is_run f.kind && not (nat_eq f.place.turn 0)) e)

  abbrev after : Option AndOr
  after = list_at f.script (suc f.place.list)

  pub no_list_here : list_at f.script f.place.list ≡ None → false ≡ has_command f
  no_list_here e = sym (ap (λ (o : Option AndOr). has_more o f.place after) e)

  module _ (l : AndOr) (at : At) (o : Option Command) (e : list_at f.script f.place.list ≡ Some l) (here : at ≡ f.place) (is : o ≡ next_command l at) where
    next_is : is_some o || is_some after ≡ has_command f
    next_is =
        sym (ap (λ (x : Option AndOr). has_more x f.place after) e
        ∙ ap (λ (x : At). is_some (next_command l x) || is_some after) (sym here)
        ∙ ap (λ (x : Option Command). is_some x || is_some after) (sym is))

    pub command_here : is_some o ≡ true → true ≡ has_command f
    command_here some = sym (ap (λ (x : Bool). x || is_some after) some) ∙ next_is

    pub list_after : (b : Bool) → is_some o ≡ false → b ≡ is_some after → b ≡ has_command f
    list_after b none last = last ∙ sym (ap (λ (x : Bool). x || is_some after) none) ∙ next_is

-- ---- frames that are dropped

pub all_stay : (old : Record) → may_drop old.present.frames ≡ false → old ≡ changed with_fewer old
all_stay old e = ap (λ (x : List RunningFrame). record old { present = record old.present { frames = x } }) (sym (lightened_by old.present.frames false e))

no_top : (fs : List RunningFrame) → None ≡ slice_get fs 0 → may_drop fs ≡ false
no_top [] e = refl
no_top (f ∷ fs) e = absurd (let g = e in cc)

pub none_there : (old : Record) → None ≡ slice_get old.present.frames 0 → old ≡ changed with_fewer old
none_there old e = all_stay old (no_top old.present.frames e)

top_kept : (fs : List RunningFrame) (f g : RunningFrame) → Some f ≡ slice_get fs 0 → g ≡ f → g ∷ without_first (without_first (below_blocks (without_first fs))) ≡ without_text fs
top_kept [] f g e k = absurd (let h = e in cc)
top_kept (x ∷ xs) f g e k = let same : x ≡ f = (let h = e in cc) in ap (λ (y : RunningFrame). y ∷ without_first (without_first (below_blocks xs))) (k ∙ sym same)

pub text_dropped : (old one two three four new : Record) (f g : RunningFrame) → Some f ≡ slice_get old.present.frames 0 → may_drop old.present.frames ≡ true → g ≡ f
    → one ≡ changed without_frame old → two ≡ changed without_blocks one → three ≡ changed without_frame two → four ≡ changed without_frame three → new ≡ changed (with_frame g) four
    → new ≡ changed with_fewer old
text_dropped old one two three four new f g top may same a b c d e =
    e ∙ ap (changed (with_frame g)) (d ∙ ap (changed without_frame) (c ∙ ap (changed without_frame) (b ∙ ap (changed without_blocks) a)))
    ∙ ap (λ (x : List RunningFrame). record old { present = record old.present { frames = x } })
    (top_kept old.present.frames f g top same ∙ sym (lightened_by old.present.frames true may))

-- ---- blocks at their end

below_when : (x : RunningFrame) (xs : List RunningFrame) (f : RunningFrame) (b : Bool) → Some f ≡ slice_get (x ∷ xs) 0 → is_done f ≡ b → below_blocks (x ∷ xs) ≡ elim b [ true ↦ below_blocks xs | false ↦ x ∷ xs ]
below_when x xs f b e d =
    let same : x ≡ f = (let h = e in cc) in
    ap (λ (c : Bool). elim c [ true ↦ below_blocks xs | false ↦ x ∷ xs ]) (ap is_done same ∙ d)

below_done : (fs : List RunningFrame) (f : RunningFrame) → Some f ≡ slice_get fs 0 → is_done f ≡ true → below_blocks (without_first fs) ≡ below_blocks fs
below_done [] f e d = refl
below_done (x ∷ xs) f e d = sym (below_when x xs f true e d)

below_other : (fs : List RunningFrame) (f : RunningFrame) → Some f ≡ slice_get fs 0 → is_done f ≡ false → below_blocks fs ≡ fs
below_other [] f e d = refl
below_other (x ∷ xs) f e d = below_when x xs f false e d

below_none : (fs : List RunningFrame) → None ≡ slice_get fs 0 → below_blocks fs ≡ fs
below_none [] e = refl
below_none (x ∷ xs) e = absurd (let h = e in cc)

module _ (old now : Record) (so_far : changed without_blocks now ≡ changed without_blocks old) where
  pub block_dropped : (new : Record) (f : RunningFrame) → Some f ≡ slice_get now.present.frames 0 → is_done f ≡ true → new ≡ changed without_frame now → changed without_blocks new ≡ changed without_blocks old
  block_dropped new f top is e =
      ap (changed without_blocks) e
      ∙ ap (λ (x : List RunningFrame). record now { present = record now.present { frames = x } }) (below_done now.present.frames f top is)
      ∙ so_far

  all_dropped : below_blocks now.present.frames ≡ now.present.frames → now ≡ changed without_blocks old
  all_dropped e = sym (ap (λ (x : List RunningFrame). record now { present = record now.present { frames = x } }) e) ∙ so_far

  pub other_left : (f : RunningFrame) → Some f ≡ slice_get now.present.frames 0 → is_done f ≡ false → now ≡ changed without_blocks old
  other_left f top is = all_dropped (below_other now.present.frames f top is)

  pub none_left : None ≡ slice_get now.present.frames 0 → now ≡ changed without_blocks old
  none_left none = all_dropped (below_none now.present.frames none)
