-- An ended text that is dropped, without the lowest frames.
use Rattle.std.proofs.Common.{◌≡◌, ◌∙◌, ◌+◌, ◌-◌, ◌<◌, ◌≤◌, arith, refl, sym, ap, subst, ℕ, Bool, true, false, not, nat_eq, ◌&&◌, is_some, min, List, [], ◌∷◌, ◌++◌, length, reverse, Option, Some, None, option_and_then}
use Rattle.std.specs.Prelude.{slice_get}
use Rattle.std.proofs.Math.Nat.{min-le_right}
use Rattle.std.proofs.lemmas.List.{length-append, length-reverse}
use Rattle.bootstore_state.specs.Moment.{RunningFrame}
use Rattle.bootstore_state.specs.Record.{Record, changed, without_first}
use Rattle.bootstore_state.specs.declared.frame.FrameKind.{FrameKind}
use Rattle.bootstore_state.specs.declared.frame.FrameKind.TheVariants as kinds
use Rattle.rehearse_machine.specs.EndedTexts.{DropsEnded, GoOnAlike, begins, below_blocks, below_ended, below_text, below_three, has_ended, has_run_all, is_at_end, is_block, is_done, is_run, is_text, lightened, may_drop, with_fewer}
use Rattle.rehearse_machine.specs.Meaning.{continue}
use Rattle.rehearse_machine.specs.Places.{frames_of}
use Rattle.rehearse_machine.proofs.EndedLemmas.{drops_ended, lightened_by}
use Rattle.rehearse_frames.specs.Above.{above}
use Rattle.rehearse_frames.proofs.LowestFrames.{above_long, above_under, lowest, with_lowest}
use Rattle.rehearse_reports.specs.Looping.{GoAlikeAbove, below_run}
use Rattle.rehearse_reports.proofs.StepLemmas.{blocks_shorter, both_hold}

abbrev choose : Bool → (first second : List RunningFrame) → List RunningFrame
choose b first second = elim b [ true ↦ first | false ↦ second ]

first_holds : (a b : Bool) → a && b ≡ true → a ≡ true
first_holds true b e = refl
first_holds false b e = absurd (cc)

-- ---- an ended text and its `run`

record IsText (text run : RunningFrame) : Type 0 where
  pub text_ends : has_ended text ≡ true
  pub run_ends : has_run_all run ≡ true

text_by : (text run : RunningFrame) (fs r : List RunningFrame) (b : Bool) → has_ended text && has_run_all run ≡ b → elim b [ true ↦ Some fs | false ↦ None ] ≡ Some r → IsText text run × (fs ≡ r)
text_by text run fs r true both e = (record { text_ends = first_holds (has_ended text) (has_run_all run) both; run_ends = both_hold (has_ended text) (has_run_all run) both }, (let f = e in cc))
text_by text run fs r false both e = absurd (let f = e in cc)

text_is : (text run : RunningFrame) (fs r : List RunningFrame) → below_text (text ∷ run ∷ fs) ≡ Some r → IsText text run × (fs ≡ r)
text_is text run fs r e = text_by text run fs r (has_ended text && has_run_all run) refl e

text_again : (text run : RunningFrame) (fs : List RunningFrame) → IsText text run → below_text (text ∷ run ∷ fs) ≡ Some fs
text_again text run fs is =
    ap (λ (b : Bool). elim (b && has_run_all run) [ true ↦ Some fs | false ↦ None ]) is.text_ends ∙ ap (λ (b : Bool). elim b [ true ↦ Some fs | false ↦ None ]) is.run_ends

text_shorter : (bs r : List RunningFrame) → below_text bs ≡ Some r → length r + 2 ≤ length bs
text_shorter [] r e = absurd (let f = e in cc)
text_shorter (t ∷ []) r e = absurd (let f = e in cc)
text_shorter (t ∷ u ∷ fs) r e = let same = ap (λ (xs : List RunningFrame). length xs) (text_is t u fs r e).1 in omega arith

text_rest : (bs r : List RunningFrame) → below_text bs ≡ Some r → without_first (without_first bs) ≡ r
text_rest [] r e = absurd (let f = e in cc)
text_rest (t ∷ []) r e = absurd (let f = e in cc)
text_rest (t ∷ u ∷ fs) r e = (text_is t u fs r e).1

ended_shorter : (fs r : List RunningFrame) → below_ended fs ≡ Some r → length r + 2 ≤ length fs
ended_shorter fs r e = let a = text_shorter (below_blocks fs) r e in let b = blocks_shorter fs in omega arith

-- ---- its `run` is the innermost one

no_run_is_block : (kind : FrameKind) → is_block kind ≡ true → is_run kind ≡ false
no_run_is_block kinds.Text e = refl
no_run_is_block kinds.Block e = refl
no_run_is_block kinds.For e = refl
no_run_is_block kinds.Run e = absurd (let f = e in cc)
no_run_is_block kinds.File e = refl

no_run_is_text : (kind : FrameKind) → is_text kind ≡ true → is_run kind ≡ false
no_run_is_text kinds.Text e = refl
no_run_is_text kinds.Block e = refl
no_run_is_text kinds.For e = refl
no_run_is_text kinds.Run e = absurd (let f = e in cc)
no_run_is_text kinds.File e = refl

past : (f : RunningFrame) (fs : List RunningFrame) → is_run f.kind ≡ false → below_run (f ∷ fs) ≡ below_run fs
past f fs e = ap (λ (b : Bool). choose b fs (below_run fs)) e

at_run : (f : RunningFrame) (fs : List RunningFrame) → is_run f.kind ≡ true → below_run (f ∷ fs) ≡ fs
at_run f fs e = ap (λ (b : Bool). choose b fs (below_run fs)) e

run_past_blocks : (fs : List RunningFrame) → below_run fs ≡ below_run (below_blocks fs)
run_past_blocks [] = refl
run_past_blocks (f ∷ fs) = by (is_done f) refl (run_past_blocks fs)
  where
    by : (b : Bool) → is_done f ≡ b → below_run fs ≡ below_run (below_blocks fs) → below_run (f ∷ fs) ≡ below_run (choose b (below_blocks fs) (f ∷ fs))
    by true e rest = past f fs (no_run_is_block f.kind (first_holds (is_block f.kind) (is_at_end f) e)) ∙ rest
    by false e rest = refl

run_in_text : (bs r : List RunningFrame) → below_text bs ≡ Some r → below_run bs ≡ r
run_in_text [] r e = absurd (let f = e in cc)
run_in_text (t ∷ []) r e = absurd (let f = e in cc)
run_in_text (t ∷ u ∷ fs) r e =
    let is = text_is t u fs r e in
    let named : Bool = not (is_some (slice_get u.words u.place.turn)) in
    let runs : is_run u.kind ≡ true = both_hold named (is_run u.kind) (first_holds (named && is_run u.kind) (not (nat_eq u.place.turn 0)) is.0.run_ends) in
    past t (u ∷ fs) (no_run_is_text t.kind (first_holds (is_text t.kind) (is_at_end t) is.0.text_ends)) ∙ at_run u fs runs ∙ is.1

run_in_ended : (fs r : List RunningFrame) → below_ended fs ≡ Some r → below_run fs ≡ r
run_in_ended fs r e = run_past_blocks fs ∙ run_in_text (below_blocks fs) r e

-- ---- with others below

module _ (qs : List RunningFrame) where
  blocks_over : (xs : List RunningFrame) → length qs < length (below_blocks (xs ++ qs)) → below_blocks (xs ++ qs) ≡ below_blocks xs ++ qs
  blocks_over [] more = absurd (let a = blocks_shorter qs in omega arith)
  blocks_over (x ∷ xs) more = by (is_done x) more (λ l. blocks_over xs l)
    where
      by : (b : Bool) → length qs < length (choose b (below_blocks (xs ++ qs)) (x ∷ xs ++ qs)) → (length qs < length (below_blocks (xs ++ qs)) → below_blocks (xs ++ qs) ≡ below_blocks xs ++ qs)
          → choose b (below_blocks (xs ++ qs)) (x ∷ xs ++ qs) ≡ choose b (below_blocks xs) (x ∷ xs) ++ qs
      by true l rest = rest l
      by false l rest = refl

  -- the same is below, and the others below that
  record Same (fs r : List RunningFrame) : Type 0 where
    pub rest : List RunningFrame
    pub ended : below_ended fs ≡ Some rest
    pub over : r ≡ rest ++ qs

  text_over : (bs r : List RunningFrame) → below_text (bs ++ qs) ≡ Some r → length qs ≤ length r → (rest : List RunningFrame) × (below_text bs ≡ Some rest) × (r ≡ rest ++ qs)
  text_over [] r e less = absurd (let a = text_shorter qs r e in omega arith)
  text_over (t ∷ []) r e less = absurd (let a = text_shorter (t ∷ qs) r e in omega arith)
  text_over (t ∷ u ∷ fs) r e less = let is = text_is t u (fs ++ qs) r e in (fs, text_again t u fs is.0, sym is.1)

  ended_over : (xs r : List RunningFrame) → below_ended (xs ++ qs) ≡ Some r → length qs ≤ length r → Same xs r
  ended_over xs r e less =
      let long = text_shorter (below_blocks (xs ++ qs)) r e in
      let blocks : below_blocks (xs ++ qs) ≡ below_blocks xs ++ qs = blocks_over xs (omega arith) in
      let is = text_over (below_blocks xs) r (ap below_text (sym blocks) ∙ e) less in
      record { rest = is.0; ended = is.1; over = is.2 }

  ended_over_as : (fs xs r : List RunningFrame) → fs ≡ xs ++ qs → below_ended fs ≡ Some r → length qs ≤ length r → Same xs r
  ended_over_as fs xs r is e less = ended_over xs r (ap below_ended (sym is) ∙ e) less

-- ---- three of them

record Three (fs : List RunningFrame) : Type 0 where
  pub one : List RunningFrame
  pub two : List RunningFrame
  pub three : List RunningFrame
  pub first : below_ended fs ≡ Some one
  pub second : below_ended one ≡ Some two
  pub third : below_ended two ≡ Some three

three_of : (fs : List RunningFrame) → is_some (below_three fs) ≡ true → Three fs
three_of fs e = by (below_ended fs) refl e
  where
    last : (one two : List RunningFrame) (o : Option (List RunningFrame)) → below_ended fs ≡ Some one → below_ended one ≡ Some two → below_ended two ≡ o → is_some o ≡ true → Three fs
    last one two None a b c d = absurd (let f = d in cc)
    last one two (Some three) a b c d = record { one = one; two = two; three = three; first = a; second = b; third = c }

    next : (one : List RunningFrame) (o : Option (List RunningFrame)) → below_ended fs ≡ Some one → below_ended one ≡ o → is_some (option_and_then below_ended o) ≡ true → Three fs
    next one None a b d = absurd (let f = d in cc)
    next one (Some two) a b d = last one two (below_ended two) a b refl d

    by : (o : Option (List RunningFrame)) → below_ended fs ≡ o → is_some (option_and_then below_ended (option_and_then below_ended o)) ≡ true → Three fs
    by None a d = absurd (let f = d in cc)
    by (Some one) a d = next one (below_ended one) a refl d

is_three : (fs one two three : List RunningFrame) → below_ended fs ≡ Some one → below_ended one ≡ Some two → below_ended two ≡ Some three → is_some (below_three fs) ≡ true
is_three fs one two three a b c =
    ap (λ (o : Option (List RunningFrame)). is_some (option_and_then below_ended (option_and_then below_ended o))) a
    ∙ ap (λ (o : Option (List RunningFrame)). is_some (option_and_then below_ended o)) b
    ∙ ap (λ (o : Option (List RunningFrame)). is_some o) c

lighter : (f : RunningFrame) (fs r : List RunningFrame) → may_drop (f ∷ fs) ≡ true → below_ended fs ≡ Some r → lightened (f ∷ fs) ≡ f ∷ r
lighter f fs r may e = lightened_by (f ∷ fs) true may ∙ ap (λ (xs : List RunningFrame). f ∷ xs) (text_rest (below_blocks fs) r e)

-- ---- the text is dropped without the lowest frames too

module _ (f : RunningFrame) (fs : List RunningFrame) (may : may_drop (f ∷ fs) ≡ true) where
  is : Three fs
  is = three_of fs (both_hold (begins f) (is_some (below_three fs)) may)

  begin : begins f ≡ true
  begin = first_holds (begins f) (is_some (below_three fs)) may

  -- how many frames are below the third one
  below_third : length (below_run (below_run (below_run (lightened (f ∷ fs))))) ≡ length is.three
  below_third =
      let runs : is_run f.kind ≡ true = first_holds (is_run f.kind) (nat_eq f.place.turn 0) begin in
      ap (λ (xs : List RunningFrame). length (below_run (below_run (below_run xs)))) (lighter f fs is.one may is.first)
      ∙ ap (λ (xs : List RunningFrame). length (below_run (below_run xs))) (at_run f is.one runs)
      ∙ ap (λ (xs : List RunningFrame). length (below_run xs)) (run_in_ended is.one is.two is.second)
      ∙ ap (λ (xs : List RunningFrame). length xs) (run_in_ended is.two is.three is.third)

  module _ (below : ℕ) (within : below ≤ length is.three) where
    abbrev qs : List RunningFrame
    qs = lowest below fs

    abbrev xs : List RunningFrame
    xs = above below fs

    all : xs ++ qs ≡ fs
    all = with_lowest below fs

    room : (below ≤ length is.two) × (below ≤ length is.one) × (below ≤ length fs)
    room = let a = ended_shorter is.two is.three is.third in let b = ended_shorter is.one is.two is.second in let c = ended_shorter fs is.one is.first in (omega arith, omega arith, omega arith)

    long : length qs ≡ below
    long =
        let a = above_long below fs room.2 in
        let b : length (xs ++ qs) ≡ length fs = ap (λ (ys : List RunningFrame). length ys) all in
        let c = length-append xs qs in
        omega arith

    first_same : Same qs xs is.one
    first_same = let r = room.1 in ended_over_as qs fs xs is.one (sym all) is.first (omega (arith, long))

    second_same : Same qs first_same.rest is.two
    second_same = let r = room.0 in ended_over_as qs is.one first_same.rest is.two first_same.over is.second (omega (arith, long))

    third_same : Same qs second_same.rest is.three
    third_same = ended_over_as qs is.two second_same.rest is.three second_same.over is.third (omega (arith, long, within))

    may_there : may_drop (f ∷ xs) ≡ true
    may_there = ap (λ (b : Bool). b && is_some (below_three xs)) begin ∙ is_three xs first_same.rest second_same.rest third_same.rest first_same.ended second_same.ended third_same.ended

    old_above : above below (f ∷ fs) ≡ f ∷ xs
    old_above = ap (λ (ys : List RunningFrame). above below (f ∷ ys)) (sym all) ∙ above_under below (f ∷ xs) qs long

    new_above : above below (lightened (f ∷ fs)) ≡ f ∷ first_same.rest
    new_above = ap (λ (ys : List RunningFrame). above below ys) (lighter f fs is.one may is.first ∙ ap (λ (ys : List RunningFrame). f ∷ ys) first_same.over) ∙ above_under below (f ∷ first_same.rest) qs long

    lightened_above : above below (lightened (f ∷ fs)) ≡ lightened (above below (f ∷ fs))
    lightened_above = new_above ∙ sym (lighter f xs first_same.rest may_there first_same.ended) ∙ ap lightened (sym old_above)

lightened_over : (fs : List RunningFrame) → may_drop fs ≡ true → (below : ℕ) → below ≤ length (below_run (below_run (below_run (lightened fs)))) → above below (lightened fs) ≡ lightened (above below fs)
lightened_over [] may below within = absurd (let e = may in cc)
lightened_over (f ∷ fs) may below within = lightened_above f fs may below (let e = below_third f fs may in omega arith)

-- any frames, as those of a record
lightened_goes : (r : Record) (fs : List RunningFrame) → GoOnAlike (lightened fs) fs
lightened_goes r fs =
    let old : Record = record r { present = record r.present { frames = fs } } in
    (drops_ended old (changed with_fewer old) refl).alike

pub drops_above : (left : ℕ) (old new : Record) → DropsEnded old new → left ≤ length (below_run (below_run (below_run new.present.frames))) → (may : Bool) → may_drop old.present.frames ≡ may → GoAlikeAbove left old.present new.present
drops_above left old new drops less true may below within limits a =
    let fs : List RunningFrame = old.present.frames in
    let is : new.present.frames ≡ lightened fs = ap (λ (r : Record). r.present.frames) drops.frames in
    let same : length (below_run (below_run (below_run new.present.frames))) ≡ length (below_run (below_run (below_run (lightened fs)))) = ap (λ (xs : List RunningFrame). length (below_run (below_run (below_run xs)))) is in
    ap (λ (xs : List RunningFrame). continue limits (frames_of (above below xs)) a) is
    ∙ ap (λ (xs : List RunningFrame). continue limits (frames_of xs) a) (lightened_over fs may below (omega arith))
    ∙ lightened_goes old (above below fs) limits a
drops_above left old new drops less false may below within limits a =
    let fs : List RunningFrame = old.present.frames in
    let is : new.present.frames ≡ fs = ap (λ (r : Record). r.present.frames) drops.frames ∙ lightened_by fs false may in
    ap (λ (xs : List RunningFrame). continue limits (frames_of (above below xs)) a) is

-- found by frames in the other order
pub run_thrice : (frames one two three others : List RunningFrame) → reverse frames ≡ others → reverse one ≡ below_run (reverse frames) → reverse two ≡ below_run (reverse one) → reverse three ≡ below_run (reverse two)
    → length three ≡ length (below_run (below_run (below_run others)))
run_thrice frames one two three others e a b c =
    sym (length-reverse three) ∙ ap (λ (xs : List RunningFrame). length xs) (c ∙ ap below_run (b ∙ ap below_run (a ∙ ap below_run e)))

pub drops_noted : (left before many : ℕ) (old new : Record) → left ≡ min before many → many ≡ length (below_run (below_run (below_run new.present.frames))) → DropsEnded old new → GoAlikeAbove left old.present new.present
drops_noted left before many old new e is drops =
    let less : left ≤ many = subst (λ (n : ℕ). n ≤ many) (sym e) (min-le_right before many) in
    drops_above left old new drops (omega arith) (may_drop old.present.frames) refl
