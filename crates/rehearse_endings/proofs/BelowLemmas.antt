-- States without the lowest frames, which do not count.
use Rattle.std.proofs.Common.{◌≡◌, ◌≢◌, ◌∙◌, ◌+◌, ◌-◌, ◌<◌, ◌≤◌, arith, refl, sym, ap, subst, suc-ne-zero, ℕ, zero, suc, Bool, true, false, cond, List, [], ◌∷◌, ◌++◌, length, take, drop, reverse, append_assoc}
use Rattle.std.proofs.lemmas.List.{length-append, length-drop, length-reverse, length-take-le, reverse-append, reverse-reverse, take-append-drop, take_at}
use Rattle.bootstore_state.specs.Moment.{Moment, RunningFrame}
use Rattle.rehearse_terms.specs.Outcomes.{OutcomeWord, Outcome, Success, Failure}
use Rattle.rehearse_terms.specs.State.{Text, Memory}
use Rattle.rehearse_rules.specs.EndingsShown.{halt_shown}
use Rattle.rehearse_rules.specs.Execution.{Limits, End}
use Rattle.rehearse_rules.specs.declared.halt.Halt.{Halt}
use Rattle.rehearse_machine.specs.Came.{Came}
use Rattle.rehearse_machine.specs.Machine.{IsAsking, Stops, asked_at}
use Rattle.rehearse_machine.specs.declared.rehearsal.Stop.{Stop}
use Rattle.rehearse_machine.specs.declared.rehearsal.Stop.TheVariants.{Asks, Ends}
use Rattle.rehearse_reads.specs.Keys.{Key, Access, keys_in_front}
use Rattle.rehearse_frames.specs.Above.{above, without_lowest, IsNoEnd, NeverReturns}
use Rattle.rehearse_frames.specs.KeysToCome.{AreEnoughAt}
use Rattle.rehearse_frames.proofs.LowestFrames.{above_long, above_none, above_under, all_frames, asks_above, asks_in_frames, keys_hold_below, lowest, lowest_make_no_difference, neither_returns, with_lowest}
use Rattle.rehearse_reports.specs.Asked.{asked_by, asked_reads}
use Rattle.rehearse_reports.specs.Following.{AreEnoughAtStop, AreEnoughFor, HasFramesAtStop, IsReportedAbove}
use Rattle.rehearse_reports.specs.Known.{AllHold, Holds}
use Rattle.rehearse_reports.specs.Reports.{memory_at}
use Rattle.rehearse_reports.specs.declared.known.Known.{Known}
use Rattle.rehearse_reports.specs.declared.known.Known.TheVariants.{Environment, Local, AnswerTo, Succeeded, Status}
use Rattle.rehearse_reports.proofs.FollowingLemmas.{keys_of_both_outcomes}
use Rattle.rehearse_reuse.specs.DrawnRuns.{seen_at}
use Rattle.rehearse_reuse.specs.SummedRuns.{SumsAt}
use Rattle.rehearse_reuse.proofs.LowestFrames.{nodes_hold_below, summaries_hold_above, summaries_hold_below}
use Rattle.std.specs.List.{fold}
use Rattle.rehearse_states.specs.PlaceNumbers.{mixed_frame, place_number}
use Rattle.rehearse_states.specs.Summaries.{Summary}
use Rattle.rehearse_endings.specs.OnTop.{HasOnTop}
use Rattle.rehearse_endings.specs.Searching.{future, NeverReturnsTo}

-- ---- frames on top of others

pub top_of : (whole : Bool) (top frames : List RunningFrame) (many : ℕ) → many ≡ length top → HasOnTop whole top frames → above (cond whole 0 (length frames - many)) frames ≡ top
top_of true top frames many e h = above_none frames ∙ h
top_of false top frames many e h =
    let below : ℕ = length frames - many in
    let all : length frames ≡ length top + length h.0 = ap (λ (fs : List RunningFrame). length fs) h.1 ∙ length-append top h.0 in
    ap (λ (fs : List RunningFrame). above below fs) h.1 ∙ above_under below top h.0 (omega arith)

pub below_top : (whole : Bool) (top frames : List RunningFrame) (many : ℕ) → many ≡ length top → 0 < length top → HasOnTop whole top frames → cond whole 0 (length frames - many) < length frames
below_top true top frames many e some h = let all : length frames ≡ length top = ap (λ (fs : List RunningFrame). length fs) h in omega arith
below_top false top frames many e some h =
    let all : length frames ≡ length top + length h.0 = ap (λ (fs : List RunningFrame). length fs) h.1 ∙ length-append top h.0 in
    omega arith

pub innermost_are : (top frames : List RunningFrame) (many : ℕ) → many ≡ length top → HasOnTop false top frames → (many ≤ length frames) × (take many frames ≡ top)
innermost_are top frames many e h =
    let all : length frames ≡ length top + length h.0 = ap (λ (fs : List RunningFrame). length fs) h.1 ∙ length-append top h.0 in
    (omega arith, ap (take many) h.1 ∙ take_at top h.0 many (sym e))

lowest_many : (below : ℕ) (fs : List RunningFrame) → below ≤ length fs → length (lowest below fs) ≡ below
lowest_many below fs within = let e = length-drop (length fs - below) fs in omega arith

above_above : (below behind : ℕ) (fs : List RunningFrame) → below ≤ behind → behind ≤ length fs → above (behind - below) (above below fs) ≡ above behind fs
above_above below behind fs less within =
    let top : List RunningFrame = above behind fs in
    let low : List RunningFrame = lowest behind fs in
    let mid : List RunningFrame = above below low in
    let end : List RunningFrame = lowest below low in
    let low_long : length low ≡ behind = lowest_many behind fs within in
    let end_long : length end ≡ below = lowest_many below low (omega arith) in
    let mid_long : length mid + below ≡ length low = above_long below low (omega arith) in
    let all : (top ++ mid) ++ end ≡ fs = append_assoc top mid end ∙ ap (λ (xs : List RunningFrame). top ++ xs) (with_lowest below low) ∙ with_lowest behind fs in
    let first : above below fs ≡ top ++ mid = ap (λ (xs : List RunningFrame). above below xs) (sym all) ∙ above_under below (top ++ mid) end end_long in
    ap (λ (xs : List RunningFrame). above (behind - below) xs) first ∙ above_under (behind - below) top mid (omega arith)

-- the other way round: what is above the first frames
pub top_is : (below : ℕ) (frames others : List RunningFrame) → reverse frames ≡ others → below ≤ length others → reverse (drop below frames) ≡ above below others
top_is below frames others e within =
    let long : length others ≡ length frames = sym (ap (λ (fs : List RunningFrame). length fs) e) ∙ length-reverse frames in
    let back : List RunningFrame = reverse (take below frames) in
    let back_long : length back ≡ below = length-reverse (take below frames) ∙ length-take-le below frames (omega arith) in
    let all : reverse (drop below frames) ++ back ≡ others = sym (reverse-append (take below frames) (drop below frames)) ∙ ap reverse (take-append-drop below frames) ∙ e in
    sym (ap (λ (fs : List RunningFrame). above below fs) (sym all) ∙ above_under below (reverse (drop below frames)) back back_long)

pub inner_is : (below many : ℕ) (frames others : List RunningFrame) → reverse frames ≡ others → below + many ≡ length others → reverse (drop below frames) ≡ take many others
inner_is below many frames others e all =
    let n : length others - below ≡ many = omega arith in
    top_is below frames others e (omega arith) ∙ ap (λ (k : ℕ). take k others) n

pub on_top_there : (many : ℕ) (frames top all : List RunningFrame) → frames ≡ top → reverse top ≡ take many all → HasOnTop false (reverse frames) all
on_top_there many frames top all e is = (drop many all, sym (take-append-drop many all) ∙ ap (λ (fs : List RunningFrame). fs ++ drop many all) (sym is ∙ ap reverse (sym e)))

pub on_top_told : (many : ℕ) (frames top all : List RunningFrame) → many ≡ length frames → reverse top ≡ take many all → HasOnTop false (reverse frames) all → frames ≡ top
on_top_told many frames top all e is h =
    let inner = innermost_are (reverse frames) all many (e ∙ sym (length-reverse frames)) h in
    sym (reverse-reverse frames) ∙ ap reverse (sym inner.1 ∙ sym is) ∙ reverse-reverse top

pub whole_told : (whole : Bool) (top frames : List RunningFrame) → whole ≡ true → HasOnTop whole top frames → frames ≡ top
whole_told whole top frames e h = subst (λ (b : Bool). HasOnTop b top frames) e h

pub as_part : (whole : Bool) (top frames : List RunningFrame) → whole ≡ false → HasOnTop false top frames → HasOnTop whole top frames
as_part whole top frames e h = subst (λ (b : Bool). HasOnTop b top frames) (sym e) h

pub part_told : (whole : Bool) (top frames : List RunningFrame) → whole ≡ false → HasOnTop whole top frames → HasOnTop false top frames
part_told whole top frames e h = subst (λ (b : Bool). HasOnTop b top frames) e h

-- the number of frames, of which the outermost comes first
pub number_so : (frames same : List RunningFrame) → frames ≡ same → fold mixed_frame 0xcbf29ce484222325 frames ≡ place_number (reverse same)
number_so frames same e = ap (λ (fs : List RunningFrame). fold mixed_frame 0xcbf29ce484222325 fs) (e ∙ sym (reverse-reverse same))

-- ---- what is known, and what a command reads, there

held_without : (below : ℕ) (m : Moment) (known : Known) → Holds m known → Holds (without_lowest below m) known
held_without below m (Environment name value) h = h
held_without below m (Local name value) h = h
held_without below m (AnswerTo call answer) h = h
held_without below m (Succeeded start has) h = h
held_without below m (Status status) h = h

pub all_held_without : (below : ℕ) (m : Moment) (all : List Known) → AllHold m all → AllHold (without_lowest below m) all
all_held_without below m [] h = tt
all_held_without below m (known ∷ all) h = (held_without below m known h.0, all_held_without below m all h.1)

asked_of_top : (memory : Memory) (fs : List RunningFrame) (n : ℕ) → 0 < n → asked_by memory (take n fs) ≡ asked_by memory fs
asked_of_top memory fs zero some = absurd (omega arith)
asked_of_top memory [] (suc n) some = refl
asked_of_top memory (f ∷ fs) (suc n) some = refl

pub asked_without : (below : ℕ) (m : Moment) → below < length m.frames → asked_reads (without_lowest below m) ≡ asked_reads m
asked_without below m within = asked_of_top (memory_at m) m.frames (length m.frames - below) (omega arith)

-- ---- what is to come there

module _ (limits : Limits) (names : List Text) (s : Summary) where
  pub sums_below : (below : ℕ) (m : Moment) → IsAsking limits m → below < length m.frames → NeverReturnsTo below (asked_at limits (without_lowest below m)) → SumsAt names limits (without_lowest below m) s → SumsAt names limits m s
  sums_below zero m asks within never sums = subst (λ (n : Moment). SumsAt names limits n s) (all_frames m) sums
  sums_below (suc below) m asks within never sums = summaries_hold_below limits names (suc below) m s asks within (never (suc-ne-zero below)) sums

  pub sums_above : (below : ℕ) (m : Moment) → IsAsking limits m → below < length m.frames → NeverReturnsTo below (asked_at limits (without_lowest below m)) → SumsAt names limits m s → SumsAt names limits (without_lowest below m) s
  sums_above zero m asks within never sums = subst (λ (n : Moment). SumsAt names limits n s) (sym (all_frames m)) sums
  sums_above (suc below) m asks within never sums = summaries_hold_above limits names (suc below) m s asks within (never (suc-ne-zero below)) sums

pub seen_below : (limits : Limits) (below : ℕ) (m : Moment) → IsAsking limits m → below < length m.frames → NeverReturnsTo below (asked_at limits (without_lowest below m)) → (w : OutcomeWord) → seen_at limits m w ≡ seen_at limits (without_lowest below m) w
seen_below limits zero m asks within never w = ap (λ (n : Moment). seen_at limits n w) (sym (all_frames m))
seen_below limits (suc below) m asks within never w = nodes_hold_below limits (suc below) m asks within (never (suc-ne-zero below)) w

pub some_frames : (limits : Limits) (m : Moment) → IsAsking limits m → 0 < length m.frames
unfolding IsAsking
some_frames limits m asks = asks_in_frames limits m asks

-- ---- fewer frames left out

module _ (limits : Limits) (names : List Text) (keys : List Key) (below behind : ℕ) (less : below ≤ behind) where
  abbrev pub HoldsAt : (n : Moment) → Type 0
  HoldsAt n = AreEnoughAt limits names n keys × NeverReturns (asked_at limits n)

  less_asking : (n : Moment) → IsAsking limits n → behind < length n.frames → HoldsAt (without_lowest behind n) → HoldsAt (without_lowest below n)
  less_asking n asks within holds =
      let rest : ℕ = behind - below in
      let m : Moment = without_lowest below n in
      let long : length m.frames + below ≡ length n.frames = above_long below n.frames (omega arith) in
      let asks_there : IsAsking limits m = asks_above limits below n asks (omega arith) in
      let same : without_lowest rest m ≡ without_lowest behind n = ap (λ (fs : List RunningFrame). let k : Moment = record n { frames = fs } in k) (above_above below behind n.frames less (omega arith)) in
      let there : HoldsAt (without_lowest rest m) = subst HoldsAt (sym same) holds in
      let room : rest < length m.frames = omega arith in (
        keys_hold_below limits names rest m keys asks_there room there.1 there.0,
        λ w status s e. there.1 w status s (sym (lowest_make_no_difference limits rest m asks_there room there.1 w) ∙ e),
      )

  abbrev pub AtStop : Stop → (left_out : ℕ) → Moment → Type 0
  AtStop stop left_out n = AreEnoughAtStop limits names stop (without_lowest left_out n) keys × NeverReturnsTo left_out (future limits stop (without_lowest left_out n))

  less_by : (b : ℕ) → b ≡ behind → (n : Moment) → IsAsking limits n → behind < length n.frames → AtStop Asks behind n → AtStop Asks below n
  less_by zero e n asks within holds =
      let none : behind ≡ below = omega arith in
      subst (λ (k : ℕ). AtStop Asks k n) none holds
  less_by (suc b) e n asks within holds =
      let some : behind ≢ 0 = λ z. suc-ne-zero b (e ∙ z) in
      let there : HoldsAt (without_lowest below n) = less_asking n asks within (holds.0, holds.1 some) in
      (there.0, λ other. there.1)

  pub less_at_stop : (stop : Stop) (n : Moment) (f : OutcomeWord → Came) → Stops limits stop f n → HasFramesAtStop (behind + 1) stop n → AtStop stop behind n → AtStop stop below n
  less_at_stop Asks n f stops within holds = less_by behind refl n stops.0 (omega (arith, within)) holds
  less_at_stop (Ends halt) n f stops within holds = (holds.0, λ some. holds.1 (λ z. some (omega (arith, z))))

-- at an end that is none of the text
pub end_never : (limits : Limits) (halt : Halt) (n : Moment) (left_out : ℕ) → (left_out ≢ 0 → IsNoEnd (halt_shown halt)) → NeverReturnsTo left_out (future limits (Ends halt) n)
end_never limits halt n left_out ended some w status s e =
    let same : halt_shown halt ≡ End status = (let f = e in cc) in
    ended some status same

-- ---- one outcome, and both

module _ (names : List Text) (limits : Limits) (below : ℕ) (m : Moment) where
  abbrev pub here : Moment
  here = without_lowest below m

  -- what is enough for an outcome, without the lowest frames
  pub record Side (outcome : Outcome) (keys : List Key) : Type 0 where
    pub enough : AreEnoughFor limits names outcome here keys
    pub never : NeverReturnsTo below (λ w. asked_at limits here (outcome ∷ w))

  pub side_of : (outcome : Outcome) (first n : Moment) (stop : Stop) (reported : List Access) (later : List Key) (fewest behind : ℕ) → first ≡ m → below ≤ fewest - 1 → below ≤ behind → Stops limits stop (λ w. asked_at limits m (outcome ∷ w)) n
      → HasFramesAtStop (behind + 1) stop n → IsReportedAbove limits fewest outcome first stop n reported → AreEnoughAtStop limits names stop (without_lowest behind n) later → NeverReturnsTo behind (future limits stop (without_lowest behind n))
      → Side outcome (keys_in_front reported later)
  side_of outcome first n stop reported later fewest behind same less lesser stops frames is_reported enough never =
      let report = subst (λ (x : Moment). IsReportedAbove limits fewest outcome x stop n reported) same is_reported below less in
      let there : AtStop limits names later below behind lesser stop below n = less_at_stop limits names later below behind lesser stop n (λ w. asked_at limits m (outcome ∷ w)) stops frames (enough, never) in
      record {
        enough = report.enough names later there.0;
        never = λ some w status s e. there.1 some w status s (report.comes w ∙ e);
      }

  pub both_enough : (won lost : List Key) → IsAsking limits m → below < length m.frames → Side Success won → Side Failure lost → AreEnoughAt limits names here (won ++ lost)
  both_enough won lost asks within from_won from_lost = keys_of_both_outcomes limits names here won lost (asks_above limits below m asks within) from_won.enough from_lost.enough

  pub neither_comes_back : (won lost : List Key) → IsAsking limits m → below < length m.frames → Side Success won → Side Failure lost → NeverReturnsTo below (asked_at limits here)
  neither_comes_back won lost asks within from_won from_lost some = neither_returns limits here (asks_above limits below m asks within) (from_won.never some) (from_lost.never some)
