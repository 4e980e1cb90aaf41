-- The search through the states in which device commands ask. Ours.
use Rattle.std.specs.Prelude.{◌≡◌, ◌≢◌, ℕ, ◌<◌, nat_eq, Bool, false, List, [], ◌∷◌, ◌++◌, length, reverse, All}
use Rattle.bootstore_state.specs.Moment.{Moment, RunningFrame}
use Rattle.rehearse_terms.specs.Outcomes.{OutcomeWord}
use Rattle.rehearse_terms.specs.State.{Text}
use Rattle.rehearse_rules.specs.Execution.{Limits}
use Rattle.rehearse_rules.specs.Runs.{Task}
use Rattle.rehearse_machine.specs.Came.{Came}
use Rattle.rehearse_machine.specs.Machine.{IsAsking, asked_at}
use Rattle.rehearse_machine.specs.declared.rehearsal.Stop.{Stop}
use Rattle.rehearse_machine.specs.declared.rehearsal.Stop.TheVariants.{Asks}
use Rattle.rehearse_machine.specs.StoppedTexts.{StoppedAt}
use Rattle.rehearse_reads.specs.Keys.{Key, AreAmong}
use Rattle.rehearse_frames.specs.Above.{above, without_lowest, NeverReturns}
use Rattle.rehearse_frames.specs.KeysToCome.{AreEnoughAt}
use Rattle.rehearse_reports.specs.Asked.{asked_reads}
use Rattle.rehearse_reports.specs.Following.{comes_at_stop}
use Rattle.rehearse_reports.specs.Known.{AllHold, keys_of}
use Rattle.rehearse_reports.specs.ReportsShown.{keys_shown}
use Rattle.rehearse_reports.specs.declared.known.Known.{Known}
use Rattle.rehearse_states.specs.Flow.{Node, Seen, asked_in}
use Rattle.rehearse_reuse.specs.DrawnRuns.{Draws, seen_behind, seen_at}
use Rattle.rehearse_states.specs.Summaries.{Summary}
use Rattle.rehearse_reuse.specs.SummedRuns.{Summed, SumsAt}
use Rattle.rehearse_states.specs.RowsShown.{saturated_summary}
use Rattle.rehearse_states.specs.SumNodes.{SumNode, IsSummary}
use Rattle.rehearse_states.specs.declared.summary.Summary as rt
use Rattle.rehearse_endings.specs.declared.entry.Entry.{Entry}
use Rattle.rehearse_endings.specs.declared.entry.Future.{Future}

-- what is to come of a text that has stopped
abbrev pub future : Limits → Stop → Moment → OutcomeWord → Came
future limits stop m w = comes_at_stop limits stop m w

-- the summary of it, except for counts that are too large
abbrev pub SummedFrom : (names : List Text) → Limits → Stop → Moment → Summary → Type 0
SummedFrom names limits stop m shown = Summed names limits.devices (length (asked_in m.log)) (future limits stop m) shown

-- what is seen of it
abbrev pub seen_from : Limits → Stop → Moment → OutcomeWord → Seen
seen_from limits stop m w = seen_behind (length (asked_in m.log)) (future limits stop m w)

-- the text has stopped after this many outcomes
abbrev pub IsReached : Task → (depth : ℕ) → Stop → Moment → Type 0
IsReached task depth stop m = (p : OutcomeWord) × (length p ≡ depth) × StoppedAt task p stop m

-- nothing comes back to frames that do not count, if there are any
abbrev pub NeverReturnsTo : (below : ℕ) → (OutcomeWord → Came) → Type 0
NeverReturnsTo below comes = below ≢ 0 → NeverReturns comes

-- an entry is the summary of a moment at which a device command asks, with what was known there of keys that are enough, and the
-- nodes draw what is to come of it, and its rows. Frames that do not count are left out: nothing comes back to any below
pub record IsEntry (names : List Text) (limits : Limits) (nodes : List Node) (sum_nodes : List SumNode) (e : Entry) : Type 0 where
  pub moment : Moment
  pub asks : IsAsking limits moment
  pub frames : reverse e.frames.items ≡ moment.frames
  pub known : AllHold moment e.known.items
  pub asked : AreAmong (asked_reads moment) (keys_of e.known.items)
  pub enough : AreEnoughAt limits names moment (keys_of e.known.items)
  pub apart : e.whole ≡ false → NeverReturns (asked_at limits moment)
  pub steps : e.steps ≡ moment.steps
  pub devices : e.devices ≡ length moment.log
  pub summary : Summary
  pub sums : SumsAt names limits moment summary
  pub shown : IsSummary sum_nodes e.summary (saturated_summary summary)
  pub draws : Draws nodes e.summary.place (seen_at limits moment)

abbrev pub AreEntries : (names : List Text) → Limits → List Node → List SumNode → List Entry → Type 0
AreEntries names limits nodes sum_nodes entries = All (IsEntry names limits nodes sum_nodes) entries

-- what was found of a moment at which a device command asks, in the table
pub record IsFound (names : List Text) (limits : Limits) (nodes : List Node) (sum_nodes : List SumNode) (entries : List Entry) (m : Moment) (f : Future) : Type 0 where
  pub shown : Summary
  pub is : IsSummary sum_nodes f.summary shown
  pub sums : SummedFrom names limits Asks m shown
  pub draws : Draws nodes f.summary.place (seen_at limits m)
  pub within : f.below < length m.frames
  pub keys : AreEnoughAt limits names (without_lowest f.below m) (keys_shown f.keys.items)
  pub apart : NeverReturnsTo f.below (asked_at limits (without_lowest f.below m))
  pub some : entries ≢ []

-- one more entry
abbrev pub IsKept : (old new : List Entry) → List RunningFrame → (whole : Bool) → List Known → (steps devices : ℕ) → rt.Summary → Type 0
IsKept old new frames whole known steps devices summary = (e : Entry) × (new ≡ old ++ e ∷ []) × (e.frames.items ≡ frames) × (e.known.items ≡ known)
    × (e.steps ≡ steps) × (e.devices ≡ devices) × (e.summary ≡ summary) × (e.whole ≡ whole)

-- one more entry, of a moment without so many of its lowest frames, with what the moment has at these keys
pub record IsKeptAt (old new : List Entry) (below : ℕ) (m : Moment) (keys : List Key) (devices : ℕ) (summary : rt.Summary) : Type 0 where
  pub left : List RunningFrame
  pub known : List Known
  pub frames : reverse left ≡ above below m.frames
  pub holds : AllHold m known
  pub same : keys_of known ≡ keys
  pub kept : IsKept old new left (nat_eq below 0) known m.steps devices summary
