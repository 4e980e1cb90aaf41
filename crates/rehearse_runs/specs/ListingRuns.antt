-- What writing a listing of `Runs` does. Ours.
use Rattle.std.specs.Prelude.{◌≡◌, ◌⊎◌, ℕ, ◌+◌, ◌-◌, nat_le, nat_eq, Bool, true, false, List, [], ◌∷◌, ◌++◌, length, drop, Option, Some, None}
use Rattle.std.specs.List.{flat_map}
use Rattle.output.specs.Sink.{Sink, Wrote, BrokeOff}
use Rattle.rehearse_terms.specs.Outcomes.{OutcomeWord}
use Rattle.rehearse_terms.specs.State.{Text}
use Rattle.rehearse_rules.specs.Listing.{line, record_of, page_words, page_closing, page_text}
use Rattle.rehearse_terms.specs.declared.wanted.Page.{Page}
use Rattle.rehearse_runs.specs.RunsShown.{RunsShown, last_answer}
use Rattle.rehearse_runs.specs.UnfinishedListings.{BreaksOff, LacksMemory}
use Rattle.rehearse_rules.specs.declared.rehearse_error.RehearseError.{RehearseError}
use Rattle.rehearse_rules.specs.declared.rehearse_error.RehearseError.TheVariants.{Memory, Write, Failed}
use Rattle.rehearse_runs.specs.declared.listing.Finish.{Finish}
use Rattle.rehearse_runs.specs.declared.listing.Finish.TheVariants.{Done, More}

-- whether no more records are wanted
abbrev pub reached : Option ℕ → Bool
reached None = false
reached (Some n) = nat_eq n 0

-- one record less is wanted
abbrev pub lowered : Option ℕ → Option ℕ
lowered None = None
lowered (Some n) = Some (n - 1)

-- how many records are still wanted: after this many words were taken, this is left
abbrev pub IsLeft : (limit left : Option ℕ) → ℕ → Type 0
IsLeft None None n = Unit {0}
IsLeft None (Some k) n = ⊥
IsLeft (Some l) None n = ⊥
IsLeft (Some l) (Some k) n = l ≡ n + k

-- the runs took the first of the words to come, and only what depends on them changed
pub record Takes (old new : RunsShown) (ws : List OutcomeWord) : Type 0 where
  pub words : old.to_come ≡ ws ++ new.to_come
  pub answers : new.answers ≡ old.answers ++ ws
  -- the last of them, or the one before if none was taken
  pub given : new.given ≡ last_answer old.given ws
  pub task : new.task ≡ old.task
  pub start : new.start ≡ old.start
  pub sound : old.failed ≡ false

-- the records of these words were written, one after another
pub record Recorded (start now : Sink) (old new : RunsShown) (names : List Text) (limit left : Option ℕ)
    (ws : List OutcomeWord) : Type 0 where
  pub takes : Takes old new ws
  pub wrote : Wrote start now (flat_map (record_of old.task names) ws)
  pub count : IsLeft limit left (length ws)
  pub still : new.failed ≡ false

-- all records that are wanted were written
pub record WroteRecords (start now : Sink) (old new : RunsShown) (names : List Text) (page : Page) : Type 0 where
  pub left : Option ℕ
  pub ws : List OutcomeWord
  pub recorded : Recorded start now old new names page.limit left ws
  pub over : (reached left ≡ false) → new.to_come ≡ []

-- the words that are left out
abbrev pub left_out : List OutcomeWord → Option ℕ → List OutcomeWord
left_out ws None = []
left_out ws (Some limit) = drop limit ws

-- how a listing finishes, as its last line says
abbrev pub finish_at : List OutcomeWord → Option ℕ → Finish
finish_at ws None = Done
finish_at ws (Some limit) = elim (nat_le (length ws) limit) [ true ↦ Done | false ↦ More ]

abbrev pub finish_of : List OutcomeWord → Page → Finish
finish_of ws page = finish_at ws page.limit

-- the listing was written
pub record Lists (start now : Sink) (old new : RunsShown) (names : List Text) (page : Page) (finish : Finish) :
    Type 0 where
  pub wrote : Wrote start now (page_text (record_of old.task names) old.to_come page)
  pub finish_is : finish ≡ finish_of old.to_come page
  pub takes : Takes old new (page_words old.to_come page)
  pub rest : new.to_come ≡ left_out old.to_come page.limit
  pub still : new.failed ≡ false

-- memory ran out: the words that were taken are those whose records are written, and all later calls fail
pub record FailsInListing (start now : Sink) (old new : RunsShown) (names : List Text) (page : Page) : Type 0 where
  pub lacks : LacksMemory old.task names old.to_come page start now
  pub takes : Takes old new lacks.front
  pub failed : new.failed ≡ true

-- the records of these words are written, and the output failed inside the text after them
pub record BreaksBehind (start now : Sink) (written : OutcomeWord → Text) (ws : List OutcomeWord) (text : Text) :
    Type 0 where
  pub between : Sink
  pub wrote : Wrote start between (flat_map written ws)
  pub broke : BrokeOff between now text

-- it failed inside the record of the last word that was taken
pub record BreaksInRecord (start now : Sink) (old new : RunsShown) (names : List Text) (page : Page) :
    Type 0 where
  pub ws : List OutcomeWord
  pub w : OutcomeWord
  pub us : List OutcomeWord
  pub wanted : page_words old.to_come page ≡ ws ++ w ∷ us
  pub takes : Takes old new (ws ++ w ∷ [])
  pub breaks : BreaksBehind start now (record_of old.task names) ws (record_of old.task names w)

-- it failed inside the closing line: all words that are wanted were taken
pub record BreaksInClosing (start now : Sink) (old new : RunsShown) (names : List Text) (page : Page) :
    Type 0 where
  pub takes : Takes old new (page_words old.to_come page)
  pub breaks : BreaksBehind start now (record_of old.task names) (page_words old.to_come page)
      (line (page_closing old.to_come page))

-- the output failed: a prefix of the listing is written, and the words that were taken are not given again
pub record BreaksInListing (start now : Sink) (old new : RunsShown) (names : List Text) (page : Page) : Type 0 where
  pub place : BreaksInRecord start now old new names page ⊎ BreaksInClosing start now old new names page
  pub breaks : BreaksOff old.task names old.to_come page start now
  pub still : new.failed ≡ false

-- memory had run out before: nothing is written
pub record HadFailed (start now : Sink) (old new : RunsShown) : Type 0 where
  pub failed : old.failed ≡ true
  pub same : new ≡ old
  pub nothing : now ≡ start

abbrev pub Breaks : (start now : Sink) (old new : RunsShown) (names : List Text) (page : Page) →
    RehearseError → Type 0
Breaks start now old new names page Memory = FailsInListing start now old new names page
Breaks start now old new names page Write = BreaksInListing start now old new names page
Breaks start now old new names page Failed = HadFailed start now old new
Breaks start now old new names page _ = ⊥
