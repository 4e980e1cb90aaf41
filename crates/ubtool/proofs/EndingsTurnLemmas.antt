-- The endings of one alternative, and of all in turn.
use Rattle.std.proofs.Common.{◌≡◌, ◌∙◌, ℕ, ◌+◌, ◌<◌, Bool, List, sym, ap, subst, Option, Some, None, Err, length}
use Rattle.envimage.specs.declared.image.ImageError.{ImageError}
use Rattle.envtools.specs.declared.script.ScriptError.{ScriptError}
use Rattle.output.specs.Sink.{Sink, Wrote, BrokeOff, counted}
use Rattle.board_start.specs.Boards.{OfStart}
use Rattle.board_start.specs.declared.start_error.StartError.{StartError}
use Rattle.board_start.specs.declared.start_error.StartError.TheVariants.{TooMany, Alternatives, NoAlternative, Name}
use Rattle.rehearse_rules.specs.declared.rehearse_error.RehearseError.{RehearseError}
use Rattle.rehearse_rules.specs.declared.rehearse_error.RehearseError.TheVariants as rehearsal
use Rattle.rehearse_terms.specs.State.{Text}
use Rattle.ubtool.specs.Beginning.{OfBoard, beginning_of}
use Rattle.ubtool.specs.EndingsOfImages.{AreAllLines, AreInOrder, LacksLines, LacksTurn, RefusesBy, RefusesEndings, RefusesOne, RefusesTurn, RefusesTurns, TellsBy, TellsEndings, TellsOne, TellsTurns, WhyNoLines}
use Rattle.ubtool.specs.Given.{Given}
use Rattle.ubtool.specs.Refusing.{HasImage}
use Rattle.ubtool.specs.Turns.{named, turns_of, turns_told}
use Rattle.ubtool.specs.declared.rehearsal_error.RehearsalError.{RehearsalError}
use Rattle.ubtool.specs.declared.rehearsal_error.RehearsalError.TheVariants as refused
use Rattle.ubtool.proofs.BeginningLemmas.{image-of-start}

module _ (g : Given) (flow : Bool) (states work bytes : ℕ) (old new : Sink) where
  -- no turns
  tells-none : (t : Option ℕ) → t ≡ None → TellsOne g flow states bytes old new → TellsBy g flow states bytes t old new
  tells-none None e h = h
  tells-none (Some count) e h = absurd (let f : ◌≡◌ {A = Option ℕ} (Some count) None = e in cc)

  refuses-none : (error : RehearsalError) (t : Option ℕ) → t ≡ None → RefusesOne g flow states work bytes old new error
      → RefusesBy g flow states work bytes t old new error
  refuses-none error None e h = h
  refuses-none error (Some count) e h = absurd (let f : ◌≡◌ {A = Option ℕ} (Some count) None = e in cc)

  pub one-told : TellsOne g flow states bytes old new → TellsEndings g flow states bytes old new
  one-told h = tells-none (turns_of (beginning_of g)) (ap turns_of h.1.found) h

  memory-told : (t : Option ℕ) → HasImage g × (new ≡ old) → RefusesBy g flow states work bytes t old new refused.Memory
  memory-told None h = h
  memory-told (Some count) h = h

  pub one-refused : (error : RehearsalError) → turns_told error ≡ None → RefusesOne g flow states work bytes old new error → RefusesEndings g flow states work bytes old new error
  one-refused (refused.Image fault) e h = refuses-none (refused.Image fault) (turns_of (beginning_of g)) (ap turns_of h.0) h
  one-refused (refused.Rehearsal (rehearsal.DeviceList fault)) e h = refuses-none (refused.Rehearsal (rehearsal.DeviceList fault)) (turns_of (beginning_of g)) (ap turns_of h.0) h
  one-refused (refused.Rehearsal rehearsal.NoSuchVariable) e h = refuses-none (refused.Rehearsal rehearsal.NoSuchVariable) (turns_of (beginning_of g)) (ap turns_of h.0.found) h
  one-refused (refused.Rehearsal rehearsal.States) e h = refuses-none (refused.Rehearsal rehearsal.States) (turns_of (beginning_of g)) (ap turns_of h.0.found) h
  one-refused (refused.Rehearsal (rehearsal.Steps count)) e h = refuses-none (refused.Rehearsal (rehearsal.Steps count)) (turns_of (beginning_of g)) (ap turns_of h.0.found) h
  one-refused (refused.Rehearsal (rehearsal.Bytes count)) e h = refuses-none (refused.Rehearsal (rehearsal.Bytes count)) (turns_of (beginning_of g)) (ap turns_of h.0.found) h
  one-refused (refused.Rehearsal rehearsal.NotARun) e h = absurd h.0
  one-refused (refused.Rehearsal rehearsal.Write) e h = absurd h.0
  one-refused (refused.Rehearsal rehearsal.Memory) e h = absurd h.0
  one-refused (refused.Rehearsal rehearsal.Failed) e h = absurd h.0
  one-refused (refused.Start (TooMany line)) e h = refuses-none (refused.Start (TooMany line)) (turns_of (beginning_of g)) (ap turns_of h.0) h
  one-refused (refused.Start (Alternatives count)) e h = absurd (let f : ◌≡◌ {A = Option ℕ} (Some count) None = e in cc)
  one-refused (refused.Start (NoAlternative number count)) e h = refuses-none (refused.Start (NoAlternative number count)) (turns_of (beginning_of g)) (ap turns_of h.0) h
  one-refused (refused.Start Name) e h = refuses-none (refused.Start Name) (turns_of (beginning_of g)) (ap turns_of h.0) h
  one-refused refused.Boots e h = absurd h.0
  one-refused (refused.Changes error) e h = absurd h.0
  one-refused refused.Unnamed e h = absurd h.0
  one-refused refused.Write e h = refuses-none refused.Write (turns_of (beginning_of g)) (ap turns_of h.1.found) h
  one-refused refused.Memory e h = memory-told (turns_of (beginning_of g)) h

-- ---- in turn

-- one refusal says that there are turns
pub has-turns : (g : Given) (flow : Bool) (states work bytes : ℕ) (old new : Sink) (error : RehearsalError) (count : ℕ) → turns_told error ≡ Some count → RefusesOne g flow states work bytes old new error
    → (beginning_of g ≡ Err (OfBoard (OfStart (Alternatives count)))) × (new ≡ old)
has-turns g flow states work bytes old new (refused.Start (Alternatives n)) count e h = (h.0 ∙ ap (λ k. Err (OfBoard (OfStart (Alternatives k)))) same, h.1)
  where
    same : n ≡ count
    same = let f : ◌≡◌ {A = Option ℕ} (Some n) (Some count) = e in cc
has-turns g flow states work bytes old new (refused.Start (TooMany line)) count e h = absurd (let f : ◌≡◌ {A = Option ℕ} None (Some count) = e in cc)
has-turns g flow states work bytes old new (refused.Start (NoAlternative number n)) count e h = absurd (let f : ◌≡◌ {A = Option ℕ} None (Some count) = e in cc)
has-turns g flow states work bytes old new (refused.Start Name) count e h = absurd (let f : ◌≡◌ {A = Option ℕ} None (Some count) = e in cc)
has-turns g flow states work bytes old new (refused.Image fault) count e h = absurd (let f : ◌≡◌ {A = Option ℕ} None (Some count) = e in cc)
has-turns g flow states work bytes old new (refused.Rehearsal error) count e h = absurd (let f : ◌≡◌ {A = Option ℕ} None (Some count) = e in cc)
has-turns g flow states work bytes old new refused.Boots count e h = absurd (let f : ◌≡◌ {A = Option ℕ} None (Some count) = e in cc)
has-turns g flow states work bytes old new (refused.Changes error) count e h = absurd (let f : ◌≡◌ {A = Option ℕ} None (Some count) = e in cc)
has-turns g flow states work bytes old new refused.Unnamed count e h = absurd (let f : ◌≡◌ {A = Option ℕ} None (Some count) = e in cc)
has-turns g flow states work bytes old new refused.Write count e h = absurd (let f : ◌≡◌ {A = Option ℕ} None (Some count) = e in cc)
has-turns g flow states work bytes old new refused.Memory count e h = absurd (let f : ◌≡◌ {A = Option ℕ} None (Some count) = e in cc)

module _ (g : Given) (flow : Bool) (states work bytes count : ℕ) (old new : Sink) (found : beginning_of g ≡ Err (OfBoard (OfStart (Alternatives count)))) where
  tells-some : (t : Option ℕ) → t ≡ Some count → TellsTurns g flow states bytes count old new → TellsBy g flow states bytes t old new
  tells-some None e h = absurd (let f : ◌≡◌ {A = Option ℕ} None (Some count) = e in cc)
  tells-some (Some n) e h = let same : count ≡ n = (let f : ◌≡◌ {A = Option ℕ} (Some n) (Some count) = e in cc) in subst (λ (k : ℕ). TellsTurns g flow states bytes k old new) same h

  refuses-some : (error : RehearsalError) (t : Option ℕ) → t ≡ Some count → RefusesTurns g flow states work bytes count old new error
      → RefusesBy g flow states work bytes t old new error
  refuses-some error None e h = absurd (let f : ◌≡◌ {A = Option ℕ} None (Some count) = e in cc)
  refuses-some error (Some n) e h = let same : count ≡ n = (let f : ◌≡◌ {A = Option ℕ} (Some n) (Some count) = e in cc) in subst (λ (k : ℕ). RefusesTurns g flow states work bytes k old new error) same h

  pub turns-told : (text : Text) → AreAllLines g flow states bytes count text → Wrote old new text → TellsEndings g flow states bytes old new
  turns-told text are wrote = tells-some (turns_of (beginning_of g)) (ap turns_of found) (text, are, wrote)

  pub turns-broken : (text : Text) → AreAllLines g flow states bytes count text → BrokeOff old new text → RefusesEndings g flow states work bytes old new refused.Write
  turns-broken text are broke = refuses-some refused.Write (turns_of (beginning_of g)) (ap turns_of found) (text, are, broke)

  pub turns-refused : (error : RehearsalError) → RefusesTurn g flow states work bytes count error → new ≡ old → RefusesEndings g flow states work bytes old new error
  turns-refused (refused.Image fault) h same = refuses-some (refused.Image fault) (turns_of (beginning_of g)) (ap turns_of found) (h, same)
  turns-refused (refused.Rehearsal error) h same = refuses-some (refused.Rehearsal error) (turns_of (beginning_of g)) (ap turns_of found) (h, same)
  turns-refused (refused.Start fault) h same = refuses-some (refused.Start fault) (turns_of (beginning_of g)) (ap turns_of found) (h, same)
  turns-refused refused.Boots h same = absurd h.lacks
  turns-refused (refused.Changes error) h same = absurd h.lacks
  turns-refused refused.Unnamed h same = absurd h.lacks
  turns-refused refused.Write h same = absurd h.lacks
  turns-refused refused.Memory h same = refuses-some refused.Memory (turns_of (beginning_of g)) (ap turns_of found) (image-of-start g (Alternatives count) found, same)

-- ---- what is never reported

pub never : (g : Given) (flow : Bool) (states work bytes : ℕ) (old new : Sink) (error : RehearseError) → ((h : Given) → WhyNoLines states work bytes h (refused.Rehearsal error) → ⊥) → RefusesEndings g flow states work bytes old new (refused.Rehearsal error) → ⊥
never g flow states work bytes old new error none h = by (turns_of (beginning_of g)) h
  where
    by : (t : Option ℕ) → RefusesBy g flow states work bytes t old new (refused.Rehearsal error) → ⊥
    by None h = none g h.0
    by (Some count) h = none (named g (length h.0.parts + 1)) h.0.lacks

pub never-boots : (g : Given) (flow : Bool) (states work bytes : ℕ) (old new : Sink) → RefusesEndings g flow states work bytes old new refused.Boots → ⊥
never-boots g flow states work bytes old new h = by (turns_of (beginning_of g)) h
  where
    by : (t : Option ℕ) → RefusesBy g flow states work bytes t old new refused.Boots → ⊥
    by None h = h.0
    by (Some count) h = h.0.lacks

pub never-unnamed : (g : Given) (flow : Bool) (states work bytes : ℕ) (old new : Sink) → RefusesEndings g flow states work bytes old new refused.Unnamed → ⊥
never-unnamed g flow states work bytes old new h = by (turns_of (beginning_of g)) h
  where
    by : (t : Option ℕ) → RefusesBy g flow states work bytes t old new refused.Unnamed → ⊥
    by None h = h.0
    by (Some count) h = h.0.lacks

pub never-changes : (g : Given) (flow : Bool) (states work bytes : ℕ) (old new : Sink) (error : ScriptError) → RefusesEndings g flow states work bytes old new (refused.Changes error) → ⊥
never-changes g flow states work bytes old new error h = by (turns_of (beginning_of g)) h
  where
    by : (t : Option ℕ) → RefusesBy g flow states work bytes t old new (refused.Changes error) → ⊥
    by None h = h.0
    by (Some count) h = h.0.lacks

pub untouched : (g : Given) (flow : Bool) (states work bytes : ℕ) (old new : Sink) → RefusesEndings g flow states work bytes old new refused.Memory → new ≡ old
untouched g flow states work bytes old new h = by (turns_of (beginning_of g)) h
  where
    by : (t : Option ℕ) → RefusesBy g flow states work bytes t old new refused.Memory → new ≡ old
    by None h = h.1
    by (Some count) h = h.1

-- ---- one alternative that has no lines

pub turn-refused : (g : Given) (flow : Bool) (states work bytes count place : ℕ) (parts : List Text) (text : Text) → AreInOrder g flow states bytes place parts text → place < count → (error : RehearsalError) → LacksLines states work bytes (named g (place + 1)) error → RefusesTurn g flow states work bytes count error
turn-refused g flow states work bytes count place parts text so_far within error h = by error h
  where
    length_is : place ≡ length parts
    length_is = sym so_far.each

    lacking : (e : RehearsalError) → WhyNoLines states work bytes (named g (place + 1)) e → LacksTurn g flow states work bytes count e
    lacking e why = record {
      parts = parts;
      text = text;
      before = subst (λ (n : ℕ). AreInOrder g flow states bytes n parts text) length_is so_far;
      within = subst (λ (n : ℕ). n < count) length_is within;
      lacks = subst (λ (n : ℕ). WhyNoLines states work bytes (named g (n + 1)) e) length_is why;
    }

    by : (e : RehearsalError) → LacksLines states work bytes (named g (place + 1)) e → RefusesTurn g flow states work bytes count e
    by (refused.Image fault) h = lacking (refused.Image fault) h
    by (refused.Rehearsal fault) h = lacking (refused.Rehearsal fault) h
    by (refused.Start fault) h = lacking (refused.Start fault) h
    by refused.Boots h = absurd h
    by (refused.Changes error) h = absurd h
    by refused.Unnamed h = absurd h
    by refused.Write h = absurd h
    by refused.Memory h = tt

-- ---- what an answer leaves of the output

pub told-sound : (g : Given) (flow : Bool) (states bytes : ℕ) (old new : Sink) → TellsEndings g flow states bytes old new → new.failures ≡ old.failures
told-sound g flow states bytes old new h = by (turns_of (beginning_of g)) h
  where
    by : (t : Option ℕ) → TellsBy g flow states bytes t old new → new.failures ≡ old.failures
    by None h = h.2.sound
    by (Some count) h = h.2.sound

pub broken-counted : (g : Given) (flow : Bool) (states work bytes : ℕ) (old new : Sink) → RefusesEndings g flow states work bytes old new refused.Write → new.failures ≡ counted old.failures
broken-counted g flow states work bytes old new h = by (turns_of (beginning_of g)) h
  where
    by : (t : Option ℕ) → RefusesBy g flow states work bytes t old new refused.Write → new.failures ≡ counted old.failures
    by None h = h.2.failed
    by (Some count) h = h.2.failed

pub image-untouched : (g : Given) (flow : Bool) (states work bytes : ℕ) (old new : Sink) (fault : ImageError) → RefusesEndings g flow states work bytes old new (refused.Image fault) → new ≡ old
image-untouched g flow states work bytes old new fault h = by (turns_of (beginning_of g)) h
  where
    by : (t : Option ℕ) → RefusesBy g flow states work bytes t old new (refused.Image fault) → new ≡ old
    by None h = h.1
    by (Some count) h = h.1

pub start-untouched : (g : Given) (flow : Bool) (states work bytes : ℕ) (old new : Sink) (fault : StartError) → RefusesEndings g flow states work bytes old new (refused.Start fault) → new ≡ old
start-untouched g flow states work bytes old new fault h = by (turns_of (beginning_of g)) h
  where
    by : (t : Option ℕ) → RefusesBy g flow states work bytes t old new (refused.Start fault) → new ≡ old
    by None h = h.1
    by (Some count) h = h.1

pub rehearsal-untouched : (g : Given) (flow : Bool) (states work bytes : ℕ) (old new : Sink) (error : RehearseError) → RefusesEndings g flow states work bytes old new (refused.Rehearsal error) → new ≡ old
rehearsal-untouched g flow states work bytes old new error h = by (turns_of (beginning_of g)) h
  where
    by : (t : Option ℕ) → RefusesBy g flow states work bytes t old new (refused.Rehearsal error) → new ≡ old
    by None h = h.1
    by (Some count) h = h.1
