-- The records of runs, one after another, and the line after them.
use Rattle.std.proofs.Common.{◌≡◌, ◌≢◌, ℕ, zero, suc, ◌+◌, ◌-◌, Bool, true, false, List, [], ◌∷◌, ◌++◌, length, map, take, drop, Option, Some, None, inl, inr, refl, sym, ap, subst, ◌∙◌, append_assoc, append-nil, arith, Result, Ok, Err, ◌≤◌, length-append}
use Rattle.std.specs.Prelude.{nat_le, codes, unwrap_or}
use Rattle.std.specs.List.{flat_map}
use Rattle.std.proofs.lemmas.List.Concat.{flat_map-append}
use Rattle.output.specs.Sink.{Sink, Wrote, BrokeOff}
use Rattle.output.proofs.SinkLemmas.{Wrote-none, Wrote-append, BrokeOff-after, BrokeOff-before}
use Rattle.bootstore_state.specs.declared.store.Store.{Ghosts}
use Rattle.rehearse_terms.specs.Outcomes.{OutcomeWord}
use Rattle.rehearse_terms.specs.State.{Text, State}
use Rattle.bootstore_state.specs.StoredState.{state_at}
use Rattle.rehearse_rules.specs.Execution.{Ending}
use Rattle.rehearse_rules.specs.Runs.{Task, run_on, state_of, ending_of}
use Rattle.rehearse_rules.specs.Listing.{outcome_digit, record_text, record_of, words_listed, closing, listing, last_of, line, spelled, page_words, page_closing, page_text}
use Rattle.rehearse_terms.specs.Asking.{HasRoom}
use Rattle.rehearse_terms.specs.declared.wanted.Page.{Page}
use Rattle.rehearse_records.specs.Recording.{recorded, printed}
use Rattle.rehearse_runs.specs.RunsShown.{RunsShown, last_given, last_answer, has_words}
use Rattle.rehearse_runs.proofs.WorkLemmas.{last_some, last_more}
use Rattle.rehearse_records.specs.RunViewShown.{shown_word, shown_moment, shown_ending}
use Rattle.std.proofs.Math.Dec.{eqb-suc-zero}
use Rattle.std.proofs.lemmas.Bool.{lt-leb, le-leb}
use Rattle.rehearse_runs.specs.Giving.{ShowsRun, GivesWord, GivesNone, GivesUp, Gives}
use Rattle.rehearse_runs.specs.Giving as giving
use Rattle.rehearse_rules.specs.declared.rehearse_error.RehearseError.{RehearseError}
use Rattle.rehearse_rules.specs.declared.rehearse_error.RehearseError.TheVariants.{DeviceList, NoSuchVariable, NotARun, States, Steps, Bytes, Write, Memory, Failed}
use Rattle.rehearse_runs.specs.declared.listing.Finish.{Finish}
use Rattle.rehearse_runs.specs.declared.listing.Finish.TheVariants.{Done, More}
use Rattle.rehearse_runs.specs.ListingRuns.{Breaks, Lists, left_out, finish_at, finish_of, IsLeft, Takes, Recorded, WroteRecords, FailsInListing, BreaksInListing, reached, lowered}
use Rattle.rehearse_records.specs.declared.run_view.RunView.{RunView}

recorded_spelled : (w : OutcomeWord) (s : State) (e : Ending) (names : List Text) → recorded (map outcome_digit w) (record s { word = [] }) e names ≡ record_text w s e names
recorded_spelled [] s e names = refl
recorded_spelled (d ∷ w) s e names = refl

-- what is written of a run is its record
pub record_is : (task : Task) (w : OutcomeWord) (digits : Text) (s : State) (ending : Ending) (names : List Text) → digits ≡ map outcome_digit w → s ≡ state_of (run_on task w) → ending ≡ ending_of (run_on task w) → recorded digits (record s { word = [] }) ending names ≡ record_of task names w
record_is task w digits s ending names d m e =
    ap (λ (x : Text). recorded x (record s { word = [] }) ending names) d
    ∙ ap (λ (x : State). recorded (map outcome_digit w) (record x { word = [] }) ending names) m
    ∙ ap (λ (x : Ending). recorded (map outcome_digit w) (record (state_of (run_on task w)) { word = [] }) x names) e
    ∙ recorded_spelled w (state_of (run_on task w)) (ending_of (run_on task w)) names

-- and so it is for a run that is shown
pub record_shown : {S : Type 0} (g : Ghosts S) (task : Task) (w : OutcomeWord) (v : RunView S) (names : List Text) → ShowsRun g task w v → recorded (shown_word v) (state_at (shown_moment g v) []) (shown_ending v) names ≡ record_of task names w
record_shown g task w v names h = record_is task w (shown_word v) (state_at (shown_moment g v) []) (shown_ending v) names h.word h.moment h.ending

left_first : (limit : Option ℕ) → IsLeft limit limit 0
left_first None = tt
left_first (Some l) = omega arith

-- no word was taken yet
takes_none : (old : RunsShown) → old.failed ≡ false → Takes old old []
takes_none old f = record { words = refl; answers = sym (append-nil old.answers); given = refl; task = refl; start = refl; sound = f }

-- no record was written yet
pub recorded_none : (s : Sink) (old : RunsShown) (names : List Text) (limit : Option ℕ) → old.failed ≡ false → Recorded s s old old names limit limit []
recorded_none s old names limit f = record { takes = takes_none old f; wrote = Wrote-none s; count = left_first limit; still = f }

last_is : (u w : OutcomeWord) (ws : List OutcomeWord) → last_of u (ws ++ w ∷ []) ≡ w
last_is u w [] = refl
last_is u w (v ∷ ws) = last_is v w ws

-- a word was taken after others
takes_more : {old mid : RunsShown} {ws : List OutcomeWord} (new : RunsShown) → Takes old mid ws → GivesWord mid new → Takes old new (ws ++ last_given new ∷ [])
takes_more {old} {mid} {ws} new t m =
    let w = last_given new in
    record {
      words = t.words ∙ ap (λ (vs : List OutcomeWord). ws ++ vs) m.first ∙ sym (append_assoc ws (w ∷ []) new.to_come);
      answers = m.answers ∙ ap (λ (vs : List OutcomeWord). vs ++ w ∷ []) t.answers ∙ append_assoc old.answers ws (w ∷ []);
      given = m.given ∙ sym (last_more old.given ws w);
      task = m.task ∙ t.task;
      start = m.start ∙ t.start;
      sound = t.sound;
    }

left_next : (limit left : Option ℕ) (n : ℕ) → reached left ≡ false → IsLeft limit left n → IsLeft limit (lowered left) (suc n)
left_next None None n r h = tt
left_next None (Some k) n r h = absurd h
left_next (Some l) None n r h = absurd h
left_next (Some l) (Some zero) n r h = absurd cc
left_next (Some l) (Some (suc k)) n r h = omega arith

length_next : (ws : List OutcomeWord) (w : OutcomeWord) → length (ws ++ w ∷ []) ≡ suc (length ws)
length_next [] w = refl
length_next (v ∷ ws) w = ap suc (length_next ws w)

-- one more record
pub recorded_more : {start now : Sink} {old mid : RunsShown} {names : List Text} {limit left : Option ℕ} {ws : List OutcomeWord} (end : Sink) (new : RunsShown)
    → Recorded start now old mid names limit left ws → reached left ≡ false → GivesWord mid new → Wrote now end (record_of old.task names (last_given new)) → Recorded start end old new names limit (lowered left) (ws ++ last_given new ∷ [])
recorded_more {start} {now} {old} {mid} {names} {limit} {left} {ws} end new r n m q =
    let w = last_given new in
    let f = record_of old.task names in
    record {
      takes = takes_more new r.takes m;
      wrote = subst (λ (t : Text). Wrote start end t) (ap (λ (t : Text). flat_map f ws ++ t) (sym (append-nil (f w))) ∙ sym (flat_map-append f ws (w ∷ []))) (Wrote-append r.wrote q);
      count = subst (λ (k : ℕ). IsLeft limit (lowered left) k) (sym (length_next ws w)) (left_next limit left (length ws) n r.count);
      still = m.still;
    }

-- the same, if only parts of the rehearsal changed that do not matter here
recorded_same : {start now : Sink} {old mid new : RunsShown} {names : List Text} {limit left : Option ℕ} {ws : List OutcomeWord}
    → Recorded start now old mid names limit left ws → new ≡ record mid { shows = false } → Recorded start now old new names limit left ws
recorded_same {start} {now} {old} {mid} {new} {names} {limit} {left} {ws} r e =
    let t = r.takes in
    let same : Recorded start now old (record mid { shows = false }) names limit left ws = record {
      takes = record { words = t.words; answers = t.answers; given = t.given; task = t.task; start = t.start; sound = t.sound };
      wrote = r.wrote;
      count = r.count;
      still = r.still;
    } in
    subst (λ (n : RunsShown). Recorded start now old n names limit left ws) (sym e) same

-- no further word
pub wrote_to_end : {start now : Sink} {old mid new : RunsShown} {names : List Text} {page : Page} {left : Option ℕ} {ws : List OutcomeWord} → Recorded start now old mid names page.limit left ws → GivesNone mid new → WroteRecords start now old new names page
wrote_to_end {left = left} {ws = ws} r m = record { left = left; ws = ws; recorded = recorded_same r m.same; over = λ _. ap (λ (n : RunsShown). n.to_come) m.same ∙ m.none }

-- the limit
pub wrote_to_limit : {start now : Sink} {old new : RunsShown} {names : List Text} {page : Page} {left : Option ℕ} {ws : List OutcomeWord} → Recorded start now old new names page.limit left ws → reached left ≡ true → WroteRecords start now old new names page
wrote_to_limit {left = left} {ws = ws} r e = record { left = left; ws = ws; recorded = r; over = λ h. absurd cc }

take_past : (ws rest : List OutcomeWord) (n k : ℕ) → n ≡ length ws + k → take n (ws ++ rest) ≡ ws ++ take k rest
take_past [] rest n k e = let h : n ≡ k = omega arith in ap (λ (i : ℕ). take i rest) h
take_past (w ∷ ws) rest zero k e = absurd (omega arith)
take_past (w ∷ ws) rest (suc n) k e = ap (λ (vs : List OutcomeWord). w ∷ vs) (take_past ws rest n k (omega arith))

shown_past : (limit left : Option ℕ) (ws rest : List OutcomeWord) → IsLeft limit left (length ws) → words_listed (ws ++ rest) limit ≡ ws ++ words_listed rest left
shown_past None None ws rest h = refl
shown_past None (Some k) ws rest h = absurd h
shown_past (Some l) None ws rest h = absurd h
shown_past (Some l) (Some k) ws rest h = take_past ws rest l k h

-- memory ran out
takes_failed : {old mid new : RunsShown} {ws : List OutcomeWord} → Takes old mid ws → GivesUp mid new → Takes old new ws
takes_failed {old} {mid} {new} {ws} t m =
    let P : RunsShown → Type 0 = λ (n : RunsShown). Takes old n ws in
    let same : Takes old (record mid { failed = true; shows = false; work = new.work }) ws =
    record { words = t.words; answers = t.answers; given = t.given; task = t.task; start = t.start; sound = t.sound } in
    subst P (sym m.failed) same

pub lacked : {start now : Sink} {old mid new : RunsShown} {names : List Text} {page : Page} {left : Option ℕ} {ws : List OutcomeWord} → Recorded start now old mid names page.limit left ws → GivesUp mid new → FailsInListing start now old new names page
lacked {start} {now} {old} {mid} {new} {names} {page} {left} {ws} r m = record {
  lacks = record {
    front = ws;
    left = words_listed mid.to_come left;
    parts = ap (λ (vs : List OutcomeWord). page_words vs page) r.takes.words ∙ shown_past page.limit left ws mid.to_come r.count;
    wrote = r.wrote;
  };
  takes = takes_failed r.takes m;
  failed = ap (λ (n : RunsShown). n.failed) m.failed;
}

shown_next : (left : Option ℕ) (w : OutcomeWord) (rest : List OutcomeWord) → reached left ≡ false → words_listed (w ∷ rest) left ≡ w ∷ words_listed rest (lowered left)
shown_next None w rest h = refl
shown_next (Some zero) w rest h = absurd cc
shown_next (Some (suc k)) w rest h = let e : k ≡ suc k - 1 = omega arith in ap (λ (i : ℕ). w ∷ take i rest) e

-- the output failed inside a record
pub broke_record : {start now : Sink} {old mid : RunsShown} {names : List Text} {page : Page} {left : Option ℕ} {ws : List OutcomeWord} (end : Sink) (new : RunsShown)
    → Recorded start now old mid names page.limit left ws → reached left ≡ false → GivesWord mid new → BrokeOff now end (record_of old.task names (last_given new)) → BreaksInListing start end old new names page
broke_record {start} {now} {old} {mid} {names} {page} {left} {ws} end new r n m q =
    let w = last_given new in
    let f = record_of old.task names in
    let us = words_listed new.to_come (lowered left) in
    let z = line (page_closing old.to_come page) in
    let e : page_words old.to_come page ≡ ws ++ (w ∷ us) = ap (λ (vs : List OutcomeWord). page_words vs page) r.takes.words ∙ shown_past page.limit left ws mid.to_come r.count ∙ ap (λ (vs : List OutcomeWord). ws ++ words_listed vs left) m.first ∙ ap (λ (vs : List OutcomeWord). ws ++ vs) (shown_next left w new.to_come n) in
    let whole : flat_map f ws ++ (f w ++ (flat_map f us ++ z)) ≡ page_text f old.to_come page =
    ap (λ (t : Text). flat_map f ws ++ t) (sym (append_assoc (f w) (flat_map f us) z)) ∙ sym (append_assoc (flat_map f ws) (f w ++ flat_map f us) z) ∙ ap (λ (t : Text). t ++ z) (sym (flat_map-append f ws (w ∷ us))) ∙ ap (λ (vs : List OutcomeWord). flat_map f vs ++ z) (sym e) in
    record {
      place = inl (record {
        ws = ws;
        w = w;
        us = us;
        wanted = e;
        takes = takes_more new r.takes m;
        breaks = record { between = now; wrote = r.wrote; broke = q };
      });
      breaks = subst (λ (t : Text). BrokeOff start end t) whole (BrokeOff-after r.wrote (BrokeOff-before (flat_map f us ++ z) q));
      still = m.still;
    }

-- a call of `next` that refuses
pub refused : {start now : Sink} {old mid : RunsShown} {names : List Text} {left : Option ℕ} {ws : List OutcomeWord} (page : Page) (new : RunsShown) (e : RehearseError) → giving.Refuses mid e new → Recorded start now old mid names page.limit left ws → Breaks start now old new names page e
refused page new (DeviceList fault) h r = absurd h
refused page new NoSuchVariable h r = absurd h
refused page new NotARun h r = absurd h
refused page new States h r = absurd h
refused page new (Steps count) h r = absurd h
refused page new (Bytes count) h r = absurd h
refused page new Write h r = absurd h
refused page new Memory h r = lacked r h
refused page new Failed h r = let t = h.failed in let s = r.still in absurd cc

module _ {S : Type 0} (g : Ghosts S) where
  pub refused_by : {start now : Sink} {old mid : RunsShown} {names : List Text} {left : Option ℕ} {ws : List OutcomeWord} (page : Page) (new : RunsShown) (result : Result (Option (RunView S)) RehearseError) (e : RehearseError) → result ≡ Err e → Gives g mid result new → Recorded start now old mid names page.limit left ws → Breaks start now old new names page e
  refused_by {mid = mid} page new result e is h r = refused page new e (subst (λ (o : Result (Option (RunView S)) RehearseError). Gives g mid o new) is h) r

  pub given_by : (mid new : RunsShown) (result : Result (Option (RunView S)) RehearseError) (o : Option (RunView S)) (v : RunView S) → result ≡ Ok o → o ≡ Some v → Gives g mid result new → GivesWord mid new × ShowsRun g new.task (last_given new) v
  given_by mid new result o v is some h = subst (λ (r : Result (Option (RunView S)) RehearseError). Gives g mid r new) (is ∙ ap (λ (p : Option (RunView S)). Ok p) some) h

  -- the text of the record that is written
  pub record_written : {start now : Sink} {old mid new : RunsShown} {names : List Text} {limit left : Option ℕ} {ws : List OutcomeWord} (v : RunView S) → Recorded start now old mid names limit left ws → GivesWord mid new × ShowsRun g new.task (last_given new) v
      → recorded (shown_word v) (state_at (shown_moment g v) []) (shown_ending v) names ≡ record_of old.task names (last_given new)
  record_written {new = new} {names = names} v r m = record_shown g new.task (last_given new) v names m.1 ∙ ap (λ (t : Task). record_of t names (last_given new)) (m.0.task ∙ r.takes.task)

-- the texts of equal bytes are written and broken off alike
pub Wrote-as : (a b : Sink) (xs ys : Text) → xs ≡ ys → Wrote a b xs → Wrote a b ys
Wrote-as a b xs ys e h = subst (λ (t : Text). Wrote a b t) e h

pub BrokeOff-as : (a b : Sink) (xs ys : Text) → xs ≡ ys → BrokeOff a b xs → BrokeOff a b ys
BrokeOff-as a b xs ys e h = subst (λ (t : Text). BrokeOff a b t) e h

-- ---- the line after the records

abbrev closing_by : Bool → Text → Text
closing_by b u = elim b [ true ↦ codes "done" | false ↦ codes "more " ++ u ]

abbrev finish_by : Bool → Finish
finish_by b = elim b [ true ↦ Done | false ↦ More ]

-- how a listing ends after the records of ws, if rest is left
record EndsBehind (all : List OutcomeWord) (limit : Option ℕ) (ws rest : List OutcomeWord) (last : Text) (finish : Finish) : Type 0 where
  pub shown_is : words_listed all limit ≡ ws
  pub closing_is : closing all limit ≡ last
  pub finish_is : finish ≡ finish_at all limit
  pub rest_is : rest ≡ left_out all limit

drop_past : (ws rest : List OutcomeWord) (n : ℕ) → n ≡ length ws → drop n (ws ++ rest) ≡ rest
drop_past [] rest n e = ap (λ (i : ℕ). drop i rest) e
drop_past (w ∷ ws) rest zero e = absurd (omega arith)
drop_past (w ∷ ws) rest (suc n) e = drop_past ws rest n (omega arith)

drop_beyond : (ws : List OutcomeWord) (n : ℕ) → length ws ≤ n → [] ≡ drop n ws
drop_beyond [] zero h = refl
drop_beyond [] (suc n) h = refl
drop_beyond (w ∷ ws) zero h = absurd (omega arith)
drop_beyond (w ∷ ws) (suc n) h = drop_beyond ws n (omega arith)

take_none : (vs : List OutcomeWord) (k : ℕ) → vs ≡ [] → take k vs ≡ []
take_none [] zero e = refl
take_none [] (suc k) e = refl
take_none (v ∷ vs) k e = absurd cc

at_limit : (limit left : Option ℕ) (ws rest : List OutcomeWord) → IsLeft limit left (length ws) → (reached left ≡ false → rest ≡ []) → has_words rest ≡ true → EndsBehind (ws ++ rest) limit ws rest (codes "more " ++ spelled (last_of [] ws)) More
at_limit limit left ws [] c over h = absurd cc
at_limit None None ws (v ∷ vs) c over h = let e = over refl in absurd cc
at_limit None (Some k) ws (v ∷ vs) c over h = absurd c
at_limit (Some l) None ws (v ∷ vs) c over h = absurd c
at_limit (Some l) (Some (suc k)) ws (v ∷ vs) c over h = let e = over (eqb-suc-zero k) in absurd cc
at_limit (Some l) (Some zero) ws (v ∷ vs) c over h =
    let all = ws ++ v ∷ vs in
    let s : take l all ≡ ws = take_past ws (v ∷ vs) l 0 c ∙ append-nil ws in
    let b : nat_le (length all) l ≡ false = lt-leb (length all) l (let n = length-append ws (v ∷ vs) in omega arith) in
    record {
      shown_is = s;
      closing_is = ap (λ (t : Bool). closing_by t (spelled (last_of [] (take l all)))) b ∙ ap (λ (us : List OutcomeWord). codes "more " ++ spelled (last_of [] us)) s;
      finish_is = sym (ap finish_by b);
      rest_is = sym (drop_past ws (v ∷ vs) l (omega arith));
    }

at_end : (limit left : Option ℕ) (ws rest : List OutcomeWord) → IsLeft limit left (length ws) → rest ≡ [] → EndsBehind (ws ++ rest) limit ws rest (codes "done") Done
at_end None None ws rest c e = record { shown_is = ap (λ (vs : List OutcomeWord). ws ++ vs) e ∙ append-nil ws; closing_is = refl; finish_is = refl; rest_is = e }
at_end None (Some k) ws rest c e = absurd c
at_end (Some l) None ws rest c e = absurd c
at_end (Some l) (Some k) ws rest c e =
    let all = ws ++ rest in
    let n : length all ≡ length ws = ap length (ap (λ (vs : List OutcomeWord). ws ++ vs) e ∙ append-nil ws) in
    let b : nat_le (length all) l ≡ true = le-leb (length all) l (omega arith) in
    record {
      shown_is = take_past ws rest l k c ∙ ap (λ (vs : List OutcomeWord). ws ++ vs) (take_none rest k e) ∙ append-nil ws;
      closing_is = ap (λ (t : Bool). closing_by t (spelled (last_of [] (take l all)))) b;
      finish_is = sym (ap finish_by b);
      rest_is = e ∙ drop_beyond all l (omega arith);
    }

ends_as : (f : OutcomeWord → Text) (all : List OutcomeWord) (limit : Option ℕ) (ws rest : List OutcomeWord) (last : Text) (finish : Finish) → EndsBehind all limit ws rest last finish → flat_map f ws ++ line last ≡ listing f all limit
ends_as f all limit ws rest last finish e = ap (λ (vs : List OutcomeWord). flat_map f vs ++ line last) (sym e.shown_is) ∙ ap (λ (t : Text). flat_map f (words_listed all limit) ++ line t) (sym e.closing_is)

-- the words that were taken are the wanted ones
takes_wanted : {old new : RunsShown} {ws : List OutcomeWord} (page : Page) → page_words (ws ++ new.to_come) page ≡ ws → Takes old new ws → Takes old new (page_words old.to_come page)
takes_wanted {old} {new} {ws} page e t =
    let whole : page_words old.to_come page ≡ ws = ap (λ (vs : List OutcomeWord). page_words vs page) t.words ∙ e in
    subst (λ (vs : List OutcomeWord). Takes old new vs) (sym whole) t

-- the line after the records was written
listed : {start now : Sink} {old new : RunsShown} {names : List Text} {page : Page} {left : Option ℕ} {ws : List OutcomeWord} (end : Sink) (last : Text) (finish : Finish)
    → Recorded start now old new names page.limit left ws → EndsBehind (ws ++ new.to_come) page.limit ws new.to_come last finish → Wrote now end (line last) → Lists start end old new names page finish
listed {start} {now} {old} {new} {names} {page} {left} {ws} end last finish r e q =
    let all = sym r.takes.words in
    record {
      wrote = subst (λ (vs : List OutcomeWord). Wrote start end (page_text (record_of old.task names) vs page)) all (Wrote-as start end _ _ (ends_as (record_of old.task names) (ws ++ new.to_come) page.limit ws new.to_come last finish e) (Wrote-append r.wrote q));
      finish_is = subst (λ (vs : List OutcomeWord). finish ≡ finish_of vs page) all e.finish_is;
      takes = takes_wanted page e.shown_is r.takes;
      rest = subst (λ (vs : List OutcomeWord). new.to_come ≡ left_out vs page.limit) all e.rest_is;
      still = r.still;
    }

-- and it broke off
unlisted : {start now : Sink} {old new : RunsShown} {names : List Text} {page : Page} {left : Option ℕ} {ws : List OutcomeWord} (end : Sink) (last : Text) (finish : Finish)
    → Recorded start now old new names page.limit left ws → EndsBehind (ws ++ new.to_come) page.limit ws new.to_come last finish → BrokeOff now end (line last) → BreaksInListing start end old new names page
unlisted {start} {now} {old} {new} {names} {page} {left} {ws} end last finish r e q =
    let f = record_of old.task names in
    let all = sym r.takes.words in
    let wanted : ws ≡ page_words old.to_come page = sym e.shown_is ∙ ap (λ (vs : List OutcomeWord). page_words vs page) all in
    let last_is : last ≡ page_closing old.to_come page = sym e.closing_is ∙ ap (λ (vs : List OutcomeWord). page_closing vs page) all in
    record {
      place = inr (record {
        takes = takes_wanted page e.shown_is r.takes;
        breaks = record {
          between = now;
          wrote = subst (λ (vs : List OutcomeWord). Wrote start now (flat_map f vs)) wanted r.wrote;
          broke = BrokeOff-as now end _ _ (ap line last_is) q;
        };
      });
      breaks = subst (λ (vs : List OutcomeWord). BrokeOff start end (page_text f vs page)) all (BrokeOff-as start end _ _ (ends_as f (ws ++ new.to_come) page.limit ws new.to_come last finish e) (BrokeOff-after r.wrote q));
      still = r.still;
    }

printed_spelled : (w : OutcomeWord) → printed (map outcome_digit w) ≡ spelled w
printed_spelled [] = refl
printed_spelled (d ∷ w) = refl

no_words : (ws : List OutcomeWord) → has_words ws ≡ false → ws ≡ []
no_words [] h = refl
no_words (w ∷ ws) h = absurd cc

some_left : (limit left : Option ℕ) (ws rest : List OutcomeWord) → limit ≢ Some 0 → IsLeft limit left (length ws) → (reached left ≡ false → rest ≡ []) → has_words rest ≡ true → ws ≢ []
some_left limit left ws [] n c over h e = absurd cc
some_left None None ws (v ∷ vs) n c over h e = let o = over refl in absurd cc
some_left None (Some k) ws (v ∷ vs) n c over h e = absurd c
some_left (Some l) None ws (v ∷ vs) n c over h e = absurd c
some_left (Some l) (Some (suc k)) ws (v ∷ vs) n c over h e = let o = over (eqb-suc-zero k) in absurd cc
some_left (Some l) (Some zero) ws (v ∷ vs) n c over h e = let z : l ≡ 0 = (let k = ap length e in omega arith) in n (ap Some z)

-- the last of some words
last_some_of : (before : Option OutcomeWord) (ws : List OutcomeWord) → ws ≢ [] → last_answer before ws ≡ Some (last_of [] ws)
last_some_of before [] n = absurd (n refl)
last_some_of before (w ∷ ws) n = last_some w ws

-- the digits of the last word, if words are left out
last_line_is : {start now : Sink} {old new : RunsShown} {names : List Text} {page : Page} (digits : Text) (r : WroteRecords start now old new names page) → HasRoom page → has_words new.to_come ≡ true → digits ≡ map outcome_digit (last_given new) → line (codes "more " ++ printed digits) ≡ line (codes "more " ++ spelled (last_of [] r.ws))
last_line_is {old = old} {new = new} {page = page} digits r n h d =
    let some = some_left page.limit r.left r.ws new.to_come n r.recorded.count r.over h in
    let given : last_given new ≡ last_of [] r.ws = ap (λ (o : Option OutcomeWord). unwrap_or o []) (r.recorded.takes.given ∙ last_some_of old.given r.ws some) in
    ap (λ (t : Text). line (codes "more " ++ printed t)) (d ∙ ap (map outcome_digit) given) ∙ ap (λ (t : Text). line (codes "more " ++ t)) (printed_spelled (last_of [] r.ws))

module _ {start now : Sink} {old new : RunsShown} {names : List Text} {page : Page} (end : Sink) (r : WroteRecords start now old new names page) where
  pub listed_more : (digits : Text) → HasRoom page → has_words new.to_come ≡ true → digits ≡ map outcome_digit (last_given new) → Wrote now end (line (codes "more " ++ printed digits)) → Lists start end old new names page More
  listed_more digits n h d q = listed end (codes "more " ++ spelled (last_of [] r.ws)) More r.recorded (at_limit page.limit r.left r.ws new.to_come r.recorded.count r.over h) (Wrote-as now end _ _ (last_line_is digits r n h d) q)

  pub unlisted_more : (digits : Text) → HasRoom page → has_words new.to_come ≡ true → digits ≡ map outcome_digit (last_given new) → BrokeOff now end (line (codes "more " ++ printed digits)) → BreaksInListing start end old new names page
  unlisted_more digits n h d q = unlisted end (codes "more " ++ spelled (last_of [] r.ws)) More r.recorded (at_limit page.limit r.left r.ws new.to_come r.recorded.count r.over h) (BrokeOff-as now end _ _ (last_line_is digits r n h d) q)

  pub listed_done : has_words new.to_come ≡ false → Wrote now end (codes "done\n") → Lists start end old new names page Done
  listed_done h q = listed end (codes "done") Done r.recorded (at_end page.limit r.left r.ws new.to_come r.recorded.count (no_words new.to_come h)) q

  pub unlisted_done : has_words new.to_come ≡ false → BrokeOff now end (codes "done\n") → BreaksInListing start end old new names page
  unlisted_done h q = unlisted end (codes "done") Done r.recorded (at_end page.limit r.left r.ws new.to_come r.recorded.count (no_words new.to_come h)) q
