-- Worked examples of a store's changes, computed.
use Rattle.std.proofs.Common.{◌≡◌, [], ◌∷◌, Some, None, codes, refl, true, false}
use Rattle.std.specs.FinMap.{empty, insert, get, get-insert, get-remove, get-empty}
use Rattle.std.specs.Ordering.{nat_cmp}
use Rattle.std.specs.Cmp.Lexicographic.{slice_cmp}
use Rattle.std.proofs.lemmas.Cmp.{nat_list_cmp_total}
use Rattle.hushlang.specs.Tree.{Empty}
use Rattle.bootstore_state.specs.declared.frame.At.{At}
use Rattle.bootstore_state.specs.declared.frame.FrameKind.TheVariants.{Text}
use Rattle.bootstore_state.specs.Moment.{RunningFrame}
use Rattle.rehearse_terms.specs.State.{LoggedCommand, answer_in}
use Rattle.rehearse_terms.specs.declared.written.Written.TheVariants.{Kept, Dropped}
use Rattle.bootstore_state.specs.Record.{Record, fresh, started, stepped, changed, with_environment, with_status, with_echo, with_device, with_frame, with_place, without_frame, with_mark, gone_back}

abbrev start_place : At
start_place = record { list = 0; command = 0; turn = 0; last = 0 }

abbrev further : At
further = record { list = 1; command = 2; turn = 3; last = 4 }

abbrev frame : RunningFrame
frame = record { kind = Text; script = Empty; words = []; place = start_place }

abbrev entry : LoggedCommand
entry = record { success = true; words = codes "load" ∷ []; stays = true; again = false }

-- a run starts in an empty environment
abbrev begun : Record
begun = started Kept empty fresh

-- marked, `a` set, the status 1, a text, a frame; marked again, the frame popped and `a` deleted
abbrev gone_on : Record
gone_on = changed (with_environment (codes "a") None) (changed without_frame (with_mark (changed (with_frame frame) (changed (with_echo (codes "t")) (changed (with_status 1) (changed (with_environment (codes "a") (Some (codes "1"))) (with_mark begun)))))))

-- going back once restores the value and the frame
value_is_back : get (gone_back gone_on).present.environment (codes "a") ≡ Some (codes "1")
value_is_back = get-insert nat_list_cmp_total empty (codes "a") (codes "1") (codes "a")

frame_is_back : (gone_back gone_on).present.frames ≡ frame ∷ []
frame_is_back = refl

one_mark_left : (gone_back gone_on).marked ≡ begun.present ∷ []
one_mark_left = refl

-- going back twice gives the start: `a` is not set, the status is 0, no text and no frame
beginning_is_back : gone_back (gone_back gone_on) ≡ begun
beginning_is_back = refl

not_set : get (gone_back (gone_back gone_on)).present.environment (codes "a") ≡ None
not_set = get-empty (slice_cmp nat_cmp) (codes "a")

-- before going back `a` is deleted
deleted : get gone_on.present.environment (codes "a") ≡ None
deleted = get-remove nat_list_cmp_total (insert empty (codes "a") (codes "1")) (codes "a") (codes "a")

-- going back without a mark, a pop and an advance without a frame change nothing
no_mark : gone_back begun ≡ begun
no_mark = refl

no_frame_to_pop : changed without_frame begun ≡ begun
no_frame_to_pop = refl

no_frame_to_move : changed (with_place further) begun ≡ begun
no_frame_to_move = refl

-- only the innermost frame moves
moved_frame : (changed (with_place further) (changed (with_frame frame) (changed (with_frame frame) begun))).present.frames ≡ record frame { place = further } ∷ frame ∷ []
moved_frame = refl

-- the count of all steps stays, whether a run goes back or starts anew
steps_stay : (gone_back (stepped (with_mark begun))).begun ≡ 1
steps_stay = refl

steps_go_back : (gone_back (stepped (with_mark begun))).present.steps ≡ 0
steps_go_back = refl

start_keeps_steps : (started Kept empty (stepped begun)).begun ≡ 1
start_keeps_steps = refl

start_keeps_no_mark : (started Kept empty (with_mark begun)).marked ≡ []
start_keeps_no_mark = refl

-- what was written and logged last is last
text_in_order : (changed (with_echo (codes "xt")) (changed (with_echo (codes "te")) begun)).present.text ≡ Some (codes "text")
text_in_order = refl

-- but nothing is written where the text is dropped
text_dropped : (changed (with_echo (codes "xt")) (started Dropped empty fresh)).present.text ≡ None
text_dropped = refl

entry_logged : (changed (with_device entry) begun).present.log ≡ entry ∷ []
entry_logged = refl

-- an answer that stays is there until the run goes back to before it
abbrev steady_once : Record
steady_once = changed (with_device entry) (with_mark begun)

answer_stays : answer_in steady_once.present.log (codes "load" ∷ []) ≡ Some true
answer_stays = refl

answer_of_other_words : answer_in steady_once.present.log (codes "load" ∷ codes "x" ∷ []) ≡ None
answer_of_other_words = refl

answer_is_gone : answer_in (gone_back steady_once).present.log (codes "load" ∷ []) ≡ None
answer_is_gone = refl
