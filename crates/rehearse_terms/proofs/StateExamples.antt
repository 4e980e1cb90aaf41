-- Worked examples, computed: the answers that stay in a log of device commands.
use Rattle.std.proofs.Common.{◌≡◌, true, false, List, [], ◌∷◌, Some, None, codes, refl}
use Rattle.rehearse_terms.specs.State.{Text, LoggedCommand, asked_of, answer_in}

-- a command that succeeded, whose answer does not stay
abbrev entry : List Text → LoggedCommand
entry words = record { success = true; words = words; stays = false; again = false }

-- and one whose answer stays
abbrev steady : List Text → LoggedCommand
steady words = record (entry words) { stays = true }

abbrev call : List Text
call = codes "load" ∷ codes "a" ∷ []

no_log : answer_in [] call ≡ None
no_log = refl

success_stays : answer_in (steady call ∷ []) call ≡ Some true
success_stays = refl

failure_stays : answer_in (record (steady call) { success = false } ∷ []) call ≡ Some false
failure_stays = refl

-- only an answer that stays is reported, and the first of them
none_stays : answer_in (entry call ∷ []) call ≡ None
none_stays = refl

one_stays : answer_in (entry call ∷ record (steady call) { success = false } ∷ steady call ∷ []) call ≡ Some false
one_stays = refl

-- a command that was given its answer again took no outcome, and gives none
asked_once : asked_of (entry call ∷ record (entry call) { again = true } ∷ []) ≡ entry call ∷ []
asked_once = refl

told_again : answer_in (record (steady call) { success = false; again = true } ∷ steady call ∷ []) call ≡ Some true
told_again = refl

-- ---- other words are another call

fewer_words : answer_in (steady call ∷ []) (codes "load" ∷ []) ≡ None
fewer_words = refl

more_words : answer_in (steady call ∷ []) (codes "load" ∷ codes "a" ∷ codes "b" ∷ []) ≡ None
more_words = refl

no_words : answer_in (steady call ∷ []) [] ≡ None
no_words = refl

other_name : answer_in (steady call ∷ []) (codes "boot" ∷ codes "a" ∷ []) ≡ None
other_name = refl

other_word : answer_in (steady call ∷ []) (codes "load" ∷ codes "b" ∷ []) ≡ None
other_word = refl

-- a word that is cut short, or goes on
other_bytes : answer_in (steady call ∷ []) (codes "loa" ∷ codes "ad" ∷ []) ≡ None
other_bytes = refl

behind_another : answer_in (steady (codes "load" ∷ []) ∷ record (steady call) { success = false } ∷ []) call ≡ Some false
behind_another = refl
