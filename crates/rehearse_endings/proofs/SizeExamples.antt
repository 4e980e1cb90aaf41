-- What is counted for each kind of thing that is known, and for a state, computed.
use Rattle.std.proofs.Common.{◌≡◌, ℕ, [], ◌∷◌, Some, None, Vec, Global, codes, refl, true, false}
use Rattle.rehearse_endings.specs.Held.{size_of, size_of_known}
use Rattle.bootstore_state.specs.Moment.{RunningFrame}
use Rattle.rehearse_reports.specs.declared.known.Known.TheVariants.{Environment, Local, AnswerTo, Succeeded, Status}

-- texts in memory
module _ (bootcmd run_a load usb : Vec ℕ Global) (is_bootcmd : bootcmd.items ≡ codes "bootcmd") (is_run_a : run_a.items ≡ codes "run a") (is_load : load.items ≡ codes "load") (is_usb : usb.items ≡ codes "usb") where
  -- a variable with a name of 7 bytes and a value of 5
  variable_set : size_of_known (Environment bootcmd (Some run_a)) ≡ 204
  variable_set = rw (is_bootcmd, is_run_a) refl

  variable_not_set : size_of_known (Environment bootcmd None) ≡ 199
  variable_not_set = rw is_bootcmd refl

  shell_variable_set : size_of_known (Local bootcmd (Some run_a)) ≡ 204
  shell_variable_set = rw (is_bootcmd, is_run_a) refl

  -- a device command of 2 words with 4 and 3 bytes
  module _ (words : Vec (Vec ℕ Global) Global) (are : words.items ≡ load ∷ usb ∷ []) where
    answered : size_of_known (AnswerTo words (Some true)) ≡ 199
    answered = rw (are, is_load, is_usb) refl

    -- so much even if there is no answer
    not_answered : size_of_known (AnswerTo words None) ≡ 199
    not_answered = rw (are, is_load, is_usb) refl

    succeeded : size_of_known (Succeeded words false) ≡ 199
    succeeded = rw (are, is_load, is_usb) refl

    -- a state with two frames, in which two things are known
    state : (frame other : RunningFrame) → size_of (frame ∷ other ∷ []) (Succeeded words true ∷ Environment bootcmd None ∷ []) ≡ 1038
    state frame other = rw (are, is_load, is_usb, is_bootcmd) refl

-- the status
status : size_of_known (Status 0) ≡ 192
status = refl

-- a state in which nothing is known, and no frame is left
least : size_of [] [] ≡ 512
least = refl
