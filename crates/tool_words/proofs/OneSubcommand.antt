-- The program with the one subcommand that the first word names answers words as the program with all subcommands does.
use Rattle.std.proofs.Common.{◌≡◌, ◌∙◌, refl, sym, ap, ap₂, subst, Bool, true, false, cond, List, [], ◌∷◌, Option, Some, None, unwrap_or}
use Rattle.std.specs.Prelude.{find, fold, is_some}
use Rattle.std.specs.List.{AllByRecursion}
use Rattle.std.specs.Option.{option_map_or}
use Rattle.std.specs.Str.{bytes_eq}
use Rattle.std.proofs.lemmas.Slice.Eq.{bytes_eq-Decides}
use Rattle.clap.specs.Words.{App, Text, fault_of, is_simple, is_simple_and_free, subcommand_of}
use Rattle.clap.specs.Simple.{built, entered, names_of}
use Rattle.clap.specs.Walk.{Walk, finished, nothing_held, settled, walk, walk_from, walked}
use Rattle.clap.specs.Kinds.{Kinds, or_else}
use Rattle.clap.specs.Faults.{built_fault, check_fault, defaults_fault, entered_fault, settle_fault, turn_fault, walk_fault}
use Rattle.clap.proofs.OnLiterals.{clap_on_literals}
use Rattle.clap.proofs.FaultLemmas.{stopped_fault}
use Rattle.clap.proofs.WalkLemmas.{walk_stopped}
use Rattle.tool_words.specs.CommandLine.{boots, causes, endings, inspect, making, named, printenv, rehearse, setenv, subcommands, ubtool, ubtool_for, with_one}

-- where the walk is after a first word that names a subcommand, and these words after it
abbrev stopped_at : Text → List Text → Walk
stopped_at name rest = record (walk_from nothing_held) { stopped = Some (name, rest) }

-- what fails after a walk without a fault
abbrev ended : App → Walk → Kinds
ended a w = or_else (entered_fault a w.stopped) (or_else (settle_fault a.top.rules a.top.args_override_self w.held)
    (or_else (defaults_fault (settled a.top.rules w.held).rows a.top.rules)
    (check_fault a.top (finished a.top.rules w.held) (is_some (entered a w.stopped)))))

-- the first word stops the walk
record Stops (a : App) (name : Text) : Type 0 where
  step : walked a.top.rules (names_of a) (walk_from nothing_held) name ≡ stopped_at name []
  fault : turn_fault a.top (names_of a) (walk_from nothing_held) name ≡ []

walk_at : (a : App) (name : Text) (rest : List Text) → Stops a name → walk a.top.rules (names_of a) nothing_held (name ∷ rest) ≡ stopped_at name rest
walk_at a name rest stops =
    ap (λ w. fold (walked a.top.rules (names_of a)) w rest) stops.step ∙ sym (walk_stopped a.top.rules (names_of a) (walk_from nothing_held) name [] rest)

walk_fault_at : (a : App) (name : Text) (rest : List Text) → Stops a name → walk_fault a.top (names_of a) (walk_from nothing_held) (name ∷ rest) ≡ []
unfolding walk_fault
walk_fault_at a name rest stops =
    ap₂ (λ ks w. or_else ks (walk_fault a.top (names_of a) w rest)) stops.fault stops.step ∙ stopped_fault a.top (names_of a) (walk_from nothing_held) (name, []) rest

built_fault_at : (a : App) (name : Text) (rest : List Text) → Stops a name → built_fault a nothing_held (name ∷ rest) ≡ ended a (stopped_at name rest)
built_fault_at a name rest stops =
    ap₂ (λ ks w. or_else ks (ended a w)) (walk_fault_at a name rest stops) (walk_at a name rest stops)

-- the program answers these words as `ubtool` does
pub record AnswersAs (a : App) (words : List Text) : Type 0 where
  pub simple : is_simple a ≡ true
  pub free : is_simple_and_free a ≡ true
  pub faults : fault_of a words ≡ fault_of ubtool words
  pub enters : subcommand_of a words ≡ subcommand_of ubtool words

abbrev IsEnough : App → Type 0
IsEnough sub = (rest : List Text) → AnswersAs (with_one sub) (sub.top.name ∷ rest)

pub all_of_it : (words : List Text) → AnswersAs ubtool words
unfolding clap_on_literals ubtool
all_of_it words = record { simple = refl; free = refl; faults = refl; enters = refl }

printenv_alone : IsEnough printenv
unfolding clap_on_literals ubtool
printenv_alone rest =
    let name = printenv.top.name in
    let small = built (with_one printenv) in
    let big = built ubtool in
    let first : Stops small name = record { step = refl; fault = refl } in
    let same : Stops big name = record { step = refl; fault = refl } in
    record {
      simple = refl;
      free = refl;
      faults = built_fault_at small name rest first ∙ sym (built_fault_at big name rest same);
      enters = ap (λ (w : Walk). entered small w.stopped) (walk_at small name rest first)
          ∙ sym (ap (λ (w : Walk). entered big w.stopped) (walk_at big name rest same));
    }

setenv_alone : IsEnough setenv
unfolding clap_on_literals ubtool
setenv_alone rest =
    let name = setenv.top.name in
    let small = built (with_one setenv) in
    let big = built ubtool in
    let first : Stops small name = record { step = refl; fault = refl } in
    let same : Stops big name = record { step = refl; fault = refl } in
    record {
      simple = refl;
      free = refl;
      faults = built_fault_at small name rest first ∙ sym (built_fault_at big name rest same);
      enters = ap (λ (w : Walk). entered small w.stopped) (walk_at small name rest first)
          ∙ sym (ap (λ (w : Walk). entered big w.stopped) (walk_at big name rest same));
    }

rehearse_alone : IsEnough rehearse
unfolding clap_on_literals ubtool
rehearse_alone rest =
    let name = rehearse.top.name in
    let small = built (with_one rehearse) in
    let big = built ubtool in
    let first : Stops small name = record { step = refl; fault = refl } in
    let same : Stops big name = record { step = refl; fault = refl } in
    record {
      simple = refl;
      free = refl;
      faults = built_fault_at small name rest first ∙ sym (built_fault_at big name rest same);
      enters = ap (λ (w : Walk). entered small w.stopped) (walk_at small name rest first)
          ∙ sym (ap (λ (w : Walk). entered big w.stopped) (walk_at big name rest same));
    }

endings_alone : IsEnough endings
unfolding clap_on_literals ubtool
endings_alone rest =
    let name = endings.top.name in
    let small = built (with_one endings) in
    let big = built ubtool in
    let first : Stops small name = record { step = refl; fault = refl } in
    let same : Stops big name = record { step = refl; fault = refl } in
    record {
      simple = refl;
      free = refl;
      faults = built_fault_at small name rest first ∙ sym (built_fault_at big name rest same);
      enters = ap (λ (w : Walk). entered small w.stopped) (walk_at small name rest first)
          ∙ sym (ap (λ (w : Walk). entered big w.stopped) (walk_at big name rest same));
    }

boots_alone : IsEnough boots
unfolding clap_on_literals ubtool
boots_alone rest =
    let name = boots.top.name in
    let small = built (with_one boots) in
    let big = built ubtool in
    let first : Stops small name = record { step = refl; fault = refl } in
    let same : Stops big name = record { step = refl; fault = refl } in
    record {
      simple = refl;
      free = refl;
      faults = built_fault_at small name rest first ∙ sym (built_fault_at big name rest same);
      enters = ap (λ (w : Walk). entered small w.stopped) (walk_at small name rest first)
          ∙ sym (ap (λ (w : Walk). entered big w.stopped) (walk_at big name rest same));
    }

causes_alone : IsEnough causes
unfolding clap_on_literals ubtool
causes_alone rest =
    let name = causes.top.name in
    let small = built (with_one causes) in
    let big = built ubtool in
    let first : Stops small name = record { step = refl; fault = refl } in
    let same : Stops big name = record { step = refl; fault = refl } in
    record {
      simple = refl;
      free = refl;
      faults = built_fault_at small name rest first ∙ sym (built_fault_at big name rest same);
      enters = ap (λ (w : Walk). entered small w.stopped) (walk_at small name rest first)
          ∙ sym (ap (λ (w : Walk). entered big w.stopped) (walk_at big name rest same));
    }

making_alone : IsEnough making
unfolding clap_on_literals ubtool
making_alone rest =
    let name = making.top.name in
    let small = built (with_one making) in
    let big = built ubtool in
    let first : Stops small name = record { step = refl; fault = refl } in
    let same : Stops big name = record { step = refl; fault = refl } in
    record {
      simple = refl;
      free = refl;
      faults = built_fault_at small name rest first ∙ sym (built_fault_at big name rest same);
      enters = ap (λ (w : Walk). entered small w.stopped) (walk_at small name rest first)
          ∙ sym (ap (λ (w : Walk). entered big w.stopped) (walk_at big name rest same));
    }

inspect_alone : IsEnough inspect
unfolding clap_on_literals ubtool
inspect_alone rest =
    let name = inspect.top.name in
    let small = built (with_one inspect) in
    let big = built ubtool in
    let first : Stops small name = record { step = refl; fault = refl } in
    let same : Stops big name = record { step = refl; fault = refl } in
    record {
      simple = refl;
      free = refl;
      faults = built_fault_at small name rest first ∙ sym (built_fault_at big name rest same);
      enters = ap (λ (w : Walk). entered small w.stopped) (walk_at small name rest first)
          ∙ sym (ap (λ (w : Walk). entered big w.stopped) (walk_at big name rest same));
    }

each_alone : AllByRecursion IsEnough subcommands
each_alone =
    (printenv_alone, (setenv_alone, (rehearse_alone, (endings_alone, (boots_alone, (causes_alone, (making_alone, (inspect_alone, tt))))))))

-- what holds of each subcommand of a list holds of the one that a name finds, and it has the name
found_among : (P : App → Type 0) (word : Text) (subs : List App) (sub : App) → AllByRecursion P subs → find (λ (s : App). bytes_eq s.top.name word) subs ≡ Some sub
    → P sub × (sub.top.name ≡ word)
found_among P word [] sub all is = cc
found_among P word (s ∷ subs) sub all is = go (bytes_eq s.top.name word) refl (found_among P word subs sub all.1) is
  where
    go : (b : Bool) → bytes_eq s.top.name word ≡ b → (find (λ (t : App). bytes_eq t.top.name word) subs ≡ Some sub → P sub × (sub.top.name ≡ word))
        → cond b (Some s) (find (λ (t : App). bytes_eq t.top.name word) subs) ≡ Some sub → P sub × (sub.top.name ≡ word)
    go true e rest here =
        let same : s ≡ sub = ap (λ o. unwrap_or o s) here in
        subst (λ t. P t × (t.top.name ≡ word)) same (all.0, (bytes_eq-Decides s.top.name word).0 e)
    go false e rest here = rest here

-- the program that is described for words answers them as `ubtool` does
pub answers_as : (a : App) (words : List Text) → a ≡ ubtool_for words → AnswersAs a words
unfolding ubtool_for
answers_as a [] is = subst (λ (b : App). AnswersAs b []) (sym is) (all_of_it [])
answers_as a (word ∷ rest) is = subst (λ (b : App). AnswersAs b (word ∷ rest)) (sym is) (go (named word) refl)
  where
    go : (o : Option App) → named word ≡ o → AnswersAs (option_map_or with_one o ubtool) (word ∷ rest)
    go None none = all_of_it (word ∷ rest)
    go (Some sub) some =
        let found = found_among IsEnough word subcommands sub each_alone some in
        subst (λ (t : Text). AnswersAs (with_one sub) (t ∷ rest)) found.1 (found.0 rest)
