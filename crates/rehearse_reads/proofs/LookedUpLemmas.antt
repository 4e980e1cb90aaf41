-- What is looked up in variables and logs after a change, by what was there before.
use Rattle.std.proofs.Common.{◌≡◌, ◌∙◌, refl, sym, ap, Bool, true, false, not, cond, List, [], ◌∷◌, ◌++◌, map, filter, Option, Some, None}
use Rattle.std.specs.FinMap.{IsAntisymmetric, nat_cmp-IsAntisymmetric, slice_cmp-IsAntisymmetric}
use Rattle.std.specs.FinMap.Entries.{find-put, find-where_key}
use Rattle.std.specs.declared.cmp.Ordering.{Ordering}
use Rattle.std.specs.Ordering.{nat_cmp, eq_by_cmp, is_eq}
use Rattle.std.specs.Cmp.{tied_itself}
use Rattle.std.specs.Cmp.Lexicographic.{slice_cmp}
use Rattle.std.specs.Map.{lookup}
use Rattle.std.specs.Option.{option_or}
use Rattle.std.proofs.lemmas.Cmp.{nat_list_cmp_total}
use Rattle.std.proofs.lemmas.List.{map-append}
use Rattle.std.proofs.lemmas.List.Elements.{filter-append}
use Rattle.rehearse_terms.specs.State.{Text, Variables, get, with_value, without, LoggedCommand, asked_of, answers_in, same_words, answer_in}

abbrev by_bytes : Text → Text → Ordering
by_bytes = slice_cmp nat_cmp

abbrev is_name : Text → Text → Bool
is_name name other = eq_by_cmp by_bytes name other

exact : IsAntisymmetric by_bytes
exact = slice_cmp-IsAntisymmetric nat_cmp-IsAntisymmetric

is_itself : (name : Text) → is_name name name ≡ true
is_itself name = ap is_eq (tied_itself nat_list_cmp_total name)

get-put : (variables : Variables) (name value q : Text) → get (with_value variables name value) q ≡ cond (is_name q name) (Some value) (get variables q)
get-put variables name value q = find-put by_bytes nat_list_cmp_total q name value variables

get-left : (variables : Variables) (name q : Text) → get (without variables name) q ≡ cond (not (is_name name q)) (get variables q) None
get-left variables name q = find-where_key by_bytes (λ other. not (is_name name other)) q (λ x e. ap (λ y. not (is_name name y)) (sym (exact q x e))) variables

-- a variable that is set has its value
pub get_set : (variables : Variables) (name value : Text) → get (with_value variables name value) name ≡ Some value
get_set variables name value = get-put variables name value name ∙ ap (λ (b : Bool). cond b (Some value) (get variables name)) (is_itself name)

-- one that is deleted is not set
pub get_deleted : (variables : Variables) (name : Text) → get (without variables name) name ≡ None
get_deleted variables name = get-left variables name name ∙ ap (λ (b : Bool). cond (not b) (get variables name) None) (is_itself name)

-- each variable has after a change what it has after the same change of variables in which it was the same
pub get_set_alike : (here there : Variables) (name value q : Text) → get there q ≡ get here q → get (with_value there name value) q ≡ get (with_value here name value) q
get_set_alike here there name value q e =
    get-put there name value q ∙ ap (λ (o : Option Text). cond (is_name q name) (Some value) o) e ∙ sym (get-put here name value q)

pub get_deleted_alike : (here there : Variables) (name q : Text) → get there q ≡ get here q → get (without there name) q ≡ get (without here name) q
get_deleted_alike here there name q e =
    get-left there name q ∙ ap (λ (o : Option Text). cond (not (is_name name q)) o None) e ∙ sym (get-left here name q)

-- ---- logs

lookup-append : {K V : Type 0} (test : K → Bool) (front behind : List (K × V)) → lookup test (front ++ behind) ≡ option_or (lookup test front) (lookup test behind)
lookup-append test [] behind = refl
lookup-append {K} {V} test (x ∷ front) behind = by (test x.0) (lookup-append test front behind)
  where
    by : (here : Bool) → lookup test (front ++ behind) ≡ option_or (lookup test front) (lookup test behind) → cond here (Some x.1) (lookup test (front ++ behind)) ≡ option_or (cond here (Some x.1) (lookup test front)) (lookup test behind)
    by true rest = refl
    by false rest = rest

answers-append : (front behind : List LoggedCommand) → answers_in (front ++ behind) ≡ answers_in front ++ answers_in behind
answers-append front behind =
    ap (λ (l : List LoggedCommand). map (λ e. (e.words, e.success)) (filter (λ e. e.stays) l)) (filter-append (λ e. not e.again) front behind)
    ∙ ap (map (λ e. (e.words, e.success))) (filter-append (λ e. e.stays) (asked_of front) (asked_of behind))
    ∙ map-append (λ e. (e.words, e.success)) (filter (λ e. e.stays) (asked_of front)) (filter (λ e. e.stays) (asked_of behind))

answer-append : (log more : List LoggedCommand) (call : List Text) → answer_in (log ++ more) call ≡ option_or (answer_in log call) (answer_in more call)
answer-append log more call =
    ap (lookup (same_words call)) (answers-append log more) ∙ lookup-append (same_words call) (answers_in log) (answers_in more)

-- logs that have the same answer to a call have it after the same further commands
pub answer_alike : (here there more : List LoggedCommand) (call : List Text) → answer_in there call ≡ answer_in here call → answer_in (there ++ more) call ≡ answer_in (here ++ more) call
answer_alike here there more call e =
    answer-append there more call ∙ ap (λ (o : Option Bool). option_or o (answer_in more call)) e ∙ sym (answer-append here more call)
