-- How many answers of a log are unexpected, and how many device commands took an outcome.
use Rattle.std.proofs.Common.{◌≡◌, ◌∙◌, ℕ, ◌+◌, Bool, true, false, not, ◌&&◌, cond, List, [], ◌∷◌, ◌++◌, length, length-append, map, refl, ap, arith}
use Rattle.std.proofs.lemmas.List.{map-append}
use Rattle.std.proofs.lemmas.List.Elements.{filter-append}
use Rattle.device_list.specs.DeviceList.{Devices}
use Rattle.rehearse_terms.specs.State.{LoggedCommand, asked_of}
use Rattle.rehearse_rules.specs.Expected.{Answered, asked_in, is_unexpected, unexpected_of}

asked_append : (log more : List LoggedCommand) → asked_in (log ++ more) ≡ asked_in log ++ asked_in more
asked_append log more = ap (map (λ e. (e.success, e.words))) (filter-append (λ e. not e.again) log more) ∙ map-append (λ e. (e.success, e.words)) (asked_of log) (asked_of more)

-- one command more
asked_one : (e : LoggedCommand) (b : Bool) → e.again ≡ b → length (asked_in (e ∷ [])) ≡ cond b 0 1
asked_one e true is = ap (λ (x : Bool). length (map (λ (c : LoggedCommand). (let a : Answered = (c.success, c.words) in a)) (cond (not x) (e ∷ []) []))) is
asked_one e false is = ap (λ (x : Bool). length (map (λ (c : LoggedCommand). (let a : Answered = (c.success, c.words) in a)) (cond (not x) (e ∷ []) []))) is

pub asked_more : (before after : List LoggedCommand) (e : LoggedCommand) (b : Bool) (n : ℕ) → after ≡ before ++ e ∷ [] → e.again ≡ b → n ≡ length (asked_in before) → n + cond b 0 1 ≡ length (asked_in after)
asked_more before after e b n same is h =
    let a = ap (λ (l : List LoggedCommand). length (asked_in l)) same in
    let c = ap length (asked_append before (e ∷ [])) in
    let d = length-append (asked_in before) (asked_in (e ∷ [])) in
    let f = asked_one e b is in
    omega (arith, a, c, d, f, h)

abbrev one_if : Bool → ℕ
one_if b = cond b 1 0

unexpected_one : (devices : Devices) (e : LoggedCommand) (again other : Bool) → e.again ≡ again → is_unexpected devices (e.success, e.words) ≡ other → length (unexpected_of devices (asked_in (e ∷ []))) ≡ cond (not again && other) 1 0
unexpected_one devices e true other p q = rw p refl
unexpected_one devices e false true p q = rw (p, q) refl
unexpected_one devices e false false p q = rw (p, q) refl

pub unexpected_more : (devices : Devices) (before after : List LoggedCommand) (e : LoggedCommand) (b : Bool) (n : ℕ) → after ≡ before ++ e ∷ [] → b ≡ (not e.again && is_unexpected devices (e.success, e.words)) → n ≡ length (unexpected_of devices (asked_in before)) → n + cond b 1 0 ≡ length (unexpected_of devices (asked_in after))
unexpected_more devices before after e b n same is h =
    let a = ap (λ (l : List LoggedCommand). length (unexpected_of devices (asked_in l))) same in
    let c = ap (λ (l : List Answered). length (unexpected_of devices l)) (asked_append before (e ∷ [])) in
    let d = ap length (filter-append (is_unexpected devices) (asked_in before) (asked_in (e ∷ []))) in
    let f = length-append (unexpected_of devices (asked_in before)) (unexpected_of devices (asked_in (e ∷ []))) in
    let g = unexpected_one devices e e.again (is_unexpected devices (e.success, e.words)) refl refl in
    let i = ap one_if is in
    omega (arith, a, c, d, f, g, i, h)
