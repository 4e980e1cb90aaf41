use Rattle.std.proofs.Common.{◌≡◌, ◌∙◌, ap, Err, option_map}
use Rattle.std.proofs.lemmas.Result.{err_from_is_err_and}
use Rattle.rehearse_boots.specs.Boots.{both}
use Rattle.rehearse_boots.specs.BootsShown.{kept_shown}
use Rattle.rehearse_boots.specs.Exploring.{BreaksAt}
use Rattle.rehearse_boots.specs.NextShown.{next_shown}
use Rattle.rehearse_boots.specs.declared.boots_error.BootsError.{BootsError}
use Rattle.rehearse_boots.specs.declared.boots_error.BootsError.TheVariants.{Boots as TooMany}
use Rattle.rehearse_boots.proofs.BootLemmas.{breaks_first, breaks_second, passed_on}
use Rattle.rehearse_boots.proofs.WayLemmas.{adds_both}
use Rattle.rehearse_boots.proofs.boot.add_next.Goals as goal

pub returns-in_err-next-clause-many : goal.returns-in_err-next-clause-many
returns-in_err-next-clause-many c =
    let error = err_from_is_err_and c.from_residual.result c.from_residual.ensures.1 in
    passed_on (λ (e : BootsError). e ≡ TooMany → BreaksAt (both (next_shown c.args.next)) c.args.most c.args.found.now.boots c.number.new.self.boots)
    c.from_residual.result c.in_err-next.field-0.0 (error.1 ∙ ap Err error.2)
    (λ is. let made = c.in_err-next.ensures.many is in
    breaks_first (next_shown c.args.next) c.args.most c.args.found.now.boots c.number.new.self.boots made.0 made.1)

pub returns-in_err-changed-in-Some-clause-many : goal.returns-in_err-changed-in-Some-clause-many
returns-in_err-changed-in-Some-clause-many c =
    let error = err_from_is_err_and c.from_residual-in_err-changed-in-Some.result c.from_residual-in_err-changed-in-Some.ensures.1 in
    passed_on (λ (e : BootsError). e ≡ TooMany → BreaksAt (both (next_shown c.args.next)) c.args.most c.args.found.now.boots c.number-in-Some.new.self.boots)
    c.from_residual-in_err-changed-in-Some.result c.in_err-changed-in-Some.field-0.0 (error.1 ∙ ap Err error.2)
    (λ is. let made = c.in_err-changed-in-Some.ensures.many is in
    breaks_second (next_shown c.args.next) (kept_shown c.in-Some.changed) c.args.most c.args.found.now.boots c.number.new.self.boots c.number-in-Some.new.self.boots (ap (option_map kept_shown) c.in-Some.is) c.in_ok-next.ensures.added made.0 made.1)

pub returns-in_ok-changed-in-Some-clause-ok : goal.returns-in_ok-changed-in-Some-clause-ok
returns-in_ok-changed-in-Some-clause-ok c =
    adds_both c.args.by (next_shown c.args.next) (kept_shown c.in-Some.changed) c.args.found.now.boots c.number.new.self.boots c.number-in-Some.new.self.boots c.args.found.now.by.items c.number.new.self.by.items c.number-in-Some.new.self.by.items
    c.in_ok-next.next c.in_ok-changed-in-Some.changed (ap (option_map kept_shown) c.in-Some.is) c.in_ok-next.ensures.added c.in_ok-changed-in-Some.ensures.added c.in_ok-next.ensures.by c.in_ok-changed-in-Some.ensures.by c.in_ok-next.ensures.number c.in_ok-changed-in-Some.ensures.number
