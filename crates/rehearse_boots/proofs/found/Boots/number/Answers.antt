use Rattle.std.proofs.Common.{◌<◌, subst}
use Rattle.rehearse_boots.proofs.SetLemmas.{number_with, seen_insert}
use Rattle.rehearse_boots.proofs.found.Boots.number.Goals as goal

pub returns-then-len-most-clause-many : goal.returns-then-len-most-clause-many
returns-then-len-most-clause-many c = λ is.
    (seen_insert c.self.inside.kept.keys c.insert_full.new.self.keys c.args.self.now c.args.kept c.self.view_is c.in_ok-place.ensures.keys, subst (λ n. c.args.most < n) c.len.ensures.count c.if-len-most.true)

pub returns-clause-added : goal.returns-clause-added
returns-clause-added c = seen_insert c.self.inside.kept.keys c.insert_full.new.self.keys c.args.self.now c.args.kept c.self.view_is c.in_ok-place.ensures.keys

pub returns-clause-number : goal.returns-clause-number
returns-clause-number c =
    number_with c.self.inside.kept.keys c.args.self.now _ c.args.kept _ c.self.view_is
    (seen_insert c.self.inside.kept.keys c.insert_full.new.self.keys c.args.self.now c.args.kept c.self.view_is c.in_ok-place.ensures.keys)
    c.in_ok-place.ensures.index
