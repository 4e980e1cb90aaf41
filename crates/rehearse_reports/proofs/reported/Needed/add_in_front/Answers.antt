use Rattle.std.proofs.Common.{◌≡◌, ◌++◌, List, rules, subst}
use Rattle.rehearse_reports.specs.Reports.{AreAlike}
use Rattle.rehearse_reports.specs.ReportsShown.{keys_shown, needed_shown}
use Rattle.rehearse_reports.specs.declared.key.Key.{Key}
use Rattle.rehearse_reports.proofs.FrontLemmas.{in_front_added_if}
use Rattle.rehearse_reports.proofs.reported.Needed.add_in_front.Goals as goal

pub returns : goal.returns
returns c =
    let read : c.in_ok-read.read.items ≡ c.args.stretch.read.keys = search rules in
    in_front_added_if c.add_unwritten.result (needed_shown c.args.self.now) (keys_shown c.args.stretch.read.keys) (needed_shown c.add_all.new.self) (keys_shown c.args.stretch.written.keys) (keys_shown c.args.later.items) (needed_shown c.add_unwritten.new.self)
    (subst (λ (ks : List Key). AreAlike (needed_shown c.args.self.now ++ keys_shown ks) (needed_shown c.add_all.new.self)) read c.in_ok-add_all.ensures) c.add_unwritten.ensures
