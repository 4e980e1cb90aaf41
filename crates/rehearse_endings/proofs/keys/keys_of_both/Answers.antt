use Rattle.std.proofs.Common.{◌≡◌, rules, ◌++◌}
use Rattle.rehearse_reads.specs.Keys.{keys_in_front}
use Rattle.rehearse_reports.specs.Asked.{asked_reads}
use Rattle.rehearse_reports.specs.ReportsShown.{accesses_shown, keys_shown, needed_shown}
use Rattle.rehearse_endings.proofs.KeyLemmas.{gathered, reads_among}
use Rattle.rehearse_endings.proofs.keys.keys_of_both.Goals as goal

pub returns-clause-asked : goal.returns-clause-asked
returns-clause-asked g c =
    let asked = keys_in_front (accesses_shown c.report_asked.new.reported) (keys_shown c.new.result.items) in
    let won = keys_in_front (accesses_shown c.args.won) (keys_shown c.args.after_won.items) in
    let lost = keys_in_front (accesses_shown c.args.lost) (keys_shown c.args.after_lost.items) in
    let all = gathered (needed_shown c.new-needed.result) asked (needed_shown c.add_in_front.new.self) won (needed_shown c.add_in_front-2.new.self) lost (needed_shown c.add_in_front-3.new.self) (keys_shown c.in_ok-keys.keys.items) c.in_ok-add_in_front.ensures c.in_ok-add_in_front-2.ensures c.in_ok-add_in_front-3.ensures c.in_ok-keys.ensures in
    reads_among (accesses_shown c.new-asked.result) (accesses_shown c.report_asked.new.reported) (asked_reads (g.S.Store.record_of c.args.store.now).present) (keys_shown c.new.result.items) (keys_shown c.in_ok-keys.keys.items) c.new-asked.ensures c.in_ok-report_asked.ensures all.0

pub returns-clause-both : goal.returns-clause-both
returns-clause-both g c =
    let asked = keys_in_front (accesses_shown c.report_asked.new.reported) (keys_shown c.new.result.items) in
    let won = keys_in_front (accesses_shown c.args.won) (keys_shown c.args.after_won.items) in
    let lost = keys_in_front (accesses_shown c.args.lost) (keys_shown c.args.after_lost.items) in
    let all = gathered (needed_shown c.new-needed.result) asked (needed_shown c.add_in_front.new.self) won (needed_shown c.add_in_front-2.new.self) lost (needed_shown c.add_in_front-3.new.self) (keys_shown c.in_ok-keys.keys.items) c.in_ok-add_in_front.ensures c.in_ok-add_in_front-2.ensures c.in_ok-add_in_front-3.ensures c.in_ok-keys.ensures in
    all.1
