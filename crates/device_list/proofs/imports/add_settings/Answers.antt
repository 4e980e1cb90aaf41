use Rattle.device_list.proofs.ImportLemmas.{setting_added}
use Rattle.std.proofs.Common.{◌∙◌}
use Rattle.device_list.proofs.imports.add_settings.Goals as goal

pub loop-entry-preserved : goal.loop-entry-preserved
loop-entry-preserved c =
    setting_added c.args.reading c.args.entries.now c.loop-entry.entry-index c.entry-item.result c.in_ok-from_slice.field-0 c.loop-entry.seen.keys c.insert.new.self.keys c.in_ok-first.first c.loop-entry.settings.items c.push.new.self.items c.args.settings.now.items c.in_ok-setting_of.field-0
    c.loop-entry-test.true c.entry-item.is (c.in_ok-from_slice.ensures.items ∙ c.deref.ensures.value) c.in_ok-first.ensures.added c.in_ok-first.ensures.keys c.in_ok-setting_of.ensures c.in_ok-push.ensures.items c.loop-entry.invariant
