use Rattle.std.proofs.Common.{◌∙◌, ap}
use Rattle.bootstore_state.proofs.TableLemmas.{clone_words, clone_text}
use Rattle.bootstore_state.proofs.log.LogEntry.copy.Goals as goal

pub returns : goal.returns
returns c =
    ap (λ words. record { success = c.self.inside.success; words = words; stays = c.self.inside.stays; again = c.self.inside.again })
    (clone_words _ (λ v w h. clone_text v w h.0) c.self.inside.words.items c.in_ok-clone.field-0.items c.in_ok-clone.ensures.cases.0) ∙ c.self.view_is
