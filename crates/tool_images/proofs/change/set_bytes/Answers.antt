use Rattle.std.proofs.Common.{rules}
use Rattle.std.specs.Option.{option_copied}
use Rattle.envimage.specs.Image.{load_of, loaded_shown}
use Rattle.envtools.proofs.SavingLemmas.{loaded-size}
use Rattle.tool_images.proofs.SettingLemmas.{answered-safe}
use Rattle.tool_images.proofs.change.set_bytes.Goals as goal

pub returns-in-One-clause-answer : goal.returns-in-One-clause-answer
returns-in-One-clause-answer c = search rules

pub returns-in-One-clause-safe : goal.returns-in-One-clause-safe
returns-in-One-clause-safe c =
    let first = c.args.first.now in
    let second = option_copied c.args.second in
    answered-safe c.args.order first second c.args.edit (load_of c.args.order first second) c.set_one.result (returns-in-One-clause-answer c)

pub returns-in-Script-clause-answer : goal.returns-in-Script-clause-answer
returns-in-Script-clause-answer c = search rules

pub returns-in-Script-clause-safe : goal.returns-in-Script-clause-safe
returns-in-Script-clause-safe c =
    let first = c.args.first.now in
    let second = option_copied c.args.second in
    answered-safe c.args.order first second c.args.edit (load_of c.args.order first second) c.set_all.result (returns-in-Script-clause-answer c)

pub set_one-requires-clause-size : goal.set_one-requires-clause-size
set_one-requires-clause-size c = loaded-size c.args.order c.args.first.now (option_copied c.args.second) (loaded_shown c.in_ok-loaded.loaded) c.in_ok-loaded.ensures.answer

pub set_all-requires-clause-size : goal.set_all-requires-clause-size
set_all-requires-clause-size c = loaded-size c.args.order c.args.first.now (option_copied c.args.second) (loaded_shown c.in_ok-loaded.loaded) c.in_ok-loaded.ensures.answer
