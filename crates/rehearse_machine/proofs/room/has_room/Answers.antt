use Rattle.rehearse_machine.proofs.RoomLemmas.{settings_within}
use Rattle.rehearse_machine.proofs.room.has_room.Goals as goal

pub returns-in-Some : goal.returns-in-Some
returns-in-Some g c =
    settings_within (g.S.Store.record_of c.args.store.now).present.environment c.are_within.result c.args.room c.in-Some.room c.args.sets.now c.in-Some.is c.are_within.ensures
