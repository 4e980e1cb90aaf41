pub mod AccessLemmas
pub mod SameWords
pub mod LookedUpLemmas
pub mod AbreastLemmas
pub mod AlikeParts
mod RoomLemmas
pub mod AlikeDevices
pub mod AlikeLoops
pub mod AlikeScripts
pub mod KeysRead
pub mod AlikeRuns
pub mod UnheardRuns
mod AccessExamples
