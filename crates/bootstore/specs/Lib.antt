pub use Rattle.bootstore_state.specs.Record
pub use Rattle.bootstore_state.specs.Moment
pub use Rattle.bootstore_state.specs.StoredState
pub use Rattle.bootstore_state.specs.Table
