pub mod Counter
pub mod StartLines
pub mod Start
pub mod Boards
pub mod StartShown
pub mod BoardShown
pub mod StartAnswers
pub mod StartLaws
