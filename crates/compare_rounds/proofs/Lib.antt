pub mod OneRound
pub mod AllRounds
