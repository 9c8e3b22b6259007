pub mod Circles
pub mod FrameFacts
pub mod SlotFacts
pub mod AnswerFacts
pub mod LawFacts
