pub mod ClockFacts
