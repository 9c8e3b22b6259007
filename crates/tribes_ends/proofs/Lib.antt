pub mod Noted
pub mod Tests
pub mod Sealing
pub mod CopiesHeld
pub mod Hearing
pub mod Listing
pub mod Passing
pub mod Replayed
