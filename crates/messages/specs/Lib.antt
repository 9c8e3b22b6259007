pub mod Forms
pub mod Pieces
pub mod OutboxStands
pub mod InboxState
pub mod InboxStands
pub mod Laws
pub mod Numbers
