pub use Rattle.client_seat.specs.own_lists as own_lists
pub use Rattle.client_seat.specs.pair_core as pair_core
pub use Rattle.conn_packing.specs as conn_packing
pub use Rattle.client_seat.specs as client_seat
pub mod World
pub mod Report
pub mod Laws
pub mod Others
pub mod Values
pub mod Applied
pub mod Words
pub mod Promises
