pub mod Grammar
pub mod Numbers
pub mod Rule
pub mod Said
