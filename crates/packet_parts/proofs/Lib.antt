mod Kept
mod Erasing
mod Grammar
mod Counted
mod Whole
