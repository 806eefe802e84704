pub mod Characters
pub mod Grammar
pub mod Fault
pub mod Machine
pub mod Text
pub mod Words
