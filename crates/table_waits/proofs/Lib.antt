pub mod Ledger
pub mod Waits
