pub mod Answers
pub mod Copies
pub mod InfoRecords
pub mod Loans
pub mod Statuses
