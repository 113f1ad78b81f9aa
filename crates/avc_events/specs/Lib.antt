pub mod EventReports
