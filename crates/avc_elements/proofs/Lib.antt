pub mod ToLast
