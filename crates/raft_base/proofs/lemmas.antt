pub mod log_id
