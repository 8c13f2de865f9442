pub mod BuildLoop
