pub mod Chronicles
