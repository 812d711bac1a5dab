pub mod Flags
pub mod Results
pub mod Runs
