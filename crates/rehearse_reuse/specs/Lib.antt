pub mod Futures
pub mod DrawnRuns
pub mod SummedRuns
pub mod Reuse
