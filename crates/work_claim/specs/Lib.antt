pub mod Claims
pub mod Results
pub mod Workers
