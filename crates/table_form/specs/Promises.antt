-- What a run promises, of whatever steps it came about. `Run` has the record of the promises.
pub mod Busy
pub mod Capped
pub mod Fresh
pub mod Gaps
pub mod Offered
pub mod OneTable
pub mod Run
pub mod Together
