-- What the reader of a plan text keeps on its way. `HasRead` of reading row by row cites it, and no clause of the top
-- call rests on it.
pub mod Reading
pub mod OldReading
