pub mod After
pub mod Books
pub mod Changes
pub mod Courses
pub mod Inside
pub mod Mades
pub mod States
