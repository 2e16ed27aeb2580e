pub mod Grammar
pub mod Inside
pub mod Items
pub mod Lines
pub mod Texts
pub mod Views
