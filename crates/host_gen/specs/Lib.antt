pub mod GeneratorWords
pub mod Generated
pub mod HostText
pub mod Planning
