pub mod Enclosure
pub mod Answer
pub mod ProgramRun
pub mod Laws
pub mod Lemmas
