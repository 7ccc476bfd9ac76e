-- What the calls have to answer, by the tests that their code makes.
pub mod Refusing
pub mod Changing
pub mod Witnessing
pub mod Differing
pub mod Refusals
