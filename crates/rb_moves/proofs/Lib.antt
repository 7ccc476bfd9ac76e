-- What the moves of delete ask of their calls, and what they leave.
pub mod Readying
pub mod Lending
