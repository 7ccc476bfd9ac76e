-- What the steps of the judgement tell.
pub mod Rising
pub mod Steps
