-- Records and logs as the code reads them, and a batch of edits.
pub mod Reading
pub mod Running
