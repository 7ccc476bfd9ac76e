-- What a store means, and what each public call answers. Read Calls first: the calls as functions of the bytes; then Sound and Model,
-- which say what a store holds; Table and Demand, which say what is proved of the calls; History, which says what a history is; Log and
-- Replay, which say what a build log is and what running it answers.
pub mod Numbers
pub mod Counts
pub mod Model
pub mod Sound
pub mod Words
pub mod Encode
pub mod Decode
pub mod Deciding
pub mod Counting
pub mod Decide
pub mod Answers
pub mod Calls
pub mod History
pub mod Log
pub mod Replay
pub mod Difference
pub mod Table
pub mod Demand
pub mod Longest
pub mod Viewed
pub mod Moves
