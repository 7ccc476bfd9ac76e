-- The numbers a call may answer: those of crate answers.
pub use Rattle.answers.specs.declared.Refusal.{Refusal}
pub use Rattle.answers.specs.declared.Refusal.TheVariants.{NotSound, LongKey, LongValue, Reversed, Full, NoRoom, Absent, BadCapacity, Malformed, LongMessage, IllFormed, NotCbor, BadLog, BadPath, Unlike}
pub use Rattle.answers.specs.Numbers.{number_of, Outcome, refused, done}
