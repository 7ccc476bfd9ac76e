-- The laws of the definitions, and the lemmas that belong to no one function.
pub mod RecordLaws
pub mod Lawfulness
pub mod Forms
pub mod ParseLaws
pub mod Deep
pub mod Promises
pub mod DigestLaws
pub mod Pruning
pub mod Examples
pub mod Standing
pub mod Rebuilding
