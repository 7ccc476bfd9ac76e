-- What holds of every witness. Results: Laws (per call), Demand (after any history), Words, Root, Never, View, Reversed, Loops, Cut.
pub mod Shown
pub mod Lists
pub mod Walks
pub mod Bounds
pub mod Rules
pub mod Calls
pub mod Laws
pub mod Never
pub mod Words
pub mod Demand
pub mod Root
pub mod Loops
pub mod Cut
pub mod View
pub mod Reversed
