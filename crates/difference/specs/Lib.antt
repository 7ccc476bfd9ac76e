-- A walk through two stores together.
pub mod Walking
