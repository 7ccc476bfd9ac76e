-- What the rotations, flip_colors and balance ask of their calls, and what they leave.
pub mod Turning
pub mod Flipping
pub mod Balancing
pub mod Finishing
