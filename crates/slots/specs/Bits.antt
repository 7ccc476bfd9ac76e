-- Runs of bits are crate runs' own; they are passed on under this crate's name.
pub use Rattle.runs.specs.Bits.{total, Fit, octets, Bytes, bit, flag}
unfoldable pub use Rattle.runs.specs.Bits.{joined, fields, recut}
