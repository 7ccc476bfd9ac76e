-- The free chain of a fresh store, slot by slot.
use Rattle.std.specs.Prelude.{cond, ℕ, ◌+◌, eqb}

-- the slot after x in the chain 1, 2, up to the capacity
unfoldable pub next_of : (cap x : ℕ) → ℕ
next_of cap x = cond (eqb x cap) 0 (x + 1)
