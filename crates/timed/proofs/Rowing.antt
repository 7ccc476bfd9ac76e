-- A call for one more row.
use mathlib.Core.Path.{◌≡◌, refl, ap}
use mathlib.Core.List.{List}
use Prim.Native.Nat.{ℕ, zero, suc, ◌+◌, ◌-◌, ◌*◌}
use native.Mathlib.Numerals.{add-one}
use native.Mathlib.Omega.{arith}
use lib.ListN.{take, drop}
use Rattle.key_order.specs.Order.{Key}
use Rattle.llrb.specs.Tree.{Value}
use Rattle.store.specs.Calls.{delete_answer}
use Rattle.timed.specs.Rows.{changed, changed_rows, counted, counted_rows, output, output_rows}

-- ---- the part of a table that a slice takes

pub part : (at n : ℕ) (bytes : List ℕ) → take ((at + n) - at) (drop at bytes) ≡ take n (drop at bytes)
part at n bytes = let e : (at + n) - at ≡ n = omega arith in ap (λ (x : ℕ). take x (drop at bytes)) e

-- ---- the operation that a number names

pub by-delete : (op : ℕ) (k : Key) (v : Value) (s : List ℕ) → (op ≡ 0 → ⊥) → (op ≡ 1 → ⊥) → (delete_answer k s).store ≡ changed op k v s
by-delete zero k v s n m = absurd (n refl)
by-delete (suc zero) k v s n m = absurd (m refl)
by-delete (suc (suc op)) k v s n m = refl

-- ---- a call for one more row

module _ (op : ℕ) (keys : List ℕ) (k : ℕ) (values : List ℕ) (v i : ℕ) where
  pub next-change : (s₀ : List ℕ) {s s' : List ℕ} → s ≡ changed_rows op keys k values v i s₀
      → s' ≡ changed op (take ((64 * i + k) - 64 * i) (drop (64 * i) keys)) (take ((64 * i + v) - 64 * i) (drop (64 * i) values)) s
      → s' ≡ changed_rows op keys k values v (i + 1) s₀
  unfolding changed_rows
  next-change s₀ e f = rw (add-one i, f, e, part (64 * i) k keys, part (64 * i) v values)

module _ (op : ℕ) (s firsts lasts : List ℕ) (k i : ℕ) where
  pub next-counted : {n r : ℕ} → n ≡ counted_rows op s firsts k i → r ≡ counted op (take ((64 * i + k) - 64 * i) (drop (64 * i) firsts)) s → n + r ≡ counted_rows op s firsts k (i + 1)
  unfolding counted_rows
  next-counted e f = rw (add-one i, f, e, part (64 * i) k firsts)

  pub next-output : (out₀ : List ℕ) {out out' : List ℕ} → out ≡ output_rows op s firsts lasts k i out₀
      → out' ≡ output op (take ((64 * i + k) - 64 * i) (drop (64 * i) firsts)) (take ((64 * i + k) - 64 * i) (drop (64 * i) lasts)) s out
      → out' ≡ output_rows op s firsts lasts k (i + 1) out₀
  unfolding output_rows
  next-output out₀ e f = rw (add-one i, f, e, part (64 * i) k firsts, part (64 * i) k lasts)
