-- The first record of a list of bytes.
use Rattle.std.specs.Prelude.{ℕ, zero, suc, ◌+◌, ◌-◌, ◌*◌, ◌/◌, ◌%◌, ◌≤◌, ◌<◌, List, Bool, true, false, cond, Option, Some, None, length, drop, get_or, ltb, leb, eqb}
use Rattle.hash_tree.specs.declared.Kind.{Kind}
use Rattle.hash_tree.specs.declared.Kind.TheVariants.{Empty, Fork, Labeled, Leaf, Pruned}
use Rattle.hash_tree.specs.declared.Record.{Record}
use Rattle.hash_tree.specs.Written.{max_label, max_value, digest_len}

-- the kinds of record by their numbers
abbrev pub kind_number : Kind → ℕ
kind_number Empty = 0
kind_number Fork = 1
kind_number Labeled = 2
kind_number Leaf = 3
kind_number Pruned = 4

-- and back: the kind that a number up to 4 stands for
abbrev pub kind_at : ℕ → Kind
kind_at zero = Empty
kind_at (suc zero) = Fork
kind_at (suc (suc zero)) = Labeled
kind_at (suc (suc (suc zero))) = Leaf
kind_at (suc (suc (suc (suc n)))) = Pruned

-- none above 4
abbrev pub kind_of_number : ℕ → Option Kind
kind_of_number k = cond (ltb k 5) (Some (kind_at k)) None

-- a record with n bytes, of a kind and of a kind's number
abbrev pub a_record : Kind → ℕ → Option Record
a_record kind n = Some (record { kind = kind; len = n })

abbrev pub whole_record : ℕ → ℕ → Option Record
whole_record k n = a_record (kind_at k) n

abbrev pub pick_nat : Bool → ℕ → ℕ → ℕ
pick_nat true a b = a
pick_nat false a b = b

-- the first 3 bits, and the next 13
abbrev pub kind_of : List ℕ → ℕ
kind_of xs = get_or xs 0 0 / 32

abbrev pub len_of : List ℕ → ℕ
len_of xs = get_or xs 0 0 % 32 * 256 + get_or xs 1 0

-- the least and the greatest length of a record of the kind k
unfoldable pub least : ℕ → ℕ
least k = pick_nat (eqb k 4) digest_len 0

unfoldable pub most : ℕ → ℕ
most k = pick_nat (eqb k 2) max_label (pick_nat (eqb k 3) max_value (pick_nat (eqb k 4) digest_len 0))

-- a record stands whole at the front of xs: two bytes of head, a kind up to 4, a length that the kind allows, and so many bytes
pub record Opens (xs : List ℕ) : Type 0 where
  pub two : 2 ≤ length xs
  pub kind : kind_of xs < 5
  pub low : least (kind_of xs) ≤ len_of xs
  pub high : len_of xs ≤ most (kind_of xs)
  pub body : len_of xs ≤ length xs - 2

-- the same five tests, one after the other
unfoldable pub record_of : List ℕ → Option Record
record_of xs =
    cond (leb 2 (length xs))
    (cond (ltb (kind_of xs) 5)
    (cond (leb (least (kind_of xs)) (len_of xs))
    (cond (leb (len_of xs) (most (kind_of xs)))
    (cond (leb (len_of xs) (length xs - 2)) (whole_record (kind_of xs) (len_of xs)) None)
    None)
    None)
    None)
    None

-- the place after the record at a place: its head and its own bytes; a malformed one is not passed
abbrev pub after_record : ℕ → Option Record → ℕ
after_record at (Some r) = at + 2 + r.len
after_record at None = at

unfoldable pub place_after : List ℕ → ℕ → ℕ
place_after s at = after_record at (record_of (drop at s))
