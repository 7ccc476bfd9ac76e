-- A walk through two stores together: a cursor into each, an entry's slot or none; the lines that are left from there.
use Rattle.std.specs.Prelude.{◌≡◌, List, [], ◌∷◌, ◌++◌, ℕ, ◌+◌, ◌<◌, length, Option, Some, None}
use Rattle.key_order.specs.Order.{Key, cmp, pick}
use Rattle.slots.specs.Layout.{slot, key_of, value_of}
use Rattle.llrb.specs.Tree.{Entry, entries}
use Rattle.llrb.specs.Map.{pairs}
use Rattle.llrb.specs.Iterate.{head_of}
use Rattle.llrb.specs.Difference as paper
use Rattle.llrb.specs.Difference.{Line, line, difference}
use Rattle.store.specs.Sound.{Sound}
use Rattle.store.specs.Decode.{decode}
use Rattle.search.specs.Search.{found_slot, EntryAt}
use Rattle.difference.specs.declared.Change.{Change}
use Rattle.difference.specs.declared.Change.TheVariants.{Gone, New, Other}
use Rattle.difference.specs.declared.Line as code
use Rattle.difference.specs.declared.Step.{Step}
use Rattle.difference.specs.declared.Step.TheVariants as step

-- ---- one store

abbrev pub entries_in : List ℕ → List Entry
entries_in s = entries (decode s).tree

-- the entry in slot i
abbrev pub entry_in : List ℕ → ℕ → Entry
entry_in s i = record { slot = i; key = key_of (slot s i); value = value_of (slot s i) }

-- from the first whose key is not below k
unfoldable pub not_below : Key → List Entry → List Entry
not_below k [] = []
not_below k (e ∷ L) = pick (cmp k e.key) (e ∷ L) (e ∷ L) (not_below k L)

-- the entries that are left from a cursor on
abbrev pub rest_of : List ℕ → Option ℕ → List Entry
rest_of s None = []
rest_of s (Some i) = not_below (key_of (slot s i)) (entries_in s)

-- they are the last ones of the store, and the cursor is the slot of the first of them
pub record Cursor (s : List ℕ) (f : Option ℕ) : Type 0 where
  pub past : List Entry
  pub whole : entries_in s ≡ past ++ rest_of s f
  pub head : f ≡ found_slot (head_of (rest_of s f))

-- all entries are left
pub record First (s : List ℕ) (f : Option ℕ) : Type 0 where
  pub cursor : Cursor s f
  pub all : rest_of s f ≡ entries_in s

-- the entry in slot i is passed
pub record After (s : List ℕ) (i : ℕ) (f : Option ℕ) : Type 0 where
  pub cursor : Cursor s f
  pub passed : rest_of s (Some i) ≡ entry_in s i ∷ rest_of s f

-- ---- two stores

pub record Ready (old new : List ℕ) (a b : Option ℕ) : Type 0 where
  pub old_sound : Sound old
  pub new_sound : Sound new
  pub old_at : Cursor old a
  pub new_at : Cursor new b

-- how many entries are left, and which lines
abbrev pub left_of : (old new : List ℕ) (a b : Option ℕ) → ℕ
left_of old new a b = length (rest_of old a) + length (rest_of new b)

abbrev pub lines_of : (old new : List ℕ) (a b : Option ℕ) → List Line
lines_of old new a b = difference (pairs (rest_of old a)) (pairs (rest_of new b))

abbrev pub all_lines : (old new : List ℕ) → List Line
all_lines old new = difference (pairs (entries_in old)) (pairs (entries_in new))

-- the code's change on paper, and the store that has the line's key
abbrev pub change_of : Change → paper.Change
change_of Gone = paper.Gone
change_of New = paper.New
change_of Other = paper.Other

abbrev pub side_of : Change → (old new : List ℕ) → List ℕ
side_of Gone old new = old
side_of New old new = new
side_of Other old new = old

abbrev pub line_in : (old new : List ℕ) → Change → ℕ → Line
line_in old new c i = line (change_of c) (key_of (slot (side_of c old new) i))

-- ---- steps

-- from the cursors a and b on to x and y, with fewer entries left
pub record Further (old new : List ℕ) (a b x y : Option ℕ) : Type 0 where
  pub ready : Ready old new x y
  pub fewer : left_of old new x y < left_of old new a b

-- a line of the key in this slot
pub record Says (old new : List ℕ) (a b : Option ℕ) (c : Change) (i : ℕ) (x y : Option ℕ) : Type 0 where
  pub further : Further old new a b x y
  pub there : EntryAt (side_of c old new) i
  pub lines : lines_of old new a b ≡ line_in old new c i ∷ lines_of old new x y

-- one key in both with one value
pub record Passes (old new : List ℕ) (a b x y : Option ℕ) : Type 0 where
  pub further : Further old new a b x y
  pub lines : lines_of old new a b ≡ lines_of old new x y

-- the step that is a line
abbrev pub said : Change → ℕ → (x y : Option ℕ) → Step
said c i x y = step.Line (record { change = c; slot = i; rest = record { in_old = x; in_new = y } })

abbrev pub SaysLine : (old new : List ℕ) (a b : Option ℕ) → code.Line → Type 0
SaysLine old new a b l = Says old new a b l.change l.slot l.rest.in_old l.rest.in_new

abbrev pub Meets : (old new : List ℕ) (a b : Option ℕ) → Step → Type 0
Meets old new a b (step.Line l) = SaysLine old new a b l
Meets old new a b (step.Same r) = Passes old new a b r.in_old r.in_new
Meets old new a b step.End = lines_of old new a b ≡ []

-- the same with equal entries passed over
abbrev pub Steps : (old new : List ℕ) (a b : Option ℕ) → Option code.Line → Type 0
Steps old new a b (Some l) = SaysLine old new a b l
Steps old new a b None = lines_of old new a b ≡ []
