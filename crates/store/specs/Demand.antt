-- DEMANDS 1 AND 3 of the customer, and document 01's sentences on refusals and on histories: one field for each sentence.
use Rattle.std.specs.Prelude.{◌≡◌, false, ◌≢◌, List, [], ◌∷◌, ◌++◌, ℕ, ◌+◌, ◌≤◌, length, take, drop}
use Rattle.std.proofs.Math.Option.{Option, none, some}
use Rattle.key_order.specs.Order.{Key}
use Rattle.sha256.specs.Hashed.{hashed}
use Rattle.hash_tree.specs.HashTree.{HashTree}
use Rattle.hash_tree.specs.Written.{write, max_depth, Lawful}
use Rattle.hash_tree.specs.Whole as whole
use Rattle.slots.specs.Layout.{current, header, slot, count_of, digest_of, part, zeros}
use Rattle.slots.specs.Setters.{with_value}
use Rattle.llrb.specs.Tree.{Value, Entry, Tree, entries}
use Rattle.llrb.specs.Digests.{root_hash}
use Rattle.llrb.specs.Tree as tree
use Rattle.llrb.specs.Map.{Pair, pairs, find, Out}
use Rattle.llrb.specs.Path.{search_path}
use Rattle.witness_trees.specs.Reading.{labels, leaves}
use Rattle.witness_trees.specs.Witness as paper
use Rattle.witness_trees.specs.Rules.{Le, keys_in, filter, wanted}
use Rattle.store.specs.Sound.{Digests, Counts, Sound}
use Rattle.store.specs.Decode.{decode}
use Rattle.store.specs.Answers.{Found, Changed, Written}
use Rattle.store.specs.Calls.{is_none, create_answer, is_empty_answer, count_answer, root_hash_answer, get_answer, first_entry_answer, next_entry_answer, insert_answer, modify_answer, delete_answer, as_hash_tree_answer, keys_answer, witness_answer, keys_with_prefix_answer, key_range_answer, value_range_answer}
use Rattle.store.specs.Replay.{Replayed, replay_answer}
use Rattle.store.specs.History.{Edit, last_value, map_after, first_pair, pair_above, model_from, new_keys, deletes}
use Rattle.store.specs.Difference.{difference_answer}

-- ---- demand 1: any number but 0 leaves all lent bytes as found; other numbers are 0, a yes or no is no, digests are 32 zero bytes

abbrev pub Kept : List ℕ → Changed → Type 0
Kept s c = c.number ≢ 0 → c.store ≡ s

abbrev pub Unwritten : List ℕ → Written → Type 0
Unwritten out w = w.number ≢ 0 → w ≡ record { number = w.number; size = 0; output = out }

abbrev pub Unreplayed : List ℕ → Replayed → Type 0
Unreplayed s r = r.number ≢ 0 → r ≡ record { number = r.number; full = 0; absent = 0; store = s }

abbrev pub Nothing : Found → Type 0
Nothing f = f.number ≢ 0 → f ≡ record { number = f.number; key_at = 0; key_length = 0; value_at = 0; value_length = 0 }

pub record Demand1 (s : List ℕ) : Type 0 where
  pub create : (capacity : ℕ) → Kept s (create_answer capacity s)
  pub is_empty : (is_empty_answer s).number ≢ 0 → (is_empty_answer s).yes ≡ false
  pub count : (count_answer s).number ≢ 0 → (count_answer s).count ≡ 0
  pub root_hash : (root_hash_answer s).number ≢ 0 → (root_hash_answer s).digest ≡ zeros 32
  pub get : (key : Key) → Nothing (get_answer key s)
  pub first_entry : Nothing (first_entry_answer s)
  pub next_entry : (key : Key) → Nothing (next_entry_answer key s)
  pub insert : (key : Key) (value : Value) → Kept s (insert_answer key value s)
  pub modify : (key : Key) (value : Value) → Kept s (modify_answer key value s)
  pub delete : (key : Key) → Kept s (delete_answer key s)
  pub as_hash_tree : (out : List ℕ) → Unwritten out (as_hash_tree_answer s out)
  pub keys : (out : List ℕ) → Unwritten out (keys_answer s out)
  pub witness : (key : Key) (out : List ℕ) → Unwritten out (witness_answer key s out)
  pub keys_with_prefix : (prefix : Key) (out : List ℕ) → Unwritten out (keys_with_prefix_answer prefix s out)
  pub key_range : (first last : Key) (out : List ℕ) → Unwritten out (key_range_answer first last s out)
  pub value_range : (first last : Key) (out : List ℕ) → Unwritten out (value_range_answer first last s out)
  pub replay : (log : List ℕ) → Unreplayed s (replay_answer log s)
  pub difference : (new out : List ℕ) → Unwritten out (difference_answer s new out)
  pub rebuild : (w : List ℕ) → (whole.rebuilt w).number ≢ 0 → (whole.rebuilt w).digest ≡ zeros 32
  pub hash : (message : List ℕ) → (hashed message).number ≢ 0 → (hashed message).digest ≡ zeros 32

-- ---- demand 3

-- A new value for a present key keeps the shape and changes only that value and digests on its search path.
pub record Replaced (key : Key) (value : Value) (s s' : List ℕ) : Type 0 where
  pub len : length s' ≡ length s
  pub header : header s' ≡ header s
  -- the entry's own slot: colour, links and key stay
  pub entry : Entry
  pub its : tree.get key (decode s).tree ≡ some entry
  pub own : slot s' entry.slot ≡ with_value value (slot s entry.slot)
  -- every other slot stays
  pub others : (i : ℕ) → 1 ≤ i → i ≤ (decode s).capacity → i ≢ entry.slot → slot s' i ≡ slot s i
  -- every digest stays that is not on the search path
  pub digests : (i : ℕ) → 1 ≤ i → i ≤ (decode s).capacity → Out i (search_path key (decode s).tree) → digest_of s' i ≡ digest_of s i
  -- every count stays
  pub counts : (i : ℕ) → 1 ≤ i → i ≤ (decode s).capacity → count_of s' i ≡ count_of s i

-- get and iteration answer where in the store the key and value lie, as offsets and lengths
pub record Lies (s : List ℕ) (key : Key) (value : Value) (f : Found) : Type 0 where
  pub number : f.number ≡ 0
  pub key_length : f.key_length ≡ length key
  pub key_within : f.key_at + f.key_length ≤ length s
  pub key_bytes : part f.key_at f.key_length s ≡ key
  pub value_length : f.value_length ≡ length value
  pub value_within : f.value_at + f.value_length ≤ length s
  pub value_bytes : part f.value_at f.value_length s ≡ value

-- what iteration answers: the next pair's place, or 7 where there is none
abbrev pub Visits : List ℕ → Option Pair → Found → Type 0
Visits s none f = f.number ≡ 7
Visits s (some p) f = Lies s p.key p.value f

-- A key-range witness rebuilds to the root digest and labels exactly the keys from first to last, the nearest key below if first is absent,
-- and the nearest above if last is absent; it shows no value. It fills the front of the output, its length is returned, and the rest of the
-- output stays. The tree is lawful, so it is the one tree that these bytes are the written form of.
pub record KeyRangeShown (s out : List ℕ) (map : List Pair) (first last : Key) (w : Written) : Type 0 where
  pub number : w.number ≡ 0
  pub rebuilds : whole.rebuilt (take w.size w.output) ≡ whole.accepted (root_hash_answer s).digest
  pub tree : HashTree
  pub lawful : Lawful max_depth tree
  pub size : w.size ≡ length (write tree)
  pub bytes : take w.size w.output ≡ write tree
  pub labelled : labels tree ≡ filter (wanted first last (keys_in map)) (keys_in map)
  pub valued : leaves tree ≡ []
  pub rest : drop w.size w.output ≡ drop w.size out

-- After a history from a fresh store of this capacity, the store being s and the accepted calls acc:
pub record Demand3 (capacity : ℕ) (s : List ℕ) (acc : List Edit) : Type 0 where
  pub sound : Sound s
  -- each stored digest equals the one worked out afresh from its subtree
  pub digests : Digests s (decode s).tree
  -- and so does each stored count
  pub counts : Counts current s (decode s).tree
  -- the store holds exactly the keys that the accepted calls leave, each with its last value
  pub map : pairs (entries (decode s).tree) ≡ map_after acc
  pub last : (key : Key) → find key (map_after acc) ≡ last_value key acc
  pub found : (key : Key) (value : Value) → last_value key acc ≡ some value → Lies s key value (get_answer key s)
  pub missing : (key : Key) → length key ≤ 48 → last_value key acc ≡ none → (get_answer key s).number ≡ 7
  -- the tree and the chain are those that the accepted calls alone make, and the root digest that is answered is that tree's
  pub model : decode s ≡ model_from capacity acc
  pub root : root_hash_answer s ≡ record { number = 0; digest = root_hash (model_from capacity acc).tree }
  -- iteration visits exactly the map that they leave, in order: the first pair, above each pair the one that follows, then 7; and above any
  -- lawful key, present or not, the first pair that is above it
  pub first : Visits s (first_pair (map_after acc)) (first_entry_answer s)
  pub follows : (L R : List Pair) (p : Pair) → map_after acc ≡ L ++ (p ∷ R) → Visits s (first_pair R) (next_entry_answer p.key s)
  pub next : (key : Key) → length key ≤ 48 → Visits s (pair_above key (map_after acc)) (next_entry_answer key s)
  pub is_empty : is_empty_answer s ≡ record { number = 0; yes = is_none (first_pair (map_after acc)) }
  -- live: accepted inserts of absent keys less accepted deletes; live plus free is always the capacity
  pub live : (header s).live + deletes acc ≡ new_keys acc
  pub free : (header s).live + length (decode s).free ≡ capacity
  pub counted : count_answer s ≡ record { number = 0; count = (header s).live }
  -- a new value for a present key, by insert and by modify
  pub insert : (key : Key) (value old : Value) → last_value key acc ≡ some old → length value ≤ 64
      → ((insert_answer key value s).number ≡ 0) × Replaced key value s (insert_answer key value s).store
  pub modify : (key : Key) (value old : Value) → last_value key acc ≡ some old → length value ≤ 64
      → ((modify_answer key value s).number ≡ 0) × Replaced key value s (modify_answer key value s).store
  -- for lawful keys, first not above last and room enough
  pub key_range : (first last : Key) (out : List ℕ) → length first ≤ 48 → length last ≤ 48 → Le first last
      → length (write (paper.key_range first last (decode s).tree)) ≤ length out → KeyRangeShown s out (map_after acc) first last (key_range_answer first last s out)

-- Every witness of the tree t rebuilds to its root digest.
pub record WitnessesRebuild (t : Tree) : Type 0 where
  pub as_hash_tree : whole.rebuilt (write (paper.as_hash_tree t)) ≡ whole.accepted (root_hash t)
  pub keys : whole.rebuilt (write (paper.keys t)) ≡ whole.accepted (root_hash t)
  pub witness : (key : Key) → whole.rebuilt (write (paper.witness key t)) ≡ whole.accepted (root_hash t)
  pub keys_with_prefix : (prefix : Key) → whole.rebuilt (write (paper.keys_with_prefix prefix t)) ≡ whole.accepted (root_hash t)
  pub key_range : (first last : Key) → Le first last → whole.rebuilt (write (paper.key_range first last t)) ≡ whole.accepted (root_hash t)
  pub value_range : (first last : Key) → Le first last → whole.rebuilt (write (paper.value_range first last t)) ≡ whole.accepted (root_hash t)
