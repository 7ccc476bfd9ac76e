-- The calls answer the numbers of document 01's table, in its order.
use mathlib.Core.Path.{◌≡◌, refl}
use mathlib.Core.Bool.{Bool, true, false, cond, not, ◌&&◌, ◌||◌}
use mathlib.Core.List.{List, [], ◌∷◌}
use mathlib.Core.Option.{Option, none, some}
use Prim.Native.Nat.{ℕ}
use lib.Dec.{ltb, leb, eqb}
use lib.ListN.{length}
use Rattle.answers.specs.Numbers.{max_message}
use Rattle.sha256.specs.Hashed.{hashed}
use Rattle.slots.specs.Layout.{current, store_length}
use Rattle.hash_tree.specs.HashTree.{HashTree}
use Rattle.hash_tree.specs.Written.{write, max_depth}
use Rattle.hash_tree.specs.Parse.{Parsed, Got, Bad, parse}
use Rattle.hash_tree.specs.Whole.{rebuilt, alone}
use Rattle.llrb.specs.Tree.{Entry, entries, size, get}
use Rattle.llrb.specs.Digests.{root_hash}
use Rattle.llrb.specs.Iterate.{head_of, first_above}
use Rattle.witness_trees.specs.Witness.{as_hash_tree, keys, key_range, value_range, keys_with_prefix, witness}
use Rattle.store.specs.Numbers.{NotSound, LongKey, LongValue, Reversed, Full, NoRoom, Absent, BadCapacity, Malformed, LongMessage, BadLog, number_of, Outcome, refused, done}
use Rattle.store.specs.Model.{Model, fresh, inserted, modified, deleted}
use Rattle.store.specs.Sound.{Represents}
use Rattle.store.specs.Decode.{decode}
use Rattle.store.specs.Decide.{represents?, on_sound}
use Rattle.store.specs.Answers.{told, counted, digested, found, changed, written, fitting}
use Rattle.store.specs.Calls.{refuse, long_key, long_value, crossed_range, is_none, absent, no_free_slot, entry_or, get_in, first_in as first_entry_in, next_in, insert_in, modify_in, delete_in, of_key, of_range, witnessed, create_answer, is_empty_answer, count_answer, root_hash_answer, get_answer, first_entry_answer, next_entry_answer, insert_answer, modify_answer, delete_answer, as_hash_tree_answer, keys_answer, witness_answer, keys_with_prefix_answer, key_range_answer, value_range_answer}
use Rattle.llrb.specs.Difference.{difference}
use Rattle.store.specs.Difference.{map_in, lines_bytes, difference_answer}
use Rattle.store.specs.History.{Edit}
use Rattle.store.specs.Log.{read_log}
use Rattle.store.specs.Replay.{replayed, or_bad_log, replay_answer}
use Rattle.store.specs.Table.{Row, when, applies, first_in, not_sound, shorter, malformed, Table}
use Rattle.store.proofs.Refusing.{hashed_if}
use Rattle.store.proofs.Decoding.{on-sound, on-unsound, sound-decodes}
use Rattle.store.proofs.Difference.{difference-of, old-unsound, new-unsound}

-- 1 comes first, and is given exactly for a store that is not sound
by-soundness : {A : Type 0} (s : List ℕ) (o : Model → Outcome A) (number : Outcome A → ℕ) (rows : List Row) → number (refused NotSound) ≡ 1 → applies NotSound rows ≡ false
    → number (o (decode s)) ≡ first_in rows → number (on_sound s o (refused NotSound)) ≡ first_in (not_sound s ∷ rows)
by-soundness s o number rows one free h = at (represents? current s (decode s))
  where
    at : Dec (Represents s (decode s)) → number (on_sound s o (refused NotSound)) ≡ first_in (not_sound s ∷ rows)
    at (yes a) = rw (on-sound a o (refused NotSound), on-sound a (λ m. false) true) h
    at (no n) = rw (on-unsound {s = s} (λ h. n (sound-decodes h)) o (refused NotSound), on-unsound {s = s} (λ h. n (sound-decodes h)) (λ m. false) true) one

-- ---- one call at a time, its tests being any

found_number : (s : List ℕ) (a : Bool) (o : Option Entry) → (found s (refuse a LongKey (entry_or Absent o))).number ≡ first_in (when LongKey a ∷ when Absent (is_none o) ∷ [])
found_number s true o = refl
found_number s false none = refl
found_number s false (some e) = refl

first-number : (s : List ℕ) (o : Option Entry) → (found s (entry_or Absent o)).number ≡ first_in (when Absent (is_none o) ∷ [])
first-number s none = refl
first-number s (some e) = refl

insert-number : (s : List ℕ) (a b c : Bool) (n : Model)
    → (changed s (refuse a LongKey (refuse b LongValue (refuse c Full (done n))))).number ≡ first_in (when LongKey a ∷ when LongValue b ∷ when Full c ∷ [])
insert-number s true b c n = refl
insert-number s false true c n = refl
insert-number s false false true n = refl
insert-number s false false false n = refl

modify-number : (s : List ℕ) (a b c : Bool) (n : Model)
    → (changed s (refuse a LongKey (refuse b LongValue (refuse c Absent (done n))))).number ≡ first_in (when LongKey a ∷ when LongValue b ∷ when Absent c ∷ [])
modify-number s true b c n = refl
modify-number s false true c n = refl
modify-number s false false true n = refl
modify-number s false false false n = refl

delete-number : (s : List ℕ) (a c : Bool) (n : Model) → (changed s (refuse a LongKey (refuse c Absent (done n)))).number ≡ first_in (when LongKey a ∷ when Absent c ∷ [])
delete-number s true c n = refl
delete-number s false true n = refl
delete-number s false false n = refl

-- a witness's number, and the number of what it comes to
abbrev number_in : List ℕ → Outcome HashTree → ℕ
number_in out o = (written out (fitting out o)).number

room-number : (out : List ℕ) (t : HashTree) → number_in out (done t) ≡ first_in (shorter out t ∷ [])
unfolding fitting
room-number out t = at (ltb (length out) (length (write t)))
  where
    at : (b : Bool) → (written out (cond b (refused NoRoom) (done (write t)))).number ≡ first_in (when NoRoom b ∷ [])
    at true = refl
    at false = refl

key-number : (out : List ℕ) (a : Bool) (t : HashTree) → number_in out (refuse a LongKey (done t)) ≡ first_in (when LongKey a ∷ shorter out t ∷ [])
unfolding fitting
key-number out true t = refl
key-number out false t = room-number out t

range-number : (out : List ℕ) (a b : Bool) (t : HashTree)
    → number_in out (refuse a LongKey (refuse b Reversed (done t))) ≡ first_in (when LongKey a ∷ when Reversed b ∷ shorter out t ∷ [])
unfolding fitting
range-number out true b t = refl
range-number out false true t = refl
range-number out false false t = room-number out t

replay-number : (s : List ℕ) (o : Option (List Edit)) → (replayed s (or_bad_log o)).number ≡ first_in (when BadLog (is_none o) ∷ [])
replay-number s none = refl
replay-number s (some es) = refl

-- 1 of either store comes before 6
difference-number : (old new out : List ℕ)
    → (difference_answer old new out).number
    ≡ first_in (not_sound old ∷ not_sound new ∷ when NoRoom (ltb (length out) (length (lines_bytes (difference (map_in (decode old)) (map_in (decode new)))))) ∷ [])
difference-number old new out = at (represents? current old (decode old)) (represents? current new (decode new))
  where
    lines : List ℕ
    lines = lines_bytes (difference (map_in (decode old)) (map_in (decode new)))

    room : (b : Bool) → (written out (cond b (refused NoRoom) (done lines))).number ≡ first_in (when NoRoom b ∷ [])
    room true = refl
    room false = refl

    at : Dec (Represents old (decode old)) → Dec (Represents new (decode new))
        → (difference_answer old new out).number ≡ first_in (not_sound old ∷ not_sound new ∷ when NoRoom (ltb (length out) (length lines)) ∷ [])
    at (no x) z = rw (old-unsound {old = old} new out (λ h. x (sound-decodes h)), on-unsound {s = old} (λ h. x (sound-decodes h)) (λ m. false) true)
    at (yes a) (no y) =
        rw (new-unsound {old = old} {new = new} out (decode old, a) (λ h. y (sound-decodes h)), on-sound a (λ m. false) true, on-unsound {s = new} (λ h. y (sound-decodes h)) (λ m. false) true)
    at (yes a) (yes b) = rw (difference-of a b out, on-sound a (λ m. false) true, on-sound b (λ m. false) true) (room (ltb (length out) (length lines)))

create-number : (s : List ℕ) (b : Bool) (n : Model) → (changed s (refuse b BadCapacity (done n))).number ≡ cond b (number_of BadCapacity) 0
create-number s true n = refl
create-number s false n = refl

rebuild-number : (z : Parsed) → (alone z).number ≡ cond (malformed z) (number_of Malformed) 0
rebuild-number (Got t []) = refl
rebuild-number (Got t (x ∷ rest)) = refl
rebuild-number Bad = refl

hash-number : (message : List ℕ) → (hashed message).number ≡ cond (not (leb (length message) max_message)) (number_of LongMessage) 0
unfolding hashed
hash-number message = at (leb (length message) max_message)
  where
    at : (b : Bool) → (hashed_if b message).number ≡ cond (not b) (number_of LongMessage) 0
    at true = refl
    at false = refl

-- ---- the table

pub table : (s : List ℕ) → Table s
unfolding is_empty_answer count_answer root_hash_answer get_answer first_entry_answer next_entry_answer insert_answer modify_answer delete_answer as_hash_tree_answer keys_answer witness_answer keys_with_prefix_answer key_range_answer value_range_answer replay_answer create_answer witnessed fitting get_in first_entry_in next_in insert_in modify_in delete_in of_key of_range rebuilt
table s =
    let m = decode s in
    record {
      is_empty = by-soundness s (λ m. done (eqb (size m.tree) 0)) (λ o. (told o).number) [] refl refl refl;
      count = by-soundness s (λ m. done (size m.tree)) (λ o. (counted o).number) [] refl refl refl;
      root_hash = by-soundness s (λ m. done (root_hash m.tree)) (λ o. (digested o).number) [] refl refl refl;
      get = λ key.
          by-soundness s (get_in key) (λ o. (found s o).number) (when LongKey (long_key key) ∷ when Absent (absent key m) ∷ []) refl refl
          (found_number s (long_key key) (get key m.tree));
      first_entry = by-soundness s first_entry_in (λ o. (found s o).number) (when Absent (is_none (head_of (entries m.tree))) ∷ []) refl refl (first-number s (head_of (entries m.tree)));
      next_entry = λ key.
          by-soundness s (next_in key) (λ o. (found s o).number) (when LongKey (long_key key) ∷ when Absent (is_none (first_above key (entries m.tree))) ∷ []) refl refl
          (found_number s (long_key key) (first_above key (entries m.tree)));
      insert = λ key value.
          by-soundness s (insert_in key value) (λ o. (changed s o).number)
          (when LongKey (long_key key) ∷ when LongValue (long_value value) ∷ when Full (absent key m && no_free_slot m) ∷ []) refl refl
          (insert-number s (long_key key) (long_value value) (absent key m && no_free_slot m) (inserted key value m));
      modify = λ key value.
          by-soundness s (modify_in key value) (λ o. (changed s o).number)
          (when LongKey (long_key key) ∷ when LongValue (long_value value) ∷ when Absent (absent key m) ∷ []) refl refl
          (modify-number s (long_key key) (long_value value) (absent key m) (modified key value m));
      delete = λ key.
          by-soundness s (delete_in key) (λ o. (changed s o).number) (when LongKey (long_key key) ∷ when Absent (absent key m) ∷ []) refl refl
          (delete-number s (long_key key) (absent key m) (deleted key m));
      as_hash_tree = λ out.
          by-soundness s (λ m. done (as_hash_tree m.tree)) (number_in out) (shorter out (as_hash_tree m.tree) ∷ []) refl refl (room-number out (as_hash_tree m.tree));
      keys = λ out. by-soundness s (λ m. done (keys m.tree)) (number_in out) (shorter out (keys m.tree) ∷ []) refl refl (room-number out (keys m.tree));
      witness = λ key out.
          by-soundness s (of_key witness key) (number_in out) (when LongKey (long_key key) ∷ shorter out (witness key m.tree) ∷ []) refl refl
          (key-number out (long_key key) (witness key m.tree));
      keys_with_prefix = λ prefix out.
          by-soundness s (of_key keys_with_prefix prefix) (number_in out) (when LongKey (long_key prefix) ∷ shorter out (keys_with_prefix prefix m.tree) ∷ []) refl refl
          (key-number out (long_key prefix) (keys_with_prefix prefix m.tree));
      key_range = λ first last out.
          by-soundness s (of_range key_range first last) (number_in out)
          (when LongKey (long_key first || long_key last) ∷ when Reversed (crossed_range first last m.tree) ∷ shorter out (key_range first last m.tree) ∷ []) refl refl
          (range-number out (long_key first || long_key last) (crossed_range first last m.tree) (key_range first last m.tree));
      value_range = λ first last out.
          by-soundness s (of_range value_range first last) (number_in out)
          (when LongKey (long_key first || long_key last) ∷ when Reversed (crossed_range first last m.tree) ∷ shorter out (value_range first last m.tree) ∷ []) refl refl
          (range-number out (long_key first || long_key last) (crossed_range first last m.tree) (value_range first last m.tree));
      replay = λ log.
          by-soundness s (λ m. or_bad_log (read_log log)) (λ o. (replayed s o).number) (when BadLog (is_none (read_log log)) ∷ []) refl refl (replay-number s (read_log log));
      difference = difference-number s;
      create = λ capacity.
          create-number s (eqb capacity 0 || (ltb 1024 capacity || not (eqb (length s) (store_length capacity)))) (fresh capacity);
      rebuild = λ w. rebuild-number (parse max_depth w);
      hash = hash-number;
    }
