-- A refusal leaves all as found.
use mathlib.Core.Path.{◌≡◌, refl}
use mathlib.Core.Bool.{Bool, true, false, cond, not, ◌||◌}
use mathlib.Core.Logic.{◌≢◌}
use mathlib.Core.List.{List, [], ◌∷◌}
use Prim.Native.Nat.{ℕ}
use lib.Dec.{ltb, leb, eqb}
use lib.ListN.{length, replicate}
use Rattle.answers.specs.Numbers.{max_message}
use Rattle.sha256.specs.Hash.{sha256}
use Rattle.sha256.specs.Hashed.{hashed}
use Rattle.slots.specs.Layout.{store_length, zeros}
use Rattle.hash_tree.specs.HashTree.{HashTree}
use Rattle.hash_tree.specs.Written.{max_depth}
use Rattle.hash_tree.specs.Parse.{Parsed, Got, Bad, parse}
use Rattle.hash_tree.specs.Whole.{rebuilt, alone}
use Rattle.llrb.specs.Tree.{Entry, size}
use Rattle.llrb.specs.Digests.{root_hash}
use Rattle.witness_trees.specs.Witness.{as_hash_tree, keys, key_range, value_range, keys_with_prefix, witness}
use Rattle.store.specs.Numbers.{NotSound, BadCapacity, LongMessage, number_of, Outcome, refused, done}
use Rattle.store.specs.Model.{Model, fresh}
use Rattle.store.specs.Decide.{on_sound}
use Rattle.store.specs.Answers.{Digested, told, counted, digested, found, changed, written, fitting}
use Rattle.store.specs.Calls.{refuse, get_in, first_in, next_in, insert_in, modify_in, delete_in, of_key, of_range, witnessed, create_answer, is_empty_answer, count_answer, root_hash_answer, get_answer, first_entry_answer, next_entry_answer, insert_answer, modify_answer, delete_answer, as_hash_tree_answer, keys_answer, witness_answer, keys_with_prefix_answer, key_range_answer, value_range_answer}
use Rattle.answers.specs.Answers.{fitted}
use Rattle.llrb.specs.Difference.{difference}
use Rattle.store.specs.History.{Edit}
use Rattle.store.specs.Log.{read_log}
use Rattle.store.specs.Replay.{replayed, or_bad_log, replay_answer}
use Rattle.store.specs.Difference.{map_in, lines_bytes, difference_answer}
use Rattle.store.specs.Demand.{Kept, Unwritten, Unreplayed, Nothing, Demand1}

told-no : (o : Outcome Bool) → (told o).number ≢ 0 → (told o).yes ≡ false
told-no (refused r) n = refl
told-no (done b) n = absurd (n refl)

counted_none : (o : Outcome ℕ) → (counted o).number ≢ 0 → (counted o).count ≡ 0
counted_none (refused r) n = refl
counted_none (done b) n = absurd (n refl)

digested-none : (o : Outcome (List ℕ)) → (digested o).number ≢ 0 → (digested o).digest ≡ zeros 32
unfolding zeros
digested-none (refused r) n = refl
digested-none (done b) n = absurd (n refl)

nothing : (s : List ℕ) (o : Outcome Entry) → Nothing (found s o)
nothing s (refused r) n = refl
nothing s (done e) n = absurd (n refl)

kept : (s : List ℕ) (o : Outcome Model) → Kept s (changed s o)
kept s (refused r) n = refl
kept s (done m) n = absurd (n refl)

unwritten : (out : List ℕ) (o : Outcome (List ℕ)) → Unwritten out (written out o)
unwritten out (refused r) n = refl
unwritten out (done w) n = absurd (n refl)

unreplayed : (s : List ℕ) (o : Outcome (List Edit)) → Unreplayed s (replayed s o)
unreplayed s (refused r) n = refl
unreplayed s (done es) n = absurd (n refl)

witnessed-kept : (make : Model → Outcome HashTree) (s out : List ℕ) → Unwritten out (witnessed make s out)
unfolding witnessed
witnessed-kept make s out = unwritten out (fitting out (on_sound s make (refused NotSound)))

difference-kept : (old new out : List ℕ) → Unwritten out (difference_answer old new out)
unfolding difference_answer
difference-kept old new out =
    unwritten out (fitted out (on_sound old (λ m. on_sound new (λ n. done (lines_bytes (difference (map_in m) (map_in n)))) (refused NotSound)) (refused NotSound)))

rebuilt-none : (z : Parsed) → (alone z).number ≢ 0 → (alone z).digest ≡ zeros 32
unfolding zeros
rebuilt-none (Got t []) n = absurd (n refl)
rebuilt-none (Got t (x ∷ rest)) n = refl
rebuilt-none Bad n = refl

-- what hash answers, whether the message is short enough being any
abbrev pub hashed_if : Bool → List ℕ → Digested
hashed_if b message = cond b (record { number = 0; digest = sha256 message }) (record { number = number_of LongMessage; digest = replicate 32 0 })

hashed-none : (message : List ℕ) → (hashed message).number ≢ 0 → (hashed message).digest ≡ zeros 32
unfolding hashed zeros
hashed-none message = at (leb (length message) max_message)
  where
    at : (b : Bool) → (hashed_if b message).number ≢ 0 → (hashed_if b message).digest ≡ zeros 32
    at true n = absurd (n refl)
    at false n = refl

pub demand-1 : (s : List ℕ) → Demand1 s
unfolding create_answer is_empty_answer count_answer root_hash_answer get_answer first_entry_answer next_entry_answer insert_answer modify_answer delete_answer as_hash_tree_answer keys_answer witness_answer keys_with_prefix_answer key_range_answer value_range_answer replay_answer rebuilt
demand-1 s =
    record {
      create = λ capacity. kept s (refuse (eqb capacity 0 || (ltb 1024 capacity || not (eqb (length s) (store_length capacity)))) BadCapacity (done (fresh capacity)));
      is_empty = told-no (on_sound s (λ m. done (eqb (size m.tree) 0)) (refused NotSound));
      count = counted_none (on_sound s (λ m. done (size m.tree)) (refused NotSound));
      root_hash = digested-none (on_sound s (λ m. done (root_hash m.tree)) (refused NotSound));
      get = λ key. nothing s (on_sound s (get_in key) (refused NotSound));
      first_entry = nothing s (on_sound s first_in (refused NotSound));
      next_entry = λ key. nothing s (on_sound s (next_in key) (refused NotSound));
      insert = λ key value. kept s (on_sound s (insert_in key value) (refused NotSound));
      modify = λ key value. kept s (on_sound s (modify_in key value) (refused NotSound));
      delete = λ key. kept s (on_sound s (delete_in key) (refused NotSound));
      as_hash_tree = λ out. witnessed-kept (λ m. done (as_hash_tree m.tree)) s out;
      keys = λ out. witnessed-kept (λ m. done (keys m.tree)) s out;
      witness = λ key out. witnessed-kept (of_key witness key) s out;
      keys_with_prefix = λ prefix out. witnessed-kept (of_key keys_with_prefix prefix) s out;
      key_range = λ first last out. witnessed-kept (of_range key_range first last) s out;
      value_range = λ first last out. witnessed-kept (of_range value_range first last) s out;
      replay = λ log. unreplayed s (on_sound s (λ m. or_bad_log (read_log log)) (refused NotSound));
      difference = difference-kept s;
      rebuild = λ w. rebuilt-none (parse max_depth w);
      hash = hashed-none;
    }
