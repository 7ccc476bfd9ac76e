-- The definitions compute the trees that the Rust makes: shape, colour, slot, key and value after random histories.
-- Printed by `oracle cases trees`: the Rust's rb_tree, unchanged, in a store whose freed slots are used again.
use mathlib.Core.Path.{◌≡◌, refl}
use mathlib.Core.Bool.{true, false}
use mathlib.Core.List.{[], ◌∷◌}
use Prim.Native.Nat.{ℕ}
use Rattle.key_order.specs.Order.{Key, cmp}
use Rattle.llrb.specs.Tree.{Value, Entry, nil, node, size, get, insert_go, insert, modify, balance}
use Rattle.llrb.specs.Delete.{ready_left, ready_right, lean_right, ready, delete_min, delete_go, delete}
use Rattle.llrb.specs.History.{Op, inserting, modifying, deleting, run}

abbrev en : ℕ → Key → Value → Entry
en s k v = record { slot = s; key = k; value = v }

abbrev put : ℕ → Key → Value → Op
put s k v = inserting (en s k v)

case0 : run (deleting (0 ∷ 200 ∷ []) ∷ deleting (10 ∷ []) ∷ deleting (0 ∷ 100 ∷ []) ∷ put 3 ([]) (76 ∷ []) ∷ deleting (10 ∷ 100 ∷ []) ∷ modifying (10 ∷ 100 ∷ []) (74 ∷ []) ∷ modifying (10 ∷ []) (73 ∷ []) ∷ modifying (10 ∷ []) (72 ∷ []) ∷ deleting (10 ∷ 100 ∷ []) ∷ put 1 (0 ∷ 200 ∷ []) (70 ∷ []) ∷ put 1 ([]) (69 ∷ []) ∷ put 1 (0 ∷ 200 ∷ []) (68 ∷ []) ∷ put 1 (10 ∷ 100 ∷ []) (67 ∷ []) ∷ put 4 ([]) (66 ∷ []) ∷ put 3 (10 ∷ 100 ∷ []) (65 ∷ []) ∷ put 2 (0 ∷ 200 ∷ []) (64 ∷ []) ∷ put 6 (10 ∷ []) (63 ∷ []) ∷ deleting (0 ∷ 100 ∷ []) ∷ deleting (10 ∷ 100 ∷ []) ∷ deleting (0 ∷ 100 ∷ []) ∷ deleting (0 ∷ 200 ∷ []) ∷ deleting (10 ∷ []) ∷ put 4 (10 ∷ 100 ∷ []) (57 ∷ []) ∷ put 4 (10 ∷ 100 ∷ []) (56 ∷ []) ∷ deleting ([]) ∷ put 5 (10 ∷ 200 ∷ []) (54 ∷ []) ∷ deleting ([]) ∷ put 6 (0 ∷ 200 ∷ []) (52 ∷ []) ∷ deleting (0 ∷ 200 ∷ []) ∷ put 4 (0 ∷ 200 ∷ []) (50 ∷ []) ∷ put 4 (0 ∷ 200 ∷ []) (49 ∷ []) ∷ put 3 (10 ∷ 100 ∷ []) (48 ∷ []) ∷ put 3 ([]) (47 ∷ []) ∷ deleting (10 ∷ 100 ∷ []) ∷ modifying (10 ∷ 100 ∷ []) (45 ∷ []) ∷ deleting (10 ∷ 200 ∷ []) ∷ put 4 (0 ∷ 200 ∷ []) (43 ∷ []) ∷ modifying (0 ∷ 100 ∷ []) (42 ∷ []) ∷ deleting (10 ∷ []) ∷ deleting (10 ∷ 200 ∷ []) ∷ put 7 (10 ∷ 100 ∷ []) (39 ∷ []) ∷ put 7 (0 ∷ 100 ∷ []) (38 ∷ []) ∷ put 7 (0 ∷ 100 ∷ []) (37 ∷ []) ∷ put 7 (0 ∷ 100 ∷ []) (36 ∷ []) ∷ put 7 (10 ∷ 200 ∷ []) (35 ∷ []) ∷ put 7 (0 ∷ 200 ∷ []) (34 ∷ []) ∷ put 7 (10 ∷ []) (33 ∷ []) ∷ put 7 ([]) (32 ∷ []) ∷ put 7 (0 ∷ 200 ∷ []) (31 ∷ []) ∷ put 7 ([]) (30 ∷ []) ∷ put 7 (0 ∷ 100 ∷ []) (29 ∷ []) ∷ put 7 (10 ∷ []) (28 ∷ []) ∷ put 6 (0 ∷ 200 ∷ []) (27 ∷ []) ∷ put 6 (10 ∷ 100 ∷ []) (26 ∷ []) ∷ put 6 (0 ∷ 100 ∷ []) (25 ∷ []) ∷ put 6 (10 ∷ []) (24 ∷ []) ∷ put 6 (10 ∷ []) (23 ∷ []) ∷ modifying ([]) (22 ∷ []) ∷ put 6 (10 ∷ []) (21 ∷ []) ∷ put 6 (10 ∷ 200 ∷ []) (20 ∷ []) ∷ put 6 (10 ∷ []) (19 ∷ []) ∷ put 6 (10 ∷ []) (18 ∷ []) ∷ put 6 (10 ∷ 100 ∷ []) (17 ∷ []) ∷ put 2 (0 ∷ 100 ∷ []) (16 ∷ []) ∷ put 2 (10 ∷ []) (15 ∷ []) ∷ put 2 (10 ∷ 200 ∷ []) (14 ∷ []) ∷ deleting (0 ∷ 200 ∷ []) ∷ put 6 (10 ∷ 200 ∷ []) (12 ∷ []) ∷ put 5 ([]) (11 ∷ []) ∷ put 5 (10 ∷ 100 ∷ []) (10 ∷ []) ∷ put 4 (10 ∷ 100 ∷ []) (9 ∷ []) ∷ put 3 (10 ∷ []) (8 ∷ []) ∷ deleting ([]) ∷ put 3 ([]) (6 ∷ []) ∷ put 3 (0 ∷ 200 ∷ []) (5 ∷ []) ∷ deleting (10 ∷ 100 ∷ []) ∷ put 4 (10 ∷ 100 ∷ []) (3 ∷ []) ∷ put 3 (10 ∷ 200 ∷ []) (2 ∷ []) ∷ put 2 (0 ∷ 200 ∷ []) (1 ∷ []) ∷ put 1 (10 ∷ 100 ∷ []) (0 ∷ []) ∷ []) ≡ (node false (en 2 (10 ∷ 200 ∷ []) (54 ∷ [])) (node true (en 4 ([]) (76 ∷ [])) nil nil) nil)
unfolding run insert delete modify get size ready delete_go delete_min insert_go cmp balance ready_left ready_right lean_right
case0 = refl

case1 : run (modifying (20 ∷ 100 ∷ []) (79 ∷ []) ∷ deleting (30 ∷ []) ∷ deleting (20 ∷ 200 ∷ []) ∷ deleting (20 ∷ 200 ∷ []) ∷ deleting (20 ∷ 100 ∷ []) ∷ put 10 (20 ∷ 200 ∷ []) (74 ∷ []) ∷ deleting (20 ∷ 200 ∷ []) ∷ modifying (20 ∷ 100 ∷ []) (72 ∷ []) ∷ deleting (30 ∷ 100 ∷ []) ∷ put 9 (30 ∷ 200 ∷ []) (70 ∷ []) ∷ put 9 (30 ∷ 100 ∷ []) (69 ∷ []) ∷ put 9 (30 ∷ 100 ∷ []) (68 ∷ []) ∷ modifying ([]) (67 ∷ []) ∷ deleting (0 ∷ 100 ∷ []) ∷ deleting (30 ∷ []) ∷ deleting (20 ∷ 200 ∷ []) ∷ put 3 (10 ∷ 100 ∷ []) (63 ∷ []) ∷ put 3 (30 ∷ 100 ∷ []) (62 ∷ []) ∷ modifying ([]) (61 ∷ []) ∷ modifying (30 ∷ []) (60 ∷ []) ∷ put 3 (20 ∷ 200 ∷ []) (59 ∷ []) ∷ put 3 (30 ∷ []) (58 ∷ []) ∷ modifying (0 ∷ 200 ∷ []) (57 ∷ []) ∷ deleting (30 ∷ 200 ∷ []) ∷ put 12 (30 ∷ 200 ∷ []) (55 ∷ []) ∷ put 12 (30 ∷ 200 ∷ []) (54 ∷ []) ∷ put 12 ([]) (53 ∷ []) ∷ modifying (20 ∷ []) (52 ∷ []) ∷ put 12 (30 ∷ 100 ∷ []) (51 ∷ []) ∷ put 12 (20 ∷ 200 ∷ []) (50 ∷ []) ∷ put 12 ([]) (49 ∷ []) ∷ put 4 (30 ∷ 100 ∷ []) (48 ∷ []) ∷ put 4 (0 ∷ 200 ∷ []) (47 ∷ []) ∷ put 4 (30 ∷ []) (46 ∷ []) ∷ put 4 (0 ∷ 100 ∷ []) (45 ∷ []) ∷ put 4 (10 ∷ []) (44 ∷ []) ∷ deleting (30 ∷ 100 ∷ []) ∷ modifying (10 ∷ 100 ∷ []) (42 ∷ []) ∷ put 12 (20 ∷ []) (41 ∷ []) ∷ put 12 (20 ∷ 200 ∷ []) (40 ∷ []) ∷ put 8 (10 ∷ 200 ∷ []) (39 ∷ []) ∷ put 11 (10 ∷ 100 ∷ []) (38 ∷ []) ∷ put 11 (30 ∷ []) (37 ∷ []) ∷ put 11 (20 ∷ 200 ∷ []) (36 ∷ []) ∷ modifying (20 ∷ 100 ∷ []) (35 ∷ []) ∷ put 11 (10 ∷ []) (34 ∷ []) ∷ deleting (10 ∷ 200 ∷ []) ∷ put 8 (20 ∷ []) (32 ∷ []) ∷ put 8 (0 ∷ 200 ∷ []) (31 ∷ []) ∷ put 8 (20 ∷ []) (30 ∷ []) ∷ put 8 (20 ∷ []) (29 ∷ []) ∷ deleting (20 ∷ 100 ∷ []) ∷ modifying (10 ∷ []) (27 ∷ []) ∷ put 12 (0 ∷ 200 ∷ []) (26 ∷ []) ∷ put 12 (20 ∷ 100 ∷ []) (25 ∷ []) ∷ put 12 (10 ∷ []) (24 ∷ []) ∷ modifying (20 ∷ []) (23 ∷ []) ∷ put 11 (20 ∷ []) (22 ∷ []) ∷ put 11 (0 ∷ 200 ∷ []) (21 ∷ []) ∷ put 11 (10 ∷ 200 ∷ []) (20 ∷ []) ∷ put 11 (10 ∷ 200 ∷ []) (19 ∷ []) ∷ put 11 (0 ∷ 200 ∷ []) (18 ∷ []) ∷ put 10 (30 ∷ []) (17 ∷ []) ∷ put 10 (30 ∷ 100 ∷ []) (16 ∷ []) ∷ put 10 (10 ∷ 200 ∷ []) (15 ∷ []) ∷ modifying (10 ∷ []) (14 ∷ []) ∷ put 9 (0 ∷ 100 ∷ []) (13 ∷ []) ∷ put 8 (20 ∷ 100 ∷ []) (12 ∷ []) ∷ put 8 ([]) (11 ∷ []) ∷ put 8 (30 ∷ 100 ∷ []) (10 ∷ []) ∷ put 7 ([]) (9 ∷ []) ∷ put 7 (20 ∷ 200 ∷ []) (8 ∷ []) ∷ modifying (10 ∷ 100 ∷ []) (7 ∷ []) ∷ put 6 (10 ∷ []) (6 ∷ []) ∷ put 5 (20 ∷ 200 ∷ []) (5 ∷ []) ∷ put 5 (0 ∷ 200 ∷ []) (4 ∷ []) ∷ put 4 (30 ∷ 200 ∷ []) (3 ∷ []) ∷ put 3 (30 ∷ 100 ∷ []) (2 ∷ []) ∷ put 2 (10 ∷ 200 ∷ []) (1 ∷ []) ∷ put 1 (0 ∷ 200 ∷ []) (0 ∷ []) ∷ []) ≡ (node false (en 11 (10 ∷ 100 ∷ []) (63 ∷ [])) (node false (en 1 (0 ∷ 200 ∷ []) (57 ∷ [])) (node false (en 7 ([]) (67 ∷ [])) nil nil) (node false (en 6 (10 ∷ []) (44 ∷ [])) nil nil)) (node false (en 2 (20 ∷ []) (52 ∷ [])) (node false (en 8 (10 ∷ 200 ∷ []) (39 ∷ [])) nil nil) (node false (en 9 (30 ∷ 200 ∷ []) (70 ∷ [])) nil nil)))
unfolding run insert delete modify get size ready delete_go delete_min insert_go cmp balance ready_left ready_right lean_right
case1 = refl

case2 : run (put 14 (70 ∷ 200 ∷ []) (79 ∷ []) ∷ put 13 (20 ∷ 100 ∷ []) (78 ∷ []) ∷ put 4 (20 ∷ []) (77 ∷ []) ∷ put 4 (0 ∷ 200 ∷ []) (76 ∷ []) ∷ deleting (30 ∷ 100 ∷ []) ∷ put 7 (0 ∷ 200 ∷ []) (74 ∷ []) ∷ modifying (50 ∷ []) (73 ∷ []) ∷ put 7 (20 ∷ 200 ∷ []) (72 ∷ []) ∷ put 5 (10 ∷ []) (71 ∷ []) ∷ put 11 (20 ∷ 200 ∷ []) (70 ∷ []) ∷ deleting ([]) ∷ deleting (0 ∷ 100 ∷ []) ∷ deleting ([]) ∷ deleting (40 ∷ []) ∷ put 3 (50 ∷ 100 ∷ []) (65 ∷ []) ∷ deleting (20 ∷ 100 ∷ []) ∷ deleting (30 ∷ []) ∷ deleting (20 ∷ 100 ∷ []) ∷ put 7 (20 ∷ 100 ∷ []) (61 ∷ []) ∷ put 7 ([]) (60 ∷ []) ∷ deleting (70 ∷ []) ∷ deleting (30 ∷ 200 ∷ []) ∷ deleting (20 ∷ []) ∷ put 14 (70 ∷ []) (56 ∷ []) ∷ put 14 (10 ∷ 200 ∷ []) (55 ∷ []) ∷ put 14 (50 ∷ []) (54 ∷ []) ∷ deleting (30 ∷ []) ∷ put 3 (30 ∷ 100 ∷ []) (52 ∷ []) ∷ deleting (50 ∷ 100 ∷ []) ∷ put 11 (0 ∷ 100 ∷ []) (50 ∷ []) ∷ put 6 (20 ∷ []) (49 ∷ []) ∷ put 13 (20 ∷ 100 ∷ []) (48 ∷ []) ∷ deleting (60 ∷ []) ∷ put 8 (50 ∷ []) (46 ∷ []) ∷ deleting (20 ∷ 100 ∷ []) ∷ deleting (70 ∷ 100 ∷ []) ∷ modifying (20 ∷ 200 ∷ []) (43 ∷ []) ∷ deleting (60 ∷ []) ∷ deleting (20 ∷ []) ∷ deleting (40 ∷ []) ∷ modifying (10 ∷ 200 ∷ []) (39 ∷ []) ∷ modifying (50 ∷ []) (38 ∷ []) ∷ put 11 (10 ∷ 100 ∷ []) (37 ∷ []) ∷ put 11 (60 ∷ []) (36 ∷ []) ∷ put 11 (40 ∷ 100 ∷ []) (35 ∷ []) ∷ deleting (70 ∷ 100 ∷ []) ∷ put 14 ([]) (33 ∷ []) ∷ put 14 (60 ∷ 200 ∷ []) (32 ∷ []) ∷ deleting (30 ∷ 200 ∷ []) ∷ put 12 (10 ∷ 200 ∷ []) (30 ∷ []) ∷ put 12 (40 ∷ 100 ∷ []) (29 ∷ []) ∷ put 12 (50 ∷ 200 ∷ []) (28 ∷ []) ∷ put 12 (20 ∷ []) (27 ∷ []) ∷ put 12 (60 ∷ 100 ∷ []) (26 ∷ []) ∷ put 12 (60 ∷ 200 ∷ []) (25 ∷ []) ∷ put 12 (40 ∷ 100 ∷ []) (24 ∷ []) ∷ put 12 (60 ∷ []) (23 ∷ []) ∷ put 12 (70 ∷ []) (22 ∷ []) ∷ deleting (50 ∷ []) ∷ put 14 (40 ∷ []) (20 ∷ []) ∷ put 13 (40 ∷ 100 ∷ []) (19 ∷ []) ∷ put 12 (50 ∷ 100 ∷ []) (18 ∷ []) ∷ put 11 (70 ∷ 100 ∷ []) (17 ∷ []) ∷ put 10 (10 ∷ 100 ∷ []) (16 ∷ []) ∷ put 9 (60 ∷ []) (15 ∷ []) ∷ put 9 (60 ∷ 200 ∷ []) (14 ∷ []) ∷ put 9 (20 ∷ []) (13 ∷ []) ∷ put 9 (50 ∷ 200 ∷ []) (12 ∷ []) ∷ put 8 (60 ∷ 100 ∷ []) (11 ∷ []) ∷ put 1 (60 ∷ 200 ∷ []) (10 ∷ []) ∷ deleting (0 ∷ 100 ∷ []) ∷ put 8 (0 ∷ 100 ∷ []) (8 ∷ []) ∷ put 7 (70 ∷ []) (7 ∷ []) ∷ put 7 ([]) (6 ∷ []) ∷ put 6 (40 ∷ []) (5 ∷ []) ∷ put 5 ([]) (4 ∷ []) ∷ put 4 (0 ∷ 100 ∷ []) (3 ∷ []) ∷ put 3 (50 ∷ 200 ∷ []) (2 ∷ []) ∷ put 2 (50 ∷ []) (1 ∷ []) ∷ put 1 (20 ∷ []) (0 ∷ []) ∷ []) ≡ (node false (en 8 (50 ∷ []) (73 ∷ [])) (node true (en 12 (10 ∷ 200 ∷ []) (55 ∷ [])) (node false (en 5 (10 ∷ []) (71 ∷ [])) (node false (en 7 (0 ∷ 200 ∷ []) (76 ∷ [])) nil nil) (node false (en 10 (10 ∷ 100 ∷ []) (37 ∷ [])) nil nil)) (node false (en 11 (20 ∷ 200 ∷ []) (72 ∷ [])) (node false (en 13 (20 ∷ 100 ∷ []) (78 ∷ [])) (node true (en 4 (20 ∷ []) (77 ∷ [])) nil nil) nil) (node false (en 6 (40 ∷ 100 ∷ []) (35 ∷ [])) nil nil))) (node false (en 1 (60 ∷ 200 ∷ []) (32 ∷ [])) (node true (en 2 (50 ∷ 200 ∷ []) (28 ∷ [])) (node false (en 3 (50 ∷ 100 ∷ []) (65 ∷ [])) nil nil) (node false (en 9 (60 ∷ 100 ∷ []) (26 ∷ [])) nil nil)) (node false (en 14 (70 ∷ 200 ∷ []) (79 ∷ [])) nil nil)))
unfolding run insert delete modify get size ready delete_go delete_min insert_go cmp balance ready_left ready_right lean_right
case2 = refl

case3 : run (put 33 (90 ∷ 200 ∷ []) (79 ∷ []) ∷ put 27 (30 ∷ 100 ∷ []) (78 ∷ []) ∷ deleting (50 ∷ 100 ∷ []) ∷ modifying (80 ∷ 100 ∷ []) (76 ∷ []) ∷ put 26 (70 ∷ []) (75 ∷ []) ∷ deleting (120 ∷ []) ∷ put 33 (100 ∷ []) (73 ∷ []) ∷ put 32 (50 ∷ []) (72 ∷ []) ∷ deleting (50 ∷ []) ∷ modifying (150 ∷ 200 ∷ []) (70 ∷ []) ∷ put 30 (170 ∷ 200 ∷ []) (69 ∷ []) ∷ put 30 (170 ∷ []) (68 ∷ []) ∷ put 16 (70 ∷ 200 ∷ []) (67 ∷ []) ∷ put 10 (130 ∷ 200 ∷ []) (66 ∷ []) ∷ deleting (0 ∷ 200 ∷ []) ∷ put 15 (190 ∷ 100 ∷ []) (64 ∷ []) ∷ put 15 (150 ∷ []) (63 ∷ []) ∷ modifying (160 ∷ 100 ∷ []) (62 ∷ []) ∷ modifying (190 ∷ 100 ∷ []) (61 ∷ []) ∷ deleting (160 ∷ 200 ∷ []) ∷ deleting (30 ∷ 100 ∷ []) ∷ deleting (0 ∷ 100 ∷ []) ∷ deleting (40 ∷ []) ∷ put 15 (160 ∷ 200 ∷ []) (56 ∷ []) ∷ deleting (30 ∷ 100 ∷ []) ∷ put 30 (90 ∷ 100 ∷ []) (54 ∷ []) ∷ deleting (150 ∷ 200 ∷ []) ∷ deleting (150 ∷ 200 ∷ []) ∷ deleting (190 ∷ 100 ∷ []) ∷ put 17 (50 ∷ 100 ∷ []) (50 ∷ []) ∷ deleting (170 ∷ 200 ∷ []) ∷ put 32 (130 ∷ []) (48 ∷ []) ∷ deleting (30 ∷ []) ∷ put 16 (40 ∷ []) (46 ∷ []) ∷ deleting (0 ∷ 100 ∷ []) ∷ put 32 (100 ∷ 100 ∷ []) (44 ∷ []) ∷ modifying (10 ∷ 100 ∷ []) (43 ∷ []) ∷ put 17 (180 ∷ []) (42 ∷ []) ∷ put 17 (170 ∷ 100 ∷ []) (41 ∷ []) ∷ deleting (20 ∷ []) ∷ put 32 (20 ∷ 100 ∷ []) (39 ∷ []) ∷ put 31 (40 ∷ 100 ∷ []) (38 ∷ []) ∷ put 30 (150 ∷ 200 ∷ []) (37 ∷ []) ∷ put 30 (10 ∷ []) (36 ∷ []) ∷ put 29 (80 ∷ 100 ∷ []) (35 ∷ []) ∷ put 28 (170 ∷ []) (34 ∷ []) ∷ modifying (140 ∷ 100 ∷ []) (33 ∷ []) ∷ put 27 (50 ∷ 200 ∷ []) (32 ∷ []) ∷ put 26 (120 ∷ 100 ∷ []) (31 ∷ []) ∷ put 25 (130 ∷ 100 ∷ []) (30 ∷ []) ∷ put 24 (100 ∷ []) (29 ∷ []) ∷ put 23 (150 ∷ []) (28 ∷ []) ∷ put 22 (90 ∷ []) (27 ∷ []) ∷ put 21 (180 ∷ 200 ∷ []) (26 ∷ []) ∷ put 20 (90 ∷ 100 ∷ []) (25 ∷ []) ∷ put 13 (20 ∷ 200 ∷ []) (24 ∷ []) ∷ deleting (190 ∷ []) ∷ put 20 (20 ∷ 100 ∷ []) (22 ∷ []) ∷ put 19 (100 ∷ 100 ∷ []) (21 ∷ []) ∷ put 18 (10 ∷ []) (20 ∷ []) ∷ put 17 (20 ∷ []) (19 ∷ []) ∷ put 16 (0 ∷ 100 ∷ []) (18 ∷ []) ∷ put 15 (30 ∷ 100 ∷ []) (17 ∷ []) ∷ put 14 (180 ∷ 100 ∷ []) (16 ∷ []) ∷ put 13 (190 ∷ 200 ∷ []) (15 ∷ []) ∷ deleting (190 ∷ 100 ∷ []) ∷ put 12 (170 ∷ 100 ∷ []) (13 ∷ []) ∷ put 11 (30 ∷ 200 ∷ []) (12 ∷ []) ∷ put 10 (0 ∷ 200 ∷ []) (11 ∷ []) ∷ put 9 (10 ∷ 100 ∷ []) (10 ∷ []) ∷ put 8 (60 ∷ 200 ∷ []) (9 ∷ []) ∷ put 7 (130 ∷ []) (8 ∷ []) ∷ put 6 (190 ∷ []) (7 ∷ []) ∷ put 5 (20 ∷ 100 ∷ []) (6 ∷ []) ∷ put 5 (120 ∷ []) (5 ∷ []) ∷ deleting (160 ∷ 200 ∷ []) ∷ put 4 (120 ∷ 200 ∷ []) (3 ∷ []) ∷ put 3 (170 ∷ 200 ∷ []) (2 ∷ []) ∷ put 2 (120 ∷ []) (1 ∷ []) ∷ put 1 (140 ∷ []) (0 ∷ []) ∷ []) ≡ (node false (en 2 (120 ∷ 100 ∷ []) (31 ∷ [])) (node true (en 8 (60 ∷ 200 ∷ []) (9 ∷ [])) (node false (en 27 (30 ∷ 100 ∷ []) (78 ∷ [])) (node false (en 5 (20 ∷ 100 ∷ []) (39 ∷ [])) (node false (en 9 (10 ∷ 100 ∷ []) (43 ∷ [])) (node true (en 18 (10 ∷ []) (36 ∷ [])) nil nil) nil) (node false (en 13 (20 ∷ 200 ∷ []) (24 ∷ [])) nil nil)) (node false (en 31 (40 ∷ 100 ∷ []) (38 ∷ [])) (node false (en 11 (30 ∷ 200 ∷ []) (12 ∷ [])) nil nil) (node false (en 17 (50 ∷ 200 ∷ []) (32 ∷ [])) (node true (en 32 (50 ∷ []) (72 ∷ [])) nil nil) nil))) (node false (en 20 (90 ∷ 100 ∷ []) (54 ∷ [])) (node false (en 29 (80 ∷ 100 ∷ []) (76 ∷ [])) (node false (en 16 (70 ∷ 200 ∷ []) (67 ∷ [])) (node true (en 26 (70 ∷ []) (75 ∷ [])) nil nil) nil) (node false (en 22 (90 ∷ []) (27 ∷ [])) nil nil)) (node false (en 24 (100 ∷ []) (73 ∷ [])) (node false (en 33 (90 ∷ 200 ∷ []) (79 ∷ [])) nil nil) (node false (en 19 (100 ∷ 100 ∷ []) (44 ∷ [])) nil nil)))) (node false (en 3 (180 ∷ []) (42 ∷ [])) (node true (en 1 (140 ∷ []) (0 ∷ [])) (node false (en 7 (130 ∷ []) (48 ∷ [])) (node false (en 4 (120 ∷ 200 ∷ []) (3 ∷ [])) nil nil) (node false (en 10 (130 ∷ 200 ∷ []) (66 ∷ [])) (node true (en 25 (130 ∷ 100 ∷ []) (30 ∷ [])) nil nil) nil)) (node false (en 28 (170 ∷ []) (68 ∷ [])) (node false (en 23 (150 ∷ []) (63 ∷ [])) nil nil) (node false (en 30 (170 ∷ 200 ∷ []) (69 ∷ [])) (node true (en 12 (170 ∷ 100 ∷ []) (41 ∷ [])) nil nil) nil))) (node false (en 21 (180 ∷ 200 ∷ []) (26 ∷ [])) (node false (en 14 (180 ∷ 100 ∷ []) (16 ∷ [])) nil nil) (node false (en 6 (190 ∷ 200 ∷ []) (15 ∷ [])) (node true (en 15 (190 ∷ 100 ∷ []) (64 ∷ [])) nil nil) nil))))
unfolding run insert delete modify get size ready delete_go delete_min insert_go cmp balance ready_left ready_right lean_right
case3 = refl

case4 : run (put 1 (0 ∷ 100 ∷ []) (79 ∷ []) ∷ put 1 (0 ∷ 200 ∷ []) (78 ∷ []) ∷ put 1 (0 ∷ 200 ∷ []) (77 ∷ []) ∷ modifying (0 ∷ 100 ∷ []) (76 ∷ []) ∷ deleting (10 ∷ []) ∷ deleting (0 ∷ 100 ∷ []) ∷ put 4 (0 ∷ 200 ∷ []) (73 ∷ []) ∷ modifying (10 ∷ []) (72 ∷ []) ∷ put 1 (0 ∷ 200 ∷ []) (71 ∷ []) ∷ put 1 (0 ∷ 100 ∷ []) (70 ∷ []) ∷ deleting (10 ∷ []) ∷ put 4 (10 ∷ 100 ∷ []) (68 ∷ []) ∷ put 4 (10 ∷ []) (67 ∷ []) ∷ put 4 (10 ∷ []) (66 ∷ []) ∷ put 3 (10 ∷ 100 ∷ []) (65 ∷ []) ∷ deleting (0 ∷ 200 ∷ []) ∷ modifying (10 ∷ 100 ∷ []) (63 ∷ []) ∷ put 3 ([]) (62 ∷ []) ∷ put 3 (0 ∷ 100 ∷ []) (61 ∷ []) ∷ put 3 (10 ∷ []) (60 ∷ []) ∷ deleting (10 ∷ 200 ∷ []) ∷ put 4 ([]) (58 ∷ []) ∷ deleting (10 ∷ 100 ∷ []) ∷ put 6 (0 ∷ 100 ∷ []) (56 ∷ []) ∷ modifying (10 ∷ []) (55 ∷ []) ∷ put 6 (0 ∷ 100 ∷ []) (54 ∷ []) ∷ put 6 (10 ∷ []) (53 ∷ []) ∷ put 2 (0 ∷ 100 ∷ []) (52 ∷ []) ∷ put 2 ([]) (51 ∷ []) ∷ put 2 ([]) (50 ∷ []) ∷ put 2 ([]) (49 ∷ []) ∷ put 4 (10 ∷ 100 ∷ []) (48 ∷ []) ∷ deleting (0 ∷ 200 ∷ []) ∷ put 2 (10 ∷ 200 ∷ []) (46 ∷ []) ∷ modifying ([]) (45 ∷ []) ∷ deleting (10 ∷ 100 ∷ []) ∷ put 4 (10 ∷ []) (43 ∷ []) ∷ modifying (0 ∷ 200 ∷ []) (42 ∷ []) ∷ deleting (10 ∷ []) ∷ deleting (10 ∷ 100 ∷ []) ∷ put 6 (10 ∷ []) (39 ∷ []) ∷ put 6 (10 ∷ 100 ∷ []) (38 ∷ []) ∷ put 6 (10 ∷ 200 ∷ []) (37 ∷ []) ∷ put 6 (10 ∷ 200 ∷ []) (36 ∷ []) ∷ put 6 (10 ∷ []) (35 ∷ []) ∷ put 6 (10 ∷ 100 ∷ []) (34 ∷ []) ∷ put 6 (0 ∷ 200 ∷ []) (33 ∷ []) ∷ put 6 (0 ∷ 200 ∷ []) (32 ∷ []) ∷ put 6 (10 ∷ 100 ∷ []) (31 ∷ []) ∷ deleting (0 ∷ 100 ∷ []) ∷ put 7 (0 ∷ 200 ∷ []) (29 ∷ []) ∷ put 7 (0 ∷ 100 ∷ []) (28 ∷ []) ∷ put 2 (10 ∷ 100 ∷ []) (27 ∷ []) ∷ put 2 (10 ∷ 200 ∷ []) (26 ∷ []) ∷ put 2 (10 ∷ []) (25 ∷ []) ∷ deleting (10 ∷ 100 ∷ []) ∷ put 7 ([]) (23 ∷ []) ∷ put 7 ([]) (22 ∷ []) ∷ modifying (10 ∷ 100 ∷ []) (21 ∷ []) ∷ put 7 (0 ∷ 100 ∷ []) (20 ∷ []) ∷ put 7 (10 ∷ 200 ∷ []) (19 ∷ []) ∷ put 6 (0 ∷ 200 ∷ []) (18 ∷ []) ∷ modifying (0 ∷ 100 ∷ []) (17 ∷ []) ∷ put 6 (10 ∷ 100 ∷ []) (16 ∷ []) ∷ put 6 (10 ∷ 100 ∷ []) (15 ∷ []) ∷ modifying ([]) (14 ∷ []) ∷ put 6 (10 ∷ []) (13 ∷ []) ∷ put 5 ([]) (12 ∷ []) ∷ deleting (0 ∷ 200 ∷ []) ∷ put 2 (10 ∷ 100 ∷ []) (10 ∷ []) ∷ deleting (0 ∷ 200 ∷ []) ∷ put 5 (0 ∷ 100 ∷ []) (8 ∷ []) ∷ put 2 (10 ∷ []) (7 ∷ []) ∷ deleting ([]) ∷ put 5 ([]) (5 ∷ []) ∷ put 4 (10 ∷ 200 ∷ []) (4 ∷ []) ∷ put 3 (0 ∷ 200 ∷ []) (3 ∷ []) ∷ put 2 ([]) (2 ∷ []) ∷ put 2 (0 ∷ 100 ∷ []) (1 ∷ []) ∷ put 1 (0 ∷ 100 ∷ []) (0 ∷ []) ∷ []) ≡ (node false (en 2 (0 ∷ 200 ∷ []) (78 ∷ [])) (node false (en 1 (0 ∷ 100 ∷ []) (79 ∷ [])) (node true (en 5 ([]) (62 ∷ [])) nil nil) nil) (node false (en 3 (10 ∷ 100 ∷ []) (68 ∷ [])) nil nil))
unfolding run insert delete modify get size ready delete_go delete_min insert_go cmp balance ready_left ready_right lean_right
case4 = refl

case5 : run (deleting (30 ∷ []) ∷ deleting (10 ∷ 200 ∷ []) ∷ put 10 (10 ∷ 100 ∷ []) (77 ∷ []) ∷ deleting (0 ∷ 200 ∷ []) ∷ modifying (20 ∷ 200 ∷ []) (75 ∷ []) ∷ put 4 (30 ∷ 200 ∷ []) (74 ∷ []) ∷ put 10 (10 ∷ []) (73 ∷ []) ∷ deleting (30 ∷ 200 ∷ []) ∷ put 4 (20 ∷ 200 ∷ []) (71 ∷ []) ∷ deleting (10 ∷ []) ∷ modifying (20 ∷ 100 ∷ []) (69 ∷ []) ∷ deleting (20 ∷ 100 ∷ []) ∷ deleting (20 ∷ 100 ∷ []) ∷ deleting (20 ∷ []) ∷ deleting ([]) ∷ deleting (30 ∷ 100 ∷ []) ∷ put 5 (30 ∷ 200 ∷ []) (63 ∷ []) ∷ put 5 (10 ∷ 100 ∷ []) (62 ∷ []) ∷ put 9 (0 ∷ 200 ∷ []) (61 ∷ []) ∷ put 8 (20 ∷ []) (60 ∷ []) ∷ deleting ([]) ∷ modifying ([]) (58 ∷ []) ∷ put 6 (10 ∷ 200 ∷ []) (57 ∷ []) ∷ deleting ([]) ∷ deleting (0 ∷ 200 ∷ []) ∷ modifying (0 ∷ 100 ∷ []) (54 ∷ []) ∷ put 8 (20 ∷ 100 ∷ []) (53 ∷ []) ∷ put 1 (20 ∷ 100 ∷ []) (52 ∷ []) ∷ modifying ([]) (51 ∷ []) ∷ put 1 (10 ∷ []) (50 ∷ []) ∷ deleting (0 ∷ 200 ∷ []) ∷ put 4 (10 ∷ 100 ∷ []) (48 ∷ []) ∷ modifying (30 ∷ 100 ∷ []) (47 ∷ []) ∷ deleting (20 ∷ 100 ∷ []) ∷ deleting (20 ∷ []) ∷ deleting (10 ∷ 100 ∷ []) ∷ deleting (10 ∷ 200 ∷ []) ∷ put 12 (20 ∷ []) (42 ∷ []) ∷ put 12 (20 ∷ 200 ∷ []) (41 ∷ []) ∷ put 12 (10 ∷ []) (40 ∷ []) ∷ put 12 ([]) (39 ∷ []) ∷ put 12 (10 ∷ 200 ∷ []) (38 ∷ []) ∷ put 12 (20 ∷ 100 ∷ []) (37 ∷ []) ∷ put 12 (0 ∷ 200 ∷ []) (36 ∷ []) ∷ put 12 ([]) (35 ∷ []) ∷ put 12 (20 ∷ 100 ∷ []) (34 ∷ []) ∷ modifying (30 ∷ []) (33 ∷ []) ∷ put 12 (0 ∷ 200 ∷ []) (32 ∷ []) ∷ put 12 (30 ∷ 100 ∷ []) (31 ∷ []) ∷ modifying (30 ∷ 200 ∷ []) (30 ∷ []) ∷ modifying ([]) (29 ∷ []) ∷ put 12 (10 ∷ 200 ∷ []) (28 ∷ []) ∷ put 11 (10 ∷ []) (27 ∷ []) ∷ put 11 (30 ∷ []) (26 ∷ []) ∷ put 10 (30 ∷ 100 ∷ []) (25 ∷ []) ∷ put 10 (20 ∷ 200 ∷ []) (24 ∷ []) ∷ put 10 (10 ∷ 200 ∷ []) (23 ∷ []) ∷ put 9 (20 ∷ []) (22 ∷ []) ∷ put 9 (10 ∷ 100 ∷ []) (21 ∷ []) ∷ modifying (30 ∷ 100 ∷ []) (20 ∷ []) ∷ put 8 (20 ∷ 100 ∷ []) (19 ∷ []) ∷ modifying (30 ∷ 200 ∷ []) (18 ∷ []) ∷ put 7 (0 ∷ 100 ∷ []) (17 ∷ []) ∷ put 7 ([]) (16 ∷ []) ∷ modifying (10 ∷ 200 ∷ []) (15 ∷ []) ∷ modifying (30 ∷ []) (14 ∷ []) ∷ put 5 (10 ∷ 200 ∷ []) (13 ∷ []) ∷ put 5 (10 ∷ 100 ∷ []) (12 ∷ []) ∷ deleting (10 ∷ []) ∷ put 6 ([]) (10 ∷ []) ∷ put 6 (10 ∷ 100 ∷ []) (9 ∷ []) ∷ modifying (20 ∷ []) (8 ∷ []) ∷ modifying (0 ∷ 200 ∷ []) (7 ∷ []) ∷ deleting (20 ∷ 100 ∷ []) ∷ put 5 (10 ∷ []) (5 ∷ []) ∷ put 4 (20 ∷ 200 ∷ []) (4 ∷ []) ∷ put 4 (10 ∷ 100 ∷ []) (3 ∷ []) ∷ put 3 (30 ∷ []) (2 ∷ []) ∷ put 2 (10 ∷ 100 ∷ []) (1 ∷ []) ∷ put 1 (0 ∷ 200 ∷ []) (0 ∷ []) ∷ []) ≡ (node false (en 6 (20 ∷ 200 ∷ []) (75 ∷ [])) (node true (en 9 (10 ∷ []) (73 ∷ [])) (node false (en 7 (0 ∷ 100 ∷ []) (54 ∷ [])) nil nil) (node false (en 11 (10 ∷ 100 ∷ []) (77 ∷ [])) nil nil)) (node false (en 4 (30 ∷ 200 ∷ []) (74 ∷ [])) nil nil))
unfolding run insert delete modify get size ready delete_go delete_min insert_go cmp balance ready_left ready_right lean_right
case5 = refl

case6 : run (deleting (50 ∷ 200 ∷ []) ∷ put 13 (30 ∷ 200 ∷ []) (78 ∷ []) ∷ put 15 (60 ∷ 100 ∷ []) (77 ∷ []) ∷ put 15 (10 ∷ 200 ∷ []) (76 ∷ []) ∷ put 15 (10 ∷ 200 ∷ []) (75 ∷ []) ∷ put 16 (20 ∷ 100 ∷ []) (74 ∷ []) ∷ put 16 (30 ∷ 100 ∷ []) (73 ∷ []) ∷ deleting (30 ∷ 200 ∷ []) ∷ deleting (0 ∷ 100 ∷ []) ∷ put 2 (0 ∷ 200 ∷ []) (70 ∷ []) ∷ put 4 (40 ∷ []) (69 ∷ []) ∷ deleting (20 ∷ []) ∷ modifying (10 ∷ 200 ∷ []) (67 ∷ []) ∷ put 2 (10 ∷ 100 ∷ []) (66 ∷ []) ∷ put 2 (40 ∷ 200 ∷ []) (65 ∷ []) ∷ put 14 (30 ∷ 100 ∷ []) (64 ∷ []) ∷ put 14 (20 ∷ []) (63 ∷ []) ∷ deleting (10 ∷ []) ∷ deleting (70 ∷ []) ∷ put 14 (10 ∷ []) (60 ∷ []) ∷ put 7 (30 ∷ []) (59 ∷ []) ∷ put 7 (10 ∷ 100 ∷ []) (58 ∷ []) ∷ put 7 (20 ∷ []) (57 ∷ []) ∷ deleting ([]) ∷ deleting (30 ∷ []) ∷ deleting (60 ∷ 200 ∷ []) ∷ deleting (10 ∷ []) ∷ put 13 (0 ∷ 100 ∷ []) (52 ∷ []) ∷ deleting (60 ∷ 100 ∷ []) ∷ put 13 (70 ∷ 200 ∷ []) (50 ∷ []) ∷ deleting (60 ∷ []) ∷ deleting (20 ∷ 100 ∷ []) ∷ put 17 (20 ∷ 100 ∷ []) (47 ∷ []) ∷ put 17 (20 ∷ 200 ∷ []) (46 ∷ []) ∷ put 17 (10 ∷ 200 ∷ []) (45 ∷ []) ∷ put 10 (10 ∷ 200 ∷ []) (44 ∷ []) ∷ deleting (70 ∷ []) ∷ put 10 (70 ∷ []) (42 ∷ []) ∷ put 10 (70 ∷ 200 ∷ []) (41 ∷ []) ∷ deleting (60 ∷ []) ∷ modifying (20 ∷ []) (39 ∷ []) ∷ modifying (60 ∷ []) (38 ∷ []) ∷ put 13 (20 ∷ 200 ∷ []) (37 ∷ []) ∷ modifying (40 ∷ []) (36 ∷ []) ∷ deleting (60 ∷ 100 ∷ []) ∷ put 17 (50 ∷ 200 ∷ []) (34 ∷ []) ∷ put 16 (0 ∷ 100 ∷ []) (33 ∷ []) ∷ put 15 (10 ∷ []) (32 ∷ []) ∷ put 15 (60 ∷ 100 ∷ []) (31 ∷ []) ∷ put 14 (40 ∷ 100 ∷ []) (30 ∷ []) ∷ put 14 (10 ∷ 100 ∷ []) (29 ∷ []) ∷ put 13 (60 ∷ 100 ∷ []) (28 ∷ []) ∷ put 12 (20 ∷ []) (27 ∷ []) ∷ put 12 (40 ∷ 200 ∷ []) (26 ∷ []) ∷ modifying (30 ∷ 200 ∷ []) (25 ∷ []) ∷ put 12 (50 ∷ 200 ∷ []) (24 ∷ []) ∷ put 11 (70 ∷ 200 ∷ []) (23 ∷ []) ∷ put 11 (70 ∷ 100 ∷ []) (22 ∷ []) ∷ put 11 (60 ∷ 200 ∷ []) (21 ∷ []) ∷ deleting (50 ∷ []) ∷ modifying (60 ∷ 100 ∷ []) (19 ∷ []) ∷ put 12 (30 ∷ []) (18 ∷ []) ∷ put 12 (50 ∷ 100 ∷ []) (17 ∷ []) ∷ deleting (70 ∷ 200 ∷ []) ∷ put 12 (70 ∷ 200 ∷ []) (15 ∷ []) ∷ put 11 (50 ∷ []) (14 ∷ []) ∷ put 11 (50 ∷ 200 ∷ []) (13 ∷ []) ∷ put 10 (60 ∷ []) (12 ∷ []) ∷ put 9 (50 ∷ 100 ∷ []) (11 ∷ []) ∷ put 8 (10 ∷ 100 ∷ []) (10 ∷ []) ∷ put 7 ([]) (9 ∷ []) ∷ modifying (40 ∷ 100 ∷ []) (8 ∷ []) ∷ put 6 (70 ∷ 100 ∷ []) (7 ∷ []) ∷ put 5 (50 ∷ 200 ∷ []) (6 ∷ []) ∷ modifying (0 ∷ 100 ∷ []) (5 ∷ []) ∷ modifying (50 ∷ 100 ∷ []) (4 ∷ []) ∷ put 4 (20 ∷ 100 ∷ []) (3 ∷ []) ∷ put 3 (30 ∷ []) (2 ∷ []) ∷ put 2 (60 ∷ 200 ∷ []) (1 ∷ []) ∷ put 1 (40 ∷ 200 ∷ []) (0 ∷ []) ∷ []) ≡ (node false (en 1 (40 ∷ 200 ∷ []) (65 ∷ [])) (node true (en 12 (20 ∷ 200 ∷ []) (46 ∷ [])) (node false (en 8 (10 ∷ 100 ∷ []) (66 ∷ [])) (node false (en 2 (0 ∷ 200 ∷ []) (70 ∷ [])) nil nil) (node false (en 16 (20 ∷ 100 ∷ []) (74 ∷ [])) (node true (en 10 (10 ∷ 200 ∷ []) (76 ∷ [])) nil nil) nil)) (node false (en 4 (40 ∷ []) (69 ∷ [])) (node true (en 14 (30 ∷ 100 ∷ []) (73 ∷ [])) (node false (en 7 (30 ∷ []) (59 ∷ [])) nil nil) (node false (en 13 (30 ∷ 200 ∷ []) (78 ∷ [])) nil nil)) (node false (en 3 (40 ∷ 100 ∷ []) (30 ∷ [])) nil nil))) (node false (en 6 (70 ∷ 100 ∷ []) (22 ∷ [])) (node false (en 5 (60 ∷ 100 ∷ []) (77 ∷ [])) (node true (en 9 (50 ∷ 100 ∷ []) (17 ∷ [])) nil nil) nil) (node false (en 11 (70 ∷ 200 ∷ []) (50 ∷ [])) nil nil)))
unfolding run insert delete modify get size ready delete_go delete_min insert_go cmp balance ready_left ready_right lean_right
case6 = refl

case7 : run (deleting (100 ∷ 200 ∷ []) ∷ deleting (60 ∷ 200 ∷ []) ∷ put 32 (110 ∷ []) (77 ∷ []) ∷ put 29 (60 ∷ []) (76 ∷ []) ∷ deleting (30 ∷ []) ∷ put 32 (160 ∷ 200 ∷ []) (74 ∷ []) ∷ put 31 (10 ∷ []) (73 ∷ []) ∷ put 1 (100 ∷ []) (72 ∷ []) ∷ put 1 ([]) (71 ∷ []) ∷ put 18 (40 ∷ 100 ∷ []) (70 ∷ []) ∷ modifying (30 ∷ 100 ∷ []) (69 ∷ []) ∷ deleting (50 ∷ 200 ∷ []) ∷ put 18 (30 ∷ 200 ∷ []) (67 ∷ []) ∷ put 18 (170 ∷ []) (66 ∷ []) ∷ put 24 (80 ∷ []) (65 ∷ []) ∷ deleting (90 ∷ 100 ∷ []) ∷ deleting (30 ∷ 100 ∷ []) ∷ deleting (60 ∷ []) ∷ put 30 ([]) (61 ∷ []) ∷ put 29 (30 ∷ []) (60 ∷ []) ∷ put 28 (190 ∷ 200 ∷ []) (59 ∷ []) ∷ put 28 (40 ∷ []) (58 ∷ []) ∷ modifying (100 ∷ []) (57 ∷ []) ∷ modifying (190 ∷ []) (56 ∷ []) ∷ put 27 (10 ∷ 100 ∷ []) (55 ∷ []) ∷ put 27 (160 ∷ []) (54 ∷ []) ∷ put 8 (160 ∷ 100 ∷ []) (53 ∷ []) ∷ deleting (60 ∷ 200 ∷ []) ∷ put 26 (130 ∷ []) (51 ∷ []) ∷ put 25 (170 ∷ 200 ∷ []) (50 ∷ []) ∷ put 25 (110 ∷ 100 ∷ []) (49 ∷ []) ∷ put 11 (160 ∷ 200 ∷ []) (48 ∷ []) ∷ put 11 (90 ∷ 100 ∷ []) (47 ∷ []) ∷ deleting (0 ∷ 100 ∷ []) ∷ put 25 (30 ∷ 200 ∷ []) (45 ∷ []) ∷ deleting (100 ∷ 100 ∷ []) ∷ put 21 (110 ∷ []) (43 ∷ []) ∷ deleting (130 ∷ 200 ∷ []) ∷ deleting (160 ∷ 100 ∷ []) ∷ modifying (60 ∷ 100 ∷ []) (40 ∷ []) ∷ put 24 (90 ∷ 100 ∷ []) (39 ∷ []) ∷ put 22 (50 ∷ 100 ∷ []) (38 ∷ []) ∷ deleting (30 ∷ []) ∷ put 24 (110 ∷ 100 ∷ []) (36 ∷ []) ∷ modifying (50 ∷ 100 ∷ []) (35 ∷ []) ∷ put 23 (30 ∷ 100 ∷ []) (34 ∷ []) ∷ put 23 (140 ∷ []) (33 ∷ []) ∷ deleting (50 ∷ []) ∷ put 22 (30 ∷ []) (31 ∷ []) ∷ put 22 (130 ∷ 200 ∷ []) (30 ∷ []) ∷ put 21 (130 ∷ 200 ∷ []) (29 ∷ []) ∷ put 20 (130 ∷ 100 ∷ []) (28 ∷ []) ∷ put 19 (180 ∷ []) (27 ∷ []) ∷ put 18 (30 ∷ 200 ∷ []) (26 ∷ []) ∷ put 18 (70 ∷ 100 ∷ []) (25 ∷ []) ∷ deleting (160 ∷ 200 ∷ []) ∷ put 17 (10 ∷ 200 ∷ []) (23 ∷ []) ∷ put 16 (70 ∷ 100 ∷ []) (22 ∷ []) ∷ put 15 (60 ∷ 200 ∷ []) (21 ∷ []) ∷ put 14 (160 ∷ []) (20 ∷ []) ∷ modifying (180 ∷ 200 ∷ []) (19 ∷ []) ∷ put 13 (40 ∷ 200 ∷ []) (18 ∷ []) ∷ put 13 (40 ∷ []) (17 ∷ []) ∷ put 12 (170 ∷ []) (16 ∷ []) ∷ put 11 (0 ∷ 100 ∷ []) (15 ∷ []) ∷ put 10 (190 ∷ 100 ∷ []) (14 ∷ []) ∷ put 9 (120 ∷ 100 ∷ []) (13 ∷ []) ∷ put 8 (70 ∷ []) (12 ∷ []) ∷ put 7 (180 ∷ 200 ∷ []) (11 ∷ []) ∷ put 6 (60 ∷ []) (10 ∷ []) ∷ deleting (10 ∷ 200 ∷ []) ∷ modifying (70 ∷ 100 ∷ []) (8 ∷ []) ∷ put 5 (40 ∷ []) (7 ∷ []) ∷ put 4 (140 ∷ []) (6 ∷ []) ∷ put 3 (110 ∷ 100 ∷ []) (5 ∷ []) ∷ modifying (150 ∷ 100 ∷ []) (4 ∷ []) ∷ deleting (170 ∷ []) ∷ put 2 (90 ∷ 200 ∷ []) (2 ∷ []) ∷ put 1 (60 ∷ 100 ∷ []) (1 ∷ []) ∷ deleting (190 ∷ []) ∷ []) ≡ (node false (en 2 (90 ∷ 200 ∷ []) (2 ∷ [])) (node false (en 6 (60 ∷ 100 ∷ []) (40 ∷ [])) (node true (en 23 (30 ∷ 200 ∷ []) (67 ∷ [])) (node false (en 31 (10 ∷ []) (73 ∷ [])) (node false (en 30 ([]) (71 ∷ [])) nil nil) (node false (en 17 (10 ∷ 200 ∷ []) (23 ∷ [])) (node true (en 27 (10 ∷ 100 ∷ []) (55 ∷ [])) nil nil) nil)) (node false (en 13 (40 ∷ 200 ∷ []) (18 ∷ [])) (node false (en 18 (40 ∷ 100 ∷ []) (70 ∷ [])) (node true (en 5 (40 ∷ []) (58 ∷ [])) nil nil) nil) (node false (en 29 (60 ∷ []) (76 ∷ [])) (node true (en 22 (50 ∷ 100 ∷ []) (38 ∷ [])) nil nil) nil))) (node false (en 16 (70 ∷ 100 ∷ []) (25 ∷ [])) (node false (en 15 (70 ∷ []) (12 ∷ [])) nil nil) (node false (en 24 (80 ∷ []) (65 ∷ [])) nil nil))) (node false (en 12 (170 ∷ []) (66 ∷ [])) (node true (en 4 (140 ∷ []) (33 ∷ [])) (node false (en 9 (120 ∷ 100 ∷ []) (13 ∷ [])) (node true (en 21 (110 ∷ []) (77 ∷ [])) (node false (en 1 (100 ∷ []) (72 ∷ [])) nil nil) (node false (en 3 (110 ∷ 100 ∷ []) (49 ∷ [])) nil nil)) (node false (en 20 (130 ∷ 100 ∷ []) (28 ∷ [])) (node true (en 26 (130 ∷ []) (51 ∷ [])) nil nil) nil)) (node false (en 8 (160 ∷ 100 ∷ []) (53 ∷ [])) (node false (en 14 (160 ∷ []) (54 ∷ [])) nil nil) (node false (en 11 (160 ∷ 200 ∷ []) (74 ∷ [])) nil nil))) (node false (en 7 (180 ∷ 200 ∷ []) (19 ∷ [])) (node false (en 19 (180 ∷ []) (27 ∷ [])) (node true (en 25 (170 ∷ 200 ∷ []) (50 ∷ [])) nil nil) nil) (node false (en 28 (190 ∷ 200 ∷ []) (59 ∷ [])) (node true (en 10 (190 ∷ 100 ∷ []) (14 ∷ [])) nil nil) nil))))
unfolding run insert delete modify get size ready delete_go delete_min insert_go cmp balance ready_left ready_right lean_right
case7 = refl

case8 : run (put 5 (0 ∷ 200 ∷ []) (79 ∷ []) ∷ deleting (10 ∷ []) ∷ deleting (10 ∷ 100 ∷ []) ∷ put 1 (10 ∷ []) (76 ∷ []) ∷ put 1 (10 ∷ []) (75 ∷ []) ∷ put 5 (10 ∷ 200 ∷ []) (74 ∷ []) ∷ put 5 (10 ∷ 100 ∷ []) (73 ∷ []) ∷ deleting (0 ∷ 200 ∷ []) ∷ put 5 (10 ∷ []) (71 ∷ []) ∷ deleting (10 ∷ []) ∷ put 5 (10 ∷ []) (69 ∷ []) ∷ deleting (10 ∷ []) ∷ deleting (10 ∷ 200 ∷ []) ∷ deleting ([]) ∷ deleting (10 ∷ 200 ∷ []) ∷ put 6 (0 ∷ 200 ∷ []) (64 ∷ []) ∷ put 5 ([]) (63 ∷ []) ∷ modifying (10 ∷ 100 ∷ []) (62 ∷ []) ∷ deleting (0 ∷ 200 ∷ []) ∷ put 6 (0 ∷ 100 ∷ []) (60 ∷ []) ∷ deleting (10 ∷ []) ∷ put 1 (10 ∷ 100 ∷ []) (58 ∷ []) ∷ deleting ([]) ∷ put 4 (0 ∷ 200 ∷ []) (56 ∷ []) ∷ put 4 (0 ∷ 100 ∷ []) (55 ∷ []) ∷ deleting (10 ∷ 200 ∷ []) ∷ put 7 ([]) (53 ∷ []) ∷ put 7 (0 ∷ 100 ∷ []) (52 ∷ []) ∷ put 3 (0 ∷ 100 ∷ []) (51 ∷ []) ∷ put 3 (10 ∷ []) (50 ∷ []) ∷ put 3 (10 ∷ 100 ∷ []) (49 ∷ []) ∷ put 3 (10 ∷ []) (48 ∷ []) ∷ deleting (0 ∷ 100 ∷ []) ∷ put 6 (10 ∷ []) (46 ∷ []) ∷ put 6 ([]) (45 ∷ []) ∷ modifying (0 ∷ 200 ∷ []) (44 ∷ []) ∷ put 6 (10 ∷ 200 ∷ []) (43 ∷ []) ∷ deleting (0 ∷ 100 ∷ []) ∷ deleting (10 ∷ []) ∷ put 7 (10 ∷ []) (40 ∷ []) ∷ put 7 (10 ∷ 200 ∷ []) (39 ∷ []) ∷ put 7 (0 ∷ 100 ∷ []) (38 ∷ []) ∷ put 7 (10 ∷ 200 ∷ []) (37 ∷ []) ∷ put 7 (10 ∷ 100 ∷ []) (36 ∷ []) ∷ put 7 ([]) (35 ∷ []) ∷ put 6 (0 ∷ 200 ∷ []) (34 ∷ []) ∷ put 6 (10 ∷ 100 ∷ []) (33 ∷ []) ∷ put 6 (10 ∷ 100 ∷ []) (32 ∷ []) ∷ put 6 (10 ∷ 100 ∷ []) (31 ∷ []) ∷ put 6 ([]) (30 ∷ []) ∷ put 6 ([]) (29 ∷ []) ∷ put 6 (10 ∷ 100 ∷ []) (28 ∷ []) ∷ put 6 (10 ∷ []) (27 ∷ []) ∷ put 6 (10 ∷ 100 ∷ []) (26 ∷ []) ∷ put 6 (10 ∷ []) (25 ∷ []) ∷ put 6 (0 ∷ 100 ∷ []) (24 ∷ []) ∷ put 6 (10 ∷ 200 ∷ []) (23 ∷ []) ∷ put 6 (10 ∷ []) (22 ∷ []) ∷ deleting (0 ∷ 200 ∷ []) ∷ put 7 (0 ∷ 100 ∷ []) (20 ∷ []) ∷ put 7 (10 ∷ []) (19 ∷ []) ∷ put 7 (10 ∷ []) (18 ∷ []) ∷ modifying (0 ∷ 100 ∷ []) (17 ∷ []) ∷ put 6 (0 ∷ 200 ∷ []) (16 ∷ []) ∷ deleting (0 ∷ 200 ∷ []) ∷ deleting (0 ∷ 200 ∷ []) ∷ put 7 (10 ∷ []) (13 ∷ []) ∷ put 7 (10 ∷ 100 ∷ []) (12 ∷ []) ∷ put 7 (10 ∷ []) (11 ∷ []) ∷ put 7 (0 ∷ 200 ∷ []) (10 ∷ []) ∷ put 7 (10 ∷ 200 ∷ []) (9 ∷ []) ∷ put 7 (10 ∷ 200 ∷ []) (8 ∷ []) ∷ put 6 (0 ∷ 200 ∷ []) (7 ∷ []) ∷ put 5 (10 ∷ 100 ∷ []) (6 ∷ []) ∷ put 5 (10 ∷ 200 ∷ []) (5 ∷ []) ∷ put 5 (0 ∷ 100 ∷ []) (4 ∷ []) ∷ put 4 (10 ∷ 200 ∷ []) (3 ∷ []) ∷ put 3 (10 ∷ []) (2 ∷ []) ∷ put 2 (0 ∷ 100 ∷ []) (1 ∷ []) ∷ put 1 ([]) (0 ∷ []) ∷ []) ≡ (node false (en 5 (0 ∷ 200 ∷ []) (79 ∷ [])) (node false (en 3 (0 ∷ 100 ∷ []) (60 ∷ [])) nil nil) (node false (en 6 (10 ∷ 200 ∷ []) (74 ∷ [])) nil nil))
unfolding run insert delete modify get size ready delete_go delete_min insert_go cmp balance ready_left ready_right lean_right
case8 = refl

case9 : run (put 11 (30 ∷ 200 ∷ []) (79 ∷ []) ∷ deleting (10 ∷ []) ∷ deleting (30 ∷ 100 ∷ []) ∷ put 11 (30 ∷ 200 ∷ []) (76 ∷ []) ∷ deleting (10 ∷ []) ∷ put 3 (30 ∷ 200 ∷ []) (74 ∷ []) ∷ put 3 (20 ∷ []) (73 ∷ []) ∷ deleting (30 ∷ 100 ∷ []) ∷ put 6 (20 ∷ 100 ∷ []) (71 ∷ []) ∷ modifying (0 ∷ 100 ∷ []) (70 ∷ []) ∷ put 6 (10 ∷ 200 ∷ []) (69 ∷ []) ∷ modifying (0 ∷ 100 ∷ []) (68 ∷ []) ∷ put 2 (30 ∷ []) (67 ∷ []) ∷ modifying (10 ∷ 200 ∷ []) (66 ∷ []) ∷ put 2 (30 ∷ 100 ∷ []) (65 ∷ []) ∷ put 2 (20 ∷ 100 ∷ []) (64 ∷ []) ∷ put 7 (20 ∷ 200 ∷ []) (63 ∷ []) ∷ deleting (30 ∷ []) ∷ deleting (30 ∷ 200 ∷ []) ∷ put 2 (30 ∷ 100 ∷ []) (60 ∷ []) ∷ put 2 (30 ∷ []) (59 ∷ []) ∷ deleting (0 ∷ 100 ∷ []) ∷ deleting ([]) ∷ deleting ([]) ∷ put 10 (30 ∷ 100 ∷ []) (55 ∷ []) ∷ deleting (20 ∷ 200 ∷ []) ∷ put 2 (0 ∷ 100 ∷ []) (53 ∷ []) ∷ put 2 (10 ∷ 200 ∷ []) (52 ∷ []) ∷ put 2 (10 ∷ 100 ∷ []) (51 ∷ []) ∷ put 2 (10 ∷ 100 ∷ []) (50 ∷ []) ∷ deleting (20 ∷ 200 ∷ []) ∷ put 10 (10 ∷ []) (48 ∷ []) ∷ put 10 (20 ∷ 100 ∷ []) (47 ∷ []) ∷ deleting (0 ∷ 100 ∷ []) ∷ deleting (0 ∷ 200 ∷ []) ∷ put 6 ([]) (44 ∷ []) ∷ put 5 (20 ∷ 100 ∷ []) (43 ∷ []) ∷ put 5 (10 ∷ []) (42 ∷ []) ∷ deleting (30 ∷ 200 ∷ []) ∷ deleting ([]) ∷ put 12 (30 ∷ 100 ∷ []) (39 ∷ []) ∷ put 12 (10 ∷ 200 ∷ []) (38 ∷ []) ∷ put 11 (0 ∷ 100 ∷ []) (37 ∷ []) ∷ modifying (30 ∷ []) (36 ∷ []) ∷ put 11 (30 ∷ []) (35 ∷ []) ∷ modifying (0 ∷ 100 ∷ []) (34 ∷ []) ∷ put 11 (10 ∷ 100 ∷ []) (33 ∷ []) ∷ put 11 (20 ∷ 200 ∷ []) (32 ∷ []) ∷ put 11 (10 ∷ 200 ∷ []) (31 ∷ []) ∷ put 11 (10 ∷ []) (30 ∷ []) ∷ put 11 (30 ∷ 200 ∷ []) (29 ∷ []) ∷ put 11 (30 ∷ 100 ∷ []) (28 ∷ []) ∷ put 11 (20 ∷ 200 ∷ []) (27 ∷ []) ∷ put 11 (0 ∷ 200 ∷ []) (26 ∷ []) ∷ put 11 (30 ∷ 200 ∷ []) (25 ∷ []) ∷ put 11 (0 ∷ 200 ∷ []) (24 ∷ []) ∷ put 10 (0 ∷ 200 ∷ []) (23 ∷ []) ∷ put 10 (10 ∷ []) (22 ∷ []) ∷ put 10 (20 ∷ 200 ∷ []) (21 ∷ []) ∷ put 9 (10 ∷ []) (20 ∷ []) ∷ put 8 (10 ∷ 200 ∷ []) (19 ∷ []) ∷ put 8 (10 ∷ 100 ∷ []) (18 ∷ []) ∷ put 8 ([]) (17 ∷ []) ∷ put 8 ([]) (16 ∷ []) ∷ put 7 (30 ∷ 100 ∷ []) (15 ∷ []) ∷ put 6 ([]) (14 ∷ []) ∷ deleting (30 ∷ 100 ∷ []) ∷ put 6 (30 ∷ []) (12 ∷ []) ∷ put 6 (20 ∷ []) (11 ∷ []) ∷ put 6 (30 ∷ 200 ∷ []) (10 ∷ []) ∷ put 5 (30 ∷ 200 ∷ []) (9 ∷ []) ∷ put 4 (20 ∷ []) (8 ∷ []) ∷ put 4 (20 ∷ 200 ∷ []) (7 ∷ []) ∷ put 4 (10 ∷ 100 ∷ []) (6 ∷ []) ∷ put 4 (30 ∷ []) (5 ∷ []) ∷ put 4 (20 ∷ 200 ∷ []) (4 ∷ []) ∷ put 3 (20 ∷ 200 ∷ []) (3 ∷ []) ∷ modifying (10 ∷ 100 ∷ []) (2 ∷ []) ∷ put 2 (30 ∷ []) (1 ∷ []) ∷ put 1 (10 ∷ 100 ∷ []) (0 ∷ []) ∷ []) ≡ (node false (en 7 (20 ∷ 200 ∷ []) (63 ∷ [])) (node true (en 4 (20 ∷ []) (73 ∷ [])) (node false (en 8 (10 ∷ 200 ∷ []) (69 ∷ [])) (node true (en 1 (10 ∷ 100 ∷ []) (51 ∷ [])) nil nil) nil) (node false (en 5 (20 ∷ 100 ∷ []) (71 ∷ [])) nil nil)) (node false (en 3 (30 ∷ 200 ∷ []) (79 ∷ [])) (node true (en 2 (30 ∷ []) (67 ∷ [])) nil nil) nil))
unfolding run insert delete modify get size ready delete_go delete_min insert_go cmp balance ready_left ready_right lean_right
case9 = refl

case10 : run (deleting (40 ∷ []) ∷ modifying (20 ∷ 100 ∷ []) (78 ∷ []) ∷ put 15 (50 ∷ []) (77 ∷ []) ∷ put 15 ([]) (76 ∷ []) ∷ deleting (20 ∷ []) ∷ put 10 ([]) (74 ∷ []) ∷ put 10 (60 ∷ 200 ∷ []) (73 ∷ []) ∷ put 16 (20 ∷ 200 ∷ []) (72 ∷ []) ∷ deleting (70 ∷ []) ∷ put 10 (60 ∷ []) (70 ∷ []) ∷ put 10 (30 ∷ 100 ∷ []) (69 ∷ []) ∷ put 13 (20 ∷ 100 ∷ []) (68 ∷ []) ∷ put 2 (40 ∷ 100 ∷ []) (67 ∷ []) ∷ put 9 (10 ∷ 100 ∷ []) (66 ∷ []) ∷ deleting (20 ∷ 100 ∷ []) ∷ modifying (10 ∷ 200 ∷ []) (64 ∷ []) ∷ deleting (20 ∷ []) ∷ put 14 (40 ∷ 200 ∷ []) (62 ∷ []) ∷ modifying (50 ∷ 200 ∷ []) (61 ∷ []) ∷ deleting (50 ∷ 200 ∷ []) ∷ deleting (20 ∷ 200 ∷ []) ∷ deleting (10 ∷ 100 ∷ []) ∷ deleting (40 ∷ 100 ∷ []) ∷ deleting (30 ∷ 200 ∷ []) ∷ put 10 (50 ∷ []) (55 ∷ []) ∷ put 10 (70 ∷ 100 ∷ []) (54 ∷ []) ∷ put 3 (30 ∷ 100 ∷ []) (53 ∷ []) ∷ put 3 (60 ∷ []) (52 ∷ []) ∷ deleting (10 ∷ 200 ∷ []) ∷ put 10 (50 ∷ 200 ∷ []) (50 ∷ []) ∷ put 10 (50 ∷ 200 ∷ []) (49 ∷ []) ∷ put 10 (50 ∷ []) (48 ∷ []) ∷ modifying (20 ∷ 200 ∷ []) (47 ∷ []) ∷ modifying (50 ∷ []) (46 ∷ []) ∷ deleting ([]) ∷ put 10 (70 ∷ 100 ∷ []) (44 ∷ []) ∷ put 10 (50 ∷ []) (43 ∷ []) ∷ deleting (40 ∷ 200 ∷ []) ∷ put 15 (70 ∷ []) (41 ∷ []) ∷ deleting (30 ∷ 200 ∷ []) ∷ put 16 (70 ∷ []) (39 ∷ []) ∷ modifying (30 ∷ 200 ∷ []) (38 ∷ []) ∷ put 16 (20 ∷ []) (37 ∷ []) ∷ put 16 (70 ∷ 100 ∷ []) (36 ∷ []) ∷ put 15 (30 ∷ 200 ∷ []) (35 ∷ []) ∷ put 15 (10 ∷ 100 ∷ []) (34 ∷ []) ∷ put 15 (60 ∷ 100 ∷ []) (33 ∷ []) ∷ put 5 (60 ∷ 100 ∷ []) (32 ∷ []) ∷ put 5 (60 ∷ []) (31 ∷ []) ∷ deleting (20 ∷ 100 ∷ []) ∷ put 15 (50 ∷ 200 ∷ []) (29 ∷ []) ∷ put 15 (70 ∷ 200 ∷ []) (28 ∷ []) ∷ put 15 (70 ∷ 100 ∷ []) (27 ∷ []) ∷ put 14 (60 ∷ []) (26 ∷ []) ∷ put 14 (10 ∷ 200 ∷ []) (25 ∷ []) ∷ put 13 (10 ∷ 100 ∷ []) (24 ∷ []) ∷ put 13 (70 ∷ 100 ∷ []) (23 ∷ []) ∷ put 12 (70 ∷ 100 ∷ []) (22 ∷ []) ∷ put 12 (50 ∷ 200 ∷ []) (21 ∷ []) ∷ deleting ([]) ∷ put 12 (20 ∷ []) (19 ∷ []) ∷ put 11 (50 ∷ 200 ∷ []) (18 ∷ []) ∷ put 11 (70 ∷ 200 ∷ []) (17 ∷ []) ∷ put 10 (50 ∷ []) (16 ∷ []) ∷ put 10 (40 ∷ 200 ∷ []) (15 ∷ []) ∷ put 10 (70 ∷ 200 ∷ []) (14 ∷ []) ∷ put 10 (0 ∷ 200 ∷ []) (13 ∷ []) ∷ put 9 (10 ∷ 200 ∷ []) (12 ∷ []) ∷ put 9 (20 ∷ 200 ∷ []) (11 ∷ []) ∷ put 8 (0 ∷ 200 ∷ []) (10 ∷ []) ∷ put 7 (70 ∷ 200 ∷ []) (9 ∷ []) ∷ put 7 (20 ∷ 200 ∷ []) (8 ∷ []) ∷ put 7 (20 ∷ 100 ∷ []) (7 ∷ []) ∷ put 6 (40 ∷ 200 ∷ []) (6 ∷ []) ∷ put 6 (20 ∷ []) (5 ∷ []) ∷ put 5 (20 ∷ 200 ∷ []) (4 ∷ []) ∷ put 4 (0 ∷ 100 ∷ []) (3 ∷ []) ∷ put 3 (20 ∷ []) (2 ∷ []) ∷ put 2 (20 ∷ 100 ∷ []) (1 ∷ []) ∷ put 1 (60 ∷ 200 ∷ []) (0 ∷ []) ∷ []) ≡ (node false (en 11 (60 ∷ []) (70 ∷ [])) (node true (en 3 (30 ∷ 100 ∷ []) (69 ∷ [])) (node false (en 13 (20 ∷ 100 ∷ []) (78 ∷ [])) (node true (en 8 (0 ∷ 200 ∷ []) (13 ∷ [])) (node false (en 4 (0 ∷ 100 ∷ []) (3 ∷ [])) (node true (en 10 ([]) (76 ∷ [])) nil nil) nil) (node false (en 9 (10 ∷ 100 ∷ []) (66 ∷ [])) nil nil)) (node false (en 16 (20 ∷ 200 ∷ []) (72 ∷ [])) nil nil)) (node false (en 14 (40 ∷ 200 ∷ []) (62 ∷ [])) (node false (en 2 (40 ∷ 100 ∷ []) (67 ∷ [])) nil nil) (node false (en 6 (50 ∷ []) (77 ∷ [])) nil nil))) (node false (en 12 (70 ∷ 100 ∷ []) (54 ∷ [])) (node false (en 1 (60 ∷ 200 ∷ []) (73 ∷ [])) (node true (en 5 (60 ∷ 100 ∷ []) (33 ∷ [])) nil nil) nil) (node false (en 7 (70 ∷ 200 ∷ []) (28 ∷ [])) nil nil)))
unfolding run insert delete modify get size ready delete_go delete_min insert_go cmp balance ready_left ready_right lean_right
case10 = refl

case11 : run (deleting (60 ∷ 200 ∷ []) ∷ modifying (30 ∷ 200 ∷ []) (78 ∷ []) ∷ put 16 (180 ∷ 100 ∷ []) (77 ∷ []) ∷ deleting (60 ∷ 200 ∷ []) ∷ put 32 (150 ∷ []) (75 ∷ []) ∷ put 32 (40 ∷ 100 ∷ []) (74 ∷ []) ∷ deleting (120 ∷ 200 ∷ []) ∷ put 34 (160 ∷ []) (72 ∷ []) ∷ put 33 (150 ∷ 200 ∷ []) (71 ∷ []) ∷ put 32 (130 ∷ 200 ∷ []) (70 ∷ []) ∷ put 4 (190 ∷ 200 ∷ []) (69 ∷ []) ∷ deleting (120 ∷ 100 ∷ []) ∷ deleting (160 ∷ []) ∷ put 4 (170 ∷ 100 ∷ []) (66 ∷ []) ∷ deleting (150 ∷ []) ∷ deleting (130 ∷ 200 ∷ []) ∷ put 31 (170 ∷ 100 ∷ []) (63 ∷ []) ∷ deleting (100 ∷ 100 ∷ []) ∷ deleting (60 ∷ 100 ∷ []) ∷ put 31 (180 ∷ 100 ∷ []) (60 ∷ []) ∷ deleting (130 ∷ []) ∷ put 31 (80 ∷ []) (58 ∷ []) ∷ put 31 (50 ∷ 200 ∷ []) (57 ∷ []) ∷ deleting (150 ∷ 200 ∷ []) ∷ put 31 (70 ∷ 100 ∷ []) (55 ∷ []) ∷ put 30 (140 ∷ []) (54 ∷ []) ∷ put 30 (70 ∷ 100 ∷ []) (53 ∷ []) ∷ put 30 (100 ∷ []) (52 ∷ []) ∷ put 26 (110 ∷ 100 ∷ []) (51 ∷ []) ∷ deleting (30 ∷ 200 ∷ []) ∷ put 30 (180 ∷ 100 ∷ []) (49 ∷ []) ∷ put 30 (50 ∷ 100 ∷ []) (48 ∷ []) ∷ put 29 (10 ∷ []) (47 ∷ []) ∷ deleting (30 ∷ []) ∷ put 28 (100 ∷ []) (45 ∷ []) ∷ put 25 (100 ∷ 200 ∷ []) (44 ∷ []) ∷ deleting (170 ∷ []) ∷ put 27 (180 ∷ 100 ∷ []) (42 ∷ []) ∷ put 27 (70 ∷ 200 ∷ []) (41 ∷ []) ∷ put 26 (40 ∷ []) (40 ∷ []) ∷ put 26 (170 ∷ 200 ∷ []) (39 ∷ []) ∷ put 25 (170 ∷ 200 ∷ []) (38 ∷ []) ∷ put 24 (90 ∷ 100 ∷ []) (37 ∷ []) ∷ put 23 (10 ∷ 200 ∷ []) (36 ∷ []) ∷ put 22 (80 ∷ 200 ∷ []) (35 ∷ []) ∷ modifying (20 ∷ []) (34 ∷ []) ∷ modifying (40 ∷ 100 ∷ []) (33 ∷ []) ∷ put 21 (190 ∷ []) (32 ∷ []) ∷ put 20 (40 ∷ 100 ∷ []) (31 ∷ []) ∷ put 20 (20 ∷ 200 ∷ []) (30 ∷ []) ∷ put 20 (120 ∷ 200 ∷ []) (29 ∷ []) ∷ put 19 (20 ∷ 200 ∷ []) (28 ∷ []) ∷ put 18 (90 ∷ []) (27 ∷ []) ∷ deleting (100 ∷ []) ∷ put 18 (170 ∷ []) (25 ∷ []) ∷ put 17 (40 ∷ 200 ∷ []) (24 ∷ []) ∷ put 16 (70 ∷ 100 ∷ []) (23 ∷ []) ∷ put 16 (50 ∷ 100 ∷ []) (22 ∷ []) ∷ put 15 (80 ∷ []) (21 ∷ []) ∷ put 14 (120 ∷ []) (20 ∷ []) ∷ deleting (80 ∷ 100 ∷ []) ∷ put 7 (50 ∷ 100 ∷ []) (18 ∷ []) ∷ put 7 (160 ∷ 100 ∷ []) (17 ∷ []) ∷ deleting (80 ∷ 100 ∷ []) ∷ put 13 (30 ∷ 200 ∷ []) (15 ∷ []) ∷ put 13 (160 ∷ 100 ∷ []) (14 ∷ []) ∷ put 12 (150 ∷ 100 ∷ []) (13 ∷ []) ∷ put 11 (190 ∷ 100 ∷ []) (12 ∷ []) ∷ deleting (130 ∷ []) ∷ put 10 (70 ∷ 200 ∷ []) (10 ∷ []) ∷ put 9 (160 ∷ 100 ∷ []) (9 ∷ []) ∷ put 8 (50 ∷ 200 ∷ []) (8 ∷ []) ∷ put 7 (120 ∷ 200 ∷ []) (7 ∷ []) ∷ deleting (170 ∷ 200 ∷ []) ∷ put 6 (180 ∷ 200 ∷ []) (5 ∷ []) ∷ put 5 (60 ∷ 200 ∷ []) (4 ∷ []) ∷ put 4 (130 ∷ 200 ∷ []) (3 ∷ []) ∷ put 3 (140 ∷ 200 ∷ []) (2 ∷ []) ∷ put 2 (80 ∷ 100 ∷ []) (1 ∷ []) ∷ put 1 (170 ∷ []) (0 ∷ []) ∷ []) ≡ (node false (en 18 (90 ∷ []) (27 ∷ [])) (node false (en 5 (70 ∷ 100 ∷ []) (55 ∷ [])) (node true (en 20 (40 ∷ 100 ∷ []) (74 ∷ [])) (node false (en 23 (10 ∷ 200 ∷ []) (36 ∷ [])) (node false (en 29 (10 ∷ []) (47 ∷ [])) nil nil) (node false (en 13 (40 ∷ []) (40 ∷ [])) (node true (en 19 (20 ∷ 200 ∷ []) (30 ∷ [])) nil nil) nil)) (node false (en 7 (50 ∷ 100 ∷ []) (48 ∷ [])) (node false (en 17 (40 ∷ 200 ∷ []) (24 ∷ [])) nil nil) (node false (en 8 (50 ∷ 200 ∷ []) (57 ∷ [])) nil nil))) (node false (en 15 (80 ∷ []) (58 ∷ [])) (node false (en 10 (70 ∷ 200 ∷ []) (41 ∷ [])) nil nil) (node false (en 22 (80 ∷ 200 ∷ []) (35 ∷ [])) nil nil))) (node false (en 27 (180 ∷ 100 ∷ []) (77 ∷ [])) (node true (en 3 (140 ∷ 200 ∷ []) (2 ∷ [])) (node false (en 2 (130 ∷ 200 ∷ []) (70 ∷ [])) (node true (en 25 (100 ∷ 200 ∷ []) (44 ∷ [])) (node false (en 28 (100 ∷ []) (52 ∷ [])) (node true (en 24 (90 ∷ 100 ∷ []) (37 ∷ [])) nil nil) nil) (node false (en 14 (120 ∷ []) (20 ∷ [])) (node true (en 26 (110 ∷ 100 ∷ []) (51 ∷ [])) nil nil) nil)) (node false (en 30 (140 ∷ []) (54 ∷ [])) nil nil)) (node false (en 9 (160 ∷ 100 ∷ []) (17 ∷ [])) (node true (en 33 (150 ∷ 200 ∷ []) (71 ∷ [])) (node false (en 12 (150 ∷ 100 ∷ []) (13 ∷ [])) (node true (en 32 (150 ∷ []) (75 ∷ [])) nil nil) nil) (node false (en 34 (160 ∷ []) (72 ∷ [])) nil nil)) (node false (en 1 (170 ∷ 200 ∷ []) (39 ∷ [])) (node true (en 31 (170 ∷ 100 ∷ []) (66 ∷ [])) nil nil) nil))) (node false (en 21 (190 ∷ []) (32 ∷ [])) (node false (en 6 (180 ∷ 200 ∷ []) (5 ∷ [])) nil nil) (node false (en 4 (190 ∷ 200 ∷ []) (69 ∷ [])) (node true (en 11 (190 ∷ 100 ∷ []) (12 ∷ [])) nil nil) nil))))
unfolding run insert delete modify get size ready delete_go delete_min insert_go cmp balance ready_left ready_right lean_right
case11 = refl

case12 : run (deleting (10 ∷ 200 ∷ []) ∷ deleting (0 ∷ 100 ∷ []) ∷ deleting (0 ∷ 200 ∷ []) ∷ deleting (10 ∷ []) ∷ put 3 (10 ∷ 200 ∷ []) (75 ∷ []) ∷ put 3 (10 ∷ []) (74 ∷ []) ∷ put 3 ([]) (73 ∷ []) ∷ modifying ([]) (72 ∷ []) ∷ put 3 (0 ∷ 200 ∷ []) (71 ∷ []) ∷ deleting (10 ∷ 100 ∷ []) ∷ put 3 (10 ∷ 200 ∷ []) (69 ∷ []) ∷ put 3 ([]) (68 ∷ []) ∷ modifying (0 ∷ 200 ∷ []) (67 ∷ []) ∷ deleting (10 ∷ 200 ∷ []) ∷ put 1 (10 ∷ 100 ∷ []) (65 ∷ []) ∷ deleting (10 ∷ 100 ∷ []) ∷ put 1 (0 ∷ 100 ∷ []) (63 ∷ []) ∷ deleting (10 ∷ 200 ∷ []) ∷ put 2 (0 ∷ 100 ∷ []) (61 ∷ []) ∷ deleting (10 ∷ 100 ∷ []) ∷ deleting (0 ∷ 100 ∷ []) ∷ put 3 (0 ∷ 200 ∷ []) (58 ∷ []) ∷ put 3 (10 ∷ 200 ∷ []) (57 ∷ []) ∷ put 3 (10 ∷ 200 ∷ []) (56 ∷ []) ∷ put 5 (10 ∷ []) (55 ∷ []) ∷ put 2 (10 ∷ 200 ∷ []) (54 ∷ []) ∷ deleting (10 ∷ 200 ∷ []) ∷ deleting (10 ∷ []) ∷ deleting (10 ∷ []) ∷ put 3 ([]) (50 ∷ []) ∷ modifying (0 ∷ 200 ∷ []) (49 ∷ []) ∷ modifying (10 ∷ 100 ∷ []) (48 ∷ []) ∷ put 3 (10 ∷ 100 ∷ []) (47 ∷ []) ∷ deleting (0 ∷ 100 ∷ []) ∷ put 6 ([]) (45 ∷ []) ∷ put 4 (0 ∷ 100 ∷ []) (44 ∷ []) ∷ deleting (0 ∷ 100 ∷ []) ∷ deleting ([]) ∷ put 6 (10 ∷ 100 ∷ []) (41 ∷ []) ∷ put 2 (10 ∷ 200 ∷ []) (40 ∷ []) ∷ deleting ([]) ∷ put 6 (0 ∷ 200 ∷ []) (38 ∷ []) ∷ put 6 (10 ∷ []) (37 ∷ []) ∷ put 6 (10 ∷ 100 ∷ []) (36 ∷ []) ∷ put 1 (10 ∷ []) (35 ∷ []) ∷ put 1 (0 ∷ 200 ∷ []) (34 ∷ []) ∷ put 1 (0 ∷ 100 ∷ []) (33 ∷ []) ∷ put 1 (0 ∷ 100 ∷ []) (32 ∷ []) ∷ deleting (10 ∷ 200 ∷ []) ∷ put 6 (0 ∷ 200 ∷ []) (30 ∷ []) ∷ put 6 ([]) (29 ∷ []) ∷ modifying (0 ∷ 100 ∷ []) (28 ∷ []) ∷ put 6 (0 ∷ 200 ∷ []) (27 ∷ []) ∷ put 6 (0 ∷ 100 ∷ []) (26 ∷ []) ∷ put 6 ([]) (25 ∷ []) ∷ put 6 (10 ∷ 100 ∷ []) (24 ∷ []) ∷ put 6 (0 ∷ 200 ∷ []) (23 ∷ []) ∷ put 4 (0 ∷ 100 ∷ []) (22 ∷ []) ∷ modifying (0 ∷ 100 ∷ []) (21 ∷ []) ∷ deleting (10 ∷ []) ∷ put 4 (10 ∷ []) (19 ∷ []) ∷ put 4 (10 ∷ 200 ∷ []) (18 ∷ []) ∷ put 4 ([]) (17 ∷ []) ∷ put 4 (10 ∷ 200 ∷ []) (16 ∷ []) ∷ put 4 (10 ∷ 100 ∷ []) (15 ∷ []) ∷ put 4 (10 ∷ 200 ∷ []) (14 ∷ []) ∷ deleting (10 ∷ []) ∷ put 6 (0 ∷ 200 ∷ []) (12 ∷ []) ∷ put 6 (10 ∷ 100 ∷ []) (11 ∷ []) ∷ modifying (0 ∷ 200 ∷ []) (10 ∷ []) ∷ put 6 ([]) (9 ∷ []) ∷ put 5 (10 ∷ 100 ∷ []) (8 ∷ []) ∷ put 5 (10 ∷ 200 ∷ []) (7 ∷ []) ∷ put 5 ([]) (6 ∷ []) ∷ put 5 ([]) (5 ∷ []) ∷ put 4 (10 ∷ []) (4 ∷ []) ∷ put 3 (0 ∷ 200 ∷ []) (3 ∷ []) ∷ put 2 ([]) (2 ∷ []) ∷ put 2 (10 ∷ 200 ∷ []) (1 ∷ []) ∷ put 1 (10 ∷ 200 ∷ []) (0 ∷ []) ∷ []) ≡ (node false (en 6 ([]) (73 ∷ [])) nil nil)
unfolding run insert delete modify get size ready delete_go delete_min insert_go cmp balance ready_left ready_right lean_right
case12 = refl

case13 : run (deleting (20 ∷ 100 ∷ []) ∷ put 10 (20 ∷ 100 ∷ []) (78 ∷ []) ∷ put 10 (20 ∷ 200 ∷ []) (77 ∷ []) ∷ put 10 (10 ∷ 200 ∷ []) (76 ∷ []) ∷ deleting (0 ∷ 200 ∷ []) ∷ deleting (30 ∷ 200 ∷ []) ∷ put 4 (10 ∷ 200 ∷ []) (73 ∷ []) ∷ put 4 (10 ∷ 100 ∷ []) (72 ∷ []) ∷ deleting ([]) ∷ put 1 (0 ∷ 200 ∷ []) (70 ∷ []) ∷ deleting (30 ∷ 100 ∷ []) ∷ put 2 (0 ∷ 100 ∷ []) (68 ∷ []) ∷ put 2 (30 ∷ []) (67 ∷ []) ∷ put 2 (20 ∷ []) (66 ∷ []) ∷ deleting (20 ∷ 100 ∷ []) ∷ put 2 (0 ∷ 200 ∷ []) (64 ∷ []) ∷ deleting (20 ∷ 100 ∷ []) ∷ deleting (0 ∷ 100 ∷ []) ∷ put 7 (10 ∷ 100 ∷ []) (61 ∷ []) ∷ put 7 (30 ∷ []) (60 ∷ []) ∷ put 7 (20 ∷ 100 ∷ []) (59 ∷ []) ∷ put 7 ([]) (58 ∷ []) ∷ deleting (10 ∷ 200 ∷ []) ∷ put 1 (10 ∷ 200 ∷ []) (56 ∷ []) ∷ modifying (20 ∷ []) (55 ∷ []) ∷ put 7 (20 ∷ []) (54 ∷ []) ∷ deleting (10 ∷ 100 ∷ []) ∷ put 1 (0 ∷ 200 ∷ []) (52 ∷ []) ∷ put 1 (10 ∷ []) (51 ∷ []) ∷ modifying (20 ∷ 100 ∷ []) (50 ∷ []) ∷ put 1 (20 ∷ 100 ∷ []) (49 ∷ []) ∷ put 10 (10 ∷ []) (48 ∷ []) ∷ deleting (0 ∷ 100 ∷ []) ∷ deleting (20 ∷ []) ∷ modifying (30 ∷ 200 ∷ []) (45 ∷ []) ∷ put 1 (30 ∷ []) (44 ∷ []) ∷ deleting (30 ∷ 100 ∷ []) ∷ deleting (20 ∷ []) ∷ put 8 (10 ∷ 100 ∷ []) (41 ∷ []) ∷ deleting (20 ∷ []) ∷ put 8 (20 ∷ 200 ∷ []) (39 ∷ []) ∷ put 8 (0 ∷ 100 ∷ []) (38 ∷ []) ∷ put 4 ([]) (37 ∷ []) ∷ modifying (10 ∷ []) (36 ∷ []) ∷ deleting (30 ∷ 200 ∷ []) ∷ put 8 (0 ∷ 100 ∷ []) (34 ∷ []) ∷ deleting (10 ∷ []) ∷ put 11 (20 ∷ 100 ∷ []) (32 ∷ []) ∷ put 11 (0 ∷ 200 ∷ []) (31 ∷ []) ∷ deleting (20 ∷ []) ∷ put 11 (0 ∷ 100 ∷ []) (29 ∷ []) ∷ put 11 (0 ∷ 200 ∷ []) (28 ∷ []) ∷ put 11 (10 ∷ []) (27 ∷ []) ∷ put 11 (30 ∷ 200 ∷ []) (26 ∷ []) ∷ put 11 (10 ∷ 100 ∷ []) (25 ∷ []) ∷ modifying (20 ∷ 200 ∷ []) (24 ∷ []) ∷ put 11 (30 ∷ 200 ∷ []) (23 ∷ []) ∷ put 10 (0 ∷ 100 ∷ []) (22 ∷ []) ∷ put 9 (20 ∷ 200 ∷ []) (21 ∷ []) ∷ put 9 (10 ∷ 200 ∷ []) (20 ∷ []) ∷ put 8 (10 ∷ 100 ∷ []) (19 ∷ []) ∷ put 7 (10 ∷ []) (18 ∷ []) ∷ put 7 (30 ∷ []) (17 ∷ []) ∷ put 6 (0 ∷ 200 ∷ []) (16 ∷ []) ∷ deleting (0 ∷ 200 ∷ []) ∷ modifying (10 ∷ []) (14 ∷ []) ∷ put 6 (20 ∷ 100 ∷ []) (13 ∷ []) ∷ put 6 (20 ∷ 100 ∷ []) (12 ∷ []) ∷ put 6 (30 ∷ 100 ∷ []) (11 ∷ []) ∷ put 6 (30 ∷ []) (10 ∷ []) ∷ put 4 (30 ∷ 200 ∷ []) (9 ∷ []) ∷ deleting (10 ∷ []) ∷ put 5 (10 ∷ 200 ∷ []) (7 ∷ []) ∷ put 4 (10 ∷ []) (6 ∷ []) ∷ put 4 (20 ∷ 100 ∷ []) (5 ∷ []) ∷ put 1 (30 ∷ 100 ∷ []) (4 ∷ []) ∷ deleting (20 ∷ 200 ∷ []) ∷ put 3 (20 ∷ 200 ∷ []) (2 ∷ []) ∷ put 2 (20 ∷ 100 ∷ []) (1 ∷ []) ∷ put 1 (30 ∷ []) (0 ∷ []) ∷ []) ≡ (node false (en 5 (20 ∷ []) (66 ∷ [])) (node true (en 7 (10 ∷ 100 ∷ []) (72 ∷ [])) (node false (en 6 (10 ∷ []) (51 ∷ [])) (node true (en 2 (0 ∷ 100 ∷ []) (68 ∷ [])) nil nil) nil) (node false (en 4 (10 ∷ 200 ∷ []) (76 ∷ [])) nil nil)) (node false (en 3 (30 ∷ []) (67 ∷ [])) (node true (en 9 (20 ∷ 200 ∷ []) (77 ∷ [])) nil nil) nil))
unfolding run insert delete modify get size ready delete_go delete_min insert_go cmp balance ready_left ready_right lean_right
case13 = refl

case14 : run (put 14 (20 ∷ 200 ∷ []) (79 ∷ []) ∷ put 14 (60 ∷ 200 ∷ []) (78 ∷ []) ∷ deleting (50 ∷ 100 ∷ []) ∷ deleting (50 ∷ 200 ∷ []) ∷ put 1 (20 ∷ []) (75 ∷ []) ∷ deleting (50 ∷ []) ∷ put 1 (40 ∷ 100 ∷ []) (73 ∷ []) ∷ put 1 (10 ∷ 100 ∷ []) (72 ∷ []) ∷ deleting (50 ∷ 100 ∷ []) ∷ put 5 (70 ∷ []) (70 ∷ []) ∷ deleting (40 ∷ 200 ∷ []) ∷ put 8 (60 ∷ 100 ∷ []) (68 ∷ []) ∷ put 8 (30 ∷ []) (67 ∷ []) ∷ deleting (40 ∷ []) ∷ modifying (60 ∷ []) (65 ∷ []) ∷ put 5 ([]) (64 ∷ []) ∷ deleting (20 ∷ []) ∷ deleting (0 ∷ 200 ∷ []) ∷ put 15 (20 ∷ 100 ∷ []) (61 ∷ []) ∷ modifying ([]) (60 ∷ []) ∷ put 15 (60 ∷ 200 ∷ []) (59 ∷ []) ∷ modifying (50 ∷ []) (58 ∷ []) ∷ put 15 (30 ∷ 200 ∷ []) (57 ∷ []) ∷ put 15 (10 ∷ []) (56 ∷ []) ∷ put 15 (10 ∷ []) (55 ∷ []) ∷ deleting (50 ∷ []) ∷ put 13 (10 ∷ 100 ∷ []) (53 ∷ []) ∷ put 13 (0 ∷ 100 ∷ []) (52 ∷ []) ∷ modifying (30 ∷ []) (51 ∷ []) ∷ deleting (60 ∷ []) ∷ put 19 (10 ∷ 100 ∷ []) (49 ∷ []) ∷ put 19 (60 ∷ 200 ∷ []) (48 ∷ []) ∷ put 19 (30 ∷ []) (47 ∷ []) ∷ modifying (0 ∷ 200 ∷ []) (46 ∷ []) ∷ put 18 (10 ∷ []) (45 ∷ []) ∷ put 18 (50 ∷ 200 ∷ []) (44 ∷ []) ∷ modifying (20 ∷ 100 ∷ []) (43 ∷ []) ∷ put 18 (30 ∷ 100 ∷ []) (42 ∷ []) ∷ modifying (70 ∷ 100 ∷ []) (41 ∷ []) ∷ put 17 (30 ∷ 200 ∷ []) (40 ∷ []) ∷ put 17 (0 ∷ 100 ∷ []) (39 ∷ []) ∷ put 17 (40 ∷ []) (38 ∷ []) ∷ put 17 (0 ∷ 100 ∷ []) (37 ∷ []) ∷ put 17 (70 ∷ 100 ∷ []) (36 ∷ []) ∷ put 11 (20 ∷ 100 ∷ []) (35 ∷ []) ∷ put 11 (0 ∷ 100 ∷ []) (34 ∷ []) ∷ put 11 (30 ∷ []) (33 ∷ []) ∷ put 4 (0 ∷ 100 ∷ []) (32 ∷ []) ∷ put 4 (40 ∷ 100 ∷ []) (31 ∷ []) ∷ deleting (30 ∷ 200 ∷ []) ∷ deleting (20 ∷ 100 ∷ []) ∷ put 17 (60 ∷ []) (28 ∷ []) ∷ put 16 (30 ∷ 100 ∷ []) (27 ∷ []) ∷ put 16 (50 ∷ []) (26 ∷ []) ∷ put 16 (70 ∷ 200 ∷ []) (25 ∷ []) ∷ put 16 (40 ∷ []) (24 ∷ []) ∷ put 16 (40 ∷ 100 ∷ []) (23 ∷ []) ∷ modifying (70 ∷ 200 ∷ []) (22 ∷ []) ∷ put 15 (50 ∷ 100 ∷ []) (21 ∷ []) ∷ deleting (10 ∷ 200 ∷ []) ∷ modifying (50 ∷ 100 ∷ []) (19 ∷ []) ∷ put 15 (60 ∷ 200 ∷ []) (18 ∷ []) ∷ put 14 (50 ∷ 200 ∷ []) (17 ∷ []) ∷ put 14 (70 ∷ 100 ∷ []) (16 ∷ []) ∷ put 13 (60 ∷ 200 ∷ []) (15 ∷ []) ∷ put 13 (50 ∷ []) (14 ∷ []) ∷ put 12 (60 ∷ []) (13 ∷ []) ∷ put 11 (20 ∷ 100 ∷ []) (12 ∷ []) ∷ put 10 (10 ∷ 100 ∷ []) (11 ∷ []) ∷ put 9 (70 ∷ 200 ∷ []) (10 ∷ []) ∷ put 9 (20 ∷ []) (9 ∷ []) ∷ put 8 (40 ∷ 100 ∷ []) (8 ∷ []) ∷ put 7 (70 ∷ 100 ∷ []) (7 ∷ []) ∷ put 6 ([]) (6 ∷ []) ∷ put 5 (20 ∷ []) (5 ∷ []) ∷ put 4 (30 ∷ 200 ∷ []) (4 ∷ []) ∷ put 3 (30 ∷ []) (3 ∷ []) ∷ put 2 (40 ∷ []) (2 ∷ []) ∷ put 1 (50 ∷ []) (1 ∷ []) ∷ modifying (40 ∷ 100 ∷ []) (0 ∷ []) ∷ []) ≡ (node false (en 2 (40 ∷ 100 ∷ []) (73 ∷ [])) (node true (en 10 (10 ∷ 100 ∷ []) (72 ∷ [])) (node false (en 4 (0 ∷ 100 ∷ []) (52 ∷ [])) (node false (en 6 ([]) (64 ∷ [])) nil nil) (node false (en 18 (10 ∷ []) (56 ∷ [])) nil nil)) (node false (en 3 (30 ∷ []) (67 ∷ [])) (node true (en 11 (20 ∷ 100 ∷ []) (61 ∷ [])) (node false (en 1 (20 ∷ []) (75 ∷ [])) nil nil) (node false (en 14 (20 ∷ 200 ∷ []) (79 ∷ [])) nil nil)) (node false (en 17 (30 ∷ 200 ∷ []) (57 ∷ [])) (node true (en 16 (30 ∷ 100 ∷ []) (42 ∷ [])) nil nil) nil))) (node false (en 7 (70 ∷ 100 ∷ []) (41 ∷ [])) (node true (en 12 (60 ∷ 200 ∷ []) (78 ∷ [])) (node false (en 8 (60 ∷ 100 ∷ []) (68 ∷ [])) nil nil) (node false (en 5 (70 ∷ []) (70 ∷ [])) nil nil)) (node false (en 9 (70 ∷ 200 ∷ []) (25 ∷ [])) nil nil)))
unfolding run insert delete modify get size ready delete_go delete_min insert_go cmp balance ready_left ready_right lean_right
case14 = refl

case15 : run (deleting (120 ∷ 200 ∷ []) ∷ put 24 (190 ∷ 100 ∷ []) (78 ∷ []) ∷ put 12 (160 ∷ 100 ∷ []) (77 ∷ []) ∷ put 12 (90 ∷ []) (76 ∷ []) ∷ deleting (120 ∷ 200 ∷ []) ∷ modifying (190 ∷ 200 ∷ []) (74 ∷ []) ∷ put 18 (70 ∷ 200 ∷ []) (73 ∷ []) ∷ deleting (120 ∷ 200 ∷ []) ∷ modifying (180 ∷ []) (71 ∷ []) ∷ deleting (190 ∷ 200 ∷ []) ∷ deleting (110 ∷ []) ∷ put 11 (190 ∷ 200 ∷ []) (68 ∷ []) ∷ deleting (80 ∷ []) ∷ deleting (50 ∷ 200 ∷ []) ∷ put 25 (180 ∷ 200 ∷ []) (65 ∷ []) ∷ deleting (90 ∷ 200 ∷ []) ∷ put 24 (110 ∷ []) (63 ∷ []) ∷ put 23 (110 ∷ 200 ∷ []) (62 ∷ []) ∷ put 18 (140 ∷ 200 ∷ []) (61 ∷ []) ∷ deleting (30 ∷ []) ∷ deleting (70 ∷ 100 ∷ []) ∷ deleting (160 ∷ []) ∷ put 22 (180 ∷ 200 ∷ []) (57 ∷ []) ∷ put 2 (120 ∷ 200 ∷ []) (56 ∷ []) ∷ deleting (170 ∷ 100 ∷ []) ∷ put 14 (150 ∷ 200 ∷ []) (54 ∷ []) ∷ deleting (60 ∷ 200 ∷ []) ∷ deleting (160 ∷ []) ∷ put 22 (10 ∷ 100 ∷ []) (51 ∷ []) ∷ deleting (30 ∷ 200 ∷ []) ∷ put 21 (90 ∷ []) (49 ∷ []) ∷ deleting (120 ∷ []) ∷ deleting (180 ∷ 100 ∷ []) ∷ deleting (130 ∷ 200 ∷ []) ∷ put 18 (30 ∷ 100 ∷ []) (45 ∷ []) ∷ put 18 (10 ∷ 100 ∷ []) (44 ∷ []) ∷ modifying (70 ∷ 100 ∷ []) (43 ∷ []) ∷ deleting (50 ∷ 100 ∷ []) ∷ modifying (60 ∷ 100 ∷ []) (41 ∷ []) ∷ put 20 (100 ∷ []) (40 ∷ []) ∷ put 15 (170 ∷ 200 ∷ []) (39 ∷ []) ∷ deleting (120 ∷ 200 ∷ []) ∷ put 19 (40 ∷ 100 ∷ []) (37 ∷ []) ∷ put 18 (50 ∷ 100 ∷ []) (36 ∷ []) ∷ put 18 (20 ∷ 200 ∷ []) (35 ∷ []) ∷ put 17 (30 ∷ []) (34 ∷ []) ∷ put 16 (20 ∷ 100 ∷ []) (33 ∷ []) ∷ put 16 (160 ∷ []) (32 ∷ []) ∷ put 12 (190 ∷ 200 ∷ []) (31 ∷ []) ∷ modifying (150 ∷ 100 ∷ []) (30 ∷ []) ∷ deleting (0 ∷ 200 ∷ []) ∷ put 15 (120 ∷ 200 ∷ []) (28 ∷ []) ∷ modifying (80 ∷ []) (27 ∷ []) ∷ put 14 (60 ∷ 200 ∷ []) (26 ∷ []) ∷ put 13 (100 ∷ 100 ∷ []) (25 ∷ []) ∷ put 12 (0 ∷ 200 ∷ []) (24 ∷ []) ∷ put 6 (190 ∷ 100 ∷ []) (23 ∷ []) ∷ put 6 (80 ∷ 100 ∷ []) (22 ∷ []) ∷ put 6 (90 ∷ 100 ∷ []) (21 ∷ []) ∷ deleting (110 ∷ 200 ∷ []) ∷ put 12 (110 ∷ 200 ∷ []) (19 ∷ []) ∷ deleting (170 ∷ 100 ∷ []) ∷ put 11 (80 ∷ []) (17 ∷ []) ∷ put 10 (20 ∷ 200 ∷ []) (16 ∷ []) ∷ modifying (80 ∷ 200 ∷ []) (15 ∷ []) ∷ put 9 (60 ∷ 100 ∷ []) (14 ∷ []) ∷ put 8 (70 ∷ []) (13 ∷ []) ∷ deleting (80 ∷ []) ∷ modifying (120 ∷ 200 ∷ []) (11 ∷ []) ∷ put 7 (110 ∷ 100 ∷ []) (10 ∷ []) ∷ modifying (160 ∷ 100 ∷ []) (9 ∷ []) ∷ put 6 (110 ∷ 200 ∷ []) (8 ∷ []) ∷ put 5 (190 ∷ []) (7 ∷ []) ∷ put 5 (10 ∷ 100 ∷ []) (6 ∷ []) ∷ modifying (60 ∷ []) (5 ∷ []) ∷ deleting (30 ∷ 200 ∷ []) ∷ put 4 (90 ∷ 100 ∷ []) (3 ∷ []) ∷ put 3 (10 ∷ 100 ∷ []) (2 ∷ []) ∷ put 2 (160 ∷ []) (1 ∷ []) ∷ put 1 (80 ∷ 100 ∷ []) (0 ∷ []) ∷ []) ≡ (node false (en 1 (80 ∷ 100 ∷ []) (22 ∷ [])) (node false (en 17 (30 ∷ 100 ∷ []) (45 ∷ [])) (node false (en 16 (20 ∷ 100 ∷ []) (33 ∷ [])) (node false (en 3 (10 ∷ 100 ∷ []) (51 ∷ [])) nil nil) (node false (en 10 (20 ∷ 200 ∷ []) (35 ∷ [])) nil nil)) (node false (en 9 (60 ∷ 100 ∷ []) (41 ∷ [])) (node false (en 19 (40 ∷ 100 ∷ []) (37 ∷ [])) nil nil) (node false (en 18 (70 ∷ 200 ∷ []) (73 ∷ [])) (node true (en 8 (70 ∷ []) (13 ∷ [])) nil nil) nil))) (node false (en 14 (150 ∷ 200 ∷ []) (54 ∷ [])) (node false (en 7 (110 ∷ 100 ∷ []) (10 ∷ [])) (node true (en 20 (100 ∷ []) (40 ∷ [])) (node false (en 4 (90 ∷ 100 ∷ []) (21 ∷ [])) (node true (en 21 (90 ∷ []) (76 ∷ [])) nil nil) nil) (node false (en 13 (100 ∷ 100 ∷ []) (25 ∷ [])) nil nil)) (node false (en 2 (140 ∷ 200 ∷ []) (61 ∷ [])) (node true (en 23 (110 ∷ 200 ∷ []) (62 ∷ [])) nil nil) nil)) (node false (en 5 (190 ∷ []) (7 ∷ [])) (node true (en 15 (170 ∷ 200 ∷ []) (39 ∷ [])) (node false (en 12 (160 ∷ 100 ∷ []) (77 ∷ [])) nil nil) (node false (en 22 (180 ∷ 200 ∷ []) (65 ∷ [])) nil nil)) (node false (en 6 (190 ∷ 100 ∷ []) (78 ∷ [])) nil nil))))
unfolding run insert delete modify get size ready delete_go delete_min insert_go cmp balance ready_left ready_right lean_right
case15 = refl
