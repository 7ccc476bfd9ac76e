-- What the steps of the judgement tell, between the bytes and `Sound`: one node by itself, a subtree walked in order, the free chain.
use Rattle.std.specs.Prelude.{◌≡◌, Bool, true, false, cond, List, [], ◌∷◌, ℕ, zero, suc, ◌+◌, ◌≤◌, eqb, length, Some, None, Option}
use Rattle.slots.specs.declared.Header.{Header}
use Rattle.slots.specs.Layout.{count_in, store_length, header, slot, count_of, digest_of, key_of, IsEntry, IsFree}
use Rattle.llrb.specs.Tree.{Tree, nil, node, is_red, entries, size}
use Rattle.llrb.specs.Shape.{RedsApart, LeansLeft, Blacks, SameBlacks, height}
use Rattle.entries.specs.Digests.{compute_subtree_hash, linked_count}
use Rattle.store.specs.Model.{root, head}
use Rattle.store.specs.Sound.{Nodes, Marks, Chain}
use Rattle.judge.specs.declared.Trail.{Trail}
use Rattle.judge.specs.Rising.{Bound, none, over, Rising, last_of}

-- a store of n bytes has this capacity
pub record Sized (n cap : ℕ) : Type 0 where
  pub most : cap ≤ 1024
  pub len : n ≡ store_length cap

-- ---- one node

-- a node by itself; `black` where its parent wants it black
pub record NodeOk (s : List ℕ) (cap h : ℕ) (black : Bool) : Type 0 where
  pub entry : IsEntry s h
  pub colour : black ≡ true → (slot s h).red ≡ false
  pub left : (slot s h).left ≤ cap
  pub right : (slot s h).right ≤ cap
  pub count : count_of s h ≡ count_in (header s).edition (linked_count s h)
  pub digest : digest_of s h ≡ compute_subtree_hash s h

-- ---- a subtree

-- the slots are slots of the store
abbrev pub Within : ℕ → Tree → Type 0
Within cap nil = Unit {0}
Within cap (node c e l r) = ((1 ≤ e.slot) × (e.slot ≤ cap)) × Within cap l × Within cap r

-- what holds of a subtree by itself, its marks being those of the edition that the header names
pub record Good (s : List ℕ) (cap : ℕ) (t : Tree) : Type 0 where
  pub within : Within cap t
  pub nodes : Nodes s t
  pub marks : Marks (header s).edition s t
  pub reds_apart : RedsApart t
  pub leans_left : LeansLeft t

-- the bound that slot p sets: its key; 0 for none
abbrev pub bound_of : List ℕ → ℕ → Bound
bound_of s zero = none
bound_of s (suc p) = over (key_of (slot s (suc p)))

-- slot p was met on the way, or is 0
pub record Met (s : List ℕ) (cap p : ℕ) : Type 0 where
  pub within : p ≤ cap
  pub short : (p ≡ 0 → ⊥) → (slot s p).key_length ≤ 48

-- a walk from slot h after slot p, with n entries left, went over t and ended after slot q with m entries left; b black nodes on each path
pub record Seen (s : List ℕ) (cap depth h p n : ℕ) (black : Bool) (t : Tree) (q m b : ℕ) : Type 0 where
  pub top : root t ≡ h
  pub good : Good s cap t
  pub colour : black ≡ true → is_red t ≡ false
  pub rising : Rising (bound_of s p) (entries t)
  pub last : bound_of s q ≡ last_of (bound_of s p) (entries t)
  pub met : Met s cap q
  pub sum : m + size t ≡ n
  pub blacks : Blacks b t
  pub low : b ≤ depth

-- a tree that such a walk has to accept
pub record Fits (s : List ℕ) (cap depth h p n : ℕ) (black : Bool) (t : Tree) : Type 0 where
  pub top : root t ≡ h
  pub good : Good s cap t
  pub colour : black ≡ true → is_red t ≡ false
  pub rising : Rising (bound_of s p) (entries t)
  pub few : size t ≤ n
  pub deep : height t ≤ depth
  pub same_blacks : SameBlacks t

abbrev pub WalkSays : List ℕ → (cap depth h p n : ℕ) → Bool → Option Trail → Type 0
WalkSays s cap d h p n k (Some a) = (t : Tree) × Seen s cap d h p n k t a.last a.left a.blacks
WalkSays s cap d h p n k None = (t : Tree) → Fits s cap d h p n k t → ⊥

-- black nodes on each path from a node, with b below it
abbrev pub blacks_from : (red : Bool) → ℕ → ℕ
blacks_from true b = b
blacks_from false b = b + 1

-- the last step of a walk: what the right side came to, with b black nodes on each path of the left side
abbrev pub joined : (red : Bool) → ℕ → Trail → Option Trail
joined c b a = cond (eqb a.blacks b) (Some (record a { blacks = blacks_from c b })) None

-- ---- the chain

-- slot x is free
pub record FreeOk (s : List ℕ) (cap x : ℕ) : Type 0 where
  pub high : x ≤ cap
  pub free : IsFree s x

abbrev pub Inside : ℕ → List ℕ → Type 0
Inside cap [] = Unit {0}
Inside cap (x ∷ f) = ((1 ≤ x) × (x ≤ cap)) × Inside cap f

-- a chain of n free slots starts at x
pub record HasChain (s : List ℕ) (cap x n : ℕ) : Type 0 where
  pub free : List ℕ
  pub top : head free ≡ x
  pub inside : Inside cap free
  pub chain : Chain s free
  pub long : length free ≡ n

-- as far as the loop has come: there is a chain from here just when there is one from the start
pub record Along (s : List ℕ) (cap x n y k : ℕ) : Type 0 where
  pub back : HasChain s cap y k → HasChain s cap x n
  pub on : HasChain s cap x n → HasChain s cap y k

-- ---- the header

-- a header by itself, of a store of n bytes in an edition
pub record HeaderOk (e n : ℕ) (h : Header) : Type 0 where
  pub edition : h.edition ≡ e
  pub zero : h.zero ≡ 0
  pub least : 1 ≤ h.capacity
  pub sized : Sized n h.capacity
  pub live : h.live ≤ h.capacity
