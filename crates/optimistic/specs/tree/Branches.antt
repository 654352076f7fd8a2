-- A node that comes between a node and its child, where a key parts from the keys below the child.
use Rattle.std.specs.Prelude.{◌≡◌, ◌≢◌, ℕ, ◌+◌, ◌^◌, ◌<◌, ◌⊎◌, true, None, Some}
use Rattle.optimistic.specs.Layout.{tag_of, level_of, byte_at, child_of, leaf_of, prefix_of, where_of}
use Rattle.optimistic.specs.declared.tree.fresh.Fresh.{Fresh}
use Rattle.optimistic.specs.declared.tree.set.Set.{Set}
use Rattle.optimistic.specs.declared.tree.set.Set.TheVariants.{Done, Differs, Again, Full, Taken, Exhausted}
use Rattle.optimistic.specs.declared.words.rule.Note.{Note}
use Rattle.optimistic.specs.declared.words.rule.View.{View}
use Rattle.optimistic.specs.words.Calls.{entry_of}
use Rattle.optimistic.specs.words.Kept.{calm_at, has}
use Rattle.optimistic.specs.words.Told.{HasForm, IsDrafted}
use Rattle.optimistic.specs.forms.Children.{is_inner, first_of, second_of, Becomes}
use Rattle.optimistic.specs.forms.Pairs.{HasTwo}
use Rattle.optimistic.specs.tree.Levels.{depth, goes_on, pair_value}

-- Of the keys with the first byte of `key`, those below the child f, x begin with the first e bytes of o: a lone leaf's with all eight, a
-- node's with as many as its level
abbrev pub Begins : ℕ → ℕ → ℕ → ℕ → ℕ → Type 0
Begins f x key o e = ((f ≡ leaf_of o) × (prefix_of o 1 ≡ prefix_of key 1) × (e ≡ 8)) ⊎ ((0 < tag_of f) × (tag_of f < 9) × (o ≡ x) × (e ≡ level_of f))

-- The key and the keys below the child f, x of a node of this level part at the depth c, where the latter have the byte: there a node of the
-- form g fits
pub record IsBranch (f x key level g c byte : ℕ) : Type 0 where
  pub some : f ≢ 0
  pub deep : level < c
  pub low : c < 8
  pub form_is : (g ≡ 1) ⊎ ((g ≡ 5) × (c ≡ 7))
  pub apart : byte ≢ byte_at key c
  pub goes : (k : ℕ) → goes_on f x k ≡ true → (prefix_of k c ≡ prefix_of key c) × (byte_at k c ≡ byte) × (c < depth x)
  pub value : (k : ℕ) → prefix_of k 1 ≡ prefix_of key 1 → ((prefix_of k c ≡ prefix_of key c) × (byte_at k c ≡ byte) → ⊥) → pair_value f x k ≡ None
  pub last : c ≡ 7 → (k : ℕ) → prefix_of k 7 ≡ prefix_of key 7 → byte_at k 7 ≡ byte → f ≡ leaf_of k

-- There is no such depth: the key begins as the keys below the child do, or these begin otherwise than the keys that the node has there
abbrev pub HasNoBranch : ℕ → ℕ → ℕ → ℕ → Type 0
HasNoBranch f x key level = (o e : ℕ) → Begins f x key o e → (prefix_of key e ≡ prefix_of o e) ⊎ (prefix_of key (level + 1) ≢ prefix_of o (level + 1))

-- A node's words w have become w', and those of node m are v: where the node, which covers the key, had the child f, x, it now has m, of the
-- form g, and m has that child and the key's lone leaf
pub record Splits (form level m g c byte f x key value : ℕ) (w w' v : ℕ → ℕ) : Type 0 where
  pub some : 0 < form
  pub inner : is_inner form ≡ true
  pub low : level < 8
  pub covers : w 1 ≡ where_of form level key
  pub covers_still : w' 1 ≡ w 1
  pub first : first_of form w key (byte_at key level) ≡ f
  pub second : second_of form w key (byte_at key level) ≡ x
  pub branch : IsBranch f x key level g c byte
  pub becomes : Becomes form w w' (byte_at key level) (λ k. child_of g c m) (where_of g c key)
  pub covers_new : v 1 ≡ where_of g c key
  pub two : HasTwo g v byte f x (byte_at key c) (leaf_of key) value

-- what the hand says as it lets the node go: that node m is settled with it, and that this decides the write
abbrev pub split_note : ℕ → ℕ → ℕ → Note
split_note m key value = record { first = Some m; second = None; third = None; entry = Some (entry_of 0 key (Some value)); form = 0 }

-- the hand has a node of this form, which is as it was settled, and covers no key
pub record IsSpare (r : Fresh) (form : ℕ) (v : View) : Type 0 where
  pub at : HasForm r.node form v
  pub drafted : IsDrafted r.node r.version v
  pub ends : r.version + 1 < 2 ^ 64
  pub blank : calm_at v.seen.calm r.node 1 ≡ 0

-- a hand has no node more than before, nor nodes n and m, which it had
abbrev pub LetsBothGo : ℕ → ℕ → View → View → Type 0
LetsBothGo n m v w = (p : ℕ) → has w.mine p ≡ true → (p ≢ n) × (p ≢ m) × (has v.mine p ≡ true)

-- what can come of a write of a key that had no value right before
abbrev pub IsFirst : Set → Type 0
IsFirst (Done old) = old ≡ None
IsFirst (Differs x) = ⊥
IsFirst Again = Unit {0}
IsFirst Full = ⊥
IsFirst Taken = ⊥
IsFirst Exhausted = Unit {0}
