-- Nodes that cover no key: names of some that may be free, and one that a hand has taken.
use Rattle.std.specs.Prelude.{◌≡◌, ℕ, ◌+◌, ◌<◌, ◌^◌, true, false, List, ◌∷◌, length, All, slice_index_or, Vec}
use Rattle.std.specs.declared.alloc.Global.{Global}
use Rattle.optimistic.specs.declared.tree.fresh.Free.{Free}
use Rattle.optimistic.specs.declared.tree.fresh.Fresh.{Fresh}
use Rattle.optimistic.specs.declared.words.rule.View.{View}
use Rattle.optimistic.specs.words.Calls.{Keeps}
use Rattle.optimistic.specs.words.Kept.{calm_at, has, Since, Held}
use Rattle.optimistic.specs.words.Told.{HasForm, tenure, IsDrafted}

-- names of nodes of this form
abbrev pub AreOf : ℕ → List ℕ → View → Type 0
AreOf form names v = All (λ n. HasForm n form v) names

-- there is a list of names for each form, and they are names of nodes of that form
pub record IsFreeOf (free : Free) (v : View) : Type 0 where
  pub forms : length free.lists.items ≡ 9
  pub names : (form : ℕ) (list : Vec ℕ Global) → 0 < form → form < 9 → AreOf form (slice_index_or free.lists.items form list).items v

-- The hand has taken a node of this form, which is as it was settled and covers no key, and nothing else changed
pub record IsMade (r : Fresh) (form : ℕ) (v w : View) : Type 0 where
  pub at : HasForm r.node form w
  pub mine : w.mine ≡ tenure r.node true ∷ v.mine
  pub apart : has v.mine r.node ≡ false
  pub drafted : IsDrafted r.node r.version w
  pub ends : r.version + 1 < 2 ^ 64
  pub blank : calm_at w.seen.calm r.node 1 ≡ 0
  pub keeps : Keeps v w
  pub since : Since v.seen w.seen
  pub held : Held v.mine v.seen w.seen
