-- No node lacks a child after a run in which no call goes on without a lesser node that it wants.
use Rattle.std.proofs.Common.{◌≡◌, ℕ, Bool, List, [], ◌∷◌, sym, ap, subst, ◌∙◌}
use Rattle.congee.specs.owned.Content.{Content}
use Rattle.congee.specs.owned.Full.{AllFilled}
use Rattle.congee.specs.owned.Owners.{Owners}
use Rattle.congee.specs.owned.Runs.{IsRun, GoesOn, Inserted, Modified, Left, Cleared, StaysFilled, OwnersStayFilled, OwnerGoesOn, OwnerInserted, OwnerModified, OwnerLeft}

-- what each call keeps is so after all of them
module _ {S : Type 0} (next : S → S → Type 0) (P : S → Type 0) (keeps : (a b : S) → next a b → P a → P b) where
  kept : (first : S) (rest : List S) (last : S) → IsRun next first rest last → P first → P last
  kept first [] last r p = subst P (sym r) p
  kept first (now ∷ rest) last r p = kept now rest last r.1 (keeps first now r.0 p)

module _ {V A D : Type 0} (same : V → V → Bool) (charged limit : A → ℕ) where
  call_filled : (old new : Content V A D) → GoesOn same charged limit old new → old.lacking ≡ 0 → new.lacking ≡ 0
  call_filled old new (Inserted key call reply i) e = i.filled e
  call_filled old new (Modified going call reply m none) e = m.filled e none
  call_filled old new (Left u) e = u.lacking ∙ e
  call_filled old new (Cleared b) e = b.filled

  -- nodes that are filled where they lack no child are so after such a run on a tree that lacked none
  pub run_filled : (now : Content V A D) → (now.lacking ≡ 0 → AllFilled now.nodes) → StaysFilled same charged limit now
  run_filled now f first calls e r = f (kept (GoesOn same charged limit) (λ (t : Content V A D). t.lacking ≡ 0) call_filled first calls now r e)

module _ {V : Type 0} where
  owner_filled : (old new : Owners V) → OwnerGoesOn old new → old.lacking ≡ 0 → new.lacking ≡ 0
  owner_filled old new (OwnerInserted key call reply i) e = i.filled e
  owner_filled old new (OwnerModified going call reply m none) e = m.filled e none
  owner_filled old new (OwnerLeft u) e = ap (λ (t : Owners V). t.lacking) u ∙ e

  -- the same of a tree of owners: its nodes are filled after such a run on one that lacked no child
  pub owners_filled : (now : Owners V) → (now.lacking ≡ 0 → AllFilled now.nodes) → OwnersStayFilled now
  owners_filled now f first calls e r = f (kept OwnerGoesOn (λ (t : Owners V). t.lacking ≡ 0) owner_filled first calls now r e)
