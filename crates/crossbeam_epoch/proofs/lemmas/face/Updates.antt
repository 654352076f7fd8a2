-- What a closure gave for a pointer, however the pointer and the collector are named.
use Rattle.std.proofs.Common.{◌≡◌, ℕ, Bool, true, Option, Some, None, sym, ap, ◌∙◌, subst}
use Rattle.std.specs.Prelude.{IfSome}
use Rattle.crossbeam_epoch.specs.declared.face.shared.Shared.{Shared}
use Rattle.crossbeam_epoch.specs.declared.face.link.Link.{Link}
use Rattle.crossbeam_epoch.specs.face.Exchange.{GaveNext, GaveNone, Updates}

-- pointers with one site and tag are one
pub one_pointer : {T : Type 0} (a b : Shared T) → a.link ≡ b.link → a ≡ b
one_pointer a b same = ap (λ l. record a { link = l }) same

if_elsewhere : {S : Type 0} (e e' : S → Bool) (given : Option S) → ((x : S) → e x ≡ e' x) → IfSome given (λ n. e n ≡ true) → IfSome given (λ n. e' n ≡ true)
if_elsewhere e e' None same h = tt
if_elsewhere e e' (Some n) same h = sym (same n) ∙ h

module _ {F S : Type 0} (step : F → S → Option S → F → Type 0) (e e' : S → Bool) (s s' : S) (same : (x : S) → e x ≡ e' x) (is : s ≡ s') where
  -- a closure that gave a pointer to write for the one gave it for the other
  pub gave_next : GaveNext step e s → GaveNext step e' s'
  gave_next g = (g.0, g.1, g.2, subst (λ x. step g.0 x (Some g.2) g.1) is g.3, sym (same g.2) ∙ g.4)

  -- a closure that gave none to write for the one gave none for the other
  pub gave_none : GaveNone step e s → GaveNone step e' s'
  gave_none g = (g.0, g.1, g.2, subst (λ x. step g.0 x g.2 g.1) is g.3, if_elsewhere e e' g.2 same g.4)

-- what an update wrote in the place of a pointer, its closure gave for that
pub given_next : {F T : Type 0} (step : F → Shared T → Option (Shared T) → F → Type 0) (elsewhere : Shared T → Bool) (align : ℕ) (s : Shared T) (written : Link) → Updates step elsewhere align s written → GaveNext step elsewhere s
given_next step elsewhere align s written u = let g = u.1 in (g.0, g.1, g.2, g.3, g.4)
