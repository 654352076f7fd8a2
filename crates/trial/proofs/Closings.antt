-- What a tree that is closed hands over.
use Rattle.std.proofs.Common.{◌≡◌, ℕ, true, List, [], ◌∷◌, ◌++◌, sym, ◌∙◌, ap, append_assoc, append-nil}
use Rattle.joint.specs.nodes.Draining.{Drained as Takes}
use Rattle.trial.specs.declared.drained.Drained.{Drained}

-- a pair comes behind those before it, unless there was no memory for it or for one of those
abbrev TakesOne : Drained → ℕ → ℕ → Drained → Type 0
TakesOne before key value after = after.whole ≡ true → (before.whole ≡ true) × (after.pairs ≡ before.pairs ++ (key, value) ∷ [])

taken : (before after : Drained) (pairs : List (ℕ × ℕ)) → Takes TakesOne before pairs after → after.whole ≡ true → (before.whole ≡ true) × (after.pairs ≡ before.pairs ++ pairs)
taken before after [] f w = (ap (λ d. d.whole) f ∙ w, sym (ap (λ d. d.pairs) f) ∙ sym (append-nil before.pairs))
taken before after (p ∷ ps) f w =
    let rest = taken f.0 after ps f.2 w in
    let step = f.1 rest.0 in
    (step.0, rest.1 ∙ ap (λ xs. xs ++ ps) step.1 ∙ append_assoc before.pairs (p ∷ []) ps)

-- where there was memory for each, the pairs are all that were handed over
pub all_taken : (before after : Drained) (pairs : List (ℕ × ℕ)) → before.pairs ≡ [] → Takes TakesOne before pairs after → after.whole ≡ true → after.pairs ≡ pairs
all_taken before after pairs none f w = (taken before after pairs f w).1 ∙ ap (λ xs. xs ++ pairs) none
