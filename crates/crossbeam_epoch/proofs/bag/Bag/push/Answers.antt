use Rattle.std.proofs.Common.{◌≡◌, ◌<◌, ◌≤◌, ◌++◌, ◌∷◌, [], List, ap, ◌∙◌, length, length-append, arith}
use Rattle.crossbeam_epoch.proofs.bag.Bag.push.Goals as goal

fits : {A : Type 0} (xs ys zs : List A) (x : A) → ys ≡ xs ++ x ∷ [] → xs ≡ zs → length zs < 64 → length ys ≤ 64
fits {A = A} xs ys zs x is same few = let long = ap (λ (l : List A). length l) is in let before = ap (λ (l : List A). length l) same in omega (arith, long, before, few, length-append xs (x ∷ []))

pub invariant_of-self : goal.invariant_of-self
invariant_of-self g c = fits c.self.inside.entries.items c.push.new.self.items c.args.self.now c.args.entry c.push.ensures.items c.self.view_is c.requires

pub returns : goal.returns
returns g c = c.push.ensures.items ∙ ap (λ xs. xs ++ c.args.entry ∷ []) c.self.view_is
