use Rattle.std.proofs.Common.{◌≡◌, ◌<◌, ◌-◌, ◌^◌, ℕ, true, subst}
use Rattle.joint.specs.nodes.Nodes.{nodes}
use Rattle.joint.proofs.lemmas.nodes.NameBounds.{number_few}
use Rattle.joint.proofs.nodes.Nodes.charged.Goals as goal

pub returns-clause-few : goal.returns-clause-few
returns-clause-few g c = subst (λ s. (n : ℕ) → (nodes s n).made ≡ true → n < 2 ^ 64 - 1) c.self.view_is (number_few _ _ c.self.invariant)
