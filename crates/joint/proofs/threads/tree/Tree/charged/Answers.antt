use Rattle.std.proofs.Common.{◌≡◌, ◌+◌, arith, ◌∙◌, ap}
use Rattle.std.specs.List.{sum_by}
use Rattle.congee.specs.owned.Stats.{capped}
use Rattle.joint.specs.declared.nodes.account.Account.{Account}
use Rattle.joint.specs.nodes.Listing.{bytes_of, standing_nodes}
use Rattle.joint.proofs.threads.tree.Tree.charged.Goals as goal

pub returns : goal.returns
returns g c =
    let s = c.world-machine.result.now in
    let sum : c.charged.result ≡ s.forest.base + sum_by (bytes_of s.forest) (standing_nodes s.forest) = c.charged.ensures.sum in
    let base : c.account.result.charged ≡ s.forest.base = ap (λ (a : Account). a.charged) c.account.ensures in
    let sizes : c.saturating_sub-sizes.result ≡ sum_by (bytes_of s.forest) (standing_nodes s.forest) = c.saturating_sub-sizes.ensures ∙ omega (arith, sum, base) in
    (s, c.sound.ensures.holds, c.saturating_add.ensures ∙ ap (λ n. capped (c.args.self.now.account.charged + n)) sizes)
