use Rattle.std.proofs.Common.{length, get_or, ap, sym, ◌∙◌}
use Rattle.congee.proofs.lemmas.owned.Moves.{node_at, prefix_at}
use Rattle.congee.proofs.owned.arena.Arena.byte_at.Goals as goal

pub returns : goal.returns
returns g c =
    let n = node_at c.args.self.now.nodes c.args.at c.requires in
    ap (λ k. get_or c.args.key.now k 0) (c.prefix_len.ensures.count n.0 n.1 ∙ ap length (sym (prefix_at c.args.self.now.nodes c.args.at n.0 n.1)))
