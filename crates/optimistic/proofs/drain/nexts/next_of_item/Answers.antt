use Rattle.std.proofs.Common.{◌≡◌, ℕ, sym, ◌∙◌, subst, None}
use Rattle.optimistic.specs.tree.Levels.{pair_value}
use Rattle.optimistic.specs.tree.Nexts.{IsSilent}
use Rattle.optimistic.proofs.lemmas.drain.Ends.{item_silent}
use Rattle.optimistic.proofs.drain.nexts.next_of_item.Goals as goal

pub returns-in-None-clause-next : goal.returns-in-None-clause-next
returns-in-None-clause-next c =
    let child = c.child_of-child.result in
    let is = c.child_of-child.ensures in
    let none : pair_value child.first child.second c.args.from ≡ None = sym c.in-None.ensures in
    let r = c.silent_to.ensures (sym c.goes_on-on.ensures.on ∙ c.if-on.false) none in (
      r.0,
      λ k above below.
          let m = r.1 k above below in
          (m.0, item_silent c.args.at.form c.args.item c.args.from k child.first is.0 (subst (λ (z : ℕ). pair_value child.first z c.args.from ≡ None) is.1 none) (subst (λ (z : ℕ). IsSilent child.first z k) is.1 m.1)),
    )
