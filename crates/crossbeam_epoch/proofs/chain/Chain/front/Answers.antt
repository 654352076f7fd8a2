use Rattle.std.proofs.Common.{◌≡◌, [], ◌<◌, MatchOption, None, ap, length, subst, sym, ◌∙◌}
use Rattle.std.specs.Prelude.{slice_index_or}
use Rattle.std.specs.VecDeque.{deque_len}
use denote.Bor.{Bor}
use Rattle.crossbeam_epoch.specs.declared.bag.Sealed.{Sealed}
use Rattle.crossbeam_epoch.proofs.lemmas.world.Chains.{last_alone, seen_first}
use Rattle.crossbeam_epoch.proofs.chain.Chain.front.Goals as goal

pub returns-in-None : goal.returns-in-None
returns-in-None g c =
    let s = c.self.inside in
    let r = c.front-in-None.result in
    let none : s.first.items ≡ [] = seen_first (λ (b : Bor (Sealed g.row.J.Denot)). b.now) None s.first.items (deque_len s.first) s.first.ok.0 c.in-None.ensures.variant c.in-None.ensures.lookup in
    let here = ap (λ v. v.items) (sym c.self.view_is) ∙ last_alone (λ q. q.items) s.first.items s.last.items s.between.items none (c.self.invariant.alone none) in
    subst (λ xs. MatchOption r (xs ≡ []) (λ b. (0 < length xs) × (b.now ≡ slice_index_or xs 0 b.now))) (sym here) (seen_first (λ (b : Bor (Sealed g.row.J.Denot)). b.now) r s.last.items (deque_len s.last) s.last.ok.0 c.front-in-None.ensures.variant c.front-in-None.ensures.lookup)
