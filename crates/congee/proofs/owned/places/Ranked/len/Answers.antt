use Rattle.std.proofs.Common.{sym, subst, IsSome}
use Rattle.std.specs.FinMap as map
use Rattle.congee.proofs.lemmas.forms.SortedLemmas.{len_is, is_byte}
use Rattle.congee.proofs.owned.places.Ranked.len.Goals as goal

pub returns-clause-count : goal.returns-clause-count
returns-clause-count g c = cc (len_is c.self.invariant, c.self.view_is, c.len.ensures.count)

pub returns-clause-bytes : goal.returns-clause-bytes
returns-clause-bytes g c = λ b h. is_byte c.self.invariant b (subst (λ m. IsSome (map.get m b)) (sym c.self.view_is) h)
