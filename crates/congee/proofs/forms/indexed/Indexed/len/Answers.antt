use Rattle.std.proofs.Common.{sym, subst, IsSome}
use Rattle.std.specs.FinMap as map
use Rattle.congee.proofs.lemmas.forms.IndexLemmas.{is_byte}
use Rattle.congee.proofs.forms.indexed.Indexed.len.Goals as goal

pub returns-clause-bytes : goal.returns-clause-bytes
returns-clause-bytes g c = λ b h. is_byte c.self.invariant b (subst (λ m. IsSome (map.get m b)) (sym c.self.view_is) h)
