use Rattle.std.proofs.Common.{rules, ℕ, List, ◌∷◌, sym, ap, ◌∙◌, Option, Some}
use Rattle.atomic_table.specs.Table.{Me, rest}
use Rattle.optimistic.proofs.lemmas.desk.Steps.{takes_it}
use Rattle.optimistic.proofs.desk.place.Desk.take.Goals as goal

pub compare_exchange-found-requires : goal.compare_exchange-found-requires
compare_exchange-found-requires g c = (c.requires.0, search rules, takes_it _ _ _ _ _)

pub exchange-requires : goal.exchange-requires
exchange-requires g c = let t = c.compare_exchange-found.ensures.2.0 (search rules) in (
  c.compare_exchange-found.ensures.0 ∙ c.requires.0,
  (Some t.0, ap (λ (z : Me (Option g.row.T.Denot) g.row.K.Denot). z.1) t.1 ∙ ap (λ (l : List (ℕ × Option g.row.T.Denot)). (0, Some t.0) ∷ l) (sym (ap (λ (z : Me (Option g.row.T.Denot) g.row.K.Denot). rest z.1) t.1))),
)
