use Rattle.std.proofs.Common.{◌≡◌, [], ◌∷◌, ◌++◌, sym, ap, subst, ◌∙◌}
use Rattle.slab.specs.Slab.{ContainsKey}
use Rattle.congee.specs.owned.Walks.{steps_of}
use Rattle.congee.proofs.lemmas.owned.BackWalks.{last_cursor}
use Rattle.congee.proofs.lemmas.owned.Cursors.{branch_at}
use Rattle.congee.proofs.lemmas.owned.Ways.{stands_of}
use Rattle.congee.proofs.owned.arena.Arena.ending.Given.{Over}
use Rattle.congee.proofs.owned.arena.Arena.ending.Goals.{After-enter}
use Rattle.congee.proofs.owned.arena.Arena.ending.Goals as goal

pub enter-requires : goal.enter-requires
enter-requires g c = subst (ContainsKey c.args.self.now.nodes) (sym c.root.ensures) (stands_of c.args.self.now.nodes c.requires.parent 0 c.requires.tree.root)

-- the root's step alone
abbrev Starts : (g : Over) → After-enter g → Type 0
Starts g c = steps_of c.enter.result ≡ branch_at 0 256 ∷ []

starts : (g : Over) (c : After-enter g) → Starts g c
starts g c = c.enter.ensures.steps ∙ (ap (λ xs. xs ++ branch_at c.root.result 256 ∷ []) c.new.ensures ∙ ap (λ n. branch_at n 256 ∷ []) c.root.ensures)

pub returns-clause-walk : goal.returns-clause-walk
returns-clause-walk g c = record {
  way = (last_cursor c.args.self.now.nodes c.requires (steps_of c.enter.result) (starts g (goal.at.returns-clause-walk g c).After-enter)).0;
  sees = c.enter.ensures.sees;
}

pub returns-clause-at : goal.returns-clause-at
returns-clause-at g c = (last_cursor c.args.self.now.nodes c.requires (steps_of c.enter.result) (starts g (goal.at.returns-clause-at g c).After-enter)).1
