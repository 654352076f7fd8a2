use Rattle.std.proofs.Common.{ap, ◌∙◌}
use Rattle.congee.proofs.lemmas.forms.MappedLemmas.{mapped_empty}
use Rattle.congee.proofs.lemmas.owned.Clears.{RootLeft, root_left}
use Rattle.congee.proofs.lemmas.owned.Keying.{keyed_none}
use Rattle.congee.proofs.lemmas.owned.Counted.{none_counted}
use Rattle.congee.proofs.lemmas.owned.Slots.{with_form, with_mapped, with_prefix}
use Rattle.congee.specs.forms.Mapped.{mapped}
use Rattle.congee.specs.owned.Slots.{inner_child, with_children}
use Rattle.congee.proofs.owned.arena.Arena.new.Given.{Over}
use Rattle.congee.proofs.owned.arena.Arena.new.Goals.{In-Ok-new}
use Rattle.congee.proofs.owned.arena.Arena.new.Goals as goal

-- what stands in the new tree
abbrev Left : (g : Over) → In-Ok-new g → Type 0
Left g c = RootLeft c.in-Ok-new.nodes

left : (g : Over) (c : In-Ok-new g) → Left g c
left g c =
    let f = inner_child 0 in
    root_left c.in-Ok-new.nodes (with_children f c.in-Ok.root) c.in-Ok-new.ensures.root
    (with_prefix f c.in-Ok.root ∙ c.in-Ok.ensures.prefix)
    (with_mapped f c.in-Ok.root ∙ (ap (mapped f) c.in-Ok.ensures.children ∙ mapped_empty f))
    (with_form f c.in-Ok.root ∙ c.in-Ok.ensures.form)

pub returns-in-Ok-new-clause-tree : goal.returns-in-Ok-new-clause-tree
returns-in-Ok-new-clause-tree g c = (left g (goal.at.returns-in-Ok-new-clause-tree g c).In-Ok-new).tree

pub returns-in-Ok-new-clause-empty : goal.returns-in-Ok-new-clause-empty
returns-in-Ok-new-clause-empty g c = (left g (goal.at.returns-in-Ok-new-clause-empty g c).In-Ok-new).empty

pub returns-in-Ok-new-clause-nodes : goal.returns-in-Ok-new-clause-nodes
returns-in-Ok-new-clause-nodes g c = (left g (goal.at.returns-in-Ok-new-clause-nodes g c).In-Ok-new).nodes

pub returns-in-Ok-new-clause-wants : goal.returns-in-Ok-new-clause-wants
returns-in-Ok-new-clause-wants g c = (left g (goal.at.returns-in-Ok-new-clause-wants g c).In-Ok-new).wants

pub returns-in-Ok-new-clause-bytes : goal.returns-in-Ok-new-clause-bytes
returns-in-Ok-new-clause-bytes g c = (left g (goal.at.returns-in-Ok-new-clause-bytes g c).In-Ok-new).bytes

pub returns-in-Ok-new-clause-filled : goal.returns-in-Ok-new-clause-filled
returns-in-Ok-new-clause-filled g c = (left g (goal.at.returns-in-Ok-new-clause-filled g c).In-Ok-new).lacking

pub returns-in-Ok-new-clause-branch : goal.returns-in-Ok-new-clause-branch
returns-in-Ok-new-clause-branch g c = (left g (goal.at.returns-in-Ok-new-clause-branch g c).In-Ok-new).branch

pub returns-in-Ok-new-clause-keyed : goal.returns-in-Ok-new-clause-keyed
returns-in-Ok-new-clause-keyed g c = keyed_none c.in-Ok-new.nodes (left g (goal.at.returns-in-Ok-new-clause-keyed g c).In-Ok-new).empty

pub returns-in-Ok-new-clause-counted : goal.returns-in-Ok-new-clause-counted
returns-in-Ok-new-clause-counted g c = none_counted c.in-Ok-new.nodes (left g (goal.at.returns-in-Ok-new-clause-counted g c).In-Ok-new).empty
