use Rattle.std.proofs.Common.{◌≡◌, ℕ, false, take, get_or, sym, ap, subst, ◌∙◌}
use Rattle.std.specs.Prelude.{Some}
use Rattle.slab.specs.Slab.{get}
use Rattle.congee.specs.Heap.{fits}
use Rattle.congee.specs.forms.Forms.{prefix_of}
use Rattle.congee.specs.owned.Changes.{DiffersAt}
use Rattle.congee.specs.owned.Entries.{lone_seen}
use Rattle.congee.specs.declared.forms.base_node.Node.{Node}
use Rattle.congee.proofs.lemmas.owned.Moves.{node_at}
use Rattle.congee.proofs.lemmas.owned.Stored.{named_lone, named_lone_seen, named_slot, named_seen, seen_prefix}
use Rattle.congee.proofs.owned.nodes.Nodes.parting.Given.{Over}
use Rattle.congee.proofs.owned.nodes.Nodes.parting.Goals.{After-prefix, After-lone}
use Rattle.congee.proofs.owned.nodes.Nodes.parting.Goals as goal

-- the bytes that were read are the node's prefix
abbrev InSlot : (g : Over) → After-prefix g → Type 0
InSlot g c = (x : Node ℕ g.row.P.Denot) → get c.args.self.now c.args.at ≡ Some x → c.prefix.result.now ≡ prefix_of x

in_slot : (g : Over) (c : After-prefix g) → InSlot g c
in_slot g c = λ x e.
    c.prefix.ensures.bytes ∙ (sym (seen_prefix c.at.inside.slot c.index.result.now)
    ∙ ap prefix_of (named_seen c.self.inside.slab c.args.self.now c.self.view_is c.args.at c.at.inside.slot c.at.inside.byte c.at.view_is c.in-None.is c.index.result.now x c.index.ensures e))

abbrev Inline : (g : Over) → After-lone g → Type 0
Inline g c = (x : Node ℕ g.row.P.Denot) → get c.args.self.now c.args.at ≡ Some x → take 7 c.lone.result.key ≡ prefix_of x

inline : (g : Over) (c : After-lone g) → Inline g c
inline g c = λ x e.
    ap prefix_of (named_lone_seen c.self.inside.slab c.args.self.now c.self.view_is c.args.at c.at.inside.slot c.at.inside.byte c.at.view_is c.in-Some.byte (lone_seen c.lone.result) x c.in-Some.is c.lone.ensures e)

pub index-requires : goal.index-requires
index-requires g c = named_slot c.self.inside.slab c.args.self.now c.self.view_is c.args.at c.at.inside.slot c.at.inside.byte c.at.view_is c.in-None.is c.requires.stands

pub of-requires-clause-differs : goal.of-requires-clause-differs
of-requires-clause-differs g c =
    let n = node_at c.args.self.now c.args.at c.requires.stands in
    subst (λ p. fits p c.args.key.now ≡ false) (sym (in_slot g (goal.at.of-requires-clause-differs g c).After-prefix n.0 n.1)) (c.requires.differs n.0 n.1)

pub lone-requires : goal.lone-requires
lone-requires g c = named_lone c.self.inside.slab c.args.self.now c.self.view_is c.args.at c.at.inside.slot c.at.inside.byte c.at.view_is c.in-Some.byte c.in-Some.is c.requires.stands

pub of-requires-in-Some-clause-differs : goal.of-requires-in-Some-clause-differs
of-requires-in-Some-clause-differs g c =
    let n = node_at c.args.self.now c.args.at c.requires.stands in
    subst (λ p. fits p c.args.key.now ≡ false) (sym (inline g (goal.at.of-requires-in-Some-clause-differs g c).After-lone n.0 n.1)) (c.requires.differs n.0 n.1)

pub returns-in-None-clause-place : goal.returns-in-None-clause-place
returns-in-None-clause-place g c = λ x e. subst (λ p. DiffersAt c.args.key.now p c.of.result.place) (in_slot g (goal.at.returns-in-None-clause-place g c).After-prefix x e) c.of.ensures.place

pub returns-in-None-clause-other : goal.returns-in-None-clause-other
returns-in-None-clause-other g c = λ x e. c.of.ensures.other ∙ ap (λ p. get_or p c.of.result.place 0) (in_slot g (goal.at.returns-in-None-clause-other g c).After-prefix x e)
