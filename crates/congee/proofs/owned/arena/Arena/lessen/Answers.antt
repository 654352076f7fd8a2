use Rattle.std.proofs.Common.{rules, ◌≡◌, inl, inr, ap, ◌∙◌, arith}
use Rattle.slab.specs.Slab.{SameValues}
use Rattle.congee.specs.forms.Forms.{form_of, size_of}
use Rattle.congee.specs.protocol.Steps.{form_below}
use Rattle.congee.proofs.lemmas.owned.FullSteps.{lessened_filled, never_less, stays_filled}
use Rattle.congee.proofs.lemmas.owned.Lessening.{reformed, reformed_bytes, still_map}
use Rattle.congee.proofs.lemmas.owned.Moves.{node_at}
use Rattle.congee.proofs.lemmas.owned.Rooms.{of_ok}
use Rattle.congee.proofs.lemmas.owned.Sizes.{bytes_same}
use Rattle.congee.proofs.owned.arena.Arena.lessen.Goals as goal

pub deallocate-requires : goal.deallocate-requires
deallocate-requires g c =
    let n = node_at c.args.self.now.nodes c.args.at c.requires.stands in
    let size : c.size.result ≡ size_of (form_below (form_of n.0)) = c.size.ensures ∙ ap size_of (c.below.ensures ∙ ap form_below (c.node_type-form.ensures n.0 n.1)) in
    let k = c.requires.covered n.0 n.1 in
    omega (arith, size, k)

pub returns-then-is_err-clause-same : goal.returns-then-is_err-clause-same
returns-then-is_err-clause-same g c =
    let same : SameValues c.args.self.now.nodes c.shrink.new.self = search rules in
    still_map c.args.self.now.nodes c.shrink.new.self c.requires.tree same

pub returns-then-is_err-clause-lessens : goal.returns-then-is_err-clause-lessens
returns-then-is_err-clause-lessens g c = λ x e.
    let same : SameValues c.args.self.now.nodes c.shrink.new.self = search rules in
    let size : c.size.result ≡ size_of (form_below (form_of x)) = c.size.ensures ∙ ap size_of (c.below.ensures ∙ ap form_below (c.node_type-form.ensures x e)) in
    let off = c.deallocate.ensures.charged in
    inr (omega (arith, size, off), bytes_same c.args.self.now.nodes c.shrink.new.self same, search rules)

pub returns-then-is_err-clause-filled : goal.returns-then-is_err-clause-filled
returns-then-is_err-clause-filled g c = λ by_form x e others enough came.
    let same : SameValues c.args.self.now.nodes c.shrink.new.self = search rules in
    let bytes = bytes_same c.args.self.now.nodes c.shrink.new.self same in
    stays_filled by_form c.args.self.now.nodes c.shrink.new.self c.args.at x same e others enough (λ asked. never_less (form_of x) _ _ (c.requires.greater x e) bytes (came asked))

pub deallocate-requires-2 : goal.deallocate-requires-2
deallocate-requires-2 g c =
    let n = node_at c.args.self.now.nodes c.args.at c.requires.stands in
    let k = of_ok c.shrink.result c.if-is_err.ensures.negation c.shrink.ensures.shrunk n.0 n.1 in
    let bytes = reformed_bytes c.args.self.now.nodes c.shrink.new.self c.args.at n.0 k.node c.requires.tree c.requires.below n.1 k.updates k.shrunk.prefix k.shrunk.children in
    let below : size_of (form_of k.node) ≡ size_of (form_below (form_of n.0)) = ap size_of k.shrunk.form in
    let size : c.size-2.result ≡ size_of (form_of n.0) = c.size-2.ensures ∙ ap size_of (c.node_type-form.ensures n.0 n.1) in
    let cover = c.requires.covered n.0 n.1 in
    omega (arith, bytes, below, size, cover)

pub returns-clause-same : goal.returns-clause-same
returns-clause-same g c =
    let n = node_at c.args.self.now.nodes c.args.at c.requires.stands in
    let k = of_ok c.shrink.result c.if-is_err.ensures.negation c.shrink.ensures.shrunk n.0 n.1 in
    reformed c.args.self.now.nodes c.shrink.new.self c.args.at n.0 k.node c.requires.tree c.requires.below n.1 k.updates k.shrunk.prefix k.shrunk.children

pub returns-clause-filled : goal.returns-clause-filled
returns-clause-filled g c = λ by_form x e others enough _.
    let k = of_ok c.shrink.result c.if-is_err.ensures.negation c.shrink.ensures.shrunk x e in
    lessened_filled by_form c.args.self.now.nodes c.shrink.new.self c.args.at x k.node others enough k.shrunk.form k.shrunk.prefix k.shrunk.children k.updates.changed k.updates.others

pub returns-clause-lessens : goal.returns-clause-lessens
returns-clause-lessens g c = λ x e.
    let k = of_ok c.shrink.result c.if-is_err.ensures.negation c.shrink.ensures.shrunk x e in
    let bytes = reformed_bytes c.args.self.now.nodes c.shrink.new.self c.args.at x k.node c.requires.tree c.requires.below e k.updates k.shrunk.prefix k.shrunk.children in
    let below : size_of (form_of k.node) ≡ size_of (form_below (form_of x)) = ap size_of k.shrunk.form in
    let size : c.size-2.result ≡ size_of (form_of x) = c.size-2.ensures ∙ ap size_of (c.node_type-form.ensures x e) in
    let off = c.deallocate-2.ensures.charged in
    inl (omega (arith, size, off), omega (arith, bytes, below))
