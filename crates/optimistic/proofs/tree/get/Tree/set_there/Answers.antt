use Rattle.std.proofs.Common.{◌≡◌, ℕ, Option, None, sym, ap, ◌∙◌, subst, ◌⊎◌, ⊎_elim, inl, inr}
use Rattle.optimistic.specs.Layout.{byte_at, leaf_of}
use Rattle.optimistic.specs.words.Kept.{word_at}
use Rattle.optimistic.specs.forms.Children.{IsForm}
use Rattle.optimistic.specs.tree.Levels.{pair_value}
use Rattle.optimistic.specs.tree.Reads.{Found}
use Rattle.optimistic.specs.tree.Sets.{Allows}
use Rattle.optimistic.specs.tree.Takes.{HasWritten}
use Rattle.optimistic.specs.tree.Trees.{IsTree}
use Rattle.optimistic.proofs.lemmas.words.Moments.{width_some}
use Rattle.optimistic.proofs.lemmas.tree.Reading.{looks_trans, none_value}
use Rattle.optimistic.proofs.lemmas.tree.Sets.{looks_drafted, drafted_shape, shape_later, may_leaf, written_keeps}
use Rattle.optimistic.proofs.lemmas.tree.Setting.{room_some, put_leaf, held_first, held_value, open_ends, other_value, writes_replaces, gone}
use Rattle.optimistic.proofs.lemmas.tree.Taking.{leaf_there}
use Rattle.optimistic.proofs.lemmas.words.Chains.{later_keeps, looks_keeps, releases_keeps}
use Rattle.optimistic.proofs.tree.get.Tree.set_there.Goals as goal

pub release-requires-clause-some : goal.release-requires-clause-some
release-requires-clause-some c = width_some c.args.at.form c.requires.at.some c.requires.at.form

pub release-requires-clause-drafted : goal.release-requires-clause-drafted
release-requires-clause-drafted c = looks_drafted c.args.at.node c.args.at.form c.args.version c.args.hand.now.me.0 c.child-child.new.hand.me.0 c.requires.at.at (width_some c.args.at.form c.requires.at.some c.requires.at.form) c.child-child.ensures.at c.requires.drafted c.child-child.ensures.looks

pub release-requires-then-not-open-clause-some : goal.release-requires-then-not-open-clause-some
release-requires-then-not-open-clause-some c = width_some c.args.at.form c.requires.at.some c.requires.at.form

pub release-requires-then-not-open-clause-drafted : goal.release-requires-then-not-open-clause-drafted
release-requires-then-not-open-clause-drafted c = looks_drafted c.args.at.node c.args.at.form c.args.version c.args.hand.now.me.0 c.child-child.new.hand.me.0 c.requires.at.at (width_some c.args.at.form c.requires.at.some c.requires.at.form) c.child-child.ensures.at c.requires.drafted c.child-child.ensures.looks

pub returns-else-goes_on-clause-minds : goal.returns-else-goes_on-clause-minds
returns-else-goes_on-clause-minds c = let none : c.pair_value-found.result ≡ None = c.pair_value-found.ensures ∙ other_value c.child-child.result.first c.child-child.result.second c.args.write.key (λ e. c.if-not-open.ensures.1 (e ∙ sym c.leaf_word-leaf.ensures.word)) in
    subst (λ (z : Option ℕ). Allows c.args.write z) none c.if-not-allowed.ensures

pub write_leaf-written-requires-clause-shape : goal.write_leaf-written-requires-clause-shape
write_leaf-written-requires-clause-shape c = let a = c.args.hand.now.me.0 in let w = c.child-child.new.hand.me.0 in let roomy = room_some c.args.at.form c.requires.at.some c.requires.at.form in
    shape_later c.args.at.node c.args.at.form a w roomy c.requires.at.at c.requires.drafted.0 c.child-child.ensures.looks
    (drafted_shape c.args.at.node c.args.at.form c.args.at.level c.args.write.key c.args.version a w c.requires.at.some c.requires.at.form c.requires.at.level roomy c.requires.at.at c.requires.drafted c.child-child.ensures.looks c.requires.covers)

pub write_leaf-written-requires-clause-there : goal.write_leaf-written-requires-clause-there
write_leaf-written-requires-clause-there c some_child = let a = c.args.hand.now.me.0 in let w = c.child-child.new.hand.me.0 in
    let n : ℕ = c.args.at.node in let form : ℕ = c.args.at.form in let key : ℕ = c.args.write.key in let first : ℕ = c.child-child.result.first in
    let leaf : first ≡ leaf_of key = ⊎_elim (λ z. absurd (some_child z)) (λ z. z ∙ c.leaf_word-leaf.ensures.word) c.if-not-open.ensures in
    let shape : IsForm form (word_at a.seen.words n) = drafted_shape n form c.args.at.level key c.args.version a w c.requires.at.some c.requires.at.form c.requires.at.level (room_some form c.requires.at.some c.requires.at.form) c.requires.at.at c.requires.drafted c.child-child.ensures.looks c.requires.covers in
    leaf_there n form key c.key_byte-byte.result a w c.requires.at.at c.requires.drafted.0 c.child-child.ensures.looks
    (held_first n form first c.child-child.result.second key c.key_byte-byte.result a w c.requires.at.at c.requires.drafted.0 shape c.child-child.ensures.found ∙ leaf)

pub write_leaf-written-requires-clause-some : goal.write_leaf-written-requires-clause-some
write_leaf-written-requires-clause-some c = let second : ℕ = c.child-child.result.second in let key : ℕ = c.args.write.key in (
  c.leaf_word-leaf.ensures.some,
  ⊎_elim (λ q. inl q) (λ q. inr (λ z. q (c.pair_value-found.ensures ∙ (ap (λ (x : ℕ). pair_value x second key) z ∙ none_value second key)))) c.if-not-allowed.ensures.1,
)

pub release-requires-then-not-written-clause-some : goal.release-requires-then-not-written-clause-some
release-requires-then-not-written-clause-some c = width_some c.args.at.form c.requires.at.some c.requires.at.form

pub release-requires-then-not-written-clause-drafted : goal.release-requires-then-not-written-clause-drafted
release-requires-then-not-written-clause-drafted c = let a = c.args.hand.now.me.0 in let w = c.child-child.new.hand.me.0 in let y = c.write_leaf-written.new.hand.me.0 in
    looks_drafted c.args.at.node c.args.at.form c.args.version a y c.requires.at.at (width_some c.args.at.form c.requires.at.some c.requires.at.form) c.write_leaf-written.ensures.at c.requires.drafted
    (looks_trans a w y c.child-child.ensures.looks c.if-not-written.ensures.written)

pub returns-then-not-written-clause-minds : goal.returns-then-not-written-clause-minds
returns-then-not-written-clause-minds c = let second : ℕ = c.child-child.result.second in let key : ℕ = c.args.write.key in
    let none : c.pair_value-found.result ≡ None = c.pair_value-found.ensures ∙ (ap (λ (x : ℕ). pair_value x second key) (c.write_leaf-written.ensures.room c.if-not-written.true) ∙ none_value second key) in
    subst (λ (z : Option ℕ). Allows c.args.write z) none c.if-not-allowed.ensures

pub settle_write-requires-clause-version : goal.settle_write-requires-clause-version
settle_write-requires-clause-version c = let a = c.args.hand.now.me.0 in let w = c.child-child.new.hand.me.0 in let y = c.write_leaf-written.new.hand.me.0 in
    let keeps = written_keeps c.args.at.node c.args.at.form c.key_byte-byte.result c.leaf_word-leaf.result c.args.write.value w y c.if-not-written.ensures.written in
    let d = looks_drafted c.args.at.node c.args.at.form c.args.version a w c.requires.at.at (width_some c.args.at.form c.requires.at.some c.requires.at.form) c.child-child.ensures.at c.requires.drafted c.child-child.ensures.looks in
    (keeps.version ∙ d.1, c.requires.version)

pub settle_write-requires-clause-may : goal.settle_write-requires-clause-may
settle_write-requires-clause-may c = let a = c.args.hand.now.me.0 in let w = c.child-child.new.hand.me.0 in let y = c.write_leaf-written.new.hand.me.0 in
    let n : ℕ = c.args.at.node in let form : ℕ = c.args.at.form in let level : ℕ = c.args.at.level in let key : ℕ = c.args.write.key in
    let some = c.requires.at.some in let low = c.requires.at.form in let deep = c.requires.at.level in let at = c.requires.at.at in
    let roomy = room_some form some low in
    let shape : IsForm form (word_at a.seen.words n) = drafted_shape n form level key c.args.version a w some low deep roomy at c.requires.drafted c.child-child.ensures.looks c.requires.covers in
    let done : HasWritten n form (byte_at key level) c.leaf_word-leaf.result c.args.write.value w y =
    subst (λ (z : ℕ). HasWritten n form z c.leaf_word-leaf.result c.args.write.value w y) c.key_byte-byte.ensures.byte c.if-not-written.ensures.written in
    let found : Found n form c.child-child.result.first c.child-child.result.second key (byte_at key level) a w =
    subst (λ (z : ℕ). Found n form c.child-child.result.first c.child-child.result.second key z a w) c.key_byte-byte.ensures.byte c.child-child.ensures.found in
    let first = held_first n form c.child-child.result.first c.child-child.result.second key (byte_at key level) a w at c.requires.drafted.0 shape found in
    let leaf : c.leaf_word-leaf.result ≡ leaf_of key = c.leaf_word-leaf.ensures.word in
    may_leaf n form level key c.args.version c.leaf_word-leaf.result c.args.write.value a w y some low deep roomy at c.child-child.ensures.at c.write_leaf-written.ensures.at c.requires.drafted c.child-child.ensures.looks c.requires.covers
    (⊎_elim (λ z. inl (first ∙ z)) (λ z. inr (first ∙ (z ∙ leaf))) c.if-not-open.ensures) done (put_leaf form c.leaf_word-leaf.result key leaf) c.requires.leaves

pub returns-clause-set : goal.returns-clause-set
returns-clause-set c = let a = c.args.hand.now.me.0 in let w = c.child-child.new.hand.me.0 in let y = c.write_leaf-written.new.hand.me.0 in
    let n : ℕ = c.args.at.node in let form : ℕ = c.args.at.form in let level : ℕ = c.args.at.level in let key : ℕ = c.args.write.key in
    let some = c.requires.at.some in let low = c.requires.at.form in let deep = c.requires.at.level in let at = c.requires.at.at in
    let first : ℕ = c.child-child.result.first in let second : ℕ = c.child-child.result.second in
    let u = c.settle_write.ensures.unlocked in
    let shape : IsForm form (word_at a.seen.words n) = drafted_shape n form level key c.args.version a w some low deep (room_some form some low) at c.requires.drafted c.child-child.ensures.looks c.requires.covers in
    let keeps = written_keeps n form c.key_byte-byte.result c.leaf_word-leaf.result c.args.write.value w y c.if-not-written.ensures.written in
    let found : Found n form first second key (byte_at key level) a w = subst (λ (z : ℕ). Found n form first second key z a w) c.key_byte-byte.ensures.byte c.child-child.ensures.found in
    let leaf : c.leaf_word-leaf.result ≡ leaf_of key = c.leaf_word-leaf.ensures.word in
    let open_there : (first ≡ 0) ⊎ (first ≡ leaf_of key) = ⊎_elim (λ z. inl z) (λ z. inr (z ∙ leaf)) c.if-not-open.ensures in
    writes_replaces n key c.args.write.value c.pair_value-found.result a w y c.settle_write.new.hand.me.0 c.child-child.ensures.looks keeps u
    (c.pair_value-found.ensures ∙ held_value n form level key first second c.args.version a w y u.b some low deep at c.requires.drafted c.child-child.ensures.looks keeps u.held u.was c.requires.covers shape found (open_ends first second key open_there))

pub returns-clause-lets_go : goal.returns-clause-lets_go
returns-clause-lets_go c = let a = c.args.hand.now.me.0 in let w = c.child-child.new.hand.me.0 in let y = c.write_leaf-written.new.hand.me.0 in
    let keeps = written_keeps c.args.at.node c.args.at.form c.key_byte-byte.result c.leaf_word-leaf.result c.args.write.value w y c.if-not-written.ensures.written in
    gone c.args.at.node a y c.settle_write.new.hand.me.0 (keeps.mine ∙ c.child-child.ensures.looks.mine) c.settle_write.ensures.unlocked.mine

pub returns-then-goes_on-clause-set : goal.returns-then-goes_on-clause-set
returns-then-goes_on-clause-set c = let a = c.args.hand.now.me.0 in let w = c.child-child.new.hand.me.0 in let x = c.release-then-not-open.new.hand.me.0 in
    later_keeps a w x (looks_keeps IsTree a w c.child-child.ensures.looks).0 (releases_keeps IsTree c.args.at.node w x c.release-then-not-open.ensures.released)

pub returns-else-goes_on-clause-set : goal.returns-else-goes_on-clause-set
returns-else-goes_on-clause-set c = let a = c.args.hand.now.me.0 in let w = c.child-child.new.hand.me.0 in let x = c.release-then-not-open.new.hand.me.0 in
    later_keeps a w x (looks_keeps IsTree a w c.child-child.ensures.looks).0 (releases_keeps IsTree c.args.at.node w x c.release-then-not-open.ensures.released)
