use Rattle.std.proofs.Common.{◌≡◌, ◌≢◌, ℕ, ◌<◌, ◌≤◌, rules, refl, ◌∙◌, subst, inl, inr, arith}
use Rattle.optimistic.specs.Layout.{byte_at}
use Rattle.optimistic.specs.tree.Reads.{Found}
use Rattle.optimistic.specs.tree.Sights.{Lacks}
use Rattle.optimistic.proofs.lemmas.drain.Keys.{reaches}
use Rattle.optimistic.proofs.lemmas.tree.Reading.{looks_trans}
use Rattle.optimistic.proofs.lemmas.tree.Setting.{place_since}
use Rattle.optimistic.proofs.lemmas.tree.Sights.{knows_item, shows_child, shows_gap}
use Rattle.optimistic.proofs.lemmas.words.Moments.{since_refl}
use Rattle.optimistic.proofs.tree.get.Tree.next_at.Goals as goal

pub gap-to-requires-clause-at : goal.gap-to-requires-clause-at
gap-to-requires-clause-at c = place_since c.args.at c.args.hand.now.me.0 c.child-child.new.hand.me.0 c.child-child.ensures.looks.since c.requires.at

pub returns-then-some-clause-knows : goal.returns-then-some-clause-knows
returns-then-some-clause-knows c =
    knows_item c.args.at.form c.child-child.result.first c.child-child.result.second c.args.from _ c.next_of_item.result c.child-child.new.hand.me.0 c.child-child.ensures.tells c.next_of_item.ensures.next

pub returns-then-some-clause-shows : goal.returns-then-some-clause-shows
returns-then-some-clause-shows c =
    let v = c.args.hand.now.me.0 in
    let w = c.child-child.new.hand.me.0 in
    let first : ℕ = c.child-child.result.first in
    let second : ℕ = c.child-child.result.second in
    let found : Found c.args.at.node c.args.at.form first second c.args.from (byte_at c.args.from c.args.at.level) v w =
    subst (λ (z : ℕ). Found c.args.at.node c.args.at.form first second c.args.from z v w) c.key_byte-byte.ensures.byte c.child-child.ensures.found in
    let some : first ≢ 0 = search rules in
    shows_child c.args.at c.args.from first second v w c.requires.at.level found record { byte = c.key_byte-byte.result; first = first; last = second } c.next_of_item.result w refl refl some (since_refl w.seen) c.next_of_item.ensures.next

pub returns-clause-looks : goal.returns-clause-looks
returns-clause-looks c = looks_trans _ _ _ c.child-child.ensures.looks c.gap-to.ensures.looks

pub returns-clause-knows : goal.returns-clause-knows
returns-clause-knows c =
    let e = c.key_byte-byte.ensures.byte in
    let b = c.byte_before-end.ensures.0 in
    let reach : byte_at c.args.from c.args.at.level ≤ c.byte_before-end.result = omega (arith, e, b) in
    reaches c.args.from c.args.at.level c.byte_before-end.result c.last_key.result c.requires.at.level c.last_key.ensures reach

pub returns-clause-shows : goal.returns-clause-shows
returns-clause-shows c =
    let v = c.args.hand.now.me.0 in
    let w = c.child-child.new.hand.me.0 in
    let x = c.gap-to.new.hand.me.0 in
    let first : ℕ = c.child-child.result.first in
    let second : ℕ = c.child-child.result.second in
    let e = c.key_byte-byte.ensures.byte in
    let b = c.byte_before-end.ensures in
    let found : Found c.args.at.node c.args.at.form first second c.args.from (byte_at c.args.from c.args.at.level) v w =
    subst (λ (z : ℕ). Found c.args.at.node c.args.at.form first second c.args.from z v w) e c.child-child.ensures.found in
    let lacks : Lacks c.args.at.node c.args.at.form (byte_at c.args.from c.args.at.level) c.gap-to.result w x = subst (λ (z : ℕ). Lacks c.args.at.node c.args.at.form z c.gap-to.result w x) e c.gap-to.ensures.lacks in
    let none : first ≡ 0 = search rules in
    let up = b.0 in
    let reach : byte_at c.args.from c.args.at.level ≤ c.byte_before-end.result = omega (arith, e, up) in
    let high = c.gap-to.ensures.bounds.1 in
    let small : c.byte_before-end.result < 256 = elim b.1 [
      | inl same ↦ omega (arith, same, e)
      | inr low ↦ omega (arith, low, high)
    ] in
    shows_gap c.args.at c.args.from first second v w c.requires.at.level found c.gap-to.result c.last_key.result c.byte_before-end.result x none c.child-child.ensures.looks c.gap-to.ensures.looks.since lacks reach small
    (elim b.1 [
      | inl same ↦ inl (same ∙ e)
      | inr low ↦ inr low
    ]) c.last_key.ensures
