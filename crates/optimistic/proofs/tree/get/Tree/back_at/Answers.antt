use Rattle.std.proofs.Common.{◌≡◌, ◌≢◌, ℕ, ◌+◌, ◌-◌, ◌*◌, ◌^◌, ◌<◌, ◌≤◌, rules, refl, ap, ◌∙◌, subst, inl, inr, arith}
use Rattle.optimistic.specs.Layout.{prefix_of, byte_at}
use Rattle.optimistic.specs.tree.Reads.{Found}
use Rattle.optimistic.specs.tree.Sights.{Lacks}
use Rattle.optimistic.proofs.lemmas.drain.Keys.{reaches, precedes, near_less, starts}
use Rattle.optimistic.proofs.lemmas.tree.Backs.{shows_back_child, shows_back_gap}
use Rattle.optimistic.proofs.lemmas.tree.Reading.{looks_trans}
use Rattle.optimistic.proofs.lemmas.tree.Setting.{place_since}
use Rattle.optimistic.proofs.lemmas.tree.Sights.{knows_item}
use Rattle.optimistic.proofs.lemmas.words.Moments.{since_refl}
use Rattle.optimistic.proofs.tree.get.Tree.back_at.Goals as goal

pub back_gap-end-requires-clause-at : goal.back_gap-end-requires-clause-at
back_gap-end-requires-clause-at c = place_since c.args.at c.args.hand.now.me.0 c.child-child.new.hand.me.0 c.child-child.ensures.looks.since c.requires.at

pub returns-then-some-clause-knows : goal.returns-then-some-clause-knows
returns-then-some-clause-knows c =
    knows_item c.args.at.form c.child-child.result.first c.child-child.result.second c.back_of_item.result.from _ c.back_of_item.result.next c.child-child.new.hand.me.0 c.child-child.ensures.tells c.back_of_item.ensures.next

pub returns-then-some-clause-shows : goal.returns-then-some-clause-shows
returns-then-some-clause-shows c =
    let v = c.args.hand.now.me.0 in
    let w = c.child-child.new.hand.me.0 in
    let to : ℕ = c.args.to in
    let first : ℕ = c.child-child.result.first in
    let second : ℕ = c.child-child.result.second in
    let found : Found c.args.at.node c.args.at.form first second to (byte_at to c.args.at.level) v w =
    subst (λ (z : ℕ). Found c.args.at.node c.args.at.form first second to z v w) c.key_byte-byte.ensures.byte c.child-child.ensures.found in
    let some : first ≢ 0 = search rules in
    let e = c.back_of_item.ensures in
    shows_back_child c.args.at to c.back_of_item.result.from first second v w c.requires.at.level found record { byte = c.key_byte-byte.result; first = first; last = second } c.back_of_item.result.next w refl refl some (since_refl w.seen) e.near e.next

pub returns-clause-looks : goal.returns-clause-looks
returns-clause-looks c = looks_trans _ _ _ c.child-child.ensures.looks c.back_gap-end.ensures.looks

-- the first of the keys that are told isn't behind the key, and the last not before it
before : (to level byte least from : ℕ) → level < 8 → byte ≡ byte_at to level → least ≤ byte → from ≡ (prefix_of to level * 256 + least) * 2 ^ (56 - 8 * level) → from ≤ to
before to level byte least from l is low start = precedes to level least from l (omega (arith, is, low)) start (omega (arith, is, low))

after : (to level byte last : ℕ) → level < 8 → byte ≡ byte_at to level → last + 1 ≡ (prefix_of to level * 256 + byte + 1) * 2 ^ (56 - 8 * level) → to ≤ last
after to level byte last l is stop = reaches to level byte last l stop (omega (arith, is))

pub returns-clause-back : goal.returns-clause-back
returns-clause-back c = (
  before c.args.to c.args.at.level c.key_byte-byte.result c.byte_behind-least.result c.first_key-from.result c.requires.at.level c.key_byte-byte.ensures.byte c.byte_behind-least.ensures.0 c.first_key-from.ensures,
  after c.args.to c.args.at.level c.key_byte-byte.result c.last_key-last.result c.requires.at.level c.key_byte-byte.ensures.byte c.last_key-last.ensures,
)

pub returns-clause-knows : goal.returns-clause-knows
returns-clause-knows c =
    let a = before c.args.to c.args.at.level c.key_byte-byte.result c.byte_behind-least.result c.first_key-from.result c.requires.at.level c.key_byte-byte.ensures.byte c.byte_behind-least.ensures.0 c.first_key-from.ensures in
    let b = after c.args.to c.args.at.level c.key_byte-byte.result c.last_key-last.result c.requires.at.level c.key_byte-byte.ensures.byte c.last_key-last.ensures in
    omega (arith, a, b)

pub returns-clause-shows : goal.returns-clause-shows
returns-clause-shows c =
    let v = c.args.hand.now.me.0 in
    let w = c.child-child.new.hand.me.0 in
    let x = c.back_gap-end.new.hand.me.0 in
    let to : ℕ = c.args.to in
    let at = c.args.at in
    let first : ℕ = c.child-child.result.first in
    let second : ℕ = c.child-child.result.second in
    let e = c.key_byte-byte.ensures.byte in
    let b = c.byte_behind-least.ensures in
    let found : Found at.node at.form first second to (byte_at to at.level) v w = subst (λ (z : ℕ). Found at.node at.form first second to z v w) e c.child-child.ensures.found in
    let lacks : Lacks at.node at.form c.back_gap-end.result (byte_at to at.level + 1) w x = subst (λ (z : ℕ). Lacks at.node at.form c.back_gap-end.result (z + 1) w x) e c.back_gap-end.ensures.lacks in
    let none : first ≡ 0 = search rules in
    let low = b.0 in
    let stop : c.last_key-last.result + 1 ≡ (prefix_of to at.level * 256 + byte_at to at.level + 1) * 2 ^ (56 - 8 * at.level) = c.last_key-last.ensures ∙ ap (λ (z : ℕ). (prefix_of to at.level * 256 + z + 1) * 2 ^ (56 - 8 * at.level)) e in
    shows_back_gap at to c.first_key-from.result first second v w c.requires.at.level found c.back_gap-end.result c.byte_behind-least.result c.last_key-last.result x none c.child-child.ensures.looks c.back_gap-end.ensures.looks.since lacks (omega (arith, low, e))
    (elim b.1 [
      | inl same ↦ inl (same ∙ e)
      | inr far ↦ inr far
    ]) c.first_key-from.ensures stop

pub returns-then-some-clause-near : goal.returns-then-some-clause-near
returns-then-some-clause-near c = (near_less c.args.at.level c.args.to c.back_of_item.result.from c.requires.at.level c.back_of_item.ensures.near).0

pub returns-clause-near : goal.returns-clause-near
returns-clause-near c =
    let low = c.byte_behind-least.ensures.0 in
    let e = c.key_byte-byte.ensures.byte in
    (starts c.args.to c.args.at.level c.byte_behind-least.result c.first_key-from.result c.requires.at.level (omega (arith, low, e)) c.first_key-from.ensures).0
