use Rattle.std.proofs.Common.{◌≡◌, ℕ, ◌+◌, ◌-◌, ◌*◌, ◌^◌, ◌<◌, ◌≤◌, inl, inr, arith}
use Rattle.optimistic.specs.Layout.{byte_at, prefix_of}
use Rattle.optimistic.specs.tree.Nexts.{IsNear}
use Rattle.optimistic.proofs.lemmas.drain.Keys.{precedes, near_back}
use Rattle.optimistic.proofs.lemmas.tree.RunsBack.{back_lone_gives, back_lone_silent}
use Rattle.optimistic.proofs.tree.run_back.back_lone.Goals as goal

-- the first key with the byte isn't behind the key, and those from it on are near
before : (from level byte first : ℕ) → level < 8 → byte ≡ byte_at from level → first ≡ (prefix_of from level * 256 + byte) * 2 ^ (56 - 8 * level) → first ≤ from
before from level byte first l is start = precedes from level byte first l (omega (arith, is)) start (omega (arith, is))

near : (from level byte first : ℕ) → level < 8 → byte ≡ byte_at from level → first ≡ (prefix_of from level * 256 + byte) * 2 ^ (56 - 8 * level) → (k : ℕ) → first ≤ k → k ≤ from → IsNear (level + 1) from k
near from level byte first l is start = near_back from level byte first l (omega (arith, is)) start is

pub returns-then-key-from-clause-bit : goal.returns-then-key-from-clause-bit
returns-then-key-from-clause-bit c form log few makes =
    back_lone_silent form c.args.level c.args.child.first c.args.child.second c.args.from c.leaf_key-key.result c.first_key-first.result log few c.requires.level c.requires.leaf
    (near c.args.from c.args.level c.args.byte c.first_key-first.result c.requires.level c.requires.byte c.first_key-first.ensures) c.leaf_key-key.ensures.leaf c.leaf_key-key.ensures.first makes
    (inr c.if-key-from.true) (before c.args.from c.args.level c.args.byte c.first_key-first.result c.requires.level c.requires.byte c.first_key-first.ensures)

pub returns-then-key-from-clause-knows : goal.returns-then-key-from-clause-knows
returns-then-key-from-clause-knows c w = before c.args.from c.args.level c.args.byte c.first_key-first.result c.requires.level c.requires.byte c.first_key-first.ensures

pub returns-then-key-first-clause-bit : goal.returns-then-key-first-clause-bit
returns-then-key-first-clause-bit c form log few makes =
    back_lone_silent form c.args.level c.args.child.first c.args.child.second c.args.from c.leaf_key-key.result c.first_key-first.result log few c.requires.level c.requires.leaf
    (near c.args.from c.args.level c.args.byte c.first_key-first.result c.requires.level c.requires.byte c.first_key-first.ensures) c.leaf_key-key.ensures.leaf c.leaf_key-key.ensures.first makes
    (inl c.if-key-first.true) (before c.args.from c.args.level c.args.byte c.first_key-first.result c.requires.level c.requires.byte c.first_key-first.ensures)

pub returns-then-key-first-clause-knows : goal.returns-then-key-first-clause-knows
returns-then-key-first-clause-knows c w = before c.args.from c.args.level c.args.byte c.first_key-first.result c.requires.level c.requires.byte c.first_key-first.ensures

pub returns-clause-bit : goal.returns-clause-bit
returns-clause-bit c form log few makes =
    back_lone_gives form c.args.level c.args.child.first c.args.child.second c.args.from c.leaf_key-key.result c.first_key-first.result log few c.requires.level c.requires.leaf
    (near c.args.from c.args.level c.args.byte c.first_key-first.result c.requires.level c.requires.byte c.first_key-first.ensures) c.leaf_key-key.ensures.leaf c.leaf_key-key.ensures.first makes
    c.if-key-first.false c.if-key-from.false

pub returns-clause-knows : goal.returns-clause-knows
returns-clause-knows c w = before c.args.from c.args.level c.args.byte c.first_key-first.result c.requires.level c.requires.byte c.first_key-first.ensures
