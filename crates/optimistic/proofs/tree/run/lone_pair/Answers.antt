use Rattle.std.proofs.Common.{◌≤◌, refl, inl, inr, arith}
use Rattle.optimistic.proofs.lemmas.drain.Keys.{reaches}
use Rattle.optimistic.proofs.lemmas.tree.Runs.{lone_gives, lone_silent}
use Rattle.optimistic.proofs.tree.run.lone_pair.Goals as goal

pub returns-then-key-from : goal.returns-then-key-from
returns-then-key-from c form log low makes =
    let is = c.requires.byte in
    let reach : c.args.from ≤ c.args.end = reaches c.args.from c.args.level c.args.byte c.args.end c.requires.level c.requires.end (omega (arith, is)) in
    lone_silent form c.args.level c.args.child.first c.args.child.second c.args.from c.leaf_key-key.result c.args.end c.args.byte log low c.requires.level is c.requires.leaf c.requires.end c.leaf_key-key.ensures.leaf c.leaf_key-key.ensures.first makes
    (inl c.if-key-from.true) reach

pub returns-then-key-end : goal.returns-then-key-end
returns-then-key-end c form log low makes =
    let is = c.requires.byte in
    let reach : c.args.from ≤ c.args.end = reaches c.args.from c.args.level c.args.byte c.args.end c.requires.level c.requires.end (omega (arith, is)) in
    lone_silent form c.args.level c.args.child.first c.args.child.second c.args.from c.leaf_key-key.result c.args.end c.args.byte log low c.requires.level is c.requires.leaf c.requires.end c.leaf_key-key.ensures.leaf c.leaf_key-key.ensures.first makes
    (inr c.if-key-end.true) reach

pub returns : goal.returns
returns c form log low makes =
    lone_gives form c.args.level c.args.child.first c.args.child.second c.args.from c.leaf_key-key.result c.args.end c.args.byte log low c.requires.level c.requires.byte c.requires.leaf c.requires.end c.leaf_key-key.ensures.leaf c.leaf_key-key.ensures.first makes
    c.args.child.second refl c.if-key-from.false c.if-key-end.false
