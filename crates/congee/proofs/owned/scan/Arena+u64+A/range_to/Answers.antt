use Rattle.std.proofs.Common.{rules, ◌≡◌, ◌++◌, ◌∷◌, [], true, false, ◌∙◌, subst}
use Rattle.congee.specs.owned.Cursor.{IsCursor}
use Rattle.congee.proofs.lemmas.owned.Cursors.{cursor_cut, last_of, none_left, branch_at}
use Rattle.congee.proofs.lemmas.owned.Writings.{fills_on, none_above, up_from, whole, whole_count}
use Rattle.congee.proofs.owned.scan.Arena+u64+A.range_to.Goals as goal

pub write_from-written-requires-clause-stands : goal.write_from-written-requires-clause-stands
write_from-written-requires-clause-stands g c =
    let w = c.seek-walk.result in
    (last_of c.args.self.now.nodes c.requires w.above.items (branch_at w.at w.from) c.seek-walk.ensures.walk.way).stands

pub loop-written-init : goal.loop-written-init
loop-written-init g c =
    let w = c.seek-walk.result in
    record {
      way = cursor_cut c.args.self.now.nodes w.above.items (branch_at w.at w.from) c.seek-walk.ensures.walk.way;
      fills = c.write_from-written.ensures.fills;
      rest = c.write_from-written.ensures.pairs w.above.items c.args.start c.seek-walk.ensures.walk.way c.seek-walk.ensures.at;
    }

pub write_from-written-requires-in-loop-written-clause-stands : goal.write_from-written-requires-in-loop-written-clause-stands
write_from-written-requires-in-loop-written-clause-stands g c =
    let s = c.args.self.now.nodes in
    let way : IsCursor s (c.pop.new.self.items ++ branch_at c.in-Some.branch.node c.in-Some.branch.from ∷ []) = subst (IsCursor s) c.in-Some.ensures.items c.loop-written.invariant.way in
    (last_of s c.requires c.pop.new.self.items (branch_at c.in-Some.branch.node c.in-Some.branch.from) way).stands

pub write_from-written-requires-in-loop-written-clause-within : goal.write_from-written-requires-in-loop-written-clause-within
write_from-written-requires-in-loop-written-clause-within g c = c.loop-written.invariant.fills.within

pub loop-written-preserved : goal.loop-written-preserved
loop-written-preserved g c =
    let s = c.args.self.now.nodes in
    let i = c.loop-written.invariant in
    let more : c.loop-written.written.over ≡ false = search rules in
    let way : IsCursor s (c.pop.new.self.items ++ branch_at c.in-Some.branch.node c.in-Some.branch.from ∷ []) = subst (IsCursor s) c.in-Some.ensures.items i.way in
    record {
      way = cursor_cut s c.pop.new.self.items (branch_at c.in-Some.branch.node c.in-Some.branch.from) way;
      fills = fills_on 0 c.args.out.now c.loop-written.out c.write_from-written-in-loop-written.new.out c.loop-written.written c.write_from-written-in-loop-written.result i.fills c.write_from-written-in-loop-written.ensures.fills;
      rest = up_from s g.E.Listed.entry c.args.last c.requires c.loop-written.walk.above.items c.pop.new.self.items c.in-Some.branch.node c.in-Some.branch.from
          c.loop-written.out c.write_from-written-in-loop-written.new.out _ c.loop-written.written c.write_from-written-in-loop-written.result c.in-Some.ensures.items i.way more i.rest c.write_from-written-in-loop-written.ensures.pairs;
    }

pub returns-in_default-clause-pairs : goal.returns-in_default-clause-pairs
returns-in_default-clause-pairs g c =
    let i = c.loop-written.invariant in
    let more : c.loop-written.written.over ≡ false = search rules in
    let empty : c.loop-written.walk.above.items ≡ [] = none_left c.loop-written.walk.above.items c.pop.new.self.items c.pop.result c.in_default.is c.pop.ensures.variant in
    none_above c.args.self.now.nodes g.E.Listed.entry c.args.last c.requires c.loop-written.walk.above.items c.loop-written.out _ c.loop-written.written empty more i.rest
    ∙ whole c.args.self.now.nodes g.E.Listed.entry c.args.last c.args.out.now c.args.start

pub returns-in_default-clause-count : goal.returns-in_default-clause-count
returns-in_default-clause-count g c =
    let i = c.loop-written.invariant in
    let more : c.loop-written.written.over ≡ false = search rules in
    let empty : c.loop-written.walk.above.items ≡ [] = none_left c.loop-written.walk.above.items c.pop.new.self.items c.pop.result c.in_default.is c.pop.ensures.variant in
    whole_count c.args.self.now.nodes g.E.Listed.entry c.args.last c.args.out.now c.loop-written.out c.args.start c.loop-written.written.count i.fills.within
    (none_above c.args.self.now.nodes g.E.Listed.entry c.args.last c.requires c.loop-written.walk.above.items c.loop-written.out _ c.loop-written.written empty more i.rest)

pub returns-in_default-clause-past : goal.returns-in_default-clause-past
returns-in_default-clause-past g c = c.loop-written.invariant.fills.past

pub returns-clause-pairs : goal.returns-clause-pairs
returns-clause-pairs g c =
    let over : c.loop-written.written.over ≡ true = search rules in
    c.loop-written.invariant.rest.over over ∙ whole c.args.self.now.nodes g.E.Listed.entry c.args.last c.args.out.now c.args.start

pub returns-clause-count : goal.returns-clause-count
returns-clause-count g c =
    let i = c.loop-written.invariant in
    let over : c.loop-written.written.over ≡ true = search rules in
    whole_count c.args.self.now.nodes g.E.Listed.entry c.args.last c.args.out.now c.loop-written.out c.args.start c.loop-written.written.count i.fills.within (i.rest.over over)

pub returns-clause-past : goal.returns-clause-past
returns-clause-past g c = c.loop-written.invariant.fills.past
