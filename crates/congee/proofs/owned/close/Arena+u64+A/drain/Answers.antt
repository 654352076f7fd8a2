use Rattle.std.proofs.Common.{rules, ◌^◌, ◌<◌, ◌+◌, subst}
use Rattle.std.specs.FinMap as map
use Rattle.congee.specs.owned.Drained.{Drained}
use Rattle.congee.specs.owned.Ranges.{in_range}
use Rattle.congee.specs.owned.Table.{pairs_of}
use Rattle.congee.proofs.lemmas.owned.Tables.{pairs_stand}
use Rattle.congee.proofs.lemmas.owned.RangeLemmas.{range_none, range_first, range_all, none_told}
use Rattle.congee.proofs.lemmas.owned.Drains.{first_drained, none_drained}
use Rattle.congee.proofs.owned.close.Arena+u64+A.drain.Goals as goal

pub loop-key-init : goal.loop-key-init
loop-key-init g c =
    let m = pairs_of c.args.self.now.nodes in
    let all = range_all m (2 ^ 64) (pairs_stand c.args.self.now.nodes).none_beyond in
    record {
      walk = c.beginning-walk.ensures.walk;
      ready = c.requires.ready;
      from = 0;
      at = c.beginning-walk.ensures.at;
      drained = λ last d. subst (λ es. Drained g.D.Drainer.drains g.K.Word64.of_word g.V.Word64.of_word c.args.drainer es last) all d;
    }

pub loop-key-preserved : goal.loop-key-preserved
loop-key-preserved g c =
    let m = pairs_of c.args.self.now.nodes in
    let from = c.loop-key.invariant.from in
    let small : c.in-Some.key < 2 ^ 64 = search rules in
    let found = c.in-Some.ensures.first from c.loop-key.invariant.at in
    let first = range_first m from (2 ^ 64) c.in-Some.key c.in-Some.value.now found.0 small in record {
      walk = c.next_along.ensures.walk;
      ready = c.drain.ensures.again;
      from = c.in-Some.key + 1;
      at = found.1;
      drained = λ last d. c.loop-key.invariant.drained last (first_drained g.D.Drainer.drains g.K.Word64.of_word g.V.Word64.of_word
          (in_range from (2 ^ 64) (map.entries m)) (in_range (c.in-Some.key + 1) (2 ^ 64) (map.entries m)) c.in-Some.key c.in-Some.value.now
          c.loop-key.drainer c.drain.new.self last c.from_word.result c.from_word-in-Some.result first c.from_word.ensures c.from_word-in-Some.ensures c.drain.ensures.drained d);
    }

pub returns : goal.returns
returns g c =
    let m = pairs_of c.args.self.now.nodes in
    let from = c.loop-key.invariant.from in
    c.loop-key.invariant.drained c.loop-key.drainer (none_drained g.D.Drainer.drains g.K.Word64.of_word g.V.Word64.of_word _ c.loop-key.drainer
    (range_none m from (2 ^ 64) (λ q lo hi. none_told c.next_along.result _ _ c.in_default.is (c.next_along.ensures.first from c.loop-key.invariant.at) q lo)))
