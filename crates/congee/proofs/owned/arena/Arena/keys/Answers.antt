use Rattle.std.proofs.Common.{rules, ◌≡◌, ◌^◌, ◌<◌, ◌+◌, [], ◌∷◌, ◌++◌, ap, ◌∙◌, arith}
use Rattle.std.specs.FinMap as map
use Rattle.congee.specs.owned.Table.{pairs_of}
use Rattle.congee.specs.owned.Ranges.{in_range, keys_by}
use Rattle.congee.proofs.lemmas.owned.Tables.{pairs_stand}
use Rattle.congee.proofs.lemmas.owned.RangeLemmas.{range_none, range_first, range_all, key_written, keys_ended, none_told}
use Rattle.congee.proofs.owned.arena.Arena.keys.Goals as goal

pub loop-key-init : goal.loop-key-init
loop-key-init g c =
    let m = pairs_of c.args.self.now.nodes in
    record {
      walk = c.beginning-walk.ensures.walk;
      from = 0;
      at = c.beginning-walk.ensures.at;
      keys = ap (λ t. t ++ keys_by g.K.Word64.of_word (in_range 0 (2 ^ 64) (map.entries m))) c.new-keys.ensures.items
          ∙ ap (keys_by g.K.Word64.of_word) (range_all m (2 ^ 64) (pairs_stand c.args.self.now.nodes).none_beyond);
    }

pub loop-key-preserved : goal.loop-key-preserved
loop-key-preserved g c =
    let m = pairs_of c.args.self.now.nodes in
    let from = c.loop-key.invariant.from in
    let small : c.in-Some.key < 2 ^ 64 = search rules in
    let found = c.in-Some.ensures.first from c.loop-key.invariant.at in
    let first = range_first m from (2 ^ 64) c.in-Some.key c.in-Some.field-0-1.now found.0 small in
    let pushed : c.push.new.self.items ≡ c.loop-key.keys.items ++ g.K.Word64.of_word c.in-Some.key ∷ [] = grind (arith, c.push.ensures.items, c.is_err.ensures.value, c.if-is_err.false, c.from_word.ensures) in
    let written = key_written g.K.Word64.of_word c.loop-key.keys.items (keys_by g.K.Word64.of_word (map.entries m)) (in_range from (2 ^ 64) (map.entries m)) c.in-Some.key c.in-Some.field-0-1.now
    (in_range (c.in-Some.key + 1) (2 ^ 64) (map.entries m)) first c.loop-key.invariant.keys in record {
      walk = c.next_along.ensures.walk;
      from = c.in-Some.key + 1;
      at = found.1;
      keys = ap (λ t. t ++ keys_by g.K.Word64.of_word (in_range (c.in-Some.key + 1) (2 ^ 64) (map.entries m))) pushed ∙ written;
    }

pub returns : goal.returns
returns g c =
    let m = pairs_of c.args.self.now.nodes in
    let from = c.loop-key.invariant.from in
    keys_ended g.K.Word64.of_word c.loop-key.keys.items (keys_by g.K.Word64.of_word (map.entries m)) (in_range from (2 ^ 64) (map.entries m))
    (range_none m from (2 ^ 64) (λ q lo hi. none_told c.next_along.result _ _ c.in_default.is (c.next_along.ensures.first from c.loop-key.invariant.at) q lo)) c.loop-key.invariant.keys
