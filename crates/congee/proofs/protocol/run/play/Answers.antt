use Rattle.std.proofs.Common.{◌≡◌, [], ◌∙◌}
use Rattle.congee.proofs.lemmas.protocol.Traces.{all_end_alone, fresh_end_alone}
use Rattle.congee.proofs.lemmas.protocol.ManyCalls.{all_or_none}
use Rattle.congee.proofs.protocol.run.play.Goals as goal

pub returns-clause-nexts : goal.returns-clause-nexts
returns-clause-nexts g c = let e : c.reserve.new.self.items ≡ [] = c.reserve.ensures.items ∙ c.new-moves.ensures.items in rw e at c.play_into-done.ensures.nexts

pub returns-clause-run : goal.returns-clause-run
returns-clause-run g c = let e : c.reserve.new.self.items ≡ [] = c.reserve.ensures.items ∙ c.new-moves.ensures.items in rw e at c.play_into-done.ensures.run

pub returns-clause-spares : goal.returns-clause-spares
returns-clause-spares g c = c.play_into-done.ensures.spares

pub returns-clause-alone : goal.returns-clause-alone
returns-clause-alone g c trace z = all_end_alone _ _ _ _ _ g.met.P.Payload.same_is_equal _ _ trace.traced z trace.each

pub returns-clause-alone_fresh : goal.returns-clause-alone_fresh
returns-clause-alone_fresh g c trace f = fresh_end_alone _ _ _ _ _ g.met.P.Payload.same_is_equal _ _ trace.traced c.requires.begins f trace.each

pub returns-clause-branch_fresh : goal.returns-clause-branch_fresh
returns-clause-branch_fresh g c = c.play_into-done.ensures.branch_fresh

pub returns-clause-filled_fresh : goal.returns-clause-filled_fresh
returns-clause-filled_fresh g c = let e : c.reserve.new.self.items ≡ [] = c.reserve.ensures.items ∙ c.new-moves.ensures.items in rw e at c.play_into-done.ensures.filled_fresh

pub returns-clause-all : goal.returns-clause-all
returns-clause-all g c =
    all_or_none c.reserve.result _ _ c.len.result _ _ _ c.play_into-done.ensures.done (c.len.ensures ∙ c.args.steps.ok.0) (c.reserve.ensures.len ∙ c.new-moves.ensures.len) c.new-moves.ensures.capacity c.reserve.ensures.ok c.reserve.ensures.err
