use Rattle.std.proofs.Common.{◌++◌, List, append_assoc, codes, rules, subst, sym}
use Rattle.std.proofs.lemmas.List.{take_all}
use Rattle.std.proofs.lemmas.Grind.{put_two}
use Rattle.std.specs.Fmt.{HasWritten}
use Rattle.std.specs.List.{flat_map}
use Rattle.trial.specs.Lockfree.{counts_text, tallies_text, tally_text}
use Rattle.trial.proofs.lockfree.tallies.TalliesDisplay.fmt.Goals as goal

pub returns-clause-writes : goal.returns-clause-writes
returns-clause-writes g c = λ plain ok.
    let items = c.args.self.now.each.items in
    let took = g.W.Write.write_str_gives in
    let whole = take_all c.loop-tally.tally-index items (search rules) in
    let before = subst (λ (ts : List _). HasWritten took c.args.f.now (flat_map tally_text ts) c.loop-tally.f) whole (c.loop-tally.invariant plain) in
    let last = codes "all " ++ counts_text c.args.self.now.all in
    let after : HasWritten took c.loop-tally.f last c.write-2.new.self = search (rules, before) in
    put_two took c.args.f.now c.loop-tally.f c.write-2.new.self (flat_map tally_text items) last (tallies_text c.args.self.now) before after (sym (append_assoc (flat_map tally_text items) (codes "all ") (counts_text c.args.self.now.all)))
