use Rattle.std.proofs.Common.{refl}
use Rattle.trial.specs.declared.line.Line.TheVariants.{Command}
use Rattle.trial.proofs.Feeding.{reply_stops}
use Rattle.trial.proofs.script.Script.line.Goals as goal

pub returns-in_ok-reply-in-Command-clause-err : goal.returns-in_ok-reply-in-Command-clause-err
returns-in_ok-reply-in-Command-clause-err g c =
    let i = c.in_ok-reply-in-Command in
    let old = c.args.self.now in
    reply_stops _ _ (record old { session = c.answer.new.session; output = c.put_reply.new.output }) _ _ _ _ _
    (Command c.in-Command.command, c.in-Command.ensures.line, (i.reply, i.ensures.ok, refl)) c.put_reply.ensures.err
