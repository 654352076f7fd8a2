-- What a whole call on one key answers that no closure's answer came to.
use Rattle.std.proofs.Common.{◌≡◌, ℕ, Bool, refl, sym, ◌∙◌, ap, subst}
use Rattle.std.specs.Prelude.{Option, None, Some}
use Rattle.judge.specs.declared.journal.Call.{Call as Entered}
use Rattle.judge.specs.declared.journal.Reply.{Reply}
use Rattle.judge.specs.Answer.{Pairs, answer}
use Rattle.congee.specs.declared.protocol.op.Op.{Op as Point}
use Rattle.congee.specs.declared.protocol.op.Op.TheVariants as point
use Rattle.congee.specs.Keys.{IsMapOf}
use Rattle.joint.specs.declared.steps.Done.{Done as Answer}
use Rattle.joint.specs.declared.steps.Done.TheVariants as done
use Rattle.joint.specs.declared.steps.Op.{Op}
use Rattle.joint.specs.declared.steps.Op.TheVariants as op
use Rattle.joint.specs.declared.steps.Outcome.{Outcome}
use Rattle.joint.specs.declared.steps.Outcome.TheVariants.{Running, Asks, Found, Registered, Done, Refused}
use Rattle.joint.specs.declared.steps.Report.{Report}
use Rattle.joint.specs.nodes.Nodes.{nodes}
use Rattle.joint.specs.calls.MapCalls.{CallPlays, IsDoneWith, IsOnMap, KeepsAll, PlaysKey, asked_of, reply_of}
use Rattle.joint.specs.Reports.{reply_in}
use Rattle.joint.specs.engine.Flying.{Flights}
use Rattle.joint.specs.engine.Engine.{World}
use Rattle.joint.proofs.lemmas.nodes.NodesInvariant.{some_injective}

module _ {V : Type 0} (same : V → V → Bool) (fs : Flights V) (m : Pairs V) (s : World V) (r : Reply V) where
  -- the map answers this call so, and its pairs stand
  abbrev Plays : Entered V → Type 0
  Plays c = (r ≡ (answer same m c).0) × KeepsAll fs (answer same m c).1 s

  done_plays : (p : Point V) (c : Entered V) (d : Answer V) → ((x : Entered V) → IsOnMap m None p x → x ≡ c) → reply_in (Done d) ≡ Some r → IsDoneWith same fs m None p d s → Plays c
  done_plays p c (done.Reply q) only e x =
      let is = only x.0.call x.0.on_map in
      let told : q ≡ r = some_injective q r e in (
        sym told ∙ sym x.0.answers ∙ ap (λ y. (answer same m y).0) is,
        (subst (λ y. IsMapOf (nodes s.forest) (answer same m y).1) is x.0.stand, x.1),
      )
  done_plays p c done.Unit only e x = absurd x
  done_plays p c (done.Scanned n) only e x = absurd x
  done_plays p c (done.Keys keys) only e x = absurd x
  done_plays p c (done.Empty b) only e x = absurd x
  done_plays p c (done.Stats stats) only e x = absurd x

  key_plays : (who : ℕ) (p : Point V) (c : Entered V) (o : Outcome V) → ((x : Entered V) → IsOnMap m None p x → x ≡ c) → reply_in o ≡ Some r → PlaysKey same fs m who None p o s → Plays c
  key_plays who p c (Done d) only e x = done_plays p c d only e x
  key_plays who p c Running only e x = absurd (cc e)
  key_plays who p c (Asks found) only e x = absurd (cc e)
  key_plays who p c (Found place key value) only e x = absurd (cc e)
  key_plays who p c (Registered n) only e x = absurd (cc e)
  key_plays who p c (Refused refusal) only e x = absurd (cc e)

  told_plays : (who : ℕ) (o : Op V) (c e : Entered V) (told : Option (Report V)) → asked_of o ≡ Some e → e ≡ c → reply_of told ≡ Some r → CallPlays same fs m who o told s → Plays c
  told_plays who o c e None a q x p = absurd (cc x)
  told_plays who (op.Get k) c e (Some t) a q x p = key_plays who (point.Get k) c t.outcome (λ y on. on ∙ some_injective _ _ a ∙ q) x p
  told_plays who (op.Insert k v) c e (Some t) a q x p = key_plays who (point.Insert k v) c t.outcome (λ y on. on ∙ some_injective _ _ a ∙ q) x p
  told_plays who (op.Remove k) c e (Some t) a q x p = key_plays who (point.Remove k) c t.outcome (λ y on. on ∙ some_injective _ _ a ∙ q) x p
  told_plays who (op.Exchange k old new) c e (Some t) a q x p = key_plays who (point.Exchange k old new) c t.outcome (λ y on. on ∙ some_injective _ _ a ∙ q) x p
  told_plays who (op.ComputePresent k) c e (Some t) a q x p = absurd (cc a)
  told_plays who (op.ComputeInsert k) c e (Some t) a q x p = absurd (cc a)
  told_plays who (op.Range start end size) c e (Some t) a q x p = absurd (cc a)
  told_plays who (op.RangeInclusive start last size) c e (Some t) a q x p = absurd (cc a)
  told_plays who op.Pin c e (Some t) a q x p = absurd (cc a)
  told_plays who op.Unpin c e (Some t) a q x p = absurd (cc a)
  told_plays who op.Repin c e (Some t) a q x p = absurd (cc a)
  told_plays who op.Flush c e (Some t) a q x p = absurd (cc a)
  told_plays who op.Release c e (Some t) a q x p = absurd (cc a)
  told_plays who op.Keys c e (Some t) a q x p = absurd (cc a)
  told_plays who op.IsEmpty c e (Some t) a q x p = absurd (cc a)
  told_plays who op.Stats c e (Some t) a q x p = absurd (cc a)

  -- the reply of a whole call that asks no closure is the map's, and the next map's pairs stand
  pub answers : (who : ℕ) (o : Op V) (c : Entered V) (told : Option (Report V)) → asked_of o ≡ Some c → reply_of told ≡ Some r → CallPlays same fs m who o told s → Plays c
  answers who o c told a x p = told_plays who o c c told a refl x p
