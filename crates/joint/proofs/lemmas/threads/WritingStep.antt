-- One hold of the lock of an index with a journal: its turn of the call, and what the ledger counts of it.
use Rattle.std.proofs.Common.{◌≡◌, ℕ, ◌+◌, arith, Bool, true, false, not, refl, sym, ◌∙◌, ap, inl}
use Rattle.std.specs.Prelude.{Option, None, Some, nat_eq, slice_get}
use Rattle.std.proofs.lemmas.Bool.{false≢true}
use Rattle.judge.specs.declared.journal.Entry.{Entry}
use Rattle.joint.specs.declared.steps.Event.{Event}
use Rattle.joint.specs.declared.steps.Op.{Op}
use Rattle.joint.specs.declared.steps.Outcome.{Outcome}
use Rattle.joint.specs.declared.steps.Outcome.TheVariants.{Running, Asks, Found, Registered, Done, Refused}
use Rattle.joint.specs.declared.steps.Report.{Report}
use Rattle.joint.specs.declared.steps.Step.{Step}
use Rattle.joint.specs.Changes.{changes}
use Rattle.joint.specs.threads.Driving.{IsToldInCall}
use Rattle.joint.specs.engine.Journaling.{has_place}
use Rattle.joint.specs.threads.Journals.{count_watched}
use Rattle.joint.specs.world.MapSteps.{looks_up}
use Rattle.joint.specs.world.World.{IsStep}
use Rattle.joint.specs.engine.Engine.{World}
use Rattle.joint.specs.threads.Writing.{Appended, Appends, MayStep, Progress, WontRepeat, WritingTurn, given_after, noted, told_with, weight}
use Rattle.joint.proofs.lemmas.threads.Appending.{entry_changes}
use Rattle.joint.proofs.lemmas.threads.Watching.{look_up_watched, none_watched, write_watched}

-- what is told in a call is told in it beside an entry too
pub told_tells : (e : Option (Entry ℕ)) (o : Outcome ℕ) → IsToldInCall o → IsToldInCall (told_with e o)
told_tells None Running t = tt {0}
told_tells None (Asks found) t = tt {0}
told_tells None (Refused refusal) t = t
told_tells None (Found place key value) t = tt {0}
told_tells None (Registered n) t = tt {0}
told_tells None (Done d) t = tt {0}
told_tells (Some e) Running t = tt {0}
told_tells (Some e) (Asks found) t = tt {0}
told_tells (Some e) (Refused refusal) t = tt {0}
told_tells (Some e) (Found place key value) t = tt {0}
told_tells (Some e) (Registered n) t = tt {0}
told_tells (Some e) (Done d) t = tt {0}

module _ (s s' : World ℕ) (who : ℕ) (op : Op ℕ) (given : Option (Option ℕ)) (event : Event ℕ) where
  looks : (entry : Option (Entry ℕ)) → Appended s s' who op given event entry → (e : Entry ℕ) → entry ≡ Some e → looks_up e.call ≡ not (changes op)
  looks entry x e q = entry_changes op (given_after op given event) e.reply e.call (x.of e q).call

  -- a call that doesn't write leaves what the ledger counts
  pub read_count : (watched : Entry ℕ → Bool) (entry : Option (Entry ℕ)) → changes op ≡ false → Appended s s' who op given event entry → count_watched watched s'.log.entries ≡ count_watched watched s.log.entries
  read_count watched entry c x = look_up_watched watched s.log.entries s'.log.entries entry x.entries (λ e q. looks entry x e q ∙ ap not c)

  -- a writing one adds its entry, where that is watched
  pub write_count : (watched : Entry ℕ → Bool) (entry : Option (Entry ℕ)) → changes op ≡ true → Appended s s' who op given event entry → count_watched watched s'.log.entries ≡ count_watched watched s.log.entries + weight watched entry
  write_count watched None c x = let same = none_watched watched s.log.entries s'.log.entries None x.entries refl in omega (arith, same)
  write_count watched (Some e) c x = write_watched watched s.log.entries s'.log.entries e x.entries (looks (Some e) x e refl ∙ ap not c)

  -- and has none yet
  first_entry : (entry old : Option (Entry ℕ)) (e : Entry ℕ) → entry ≡ Some e → changes op ≡ true → Appended s s' who op given event entry → ((n : Entry ℕ) → old ≡ Some n → has_place (slice_get s.calls who) (slice_get s.machines who) ≡ false) → old ≡ None
  first_entry entry None e q c x once = refl
  first_entry entry (Some n) e q c x once = absurd (false≢true (sym (once n refl) ∙ x.had e q ∙ ap not (looks entry x e q ∙ ap not c)))

  appends : (watched : Entry ℕ → Bool) (p p' : Progress) (entry : Option (Entry ℕ)) → p.given ≡ given → changes op ≡ true → Appended s s' who op given event entry → WontRepeat s who p.entry → p' ≡ noted watched (record p { given = given_after op given event }) entry
      → Appends watched who op (given_after op given event) p entry p'
  appends watched p p' None g c x once q = q
  appends watched p p' (Some e) g c x once q = (first_entry (Some e) p.entry e refl c x once, x.of e refl, q)

-- a hold is a turn of the writing call
pub hold_turn : (s s' : World ℕ) (op : Op ℕ) (watched : Entry ℕ → Bool) (p p' : Progress) (step : Step ℕ) (told r : Report ℕ) (entry : Option (Entry ℕ)) → changes op ≡ true → MayStep s step.worker op p.given step.event → IsStep nat_eq true s step told s' → Appended s s' step.worker op p.given step.event entry → WontRepeat s step.worker p.entry
    → p' ≡ noted watched (record p { given = given_after op p.given step.event }) entry → r ≡ record told { outcome = told_with p'.entry told.outcome } → WritingTurn watched step.worker op p s step r p' s'
hold_turn s s' op watched p p' step told r entry c own takes x once q tells = inl (record {
  own = own;
  told = told;
  takes = takes;
  appended = entry;
  entries = x.entries;
  appends = appends s s' step.worker op p.given step.event watched p p' entry refl c x once q;
  tells = tells;
})
