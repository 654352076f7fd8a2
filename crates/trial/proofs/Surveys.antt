-- A call of one step on the tree, beside the map.
use Rattle.std.proofs.Common.{◌≡◌, ℕ, nat_eq, Bool, true, false, List, [], ◌∷◌, Option, None, Some, IsSome, cond, refl, sym, ◌∙◌, ap, subst}
use Rattle.std.specs.Ordering.{nat_cmp, is_eq}
use Rattle.std.specs.Cmp.{tied_itself}
use Rattle.std.specs.FinMap.{entries, find, get-entries}
use Rattle.std.proofs.lemmas.Cmp.{nat_cmp_total}
use Rattle.judge.specs.Answer.{Pairs}
use Rattle.joint.specs.declared.steps.Done.TheVariants as done
use Rattle.joint.specs.declared.steps.Op.{Op}
use Rattle.joint.specs.declared.steps.Outcome.{Outcome}
use Rattle.joint.specs.declared.steps.Outcome.TheVariants as outcome
use Rattle.joint.specs.declared.steps.Survey.{Survey}
use Rattle.joint.specs.declared.steps.Survey.TheVariants as survey
use Rattle.joint.specs.declared.steps.Target.{Target}
use Rattle.joint.specs.declared.steps.Target.TheVariants as target
use Rattle.joint.specs.calls.MapCalls.{KeepsAll, PlaysCall}
use Rattle.joint.specs.Reports.{target}
use Rattle.joint.specs.nodes.Survey.{IsEmptiness, keys_of}
use Rattle.joint.specs.engine.Surveys.{MapTells}
use Rattle.trial.specs.declared.caller.Closure.{Closure}
use Rattle.trial.specs.declared.open_tree.OpenTree.{OpenTree}
use Rattle.trial.specs.declared.reply.Reply.TheVariants as reply
use Rattle.trial.specs.Calling.{Calls}
use Rattle.trial.specs.MapReplies.{IsAnswer, is_nil}
use Rattle.trial.specs.Replies.{reply_of}
use Rattle.trial.proofs.MapSteps.{MapLaws, Rests, rests_after}
use Rattle.trial.proofs.WholeCalls.{called, last_of, plays_call}

-- what it tells, and the tree as it was
pub record Surveyed (m : Pairs ℕ) (k : Survey) (s' : OpenTree) (told : Outcome ℕ) : Type 0 where
  pub rests : Rests s'.world m
  pub tells : MapTells m k told

-- a line's whole survey leaves the pairs, and tells of them
pub survey_finishes : MapLaws → (w : ℕ) (o : Op ℕ) (k : Survey) (f : Option Closure) (m : Pairs ℕ) (s s' : OpenTree) (told : Outcome ℕ) → target o ≡ target.Survey k → Rests s.world m → Calls s w o f told s'
    → Surveyed m k s' told
survey_finishes laws w o k f m s s' told is b g =
    let c = called w o f s s' told g in
    let P : Target ℕ → Type 0 = λ t. PlaysCall nat_eq b.flights m w (last_of w o f s s' told c) t told s'.world in
    let y : MapTells m k told × KeepsAll b.flights m s'.world = subst P is (plays_call w o f s s' told c laws m b) in
    record { rests = rests_after m s.world s'.world b c.holds y.1; tells = y.0 }

-- the replies
pub keys_reply : (m : Pairs ℕ) (told : Outcome ℕ) (ps : List (ℕ × ℕ)) → MapTells m survey.Keys told → IsAnswer (reply_of ps told) → reply_of ps told ≡ reply.Keys (keys_of m)
keys_reply m (outcome.Refused e) ps t a = absurd a
keys_reply m (outcome.Done (done.Keys keys)) ps t a = ap reply.Keys t
keys_reply m _ ps t a = absurd t

found_first : (k v : ℕ) (es : List (ℕ × ℕ)) → find nat_cmp k ((k, v) ∷ es) ≡ Some v
found_first k v es = ap (λ o. cond (is_eq o) (Some v) (find nat_cmp k es)) (tied_itself nat_cmp_total k)

none_in : (es : List (ℕ × ℕ)) → ((k : ℕ) → find nat_cmp k es ≡ None) → is_nil es ≡ true
none_in [] none = refl
none_in ((k, v) ∷ es) none = absurd (let e : Some v ≡ None = sym (found_first k v es) ∙ none k in cc e)

some_in : (es : List (ℕ × ℕ)) (k : ℕ) → IsSome (find nat_cmp k es) → is_nil es ≡ false
some_in [] k s = absurd (cc s)
some_in (e ∷ es) k s = refl

is_nil_of : (m : Pairs ℕ) (b : Bool) → IsEmptiness m b → is_nil (entries m) ≡ b
is_nil_of m true e = none_in (entries m) (λ k. sym (get-entries m k) ∙ e k)
is_nil_of m false e = some_in (entries m) e.0 (subst IsSome (get-entries m e.0) e.1)

-- where it is asked whether the tree is empty, the reply says whether the map is
pub empty_reply : (m : Pairs ℕ) (told : Outcome ℕ) (ps : List (ℕ × ℕ)) → MapTells m survey.IsEmpty told → IsAnswer (reply_of ps told) → reply_of ps told ≡ reply.Empty (is_nil (entries m))
empty_reply m (outcome.Refused e) ps t a = absurd a
empty_reply m (outcome.Done (done.Empty b)) ps t a = ap reply.Empty (sym (is_nil_of m b t))
empty_reply m _ ps t a = absurd t
