use Rattle.std.proofs.Common.{rules, ◌≡◌, ◌∙◌, ◌<◌, ◌≤◌, ℕ, zero, suc, List, [], ◌∷◌, length, get_or, slice_set, refl, ap, sym, subst, arith}
use Rattle.std.proofs.lemmas.Option.{slice_get-get_or}
use Rattle.congee.specs.protocol.Scans.{written}
use Rattle.joint.specs.declared.steps.Outcome.{Outcome}
use Rattle.joint.specs.declared.steps.Outcome.TheVariants.{Found}
use Rattle.trial.specs.declared.caller.Caller.{Caller}
use Rattle.trial.specs.declared.open_tree.OpenTree.{OpenTree}
use Rattle.trial.specs.Callers.{caller_at, caller_or, after_step}
use Rattle.trial.specs.Places.{places_at, places_or, filled}
use Rattle.trial.proofs.open_tree.OpenTree.after_step.Goals as goal
use Rattle.trial.proofs.open_tree.OpenTree.after_step.Goals.{then-worker-len, else-worker-len}

-- what stands behind a worker's call takes in how its step ended
callers_after : (callers : List Caller) (who : ℕ) (told : Outcome ℕ) (c new : Caller) → who < length callers → c ≡ get_or callers who c → new ≡ after_step c told
    → slice_set callers who new ≡ slice_set callers who (after_step (caller_at callers who) told)
callers_after callers who told c new h is e =
    let found : caller_at callers who ≡ c = ap caller_or (slice_get-get_or callers who c h) ∙ sym is in
    ap (slice_set callers who) (e ∙ ap (λ x. after_step x told) (sym found))

-- nothing stands behind one past the last
past : (callers : List Caller) (who : ℕ) (c : Caller) → length callers ≤ who → callers ≡ slice_set callers who c
past [] who c h = refl
past (x ∷ callers) zero c h = absurd (omega (arith, h))
past (x ∷ callers) (suc who) c h = ap (λ t. x ∷ t) (past callers who c (omega (arith, h)))

-- a pair stands in its place
placed : (scans : List (List (ℕ × ℕ))) (who : ℕ) (told : Outcome ℕ) (places new : List (ℕ × ℕ)) (place key value : ℕ) → told ≡ Found place key value
    → who < length scans → places ≡ get_or scans who places → new ≡ written places place (key, value) → slice_set scans who new ≡ filled scans who told
placed scans who told places new place key value t h is e =
    let found : places_at scans who ≡ places = ap places_or (slice_get-get_or scans who places h) ∙ sym is in
    ap (slice_set scans who) (e ∙ ap (λ (p : List (ℕ × ℕ)). written p place (key, value)) (sym found)) ∙ ap (filled scans who) (sym t)

pub returns-in_default : goal.returns-in_default
returns-in_default c = elim c.if-worker-len.branch [
  | then-worker-len w ↦ record {
    callers = ap (λ (s : OpenTree). s.callers.items) w.self-is ∙ callers_after _ _ _ _ _ (omega (arith, c.len.ensures, w.if-worker-len.true)) w.index_mut.ensures.value w.after_step.ensures;
    scans = rw w.self-is (search rules);
    world = rw w.self-is (search rules);
  }
  | else-worker-len w ↦ record {
    callers = ap (λ (s : OpenTree). s.callers.items) w.self-is ∙ past _ _ _ (omega (arith, c.len.ensures, w.if-worker-len.false));
    scans = rw w.self-is (search rules);
    world = rw w.self-is (search rules);
  }
]

pub returns-in_ok-fill-clause-callers : goal.returns-in_ok-fill-clause-callers
returns-in_ok-fill-clause-callers c = elim c.if-worker-len.branch [
  | then-worker-len w ↦ ap (λ (s : OpenTree). s.callers.items) w.self-is
      ∙ callers_after _ _ _ _ _ (omega (arith, c.len.ensures, w.if-worker-len.true)) w.index_mut.ensures.value w.after_step.ensures
  | else-worker-len w ↦ ap (λ (s : OpenTree). s.callers.items) w.self-is ∙ past _ _ _ (omega (arith, c.len.ensures, w.if-worker-len.false))
]

pub returns-in_ok-fill-clause-scans : goal.returns-in_ok-fill-clause-scans
returns-in_ok-fill-clause-scans c =
    let same : c.if-worker-len.self.scans.items ≡ c.args.self.now.scans.items
    = elim c.if-worker-len.branch [
      | then-worker-len w ↦ ap (λ (s : OpenTree). s.scans.items) w.self-is
      | else-worker-len w ↦ ap (λ (s : OpenTree). s.scans.items) w.self-is
    ] in
    let P : List (List (ℕ × ℕ)) → Type 0 = λ scans. slice_set c.if-worker-len.self.scans.items c.args.worker c.fill.new.self ≡ filled scans c.args.worker c.args.outcome.now in
    subst P same (placed _ _ _ _ _ _ _ _ c.in-Found.is (omega (arith, c.len-2.ensures, c.if-worker-len-2.true)) c.index_mut-then-worker-len-2.ensures.value c.in_ok-fill.ensures.ok)

pub returns-else-worker-len-2-clause-callers : goal.returns-else-worker-len-2-clause-callers
returns-else-worker-len-2-clause-callers c = elim c.if-worker-len.branch [
  | then-worker-len w ↦ ap (λ (s : OpenTree). s.callers.items) w.self-is
      ∙ callers_after _ _ _ _ _ (omega (arith, c.len.ensures, w.if-worker-len.true)) w.index_mut.ensures.value w.after_step.ensures
  | else-worker-len w ↦ ap (λ (s : OpenTree). s.callers.items) w.self-is ∙ past _ _ _ (omega (arith, c.len.ensures, w.if-worker-len.false))
]
