use Rattle.std.proofs.Common.{◌≡◌, ◌⊎◌, inl, inr, ℕ, ◌+◌, ◌-◌, ◌≤◌, arith, refl, ◌∙◌, [], Result, Ok, Err}
use Rattle.std.specs.Prelude.{min, OnOk, OnErr}
use Rattle.crossbeam_epoch.proofs.world.World.run.Goals as goal

-- a list that got room for all steps has it, and one that was refused it has none
all_or_none : {A E : Type 0} (r : Result A E) (done all asked len room room' : ℕ) → done ≡ min all (room' - len) → asked ≡ all → len ≡ 0 → room ≡ 0 → OnOk r (len + asked ≤ room') → OnErr r (room' ≡ room) → (done ≡ all) ⊎ (done ≡ 0)
all_or_none (Ok x) done all asked len room room' is each none new ok err = let k : len + asked ≤ room' = ok in inl (omega (arith, is, each, none, k))
all_or_none (Err e) done all asked len room room' is each none new ok err = let k : room' ≡ room = err in inr (omega (arith, is, none, new, k))

pub returns-clause-done : goal.returns-clause-done
returns-clause-done g c =
    all_or_none c.reserve.result _ _ _ _ _ _ c.run_into-done.ensures.done refl (c.reserve.ensures.len ∙ c.new-reports.ensures.len) c.new-reports.ensures.capacity c.reserve.ensures.ok c.reserve.ensures.err

pub returns-clause-legal : goal.returns-clause-legal
returns-clause-legal g c = let e : c.reserve.new.self.items ≡ [] = c.reserve.ensures.items ∙ c.new-reports.ensures.items in rw e at c.run_into-done.ensures.legal

pub returns-clause-state : goal.returns-clause-state
returns-clause-state g c = let e : c.reserve.new.self.items ≡ [] = c.reserve.ensures.items ∙ c.new-reports.ensures.items in rw e at c.run_into-done.ensures.state

pub returns-clause-kept : goal.returns-clause-kept
returns-clause-kept g c = let e : c.reserve.new.self.items ≡ [] = c.reserve.ensures.items ∙ c.new-reports.ensures.items in rw e at c.run_into-done.ensures.kept

pub returns-clause-told : goal.returns-clause-told
returns-clause-told g c = let e : c.reserve.new.self.items ≡ [] = c.reserve.ensures.items ∙ c.new-reports.ensures.items in rw e at c.run_into-done.ensures.told

pub returns-clause-shown : goal.returns-clause-shown
returns-clause-shown g c = let e : c.reserve.new.self.items ≡ [] = c.reserve.ensures.items ∙ c.new-reports.ensures.items in rw e at c.run_into-done.ensures.shown

pub returns-clause-ends : goal.returns-clause-ends
returns-clause-ends g c = let e : c.reserve.new.self.items ≡ [] = c.reserve.ensures.items ∙ c.new-reports.ensures.items in rw e at c.run_into-done.ensures.ends

pub returns-clause-ends_on : goal.returns-clause-ends_on
returns-clause-ends_on g c = let e : c.reserve.new.self.items ≡ [] = c.reserve.ensures.items ∙ c.new-reports.ensures.items in rw e at c.run_into-done.ensures.ends_on
