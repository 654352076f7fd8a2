-- A call that names a node is under way, and its worker's stretch lasts.
use Rattle.std.proofs.Common.{◌≡◌, ◌+◌, ◌<◌, ◌≤◌, arith, ℕ, true, List, [], refl, sym, subst, inr}
use Rattle.std.specs.Prelude.{Option, None, Some, is_some, length}
use Rattle.std.specs.List.{Contains}
use Rattle.crossbeam_epoch.specs.declared.world.participant.Participant.{Participant}
use Rattle.crossbeam_epoch.specs.world.Fits.{Fits, Bounds}
use Rattle.crossbeam_epoch.specs.declared.names.Name.{Name}
use Rattle.crossbeam_epoch.specs.world.History as H
use Rattle.crossbeam_epoch.specs.world.History.{Mark, WasDeferred, began}
use Rattle.crossbeam_epoch.specs.world.Reach.{Act, Quiet, Marked, GivenBack, with_act}
use Rattle.crossbeam_epoch.specs.world.Machine.{State, place}
use Rattle.congee.specs.declared.protocol.machine.Machine.{Machine}
use Rattle.congee.specs.declared.protocol.phase.Phase.{Phase}
use Rattle.congee.specs.declared.protocol.phase.Phase.TheVariants.{Ended}
use Rattle.congee.specs.protocol.Names.{names}
use Rattle.joint.specs.engine.Sound.{IsUnderWay, IsSecured, Guards}

-- what was deferred is so after any act
pub deferred_on : (act : Act) (h : List Mark) (t : ℕ) (n : Name) → WasDeferred h t n → WasDeferred (with_act act h) t n
deferred_on Quiet h t n d = d
deferred_on (Marked (H.Pinned w e)) h t n d = d
deferred_on (Marked (H.Repinned w e)) h t n d = d
deferred_on (Marked (H.Unpinned w)) h t n d = d
deferred_on (Marked (H.Deferred u m)) h t n d = inr d
deferred_on (Marked (H.Called u m)) h t n d = d
deferred_on (GivenBack m) h t n d = d

-- a call that has ended names no node
pub no_names : {C V : Type 0} (num : C → ℕ) (m : Machine C V) (k : ℕ) → m.phase ≡ Ended → Contains (names num m.phase) k → ⊥
no_names {C} {V} num m k e c =
    let P : Phase C V → Type 0 = λ x. Contains (names num x) k in
    let z : Contains [] k = subst P e c in
    let bad : z.0 < 0 = z.1 in omega (arith, bad)

way : {C V : Type 0} (num : C → ℕ) (x : Phase C V) (k : ℕ) → Contains (names num x) k → IsUnderWay x
way num Ended k c = let bad : c.0 < 0 = c.1 in absurd (omega (arith, bad))
way num _ k c = tt

-- a call that names a node is under way
pub under_way : {C V : Type 0} (num : C → ℕ) (m : Machine C V) (k : ℕ) → Contains (names num m.phase) k → IsUnderWay m.phase
under_way num m k c = way num m.phase k c

stretched : (b w : Option ℕ) (epoch : ℕ) → Bounds b w epoch → is_some w ≡ true → is_some b ≡ true
stretched (Some b) w epoch x e = refl
stretched None None epoch x e = absurd (cc e)
stretched None (Some w) epoch x e = absurd x

-- a worker with a pin is in a stretch
pub in_stretch : {T J : Type 0} (h : List Mark) (s : State T J) (i : ℕ) → Fits h s → is_some (place s i).word ≡ true → is_some (began h i) ≡ true
in_stretch h s i f e = stretched (began h i) (place s i).word s.epoch (f.places i).bounds e

-- the worker of a call that names a node is in a stretch
pub pinned_stretch : {T J C V : Type 0} (num : C → ℕ) (h : List Mark) (s : State T J) (i : ℕ) (m : Machine C V) (k : ℕ) → Fits h s → Guards (place s i) m → Contains (names num m.phase) k → is_some (began h i) ≡ true
pinned_stretch num h s i m k f g c = in_stretch h s i f (g.pinned (under_way num m k c))

-- a call that has ended asks nothing of its worker's place but a bag of 64 jobs at most
pub ended_guards : {C V J : Type 0} (p : Participant J) (m : Machine C V) → length p.bag ≤ 64 → m.phase ≡ Ended → Guards p m
ended_guards {C} {V} p m fits e =
    let no : IsUnderWay m.phase → ⊥ = λ w. (let P : Phase C V → Type 0 = λ x. IsUnderWay x in subst P e w) in
    record {
      registered = λ w. absurd (no w);
      pinned = λ w. absurd (no w);
      idle = λ w. absurd (no w);
      secured = (let P : Phase C V → Type 0 = λ x. IsSecured m.kind x (length p.bag) in subst P (sym e) (let n : length p.bag + 0 ≤ 64 = omega (arith, fits) in n));
    }
