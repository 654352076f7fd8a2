-- A call on an index that threads share under a guard of its own.
use Rattle.std.specs.Prelude.{◌≡◌, ℕ, Result, Ok, Err}
use Rattle.std.specs.Borrow.{Bor, MutBor}
use Rattle.std.specs.Fn.{Once}
use Rattle.joint.specs.declared.refusal.Refusal.{Refusal}
use Rattle.joint.specs.declared.steps.Op.{Op}
use Rattle.joint.specs.declared.steps.Op.TheVariants as op
use Rattle.joint.specs.declared.steps.Report.{Report}
use Rattle.joint.specs.declared.steps.Step.{Step}
use Rattle.joint.specs.declared.threads.tokens.Guard.{Guard}
use Rattle.joint.specs.declared.threads.tokens.Worker.{Worker}
use Rattle.joint.specs.threads.Threads.{Answers, Hands, Pins, Serves, is_held_by, is_of, told}

-- called with this worker and this guard, the closure answers this, and leaves that worker there
pub record IsCalled {F O : Type 0} (c : Once F (MutBor Worker × (Bor Guard × Unit {0})) (Result O Refusal × (MutBor Worker × Unit {0}))) (f : F) (w : Worker) (g : Guard) (answer : Result O Refusal) (w' : Worker) : Type 0 where
  pub worker : MutBor Worker
  pub shows : worker.now ≡ w
  pub guard : Bor Guard
  pub shows_guard : guard.now ≡ g
  pub left : MutBor Worker
  pub answers : c.post f (worker, (guard, tt)) (answer, (left, tt))
  pub leaves : left.now ≡ w'

-- the answer stands where the guard could be spent
abbrev pub answer_after : {O : Type 0} → Result (Unit {0}) (Refusal × Guard) → Result O Refusal → Result O Refusal
answer_after (Ok t) answer = answer
answer_after (Err e) answer = Err e.0

-- once pinned, the closure is called, and then the guard is spent, whatever it answered
pub record IsCalledPinned {V F O : Type 0} (hold : ℕ → Op V → Step V → Report V → Type 0) (id : ℕ) (c : Once F (MutBor Worker × (Bor Guard × Unit {0})) (Result O Refusal × (MutBor Worker × Unit {0}))) (f : F) (w : Worker) (g : Guard) (w' : Worker) (result : Result O Refusal) : Type 0 where
  pub answer : Result O Refusal
  pub called : IsCalled c f w g answer w'
  pub unpinned : Result (Unit {0}) (Refusal × Guard)
  pub unpins : Hands (is_held_by id w' g) (Answers {V = V} hold w'.number op.Unpin told) g unpinned
  pub result_is : result ≡ answer_after unpinned answer

-- a refused pin is the answer, and the closure isn't called
abbrev pub IsPinnedWith : {V F O : Type 0} → (ℕ → Op V → Step V → Report V → Type 0) → ℕ → Once F (MutBor Worker × (Bor Guard × Unit {0})) (Result O Refusal × (MutBor Worker × Unit {0})) → F → Worker → Result Guard Refusal → Worker → Result O Refusal → Type 0
IsPinnedWith {V} hold id c f w (Ok g) w' result = IsCalledPinned {V = V} hold id c f w g w' result
IsPinnedWith hold id c f w (Err e) w' result = (w' ≡ w) × (result ≡ Err e)

-- a call pins, and calls its closure; with a worker of another index it does neither
abbrev pub CallsPinned : {V F O : Type 0} → (ℕ → Op V → Step V → Report V → Type 0) → ℕ → Once F (MutBor Worker × (Bor Guard × Unit {0})) (Result O Refusal × (MutBor Worker × Unit {0})) → F → Worker → Worker → Result O Refusal → Type 0
CallsPinned {V} hold id c f w w' result = (pinned : Result Guard Refusal) × Serves (is_of id w) (Pins {V = V} hold id w.number) pinned × IsPinnedWith {V = V} hold id c f w pinned w' result

-- whatever the closure is called with, it leaves the worker in its place
abbrev pub KeepsWorker : {F O : Type 0} → Once F (MutBor Worker × (Bor Guard × Unit {0})) (Result O Refusal × (MutBor Worker × Unit {0})) → F → Type 0
KeepsWorker {F} {O} c f = (p : MutBor Worker) (q : Bor Guard) (answer : Result O Refusal) (p' : MutBor Worker) → c.post f (p, (q, tt)) (answer, (p', tt)) → p'.now ≡ p.now
