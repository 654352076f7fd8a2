-- Rounds and further steps, one by one.
use Rattle.std.proofs.Common.{◌≡◌, ℕ, ◌+◌, ◌-◌, ◌<◌, ◌≤◌, suc, refl, sym, subst, arith, Some, None, true, false}
use Rattle.joint.specs.declared.refusal.Refusal.{Refusal}
use Rattle.joint.specs.declared.steps.Outcome.{Outcome}
use Rattle.trial.specs.declared.open_tree.OpenTree.{OpenTree}
use Rattle.trial.specs.declared.reply.Refused.TheVariants.{Tree}
use Rattle.trial.specs.declared.reply.Reply.{Reply}
use Rattle.trial.specs.declared.reply.Reply.TheVariants.{Refused}
use Rattle.joint.specs.Reports.{is_in_flight}
use Rattle.trial.specs.Calling.{Goes, GoesOn, stays, ends, goes}
use Rattle.trial.specs.Session.{Round, Rounds}

left : (n i : ℕ) → i < n → n - i ≡ suc (n - (i + 1))
left n i h = omega arith

-- a round that is refused is the last
pub round_ends : (n i : ℕ) (old mid : OpenTree) (who : ℕ) (e : Refusal) → i < n → Round old who mid (Some e) → Rounds (n - i) old who mid (Refused (Tree e))
round_ends n i old mid who e h round =
    let P : ℕ → Type 0 = λ m. Rounds m old who mid (Refused (Tree e)) in
    subst P (sym (left n i h)) (mid, Some e, round, (refl, refl))

-- after one that isn't, the others follow
pub round_goes : (n i : ℕ) (old mid new : OpenTree) (who : ℕ) (r : Reply) → i < n → Round old who mid None → Rounds (n - (i + 1)) mid who new r → Rounds (n - i) old who new r
round_goes n i old mid new who r h round rest =
    let P : ℕ → Type 0 = λ m. Rounds m old who new r in
    subst P (sym (left n i h)) (mid, None, round, rest)

-- a call that has ended takes none of the steps that are left
pub call_ends : (n : ℕ) (s : OpenTree) (who : ℕ) (told : Outcome ℕ) → is_in_flight told ≡ false → GoesOn who n s told told s
call_ends n s who told h = ends n s told h

-- none are left
pub call_stays : (n i : ℕ) (s : OpenTree) (who : ℕ) (told : Outcome ℕ) → n ≤ i → GoesOn who (n - i) s told told s
call_stays n i s who told h =
    let none : 0 ≡ n - i = omega arith in
    let P : ℕ → Type 0 = λ m. GoesOn who m s told told s in
    subst P none (stays s told)

-- after one the others follow
pub call_goes : (n i : ℕ) (old mid new : OpenTree) (who : ℕ) (stands next told : Outcome ℕ) → i < n → is_in_flight stands ≡ true → Goes old who false next mid
    → GoesOn who (n - (i + 1)) mid next told new → GoesOn who (n - i) old stands told new
call_goes n i old mid new who stands next told h running step rest =
    let P : ℕ → Type 0 = λ m. GoesOn who m old stands told new in
    subst P (sym (left n i h)) (goes (n - (i + 1)) old mid new stands next told running step rest)
