-- Which calls a log has.
use Rattle.std.proofs.Common.{◌≡◌, ℕ, ◌⊎◌, eqb, Bool, List, [], ◌∷◌, ◌++◌, if◌then◌else◌, sym, refl, ap, ◌∙◌, subst, inl, inr, ⊎_elim, arith, eq-eqb, ne_eqb, Option, None, Some}
use Rattle.std.proofs.lemmas.List.Elements.{Contains-append_left, Contains-append_right}
use Rattle.std.specs.List.{Contains}
use mathlib.Core.Logic.{dite}
use native.Mathlib.Decide.{ℕ_discrete}
use Rattle.optimistic.specs.declared.words.rule.Entry.{Entry}
use Rattle.optimistic.specs.words.Calls.{entry_of}
use Rattle.optimistic.specs.words.Kept.{value_after, value_of, StartsWith}
use Rattle.optimistic.specs.face.Calls.{Known, Wrote, HasCall}
use Rattle.optimistic.proofs.lemmas.face.Answers.{some_none}

only_call : (e : Entry) → Contains (e ∷ []) e
only_call e = (0, omega arith, refl)

-- a log that goes on has the calls that it had
pub call_later : (key : ℕ) (x : Option ℕ) (log seen : List Entry) → StartsWith log seen → HasCall key x seen → HasCall key x log
call_later key x log seen s c = record { call = c.call; there = subst (λ (l : List Entry). Contains l c.call) (sym s.1) (Contains-append_left seen s.0 c.call c.there); its_key = c.its_key; its_value = c.its_value }

-- a worker that wrote has seen its call
pub call_wrote : (key : ℕ) (value old : Option ℕ) (v w : Known) → Wrote key value old v w → HasCall key value w.seen
call_wrote key value old v w t = let e : Entry = entry_of v.by key value in let p = t.4 in let before : List Entry = v.seen ++ p.0 in
    record { call = e; there = subst (λ (l : List Entry). Contains l e) (sym p.2) (Contains-append_left (before ++ e ∷ []) p.1 e (Contains-append_right before (e ∷ []) e (only_call e))); its_key = refl; its_value = refl }

-- a key has what it had before some calls, or what one of them gave it
call_or_before : (key : ℕ) (x y : Option ℕ) (log : List Entry) → value_after x key log ≡ y → (x ≡ y) ⊎ HasCall key y log
call_or_before key x y [] t = inl t
call_or_before key x y (e ∷ es) t = ⊎_elim
    (λ (q : (if eqb e.key key then e.value else x) ≡ y). dite (ℕ_discrete e.key key)
    (λ (same : e.key ≡ key). inr record { call = e; there = Contains-append_left (e ∷ []) es e (only_call e); its_key = same; its_value = sym (ap (λ (z : Bool). if z then e.value else x) (eq-eqb e.key key same)) ∙ q })
    (λ ne. inl (sym (ap (λ (z : Bool). if z then e.value else x) (ne_eqb e.key key ne)) ∙ q)))
    (λ (r : HasCall key y es). inr record { call = r.call; there = Contains-append_right (e ∷ []) es r.call r.there; its_key = r.its_key; its_value = r.its_value })
    (call_or_before key (if eqb e.key key then e.value else x) y es t)

-- a value that a key has some call gave it
pub call_value : (key value : ℕ) (log : List Entry) → value_of key log ≡ Some value → HasCall key (Some value) log
call_value key value log t = ⊎_elim (λ (q : None ≡ Some value). absurd (some_none value (sym q))) (λ (r : HasCall key (Some value) log). r) (call_or_before key None (Some value) log t)
