-- What one more mark changes in a history.
use Rattle.std.proofs.Common.{◌≡◌, ℕ, ◌<◌, ◌≤◌, ◌≢◌, Bool, true, false, List, ◌∷◌, ◌==◌, Option, Some, None, refl, sym, ◌∙◌, inl, inr, ◌⊎◌, arith}
use Rattle.std.specs.Prelude.{if◌then◌else◌, is_some}
use Rattle.std.proofs.lemmas.Bool.{ne_eqb}
use Rattle.crossbeam_epoch.specs.declared.names.Name.{Name}
use Rattle.crossbeam_epoch.specs.world.History.{Mark, Pinned, Repinned, Unpinned, Deferred, Called, began, blocks, WasDeferred}

-- h' goes on from h, by an act of `who` while the epoch was this and so many jobs were deferred
pub record Goes (h : List Mark) (epoch next who : ℕ) (h' : List Mark) : Type 0 where
  pub blocked : (q t : ℕ) → t < next → blocks h' q t ≡ true → (blocks h q t ≡ true) × (began h' q ≡ began h q)
  pub begun : (q e : ℕ) → began h' q ≡ Some e → (began h q ≡ Some e) ⊎ (epoch ≤ e)
  pub same : (q : ℕ) → q ≢ who → began h' q ≡ began h q
  pub deferred : (t : ℕ) (n : Name) → WasDeferred h t n → WasDeferred h' t n

over_false : {A : Type 0} (c x : Bool) (a y : A) → (if c then false else x) ≡ true → (x ≡ true) × ((if c then a else y) ≡ y)
over_false true x a y h = absurd (cc h)
over_false false x a y h = (h, refl)

over_some : (c : Bool) (a e : ℕ) (y : Option ℕ) → (if c then Some a else y) ≡ Some e → (y ≡ Some e) ⊎ (a ≡ e)
over_some true a e y h = inr cc
over_some false a e y h = inl h

over_none : (c : Bool) (e : ℕ) (y : Option ℕ) → (if c then None else y) ≡ Some e → y ≡ Some e
over_none true e y h = absurd (cc h)
over_none false e y h = h

over_other : {A : Type 0} (c : Bool) (a y : A) → c ≡ false → (if c then a else y) ≡ y
over_other true a y h = absurd (cc h)
over_other false a y h = refl

-- a history goes on without a mark
pub goes_none : (h : List Mark) (epoch next who : ℕ) → Goes h epoch next who h
goes_none h epoch next who = record { blocked = λ q t lt b. (b, refl); begun = λ q e n. inl n; same = λ q ne. refl; deferred = λ t n d. d }

-- a history goes on with the beginning of a stretch
pub goes_pinned : (h : List Mark) (epoch next who : ℕ) → Goes h epoch next who (Pinned who epoch ∷ h)
goes_pinned h epoch next who = record {
  blocked = λ q t lt b. over_false (who == q) (blocks h q t) (Some epoch) (began h q) b;
  begun = λ q e n. elim (over_some (who == q) epoch e (began h q) n) [ inl o ↦ inl o | inr o ↦ inr (omega (arith, o)) ];
  same = λ q ne. over_other (who == q) (Some epoch) (began h q) (ne_eqb who q (λ e. ne (sym e)));
  deferred = λ t n d. d;
}

-- a history goes on with the beginning anew of a stretch
pub goes_repinned : (h : List Mark) (epoch next who : ℕ) → Goes h epoch next who (Repinned who epoch ∷ h)
goes_repinned h epoch next who = record {
  blocked = λ q t lt b. over_false (who == q) (blocks h q t) (Some epoch) (began h q) b;
  begun = λ q e n. elim (over_some (who == q) epoch e (began h q) n) [ inl o ↦ inl o | inr o ↦ inr (omega (arith, o)) ];
  same = λ q ne. over_other (who == q) (Some epoch) (began h q) (ne_eqb who q (λ e. ne (sym e)));
  deferred = λ t n d. d;
}

-- a history goes on with the end of a stretch
pub goes_unpinned : (h : List Mark) (epoch next who : ℕ) → Goes h epoch next who (Unpinned who ∷ h)
goes_unpinned h epoch next who = record {
  blocked = λ q t lt b. over_false (who == q) (blocks h q t) None (began h q) b;
  begun = λ q e n. inl (over_none (who == q) e (began h q) n);
  same = λ q ne. over_other (who == q) None (began h q) (ne_eqb who q (λ e. ne (sym e)));
  deferred = λ t n d. d;
}

-- a history goes on with the deferral of a job, under the next ticket
pub goes_deferred : (h : List Mark) (epoch next who : ℕ) (name : Option Name) → Goes h epoch next who (Deferred next name ∷ h)
goes_deferred h epoch next who name = record {
  blocked = λ q t lt b.
      let differ : next ≡ t → ⊥ = omega arith in
      (sym (over_other (next == t) (is_some (began h q)) (blocks h q t) (ne_eqb next t differ)) ∙ b, refl);
  begun = λ q e n. inl n;
  same = λ q ne. refl;
  deferred = λ t n d. inr d;
}

-- a history goes on with the call of a job
pub goes_called : (h : List Mark) (epoch next who t : ℕ) (name : Option Name) → Goes h epoch next who (Called t name ∷ h)
goes_called h epoch next who t name = record { blocked = λ q t' lt b. (b, refl); begun = λ q e n. inl n; same = λ q ne. refl; deferred = λ t n d. d }
