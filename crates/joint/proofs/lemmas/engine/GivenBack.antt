-- The history goes on over the nodes that a step gives back.
use Rattle.std.proofs.Common.{◌≡◌, ◌<◌, ◌==◌, ◌&&◌, arith, ℕ, zero, suc, Bool, true, false, not, List, [], ◌∷◌, refl, sym, ◌∙◌, ap, subst, inl, inr, ◌⊎◌}
use Rattle.std.specs.Prelude.{is_some}
use Rattle.std.specs.List.{Contains}
use Rattle.std.proofs.lemmas.Bool.{cases_eq, eq-eqb, ne_eqb}
use Rattle.crossbeam_epoch.specs.declared.names.Name.{Name}
use Rattle.crossbeam_epoch.specs.world.Machine.{State}
use Rattle.crossbeam_epoch.specs.world.History.{Mark, WasDeferred}
use Rattle.crossbeam_epoch.specs.world.Store.{value_at, was_given}
use Rattle.crossbeam_epoch.specs.world.Reach.{Act, Quiet, Marked, GivenBack, Moment, marks_of, IsIn, WasIn, WasLive, Visible, EntersLive, IsDestruction, DestructionsTold, IsCareful, links_of, IsNow}
use Rattle.joint.specs.Names.{number}
use Rattle.joint.specs.engine.Laws.{CellLaws}
use Rattle.joint.specs.NameLemmas.{same_name}
use Rattle.joint.proofs.lemmas.engine.ReachMoments.{Reaches, was_in}
use Rattle.congee.proofs.Laws.{both_true}

abbrev of_gift : Name → Act → Name
of_gift x Quiet = x
of_gift x (Marked k) = x
of_gift x (GivenBack n) = n

module _ {T J : Type 0} (names : T → List Name) (s : State T J) where
  -- what stands once these were given back, the last first
  abbrev pub lived : List Name → Name → Bool
  lived [] n = is_some (value_at s.store n)
  lived (x ∷ xs) n = lived xs n && not (number n == number x)

  -- the moment at which the last of these is given back, after the others
  abbrev pub given_back : List Name → Name → Moment
  given_back xs x = record { act = GivenBack x; roots = s.roots; links = links_of names s.store; live = lived (x ∷ xs) }

  -- the moments with one more for each that is given back
  abbrev pub backs : List Moment → List Name → List Moment
  backs past [] = past
  backs past (x ∷ xs) = given_back xs x ∷ backs past xs

  -- giving back marks nothing
  pub same_marks : (past : List Moment) (xs : List Name) → marks_of (backs past xs) ≡ marks_of past
  same_marks past [] = refl
  same_marks past (x ∷ xs) = same_marks past xs

  module _ (cells : CellLaws J names) (past : List Moment) (now : IsNow names past s) where
    was_in_backs : (xs : List Name) (n : Name) → WasIn (backs past xs) n → WasIn past n
    was_in_backs [] n w = w
    was_in_backs (x ∷ xs) n w = elim w [ inl i ↦ was_in cells s past now n i | inr r ↦ was_in_backs xs n r ]

    -- what was in reach was so at the longer history too
    pub still_in : (xs : List Name) (n : Name) → WasIn past n → WasIn (backs past xs) n
    still_in [] n w = w
    still_in (x ∷ xs) n w = inr (still_in xs n w)

    -- what a participant saw in reach it saw by the longer history too
    pub still_seen : (xs : List Name) (p : ℕ) (n : Name) → Visible past p n → Visible (backs past xs) p n
    still_seen [] p n v = v
    still_seen (x ∷ xs) p n v = inr (refl, still_seen xs p n v)

    -- what is in reach in the state is in reach at the newest of them
    pub newest_in : (xs : List Name) (m : Moment) → ((n : Name) → IsIn m n → (m.live n ≡ true) ⊎ Reaches names s n) → EntersLive (backs past xs) → EntersLive (m ∷ backs past xs)
    newest_in [] m f e = first past now m f e
      where
        first : (h : List Moment) → IsNow names h s → (b : Moment) → ((n : Name) → IsIn b n → (b.live n ≡ true) ⊎ Reaches names s n) → EntersLive h → EntersLive (b ∷ h)
        first [] w b f e = absurd w
        first (c ∷ h) w b f e = (λ n i. elim (f n i) [ inl l ↦ inl l | inr r ↦ inr (cells.newest_in c h s n w r) ], e)
    newest_in (x ∷ xs) m f e = (λ n i. f n i, e)

    -- the history stays careful where nothing given back was ever in reach, and nothing deferred is
    pub careful_backs : IsCareful past → (xs : List Name) → ((n : Name) → Contains xs n → WasIn past n → ⊥) → ((t : ℕ) (n : Name) → WasDeferred (marks_of past) t n → Reaches names s n → ⊥) → IsCareful (backs past xs)
    careful_backs t [] u d = t
    careful_backs t (x ∷ xs) u d =
        let r : IsCareful (backs past xs) = careful_backs t xs (λ n c. u n (suc c.0, omega (arith, c.1), c.2)) d in
        record {
          leaves = (λ k n w i. d k n (let P : List Mark → Type 0 = λ h. WasDeferred h k n in subst P (same_marks past xs) w) i, r.leaves);
          enters = newest_in xs (given_back xs x) (λ n i. inr i) r.enters;
          gives = (λ n e w. (let q : x ≡ n = ap (of_gift x) e in u n (let P : Name → Type 0 = λ y. Contains (x ∷ xs) y in subst P q (0, omega arith, refl)) (was_in_backs xs n w)), r.gives);
        }

    -- the ends are told
    live_before : (xs : List Name) (x n : Name) → lived xs n ≡ true → lived (x ∷ xs) n ≡ false → x ≡ n
    live_before xs x n l f = elim (cases_eq (number n) (number x)) [
      | inl e ↦ sym (same_name n x e)
      | inr ne ↦ absurd (let q : (number n == number x) ≡ false = ne_eqb (number n) (number x) ne in let z : lived (x ∷ xs) n ≡ true = rw (l, q) refl in cc)
    ]

    -- where the next moment tells the destructions after them, all destructions are told
    pub ends_next : (xs : List Name) (m : Moment) → ((n : Name) → lived xs n ≡ true → m.live n ≡ false → IsDestruction m.act n) → DestructionsTold (backs past xs) → DestructionsTold (m ∷ backs past xs)
    ends_next [] m f e = first past now m f e
      where
        first : (h : List Moment) → IsNow names h s → (b : Moment) → ((n : Name) → lived [] n ≡ true → b.live n ≡ false → IsDestruction b.act n) → DestructionsTold h → DestructionsTold (b ∷ h)
        first [] w b f e = absurd w
        first (c ∷ h) w b f e = (λ n l g. f n (sym (w.1 n) ∙ l) g, e)
    ends_next (x ∷ xs) m f e = (λ n l g. f n l g, e)

    -- all destructions are told up to the last that is given back
    pub ends_backs : DestructionsTold past → (xs : List Name) → DestructionsTold (backs past xs)
    ends_backs e [] = e
    ends_backs e (x ∷ xs) = ends_next xs (given_back xs x) (λ n l g. live_before xs x n l g) (ends_backs e xs)

    -- what is live after they are given back stood before
    pub lived_first : (xs : List Name) (n : Name) → lived xs n ≡ true → is_some (value_at s.store n) ≡ true
    lived_first [] n l = l
    lived_first (x ∷ xs) n l = lived_first xs n (both_true (lived xs n) (not (number n == number x)) l).0

    -- what is live after them wasn't given back
    pub lived_apart : (xs : List Name) (n : Name) → lived xs n ≡ true → Contains xs n → ⊥
    lived_apart [] n l c = let bad : c.0 < 0 = c.1 in omega (arith, bad)
    lived_apart (x ∷ xs) n l (zero, lt, e) = (let q : (number n == number x) ≡ true = eq-eqb (number n) (number x) (ap number (sym e)) in let z : lived (x ∷ xs) n ≡ false = rw q (last (lived xs n)) in cc)
      where
        last : (b : Bool) → (b && not true) ≡ false
        last true = refl
        last false = refl
    lived_apart (x ∷ xs) n l (suc k, lt, e) = lived_apart xs n (both_true (lived xs n) (not (number n == number x)) l).0 (k, omega (arith, lt), e)

    -- each name that was live by the longer history was given
    pub given_backs : ((n : Name) → WasLive past n → was_given s.store n ≡ true) → (xs : List Name) (n : Name) → WasLive (backs past xs) n → was_given s.store n ≡ true
    given_backs g [] n w = g n w
    given_backs g (x ∷ xs) n w = elim w [ inl l ↦ g n (cells.was_live past s n now (lived_first (x ∷ xs) n l)) | inr r ↦ given_backs g xs n r ]
