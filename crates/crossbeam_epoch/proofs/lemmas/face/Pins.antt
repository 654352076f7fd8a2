-- Each kind of step keeps the rule of the epoch and the participants' words.
use Rattle.std.proofs.Common.{◌≡◌, ◌≢◌, ℕ, ◌+◌, ◌*◌, ◌<◌, ◌≤◌, ◌⊎◌, eqb, List, [], ◌∷◌, ◌++◌, map, length, replicate, get_or, set, sym, refl, ap, ◌∙◌, subst, ⊎_elim, inl, inr, arith, Option, Some, None, length-set, get_or-set_other, get_or-set_same, eq-eqb, ne_eqb, unwrap_or}
use mathlib.Core.Logic.{dite}
use mathlib.Core.Option as maybe
use mathlib.Core.Option.{some, some-injective, some-ne-none}
use native.Mathlib.Decide.{ℕ_discrete, dec_le}
use lib.ListN.{get_elem?}
use lib.Seq.{set-get_or}
use prog.Atomic.{either}
use Rattle.atomic_table.specs.Table.{State, Me, step, keeps, stepped, Allows, Enters, Splits}
use Rattle.atomic_table.proofs.Lists.{at_set, at_snoc, set_here, set_else, set_again, at_longer}
use Rattle.crossbeam_epoch.specs.declared.face.seats.View.{View}
use Rattle.crossbeam_epoch.specs.face.Pins.{word_of, epoch_of, number_of, newcomer, ViewHolds, At, IsKept, with_seen, noted, seat_arrived, seat_claimed, seat_counted, seat_looked, seat_published, seat_confirmed, seat_left, seat_released, Passes, seat_inspected, seat_advanced, PinsHoldEpoch}

below : {A : Type 0} (l : List A) (i : ℕ) (a : A) → get_elem? l i ≡ some a → i < length l
below [] i a e = absurd (some-ne-none a (sym e))
below (x ∷ xs) Rattle.std.proofs.Common.zero a e = omega arith
below (x ∷ xs) (Rattle.std.proofs.Common.suc i) a e = let t = below xs i a e in omega arith

-- where a seat's view changes, a fact of each seat and its view stays where it stays for the others and holds of the new view
each : (F : ℕ → View → Type 0) (views : List View) (id : ℕ) (w : View) → F id w → ((j : ℕ) (u : View) → j ≢ id → At views j u → F j u) → (j : ℕ) (u : View) → At (set views id w) j u → F j u
each F views id w mine others j u at = ⊎_elim (λ (t : (j ≡ id) × (w ≡ u)). subst (λ (x : ℕ × View). F x.0 x.1) (λ i. (sym t.0 i, t.1 i)) mine)
    (λ (t : (j ≢ id) × (get_elem? views j ≡ some u)). others j u t.0 t.1) (at_set views id j w u at)

one_view : (views : List View) (j : ℕ) (v u : View) → At views j v → At views j u → v ≡ u
one_view views j v u a b = some-injective v u (sym a ∙ b)

one_number : (p q : ℕ) → ◌≡◌ {A = Option ℕ} (Some p) (Some q) → p ≡ q
one_number p q e = ap (λ (x : Option ℕ). unwrap_or x 0) e

none_some : (q : ℕ) → ◌≡◌ {A = Option ℕ} None (Some q) → ⊥
none_some q e = cc e

-- what holds of a seat stays where the epoch and the word of its place stay
stands_still : (places : ℕ) (words ws : List ℕ) (u : View) → epoch_of ws ≡ epoch_of words → ((p : ℕ) → u.place ≡ Some p → get_or ws (word_of p) 0 ≡ get_or words (word_of p) 0)
    → ViewHolds places words u → ViewHolds places ws u
stands_still places words ws u same word t = record {
  seen = (let a = t.seen in omega (arith, same));
  own = λ p e. ((t.own p e).0, word p e ∙ (t.own p e).1);
  published = λ e is. (let a = t.published e is in omega (arith, same));
  confirmed = λ q is. (let c = t.confirmed q is in let c₂ = c.2 in let c₃ = c.3 in let c₄ = c.4 in (c.0, c.1, c₂, omega (arith, same), omega (arith, same)));
  placed = t.placed;
}

passes_or : (seen n : ℕ) → Passes seen n ⊎ (¬ Passes seen n)
passes_or seen n = dite (dec_le 2 n) (λ l. dite (ℕ_discrete n (seen + 2)) (λ e. inl (inr e)) (λ d. inr (λ t. ⊎_elim (λ (m : n < 2). omega arith) (λ (e : n ≡ seen + 2). d e) t))) (λ m. inl (inl (omega arith)))

-- a participant whose word is passed isn't pinned by an epoch before the one that was seen
clear : (places : ℕ) (words : List ℕ) (u : View) (p q seen : ℕ) → ViewHolds places words u → u.place ≡ Some p → u.pin ≡ Some q → Passes seen (get_or words (word_of p) 0) → seen ≤ q
clear places words u p q seen t is pin by = let c = t.confirmed q pin in let e = c.0 in let n : get_or words (word_of p) 0 ≡ e + 2 = (t.own p is).1 ∙ ap number_of c.1 in let low = c.2 in
    ⊎_elim (λ (m : get_or words (word_of p) 0 < 2). absurd (omega arith)) (λ (m : get_or words (word_of p) 0 ≡ seen + 2). omega arith) by

module _ {S : Type 0} (places last : ℕ) where
  abbrev Rule : State S View → Type 0
  Rule = IsKept places last

  -- One seat steps. Its new view stands, and so do the others over the new words. Each word that isn't free is still one seat's own.
  -- Of the scans and the pins, those are looked at in which the seat takes part
  stepping : (s : State S View) (r : Rule s) (id : ℕ) (v w : View) (ws : List ℕ) → At s.views id v → length ws ≡ length s.words → epoch_of ws ≤ last
      → ViewHolds places ws w → ((j : ℕ) (u : View) → j ≢ id → At s.views j u → ViewHolds places ws u)
      → ((p : ℕ) → p < places → 0 < get_or ws (word_of p) 0 → (w.place ≡ Some p) ⊎ ((j : ℕ) × (u : View) × (j ≢ id) × At s.views j u × (u.place ≡ Some p)))
      → ((j : ℕ) (u : View) (p : ℕ) → j ≢ id → At s.views j u → w.place ≡ Some p → u.place ≡ Some p → ⊥)
      → ((p q : ℕ) → w.place ≡ Some p → w.pin ≡ Some q → p < w.passed → w.seen ≤ q)
      → ((k : ℕ) (u : View) (p q : ℕ) → k ≢ id → At s.views k u → u.place ≡ Some p → u.pin ≡ Some q → p < w.passed → w.seen ≤ q)
      → ((j : ℕ) (u : View) (p q : ℕ) → j ≢ id → At s.views j u → w.place ≡ Some p → w.pin ≡ Some q → p < u.passed → u.seen ≤ q)
      → Rule record { words = ws; homes = s.homes; views = set s.views id w }
  stepping s r id v w ws at long low mine others owned alone self scans scanned = record {
    wide = long ∙ r.wide;
    bounded = (low, r.bounded.1);
    seats = each (λ _ u. ViewHolds places ws u) s.views id w mine others;
    owned = λ p l h. ⊎_elim (λ (e : w.place ≡ Some p). (id, w, set_here s.views id w (below s.views id v at), e))
        (λ (t : (j : ℕ) × (u : View) × (j ≢ id) × At s.views j u × (u.place ≡ Some p)). (t.0, t.1, set_else s.views id t.0 w t.2 ∙ t.3, t.4)) (owned p l h);
    alone = λ j k x u p a b. each (λ j' x'. x'.place ≡ Some p → u.place ≡ Some p → j' ≡ k) s.views id w
        (λ e f. each (λ k' u'. u'.place ≡ Some p → id ≡ k') s.views id w (λ _. refl) (λ k' u' n b' f'. absurd (alone k' u' p n b' e f')) k u b f)
        (λ j' x' n a' e f. each (λ k' u'. u'.place ≡ Some p → j' ≡ k') s.views id w (λ f'. absurd (alone j' x' p n a' f' e)) (λ k' u' m b' f'. r.alone j' k' x' u' p a' b' e f') k u b f) j x a;
    passed = λ j k x u p q a b. each (λ j' x'. u.place ≡ Some p → u.pin ≡ Some q → p < x'.passed → x'.seen ≤ q) s.views id w
        (each (λ k' u'. u'.place ≡ Some p → u'.pin ≡ Some q → p < w.passed → w.seen ≤ q) s.views id w (self p q) (λ k' u' n b'. scans k' u' p q n b') k u b)
        (λ j' x' n a'. each (λ k' u'. u'.place ≡ Some p → u'.pin ≡ Some q → p < x'.passed → x'.seen ≤ q) s.views id w (scanned j' x' p q n a') (λ k' u' m b'. r.passed j' k' x' u' p q a' b') k u b) j x a;
  }

  -- the seats that have a place other than this one's
  elsewhere : (s : State S View) (r : Rule s) (id : ℕ) (v : View) (p : ℕ) → At s.views id v → v.place ≡ Some p → (j : ℕ) (u : View) (p' : ℕ) → j ≢ id → At s.views j u → u.place ≡ Some p' → p' ≢ p
  elsewhere s r id v p at is j u p' n a e same = n (r.alone j id u v p a at (e ∙ ap (λ (x : ℕ). Some x) same) is)

  -- a word that isn't free is the seat's own, or another's
  owners : (s : State S View) (r : Rule s) (id : ℕ) (v : View) (at : At s.views id v) (p : ℕ) → p < places → 0 < get_or s.words (word_of p) 0
      → (v.place ≡ Some p) ⊎ ((j : ℕ) × (u : View) × (j ≢ id) × At s.views j u × (u.place ≡ Some p))
  owners s r id v at p l h = let t = r.owned p l h in dite (ℕ_discrete t.0 id)
      (λ e. inl (ap (λ (x : View). x.place) (one_view s.views id v t.1 at (subst (λ (j : ℕ). At s.views j t.1) e t.2)) ∙ t.3))
      (λ n. inr (t.0, t.1, n, t.2, t.3))

  -- a load, by which the seat's place and its number stay
  reads : (s : State S View) (r : Rule s) (id : ℕ) (v w : View) (i : ℕ) → At s.views id v → w.place ≡ v.place → ViewHolds places s.words w
      → ((p q : ℕ) → w.place ≡ Some p → w.pin ≡ Some q → p < w.passed → w.seen ≤ q)
      → ((k : ℕ) (u : View) (p q : ℕ) → k ≢ id → At s.views k u → u.place ≡ Some p → u.pin ≡ Some q → p < w.passed → w.seen ≤ q)
      → ((j : ℕ) (u : View) (p q : ℕ) → j ≢ id → At s.views j u → w.place ≡ Some p → w.pin ≡ Some q → p < u.passed → u.seen ≤ q)
      → Rule record { words = set s.words i (get_or s.words i 0); homes = s.homes; views = set s.views id w }
  reads s r id v w i at same stands self scans scanned = subst (λ (ws : List ℕ). Rule record { words = ws; homes = s.homes; views = set s.views id w }) (sym (set-get_or s.words i 0))
      (stepping s r id v w s.words at refl r.bounded.0 stands (λ j u _ a. r.seats j u a)
      (λ p l h. ⊎_elim (λ (e : v.place ≡ Some p). inl (same ∙ e)) (λ (t : (j : ℕ) × (u : View) × (j ≢ id) × At s.views j u × (u.place ≡ Some p)). inr t) (owners s r id v at p l h))
      (λ j u p n a e f. n (r.alone j id u v p a at f (sym same ∙ e))) self scans scanned)

  -- a write to the word of the seat's place, which isn't confirmed by it
  writes : (s : State S View) (r : Rule s) (id : ℕ) (v w : View) (p x : ℕ) → At s.views id v → v.place ≡ Some p → w.pin ≡ None → w.seen ≡ v.seen → w.passed ≡ v.passed
      → (w.place ≡ Some p) ⊎ ((w.place ≡ None) × (x ≡ 0)) → ((e : ℕ) → w.at ≡ Some e → e ≤ epoch_of s.words) → (w.place ≡ Some p → x ≡ number_of w.at)
      → Rule record { words = set s.words (word_of p) x; homes = s.homes; views = set s.views id w }
  writes s r id v w p x at is bare seen passed stays low number = let ws : List ℕ = set s.words (word_of p) x in let here = r.seats id v at in let inside = (here.own p is).0 in let wide = r.wide in
      let epoch : epoch_of ws ≡ epoch_of s.words = get_or-set_other s.words (word_of p) 0 x 0 (λ e. omega arith) in
      let now : get_or ws (word_of p) 0 ≡ x = get_or-set_same s.words (word_of p) x 0 (omega arith) in
      let else : (p' : ℕ) → p' ≢ p → get_or ws (word_of p') 0 ≡ get_or s.words (word_of p') 0 = λ p' n. get_or-set_other s.words (word_of p) (word_of p') x 0 (λ e. n (omega arith)) in
      let nothing : (q : ℕ) → w.pin ≡ Some q → ⊥ = λ q e. none_some q (sym bare ∙ e) in
      let place_is : (p' : ℕ) → w.place ≡ Some p' → p ≡ p' = λ p' e. ⊎_elim (λ (f : w.place ≡ Some p). one_number p p' (sym f ∙ e)) (λ (f : (w.place ≡ None) × (x ≡ 0)). absurd (none_some p' (sym f.0 ∙ e))) stays in
      stepping s r id v w ws at (length-set s.words (word_of p) x) (let b = r.bounded.0 in omega (arith, epoch))
      record {
        seen = (let a = here.seen in omega (arith, epoch, seen));
        own = λ p' e. let same = place_is p' e in (subst (λ (z : ℕ). z < places) same inside, subst (λ (z : ℕ). get_or ws (word_of z) 0 ≡ number_of w.at) same (now ∙ number (e ∙ ap (λ (z : ℕ). Some z) (sym same))));
        published = λ e f. (let a = low e f in omega (arith, epoch));
        confirmed = λ q e. absurd (nothing q e);
        placed = λ q e. absurd (nothing q e);
      }
      (λ j u n a. stands_still places s.words ws u epoch (λ p' e. else p' (elsewhere s r id v p at is j u p' n a e)) (r.seats j u a))
      (λ p' l h. dite (ℕ_discrete p' p)
      (λ e. ⊎_elim (λ (f : w.place ≡ Some p). inl (f ∙ ap (λ (z : ℕ). Some z) (sym e))) (λ (f : (w.place ≡ None) × (x ≡ 0)). absurd (let z : get_or ws (word_of p') 0 ≡ 0 = ap (λ (y : ℕ). get_or ws (word_of y) 0) e ∙ (now ∙ f.1) in omega (arith, z))) stays)
      (λ n. ⊎_elim (λ (e : v.place ≡ Some p'). absurd (n (sym (one_number p p' (sym is ∙ e))))) (λ (t : (j : ℕ) × (u : View) × (j ≢ id) × At s.views j u × (u.place ≡ Some p')). inr t)
      (owners s r id v at p' l (let z = else p' n in omega (arith, z)))))
      (λ j u p' n a e f. elsewhere s r id v p at is j u p' n a f (sym (place_is p' e)))
      (λ p' q _ e. absurd (nothing q e))
      (λ k u p' q n a e f l. (let t = r.passed id k v u p' q at a e f (omega (arith, passed)) in omega (arith, seen)))
      (λ j u p' q n a _ e. absurd (nothing q e))

  -- a seat comes that has no place, and saw an epoch that isn't past the present one
  comes : (s : State S View) (r : Rule s) (e : ℕ) → e ≤ epoch_of s.words → Rule record { words = s.words; homes = s.homes; views = s.views ++ with_seen newcomer e ∷ [] }
  comes s r e low = let w = with_seen newcomer e in record {
    wide = r.wide;
    bounded = r.bounded;
    seats = λ j u a. ⊎_elim (r.seats j u) (λ (t : w ≡ u). subst (ViewHolds places s.words) t record {
      seen = low;
      own = λ p f. absurd (none_some p f);
      published = λ d f. absurd (none_some d f);
      confirmed = λ q f. absurd (none_some q f);
      placed = λ q f. absurd (none_some q f);
    }) (at_snoc s.views w u j a);
    owned = λ p l h. let t = r.owned p l h in (t.0, t.1, at_longer s.views (w ∷ []) t.0 t.1 t.2, t.3);
    alone = λ j k x u p a b f g. old j x p a f (λ a'. old k u p b g (λ b'. r.alone j k x u p a' b' f g));
    passed = λ j k x u p q a b f g l. old k u p b f (λ b'. ⊎_elim (λ a'. r.passed j k x u p q a' b' f g l) (λ (t : w ≡ x). absurd (let z : x.passed ≡ 0 = ap (λ (y : View). y.passed) (sym t) in omega (arith, z))) (at_snoc s.views w x j a));
  }
    where
      old : {G : Type 0} (j : ℕ) (x : View) (p : ℕ) → At (s.views ++ with_seen newcomer e ∷ []) j x → x.place ≡ Some p → (At s.views j x → G) → G
      old j x p a f go = ⊎_elim go (λ (t : with_seen newcomer e ≡ x). absurd (none_some p (ap (λ (y : View). y.place) t ∙ f))) (at_snoc s.views (with_seen newcomer e) x j a)

  -- a new seat that looks at the epoch keeps the rule
  pub arrives : (slots : ℕ) → Enters Rule slots 0 (λ n w. seat_arrived {S = S} (step slots 0 0 0 maybe.none) (newcomer, []) n (w, []))
  arrives slots s r _ _ = let e = epoch_of s.words in let low = r.bounded.0 in let high = r.bounded.1 in (
    with_seen newcomer e,
    comes s r e (omega arith),
    (refl, (omega arith, omega arith, λ q f. absurd (none_some q f))),
  )

  -- a seat's note is a seat that has no place, and saw the same epoch
  pub notes : (id : ℕ) (v : View) → Splits Rule id v v (noted v)
  notes id v s r at = subst (λ (vs : List View). Rule record { words = s.words; homes = s.homes; views = vs ++ noted v ∷ [] }) (sym (set_again s.views id v at)) (comes s r v.seen (r.seats id v at).seen)

  -- a seat learns of an epoch that isn't past the present one
  pub sees : (s : State S View) (r : Rule s) (id : ℕ) (v : View) (e : ℕ) → At s.views id v → e ≤ epoch_of s.words → Rule record { words = s.words; homes = s.homes; views = set s.views id (with_seen v e) }
  sees s r id v e at low = let t = r.seats id v at in
      stepping s r id v (with_seen v e) s.words at refl r.bounded.0
      record { seen = low; own = t.own; published = t.published; confirmed = t.confirmed; placed = t.placed }
      (λ j u _ a. r.seats j u a) (λ p l h. owners s r id v at p l h) (λ j u p n a f g. n (r.alone j id u v p a at g f))
      (λ p q _ _ l. absurd (omega arith)) (λ k u p q _ _ _ _ l. absurd (omega arith)) (λ j u p q _ a f g l. r.passed j id u v p q a at f g l)

  -- a seat that has no place is spent
  pub spends : (s : State S View) (r : Rule s) (id : ℕ) (w : View) → At s.views id w → w.place ≡ None → Rule record { words = s.words; homes = s.homes; views = set s.views id newcomer }
  spends s r id w at none =
      stepping s r id w newcomer s.words at refl r.bounded.0
      record {
        seen = omega arith;
        own = λ p f. absurd (none_some p f);
        published = λ d f. absurd (none_some d f);
        confirmed = λ q f. absurd (none_some q f);
        placed = λ q f. absurd (none_some q f);
      }
      (λ j u _ a. r.seats j u a)
      (λ p l h. ⊎_elim (λ (e : w.place ≡ Some p). absurd (none_some p (sym none ∙ e))) (λ (t : (j : ℕ) × (u : View) × (j ≢ id) × At s.views j u × (u.place ≡ Some p)). inr t) (owners s r id w at p l h))
      (λ j u p _ _ e _. absurd (none_some p e)) (λ p q e _ _. absurd (none_some p e)) (λ k u p q _ _ _ _ l. absurd (omega arith)) (λ j u p q _ _ e _ _. absurd (none_some p e))

  -- a seat that looks at the epoch keeps the rule
  pub looks : (slots id : ℕ) (me : Me S View) → Allows Rule slots id me 0 (λ n. n) (seat_looked (step slots 0 0 0 maybe.none) me)
  looks slots id me s r _ at _ = let e = epoch_of s.words in let w = with_seen me.0 e in let t = r.seats id me.0 at in let old = t.seen in let low = r.bounded.0 in let high = r.bounded.1 in (
    w,
    keeps,
    tt,
    reads s r id me.0 w 0 at refl
        record {
          seen = omega arith;
          own = t.own;
          published = t.published;
          confirmed = t.confirmed;
          placed = t.placed;
        }
        (λ p q _ _ l. absurd (omega arith)) (λ k u p q _ _ _ _ l. absurd (omega arith)) (λ j u p q _ a f g l. r.passed j id u me.0 p q a at f g l),
    (refl, (omega arith, omega arith, λ q f. let c = t.confirmed q f in (c.3, c.4))),
  )

  -- the epoch that was read after the publication is at least each epoch that a seat saw
  pub confirms : (slots id : ℕ) (me : Me S View) (p e : ℕ) → me.0.place ≡ Some p → me.0.at ≡ Some e → Allows Rule slots id me 0 (λ n. n) (seat_confirmed (step slots 0 0 0 maybe.none) me)
  confirms slots id me p e is pinned s r _ at _ = let q = epoch_of s.words in let w : View = record me.0 { pin = Some q; seen = q; passed = 0 } in let t = r.seats id me.0 at in let old = t.seen in let low = r.bounded.0 in let high = r.bounded.1 in
      let before = t.published e pinned in (
        w,
        keeps,
        tt,
        reads s r id me.0 w 0 at refl
            record {
              seen = omega arith;
              own = t.own;
              published = t.published;
              confirmed = λ q' f. let same = one_number q q' f in (e, pinned, omega (arith, same), omega (arith, same), omega (arith, same));
              placed = λ _ _. (p, is);
            }
            (λ p' q' _ _ l. absurd (omega arith)) (λ k u p' q' _ _ _ _ l. absurd (omega arith))
            (λ j u p' q' _ a _ f l. let same = one_number q q' f in let seen = (r.seats j u a).seen in omega (arith, same)),
        (refl, omega arith, omega arith),
      )

  -- a seat that publishes an epoch that it saw keeps the rule
  pub publishes : (slots id : ℕ) (me : Me S View) (p e : ℕ) → me.0.place ≡ Some p → e ≤ me.0.seen
      → Allows Rule slots id me (word_of p) (λ _. e + 2) (λ _. seat_published (step slots (word_of p) (e + 2) 0 maybe.none) me (e + 2))
  publishes slots id me p e is low s r _ at _ = let w : View = record me.0 { at = Some e; pin = None; asked = 0; taken = 0 } in let seen = (r.seats id me.0 at).seen in (
    w,
    keeps,
    tt,
    writes s r id me.0 w p (e + 2) at is refl refl refl (inl is) (λ d f. let same = one_number e d f in omega (arith, same)) (λ _. refl),
    λ d f. let same : e ≡ d = omega arith in ap (λ (z : ℕ). let v : View = record me.0 { at = Some z; pin = None; asked = 0; taken = 0 } in (v, me.1)) same,
  )

  -- a seat that unpins, and keeps its place, keeps the rule
  pub leaves : (slots id : ℕ) (me : Me S View) (p : ℕ) → me.0.place ≡ Some p → Allows Rule slots id me (word_of p) (λ _. 1) (λ _. seat_left (step slots (word_of p) 1 0 maybe.none) me 1)
  leaves slots id me p is s r _ at _ = (
    record me.0 { at = None; pin = None; asked = 0; taken = 0 },
    keeps,
    tt,
    writes s r id me.0 (record me.0 { at = None; pin = None; asked = 0; taken = 0 }) p 1 at is refl refl refl (inl is) (λ d f. absurd (none_some d f)) (λ _. refl),
    refl,
  )

  -- a seat that gives its place back keeps the rule
  pub releases : (slots id : ℕ) (me : Me S View) (p : ℕ) → me.0.place ≡ Some p → Allows Rule slots id me (word_of p) (λ _. 0) (λ _. seat_released (step slots (word_of p) 0 0 maybe.none) me 0)
  releases slots id me p is s r _ at _ = (
    record me.0 { place = None; at = None; pin = None },
    keeps,
    tt,
    writes s r id me.0 (record me.0 { place = None; at = None; pin = None }) p 0 at is refl refl refl (inr (refl, refl)) (λ d f. absurd (none_some d f)) (λ f. absurd (none_some p f)),
    refl,
  )

  -- a place that was found free is taken
  pub claims : (slots id : ℕ) (me : Me S View) (p : ℕ) → p < places → me.0.place ≡ None → me.0.at ≡ None
      → Allows Rule slots id me (word_of p) (λ n. either (eqb n 0) 1 n) (seat_claimed (step slots (word_of p) 0 1 maybe.none) me)
  claims slots id me p inside none unpinned s r _ at _ = let v = me.0 in let t = r.seats id v at in let n : ℕ = get_or s.words (word_of p) 0 in let w : View = record v { place = Some p; asked = 0; taken = 0 } in
      let ws : List ℕ = set s.words (word_of p) 1 in let wide = r.wide in
      let bare : (q : ℕ) → v.pin ≡ Some q → ⊥ = λ q e. let c = t.placed q e in none_some c.0 (sym none ∙ c.1) in
      let epoch : epoch_of ws ≡ epoch_of s.words = get_or-set_other s.words (word_of p) 0 1 0 (λ e. omega arith) in
      let now : get_or ws (word_of p) 0 ≡ 1 = get_or-set_same s.words (word_of p) 1 0 (omega arith) in
      let else : (p' : ℕ) → p' ≢ p → get_or ws (word_of p') 0 ≡ get_or s.words (word_of p') 0 = λ p' d. get_or-set_other s.words (word_of p) (word_of p') 1 0 (λ e. d (omega arith)) in
      dite (ℕ_discrete n 0)
      (λ hit.
      let free : (j : ℕ) (u : View) → At s.views j u → u.place ≡ Some p → ⊥ = λ j u a e. let z = ((r.seats j u a).own p e).1 in not_free u.at (sym z ∙ hit) in (
        w,
        keeps,
        tt,
        subst (λ b. Rule (stepped s (word_of p) (either b 1 n) id me.1 w keeps)) (sym (eq-eqb n 0 hit))
            (stepping s r id v w ws at (length-set s.words (word_of p) 1) (let b = r.bounded.0 in omega (arith, epoch))
            record {
              seen = (let a = t.seen in omega (arith, epoch));
              own = λ p' e. let same = one_number p p' e in (subst (λ (z : ℕ). z < places) same inside, subst (λ (z : ℕ). get_or ws (word_of z) 0 ≡ number_of v.at) same (now ∙ ap number_of (sym unpinned)));
              published = λ e f. absurd (none_some e (sym unpinned ∙ f));
              confirmed = λ q e. absurd (bare q e);
              placed = λ q e. absurd (bare q e);
            }
            (λ j u d a. stands_still places s.words ws u epoch (λ p' e. else p' (λ same. free j u a (e ∙ ap (λ (z : ℕ). Some z) same))) (r.seats j u a))
            (λ p' l h. dite (ℕ_discrete p' p) (λ e. inl (ap (λ (z : ℕ). Some z) (sym e)))
            (λ d. ⊎_elim (λ (e : v.place ≡ Some p'). absurd (none_some p' (sym none ∙ e))) (λ (x : (j : ℕ) × (u : View) × (j ≢ id) × At s.views j u × (u.place ≡ Some p')). inr x)
            (owners s r id v at p' l (let z = else p' d in omega (arith, z)))))
            (λ j u p' d a e f. free j u a (f ∙ sym e)) (λ p' q _ e. absurd (bare q e)) (λ k u p' q d a e f l. r.passed id k v u p' q at a e f l) (λ j u p' q d a _ e. absurd (bare q e))),
        ((λ _ p' e. let same : p ≡ p' = omega arith in ap (λ (z : ℕ). let x : View = record v { place = Some z; asked = 0; taken = 0 } in (x, me.1)) same), λ miss. absurd (miss hit)),
      ))
      (λ miss. let found : View = record v { asked = v.asked + 1; taken = v.taken + 1 } in (
        found,
        keeps,
        tt,
        subst (λ b. Rule (stepped s (word_of p) (either b 1 n) id me.1 found keeps)) (sym (ne_eqb n 0 miss))
            (reads s r id v found (word_of p) at refl (record { seen = t.seen; own = t.own; published = t.published; confirmed = t.confirmed; placed = t.placed }) (λ p' q e f l. r.passed id id v v p' q at at e f l) (λ k u p' q d a e f l. r.passed id k v u p' q at a e f l) (λ j u p' q d a e f l. r.passed j id u v p' q a at e f l)),
        ((λ hit. absurd (miss hit)), λ _. refl),
      ))
    where
      not_free : (x : Option ℕ) → number_of x ≡ 0 → ⊥
      not_free None e = omega arith
      not_free (Some e') e = omega arith

  -- a place is looked at for whether it is free
  pub counts : (slots id : ℕ) (me : Me S View) (p : ℕ) → Allows Rule slots id me (word_of p) (λ n. n) (seat_counted (step slots (word_of p) 0 0 maybe.none) me)
  counts slots id me p s r _ at _ = let v = me.0 in let t = r.seats id v at in let n : ℕ = get_or s.words (word_of p) 0 in
      let stays : (asked taken : ℕ) → Rule record { words = set s.words (word_of p) (get_or s.words (word_of p) 0); homes = s.homes; views = set s.views id (record v { asked = asked; taken = taken }) } = λ asked taken.
      reads s r id v (record v { asked = asked; taken = taken }) (word_of p) at refl (record { seen = t.seen; own = t.own; published = t.published; confirmed = t.confirmed; placed = t.placed })
      (λ p' q e f l. r.passed id id v v p' q at at e f l) (λ k u p' q d a e f l. r.passed id k v u p' q at a e f l) (λ j u p' q d a e f l. r.passed j id u v p' q a at e f l) in
      dite (ℕ_discrete n 0)
      (λ free. let w : View = record v { asked = v.asked + 1 } in (w, keeps, tt, stays (v.asked + 1) v.taken, ((λ _. refl), λ found. absurd (found free))))
      (λ found. let w : View = record v { asked = v.asked + 1; taken = v.taken + 1 } in (w, keeps, tt, stays (v.asked + 1) (v.taken + 1), ((λ free. absurd (found free)), λ _. refl)))

  -- a scan that looks at its next place keeps the rule
  pub inspects : (slots id : ℕ) (me : Me S View) (p : ℕ) → me.0.passed ≡ p → Allows Rule slots id me (word_of p) (λ n. n) (seat_inspected (step slots (word_of p) 0 0 maybe.none) me)
  inspects slots id me p is s r _ at _ = let v = me.0 in let t = r.seats id v at in let n : ℕ = get_or s.words (word_of p) 0 in ⊎_elim
      (λ (by : Passes v.seen n). let w : View = record v { passed = v.passed + 1 } in
      let more : (k : ℕ) (u : View) (p' q : ℕ) → At s.views k u → u.place ≡ Some p' → u.pin ≡ Some q → p' < v.passed + 1 → v.seen ≤ q = λ k u p' q a e f l. dite (ℕ_discrete p' p)
      (λ same. clear places s.words u p q v.seen (r.seats k u a) (e ∙ ap (λ (z : ℕ). Some z) same) f by) (λ other. r.passed id k v u p' q at a e f (omega arith)) in (
        w,
        keeps,
        tt,
        reads s r id v w (word_of p) at refl record {
          seen = t.seen;
          own = t.own;
          published = t.published;
          confirmed = t.confirmed;
          placed = t.placed;
        } (λ p' q e f l. more id v p' q at e f l) (λ k u p' q d a e f l. more k u p' q a e f l) (λ j u p' q d a e f l. r.passed j id u v p' q a at e f l),
        ((λ _. refl), λ no. absurd (no by)),
      ))
      (λ (no : ¬ Passes v.seen n). (
        v,
        keeps,
        tt,
        reads s r id v v (word_of p) at refl t (λ p' q e f l. r.passed id id v v p' q at at e f l) (λ k u p' q d a e f l. r.passed id k v u p' q at a e f l) (λ j u p' q d a e f l. r.passed j id u v p' q a at e f l),
        ((λ by. absurd (no by)), λ _. refl),
      )) (passes_or v.seen n)

  -- All places were passed at the epoch that was seen, so nobody is pinned by an earlier one
  pub advances : (slots id : ℕ) (me : Me S View) (e : ℕ) → me.0.seen ≡ e → places ≤ me.0.passed → e < last
      → Allows Rule slots id me 0 (λ n. either (eqb n e) (e + 1) n) (seat_advanced (step slots 0 e (e + 1) maybe.none) me)
  advances slots id me e is all low s r _ at _ = let v = me.0 in let t = r.seats id v at in let n : ℕ = get_or s.words 0 0 in let high = r.bounded.1 in let wide = r.wide in
      dite (ℕ_discrete n e)
      (λ hit. let ws : List ℕ = set s.words 0 (e + 1) in let w : View = with_seen v (v.seen + 1) in
      let epoch : epoch_of ws ≡ e + 1 = get_or-set_same s.words 0 (e + 1) 0 (omega arith) in
      let else : (p : ℕ) → get_or ws (word_of p) 0 ≡ get_or s.words (word_of p) 0 = λ p. get_or-set_other s.words 0 (word_of p) (e + 1) 0 (λ z. omega arith) in
      let late : (k : ℕ) (u : View) (q : ℕ) → At s.views k u → u.pin ≡ Some q → e ≤ q = λ k u q a f. let b = r.seats k u a in let p = b.placed q f in let inside = (b.own p.0 p.1).0 in let z = r.passed id k v u p.0 q at a p.1 f (omega arith) in omega arith in
      let stands : (k : ℕ) (u : View) → At s.views k u → ViewHolds places ws u = λ k u a. let b = r.seats k u a in record {
        seen = (let z = b.seen in omega (arith, epoch));
        own = λ p f. ((b.own p f).0, else p ∙ (b.own p f).1);
        published = λ d f. (let z = b.published d f in omega (arith, epoch));
        confirmed = λ q f. (let c = b.confirmed q f in let c₂ = c.2 in let c₃ = c.3 in let l = late k u q a f in (c.0, c.1, c₂, omega (arith, epoch), omega (arith, epoch)));
        placed = b.placed;
      } in let mine = stands id v at in (
        w,
        keeps,
        tt,
        subst (λ b. Rule (stepped s 0 (either b (e + 1) n) id me.1 w keeps)) (sym (eq-eqb n e hit))
            (stepping s r id v w ws at (length-set s.words 0 (e + 1)) (omega (arith, epoch))
            record {
              seen = omega (arith, epoch);
              own = mine.own;
              published = mine.published;
              confirmed = mine.confirmed;
              placed = mine.placed;
            }
            (λ j u _ a. stands j u a) (λ p l h. owners s r id v at p l (let z = else p in omega (arith, z))) (λ j u p d a f g. d (r.alone j id u v p a at g f))
            (λ p q _ _ l. absurd (omega arith)) (λ k u p q _ _ _ _ l. absurd (omega arith)) (λ j u p q d a f g l. r.passed j id u v p q a at f g l)),
        ((λ _. (refl, (omega arith, omega arith, λ q f. let c = mine.confirmed q f in let c₃ = c.3 in let c₄ = c.4 in (omega (arith, epoch), omega (arith, epoch))))), λ miss. absurd (miss (hit ∙ sym is))),
      ))
      (λ miss. (
        v,
        keeps,
        tt,
        subst (λ b. Rule (stepped s 0 (either b (e + 1) n) id me.1 v keeps)) (sym (ne_eqb n e miss))
            (reads s r id v v 0 at refl t (λ p q f g l. r.passed id id v v p q at at f g l) (λ k u p q d a f g l. r.passed id k v u p q at a f g l) (λ j u p q d a f g l. r.passed j id u v p q a at f g l)),
        ((λ hit. absurd (miss (hit ∙ is))), λ _. refl),
      ))

-- what is known after a publication and its confirmation
pub pinned_after : (v v' : View) (p at q : ℕ) → v.place ≡ Some p → v' ≡ record v { at = Some at; pin = None; asked = 0; taken = 0 }
    → ◌≡◌ {A = View} (record v' { pin = Some q; seen = q; passed = 0 }) record { place = Some p; at = Some at; pin = Some q; seen = q; passed = 0; asked = 0; taken = 0 }
pinned_after v v' p at q is e = subst (λ (x : View). ◌≡◌ {A = View} (record x { pin = Some q; seen = q; passed = 0 }) record { place = Some p; at = Some at; pin = Some q; seen = q; passed = 0; asked = 0; taken = 0 }) (sym e)
    (ap (λ (z : Option ℕ). let x : View = record { place = z; at = Some at; pin = Some q; seen = q; passed = 0; asked = 0; taken = 0 } in x) is)

-- what a newcomer knows that asked for so many places in vain
abbrev pub refused_view : ℕ → ℕ → View
refused_view seen n = record (with_seen newcomer seen) { asked = n; taken = n }

-- what is known after a claim
pub placed_after : (v v' : View) (p n : ℕ) → v ≡ refused_view v.seen n → v' ≡ record v { place = Some p; asked = 0; taken = 0 } → v' ≡ record { place = Some p; at = None; pin = None; seen = v'.seen; passed = 0; asked = 0; taken = 0 }
placed_after v v' p n e f = subst (λ (x : View). x ≡ record { place = Some p; at = None; pin = None; seen = x.seen; passed = 0; asked = 0; taken = 0 }) (sym f)
    (subst (λ (x : View). ◌≡◌ {A = View} (record x { place = Some p; asked = 0; taken = 0 }) record { place = Some p; at = None; pin = None; seen = x.seen; passed = 0; asked = 0; taken = 0 }) (sym e) refl)

-- and after one that was in vain
pub refused_after : (v v' : View) (n : ℕ) → v ≡ refused_view v.seen n → v' ≡ record v { asked = v.asked + 1; taken = v.taken + 1 } → v' ≡ refused_view v'.seen (n + 1)
refused_after v v' n e f = subst (λ (x : View). x ≡ refused_view x.seen (n + 1)) (sym f) (subst (λ (x : View). ◌≡◌ {A = View} (record x { asked = x.asked + 1; taken = x.taken + 1 }) (refused_view x.seen (n + 1))) (sym e) refl)

-- while a pin is confirmed the epoch is that one or one more, and no seal from then on is two behind what a seat has seen
pub graceful : PinsHoldEpoch
graceful places last s j k q seal v u r a b pin = let c = (r.seats j v a).confirmed q pin in let high = c.4 in let seen = (r.seats k u b).seen in (c.3, c.4, omega arith, λ late due. omega arith)
