-- Each step keeps the rule.
use Rattle.std.proofs.Common.{◌≡◌, ◌≢◌, ℕ, ◌+◌, ◌-◌, ◌/◌, ◌%◌, ◌<◌, ◌≤◌, eqb, true, false, List, [], ◌∷◌, ◌++◌, length, get_or, set, replicate, sym, refl, ap, ◌∙◌, subst, ⊎_elim, arith, le_refl, le_of_eq, length-set, length-append, get_or-set_other, get_or-set_same, eq-eqb, ne_eqb}
use Rattle.std.proofs.lemmas.List.{length-replicate}
use mathlib.Core.Logic.{dite}
use mathlib.Core.Option.{some, none, some-injective}
use mathlib.Core.List.{append-nil}
use native.Mathlib.Decide.{ℕ_discrete}
use lib.Seq.{set-get_or}
use prog.Atomic.{either}
use Rattle.atomic_table.specs.Table.{State, Me, step, keeps, stepped, Allows, Enters, Splits, Joins, opening}
use Rattle.atomic_table.proofs.Lists.{at_set, set_again}
use Rattle.optimistic.specs.Layout.{width, is_link}
use Rattle.optimistic.specs.declared.words.rule.Block.{Block}
use Rattle.optimistic.specs.declared.words.rule.Entry.{Entry}
use Rattle.optimistic.specs.declared.words.rule.Moment.{Moment}
use Rattle.optimistic.specs.declared.words.rule.Note.{Note}
use Rattle.optimistic.specs.declared.words.rule.Plot.{Plot}
use Rattle.optimistic.specs.declared.words.rule.Tenure.{Tenure}
use Rattle.optimistic.specs.declared.words.rule.View.{View}
use Rattle.optimistic.specs.words.Kept.{word_at, version_at, form_at, size, calm_at, has, calls_by, Calm, Since, Follows, SameWords, Names, Laid, Sound, Fits, moment, nothing, view_of, plot, first_words, first_calm, first_moment, newcomer, At, Kept}
use Rattle.optimistic.specs.words.Told.{Good, HasForm, Tells, tenure, decided, also, settled, HasAlso, Looks, Unlocks, MayUnlock, IsDrafted, arrived, looked, locked, stored, unlocked, released, carved, noted, with_told, heeded}
use Rattle.optimistic.proofs.lemmas.words.Moments.{width_some, width_four, no_width, link_some, version_word, zeros, zero_words, at_inside, at_end, has_here, has_else, calm_here, calm_else, form_here, form_else, calls_on, own_calls, other_calls, calm_refl, calm_trans, also_else, size_since, inside_since, since_refl, since_trans, since_follows, follows_since, follows_nothing, held_version, at_nothing, names_since}

-- a word of a node is written
set_here : (words : List ℕ) (q n i x : ℕ) → q ≡ n + i → q < length words → word_at (set words q x) n i ≡ x
set_here words q n i x e l = ap (λ (z : ℕ). get_or (set words q x) z 0) (sym e) ∙ get_or-set_same words q x 0 l

-- a word of a node lies within all
inside_words : (m : Moment) → Laid m → (n j : ℕ) → j < size m.plots n → n + j < length m.words
inside_words m laid n j l = let a : n + j < get_or m.words 0 0 = laid.below n j l in let b : get_or m.words 0 0 ≤ length m.words = laid.bound in omega arith

-- the end stays where a word of a node is written
end_stays : (words : List ℕ) (q x : ℕ) → 0 < q → get_or (set words q x) 0 0 ≡ get_or words 0 0
end_stays words q x some_word = get_or-set_other words q 0 x 0 (λ (e : 0 ≡ q). omega arith)

module _ (m : Moment) (laid : Laid m) (n i q x : ℕ) (is : q ≡ n + i) (here : i < size m.plots n) where
  -- the words of others, and the others of its own
  pub set_else : (p j : ℕ) → j < size m.plots p → (p ≡ n → j ≢ i) → word_at (set m.words q x) p j ≡ word_at m.words p j
  set_else p j l ne = get_or-set_other m.words q (p + j) x 0 (λ (e : p + j ≡ q). let same : p ≡ n = laid.apart p n j i l here (e ∙ is) in ne same (omega arith))

  pub set_laid : (calm : List Block) (log : List Entry) → ((p j : ℕ) → size m.plots p ≡ 0 → calm_at calm p j ≡ 0) → Laid (moment (set m.words q x) m.plots calm log)
  set_laid calm log new = let end : ℕ = get_or m.words 0 0 in
      let own : n + i < end = laid.below n i here in
      let some_n : 0 < n = laid.above n (let h : i < size m.plots n = here in omega arith) in
      let same : get_or (set m.words q x) 0 0 ≡ end = get_or-set_other m.words q 0 x 0 (λ (e : 0 ≡ q). omega arith) in
      record {
        apart = laid.apart;
        above = laid.above;
        below = λ p j l. subst (λ (z : ℕ). p + j < z) (sym same) (laid.below p j l);
        bound = let a : end ≤ length m.words = laid.bound in let b : length (set m.words q x) ≡ length m.words = length-set m.words q x in omega arith;
        clear = λ k l. let l' : end ≤ k = subst (λ (z : ℕ). z ≤ k) same l in get_or-set_other m.words q k x 0 (λ (e : k ≡ q). omega arith) ∙ laid.clear k l';
        new = new;
      }

  pub set_links : ((p j : ℕ) → j < size m.plots p → is_link (form_at m.plots p) j ≡ true → Names m.plots (word_at m.words p j)) → (is_link (form_at m.plots n) i ≡ true → Names m.plots x)
      → (p j : ℕ) → j < size m.plots p → is_link (form_at m.plots p) j ≡ true → Names m.plots (word_at (set m.words q x) p j)
  set_links links tells p j l link = dite (ℕ_discrete p n)
      (λ (same : p ≡ n). dite (ℕ_discrete j i)
      (λ (at : j ≡ i). let e : word_at (set m.words q x) p j ≡ x = (λ k. word_at (set m.words q x) (same k) (at k)) ∙ set_here m.words q n i x is (let a : n + i < length m.words = inside_words m laid n i here in omega arith) in
      subst (Names m.plots) (sym e) (tells ((λ k. is_link (form_at m.plots (sym same k)) (sym at k)) ∙ link)))
      (λ ne. subst (Names m.plots) (sym (set_else p j l (λ _. ne))) (links p j l link)))
      (λ ne. subst (Names m.plots) (sym (set_else p j l (λ e. absurd (ne e)))) (links p j l link))

  pub set_same : (p : ℕ) → p ≢ n → SameWords p m (moment (set m.words q x) m.plots m.calm m.log)
  set_same p ne j l = set_else p j l (λ e. absurd (ne e))

pub first_wide : (count : ℕ) → length (first_words count) ≡ count
first_wide count = length-set (set (replicate count 0) 0 536) 17 32 ∙ (length-set (replicate count 0) 0 536 ∙ length-replicate count 0)

module _ (good : Good) (count : ℕ) where
  abbrev St : Type 0
  St = State Note View

  abbrev Rule : St → Type 0
  Rule = Kept good count

  abbrev now : (s : St) → Rule s → Moment
  now s k = moment s.words k.plots k.calm k.log

  -- who has a node is a thread
  works : (s : St) (k : Rule s) (i : ℕ) (u : View) (n : ℕ) → At s.views i u → has u.mine n ≡ true → 0 < u.by
  works s k i u n at h = dite (ℕ_discrete u.by 0) (λ none. absurd (let e : has [] n ≡ true = ap (λ (l : List Tenure). has l n) (sym (k.idle i u at none)) ∙ h in grind arith)) (λ ne. omega arith)

  -- a node that some thread has is a node, and locked
  owned : (s : St) (k : Rule s) (i : ℕ) (u : View) (n : ℕ) → At s.views i u → has u.mine n ≡ true → (0 < size k.plots n) × (version_at s.words n % 2 ≡ 1)
  owned s k i u n at h = let f = k.each i u at (works s k i u n at h) in let o = f.odd n h in (inside_since u.seen (now s k) f.since n 0 o.0, ap (λ (z : ℕ). z % 2) (held_version u.mine u.seen (now s k) f.held n o.0 h) ∙ o.1)

  -- a node of another thread is not this one's
  not_both : (s : St) (k : Rule s) (id i : ℕ) (v u : View) (n p : ℕ) → At s.views id v → At s.views i u → i ≢ id → has v.mine n ≡ true → has u.mine p ≡ true → p ≢ n
  not_both s k id i v u n p at at' ne h h' e = ne (k.alone i id u v p at' at h' (ap (λ (z : ℕ). has v.mine z) e ∙ h))

  -- A step of one thread: the others keep what they know, and this one knows the moment after
  advance : (s : St) (k : Rule s) (id : ℕ) (v : View) (words : List ℕ) (plots : List Plot) (calm : List Block) (log : List Entry) (mine : List Tenure) (made : List Entry) → At s.views id v → 0 < v.by → length words ≡ length s.words
      → Sound good (moment words plots calm log) → Since (now s k) (moment words plots calm log)
      → ((i : ℕ) (u : View) (n : ℕ) → At s.views i u → i ≢ id → has u.mine n ≡ true → SameWords n (now s k) (moment words plots calm log) × Calm n (now s k) (moment words plots calm log))
      → ((i : ℕ) (u : View) (n : ℕ) → At s.views i u → i ≢ id → has u.mine n ≡ true → has mine n ≡ true → ⊥)
      → ((n : ℕ) → has mine n ≡ true → (0 < size plots n) × (version_at words n % 2 ≡ 1)) → calls_by id log ≡ made → ((by : ℕ) → by ≢ id → calls_by by log ≡ calls_by by k.log)
      → Rule record { words = words; homes = s.homes; views = set s.views id (view_of (moment words plots calm log) mine made v.by) }
  advance s k id v words plots calm log mine made at pos long sound since quiet apart odd own others = let m : Moment = moment words plots calm log in let w : View = view_of m mine made v.by in record {
    plots = plots;
    calm = calm;
    log = log;
    wide = long ∙ k.wide;
    sound = sound;
    some = let l = at_inside s.views id v at in let n : length (set s.views id w) ≡ length s.views = length-set s.views id w in omega arith;
    idle = λ i u e none. ⊎_elim
        (λ (t : (i ≡ id) × (w ≡ u)). absurd (let z : v.by ≡ 0 = ap (λ (x : View). x.by) t.1 ∙ none in omega arith))
        (λ (t : (i ≢ id) × At s.views i u). k.idle i u t.1 none)
        (at_set s.views id i w u e);
    told = λ i u e. ⊎_elim
        (λ (t : (i ≡ id) × (w ≡ u)). subst (λ (x : View). Follows x.told m) t.1 (follows_nothing m))
        (λ (t : (i ≢ id) × At s.views i u). follows_since u.told (now s k) m (k.told i u t.1) since)
        (at_set s.views id i w u e);
    each = λ i u e some. ⊎_elim
        (λ (t : (i ≡ id) × (w ≡ u)). subst (λ (z : ℕ × View). Fits good z.0 z.1 m) (λ x. (sym t.0 x, t.1 x))
        record { sound = sound; since = since_refl m; held = λ n h. ((λ j l. refl), calm_refl n m); odd = odd; calls = own; named = (k.each id v at pos).named })
        (λ (t : (i ≢ id) × At s.views i u). let f = k.each i u t.1 some in
        record { sound = f.sound; since = since_trans u.seen (now s k) m f.since since; held = λ n h. let a = f.held n h in let b = quiet i u n t.1 t.0 h in ((λ j l. b.0 j (inside_since u.seen (now s k) f.since n j l) ∙ a.0 j l), calm_trans n u.seen (now s k) m a.1 b.1); odd = f.odd; calls = others i t.0 ∙ f.calls; named = f.named })
        (at_set s.views id i w u e);
    alone = λ i j x y n e f h h'. ⊎_elim
        (λ (t : (i ≡ id) × (w ≡ x)). ⊎_elim (λ (r : (j ≡ id) × (w ≡ y)). t.0 ∙ sym r.0)
        (λ (r : (j ≢ id) × At s.views j y). absurd (apart j y n r.1 r.0 h' (subst (λ (z : View). has z.mine n ≡ true) (sym t.1) h))) (at_set s.views id j w y f))
        (λ (t : (i ≢ id) × At s.views i x). ⊎_elim (λ (r : (j ≡ id) × (w ≡ y)). absurd (apart i x n t.1 t.0 h (subst (λ (z : View). has z.mine n ≡ true) (sym r.1) h')))
        (λ (r : (j ≢ id) × At s.views j y). k.alone i j x y n t.1 r.1 h h') (at_set s.views id j w y f)) (at_set s.views id i w x e);
    strangers = λ by far. let n : length (set s.views id w) ≡ length s.views = length-set s.views id w in let l = at_inside s.views id v at in let far' : length s.views ≤ by = omega arith in
        others by (λ (e : by ≡ id). omega arith) ∙ k.strangers by far';
  }

  own_calls_now : (s : St) (k : Rule s) (id : ℕ) (v : View) → At s.views id v → 0 < v.by → calls_by v.by k.log ≡ v.made
  own_calls_now s k id v at pos = let f = k.each id v at pos in ap (λ (z : ℕ). calls_by z k.log) f.named ∙ f.calls

  -- A step that changes nothing
  looks_on : (s : St) (k : Rule s) (id i : ℕ) (me : Me Note View) → At s.views id me.0 → 0 < me.0.by → Rule (stepped s i (get_or s.words i 0) id me.1 (view_of (now s k) me.0.mine me.0.made me.0.by) keeps) × Looks good me.0 (view_of (now s k) me.0.mine me.0.made me.0.by)
  looks_on s k id i me at pos = let m : Moment = now s k in let w : View = view_of m me.0.mine me.0.made me.0.by in let f = k.each id me.0 at pos in (
    subst (λ (ws : List ℕ). Rule record { words = ws; homes = s.homes; views = set s.views id w }) (sym (set-get_or s.words i 0))
        (advance s k id me.0 s.words k.plots k.calm k.log me.0.mine me.0.made at pos refl k.sound (since_refl m) (λ _ _ n _ _ _. ((λ j l. refl), calm_refl n m)) (λ i u n e ne h h'. ne (k.alone i id u me.0 n e at h h')) (λ n h. owned s k id me.0 n at h) f.calls (λ by _. refl)),
    record { since = f.since; held = f.held; sound = k.sound; mine = refl; made = refl; own = (refl, own_calls_now s k id me.0 at pos) },
  )

  pub looks : (slots id : ℕ) (me : Me Note View) (i : ℕ) → 0 < me.0.by → Allows Rule slots id me i (λ x. x) (looked good (step slots i 0 0 none) me)
  looks slots id me i pos s k _ at _ = let t = looks_on s k id i me at pos in (view_of (now s k) me.0.mine me.0.made me.0.by, keeps, tt, t.0, (refl, t.1, refl))

  -- A step that changes nothing, of a hand that was told a beginning of the log
  pub heeds : (slots id : ℕ) (me : Me Note View) (i : ℕ) → 0 < me.0.by → Allows Rule slots id me i (λ x. x) (heeded good (step slots i 0 0 none) me)
  heeds slots id me i pos s k _ at _ = let t = looks_on s k id i me at pos in (view_of (now s k) me.0.mine me.0.made me.0.by, keeps, tt, t.0, (refl, t.1, k.told id me.0 at))

  no_tenure : (n : ℕ) → has [] n ≡ true → ⊥
  no_tenure n e = grind arith

  -- a hand more
  enters : (s : St) (k : Rule s) (w : View) → w.mine ≡ [] → Follows w.told (now s k) → (0 < w.by → Fits good (length s.views) w (now s k)) → Rule record { words = s.words; homes = s.homes; views = s.views ++ w ∷ [] }
  enters s k w nothing begins fits = let bare : (n : ℕ) (u : View) → w ≡ u → has u.mine n ≡ true → ⊥ = λ n u e h. no_tenure n (ap (λ (l : List Tenure). has l n) (sym nothing) ∙ (ap (λ (x : View). has x.mine n) e ∙ h)) in
      record {
        plots = k.plots;
        calm = k.calm;
        log = k.log;
        wide = k.wide;
        sound = k.sound;
        some = let n : length (s.views ++ w ∷ []) ≡ length s.views + 1 = length-append s.views (w ∷ []) in omega arith;
        each = λ i u e some. ⊎_elim (λ (t : At s.views i u). k.each i u t some)
            (λ (t : (i ≡ length s.views) × (w ≡ u)). subst (λ (z : ℕ × View). Fits good z.0 z.1 (now s k)) (λ x. (sym t.0 x, t.1 x)) (fits (subst (λ (x : View). 0 < x.by) (sym t.1) some)))
            (at_end s.views w u i e);
        idle = λ i u e none. ⊎_elim (λ (t : At s.views i u). k.idle i u t none) (λ (t : (i ≡ length s.views) × (w ≡ u)). ap (λ (x : View). x.mine) (sym t.1) ∙ nothing) (at_end s.views w u i e);
        told = λ i u e. ⊎_elim (λ (t : At s.views i u). k.told i u t) (λ (t : (i ≡ length s.views) × (w ≡ u)). subst (λ (x : View). Follows x.told (now s k)) t.1 begins) (at_end s.views w u i e);
        alone = λ i j x y n e f h h'. ⊎_elim
            (λ (t : At s.views i x). ⊎_elim (λ (r : At s.views j y). k.alone i j x y n t r h h') (λ (r : (j ≡ length s.views) × (w ≡ y)). absurd (bare n y r.1 h')) (at_end s.views w y j f))
            (λ (t : (i ≡ length s.views) × (w ≡ x)). absurd (bare n x t.1 h)) (at_end s.views w x i e);
        strangers = λ by far. let n : length (s.views ++ w ∷ []) ≡ length s.views + 1 = length-append s.views (w ∷ []) in let far' : length s.views ≤ by = omega arith in k.strangers by far';
      }

  -- a hand that knows something else, and has no node that it hadn't
  changes : (s : St) (k : Rule s) (id : ℕ) (v w : View) → At s.views id v → ((n : ℕ) → has w.mine n ≡ true → has v.mine n ≡ true) → (w.by ≡ 0 → w.mine ≡ []) → Follows w.told (now s k) → (0 < w.by → Fits good id w (now s k))
      → Rule record { words = s.words; homes = s.homes; views = set s.views id w }
  changes s k id v w at less bare begins fits = let had : (i n : ℕ) (u : View) → (i ≡ id) × (w ≡ u) → has u.mine n ≡ true → At s.views i v × (has v.mine n ≡ true) = λ i n u t h. (subst (λ (z : ℕ). At s.views z v) (sym t.0) at, less n (ap (λ (x : View). has x.mine n) t.1 ∙ h)) in
      record {
        plots = k.plots;
        calm = k.calm;
        log = k.log;
        wide = k.wide;
        sound = k.sound;
        some = let l = at_inside s.views id v at in let n : length (set s.views id w) ≡ length s.views = length-set s.views id w in omega arith;
        each = λ i u e some. ⊎_elim
            (λ (t : (i ≡ id) × (w ≡ u)). subst (λ (z : ℕ × View). Fits good z.0 z.1 (now s k)) (λ x. (sym t.0 x, t.1 x)) (fits (subst (λ (x : View). 0 < x.by) (sym t.1) some)))
            (λ (t : (i ≢ id) × At s.views i u). k.each i u t.1 some) (at_set s.views id i w u e);
        idle = λ i u e none. ⊎_elim (λ (t : (i ≡ id) × (w ≡ u)). ap (λ (x : View). x.mine) (sym t.1) ∙ bare (ap (λ (x : View). x.by) t.1 ∙ none)) (λ (t : (i ≢ id) × At s.views i u). k.idle i u t.1 none) (at_set s.views id i w u e);
        told = λ i u e. ⊎_elim (λ (t : (i ≡ id) × (w ≡ u)). subst (λ (x : View). Follows x.told (now s k)) t.1 begins) (λ (t : (i ≢ id) × At s.views i u). k.told i u t.1) (at_set s.views id i w u e);
        alone = λ i j x y n e f h h'. ⊎_elim
            (λ (t : (i ≡ id) × (w ≡ x)). let a = had i n x t h in ⊎_elim (λ (r : (j ≡ id) × (w ≡ y)). t.0 ∙ sym r.0) (λ (r : (j ≢ id) × At s.views j y). k.alone i j v y n a.0 r.1 a.1 h') (at_set s.views id j w y f))
            (λ (t : (i ≢ id) × At s.views i x). ⊎_elim (λ (r : (j ≡ id) × (w ≡ y)). let a = had j n y r h' in k.alone i j x v n t.1 a.0 h a.1) (λ (r : (j ≢ id) × At s.views j y). k.alone i j x y n t.1 r.1 h h') (at_set s.views id j w y f))
            (at_set s.views id i w x e);
        strangers = λ by far. let n : length (set s.views id w) ≡ length s.views = length-set s.views id w in let far' : length s.views ≤ by = omega arith in k.strangers by far';
      }

  pub arrives : (slots : ℕ) → Enters Rule slots 0 (λ x w. arrived good (step slots 0 0 0 none) (newcomer count, []) x (w, []))
  arrives slots s k _ _ = let m : Moment = now s k in let w : View = view_of m [] [] (length s.views) in let none = k.strangers (length s.views) (le_refl (length s.views)) in (
    w,
    enters s k w refl (follows_nothing m) (λ _. record { sound = k.sound; since = since_refl m; held = λ n h. absurd (no_tenure n h); odd = λ n h. absurd (no_tenure n h); calls = none; named = refl }),
    (refl, k.wide ∙ sym (first_wide count), (k.sound, refl, refl, none), k.some),
  )

  -- a hand tells what it has seen of the log
  pub notes : (id : ℕ) (v : View) → 0 < v.by → Splits Rule id v v (noted v.seen)
  notes id v pos s k at = subst (λ (l : List View). Rule record { words = s.words; homes = s.homes; views = l ++ noted v.seen ∷ [] }) (sym (set_again s.views id v at))
      (enters s k (noted v.seen) refl (since_follows v.seen (now s k) (k.each id v at pos).since) (λ (l : 0 < 0). absurd (omega arith)))

  -- a hand was told what another was
  pub joins : (id other : ℕ) (v w : View) → 0 < v.by → Joins Rule id v other w (with_told v w) (noted nothing)
  joins id other v w pos s k at ne at' = let u : View = with_told v w in let f = k.each id v at pos in
      let was : At s.views other w = ⊎_elim (λ (t : (other ≡ id) × (u ≡ w)). absurd (ne t.0)) (λ (t : (other ≢ id) × At s.views other w). t.1) (at_set s.views id other u w at') in
      let one : Rule record { words = s.words; homes = s.homes; views = set s.views id u } = changes s k id v u at (λ n h. h) (λ (e : v.by ≡ 0). absurd (omega arith)) (k.told other w was)
      (λ _. record { sound = f.sound; since = f.since; held = f.held; odd = f.odd; calls = f.calls; named = f.named }) in
      changes record { words = s.words; homes = s.homes; views = set s.views id u } one other w (noted nothing) at' (λ n h. absurd (no_tenure n h)) (λ _. refl) (follows_nothing (now record { words = s.words; homes = s.homes; views = set s.views id u } one)) (λ (l : 0 < 0). absurd (omega arith))

  pub locks : (slots id : ℕ) (me : Me Note View) (n old new : ℕ) → 0 < me.0.by → 0 < size me.0.seen.plots n → old % 2 ≡ 0 → new ≡ old + 1
      → Allows Rule slots id me n (λ x. either (eqb x old) new x) (locked good (step slots n old new none) me)
  locks slots id me n old new pos known even up s k _ at _ = let x : ℕ = version_at s.words n in let m : Moment = now s k in let v : View = me.0 in let f = k.each id v at pos in dite (ℕ_discrete x old)
      (λ hit. let words : List ℕ = set s.words n new in let m' : Moment = moment words k.plots k.calm k.log in let w : View = view_of m' (tenure n true ∷ v.mine) v.made v.by in
      let laid = k.sound.laid in
      let some_word : 0 < size k.plots n = inside_since v.seen m f.since n 0 known in
      let is : n ≡ n + 0 = omega arith in
      let low : n + 0 < length s.words = inside_words m laid n 0 some_word in
      let here : version_at words n ≡ new = get_or-set_same s.words n new 0 (omega arith) in
      let else_version : (p : ℕ) → p ≢ n → version_at words p ≡ version_at s.words p = λ p ne. get_or-set_other s.words n p new 0 ne in
      let else_word : (p j : ℕ) → j < size k.plots p → p ≢ n → word_at words p j ≡ word_at s.words p j = λ p j l ne. set_else m laid n 0 n new is some_word p j l (λ e. absurd (ne e)) in
      let own_word : (j : ℕ) → 0 < j → word_at words n j ≡ word_at s.words n j = λ j l. get_or-set_other s.words n (n + j) new 0 (λ (e : n + j ≡ n). omega arith) in
      let x_even : x % 2 ≡ 0 = ap (λ (z : ℕ). z % 2) hit ∙ even in
      let free : (i : ℕ) (u : View) (p : ℕ) → At s.views i u → has u.mine p ≡ true → p ≢ n = λ i u p e h same. let o : x % 2 ≡ 1 = ap (λ (z : ℕ). version_at s.words z % 2) (sym same) ∙ (owned s k i u p e h).1 in omega arith in
      let sound : Sound good m' = record {
        rests = λ p j l l' e. dite (ℕ_discrete p n)
            (λ (same : p ≡ n). let e' : new % 2 ≡ 0 = ap (λ (z : ℕ). z % 2) (sym here) ∙ (ap (λ (z : ℕ). version_at words z % 2) (sym same) ∙ e) in absurd (omega arith))
            (λ ne. k.sound.rests p j l l' (ap (λ (z : ℕ). z % 2) (sym (else_version p ne)) ∙ e) ∙ sym (else_word p j l' ne));
        means = k.sound.means;
        laid = set_laid m laid n 0 n new is some_word k.calm k.log laid.new;
        root = k.sound.root;
        links = set_links m laid n 0 n new is some_word k.sound.links (λ t. absurd (link_some (form_at k.plots n) 0 t refl));
      } in
      let since : Since m m' = record {
        log = ([], sym (append-nil k.log));
        wide = length-set s.words n new;
        plots = λ p _. refl;
        end = le_of_eq (sym (end_stays s.words n new (laid.above n some_word)));
        grows = λ p _. dite (ℕ_discrete p n) (λ same. subst (λ (z : ℕ). version_at s.words z ≤ version_at words z) (sym same) (let a : version_at s.words n ≡ old = hit in let b : version_at words n ≡ new = here in omega arith)) (λ ne. le_of_eq (sym (else_version p ne)));
        still = λ p _ _ _. calm_refl p m;
      } in (
        w,
        keeps,
        tt,
        subst (λ b. Rule (stepped s n (either b new x) id me.1 w keeps)) (sym (eq-eqb x old hit))
            (advance s k id v words k.plots k.calm k.log (tenure n true ∷ v.mine) v.made at pos (length-set s.words n new) sound since (λ i u p e ne h. ((λ j l. else_word p j l (free i u p e h)), calm_refl p m))
            (λ i u p e ne h h'. let other = free i u p e h in ne (k.alone i id u v p e at h (sym (has_else n p true v.mine (λ q. other (sym q))) ∙ h')))
            (λ p h. dite (ℕ_discrete p n) (λ (same : p ≡ n). (subst (λ (z : ℕ). 0 < size k.plots z) (sym same) some_word, ap (λ (z : ℕ). version_at words z % 2) same ∙ (ap (λ (z : ℕ). z % 2) here ∙ (let o : new % 2 ≡ 1 = omega arith in o))))
            (λ ne. let o = owned s k id v p at (sym (has_else n p true v.mine (λ q. ne (sym q))) ∙ h) in (o.0, ap (λ (z : ℕ). z % 2) (else_version p ne) ∙ o.1)))
            f.calls (λ by _. refl)),
        (
          refl,
          since_trans v.seen m m' f.since since,
          (λ _. record {
            since = since_trans v.seen m m' f.since since;
            held = λ p h. let a = f.held p h in ((λ j l. else_word p j (inside_since v.seen m f.since p j l) (free id v p at h) ∙ a.0 j l), a.1);
            sound = sound;
            mine = refl;
            made = refl;
            own = (refl, own_calls_now s k id v at pos);
            version = here ∙ up;
            before = let g : version_at v.seen.words n ≤ x = f.since.grows n known in let h : x ≡ old = hit in omega arith;
            taken = λ e. f.since.still n known (ap (λ (z : ℕ). z % 2) e ∙ even) (e ∙ sym hit);
            rests = λ j l l'. own_word j l ∙ sym (k.sound.rests n j l l' x_even);
          }),
          (λ miss. absurd (miss hit)),
          refl,
        ),
      ))
      (λ miss. let t = looks_on s k id n me at pos in let w : View = view_of m v.mine v.made v.by in (
        w,
        keeps,
        tt,
        subst (λ b. Rule (stepped s n (either b new x) id me.1 w keeps)) (sym (ne_eqb x old miss)) t.0,
        (refl, f.since, (λ hit. absurd (miss hit)), (λ _. t.1), refl),
      ))

  pub puts : (slots id : ℕ) (me : Me Note View) (n form j q y : ℕ) → 0 < me.0.by → has me.0.mine n ≡ true → HasForm n form me.0 → 0 < j → j < width form → q ≡ n + j → (is_link form j ≡ true → Tells y me.0)
      → Allows Rule slots id me q (λ _. y) (λ _. stored good (step slots q y 0 none) me y)
  puts slots id me n form j q y pos own_it known some_word low is tells s k _ at _ = let m : Moment = now s k in let v : View = me.0 in let f = k.each id v at pos in let laid = k.sound.laid in
      let words : List ℕ = set s.words q y in let m' : Moment = moment words k.plots k.calm k.log in let w : View = view_of m' v.mine v.made v.by in
      let inside_v : j < size v.seen.plots n = subst (λ (z : ℕ). j < width z) (sym known.is) low in
      let inside : j < size k.plots n = inside_since v.seen m f.since n j inside_v in
      let low' : n + j < length s.words = inside_words m laid n j inside in
      let form_k : form_at k.plots n ≡ form = f.since.plots n (omega arith) ∙ known.is in
      let version : (p : ℕ) → 0 < size k.plots p → version_at words p ≡ version_at s.words p = λ p l. version_word words p ∙ (set_else m laid n j q y is inside p 0 l (λ _ (e : 0 ≡ j). omega arith) ∙ sym (version_word s.words p)) in
      let else_word : (p i : ℕ) → i < size k.plots p → p ≢ n → word_at words p i ≡ word_at s.words p i = λ p i l ne. set_else m laid n j q y is inside p i l (λ e. absurd (ne e)) in
      let n_odd : version_at s.words n % 2 ≡ 1 = (owned s k id v n at own_it).1 in
      let sound : Sound good m' = record {
        rests = λ p i l l' e. let some_p : 0 < size k.plots p = omega arith in let e' : version_at s.words p % 2 ≡ 0 = ap (λ (z : ℕ). z % 2) (sym (version p some_p)) ∙ e in
            let ne : p ≢ n = λ same. let o : version_at s.words p % 2 ≡ 1 = ap (λ (z : ℕ). version_at s.words z % 2) same ∙ n_odd in omega arith in k.sound.rests p i l l' e' ∙ sym (else_word p i l' ne);
        means = k.sound.means;
        laid = set_laid m laid n j q y is inside k.calm k.log laid.new;
        root = k.sound.root;
        links = set_links m laid n j q y is inside k.sound.links (λ link l l'. let t : HasForm (y / 256) (y % 16) v = tells (ap (λ (z : ℕ). is_link z j) (sym form_k) ∙ link) l l' in
            f.since.plots (y / 256) (subst (λ (z : ℕ). 0 < width z) (sym t.is) (width_some (y % 16) l l')) ∙ t.is);
      } in
      let since : Since m m' = record { log = ([], sym (append-nil k.log)); wide = length-set s.words q y; plots = λ p _. refl; end = le_of_eq (sym (end_stays s.words q y (let a : 0 < n = laid.above n (omega arith) in omega arith))); grows = λ p l. le_of_eq (sym (version p l)); still = λ p _ _ _. calm_refl p m } in (
        w,
        keeps,
        tt,
        advance s k id v words k.plots k.calm k.log v.mine v.made at pos (length-set s.words q y) sound since (λ o u p e ne h. ((λ i l. else_word p i l (not_both s k id o v u n p at e ne own_it h)), calm_refl p m))
            (λ o u p e ne h h'. ne (k.alone o id u v p e at h h')) (λ p h. let o = owned s k id v p at h in (o.0, ap (λ (z : ℕ). z % 2) (version p o.0) ∙ o.1)) f.calls (λ by _. refl),
        (
          refl,
          record {
            since = since_trans v.seen m m' f.since since;
            sound = sound;
            mine = refl;
            made = refl;
            own = (refl, own_calls_now s k id v at pos);
            here = get_or-set_same s.words q y 0 (omega arith);
            others = λ p i h l ne. get_or-set_other s.words q (p + i) y 0 ne ∙ (f.held p h).0 i l;
            calm = λ p h. (f.held p h).1;
          },
        ),
      )

  pub unlocks : (slots id : ℕ) (me : Me Note View) (n ver new : ℕ) (note : Note) → 0 < me.0.by → has me.0.mine n ≡ true → version_at me.0.seen.words n ≡ ver → new ≡ ver + 1
      → HasAlso me.0.mine note.first → HasAlso me.0.mine note.second → HasAlso me.0.mine note.third → MayUnlock good n note me.0
      → Allows Rule slots id me n (λ x. either (eqb x ver) new x) (unlocked good (step slots n ver new (some note)) me)
  unlocks slots id me n ver new note pos own_it is_ver up one two three may s k _ at _ = let x : ℕ = version_at s.words n in let m : Moment = now s k in let v : View = me.0 in let f = k.each id v at pos in let laid = k.sound.laid in
      let own = f.odd n own_it in
      let some_word : 0 < size k.plots n = (owned s k id v n at own_it).0 in
      let hit : x ≡ ver = held_version v.mine v.seen m f.held n own.0 own_it ∙ is_ver in
      let is : n ≡ n + 0 = omega arith in
      let low : n + 0 < length s.words = inside_words m laid n 0 some_word in
      let words : List ℕ = set s.words n new in let calm : List Block = settled n note s.words k.calm in let log : List Entry = k.log ++ decided v.by note.entry in
      let made : List Entry = v.made ++ decided v.by note.entry in let mine : List Tenure = tenure n false ∷ v.mine in
      let m' : Moment = moment words k.plots calm log in let w : View = view_of m' mine made v.by in
      let here : version_at words n ≡ new = get_or-set_same s.words n new 0 (omega arith) in
      let else_version : (p : ℕ) → p ≢ n → version_at words p ≡ version_at s.words p = λ p ne. get_or-set_other s.words n p new 0 ne in
      let else_word : (p j : ℕ) → j < size k.plots p → p ≢ n → word_at words p j ≡ word_at s.words p j = λ p j l ne. set_else m laid n 0 n new is some_word p j l (λ e. absurd (ne e)) in
      let own_word : (j : ℕ) → 0 < j → word_at words n j ≡ word_at s.words n j = λ j l. get_or-set_other s.words n (n + j) new 0 (λ (e : n + j ≡ n). omega arith) in
      let other_mine : (p : ℕ) → p ≢ n → has mine p ≡ has v.mine p = λ p ne. has_else n p false v.mine (λ q. ne (sym q)) in
      let not_here : (p : ℕ) → has mine p ≡ true → p ≢ n = λ p h same. let a : has mine n ≡ true = ap (λ (z : ℕ). has mine z) (sym same) ∙ h in let b : false ≡ true = sym (has_here n false v.mine) ∙ a in grind arith in
      let under_two : List Block = also note.third s.words k.calm in
      let under_one : List Block = also note.second s.words under_two in
      let under : List Block = also note.first s.words under_one in
      let else_calm : (p : ℕ) → (has v.mine p ≡ true → ⊥) → (j : ℕ) → calm_at calm p j ≡ calm_at k.calm p j = λ p not j. let ne : n ≢ p = λ q. not (ap (λ (z : ℕ). has v.mine z) (sym q) ∙ own_it) in
      calm_else n p s.words under j ne ∙ (also_else v.mine note.first s.words under_one p one not j ∙ (also_else v.mine note.second s.words under_two p two not j ∙ also_else v.mine note.third s.words k.calm p three not j)) in
      let even_not : (p : ℕ) → version_at s.words p % 2 ≡ 0 → has v.mine p ≡ true → ⊥ = λ p even h. let o = (owned s k id v p at h).1 in omega arith in
      let no_node : (p : ℕ) → size k.plots p ≡ 0 → has v.mine p ≡ true → ⊥ = λ p none h. let o : 0 < size k.plots p = (owned s k id v p at h).0 in omega arith in
      let sound : Sound good m' = record {
        rests = λ p j l l' e. dite (ℕ_discrete p n)
            (λ (same : p ≡ n). subst (λ (z : ℕ). calm_at calm z j ≡ word_at words z j) (sym same) (calm_here n s.words under j ∙ sym (own_word j l)))
            (λ ne. let even : version_at s.words p % 2 ≡ 0 = ap (λ (z : ℕ). z % 2) (sym (else_version p ne)) ∙ e in else_calm p (even_not p even) j ∙ (k.sound.rests p j l l' even ∙ sym (else_word p j l' ne)));
        means = may m f.since f.held k.sound;
        laid = set_laid m laid n 0 n new is some_word calm log (λ p j none. else_calm p (no_node p none) j ∙ laid.new p j none);
        root = k.sound.root;
        links = set_links m laid n 0 n new is some_word k.sound.links (λ t. absurd (link_some (form_at k.plots n) 0 t refl));
      } in
      let since : Since m m' = record {
        log = (decided v.by note.entry, refl);
        wide = length-set s.words n new;
        plots = λ p _. refl;
        end = le_of_eq (sym (end_stays s.words n new (laid.above n some_word)));
        grows = λ p _. dite (ℕ_discrete p n) (λ same. subst (λ (z : ℕ). version_at s.words z ≤ version_at words z) (sym same) (let a : version_at s.words n ≡ ver = hit in let b : version_at words n ≡ new = here in omega arith)) (λ ne. le_of_eq (sym (else_version p ne)));
        still = λ p _ even e. else_calm p (even_not p even);
      } in
      let own' : calls_by v.by log ≡ made = calls_on v.by k.log (decided v.by note.entry) ∙ (λ i. own_calls_now s k id v at pos i ++ own_calls v.by note.entry i) in
      let own'' : calls_by id log ≡ made = ap (λ (z : ℕ). calls_by z log) (sym f.named) ∙ own' in (
        w,
        keeps,
        tt,
        subst (λ b. Rule (stepped s n (either b new x) id me.1 w keeps)) (sym (eq-eqb x ver hit))
            (advance s k id v words k.plots calm log mine made at pos (length-set s.words n new) sound since (λ o u p e ne h. ((λ j l. else_word p j l (not_both s k id o v u n p at e ne own_it h)), else_calm p (λ h'. ne (k.alone o id u v p e at h h'))))
            (λ o u p e ne h h'. let q = not_here p h' in ne (k.alone o id u v p e at h (sym (other_mine p q) ∙ h')))
            (λ p h. let q = not_here p h in let o = owned s k id v p at (sym (other_mine p q) ∙ h) in (o.0, ap (λ (z : ℕ). z % 2) (else_version p q) ∙ o.1))
            own'' (λ by ne. calls_on by k.log (decided v.by note.entry) ∙ (ap (λ (l : List Entry). calls_by by k.log ++ l) (other_calls v.by by note.entry (λ q. ne (sym q ∙ f.named))) ∙ append-nil (calls_by by k.log)))),
        (
          refl,
          λ note' said. let told : note ≡ note' = some-injective note note' said in subst (λ (z : Note). Unlocks good n z v w) told record {
            b = m;
            since = f.since;
            held = f.held;
            after = since_trans v.seen m m' f.since since;
            was = k.sound;
            sound = sound;
            mine = refl;
            made = refl;
            own = (refl, own');
            log = refl;
            calm = refl;
            others = λ p h j l. let q = not_here p h in else_word p j (inside_since v.seen m f.since p j l) q ∙ (f.held p (sym (other_mine p q) ∙ h)).0 j l;
          },
        ),
      )

  pub releases : (slots id : ℕ) (me : Me Note View) (n ver new : ℕ) → 0 < me.0.by → IsDrafted n ver me.0 → new ≡ ver + 1
      → Allows Rule slots id me n (λ x. either (eqb x ver) new x) (released good (step slots n ver new none) me)
  releases slots id me n ver new pos draft up s k _ at _ = let x : ℕ = version_at s.words n in let m : Moment = now s k in let v : View = me.0 in let f = k.each id v at pos in let laid = k.sound.laid in
      let own_it = draft.0 in
      let own = f.odd n own_it in
      let some_word : 0 < size k.plots n = (owned s k id v n at own_it).0 in
      let hit : x ≡ ver = held_version v.mine v.seen m f.held n own.0 own_it ∙ draft.1 in
      let is : n ≡ n + 0 = omega arith in
      let low : n + 0 < length s.words = inside_words m laid n 0 some_word in
      let words : List ℕ = set s.words n new in let mine : List Tenure = tenure n false ∷ v.mine in
      let m' : Moment = moment words k.plots k.calm k.log in let w : View = view_of m' mine v.made v.by in
      let here : version_at words n ≡ new = get_or-set_same s.words n new 0 (omega arith) in
      let else_version : (p : ℕ) → p ≢ n → version_at words p ≡ version_at s.words p = λ p ne. get_or-set_other s.words n p new 0 ne in
      let else_word : (p j : ℕ) → j < size k.plots p → p ≢ n → word_at words p j ≡ word_at s.words p j = λ p j l ne. set_else m laid n 0 n new is some_word p j l (λ e. absurd (ne e)) in
      let own_word : (j : ℕ) → 0 < j → word_at words n j ≡ word_at s.words n j = λ j l. get_or-set_other s.words n (n + j) new 0 (λ (e : n + j ≡ n). omega arith) in
      let other_mine : (p : ℕ) → p ≢ n → has mine p ≡ has v.mine p = λ p ne. has_else n p false v.mine (λ q. ne (sym q)) in
      let not_here : (p : ℕ) → has mine p ≡ true → p ≢ n = λ p h same. let a : has mine n ≡ true = ap (λ (z : ℕ). has mine z) (sym same) ∙ h in let b : false ≡ true = sym (has_here n false v.mine) ∙ a in grind arith in
      let same_size : size k.plots n ≡ size v.seen.plots n = size_since v.seen m f.since n 0 own.0 in
      let settled_n : (j : ℕ) → 0 < j → j < size k.plots n → calm_at k.calm n j ≡ word_at s.words n j = λ j l l'. let lv : j < size v.seen.plots n = omega arith in
      (f.held n own_it).1 j ∙ (sym (draft.2 j l lv) ∙ sym ((f.held n own_it).0 j lv)) in
      let sound : Sound good m' = record {
        rests = λ p j l l' e. dite (ℕ_discrete p n)
            (λ (same : p ≡ n). subst (λ (z : ℕ). calm_at k.calm z j ≡ word_at words z j) (sym same) (settled_n j l (subst (λ (z : ℕ). j < size k.plots z) same l') ∙ sym (own_word j l)))
            (λ ne. k.sound.rests p j l l' (ap (λ (z : ℕ). z % 2) (sym (else_version p ne)) ∙ e) ∙ sym (else_word p j l' ne));
        means = k.sound.means;
        laid = set_laid m laid n 0 n new is some_word k.calm k.log laid.new;
        root = k.sound.root;
        links = set_links m laid n 0 n new is some_word k.sound.links (λ t. absurd (link_some (form_at k.plots n) 0 t refl));
      } in
      let since : Since m m' = record {
        log = ([], sym (append-nil k.log));
        wide = length-set s.words n new;
        plots = λ p _. refl;
        end = le_of_eq (sym (end_stays s.words n new (laid.above n some_word)));
        grows = λ p _. dite (ℕ_discrete p n) (λ same. subst (λ (z : ℕ). version_at s.words z ≤ version_at words z) (sym same) (let a : version_at s.words n ≡ ver = hit in let b : version_at words n ≡ new = here in omega arith)) (λ ne. le_of_eq (sym (else_version p ne)));
        still = λ p _ _ _. calm_refl p m;
      } in (
        w,
        keeps,
        tt,
        subst (λ b. Rule (stepped s n (either b new x) id me.1 w keeps)) (sym (eq-eqb x ver hit))
            (advance s k id v words k.plots k.calm k.log mine v.made at pos (length-set s.words n new) sound since (λ o u p e ne h. ((λ j l. else_word p j l (not_both s k id o v u n p at e ne own_it h)), calm_refl p m))
            (λ o u p e ne h h'. let q = not_here p h' in ne (k.alone o id u v p e at h (sym (other_mine p q) ∙ h')))
            (λ p h. let q = not_here p h in let o = owned s k id v p at (sym (other_mine p q) ∙ h) in (o.0, ap (λ (z : ℕ). z % 2) (else_version p q) ∙ o.1))
            f.calls (λ by _. refl)),
        (
          refl,
          record {
            since = since_trans v.seen m m' f.since since;
            sound = sound;
            mine = refl;
            made = refl;
            own = (refl, own_calls_now s k id v at pos);
            others = λ p h. let q = not_here p h in let a = f.held p (sym (other_mine p q) ∙ h) in ((λ j l. else_word p j (inside_since v.seen m f.since p j l) q ∙ a.0 j l), a.1);
          },
        ),
      )

  pub carves : (slots id : ℕ) (me : Me Note View) (end new : ℕ) (note : Note) → 0 < me.0.by → 0 < width note.form → new ≡ end + width note.form → new ≤ count
      → Allows Rule slots id me 0 (λ x. either (eqb x end) new x) (carved good (step slots 0 end new (some note)) me)
  carves slots id me end new note pos some_word is fits s k _ at _ = let x : ℕ = get_or s.words 0 0 in let m : Moment = now s k in let v : View = me.0 in let f = k.each id v at pos in let laid = k.sound.laid in
      let fm : ℕ = note.form in dite (ℕ_discrete x end)
      (λ hit. let words : List ℕ = set s.words 0 new in let plots : List Plot = plot end fm ∷ k.plots in let m' : Moment = moment words plots k.calm k.log in let w : View = view_of m' v.mine v.made v.by in
      let root_size : 0 < size k.plots 16 = subst (λ (z : ℕ). 0 < width z) (sym k.sound.root) (width_some 4 (omega arith) (omega arith)) in
      let long : x ≤ length s.words = laid.bound in
      let below_end : (p j : ℕ) → j < size k.plots p → p + j < end = λ p j l. subst (λ (z : ℕ). p + j < z) hit (laid.below p j l) in
      let some_end : 0 < end = let a : 16 + 0 < end = below_end 16 0 root_size in omega arith in
      let none : size k.plots end ≡ 0 = dite (ℕ_discrete (size k.plots end) 0) (λ e. e) (λ ne. let a : end + 0 < end = below_end end 0 (omega arith) in absurd (omega arith)) in
      let other : (p : ℕ) → 0 < size k.plots p → p ≢ end = λ p l e. let a : size k.plots p ≡ 0 = ap (λ (z : ℕ). size k.plots z) e ∙ none in omega arith in
      let else_size : (p : ℕ) → p ≢ end → size plots p ≡ size k.plots p = λ p ne. ap width (form_else end fm p k.plots (λ q. ne (sym q))) in
      let own_size : size plots end ≡ width fm = ap width (form_here end fm k.plots) in
      let below_old : (p j : ℕ) → p ≢ end → j < size plots p → j < size k.plots p = λ p j ne l. subst (λ (z : ℕ). j < z) (else_size p ne) l in
      let here : get_or words 0 0 ≡ new = get_or-set_same s.words 0 new 0 (omega arith) in
      let else_index : (i : ℕ) → 0 < i → get_or words i 0 ≡ get_or s.words i 0 = λ i l. get_or-set_other s.words 0 i new 0 (λ (e : i ≡ 0). omega arith) in
      let else_word : (p j : ℕ) → j < size k.plots p → word_at words p j ≡ word_at s.words p j = λ p j l. else_index (p + j) (let a : 0 < p = laid.above p (omega arith) in omega arith) in
      let else_version : (p : ℕ) → 0 < size k.plots p → version_at words p ≡ version_at s.words p = λ p l. else_index p (laid.above p l) in
      let fresh : (j : ℕ) → word_at words end j ≡ 0 = λ j. else_index (end + j) (omega arith) ∙ laid.clear (end + j) (omega arith) in
      let since : Since m m' = record {
        log = ([], sym (append-nil k.log));
        wide = length-set s.words 0 new;
        plots = λ p l. form_else end fm p k.plots (λ q. other p l (sym q));
        end = let h : get_or words 0 0 ≡ new = here in let e : get_or s.words 0 0 ≡ end = hit in omega arith;
        grows = λ p l. le_of_eq (sym (else_version p l));
        still = λ p _ _ _. calm_refl p m;
      } in
      let sound : Sound good m' = record {
        rests = λ p j l l' e. dite (ℕ_discrete p end)
            (λ (same : p ≡ end). subst (λ (z : ℕ). calm_at k.calm z j ≡ word_at words z j) (sym same) (laid.new end j none ∙ sym (fresh j)))
            (λ ne. let lo : j < size k.plots p = below_old p j ne l' in let lp : 0 < size k.plots p = omega arith in
            k.sound.rests p j l lo (ap (λ (z : ℕ). z % 2) (sym (else_version p lp)) ∙ e) ∙ sym (else_word p j lo));
        means = k.sound.means;
        laid = record {
          apart = λ a b i j l l' e. dite (ℕ_discrete a end)
              (λ (qa : a ≡ end). dite (ℕ_discrete b end) (λ (qb : b ≡ end). qa ∙ sym qb) (λ nb. let t : b + j < end = below_end b j (below_old b j nb l') in absurd (omega arith)))
              (λ na. dite (ℕ_discrete b end) (λ (qb : b ≡ end). let t : a + i < end = below_end a i (below_old a i na l) in absurd (omega arith)) (λ nb. laid.apart a b i j (below_old a i na l) (below_old b j nb l') e));
          above = λ p l. dite (ℕ_discrete p end) (λ (q : p ≡ end). omega arith) (λ ne. laid.above p (below_old p 0 ne l));
          below = λ p j l. dite (ℕ_discrete p end)
              (λ (q : p ≡ end). let l' : j < width fm = subst (λ (z : ℕ). j < z) (ap (λ (z : ℕ). size plots z) q ∙ own_size) l in let h : get_or words 0 0 ≡ new = here in omega arith)
              (λ ne. let t : p + j < end = below_end p j (below_old p j ne l) in let h : get_or words 0 0 ≡ new = here in omega arith);
          bound = let a : length words ≡ length s.words = length-set s.words 0 new in let b : length s.words ≡ count = k.wide in let h : get_or words 0 0 ≡ new = here in omega arith;
          clear = λ i l. let h : get_or words 0 0 ≡ new = here in let l' : end ≤ i = omega arith in else_index i (omega arith) ∙ laid.clear i (subst (λ (z : ℕ). z ≤ i) (sym hit) l');
          new = λ p j zero_size. dite (ℕ_discrete p end)
              (λ (q : p ≡ end). let t : width fm ≡ 0 = sym own_size ∙ (ap (λ (z : ℕ). size plots z) (sym q) ∙ zero_size) in absurd (omega arith))
              (λ ne. laid.new p j (sym (else_size p ne) ∙ zero_size));
        };
        root = form_else end fm 16 k.plots (λ q. other 16 root_size (sym q)) ∙ k.sound.root;
        links = λ p j l link. dite (ℕ_discrete p end)
            (λ (q : p ≡ end). let t : word_at words p j ≡ 0 = ap (λ (z : ℕ). word_at words z j) q ∙ fresh j in λ some_tag _. absurd (let u : word_at words p j % 16 ≡ 0 = ap (λ (z : ℕ). z % 16) t in omega arith))
            (λ ne. let lo : j < size k.plots p = below_old p j ne l in let e : form_at plots p ≡ form_at k.plots p = form_else end fm p k.plots (λ q. ne (sym q)) in
            subst (Names plots) (sym (else_word p j lo)) (names_since m m' (word_at s.words p j) since (k.sound.links p j lo (ap (λ (z : ℕ). is_link z j) (sym e) ∙ link))));
      } in (
        w,
        keeps,
        tt,
        subst (λ b. Rule (stepped s 0 (either b new x) id me.1 w keeps)) (sym (eq-eqb x end hit))
            (advance s k id v words plots k.calm k.log v.mine v.made at pos (length-set s.words 0 new) sound since (λ o u p e ne h. ((λ j l. else_word p j l), calm_refl p m))
            (λ o u p e ne h h'. ne (k.alone o id u v p e at h h'))
            (λ p h. let o = owned s k id v p at h in (inside_since m m' since p 0 o.0, ap (λ (z : ℕ). z % 2) (else_version p o.0) ∙ o.1))
            f.calls (λ by _. refl)),
        (
          refl,
          record {
            since = since_trans v.seen m m' f.since since;
            held = λ p h. let a = f.held p h in ((λ j l. else_word p j (inside_since v.seen m f.since p j l) ∙ a.0 j l), a.1);
            sound = sound;
            mine = refl;
            made = refl;
            own = (refl, own_calls_now s k id v at pos);
          },
          (λ note' said _. let told : note ≡ note' = some-injective note note' said in subst (λ (z : Note). HasForm end z.form w) told record {
            is = form_here end fm k.plots;
            ends = let a : length words ≡ length s.words = length-set s.words 0 new in let b : length s.words ≡ count = k.wide in omega arith;
            above = some_end;
          }),
        ),
      ))
      (λ miss. let t = looks_on s k id 0 me at pos in let w : View = view_of m v.mine v.made v.by in (
        w,
        keeps,
        tt,
        subst (λ b. Rule (stepped s 0 (either b new x) id me.1 w keeps)) (sym (ne_eqb x end miss)) t.0,
        (refl, t.1, (λ _ _ hit. absurd (miss hit))),
      ))

  -- the words at first
  first_else : (i : ℕ) → i ≢ 0 → i ≢ 17 → get_or (first_words count) i 0 ≡ 0
  first_else i a b = get_or-set_other (set (replicate count 0) 0 536) 17 i 32 0 b ∙ (get_or-set_other (replicate count 0) 0 i 536 0 a ∙ zeros count i)

  first_sound : 536 ≤ count → good (first_calm count) [] → Sound good (first_moment count)
  first_sound wide empty = let words : List ℕ = first_words count in
      let long : length words ≡ count = length-set (set (replicate count 0) 0 536) 17 32 ∙ (length-set (replicate count 0) 0 536 ∙ length-replicate count 0) in
      let long'' : length (zero_words count) ≡ count = length-replicate count 0 in
      let long' : length (set (zero_words count) 0 536) ≡ count = length-set (zero_words count) 0 536 ∙ long'' in
      let end : get_or words 0 0 ≡ 536 = get_or-set_other (set (replicate count 0) 0 536) 17 0 32 0 (λ (e : 0 ≡ 17). omega arith) ∙ get_or-set_same (zero_words count) 0 536 0 (omega arith) in
      let wheres : get_or words 17 0 ≡ 32 = get_or-set_same (set (zero_words count) 0 536) 17 32 0 (omega arith) in
      let is_root : (n j : ℕ) → j < size (plot 16 4 ∷ []) n → n ≡ 16 = λ n j l. dite (ℕ_discrete n 16) (λ e. e)
      (λ ne. let t : size (plot 16 4 ∷ []) n ≡ 0 = ap width (form_else 16 4 n [] (λ q. ne (sym q))) ∙ no_width in absurd (omega arith)) in
      let root_size : size (plot 16 4 ∷ []) 16 ≡ 520 = ap width (form_here 16 4 []) ∙ width_four in
      let low_word : (n j : ℕ) → j < size (plot 16 4 ∷ []) n → j < 520 = λ n j l. subst (λ (z : ℕ). j < z) (ap (λ (z : ℕ). size (plot 16 4 ∷ []) z) (is_root n j l) ∙ root_size) l in
      record {
        rests = λ n j l l' _. let e = is_root n j l' in subst (λ (z : ℕ). calm_at (first_calm count) z j ≡ word_at words z j) (sym e) (calm_here 16 words [] j);
        means = empty;
        laid = record {
          apart = λ n p i j l l' _. is_root n i l ∙ sym (is_root p j l');
          above = λ n l. let e : n ≡ 16 = is_root n 0 l in omega arith;
          below = λ n j l. let e : n ≡ 16 = is_root n j l in let t : j < 520 = low_word n j l in let q : get_or words 0 0 ≡ 536 = end in omega arith;
          bound = let q : get_or words 0 0 ≡ 536 = end in omega arith;
          clear = λ i l. let q : get_or words 0 0 ≡ 536 = end in let far : 536 ≤ i = omega arith in first_else i (λ (e : i ≡ 0). omega arith) (λ (e : i ≡ 17). omega arith);
          new = λ n j none. dite (ℕ_discrete n 16) (λ (e : n ≡ 16). let t : 520 ≡ 0 = sym root_size ∙ (ap (λ (z : ℕ). size (plot 16 4 ∷ []) z) (sym e) ∙ none) in absurd (omega arith)) (λ ne. calm_else 16 n words [] j (λ q. ne (sym q)));
        };
        root = form_here 16 4 [];
        links = λ n j l link some_tag _. let e : n ≡ 16 = is_root n j l in absurd (dite (ℕ_discrete (n + j) 17)
            (λ (q : n + j ≡ 17). let t : word_at words n j ≡ 32 = ap (λ (z : ℕ). get_or words z 0) q ∙ wheres in let u : word_at words n j % 16 ≡ 32 % 16 = ap (λ (z : ℕ). z % 16) t in omega arith)
            (λ nq. let t : word_at words n j ≡ 0 = first_else (n + j) (λ (z : n + j ≡ 0). omega arith) nq in let u : word_at words n j % 16 ≡ 0 = ap (λ (z : ℕ). z % 16) t in omega arith));
      }

  -- the words at first keep the rule
  pub opens : 536 ≤ count → good (first_calm count) [] → Rule (opening (first_words count) [] (newcomer count))
  opens wide empty = let m : Moment = first_moment count in let sound = first_sound wide empty in record {
    plots = plot 16 4 ∷ [];
    calm = first_calm count;
    log = [];
    wide = length-set (set (replicate count 0) 0 536) 17 32 ∙ (length-set (replicate count 0) 0 536 ∙ length-replicate count 0);
    sound = sound;
    some = omega arith;
    each = λ i u e some. ⊎_elim (λ (t : At [] i u). absurd (at_nothing u i t)) (λ (t : (i ≡ 0) × (newcomer count ≡ u)). absurd (let z : 0 < 0 = subst (λ (x : View). 0 < x.by) (sym t.1) some in omega arith)) (at_end [] (newcomer count) u i e);
    idle = λ i u e none. ⊎_elim (λ (t : At [] i u). absurd (at_nothing u i t)) (λ (t : (i ≡ 0) × (newcomer count ≡ u)). ap (λ (x : View). x.mine) (sym t.1)) (at_end [] (newcomer count) u i e);
    told = λ i u e. ⊎_elim (λ (t : At [] i u). absurd (at_nothing u i t)) (λ (t : (i ≡ 0) × (newcomer count ≡ u)). subst (λ (x : View). Follows x.told m) t.1 (follows_nothing m)) (at_end [] (newcomer count) u i e);
    alone = λ i j x y n e f h h'. ⊎_elim (λ (t : At [] i x). absurd (at_nothing x i t)) (λ (t : (i ≡ 0) × (newcomer count ≡ x)). absurd (no_tenure n (subst (λ (z : View). has z.mine n ≡ true) (sym t.1) h))) (at_end [] (newcomer count) x i e);
    strangers = λ by far. refl;
  }

-- a word that was read at a place of a child
pub told : (good : Good) (n form j x : ℕ) (w : View) → HasForm n form w → j < width form → Sound good w.seen → x ≡ word_at w.seen.words n j → is_link form j ≡ true → Tells x w
told good n form j x w at low sound is link l l' = let plots : List Plot = w.seen.plots in
    let inside : j < size plots n = subst (λ (z : ℕ). j < width z) (sym at.is) low in
    let names : Names plots x = subst (Names plots) (sym is) (sound.links n j inside (ap (λ (z : ℕ). is_link z j) at.is ∙ link)) in
    let e : form_at plots (x / 256) ≡ x % 16 = names l l' in
    let some_size : 0 < size plots (x / 256) = subst (λ (z : ℕ). 0 < width z) (sym e) (width_some (x % 16) l l') in record {
      is = e;
      ends = let all : (i : ℕ) → i < size plots (x / 256) → x / 256 + i < length w.seen.words = λ i l. inside_words w.seen sound.laid (x / 256) i l in
          let last = all (size plots (x / 256) - 1) (omega arith) in let t : size plots (x / 256) ≡ width (x % 16) = ap width e in omega arith;
      above = sound.laid.above (x / 256) some_size;
    }

-- the root is a node
pub root_is : (good : Good) (w : View) → Sound good w.seen → HasForm 16 4 w
root_is good w sound = let plots : List Plot = w.seen.plots in let t : size plots 16 ≡ 520 = ap width sound.root ∙ width_four in
    record {
      is = sound.root;
      ends = let last = inside_words w.seen sound.laid 16 519 (omega arith) in let u : width 4 ≡ 520 = width_four in omega arith;
      above = omega arith;
    }
