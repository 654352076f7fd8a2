-- The steps of a call that change the tree: each one answers as the map.
use Rattle.std.proofs.Common.{◌≡◌, ◌≢◌, ℕ, ◌<◌, Bool, true, List, length, get_or, refl, sym, ◌∙◌, ap, subst, arith}
use Rattle.std.specs.Prelude.{Option, None, Some}
use Rattle.judge.specs.declared.journal.Reply.{Reply}
use Rattle.congee.specs.declared.protocol.phase.Kind.{Kind}
use Rattle.congee.specs.declared.protocol.phase.Parent.{Parent}
use Rattle.congee.specs.declared.protocol.phase.Placement.{Placement}
use Rattle.congee.specs.declared.protocol.phase.Placement.TheVariants.{Set, Link}
use Rattle.congee.specs.declared.protocol.phase.NodeChange.{NodeChange}
use Rattle.congee.specs.declared.protocol.phase.Replacement.{Replacement}
use Rattle.congee.specs.declared.protocol.phase.Replacement.TheVariants.{Unlink, Grow, GrowLink, Split, Shrink, Collapse, ShrinkAbove}
use Rattle.congee.specs.declared.protocol.phase.ParentChange.{ParentChange}
use Rattle.congee.specs.declared.protocol.phase.Phase.{Phase}
use Rattle.congee.specs.declared.protocol.phase.Phase.TheVariants.{ChangeHere, ChangeAbove, Obsolete, UnlockBelow, Unlock}
use Rattle.congee.specs.Heap.{Node, Hung, Nothing, Below, Holds, fits, child_for}
use Rattle.congee.specs.protocol.Events.{ChangeGives, TakeOverGives}
use Rattle.congee.specs.protocol.Steps.{decided, Collapses, Lessens as LessensTop, ChangedHere, ChangedAbove, after_top, after_change}
use Rattle.congee.specs.Keys.{key_bytes}
use Rattle.congee.specs.Notes.{Note, is_published, IsChild, Tree, LockWords}
use Rattle.congee.specs.protocol.Protocol.{Made, Holding, PlacedHere, WantedHere, MadeHere, value_in, FitsHere, PlacedAbove, WantedAbove, MadeAbove, FitsAbove, AboveLocked, TopLocked, TakenOut, Settles, Known}
use Rattle.congee.specs.protocol.Answers.{Decides}
use Rattle.congee.proofs.lemmas.Fits.{fits_same}
use Rattle.congee.proofs.lemmas.protocol.Grow.{a_value, a_leaf}
use Rattle.congee.proofs.lemmas.protocol.Touch.{noted, noted_other}
use Rattle.congee.proofs.lemmas.protocol.Change.{Changed, live_made, live_changed, live_same, joined, leaf_filled, leaf_same, made_apart, under_above, under_taken, live_taken, set_changed, link_changed, unlink_changed}
use Rattle.congee.proofs.lemmas.protocol.Regrow.{regrown, regrown_leaf, regrown_status, regrown_owner, regrown_old, no_leaf, new_leaf, regrow_changed}
use Rattle.congee.proofs.lemmas.protocol.Parting.{split_changed}
use Rattle.congee.proofs.lemmas.protocol.Lessening.{SecondOut, shrink_changed, collapsed, collapse_changed, lessened, lessen_changed}
use Rattle.congee.proofs.lemmas.Link.{Leaf}
use Rattle.congee.proofs.lemmas.protocol.Locks.{Kept}

module _ {V : Type 0} (i : ℕ) (a : ℕ → Note) (h : ℕ → Node V) (key : List ℕ) (len : length key ≡ 8) (t : Tree a h) (w : LockWords a h) where
  -- a full leaf gives way to a greater one with the value
  grow_leaf : (p b m c q : ℕ) (v : V) (h1 h2 h' : ℕ → Node V) → Holding i a p → fits (h p).prefix key ≡ true → b ≡ get_or key (length (h p).prefix) 0 → child_for (h p) key ≡ Below m
      → (a m).owner ≡ Some i → fits (h m).prefix key ≡ true → length (h m).prefix ≡ 7 → child_for (h m) key ≡ Nothing → Made i a h key c (length (h m).prefix) q
      → TakeOverGives h m c h1 → ChangeGives h1 c (get_or key 7 0) (Holds v) h2 → ChangeGives h2 p b (Below c) h'
      → Changed i a h key None (Some v) (regrown a i p m c c) h' × TakenOut i (regrown a i p m c c) h' p m
  grow_leaf p b m c q v h1 h2 h' o fit eb hung om fm seven none mc k1 k2 k3 =
      let ch : IsChild a h p (get_or key (length (h p).prefix) 0) m = t.down p _ m o.linked hung in
      let pm : p ≢ m = (λ e. let z : length (h p).prefix ≡ length (h m).prefix = ap (λ y. length (h y).prefix) e in absurd (omega (arith, ch.longer))) in
      let mp : m ≢ p = (λ e. pm (sym e)) in
      let up : is_published (a p).status ≡ true = ap is_published o.linked in
      let um : is_published (a m).status ≡ true = ap is_published ch.linked in
      let cp : c ≢ p = made_apart i a h key c (length (h m).prefix) q p mc up in
      let pc : p ≢ c = (λ e. cp (sym e)) in
      let cm : c ≢ m = made_apart i a h key c (length (h m).prefix) q m mc um in
      let mc' : m ≢ c = (λ e. cm (sym e)) in
      let p2 : h2 p ≡ h p = k2.others p pc ∙ k1.others p pc pm in
      let em : h' m ≡ h1 m = k3.others m mp ∙ k2.others m mc' in
      let ec : h' c ≡ h2 c = k3.others c cp in
      let same : (h c).prefix ≡ (h m).prefix = fits_same (h c).prefix (h m).prefix key mc.fitted fm mc.long in
      let pre : (h' c).prefix ≡ (h m).prefix = ap (λ z. z.prefix) ec ∙ (k2.prefix ∙ (k1.prefix ∙ same)) in
      let size : length (h' c).prefix ≡ 7 = ap length pre ∙ seven in
      regrow_changed i a h key p b m c c v h' len t w (record {
        above = o;
        fitted = fit;
        hung = hung;
        owner = om;
        fitted_old = fm;
        absent = none;
        size = length (h m).prefix;
        least = q;
        made = mc;
        more = no_leaf refl;
        same_prefix = pre;
        copied = λ y ne. ap (λ z. z.children y) ec ∙ (k2.beside y (let P : ℕ → Type 0 = λ z. y ≢ get_or key z 0 in subst P seven ne) ∙ k1.children y);
        extra = a_value refl size (let P : ℕ → Type 0 = λ y. (h' c).children (get_or key y 0) ≡ Holds v in subst P (sym size) (ap (λ z. z.children (get_or key 7 0)) ec ∙ k2.child));
        live = live_same (h2 c) (h' c) ec (live_changed h1 c _ _ h2 k2 (live_taken h m c h1 k1 (live_made i a h key c _ q mc)));
        under_above = under_above i a h _ h2 h' p b (Below c) o (regrown_status a i p m c c p pc pc pm) (regrown_owner a i p m c c p pc pc pm) p2 k3;
        under_old = under_taken i a h _ h h1 h' m c om ch.linked (rw (regrown_old a i p m c c mc' mc') refl) (rw (regrown_old a i p m c c mc' mc') refl) refl k1 em;
        capacity = k3.capacity ∙ ap (λ z. z.capacity) p2;
        child = rw (← eb) k3.child;
        beside = λ y ne. k3.beside y (let P : ℕ → Type 0 = λ z. y ≢ z in subst P (sym eb) ne) ∙ ap (λ z. z.children y) p2;
        nodes = λ x nc _ np nm. k3.others x np ∙ (k2.others x nc ∙ k1.others x nc nm);
      })

  -- a full inner node gives way to a greater one with a new leaf
  grow_inner : (p b m c d byte q : ℕ) (v : V) (h1 h2 h3 h' : ℕ → Node V) → Holding i a p → fits (h p).prefix key ≡ true → b ≡ get_or key (length (h p).prefix) 0 → child_for (h p) key ≡ Below m
      → (a m).owner ≡ Some i → fits (h m).prefix key ≡ true → length (h m).prefix < 7 → byte ≡ get_or key (length (h m).prefix) 0 → child_for (h m) key ≡ Nothing
      → Made i a h key c (length (h m).prefix) q → Made i a h key d 7 0 → c ≢ d
      → ChangeGives h d (get_or key 7 0) (Holds v) h1 → TakeOverGives h1 m c h2 → ChangeGives h2 c byte (Below d) h3 → ChangeGives h3 p b (Below c) h'
      → Changed i a h key None (Some v) (regrown a i p m c d) h' × TakenOut i (regrown a i p m c d) h' p m
  grow_inner p b m c d byte q v h1 h2 h3 h' o fit eb hung om fm inner ebyte none mc md cd k1 k2 k3 k4 =
      let ch : IsChild a h p (get_or key (length (h p).prefix) 0) m = t.down p _ m o.linked hung in
      let pm : p ≢ m = (λ e. let z : length (h p).prefix ≡ length (h m).prefix = ap (λ y. length (h y).prefix) e in absurd (omega (arith, ch.longer))) in
      let mp : m ≢ p = (λ e. pm (sym e)) in
      let up : is_published (a p).status ≡ true = ap is_published o.linked in
      let um : is_published (a m).status ≡ true = ap is_published ch.linked in
      let cp : c ≢ p = made_apart i a h key c (length (h m).prefix) q p mc up in
      let pc : p ≢ c = (λ e. cp (sym e)) in
      let cm : c ≢ m = made_apart i a h key c (length (h m).prefix) q m mc um in
      let mc' : m ≢ c = (λ e. cm (sym e)) in
      let dp : d ≢ p = made_apart i a h key d 7 0 p md up in
      let pd : p ≢ d = (λ e. dp (sym e)) in
      let dm : d ≢ m = made_apart i a h key d 7 0 m md um in
      let md' : m ≢ d = (λ e. dm (sym e)) in
      let dc : d ≢ c = (λ e. cd (sym e)) in
      let p3 : h3 p ≡ h p = k3.others p pc ∙ (k2.others p pc pm ∙ k1.others p pd) in
      let m1 : h1 m ≡ h m = k1.others m md' in
      let em : h' m ≡ h2 m = k4.others m mp ∙ k3.others m mc' in
      let ec : h' c ≡ h3 c = k4.others c cp in
      let c1 : h1 c ≡ h c = k1.others c cd in
      let ed : h' d ≡ h1 d = k4.others d dp ∙ (k3.others d dc ∙ k2.others d dc dm) in
      let same : (h c).prefix ≡ (h m).prefix = fits_same (h c).prefix (h m).prefix key mc.fitted fm mc.long in
      let pre : (h' c).prefix ≡ (h m).prefix = ap (λ z. z.prefix) ec ∙ (k3.prefix ∙ (k2.prefix ∙ (ap (λ z. z.prefix) c1 ∙ same))) in
      let size : length (h' c).prefix ≡ length (h m).prefix = ap length pre in
      let new : regrown a i p m c d d ≡ joined c = regrown_leaf a i p m c d dc in
      regrow_changed i a h key p b m c d v h' len t w (record {
        above = o;
        fitted = fit;
        hung = hung;
        owner = om;
        fitted_old = fm;
        absent = none;
        size = length (h m).prefix;
        least = q;
        made = mc;
        more = new_leaf dc md (live_same (h1 d) (h' d) ed (live_changed h d _ _ h1 k1 (live_made i a h key d 7 0 md)));
        same_prefix = pre;
        copied = λ y ne. ap (λ z. z.children y) ec ∙ (k3.beside y (let P : ℕ → Type 0 = λ z. y ≢ z in subst P (sym ebyte) ne) ∙ (k2.children y ∙ ap (λ z. z.children y) m1));
        extra = a_leaf (rw size inner)
            (let P : ℕ → Type 0 = λ y. (h' c).children y ≡ Below d in subst P (ebyte ∙ ap (λ y. get_or key y 0) (sym size)) (ap (λ z. z.children byte) ec ∙ k3.child))
            (leaf_same h1 h' d key v ed (leaf_filled i a h key d v h1 md k1)) (rw new refl) (rw new refl);
        live = live_same (h3 c) (h' c) ec (live_changed h2 c _ _ h3 k3 (live_taken h1 m c h2 k2 (live_same (h c) (h1 c) c1 (live_made i a h key c _ q mc))));
        under_above = under_above i a h _ h3 h' p b (Below c) o (regrown_status a i p m c d p pc pd pm) (regrown_owner a i p m c d p pc pd pm) p3 k4;
        under_old = under_taken i a h _ h1 h2 h' m c om ch.linked (rw (regrown_old a i p m c d mc' md') refl) (rw (regrown_old a i p m c d mc' md') refl) m1 k2 em;
        capacity = k4.capacity ∙ ap (λ z. z.capacity) p3;
        child = rw (← eb) k4.child;
        beside = λ y ne. k4.beside y (let P : ℕ → Type 0 = λ z. y ≢ z in subst P (sym eb) ne) ∙ ap (λ z. z.children y) p3;
        nodes = λ x nc nd np nm. k4.others x np ∙ (k3.others x nc ∙ (k2.others x nc nm ∙ k1.others x nd));
      })

module _ {C V : Type 0} (number : C → ℕ) (same : V → V → Bool) (always : Bool) (i : ℕ) (a : ℕ → Note) (h : ℕ → Node V) (k : ℕ) (kind : Kind V)
    (t : Tree a h) (w : LockWords a h) where
  -- a change as the call's answer
  settled : (given found : Option V) (r : Reply V) (next_phase : Phase C V) (given' : Option V) (a' : ℕ → Note) (h' : ℕ → Node V)
      → Settles same k kind given found r given → Changed i a h (key_bytes k) found given a' h' → Decides same k kind given h r h'
  settled given found r next_phase given' a' h' s c = record { found = found; after = given; settles = s; before = c.before; now = c.after; rest = c.rest }

  by_single : (one : NodeChange C) (r : Reply V) (given given' : Option V) (x : Hung V) (h' : ℕ → Node V) (change : Placement C)
      → Holding i a (number one.at.node) → PlacedHere (key_bytes k) change one.byte (h (number one.at.node)).prefix → WantedHere (key_bytes k) x (h (number one.at.node))
      → MadeHere number i a h (key_bytes k) change → FitsHere change x given → Settles same k kind given (value_in x) r given
      → ChangedHere number (key_bytes k) given one change h h' → Kept number same always i a h k kind given given' (decided (Unlock one.at.node r)) h'
  by_single one r None given' x h' Set o p n m f s g =
      let c : Changed i a h (key_bytes k) (value_in x) None a h' = set_changed i a h (key_bytes k) (number one.at.node) one.byte x None h' refl t w o p.fitted p.size p.byte n.child f.0 g in
      record { notes = a; effect = c.effect; sound = record { known = o; answer = (r, refl, settled None (value_in x) r (Unlock one.at.node r) given' a h' s c) } }
  by_single one r (Some v) given' x h' Set o p n m f s g =
      let c : Changed i a h (key_bytes k) (value_in x) (Some v) a h' = set_changed i a h (key_bytes k) (number one.at.node) one.byte x (Some v) h' refl t w o p.fitted p.size p.byte n.child f g in
      record { notes = a; effect = c.effect; sound = record { known = o; answer = (r, refl, settled (Some v) (value_in x) r (Unlock one.at.node r) given' a h' s c) } }
  by_single one r None given' x h' (Link leaf) o p n m f s g = absurd f
  by_single one r (Some v) given' x h' (Link leaf) o p n m f s g =
      let nothing : child_for (h (number one.at.node)) (key_bytes k) ≡ Nothing = n.child ∙ f in
      let s' : Settles same k kind (Some v) None r (Some v) = (let P : Hung V → Type 0 = λ y. Settles same k kind (Some v) (value_in y) r (Some v) in subst P f s) in
      let c : Changed i a h (key_bytes k) None (Some v) _ h' = link_changed i a h (key_bytes k) (number one.at.node) one.byte (number leaf) v g.0 h' refl t w o p.fitted p.size p.byte nothing m g.1 g.2 in
      record {
        notes = _;
        effect = c.effect;
        sound = record { known = still_held (number one.at.node) (number leaf) o m; answer = (r, refl, settled (Some v) None r (Unlock one.at.node r) given' _ h' s' c) };
      }
    where
      still_held : (n c : ℕ) → Holding i a n → Made i a h (key_bytes k) c 7 0 → Holding i (noted a c (joined n)) n
      still_held n c o m =
          let e : noted a c (joined n) n ≡ a n = noted_other a c _ n (λ z. made_apart i a h (key_bytes k) c 7 0 n m (ap is_published o.linked) (sym z)) in
          record { owner = rw e o.owner; linked = rw e o.linked }

  -- a change of one locked node answers as the map, and leaves the call its lock
  pub changed_one : (one : NodeChange C) (r : Reply V) (given given' : Option V) (h' : ℕ → Node V) → Known number same always i a h k (key_bytes k) kind given (ChangeHere one r)
      → ChangedHere number (key_bytes k) given one one.change h h' → Kept number same always i a h k kind given given' (decided (Unlock one.at.node r)) h'
  changed_one one r given given' h' m g = by_single one r given given' m.0 h' one.change m.1.holding m.1.placed m.1.wanted m.1.made m.2 m.3 g

  -- the changes of the node above both
  collapsed_top : (two : ParentChange C) (r : Reply V) (given' : Option V) (v : V) (h' : ℕ → Node V) (top : Option (Parent C)) → TopLocked number i a h (key_bytes k) top (number two.above.stamp.node)
      → AboveLocked number i a h (key_bytes k) two.above (number two.at.node) → (a (number two.at.node)).owner ≡ Some i → Leaf h (number two.at.node) (key_bytes k) v → Settles same k kind None (Some v) r None
      → Collapses number two top h h' → Kept number same always i a h k kind None given' (after_top two r top) h'
  collapsed_top two r given' v h' None l o om leaf s g = absurd g
  collapsed_top two r given' v h' (Some top) l o om leaf s g =
      let a' : ℕ → Note = collapsed a i (number top.stamp.node) (number two.above.stamp.node) (number two.at.node) g.0 in
      let e : Changed i a h (key_bytes k) (Some v) None a' h' × TakenOut i a' h' (number top.stamp.node) (number two.at.node) × SecondOut i a' h' (number two.at.node) (number two.above.stamp.node)
      = collapse_changed i a h (key_bytes k) refl t w (number top.stamp.node) top.byte (number two.above.stamp.node) two.above.byte (number two.at.node) g.0 v h' l.holding l.byte l.child o.holding o.fitted o.byte o.child om leaf g.1 g.2 in
      record {
        notes = a';
        effect = e.0.effect;
        sound = record { known = (e.1, e.2); answer = (r, refl, settled None (Some v) r (Obsolete two.at.node (Some two.above.stamp.node) top.stamp.node r) given' a' h' s e.0) };
      }

  lessened_top : (two : ParentChange C) (r : Reply V) (given' : Option V) (v : V) (q : ℕ) (h' : ℕ → Node V) (c : C) (top : Option (Parent C)) → TopLocked number i a h (key_bytes k) top (number two.above.stamp.node)
      → AboveLocked number i a h (key_bytes k) two.above (number two.at.node) → (a (number two.at.node)).owner ≡ Some i → Leaf h (number two.at.node) (key_bytes k) v → Made i a h (key_bytes k) (number c) two.above.depth q
      → Settles same k kind None (Some v) r None → LessensTop number two c top h h' → Kept number same always i a h k kind None given' (after_top two r top) h'
  lessened_top two r given' v q h' c None l o om leaf mc s g = absurd g
  lessened_top two r given' v q h' c (Some top) l o om leaf mc s g =
      let a' : ℕ → Note = lessened a i (number top.stamp.node) (number two.above.stamp.node) (number two.at.node) (number c) in
      let e : Changed i a h (key_bytes k) (Some v) None a' h' × TakenOut i a' h' (number top.stamp.node) (number two.at.node) × SecondOut i a' h' (number two.at.node) (number two.above.stamp.node)
      = lessen_changed i a h (key_bytes k) refl t w (number top.stamp.node) top.byte (number two.above.stamp.node) two.above.byte (number two.at.node) (number c) q two.above.depth v h' l.holding l.byte l.child o.holding o.fitted o.byte o.child om leaf o.depth mc g in
      record {
        notes = a';
        effect = e.0.effect;
        sound = record { known = (e.1, e.2); answer = (r, refl, settled None (Some v) r (Obsolete two.at.node (Some two.above.stamp.node) top.stamp.node r) given' a' h' s e.0) };
      }

  by_double : (two : ParentChange C) (r : Reply V) (given given' found : Option V) (q : ℕ) (h' : ℕ → Node V) (change : Replacement C)
      → TopLocked number i a h (key_bytes k) two.top (number two.above.stamp.node) → AboveLocked number i a h (key_bytes k) two.above (number two.at.node) → (a (number two.at.node)).owner ≡ Some i → PlacedAbove (key_bytes k) change (h (number two.at.node)).prefix
      → WantedAbove (key_bytes k) change found q (h (number two.at.node)) → MadeAbove number i a h (key_bytes k) two.above change (length (h (number two.at.node)).prefix) q → FitsAbove change found given
      → Settles same k kind given found r given → ChangedAbove number (key_bytes k) given two change h h' → Kept number same always i a h k kind given given' (after_change two r change) h'
  by_double two r given given' None q h' Unlink up o om p n m f s g = absurd f
  by_double two r (Some w') given' (Some v) q h' Unlink up o om p n m f s g = absurd f
  by_double two r None given' (Some v) q h' Unlink up o om p n m f s g =
      let c : Changed i a h (key_bytes k) (Some v) None _ h' × TakenOut i _ h' (number two.above.stamp.node) (number two.at.node)
      = unlink_changed i a h (key_bytes k) (number two.above.stamp.node) two.above.byte (number two.at.node) v h' refl t w o.holding o.fitted o.byte o.child om
      (record { fitted = p.0; seven = p.1; value = n.0; empty = n.1 }) g in
      record { notes = _; effect = c.0.effect; sound = record { known = (c.1, tt); answer = (r, refl, settled None (Some v) r (Obsolete two.at.node None two.above.stamp.node r) given' _ h' s c.0) } }
  by_double two r given given' None q h' (Shrink c) up o om p n m f s g = absurd f
  by_double two r (Some w') given' (Some v) q h' (Shrink c) up o om p n m f s g = absurd f
  by_double two r None given' (Some v) q h' (Shrink c) up o om p n m f s g =
      let e : Changed i a h (key_bytes k) (Some v) None _ h' × TakenOut i _ h' (number two.above.stamp.node) (number two.at.node)
      = shrink_changed i a h (key_bytes k) refl t w (number two.above.stamp.node) two.above.byte (number two.at.node) (number c) q v h' o.holding o.byte o.child om p.0 p.1 n.0 m g in
      record { notes = _; effect = e.0.effect; sound = record { known = (e.1, tt); answer = (r, refl, settled None (Some v) r (Obsolete two.at.node None two.above.stamp.node r) given' _ h' s e.0) } }
  by_double two r given given' None q h' Collapse up o om p n m f s g = absurd f
  by_double two r (Some w') given' (Some v) q h' Collapse up o om p n m f s g = absurd f
  by_double two r None given' (Some v) q h' Collapse up o om p n m f s g = collapsed_top two r given' v h' two.top up o om (record { fitted = p.0; seven = p.1; value = n.0; empty = n.1 }) s g
  by_double two r given given' None q h' (ShrinkAbove c) up o om p n m f s g = absurd f
  by_double two r (Some w') given' (Some v) q h' (ShrinkAbove c) up o om p n m f s g = absurd f
  by_double two r None given' (Some v) q h' (ShrinkAbove c) up o om p n m f s g = lessened_top two r given' v q h' c two.top up o om (record { fitted = p.0; seven = p.1; value = n.0; empty = n.1 }) m.0 s g
  by_double two r None given' None q h' (Grow c) up o om p n m f s g = absurd f
  by_double two r given given' (Some x) q h' (Grow c) up o om p n m f s g = absurd f
  by_double two r (Some v) given' None q h' (Grow c) up o om p n m f s g =
      let e : Changed i a h (key_bytes k) None (Some v) _ h' × TakenOut i _ h' (number two.above.stamp.node) (number two.at.node)
      = grow_leaf i a h (key_bytes k) refl t w (number two.above.stamp.node) two.above.byte (number two.at.node) (number c) q v g.0 g.1 h' o.holding o.fitted o.byte o.child om p.0 p.1 n.0 m g.2 g.3 g.4 in
      record { notes = _; effect = e.0.effect; sound = record { known = (e.1, tt); answer = (r, refl, settled (Some v) None r (Obsolete two.at.node None two.above.stamp.node r) given' _ h' s e.0) } }
  by_double two r None given' None q h' (GrowLink c leaf byte) up o om p n m f s g = absurd f
  by_double two r given given' (Some x) q h' (GrowLink c leaf byte) up o om p n m f s g = absurd f
  by_double two r (Some v) given' None q h' (GrowLink c leaf byte) up o om p n m f s g =
      let e : Changed i a h (key_bytes k) None (Some v) _ h' × TakenOut i _ h' (number two.above.stamp.node) (number two.at.node)
      = grow_inner i a h (key_bytes k) refl t w (number two.above.stamp.node) two.above.byte (number two.at.node) (number c) (number leaf) byte q v g.0 g.1 g.2 h' o.holding o.fitted o.byte o.child om p.0 p.1 p.2 n.0 m.0 m.1 m.2 g.3 g.4 g.5 g.6 in
      record { notes = _; effect = e.0.effect; sound = record { known = (e.1, tt); answer = (r, refl, settled (Some v) None r (Obsolete two.at.node None two.above.stamp.node r) given' _ h' s e.0) } }
  by_double two r None given' None q h' (Split top leaf common byte) up o om p n m f s g = absurd f
  by_double two r given given' (Some x) q h' (Split top leaf common byte) up o om p n m f s g = absurd f
  by_double two r (Some v) given' None q h' (Split top leaf common byte) up o om p n m f s g =
      let e : Changed i a h (key_bytes k) None (Some v) _ h' × Holding i _ (number two.at.node) × Holding i _ (number two.above.stamp.node)
      = split_changed i a h (key_bytes k) (number two.above.stamp.node) two.above.byte (number two.at.node) (number top) (number leaf) common byte v g.0 g.1 g.2 h' refl t w o.holding o.fitted o.byte o.child om p.0 p.1 m.0 m.1 m.2 g.3 g.4 g.5 g.6 in
      let ch : IsChild a h (number two.above.stamp.node) _ (number two.at.node) = t.down (number two.above.stamp.node) _ (number two.at.node) o.holding.linked o.child in
      record {
        notes = _;
        effect = e.0.effect;
        sound = record {
          known = (e.1, e.2, (λ z. let y : length (h (number two.at.node)).prefix ≡ length (h (number two.above.stamp.node)).prefix = ap (λ y. length (h y).prefix) z in absurd (omega (arith, ch.longer))));
          answer = (r, refl, settled (Some v) None r (UnlockBelow two.at.node two.above.stamp.node r) given' _ h' s e.0);
        };
      }

  -- a change of two locked nodes answers as the map, and leaves the call what it has to hand over and unlock
  pub changed_two : (two : ParentChange C) (r : Reply V) (given given' : Option V) (h' : ℕ → Node V) → Known number same always i a h k (key_bytes k) kind given (ChangeAbove two r)
      → ChangedAbove number (key_bytes k) given two two.change h h' → Kept number same always i a h k kind given given' (after_change two r two.change) h'
  changed_two two r given given' h' m g = by_double two r given given' m.0 m.1 h' two.change m.2.top m.2.above m.2.owner m.2.placed m.2.wanted m.2.made m.4 m.5 g
