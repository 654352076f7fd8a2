-- A lesser node comes in the place of a locked one, or the only other child does: what the change leaves, and the map after it.
use Rattle.std.proofs.Common.{◌≡◌, ◌≢◌, ℕ, ◌==◌, inl, inr, true, false, List, length, get_or, refl, sym, ◌∙◌, ap, subst, arith}
use Rattle.std.specs.Prelude.{None, Some}
use Rattle.congee.specs.Heap.{Node, Nothing, Below, Holds, fits, child_for, value_at}
use Rattle.congee.specs.Notes.{Note, Linked, Gone, is_published, IsChild, Tree, LockWords, Collapses, Lessens, Shrinks, in_place_of}
use Rattle.congee.specs.protocol.Events.{ChangeGives, TakeOverGives, IsOther}
use Rattle.congee.specs.protocol.Steps.{PutsLesser}
use Rattle.congee.specs.protocol.Protocol.{Made, Holding, TakenOut}
use Rattle.congee.proofs.lemmas.Fits.{equal_of_test, same_test, fits_same}
use Rattle.congee.proofs.lemmas.Tree.{same_or_not, by_length}
use Rattle.congee.proofs.lemmas.Graft.{on_test}
use Rattle.congee.proofs.lemmas.Link.{Leaf}
use Rattle.congee.proofs.lemmas.Collapse.{collapse_tree, collapse_map}
use Rattle.congee.proofs.lemmas.Lessen.{lessen_tree, lessen_map}
use Rattle.congee.proofs.lemmas.Shrink.{shrink_tree, shrink_map}
use Rattle.congee.proofs.lemmas.protocol.Touch.{by_test, but_one, noted, noted_same, noted_other, Touched, as_it_was, moved, touched_effect}
use Rattle.congee.proofs.lemmas.protocol.Change.{Changed, StaysLocked, under_touch, under_change, under_above, under_taken, Live, live_made, live_changed, live_same, live_taken, joined, joined_touch, made_apart}
use Rattle.congee.proofs.lemmas.protocol.Regrow.{out_note, below_note, regrown, regrown_new, regrown_old, regrown_status, regrown_owner, regrown_same, regrown_moved, regrown_hidden}

-- what a lesser node in the place of node m leaves of nodes
pub record Lesser {V : Type 0} (h : ℕ → Node V) (m c b p up : ℕ) (h' : ℕ → Node V) : Type 0 where
  pub first : ℕ → Node V
  pub second : ℕ → Node V
  pub taken : TakeOverGives h m c first
  pub above : ChangeGives second p up (Below c) h'
  pub above_same : second p ≡ h p
  pub old_same : h' m ≡ first m
  pub prefix : (h' c).prefix ≡ (h c).prefix
  pub gap : (h' c).children b ≡ Nothing
  pub copied : (x : ℕ) → x ≢ b → (h' c).children x ≡ (h m).children x
  pub live : Live (h c) → Live (h' c)
  pub nodes : (x : ℕ) → x ≢ c → x ≢ m → x ≢ p → h' x ≡ h x

lesser_put : {V : Type 0} (h : ℕ → Node V) (m c b p up : ℕ) (h' : ℕ → Node V) → m ≢ c → p ≢ c → p ≢ m → PutsLesser h m c b p up h' → Lesser h m c b p up h'
lesser_put h m c b p up h' mc pc pm k =
    let cp : c ≢ p = (λ e. pc (sym e)) in
    let mp : m ≢ p = (λ e. pm (sym e)) in
    let ec : h' c ≡ k.1 c = k.4.others c cp in
    record {
      first = k.0;
      second = k.1;
      taken = k.2;
      above = k.4;
      above_same = k.3.others p pc ∙ k.2.others p pc pm;
      old_same = k.4.others m mp ∙ k.3.others m mc;
      prefix = ap (λ z. z.prefix) ec ∙ (k.3.prefix ∙ k.2.prefix);
      gap = ap (λ z. z.children b) ec ∙ k.3.child;
      copied = λ x ne. ap (λ z. z.children x) ec ∙ (k.3.beside x ne ∙ k.2.children x);
      live = λ l. live_same (k.1 c) (h' c) ec (live_changed k.0 c b Nothing k.1 k.3 (live_taken h m c k.0 k.2 l));
      nodes = λ x xc xm xp. k.4.others x xp ∙ (k.3.others x xc ∙ k.2.others x xc xm);
    }

in_place : (a : ℕ → Note) (i p m c : ℕ) (x : ℕ) → x ≢ c → x ≢ m → is_published (a x).status ≡ true → (regrown a i p m c c x).parent ≡ in_place_of m c (a x).parent
in_place a i p m c x xc xm pu = by_test (λ (y : ℕ). (regrown a i p m c c x).parent ≡ y) ((a x).parent == m) _ _
    (λ q. regrown_moved a i p m c c x xc xc xm pu (equal_of_test (a x).parent m q))
    (λ q. regrown_same a i p m c c x xc xc xm (λ e. let z : (a x).parent == m ≡ true = (let P : ℕ → Type 0 = λ y. y == m ≡ true in subst P (sym e) (same_test m m refl)) in cc))

module _ {V : Type 0} (i : ℕ) (a : ℕ → Note) (h : ℕ → Node V) (key : List ℕ) (len : length key ≡ 8) (t : Tree a h) (w : LockWords a h) where
  -- a leaf gives way to a lesser one without the value
  pub shrink_changed : (p b m c q : ℕ) (v : V) (h' : ℕ → Node V) → Holding i a p → b ≡ get_or key (length (h p).prefix) 0 → child_for (h p) key ≡ Below m
      → (a m).owner ≡ Some i → fits (h m).prefix key ≡ true → length (h m).prefix ≡ 7 → child_for (h m) key ≡ Holds v → Made i a h key c (length (h m).prefix) q → PutsLesser h m c (get_or key 7 0) p b h'
      → Changed i a h key (Some v) None (regrown a i p m c c) h' × TakenOut i (regrown a i p m c c) h' p m
  shrink_changed p b m c q v h' o eb hung om fm seven value mc k =
      let ch : IsChild a h p (get_or key (length (h p).prefix) 0) m = t.down p _ m o.linked hung in
      let pm : p ≢ m = by_length h p m ch.longer in
      let up : is_published (a p).status ≡ true = ap is_published o.linked in
      let um : is_published (a m).status ≡ true = ap is_published ch.linked in
      let apart : (n : ℕ) → is_published (a n).status ≡ true → n ≢ c = λ n pu e. made_apart i a h key c (length (h m).prefix) q n mc pu (sym e) in
      let pc : p ≢ c = apart p up in
      let cm : m ≢ c = apart m um in
      let l : Lesser h m c (get_or key 7 0) p b h' = lesser_put h m c (get_or key 7 0) p b h' cm pc pm k in
      let old : regrown a i p m c c m ≡ out_note i p = regrown_old a i p m c c cm cm in
      let same : (h c).prefix ≡ (h m).prefix = fits_same (h c).prefix (h m).prefix key mc.fitted fm mc.long in
      let above : StaysLocked i a h (regrown a i p m c c) h' p = under_above i a h _ l.second h' p b (Below c) o (regrown_status a i p m c c p pc pc pm) (regrown_owner a i p m c c p pc pc pm) l.above_same l.above in
      let s : Shrinks a h (regrown a i p m c c) h' p (get_or key (length (h p).prefix) 0) m c key v = record {
        linked = o.linked;
        hung = hung;
        fitted = fm;
        seven = seven;
        value = value;
        unlinked = (λ u. apart c (ap is_published u) refl);
        prefix = above.prefix;
        child = rw (← eb) l.above.child;
        beside = λ x ne. l.above.beside x (let P : ℕ → Type 0 = λ z. x ≢ z in subst P (sym eb) ne) ∙ ap (λ z. z.children x) l.above_same;
        same_prefix = l.prefix ∙ same;
        gap = (let P : ℕ → Type 0 = λ y. (h' c).children (get_or key y 0) ≡ Nothing in subst P (sym seven) l.gap);
        copied = λ x ne. l.copied x (let P : ℕ → Type 0 = λ z. x ≢ get_or key z 0 in subst P seven ne);
        joined = rw (regrown_new a i p m c c) refl;
        left = (λ u. let z : Gone ≡ Linked = rw old at u in cc);
        stays = λ x xm xc. regrown_status a i p m c c x xc xc xm;
        parent = rw (regrown_new a i p m c c) refl;
        parents = λ x u xm. in_place a i p m c x (apart x (ap is_published u)) xm (ap is_published u);
        nodes = λ x xp xm xc. l.nodes x xc xm xp;
      } in
      let map : (value_at h key ≡ Some v) × (value_at h' key ≡ None) × ((y : List ℕ) → length y ≡ 8 → y ≢ key → value_at h' y ≡ value_at h y) = shrink_map a h _ h' p _ m c key v t s len in
      let under_old : StaysLocked i a h (regrown a i p m c c) h' m = under_taken i a h _ h l.first h' m c om ch.linked (rw old refl) (rw old refl) refl l.taken l.old_same in
      let touch : (x : ℕ) → Touched i a h (regrown a i p m c c) h' x = λ x. elim (same_or_not x c) [
        | inl z ↦ (let P : ℕ → Type 0 = λ y. Touched i a h (regrown a i p m c c) h' y in
            subst P (sym z) (joined_touch i a h _ h' key c (length (h m).prefix) q p mc (regrown_new a i p m c c) (l.live (live_made i a h key c _ q mc))))
        | inr xc ↦ elim (same_or_not x m) [
          | inl z ↦ (let P : ℕ → Type 0 = λ y. Touched i a h (regrown a i p m c c) h' y in subst P (sym z) (under_touch i a h _ h' m w under_old))
          | inr xm ↦ elim (same_or_not x p) [
            | inl z ↦ (let P : ℕ → Type 0 = λ y. Touched i a h (regrown a i p m c c) h' y in subst P (sym z) (under_touch i a h _ h' p w above))
            | inr xp ↦ on_test (is_published (a x).status)
                (λ pu. moved (l.nodes x xc xm xp) pu (regrown_status a i p m c c x xc xc xm) (regrown_owner a i p m c c x xc xc xm))
                (λ pu. as_it_was (l.nodes x xc xm xp) (regrown_hidden a i p m c c x xc xc xm pu))
          ]
        ]
      ] in
      let root : (h' 0).capacity ≡ (h 0).capacity = elim (same_or_not 0 p) [
        | inl z ↦ (let P : ℕ → Type 0 = λ y. (h' y).capacity ≡ (h y).capacity in subst P (sym z) (l.above.capacity ∙ ap (λ y. y.capacity) l.above_same))
        | inr xp ↦ ap (λ z. z.capacity) (l.nodes 0 (apart 0 (ap is_published t.root)) (by_length h 0 m (let z : length (h 0).prefix ≡ 0 = ap length t.empty in omega (arith, ch.longer))) xp)
      ] in (
        record { effect = touched_effect i a h _ h' w (shrink_tree a h _ h' p _ m c key v t s) root touch; before = map.0; after = map.1; rest = map.2 },
        record {
          above = record { owner = regrown_owner a i p m c c p pc pc pm ∙ o.owner; linked = regrown_status a i p m c c p pc pc pm ∙ o.linked };
          owner = rw old refl;
          gone = rw old refl;
          unretired = under_old.retired ∙ (w.each m).unretired ch.linked;
        },
      )

-- the notes after a leaf and the node above it went, with the other child in that one's place
unfoldable pub collapsed : (ℕ → Note) → ℕ → ℕ → ℕ → ℕ → ℕ → ℕ → Note
collapsed a i g p n o = noted (noted (noted a o (below_note (a o) g)) p (out_note i g)) n (out_note i p)

module _ (a : ℕ → Note) (i g p n o : ℕ) where
  collapsed_leaf : collapsed a i g p n o n ≡ out_note i p
  unfolding collapsed
  collapsed_leaf = noted_same _ n _

  collapsed_above : p ≢ n → collapsed a i g p n o p ≡ out_note i g
  unfolding collapsed
  collapsed_above pn = noted_other _ n _ p pn ∙ noted_same _ p _

  collapsed_child : o ≢ n → o ≢ p → collapsed a i g p n o o ≡ below_note (a o) g
  unfolding collapsed
  collapsed_child on op = noted_other _ n _ o on ∙ (noted_other _ p _ o op ∙ noted_same a o _)

  collapsed_rest : (x : ℕ) → x ≢ n → x ≢ p → x ≢ o → collapsed a i g p n o x ≡ a x
  unfolding collapsed
  collapsed_rest x xn xp xo = noted_other _ n _ x xn ∙ (noted_other _ p _ x xp ∙ noted_other a o _ x xo)

-- and with a lesser node there
unfoldable pub lessened : (ℕ → Note) → ℕ → ℕ → ℕ → ℕ → ℕ → ℕ → Note
lessened a i g p n c = noted (regrown a i g p c c) n (out_note i p)

module _ (a : ℕ → Note) (i g p n c : ℕ) where
  lessened_leaf : lessened a i g p n c n ≡ out_note i p
  unfolding lessened
  lessened_leaf = noted_same _ n _

  lessened_other : (x : ℕ) → x ≢ n → lessened a i g p n c x ≡ regrown a i g p c c x
  unfolding lessened
  lessened_other x xn = noted_other _ n _ x xn

-- a node that goes with its lock held, as it was
gone_locked : {V : Type 0} (i : ℕ) (a : ℕ → Note) (h : ℕ → Node V) (a' : ℕ → Note) (h' : ℕ → Node V) (n p : ℕ) → (a n).owner ≡ Some i → (a n).status ≡ Linked → a' n ≡ out_note i p → h' n ≡ h n → StaysLocked i a h a' h' n
gone_locked i a h a' h' n p o l e f = record {
  owner = o;
  owner_after = rw e refl;
  published = ap is_published l;
  published_after = rw e refl;
  linked = λ _. l;
  prefix = rw f refl;
  version = rw f refl;
  locked = rw f refl;
  made = rw f refl;
  destroyed = rw f refl;
  retired = rw f refl;
  obsolete = rw f refl;
}

-- what a call knows of a second node that it took out
abbrev pub SecondOut : {V : Type 0} → ℕ → (ℕ → Note) → (ℕ → Node V) → ℕ → ℕ → Type 0
SecondOut i a h n p = ((a p).owner ≡ Some i) × ((a p).status ≡ Gone) × ((h p).retired ≡ false) × (p ≢ n)

module _ {V : Type 0} (i : ℕ) (a : ℕ → Note) (h : ℕ → Node V) (key : List ℕ) (len : length key ≡ 8) (t : Tree a h) (w : LockWords a h) where
  -- a leaf goes, and with it the node above, whose other child comes in its place
  pub collapse_changed : (g b p up n o : ℕ) (v : V) (h' : ℕ → Node V) → Holding i a g → b ≡ get_or key (length (h g).prefix) 0 → child_for (h g) key ≡ Below p
      → Holding i a p → fits (h p).prefix key ≡ true → up ≡ get_or key (length (h p).prefix) 0 → child_for (h p) key ≡ Below n → (a n).owner ≡ Some i → Leaf h n key v → IsOther (h p) up o → ChangeGives h g b (Below o) h'
      → Changed i a h key (Some v) None (collapsed a i g p n o) h' × TakenOut i (collapsed a i g p n o) h' g n × SecondOut i (collapsed a i g p n o) h' n p
  collapse_changed g b p up n o v h' og eb hung op fit eu low om leaf is k =
      let cp : IsChild a h g (get_or key (length (h g).prefix) 0) p = t.down g _ p og.linked hung in
      let cn : IsChild a h p (get_or key (length (h p).prefix) 0) n = t.down p _ n op.linked low in
      let co : IsChild a h p is.at o = t.down p is.at o op.linked is.child in
      let gp : g ≢ p = by_length h g p cp.longer in
      let pn : p ≢ n = by_length h p n cn.longer in
      let po : p ≢ o = by_length h p o co.longer in
      let gn : g ≢ n = by_length h g n (omega (arith, cp.longer, cn.longer)) in
      let go : g ≢ o = by_length h g o (omega (arith, cp.longer, co.longer)) in
      let apart : is.at ≢ get_or key (length (h p).prefix) 0 = (let P : ℕ → Type 0 = λ y. is.at ≢ y in subst P eu is.apart) in
      let no : n ≢ o = (λ e. apart (sym co.byte ∙ (let P : ℕ → Type 0 = λ y. get_or (h y).prefix (length (h p).prefix) 0 ≡ get_or key (length (h p).prefix) 0 in subst P e cn.byte))) in
      let on : o ≢ n = (λ e. no (sym e)) in
      let op' : o ≢ p = (λ e. po (sym e)) in
      let leaf_is : collapsed a i g p n o n ≡ out_note i p = collapsed_leaf a i g p n o in
      let old_is : collapsed a i g p n o p ≡ out_note i g = collapsed_above a i g p n o pn in
      let child_is : collapsed a i g p n o o ≡ below_note (a o) g = collapsed_child a i g p n o on op' in
      let top_is : collapsed a i g p n o g ≡ a g = collapsed_rest a i g p n o g gn gp go in
      let hp : h' p ≡ h p = k.others p (λ e. gp (sym e)) in
      let hn : h' n ≡ h n = k.others n (λ e. gn (sym e)) in
      let status : (x : ℕ) → x ≢ n → x ≢ p → (collapsed a i g p n o x).status ≡ (a x).status = λ x xn xp. elim (same_or_not x o) [
        | inl z ↦ (let P : ℕ → Type 0 = λ y. (collapsed a i g p n o y).status ≡ (a y).status in subst P (sym z) (rw child_is refl))
        | inr xo ↦ rw (collapsed_rest a i g p n o x xn xp xo) refl
      ] in
      let s : Collapses a h (collapsed a i g p n o) h' g (get_or key (length (h g).prefix) 0) p n is.at o key v = record {
        linked = og.linked;
        hung = hung;
        fitted = fit;
        low = low;
        fitted_leaf = leaf.fitted;
        seven = leaf.seven;
        value = leaf.value;
        empty = leaf.empty;
        other = is.child;
        apart = apart;
        alone = λ x xk xq. is.alone x (let P : ℕ → Type 0 = λ y. x ≢ y in subst P (sym eu) xk) xq;
        prefix = k.prefix;
        prefix_low = rw hp refl;
        child = rw (← eb) k.child;
        beside = λ x ne. k.beside x (let P : ℕ → Type 0 = λ y. x ≢ y in subst P (sym eb) ne);
        left = (λ l. let z : Gone ≡ Linked = rw old_is at l in cc);
        left_low = rw leaf_is refl;
        stays = λ x xp xn. status x xn xp;
        parent = rw child_is refl;
        parents = λ x _ xp xn xo. rw (collapsed_rest a i g p n o x xn xp xo) refl;
        nodes = λ x xg xp. k.others x xg;
      } in
      let map : (value_at h key ≡ Some v) × (value_at h' key ≡ None) × ((y : List ℕ) → length y ≡ 8 → y ≢ key → value_at h' y ≡ value_at h y) = collapse_map a h _ h' g _ p n is.at o key v t s len in
      let touch : (x : ℕ) → Touched i a h (collapsed a i g p n o) h' x = λ x. elim (same_or_not x n) [
        | inl z ↦ (let P : ℕ → Type 0 = λ y. Touched i a h (collapsed a i g p n o) h' y in subst P (sym z) (under_touch i a h _ h' n w (gone_locked i a h _ h' n p om cn.linked leaf_is hn)))
        | inr xn ↦ elim (same_or_not x p) [
          | inl z ↦ (let P : ℕ → Type 0 = λ y. Touched i a h (collapsed a i g p n o) h' y in subst P (sym z) (under_touch i a h _ h' p w (gone_locked i a h _ h' p g op.owner op.linked old_is hp)))
          | inr xp ↦ elim (same_or_not x g) [
            | inl z ↦ (let P : ℕ → Type 0 = λ y. Touched i a h (collapsed a i g p n o) h' y in subst P (sym z) (under_touch i a h _ h' g w (under_change i a h _ h h' g b (Below o) og top_is refl k)))
            | inr xg ↦ elim (same_or_not x o) [
              | inl z ↦ (let P : ℕ → Type 0 = λ y. Touched i a h (collapsed a i g p n o) h' y in
                  subst P (sym z) (moved (k.others o (λ e. go (sym e))) (ap is_published co.linked) (rw child_is refl) (rw child_is refl)))
              | inr xo ↦ as_it_was (k.others x xg) (collapsed_rest a i g p n o x xn xp xo)
            ]
          ]
        ]
      ] in (
        record {
          effect = touched_effect i a h _ h' w (collapse_tree a h _ h' g _ p n is.at o key v t s) (but_one (λ y z. y.capacity ≡ z.capacity) h h' g (λ y. refl) k.others k.capacity 0) touch;
          before = map.0;
          after = map.1;
          rest = map.2;
        },
        record {
          above = record { owner = rw top_is og.owner; linked = rw top_is og.linked };
          owner = rw leaf_is refl;
          gone = rw leaf_is refl;
          unretired = rw hn ((w.each n).unretired cn.linked);
        },
        (rw old_is refl, rw old_is refl, rw hp ((w.each p).unretired op.linked), pn),
      )

  -- a leaf goes, and a lesser node comes in the place of the one above
  pub lessen_changed : (g b p up n c q size : ℕ) (v : V) (h' : ℕ → Node V) → Holding i a g → b ≡ get_or key (length (h g).prefix) 0 → child_for (h g) key ≡ Below p
      → Holding i a p → fits (h p).prefix key ≡ true → up ≡ get_or key (length (h p).prefix) 0 → child_for (h p) key ≡ Below n → (a n).owner ≡ Some i → Leaf h n key v
      → size ≡ length (h p).prefix → Made i a h key c size q → PutsLesser h p c up g b h'
      → Changed i a h key (Some v) None (lessened a i g p n c) h' × TakenOut i (lessened a i g p n c) h' g n × SecondOut i (lessened a i g p n c) h' n p
  lessen_changed g b p up n c q size v h' og eb hung op fit eu low om leaf es mc k =
      let cp : IsChild a h g (get_or key (length (h g).prefix) 0) p = t.down g _ p og.linked hung in
      let cn : IsChild a h p (get_or key (length (h p).prefix) 0) n = t.down p _ n op.linked low in
      let gp : g ≢ p = by_length h g p cp.longer in
      let pn : p ≢ n = by_length h p n cn.longer in
      let gn : g ≢ n = by_length h g n (omega (arith, cp.longer, cn.longer)) in
      let np : n ≢ p = (λ e. pn (sym e)) in
      let pub_g : is_published (a g).status ≡ true = ap is_published og.linked in
      let pub_p : is_published (a p).status ≡ true = ap is_published op.linked in
      let pub_n : is_published (a n).status ≡ true = ap is_published cn.linked in
      let apart : (x : ℕ) → is_published (a x).status ≡ true → x ≢ c = λ x pu e. made_apart i a h key c size q x mc pu (sym e) in
      let gc : g ≢ c = apart g pub_g in
      let pc : p ≢ c = apart p pub_p in
      let nc : n ≢ c = apart n pub_n in
      let l : Lesser h p c up g b h' = lesser_put h p c up g b h' pc gc gp k in
      let leaf_is : lessened a i g p n c n ≡ out_note i p = lessened_leaf a i g p n c in
      let old_is : lessened a i g p n c p ≡ out_note i g = lessened_other a i g p n c p pn ∙ regrown_old a i g p c c pc pc in
      let new_is : lessened a i g p n c c ≡ joined g = lessened_other a i g p n c c (λ e. nc (sym e)) ∙ regrown_new a i g p c c in
      let status : (x : ℕ) → x ≢ c → x ≢ p → x ≢ n → (lessened a i g p n c x).status ≡ (a x).status = λ x xc xp xn. rw (lessened_other a i g p n c x xn) (regrown_status a i g p c c x xc xc xp) in
      let owner : (x : ℕ) → x ≢ c → x ≢ p → x ≢ n → (lessened a i g p n c x).owner ≡ (a x).owner = λ x xc xp xn. rw (lessened_other a i g p n c x xn) (regrown_owner a i g p c c x xc xc xp) in
      let hn : h' n ≡ h n = l.nodes n nc np (λ e. gn (sym e)) in
      let same : (h c).prefix ≡ (h p).prefix = fits_same (h c).prefix (h p).prefix key mc.fitted fit (mc.long ∙ es) in
      let above : StaysLocked i a h (lessened a i g p n c) h' g = under_above i a h _ l.second h' g b (Below c) og (status g gc gp gn) (owner g gc gp gn) l.above_same l.above in
      let under_old : StaysLocked i a h (lessened a i g p n c) h' p = under_taken i a h _ h l.first h' p c op.owner op.linked (rw old_is refl) (rw old_is refl) refl l.taken l.old_same in
      let s : Lessens a h (lessened a i g p n c) h' g (get_or key (length (h g).prefix) 0) p n c key v = record {
        linked = og.linked;
        hung = hung;
        fitted = fit;
        low = low;
        fitted_leaf = leaf.fitted;
        seven = leaf.seven;
        value = leaf.value;
        empty = leaf.empty;
        unlinked = (λ u. apart c (ap is_published u) refl);
        prefix = above.prefix;
        child = rw (← eb) l.above.child;
        beside = λ x ne. l.above.beside x (let P : ℕ → Type 0 = λ z. x ≢ z in subst P (sym eb) ne) ∙ ap (λ z. z.children x) l.above_same;
        same_prefix = l.prefix ∙ same;
        gap = (let P : ℕ → Type 0 = λ y. (h' c).children y ≡ Nothing in subst P eu l.gap);
        copied = λ x ne. l.copied x (let P : ℕ → Type 0 = λ z. x ≢ z in subst P (sym eu) ne);
        joined = rw new_is refl;
        left = (λ u. let z : Gone ≡ Linked = rw old_is at u in cc);
        left_low = rw leaf_is refl;
        stays = λ x xp xn xc. status x xc xp xn;
        parent = rw new_is refl;
        parents = λ x u xp xn. rw (lessened_other a i g p n c x xn) (in_place a i g p c x (apart x (ap is_published u)) xp (ap is_published u));
        nodes = λ x xg xp xc. l.nodes x xc xp xg;
      } in
      let map : (value_at h key ≡ Some v) × (value_at h' key ≡ None) × ((y : List ℕ) → length y ≡ 8 → y ≢ key → value_at h' y ≡ value_at h y) = lessen_map a h _ h' g _ p n c key v t s len in
      let touch : (x : ℕ) → Touched i a h (lessened a i g p n c) h' x = λ x. elim (same_or_not x c) [
        | inl z ↦ (let P : ℕ → Type 0 = λ y. Touched i a h (lessened a i g p n c) h' y in
            subst P (sym z) (joined_touch i a h _ h' key c size q g mc new_is (l.live (live_made i a h key c _ q mc))))
        | inr xc ↦ elim (same_or_not x n) [
          | inl z ↦ (let P : ℕ → Type 0 = λ y. Touched i a h (lessened a i g p n c) h' y in subst P (sym z) (under_touch i a h _ h' n w (gone_locked i a h _ h' n p om cn.linked leaf_is hn)))
          | inr xn ↦ elim (same_or_not x p) [
            | inl z ↦ (let P : ℕ → Type 0 = λ y. Touched i a h (lessened a i g p n c) h' y in subst P (sym z) (under_touch i a h _ h' p w under_old))
            | inr xp ↦ elim (same_or_not x g) [
              | inl z ↦ (let P : ℕ → Type 0 = λ y. Touched i a h (lessened a i g p n c) h' y in subst P (sym z) (under_touch i a h _ h' g w above))
              | inr xg ↦ on_test (is_published (a x).status)
                  (λ pu. moved (l.nodes x xc xp xg) pu (status x xc xp xn) (owner x xc xp xn))
                  (λ pu. as_it_was (l.nodes x xc xp xg) (lessened_other a i g p n c x xn ∙ regrown_hidden a i g p c c x xc xc xp pu))
            ]
          ]
        ]
      ] in
      let root : (h' 0).capacity ≡ (h 0).capacity = elim (same_or_not 0 g) [
        | inl z ↦ (let P : ℕ → Type 0 = λ y. (h' y).capacity ≡ (h y).capacity in subst P (sym z) (l.above.capacity ∙ ap (λ y. y.capacity) l.above_same))
        | inr xg ↦ ap (λ z. z.capacity) (l.nodes 0 (apart 0 (ap is_published t.root)) (by_length h 0 p (let z : length (h 0).prefix ≡ 0 = ap length t.empty in omega (arith, cp.longer))) xg)
      ] in (
        record { effect = touched_effect i a h _ h' w (lessen_tree a h _ h' g _ p n c key v t s) root touch; before = map.0; after = map.1; rest = map.2 },
        record {
          above = record { owner = owner g gc gp gn ∙ og.owner; linked = status g gc gp gn ∙ og.linked };
          owner = rw leaf_is refl;
          gone = rw leaf_is refl;
          unretired = rw hn ((w.each n).unretired cn.linked);
        },
        (rw old_is refl, rw old_is refl, under_old.retired ∙ (w.each p).unretired op.linked, pn),
      )
