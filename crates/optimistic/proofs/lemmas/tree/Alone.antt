-- Where no node moves, a look at a node that covers a key comes to the key's value, or to a deeper one that covers it.
use Rattle.std.proofs.Common.{◌≡◌, ◌≢◌, ℕ, ◌+◌, ◌%◌, ◌^◌, ◌<◌, ◌≤◌, ◌⊎◌, true, Option, None, Some, IfNone, IfSome, IsSome, Result, Ok, Err, sym, refl, ap, ◌∙◌, subst, inl, inr, ⊎_elim, arith}
use mathlib.Core.Logic.{dite}
use native.Mathlib.Decide.{ℕ_discrete}
use Rattle.optimistic.specs.Layout.{width, tag_of, level_of, node_of, byte_at, where_of}
use Rattle.optimistic.specs.declared.drain.nexts.Next.{Next}
use Rattle.optimistic.specs.declared.drain.nexts.Next.TheVariants.{Here, Down as NextDown, After}
use Rattle.optimistic.specs.declared.tree.last.BackSight.{BackSight}
use Rattle.optimistic.specs.declared.tree.next.Sight.{Sight}
use Rattle.optimistic.specs.declared.tree.place.Place.{Place}
use Rattle.optimistic.specs.declared.tree.place.Look.{Look}
use Rattle.optimistic.specs.declared.tree.place.Look.TheVariants.{Answer, Down, Again}
use Rattle.optimistic.specs.declared.tree.run.Run.{Run}
use Rattle.optimistic.specs.declared.tree.whole.Unscanned.{Unscanned}
use Rattle.optimistic.specs.declared.tree.whole.Unscanned.TheVariants.{Again as Unready, Memory}
use Rattle.optimistic.specs.declared.words.rule.Moment.{Moment}
use Rattle.optimistic.specs.declared.words.rule.View.{View}
use Rattle.optimistic.specs.words.Kept.{word_at, version_at, form_at, size, calm_at, Since, Sound}
use Rattle.optimistic.specs.words.Told.{HasForm, Looks}
use Rattle.optimistic.specs.forms.Children.{first_of, second_of, IsForm}
use Rattle.optimistic.specs.tree.Alone.{IsDisturbed, IsDisturbedIn, IsDisturbedFrom, IsQuiet, IsDated, IsLed, IsSeen, IsWay, IsFollowed}
use Rattle.optimistic.specs.tree.Asked.{IsLedNext, IsShown, IsAsked, IsNextWay, IsOnWay, IsTraced, IsEnd, IsSought, sight_in}
use Rattle.optimistic.specs.tree.Levels.{form_of, depth, stands, goes_on}
use Rattle.optimistic.specs.tree.Nexts.{IsNext}
use Rattle.optimistic.specs.tree.Reads.{Still, Agrees, Steady, Found, IsLook, IsPlace}
use Rattle.optimistic.specs.tree.Sights.{Shows, Knows, IsSight, IsBackSight}
use Rattle.optimistic.specs.tree.Trees.{IsTree, where_at, first_at, second_at}
use Rattle.optimistic.specs.tree.Wholes.{IfAgain}
use Rattle.optimistic.proofs.lemmas.words.Moments.{version_word, sandwich, inside_since, since_refl, since_trans, width_some}
use Rattle.optimistic.proofs.lemmas.words.Chains.{settled_between}
use Rattle.optimistic.proofs.lemmas.forms.Levels.{where_level, where_form}
use Rattle.optimistic.proofs.lemmas.drain.Ends.{goes_tags}
use Rattle.optimistic.proofs.lemmas.tree.Nodes.{clash}
use Rattle.optimistic.proofs.lemmas.tree.Reading.{still_agrees, where_stands, where_some, goes_where, none_ends}
use Rattle.optimistic.proofs.lemmas.tree.Setting.{place_since}
use Rattle.std.proofs.lemmas.Bool.{eqb-true}

-- the root covers each key
pub root_covers : (key : ℕ) → key < 2 ^ 64 → 32 ≡ where_of 4 0 key
root_covers key small = omega arith

pub disturbed_until : (a b c : Moment) → IsDisturbed a b → Since a b → Since b c → IsDisturbed a c
disturbed_until a b c d p q = record {
  node = d.node;
  some = d.some;
  moved = ⊎_elim (λ (odd : version_at a.words d.node % 2 ≡ 1). inl odd)
      (λ (ne : version_at b.words d.node ≢ version_at a.words d.node). inr (λ (e : version_at c.words d.node ≡ version_at a.words d.node).
      let l : version_at a.words d.node ≤ version_at b.words d.node = p.grows d.node d.some in
      let m : version_at b.words d.node ≤ version_at c.words d.node = q.grows d.node (inside_since a b p d.node 0 d.some) in
      ne (omega arith))) d.moved;
}

-- a node has one even version from a moment until another, or moved
pub stays_or : (a b : Moment) (n : ℕ) → 0 < size a.plots n → IsDisturbed a b ⊎ ((word_at a.words n 0 % 2 ≡ 0) × (word_at b.words n 0 ≡ word_at a.words n 0))
stays_or a b n some = dite (ℕ_discrete (version_at a.words n % 2) 1)
    (λ (odd : version_at a.words n % 2 ≡ 1). inl record { node = n; some = some; moved = inl odd })
    (λ even. dite (ℕ_discrete (version_at b.words n) (version_at a.words n))
    (λ (e : version_at b.words n ≡ version_at a.words n). inr (
      (let z : version_at a.words n % 2 ≡ 0 = omega arith in ap (λ (x : ℕ). x % 2) (sym (version_word a.words n)) ∙ z),
      sym (version_word b.words n) ∙ (e ∙ version_word a.words n),
    ))
    (λ ne. inl record { node = n; some = some; moved = inr ne }))

-- it had two versions
pub moved_between : (a b c : Moment) (n : ℕ) → 0 < size a.plots n → Since a b → Since b c → word_at c.words n 0 ≢ word_at b.words n 0 → IsDisturbed a c
moved_between a b c n there s t ne = ⊎_elim (λ (d : IsDisturbed a c). d)
    (λ (e : (word_at a.words n 0 % 2 ≡ 0) × (word_at c.words n 0 ≡ word_at a.words n 0)).
    let m = settled_between a b c n (word_at a.words n 0) there s t refl e.0 e.1 in
    absurd (ne (e.1 ∙ sym (sym (version_word b.words n) ∙ m.0))))
    (stays_or a c n there)

-- At the moment a the node was settled as one that covers the key
module _ (a : Moment) (node form level key : ℕ) (some : 0 < form) (low : form < 9) (deep : level < 8) (sound : Sound IsTree a) (is : where_at a.calm node ≡ where_of form level key) where
  pub there : 0 < size a.plots node
  there = dite (ℕ_discrete (size a.plots node) 0)
      (λ (z : size a.plots node ≡ 0). absurd (where_some form level key some low deep (sym is ∙ sound.laid.new node 1 z)))
      (λ ne. omega arith)

  pub form_there : (v : View) → Since a v.seen → HasForm node form v → form_at a.plots node ≡ form
  form_there v s at = sym (s.plots node there) ∙ at.is

  -- where it stays, its words are those that it was settled with
  pub calm_stays : (b : Moment) → Since a b → word_at a.words node 0 % 2 ≡ 0 → word_at b.words node 0 ≡ word_at a.words node 0 → calm_at b.calm node ≡ calm_at a.calm node
  calm_stays b s even same i j = s.still node there (ap (λ (x : ℕ). x % 2) (version_word a.words node) ∙ even) (version_word a.words node ∙ (sym same ∙ sym (version_word b.words node))) j i

  pub agrees : (v w : View) → Since a v.seen → Since v.seen w.seen → HasForm node form v → word_at a.words node 0 % 2 ≡ 0 → word_at w.seen.words node 0 ≡ word_at a.words node 0 → Agrees node form v w (calm_at a.calm node)
  agrees v w s t at even same =
      let still : Still node form v w a w.seen = record { before = s; after = since_refl w.seen; is = form_there v s at; even = even; same = same } in
      subst (λ (f : ℕ → ℕ). Agrees node form v w f) (calm_stays w.seen (since_trans a v.seen w.seen s t) even same) (still_agrees node form v w a w.seen still)

  -- its second word was read, and isn't the one that covers the key
  pub other_word : (v w : View) (x : ℕ) → Since a v.seen → Since v.seen w.seen → HasForm node form v → Steady node form 1 x v w → x ≢ where_of form level key → IsDisturbed a w.seen
  other_word v w x s t at read ne = ⊎_elim (λ (d : IsDisturbed a w.seen). d)
      (λ (e : (word_at a.words node 0 % 2 ≡ 0) × (word_at w.seen.words node 0 ≡ word_at a.words node 0)). absurd (ne (sym (read (calm_at a.calm node) (agrees v w s t at e.0 e.1)) ∙ is)))
      (stays_or a w.seen node there)

  -- its version was odd
  pub was_odd : (b c : Moment) → Since a b → Since b c → word_at b.words node 0 % 2 ≡ 1 → IsDisturbed a c
  was_odd b c s t odd = disturbed_until a b c (⊎_elim (λ (d : IsDisturbed a b). d)
      (λ (e : (word_at a.words node 0 % 2 ≡ 0) × (word_at b.words node 0 ≡ word_at a.words node 0)). absurd (let z : word_at b.words node 0 % 2 ≡ 0 = ap (λ (x : ℕ). x % 2) e.1 ∙ e.0 in omega arith))
      (stays_or a b node there)) s t

  pub two_versions : (b c : Moment) → Since a b → Since b c → word_at c.words node 0 ≢ word_at b.words node 0 → IsDisturbed a c
  two_versions b c s t ne = moved_between a b c node there s t ne

  -- its child there is a node that covers the key
  pub leads_down : (v w : View) (first second : ℕ) → Since a v.seen → Since v.seen w.seen → HasForm node form v → Found node form first second key (byte_at key level) v w → 0 < tag_of first → tag_of first < 9 → goes_on first second key ≡ true
      → IsDisturbed a w.seen ⊎ ((level < level_of first) × (where_at a.calm (node_of first) ≡ where_of (tag_of first) (level_of first) key))
  leads_down v w first second s t at found tag_some tag_low on = ⊎_elim (λ (d : IsDisturbed a w.seen). inl d)
      (λ (e : (word_at a.words node 0 % 2 ≡ 0) × (word_at w.seen.words node 0 ≡ word_at a.words node 0)).
      let f : form_of (where_at a.calm node) ≡ form = ap form_of is ∙ where_form form level key deep (omega arith) in
      let d : depth (where_at a.calm node) ≡ level = ap depth is ∙ where_level form level key deep (omega arith) in
      let here : stands (where_at a.calm node) key ≡ true = ap (λ (z : ℕ). stands z key) is ∙ where_stands form level key some low deep in
      let shape : IsForm form (calm_at a.calm node) = subst (λ (z : ℕ). IsForm z (calm_at a.calm node)) f (sound.means.forms node (λ (z : where_at a.calm node ≡ 0). where_some form level key some low deep (sym is ∙ z))) in
      let said = found (calm_at a.calm node) (agrees v w s t at e.0 e.1) shape in
      let child : first ≢ 0 = λ z. clash (goes_on first second key) on (ap (λ (x : ℕ). goes_on x second key) z ∙ none_ends second key) in
      let one : first_at a.calm node key ≡ first = (λ i. first_of (f i) (calm_at a.calm node) key (byte_at key (d i))) ∙ said.0 in
      let two : second_at a.calm node key ≡ second = (λ i. second_of (f i) (calm_at a.calm node) key (byte_at key (d i))) ∙ said.1 child in
      let link = sound.means.nodes.linked node key (here, (λ i. goes_on (one i) (two i) key) ∙ on) in
      let word : second ≡ where_of (tag_of first) (level_of first) key = eqb-true second (where_of (tag_of first) (level_of first) key) (goes_where first second key tag_some tag_low ∙ on) in
      let low_level : level_of first < 8 = omega arith in
      let below : depth second ≡ level_of first = ap depth word ∙ where_level (tag_of first) (level_of first) key low_level (omega arith) in
      inr (
        subst (λ (z : ℕ × ℕ). z.0 < z.1) (λ i. (d i, (ap depth two ∙ below) i)) link.1,
        ap (λ (z : ℕ). where_at a.calm (node_of z)) (sym one) ∙ (link.0 ∙ (two ∙ word)),
      ))
      (stays_or a w.seen node there)

-- the same of its child as its words tell it
module _ (a : Moment) (node form level key : ℕ) (some : 0 < form) (low : form < 9) (deep : level < 8) (sound : Sound IsTree a) (is : where_at a.calm node ≡ where_of form level key) where
  abbrev child_first : ℕ → ℕ
  child_first k = first_of form (calm_at a.calm node) k (byte_at k level)

  abbrev child_second : ℕ → ℕ
  child_second k = second_of form (calm_at a.calm node) k (byte_at k level)

  form_now : form_of (where_at a.calm node) ≡ form
  form_now = ap form_of is ∙ where_form form level key deep (omega arith)

  level_now : depth (where_at a.calm node) ≡ level
  level_now = ap depth is ∙ where_level form level key deep (omega arith)

  pub shape_there : IsForm form (calm_at a.calm node)
  shape_there = subst (λ (z : ℕ). IsForm z (calm_at a.calm node)) form_now (sound.means.forms node (λ (z : where_at a.calm node ≡ 0). where_some form level key some low deep (sym is ∙ z)))

  leads_by : goes_on (child_first key) (child_second key) key ≡ true → (level < level_of (child_first key)) × (where_at a.calm (node_of (child_first key)) ≡ where_of (tag_of (child_first key)) (level_of (child_first key)) key)
  leads_by on =
      let first : ℕ = child_first key in
      let second : ℕ = child_second key in
      let tags = goes_tags first second key on in
      let f = form_now in
      let d = level_now in
      let here : stands (where_at a.calm node) key ≡ true = ap (λ (z : ℕ). stands z key) is ∙ where_stands form level key some low deep in
      let one : first_at a.calm node key ≡ first = λ i. first_of (f i) (calm_at a.calm node) key (byte_at key (d i)) in
      let two : second_at a.calm node key ≡ second = λ i. second_of (f i) (calm_at a.calm node) key (byte_at key (d i)) in
      let link = sound.means.nodes.linked node key (here, (λ i. goes_on (one i) (two i) key) ∙ on) in
      let word : second ≡ where_of (tag_of first) (level_of first) key = eqb-true second (where_of (tag_of first) (level_of first) key) (goes_where first second key tags.0 tags.1 ∙ on) in
      let low_level : level_of first < 8 = omega arith in
      let below : depth second ≡ level_of first = ap depth word ∙ where_level (tag_of first) (level_of first) key low_level (let t = tags.1 in omega arith) in (
        subst (λ (z : ℕ × ℕ). z.0 < z.1) (λ i. (d i, (ap depth two ∙ below) i)) link.1,
        ap (λ (z : ℕ). where_at a.calm (node_of z)) (sym one) ∙ (link.0 ∙ (two ∙ word)),
      )

  pub led_next : (next : Next) → IsNext level child_first child_second key next → IsLedNext a key level next
  led_next (Here x) n = tt
  led_next (NextDown p) n = let l = leads_by n.0 in (
    subst (λ (z : ℕ). level < z) (sym n.3) l.0,
    subst (λ (z : ℕ × ℕ × ℕ). where_at a.calm z.0 ≡ where_of z.1 z.2 key) (λ i. (sym n.1 i, sym n.2 i, sym n.3 i)) l.1,
  )
  led_next (After last) n = tt

  -- what it tells of a key, or of the key that it was asked for
  pub led_from : (from : ℕ) (next : Next) → ((p : Place) → next ≡ NextDown p → from ≡ key) → IsNext level child_first child_second from next → IsLedNext a key level next
  led_from from (Here x) same n = tt
  led_from from (NextDown p) same n = led_next (NextDown p) (subst (λ (z : ℕ). IsNext level child_first child_second z (NextDown p)) (same p refl) n)
  led_from from (After last) same n = tt

-- a node's version was read
pub dated : (n form x : ℕ) (a : Moment) (u : View) (b : Moment) → 0 < form → form < 9 → HasForm n form u → Since a u.seen → Since u.seen b → x ≡ word_at u.seen.words n 0 → IsDated n x a b
dated n form x a u b some low at after before is = record {
  when = u.seen;
  after = after;
  before = before;
  some = subst (λ (z : ℕ). 0 < width z) (sym at.is) (width_some form some low);
  version_is = sym is;
}

pub dated_in : (n x : ℕ) (a b c d : Moment) → Since a b → IsDated n x b c → Since c d → IsDated n x a d
dated_in n x a b c d s t u = record { when = t.when; after = since_trans a b t.when s t.after; before = since_trans t.when c d t.before u; some = t.some; version_is = t.version_is }

pub sight_dated : (o : Option Sight) (a b c d : Moment) → Since a b → IfSome o (λ s. IsDated s.at.node s.version b c) → Since c d → IfSome o (λ s. IsDated s.at.node s.version a d)
sight_dated None a b c d s t u = tt
sight_dated (Some x) a b c d s t u = dated_in x.at.node x.version a b c d s t u

pub run_dated : (o : Option Run) (a b c d : Moment) → Since a b → IfSome o (λ r. IsDated r.at.node r.version b c) → Since c d → IfSome o (λ r. IsDated r.at.node r.version a d)
run_dated None a b c d s t u = tt
run_dated (Some x) a b c d s t u = dated_in x.at.node x.version a b c d s t u

-- it has another one later
pub dated_moved : (n x : ℕ) (a b c : Moment) → IsDated n x a b → Since b c → word_at c.words n 0 ≢ x → IsDisturbedIn a c
dated_moved n x a b c d s ne = record {
  begin = d.when;
  after = d.after;
  before = since_trans d.when b c d.before s;
  moved = record {
    node = n;
    some = d.some;
    moved = inr (λ (e : version_at c.words n ≡ version_at d.when.words n). ne (sym (version_word c.words n) ∙ (e ∙ (version_word d.when.words n ∙ d.version_is))));
  };
}

pub disturbed_in : (a b c d : Moment) → Since a b → IsDisturbedIn b c → Since c d → IsDisturbedIn a d
disturbed_in a b c d s t u = record {
  begin = t.begin;
  after = since_trans a b t.begin s t.after;
  before = since_trans t.begin c d t.before u;
  moved = disturbed_until t.begin c d t.moved t.before u;
}

-- A node is asked for a key: first its version is read, at u, then what its child tells, up to x, and then which keys it covers, up to w
module _ (at : Place) (key version : ℕ) (v u x w : View) (place : IsPlace at v) (looks : Looks IsTree v u) (has : HasForm at.node at.form u) (is : version ≡ word_at u.seen.words at.node 0) (since : Since u.seen x.seen) (last : Since x.seen w.seen) where
  asked : (o : Option Sight) → ((a : Moment) → Sound IsTree a → Since a u.seen → where_at a.calm at.node ≡ where_of at.form at.level key → IsDisturbed a w.seen ⊎ IsShown a key at.level o w) → IsAsked key at o v w
  asked o tells = record { begin = u.seen; after = looks.since; before = since_trans u.seen x.seen w.seen since last; sound = looks.sound; tells = tells }

  -- it covers another key
  pub asked_other : (found : ℕ) → Steady at.node at.form 1 found x w → found ≢ where_of at.form at.level key → IsAsked key at None v w
  asked_other found steady ne = asked None (λ a sound from covers. inl (other_word a at.node at.form at.level key place.some place.form place.level sound covers x w found (since_trans a u.seen x.seen from since) last (place_since at v x (since_trans v.seen u.seen x.seen looks.since since) place).at steady ne))

  -- it is locked
  pub asked_odd : version % 2 ≡ 1 → IsAsked key at None v w
  asked_odd odd = asked None (λ a sound from covers. inl (was_odd a at.node at.form at.level key place.some place.form place.level sound covers u.seen w.seen from (since_trans u.seen x.seen w.seen since last) (ap (λ (z : ℕ). z % 2) (sym is) ∙ odd)))

  -- it tells something of the keys beside that from which on it does
  pub asked_told : (from : ℕ) (next : Next) → ((p : Place) → next ≡ NextDown p → from ≡ key) → Shows at from next u x → IsAsked key at (Some record { at = at; version = version; next = next }) v w
  asked_told from next down shows = asked (Some record { at = at; version = version; next = next }) (λ a sound before covers.
      let is_there = there a at.node at.form at.level key place.some place.form place.level sound covers in
      ⊎_elim (λ (d : IsDisturbed a x.seen). inl (disturbed_until a x.seen w.seen d (since_trans a u.seen x.seen before since) last))
      (λ (e : (word_at a.words at.node 0 % 2 ≡ 0) × (word_at x.seen.words at.node 0 ≡ word_at a.words at.node 0)). inr (
        dated at.node at.form version a u w.seen place.some place.form has before (since_trans u.seen x.seen w.seen since last) is,
        led_from a at.node at.form at.level key place.some place.form place.level sound covers from next down
            (shows _ (agrees a at.node at.form at.level key place.some place.form place.level sound covers u x before since has e.0 e.1) (shape_there a at.node at.form at.level key place.some place.form place.level sound covers)),
      ))
      (stays_or a x.seen at.node is_there))

abbrev root : Place
root = record { node = 16; form = 4; level = 0 }

-- an attempt goes on from where a look led
led_way : (a : Moment) (key d : ℕ) (at : Place) (look : Look) → d ≤ at.level → at.level < 8 → IsLed a key at look → IsWay a key d look
led_way a key d at (Answer x) l m e = omega arith
led_way a key d at (Down p) l m e = (let z : at.level < p.level = e.0 in omega arith, e.1)
led_way a key d at Again l m e = absurd e

-- it doesn't go past eight nodes
way_ends : (a : Moment) (key d : ℕ) (look : Look) (v : View) → 9 ≤ d → IsLook key look v → IsWay a key d look → ⊥
way_ends a key d (Answer x) v most is way = let l : d < 9 = way in omega arith
way_ends a key d (Down p) v most is way = let l : d < p.level = way.0 in let m : p.level < 8 = is.level in omega arith
way_ends a key d Again v most is way = way

-- An attempt for a key, from the root on
pub followed_first : (key : ℕ) (look : Look) (v w : View) → key < 2 ^ 64 → IsSeen key root look v w → IsFollowed key 0 look v w
followed_first key look v w small s = record {
  begin = s.begin;
  after = s.after;
  before = s.before;
  sound = s.sound;
  way = ⊎_elim (λ (d : IsDisturbed s.begin w.seen). inl d) (λ e. inr (led_way s.begin key 0 root look (omega arith) (omega arith) e)) (s.tells s.begin s.sound (since_refl s.begin) (s.sound.means.top ∙ root_covers key small));
}

pub followed_next : (key d : ℕ) (p : Place) (look : Look) (v u w : View) → p.level < 8 → IsFollowed key d (Down p) v u → IsSeen key p look u w → IsFollowed key (d + 1) look v w
followed_next key d p look v u w low t s = let on = since_trans u.seen s.begin w.seen s.after s.before in record {
  begin = t.begin;
  after = t.after;
  before = since_trans t.begin u.seen w.seen t.before on;
  sound = t.sound;
  way = ⊎_elim (λ (x : IsDisturbed t.begin u.seen). inl (disturbed_until t.begin u.seen w.seen x t.before on))
      (λ (e : IsWay t.begin key d (Down p)). ⊎_elim (λ (x : IsDisturbed t.begin w.seen). inl x)
      (λ led. inr (led_way t.begin key (d + 1) p look (let l : d < p.level = e.0 in omega arith) low led))
      (s.tells t.begin t.sound (since_trans t.begin u.seen s.begin t.before s.after) e.1))
      t.way;
}

-- it comes to nothing
pub followed_again : (key d : ℕ) (v w : View) → IsFollowed key d Again v w → IsDisturbedFrom v w
followed_again key d v w t = record { begin = t.begin; after = t.after; before = t.before; moved = ⊎_elim (λ (x : IsDisturbed t.begin w.seen). x) (λ e. absurd e) t.way }

-- it goes on and on
pub followed_ends : (key d : ℕ) (look : Look) (v w : View) → 9 ≤ d → IsLook key look w → IsFollowed key d look v w → IsDisturbedFrom v w
followed_ends key d look v w most is t = record {
  begin = t.begin;
  after = t.after;
  before = t.before;
  moved = ⊎_elim (λ (x : IsDisturbed t.begin w.seen). x) (λ way. absurd (way_ends t.begin key d look w most is way)) t.way;
}

-- the same of a way to what a node tells
led_next_way : (a : Moment) (key d level : ℕ) (next : Next) → d ≤ level → level < 8 → IsLedNext a key level next → IsNextWay a key d next
led_next_way a key d level (Here x) l m e = omega arith
led_next_way a key d level (NextDown p) l m e = (let z : level < p.level = e.0 in omega arith, e.1)
led_next_way a key d level (After last) l m e = omega arith

shown_way : (a : Moment) (key d level : ℕ) (o : Option Sight) (w : View) → d ≤ level → level < 8 → IsShown a key level o w → IsOnWay a key d o w
shown_way a key d level None w l m e = absurd e
shown_way a key d level (Some s) w l m e = (e.0, led_next_way a key d level s.next l m e.1)

next_way_ends : (a : Moment) (key from d : ℕ) (next : Next) (v : View) → 9 ≤ d → Knows from next v → IsNextWay a key d next → ⊥
next_way_ends a key from d (Here x) v most k t = let l : d < 9 = t in omega arith
next_way_ends a key from d (NextDown p) v most k t = let l : d < p.level = t.0 in let m : p.level < 8 = k.level in omega arith
next_way_ends a key from d (After last) v most k t = let l : d < 9 = t in omega arith

pub traced_first : (key : ℕ) (o : Option Sight) (v w : View) → key < 2 ^ 64 → IsAsked key root o v w → IsTraced key 0 o v w
traced_first key o v w small s = record {
  begin = s.begin;
  after = s.after;
  before = s.before;
  sound = s.sound;
  way = ⊎_elim (λ (d : IsDisturbed s.begin w.seen). inl d) (λ e. inr (shown_way s.begin key 0 0 o w (omega arith) (omega arith) e)) (s.tells s.begin s.sound (since_refl s.begin) (s.sound.means.top ∙ root_covers key small));
}

pub traced_next : (key d : ℕ) (s : Sight) (p : Place) (o : Option Sight) (v u w : View) → s.next ≡ NextDown p → p.level < 8 → IsTraced key d (Some s) v u → IsAsked key p o u w → IsTraced key (d + 1) o v w
traced_next key d s p o v u w is low t a = let on = since_trans u.seen a.begin w.seen a.after a.before in record {
  begin = t.begin;
  after = t.after;
  before = since_trans t.begin u.seen w.seen t.before on;
  sound = t.sound;
  way = ⊎_elim (λ (x : IsDisturbed t.begin u.seen). inl (disturbed_until t.begin u.seen w.seen x t.before on))
      (λ (way : IsOnWay t.begin key d (Some s) u).
      let e = subst (λ (n : Next). IsNextWay t.begin key d n) is way.1 in
      ⊎_elim (λ (x : IsDisturbed t.begin w.seen). inl x)
      (λ led. inr (shown_way t.begin key (d + 1) p.level o w (let l : d < p.level = e.0 in omega arith) low led))
      (a.tells t.begin t.sound (since_trans t.begin u.seen a.begin t.before a.after) e.1))
      t.way;
}

-- it comes to nothing
no_way : (a : Moment) (key d : ℕ) (o : Option Sight) (w : View) → ((s : Sight) → o ≡ Some s → ⊥) → IsOnWay a key d o w → ⊥
no_way a key d None w none way = way
no_way a key d (Some s) w none way = none s refl

pub traced_none : (key d : ℕ) (o : Option Sight) (v w : View) → ((s : Sight) → o ≡ Some s → ⊥) → IsTraced key d o v w → IsDisturbedFrom v w
traced_none key d o v w none t = record { begin = t.begin; after = t.after; before = t.before; moved = ⊎_elim (λ (x : IsDisturbed t.begin w.seen). x) (λ way. absurd (no_way t.begin key d o w none way)) t.way }

-- it goes on and on
on_way_ends : (a : Moment) (key d : ℕ) (o : Option Sight) (w : View) → 9 ≤ d → IfSome o (λ s. (from : ℕ) × Knows from s.next w) → IsOnWay a key d o w → ⊥
on_way_ends a key d None w most knows way = way
on_way_ends a key d (Some s) w most knows way = next_way_ends a key knows.0 d s.next w most knows.1 way.1

pub traced_ends : (key d : ℕ) (o : Option Sight) (v w : View) → 9 ≤ d → IfSome o (λ s. (from : ℕ) × Knows from s.next w) → IsTraced key d o v w → IsDisturbedFrom v w
traced_ends key d o v w most knows t = record {
  begin = t.begin;
  after = t.after;
  before = t.before;
  moved = ⊎_elim (λ (x : IsDisturbed t.begin w.seen). x) (λ way. absurd (on_way_ends t.begin key d o w most knows way)) t.way;
}

pub sight_knows : (from : ℕ) (o : Option Sight) (w : View) → IfSome o (λ s. IsSight s from w) → IfSome o (λ s. (k : ℕ) × Knows k s.next w)
sight_knows from None w is = tt
sight_knows from (Some s) w is = (from, is.below)

pub back_none : (o : Option BackSight) → ((b : BackSight) → o ≡ Some b → ⊥) → (s : Sight) → sight_in o ≡ Some s → ⊥
back_none None none s e = absurd cc
back_none (Some b) none s e = none b refl

pub back_knows : (to : ℕ) (o : Option BackSight) (w : View) → IfSome o (λ b. IsBackSight to b w) → IfSome (sight_in o) (λ s. (k : ℕ) × Knows k s.next w)
back_knows to None w is = tt
back_knows to (Some b) w is = (b.from, is.1.below)

ended : (next : Next) → ((p : Place) → next ≡ NextDown p → ⊥) → IsEnd next
ended (Here x) other = tt
ended (NextDown p) other = absurd (other p refl)
ended (After last) other = tt

-- its end
pub traced_told : (key d : ℕ) (s : Sight) (v w : View) → ((p : Place) → s.next ≡ NextDown p → ⊥) → IsTraced key d (Some s) v w → IsSought (Some s) v w
traced_told key d s v w other t = ⊎_elim (λ (x : IsDisturbed t.begin w.seen). inl record { begin = t.begin; after = t.after; before = t.before; moved = x })
    (λ (way : IsOnWay t.begin key d (Some s) w). inr (dated_in s.at.node s.version v.seen t.begin w.seen w.seen t.after way.0 (since_refl w.seen), ended s.next other))
    t.way

-- a way that told nothing, or sends to another node
pub sought_none : (v u : View) → IsSought None v u → IsDisturbedFrom v u
sought_none v u s = ⊎_elim (λ (d : IsDisturbedFrom v u). d) (λ e. absurd e) s

pub sought_down : (s : Sight) (p : Place) (v u : View) → s.next ≡ NextDown p → IsSought (Some s) v u → IsDisturbedFrom v u
sought_down s p v u is t = ⊎_elim (λ (d : IsDisturbedFrom v u). d) (λ e. absurd (subst IsEnd is e.1)) t

-- one that told something at a node that has another version now
pub sought_moved : (s : Sight) (v u w : View) → IsSought (Some s) v u → Since u.seen w.seen → word_at w.seen.words s.at.node 0 ≢ s.version → IsDisturbedFrom v w
sought_moved s v u w t since ne = ⊎_elim (λ (d : IsDisturbedFrom v u). disturbed_in v.seen v.seen u.seen w.seen (since_refl v.seen) d since)
    (λ e. dated_moved s.at.node s.version v.seen u.seen w.seen e.0 since ne) t

pub none_map : {A : Type 0} → (o : Option A) (P Q : Type 0) → (P → Q) → IfNone o P → IfNone o Q
none_map None P Q f p = f p
none_map (Some x) P Q f p = p

pub not_some : {A : Type 0} → (o : Option A) (P : Type 0) → ((x : A) → o ≡ Some x → ⊥) → IfNone o P → P
not_some None P other p = p
not_some (Some x) P other p = absurd (other x refl)

-- where nobody steps, nothing is disturbed: an attempt that comes to nothing when it is disturbed alone comes to something then
pub alone : (a b : Moment) → IsQuiet a b → IsDisturbedIn a b → ⊥
alone a b quiet d =
    let m = d.moved in
    let e : form_at b.plots m.node ≡ form_at d.begin.plots m.node = d.before.plots m.node m.some in
    let q = quiet m.node (subst (λ (z : ℕ). 0 < width z) (sym e) m.some) in
    let same = sandwich (version_at a.words m.node) (version_at d.begin.words m.node) (version_at b.words m.node) (d.after.grows m.node q.0) (d.before.grows m.node m.some) (sym q.2) in
    ⊎_elim (λ (odd : version_at d.begin.words m.node % 2 ≡ 1). let z : version_at d.begin.words m.node % 2 ≡ 0 = ap (λ (x : ℕ). x % 2) (sym same.0) ∙ q.1 in omega arith)
    (λ (ne : version_at b.words m.node ≢ version_at d.begin.words m.node). ne (sym same.1)) m.moved

pub quiet_some : {A : Type 0} → (a b : Moment) (o : Option A) → IfNone o (IsDisturbedIn a b) → IsQuiet a b → IsSome o
quiet_some a b None d quiet = absurd (alone a b quiet d)
quiet_some a b (Some x) d quiet = refl

pub quiet_answers : {A : Type 0} → (a b : Moment) (o : Result A Unscanned) → IfAgain o (IsDisturbedIn a b) → IsQuiet a b → o ≢ Err Unready
quiet_answers a b (Ok x) d quiet = λ e. absurd cc
quiet_answers a b (Err Unready) d quiet = absurd (alone a b quiet d)
quiet_answers a b (Err Memory) d quiet = λ e. absurd cc
