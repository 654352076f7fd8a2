-- What a node tells of the next pair from a key on, as it was read word by word, and what its version tells of that later.
use Rattle.std.proofs.Common.{◌≡◌, ◌≢◌, ◌⊎◌, ℕ, ◌+◌, ◌-◌, ◌*◌, ◌%◌, ◌^◌, ◌<◌, ◌≤◌, true, false, List, Option, None, Some, arith, ap, sym, ◌∙◌, refl, subst, inl, inr, le_refl, if◌then◌else◌, Bool, ◌/◌, IfSome}
use Rattle.std.proofs.lemmas.Bool.{cases_lt, cases_eq}
use Rattle.optimistic.specs.Layout.{width, prefix_of, tag_of, level_of, node_of, leaf_of, byte_at, where_of}
use Rattle.optimistic.specs.declared.drain.nexts.Next.{Next}
use Rattle.optimistic.specs.declared.drain.nexts.Next.TheVariants.{Here, Down, After}
use Rattle.optimistic.specs.declared.drain.nexts.Pair.{Pair}
use Rattle.optimistic.specs.declared.moves.Item.{Item}
use Rattle.optimistic.specs.declared.tree.next.Sight.{Sight}
use Rattle.optimistic.specs.declared.tree.place.Place.{Place}
use Rattle.optimistic.specs.declared.words.rule.Entry.{Entry}
use Rattle.optimistic.specs.declared.words.rule.Moment.{Moment}
use Rattle.optimistic.specs.declared.words.rule.View.{View}
use Rattle.optimistic.specs.forms.Children.{is_inner, first_of, second_of, put_first, IsForm}
use Rattle.optimistic.specs.words.Kept.{word_at, size, calm_at, value_of, Since, Sound}
use Rattle.optimistic.specs.words.Told.{HasForm, Tells, Looks}
use Rattle.optimistic.specs.tree.Drained.{pair_of}
use Rattle.optimistic.specs.tree.Levels.{form_of, depth, stands, goes_on, pair_value}
use Rattle.optimistic.specs.tree.Nexts.{IsNear, IsNext, UpTo, IsFirst}
use Rattle.optimistic.specs.tree.Reads.{IsPlace, Agrees, Steady, Still, Found}
use Rattle.optimistic.specs.tree.Sights.{Lacks, Shows, Knows, Holds, IsSight, Stood}
use Rattle.optimistic.specs.tree.Trees.{IsTree, where_at, first_at, second_at}
use Rattle.optimistic.proofs.lemmas.drain.Ends.{goes_tags, gap_next, child_next}
use Rattle.optimistic.proofs.lemmas.drain.Keys.{reaches}
use Rattle.optimistic.proofs.lemmas.forms.ChildLemmas.{either}
use Rattle.optimistic.proofs.lemmas.forms.Gaps.{first_none_each, first_each, second_each}
use Rattle.optimistic.proofs.lemmas.forms.Levels.{where_form, where_level}
use Rattle.optimistic.proofs.lemmas.tree.Reading.{looks_trans, agrees_from, agrees_to, still_agrees, where_stands, where_some, steady_since, steady_until}
use Rattle.optimistic.proofs.lemmas.tree.Setting.{place_since}
use Rattle.optimistic.proofs.lemmas.words.Moments.{since_refl, since_trans, width_some, version_word}

-- A node that covers a key, as it was settled at a moment
module _ (m : Moment) (sound : Sound IsTree m) (node form level from : ℕ) (some : 0 < form) (low : form < 9) (deep : level < 8) (is : calm_at m.calm node 1 ≡ where_of form level from) where
  form_is : form_of (where_at m.calm node) ≡ form
  form_is = ap form_of is ∙ where_form form level from deep (omega arith)

  depth_is : depth (where_at m.calm node) ≡ level
  depth_is = ap depth is ∙ where_level form level from deep (omega arith)

  pub shape_then : IsForm form (calm_at m.calm node)
  shape_then = subst (λ (z : ℕ). IsForm z (calm_at m.calm node)) form_is (sound.means.forms node (λ (z : where_at m.calm node ≡ 0). where_some form level from some low deep (sym is ∙ z)))

  abbrev First : ℕ → ℕ
  First k = first_of form (calm_at m.calm node) k (byte_at k level)

  abbrev Second : ℕ → ℕ
  Second k = second_of form (calm_at m.calm node) k (byte_at k level)

  covers : (k : ℕ) → IsNear level from k → stands (where_at m.calm node) k ≡ true
  covers k near = ap (λ (z : ℕ). stands z k) (is ∙ ap (λ (z : ℕ). z * 2 ^ (64 - 8 * level) + 8 * form + level) (sym near)) ∙ where_stands form level k some low deep

  -- a key's last node
  pub value_then : (k : ℕ) → IsNear level from k → goes_on (First k) (Second k) k ≡ false → pair_value (First k) (Second k) k ≡ value_of k m.log
  value_then k near off =
      let f : first_at m.calm node k ≡ First k = (λ i. first_of (form_is i) (calm_at m.calm node) k (byte_at k (depth_is i))) in
      let s : second_at m.calm node k ≡ Second k = (λ i. second_of (form_is i) (calm_at m.calm node) k (byte_at k (depth_is i))) in
      (λ i. pair_value (sym f i) (sym s i) k) ∙ sound.means.nodes.means node k (covers k near, (λ i. goes_on (f i) (s i) k) ∙ off)

  pub holds_then : (next : Next) → IsNext level First Second from next → Holds m.log from next
  holds_then (Here x) n = sym (value_then from refl n.0) ∙ n.1
  holds_then (Down p) n = tt
  holds_then (After last) n = (n.0, λ k above below. let t = n.1 k above below in sym (value_then k t.0 t.1.0) ∙ t.1.1)

-- where the way goes on
pub down_place : (form first last from : ℕ) (p : Place) (w : View) → Tells first w → goes_on (put_first form first from) last from ≡ true
    → p.node ≡ node_of (put_first form first from) → p.form ≡ tag_of (put_first form first from) → p.level ≡ level_of (put_first form first from) → IsPlace p w
down_place form first last from p w tells on node tag level =
    let t = goes_tags (put_first form first from) last from on in
    elim (either (is_inner form)) [
      | inl b ↦
          let same : put_first form first from ≡ first = ap (λ (c : Bool). if c then first else leaf_of from) b in
          let n : p.node ≡ first / 256 = node ∙ ap node_of same in
          let f : p.form ≡ first % 16 = tag ∙ ap tag_of same in
          let has : HasForm (first / 256) (first % 16) w = tells (subst (λ (z : ℕ). 0 < tag_of z) same t.0) (subst (λ (z : ℕ). tag_of z < 9) same t.1) in
          record {
            at = subst (λ (z : ℕ × ℕ). HasForm z.0 z.1 w) (λ i. (sym n i, sym f i)) has;
            some = subst (λ (z : ℕ). 0 < z) (sym tag) t.0;
            form = subst (λ (z : ℕ). z < 9) (sym tag) t.1;
            level = omega (arith, level);
          }
      | inr b ↦
          let leaf : put_first form first from ≡ leaf_of from = ap (λ (c : Bool). if c then first else leaf_of from) b in
          let low : tag_of (leaf_of from) < 9 = subst (λ (z : ℕ). tag_of z < 9) leaf t.1 in
          absurd (omega (arith, low))
    ]

pub knows_since : (from : ℕ) (next : Next) (v w : View) → Knows from next v → Since v.seen w.seen → Knows from next w
knows_since from (Here x) v w k s = tt
knows_since from (Down p) v w k s = place_since p v w s k
knows_since from (After last) v w k s = k

-- a version that a node had no later than u, and has at b, it has in between
module _ (n form x : ℕ) (u : View) (m b : Moment) (at : HasForm n form u) (wide : 0 < width form) where
  some_word : 0 < size u.seen.plots n
  some_word = subst (λ (z : ℕ). 0 < width z) (sym at.is) wide

  pub version_between : x ≤ word_at u.seen.words n 0 → Since u.seen m → Since m b → word_at b.words n 0 ≡ x → word_at m.words n 0 ≡ x
  version_between least after until same =
      let first = after.grows n some_word in
      let last = until.grows n (subst (λ (z : ℕ). 0 < width z) (sym (after.plots n some_word)) some_word) in
      let a = version_word u.seen.words n in
      let c = version_word m.words n in
      let d = version_word b.words n in
      omega (arith, least, first, last, a, c, d, same)

-- What was read of a node under one version
module _ (at : Place) (version from : ℕ) (next : Next) (a u : View) (place : IsPlace at a) (is : version ≡ word_at a.seen.words at.node 0) (looks : Looks IsTree a u) (knows : Knows from next u) where
  some_there : 0 < size a.seen.plots at.node
  some_there = subst (λ (z : ℕ). 0 < width z) (sym place.at.is) (width_some at.form place.some place.form)

  least : (w : View) → Since a.seen w.seen → version ≤ word_at w.seen.words at.node 0
  least w s =
      let g = s.grows at.node some_there in
      let p = version_word a.seen.words at.node in
      let q = version_word w.seen.words at.node in
      omega (arith, is, g, p, q)

  -- the way goes on
  pub sight_down : (p : Place) → next ≡ Down p → IsSight record { at = at; version = version; next = next } from u
  sight_down p e = record {
    place = place_since at a u looks.since place;
    below = knows;
    least = least u looks.since;
    holds = λ m since sound same. subst (Holds m.log from) (sym e) tt;
  }

  -- the node covers the key
  pub sight_there : (w : View) → version % 2 ≡ 0 → Looks IsTree u w → Shows at from next a u → Steady at.node at.form 1 (where_of at.form at.level from) u w → IsSight record { at = at; version = version; next = next } from w
  sight_there w even later shows covering = record {
    place = place_since at a w (since_trans a.seen u.seen w.seen looks.since later.since) place;
    below = knows_since from next u w knows later.since;
    least = least w (since_trans a.seen u.seen w.seen looks.since later.since);
    holds = λ m since sound same.
        let even' : word_at a.seen.words at.node 0 % 2 ≡ 0 = ap (λ (z : ℕ). z % 2) (sym is) ∙ even in
        let same' : word_at m.words at.node 0 ≡ word_at a.seen.words at.node 0 = same ∙ is in
        let over : Still at.node at.form a u a.seen m = record { before = since_refl a.seen; after = since_trans u.seen w.seen m later.since since; is = place.at.is; even = even'; same = same' } in
        let meanwhile : Still at.node at.form u w a.seen m = record { before = looks.since; after = since; is = place.at.is; even = even'; same = same' } in
        let there : calm_at m.calm at.node 1 ≡ where_of at.form at.level from = covering (calm_at m.calm at.node) (still_agrees at.node at.form u w a.seen m meanwhile) in
        let shape = shape_then m sound at.node at.form at.level from place.some place.form place.level there in
        holds_then m sound at.node at.form at.level from place.some place.form place.level there next (shows (calm_at m.calm at.node) (still_agrees at.node at.form a u a.seen m over) shape);
  }

-- the first pair from a key on
pub first_here : (from x : ℕ) (log : List Entry) → value_of from log ≡ Some x → IsFirst log from (Some (pair_of from x))
first_here from x log is = (le_refl from, is, λ k above below. absurd (omega arith))

pub first_none : (from last : ℕ) (log : List Entry) → last + 1 ≡ 2 ^ 64 → UpTo from last (λ k. value_of k log ≡ None) → IsFirst log from None
first_none from last log end up = λ k above below. up.1 k above (omega (arith, end))

pub first_after : (from last : ℕ) (log : List Entry) (r : Option Pair) → UpTo from last (λ k. value_of k log ≡ None) → IsFirst log (last + 1) r → IsFirst log from r
first_after from last log None up f = λ k above below. elim (cases_lt k (last + 1)) [
  | inl l ↦ up.1 k above (omega arith)
  | inr g ↦ f k g below
]
first_after from last log (Some p) up f = (
  (let a = up.0 in let b = f.0 in omega arith),
  f.1,
  λ k above below. elim (cases_lt k (last + 1)) [
    | inl l ↦ up.1 k above (omega arith)
    | inr g ↦ f.2 k g below
  ],
)

-- moments
pub stood_from : (P : List Entry → Type 0) (v u w : View) → Since v.seen u.seen → Stood P u w → Stood P v w
stood_from P v u w s t = record { moment = t.moment; after = since_trans v.seen u.seen t.moment s t.after; before = t.before; sound = t.sound; holds = t.holds }

pub stood_to : (P : List Entry → Type 0) (v u w : View) → Stood P v u → Since u.seen w.seen → Stood P v w
stood_to P v u w t s = record { moment = t.moment; after = t.after; before = since_trans t.moment u.seen w.seen t.before s; sound = t.sound; holds = t.holds }

-- what a node told, and what came of that
module _ (s : Sight) (from : ℕ) (u w : View) (sight : IsSight s from u) (same : word_at w.seen.words s.at.node 0 ≡ s.version) where
  pub stood_now : (Q : List Entry → Type 0) → Looks IsTree u w → ((log : List Entry) → Holds log from s.next → Q log) → Stood Q u w
  stood_now Q looks so = record { moment = w.seen; after = looks.since; before = since_refl w.seen; sound = looks.sound; holds = so w.seen.log (sight.holds w.seen looks.since looks.sound same) }

  pub stood_after : (P Q : List Entry → Type 0) (x : View) → Stood P u x → Since x.seen w.seen → ((log : List Entry) → Holds log from s.next → P log → Q log) → Stood Q u w
  stood_after P Q x t since so =
      let until = since_trans t.moment x.seen w.seen t.before since in
      let stays = version_between s.at.node s.at.form s.version u t.moment w.seen sight.place.at (width_some s.at.form sight.place.some sight.place.form) sight.least t.after until same in
      record { moment = t.moment; after = t.after; before = until; sound = t.sound; holds = so t.moment.log (sight.holds t.moment t.after t.sound stays) t.holds }

-- words that were read one after the other: the first of them was looked at in a later view, and the last until an earlier one
pub steady_in : (node form j x : ℕ) (v a b w : View) → Looks IsTree v a → Steady node form j x a b → Since b.seen w.seen → Steady node form j x v w
steady_in node form j x v a b w first s last = steady_until node form j x v b w (steady_since node form j x v a b s first) last

-- A loop that has looked at node's words from one on
module _ (from i node form : ℕ) (v u w : View) (order : from ≤ i) (first : i ≡ from → u ≡ v) (later : from < i → Looks IsTree v u) (next : Looks IsTree u w) where
  pub from_looks : Looks IsTree v w
  from_looks = elim (cases_lt from i) [
    | inl l ↦ looks_trans v u w (later l) next
    | inr g ↦ subst (λ (q : View). Looks IsTree q w) (first (omega (arith, g, order))) next
  ]

  -- of the words that were read before, and of this one
  pub from_words : (f : ℕ → ℕ) → Agrees node form v w f → Agrees node form v u f × Agrees node form u w f
  from_words f ag = (
    agrees_to node form v u w f ag next.since,
    elim (cases_lt from i) [
      | inl l ↦ agrees_from node form v u w f ag (later l)
      | inr g ↦ subst (λ (q : View). Agrees node form q w f) (sym (first (omega (arith, g, order)))) ag
    ],
  )

  -- the words that are 0, with one more
  pub from_zeros : (at : ℕ → ℕ) → (0 < at i) → (at i < width form) → ((f : ℕ → ℕ) → Agrees node form v u f → (b : ℕ) → from ≤ b → b < i → f (at b) ≡ 0) → Steady node form (at i) 0 u w
      → (f : ℕ → ℕ) → Agrees node form v w f → (b : ℕ) → from ≤ b → b < i + 1 → f (at b) ≡ 0
  from_zeros at some low old zero f ag b above below =
      let both = from_words f ag in
      elim (cases_lt b i) [
        | inl l ↦ old f both.0 b above l
        | inr g ↦ let e : i ≡ b = omega arith in subst (λ (z : ℕ). f (at z) ≡ 0) e (zero f both.1)
      ]

-- what a child that is there tells, and what it tells that there is none, of a node that was read
module _ (at : Place) (from first second : ℕ) (v w : View) (deep : at.level < 8) (found : Found at.node at.form first second from (byte_at from at.level) v w) where
  pub shows_child : (e : Item) (next : Next) (x : View) → e.first ≡ first → e.last ≡ second → first ≢ 0 → Since w.seen x.seen → IsNext (at.level + 1) (λ k. put_first at.form e.first k) (λ k. e.last) from next → Shows at from next v x
  shows_child e next x one two some since n f ag is =
      let said = found f (agrees_to at.node at.form v w x f ag since) is in
      let there : (k : ℕ) → first_of at.form f k (byte_at from at.level) ≡ put_first at.form e.first k = λ k. first_each at.form f from (byte_at from at.level) e.first (said.0 ∙ sym one) (λ z. some (sym one ∙ z)) k in
      let last : (k : ℕ) → second_of at.form f k (byte_at from at.level) ≡ e.last = λ k. second_each at.form f from (byte_at from at.level) e.last (said.1 some ∙ sym two) k in
      child_next at.form at.level from f deep is e
      (λ k b. ap (λ (z : ℕ). first_of at.form f k z) b ∙ there k)
      (λ k b. ap (λ (z : ℕ). second_of at.form f k z) b ∙ last k)
      next n

  pub shows_gap : (to last byte : ℕ) (x : View) → first ≡ 0 → Looks IsTree v w → Since w.seen x.seen → Lacks at.node at.form (byte_at from at.level) to w x → byte_at from at.level ≤ byte → byte < 256 → (byte ≡ byte_at from at.level) ⊎ (byte < to)
      → last + 1 ≡ (prefix_of from at.level * 256 + byte + 1) * 2 ^ (56 - 8 * at.level) → Shows at from (After last) v x
  shows_gap to last byte x none looks since lacks reach small before end f ag is =
      let said = found f (agrees_to at.node at.form v w x f ag since) is in
      let here : (k : ℕ) → first_of at.form f k (byte_at from at.level) ≡ 0 = first_none_each at.form f from (byte_at from at.level) (said.0 ∙ none) in
      let gap = lacks f (agrees_from at.node at.form v w x f ag looks) is in
      gap_next at.form at.level from f deep is last byte end reach small
      (λ k b above below. elim (cases_eq b (byte_at from at.level)) [
        | inl e ↦ ap (λ (z : ℕ). first_of at.form f k z) e ∙ here k
        | inr d ↦ gap k b above (elim before [
          | inl same ↦ absurd (omega (arith, same, d, above, below))
          | inr low ↦ omega (arith, low, below)
        ])
      ])
      (reaches from at.level byte last deep end reach)

pub knows_item : (form first last from level : ℕ) (next : Next) (w : View) → Tells first w → IsNext level (λ k. put_first form first k) (λ k. last) from next → Knows from next w
knows_item form first last from level (Here x) w tells n = tt
knows_item form first last from level (Down p) w tells n = down_place form first last from p w tells n.0 n.1 n.2 n.3
knows_item form first last from level (After l) w tells n = n.0

-- a pair that is told only if a node still has its version
pub confirmed : (Q : Option Pair → List Entry → Type 0) (told : Option (Option Pair)) (first : Option Pair) (Same : Type 0) (v w : View) → IfSome told (λ r. (r ≡ first) × Same) → (Same → Stood (Q first) v w)
    → IfSome told (λ r. Stood (Q r) v w)
confirmed Q None first Same v w still so = tt
confirmed Q (Some r) first Same v w still so = subst (λ (o : Option Pair). Stood (Q o) v w) (sym still.0) (so still.1)
