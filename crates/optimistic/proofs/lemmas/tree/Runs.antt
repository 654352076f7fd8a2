-- What a node tells of the keys from one on, as many as it has, and what its version tells of that later.
use Rattle.std.proofs.Common.{◌≡◌, ◌≢◌, ◌⊎◌, ℕ, ◌+◌, ◌-◌, ◌*◌, ◌/◌, ◌%◌, ◌^◌, ◌<◌, ◌≤◌, leb, true, false, Bool, List, [], ◌∷◌, ◌++◌, Option, None, Some, IfSome, arith, ap, sym, ◌∙◌, refl, subst, inl, inr, le_refl, if◌then◌else◌}
use mathlib.Core.List.{append-nil}
use Rattle.std.proofs.lemmas.Bool.{cases_lt}
use Rattle.optimistic.specs.Layout.{width, prefix_of, leaf_of, byte_at, where_of}
use Rattle.optimistic.specs.declared.drain.nexts.Next.TheVariants as next
use Rattle.optimistic.specs.declared.drain.nexts.Pair.{Pair}
use Rattle.optimistic.specs.declared.tree.place.Place.{Place}
use Rattle.optimistic.specs.declared.tree.run.Bit.{Bit}
use Rattle.optimistic.specs.declared.tree.run.Bit.TheVariants.{Told}
use Rattle.optimistic.specs.declared.tree.run.Run.{Run}
use Rattle.optimistic.specs.declared.words.rule.Entry.{Entry}
use Rattle.optimistic.specs.declared.words.rule.View.{View}
use Rattle.optimistic.specs.forms.Children.{is_inner, first_of, second_of, put_first, IsForm}
use Rattle.optimistic.specs.words.Kept.{word_at, size, calm_at, value_of, Since}
use Rattle.optimistic.specs.words.Told.{Looks}
use Rattle.optimistic.specs.tree.Drained.{IsDrained, pair_of}
use Rattle.optimistic.specs.tree.Levels.{goes_on, pair_value}
use Rattle.optimistic.specs.tree.Nexts.{IsNear, IsNext}
use Rattle.optimistic.specs.tree.Reads.{Agrees, IsPlace, Steady, Still, Found}
use Rattle.optimistic.specs.tree.Runs.{behind, within, Gives, BitHolds, Makes, ChildMakes, HasBytes, ShowsBit, ShowsRun, IsRun, WasTold}
use Rattle.optimistic.specs.tree.Sights.{Lacks}
use Rattle.optimistic.specs.tree.Trails.{IsTurn}
use Rattle.optimistic.specs.tree.Trees.{IsTree}
use Rattle.optimistic.proofs.lemmas.drain.Ends.{gap_next}
use Rattle.optimistic.proofs.lemmas.drain.Keys.{reaches, near_to, near_first, near_less, pair_there, pair_none}
use Rattle.optimistic.proofs.lemmas.drain.Lists.{drained_none, drained_more, drained_pass}
use Rattle.optimistic.proofs.lemmas.forms.Gaps.{first_none_each, first_each, second_each}
use Rattle.optimistic.proofs.lemmas.tree.Reading.{agrees_from, agrees_to, still_agrees, tag_ends}
use Rattle.optimistic.proofs.lemmas.tree.Setting.{place_since}
use Rattle.optimistic.proofs.lemmas.tree.Sights.{shape_then, value_then, stood_from}
use Rattle.optimistic.proofs.lemmas.words.Moments.{since_refl, since_trans, width_some, version_word}

-- A lone leaf
module _ (form level first second from key end byte : ℕ) (log : List Entry) (low : form < 5) (deep : level < 8) (is : byte ≡ byte_at from level) (leaf : first % 256 ≡ 9)
    (up_to : end + 1 ≡ (prefix_of from level * 256 + byte + 1) * 2 ^ (56 - 8 * level)) (its : leaf_of key ≡ first) (same : prefix_of key 1 ≡ prefix_of from 1) (makes : ChildMakes form level first second from log) where
  inner : is_inner form ≡ true
  inner = grind arith

  first_is : (k : ℕ) → put_first form first k ≡ first
  first_is k = ap (λ (c : Bool). if c then first else leaf_of k) inner

  near : (k : ℕ) → from ≤ k → k ≤ end → IsNear (level + 1) from k
  near k above below = near_to from level byte end k deep is up_to above below

  off : (k : ℕ) → goes_on (put_first form first k) second k ≡ false
  off k = ap (λ (z : ℕ). goes_on z second k) (first_is k) ∙ tag_ends first second k (λ a b. omega (arith, b, leaf))

  made : (k : ℕ) → from ≤ k → k ≤ end → pair_value first second k ≡ value_of k log
  made k above below = ap (λ (z : ℕ). pair_value z second k) (sym (first_is k)) ∙ makes k (near k above below) (off k)

  pub lone_there : from ≤ key → key ≤ end → value_of key log ≡ Some second
  lone_there above below = sym (made key above below) ∙ pair_there first second key (sym its)

  pub lone_none : (k : ℕ) → from ≤ k → k ≤ end → k ≢ key → value_of k log ≡ None
  lone_none k above below apart = sym (made k above below) ∙ pair_none first second k (λ e.
      let top : k / 2 ^ 56 ≡ from / 2 ^ 56 = near_first level from k deep (near k above below) in
      let both : leaf_of key ≡ leaf_of k = its ∙ e in
      apart (whole k key from top same both))
    where
      whole : (k key from : ℕ) → k / 2 ^ 56 ≡ from / 2 ^ 56 → key / 2 ^ 56 ≡ from / 2 ^ 56 → key % 2 ^ 56 * 256 + 9 ≡ k % 2 ^ 56 * 256 + 9 → k ≡ key
      whole k key from a b c = omega (arith, a, b, c)

  pub lone_gives : (value : ℕ) → value ≡ second → from ≤ key → key ≤ end → Gives log from end (Some (pair_of key value))
  lone_gives value e above below = (above, below, lone_there above below ∙ ap (λ (z : ℕ). Some z) (sym e), λ k up down apart. lone_none k up down apart)

  pub lone_silent : (key < from) ⊎ (end < key) → from ≤ end → Gives log from end None
  lone_silent out order = (
    order,
    λ k above below. lone_none k above below (λ e. elim out [
      | inl l ↦ absurd (omega (arith, l, e, above))
      | inr g ↦ absurd (omega (arith, g, e, below))
    ]),
  )

-- a value of a node of values
pub value_gives : (form level first second from : ℕ) (log : List Entry) → is_inner form ≡ false → ChildMakes form level first second from log → Gives log from from (Some (pair_of from second))
value_gives form level first second from log values makes =
    let leaf : put_first form first from ≡ leaf_of from = ap (λ (c : Bool). if c then first else leaf_of from) values in
    let off : goes_on (put_first form first from) second from ≡ false = ap (λ (z : ℕ). goes_on z second from) leaf ∙ tag_ends (leaf_of from) second from (λ a b. omega (arith, b)) in (
      le_refl from,
      le_refl from,
      sym (makes from refl off) ∙ pair_there (put_first form first from) second from leaf,
      λ k above below apart. absurd (apart (omega arith)),
    )

-- what children say of one key or of some is so by a log that makes it of them
pub makes_here : (level : ℕ) (F S : ℕ → ℕ) (from x : ℕ) (log : List Entry) → Makes level F S from log → IsNext level F S from (next.Here x) → Gives log from from (Some (pair_of from x))
makes_here level F S from x log makes n = (le_refl from, le_refl from, sym (makes from refl n.0) ∙ n.1, λ k above below apart. absurd (apart (omega arith)))

pub makes_after : (level : ℕ) (F S : ℕ → ℕ) (from last : ℕ) (log : List Entry) → Makes level F S from log → IsNext level F S from (next.After last) → Gives log from last None
makes_after level F S from last log makes n = (n.0, λ k above below. let t = n.1 k above below in sym (makes k t.0 t.1.0) ∙ t.1.1)

pub makes_near : (level : ℕ) (F S : ℕ → ℕ) (start from : ℕ) (log : List Entry) → IsNear level start from → Makes level F S start log → Makes level F S from log
makes_near level F S start from log near makes k n = makes k (n ∙ near)

-- no key up to one has a value, and then this
gives_behind : (log : List Entry) (from gap first end : ℕ) (pair : Option Pair) → Gives log from gap None → Gives log first end pair → gap + 1 ≡ first → from ≤ gap → first ≤ end → Gives log from end pair
gives_behind log from gap first end None none some next order reach = (
  omega (arith, next, order, reach),
  λ k above below. elim (cases_lt k first) [
    | inl l ↦ none.1 k above (omega (arith, l, next))
    | inr g ↦ some.1 k g below
  ],
)
gives_behind log from gap first end (Some p) none some next order reach = (
  (let a = some.0 in omega (arith, a, next, order)),
  some.1,
  some.2,
  λ k above below apart. elim (cases_lt k first) [
    | inl l ↦ none.1 k above (omega (arith, l, next))
    | inr g ↦ some.3 k g below apart
  ],
)

-- What a node that was read from v to x tells of its children from one byte on
module _ (at : Place) (from : ℕ) (v x : View) (deep : at.level < 8) where
  pub bit_gap : (to last byte : ℕ) → Lacks at.node at.form (byte_at from at.level) to v x → byte_at from at.level ≤ byte → byte < 256 → byte < to
      → last + 1 ≡ (prefix_of from at.level * 256 + byte + 1) * 2 ^ (56 - 8 * at.level) → ShowsBit at from (Told None last) v x
  bit_gap to last byte lacks reach small low end f ag is log makes =
      makes_after at.level (λ k. first_of at.form f k (byte_at k at.level)) (λ k. second_of at.form f k (byte_at k at.level)) from last log makes
      (gap_next at.form at.level from f deep is last byte end reach small (λ k b above below. lacks f ag is k b above (omega (arith, below, low))) (reaches from at.level byte last deep end reach))

  module _ (first second : ℕ) (found : Found at.node at.form first second from (byte_at from at.level) v x) where
    pub bit_zero : (last : ℕ) → first ≡ 0 → last + 1 ≡ (prefix_of from at.level * 256 + byte_at from at.level + 1) * 2 ^ (56 - 8 * at.level) → ShowsBit at from (Told None last) v x
    bit_zero last none end f ag is log makes =
        let here : (k : ℕ) → first_of at.form f k (byte_at from at.level) ≡ 0 = first_none_each at.form f from (byte_at from at.level) ((found f ag is).0 ∙ none) in
        makes_after at.level (λ k. first_of at.form f k (byte_at k at.level)) (λ k. second_of at.form f k (byte_at k at.level)) from last log makes
        (gap_next at.form at.level from f deep is last (byte_at from at.level) end (le_refl (byte_at from at.level)) (omega arith)
        (λ k b above below. let e : b ≡ byte_at from at.level = omega (arith, above, below) in ap (λ (z : ℕ). first_of at.form f k z) e ∙ here k) (reaches from at.level (byte_at from at.level) last deep end (le_refl (byte_at from at.level))))

    pub bit_child : (bit : Bit) → first ≢ 0 → ((log : List Entry) → ChildMakes at.form at.level first second from log → BitHolds log from bit) → ShowsBit at from bit v x
    bit_child bit some so f ag is log makes =
        let said = found f ag is in
        so log (λ k near off.
        let m = near_less at.level from k deep near in
        let one : first_of at.form f k (byte_at k at.level) ≡ put_first at.form first k = ap (λ (z : ℕ). first_of at.form f k z) m.1 ∙ first_each at.form f from (byte_at from at.level) first said.0 some k in
        let two : second_of at.form f k (byte_at k at.level) ≡ second = ap (λ (z : ℕ). second_of at.form f k z) m.1 ∙ second_each at.form f from (byte_at from at.level) second (said.1 some) k in
        (λ i. pair_value (sym one i) (sym two i) k) ∙ makes k m.0 ((λ i. goes_on (one i) (two i) k) ∙ off))

  -- the entry of a place
  pub bit_entry : (first second : ℕ) (bit : Bit) → ((f : ℕ → ℕ) → Agrees at.node at.form v x f → IsForm at.form f → (k : ℕ) → (first_of at.form f k (byte_at from at.level) ≡ put_first at.form first k) × (second_of at.form f k (byte_at from at.level) ≡ second))
      → ((log : List Entry) → ChildMakes at.form at.level first second from log → BitHolds log from bit) → ShowsBit at from bit v x
  bit_entry first second bit entry so f ag is log makes = so log (λ k near off.
      let m = near_less at.level from k deep near in
      let e = entry f ag is k in
      let one : first_of at.form f k (byte_at k at.level) ≡ put_first at.form first k = ap (λ (z : ℕ). first_of at.form f k z) m.1 ∙ e.0 in
      let two : second_of at.form f k (byte_at k at.level) ≡ second = ap (λ (z : ℕ). second_of at.form f k z) m.1 ∙ e.1 in
      (λ i. pair_value (sym one i) (sym two i) k) ∙ makes k m.0 ((λ i. goes_on (one i) (two i) k) ∙ off))

  -- the child behind a gap
  pub bit_behind : (first gap : ℕ) (pair : Option Pair) (end : ℕ) → ShowsBit at from (Told None gap) v x → ShowsBit at first (Told pair end) v x → gap + 1 ≡ first → IsNear at.level from first → from ≤ gap → first ≤ end → ShowsBit at from (Told pair end) v x
  bit_behind first gap pair end none some next near order reach f ag is log makes = gives_behind log from gap first end pair (none f ag is log makes) (some f ag is log (λ k n. makes k (n ∙ near))) next order reach

-- a child that was found between two views was so between an earlier and a later one
pub found_in : (node form first second key byte : ℕ) (v a b w : View) → Looks IsTree v a → Found node form first second key byte a b → Since b.seen w.seen → Found node form first second key byte v w
found_in node form first second key byte v a b w looks found since f ag is = found f (agrees_to node form a b w f (agrees_from node form v a w f ag looks) since) is

pub lacks_in : (node form from to : ℕ) (v a b w : View) → Looks IsTree v a → Lacks node form from to a b → Since b.seen w.seen → Lacks node form from to v w
lacks_in node form from to v a b w looks lacks since f ag is = lacks f (agrees_to node form a b w f (agrees_from node form v a w f ag looks) since) is

pub bytes_since : (at : Place) (bytes places : List ℕ) (v u w : View) → HasBytes at bytes places v u → Since u.seen w.seen → HasBytes at bytes places v w
bytes_since at bytes places v u w has since narrow = (
  λ f ag is. (has narrow).0 f (agrees_to at.node at.form v u w f ag since) is,
  λ r f ag is. (has narrow).1 r f (agrees_to at.node at.form v u w f ag since) is,
)

-- what one child tells
pub drained_gives : (log : List Entry) (start from to end stop : ℕ) (ps : List Pair) (pair : Option Pair) → IsDrained log start from ps → start ≤ from → from ≤ to → to ≤ end → to ≤ stop → (to ≡ stop) ⊎ (to ≡ end) → Gives log from end pair
    → IsDrained log start (to + 1) (ps ++ within stop pair)
drained_gives log start from to end stop ps None d order up below few which g =
    subst (λ (l : List Pair). IsDrained log start (to + 1) l) (sym (append-nil ps)) (drained_pass log start from (to + 1) ps d (omega (arith, up)) (λ k a b. g.1 k a (omega (arith, b, below))))
drained_gives log start from to end stop ps (Some p) d order up below few which g = elim (cases_lt stop p.key) [
  | inl far ↦
      let no : leb p.key stop ≡ false = grind (arith, far) in
      let e : within stop (Some p) ≡ [] = ap (λ (b : Bool). if b then p ∷ [] else []) no in
      subst (λ (l : List Pair). IsDrained log start (to + 1) l) (sym (ap (λ (l : List Pair). ps ++ l) e ∙ append-nil ps))
      (drained_pass log start from (to + 1) ps d (omega (arith, up)) (λ k a b. g.3 k a (omega (arith, b, below)) (λ same. absurd (omega (arith, same, b, few, far)))))
  | inr near ↦
      let yes : leb p.key stop ≡ true = grind (arith, near) in
      let e : within stop (Some p) ≡ p ∷ [] = ap (λ (b : Bool). if b then p ∷ [] else []) yes in
      let last = g.1 in
      let inside : p.key ≤ to = elim which [
        | inl s ↦ omega (arith, s, near)
        | inr s ↦ omega (arith, s, last)
      ] in
      let more : IsDrained log start (p.key + 1) (ps ++ p ∷ []) = drained_more log start from ps d p order (g.0, g.2, λ k a b. g.3 k a (omega (arith, b, last)) (λ same. absurd (omega (arith, same, b)))) in
      let above = g.0 in
      subst (λ (l : List Pair). IsDrained log start (to + 1) l) (sym (ap (λ (l : List Pair). ps ++ l) e))
      (drained_pass log start (p.key + 1) (to + 1) (ps ++ p ∷ []) more (omega (arith, inside)) (λ k a b. g.3 k (omega (arith, a, above)) (omega (arith, b, below)) (λ same. absurd (omega (arith, same, a)))))
]

-- A run of a node that was read from v to u, and then to w
module _ (at : Place) (start from : ℕ) (ps : List Pair) (v u w : View) (run : ShowsRun at start from ps v u) (since : Since u.seen w.seen) (near : IsNear at.level start from) (order : start ≤ from) where
  -- one child more
  pub run_more : (to end stop : ℕ) (pair : Option Pair) → ShowsBit at from (Told pair end) v w → from ≤ to → to ≤ end → to ≤ stop → (to ≡ stop) ⊎ (to ≡ end) → ShowsRun at start (to + 1) (ps ++ within stop pair) v w
  run_more to end stop pair bit up below few which f ag is log makes =
      drained_gives log start from to end stop ps pair (run f (agrees_to at.node at.form v u w f ag since) is log makes) order up below few which (bit f ag is log (λ k n. makes k (n ∙ near)))

  -- none
  pub run_same : ShowsRun at start from ps v w
  run_same f ag is log makes = run f (agrees_to at.node at.form v u w f ag since) is log makes

pub run_none : (at : Place) (start : ℕ) (v w : View) → ShowsRun at start start [] v w
run_none at start v w f ag is log makes = drained_none log start

-- What was read of a node under one version: first its version, at a, then which keys it covers, up to u, and then the run, up to w
module _ (r : Run) (from last places : ℕ) (pairs : List Pair) (a u w : View) (place : IsPlace r.at a) (is : r.version ≡ word_at a.seen.words r.at.node 0) (even : r.version % 2 ≡ 0) (first : Looks IsTree a u) (later : Looks IsTree a w) (until : Since u.seen w.seen)
    (covering : Steady r.at.node r.at.form 1 (where_of r.at.form r.at.level from) a u) (shows : ShowsRun r.at from (behind last r.next) pairs a w) where
  some_there : 0 < size a.seen.plots r.at.node
  some_there = subst (λ (z : ℕ). 0 < width z) (sym place.at.is) (width_some r.at.form place.some place.form)

  least : r.version ≤ word_at w.seen.words r.at.node 0
  least =
      let g = later.since.grows r.at.node some_there in
      let p = version_word a.seen.words r.at.node in
      let q = version_word w.seen.words r.at.node in
      omega (arith, is, g, p, q)

  pub run_there : IsTurn r.turn w → r.count ≤ places → from ≤ behind last r.next → IfSome r.next (λ k. k ≤ last) → IsRun r from last places pairs w
  run_there turn few order inside = record {
    place = place_since r.at a w later.since place;
    turn = turn;
    least = least;
    few = few;
    order = order;
    inside = inside;
    holds = λ m since sound same.
        let even' : word_at a.seen.words r.at.node 0 % 2 ≡ 0 = ap (λ (z : ℕ). z % 2) (sym is) ∙ even in
        let same' : word_at m.words r.at.node 0 ≡ word_at a.seen.words r.at.node 0 = same ∙ is in
        let at_first : Still r.at.node r.at.form a u a.seen m = record { before = since_refl a.seen; after = since_trans u.seen w.seen m until since; is = place.at.is; even = even'; same = same' } in
        let over : Still r.at.node r.at.form a w a.seen m = record { before = since_refl a.seen; after = since; is = place.at.is; even = even'; same = same' } in
        let there : calm_at m.calm r.at.node 1 ≡ where_of r.at.form r.at.level from = covering (calm_at m.calm r.at.node) (still_agrees r.at.node r.at.form a u a.seen m at_first) in
        let shape = shape_then m sound r.at.node r.at.form r.at.level from place.some place.form place.level there in
        shows (calm_at m.calm r.at.node) (still_agrees r.at.node r.at.form a w a.seen m over) shape m.log (value_then m sound r.at.node r.at.form r.at.level from place.some place.form place.level there);
  }

pub run_made : (r : Run) (at : Place) (version count : ℕ) → r.at ≡ at → r.version ≡ version → r.count ≡ count → (from last places : ℕ) (pairs : List Pair) (w : View) → IsRun record { at = at; version = version; next = r.next; count = count; turn = r.turn } from last places pairs w → IsRun r from last places pairs w
run_made r at version count a b c from last places pairs w run = subst (λ (z : Run). IsRun z from last places pairs w) (λ i. record { at = sym a i; version = sym b i; next = r.next; count = sym c i; turn = r.turn }) run

-- what a node told, which then still had its version
pub run_told : (r : Run) (from last places : ℕ) (pairs : List Pair) (v u w : View) → Looks IsTree v u → Looks IsTree u w → IsRun r from last places pairs u → from < behind last r.next → word_at w.seen.words r.at.node 0 ≡ r.version → WasTold r from last places pairs v w
run_told r from last places pairs v u w first looks run later same = record {
  few = run.few;
  later = later;
  inside = run.inside;
  stood = record {
    moment = w.seen;
    after = since_trans v.seen u.seen w.seen first.since looks.since;
    before = since_refl w.seen;
    sound = looks.sound;
    holds = run.holds w.seen looks.since looks.sound same;
  };
}

pub told_from : (r : Run) (from last places : ℕ) (pairs : List Pair) (v u w : View) → Since v.seen u.seen → WasTold r from last places pairs u w → WasTold r from last places pairs v w
told_from r from last places pairs v u w since t = record { few = t.few; later = t.later; inside = t.inside; stood = stood_from (λ log. IsDrained log from (behind last r.next) pairs) v u w since t.stood }

-- what was shown between two views was so between an earlier and a later one
pub bit_in : (at : Place) (from : ℕ) (bit : Bit) (v a b w : View) → Looks IsTree v a → ShowsBit at from bit a b → Since b.seen w.seen → ShowsBit at from bit v w
bit_in at from bit v a b w looks shows since f ag is = shows f (agrees_to at.node at.form a b w f (agrees_from at.node at.form v a w f ag looks) since) is

pub bit_until : (at : Place) (from : ℕ) (bit : Bit) (v b w : View) → ShowsBit at from bit v b → Since b.seen w.seen → ShowsBit at from bit v w
bit_until at from bit v b w shows since f ag is = shows f (agrees_to at.node at.form v b w f ag since) is
