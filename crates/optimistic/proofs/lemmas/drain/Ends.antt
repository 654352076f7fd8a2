-- What the words at the end tell of keys.
use Rattle.std.proofs.Common.{◌≡◌, ℕ, ◌+◌, ◌-◌, ◌*◌, ◌%◌, ◌^◌, ◌<◌, ◌≤◌, Bool, true, false, List, get_or, length, arith, ap, sym, ◌∙◌, refl, subst, inl, inr, if◌then◌else◌, MatchBool, None}
use Rattle.std.proofs.lemmas.Bool.{cases_eq, cases_lt, eqb-true}
use Rattle.optimistic.specs.Layout.{room, width, is_link, prefix_of, byte_at, where_of, tag_of, level_of, node_of, leaf_of}
use Rattle.optimistic.specs.declared.drain.nexts.Next.{Next}
use Rattle.optimistic.specs.declared.drain.nexts.Next.TheVariants.{Here, Down, After}
use Rattle.optimistic.specs.declared.moves.Item.{Item}
use Rattle.optimistic.specs.declared.tree.place.Place.{Place}
use Rattle.optimistic.specs.declared.words.rule.Block.{Block}
use Rattle.optimistic.specs.declared.words.rule.Entry.{Entry}
use Rattle.optimistic.specs.declared.words.rule.Moment.{Moment}
use Rattle.optimistic.specs.declared.words.rule.Plot.{Plot}
use Rattle.optimistic.specs.forms.Children.{is_inner, byte_in, taken_in, first_word, first_of, second_of, put_first, IsForm, Same}
use Rattle.optimistic.specs.forms.Least.{IsLeastItem}
use Rattle.optimistic.specs.words.Kept.{word_at, version_at, form_at, size, calm_at, value_of, Sound}
use Rattle.optimistic.specs.tree.Levels.{form_of, depth, stands, goes_on, pair_value}
use Rattle.optimistic.specs.tree.Trees.{IsTree, where_at, first_at, second_at}
use Rattle.optimistic.specs.tree.Nexts.{IsSilent, IsNear, IsNext, Leads, IsNextAt, IsEnd, HasLocked}
use Rattle.optimistic.proofs.lemmas.drain.Keys.{between, near_less, silent_none, pair_there, no_pair}
use Rattle.optimistic.proofs.lemmas.drain.Leasts.{none_at, item_first, item_second, child_named, values_tag}
use Rattle.optimistic.proofs.lemmas.forms.ChildLemmas.{either}
use Rattle.optimistic.proofs.lemmas.forms.FormLemmas.{first_like, second_like, form_like}
use Rattle.optimistic.proofs.lemmas.forms.PlaceLemmas.{first_inside}
use Rattle.optimistic.proofs.lemmas.forms.Levels.{where_form, where_level}
use Rattle.optimistic.proofs.lemmas.MoveLemmas.{link_first}
use Rattle.optimistic.proofs.lemmas.tree.Nodes.{clash}
use Rattle.optimistic.proofs.lemmas.tree.Reading.{where_stands, where_some, goes_where, tag_ends}
use Rattle.optimistic.proofs.lemmas.words.Moments.{width_some, width_four}

pub match_false : (b : Bool) (A B : Type 0) → b ≡ false → MatchBool b A B → B
match_false false A B e m = m
match_false true A B e m = absurd (cc)

pub room_some : (f : ℕ) → 0 < f → f < 9 → 0 < room f
room_some f l m = elim (cases_eq f 1) [
  | inl e ↦ subst (λ (z : ℕ). 0 < room z) (sym e) (omega arith)
  | inr n1 ↦ elim (cases_eq f 2) [
    | inl e ↦ subst (λ (z : ℕ). 0 < room z) (sym e) (omega arith)
    | inr n2 ↦ elim (cases_eq f 3) [
      | inl e ↦ subst (λ (z : ℕ). 0 < room z) (sym e) (omega arith)
      | inr n3 ↦ elim (cases_eq f 4) [
        | inl e ↦ subst (λ (z : ℕ). 0 < room z) (sym e) (omega arith)
        | inr n4 ↦ elim (cases_eq f 5) [
          | inl e ↦ subst (λ (z : ℕ). 0 < room z) (sym e) (omega arith)
          | inr n5 ↦ elim (cases_eq f 6) [
            | inl e ↦ subst (λ (z : ℕ). 0 < room z) (sym e) (omega arith)
            | inr n6 ↦ elim (cases_eq f 7) [
              | inl e ↦ subst (λ (z : ℕ). 0 < room z) (sym e) (omega arith)
              | inr n7 ↦ elim (cases_eq f 8) [
                | inl e ↦ subst (λ (z : ℕ). 0 < room z) (sym e) (omega arith)
                | inr n8 ↦ absurd (omega arith)
              ]
            ]
          ]
        ]
      ]
    ]
  ]
]

-- a child that goes on to a key has the tag of a form
pub goes_tags : (f x key : ℕ) → goes_on f x key ≡ true → (0 < tag_of f) × (tag_of f < 9)
goes_tags f x key on = elim (cases_lt 0 (tag_of f)) [
  | inl some ↦ elim (cases_lt (tag_of f) 9) [
    | inl low ↦ (some, low)
    | inr high ↦ absurd (clash (goes_on f x key) on (tag_ends f x key (λ a b. omega (arith, b, high))))
  ]
  | inr none ↦ absurd (clash (goes_on f x key) on (tag_ends f x key (λ a b. omega (arith, a, none))))
]

-- an item tells the same of each key with its byte, if it is a child word, and else it is of the key
pub item_silent : (form : ℕ) (e : Item) (from k : ℕ) (c : ℕ) → c ≡ put_first form e.first from → pair_value c e.last from ≡ None → IsSilent c e.last k → IsSilent (put_first form e.first k) e.last k
item_silent form e from k c is none silent = elim (either (is_inner form)) [
  | inl b ↦
      let same : c ≡ put_first form e.first k = is ∙ ap (λ (z : Bool). if z then e.first else leaf_of from) b ∙ sym (ap (λ (z : Bool). if z then e.first else leaf_of k) b) in
      subst (λ (z : ℕ). IsSilent z e.last k) same silent
  | inr b ↦ absurd (no_pair e.last (pair_value c e.last from) (pair_there c e.last from (is ∙ ap (λ (z : Bool). if z then e.first else leaf_of from) b)) none)
]

-- The lowest item of a node from the byte of a key on
module _ (form level from : ℕ) (w : ℕ → ℕ) (l : level < 8) (is : IsForm form w) where
  abbrev First : ℕ → ℕ
  First k = first_of form w k (byte_at k level)

  abbrev Second : ℕ → ℕ
  Second k = second_of form w k (byte_at k level)

  -- no child has a byte up to that of the last key
  pub gap_next : (last byte : ℕ) → last + 1 ≡ (prefix_of from level * 256 + byte + 1) * 2 ^ (56 - 8 * level) → byte_at from level ≤ byte → byte < 256
      → ((k b : ℕ) → byte_at from level ≤ b → b ≤ byte → first_of form w k b ≡ 0) → from ≤ last → IsNext level First Second from (After last)
  gap_next last byte end reach small none later = (
    later,
    λ k above below.
        let t = between from level byte last l small end k above below in
        (t.0, silent_none (First k) (Second k) k (none k (byte_at k level) t.1 t.2)),
  )

  -- no item has one
  pub none_next : (last byte : ℕ) → last + 1 ≡ (prefix_of from level * 256 + byte + 1) * 2 ^ (56 - 8 * level) → byte_at from level ≤ byte → byte < 256
      → ((i : ℕ) → i < room form → taken_in form w i ≡ 1 → byte_at from level ≤ byte_in form w i → byte < byte_in form w i) → from ≤ last → IsNext level First Second from (After last)
  none_next last byte end reach small none = gap_next last byte end reach small
      (λ k b up down. none_at form w is k b (λ i m taken (e : byte_in form w i ≡ b). let far = none i m taken (omega (arith, e, up)) in absurd (omega (arith, far, e, down))))

  -- the child at the key's byte
  module _ (e : Item) (one : (k : ℕ) → byte_at k level ≡ byte_at from level → First k ≡ put_first form e.first k) (two : (k : ℕ) → byte_at k level ≡ byte_at from level → Second k ≡ e.last) where
    pub child_next : (r : Next) → IsNext (level + 1) (λ k. put_first form e.first k) (λ k. e.last) from r → IsNext level First Second from r
    child_next (Here x) n = let f = one from refl in let s = two from refl in ((λ i. goes_on (f i) (s i) from) ∙ n.0, (λ i. pair_value (f i) (s i) from) ∙ n.1)
    child_next (Down p) n = let f = one from refl in let s = two from refl in (
      (λ i. goes_on (f i) (s i) from) ∙ n.0,
      n.1 ∙ ap (λ (z : ℕ). node_of z) (sym f),
      n.2 ∙ ap (λ (z : ℕ). tag_of z) (sym f),
      n.3 ∙ ap (λ (z : ℕ). level_of z) (sym f),
    )
    child_next (After last) n = (
      n.0,
      λ k above below.
          let m = n.1 k above below in
          let near = near_less level from k l m.0 in
          let f = one k near.1 in
          let s = two k near.1 in
          (near.0, ((λ i. goes_on (f i) (s i) k) ∙ m.1.0, (λ i. pair_value (f i) (s i) k) ∙ m.1.1)),
    )

  -- the item at the key's byte
  pub item_next : (e : Item) → IsLeastItem form w (byte_at from level) (room form) e → e.byte ≡ byte_at from level → (r : Next) → IsNext (level + 1) (λ k. put_first form e.first k) (λ k. e.last) from r → IsNext level First Second from r
  item_next e h at = child_next e
      (λ k b. ap (λ (z : ℕ). first_of form w k z) (b ∙ sym at) ∙ item_first form w is h.place e h.inside h.item k)
      (λ k b. ap (λ (z : ℕ). second_of form w k z) (b ∙ sym at) ∙ item_second form w is h.place e h.inside h.item k)

-- the root
module _ (m : Moment) (sound : Sound IsTree m) where
  root_size : size m.plots 16 ≡ 520
  root_size = ap width sound.root ∙ width_four

  pub root_inside : 16 + width 4 ≤ length m.words
  root_inside =
      let s = root_size in
      let a : 16 + 519 < get_or m.words 0 0 = sound.laid.below 16 519 (omega (arith, s)) in
      let b : get_or m.words 0 0 ≤ length m.words = sound.laid.bound in
      let w = width_four in
      omega arith

  pub root_locked : version_at m.words 16 % 2 ≡ 1 → HasLocked m.words m.plots
  root_locked odd = record { node = 16; some = let s = root_size in omega (arith, s); odd = odd }

  pub root_where : version_at m.words 16 % 2 ≡ 0 → where_at m.calm 16 ≡ word_at m.words 16 1
  root_where even = let s = root_size in sound.rests 16 1 (omega arith) (omega (arith, s)) even

-- A node on the way to a key, at the end
module _ (ws : List ℕ) (plots : List Plot) (calm : List Block) (log : List Entry) (end : IsEnd ws plots calm log) (p : Place) (from : ℕ) (leads : Leads plots calm p from)
    (some : 0 < p.form) (low : p.form < 9) (deep : p.level < 8) where
  in_size : (j : ℕ) → j < width p.form → j < size plots p.node
  in_size j m = subst (λ (z : ℕ). j < width z) (sym leads.is) m

  pub inside : p.node + width p.form ≤ length ws
  inside =
      let wide : 0 < width p.form = width_some p.form some low in
      let m : width p.form - 1 < width p.form = omega arith in
      let a : p.node + (width p.form - 1) < get_or ws 0 0 = end.sound.laid.below p.node (width p.form - 1) (in_size (width p.form - 1) m) in
      let b : get_or ws 0 0 ≤ length ws = end.sound.laid.bound in
      omega arith

  pub locked : version_at ws p.node % 2 ≡ 1 → HasLocked ws plots
  locked odd = record { node = p.node; some = in_size 0 (width_some p.form some low); odd = odd }

  module _ (even : version_at ws p.node % 2 ≡ 0) where
    settled : (j : ℕ) → 0 < j → j < width p.form → calm_at calm p.node j ≡ word_at ws p.node j
    settled j l m = end.sound.rests p.node j l (in_size j m) even

    form_is : form_of (where_at calm p.node) ≡ p.form
    form_is = ap form_of leads.covers ∙ where_form p.form p.level from deep (omega arith)

    depth_is : depth (where_at calm p.node) ≡ p.level
    depth_is = ap depth leads.covers ∙ where_level p.form p.level from deep (omega arith)

    same : Same p.form (word_at ws p.node) (calm_at calm p.node)
    same j l m = sym (settled j (omega arith) m)

    shape : IsForm p.form (calm_at calm p.node)
    shape = subst (λ (z : ℕ). IsForm z (calm_at calm p.node)) form_is (end.sound.means.forms p.node (λ (z : where_at calm p.node ≡ 0). where_some p.form p.level from some low deep (sym leads.covers ∙ z)))

    pub shape_here : IsForm p.form (word_at ws p.node)
    shape_here = form_like p.form (calm_at calm p.node) (word_at ws p.node) same (room_some p.form some low) shape

    abbrev First' : ℕ → ℕ
    First' k = first_of p.form (word_at ws p.node) k (byte_at k p.level)

    abbrev Second' : ℕ → ℕ
    Second' k = second_of p.form (word_at ws p.node) k (byte_at k p.level)

    first_is : (k : ℕ) → first_at calm p.node k ≡ First' k
    first_is k = (λ i. first_of (form_is i) (calm_at calm p.node) k (byte_at k (depth_is i))) ∙ sym (first_like p.form (calm_at calm p.node) (word_at ws p.node) same k (byte_at k p.level))

    second_is : (k : ℕ) → second_at calm p.node k ≡ Second' k
    second_is k = (λ i. second_of (form_is i) (calm_at calm p.node) k (byte_at k (depth_is i))) ∙ sym (second_like p.form (calm_at calm p.node) (word_at ws p.node) same k (byte_at k p.level))

    covers : (k : ℕ) → IsNear p.level from k → stands (where_at calm p.node) k ≡ true
    covers k near = ap (λ (z : ℕ). stands z k) (leads.covers ∙ ap (λ (z : ℕ). z * 2 ^ (64 - 8 * p.level) + 8 * p.form + p.level) (sym near)) ∙ where_stands p.form p.level k some low deep

    -- a key's last node
    value : (k : ℕ) → IsNear p.level from k → goes_on (First' k) (Second' k) k ≡ false → pair_value (First' k) (Second' k) k ≡ value_of k log
    value k near off =
        let f = first_is k in
        let s = second_is k in
        (λ i. pair_value (sym f i) (sym s i) k) ∙ end.sound.means.nodes.means p.node k (covers k near, (λ i. goes_on (f i) (s i) k) ∙ off)

    -- where the way goes on
    module _ (q : Place) (on : goes_on (First' from) (Second' from) from ≡ true) (node : q.node ≡ node_of (First' from)) (form : q.form ≡ tag_of (First' from)) (level : q.level ≡ level_of (First' from)) where
      tags : (0 < tag_of (First' from)) × (tag_of (First' from) < 9)
      tags = goes_tags (First' from) (Second' from) from on

      second_where : Second' from ≡ where_of q.form q.level from
      second_where =
          eqb-true (Second' from) (where_of (tag_of (First' from)) (level_of (First' from)) from) (goes_where (First' from) (Second' from) from tags.0 tags.1 ∙ on)
          ∙ (λ i. where_of (sym form i) (sym level i) from)

      named : form_at plots (node_of (First' from)) ≡ tag_of (First' from)
      named = elim (either (is_inner p.form)) [
        | inl b ↦
            let t = tags in
            let c = child_named p.form (word_at ws p.node) shape_here from (byte_at from p.level) b (λ (z : First' from ≡ 0). absurd (omega (arith, z, t.0))) in
            let j = first_word p.form c.0 in
            let m : j < width p.form = first_inside p.form c.0 c.1 in
            let link : is_link (form_at plots p.node) j ≡ true = ap (λ (z : ℕ). is_link z j) leads.is ∙ link_first p.form c.0 c.1 b in
            let names = end.sound.links p.node j (in_size j m) link in
            subst (λ (z : ℕ). form_at plots (node_of z) ≡ tag_of z) c.2 (names (subst (λ (z : ℕ). 0 < tag_of z) (sym c.2) t.0) (subst (λ (z : ℕ). tag_of z < 9) (sym c.2) t.1))
        | inr b ↦ let t = tags in absurd (values_tag p.form (word_at ws p.node) from (byte_at from p.level) b t.0 t.1)
      ]

      pub down : (p.level < q.level) × Leads plots calm q from
      down =
          let f = first_is from in
          let s = second_is from in
          let link = end.sound.means.nodes.linked p.node from (covers from refl, (λ i. goes_on (f i) (s i) from) ∙ on) in
          let where_below : where_at calm q.node ≡ where_of q.form q.level from = ap (λ (z : ℕ). where_at calm z) (node ∙ ap (λ (z : ℕ). node_of z) (sym f)) ∙ link.0 ∙ s ∙ second_where in
          let t = tags in
          let small : q.level < 8 = omega (arith, level) in
          let few : q.form < 9 = omega (arith, form, t.1) in
          let depth_below : depth (second_at calm p.node from) ≡ q.level = ap depth (s ∙ second_where) ∙ where_level q.form q.level from small (omega arith) in (
            subst (λ (z : ℕ). z < q.level) depth_is (subst (λ (z : ℕ). depth (where_at calm p.node) < z) depth_below link.1),
            record { is = ap (λ (z : ℕ). form_at plots z) node ∙ named ∙ sym form; covers = where_below },
          )

    pub next_is : (r : Next) → IsNext p.level First' Second' from r → IsNextAt plots calm log p from r
    next_is (Here x) n = sym (value from refl n.0) ∙ n.1
    next_is (Down q) n = down q n.0 n.1 n.2 n.3
    next_is (After last) n = (n.0, λ k above below. let m = n.1 k above below in sym (value k m.0 m.1.0) ∙ m.1.1)
