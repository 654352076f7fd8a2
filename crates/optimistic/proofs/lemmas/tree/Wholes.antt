-- The pairs of a range as they are at one moment: what each further node that is read adds, and what the versions tell in the end.
use Rattle.std.proofs.Common.{◌≡◌, ◌⊎◌, ℕ, zero, suc, ◌+◌, ◌<◌, ◌≤◌, List, [], ◌∷◌, ◌++◌, get_or, length, arith, sym, ◌∙◌, refl, subst, inl, inr, le_refl}
use Rattle.std.specs.List.{Contains}
use Rattle.std.proofs.lemmas.List.Elements.{Contains-append_left, Contains-append_right, Contains-append_cases}
use Rattle.optimistic.specs.Layout.{width}
use Rattle.optimistic.specs.declared.drain.nexts.Pair.{Pair}
use Rattle.optimistic.specs.declared.tree.run.Run.{Run}
use Rattle.optimistic.specs.declared.tree.whole.Mark.{Mark}
use Rattle.optimistic.specs.declared.words.rule.Moment.{Moment}
use Rattle.optimistic.specs.declared.words.rule.View.{View}
use Rattle.optimistic.specs.words.Calls.{Keeps}
use Rattle.optimistic.specs.words.Kept.{word_at, size, Since}
use Rattle.optimistic.specs.words.Told.{HasForm, Looks}
use Rattle.optimistic.specs.tree.Runs.{behind, IsRun}
use Rattle.optimistic.specs.tree.Sights.{Stood}
use Rattle.optimistic.specs.tree.Trees.{IsTree}
use Rattle.optimistic.specs.tree.Wholes.{AreSeen, IsSteadfast, HasMore, IsCollected, IsRange, Went, mark_of}
use Rattle.optimistic.proofs.lemmas.drain.Lists.{drained_none, drained_append}
use Rattle.optimistic.proofs.lemmas.tree.Sights.{version_between}
use Rattle.optimistic.proofs.lemmas.words.Chains.{later_refl, later_trans, looks_keeps}
use Rattle.optimistic.proofs.lemmas.words.Moments.{form_since, since_refl, since_trans, width_some, version_word}

pub collected_none : (start : ℕ) (v : View) → IsCollected [] start start [] v
collected_none start v = record {
  order = le_refl start;
  seen = λ m c. let l = c.1 in absurd (omega arith);
  holds = λ b since sound steadfast. drained_none b.log start;
}

-- a list of one
sole : (p q : Mark) → Contains (p ∷ []) q → p ≡ q
sole p q c = at c.0 c.1 c.2
  where
    at : (k : ℕ) → k < length (p ∷ []) → get_or (p ∷ []) k q ≡ q → p ≡ q
    at zero l e = e
    at (suc k) l e = absurd (omega arith)

-- nothing more is kept in mind, or one mark
pub more_same : (old : List Mark) (mark : Mark) → Contains old mark → HasMore old mark old
more_same old mark there = record { kept = λ m c. c; there = there; only = λ m c. inl c }

pub more_one : (old : List Mark) (mark : Mark) → HasMore old mark (old ++ mark ∷ [])
more_one old mark = record {
  kept = λ m c. Contains-append_left old (mark ∷ []) m c;
  there = Contains-append_right old (mark ∷ []) mark (0, omega arith, refl);
  only = λ m c. elim (Contains-append_cases old (mark ∷ []) m c) [
    | inl o ↦ inl o
    | inr o ↦ inr (sole mark m o)
  ];
}

-- One node more
module _ (old new : List Mark) (from next last places : ℕ) (pairs more : List Pair) (v w : View) (r : Run) (so_far : IsCollected old from next pairs v) (since : Since v.seen w.seen) (run : IsRun r next last places more w) (marked : HasMore old (mark_of r) new) where
  later : (m : Mark) → HasForm m.node m.form v × (0 < width m.form) × (m.version ≤ word_at v.seen.words m.node 0) → m.version ≤ word_at w.seen.words m.node 0
  later m a =
      let some : 0 < size v.seen.plots m.node = subst (λ (z : ℕ). 0 < width z) (sym a.0.is) a.1 in
      let g = since.grows m.node some in
      let p = version_word v.seen.words m.node in
      let q = version_word w.seen.words m.node in
      let l = a.2 in
      omega (arith, g, p, q, l)

  seen_more : AreSeen new w
  seen_more m c = elim (marked.only m c) [
    | inl o ↦ let a = so_far.seen m o in (form_since m.node m.form v w a.1 a.0 since, a.1, later m a)
    | inr e ↦ subst (λ (z : Mark). HasForm z.node z.form w × (0 < width z.form) × (z.version ≤ word_at w.seen.words z.node 0)) e (run.place.at, width_some r.at.form run.place.some run.place.form, run.least)
  ]

  pub collected_more : IsCollected new from (behind last r.next) (pairs ++ more) w
  collected_more = record {
    order = (let a = so_far.order in let b = run.order in omega (arith, a, b));
    seen = seen_more;
    holds = λ b after sound steadfast.
        drained_append b.log from next (behind last r.next) pairs more so_far.order run.order
        (so_far.holds b (since_trans v.seen w.seen b since after) sound (λ m c. steadfast m (marked.kept m c)))
        (run.holds b after sound (steadfast (mark_of r) marked.there));
  }

-- a node that has its version later had it before
pub steady_then : (m : Mark) (v : View) (b : Moment) → HasForm m.node m.form v → 0 < width m.form → m.version ≤ word_at v.seen.words m.node 0 → Since v.seen b → word_at b.words m.node 0 ≡ m.version → word_at v.seen.words m.node 0 ≡ m.version
steady_then m v b at wide least since same = version_between m.node m.form m.version v v.seen b at wide least (since_refl v.seen) since same

-- going on
pub went_none : (v : View) → Went v v
went_none v = record { later = later_refl v; since = since_refl v.seen; mine = refl; own = λ e. e }

pub went_looks : (v w x : View) → Went v w → Looks IsTree w x → Went v x
went_looks v w x a t = record {
  later = later_trans v w x a.later (looks_keeps IsTree w x t).0;
  since = since_trans v.seen w.seen x.seen a.since t.since;
  mine = t.mine ∙ a.mine;
  own = λ e. (looks_keeps IsTree w x t).1;
}

-- the pairs stood at the moment between the reading and the looking again
pub whole_then : (marks : List Mark) (from next last n places : ℕ) (pairs : List Pair) (u v w : View) → Looks IsTree u v → Since v.seen w.seen → IsCollected marks from next pairs v → IsSteadfast marks v.seen → length pairs ≡ n → n ≤ places
    → (next ≡ last + 1) ⊎ ((next ≤ last + 1) × (n ≡ places)) → Stood (λ log. IsRange log from (last + 1) places pairs) u w
whole_then marks from next last n places pairs u v w looks since c steadfast long few end = record {
  moment = v.seen;
  after = looks.since;
  before = since;
  sound = looks.sound;
  holds = record {
    next = next;
    told = c.holds v.seen (since_refl v.seen) looks.sound steadfast;
    few = omega (arith, long, few);
    end = elim end [
      | inl e ↦ inl e
      | inr e ↦ inr (e.0, long ∙ e.1)
    ];
  };
}

pub looks_went : (u v w : View) → Looks IsTree u v → Went v w → Keeps u w × (w.mine ≡ u.mine) × Since u.seen w.seen
looks_went u v w looks went =
    let k = looks_keeps IsTree u v looks in
    ((later_trans u v w k.0 went.later, went.own k.1), went.mine ∙ looks.mine, since_trans u.seen v.seen w.seen looks.since went.since)
