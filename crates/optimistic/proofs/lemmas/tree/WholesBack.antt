-- The pairs of a range as they are at one moment, from the greatest key down: what each further node that is read adds, and what the versions
-- tell in the end.
use Rattle.std.proofs.Common.{◌≡◌, ◌⊎◌, ℕ, ◌+◌, ◌<◌, ◌≤◌, List, [], ◌++◌, length, arith, sym, ◌∙◌, refl, subst, inl, inr, le_refl}
use Rattle.optimistic.specs.Layout.{width}
use Rattle.optimistic.specs.declared.drain.nexts.Pair.{Pair}
use Rattle.optimistic.specs.declared.tree.run.Run.{Run}
use Rattle.optimistic.specs.declared.tree.whole.Mark.{Mark}
use Rattle.optimistic.specs.declared.words.rule.Entry.{Entry}
use Rattle.optimistic.specs.declared.words.rule.View.{View}
use Rattle.optimistic.specs.words.Kept.{word_at, size, Since}
use Rattle.optimistic.specs.words.Told.{HasForm, Looks}
use Rattle.optimistic.specs.tree.RunsBack.{lowest, IsRunBack}
use Rattle.optimistic.specs.tree.Sights.{Stood}
use Rattle.optimistic.specs.tree.Trees.{IsTree}
use Rattle.optimistic.specs.tree.Wholes.{AreSeen, IsSteadfast, HasMore, mark_of}
use Rattle.optimistic.specs.tree.WholesBack.{IsCollectedBack, IsRangeBack}
use Rattle.optimistic.proofs.lemmas.tree.RunsBack.{drained_back_none, drained_back_append}
use Rattle.optimistic.proofs.lemmas.words.Moments.{form_since, since_refl, since_trans, width_some, version_word}

pub collected_back_none : (to : ℕ) (v : View) → IsCollectedBack [] to to [] v
collected_back_none to v = record {
  order = le_refl to;
  seen = λ m c. let l = c.1 in absurd (omega arith);
  holds = λ b since sound steadfast. drained_back_none b.log to to (λ k above below. absurd (omega (arith, above, below)));
}

-- One node more
module _ (old new : List Mark) (to from first places : ℕ) (pairs more : List Pair) (v w : View) (r : Run) (so_far : IsCollectedBack old (from + 1) to pairs v) (since : Since v.seen w.seen) (run : IsRunBack r from first places more w) (marked : HasMore old (mark_of r) new) where
  later : (m : Mark) → HasForm m.node m.form v × (0 < width m.form) × (m.version ≤ word_at v.seen.words m.node 0) → m.version ≤ word_at w.seen.words m.node 0
  later m a =
      let some : 0 < size v.seen.plots m.node = subst (λ (z : ℕ). 0 < width z) (sym a.0.is) a.1 in
      let g = since.grows m.node some in
      let p = version_word v.seen.words m.node in
      let q = version_word w.seen.words m.node in
      let l = a.2 in
      omega (arith, g, p, q, l)

  seen_more : AreSeen new w
  seen_more m c = elim (marked.only m c) [
    | inl o ↦ let a = so_far.seen m o in (form_since m.node m.form v w a.1 a.0 since, a.1, later m a)
    | inr e ↦ subst (λ (z : Mark). HasForm z.node z.form w × (0 < width z.form) × (z.version ≤ word_at w.seen.words z.node 0)) e (run.place.at, width_some r.at.form run.place.some run.place.form, run.least)
  ]

  pub collected_back_more : IsCollectedBack new (lowest first r.next) to (pairs ++ more) w
  collected_back_more = record {
    order = (let a = so_far.order in let b = run.order in omega (arith, a, b));
    seen = seen_more;
    holds = λ b after sound steadfast.
        drained_back_append b.log (lowest first r.next) (from + 1) to pairs more run.order so_far.order
        (so_far.holds b (since_trans v.seen w.seen b since after) sound (λ m c. steadfast m (marked.kept m c)))
        (run.holds b after sound (steadfast (mark_of r) marked.there));
  }

-- the pairs stood at the moment between the reading and the looking again
pub whole_back_then : (marks : List Mark) (from low to n places : ℕ) (pairs : List Pair) (u v w : View) → Looks IsTree u v → Since v.seen w.seen → IsCollectedBack marks low to pairs v → IsSteadfast marks v.seen → length pairs ≡ n → n ≤ places
    → (low ≡ from) ⊎ ((from ≤ low) × (n ≡ places)) → Stood (λ log. IsRangeBack log from to places pairs) u w
whole_back_then marks from low to n places pairs u v w looks since c steadfast long few end = record {
  moment = v.seen;
  after = looks.since;
  before = since;
  sound = looks.sound;
  holds = record {
    low = low;
    told = c.holds v.seen (since_refl v.seen) looks.sound steadfast;
    few = omega (arith, long, few);
    end = elim end [
      | inl e ↦ inl e
      | inr e ↦ inr (e.0, long ∙ e.1)
    ];
  };
}

-- a range without a key, and one without a place
pub range_back_empty : (log : List Entry) (from to places : ℕ) → to ≤ from → IsRangeBack log from to places []
range_back_empty log from to places order = record {
  low = from;
  told = drained_back_none log from to (λ k above below. absurd (omega (arith, above, below, order)));
  few = omega arith;
  end = inl refl;
}

pub range_back_placeless : (log : List Entry) (from to : ℕ) → from ≤ to → IsRangeBack log from to 0 []
range_back_placeless log from to order = record { low = to; told = drained_back_none log to to (λ k above below. absurd (omega (arith, above, below))); few = omega arith; end = inr (order, refl) }
