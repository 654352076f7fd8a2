-- Calls that stand for many: one more.
use Rattle.std.proofs.Common.{◌≡◌, ℕ, ◌+◌, ◌<◌, List, [], ◌∷◌, ◌++◌, get_or, length, map, ap, sym, ◌∙◌, subst, arith, set, take, Option, Some, Err}
use mathlib.Core.List.{append-nil, append_assoc}
use Rattle.std.specs.Option.{option_map}
use Rattle.std.proofs.lemmas.List.{take_more, take_more_set, map_push, map_more, take-map, length-map}
use Rattle.optimistic.specs.declared.drain.nexts.Pair.{Pair}
use Rattle.optimistic.specs.declared.words.rule.Entry.{Entry}
use Rattle.optimistic.specs.words.Calls.{entry_of}
use Rattle.optimistic.specs.words.Kept.{value_of, StartsWith}
use Rattle.optimistic.specs.face.Calls.{Known, Saw, Wrote}
use Rattle.optimistic.specs.declared.face.refusal.Uninserted.{Uninserted}
use Rattle.optimistic.specs.face.Many.{Answered, PutAll, IsSameWorker, AreInserted}
use Rattle.optimistic.specs.face.Refusals.{HasCause}
use Rattle.optimistic.specs.face.Words.{As, in_words}
use Rattle.optimistic.proofs.lemmas.face.Knowing.{saw_refl, saw_trans, saw_wrote}
use Rattle.optimistic.proofs.lemmas.face.Scanning.{starts_trans}

pub answered_none : (seen : List Entry) → Answered seen [] [] seen
answered_none seen = ([], sym (append-nil seen))

pub answered_more : (seen : List Entry) (ks : List ℕ) (xs : List (Option ℕ)) (mid end : List Entry) (k : ℕ) (x : Option ℕ) → Answered seen ks xs mid → StartsWith end mid → x ≡ value_of k end → Answered seen (ks ++ k ∷ []) (xs ++ x ∷ []) end
answered_more seen [] [] mid end k x r s is = (end, starts_trans seen mid end r s, is, answered_none end)
answered_more seen (j ∷ js) (y ∷ ys) mid end k x r s is = (r.0, r.1, r.2, answered_more r.0 js ys mid end k x r.3 s is)
answered_more seen [] (y ∷ ys) mid end k x r s is = absurd r
answered_more seen (j ∷ js) [] mid end k x r s is = absurd r

-- an answer that is put into its place
pub answered_put : (seen : List Entry) (keys : List ℕ) (out : List (Option ℕ)) (n d : ℕ) (mid end : List Entry) (x : Option ℕ) → n < length keys → n < length out → Answered seen (take n keys) (take n out) mid → StartsWith end mid → x ≡ value_of (get_or keys n d) end
    → Answered seen (take (n + 1) keys) (take (n + 1) (set out n x)) end
answered_put seen keys out n d mid end x a b r s is =
    subst (λ (t : List ℕ × List (Option ℕ)). Answered seen t.0 t.1 end) (λ i. (sym (take_more keys n d a) i, sym (take_more_set out n x b) i)) (answered_more seen (take n keys) (take n out) mid end (get_or keys n d) x r s is)

pub put_all_more : (ps : List Pair) (p : Pair) (old : Option ℕ) (u v w : Known) → PutAll ps u v → Wrote p.key (Some p.value) old v w → PutAll (ps ++ p ∷ []) u w
put_all_more [] p old u v w r t = (w, old, saw_wrote p.key (Some p.value) old u v w r t, saw_refl w)
put_all_more (q ∷ qs) p old u v w r t = (r.0, r.1, r.2, put_all_more qs p old r.0 v w r.3 t)

pub put_all_saw : (ps : List Pair) (u v w : Known) → PutAll ps u v → Saw v w → PutAll ps u w
put_all_saw [] u v w r s = saw_trans u v w r s
put_all_saw (q ∷ qs) u v w r s = (r.0, r.1, r.2, put_all_saw qs r.0 v w r.3 s)

-- the worker stays the same one
wrote_starts : (key : ℕ) (value old : Option ℕ) (v w : Known) → Wrote key value old v w → StartsWith w.seen v.seen
wrote_starts key value old v w t =
    let p = t.4 in
    let e : List Entry = entry_of v.by key value ∷ [] in
    (p.0 ++ (e ++ p.1), p.2 ∙ (append_assoc (v.seen ++ p.0) e p.1 ∙ append_assoc v.seen p.0 (e ++ p.1)))

pub put_all_same : (ps : List Pair) (v w : Known) → PutAll ps v w → IsSameWorker v w
put_all_same [] v w r = (r.0, r.1, r.3)
put_all_same (p ∷ ps) v w r =
    let u = r.0 in
    let t = r.2 in
    let rest = put_all_same ps u w r.3 in
    (rest.0 ∙ t.0, rest.1 ∙ t.1, starts_trans v.seen u.seen w.seen (wrote_starts p.key (Some p.value) r.1 v u t) rest.2)

-- one pair more was put
pub put_all_next : (pairs : List Pair) (n : ℕ) (d : Pair) (old : Option ℕ) (u v w : Known) → n < length pairs → PutAll (take n pairs) u v → Wrote (get_or pairs n d).key (Some (get_or pairs n d).value) old v w → PutAll (take (n + 1) pairs) u w
put_all_next pairs n d old u v w low r t = subst (λ (l : List Pair). PutAll l u w) (sym (take_more pairs n d low)) (put_all_more (take n pairs) (get_or pairs n d) old u v w r t)

-- the same of keys and values as words
module _ {K V : Type 0} (key : K → ℕ) (value : ℕ → V) where
  -- answers of these keys, as values
  abbrev pub AnsweredWords : List Entry → List K → List (Option V) → List Entry → Type 0
  AnsweredWords seen keys out end = As (λ (xs : List (Option ℕ)). Answered seen (map key keys) xs end) (map (option_map value)) out

  put_at : (seen : List Entry) (keys : List K) (out : List (Option V)) (n : ℕ) (d : K) (mid end : List Entry) (x : Option ℕ) → n < length keys → n < length out → AnsweredWords seen (take n keys) (take n out) mid → StartsWith end mid → x ≡ value_of (key (get_or keys n d)) end
      → AnsweredWords seen (take (n + 1) keys) (take (n + 1) (set out n (option_map value x))) end
  put_at seen keys out n d mid end x a b r s is = (
    r.0 ++ x ∷ [],
    subst (λ (l : List ℕ). Answered seen l (r.0 ++ x ∷ []) end) (sym (map_more key keys n d a)) (answered_more seen (map key (take n keys)) r.0 mid end (key (get_or keys n d)) x r.1 s is),
    take_more_set out n (option_map value x) b ∙ (ap (λ (l : List (Option V)). l ++ option_map value x ∷ []) r.2 ∙ sym (map_push (option_map value) r.0 x)),
  )

  pub answered_put_words : (seen : List Entry) (keys : List K) (out : List (Option V)) (n k : ℕ) (mid end : List Entry) (x : Option ℕ) (y : Option V) → n < length keys → n < length out → ((d : K) → k ≡ key (get_or keys n d)) → AnsweredWords seen (take n keys) (take n out) mid → StartsWith end mid → x ≡ value_of k end → y ≡ option_map value x
      → AnsweredWords seen (take (n + 1) keys) (take (n + 1) (set out n y)) end
  answered_put_words seen [] out n k mid end x y a b at r s is e = absurd (omega arith)
  answered_put_words seen (j ∷ js) out n k mid end x y a b at r s is e =
      subst (λ (z : Option V). AnsweredWords seen (take (n + 1) (j ∷ js)) (take (n + 1) (set out n z)) end) (sym e) (put_at seen (j ∷ js) out n j mid end x a b r s (is ∙ ap (λ (z : ℕ). value_of z end) (at j)))

module _ {K V : Type 0} (key : K → ℕ) (value : V → ℕ) where
  abbrev as_words : K × V → Pair
  as_words = in_words key value

  pub put_words_next : (pairs : List (K × V)) (n : ℕ) (p : Pair) (old : Option ℕ) (u v w : Known) → n < length pairs → ((d : K × V) → p ≡ as_words (get_or pairs n d)) → PutAll (map as_words (take n pairs)) u v → Wrote p.key (Some p.value) old v w → PutAll (map as_words (take (n + 1) pairs)) u w
  put_words_next [] n p old u v w low at r t = absurd (omega arith)
  put_words_next (q ∷ qs) n p old u v w low at r t =
      subst (λ (l : List Pair). PutAll l u w) (sym (map_more as_words (q ∷ qs) n q low)) (put_all_more (map as_words (take n (q ∷ qs))) (as_words (get_or (q ∷ qs) n q)) old u v w r (subst (λ (z : Pair). Wrote z.key (Some z.value) old v w) (at q) t))

  pub put_words_refused : (pairs : List (K × V)) (e : Uninserted) (u v w : Known) → e.place < length pairs → PutAll (map as_words (take e.place pairs)) u v → Saw v w → HasCause e.refusal w → AreInserted (map as_words pairs) u w (Err e)
  put_words_refused pairs e u v w low r s cause = (
    subst (λ (z : ℕ). e.place < z) (sym (length-map pairs as_words)) low,
    subst (λ (l : List Pair). PutAll l u w) (sym (take-map as_words e.place pairs)) (put_all_saw (map as_words (take e.place pairs)) u v w r s),
    cause,
  )
