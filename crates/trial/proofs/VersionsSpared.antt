-- What a row shows at a stamp stays, whatever calls come that spare it.
use Rattle.std.proofs.Common.{◌≡◌, ◌≢◌, ℕ, ◌+◌, ◌/◌, ◌%◌, ◌^◌, Bool, true, false, cond, ◌<◌, ◌≤◌, Option, None, Some, List, [], ◌∷◌, ◌++◌, refl, sym, ap, subst, ◌∙◌, arith, inl, inr, append_assoc, if◌then◌else◌, ne_eqb, eqb}
use Rattle.std.proofs.lemmas.List.{append-nil}
use Rattle.std.specs.Prelude.{◌==◌}
use Rattle.std.proofs.lemmas.Bool.{cases_lt, cases_eq}
use Rattle.std.proofs.lemmas.Bool.Decides.{nat_tests}
use Rattle.judge.specs.Words.{joined}
use Rattle.optimistic.specs.declared.words.rule.Entry.{Entry}
use Rattle.optimistic.specs.words.Kept.{value_of, value_after}
use Rattle.optimistic.specs.declared.drain.nexts.Pair.{Pair}
use Rattle.optimistic.specs.tree.Nexts.{IsLast}
use Rattle.optimistic.specs.face.Calls.{Known}
use Rattle.optimistic.specs.face.Scans.{Once}
use Rattle.optimistic.specs.face.Words.{pair_words}
use Rattle.trial.specs.Versions.{said, value_in}
use Rattle.trial.specs.VersionsAtOnce.{IsLatest, Shows, IsSparing, Spare, shown_by}

-- a call leaves the other keys
kept : (x : Option ℕ) (key : ℕ) (log : List Entry) (e : Entry) → key ≢ e.key → value_after x key (log ++ e ∷ []) ≡ value_after x key log
kept x key [] e ne = ap (λ b. if b then e.value else x) (ne_eqb e.key key (λ s. ne (sym s)))
kept x key (f ∷ log) e ne = kept (if eqb f.key key then f.value else x) key log e ne

latest_kept : (log : List Entry) (e : Entry) (first last : ℕ) (found : Option (ℕ × ℕ)) → ((key : ℕ) → first ≤ key → key ≤ last → key ≢ e.key) → IsLatest log first last found → IsLatest (log ++ e ∷ []) first last found
latest_kept log e first last None ne h = λ key a b. kept None key log e (ne key a b) ∙ h key a b
latest_kept log e first last (Some p) ne h =
    let low : first ≤ p.0 = h.0 in
    (h.0, h.1, kept None p.0 log e (ne p.0 h.0 h.1) ∙ h.2, λ key a b. kept None key log e (ne key (omega arith) b) ∙ h.3 key a b)

latest_hidden : (log : List Entry) (e : Entry) (first last newer : ℕ) (found : Option (ℕ × ℕ)) → first ≤ e.key → e.key < newer → newer ≤ last → value_of newer log ≢ None → IsLatest log first last found → IsLatest (log ++ e ∷ []) first last found
latest_hidden log e first last newer None f a b some h = absurd (some (h newer (omega arith) b))
latest_hidden log e first last newer (Some p) f a b some h = elim (cases_lt p.0 newer) [
  | inl l ↦ absurd (some (h.3 newer l b))
  | inr l ↦ (h.0, h.1, kept None p.0 log e (λ is. absurd (omega arith)) ∙ h.2, λ key c d. kept None key log e (λ is. absurd (omega arith)) ∙ h.3 key c d)
]

latest_spared : (row stamp : ℕ) (log : List Entry) (e : Entry) (found : Option (ℕ × ℕ)) → IsSparing row stamp log e → IsLatest log (joined row 0) (joined row stamp) found → IsLatest (log ++ e ∷ []) (joined row 0) (joined row stamp) found
latest_spared row stamp log e found spares h = elim (cases_lt e.key (joined row 0)) [
  | inl below ↦ latest_kept log e _ _ found (λ key a b is. absurd (omega arith)) h
  | inr from ↦ elim spares [
    | inl below ↦ absurd (omega arith)
    | inr other ↦ elim other [
      | inl above ↦ latest_kept log e _ _ found (λ key a b is. absurd (omega arith)) h
      | inr hides ↦ latest_hidden log e _ _ hides.1.0 found from hides.1.1 hides.1.2 hides.1.3 h
    ]
  ]
]

-- what a row shows stays over calls that spare it
pub shows_on : (row stamp : ℕ) (value : Option ℕ) (log rest : List Entry) → Spare row stamp log rest → Shows log row stamp value → Shows (log ++ rest) row stamp value
shows_on row stamp value log [] spare h = subst (λ (l : List Entry). Shows l row stamp value) (sym (append-nil log)) h
shows_on row stamp value log (e ∷ rest) spare h =
    subst (λ (l : List Entry). Shows l row stamp value) (append_assoc log (e ∷ []) rest)
    (shows_on row stamp value (log ++ e ∷ []) rest spare.1 (record { version = h.version; last = latest_spared row stamp log e h.version spare.0 h.last; says = h.says }))

-- the first of such calls spare it
pub spare_front : (row stamp : ℕ) (log a b : List Entry) → Spare row stamp log (a ++ b) → Spare row stamp log a
spare_front row stamp log [] b spare = tt
spare_front row stamp log (e ∷ a) b spare = (spare.0, spare_front row stamp (log ++ e ∷ []) a b spare.1)

said_once : (log : List Entry) (first last : ℕ) (a b : Option (ℕ × ℕ)) → IsLatest log first last a → IsLatest log first last b → said a ≡ said b
said_once log first last None None f g = refl
said_once log first last None (Some b) f g = absurd (cc (f b.0 g.0 g.1, g.2))
said_once log first last (Some a) None f g = absurd (cc (g a.0 f.0 f.1, f.2))
said_once log first last (Some a) (Some b) f g = elim (cases_lt a.0 b.0) [
  | inl h ↦ absurd (cc (f.3 b.0 h g.1, g.2))
  | inr h ↦ elim (cases_eq a.0 b.0) [
    | inl is ↦ (let same : Some a.1 ≡ Some b.1 = sym f.2 ∙ ap (λ k. value_of k log) is ∙ g.2 in let one : a.1 ≡ b.1 = cc in ap value_in one)
    | inr ne ↦ absurd (cc (g.3 a.0 (omega arith) f.1, f.2))
  ]
]

-- and it shows one thing
pub shows_once : (log : List Entry) (row stamp : ℕ) (a b : Option ℕ) → Shows log row stamp a → Shows log row stamp b → a ≡ b
shows_once log row stamp a b f g = f.says ∙ said_once log _ _ f.version g.version f.last g.last ∙ sym g.says

-- a write under a stamp spares every row at each lesser one
pub write_spares : (row stamp r s : ℕ) (log : List Entry) (e : Entry) → e.key ≡ joined r s → stamp < s → s < 2 ^ 32 → IsSparing row stamp log e
write_spares row stamp r s log e at l k = elim (cases_lt e.key (joined row 0)) [
  | inl below ↦ inl below
  | inr from ↦ inr (inl (omega arith))
]

told_by : (log : List Entry) (row stamp : ℕ) (p : Pair) (b : Bool) → (p.key / 2 ^ 32 == row) ≡ b → stamp < 2 ^ 32 → IsLast log (joined row stamp + 1) (Some p) → Shows log row stamp (cond b (value_in p.value) None)
told_by log row stamp p true e k h =
    let is : p.key / 2 ^ 32 ≡ row = grind (arith, nat_tests) in
    let below : p.key < joined row stamp + 1 = h.0 in
    record { version = Some (p.key, p.value); last = (omega arith, omega arith, h.1, λ key a b. h.2 key (omega arith) (omega arith)); says = refl }
told_by log row stamp p false e k h =
    let other : p.key / 2 ^ 32 ≢ row = grind (arith, nat_tests) in
    let below : p.key < joined row stamp + 1 = h.0 in
    record { version = None; last = λ key a b. h.2 key (omega arith) (omega arith); says = refl }

-- the last pair up to a row's stamp tells what the row shows there
pub tells : (log : List Entry) (row stamp : ℕ) (x : Option Pair) → stamp < 2 ^ 32 → IsLast log (joined row stamp + 1) x
    → Shows log row stamp (shown_by row (pair_words (λ n. record { row = n / 2 ^ 32; stamp = n % 2 ^ 32 }) (λ n. record { value = value_in n }) x))
tells log row stamp None k h = record { version = None; last = λ key a b. h key (omega arith) (omega arith); says = refl }
tells log row stamp (Some p) k h = told_by log row stamp p _ refl k h

-- a reader is told what its row showed at its stamp as it called, where all that came meanwhile spared it
pub stays : (v w : Known) (row stamp : ℕ) (value told : Option ℕ) → Once (λ log. Shows log row stamp told) v w → Shows v.seen row stamp value
    → ((calls : List Entry) → w.seen ≡ v.seen ++ calls → Spare row stamp v.seen calls) → told ≡ value
stays v w row stamp value told o shows spare =
    let a : List Entry = o.after.0 in
    let b : List Entry = o.before.0 in
    let all : w.seen ≡ v.seen ++ (a ++ b) = o.before.1 ∙ ap (λ (l : List Entry). l ++ b) o.after.1 ∙ append_assoc v.seen a b in
    shows_once o.log row stamp told value o.holds (subst (λ (l : List Entry). Shows l row stamp value) (sym o.after.1) (shows_on row stamp value v.seen a (spare_front row stamp v.seen a b (spare (a ++ b) all)) shows))
