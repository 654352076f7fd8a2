-- What a worker knows after some calls.
use Rattle.std.proofs.Common.{◌≡◌, ℕ, List, [], ◌∷◌, ◌++◌, length, sym, refl, ap, ◌∙◌, subst, Option, Result, Ok, Err, MatchResult, IfOk, IfErr, slice_index_or, ◌+◌, ◌<◌, ◌≤◌}
use mathlib.Core.List.{append-nil, append_assoc}
use Rattle.atomic_table.specs.Seated.{TableId}
use Rattle.atomic_table.specs.Table.{Me}
use Rattle.atomic_table.specs.declared.shared.Seat.{Seat}
use Rattle.optimistic.specs.declared.face.refusal.Refusal.{Refusal}
use Rattle.optimistic.specs.declared.face.refusal.Refusal.TheVariants as refusal
use Rattle.optimistic.specs.declared.face.writes.Written.{Written}
use Rattle.optimistic.specs.declared.face.writes.Written.TheVariants.{Made, Differs}
use Rattle.optimistic.specs.declared.tree.fresh.Free.{Free}
use Rattle.optimistic.specs.declared.tree.set.Set.{Set}
use Rattle.optimistic.specs.declared.tree.set.Set.TheVariants as set
use Rattle.optimistic.specs.declared.tree.write.Write.{Write}
use Rattle.optimistic.specs.declared.words.nodes.Uncarved.{Uncarved}
use Rattle.optimistic.specs.declared.words.nodes.Uncarved.TheVariants as uncarved
use Rattle.optimistic.specs.declared.words.rule.Entry.{Entry}
use Rattle.optimistic.specs.declared.words.rule.Moment.{Moment}
use Rattle.optimistic.specs.declared.words.rule.Note.{Note}
use Rattle.optimistic.specs.declared.words.rule.Tenure.{Tenure}
use Rattle.optimistic.specs.declared.words.rule.View.{View}
use Rattle.optimistic.specs.words.Calls.{Later, Keeps, entry_of}
use Rattle.optimistic.specs.words.Kept.{has, value_of, view_of, Follows}
use Rattle.optimistic.specs.words.Room.{IsUnmade}
use Rattle.optimistic.specs.words.Told.{view, noted, IsNote}
use Rattle.optimistic.specs.tree.Fresh.{IsFreeOf}
use Rattle.optimistic.specs.tree.Sets.{Replaces, IsSet, Minds, HasNoMore}
use Rattle.optimistic.specs.face.Calls.{Known, Saw, Looked, Wrote, Found}
use Rattle.optimistic.specs.face.Refusals.{IsRefused}
use Rattle.optimistic.specs.face.Writes.{came_of, outcome_of}
use Rattle.optimistic.specs.face.Workers.{known, HasNone, HasNames, IsWritten}
use Rattle.optimistic.specs.Layout.{width}
use Rattle.optimistic.proofs.lemmas.words.Moments.{width_some}
use Rattle.optimistic.proofs.lemmas.tree.Nodes.{clash, not_true}

pub later_saw : (id : TableId) (v w : View) → Later v w → Saw (known id v) (known id w)
later_saw id v w p = (refl, p.2, p.1, p.0)

pub keeps_looked : (id : TableId) (v w : View) → Keeps v w → Looked (known id v) (known id w)
keeps_looked id v w p = (later_saw id v w p.0, p.1)

pub replaces_wrote : (id : TableId) (key : ℕ) (value old : Option ℕ) (v w : View) → Replaces key value old v w → Wrote key value old (known id v) (known id w)
replaces_wrote id key value old v w s = let t = s.0 in (refl, t.4, t.3, t.5, (t.0, t.1, t.2, s.1))

-- a hand that has none, and then none more
pub none_same : (v w : View) → w.mine ≡ v.mine → HasNone v → HasNone w
none_same v w e none n = ap (λ (l : List Tenure). has l n) e ∙ none n

pub none_more : (v w : View) → HasNoMore v w → HasNone v → HasNone w
none_more v w less none n = not_true (has w.mine n) (λ h. clash (has v.mine n) (less n h) (none n))

pub saw_refl : (v : Known) → Saw v v
saw_refl v = (refl, refl, refl, ([], sym (append-nil v.seen)))

pub saw_trans : (u v w : Known) → Saw u v → Saw v w → Saw u w
saw_trans u v w p q = (q.0 ∙ p.0, q.1 ∙ p.1, q.2 ∙ p.2, (p.3.0 ++ q.3.0, q.3.1 ∙ (ap (λ (l : List Entry). l ++ q.3.0) p.3.1 ∙ append_assoc u.seen p.3.0 q.3.0)))

pub saw_looked : (u v w : Known) → Saw u v → Looked v w → Looked u w
saw_looked u v w p q = (saw_trans u v w p q.0, q.1)

pub saw_found : (key : ℕ) (x : Option ℕ) (u v w : Known) → Saw u v → Found key x v w → Found key x u w
saw_found key x u v w p q = (saw_looked u v w p q.0, q.1)

pub saw_wrote : (key : ℕ) (value old : Option ℕ) (u v w : Known) → Saw u v → Wrote key value old v w → Wrote key value old u w
saw_wrote key value old u v w p q = let e : ℕ → List Entry = λ z. entry_of z key value ∷ [] in let t = q.4 in
    let log : v.seen ++ t.0 ≡ u.seen ++ (p.3.0 ++ t.0) = ap (λ (l : List Entry). l ++ t.0) p.3.1 ∙ append_assoc u.seen p.3.0 t.0 in (
      q.0 ∙ p.0,
      q.1 ∙ p.1,
      q.2 ∙ (ap (λ (l : List Entry). l ++ e v.by) p.2 ∙ ap (λ (z : ℕ). u.made ++ e z) p.1),
      q.3,
      (
        p.3.0 ++ t.0,
        t.1,
        t.2 ∙ ((λ i. (log i ++ e v.by) ++ t.1) ∙ ap (λ (z : ℕ). ((u.seen ++ (p.3.0 ++ t.0)) ++ e z) ++ t.1) p.1),
        t.3 ∙ ap (λ (l : List Entry). value_of key l) log,
      ),
    )

pub saw_refused : (e : Refusal) (u v w : Known) → Saw u v → IsRefused e v w → IsRefused e u w
saw_refused e u v w p t = (saw_looked u v w p t.0, t.1)

pub saw_written : (write : Write) (u v w : Known) (r : Result Written Refusal) → Saw u v → IsWritten write v w r → IsWritten write u w r
saw_written write u v w (Ok (Made old)) p t = (saw_wrote write.key write.value old u v w p t.0, t.1)
saw_written write u v w (Ok (Differs x)) p t = (saw_found write.key x u v w p t.0, t.1)
saw_written write u v w (Err e) p t = saw_refused e u v w p t

-- names of nodes at a moment that a note tells
pub has_names : (id : TableId) (m : Moment) (free : Free) (h : Seat Note View) → IsNote id m h → length m.words ≡ id.words → IsFreeOf free (view_of m [] [] 0) → HasNames id free h
has_names id m free h note wide names = let told : (view h).told ≡ m = ap (λ (z : Me Note View). z.0.told) note.1 in (
  (note.0, note.1 ∙ ap (λ (z : Moment). (noted z, [])) (sym told)),
  ap (λ (z : Moment). length z.words) told ∙ wide,
  subst (λ (z : Moment). IsFreeOf free (view_of z [] [] 0)) (sym told) names,
)

-- they are names of nodes later too
pub names_at : (id : TableId) (free : Free) (h : Seat Note View) (w : View) → HasNames id free h → Follows (view h).told w.seen → length w.seen.words ≡ id.words → IsFreeOf free w
names_at id free h w t f long = record {
  forms = t.2.forms;
  names = λ form list some low k d l. let n : ℕ = slice_index_or (slice_index_or free.lists.items form list).items k d in let a = t.2.names form list some low k d l in
      record { is = f.plots n (subst (λ (z : ℕ). 0 < width z) (sym a.is) (width_some form some low)) ∙ a.is; ends = subst (λ (z : ℕ). n + width form ≤ z) (t.1 ∙ sym long) a.ends; above = a.above };
}

pub names_of : (free : Free) (w : View) → IsFreeOf free w → IsFreeOf free (view_of w.seen [] [] 0)
names_of free w t = record {
  forms = t.forms;
  names = λ form list some low k d l. let a = t.names form list some low k d l in record { is = a.is; ends = a.ends; above = a.above };
}

-- what came of an attempt
pub set_written : (write : Write) (id : TableId) (v w : View) (s : Set) → IsSet write.key write.value s v w → Minds write s → IsWritten write (known id v) (known id w) (came_of s)
set_written write id v w (set.Done old) t m = (replaces_wrote id write.key write.value old v w t, m)
set_written write id v w (set.Differs x) t m = ((keeps_looked id v w t.0, t.1), m)
set_written write id v w set.Again t m = (keeps_looked id v w t, tt)
set_written write id v w set.Full t m = (keeps_looked id v w t, tt)
set_written write id v w set.Taken t m = (keeps_looked id v w t, tt)
set_written write id v w set.Exhausted t m = (keeps_looked id v w t.0, t.1)

pub outcome_written : (write : Write) (id : TableId) (v w : View) (r : Result Set Uncarved) → MatchResult r (λ s. IsSet write.key write.value s v w) (λ _. Keeps v w) → IfOk r (Minds write) → IfErr r (λ e. IsUnmade id.words e w.seen) → IsWritten write (known id v) (known id w) (outcome_of r)
outcome_written write id v w (Ok s) t m c = set_written write id v w s t m
outcome_written write id v w (Err uncarved.Full) t m c = (keeps_looked id v w t, c)
outcome_written write id v w (Err uncarved.Again) t m c = (keeps_looked id v w t, tt)

-- an attempt at a node that is there wants no room
pub came_not_full : (s : Set) → came_of s ≡ Err refusal.Full → ⊥
came_not_full (set.Done old) e = cc
came_not_full (set.Differs x) e = cc
came_not_full set.Again e = cc
came_not_full set.Full e = cc
came_not_full set.Taken e = cc
came_not_full set.Exhausted e = cc

-- a worker whose write wasn't made has seen no less, and has made no call more
pub differs_saw : (write : Write) (v w : Known) (r : Result Written Refusal) (x : Option ℕ) → r ≡ Ok (Differs x) → IsWritten write v w r → Saw v w
differs_saw write v w r x e t = (subst (IsWritten write v w) e t).0.0.0

pub refused_saw : (write : Write) (v w : Known) (r : Result Written Refusal) (e : Refusal) → r ≡ Err e → IsWritten write v w r → Saw v w
refused_saw write v w r e is t = (subst (IsWritten write v w) is t).0.0
