-- The nodes that a scan passed, and what it learned of the keys after them.
use Rattle.std.proofs.Common.{◌≡◌, ℕ, zero, suc, ◌+◌, ◌<◌, ◌⊎◌, List, [], ◌∷◌, set, length-set, subst, inl, inr, ◌∙◌, Some}
use Rattle.std.specs.Prelude.{slice_get}
use Rattle.optimistic.specs.declared.tree.ahead.Ahead.{Ahead}
use Rattle.optimistic.specs.declared.tree.place.Place.{Place}
use Rattle.optimistic.specs.declared.tree.trail.Trail.{Trail}
use Rattle.optimistic.specs.declared.words.rule.Moment.{Moment}
use Rattle.optimistic.specs.declared.words.rule.View.{View}
use Rattle.optimistic.specs.words.Kept.{Since}
use Rattle.optimistic.specs.tree.Reads.{IsPlace}
use Rattle.optimistic.specs.tree.Trails.{IsKnown, IsTrail, AreKnown}
use Rattle.optimistic.proofs.lemmas.tree.Setting.{place_since}

-- what a list has at a place after it was set at one
get_set : {A : Type 0} → (xs : List A) (i j : ℕ) (x y : A) → slice_get (set xs i x) j ≡ Some y → (x ≡ y) ⊎ (slice_get xs j ≡ Some y)
get_set [] i j x y e = inr e
get_set (z ∷ xs) zero zero x y e = inl cc
get_set (z ∷ xs) zero (suc j) x y e = inr e
get_set (z ∷ xs) (suc i) zero x y e = inr e
get_set (z ∷ xs) (suc i) (suc j) x y e = get_set xs i j x y e

pub known_place : (p : Place) (v : View) → IsKnown p v.seen → IsPlace p v
known_place p v k = record { at = record { is = k.at.is; ends = k.at.ends; above = k.at.above }; some = k.some; form = k.form; level = k.level }

pub place_known : (p : Place) (v : View) → IsPlace p v → IsKnown p v.seen
place_known p v k = record { at = record { is = k.at.is; ends = k.at.ends; above = k.at.above }; some = k.some; form = k.form; level = k.level }

pub trail_since : (t : Trail) (v w : View) → Since v.seen w.seen → IsTrail t v.seen → IsTrail t w.seen
trail_since t v w s k = record { deep = k.deep; long = k.long; known = λ i p e. place_known p w (place_since p v w s (known_place p v (k.known i p e))) }

pub trail_down : (places : List Place) (depth : ℕ) (p : Place) (m : Moment) → depth + 1 < 8 → IsTrail (record { places = places; depth = depth }) m → IsKnown p m → IsTrail (record { places = set places (depth + 1) p; depth = depth + 1 }) m
trail_down places depth p m low t k = record {
  deep = low;
  long = length-set places (depth + 1) p ∙ t.long;
  known = λ i q e. elim (get_set places (depth + 1) i p q e) [
    | inl s ↦ subst (λ (z : Place). IsKnown z m) s k
    | inr s ↦ t.known i q s
  ];
}

pub ahead_since : (a : Ahead) (v w : View) → Since v.seen w.seen → AreKnown a v.seen → AreKnown a w.seen
ahead_since a v w s k = record { long = k.long; known = λ i p e. place_known p w (place_since p v w s (known_place p v (k.known i p e))) }

pub ahead_put : (places : List Place) (turn : ℕ) (p : Place) (m : Moment) → AreKnown (record { places = places }) m → IsKnown p m → AreKnown (record { places = set places turn p }) m
ahead_put places turn p m t k = record {
  long = length-set places turn p ∙ t.long;
  known = λ i q e. elim (get_set places turn i p q e) [
    | inl s ↦ subst (λ (z : Place). IsKnown z m) s k
    | inr s ↦ t.known i q s
  ];
}
