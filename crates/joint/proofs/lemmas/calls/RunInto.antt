-- Steps taken one by one, each with its report behind those of a list.
use Rattle.std.proofs.Common.{◌≡◌, ◌⊎◌, inl, inr, ℕ, ◌+◌, ◌-◌, ◌<◌, ◌≤◌, arith, Bool, List, [], ◌∷◌, ◌++◌, length, take, Result, Ok, Err, refl, sym, ◌∙◌, ap, subst}
use Rattle.std.specs.Prelude.{min, OnOk, OnErr}
use Rattle.std.proofs.lemmas.List.{append_assoc, append-nil, length-append}
use Rattle.joint.specs.declared.steps.Report.{Report}
use Rattle.joint.specs.declared.steps.Step.{Step}
use Rattle.joint.specs.calls.RunInto.{IsRunInto}
use Rattle.joint.specs.calls.Runs.{IsRun}
use Rattle.joint.specs.engine.Engine.{World}
use Rattle.joint.specs.world.World.{IsStep}
use Rattle.joint.proofs.lemmas.calls.Running.{Progress, progress_end, progress_more, progress_none}

-- where no step is left, or no place, as many were taken as there are steps and places
pub stops : (all left done len before places : ℕ) → all ≡ done + left → done ≡ len - before → before ≤ len → len ≤ places → (left ≡ 0) ⊎ (len ≡ places) → done ≡ min all (places - before)
stops all left done len before places a d m f (inl none) = omega (arith, a, d, m, f, none)
stops all left done len before places a d m f (inr full) = omega (arith, a, d, m, f, full)

-- a list that had no room has it for all steps, or gets no memory: then it has none, and no step was taken
pub all_or_none : {A E : Type 0} (r : Result A E) (done all asked len places places' : ℕ) → done ≡ min all (places' - len) → asked ≡ all → len ≡ 0 → places ≡ 0 → OnOk r (len + asked ≤ places') → OnErr r (places' ≡ places) → done < all → (done ≡ 0) × (places' ≡ 0)
all_or_none (Ok x) done all asked len places places' d q z n ok err fewer = let k : len + asked ≤ places' = ok in absurd (omega (arith, d, q, z, k, fewer))
all_or_none (Err e) done all asked len places places' d q z n ok err fewer = let k : places' ≡ places = err in (omega (arith, d, z, n, k), omega (arith, k, n))

module _ {V : Type 0} (same : V → V → Bool) (always : Bool) where
  -- how far the steps have come: so many were taken, and their reports stand behind those of the list
  pub record Fills (s : World V) (all rest : List (Step V)) (items : List (Report V)) (done : ℕ) (items' : List (Report V)) (s' : World V) : Type 0 where
    pub told : List (Report V)
    pub progress : Progress same always s all rest done told s'
    pub items_are : items' ≡ items ++ told

  pub fills_none : (s : World V) (all rest : List (Step V)) (items : List (Report V)) (done : ℕ) → rest ≡ all → done ≡ 0 → Fills s all rest items done items s
  fills_none s all rest items done e n = record {
    told = [];
    progress = progress_none same always s all rest done [] e n refl;
    items_are = sym (append-nil items);
  }

  pub fills_more : (s : World V) (all rest rest' : List (Step V)) (items : List (Report V)) (done done' : ℕ) (items1 items2 : List (Report V)) (s1 s2 : World V) (step : Step V) (report : Report V)
      → Fills s all rest items done items1 s1 → rest ≡ step ∷ rest' → done' ≡ done + 1 → items2 ≡ items1 ++ report ∷ [] → IsStep same always s1 step report s2 → Fills s all rest' items done' items2 s2
  fills_more s all rest rest' items done done' items1 items2 s1 s2 step report f e d q x = record {
    told = f.told ++ report ∷ [];
    progress = progress_more same always s all rest rest' done done done' f.told f.told (f.told ++ report ∷ []) s1 s2 step report f.progress e refl d refl refl x;
    items_are = q ∙ (ap (λ y. y ++ report ∷ []) f.items_are ∙ append_assoc items f.told (report ∷ []));
  }

  -- those taken and those left are all
  pub fills_split : (s : World V) (all rest : List (Step V)) (items : List (Report V)) (done : ℕ) (items' : List (Report V)) (s' : World V) → Fills s all rest items done items' s' → length all ≡ done + length rest
  fills_split s all rest items done items' s' f =
      let split : length all ≡ length f.progress.taken + length rest = ap length f.progress.split ∙ length-append f.progress.taken rest in
      let count : length f.progress.taken ≡ done = f.progress.count in
      omega (arith, split, count)

  pub fills_end : (s : World V) (all rest : List (Step V)) (items : List (Report V)) (done done' : ℕ) (items' : List (Report V)) (s' : World V) → Fills s all rest items done items' s' → done' ≡ done → IsRunInto same always s (take done' all) items items' s'
  fills_end s all rest items done done' items' s' f e = (f.told, progress_end same always s all rest done done' f.told f.told s' f.progress e refl, f.items_are)

  -- behind an empty list the reports are the list
  pub into_empty : (s : World V) (steps : List (Step V)) (before after : List (Report V)) (s' : World V) → before ≡ [] → IsRunInto same always s steps before after s' → IsRun same always s steps after s'
  into_empty s steps before after s' none x =
      let P : List (Report V) → Type 0 = λ y. IsRun same always s steps y s' in
      subst P (sym (x.2 ∙ ap (λ y. y ++ x.0) none)) x.1
