use Rattle.std.proofs.Common.{rules, ◌≡◌, ◌≤◌, refl, sym, ap, ◌∙◌, subst, ◌<◌, ◌++◌, ◌∷◌, [], length, take, set, get_or, arith}
use Rattle.std.proofs.lemmas.List.{length-set, take_more_set, take_more}
use Rattle.std.specs.List.{slice_index}
use Rattle.congee.proofs.lemmas.forms.PackedPrefixes.{worded, low_set}
use Rattle.congee.proofs.forms.prefix.Prefix.new.Goals as goal

-- the word after the last store
stored : (c : goal.After-loop-i) → (length (set c.loop-i.word 7 (length c.args.bytes.now)) ≡ 8) × ((slice_index (set c.loop-i.word 7 (length c.args.bytes.now)) 7 ≡ length c.args.bytes.now) × (take (length c.args.bytes.now) (set c.loop-i.word 7 (length c.args.bytes.now)) ≡ c.args.bytes.now))
stored c =
    let all : c.loop-i.i ≡ length c.args.bytes.now = omega (arith, c.loop-i-test.false, c.loop-i.auto.i-end) in
    worded c.loop-i.word c.args.bytes.now (length c.args.bytes.now) c.loop-i.invariant.0 refl c.requires.fits (subst (λ n. take n c.loop-i.word ≡ take n c.args.bytes.now) all c.loop-i.invariant.1)

pub loop-i-preserved : goal.loop-i-preserved
loop-i-preserved c =
    let within : c.loop-i.i < length c.loop-i.word = omega (arith, c.loop-i.invariant.0, c.loop-i-test.true, c.requires.fits) in
    let low : get_or c.args.bytes.now c.loop-i.i 0 < 256 = search rules in (
      length-set c.loop-i.word c.loop-i.i _ ∙ c.loop-i.invariant.0,
      take_more_set c.loop-i.word c.loop-i.i _ within ∙ ap (λ y. y ++ get_or c.args.bytes.now c.loop-i.i 0 ∷ []) c.loop-i.invariant.1 ∙ sym (take_more c.args.bytes.now c.loop-i.i 0 c.loop-i-test.true),
      low_set c.loop-i.word c.loop-i.i _ c.loop-i.invariant.2 low,
    )

pub invariant_of-result : goal.invariant_of-result
invariant_of-result c = let s = stored c in (s.0, subst (λ n. n ≤ 7) (sym s.1.0) c.requires.fits, low_set c.loop-i.word 7 (length c.args.bytes.now) c.loop-i.invariant.2 (omega (arith, c.requires.fits)))

pub returns : goal.returns
returns c = let s = stored c in ap (λ n. take n (set c.loop-i.word 7 (length c.args.bytes.now))) s.1.0 ∙ s.1.1
