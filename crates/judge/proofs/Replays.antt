-- What std's ordered map answers is what the finite map does.
use Rattle.std.proofs.Common.{◌≡◌, ◌≢◌, ℕ, false, Option, Some, List, [], ◌∷◌, cond, refl, ap, sym, ◌∙◌, arith}
use Rattle.std.proofs.lemmas.Bool.Decides.{nat_tests}
use Rattle.std.specs.Ordering.{nat_cmp}
use Rattle.std.specs.Cmp.{nat_cmp_total}
use Rattle.std.specs.BTreeMap.{BTreeMap}
use Rattle.std.specs.BTreeMap as tree
use Rattle.std.specs.FinMap.{get, find, get-from_entries, from_entries}
use Rattle.std.specs.Map.{lookup}
use Rattle.judge.specs.Answer.{Pairs, set_at}
use Rattle.judge.proofs.Maps.{is_set_at}

-- the entries as a finite map
abbrev pub pairs_of : BTreeMap ℕ ℕ → Pairs ℕ
pairs_of kept = from_entries kept.entries

find-lookup : (q : ℕ) (es : List (ℕ × ℕ)) → find nat_cmp q es ≡ lookup (tree.is_at (nat_cmp q)) es
find-lookup q [] = refl
find-lookup q (e ∷ es) = ap (cond (tree.is_at (nat_cmp q) e.0) (Some e.1)) (find-lookup q es)

-- the finite map of the entries has at each key what std's map answers
pub get-kept : (kept : BTreeMap ℕ ℕ) (q : ℕ) → get (pairs_of kept) q ≡ tree.get nat_cmp kept q
get-kept kept q = get-from_entries nat_cmp_total kept.entries q ∙ find-lookup q kept.entries

elsewhere : (k q : ℕ) → q ≢ k → tree.is_at (nat_cmp k) q ≡ false
elsewhere k q ne = grind (arith, nat_tests)

-- std's map changed at one key alone is the finite map with that key set
pub updated : (before after : BTreeMap ℕ ℕ) (k : ℕ) (o : Option ℕ) → tree.UpdatesBy nat_cmp (nat_cmp k) before after o → pairs_of after ≡ set_at (pairs_of before) k o
updated before after k o update =
    is_set_at (pairs_of before) (pairs_of after) k o
    (get-kept after k ∙ update.1)
    (λ q ne. get-kept after q ∙ update.2 q (elsewhere k q ne) ∙ sym (get-kept before q))
