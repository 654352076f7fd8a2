-- What the parser makes of the words of a command, and that it makes it of no others.
use Rattle.std.proofs.Common.{◌≡◌, ℕ, ◌<◌, ◌≤◌, ◌^◌, nat_le, List, [], ◌∷◌, refl, subst, Bool, true, false, cond, Some, None, arith, if◌then◌else◌}
use Rattle.std.proofs.lemmas.Bool.Decides.{nat_tests}
use Rattle.trial.specs.declared.command.LineCall.{LineCall}
use Rattle.trial.specs.declared.command.LineCall.TheVariants as call
use Rattle.trial.specs.declared.keyword.Keyword.{Keyword}
use Rattle.trial.specs.declared.keyword.Keyword.TheVariants as key
use Rattle.trial.specs.declared.word.Word.{Word}
use Rattle.trial.specs.declared.word.Word.TheVariants.{Key, Number, Other}
use Rattle.trial.specs.Grammar.{call_words, CallFits}
use Rattle.trial.specs.Parsing.{plain_call_of, key_call_of, pair_call_of, triple_call_of, call_of}

-- each number of the words is below 2 ^ 64
abbrev pub Small : List Word → Type 0
Small [] = Unit {0}
Small (Key k ∷ ws) = Small ws
Small (Number n ∷ ws) = (n < 2 ^ 64) × Small ws
Small (Other ∷ ws) = Small ws

-- what is found is found of this value
pub found_so : {A : Type 0} (P : A → Type 0) (x y : A) → P x → Some x ≡ Some y → P y
found_so P x y p e = let same : x ≡ y = cc in subst P same p

-- a test that let a value through
pub passed : {A : Type 0} (b : Bool) (x y : A) → cond b (Some x) None ≡ Some y → (b ≡ true) × (x ≡ y)
passed true x y e = (refl, cc)
passed false x y e = absurd (cc)

-- these words are a call within its bounds
abbrev IsCall : List Word → LineCall → Type 0
IsCall ws c = (ws ≡ call_words c) × CallFits c

plain_call_sound : (k : Keyword) (c : LineCall) → plain_call_of k ≡ Some c → IsCall (Key k ∷ []) c
plain_call_sound key.Pin c e = found_so (IsCall (Key key.Pin ∷ [])) call.Pin c (refl, tt) e
plain_call_sound key.Unpin c e = found_so (IsCall (Key key.Unpin ∷ [])) call.Unpin c (refl, tt) e
plain_call_sound key.Repin c e = found_so (IsCall (Key key.Repin ∷ [])) call.Repin c (refl, tt) e
plain_call_sound key.Flush c e = found_so (IsCall (Key key.Flush ∷ [])) call.Flush c (refl, tt) e
plain_call_sound key.Release c e = found_so (IsCall (Key key.Release ∷ [])) call.Release c (refl, tt) e
plain_call_sound key.Keys c e = found_so (IsCall (Key key.Keys ∷ [])) call.Keys c (refl, tt) e
plain_call_sound key.Empty c e = found_so (IsCall (Key key.Empty ∷ [])) call.Empty c (refl, tt) e
plain_call_sound key.Stats c e = found_so (IsCall (Key key.Stats ∷ [])) call.Stats c (refl, tt) e
plain_call_sound _ c e = absurd (cc)

key_call_sound : (k : Keyword) (a : ℕ) (c : LineCall) → a < 2 ^ 64 → key_call_of k a ≡ Some c → IsCall (Key k ∷ Number a ∷ []) c
key_call_sound key.Get a c h e = found_so (IsCall (Key key.Get ∷ Number a ∷ [])) (call.Get a) c (refl, h) e
key_call_sound key.Remove a c h e = found_so (IsCall (Key key.Remove ∷ Number a ∷ [])) (call.Remove a) c (refl, h) e
key_call_sound _ a c h e = absurd (cc)

pair_call_sound : (k : Keyword) (a b : ℕ) (c : LineCall) → a < 2 ^ 64 → b < 2 ^ 64 → pair_call_of k a b ≡ Some c → IsCall (Key k ∷ Number a ∷ Number b ∷ []) c
pair_call_sound key.Insert a b c h i e = found_so (IsCall (Key key.Insert ∷ Number a ∷ Number b ∷ [])) (call.Insert a b) c (refl, (h, i)) e
pair_call_sound key.OrInsert a b c h i e = found_so (IsCall (Key key.OrInsert ∷ Number a ∷ Number b ∷ [])) (call.OrInsert a b) c (refl, (h, i)) e
pair_call_sound _ a b c h i e = absurd (cc)

-- a test by order, as a fact
pub at_most_of_test : (n m : ℕ) → nat_le n m ≡ true → n ≤ m
at_most_of_test n m h = grind (arith, nat_tests)

scan_sound : (k : Keyword) (a b n : ℕ) (scan c : LineCall) → (n ≤ 10000 → IsCall (Key k ∷ Number a ∷ Number b ∷ Number n ∷ []) scan) → (if nat_le n 10000 then Some scan else None) ≡ Some c
    → IsCall (Key k ∷ Number a ∷ Number b ∷ Number n ∷ []) c
scan_sound k a b n scan c is e =
    let parts = passed (nat_le n 10000) scan c e in
    subst (IsCall (Key k ∷ Number a ∷ Number b ∷ Number n ∷ [])) parts.1 (is (at_most_of_test n 10000 parts.0))

triple_call_sound : (k : Keyword) (a b d : ℕ) (c : LineCall) → a < 2 ^ 64 → b < 2 ^ 64 → d < 2 ^ 64 → triple_call_of k a b d ≡ Some c
    → IsCall (Key k ∷ Number a ∷ Number b ∷ Number d ∷ []) c
triple_call_sound key.Cas a b d c h i j e = found_so (IsCall (Key key.Cas ∷ Number a ∷ Number b ∷ Number d ∷ [])) (call.Exchange a b d) c (refl, (h, i, j)) e
triple_call_sound key.Range a b d c h i j e = scan_sound key.Range a b d (call.Range a b d) c (λ l. (refl, (h, i, l))) e
triple_call_sound key.Through a b d c h i j e = scan_sound key.Through a b d (call.Through a b d) c (λ l. (refl, (h, i, l))) e
triple_call_sound _ a b d c h i j e = absurd (cc)

-- words that are parsed as a call are that call's, and its numbers are within their bounds
pub call_sound : (ws : List Word) (c : LineCall) → Small ws → call_of ws ≡ Some c → IsCall ws c
call_sound (Key k ∷ []) c s e = plain_call_sound k c e
call_sound (Key k ∷ Number a ∷ []) c s e = key_call_sound k a c s.0 e
call_sound (Key k ∷ Number a ∷ Number b ∷ []) c s e = pair_call_sound k a b c s.0 s.1.0 e
call_sound (Key k ∷ Number a ∷ Number b ∷ Number d ∷ []) c s e = triple_call_sound k a b d c s.0 s.1.0 s.1.1.0 e
call_sound (Key key.Present ∷ Number k ∷ Key key.Add ∷ Number n ∷ []) c s e =
    found_so (IsCall (Key key.Present ∷ Number k ∷ Key key.Add ∷ Number n ∷ [])) (call.PresentAdd k n) c (refl, (s.0, s.1.0)) e
call_sound (Key key.Present ∷ Number k ∷ Key key.Drop ∷ []) c s e =
    found_so (IsCall (Key key.Present ∷ Number k ∷ Key key.Drop ∷ [])) (call.PresentDrop k) c (refl, s.0) e
call_sound (Key key.Cas ∷ Number k ∷ Number old ∷ Key key.Drop ∷ []) c s e =
    found_so (IsCall (Key key.Cas ∷ Number k ∷ Number old ∷ Key key.Drop ∷ [])) (call.ExchangeDrop k old) c (refl, (s.0, s.1.0)) e
call_sound _ c s e = absurd (cc)
