-- What a writer shows that writes a key's leaf at a node that it has.
use Rattle.std.proofs.Common.{◌≡◌, ℕ, ◌<◌, ◌⊎◌, true, List, [], ◌∷◌, ◌++◌, sym, refl, ap, ◌∙◌, subst, inl, inr, ⊎_elim, arith, Option, None, Some}
use Rattle.optimistic.specs.Layout.{width, room, leaf_of, byte_at, where_of}
use Rattle.optimistic.specs.declared.words.rule.Entry.{Entry}
use Rattle.optimistic.specs.declared.words.rule.Tenure.{Tenure}
use Rattle.optimistic.specs.declared.words.rule.View.{View}
use Rattle.optimistic.specs.words.Calls.{entry_of}
use Rattle.optimistic.specs.words.Kept.{word_at, size, calm_at, has}
use Rattle.optimistic.specs.words.Told.{HasForm, IsDrafted, Looks, MayUnlock}
use Rattle.optimistic.specs.forms.Children.{is_inner, first_of, IsForm, Becomes, put_first}
use Rattle.optimistic.specs.tree.Levels.{form_of, pair_value}
use Rattle.optimistic.specs.tree.Takes.{HasWritten}
use Rattle.optimistic.specs.tree.Trees.{IsTree}
use Rattle.optimistic.specs.tree.Writes.{KeepsBut, write_note}
use Rattle.optimistic.proofs.lemmas.words.Moments.{version_word, width_more}
use Rattle.optimistic.proofs.lemmas.forms.FormLemmas.{first_like, form_like}
use Rattle.optimistic.proofs.lemmas.forms.Levels.{where_form}
use Rattle.optimistic.proofs.lemmas.tree.Reading.{where_some, none_value}
use Rattle.optimistic.proofs.lemmas.tree.Puts.{put_tree, leaf_value}

inside : (n form j : ℕ) (v : View) → HasForm n form v → j < width form → j < size v.seen.plots n
inside n form j v at low = subst (λ (z : ℕ). j < width z) (sym at.is) low

-- a node that is as it was settled is so after a look
pub looks_drafted : (n form ver : ℕ) (v w : View) → HasForm n form v → 0 < width form → HasForm n form w → IsDrafted n ver v → Looks IsTree v w → IsDrafted n ver w
looks_drafted n form ver v w at some at' d t = let f = t.held n d.0 in (
  ap (λ (l : List Tenure). has l n) t.mine ∙ d.0,
  version_word w.seen.words n ∙ (f.0 0 (inside n form 0 v at some) ∙ (sym (version_word v.seen.words n) ∙ d.1)),
  λ j l l'. let lv : j < size v.seen.plots n = inside n form j v at (subst (λ (z : ℕ). j < width z) at'.is l') in f.0 j lv ∙ (d.2 j l lv ∙ sym (f.1 j)),
)

-- its words are those of its form
pub drafted_shape : (n form level key ver : ℕ) (u r : View) → 0 < form → form < 9 → level < 8 → 0 < room form → HasForm n form u → IsDrafted n ver u → Looks IsTree u r → word_at u.seen.words n 1 ≡ where_of form level key → IsForm form (word_at u.seen.words n)
drafted_shape n form level key ver u r some low deep roomy at d t is =
    let calm : (j : ℕ) → 0 < j → j < width form → calm_at r.seen.calm n j ≡ word_at u.seen.words n j = λ j l l'. (t.held n d.0).1 j ∙ sym (d.2 j l (inside n form j u at l')) in
    let more = width_more form some low in
    let place : calm_at r.seen.calm n 1 ≡ where_of form level key = calm 1 (omega arith) (omega arith) ∙ is in
    let f : form_of (calm_at r.seen.calm n 1) ≡ form = ap form_of place ∙ where_form form level key deep (omega arith) in
    let shape : IsForm form (calm_at r.seen.calm n) = subst (λ (z : ℕ). IsForm z (calm_at r.seen.calm n)) f (t.sound.means.forms n (λ (z : calm_at r.seen.calm n 1 ≡ 0). where_some form level key some low deep (sym place ∙ z))) in
    form_like form (calm_at r.seen.calm n) (word_at u.seen.words n) (λ j l l'. sym (calm j (omega arith) l')) roomy shape

-- and after a look too
pub shape_later : (n form : ℕ) (u v : View) → 0 < room form → HasForm n form u → has u.mine n ≡ true → Looks IsTree u v → IsForm form (word_at u.seen.words n) → IsForm form (word_at v.seen.words n)
shape_later n form u v roomy at own t s = form_like form (word_at u.seen.words n) (word_at v.seen.words n) (λ j l l'. (t.held n own).0 j (inside n form j u at l')) roomy s

-- the node may be let go after a key was written there
pub may_write : (n form level key ver : ℕ) (x : ℕ → ℕ) (y : ℕ) (value : Option ℕ) (u v z : View) → 0 < form → form < 9 → level < 8 → 0 < room form → HasForm n form u → HasForm n form v → HasForm n form z → IsDrafted n ver u → Looks IsTree u v → word_at u.seen.words n 1 ≡ where_of form level key
    → (first_of form (word_at u.seen.words n) key (byte_at key level) ≡ 0) ⊎ (first_of form (word_at u.seen.words n) key (byte_at key level) ≡ leaf_of key) → KeepsBut n v z → Becomes form (word_at v.seen.words n) (word_at z.seen.words n) (byte_at key level) x y
    → word_at z.seen.words n 1 ≡ word_at v.seen.words n 1 → (x key ≡ 0) ⊎ (x key ≡ leaf_of key) → pair_value (x key) y key ≡ value → (is_inner form ≡ true) ⊎ (level ≡ 7) → MayUnlock IsTree n (write_note key value) z
may_write n form level key ver x y value u v z some low deep roomy at at_v at_z draft looks is place keeps becomes covers leaf says inner b since held sound =
    let own_u = draft.0 in let own_v : has v.mine n ≡ true = ap (λ (l : List Tenure). has l n) looks.mine ∙ own_u in let own_z = keeps.has_it n own_v in
    let more = width_more form some low in
    let v_words : (j : ℕ) → j < width form → word_at v.seen.words n j ≡ word_at u.seen.words n j = λ j l. (looks.held n own_u).0 j (inside n form j u at l) in
    let calm : (j : ℕ) → 0 < j → j < width form → calm_at b.calm n j ≡ word_at v.seen.words n j = λ j l l'.
    (held n own_z).1 j ∙ (keeps.calm n own_v j ∙ ((looks.held n own_u).1 j ∙ (sym (draft.2 j l (inside n form j u at l')) ∙ sym (v_words j l')))) in
    let now : (j : ℕ) → j < width form → word_at b.words n j ≡ word_at z.seen.words n j = λ j l. (held n own_z).0 j (inside n form j z at_z l) in
    let where_v : word_at v.seen.words n 1 ≡ where_of form level key = v_words 1 (omega arith) ∙ is in
    let first : first_of form (word_at v.seen.words n) key (byte_at key level) ≡ first_of form (word_at u.seen.words n) key (byte_at key level) =
    first_like form (word_at u.seen.words n) (word_at v.seen.words n) (λ j _ l. v_words j l) key (byte_at key level) in
    let e : Entry = entry_of z.by key value in
    put_tree b.calm b.words b.log (b.log ++ e ∷ []) n form level key x y value e (word_at v.seen.words n) (word_at z.seen.words n) some low deep roomy refl refl refl
    (λ j l l'. calm j (omega arith) l') (λ j _ l'. now j l') (calm 1 (omega arith) (omega arith) ∙ where_v) (now 1 (omega arith) ∙ (covers ∙ where_v)) becomes
    (⊎_elim (λ q. inl (first ∙ q)) (λ q. inr (first ∙ q)) place) leaf says inner sound.means

-- as its leaf was written, or taken away
pub may_leaf : (n form level key ver leaf : ℕ) (value : Option ℕ) (u v z : View) → 0 < form → form < 9 → level < 8 → 0 < room form → HasForm n form u → HasForm n form v → HasForm n form z → IsDrafted n ver u → Looks IsTree u v → word_at u.seen.words n 1 ≡ where_of form level key
    → (first_of form (word_at u.seen.words n) key (byte_at key level) ≡ 0) ⊎ (first_of form (word_at u.seen.words n) key (byte_at key level) ≡ leaf_of key) → HasWritten n form (byte_at key level) leaf value v z → put_first form leaf key ≡ leaf_of key
    → (is_inner form ≡ true) ⊎ (level ≡ 7) → MayUnlock IsTree n (write_note key value) z
may_leaf n form level key ver leaf (Some y) u v z some low deep roomy at at_v at_z draft looks is place done put inner =
    may_write n form level key ver (put_first form leaf) y (Some y) u v z some low deep roomy at at_v at_z draft looks is place done.keeps done.put done.covers (inr put) (ap (λ (q : ℕ). pair_value q y key) put ∙ leaf_value y key) inner
may_leaf n form level key ver leaf None u v z some low deep roomy at at_v at_z draft looks is place done put inner =
    may_write n form level key ver (λ k. 0) 0 None u v z some low deep roomy at at_v at_z draft looks is place done.keeps done.took done.covers (inl refl) (none_value 0 key) inner

pub written_keeps : (n form byte leaf : ℕ) (value : Option ℕ) (v w : View) → HasWritten n form byte leaf value v w → KeepsBut n v w
written_keeps n form byte leaf (Some y) v w done = done.keeps
written_keeps n form byte leaf None v w done = done.keeps
