use Rattle.std.proofs.Common.{◌≡◌, ℕ, ◌<◌, ◌≤◌, Bool, false, true, if◌then◌else◌, ap, sym, refl, ◌∙◌, arith, inl, inr, ◌-◌, ◌*◌, ◌+◌}
use Rattle.optimistic.specs.Layout.{entries, is_link, leaf_of, room}
use Rattle.optimistic.specs.declared.moves.Item.{Item}
use Rattle.optimistic.specs.Moves.{IsItem}
use Rattle.optimistic.specs.forms.Children.{is_inner, byte_in, taken_in, first_word, last_word, put_first, first_of, second_of, IsForm}
use Rattle.optimistic.proofs.lemmas.drain.Leasts.{item_first, item_second}
use Rattle.optimistic.proofs.lemmas.forms.ChildLemmas.{either}
use Rattle.optimistic.proofs.lemmas.MoveLemmas.{link_first}
use Rattle.optimistic.proofs.lemmas.tree.Nodes.{clash}
use Rattle.optimistic.proofs.lemmas.tree.Reading.{looks_trans, agrees_from, agrees_to}
use Rattle.optimistic.proofs.tree.get.Tree.entry.Goals as goal

-- what a place has, by the words that were read
has_entry : (form : ℕ) (f : ℕ → ℕ) (place first second : ℕ) → IsForm form f → place < room form → taken_in form f place ≡ 1 → (is_inner form ≡ true → f (first_word form place) ≡ first) → f (last_word form place) ≡ second → (k : ℕ)
    → (first_of form f k (byte_in form f place) ≡ put_first form first k) × (second_of form f k (byte_in form f place) ≡ second)
has_entry form f place first second is inside taken one two k =
    let e : Item = record { byte = byte_in form f place; first = f (first_word form place); last = second } in
    let item : IsItem form f place e = (taken, refl, refl, two) in (
      item_first form f is place e inside item k ∙ elim (either (is_inner form)) [
        | inl b ↦ ap (λ (z : ℕ). put_first form z k) (one b)
        | inr b ↦ ap (λ (c : Bool). if c then f (first_word form place) else leaf_of k) b ∙ sym (ap (λ (c : Bool). if c then first else leaf_of k) b)
      ],
      item_second form f is place e inside item k,
    )

high_values : (form : ℕ) → 4 < form → is_inner form ≡ false
high_values form high = grind (arith, high)

low_inner : (form : ℕ) → form ≤ 4 → is_inner form ≡ true
low_inner form low = grind (arith, low)

-- the first word of a child stands before its second
first_before : (form place last : ℕ) → is_inner form ≡ true → last ≡ last_word form place → last - 1 ≡ first_word form place
first_before form place last inner is =
    let a : last_word form place ≡ entries form + (2 * place + 1) = ap (λ (c : Bool). entries form + (if c then 2 * place + 1 else place)) inner in
    let b : first_word form place ≡ entries form + 2 * place = ap (λ (c : Bool). entries form + (if c then 2 * place else place)) inner in
    omega (arith, is, a, b)

pub returns-then-at-gt4-clause-found : goal.returns-then-at-gt4-clause-found
returns-then-at-gt4-clause-found c f ag is taken k =
    let values = high_values c.args.at.form c.if-at-gt4.true in
    has_entry c.args.at.form f c.args.place 9 c.read-second.result is c.requires.inside taken (λ b. absurd (clash (is_inner c.args.at.form) b values)) (ap f (sym c.last_at-last.ensures.word) ∙ c.read-second.ensures.steady f ag) k

pub returns-clause-looks : goal.returns-clause-looks
returns-clause-looks c = looks_trans _ _ _ c.read-second.ensures.looks c.read-first.ensures.looks

pub returns-clause-tells : goal.returns-clause-tells
returns-clause-tells c =
    let inner = low_inner c.args.at.form c.if-at-gt4.false in
    c.read-first.ensures.tells (ap (is_link c.args.at.form) (first_before c.args.at.form c.args.place c.last_at-last.result inner c.last_at-last.ensures.word) ∙ link_first c.args.at.form c.args.place c.requires.inside inner)

pub returns-clause-found : goal.returns-clause-found
returns-clause-found c f ag is taken k =
    let v = c.args.hand.now.me.0 in
    let u = c.read-second.new.hand.me.0 in
    let w = c.read-first.new.hand.me.0 in
    has_entry c.args.at.form f c.args.place c.read-first.result c.read-second.result is c.requires.inside taken
    (λ b. ap f (sym (first_before c.args.at.form c.args.place c.last_at-last.result b c.last_at-last.ensures.word)) ∙ c.read-first.ensures.steady f (agrees_from c.args.at.node c.args.at.form v u w f ag c.read-second.ensures.looks))
    (ap f (sym c.last_at-last.ensures.word) ∙ c.read-second.ensures.steady f (agrees_to c.args.at.node c.args.at.form v u w f ag c.read-first.ensures.looks.since)) k
