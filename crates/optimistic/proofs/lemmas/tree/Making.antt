-- A node that is taken beside two that a hand has.
use Rattle.std.proofs.Common.{◌≡◌, ◌≢◌, ℕ, ◌<◌, List, sym, ap, ◌∙◌, subst, refl}
use Rattle.optimistic.specs.Layout.{width}
use Rattle.optimistic.specs.declared.tree.fresh.Fresh.{Fresh}
use Rattle.optimistic.specs.declared.tree.locked.Locked.{Locked}
use Rattle.optimistic.specs.declared.tree.write.Write.{Write}
use Rattle.optimistic.specs.declared.words.rule.Tenure.{Tenure}
use Rattle.optimistic.specs.declared.words.rule.View.{View}
use Rattle.optimistic.specs.words.Kept.{has}
use Rattle.optimistic.specs.forms.Children.{is_inner}
use Rattle.optimistic.specs.tree.Exchanges.{IsLocked, IsReady}
use Rattle.optimistic.specs.tree.Fresh.{IsMade}
use Rattle.optimistic.proofs.lemmas.tree.Nodes.{clash}
use Rattle.optimistic.proofs.lemmas.tree.Holding.{locked_same, taken_mine}

locked_made : (l : Locked) (form : ℕ) (r : Fresh) (v w : View) → IsMade r form v w → IsLocked l v → IsLocked l w
locked_made l form r v w t h =
    let k = t.held l.at.node h.held.mine in
    locked_same l v w t.since (ap (λ (m : List Tenure). has m l.at.node) t.mine ∙ taken_mine r.node l.at.node v.mine h.held.mine) k.0 k.1 h

other_made : (l : Locked) (form : ℕ) (r : Fresh) (v w : View) → IsMade r form v w → IsLocked l v → l.at.node ≢ r.node
other_made l form r v w t h q = clash (has v.mine l.at.node) h.held.mine (ap (λ (z : ℕ). has v.mine z) q ∙ t.apart)

pub ready_made : (above old : Locked) (form : ℕ) (write : Write) (r : Fresh) (v w : View) → IsLocked above v → IsLocked old v → above.at.node ≢ old.at.node → 0 < form → form < 9 → is_inner form ≡ is_inner old.at.form → IsMade r form v w
    → IsReady (record { above = above; old = old; new = record { at = record { node = r.node; form = form; level = old.at.level }; version = r.version }; write = write }) w
ready_made above old form write r v w a n an some low kind t = record {
  above = locked_made above form r v w t a;
  old = locked_made old form r v w t n;
  new = record {
    held = record { place = record { at = t.at; some = some; form = low; level = n.held.place.level }; mine = t.drafted.0; version = t.drafted.1; bounded = t.ends };
    settled = λ j s l. t.drafted.2 j s (subst (λ (z : ℕ). j < width z) (sym t.at.is) l);
  };
  an = an;
  am = other_made above form r v w t a;
  nm = other_made old form r v w t n;
  kind = kind;
  level = refl;
  blank = t.blank;
}
