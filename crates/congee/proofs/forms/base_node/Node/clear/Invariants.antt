use Rattle.std.proofs.Common.{◌≡◌, ◌-◌, ℕ, ◌<◌, None}
use Rattle.std.specs.FinMap as map
use Rattle.congee.specs.forms.Forms.{form_of, prefix_of, children_of}
use Rattle.congee.proofs.forms.base_node.Node.clear.Given as goal

abbrev pub invariant-loop-byte : goal.invariant-loop-byte
invariant-loop-byte g l = record {
  form : form_of l.self ≡ form_of l.fn.self;
  prefix : prefix_of l.self ≡ prefix_of l.fn.self;
  gone : (q : ℕ) → q < l.next → map.get (children_of l.self) q ≡ None;
}

abbrev pub decreases-loop-byte : goal.decreases-loop-byte
decreases-loop-byte g l = 256 - l.next
