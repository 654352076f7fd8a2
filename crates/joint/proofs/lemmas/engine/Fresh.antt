-- A root alone, with no call in flight, is intact.
use Rattle.std.proofs.Common.{◌≡◌, ◌≤◌, ℕ, zero, suc, arith, Bool, List, [], ◌∷◌, refl, sym, ◌∙◌, ap, subst, inr}
use Rattle.std.specs.Prelude.{Some, length, replicate, slice_get}
use Rattle.std.proofs.lemmas.List.{length-replicate}
use Rattle.crossbeam_epoch.specs.world.Machine.{place}
use Rattle.crossbeam_epoch.specs.world.Reach.{Quiet, moment}
use Rattle.congee.specs.declared.protocol.machine.Machine.{Machine}
use Rattle.congee.specs.declared.protocol.phase.Phase.TheVariants.{Ended}
use Rattle.congee.specs.protocol.Bounds.{Within}
use Rattle.congee.specs.protocol.Play.{IsIdle, Settled}
use Rattle.joint.specs.engine.Log.{no_log}
use Rattle.joint.specs.declared.engine.in_flight.InFlight.{InFlight}
use Rattle.joint.specs.declared.engine.in_flight.InFlight.TheVariants.{Idle}
use Rattle.joint.specs.declared.id.Id.{Id}
use Rattle.joint.specs.declared.limits.Limits.{Limits}
use Rattle.joint.specs.declared.nodes.slot.Slot.{Slot}
use Rattle.joint.specs.nodes.Nodes.{Nodes, nodes, IsCharged}
use Rattle.joint.specs.engine.Intact.{IsAt, IsIntact, resting}
use Rattle.joint.specs.engine.Laws.{CellLaws, CallLaws}
use Rattle.joint.specs.nodes.Slots.{slot_names}
use Rattle.joint.specs.nodes.Opening.{IsOpened, top}
use Rattle.joint.specs.engine.Engine.{IsFresh}
use Rattle.joint.specs.nodes.View.{view, id_number}
use Rattle.joint.proofs.lemmas.engine.Filing.{filed_opened}
use Rattle.joint.proofs.lemmas.engine.SoundOpening as open_it
use Rattle.joint.proofs.lemmas.nodes.SlotViews.{slot_view}

one_of : {A : Type 0} (n : ℕ) (x : A) (i : ℕ) (y : A) → slice_get (replicate n x) i ≡ Some y → x ≡ y
one_of zero x i y e = absurd (cc e)
one_of (suc n) x zero y e = let q : x ≡ y = cc in q
one_of (suc n) x (suc i) y e = one_of n x i y e

module _ {V : Type 0} (same : V → V → Bool) (always : Bool) (cells : CellLaws {T = Slot V} (Unit {0}) slot_names) (calls : CallLaws {C = Id} {V = V} id_number same always)
    (limits : Limits) (charge limit : ℕ) (s : Nodes V) (begin : IsOpened limits charge limit s) (charged : IsCharged s) where
  abbrev n : ℕ
  n = limits.epoch.participants

  abbrev ms : List (Machine Id V)
  ms = replicate n resting

  abbrev ks : List (InFlight V)
  ks = replicate n Idle

  over : (i : ℕ) (m : Machine Id V) → slice_get ms i ≡ Some m → m.phase ≡ Ended
  over i m at = ap (λ x. x.phase) (sym (one_of n resting i m at))

  idle : (i : ℕ) (m : Machine Id V) → slice_get ms i ≡ Some m → IsIdle id_number m
  idle i m at = let P : Machine Id V → Type 0 = λ x. IsIdle id_number x in subst P (one_of n resting i m at) (record { root = refl; key = omega arith; state = inr refl })

  settled : Settled id_number same always (nodes s) ms
  settled = calls.opens (nodes s) ms begin.fresh idle

  at_first : (i : ℕ) (k : InFlight V) (m : Machine Id V) → slice_get ks i ≡ Some k → slice_get ms i ≡ Some m → IsAt k (place s.collector i) m
  at_first i k m here at = let P : InFlight V → Type 0 = λ x. IsAt x (place s.collector i) m in subst P (one_of n Idle i k here) (begin.resting.idle i, over i m at)

  table : length s.collector.table ≡ n
  table = ap (λ x. length x.table) begin.collector_is ∙ length-replicate n _

  -- with every worker idle and no call begun the machine is intact
  pub intact : IsIntact same always s ms ks
  intact = record {
    safe = record {
      sound = record {
        top = top;
        past = moment slot_names Quiet s.collector ∷ [];
        sound = open_it.opened slot_names view slot_view id_number same always cells calls top s.collector ms begin.resting.orderly begin.rooted settled begin.told.fits begin.told.table (ap (λ x. x.next) begin.collector_is) over;
      };
      within = subst (λ (k : ℕ). Within k (nodes s)) (sym begin.versions) begin.within;
    };
    machines = length-replicate n resting ∙ sym (length-replicate n Idle);
    table = table ∙ sym (length-replicate n Idle);
    few = (let P : ℕ → Type 0 = λ k. k ≤ 256 in subst P (sym (length-replicate {A = InFlight V} n Idle)) begin.allowed.participants);
    filed = filed_opened cells limits charge limit s begin;
    each = at_first;
  }

  -- it is a root alone with no call in flight
  pub fresh : IsFresh (record { forest = s; machines = ms; calls = ks; log = no_log })
  fresh = record { alone = begin.fresh.alone; idle = λ i k at. sym (one_of n Idle i k at) }
