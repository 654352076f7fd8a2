-- A script line by line, beside the map: what it does to the tree, and how it is replied to.
use Rattle.std.proofs.Common.{◌≡◌, ◌⊎◌, ℕ, zero, suc, nat_eq, Bool, true, false, List, [], ◌∷◌, ◌++◌, length, take, Option, None, Some, Result, Ok, Err, refl, sym, ◌∙◌, ap, subst, inl, inr, if◌then◌else◌}
use Rattle.std.specs.Prelude.{MatchOption, slice_set}
use Rattle.std.specs.FinMap.{get, empty}
use Rattle.std.specs.List.{AllByRecursion, flat_map}
use Rattle.std.specs.Option.{option_map}
use Rattle.std.proofs.lemmas.List.{length-set, length-replicate}
use Rattle.judge.specs.Answer.{Pairs, answer}
use Rattle.judge.specs.declared.journal.Call.{Call as Point}
use Rattle.judge.specs.declared.journal.Call.TheVariants as point
use Rattle.congee.specs.declared.protocol.op.Op.TheVariants as asked
use Rattle.joint.specs.declared.limits.Limits.{Limits}
use Rattle.joint.specs.declared.refusal.Refusal.{Refusal}
use Rattle.joint.specs.declared.steps.Op.{Op}
use Rattle.joint.specs.declared.steps.Op.TheVariants as op
use Rattle.joint.specs.declared.steps.Done.TheVariants as done
use Rattle.joint.specs.declared.steps.Outcome.{Outcome}
use Rattle.joint.specs.declared.steps.Outcome.TheVariants as outcome
use Rattle.joint.specs.declared.steps.Survey.{Survey}
use Rattle.joint.specs.declared.steps.Survey.TheVariants as survey
use Rattle.joint.specs.declared.steps.Target.TheVariants as target
use Rattle.joint.specs.calls.MapCalls.{Answered as Last, IsPresent, IsComputed}
use Rattle.joint.specs.Reports.{target, is_in_flight}
use Rattle.joint.specs.engine.Flying.{no_flights}
use Rattle.joint.specs.engine.Engine.{World}
use Rattle.trial.specs.declared.caller.Caller.{Caller}
use Rattle.trial.specs.declared.caller.Closure.{Closure}
use Rattle.trial.specs.declared.caller.Closure.TheVariants as closure
use Rattle.trial.specs.declared.command.LineCall.{LineCall}
use Rattle.trial.specs.declared.command.LineCall.TheVariants as call
use Rattle.trial.specs.declared.command.Command.{Command}
use Rattle.trial.specs.declared.command.Command.TheVariants as command
use Rattle.trial.specs.declared.end.End.{End}
use Rattle.trial.specs.declared.end.End.TheVariants as end
use Rattle.trial.specs.declared.open_tree.OpenTree.{OpenTree}
use Rattle.trial.specs.declared.line.Line.{Line}
use Rattle.trial.specs.declared.line.Line.TheVariants as line
use Rattle.trial.specs.declared.reply.Refused.{Refused}
use Rattle.trial.specs.declared.reply.Refused.TheVariants as refused
use Rattle.trial.specs.declared.reply.Reply.{Reply}
use Rattle.trial.specs.declared.reply.Reply.TheVariants as reply
use Rattle.trial.specs.Callers.{answer_of, fresh}
use Rattle.trial.specs.Calling.{Registers, Begins, GoesOn, stays, ends, goes, Calls}
use Rattle.trial.specs.Line.{IsLine}
use Rattle.trial.specs.MapReplies.{wrapped, or_wrapped, answer_to, map_after, with_reply, map_replies, is_on_keys, key_replies, IsWhole, IsAnswer, AreCommands, MapAnswers}
use Rattle.trial.specs.Replies.{reply_to, reply_of}
use Rattle.trial.specs.Going.{Ran}
use Rattle.trial.specs.Script.{LineDoes, LinesAnswer, AreAnswered, Prints}
use Rattle.trial.specs.Places.{places_at, given, left}
use Rattle.trial.specs.Session.{Session, op_of, closure_of, refusal_of, AfterPin, Round, Rounds, GaveAway, Replies, CallReplies, Asks, limits_of, budget_of, Opens, Opened, OpensWith, Closed, StaysOpen, Answers}
use Rattle.trial.specs.Texts.{printed}
use Rattle.trial.proofs.MapSteps.{MapLaws, Rests, rests_after}
use Rattle.trial.proofs.WholeCalls.{ByClosure, Finished, call_finishes, filled_length, rests_beside}
use Rattle.trial.proofs.Surveys.{Surveyed, survey_finishes, keys_reply, empty_reply}
use Rattle.trial.proofs.WholeScans.{scan_finishes}

-- a tree with these pairs, no call of which is in flight
abbrev pub At : OpenTree → Pairs ℕ → Type 0
At s m = Rests s.world m × (length s.callers.items ≡ 256) × (length s.scans.items ≡ 256)

as_long : {A : Type 0} (b : Bool) (xs : List A) (i : ℕ) (x : A) → length xs ≡ 256 → length (if b then slice_set xs i x else xs) ≡ 256
as_long true xs i x e = length-set xs i x ∙ e
as_long false xs i x e = e

-- a registration leaves the map
registers_at : MapLaws → (s s' : OpenTree) (told : Outcome ℕ) (m : Pairs ℕ) → At s m → Registers s told s' → At s' m
registers_at laws s s' told m b g =
    (rests_after m s.world s'.world b.0 g.0.1.holds (laws.registers s.world 0 g.0.0 s'.world b.0.flights m b.0.holds g.0.1 b.0.stand b.0.in_flight), ap (λ (x : _). length x.items) g.1 ∙ b.1, ap (λ (x : _). length x.items) g.2 ∙ b.2)

-- as many scans as before
begun_scans : (w : ℕ) (o : Op ℕ) (f : Option Closure) (s s' : OpenTree) (told : Outcome ℕ) → length s.scans.items ≡ 256 → Begins s w o f told s' → length s'.scans.items ≡ 256
begun_scans w o f s s' told e g = ap length g.2 ∙ as_long (is_in_flight told) s.scans.items w [] e

gone_on_scans : (w left : ℕ) (s : OpenTree) (stands told : Outcome ℕ) (s' : OpenTree) → GoesOn w left s stands told s' → length s.scans.items ≡ 256 → length s'.scans.items ≡ 256
gone_on_scans w left s stands told s' (stays s1 t1) e = e
gone_on_scans w left s stands told s' (ends n s1 t1 x) e = e
gone_on_scans w left s stands told s' (goes n s1 mid s2 st next t1 run step more) e =
    gone_on_scans w n mid next told s' more (ap length step.2 ∙ filled_length s1.scans.items w next ∙ e)

called_scans : (w : ℕ) (o : Op ℕ) (f : Option Closure) (s s' : OpenTree) (told : Outcome ℕ) → length s.scans.items ≡ 256 → Calls s w o f told s' → length s'.scans.items ≡ 256
called_scans w o f s s' told e g = gone_on_scans w 9999 g.0 g.1 told s' g.3 (begun_scans w o f s g.0 g.1 e g.2)

-- and as many callers
gone_on_callers : (w left : ℕ) (s : OpenTree) (stands told : Outcome ℕ) (s' : OpenTree) → GoesOn w left s stands told s' → length s.callers.items ≡ 256 → length s'.callers.items ≡ 256
gone_on_callers w left s stands told s' (stays s1 t1) e = e
gone_on_callers w left s stands told s' (ends n s1 t1 x) e = e
gone_on_callers w left s stands told s' (goes n s1 mid s2 st next t1 run step more) e =
    gone_on_callers w n mid next told s' more (ap length step.1 ∙ length-set s1.callers.items w _ ∙ e)

called_callers : (w : ℕ) (o : Op ℕ) (f : Option Closure) (s s' : OpenTree) (told : Outcome ℕ) → length s.callers.items ≡ 256 → Calls s w o f told s' → length s'.callers.items ≡ 256
called_callers w o f s s' told e g = gone_on_callers w 9999 g.0 g.1 told s' g.3 (ap length g.2.1 ∙ as_long (is_in_flight g.1) s.callers.items w (fresh f) e)

calls_at : MapLaws → (w : ℕ) (o : Op ℕ) (t : _) (f : Option Closure) (s s' : OpenTree) (told : Outcome ℕ) (m : Pairs ℕ) → target o ≡ target.Collector t → At s m → Calls s w o f told s' → At s' m
calls_at laws w o t f s s' told m e b g = (rests_beside laws w o t f m s s' told e b.0 g, called_callers w o f s s' told b.1 g, called_scans w o f s s' told b.2 g)

after_pin_at : MapLaws → (w : ℕ) (s s' : OpenTree) (pin first : Option Refusal) (m : Pairs ℕ) → At s m → AfterPin pin s w s' first → At s' m
after_pin_at laws w s s' (Some r) first m b g = let P : OpenTree → Type 0 = λ x. At x m in subst P (sym g.0) b
after_pin_at laws w s s' None first m b g =
    calls_at laws w op.Unpin _ None g.0 s' g.2 m refl (calls_at laws w op.Flush _ None s g.0 g.1 m refl b g.3) g.4

round_at : MapLaws → (w : ℕ) (s s' : OpenTree) (first : Option Refusal) (m : Pairs ℕ) → At s m → Round s w s' first → At s' m
round_at laws w s s' first m b g = after_pin_at laws w g.0 s' (refusal_of g.1) first m (calls_at laws w op.Pin _ None s g.0 g.1 m refl b g.2) g.3

after_round_at : (s s' : OpenTree) (first : Option Refusal) (r : Reply) (m : Pairs ℕ) (More : Type 0) → At s m → (More → At s' m)
    → MatchOption first More (λ e. (s' ≡ s) × (r ≡ reply.Refused (refused.Tree e))) → At s' m
after_round_at s s' None r m More b more g = more g
after_round_at s s' (Some e) r m More b more g = let P : OpenTree → Type 0 = λ x. At x m in subst P (sym g.0) b

rounds_at : MapLaws → (w k : ℕ) (s s' : OpenTree) (r : Reply) (m : Pairs ℕ) → At s m → Rounds k s w s' r → At s' m
rounds_at laws w zero s s' r m b g = let P : OpenTree → Type 0 = λ x. At x m in subst P (sym g.0) b
rounds_at laws w (suc k) s s' r m b g =
    let mid = round_at laws w s g.0 g.1 m b g.2 in
    after_round_at g.0 s' g.1 r m (Rounds k g.0 w s' r) mid (λ x. rounds_at laws w k g.0 s' r m mid x) g.3

-- the call that a line's is, with its closure's answer
adds_at : (k n : ℕ) (found : Option ℕ) (last : Last ℕ) (c : Point ℕ) → ByClosure (Some (closure.Add n)) last → IsPresent k found last c → c ≡ point.ComputePresent k (option_map (wrapped n) found)
adds_at k n None last c b is = is
adds_at k n (Some x) last c b is =
    let P : Last ℕ → Type 0 = λ y. ByClosure (Some (closure.Add n)) y in
    is.2 ∙ ap (point.ComputePresent k) (subst P is.1 b)

drops_at : (k : ℕ) (found : Option ℕ) (last : Last ℕ) (c : Point ℕ) → ByClosure (Some closure.Drop) last → IsPresent k found last c → c ≡ point.ComputePresent k None
drops_at k None last c b is = is
drops_at k (Some x) last c b is =
    let P : Last ℕ → Type 0 = λ y. ByClosure (Some closure.Drop) y in
    is.2 ∙ ap (point.ComputePresent k) (subst P is.1 b)

put_is : (n v : ℕ) (found : Option ℕ) → Some v ≡ answer_of (closure.Put n) found → v ≡ or_wrapped n found
put_is n v None e = cc e
put_is n v (Some x) e = cc e

puts_at : (k n : ℕ) (found : Option ℕ) (last : Last ℕ) (c : Point ℕ) → ByClosure (Some (closure.Put n)) last → IsComputed k found last c → c ≡ point.ComputeInsert k (or_wrapped n found)
puts_at k n found last c b is =
    let P : Last ℕ → Type 0 = λ y. ByClosure (Some (closure.Put n)) y in
    is.2 ∙ ap (point.ComputeInsert k) (put_is n is.0 found (subst P is.1 b))

-- what a call gives its reply leaves the rest
left_length : (stands : Outcome ℕ) (w : ℕ) (scans : List (List (ℕ × ℕ))) → length (left stands w scans) ≡ length scans
left_length outcome.Running w scans = refl
left_length (outcome.Asks found) w scans = refl
left_length (outcome.Found place key value) w scans = refl
left_length (outcome.Registered who) w scans = refl
left_length (outcome.Done done.Unit) w scans = refl
left_length (outcome.Done (done.Reply r)) w scans = refl
left_length (outcome.Done (done.Scanned count)) w scans = length-set scans w []
left_length (outcome.Done (done.Keys keys)) w scans = refl
left_length (outcome.Done (done.Empty b)) w scans = refl
left_length (outcome.Done (done.Stats stats)) w scans = refl
left_length (outcome.Refused r) w scans = refl

replied_at : (w : ℕ) (s s' : OpenTree) (stands : Outcome ℕ) (m : Pairs ℕ) → At s m → GaveAway s w stands s' → At s' m
replied_at w s s' stands m b g =
    let P : World ℕ → Type 0 = λ x. Rests x m in
    (subst P (sym g.world) b.0, ap (λ (x : _). length x.items) g.callers ∙ b.1, ap length g.scans ∙ left_length stands w s.scans.items ∙ b.2)

-- a reply that is the map's, where the map has one
abbrev pub Agrees : Bool → Option (Reply × Pairs ℕ) → Reply → Type 0
Agrees true None r = ⊥
Agrees true (Some told) r = r ≡ told.0
Agrees false None r = Unit {0}
Agrees false (Some told) r = ⊥

agreed : (b : Bool) (o : Option (Reply × Pairs ℕ)) (r : Reply) (rs : List Reply) → Agrees b o r → (if b then r ∷ rs else rs) ≡ with_reply o rs
agreed true None r rs a = absurd a
agreed true (Some told) r rs a = ap (λ x. x ∷ rs) a
agreed false None r rs a = refl
agreed false (Some told) r rs a = absurd a

-- the tree and the reply after a call on one key
finished : (w : ℕ) (o : Op ℕ) (f : Option Closure) (m : Pairs ℕ) (p : Point ℕ) (s mid s' : OpenTree) (stands : Outcome ℕ) (r : Reply) → At s m → Calls s w o f stands mid → Replies mid w stands s' r
    → Finished m p mid (reply_of (given stands (places_at mid.scans.items w)) stands) → At s' (answer nat_eq m p).1 × (r ≡ reply_to (answer nat_eq m p).0)
finished w o f m p s mid s' stands r b g told e =
    (replied_at w mid s' stands (answer nat_eq m p).1 (e.rests, called_callers w o f s mid stands b.1 g, called_scans w o f s mid stands b.2 g) told.0, told.1 ∙ e.reply)

-- the tree after a call of one step
surveyed_at : (w : ℕ) (k : Survey) (o : Op ℕ) (s mid s' : OpenTree) (stands : Outcome ℕ) (m : Pairs ℕ) → At s m → Calls s w o None stands mid → Surveyed m k mid stands → GaveAway mid w stands s' → At s' m
surveyed_at w k o s mid s' stands m b c x g = replied_at w mid s' stands m (x.rests, called_callers w o None s mid stands b.1 c, called_scans w o None s mid stands b.2 c) g

told_answer : (r told : Reply) → r ≡ told → IsAnswer r → IsAnswer told
told_answer r told e a = subst IsAnswer e a

call_at : MapLaws → (w : ℕ) (c : LineCall) (s s' : OpenTree) (r : Reply) (m : Pairs ℕ) → At s m → CallReplies (op_of c) (closure_of c) s w s' r → IsAnswer r
    → At s' (map_after m (command.Call w c)) × Agrees (is_on_keys (command.Call w c)) (answer_to m (command.Call w c)) r
call_at laws w (call.Get k) s s' r m b g a =
    finished w (op.Get k) None m (point.Get k) s g.1 s' g.0 r b g.2 g.3
    (call_finishes laws w (op.Get k) (asked.Get k) None m (point.Get k) s g.1 g.0 _ refl tt (λ last c x is. is) b.0 g.2 (told_answer r _ g.3.1 a))
call_at laws w (call.Remove k) s s' r m b g a =
    finished w (op.Remove k) None m (point.Remove k) s g.1 s' g.0 r b g.2 g.3
    (call_finishes laws w (op.Remove k) (asked.Remove k) None m (point.Remove k) s g.1 g.0 _ refl tt (λ last c x is. is) b.0 g.2 (told_answer r _ g.3.1 a))
call_at laws w (call.Insert k v) s s' r m b g a =
    finished w (op.Insert k v) None m (point.Insert k v) s g.1 s' g.0 r b g.2 g.3
    (call_finishes laws w (op.Insert k v) (asked.Insert k v) None m (point.Insert k v) s g.1 g.0 _ refl tt (λ last c x is. is) b.0 g.2 (told_answer r _ g.3.1 a))
call_at laws w (call.PresentAdd k n) s s' r m b g a =
    finished w (op.ComputePresent k) (Some (closure.Add n)) m (point.ComputePresent k (option_map (wrapped n) (get m k))) s g.1 s' g.0 r b g.2 g.3
    (call_finishes laws w (op.ComputePresent k) (asked.ComputePresent k) (Some (closure.Add n)) m (point.ComputePresent k (option_map (wrapped n) (get m k))) s g.1 g.0 _ refl tt (λ last c x is. adds_at k n (get m k) last c x is) b.0 g.2 (told_answer r _ g.3.1 a))
call_at laws w (call.PresentDrop k) s s' r m b g a =
    finished w (op.ComputePresent k) (Some closure.Drop) m (point.ComputePresent k None) s g.1 s' g.0 r b g.2 g.3
    (call_finishes laws w (op.ComputePresent k) (asked.ComputePresent k) (Some closure.Drop) m (point.ComputePresent k None) s g.1 g.0 _ refl tt (λ last c x is. drops_at k (get m k) last c x is) b.0 g.2 (told_answer r _ g.3.1 a))
call_at laws w (call.OrInsert k n) s s' r m b g a =
    finished w (op.ComputeInsert k) (Some (closure.Put n)) m (point.ComputeInsert k (or_wrapped n (get m k))) s g.1 s' g.0 r b g.2 g.3
    (call_finishes laws w (op.ComputeInsert k) (asked.ComputeInsert k) (Some (closure.Put n)) m (point.ComputeInsert k (or_wrapped n (get m k))) s g.1 g.0 _ refl tt (λ last c x is. puts_at k n (get m k) last c x is) b.0 g.2 (told_answer r _ g.3.1 a))
call_at laws w (call.Exchange k old new) s s' r m b g a =
    finished w (op.Exchange k old (Some new)) None m (point.Exchange k old (Some new)) s g.1 s' g.0 r b g.2 g.3
    (call_finishes laws w (op.Exchange k old (Some new)) (asked.Exchange k old (Some new)) None m (point.Exchange k old (Some new)) s g.1 g.0 _ refl tt (λ last c x is. is) b.0 g.2 (told_answer r _ g.3.1 a))
call_at laws w (call.ExchangeDrop k old) s s' r m b g a =
    finished w (op.Exchange k old None) None m (point.Exchange k old None) s g.1 s' g.0 r b g.2 g.3
    (call_finishes laws w (op.Exchange k old None) (asked.Exchange k old None) None m (point.Exchange k old None) s g.1 g.0 _ refl tt (λ last c x is. is) b.0 g.2 (told_answer r _ g.3.1 a))
call_at laws w call.Pin s s' r m b g a = (replied_at w g.1 s' g.0 m (calls_at laws w op.Pin _ None s g.1 g.0 m refl b g.2) g.3.0, tt)
call_at laws w call.Unpin s s' r m b g a = (replied_at w g.1 s' g.0 m (calls_at laws w op.Unpin _ None s g.1 g.0 m refl b g.2) g.3.0, tt)
call_at laws w call.Repin s s' r m b g a = (replied_at w g.1 s' g.0 m (calls_at laws w op.Repin _ None s g.1 g.0 m refl b g.2) g.3.0, tt)
call_at laws w call.Flush s s' r m b g a = (replied_at w g.1 s' g.0 m (calls_at laws w op.Flush _ None s g.1 g.0 m refl b g.2) g.3.0, tt)
call_at laws w call.Release s s' r m b g a = (replied_at w g.1 s' g.0 m (calls_at laws w op.Release _ None s g.1 g.0 m refl b g.2) g.3.0, tt)
call_at laws w (call.Range start end size) s s' r m b g a =
    let x = scan_finishes laws w start end size (op.Range start end size) refl m None s g.1 g.0 _ b.0 b.2 g.2 (told_answer r _ g.3.1 a) in
    let callers = called_callers w (op.Range start end size) None s g.1 g.0 b.1 g.2 in
    (replied_at w g.1 s' g.0 m (x.rests, callers, called_scans w (op.Range start end size) None s g.1 g.0 b.2 g.2) g.3.0, g.3.1 ∙ x.reply)
call_at laws w (call.Through start last size) s s' r m b g a =
    let x = scan_finishes laws w start (suc last) size (op.RangeInclusive start last size) refl m None s g.1 g.0 _ b.0 b.2 g.2 (told_answer r _ g.3.1 a) in
    let callers = called_callers w (op.RangeInclusive start last size) None s g.1 g.0 b.1 g.2 in
    (replied_at w g.1 s' g.0 m (x.rests, callers, called_scans w (op.RangeInclusive start last size) None s g.1 g.0 b.2 g.2) g.3.0, g.3.1 ∙ x.reply)
call_at laws w call.Keys s s' r m b g a =
    let x = survey_finishes laws w op.Keys survey.Keys None m s g.1 g.0 refl b.0 g.2 in
    (surveyed_at w survey.Keys op.Keys s g.1 s' g.0 m b g.2 x g.3.0, g.3.1 ∙ keys_reply m g.0 _ x.tells (told_answer r _ g.3.1 a))
call_at laws w call.Empty s s' r m b g a =
    let x = survey_finishes laws w op.IsEmpty survey.IsEmpty None m s g.1 g.0 refl b.0 g.2 in
    (surveyed_at w survey.IsEmpty op.IsEmpty s g.1 s' g.0 m b g.2 x g.3.0, g.3.1 ∙ empty_reply m g.0 _ x.tells (told_answer r _ g.3.1 a))
call_at laws w call.Stats s s' r m b g a =
    let x = survey_finishes laws w op.Stats survey.Stats None m s g.1 g.0 refl b.0 g.2 in
    (surveyed_at w survey.Stats op.Stats s g.1 s' g.0 m b g.2 x g.3.0, tt)

-- nothing is open, or a tree with these pairs
abbrev AtMap : Session → Pairs ℕ → Type 0
AtMap None m = m ≡ empty
AtMap (Some s) m = At s m

-- a line leaves the map's pairs, and is replied to as the map says
abbrev pub Keeps : Pairs ℕ → Command → Session → Reply → Type 0
Keeps m c new r = AtMap new (map_after m c) × Agrees (is_on_keys c) (answer_to m c) r

no_refusal : (why : Refused) (r : Reply) → r ≡ reply.Refused why → IsAnswer r → ⊥
no_refusal why r e a = subst IsAnswer e a

asks_at : MapLaws → (c : Command) (s s' : OpenTree) (r : Reply) (m : Pairs ℕ) → At s m → Asks s c s' r → IsWhole c → IsAnswer r → Keeps m c (Some s') r
asks_at laws command.Register s s' r m b g w a = (registers_at laws s s' g.0 m b g.1, tt)
asks_at laws command.Charged s s' r m b g w a = ((let P : OpenTree → Type 0 = λ x. At x m in subst P (sym g.0) b), tt)
asks_at laws command.Waiting s s' r m b g w a = ((let P : OpenTree → Type 0 = λ x. At x m in subst P (sym g.0) b), tt)
asks_at laws (command.Call i c) s s' r m b g w a = call_at laws i c s s' r m b g a
asks_at laws (command.Round i n) s s' r m b g w a = (rounds_at laws i n s s' r m b g, tt)
asks_at laws (command.Begin i c) s s' r m b g w a = absurd w
asks_at laws (command.Go i n) s s' r m b g w a = absurd w
asks_at laws (command.Fail i) s s' r m b g w a = absurd w
asks_at laws (command.New o) s s' r m b g w a = absurd g
asks_at laws command.Journal s s' r m b g w a = ((let P : OpenTree → Type 0 = λ x. At x m in subst P (sym g.0) b), tt)
asks_at laws command.Close s s' r m b g w a = absurd g

opened_at : MapLaws → (limits : Limits) (journal : Option ℕ) (budget : ℕ) (result : Result (World ℕ) Refusal) (new : Session) (r : Reply) → Opens limits journal 0 budget result → Opened result new r → IsAnswer r
    → AtMap new empty
opened_at laws limits journal budget (Ok world) new r o g a =
    let P : Session → Type 0 = λ x. AtMap x empty in
    let Q : World ℕ → Type 0 = λ x. Rests x empty in
    let new_tree = laws.fresh world o.1 in
    let rests : Rests world empty = record { holds = o.4; flights = no_flights; stand = new_tree.0; in_flight = new_tree.1; over = λ i. refl } in
    let callers : length g.0.callers.items ≡ 256 = ap length g.1.callers ∙ length-replicate {A = Caller} 256 (fresh None) in
    let scans : length g.0.scans.items ≡ 256 = ap length g.1.scans ∙ length-replicate {A = List (ℕ × ℕ)} 256 [] in
    subst P (sym g.2) (subst Q (sym g.1.world) rests, callers, scans)
opened_at laws limits journal budget (Err e) new r o g a = absurd (no_refusal _ r g.1 a)

opens_at : MapLaws → (limits : Option Limits) (journal : Option ℕ) (budget : ℕ) (new : Session) (r : Reply) → OpensWith limits journal budget new r → IsAnswer r → AtMap new empty
opens_at laws None journal budget new r g a = absurd (no_refusal _ r g.1 a)
opens_at laws (Some limits) journal budget new r g a = opened_at laws limits journal budget g.0 new r g.1 g.2 a

-- where the tree was closed, nothing is open
closed_at : (s : OpenTree) (new : Session) (r : Reply) (m : Pairs ℕ) → Closed s new r ⊎ StaysOpen s new r → IsAnswer r → Keeps m command.Close new r
closed_at s new r m (inl x) a = (let P : Session → Type 0 = λ y. AtMap y empty in subst P (sym x.none) refl, tt)
closed_at s new r m (inr x) a = absurd (no_refusal _ r x.reply a)

asked_at : MapLaws → (c : Command) (s : OpenTree) (new : Session) (r : Reply) (m : Pairs ℕ) → At s m → (index : OpenTree) × (new ≡ Some index) × Asks s c index r → IsWhole c → IsAnswer r → Keeps m c new r
asked_at laws c s new r m b g w a = let P : Session → Type 0 = λ x. Keeps m c x r in subst P (sym g.1) (asks_at laws c s g.0 r m b g.2 w a)

answers_at : MapLaws → (old : Session) (c : Command) (new : Session) (r : Reply) (m : Pairs ℕ) → AtMap old m → Answers old c new r → IsWhole c → IsAnswer r → Keeps m c new r
answers_at laws None (command.New o) new r m b g w a = (opens_at laws (limits_of o) o.journal (budget_of o) new r g a, tt)
answers_at laws None command.Register new r m b g w a = absurd (no_refusal _ r g.1 a)
answers_at laws None command.Charged new r m b g w a = absurd (no_refusal _ r g.1 a)
answers_at laws None command.Waiting new r m b g w a = absurd (no_refusal _ r g.1 a)
answers_at laws None command.Journal new r m b g w a = absurd (no_refusal _ r g.1 a)
answers_at laws None command.Close new r m b g w a = absurd (no_refusal _ r g.1 a)
answers_at laws None (command.Call i c) new r m b g w a = absurd (no_refusal _ r g.1 a)
answers_at laws None (command.Begin i c) new r m b g w a = absurd w
answers_at laws None (command.Go i n) new r m b g w a = absurd w
answers_at laws None (command.Fail i) new r m b g w a = absurd w
answers_at laws None (command.Round i n) new r m b g w a = absurd (no_refusal _ r g.1 a)
answers_at laws (Some s) (command.New o) new r m b g w a = absurd (no_refusal _ r g.1 a)
answers_at laws (Some s) command.Register new r m b g w a = asked_at laws command.Register s new r m b g w a
answers_at laws (Some s) command.Charged new r m b g w a = asked_at laws command.Charged s new r m b g w a
answers_at laws (Some s) command.Waiting new r m b g w a = asked_at laws command.Waiting s new r m b g w a
answers_at laws (Some s) command.Journal new r m b g w a = asked_at laws command.Journal s new r m b g w a
answers_at laws (Some s) command.Close new r m b g w a = closed_at s new r m g a
answers_at laws (Some s) (command.Call i c) new r m b g w a = asked_at laws (command.Call i c) s new r m b g w a
answers_at laws (Some s) (command.Begin i c) new r m b g w a = absurd w
answers_at laws (Some s) (command.Go i n) new r m b g w a = absurd w
answers_at laws (Some s) (command.Fail i) new r m b g w a = absurd w
answers_at laws (Some s) (command.Round i n) new r m b g w a = asked_at laws (command.Round i n) s new r m b g w a

-- commands that are carried out one after the other, a reply each
abbrev Chain : Session → List Command → List Reply → Type 0
Chain old [] rs = rs ≡ []
Chain old (c ∷ cs) [] = ⊥
Chain old (c ∷ cs) (r ∷ rs) = (mid : Session) × Answers old c mid r × Chain mid cs rs

chain_of_map : MapLaws → (n : ℕ) (cs : List Command) (rs : List Reply) (old : Session) (m : Pairs ℕ) → AtMap old m → Chain old cs rs → AllByRecursion IsWhole (take n cs)
    → AllByRecursion IsAnswer (take n rs) → key_replies (take n cs) (take n rs) ≡ map_replies m (take n cs)
chain_of_map laws zero cs rs old m b ch w a = refl
chain_of_map laws (suc n) [] rs old m b ch w a = refl
chain_of_map laws (suc n) (c ∷ cs) [] old m b ch w a = absurd ch
chain_of_map laws (suc n) (c ∷ cs) (r ∷ rs) old m b ch w a =
    let step = answers_at laws old c ch.0 r m b ch.1 w.0 a.0 in
    agreed (is_on_keys c) (answer_to m c) r _ step.1 ∙ ap (with_reply (answer_to m c)) (chain_of_map laws n cs rs ch.0 (map_after m c) step.0 ch.2 w.1 a.1)

-- the commands of lines that were answered, with their replies
record Answered (old : Session) (lines : List (List ℕ)) (text : List ℕ) : Type 0 where
  commands : List Command
  are : AreCommands lines commands
  replies : List Reply
  chain : Chain old commands replies
  one_each : length replies ≡ length commands
  prints : text ≡ flat_map printed replies

answered_line : (l : Line) (bytes : List ℕ) (more : List (List ℕ)) (old mid : Session) (text first rest : List ℕ) → IsLine bytes l → LineDoes l old mid first → text ≡ first ++ rest
    → Answered mid more rest → Answered old (bytes ∷ more) text
answered_line line.Skipped bytes more old mid text first rest is g e x =
    let P : Session → Type 0 = λ s. Chain s x.commands x.replies in
    record {
      commands = x.commands;
      are = (line.Skipped, x.commands, is, x.are, refl);
      replies = x.replies;
      chain = subst P g.0 x.chain;
      one_each = x.one_each;
      prints = e ∙ ap (λ t. t ++ rest) g.1 ∙ x.prints;
    }
answered_line (line.Command c) bytes more old mid text first rest is g e x = record {
  commands = c ∷ x.commands;
  are = (line.Command c, x.commands, is, x.are, refl);
  replies = g.0 ∷ x.replies;
  chain = (mid, g.1, x.chain);
  one_each = ap suc x.one_each;
  prints = e ∙ ap (λ t. t ++ rest) g.2 ∙ ap (λ t. printed g.0 ++ t) x.prints;
}
answered_line line.Bad bytes more old mid text first rest is g e x = absurd g

answered_lines : (lines : List (List ℕ)) (old new : Session) (text : List ℕ) → LinesAnswer old lines new text → Answered old lines text
answered_lines [] old new text h = record { commands = []; are = refl; replies = []; chain = refl; one_each = refl; prints = h.1 }
answered_lines (bytes ∷ more) old new text h =
    answered_line h.3.0 bytes more old h.0 text h.1 h.2 h.3.1 h.3.2 h.5 (answered_lines more h.0 new h.2 h.4)

-- what lines are replied to is the map's
map_answers : MapLaws → (lines : List (List ℕ)) (new : Session) (text : List ℕ) → LinesAnswer None lines new text → MapAnswers lines text
map_answers laws lines new text h =
    let x = answered_lines lines None new text h in
    record {
      commands = x.commands;
      are_commands = x.are;
      replies = x.replies;
      one_each = x.one_each;
      are_printed = x.prints;
      of_map = λ n w a. chain_of_map laws n x.commands x.replies None empty refl x.chain w a;
    }

-- what the lines of a script print is what they print as the map says, however the script ends
prints_by : (A B : List (List ℕ) → List ℕ → Type 0) → ((lines : List (List ℕ)) (text : List ℕ) → A lines text → B lines text) → (input given : List ℕ) (e : End) (text : List ℕ)
    → Prints A input given e text → Prints B input given e text
prints_by A B f input given end.Done text p = (p.0, (p.1.0, f _ text p.1.1))
prints_by A B f input given end.BadLine text p = (p.0, p.1, p.2, p.3, (p.4.0, f _ _ p.4.1), p.5, p.6)
prints_by A B f input given end.Reading text p = (p.0, p.1, f _ text p.2)
prints_by A B f input given end.Memory text p = record {
  before = p.before;
  last = p.last;
  reads = p.reads;
  bound = p.bound;
  lines = p.lines;
  more = p.more;
  after = p.after;
  whole = p.whole;
  first = (p.first.0, f _ text p.first.1);
}
prints_by A B f input given end.TooLong text p = (p.0, (p.1.0, p.1.1, f _ text p.1.2))
prints_by A B f input given end.Writing text (due, more, e, inl p) = (due, more, e, inl (p.0, p.1, (p.2.0, f _ due p.2.1)))
prints_by A B f input given end.Writing text (due, more, e, inr p) = (due, more, e, inr (p.0, p.1, p.2, p.3, (p.4.0, f _ _ p.4.1), p.5, p.6))

-- what the writer took of a script is what the script prints as the map says
pub ran_of_map : MapLaws → (had left held holds : Option (List ℕ)) (e : End) → Ran AreAnswered had left held holds e → Ran MapAnswers had left held holds e
ran_of_map laws None left held holds e r = tt
ran_of_map laws (Some input) left held holds e r =
    (r.0, r.1, r.2, prints_by AreAnswered MapAnswers (λ lines text a. map_answers laws lines a.0 text a.1) input r.0 e r.1 r.3, r.4)
