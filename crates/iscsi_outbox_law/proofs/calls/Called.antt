-- Each call keeps to the rules, whatever calls came before.
use Rattle.std.proofs.Common.{◌≡◌, List, [], ◌∷◌, ◌++◌, map, Option, Some, None, refl, ap, sym, ◌∙◌, subst}
use Rattle.iscsi_outbox_rules.specs.rules.Calls.{Opening, Call}
use Rattle.iscsi_outbox_rules.specs.rules.Boxes.{Box}
use Rattle.iscsi_outbox_rules.specs.rules.Run.{opened, after_call as after_call_by_rules, after_calls as after_calls_by_rules, answered as answered_by_rules, answered_from as answered_from_by_rules}
use Rattle.iscsi_outbox_rules.specs.promises.Deeds.{FollowsFlow, FollowsKnown}
use Rattle.iscsi_outbox_rules.specs.promises.Room.{HasRoom}
use Rattle.iscsi_outbox_rules.proofs.PromisesTheorem.{keeps_promises}
use Rattle.iscsi_outbox_rules.proofs.room.RoomFollows.{follows_flow, follows_known}
use Rattle.iscsi_outbox_rules.proofs.room.RoomItems.{room_on_the_way}
use Rattle.iscsi_outbox_steps.specs.State.{State, may_take}
use Rattle.iscsi_outbox_steps.specs.Run.{Answered, after_call, answered, answered_from, begun}
use Rattle.iscsi_outbox_law.specs.promises.Called.{IsRun, KeepsAllPromises, KeepsToRules, MayTakeByRules, after_calls}
use Rattle.iscsi_outbox_law.specs.rules.Said.{said}
use Rattle.iscsi_outbox_law.specs.private.Stands.{Stands}
use Rattle.iscsi_outbox_law.proofs.calls.Alike.{answers_alike, leave_alike}
use Rattle.iscsi_outbox_law.proofs.queues.Waiting.{may_take_is}

abbrev last_of : List Answered → Option Answered
last_of [] = None
last_of (x ∷ []) = Some x
last_of (x ∷ y ∷ xs) = last_of (y ∷ xs)

last_push : (xs : List Answered) (x : Answered) → last_of (xs ++ x ∷ []) ≡ Some x
last_push [] x = refl
last_push (y ∷ []) x = refl
last_push (y ∷ z ∷ xs) x = last_push (z ∷ xs) x

same_last : (xs ys : List Answered) (x y : Answered) → xs ++ x ∷ [] ≡ ys ++ y ∷ [] → x ≡ y
same_last xs ys x y same = let e : Some x ≡ Some y = sym (last_push xs x) ∙ ap last_of same ∙ last_push ys y in cc

answers_push : (s : State) (cs : List Call) (c : Call) → answered_from s (cs ++ c ∷ []) ≡ answered_from s cs ++ answered (after_calls s cs) c ∷ []
answers_push s [] c = refl
answers_push s (x ∷ cs) c = ap (λ xs. answered s x ∷ xs) (answers_push (after_call s x) cs c)

rules_push : (o : Opening) (b : Box) (cs : List Call) (c : Call) → map said (answered_from_by_rules o b (cs ++ c ∷ [])) ≡ map said (answered_from_by_rules o b cs) ++ said (answered_by_rules o (after_calls_by_rules o b cs) c) ∷ []
rules_push o b [] c = refl
rules_push o b (x ∷ cs) c = ap (λ xs. said (answered_by_rules o b x) ∷ xs) (rules_push o (after_call_by_rules o b x) cs c)

-- ---- a run

has_room : (o : Opening) (cs : List Call) (run : IsRun o cs) → HasRoom o cs
has_room o cs run = subst (HasRoom o) run.calls (room_on_the_way o run.steps run.distinct run.read)

follows : (o : Opening) (cs : List Call) (run : IsRun o cs) → FollowsKnown o cs
follows o cs run = subst (FollowsKnown o) run.calls (follows_known o run.steps run.read)

pub keeps : (s : State) (c : Call) → KeepsToRules s c
keeps s c o cs came run =
    ap (λ t. answered t c) came
    ∙ same_last (answered_from (begun o) cs) (map said (answered_from_by_rules o (opened o) cs)) (answered (after_calls (begun o) cs) c) (said (answered_by_rules o (after_calls_by_rules o (opened o) cs) c))
    (sym (answers_push (begun o) cs c) ∙ answers_alike o (cs ++ c ∷ []) (follows o (cs ++ c ∷ []) run) run.distinct (has_room o (cs ++ c ∷ []) run) run.short ∙ rules_push o (opened o) cs c)

pub keeps_all : (s : State) (c : Call) → KeepsAllPromises s c
keeps_all s c o cs came run =
    keeps_promises o (cs ++ c ∷ []) (subst (FollowsFlow o) run.calls (follows_flow o run.steps run.read run.flows run.window)) (follows o (cs ++ c ∷ []) run)

pub may_take_by_rules : (s : State) → MayTakeByRules s (may_take s)
may_take_by_rules s o cs came run =
    let stands : Stands o (after_calls (begun o) cs) (after_calls_by_rules o (opened o) cs) = leave_alike o cs (follows o cs run) run.distinct (has_room o cs run) run.short in
    ap may_take came ∙ may_take_is o (after_calls (begun o) cs) (after_calls_by_rules o (opened o) cs) stands
