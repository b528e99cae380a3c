-- The event by which the session hears that a connection was lost, from its one item on.
use Rattle.std.proofs.Common.{◌≡◌, ℕ, ◌≤◌, ◌⊎◌, List, [], ◌∷◌, ◌++◌, length, None, Option, true, false, refl, ap, sym, subst, ◌∙◌, arith}
use Rattle.std.specs.List.{flat_map}
use Rattle.std.proofs.lemmas.List.{append-nil}
use Rattle.iscsi_rules.specs.declared.effect.Effect.{Effect}
use Rattle.iscsi_rules.specs.rules.Run.{effects_of}
use Rattle.iscsi_rules.specs.rules.Trace.{Mark}
use Rattle.iscsi_rules.proofs.general.ElementLemmas.{In}
use Rattle.iscsi_outbox_rules.specs.promises.Room.{places}
use Rattle.iscsi_outbox_rules.specs.rules.Words.{replies_waiting}
use Rattle.iscsi_outbox_steps.specs.State.{State as OutboxState}
use Rattle.iscsi_requests.specs.Conns.{of_conn}
use Rattle.iscsi_requests.specs.Replies.{WaitingReplies}
use Rattle.iscsi_requests.specs.Unwritten.{Unwritten}
use Rattle.iscsi_requests.specs.declared.replies.WaitingReply.{WaitingReply}
use Rattle.iscsi_ffi_rules.specs.declared.action.Action.{Action}
use Rattle.iscsi_ffi_rules.specs.rules.Calls.{Interface}
use Rattle.iscsi_ffi_rules.specs.rules.Happening.{stops_in}
use Rattle.iscsi_ffi_rules.specs.rules.Sides.{Side}
use Rattle.iscsi_ffi_steps.specs.State.{State}
use Rattle.iscsi_ffi_steps.specs.Walk.{on_effects}
use Rattle.iscsi_ffi_law.specs.Arrived.{effects_by, side_behind}
use Rattle.iscsi_ffi_law.specs.Names.{Name, Note}
use Rattle.iscsi_ffi_law.proofs.items.Framing.{touched_in}
use Rattle.iscsi_ffi_law.proofs.items.ItemsGo.{FirstGo}
use Rattle.iscsi_ffi_law.proofs.losses.TailLost.{LostGoes}
use Rattle.iscsi_ffi_law.proofs.events.Unswept.{joined_nothing, none_at, none_unswept, put_state, with_noted, with_replies}
use Rattle.iscsi_ffi_law.proofs.items.Walking.{walk_at}

-- nothing is to be swept yet
nothing_put : (s t : State) → t.replies ≡ s.replies → t.noted ≡ s.noted → put_state (none_unswept s) t ≡ t
nothing_put s t replies noted =
    ap (λ (v : WaitingReplies). record t { replies = v; noted = with_noted (none_unswept s) t.noted }) (ap (with_replies (none_unswept s)) replies ∙ ap (λ (ls : List (List WaitingReply)). record s.replies { waiting = ls }) (joined_nothing s.replies.waiting (none_unswept s).replies (none_at s.replies.waiting)) ∙ sym replies)
    ∙ ap (λ (v : Unwritten). record t { noted = v }) (ap (with_noted (none_unswept s)) noted ∙ ap (λ (ls : List (List (Option ℕ))). record s.noted { handed = ls }) (joined_nothing s.noted.handed (none_unswept s).noted (none_at s.noted.handed)) ∙ sym noted)

module _ (i : Interface) (names : List Name) (notes : List Note) (s : State) (r : Side) (xs : List (Option ℕ)) (item : List Mark) (g : LostGoes i names notes (none_unswept s) s r xs item) (replies : replies_waiting r.both.box ≤ places i.outbox) where
  one_item : flat_map (stops_in r) (item ∷ []) ≡ stops_in r item
  one_item = append-nil (stops_in r item)

  effects_are : effects_of i.outbox.session r.both.trace (item ∷ []) ≡ effects_by i r item
  effects_are = append-nil (effects_by i r item)

  pub lost_first : FirstGo i names notes (none_unswept s) s r None xs (item ∷ [])
  lost_first = record {
    state = g.state;
    ended = g.ended;
    sends = 0;
    between = g.between;
    outbox = g.outbox;
    room = g.room;
    few = (let few = g.few.lives in omega (arith, few));
    stops = (let going = g.few.going in let same = ap length one_item in omega (arith, going, same));
    waits = (let same = g.waits in omega (arith, same));
    replies = (let few = replies in omega (arith, few));
    notes_kept = g.notes_kept;
    touched = λ o found p. subst (λ (es : List Effect). ((of_conn p g.between.unswept.replies ≡ of_conn p (none_unswept s).replies) × (of_conn p g.between.unswept.noted ≡ of_conn p (none_unswept s).noted)) ⊎ In p (flat_map (touched_in o) es)) (sym effects_are) (g.touched o found p);
    walk = λ o found acts prompt room few.
        let same = ap length one_item in
        ap (λ (t : State). on_effects true (effects_of i.outbox.session r.both.trace (item ∷ [])) (walk_at o t acts xs None r.both.box.sent)) (nothing_put s s refl refl)
        ∙ g.walk o found acts (omega (arith, room, same)) [] refl
        ∙ ends o acts
        ∙ ap (λ (t : State). walk_at o t (acts ++ stops_in r item) g.ended None (side_behind i r item).both.box.sent) (sym (nothing_put s g.still g.still_replies g.still_noted) ∙ g.put)
        ∙ ap (λ (as' : List Action). walk_at o (put_state g.between.unswept g.state) (acts ++ as') g.ended None (side_behind i r item).both.box.sent) (sym one_item);
  }
    where
      ends : (o : OutboxState) (acts : List Action) → on_effects false [] (walk_at o g.still (acts ++ stops_in r item) g.ended None (side_behind i r item).both.box.sent) ≡ walk_at o g.still (acts ++ stops_in r item) g.ended None (side_behind i r item).both.box.sent
      ends o acts = refl
