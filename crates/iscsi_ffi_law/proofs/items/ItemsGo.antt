-- The items of an event that are due, one after the other.
use Rattle.std.proofs.Common.{◌≡◌, ℕ, ◌+◌, ◌<◌, ◌≤◌, ◌==◌, ◌&&◌, not, ◌⊎◌, ⊎_elim, cond, inl, inr, Bool, true, false, List, [], ◌∷◌, ◌++◌, length, map, count_by, Option, Some, None, refl, ap, sym, subst, ◌∙◌, arith, length-append}
use Rattle.iscsi_ffi_law.proofs.general.Members.{in_each}
use Rattle.iscsi_ffi_law.proofs.logouts.TailParts.{goes_parted}
use Rattle.iscsi_ffi_law.proofs.logouts.Parting.{emptied_parted, empties_parted, leaves_parted, parted_item}
use Rattle.iscsi_ffi_law.proofs.requests.KeptCounts.{held_or_waiting}
use Rattle.std.specs.List.{filter_map, flat_map, list_all, position}
use Rattle.std.proofs.lemmas.Bool.{false≢true}
use Rattle.std.proofs.lemmas.List.{append-nil, append_assoc}
use Rattle.std.proofs.lemmas.Grind.{flat_map-append}
use Rattle.iscsi_wire.specs.declared.reply.Reply.{Reply}
use Rattle.iscsi_wire.specs.Fields.{cmd_sn, connection_of}
use Rattle.iscsi_wire.specs.Serial.{wire}
use Rattle.iscsi_rules.specs.rules.Run.{effects_of, effects_of_item}
use Rattle.iscsi_rules.specs.rules.Settings.{are_distinct, is_known}
use Rattle.iscsi_rules.specs.rules.Trace.{Arrival, ClosesConn, ClosesSession, Command as RulesCommand, Empties, Enters, Leaves, Mark, Sends, Trace, Voids, entered, held, is_closed, live, waiting}
use Rattle.iscsi_rules.proofs.general.BoolLemmas.{and_parts}
use Rattle.iscsi_rules.proofs.general.ElementLemmas.{In}
use Rattle.iscsi_rules.proofs.items.Forms.{AfterWaiting, AtArrival, AtTurn, Deeds, Each, EntersAs, IsDone, Start, if_some, marks_done, start_mark}
use Rattle.iscsi_outbox_rules.proofs.closes.ClosedParts.{EachOn, effects_each}
use Rattle.iscsi_outbox_law.specs.private.Pairs.{EachOf}
use Rattle.iscsi_outbox_law.proofs.general.PairLemmas.{each-filter, each-weaken}
use Rattle.iscsi_outbox_law.specs.private.Sound.{IsSound}
use Rattle.iscsi_outbox_law.proofs.general.PlaceLemmas.{known_any}
use Rattle.iscsi_outbox_rules.specs.rules.Words.{contains, replies_waiting}
use Rattle.iscsi_rules.specs.rules.Logout.{is_open}
use Rattle.iscsi_ffi_rules.specs.rules.Run.{cids}
use Rattle.iscsi_outbox_steps.specs.State.{Limits, State as OutboxState}
use Rattle.iscsi_outbox_steps.specs.Steps.{after_items as steps_after_items}
use Rattle.iscsi_ffi_commands.specs.Commands.{is_going, is_live}
use Rattle.iscsi_ffi_rules.specs.declared.action.Action.{Action}
use Rattle.iscsi_ffi_rules.specs.rules.Calls.{Interface}
use Rattle.iscsi_ffi_rules.specs.rules.Happening.{leaving, stops_in}
use Rattle.iscsi_ffi_rules.specs.rules.Sides.{Side}
use Rattle.iscsi_ffi_steps.specs.State.{State}
use Rattle.iscsi_ffi_steps.specs.Walk.{Walk, end_item, on_effects}
use Rattle.iscsi_requests.specs.Conns.{count_all, of_conn}
use Rattle.iscsi_rules.specs.declared.effect.Effect.{Effect}
use Rattle.iscsi_outbox_rules.specs.rules.Items.{reply_sent}
use Rattle.iscsi_ffi_law.specs.Arrived.{AreStepsFit, IsStepFit, effects_by, emptying, is_late, side_behind, starts_late}
use Rattle.iscsi_ffi_law.specs.Names.{Name, Note}
use Rattle.iscsi_ffi_law.proofs.items.Between.{IsBetween, IsFound, IsHeaded, turn_headed}
use Rattle.iscsi_ffi_law.proofs.aborts.Leaving.{left_item}
use Rattle.iscsi_ffi_law.proofs.aborts.LeavingHead.{headed_left}
use Rattle.iscsi_ffi_law.proofs.arrivals.Opens.{IsBare, IsEmptying, Opens, emptied_seen, is_bare, IsParting, leaving_seen}
use Rattle.iscsi_ffi_law.proofs.items.Plain.{leaves_none, one_enters, plain_item}
use Rattle.iscsi_ffi_law.proofs.items.Stepping.{GoesOn, ItemGoes, plain_goes}
use Rattle.iscsi_ffi_law.proofs.items.TailEmpties.{emptied_answering, emptied_item}
use Rattle.iscsi_ffi_law.proofs.items.TailEnters.{goes_entered}
use Rattle.iscsi_ffi_law.proofs.aborts.TailLeaves.{goes_left, goes_left_over}
use Rattle.iscsi_ffi_law.proofs.items.TailOver.{goes_over}
use Rattle.iscsi_ffi_law.proofs.items.TailSends.{executed_answering, goes_sent}
use Rattle.iscsi_ffi_law.proofs.arrivals.Turns.{IsDue, IsDueBy}
use Rattle.iscsi_ffi_law.proofs.items.Waited.{waited_headed}
use Rattle.iscsi_ffi_law.proofs.items.Framing.{IsClear, IsSentTo, in_first, in_second, past_walked, put_end, sends_counted, sent_each, touched_in, walked, walked_put}
use Rattle.iscsi_ffi_law.proofs.items.ReplyPlace.{place_is as reply_place, takes_it as reply_takes, there as reply_there}
use Rattle.iscsi_ffi_law.proofs.events.Unswept.{Unswept, is_some_effect, put_state, put_walk}
use Rattle.std.proofs.lemmas.List.Elements.{filter_map-append}
use Rattle.iscsi_outbox_rules.specs.promises.Room.{places}
use Rattle.iscsi_ffi_law.proofs.items.Walking.{is_led, led_end, walk_at}

-- ---- what a request does by which nothing is closed, and no held request is taken out

abbrev Plain : List Mark → Type 0
Plain ms = list_all is_bare ms ≡ true

none_closed : (x : Option ℕ) (b : Bool) → Plain (if_some ClosesConn x ++ cond b (ClosesSession ∷ []) []) → if_some ClosesConn x ++ cond b (ClosesSession ∷ []) [] ≡ []
none_closed (Some conn) b h = absurd (false≢true h)
none_closed None true h = absurd (false≢true h)
none_closed None false h = refl

replied_plain : (conn : ℕ) (y : Option Reply) (zs : List Mark) → (Plain zs → zs ≡ []) → Plain (if_some (Sends conn) y ++ zs) → if_some (Sends conn) y ++ zs ≡ if_some (Sends conn) y
replied_plain conn None zs none h = none h
replied_plain conn (Some reply) zs none h = ap (λ ms. Sends conn reply ∷ ms) (none h)

entered_plain : (e : Option RulesCommand) (zs ys : List Mark) → (Plain zs → zs ≡ ys) → Plain (if_some Enters e ++ zs) → if_some Enters e ++ zs ≡ if_some Enters e ++ ys
entered_plain None zs ys same h = same h
entered_plain (Some c) zs ys same h = ap (λ ms. Enters c ∷ ms) (same h)

emptied_plain : (as' : List Arrival) (zs ys : List Mark) → (Plain zs → zs ≡ ys) → Plain (map Empties as' ++ zs) → map Empties as' ++ zs ≡ ys
emptied_plain [] zs ys same h = same h
emptied_plain (a ∷ as') zs ys same h = absurd (false≢true h)

left_plain : (cs : List RulesCommand) (zs ys : List Mark) → (Plain zs → zs ≡ ys) → Plain (map Leaves cs ++ zs) → map Leaves cs ++ zs ≡ map Leaves cs ++ ys
left_plain [] zs ys same h = same h
left_plain (c ∷ cs) zs ys same h = ap (λ ms. Leaves c ∷ ms) (left_plain cs zs ys same h)

voided_plain : (v : Option ℕ) (zs ys : List Mark) → (Plain zs → zs ≡ ys) → Plain (if_some Voids v ++ zs) → if_some Voids v ++ zs ≡ if_some Voids v ++ ys
voided_plain None zs ys same h = same h
voided_plain (Some n) zs ys same h = ap (λ ms. Voids n ∷ ms) (same h)

-- what is left of its marks
abbrev pub open_marks : Arrival → Option ℕ → List RulesCommand → Option RulesCommand → Option Reply → List Mark
open_marks a void cs entering reply = if_some Voids void ++ (map Leaves cs ++ (if_some Enters entering ++ if_some (Sends (connection_of a.request)) reply))

pub deeds_plain : (a : Arrival) (d : Deeds) → Plain (marks_done a d) → marks_done a d ≡ open_marks a d.void d.leaving d.entering d.reply
deeds_plain a d h =
    let ends : List Mark = if_some ClosesConn d.closing ++ cond d.ending (ClosesSession ∷ []) [] in
    voided_plain d.void (map Leaves d.leaving ++ (map Empties d.emptied ++ (if_some Enters d.entering ++ (if_some (Sends (connection_of a.request)) d.reply ++ ends)))) (map Leaves d.leaving ++ (if_some Enters d.entering ++ if_some (Sends (connection_of a.request)) d.reply))
    (left_plain d.leaving (map Empties d.emptied ++ (if_some Enters d.entering ++ (if_some (Sends (connection_of a.request)) d.reply ++ ends))) (if_some Enters d.entering ++ if_some (Sends (connection_of a.request)) d.reply)
    (emptied_plain d.emptied (if_some Enters d.entering ++ (if_some (Sends (connection_of a.request)) d.reply ++ ends)) (if_some Enters d.entering ++ if_some (Sends (connection_of a.request)) d.reply)
    (entered_plain d.entering (if_some (Sends (connection_of a.request)) d.reply ++ ends) (if_some (Sends (connection_of a.request)) d.reply)
    (replied_plain (connection_of a.request) d.reply ends (none_closed d.closing d.ending))))) h

-- ---- several items

abbrev pub side_after : Interface → Side → List (List Mark) → Side
side_after i r [] = r
side_after i r (item ∷ items) = side_after i (side_behind i r item) items

-- what these items come to; `u`: what is still to be swept before them
pub record AllGo (i : Interface) (names : List Name) (notes : List Note) (u : Unswept) (s : State) (r : Side) (own : Option ℕ) (xs : List (Option ℕ)) (items : List (List Mark)) : Type 0 where
  pub state : State
  pub ended : List (Option ℕ)
  pub between : IsBetween i names notes state (side_after i r items) None ended
  pub outbox : state.outbox ≡ steps_after_items (effects_each i.outbox.session r.both.trace items) s.outbox
  pub room : state.room ≡ s.room
  -- what has ended was live, held or waited, but for a request of each item; what was told to stop was told to start
  pub few : length ended + count_by is_live state.commands.items + held_or_waiting state.held state.functions ≤ length xs + count_by is_live s.commands.items + held_or_waiting s.held s.functions + length items
  pub stops : length (flat_map (stops_in r) items) + count_by is_going state.commands.items ≤ count_by is_going s.commands.items
  -- what waits waited before, but for a reply of each item; what is still to be swept is on connections that they close
  pub waits : count_all state.replies.waiting + count_all between.unswept.replies ≤ count_all s.replies.waiting + count_all u.replies + length (filter_map reply_sent (effects_of i.outbox.session r.both.trace items))
  pub notes_kept : count_all state.noted.handed + count_all between.unswept.noted ≡ count_all s.noted.handed + count_all u.noted
  pub touched : (o : OutboxState) → IsFound i o → (p : ℕ) → ((of_conn p between.unswept.replies ≡ of_conn p u.replies) × (of_conn p between.unswept.noted ≡ of_conn p u.noted)) ⊎ In p (flat_map (touched_in o) (effects_of i.outbox.session r.both.trace items))
  pub walk : (o : OutboxState) → IsFound i o → (acts : List Action) (first : Bool) → (first && starts_late r.both.event items) ≡ false → length acts + length (flat_map (stops_in r) items) ≤ s.room
      → count_all s.replies.waiting + count_all u.replies + length (filter_map reply_sent (effects_of i.outbox.session r.both.trace items)) ≤ s.replies.room
      → on_effects first (effects_of i.outbox.session r.both.trace items) (walk_at o (put_state u s) acts xs own r.both.box.sent) ≡ walk_at o (put_state between.unswept state) (acts ++ flat_map (stops_in r) items) ended None (side_after i r items).both.box.sent

-- so it is of all items of an event, from the first one on; `sends`: so many replies come to wait
pub record FirstGo (i : Interface) (names : List Name) (notes : List Note) (u : Unswept) (s : State) (r : Side) (own : Option ℕ) (xs : List (Option ℕ)) (items : List (List Mark)) : Type 0 where
  pub state : State
  pub ended : List (Option ℕ)
  pub sends : ℕ
  pub between : IsBetween i names notes state (side_after i r items) None ended
  pub outbox : state.outbox ≡ steps_after_items (effects_each i.outbox.session r.both.trace items) s.outbox
  pub room : state.room ≡ s.room
  pub few : length ended + count_by is_live state.commands.items + held_or_waiting state.held state.functions ≤ length xs + count_by is_live s.commands.items + held_or_waiting s.held s.functions + length items
  pub stops : length (flat_map (stops_in r) items) + count_by is_going state.commands.items ≤ count_by is_going s.commands.items
  pub waits : count_all state.replies.waiting + count_all between.unswept.replies ≤ count_all s.replies.waiting + count_all u.replies + sends
  pub replies : replies_waiting r.both.box + sends ≤ places i.outbox
  pub notes_kept : count_all state.noted.handed + count_all between.unswept.noted ≡ count_all s.noted.handed + count_all u.noted
  pub touched : (o : OutboxState) → IsFound i o → (p : ℕ) → ((of_conn p between.unswept.replies ≡ of_conn p u.replies) × (of_conn p between.unswept.noted ≡ of_conn p u.noted)) ⊎ In p (flat_map (touched_in o) (effects_of i.outbox.session r.both.trace items))
  pub walk : (o : OutboxState) → IsFound i o → (acts : List Action) → starts_late r.both.event items ≡ false → length acts + length (flat_map (stops_in r) items) ≤ s.room → count_all s.replies.waiting + count_all u.replies + sends ≤ s.replies.room
      → on_effects true (effects_of i.outbox.session r.both.trace items) (walk_at o (put_state u s) acts xs own r.both.box.sent) ≡ walk_at o (put_state between.unswept state) (acts ++ flat_map (stops_in r) items) ended None (side_after i r items).both.box.sent

pub first_go : (i : Interface) (names : List Name) (notes : List Note) (u : Unswept) (s : State) (r : Side) (own : Option ℕ) (xs : List (Option ℕ)) (items : List (List Mark)) → replies_waiting r.both.box + length (filter_map reply_sent (effects_of i.outbox.session r.both.trace items)) ≤ places i.outbox
    → AllGo i names notes u s r own xs items → FirstGo i names notes u s r own xs items
first_go i names notes u s r own xs items replies go = record {
  state = go.state;
  ended = go.ended;
  sends = length (filter_map reply_sent (effects_of i.outbox.session r.both.trace items));
  between = go.between;
  outbox = go.outbox;
  room = go.room;
  few = go.few;
  stops = go.stops;
  waits = go.waits;
  replies = replies;
  notes_kept = go.notes_kept;
  touched = go.touched;
  walk = λ o found acts prompt room few. go.walk o found acts true prompt room few;
}

-- the walk over an item, with what is still to be swept
module _ (i : Interface) (names : List Name) (notes : List Note) (s : State) (r : Side) (own : Option ℕ) (xs : List (Option ℕ)) (k : IsBetween i names notes s r own xs) (item : List Mark) (fit : IsStepFit i r item) (distinct : are_distinct i.outbox.session.conns ≡ true) (g : ItemGoes i names notes k.unswept s r own xs item) where
  abbrev u : Unswept
  u = k.unswept

  clear_on : (o : OutboxState) → IsFound i o → EachOf (IsSentTo (IsClear k.unswept o)) (effects_by i r item)
  clear_on o found = sent_each (IsClear k.unswept o) (effects_by i r item) fit.one_reply (λ cid reply is.
      let takes = (fit.sends cid reply is).takes in
      let at = reply_there i.outbox s.outbox r.both.box k.outbox distinct cid takes in (
        at.place,
        (
          ap (λ (l : Limits). position (λ (c : ℕ). c == cid) l.cids) (found.limits ∙ sym k.outbox.sizes.limits) ∙ reply_place i.outbox s.outbox r.both.box k.outbox distinct cid takes,
          (k.clear at.place at.within (reply_takes i.outbox s.outbox r.both.box k.outbox distinct cid takes)).0,
        ),
      ))

  pub item_put : (o : OutboxState) → IsFound i o → (acts : List Action) (first : Bool) → (first && is_late r.both.event item) ≡ false → length acts + length (stops_in r item) ≤ s.room → count_all s.replies.waiting + count_all k.unswept.replies + length (filter_map reply_sent (effects_by i r item)) ≤ s.replies.room → (rest : List Effect) → is_led rest ≡ true
      → on_effects first (effects_by i r item ++ rest) (walk_at o (put_state k.unswept s) acts xs own r.both.box.sent) ≡ on_effects false rest (walk_at o (put_state k.unswept g.still) (acts ++ stops_in r item) g.ended None (side_behind i r item).both.box.sent)
  item_put o found acts first late room few rest led = by_effects (effects_by i r item) refl g.begins
    where
      w : Walk
      w = walk_at o s acts xs own r.both.box.sent

      w' : Walk
      w' = walk_at o g.still (acts ++ stops_in r item) g.ended None (side_behind i r item).both.box.sent

      by_effects : (es : List Effect) → effects_by i r item ≡ es → is_some_effect (effects_by i r item) ≡ true → on_effects first (effects_by i r item ++ rest) (put_walk k.unswept w) ≡ on_effects false rest (put_walk k.unswept w')
      by_effects [] is some = absurd (false≢true (sym (ap is_some_effect is) ∙ some))
      by_effects (e ∷ es) is some =
          let sent = ap (λ (fs : List Effect). length (filter_map reply_sent fs)) is in
          let long = k.long_replies in
          let same_long = k.sizes.replies in
          let ends : end_item (walked first (e ∷ es) w) ≡ w'
          = sym (past_walked first e es [] w) ∙ ap (λ (fs : List Effect). on_effects first (fs ++ []) w) (sym is) ∙ g.walk o found acts first late room [] refl in
          ap (λ (fs : List Effect). on_effects first (fs ++ rest) (put_walk k.unswept w)) is
          ∙ past_walked first e es rest (put_walk k.unswept w)
          ∙ ap (on_effects false rest) (walked_put k.unswept o first (e ∷ es) w refl (long ∙ sym same_long) (subst (EachOf (IsSentTo (IsClear k.unswept o))) is (clear_on o found)) (omega (arith, few, sent, sends_counted (e ∷ es))))
          ∙ led_end rest led (put_walk k.unswept (walked first (e ∷ es) w))
          ∙ ap (on_effects false rest) (put_end k.unswept (walked first (e ∷ es) w) ∙ ap (put_walk k.unswept) ends)

sent_both : (es fs : List Effect) → length (filter_map reply_sent (es ++ fs)) ≡ length (filter_map reply_sent es) + length (filter_map reply_sent fs)
sent_both es fs = ap length (filter_map-append reply_sent es fs) ∙ length-append (filter_map reply_sent es) (filter_map reply_sent fs)

-- one, and these
pub goes_then : (i : Interface) (names : List Name) (notes : List Note) (s : State) (r : Side) (own : Option ℕ) (xs : List (Option ℕ)) (k : IsBetween i names notes s r own xs) (item : List Mark) (items : List (List Mark)) (fit : IsStepFit i r item) → are_distinct i.outbox.session.conns ≡ true
    → (g : ItemGoes i names notes k.unswept s r own xs item) → AllGo i names notes g.between.unswept g.state (side_behind i r item) None g.ended items
    → is_led (effects_of i.outbox.session (item ∷ r.both.trace) items) ≡ true → AllGo i names notes k.unswept s r own xs (item ∷ items)
goes_then i names notes s r own xs k item items fit distinct g later led = record {
  state = later.state;
  ended = later.ended;
  between = later.between;
  outbox = later.outbox ∙ ap (steps_after_items (effects_each i.outbox.session (item ∷ r.both.trace) items)) g.outbox;
  room = later.room ∙ g.room;
  few = (let few = g.few.lives in omega (arith, later.few, few));
  stops = (let going = g.few.going in let long = length-append (stops_in r item) (flat_map (stops_in r) items) in omega (arith, later.stops, going, long));
  waits = (let waits = g.waits in omega (arith, later.waits, waits, sent_both (effects_by i r item) (effects_of i.outbox.session (item ∷ r.both.trace) items)));
  notes_kept = (let kept = g.notes_kept in omega (arith, later.notes_kept, kept));
  touched = λ o found p.
      let here = g.touched o found p in
      let all : List ℕ = flat_map (touched_in o) (effects_of i.outbox.session (item ∷ r.both.trace) items) in
      subst (λ (ps : List ℕ). ((of_conn p later.between.unswept.replies ≡ of_conn p k.unswept.replies) × (of_conn p later.between.unswept.noted ≡ of_conn p k.unswept.noted)) ⊎ In p ps) (sym (flat_map-append (touched_in o) (effects_by i r item) (effects_of i.outbox.session (item ∷ r.both.trace) items)))
      (⊎_elim
      (λ same. ⊎_elim (λ before. inl (same.0 ∙ before.0, same.1 ∙ before.1)) (λ inside. inr (in_first (flat_map (touched_in o) (effects_by i r item)) all p inside)) here)
      (λ inside. inr (in_second (flat_map (touched_in o) (effects_by i r item)) all p inside)) (later.touched o found p));
  walk = λ o found acts first late room few.
      let long = length-append (stops_in r item) (flat_map (stops_in r) items) in
      let more = length-append acts (stops_in r item) in
      let same = g.room in
      let waits = g.waits in
      let rooms : g.state.replies.room ≡ s.replies.room = g.between.sizes.replies_room ∙ sym k.sizes.replies_room in
      item_put i names notes s r own xs k item fit distinct g o found acts first late (omega (arith, room, long)) (omega (arith, few, sent_both (effects_by i r item) (effects_of i.outbox.session (item ∷ r.both.trace) items))) (effects_of i.outbox.session (item ∷ r.both.trace) items) led
      ∙ ap (λ (x : State). on_effects false (effects_of i.outbox.session (item ∷ r.both.trace) items) (walk_at o x (acts ++ stops_in r item) g.ended None (side_behind i r item).both.box.sent)) g.put
      ∙ later.walk o found (acts ++ stops_in r item) false refl (omega (arith, room, long, more, same)) (omega (arith, few, waits, rooms, sent_both (effects_by i r item) (effects_of i.outbox.session (item ∷ r.both.trace) items)))
      ∙ ap (λ as'. walk_at o (put_state later.between.unswept later.state) as' later.ended None (side_after i (side_behind i r item) items).both.box.sent) (append_assoc acts (stops_in r item) (flat_map (stops_in r) items));
}

pub first_sound : (i : Interface) (r : Side) (items : List (List Mark)) → AreStepsFit i r items → IsSound i.outbox r.both.box
first_sound i r [] fit = fit
first_sound i r (item ∷ items) fit = fit.0.fit.sound

-- ---- an item

-- what is known of a command that enters
pub record EntersNow (i : Interface) (r : Side) (a : Arrival) (reply : Option Reply) (c : RulesCommand) : Type 0 where
  pub of_it : c.arrival ≡ a
  pub next : c.ticket ≡ length (entered r.both.trace) + 1
  pub unit : c.unit < i.outbox.session.units
  pub silent : reply ≡ None

module _ (i : Interface) (names : List Name) (notes : List Note) (distinct : are_distinct i.outbox.session.conns ≡ true) where
  tail_goes : (s : State) (r : Side) (own : Option ℕ) (xs : List (Option ℕ)) (k : IsBetween i names notes s r own xs) (start : Start) (a : Arrival) (void : Option ℕ) (entering : Option RulesCommand) (reply : Option Reply)
      → IsStepFit i r (plain_item start a void entering reply) → IsSound i.outbox (side_behind i r (plain_item start a void entering reply)).both.box → IsHeaded i names notes s r own xs (plain_item start a void entering reply) start a
      → Each (EntersNow i r a reply) entering → GoesOn i names notes k.unswept s r own xs (plain_item start a void entering reply)
  tail_goes s r own xs k start a void None None fit sound h enters = goes_over i names notes s r own xs k start a void fit distinct sound h
  tail_goes s r own xs k start a void None (Some reply) fit sound h enters =
      goes_sent i names notes s r own xs k (plain_item start a void None (Some reply)) (Some (a.request)) (connection_of a.request) a.event reply fit distinct sound (executed_answering i names notes s r own xs k start a void reply h)
  tail_goes s r own xs k start a void (Some c) None fit sound h enters =
      goes_entered i names notes s r own xs k start a void c fit distinct sound h enters.of_it enters.next enters.unit
      (subst (λ (x : Arrival). EachOf (λ (d : RulesCommand). (d.arrival.event == x.event) ≡ false) (entered r.both.trace)) enters.of_it (fit.enters c (one_enters start a void c)).unarrived)
  tail_goes s r own xs k start a void (Some c) (Some reply) fit sound h enters = absurd (let none : Some reply ≡ None = enters.silent in let no : ⊥ = cc in no)

  -- as its form has it
  entering_now : (r : Side) (t' : Trace) (a : Arrival) (d : Deeds) (e : Option RulesCommand) → length (entered t') ≡ length (entered r.both.trace) → Each (EntersAs i.outbox.session t' a d) e → Each (EntersNow i r a d.reply) e
  entering_now r t' a d None long k = tt
  entering_now r t' a d (Some c) long k = record {
    of_it = ap (λ (x : RulesCommand). x.arrival) k.next;
    next = ap (λ (x : RulesCommand). x.ticket) k.next ∙ ap (λ n. n + 1) long;
    unit = subst (λ n. n < i.outbox.session.units) (ap (λ (x : RulesCommand). x.unit) (sym k.next)) k.below;
    silent = k.silent;
  }

  -- commands leave by it
  leaving_goes : (s : State) (r : Side) (own : Option ℕ) (xs : List (Option ℕ)) (k : IsBetween i names notes s r own xs) (start : Start) (a : Arrival) (void : Option ℕ) (cs : List RulesCommand) (reply : Option Reply)
      → IsStepFit i r (left_item start a void cs reply) → IsSound i.outbox (side_behind i r (left_item start a void cs reply)).both.box → IsHeaded i names notes s r own xs (plain_item start a void None reply) start a
      → ((p : RulesCommand → Bool) → count_by p cs ≤ count_by p (live r.both.trace)) → ItemGoes i names notes k.unswept s r own xs (left_item start a void cs reply)
  leaving_goes s r own xs k start a void cs None fit sound h each = goes_left_over i names notes s r own xs k start a void cs fit distinct sound (headed_left i names notes s r own xs start a void cs None h) each
  leaving_goes s r own xs k start a void cs (Some reply) fit sound h each = goes_left i names notes s r own xs k start a void cs reply fit distinct sound (headed_left i names notes s r own xs start a void cs (Some reply) h) each

  -- a held request is taken out by it
  emptying_goes : (s : State) (r : Side) (own : Option ℕ) (xs : List (Option ℕ)) (k : IsBetween i names notes s r own xs) (start : Start) (a b : Arrival) (conn : ℕ) (reply : Reply)
      → IsStepFit i r (emptied_item start a b conn reply) → IsSound i.outbox (side_behind i r (emptied_item start a b conn reply)).both.box → IsHeaded i names notes s r own xs (plain_item start a None None None) start a
      → held (plain_item start a None None None ∷ r.both.trace) b.number ≡ Some b → ItemGoes i names notes k.unswept s r own xs (emptied_item start a b conn reply)
  emptying_goes s r own xs k start a b conn reply fit sound h is =
      plain_goes i names notes k.unswept s r own xs (emptied_item start a b conn reply) (none_leaves start)
      (goes_sent i names notes s r own xs k (emptied_item start a b conn reply) (Some (a.request)) conn a.event reply fit distinct sound (emptied_answering i names notes s r own xs k start a b conn reply h is (wired start fit.emptied)))
    where
      none_leaves : (x : Start) → filter_map leaving (emptied_item x a b conn reply) ≡ []
      none_leaves AtTurn = refl
      none_leaves AtArrival = refl
      none_leaves AfterWaiting = refl

      wired : (x : Start) → EachOf (λ (y : Arrival). wire y.number ≡ cmd_sn y.request) (filter_map emptying (emptied_item x a b conn reply)) → wire b.number ≡ cmd_sn b.request
      wired AtTurn each = each.0
      wired AtArrival each = each.0
      wired AfterWaiting each = each.0

  pub executed_goes : (s : State) (r : Side) (own : Option ℕ) (xs : List (Option ℕ)) (k : IsBetween i names notes s r own xs) (start : Start) (a : Arrival) (d : Deeds) → Opens i.outbox.session a (marks_done a d) → IsDone i.outbox.session r.both.trace start a d
      → IsStepFit i r (start_mark start a ∷ marks_done a d) → IsSound i.outbox (side_behind i r (start_mark start a ∷ marks_done a d)).both.box
      → ((void : Option ℕ) (entering : Option RulesCommand) (reply : Option Reply) → IsHeaded i names notes s r own xs (plain_item start a void entering reply) start a)
      → ItemGoes i names notes k.unswept s r own xs (start_mark start a ∷ marks_done a d)
  executed_goes s r own xs k start a d (IsEmptying b conn reply is) done fit sound h =
      let same : start_mark start a ∷ marks_done a d ≡ emptied_item start a b conn reply = ap (λ ms. start_mark start a ∷ ms) is in
      let there : In b d.emptied = subst (In b) (ap (filter_map emptying) (sym is) ∙ emptied_seen a d) (inl refl) in
      subst (ItemGoes i names notes k.unswept s r own xs) (sym same)
      (emptying_goes s r own xs k start a b conn reply (subst (IsStepFit i r) same fit) (subst (λ item. IsSound i.outbox (side_behind i r item).both.box) same sound) (h None None None) (done.empties b there))
  executed_goes s r own xs k start a d (IsParting cs bs reply closing ends is apart known_closing) done fit sound h =
      let o = i.outbox.session in
      let item' : List Mark = parted_item start a cs bs reply closing ends in
      let same : start_mark start a ∷ marks_done a d ≡ item' = ap (λ ms. start_mark start a ∷ ms) is in
      let these : d.leaving ≡ cs = sym (leaving_seen a d) ∙ ap (filter_map leaving) is ∙ leaves_parted a cs bs reply closing ends in
      let those : d.emptied ≡ bs = sym (emptied_seen a d) ∙ ap (filter_map emptying) is ∙ empties_parted a cs bs reply closing ends in
      let fit' : IsStepFit i r item' = subst (IsStepFit i r) same fit in
      subst (ItemGoes i names notes k.unswept s r own xs) (sym same)
      (goes_parted i names notes s r own xs k start a cs bs reply closing ends fit' distinct (subst (λ item. IsSound i.outbox (side_behind i r item).both.box) same sound) (h None None None) (λ p. subst (λ ds. count_by p ds ≤ count_by p (live r.both.trace)) these (done.leaves p))
      (in_each (λ (b : Arrival). held (plain_item start a None None None ∷ r.both.trace) b.number ≡ Some b) bs (λ b there. done.empties b (subst (In b) (sym those) there))) apart
      (subst (EachOf (λ (b : Arrival). wire b.number ≡ cmd_sn b.request)) (emptied_parted start a cs bs reply closing ends) fit'.emptied)
      (waits_begun start a (each-weaken (λ (b : Arrival). is_open o r.both.trace (connection_of b.request) ≡ true) (λ (b : Arrival). contains (cids i) (connection_of b.request) ≡ true) (waiting r.both.trace) (λ b is_there. known_cid (connection_of b.request) (and_parts (is_known (connection_of b.request) o.conns) (not (is_closed (connection_of b.request) r.both.trace)) is_there).0) fit'.waits)) known_closing)
    where
      known_cid : (conn : ℕ) → is_known conn i.outbox.session.conns ≡ true → contains (cids i) conn ≡ true
      known_cid conn is' = sym (known_any conn i.outbox.session.conns) ∙ is'

      -- one that begins to execute doesn't wait any more
      waits_begun : (x : Start) (b : Arrival) → EachOf (λ (c : Arrival). contains (cids i) (connection_of c.request) ≡ true) (waiting r.both.trace) → EachOf (λ (c : Arrival). contains (cids i) (connection_of c.request) ≡ true) (waiting (plain_item x b None None None ∷ r.both.trace))
      waits_begun AtTurn b all = all
      waits_begun AtArrival b all = each-filter (λ (c : Arrival). contains (cids i) (connection_of c.request) ≡ true) (λ (c : Arrival). not (c.event == b.event)) (waiting r.both.trace) all
      waits_begun AfterWaiting b all = each-filter (λ (c : Arrival). contains (cids i) (connection_of c.request) ≡ true) (λ (c : Arrival). not (c.event == b.event)) (waiting r.both.trace) all
  executed_goes s r own xs k start a d (IsBare bare) done fit sound head = by_leaving d.leaving refl d.entering refl
    where
      h : IsHeaded i names notes s r own xs (plain_item start a d.void d.entering d.reply) start a
      h = head d.void d.entering d.reply

      marks_are : start_mark start a ∷ marks_done a d ≡ start_mark start a ∷ open_marks a d.void d.leaving d.entering d.reply
      marks_are = ap (λ ms. start_mark start a ∷ ms) (deeds_plain a d bare)

      by_leaving : (cs : List RulesCommand) → d.leaving ≡ cs → (e : Option RulesCommand) → d.entering ≡ e → ItemGoes i names notes k.unswept s r own xs (start_mark start a ∷ marks_done a d)
      by_leaving [] none e is =
          let same : start_mark start a ∷ marks_done a d ≡ plain_item start a d.void d.entering d.reply = marks_are ∙ ap (λ cs. start_mark start a ∷ open_marks a d.void cs d.entering d.reply) none in
          subst (ItemGoes i names notes k.unswept s r own xs) (sym same)
          (plain_goes i names notes k.unswept s r own xs (plain_item start a d.void d.entering d.reply) (leaves_none start a d.void d.entering d.reply)
          (tail_goes s r own xs k start a d.void d.entering d.reply (subst (IsStepFit i r) same fit) (subst (λ item. IsSound i.outbox (side_behind i r item).both.box) same sound) h (entering_now r r.both.trace a d d.entering refl done.enters)))
      by_leaving (c ∷ cs) some None is =
          let same : start_mark start a ∷ marks_done a d ≡ left_item start a d.void d.leaving d.reply = marks_are ∙ ap (λ x. start_mark start a ∷ open_marks a d.void d.leaving x d.reply) is in
          subst (ItemGoes i names notes k.unswept s r own xs) (sym same)
          (leaving_goes s r own xs k start a d.void d.leaving d.reply (subst (IsStepFit i r) same fit) (subst (λ item. IsSound i.outbox (side_behind i r item).both.box) same sound)
          (subst (λ x. IsHeaded i names notes s r own xs (plain_item start a d.void x d.reply) start a) is h) done.leaves)
      by_leaving (c ∷ cs) some (Some e) is =
          let enters : EntersAs i.outbox.session r.both.trace a d e = subst (Each (EntersAs i.outbox.session r.both.trace a d)) is done.enters in
          absurd (let none : d.leaving ≡ [] = enters.stays in let no : ⊥ = cc in no)

  -- one that is due
  pub due_goes : (s : State) (r : Side) (xs : List (Option ℕ)) (k : IsBetween i names notes s r None xs) (item : List Mark) → IsDue i.outbox.session r.both.trace item → IsStepFit i r item → IsSound i.outbox (side_behind i r item).both.box
      → ItemGoes i names notes k.unswept s r None xs item
  due_goes s r xs k item due fit sound =
      subst (ItemGoes i names notes k.unswept s r None xs) (sym due.is)
      (by_start due.start due.due due.done due.opens (subst (IsStepFit i r) due.is fit) (subst (λ ms. IsSound i.outbox (side_behind i r ms).both.box) due.is sound))
    where
      by_start : (start : Start) → IsDueBy r.both.trace start due.a → IsDone i.outbox.session r.both.trace start due.a due.deeds → Opens i.outbox.session due.a (marks_done due.a due.deeds) → IsStepFit i r (start_mark start due.a ∷ marks_done due.a due.deeds)
          → IsSound i.outbox (side_behind i r (start_mark start due.a ∷ marks_done due.a due.deeds)).both.box → ItemGoes i names notes k.unswept s r None xs (start_mark start due.a ∷ marks_done due.a due.deeds)
      by_start AtTurn is done opens fit' sound' = executed_goes s r None xs k AtTurn due.a due.deeds opens done fit' sound' (turn_headed i names notes s r xs k due.a is)
      by_start AtArrival is done opens fit' sound' = absurd is
      by_start AfterWaiting is done opens fit' sound' =
          let w = fit'.waited due.a refl is in
          executed_goes s r None xs k AfterWaiting due.a due.deeds opens done fit' sound'
          (waited_headed i names notes s r xs k distinct due.a w.0 w.1 (fit'.fit.item_sound.known due.a.request refl))

  -- ---- all of them

  -- what follows begins with a request
  pub led_due : (t : Trace) (items : List (List Mark)) → EachOn (IsDue i.outbox.session) t items → is_led (effects_of i.outbox.session t items) ≡ true
  led_due t [] due = refl
  led_due t (item ∷ items) due = ap (λ ms. is_led (effects_of_item i.outbox.session t ms ++ effects_of i.outbox.session (item ∷ t) items)) due.0.is ∙ by_start due.0.start due.0.a (marks_done due.0.a due.0.deeds)
    where
      by_start : (start : Start) (a : Arrival) (ms : List Mark) → is_led (effects_of_item i.outbox.session t (start_mark start a ∷ ms) ++ effects_of i.outbox.session (item ∷ t) items) ≡ true
      by_start AtTurn a ms = refl
      by_start AtArrival a ms = refl
      by_start AfterWaiting a ms = refl

  pub none_more : (s : State) (r : Side) (xs : List (Option ℕ)) (k : IsBetween i names notes s r None xs) → AllGo i names notes k.unswept s r None xs []
  none_more s r xs k = record { state = s; ended = xs; between = k; outbox = refl; room = refl; few = omega arith; stops = omega arith; waits = omega arith; notes_kept = refl; touched = λ o found p. inl (refl, refl); walk = λ o found acts first late room few. ap (λ as'. walk_at o (put_state k.unswept s) as' xs None r.both.box.sent) (sym (append-nil acts)) }

  pub all_due : (items : List (List Mark)) (s : State) (r : Side) (xs : List (Option ℕ)) (k : IsBetween i names notes s r None xs) → EachOn (IsDue i.outbox.session) r.both.trace items → AreStepsFit i r items
      → AllGo i names notes k.unswept s r None xs items
  all_due [] s r xs k due fit = none_more s r xs k
  all_due (item ∷ items) s r xs k due fit =
      let g : ItemGoes i names notes k.unswept s r None xs item = due_goes s r xs k item due.0 fit.0 (first_sound i (side_behind i r item) items fit.1) in
      goes_then i names notes s r None xs k item items fit.0 distinct g (all_due items g.state (side_behind i r item) g.ended g.between due.1 fit.1) (led_due (item ∷ r.both.trace) items due.1)
