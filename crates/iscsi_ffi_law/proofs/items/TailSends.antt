-- A request executes, and is answered: its use is that of the reply that waits.
use Rattle.std.proofs.Common.{◌≡◌, ℕ, ◌+◌, ◌≤◌, ◌==◌, ◌&&◌, Bool, true, false, List, [], ◌∷◌, ◌++◌, length, count_by, Option, Some, None, refl, ap, sym, subst, ◌∙◌, arith, length-set}
use Rattle.iscsi_ffi_law.proofs.requests.KeptCounts.{held_or_waiting}
use Rattle.std.specs.List.{filter_map}
use Rattle.std.proofs.lemmas.List.{append_assoc}
use Rattle.iscsi_wire.specs.declared.reply.Reply.{Reply}
use Rattle.iscsi_wire.specs.Fields.{connection_of}
use Rattle.iscsi_rules.specs.declared.effect.Effect.{Effect}
use Rattle.iscsi_rules.specs.declared.effect.Effect.TheVariants.{Send}
use Rattle.iscsi_rules.specs.rules.Settings.{are_distinct}
use Rattle.iscsi_rules.specs.rules.Trace.{Arrival, Mark, Sends, first_of, waiting}
use Rattle.iscsi_rules.specs.rules.Run.{stat_sn_of}
use Rattle.iscsi_rules.proofs.general.CountLemmas.{one}
use Rattle.iscsi_rules.proofs.items.Forms.{Start}
use Rattle.iscsi_rules.proofs.traces.NewlyLemmas.{Untouched, newly-untouched}
use Rattle.iscsi_outbox_rules.specs.rules.Boxes.{Box, Link}
use Rattle.iscsi_outbox_rules.specs.rules.Due.{settle}
use Rattle.iscsi_outbox_rules.specs.rules.Items.{after_item, phase_enabled, reply_sent, send}
use Rattle.iscsi_outbox_rules.specs.rules.Queues.{takes_more}
use Rattle.iscsi_outbox_rules.specs.rules.Run.{new_link}
use Rattle.iscsi_outbox_rules.specs.rules.Words.{is_running}
use Rattle.iscsi_outbox_law.specs.private.Commands.{link_in}
use Rattle.iscsi_outbox_law.specs.private.Sound.{IsSound}
use Rattle.iscsi_outbox_steps.specs.State.{State as OutboxState, place_of}
use Rattle.iscsi_outbox_steps.specs.Steps.{after_item as steps_after_item}
use Rattle.iscsi_requests.specs.Conns.{of_conn}
use Rattle.iscsi_requests.specs.Replies.{pushed}
use Rattle.iscsi_ffi_rules.specs.declared.action.Action.{Action}
use Rattle.iscsi_ffi_rules.specs.rules.Calls.{Interface}
use Rattle.iscsi_ffi_rules.specs.rules.Run.{cids}
use Rattle.iscsi_ffi_rules.specs.rules.Sides.{Side}
use Rattle.iscsi_ffi_steps.specs.State.{State}
use Rattle.iscsi_ffi_steps.specs.Walk.{Walk, may_wait, on_effect, on_effects}
use Rattle.iscsi_ffi_law.specs.Arrived.{AreDistinct, IsSendFit, IsStepFit, effects_by, is_late, side_behind}
use Rattle.iscsi_ffi_law.specs.Names.{Name, Note, place_named}
use Rattle.iscsi_ffi_law.specs.Stands.{AreRequests}
use Rattle.iscsi_ffi_law.specs.Uses.{count_functions, count_held, count_lists, is_place}
use Rattle.iscsi_ffi_law.proofs.items.Between.{IsBetween, IsFound, IsHeaded, distinct_same, held_same, pending_of}
use Rattle.iscsi_ffi_law.proofs.events.Unswept.{is_some_effect, more_count, unswept_at}
use Rattle.iscsi_ffi_law.proofs.completions.DoneShape.{enables}
use Rattle.iscsi_ffi_law.proofs.items.QuietItems.{IsUnheld, is_held_on}
use Rattle.iscsi_ffi_law.proofs.arrivals.Slots.{slots_same}
use Rattle.iscsi_outbox_law.specs.private.Pairs.{EachOf}
use Rattle.iscsi_outbox_law.proofs.general.PairLemmas.{each-weaken}
use Rattle.iscsi_requests.specs.Functions.{WaitingFunctions}
use Rattle.iscsi_requests.specs.declared.functions.WaitingFunction.{WaitingFunction}
use Rattle.iscsi_requests.specs.Numbers.{HeldNumbers, size_for}
use Rattle.iscsi_wire.specs.declared.request.Request.{Request}
use Rattle.iscsi_ffi_law.specs.Parts.{AreFunctions, AreHeld, IsNote, IsRequest}
use Rattle.iscsi_ffi_rules.specs.rules.Happening.{answers_in}
use Rattle.iscsi_ffi_rules.specs.declared.action.StopReason.{StopReason}
use Rattle.iscsi_ffi_law.proofs.items.QuietBox.{IsQuietPart}
use Rattle.iscsi_ffi_law.proofs.completions.DoneRoom.{may_wait_more}
use Rattle.iscsi_ffi_law.proofs.calls.Finish.{as_many_links}
use Rattle.iscsi_ffi_law.proofs.general.Members.{PassingAt}
use Rattle.iscsi_ffi_law.proofs.calls.Moved.{all_queued}
use Rattle.iscsi_ffi_law.proofs.items.Plain.{answers_plain, effects_plain, plain_effects, plain_item, quiet_plain, untouched_plain, void_effects}
use Rattle.iscsi_ffi_law.proofs.calls.Quiet.{settled_tasks}
use Rattle.iscsi_ffi_law.proofs.items.QuietBox.{none_turned, quiet_item, sent_tasks}
use Rattle.iscsi_ffi_law.proofs.items.QuietRequests.{entered_on, requests_on}
use Rattle.iscsi_ffi_law.proofs.items.QuietSends.{sends_reply}
use Rattle.iscsi_ffi_law.proofs.requests.Releases.{endings}
use Rattle.iscsi_ffi_law.proofs.requests.Releasing.{ending}
use Rattle.iscsi_ffi_law.proofs.items.ReplyPlace.{conn_is as reply_conn, place_is as reply_place, takes_it as reply_takes, there as reply_there}
use Rattle.iscsi_ffi_law.proofs.items.ReplyRequests.{IsReplied, requests_replied}
use Rattle.iscsi_ffi_law.proofs.items.Stepping.{GoesOn, last_then, places_same, runs_then, stands_then, still_clear}
use Rattle.iscsi_ffi_law.proofs.items.TailOver.{voids_past}
use Rattle.iscsi_ffi_law.proofs.items.Framing.{some_first}
use Rattle.iscsi_ffi_law.proofs.items.Walking.{is_led, led_end, sends_walk, walk_at, walk_in}

-- uses that have ended in an event are of requests that aren't held, also where the one that executes isn't any more
pub over_still : (i : Interface) (names : List Name) (notes : List Note) (s : State) (r : Side) (own : Option ℕ) (xs : List (Option ℕ)) (k : IsBetween i names notes s r own xs) (item : List Mark) (start : Start) (a : Arrival) (h : IsHeaded i names notes s r own xs item start a)
    → (p : ℕ) → 1 ≤ endings xs p → count_by (is_place p) h.held.places + count_lists (λ (f : WaitingFunction). f.request == p) h.functions.waiting ≡ 0
over_still i names notes s r own xs k item start a h p some = by_own own refl
  where
    by_own : (x : Option ℕ) → own ≡ x → count_by (is_place p) h.held.places + count_lists (λ (f : WaitingFunction). f.request == p) h.functions.waiting ≡ 0
    by_own None is = let nothing : ending own p ≡ 0 = ap (λ z. ending z p) is in let before = k.over p some in omega (arith, h.uses p, nothing, before)
    by_own (Some q) is = absurd (let first : endings xs p ≡ 0 = ap (λ ys. endings ys p) (k.own_first q is) in let no : ⊥ = omega (arith, some, first) in no)

-- a request is answered by the item: it has a use that isn't any yet, which comes to be that of its reply; `ended`: the uses that have ended behind it
pub record IsAnswering (i : Interface) (names : List Name) (notes : List Note) (s : State) (r : Side) (own : Option ℕ) (xs : List (Option ℕ)) (item : List Mark) (x : Option Request) (cid event : ℕ) (reply : Reply) : Type 0 where
  pub held : HeldNumbers
  pub functions : WaitingFunctions
  pub place : ℕ
  pub ended : List (Option ℕ)
  pub sn : ℕ
  pub effects : List Effect
  pub current : Option ℕ
  pub own_then : Option ℕ
  pub by : Option StopReason
  pub untouched : Untouched item
  pub effects_are : effects_by i r item ≡ effects
  pub part : IsQuietPart effects x (Some (cid, reply))
  pub answers : answers_in r.both.event item ≡ event ∷ []
  pub long : length held.places ≡ length s.held.places
  pub long_functions : length functions.waiting ≡ length s.functions.waiting
  pub functions_are : AreFunctions (cids i) names functions (waiting (item ∷ r.both.trace))
  pub named : place_named names event ≡ Some place
  pub uses : (p : ℕ) → count_by (is_place p) held.places + count_lists (λ (f : WaitingFunction). f.request == p) functions.waiting + (one (place == p) + endings ended p) ≡ count_held p s + count_functions p s + (ending own p + endings xs p)
  pub few : length ended + held_or_waiting held functions ≤ length xs + held_or_waiting s.held s.functions + 1
  pub requests : EachOf (IsRequest (record s { held = held; functions = functions }) (item ∷ r.both.trace)) names
  pub noted : EachOf (IsNote (record s { held = held; functions = functions }) r.both.box.links) notes
  pub slots : AreHeld (size_for i.outbox.session.window) s.commands.room names held (item ∷ r.both.trace)
  pub distinct : AreDistinct (item ∷ r.both.trace)
  pub over : (p : ℕ) → 1 ≤ endings ended p → count_by (is_place p) held.places + count_lists (λ (f : WaitingFunction). f.request == p) functions.waiting ≡ 0
  pub some : is_some_effect effects ≡ true
  pub of_it : ◌≡◌ {A = Option ℕ} (elim current [ Some q ↦ Some q | None ↦ own_then ]) (Some place)
  pub walk : (o : OutboxState) → IsFound i o → (acts : List Action) (first : Bool) → (first && is_late r.both.event item) ≡ false → (rest : List Effect) (sent : ℕ)
      → on_effects first (effects ++ rest) (walk_at o s acts xs own sent) ≡ on_effects false rest (on_effect false (Send cid sn reply) (walk_in o (record s { held = held; functions = functions }) acts ended current own_then by sent))

module _ (i : Interface) (names : List Name) (notes : List Note) (s : State) (r : Side) (own : Option ℕ) (xs : List (Option ℕ)) (k : IsBetween i names notes s r own xs) (item : List Mark) (x : Option Request) (cid event : ℕ) (reply : Reply)
    (fit : IsStepFit i r item) (distinct : are_distinct i.outbox.session.conns ≡ true) (sound : IsSound i.outbox (side_behind i r item).both.box) (h : IsAnswering i names notes s r own xs item x cid event reply) where
  abbrev sent_box : Box
  sent_box = send i.outbox x [] [] [] (Some (cid, reply)) r.both.box

  box_is : after_item i.outbox r.both.box (effects_by i r item) ≡ settle i.outbox sent_box
  box_is = ap (after_item i.outbox r.both.box) h.effects_are ∙ quiet_item i.outbox r.both.box h.effects x (Some (cid, reply)) h.part

  abbrev sends : IsSendFit i.outbox r.both.box cid
  sends = fit.sends cid reply (ap (λ (es : List Effect). first_of (filter_map reply_sent es)) h.effects_are ∙ h.part.sends)

  abbrev there : PassingAt (λ (l : Link). l.conn == cid && takes_more l) r.both.box.links (new_link 0)
  there = reply_there i.outbox s.outbox r.both.box k.outbox distinct cid sends.takes

  conn_is : (link_in r.both.box.links there.place).conn ≡ cid
  conn_is = reply_conn i.outbox s.outbox r.both.box k.outbox distinct cid sends.takes

  takes_it : takes_more (link_in r.both.box.links there.place) ≡ true
  takes_it = reply_takes i.outbox s.outbox r.both.box k.outbox distinct cid sends.takes

  place_is : place_of s.outbox cid ≡ Some (there.place)
  place_is = reply_place i.outbox s.outbox r.both.box k.outbox distinct cid sends.takes

  long : length s.replies.waiting ≡ length r.both.box.links
  long = k.sizes.replies ∙ sym (as_many_links i s r k.outbox)

  abbrev outbox' : OutboxState
  outbox' = steps_after_item (effects_by i r item) s.outbox

  abbrev s1 : State
  s1 = record s { held = h.held; functions = h.functions }

  abbrev r1 : Side
  r1 = record r { both = record r.both { trace = item ∷ r.both.trace } }

  abbrev pending1 : ℕ → ℕ
  pending1 q = one (h.place == q) + endings h.ended q + unswept_at k.unswept q

  requests1 : AreRequests names notes pending1 k.gone s1 r1
  requests1 = requests_on names notes (pending_of k.unswept own xs) k.gone s r k.requests item h.untouched r.both.event h.held h.functions pending1 (λ q. omega (arith, h.uses q)) h.requests h.noted

  replied : IsReplied names s1 r1 event there.place h.place (after_item i.outbox r.both.box (effects_by i r item))
  replied = subst (IsReplied names s1 r1 event there.place h.place) (sym (box_is ∙ ap (settle i.outbox) (sym (none_turned phase_enabled sent_box))))
      (sends_reply i names s1 r1 requests1.answers (all_queued i names notes pending1 k.gone s1 r1 requests1 k.outbox distinct fit.fit.sound) [] event there.place h.place cid there.within conn_is takes_it sends.takes long h.named x reply [] [])

  runs : (ticket : ℕ) → is_running (after_item i.outbox r.both.box (effects_by i r item)) ticket ≡ is_running r.both.box ticket
  runs ticket =
      ap (λ (b : Box). is_running b ticket) box_is
      ∙ ap (λ ts. is_running (record r.both.box { tasks = ts }) ticket) (settled_tasks i.outbox [] sent_box.undue sent_box ∙ sent_tasks i.outbox x (Some (cid, reply)) r.both.box)

  abbrev state' : State
  state' = record s { held = h.held; functions = h.functions; outbox = steps_after_item (effects_by i r item) s.outbox; replies = pushed there.place (record { log_place = r.both.box.sent; request = h.place }) s.replies }

  requests2 : AreRequests names notes (pending_of k.unswept None h.ended) k.gone state' (side_behind i r item)
  requests2 = subst (λ as'. AreRequests names notes (pending_of k.unswept None h.ended) k.gone state' (record (side_behind i r item) { answers = r.answers ++ as' })) (sym h.answers)
      (requests_replied names notes pending1 (pending_of k.unswept None h.ended) k.gone s1 r1 requests1 event there.place h.place (λ q. omega arith) there.within long h.named sends.handed outbox' (after_item i.outbox r.both.box (effects_by i r item))
      (runs_then i names notes s r own xs k item fit.fit distinct sound runs) replied)

  between : IsBetween i names notes state' (side_behind i r item) None h.ended
  between = record {
    requests = requests2;
    slots = h.slots;
    functions = h.functions_are;
    unswept = k.unswept;
    gone = k.gone;
    long_replies = k.long_replies;
    long_noted = k.long_noted;
    clear = still_clear i names notes s r own xs k item fit.fit distinct sound;
    outbox = stands_then i names notes s r own xs k item fit.fit distinct sound;
    sizes = record {
      room = k.sizes.room;
      functions = h.long_functions ∙ k.sizes.functions;
      replies = length-set s.replies.waiting there.place (of_conn there.place s.replies.waiting ++ record { log_place = r.both.box.sent; request = h.place } ∷ []) ∙ k.sizes.replies;
      noted = k.sizes.noted;
      unwritten = k.sizes.unwritten;
      noted_room = k.sizes.noted_room;
      unwritten_room = k.sizes.unwritten_room;
      replies_room = k.sizes.replies_room;
      slots = (let l = h.long in let some = k.sizes.slots in omega (arith, l, some));
      few = k.sizes.few;
    };
    flags = record { awake = k.flags.awake; over = k.flags.over };
    counts = record { units = k.counts.units; last = (let same = ap length (entered_on r.both.trace item h.untouched) in let below = k.counts.last in omega (arith, same, below)); tracked = last_then i names notes s r own xs k item fit.fit distinct sound };
    withheld = k.withheld;
    distinct = h.distinct;
    over = h.over;
    own_named = λ q none. absurd (let no : ⊥ = cc in no);
    own_unheld = λ q none. absurd (let no : ⊥ = cc in no);
    own_first = λ q none. absurd (let no : ⊥ = cc in no);
  }

  may : may_wait r.both.box.sent s.replies ≡ true
  may = may_wait_more i names notes pending1 k.gone s1 r1 requests1 k.outbox
      (record { room = k.sizes.room; functions = h.long_functions ∙ k.sizes.functions; replies = k.sizes.replies; noted = k.sizes.noted; unwritten = k.sizes.unwritten; noted_room = k.sizes.noted_room; unwritten_room = k.sizes.unwritten_room; replies_room = k.sizes.replies_room; slots = (let l = h.long in let some = k.sizes.slots in omega (arith, l, some)); few = k.sizes.few })
      sends.sent sends.replies

  walk : (o : OutboxState) → IsFound i o → (acts : List Action) (first : Bool) → (first && is_late r.both.event item) ≡ false → (rest : List Effect) → is_led rest ≡ true
      → on_effects first (effects_by i r item ++ rest) (walk_at o s acts xs own r.both.box.sent) ≡ on_effects false rest (walk_at o state' acts h.ended None (side_behind i r item).both.box.sent)
  walk o limits acts first late rest led =
      ap (λ es. on_effects first (es ++ rest) (walk_at o s acts xs own r.both.box.sent)) h.effects_are
      ∙ h.walk o limits acts first late rest r.both.box.sent
      ∙ ap (on_effects false rest)
      (sends_walk o s1 acts h.ended cid h.sn there.place h.place reply h.current h.own_then h.by r.both.box.sent (places_same i names notes s r own xs k item fit.fit distinct sound o limits cid ∙ place_is) h.of_it may
      (let lt = sends.sent in omega (arith, lt)))
      ∙ led_end rest led after_send
      ∙ ap (λ n. on_effects false rest (walk_at o state' acts h.ended None n)) (sym replied.sent)
    where
      after_send : Walk
      after_send = walk_in o (record s1 { replies = pushed there.place (record { log_place = r.both.box.sent; request = h.place }) s.replies }) acts h.ended None None h.by (r.both.box.sent + 1)

  pub goes_sent : GoesOn i names notes k.unswept s r own xs item
  unfolding between
  goes_sent = record {
    state = state';
    ended = h.ended;
    between = between;
    outbox = refl;
    room = refl;
    few = record { lives = (let few = h.few in omega (arith, few)); going = omega arith };
    same = refl;
    begins = ap is_some_effect h.effects_are ∙ h.some;
    waits = (let more = more_count s.replies.waiting there.place (record { log_place = r.both.box.sent; request = h.place }) in let some = some_first (filter_map reply_sent (effects_by i r item)) (cid, reply) (ap (λ (es : List Effect). first_of (filter_map reply_sent es)) h.effects_are ∙ h.part.sends) in omega (arith, more, some));
    notes_kept = refl;
    walk = λ o limits acts first late rest led. walk o limits acts first late rest led;
  }

-- ---- a request that executes

module _ (i : Interface) (names : List Name) (notes : List Note) (s : State) (r : Side) (own : Option ℕ) (xs : List (Option ℕ)) (k : IsBetween i names notes s r own xs) (start : Start) (a : Arrival) (void : Option ℕ) (reply : Reply)
    (h : IsHeaded i names notes s r own xs (plain_item start a void None (Some reply)) start a) where
  abbrev number : ℕ
  number = stat_sn_of i.outbox.session r.both.trace (connection_of a.request)

  pub executed_answering : IsAnswering i names notes s r own xs (plain_item start a void None (Some reply)) (Some (a.request)) (connection_of a.request) a.event reply
  executed_answering = record {
    held = h.held;
    functions = h.functions;
    place = h.place;
    ended = xs;
    sn = number;
    effects = plain_effects number start a void None (Some reply) [];
    current = Some (h.place);
    own_then = None;
    by = Some (h.by);
    untouched = untouched_plain start a void (Some reply);
    effects_are = effects_plain i.outbox.session r.both.trace start a void None (Some reply)
        ∙ ap (plain_effects number start a void None (Some reply)) (newly-untouched i.outbox.session r.both.trace (plain_item start a void None (Some reply)) (untouched_plain start a void (Some reply)));
    part = quiet_plain number start a void (Some reply);
    answers = answers_plain r.both.event start a void None (Some reply);
    long = h.long;
    long_functions = h.long_functions;
    functions_are = h.functions_are;
    named = h.named;
    uses = h.uses;
    few = (let fewer = h.fewer in omega (arith, fewer));
    requests = h.requests;
    noted = h.noted;
    slots = h.slots;
    distinct = h.distinct;
    over = over_still i names notes s r own xs k (plain_item start a void None (Some reply)) start a h;
    some = refl;
    of_it = refl;
    walk = λ o limits acts first late rest sent.
        ap (λ w. on_effects false ((void_effects void ++ (Send (connection_of a.request) number reply ∷ [])) ++ rest) w) (h.walk o limits acts first sent late)
        ∙ ap (λ es. on_effects false es (walk_in o (record s { held = h.held; functions = h.functions }) acts xs (Some (h.place)) None (Some (h.by)) sent)) (append_assoc (void_effects void) (Send (connection_of a.request) number reply ∷ []) rest)
        ∙ voids_past void (Send (connection_of a.request) number reply ∷ rest) (walk_in o (record s { held = h.held; functions = h.functions }) acts xs (Some (h.place)) None (Some (h.by)) sent);
  }

-- ---- one that is rejected for its opcode

module _ (i : Interface) (names : List Name) (notes : List Note) (s : State) (r : Side) (place : ℕ) (xs : List (Option ℕ)) (k : IsBetween i names notes s r (Some place) xs) (cid : ℕ) (reply : Reply) where
  abbrev rejection : List Mark
  rejection = Sends cid reply ∷ []

  u : Untouched rejection
  u = record { enters_none = refl; leaves_no = λ n. refl }

  v : IsUnheld rejection
  v = record { admits = refl; admits_none = λ n. refl; delivers = λ n. refl; empties = λ n. refl }

  pub rejected_answering : IsAnswering i names notes s r (Some place) xs (Sends cid reply ∷ []) None cid r.both.event reply
  rejected_answering = record {
    held = s.held;
    functions = s.functions;
    place = place;
    ended = xs;
    sn = stat_sn_of i.outbox.session r.both.trace cid;
    effects = Send cid (stat_sn_of i.outbox.session r.both.trace cid) reply ∷ [];
    current = None;
    own_then = Some place;
    by = None;
    untouched = u;
    effects_are = ap (λ ns. Send cid (stat_sn_of i.outbox.session r.both.trace cid) reply ∷ enables ns) (newly-untouched i.outbox.session r.both.trace rejection u);
    part = record { enables = refl; left = refl; entries = refl; entering = λ x. refl; closing = λ links. refl; executes = refl; sends = refl };
    answers = refl;
    long = refl;
    long_functions = refl;
    functions_are = k.functions;
    named = k.own_named place refl;
    uses = λ p. omega arith;
    few = omega arith;
    requests = each-weaken (IsRequest s r.both.trace) (IsRequest s (rejection ∷ r.both.trace)) names (λ n e. record { held = is_held_on r.both.trace rejection v n.event ∙ e.held; waiting = e.waiting }) k.requests.named;
    noted = k.requests.noted_apart;
    slots = slots_same (size_for i.outbox.session.window) s.commands.room names s.held r.both.trace (rejection ∷ r.both.trace) (held_same r.both.trace rejection v) k.slots;
    distinct = distinct_same r.both.trace rejection v (λ e. omega arith) k.distinct;
    over = λ p some. k.over p some;
    some = refl;
    of_it = refl;
    walk = λ o limits acts first late rest sent. refl;
  }
