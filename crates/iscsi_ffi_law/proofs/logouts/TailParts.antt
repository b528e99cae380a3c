-- A Logout executes: it is answered, what it takes out is over, and of the connections that it closes the one on which it came takes more still; what waits on another one is to be swept.
use Rattle.std.proofs.Common.{◌≡◌, ℕ, ◌+◌, ◌<◌, ◌≤◌, ◌==◌, ◌&&◌, cond, Bool, true, false, List, [], ◌∷◌, ◌++◌, length, map, count_by, filter_map, Option, Some, None, inl, refl, ap, sym, subst, ◌∙◌, arith, append_assoc, length-append, length-set, set, ⊎_elim, inr}
use Rattle.iscsi_ffi_commands.specs.Commands.{Commands}
use Rattle.iscsi_ffi_law.proofs.completions.DonePhases.{runs_at}
use Rattle.std.specs.List.{flat_map, list_any}
use Rattle.std.proofs.lemmas.List.{append-nil, length-map}
use Rattle.iscsi_wire.specs.declared.reply.Reply.{Reply}
use Rattle.iscsi_wire.specs.Fields.{cmd_sn, connection_of}
use Rattle.iscsi_wire.specs.Serial.{wire}
use Rattle.iscsi_rules.specs.declared.effect.Effect.{Effect}
use Rattle.iscsi_rules.specs.declared.effect.Effect.TheVariants.{Send}
use Rattle.iscsi_rules.specs.rules.Run.{newly_enabled, stat_sn_of}
use Rattle.iscsi_rules.specs.rules.Settings.{are_distinct, is_known}
use Rattle.iscsi_rules.specs.rules.Trace.{Arrival, Command as RulesCommand, Mark, first_of, held, live, waiting}
use Rattle.iscsi_rules.proofs.general.CountLemmas.{one}
use Rattle.iscsi_rules.proofs.items.Forms.{AfterWaiting, AtArrival, AtTurn, Start, start_mark}
use Rattle.iscsi_outbox_rules.specs.rules.Boxes.{Box, Handed, Link}
use Rattle.iscsi_outbox_rules.specs.rules.Items.{after_item, close_all, newly_closed, reply_sent}
use Rattle.iscsi_outbox_rules.specs.rules.Queues.{takes_more, without}
use Rattle.iscsi_outbox_rules.specs.rules.Run.{new_link}
use Rattle.iscsi_outbox_rules.specs.rules.Words.{contains}
use Rattle.iscsi_outbox_law.specs.private.Commands.{link_in}
use Rattle.iscsi_outbox_law.specs.private.Pairs.{EachOf, InOrder, PairsOf}
use Rattle.iscsi_outbox_law.specs.private.Sound.{IsSound}
use Rattle.iscsi_outbox_law.proofs.general.PairLemmas.{each-map, each-weaken}
use Rattle.iscsi_outbox_steps.specs.State.{State as OutboxState}
use Rattle.iscsi_outbox_steps.specs.Steps.{after_item as steps_after_item, as_list}
use Rattle.iscsi_requests.specs.Conns.{of_conn}
use Rattle.iscsi_requests.specs.Functions.{WaitingFunctions}
use Rattle.iscsi_requests.specs.Numbers.{HeldNumbers}
use Rattle.iscsi_requests.specs.Replies.{pushed}
use Rattle.iscsi_ffi_rules.specs.declared.action.Action.{Action}
use Rattle.iscsi_ffi_rules.specs.rules.Calls.{Interface}
use Rattle.iscsi_ffi_rules.specs.rules.Happening.{stops_in}
use Rattle.iscsi_ffi_rules.specs.rules.Run.{cids}
use Rattle.iscsi_ffi_rules.specs.rules.Sides.{Side}
use Rattle.iscsi_ffi_steps.specs.State.{State}
use Rattle.iscsi_ffi_steps.specs.Walk.{Walk, may_wait, on_effects}
use Rattle.iscsi_ffi_law.specs.Arrived.{IsItemFit, IsSendFit, IsStepFit, effects_by, is_late, side_behind}
use Rattle.iscsi_ffi_law.specs.Names.{Name, Note}
use Rattle.iscsi_ffi_law.specs.Parts.{IsBefore}
use Rattle.iscsi_ffi_law.specs.Stands.{AreRequests}
use Rattle.iscsi_ffi_law.proofs.items.Between.{IsBetween, IsFound, IsHeaded, pending_of}
use Rattle.iscsi_ffi_law.proofs.events.Unswept.{Unswept, is_some_effect, joined, joined_at, joined_set, more_count, put_state, unswept_at}
use Rattle.iscsi_ffi_law.proofs.logouts.ClosingBox.{IsPartingPart, parting_item, parts_runs}
use Rattle.iscsi_ffi_law.proofs.completions.DoneRoom.{may_wait_more}
use Rattle.iscsi_ffi_law.proofs.completions.DoneShape.{enables, tickets_of}
use Rattle.iscsi_ffi_law.proofs.logouts.DroppingEach.{functions_off, places_from, places_off}
use Rattle.iscsi_ffi_law.proofs.calls.Finish.{as_many_links}
use Rattle.iscsi_ffi_law.proofs.aborts.Leaving.{leave_effects}
use Rattle.iscsi_ffi_law.proofs.aborts.LeavingBox.{left_box}
use Rattle.iscsi_ffi_law.proofs.aborts.LeavingBy.{LeavesBy, endings_append, few2, leaves_on, over2, queued2, requests2, those}
use Rattle.iscsi_ffi_law.proofs.aborts.LeavingCommands.{ended_by, entered_left, gone_by}
use Rattle.iscsi_ffi_law.proofs.general.Members.{PassingAt}
use Rattle.iscsi_ffi_law.proofs.logouts.Parting.{answers_parted, close_effects, conns_parted, effects_parted, enters_parted, executed_parted, leaving_parted, parted_effects, parted_item, part_parted, tickets_parted, parted_marks}
use Rattle.iscsi_ffi_law.proofs.logouts.PartingOut.{close_walk, closed_conns, closed_pairs, closed_places, emptied, pairs_within, parted_out}
use Rattle.iscsi_ffi_law.proofs.items.Plain.{plain_item}
use Rattle.iscsi_ffi_law.proofs.items.QuietSends.{sends_reply}
use Rattle.iscsi_ffi_law.proofs.requests.Releases.{endings}
use Rattle.iscsi_ffi_law.proofs.items.ReplyPlace.{conn_is as reply_conn, place_is as reply_place, takes_it as reply_takes, there as reply_there}
use Rattle.iscsi_ffi_law.proofs.items.ReplyRequests.{IsReplied, requests_replied}
use Rattle.iscsi_ffi_law.proofs.items.Stepping.{ItemGoes, last_then, places_same, stands_then}
use Rattle.iscsi_ffi_law.proofs.aborts.TailLeaves.{links_dropped}
use Rattle.iscsi_ffi_law.proofs.items.TakingOut.{empty_effects, headed_out}
use Rattle.iscsi_ffi_law.proofs.items.Waited.{IsCid}
use Rattle.iscsi_ffi_law.proofs.items.Framing.{some_first, touched_in}
use Rattle.iscsi_ffi_law.proofs.logouts.ClosingEach.{IsClosedTo, all_closed}
use Rattle.iscsi_ffi_law.proofs.logouts.ClosingPlaces.{HasPlace, closes_placed, parted_touched}
use Rattle.iscsi_outbox_law.proofs.general.PlaceLemmas.{IsPlace, any_at}
use Rattle.iscsi_rules.proofs.general.ElementLemmas.{In}
use Rattle.iscsi_requests.specs.declared.replies.WaitingReply.{WaitingReply}
use Rattle.iscsi_ffi_law.proofs.items.Walking.{enables_past, is_led, led_end, sends_walk, walk_at, walk_in}

late_same : (now : ℕ) (start : Start) (a : Arrival) (ms : List Mark) → is_late now (start_mark start a ∷ ms) ≡ is_late now (plain_item start a None None None)
late_same now AtTurn a ms = refl
late_same now AtArrival a ms = refl
late_same now AfterWaiting a ms = refl

-- they are in the same places in the outbox that the event found
module _ (i : Interface) (names : List Name) (notes : List Note) (s : State) (r : Side) (own : Option ℕ) (xs : List (Option ℕ)) (k : IsBetween i names notes s r own xs) (item : List Mark) (fit : IsItemFit i.outbox r.both.box (effects_by i r item)) (distinct : are_distinct i.outbox.session.conns ≡ true) (sound : IsSound i.outbox (side_behind i r item).both.box) where
  pub same_places : (closing : Option ℕ) (ends : Bool) (o : OutboxState) → IsFound i o → closed_places o (cids i) closing ends ≡ closed_places s.outbox (cids i) closing ends
  same_places None ends o found = refl
  same_places (Some conn) ends o found = ap (λ (x : Option ℕ). as_list x ++ cond ends (places_from 0 (cids i)) []) (places_same i names notes s r own xs k item fit distinct sound o found conn)

module _ (i : Interface) (names : List Name) (notes : List Note) (s : State) (r : Side) (own : Option ℕ) (xs : List (Option ℕ)) (k : IsBetween i names notes s r own xs) (start : Start) (a : Arrival) (cs : List RulesCommand) (bs : List Arrival) (reply : Reply) (closing : Option ℕ) (ends : Bool)
    (fit : IsStepFit i r (parted_item start a cs bs reply closing ends)) (distinct : are_distinct i.outbox.session.conns ≡ true) (sound : IsSound i.outbox (side_behind i r (parted_item start a cs bs reply closing ends)).both.box)
    (h : IsHeaded i names notes s r own xs (plain_item start a None None None) start a) (each : (p : RulesCommand → Bool) → count_by p cs ≤ count_by p (live r.both.trace))
    (held_there : EachOf (λ (b : Arrival). held (plain_item start a None None None ∷ r.both.trace) b.number ≡ Some b) bs) (apart : InOrder (λ (b c : Arrival). (b.number == c.number) ≡ false) bs) (wired : EachOf (λ (b : Arrival). wire b.number ≡ cmd_sn b.request) bs)
    (known : EachOf (λ (b : Arrival). contains (cids i) (connection_of b.request) ≡ true) (waiting (plain_item start a None None None ∷ r.both.trace))) (known_closing : (conn : ℕ) → closing ≡ Some conn → is_known conn i.outbox.session.conns ≡ true) where
  abbrev item : List Mark
  item = parted_item start a cs bs reply closing ends

  abbrev cid : ℕ
  cid = connection_of a.request

  abbrev sn : ℕ
  sn = stat_sn_of i.outbox.session r.both.trace (connection_of a.request)

  abbrev ns : List RulesCommand
  ns = newly_enabled i.outbox.session r.both.trace (parted_item start a cs bs reply closing ends)

  abbrev es : List Effect
  es = parted_effects sn start a cs bs reply closing ends ns

  abbrev conns : List ℕ
  conns = conns_parted r.both.box.links closing ends

  effects_are : effects_by i r (parted_item start a cs bs reply closing ends) ≡ es
  effects_are = effects_parted i.outbox.session r.both.trace start a cs bs reply closing ends

  part : IsPartingPart r.both.box.links es a.request cs ns (Some (cid, reply)) conns
  part = part_parted r.both.box.links sn start a cs bs reply closing ends ns

  abbrev ps : List ℕ
  ps = closed_places s.outbox (cids i) closing ends

  pairs : PairsOf (IsCid i) (closed_conns i closing ends) ps
  pairs = closed_pairs i names notes s r own xs k distinct closing ends known_closing

  within_each : EachOf (λ p. p < length h.functions.waiting) ps
  within_each = let l = h.long_functions in let m = k.sizes.functions in each-weaken (λ p. p < length (cids i)) (λ p. p < length h.functions.waiting) ps (λ p lt. omega (arith, lt, l, m)) (pairs_within i (closed_conns i closing ends) ps pairs)

  abbrev places : List (Option ℕ)
  places = (emptied i names notes s r own xs k start a (Some (h.place)) h.held h.functions (headed_out i names notes s r own xs k start a h) cs bs reply closing ends held_there apart wired known ps pairs).places

  abbrev v : HeldNumbers
  v = (emptied i names notes s r own xs k start a (Some (h.place)) h.held h.functions (headed_out i names notes s r own xs k start a h) cs bs reply closing ends held_there apart wired known ps pairs).held_then

  abbrev waits : List (Option ℕ)
  waits = places_off ps h.functions

  abbrev fs : WaitingFunctions
  fs = functions_off ps h.functions

  abbrev zs : List (Option ℕ)
  zs = places ++ waits

  leaves_by : LeavesBy i names notes s r own xs (parted_item start a cs bs reply closing ends) a cs (Some (h.place)) h.by v fs zs
  leaves_by = record {
    none_enters = enters_parted start a cs bs reply closing ends;
    left_by = λ n. tickets_parted start a cs bs reply closing ends n;
    leaving_is = leaving_parted start a cs bs reply closing ends;
    executed = executed_parted start a cs bs reply closing ends;
    others_run = λ n other. ap (λ (b : Box). list_any (runs_at n) b.tasks) (ap (after_item i.outbox r.both.box) effects_are) ∙ parts_runs i.outbox r.both.box a.request cs ns (Some (cid, reply)) conns es part n other;
    named = h.named;
    why = h.why;
    out = parted_out i names notes s r own xs k start a (Some (h.place)) h.held h.functions (headed_out i names notes s r own xs k start a h) cs bs reply closing ends held_there apart wired known ps pairs;
  }

  -- ---- the outbox

  abbrev closes : List ℕ
  closes = newly_closed r.both.box conns

  abbrev dropped : Box
  dropped = left_box r.both.box a.request cs

  abbrev shut_box : Box
  shut_box = close_all cid closes dropped

  abbrev box_then : Box
  box_then = after_item i.outbox r.both.box (effects_by i r item)

  abbrev outbox' : OutboxState
  outbox' = steps_after_item (effects_by i r item) s.outbox

  abbrev s2 : State
  s2 = record s { held = v; functions = fs; commands = record s.commands { items = map (gone_by cs) s.commands.items }; outbox = outbox' }

  abbrev r2 : Side
  r2 = record r { both = record r.both { trace = item ∷ r.both.trace; box = dropped } }

  abbrev rS : Side
  rS = record r { both = record r.both { trace = item ∷ r.both.trace; box = shut_box } }

  abbrev base : ℕ → ℕ
  base q = one (h.place == q) + (endings (xs ++ ended_by names r cs) q + endings zs q)

  abbrev Closed : Box → Type 0
  Closed = IsClosedTo names notes base k.unswept s2 r2 cid ps

  many : length dropped.links ≡ length r.both.box.links
  many = length-map r.both.box.links (without (contains (tickets_of cs)))

  as_many : length dropped.links ≡ length (cids i)
  as_many = many ∙ as_many_links i s r k.outbox

  -- nothing is closed yet
  opened : Closed dropped
  opened = record {
    replies = s.replies.waiting;
    noted = s.noted.handed;
    unswept = k.unswept;
    gone = k.gone;
    requests = requests2 i names notes s r own xs k item a cs (Some (h.place)) h.by v fs zs fit.fit fit.leaves distinct sound leaves_by each;
    queued = queued2 i names notes s r own xs k item a cs (Some (h.place)) h.by v fs zs fit.fit fit.leaves distinct sound leaves_by each;
    same_replies = refl;
    same_noted = refl;
    long_replies = refl;
    long_noted = refl;
    long_unswept = refl;
    long_others = refl;
    count_replies = refl;
    count_noted = refl;
    sent = refl;
    long = refl;
    conn = λ q short. refl;
    takes = λ q short more. (more, (refl, refl));
    own = λ q short is more. more;
    handed = λ x. x;
    touched = λ q. inl (refl, refl);
  }

  placed : EachOf (λ c. (p : ℕ) × (IsPlace dropped.links c p × In p ps)) closes
  placed = each-weaken (HasPlace r.both.box.links ps) (λ c. (p : ℕ) × (IsPlace dropped.links c p × In p ps)) closes
      (λ c at. (at.0, (record { within = (let w = at.1.0.within in omega (arith, w, many)); is = (links_dropped (tickets_of cs) r.both.box.links at.0 at.1.0.within).conn ∙ at.1.0.is }, at.1.1)))
      (closes_placed i names notes s r own xs k distinct closing ends ps pairs)

  abbrev closed : Closed (close_all cid closes dropped)
  closed = all_closed names notes base k.unswept s2 r2 cid ps (k.sizes.replies ∙ sym as_many) (k.sizes.noted ∙ sym as_many) (k.long_replies ∙ sym as_many) (k.long_noted ∙ sym as_many) closes dropped placed opened

  -- what waits still, and what is to be swept
  abbrev sC : State
  sC = record s2 { replies = record s.replies { waiting = closed.replies }; noted = record s.noted { handed = closed.noted } }

  abbrev unswept' : Unswept
  unswept' = closed.unswept

  abbrev pending1 : ℕ → ℕ
  pending1 q = base q + unswept_at closed.unswept q

  -- where one takes more, it did before, and nothing is to be swept
  took : (q : ℕ) → q < length r.both.box.links → takes_more (link_in shut_box.links q) ≡ true → (takes_more (link_in r.both.box.links q) ≡ true) × ((of_conn q closed.unswept.replies ≡ of_conn q k.unswept.replies) × (of_conn q closed.unswept.noted ≡ of_conn q k.unswept.noted))
  took q short more =
      let x = closed.takes q (omega (arith, short, many)) more in
      (sym (links_dropped (tickets_of cs) r.both.box.links q short).takes ∙ x.0, x.1)

  abbrev sends : IsSendFit i.outbox r.both.box cid
  sends = fit.sends cid reply (ap (λ (fs' : List Effect). first_of (filter_map reply_sent fs')) effects_are ∙ part.sends)

  abbrev there : PassingAt (λ (l : Link). l.conn == connection_of a.request && takes_more l) r.both.box.links (new_link 0)
  there = reply_there i.outbox s.outbox r.both.box k.outbox distinct cid sends.takes

  long_closed : length shut_box.links ≡ length r.both.box.links
  long_closed = closed.long ∙ many

  within : there.place < length shut_box.links
  within = (let w = there.within in let l = long_closed in omega (arith, w, l))

  long : length closed.replies ≡ length shut_box.links
  long = closed.long_replies ∙ k.sizes.replies ∙ sym (as_many_links i s r k.outbox) ∙ sym long_closed

  own_there : (link_in dropped.links there.place).conn ≡ cid
  own_there = (links_dropped (tickets_of cs) r.both.box.links there.place there.within).conn ∙ reply_conn i.outbox s.outbox r.both.box k.outbox distinct cid sends.takes

  own_conn : (link_in shut_box.links there.place).conn ≡ cid
  own_conn = closed.conn there.place (let w = there.within in omega (arith, w, many)) ∙ own_there

  own_takes : takes_more (link_in shut_box.links there.place) ≡ true
  own_takes = closed.own there.place (let w = there.within in omega (arith, w, many)) own_there
      ((links_dropped (tickets_of cs) r.both.box.links there.place there.within).takes ∙ reply_takes i.outbox s.outbox r.both.box k.outbox distinct cid sends.takes)

  taken : list_any (λ (l : Link). l.conn == cid && takes_more l) shut_box.links ≡ true
  taken = any_at takes_more shut_box.links cid there.place closed.queued.apart within own_conn ∙ own_takes

  -- nothing is to be swept where it is answered
  own_clear : (of_conn there.place k.unswept.replies ≡ []) × (of_conn there.place k.unswept.noted ≡ [])
  own_clear = k.clear there.place there.within (reply_takes i.outbox s.outbox r.both.box k.outbox distinct cid sends.takes)

  own_replies : of_conn there.place closed.unswept.replies ≡ []
  own_replies = (took there.place there.within own_takes).1.0 ∙ own_clear.0

  replied : IsReplied names sC rS a.event there.place h.place box_then
  replied = subst (IsReplied names sC rS a.event there.place h.place)
      (sym (ap (after_item i.outbox r.both.box) effects_are ∙ parting_item i.outbox r.both.box a.request cs ns (Some (cid, reply)) conns es part))
      (sends_reply i names sC rS (k.requests.answers ∙ sym closed.sent) closed.queued (tickets_of ns) a.event there.place h.place cid within own_conn own_takes taken long h.named (Some (a.request)) reply conns closes)

  handed : EachOf (λ (l : Link). EachOf (λ (x : Handed). IsBefore r.both.box.sent x.out.sent) l.handed) shut_box.links
  handed = closed.handed (each-map (λ (l : Link). EachOf (λ (x : Handed). IsBefore r.both.box.sent x.out.sent) l.handed) (λ (l : Link). EachOf (λ (x : Handed). IsBefore r.both.box.sent x.out.sent) l.handed) (without (contains (tickets_of cs))) r.both.box.links (λ l x. x) sends.handed)

  same_sent : shut_box.sent ≡ r.both.box.sent
  same_sent = closed.sent

  abbrev state' : State
  state' = record s {
    held = v;
    functions = fs;
    commands = record s.commands { items = map (gone_by cs) s.commands.items };
    outbox = steps_after_item (effects_by i r item) s.outbox;
    replies = pushed there.place (record { log_place = shut_box.sent; request = h.place }) (record s.replies { waiting = closed.replies });
    noted = record s.noted { handed = closed.noted };
  }

  -- the steps keep all of it until it is swept
  abbrev still : State
  still = record s {
    held = v;
    functions = fs;
    commands = record s.commands { items = map (gone_by cs) s.commands.items };
    outbox = steps_after_item (effects_by i r item) s.outbox;
    replies = pushed there.place (record { log_place = shut_box.sent; request = h.place }) s.replies;
  }

  abbrev ended' : List (Option ℕ)
  ended' = ((xs ++ ended_by names r cs) ++ places) ++ waits

  counts : (q : ℕ) → endings ended' q ≡ endings (xs ++ ended_by names r cs) q + endings zs q
  counts q = omega (arith, endings_append ((xs ++ ended_by names r cs) ++ places) waits q, endings_append (xs ++ ended_by names r cs) places q, endings_append places waits q)

  requests3 : AreRequests names notes (pending_of closed.unswept None ended') closed.gone state' (side_behind i r item)
  requests3 = subst (λ as'. AreRequests names notes (pending_of closed.unswept None ended') closed.gone state' (record (side_behind i r item) { answers = r.answers ++ as' })) (sym (answers_parted start a cs bs reply closing ends r.both.event))
      (requests_replied names notes pending1 (pending_of closed.unswept None ended') closed.gone sC rS closed.requests a.event there.place h.place
      (λ q. omega (arith, counts q)) within long h.named (subst (λ n. EachOf (λ (l : Link). EachOf (λ (x : Handed). IsBefore n x.out.sent) l.handed) shut_box.links) (sym same_sent) handed) outbox' box_then (λ ticket. refl) replied)

  -- nothing is to be swept where something goes out still
  clear' : (q : ℕ) → q < length box_then.links → takes_more (link_in box_then.links q) ≡ true → (of_conn q closed.unswept.replies ≡ []) × (of_conn q closed.unswept.noted ≡ [])
  clear' q short more =
      let inside : q < length shut_box.links = (let l = replied.long in omega (arith, short, l)) in
      let inside' : q < length r.both.box.links = (let l = long_closed in omega (arith, inside, l)) in
      let x = took q inside' (sym (replied.same q inside).takes ∙ more) in
      let y = k.clear q inside' x.0 in
      (x.1.0 ∙ y.0, x.1.1 ∙ y.1)

  between : IsBetween i names notes state' (side_behind i r item) None ended'
  between = record {
    requests = requests3;
    slots = leaves_by.out.slots;
    functions = leaves_by.out.functions_are;
    unswept = closed.unswept;
    gone = closed.gone;
    long_replies = closed.long_unswept ∙ k.long_replies;
    long_noted = closed.long_others ∙ k.long_noted;
    clear = clear';
    outbox = stands_then i names notes s r own xs k item fit.fit distinct sound;
    sizes = record {
      room = k.sizes.room;
      functions = leaves_by.out.long_functions ∙ k.sizes.functions;
      replies = length-set closed.replies there.place (of_conn there.place closed.replies ++ record { log_place = shut_box.sent; request = h.place } ∷ []) ∙ closed.long_replies ∙ k.sizes.replies;
      noted = closed.long_noted ∙ k.sizes.noted;
      unwritten = k.sizes.unwritten;
      noted_room = k.sizes.noted_room;
      unwritten_room = k.sizes.unwritten_room;
      replies_room = k.sizes.replies_room;
      slots = (let l = leaves_by.out.long in let some = k.sizes.slots in omega (arith, l, some));
      few = k.sizes.few;
    };
    flags = record { awake = k.flags.awake; over = k.flags.over };
    counts = record {
      units = k.counts.units;
      last =
          let same = ap length (entered_left r.both.trace item cs (those i names notes s r own xs k item a cs (Some (h.place)) h.by v fs zs fit.fit fit.leaves distinct sound leaves_by each).none_enters (those i names notes s r own xs k item a cs (Some (h.place)) h.by v fs zs fit.fit fit.leaves distinct sound leaves_by each).left_by) in
          let below = k.counts.last in
          omega (arith, same, below);
      tracked = last_then i names notes s r own xs k item fit.fit distinct sound;
    };
    withheld = k.withheld;
    distinct = leaves_by.out.distinct;
    over = λ q some. over2 i names notes s r own xs k item a cs (Some (h.place)) h.by v fs zs fit.fit fit.leaves distinct sound leaves_by each q (omega (arith, some, counts q));
    own_named = λ q none. absurd (let no : ⊥ = cc in no);
    own_unheld = λ q none. absurd (let no : ⊥ = cc in no);
    own_first = λ q none. absurd (let no : ⊥ = cc in no);
  }

  abbrev its : WaitingReply
  its = record { log_place = shut_box.sent; request = h.place }

  joined_one : joined (set s.replies.waiting there.place (of_conn there.place s.replies.waiting ++ its ∷ [])) k.unswept.replies ≡ joined (set closed.replies there.place (of_conn there.place closed.replies ++ its ∷ [])) closed.unswept.replies
  joined_one =
      joined_set s.replies.waiting k.unswept.replies there.place (of_conn there.place s.replies.waiting ++ its ∷ []) own_clear.0
      ∙ ap (λ (ys : List (List WaitingReply)). set ys there.place (of_conn there.place s.replies.waiting ++ its ∷ [])) (sym closed.same_replies)
      ∙ ap (λ (ys : List WaitingReply). set (joined closed.replies closed.unswept.replies) there.place (ys ++ its ∷ [])) same_own
      ∙ sym (joined_set closed.replies closed.unswept.replies there.place (of_conn there.place closed.replies ++ its ∷ []) own_replies)
    where
      same_own : of_conn there.place s.replies.waiting ≡ of_conn there.place closed.replies
      same_own =
          sym (joined_at s.replies.waiting k.unswept.replies there.place (k.long_replies ∙ sym k.sizes.replies) ∙ ap (λ (ys : List WaitingReply). of_conn there.place s.replies.waiting ++ ys) own_clear.0 ∙ append-nil (of_conn there.place s.replies.waiting))
          ∙ ap (of_conn there.place) (sym closed.same_replies)
          ∙ (joined_at closed.replies closed.unswept.replies there.place (closed.long_unswept ∙ k.long_replies ∙ sym k.sizes.replies ∙ sym closed.long_replies) ∙ ap (λ (ys : List WaitingReply). of_conn there.place closed.replies ++ ys) own_replies ∙ append-nil (of_conn there.place closed.replies))

  put : put_state k.unswept still ≡ put_state closed.unswept state'
  put =
      ap (λ (ys : List (List WaitingReply)). record still { replies = record still.replies { waiting = ys }; noted = record s.noted { handed = joined s.noted.handed k.unswept.noted } }) joined_one
      ∙ ap (λ (ys : List (List (Option ℕ))). record still { replies = record still.replies { waiting = joined (set closed.replies there.place (of_conn there.place closed.replies ++ its ∷ [])) closed.unswept.replies }; noted = record s.noted { handed = ys } }) (sym closed.same_noted)

  may_one : may_wait r.both.box.sent s.replies ≡ true
  may_one = may_wait_more i names notes (pending_of k.unswept own xs) k.gone s r k.requests k.outbox k.sizes sends.sent sends.replies

  walk : (o : OutboxState) → IsFound i o → (acts : List Action) (first : Bool) → (first && is_late r.both.event item) ≡ false → length acts + length (stops_in r item) ≤ s.room → (rest : List Effect) → is_led rest ≡ true
      → on_effects first (effects_by i r item ++ rest) (walk_at o s acts xs own r.both.box.sent) ≡ on_effects false rest (walk_at o still (acts ++ stops_in r item) ended' None (side_behind i r item).both.box.sent)
  walk o limits acts first late room rest led =
      ap (λ fs'. on_effects first (fs' ++ rest) (walk_at o s acts xs own r.both.box.sent)) effects_are
      ∙ ap (λ w. on_effects false ((leave_effects cs ++ (empty_effects bs ++ last)) ++ rest) w) (h.walk o limits acts first r.both.box.sent (ap (λ u. first && u) (sym (late_same r.both.event start a (parted_marks a cs bs reply closing ends))) ∙ late))
      ∙ ap (λ fs'. on_effects false fs' (walk_in o (record s { held = h.held; functions = h.functions }) acts xs (Some (h.place)) None (Some (h.by)) r.both.box.sent))
      (append_assoc (leave_effects cs) (empty_effects bs ++ last) rest ∙ ap (λ fs'. leave_effects cs ++ fs') (append_assoc (empty_effects bs) last rest))
      ∙ leaves_on i names notes s r own xs k item a cs (Some (h.place)) h.by v fs zs fit.fit fit.leaves distinct sound leaves_by each h.held h.functions o acts room (empty_effects bs ++ (last ++ rest))
      ∙ (emptied i names notes s r own xs k start a (Some (h.place)) h.held h.functions (headed_out i names notes s r own xs k start a h) cs bs reply closing ends held_there apart wired known ps pairs).walk gone (xs ++ ended_by names r cs) o (acts ++ stops_in r item) (Some (h.by)) r.both.box.sent (last ++ rest)
      ∙ ap (λ w. on_effects false ((close_effects closing ends ++ enables ns) ++ rest) w)
      (sends_walk o sE (acts ++ stops_in r item) ((xs ++ ended_by names r cs) ++ places) cid sn there.place h.place reply (Some (h.place)) None (Some (h.by)) r.both.box.sent
      (places_same i names notes s r own xs k item fit.fit distinct sound o limits cid ∙ reply_place i.outbox s.outbox r.both.box k.outbox distinct cid sends.takes) refl may_one (let lt = sends.sent in omega (arith, lt)))
      ∙ ap (λ fs'. on_effects false fs' after_send) (append_assoc (close_effects closing ends) (enables ns) rest)
      ∙ close_walk o (cids i) limits.many sR (acts ++ stops_in r item) ((xs ++ ended_by names r cs) ++ places) None (Some (h.by)) (r.both.box.sent + 1) closing ends
      (subst (λ (qs : List ℕ). EachOf (λ p. p < length h.functions.waiting) qs) (sym (same_places i names notes s r own xs k item fit.fit distinct sound closing ends o limits)) within_each) (enables ns ++ rest)
      ∙ ap (λ (qs : List ℕ). on_effects false (enables ns ++ rest) (walk_in o (record sR { functions = functions_off qs h.functions }) (acts ++ stops_in r item) (((xs ++ ended_by names r cs) ++ places) ++ places_off qs h.functions) None None (Some (h.by)) (r.both.box.sent + 1))) (same_places i names notes s r own xs k item fit.fit distinct sound closing ends o limits)
      ∙ enables_past ns rest after_close
      ∙ led_end rest led after_close
      ∙ ap (λ n. on_effects false rest (walk_at o (record sR { functions = fs }) (acts ++ stops_in r item) ended' None n)) (ap (λ n. n + 1) (sym same_sent) ∙ sym replied.sent)
      ∙ ap (λ n. on_effects false rest (walk_at o (record s { held = v; functions = fs; commands = gone; replies = pushed there.place (record { log_place = n; request = h.place }) s.replies }) (acts ++ stops_in r item) ended' None (side_behind i r item).both.box.sent)) (sym same_sent)
    where
      gone : Commands
      gone = record s.commands { items = map (gone_by cs) s.commands.items }

      last : List Effect
      last = Send cid sn reply ∷ (close_effects closing ends ++ enables ns)

      sE : State
      sE = record s { held = v; functions = h.functions; commands = gone }

      sR : State
      sR = record s { held = v; functions = h.functions; commands = gone; replies = pushed there.place (record { log_place = r.both.box.sent; request = h.place }) s.replies }

      after_send : Walk
      after_send = walk_in o sR (acts ++ stops_in r item) ((xs ++ ended_by names r cs) ++ places) None None (Some (h.by)) (r.both.box.sent + 1)

      after_close : Walk
      after_close = walk_in o (record sR { functions = fs }) (acts ++ stops_in r item) ended' None None (Some (h.by)) (r.both.box.sent + 1)

  pub goes_parted : ItemGoes i names notes k.unswept s r own xs (parted_item start a cs bs reply closing ends)
  unfolding between
  goes_parted = record {
    state = state';
    ended = ended';
    between = between;
    outbox = refl;
    room = refl;
    few =
        let few = few2 i names notes s r own xs k item a cs (Some (h.place)) h.by v fs zs fit.fit fit.leaves distinct sound leaves_by each in
        let lives = few.0 in
        let fewer = leaves_by.out.fewer in
        record {
          lives = omega (arith, lives, fewer, length-append xs zs, length-append places waits, length-append ((xs ++ ended_by names r cs) ++ places) waits, length-append (xs ++ ended_by names r cs) places);
          going = few.1;
        };
    still = still;
    put = put;
    begins = ap is_some_effect effects_are;
    waits = (let more = more_count closed.replies there.place (record { log_place = shut_box.sent; request = h.place }) in let all = closed.count_replies in let some = some_first (filter_map reply_sent (effects_by i r item)) (cid, reply) (ap (λ (fs' : List Effect). first_of (filter_map reply_sent fs')) effects_are ∙ part.sends) in omega (arith, more, all, some));
    notes_kept = closed.count_noted;
    touched = λ o found p. ⊎_elim (λ same. inl same) (λ among. inr (subst (λ (fs' : List Effect). In p (flat_map (touched_in o) fs')) (sym effects_are)
        (parted_touched o (cids i) found.many sn start a cs bs reply closing ends ns p (subst (In p) (sym (same_places i names notes s r own xs k item fit.fit distinct sound closing ends o found)) among)))) (closed.touched p);
    walk = λ o limits acts first late room rest led. walk o limits acts first late room rest led;
  }
