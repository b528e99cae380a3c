-- A request executes by which commands leave: it is answered then, or is over.
use Rattle.std.proofs.Common.{◌≡◌, ℕ, ◌+◌, ◌<◌, ◌≤◌, ◌==◌, ◌&&◌, Bool, true, false, List, [], ◌∷◌, ◌++◌, length, map, count_by, Option, Some, None, inl, refl, ap, sym, subst, ◌∙◌, arith, length-append, length-set}
use Rattle.std.specs.List.{filter_map}
use Rattle.std.proofs.lemmas.Bool.{eqb-true}
use Rattle.std.proofs.lemmas.List.{append-nil, length-map}
use Rattle.iscsi_wire.specs.declared.reply.Reply.{Reply}
use Rattle.iscsi_wire.specs.Fields.{connection_of}
use Rattle.iscsi_rules.specs.declared.effect.Effect.{Effect}
use Rattle.iscsi_rules.specs.rules.Settings.{are_distinct}
use Rattle.iscsi_rules.specs.rules.Trace.{Arrival, Command as RulesCommand, Mark, first_of, live}
use Rattle.iscsi_rules.proofs.general.CountLemmas.{one}
use Rattle.iscsi_rules.proofs.items.Forms.{Start}
use Rattle.iscsi_outbox_rules.specs.rules.Boxes.{Box, Handed, Link}
use Rattle.iscsi_outbox_rules.specs.rules.Due.{settle}
use Rattle.iscsi_outbox_rules.specs.rules.Items.{after_item, in_phase, phase_enabled, reply_sent}
use Rattle.iscsi_outbox_rules.specs.rules.Queues.{takes_more, without}
use Rattle.iscsi_outbox_rules.specs.rules.Run.{new_link}
use Rattle.iscsi_outbox_rules.specs.rules.Words.{contains}
use Rattle.iscsi_outbox_law.specs.private.Commands.{link_in}
use Rattle.iscsi_outbox_law.specs.private.Pairs.{EachOf}
use Rattle.iscsi_outbox_law.specs.private.Sound.{IsSound}
use Rattle.iscsi_outbox_law.proofs.general.PairLemmas.{each-map}
use Rattle.iscsi_outbox_steps.specs.State.{State as OutboxState}
use Rattle.iscsi_outbox_steps.specs.Steps.{after_item as steps_after_item}
use Rattle.iscsi_requests.specs.Conns.{of_conn}
use Rattle.iscsi_requests.specs.Replies.{pushed}
use Rattle.iscsi_requests.specs.declared.functions.WaitingFunction.{WaitingFunction}
use Rattle.iscsi_ffi_rules.specs.declared.action.Action.{Action}
use Rattle.iscsi_ffi_rules.specs.rules.Calls.{Interface}
use Rattle.iscsi_ffi_rules.specs.rules.Happening.{stops_in}
use Rattle.iscsi_ffi_rules.specs.rules.Sides.{Side}
use Rattle.iscsi_ffi_steps.specs.State.{State}
use Rattle.iscsi_ffi_steps.specs.Walk.{Walk, may_wait, on_effects}
use Rattle.iscsi_ffi_law.specs.Arrived.{IsSendFit, IsStepFit, effects_by, is_late, side_behind}
use Rattle.iscsi_ffi_law.specs.Names.{Name, Note}
use Rattle.iscsi_ffi_law.specs.Parts.{IsBefore}
use Rattle.iscsi_ffi_law.specs.Stands.{AreRequests}
use Rattle.iscsi_ffi_law.specs.Uses.{count_lists, is_place}
use Rattle.iscsi_ffi_law.proofs.items.Between.{IsBetween, IsFound, IsHeaded, pending_as, pending_of}
use Rattle.iscsi_ffi_law.proofs.events.Unswept.{is_some_effect, more_count, unswept_at}
use Rattle.iscsi_ffi_law.proofs.requests.Core.{endings_more}
use Rattle.iscsi_ffi_law.proofs.completions.DoneRoom.{may_wait_more}
use Rattle.iscsi_ffi_law.proofs.completions.DoneShape.{enables, tickets_of}
use Rattle.iscsi_ffi_law.proofs.calls.Finish.{as_many_links}
use Rattle.iscsi_ffi_law.proofs.aborts.Leaving.{answers_left, left_item}
use Rattle.iscsi_ffi_law.proofs.aborts.LeavingBox.{left_box}
use Rattle.iscsi_ffi_law.proofs.aborts.LeavingCommands.{ended_by, entered_left, gone_by}
use Rattle.iscsi_ffi_law.proofs.aborts.LeavingItem.{box_is, effects_are, few2, leaves_past, ns, over2, part, queued2, r2, requests2, s1', s2, sn, those}
use Rattle.iscsi_ffi_law.proofs.general.Members.{PassingAt}
use Rattle.iscsi_ffi_law.proofs.calls.Moved.{IsMoved, requests_moved}
use Rattle.iscsi_ffi_law.proofs.sending.Queued.{SameOut, SettledTo, any_map, is_taking, link_map, settled_to}
use Rattle.iscsi_ffi_law.proofs.calls.Quiet.{settled_sent}
use Rattle.iscsi_ffi_law.proofs.items.QuietSends.{sends_reply}
use Rattle.iscsi_ffi_law.proofs.requests.Releases.{endings}
use Rattle.iscsi_ffi_law.proofs.items.ReplyPlace.{conn_is as reply_conn, place_is as reply_place, takes_it as reply_takes, there as reply_there}
use Rattle.iscsi_ffi_law.proofs.items.ReplyRequests.{IsReplied, requests_replied}
use Rattle.iscsi_ffi_law.proofs.items.Stepping.{ItemGoes, last_then, places_same, stands_then, still_clear}
use Rattle.iscsi_ffi_law.proofs.items.Framing.{some_first}
use Rattle.iscsi_ffi_law.proofs.items.Walking.{enables_past, ends_with_it, is_led, led_end, sends_walk, walk_at, walk_in}

-- what waits of commands is dropped: each connection goes out as before
pub links_dropped : (tickets : List ℕ) (links : List Link) (q : ℕ) → q < length links → SameOut (link_in links q) (link_in (map (without (contains tickets)) links) q)
links_dropped tickets links q within = subst (SameOut (link_in links q)) (sym (link_map (without (contains tickets)) links q within)) (record { conn = refl; takes = refl; left = refl })

-- ---- it is answered

module _ (i : Interface) (names : List Name) (notes : List Note) (s : State) (r : Side) (own : Option ℕ) (xs : List (Option ℕ)) (k : IsBetween i names notes s r own xs) (start : Start) (a : Arrival) (void : Option ℕ) (cs : List RulesCommand) (reply : Reply)
    (fit : IsStepFit i r (left_item start a void cs (Some reply))) (distinct : are_distinct i.outbox.session.conns ≡ true) (sound : IsSound i.outbox (side_behind i r (left_item start a void cs (Some reply))).both.box)
    (h : IsHeaded i names notes s r own xs (left_item start a void cs (Some reply)) start a) (each : (p : RulesCommand → Bool) → count_by p cs ≤ count_by p (live r.both.trace)) where
  abbrev item : List Mark
  item = left_item start a void cs (Some reply)

  abbrev cid : ℕ
  cid = connection_of a.request

  abbrev tickets : List ℕ
  tickets = tickets_of cs

  abbrev enabled : List RulesCommand
  enabled = ns i names notes s r own xs k start a void cs (Some reply) fit distinct sound h each

  abbrev number : ℕ
  number = sn i names notes s r own xs k start a void cs (Some reply) fit distinct sound h each

  abbrev outbox_then : OutboxState
  outbox_then = steps_after_item (effects_by i r item) s.outbox

  abbrev box_then : Box
  box_then = after_item i.outbox r.both.box (effects_by i r item)

  abbrev sL : State
  sL = s2 i names notes s r own xs k start a void cs (Some reply) fit distinct sound h each

  abbrev rL : Side
  rL = r2 i names notes s r own xs k start a void cs (Some reply) fit distinct sound h each

  abbrev sends : IsSendFit i.outbox r.both.box cid
  sends = fit.sends cid reply (ap (λ (fs : List Effect). first_of (filter_map reply_sent fs)) (effects_are i names notes s r own xs k start a void cs (Some reply) fit distinct sound h each) ∙ (part i names notes s r own xs k start a void cs (Some reply) fit distinct sound h each).sends)

  abbrev there : PassingAt (λ (l : Link). l.conn == connection_of a.request && takes_more l) r.both.box.links (new_link 0)
  there = reply_there i.outbox s.outbox r.both.box k.outbox distinct cid sends.takes

  many : length (map (without (contains tickets)) r.both.box.links) ≡ length r.both.box.links
  many = length-map r.both.box.links (without (contains tickets))

  within : there.place < length rL.both.box.links
  within = (let w = there.within in omega (arith, w, many))

  same_there : SameOut (link_in r.both.box.links there.place) (link_in rL.both.box.links there.place)
  same_there = links_dropped tickets r.both.box.links there.place there.within

  long : length s.replies.waiting ≡ length rL.both.box.links
  long = k.sizes.replies ∙ sym (as_many_links i s r k.outbox) ∙ sym many

  replied : IsReplied names sL rL a.event there.place h.place box_then
  replied = subst (IsReplied names sL rL a.event there.place h.place) (sym (box_is i names notes s r own xs k start a void cs (Some reply) fit distinct sound h each))
      (sends_reply i names sL rL k.requests.answers (queued2 i names notes s r own xs k start a void cs (Some reply) fit distinct sound h each) (tickets_of enabled) a.event there.place h.place cid within
      (same_there.conn ∙ reply_conn i.outbox s.outbox r.both.box k.outbox distinct cid sends.takes) (same_there.takes ∙ reply_takes i.outbox s.outbox r.both.box k.outbox distinct cid sends.takes)
      (any_map (is_taking cid) (without (contains tickets)) r.both.box.links (λ l. refl) ∙ sends.takes) long h.named (Some (a.request)) reply [] [])

  handed : EachOf (λ (l : Link). EachOf (λ (x : Handed). IsBefore r.both.box.sent x.out.sent) l.handed) rL.both.box.links
  handed = each-map (λ (l : Link). EachOf (λ (x : Handed). IsBefore r.both.box.sent x.out.sent) l.handed) (λ (l : Link). EachOf (λ (x : Handed). IsBefore r.both.box.sent x.out.sent) l.handed) (without (contains tickets)) r.both.box.links (λ l x. x) sends.handed

  abbrev state' : State
  state' = record s {
    held = h.held;
    functions = h.functions;
    commands = record s.commands { items = map (gone_by cs) s.commands.items };
    outbox = steps_after_item (effects_by i r item) s.outbox;
    replies = pushed there.place (record { log_place = r.both.box.sent; request = h.place }) s.replies;
  }

  requests3 : AreRequests names notes (pending_of k.unswept None (xs ++ ended_by names r cs)) k.gone state' (side_behind i r item)
  requests3 = subst (λ as'. AreRequests names notes (pending_of k.unswept None (xs ++ ended_by names r cs)) k.gone state' (record (side_behind i r item) { answers = r.answers ++ as' })) (sym (answers_left r.both.event start a void cs (Some reply)))
      (requests_replied names notes (λ q. one (h.place == q) + endings (xs ++ ended_by names r cs) q + unswept_at k.unswept q) (pending_of k.unswept None (xs ++ ended_by names r cs)) k.gone sL rL (requests2 i names notes s r own xs k start a void cs (Some reply) fit distinct sound h each) a.event there.place h.place
      (λ q. omega arith) within long h.named handed outbox_then box_then (λ ticket. refl) replied)

  between : IsBetween i names notes state' (side_behind i r item) None (xs ++ ended_by names r cs)
  between = record {
    requests = requests3;
    slots = h.slots;
    functions = h.functions_are;
    unswept = k.unswept;
    gone = k.gone;
    long_replies = k.long_replies;
    long_noted = k.long_noted;
    clear = still_clear i names notes s r own xs k item fit.fit distinct sound;
    outbox = stands_then i names notes s r own xs k item fit.fit distinct sound;
    sizes = record {
      room = k.sizes.room;
      functions = h.long_functions ∙ k.sizes.functions;
      replies = length-set s.replies.waiting there.place (of_conn there.place s.replies.waiting ++ record { log_place = r.both.box.sent; request = h.place } ∷ []) ∙ k.sizes.replies;
      noted = k.sizes.noted;
      unwritten = k.sizes.unwritten;
      noted_room = k.sizes.noted_room;
      unwritten_room = k.sizes.unwritten_room;
      replies_room = k.sizes.replies_room;
      slots = (let l = h.long in let some = k.sizes.slots in omega (arith, l, some));
      few = k.sizes.few;
    };
    flags = record { awake = k.flags.awake; over = k.flags.over };
    counts = record {
      units = k.counts.units;
      last =
          let same = ap length (entered_left r.both.trace item cs (those i names notes s r own xs k start a void cs (Some reply) fit distinct sound h each).none_enters (those i names notes s r own xs k start a void cs (Some reply) fit distinct sound h each).left_by) in
          let below = k.counts.last in
          omega (arith, same, below);
      tracked = last_then i names notes s r own xs k item fit.fit distinct sound;
    };
    withheld = k.withheld;
    distinct = h.distinct;
    over = over2 i names notes s r own xs k start a void cs (Some reply) fit distinct sound h each;
    own_named = λ q none. absurd (let no : ⊥ = cc in no);
    own_unheld = λ q none. absurd (let no : ⊥ = cc in no);
    own_first = λ q none. absurd (let no : ⊥ = cc in no);
  }

  may_one : may_wait r.both.box.sent s.replies ≡ true
  may_one = may_wait_more i names notes (pending_of k.unswept own xs) k.gone s r k.requests k.outbox k.sizes sends.sent sends.replies

  walk : (o : OutboxState) → IsFound i o → (acts : List Action) (first : Bool) → (first && is_late r.both.event item) ≡ false → length acts + length (stops_in r item) ≤ s.room → (rest : List Effect) → is_led rest ≡ true
      → on_effects first (effects_by i r item ++ rest) (walk_at o s acts xs own r.both.box.sent) ≡ on_effects false rest (walk_at o state' (acts ++ stops_in r item) (xs ++ ended_by names r cs) None (side_behind i r item).both.box.sent)
  walk o limits acts first late room rest led =
      leaves_past i names notes s r own xs k start a void cs (Some reply) fit distinct sound h each o limits acts first late room rest
      ∙ ap (on_effects false (enables enabled ++ rest))
      (sends_walk o sG (acts ++ stops_in r item) (xs ++ ended_by names r cs) cid number there.place h.place reply (Some (h.place)) None (Some (h.by)) r.both.box.sent
      (places_same i names notes s r own xs k item fit.fit distinct sound o limits cid ∙ reply_place i.outbox s.outbox r.both.box k.outbox distinct cid sends.takes) refl may_one (let lt = sends.sent in omega (arith, lt)))
      ∙ enables_past enabled rest after_send
      ∙ led_end rest led after_send
      ∙ ap (λ n. on_effects false rest (walk_at o state' (acts ++ stops_in r item) (xs ++ ended_by names r cs) None n)) (sym replied.sent)
    where
      sG : State
      sG = record s { held = h.held; functions = h.functions; commands = record s.commands { items = map (gone_by cs) s.commands.items } }

      after_send : Walk
      after_send = walk_in o (record sG { replies = pushed there.place (record { log_place = r.both.box.sent; request = h.place }) s.replies }) (acts ++ stops_in r item) (xs ++ ended_by names r cs) None None (Some (h.by)) (r.both.box.sent + 1)

  pub goes_left : ItemGoes i names notes k.unswept s r own xs (left_item start a void cs (Some reply))
  unfolding between
  goes_left = record {
    state = state';
    ended = xs ++ ended_by names r cs;
    between = between;
    outbox = refl;
    room = refl;
    few = (let few = few2 i names notes s r own xs k start a void cs (Some reply) fit distinct sound h each in let lives = few.0 in let fewer = h.fewer in record { lives = omega (arith, lives, fewer); going = few.1 });
    still = state';
    put = refl;
    begins = ap is_some_effect (effects_are i names notes s r own xs k start a void cs (Some reply) fit distinct sound h each);
    waits = (let more = more_count s.replies.waiting there.place (record { log_place = r.both.box.sent; request = h.place }) in let some = some_first (filter_map reply_sent (effects_by i r item)) (cid, reply) (ap (λ (fs : List Effect). first_of (filter_map reply_sent fs)) (effects_are i names notes s r own xs k start a void cs (Some reply) fit distinct sound h each) ∙ (part i names notes s r own xs k start a void cs (Some reply) fit distinct sound h each).sends) in omega (arith, more, some));
    notes_kept = omega arith;
    touched = λ o found p. inl (refl, refl);
    walk = λ o limits acts first late room rest led. walk o limits acts first late room rest led;
  }

-- ---- it isn't

module _ (i : Interface) (names : List Name) (notes : List Note) (s : State) (r : Side) (own : Option ℕ) (xs : List (Option ℕ)) (k : IsBetween i names notes s r own xs) (start : Start) (a : Arrival) (void : Option ℕ) (cs : List RulesCommand)
    (fit : IsStepFit i r (left_item start a void cs None)) (distinct : are_distinct i.outbox.session.conns ≡ true) (sound : IsSound i.outbox (side_behind i r (left_item start a void cs None)).both.box)
    (h : IsHeaded i names notes s r own xs (left_item start a void cs None) start a) (each : (p : RulesCommand → Bool) → count_by p cs ≤ count_by p (live r.both.trace)) where
  abbrev silent_item : List Mark
  silent_item = left_item start a void cs None

  abbrev silent_tickets : List ℕ
  silent_tickets = tickets_of cs

  abbrev news : List RulesCommand
  news = ns i names notes s r own xs k start a void cs None fit distinct sound h each

  abbrev box_behind : Box
  box_behind = after_item i.outbox r.both.box (effects_by i r silent_item)

  abbrev s_left : State
  s_left = s2 i names notes s r own xs k start a void cs None fit distinct sound h each

  abbrev r_left : Side
  r_left = r2 i names notes s r own xs k start a void cs None fit distinct sound h each

  abbrev gone : Box
  gone = left_box r.both.box a.request cs

  abbrev ended_all : List (Option ℕ)
  ended_all = (xs ++ ended_by names r cs) ++ Some (h.place) ∷ []

  many_links : length (map (without (contains silent_tickets)) r.both.box.links) ≡ length r.both.box.links
  many_links = length-map r.both.box.links (without (contains silent_tickets))

  settled : SettledTo names (silent_item ∷ r.both.trace) r.answers (λ q. of_conn q s.replies.waiting) (λ q. length (of_conn q s.noted.handed)) gone.links (settle i.outbox (in_phase phase_enabled (tickets_of news) gone))
  settled = settled_to names (silent_item ∷ r.both.trace) r.answers (λ q. of_conn q s.replies.waiting) (λ q. length (of_conn q s.noted.handed)) i.outbox (in_phase phase_enabled (tickets_of news) gone) (queued2 i names notes s r own xs k start a void cs None fit distinct sound h each)

  moved : IsMoved names s_left r_left box_behind
  moved = subst (IsMoved names s_left r_left) (sym (box_is i names notes s r own xs k start a void cs None fit distinct sound h each)) (record {
    long = settled.long;
    sent = settled_sent i.outbox [] r.both.box.undue (in_phase phase_enabled (tickets_of news) gone);
    queued = settled.all.queued;
    undue = settled.all.undue_are;
    conn = λ q inside. (settled.same q (let l = settled.long in omega (arith, inside, l))).conn;
    left = λ q inside. (settled.same q (let l = settled.long in omega (arith, inside, l))).left;
  })

  abbrev state_over : State
  state_over = record s { held = h.held; functions = h.functions; commands = record s.commands { items = map (gone_by cs) s.commands.items }; outbox = steps_after_item (effects_by i r silent_item) s.outbox }

  requests_over : AreRequests names notes (pending_of k.unswept None ((xs ++ ended_by names r cs) ++ Some (h.place) ∷ [])) k.gone state_over (side_behind i r silent_item)
  requests_over = subst (λ as'. AreRequests names notes (pending_of k.unswept None ((xs ++ ended_by names r cs) ++ Some (h.place) ∷ [])) k.gone state_over (record (side_behind i r silent_item) { answers = as' }))
      (sym (append-nil r.answers) ∙ ap (λ as'. r.answers ++ as') (sym (answers_left r.both.event start a void cs None)))
      (pending_as names notes (λ q. one (h.place == q) + endings (xs ++ ended_by names r cs) q + unswept_at k.unswept q) (pending_of k.unswept None ((xs ++ ended_by names r cs) ++ Some (h.place) ∷ [])) k.gone state_over (record (side_behind i r silent_item) { answers = r.answers })
      (λ q. let all = endings_more (xs ++ ended_by names r cs) (Some (h.place)) q in omega (arith, all))
      (requests_moved names notes (λ q. one (h.place == q) + endings (xs ++ ended_by names r cs) q + unswept_at k.unswept q) k.gone s_left r_left (requests2 i names notes s r own xs k start a void cs None fit distinct sound h each) (steps_after_item (effects_by i r silent_item) s.outbox) box_behind (λ ticket. refl) moved))

  over_all : (q : ℕ) → 1 ≤ endings ((xs ++ ended_by names r cs) ++ Some (h.place) ∷ []) q → count_by (is_place q) h.held.places + count_lists (λ (f : WaitingFunction). f.request == q) h.functions.waiting ≡ 0
  over_all q some = by_test (h.place == q) refl
    where
      by_test : (v : Bool) → (h.place == q) ≡ v → count_by (is_place q) h.held.places + count_lists (λ (f : WaitingFunction). f.request == q) h.functions.waiting ≡ 0
      by_test true is = subst (λ p. count_by (is_place p) h.held.places + count_lists (λ (f : WaitingFunction). f.request == p) h.functions.waiting ≡ 0) (eqb-true h.place q is) h.over
      by_test false is =
          let none : one (h.place == q) ≡ 0 = ap one is in
          over2 i names notes s r own xs k start a void cs None fit distinct sound h each q (let all = endings_more (xs ++ ended_by names r cs) (Some (h.place)) q in omega (arith, some, all, none))

  between_over : IsBetween i names notes state_over (side_behind i r silent_item) None ((xs ++ ended_by names r cs) ++ Some (h.place) ∷ [])
  between_over = record {
    requests = requests_over;
    slots = h.slots;
    functions = h.functions_are;
    unswept = k.unswept;
    gone = k.gone;
    long_replies = k.long_replies;
    long_noted = k.long_noted;
    clear = still_clear i names notes s r own xs k silent_item fit.fit distinct sound;
    outbox = stands_then i names notes s r own xs k silent_item fit.fit distinct sound;
    sizes = record {
      room = k.sizes.room;
      functions = h.long_functions ∙ k.sizes.functions;
      replies = k.sizes.replies;
      noted = k.sizes.noted;
      unwritten = k.sizes.unwritten;
      noted_room = k.sizes.noted_room;
      unwritten_room = k.sizes.unwritten_room;
      replies_room = k.sizes.replies_room;
      slots = (let l = h.long in let some = k.sizes.slots in omega (arith, l, some));
      few = k.sizes.few;
    };
    flags = record { awake = k.flags.awake; over = k.flags.over };
    counts = record {
      units = k.counts.units;
      last =
          let same = ap length (entered_left r.both.trace silent_item cs (those i names notes s r own xs k start a void cs None fit distinct sound h each).none_enters (those i names notes s r own xs k start a void cs None fit distinct sound h each).left_by) in
          let below = k.counts.last in
          omega (arith, same, below);
      tracked = last_then i names notes s r own xs k silent_item fit.fit distinct sound;
    };
    withheld = k.withheld;
    distinct = h.distinct;
    over = over_all;
    own_named = λ q none. absurd (let no : ⊥ = cc in no);
    own_unheld = λ q none. absurd (let no : ⊥ = cc in no);
    own_first = λ q none. absurd (let no : ⊥ = cc in no);
  }

  pub goes_left_over : ItemGoes i names notes k.unswept s r own xs (left_item start a void cs None)
  unfolding between_over
  goes_left_over = record {
    state = state_over;
    ended = (xs ++ ended_by names r cs) ++ Some (h.place) ∷ [];
    between = between_over;
    outbox = refl;
    room = refl;
    few = (let few = few2 i names notes s r own xs k start a void cs None fit distinct sound h each in let lives = few.0 in let long = length-append (xs ++ ended_by names r cs) (Some (h.place) ∷ []) in let fewer = h.fewer in record { lives = omega (arith, lives, long, fewer); going = few.1 });
    still = state_over;
    put = refl;
    begins = ap is_some_effect (effects_are i names notes s r own xs k start a void cs None fit distinct sound h each);
    waits = omega arith;
    notes_kept = omega arith;
    touched = λ o found p. inl (refl, refl);
    walk = λ o limits acts first late room rest led.
        leaves_past i names notes s r own xs k start a void cs None fit distinct sound h each o limits acts first late room rest
        ∙ enables_past news rest (after_leaves o acts)
        ∙ led_end rest led (after_leaves o acts)
        ∙ ap (on_effects false rest) (ends_with_it o state_over (acts ++ stops_in r silent_item) (xs ++ ended_by names r cs) (Some (h.place)) None (Some (h.by)) r.both.box.sent)
        ∙ ap (λ n. on_effects false rest (walk_at o state_over (acts ++ stops_in r silent_item) ((xs ++ ended_by names r cs) ++ Some (h.place) ∷ []) None n)) (sym moved.sent);
  }
    where
      after_leaves : OutboxState → List Action → Walk
      after_leaves o acts = walk_in o (s1' i names notes s r own xs k start a void cs None fit distinct sound h each) (acts ++ stops_in r silent_item) (xs ++ ended_by names r cs) (Some (h.place)) None (Some (h.by)) r.both.box.sent
