-- All that holds of a side behind so many calls, each part of a call keeps.
use Rattle.std.proofs.Common.{Option, length, ◌≤◌, ◌≡◌, ℕ, ◌+◌, ◌<◌, ◌==◌, ◌&&◌, ◌||◌, not, cond, Bool, true, false, List, [], ◌∷◌, map, filter, filter_map, Some, None, refl, sym, subst, arith, inl, inr}
use Rattle.std.specs.List.{flat_map}
use Rattle.std.proofs.lemmas.Bool.{and_parts, false≢true}
use Rattle.iscsi_wire.specs.declared.reply.Reply.{Reply}
use Rattle.iscsi_wire.specs.Fields.{request_of}
use Rattle.iscsi_rules.specs.declared.event.Event.{Event}
use Rattle.iscsi_rules.specs.declared.event.Event.TheVariants.{Arrive, Done}
use Rattle.iscsi_rules.specs.promises.Replies.{reply_sent}
use Rattle.iscsi_rules.specs.rules.Agenda.{belongs, items_of}
use Rattle.iscsi_rules.specs.rules.Run.{entry_of}
use Rattle.iscsi_rules.specs.rules.Settings.{Setting, are_distinct, is_known}
use Rattle.iscsi_rules.specs.rules.Trace.{Arrival, Command, Mark, Trace, entered, first_of, has, is_closed, leaves_ticket}
use Rattle.iscsi_rules.proofs.general.BoolLemmas.{and_both, or_first}
use Rattle.iscsi_rules.proofs.general.ElementLemmas.{In, in-filter}
use Rattle.iscsi_rules.proofs.items.Forms.{HaveForms, AfterWaiting, AtArrival, AtTurn, Completed, Executed, Form, Ignored, IsFormed, Postponed, Received, Rejected, marks_of_form}
use Rattle.iscsi_outbox_rules.specs.promises.Room.{Happens, after_step, is_other, is_parting, is_read_with_room}
use Rattle.iscsi_outbox_rules.specs.rules.Boxes.{Link}
use Rattle.iscsi_outbox_rules.specs.rules.Calls as outbox
use Rattle.iscsi_outbox_rules.specs.rules.Words.{is_open, may_take}
use Rattle.iscsi_outbox_law.specs.private.Pairs.{EachOf}
use Rattle.iscsi_outbox_law.proofs.general.PairLemmas.{each-append, each-filter, each-weaken}
use Rattle.iscsi_ffi_rules.specs.rules.Calls.{Interface}
use Rattle.iscsi_ffi_rules.specs.rules.Happening.{answered_event, answers_in, happening, other}
use Rattle.iscsi_ffi_rules.specs.rules.Run.{heard_in, is_joined, is_lost, parting, refusal_of, tag_heard, word_at}
use Rattle.iscsi_ffi_rules.specs.rules.Sides.{Asked, Side, opened}
use Rattle.iscsi_ffi_law.proofs.session_invariants.FitArrivals.{AllAre, IsItemOf, Items, OfEvent, OfForm, all_none, all_weaken, event_items, items_end}
use Rattle.iscsi_ffi_law.proofs.outbox_invariants.FitFollows.{IsTogether, together_begun, together_event, together_other}
use Rattle.iscsi_ffi_law.proofs.premises.FitHeard.{alone_of, heard_room, lost_there, parting_read}
use Rattle.iscsi_ffi_law.proofs.session_invariants.FitJoined.{AreServed, IsOver, has_joined, joined_other, lost_closed, over_kept, over_next, served_begun, served_event, served_lost, served_other}
use Rattle.iscsi_ffi_law.proofs.session_invariants.FitParting.{parting_closes}
use Rattle.iscsi_ffi_law.proofs.outbox_invariants.FitPlaces.{ArePlaced, placed_call, placed_event, placed_opened}
use Rattle.iscsi_ffi_law.proofs.premises.FitRefusals.{link_there, taken_in}
use Rattle.iscsi_ffi_law.proofs.side_invariants.FitSides.{IsGood, good_begun, good_event, good_more, good_other, none_taken}
use Rattle.std.specs.List.{cons_option}
use Rattle.iscsi_rules.proofs.items.FormRuns.{event_going as event_forms}
use Rattle.iscsi_rules.specs.rules.Trace.{after_items, live, live_in}
use Rattle.iscsi_rules.specs.rules.Run.{after_event}
use Rattle.iscsi_outbox_rules.specs.rules.Items.{ticket_enabled}
use Rattle.iscsi_ffi_rules.specs.rules.Clearing.{is_marked, is_withheld}
use Rattle.iscsi_ffi_rules.specs.rules.Happening.{live_with, starting, stepped}
use Rattle.iscsi_ffi_rules.proofs.SideWalks.{left_to_clear}
use Rattle.iscsi_ffi_law.proofs.session_invariants.FitOnce.{AreTickets, entered_after, ticket_low}
use Rattle.iscsi_ffi_law.proofs.session_invariants.FitReceived.{IsWired, wired, wired_bytes}
use Rattle.iscsi_ffi_law.proofs.session_invariants.FitTurns.{IsTurned, event_turned, none_turned}
use Rattle.iscsi_ffi_law.proofs.side_invariants.FitWalks.{IsSimple, SideWalk}
use Rattle.iscsi_rules.specs.rules.Execution.{exp_of}
use Rattle.iscsi_ffi_law.specs.Sides.{AreBytes, asking}
use Rattle.iscsi_ffi_law.proofs.general.Members.{each_in, in_each, find_in}

-- ---- the events of what is answered

module _ (o : Setting) (now : ℕ) where
  abbrev IsEarly : Arrival → Type 0
  IsEarly a = a.event < now + 1

  answered_early : (t : Trace) (item : List Mark) → IsItemOf o now (λ (a : Arrival). a.event < now + 1) t item → AllAre (λ (a : Arrival). a.event < now + 1) t → answered_event now item < now + 1
  answered_early t item f h = subst (λ ms. answered_event now ms < now + 1) (sym f.has.is) (by_form f.has.form f.has.formed f.of)
    where
      itself : now < now + 1
      itself = omega arith

      by_form : (form : Form) → IsFormed o now t form → OfForm (λ (a : Arrival). a.event < now + 1) form → answered_event now (marks_of_form form) < now + 1
      by_form (Ignored why) formed q = itself
      by_form (Rejected a) formed q = itself
      by_form (Received a) formed q = itself
      by_form (Postponed a) formed q = itself
      by_form (Completed c status) formed q = each_in (λ (d : Command). d.arrival.event < now + 1) (entered t) c (in-filter (λ (d : Command). not (has (leaves_ticket d.ticket) t)) (entered t) c formed).0 h.entered_by
      by_form (Executed AtTurn a d) formed q = q
      by_form (Executed AtArrival a d) formed q = q
      by_form (Executed AfterWaiting a d) formed q = q

  all_early : (t : Trace) (items : List (List Mark)) → Items o now (λ (a : Arrival). a.event < now + 1) t items → EachOf (λ (e : ℕ). e < now + 1) (flat_map (answers_in now) items)
  all_early t [] h = tt
  all_early t (item ∷ items) h =
      each-append (λ (e : ℕ). e < now + 1) (answers_in now item) (flat_map (answers_in now) items)
      (each-new-of (filter_map reply_sent item) (answered_early t item h.1 h.0)) (all_early (item ∷ t) items h.2)
    where
      each-new-of : (rs : List Reply) → answered_event now item < now + 1 → EachOf (λ (e : ℕ). e < now + 1) (map (λ (r : Reply). answered_event now item) rs)
      each-new-of [] lt = tt
      each-new-of (r ∷ rs) lt = (lt, each-new-of rs lt)

-- ---- the tickets that were told, or marked

more_tickets : (t : Trace) (items : List (List Mark)) (ks : List ℕ) → AreTickets t ks → AreTickets (after_items items t) ks
more_tickets t items ks h = each-weaken (λ (k : ℕ). k ≤ length (entered t)) (λ (k : ℕ). k ≤ length (entered (after_items items t))) ks (λ k le. let more = entered_after items t in omega (arith, le, more)) h

live_low : (o : Setting) (t : Trace) (next : ℕ) → HaveForms o next t → (c : Command) → In c (live t) → c.ticket ≤ length (entered t)
live_low o t next forms c at = ticket_low o t next forms c (in-filter (λ (d : Command). not (has (leaves_ticket d.ticket) t)) (entered t) c at).0

low_tickets : (t : Trace) (cs : List Command) → EachOf (λ (c : Command). c.ticket ≤ length (entered t)) cs → AreTickets t (map (λ (c : Command). c.ticket) cs)
low_tickets t [] h = tt
low_tickets t (c ∷ cs) h = (h.0, low_tickets t cs h.1)

started_low : (o : Setting) (t : Trace) (next : ℕ) → HaveForms o next t → (p : Command → Bool) (ks : List ℕ) → AreTickets t (map (λ (c : Command). c.ticket) (filter p (filter_map (live_with t) ks)))
started_low o t next forms p ks = low_tickets t (filter p (filter_map (live_with t) ks)) (each-filter (λ (c : Command). c.ticket ≤ length (entered t)) p (filter_map (live_with t) ks) (each_live ks))
  where
    each_live : (js : List ℕ) → EachOf (λ (c : Command). c.ticket ≤ length (entered t)) (filter_map (live_with t) js)
    each_live [] = tt
    each_live (j ∷ js) = by_live (live_with t j) refl (each_live js)
      where
        by_live : (x : Option Command) → live_with t j ≡ x → EachOf (λ (c : Command). c.ticket ≤ length (entered t)) (filter_map (live_with t) js) → EachOf (λ (c : Command). c.ticket ≤ length (entered t)) (cons_option x (filter_map (live_with t) js))
        by_live None is rest = rest
        by_live (Some c) is rest = (live_low o t next forms c (find_in (λ (d : Command). d.ticket == j) (live t) c is).0, rest)

clear_low : (o : Setting) (t : Trace) (next : ℕ) → HaveForms o next t → (p : Command → Bool) (unit : ℕ) → AreTickets t (map (λ (c : Command). c.ticket) (filter p (live_in unit t)))
clear_low o t next forms p unit =
    low_tickets t (filter p (live_in unit t))
    (in_each (λ (c : Command). c.ticket ≤ length (entered t)) (filter p (live_in unit t)) (λ c at. live_low o t next forms c (in-filter (λ (d : Command). d.unit == unit) (live t) c (in-filter p (live_in unit t) c at).0).0))

-- ---- all of it

pub record Holds (i : Interface) (k : ℕ) (s : Side) : Type 0 where
  pub good : IsGood i.outbox k s.both
  pub together : IsTogether i.outbox s.both
  pub served : AreServed i.outbox s.both
  pub placed : ArePlaced s.both.box
  pub earlier : AllAre (λ (a : Arrival). a.event < s.both.event) s.both.trace
  pub turned : IsTurned i.outbox.session s.both.trace
  pub wires : AllAre IsWired s.both.trace
  pub told : AreTickets s.both.trace s.told
  pub marked : AreTickets s.both.trace s.marked
  pub asked : EachOf (λ (a : Asked). a.event < s.both.event) s.asked
  pub answers : EachOf (λ (e : ℕ). e < s.both.event) s.answers

pub holds_begun : (i : Interface) → Holds i 0 (opened i)
holds_begun i = record {
  good = good_begun i.outbox;
  together = together_begun i.outbox;
  served = served_begun i.outbox;
  placed = placed_opened i.outbox;
  earlier = all_none (λ (a : Arrival). a.event < 0);
  turned = none_turned i.outbox.session;
  wires = all_none IsWired;
  told = tt;
  marked = tt;
  asked = tt;
  answers = tt;
}

module _ (i : Interface) where
  -- the session and its outbox, after an event
  earlier_event : (s : Side) (e : Event) → AllAre (λ (a : Arrival). a.event < s.both.event) s.both.trace → Items i.outbox.session s.both.event (λ (a : Arrival). a.event < s.both.event + 1) s.both.trace (items_of i.outbox.session s.both.event s.both.trace e)
  earlier_event s e h =
      event_items i.outbox.session s.both.event (λ (a : Arrival). a.event < s.both.event + 1) s.both.trace e (now e)
      (all_weaken (λ (a : Arrival). a.event < s.both.event) (λ (a : Arrival). a.event < s.both.event + 1) s.both.trace (λ a lt. omega (arith, lt)) h)
    where
      now : (x : Event) → OfEvent i.outbox.session s.both.event (λ (a : Arrival). a.event < s.both.event + 1) s.both.trace x
      now (Arrive conn header) = omega arith
      now (Done ticket status) = tt

  -- an event of which the request is one of those that are asked for now
  holds_event : (k : ℕ) (s : Side) (e : Event) → is_read_with_room i.outbox s.both (Happens e) ≡ true → belongs i.outbox.session e ≡ true → AreServed i.outbox (after_step i.outbox s.both (Happens e))
      → OfEvent i.outbox.session s.both.event IsWired s.both.trace e → IsTurned i.outbox.session s.both.trace → AllAre IsWired s.both.trace → AreTickets s.both.trace s.told → AreTickets s.both.trace s.marked
      → IsGood i.outbox k s.both → IsTogether i.outbox s.both → ArePlaced s.both.box → AllAre (λ (a : Arrival). a.event < s.both.event) s.both.trace → EachOf (λ (a : Asked). a.event < s.both.event + 1) s.asked → EachOf (λ (x : ℕ). x < s.both.event) s.answers
      → Holds i k (happening i s e).side
  holds_event k s e read mine served wire turned wires told marked good together placed earlier asked answers =
      let entry = entry_of i.outbox.session s.both.event s.both.trace e in
      let items = earlier_event s e earlier in
      record {
        good = good_event i.outbox k s.both e read good;
        together = together_event i.outbox s.both e mine together;
        served = record { served = served.served; over = served.over };
        placed = (let p = placed_event i.outbox s.both.box entry.effects entry.numbers placed in record { outs = p.outs; handed = p.handed });
        earlier = items_end i.outbox.session s.both.event (λ (a : Arrival). a.event < s.both.event + 1) s.both.trace (items_of i.outbox.session s.both.event s.both.trace e) items;
        turned = event_turned i.outbox.session s.both.event s.both.trace e turned;
        wires = items_end i.outbox.session s.both.event IsWired s.both.trace (items_of i.outbox.session s.both.event s.both.trace e) (event_items i.outbox.session s.both.event IsWired s.both.trace e wire wires);
        told =
            each-append (λ (j : ℕ). j ≤ length (entered (after_event i.outbox.session s.both.event s.both.trace e))) s.told (map (λ (c : Command). c.ticket) (starting (stepped i s e) (entry_of i.outbox.session s.both.event s.both.trace e).effects))
            (more_tickets s.both.trace (items_of i.outbox.session s.both.event s.both.trace e) s.told told)
            (started_low i.outbox.session (after_event i.outbox.session s.both.event s.both.trace e) (s.both.event + 1) (event_forms i.outbox.session s.both.event s.both.trace e together.forms) (λ (c : Command). not (is_withheld (stepped i s e) c)) (filter_map ticket_enabled (entry_of i.outbox.session s.both.event s.both.trace e).effects));
        marked = more_tickets s.both.trace (items_of i.outbox.session s.both.event s.both.trace e) s.marked marked;
        asked = asked;
        answers =
            each-append (λ (x : ℕ). x < s.both.event + 1) s.answers (flat_map (answers_in s.both.event) (items_of i.outbox.session s.both.event s.both.trace e))
            (each-weaken (λ (x : ℕ). x < s.both.event) (λ (x : ℕ). x < s.both.event + 1) s.answers (λ x lt. omega (arith, lt)) answers)
            (all_early i.outbox.session s.both.event s.both.trace (items_of i.outbox.session s.both.event s.both.trace e) items);
      }

  -- a call of the outbox that takes no event
  holds_other : (k : ℕ) (s : Side) (c : outbox.Call) → is_other c ≡ true → EachOf (IsOver s.both.trace) (other i s c).both.box.links → Holds i k s → Holds i (k + 1) (other i s c)
  holds_other k s c is over h = record {
    good = good_other i.outbox k s.both c is h.good;
    together = together_other i.outbox s.both c (none_taken i.outbox c is) h.together;
    served = served_other i.outbox s.both c (none_taken i.outbox c is) over h.served;
    placed = placed_call i.outbox s.both.box c is h.placed;
    earlier = h.earlier;
    turned = h.turned;
    wires = h.wires;
    told = h.told;
    marked = h.marked;
    asked = h.asked;
    answers = h.answers;
  }

  simple_over : (s : Side) (c : outbox.Call) → IsSimple c → EachOf (IsOver s.both.trace) s.both.box.links → EachOf (IsOver s.both.trace) (other i s c).both.box.links
  simple_over s (outbox.Takes effects numbers) simple h = absurd simple
  simple_over s (outbox.Puts p) simple h = over_kept i.outbox s.both.box s.both.trace (outbox.Puts p) tt h
  simple_over s (outbox.Stops ticket) simple h = over_kept i.outbox s.both.box s.both.trace (outbox.Stops ticket) tt h
  simple_over s (outbox.Nexts conn) simple h = over_next i.outbox s.both.box s.both.trace conn h
  simple_over s (outbox.Writes conn) simple h = over_kept i.outbox s.both.box s.both.trace (outbox.Writes conn) tt h
  simple_over s (outbox.Hears conn exp_stat_sn tag) simple h = over_kept i.outbox s.both.box s.both.trace (outbox.Hears conn exp_stat_sn tag) tt h
  simple_over s (outbox.Joins conn stat_sn) simple h = over_kept i.outbox s.both.box s.both.trace (outbox.Joins conn stat_sn) tt h
  simple_over s (outbox.Loses conn) simple h = absurd simple
  simple_over s (outbox.Clears unit) simple h = over_kept i.outbox s.both.box s.both.trace (outbox.Clears unit) tt h

  pub simple_other : (c : outbox.Call) → IsSimple c → is_other c ≡ true
  simple_other (outbox.Takes effects numbers) simple = absurd simple
  simple_other (outbox.Puts p) simple = refl
  simple_other (outbox.Stops ticket) simple = refl
  simple_other (outbox.Nexts conn) simple = refl
  simple_other (outbox.Writes conn) simple = refl
  simple_other (outbox.Hears conn exp_stat_sn tag) simple = refl
  simple_other (outbox.Joins conn stat_sn) simple = refl
  simple_other (outbox.Loses conn) simple = absurd simple
  simple_other (outbox.Clears unit) simple = refl

  pub holds_simple : (k : ℕ) (s : Side) (c : outbox.Call) → IsSimple c → Holds i k s → Holds i (k + 1) (other i s c)
  holds_simple k s c simple h = holds_other k s c (simple_other c simple) (simple_over s c simple h.served.over) h

  -- ---- a request

  pub joined_there : (s : Side) (cid : ℕ) → is_joined s cid ≡ true → has_joined s.both.box.links cid ≡ true
  joined_there s cid is = by_links s.both.box.links is
    where
      by_links : (links : List Link) → elim (first_of (filter (λ (l : Link). l.conn == cid) links)) [ Some l ↦ is_open l | None ↦ false ] ≡ true → has_joined links cid ≡ true
      by_links [] k = absurd (false≢true k)
      by_links (l ∷ links) k = by_first (by_links links) (l.conn == cid) k
        where
          by_first : (elim (first_of (filter (λ (m : Link). m.conn == cid) links)) [ Some m ↦ is_open m | None ↦ false ] ≡ true → has_joined links cid ≡ true) → (v : Bool)
              → elim (first_of (cond v (l ∷ filter (λ (m : Link). m.conn == cid) links) (filter (λ (m : Link). m.conn == cid) links))) [ Some m ↦ is_open m | None ↦ false ] ≡ true → ((v && l.joined) || has_joined links cid) ≡ true
          by_first further true e = or_first l.joined (has_joined links cid) (and_parts l.joined (not l.lost) e).0
          by_first further false e = further e

  module _ (distinct : are_distinct i.outbox.session.conns ≡ true) where
    pub arrival_room : (k : ℕ) (s : Side) (cid : ℕ) (header : List ℕ) → refusal_of i s cid ≡ None → Holds i k s → may_take i.outbox (heard_in i s cid header).both.box ≡ true
    arrival_room k s cid header is h = heard_room i.outbox s.both.box cid (word_at 28 header) (tag_heard header) (alone_of i.outbox.session.conns s.both.box.links distinct h.good.conns) (taken_in i s cid is).room

    -- it is read
    pub arrival_read : (k : ℕ) (s : Side) (cid : ℕ) (header : List ℕ) → refusal_of i s cid ≡ None → Holds i k s → is_read_with_room i.outbox (heard_in i s cid header).both (Happens (Arrive cid header)) ≡ true
    arrival_read k s cid header is h =
        let t = taken_in i s cid is in
        let room = arrival_room k s cid header is h in
        and_both (is_known cid i.outbox.session.conns) (may_take i.outbox (heard_in i s cid header).both.box || is_parting (heard_in i s cid header).both (request_of cid header)) t.known
        (or_first (may_take i.outbox (heard_in i s cid header).both.box) (is_parting (heard_in i s cid header).both (request_of cid header)) room)

    pub holds_heard : (k : ℕ) (s : Side) (cid : ℕ) (header : List ℕ) → Holds i k s → Holds i (k + 1) (heard_in i s cid header)
    holds_heard k s cid header h = holds_simple k s (outbox.Hears cid (word_at 28 header) (tag_heard header)) tt h

    pub holds_arrival : (k : ℕ) (s : Side) (cid : ℕ) (header : List ℕ) (cookie : ℕ) → refusal_of i s cid ≡ None → AreBytes header → Holds i k s → Holds i (k + 1) (happening i (asking (heard_in i s cid header) cookie) (Arrive cid header)).side
    holds_arrival k s cid header cookie is bytes h =
        let t = taken_in i s cid is in
        let g = holds_heard k s cid header h in
        let s' : Side = heard_in i s cid header in
        let joined = joined_other i.outbox s.both.box (outbox.Hears cid (word_at 28 header) (tag_heard header)) cid tt (joined_there s cid t.joined) in
        holds_event (k + 1) (asking s' cookie) (Arrive cid header) (arrival_read k s cid header is h) t.known (served_event i.outbox s'.both (Arrive cid header) (inl joined) g.served)
        (wired s'.both.event (exp_of i.outbox.session s'.both.trace) cid header (wired_bytes cid header bytes)) g.turned g.wires g.told g.marked g.good g.together g.placed g.earlier
        (each-append (λ (a : Asked). a.event < s'.both.event + 1) s'.asked (record { event = s'.both.event; cookie = cookie } ∷ []) (each-weaken (λ (a : Asked). a.event < s'.both.event) (λ (a : Asked). a.event < s'.both.event + 1) s'.asked (λ a lt. omega (arith, lt)) g.asked) (omega arith, tt))
        g.answers

    -- ---- a connection that is lost

    pub loss_read : (k : ℕ) (s : Side) (cid : ℕ) → is_known cid i.outbox.session.conns ≡ true → is_lost s cid ≡ false → is_read_with_room i.outbox (other i s (outbox.Loses cid)).both (Happens (Arrive cid (parting cid))) ≡ true
    loss_read k s cid known kept = parting_read i.outbox (other i s (outbox.Loses cid)).both cid known (lost_there i.outbox s.both.box cid (link_there s cid kept))

    pub holds_loss : (k : ℕ) (s : Side) (cid : ℕ) → is_known cid i.outbox.session.conns ≡ true → is_lost s cid ≡ false → is_closed cid s.both.trace ≡ false → Holds i k s → Holds i (k + 1) (happening i (other i s (outbox.Loses cid)) (Arrive cid (parting cid))).side
    holds_loss k s cid known kept unclosed h =
        let s' : Side = other i s (outbox.Loses cid) in
        let closes = parting_closes i.outbox.session s.both.event s.both.trace cid known unclosed in
        holds_event (k + 1) s' (Arrive cid (parting cid)) (loss_read k s cid known kept) known (served_lost i.outbox s.both cid (Arrive cid (parting cid)) closes (inr closes) h.served)
        (wired s'.both.event (exp_of i.outbox.session s'.both.trace) cid (parting cid) (omega arith)) h.turned h.wires h.told h.marked
        (good_other i.outbox k s.both (outbox.Loses cid) refl h.good) (together_other i.outbox s.both (outbox.Loses cid) tt h.together) (placed_call i.outbox s.both.box (outbox.Loses cid) refl h.placed) h.earlier
        (each-weaken (λ (a : Asked). a.event < s.both.event) (λ (a : Asked). a.event < s.both.event + 1) s.asked (λ a lt. omega (arith, lt)) h.asked) h.answers

    -- ---- the end of a command

    pub holds_done : (k : ℕ) (s : Side) (ticket status : ℕ) → Holds i k s → Holds i k (happening i s (Done ticket status)).side
    holds_done k s ticket status h =
        holds_event k s (Done ticket status) refl refl (served_event i.outbox s.both (Done ticket status) tt h.served) tt h.turned h.wires h.told h.marked h.good h.together h.placed h.earlier
        (each-weaken (λ (a : Asked). a.event < s.both.event) (λ (a : Asked). a.event < s.both.event + 1) s.asked (λ a lt. omega (arith, lt)) h.asked) h.answers

    pub holds_walk : SideWalk i AreBytes (Holds i)
    holds_walk = record {
      completes = λ k s ticket status c is h. holds_done k s ticket status h;
      arrives = holds_arrival;
      loses = holds_loss;
      loses_closed = λ k s cid known kept closed h. holds_other k s (outbox.Loses cid) refl (lost_closed i.outbox s.both.box s.both.trace s.both.trace cid (λ c x. x) closed h.served.over) h;
      calls = holds_simple;
      clears = λ k s unit h. record { good = h.good; together = h.together; served = h.served; placed = h.placed; earlier = h.earlier; turned = h.turned; wires = h.wires; told = h.told; marked = each-append (λ (j : ℕ). j ≤ length (entered s.both.trace)) s.marked (map (λ (c : Command). c.ticket) (left_to_clear s unit)) h.marked (clear_low i.outbox.session s.both.trace s.both.event h.together.forms (λ (c : Command). not (is_marked s c)) unit); asked = h.asked; answers = h.answers };
      forgets = λ k s p h. record { good = h.good; together = h.together; served = h.served; placed = h.placed; earlier = h.earlier; turned = h.turned; wires = h.wires; told = h.told; marked = h.marked; asked = each-filter (λ (a : Asked). a.event < s.both.event) p s.asked h.asked; answers = h.answers };
      beside = λ k s noted handed awake over h. record { good = h.good; together = h.together; served = h.served; placed = h.placed; earlier = h.earlier; turned = h.turned; wires = h.wires; told = h.told; marked = h.marked; asked = h.asked; answers = h.answers };
      more = λ k s h. record { good = good_more i.outbox k (k + 1) s.both (omega arith) h.good; together = h.together; served = h.served; placed = h.placed; earlier = h.earlier; turned = h.turned; wires = h.wires; told = h.told; marked = h.marked; asked = h.asked; answers = h.answers };
    }
