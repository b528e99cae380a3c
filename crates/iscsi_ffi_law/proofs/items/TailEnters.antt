-- A request executes, and its command enters: its use is that of the command.
use Rattle.std.proofs.Common.{◌≡◌, ℕ, ◌+◌, ◌<◌, ◌≤◌, ◌==◌, ◌&&◌, cond, Bool, true, false, List, [], ◌∷◌, ◌++◌, length, filter, Option, Some, None, nat_le, nat_lt, not, refl, ap, sym, subst, ◌∙◌, arith, length-append, lt-ltb, eq-eqb, ne_eqb}
use Rattle.std.specs.List.{list_any}
use Rattle.std.proofs.lemmas.Bool.{eqb-true, false≢true}
use Rattle.std.proofs.lemmas.Bool.Decides.{nat_tests}
use Rattle.std.proofs.lemmas.List.{append-nil, append_assoc}
use Rattle.std.proofs.lemmas.List.Sums.{sum_by-append}
use Rattle.iscsi_wire.specs.Fields.{connection_of}
use Rattle.iscsi_rules.specs.declared.effect.Effect.{Effect}
use Rattle.iscsi_rules.specs.declared.effect.Effect.TheVariants.{Enter}
use Rattle.iscsi_rules.specs.rules.Settings.{are_distinct}
use Rattle.iscsi_rules.specs.rules.Trace.{Arrival, Command as RulesCommand, Mark, entered}
use Rattle.iscsi_rules.specs.rules.Run.{newly_enabled, stat_sn_of}
use Rattle.iscsi_rules.proofs.general.BoolLemmas.{and_parts}
use Rattle.iscsi_rules.proofs.general.CountLemmas.{count-cons}
use Rattle.iscsi_rules.proofs.general.ElementLemmas.{in-filter}
use Rattle.iscsi_rules.proofs.items.Forms.{AfterWaiting, AtArrival, AtTurn, Start}
use Rattle.iscsi_outbox_rules.specs.rules.Boxes.{Box, Handed, Link, Task}
use Rattle.iscsi_outbox_rules.specs.rules.Due.{settle}
use Rattle.iscsi_outbox_rules.specs.rules.Items.{after_item, conns_closed, reply_sent, task_entered, ticket_left}
use Rattle.iscsi_outbox_rules.specs.rules.Words.{is_running}
use Rattle.iscsi_outbox_law.specs.private.Pairs.{EachOf}
use Rattle.iscsi_outbox_law.specs.private.Sound.{HasHome, IsSound, entries_of, entry_of}
use Rattle.iscsi_outbox_law.proofs.general.PairLemmas.{each-weaken}
use Rattle.iscsi_outbox_law.proofs.commands.Stops.{stops_answered}
use Rattle.iscsi_outbox_steps.specs.State.{State as OutboxState}
use Rattle.iscsi_outbox_steps.specs.Steps.{after_item as steps_after_item, is_running_ticket}
use Rattle.iscsi_requests.specs.Conns.{of_conn}
use Rattle.iscsi_ffi_commands.specs.declared.command.Command.{Command}
use Rattle.iscsi_ffi_commands.specs.declared.command.Stage.TheVariants.{Entered}
use Rattle.iscsi_ffi_commands.specs.Commands.{is_going, is_live, is_of, may_enter}
use Rattle.iscsi_ffi_commands.specs.Commands as commands
use Rattle.iscsi_ffi_rules.specs.declared.action.Action.{Action}
use Rattle.iscsi_ffi_rules.specs.rules.Calls.{Interface}
use Rattle.iscsi_ffi_rules.specs.rules.Sides.{Side}
use Rattle.iscsi_ffi_steps.specs.State.{State}
use Rattle.iscsi_ffi_steps.specs.Walk.{Walk, on_effects}
use Rattle.iscsi_ffi_law.specs.Arrived.{IsFreshCommand, IsStepFit, effects_by, is_late, side_behind}
use Rattle.iscsi_ffi_law.specs.Names.{Name, Note, place_named}
use Rattle.iscsi_ffi_law.specs.Parts.{IsCommand, IsWithin, is_named}
use Rattle.iscsi_ffi_law.specs.Stands.{AreRequests}
use Rattle.iscsi_ffi_law.proofs.arrivals.Asked.{any_nothing}
use Rattle.iscsi_ffi_law.proofs.items.Between.{IsBetween, IsFound, IsHeaded, pending_of}
use Rattle.iscsi_ffi_law.proofs.events.Unswept.{is_some_effect}
use Rattle.iscsi_ffi_law.proofs.completions.DoneShape.{enabled_tickets, enables, gives_none, shows_none}
use Rattle.iscsi_ffi_law.proofs.items.EnterBox.{IsEnteringPart, entered_box, enters_item, enters_runs}
use Rattle.iscsi_ffi_law.proofs.items.EnterRequests.{requests_entered}
use Rattle.iscsi_ffi_law.proofs.general.Members.{Paired, Passing, any_in, each_in, pairs_in}
use Rattle.iscsi_ffi_law.proofs.calls.Moved.{IsMoved, all_queued, requests_moved}
use Rattle.iscsi_ffi_law.proofs.requests.NameLemmas.{Named, found_named, place_event}
use Rattle.iscsi_ffi_law.proofs.items.Plain.{answers_plain, effects_plain, leaves_no, one_enters, plain_effects, plain_item, task_of, void_effects}
use Rattle.iscsi_ffi_law.proofs.sending.Queued.{AllQueued, SettledTo, settled_to}
use Rattle.iscsi_ffi_law.proofs.calls.Quiet.{settled_sent}
use Rattle.iscsi_ffi_law.proofs.items.Stepping.{GoesOn, last_then, runs_then, stands_then, still_clear}
use Rattle.iscsi_ffi_law.proofs.items.TailOver.{voids_past}
use Rattle.iscsi_ffi_law.proofs.items.TailSends.{over_still}
use Rattle.iscsi_ffi_law.proofs.items.Walking.{enables_past, enters_walk, is_led, led_end, walk_at, walk_in}

five : (u v w x y : Bool) → u ≡ true → v ≡ true → w ≡ true → x ≡ true → y ≡ true → (u && v && w && x && y) ≡ true
five u v w x y e f g h k = ap (λ z. z && v && w && x && y) e ∙ ap (λ z. true && z && w && x && y) f ∙ ap (λ z. true && true && z && x && y) g ∙ ap (λ z. true && true && true && z && y) h ∙ ap (λ z. true && true && true && true && z) k

le-test : (x y : ℕ) → x ≤ y → nat_le x y ≡ true
le-test x y le = grind (arith, nat_tests)

entering_plain : (sn : ℕ) (start : Start) (a : Arrival) (void : Option ℕ) (c : RulesCommand) (ns : List RulesCommand) → IsEnteringPart (plain_effects sn start a void (Some c) None ns) a.request (task_of a.request c) ns
entering_plain sn AtTurn a None c ns = record { enabled = enabled_tickets ns; left = shows_none ticket_left ns (λ ticket unit. refl); entering = ap (λ ts. task_of a.request c ∷ ts) (shows_none (task_entered a.request) ns (λ ticket unit. refl)); closing = λ links. gives_none (conns_closed links) ns (λ ticket unit. refl); executes = refl; sends = shows_none reply_sent ns (λ ticket unit. refl) }
entering_plain sn AtTurn a (Some n) c ns = record { enabled = enabled_tickets ns; left = shows_none ticket_left ns (λ ticket unit. refl); entering = ap (λ ts. task_of a.request c ∷ ts) (shows_none (task_entered a.request) ns (λ ticket unit. refl)); closing = λ links. gives_none (conns_closed links) ns (λ ticket unit. refl); executes = refl; sends = shows_none reply_sent ns (λ ticket unit. refl) }
entering_plain sn AtArrival a None c ns = record { enabled = enabled_tickets ns; left = shows_none ticket_left ns (λ ticket unit. refl); entering = ap (λ ts. task_of a.request c ∷ ts) (shows_none (task_entered a.request) ns (λ ticket unit. refl)); closing = λ links. gives_none (conns_closed links) ns (λ ticket unit. refl); executes = refl; sends = shows_none reply_sent ns (λ ticket unit. refl) }
entering_plain sn AtArrival a (Some n) c ns = record { enabled = enabled_tickets ns; left = shows_none ticket_left ns (λ ticket unit. refl); entering = ap (λ ts. task_of a.request c ∷ ts) (shows_none (task_entered a.request) ns (λ ticket unit. refl)); closing = λ links. gives_none (conns_closed links) ns (λ ticket unit. refl); executes = refl; sends = shows_none reply_sent ns (λ ticket unit. refl) }
entering_plain sn AfterWaiting a None c ns = record { enabled = enabled_tickets ns; left = shows_none ticket_left ns (λ ticket unit. refl); entering = ap (λ ts. task_of a.request c ∷ ts) (shows_none (task_entered a.request) ns (λ ticket unit. refl)); closing = λ links. gives_none (conns_closed links) ns (λ ticket unit. refl); executes = refl; sends = shows_none reply_sent ns (λ ticket unit. refl) }
entering_plain sn AfterWaiting a (Some n) c ns = record { enabled = enabled_tickets ns; left = shows_none ticket_left ns (λ ticket unit. refl); entering = ap (λ ts. task_of a.request c ∷ ts) (shows_none (task_entered a.request) ns (λ ticket unit. refl)); closing = λ links. gives_none (conns_closed links) ns (λ ticket unit. refl); executes = refl; sends = shows_none reply_sent ns (λ ticket unit. refl) }

entry_there : (sn : ℕ) (start : Start) (a : Arrival) (void : Option ℕ) (c : RulesCommand) (ns : List RulesCommand) → entries_of (plain_effects sn start a void (Some c) None ns) ≡ (c.ticket, c.unit) ∷ []
entry_there sn AtTurn a None c ns = ap (λ es. (c.ticket, c.unit) ∷ es) (shows_none entry_of ns (λ ticket unit. refl))
entry_there sn AtTurn a (Some n) c ns = ap (λ es. (c.ticket, c.unit) ∷ es) (shows_none entry_of ns (λ ticket unit. refl))
entry_there sn AtArrival a None c ns = ap (λ es. (c.ticket, c.unit) ∷ es) (shows_none entry_of ns (λ ticket unit. refl))
entry_there sn AtArrival a (Some n) c ns = ap (λ es. (c.ticket, c.unit) ∷ es) (shows_none entry_of ns (λ ticket unit. refl))
entry_there sn AfterWaiting a None c ns = ap (λ es. (c.ticket, c.unit) ∷ es) (shows_none entry_of ns (λ ticket unit. refl))
entry_there sn AfterWaiting a (Some n) c ns = ap (λ es. (c.ticket, c.unit) ∷ es) (shows_none entry_of ns (λ ticket unit. refl))

module _ (i : Interface) (names : List Name) (notes : List Note) (s : State) (r : Side) (own : Option ℕ) (xs : List (Option ℕ)) (k : IsBetween i names notes s r own xs) (start : Start) (a : Arrival) (void : Option ℕ) (c : RulesCommand)
    (fit : IsStepFit i r (plain_item start a void (Some c) None)) (distinct : are_distinct i.outbox.session.conns ≡ true) (sound : IsSound i.outbox (side_behind i r (plain_item start a void (Some c) None)).both.box)
    (h : IsHeaded i names notes s r own xs (plain_item start a void (Some c) None) start a) (of_it : c.arrival ≡ a) (next : c.ticket ≡ length (entered r.both.trace) + 1) (unit : c.unit < i.outbox.session.units)
    (before : EachOf (λ (d : RulesCommand). (d.arrival.event == a.event) ≡ false) (entered r.both.trace)) where
  abbrev item : List Mark
  item = plain_item start a void (Some c) None

  abbrev sn : ℕ
  sn = stat_sn_of i.outbox.session r.both.trace (connection_of a.request)

  abbrev ns : List RulesCommand
  ns = newly_enabled i.outbox.session r.both.trace (plain_item start a void (Some c) None)

  abbrev es : List Effect
  es = plain_effects sn start a void (Some c) None ns

  effects_are : effects_by i r (plain_item start a void (Some c) None) ≡ es
  effects_are = effects_plain i.outbox.session r.both.trace start a void (Some c) None

  part : IsEnteringPart es a.request (task_of a.request c) ns
  part = entering_plain sn start a void c ns

  abbrev box1 : Box
  box1 = entered_box i.outbox r.both.box a.request (task_of a.request c) ns es part

  box_is : after_item i.outbox r.both.box (effects_by i r (plain_item start a void (Some c) None)) ≡ settle i.outbox box1
  box_is = ap (after_item i.outbox r.both.box) effects_are ∙ enters_item i.outbox r.both.box a.request (task_of a.request c) ns es part

  runs : (ticket : ℕ) → is_running (after_item i.outbox r.both.box (effects_by i r (plain_item start a void (Some c) None))) ticket ≡ is_running r.both.box ticket
  runs ticket = ap (λ (b : Box). is_running b ticket) box_is ∙ enters_runs i.outbox r.both.box a.request (task_of a.request c) ns es part refl ticket

  fresh : IsFreshCommand r c
  fresh = fit.enters c (one_enters start a void c)

  idle : is_running_ticket c.ticket s.outbox ≡ false
  idle = stops_answered i.outbox s.outbox r.both.box k.outbox fit.fit.sound distinct c.ticket ∙ fresh.idle

  -- no command of the outbox has its ticket yet
  below : EachOf (λ (t : Task). t.ticket < c.ticket) r.both.box.tasks
  below = (subst (EachOf (λ (e : ℕ × ℕ). EachOf (λ (t : Task). t.ticket < e.0) r.both.box.tasks × (e.1 < i.outbox.session.units))) (ap (λ (xs : List Effect). entries_of xs) effects_are ∙ entry_there sn start a void c ns) fit.fit.item_sound.entered).0.0

  apart_handed : EachOf (λ (l : Link). EachOf (λ (h : Handed). elim (h.out.ticket) as (λ (y : Option ℕ). Type 0) [ Some n ↦ (c.ticket == n) ≡ false | None ↦ Unit {0} ]) l.handed) r.both.box.links
  apart_handed = each-weaken (λ (l : Link). EachOf (λ (h : Handed). HasHome r.both.box.tasks l.conn h.out) l.handed) (λ (l : Link). EachOf (λ (h : Handed). elim (h.out.ticket) as (λ (y : Option ℕ). Type 0) [ Some n ↦ (c.ticket == n) ≡ false | None ↦ Unit {0} ]) l.handed) r.both.box.links
      (λ l each. each-weaken (λ (h : Handed). HasHome r.both.box.tasks l.conn h.out) (λ (h : Handed). elim (h.out.ticket) as (λ (y : Option ℕ). Type 0) [ Some n ↦ (c.ticket == n) ≡ false | None ↦ Unit {0} ]) l.handed (λ h home. by_ticket l.conn h.out.ticket home) each) fit.fit.sound.homes.handed
    where
      by_ticket : (conn : ℕ) (x : Option ℕ) → elim x as (λ (y : Option ℕ). Type 0) [ Some n ↦ list_any (λ (t : Task). t.ticket == n && t.conn == conn) r.both.box.tasks ≡ true | None ↦ Unit {0} ] → elim x as (λ (y : Option ℕ). Type 0) [ Some n ↦ (c.ticket == n) ≡ false | None ↦ Unit {0} ]
      by_ticket conn None home = tt
      by_ticket conn (Some n) home =
          let x : Passing (λ (t : Task). t.ticket == n && t.conn == conn) r.both.box.tasks = any_in (λ (t : Task). t.ticket == n && t.conn == conn) r.both.box.tasks home in
          let at : x.x.ticket ≡ n = eqb-true x.x.ticket n (and_parts (x.x.ticket == n) (x.x.conn == conn) x.passes).0 in
          let lt : x.x.ticket < c.ticket = each_in (λ (t : Task). t.ticket < c.ticket) r.both.box.tasks x.x x.there below in
          ne_eqb c.ticket n (λ same. let none : ⊥ = omega (arith, at, lt, same) in none)

  abbrev command : Command
  command = record { ticket = c.ticket; request = h.place; unit = c.unit; attr = c.attr; stage = Entered }

  abbrev outbox' : OutboxState
  outbox' = steps_after_item (effects_by i r item) s.outbox

  abbrev state1 : State
  state1 = record s { held = h.held; functions = h.functions; commands = commands.entered command s.commands }

  abbrev side1 : Side
  side1 = record r { both = record r.both { trace = item ∷ r.both.trace } }

  named_it : place_named names c.arrival.event ≡ Some (h.place)
  named_it = ap (λ (x : Arrival). place_named names x.event) of_it ∙ h.named

  abbrev pending' : ℕ → ℕ
  pending' p = pending_of k.unswept None xs p

  requests1 : AreRequests names notes pending' k.gone state1 side1
  requests1 = requests_entered names notes (pending_of k.unswept own xs) k.gone s r k.requests item c (one_enters start a void c) (leaves_no start a void c) fresh h.place named_it idle apart_handed r.both.event h.held h.functions pending'
      (λ p. omega (arith, h.uses p)) h.requests h.noted

  all1 : AllQueued names (item ∷ r.both.trace) r.answers (λ q. of_conn q s.replies.waiting) (λ q. length (of_conn q s.noted.handed)) r.both.box.links r.both.box.undue
  all1 = all_queued i names notes pending' k.gone state1 side1 requests1 k.outbox distinct fit.fit.sound

  settled : SettledTo names (item ∷ r.both.trace) r.answers (λ q. of_conn q s.replies.waiting) (λ q. length (of_conn q s.noted.handed)) r.both.box.links (settle i.outbox box1)
  settled = settled_to names (item ∷ r.both.trace) r.answers (λ q. of_conn q s.replies.waiting) (λ q. length (of_conn q s.noted.handed)) i.outbox box1 all1

  moved : IsMoved names state1 side1 (after_item i.outbox r.both.box (effects_by i r (plain_item start a void (Some c) None)))
  moved = subst (IsMoved names state1 side1) (sym box_is) (record {
    long = settled.long;
    sent = settled_sent i.outbox [] r.both.box.undue box1;
    queued = settled.all.queued;
    undue = settled.all.undue_are;
    conn = λ q within. (settled.same q (let l = settled.long in omega (arith, within, l))).conn;
    left = λ q within. (settled.same q (let l = settled.long in omega (arith, within, l))).left;
  })

  abbrev state' : State
  state' = record s { held = h.held; functions = h.functions; commands = commands.entered command s.commands; outbox = steps_after_item (effects_by i r item) s.outbox }

  requests2 : AreRequests names notes pending' k.gone state' (side_behind i r item)
  requests2 = subst (λ as'. AreRequests names notes pending' k.gone state' (record (side_behind i r item) { answers = as' })) (sym (append-nil r.answers) ∙ ap (λ as'. r.answers ++ as') (sym (answers_plain r.both.event start a void (Some c) None)))
      (requests_moved names notes pending' k.gone state1 side1 requests1 outbox' (after_item i.outbox r.both.box (effects_by i r item)) (runs_then i names notes s r own xs k item fit.fit distinct sound runs) moved)

  between : IsBetween i names notes state' (side_behind i r item) None xs
  between = record {
    requests = requests2;
    slots = h.slots;
    functions = h.functions_are;
    unswept = k.unswept;
    gone = k.gone;
    long_replies = k.long_replies;
    long_noted = k.long_noted;
    clear = still_clear i names notes s r own xs k item fit.fit distinct sound;
    outbox = stands_then i names notes s r own xs k item fit.fit distinct sound;
    sizes = record {
      room = k.sizes.room;
      functions = h.long_functions ∙ k.sizes.functions;
      replies = k.sizes.replies;
      noted = k.sizes.noted;
      unwritten = k.sizes.unwritten;
      noted_room = k.sizes.noted_room;
      unwritten_room = k.sizes.unwritten_room;
      replies_room = k.sizes.replies_room;
      slots = (let l = h.long in let some = k.sizes.slots in omega (arith, l, some));
      few = k.sizes.few;
    };
    flags = record { awake = k.flags.awake; over = k.flags.over };
    counts = record {
      units = k.counts.units;
      last =
          let more : length (entered (item ∷ r.both.trace)) ≡ length (entered r.both.trace) + 1 = ap (λ cs. length (entered r.both.trace ++ cs)) (one_enters start a void c) ∙ length-append (entered r.both.trace) (c ∷ []) in
          omega (arith, more, next);
      tracked = last_then i names notes s r own xs k item fit.fit distinct sound;
    };
    withheld = k.withheld;
    distinct = h.distinct;
    over = over_still i names notes s r own xs k item start a h;
    own_named = λ p none. absurd (let no : ⊥ = cc in no);
    own_unheld = λ p none. absurd (let no : ⊥ = cc in no);
    own_first = λ p none. absurd (let no : ⊥ = cc in no);
  }

  -- ---- the walk

  none_of_it : list_any (is_of h.place) s.commands.items ≡ false
  none_of_it = any_nothing (is_of h.place) s.commands.items
      (λ x there.
      let d : Paired (IsCommand names r) x (filter (is_named names) (entered r.both.trace)) = pairs_in (IsCommand names r) s.commands.items (filter (is_named names) (entered r.both.trace)) x there k.requests.commands in
      let m : Named names d.y.arrival.event x.request = found_named names d.y.arrival.event x.request d.pair.request in
      let apart : (d.y.arrival.event == a.event) ≡ false = each_in (λ (e : RulesCommand). (e.arrival.event == a.event) ≡ false) (entered r.both.trace) d.y (in-filter (is_named names) (entered r.both.trace) d.y d.there).0 before in
      ne_eqb x.request h.place (λ same.
      let is : (a.event == m.name.event) ≡ true = sym (place_event names notes k.requests.apart m.name a.event h.place m.there h.named) ∙ eq-eqb h.place m.name.place (sym (m.place_is ∙ same)) in
      false≢true (sym apart ∙ eq-eqb d.y.arrival.event a.event (sym m.event_is ∙ sym (eqb-true a.event m.name.event is)))))

  placed : IsWithin s.commands.room (found_named names a.event h.place h.named).name
  placed = let f = found_named names a.event h.place h.named in each_in (IsWithin s.commands.room) names f.name f.there k.slots.placed

  may : may_enter command s.commands ≡ true
  may =
      let place_is : (found_named names a.event h.place h.named).name.place ≡ h.place = (found_named names a.event h.place h.named).place_is in
      five (nat_lt s.commands.last c.ticket) (nat_lt c.unit s.commands.units) (nat_le 1 h.place) (nat_le h.place s.commands.room) (not (list_any (is_of h.place) s.commands.items))
      (lt-ltb s.commands.last c.ticket (let last = k.counts.last in omega (arith, last, next)))
      (lt-ltb c.unit s.commands.units (let units = k.counts.units in omega (arith, unit, units)))
      (le-test 1 h.place (let low = placed.low in omega (arith, low, place_is))) (le-test h.place s.commands.room (let high = placed.high in omega (arith, high, place_is))) (ap not none_of_it)

  walk : (o : OutboxState) → IsFound i o → (acts : List Action) (first : Bool) → (first && is_late r.both.event item) ≡ false → (rest : List Effect) → is_led rest ≡ true
      → on_effects first (effects_by i r item ++ rest) (walk_at o s acts xs own r.both.box.sent) ≡ on_effects false rest (walk_at o state' acts xs None (side_behind i r item).both.box.sent)
  walk o limits acts first late rest led =
      ap (λ es'. on_effects first (es' ++ rest) (walk_at o s acts xs own r.both.box.sent)) effects_are
      ∙ ap (λ w. on_effects false ((void_effects void ++ (Enter c.ticket c.unit c.attr ∷ enables ns)) ++ rest) w) (h.walk o limits acts first r.both.box.sent late)
      ∙ ap (λ es'. on_effects false es' after_head) (append_assoc (void_effects void) (Enter c.ticket c.unit c.attr ∷ enables ns) rest)
      ∙ voids_past void (Enter c.ticket c.unit c.attr ∷ (enables ns ++ rest)) after_head
      ∙ ap (on_effects false (enables ns ++ rest)) (enters_walk o s1 acts xs c.ticket c.unit h.place command refl may h.fresh None (Some (h.by)) r.both.box.sent)
      ∙ enables_past ns rest after_enter
      ∙ led_end rest led after_enter
      ∙ ap (λ n. on_effects false rest (walk_at o state' acts xs None n)) (sym moved.sent)
    where
      s1 : State
      s1 = record s { held = h.held; functions = h.functions }

      after_head : Walk
      after_head = walk_in o (record s { held = h.held; functions = h.functions }) acts xs (Some (h.place)) None (Some (h.by)) r.both.box.sent

      after_enter : Walk
      after_enter = walk_in o (record s { held = h.held; functions = h.functions; commands = commands.entered command s.commands }) acts xs None None (Some (h.by)) r.both.box.sent

  pub goes_entered : GoesOn i names notes k.unswept s r own xs (plain_item start a void (Some c) None)
  unfolding between
  goes_entered = record {
    state = state';
    ended = xs;
    between = between;
    outbox = refl;
    room = refl;
    few =
        let lives = sum_by-append (λ (x : Command). cond (is_live x) 1 0) s.commands.items (command ∷ []) in
        let going = sum_by-append (λ (x : Command). cond (is_going x) 1 0) s.commands.items (command ∷ []) in
        record { lives = (let fewer = h.fewer in omega (arith, lives, fewer, count-cons is_live command [])); going = omega (arith, going, count-cons is_going command []) };
    same = refl;
    begins = ap is_some_effect effects_are;
    waits = omega arith;
    notes_kept = refl;
    walk = λ o limits acts first late rest led. walk o limits acts first late rest led;
  }
