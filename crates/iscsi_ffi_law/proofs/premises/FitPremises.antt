-- The premises of the calls of a side, of what holds of it.
use Rattle.std.proofs.Common.{cond, eq-eqb, ◌≡◌, ℕ, zero, suc, ◌+◌, ◌-◌, ◌^◌, ◌<◌, ◌≤◌, nat_lt, true, false, List, [], ◌∷◌, ◌++◌, length, Option, Some, None, refl, ap, sym, subst, ◌∙◌, arith}
use Rattle.std.proofs.lemmas.Bool.{and_parts, ltb-true}
use Rattle.std.proofs.lemmas.List.{length-map}
use Rattle.iscsi_wire.specs.Fields.{connection_of}
use Rattle.iscsi_rules.specs.declared.effect.Effect.{Effect}
use Rattle.iscsi_rules.specs.declared.event.Event.{Event}
use Rattle.iscsi_rules.specs.declared.event.Event.TheVariants.{Arrive, Done}
use Rattle.iscsi_rules.specs.promises.Order.{in_parts}
use Rattle.iscsi_rules.specs.rules.Agenda.{command_of}
use Rattle.iscsi_rules.specs.rules.Run.{entry_of}
use Rattle.iscsi_rules.specs.rules.Settings.{are_distinct, is_known}
use Rattle.std.specs.List.{cons_option}
use Rattle.iscsi_wire.specs.Fields.{cmd_sn, request_of}
use Rattle.iscsi_rules.specs.rules.Execution.{exp_of, rejected}
use Rattle.iscsi_rules.specs.rules.Settings.{Setting}
use Rattle.iscsi_rules.specs.rules.Trace.{Admits, Arrival, Command, Executes, Ignores, Mark, Trace, Waits, after_items, first_of, is_closed, is_received, live}
use Rattle.iscsi_rules.proofs.promises.CloseRuns.{Sounds, event_sound}
use Rattle.iscsi_rules.proofs.items.Forms.{marks_done}
use Rattle.iscsi_outbox_rules.specs.promises.Room.{Both, FitItems, Happens, Other, after_step, is_read_with_room, places}
use Rattle.iscsi_outbox_rules.specs.rules.Boxes.{Box, Link}
use Rattle.iscsi_outbox_rules.specs.rules.Calls as outbox
use Rattle.iscsi_outbox_rules.specs.rules.Items.{after_item}
use Rattle.iscsi_outbox_rules.specs.rules.Words.{may_take, owing, replies_waiting, room}
use Rattle.iscsi_outbox_rules.proofs.room.RoomLives.{same_count}
use Rattle.iscsi_outbox_law.proofs.general.PairLemmas.{each-weaken}
use Rattle.iscsi_outbox_law.proofs.invariants.SoundRuns.{SoundItems}
use Rattle.iscsi_ffi_rules.specs.rules.Calls.{Interface}
use Rattle.iscsi_ffi_rules.specs.rules.Clearing.{next_withheld, status_of}
use Rattle.iscsi_ffi_rules.specs.rules.Happening.{Told, happening, other, withholding}
use Rattle.iscsi_ffi_rules.specs.rules.Run.{heard_in, is_lost, parting, refusal_of}
use Rattle.iscsi_ffi_rules.specs.rules.Sides.{Side}
use Rattle.iscsi_ffi_law.specs.Arrived.{AreBefore, IsReceivable, arrived, items_then}
use Rattle.iscsi_ffi_law.specs.Done.{AllDone, AreDoneFit, IsDoneFit, IsRegular}
use Rattle.iscsi_ffi_law.specs.Fit.{IsFit}
use Rattle.iscsi_ffi_law.specs.Sides.{AreBytes, AreItemsFit, IsLossFit, IsOpening, IsSideFit, IsTakenFit, asking}
use Rattle.iscsi_ffi_law.proofs.completions.DoneShape.{done_effects, done_entry, entry_is, one_part}
use Rattle.iscsi_ffi_law.proofs.premises.FitEvents.{taken_enabled, taken_short, taken_steps}
use Rattle.iscsi_ffi_law.proofs.premises.FitFacts.{limits, takes_reply, takes_reply_at, there_live, ticket_is}
use Rattle.iscsi_ffi_law.proofs.outbox_invariants.FitFollows.{together_event, live_there, tickets_up, units_there, together_other}
use Rattle.iscsi_ffi_law.proofs.side_invariants.FitHolds.{Holds, arrival_read, arrival_room, holds_arrival, holds_done, holds_heard, holds_loss, loss_read}
use Rattle.iscsi_ffi_law.proofs.outbox_invariants.FitNumbers.{all_sends, item_spent, spent}
use Rattle.iscsi_ffi_law.proofs.outbox_invariants.FitPlaces.{placed_call}
use Rattle.iscsi_ffi_law.proofs.session_invariants.FitReceived.{distinct_forms, receivable, wired, wired_bytes}
use Rattle.iscsi_ffi_law.proofs.premises.FitRefusals.{taken_in}
use Rattle.iscsi_rules.specs.rules.Management.{MOST_WAITING, waiting_on}
use Rattle.iscsi_rules.specs.rules.Trace.{waiting}
use Rattle.iscsi_ffi_law.proofs.general.Members.{in_each}
use Rattle.iscsi_ffi_law.proofs.arrivals.Turns.{Becomes, IsExecuted, IsIgnored, IsPostponed, IsReceived, IsRejected, becomes}
use Rattle.iscsi_ffi_law.proofs.session_invariants.FitPrompt.{prompt_arrival}
use Rattle.iscsi_ffi_law.proofs.outbox_invariants.FitReached.{fits_event, fits_reached, sound_event, sound_reached}
use Rattle.iscsi_ffi_law.proofs.outbox_invariants.FitReplies.{completes_more}
use Rattle.iscsi_ffi_law.proofs.outbox_invariants.FitShown.{max_reached}
use Rattle.iscsi_ffi_law.proofs.side_invariants.FitSides.{IsGood, each_sends, event_sends, good_event, good_other}
use Rattle.iscsi_ffi_law.proofs.side_invariants.FitWalks.{later_walk, on_withholding, withheld_there}
use Rattle.iscsi_ffi_law.proofs.session_invariants.FitCounts.{event_enables, items_short}
use Rattle.iscsi_ffi_law.proofs.premises.FitItems.{sends_few}
use Rattle.iscsi_ffi_law.proofs.session_invariants.FitLimits.{few_reached}

module _ (i : Interface) (opening : IsOpening i) where
  distinct : are_distinct i.outbox.session.conns ≡ true
  distinct = (limits i opening).distinct

  -- ---- boxes

  fit_with : (n m : ℕ) (found left : Both) → IsGood i.outbox n found → IsGood i.outbox m left → n < 2 ^ 63 → m < 2 ^ 63 → found.event ≤ 2 ^ 48 → left.event ≤ 2 ^ 48 → IsFit i found.box left.box
  fit_with n m found left g h small few early late =
      let s = sound_reached i.outbox distinct found g.reached in
      let l = limits i opening in
      record {
        distinct = distinct;
        some = (let x = l.some in let e = length-map i.outbox.session.conns (λ (c : ℕ × ℕ). c.0) in omega (arith, x, e));
        sound = s.0;
        sound_after = (sound_reached i.outbox distinct left h.reached).0;
        emptied = h.emptied;
        fits = fits_reached i.outbox distinct found g.reached;
        time = (let a = g.spent_is in let b = g.sent_is in omega (arith, a, b, small, early));
        few = each-weaken (λ (x : Link). length x.handed ≤ n) (λ (x : Link). length x.handed < 2 ^ 63) found.box.links (λ x le. omega (arith, le, small)) g.few;
        short = record {
          time = (let a = h.spent_is in let b = h.sent_is in omega (arith, a, b, few, late));
          max = (let a = max_reached i.outbox distinct l.window left h.reached in let f = opening.first in let w = l.window in omega (arith, a, f, w, late));
          handed = each-weaken (λ (x : Link). length x.handed ≤ m) (λ (x : Link). length x.handed < 2 ^ 63) left.box.links (λ x le. omega (arith, le, few)) h.few;
        };
      }

  -- ---- between the calls

  regular : (n : ℕ) (r : Side) → Holds i n r → IsRegular i r
  regular n r h = record { ascending = tickets_up i.outbox r.both h.together; units = units_there i.outbox r.both h.together }

  pub side_fit : (n : ℕ) (r : Side) → Holds i n r → n + 1 < 2 ^ 63 → r.both.event ≤ 2 ^ 48 → IsSideFit i r
  side_fit n r h few early = record {
    fit = fit_with n n r.both r.both h.good h.good (omega (arith, few)) (omega (arith, few)) early early;
    leaves = λ c is. fit_with n (n + 1) r.both (after_step i.outbox r.both (Other c)) h.good (good_other i.outbox n r.both c is h.good) (omega (arith, few)) few early early;
    sent = (let s = h.good.sent_is in omega (arith, s, early));
    orderly = record { cuts = h.together.cuts; closed = h.together.closed; live = live_there i.outbox r.both h.together };
    regular = regular n r h;
    before = before n r h;
  }
    where
      before : (k : ℕ) (s : Side) → Holds i k s → AreBefore s
      before k s x = record { asked = x.asked; answers = x.answers; entered = x.earlier.entered_by; admitted = x.earlier.admitted; waiting = x.earlier.waits }

  -- ---- the end of a command

  done_fit : (n : ℕ) (r : Side) (ticket status : ℕ) (d : Command) → command_of r.both.trace ticket ≡ Some d → Holds i n r → n + 1 < 2 ^ 63 → r.both.event + 1 ≤ 2 ^ 48 → r.both.event + 1 ≤ i.outbox.session.events → IsDoneFit i r ticket status
  done_fit n r ticket status d found h few early left =
      let e : Event = Done ticket status in
      let fitting = fits_event i.outbox distinct r.both e refl h.good.reached in
      let fits = fits_reached i.outbox distinct r.both h.good.reached in
      let many = same_count i.outbox r.both.box r.both.trace h.together.lives in
      record {
        fit = fit_with n n r.both (after_step i.outbox r.both (Happens e)) h.good (good_event i.outbox n r.both e refl h.good) (omega (arith, few)) (omega (arith, few)) (omega (arith, early)) early;
        room = fitting;
        stale = (sound_reached i.outbox distinct r.both h.good.reached).1;
        events = omega (arith, left);
        sent = (let s = h.good.sent_is in omega (arith, s, early));
        replies = one_less;
        few = (let t = fits.tasks in omega (arith, t, many));
        there = there_live i n r h ticket d found;
        takes = takes_reply i n r h ticket d found;
        handed = h.placed.handed;
      }
    where
      same : d.ticket ≡ ticket
      same = ticket_is i n r h ticket d found

      entry_there : entry_of i.outbox.session r.both.event r.both.trace (Done ticket status) ≡ done_entry i.outbox.session r.both.trace d status
      entry_there = ap (λ k. entry_of i.outbox.session r.both.event r.both.trace (Done k status)) (sym same) ∙ entry_is i.outbox.session r.both.event r.both.trace d status (ap (command_of r.both.trace) same ∙ found)

      one_part_fits : FitItems i.outbox r.both.box (done_effects i.outbox.session r.both.trace d status ∷ [])
      one_part_fits =
          subst (FitItems i.outbox r.both.box) (ap (λ x. in_parts x.effects) entry_there ∙ one_part i.outbox.session r.both.trace d status) (fits_event i.outbox distinct r.both (Done ticket status) refl h.good.reached)

      one_less : replies_waiting r.both.box < places i.outbox
      one_less =
          let sound = (sound_reached i.outbox distinct r.both h.good.reached).0 in
          let home = takes_reply i n r h ticket d found in
          let more = completes_more i.outbox r.both.box (done_effects i.outbox.session r.both.trace d status) (connection_of d.arrival.request) _ refl refl (takes_reply_at i n r h ticket d found) sound.undue in
          let fits = one_part_fits.0.replies in
          omega (arith, more, fits)

  done_fits : (n m : ℕ) (w : Told) → Holds i n w.side → n + 1 < 2 ^ 63 → (withholding i m w).side.both.event ≤ 2 ^ 48 → (withholding i m w).side.both.event ≤ i.outbox.session.events → AreDoneFit i m w
  done_fits n zero w h few early left = tt
  done_fits n (suc m) w h few early left = by_next (done_fits n m) (next_withheld w.side) refl early left
    where
      by_next : ((x : Told) → Holds i n x.side → n + 1 < 2 ^ 63 → (withholding i m x).side.both.event ≤ 2 ^ 48 → (withholding i m x).side.both.event ≤ i.outbox.session.events → AreDoneFit i m x)
          → (x : Option Command) → next_withheld w.side ≡ x
          → (elim x as (λ y. Told) [ Some c ↦ let g = happening i w.side (Done c.ticket (status_of w.side c)) in withholding i m (record { side = g.side; actions = w.actions ++ g.actions }) | None ↦ w ]).side.both.event ≤ 2 ^ 48
          → (elim x as (λ y. Told) [ Some c ↦ let g = happening i w.side (Done c.ticket (status_of w.side c)) in withholding i m (record { side = g.side; actions = w.actions ++ g.actions }) | None ↦ w ]).side.both.event ≤ i.outbox.session.events
          → elim x as (λ y. Type 0) [
            | Some c ↦ IsDoneFit i w.side c.ticket (status_of w.side c) × (let h = happening i w.side (Done c.ticket (status_of w.side c)) in AreDoneFit i m (record { side = h.side; actions = w.actions ++ h.actions }))
            | None ↦ Unit {0}
          ]
      by_next further None is a b = tt
      by_next further (Some c) is a b =
          let g = happening i w.side (Done c.ticket (status_of w.side c)) in
          let x : Told = record { side = g.side; actions = w.actions ++ g.actions } in
          let there = withheld_there w.side c is in
          let later = on_withholding i (λ k s. w.side.both.event + 1 ≤ s.both.event) (later_walk i (w.side.both.event + 1)) 0 m x (omega arith) in (
            done_fit n w.side c.ticket (status_of w.side c) there.0 there.1 h few (omega (arith, a, later)) (omega (arith, b, later)),
            further x (holds_done i distinct n w.side c.ticket (status_of w.side c) h) few a b,
          )

  -- so many complete behind an event
  pub withheld_fit : (n : ℕ) (w : Told) → Holds i n w.side → n + 1 < 2 ^ 63 → (withholding i (length (live w.side.both.trace)) w).side.both.event ≤ 2 ^ 48 → (withholding i (length (live w.side.both.trace)) w).side.both.event ≤ i.outbox.session.events
      → AreDoneFit i (length (live w.side.both.trace)) w
  withheld_fit n w h few early left = done_fits n (length (live w.side.both.trace)) w h few early left

  pub all_done : (n : ℕ) (r : Side) (ticket status : ℕ) (d : Command) → command_of r.both.trace ticket ≡ Some d → Holds i n r → n + 1 < 2 ^ 63
      → (let w = happening i r (Done ticket status) in withholding i (length (live w.side.both.trace)) w).side.both.event ≤ 2 ^ 48 → (let w = happening i r (Done ticket status) in withholding i (length (live w.side.both.trace)) w).side.both.event ≤ i.outbox.session.events
      → AllDone i r ticket status
  all_done n r ticket status d found h few early left =
      let w : Told = happening i r (Done ticket status) in
      let later = on_withholding i (λ k s. r.both.event + 1 ≤ s.both.event) (later_walk i (r.both.event + 1)) 0 (length (live w.side.both.trace)) w (omega arith) in
      record {
        regular = regular n r h;
        fit = done_fit n r ticket status d found h few (omega (arith, early, later)) (omega (arith, left, later));
        withheld = withheld_fit n w (holds_done i distinct n r ticket status h) few early left;
      }

  -- ---- a request

  items_fit : (most : ℕ) (b : Box) (items : List (List Effect)) → SoundItems i.outbox b items → FitItems i.outbox b items → spent b + all_sends items ≤ most → most < 2 ^ 64 - 1 → AreItemsFit i.outbox b items
  items_fit most b [] sound fits le small = tt
  items_fit most b (item ∷ items) sound fits le small =
      let more = item_spent i.outbox b item in (
        record { sound = sound.0; item_sound = sound.1.0; fits = fits.0; time = (let z : (after_item i.outbox b item).time < 2 ^ 64 - 1 = omega (arith, more, le, small) in z) },
        items_fit most (after_item i.outbox b item) items sound.1.1 fits.1 (omega (arith, more, le)) small,
      )

  event_items_fit : (n : ℕ) (r : Side) (e : Event) → is_read_with_room i.outbox r.both (Happens e) ≡ true → IsGood i.outbox n r.both → n + 1 < 2 ^ 63 → r.both.event + 1 ≤ 2 ^ 48 → AreItemsFit i.outbox r.both.box (in_parts (entry_of i.outbox.session r.both.event r.both.trace e).effects)
  event_items_fit n r e read h few early =
      let sends_few = event_sends i.outbox r.both.event r.both.trace e in
      let a = h.spent_is in
      let b = h.sent_is in
      items_fit (n + 2 ^ 48) r.both.box (in_parts (entry_of i.outbox.session r.both.event r.both.trace e).effects) (sound_event i.outbox distinct r.both e read h.reached) (fits_event i.outbox distinct r.both e read h.reached)
      (omega (arith, sends_few, a, b, early)) (omega (arith, few))

  sounds_below : (o : Setting) (items : List (List Mark)) (t : Trace) → Sounds o (after_items items t) → Sounds o t
  sounds_below o [] t h = h
  sounds_below o (item ∷ items) t h = (sounds_below o items (item ∷ t) h).1

  -- it is a new one
  new_received : (s : Side) (cid : ℕ) (header : List ℕ) (rest : List (List Mark)) → items_then i s cid header ≡ (Admits (arrived i s cid header) ∷ []) ∷ rest → is_received s.both.trace (arrived i s cid header).number ≡ false
  new_received s cid header rest same = new_by (becomes i.outbox.session s.both.trace (arrived i s cid header))
    where
      new_by : Becomes i.outbox.session s.both.trace (arrived i s cid header) (items_then i s cid header) → is_received s.both.trace (arrived i s cid header).number ≡ false
      new_by (IsIgnored why is) = absurd (let z : (Ignores why ∷ []) ∷ [] ≡ (Admits (arrived i s cid header) ∷ []) ∷ rest = sym is ∙ same in cc)
      new_by (IsRejected is) = absurd (let z : rejected (arrived i s cid header) ∷ [] ≡ (Admits (arrived i s cid header) ∷ []) ∷ rest = sym is ∙ same in cc)
      new_by (IsReceived more later new is due) = new
      new_by (IsExecuted d more now done opens is due) = absurd (let z : (Executes (arrived i s cid header) ∷ marks_done (arrived i s cid header) d) ∷ more ≡ (Admits (arrived i s cid header) ∷ []) ∷ rest = sym is ∙ same in cc)
      new_by (IsPostponed more now room is due) = absurd (let z : (Waits (arrived i s cid header) ∷ []) ∷ more ≡ (Admits (arrived i s cid header) ∷ []) ∷ rest = sym is ∙ same in cc)

  received_fit : (n : ℕ) (s : Side) (cid : ℕ) (header : List ℕ) → is_known cid i.outbox.session.conns ≡ true → cmd_sn (request_of cid header) < 2 ^ 32 → Holds i n s
      → (rest : List (List Mark)) → items_then i s cid header ≡ (Admits (arrived i s cid header) ∷ []) ∷ rest → IsReceivable i.outbox.session s.both.trace (arrived i s cid header)
  received_fit n s cid header known fits h rest same =
      let o : Setting = i.outbox.session in
      let t : Trace = s.both.trace in
      let a : Arrival = arrived i s cid header in
      let sounds : Sounds o ((Admits a ∷ []) ∷ t) = sounds_below o rest ((Admits a ∷ []) ∷ t) (subst (λ items. Sounds o (after_items items t)) same (event_sound o s.both.event t (Arrive cid header) known h.together.sounds)) in
      let range = sounds.0.range a.number a (ap (λ v. first_of (cons_option (cond v (Some a) None) [])) (eq-eqb a.number a.number refl)) in
      receivable o t s.both.event h.together.forms h.turned h.together.sounds h.wires (limits i opening).window a (wired s.both.event (exp_of o t) cid header fits) (new_received s cid header rest same) range.0 range.1

  refusal_known : (r : Side) (cid : ℕ) → refusal_of i r cid ≡ None → is_known cid i.outbox.session.conns ≡ true
  refusal_known r cid is = (taken_in i r cid is).known

  pub taken_fit : (n : ℕ) (r : Side) (cid : ℕ) (header : List ℕ) (cookie : ℕ) → refusal_of i r cid ≡ None → AreBytes header → Holds i n r → n + 2 < 2 ^ 63
      → (let w = happening i (asking (heard_in i r cid header) cookie) (Arrive cid header) in withholding i (length (live w.side.both.trace)) w).side.both.event ≤ 2 ^ 48
      → (let w = happening i (asking (heard_in i r cid header) cookie) (Arrive cid header) in withholding i (length (live w.side.both.trace)) w).side.both.event ≤ i.outbox.session.events
      → IsTakenFit i r cid header cookie
  taken_fit n r cid header cookie is bytes h few early left =
      let w : Told = happening i (asking (heard_in i r cid header) cookie) (Arrive cid header) in
      let later = on_withholding i (λ k s. r.both.event + 1 ≤ s.both.event) (later_walk i (r.both.event + 1)) 0 (length (live w.side.both.trace)) w (omega arith) in
      let s : Side = heard_in i r cid header in
      let g = holds_heard i distinct n r cid header h in
      let read = arrival_read i distinct n r cid header is h in
      let after : Both = after_step i.outbox s.both (Happens (Arrive cid header)) in
      let together = together_event i.outbox s.both (Arrive cid header) (refusal_known r cid is) g.together in
      let many = same_count i.outbox after.box after.trace together.lives in
      let fits' = fits_reached i.outbox distinct after (good_event i.outbox (n + 1) s.both (Arrive cid header) read g.good).reached in
      let items = event_items_fit (n + 1) s (Arrive cid header) read g.good (omega (arith, few)) (omega (arith, early, later)) in
      record {
        before = record { asked = h.asked; answers = h.answers; entered = h.earlier.entered_by; admitted = h.earlier.admitted; waiting = h.earlier.waits };
        heard = fit_with n (n + 1) r.both s.both h.good g.good (omega (arith, few)) (omega (arith, few)) (omega (arith, early, later)) (omega (arith, early, later));
        event = record {
          fit = fit_with (n + 1) (n + 1) s.both (after_step i.outbox s.both (Happens (Arrive cid header))) g.good (good_event i.outbox (n + 1) s.both (Arrive cid header) read g.good) (omega (arith, few)) (omega (arith, few)) (omega (arith, early, later)) (omega (arith, early, later));
          items = items;
          steps = taken_steps i opening n r cid header is h bytes (omega (arith, early, later)) items;
          stale = (sound_reached i.outbox distinct s.both g.good.reached).1;
          sent = (let x = g.good.sent_is in omega (arith, x, early, later));
          replies = room_left (arrival_room i distinct n r cid header is h);
          sends =
              let left = two_left (arrival_room i distinct n r cid header is h) in
              let sent = each_sends i.outbox s.both.event s.both.trace (Arrive cid header) in
              let sends = sends_few i.outbox (items_then i s cid header) s.both.trace (s.both.event + 1) together.forms in
              let most = few_reached i.outbox distinct s.both g.good.reached in
              omega (arith, left, sent, sends, most);
          handed = g.placed.handed;
          short = taken_short i opening n r cid header is h;
          enabled = taken_enabled i opening n r cid header is h;
          found = (let tasks = (fits_reached i.outbox distinct s.both g.good.reached).tasks in let many = same_count i.outbox s.both.box s.both.trace g.together.lives in omega (arith, tasks, many));
          few = (let tasks = fits'.tasks in omega (arith, tasks, many));
          regular = record { ascending = tickets_up i.outbox after together; units = units_there i.outbox after together };
          prompt = λ rest same. prompt_arrival i.outbox.session s.both.event s.both.trace (arrived i s cid header) g.turned (new_received s cid header rest same) (received_fit (n + 1) s cid header (refusal_known r cid is) (wired_bytes cid header bytes) g rest same).untaken rest same;
          waits = in_each (λ (b : Arrival). waiting_on (connection_of b.request) s.both.trace ≤ MOST_WAITING) (waiting s.both.trace) (λ b at. g.turned.four (connection_of b.request));
          distinct = distinct_forms i.outbox.session s.both.trace s.both.event g.together.forms;
          received = λ rest same. received_fit (n + 1) s cid header (refusal_known r cid is) (wired_bytes cid header bytes) g rest same;
        };
        withheld = withheld_fit (n + 1) w (holds_arrival i distinct n r cid header cookie is bytes h) (omega (arith, few)) early left;
      }
    where
      room_left : may_take i.outbox (heard_in i r cid header).both.box ≡ true → replies_waiting (heard_in i r cid header).both.box < places i.outbox
      room_left may =
          let parts = and_parts (nat_lt (replies_waiting (heard_in i r cid header).both.box) (room i.outbox)) (nat_lt (owing i.outbox (heard_in i r cid header).both.box) (room i.outbox)) may in
          let lt = ltb-true (replies_waiting (heard_in i r cid header).both.box) (room i.outbox) parts.0 in
          omega (arith, lt)

      two_left : may_take i.outbox (heard_in i r cid header).both.box ≡ true → replies_waiting (heard_in i r cid header).both.box < room i.outbox
      two_left may =
          ltb-true (replies_waiting (heard_in i r cid header).both.box) (room i.outbox)
          (and_parts (nat_lt (replies_waiting (heard_in i r cid header).both.box) (room i.outbox)) (nat_lt (owing i.outbox (heard_in i r cid header).both.box) (room i.outbox)) may).0

  -- ---- a connection that is lost

  pub loss_fit : (n : ℕ) (r : Side) (cid : ℕ) → is_known cid i.outbox.session.conns ≡ true → is_lost r cid ≡ false → is_closed cid r.both.trace ≡ false → Holds i n r → n + 2 < 2 ^ 63
      → (let w = happening i (other i r (outbox.Loses cid)) (Arrive cid (parting cid)) in withholding i (length (live w.side.both.trace)) w).side.both.event ≤ 2 ^ 48
      → (let w = happening i (other i r (outbox.Loses cid)) (Arrive cid (parting cid)) in withholding i (length (live w.side.both.trace)) w).side.both.event ≤ i.outbox.session.events
      → IsLossFit i r cid
  loss_fit n r cid known kept unclosed h few early left =
      let s : Side = other i r (outbox.Loses cid) in
      let e : Event = Arrive cid (parting cid) in
      let w : Told = happening i s e in
      let later = on_withholding i (λ k x. r.both.event + 1 ≤ x.both.event) (later_walk i (r.both.event + 1)) 0 (length (live w.side.both.trace)) w (omega arith) in
      let g : IsGood i.outbox (n + 1) s.both = good_other i.outbox n r.both (outbox.Loses cid) refl h.good in
      let read = loss_read i distinct n r cid known kept in
      let together = together_other i.outbox r.both (outbox.Loses cid) tt h.together in
      let after : Both = after_step i.outbox s.both (Happens e) in
      let together' = together_event i.outbox s.both e known together in
      let many = same_count i.outbox s.both.box s.both.trace together.lives in
      let many' = same_count i.outbox after.box after.trace together'.lives in
      let fits = fits_reached i.outbox distinct s.both g.reached in
      let fits' = fits_reached i.outbox distinct after (good_event i.outbox (n + 1) s.both e read g).reached in
      let most = few_reached i.outbox distinct s.both g.reached in
      let some = (limits i opening).some in
      let items = items_short i.outbox.session s.both.trace (arrived i s cid (parting cid)) in
      let enables = event_enables i.outbox.session s.both.event s.both.trace e in
      record {
        fit = record {
          fit = fit_with (n + 1) (n + 1) s.both (after_step i.outbox s.both (Happens e)) g (good_event i.outbox (n + 1) s.both e read g) (omega (arith, few)) (omega (arith, few)) (omega (arith, early, later)) (omega (arith, early, later));
          items = event_items_fit (n + 1) s e read g (omega (arith, few)) (omega (arith, early, later));
          stale = (sound_reached i.outbox distinct s.both g.reached).1;
          events = omega (arith, left, later);
          sent = (let x = g.sent_is in omega (arith, x, early, later));
          replies = (fits_reached i.outbox distinct s.both g.reached).replies;
          handed = (placed_call i.outbox r.both.box (outbox.Loses cid) refl h.placed).handed;
          found = (let tasks = fits.tasks in omega (arith, tasks, many));
          short = omega (arith, items, most, some);
          enabled = omega (arith, enables, most, some);
          few = (let tasks = fits'.tasks in omega (arith, tasks, many'));
          regular = record { ascending = tickets_up i.outbox after together'; units = units_there i.outbox after together' };
          waits = in_each (λ (b : Arrival). waiting_on (connection_of b.request) s.both.trace ≤ MOST_WAITING) (waiting s.both.trace) (λ b at. h.turned.four (connection_of b.request));
          distinct = distinct_forms i.outbox.session s.both.trace s.both.event h.together.forms;
        };
        withheld = withheld_fit (n + 1) w (holds_loss i distinct n r cid known kept unclosed h) (omega (arith, few)) early left;
      }
