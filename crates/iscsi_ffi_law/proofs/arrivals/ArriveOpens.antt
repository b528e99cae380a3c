-- A request is taken: its numbers are heard, and it has a place and a word.
use Rattle.std.proofs.Common.{◌≡◌, ℕ, ◌+◌, ◌<◌, ◌==◌, ⊎_elim, not, cond, inl, inr, nat_le, Bool, true, false, List, [], ◌∷◌, ◌++◌, Some, None, refl, sym, ◌∙◌, arith}
use Rattle.std.specs.List.{filter_map}
use Rattle.std.proofs.lemmas.Bool.{cases_lt, false≢true, le-leb}
use Rattle.iscsi_rules.proofs.general.ElementLemmas.{In}
use Rattle.iscsi_rules.specs.rules.Settings.{is_known}
use Rattle.iscsi_rules.specs.rules.Trace.{Mark, waiting}
use Rattle.iscsi_outbox_rules.specs.rules.Boxes.{Box, Link}
use Rattle.iscsi_outbox_rules.specs.rules.Calls as outbox
use Rattle.iscsi_outbox_rules.specs.rules.Queues.{at_link}
use Rattle.iscsi_outbox_rules.specs.rules.Words.{may_take}
use Rattle.iscsi_outbox_rules.specs.rules.Run.{after_call, link_heard}
use Rattle.iscsi_outbox_law.specs.private.Stands.{Stands as OutboxStands}
use Rattle.iscsi_outbox_law.proofs.general.PairLemmas.{each-weaken}
use Rattle.iscsi_outbox_law.proofs.arrivals.Hearing.{hears_stands}
use Rattle.iscsi_outbox_law.proofs.commands.TurningCount.{call_last}
use Rattle.iscsi_outbox_steps.specs.State.{State as OutboxState}
use Rattle.iscsi_outbox_steps.specs.Steps.{heard}
use Rattle.iscsi_requests.specs.Cookies.{entered, next_place}
use Rattle.iscsi_requests.specs.Numbers.{size_for}
use Rattle.iscsi_ffi_rules.specs.rules.Calls.{Interface}
use Rattle.iscsi_ffi_rules.specs.rules.Clearing.{next_withheld}
use Rattle.iscsi_ffi_rules.specs.declared.refusal.Refusal.TheVariants.{Busy, Exhausted, NotJoined, UnknownConnection}
use Rattle.iscsi_ffi_rules.specs.rules.Happening.{leaving}
use Rattle.iscsi_ffi_rules.specs.rules.Run.{cids, heard_in, is_joined, kept_back, refusal_of, tag_heard, word_at}
use Rattle.iscsi_ffi_rules.specs.rules.Sides.{Asked, Side}
use Rattle.iscsi_ffi_steps.specs.State.{State}
use Rattle.iscsi_ffi_steps.specs.Steps.{Side as StepsSide}
use Rattle.iscsi_ffi_law.specs.Arrived.{AreBefore, AreStepsFit, IsArrivalFit, IsEventFit, IsFreshCommand, IsLeavingFit, IsPlaced, items_then, side_behind}
use Rattle.iscsi_ffi_law.specs.Names.{Name, Note, place_named}
use Rattle.iscsi_ffi_law.specs.Parts.{AreFunctions, AreHeld}
use Rattle.iscsi_ffi_law.specs.Stands.{AreCounts, AreFlags, AreRequests, AreSizes, Stands}
use Rattle.iscsi_ffi_law.proofs.arrivals.Asked.{requests_asked}
use Rattle.iscsi_ffi_law.proofs.calls.Moved.{all_queued, requests_moved, run_same, with_box, with_outbox}
use Rattle.iscsi_ffi_law.proofs.requests.NameLemmas.{name_place}
use Rattle.iscsi_ffi_law.proofs.calls.Quiet.{left_heard, moved_settled, runs_by_tasks, same_heard, settled_tasks}
use Rattle.iscsi_ffi_law.proofs.requests.Releasing.{ending}
use Rattle.iscsi_ffi_law.proofs.arrivals.Slots.{functions_named, slots_named}

-- what is asked has nothing to do with it
steps_asked : (i : Interface) (asked : List Asked) (items : List (List Mark)) (r : Side) → AreStepsFit i r items → AreStepsFit i (record r { asked = asked }) items
steps_asked i asked [] r h = h
steps_asked i asked (item ∷ items) r h = (
  record {
    fit = h.0.fit;
    sends = h.0.sends;
    one_reply = h.0.one_reply;
    enters = λ c is. let k : IsFreshCommand r c = h.0.enters c is in record { unentered = k.unentered; unleft = k.unleft; untold = k.untold; unmarked = k.unmarked; idle = k.idle; unarrived = k.unarrived };
    waited = h.0.waited;
    leaves = each-weaken (IsLeavingFit i r item) (IsLeavingFit i (record r { asked = asked }) item) (filter_map leaving item) (λ d k. record { held = k.held; waiting = k.waiting; unanswered = k.unanswered; runs = k.runs }) h.0.leaves;
    emptied = h.0.emptied;
    waits = h.0.waits;
  },
  steps_asked i asked items (side_behind i r item) h.1,
)

-- what is found as an event begins, in which a request arrives that has this place
pub record IsFoundAt (i : Interface) (names : List Name) (notes : List Note) (s : State) (r : Side) (cid : ℕ) (header : List ℕ) (place : ℕ) : Type 0 where
  pub requests : AreRequests names notes (ending (Some place)) (λ q. []) s r
  pub outbox : OutboxStands i.outbox s.outbox r.both.box
  pub sizes : AreSizes i s
  pub flags : AreFlags i s r
  pub counts : AreCounts i s r
  pub named : place_named names r.both.event ≡ Some place
  pub slots : AreHeld (size_for i.outbox.session.window) s.commands.room names s.held r.both.trace
  pub functions : AreFunctions (cids i) names s.functions (waiting r.both.trace)
  pub withheld : s.withheld ≡ []
  pub calm : next_withheld r ≡ None
  pub before : AreBefore (record r { asked = [] })
  pub fit : IsEventFit i r cid header
  pub known : is_known cid i.outbox.session.conns ≡ true
  pub events : r.both.event < i.outbox.session.events

module _ (i : Interface) (s : StepsSide) (r : Side) (h : Stands i s r) (cid : ℕ) (header : List ℕ) (cookie : ℕ) (fit : IsArrivalFit i r cid header) (place : ℕ) (free : next_place s.state.cookies ≡ Some place) (within : IsPlaced s.state place) where
  abbrev pub box_heard : Box
  box_heard = after_call i.outbox r.both.box (outbox.Hears cid (word_at 28 header) (tag_heard header))

  abbrev pub outbox_heard : OutboxState
  outbox_heard = heard cid (word_at 28 header) (tag_heard header) s.state.outbox

  abbrev pub state_open : State
  state_open = record s.state { outbox = heard cid (word_at 28 header) (tag_heard header) s.state.outbox; cookies = entered cookie place s.state.cookies }

  abbrev pub side_open : Side
  side_open = record (heard_in i r cid header) { asked = r.asked ++ record { event = r.both.event; cookie = cookie } ∷ [] }

  abbrev pub names_open : List Name
  names_open = h.names ++ record { place = place; event = r.both.event; cookie = cookie } ∷ []

  stands_heard : OutboxStands i.outbox outbox_heard box_heard
  stands_heard = hears_stands i.outbox s.state.outbox r.both.box h.outbox fit.heard.sound fit.heard.distinct fit.heard.fits cid (word_at 28 header) (tag_heard header) fit.heard.short.time

  tasks_heard : box_heard.tasks ≡ r.both.box.tasks
  tasks_heard = settled_tasks i.outbox [] r.both.box.undue (record r.both.box { links = at_link cid (link_heard (word_at 28 header) (tag_heard header)) r.both.box.links })

  requests_heard : AreRequests h.names h.notes (λ q. 0) (λ q. []) (with_outbox s.state outbox_heard) (with_box r box_heard)
  requests_heard = requests_moved h.names h.notes (λ q. 0) (λ q. []) s.state r h.requests outbox_heard box_heard
      (run_same i s.state r outbox_heard box_heard h.outbox fit.heard.sound stands_heard fit.heard.sound_after fit.heard.distinct (runs_by_tasks r.both.box box_heard tasks_heard))
      (moved_settled i.outbox h.names s.state r (λ (l : Link). cond (l.conn == cid) (link_heard (word_at 28 header) (tag_heard header) l) l) (same_heard cid (word_at 28 header) (tag_heard header)) (left_heard cid (word_at 28 header) (tag_heard header))
      (all_queued i h.names h.notes (λ q. 0) (λ q. []) s.state r h.requests h.outbox fit.heard.distinct fit.heard.sound))

  pub opens_at : refusal_of i r cid ≡ None → IsFoundAt i names_open h.notes state_open side_open cid header place
  opens_at none =
      let requests : AreRequests names_open h.notes (ending (Some place)) (λ q. []) state_open side_open
      = requests_asked h.names h.notes (with_outbox s.state outbox_heard) (with_box r box_heard) requests_heard
      (record { asked = fit.before.asked; answers = fit.before.answers; entered = fit.before.entered; admitted = fit.before.admitted; waiting = fit.before.waiting }) place cookie free in
      record {
        requests = requests;
        outbox = stands_heard;
        sizes = record { room = h.sizes.room; functions = h.sizes.functions; replies = h.sizes.replies; noted = h.sizes.noted; unwritten = h.sizes.unwritten; noted_room = h.sizes.noted_room; unwritten_room = h.sizes.unwritten_room; replies_room = h.sizes.replies_room; slots = h.sizes.slots; few = h.sizes.few };
        flags = record { awake = h.flags.awake; over = h.flags.over };
        named = name_place names_open h.notes requests.apart (record { place = place; event = r.both.event; cookie = cookie }) (last_in h.names (record { place = place; event = r.both.event; cookie = cookie }));
        counts = record { units = h.counts.units; last = h.counts.last; tracked = call_last i.outbox s.state.outbox r.both.box (outbox.Hears cid (word_at 28 header) (tag_heard header)) h.counts.tracked tt };
        slots = slots_named (size_for i.outbox.session.window) s.state.commands.room h.names s.state.held r.both.trace h.slots (record { place = place; event = r.both.event; cookie = cookie }) (record { low = within.low; high = within.high });
        functions = functions_named (cids i) h.names s.state.functions (waiting r.both.trace) h.functions (record { place = place; event = r.both.event; cookie = cookie });
        withheld = h.withheld;
        calm = h.calm;
        before = record { asked = tt; answers = fit.before.answers; entered = fit.before.entered; admitted = fit.before.admitted; waiting = fit.before.waiting };
        fit = record { fit = fit.event.fit; steps = steps_asked i (r.asked ++ record { event = r.both.event; cookie = cookie } ∷ []) (items_then i (heard_in i r cid header) cid header) (heard_in i r cid header) fit.event.steps; stale = fit.event.stale; sent = fit.event.sent; replies = fit.event.replies; found = fit.event.found; short = fit.event.short; enabled = fit.event.enabled; few = fit.event.few; regular = record { ascending = fit.event.regular.ascending; units = fit.event.regular.units }; distinct = fit.event.distinct; received = fit.event.received; prompt = fit.event.prompt; waits = fit.event.waits };
        known = taken.0;
        events = taken.1;
      }
    where
      taken : (is_known cid i.outbox.session.conns ≡ true) × (r.both.event < i.outbox.session.events)
      taken = by_tests (is_known cid i.outbox.session.conns) (is_joined r cid) (nat_le i.outbox.session.events (r.both.event + kept_back i.outbox.session)) (may_take i.outbox r.both.box) refl none
        where
          by_tests : (u v w x : Bool) → nat_le i.outbox.session.events (r.both.event + kept_back i.outbox.session) ≡ w → cond (not u) (Some UnknownConnection) (cond (not v) (Some NotJoined) (cond w (Some Exhausted) (cond (not x) (Some Busy) None))) ≡ None
              → (u ≡ true) × (r.both.event < i.outbox.session.events)
          by_tests false v w x is k = absurd (let no : ⊥ = cc in no)
          by_tests true false w x is k = absurd (let no : ⊥ = cc in no)
          by_tests true true true x is k = absurd (let no : ⊥ = cc in no)
          by_tests true true false x is k = (
            refl,
            ⊎_elim (λ less. less) (λ many. absurd (false≢true (sym is ∙ le-leb i.outbox.session.events (r.both.event + kept_back i.outbox.session) (omega (arith, many))))) (cases_lt r.both.event i.outbox.session.events),
          )

      last_in : (ns : List Name) (n : Name) → In n (ns ++ n ∷ [])
      last_in [] n = inl refl
      last_in (m ∷ ns) n = inr (last_in ns n)
