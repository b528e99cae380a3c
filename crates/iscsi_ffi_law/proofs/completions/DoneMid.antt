-- Between the completions of a call: what holds behind each event by which a command ends.
use Rattle.std.proofs.Common.{◌≡◌, ℕ, ◌+◌, ◌*◌, ◌<◌, ◌≤◌, ◌==◌, ◌&&◌, not, true, List, [], ◌∷◌, ◌++◌, length, map, count_by, filter, Option, None, refl, ap, sym, subst, ◌∙◌, arith, length-append, length-set}
use Rattle.std.proofs.lemmas.Bool.{eq-eqb, not-true, or_left}
use Rattle.std.proofs.lemmas.List.{length-map}
use Rattle.iscsi_rules.specs.declared.event.Event.TheVariants.{Done}
use Rattle.iscsi_rules.specs.rules.Settings.{are_distinct}
use Rattle.iscsi_rules.specs.rules.Trace.{Command as RulesCommand, entered, first_of, has, leaves_ticket, live, waiting, was_free}
use Rattle.iscsi_rules.proofs.general.BoolLemmas.{or_none}
use Rattle.iscsi_rules.proofs.general.CountLemmas.{count-lost}
use Rattle.iscsi_rules.proofs.general.ListLemmas.{filter-shorter}
use Rattle.iscsi_outbox_rules.specs.promises.Room.{places}
use Rattle.iscsi_outbox_rules.specs.rules.Words.{contains}
use Rattle.iscsi_outbox_law.specs.private.Commands.{link_in}
use Rattle.iscsi_outbox_law.specs.private.Pairs.{EachOf, InOrder}
use Rattle.iscsi_outbox_law.specs.rules.Room.{AreFew}
use Rattle.iscsi_outbox_law.specs.private.Sound.{IsSound}
use Rattle.iscsi_outbox_law.specs.private.Stands.{Stands as OutboxStands}
use Rattle.iscsi_outbox_law.proofs.general.PairLemmas.{each-weaken, pairs-length}
use Rattle.iscsi_requests.specs.Conns.{of_conn}
use Rattle.iscsi_ffi_commands.specs.declared.command.Stage.TheVariants.{Over}
use Rattle.iscsi_ffi_rules.specs.declared.action.Action.{Action}
use Rattle.iscsi_ffi_rules.specs.rules.Calls.{Interface}
use Rattle.iscsi_ffi_rules.specs.rules.Clearing.{is_withheld}
use Rattle.iscsi_ffi_rules.specs.rules.Happening.{start as start_there}
use Rattle.iscsi_ffi_rules.specs.rules.Run.{cids}
use Rattle.iscsi_ffi_rules.specs.rules.Sides.{Side}
use Rattle.iscsi_ffi_steps.specs.State.{State}
use Rattle.iscsi_ffi_steps.specs.Steps.{Going, happening, start_each}
use Rattle.iscsi_ffi_steps.specs.Walk.{Doing}
use Rattle.iscsi_ffi_law.specs.Done.{IsRegular}
use Rattle.iscsi_ffi_law.specs.Names.{Name, Note}
use Rattle.iscsi_requests.specs.Numbers.{size_for}
use Rattle.iscsi_ffi_law.specs.Parts.{AreFunctions, AreHeld, IsCommand, IsConn, IsNote, IsRequest, is_named}
use Rattle.iscsi_ffi_law.specs.Stands.{AreCounts, AreFlags, AreRequests, AreSizes}
use Rattle.iscsi_ffi_law.proofs.items.Between.{held_same}
use Rattle.iscsi_ffi_law.proofs.arrivals.Slots.{slots_same}
use Rattle.iscsi_ffi_law.proofs.completions.Doing.{happening_is, starts_now}
use Rattle.iscsi_ffi_law.proofs.completions.DoneBox.{IsFound, b, entered_there, fit_after, last_after, lives_now, p, stands_after}
use Rattle.iscsi_ffi_law.proofs.completions.DoneCounts.{fewer_barred}
use Rattle.iscsi_ffi_law.proofs.completions.DoneHeld.{held_of, merged}
use Rattle.iscsi_ffi_law.proofs.completions.DoneRequests.{done_side, live_named_done, requests_done}
use Rattle.iscsi_ffi_law.proofs.completions.DoneRules.{side_after}
use Rattle.iscsi_ffi_law.proofs.completions.DoneShape.{done_item, done_trace, entered_same, filter_counted, left_too, news, tickets_of}
use Rattle.iscsi_ffi_law.proofs.completions.DoneWalk.{outbox_after, state_done}
use Rattle.iscsi_ffi_law.proofs.calls.Ends.{EndsAlike}
use Rattle.iscsi_ffi_law.proofs.calls.EndsWith.{ends_with}
use Rattle.iscsi_ffi_law.proofs.calls.Finish.{IsAtEnd}
use Rattle.iscsi_ffi_law.proofs.resets.Marking.{named_first}
use Rattle.iscsi_ffi_law.proofs.requests.Releases.{endings, releases}
use Rattle.iscsi_ffi_law.proofs.commands.Staging.{restaged}
use Rattle.iscsi_ffi_law.proofs.commands.Starting.{Starts, all_inserted, starting_of, withheld_of}

-- what holds there; `acts`: what was told so far. The places are those of commands that start still
pub record IsMid (i : Interface) (names : List Name) (notes : List Note) (s : State) (r : Side) (acts : List Action) (pending : ℕ → ℕ) : Type 0 where
  pub gone : ℕ → List (Option ℕ)
  pub requests : AreRequests names notes pending gone s r
  pub outbox : OutboxStands i.outbox s.outbox r.both.box
  pub sizes : AreSizes i s
  pub flags : AreFlags i s r
  pub counts : AreCounts i s r
  pub regular : IsRegular i r
  pub slots : AreHeld (size_for i.outbox.session.window) s.commands.room names s.held r.both.trace
  pub functions : AreFunctions (cids i) names s.functions (waiting r.both.trace)
  pub held : s.withheld ≡ tickets_of (held_of r)
  pub room : length acts + count_by (λ (c : RulesCommand). not (was_free c r.both.trace)) (live r.both.trace) ≤ 3 * places i.outbox
  pub sound : IsSound i.outbox r.both.box
  pub few : AreFew r.both.box

abbrev pub going_at : State → Side → List Action → Going
going_at s r acts = record { event = r.both.event; trace = r.both.trace; doing = record { state = s; actions = acts; forgets = [] } }

-- other commands are withheld
pub requests_held : (names : List Name) (notes : List Note) (pending : ℕ → ℕ) (gone : ℕ → List (Option ℕ)) (s : State) (r : Side) (held : List ℕ) → AreRequests names notes pending gone s r → AreRequests names notes pending gone (record s { withheld = held }) r
requests_held names notes pending gone s r held a = record {
  asked = a.asked;
  noted = a.noted;
  apart = a.apart;
  kept = a.kept;
  counted = a.counted;
  uses = a.uses;
  named = each-weaken (IsRequest s r.both.trace) (IsRequest (record s { withheld = held }) r.both.trace) names (λ n q. record { held = q.held; waiting = q.waiting }) a.named;
  noted_apart = each-weaken (IsNote s r.both.box.links) (IsNote (record s { withheld = held }) r.both.box.links) notes (λ n q. record { held = q.held; waiting = q.waiting; home = q.home }) a.noted_apart;
  tickets = a.tickets;
  commands = a.commands;
  live_named = a.live_named;
  one_use = a.one_use;
  numbered = a.numbered;
  answers = a.answers;
  once = a.once;
  last = a.last;
  conns = λ q within.
      let c : IsConn names notes (gone q) s r q (link_in r.both.box.links q) = a.conns q within in
      record { replies = c.replies; queued = c.queued; written = c.written; noted = c.noted };
  undue = a.undue;
}

-- ---- an event

module _ (i : Interface) (names : List Name) (notes : List Note) (s : State) (r : Side) (d : RulesCommand) (status : ℕ) (f : IsFound i names notes s r d status) (flags : AreFlags i s r) (regular : IsRegular i r) (acts : List Action)
    (held : s.withheld ≡ tickets_of (filter (λ (c : RulesCommand). not (c.ticket == d.ticket)) (held_of r))) (room : length acts + count_by (λ (c : RulesCommand). not (was_free c r.both.trace)) (live r.both.trace) ≤ 3 * places i.outbox) where
  barred : length (news i.outbox.session r.both.trace d status) + count_by (λ (c : RulesCommand). not (was_free c (done_trace r.both.trace d status))) (live (done_trace r.both.trace d status)) ≤ count_by (λ (c : RulesCommand). not (was_free c r.both.trace)) (live r.both.trace)
  barred = fewer_barred i.outbox.session r.both.trace d status regular.units

  wide : 7 * places i.outbox ≤ s.room
  wide = let conns = length-map i.outbox.session.conns (λ (c : ℕ × ℕ). c.0) in let all = f.sizes.room in omega (arith, all, conns)

  room_acts : length acts + length (news i.outbox.session r.both.trace d status) ≤ s.room
  room_acts = omega (arith, barred, wide, room)

  room_held : length s.withheld + length (news i.outbox.session r.both.trace d status) ≤ s.room
  room_held =
      let long = ap length held in
      let mapped = length-map (filter (λ (c : RulesCommand). not (c.ticket == d.ticket)) (held_of r)) (λ (c : RulesCommand). c.ticket) in
      let fewer = filter-shorter (λ (c : RulesCommand). not (c.ticket == d.ticket)) (held_of r) in
      let still = filter-shorter (λ (c : RulesCommand). was_free c r.both.trace && not (contains r.told c.ticket)) (live r.both.trace) in
      let few = f.fit.few in
      omega (arith, long, mapped, fewer, still, few, barred, wide, room)

  pub k : Starts names (done_side i names notes s r d status f) (outbox_after i names notes s r d status f) (map (restaged Over d.ticket) s.commands.items) (news i.outbox.session r.both.trace d status)
      (record { state = state_done i names notes s r d status f; actions = acts; forgets = [] })
      (start_each (tickets_of (news i.outbox.session r.both.trace d status)) (record { state = state_done i names notes s r d status f; actions = acts; forgets = [] }))
  k = starts_now i names notes s r d status f acts room_acts room_held

  -- what the steps come to
  abbrev pub state_then : State
  state_then = record (state_done i names notes s r d status f) { commands = record s.commands { items = k.items }; withheld = all_inserted (tickets_of (withheld_of (done_side i names notes s r d status f) (news i.outbox.session r.both.trace d status))) s.withheld }

  abbrev pub acts_then : List Action
  acts_then = acts ++ map (start_there (done_side i names notes s r d status f)) (starting_of (done_side i names notes s r d status f) (news i.outbox.session r.both.trace d status))

  pub happens_to : happening i None (Done d.ticket status) (going_at s r acts) ≡ going_at state_then (side_after i names notes s r d status f) acts_then
  happens_to =
      happening_is i names notes s r d status f acts room_acts room_held
      ∙ ap (λ (e : Doing). record { event = r.both.event + 1; trace = done_trace r.both.trace d status; doing = e }) k.is

  -- .. where no more commands are kept than before
  pub as_many : length (live (done_trace r.both.trace d status)) ≤ length k.items
  as_many =
      let pairs = pairs-length (IsCommand names (side_after i names notes s r d status f)) k.items (filter (is_named names) (entered (done_trace r.both.trace d status))) k.have.commands in
      let named = ap length (named_first names (done_trace r.both.trace d status) (entered (done_trace r.both.trace d status)) (live_named_done i names notes s r d status f)) in
      let fewer = filter-shorter (λ (c : RulesCommand). not (has (leaves_ticket c.ticket) (done_trace r.both.trace d status))) (filter (is_named names) (entered (done_trace r.both.trace d status))) in
      omega (arith, pairs, named, fewer)

  -- one is live no more
  pub fewer_live : length (live (done_trace r.both.trace d status)) + 1 ≤ length (live r.both.trace)
  fewer_live =
      let after = filter_counted (λ (c : RulesCommand). not (has (leaves_ticket c.ticket) (done_trace r.both.trace d status))) (entered (done_trace r.both.trace d status)) in
      let same = ap (count_by (λ (c : RulesCommand). not (has (leaves_ticket c.ticket) (done_trace r.both.trace d status)))) (entered_same r.both.trace d status) in
      let before = filter_counted (λ (c : RulesCommand). not (has (leaves_ticket c.ticket) r.both.trace)) (entered r.both.trace) in
      let lost = count-lost (λ (c : RulesCommand). not (has (leaves_ticket c.ticket) (done_trace r.both.trace d status))) (λ (c : RulesCommand). not (has (leaves_ticket c.ticket) r.both.trace)) (entered r.both.trace) d
      (λ c lives. ap not ((or_none (d.ticket == c.ticket) (has (leaves_ticket c.ticket) r.both.trace) (sym (left_too r.both.trace d status c.ticket) ∙ not-true (has (leaves_ticket c.ticket) (done_trace r.both.trace d status)) lives)).1))
      (entered_there i names notes s r d status f)
      (ap not (left_too r.both.trace d status d.ticket ∙ or_left (d.ticket == d.ticket) (has (leaves_ticket d.ticket) r.both.trace) (eq-eqb d.ticket d.ticket refl)))
      (ap not (lives_now i names notes s r d status f)) in
      omega (arith, after, same, before, lost)

  pub mid_then : AreHeld (size_for i.outbox.session.window) s.commands.room names s.held r.both.trace → AreFunctions (cids i) names s.functions (waiting r.both.trace) → IsMid i names notes state_then (side_after i names notes s r d status f) acts_then f.pending
  mid_then slots functions = record {
    functions = functions;
    slots = slots_same (size_for i.outbox.session.window) s.commands.room names s.held r.both.trace (done_trace r.both.trace d status) (held_same r.both.trace (done_item d status) (record { admits = refl; admits_none = λ n. refl; delivers = λ n. refl; empties = λ n. refl })) slots;
    gone = f.gone;
    requests = requests_done i names notes s r d status f (r.told ++ tickets_of (starting_of (done_side i names notes s r d status f) (news i.outbox.session r.both.trace d status)))
        (all_inserted (tickets_of (withheld_of (done_side i names notes s r d status f) (news i.outbox.session r.both.trace d status))) s.withheld) k.items k.have;
    outbox = stands_after i names notes s r d status f;
    sizes = record {
      room = f.sizes.room;
      functions = f.sizes.functions;
      replies = length-set s.replies.waiting (p i names notes s r d status f) (of_conn (p i names notes s r d status f) s.replies.waiting ++ record { log_place = r.both.box.sent; request = (b i names notes s r d status f).c.request } ∷ []) ∙ f.sizes.replies;
      noted = f.sizes.noted;
      unwritten = f.sizes.unwritten;
      noted_room = f.sizes.noted_room;
      unwritten_room = f.sizes.unwritten_room;
      replies_room = f.sizes.replies_room;
      slots = f.sizes.slots;
      few = f.sizes.few;
    };
    flags = record { awake = flags.awake; over = flags.over };
    counts = record { units = f.counts.units; last = (let same = ap length (entered_same r.both.trace d status) in let below = f.counts.last in omega (arith, same, below)); tracked = last_after i names notes s r d status f };
    regular = record {
      ascending = subst (InOrder (λ (c e : RulesCommand). c.ticket < e.ticket)) (sym (entered_same r.both.trace d status)) regular.ascending;
      units = subst (EachOf (λ (c : RulesCommand). c.unit < i.outbox.session.units)) (sym (entered_same r.both.trace d status)) regular.units;
    };
    held = ap (all_inserted (tickets_of (withheld_of (done_side i names notes s r d status f) (news i.outbox.session r.both.trace d status)))) held ∙ merged i names notes s r d status f regular;
    room =
        let all = length-append acts (map (start_there (done_side i names notes s r d status f)) (starting_of (done_side i names notes s r d status f) (news i.outbox.session r.both.trace d status))) in
        let mapped = length-map (starting_of (done_side i names notes s r d status f) (news i.outbox.session r.both.trace d status)) (start_there (done_side i names notes s r d status f)) in
        let fewer = filter-shorter (λ (c : RulesCommand). not (is_withheld (done_side i names notes s r d status f) c)) (news i.outbox.session r.both.trace d status) in
        omega (arith, all, mapped, fewer, barred, room);
    sound = (fit_after i names notes s r d status f).sound_after;
    few = (fit_after i names notes s r d status f).short.handed;
  }

-- ---- the end

-- .. with these uses ended
abbrev pub going_rel : List (Option ℕ) → State → Side → List Action → Going
going_rel xs s r acts = record { event = r.both.event; trace = r.both.trace; doing = releases xs (record { state = s; actions = acts; forgets = [] }) }

pub mid_ends : (i : Interface) (names : List Name) (notes : List Note) (xs : List (Option ℕ)) (s : State) (r : Side) (acts : List Action) → IsMid i names notes s r acts (endings xs) → length xs ≤ s.room → are_distinct i.outbox.session.conns ≡ true → held_of r ≡ [] → EndsAlike i (going_rel xs s r acts) r acts
mid_ends i names notes xs s r acts m room distinct none = ends_with i names notes m.gone xs acts s r at_end room short (going_rel xs s r acts) refl refl refl
  where
    at_end : IsAtEnd i names notes (endings xs) m.gone s r
    at_end = record {
      outbox = m.outbox;
      sound = m.sound;
      few = m.few;
      distinct = distinct;
      sizes = m.sizes;
      flags = m.flags;
      requests = m.requests;
      counts = m.counts;
      slots = m.slots;
      functions = m.functions;
      withheld = m.held ∙ ap tickets_of none;
      calm = ap first_of none;
    }

    short : length acts + 2 * length (cids i) ≤ s.room
    short = let conns = length-map i.outbox.session.conns (λ (c : ℕ × ℕ). c.0) in let all = m.sizes.room in let few = m.room in omega (arith, all, conns, few)
