-- Commands leave by a request: what is kept of requests stands for it, with the uses that end.
use Rattle.std.proofs.Common.{◌≡◌, ℕ, ◌+◌, ◌<◌, ◌==◌, ◌&&◌, ◌||◌, not, cond, Bool, true, false, List, [], ◌∷◌, length, map, count_by, filter, filter_map, find, Option, Some, None, is_some, zero, suc, refl, ap, sym, subst, ◌∙◌, arith}
use Rattle.std.specs.List.{list_any}
use Rattle.std.proofs.lemmas.Bool.{eq-eqb, eqb-true, false≢true}
use Rattle.std.proofs.lemmas.List.{length-map}
use Rattle.iscsi_rules.specs.rules.Trace.{Command as RulesCommand, Mark, Trace, are_apart, entered, enters, has, is_among, leaves_ticket, was_free}
use Rattle.iscsi_rules.proofs.general.BoolLemmas.{or_none}
use Rattle.iscsi_rules.proofs.general.CountLemmas.{one}
use Rattle.iscsi_rules.proofs.general.ElementLemmas.{In}
use Rattle.iscsi_outbox_rules.specs.promises.Scope.{nth}
use Rattle.iscsi_outbox_rules.specs.rules.Boxes.{Answer, Box, Link, Outgoing}
use Rattle.iscsi_outbox_rules.specs.rules.Queues.{without}
use Rattle.iscsi_outbox_rules.specs.rules.Run.{new_link}
use Rattle.iscsi_outbox_rules.specs.rules.Words.{contains}
use Rattle.iscsi_outbox_law.specs.private.Commands.{link_in}
use Rattle.iscsi_outbox_law.specs.private.Pairs.{EachOf, PairsOf}
use Rattle.iscsi_outbox_law.proofs.general.PairLemmas.{each-at, each-weaken, pairs-weaken}
use Rattle.iscsi_outbox_steps.specs.State.{State as OutboxState}
use Rattle.iscsi_outbox_steps.specs.Steps.{is_running_ticket}
use Rattle.iscsi_requests.specs.Conns.{of_conn}
use Rattle.iscsi_requests.specs.Functions.{WaitingFunctions}
use Rattle.iscsi_requests.specs.declared.functions.WaitingFunction.{WaitingFunction}
use Rattle.iscsi_requests.specs.Numbers.{HeldNumbers}
use Rattle.iscsi_ffi_commands.specs.declared.command.Command.{Command}
use Rattle.iscsi_ffi_commands.specs.declared.command.Stage.TheVariants.{Over}
use Rattle.iscsi_ffi_commands.specs.Commands.{has_ticket, in_stage, is_going, is_live}
use Rattle.iscsi_ffi_rules.specs.rules.Needs.{is_about, is_of_event, is_ticket_of, left_to_write}
use Rattle.iscsi_ffi_rules.specs.rules.Sides.{Side}
use Rattle.iscsi_ffi_steps.specs.State.{State}
use Rattle.iscsi_ffi_law.specs.Names.{Name, Note}
use Rattle.iscsi_ffi_law.specs.Parts.{IsAbout, IsCommand, IsConn, IsKnownOut, IsLiveNamed, IsNote, IsOneUse, IsQueued, IsReplyOf, IsRequest, IsUndue, is_named}
use Rattle.iscsi_ffi_law.specs.Stands.{AreRequests}
use Rattle.iscsi_ffi_law.specs.Uses.{count_functions, count_held, count_lists, is_place, is_used}
use Rattle.iscsi_ffi_law.proofs.commands.Commands.{one_command}
use Rattle.iscsi_ffi_law.proofs.completions.DoneShape.{tickets_of}
use Rattle.iscsi_ffi_law.proofs.calls.Fitting.{count_map}
use Rattle.iscsi_ffi_law.proofs.requests.Kept.{count_members, each_place}
use Rattle.iscsi_ffi_law.proofs.aborts.LeavingCommands.{AreOnce, IsLeaver, WasLive, among_tickets, ended_by, endings_left, entered_left, free_left, gone_by, gone_ticket, leaver_of, left_now, live_ticket_left, was_entered}
use Rattle.iscsi_ffi_law.proofs.aborts.LeavingQueues.{IsSilent, queued_left}
use Rattle.iscsi_ffi_law.proofs.resets.Marking.{pairs_mapped}
use Rattle.iscsi_ffi_law.proofs.general.Members.{Passing, any_in, find_in, two_counted}
use Rattle.iscsi_ffi_law.proofs.sending.Queued.{any_map, link_map}
use Rattle.iscsi_ffi_law.proofs.requests.Releases.{endings}
use Rattle.iscsi_ffi_law.proofs.commands.Stopping.{count_sum}

pub nth_in : (n : ℕ) (xs : List ℕ) (x : ℕ) → nth n xs ≡ Some x → contains xs x ≡ true
nth_in n [] x is = absurd (let no : ⊥ = cc in no)
nth_in zero (y ∷ xs) x is = let same : y ≡ x = cc in ap (λ v. v || contains xs x) (eq-eqb y x same)
nth_in (suc n) (y ∷ xs) x is = by_test (y == x) (nth_in n xs x is)
  where
    by_test : (v : Bool) → contains xs x ≡ true → (v || contains xs x) ≡ true
    by_test true rest = refl
    by_test false rest = rest

-- ---- no reply of one that leaves waits

module _ (names : List Name) (t : Trace) (answers : List ℕ) (apart : are_apart (entered t) ≡ true) (cs : List RulesCommand) (lives : (d : RulesCommand) → In d cs → WasLive t d) (unanswered : (d : RulesCommand) → In d cs → contains answers d.arrival.event ≡ false) where
  silent_out : (out : Outgoing) → IsKnownOut names t answers out → IsSilent (tickets_of cs) out
  silent_out out k = by_sent out.sent out.ticket k.same
    where
      by_among : (place ticket : ℕ) (d : RulesCommand) → find (λ (e : RulesCommand). e.ticket == ticket) (entered t) ≡ Some d → nth place answers ≡ Some d.arrival.event → (v : Bool) → contains (tickets_of cs) ticket ≡ v → v ≡ false
      by_among place ticket d found answered false is = refl
      by_among place ticket d found answered true is = absurd (
          let x : Passing (λ (e : RulesCommand). e.ticket == ticket) cs = any_in (λ (e : RulesCommand). e.ticket == ticket) cs (sym (among_tickets cs ticket) ∙ is) in
          let w : WasLive t x.x = lives x.x x.there in
          let at = find_in (λ (e : RulesCommand). e.ticket == ticket) (entered t) d found in
          let same : d ≡ w.e = one_command (entered t) d w.e apart at.0 (was_entered t x.x w).0 (eqb-true d.ticket ticket at.1 ∙ sym (eqb-true x.x.ticket ticket x.passes) ∙ sym w.ticket) in
          false≢true (sym (unanswered x.x x.there) ∙ nth_in place answers x.x.arrival.event (answered ∙ ap (λ (c : RulesCommand). Some (c.arrival.event)) same ∙ ap (λ (n : ℕ). Some n) w.event))
          )

      by_sent : (sent ticket : Option ℕ) → IsReplyOf t answers sent ticket → (is_some sent && elim ticket [ Some n ↦ contains (tickets_of cs) n | None ↦ false ]) ≡ false
      by_sent None ticket same = refl
      by_sent (Some place) None same = refl
      by_sent (Some place) (Some ticket) same = by_among place ticket same.0 same.1 same.2 (contains (tickets_of cs) ticket) refl

  pub silent_queue : (queue : List Outgoing) → EachOf (IsKnownOut names t answers) queue → EachOf (IsSilent (tickets_of cs)) queue
  silent_queue queue known = each-weaken (IsKnownOut names t answers) (IsSilent (tickets_of cs)) queue silent_out known

-- ---- all of it

-- what is known of those that leave
pub record AreLeaving (names : List Name) (s : State) (r : Side) (item : List Mark) (o : OutboxState) (cs : List RulesCommand) : Type 0 where
  pub none_enters : filter_map enters item ≡ []
  pub left_by : (k : ℕ) → list_any (leaves_ticket k) item ≡ is_among k cs
  pub lives : (d : RulesCommand) → In d cs → WasLive r.both.trace d
  pub once : AreOnce cs
  pub unanswered : (d : RulesCommand) → In d cs → contains r.answers d.arrival.event ≡ false
  -- they run on where they were told to start; all others run as before
  pub run : (d : RulesCommand) → In d cs → is_running_ticket d.ticket o ≡ contains r.told d.ticket
  pub others : (k : ℕ) → is_among k cs ≡ false → is_running_ticket k o ≡ is_running_ticket k s.outbox

module _ (names : List Name) (notes : List Note) (pending : ℕ → ℕ) (gone : ℕ → List (Option ℕ)) (s : State) (r : Side) (a : AreRequests names notes pending gone s r) (item : List Mark) (o : OutboxState) (cs : List RulesCommand) (h : AreLeaving names s r item o cs) where
  pub leavers : (d : RulesCommand) → In d cs → IsLeaver names r s.commands.items d
  leavers d there = leaver_of names r s.commands.items a.commands a.numbered a.live_named d (h.lives d there)

  abbrev pub links_left : List Link
  links_left = map (without (contains (tickets_of cs))) r.both.box.links

  entered_is : entered (item ∷ r.both.trace) ≡ entered r.both.trace
  entered_is = entered_left r.both.trace item cs h.none_enters h.left_by

  left_is : (k : ℕ) → has (leaves_ticket k) (item ∷ r.both.trace) ≡ (is_among k cs || has (leaves_ticket k) r.both.trace)
  left_is = left_now r.both.trace item cs h.none_enters h.left_by

  pub silent : EachOf (λ (l : Link). EachOf (IsSilent (tickets_of cs)) l.queue) r.both.box.links
  silent = each_place (λ (l : Link). EachOf (IsSilent (tickets_of cs)) l.queue) r.both.box.links (new_link 0)
      (λ p within. silent_queue names r.both.trace r.answers a.tickets cs h.lives h.unanswered (link_in r.both.box.links p).queue (a.conns p within).queued.known)

  module _ (b : Box) (links_are : b.links ≡ map (without (contains (tickets_of cs))) r.both.box.links) (undue_are : b.undue ≡ r.both.box.undue) (sent_is : b.sent ≡ r.both.box.sent) (held : HeldNumbers) (functions : WaitingFunctions) (pending' : ℕ → ℕ)
      (uses : (place : ℕ) → count_by (is_place place) held.places + count_lists (λ (f : WaitingFunction). f.request == place) functions.waiting + pending' place ≡ count_held place s + count_functions place s + pending place + endings (ended_by names r cs) place)
      (named : EachOf (IsRequest (record s { held = held; functions = functions }) (item ∷ r.both.trace)) names) (noted : EachOf (IsNote (record s { held = held; functions = functions }) r.both.box.links) notes) where
    abbrev pub state_left : State
    state_left = record s { held = held; functions = functions; commands = record s.commands { items = map (gone_by cs) s.commands.items }; outbox = o }

    abbrev pub side_left : Side
    side_left = record r { both = record r.both { trace = item ∷ r.both.trace; box = b } }

    -- ---- commands

    one_left : (c : Command) (x : RulesCommand) → IsCommand names r c x → IsCommand names side_left (gone_by cs c) x
    one_left c x k = by_among (is_among c.ticket cs) refl
      where
        freed_now : contains r.told x.ticket ≡ true → was_free x (item ∷ r.both.trace) ≡ true
        freed_now told = free_left r.both.trace item cs h.none_enters h.left_by x (k.freed told)

        by_among : (v : Bool) → is_among c.ticket cs ≡ v → IsCommand names side_left (cond v (in_stage Over c) c) x
        by_among true is = record {
          ticket = k.ticket;
          unit = k.unit;
          attr = k.attr;
          request = k.request;
          live = sym (ap not (left_is x.ticket ∙ ap (λ n. is_among n cs || has (leaves_ticket x.ticket) r.both.trace) (sym k.ticket) ∙ ap (λ v. v || has (leaves_ticket x.ticket) r.both.trace) is));
          going = refl;
          marked = refl;
          freed = freed_now;
        }
        by_among false is = record {
          ticket = k.ticket;
          unit = k.unit;
          attr = k.attr;
          request = k.request;
          live = k.live ∙ sym (ap not (left_is x.ticket ∙ ap (λ n. is_among n cs || has (leaves_ticket x.ticket) r.both.trace) (sym k.ticket) ∙ ap (λ v. v || has (leaves_ticket x.ticket) r.both.trace) is));
          going = k.going;
          marked = k.marked;
          freed = freed_now;
        }

    one_use_left : (c : Command) → IsOneUse s.outbox c → IsOneUse o (gone_by cs c)
    one_use_left c k = by_among (is_among c.ticket cs) refl
      where
        by_among : (v : Bool) → is_among c.ticket cs ≡ v → IsOneUse o (cond v (in_stage Over c) c)
        by_among true is = refl
        by_among false is = ap (λ v. is_live c && v) (h.others c.ticket is) ∙ k

    uses_left : (items : List Command) → EachOf (IsOneUse s.outbox) items → EachOf (IsOneUse o) (map (gone_by cs) items)
    uses_left [] each = tt
    uses_left (c ∷ items) each = (one_use_left c each.0, uses_left items each.1)

    same_tickets : (ticket : ℕ) (items : List Command) → count_by (has_ticket ticket) (map (gone_by cs) items) ≡ count_by (has_ticket ticket) items
    same_tickets ticket items =
        count_map (gone_by cs) (has_ticket ticket) items
        ∙ count_members (λ (c : Command). has_ticket ticket (gone_by cs c)) (has_ticket ticket) items (λ c at. ap (λ n. n == ticket) (gone_ticket cs c))

    -- what leaves and runs on uses its request still
    commands_used : (place : ℕ) → count_by (λ (c : Command). c.request == place && is_used s.outbox c) s.commands.items
        ≡ count_by (λ (c : Command). c.request == place && is_used o c) (map (gone_by cs) s.commands.items) + endings (ended_by names r cs) place
    commands_used place =
        let all = count_sum (λ (c : Command). c.request == place && is_used s.outbox c) (λ (c : Command). (gone_by cs c).request == place && is_used o (gone_by cs c)) (λ (c : Command). is_among c.ticket cs && (not (is_going c) && c.request == place)) s.commands.items
        (λ c at. each c at (is_among c.ticket cs) refl) in
        let mapped = count_map (gone_by cs) (λ (c : Command). c.request == place && is_used o c) s.commands.items in
        let ended = endings_left names r s.commands.items a.numbered place cs leavers h.once in
        omega (arith, all, mapped, ended)
      where
        each : (c : Command) → In c s.commands.items → (v : Bool) → is_among c.ticket cs ≡ v
            → one (c.request == place && is_used s.outbox c) ≡ one ((gone_by cs c).request == place && is_used o (gone_by cs c)) + one (is_among c.ticket cs && (not (is_going c) && c.request == place))
        each c at false is =
            let same : one ((gone_by cs c).request == place && is_used o (gone_by cs c)) ≡ one (c.request == place && is_used s.outbox c)
            = ap (λ v. one ((cond v (in_stage Over c) c).request == place && is_used o (cond v (in_stage Over c) c))) is ∙ ap (λ v. one (c.request == place && (is_live c || v))) (h.others c.ticket is) in
            let none : one (is_among c.ticket cs && (not (is_going c) && c.request == place)) ≡ 0 = ap (λ v. one (v && (not (is_going c) && c.request == place))) is in
            omega (arith, same, none)
        each c at true is =
            let x : Passing (λ (d : RulesCommand). d.ticket == c.ticket) cs = any_in (λ (d : RulesCommand). d.ticket == c.ticket) cs is in
            let l : IsLeaver names r s.commands.items x.x = leavers x.x x.there in
            let ticket : x.x.ticket ≡ c.ticket = eqb-true x.x.ticket c.ticket x.passes in
            let same : c ≡ l.c = two_counted (has_ticket x.x.ticket) s.commands.items c l.c (a.numbered x.x.ticket) at l.there (eq-eqb c.ticket x.x.ticket (sym ticket)) (eq-eqb l.c.ticket x.x.ticket l.ticket) in
            let lives : is_live c ≡ true = ap is_live same ∙ l.lives in
            let runs : is_running_ticket c.ticket o ≡ is_going c = ap (λ n. is_running_ticket n o) (sym ticket) ∙ h.run x.x x.there ∙ sym l.going ∙ ap is_going (sym same) in
            let before : one (c.request == place && is_used s.outbox c) ≡ one (c.request == place && true) = ap (λ v. one (c.request == place && (v || is_running_ticket c.ticket s.outbox))) lives in
            let after : one ((gone_by cs c).request == place && is_used o (gone_by cs c)) ≡ one (c.request == place && is_going c)
            = ap (λ v. one ((cond v (in_stage Over c) c).request == place && is_used o (cond v (in_stage Over c) c))) is ∙ ap (λ v. one (c.request == place && v)) runs in
            let ends : one (is_among c.ticket cs && (not (is_going c) && c.request == place)) ≡ one (not (is_going c) && c.request == place) = ap (λ v. one (v && (not (is_going c) && c.request == place))) is in
            omega (arith, before, after, ends, whole (c.request == place) (is_going c))
          where
            whole : (v w : Bool) → one (v && true) ≡ one (v && w) + one (not w && v)
            whole true true = refl
            whole true false = refl
            whole false true = refl
            whole false false = refl

    -- ---- connections

    about_left : (e : ℕ) (out : Outgoing) → is_about e side_left out ≡ is_about e r out
    about_left e out = ap (λ v. elim (out.sent) as (λ (y : Option ℕ). Bool) [ Some place ↦ elim (nth place r.answers) [ Some x ↦ x == e | None ↦ false ] | None ↦ false ] || v) (by_ticket out.ticket)
      where
        by_ticket : (x : Option ℕ) → ◌≡◌ {A = Bool} (elim x [ Some k ↦ is_ticket_of e (item ∷ r.both.trace) k | None ↦ false ]) (elim x [ Some k ↦ is_ticket_of e r.both.trace k | None ↦ false ])
        by_ticket None = refl
        by_ticket (Some k) = ap (list_any (λ (c : RulesCommand). is_of_event e c.arrival && c.ticket == k)) entered_is

    conn_left : (q : ℕ) → q < length r.both.box.links → IsConn names notes (gone q) state_left side_left q (without (contains (tickets_of cs)) (link_in r.both.box.links q))
    conn_left q short =
        let c : IsConn names notes (gone q) s r q (link_in r.both.box.links q) = a.conns q short in
        record {
          replies = c.replies;
          queued = subst (λ (u : List Answer). IsQueued names (item ∷ r.both.trace) r.answers u (of_conn q s.replies.waiting) (length (of_conn q s.noted.handed)) (without (contains (tickets_of cs)) (link_in r.both.box.links q))) (sym undue_are)
              (queued_left names r.both.trace (item ∷ r.both.trace) r.answers (tickets_of cs) entered_is (λ k other. live_ticket_left r.both.trace item cs h.none_enters h.left_by k (sym (among_tickets cs k) ∙ other)) r.both.box.undue (of_conn q s.replies.waiting) (length (of_conn q s.noted.handed)) (link_in r.both.box.links q)
              (each-at (λ (l : Link). EachOf (IsSilent (tickets_of cs)) l.queue) r.both.box.links q (new_link 0) short silent) c.queued);
          written = pairs-weaken (IsAbout names notes r (link_in r.both.box.links q).conn) (IsAbout names notes side_left (link_in r.both.box.links q).conn) (of_conn q s.unwritten.handed) (left_to_write (link_in r.both.box.links q))
              (λ x y k. record { named = each-weaken (λ (n : Name). is_about n.event r y.out ≡ is_place n.place x) (λ (n : Name). is_about n.event side_left y.out ≡ is_place n.place x) names (λ n e. about_left n.event y.out ∙ e) k.named; noted = k.noted }) c.written;
          noted = c.noted;
        }

    pub requests_left : AreRequests names notes pending' gone state_left side_left
    requests_left = record {
      asked = a.asked;
      noted = a.noted;
      apart = a.apart;
      kept = a.kept;
      counted = a.counted;
      uses = λ place. let used = commands_used place in omega (arith, a.uses place, uses place, used);
      named = each-weaken (IsRequest (record s { held = held; functions = functions }) (item ∷ r.both.trace)) (IsRequest state_left (item ∷ r.both.trace)) names (λ n q. record { held = q.held; waiting = q.waiting }) named;
      noted_apart = each-weaken (IsNote (record s { held = held; functions = functions }) r.both.box.links) (IsNote state_left b.links) notes
          (λ n q. record { held = q.held; waiting = q.waiting; home = ap (list_any (λ (l : Link). l.conn == n.conn)) links_are ∙ any_map (λ (l : Link). l.conn == n.conn) (without (contains (tickets_of cs))) r.both.box.links (λ l. refl) ∙ q.home }) noted;
      tickets = ap are_apart entered_is ∙ a.tickets;
      commands = subst (λ (ds : List RulesCommand). PairsOf (IsCommand names side_left) (map (gone_by cs) s.commands.items) (filter (is_named names) ds)) (sym entered_is)
          (pairs_mapped (IsCommand names r) (IsCommand names side_left) (gone_by cs) s.commands.items (filter (is_named names) (entered r.both.trace)) (λ c x at k. one_left c x k) a.commands);
      live_named = subst (EachOf (IsLiveNamed names (item ∷ r.both.trace))) (sym entered_is)
          (each-weaken (IsLiveNamed names r.both.trace) (IsLiveNamed names (item ∷ r.both.trace)) (entered r.both.trace) (λ d k lives. k (or_none (is_among d.ticket cs) (has (leaves_ticket d.ticket) r.both.trace) (sym (left_is d.ticket) ∙ lives)).1) a.live_named);
      one_use = uses_left s.commands.items a.one_use;
      numbered = λ ticket. let same = same_tickets ticket s.commands.items in let few = a.numbered ticket in omega (arith, same, few);
      answers = a.answers ∙ sym sent_is;
      once = a.once;
      last = a.last;
      conns = λ q within.
          let many = ap length links_are in
          let short : q < length r.both.box.links = omega (arith, within, many, length-map r.both.box.links (without (contains (tickets_of cs)))) in
          subst (IsConn names notes (gone q) state_left side_left q) (sym (ap (λ ls. link_in ls q) links_are ∙ link_map (without (contains (tickets_of cs))) r.both.box.links q short)) (conn_left q short);
      undue = subst (EachOf (IsUndue names r.answers)) (sym undue_are) a.undue;
    }
