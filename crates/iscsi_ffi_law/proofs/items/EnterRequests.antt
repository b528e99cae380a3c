-- A command enters: what is kept of requests stands behind its item as before, where its request has one use that isn't any yet.
use Rattle.std.proofs.Common.{◌≡◌, ℕ, ◌+◌, ◌≤◌, ◌==◌, ◌&&◌, ◌||◌, not, cond, ⊎_elim, Bool, true, false, List, [], ◌∷◌, ◌++◌, count_by, filter, filter_map, find, Option, Some, None, is_some, refl, ap, sym, subst, ◌∙◌, arith, ne_eqb}
use Rattle.std.specs.List.{list_any}
use Rattle.std.proofs.lemmas.Bool.{and_from, eq-eqb, eqb-true, false≢true, not-true, or_cases, or_left, or_right}
use Rattle.std.proofs.lemmas.List.Elements.{filter-append}
use Rattle.std.proofs.lemmas.List.Folds.{list_any-append}
use Rattle.std.proofs.lemmas.List.Sums.{sum_by-append}
use Rattle.iscsi_rules.specs.rules.Trace.{Command as RulesCommand, Mark, Trace, are_apart, enters, entered, has, is_among, is_free_at, leaves_ticket, was_free}
use Rattle.iscsi_rules.proofs.general.CountLemmas.{one, count-cons}
use Rattle.iscsi_rules.proofs.general.BoolLemmas.{and_parts, or_none}
use Rattle.iscsi_rules.proofs.general.ElementLemmas.{in-filter}
use Rattle.iscsi_outbox_rules.specs.promises.Scope.{nth}
use Rattle.iscsi_outbox_rules.specs.rules.Boxes.{Answer, Handed, Link, Outgoing}
use Rattle.iscsi_outbox_rules.specs.rules.Run.{new_link}
use Rattle.iscsi_outbox_law.specs.private.Commands.{link_in}
use Rattle.iscsi_outbox_law.specs.private.Pairs.{EachOf, PairsOf}
use Rattle.iscsi_outbox_law.proofs.general.PairLemmas.{each-append, each-at, each-weaken, pairs-append, pairs-weaken}
use Rattle.iscsi_outbox_steps.specs.Steps.{is_running_ticket}
use Rattle.iscsi_requests.specs.Conns.{of_conn}
use Rattle.iscsi_requests.specs.Functions.{WaitingFunctions}
use Rattle.iscsi_requests.specs.declared.functions.WaitingFunction.{WaitingFunction}
use Rattle.iscsi_requests.specs.Numbers.{HeldNumbers}
use Rattle.iscsi_requests.specs.declared.replies.WaitingReply.{WaitingReply}
use Rattle.iscsi_ffi_commands.specs.declared.command.Command.{Command}
use Rattle.iscsi_ffi_commands.specs.declared.command.Stage.TheVariants.{Entered}
use Rattle.iscsi_ffi_commands.specs.Commands.{Commands, has_ticket}
use Rattle.iscsi_ffi_commands.specs.Commands as commands
use Rattle.iscsi_ffi_rules.specs.rules.Needs.{is_about, is_of_event, is_ticket_of, left_to_write}
use Rattle.iscsi_ffi_rules.specs.rules.Sides.{Side}
use Rattle.iscsi_ffi_steps.specs.State.{State}
use Rattle.iscsi_ffi_law.specs.Arrived.{IsFreshCommand}
use Rattle.iscsi_ffi_law.specs.Names.{Name, Note, place_named}
use Rattle.iscsi_ffi_law.specs.Parts.{IsAbout, IsCommand, IsConn, IsCovered, IsKnownOut, IsLiveNamed, IsNote, IsOfCommand, IsOneUse, IsQueued, IsReplyOf, IsRequest, covers, is_live_ticket, is_named}
use Rattle.iscsi_ffi_law.specs.Stands.{AreRequests}
use Rattle.iscsi_ffi_law.specs.Uses.{count_functions, count_held, count_lists, is_place, is_used}
use Rattle.iscsi_ffi_law.proofs.arrivals.Asked.{find_still}
use Rattle.iscsi_ffi_law.proofs.completions.DoneRequests.{each_left, pairs_each}
use Rattle.iscsi_ffi_law.proofs.requests.Kept.{count_nothing}
use Rattle.iscsi_ffi_law.proofs.general.Members.{Paired, Passing, any_in, in_any, pairs_in}

-- ---- what waits, where more are live

covers_still : (live live' : ℕ → Bool) → ((k : ℕ) → live k ≡ true → live' k ≡ true) → (later : List Outgoing) (ticket : ℕ) → covers live later ticket ≡ true → covers live' later ticket ≡ true
covers_still live live' still later ticket h =
    ⊎_elim (λ lives. or_left (live' ticket) behind (still ticket lives)) (λ k. or_right (live' ticket) behind k) (or_cases (live ticket) behind h)
  where
    behind : Bool
    behind = list_any (λ (out : Outgoing). is_some out.sent && elim (out.ticket) [ Some k ↦ k == ticket | None ↦ false ]) later

covered_still : (live live' : ℕ → Bool) → ((k : ℕ) → live k ≡ true → live' k ≡ true) → (queue : List Outgoing) → IsCovered live queue → IsCovered live' queue
covered_still live live' still [] h = tt
covered_still live live' still (o ∷ queue) h = (by_ticket o.ticket h.0, covered_still live live' still queue h.1)
  where
    by_ticket : (x : Option ℕ) → elim x [ Some ticket ↦ is_some o.sent || covers live queue ticket | None ↦ true ] ≡ true → elim x [ Some ticket ↦ is_some o.sent || covers live' queue ticket | None ↦ true ] ≡ true
    by_ticket None k = k
    by_ticket (Some ticket) k = ⊎_elim (λ some. or_left (is_some o.sent) (covers live' queue ticket) some) (λ rest. or_right (is_some o.sent) (covers live' queue ticket) (covers_still live live' still queue ticket rest)) (or_cases (is_some o.sent) (covers live queue ticket) k)

module _ (names : List Name) (notes : List Note) (pending : ℕ → ℕ) (gone : ℕ → List (Option ℕ)) (s : State) (r : Side) (a : AreRequests names notes pending gone s r) (item : List Mark) (c : RulesCommand) (one_enters : filter_map enters item ≡ c ∷ [])
    (leaves_no : (k : ℕ) → list_any (leaves_ticket k) item ≡ false) (fresh : IsFreshCommand r c) (place : ℕ) (named_it : place_named names c.arrival.event ≡ Some place) (idle : is_running_ticket c.ticket s.outbox ≡ false)
    (handed_apart : EachOf (λ (l : Link). EachOf (λ (h : Handed). elim (h.out.ticket) as (λ (y : Option ℕ). Type 0) [ Some k ↦ (c.ticket == k) ≡ false | None ↦ Unit {0} ]) l.handed) r.both.box.links) (event : ℕ) where
  abbrev pub new_command : Command
  new_command = record { ticket = c.ticket; request = place; unit = c.unit; attr = c.attr; stage = Entered }

  abbrev t' : Trace
  t' = item ∷ r.both.trace

  abbrev pub side_entered : Side
  side_entered = record r { both = record r.both { event = event; trace = item ∷ r.both.trace } }

  pub entered_more : entered t' ≡ entered r.both.trace ++ c ∷ []
  entered_more = ap (λ xs. entered r.both.trace ++ xs) one_enters

  left_same : (k : ℕ) → has (leaves_ticket k) t' ≡ has (leaves_ticket k) r.both.trace
  left_same k = ap (λ v. v || has (leaves_ticket k) r.both.trace) (leaves_no k)

  live_still : (k : ℕ) → is_live_ticket r.both.trace k ≡ true → is_live_ticket t' k ≡ true
  live_still k lives =
      let x : Passing (λ (d : RulesCommand). d.ticket == k && not (has (leaves_ticket d.ticket) r.both.trace)) (entered r.both.trace) = any_in (λ (d : RulesCommand). d.ticket == k && not (has (leaves_ticket d.ticket) r.both.trace)) (entered r.both.trace) lives in
      ap (list_any (λ (d : RulesCommand). d.ticket == k && not (has (leaves_ticket d.ticket) t'))) entered_more
      ∙ list_any-append (λ (d : RulesCommand). d.ticket == k && not (has (leaves_ticket d.ticket) t')) (entered r.both.trace) (c ∷ [])
      ∙ or_left (list_any (λ (d : RulesCommand). d.ticket == k && not (has (leaves_ticket d.ticket) t')) (entered r.both.trace)) (list_any (λ (d : RulesCommand). d.ticket == k && not (has (leaves_ticket d.ticket) t')) (c ∷ []))
      (in_any (λ (d : RulesCommand). d.ticket == k && not (has (leaves_ticket d.ticket) t')) (entered r.both.trace) x.x x.there (ap (λ v. x.x.ticket == k && not v) (left_same x.x.ticket) ∙ x.passes))

  -- ---- what waits

  of_command_on : (ticket : Option ℕ) → IsOfCommand names r.both.trace ticket → IsOfCommand names t' ticket
  of_command_on None k = tt
  of_command_on (Some ticket) k = (k.0, ap (find (λ (e : RulesCommand). e.ticket == ticket)) entered_more ∙ find_still (λ (e : RulesCommand). e.ticket == ticket) (entered r.both.trace) c k.0 k.1, k.2)

  reply_of_on : (sent ticket : Option ℕ) → IsReplyOf r.both.trace r.answers sent ticket → IsReplyOf t' r.answers sent ticket
  reply_of_on None ticket k = tt
  reply_of_on (Some at) None k = tt
  reply_of_on (Some at) (Some ticket) k = (k.0, ap (find (λ (e : RulesCommand). e.ticket == ticket)) entered_more ∙ find_still (λ (e : RulesCommand). e.ticket == ticket) (entered r.both.trace) c k.0 k.1, k.2)

  queued_on : (undue : List Answer) (rs : List WaitingReply) (n : ℕ) (l : Link) → IsQueued names r.both.trace r.answers undue rs n l → IsQueued names t' r.answers undue rs n l
  queued_on undue rs n l q = record {
    sent = q.sent;
    noting = q.noting;
    known = each-weaken (IsKnownOut names r.both.trace r.answers) (IsKnownOut names t' r.answers) l.queue (λ out k. record { of_reply = k.of_reply; of_command = of_command_on out.ticket k.of_command; same = reply_of_on out.sent out.ticket k.same; own = k.own }) q.known;
    covered = covered_still (is_live_ticket r.both.trace) (is_live_ticket t') live_still l.queue q.covered;
  }

  -- what was handed out is of others
  about_on : (e : ℕ) (out : Outgoing) → elim (out.ticket) as (λ (y : Option ℕ). Type 0) [ Some k ↦ (c.ticket == k) ≡ false | None ↦ Unit {0} ] → is_about e side_entered out ≡ is_about e r out
  about_on e out other = ap (λ v. elim (out.sent) as (λ (y : Option ℕ). Bool) [ Some at ↦ elim (nth at r.answers) [ Some x ↦ x == e | None ↦ false ] | None ↦ false ] || v) (by_ticket out.ticket other)
    where
      by_ticket : (x : Option ℕ) → elim x as (λ (y : Option ℕ). Type 0) [ Some k ↦ (c.ticket == k) ≡ false | None ↦ Unit {0} ] → ◌≡◌ {A = Bool} (elim x [ Some k ↦ is_ticket_of e t' k | None ↦ false ]) (elim x [ Some k ↦ is_ticket_of e r.both.trace k | None ↦ false ])
      by_ticket None k = refl
      by_ticket (Some k) apart =
          ap (list_any (λ (d : RulesCommand). is_of_event e d.arrival && d.ticket == k)) entered_more
          ∙ list_any-append (λ (d : RulesCommand). is_of_event e d.arrival && d.ticket == k) (entered r.both.trace) (c ∷ [])
          ∙ ap (λ v. is_ticket_of e r.both.trace k || ((is_of_event e c.arrival && v) || false)) apart ∙ by_last (is_ticket_of e r.both.trace k) (is_of_event e c.arrival)
        where
          by_last : (v w : Bool) → (v || ((w && false) || false)) ≡ v
          by_last true w = refl
          by_last false true = refl
          by_last false false = refl

  -- ---- commands

  is_it : IsCommand names side_entered new_command c
  is_it = record {
    ticket = refl;
    unit = refl;
    attr = refl;
    request = named_it;
    live = sym (ap not (left_same c.ticket ∙ fresh.unleft));
    going = sym fresh.untold;
    marked = sym fresh.unmarked;
    freed = λ told. absurd (false≢true (sym fresh.untold ∙ told));
  }

  named_new : is_named names c ≡ true
  named_new = ap is_some named_it

  unnumbered : count_by (has_ticket c.ticket) s.commands.items ≡ 0
  unnumbered = count_nothing (has_ticket c.ticket) s.commands.items
      (λ x there.
      let d : Paired (IsCommand names r) x (filter (is_named names) (entered r.both.trace)) = pairs_in (IsCommand names r) s.commands.items (filter (is_named names) (entered r.both.trace)) x there a.commands in
      ne_eqb x.ticket c.ticket (λ same. false≢true (sym fresh.unentered ∙ in_any (λ (e : RulesCommand). e.ticket == c.ticket) (entered r.both.trace) d.y (in-filter (is_named names) (entered r.both.trace) d.y d.there).0 (eq-eqb d.y.ticket c.ticket (sym d.pair.ticket ∙ same)))))

  commands_now : Commands
  commands_now = commands.entered new_command s.commands

  pub requests_entered : (held : HeldNumbers) (functions : WaitingFunctions) (pending' : ℕ → ℕ) → ((p : ℕ) → count_by (is_place p) held.places + count_lists (λ (f : WaitingFunction). f.request == p) functions.waiting + (pending' p + one (place == p)) ≡ count_held p s + count_functions p s + pending p)
      → EachOf (IsRequest (record s { held = held; functions = functions }) t') names → EachOf (IsNote (record s { held = held; functions = functions }) r.both.box.links) notes
      → AreRequests names notes pending' gone (record s { held = held; functions = functions; commands = commands.entered new_command s.commands }) side_entered
  requests_entered held functions pending' uses named noted = record {
    asked = a.asked;
    noted = a.noted;
    apart = a.apart;
    kept = a.kept;
    counted = a.counted;
    uses = λ p.
        let more : count_by (λ (x : Command). x.request == p && is_used s.outbox x) (s.commands.items ++ new_command ∷ []) ≡ count_by (λ (x : Command). x.request == p && is_used s.outbox x) s.commands.items + one (place == p && true)
        = omega (arith, sum_by-append (λ (x : Command). cond (x.request == p && is_used s.outbox x) 1 0) s.commands.items (new_command ∷ []), count-cons (λ (x : Command). x.request == p && is_used s.outbox x) new_command []) in
        let same : one (place == p && true) ≡ one (place == p) = ap one (whole (place == p)) in
        omega (arith, a.uses p, uses p, more, same);
    named = each-weaken (IsRequest (record s { held = held; functions = functions }) t') (IsRequest (record s { held = held; functions = functions; commands = commands.entered new_command s.commands }) t') names (λ n k. record { held = k.held; waiting = k.waiting }) named;
    noted_apart = each-weaken (IsNote (record s { held = held; functions = functions }) r.both.box.links) (IsNote (record s { held = held; functions = functions; commands = commands.entered new_command s.commands }) r.both.box.links) notes (λ n k. record { held = k.held; waiting = k.waiting; home = k.home }) noted;
    tickets = ap are_apart entered_more ∙ apart_last (entered r.both.trace) c a.tickets fresh.unentered;
    commands = subst (λ (ds : List RulesCommand). PairsOf (IsCommand names side_entered) (s.commands.items ++ new_command ∷ []) (filter (is_named names) ds)) (sym entered_more)
        (subst (PairsOf (IsCommand names side_entered) (s.commands.items ++ new_command ∷ [])) (sym (filter-append (is_named names) (entered r.both.trace) (c ∷ []) ∙ ap (λ v. filter (is_named names) (entered r.both.trace) ++ cond v (c ∷ []) []) named_new))
        (pairs-append (IsCommand names side_entered) s.commands.items (new_command ∷ []) (filter (is_named names) (entered r.both.trace)) (c ∷ [])
        (pairs-weaken (IsCommand names r) (IsCommand names side_entered) s.commands.items (filter (is_named names) (entered r.both.trace))
        (λ x d k. record {
          ticket = k.ticket;
          unit = k.unit;
          attr = k.attr;
          request = k.request;
          live = k.live ∙ ap not (sym (left_same d.ticket));
          going = k.going;
          marked = k.marked;
          freed = λ told. or_right (is_free_at d t') (was_free d r.both.trace) (k.freed told);
        }) a.commands)
        (is_it, tt)));
    live_named = subst (EachOf (IsLiveNamed names t')) (sym entered_more)
        (each-append (IsLiveNamed names t') (entered r.both.trace) (c ∷ [])
        (each-weaken (IsLiveNamed names r.both.trace) (IsLiveNamed names t') (entered r.both.trace) (λ d k lives. k (sym (left_same d.ticket) ∙ lives)) a.live_named)
        ((λ lives. named_new), tt));
    one_use = each-append (IsOneUse s.outbox) s.commands.items (new_command ∷ []) a.one_use (idle, tt);
    numbered = λ k.
        let more = sum_by-append (λ (x : Command). cond (has_ticket k x) 1 0) s.commands.items (new_command ∷ []) in
        by_ticket k (c.ticket == k) refl more;
    answers = a.answers;
    once = a.once;
    last = a.last;
    conns = λ q within.
        let k : IsConn names notes (gone q) s r q (link_in r.both.box.links q) = a.conns q within in
        record {
          replies = k.replies;
          queued = queued_on r.both.box.undue (of_conn q s.replies.waiting) _ (link_in r.both.box.links q) k.queued;
          written = pairs_each (IsAbout names notes r (link_in r.both.box.links q).conn) (IsAbout names notes side_entered (link_in r.both.box.links q).conn)
              (λ (h : Handed). elim (h.out.ticket) as (λ (y : Option ℕ). Type 0) [ Some n ↦ (c.ticket == n) ≡ false | None ↦ Unit {0} ]) (of_conn q s.unwritten.handed) (left_to_write (link_in r.both.box.links q))
              (λ x y apart e. record { named = each-weaken (λ (n : Name). is_about n.event r y.out ≡ is_place n.place x) (λ (n : Name). is_about n.event side_entered y.out ≡ is_place n.place x) names (λ n is. about_on n.event y.out apart ∙ is) e.named; noted = e.noted })
              (each_left (λ (h : Handed). elim (h.out.ticket) as (λ (y : Option ℕ). Type 0) [ Some n ↦ (c.ticket == n) ≡ false | None ↦ Unit {0} ]) (link_in r.both.box.links q)
              (each-at (λ (l : Link). EachOf (λ (h : Handed). elim (h.out.ticket) as (λ (y : Option ℕ). Type 0) [ Some n ↦ (c.ticket == n) ≡ false | None ↦ Unit {0} ]) l.handed) r.both.box.links q (new_link 0) within handed_apart))
              k.written;
          noted = k.noted;
        };
    undue = a.undue;
  }
    where
      whole : (v : Bool) → (v && true) ≡ v
      whole true = refl
      whole false = refl

      by_ticket : (k : ℕ) (v : Bool) → (c.ticket == k) ≡ v → count_by (has_ticket k) (s.commands.items ++ new_command ∷ []) ≡ count_by (has_ticket k) s.commands.items + count_by (has_ticket k) (new_command ∷ []) → count_by (has_ticket k) (s.commands.items ++ new_command ∷ []) ≤ 1
      by_ticket k true is more =
          let none : count_by (has_ticket k) s.commands.items ≡ 0 = ap (λ n. count_by (has_ticket n) s.commands.items) (sym (eqb-true c.ticket k is)) ∙ unnumbered in
          let here : one (c.ticket == k) ≡ 1 = ap one is in
          omega (arith, none, here, more, count-cons (has_ticket k) new_command [])
      by_ticket k false is more =
          let here : one (c.ticket == k) ≡ 0 = ap one is in
          omega (arith, a.numbered k, here, more, count-cons (has_ticket k) new_command [])

      apart_last : (cs : List RulesCommand) (d : RulesCommand) → are_apart cs ≡ true → is_among d.ticket cs ≡ false → are_apart (cs ++ d ∷ []) ≡ true
      apart_last [] d apart none = refl
      apart_last (x ∷ cs) d apart none =
          let parts = and_parts (not (is_among x.ticket cs)) (are_apart cs) apart in
          let others = or_none (x.ticket == d.ticket) (is_among d.ticket cs) none in
          and_from (not (is_among x.ticket (cs ++ d ∷ []))) (are_apart (cs ++ d ∷ []))
          (ap not (list_any-append (λ (e : RulesCommand). e.ticket == x.ticket) cs (d ∷ []) ∙ ap (λ v. v || ((d.ticket == x.ticket) || false)) (not-true (is_among x.ticket cs) parts.0) ∙ ap (λ v. v || false) (ne_eqb d.ticket x.ticket (λ same. false≢true (sym others.0 ∙ eq-eqb x.ticket d.ticket (sym same))))))
          (apart_last cs d parts.1 others.1)
