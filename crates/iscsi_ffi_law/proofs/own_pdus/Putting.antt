-- A PDU of the target's own is taken.
use Rattle.std.proofs.Common.{◌≡◌, ℕ, ◌+◌, ◌*◌, ◌<◌, ◌≤◌, ◌==◌, ◌&&◌, ◌||◌, inl, inr, ⊎_elim, not, cond, Bool, true, false, List, [], ◌∷◌, ◌++◌, length, count_by, filter, Option, Some, None, is_some, refl, ap, sym, subst, ◌∙◌, arith, ne_eqb, lt-ltb, length-append, length-set}
use Rattle.std.specs.List.{list_any, position}
use Rattle.std.proofs.lemmas.Bool.{false≢true, eqb-true, eq-eqb, leb-false, not-true, cases_eq}
use Rattle.std.proofs.lemmas.List.{append-nil, get_or-set_same, get_or-set_other}
use Rattle.std.proofs.lemmas.List.Sums.{sum_by-append}
use Rattle.iscsi_rules.specs.rules.Trace.{Command as RulesCommand, entered as entered_commands, first_of, has, leaves_ticket}
use Rattle.iscsi_rules.proofs.general.BoolLemmas.{and_parts}
use Rattle.iscsi_rules.proofs.general.CountLemmas.{one, count-cons, count-weaker}
use Rattle.iscsi_rules.proofs.general.ElementLemmas.{In, first-in, in-filter}
use Rattle.iscsi_outbox_rules.specs.declared.own_pdu.OwnPdu.{OwnPdu}
use Rattle.iscsi_outbox_rules.specs.declared.own_pdu.OwnPdu.TheVariants.{OfCommand, OfConnection}
use Rattle.iscsi_outbox_rules.specs.declared.own_pdu.PutRefusal.{PutRefusal}
use Rattle.iscsi_outbox_rules.specs.declared.own_pdu.PutRefusal.TheVariants.{Unfit, Gone as GoneRefusal, Closed, Full}
use Rattle.iscsi_outbox_rules.specs.rules.Calls as outbox
use Rattle.iscsi_outbox_rules.specs.rules.Boxes.{Box, Link, Outgoing, Task, Owns, Notices, Pdu, Pings, Replies}
use Rattle.iscsi_outbox_rules.specs.rules.Own.{is_fit, is_full, is_own, live_task, own_conn, own_outgoing, own_ticket, put_refusal, refusal_on}
use Rattle.iscsi_outbox_rules.specs.rules.Queues.{append, enter, takes_more}
use Rattle.iscsi_outbox_rules.specs.rules.Run.{after_call, new_link}
use Rattle.iscsi_outbox_rules.specs.rules.Words.{is_live_phase, is_open, is_usable, is_running}
use Rattle.iscsi_outbox_law.specs.private.Commands.{is_under_way, link_in}
use Rattle.iscsi_outbox_law.specs.private.Pairs.{EachOf, PairsOf}
use Rattle.iscsi_outbox_law.specs.private.Sound.{IsLinkSound}
use Rattle.iscsi_outbox_law.specs.private.Stands.{Stands as OutboxStands}
use Rattle.iscsi_outbox_law.proofs.general.PairLemmas.{each-append, each-at, each-weaken, pairs-weaken}
use Rattle.iscsi_outbox_law.proofs.general.PlaceLemmas.{IsPlace, none_here, one_place}
use Rattle.iscsi_outbox_law.proofs.queues.PutStands.{puts_answered, puts_stands}
use Rattle.iscsi_outbox_law.proofs.connections.Standing.{links_apart, stands_nowhere, stands_there}
use Rattle.iscsi_outbox_law.proofs.commands.TurningCount.{call_last}
use Rattle.iscsi_outbox_steps.specs.State.{Limits, place_of}
use Rattle.iscsi_outbox_steps.specs.Steps.{is_running_ticket, put as taken_in}
use Rattle.iscsi_outbox_steps.specs.Steps as steps_box
use Rattle.iscsi_requests.specs.Conns.{count_all, of_conn}
use Rattle.iscsi_requests.specs.Cookies.{entered, next_place, uses_at}
use Rattle.iscsi_requests.specs.Unwritten.{Unwritten, pushed}
use Rattle.iscsi_ffi_commands.specs.Commands.{is_live}
use Rattle.iscsi_ffi_rules.specs.rules.Calls.{Interface, Puts}
use Rattle.iscsi_ffi_rules.specs.rules.Happening.{other, quiet}
use Rattle.iscsi_ffi_rules.specs.rules.Needs.{is_noted, left_to_write}
use Rattle.iscsi_ffi_rules.specs.rules.Run as rules
use Rattle.iscsi_ffi_rules.specs.rules.Run.{cids, noted_with}
use Rattle.iscsi_ffi_rules.specs.rules.Sides.{Side}
use Rattle.iscsi_ffi_steps.specs.State.{State}
use Rattle.iscsi_ffi_steps.specs.Steps.{Answered, Put, Side as StepsSide, going, note, put, pushed_with_room, note_as}
use Rattle.iscsi_ffi_law.specs.Alike.{GoesAlike}
use Rattle.iscsi_ffi_law.specs.Fit.{IsFit, IsOrderly}
use Rattle.iscsi_ffi_law.specs.Names.{Name, Note, noted_of}
use Rattle.iscsi_ffi_law.specs.Parts.{AreNotesOn, IsAbout, IsConn, IsKnownOut, IsLiveNamed, IsNote, IsOfTicket, IsQueued, covers, is_live_ticket, is_named, noted_in, IsOfCommand, AreApart, IsRequest, IsCommand, IsOneUse}
use Rattle.iscsi_ffi_law.specs.Stands.{AreRequests, Stands}
use Rattle.iscsi_ffi_law.specs.Uses.{is_place, uses_of}
use Rattle.iscsi_ffi_law.proofs.commands.Commands.{one_command}
use Rattle.iscsi_ffi_law.proofs.requests.Cookies.{counted_entered, fresh, none_used, uses_entered, words_entered}
use Rattle.iscsi_ffi_law.proofs.calls.Ends.{EndsAlike, GoesTo, IsLeft, ends_alike, found_fit, left_fit, moved_ends}
use Rattle.iscsi_ffi_law.proofs.calls.Finish.{as_many_links}
use Rattle.iscsi_ffi_law.proofs.general.Lists.{lists_at, lists_set}
use Rattle.iscsi_ffi_law.proofs.general.Members.{Passing, PassingAt, any_at, any_in, at_any, each_in, find_in, in_any, in_counted, in_find}
use Rattle.iscsi_ffi_law.proofs.calls.Moved.{IsMoved, run_same, with_box, with_outbox, uses_run, same_homes}
use Rattle.iscsi_ffi_law.proofs.general.Words.{words_kept}
use Rattle.iscsi_ffi_law.proofs.sending.Next.{all_fewer}
use Rattle.iscsi_ffi_law.proofs.own_pdus.NotePlaces.{noted_entered, notes_same, places_entered}
use Rattle.iscsi_ffi_law.proofs.requests.Kept.{each_place}
use Rattle.iscsi_ffi_law.proofs.own_pdus.PutQueues.{conn_entered, left_entered, link_entered, many, moved_push, queued_push}

module _ (i : Interface) (s : StepsSide) (r : Side) (h : Stands i s r) (p : OwnPdu) (cookie : ℕ) (fit : IsFit i r.both.box (after_call i.outbox r.both.box (outbox.Puts p))) (orderly : IsOrderly r) where
  refused_same : steps_box.put_refusal p s.state.outbox ≡ put_refusal i.outbox r.both.box p
  refused_same = puts_answered i.outbox s.state.outbox r.both.box h.outbox fit.sound fit.distinct p

  stands : OutboxStands i.outbox (taken_in p s.state.outbox) (after_call i.outbox r.both.box (outbox.Puts p))
  stands = puts_stands i.outbox s.state.outbox r.both.box h.outbox fit.sound fit.distinct p fit.fits fit.time

  idle : EndsAlike i (going s) r []
  idle = moved_ends i s r h s.state.outbox r.both.box (found_fit i r.both.box (after_call i.outbox r.both.box (outbox.Puts p)) fit) h.outbox h.counts.tracked (λ k. refl) (record {
    long = refl;
    sent = refl;
    queued = λ q within. (h.requests.conns q within).queued;
    undue = h.requests.undue;
    conn = λ q within. refl;
    left = λ q within. refl;
  })

  -- what the rules do, by the refusal
  abbrev box_by : Option PutRefusal → Option ℕ → Box
  box_by x y = elim x [ Some why ↦ r.both.box | None ↦ elim y [ Some conn ↦ enter conn (own_outgoing p) r.both.box | None ↦ r.both.box ] ]

  -- ---- one of a command

  module _ (k : ℕ) (header : List ℕ) (is : p ≡ OfCommand k header) (t : Task) (found : live_task r.both.box k ≡ Some t) (box_is : after_call i.outbox r.both.box (outbox.Puts p) ≡ enter t.conn (own_outgoing p) r.both.box) where
    lives : is_live_ticket r.both.trace k ≡ true
    lives =
        let there = in-filter (λ (u : Task). u.ticket == k && is_live_phase u.phase) r.both.box.tasks t (first-in (filter (λ (u : Task). u.ticket == k && is_live_phase u.phase) r.both.box.tasks) t found) in
        orderly.live k (in_any (λ (u : Task). u.ticket == k && is_live_phase u.phase) r.both.box.tasks t there.0 there.1)

    of_it : IsOfTicket h.names r.both.trace k
    of_it =
        let d : Passing (λ (e : RulesCommand). e.ticket == k && not (has (leaves_ticket e.ticket) r.both.trace)) (entered_commands r.both.trace) = any_in (λ (e : RulesCommand). e.ticket == k && not (has (leaves_ticket e.ticket) r.both.trace)) (entered_commands r.both.trace) lives in
        let parts = and_parts (d.x.ticket == k) (not (has (leaves_ticket d.x.ticket) r.both.trace)) d.passes in
        let y = in_find (λ (e : RulesCommand). e.ticket == k) (entered_commands r.both.trace) d.x d.there parts.0 in
        let f = find_in (λ (e : RulesCommand). e.ticket == k) (entered_commands r.both.trace) y.0 y.1 in
        let same : d.x ≡ y.0 = one_command (entered_commands r.both.trace) d.x y.0 h.requests.tickets d.there f.0 (eqb-true d.x.ticket k parts.0 ∙ sym (eqb-true y.0.ticket k f.1)) in
        (y.0, y.1, ap (is_named h.names) (sym same) ∙ each_in (IsLiveNamed h.names r.both.trace) (entered_commands r.both.trace) d.x d.there h.requests.live_named (not-true (has (leaves_ticket d.x.ticket) r.both.trace) parts.1))

    command_ends : EndsAlike i (record { event = s.event; trace = s.trace; doing = record { state = with_outbox s.state (taken_in p s.state.outbox); actions = []; forgets = [] } }) (with_box r (after_call i.outbox r.both.box (outbox.Puts p))) []
    command_ends =
        let kind : own_ticket p ≡ Some k = ap own_ticket is in
        let ran = run_same i s.state r (taken_in p s.state.outbox) (after_call i.outbox r.both.box (outbox.Puts p)) h.outbox fit.sound stands fit.sound_after fit.distinct (λ ticket. ap (λ (b : Box). is_running b ticket) box_is) in
        moved_ends i s r h (taken_in p s.state.outbox) (after_call i.outbox r.both.box (outbox.Puts p)) (left_fit i r.both.box (after_call i.outbox r.both.box (outbox.Puts p)) fit) stands (call_last i.outbox s.state.outbox r.both.box (outbox.Puts p) h.counts.tracked tt) ran
        (subst (IsMoved h.names s.state r) (sym box_is) (moved_push i s r h t.conn (own_outgoing p) refl (record {
          of_reply = tt;
          of_command = subst (IsOfCommand h.names r.both.trace) (sym kind) of_it;
          same = tt;
          own = (refl, refl);
        }) (ap (λ (x : Option ℕ). elim x [ Some ticket ↦ covers (is_live_ticket r.both.trace) [] ticket | None ↦ true ]) kind ∙ ap (λ v. v || false) lives) (ap (λ (x : OwnPdu). is_noted (Owns x)) is)))

  -- ---- one of a connection

  pairs_inside : {A B : Type 0} (R S : A → B → Type 0) (xs : List A) (ys : List B) → ((x : A) (y : B) → In x xs → R x y → S x y) → PairsOf R xs ys → PairsOf S xs ys
  pairs_inside R S [] [] f k = tt
  pairs_inside R S (x ∷ xs) (y ∷ ys) f k = (f x y (inl refl) k.0, pairs_inside R S xs ys (λ a b there. f a b (inr there)) k.1)
  pairs_inside R S [] (y ∷ ys) f k = absurd k
  pairs_inside R S (x ∷ xs) [] f k = absurd k

  -- a connection that takes it
  record Takes (cid : ℕ) : Type 0 where
    pub q : ℕ
    pub within : q < length r.both.box.links
    pub conn : (link_in r.both.box.links q).conn ≡ cid
    pub takes : takes_more (link_in r.both.box.links q) ≡ true
    pub room : count_by (λ (o : Outgoing). is_own o.pdu) (link_in r.both.box.links q).queue < i.outbox.own

  taking : (cid : ℕ) (fits : Bool) (x : Option Link) → first_of (filter (λ (l : Link). l.conn == cid && is_usable l) r.both.box.links) ≡ x
      → cond fits (Some Unfit) (elim x [ Some l ↦ cond (is_full i.outbox l) (Some Full) None | None ↦ Some Closed ]) ≡ None → Takes cid
  taking cid true x first none = absurd cc
  taking cid false None first none = absurd cc
  taking cid false (Some l) first none = by_full (is_full i.outbox l) refl none
    where
      by_full : (v : Bool) → is_full i.outbox l ≡ v → cond v (Some Full) None ≡ None → Takes cid
      by_full true is e = absurd cc
      by_full false is e =
          let there = in-filter (λ (m : Link). m.conn == cid && is_usable m) r.both.box.links l (first-in (filter (λ (m : Link). m.conn == cid && is_usable m) r.both.box.links) l first) in
          let at : PassingAt (λ (m : Link). (m.conn == cid && is_usable m) && not (is_full i.outbox m)) r.both.box.links (new_link 0)
          = any_at (λ (m : Link). (m.conn == cid && is_usable m) && not (is_full i.outbox m)) r.both.box.links (new_link 0)
          (in_any (λ (m : Link). (m.conn == cid && is_usable m) && not (is_full i.outbox m)) r.both.box.links l there.0 (ap (λ v. v && not (is_full i.outbox l)) there.1 ∙ ap (λ v. not v) is)) in
          let parts = and_parts ((link_in r.both.box.links at.place).conn == cid && is_usable (link_in r.both.box.links at.place)) (not (is_full i.outbox (link_in r.both.box.links at.place))) at.passes in
          let first' = and_parts ((link_in r.both.box.links at.place).conn == cid) (is_usable (link_in r.both.box.links at.place)) parts.0 in
          let usable = and_parts (is_open (link_in r.both.box.links at.place)) (not (link_in r.both.box.links at.place).closed) first'.1 in
          let unclosed : (link_in r.both.box.links at.place).closed ≡ false = not-true (link_in r.both.box.links at.place).closed usable.1 in
          record {
            q = at.place;
            within = at.within;
            conn = eqb-true (link_in r.both.box.links at.place).conn cid first'.0;
            takes = ap (λ v. v && not (link_in r.both.box.links at.place).cut) usable.0 ∙ ap (λ v. not v) (uncut (link_in r.both.box.links at.place).cut
                (each-at (λ (m : Link). m.cut ≡ true → m.closed ≡ true) r.both.box.links at.place (new_link 0) at.within orderly.cuts) unclosed);
            room = leb-false i.outbox.own (count_by (λ (o : Outgoing). is_own o.pdu) (link_in r.both.box.links at.place).queue) (not-true (is_full i.outbox (link_in r.both.box.links at.place)) parts.1);
          }
        where
          uncut : {closed : Bool} → (v : Bool) → (v ≡ true → closed ≡ true) → closed ≡ false → v ≡ false
          uncut false turns unclosed = refl
          uncut true turns unclosed = absurd (false≢true (sym unclosed ∙ turns refl))

  module _ (cid : ℕ) (header : List ℕ) (is : p ≡ OfConnection cid header) (k : Takes cid) (place : ℕ) (free : next_place s.state.cookies ≡ Some place) (box_is : after_call i.outbox r.both.box (outbox.Puts p) ≡ enter cid (own_outgoing p) r.both.box) where
    abbrev new : Note
    new = record { place = place; conn = cid; cookie = cookie; waits = true }

    abbrev notes' : List Note
    notes' = h.notes ++ record { place = place; conn = cid; cookie = cookie; waits = true } ∷ []

    abbrev b' : Box
    b' = enter cid (own_outgoing p) r.both.box

    abbrev out : Outgoing
    out = record (own_outgoing p) { time = r.both.box.time }

    abbrev s' : State
    s' = record s.state { outbox = taken_in p s.state.outbox; cookies = entered cookie place s.state.cookies; noted = pushed k.q (Some place) s.state.noted }

    abbrev r' : Side
    r' = record (with_box r (enter cid (own_outgoing p) r.both.box)) { noted = r.noted ++ noted_of (record { place = place; conn = cid; cookie = cookie; waits = true }) ∷ [] }

    own_is : own_ticket p ≡ None
    own_is = ap own_ticket is

    noted_is : is_noted (own_outgoing p).pdu ≡ true
    noted_is = ap (λ (x : OwnPdu). is_noted (Owns x)) is

    unused : uses_of place s.state ≡ 0
    unused = omega (arith, h.requests.uses place, none_used s.state.cookies h.requests.counted place cookie free)

    runs : (ticket : ℕ) → is_running_ticket ticket (taken_in p s.state.outbox) ≡ is_running_ticket ticket s.state.outbox
    runs = run_same i s.state r (taken_in p s.state.outbox) (after_call i.outbox r.both.box (outbox.Puts p)) h.outbox fit.sound stands fit.sound_after fit.distinct (λ ticket. ap (λ (b : Box). is_running b ticket) box_is)

    -- nothing has this place yet
    none_named : count_by (λ (n : Name). n.place == place) h.names + count_by (λ (n : Note). n.place == place) h.notes ≡ 0
    none_named =
        let all = words_kept h.names h.notes s.state.cookies h.requests.kept (λ a b. a == place) in
        omega (arith, all, fresh s.state.cookies h.requests.counted place cookie free)

    notes_counted : (test : Note → Bool) → count_by test notes' ≡ count_by test h.notes + one (test (record { place = place; conn = cid; cookie = cookie; waits = true }))
    notes_counted test = omega (arith, sum_by-append (λ (n : Note). cond (test n) 1 0) h.notes (record { place = place; conn = cid; cookie = cookie; waits = true } ∷ []), count-cons test (record { place = place; conn = cid; cookie = cookie; waits = true }) [])

    apart' : AreApart h.names notes'
    apart' = record {
      places = λ other. by_place other (place == other) refl;
      events = h.requests.apart.events;
    }
      where
        by_place : (other : ℕ) (v : Bool) → (place == other) ≡ v → count_by (λ (n : Name). n.place == other) h.names + count_by (λ (n : Note). n.place == other) notes' ≤ 1
        by_place other true same =
            let more : one (place == other) ≡ 1 = ap one same in
            let none : count_by (λ (n : Name). n.place == other) h.names + count_by (λ (n : Note). n.place == other) h.notes ≡ 0
            = subst (λ o. count_by (λ (n : Name). n.place == o) h.names + count_by (λ (n : Note). n.place == o) h.notes ≡ 0) (eqb-true place other same) none_named in
            omega (arith, more, none, notes_counted (λ (n : Note). n.place == other))
        by_place other false same = let none : one (place == other) ≡ 0 = ap one same in omega (arith, none, notes_counted (λ (n : Note). n.place == other), h.requests.apart.places other)

    many_noted : length s.state.noted.handed ≡ length r.both.box.links
    many_noted = h.sizes.noted ∙ sym (as_many_links i s.state r h.outbox)

    here_pushed : of_conn k.q (pushed k.q (Some place) s.state.noted).handed ≡ of_conn k.q s.state.noted.handed ++ Some place ∷ []
    here_pushed = get_or-set_same s.state.noted.handed k.q (of_conn k.q s.state.noted.handed ++ Some place ∷ []) [] (omega (arith, k.within, many_noted))

    others_pushed : (q : ℕ) → (q ≡ k.q → ⊥) → of_conn q (pushed k.q (Some place) s.state.noted).handed ≡ of_conn q s.state.noted.handed
    others_pushed q other = get_or-set_other s.state.noted.handed k.q q (of_conn k.q s.state.noted.handed ++ Some place ∷ []) [] other

    uses_now : (other : ℕ) → uses_at other (entered cookie place s.state.cookies) ≡ uses_of other s' + 0
    uses_now other =
        let moved = uses_run other s.state (taken_in p s.state.outbox) runs in
        let set_there = lists_set (is_place other) s.state.noted.handed k.q (of_conn k.q s.state.noted.handed ++ Some place ∷ []) (omega (arith, k.within, many_noted)) in
        let all = sum_by-append (λ (y : Option ℕ). cond (is_place other y) 1 0) (of_conn k.q s.state.noted.handed) (Some place ∷ []) in
        omega (arith, moved, set_there, all, count-cons (is_place other) (Some place) [], uses_entered s.state.cookies h.requests.counted place cookie free other, h.requests.uses other)

    -- what isn't written is about another one
    not_written : (q : ℕ) (x : Option ℕ) → In x (of_conn q s.state.unwritten.handed) → is_place place x ≡ false
    not_written q x there = by_test (is_place place x) refl
      where
        by_test : (v : Bool) → is_place place x ≡ v → v ≡ false
        by_test false same = refl
        by_test true same = absurd (let some = in_counted (is_place place) (of_conn q s.state.unwritten.handed) x there same in let all = lists_at (is_place place) s.state.unwritten.handed q in let none : ⊥ = omega (arith, some, all, unused) in none)

    written_now : (q : ℕ) → q < length r.both.box.links → PairsOf (IsAbout h.names notes' r' (link_in b'.links q).conn) (of_conn q s.state.unwritten.handed) (left_to_write (link_in b'.links q))
    written_now q short =
        subst (λ hs. PairsOf (IsAbout h.names notes' r' (link_in b'.links q).conn) (of_conn q s.state.unwritten.handed) hs) (sym (left_entered i s r h cid (own_outgoing p) q short))
        (subst (λ c. PairsOf (IsAbout h.names notes' r' c) (of_conn q s.state.unwritten.handed) (left_to_write (link_in r.both.box.links q))) (sym (conn_entered i s r h cid (own_outgoing p) q short))
        (pairs_inside (IsAbout h.names h.notes r (link_in r.both.box.links q).conn) (IsAbout h.names notes' r' (link_in r.both.box.links q).conn) (of_conn q s.state.unwritten.handed) (left_to_write (link_in r.both.box.links q))
        (λ x y there a. record {
          named = a.named;
          noted = each-append (λ (n : Note). is_place n.place x ≡ true → (is_noted y.out.pdu ≡ true) × (n.conn ≡ (link_in r.both.box.links q).conn)) h.notes (record { place = place; conn = cid; cookie = cookie; waits = true } ∷ []) a.noted
              ((λ same. absurd (false≢true (sym (not_written q x there) ∙ same))), tt);
        }) (h.requests.conns q short).written))

    known_now : IsKnownOut h.names r.both.trace r.answers (record (own_outgoing p) { time = r.both.box.time })
    known_now = record { of_reply = tt; of_command = subst (IsOfCommand h.names r.both.trace) (sym own_is) tt; same = tt; own = (refl, refl) }

    -- those of a connection
    notes_new : (q : ℕ) → q < length r.both.box.links
        → AreNotesOn notes' (link_in b'.links q).conn [] (of_conn q s.state.noted.handed ++ cond (cid == (link_in r.both.box.links q).conn) (Some place ∷ []) []) (noted_in (of_conn q s.state.unwritten.handed) (left_to_write (link_in b'.links q)))
    notes_new q short =
        let old : List (Option ℕ) = of_conn q s.state.noted.handed in
        let more : List (Option ℕ) = old ++ cond (cid == (link_in r.both.box.links q).conn) (Some place ∷ []) [] in
        let unwritten : List (Option ℕ) = noted_in (of_conn q s.state.unwritten.handed) (left_to_write (link_in r.both.box.links q)) in
        notes_same notes' [] (link_in r.both.box.links q).conn (link_in b'.links q).conn more more unwritten (noted_in (of_conn q s.state.unwritten.handed) (left_to_write (link_in b'.links q))) (conn_entered i s r h cid (own_outgoing p) q short) refl
        (ap (noted_in (of_conn q s.state.unwritten.handed)) (left_entered i s r h cid (own_outgoing p) q short)) (places_entered h.notes place cid cookie (link_in r.both.box.links q).conn old unwritten (h.requests.conns q short).noted)

    here : IsConn h.names notes' [] s' r' k.q (link_in b'.links k.q)
    here = record {
      replies = (h.requests.conns k.q k.within).replies;
      queued =
          subst (λ n. IsQueued h.names r.both.trace r.answers r.both.box.undue (of_conn k.q s.state.replies.waiting) n (link_in b'.links k.q)) (sym (ap length here_pushed ∙ length-append (of_conn k.q s.state.noted.handed) (Some place ∷ [])))
          (subst (IsQueued h.names r.both.trace r.answers r.both.box.undue (of_conn k.q s.state.replies.waiting) (length (of_conn k.q s.state.noted.handed) + 1))
          (sym (link_entered i s r h cid (own_outgoing p) k.q k.within ∙ ap (λ v. cond v (append (record (own_outgoing p) { time = r.both.box.time }) (link_in r.both.box.links k.q)) (link_in r.both.box.links k.q)) (eq-eqb (link_in r.both.box.links k.q).conn cid k.conn)
          ∙ ap (λ v. cond v (record (link_in r.both.box.links k.q) { queue = (link_in r.both.box.links k.q).queue ++ record (own_outgoing p) { time = r.both.box.time } ∷ [] }) (link_in r.both.box.links k.q)) k.takes))
          (subst (λ v. IsQueued h.names r.both.trace r.answers r.both.box.undue (of_conn k.q s.state.replies.waiting) (length (of_conn k.q s.state.noted.handed) + one v) (record (link_in r.both.box.links k.q) { queue = (link_in r.both.box.links k.q).queue ++ record (own_outgoing p) { time = r.both.box.time } ∷ [] })) noted_is
          (queued_push i s r h cid (own_outgoing p) (of_conn k.q s.state.replies.waiting) (length (of_conn k.q s.state.noted.handed)) (link_in r.both.box.links k.q) refl known_now
          (ap (λ (x : Option ℕ). elim x [ Some ticket ↦ covers (is_live_ticket r.both.trace) [] ticket | None ↦ true ]) own_is) (h.requests.conns k.q k.within).queued)));
      written = written_now k.q k.within;
      noted = subst (λ xs. AreNotesOn notes' (link_in b'.links k.q).conn [] xs (noted_in (of_conn k.q s.state.unwritten.handed) (left_to_write (link_in b'.links k.q))))
          (ap (λ v. of_conn k.q s.state.noted.handed ++ cond v (Some place ∷ []) []) (eq-eqb cid (link_in r.both.box.links k.q).conn (sym k.conn)) ∙ sym here_pushed) (notes_new k.q k.within);
    }

    elsewhere : (q : ℕ) → q < length r.both.box.links → (q ≡ k.q → ⊥) → IsConn h.names notes' [] s' r' q (link_in b'.links q)
    elsewhere q short other =
        let apart : ((link_in r.both.box.links q).conn == cid) ≡ false = ne_eqb (link_in r.both.box.links q).conn cid (λ same. other (one_place r.both.box.links q k.q (links_apart (is_under_way i.outbox r.both.box.links) i.outbox s.state.outbox r.both.box h.outbox fit.distinct) short k.within (same ∙ sym k.conn))) in
        let turned : (cid == (link_in r.both.box.links q).conn) ≡ false = ne_eqb cid (link_in r.both.box.links q).conn (λ same. false≢true (sym apart ∙ eq-eqb (link_in r.both.box.links q).conn cid (sym same))) in
        let c : IsConn h.names h.notes [] s.state r q (link_in r.both.box.links q) = h.requests.conns q short in
        let link_is : link_in b'.links q ≡ link_in r.both.box.links q = link_entered i s r h cid (own_outgoing p) q short ∙ ap (λ v. cond v (append (record (own_outgoing p) { time = r.both.box.time }) (link_in r.both.box.links q)) (link_in r.both.box.links q)) apart in
        record {
          replies = c.replies;
          queued = subst (λ ys. IsQueued h.names r.both.trace r.answers r.both.box.undue (of_conn q s.state.replies.waiting) (length ys) (link_in b'.links q)) (sym (others_pushed q other))
              (subst (IsQueued h.names r.both.trace r.answers r.both.box.undue (of_conn q s.state.replies.waiting) (length (of_conn q s.state.noted.handed))) (sym link_is) c.queued);
          written = written_now q short;
          noted = subst (λ xs. AreNotesOn notes' (link_in b'.links q).conn [] xs (noted_in (of_conn q s.state.unwritten.handed) (left_to_write (link_in b'.links q))))
              (ap (λ v. of_conn q s.state.noted.handed ++ cond v (Some place ∷ []) []) turned ∙ append-nil (of_conn q s.state.noted.handed) ∙ sym (others_pushed q other)) (notes_new q short);
        }

    requests_now : AreRequests h.names notes' (λ other. 0) (λ q. []) s' r'
    requests_now = record {
      asked = h.requests.asked;
      noted = noted_entered h.notes place cid cookie r.noted r.handed_notes h.requests.noted;
      apart = apart';
      kept = λ a b. omega (arith, words_entered s.state.cookies h.requests.counted place cookie free a b, h.requests.kept a b, notes_counted (λ (n : Note). n.place == a && n.cookie == b));
      counted = counted_entered s.state.cookies h.requests.counted place cookie free;
      uses = uses_now;
      named = each-weaken (IsRequest s.state r.both.trace) (IsRequest s' r.both.trace) h.names (λ n q. record { held = q.held; waiting = q.waiting }) h.requests.named;
      noted_apart = each-append (IsNote s' b'.links) h.notes (record { place = place; conn = cid; cookie = cookie; waits = true } ∷ [])
          (each-weaken (IsNote s.state r.both.box.links) (IsNote s' b'.links) h.notes (λ n q. record { held = q.held; waiting = q.waiting; home = homes n.conn q.home }) h.requests.noted_apart) (
            record {
              held = omega (arith, unused);
              waiting = omega (arith, unused);
              home = homes cid (at_any (λ (l : Link). l.conn == cid) r.both.box.links k.q (new_link 0) k.within (eq-eqb (link_in r.both.box.links k.q).conn cid k.conn));
            },
            tt,
          );
      tickets = h.requests.tickets;
      commands = pairs-weaken (IsCommand h.names r) (IsCommand h.names r') s.state.commands.items (filter (is_named h.names) (entered_commands r.both.trace))
          (λ c d e. record { ticket = e.ticket; unit = e.unit; attr = e.attr; request = e.request; live = e.live; going = e.going; marked = e.marked; freed = e.freed }) h.requests.commands;
      live_named = h.requests.live_named;
      one_use = each-weaken (IsOneUse s.state.outbox) (IsOneUse (taken_in p s.state.outbox)) s.state.commands.items (λ c e. ap (λ v. is_live c && v) (runs c.ticket) ∙ e) h.requests.one_use;
      numbered = h.requests.numbered;
      answers = h.requests.answers;
      once = h.requests.once;
      last = h.requests.last;
      conns = λ q within. ⊎_elim
          (λ (same : q ≡ k.q). subst (λ n. IsConn h.names notes' [] s' r' n (link_in b'.links n)) (sym same) here)
          (λ (other : q ≡ k.q → ⊥). elsewhere q (omega (arith, within, many i s r h cid (own_outgoing p))) other) (cases_eq q k.q);
      undue = h.requests.undue;
    }
      where
        homes : (c : ℕ) → list_any (λ (l : Link). l.conn == c) r.both.box.links ≡ true → list_any (λ (l : Link). l.conn == c) b'.links ≡ true
        homes c there = same_homes r.both.box.links b'.links c (many i s r h cid (own_outgoing p)) (λ q within. conn_entered i s r h cid (own_outgoing p) q (omega (arith, within, many i s r h cid (own_outgoing p)))) there

    noted_ends : EndsAlike i (record { event = s.event; trace = s.trace; doing = record { state = s'; actions = []; forgets = [] } }) r' []
    noted_ends =
        let fit' : IsLeft i b' = subst (IsLeft i) box_is (left_fit i r.both.box (after_call i.outbox r.both.box (outbox.Puts p)) fit) in
        ends_alike i h.names notes' (λ q. []) None s' r' (record {
          outbox = subst (OutboxStands i.outbox (taken_in p s.state.outbox)) box_is stands;
          sound = fit'.sound;
          few = fit'.few;
          distinct = fit'.distinct;
          sizes = record {
            room = h.sizes.room;
            functions = h.sizes.functions;
            replies = h.sizes.replies;
            noted = length-set s.state.noted.handed k.q (of_conn k.q s.state.noted.handed ++ Some place ∷ []) ∙ h.sizes.noted;
            unwritten = h.sizes.unwritten;
            noted_room = h.sizes.noted_room;
            unwritten_room = h.sizes.unwritten_room;
            replies_room = h.sizes.replies_room;
            slots = h.sizes.slots;
            few = h.sizes.few;
          };
          flags = record { awake = h.flags.awake; over = h.flags.over };
          requests = requests_now;
          counts = record { units = h.counts.units; last = h.counts.last; tracked = subst (λ (x : Box). (taken_in p s.state.outbox).tracked.last ≤ length x.tasks) box_is (call_last i.outbox s.state.outbox r.both.box (outbox.Puts p) h.counts.tracked tt) };
          withheld = h.withheld;
          calm = h.calm;
          slots = h.slots;
          functions = h.functions;
        }) fit'.some (record { event = s.event; trace = s.trace; doing = record { state = s'; actions = []; forgets = [] } }) refl h.event h.trace

    -- there is room for it
    room_free : pushed_with_room k.q (Some place) s.state.noted ≡ pushed k.q (Some place) s.state.noted
    room_free =
        let each : EachOf (λ (ys : List (Option ℕ)). length ys ≤ i.outbox.own) s.state.noted.handed
        = each_place (λ (ys : List (Option ℕ)). length ys ≤ i.outbox.own) s.state.noted.handed [] (λ q within. few q (omega (arith, within, many_noted))) in
        let fewer = all_fewer i.outbox.own s.state.noted.handed k.q each (omega (arith, k.within, many_noted)) (omega (arith, owned k.q k.within, k.room)) in
        let room : s.state.noted.room ≡ i.outbox.own * length s.state.noted.handed = h.sizes.noted_room ∙ ap (λ n. i.outbox.own * n) (sym h.sizes.noted) in
        ap (λ v. cond v (pushed k.q (Some place) s.state.noted) s.state.noted) (lt-ltb (count_all s.state.noted.handed) s.state.noted.room (omega (arith, fewer, room)))
      where
        owned : (q : ℕ) → q < length r.both.box.links → length (of_conn q s.state.noted.handed) ≤ count_by (λ (o : Outgoing). is_own o.pdu) (link_in r.both.box.links q).queue
        owned q short =
            let fewer = count-weaker (λ (o : Outgoing). is_noted o.pdu) (λ (o : Outgoing). is_own o.pdu) (link_in r.both.box.links q).queue (λ o noted. noted_own o.pdu noted) in
            omega (arith, fewer, (h.requests.conns q short).queued.noting)
          where
            noted_own : (x : Pdu) → is_noted x ≡ true → is_own x ≡ true
            noted_own (Replies reply) e = absurd (false≢true e)
            noted_own (Owns own) e = refl
            noted_own (Pings tag) e = absurd (false≢true e)
            noted_own Notices e = absurd (false≢true e)

        few : (q : ℕ) → q < length r.both.box.links → length (of_conn q s.state.noted.handed) ≤ i.outbox.own
        few q short =
            let sound : IsLinkSound i.outbox r.both.box.tasks (link_in r.both.box.links q) = each-at (IsLinkSound i.outbox r.both.box.tasks) r.both.box.links q (new_link 0) short fit.sound.links in
            omega (arith, owned q short, sound.own)

  -- ---- all of it

  -- the steps, by what they find
  abbrev doing_by : Option PutRefusal → State → Answered
  doing_by x t = record { going = elim x [ Some why ↦ going s | None ↦ record { event = s.event; trace = s.trace; doing = record { state = t; actions = []; forgets = [] } } ]; answer = Put x }

  -- the rules
  abbrev rules_by : Option PutRefusal → Box → rules.Answered
  rules_by x b = record { told = quiet (elim x [ Some why ↦ with_box r b | None ↦ record (with_box r b) { noted = r.noted ++ noted_with p cookie } ]); answer = rules.Put x }

  box_of : (x : Option PutRefusal) → put_refusal i.outbox r.both.box p ≡ x → after_call i.outbox r.both.box (outbox.Puts p) ≡ box_by x (own_conn r.both.box p)
  box_of x is = ap (λ (y : Option PutRefusal). box_by y (own_conn r.both.box p)) is

  place_same : (cid : ℕ) → place_of (taken_in p s.state.outbox) cid ≡ place_of s.state.outbox cid
  place_same cid = ap (λ (l : Limits). position (λ (c : ℕ). c == cid) l.cids) (stands.sizes.limits ∙ sym h.outbox.sizes.limits)

  place_taken : (cid : ℕ) (k : Takes cid) → place_of s.state.outbox cid ≡ Some k.q
  place_taken cid k = by_place (place_of s.state.outbox cid) refl
    where
      by_place : (y : Option ℕ) → place_of s.state.outbox cid ≡ y → y ≡ Some k.q
      by_place None none = absurd (none_here r.both.box.links cid k.q (stands_nowhere (is_under_way i.outbox r.both.box.links) i.outbox s.state.outbox r.both.box h.outbox cid none) k.within k.conn)
      by_place (Some q) found =
          let at : IsPlace r.both.box.links cid q = stands_there (is_under_way i.outbox r.both.box.links) i.outbox s.state.outbox r.both.box h.outbox cid q found in
          ap (λ (v : ℕ). Some v) (one_place r.both.box.links q k.q (links_apart (is_under_way i.outbox r.both.box.links) i.outbox s.state.outbox r.both.box h.outbox fit.distinct) at.within k.within (at.is ∙ sym k.conn))

  module _ (room : is_some (next_place s.state.cookies) ≡ true) where
    free_place : (place : ℕ) × (next_place s.state.cookies ≡ Some place)
    free_place = by_place (next_place s.state.cookies) refl room
      where
        by_place : (y : Option ℕ) → next_place s.state.cookies ≡ y → is_some y ≡ true → (place : ℕ) × (next_place s.state.cookies ≡ Some place)
        by_place None is some = absurd (false≢true some)
        by_place (Some place) is some = (place, is)

    taken_goes : put_refusal i.outbox r.both.box p ≡ None → (q : OwnPdu) → p ≡ q → GoesTo i (doing_by None (note q cookie (with_outbox s.state (taken_in p s.state.outbox)))) (rules_by None (after_call i.outbox r.both.box (outbox.Puts p)))
    taken_goes none (OfCommand k header) is = by_task (live_task r.both.box k) refl
      where
        same_noted : (b : Box) → record (with_box r b) { noted = r.noted ++ noted_with p cookie } ≡ with_box r b
        same_noted b = ap (λ (x : OwnPdu). record (with_box r b) { noted = r.noted ++ noted_with x cookie }) is ∙ ap (λ ns. record (with_box r b) { noted = ns }) (append-nil r.noted)

        conn_is : (x : Option Task) → live_task r.both.box k ≡ x → own_conn r.both.box p ≡ elim x [ Some t ↦ Some t.conn | None ↦ None ]
        conn_is x found = ap (own_conn r.both.box) is ∙ ap (λ (y : Option Task). elim y as (λ (z : Option Task). Option ℕ) [ Some t ↦ Some t.conn | None ↦ None ]) found

        by_task : (x : Option Task) → live_task r.both.box k ≡ x → GoesTo i (doing_by None (with_outbox s.state (taken_in p s.state.outbox))) (rules_by None (after_call i.outbox r.both.box (outbox.Puts p)))
        by_task (Some t) found =
            let e = command_ends k header is t found (box_of None none ∙ ap (λ (y : Option ℕ). box_by None y) (conn_is (Some t) found)) in
            subst (λ (x : Side). GoesTo i (doing_by None (with_outbox s.state (taken_in p s.state.outbox))) (record { told = quiet x; answer = rules.Put None })) (sym (same_noted (after_call i.outbox r.both.box (outbox.Puts p)))) (record { answer = refl; tells = e.tells; stands = e.stands })
        by_task None found =
            absurd (unfit (not (is_fit p)) (sym (ap (λ (y : Option ℕ). cond (not (is_fit p)) (Some Unfit) (elim y [ Some conn ↦ refusal_on i.outbox r.both.box conn | None ↦ Some GoneRefusal ])) (conn_is None found)) ∙ none))
          where
            unfit : (v : Bool) → cond v (Some Unfit) (Some GoneRefusal) ≡ None → ⊥
            unfit true e = cc
            unfit false e = cc
    taken_goes none (OfConnection cid header) is =
        let k : Takes cid = taking cid (not (is_fit p)) (first_of (filter (λ (l : Link). l.conn == cid && is_usable l) r.both.box.links)) refl
        (sym (ap (λ (x : OwnPdu). cond (not (is_fit p)) (Some Unfit) (elim (own_conn r.both.box x) [ Some conn ↦ refusal_on i.outbox r.both.box conn | None ↦ Some GoneRefusal ])) is) ∙ none) in
        let f = free_place in
        let box_is : after_call i.outbox r.both.box (outbox.Puts p) ≡ enter cid (own_outgoing p) r.both.box = box_of None none ∙ ap (λ (x : OwnPdu). box_by None (own_conn r.both.box x)) is in
        let e = noted_ends cid header is k f.0 f.1 box_is in
        subst (λ (y : Option ℕ). GoesTo i (doing_by None (note_as y (next_place s.state.cookies) cookie (with_outbox s.state (taken_in p s.state.outbox)))) (rules_by None (after_call i.outbox r.both.box (outbox.Puts p)))) (sym (place_same cid ∙ place_taken cid k))
        (subst (λ (y : Option ℕ). GoesTo i (doing_by None (note_as (Some k.q) y cookie (with_outbox s.state (taken_in p s.state.outbox)))) (rules_by None (after_call i.outbox r.both.box (outbox.Puts p)))) (sym f.1)
        (subst (λ (u : Unwritten). GoesTo i (doing_by None (record s.state { outbox = taken_in p s.state.outbox; cookies = entered cookie f.0 s.state.cookies; noted = u })) (rules_by None (after_call i.outbox r.both.box (outbox.Puts p))))
        (sym (room_free cid header is k f.0 f.1 box_is))
        (subst (λ (b : Box). GoesTo i (doing_by None (record s.state { outbox = taken_in p s.state.outbox; cookies = entered cookie f.0 s.state.cookies; noted = pushed k.q (Some f.0) s.state.noted })) (rules_by None b)) (sym box_is)
        (subst (λ (x : OwnPdu). GoesTo i (doing_by None (record s.state { outbox = taken_in p s.state.outbox; cookies = entered cookie f.0 s.state.cookies; noted = pushed k.q (Some f.0) s.state.noted }))
        (record { told = quiet (record (with_box r (enter cid (own_outgoing p) r.both.box)) { noted = r.noted ++ noted_with x cookie }); answer = rules.Put None })) (sym is) (record { answer = refl; tells = e.tells; stands = e.stands })))))

    put_goes : (x : Option PutRefusal) → put_refusal i.outbox r.both.box p ≡ x → GoesTo i (doing_by x (note p cookie (with_outbox s.state (taken_in p s.state.outbox)))) (rules_by x (after_call i.outbox r.both.box (outbox.Puts p)))
    put_goes None none = taken_goes none p refl
    put_goes (Some why) is = let e = idle in subst (λ (b : Box). GoesTo i (doing_by (Some why) s.state) (rules_by (Some why) b)) (sym (box_of (Some why) is)) (record { answer = refl; tells = e.tells; stands = e.stands })

    pub puts_alike : GoesAlike i s r (Puts p cookie)
    puts_alike =
        let e : GoesTo i (put p cookie s) (rules.put i r p cookie)
        = subst (λ (x : Option PutRefusal). GoesTo i (doing_by x (note p cookie (with_outbox s.state (taken_in p s.state.outbox)))) (rules.put i r p cookie)) (sym refused_same) (put_goes (put_refusal i.outbox r.both.box p) refl) in
        record { answer = e.answer; tells = e.tells; stands = e.stands }
