-- What is handed out: a NOP-In of the outbox's own, and a PDU of a command.
use Rattle.std.proofs.Common.{◌≡◌, ℕ, zero, suc, ◌+◌, ◌<◌, ◌≤◌, ◌==◌, ◌&&◌, ◌||◌, ◌⊎◌, inl, inr, ⊎_elim, cond, Bool, true, false, List, [], ◌∷◌, ◌++◌, length, map, drop, count_by, filter, Option, Some, None, refl, ap, sym, subst, ◌∙◌, arith, ne_eqb}
use Rattle.std.proofs.lemmas.Bool.{false≢true, eqb-true, eq-eqb, and_from, cases_Bool, cases_lt}
use Rattle.std.proofs.lemmas.List.{append-nil}
use Rattle.iscsi_rules.specs.rules.Trace.{Command as RulesCommand, Trace, entered}
use Rattle.iscsi_rules.proofs.general.BoolLemmas.{and_parts}
use Rattle.iscsi_rules.proofs.general.CountLemmas.{one, count-cons}
use Rattle.iscsi_rules.proofs.general.ElementLemmas.{In, filter-in, in-filter}
use Rattle.iscsi_outbox_rules.specs.rules.Boxes.{Answer, Handed, Link, Outgoing}
use Rattle.iscsi_outbox_rules.specs.rules.Handing.{is_from_queue, taken_from}
use Rattle.iscsi_outbox_rules.specs.rules.Words.{is_open}
use Rattle.iscsi_outbox_law.specs.private.Commands.{link_in}
use Rattle.iscsi_outbox_law.specs.private.Pairs.{EachOf}
use Rattle.iscsi_requests.specs.Conns.{of_conn}
use Rattle.iscsi_requests.specs.Cookies as cookies
use Rattle.iscsi_requests.specs.Cookies.{Cookies, cookie_at, has_place, uses_at, used_more}
use Rattle.iscsi_requests.specs.Replies.{has_log_place}
use Rattle.iscsi_requests.specs.declared.replies.WaitingReply.{WaitingReply}
use Rattle.iscsi_ffi_commands.specs.declared.command.Command.{Command}
use Rattle.iscsi_ffi_commands.specs.Commands.{find_ticket, has_ticket}
use Rattle.iscsi_ffi_rules.specs.rules.Calls.{Interface}
use Rattle.iscsi_ffi_rules.specs.rules.Needs.{is_about, is_noted, is_of_event, is_ticket_of, left_to_write}
use Rattle.iscsi_ffi_rules.specs.rules.Run as rules
use Rattle.iscsi_ffi_rules.specs.rules.Sides.{Asked, Side, cookie_of}
use Rattle.iscsi_ffi_steps.specs.Steps.{Side as StepsSide}
use Rattle.iscsi_ffi_law.specs.Names.{Name, Note, asked_of, place_named}
use Rattle.iscsi_ffi_law.specs.Parts.{AreApart, AreCounted, AreKept, AreNotesOn, IsAbout, IsAnswered, IsCommand, IsOfCommand, IsCovered, IsKnownOut, IsOfTicket, IsQueued, is_live_ticket, is_named, is_sent_at, noted_in}
use Rattle.iscsi_ffi_law.specs.Stands.{Stands}
use Rattle.iscsi_ffi_law.specs.Uses.{is_place, uses_of}
use Rattle.iscsi_ffi_law.proofs.commands.Commands.{one_command}
use Rattle.iscsi_ffi_law.proofs.requests.Cookies.{cookie_there, counted_with, place_used, uses_elsewhere, uses_here, words_same}
use Rattle.iscsi_ffi_law.proofs.sending.Handing.{IsHandedOn, noted_more}
use Rattle.iscsi_ffi_law.proofs.calls.Finish.{as_many_links}
use Rattle.iscsi_ffi_law.proofs.calls.Moved.{commands_known}
use Rattle.iscsi_ffi_law.proofs.general.Members.{Paired, Passing, any_in, counted_in, find_in, in_any, in_counted, in_each, in_find, in_pairs, pairs_in, map_in}
use Rattle.iscsi_ffi_law.proofs.requests.NameLemmas.{Named, found_named, place_event, same_event}
use Rattle.iscsi_ffi_law.proofs.own_pdus.NoteMoves.{same_notes}
use Rattle.iscsi_ffi_law.proofs.own_pdus.NotePlaces.{notes_same}
use Rattle.iscsi_ffi_law.proofs.requests.Replies.{is_part_of, is_reply_to}

-- ---- words

-- the word of a request is that of its place
pub cookie_named : (names : List Name) (notes : List Note) (v : Cookies) (asked : List Asked) → AreApart names notes → AreKept names notes v → AreCounted v → map asked_of names ≡ asked
    → (event place : ℕ) → Named names event place → cookie_of asked event ≡ cookie_at place v
cookie_named names notes v asked apart kept counted are event place f =
    let there = in_find (λ (a : Asked). a.event == event) (map asked_of names) (asked_of f.name) (in_map asked_of names f.name f.there) (eq-eqb f.name.event event f.event_is) in
    let found = find_in (λ (a : Asked). a.event == event) (map asked_of names) there.0 there.1 in
    let n = map_in asked_of names there.0 found.0 in
    let same : n.0 ≡ f.name = same_event names notes apart n.0 f.name n.1 f.there (ap (λ (a : Asked). a.event) n.2 ∙ eqb-true there.0.event event found.1 ∙ sym f.event_is) in
    let some : 1 ≤ count_by (λ (m : Name). m.place == f.name.place && m.cookie == f.name.cookie) names
    = in_counted (λ (m : Name). m.place == f.name.place && m.cookie == f.name.cookie) names f.name f.there (and_from (f.name.place == f.name.place) (f.name.cookie == f.name.cookie) (eq-eqb f.name.place f.name.place refl) (eq-eqb f.name.cookie f.name.cookie refl)) in
    let q : Passing (λ (y : cookies.Request). y.place == f.name.place && y.cookie == f.name.cookie) v.requests = counted_in (λ (y : cookies.Request). y.place == f.name.place && y.cookie == f.name.cookie) v.requests (omega (arith, some, kept f.name.place f.name.cookie)) in
    let parts = and_parts (q.x.place == f.name.place) (q.x.cookie == f.name.cookie) q.passes in
    let place_is : q.x.place ≡ place = eqb-true q.x.place f.name.place parts.0 ∙ f.place_is in
    ap (λ (as' : List Asked). cookie_of as' event) (sym are)
    ∙ ap (λ (x : Option Asked). elim x [ Some a ↦ a.cookie | None ↦ 0 ]) there.1
    ∙ ap (λ (a : Asked). a.cookie) (sym n.2) ∙ ap (λ (m : Name). m.cookie) same
    ∙ sym (eqb-true q.x.cookie f.name.cookie parts.1) ∙ sym (cookie_there v counted q.x q.there) ∙ ap (λ k. cookie_at k v) place_is
  where
    in_map : {A B : Type 0} (g : A → B) (xs : List A) (x : A) → In x xs → In (g x) (map g xs)
    in_map g [] x there = absurd there
    in_map g (y ∷ xs) x there = ⊎_elim (λ same. inl (ap g same)) (λ later. inr (in_map g xs x later)) there

-- ---- a queue without its first

pub tail_queued : (names : List Name) (t : Trace) (answers : List ℕ) (undue : List Answer) (rs rs' : List WaitingReply) (n n' : ℕ) (l : Link) (out : Outgoing) (rest : List Outgoing) → l.queue ≡ out ∷ rest → IsQueued names t answers undue rs n l
    → ((place : ℕ) → count_by (has_log_place place) rs' ≡ count_by (is_sent_at place) rest + count_by (λ (a : Answer). a.conn == l.conn && is_sent_at place a.out) undue)
    → n' ≡ count_by (λ (o : Outgoing). is_noted o.pdu) rest → is_from_queue out ≡ true → IsQueued names t answers undue rs' n' (taken_from out l)
tail_queued names t answers undue rs rs' n n' l out rest queue q sent noting from =
    subst (IsQueued names t answers undue rs' n') (sym (ap (λ v. cond v (record l { queue = drop 1 l.queue }) l) from ∙ ap (λ (os : List Outgoing). record l { queue = drop 1 os }) queue)) (record {
      sent = sent;
      noting = noting;
      known = (subst (EachOf (IsKnownOut names t answers)) queue q.known).1;
      covered = (subst (IsCovered (is_live_ticket t)) queue q.covered).1;
    })

-- the replies of each connection, also of none
pub answered_on : (i : Interface) (s : StepsSide) (r : Side) (h : Stands i s r) (q : ℕ) → EachOf (λ (y : WaitingReply). IsAnswered h.names r.answers y.log_place y.request) (of_conn q s.state.replies.waiting)
answered_on i s r h q =
    ⊎_elim
    (λ short. (h.requests.conns q short).replies)
    (λ far. subst (λ ys. EachOf (λ (y : WaitingReply). IsAnswered h.names r.answers y.log_place y.request) ys) (sym (conn_beyond s.state.replies.waiting q (omega (arith, far, h.sizes.replies, as_many_links i s.state r h.outbox)))) tt)
    (cases_lt q (length r.both.box.links))
  where
    conn_beyond : {X : Type 0} (lists : List (List X)) (k : ℕ) → length lists ≤ k → of_conn k lists ≡ []
    conn_beyond [] zero far = refl
    conn_beyond [] (suc k) far = refl
    conn_beyond (xs ∷ lists) zero far = absurd (let none : ⊥ = omega (arith, far) in none)
    conn_beyond (xs ∷ lists) (suc k) far = conn_beyond lists k (omega (arith, far))

module _ (i : Interface) (s : StepsSide) (r : Side) (h : Stands i s r) (p : ℕ) (within : p < length r.both.box.links) (opens : is_open (link_in r.both.box.links p) ≡ true) (g : Handed) where
  -- what isn't an own PDU that is of no command leaves these as they are
  pub noted_same : (x : Option ℕ) → is_noted g.out.pdu ≡ false
      → AreNotesOn h.notes (link_in r.both.box.links p).conn [] (of_conn p s.state.noted.handed) (noted_in (of_conn p s.state.unwritten.handed ++ x ∷ []) (left_to_write (link_in r.both.box.links p) ++ g ∷ []))
  noted_same x none =
      notes_same h.notes [] (link_in r.both.box.links p).conn (link_in r.both.box.links p).conn (of_conn p s.state.noted.handed) (of_conn p s.state.noted.handed) (noted_in (of_conn p s.state.unwritten.handed) (left_to_write (link_in r.both.box.links p)))
      (noted_in (of_conn p s.state.unwritten.handed ++ x ∷ []) (left_to_write (link_in r.both.box.links p) ++ g ∷ [])) refl refl
      (noted_more (IsAbout h.names h.notes r (link_in r.both.box.links p).conn) (of_conn p s.state.unwritten.handed) (left_to_write (link_in r.both.box.links p)) x g (h.requests.conns p within).written
      ∙ ap (λ v. noted_in (of_conn p s.state.unwritten.handed) (left_to_write (link_in r.both.box.links p)) ++ cond v (x ∷ []) []) none ∙ append-nil (noted_in (of_conn p s.state.unwritten.handed) (left_to_write (link_in r.both.box.links p))))
      (h.requests.conns p within).noted

  -- ---- a NOP-In of the outbox's own

  pub about_none : g.out.sent ≡ None → g.out.ticket ≡ None → (event : ℕ) → is_about event r g.out ≡ false
  about_none sent ticket event = ap (λ (x : Option ℕ). is_reply_to event r.answers x || is_part_of event r.both.trace g.out.ticket) sent ∙ ap (is_part_of event r.both.trace) ticket

  pub nop_handed : g.out.sent ≡ None → g.out.ticket ≡ None → is_noted g.out.pdu ≡ false → is_from_queue g.out ≡ false → IsHandedOn i s r h p within opens g None s.state.cookies s.state.replies s.state.noted h.notes r.noted r.handed_notes
  nop_handed sent ticket plain aside = record {
    about = record {
      named = in_each (λ (n : Name). is_about n.event r g.out ≡ false) h.names (λ n there. about_none sent ticket n.event);
      noted = in_each (λ (n : Note). false ≡ true → (is_noted g.out.pdu ≡ true) × (n.conn ≡ (link_in r.both.box.links p).conn)) h.notes (λ n there never. absurd (false≢true never));
    };
    kept = h.requests.kept;
    counted = h.requests.counted;
    uses = h.requests.uses;
    once = h.requests.once;
    replies_long = refl;
    replies_room = refl;
    replies_last = refl;
    noted_long = refl;
    noted_room = refl;
    answered = answered_all;
    queued_here = subst (IsQueued h.names r.both.trace r.answers r.both.box.undue (of_conn p s.state.replies.waiting) (length (of_conn p s.state.noted.handed))) (sym (ap (λ v. cond v (record (link_in r.both.box.links p) { queue = drop 1 (link_in r.both.box.links p).queue }) (link_in r.both.box.links p)) aside)) (h.requests.conns p within).queued;
    queued_others = λ q short other. (h.requests.conns q short).queued;
    renoted = same_notes h.notes;
    are_noted = h.requests.noted;
    noted_here = noted_same None plain;
    noted_others = λ q short other. (h.requests.conns q short).noted;
  }
    where
      answered_all : (q : ℕ) → EachOf (λ (y : WaitingReply). IsAnswered h.names r.answers y.log_place y.request) (of_conn q s.state.replies.waiting)
      answered_all q = answered_on i s r h q

  -- ---- a PDU of a command

  module _ (k : ℕ) (sent : g.out.sent ≡ None) (ticket : g.out.ticket ≡ Some k) (plain : is_noted g.out.pdu ≡ false) (from : is_from_queue g.out ≡ true) (rest : List Outgoing) (queue : (link_in r.both.box.links p).queue ≡ g.out ∷ rest) where
    known_first : IsKnownOut h.names r.both.trace r.answers g.out
    known_first = (subst (EachOf (IsKnownOut h.names r.both.trace r.answers)) queue (h.requests.conns p within).queued.known).0

    pub of_it : IsOfTicket h.names r.both.trace k
    of_it = subst (IsOfCommand h.names r.both.trace) ticket known_first.of_command

    d : RulesCommand
    d = of_it.0

    d_there : In of_it.0 (entered r.both.trace)
    d_there = (find_in (λ (e : RulesCommand). e.ticket == k) (entered r.both.trace) of_it.0 of_it.1).0

    d_ticket : of_it.0.ticket ≡ k
    d_ticket = eqb-true of_it.0.ticket k (find_in (λ (e : RulesCommand). e.ticket == k) (entered r.both.trace) of_it.0 of_it.1).1

    -- its command, by the steps
    pub record ItsCommand : Type 0 where
      pub c : Command
      pub found : find_ticket k s.state.commands ≡ Some c
      pub request : place_named h.names of_it.0.arrival.event ≡ Some c.request

    pub its_command : ItsCommand
    its_command =
        let pair = in_pairs (IsCommand h.names r) s.state.commands.items (filter (is_named h.names) (entered r.both.trace)) of_it.0 (filter-in (is_named h.names) (entered r.both.trace) of_it.0 d_there of_it.2) h.requests.commands in
        let y = in_find (has_ticket k) s.state.commands.items pair.0 pair.1 (eq-eqb pair.0.ticket k (pair.2.ticket ∙ d_ticket)) in
        let found = find_in (has_ticket k) s.state.commands.items y.0 y.1 in
        let e : Paired (IsCommand h.names r) y.0 (filter (is_named h.names) (entered r.both.trace)) = pairs_in (IsCommand h.names r) s.state.commands.items (filter (is_named h.names) (entered r.both.trace)) y.0 found.0 h.requests.commands in
        let same : e.y ≡ of_it.0 = one_command (entered r.both.trace) e.y of_it.0 h.requests.tickets (in-filter (is_named h.names) (entered r.both.trace) e.y e.there).0 d_there (sym e.pair.ticket ∙ eqb-true y.0.ticket k found.1 ∙ sym d_ticket) in
        record { c = y.0; found = y.1; request = ap (λ (x : RulesCommand). place_named h.names x.arrival.event) (sym same) ∙ e.pair.request }

    module _ (c : ItsCommand) where
      named_command : Named h.names of_it.0.arrival.event c.c.request
      named_command = found_named h.names of_it.0.arrival.event c.c.request c.request

      -- it is of this request alone
      about_command : (n : Name) → In n h.names → is_about n.event r g.out ≡ (c.c.request == n.place)
      about_command n there =
          ap (λ (x : Option ℕ). is_reply_to n.event r.answers x || is_part_of n.event r.both.trace g.out.ticket) sent ∙ ap (is_part_of n.event r.both.trace) ticket
          ∙ ticket_event (cases_Bool (is_ticket_of n.event r.both.trace k)) ∙ sym (place_event h.names h.notes h.requests.apart n of_it.0.arrival.event c.c.request there c.request)
        where
          ticket_event : (is_ticket_of n.event r.both.trace k ≡ true) ⊎ (is_ticket_of n.event r.both.trace k ≡ false) → is_ticket_of n.event r.both.trace k ≡ (of_it.0.arrival.event == n.event)
          ticket_event cases =
              ⊎_elim
              (λ yes.
              let x : Passing (λ (e : RulesCommand). is_of_event n.event e.arrival && e.ticket == k) (entered r.both.trace) = any_in (λ (e : RulesCommand). is_of_event n.event e.arrival && e.ticket == k) (entered r.both.trace) yes in
              let parts = and_parts (is_of_event n.event x.x.arrival) (x.x.ticket == k) x.passes in
              let same : x.x ≡ of_it.0 = one_command (entered r.both.trace) x.x of_it.0 h.requests.tickets x.there d_there (eqb-true x.x.ticket k parts.1 ∙ sym d_ticket) in
              yes ∙ sym (ap (λ (e : RulesCommand). is_of_event n.event e.arrival) (sym same) ∙ parts.0))
              (λ isnt. isnt ∙ sym (not_event (of_it.0.arrival.event == n.event) refl isnt)) cases
            where
              not_event : (v : Bool) → (of_it.0.arrival.event == n.event) ≡ v → is_ticket_of n.event r.both.trace k ≡ false → (of_it.0.arrival.event == n.event) ≡ false
              not_event false is isnt = is
              not_event true is isnt = absurd (false≢true (sym isnt ∙ in_any (λ (e : RulesCommand). is_of_event n.event e.arrival && e.ticket == k) (entered r.both.trace) of_it.0 d_there (and_from (is_of_event n.event of_it.0.arrival) (of_it.0.ticket == k) is (eq-eqb of_it.0.ticket k d_ticket))))

      -- no own PDU has this place
      not_noted : (place : ℕ) (event : ℕ) → Named h.names event place → (n : Note) → In n h.notes → (place == n.place) ≡ true → ⊥
      not_noted place event f n there same =
          let one_name : 1 ≤ count_by (λ (m : Name). m.place == n.place) h.names = in_counted (λ (m : Name). m.place == n.place) h.names f.name f.there (ap (λ q. q == n.place) f.place_is ∙ same) in
          let one_note : 1 ≤ count_by (λ (m : Note). m.place == n.place) h.notes = in_counted (λ (m : Note). m.place == n.place) h.notes n there (eq-eqb n.place n.place refl) in
          omega (arith, one_name, one_note, h.requests.apart.places n.place)

      pub used_place : 1 ≤ uses_at c.c.request s.state.cookies
      used_place = commands_known h.names h.notes (λ place. 0) (λ q. []) s.state r h.requests c.c (find_in (has_ticket k) s.state.commands.items c.c c.found).0

      uses_more : (place : ℕ) → uses_at place (used_more c.c.request s.state.cookies) ≡ uses_of place s.state + one (is_place place (Some c.c.request))
      uses_more place = by_place (place == c.c.request) refl
        where
          by_place : (v : Bool) → (place == c.c.request) ≡ v → uses_at place (used_more c.c.request s.state.cookies) ≡ uses_of place s.state + one (c.c.request == place)
          by_place true is =
              let at : place ≡ c.c.request = eqb-true place c.c.request is in
              let here : uses_at c.c.request (used_more c.c.request s.state.cookies) ≡ uses_at c.c.request s.state.cookies + 1
              = uses_here s.state.cookies h.requests.counted (uses_at c.c.request s.state.cookies + 1) c.c.request (omega arith) (place_used s.state.cookies h.requests.counted c.c.request used_place) in
              let before : uses_at place s.state.cookies ≡ uses_of place s.state + 0 = h.requests.uses place in
              let more : one (c.c.request == place) ≡ 1 = ap one (eq-eqb c.c.request place (sym at)) in
              ap (λ q. uses_at q (used_more c.c.request s.state.cookies)) at ∙ here ∙ ap (λ q. uses_at q s.state.cookies + 1) (sym at) ∙ (let all : uses_at place s.state.cookies + 1 ≡ uses_of place s.state + one (c.c.request == place) = omega (arith, before, more) in all)
          by_place false is =
              let none : one (c.c.request == place) ≡ 0 = ap one (ne_eqb c.c.request place (λ same. false≢true (sym is ∙ eq-eqb place c.c.request (sym same)))) in
              let same : uses_at place (used_more c.c.request s.state.cookies) ≡ uses_at place s.state.cookies = uses_elsewhere s.state.cookies h.requests.counted (uses_at c.c.request s.state.cookies + 1) c.c.request (omega arith) place is in
              omega (arith, none, same, h.requests.uses place)

      none_sent : (place : ℕ) → one (is_sent_at place g.out) ≡ 0
      none_sent place = ap (λ (x : Option ℕ). one (elim x [ Some q ↦ q == place | None ↦ false ])) sent

      pub command_handed : IsHandedOn i s r h p within opens g (Some c.c.request) (used_more c.c.request s.state.cookies) s.state.replies s.state.noted h.notes r.noted r.handed_notes
      command_handed = record {
        about = record {
          named = in_each (λ (n : Name). is_about n.event r g.out ≡ (c.c.request == n.place)) h.names about_command;
          noted = in_each (λ (n : Note). (c.c.request == n.place) ≡ true → (is_noted g.out.pdu ≡ true) × (n.conn ≡ (link_in r.both.box.links p).conn)) h.notes (λ n there same. absurd (not_noted c.c.request of_it.0.arrival.event named_command n there same));
        };
        kept = λ place cookie. words_same s.state.cookies h.requests.counted (uses_at c.c.request s.state.cookies + 1) c.c.request (omega arith) (λ a b. a == place && b == cookie) ∙ h.requests.kept place cookie;
        counted = counted_with s.state.cookies h.requests.counted (uses_at c.c.request s.state.cookies + 1) c.c.request (omega arith);
        uses = uses_more;
        once = h.requests.once;
        replies_long = refl;
        replies_room = refl;
        replies_last = refl;
        noted_long = refl;
        noted_room = refl;
        answered = λ q. answered_on i s r h q;
        queued_here = tail_queued h.names r.both.trace r.answers r.both.box.undue (of_conn p s.state.replies.waiting) (of_conn p s.state.replies.waiting) (length (of_conn p s.state.noted.handed)) (length (of_conn p s.state.noted.handed)) (link_in r.both.box.links p) g.out rest queue (h.requests.conns p within).queued
            (λ place. let all : count_by (is_sent_at place) (link_in r.both.box.links p).queue ≡ one (is_sent_at place g.out) + count_by (is_sent_at place) rest = ap (count_by (is_sent_at place)) queue ∙ count-cons (is_sent_at place) g.out rest in omega (arith, all, none_sent place, (h.requests.conns p within).queued.sent place))
            (let all : count_by (λ (o : Outgoing). is_noted o.pdu) (link_in r.both.box.links p).queue ≡ one (is_noted g.out.pdu) + count_by (λ (o : Outgoing). is_noted o.pdu) rest = ap (count_by (λ (o : Outgoing). is_noted o.pdu)) queue ∙ count-cons (λ (o : Outgoing). is_noted o.pdu) g.out rest in
            let none : one (is_noted g.out.pdu) ≡ 0 = ap one plain in omega (arith, all, none, (h.requests.conns p within).queued.noting)) from;
        queued_others = λ q short other. (h.requests.conns q short).queued;
        renoted = same_notes h.notes;
        are_noted = h.requests.noted;
        noted_here = noted_same (Some c.c.request) plain;
        noted_others = λ q short other. (h.requests.conns q short).noted;
      }

      -- and its word is that of the request
      pub command_word : rules.cookie_of_ticket r k ≡ Some (cookie_at c.c.request s.state.cookies)
      command_word =
          ap (λ (x : Option RulesCommand). elim x [ Some e ↦ Some (cookie_of r.asked e.arrival.event) | None ↦ None ]) of_it.1
          ∙ ap (λ (v : ℕ). Some v) (cookie_named h.names h.notes s.state.cookies r.asked h.requests.apart h.requests.kept h.requests.counted h.requests.asked of_it.0.arrival.event c.c.request named_command)
