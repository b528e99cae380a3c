-- The transport of a connection is gone that a Logout has closed: what it has is dropped, and the session hears of nothing.
use Rattle.std.proofs.Common.{◌≡◌, ℕ, ◌+◌, ◌<◌, ◌≤◌, ◌==◌, ◌&&◌, ⊎_elim, not, cond, Bool, true, false, List, [], ◌∷◌, ◌++◌, length, map, count_by, filter, Option, Some, None, refl, ap, sym, subst, ◌∙◌, arith, ne_eqb, length-append, length-set}
use Rattle.std.specs.List.{list_any}
use Rattle.std.proofs.lemmas.Bool.{cond_both, false≢true, eqb-true, eq-eqb, cases_eq, not-true}
use Rattle.std.proofs.lemmas.List.{append-nil, get_or-set_same, get_or-set_other, length-map}
use Rattle.iscsi_rules.specs.rules.Settings.{is_known}
use Rattle.iscsi_rules.specs.rules.Trace.{is_closed}
use Rattle.iscsi_rules.proofs.general.BoolLemmas.{and_parts}
use Rattle.iscsi_rules.proofs.general.CountLemmas.{count-filter}
use Rattle.iscsi_rules.proofs.general.ElementLemmas.{in-filter}
use Rattle.iscsi_outbox_rules.specs.rules.Calls as outbox
use Rattle.iscsi_outbox_rules.specs.rules.Boxes.{Answer, Box, Link}
use Rattle.iscsi_outbox_rules.specs.rules.Handing.{link_of}
use Rattle.iscsi_outbox_rules.specs.rules.Queues.{at_link, drop_on, emptied, takes_more}
use Rattle.iscsi_outbox_rules.specs.rules.Run.{after_call, link_lost, new_link}
use Rattle.iscsi_outbox_law.specs.private.Commands.{is_under_way, link_in}
use Rattle.iscsi_outbox_law.specs.private.Pairs.{EachOf, PairsOf}
use Rattle.iscsi_outbox_law.specs.private.Stands.{Stands as OutboxStands}
use Rattle.iscsi_outbox_law.proofs.connections.Losing.{loses_stands}
use Rattle.iscsi_outbox_law.proofs.general.PairLemmas.{each-at, each-filter, each-set, each-weaken}
use Rattle.iscsi_outbox_law.proofs.general.PlaceLemmas.{AreApart as LinksApart, IsPlace, conns_of, found_at, one_place}
use Rattle.iscsi_outbox_law.proofs.connections.Standing.{counts_at, links_apart, stands_there}
use Rattle.iscsi_outbox_law.proofs.commands.TurningCount.{call_last}
use Rattle.iscsi_outbox_steps.specs.State.{link_at, place_of}
use Rattle.iscsi_outbox_steps.specs.Steps.{is_running_ticket, lost}
use Rattle.iscsi_requests.specs.Conns.{of_conn}
use Rattle.iscsi_requests.specs.Cookies.{uses_at}
use Rattle.iscsi_requests.specs.Replies.{has_log_place, WaitingReplies}
use Rattle.iscsi_requests.specs.declared.replies.WaitingReply.{WaitingReply}
use Rattle.iscsi_ffi_commands.specs.Commands.{is_live}
use Rattle.iscsi_ffi_rules.specs.rules.Calls.{Interface, Loses}
use Rattle.iscsi_ffi_rules.specs.rules.Happening.{happens, other, quiet}
use Rattle.iscsi_ffi_rules.specs.rules.Needs.{left_to_write}
use Rattle.iscsi_ffi_rules.specs.rules.Run as rules
use Rattle.iscsi_ffi_rules.specs.rules.Run.{is_lost, parting}
use Rattle.iscsi_ffi_rules.specs.rules.Sides.{Side}
use Rattle.iscsi_ffi_steps.specs.State.{State}
use Rattle.iscsi_ffi_steps.specs.Steps.{Side as StepsSide, Answered, Refused, drop_unwritten, lose, lose_on, says, changed, done, going, happens as steps_happen}
use Rattle.iscsi_ffi_law.specs.Fit.{IsFit, IsOrderly}
use Rattle.iscsi_ffi_law.specs.Names.{handed_notes, note_places, waiting_notes}
use Rattle.iscsi_ffi_law.specs.Parts.{IsConn, IsOneUse, IsQueued, IsUndue, is_sent_at, noted_in, IsAbout, IsAnswered}
use Rattle.iscsi_ffi_law.specs.Stands.{Stands}
use Rattle.iscsi_ffi_law.specs.Uses.{is_place, uses_of}
use Rattle.iscsi_ffi_law.proofs.calls.Changed.{IsChanged, changed_to, conn_kept, requests_changed}
use Rattle.iscsi_ffi_law.proofs.logouts.Dropping.{all_dropped, all_of, endings_append, endings_places, endings_replies, without_handed, without_replies}
use Rattle.iscsi_ffi_law.proofs.calls.Ends.{EndsAlike, GoesTo, all_end, found_fit}
use Rattle.iscsi_ffi_law.proofs.calls.Finish.{IsAtEnd, as_many_links}
use Rattle.iscsi_ffi_law.proofs.calls.Fitting.{IsRoomy, roomy}
use Rattle.iscsi_ffi_law.proofs.requests.Kept.{count_members, count_nothing}
use Rattle.iscsi_ffi_law.proofs.general.Lists.{lists_set}
use Rattle.iscsi_ffi_law.proofs.general.Members.{PassingAt, any_at, at_any, each_in, in_each}
use Rattle.iscsi_ffi_law.proofs.calls.Moved.{all_queued, run_same, uses_run, with_box}
use Rattle.iscsi_ffi_law.proofs.own_pdus.NotePlaces.{handed_whole, waiting_whole}
use Rattle.iscsi_ffi_law.proofs.sending.Queued.{AllQueued, SettledTo, is_taking, link_map, settled_to}
use Rattle.iscsi_ffi_law.proofs.calls.Quiet.{runs_by_tasks, settled_sent, settled_tasks}
use Rattle.iscsi_ffi_law.proofs.requests.Releases.{endings, releases}
use Rattle.iscsi_requests.specs.Unwritten.{Unwritten}
use Rattle.iscsi_ffi_law.proofs.arrivals.Refusing.{unknown}
use Rattle.iscsi_ffi_law.specs.Alike.{GoesAlike}
use Rattle.iscsi_ffi_steps.specs.Walk.{drop_waiting, in_state}
use Rattle.iscsi_ffi_rules.specs.declared.refusal.Refusal.TheVariants.{UnknownConnection, NotJoined}
use Rattle.iscsi_rules.specs.declared.event.Event.TheVariants.{Arrive}

module _ (i : Interface) (s : StepsSide) (r : Side) (h : Stands i s r) (cid : ℕ) (fit : IsFit i r.both.box (after_call i.outbox r.both.box (outbox.Loses cid))) (p : ℕ) (at : IsPlace r.both.box.links cid p) where
  abbrev b' : Box
  b' = after_call i.outbox r.both.box (outbox.Loses cid)

  -- the box before it settles
  abbrev lost_links : List Link
  lost_links = at_link cid emptied (at_link cid link_lost r.both.box.links)

  abbrev undue' : List Answer
  undue' = filter (λ (a : Answer). not (a.conn == cid)) r.both.box.undue

  abbrev dropped : Box
  dropped = drop_on cid (record r.both.box { links = at_link cid link_lost r.both.box.links; reached = 0 })

  apart : LinksApart (conns_of r.both.box.links)
  apart = links_apart (is_under_way i.outbox r.both.box.links) i.outbox s.state.outbox r.both.box h.outbox fit.distinct

  abbrev loses_at : Link → Link
  loses_at l = cond (l.conn == cid) (link_lost l) l

  abbrev empties_at : Link → Link
  empties_at l = cond (l.conn == cid) (emptied l) l

  many : length (at_link cid emptied (at_link cid link_lost r.both.box.links)) ≡ length r.both.box.links
  many = length-map (map loses_at r.both.box.links) empties_at ∙ length-map r.both.box.links loses_at

  link_here : link_in (at_link cid emptied (at_link cid link_lost r.both.box.links)) p ≡ record (link_in r.both.box.links p) { lost = true; queue = [] }
  link_here =
      link_map empties_at (map loses_at r.both.box.links) p (omega (arith, at.within, length-map r.both.box.links loses_at)) ∙ ap empties_at (link_map loses_at r.both.box.links p at.within)
      ∙ ap (λ v. empties_at (cond v (link_lost (link_in r.both.box.links p)) (link_in r.both.box.links p))) (eq-eqb (link_in r.both.box.links p).conn cid at.is)
      ∙ ap (λ v. cond v (emptied (link_lost (link_in r.both.box.links p))) (link_lost (link_in r.both.box.links p))) (eq-eqb (link_in r.both.box.links p).conn cid at.is)

  apart_from : (q : ℕ) → q < length r.both.box.links → (q ≡ p → ⊥) → ((link_in r.both.box.links q).conn == cid) ≡ false
  apart_from q short other' = ne_eqb (link_in r.both.box.links q).conn cid (λ same. other' (one_place r.both.box.links q p apart short at.within (same ∙ sym at.is)))

  link_other : (q : ℕ) → q < length r.both.box.links → (q ≡ p → ⊥) → link_in (at_link cid emptied (at_link cid link_lost r.both.box.links)) q ≡ link_in r.both.box.links q
  link_other q short other' =
      link_map empties_at (map loses_at r.both.box.links) q (omega (arith, short, length-map r.both.box.links loses_at)) ∙ ap empties_at (link_map loses_at r.both.box.links q short)
      ∙ ap (λ v. empties_at (cond v (link_lost (link_in r.both.box.links q)) (link_in r.both.box.links q))) (apart_from q short other')
      ∙ ap (λ v. cond v (emptied (link_in r.both.box.links q)) (link_in r.both.box.links q)) (apart_from q short other')

  conn_lost : (q : ℕ) → q < length r.both.box.links → (link_in (at_link cid emptied (at_link cid link_lost r.both.box.links)) q).conn ≡ (link_in r.both.box.links q).conn
  conn_lost q short = ⊎_elim
      (λ (same : q ≡ p). subst (λ k. (link_in (at_link cid emptied (at_link cid link_lost r.both.box.links)) k).conn ≡ (link_in r.both.box.links k).conn) (sym same) (ap (λ (l : Link). l.conn) link_here))
      (λ (other' : q ≡ p → ⊥). ap (λ (l : Link). l.conn) (link_other q short other')) (cases_eq q p)

  -- ---- what the steps keep

  abbrev replies' : WaitingReplies
  replies' = without_replies p s.state.replies

  abbrev noted' : Unwritten
  noted' = without_handed p s.state.noted

  abbrev unwritten' : Unwritten
  unwritten' = without_handed p s.state.unwritten

  long_replies : length s.state.replies.waiting ≡ length r.both.box.links
  long_replies = h.sizes.replies ∙ sym (as_many_links i s.state r h.outbox)

  long_noted : length s.state.noted.handed ≡ length r.both.box.links
  long_noted = h.sizes.noted ∙ sym (as_many_links i s.state r h.outbox)

  long_unwritten : length s.state.unwritten.handed ≡ length r.both.box.links
  long_unwritten = h.sizes.unwritten ∙ sym (as_many_links i s.state r h.outbox)

  replies_here : of_conn p (without_replies p s.state.replies).waiting ≡ []
  replies_here = get_or-set_same s.state.replies.waiting p [] [] (omega (arith, at.within, long_replies))

  noted_here : of_conn p (without_handed p s.state.noted).handed ≡ []
  noted_here = get_or-set_same s.state.noted.handed p [] [] (omega (arith, at.within, long_noted))

  unwritten_here : of_conn p (without_handed p s.state.unwritten).handed ≡ []
  unwritten_here = get_or-set_same s.state.unwritten.handed p [] [] (omega (arith, at.within, long_unwritten))

  -- ---- what waits then

  other_conn : (c : ℕ) → (c == cid) ≡ false → (place : ℕ) → count_by (λ (a : Answer). a.conn == c && is_sent_at place a.out) (filter (λ (a : Answer). not (a.conn == cid)) r.both.box.undue) ≡ count_by (λ (a : Answer). a.conn == c && is_sent_at place a.out) r.both.box.undue
  other_conn c apart' place =
      count-filter (λ (a : Answer). a.conn == c && is_sent_at place a.out) (λ (a : Answer). not (a.conn == cid)) r.both.box.undue
      ∙ count_members (λ (a : Answer). not (a.conn == cid) && (a.conn == c && is_sent_at place a.out)) (λ (a : Answer). a.conn == c && is_sent_at place a.out) r.both.box.undue (λ a there. by_conn a (a.conn == c) refl)
    where
      none : (v : Bool) → (v && false) ≡ false
      none true = refl
      none false = refl

      by_conn : (a : Answer) (v : Bool) → (a.conn == c) ≡ v → (not (a.conn == cid) && (v && is_sent_at place a.out)) ≡ (v && is_sent_at place a.out)
      by_conn a false is = none (not (a.conn == cid))
      by_conn a true is = ap (λ w. not w && is_sent_at place a.out) (ap (λ k. k == cid) (eqb-true a.conn c is) ∙ apart')

  this_conn : (place : ℕ) → count_by (λ (a : Answer). a.conn == (link_in r.both.box.links p).conn && is_sent_at place a.out) (filter (λ (a : Answer). not (a.conn == cid)) r.both.box.undue) ≡ 0
  this_conn place = count_nothing (λ (a : Answer). a.conn == (link_in r.both.box.links p).conn && is_sent_at place a.out) (filter (λ (a : Answer). not (a.conn == cid)) r.both.box.undue)
      (λ a there. ap (λ c. (a.conn == c) && is_sent_at place a.out) at.is ∙ ap (λ v. v && is_sent_at place a.out) (not-true (a.conn == cid) (in-filter (λ (x : Answer). not (x.conn == cid)) r.both.box.undue a there).1))

  queued_now : AllQueued h.names r.both.trace r.answers (λ q. of_conn q (without_replies p s.state.replies).waiting) (λ q. length (of_conn q (without_handed p s.state.noted).handed)) (at_link cid emptied (at_link cid link_lost r.both.box.links)) (filter (λ (a : Answer). not (a.conn == cid)) r.both.box.undue)
  queued_now = record {
    queued = λ q within. ⊎_elim
        (λ (same : q ≡ p). subst (λ k. IsQueued h.names r.both.trace r.answers undue' (of_conn k replies'.waiting) (length (of_conn k noted'.handed)) (link_in lost_links k)) (sym same)
        (subst (IsQueued h.names r.both.trace r.answers undue' (of_conn p replies'.waiting) (length (of_conn p noted'.handed))) (sym link_here) (record {
          sent = λ place. ap (count_by (has_log_place place)) replies_here ∙ (let none : 0 ≡ 0 + count_by (λ (a : Answer). a.conn == (link_in r.both.box.links p).conn && is_sent_at place a.out) undue' = omega (arith, this_conn place) in none);
          noting = ap length noted_here;
          known = tt;
          covered = tt;
        })))
        (λ (other' : q ≡ p → ⊥).
        let short : q < length r.both.box.links = omega (arith, within, many) in
        let old = (h.requests.conns q short).queued in
        subst (λ xs. IsQueued h.names r.both.trace r.answers undue' xs (length (of_conn q noted'.handed)) (link_in lost_links q)) (sym (get_or-set_other s.state.replies.waiting p q [] [] other'))
        (subst (λ xs. IsQueued h.names r.both.trace r.answers undue' (of_conn q s.state.replies.waiting) (length xs) (link_in lost_links q)) (sym (get_or-set_other s.state.noted.handed p q [] [] other'))
        (subst (IsQueued h.names r.both.trace r.answers undue' (of_conn q s.state.replies.waiting) (length (of_conn q s.state.noted.handed))) (sym (link_other q short other')) (record {
          sent = λ place. let same = other_conn (link_in r.both.box.links q).conn (apart_from q short other') place in omega (arith, same, old.sent place);
          noting = old.noting;
          known = old.known;
          covered = old.covered;
        })))) (cases_eq q p);
    undue_are = each-filter (IsUndue h.names r.answers) (λ (a : Answer). not (a.conn == cid)) r.both.box.undue h.requests.undue;
    taken = in_each (λ (a : Answer). list_any (is_taking a.conn) lost_links ≡ true) undue' (λ a there.
        let parts = in-filter (λ (x : Answer). not (x.conn == cid)) r.both.box.undue a there in
        let all = all_queued i h.names h.notes (λ place. 0) (λ q. []) s.state r h.requests h.outbox fit.distinct fit.sound in
        let q : PassingAt (is_taking a.conn) r.both.box.links (new_link 0) = any_at (is_taking a.conn) r.both.box.links (new_link 0) (each_in (λ (x : Answer). list_any (is_taking x.conn) r.both.box.links ≡ true) r.both.box.undue a parts.0 all.taken) in
        let conn_is = eqb-true (link_in r.both.box.links q.place).conn a.conn (and_parts ((link_in r.both.box.links q.place).conn == a.conn) (takes_more (link_in r.both.box.links q.place)) q.passes).0 in
        let elsewhere : q.place ≡ p → ⊥ = λ same. false≢true (sym (not-true (a.conn == cid) parts.1) ∙ eq-eqb a.conn cid (sym conn_is ∙ ap (λ k. (link_in r.both.box.links k).conn) same ∙ at.is)) in
        at_any (is_taking a.conn) lost_links q.place (new_link 0) (omega (arith, q.within, many)) (ap (is_taking a.conn) (link_other q.place q.within elsewhere) ∙ q.passes));
    apart = subst LinksApart (sym conns_same) apart;
  }
    where
      conns_mapped : (f : Link → Link) (links : List Link) → ((l : Link) → (f l).conn ≡ l.conn) → conns_of (map f links) ≡ conns_of links
      conns_mapped f [] same = refl
      conns_mapped f (l ∷ links) same = ap (λ c. c ∷ conns_of (map f links)) (same l) ∙ ap (λ cs. l.conn ∷ cs) (conns_mapped f links same)

      conns_same : conns_of (at_link cid emptied (at_link cid link_lost r.both.box.links)) ≡ conns_of r.both.box.links
      conns_same =
          conns_mapped empties_at (map loses_at r.both.box.links) (λ l. cond_both (l.conn == cid) (emptied l) l (λ (m : Link). m.conn ≡ l.conn) (λ is. refl) (λ isnt. refl))
          ∙ conns_mapped loses_at r.both.box.links (λ l. cond_both (l.conn == cid) (link_lost l) l (λ (m : Link). m.conn ≡ l.conn) (λ is. refl) (λ isnt. refl))

  settled : SettledTo h.names r.both.trace r.answers (λ q. of_conn q (without_replies p s.state.replies).waiting) (λ q. length (of_conn q (without_handed p s.state.noted).handed)) (at_link cid emptied (at_link cid link_lost r.both.box.links)) (after_call i.outbox r.both.box (outbox.Loses cid))
  settled = settled_to h.names r.both.trace r.answers (λ q. of_conn q replies'.waiting) (λ q. length (of_conn q noted'.handed)) i.outbox dropped queued_now

  stands : OutboxStands i.outbox (lost cid s.state.outbox) (after_call i.outbox r.both.box (outbox.Loses cid))
  stands = loses_stands i.outbox s.state.outbox r.both.box h.outbox fit.sound fit.distinct fit.fits cid fit.short.time

  runs : (ticket : ℕ) → is_running_ticket ticket (lost cid s.state.outbox) ≡ is_running_ticket ticket s.state.outbox
  runs = run_same i s.state r (lost cid s.state.outbox) b' h.outbox fit.sound stands fit.sound_after fit.distinct (runs_by_tasks r.both.box b' (settled_tasks i.outbox [] undue' dropped))

  abbrev pub state_lost : State
  state_lost = changed_to s.state (lost cid s.state.outbox) s.state.cookies (without_replies p s.state.replies) (without_handed p s.state.noted) (without_handed p s.state.unwritten)

  abbrev pub gone : ℕ → List (Option ℕ)
  gone q = cond (q == p) (noted_in (of_conn p s.state.unwritten.handed) (left_to_write (link_in r.both.box.links p)) ++ of_conn p s.state.noted.handed) []

  uses_now : (place : ℕ) → uses_at place s.state.cookies ≡ uses_of place state_lost + endings (all_of p s.state) place
  uses_now place =
      let moved = uses_run place s.state (lost cid s.state.outbox) runs in
      let replies_set = lists_set (λ (x : WaitingReply). x.request == place) s.state.replies.waiting p [] (omega (arith, at.within, long_replies)) in
      let noted_set = lists_set (is_place place) s.state.noted.handed p [] (omega (arith, at.within, long_noted)) in
      let unwritten_set = lists_set (is_place place) s.state.unwritten.handed p [] (omega (arith, at.within, long_unwritten)) in
      let parts = endings_append (map (λ (x : WaitingReply). Some x.request) (of_conn p s.state.replies.waiting)) (of_conn p s.state.noted.handed ++ of_conn p s.state.unwritten.handed) place in
      let others = endings_append (of_conn p s.state.noted.handed) (of_conn p s.state.unwritten.handed) place in
      omega (
        arith,
        moved,
        replies_set,
        noted_set,
        unwritten_set,
        parts,
        others,
        endings_replies (of_conn p s.state.replies.waiting) place,
        endings_places (of_conn p s.state.noted.handed) place,
        endings_places (of_conn p s.state.unwritten.handed) place,
        h.requests.uses place,
      )

  short_of : (q : ℕ) → q < length b'.links → q < length r.both.box.links
  short_of q within = omega (arith, within, settled.long, many)

  conn_now : (q : ℕ) → q < length b'.links → (link_in b'.links q).conn ≡ (link_in r.both.box.links q).conn
  conn_now q within = let short : q < length r.both.box.links = short_of q within in (settled.same q (omega (arith, short, many))).conn ∙ conn_lost q short

  here : p < length b'.links → IsConn h.names h.notes (noted_in (of_conn p s.state.unwritten.handed) (left_to_write (link_in r.both.box.links p)) ++ of_conn p s.state.noted.handed) state_lost (with_box r b') p (link_in b'.links p)
  here within =
      let unwritten : List (Option ℕ) = noted_in (of_conn p s.state.unwritten.handed) (left_to_write (link_in r.both.box.links p)) in
      let left : left_to_write (link_in b'.links p) ≡ [] = (settled.same p (omega (arith, at.within, many))).left ∙ ap left_to_write link_here in
      record {
        replies = subst (λ xs. EachOf (λ (x : WaitingReply). IsAnswered h.names r.answers x.log_place x.request) xs) (sym replies_here) tt;
        queued = settled.all.queued p within;
        written = subst (λ hs. PairsOf (IsAbout h.names h.notes (with_box r b') (link_in b'.links p).conn) (of_conn p unwritten'.handed) hs) (sym left)
            (subst (λ xs. PairsOf (IsAbout h.names h.notes (with_box r b') (link_in b'.links p).conn) xs []) (sym unwritten_here) tt);
        noted = record {
          gone_handed = noted_in (of_conn p s.state.unwritten.handed) (left_to_write (link_in r.both.box.links p));
          gone_waiting = of_conn p s.state.noted.handed;
          gone_are = refl;
          waiting_are =
              ap (λ c. note_places c (waiting_notes h.notes)) (conn_now p within) ∙ waiting_whole h.notes (link_in r.both.box.links p).conn (of_conn p s.state.noted.handed) unwritten (h.requests.conns p at.within).noted
              ∙ sym (append-nil (of_conn p s.state.noted.handed)) ∙ ap (λ xs. of_conn p s.state.noted.handed ++ xs) (sym noted_here);
          handed_are =
              ap (λ c. note_places c (handed_notes h.notes)) (conn_now p within) ∙ handed_whole h.notes (link_in r.both.box.links p).conn (of_conn p s.state.noted.handed) unwritten (h.requests.conns p at.within).noted
              ∙ sym (append-nil unwritten) ∙ ap (λ xs. unwritten ++ xs) (sym (ap (λ xs. noted_in xs (left_to_write (link_in b'.links p))) unwritten_here ∙ ap (noted_in []) left));
        };
      }

  elsewhere : (q : ℕ) → q < length b'.links → (q ≡ p → ⊥) → IsConn h.names h.notes [] state_lost (with_box r b') q (link_in b'.links q)
  elsewhere q within other' =
      let short : q < length r.both.box.links = short_of q within in
      conn_kept h.names h.notes [] s.state state_lost r b' q (link_in r.both.box.links q) (link_in b'.links q) (h.requests.conns q short) (get_or-set_other s.state.replies.waiting p q [] [] other') (get_or-set_other s.state.noted.handed p q [] [] other')
      (get_or-set_other s.state.unwritten.handed p q [] [] other') (conn_now q within) ((settled.same q (omega (arith, short, many))).left ∙ ap left_to_write (link_other q short other')) (settled.all.queued q within)

  changed_now : IsChanged h.names h.notes (endings (all_of p s.state)) gone s.state r (lost cid s.state.outbox) s.state.cookies replies' noted' unwritten' b'
  changed_now = record {
    kept = h.requests.kept;
    counted = h.requests.counted;
    uses = uses_now;
    once = λ log_place. let fewer = lists_set (has_log_place log_place) s.state.replies.waiting p [] (omega (arith, at.within, long_replies)) in omega (arith, fewer, h.requests.once log_place);
    last = h.requests.last;
    one_use = each-weaken (IsOneUse s.state.outbox) (IsOneUse (lost cid s.state.outbox)) s.state.commands.items (λ c k. ap (λ v. is_live c && v) (runs c.ticket) ∙ k) h.requests.one_use;
    sent = settled_sent i.outbox [] undue' dropped;
    long = settled.long ∙ many;
    conn = conn_now;
    conns = λ q within. ⊎_elim
        (λ (same : q ≡ p). subst (λ k. (k < length b'.links) → IsConn h.names h.notes (gone k) state_lost (with_box r b') k (link_in b'.links k)) (sym same)
        (λ there. subst (λ v. IsConn h.names h.notes (cond v (noted_in (of_conn p s.state.unwritten.handed) (left_to_write (link_in r.both.box.links p)) ++ of_conn p s.state.noted.handed) []) state_lost (with_box r b') p (link_in b'.links p)) (sym (eq-eqb p p refl)) (here there)) within)
        (λ (other' : q ≡ p → ⊥). subst (λ v. IsConn h.names h.notes (cond v (noted_in (of_conn p s.state.unwritten.handed) (left_to_write (link_in r.both.box.links p)) ++ of_conn p s.state.noted.handed) []) state_lost (with_box r b') q (link_in b'.links q)) (sym (ne_eqb q p other')) (elsewhere q within other'))
        (cases_eq q p);
    undue = settled.all.undue_are;
  }

  -- nothing goes out on it any more
  pub none_taken : list_any (λ (l : Link). l.conn == cid && takes_more l) b'.links ≡ false
  none_taken = by_any (list_any (λ (l : Link). l.conn == cid && takes_more l) b'.links) refl
    where
      lost_takes : (u v : Bool) → ((u && not true) && v) ≡ false
      lost_takes true v = refl
      lost_takes false v = refl

      by_any : (w : Bool) → list_any (λ (l : Link). l.conn == cid && takes_more l) b'.links ≡ w → w ≡ false
      by_any false is = refl
      by_any true is =
          let x : PassingAt (λ (l : Link). l.conn == cid && takes_more l) b'.links (new_link 0) = any_at (λ (l : Link). l.conn == cid && takes_more l) b'.links (new_link 0) is in
          let short : x.place < length r.both.box.links = short_of x.place x.within in
          let passes = and_parts ((link_in b'.links x.place).conn == cid) (takes_more (link_in b'.links x.place)) x.passes in
          let here : x.place ≡ p = one_place r.both.box.links x.place p apart short at.within (sym (conn_now x.place x.within) ∙ eqb-true (link_in b'.links x.place).conn cid passes.0 ∙ sym at.is) in
          let takes : takes_more (link_in lost_links x.place) ≡ true = sym (settled.same x.place (omega (arith, short, many))).takes ∙ passes.1 in
          absurd (false≢true (sym (ap takes_more link_here ∙ lost_takes (link_in r.both.box.links p).joined (not (link_in r.both.box.links p).cut)) ∙ subst (λ k. takes_more (link_in lost_links k) ≡ true) here takes))

  -- as the call ends, with the uses that have ended
  pub losing_end : IsAtEnd i h.names h.notes (endings (all_of p s.state)) gone state_lost (with_box r b')
  losing_end = record {
    outbox = stands;
    sound = fit.sound_after;
    few = fit.short.handed;
    distinct = fit.distinct;
    sizes = record {
      room = h.sizes.room;
      functions = h.sizes.functions;
      replies = length-set s.state.replies.waiting p [] ∙ h.sizes.replies;
      noted = length-set s.state.noted.handed p [] ∙ h.sizes.noted;
      unwritten = length-set s.state.unwritten.handed p [] ∙ h.sizes.unwritten;
      noted_room = h.sizes.noted_room;
      unwritten_room = h.sizes.unwritten_room;
      replies_room = h.sizes.replies_room;
      slots = h.sizes.slots;
      few = each-set (λ (ys : List (Option ℕ)). length ys ≤ i.unwritten) s.state.unwritten.handed p [] (omega arith) h.sizes.few;
    };
    flags = record { awake = h.flags.awake; over = h.flags.over };
    requests = requests_changed h.names h.notes (λ place. 0) (endings (all_of p s.state)) (λ q. []) gone s.state r h.requests (lost cid s.state.outbox) s.state.cookies replies' noted' unwritten' b' changed_now;
    counts = record { units = h.counts.units; last = h.counts.last; tracked = call_last i.outbox s.state.outbox r.both.box (outbox.Loses cid) h.counts.tracked tt };
    withheld = h.withheld;
    calm = h.calm;
    slots = h.slots;
    functions = h.functions;
  }

  -- what is dropped on it
  pub losing_dropped : (let d' = drop_waiting p (record { state = record s.state { outbox = lost cid s.state.outbox }; actions = []; forgets = [] }) in drop_unwritten (length (of_conn p d'.state.unwritten.handed)) p d') ≡ releases (all_of p s.state) (record { state = state_lost; actions = []; forgets = [] })
  losing_dropped = all_dropped p (record { state = record s.state { outbox = lost cid s.state.outbox }; actions = []; forgets = [] }) (omega (arith, at.within, long_replies)) (omega (arith, at.within, long_noted)) (omega (arith, at.within, long_unwritten))

  -- .. ends
  pub losing_ends : IsRoomy s.state → EndsAlike i (record { event = s.event; trace = s.trace; doing = (let d' = drop_waiting p (record { state = record s.state { outbox = lost cid s.state.outbox }; actions = []; forgets = [] }) in drop_unwritten (length (of_conn p d'.state.unwritten.handed)) p d') }) (with_box r b') []
  losing_ends room =
      let all = length-append (map (λ (x : WaitingReply). Some x.request) (of_conn p s.state.replies.waiting)) (of_conn p s.state.noted.handed ++ of_conn p s.state.unwritten.handed) in
      let others = length-append (of_conn p s.state.noted.handed) (of_conn p s.state.unwritten.handed) in
      let mapped = length-map (of_conn p s.state.replies.waiting) (λ (x : WaitingReply). Some x.request) in
      all_end i h.names h.notes gone (all_of p s.state) state_lost (with_box r b') losing_end (omega (arith, all, others, mapped, room p))
      (record { event = s.event; trace = s.trace; doing = (let d' = drop_waiting p (record { state = record s.state { outbox = lost cid s.state.outbox }; actions = []; forgets = [] }) in drop_unwritten (length (of_conn p d'.state.unwritten.handed)) p d') })
      losing_dropped h.event h.trace

-- ---- the call

module _ (i : Interface) (s : StepsSide) (r : Side) (h : Stands i s r) (cid : ℕ) (fit : IsFit i r.both.box (after_call i.outbox r.both.box (outbox.Loses cid))) (orderly : IsOrderly r) where
  -- what is dropped, and what the session hears then if it isn't closed
  abbrev pub lost_on : ℕ → Bool → Answered
  lost_on p v =
      let g = changed (λ d.
      let d' = drop_waiting p (in_state (λ t. record t { outbox = lost cid t.outbox }) d) in
      drop_unwritten (length (of_conn p d'.state.unwritten.handed)) p d') (going s) in
      done (cond v g (steps_happen i None (Arrive cid (parting cid)) g))

  abbrev pub lost_there : Bool → rules.Answered
  lost_there v = let x = other i r (outbox.Loses cid) in rules.done (cond v (quiet x) (happens i x (Arrive cid (parting cid))))

  at_place : (v : Bool) → is_closed cid r.both.trace ≡ v → (p : ℕ) (at : IsPlace r.both.box.links cid p) → is_lost r cid ≡ false → is_known cid i.outbox.session.conns ≡ true → GoesTo i (lost_on p v) (lost_there v) → GoesTo i (lose_on i cid p s) (rules.lose i r cid)
  at_place v over p at kept known goes =
      let found : link_of r.both.box cid ≡ Some (link_in r.both.box.links p) = found_at r.both.box.links cid p (links_apart (is_under_way i.outbox r.both.box.links) i.outbox s.state.outbox r.both.box h.outbox fit.distinct) at.within at.is in
      let st = counts_at (is_under_way i.outbox r.both.box.links) i.outbox s.state.outbox r.both.box h.outbox p at.within in
      let unlost : (link_at s.state.outbox p).lost ≡ false = st.lost ∙ sym (ap (λ (x : Option Link). elim x [ Some l ↦ l.lost | None ↦ true ]) found) ∙ kept in
      let shut : (link_at s.state.outbox p).closed ≡ v
      = st.closed ∙ each-at (λ (l : Link). l.closed ≡ is_closed l.conn r.both.trace) r.both.box.links p (new_link 0) at.within orderly.closed ∙ ap (λ c. is_closed c r.both.trace) at.is ∙ over in
      subst (λ w. GoesTo i (cond w (says s (Refused NotJoined)) (lost_on p (link_at s.state.outbox p).closed)) (rules.lose i r cid)) (sym unlost)
      (subst (λ w. GoesTo i (lost_on p w) (rules.lose i r cid)) (sym shut)
      (subst (λ w. GoesTo i (lost_on p v) (by_rules w (is_lost r cid) (is_closed cid r.both.trace))) (sym known)
      (subst (λ w. GoesTo i (lost_on p v) (by_rules true w (is_closed cid r.both.trace))) (sym kept)
      (subst (λ w. GoesTo i (lost_on p v) (by_rules true false w)) (sym over) goes))))
    where
      by_rules : Bool → Bool → Bool → rules.Answered
      by_rules u w y = cond (not u) (rules.answers r (rules.Refused UnknownConnection)) (cond w (rules.answers r (rules.Refused NotJoined)) (lost_there y))

  -- where both go on alike from its place on, so does the call
  pub loses_by : (v : Bool) → is_closed cid r.both.trace ≡ v → is_known cid i.outbox.session.conns ≡ true → is_lost r cid ≡ false → ((p : ℕ) (at : IsPlace r.both.box.links cid p) → GoesTo i (lost_on p v) (lost_there v)) → GoesAlike i s r (Loses cid)
  loses_by v over known kept goes = by_place (place_of s.state.outbox cid) refl
    where
      by_place : (y : Option ℕ) → place_of s.state.outbox cid ≡ y → GoesAlike i s r (Loses cid)
      by_place None none = absurd (false≢true (sym (unknown i s r h (found_fit i r.both.box (after_call i.outbox r.both.box (outbox.Loses cid)) fit) cid none) ∙ known))
      by_place (Some p) found =
          let at = stands_there (is_under_way i.outbox r.both.box.links) i.outbox s.state.outbox r.both.box h.outbox cid p found in
          let g : GoesTo i (lose i cid s) (rules.lose i r cid) = subst (λ (x : Option ℕ). GoesTo i (elim x [ Some conn ↦ lose_on i cid conn s | None ↦ says s (Refused UnknownConnection) ]) (rules.lose i r cid)) (sym found) (at_place v over p at kept known (goes p at)) in
          record { answer = g.answer; tells = g.tells; stands = g.stands }

  pub loses_closed : is_closed cid r.both.trace ≡ true → is_known cid i.outbox.session.conns ≡ true → is_lost r cid ≡ false → GoesAlike i s r (Loses cid)
  loses_closed over known kept = loses_by true over known kept (λ p at. let e = losing_ends i s r h cid fit p at (roomy i s r h (after_call i.outbox r.both.box (outbox.Loses cid)) fit) in record { answer = refl; tells = e.tells; stands = e.stands })
