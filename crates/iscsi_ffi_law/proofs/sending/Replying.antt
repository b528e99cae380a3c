-- What is handed out: a reply of the session. The steps find its request by its place in the log.
use Rattle.std.proofs.Common.{◌≡◌, ℕ, zero, suc, ◌+◌, ◌<◌, ◌≤◌, ◌==◌, ◌&&◌, ◌||◌, ⊎_elim, not, Bool, true, false, List, [], ◌∷◌, length, map, count_by, filter, Option, Some, None, refl, ap, sym, subst, ◌∙◌, arith, ne_eqb}
use Rattle.std.proofs.lemmas.Bool.{false≢true, eqb-true, eq-eqb}
use Rattle.std.proofs.lemmas.List.{length-map}
use Rattle.iscsi_rules.specs.rules.Trace.{Command as RulesCommand, entered}
use Rattle.iscsi_rules.proofs.general.BoolLemmas.{and_parts}
use Rattle.iscsi_rules.proofs.general.CountLemmas.{one, count-cons, count-filter, count-split}
use Rattle.iscsi_rules.proofs.general.ElementLemmas.{In, append-in_first, append-in_second, in-append}
use Rattle.iscsi_outbox_rules.specs.rules.Boxes.{Answer, Handed, Outgoing}
use Rattle.iscsi_outbox_rules.specs.rules.Handing.{is_from_queue}
use Rattle.iscsi_outbox_rules.specs.rules.Words.{is_open}
use Rattle.iscsi_outbox_rules.specs.promises.Scope.{nth}
use Rattle.iscsi_outbox_law.specs.private.Commands.{link_in}
use Rattle.iscsi_outbox_law.specs.private.Pairs.{EachOf}
use Rattle.iscsi_outbox_law.proofs.general.PairLemmas.{each-filter}
use Rattle.iscsi_requests.specs.Conns.{of_conn}
use Rattle.iscsi_requests.specs.Cookies.{cookie_at}
use Rattle.iscsi_requests.specs.Replies.{all_of, find_log_place, has_log_place, request_of, taken, without_log_place}
use Rattle.iscsi_requests.specs.declared.replies.WaitingReply.{WaitingReply}
use Rattle.iscsi_ffi_rules.specs.rules.Calls.{Interface}
use Rattle.iscsi_ffi_rules.specs.rules.Needs.{is_about, is_noted, is_of_event, is_ticket_of}
use Rattle.iscsi_ffi_rules.specs.rules.Sides.{Side, cookie_of}
use Rattle.iscsi_ffi_steps.specs.Steps.{Side as StepsSide}
use Rattle.iscsi_ffi_law.specs.Names.{Name, Note, place_named}
use Rattle.iscsi_ffi_law.specs.Parts.{IsAnswered, IsKnownOut, IsReplyOf, is_sent_at, IsQueued}
use Rattle.iscsi_ffi_law.specs.Stands.{Stands}
use Rattle.iscsi_ffi_law.specs.Uses.{count_lists, count_replies}
use Rattle.iscsi_ffi_law.proofs.commands.Commands.{one_command}
use Rattle.iscsi_ffi_law.proofs.sending.Handing.{IsHandedOn}
use Rattle.iscsi_ffi_law.proofs.requests.Kept.{count_members, count_nothing, filter_all}
use Rattle.iscsi_ffi_law.proofs.general.Lists.{lists_at}
use Rattle.iscsi_ffi_law.proofs.general.Members.{Passing, any_in, counted_in, each_in, find_in, in_counted, in_each, in_find}
use Rattle.iscsi_ffi_law.proofs.requests.NameLemmas.{Named, found_named, place_event}
use Rattle.iscsi_ffi_law.proofs.requests.Replies.{AnswersIt, answers_it, is_part_of, is_reply_to}
use Rattle.iscsi_ffi_law.proofs.own_pdus.NoteMoves.{same_notes}
use Rattle.iscsi_ffi_law.proofs.sending.Sources.{answered_on, cookie_named, noted_same, tail_queued}

-- ---- lists

conn_mapped : (f : List WaitingReply → List WaitingReply) → f [] ≡ [] → (lists : List (List WaitingReply)) (p : ℕ) → of_conn p (map f lists) ≡ f (of_conn p lists)
conn_mapped f none [] zero = sym none
conn_mapped f none [] (suc p) = sym none
conn_mapped f none (xs ∷ lists) zero = refl
conn_mapped f none (xs ∷ lists) (suc p) = conn_mapped f none lists p

in_all : (lists : List (List WaitingReply)) (p : ℕ) (x : WaitingReply) → In x (of_conn p lists) → In x (all_of lists)
in_all [] zero x there = absurd there
in_all [] (suc p) x there = absurd there
in_all (xs ∷ lists) zero x there = append-in_first xs (all_of lists) x there
in_all (xs ∷ lists) (suc p) x there = append-in_second xs (all_of lists) x (in_all lists p x there)

all_in : (lists : List (List WaitingReply)) (x : WaitingReply) → In x (all_of lists) → (p : ℕ) × In x (of_conn p lists)
all_in [] x there = absurd there
all_in (xs ∷ lists) x there = ⊎_elim (λ here. (0, here)) (λ later. let rest = all_in lists x later in (suc rest.0, rest.1)) (in-append xs (all_of lists) x there)

lists_split : (p q : WaitingReply → Bool) (lists : List (List WaitingReply)) → count_lists p lists ≡ count_lists p (map (filter (λ x. not (q x))) lists) + count_lists (λ x. q x && p x) lists
lists_split p q [] = refl
lists_split p q (xs ∷ lists) = omega (arith, lists_split p q lists, count-split p q xs, count-filter p (λ x. not (q x)) xs)

lists_members : (p q : WaitingReply → Bool) (lists : List (List WaitingReply)) → ((k : ℕ) (x : WaitingReply) → In x (of_conn k lists) → p x ≡ q x) → count_lists p lists ≡ count_lists q lists
lists_members p q [] same = refl
lists_members p q (xs ∷ lists) same = let here = count_members p q xs (λ x there. same 0 x there) in let rest = lists_members p q lists (λ k x there. same (suc k) x there) in omega (arith, here, rest)

lists_two : (p : WaitingReply → Bool) (lists : List (List WaitingReply)) (k m : ℕ) → (k ≡ m → ⊥) → count_by p (of_conn k lists) + count_by p (of_conn m lists) ≤ count_lists p lists
lists_two p [] zero zero other = omega arith
lists_two p [] zero (suc m) other = omega arith
lists_two p [] (suc k) zero other = omega arith
lists_two p [] (suc k) (suc m) other = omega arith
lists_two p (xs ∷ lists) zero zero other = absurd (other refl)
lists_two p (xs ∷ lists) zero (suc m) other = let rest = lists_at p lists m in omega (arith, rest)
lists_two p (xs ∷ lists) (suc k) zero other = let rest = lists_at p lists k in omega (arith, rest)
lists_two p (xs ∷ lists) (suc k) (suc m) other = let rest = lists_two p lists k m (λ same. other (ap suc same)) in omega (arith, rest)

lists_none : (lists : List (List WaitingReply)) → count_lists (λ (x : WaitingReply). false) lists ≡ 0
lists_none [] = refl
lists_none (xs ∷ lists) = let rest = lists_none lists in let here = count_nothing (λ (x : WaitingReply). false) xs (λ x there. refl) in omega (arith, rest, here)

module _ (i : Interface) (s : StepsSide) (r : Side) (h : Stands i s r) (p : ℕ) (within : p < length r.both.box.links) (opens : is_open (link_in r.both.box.links p) ≡ true) (g : Handed)
    (k : ℕ) (sent : g.out.sent ≡ Some k) (plain : is_noted g.out.pdu ≡ false) (from : is_from_queue g.out ≡ true) (rest : List Outgoing) (queue : (link_in r.both.box.links p).queue ≡ g.out ∷ rest) where
  abbrev lists : List (List WaitingReply)
  lists = s.state.replies.waiting

  known_first : IsKnownOut h.names r.both.trace r.answers g.out
  known_first = (subst (EachOf (IsKnownOut h.names r.both.trace r.answers)) queue (h.requests.conns p within).queued.known).0

  here_sent : one (is_sent_at k g.out) ≡ 1
  here_sent = ap (λ (x : Option ℕ). one (elim x [ Some q ↦ q == k | None ↦ false ])) sent ∙ ap one (eq-eqb k k refl)

  queue_counted : (place : ℕ) → count_by (is_sent_at place) (link_in r.both.box.links p).queue ≡ one (is_sent_at place g.out) + count_by (is_sent_at place) rest
  queue_counted place = ap (count_by (is_sent_at place)) queue ∙ count-cons (is_sent_at place) g.out rest

  -- one reply with this place waits, and that is here
  one_here : count_by (has_log_place k) (of_conn p s.state.replies.waiting) ≡ 1
  one_here = omega (arith, here_sent, queue_counted k, (h.requests.conns p within).queued.sent k, lists_at (has_log_place k) s.state.replies.waiting p, h.requests.once k)

  nothing_else : count_by (is_sent_at k) rest + count_by (λ (a : Answer). a.conn == (link_in r.both.box.links p).conn && is_sent_at k a.out) r.both.box.undue ≡ 0
  nothing_else = omega (arith, one_here, here_sent, queue_counted k, (h.requests.conns p within).queued.sent k)

  all_one : count_lists (has_log_place k) s.state.replies.waiting ≡ 1
  all_one = omega (arith, one_here, lists_at (has_log_place k) s.state.replies.waiting p, h.requests.once k)

  none_else : (q : ℕ) → (q ≡ p → ⊥) → count_by (has_log_place k) (of_conn q s.state.replies.waiting) ≡ 0
  none_else q other = omega (arith, one_here, lists_two (has_log_place k) s.state.replies.waiting q p other, h.requests.once k)

  -- its request
  pub record ItsRequest : Type 0 where
    pub event : ℕ
    pub place : ℕ
    pub answers : nth k r.answers ≡ Some event
    pub named : place_named h.names event ≡ Some place
    pub found : find_log_place k s.state.replies ≡ Some place

  -- all that have this place in the log are of it
  same_request : (event place : ℕ) → nth k r.answers ≡ Some event → place_named h.names event ≡ Some place → (q : ℕ) (x : WaitingReply) → In x (of_conn q s.state.replies.waiting) → has_log_place k x ≡ true → x.request ≡ place
  same_request event place answers named q x there has =
      let a : AnswersIt h.names r.answers x.log_place x.request = answers_it h.names r.answers x.log_place x.request (each_in (λ (y : WaitingReply). IsAnswered h.names r.answers y.log_place y.request) (of_conn q s.state.replies.waiting) x there (answered_on i s r h q)) in
      let same : Some a.event ≡ Some event = sym a.is ∙ ap (λ n. nth n r.answers) (eqb-true x.log_place k has) ∙ answers in
      let events : a.event ≡ event = cc in
      let places : Some x.request ≡ Some place = sym a.named ∙ ap (place_named h.names) events ∙ named in
      cc

  pub its_request : ItsRequest
  its_request =
      let x : Passing (has_log_place k) (of_conn p s.state.replies.waiting) = counted_in (has_log_place k) (of_conn p s.state.replies.waiting) (omega (arith, one_here)) in
      let a : AnswersIt h.names r.answers x.x.log_place x.x.request = answers_it h.names r.answers x.x.log_place x.x.request (each_in (λ (y : WaitingReply). IsAnswered h.names r.answers y.log_place y.request) (of_conn p s.state.replies.waiting) x.x x.there (answered_on i s r h p)) in
      let answers : nth k r.answers ≡ Some a.event = ap (λ n. nth n r.answers) (sym (eqb-true x.x.log_place k x.passes)) ∙ a.is in
      let y = in_find (has_log_place k) (all_of s.state.replies.waiting) x.x (in_all s.state.replies.waiting p x.x x.there) x.passes in
      let found = find_in (has_log_place k) (all_of s.state.replies.waiting) y.0 y.1 in
      let q = all_in s.state.replies.waiting y.0 found.0 in
      record {
        event = a.event;
        place = x.x.request;
        answers = answers;
        named = a.named;
        found = ap request_of y.1 ∙ ap (λ (v : ℕ). Some v) (same_request a.event x.x.request answers a.named q.0 y.0 q.1 found.1);
      }

  module _ (c : ItsRequest) where
    named_request : Named h.names c.event c.place
    named_request = found_named h.names c.event c.place c.named

    -- it is about this request alone
    about_reply : (n : Name) → In n h.names → is_about n.event r g.out ≡ (c.place == n.place)
    about_reply n there =
        ap (λ (x : Option ℕ). is_reply_to n.event r.answers x || is_part_of n.event r.both.trace g.out.ticket) sent
        ∙ ap (λ (x : Option ℕ). elim x [ Some e ↦ e == n.event | None ↦ false ] || is_part_of n.event r.both.trace g.out.ticket) c.answers
        ∙ either (c.event == n.event) (is_part_of n.event r.both.trace g.out.ticket) (by_ticket g.out.ticket refl)
        ∙ sym (place_event h.names h.notes h.requests.apart n c.event c.place there c.named)
      where
        either : (v w : Bool) → (w ≡ true → v ≡ true) → (v || w) ≡ v
        either true w turns = refl
        either false true turns = sym (turns refl)
        either false false turns = refl

        by_ticket : (x : Option ℕ) → g.out.ticket ≡ x → is_part_of n.event r.both.trace g.out.ticket ≡ true → (c.event == n.event) ≡ true
        by_ticket None is part = absurd (false≢true (sym (ap (is_part_of n.event r.both.trace) is) ∙ part))
        by_ticket (Some ticket) is part =
            let yes : is_ticket_of n.event r.both.trace ticket ≡ true = sym (ap (is_part_of n.event r.both.trace) is) ∙ part in
            let x : Passing (λ (e : RulesCommand). is_of_event n.event e.arrival && e.ticket == ticket) (entered r.both.trace) = any_in (λ (e : RulesCommand). is_of_event n.event e.arrival && e.ticket == ticket) (entered r.both.trace) yes in
            let parts = and_parts (is_of_event n.event x.x.arrival) (x.x.ticket == ticket) x.passes in
            let of_it : IsReplyOf r.both.trace r.answers (Some k) (Some ticket) = subst (λ (y : Option ℕ). IsReplyOf r.both.trace r.answers y (Some ticket)) sent (subst (IsReplyOf r.both.trace r.answers g.out.sent) is known_first.same) in
            let found = find_in (λ (e : RulesCommand). e.ticket == ticket) (entered r.both.trace) of_it.0 of_it.1 in
            let same : of_it.0 ≡ x.x = one_command (entered r.both.trace) of_it.0 x.x h.requests.tickets found.0 x.there (eqb-true of_it.0.ticket ticket found.1 ∙ sym (eqb-true x.x.ticket ticket parts.1)) in
            let events : Some c.event ≡ Some of_it.0.arrival.event = sym c.answers ∙ of_it.2 in
            eq-eqb c.event n.event ((let e : c.event ≡ of_it.0.arrival.event = cc in e) ∙ ap (λ (e : RulesCommand). e.arrival.event) same ∙ eqb-true x.x.arrival.event n.event parts.0)

    not_noted : (n : Note) → In n h.notes → (c.place == n.place) ≡ true → ⊥
    not_noted n there same =
        let one_name : 1 ≤ count_by (λ (m : Name). m.place == n.place) h.names = in_counted (λ (m : Name). m.place == n.place) h.names named_request.name named_request.there (ap (λ q. q == n.place) named_request.place_is ∙ same) in
        let one_note : 1 ≤ count_by (λ (m : Note). m.place == n.place) h.notes = in_counted (λ (m : Note). m.place == n.place) h.notes n there (eq-eqb n.place n.place refl) in
        omega (arith, one_name, one_note, h.requests.apart.places n.place)

    -- it is used once less there
    uses_less : (place : ℕ) → count_replies place s.state ≡ count_lists (λ (x : WaitingReply). x.request == place) (taken k s.state.replies).waiting + one (c.place == place)
    uses_less place =
        lists_split (λ (x : WaitingReply). x.request == place) (has_log_place k) s.state.replies.waiting
        ∙ ap (λ m. count_lists (λ (x : WaitingReply). x.request == place) (taken k s.state.replies).waiting + m) (by_place (c.place == place) refl)
      where
        by_place : (v : Bool) → (c.place == place) ≡ v → count_lists (λ (x : WaitingReply). has_log_place k x && x.request == place) s.state.replies.waiting ≡ one v
        by_place true is =
            lists_members (λ (x : WaitingReply). has_log_place k x && x.request == place) (has_log_place k) s.state.replies.waiting (λ q x there. here q x there (has_log_place k x) refl) ∙ all_one
          where
            here : (q : ℕ) (x : WaitingReply) → In x (of_conn q s.state.replies.waiting) → (v : Bool) → has_log_place k x ≡ v → (v && x.request == place) ≡ v
            here q x there false has = refl
            here q x there true has = ap (λ y. y == place) (same_request c.event c.place c.answers c.named q x there has) ∙ is
        by_place false is =
            lists_members (λ (x : WaitingReply). has_log_place k x && x.request == place) (λ (x : WaitingReply). false) s.state.replies.waiting (λ q x there. here q x there (has_log_place k x) refl) ∙ lists_none s.state.replies.waiting
          where
            here : (q : ℕ) (x : WaitingReply) → In x (of_conn q s.state.replies.waiting) → (v : Bool) → has_log_place k x ≡ v → (v && x.request == place) ≡ false
            here q x there false has = refl
            here q x there true has = ap (λ y. y == place) (same_request c.event c.place c.answers c.named q x there has) ∙ is

    conn_taken : (q : ℕ) → of_conn q (taken k s.state.replies).waiting ≡ filter (λ (x : WaitingReply). not (has_log_place k x)) (of_conn q s.state.replies.waiting)
    conn_taken q = conn_mapped (without_log_place k) refl s.state.replies.waiting q

    others_taken : (q : ℕ) → (q ≡ p → ⊥) → of_conn q (taken k s.state.replies).waiting ≡ of_conn q s.state.replies.waiting
    others_taken q other = conn_taken q ∙ filter_all (λ (x : WaitingReply). not (has_log_place k x)) (of_conn q s.state.replies.waiting) (λ x there. by_test x there (has_log_place k x) refl)
      where
        by_test : (x : WaitingReply) → In x (of_conn q s.state.replies.waiting) → (v : Bool) → has_log_place k x ≡ v → not v ≡ true
        by_test x there false has = refl
        by_test x there true has = absurd (let some = in_counted (has_log_place k) (of_conn q s.state.replies.waiting) x there has in let no : ⊥ = omega (arith, some, none_else q other) in no)

    sent_left : (place : ℕ) → count_by (has_log_place place) (of_conn p (taken k s.state.replies).waiting) ≡ count_by (is_sent_at place) rest + count_by (λ (a : Answer). a.conn == (link_in r.both.box.links p).conn && is_sent_at place a.out) r.both.box.undue
    sent_left place =
        ap (count_by (has_log_place place)) (conn_taken p) ∙ count-filter (has_log_place place) (λ (x : WaitingReply). not (has_log_place k x)) (of_conn p s.state.replies.waiting) ∙ by_place (place == k) refl
      where
        by_place : (v : Bool) → (place == k) ≡ v → count_by (λ (x : WaitingReply). not (has_log_place k x) && has_log_place place x) (of_conn p s.state.replies.waiting)
            ≡ count_by (is_sent_at place) rest + count_by (λ (a : Answer). a.conn == (link_in r.both.box.links p).conn && is_sent_at place a.out) r.both.box.undue
        by_place true is =
            let at : place ≡ k = eqb-true place k is in
            count_nothing (λ (x : WaitingReply). not (has_log_place k x) && has_log_place place x) (of_conn p s.state.replies.waiting) (λ x there. ap (λ n. not (has_log_place k x) && has_log_place n x) at ∙ never (has_log_place k x))
            ∙ sym (ap (λ n. count_by (is_sent_at n) rest + count_by (λ (a : Answer). a.conn == (link_in r.both.box.links p).conn && is_sent_at n a.out) r.both.box.undue) at ∙ nothing_else)
          where
            never : (v : Bool) → (not v && v) ≡ false
            never true = refl
            never false = refl
        by_place false is =
            let none : one (is_sent_at place g.out) ≡ 0 = ap (λ (x : Option ℕ). one (elim x [ Some q ↦ q == place | None ↦ false ])) sent ∙ ap one (ne_eqb k place (λ same. false≢true (sym is ∙ eq-eqb place k (sym same)))) in
            let same : count_by (λ (x : WaitingReply). not (has_log_place k x) && has_log_place place x) (of_conn p s.state.replies.waiting) ≡ count_by (has_log_place place) (of_conn p s.state.replies.waiting)
            = count_members (λ (x : WaitingReply). not (has_log_place k x) && has_log_place place x) (has_log_place place) (of_conn p s.state.replies.waiting) (λ x there. other x (has_log_place place x) refl) in
            omega (arith, none, same, queue_counted place, (h.requests.conns p within).queued.sent place)
          where
            other : (x : WaitingReply) (v : Bool) → has_log_place place x ≡ v → (not (has_log_place k x) && v) ≡ v
            other x true has = ap (λ w. not w && true) (ne_eqb x.log_place k (λ same. false≢true (sym is ∙ eq-eqb place k (sym (eqb-true x.log_place place has) ∙ same))))
            other x false has = none (not (has_log_place k x))
              where
                none : (w : Bool) → (w && false) ≡ false
                none true = refl
                none false = refl

    pub reply_handed : IsHandedOn i s r h p within opens g (Some c.place) s.state.cookies (taken k s.state.replies) s.state.noted h.notes r.noted r.handed_notes
    reply_handed = record {
      about = record {
        named = in_each (λ (n : Name). is_about n.event r g.out ≡ (c.place == n.place)) h.names about_reply;
        noted = in_each (λ (n : Note). (c.place == n.place) ≡ true → (is_noted g.out.pdu ≡ true) × (n.conn ≡ (link_in r.both.box.links p).conn)) h.notes (λ n there same. absurd (not_noted n there same));
      };
      kept = h.requests.kept;
      counted = h.requests.counted;
      uses = λ place. let less = uses_less place in omega (arith, less, h.requests.uses place);
      once = λ log_place. let split = lists_split (has_log_place log_place) (has_log_place k) s.state.replies.waiting in omega (arith, split, h.requests.once log_place);
      replies_long = length-map s.state.replies.waiting (without_log_place k);
      replies_room = refl;
      replies_last = refl;
      noted_long = refl;
      noted_room = refl;
      answered = λ q. subst (λ ys. EachOf (λ (y : WaitingReply). IsAnswered h.names r.answers y.log_place y.request) ys) (sym (conn_taken q))
          (each-filter (λ (y : WaitingReply). IsAnswered h.names r.answers y.log_place y.request) (λ (x : WaitingReply). not (has_log_place k x)) (of_conn q s.state.replies.waiting) (answered_on i s r h q));
      queued_here = tail_queued h.names r.both.trace r.answers r.both.box.undue (of_conn p s.state.replies.waiting) (of_conn p (taken k s.state.replies).waiting) (length (of_conn p s.state.noted.handed)) (length (of_conn p s.state.noted.handed)) (link_in r.both.box.links p) g.out rest queue (h.requests.conns p within).queued
          sent_left
          (let all : count_by (λ (o : Outgoing). is_noted o.pdu) (link_in r.both.box.links p).queue ≡ one (is_noted g.out.pdu) + count_by (λ (o : Outgoing). is_noted o.pdu) rest = ap (count_by (λ (o : Outgoing). is_noted o.pdu)) queue ∙ count-cons (λ (o : Outgoing). is_noted o.pdu) g.out rest in
          let none : one (is_noted g.out.pdu) ≡ 0 = ap one plain in omega (arith, all, none, (h.requests.conns p within).queued.noting)) from;
      queued_others = λ q short other. subst (λ ys. IsQueued h.names r.both.trace r.answers r.both.box.undue ys (length (of_conn q s.state.noted.handed)) (link_in r.both.box.links q)) (sym (others_taken q other)) (h.requests.conns q short).queued;
      renoted = same_notes h.notes;
      are_noted = h.requests.noted;
      noted_here = noted_same i s r h p within opens g (Some c.place) plain;
      noted_others = λ q short other. (h.requests.conns q short).noted;
    }

    -- and its word is that of the request
    pub reply_word : elim (nth k r.answers) [ Some event ↦ Some (cookie_of r.asked event) | None ↦ None ] ≡ Some (cookie_at c.place s.state.cookies)
    reply_word =
        ap (λ (x : Option ℕ). elim x [ Some event ↦ Some (cookie_of r.asked event) | None ↦ None ]) c.answers
        ∙ ap (λ (v : ℕ). Some v) (cookie_named h.names h.notes s.state.cookies r.asked h.requests.apart h.requests.kept h.requests.counted h.requests.asked c.event c.place named_request)
