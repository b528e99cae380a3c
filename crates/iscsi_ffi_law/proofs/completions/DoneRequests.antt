-- What is kept of requests behind the item by which a command completes.
use Rattle.std.proofs.Common.{◌≡◌, ℕ, zero, suc, ◌+◌, ◌<◌, ◌≤◌, ◌==◌, ◌&&◌, ◌||◌, ⊎_elim, cond, Bool, true, false, List, [], ◌∷◌, ◌++◌, length, map, drop, count_by, filter, Option, Some, None, refl, ap, sym, subst, ◌∙◌, arith, length-append}
use Rattle.std.specs.List.{list_any}
use Rattle.std.proofs.lemmas.Bool.{and_from, cases_eq, cases_lt, eqb-true, eq-eqb, or_parts}
use Rattle.std.proofs.lemmas.List.Sums.{sum_by-append}
use Rattle.iscsi_rules.specs.rules.Trace.{Command as RulesCommand, are_apart, entered, has, leaves_ticket}
use Rattle.iscsi_rules.proofs.general.BoolLemmas.{and_first}
use Rattle.iscsi_rules.proofs.general.CountLemmas.{one, count-cons, count-weaker}
use Rattle.iscsi_rules.proofs.general.ElementLemmas.{In}
use Rattle.iscsi_outbox_rules.specs.promises.Scope.{nth}
use Rattle.iscsi_outbox_rules.specs.rules.Boxes.{Handed, Link, Outgoing}
use Rattle.iscsi_outbox_rules.specs.rules.Run.{new_link}
use Rattle.iscsi_outbox_law.specs.private.Commands.{link_in}
use Rattle.iscsi_outbox_law.specs.private.Pairs.{EachOf, PairsOf}
use Rattle.iscsi_outbox_law.proofs.general.PairLemmas.{each-append, each-at, each-weaken}
use Rattle.iscsi_outbox_steps.specs.Steps.{is_running_ticket}
use Rattle.iscsi_requests.specs.Conns.{of_conn}
use Rattle.iscsi_requests.specs.Replies.{has_log_place}
use Rattle.iscsi_requests.specs.declared.replies.WaitingReply.{WaitingReply}
use Rattle.iscsi_ffi_commands.specs.declared.command.Command.{Command}
use Rattle.iscsi_ffi_commands.specs.declared.command.Stage.TheVariants.{Over}
use Rattle.iscsi_ffi_commands.specs.Commands.{has_ticket, in_stage, is_live}
use Rattle.iscsi_ffi_rules.specs.rules.Calls.{Interface}
use Rattle.iscsi_ffi_rules.specs.rules.Needs.{is_about, is_of_event, is_ticket_of, left_to_write}
use Rattle.iscsi_ffi_rules.specs.rules.Sides.{Side}
use Rattle.iscsi_ffi_steps.specs.State.{State}
use Rattle.iscsi_ffi_law.specs.Names.{Name, Note}
use Rattle.iscsi_ffi_law.specs.Parts.{IsAbout, IsAnswered, IsAtEvent, IsBefore, IsCommand, IsConn, IsLiveNamed, IsNote, IsOneUse, IsRequest, is_named, noted_in}
use Rattle.iscsi_ffi_law.specs.Stands.{AreRequests}
use Rattle.iscsi_ffi_law.specs.Uses.{count_lists, is_place, is_used}
use Rattle.iscsi_ffi_law.proofs.completions.DoneBox.{IsFound, b, box_after, many_after, p, place, queued_after, replies', replies_here, replies_long, replies_others, runs_after, same_after, sent_after, waiting}
use Rattle.iscsi_ffi_law.proofs.completions.DoneQueue.{nth_before, nth_last, nth_more}
use Rattle.iscsi_ffi_law.proofs.completions.DoneShape.{done_trace, entered_same, is_held_same, left_too}
use Rattle.iscsi_ffi_law.proofs.completions.DoneWalk.{outbox_after, state_done}
use Rattle.iscsi_ffi_law.proofs.calls.Fitting.{count_map}
use Rattle.iscsi_ffi_law.proofs.requests.Kept.{count_nothing}
use Rattle.iscsi_ffi_law.proofs.general.Lists.{lists_set}
use Rattle.iscsi_ffi_law.proofs.resets.Marking.{pairs_mapped}
use Rattle.iscsi_ffi_law.proofs.general.Members.{CountedAt, Passing, counted_in, each_in, in_counted, lists_counted, two_counted}
use Rattle.iscsi_ffi_law.proofs.calls.Moved.{same_homes}
use Rattle.iscsi_ffi_law.proofs.sending.Next.{nth_within}
use Rattle.iscsi_ffi_law.proofs.own_pdus.NotePlaces.{notes_same}
use Rattle.iscsi_ffi_law.proofs.sending.Queued.{SameOut}
use Rattle.iscsi_ffi_law.proofs.requests.Replies.{AnswersIt, answers_it}
use Rattle.iscsi_ffi_law.proofs.commands.Staging.{HaveCommands, one_over, restaged, restaged_ticket}
use Rattle.iscsi_ffi_law.proofs.commands.Stopping.{count_sum}

pub pairs_each : {A B : Type 0} (R S : A → B → Type 0) (P : B → Type 0) (xs : List A) (ys : List B) → ((x : A) (y : B) → P y → R x y → S x y) → EachOf P ys → PairsOf R xs ys → PairsOf S xs ys
pairs_each R S P [] [] turns each h = tt
pairs_each R S P (x ∷ xs) (y ∷ ys) turns each h = (turns x y each.0 h.0, pairs_each R S P xs ys turns each.1 h.1)
pairs_each R S P [] (y ∷ ys) turns each h = absurd h
pairs_each R S P (x ∷ xs) [] turns each h = absurd h

each_drop : {A : Type 0} (P : A → Type 0) (n : ℕ) (xs : List A) → EachOf P xs → EachOf P (drop n xs)
each_drop P zero xs each = each
each_drop P (suc n) [] each = tt
each_drop P (suc n) (x ∷ xs) each = each_drop P n xs each.1

pub each_left : (P : Handed → Type 0) (l : Link) → EachOf P l.handed → EachOf P (left_to_write l)
each_left P l each = by_lost l.lost
  where
    by_lost : (v : Bool) → EachOf P (cond v [] (drop l.written l.handed))
    by_lost true = tt
    by_lost false = each_drop P l.written l.handed each

module _ (i : Interface) (names : List Name) (notes : List Note) (s : State) (r : Side) (d : RulesCommand) (status : ℕ) (f : IsFound i names notes s r d status) where
  abbrev pub done_side : Side
  done_side = record r {
    both = record { event = r.both.event + 1; trace = done_trace r.both.trace d status; box = box_after i names notes s r d status f };
    answers = r.answers ++ d.arrival.event ∷ [];
  }

  abbrev items_done : List Command
  items_done = map (restaged Over d.ticket) s.commands.items

  -- ---- commands

  over_use : (c : Command) → IsOneUse s.outbox c → IsOneUse (outbox_after i names notes s r d status f) (restaged Over d.ticket c)
  over_use c k = by_ticket (has_ticket d.ticket c)
    where
      by_ticket : (v : Bool) → IsOneUse (outbox_after i names notes s r d status f) (cond v (in_stage Over c) c)
      by_ticket true = refl
      by_ticket false = ap (λ v. is_live c && v) (runs_after i names notes s r d status f c.ticket) ∙ k

  over_uses : (cs : List Command) → EachOf (IsOneUse s.outbox) cs → EachOf (IsOneUse (outbox_after i names notes s r d status f)) (map (restaged Over d.ticket) cs)
  over_uses [] each = tt
  over_uses (c ∷ cs) each = (over_use c each.0, over_uses cs each.1)

  pub have_over : HaveCommands names done_side (outbox_after i names notes s r d status f) (map (restaged Over d.ticket) s.commands.items) (map (restaged Over d.ticket) s.commands.items)
  have_over = record {
    commands = subst (λ (ds : List RulesCommand). PairsOf (IsCommand names done_side) (map (restaged Over d.ticket) s.commands.items) (filter (is_named names) ds)) (sym (entered_same r.both.trace d status))
        (pairs_mapped (IsCommand names r) (IsCommand names done_side) (restaged Over d.ticket) s.commands.items (filter (is_named names) (entered r.both.trace)) (λ c x at k. one_over names r d status done_side refl refl refl c x k) f.requests.commands);
    one_use = over_uses s.commands.items f.requests.one_use;
    numbered = λ ticket.
        let same = same_tickets ticket s.commands.items in
        omega (arith, same, f.requests.numbered ticket);
    used = λ place. refl;
  }
    where
      same_tickets : (ticket : ℕ) (cs : List Command) → count_by (has_ticket ticket) (map (restaged Over d.ticket) cs) ≡ count_by (has_ticket ticket) cs
      same_tickets ticket [] = refl
      same_tickets ticket (c ∷ cs) =
          let here : one (has_ticket ticket (restaged Over d.ticket c)) ≡ one (has_ticket ticket c) = ap (λ n. one (n == ticket)) (restaged_ticket Over d.ticket c) in
          omega (arith, here, same_tickets ticket cs, count-cons (has_ticket ticket) (restaged Over d.ticket c) (map (restaged Over d.ticket) cs), count-cons (has_ticket ticket) c cs)

  -- it uses its request no more, but by its reply
  one_used : (place : ℕ) → count_by (λ (c : Command). has_ticket d.ticket c && c.request == place) s.commands.items ≡ one ((b i names notes s r d status f).c.request == place)
  one_used place = by_test ((b i names notes s r d status f).c.request == place) refl
    where
      by_test : (v : Bool) → ((b i names notes s r d status f).c.request == place) ≡ v → count_by (λ (c : Command). has_ticket d.ticket c && c.request == place) s.commands.items ≡ one v
      by_test true is =
          let k = b i names notes s r d status f in
          let some : 1 ≤ count_by (λ (c : Command). has_ticket d.ticket c && c.request == place) s.commands.items
          = in_counted (λ (c : Command). has_ticket d.ticket c && c.request == place) s.commands.items k.c k.there (and_from (has_ticket d.ticket k.c) (k.c.request == place) (eq-eqb k.c.ticket d.ticket k.is.ticket) is) in
          let few : count_by (λ (c : Command). has_ticket d.ticket c && c.request == place) s.commands.items ≤ count_by (has_ticket d.ticket) s.commands.items
          = count-weaker (λ (c : Command). has_ticket d.ticket c && c.request == place) (has_ticket d.ticket) s.commands.items (λ c both. and_first (has_ticket d.ticket c) (c.request == place) both) in
          omega (arith, some, few, f.requests.numbered d.ticket)
      by_test false is = count_nothing (λ (c : Command). has_ticket d.ticket c && c.request == place) s.commands.items (λ c at. other c at (has_ticket d.ticket c) refl)
        where
          other : (c : Command) → In c s.commands.items → (v : Bool) → has_ticket d.ticket c ≡ v → (has_ticket d.ticket c && c.request == place) ≡ false
          other c at false has_it = ap (λ v. v && c.request == place) has_it
          other c at true has_it =
              let k = b i names notes s r d status f in
              ap (λ v. v && c.request == place) has_it
              ∙ ap (λ (x : Command). x.request == place) (two_counted (has_ticket d.ticket) s.commands.items c k.c (f.requests.numbered d.ticket) at k.there has_it (eq-eqb k.c.ticket d.ticket k.is.ticket)) ∙ is

  uses_over : (place : ℕ) → count_by (λ (c : Command). c.request == place && is_used s.outbox c) s.commands.items
      ≡ count_by (λ (c : Command). c.request == place && is_used (outbox_after i names notes s r d status f) c) (map (restaged Over d.ticket) s.commands.items) + one ((b i names notes s r d status f).c.request == place)
  uses_over place =
      let all = count_sum (λ (c : Command). c.request == place && is_used s.outbox c) (λ (c : Command). (restaged Over d.ticket c).request == place && is_used (outbox_after i names notes s r d status f) (restaged Over d.ticket c))
      (λ (c : Command). has_ticket d.ticket c && c.request == place) s.commands.items (λ c at. each c at (has_ticket d.ticket c) refl) in
      let mapped = count_map (restaged Over d.ticket) (λ (c : Command). c.request == place && is_used (outbox_after i names notes s r d status f) c) s.commands.items in
      omega (arith, all, mapped, one_used place)
    where
      each : (c : Command) → In c s.commands.items → (v : Bool) → has_ticket d.ticket c ≡ v
          → one (c.request == place && is_used s.outbox c) ≡ one ((restaged Over d.ticket c).request == place && is_used (outbox_after i names notes s r d status f) (restaged Over d.ticket c)) + one (has_ticket d.ticket c && c.request == place)
      each c at false other =
          let same : one ((restaged Over d.ticket c).request == place && is_used (outbox_after i names notes s r d status f) (restaged Over d.ticket c)) ≡ one (c.request == place && is_used s.outbox c)
          = ap (λ v. one ((cond v (in_stage Over c) c).request == place && is_used (outbox_after i names notes s r d status f) (cond v (in_stage Over c) c))) other ∙ ap (λ v. one (c.request == place && (is_live c || v))) (runs_after i names notes s r d status f c.ticket) in
          let none : one (has_ticket d.ticket c && c.request == place) ≡ 0 = ap (λ v. one (v && c.request == place)) other in
          omega (arith, same, none)
      each c at true has_it =
          let k = b i names notes s r d status f in
          let same : c ≡ k.c = two_counted (has_ticket d.ticket) s.commands.items c k.c (f.requests.numbered d.ticket) at k.there has_it (eq-eqb k.c.ticket d.ticket k.is.ticket) in
          let lives : is_live c ≡ true = ap is_live same ∙ k.lives in
          let idle : is_running_ticket c.ticket s.outbox ≡ false = sym (ap (λ v. v && is_running_ticket c.ticket s.outbox) lives) ∙ each_in (IsOneUse s.outbox) s.commands.items c at f.requests.one_use in
          let before : one (c.request == place && is_used s.outbox c) ≡ one (c.request == place) = ap (λ v. one (c.request == place && (v || is_running_ticket c.ticket s.outbox))) lives ∙ ap one (whole (c.request == place)) in
          let after : one ((restaged Over d.ticket c).request == place && is_used (outbox_after i names notes s r d status f) (restaged Over d.ticket c)) ≡ 0
          = ap (λ v. one ((cond v (in_stage Over c) c).request == place && is_used (outbox_after i names notes s r d status f) (cond v (in_stage Over c) c))) has_it
          ∙ ap (λ v. one (c.request == place && v)) (runs_after i names notes s r d status f c.ticket ∙ idle) ∙ ap one (none (c.request == place)) in
          let last : one (has_ticket d.ticket c && c.request == place) ≡ one (c.request == place) = ap (λ v. one (v && c.request == place)) has_it in
          omega (arith, before, after, last)
        where
          whole : (v : Bool) → (v && true) ≡ v
          whole true = refl
          whole false = refl

          none : (v : Bool) → (v && false) ≡ false
          none true = refl
          none false = refl

  -- ---- replies

  within_replies : p i names notes s r d status f < length s.replies.waiting
  within_replies = let w = (place i names notes s r d status f).within in let l = replies_long i names notes s r d status f in omega (arith, w, l)

  last_answered : nth r.both.box.sent (r.answers ++ d.arrival.event ∷ []) ≡ Some d.arrival.event
  last_answered = ap (λ k. nth k (r.answers ++ d.arrival.event ∷ [])) (sym f.requests.answers) ∙ nth_last r.answers d.arrival.event

  none_yet : count_lists (has_log_place r.both.box.sent) s.replies.waiting ≡ 0
  none_yet =
      ⊎_elim
      (λ some. absurd (
      let at : CountedAt (has_log_place r.both.box.sent) s.replies.waiting = lists_counted (has_log_place r.both.box.sent) s.replies.waiting (omega (arith, some)) in
      let short : at.place < length r.both.box.links = (let l = replies_long i names notes s r d status f in let w = at.within in omega (arith, w, l)) in
      let x : Passing (has_log_place r.both.box.sent) (of_conn at.place s.replies.waiting) = counted_in (has_log_place r.both.box.sent) (of_conn at.place s.replies.waiting) at.some in
      let e : AnswersIt names r.answers x.x.log_place x.x.request
      = answers_it names r.answers x.x.log_place x.x.request (each_in (λ (y : WaitingReply). IsAnswered names r.answers y.log_place y.request) (of_conn at.place s.replies.waiting) x.x x.there (f.requests.conns at.place short).replies) in
      let below : x.x.log_place < length r.answers = nth_within x.x.log_place r.answers e.event e.is in
      let same : x.x.log_place ≡ r.both.box.sent = eqb-true x.x.log_place r.both.box.sent x.passes in
      let many = f.requests.answers in
      let none : ⊥ = omega (arith, below, same, many) in none))
      (λ none. omega (arith, none))
      (cases_lt 0 (count_lists (has_log_place r.both.box.sent) s.replies.waiting))

  once_now : (k : ℕ) → count_lists (has_log_place k) (replies' i names notes s r d status f).waiting ≤ 1
  once_now k =
      let set_there = lists_set (has_log_place k) s.replies.waiting (p i names notes s r d status f) (of_conn (p i names notes s r d status f) s.replies.waiting ++ waiting i names notes s r d status f ∷ []) within_replies in
      let all = sum_by-append (λ (x : WaitingReply). cond (has_log_place k x) 1 0) (of_conn (p i names notes s r d status f) s.replies.waiting) (waiting i names notes s r d status f ∷ []) in
      by_place (r.both.box.sent == k) refl set_there all
    where
      by_place : (v : Bool) → (r.both.box.sent == k) ≡ v
          → count_lists (has_log_place k) (replies' i names notes s r d status f).waiting + count_by (has_log_place k) (of_conn (p i names notes s r d status f) s.replies.waiting)
          ≡ count_lists (has_log_place k) s.replies.waiting + count_by (has_log_place k) (of_conn (p i names notes s r d status f) s.replies.waiting ++ waiting i names notes s r d status f ∷ [])
          → count_by (has_log_place k) (of_conn (p i names notes s r d status f) s.replies.waiting ++ waiting i names notes s r d status f ∷ [])
          ≡ count_by (has_log_place k) (of_conn (p i names notes s r d status f) s.replies.waiting) + count_by (has_log_place k) (waiting i names notes s r d status f ∷ [])
          → count_lists (has_log_place k) (replies' i names notes s r d status f).waiting ≤ 1
      by_place true is set_there all =
          let here : one (r.both.box.sent == k) ≡ 1 = ap one is in
          let none : count_lists (has_log_place k) s.replies.waiting ≡ 0 = subst (λ n. count_lists (has_log_place n) s.replies.waiting ≡ 0) (eqb-true r.both.box.sent k is) none_yet in
          omega (arith, here, none, set_there, all, count-cons (has_log_place k) (waiting i names notes s r d status f) [])
      by_place false is set_there all =
          let here : one (r.both.box.sent == k) ≡ 0 = ap one is in
          omega (arith, here, f.requests.once k, set_there, all, count-cons (has_log_place k) (waiting i names notes s r d status f) [])

  answered_more : (x : WaitingReply) → IsAnswered names r.answers x.log_place x.request → IsAnswered names (r.answers ++ d.arrival.event ∷ []) x.log_place x.request
  answered_more x k =
      let e : AnswersIt names r.answers x.log_place x.request = answers_it names r.answers x.log_place x.request k in
      subst (IsAtEvent names x.request) (sym (nth_more x.log_place r.answers (d.arrival.event ∷ []) e.event e.is)) e.named

  answered_on : (q : ℕ) → q < length r.both.box.links → EachOf (λ (x : WaitingReply). IsAnswered names (r.answers ++ d.arrival.event ∷ []) x.log_place x.request) (of_conn q (replies' i names notes s r d status f).waiting)
  answered_on q short = ⊎_elim
      (λ (same : q ≡ p i names notes s r d status f). subst (EachOf (λ (x : WaitingReply). IsAnswered names (r.answers ++ d.arrival.event ∷ []) x.log_place x.request)) (sym (ap (λ k. of_conn k (replies' i names notes s r d status f).waiting) same ∙ replies_here i names notes s r d status f))
      (each-append (λ (x : WaitingReply). IsAnswered names (r.answers ++ d.arrival.event ∷ []) x.log_place x.request) (of_conn (p i names notes s r d status f) s.replies.waiting) (waiting i names notes s r d status f ∷ [])
      (old (p i names notes s r d status f) (place i names notes s r d status f).within) (subst (IsAtEvent names (b i names notes s r d status f).c.request) (sym last_answered) (b i names notes s r d status f).is.request, tt)))
      (λ (other : q ≡ p i names notes s r d status f → ⊥). subst (EachOf (λ (x : WaitingReply). IsAnswered names (r.answers ++ d.arrival.event ∷ []) x.log_place x.request)) (sym (replies_others i names notes s r d status f q other)) (old q short))
      (cases_eq q (p i names notes s r d status f))
    where
      old : (k : ℕ) → k < length r.both.box.links → EachOf (λ (x : WaitingReply). IsAnswered names (r.answers ++ d.arrival.event ∷ []) x.log_place x.request) (of_conn k s.replies.waiting)
      old k lt = each-weaken (λ (x : WaitingReply). IsAnswered names r.answers x.log_place x.request) (λ (x : WaitingReply). IsAnswered names (r.answers ++ d.arrival.event ∷ []) x.log_place x.request) (of_conn k s.replies.waiting) answered_more (f.requests.conns k lt).replies

  -- ---- what was handed out is about the same requests

  about_same : (told : List ℕ) (event : ℕ) (out : Outgoing) → IsBefore r.both.box.sent out.sent → is_about event (record done_side { told = told }) out ≡ is_about event r out
  about_same told event out before =
      ap (λ v. v || elim (out.ticket) [ Some k ↦ is_ticket_of event (done_trace r.both.trace d status) k | None ↦ false ]) (by_sent out.sent before)
      ∙ ap (λ v. elim (out.sent) [ Some k ↦ elim (nth k r.answers) [ Some e ↦ e == event | None ↦ false ] | None ↦ false ] || v) (by_ticket out.ticket)
    where
      by_sent : (x : Option ℕ) → IsBefore r.both.box.sent x → ◌≡◌ {A = Bool} (elim x [ Some k ↦ elim (nth k (r.answers ++ d.arrival.event ∷ [])) [ Some e ↦ e == event | None ↦ false ] | None ↦ false ]) (elim x [ Some k ↦ elim (nth k r.answers) [ Some e ↦ e == event | None ↦ false ] | None ↦ false ])
      by_sent None k = refl
      by_sent (Some n) k = let many = f.requests.answers in ap (λ (x : Option ℕ). elim x as (λ (y : Option ℕ). Bool) [ Some e ↦ e == event | None ↦ false ]) (nth_before n r.answers (d.arrival.event ∷ []) (omega (arith, k, many)))

      by_ticket : (x : Option ℕ) → ◌≡◌ {A = Bool} (elim x [ Some k ↦ is_ticket_of event (done_trace r.both.trace d status) k | None ↦ false ]) (elim x [ Some k ↦ is_ticket_of event r.both.trace k | None ↦ false ])
      by_ticket None = refl
      by_ticket (Some k) = ap (list_any (λ (c : RulesCommand). is_of_event event c.arrival && c.ticket == k)) (entered_same r.both.trace d status)

  pub live_named_done : EachOf (IsLiveNamed names (done_trace r.both.trace d status)) (entered (done_trace r.both.trace d status))
  live_named_done = subst (EachOf (IsLiveNamed names (done_trace r.both.trace d status))) (sym (entered_same r.both.trace d status))
      (each-weaken (IsLiveNamed names r.both.trace) (IsLiveNamed names (done_trace r.both.trace d status)) (entered r.both.trace)
      (λ x k lives. k (or_parts (d.ticket == x.ticket) (has (leaves_ticket x.ticket) r.both.trace) (sym (left_too r.both.trace d status x.ticket) ∙ lives)).1) f.requests.live_named)

  -- ---- all of it

  pub requests_done : (told held : List ℕ) (items : List Command) → HaveCommands names (record done_side { told = told }) (outbox_after i names notes s r d status f) (map (restaged Over d.ticket) s.commands.items) items
      → AreRequests names notes f.pending f.gone (record (state_done i names notes s r d status f) { commands = record s.commands { items = items }; withheld = held }) (record done_side { told = told })
  requests_done told held items have = record {
    asked = f.requests.asked;
    noted = f.requests.noted;
    apart = f.requests.apart;
    kept = f.requests.kept;
    counted = f.requests.counted;
    uses = λ n.
        let set_there = lists_set (λ (x : WaitingReply). x.request == n) s.replies.waiting (p i names notes s r d status f) (of_conn (p i names notes s r d status f) s.replies.waiting ++ waiting i names notes s r d status f ∷ []) within_replies in
        let all = sum_by-append (λ (x : WaitingReply). cond (x.request == n) 1 0) (of_conn (p i names notes s r d status f) s.replies.waiting) (waiting i names notes s r d status f ∷ []) in
        omega (arith, set_there, all, count-cons (λ (x : WaitingReply). x.request == n) (waiting i names notes s r d status f) [], uses_over n, have.used n, f.requests.uses n);
    named = each-weaken (IsRequest s r.both.trace) (IsRequest s' (done_trace r.both.trace d status)) names (λ n q. record { held = is_held_same r.both.trace d status n.event ∙ q.held; waiting = q.waiting }) f.requests.named;
    noted_apart = each-weaken (IsNote s r.both.box.links) (IsNote s' (box_after i names notes s r d status f).links) notes
        (λ n q. record { held = q.held; waiting = q.waiting; home = same_homes r.both.box.links (box_after i names notes s r d status f).links n.conn (many_after i names notes s r d status f) (λ q' within. (same_after i names notes s r d status f q' (short_of q' within)).conn) q.home }) f.requests.noted_apart;
    tickets = ap are_apart (entered_same r.both.trace d status) ∙ f.requests.tickets;
    commands = have.commands;
    live_named = live_named_done;
    one_use = have.one_use;
    numbered = have.numbered;
    answers = (let long = length-append r.answers (d.arrival.event ∷ []) in let many = f.requests.answers in let more = sent_after i names notes s r d status f in omega (arith, long, many, more));
    once = once_now;
    last = (let long = length-append r.answers (d.arrival.event ∷ []) in let many = f.requests.answers in omega (arith, long, many));
    conns = λ q within.
        let short : q < length r.both.box.links = short_of q within in
        let c : IsConn names notes (f.gone q) s r q (link_in r.both.box.links q) = f.requests.conns q short in
        let same : SameOut (link_in r.both.box.links q) (link_in (box_after i names notes s r d status f).links q) = same_after i names notes s r d status f q short in
        record {
          replies = answered_on q short;
          queued = (queued_after i names notes s r d status f).queued q within;
          written = subst (λ hs. PairsOf (IsAbout names notes r' (link_in (box_after i names notes s r d status f).links q).conn) (of_conn q s.unwritten.handed) hs) (sym same.left)
              (subst (λ k. PairsOf (IsAbout names notes r' k) (of_conn q s.unwritten.handed) (left_to_write (link_in r.both.box.links q))) (sym same.conn)
              (pairs_each (IsAbout names notes r (link_in r.both.box.links q).conn) (IsAbout names notes r' (link_in r.both.box.links q).conn) (λ (h : Handed). IsBefore r.both.box.sent h.out.sent) (of_conn q s.unwritten.handed) (left_to_write (link_in r.both.box.links q))
              (λ x y before k. record { named = each-weaken (λ (n : Name). is_about n.event r y.out ≡ is_place n.place x) (λ (n : Name). is_about n.event r' y.out ≡ is_place n.place x) names (λ n e. about_same told n.event y.out before ∙ e) k.named; noted = k.noted })
              (each_left (λ (h : Handed). IsBefore r.both.box.sent h.out.sent) (link_in r.both.box.links q) (each-at (λ (l : Link). EachOf (λ (h : Handed). IsBefore r.both.box.sent h.out.sent) l.handed) r.both.box.links q (new_link 0) short f.fit.handed)) c.written));
          noted = notes_same notes (f.gone q) (link_in r.both.box.links q).conn (link_in (box_after i names notes s r d status f).links q).conn (of_conn q s.noted.handed) (of_conn q s.noted.handed) (noted_in (of_conn q s.unwritten.handed) (left_to_write (link_in r.both.box.links q)))
              (noted_in (of_conn q s.unwritten.handed) (left_to_write (link_in (box_after i names notes s r d status f).links q))) same.conn refl (ap (noted_in (of_conn q s.unwritten.handed)) same.left) c.noted;
        };
    undue = (queued_after i names notes s r d status f).undue_are;
  }
    where
      s' : State
      s' = record (state_done i names notes s r d status f) { commands = record s.commands { items = items }; withheld = held }

      r' : Side
      r' = record done_side { told = told }

      short_of : (q : ℕ) → q < length (box_after i names notes s r d status f).links → q < length r.both.box.links
      short_of q within = let many = many_after i names notes s r d status f in omega (arith, within, many)
