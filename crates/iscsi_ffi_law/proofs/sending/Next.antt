-- The next PDU of a connection is asked for.
use Rattle.std.proofs.Common.{◌≡◌, ℕ, zero, suc, ◌+◌, ◌*◌, ◌^◌, ◌%◌, ◌<◌, ◌≤◌, ◌&&◌, ⊎_elim, cond, nat_lt, Bool, true, false, List, [], ◌∷◌, ◌++◌, length, Option, Some, None, refl, ap, sym, subst, ◌∙◌, arith, lt-ltb, mul-suc}
use Rattle.std.proofs.lemmas.Bool.{false≢true}
use Rattle.iscsi_outbox_rules.specs.declared.own_pdu.OwnPdu.TheVariants.{OfCommand, OfConnection}
use Rattle.iscsi_outbox_rules.specs.rules.Calls as outbox
use Rattle.iscsi_outbox_rules.specs.rules.Boxes.{Box, Handed, Link, Notices, Outgoing, Owns, Pdu, Pings, Replies}
use Rattle.iscsi_outbox_rules.specs.rules.Handing.{Given, Hands, IsOver, Nothing, after_given, chosen, given, is_from_queue, link_of, nop_in, ping}
use Rattle.iscsi_outbox_rules.specs.rules.Run.{after_call}
use Rattle.iscsi_outbox_rules.specs.rules.Words.{is_open}
use Rattle.iscsi_outbox_rules.specs.promises.Scope.{nth}
use Rattle.iscsi_outbox_rules.proofs.general.Chosen.{Chosen, FromQueue, IsNotice, IsPing, chosen_from}
use Rattle.iscsi_outbox_law.specs.private.Commands.{is_under_way, link_in}
use Rattle.iscsi_outbox_law.specs.private.Pairs.{EachOf}
use Rattle.iscsi_outbox_law.specs.rules.Said.{handed_said, pdu_said}
use Rattle.iscsi_outbox_law.specs.private.Stands.{Stands as OutboxStands}
use Rattle.iscsi_outbox_law.proofs.sending.NextAfter.{nexts_stands}
use Rattle.iscsi_outbox_law.proofs.general.PlaceLemmas.{AreApart as LinksApart, IsPlace, conns_of, found_at}
use Rattle.iscsi_outbox_law.proofs.connections.Standing.{links_apart}
use Rattle.iscsi_outbox_law.proofs.commands.TurningCount.{call_last}
use Rattle.iscsi_outbox_steps.specs.declared.given.Pdu.{Pdu as StepsPdu}
use Rattle.iscsi_outbox_steps.specs.Steps.{is_running_ticket, next as handed_out}
use Rattle.iscsi_requests.specs.Conns.{count_all, of_conn, oldest}
use Rattle.iscsi_requests.specs.Cookies.{Cookies, cookie_at, uses_at, used_more}
use Rattle.iscsi_requests.specs.Replies.{WaitingReplies, taken, find_log_place}
use Rattle.iscsi_requests.specs.Unwritten.{Unwritten, popped, pushed}
use Rattle.iscsi_ffi_commands.specs.declared.command.Command.{Command}
use Rattle.iscsi_ffi_rules.specs.rules.Calls.{Interface}
use Rattle.iscsi_ffi_rules.specs.rules.Happening.{quiet}
use Rattle.iscsi_ffi_rules.specs.rules.Needs.{first_noted as rules_first, is_noted, without_first}
use Rattle.iscsi_ffi_rules.specs.rules.Run as rules
use Rattle.iscsi_ffi_rules.specs.rules.Run.{cids}
use Rattle.iscsi_ffi_rules.specs.rules.Sides.{Noted, Side, cookie_of}
use Rattle.iscsi_ffi_steps.specs.State.{State}
use Rattle.iscsi_ffi_steps.specs.Steps.{Answered, Goes, Side as StepsSide, going, hand_out, leaves_queue, pushed_with_room, request_handed, used_again}
use Rattle.iscsi_ffi_law.specs.Fit.{IsFit}
use Rattle.iscsi_ffi_law.specs.Names.{Note}
use Rattle.iscsi_ffi_law.specs.Parts.{IsKnownOut, IsOwnOut}
use Rattle.iscsi_ffi_law.specs.Stands.{Stands}
use Rattle.iscsi_ffi_law.proofs.calls.Changed.{changed_to}
use Rattle.iscsi_ffi_law.proofs.requests.Cookies.{place_used}
use Rattle.iscsi_ffi_law.proofs.calls.Ends.{EndsAlike, GoesTo, IsLeft, found_fit, left_fit, moved_ends}
use Rattle.iscsi_ffi_law.proofs.sending.Handing.{IsHandedOn, handed_ends}
use Rattle.iscsi_ffi_law.proofs.calls.Moved.{run_same, with_box}
use Rattle.iscsi_ffi_law.proofs.sending.Noting.{FirstNoted, first_noted, noted_handed, noted_word, notes_now}
use Rattle.iscsi_ffi_law.proofs.sending.Replying.{ItsRequest, its_request, reply_handed, reply_word}
use Rattle.iscsi_ffi_law.proofs.sending.Sources.{ItsCommand, command_handed, command_word, its_command, nop_handed, used_place}
use Rattle.iscsi_ffi_commands.specs.Commands.{find_ticket}
use Rattle.iscsi_ffi_law.proofs.calls.Finish.{as_many_links}

-- ---- room

-- as many stand on all connections as may, at the most
all_few : {X : Type 0} (m : ℕ) (lists : List (List X)) → EachOf (λ (xs : List X). length xs ≤ m) lists → count_all lists ≤ m * length lists
all_few m [] few = omega arith
all_few m (xs ∷ lists) few = let rest = all_few m lists few.1 in let here : length xs ≤ m = few.0 in let more : m * suc (length lists) ≡ m * length lists + m = mul-suc m (length lists) in omega (arith, rest, here, more)

pub all_fewer : {X : Type 0} (m : ℕ) (lists : List (List X)) (p : ℕ) → EachOf (λ (xs : List X). length xs ≤ m) lists → p < length lists → length (of_conn p lists) < m → count_all lists < m * length lists
all_fewer m [] p few within less = absurd (let none : ⊥ = omega (arith, within) in none)
all_fewer m (xs ∷ lists) zero few within less = let rest = all_few m lists few.1 in let more : m * suc (length lists) ≡ m * length lists + m = mul-suc m (length lists) in omega (arith, rest, less, more)
all_fewer m (xs ∷ lists) (suc p) few within less =
    let rest = all_fewer m lists p few.1 (omega (arith, within)) less in let here : length xs ≤ m = few.0 in let more : m * suc (length lists) ≡ m * length lists + m = mul-suc m (length lists) in omega (arith, rest, here, more)

pub nth_within : {A : Type 0} (k : ℕ) (xs : List A) (x : A) → nth k xs ≡ Some x → k < length xs
nth_within k [] x is = absurd cc
nth_within zero (y ∷ xs) x is = omega arith
nth_within (suc k) (y ∷ xs) x is = let rest = nth_within k xs x is in omega (arith, rest)

-- ---- a PDU

module _ (i : Interface) (s : StepsSide) (r : Side) (h : Stands i s r) (cid : ℕ) (fit : IsFit i r.both.box (after_call i.outbox r.both.box (outbox.Nexts cid)))
    (few_uses : (place : ℕ) → uses_at place s.state.cookies < 4294967295) (few_replies : r.both.box.sent < 2 ^ 64) where
  apart_links : LinksApart (conns_of r.both.box.links)
  apart_links = links_apart (is_under_way i.outbox r.both.box.links) i.outbox s.state.outbox r.both.box h.outbox fit.distinct

  -- nothing changes
  pub idle_ends : EndsAlike i (going s) r []
  idle_ends = moved_ends i s r h s.state.outbox r.both.box (found_fit i r.both.box (after_call i.outbox r.both.box (outbox.Nexts cid)) fit) h.outbox h.counts.tracked (λ k. refl) (record {
    long = refl;
    sent = refl;
    queued = λ p within. (h.requests.conns p within).queued;
    undue = h.requests.undue;
    conn = λ p within. refl;
    left = λ p within. refl;
  })

  module _ (p : ℕ) (at : IsPlace r.both.box.links cid p) (opens : is_open (link_in r.both.box.links p) ≡ true) (free : length (of_conn p s.state.unwritten.handed) < i.unwritten) (g : Handed)
      (gives : given i.outbox r.both.box cid ≡ Hands g) (picks : chosen i.outbox r.both.box (link_in r.both.box.links p) ≡ Some g.out) where
    abbrev l : Link
    l = link_in r.both.box.links p

    found : link_of r.both.box cid ≡ Some (link_in r.both.box.links p)
    found = found_at r.both.box.links cid p apart_links at.within at.is

    pub box_is : after_call i.outbox r.both.box (outbox.Nexts cid) ≡ after_given i.outbox r.both.box (link_in r.both.box.links p) g
    box_is =
        ap (λ (x : Option Link). elim x [ Some m ↦ elim (given i.outbox r.both.box cid) [ Hands k ↦ after_given i.outbox r.both.box m k | Nothing ↦ r.both.box | IsOver ↦ r.both.box ] | None ↦ r.both.box ]) found
        ∙ ap (λ (x : Given). elim x [ Hands k ↦ after_given i.outbox r.both.box (link_in r.both.box.links p) k | Nothing ↦ r.both.box | IsOver ↦ r.both.box ]) gives

    left : IsLeft i (after_given i.outbox r.both.box (link_in r.both.box.links p) g)
    left = subst (IsLeft i) box_is (left_fit i r.both.box (after_call i.outbox r.both.box (outbox.Nexts cid)) fit)

    stands : OutboxStands i.outbox (handed_out cid s.state.outbox) (after_given i.outbox r.both.box (link_in r.both.box.links p) g)
    stands = subst (OutboxStands i.outbox (handed_out cid s.state.outbox)) box_is (nexts_stands i.outbox s.state.outbox r.both.box h.outbox fit.sound fit.distinct fit.few cid)

    tracked : (handed_out cid s.state.outbox).tracked.last ≤ length (after_given i.outbox r.both.box (link_in r.both.box.links p) g).tasks
    tracked = subst (λ (b : Box). (handed_out cid s.state.outbox).tracked.last ≤ length b.tasks) box_is (call_last i.outbox s.state.outbox r.both.box (outbox.Nexts cid) h.counts.tracked tt)

    runs : (ticket : ℕ) → is_running_ticket ticket (handed_out cid s.state.outbox) ≡ is_running_ticket ticket s.state.outbox
    runs = run_same i s.state r (handed_out cid s.state.outbox) (after_given i.outbox r.both.box (link_in r.both.box.links p) g) h.outbox fit.sound stands left.sound fit.distinct (λ ticket. refl)

    -- there is room for it
    room_free : (x : Option ℕ) → pushed_with_room p x s.state.unwritten ≡ pushed p x s.state.unwritten
    room_free x =
        let long : length s.state.unwritten.handed ≡ length r.both.box.links = h.sizes.unwritten ∙ sym (as_many_links i s.state r h.outbox) in
        let fewer : count_all s.state.unwritten.handed < i.unwritten * length s.state.unwritten.handed = all_fewer i.unwritten s.state.unwritten.handed p h.sizes.few (omega (arith, at.within, long)) free in
        let room : s.state.unwritten.room ≡ i.unwritten * length s.state.unwritten.handed = h.sizes.unwritten_room ∙ ap (λ n. i.unwritten * n) (sym h.sizes.unwritten) in
        ap (λ v. cond v (pushed p x s.state.unwritten) s.state.unwritten) (lt-ltb (count_all s.state.unwritten.handed) s.state.unwritten.room (omega (arith, fewer, room)))

    -- what the steps do with it, and what the rules do
    abbrev handing : Option ℕ → State → Answered
    handing y t = record {
      going = record { event = s.event; trace = s.trace; doing = record { state = record t { outbox = handed_out cid t.outbox; unwritten = pushed_with_room p y t.unwritten }; actions = []; forgets = [] } };
      answer = Goes (handed_said g) (elim y [ Some place ↦ Some (cookie_at place s.state.cookies) | None ↦ None ]);
    }

    abbrev by_rules : rules.Answered
    by_rules = record { told = quiet (rules.handed_on cid g.out (with_box r (after_given i.outbox r.both.box (link_in r.both.box.links p) g))); answer = rules.Goes g (rules.cookie_handed r cid g.out) }

    handed_goes : (x : Option ℕ) (v : Cookies) (replies : WaitingReplies) (noted : Unwritten) (notes : List Note) (waiting handed : List Noted) → IsHandedOn i s r h p at.within opens g x v replies noted notes waiting handed
        → rules.handed_on cid g.out (with_box r (after_given i.outbox r.both.box (link_in r.both.box.links p) g)) ≡ record (with_box r (after_given i.outbox r.both.box (link_in r.both.box.links p) g)) { noted = waiting; handed_notes = handed }
        → elim x [ Some place ↦ Some (cookie_at place s.state.cookies) | None ↦ None ] ≡ rules.cookie_handed r cid g.out
        → GoesTo i (handing x (changed_to s.state s.state.outbox v replies noted s.state.unwritten)) by_rules
    handed_goes x v replies noted notes waiting handed c same word =
        let e = handed_ends i s r h p at.within opens g left (handed_out cid s.state.outbox) stands tracked runs x v replies noted notes waiting handed c free in
        subst (λ (u : Unwritten). GoesTo i (record {
          going = record { event = s.event; trace = s.trace; doing = record { state = changed_to s.state (handed_out cid s.state.outbox) v replies noted u; actions = []; forgets = [] } };
          answer = Goes (handed_said g) (elim x [ Some place ↦ Some (cookie_at place s.state.cookies) | None ↦ None ]);
        }) by_rules) (sym (room_free x))
        (subst (λ (t : Side). GoesTo i (record {
          going = record { event = s.event; trace = s.trace; doing = record { state = changed_to s.state (handed_out cid s.state.outbox) v replies noted (pushed p x s.state.unwritten); actions = []; forgets = [] } };
          answer = Goes (handed_said g) (elim x [ Some place ↦ Some (cookie_at place s.state.cookies) | None ↦ None ]);
        }) (record { told = quiet t; answer = rules.Goes g (rules.cookie_handed r cid g.out) })) (sym same) (record { answer = ap (Goes (handed_said g)) word; tells = e.tells; stands = e.stands }))

    -- what is no own PDU, or of a command, leaves their words
    words_same : is_noted g.out.pdu ≡ false → rules.handed_on cid g.out (with_box r (after_given i.outbox r.both.box (link_in r.both.box.links p) g)) ≡ with_box r (after_given i.outbox r.both.box (link_in r.both.box.links p) g)
    words_same plain =
        ap (λ v. cond v (record (with_box r (after_given i.outbox r.both.box (link_in r.both.box.links p) g)) { noted = without_first cid 1 r.noted; handed_notes = r.handed_notes ++ rules_first cid 1 r.noted })
        (with_box r (after_given i.outbox r.both.box (link_in r.both.box.links p) g))) plain

    -- ---- where it comes from

    word_of : (x : Option ℕ) → g.out.sent ≡ None → g.out.ticket ≡ None → is_noted g.out.pdu ≡ false → None ≡ rules.cookie_handed r cid g.out
    word_of x sent ticket plain = sym (
        ap (λ (y : Option ℕ). elim y [ Some place ↦ elim (nth place r.answers) [ Some event ↦ Some (cookie_of r.asked event) | None ↦ None ] | None ↦ elim (g.out.ticket) [ Some k ↦ rules.cookie_of_ticket r k | None ↦ cond (is_noted g.out.pdu) (rules.cookie_noted r cid) None ] ]) sent
        ∙ ap (λ (y : Option ℕ). elim y [ Some k ↦ rules.cookie_of_ticket r k | None ↦ cond (is_noted g.out.pdu) (rules.cookie_noted r cid) None ]) ticket
        ∙ ap (λ v. cond v (rules.cookie_noted r cid) None) plain)

    nop_goes : g.out.sent ≡ None → g.out.ticket ≡ None → is_noted g.out.pdu ≡ false → is_from_queue g.out ≡ false → GoesTo i (handing None s.state) by_rules
    nop_goes sent ticket plain aside = handed_goes None s.state.cookies s.state.replies s.state.noted h.notes r.noted r.handed_notes (nop_handed i s r h p at.within opens g sent ticket plain aside) (words_same plain) (word_of None sent ticket plain)

    module _ (rest : List Outgoing) (queue : (link_in r.both.box.links p).queue ≡ g.out ∷ rest) where
      known_first : IsKnownOut h.names r.both.trace r.answers g.out
      known_first = (subst (EachOf (IsKnownOut h.names r.both.trace r.answers)) queue (h.requests.conns p at.within).queued.known).0

      reply_goes : (k : ℕ) → g.out.sent ≡ Some k → is_noted g.out.pdu ≡ false → is_from_queue g.out ≡ true → GoesTo i (handing (find_log_place (k % 2 ^ 64) s.state.replies) (record s.state { replies = taken (k % 2 ^ 64) s.state.replies })) by_rules
      reply_goes k sent plain from =
          let c : ItsRequest i s r h p at.within opens g k sent plain from rest queue = its_request i s r h p at.within opens g k sent plain from rest queue in
          let below : k < length r.answers = nth_within k r.answers c.event c.answers in
          let small : k < 2 ^ 64 = omega (arith, below, h.requests.answers, few_replies) in
          let same : k % 2 ^ 64 ≡ k = omega (arith, small) in
          subst (λ m. GoesTo i (handing (find_log_place m s.state.replies) (record s.state { replies = taken m s.state.replies })) by_rules) (sym same)
          (subst (λ (y : Option ℕ). GoesTo i (handing y (record s.state { replies = taken k s.state.replies })) by_rules) (sym c.found)
          (handed_goes (Some c.place) s.state.cookies (taken k s.state.replies) s.state.noted h.notes r.noted r.handed_notes (reply_handed i s r h p at.within opens g k sent plain from rest queue c) (words_same plain)
          (sym (ap (λ (y : Option ℕ). elim y [ Some place ↦ elim (nth place r.answers) [ Some event ↦ Some (cookie_of r.asked event) | None ↦ None ] | None ↦ elim (g.out.ticket) [ Some t ↦ rules.cookie_of_ticket r t | None ↦ cond (is_noted g.out.pdu) (rules.cookie_noted r cid) None ] ]) sent
          ∙ reply_word i s r h p at.within opens g k sent plain from rest queue c))))

      command_goes : (k : ℕ) → g.out.sent ≡ None → g.out.ticket ≡ Some k → is_noted g.out.pdu ≡ false → is_from_queue g.out ≡ true
          → GoesTo i (let y : Option ℕ = elim (find_ticket k s.state.commands) [ Some c ↦ Some c.request | None ↦ None ] in handing y (elim y [ Some place ↦ used_again place s.state | None ↦ s.state ])) by_rules
      command_goes k sent ticket plain from =
          let c : ItsCommand i s r h p at.within opens g k sent ticket plain from rest queue = its_command i s r h p at.within opens g k sent ticket plain from rest queue in
          let used : 1 ≤ uses_at c.c.request s.state.cookies = used_place i s r h p at.within opens g k sent ticket plain from rest queue c in
          let again : used_again c.c.request s.state ≡ record s.state { cookies = used_more c.c.request s.state.cookies }
          = ap (λ v. cond (v && nat_lt (uses_at c.c.request s.state.cookies) 4294967295) (record s.state { cookies = used_more c.c.request s.state.cookies }) s.state) (place_used s.state.cookies h.requests.counted c.c.request used)
          ∙ ap (λ v. cond v (record s.state { cookies = used_more c.c.request s.state.cookies }) s.state) (lt-ltb (uses_at c.c.request s.state.cookies) 4294967295 (few_uses c.c.request)) in
          subst (λ (x : Option Command). GoesTo i (let y : Option ℕ = elim x [ Some d ↦ Some d.request | None ↦ None ] in handing y (elim y [ Some place ↦ used_again place s.state | None ↦ s.state ])) by_rules) (sym c.found)
          (subst (λ (t : State). GoesTo i (handing (Some c.c.request) t) by_rules) (sym again)
          (handed_goes (Some c.c.request) (used_more c.c.request s.state.cookies) s.state.replies s.state.noted h.notes r.noted r.handed_notes (command_handed i s r h p at.within opens g k sent ticket plain from rest queue c) (words_same plain)
          (sym (ap (λ (y : Option ℕ). elim y [ Some place ↦ elim (nth place r.answers) [ Some event ↦ Some (cookie_of r.asked event) | None ↦ None ] | None ↦ elim (g.out.ticket) [ Some t ↦ rules.cookie_of_ticket r t | None ↦ cond (is_noted g.out.pdu) (rules.cookie_noted r cid) None ] ]) sent
          ∙ ap (λ (y : Option ℕ). elim y [ Some t ↦ rules.cookie_of_ticket r t | None ↦ cond (is_noted g.out.pdu) (rules.cookie_noted r cid) None ]) ticket
          ∙ command_word i s r h p at.within opens g k sent ticket plain from rest queue c))))

      noted_goes : g.out.sent ≡ None → g.out.ticket ≡ None → is_noted g.out.pdu ≡ true → is_from_queue g.out ≡ true
          → GoesTo i (handing (elim (oldest (of_conn p s.state.noted.handed)) [ Some request ↦ request | None ↦ None ]) (record s.state { noted = popped p s.state.noted })) by_rules
      noted_goes sent ticket own from =
          let f : FirstNoted i s r h p at.within opens g apart_links sent ticket own from rest queue = first_noted i s r h p at.within opens g apart_links sent ticket own from rest queue in
          subst (λ (ys : List (Option ℕ)). GoesTo i (handing (elim (oldest ys) [ Some request ↦ request | None ↦ None ]) (record s.state { noted = popped p s.state.noted })) by_rules) (sym f.waiting)
          (handed_goes (Some f.place) s.state.cookies s.state.replies (popped p s.state.noted) (notes_now i s r h p at.within opens g apart_links sent ticket own from rest queue f) (without_first (link_in r.both.box.links p).conn 1 r.noted) (r.handed_notes ++ rules_first (link_in r.both.box.links p).conn 1 r.noted)
          (noted_handed i s r h p at.within opens g apart_links sent ticket own from rest queue f) words_move
          (sym (ap (λ (y : Option ℕ). elim y [ Some place ↦ elim (nth place r.answers) [ Some event ↦ Some (cookie_of r.asked event) | None ↦ None ] | None ↦ elim (g.out.ticket) [ Some t ↦ rules.cookie_of_ticket r t | None ↦ cond (is_noted g.out.pdu) (rules.cookie_noted r cid) None ] ]) sent
          ∙ ap (λ (y : Option ℕ). elim y [ Some t ↦ rules.cookie_of_ticket r t | None ↦ cond (is_noted g.out.pdu) (rules.cookie_noted r cid) None ]) ticket
          ∙ ap (λ v. cond v (rules.cookie_noted r cid) None) own
          ∙ ap (rules.cookie_noted r) (sym at.is) ∙ noted_word i s r h p at.within opens g apart_links sent ticket own from rest queue f)))
        where
          moves : Bool → ℕ → Side
          moves v conn = cond v (record (with_box r (after_given i.outbox r.both.box (link_in r.both.box.links p) g)) { noted = without_first conn 1 r.noted; handed_notes = r.handed_notes ++ rules_first conn 1 r.noted })
              (with_box r (after_given i.outbox r.both.box (link_in r.both.box.links p) g))

          words_move : rules.handed_on cid g.out (with_box r (after_given i.outbox r.both.box (link_in r.both.box.links p) g)) ≡ moves true (link_in r.both.box.links p).conn
          words_move = ap (λ v. moves v cid) own ∙ ap (moves true) (sym at.is)

      -- by its kind
      queue_goes : (P : Pdu) → g.out.pdu ≡ P → (sn : Option ℕ) → g.out.sent ≡ sn → (tk : Option ℕ) → g.out.ticket ≡ tk → IsOwnOut P tk sn
          → GoesTo i (handing (request_handed s.state p (pdu_said P sn)) (leaves_queue p (pdu_said P sn) (request_handed s.state p (pdu_said P sn)) s.state)) by_rules
      queue_goes (Replies reply) is None sent tk ticket own = absurd (false≢true own)
      queue_goes (Replies reply) is (Some k) sent tk ticket own = reply_goes k sent (ap is_noted is) (ap (λ (P : Pdu). elim P [ Replies x ↦ true | Owns x ↦ true | Pings x ↦ false | Notices ↦ false ]) is)
      queue_goes (Owns (OfCommand k header)) is sn sent tk ticket own = command_goes k (sent ∙ own.1) (ticket ∙ own.0) (ap is_noted is) (ap (λ (P : Pdu). elim P [ Replies x ↦ true | Owns x ↦ true | Pings x ↦ false | Notices ↦ false ]) is)
      queue_goes (Owns (OfConnection conn header)) is sn sent tk ticket own = noted_goes (sent ∙ own.1) (ticket ∙ own.0) (ap is_noted is) (ap (λ (P : Pdu). elim P [ Replies x ↦ true | Owns x ↦ true | Pings x ↦ false | Notices ↦ false ]) is)
      queue_goes (Pings tag) is sn sent tk ticket own = absurd own
      queue_goes Notices is sn sent tk ticket own = absurd own

    plain_goes : (out : Outgoing) → g.out ≡ out → out.sent ≡ None → out.ticket ≡ None → (P : Pdu) → out.pdu ≡ P → is_noted P ≡ false → elim P [ Replies x ↦ true | Owns x ↦ true | Pings x ↦ false | Notices ↦ false ] ≡ false
        → GoesTo i (hand_out cid p (handed_said g) s) by_rules
    plain_goes out is sent ticket (Replies reply) pdu plain aside = absurd (false≢true (sym aside))
    plain_goes out is sent ticket (Owns own) pdu plain aside = absurd (false≢true (sym aside))
    plain_goes out is sent ticket (Pings tag) pdu plain aside =
        subst (λ (P : StepsPdu). GoesTo i (handing (request_handed s.state p P) (leaves_queue p P (request_handed s.state p P) s.state)) by_rules) (sym (ap (λ (o : Outgoing). pdu_said o.pdu o.sent) is ∙ ap (λ (P : Pdu). pdu_said P out.sent) pdu))
        (nop_goes (ap (λ (o : Outgoing). o.sent) is ∙ sent) (ap (λ (o : Outgoing). o.ticket) is ∙ ticket) (ap (λ (o : Outgoing). is_noted o.pdu) is ∙ ap is_noted pdu) (ap is_from_queue is ∙ ap (λ (P : Pdu). elim P [ Replies x ↦ true | Owns x ↦ true | Pings x ↦ false | Notices ↦ false ]) pdu))
    plain_goes out is sent ticket Notices pdu plain aside =
        subst (λ (P : StepsPdu). GoesTo i (handing (request_handed s.state p P) (leaves_queue p P (request_handed s.state p P) s.state)) by_rules) (sym (ap (λ (o : Outgoing). pdu_said o.pdu o.sent) is ∙ ap (λ (P : Pdu). pdu_said P out.sent) pdu))
        (nop_goes (ap (λ (o : Outgoing). o.sent) is ∙ sent) (ap (λ (o : Outgoing). o.ticket) is ∙ ticket) (ap (λ (o : Outgoing). is_noted o.pdu) is ∙ ap is_noted pdu) (ap is_from_queue is ∙ ap (λ (P : Pdu). elim P [ Replies x ↦ true | Owns x ↦ true | Pings x ↦ false | Notices ↦ false ]) pdu))

    pub hand_out_goes : GoesTo i (hand_out cid p (handed_said g) s) by_rules
    hand_out_goes =
        let c : Chosen i.outbox r.both.box (link_in r.both.box.links p) g.out = chosen_from i.outbox r.both.box (link_in r.both.box.links p) g.out picks in
        ⊎_elim
        (λ (q : FromQueue i.outbox r.both.box (link_in r.both.box.links p) g.out). queue_goes q.rest q.queue_is g.out.pdu refl g.out.sent refl g.out.ticket refl (known_first q.rest q.queue_is).own)
        (λ others. ⊎_elim
        (λ (n : IsPing i.outbox r.both.box (link_in r.both.box.links p) g.out). plain_goes (ping r.both.box (link_in r.both.box.links p)) n.is refl refl (ping r.both.box (link_in r.both.box.links p)).pdu refl refl refl)
        (λ (n : IsNotice i.outbox r.both.box (link_in r.both.box.links p) g.out). plain_goes (nop_in r.both.box Notices) n.is refl refl Notices refl refl refl) others) c.source
