-- An item by which a Logout closes: commands leave, held requests are taken out, it is answered, and then a connection is closed, or the session, or both.
use Rattle.std.proofs.Common.{◌≡◌, ℕ, ◌==◌, ◌||◌, cond, Bool, true, false, List, [], ◌∷◌, ◌++◌, map, filter_map, Option, Some, None, refl, ap, sym, ◌∙◌}
use Rattle.iscsi_ffi_law.specs.Arrived.{emptying}
use Rattle.iscsi_ffi_law.proofs.logouts.ClosingBox.{IsPartingPart}
use Rattle.iscsi_ffi_law.proofs.logouts.ClosingTrace.{closes_admitted, closes_each, closes_held, closes_waits, waiting_off}
use Rattle.iscsi_outbox_rules.specs.rules.Items.{conns_closed, executing, reply_sent as sent_by, task_entered, ticket_enabled, ticket_left, tickets_left}
use Rattle.iscsi_outbox_rules.specs.rules.Boxes.{Link}
use Rattle.iscsi_wire.specs.declared.request.Request.{Request}
use Rattle.iscsi_rules.proofs.general.BoolLemmas.{or_false}
use Rattle.std.specs.List.{cons_option, flat_map, list_any}
use Rattle.std.proofs.lemmas.List.{append-nil}
use Rattle.iscsi_wire.specs.declared.reply.Reply.{Reply}
use Rattle.iscsi_wire.specs.Fields.{connection_of}
use Rattle.iscsi_wire.specs.Serial.{wire}
use Rattle.iscsi_rules.specs.declared.effect.Effect.{Effect}
use Rattle.iscsi_rules.specs.declared.effect.Effect.TheVariants.{CloseConn, CloseSession, Empty, Send, Deliver, Immediate, Leave}
use Rattle.iscsi_rules.specs.promises.Replies.{executed_in, reply_sent}
use Rattle.iscsi_rules.specs.rules.Run.{effects_of_item, effects_of_mark, newly_enabled, stat_sn_of}
use Rattle.iscsi_rules.specs.rules.Settings.{Setting}
use Rattle.iscsi_rules.specs.rules.Trace.{Arrival, ClosesConn, ClosesSession, Command, Empties, Leaves, Mark, Sends, Trace, admits_at, delivers_number, empties_number, enters, first_of, held, is_among, is_delivered, is_emptied, leaves_ticket, number_received, shown, waiting, waiting_through}
use Rattle.iscsi_rules.proofs.items.Forms.{AfterWaiting, AtArrival, AtTurn, Start, start_mark}
use Rattle.iscsi_ffi_rules.specs.rules.Happening.{answers_in, leaving}
use Rattle.iscsi_ffi_rules.specs.rules.Needs.{admitted_by}
use Rattle.iscsi_ffi_law.proofs.completions.DoneShape.{enables, enabled_tickets, gives_none, shows_none, tickets_of}
use Rattle.iscsi_ffi_law.proofs.aborts.Leaving.{leave_effects}
use Rattle.iscsi_ffi_law.proofs.items.Plain.{plain_item, start_effect}
use Rattle.iscsi_ffi_law.proofs.items.TakingOut.{empty_effects, emptied_by}

-- a connection that is closed
abbrev pub as_conns : Option ℕ → List ℕ
as_conns (Some conn) = conn ∷ []
as_conns None = []

-- what closes: a connection, and the session
abbrev pub close_marks : Option ℕ → Bool → List Mark
close_marks closing ends = map ClosesConn (as_conns closing) ++ cond ends (ClosesSession ∷ []) []

abbrev pub parted_marks : Arrival → List Command → List Arrival → Reply → Option ℕ → Bool → List Mark
parted_marks a cs bs reply closing ends = map Leaves cs ++ (map Empties bs ++ (Sends (connection_of a.request) reply ∷ close_marks closing ends))

abbrev pub parted_item : Start → Arrival → List Command → List Arrival → Reply → Option ℕ → Bool → List Mark
parted_item start a cs bs reply closing ends = start_mark start a ∷ parted_marks a cs bs reply closing ends

-- .. and its effects
abbrev pub close_effects : Option ℕ → Bool → List Effect
close_effects closing ends = map CloseConn (as_conns closing) ++ cond ends (CloseSession ∷ []) []

abbrev pub parted_effects : ℕ → Start → Arrival → List Command → List Arrival → Reply → Option ℕ → Bool → List Command → List Effect
parted_effects sn start a cs bs reply closing ends ns = start_effect start a.request ∷ (leave_effects cs ++ (map (λ (b : Arrival). Empty (wire b.number)) bs ++ (Send (connection_of a.request) sn reply ∷ (close_effects closing ends ++ enables ns))))

-- ---- what is seen of its marks

module _ {A : Type 0} (f : Mark → Option A) (leaves : (c : Command) → f (Leaves c) ≡ None) where
  past_leaves : (cs : List Command) (ms : List Mark) → filter_map f (map Leaves cs ++ ms) ≡ filter_map f ms
  past_leaves [] ms = refl
  past_leaves (c ∷ cs) ms = ap (λ x. cons_option x (filter_map f (map Leaves cs ++ ms))) (leaves c) ∙ past_leaves cs ms

module _ {A : Type 0} (f : Mark → Option A) (empties : (b : Arrival) → f (Empties b) ≡ None) where
  past_empties : (bs : List Arrival) (ms : List Mark) → filter_map f (map Empties bs ++ ms) ≡ filter_map f ms
  past_empties [] ms = refl
  past_empties (b ∷ bs) ms = ap (λ x. cons_option x (filter_map f (map Empties bs ++ ms))) (empties b) ∙ past_empties bs ms

module _ (p : Mark → Bool) (leaves : (c : Command) → p (Leaves c) ≡ false) where
  any_past_leaves : (cs : List Command) (ms : List Mark) → list_any p (map Leaves cs ++ ms) ≡ list_any p ms
  any_past_leaves [] ms = refl
  any_past_leaves (c ∷ cs) ms = ap (λ v. v || list_any p (map Leaves cs ++ ms)) (leaves c) ∙ any_past_leaves cs ms

module _ (p : Mark → Bool) (empties : (b : Arrival) → p (Empties b) ≡ false) where
  any_past_empties : (bs : List Arrival) (ms : List Mark) → list_any p (map Empties bs ++ ms) ≡ list_any p ms
  any_past_empties [] ms = refl
  any_past_empties (b ∷ bs) ms = ap (λ v. v || list_any p (map Empties bs ++ ms)) (empties b) ∙ any_past_empties bs ms

leaves_seen : (cs : List Command) (ms : List Mark) → filter_map leaving ms ≡ [] → filter_map leaving (map Leaves cs ++ ms) ≡ cs
leaves_seen [] ms none = none
leaves_seen (c ∷ cs) ms none = ap (λ xs. c ∷ xs) (leaves_seen cs ms none)

tickets_seen : (k : ℕ) (cs : List Command) (ms : List Mark) → list_any (leaves_ticket k) ms ≡ false → list_any (leaves_ticket k) (map Leaves cs ++ ms) ≡ is_among k cs
tickets_seen k [] ms none = none
tickets_seen k (c ∷ cs) ms none = ap (λ v. (c.ticket == k) || v) (tickets_seen k cs ms none)

empties_seen : (n : ℕ) (bs : List Arrival) (ms : List Mark) → list_any (empties_number n) ms ≡ false → list_any (empties_number n) (map Empties bs ++ ms) ≡ list_any (λ (b : Arrival). b.number == n) bs
empties_seen n [] ms none = none
empties_seen n (b ∷ bs) ms none = ap (λ v. (b.number == n) || v) (empties_seen n bs ms none)

waits_past_leaves : (cs : List Command) (ms : List Mark) (ws : List Arrival) → waiting_through (map Leaves cs ++ ms) ws ≡ waiting_through ms ws
waits_past_leaves [] ms ws = refl
waits_past_leaves (c ∷ cs) ms ws = waits_past_leaves cs ms ws

waits_past_empties : (bs : List Arrival) (ms : List Mark) (ws : List Arrival) → waiting_through (map Empties bs ++ ms) ws ≡ waiting_through ms ws
waits_past_empties [] ms ws = refl
waits_past_empties (b ∷ bs) ms ws = waits_past_empties bs ms ws

-- the last ones
abbrev last_marks : ℕ → Reply → Option ℕ → Bool → List Mark
last_marks cid reply closing ends = Sends cid reply ∷ close_marks closing ends

module _ {A : Type 0} (f : Mark → Option A) (sends : (cid : ℕ) (reply : Reply) → f (Sends cid reply) ≡ None) (closes : (cid : ℕ) → f (ClosesConn cid) ≡ None) (session : f ClosesSession ≡ None) where
  none_last : (cid : ℕ) (reply : Reply) (closing : Option ℕ) (ends : Bool) → filter_map f (last_marks cid reply closing ends) ≡ []
  none_last cid reply closing ends = ap (λ x. cons_option x (filter_map f (close_marks closing ends))) (sends cid reply) ∙ by_closing closing ends
    where
      by_ends : (e : Bool) → filter_map f (cond e (ClosesSession ∷ []) []) ≡ []
      by_ends true = ap (λ x. cons_option x []) session
      by_ends false = refl

      by_closing : (c : Option ℕ) (e : Bool) → filter_map f (close_marks c e) ≡ []
      by_closing (Some conn) e = ap (λ x. cons_option x (filter_map f (cond e (ClosesSession ∷ []) []))) (closes conn) ∙ by_ends e
      by_closing None e = by_ends e

module _ (p : Mark → Bool) (sends : (cid : ℕ) (reply : Reply) → p (Sends cid reply) ≡ false) (closes : (cid : ℕ) → p (ClosesConn cid) ≡ false) (session : p ClosesSession ≡ false) where
  never_last : (cid : ℕ) (reply : Reply) (closing : Option ℕ) (ends : Bool) → list_any p (last_marks cid reply closing ends) ≡ false
  never_last cid reply closing ends = ap (λ v. v || list_any p (close_marks closing ends)) (sends cid reply) ∙ by_closing closing ends
    where
      by_ends : (e : Bool) → list_any p (cond e (ClosesSession ∷ []) []) ≡ false
      by_ends true = ap (λ v. v || false) session
      by_ends false = refl

      by_closing : (c : Option ℕ) (e : Bool) → list_any p (close_marks c e) ≡ false
      by_closing (Some conn) e = ap (λ v. v || list_any p (cond e (ClosesSession ∷ []) [])) (closes conn) ∙ by_ends e
      by_closing None e = by_ends e

-- ---- what the trace has as requests are taken out

abbrev if_held : Bool → List Arrival → Option Arrival
if_held v xs = cond v None (first_of xs)

emptied_admitted : (bs : List Arrival) (u : Trace) → shown admitted_by (emptied_by bs u) ≡ shown admitted_by u
emptied_admitted [] u = refl
emptied_admitted (b ∷ bs) u = emptied_admitted bs ((Empties b ∷ []) ∷ u) ∙ append-nil (shown admitted_by u)

emptied_waits : (bs : List Arrival) (u : Trace) → waiting (emptied_by bs u) ≡ waiting u
emptied_waits [] u = refl
emptied_waits (b ∷ bs) u = emptied_waits bs ((Empties b ∷ []) ∷ u)

emptied_held : (bs : List Arrival) (u : Trace) (n : ℕ) → held (emptied_by bs u) n ≡ if_held (is_delivered u n || (list_any (λ (b : Arrival). b.number == n) bs || is_emptied u n)) (shown (admits_at n) u)
emptied_held [] u n = refl
emptied_held (b ∷ bs) u n =
    emptied_held bs ((Empties b ∷ []) ∷ u) n
    ∙ ap (if_held (is_delivered u n || (list_any (λ (x : Arrival). x.number == n) bs || (((b.number == n) || false) || is_emptied u n)))) (append-nil (shown (admits_at n) u))
    ∙ ap (λ v. if_held (is_delivered u n || v) (shown (admits_at n) u)) (turned (list_any (λ (x : Arrival). x.number == n) bs) (b.number == n) (is_emptied u n))
  where
    turned : (x y z : Bool) → (x || ((y || false) || z)) ≡ ((y || x) || z)
    turned true true z = refl
    turned true false z = refl
    turned false true z = refl
    turned false false z = refl

module _ (start : Start) (a : Arrival) (cs : List Command) (bs : List Arrival) (reply : Reply) (closing : Option ℕ) (ends : Bool) where
  abbrev cid : ℕ
  cid = connection_of a.request

  abbrev last : List Mark
  last = last_marks (connection_of a.request) reply closing ends

  -- no number is received
  pub receives_parted : start ≡ AtArrival → filter_map number_received (parted_item start a cs bs reply closing ends) ≡ []
  receives_parted is =
      ap (λ x. filter_map number_received (parted_item x a cs bs reply closing ends)) is
      ∙ past_leaves number_received (λ c. refl) cs (map Empties bs ++ last) ∙ past_empties number_received (λ b. refl) bs last ∙ none_last number_received (λ x y. refl) (λ x. refl) refl cid reply closing ends

  pub enters_parted : filter_map enters (parted_item start a cs bs reply closing ends) ≡ []
  enters_parted = by_start start
    where
      rest : filter_map enters (parted_marks a cs bs reply closing ends) ≡ []
      rest = past_leaves enters (λ c. refl) cs (map Empties bs ++ last) ∙ past_empties enters (λ b. refl) bs last ∙ none_last enters (λ x y. refl) (λ x. refl) refl cid reply closing ends

      by_start : (x : Start) → filter_map enters (parted_item x a cs bs reply closing ends) ≡ []
      by_start AtTurn = rest
      by_start AtArrival = rest
      by_start AfterWaiting = rest

  pub leaving_parted : filter_map leaving (parted_item start a cs bs reply closing ends) ≡ cs
  leaving_parted = by_start start
    where
      rest : filter_map leaving (parted_marks a cs bs reply closing ends) ≡ cs
      rest = leaves_seen cs (map Empties bs ++ last) (past_empties leaving (λ b. refl) bs last ∙ none_last leaving (λ x y. refl) (λ x. refl) refl cid reply closing ends)

      by_start : (x : Start) → filter_map leaving (parted_item x a cs bs reply closing ends) ≡ cs
      by_start AtTurn = rest
      by_start AtArrival = rest
      by_start AfterWaiting = rest

  pub tickets_parted : (k : ℕ) → list_any (leaves_ticket k) (parted_item start a cs bs reply closing ends) ≡ is_among k cs
  tickets_parted k = by_start start
    where
      rest : list_any (leaves_ticket k) (parted_marks a cs bs reply closing ends) ≡ is_among k cs
      rest = tickets_seen k cs (map Empties bs ++ last) (any_past_empties (leaves_ticket k) (λ b. refl) bs last ∙ never_last (leaves_ticket k) (λ x y. refl) (λ x. refl) refl cid reply closing ends)

      by_start : (x : Start) → list_any (leaves_ticket k) (parted_item x a cs bs reply closing ends) ≡ is_among k cs
      by_start AtTurn = rest
      by_start AtArrival = rest
      by_start AfterWaiting = rest

  pub executed_parted : executed_in (parted_item start a cs bs reply closing ends) ≡ Some a
  executed_parted = by_start start
    where
      by_start : (x : Start) → executed_in (parted_item x a cs bs reply closing ends) ≡ Some a
      by_start AtTurn = refl
      by_start AtArrival = refl
      by_start AfterWaiting = refl

  -- what is admitted, and what is held
  pub admits_parted : (start' : Start) → filter_map admitted_by (parted_item start' a cs bs reply closing ends) ≡ []
  admits_parted x = by_start x
    where
      rest : filter_map admitted_by (parted_marks a cs bs reply closing ends) ≡ []
      rest = past_leaves admitted_by (λ c. refl) cs (map Empties bs ++ last) ∙ past_empties admitted_by (λ b. refl) bs last ∙ none_last admitted_by (λ u y. refl) (λ u. refl) refl cid reply closing ends

      by_start : (y : Start) → filter_map admitted_by (parted_item y a cs bs reply closing ends) ≡ []
      by_start AtTurn = rest
      by_start AtArrival = rest
      by_start AfterWaiting = rest

  pub answers_parted : (event : ℕ) → answers_in event (parted_item start a cs bs reply closing ends) ≡ a.event ∷ []
  answers_parted event = by_start start
    where
      by_ends : (c : Option ℕ) (e : Bool) → filter_map reply_sent (last_marks cid reply c e) ≡ reply ∷ []
      by_ends (Some conn) true = refl
      by_ends (Some conn) false = refl
      by_ends None true = refl
      by_ends None false = refl

      rest : filter_map reply_sent (parted_marks a cs bs reply closing ends) ≡ reply ∷ []
      rest = past_leaves reply_sent (λ c. refl) cs (map Empties bs ++ last) ∙ past_empties reply_sent (λ b. refl) bs last ∙ by_ends closing ends

      by_start : (x : Start) → answers_in event (parted_item x a cs bs reply closing ends) ≡ a.event ∷ []
      by_start AtTurn = ap (map (λ (r : Reply). a.event)) rest
      by_start AtArrival = ap (map (λ (r : Reply). a.event)) rest
      by_start AfterWaiting = ap (map (λ (r : Reply). a.event)) rest

  -- ---- what the trace has behind it

  module _ (t : Trace) where
    abbrev begun_trace : Trace
    begun_trace = plain_item start a None None None ∷ t

    -- each that is taken out, and then these are closed
    abbrev pub parted_trace : List ℕ → Trace
    parted_trace conns = closes_each conns (emptied_by bs begun_trace)

    pub admitted_parted : (conns : List ℕ) → shown admitted_by (parted_item start a cs bs reply closing ends ∷ t) ≡ shown admitted_by (parted_trace conns)
    admitted_parted conns =
        ap (λ xs. shown admitted_by t ++ xs) (admits_parted start) ∙ append-nil (shown admitted_by t)
        ∙ sym (closes_admitted conns (emptied_by bs begun_trace) ∙ emptied_admitted bs begun_trace ∙ by_start start)
      where
        by_start : (x : Start) → shown admitted_by (plain_item x a None None None ∷ t) ≡ shown admitted_by t
        by_start AtTurn = append-nil (shown admitted_by t)
        by_start AtArrival = append-nil (shown admitted_by t)
        by_start AfterWaiting = append-nil (shown admitted_by t)

    pub held_parted : (conns : List ℕ) (n : ℕ) → held (parted_item start a cs bs reply closing ends ∷ t) n ≡ held (parted_trace conns) n
    held_parted conns n =
        by_start start
        ∙ sym (closes_held conns (emptied_by bs begun_trace) n ∙ emptied_held bs begun_trace n ∙ begun_held start)
      where
        empties : list_any (empties_number n) (parted_marks a cs bs reply closing ends) ≡ list_any (λ (b : Arrival). b.number == n) bs
        empties = any_past_leaves (empties_number n) (λ c. refl) cs (map Empties bs ++ last) ∙ empties_seen n bs last (never_last (empties_number n) (λ x y. refl) (λ x. refl) refl cid reply closing ends)

        delivers : list_any (delivers_number n) (parted_marks a cs bs reply closing ends) ≡ false
        delivers = any_past_leaves (delivers_number n) (λ c. refl) cs (map Empties bs ++ last) ∙ any_past_empties (delivers_number n) (λ b. refl) bs last ∙ never_last (delivers_number n) (λ x y. refl) (λ x. refl) refl cid reply closing ends

        admits : filter_map (admits_at n) (parted_marks a cs bs reply closing ends) ≡ []
        admits = past_leaves (admits_at n) (λ c. refl) cs (map Empties bs ++ last) ∙ past_empties (admits_at n) (λ b. refl) bs last ∙ none_last (admits_at n) (λ x y. refl) (λ x. refl) refl cid reply closing ends

        by_start : (x : Start) → held (parted_item x a cs bs reply closing ends ∷ t) n ≡ if_held (((elim x [ AtTurn ↦ a.number == n | AtArrival ↦ false | AfterWaiting ↦ false ]) || is_delivered t n) || (list_any (λ (b : Arrival). b.number == n) bs || is_emptied t n)) (shown (admits_at n) t)
        by_start AtTurn =
            ap (λ v. if_held ((((a.number == n) || v) || is_delivered t n) || (list_any (empties_number n) (parted_marks a cs bs reply closing ends) || is_emptied t n)) (shown (admits_at n) t ++ filter_map (admits_at n) (parted_marks a cs bs reply closing ends))) delivers
            ∙ ap (λ v. if_held ((((a.number == n) || false) || is_delivered t n) || (v || is_emptied t n)) (shown (admits_at n) t ++ filter_map (admits_at n) (parted_marks a cs bs reply closing ends))) empties
            ∙ ap (λ xs. if_held ((((a.number == n) || false) || is_delivered t n) || (list_any (λ (b : Arrival). b.number == n) bs || is_emptied t n)) (shown (admits_at n) t ++ xs)) admits
            ∙ ap (if_held ((((a.number == n) || false) || is_delivered t n) || (list_any (λ (b : Arrival). b.number == n) bs || is_emptied t n))) (append-nil (shown (admits_at n) t))
            ∙ ap (λ v. if_held ((v || is_delivered t n) || (list_any (λ (b : Arrival). b.number == n) bs || is_emptied t n)) (shown (admits_at n) t)) (or_false (a.number == n))
        by_start AtArrival =
            ap (λ v. if_held ((v || is_delivered t n) || (list_any (empties_number n) (parted_marks a cs bs reply closing ends) || is_emptied t n)) (shown (admits_at n) t ++ filter_map (admits_at n) (parted_marks a cs bs reply closing ends))) delivers
            ∙ ap (λ v. if_held (is_delivered t n || (v || is_emptied t n)) (shown (admits_at n) t ++ filter_map (admits_at n) (parted_marks a cs bs reply closing ends))) empties
            ∙ ap (λ xs. if_held (is_delivered t n || (list_any (λ (b : Arrival). b.number == n) bs || is_emptied t n)) (shown (admits_at n) t ++ xs)) admits
            ∙ ap (if_held (is_delivered t n || (list_any (λ (b : Arrival). b.number == n) bs || is_emptied t n))) (append-nil (shown (admits_at n) t))
        by_start AfterWaiting =
            ap (λ v. if_held ((v || is_delivered t n) || (list_any (empties_number n) (parted_marks a cs bs reply closing ends) || is_emptied t n)) (shown (admits_at n) t ++ filter_map (admits_at n) (parted_marks a cs bs reply closing ends))) delivers
            ∙ ap (λ v. if_held (is_delivered t n || (v || is_emptied t n)) (shown (admits_at n) t ++ filter_map (admits_at n) (parted_marks a cs bs reply closing ends))) empties
            ∙ ap (λ xs. if_held (is_delivered t n || (list_any (λ (b : Arrival). b.number == n) bs || is_emptied t n)) (shown (admits_at n) t ++ xs)) admits
            ∙ ap (if_held (is_delivered t n || (list_any (λ (b : Arrival). b.number == n) bs || is_emptied t n))) (append-nil (shown (admits_at n) t))

        begun_held : (x : Start) → if_held (is_delivered (plain_item x a None None None ∷ t) n || (list_any (λ (b : Arrival). b.number == n) bs || is_emptied (plain_item x a None None None ∷ t) n)) (shown (admits_at n) (plain_item x a None None None ∷ t))
            ≡ if_held (((elim x [ AtTurn ↦ a.number == n | AtArrival ↦ false | AfterWaiting ↦ false ]) || is_delivered t n) || (list_any (λ (b : Arrival). b.number == n) bs || is_emptied t n)) (shown (admits_at n) t)
        begun_held AtTurn =
            ap (if_held ((((a.number == n) || false) || is_delivered t n) || (list_any (λ (b : Arrival). b.number == n) bs || is_emptied t n))) (append-nil (shown (admits_at n) t))
            ∙ ap (λ v. if_held ((v || is_delivered t n) || (list_any (λ (b : Arrival). b.number == n) bs || is_emptied t n)) (shown (admits_at n) t)) (or_false (a.number == n))
        begun_held AtArrival = ap (if_held (is_delivered t n || (list_any (λ (b : Arrival). b.number == n) bs || is_emptied t n))) (append-nil (shown (admits_at n) t))
        begun_held AfterWaiting = ap (if_held (is_delivered t n || (list_any (λ (b : Arrival). b.number == n) bs || is_emptied t n))) (append-nil (shown (admits_at n) t))

    -- so these functions wait, if the marks that close drop those of these connections
    pub waits_parted : (conns : List ℕ) → waiting_through (close_marks closing ends) (waiting begun_trace) ≡ waiting_off conns (waiting begun_trace) → waiting (parted_item start a cs bs reply closing ends ∷ t) ≡ waiting (parted_trace conns)
    waits_parted conns drops =
        by_start start
        ∙ waits_past_leaves cs (map Empties bs ++ last) (waiting begun_trace) ∙ waits_past_empties bs last (waiting begun_trace)
        ∙ drops ∙ ap (waiting_off conns) (sym (emptied_waits bs begun_trace)) ∙ sym (closes_waits conns (emptied_by bs begun_trace))
      where
        by_start : (x : Start) → waiting (parted_item x a cs bs reply closing ends ∷ t) ≡ waiting_through (parted_marks a cs bs reply closing ends) (waiting (plain_item x a None None None ∷ t))
        by_start AtTurn = refl
        by_start AtArrival = refl
        by_start AfterWaiting = refl

-- ---- what leaves by it, and the requests that it takes out

pub leaves_parted : (a : Arrival) (cs : List Command) (bs : List Arrival) (reply : Reply) (closing : Option ℕ) (ends : Bool) → filter_map leaving (parted_marks a cs bs reply closing ends) ≡ cs
leaves_parted a cs bs reply closing ends =
    let cid : ℕ = connection_of a.request in
    leaves_seen cs (map Empties bs ++ last_marks cid reply closing ends) (past_empties leaving (λ b. refl) bs (last_marks cid reply closing ends) ∙ none_last leaving (λ x y. refl) (λ x. refl) refl cid reply closing ends)

taken_seen : (bs : List Arrival) (ms : List Mark) → filter_map emptying ms ≡ [] → filter_map emptying (map Empties bs ++ ms) ≡ bs
taken_seen [] ms none = none
taken_seen (b ∷ bs) ms none = ap (λ xs. b ∷ xs) (taken_seen bs ms none)

pub empties_parted : (a : Arrival) (cs : List Command) (bs : List Arrival) (reply : Reply) (closing : Option ℕ) (ends : Bool) → filter_map emptying (parted_marks a cs bs reply closing ends) ≡ bs
empties_parted a cs bs reply closing ends =
    let cid : ℕ = connection_of a.request in
    past_leaves emptying (λ c. refl) cs (map Empties bs ++ last_marks cid reply closing ends) ∙ taken_seen bs (last_marks cid reply closing ends) (none_last emptying (λ x y. refl) (λ x. refl) refl cid reply closing ends)

pub emptied_parted : (start : Start) (a : Arrival) (cs : List Command) (bs : List Arrival) (reply : Reply) (closing : Option ℕ) (ends : Bool) → filter_map emptying (parted_item start a cs bs reply closing ends) ≡ bs
emptied_parted AtTurn a cs bs reply closing ends = empties_parted a cs bs reply closing ends
emptied_parted AtArrival a cs bs reply closing ends = empties_parted a cs bs reply closing ends
emptied_parted AfterWaiting a cs bs reply closing ends = empties_parted a cs bs reply closing ends

-- ---- its effects

marks_effects : (o : Setting) (t : Trace) (a : Arrival) (cs : List Command) (bs : List Arrival) (reply : Reply) (closing : Option ℕ) (ends : Bool) (more : List Effect)
    → flat_map (effects_of_mark o t) (parted_marks a cs bs reply closing ends) ++ more
    ≡ leave_effects cs ++ (empty_effects bs ++ (Send (connection_of a.request) (stat_sn_of o t (connection_of a.request)) reply ∷ (close_effects closing ends ++ more)))
marks_effects o t a [] [] reply (Some conn) true more = refl
marks_effects o t a [] [] reply (Some conn) false more = refl
marks_effects o t a [] [] reply None true more = refl
marks_effects o t a [] [] reply None false more = refl
marks_effects o t a [] (b ∷ bs) reply closing ends more = ap (λ es. Empty (wire b.number) ∷ es) (marks_effects o t a [] bs reply closing ends more)
marks_effects o t a (c ∷ cs) bs reply closing ends more = ap (λ es. Leave c.ticket c.unit ∷ es) (marks_effects o t a cs bs reply closing ends more)

pub effects_parted : (o : Setting) (t : Trace) (start : Start) (a : Arrival) (cs : List Command) (bs : List Arrival) (reply : Reply) (closing : Option ℕ) (ends : Bool)
    → effects_of_item o t (parted_item start a cs bs reply closing ends) ≡ parted_effects (stat_sn_of o t (connection_of a.request)) start a cs bs reply closing ends (newly_enabled o t (parted_item start a cs bs reply closing ends))
effects_parted o t AtTurn a cs bs reply closing ends = ap (λ es. start_effect AtTurn a.request ∷ es) (marks_effects o t a cs bs reply closing ends (enables (newly_enabled o t (parted_item AtTurn a cs bs reply closing ends))))
effects_parted o t AtArrival a cs bs reply closing ends = ap (λ es. start_effect AtArrival a.request ∷ es) (marks_effects o t a cs bs reply closing ends (enables (newly_enabled o t (parted_item AtArrival a cs bs reply closing ends))))
effects_parted o t AfterWaiting a cs bs reply closing ends = ap (λ es. start_effect AfterWaiting a.request ∷ es) (marks_effects o t a cs bs reply closing ends (enables (newly_enabled o t (parted_item AfterWaiting a cs bs reply closing ends))))

-- what is shown by none of them but the last
module _ {A : Type 0} (f : Effect → Option A) (deliver : (r : Request) → f (Deliver r) ≡ None) (immediate : (r : Request) → f (Immediate r) ≡ None) (empties : (n : ℕ) → f (Empty n) ≡ None) where
  past_emptied : (bs : List Arrival) (rest : List Effect) → filter_map f (empty_effects bs ++ rest) ≡ filter_map f rest
  past_emptied [] rest = refl
  past_emptied (b ∷ bs) rest = ap (λ x. cons_option x (filter_map f (empty_effects bs ++ rest))) (empties (wire b.number)) ∙ past_emptied bs rest

  past_start : (start : Start) (q : Request) (rest : List Effect) → filter_map f (start_effect start q ∷ rest) ≡ filter_map f rest
  past_start AtTurn q rest = ap (λ x. cons_option x (filter_map f rest)) (deliver q)
  past_start AtArrival q rest = ap (λ x. cons_option x (filter_map f rest)) (immediate q)
  past_start AfterWaiting q rest = ap (λ x. cons_option x (filter_map f rest)) (immediate q)

  module _ (leaves : (k u : ℕ) → f (Leave k u) ≡ None) where
    past_left : (cs : List Command) (rest : List Effect) → filter_map f (leave_effects cs ++ rest) ≡ filter_map f rest
    past_left [] rest = refl
    past_left (c ∷ cs) rest = ap (λ x. cons_option x (filter_map f (leave_effects cs ++ rest))) (leaves c.ticket c.unit) ∙ past_left cs rest

    past_all : (start : Start) (q : Request) (cs : List Command) (bs : List Arrival) (rest : List Effect) → filter_map f (start_effect start q ∷ (leave_effects cs ++ (empty_effects bs ++ rest))) ≡ filter_map f rest
    past_all start q cs bs rest = past_start start q (leave_effects cs ++ (empty_effects bs ++ rest)) ∙ past_left cs (empty_effects bs ++ rest) ∙ past_emptied bs rest

left_shown : (cs : List Command) (rest : List Effect) → tickets_left (leave_effects cs ++ rest) ≡ tickets_of cs ++ tickets_left rest
left_shown [] rest = refl
left_shown (c ∷ cs) rest = ap (λ ks. c.ticket ∷ ks) (left_shown cs rest)

module _ (links : List Link) where
  closed_past_empties : (bs : List Arrival) (rest : List Effect) → flat_map (conns_closed links) (empty_effects bs ++ rest) ≡ flat_map (conns_closed links) rest
  closed_past_empties [] rest = refl
  closed_past_empties (b ∷ bs) rest = closed_past_empties bs rest

  closed_past_leaves : (cs : List Command) (rest : List Effect) → flat_map (conns_closed links) (leave_effects cs ++ rest) ≡ flat_map (conns_closed links) rest
  closed_past_leaves [] rest = refl
  closed_past_leaves (c ∷ cs) rest = closed_past_leaves cs rest

  closed_past_start : (start : Start) (q : Request) (rest : List Effect) → flat_map (conns_closed links) (start_effect start q ∷ rest) ≡ flat_map (conns_closed links) rest
  closed_past_start AtTurn q rest = refl
  closed_past_start AtArrival q rest = refl
  closed_past_start AfterWaiting q rest = refl

-- the connections that it closes
abbrev pub conns_parted : List Link → Option ℕ → Bool → List ℕ
conns_parted links closing ends = as_conns closing ++ cond ends (map (λ (l : Link). l.conn) links) []

module _ (cid sn : ℕ) (reply : Reply) (ns : List Command) where
  abbrev last_effects : Option ℕ → Bool → List Effect
  last_effects closing ends = Send cid sn reply ∷ (close_effects closing ends ++ enables ns)

  enabled_last : (closing : Option ℕ) (ends : Bool) → filter_map ticket_enabled (last_effects closing ends) ≡ tickets_of ns
  enabled_last (Some conn) true = enabled_tickets ns
  enabled_last (Some conn) false = enabled_tickets ns
  enabled_last None true = enabled_tickets ns
  enabled_last None false = enabled_tickets ns

  left_last : (closing : Option ℕ) (ends : Bool) → tickets_left (last_effects closing ends) ≡ []
  left_last (Some conn) true = shows_none ticket_left ns (λ ticket unit. refl)
  left_last (Some conn) false = shows_none ticket_left ns (λ ticket unit. refl)
  left_last None true = shows_none ticket_left ns (λ ticket unit. refl)
  left_last None false = shows_none ticket_left ns (λ ticket unit. refl)

  entering_last : (q : Request) (closing : Option ℕ) (ends : Bool) → filter_map (task_entered q) (last_effects closing ends) ≡ []
  entering_last q (Some conn) true = shows_none (task_entered q) ns (λ ticket unit. refl)
  entering_last q (Some conn) false = shows_none (task_entered q) ns (λ ticket unit. refl)
  entering_last q None true = shows_none (task_entered q) ns (λ ticket unit. refl)
  entering_last q None false = shows_none (task_entered q) ns (λ ticket unit. refl)

  closed_last : (links : List Link) (closing : Option ℕ) (ends : Bool) → flat_map (conns_closed links) (last_effects closing ends) ≡ conns_parted links closing ends
  closed_last links (Some conn) true = ap (λ xs. conn ∷ (map (λ (l : Link). l.conn) links ++ xs)) (gives_none (conns_closed links) ns (λ ticket unit. refl)) ∙ ap (λ xs. conn ∷ xs) (append-nil (map (λ (l : Link). l.conn) links))
  closed_last links (Some conn) false = ap (λ xs. conn ∷ xs) (gives_none (conns_closed links) ns (λ ticket unit. refl))
  closed_last links None true = ap (λ xs. map (λ (l : Link). l.conn) links ++ xs) (gives_none (conns_closed links) ns (λ ticket unit. refl)) ∙ append-nil (map (λ (l : Link). l.conn) links)
  closed_last links None false = gives_none (conns_closed links) ns (λ ticket unit. refl)

executes_it : (start : Start) (q : Request) (rest : List Effect) → executing (start_effect start q ∷ rest) ≡ Some q
executes_it AtTurn q rest = refl
executes_it AtArrival q rest = refl
executes_it AfterWaiting q rest = refl

pub part_parted : (links : List Link) (sn : ℕ) (start : Start) (a : Arrival) (cs : List Command) (bs : List Arrival) (reply : Reply) (closing : Option ℕ) (ends : Bool) (ns : List Command)
    → IsPartingPart links (parted_effects sn start a cs bs reply closing ends ns) a.request cs ns (Some (connection_of a.request, reply)) (conns_parted links closing ends)
part_parted links sn start a cs bs reply closing ends ns =
    let cid : ℕ = connection_of a.request in
    let rest : List Effect = Send cid sn reply ∷ (close_effects closing ends ++ enables ns) in
    record {
      enabled = past_all ticket_enabled (λ r. refl) (λ r. refl) (λ n. refl) (λ k u. refl) start a.request cs bs rest ∙ enabled_last cid sn reply ns closing ends;
      left = past_start ticket_left (λ r. refl) (λ r. refl) (λ n. refl) start a.request (leave_effects cs ++ (empty_effects bs ++ rest))
          ∙ left_shown cs (empty_effects bs ++ rest) ∙ ap (λ ks. tickets_of cs ++ ks) (past_emptied ticket_left (λ r. refl) (λ r. refl) (λ n. refl) bs rest ∙ left_last cid sn reply ns closing ends) ∙ append-nil (tickets_of cs);
      entering = past_all (task_entered a.request) (λ r. refl) (λ r. refl) (λ n. refl) (λ k u. refl) start a.request cs bs rest ∙ entering_last cid sn reply ns a.request closing ends;
      closing = closed_past_start links start a.request (leave_effects cs ++ (empty_effects bs ++ rest)) ∙ closed_past_leaves links cs (empty_effects bs ++ rest) ∙ closed_past_empties links bs rest ∙ closed_last cid sn reply ns links closing ends;
      executes = executes_it start a.request (leave_effects cs ++ (empty_effects bs ++ rest));
      sends = ap first_of (past_all sent_by (λ r. refl) (λ r. refl) (λ n. refl) (λ k u. refl) start a.request cs bs rest);
    }
