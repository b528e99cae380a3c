-- An item by which commands leave and nothing is closed: a request executes, it may void a number, commands leave, and one reply is sent, or none.
use Rattle.std.proofs.Common.{◌≡◌, ℕ, ◌==◌, ◌||◌, Bool, false, List, [], ◌∷◌, ◌++◌, map, filter_map, Option, Some, None, refl, ap, ◌∙◌}
use Rattle.std.specs.List.{cons_option, flat_map, list_any}
use Rattle.iscsi_wire.specs.declared.reply.Reply.{Reply}
use Rattle.iscsi_wire.specs.Fields.{connection_of}
use Rattle.iscsi_rules.specs.declared.effect.Effect.{Effect}
use Rattle.iscsi_rules.specs.declared.effect.Effect.TheVariants.{Leave}
use Rattle.iscsi_rules.specs.promises.Replies.{executed_in, reply_sent as mark_reply}
use Rattle.iscsi_rules.specs.rules.Settings.{Setting}
use Rattle.iscsi_rules.specs.rules.Run.{effects_of_item, effects_of_mark, newly_enabled, stat_sn_of}
use Rattle.iscsi_rules.specs.rules.Trace.{Arrival, Command, Leaves, Mark, Sends, Trace, Voids, enters, is_among, leaves_ticket, waiting, waiting_through}
use Rattle.iscsi_rules.proofs.items.Forms.{AfterWaiting, AtArrival, AtTurn, Start, if_some, start_mark}
use Rattle.iscsi_ffi_rules.specs.rules.Happening.{answers_in, leaving}
use Rattle.iscsi_ffi_law.proofs.completions.DoneShape.{enables}
use Rattle.iscsi_ffi_law.proofs.items.Plain.{answers_of, plain_item, send_effects, start_effect, void_effects}

-- its marks
abbrev pub left_marks : Arrival → Option ℕ → List Command → Option Reply → List Mark
left_marks a void cs reply = if_some Voids void ++ (map Leaves cs ++ if_some (Sends (connection_of a.request)) reply)

abbrev pub left_item : Start → Arrival → Option ℕ → List Command → Option Reply → List Mark
left_item start a void cs reply = start_mark start a ∷ left_marks a void cs reply

-- .. and its effects
abbrev pub leave_effects : List Command → List Effect
leave_effects cs = map (λ (c : Command). Leave c.ticket c.unit) cs

abbrev pub left_effects : ℕ → Start → Arrival → Option ℕ → List Command → Option Reply → List Command → List Effect
left_effects sn start a void cs reply ns = start_effect start a.request ∷ (void_effects void ++ (leave_effects cs ++ (send_effects (connection_of a.request) sn reply ++ enables ns)))

leaves_effects : (o : Setting) (t : Trace) (a : Arrival) (cs : List Command) (reply : Option Reply) (more : List Effect)
    → flat_map (effects_of_mark o t) (map Leaves cs ++ if_some (Sends (connection_of a.request)) reply) ++ more ≡ leave_effects cs ++ (send_effects (connection_of a.request) (stat_sn_of o t (connection_of a.request)) reply ++ more)
leaves_effects o t a [] None more = refl
leaves_effects o t a [] (Some reply) more = refl
leaves_effects o t a (c ∷ cs) reply more = ap (λ es. Leave c.ticket c.unit ∷ es) (leaves_effects o t a cs reply more)

marks_effects : (o : Setting) (t : Trace) (a : Arrival) (void : Option ℕ) (cs : List Command) (reply : Option Reply) (more : List Effect)
    → flat_map (effects_of_mark o t) (left_marks a void cs reply) ++ more ≡ void_effects void ++ (leave_effects cs ++ (send_effects (connection_of a.request) (stat_sn_of o t (connection_of a.request)) reply ++ more))
marks_effects o t a None cs reply more = leaves_effects o t a cs reply more
marks_effects o t a (Some n) cs reply more = ap (λ es. void_effects (Some n) ++ es) (leaves_effects o t a cs reply more)

pub effects_left : (o : Setting) (t : Trace) (start : Start) (a : Arrival) (void : Option ℕ) (cs : List Command) (reply : Option Reply)
    → effects_of_item o t (left_item start a void cs reply) ≡ left_effects (stat_sn_of o t (connection_of a.request)) start a void cs reply (newly_enabled o t (left_item start a void cs reply))
effects_left o t AtTurn a void cs reply = ap (λ es. start_effect AtTurn a.request ∷ es) (marks_effects o t a void cs reply (enables (newly_enabled o t (left_item AtTurn a void cs reply))))
effects_left o t AtArrival a void cs reply = ap (λ es. start_effect AtArrival a.request ∷ es) (marks_effects o t a void cs reply (enables (newly_enabled o t (left_item AtArrival a void cs reply))))
effects_left o t AfterWaiting a void cs reply = ap (λ es. start_effect AfterWaiting a.request ∷ es) (marks_effects o t a void cs reply (enables (newly_enabled o t (left_item AfterWaiting a void cs reply))))

-- ---- what its marks show

-- what leaves is seen by nothing else
module _ {A : Type 0} (f : Mark → Option A) (none : (c : Command) → f (Leaves c) ≡ None) where
  past_leaves : (cs : List Command) (ms : List Mark) → filter_map f (map Leaves cs ++ ms) ≡ filter_map f ms
  past_leaves [] ms = refl
  past_leaves (c ∷ cs) ms = ap (λ x. cons_option x (filter_map f (map Leaves cs ++ ms))) (none c) ∙ past_leaves cs ms

  pub shows_plain : (start : Start) (a : Arrival) (void : Option ℕ) (cs : List Command) (reply : Option Reply) → filter_map f (left_item start a void cs reply) ≡ filter_map f (plain_item start a void None reply)
  shows_plain start a None cs reply = ap (λ xs. cons_option (f (start_mark start a)) xs) (past_leaves cs (if_some (Sends (connection_of a.request)) reply))
  shows_plain start a (Some n) cs reply = ap (λ xs. cons_option (f (start_mark start a)) (cons_option (f (Voids n)) xs)) (past_leaves cs (if_some (Sends (connection_of a.request)) reply))

module _ (p : Mark → Bool) (none : (c : Command) → p (Leaves c) ≡ false) where
  any_past : (cs : List Command) (ms : List Mark) → list_any p (map Leaves cs ++ ms) ≡ list_any p ms
  any_past [] ms = refl
  any_past (c ∷ cs) ms = ap (λ v. v || list_any p (map Leaves cs ++ ms)) (none c) ∙ any_past cs ms

  pub any_plain : (start : Start) (a : Arrival) (void : Option ℕ) (cs : List Command) (reply : Option Reply) → list_any p (left_item start a void cs reply) ≡ list_any p (plain_item start a void None reply)
  any_plain start a None cs reply = ap (λ v. p (start_mark start a) || v) (any_past cs (if_some (Sends (connection_of a.request)) reply))
  any_plain start a (Some n) cs reply = ap (λ v. p (start_mark start a) || (p (Voids n) || v)) (any_past cs (if_some (Sends (connection_of a.request)) reply))

waits_past : (cs : List Command) (ms : List Mark) (ws : List Arrival) → waiting_through (map Leaves cs ++ ms) ws ≡ waiting_through ms ws
waits_past [] ms ws = refl
waits_past (c ∷ cs) ms ws = waits_past cs ms ws

pub waits_plain : (t : Trace) (start : Start) (a : Arrival) (void : Option ℕ) (cs : List Command) (reply : Option Reply) → waiting (left_item start a void cs reply ∷ t) ≡ waiting (plain_item start a void None reply ∷ t)
waits_plain t AtTurn a None cs reply = waits_past cs (if_some (Sends (connection_of a.request)) reply) (waiting t)
waits_plain t AtTurn a (Some n) cs reply = waits_past cs (if_some (Sends (connection_of a.request)) reply) (waiting t)
waits_plain t AtArrival a None cs reply = waits_past cs (if_some (Sends (connection_of a.request)) reply) (waiting_through (start_mark AtArrival a ∷ []) (waiting t))
waits_plain t AtArrival a (Some n) cs reply = waits_past cs (if_some (Sends (connection_of a.request)) reply) (waiting_through (start_mark AtArrival a ∷ []) (waiting t))
waits_plain t AfterWaiting a None cs reply = waits_past cs (if_some (Sends (connection_of a.request)) reply) (waiting_through (start_mark AfterWaiting a ∷ []) (waiting t))
waits_plain t AfterWaiting a (Some n) cs reply = waits_past cs (if_some (Sends (connection_of a.request)) reply) (waiting_through (start_mark AfterWaiting a ∷ []) (waiting t))

leaving_past : (cs : List Command) (conn : ℕ) (reply : Option Reply) → filter_map leaving (map Leaves cs ++ if_some (Sends conn) reply) ≡ cs
leaving_past [] conn None = refl
leaving_past [] conn (Some reply) = refl
leaving_past (c ∷ cs) conn reply = ap (λ xs. c ∷ xs) (leaving_past cs conn reply)

pub leaving_left : (start : Start) (a : Arrival) (void : Option ℕ) (cs : List Command) (reply : Option Reply) → filter_map leaving (left_item start a void cs reply) ≡ cs
leaving_left AtTurn a None cs reply = leaving_past cs (connection_of a.request) reply
leaving_left AtTurn a (Some n) cs reply = leaving_past cs (connection_of a.request) reply
leaving_left AtArrival a None cs reply = leaving_past cs (connection_of a.request) reply
leaving_left AtArrival a (Some n) cs reply = leaving_past cs (connection_of a.request) reply
leaving_left AfterWaiting a None cs reply = leaving_past cs (connection_of a.request) reply
leaving_left AfterWaiting a (Some n) cs reply = leaving_past cs (connection_of a.request) reply

tickets_past : (k : ℕ) (cs : List Command) (conn : ℕ) (reply : Option Reply) → list_any (leaves_ticket k) (map Leaves cs ++ if_some (Sends conn) reply) ≡ is_among k cs
tickets_past k [] conn None = refl
tickets_past k [] conn (Some reply) = refl
tickets_past k (c ∷ cs) conn reply = ap (λ v. (c.ticket == k) || v) (tickets_past k cs conn reply)

pub tickets_left_by : (k : ℕ) (start : Start) (a : Arrival) (void : Option ℕ) (cs : List Command) (reply : Option Reply) → list_any (leaves_ticket k) (left_item start a void cs reply) ≡ is_among k cs
tickets_left_by k AtTurn a None cs reply = tickets_past k cs (connection_of a.request) reply
tickets_left_by k AtTurn a (Some n) cs reply = tickets_past k cs (connection_of a.request) reply
tickets_left_by k AtArrival a None cs reply = tickets_past k cs (connection_of a.request) reply
tickets_left_by k AtArrival a (Some n) cs reply = tickets_past k cs (connection_of a.request) reply
tickets_left_by k AfterWaiting a None cs reply = tickets_past k cs (connection_of a.request) reply
tickets_left_by k AfterWaiting a (Some n) cs reply = tickets_past k cs (connection_of a.request) reply

enters_past : (cs : List Command) (conn : ℕ) (reply : Option Reply) → filter_map enters (map Leaves cs ++ if_some (Sends conn) reply) ≡ []
enters_past [] conn None = refl
enters_past [] conn (Some reply) = refl
enters_past (c ∷ cs) conn reply = enters_past cs conn reply

pub enters_left : (start : Start) (a : Arrival) (void : Option ℕ) (cs : List Command) (reply : Option Reply) → filter_map enters (left_item start a void cs reply) ≡ []
enters_left AtTurn a None cs reply = enters_past cs (connection_of a.request) reply
enters_left AtTurn a (Some n) cs reply = enters_past cs (connection_of a.request) reply
enters_left AtArrival a None cs reply = enters_past cs (connection_of a.request) reply
enters_left AtArrival a (Some n) cs reply = enters_past cs (connection_of a.request) reply
enters_left AfterWaiting a None cs reply = enters_past cs (connection_of a.request) reply
enters_left AfterWaiting a (Some n) cs reply = enters_past cs (connection_of a.request) reply

answers_past : (a : Arrival) (cs : List Command) (reply : Option Reply) → map (λ (r : Reply). a.event) (filter_map mark_reply (map Leaves cs ++ if_some (Sends (connection_of a.request)) reply)) ≡ answers_of a reply
answers_past a [] None = refl
answers_past a [] (Some reply) = refl
answers_past a (c ∷ cs) reply = answers_past a cs reply

pub answers_left : (event : ℕ) (start : Start) (a : Arrival) (void : Option ℕ) (cs : List Command) (reply : Option Reply) → answers_in event (left_item start a void cs reply) ≡ answers_of a reply
answers_left event AtTurn a None cs reply = answers_past a cs reply
answers_left event AtTurn a (Some n) cs reply = answers_past a cs reply
answers_left event AtArrival a None cs reply = answers_past a cs reply
answers_left event AtArrival a (Some n) cs reply = answers_past a cs reply
answers_left event AfterWaiting a None cs reply = answers_past a cs reply
answers_left event AfterWaiting a (Some n) cs reply = answers_past a cs reply

pub executed_left : (start : Start) (a : Arrival) (void : Option ℕ) (cs : List Command) (reply : Option Reply) → executed_in (left_item start a void cs reply) ≡ Some a
executed_left AtTurn a void cs reply = refl
executed_left AtArrival a void cs reply = refl
executed_left AfterWaiting a void cs reply = refl
