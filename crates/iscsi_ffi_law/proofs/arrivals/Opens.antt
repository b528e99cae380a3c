-- What a request does: it closes nothing and takes out no held request, or one of them and is answered then, or it is a Logout that closes.
use Rattle.std.proofs.Common.{◌≡◌, ℕ, ◌==◌, cond, Bool, true, false, List, [], ◌∷◌, ◌++◌, filter, filter_map, map, Option, Some, None, refl, ap, sym, ◌∙◌, suc, zero, ◌+◌, ◌-◌, ◌≤◌, arith, append_assoc, ne_eqb, subst, not}
use Rattle.iscsi_ffi_law.proofs.logouts.Parting.{close_marks, parted_marks}
use Rattle.iscsi_ffi_rules.specs.rules.Happening.{leaving}
use Rattle.iscsi_outbox_law.proofs.general.PairLemmas.{each-append, each-filter, each-weaken}
use Rattle.iscsi_outbox_law.specs.private.Pairs.{EachOf, InOrder}
use Rattle.iscsi_rules.proofs.traces.HeldLemmas.{held-number}
use Rattle.std.specs.List.{list_all, range_with_len}
use Rattle.std.proofs.lemmas.Bool.{cond_both}
use Rattle.std.proofs.lemmas.List.{append-nil}
use Rattle.std.proofs.lemmas.List.Elements.{filter_map-append}
use Rattle.iscsi_wire.specs.declared.reply.Reply.{Reply}
use Rattle.iscsi_wire.specs.declared.reply.Reply.TheVariants.{Task, Logout}
use Rattle.iscsi_wire.specs.Fields.{cid, connection_of, itt, ref_cmd_sn, rtt}
use Rattle.iscsi_wire.specs.Serial.{lift, number_of_first}
use Rattle.iscsi_rules.specs.declared.deed.Deed.{Deed}
use Rattle.iscsi_rules.specs.declared.deed.Deed.TheVariants.{Void, Empty, Abort, AbortEarlier, AbortAll, CloseConn, CloseSession}
use Rattle.iscsi_rules.specs.rules.Execution.{exp_of, reply_on}
use Rattle.iscsi_rules.specs.rules.Deeds.{facts_of, if_found, deed_marks, marks_after, function_marks}
use Rattle.iscsi_rules.specs.rules.Logout.{close_conn, end_session, is_last_open, parting, taken_out, all_held, live_of_units}
use Rattle.iscsi_rules.specs.rules.Management.{abort_all, answer, held_command, is_before, live_with_tag}
use Rattle.iscsi_rules.specs.rules.Settings.{Setting, is_known}
use Rattle.iscsi_rules.specs.rules.Trace.{Arrival, ClosesConn, ClosesSession, Command, Empties, Enters, Leaves, Mark, Sends, Trace, Voids, held, held_among, is_closed, is_received, live_in}
use Rattle.iscsi_rules.proofs.promises.AbortMarks.{none_viewed}
use Rattle.iscsi_rules.proofs.items.Forms.{Deeds, if_some, marks_done}
use Rattle.iscsi_rules.proofs.promises.NumberingLemmas.{passed, unseen}
use Rattle.iscsi_rules.proofs.general.BoolLemmas.{and_parts}
use Rattle.iscsi_rules.proofs.items.DeedTable.{Befits, befits_function, befits_deed}
use Rattle.iscsi_ffi_law.specs.Arrived.{emptying}

-- nothing is closed by it, and no held request is taken out
abbrev pub is_bare : Mark → Bool
is_bare (Empties a) = false
is_bare (ClosesConn conn) = false
is_bare ClosesSession = false
is_bare _ = true

pub data Opens (o : Setting) (a : Arrival) (ms : List Mark) : Type 0 where
  IsBare : list_all is_bare ms ≡ true → Opens o a ms
  IsEmptying : (b : Arrival) (conn : ℕ) (reply : Reply) → ms ≡ Empties b ∷ (Sends conn reply ∷ []) → Opens o a ms
  IsParting : (cs : List Command) (bs : List Arrival) (reply : Reply) (closing : Option ℕ) (ends : Bool) → ms ≡ parted_marks a cs bs reply closing ends → InOrder (λ (b c : Arrival). (b.number == c.number) ≡ false) bs → ((conn : ℕ) → closing ≡ Some conn → is_known conn o.conns ≡ true) → Opens o a ms

-- ---- what is held has numbers of its own

held_above : (t : Trace) (n m : ℕ) → EachOf (λ (b : Arrival). n ≤ b.number) (held_among t (range_with_len n m))
held_above t n zero = tt
held_above t n (suc m) =
    each-append (λ (b : Arrival). n ≤ b.number) (elim (held t n) [ Some b ↦ b ∷ [] | None ↦ [] ]) (held_among t (range_with_len (n + 1) m)) (by_held (held t n) refl)
    (each-weaken (λ (b : Arrival). n + 1 ≤ b.number) (λ (b : Arrival). n ≤ b.number) (held_among t (range_with_len (n + 1) m)) (λ b le. omega (arith, le)) (held_above t (n + 1) m))
  where
    by_held : (x : Option Arrival) → held t n ≡ x → EachOf (λ (b : Arrival). n ≤ b.number) (elim x [ Some b ↦ b ∷ [] | None ↦ [] ])
    by_held None is = tt
    by_held (Some b) is = let same = held-number t n b is in ((let le : n ≤ b.number = omega (arith, same) in le), tt)

pub held_apart : (t : Trace) (n m : ℕ) → InOrder (λ (b c : Arrival). (b.number == c.number) ≡ false) (held_among t (range_with_len n m))
held_apart t n zero = tt
held_apart t n (suc m) = by_held (held_apart t (n + 1) m) (held t n) refl
  where
    by_held : InOrder (λ (b c : Arrival). (b.number == c.number) ≡ false) (held_among t (range_with_len (n + 1) m)) → (x : Option Arrival) → held t n ≡ x → InOrder (λ (b c : Arrival). (b.number == c.number) ≡ false) (elim x [ Some b ↦ b ∷ [] | None ↦ [] ] ++ held_among t (range_with_len (n + 1) m))
    by_held rest None is = rest
    by_held rest (Some b) is =
        let same = held-number t n b is in
        (each-weaken (λ (c : Arrival). n + 1 ≤ c.number) (λ (c : Arrival). (b.number == c.number) ≡ false) (held_among t (range_with_len (n + 1) m)) (λ c le. ne_eqb b.number c.number (λ eq. let no : ⊥ = omega (arith, same, le, eq) in no)) (held_above t (n + 1) m), rest)

pub filter_apart : (p : Arrival → Bool) (bs : List Arrival) → InOrder (λ (b c : Arrival). (b.number == c.number) ≡ false) bs → InOrder (λ (b c : Arrival). (b.number == c.number) ≡ false) (filter p bs)
filter_apart p [] h = tt
filter_apart p (b ∷ bs) h =
    cond_both (p b) (b ∷ filter p bs) (filter p bs) (InOrder (λ (x y : Arrival). (x.number == y.number) ≡ false)) (λ is. (each-filter (λ (c : Arrival). (b.number == c.number) ≡ false) p bs h.0, filter_apart p bs h.1)) (λ isnt. filter_apart p bs h.1)

-- ---- what leaves, and the requests that are taken out

leaving_marks : (cs : List Command) → filter_map leaving (map Leaves cs) ≡ cs
leaving_marks [] = refl
leaving_marks (c ∷ cs) = ap (λ ds. c ∷ ds) (leaving_marks cs)

none_leave : (b : Bool) → filter_map leaving (cond b (ClosesSession ∷ []) []) ≡ []
none_leave true = refl
none_leave false = refl

pub leaving_seen : (a : Arrival) (d : Deeds) → filter_map leaving (marks_done a d) ≡ d.leaving
leaving_seen a d =
    passed leaving (if_some Voids d.void) _ (unseen leaving Voids d.void (λ n. refl))
    ∙ filter_map-append leaving (map Leaves d.leaving) _
    ∙ ap (λ cs. filter_map leaving (map Leaves d.leaving) ++ cs)
    (passed leaving (map Empties d.emptied) _ (none_viewed leaving Empties d.emptied (λ b. refl))
    ∙ passed leaving (if_some Enters d.entering) _ (unseen leaving Enters d.entering (λ c. refl))
    ∙ passed leaving (if_some (Sends (connection_of a.request)) d.reply) _ (unseen leaving (Sends (connection_of a.request)) d.reply (λ reply. refl))
    ∙ passed leaving (if_some ClosesConn d.closing) _ (unseen leaving ClosesConn d.closing (λ conn. refl)) ∙ none_leave d.ending)
    ∙ append-nil (filter_map leaving (map Leaves d.leaving)) ∙ leaving_marks d.leaving

emptied_marks : (bs : List Arrival) → filter_map emptying (map Empties bs) ≡ bs
emptied_marks [] = refl
emptied_marks (b ∷ bs) = ap (λ ds. b ∷ ds) (emptied_marks bs)

ended : (b : Bool) → filter_map emptying (cond b (ClosesSession ∷ []) []) ≡ []
ended true = refl
ended false = refl

pub emptied_seen : (a : Arrival) (d : Deeds) → filter_map emptying (marks_done a d) ≡ d.emptied
emptied_seen a d =
    passed emptying (if_some Voids d.void) _ (unseen emptying Voids d.void (λ n. refl))
    ∙ passed emptying (map Leaves d.leaving) _ (none_viewed emptying Leaves d.leaving (λ c. refl))
    ∙ filter_map-append emptying (map Empties d.emptied) _
    ∙ ap (λ bs. filter_map emptying (map Empties d.emptied) ++ bs)
    (passed emptying (if_some Enters d.entering) _ (unseen emptying Enters d.entering (λ c. refl))
    ∙ passed emptying (if_some (Sends (connection_of a.request)) d.reply) _ (unseen emptying (Sends (connection_of a.request)) d.reply (λ reply. refl))
    ∙ passed emptying (if_some ClosesConn d.closing) _ (unseen emptying ClosesConn d.closing (λ conn. refl)) ∙ ended d.ending)
    ∙ append-nil (filter_map emptying (map Empties d.emptied)) ∙ emptied_marks d.emptied

-- ---- functions

bare_leaving : (cs : List Command) (conn : ℕ) (reply : Reply) → list_all is_bare (map Leaves cs ++ (Sends conn reply ∷ [])) ≡ true
bare_leaving [] conn reply = refl
bare_leaving (c ∷ cs) conn reply = bare_leaving cs conn reply

module _ (o : Setting) (t : Trace) (a : Arrival) where
  opens_all : (unit : ℕ) (covers : Command → Bool) → Opens o a (abort_all t a unit covers)
  opens_all unit covers = IsBare (bare_leaving (filter covers (live_in unit t)) (connection_of a.request) (Task (itt a.request) 0))

  -- ---- Logout

  -- these are taken out, it is answered, and then something is closed
  parts_by : (of_these : ℕ → Bool) (closing : Option ℕ) (ends : Bool) → ((conn : ℕ) → closing ≡ Some conn → is_known conn o.conns ≡ true) → Opens o a ((taken_out o t of_these ++ parting a 0) ++ close_marks closing ends)
  parts_by of_these closing ends known =
      let cs : List Command = filter (λ (c : Command). of_these (connection_of c.arrival.request)) (live_of_units o t) in
      let bs : List Arrival = filter (λ (b : Arrival). of_these (connection_of b.request)) (all_held o t) in
      IsParting cs bs (Logout (itt a.request) 0) closing ends
      (append_assoc (map Leaves cs ++ map Empties bs) (parting a 0) (close_marks closing ends)
      ∙ append_assoc (map Leaves cs) (map Empties bs) (parting a 0 ++ close_marks closing ends))
      (filter_apart (λ (b : Arrival). of_these (connection_of b.request)) (all_held o t) (held_apart t (number_of_first o.first) (exp_of o t + o.window - number_of_first o.first))) known

  opens_end : Opens o a (end_session o t a)
  opens_end = parts_by (λ conn. true) None true (λ conn some. absurd (let no : ⊥ = cc in no))

  opens_close : (closing : ℕ) → is_known closing o.conns ≡ true → Opens o a (close_conn o t a closing)
  opens_close closing known = parts_by (λ conn. conn == closing) (Some closing) (is_last_open o t closing) (λ conn some. subst (λ c. is_known c o.conns ≡ true) (let its : closing ≡ conn = cc in its) known)

  -- ---- any request

  opens_deed : (d : Deed) → Befits (facts_of o t a) a.request d → Opens o a (deed_marks o t a d)
  opens_deed Void b = by_known (is_received t (lift (exp_of o t) (ref_cmd_sn a.request)))
    where
      by_known : (w : Bool) → Opens o a (cond w [] (Voids (lift (exp_of o t) (ref_cmd_sn a.request)) ∷ []) ++ answer a 0)
      by_known true = IsBare refl
      by_known false = IsBare refl
  opens_deed (Empty unit sn) b = by_held (held_command o t (rtt a.request) unit a.number)
    where
      by_held : (y : Option Arrival) → Opens o a (if_found Empties y ++ answer a 0)
      by_held (Some h) = IsEmptying h (connection_of a.request) (Task (itt a.request) 0) refl
      by_held None = IsBare refl
  opens_deed (Abort unit ticket) b = by_live (live_with_tag t (rtt a.request) unit)
    where
      by_live : (x : Option Command) → Opens o a (if_found Leaves x ++ answer a 0)
      by_live (Some c) = IsBare refl
      by_live None = IsBare refl
  opens_deed (AbortEarlier unit) b = opens_all unit (is_before a)
  opens_deed (AbortAll unit) b = opens_all unit (λ x. true)
  opens_deed (CloseConn closing) b = opens_close closing (subst (λ c. is_known c o.conns ≡ true) (sym b.0) (and_parts (is_known (cid a.request) o.conns) (not (is_closed (cid a.request) t)) b.1).0)
  opens_deed CloseSession b = opens_end
  opens_deed _ b = IsBare refl

  pub opens_function : Opens o a (function_marks o t a)
  opens_function = opens_deed _ (befits_function (facts_of o t a) a.request)

  pub opens_after : Opens o a (marks_after o t a)
  opens_after = opens_deed _ (befits_deed (facts_of o t a) a.request)

pub opens_reply : (o : Setting) (a : Arrival) (reply : Reply) → Opens o a (reply_on a reply)
opens_reply o a reply = IsBare refl
