-- What a request does that executes, as it counts for the limits of a session: it voids a number only within the window, being
-- immediate; and a command enters only where its connection isn't crowded.
use Rattle.std.proofs.Common.{◌≡◌, ℕ, ◌≤◌, ◌==◌, ◌&&◌, cond, Bool, true, false, List, [], ◌∷◌, ◌++◌, map, filter, Option, Some, None, refl, arith, nat_le, nat_lt}
use Rattle.std.proofs.lemmas.Bool.Decides.{nat_tests}
use Rattle.iscsi_wire.specs.declared.reply.Reply.{Reply}
use Rattle.iscsi_wire.specs.Fields.{connection_of, is_immediate, ref_cmd_sn}
use Rattle.iscsi_wire.specs.Serial.{lift}
use Rattle.iscsi_rules.specs.declared.deed.Deed.{Deed}
use Rattle.iscsi_rules.specs.declared.deed.Deed.TheVariants.{Reply as Replies, Enter, Void, Empty, Abort, AbortEarlier, AbortAll, CloseConn, CloseSession}
use Rattle.iscsi_rules.specs.rules.Settings.{Setting}
use Rattle.iscsi_rules.specs.rules.Trace.{Arrival, Command, Mark, Admits, Delivers, Executes, Voids, Empties, Waits, Leaves, Enters, ClosesConn, ClosesSession, Trace, is_received, live_in}
use Rattle.iscsi_rules.specs.rules.Execution.{exp_of, max_of, is_crowded, reply_on}
use Rattle.iscsi_rules.specs.rules.Management.{answer, is_before, abort_all}
use Rattle.iscsi_rules.specs.rules.Logout.{is_last_open, live_of_units, all_held, taken_out, parting, end_session, close_conn}
use Rattle.iscsi_rules.specs.rules.Deeds.{facts_of, if_found, deed_marks, marks_after, function_marks}
use Rattle.iscsi_rules.proofs.general.BoolLemmas.{and_parts}
use Rattle.iscsi_rules.proofs.items.DeedTable.{Befits, befits_function, befits_deed}
use Rattle.iscsi_rules.proofs.items.Forms.{Deeds, if_some, marks_done, Each}
use Rattle.iscsi_outbox_rules.proofs.general.EachLemmas.{EachOf, each-append, each-first, each-second}

module _ (o : Setting) (t : Trace) (a : Arrival) where
  -- what a mark may be of a request that executes after t
  abbrev pub MarkFair : Mark → Type 0
  MarkFair (Voids n) = (is_immediate a.request ≡ true) × (n ≤ max_of o t)
  MarkFair (Enters c) = (c.arrival ≡ a) × (is_crowded t a.request ≡ false)
  MarkFair (Admits b) = ⊥
  MarkFair (Waits b) = ⊥
  MarkFair (Delivers b) = ⊥
  MarkFair (Executes b) = ⊥
  MarkFair _ = Unit {0}

  abbrev pub Fair : List Mark → Type 0
  Fair ms = EachOf MarkFair ms

  fair_map : {A : Type 0} (f : A → Mark) (xs : List A) → ((x : A) → MarkFair (f x)) → Fair (map f xs)
  fair_map f [] h = tt
  fair_map f (x ∷ xs) h = (h x, fair_map f xs h)

  fair_both : (xs ys : List Mark) → Fair xs → Fair ys → Fair (xs ++ ys)
  fair_both xs ys h k = each-append MarkFair xs ys h k

  -- ---- what a request does

  fair_all : (unit : ℕ) (covers : Command → Bool) → Fair (abort_all t a unit covers)
  fair_all unit covers = fair_both (map Leaves (filter covers (live_in unit t))) (answer a 0) (fair_map Leaves (filter covers (live_in unit t)) (λ c. tt)) (tt, tt)

  fair_found : {A : Type 0} (f : A → Mark) (x : Option A) → ((y : A) → MarkFair (f y)) → Fair (if_found f x ++ answer a 0)
  fair_found f None h = (tt, tt)
  fair_found f (Some y) h = (h y, (tt, tt))

  fair_missing : (facts_of o t a).is_missing ≡ true → Fair (deed_marks o t a Void)
  fair_missing h = by_known (is_received t n)
    where
      n : ℕ
      n = lift (exp_of o t) (ref_cmd_sn a.request)

      within : MarkFair (Voids n)
      within =
          let outer = and_parts (is_immediate a.request && nat_le (exp_of o t) n && nat_le n (max_of o t)) (nat_lt n a.number) h in
          let inner = and_parts (is_immediate a.request && nat_le (exp_of o t) n) (nat_le n (max_of o t)) outer.0 in
          let first = and_parts (is_immediate a.request) (nat_le (exp_of o t) n) inner.0 in
          let below : nat_le n (max_of o t) ≡ true = inner.1 in
          (first.0, (let z : n ≤ max_of o t = grind (arith, nat_tests) in z))

      by_known : (c : Bool) → Fair (cond c [] (Voids n ∷ []) ++ answer a 0)
      by_known true = (tt, tt)
      by_known false = (within, (tt, tt))

  fair_taken : (of_these : ℕ → Bool) → Fair (taken_out o t of_these)
  fair_taken of_these = fair_both (map Leaves _) (map Empties _) (fair_map Leaves (filter (λ (c : Command). of_these (connection_of c.arrival.request)) (live_of_units o t)) (λ c. tt)) (fair_map Empties (filter (λ (b : Arrival). of_these (connection_of b.request)) (all_held o t)) (λ b. tt))

  fair_end : Fair (end_session o t a)
  fair_end = fair_both (taken_out o t (λ conn. true) ++ parting a 0) (ClosesSession ∷ []) (fair_both (taken_out o t (λ conn. true)) (parting a 0) (fair_taken (λ conn. true)) (tt, tt)) (tt, tt)

  fair_close : (closing : ℕ) → Fair (close_conn o t a closing)
  fair_close closing =
      fair_both (taken_out o t (λ conn. conn == closing) ++ parting a 0) (ClosesConn closing ∷ cond (is_last_open o t closing) (ClosesSession ∷ []) [])
      (fair_both (taken_out o t (λ conn. conn == closing)) (parting a 0) (fair_taken (λ conn. conn == closing)) (tt, tt)) (tt, last (is_last_open o t closing))
    where
      last : (b : Bool) → Fair (cond b (ClosesSession ∷ []) [])
      last true = (tt, tt)
      last false = tt

  fair_deed : (d : Deed) → Befits (facts_of o t a) a.request d → Fair (deed_marks o t a d)
  fair_deed (Enter unit) b = ((refl, b.uncrowded), tt)
  fair_deed Void b = fair_missing b.1
  fair_deed (Empty unit sn) b = fair_found Empties _ (λ h. tt)
  fair_deed (Abort unit ticket) b = fair_found Leaves _ (λ c. tt)
  fair_deed (AbortEarlier unit) b = fair_all unit (is_before a)
  fair_deed (AbortAll unit) b = fair_all unit (λ x. true)
  fair_deed (CloseConn closing) b = fair_close closing
  fair_deed CloseSession b = fair_end
  fair_deed (Replies x) b = (tt, tt)
  fair_deed _ b = tt

  pub fair_function : Fair (function_marks o t a)
  fair_function = fair_deed _ (befits_function (facts_of o t a) a.request)

  pub fair_after : Fair (marks_after o t a)
  fair_after = fair_deed _ (befits_deed (facts_of o t a) a.request)

  pub fair_reply : (reply : Reply) → Fair (reply_on a reply)
  fair_reply reply = (tt, tt)

  -- ---- what is done

  pub fair_void : (d : Deeds) → Fair (marks_done a d) → Each (λ n. MarkFair (Voids n)) d.void
  fair_void d h = by_void d.void (each-first MarkFair (if_some Voids d.void) _ h)
    where
      by_void : (x : Option ℕ) → Fair (if_some Voids x) → Each (λ n. MarkFair (Voids n)) x
      by_void (Some n) h = h.0
      by_void None h = tt

  pub fair_enters : (d : Deeds) → Fair (marks_done a d) → Each (λ c. MarkFair (Enters c)) d.entering
  fair_enters d h =
      by_entering d.entering
      (each-first MarkFair (if_some Enters d.entering) _ (each-second MarkFair (map Empties d.emptied) _ (each-second MarkFair (map Leaves d.leaving) _ (each-second MarkFair (if_some Voids d.void) _ h))))
    where
      by_entering : (x : Option Command) → Fair (if_some Enters x) → Each (λ c. MarkFair (Enters c)) x
      by_entering (Some c) h = h.0
      by_entering None h = tt
