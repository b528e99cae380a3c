-- The Logout by which a session hears of a lost connection closes that connection.
use Rattle.std.proofs.Common.{◌≡◌, ℕ, ◌+◌, ◌*◌, ◌-◌, ◌/◌, ◌%◌, ◌==◌, ◌||◌, not, cond, Bool, true, false, List, [], ◌∷◌, ◌++◌, refl, ap, sym, subst, ◌∙◌, arith, eq-eqb}
use Rattle.std.specs.List.{list_any}
use Rattle.std.proofs.lemmas.List.Folds.{list_any-append}
use Rattle.iscsi_wire.specs.Fields.{cid, request_of}
use Rattle.iscsi_rules.specs.declared.event.Event.TheVariants.{Arrive}
use Rattle.iscsi_rules.specs.declared.deed.Answer.TheVariants.{LogOut}
use Rattle.iscsi_rules.specs.declared.deed.Deed.{Deed}
use Rattle.iscsi_rules.specs.declared.deed.Deed.TheVariants.{Reply as Replies, CloseConn}
use Rattle.iscsi_rules.specs.rules.Deeds.{deed_marks, marks_after}
use Rattle.iscsi_rules.specs.rules.Agenda.{arrival_of, arrival_open, items_of, with_turns}
use Rattle.iscsi_rules.specs.rules.Execution.{exp_of, ignored}
use Rattle.iscsi_rules.specs.declared.effect.Why.TheVariants.{Closed}
use Rattle.iscsi_rules.specs.rules.Items.{agenda, execution}
use Rattle.iscsi_rules.specs.rules.Logout.{close_conn, is_last_open, is_open, parting as parted, taken_out}
use Rattle.iscsi_rules.specs.rules.Run.{after_event}
use Rattle.iscsi_rules.specs.rules.Settings.{Setting, is_known}
use Rattle.iscsi_rules.specs.rules.Trace.{Arrival, ClosesConn, ClosesSession, Executes, Mark, Trace, after_items, closes_conn, closes_session, has, is_closed, is_ended}
use Rattle.iscsi_rules.proofs.general.BoolLemmas.{and_both, or_first, or_second}
use Rattle.iscsi_ffi_rules.specs.rules.Run.{parting}

-- ---- what is closed stays closed

closed_more : (c : ℕ) (item : List Mark) (t : Trace) → is_closed c t ≡ true → is_closed c (item ∷ t) ≡ true
closed_more c item t h = by_bools (list_any closes_session item) (is_ended t) (list_any (closes_conn c) item) (has (closes_conn c) t) h
  where
    by_bools : (s e n k : Bool) → (e || k) ≡ true → ((s || e) || (n || k)) ≡ true
    by_bools true e n k h = refl
    by_bools false true n k h = refl
    by_bools false false true k h = refl
    by_bools false false false k h = h

pub closed_on : (c : ℕ) (items : List (List Mark)) (t : Trace) → is_closed c t ≡ true → is_closed c (after_items items t) ≡ true
closed_on c [] t h = h
closed_on c (item ∷ items) t h = closed_on c items (item ∷ t) (closed_more c item t h)

-- ---- the Logout

-- what it does, by whether the connection is open
abbrev pub deed_if : Bool → ℕ → Deed
deed_if open_still conn = cond open_still (CloseConn conn) (Replies (LogOut 1))

-- it closes
closes_it : (o : Setting) (t : Trace) (a : Arrival) (c : ℕ) → list_any (closes_conn c) (close_conn o t a c) ≡ true
closes_it o t a c =
    list_any-append (closes_conn c) (taken_out o t (λ conn. conn == c) ++ parted a 0) (ClosesConn c ∷ cond (is_last_open o t c) (ClosesSession ∷ []) [])
    ∙ or_second (list_any (closes_conn c) (taken_out o t (λ conn. conn == c) ++ parted a 0)) (list_any (closes_conn c) (ClosesConn c ∷ cond (is_last_open o t c) (ClosesSession ∷ []) []))
    (or_first (c == c) (list_any (closes_conn c) (cond (is_last_open o t c) (ClosesSession ∷ []) [])) (eq-eqb c c refl))

module _ (o : Setting) (now : ℕ) (t : Trace) (conn : ℕ) (known : is_known conn o.conns ≡ true) (unclosed : is_closed conn t ≡ false) where
  abbrev a : Arrival
  a = arrival_of o now t (request_of conn (parting conn))

  abbrev begun : Trace
  begun = (Executes a ∷ []) ∷ t

  pub names_it : cid (request_of conn (parting conn)) ≡ conn
  names_it = both conn
    where
      both : (n : ℕ) → 256 * (256 * 0 + n / 256) + n % 256 ≡ n
      both n = omega arith

  marks_are : (k : ℕ) → is_open o begun k ≡ true → list_any (closes_conn k) (deed_marks o begun a (deed_if (is_open o begun k) k)) ≡ true
  marks_are k there = ap (λ v. list_any (closes_conn k) (deed_marks o begun a (deed_if v k))) there ∙ closes_it o begun a k

  closes_marks : list_any (closes_conn conn) (marks_after o begun a) ≡ true
  closes_marks =
      subst (λ k. list_any (closes_conn conn) (deed_marks o begun a (deed_if (is_open o begun k) k)) ≡ true) (sym names_it)
      (marks_are conn (and_both (is_known conn o.conns) (not (is_closed conn begun)) known (ap not unclosed)))

  pub items_are : items_of o now t (Arrive conn (parting conn)) ≡ with_turns o t (execution o t (Executes a) a)
  items_are = ap (λ v. cond v (ignored Closed) (arrival_open o t a)) unclosed

  pub parting_closes : is_closed conn (after_event o now t (Arrive conn (parting conn))) ≡ true
  parting_closes =
      let item : List Mark = execution o t (Executes a) a in
      ap (λ items. is_closed conn (after_items items t)) items_are
      ∙ closed_on conn (agenda o (exp_of o t) (exp_of o (item ∷ t) - exp_of o t) (item ∷ t)) (item ∷ t)
      (or_second (is_ended (item ∷ t)) (has (closes_conn conn) (item ∷ t)) (or_first (list_any (closes_conn conn) item) (has (closes_conn conn) t) closes_marks))
