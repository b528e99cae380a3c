-- A request of an earlier event that isn't held, doesn't wait and isn't live is none of these again: none of it executes or completes.
use Rattle.std.proofs.Common.{◌≡◌, ℕ, ◌+◌, ◌<◌, ◌≤◌, ◌==◌, ◌&&◌, ◌||◌, ◌⊎◌, inl, inr, ⊎_elim, not, cond, Bool, true, false, List, [], ◌∷◌, ◌++◌, filter, filter_map, find, count_by, Option, Some, None, is_some, refl, ap, sym, subst, ◌∙◌, arith, eq-eqb}
use Rattle.std.specs.List.{list_any, cons_option}
use Rattle.std.specs.Option.{option_or}
use Rattle.std.proofs.lemmas.Bool.{false≢true, eqb-true}
use Rattle.std.proofs.lemmas.Bool.Decides.{nat_tests}
use Rattle.std.proofs.lemmas.List.Folds.{list_any-append, find-append}
use Rattle.iscsi_wire.specs.Fields.{connection_of}
use Rattle.iscsi_rules.specs.rules.Settings.{Setting}
use Rattle.iscsi_rules.specs.rules.Trace.{Arrival, Command, Mark, Admits, Delivers, Executes, Voids, Empties, Waits, Leaves, Enters, Sends, ClosesConn, ClosesSession, Ignores, Trace, shown, has, number_received, received, contains, is_received, admits_at, held, waiting, enters, entered, leaves_ticket, live, is_among}
use Rattle.iscsi_rules.proofs.general.BoolLemmas.{or_first, or_second, or_none}
use Rattle.iscsi_rules.proofs.general.CountLemmas.{one, count-cons}
use Rattle.iscsi_rules.proofs.general.ListLemmas.{any_filter, fewer_counted}
use Rattle.iscsi_rules.proofs.general.ElementLemmas.{In, in-append, first-in}
use Rattle.iscsi_rules.proofs.traces.HeldLemmas.{admitted_of_held, held_before}
use Rattle.iscsi_rules.proofs.items.Forms.{Start, AtTurn, AtArrival, AfterWaiting, start_mark, marks_done, Form, Ignored, Rejected, Received, Postponed, Completed, Executed, marks_of_form, Starts, Each, EntersAs, IsFormed, HasForm, is_arrival, HaveForms}
use Rattle.iscsi_rules.proofs.promises.MomentLemmas.{left_unlive}
use Rattle.iscsi_rules.proofs.promises.NumberingLemmas.{to_list, unseen}
use Rattle.iscsi_rules.proofs.promises.ReplyForms.{replies_seen}
use Rattle.iscsi_rules.proofs.promises.ReplyTurns.{admits_request, admitted_there}
use Rattle.iscsi_rules.proofs.items.TouchLemmas.{leaving_in, entering_in, enters_form, leaves_form, leaving_few}
use Rattle.iscsi_rules.proofs.traces.TraceLemmas.{live-item}
use Rattle.iscsi_outbox_rules.proofs.room.RoomSteps.{shrinks_done}
use Rattle.iscsi_ffi_rules.specs.rules.Needs.{admitted_by, is_of_event, is_held, is_waiting, is_live, is_ticket_of}
use Rattle.iscsi_ffi_rules.specs.rules.Happening.{answered_event}
use Rattle.iscsi_ffi_rules.proofs.Leavings.{has_ticket, none_with}

-- ---- lists

pub any_none : {A : Type 0} (f h : A → Bool) (xs : List A) → ((x : A) → f x ≡ false → h x ≡ false) → list_any f xs ≡ false → list_any h xs ≡ false
any_none f h [] turns none = refl
any_none f h (x ∷ xs) turns none =
    let parts = or_none (f x) (list_any f xs) none in
    ap (λ b. b || list_any h xs) (turns x parts.0) ∙ any_none f h xs turns parts.1

pub any_none_of_two : {A : Type 0} (f g h : A → Bool) (xs : List A) → ((x : A) → f x ≡ false → g x ≡ false → h x ≡ false) → list_any f xs ≡ false → list_any g xs ≡ false → list_any h xs ≡ false
any_none_of_two f g h [] turns none never = refl
any_none_of_two f g h (x ∷ xs) turns none never =
    let parts = or_none (f x) (list_any f xs) none in
    let others = or_none (g x) (list_any g xs) never in
    ap (λ b. b || list_any h xs) (turns x parts.0 others.0) ∙ any_none_of_two f g h xs turns parts.1 others.1

-- none of a part
pub none_filtered : {A : Type 0} (p q : A → Bool) (xs : List A) → list_any p xs ≡ false → list_any p (filter q xs) ≡ false
none_filtered p q xs none = any_filter p q xs ∙ any_none p (λ x. q x && p x) xs (λ x h. by_test (q x) (p x) h) none
  where
    by_test : (b c : Bool) → c ≡ false → (b && c) ≡ false
    by_test true c h = h
    by_test false c h = refl

pub both_none : {A : Type 0} (p : A → Bool) (xs ys : List A) → list_any p xs ≡ false → list_any p ys ≡ false → list_any p (xs ++ ys) ≡ false
both_none p xs ys h k = list_any-append p xs ys ∙ ap (λ b. b || list_any p ys) h ∙ k

any_of : {A : Type 0} (p : A → Bool) (xs : List A) (x : A) → In x xs → p x ≡ true → list_any p xs ≡ true
any_of p [] x h passes = absurd h
any_of p (y ∷ xs) x h passes =
    ⊎_elim
    (λ same. or_first (p y) (list_any p xs) (ap p same ∙ passes))
    (λ later. or_second (p y) (list_any p xs) (any_of p xs x later passes)) h

find_in : {A : Type 0} (p : A → Bool) (xs : List A) (x : A) → find p xs ≡ Some x → In x xs
find_in p [] x h = absurd cc
find_in p (y ∷ xs) x h =
    elim (p y) as (λ b. cond b (Some y) (find p xs) ≡ Some x → In x (y ∷ xs)) [
      | true ↦ λ here. inl (let same : y ≡ x = cc in same)
      | false ↦ λ later. inr (find_in p xs x later)
    ] h

find_none : {A : Type 0} (p : A → Bool) (xs : List A) → ((x : A) → In x xs → p x ≡ false) → find p xs ≡ None
find_none p [] h = refl
find_none p (y ∷ xs) h = ap (λ b. cond b (Some y) (find p xs)) (h y (inl refl)) ∙ find_none p xs (λ x there. h x (inr there))

pub none_counted : {A : Type 0} (p : A → Bool) (xs : List A) → list_any p xs ≡ false → count_by p xs ≤ 0
none_counted p [] h = omega arith
none_counted p (x ∷ xs) h =
    let parts = or_none (p x) (list_any p xs) h in
    omega (arith, count-cons p x xs, ap one parts.0, none_counted p xs parts.1)

pub counted_none : {A : Type 0} (p : A → Bool) (xs : List A) → count_by p xs ≤ 0 → list_any p xs ≡ false
counted_none p [] h = refl
counted_none p (x ∷ xs) h =
    let all : count_by p (x ∷ xs) ≡ one (p x) + count_by p xs = count-cons p x xs in
    elim (p x) as (λ b. one b + count_by p xs ≡ count_by p (x ∷ xs) → (b || list_any p xs) ≡ false) [
      | true ↦ λ many. absurd (let z : ⊥ = omega arith in z)
      | false ↦ λ rest. counted_none p xs (omega arith)
    ] (sym all)

-- ---- admitted requests

abbrev admits_in : Form → List Arrival
admits_in (Received a) = a ∷ []
admits_in _ = []

admits_form : (form : Form) → filter_map admitted_by (marks_of_form form) ≡ admits_in form
admits_form (Ignored why) = refl
admits_form (Rejected a) = refl
admits_form (Received a) = refl
admits_form (Postponed a) = refl
admits_form (Completed c status) = refl
admits_form (Executed start a d) = by_start start
  where
    done : filter_map admitted_by (marks_done a d) ≡ []
    done = replies_seen admitted_by (λ n. refl) (λ c. refl) (λ b. refl) (λ c. refl) (λ conn. refl) refl a d ∙ unseen admitted_by (Sends (connection_of a.request)) d.reply (λ reply. refl)

    by_start : (s : Start) → filter_map admitted_by (start_mark s a ∷ marks_done a d) ≡ []
    by_start AtTurn = done
    by_start AtArrival = done
    by_start AfterWaiting = done

same_admits : (ms : List Mark) → filter_map admits_request ms ≡ filter_map admitted_by ms
same_admits [] = refl
same_admits (Admits a ∷ ms) = ap (λ xs. a ∷ xs) (same_admits ms)
same_admits (Delivers a ∷ ms) = same_admits ms
same_admits (Executes a ∷ ms) = same_admits ms
same_admits (Voids n ∷ ms) = same_admits ms
same_admits (Empties a ∷ ms) = same_admits ms
same_admits (Waits a ∷ ms) = same_admits ms
same_admits (Leaves c ∷ ms) = same_admits ms
same_admits (Enters c ∷ ms) = same_admits ms
same_admits (Sends conn reply ∷ ms) = same_admits ms
same_admits (ClosesConn conn ∷ ms) = same_admits ms
same_admits (ClosesSession ∷ ms) = same_admits ms
same_admits (Ignores why ∷ ms) = same_admits ms

same_admitted : (t : Trace) → shown admits_request t ≡ shown admitted_by t
same_admitted [] = refl
same_admitted (item ∷ t) = ap (λ xs. xs ++ filter_map admits_request item) (same_admitted t) ∙ ap (λ xs. shown admitted_by t ++ xs) (same_admits item)

received_in : (ms : List Mark) (a : Arrival) → In a (filter_map admitted_by ms) → contains (filter_map number_received ms) a.number ≡ true
received_in [] a h = absurd h
received_in (Admits b ∷ ms) a h =
    ⊎_elim
    (λ same. or_first (b.number == a.number) (contains (filter_map number_received ms) a.number) (eq-eqb b.number a.number (ap (λ (x : Arrival). x.number) same)))
    (λ later. or_second (b.number == a.number) (contains (filter_map number_received ms) a.number) (received_in ms a later)) h
received_in (Delivers b ∷ ms) a h = received_in ms a h
received_in (Executes b ∷ ms) a h = received_in ms a h
received_in (Voids n ∷ ms) a h = or_second (n == a.number) (contains (filter_map number_received ms) a.number) (received_in ms a h)
received_in (Empties b ∷ ms) a h = received_in ms a h
received_in (Waits b ∷ ms) a h = received_in ms a h
received_in (Leaves c ∷ ms) a h = received_in ms a h
received_in (Enters c ∷ ms) a h = received_in ms a h
received_in (Sends conn reply ∷ ms) a h = received_in ms a h
received_in (ClosesConn conn ∷ ms) a h = received_in ms a h
received_in (ClosesSession ∷ ms) a h = received_in ms a h
received_in (Ignores why ∷ ms) a h = received_in ms a h

-- its number is received
admitted_received : (t : Trace) (a : Arrival) → In a (shown admitted_by t) → is_received t a.number ≡ true
admitted_received [] a h = absurd h
admitted_received (item ∷ t) a h =
    list_any-append (λ k. k == a.number) (received t) (filter_map number_received item)
    ∙ ⊎_elim
    (λ before. or_first (is_received t a.number) (contains (filter_map number_received item) a.number) (admitted_received t a before))
    (λ now. or_second (is_received t a.number) (contains (filter_map number_received item) a.number) (received_in item a now))
    (in-append (shown admitted_by t) (filter_map admitted_by item) a h)

apart : (m n : ℕ) → m < n → (m == n) ≡ false
apart m n less = grind (arith, nat_tests)

apart_from : (m n : ℕ) → n < m → (m == n) ≡ false
apart_from m n less = grind (arith, nat_tests)

-- the request that arrived in the event v isn't held, doesn't wait, and isn't live
pub record Out (v : ℕ) (t : Trace) : Type 0 where
  pub unheld : is_held v t ≡ false
  pub unwaiting : is_waiting v t ≡ false
  pub unlive : is_live v t ≡ false

module _ (o : Setting) where
  -- it is the one of its event
  record Only (next : ℕ) (admitted : List Arrival) (a : Arrival) : Type 0 where
    before : a.event < next
    is : find (is_of_event a.event) admitted ≡ Some a

  bounded : (b : Bool) (now next : ℕ) → now < next → cond b now (now + 1) ≤ next
  bounded true now next less = omega arith
  bounded false now next less = omega arith

  only_admitted : (t : Trace) (next : ℕ) → HaveForms o next t → (a : Arrival) → In a (shown admitted_by t) → Only next (shown admitted_by t) a
  only_admitted [] next x a h = absurd h
  only_admitted (item ∷ t) next x a h =
      let f : HasForm o x.0 t item = x.1.1.0 in
      let are : filter_map admitted_by item ≡ admits_in f.form = ap (filter_map admitted_by) f.is ∙ admits_form f.form in
      subst (λ xs. Only next (shown admitted_by t ++ xs) a) (sym are)
      (by_form (only_admitted t) x.0 x.1.0 f.form f.formed x.1.1.1 (in-append (shown admitted_by t) (admits_in f.form) a (subst (λ xs. In a (shown admitted_by t ++ xs)) are h)))
    where
      by_form : ((m : ℕ) → HaveForms o m t → (b : Arrival) → In b (shown admitted_by t) → Only m (shown admitted_by t) b) → (now : ℕ) → now < next → (form : Form) → IsFormed o now t form → HaveForms o (cond (is_arrival form) now (now + 1)) t
          → In a (shown admitted_by t) ⊎ In a (admits_in form) → Only next (shown admitted_by t ++ admits_in form) a
      by_form earlier now less form formed rest h =
          ⊎_elim
          (λ before.
          let k : Only (cond (is_arrival form) now (now + 1)) (shown admitted_by t) a = earlier (cond (is_arrival form) now (now + 1)) rest a before in
          record {
            before = omega (arith, k.before, bounded (is_arrival form) now next less);
            is = find-append (is_of_event a.event) (shown admitted_by t) (admits_in form) ∙ ap (λ y. option_or y (find (is_of_event a.event) (admits_in form))) k.is;
          })
          (λ here. by_new form formed rest here) h
        where
          by_new : (g : Form) → IsFormed o now t g → HaveForms o (cond (is_arrival g) now (now + 1)) t → In a (admits_in g) → Only next (shown admitted_by t ++ admits_in g) a
          by_new (Ignored why) formed rest here = absurd here
          by_new (Rejected b) formed rest here = absurd here
          by_new (Postponed b) formed rest here = absurd here
          by_new (Completed c status) formed rest here = absurd here
          by_new (Executed start b d) formed rest here = absurd here
          by_new (Received b) formed rest here =
              ⊎_elim
              (λ same.
              let event : a.event ≡ now = sym (ap (λ (y : Arrival). y.event) same) ∙ formed.0 in
              let none : find (is_of_event a.event) (shown admitted_by t) ≡ None
              = find_none (is_of_event a.event) (shown admitted_by t) (λ y there. apart y.event a.event (let z : y.event < a.event = omega (arith, (earlier now rest y there).before, event) in z)) in
              let itself : find (is_of_event a.event) (b ∷ []) ≡ Some a
              = ap (λ v. cond v (Some b) None) (eq-eqb b.event a.event (ap (λ (y : Arrival). y.event) same)) ∙ ap (λ (y : Arrival). Some y) same in
              record {
                before = omega (arith, event, less);
                is = find-append (is_of_event a.event) (shown admitted_by t) (b ∷ []) ∙ ap (λ y. option_or y (find (is_of_event a.event) (b ∷ []))) none ∙ itself;
              })
              (λ none. absurd none) here

  -- one that is held is held by its event
  held_is : (t : Trace) (next : ℕ) → HaveForms o next t → (a : Arrival) → held t a.number ≡ Some a → is_held a.event t ≡ true
  held_is t next x a h =
      let there : In a (shown admitted_by t) = subst (In a) (same_admitted t) (admitted_there a.number t a (first-in (shown (admits_at a.number) t) a (admitted_of_held t a.number a h))) in
      ap (λ y. elim y [ Some b ↦ is_some (held t b.number) | None ↦ false ]) (only_admitted t next x a there).is ∙ ap (λ y. is_some y) h

  -- ---- an event's request

  module _ (v now next : ℕ) (earlier : v < now) (t : Trace) (x : HaveForms o next t) where
    pub executes_other : Out v t → (start : Start) (a : Arrival) → Starts now t start a → (a.event == v) ≡ false
    executes_other out start a s = by_test (a.event == v) refl start s
      where
        by_test : (b : Bool) → (a.event == v) ≡ b → (st : Start) → Starts now t st a → (a.event == v) ≡ false
        by_test false is st h = is
        by_test true is AtTurn h =
            absurd (let same : a.event ≡ v = eqb-true a.event v is in false≢true (sym out.unheld ∙ ap (λ n. is_held n t) (sym same) ∙ held_is t next x a h))
        by_test true is AtArrival h = absurd (let same : a.event ≡ v = eqb-true a.event v is in let z : ⊥ = omega (arith, same, h) in z)
        by_test true is AfterWaiting h =
            absurd (let same : a.event ≡ v = eqb-true a.event v is in false≢true (sym out.unwaiting ∙ ap (λ n. list_any (λ (b : Arrival). b.event == n) (waiting t)) (sym same) ∙ h))

    -- no command of it enters
    pub entering_other : Out v t → (form : Form) → IsFormed o now t form → list_any (λ (c : Command). is_of_event v c.arrival) (filter_map enters (marks_of_form form)) ≡ false
    entering_other out form formed = ap (list_any (λ (c : Command). is_of_event v c.arrival)) (enters_form form) ∙ by_form form formed
      where
        by_form : (g : Form) → IsFormed o now t g → list_any (λ (c : Command). is_of_event v c.arrival) (to_list (entering_in g)) ≡ false
        by_form (Ignored why) h = refl
        by_form (Rejected a) h = refl
        by_form (Received a) h = refl
        by_form (Postponed a) h = refl
        by_form (Completed c status) h = refl
        by_form (Executed start a d) h = by_entering d.entering h.1.enters
          where
            by_entering : (y : Option Command) → Each (EntersAs o t a d) y → list_any (λ (c : Command). is_of_event v c.arrival) (to_list y) ≡ false
            by_entering None e = refl
            by_entering (Some c) e =
                let of_it : c.arrival ≡ a = ap (λ (z : Command). z.arrival) e.next in
                ap (λ (b : Arrival). (b.event == v) || false) of_it ∙ ap (λ b. b || false) (executes_other out start a h.0)

    -- none of it is answered
    pub answered_other : Out v t → (form : Form) → IsFormed o now t form → (answered_event now (marks_of_form form) == v) ≡ false
    answered_other out (Ignored why) h = apart_from now v earlier
    answered_other out (Rejected a) h = apart_from now v earlier
    answered_other out (Received a) h = apart_from now v earlier
    answered_other out (Postponed a) h = apart_from now v earlier
    answered_other out (Completed c status) h = by_test (c.arrival.event == v) refl
      where
        by_test : (b : Bool) → (c.arrival.event == v) ≡ b → (c.arrival.event == v) ≡ false
        by_test false is = is
        by_test true is = absurd (false≢true (sym out.unlive ∙ any_of (λ (d : Command). is_of_event v d.arrival) (live t) c h is))
    answered_other out (Executed AtTurn a d) h = executes_other out AtTurn a h.0
    answered_other out (Executed AtArrival a d) h = executes_other out AtArrival a h.0
    answered_other out (Executed AfterWaiting a d) h = executes_other out AfterWaiting a h.0

    -- ---- it stays so

    unheld_more : Out v t → (form : Form) → IsFormed o now t form → is_held v (marks_of_form form ∷ t) ≡ false
    unheld_more out form formed =
        ap (λ y. elim y [ Some a ↦ is_some (held (marks_of_form form ∷ t) a.number) | None ↦ false ])
        (find-append (is_of_event v) (shown admitted_by t) (filter_map admitted_by (marks_of_form form)) ∙ ap (λ xs. option_or (find (is_of_event v) (shown admitted_by t)) (find (is_of_event v) xs)) (admits_form form))
        ∙ by_found (find (is_of_event v) (shown admitted_by t)) refl out.unheld
      where
        unadmitted : (n : ℕ) → is_received t n ≡ true → (g : Form) → IsFormed o now t g → filter_map (admits_at n) (marks_of_form g) ≡ []
        unadmitted n there (Ignored why) h = refl
        unadmitted n there (Rejected a) h = refl
        unadmitted n there (Postponed a) h = refl
        unadmitted n there (Completed c status) h = refl
        unadmitted n there (Received a) h = by_number (a.number == n) refl
          where
            by_number : (b : Bool) → (a.number == n) ≡ b → cons_option (cond (a.number == n) (Some a) None) [] ≡ []
            by_number true is = absurd (false≢true (sym h.1 ∙ ap (is_received t) (eqb-true a.number n is) ∙ there))
            by_number false is = ap (λ w. cons_option (cond w (Some a) None) []) is
        unadmitted n there (Executed start a d) h = by_start start
          where
            done : filter_map (admits_at n) (marks_done a d) ≡ []
            done = replies_seen (admits_at n) (λ k. refl) (λ c. refl) (λ b. refl) (λ c. refl) (λ conn. refl) refl a d ∙ unseen (admits_at n) (Sends (connection_of a.request)) d.reply (λ reply. refl)

            by_start : (s : Start) → filter_map (admits_at n) (start_mark s a ∷ marks_done a d) ≡ []
            by_start AtTurn = done
            by_start AtArrival = done
            by_start AfterWaiting = done

        new_none : (g : Form) → IsFormed o now t g → find (is_of_event v) (admits_in g) ≡ None
        new_none (Ignored why) h = refl
        new_none (Rejected a) h = refl
        new_none (Postponed a) h = refl
        new_none (Completed c status) h = refl
        new_none (Executed start a d) h = refl
        new_none (Received a) h = ap (λ n. cond (n == v) (Some a) None) h.0 ∙ ap (λ w. cond w (Some a) None) (apart_from now v earlier)

        by_held : (a : Arrival) → In a (shown admitted_by t) → is_some (held t a.number) ≡ false → (y : Option Arrival) → held (marks_of_form form ∷ t) a.number ≡ y → is_some y ≡ false
        by_held a there none None is = refl
        by_held a there none (Some h) is =
            absurd (false≢true (sym none ∙ ap (λ z. is_some z) (held_before (marks_of_form form) t a.number h (unadmitted a.number (admitted_received t a there) form formed) is)))

        by_found : (y : Option Arrival) → find (is_of_event v) (shown admitted_by t) ≡ y → elim y [ Some a ↦ is_some (held t a.number) | None ↦ false ] ≡ false
            → elim (option_or y (find (is_of_event v) (admits_in form))) [ Some a ↦ is_some (held (marks_of_form form ∷ t) a.number) | None ↦ false ] ≡ false
        by_found (Some a) is none = by_held a (find_in (is_of_event v) (shown admitted_by t) a is) none (held (marks_of_form form ∷ t) a.number) refl
        by_found None is none = ap (λ y. elim y [ Some a ↦ is_some (held (marks_of_form form ∷ t) a.number) | None ↦ false ]) (new_none form formed)

    unwaiting_more : Out v t → (form : Form) → IsFormed o now t form → is_waiting v (marks_of_form form ∷ t) ≡ false
    unwaiting_more out (Ignored why) h = out.unwaiting
    unwaiting_more out (Rejected a) h = out.unwaiting
    unwaiting_more out (Received a) h = out.unwaiting
    unwaiting_more out (Completed c status) h = out.unwaiting
    unwaiting_more out (Postponed a) h =
        both_none (is_of_event v) (waiting t) (a ∷ []) out.unwaiting (ap (λ n. (n == v) || false) h ∙ ap (λ b. b || false) (apart_from now v earlier))
    unwaiting_more out (Executed start a d) h = counted_none (is_of_event v) (waiting (marks_of_form (Executed start a d) ∷ t)) (by_start start)
      where
        few : count_by (is_of_event v) (waiting t) ≤ 0
        few = none_counted (is_of_event v) (waiting t) out.unwaiting

        by_start : (s : Start) → count_by (is_of_event v) (waiting ((start_mark s a ∷ marks_done a d) ∷ t)) ≤ 0
        by_start AtTurn = omega (arith, few, shrinks_done a d (is_of_event v) (waiting t))
        by_start AtArrival =
            omega (arith, few, shrinks_done a d (is_of_event v) (filter (λ b. not (b.event == a.event)) (waiting t)), fewer_counted (is_of_event v) (λ b. not (b.event == a.event)) (waiting t))
        by_start AfterWaiting =
            omega (arith, few, shrinks_done a d (is_of_event v) (filter (λ b. not (b.event == a.event)) (waiting t)), fewer_counted (is_of_event v) (λ b. not (b.event == a.event)) (waiting t))

    unlive_more : Out v t → (form : Form) → IsFormed o now t form → is_live v (marks_of_form form ∷ t) ≡ false
    unlive_more out form formed =
        let ms : List Mark = marks_of_form form in
        let p : Command → Bool = λ c. is_of_event v c.arrival in
        let stays : Command → Bool = λ c. not (list_any (leaves_ticket c.ticket) ms) in
        let comes : Command → Bool = λ c. not (has (leaves_ticket c.ticket) (ms ∷ t)) in
        ap (list_any p) (live-item ms t)
        ∙ both_none p (filter stays (live t)) (filter comes (filter_map enters ms)) (none_filtered p stays (live t) out.unlive) (none_filtered p comes (filter_map enters ms) (entering_other out form formed))

    pub out_more : Out v t → (form : Form) → IsFormed o now t form → Out v (marks_of_form form ∷ t)
    out_more out form formed = record { unheld = unheld_more out form formed; unwaiting = unwaiting_more out form formed; unlive = unlive_more out form formed }

    -- ---- its tickets

    -- a command that didn't leave isn't its own
    pub unlive_ticket : Out v t → (k : ℕ) → has (leaves_ticket k) t ≡ false → is_ticket_of v t k ≡ false
    unlive_ticket out k stays =
        any_none (λ (c : Command). not (has (leaves_ticket c.ticket) t) && is_of_event v c.arrival) (λ (c : Command). is_of_event v c.arrival && c.ticket == k) (entered t)
        (λ c none. by_tests c (is_of_event v c.arrival) (c.ticket == k) refl none)
        (sym (any_filter (λ (c : Command). is_of_event v c.arrival) (λ (c : Command). not (has (leaves_ticket c.ticket) t)) (entered t)) ∙ out.unlive)
      where
        by_tests : (c : Command) (p q : Bool) → (c.ticket == k) ≡ q → (not (has (leaves_ticket c.ticket) t) && p) ≡ false → (p && q) ≡ false
        by_tests c true true is none =
            absurd (false≢true (sym none ∙ ap (λ b. not b && true) (ap (λ n. has (leaves_ticket n) t) (eqb-true c.ticket k is) ∙ stays)))
        by_tests c true false is none = refl
        by_tests c false q is none = refl

    -- nor is one that leaves
    pub left_other : Out v t → (form : Form) → IsFormed o now t form → (k : ℕ) → list_any (leaves_ticket k) (marks_of_form form) ≡ true → is_ticket_of v t k ≡ false
    left_other out form formed k leaves = by_left (has (leaves_ticket k) t) refl
      where
        among : is_among k (leaving_in form) ≡ true
        among = sym (leaves_form k form) ∙ leaves

        some_leave : (b : Bool) → is_among k (live t) ≡ b → is_among k (live t) ≡ true
        some_leave true is = is
        some_leave false is =
            absurd (
            let none : count_by (has_ticket k) (leaving_in form) ≤ 0 = omega (arith, leaving_few o now t form formed (has_ticket k), none_with k (live t) is) in
            false≢true (sym (counted_none (has_ticket k) (leaving_in form) none) ∙ among))

        by_left : (b : Bool) → has (leaves_ticket k) t ≡ b → is_ticket_of v t k ≡ false
        by_left false is = unlive_ticket out k is
        by_left true is = absurd (false≢true (sym (left_unlive t k is) ∙ some_leave (is_among k (live t)) refl))

    -- and none that enters
    pub ticket_more : Out v t → (form : Form) → IsFormed o now t form → (k : ℕ) → is_ticket_of v t k ≡ false → is_ticket_of v (marks_of_form form ∷ t) k ≡ false
    ticket_more out form formed k none =
        both_none (λ (c : Command). is_of_event v c.arrival && c.ticket == k) (entered t) (filter_map enters (marks_of_form form)) none
        (any_none (λ (c : Command). is_of_event v c.arrival) (λ (c : Command). is_of_event v c.arrival && c.ticket == k) (filter_map enters (marks_of_form form)) (λ c h. ap (λ b. b && c.ticket == k) h) (entering_other out form formed))
