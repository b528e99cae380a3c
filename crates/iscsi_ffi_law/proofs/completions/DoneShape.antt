-- The end of a command as an event: its item, what the log shows of it, and what stays as it was in the session.
use Rattle.std.proofs.Common.{◌≡◌, ℕ, zero, suc, ◌+◌, ◌≤◌, ◌==◌, ◌||◌, ⊎_elim, not, cond, Bool, true, false, List, [], ◌∷◌, ◌++◌, length, map, count_by, filter, filter_map, find, nat_lt, Option, Some, None, is_some, refl, ap, sym, ◌∙◌, arith, lt-ltb, le-ltb, ne_eqb, length-append}
use Rattle.std.specs.List.{cons_option, flat_map, list_any, range_with_len}
use Rattle.std.proofs.lemmas.Bool.{false≢true, or_right, cases_eq, cases_lt, not-true}
use Rattle.std.proofs.lemmas.List.{append-nil}
use Rattle.iscsi_wire.specs.declared.reply.Reply.{Reply}
use Rattle.iscsi_wire.specs.declared.reply.Reply.TheVariants.{Scsi}
use Rattle.iscsi_wire.specs.Fields.{connection_of, itt}
use Rattle.iscsi_rules.specs.declared.effect.Effect.{Effect}
use Rattle.iscsi_rules.specs.declared.effect.Effect.TheVariants.{Enable, Leave, Send}
use Rattle.iscsi_rules.specs.declared.entry.Entry.{Entry}
use Rattle.iscsi_rules.specs.declared.event.Event.TheVariants.{Done}
use Rattle.iscsi_rules.specs.rules.Agenda.{command_of}
use Rattle.iscsi_rules.specs.rules.Execution.{completion, sense_of_status}
use Rattle.iscsi_rules.specs.rules.Run.{effects_of, entry_of, newly_enabled, numbers_of, stat_sn_of}
use Rattle.iscsi_rules.specs.rules.Settings.{Setting}
use Rattle.iscsi_rules.specs.rules.Trace.{Arrival, Command, Leaves, Mark, Sends, Trace, admits_at, after_items, enabled_in, entered, first_of, has, held, is_delivered, is_emptied, leaves_ticket, live, shown, was_free, is_free_at}
use Rattle.iscsi_rules.specs.promises.Order.{in_parts, onto_first}
use Rattle.iscsi_rules.proofs.general.BoolLemmas.{or_false}
use Rattle.iscsi_rules.proofs.general.CountLemmas.{one, count-cons}
use Rattle.iscsi_rules.proofs.general.ElementLemmas.{In, in-append, in-filter}
use Rattle.iscsi_rules.proofs.general.ListLemmas.{filter-shorter}
use Rattle.iscsi_outbox_rules.specs.rules.Items.{ticket_enabled}
use Rattle.iscsi_ffi_rules.specs.rules.Needs.{admitted_by, is_held, is_of_event, is_waiting}

-- ---- the item

abbrev pub done_reply : Command → ℕ → Reply
done_reply d status = Scsi (itt d.arrival.request) status (sense_of_status status)

abbrev pub done_item : Command → ℕ → List Mark
done_item d status = Leaves d ∷ Sends (connection_of d.arrival.request) (done_reply d status) ∷ []

abbrev pub done_trace : Trace → Command → ℕ → Trace
done_trace t d status = done_item d status ∷ t

abbrev pub enables : List Command → List Effect
enables ns = map (λ (c : Command). Enable c.ticket c.unit) ns

abbrev pub tickets_of : List Command → List ℕ
tickets_of ns = map (λ (c : Command). c.ticket) ns

abbrev pub news : Setting → Trace → Command → ℕ → List Command
news o t d status = newly_enabled o t (done_item d status)

abbrev pub done_effects : Setting → Trace → Command → ℕ → List Effect
done_effects o t d status = Leave d.ticket d.unit ∷ Send (connection_of d.arrival.request) (stat_sn_of o t (connection_of d.arrival.request)) (done_reply d status) ∷ enables (news o t d status)

abbrev pub done_entry : Setting → Trace → Command → ℕ → Entry
done_entry o t d status = record { numbers = numbers_of o (done_trace t d status); effects = done_effects o t d status }

pub entry_is : (o : Setting) (event : ℕ) (t : Trace) (d : Command) (status : ℕ) → command_of t d.ticket ≡ Some d → entry_of o event t (Done d.ticket status) ≡ done_entry o t d status
entry_is o event t d status found = ap by_command found ∙ ap with_effects (append-nil (enables (news o t d status)))
  where
    by_command : Option Command → Entry
    by_command x = record { numbers = numbers_of o (after_items (completion status x) t); effects = effects_of o t (completion status x) }

    with_effects : List Effect → Entry
    with_effects es = record {
      numbers = numbers_of o (done_trace t d status);
      effects = Leave d.ticket d.unit ∷ Send (connection_of d.arrival.request) (stat_sn_of o t (connection_of d.arrival.request)) (done_reply d status) ∷ es;
    }

-- ---- commands that are enabled

pub enabled_tickets : (ns : List Command) → filter_map ticket_enabled (enables ns) ≡ tickets_of ns
enabled_tickets [] = refl
enabled_tickets (n ∷ ns) = ap (λ ks. n.ticket ∷ ks) (enabled_tickets ns)

-- they show nothing else
pub shows_none : {A : Type 0} (f : Effect → Option A) (ns : List Command) → ((ticket unit : ℕ) → f (Enable ticket unit) ≡ None) → filter_map f (enables ns) ≡ []
shows_none f [] none = refl
shows_none f (n ∷ ns) none = ap (λ x. cons_option x (filter_map f (enables ns))) (none n.ticket n.unit) ∙ shows_none f ns none

pub gives_none : {A : Type 0} (f : Effect → List A) (ns : List Command) → ((ticket unit : ℕ) → f (Enable ticket unit) ≡ []) → flat_map f (enables ns) ≡ []
gives_none f [] none = refl
gives_none f (n ∷ ns) none = ap (λ xs. xs ++ flat_map f (enables ns)) (none n.ticket n.unit) ∙ gives_none f ns none

pub none_is : (p : Effect → Bool) (ns : List Command) → ((ticket unit : ℕ) → p (Enable ticket unit) ≡ false) → list_any p (enables ns) ≡ false
none_is p [] none = refl
none_is p (n ∷ ns) none = ap (λ v. v || list_any p (enables ns)) (none n.ticket n.unit) ∙ none_is p ns none

pub parts_enabled : (ns : List Command) → in_parts (enables ns) ≡ enables ns ∷ []
parts_enabled [] = refl
parts_enabled (n ∷ ns) = ap (onto_first (Enable n.ticket n.unit)) (parts_enabled ns)

-- the event is one item
pub one_part : (o : Setting) (t : Trace) (d : Command) (status : ℕ) → in_parts (done_effects o t d status) ≡ done_effects o t d status ∷ []
one_part o t d status = ap (λ rest. onto_first (Leave d.ticket d.unit) (onto_first (Send (connection_of d.arrival.request) (stat_sn_of o t (connection_of d.arrival.request)) (done_reply d status)) rest)) (parts_enabled (news o t d status))

-- ---- what is in a unit, and of which units

in_units : (P : Command → Type 0) (f : ℕ → List Command) (us : List ℕ) → ((u : ℕ) (x : Command) → In x (f u) → P x) → (x : Command) → In x (flat_map f us) → P x
in_units P f [] all x there = absurd there
in_units P f (u ∷ us) all x there = ⊎_elim (λ here. all u x here) (λ later. in_units P f us all x later) (in-append (f u) (flat_map f us) x there)

-- one that the item enables
pub record IsNew (t t' : Trace) (x : Command) : Type 0 where
  pub there : In x (entered t')
  pub lives : has (leaves_ticket x.ticket) t' ≡ false
  pub free : was_free x t' ≡ true
  pub barred : was_free x t ≡ false

pub new_ones : (o : Setting) (t : Trace) (item : List Mark) (x : Command) → In x (newly_enabled o t item) → IsNew t (item ∷ t) x
new_ones o t item x there = in_units (IsNew t (item ∷ t)) (λ unit. filter (λ c. not (was_free c t)) (enabled_in unit (item ∷ t))) (range_with_len 0 o.units) in_unit x there
  where
    in_unit : (unit : ℕ) (y : Command) → In y (filter (λ c. not (was_free c t)) (enabled_in unit (item ∷ t))) → IsNew t (item ∷ t) y
    in_unit unit y at =
        let a = in-filter (λ c. not (was_free c t)) (enabled_in unit (item ∷ t)) y at in
        let b = in-filter (λ c. was_free c (item ∷ t)) (filter (λ (c : Command). c.unit == unit) (live (item ∷ t))) y a.0 in
        let c = in-filter (λ (c : Command). c.unit == unit) (live (item ∷ t)) y b.0 in
        let e = in-filter (λ (c : Command). not (has (leaves_ticket c.ticket) (item ∷ t))) (entered (item ∷ t)) y c.0 in
        record { there = e.0; lives = not-true (has (leaves_ticket y.ticket) (item ∷ t)) e.1; free = b.1; barred = not-true (was_free y t) a.1 }

-- no more are enabled than are live
pub few_units : (f : ℕ → List Command) (cs : List Command) → ((u : ℕ) → length (f u) ≤ count_by (λ (c : Command). c.unit == u) cs) → (a n : ℕ) → length (flat_map f (range_with_len a n)) ≤ count_by (λ (c : Command). not (nat_lt c.unit a)) cs
few_units f cs few a zero = omega arith
few_units f cs few a (suc n) =
    let rest = few_units f cs few (a + 1) n in
    omega (arith, rest, few a, length-append (f a) (flat_map f (range_with_len (a + 1) n)), split cs)
  where
    small : (v : Bool) → one v ≤ 1
    small true = omega arith
    small false = omega arith

    each : (x : ℕ) → one (x == a) + one (not (nat_lt x (a + 1))) ≤ one (not (nat_lt x a))
    each x =
        ⊎_elim
        (λ below.
        let p : one (x == a) ≡ 0 = ap one (ne_eqb x a (λ same. omega (arith, same, below))) in
        let q : one (not (nat_lt x (a + 1))) ≡ 0 = ap (λ v. one (not v)) (lt-ltb x (a + 1) (omega (arith, below))) in
        omega (arith, p, q))
        (λ from.
        let r : one (not (nat_lt x a)) ≡ 1 = ap (λ v. one (not v)) (le-ltb x a from) in
        ⊎_elim
        (λ same.
        let q : one (not (nat_lt x (a + 1))) ≡ 0 = ap (λ v. one (not v)) (lt-ltb x (a + 1) (omega (arith, same))) in
        omega (arith, q, r, small (x == a)))
        (λ other.
        let p : one (x == a) ≡ 0 = ap one (ne_eqb x a other) in
        omega (arith, p, r, small (not (nat_lt x (a + 1))))) (cases_eq x a))
        (cases_lt x a)

    split : (ds : List Command) → count_by (λ (c : Command). c.unit == a) ds + count_by (λ (c : Command). not (nat_lt c.unit (a + 1))) ds ≤ count_by (λ (c : Command). not (nat_lt c.unit a)) ds
    split [] = omega arith
    split (x ∷ ds) = omega (arith, split ds, each x.unit, count-cons (λ (c : Command). c.unit == a) x ds, count-cons (λ (c : Command). not (nat_lt c.unit (a + 1))) x ds, count-cons (λ (c : Command). not (nat_lt c.unit a)) x ds)

pub filter_counted : (p : Command → Bool) (cs : List Command) → length (filter p cs) ≡ count_by p cs
filter_counted p [] = refl
filter_counted p (c ∷ cs) = by_test (filter_counted p cs) (p c) refl
  where
    by_test : length (filter p cs) ≡ count_by p cs → (v : Bool) → p c ≡ v → length (cond v (c ∷ filter p cs) (filter p cs)) ≡ count_by p (c ∷ cs)
    by_test rest true is = let here : one (p c) ≡ 1 = ap one is in omega (arith, rest, here, count-cons p c cs)
    by_test rest false is = let here : one (p c) ≡ 0 = ap one is in omega (arith, rest, here, count-cons p c cs)

pub few_counted : (p : Command → Bool) (cs : List Command) → count_by p cs ≤ length cs
few_counted p cs = omega (arith, filter_counted p cs, filter-shorter p cs)

pub few_new : (o : Setting) (t : Trace) (item : List Mark) → length (newly_enabled o t item) ≤ length (live (item ∷ t))
few_new o t item =
    let all = few_units (λ unit. filter (λ c. not (was_free c t)) (enabled_in unit (item ∷ t))) (live (item ∷ t)) in_unit 0 o.units in
    omega (arith, all, few_counted (λ (c : Command). not (nat_lt c.unit 0)) (live (item ∷ t)))
  where
    in_unit : (u : ℕ) → length (filter (λ c. not (was_free c t)) (enabled_in u (item ∷ t))) ≤ count_by (λ (c : Command). c.unit == u) (live (item ∷ t))
    in_unit u = omega (
      arith,
      filter-shorter (λ c. not (was_free c t)) (enabled_in u (item ∷ t)),
      filter-shorter (λ c. was_free c (item ∷ t)) (filter (λ (c : Command). c.unit == u) (live (item ∷ t))),
      filter_counted (λ (c : Command). c.unit == u) (live (item ∷ t)),
    )

-- ---- what stays as it was

module _ (t : Trace) (d : Command) (status : ℕ) where
  pub entered_same : entered (done_trace t d status) ≡ entered t
  entered_same = append-nil (entered t)

  pub left_too : (k : ℕ) → has (leaves_ticket k) (done_trace t d status) ≡ ((d.ticket == k) || has (leaves_ticket k) t)
  left_too k = ap (λ v. v || has (leaves_ticket k) t) (or_false (d.ticket == k))

  pub free_still : (c : Command) → was_free c t ≡ true → was_free c (done_trace t d status) ≡ true
  free_still c was = or_right (is_free_at c (done_trace t d status)) (was_free c t) was

  held_same : (n : ℕ) → held (done_trace t d status) n ≡ held t n
  held_same n = ap by_admitted (append-nil (shown (admits_at n) t))
    where
      by_admitted : List Arrival → Option Arrival
      by_admitted xs = cond (is_delivered t n || is_emptied t n) None (first_of xs)

  pub is_held_same : (event : ℕ) → is_held event (done_trace t d status) ≡ is_held event t
  is_held_same event = ap by_shown (append-nil (shown admitted_by t)) ∙ by_found (find (is_of_event event) (shown admitted_by t))
    where
      by_shown : List Arrival → Bool
      by_shown xs = elim (find (is_of_event event) xs) [ Some a ↦ is_some (held (done_trace t d status) a.number) | None ↦ false ]

      by_found : (x : Option Arrival) → ◌≡◌ {A = Bool} (elim x [ Some a ↦ is_some (held (done_trace t d status) a.number) | None ↦ false ]) (elim x [ Some a ↦ is_some (held t a.number) | None ↦ false ])
      by_found None = refl
      by_found (Some a) = ap is_some (held_same a.number)

  pub is_waiting_same : (event : ℕ) → is_waiting event (done_trace t d status) ≡ is_waiting event t
  is_waiting_same event = refl

  -- no more are live
  pub few_live : length (live (done_trace t d status)) ≤ length (live t)
  few_live =
      let same : live (done_trace t d status) ≡ filter (λ (c : Command). not (has (leaves_ticket c.ticket) (done_trace t d status))) (entered t) = ap (filter (λ (c : Command). not (has (leaves_ticket c.ticket) (done_trace t d status)))) (append-nil (entered t)) in
      let long = ap length same in
      omega (arith, long, fewer (entered t))
    where
      fewer : (cs : List Command) → length (filter (λ (c : Command). not (has (leaves_ticket c.ticket) (done_trace t d status))) cs) ≤ length (filter (λ (c : Command). not (has (leaves_ticket c.ticket) t)) cs)
      fewer [] = omega arith
      fewer (c ∷ cs) = by_tests (fewer cs) (has (leaves_ticket c.ticket) t) (has (leaves_ticket c.ticket) (done_trace t d status)) refl refl
        where
          by_tests : length (filter (λ (x : Command). not (has (leaves_ticket x.ticket) (done_trace t d status))) cs) ≤ length (filter (λ (x : Command). not (has (leaves_ticket x.ticket) t)) cs)
              → (v w : Bool) → has (leaves_ticket c.ticket) t ≡ v → has (leaves_ticket c.ticket) (done_trace t d status) ≡ w
              → length (cond (not w) (c ∷ filter (λ (x : Command). not (has (leaves_ticket x.ticket) (done_trace t d status))) cs) (filter (λ (x : Command). not (has (leaves_ticket x.ticket) (done_trace t d status))) cs))
              ≤ length (cond (not v) (c ∷ filter (λ (x : Command). not (has (leaves_ticket x.ticket) t)) cs) (filter (λ (x : Command). not (has (leaves_ticket x.ticket) t)) cs))
          by_tests rest true true gone after = rest
          by_tests rest false true gone after = omega (arith, rest)
          by_tests rest false false gone after = omega (arith, rest)
          by_tests rest true false gone after = absurd (false≢true (sym after ∙ left_too c.ticket ∙ or_right (d.ticket == c.ticket) (has (leaves_ticket c.ticket) t) gone))
