-- Items by which commands enter and leave, and the commands with a ticket.
use Rattle.std.proofs.Common.{List, ap, count_by, not, ◌∷◌, ◌≡◌, [], refl, ◌&&◌, ◌==◌, Bool, filter, length, ℕ, ◌++◌, ◌∙◌, ◌+◌, false, ◌||◌, cond, true, None, Some, eq-eqb, arith, nat_lt, map}
use Rattle.std.specs.List.{list_any, filter_map, list_all, range_with_len, flat_map}
use Rattle.std.proofs.lemmas.List.{append-nil}
use Rattle.std.proofs.lemmas.Bool.Decides.{nat_tests}
use Rattle.iscsi_wire.specs.Fields.{is_immediate, connection_of, itt}
use Rattle.iscsi_wire.specs.declared.reply.Reply.TheVariants.{Scsi}
use Rattle.iscsi_rules.proofs.general.ListLemmas.{none_left}
use Rattle.iscsi_rules.proofs.items.DeedLemmas.{views, tests}
use Rattle.iscsi_rules.specs.rules.Trace.{Command, Mark, Trace, Admits, Arrival, entered, enters, leaves_ticket, live, live_in, is_among, are_apart, first_of, Leaves, waiting_through, sent_on}
use Rattle.iscsi_rules.specs.rules.Execution.{unfinished, reply_on, sense_of_status}
use Rattle.iscsi_rules.specs.rules.Settings.{Setting}
use Rattle.iscsi_rules.proofs.traces.NewlyLemmas.{any_in_units as any_of_units, Untouched, live-untouched, both_all}
use Rattle.iscsi_rules.proofs.traces.TraceLemmas.{live-leaves, weaker}
use Rattle.iscsi_rules.proofs.general.ListLemmas.{any_filter, filter-swap, none_passes}
use Rattle.iscsi_rules.proofs.general.BoolLemmas.{and_parts, not_true, and_true, alike, and_both, same_alike}
use Rattle.iscsi_rules.proofs.traces.ApartLemmas.{unamong-filter, eq_sym}
use Rattle.iscsi_rules.proofs.traces.DeliveryLemmas.{IsQuiet}
use Rattle.iscsi_wire.specs.declared.reply.Reply.{Reply}
use Rattle.iscsi_rules.proofs.items.ClosingItems.{ClosesNone}
use Rattle.iscsi_rules.specs.declared.effect.Effect.TheVariants.{Leave, Send}
use Rattle.iscsi_rules.specs.rules.Run.{effects_of_mark, stat_sn_of}

-- ---- an item that nothing enters or leaves by

-- nothing enters or leaves
pub unfinished-untouched : (item : List Mark) (t : Trace) → Untouched item → unfinished (item ∷ t) ≡ unfinished t
unfinished-untouched item t u = ap (λ (cs : List Command). count_by (λ (c : Command). not (is_immediate c.arrival.request)) cs) (live-untouched item t u)

pub untouched-admits : (a : Arrival) → Untouched (Admits a ∷ [])
untouched-admits a = record { enters_none = refl; leaves_no = λ k. refl }

pub entered-untouched : (item : List Mark) (t : Trace) → Untouched item → entered (item ∷ t) ≡ entered t
entered-untouched item t u = ap (λ cs. entered t ++ cs) u.enters_none ∙ append-nil (entered t)

-- ---- a command enters

pub record EntersOne (item : List Mark) (t : Trace) (c : Command) : Type 0 where
  pub one : filter_map enters item ≡ c ∷ []
  pub leaves_no : (k : ℕ) → list_any (leaves_ticket k) item ≡ false
  pub ticket : c.ticket ≡ length (entered t) + 1

-- ---- commands leave

-- the item is the leaving of the commands with these tickets
pub record LeavesSome (item : List Mark) (out : ℕ → Bool) : Type 0 where
  pub enters_none : filter_map enters item ≡ []
  pub some : (k : ℕ) → list_any (leaves_ticket k) item ≡ out k

pub live-left : (item : List Mark) (t : Trace) (out : ℕ → Bool) → LeavesSome item out → live (item ∷ t) ≡ filter (λ c. not (out c.ticket)) (live t)
live-left item t out l = live-leaves item t out l.enters_none l.some

-- ---- the commands of a unit, when some leave

pub live_in-left : (item : List Mark) (t : Trace) (out : ℕ → Bool) (unit : ℕ) → LeavesSome item out → live_in unit (item ∷ t) ≡ filter (λ c. not (out c.ticket)) (live_in unit t)
live_in-left item t out unit l = ap (filter (λ (c : Command). c.unit == unit)) (live-left item t out l) ∙ filter-swap (λ (c : Command). c.unit == unit) (λ (c : Command). not (out c.ticket)) (live t)

-- those that leave are all in this unit
abbrev pub are_all_in : ℕ → (ℕ → Bool) → List Command → Bool
are_all_in unit out cs = list_all (λ c. not (out c.ticket) || (c.unit == unit)) cs

elsewhere_kept : (out : ℕ → Bool) (unit other : ℕ) (cs : List Command) → are_all_in unit out cs ≡ true → (other == unit) ≡ false → filter (λ c. not (out c.ticket)) (filter (λ c. c.unit == other) cs) ≡ filter (λ c. c.unit == other) cs
elsewhere_kept out unit other [] all elsewhere = refl
elsewhere_kept out unit other (x ∷ cs) all elsewhere = grind (arith, elsewhere_kept out unit other cs)

pub live_in-left_elsewhere : (item : List Mark) (t : Trace) (out : ℕ → Bool) (unit : ℕ) → LeavesSome item out → are_all_in unit out (live t) ≡ true → (other : ℕ) → (other == unit) ≡ false → live_in other (item ∷ t) ≡ live_in other t
live_in-left_elsewhere item t out unit l all other elsewhere = live_in-left item t out other l ∙ elsewhere_kept out unit other (live t) all elsewhere

-- ---- the command with a ticket

-- where no command has the ticket, none that also passes a test has it
none_with : (w : Command → Bool) (k : ℕ) (cs : List Command) → is_among k cs ≡ false → filter (λ c. c.ticket == k && w c) cs ≡ []
none_with w k [] h = refl
none_with w k (c ∷ cs) h = grind (arith, none_with w k cs)

pub none_any : (w : Command → Bool) (k : ℕ) (cs : List Command) → is_among k cs ≡ false → list_any (λ c. c.ticket == k && w c) cs ≡ false
none_any w k [] h = refl
none_any w k (c ∷ cs) h = grind (arith, none_any w k cs)

-- the one command with the ticket passes, or none
pub first_passing : (w : Command → Bool) (k : ℕ) (cs : List Command) (c : Command) → are_apart cs ≡ true → first_of (filter (λ d. d.ticket == k) cs) ≡ Some c
    → (first_of (filter (λ d. d.ticket == k && w d) cs) ≡ cond (w c) (Some c) None) × (list_any (λ d. d.ticket == k && w d) (filter (λ d. d.unit == c.unit) cs) ≡ w c)
first_passing w k [] c apart found = absurd cc
first_passing w k (x ∷ cs) c apart found = grind (arith, nat_tests, first_passing w k cs c, none_with, none_any, unamong-filter)

pub none_passing : (w : Command → Bool) (k : ℕ) (cs : List Command) → first_of (filter (λ d. d.ticket == k) cs) ≡ None → first_of (filter (λ d. d.ticket == k && w d) cs) ≡ None
none_passing w k [] none = refl
none_passing w k (x ∷ cs) none = grind (arith, none_passing w k cs)

-- ---- a completion

pub first_passes : (p q : Command → Bool) (cs : List Command) (c : Command) → list_all q cs ≡ true → first_of (filter p cs) ≡ Some c → q c ≡ true
first_passes p q [] c all found = absurd cc
first_passes p q (x ∷ cs) c all found = grind (arith, first_passes p q cs c)

abbrev pub completion_item : Command → ℕ → List Mark
completion_item c status = Leaves c ∷ reply_on c.arrival (Scsi (itt c.arrival.request) status (sense_of_status status))

pub quiet-completion : (c : Command) (status : ℕ) → IsQuiet (completion_item c status)
quiet-completion c status = record { receives = refl; admits = λ n. refl; delivers_none = refl; delivers_no = λ n. refl; empties_no = λ n. refl }

-- the command is among those of its unit
pub among_unit : (k : ℕ) (cs : List Command) → list_any (λ (d : Command). d.ticket == k && true) cs ≡ is_among k cs
among_unit k [] = refl
among_unit k (c ∷ cs) = ap (λ b. b || list_any (λ (d : Command). d.ticket == k && true) cs) (and_true (c.ticket == k)) ∙ ap (λ b. (c.ticket == k) || b) (among_unit k cs)

-- ---- the commands of the units, one unit after the other

-- some command passes just where one of some unit does
pub any_in_units : (p : Command → Bool) (n : ℕ) (cs : List Command) → list_all (λ c. nat_lt c.unit n) cs ≡ true → list_any (λ unit. list_any p (filter (λ (c : Command). c.unit == unit) cs)) (range_with_len 0 n) ≡ list_any p cs
any_in_units p n cs inside = grind (arith, any_filter, any_of_units)

-- ---- the marks by which commands leave

pub leaves_only : (cs : List Command) (ms : List Mark) (k : ℕ) → list_any (leaves_ticket k) (map Leaves cs ++ ms) ≡ (is_among k cs || list_any (leaves_ticket k) ms)
leaves_only cs ms k = simp tests

pub enters_only : (cs : List Command) (ms : List Mark) → filter_map enters (map Leaves cs ++ ms) ≡ filter_map enters ms
enters_only cs ms = simp views

-- ---- commands leave, and a function is answered

pub quiet-leaving : (cs : List Command) (a : Arrival) (reply : Reply) → IsQuiet (map Leaves cs ++ reply_on a reply)
quiet-leaving cs a reply =
    record { receives = simp views; admits = λ n. simp views; delivers_none = simp views; delivers_no = λ n. simp tests; empties_no = λ n. simp tests }

pub leaving-enters : (cs : List Command) (a : Arrival) (reply : Reply) → filter_map enters (map Leaves cs ++ reply_on a reply) ≡ []
leaving-enters cs a reply = simp views

pub leaving-calm : (cs : List Command) (a : Arrival) (reply : Reply) (ws : List Arrival) → waiting_through (map Leaves cs ++ reply_on a reply) ws ≡ ws
leaving-calm [] a reply ws = refl
leaving-calm (c ∷ cs) a reply ws = leaving-calm cs a reply ws

pub leaving-closes : (cs : List Command) (a : Arrival) (reply : Reply) → ClosesNone (map Leaves cs ++ reply_on a reply)
leaving-closes cs a reply = record { session = simp tests; conns = λ c. simp tests }

pub leaving-sends : (cs : List Command) (a : Arrival) (reply : Reply) → filter_map sent_on (map Leaves cs ++ reply_on a reply) ≡ connection_of a.request ∷ []
leaving-sends cs a reply = simp views

pub leaving-tickets : (cs : List Command) (a : Arrival) (reply : Reply) (k : ℕ) → list_any (leaves_ticket k) (map Leaves cs ++ reply_on a reply) ≡ is_among k cs
leaving-tickets cs a reply k = simp tests

pub leaving-shown : (o : Setting) (t : Trace) (cs : List Command) (a : Arrival) (reply : Reply)
    → flat_map (effects_of_mark o t) (map Leaves cs ++ reply_on a reply) ≡ map (λ (c : Command). Leave c.ticket c.unit) cs ++ Send (connection_of a.request) (stat_sn_of o t (connection_of a.request)) reply ∷ []
leaving-shown o t [] a reply = refl
leaving-shown o t (c ∷ cs) a reply = ap (λ es. Leave c.ticket c.unit ∷ es) (leaving-shown o t cs a reply)

-- ---- a command has the ticket of one that passes just where it passes

pub among_passing : (q : Command → Bool) (cs : List Command) → are_apart cs ≡ true → list_all (λ c. alike (is_among c.ticket (filter q cs)) (q c)) cs ≡ true
among_passing q [] apart = refl
among_passing q (x ∷ cs) apart =
    let parts = and_parts (not (is_among x.ticket cs)) (are_apart cs) apart in
    let rest : List Command = filter q cs in
    let gone : is_among x.ticket cs ≡ false = not_true (is_among x.ticket cs) parts.0 in
    and_both (alike (is_among x.ticket (filter q (x ∷ cs))) (q x)) (list_all (λ c. alike (is_among c.ticket (filter q (x ∷ cs))) (q c)) cs)
    (elim (q x) as (λ b. alike (is_among x.ticket (cond b (x ∷ rest) rest)) b ≡ true) [
      | true ↦ same_alike (is_among x.ticket (x ∷ rest)) true (ap (λ b. b || is_among x.ticket rest) (eq-eqb x.ticket x.ticket refl))
      | false ↦ same_alike (is_among x.ticket rest) false (unamong-filter q x.ticket cs gone)
    ])
    (weaker (λ c. not (c.ticket == x.ticket) && alike (is_among c.ticket rest) (q c)) (λ c. alike (is_among c.ticket (filter q (x ∷ cs))) (q c)) cs
    (λ c h.
    let both = and_parts (not (c.ticket == x.ticket)) (alike (is_among c.ticket rest) (q c)) h in
    let apart_here : (x.ticket == c.ticket) ≡ false = eq_sym x.ticket c.ticket ∙ not_true (c.ticket == x.ticket) both.0 in
    elim (q x) as (λ b. alike (is_among c.ticket (cond b (x ∷ rest) rest)) (q c) ≡ true) [
      | true ↦ ap (λ b. alike (b || is_among c.ticket rest) (q c)) apart_here ∙ both.1
      | false ↦ both.1
    ])
    (both_all (λ c. not (c.ticket == x.ticket)) (λ c. alike (is_among c.ticket rest) (q c)) cs (none_passes (λ c. c.ticket == x.ticket) cs gone) (among_passing q cs parts.1)))

-- no other command has the ticket of the first that passes
pub ticket_alone : (q : Command → Bool) (cs : List Command) (c : Command) → are_apart cs ≡ true → first_of (filter q cs) ≡ Some c → (filter (λ d. d.ticket == c.ticket) cs ≡ c ∷ []) × (is_among c.ticket cs ≡ true)
ticket_alone q [] c apart found = absurd cc
ticket_alone q (x ∷ cs) c apart found = grind (arith, ticket_alone q cs c, none_left (λ e. e.ticket == x.ticket) cs)
