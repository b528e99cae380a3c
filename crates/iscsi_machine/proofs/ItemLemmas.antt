-- A state agrees with a trace after an item: its marks one after the other, and the moment at its end.
use Rattle.std.proofs.Common.{◌≡◌, ℕ, ◌+◌, ◌<◌, ◌≤◌, ◌==◌, ◌&&◌, ◌||◌, not, inl, inr, Bool, true, false, List, [], ◌∷◌, ◌++◌, map, filter, count_by, Option, Some, None, refl, ap, sym, ◌∙◌, arith, append_assoc, eq-eqb}
use Rattle.std.specs.List.{filter_map, cons_option, list_any, flat_map, range_with_len}
use Rattle.std.proofs.lemmas.Bool.Decides.{nat_tests}
use Rattle.std.proofs.lemmas.List.{append-nil}
use Rattle.iscsi_wire.specs.Serial.{wire}
use Rattle.iscsi_tasks.specs.Rules.{is_free}
use Rattle.iscsi_rules.specs.declared.effect.Effect.TheVariants.{Enable, Send}
use Rattle.iscsi_rules.specs.rules.Settings.{Setting}
use Rattle.iscsi_rules.specs.rules.Trace.{Command, Mark, Admits, Delivers, Executes, Voids, Empties, Waits, Leaves, Enters, Sends, ClosesConn, ClosesSession, Ignores, Trace, after_items, has, shown, first_of, number_received, admits_at, delivers_number, empties_number, waiting, waiting_through, enters, leaves_ticket, entered, live, live_in, is_among, queued_of, was_free, enabled_in, sent_on, closes_conn, closes_session}
use Rattle.iscsi_rules.specs.rules.Run as Rules
use Rattle.iscsi_rules.proofs.general.BoolLemmas.{and_false}
use Rattle.iscsi_rules.proofs.general.ElementLemmas.{In, filter-in, in-any}
use Rattle.iscsi_rules.proofs.general.ListLemmas.{filter-map, map-map}
use Rattle.iscsi_rules.proofs.traces.NewlyLemmas.{filter-twice, never_free}
use Rattle.iscsi_machine.specs.Machine.{Member, State, Stage, commands, after_mark, after_marks, is_free_now, moment, newly_enabled, effects_of_mark, does}
use Rattle.iscsi_machine.proofs.Ascending.{filter-same_in}
use Rattle.iscsi_machine.proofs.Agreement.{flagged, Agrees, numbers-at, held-at, commands-at, more, Allowed, mark_agrees}

-- ---- the marks one after the other

-- each as an item
abbrev pub singles : List Mark → Trace → Trace
singles [] t = t
singles (m ∷ ms) t = singles ms (more m t)

abbrev pub AllAllowed : Setting → State → Trace → List Mark → Type 0
AllAllowed o s t [] = Unit {0}
AllAllowed o s t (m ∷ ms) = Allowed o s t m × AllAllowed o (after_mark s m) (more m t) ms

pub marks_agree : (o : Setting) (now : ℕ) (w : Command → Bool) (s : State) (t : Trace) (ms : List Mark) → Agrees o now w s t → AllAllowed o s t ms → Agrees o now w (after_marks s ms) (singles ms t)
marks_agree o now w s t [] a all = a
marks_agree o now w s t (m ∷ ms) a all = marks_agree o now w (after_mark s m) (more m t) ms (mark_agrees o now w s t a m all.0) all.1

cons_first : {A : Type 0} (x : Option A) (ys : List A) → cons_option x [] ++ ys ≡ cons_option x ys
cons_first None ys = refl
cons_first (Some x) ys = refl

shown-singles : {A : Type 0} (view : Mark → Option A) (ms : List Mark) (t : Trace) → shown view t ++ filter_map view ms ≡ shown view (singles ms t)
shown-singles view [] t = append-nil (shown view t)
shown-singles view (m ∷ ms) t =
    ap (λ ys. shown view t ++ ys) (sym (cons_first (view m) (filter_map view ms))) ∙ sym (append_assoc (shown view t) (cons_option (view m) []) (filter_map view ms))
    ∙ shown-singles view ms (more m t)

or_three : (a b c : Bool) → ((a || b) || c) ≡ (b || ((a || false) || c))
or_three true true c = refl
or_three true false c = refl
or_three false true c = refl
or_three false false c = refl

has-singles : (test : Mark → Bool) (ms : List Mark) (t : Trace) → (list_any test ms || has test t) ≡ has test (singles ms t)
has-singles test [] t = refl
has-singles test (m ∷ ms) t = or_three (test m) (list_any test ms) (has test t) ∙ has-singles test ms (more m t)

waiting-singles : (ms : List Mark) (t : Trace) → waiting (singles ms t) ≡ waiting_through ms (waiting t)
waiting-singles [] t = refl
waiting-singles (m ∷ ms) t = waiting-singles ms (more m t)

-- marks of one item, or each of an item of its own: the state agrees
pub item_agrees : (o : Setting) (now : ℕ) (w : Command → Bool) (s : State) (t : Trace) (item : List Mark) → Agrees o now w s (singles item t) → Agrees o now w s (item ∷ t)
item_agrees o now w s t item a = record {
  numbers = numbers-at o s.exp s.above (singles item t) (item ∷ t) (shown-singles number_received item t) a.numbers;
  held = record {
    same = λ n. a.held.same n ∙ sym (held-at (singles item t) (item ∷ t) n (ap first_of (shown-singles (admits_at n) item t)) (has-singles (delivers_number n) item t) (has-singles (empties_number n) item t));
    rising = a.held.rising;
    within = a.held.within;
    undone = λ n new.
        let p = a.held.undone n (ap (λ xs. list_any (λ k. k == n) xs) (sym (shown-singles number_received item t)) ∙ new) in
        (has-singles (delivers_number n) item t ∙ p.0, has-singles (empties_number n) item t ∙ p.1);
  };
  waiting = a.waiting ∙ waiting-singles item t;
  commands = commands-at w s.live s.entered (singles item t) (item ∷ t) (shown-singles enters item t) (λ k. has-singles (leaves_ticket k) item t) a.commands;
  closings = record { each = λ conn. a.closings.each conn ∙ sym (has-singles (closes_conn conn) item t); session = a.closings.session ∙ sym (has-singles closes_session item t) };
  replies = λ conn. a.replies conn ∙ ap (λ xs. Rules.first_stat_sn o conn + count_by (λ k. k == conn) xs) (sym (shown-singles sent_on item t));
  event = a.event;
}

-- ---- the commands

pub map-same_in : {A B : Type 0} (f g : A → B) (xs : List A) → ((x : A) → In x xs → f x ≡ g x) → map f xs ≡ map g xs
map-same_in f g [] h = refl
map-same_in f g (x ∷ xs) h = ap (λ y. y ∷ map f xs) (h x (inl refl)) ∙ ap (λ ys. g x ∷ ys) (map-same_in f g xs (λ y k. h y (inr k)))

map-itself : {A : Type 0} (xs : List A) → map (λ x. x) xs ≡ xs
map-itself [] = refl
map-itself (x ∷ xs) = ap (λ ys. x ∷ ys) (map-itself xs)

pub commands_of : (w : Command → Bool) (cs : List Command) → map (λ (m : Member). m.command) (map (flagged w) cs) ≡ cs
commands_of w cs = map-map (λ (m : Member). m.command) (flagged w) cs ∙ map-itself cs

pub commands_same : (o : Setting) (now : ℕ) (w : Command → Bool) (s : State) (t : Trace) → Agrees o now w s t → commands s ≡ live t
commands_same o now w s t a = ap (map (λ (m : Member). m.command)) a.commands.same ∙ commands_of w (live t)

-- those of a unit that pass a test of members
pub members_of : (w : Command → Bool) (p : Member → Bool) (cs : List Command) → map (λ (m : Member). m.command) (filter p (map (flagged w) cs)) ≡ filter (λ c. p (flagged w c)) cs
members_of w p cs = ap (map (λ (m : Member). m.command)) (filter-map p (flagged w) cs) ∙ commands_of w (filter (λ c. p (flagged w c)) cs)

among_live : (t : Trace) (c : Command) → In c (live t) → is_among c.ticket (live_in c.unit t) ≡ true
among_live t c there =
    in-any (λ (d : Command). d.ticket == c.ticket) (live_in c.unit t) c (filter-in (λ (d : Command). d.unit == c.unit) (live t) c there (eq-eqb c.unit c.unit refl)) (eq-eqb c.ticket c.ticket refl)

unentered : (n k : ℕ) (cs : List Command) → ((c : Command) → In c cs → c.ticket ≤ n) → n < k → is_among k cs ≡ false
unentered n k [] low high = refl
unentered n k (c ∷ cs) low high =
    let up : c.ticket ≤ n = low c (inl refl) in
    let apart : (c.ticket == k) ≡ false = grind (arith, nat_tests) in
    ap (λ b. b || is_among k cs) apart ∙ unentered n k cs (λ d there. low d (inr there)) high

-- ---- the moment at the end of an item

module _ (o : Setting) (now : ℕ) (s : State) (t : Trace) (item : List Mark) (a : Agrees o now (λ c. was_free c t) s (item ∷ t)) where
  free_same : (c : Command) → is_free_now s c ≡ is_free (queued_of c) (map queued_of (live_in c.unit (item ∷ t)))
  free_same c = ap (λ cs. is_free (queued_of c) (map queued_of (filter (λ (d : Command). d.unit == c.unit) cs))) (commands_same o now (λ d. was_free d t) s (item ∷ t) a)

  -- a live command is free, or was so before
  free_or_was : (c : Command) → In c (live (item ∷ t)) → (is_free_now s c || was_free c t) ≡ was_free c (item ∷ t)
  free_or_was c there = ap (λ b. b || was_free c t) (free_same c) ∙ ap (λ b. (b && is_free (queued_of c) (map queued_of (live_in c.unit (item ∷ t)))) || was_free c t) (sym (among_live (item ∷ t) c there))

  pub moment_agrees : Agrees o now (λ c. was_free c (item ∷ t)) (moment s) (item ∷ t)
  moment_agrees = record {
    numbers = a.numbers;
    held = a.held;
    waiting = a.waiting;
    commands = record {
      same =
          ap (map (λ (m : Member). record { command = m.command; enabled = is_free_now s m.command || m.enabled })) a.commands.same
          ∙ map-map (λ (m : Member). record { command = m.command; enabled = is_free_now s m.command || m.enabled }) (flagged (λ c. was_free c t)) (live (item ∷ t))
          ∙ map-same_in (λ c. record { command = c; enabled = is_free_now s c || was_free c t }) (flagged (λ c. was_free c (item ∷ t))) (live (item ∷ t)) (λ c there. ap (λ b. record { command = c; enabled = b }) (free_or_was c there));
      count = a.commands.count;
      tickets = a.commands.tickets;
      unleft = a.commands.unleft;
      unseen = λ c high. never_free c (item ∷ t) (unentered s.entered c.ticket (entered (item ∷ t)) a.commands.tickets high);
    };
    closings = a.closings;
    replies = a.replies;
    event = a.event;
  }

  new_and_free : (u f b : Bool) → (u && f && not b) ≡ ((u && (f || b)) && not b)
  new_and_free true f true = and_false f ∙ sym (and_false (f || true))
  new_and_free true true false = refl
  new_and_free true false false = refl
  new_and_free false f b = refl

  -- the commands of a unit for which it is new
  newly_of : (unit : ℕ) → map (λ (m : Member). m.command) (filter (λ m. m.command.unit == unit && is_free_now s m.command && not m.enabled) s.live) ≡ filter (λ c. not (was_free c t)) (enabled_in unit (item ∷ t))
  newly_of unit =
      ap (λ ms. map (λ (m : Member). m.command) (filter (λ m. m.command.unit == unit && is_free_now s m.command && not m.enabled) ms)) a.commands.same
      ∙ members_of (λ c. was_free c t) (λ m. m.command.unit == unit && is_free_now s m.command && not m.enabled) (live (item ∷ t))
      ∙ filter-same_in (λ c. c.unit == unit && is_free_now s c && not (was_free c t)) (λ c. (c.unit == unit && was_free c (item ∷ t)) && not (was_free c t)) (live (item ∷ t))
      (λ c there. new_and_free (c.unit == unit) (is_free_now s c) (was_free c t) ∙ ap (λ b. (c.unit == unit && b) && not (was_free c t)) (free_or_was c there))
      ∙ sym (filter-twice (λ c. not (was_free c t)) (λ c. c.unit == unit && was_free c (item ∷ t)) (live (item ∷ t)))
      ∙ ap (filter (λ c. not (was_free c t))) (sym (filter-twice (λ c. was_free c (item ∷ t)) (λ c. c.unit == unit) (live (item ∷ t))))

  newly_in : (units : List ℕ)
      → flat_map (λ unit. map (λ (m : Member). m.command) (filter (λ m. m.command.unit == unit && is_free_now s m.command && not m.enabled) s.live)) units
      ≡ flat_map (λ unit. filter (λ c. not (was_free c t)) (enabled_in unit (item ∷ t))) units
  newly_in [] = refl
  newly_in (unit ∷ units) = ap (λ cs. cs ++ flat_map (λ u. map (λ (m : Member). m.command) (filter (λ m. m.command.unit == u && is_free_now s m.command && not m.enabled) s.live)) units) (newly_of unit) ∙ ap (λ cs. filter (λ c. not (was_free c t)) (enabled_in unit (item ∷ t)) ++ cs) (newly_in units)

  pub newly_same : newly_enabled o s ≡ Rules.newly_enabled o t item
  newly_same = newly_in (range_with_len 0 o.units)

-- ---- what is told of it

mark_told : (o : Setting) (now : ℕ) (w : Command → Bool) (s : State) (t : Trace) → Agrees o now w s t → (m : Mark) → effects_of_mark s m ≡ Rules.effects_of_mark o t m
mark_told o now w s t a (Admits b) = refl
mark_told o now w s t a (Delivers b) = refl
mark_told o now w s t a (Executes b) = refl
mark_told o now w s t a (Voids n) = refl
mark_told o now w s t a (Empties b) = refl
mark_told o now w s t a (Waits b) = refl
mark_told o now w s t a (Leaves c) = refl
mark_told o now w s t a (Enters c) = refl
mark_told o now w s t a (Sends conn reply) = ap (λ n. Send conn (wire n) reply ∷ []) (a.replies conn)
mark_told o now w s t a (ClosesConn conn) = refl
mark_told o now w s t a ClosesSession = refl
mark_told o now w s t a (Ignores why) = refl

marks_told : (o : Setting) (now : ℕ) (w : Command → Bool) (s : State) (t : Trace) → Agrees o now w s t → (ms : List Mark) → flat_map (effects_of_mark s) ms ≡ flat_map (Rules.effects_of_mark o t) ms
marks_told o now w s t a [] = refl
marks_told o now w s t a (m ∷ ms) = ap (λ es. es ++ flat_map (effects_of_mark s) ms) (mark_told o now w s t a m) ∙ ap (λ es. Rules.effects_of_mark o t m ++ es) (marks_told o now w s t a ms)

-- ---- an item

abbrev pub Fits : Setting → ℕ → State → Trace → Type 0
Fits o now s t = Agrees o now (λ c. was_free c t) s t

-- a stage of the event, from which items lead to another one
pub record Leads (o : Setting) (now : ℕ) (d : Stage) (t : Trace) (items : List (List Mark)) (d' : Stage) : Type 0 where
  pub fits : Fits o now d'.state (after_items items t)
  pub told : d'.effects ≡ d.effects ++ Rules.effects_of o t items

pub item_leads : (o : Setting) (now : ℕ) (d : Stage) (t : Trace) (item : List Mark) → Fits o now d.state t → AllAllowed o d.state t item → Leads o now d t (item ∷ []) (does o item d)
item_leads o now d t item a all =
    let after : Agrees o now (λ c. was_free c t) (after_marks d.state item) (item ∷ t) = item_agrees o now (λ c. was_free c t) (after_marks d.state item) t item (marks_agree o now (λ c. was_free c t) d.state t item a all) in
    record {
      fits = moment_agrees o now (after_marks d.state item) t item after;
      told =
          ap (λ es. d.effects ++ (es ++ map (λ (c : Command). Enable c.ticket c.unit) (newly_enabled o (after_marks d.state item)))) (marks_told o now (λ c. was_free c t) d.state t a item)
          ∙ ap (λ cs. d.effects ++ (flat_map (Rules.effects_of_mark o t) item ++ map (λ (c : Command). Enable c.ticket c.unit) cs)) (newly_same o now (after_marks d.state item) t item after)
          ∙ ap (λ es. d.effects ++ es) (sym (append-nil (Rules.effects_of_item o t item)));
    }
