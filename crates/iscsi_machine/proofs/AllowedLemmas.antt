-- The marks that the rules give may come: from the form of an item.
use Rattle.std.proofs.Common.{◌≡◌, ℕ, ◌+◌, ◌≤◌, not, inl, inr, cond, Bool, true, false, List, [], ◌∷◌, ◌++◌, map, count_by, Option, Some, None, refl, ap, sym, subst, ◌∙◌, arith, nat_lt}
use Rattle.std.specs.List.{filter_map}
use Rattle.std.proofs.lemmas.Bool.Decides.{nat_tests}
use Rattle.iscsi_wire.specs.declared.reply.Reply.{Reply}
use Rattle.iscsi_wire.specs.Fields.{connection_of}
use Rattle.iscsi_rules.specs.rules.Settings.{Setting}
use Rattle.iscsi_rules.specs.rules.Trace.{Arrival, Command, Mark, Delivers, Executes, Voids, Empties, Leaves, Enters, Sends, ClosesConn, ClosesSession, Trace, is_received, contains, number_received, entered, live, has, leaves_ticket}
use Rattle.iscsi_rules.proofs.general.BoolLemmas.{or_first}
use Rattle.iscsi_rules.proofs.general.ElementLemmas.{In, in-filter}
use Rattle.iscsi_rules.proofs.general.CountLemmas.{count-cons, count-one}
use Rattle.iscsi_rules.proofs.traces.TraceLemmas.{received-item}
use Rattle.iscsi_rules.proofs.traces.HeldLemmas.{held_received}
use Rattle.iscsi_rules.proofs.items.Forms.{Start, AtTurn, AtArrival, AfterWaiting, start_mark, Deeds, if_some, Each, begun, EntersAs}
use Rattle.iscsi_rules.proofs.items.FormItems.{Does}
use Rattle.iscsi_machine.specs.Machine.{State, after_mark}
use Rattle.iscsi_machine.proofs.Agreement.{Agrees, more, numbers_kept}
use Rattle.iscsi_machine.proofs.ItemLemmas.{AllAllowed}

received_still : (m : Mark) (t : Trace) (k : ℕ) → is_received t k ≡ true → is_received (more m t) k ≡ true
received_still m t k is = received-item (m ∷ []) t k ∙ or_first (is_received t k) (contains (filter_map number_received (m ∷ [])) k) is

module _ (o : Setting) (conn : ℕ) (reply : Option Reply) (closing : Option ℕ) (ending : Bool) where
  abbrev last_marks : List Mark
  last_marks = if_some (Sends conn) reply ++ (if_some ClosesConn closing ++ cond ending (ClosesSession ∷ []) [])

  last_allowed : (s : State) (t : Trace) → AllAllowed o s t last_marks
  last_allowed s t = by_parts reply closing ending
    where
      by_parts : (r : Option Reply) (c : Option ℕ) (e : Bool) → AllAllowed o s t (if_some (Sends conn) r ++ (if_some ClosesConn c ++ cond e (ClosesSession ∷ []) []))
      by_parts (Some r) (Some c) true = (tt, (tt, (tt, tt)))
      by_parts (Some r) (Some c) false = (tt, (tt, tt))
      by_parts (Some r) None true = (tt, (tt, tt))
      by_parts (Some r) None false = (tt, tt)
      by_parts None (Some c) true = (tt, (tt, tt))
      by_parts None (Some c) false = (tt, tt)
      by_parts None None true = (tt, tt)
      by_parts None None false = tt

  -- a command that enters has the next ticket
  enters_allowed : (entering : Option Command) (s : State) (t : Trace) → Each (λ c. c.ticket ≡ s.entered + 1) entering → AllAllowed o s t (if_some Enters entering ++ last_marks)
  enters_allowed (Some c) s t next = (next, last_allowed (after_mark s (Enters c)) (more (Enters c) t))
  enters_allowed None s t next = last_allowed s t

  -- what is taken out was received
  empties_allowed : (bs : List Arrival) (entering : Option Command) (s : State) (t : Trace) → ((b : Arrival) → In b bs → is_received t b.number ≡ true) → Each (λ c. c.ticket ≡ s.entered + 1) entering
      → AllAllowed o s t (map Empties bs ++ (if_some Enters entering ++ last_marks))
  empties_allowed [] entering s t there next = enters_allowed entering s t next
  empties_allowed (b ∷ bs) entering s t there next =
      (there b (inl refl), empties_allowed bs entering (after_mark s (Empties b)) (more (Empties b) t) (λ d later. received_still (Empties b) t d.number (there d (inr later))) next)

  -- what leaves has entered
  leaves_allowed : (cs : List Command) (bs : List Arrival) (entering : Option Command) (s : State) (t : Trace) → ((c : Command) → In c cs → c.ticket ≤ s.entered)
      → ((b : Arrival) → In b bs → is_received t b.number ≡ true) → Each (λ c. c.ticket ≡ s.entered + 1) entering
      → AllAllowed o s t (map Leaves cs ++ (map Empties bs ++ (if_some Enters entering ++ last_marks)))
  leaves_allowed [] bs entering s t low there next = empties_allowed bs entering s t there next
  leaves_allowed (c ∷ cs) bs entering s t low there next =
      (low c (inl refl), leaves_allowed cs bs entering (after_mark s (Leaves c)) (more (Leaves c) t) (λ d later. low d (inr later)) (λ d here. received_still (Leaves c) t d.number (there d here)) next)

  -- a number that is voided is new
  voids_allowed : (void : Option ℕ) (cs : List Command) (bs : List Arrival) (entering : Option Command) (s : State) (t : Trace) → Each (λ n. is_received t n ≡ false) void
      → ((c : Command) → In c cs → c.ticket ≤ s.entered) → ((b : Arrival) → In b bs → is_received t b.number ≡ true) → Each (λ c. c.ticket ≡ s.entered + 1) entering
      → AllAllowed o s t (if_some Voids void ++ (map Leaves cs ++ (map Empties bs ++ (if_some Enters entering ++ last_marks))))
  voids_allowed (Some n) cs bs entering s t new low there next = (new, leaves_allowed cs bs entering (after_mark s (Voids n)) (more (Voids n) t) low (λ d here. received_still (Voids n) t d.number (there d here)) next)
  voids_allowed None cs bs entering s t new low there next = leaves_allowed cs bs entering s t low there next

none_counted : {A : Type 0} (p : A → Bool) (xs : List A) → ((x : A) → In x xs → p x ≡ false) → count_by p xs ≡ 0
none_counted p [] none = refl
none_counted p (x ∷ xs) none = count-cons p x xs ∙ ap (λ b. cond b 1 0 + count_by p xs) (none x (inl refl)) ∙ (let rest : count_by p xs ≡ 0 = none_counted p xs (λ y k. none y (inr k)) in omega (arith, rest))

-- ---- what a request does that executes

module _ (o : Setting) (now : ℕ) (w : Command → Bool) (s : State) (t : Trace) (a : Agrees o now w s t) where
  pub live_entered : (c : Command) → In c (live t) → c.ticket ≤ s.entered
  live_entered c there = a.commands.tickets c (in-filter (λ (d : Command). not (has (leaves_ticket d.ticket) t)) (entered t) c there).0

  -- commands that are counted among the live ones have entered
  counted_entered : (cs : List Command) → ((p : Command → Bool) → count_by p cs ≤ count_by p (live t)) → (c : Command) → In c cs → c.ticket ≤ s.entered
  counted_entered cs few c there = by_test (nat_lt s.entered c.ticket) refl
    where
      is_later : Command → Bool
      is_later d = nat_lt s.entered d.ticket

      by_test : (v : Bool) → nat_lt s.entered c.ticket ≡ v → c.ticket ≤ s.entered
      by_test true is =
          absurd (omega (
            arith,
            count-one is_later cs c there is,
            few is_later,
            none_counted is_later (live t) (λ d here. let low : d.ticket ≤ s.entered = live_entered d here in let z : nat_lt s.entered d.ticket ≡ false = grind (arith, nat_tests) in z),
          ))
      by_test false is = let low : c.ticket ≤ s.entered = grind (arith, nat_tests) in low

  next_ticket : (b : Arrival) (d : Deeds) (entering : Option Command) → Each (EntersAs o t b d) entering → Each (λ c. c.ticket ≡ s.entered + 1) entering
  next_ticket b d (Some c) enters = ap (λ (x : Command). x.ticket) enters.next ∙ ap (λ n. n + 1) (sym a.commands.count)
  next_ticket b d None enters = tt

  received_begun : (start : Start) (b : Arrival) (n : ℕ) → is_received t n ≡ false → is_received (more (start_mark start b) t) n ≡ false
  received_begun AtTurn b n new = ap (λ xs. contains xs n) (numbers_kept (Delivers b) t refl) ∙ new
  received_begun AtArrival b n new = ap (λ xs. contains xs n) (numbers_kept (Executes b) t refl) ∙ new
  received_begun AfterWaiting b n new = ap (λ xs. contains xs n) (numbers_kept (Executes b) t refl) ∙ new

  voids_begun : (start : Start) (b : Arrival) (void : Option ℕ) → Each (λ n. is_received t n ≡ false) void → Each (λ n. is_received (more (start_mark start b) t) n ≡ false) void
  voids_begun start b (Some n) new = received_begun start b n new
  voids_begun start b None new = tt

  same_entered : (start : Start) (b : Arrival) → (after_mark s (start_mark start b)).entered ≡ s.entered
  same_entered AtTurn b = refl
  same_entered AtArrival b = refl
  same_entered AfterWaiting b = refl

  pub done_allowed : (start : Start) (b : Arrival) (ms : List Mark) → Does o t start b ms → AllAllowed o (after_mark s (start_mark start b)) (more (start_mark start b) t) ms
  done_allowed start b ms does =
      subst (AllAllowed o (after_mark s (start_mark start b)) (more (start_mark start b) t)) (sym does.is)
      (voids_allowed o (connection_of b.request) does.deeds.reply does.deeds.closing does.deeds.ending does.deeds.void does.deeds.leaving does.deeds.emptied does.deeds.entering (after_mark s (start_mark start b)) (more (start_mark start b) t)
      (voids_begun start b does.deeds.void does.done.voids)
      (λ c there. omega (arith, same_entered start b, counted_entered does.deeds.leaving does.done.leaves c there))
      (λ d there. held_received (begun start b t) d.number d (does.done.empties d there))
      (subst (λ n. Each (λ (c : Command). c.ticket ≡ n + 1) does.deeds.entering) (sym (same_entered start b)) (next_ticket b does.deeds does.deeds.entering does.done.enters)))
