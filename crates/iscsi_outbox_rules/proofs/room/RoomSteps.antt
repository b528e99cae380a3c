-- What an item by which a request executes does to the limits of a session: to its live commands, of a connection and of all, and
-- to the functions that wait.
use Rattle.std.proofs.Common.{◌≡◌, ℕ, ◌+◌, ◌≤◌, ◌<◌, ◌==◌, ◌&&◌, not, cond, Bool, true, false, List, [], ◌∷◌, ◌++◌, map, filter, count_by, Option, Some, None, refl, ap, sym, ◌∙◌, arith, nat_le}
use Rattle.std.proofs.lemmas.Bool.{false≢true, eqb-true}
use Rattle.std.proofs.lemmas.Bool.Decides.{nat_tests}
use Rattle.iscsi_wire.specs.Fields.{connection_of, is_immediate}
use Rattle.iscsi_rules.specs.rules.Settings.{Setting}
use Rattle.iscsi_rules.specs.rules.Trace.{Arrival, Command, Mark, Voids, Empties, Leaves, Enters, Sends, ClosesConn, ClosesSession, Trace, waiting_by, waiting_through, waiting, live}
use Rattle.iscsi_rules.specs.rules.Execution.{unfinished, live_immediate, is_crowded}
use Rattle.iscsi_rules.proofs.general.ListLemmas.{fewer_counted}
use Rattle.iscsi_rules.proofs.traces.TraceLemmas.{live-quiet}
use Rattle.iscsi_rules.proofs.general.CountLemmas.{one, count-cons}
use Rattle.iscsi_rules.proofs.promises.NumberingLemmas.{to_list}
use Rattle.iscsi_rules.proofs.items.Forms.{Start, AtTurn, AtArrival, AfterWaiting, start_mark, Deeds, if_some, marks_done, begun, Each, Executed, marks_of_form, IsFormed}
use Rattle.iscsi_rules.proofs.promises.ReplyForms.{live_form}
use Rattle.iscsi_outbox_rules.proofs.room.RoomFair.{MarkFair, Fair, fair_enters}

-- ---- functions that wait

-- no more wait after these marks
abbrev Shrinks : List Mark → Type 0
Shrinks ms = (p : Arrival → Bool) (ws : List Arrival) → count_by p (waiting_through ms ws) ≤ count_by p ws

through-append : (xs ys : List Mark) (ws : List Arrival) → waiting_through (xs ++ ys) ws ≡ waiting_through ys (waiting_through xs ws)
through-append [] ys ws = refl
through-append (m ∷ xs) ys ws = through-append xs ys (waiting_by m ws)

shrinks-append : (xs ys : List Mark) → Shrinks xs → Shrinks ys → Shrinks (xs ++ ys)
shrinks-append xs ys h k p ws = omega (arith, ap (count_by p) (through-append xs ys ws), h p ws, k p (waiting_through xs ws))

shrinks-map : {A : Type 0} (f : A → Mark) → ((x : A) → (p : Arrival → Bool) (ws : List Arrival) → count_by p (waiting_by (f x) ws) ≤ count_by p ws) → (xs : List A) → Shrinks (map f xs)
shrinks-map f h [] p ws = omega arith
shrinks-map f h (x ∷ xs) p ws = omega (arith, shrinks-map f h xs p (waiting_by (f x) ws), h x p ws)

shrinks-some : {A : Type 0} (f : A → Mark) → ((x : A) → (p : Arrival → Bool) (ws : List Arrival) → count_by p (waiting_by (f x) ws) ≤ count_by p ws) → (x : Option A) → Shrinks (if_some f x)
shrinks-some f h None p ws = omega arith
shrinks-some f h (Some x) p ws = h x p ws

pub shrinks_done : (a : Arrival) (d : Deeds) (p : Arrival → Bool) (ws : List Arrival) → count_by p (waiting_through (marks_done a d) ws) ≤ count_by p ws
shrinks_done a d =
    shrinks-append (if_some Voids d.void) _ (shrinks-some Voids (λ n p ws. omega arith) d.void)
    (shrinks-append (map Leaves d.leaving) _ (shrinks-map Leaves (λ c p ws. omega arith) d.leaving)
    (shrinks-append (map Empties d.emptied) _ (shrinks-map Empties (λ b p ws. omega arith) d.emptied)
    (shrinks-append (if_some Enters d.entering) _ (shrinks-some Enters (λ c p ws. omega arith) d.entering)
    (shrinks-append (if_some (Sends (connection_of a.request)) d.reply) _ (shrinks-some (Sends (connection_of a.request)) (λ reply p ws. omega arith) d.reply)
    (shrinks-append (if_some ClosesConn d.closing) _ (shrinks-some ClosesConn (λ conn p ws. fewer_counted p (λ b. not (connection_of b.request == conn)) ws) d.closing)
    (ending d.ending))))))
  where
    ending : (b : Bool) → Shrinks (cond b (ClosesSession ∷ []) [])
    ending true = λ p ws. omega arith
    ending false = λ p ws. omega arith

pub live-begun : (start : Start) (a : Arrival) (t : Trace) → live (begun start a t) ≡ live t
live-begun AtTurn a t = live-quiet (start_mark AtTurn a ∷ []) t refl (λ k. refl)
live-begun AtArrival a t = live-quiet (start_mark AtArrival a ∷ []) t refl (λ k. refl)
live-begun AfterWaiting a t = live-quiet (start_mark AfterWaiting a ∷ []) t refl (λ k. refl)

module _ (o : Setting) (now : ℕ) (t : Trace) (start : Start) (a : Arrival) (d : Deeds) (x : IsFormed o now t (Executed start a d)) (f : Fair o (begun start a t) a (marks_done a d)) where
  abbrev pub item : List Mark
  item = marks_of_form (Executed start a d)

  -- no more functions wait
  pub fewer_wait : (p : Arrival → Bool) → count_by p (waiting (item ∷ t)) ≤ count_by p (waiting t)
  fewer_wait p = by_start start
    where
      by_start : (s : Start) → count_by p (waiting ((start_mark s a ∷ marks_done a d) ∷ t)) ≤ count_by p (waiting t)
      by_start AtTurn = shrinks_done a d p (waiting t)
      by_start AtArrival = omega (arith, shrinks_done a d p (filter (λ b. not (b.event == a.event)) (waiting t)), fewer_counted p (λ b. not (b.event == a.event)) (waiting t))
      by_start AfterWaiting = omega (arith, shrinks_done a d p (filter (λ b. not (b.event == a.event)) (waiting t)), fewer_counted p (λ b. not (b.event == a.event)) (waiting t))

  -- of the commands that enter no more pass than the request does
  entering_pass : (p : Command → Bool) (q : Bool) → ((c : Command) → c.arrival ≡ a → p c ≡ q) → count_by p (to_list d.entering) ≤ one q
  entering_pass p q h = by_entering d.entering (fair_enters o (begun start a t) a d f)
    where
      by_entering : (y : Option Command) → Each (λ c. MarkFair o (begun start a t) a (Enters c)) y → count_by p (to_list y) ≤ one q
      by_entering None e = omega arith
      by_entering (Some c) e = omega (arith, count-cons p c [], ap one (h c e.0))

  -- one numbered command more is unfinished at the most, and none by an immediate request
  pub unfinished_more : unfinished (item ∷ t) ≤ unfinished t + one (not (is_immediate a.request))
  unfinished_more =
      let p : Command → Bool = λ c. not (is_immediate c.arrival.request) in
      omega (arith, live_form o now t (Executed start a d) x p, entering_pass p (not (is_immediate a.request)) (λ c is. ap (λ (b : Arrival). not (is_immediate b.request)) is))

  -- a connection has no more than eight live immediate commands
  pub few_immediate : (conn : ℕ) → live_immediate conn t ≤ 8 → live_immediate conn (item ∷ t) ≤ 8
  few_immediate conn few = by_entering d.entering (fair_enters o (begun start a t) a d f) (live_form o now t (Executed start a d) x p)
    where
      p : Command → Bool
      p = λ c. is_immediate c.arrival.request && connection_of c.arrival.request == conn

      uncrowded : is_crowded (begun start a t) a.request ≡ false → (is_immediate a.request && connection_of a.request == conn) ≡ true → live_immediate conn t < 8
      uncrowded none mine = by_tests (is_immediate a.request) (connection_of a.request == conn) refl mine none
        where
          by_tests : (b c : Bool) → (connection_of a.request == conn) ≡ c → (b && c) ≡ true → (b && nat_le 8 (live_immediate (connection_of a.request) (begun start a t))) ≡ false → live_immediate conn t < 8
          by_tests true true is h free =
              let same : connection_of a.request ≡ conn = eqb-true (connection_of a.request) conn is in
              let there : nat_le 8 (live_immediate conn t) ≡ false
              = ap (λ cs. nat_le 8 (count_by p cs)) (sym (live-begun start a t)) ∙ ap (λ k. nat_le 8 (live_immediate k (begun start a t))) (sym same) ∙ free in
              let z : live_immediate conn t < 8 = grind (arith, nat_tests) in z
          by_tests true false is h free = absurd (false≢true h)
          by_tests false c is h free = absurd (false≢true h)

      by_entering : (y : Option Command) → Each (λ c. MarkFair o (begun start a t) a (Enters c)) y → live_immediate conn (item ∷ t) + count_by p d.leaving ≤ live_immediate conn t + count_by p (to_list y)
          → live_immediate conn (item ∷ t) ≤ 8
      by_entering None e h = omega (arith, h, few)
      by_entering (Some c) e h = by_test (is_immediate a.request && connection_of a.request == conn) refl
        where
          passes : count_by p (c ∷ []) ≡ one (is_immediate a.request && connection_of a.request == conn)
          passes = (let z : count_by p (c ∷ []) ≡ one (p c) = omega (arith, count-cons p c []) in z) ∙ ap (λ (b : Arrival). one (is_immediate b.request && connection_of b.request == conn)) e.0

          by_test : (b : Bool) → (is_immediate a.request && connection_of a.request == conn) ≡ b → live_immediate conn (item ∷ t) ≤ 8
          by_test true is = omega (arith, h, passes, ap one is, uncrowded e.1 is)
          by_test false is = omega (arith, h, passes, ap one is, few)
