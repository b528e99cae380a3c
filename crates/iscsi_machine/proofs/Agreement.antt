-- A state agrees with a trace; what it takes that it does so after one mark more.
use Rattle.std.proofs.Common.{◌≡◌, ℕ, ◌+◌, ◌<◌, ◌≤◌, ◌==◌, ◌&&◌, ◌||◌, not, ⊎_elim, cond, Bool, true, false, List, [], ◌∷◌, ◌++◌, length, map, filter, count_by, Option, Some, None, refl, ap, sym, subst, ◌∙◌, arith, nat_lt}
use Rattle.std.specs.List.{filter_map, cons_option}
use Rattle.std.proofs.lemmas.Bool.{cases_lt, eqb-true, false≢true}
use Rattle.std.proofs.lemmas.Bool.Decides.{nat_tests}
use Rattle.std.proofs.lemmas.List.{append-nil, map-append, length-append}
use Rattle.iscsi_wire.specs.Serial.{number_of_first}
use Rattle.iscsi_rules.specs.rules.Settings.{Setting}
use Rattle.iscsi_rules.specs.rules.Trace.{Arrival, Command, Mark, Admits, Delivers, Executes, Voids, Empties, Waits, Leaves, Enters, Sends, ClosesConn, ClosesSession, Ignores, Trace, has, shown, first_of, number_received, received, contains, is_received, least_missing, admits_at, admitted, delivers_number, is_delivered, empties_number, is_emptied, held, waiting, enters, leaves_ticket, entered, live, sent_on, closes_conn, closes_session, is_ended}
use Rattle.iscsi_rules.specs.rules.Execution.{exp_of}
use Rattle.iscsi_rules.specs.rules.Run.{first_stat_sn}
use Rattle.iscsi_rules.proofs.general.BoolLemmas.{or_first, or_comm, or_false, or_none, and_true, and_false}
use Rattle.iscsi_rules.proofs.general.ElementLemmas.{In, in-filter, in-append}
use Rattle.iscsi_rules.proofs.general.ListLemmas.{filter-map, filtered_among, count_by-push}
use Rattle.iscsi_rules.proofs.traces.TraceLemmas.{filter-same, live-enters, live-leaves, received-item}
use Rattle.iscsi_rules.proofs.traces.HeldLemmas.{held-admits, held-here, held-delivered, unreceived_unheld}
use Rattle.iscsi_rules.proofs.general.Missing.{expected_is, expected_below, expected_low}
use Rattle.iscsi_machine.specs.Machine.{Member, State, inserted, past, after_mark}
use Rattle.iscsi_machine.proofs.Ascending.{Rising, inserted-in, inserted-rising, contains-inserted, filter-rising, contains_in, gone_below, past_low, past_below, past_gone, number_of, held_at, unheld, inserted-apart, inserted-here, is_not_at, released-here, released-apart}

-- ---- what agrees

pub record NumbersAgree (o : Setting) (e : ℕ) (ns : List ℕ) (t : Trace) : Type 0 where
  pub exp : e ≡ exp_of o t
  pub above : (n : ℕ) → e ≤ n → contains ns n ≡ is_received t n
  pub rising : Rising (λ k. k) ns
  pub high : (k : ℕ) → In k ns → e < k

pub record HeldAgree (o : Setting) (e : ℕ) (hs : List Arrival) (t : Trace) : Type 0 where
  pub same : (n : ℕ) → held_at hs n ≡ held t n
  pub rising : Rising number_of hs
  pub within : (h : Arrival) → In h hs → (number_of_first o.first ≤ h.number) × (h.number < e + o.window)
  -- what isn't received neither executed nor was taken out
  pub undone : (n : ℕ) → is_received t n ≡ false → (is_delivered t n ≡ false) × (is_emptied t n ≡ false)

-- a command with what a test says of it
abbrev pub flagged : (Command → Bool) → Command → Member
flagged w c = record { command = c; enabled = w c }

pub record CommandsAgree (w : Command → Bool) (ms : List Member) (n : ℕ) (t : Trace) : Type 0 where
  pub same : ms ≡ map (flagged w) (live t)
  pub count : n ≡ length (entered t)
  -- no greater ticket entered, left or passed the test
  pub tickets : (c : Command) → In c (entered t) → c.ticket ≤ n
  pub unleft : (k : ℕ) → n < k → has (leaves_ticket k) t ≡ false
  pub unseen : (c : Command) → n < c.ticket → w c ≡ false

pub record ClosingsAgree (conns : List ℕ) (over : Bool) (t : Trace) : Type 0 where
  pub each : (conn : ℕ) → contains conns conn ≡ has (closes_conn conn) t
  pub session : over ≡ is_ended t

abbrev pub RepliesAgree : Setting → (ℕ → ℕ) → Trace → Type 0
RepliesAgree o next t = (conn : ℕ) → next conn ≡ first_stat_sn o conn + count_by (λ k. k == conn) (shown sent_on t)

-- the commands that pass the test w were enabled at the last moment
pub record Agrees (o : Setting) (now : ℕ) (w : Command → Bool) (s : State) (t : Trace) : Type 0 where
  pub numbers : NumbersAgree o s.exp s.above t
  pub held : HeldAgree o s.exp s.held t
  pub waiting : s.waiting ≡ waiting t
  pub commands : CommandsAgree w s.live s.entered t
  pub closings : ClosingsAgree s.closed s.over t
  pub replies : RepliesAgree o s.stat_sn t
  pub event : s.event ≡ now

-- ---- traces that show the same

pub numbers-at : (o : Setting) (e : ℕ) (ns : List ℕ) (t t' : Trace) → received t' ≡ received t → NumbersAgree o e ns t → NumbersAgree o e ns t'
numbers-at o e ns t t' same a = record {
  exp = a.exp ∙ ap (λ xs. least_missing xs (length xs) (number_of_first o.first)) (sym same);
  above = λ n low. a.above n low ∙ ap (λ xs. contains xs n) (sym same);
  rising = a.rising;
  high = a.high;
}

pub held-at : (t t' : Trace) (n : ℕ) → admitted t' n ≡ admitted t n → is_delivered t' n ≡ is_delivered t n → is_emptied t' n ≡ is_emptied t n → held t' n ≡ held t n
held-at t t' n adm del emp =
    ap (λ b. cond (b || is_emptied t' n) None (admitted t' n)) del ∙ ap (λ b. cond (is_delivered t n || b) None (admitted t' n)) emp
    ∙ ap (λ x. cond (is_delivered t n || is_emptied t n) None x) adm

pub live-at : (t t' : Trace) → entered t' ≡ entered t → ((k : ℕ) → has (leaves_ticket k) t' ≡ has (leaves_ticket k) t) → live t' ≡ live t
live-at t t' same left =
    ap (filter (λ (c : Command). not (has (leaves_ticket c.ticket) t'))) same
    ∙ filter-same (λ (c : Command). not (has (leaves_ticket c.ticket) t')) (λ c. not (has (leaves_ticket c.ticket) t)) (entered t) (λ c. ap not (left c.ticket))

pub commands-at : (w : Command → Bool) (ms : List Member) (n : ℕ) (t t' : Trace) → entered t' ≡ entered t → ((k : ℕ) → has (leaves_ticket k) t' ≡ has (leaves_ticket k) t) → CommandsAgree w ms n t → CommandsAgree w ms n t'
commands-at w ms n t t' same left a = record {
  same = a.same ∙ ap (map (flagged w)) (sym (live-at t t' same left));
  count = a.count ∙ ap length (sym same);
  tickets = λ c there. a.tickets c (subst (λ cs. In c cs) same there);
  unleft = λ k high. left k ∙ a.unleft k high;
  unseen = a.unseen;
}

-- ---- one mark more

abbrev pub more : Mark → Trace → Trace
more m t = (m ∷ []) ∷ t

shown-same : {A : Type 0} (view : Mark → Option A) (m : Mark) (t : Trace) → view m ≡ None → shown view (more m t) ≡ shown view t
shown-same view m t none = ap (λ x. shown view t ++ cons_option x []) none ∙ append-nil (shown view t)

has-same : (test : Mark → Bool) (m : Mark) (t : Trace) → test m ≡ false → has test (more m t) ≡ has test t
has-same test m t none = ap (λ b. (b || false) || has test t) none

pub numbers_kept : (m : Mark) (t : Trace) → number_received m ≡ None → received (more m t) ≡ received t
numbers_kept m t none = shown-same number_received m t none

numbers-same : (o : Setting) (e : ℕ) (ns : List ℕ) (t : Trace) (m : Mark) → number_received m ≡ None → NumbersAgree o e ns t → NumbersAgree o e ns (more m t)
numbers-same o e ns t m none a = numbers-at o e ns t (more m t) (numbers_kept m t none) a

-- a mark receives a number
module _ (o : Setting) (e : ℕ) (ns : List ℕ) (t : Trace) (m : Mark) (n : ℕ) (is : number_received m ≡ Some n) (new : is_received t n ≡ false) (a : NumbersAgree o e ns t) where
  abbrev numbers : List ℕ
  numbers = inserted (λ k. k) n ns

  abbrev next : ℕ
  next = past e numbers

  received_now : (k : ℕ) → is_received (more m t) k ≡ (is_received t k || (n == k))
  received_now k = received-item (m ∷ []) t k ∙ ap (λ x. is_received t k || contains (cons_option x []) k) is ∙ ap (λ b. is_received t k || b) (or_false (n == k))

  numbers_rising : Rising (λ k. k) numbers
  numbers_rising = inserted-rising (λ k. k) n ns a.rising (contains_in ns n (⊎_elim (λ below. gone_below ns e n a.high (omega arith)) (λ low. a.above n low ∙ new) (cases_lt n e)))

  numbers_received : (k : ℕ) → e ≤ k → contains numbers k ≡ is_received (more m t) k
  numbers_received k low = contains-inserted n ns k ∙ ap (λ b. (n == k) || b) (a.above k low) ∙ or_comm (n == k) (is_received t k) ∙ sym (received_now k)

  next_gone : is_received (more m t) next ≡ false
  next_gone = sym (numbers_received next (past_low numbers e)) ∙ past_gone numbers e numbers_rising

  pub numbers-receives : NumbersAgree o next (filter (nat_lt next) numbers) (more m t)
  numbers-receives = record {
    exp = sym (expected_is o.first next (more m t) (omega (arith, a.exp, expected_low o.first t, past_low numbers e)) all next_gone);
    above = λ k low. filtered_among (nat_lt next) k numbers ∙ by_test k low (nat_lt next k) refl;
    rising = filter-rising (λ k. k) (nat_lt next) numbers numbers_rising;
    high = λ k there. let test : nat_lt next k ≡ true = (in-filter (nat_lt next) numbers k there).1 in let up : next < k = grind (arith, nat_tests) in up;
  }
    where
      all : (k : ℕ) → number_of_first o.first ≤ k → k < next → is_received (more m t) k ≡ true
      all k low high =
          ⊎_elim (λ below. received_now k ∙ or_first (is_received t k) (n == k) (expected_below o.first t k low (omega (arith, below, a.exp))))
          (λ on. sym (numbers_received k on) ∙ past_below numbers e k on high) (cases_lt k e)

      by_test : (k : ℕ) → next ≤ k → (v : Bool) → nat_lt next k ≡ v → (contains numbers k && v) ≡ is_received (more m t) k
      by_test k low true test = and_true (contains numbers k) ∙ numbers_received k (omega (arith, low, past_low numbers e))
      by_test k low false test = let same : k ≡ next = grind (arith, nat_tests) in and_false (contains numbers k) ∙ sym (ap (is_received (more m t)) same ∙ next_gone)

-- ---- what is held

unreceived_before : (m : Mark) (t : Trace) (n : ℕ) → is_received (more m t) n ≡ false → is_received t n ≡ false
unreceived_before m t n new = (or_none (is_received t n) (contains (filter_map number_received (m ∷ [])) n) (sym (received-item (m ∷ []) t n) ∙ new)).0

pub held-on : (o : Setting) (e e' : ℕ) (hs : List Arrival) (t : Trace) → e ≤ e' → HeldAgree o e hs t → HeldAgree o e' hs t
held-on o e e' hs t on a = record { same = a.same; rising = a.rising; within = λ h there. let p = a.within h there in (p.0, omega (arith, on, p.1)); undone = a.undone }

pub held-same : (o : Setting) (e : ℕ) (hs : List Arrival) (t : Trace) (m : Mark) → ((n : ℕ) → admits_at n m ≡ None) → ((n : ℕ) → delivers_number n m ≡ false) → ((n : ℕ) → empties_number n m ≡ false)
    → HeldAgree o e hs t → HeldAgree o e hs (more m t)
held-same o e hs t m adm del emp a = record {
  same = λ n. a.same n ∙ sym (held-at t (more m t) n (ap first_of (shown-same (admits_at n) m t (adm n))) (has-same (delivers_number n) m t (del n)) (has-same (empties_number n) m t (emp n)));
  rising = a.rising;
  within = a.within;
  undone = λ n new. let p = a.undone n (unreceived_before m t n new) in (has-same (delivers_number n) m t (del n) ∙ p.0, has-same (empties_number n) m t (emp n) ∙ p.1);
}

pub held-admitted : (o : Setting) (e : ℕ) (hs : List Arrival) (t : Trace) (a : Arrival) → is_received t a.number ≡ false → number_of_first o.first ≤ a.number → a.number < e + o.window
    → HeldAgree o e hs t → HeldAgree o e (inserted number_of a hs) (more (Admits a) t)
held-admitted o e hs t a new low high g = record {
  same = λ n. by_test n (a.number == n) refl;
  rising = inserted-rising number_of a hs g.rising (λ h there. let no' : (h.number == a.number) ≡ false = none h there in let z : (a.number == h.number) ≡ false = grind (arith, nat_tests) in z);
  within = λ h there. ⊎_elim (λ same. (omega (arith, low, ap number_of same), omega (arith, high, ap number_of same))) (λ later. g.within h later) (inserted-in number_of a hs h there);
  undone = λ n gone. g.undone n (unreceived_before (Admits a) t n gone);
}
  where
    none : (h : Arrival) → In h hs → (h.number == a.number) ≡ false
    none h there = unheld hs a.number (g.same a.number ∙ unreceived_unheld t a.number new) h there

    by_test : (n : ℕ) (v : Bool) → (a.number == n) ≡ v → held_at (inserted number_of a hs) n ≡ held (more (Admits a) t) n
    by_test n true is =
        let here : a.number ≡ n = eqb-true a.number n is in
        let p = g.undone a.number new in
        inserted-here a hs n is (λ h there. ap (λ k. h.number == k) (sym here) ∙ none h there) ∙ sym (ap (held (more (Admits a) t)) (sym here) ∙ held-here t a new p.0 p.1)
    by_test n false is = ap first_of (inserted-apart a hs n is) ∙ g.same n ∙ sym (held-admits t a n is)

-- a request that is received isn't held any more
pub held-released : (o : Setting) (e : ℕ) (hs : List Arrival) (t : Trace) (m : Mark) (k : ℕ) → ((n : ℕ) → admits_at n m ≡ None) → ((n : ℕ) → (k == n) ≡ false → (delivers_number n m ≡ false) × (empties_number n m ≡ false))
    → ((n : ℕ) → (k == n) ≡ true → held (more m t) n ≡ None) → is_received t k ≡ true → HeldAgree o e hs t → HeldAgree o e (filter (is_not_at k) hs) (more m t)
held-released o e hs t m k adm apart gone there a = record {
  same = λ n. by_test n (k == n) refl;
  rising = filter-rising number_of (is_not_at k) hs a.rising;
  within = λ h in_it. a.within h (in-filter (is_not_at k) hs h in_it).0;
  undone = λ n new. undone_now n (unreceived_before m t n new) (k == n) refl;
}
  where
    by_test : (n : ℕ) (v : Bool) → (k == n) ≡ v → held_at (filter (is_not_at k) hs) n ≡ held (more m t) n
    by_test n true is = ap first_of (released-here hs k n is) ∙ sym (gone n is)
    by_test n false is =
        let p = apart n is in
        ap first_of (released-apart hs k n is) ∙ a.same n
        ∙ sym (held-at t (more m t) n (ap first_of (shown-same (admits_at n) m t (adm n))) (has-same (delivers_number n) m t p.0) (has-same (empties_number n) m t p.1))

    undone_now : (n : ℕ) → is_received t n ≡ false → (v : Bool) → (k == n) ≡ v → (is_delivered (more m t) n ≡ false) × (is_emptied (more m t) n ≡ false)
    undone_now n new true is = absurd (false≢true (sym new ∙ ap (is_received t) (sym (eqb-true k n is)) ∙ there))
    undone_now n new false is =
        let p = apart n is in
        let q = a.undone n new in
        (has-same (delivers_number n) m t p.0 ∙ q.0, has-same (empties_number n) m t p.1 ∙ q.1)

held-emptied : (t : Trace) (a : Arrival) (n : ℕ) → (a.number == n) ≡ true → held (more (Empties a) t) n ≡ None
held-emptied t a n here = ap (λ b. cond (is_delivered t n || ((b || false) || is_emptied t n)) None (admitted (more (Empties a) t) n)) here ∙ by_test (is_delivered t n)
  where
    by_test : (v : Bool) → cond (v || true) None (admitted (more (Empties a) t) n) ≡ None
    by_test true = refl
    by_test false = refl

-- ---- commands

pub commands-same : (w : Command → Bool) (ms : List Member) (n : ℕ) (t : Trace) (m : Mark) → enters m ≡ None → ((k : ℕ) → leaves_ticket k m ≡ false) → CommandsAgree w ms n t → CommandsAgree w ms n (more m t)
commands-same w ms n t m none quiet a = commands-at w ms n t (more m t) (shown-same enters m t none) (λ k. has-same (leaves_ticket k) m t (quiet k)) a

pub commands-entered : (w : Command → Bool) (ms : List Member) (n : ℕ) (t : Trace) (c : Command) → c.ticket ≡ n + 1 → CommandsAgree w ms n t
    → CommandsAgree w (ms ++ record { command = c; enabled = false } ∷ []) (n + 1) (more (Enters c) t)
commands-entered w ms n t c next a = record {
  same =
      ap (λ xs. xs ++ record { command = c; enabled = false } ∷ []) a.same
      ∙ ap (λ b. map (flagged w) (live t) ++ record { command = c; enabled = b } ∷ []) (sym (a.unseen c (omega (arith, next))))
      ∙ sym (map-append (flagged w) (live t) (c ∷ []))
      ∙ ap (map (flagged w)) (sym (live-enters (Enters c ∷ []) t c refl (λ k. refl) (a.unleft c.ticket (omega (arith, next)))));
  count = (let long : length (entered t ++ c ∷ []) ≡ length (entered t) + 1 = length-append (entered t) (c ∷ []) in omega (arith, long, a.count));
  tickets = λ d there. ⊎_elim (λ before. omega (arith, a.tickets d before)) (λ now. ⊎_elim (λ same. omega (arith, next, ap (λ (x : Command). x.ticket) same)) (λ none. absurd none) now) (in-append (entered t) (c ∷ []) d there);
  unleft = λ k high. a.unleft k (omega (arith, high));
  unseen = λ d high. a.unseen d (omega (arith, high));
}

pub commands-left : (w : Command → Bool) (ms : List Member) (n : ℕ) (t : Trace) (c : Command) → c.ticket ≤ n → CommandsAgree w ms n t
    → CommandsAgree w (filter (λ (m : Member). not (c.ticket == m.command.ticket)) ms) n (more (Leaves c) t)
commands-left w ms n t c low a = record {
  same =
      ap (filter (λ (m : Member). not (c.ticket == m.command.ticket))) a.same
      ∙ filter-map (λ (m : Member). not (c.ticket == m.command.ticket)) (flagged w) (live t)
      ∙ ap (map (flagged w)) (sym (live-leaves (Leaves c ∷ []) t (λ k. c.ticket == k) refl (λ k. or_false (c.ticket == k))));
  count = a.count ∙ ap length (sym (append-nil (entered t)));
  tickets = λ d there. a.tickets d (subst (λ cs. In d cs) (append-nil (entered t)) there);
  unleft = λ k high. (let apart : (c.ticket == k) ≡ false = grind (arith, nat_tests) in has-same (leaves_ticket k) (Leaves c) t apart) ∙ a.unleft k high;
  unseen = a.unseen;
}

-- ---- closings and replies

closings-same : (conns : List ℕ) (over : Bool) (t : Trace) (m : Mark) → ((conn : ℕ) → closes_conn conn m ≡ false) → closes_session m ≡ false → ClosingsAgree conns over t → ClosingsAgree conns over (more m t)
closings-same conns over t m none open' a = record { each = λ conn. a.each conn ∙ sym (has-same (closes_conn conn) m t (none conn)); session = a.session ∙ sym (has-same closes_session m t open') }

closings-conn : (conns : List ℕ) (over : Bool) (t : Trace) (closing : ℕ) → ClosingsAgree conns over t → ClosingsAgree (closing ∷ conns) over (more (ClosesConn closing) t)
closings-conn conns over t closing a = record {
  each = λ conn. ap (λ b. (closing == conn) || b) (a.each conn) ∙ ap (λ b. b || has (closes_conn conn) t) (sym (or_false (closing == conn)));
  session = a.session;
}

closings-session : (conns : List ℕ) (over : Bool) (t : Trace) → ClosingsAgree conns over t → ClosingsAgree conns true (more ClosesSession t)
closings-session conns over t a = record { each = a.each; session = refl }

replies-same : (o : Setting) (coming : ℕ → ℕ) (t : Trace) (m : Mark) → sent_on m ≡ None → RepliesAgree o coming t → RepliesAgree o coming (more m t)
replies-same o coming t m none a = λ conn. a conn ∙ ap (λ xs. first_stat_sn o conn + count_by (λ k. k == conn) xs) (sym (shown-same sent_on m t none))

replies-sent : (o : Setting) (coming : ℕ → ℕ) (t : Trace) (on : ℕ) → RepliesAgree o coming t → (conn : ℕ)
    → cond (on == conn) (coming conn + 1) (coming conn) ≡ first_stat_sn o conn + count_by (λ k. k == conn) (shown sent_on t ++ on ∷ [])
replies-sent o coming t on a conn = by_test (on == conn) (count_by-push (λ k. k == conn) (shown sent_on t) on)
  where
    by_test : (v : Bool) → count_by (λ k. k == conn) (shown sent_on t ++ on ∷ []) ≡ count_by (λ k. k == conn) (shown sent_on t) + cond v 1 0
        → cond v (coming conn + 1) (coming conn) ≡ first_stat_sn o conn + count_by (λ k. k == conn) (shown sent_on t ++ on ∷ [])
    by_test true count = omega (arith, count, a conn)
    by_test false count = omega (arith, count, a conn)

-- ---- the mark

-- it may come: a number is new, a request that executes was received, tickets are given in order
abbrev pub Allowed : Setting → State → Trace → Mark → Type 0
Allowed o s t (Admits a) = (is_received t a.number ≡ false) × ((s.exp ≤ a.number) × (a.number < s.exp + o.window))
Allowed o s t (Delivers a) = is_received t a.number ≡ true
Allowed o s t (Voids n) = is_received t n ≡ false
Allowed o s t (Empties a) = is_received t a.number ≡ true
Allowed o s t (Leaves c) = c.ticket ≤ s.entered
Allowed o s t (Enters c) = c.ticket ≡ s.entered + 1
Allowed o s t _ = Unit {0}

module _ (o : Setting) (now : ℕ) (w : Command → Bool) (s : State) (t : Trace) (a : Agrees o now w s t) where
  -- what a mark leaves as it is
  numbers_stay : (m : Mark) → number_received m ≡ None → NumbersAgree o s.exp s.above (more m t)
  numbers_stay m none = numbers-same o s.exp s.above t m none a.numbers

  held_stay : (m : Mark) → ((n : ℕ) → admits_at n m ≡ None) → ((n : ℕ) → delivers_number n m ≡ false) → ((n : ℕ) → empties_number n m ≡ false) → HeldAgree o s.exp s.held (more m t)
  held_stay m adm del emp = held-same o s.exp s.held t m adm del emp a.held

  commands_stay : (m : Mark) → enters m ≡ None → ((k : ℕ) → leaves_ticket k m ≡ false) → CommandsAgree w s.live s.entered (more m t)
  commands_stay m none quiet = commands-same w s.live s.entered t m none quiet a.commands

  closings_stay : (m : Mark) → ((conn : ℕ) → closes_conn conn m ≡ false) → closes_session m ≡ false → ClosingsAgree s.closed s.over (more m t)
  closings_stay m none open' = closings-same s.closed s.over t m none open' a.closings

  replies_stay : (m : Mark) → sent_on m ≡ None → RepliesAgree o s.stat_sn (more m t)
  replies_stay m none = replies-same o s.stat_sn t m none a.replies

  pub mark_agrees : (m : Mark) → Allowed o s t m → Agrees o now w (after_mark s m) (more m t)
  mark_agrees (Admits b) may = record {
    numbers = numbers-receives o s.exp s.above t (Admits b) b.number refl may.0 a.numbers;
    held = held-on o s.exp (past s.exp (inserted (λ k. k) b.number s.above)) (inserted number_of b s.held) (more (Admits b) t) (past_low (inserted (λ k. k) b.number s.above) s.exp)
        (held-admitted o s.exp s.held t b may.0 (omega (arith, may.1.0, a.numbers.exp, expected_low o.first t)) may.1.1 a.held);
    waiting = a.waiting;
    commands = commands_stay (Admits b) refl (λ k. refl);
    closings = closings_stay (Admits b) (λ k. refl) refl;
    replies = replies_stay (Admits b) refl;
    event = a.event;
  }
  mark_agrees (Delivers b) may = record {
    numbers = numbers_stay (Delivers b) refl;
    held = held-released o s.exp s.held t (Delivers b) b.number (λ n. refl) (λ n apart. (apart, refl)) (λ n here. held-delivered t b [] n (eqb-true b.number n here)) may a.held;
    waiting = a.waiting;
    commands = commands_stay (Delivers b) refl (λ k. refl);
    closings = closings_stay (Delivers b) (λ k. refl) refl;
    replies = replies_stay (Delivers b) refl;
    event = a.event;
  }
  mark_agrees (Executes b) may = record {
    numbers = numbers_stay (Executes b) refl;
    held = held_stay (Executes b) (λ n. refl) (λ n. refl) (λ n. refl);
    waiting = ap (filter (λ (x : Arrival). not (x.event == b.event))) a.waiting;
    commands = commands_stay (Executes b) refl (λ k. refl);
    closings = closings_stay (Executes b) (λ k. refl) refl;
    replies = replies_stay (Executes b) refl;
    event = a.event;
  }
  mark_agrees (Voids n) may = record {
    numbers = numbers-receives o s.exp s.above t (Voids n) n refl may a.numbers;
    held = held-on o s.exp (past s.exp (inserted (λ k. k) n s.above)) s.held (more (Voids n) t) (past_low (inserted (λ k. k) n s.above) s.exp) (held_stay (Voids n) (λ k. refl) (λ k. refl) (λ k. refl));
    waiting = a.waiting;
    commands = commands_stay (Voids n) refl (λ k. refl);
    closings = closings_stay (Voids n) (λ k. refl) refl;
    replies = replies_stay (Voids n) refl;
    event = a.event;
  }
  mark_agrees (Empties b) may = record {
    numbers = numbers_stay (Empties b) refl;
    held = held-released o s.exp s.held t (Empties b) b.number (λ n. refl) (λ n apart. (refl, apart)) (λ n here. held-emptied t b n here) may a.held;
    waiting = a.waiting;
    commands = commands_stay (Empties b) refl (λ k. refl);
    closings = closings_stay (Empties b) (λ k. refl) refl;
    replies = replies_stay (Empties b) refl;
    event = a.event;
  }
  mark_agrees (Waits b) may = record {
    numbers = numbers_stay (Waits b) refl;
    held = held_stay (Waits b) (λ n. refl) (λ n. refl) (λ n. refl);
    waiting = ap (λ ws. ws ++ b ∷ []) a.waiting;
    commands = commands_stay (Waits b) refl (λ k. refl);
    closings = closings_stay (Waits b) (λ k. refl) refl;
    replies = replies_stay (Waits b) refl;
    event = a.event;
  }
  mark_agrees (Leaves c) may = record {
    numbers = numbers_stay (Leaves c) refl;
    held = held_stay (Leaves c) (λ n. refl) (λ n. refl) (λ n. refl);
    waiting = a.waiting;
    commands = commands-left w s.live s.entered t c may a.commands;
    closings = closings_stay (Leaves c) (λ k. refl) refl;
    replies = replies_stay (Leaves c) refl;
    event = a.event;
  }
  mark_agrees (Enters c) may = record {
    numbers = numbers_stay (Enters c) refl;
    held = held_stay (Enters c) (λ n. refl) (λ n. refl) (λ n. refl);
    waiting = a.waiting;
    commands = commands-entered w s.live s.entered t c may a.commands;
    closings = closings_stay (Enters c) (λ k. refl) refl;
    replies = replies_stay (Enters c) refl;
    event = a.event;
  }
  mark_agrees (Sends conn reply) may = record {
    numbers = numbers_stay (Sends conn reply) refl;
    held = held_stay (Sends conn reply) (λ n. refl) (λ n. refl) (λ n. refl);
    waiting = a.waiting;
    commands = commands_stay (Sends conn reply) refl (λ k. refl);
    closings = closings_stay (Sends conn reply) (λ k. refl) refl;
    replies = replies-sent o s.stat_sn t conn a.replies;
    event = a.event;
  }
  mark_agrees (ClosesConn conn) may = record {
    numbers = numbers_stay (ClosesConn conn) refl;
    held = held_stay (ClosesConn conn) (λ n. refl) (λ n. refl) (λ n. refl);
    waiting = ap (filter (λ (x : Arrival). not (x.request.conn == conn))) a.waiting;
    commands = commands_stay (ClosesConn conn) refl (λ k. refl);
    closings = closings-conn s.closed s.over t conn a.closings;
    replies = replies_stay (ClosesConn conn) refl;
    event = a.event;
  }
  mark_agrees ClosesSession may = record {
    numbers = numbers_stay ClosesSession refl;
    held = held_stay ClosesSession (λ n. refl) (λ n. refl) (λ n. refl);
    waiting = refl;
    commands = commands_stay ClosesSession refl (λ k. refl);
    closings = closings-session s.closed s.over t a.closings;
    replies = replies_stay ClosesSession refl;
    event = a.event;
  }
  mark_agrees (Ignores why) may = record {
    numbers = numbers_stay (Ignores why) refl;
    held = held_stay (Ignores why) (λ n. refl) (λ n. refl) (λ n. refl);
    waiting = a.waiting;
    commands = commands_stay (Ignores why) refl (λ k. refl);
    closings = closings_stay (Ignores why) (λ k. refl) refl;
    replies = replies_stay (Ignores why) refl;
    event = a.event;
  }
