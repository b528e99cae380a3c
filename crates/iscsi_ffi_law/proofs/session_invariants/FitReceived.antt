-- No number is received twice, no event has two arrivals, and a number that is received lies in the window, as those that are held.
use Rattle.std.proofs.Common.{filter, not, ◌≡◌, ℕ, zero, suc, ◌+◌, ◌^◌, ◌<◌, ◌≤◌, ◌==◌, ◌||◌, cond, nat_le, ⊎_elim, Bool, true, false, List, [], ◌∷◌, ◌++◌, take, drop, find, filter_map, count_by, Some, None, unwrap_or, refl, ap, sym, ◌∙◌, arith, mod-eq_of_lt}
use Rattle.std.proofs.lemmas.Bool.{cases_lt, eqb-true, false≢true, leb-true}
use Rattle.std.proofs.lemmas.List.Sums.{sum_by-append}
use Rattle.iscsi_wire.specs.Fields.{big_endian_from, cmd_sn, connection_of, request_of}
use Rattle.iscsi_wire.specs.Serial.{lift, number_of_first, wire}
use Rattle.iscsi_rules.specs.rules.Execution.{exp_of}
use Rattle.iscsi_rules.specs.rules.Settings.{Setting}
use Rattle.iscsi_rules.specs.rules.Trace.{Arrival, Mark, Sends, Trace, held, is_delivered, is_emptied, is_received, shown}
use Rattle.iscsi_rules.proofs.general.BoolLemmas.{or_first}
use Rattle.iscsi_rules.proofs.promises.CloseRuns.{Sounds, clear_of}
use Rattle.iscsi_rules.proofs.general.CountLemmas.{count-cons, one}
use Rattle.iscsi_rules.proofs.traces.FateLemmas.{Delivered, Emptied, Fate, Held, Unreceived, Voided, fate}
use Rattle.iscsi_rules.proofs.items.Forms.{AfterWaiting, AtArrival, AtTurn, Completed, Executed, Form, HasForm, HaveForms, Ignored, IsFormed, Postponed, Received, Rejected, Start, marks_done, marks_of_form, start_mark}
use Rattle.iscsi_rules.proofs.traces.HeldLemmas.{admitted_of_held, held-number, held_received, received-admits}
use Rattle.iscsi_rules.proofs.general.ListLemmas.{fewer_counted}
use Rattle.iscsi_rules.proofs.promises.ReplyTurns.{begins_of}
use Rattle.iscsi_rules.specs.rules.Trace.{waiting}
use Rattle.iscsi_outbox_rules.proofs.room.RoomSteps.{shrinks_done}
use Rattle.iscsi_ffi_law.proofs.session_invariants.FitOnce.{one_most}
use Rattle.iscsi_rules.proofs.general.Missing.{expected_below}
use Rattle.iscsi_rules.proofs.general.NumberLemmas.{wire-lift}
use Rattle.iscsi_rules.proofs.promises.NumberingLemmas.{unseen}
use Rattle.iscsi_rules.proofs.promises.ReplyForms.{replies_seen}
use Rattle.iscsi_rules.proofs.promises.ReplyTurns.{admitted_there}
use Rattle.iscsi_rules.proofs.general.ElementLemmas.{first-in}
use Rattle.iscsi_rules.proofs.traces.TraceLemmas.{received-item}
use Rattle.iscsi_requests.specs.Numbers.{IsInWindow, SIZES, distance, size_for}
use Rattle.iscsi_ffi_rules.specs.rules.Needs.{admitted_by}
use Rattle.iscsi_ffi_law.specs.Arrived.{AreDistinct, IsReceivable}
use Rattle.iscsi_ffi_law.proofs.session_invariants.FitArrivals.{AllAre}
use Rattle.iscsi_ffi_law.proofs.session_invariants.FitTurns.{IsTurned}
use Rattle.iscsi_ffi_law.proofs.general.Members.{each_in}
use Rattle.iscsi_ffi_law.specs.Sides.{AreBytes}

-- ---- what an item admits

admitted_in : Form → List Arrival
admitted_in (Received a) = a ∷ []
admitted_in _ = []

admitted_form : (form : Form) → filter_map admitted_by (marks_of_form form) ≡ admitted_in form
unfolding admitted_in
admitted_form (Ignored why) = refl
admitted_form (Rejected a) = refl
admitted_form (Received a) = refl
admitted_form (Postponed a) = refl
admitted_form (Completed c status) = refl
admitted_form (Executed start a d) = by_start start
  where
    done : filter_map admitted_by (marks_done a d) ≡ []
    done = replies_seen admitted_by (λ n. refl) (λ c. refl) (λ b. refl) (λ c. refl) (λ conn. refl) refl a d ∙ unseen admitted_by (Sends (connection_of a.request)) d.reply (λ reply. refl)

    by_start : (s : Start) → filter_map admitted_by (start_mark s a ∷ marks_done a d) ≡ []
    by_start AtTurn = done
    by_start AtArrival = done
    by_start AfterWaiting = done

count_item : (p : Arrival → Bool) (item : List Mark) (form : Form) (t : Trace) → item ≡ marks_of_form form → count_by p (shown admitted_by (item ∷ t)) ≡ count_by p (shown admitted_by t) + count_by p (admitted_in form)
unfolding admitted_in
count_item p item form t is =
    ap (λ as'. count_by p (shown admitted_by t ++ as')) (ap (filter_map admitted_by) is ∙ admitted_form form) ∙ sum_by-append (λ (a : Arrival). cond (p a) 1 0) (shown admitted_by t) (admitted_in form)

-- ---- no number is received twice

once_received : (o : Setting) (t : Trace) (next : ℕ) → HaveForms o next t → (n : ℕ) → count_by (λ (a : Arrival). a.number == n) (shown admitted_by t) ≤ one (is_received t n)
unfolding admitted_in
once_received o [] next forms n = omega arith
once_received o (item ∷ t) next forms n =
    let f : HasForm o forms.0 t item = forms.1.1.0 in
    let rest = once_received o t _ forms.1.1.1 n in
    let all = count_item (λ (a : Arrival). a.number == n) item f.form t f.is in
    let more : one (is_received t n) ≤ one (is_received (item ∷ t) n) = still (is_received t n) (is_received (item ∷ t) n) (λ is. received-item item t n ∙ or_first (is_received t n) _ is) in
    by_form forms.0 f.form f.is f.formed rest all more
  where
    still : (u v : Bool) → (u ≡ true → v ≡ true) → one u ≤ one v
    still true v up = let e : one v ≡ 1 = ap one (up refl) in omega (arith, e)
    still false v up = omega arith

    by_form : (now : ℕ) (form : Form) → item ≡ marks_of_form form → IsFormed o now t form → count_by (λ (a : Arrival). a.number == n) (shown admitted_by t) ≤ one (is_received t n)
        → count_by (λ (a : Arrival). a.number == n) (shown admitted_by (item ∷ t)) ≡ count_by (λ (a : Arrival). a.number == n) (shown admitted_by t) + count_by (λ (a : Arrival). a.number == n) (admitted_in form)
        → one (is_received t n) ≤ one (is_received (item ∷ t) n) → count_by (λ (a : Arrival). a.number == n) (shown admitted_by (item ∷ t)) ≤ one (is_received (item ∷ t) n)
    by_form now (Ignored why) is formed rest all more = omega (arith, rest, all, more)
    by_form now (Rejected a) is formed rest all more = omega (arith, rest, all, more)
    by_form now (Postponed a) is formed rest all more = omega (arith, rest, all, more)
    by_form now (Completed c status) is formed rest all more = omega (arith, rest, all, more)
    by_form now (Executed start a d) is formed rest all more = omega (arith, rest, all, more)
    by_form now (Received a) is formed rest all more = by_number (a.number == n) refl
      where
        by_number : (v : Bool) → (a.number == n) ≡ v → count_by (λ (b : Arrival). b.number == n) (shown admitted_by (item ∷ t)) ≤ one (is_received (item ∷ t) n)
        by_number true same =
            let new : one (is_received t n) ≡ 0 = ap one (ap (is_received t) (sym (eqb-true a.number n same)) ∙ formed.1) in
            let here : one (a.number == n) ≡ 1 = ap one same in
            let now : one (is_received (item ∷ t) n) ≡ 1 = ap one (ap (λ i. is_received (i ∷ t) n) is ∙ received-admits t a n ∙ ap (λ v. is_received t n || v) same ∙ always (is_received t n)) in
            omega (arith, new, here, now, rest, all, count-cons (λ (b : Arrival). b.number == n) a [])
          where
            always : (v : Bool) → (v || true) ≡ true
            always true = refl
            always false = refl
        by_number false apart = let here : one (a.number == n) ≡ 0 = ap one apart in omega (arith, here, rest, all, more, count-cons (λ (b : Arrival). b.number == n) a [])

-- ---- no event has two arrivals

-- received, or functions that wait
abbrev arrivals : ℕ → Trace → ℕ
arrivals v t = count_by (λ (a : Arrival). a.event == v) (shown admitted_by t) + count_by (λ (a : Arrival). a.event == v) (waiting t)

more_arrivals : (o : Setting) (now v : ℕ) (item : List Mark) (t : Trace) (f : HasForm o now t item) → arrivals v (item ∷ t) ≤ arrivals v t + begins_of now v f.form
unfolding admitted_in
more_arrivals o now v item t f =
    let all = count_item (λ (a : Arrival). a.event == v) item f.form t f.is in
    let waits = ap (λ i. count_by (λ (a : Arrival). a.event == v) (waiting (i ∷ t))) f.is in
    let few = by_form f.form f.formed in
    omega (arith, all, waits, few)
  where
    by_form : (form : Form) → IsFormed o now t form → count_by (λ (a : Arrival). a.event == v) (admitted_in form) + count_by (λ (a : Arrival). a.event == v) (waiting (marks_of_form form ∷ t)) ≤ count_by (λ (a : Arrival). a.event == v) (waiting t) + begins_of now v form
    by_form (Ignored why) x = omega arith
    by_form (Rejected a) x = omega arith
    by_form (Received a) x = let same : one (a.event == v) ≡ one (now == v) = ap (λ (e : ℕ). one (e == v)) x.0 in omega (arith, same, count-cons (λ (b : Arrival). b.event == v) a [])
    by_form (Postponed a) x =
        let same : one (a.event == v) ≡ one (now == v) = ap (λ (e : ℕ). one (e == v)) x in
        omega (arith, same, sum_by-append (λ (b : Arrival). cond (b.event == v) 1 0) (waiting t) (a ∷ []), count-cons (λ (b : Arrival). b.event == v) a [])
    by_form (Completed c status) x = omega arith
    by_form (Executed AtTurn a d) x = let less = shrinks_done a d (λ (b : Arrival). b.event == v) (waiting t) in omega (arith, less)
    by_form (Executed AtArrival a d) x =
        let ws : List Arrival = filter (λ (b : Arrival). not (b.event == a.event)) (waiting t) in
        let less = shrinks_done a d (λ (b : Arrival). b.event == v) ws in omega (arith, less, fewer_counted (λ (b : Arrival). b.event == v) (λ (b : Arrival). not (b.event == a.event)) (waiting t))
    by_form (Executed AfterWaiting a d) x =
        let ws : List Arrival = filter (λ (b : Arrival). not (b.event == a.event)) (waiting t) in
        let less = shrinks_done a d (λ (b : Arrival). b.event == v) ws in omega (arith, less, fewer_counted (λ (b : Arrival). b.event == v) (λ (b : Arrival). not (b.event == a.event)) (waiting t))

once_arrived : (o : Setting) (t : Trace) (next : ℕ) → HaveForms o next t → (e : ℕ) → arrivals e t ≤ 1
once_arrived o t next forms e = one_most o (λ v x. arrivals v x) (λ v. refl) (more_arrivals o) e t next forms

pub distinct_forms : (o : Setting) (t : Trace) (next : ℕ) → HaveForms o next t → AreDistinct t
distinct_forms o t next forms = record {
  numbers = λ n. let few = once_received o t next forms n in let most = small (is_received t n) in omega (arith, few, most);
  events = once_arrived o t next forms;
}
  where
    small : (v : Bool) → one v ≤ 1
    small true = omega arith
    small false = omega arith

-- ---- numbers on the wire

-- the wire shows a request's number as its CmdSN
pub record IsWired (a : Arrival) : Type 0 where
  pub fits : cmd_sn a.request < 2 ^ 32
  pub same : wire a.number ≡ cmd_sn a.request

pub wired : (event e : ℕ) (conn : ℕ) (header : List ℕ) → cmd_sn (request_of conn header) < 2 ^ 32 → IsWired (record { event = event; number = lift e (cmd_sn (request_of conn header)); request = request_of conn header })
wired event e conn header fits = record { fits = fits; same = wire-lift e (cmd_sn (request_of conn header)) ∙ mod-eq_of_lt fits }

each-drop : (n : ℕ) (xs : List ℕ) → AreBytes xs → AreBytes (drop n xs)
each-drop zero xs h = h
each-drop (suc n) [] h = tt
each-drop (suc n) (x ∷ xs) h = each-drop n xs h.1

four_bytes : (xs : List ℕ) → AreBytes xs → big_endian_from 0 (take 4 xs) < 2 ^ 32
four_bytes [] h = omega arith
four_bytes (a ∷ []) h = let p = h.0 in omega (arith, p)
four_bytes (a ∷ b ∷ []) h = let p = h.0 in let q = h.1.0 in omega (arith, p, q)
four_bytes (a ∷ b ∷ c ∷ []) h = let p = h.0 in let q = h.1.0 in let r = h.1.1.0 in omega (arith, p, q, r)
four_bytes (a ∷ b ∷ c ∷ d ∷ xs) h = let p = h.0 in let q = h.1.0 in let r = h.1.1.0 in let s = h.1.1.1.0 in omega (arith, p, q, r, s)

pub wired_bytes : (conn : ℕ) (header : List ℕ) → AreBytes header → cmd_sn (request_of conn header) < 2 ^ 32
wired_bytes conn header h = four_bytes (drop 24 header) (each-drop 24 header h)

-- the table has a place for each number of the window
size_enough_of : (w : ℕ) → w ≤ 1024 → (xs : List ℕ) → w ≤ unwrap_or (find (λ size. nat_le w size) xs) 1024
size_enough_of w most [] = most
size_enough_of w most (x ∷ xs) = by_test (size_enough_of w most xs) (nat_le w x) refl
  where
    by_test : w ≤ unwrap_or (find (λ size. nat_le w size) xs) 1024 → (v : Bool) → nat_le w x ≡ v → w ≤ unwrap_or (cond v (Some x) (find (λ size. nat_le w size) xs)) 1024
    by_test further true is = leb-true w x is
    by_test further false is = further

size_enough : (w : ℕ) → w ≤ 1024 → w ≤ size_for w
size_enough w most = size_enough_of w most SIZES

-- ---- a number that is received

module _ (o : Setting) (t : Trace) (next : ℕ) (forms : HaveForms o next t) (turned : IsTurned o t) (sounds : Sounds o t) (wires : AllAre IsWired t) (window : o.window ≤ 1024) where
  e : ℕ
  e = exp_of o t

  in_window : (n : ℕ) (a : Arrival) → a.number ≡ n → IsWired a → exp_of o t ≤ n → n < exp_of o t + o.window → IsInWindow (size_for o.window) (wire (exp_of o t)) (cmd_sn a.request)
  in_window n a is w low high =
      let size = size_enough o.window window in
      let same = w.same in
      record {
        from_fits = omega arith;
        fits = w.fits;
        near = (let z : distance (wire (exp_of o t)) (cmd_sn a.request) < size_for o.window = omega (arith, same, is, low, high, size, window) in z);
      }

  pub record IsNear (n : ℕ) : Type 0 where
    pub low : exp_of o t ≤ n
    pub high : n < exp_of o t + o.window

  pub near_held : (n : ℕ) (b : Arrival) → held t n ≡ Some b → IsNear n
  near_held n b is = record {
    low = ⊎_elim (λ below. absurd (let gone : None ≡ Some b = sym (turned.turned n below) ∙ is in cc)) (λ le. omega (arith, le)) (cases_lt n (exp_of o t));
    high = ((clear_of o t sounds).range n b (admitted_of_held t n b is)).1;
  }

  wired_held : (n : ℕ) (b : Arrival) → held t n ≡ Some b → IsWired b
  wired_held n b is = each_in IsWired (shown admitted_by t) b (admitted_there n t b (first-in _ b (admitted_of_held t n b is))) wires.admitted

  untaken_new : (n : ℕ) → is_received t n ≡ false → (is_delivered t n || is_emptied t n) ≡ false
  untaken_new n new = by_fate (fate o n t next forms)
    where
      both : (u v : Bool) → u ≡ false → v ≡ false → (u || v) ≡ false
      both u v f g = ap (λ x. x || v) f ∙ g

      other : is_received t n ≡ true → (is_delivered t n || is_emptied t n) ≡ false
      other is = absurd (false≢true (sym new ∙ is))

      by_fate : Fate t n → (is_delivered t n || is_emptied t n) ≡ false
      by_fate (Unreceived s) = both (is_delivered t n) (is_emptied t n) s.delivered s.emptied
      by_fate (Held a s) = other s.received
      by_fate (Voided s) = other s.received
      by_fate (Emptied s) = other s.received
      by_fate (Delivered s) = other s.received

  pub receivable : (a : Arrival) → IsWired a → is_received t a.number ≡ false → number_of_first o.first ≤ a.number → a.number < exp_of o t + o.window → IsReceivable o t a
  receivable a w new first high =
      let low : exp_of o t ≤ a.number = ⊎_elim (λ below. absurd (false≢true (sym new ∙ expected_below o.first t a.number first below))) (λ le. omega (arith, le)) (cases_lt a.number (exp_of o t)) in
      record {
        untaken = untaken_new a.number new;
        lies = in_window a.number a refl w low high;
        others = λ n b is.
            let near = near_held n b is in
            let x = wired_held n b is in
            let number = held-number t n b is in (
              in_window n b number x near.low near.high,
              λ same.
                  let l = near.low in
                  let m = near.high in
                  let p = x.same in
                  let q = w.same in
                  let here : n ≡ a.number = omega (arith, l, m, low, high, p, q, same, number, window) in
                  false≢true (sym new ∙ ap (is_received t) (sym here) ∙ held_received t n b is),
            );
      }
