-- After each event of a session whose requests come on its own connections there is no more at once, held, waiting or live, than its
-- window and twelve for each connection.
use Rattle.std.proofs.Common.{◌≡◌, ℕ, zero, suc, ◌+◌, ◌-◌, ◌*◌, ◌≤◌, ◌<◌, ◌==◌, ◌&&◌, ◌||◌, inl, inr, ⊎_elim, not, cond, Bool, true, false, List, [], ◌∷◌, ◌++◌, filter_map, count_by, length, Some, None, refl, ap, sym, ◌∙◌, subst, arith, nat_lt, eq-eqb}
use Rattle.std.specs.List.{cons_option}
use Rattle.std.proofs.lemmas.Bool.{false≢true, eqb-true, cases_lt}
use Rattle.std.proofs.lemmas.Bool.Decides.{nat_tests}
use Rattle.std.proofs.lemmas.List.{append-nil}
use Rattle.std.proofs.lemmas.List.Folds.{list_any-append}
use Rattle.std.proofs.lemmas.List.Sums.{sum_by-append}
use Rattle.iscsi_wire.specs.Fields.{connection_of, is_immediate}
use Rattle.iscsi_rules.specs.rules.Settings.{Setting, is_known}
use Rattle.iscsi_rules.specs.rules.Trace.{Arrival, Command, Mark, Admits, Delivers, Executes, Voids, Empties, Waits, Leaves, Enters, Sends, ClosesConn, ClosesSession, Ignores, Trace, shown, first_of, number_received, received, is_received, contains, admits_at, admitted, held, is_delivered, is_emptied, waiting, entered, live, has, leaves_ticket}
use Rattle.iscsi_rules.specs.rules.Execution.{exp_of, unfinished}
use Rattle.iscsi_rules.proofs.general.BoolLemmas.{and_true}
use Rattle.iscsi_rules.proofs.traces.ApartLemmas.{eq_sym}
use Rattle.iscsi_rules.proofs.general.CountLemmas.{one, count-cons, count-split}
use Rattle.iscsi_rules.proofs.general.ElementLemmas.{In, in-filter, in-append, append-in_first, append-in_second}
use Rattle.iscsi_rules.proofs.traces.HeldLemmas.{held_received}
use Rattle.iscsi_rules.proofs.promises.NumberingLemmas.{unseen}
use Rattle.iscsi_rules.proofs.items.Forms.{AtTurn, AtArrival, AfterWaiting, Deeds, marks_done, Form, Ignored, Rejected, Received, Postponed, Completed, Executed, marks_of_form, IsFormed, HasForm, HaveForms}
use Rattle.iscsi_rules.proofs.promises.ReplyForms.{replies_seen}
use Rattle.iscsi_rules.proofs.promises.ReplyTurns.{admits_request}
use Rattle.iscsi_rules.proofs.promises.ReplyRuns.{one_most}
use Rattle.iscsi_rules.proofs.general.ListLemmas.{fewer_counted}
use Rattle.iscsi_outbox_rules.proofs.general.EachLemmas.{EachOf, each-filter}
use Rattle.iscsi_outbox_rules.proofs.aborts.ScopeConns.{IsKnown, KnownIn, all_waiting, commands_known}
use Rattle.iscsi_outbox_rules.proofs.room.RoomTurns.{Within}
use Rattle.iscsi_outbox_rules.proofs.room.RoomStored.{any, is_stored, stored, at_once}

-- ---- what is counted

-- one of two tests passes
count_either : {A : Type 0} (p q r : A → Bool) (xs : List A) → ((x : A) → In x xs → one (p x) ≤ one (q x) + one (r x)) → count_by p xs ≤ count_by q xs + count_by r xs
count_either p q r [] h = omega arith
count_either p q r (x ∷ xs) h = omega (arith, count-cons p x xs, count-cons q x xs, count-cons r x xs, h x (inl refl), count_either p q r xs (λ y there. h y (inr there)))

-- numbers from e on, no two equal, and below e + m
in_range : (as' : List Arrival) (e m : ℕ) → ((x : ℕ) → count_by (λ (a : Arrival). a.number == x) as' ≤ 1) → ((a : Arrival) → In a as' → e ≤ a.number) → count_by (λ (a : Arrival). nat_lt a.number (e + m)) as' ≤ m
in_range as' e zero once low =
    omega (arith, count_either (λ (a : Arrival). nat_lt a.number (e + 0)) (λ a. false) (λ a. false) as' (λ a there. none a (low a there)), nothing as')
  where
    none : (a : Arrival) → e ≤ a.number → one (nat_lt a.number (e + 0)) ≤ 0 + 0
    none a high = by_test (nat_lt a.number (e + 0)) refl
      where
        by_test : (b : Bool) → nat_lt a.number (e + 0) ≡ b → one b ≤ 0 + 0
        by_test true is = absurd (let z : ⊥ = grind (arith, nat_tests) in z)
        by_test false is = omega arith

    nothing : (xs : List Arrival) → count_by (λ (a : Arrival). false) xs ≤ 0
    nothing [] = omega arith
    nothing (x ∷ xs) = omega (arith, count-cons (λ (a : Arrival). false) x xs, nothing xs)
in_range as' e (suc m) once low =
    omega (arith, count_either (λ (a : Arrival). nat_lt a.number (e + suc m)) (λ (a : Arrival). nat_lt a.number (e + m)) (λ (a : Arrival). a.number == (e + m)) as' (λ a there. last a), in_range as' e m once low, once (e + m))
  where
    last : (a : Arrival) → one (nat_lt a.number (e + suc m)) ≤ one (nat_lt a.number (e + m)) + one (a.number == (e + m))
    last a = by_tests (nat_lt a.number (e + suc m)) (nat_lt a.number (e + m)) (a.number == (e + m)) refl refl refl
      where
        by_tests : (b c d : Bool) → nat_lt a.number (e + suc m) ≡ b → nat_lt a.number (e + m) ≡ c → (a.number == (e + m)) ≡ d → one b ≤ one c + one d
        by_tests false c d i j k = omega arith
        by_tests true true d i j k = omega arith
        by_tests true false true i j k = omega arith
        by_tests true false false i j k = absurd (let z : ⊥ = grind (arith, nat_tests) in z)

-- of each connection no more than so many
by_conns : {A : Type 0} (f : A → ℕ) (p : A → Bool) (k : ℕ) (xs : List A) → ((c : ℕ) → count_by (λ x. p x && f x == c) xs ≤ k) → (cs : List (ℕ × ℕ)) → count_by (λ x. p x && is_known (f x) cs) xs ≤ k * length cs
by_conns f p k xs few [] = omega (arith, none xs)
  where
    none : (ys : List _) → count_by (λ x. p x && false) ys ≤ 0
    none [] = omega arith
    none (y ∷ ys) = omega (arith, count-cons (λ x. p x && false) y ys, nothing (p y), none ys)
      where
        nothing : (b : Bool) → one (b && false) ≤ 0
        nothing true = omega arith
        nothing false = omega arith
by_conns f p k xs few (c ∷ cs) =
    omega (arith, count_either (λ x. p x && is_known (f x) (c ∷ cs)) (λ x. p x && f x == c.0) (λ x. p x && is_known (f x) cs) xs (λ x there. either (p x) (c.0 == f x) (f x == c.0) (is_known (f x) cs) (eq_sym c.0 (f x))), few c.0, by_conns f p k xs few cs)
  where
    either : (a b b' d : Bool) → b ≡ b' → one (a && (b || d)) ≤ one (a && b') + one (a && d)
    either false b b' d same = omega arith
    either true true true d same = omega arith
    either true true false d same = absurd (false≢true (sym same))
    either true false b' true same = omega arith
    either true false b' false same = omega arith

-- where all pass a test
count_all : {A : Type 0} (p q : A → Bool) (xs : List A) → EachOf (λ x. q x ≡ true) xs → count_by p xs ≤ count_by (λ x. p x && q x) xs
count_all p q [] h = omega arith
count_all p q (x ∷ xs) h = omega (arith, count-cons p x xs, count-cons (λ y. p y && q y) x xs, both (p x) (q x) h.0, count_all p q xs h.1)
  where
    both : (a b : Bool) → b ≡ true → one a ≤ one (a && b)
    both true true is = omega arith
    both true false is = absurd (false≢true is)
    both false b is = omega arith

-- ---- each number is admitted once

stays : (ns ms : List ℕ) (x : ℕ) → one (contains ns x) ≤ one (contains (ns ++ ms) x)
stays ns ms x = omega (arith, ap one (list_any-append (λ k. k == x) ns ms), more (contains ns x) (contains ms x))
  where
    more : (a b : Bool) → one a ≤ one (a || b)
    more true b = omega arith
    more false true = omega arith
    more false false = omega arith

admits_done : (a : Arrival) (d : Deeds) → filter_map admits_request (marks_done a d) ≡ []
admits_done a d = replies_seen admits_request (λ n. refl) (λ c. refl) (λ b. refl) (λ c. refl) (λ conn. refl) refl a d ∙ unseen admits_request (Sends (connection_of a.request)) d.reply (λ reply. refl)

abbrev Once : Trace → Type 0
Once t = (x : ℕ) → count_by (λ (a : Arrival). a.number == x) (shown admits_request t) ≤ one (is_received t x)

once_none : (item : List Mark) (t : Trace) → filter_map admits_request item ≡ [] → Once t → Once (item ∷ t)
once_none item t none h x =
    omega (arith, h x, stays (received t) (filter_map number_received item) x, ap (λ as'. count_by (λ (a : Arrival). a.number == x) (shown admits_request t ++ as')) none, ap (count_by (λ (a : Arrival). a.number == x)) (append-nil (shown admits_request t)))

once_form : (o : Setting) (now : ℕ) (t : Trace) (form : Form) → IsFormed o now t form → Once t → Once (marks_of_form form ∷ t)
once_form o now t (Ignored why) f h = once_none (marks_of_form (Ignored why)) t refl h
once_form o now t (Rejected a) f h = once_none (marks_of_form (Rejected a)) t refl h
once_form o now t (Postponed a) f h = once_none (marks_of_form (Postponed a)) t refl h
once_form o now t (Completed c status) f h = once_none (marks_of_form (Completed c status)) t refl h
once_form o now t (Executed AtTurn a d) f h = once_none (marks_of_form (Executed AtTurn a d)) t (admits_done a d) h
once_form o now t (Executed AtArrival a d) f h = once_none (marks_of_form (Executed AtArrival a d)) t (admits_done a d) h
once_form o now t (Executed AfterWaiting a d) f h = once_none (marks_of_form (Executed AfterWaiting a d)) t (admits_done a d) h
once_form o now t (Received a) f h = λ x.
    let p : Arrival → Bool = λ b. b.number == x in
    omega (arith, sum_by-append (λ b. one (p b)) (shown admits_request t) (a ∷ []), count-cons p a [], h x, ap one (list_any-append (λ k. k == x) (received t) (a.number ∷ [])), by_test x (a.number == x) refl (is_received t x) refl)
  where
    by_test : (x : ℕ) (b : Bool) → (a.number == x) ≡ b → (c : Bool) → is_received t x ≡ c → one c + one (a.number == x) ≤ one (c || ((a.number == x) || false))
    by_test x true is true there = absurd (false≢true (sym f.1 ∙ ap (is_received t) (eqb-true a.number x is) ∙ there))
    by_test x true is false there = omega (arith, ap one is, ap (λ v. one (v || false)) is)
    by_test x false is true there = omega (arith, ap one is)
    by_test x false is false there = omega (arith, ap one is)

pub admitted_once : (o : Setting) (t : Trace) (next : ℕ) → HaveForms o next t → (x : ℕ) → count_by (λ (a : Arrival). a.number == x) (shown admits_request t) ≤ one (is_received t x)
admitted_once o [] next h x = omega arith
admitted_once o (item ∷ t) next h x =
    let f : HasForm o h.0 t item = h.1.1.0 in
    let all : Once (item ∷ t) = subst (λ i. Once (i ∷ t)) (sym f.is) (once_form o h.0 t f.form f.formed (admitted_once o t _ h.1.1.1)) in
    all x

-- ---- what is held, is so at a number whose turn is to come

admitted_at : (item : List Mark) (a : Arrival) → In a (filter_map admits_request item) → In a (filter_map (admits_at a.number) item)
admitted_at [] a h = absurd h
admitted_at (Admits b ∷ ms) a h =
    elim (b.number == a.number) as (λ v. (b.number == a.number) ≡ v → In a (cons_option (cond v (Some b) None) (filter_map (admits_at a.number) ms))) [
      | true ↦ λ is. ⊎_elim (λ same. inl same) (λ later. inr (admitted_at ms a later)) h
      | false ↦ λ is. ⊎_elim (λ same. absurd (false≢true (sym is ∙ eq-eqb b.number a.number (ap (λ (x : Arrival). x.number) same)))) (λ later. admitted_at ms a later) h
    ] refl
admitted_at (Delivers b ∷ ms) a h = admitted_at ms a h
admitted_at (Executes b ∷ ms) a h = admitted_at ms a h
admitted_at (Voids n ∷ ms) a h = admitted_at ms a h
admitted_at (Empties b ∷ ms) a h = admitted_at ms a h
admitted_at (Waits b ∷ ms) a h = admitted_at ms a h
admitted_at (Leaves c ∷ ms) a h = admitted_at ms a h
admitted_at (Enters c ∷ ms) a h = admitted_at ms a h
admitted_at (Sends conn reply ∷ ms) a h = admitted_at ms a h
admitted_at (ClosesConn conn ∷ ms) a h = admitted_at ms a h
admitted_at (ClosesSession ∷ ms) a h = admitted_at ms a h
admitted_at (Ignores why ∷ ms) a h = admitted_at ms a h

admitted_in : (t : Trace) (a : Arrival) → In a (shown admits_request t) → In a (shown (admits_at a.number) t)
admitted_in [] a h = absurd h
admitted_in (item ∷ t) a h =
    ⊎_elim (λ before. append-in_first (shown (admits_at a.number) t) (filter_map (admits_at a.number) item) a (admitted_in t a before))
    (λ now. append-in_second (shown (admits_at a.number) t) (filter_map (admits_at a.number) item) a (admitted_at item a now))
    (in-append (shown admits_request t) (filter_map admits_request item) a h)

some_first : (as' : List Arrival) (a : Arrival) → In a as' → (b : Arrival) × (first_of as' ≡ Some b)
some_first [] a h = absurd h
some_first (b ∷ as') a h = (b, refl)

-- something is held at the number of what is stored
stored_held : (t : Trace) (a : Arrival) → In a (stored t) → (b : Arrival) × (held t a.number ≡ Some b)
stored_held t a h =
    let there = in-filter (is_stored t) (shown admits_request t) a h in
    let first = some_first (shown (admits_at a.number) t) a (admitted_in t a there.0) in
    (first.0, by_test (is_delivered t a.number || is_emptied t a.number) there.1 first.1)
  where
    by_test : {b : Arrival} (v : Bool) → not v ≡ true → admitted t a.number ≡ Some b → cond v None (admitted t a.number) ≡ Some b
    by_test true is found = absurd (false≢true is)
    by_test false is found = found

module _ (o : Setting) (t : Trace) (next : ℕ) (forms : HaveForms o next t) (w : Within o t) where
  ahead : (a : Arrival) → In a (stored t) → (exp_of o t ≤ a.number) × (a.number < exp_of o t + (o.window - unfinished t))
  ahead a h =
      let b = stored_held t a h in
      let near : a.number + unfinished t < exp_of o t + o.window = w.near a.number (held_received t a.number b.0 b.1) in (
        ⊎_elim (λ below. absurd (let z : None ≡ Some b.0 = sym (w.turned a.number below) ∙ b.1 in cc)) (λ high. high) (cases_lt a.number (exp_of o t)),
        omega (arith, near, w.few),
      )

  few_stored : count_by any (stored t) + unfinished t ≤ o.window
  few_stored =
      let e : ℕ = exp_of o t in
      let m : ℕ = o.window - unfinished t in
      let once : (x : ℕ) → count_by (λ (a : Arrival). a.number == x) (stored t) ≤ 1
      = λ x. omega (arith, fewer_counted (λ (a : Arrival). a.number == x) (is_stored t) (shown admits_request t), admitted_once o t next forms x, one_most (is_received t x)) in
      let all : count_by any (stored t) ≤ count_by (λ (a : Arrival). nat_lt a.number (e + m)) (stored t) + 0
      = omega (arith, count_either any (λ (a : Arrival). nat_lt a.number (e + m)) (λ a. false) (stored t) (λ a there. inside a (ahead a there).1), nothing (stored t)) in
      omega (arith, all, in_range (stored t) e m once (λ a there. (ahead a there).0), w.few)
    where
      inside : (a : Arrival) → a.number < exp_of o t + (o.window - unfinished t) → one true ≤ one (nat_lt a.number (exp_of o t + (o.window - unfinished t))) + one false
      inside a below = by_test (nat_lt a.number (exp_of o t + (o.window - unfinished t))) refl
        where
          by_test : (b : Bool) → nat_lt a.number (exp_of o t + (o.window - unfinished t)) ≡ b → 1 ≤ one b + 0
          by_test true is = omega arith
          by_test false is = absurd (let z : ⊥ = grind (arith, nat_tests) in z)

      nothing : (xs : List Arrival) → count_by (λ (a : Arrival). false) xs ≤ 0
      nothing [] = omega arith
      nothing (x ∷ xs) = omega (arith, count-cons (λ (a : Arrival). false) x xs, nothing xs)

  pub few_at_once : KnownIn o t → at_once t ≤ o.window + 12 * length o.conns
  few_at_once known =
      let wait : count_by any (waiting t) ≤ count_by (λ (a : Arrival). any a && is_known (connection_of a.request) o.conns) (waiting t)
      = count_all any (λ (a : Arrival). is_known (connection_of a.request) o.conns) (waiting t) (all_waiting o t known) in
      let immediate : Command → Bool = λ c. is_immediate c.arrival.request in
      let alive : EachOf (λ (c : Command). is_known (connection_of c.arrival.request) o.conns ≡ true) (live t)
      = each-filter (λ (c : Command). IsKnown o c.arrival) (λ (c : Command). not (has (leaves_ticket c.ticket) t)) (entered t) (commands_known o t known) in
      omega (
        arith,
        few_stored,
        wait,
        by_conns (λ (a : Arrival). connection_of a.request) any 4 (waiting t) w.four o.conns,
        count-split any immediate (live t),
        count_alike (λ (c : Command). immediate c && any c) immediate (live t) (λ c. and_true (immediate c)),
        count_alike (λ (c : Command). not (immediate c) && any c) (λ (c : Command). not (immediate c)) (live t) (λ c. and_true (not (immediate c))),
        count_all immediate (λ (c : Command). is_known (connection_of c.arrival.request) o.conns) (live t) alive,
        by_conns (λ (c : Command). connection_of c.arrival.request) immediate 8 (live t) w.eight o.conns,
      )
    where
      count_alike : {A : Type 0} (p q : A → Bool) (xs : List A) → ((x : A) → p x ≡ q x) → count_by p xs ≡ count_by q xs
      count_alike p q [] h = refl
      count_alike p q (x ∷ xs) h = omega (arith, count-cons p x xs, count-cons q x xs, ap one (h x), count_alike p q xs h)
