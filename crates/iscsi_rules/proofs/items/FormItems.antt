-- Each item has a form: what a request does that executes.
use Rattle.std.proofs.Common.{◌≡◌, ℕ, zero, suc, ◌+◌, ◌<◌, ◌≤◌, ◌==◌, ◌&&◌, ◌||◌, not, ⊎_elim, cond, Bool, true, false, List, [], ◌∷◌, ◌++◌, length, filter, count_by, Option, Some, None, refl, ap, sym, subst, ◌∙◌, arith, nat_lt, nat_le, append_assoc, eq-eqb}
use Rattle.std.specs.List.{list_all, flat_map, range_with_len}
use Rattle.std.proofs.lemmas.Bool.{false≢true}
use Rattle.std.proofs.lemmas.Bool.Decides.{nat_tests}
use Rattle.std.proofs.lemmas.List.{append-nil}
use Rattle.std.proofs.lemmas.List.Sums.{sum_by-append}
use Rattle.iscsi_wire.specs.declared.reply.Reply.{Reply}
use Rattle.iscsi_wire.specs.declared.request.Request.{Request}
use Rattle.iscsi_wire.specs.declared.reply.Reply.TheVariants.{Task, Logout}
use Rattle.iscsi_wire.specs.Serial.{lift}
use Rattle.iscsi_wire.specs.Fields.{attr_code, connection_of, is_immediate, function, itt, rtt, ref_cmd_sn}
use Rattle.iscsi_rules.specs.declared.deed.Answer.{Answer}
use Rattle.iscsi_rules.specs.declared.deed.Answer.TheVariants.{Respond}
use Rattle.iscsi_rules.specs.declared.deed.Deed.{Deed}
use Rattle.iscsi_rules.specs.declared.deed.Deed.TheVariants.{Nothing, Wait, Reply as Replies, Enter, Void, Empty, Abort, AbortEarlier, AbortAll, CloseConn, CloseSession}
use Rattle.iscsi_rules.specs.rules.Settings.{Setting, is_known}
use Rattle.iscsi_rules.specs.rules.Trace.{Arrival, Command, Mark, Voids, Empties, Leaves, Enters, Trace, first_of, received, is_received, held, held_among, entered, live, live_in, is_closed}
use Rattle.iscsi_rules.specs.rules.Execution.{attr_of, exp_of, max_of, unit_named, reply_on, next_command, reply_of}
use Rattle.iscsi_rules.specs.rules.Management.{refusal_of_function, answer, held_requests, held_command, live_with_tag, is_before, abort_all, refusal}
use Rattle.iscsi_rules.specs.rules.Logout.{is_open, is_last_open, live_of_units, all_held, end_session, close_conn}
use Rattle.iscsi_rules.specs.rules.Deeds.{Facts, function_deed, deed_of, facts_of, if_found, deed_marks, marks_after, function_marks}
use Rattle.iscsi_rules.specs.promises.Aborts.{is_set_abort, is_abort, is_complete}
use Rattle.iscsi_rules.specs.promises.Answers.{Answers}
use Rattle.iscsi_rules.proofs.general.BoolLemmas.{and_first, and_parts, not_true, or_false}
use Rattle.iscsi_rules.proofs.general.ListLemmas.{fewer_counted}
use Rattle.iscsi_rules.proofs.general.CountLemmas.{one, count-cons, count-filter}
use Rattle.iscsi_rules.proofs.general.ElementLemmas.{In, in-filter, first-in}
use Rattle.iscsi_rules.proofs.traces.TraceLemmas.{live-quiet}
use Rattle.iscsi_rules.proofs.traces.HeldLemmas.{held-number}
use Rattle.iscsi_rules.proofs.items.DeedTable.{named_below, Befits, unset, befits_function, befits_deed, through_function}
use Rattle.iscsi_rules.proofs.items.Forms.{Start, Deeds, idle, marks_done, begun, Each, is_closing, is_completed_by, Sweeps, IsDone}

-- ---- the mark by which a request executes changes nothing else

pub live-begun : (start : Start) (a : Arrival) (t : Trace) → live (begun start a t) ≡ live t
live-begun start a t = grind (arith, live-quiet)

entered-begun : (start : Start) (a : Arrival) (t : Trace) → entered (begun start a t) ≡ entered t
entered-begun start a t = grind (arith, append-nil)

received-begun : (start : Start) (a : Arrival) (t : Trace) → received (begun start a t) ≡ received t
received-begun start a t = grind (arith, append-nil)

-- ---- what is counted of a part

first_counted : (p : Command → Bool) (cs : List Command) (c : Command) → first_of cs ≡ Some c → count_by p (c ∷ []) ≤ count_by p cs
first_counted p cs c h = grind (arith, nat_tests, count-cons)

-- those of a unit, and those of the units after it
one_of_units : (n u : ℕ) (b : Bool) → one ((n == u) && b) + one (nat_le (u + 1) n && b) ≡ one (nat_le u n && b)
one_of_units n u b = grind arith

of_units : (p : Command → Bool) (u : ℕ) (cs : List Command)
    → count_by p (filter (λ c. c.unit == u) cs) + count_by p (filter (λ c. nat_le (u + 1) c.unit) cs) ≡ count_by p (filter (λ c. nat_le u c.unit) cs)
of_units p u cs =
    omega (arith, count-filter p (λ c. c.unit == u) cs, count-filter p (λ c. nat_le (u + 1) c.unit) cs, count-filter p (λ c. nat_le u c.unit) cs, counts cs)
  where
    counts : (cs : List Command)
        → count_by (λ c. (c.unit == u) && p c) cs + count_by (λ c. nat_le (u + 1) c.unit && p c) cs ≡ count_by (λ c. nat_le u c.unit && p c) cs
    counts [] = refl
    counts (c ∷ cs) =
        omega (
          arith,
          counts cs,
          one_of_units c.unit u (p c),
          count-cons (λ c. (c.unit == u) && p c) c cs,
          count-cons (λ c. nat_le (u + 1) c.unit && p c) c cs,
          count-cons (λ c. nat_le u c.unit && p c) c cs,
        )

-- the commands of units are no more than all
units_counted : (p : Command → Bool) (cs : List Command) (u n : ℕ) → count_by p (flat_map (λ v. filter (λ c. c.unit == v) cs) (range_with_len u n)) ≤ count_by p (filter (λ c. nat_le u c.unit) cs)
units_counted p cs u zero = omega arith
units_counted p cs u (suc n) = grind (arith, units_counted p cs (u + 1) n, sum_by-append, of_units)

-- ---- what is held

-- a request of a list of held ones is held at its number
in-held_among : (t : Trace) (ns : List ℕ) (b : Arrival) → In b (held_among t ns) → held t b.number ≡ Some b
in-held_among t [] b h = absurd h
in-held_among t (n ∷ ns) b h = by_held (in-held_among t ns b) (held t n) refl h
  where
    by_held : (In b (held_among t ns) → held t b.number ≡ Some b) → (x : Option Arrival) → held t n ≡ x → In b (elim x [ Some d ↦ d ∷ [] | None ↦ [] ] ++ held_among t ns) → held t b.number ≡ Some b
    by_held rest None is k = rest k
    by_held rest (Some d) is k =
        ⊎_elim
        (λ same. ap (held t) (ap (λ (x : Arrival). x.number) (sym same) ∙ held-number t n d is) ∙ is ∙ ap (λ x. let y : Option Arrival = Some x in y) same)
        (λ later. rest later) k

-- ---- what is done, after the mark by which a request executes

-- the connection that is closed with the last others
known_last : (t : Trace) (closing k : ℕ) (conns : List (ℕ × ℕ)) → list_all (λ (c : ℕ × ℕ). (c.0 == closing) || is_closed c.0 t) conns ≡ true → is_known k conns ≡ true → ((k == closing) || is_closed k t) ≡ true
known_last t closing k [] all known = absurd (false≢true known)
known_last t closing k (c ∷ conns) all known = grind (arith, known_last t closing k conns)

pub record Does (o : Setting) (t : Trace) (start : Start) (a : Arrival) (ms : List Mark) : Type 0 where
  pub deeds : Deeds
  pub is : ms ≡ marks_done a deeds
  pub done : IsDone o t start a deeds

-- a function closes nothing, and where it is an abort of a whole set that is completed it takes out what that covers
pub record DoesFunction (o : Setting) (t : Trace) (start : Start) (a : Arrival) (ms : List Mark) : Type 0 where
  pub does : Does o t start a ms
  pub stays : is_closing does.deeds ≡ false
  pub sweeps : is_set_abort a.request ≡ true → is_completed_by a does.deeds ≡ true → Sweeps o (begun start a t) a does.deeds

-- where any request is an abort of a whole set that is completed it wasn't refused, and takes out what that covers
pub record DoesAny (o : Setting) (t : Trace) (start : Start) (a : Arrival) (ms : List Mark) : Type 0 where
  pub does : Does o t start a ms
  pub accepted : is_abort a.request ≡ true → is_completed_by a does.deeds ≡ true → refusal_of_function o a.request ≡ None
  pub sweeps : is_abort a.request ≡ true → is_set_abort a.request ≡ true → is_completed_by a does.deeds ≡ true → Sweeps o (begun start a t) a does.deeds

-- what is done where there is taken out what there is of these connections
abbrev parted : Setting → Trace → Arrival → (ℕ → Bool) → Option ℕ → Bool → Deeds
parted o t a of_these closing ending = record {
  void = None;
  leaving = filter (λ (c : Command). of_these (connection_of c.arrival.request)) (live_of_units o t);
  emptied = filter (λ (b : Arrival). of_these (connection_of b.request)) (all_held o t);
  entering = None;
  reply = Some (Logout (itt a.request) 0);
  closing = closing;
  ending = ending;
}

-- it closes something
abbrev closes : Deed → Bool
closes (CloseConn closing) = true
closes CloseSession = true
closes _ = false

abbrev is_refused : Deed → Bool
is_refused (Replies x) = true
is_refused _ = false

-- it does so: it closes nothing else, an abort of a whole set that is completed takes out what that covers, and an answer that completes is Function complete
record DoesWell (o : Setting) (t : Trace) (start : Start) (a : Arrival) (d : Deed) (ms : List Mark) : Type 0 where
  does : Does o t start a ms
  stays : closes d ≡ false → is_closing does.deeds ≡ false
  sweeps : is_set_abort a.request ≡ true → is_completed_by a does.deeds ≡ true → Sweeps o (begun start a t) a does.deeds
  accepted : (x : Answer) → d ≡ Replies x → is_completed_by a does.deeds ≡ true → x ≡ Respond 0

module _ (o : Setting) (t : Trace) (start : Start) (a : Arrival) where
  t' : Trace
  t' = begun start a t

  idle_done : IsDone o t start a idle
  idle_done = record { voids = tt; missing = tt; leaves = λ p. omega arith; empties = λ b h. absurd h; enters = tt; answers = tt; takes_out = λ h. absurd (false≢true h) }

  pub reply_done : (reply : Reply) → Answers a.request reply → IsDone o t start a (record idle { reply = Some reply })
  reply_done reply fits = record { voids = tt; missing = tt; leaves = λ p. omega arith; empties = λ b h. absurd h; enters = tt; answers = fits; takes_out = λ h. absurd (false≢true h) }

  does_nothing : Does o t start a []
  does_nothing = record { deeds = idle; is = refl; done = idle_done }

  pub does_reply : (reply : Reply) → Answers a.request reply → Does o t start a (reply_on a reply)
  does_reply reply fits = record { deeds = record idle { reply = Some reply }; is = refl; done = reply_done reply fits }

  does_enter : (unit : ℕ) → unit < o.units → Does o t start a (Enters (next_command t' a unit) ∷ [])
  unfolding t'
  does_enter unit below = record {
    deeds = record idle { entering = Some (next_command t' a unit) };
    is = refl;
    done = record {
      voids = tt;
      missing = tt;
      leaves = λ p. omega arith;
      empties = λ b h. absurd h;
      enters = record { unit = unit; next = ap (λ cs. record { ticket = length cs + 1; unit = unit; attr = attr_of (attr_code a.request); arrival = a }) (entered-begun start a t); below = below; stays = refl; silent = refl };
      answers = tt;
      takes_out = λ h. absurd (false≢true h);
    };
  }

  leave_done : (cs : List Command) → ((p : Command → Bool) → count_by p cs ≤ count_by p (live t')) → IsDone o t start a (record idle { leaving = cs; reply = Some (Task (itt a.request) 0) })
  unfolding t'
  leave_done cs few = grind (arith, live-begun)

  empty_done : (b : Arrival) → held t' b.number ≡ Some b → IsDone o t start a (record idle { emptied = b ∷ []; reply = Some (Task (itt a.request) 0) })
  unfolding t'
  empty_done b there = record {
    voids = tt;
    missing = tt;
    leaves = λ p. omega arith;
    empties = λ d h. ⊎_elim (λ same. subst (λ (x : Arrival). held t' x.number ≡ Some x) same there) (λ none. absurd none) h;
    enters = tt;
    answers = refl;
    takes_out = λ h. absurd (false≢true h);
  }

  -- a number is voided, if it wasn't received before
  void_done : (n : ℕ) → is_received t' n ≡ false → is_immediate a.request ≡ true → (function a.request == 1) ≡ true → IsDone o t start a (record idle { void = Some n; reply = Some (Task (itt a.request) 0) })
  unfolding t'
  void_done n new immediate one = grind (arith, received-begun)

  -- ---- Logout

  -- it takes out what there is of these connections
  does_part : (of_these : ℕ → Bool) (closing : Option ℕ) (ending : Bool) → Each (λ conn. of_these conn ≡ true) closing → (ending ≡ true → (conn : ℕ) → is_open o t' conn ≡ true → of_these conn ≡ true)
      → Does o t start a (marks_done a (parted o t' a of_these closing ending))
  unfolding t'
  does_part of_these closing ending closes ends = record {
    deeds = parted o t' a of_these closing ending;
    is = refl;
    done = record {
      voids = tt;
      missing = tt;
      leaves = λ p. omega (arith, fewer_counted p (λ (c : Command). of_these (connection_of c.arrival.request)) (live_of_units o t'), units_counted p (live t') 0 o.units, fewer_counted p (λ (c : Command). nat_le 0 c.unit) (live t'), ap (count_by p) (live-begun start a t));
      empties = λ b h. in-held_among t' _ b (in-filter (λ (x : Arrival). of_these (connection_of x.request)) (all_held o t') b h).0;
      enters = tt;
      answers = refl;
      takes_out = λ h. record { of_these = of_these; leaving = refl; emptied = refl; entering = refl; closing = closes; ending = ends };
    };
  }

  -- it is done well, where it isn't an answer alone
  does_well : (d : Deed) (ms : List Mark) (does : Does o t start a ms) → (closes d ≡ false → is_closing does.deeds ≡ false)
      → (is_set_abort a.request ≡ true → is_completed_by a does.deeds ≡ true → Sweeps o (begun start a t) a does.deeds)
      → is_refused d ≡ false → DoesWell o t start a d ms
  does_well d ms does stays sweeps not_refused =
      record { does = does; stays = stays; sweeps = sweeps; accepted = λ x is. absurd (false≢true (sym not_refused ∙ ap is_refused is)) }

  -- it closes something, or a command enters, or nothing happens: no function is completed by that
  does_other : (d : Deed) (ms : List Mark) (does : Does o t start a ms) → (closes d ≡ false → is_closing does.deeds ≡ false)
      → is_completed_by a does.deeds ≡ false → is_refused d ≡ false → DoesWell o t start a d ms
  does_other d ms does stays none not_refused = does_well d ms does stays (λ set h. absurd (false≢true (sym none ∙ h))) not_refused

  does_end : DoesWell o t start a CloseSession (end_session o t' a)
  unfolding t' does_part
  does_end =
      subst (DoesWell o t start a CloseSession) (simp append_assoc)
      (does_other CloseSession _ (does_part (λ conn. true) None true tt (λ ends conn here. refl)) (λ h. absurd (false≢true (sym h))) refl refl)

  does_close : (closing : ℕ) → DoesWell o t start a (CloseConn closing) (close_conn o t' a closing)
  unfolding t' does_part
  does_close closing =
      subst (DoesWell o t start a (CloseConn closing)) (simp append_assoc)
      (does_other (CloseConn closing) _
      (does_part (λ conn. conn == closing) (Some closing) (is_last_open o t' closing) (eq-eqb closing closing refl) last)
      (λ h. absurd (false≢true (sym h))) refl refl)
    where
      last : is_last_open o t' closing ≡ true → (conn : ℕ) → is_open o t' conn ≡ true → (conn == closing) ≡ true
      last ends conn here =
          let parts = and_parts (is_known conn o.conns) (not (is_closed conn t')) here in
          sym (or_false (conn == closing)) ∙ ap (λ x. (conn == closing) || x) (sym (not_true (is_closed conn t') parts.1)) ∙ known_last t' closing conn o.conns ends parts.0

  -- ---- what a request does

  -- a reply has the request's tag, or its header
  reply_answers : (x : Answer) → Answers a.request (reply_of a.request x)
  reply_answers x = grind arith

  completed_is : (x : Answer) → is_complete (itt a.request) (reply_of a.request x) ≡ true → x ≡ Respond 0
  completed_is x h = grind arith

  abbrev DoesDeed : Deed → Type 0
  DoesDeed d = DoesWell o t start a d (deed_marks o t' a d)

  -- a function that is no abort of a whole set takes this out, or nothing
  does_single : (d : Deed) (ds : Deeds) → IsDone o t start a ds → is_closing ds ≡ false → (function a.request == 1) ≡ true → is_refused d ≡ false → DoesWell o t start a d (marks_done a ds)
  does_single d ds done stays one not_refused =
      does_well d _ (record { deeds = ds; is = refl; done = done }) (λ h. stays)
      (λ set h. absurd (false≢true (sym (unset a.request 1 one refl) ∙ set))) not_refused

  does_void : Befits (facts_of o t' a) a.request Void → DoesDeed Void
  unfolding t'
  does_void befits = by_known (is_received t' n) refl
    where
      n : ℕ
      n = lift (exp_of o t') (ref_cmd_sn a.request)

      by_known : (b : Bool) → is_received t' n ≡ b → DoesWell o t start a Void (cond b [] (Voids n ∷ []) ++ answer a 0)
      by_known true is = does_single Void _ (reply_done (Task (itt a.request) 0) refl) refl befits.0 refl
      by_known false is = does_single Void _ (void_done n is (and_first (is_immediate a.request) (nat_le (exp_of o t') n) (and_first (is_immediate a.request && nat_le (exp_of o t') n) (nat_le n (max_of o t')) (and_first _ (nat_lt n a.number) befits.1))) befits.0) refl befits.0 refl

  does_empty : (unit sn : ℕ) → (function a.request == 1) ≡ true → DoesDeed (Empty unit sn)
  unfolding t'
  does_empty unit sn one = by_held (held_command o t' (rtt a.request) unit a.number) refl
    where
      by_held : (y : Option Arrival) → held_command o t' (rtt a.request) unit a.number ≡ y → DoesWell o t start a (Empty unit sn) (if_found Empties y ++ answer a 0)
      by_held (Some h) is = does_single (Empty unit sn) _ (empty_done h (in-held_among t' _ h (in-filter _ (held_requests o t') h (first-in _ h is)).0)) refl one refl
      by_held None is = does_single (Empty unit sn) _ (reply_done (Task (itt a.request) 0) refl) refl one refl

  does_abort : (unit ticket : ℕ) → (function a.request == 1) ≡ true → DoesDeed (Abort unit ticket)
  unfolding t'
  does_abort unit ticket one = by_live (live_with_tag t' (rtt a.request) unit) refl
    where
      by_live : (x : Option Command) → live_with_tag t' (rtt a.request) unit ≡ x → DoesWell o t start a (Abort unit ticket) (if_found Leaves x ++ answer a 0)
      by_live (Some c) is =
          does_single (Abort unit ticket) _ (leave_done (c ∷ []) (λ p. omega (arith, first_counted p _ c is, fewer_counted p (λ (d : Command). itt d.arrival.request == rtt a.request) (live_in unit t'), fewer_counted p (λ (d : Command). d.unit == unit) (live t')))) refl one refl
      by_live None is = does_single (Abort unit ticket) _ (reply_done (Task (itt a.request) 0) refl) refl one refl

  -- it takes out these of the unit's set
  does_all : (d : Deed) → is_refused d ≡ false → (unit : ℕ) → unit_named o.units a.request ≡ Some unit → (covers : Command → Bool) → ((c : Command) → is_before a c ≡ true → covers c ≡ true) → ((function a.request == 5) ≡ true → (c : Command) → covers c ≡ true)
      → DoesWell o t start a d (abort_all t' a unit covers)
  unfolding t'
  does_all d not_refused unit named covers early whole =
      let cs : List Command = filter covers (live_in unit t') in
      let few : (p : Command → Bool) → count_by p cs ≤ count_by p (live t') =
      λ p. omega (arith, fewer_counted p covers (live_in unit t'), fewer_counted p (λ (c : Command). c.unit == unit) (live t')) in
      does_well d _ (record { deeds = record idle { leaving = cs; reply = Some (Task (itt a.request) 0) }; is = refl; done = leave_done cs few }) (λ h. refl)
      (λ set h. record { unit = unit; named = named; covers = covers; early = early; whole = whole; is = refl }) not_refused

  does_deed : (d : Deed) → Befits (facts_of o t' a) a.request d → DoesDeed d
  unfolding t' does_nothing does_reply does_enter
  does_deed Nothing befits = does_other Nothing [] does_nothing (λ h. refl) refl refl
  does_deed Wait befits = does_other Wait [] does_nothing (λ h. refl) refl refl
  does_deed (Replies x) befits = record {
    does = does_reply (reply_of a.request x) (reply_answers x);
    stays = λ h. refl;
    sweeps = λ set h. absurd (befits set (completed_is x h));
    accepted = λ y is h. let same : x ≡ y = cc in sym same ∙ completed_is x h;
  }
  does_deed (Enter unit) befits = does_other (Enter unit) _ (does_enter unit (named_below o.units a.request unit befits.named)) (λ h. refl) refl refl
  does_deed Void befits = does_void befits
  does_deed (Empty unit sn) befits = does_empty unit sn befits.0
  does_deed (Abort unit ticket) befits = does_abort unit ticket befits.0
  does_deed (AbortEarlier unit) befits = does_all (AbortEarlier unit) refl unit befits.0 (is_before a) (λ c h. h) (λ h c. absurd (false≢true (sym befits.1 ∙ h)))
  does_deed (AbortAll unit) befits = does_all (AbortAll unit) refl unit befits (λ x. true) (λ c h. refl) (λ h c. refl)
  does_deed (CloseConn closing) befits = does_close closing
  does_deed CloseSession befits = does_end

  never_closes : (f : Facts) (r : Request) → closes (function_deed f r) ≡ false
  never_closes f r = through_function (λ d. closes d ≡ false) f r refl (λ x. refl) refl (λ u n. refl) (λ u n. refl) (λ u. refl) (λ u. refl)

  pub function_does : DoesFunction o t start a (function_marks o (begun start a t) a)
  unfolding t'
  function_does =
      let f : Facts = facts_of o t' a in
      let x : DoesDeed (function_deed f a.request) = does_deed (function_deed f a.request) (befits_function f a.request) in
      record { does = x.does; stays = x.stays (never_closes f a.request); sweeps = x.sweeps }

  pub does_function : Does o t start a (function_marks o (begun start a t) a)
  does_function = function_does.does

  -- what any request does that executes
  pub any_does : DoesAny o t start a (marks_after o (begun start a t) a)
  unfolding t'
  any_does =
      let f : Facts = facts_of o t' a in
      let x : DoesDeed (deed_of f a.request) = does_deed (deed_of f a.request) (befits_deed f a.request) in
      record { does = x.does; accepted = λ aborts h. unrefused x aborts h (refusal f.level f.unit a.request) refl; sweeps = λ aborts set h. x.sweeps set h }
    where
      -- a function that is completed isn't refused
      unrefused : (x : DoesDeed (deed_of (facts_of o t' a) a.request)) → is_abort a.request ≡ true → is_completed_by a x.does.deeds ≡ true → (y : Option Answer) → refusal o.level (unit_named o.units a.request) a.request ≡ y → refusal_of_function o a.request ≡ None
      unrefused x aborts h y is = grind (arith, nat_tests)

  pub does_after : Does o t start a (marks_after o (begun start a t) a)
  does_after = any_does.does
