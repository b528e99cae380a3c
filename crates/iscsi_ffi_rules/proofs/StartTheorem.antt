-- No command is told twice to start or to stop, and none to stop that wasn't told to start.
use Rattle.std.proofs.Common.{◌≡◌, ℕ, ◌+◌, ◌≤◌, ◌==◌, ◌&&◌, ◌||◌, not, cond, Bool, true, false, List, [], ◌∷◌, ◌++◌, map, filter, filter_map, count_by, Option, Some, None, refl, ap, sym, subst, ◌∙◌, arith}
use Rattle.std.specs.List.{list_any, flat_map, cons_option}
use Rattle.std.proofs.lemmas.Bool.{false≢true, cond_both, eqb-true}
use Rattle.std.proofs.lemmas.List.{append_assoc, append-nil}
use Rattle.std.proofs.lemmas.List.Folds.{list_any-append}
use Rattle.std.proofs.lemmas.List.Sums.{sum_by-append}
use Rattle.iscsi_wire.specs.Fields.{function}
use Rattle.iscsi_rules.specs.declared.effect.Effect.{Effect}
use Rattle.iscsi_rules.specs.declared.effect.Effect.TheVariants.{Deliver, Immediate, Wait, Void, Empty, Enter, Enable, Leave, Send, CloseConn, CloseSession, Ignore}
use Rattle.iscsi_rules.specs.declared.event.Event.{Event}
use Rattle.iscsi_rules.specs.rules.Settings.{Setting}
use Rattle.iscsi_rules.specs.rules.Trace.{Arrival, Command, Mark, Trace, after_items, has, leaves_ticket, live, live_in, is_among}
use Rattle.iscsi_rules.specs.rules.Execution.{unit_named}
use Rattle.iscsi_rules.specs.rules.Agenda.{items_of}
use Rattle.iscsi_rules.specs.rules.Run.{effects_of_item, effects_of, trace_of, run_of}
use Rattle.iscsi_rules.specs.promises.Replies.{executed_in, reply_sent}
use Rattle.iscsi_rules.specs.promises.Enabling.{effects_so_far, effects_in, is_enable}
use Rattle.iscsi_rules.specs.promises.Lives.{names_ticket, life_of, is_life, goes_on_in, ends_in}
use Rattle.iscsi_rules.proofs.general.BoolLemmas.{or_first, or_second, and_parts}
use Rattle.iscsi_rules.proofs.general.CountLemmas.{one, count-cons, count-filter, count-weaker}
use Rattle.iscsi_rules.proofs.general.ListLemmas.{count_by-map, fewer_counted, find-found, list_any-map}
use Rattle.iscsi_rules.proofs.items.FormRuns.{event_going}
use Rattle.iscsi_rules.proofs.promises.LifeTheorem.{starts_once as lives_once}
use Rattle.iscsi_rules.proofs.promises.MomentLemmas.{log_effects}
use Rattle.iscsi_outbox_rules.specs.rules.Calls as outbox
use Rattle.iscsi_outbox_rules.specs.rules.Words.{contains}
use Rattle.iscsi_outbox_rules.specs.rules.Items.{ticket_enabled}
use Rattle.iscsi_outbox_rules.proofs.general.EachLemmas.{EachOf, each-append, each-weaken}
use Rattle.iscsi_ffi_rules.specs.declared.action.Action.{Action}
use Rattle.iscsi_ffi_rules.specs.declared.action.Action.TheVariants.{Start, Stop, Reset, Ready, Close, Forget}
use Rattle.iscsi_ffi_rules.specs.declared.action.StopReason.{StopReason}
use Rattle.iscsi_ffi_rules.specs.declared.action.StopReason.TheVariants.{Cleared as ClearedReason}
use Rattle.iscsi_ffi_rules.specs.rules.Calls.{Interface, Call}
use Rattle.iscsi_ffi_rules.specs.rules.Sides.{Side}
use Rattle.iscsi_ffi_rules.specs.rules.Clearing.{is_marked, is_withheld}
use Rattle.iscsi_ffi_rules.specs.rules.Happening.{stop, stops_in, resets_in, is_complete, is_reset, reset, reason_of, is_started, leaving, live_with, starting, start, stepped, happening}
use Rattle.iscsi_ffi_rules.specs.promises.Deeds.{deeds_of, told_in, side_of}
use Rattle.iscsi_ffi_rules.specs.promises.Starts.{is_start, is_stop, StartsOnce, StopsStarted}
use Rattle.iscsi_ffi_rules.proofs.Follows.{Follows, follows_begun, follows_event, follows_forms}
use Rattle.iscsi_ffi_rules.proofs.Leavings.{has_ticket, none_with, live_or_left, leavings, leavings_once}
use Rattle.iscsi_ffi_rules.proofs.SideWalks.{is_aside, left_to_clear, Kept, kept_from_start}

-- ---- what holds of each action, by those before it

abbrev EachBehind : (List Action → Action → Type 0) → List Action → List Action → Type 0
EachBehind G before [] = Unit {0}
EachBehind G before (a ∷ acts) = G before a × EachBehind G (before ++ a ∷ []) acts

behind-append : (G : List Action → Action → Type 0) (before xs ys : List Action) → EachBehind G before xs → EachBehind G (before ++ xs) ys → EachBehind G before (xs ++ ys)
behind-append G before [] ys h k = subst (λ b. EachBehind G b ys) (append-nil before) k
behind-append G before (x ∷ xs) ys h k = (h.0, behind-append G (before ++ x ∷ []) xs ys h.1 (subst (λ b. EachBehind G b ys) (sym (append_assoc before (x ∷ []) xs)) k))

behind-at : (G : List Action → Action → Type 0) (first before after : List Action) (a : Action) → EachBehind G first (before ++ a ∷ after) → G (first ++ before) a
behind-at G first [] after a h = subst (λ b. G b a) (sym (append-nil first)) h.0
behind-at G first (x ∷ before) after a h = subst (λ b. G b a) (append_assoc first (x ∷ []) before) (behind-at G (first ++ x ∷ []) before after a h.1)

-- one that is told to stop was told to start
abbrev Fitting : List Action → Action → Type 0
Fitting before (Stop ticket cookie why) = list_any (is_start ticket) before ≡ true
Fitting before _ = Unit {0}

fitting_more : (before more : List Action) (a : Action) → Fitting before a → Fitting (before ++ more) a
fitting_more before more (Start ticket unit attr cookie) h = tt
fitting_more before more (Stop ticket cookie why) h = list_any-append (is_start ticket) before more ∙ or_first (list_any (is_start ticket) before) (list_any (is_start ticket) more) h
fitting_more before more (Reset unit function) h = tt
fitting_more before more (Ready cid) h = tt
fitting_more before more (Close cid) h = tt
fitting_more before more (Forget cookie) h = tt

all_behind : (before acts : List Action) → EachOf (Fitting before) acts → EachBehind Fitting before acts
all_behind before [] h = tt
all_behind before (a ∷ acts) h = (h.0, all_behind (before ++ a ∷ []) acts (each-weaken (Fitting before) (Fitting (before ++ a ∷ [])) acts (fitting_more before (a ∷ [])) h.1))

-- ---- counts of actions

module _ (p : Action → Bool) where
  count-append : (xs ys : List Action) → count_by p (xs ++ ys) ≡ count_by p xs + count_by p ys
  count-append xs ys = sum_by-append (λ (a : Action). cond (p a) 1 0) xs ys

  none_of_map : {A : Type 0} (f : A → Action) (xs : List A) → ((x : A) → p (f x) ≡ false) → count_by p (map f xs) ≡ 0
  none_of_map f [] h = refl
  none_of_map f (x ∷ xs) h = omega (arith, count-cons p (f x) (map f xs), ap one (h x), none_of_map f xs h)

  none_of_flat_map : {A : Type 0} (f : A → List Action) (xs : List A) → ((x : A) → count_by p (f x) ≡ 0) → count_by p (flat_map f xs) ≡ 0
  none_of_flat_map f [] h = refl
  none_of_flat_map f (x ∷ xs) h = omega (arith, count-append (f x) (flat_map f xs), h x, none_of_flat_map f xs h)

  none_of_asides : ((a : Action) → is_aside a ≡ true → p a ≡ false) → (acts : List Action) → EachOf (λ a. is_aside a ≡ true) acts → count_by p acts ≡ 0
  none_of_asides never [] h = refl
  none_of_asides never (a ∷ acts) h = omega (arith, count-cons p a acts, ap one (never a h.0), none_of_asides never acts h.1)

  none_resets : (o : outbox.Opening) → ((unit function : ℕ) → p (Reset unit function) ≡ false) → (item : List Mark) → count_by p (resets_in o item) ≡ 0
  none_resets o never item = by_executed (executed_in item)
    where
      by_unit : (a : Arrival) (x : Option ℕ) → count_by p (elim x [ Some unit ↦ Reset unit (function a.request) ∷ [] | None ↦ [] ]) ≡ 0
      by_unit a None = refl
      by_unit a (Some unit) = omega (arith, count-cons p (Reset unit (function a.request)) [], ap one (never unit (function a.request)))

      by_executed : (x : Option Arrival) → count_by p (elim x [ Some a ↦ cond (o.shared && is_reset a.request && list_any is_complete (filter_map reply_sent item)) (reset o.session.units a.request) [] | None ↦ [] ]) ≡ 0
      by_executed None = refl
      by_executed (Some a) = cond_both _ (reset o.session.units a.request) [] (λ (xs : List Action). count_by p xs ≡ 0) (λ is. by_unit a (unit_named o.session.units a.request)) (λ is. refl)

aside_start : (k : ℕ) (a : Action) → is_aside a ≡ true → is_start k a ≡ false
aside_start k (Start ticket unit attr cookie) h = absurd (false≢true h)
aside_start k (Stop ticket cookie why) h = refl
aside_start k (Reset unit function) h = refl
aside_start k (Ready cid) h = refl
aside_start k (Close cid) h = refl
aside_start k (Forget cookie) h = refl

aside_stop : (k : ℕ) (a : Action) → is_aside a ≡ true → is_stop k a ≡ false
aside_stop k (Start ticket unit attr cookie) h = refl
aside_stop k (Stop ticket cookie why) h = absurd (false≢true h)
aside_stop k (Reset unit function) h = refl
aside_stop k (Ready cid) h = refl
aside_stop k (Close cid) h = refl
aside_stop k (Forget cookie) h = refl

aside_fits : (before : List Action) (a : Action) → is_aside a ≡ true → Fitting before a
aside_fits before (Start ticket unit attr cookie) h = tt
aside_fits before (Stop ticket cookie why) h = absurd (false≢true h)
aside_fits before (Reset unit function) h = tt
aside_fits before (Ready cid) h = tt
aside_fits before (Close cid) h = tt
aside_fits before (Forget cookie) h = tt

-- ---- tickets that are enabled

enabled_counted : (k : ℕ) (es : List Effect) → count_by (λ j. j == k) (filter_map ticket_enabled es) ≡ count_by (is_enable k) es
enabled_counted k [] = refl
enabled_counted k (e ∷ es) = by_effect (enabled_counted k es) e
  where
    by_effect : count_by (λ j. j == k) (filter_map ticket_enabled es) ≡ count_by (is_enable k) es → (x : Effect) → count_by (λ j. j == k) (cons_option (ticket_enabled x) (filter_map ticket_enabled es)) ≡ count_by (is_enable k) (x ∷ es)
    by_effect rest (Deliver r) = omega (arith, rest, count-cons (is_enable k) (Deliver r) es)
    by_effect rest (Immediate r) = omega (arith, rest, count-cons (is_enable k) (Immediate r) es)
    by_effect rest (Wait r) = omega (arith, rest, count-cons (is_enable k) (Wait r) es)
    by_effect rest (Void n) = omega (arith, rest, count-cons (is_enable k) (Void n) es)
    by_effect rest (Empty n) = omega (arith, rest, count-cons (is_enable k) (Empty n) es)
    by_effect rest (Enter ticket unit attr) = omega (arith, rest, count-cons (is_enable k) (Enter ticket unit attr) es)
    by_effect rest (Enable ticket unit) = omega (arith, rest, count-cons (is_enable k) (Enable ticket unit) es, count-cons (λ j. j == k) ticket (filter_map ticket_enabled es))
    by_effect rest (Leave ticket unit) = omega (arith, rest, count-cons (is_enable k) (Leave ticket unit) es)
    by_effect rest (Send conn stat_sn reply) = omega (arith, rest, count-cons (is_enable k) (Send conn stat_sn reply) es)
    by_effect rest (CloseConn conn) = omega (arith, rest, count-cons (is_enable k) (CloseConn conn) es)
    by_effect rest CloseSession = omega (arith, rest, count-cons (is_enable k) CloseSession es)
    by_effect rest (Ignore why) = omega (arith, rest, count-cons (is_enable k) (Ignore why) es)

-- of each ticket no more than itself
found_counted : (k : ℕ) (t : Trace) (ks : List ℕ) → count_by (has_ticket k) (filter_map (live_with t) ks) ≤ count_by (λ j. j == k) ks
found_counted k t [] = omega arith
found_counted k t (j ∷ ks) = by_found (found_counted k t ks) (live_with t j) refl
  where
    by_found : count_by (has_ticket k) (filter_map (live_with t) ks) ≤ count_by (λ j. j == k) ks → (x : Option Command) → live_with t j ≡ x → count_by (has_ticket k) (cons_option x (filter_map (live_with t) ks)) ≤ count_by (λ j. j == k) (j ∷ ks)
    by_found rest None is = omega (arith, rest, count-cons (λ j. j == k) j ks)
    by_found rest (Some c) is =
        let same : c.ticket ≡ j = eqb-true c.ticket j (find-found (λ (d : Command). d.ticket == j) (live t) c is) in
        omega (arith, rest, count-cons (λ j. j == k) j ks, count-cons (has_ticket k) c (filter_map (live_with t) ks), ap (λ n. one (n == k)) same)

effects-more : (o : Setting) (items : List (List Mark)) (t : Trace) → effects_so_far o (after_items items t) ≡ effects_so_far o t ++ effects_of o t items
effects-more o [] t = sym (append-nil (effects_so_far o t))
effects-more o (item ∷ items) t = effects-more o items (item ∷ t) ∙ append_assoc (effects_so_far o t) (effects_of_item o t item) (effects_of o (item ∷ t) items)

-- a life has one Enable at the most
ended_unenabled : (k unit : ℕ) (es : List Effect) → ends_in unit es ≡ true → count_by (is_enable k) es ≡ 0
ended_unenabled k unit [] h = refl
ended_unenabled k unit (Leave ticket u ∷ []) h = refl
ended_unenabled k unit (Leave ticket u ∷ e ∷ es) h = absurd (false≢true h)
ended_unenabled k unit (Deliver r ∷ es) h = absurd (false≢true h)
ended_unenabled k unit (Immediate r ∷ es) h = absurd (false≢true h)
ended_unenabled k unit (Wait r ∷ es) h = absurd (false≢true h)
ended_unenabled k unit (Void n ∷ es) h = absurd (false≢true h)
ended_unenabled k unit (Empty n ∷ es) h = absurd (false≢true h)
ended_unenabled k unit (Enter ticket u attr ∷ es) h = absurd (false≢true h)
ended_unenabled k unit (Enable ticket u ∷ es) h = absurd (false≢true h)
ended_unenabled k unit (Send conn stat_sn reply ∷ es) h = absurd (false≢true h)
ended_unenabled k unit (CloseConn conn ∷ es) h = absurd (false≢true h)
ended_unenabled k unit (CloseSession ∷ es) h = absurd (false≢true h)
ended_unenabled k unit (Ignore why ∷ es) h = absurd (false≢true h)

one_most : (b : Bool) → one b ≤ 1
one_most true = omega arith
one_most false = omega arith

enabled_once : (k unit : ℕ) (es : List Effect) → goes_on_in unit es ≡ true → count_by (is_enable k) es ≤ 1
enabled_once k unit (Enable ticket u ∷ es) h = omega (arith, count-cons (is_enable k) (Enable ticket u) es, one_most (ticket == k), ended_unenabled k unit es (and_parts (u == unit) (ends_in unit es) h).1)
enabled_once k unit [] h = omega arith
enabled_once k unit (Leave ticket u ∷ es) h = omega (arith, ended_unenabled k unit (Leave ticket u ∷ es) h)
enabled_once k unit (Deliver r ∷ es) h = absurd (false≢true h)
enabled_once k unit (Immediate r ∷ es) h = absurd (false≢true h)
enabled_once k unit (Wait r ∷ es) h = absurd (false≢true h)
enabled_once k unit (Void n ∷ es) h = absurd (false≢true h)
enabled_once k unit (Empty n ∷ es) h = absurd (false≢true h)
enabled_once k unit (Enter ticket u attr ∷ es) h = absurd (false≢true h)
enabled_once k unit (Send conn stat_sn reply ∷ es) h = absurd (false≢true h)
enabled_once k unit (CloseConn conn ∷ es) h = absurd (false≢true h)
enabled_once k unit (CloseSession ∷ es) h = absurd (false≢true h)
enabled_once k unit (Ignore why ∷ es) h = absurd (false≢true h)

life_enabled : (k : ℕ) (es : List Effect) → is_life es ≡ true → count_by (is_enable k) es ≤ 1
life_enabled k [] h = omega arith
life_enabled k (Enter ticket unit attr ∷ es) h = omega (arith, count-cons (is_enable k) (Enter ticket unit attr) es, enabled_once k unit es h)
life_enabled k (Leave ticket u ∷ es) h = absurd (false≢true h)
life_enabled k (Deliver r ∷ es) h = absurd (false≢true h)
life_enabled k (Immediate r ∷ es) h = absurd (false≢true h)
life_enabled k (Wait r ∷ es) h = absurd (false≢true h)
life_enabled k (Void n ∷ es) h = absurd (false≢true h)
life_enabled k (Empty n ∷ es) h = absurd (false≢true h)
life_enabled k (Enable ticket u ∷ es) h = absurd (false≢true h)
life_enabled k (Send conn stat_sn reply ∷ es) h = absurd (false≢true h)
life_enabled k (CloseConn conn ∷ es) h = absurd (false≢true h)
life_enabled k (CloseSession ∷ es) h = absurd (false≢true h)
life_enabled k (Ignore why ∷ es) h = absurd (false≢true h)

-- an Enable names its ticket
enable_names : (k : ℕ) (e : Effect) → is_enable k e ≡ true → (names_ticket k e && is_enable k e) ≡ true
enable_names k (Deliver r) h = absurd (false≢true h)
enable_names k (Immediate r) h = absurd (false≢true h)
enable_names k (Wait r) h = absurd (false≢true h)
enable_names k (Void n) h = absurd (false≢true h)
enable_names k (Empty n) h = absurd (false≢true h)
enable_names k (Enter ticket unit attr) h = absurd (false≢true h)
enable_names k (Enable ticket unit) h = ap (λ b. b && b) h
enable_names k (Leave ticket unit) h = absurd (false≢true h)
enable_names k (Send conn stat_sn reply) h = absurd (false≢true h)
enable_names k (CloseConn conn) h = absurd (false≢true h)
enable_names k CloseSession h = absurd (false≢true h)
enable_names k (Ignore why) h = absurd (false≢true h)

enables_once : (o : Setting) (h : List Event) (k : ℕ) → count_by (is_enable k) (effects_so_far o (trace_of o h)) ≤ 1
enables_once o h k =
    let es : List Effect = effects_so_far o (trace_of o h) in
    let log : effects_so_far o (trace_of o h) ≡ effects_in (run_of o h) = log_effects o 0 [] h in
    let lives : is_life (life_of k es) ≡ true = ap (λ xs. is_life (life_of k xs)) log ∙ (lives_once o h).lives k in
    omega (
      arith,
      life_enabled k (life_of k es) lives,
      count-filter (is_enable k) (names_ticket k) es,
      count-weaker (is_enable k) (λ e. names_ticket k e && is_enable k e) es (enable_names k),
    )

-- ---- what holds of a state and of what was told

record Standing (i : Interface) (s : Side) (acts : List Action) : Type 0 where
  follows : Follows i.outbox.session s.both
  starts : (k : ℕ) → count_by (is_start k) acts ≤ count_by (is_enable k) (effects_so_far i.outbox.session s.both.trace)
  told : (k : ℕ) → contains s.told k ≡ true → list_any (is_start k) acts ≡ true
  stops : (k : ℕ) → count_by (is_stop k) acts ≤ one (has (leaves_ticket k) s.both.trace || contains s.marked k)
  order : EachBehind Fitting [] acts

or_more : (a b c : Bool) → one (a || b) ≤ one (a || (b || c))
or_more true b c = omega arith
or_more false true c = omega arith
or_more false false c = omega (arith, one_none c)
  where
    one_none : (b : Bool) → 0 ≤ one b
    one_none b = omega arith

module _ (i : Interface) where
  abbrev o : outbox.Opening
  o = i.outbox

  -- those that are told to stop were told to start
  started_fit : (s : Side) (acts : List Action) → Standing i s acts → (why : StopReason) (cs : List Command) → EachOf (Fitting acts) (map (stop s why) (filter (is_started s) cs))
  started_fit s acts h why [] = tt
  started_fit s acts h why (c ∷ cs) =
      elim (contains s.told c.ticket) as (λ b. contains s.told c.ticket ≡ b → EachOf (Fitting acts) (map (stop s why) (cond (b && not (is_marked s c)) (c ∷ filter (is_started s) cs) (filter (is_started s) cs)))) [
        | true ↦ λ is. cond_both (not (is_marked s c)) (c ∷ filter (is_started s) cs) (filter (is_started s) cs) (λ (ds : List Command). EachOf (Fitting acts) (map (stop s why) ds))
            (λ free. (h.told c.ticket is, started_fit s acts h why cs)) (λ marked. started_fit s acts h why cs)
        | false ↦ λ is. started_fit s acts h why cs
      ] refl

  stops_fit : (s : Side) (acts : List Action) → Standing i s acts → (items : List (List Mark)) → EachOf (Fitting acts) (flat_map (stops_in s) items)
  stops_fit s acts h [] = tt
  stops_fit s acts h (item ∷ items) = each-append (Fitting acts) (stops_in s item) (flat_map (stops_in s) items) (by_executed (executed_in item)) (stops_fit s acts h items)
    where
      by_executed : (x : Option Arrival) → EachOf (Fitting acts) (elim x [ Some a ↦ map (stop s (reason_of s.asked a)) (filter (is_started s) (filter_map leaving item)) | None ↦ [] ])
      by_executed None = tt
      by_executed (Some a) = started_fit s acts h (reason_of s.asked a) (filter_map leaving item)

  resets_fit : (acts : List Action) (items : List (List Mark)) → EachOf (Fitting acts) (flat_map (resets_in o) items)
  resets_fit acts [] = tt
  resets_fit acts (item ∷ items) = each-append (Fitting acts) (resets_in o item) (flat_map (resets_in o) items) (by_executed (executed_in item)) (resets_fit acts items)
    where
      by_unit : (a : Arrival) (x : Option ℕ) → EachOf (Fitting acts) (elim x [ Some unit ↦ Reset unit (function a.request) ∷ [] | None ↦ [] ])
      by_unit a None = tt
      by_unit a (Some unit) = (tt, tt)

      by_executed : (x : Option Arrival) → EachOf (Fitting acts) (elim x [ Some a ↦ cond (o.shared && is_reset a.request && list_any is_complete (filter_map reply_sent item)) (reset o.session.units a.request) [] | None ↦ [] ])
      by_executed None = tt
      by_executed (Some a) = cond_both _ (reset o.session.units a.request) [] (λ (xs : List Action). EachOf (Fitting acts) xs) (λ is. by_unit a (unit_named o.session.units a.request)) (λ is. tt)

  starts_fit : (s : Side) (acts : List Action) (cs : List Command) → EachOf (Fitting acts) (map (start s) cs)
  starts_fit s acts [] = tt
  starts_fit s acts (c ∷ cs) = (tt, starts_fit s acts cs)

  -- how many are told to stop
  none_marked : (s : Side) (k : ℕ) (cs : List Command) → contains s.marked k ≡ true → count_by (has_ticket k) (filter (is_started s) cs) ≡ 0
  none_marked s k [] h = refl
  none_marked s k (c ∷ cs) h = by_ticket (none_marked s k cs h) (c.ticket == k) refl
    where
      by_ticket : count_by (has_ticket k) (filter (is_started s) cs) ≡ 0 → (b : Bool) → (c.ticket == k) ≡ b → count_by (has_ticket k) (filter (is_started s) (c ∷ cs)) ≡ 0
      by_ticket rest true is =
          let marked : is_marked s c ≡ true = ap (contains s.marked) (eqb-true c.ticket k is) ∙ h in
          let never : is_started s c ≡ false = ap (λ b. contains s.told c.ticket && not b) marked ∙ and_never (contains s.told c.ticket) in
          ap (λ b. count_by (has_ticket k) (cond b (c ∷ filter (is_started s) cs) (filter (is_started s) cs))) never ∙ rest
        where
          and_never : (b : Bool) → (b && false) ≡ false
          and_never true = refl
          and_never false = refl
      by_ticket rest false is =
          cond_both (is_started s c) (c ∷ filter (is_started s) cs) (filter (is_started s) cs) (λ (ds : List Command). count_by (has_ticket k) ds ≡ 0)
          (λ may. omega (arith, rest, count-cons (has_ticket k) c (filter (is_started s) cs), ap one is)) (λ may. rest)

  stopping_counted : (s : Side) (k : ℕ) (why : StopReason) (cs : List Command) → count_by (is_stop k) (map (stop s why) (filter (is_started s) cs)) ≡ count_by (has_ticket k) (filter (is_started s) cs)
  stopping_counted s k why cs = count_by-map (is_stop k) (stop s why) (filter (is_started s) cs)

  stops_counted : (s : Side) (k : ℕ) (item : List Mark) → count_by (is_stop k) (stops_in s item) ≤ count_by (has_ticket k) (filter_map leaving item)
  stops_counted s k item = by_executed (executed_in item)
    where
      by_executed : (x : Option Arrival) → count_by (is_stop k) (elim x [ Some a ↦ map (stop s (reason_of s.asked a)) (filter (is_started s) (filter_map leaving item)) | None ↦ [] ]) ≤ count_by (has_ticket k) (filter_map leaving item)
      by_executed None = omega arith
      by_executed (Some a) = omega (arith, stopping_counted s k (reason_of s.asked a) (filter_map leaving item), fewer_counted (has_ticket k) (is_started s) (filter_map leaving item))

  stops_marked : (s : Side) (k : ℕ) → contains s.marked k ≡ true → (item : List Mark) → count_by (is_stop k) (stops_in s item) ≡ 0
  stops_marked s k h item = by_executed (executed_in item)
    where
      by_executed : (x : Option Arrival) → count_by (is_stop k) (elim x [ Some a ↦ map (stop s (reason_of s.asked a)) (filter (is_started s) (filter_map leaving item)) | None ↦ [] ]) ≡ 0
      by_executed None = refl
      by_executed (Some a) = omega (arith, stopping_counted s k (reason_of s.asked a) (filter_map leaving item), none_marked s k (filter_map leaving item) h)

  all_stops_counted : (s : Side) (k : ℕ) (items : List (List Mark)) → count_by (is_stop k) (flat_map (stops_in s) items) ≤ leavings o.session k items
  all_stops_counted s k [] = omega arith
  all_stops_counted s k (item ∷ items) = omega (arith, count-append (is_stop k) (stops_in s item) (flat_map (stops_in s) items), stops_counted s k item, all_stops_counted s k items)

  -- ---- each part of a call

  by_event : (s : Side) (acts : List Action) (e : Event) → Standing i s acts → Standing i (happening i s e).side (acts ++ (happening i s e).actions)
  by_event s acts e h = record {
    follows = follows_event o s.both e h.follows;
    starts = λ k. omega (
      arith,
      actions_counted (is_start k),
      none_of_flat_map (is_start k) (stops_in s) items (none_start k),
      none_of_flat_map (is_start k) (resets_in o) items (none_resets (is_start k) o (λ unit function. refl)),
      count_by-map (is_start k) (start s') started,
      fewer_counted (has_ticket k) (λ (c : Command). not (is_withheld s' c)) (filter_map (live_with s'.both.trace) (filter_map ticket_enabled effects)),
      found_counted k s'.both.trace (filter_map ticket_enabled effects),
      enabled_counted k effects,
      ap (count_by (is_enable k)) (effects-more o.session items s.both.trace),
      sum_by-append (λ (x : Effect). cond (is_enable k x) 1 0) (effects_so_far o.session s.both.trace) effects,
      h.starts k,
    );
    told = λ k is. list_any-append (is_start k) acts actions ∙ by_told k (contains s.told k) refl (sym (list_any-append (λ n. n == k) s.told (map (λ (c : Command). c.ticket) started)) ∙ is);
    stops = by_stops;
    order = behind-append Fitting [] acts actions h.order
        (all_behind acts actions
        (each-append (Fitting acts) (flat_map (stops_in s) items ++ flat_map (resets_in o) items) (map (start s') started)
        (each-append (Fitting acts) (flat_map (stops_in s) items) (flat_map (resets_in o) items) (stops_fit s acts h items) (resets_fit acts items))
        (starts_fit s' acts started)));
  }
    where
      items : List (List Mark)
      items = items_of o.session s.both.event s.both.trace e

      effects : List Effect
      effects = effects_of o.session s.both.trace (items_of o.session s.both.event s.both.trace e)

      s' : Side
      s' = stepped i s e

      started : List Command
      started = starting (stepped i s e) (effects_of o.session s.both.trace (items_of o.session s.both.event s.both.trace e))

      actions : List Action
      actions = (happening i s e).actions

      actions_counted : (p : Action → Bool) → count_by p (acts ++ actions) ≡ count_by p acts + (count_by p (flat_map (stops_in s) items) + count_by p (flat_map (resets_in o) items) + count_by p (map (start s') started))
      actions_counted p =
          omega (
            arith,
            count-append p acts actions,
            count-append p (flat_map (stops_in s) items ++ flat_map (resets_in o) items) (map (start s') started),
            count-append p (flat_map (stops_in s) items) (flat_map (resets_in o) items),
          )

      none_start : (k : ℕ) (item : List Mark) → count_by (is_start k) (stops_in s item) ≡ 0
      none_start k item = by_executed (executed_in item)
        where
          by_executed : (x : Option Arrival) → count_by (is_start k) (elim x [ Some a ↦ map (stop s (reason_of s.asked a)) (filter (is_started s) (filter_map leaving item)) | None ↦ [] ]) ≡ 0
          by_executed None = refl
          by_executed (Some a) = none_of_map (is_start k) (stop s (reason_of s.asked a)) (filter (is_started s) (filter_map leaving item)) (λ c. refl)

      by_told : (k : ℕ) (b : Bool) → contains s.told k ≡ b → (b || list_any (λ n. n == k) (map (λ (c : Command). c.ticket) started)) ≡ true → (list_any (is_start k) acts || list_any (is_start k) actions) ≡ true
      by_told k true is now = or_first (list_any (is_start k) acts) (list_any (is_start k) actions) (h.told k is)
      by_told k false is now =
          or_second (list_any (is_start k) acts) (list_any (is_start k) actions)
          (list_any-append (is_start k) (flat_map (stops_in s) items ++ flat_map (resets_in o) items) (map (start s') started)
          ∙ or_second (list_any (is_start k) (flat_map (stops_in s) items ++ flat_map (resets_in o) items)) (list_any (is_start k) (map (start s') started))
          (list_any-map (is_start k) (start s') started ∙ sym (list_any-map (λ n. n == k) (λ (c : Command). c.ticket) started) ∙ now))

      by_stops : (k : ℕ) → count_by (is_stop k) (acts ++ actions) ≤ one (has (leaves_ticket k) s'.both.trace || contains s.marked k)
      by_stops k = by_marked (contains s.marked k) refl
        where
          none_more : count_by (is_stop k) (acts ++ actions) ≡ count_by (is_stop k) acts + count_by (is_stop k) (flat_map (stops_in s) items)
          none_more =
              omega (
                arith,
                actions_counted (is_stop k),
                none_of_flat_map (is_stop k) (resets_in o) items (none_resets (is_stop k) o (λ unit function. refl)),
                none_of_map (is_stop k) (start s') started (λ c. refl),
              )

          or_true : (b : Bool) → 1 ≤ one (b || true)
          or_true true = omega arith
          or_true false = omega arith

          or_same : (b : Bool) → one (b || false) ≡ one b
          or_same true = refl
          or_same false = refl

          by_marked : (b : Bool) → contains s.marked k ≡ b → count_by (is_stop k) (acts ++ actions) ≤ one (has (leaves_ticket k) s'.both.trace || b)
          by_marked true is =
              omega (
                arith,
                none_more,
                h.stops k,
                one_most (has (leaves_ticket k) s.both.trace || contains s.marked k),
                or_true (has (leaves_ticket k) s'.both.trace),
                none_of_flat_map (is_stop k) (stops_in s) items (stops_marked s k is),
              )
          by_marked false is =
              omega (
                arith,
                none_more,
                h.stops k,
                ap (λ b. one (has (leaves_ticket k) s.both.trace || b)) is,
                or_same (has (leaves_ticket k) s.both.trace),
                or_same (has (leaves_ticket k) s'.both.trace),
                all_stops_counted s k items,
                leavings_once o k items s.both.trace (s.both.event + 1) (event_going o.session s.both.event s.both.trace e (follows_forms o.session s.both h.follows)),
              )

  by_clearing : (s : Side) (acts : List Action) (unit : ℕ) → Standing i s acts
      → Standing i (record s { marked = s.marked ++ map (λ (c : Command). c.ticket) (left_to_clear s unit) }) (acts ++ map (stop s ClearedReason) (filter (is_started s) (left_to_clear s unit)))
  by_clearing s acts unit h = record {
    follows = h.follows;
    starts = λ k. omega (arith, h.starts k, count-append (is_start k) acts actions, none_of_map (is_start k) (stop s ClearedReason) (filter (is_started s) these) (λ c. refl));
    told = λ k is. list_any-append (is_start k) acts actions ∙ or_first (list_any (is_start k) acts) (list_any (is_start k) actions) (h.told k is);
    stops = λ k. by_among k (is_among k these) refl;
    order = behind-append Fitting [] acts actions h.order (all_behind acts actions (started_fit s acts h ClearedReason these));
  }
    where
      these : List Command
      these = left_to_clear s unit

      actions : List Action
      actions = map (stop s ClearedReason) (filter (is_started s) (left_to_clear s unit))

      tickets : List ℕ
      tickets = map (λ (c : Command). c.ticket) (left_to_clear s unit)

      -- those that are left to clear are live
      few : (k : ℕ) → count_by (has_ticket k) (filter (is_started s) these) ≤ count_by (has_ticket k) (live s.both.trace)
      few k =
          omega (
            arith,
            fewer_counted (has_ticket k) (is_started s) these,
            fewer_counted (has_ticket k) (λ (c : Command). not (is_marked s c)) (live_in unit s.both.trace),
            fewer_counted (has_ticket k) (λ (c : Command). c.unit == unit) (live s.both.trace),
          )

      stopping : (k : ℕ) → count_by (is_stop k) (acts ++ actions) ≡ count_by (is_stop k) acts + count_by (has_ticket k) (filter (is_started s) these)
      stopping k = omega (arith, count-append (is_stop k) acts actions, stopping_counted s k ClearedReason these)

      now_marked : (k : ℕ) → contains (s.marked ++ tickets) k ≡ (contains s.marked k || is_among k these)
      now_marked k = list_any-append (λ n. n == k) s.marked tickets ∙ ap (λ b. contains s.marked k || b) (list_any-map (λ n. n == k) (λ (c : Command). c.ticket) these)

      both_true : (a b : Bool) → one (a || (b || true)) ≡ 1
      both_true true b = refl
      both_true false true = refl
      both_true false false = refl

      by_marked : (k : ℕ) (b : Bool) → contains s.marked k ≡ b → count_by (has_ticket k) (filter (is_started s) these) + one (has (leaves_ticket k) s.both.trace || b) ≤ 1
      by_marked k true is = omega (arith, none_marked s k these is, one_most (has (leaves_ticket k) s.both.trace || true))
      by_marked k false is =
          omega (arith, few k, live_or_left o.session k s.both.trace s.both.event (follows_forms o.session s.both h.follows), or_same (has (leaves_ticket k) s.both.trace))
        where
          or_same : (b : Bool) → one (b || false) ≡ one b
          or_same true = refl
          or_same false = refl

      by_among : (k : ℕ) (b : Bool) → is_among k these ≡ b → count_by (is_stop k) (acts ++ actions) ≤ one (has (leaves_ticket k) s.both.trace || contains (s.marked ++ tickets) k)
      by_among k true is =
          omega (
            arith,
            stopping k,
            h.stops k,
            by_marked k (contains s.marked k) refl,
            ap (λ b. one (has (leaves_ticket k) s.both.trace || b)) (now_marked k ∙ ap (λ b. contains s.marked k || b) is),
            both_true (has (leaves_ticket k) s.both.trace) (contains s.marked k),
          )
      by_among k false is =
          omega (
            arith,
            stopping k,
            h.stops k,
            fewer_counted (has_ticket k) (is_started s) these,
            none_with k these is,
            ap (λ b. one (has (leaves_ticket k) s.both.trace || b)) (now_marked k),
            or_more (has (leaves_ticket k) s.both.trace) (contains s.marked k) (is_among k these),
          )

  by_aside : (s : Side) (acts more : List Action) → EachOf (λ a. is_aside a ≡ true) more → Standing i s acts → Standing i s (acts ++ more)
  by_aside s acts more each h = record {
    follows = h.follows;
    starts = λ k. omega (arith, h.starts k, count-append (is_start k) acts more, none_of_asides (is_start k) (aside_start k) more each);
    told = λ k is. list_any-append (is_start k) acts more ∙ or_first (list_any (is_start k) acts) (list_any (is_start k) more) (h.told k is);
    stops = λ k. omega (arith, h.stops k, count-append (is_stop k) acts more, none_of_asides (is_stop k) (aside_stop k) more each);
    order = behind-append Fitting [] acts more h.order (all_behind acts more (each-weaken (λ a. is_aside a ≡ true) (Fitting acts) more (aside_fits acts) each));
  }

  standing_kept : Kept i (Standing i)
  standing_kept = record {
    event = by_event;
    by_other = λ s acts c is h. record { follows = record { events = h.follows.events; at = h.follows.at; is = h.follows.is }; starts = h.starts; told = h.told; stops = h.stops; order = h.order };
    clearing = by_clearing;
    beside = λ s acts asked noted handed awake over h. record { follows = h.follows; starts = h.starts; told = h.told; stops = h.stops; order = h.order };
    aside = by_aside;
  }

  standing : (cs : List Call) → Standing i (side_of i cs) (told_in (deeds_of i cs))
  standing cs = kept_from_start i (Standing i) standing_kept cs (record { follows = follows_begun o; starts = λ k. omega arith; told = λ k is. absurd (false≢true is); stops = λ k. omega arith; order = tt })

pub starts_once : (i : Interface) (cs : List Call) → StartsOnce i cs
starts_once i cs k =
    let h : Standing i (side_of i cs) (told_in (deeds_of i cs)) = standing i cs in
    omega (arith, h.starts k, ap (λ t. count_by (is_enable k) (effects_so_far i.outbox.session t)) h.follows.is, enables_once i.outbox.session h.follows.events k)

pub stops_started : (i : Interface) (cs : List Call) → StopsStarted i cs
stops_started i cs = record {
  started = λ before after ticket cookie why is. behind-at Fitting [] before after (Stop ticket cookie why) (subst (EachBehind Fitting []) (sym is) (standing i cs).order);
  once = λ k. omega (arith, (standing i cs).stops k, one_most (has (leaves_ticket k) (side_of i cs).both.trace || contains (side_of i cs).marked k));
}
