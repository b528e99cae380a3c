-- A request executes by which a held one is taken out, and is answered.
use Rattle.std.proofs.Common.{◌≡◌, ℕ, ◌+◌, ◌≤◌, ◌==◌, ◌&&◌, ◌||◌, cond, Bool, false, List, [], ◌∷◌, ◌++◌, count_by, find, is_some, Option, Some, None, refl, ap, sym, subst, ◌∙◌, arith}
use Rattle.iscsi_ffi_law.proofs.items.TakingOut.{IsOut, gone_place, headed_out, one_out, one_walk}
use Rattle.std.specs.List.{list_any}
use Rattle.std.proofs.lemmas.List.{append-nil}
use Rattle.iscsi_wire.specs.declared.reply.Reply.{Reply}
use Rattle.iscsi_wire.specs.Fields.{cmd_sn}
use Rattle.iscsi_wire.specs.Serial.{wire}
use Rattle.iscsi_rules.specs.declared.effect.Effect.{Effect}
use Rattle.iscsi_rules.specs.declared.effect.Effect.TheVariants.{Empty, Send}
use Rattle.iscsi_rules.specs.rules.Run.{effects_of_item, stat_sn_of}
use Rattle.iscsi_rules.specs.rules.Settings.{Setting}
use Rattle.iscsi_rules.specs.rules.Trace.{Arrival, Empties, Mark, Sends, Trace, admits_at, first_of, held, is_delivered, is_emptied, shown, waiting}
use Rattle.iscsi_rules.proofs.items.Forms.{AfterWaiting, AtArrival, AtTurn, Start, start_mark}
use Rattle.iscsi_rules.proofs.traces.NewlyLemmas.{Untouched, newly-untouched}
use Rattle.iscsi_outbox_law.proofs.general.PairLemmas.{each-weaken}
use Rattle.iscsi_requests.specs.Numbers.{HeldNumbers, size_for, with_held}
use Rattle.iscsi_ffi_rules.specs.rules.Calls.{Interface}
use Rattle.iscsi_ffi_rules.specs.rules.Happening.{answers_in}
use Rattle.iscsi_ffi_rules.specs.rules.Needs.{admitted_by, is_held, is_of_event}
use Rattle.iscsi_ffi_rules.specs.rules.Run.{cids}
use Rattle.iscsi_ffi_rules.specs.rules.Sides.{Side}
use Rattle.iscsi_ffi_steps.specs.State.{State}
use Rattle.iscsi_ffi_steps.specs.Walk.{on_effects}
use Rattle.iscsi_ffi_law.specs.Arrived.{AreDistinct, is_late}
use Rattle.iscsi_ffi_law.specs.Names.{Name, Note}
use Rattle.iscsi_ffi_law.specs.Parts.{AreFunctions, IsRequest}
use Rattle.iscsi_ffi_law.proofs.items.Between.{IsBetween, IsHeaded}
use Rattle.iscsi_ffi_law.proofs.completions.DoneShape.{enables}
use Rattle.iscsi_ffi_law.proofs.items.Plain.{plain_item, start_effect}
use Rattle.iscsi_ffi_law.proofs.items.QuietBox.{IsQuietPart}
use Rattle.iscsi_ffi_law.proofs.arrivals.Slots.{slots_same}
use Rattle.iscsi_ffi_law.proofs.items.TailSends.{IsAnswering}

abbrev pub emptied_item : Start → Arrival → Arrival → ℕ → Reply → List Mark
emptied_item start a b conn reply = start_mark start a ∷ (Empties b ∷ (Sends conn reply ∷ []))

abbrev pub emptied_effects : ℕ → Start → Arrival → Arrival → ℕ → Reply → List Effect
emptied_effects sn start a b conn reply = start_effect start a.request ∷ (Empty (wire b.number) ∷ (Send conn sn reply ∷ []))

-- ---- what the trace has behind it

abbrev if_held : Bool → List Arrival → Option Arrival
if_held v xs = cond v None (first_of xs)

module _ (t : Trace) (start : Start) (a b : Arrival) (conn : ℕ) (reply : Reply) where
  -- it executes, and then the other one is taken out
  abbrev begun_trace : Trace
  begun_trace = plain_item start a None None None ∷ t

  abbrev emptied_trace : Trace
  emptied_trace = (Empties b ∷ []) ∷ begun_trace

  admitted_same : shown admitted_by (emptied_item start a b conn reply ∷ t) ≡ shown admitted_by emptied_trace
  admitted_same = by_start start
    where
      by_start : (s : Start) → shown admitted_by (emptied_item s a b conn reply ∷ t) ≡ shown admitted_by ((Empties b ∷ []) ∷ (plain_item s a None None None ∷ t))
      by_start AtTurn = sym (append-nil (shown admitted_by t ++ []))
      by_start AtArrival = sym (append-nil (shown admitted_by t ++ []))
      by_start AfterWaiting = sym (append-nil (shown admitted_by t ++ []))

  held_same : (n : ℕ) → held (emptied_item start a b conn reply ∷ t) n ≡ held emptied_trace n
  held_same n = by_start start
    where
      by_start : (s : Start) → held (emptied_item s a b conn reply ∷ t) n ≡ held ((Empties b ∷ []) ∷ (plain_item s a None None None ∷ t)) n
      by_start AtTurn = ap (if_held ((((a.number == n) || false) || is_delivered t n) || (((b.number == n) || false) || is_emptied t n))) (sym (append-nil (shown (admits_at n) t ++ [])))
      by_start AtArrival = ap (if_held (is_delivered t n || (((b.number == n) || false) || is_emptied t n))) (sym (append-nil (shown (admits_at n) t ++ [])))
      by_start AfterWaiting = ap (if_held (is_delivered t n || (((b.number == n) || false) || is_emptied t n))) (sym (append-nil (shown (admits_at n) t ++ [])))

  is_held_same : (event : ℕ) → is_held event (emptied_item start a b conn reply ∷ t) ≡ is_held event emptied_trace
  is_held_same event = ap by_shown admitted_same ∙ by_found (find (is_of_event event) (shown admitted_by emptied_trace))
    where
      by_shown : List Arrival → Bool
      by_shown xs = elim (find (is_of_event event) xs) [ Some d ↦ is_some (held (emptied_item start a b conn reply ∷ t) d.number) | None ↦ false ]

      by_found : (x : Option Arrival) → ◌≡◌ {A = Bool} (elim x [ Some d ↦ is_some (held (emptied_item start a b conn reply ∷ t) d.number) | None ↦ false ]) (elim x [ Some d ↦ is_some (held emptied_trace d.number) | None ↦ false ])
      by_found None = refl
      by_found (Some d) = ap is_some (held_same d.number)

  waits_same : waiting (emptied_item start a b conn reply ∷ t) ≡ waiting emptied_trace
  waits_same = by_start start
    where
      by_start : (s : Start) → waiting (emptied_item s a b conn reply ∷ t) ≡ waiting ((Empties b ∷ []) ∷ (plain_item s a None None None ∷ t))
      by_start AtTurn = refl
      by_start AtArrival = refl
      by_start AfterWaiting = refl

  distinct_same : AreDistinct emptied_trace → AreDistinct (emptied_item start a b conn reply ∷ t)
  distinct_same d = record {
    numbers = λ n. subst (λ xs. count_by (λ (x : Arrival). x.number == n) xs ≤ 1) (sym admitted_same) (d.numbers n);
    events = λ e. subst (λ xs. count_by (λ (x : Arrival). x.event == e) xs + count_by (λ (x : Arrival). x.event == e) (waiting (emptied_item start a b conn reply ∷ t)) ≤ 1) (sym admitted_same)
        (subst (λ ws. count_by (λ (x : Arrival). x.event == e) (shown admitted_by emptied_trace) + count_by (λ (x : Arrival). x.event == e) ws ≤ 1) (sym waits_same) (d.events e));
  }

late_same : (now : ℕ) (start : Start) (a b : Arrival) (conn : ℕ) (reply : Reply) → is_late now (emptied_item start a b conn reply) ≡ is_late now (plain_item start a None None None)
late_same now AtTurn a b conn reply = refl
late_same now AtArrival a b conn reply = refl
late_same now AfterWaiting a b conn reply = refl

untouched_emptied : (start : Start) (a b : Arrival) (conn : ℕ) (reply : Reply) → Untouched (emptied_item start a b conn reply)
untouched_emptied AtTurn a b conn reply = record { enters_none = refl; leaves_no = λ k. refl }
untouched_emptied AtArrival a b conn reply = record { enters_none = refl; leaves_no = λ k. refl }
untouched_emptied AfterWaiting a b conn reply = record { enters_none = refl; leaves_no = λ k. refl }

effects_emptied : (o : Setting) (t : Trace) (start : Start) (a b : Arrival) (conn : ℕ) (reply : Reply) → effects_of_item o t (emptied_item start a b conn reply) ≡ emptied_effects (stat_sn_of o t conn) start a b conn reply
effects_emptied o t AtTurn a b conn reply = ap (λ ns. emptied_effects (stat_sn_of o t conn) AtTurn a b conn reply ++ enables ns) (newly-untouched o t (emptied_item AtTurn a b conn reply) (untouched_emptied AtTurn a b conn reply))
effects_emptied o t AtArrival a b conn reply = ap (λ ns. emptied_effects (stat_sn_of o t conn) AtArrival a b conn reply ++ enables ns) (newly-untouched o t (emptied_item AtArrival a b conn reply) (untouched_emptied AtArrival a b conn reply))
effects_emptied o t AfterWaiting a b conn reply = ap (λ ns. emptied_effects (stat_sn_of o t conn) AfterWaiting a b conn reply ++ enables ns) (newly-untouched o t (emptied_item AfterWaiting a b conn reply) (untouched_emptied AfterWaiting a b conn reply))

part_emptied : (sn : ℕ) (start : Start) (a b : Arrival) (conn : ℕ) (reply : Reply) → IsQuietPart (emptied_effects sn start a b conn reply) (Some (a.request)) (Some (conn, reply))
part_emptied sn AtTurn a b conn reply = record { enables = refl; left = refl; entries = refl; entering = λ x. refl; closing = λ links. refl; executes = refl; sends = refl }
part_emptied sn AtArrival a b conn reply = record { enables = refl; left = refl; entries = refl; entering = λ x. refl; closing = λ links. refl; executes = refl; sends = refl }
part_emptied sn AfterWaiting a b conn reply = record { enables = refl; left = refl; entries = refl; entering = λ x. refl; closing = λ links. refl; executes = refl; sends = refl }

answers_emptied : (now : ℕ) (start : Start) (a b : Arrival) (conn : ℕ) (reply : Reply) → answers_in now (emptied_item start a b conn reply) ≡ a.event ∷ []
answers_emptied now AtTurn a b conn reply = refl
answers_emptied now AtArrival a b conn reply = refl
answers_emptied now AfterWaiting a b conn reply = refl

-- ---- it is taken out

module _ (i : Interface) (names : List Name) (notes : List Note) (s : State) (r : Side) (own : Option ℕ) (xs : List (Option ℕ)) (k : IsBetween i names notes s r own xs) (start : Start) (a b : Arrival) (conn : ℕ) (reply : Reply)
    (h : IsHeaded i names notes s r own xs (plain_item start a None None None) start a) (is : held (plain_item start a None None None ∷ r.both.trace) b.number ≡ Some b) (wired : wire b.number ≡ cmd_sn b.request) where
  abbrev t1 : Trace
  t1 = plain_item start a None None None ∷ r.both.trace

  begun : IsOut i names notes s r own xs (plain_item start a None None None ∷ r.both.trace) (Some (h.place)) xs h.held h.functions
  begun = headed_out i names notes s r own xs k start a h

  abbrev gone : ℕ
  gone = gone_place i names notes s r own xs k t1 (Some (h.place)) xs h.held h.functions begun b is

  abbrev held' : HeldNumbers
  held' = with_held (cmd_sn b.request) None h.held

  out : IsOut i names notes s r own xs ((Empties b ∷ []) ∷ (plain_item start a None None None ∷ r.both.trace)) (Some (h.place)) (xs ++ Some gone ∷ []) held' h.functions
  out = one_out i names notes s r own xs k t1 (Some (h.place)) xs h.held h.functions begun b is

  abbrev number : ℕ
  number = stat_sn_of i.outbox.session r.both.trace conn

  abbrev s2 : State
  s2 = record s { held = held'; functions = h.functions }

  pub emptied_answering : IsAnswering i names notes s r own xs (emptied_item start a b conn reply) (Some (a.request)) conn a.event reply
  emptied_answering = record {
    held = held';
    functions = h.functions;
    place = h.place;
    ended = xs ++ Some gone ∷ [];
    sn = number;
    effects = emptied_effects number start a b conn reply;
    current = Some (h.place);
    own_then = None;
    by = Some (h.by);
    untouched = untouched_emptied start a b conn reply;
    effects_are = effects_emptied i.outbox.session r.both.trace start a b conn reply;
    part = part_emptied number start a b conn reply;
    answers = answers_emptied r.both.event start a b conn reply;
    long = out.long;
    long_functions = out.long_functions;
    functions_are = subst (AreFunctions (cids i) names h.functions) (sym (waits_same r.both.trace start a b conn reply)) out.functions_are;
    named = h.named;
    uses = out.uses;
    few = (let fewer = out.fewer in omega (arith, fewer));
    requests = each-weaken (IsRequest s2 ((Empties b ∷ []) ∷ t1)) (IsRequest s2 (emptied_item start a b conn reply ∷ r.both.trace)) names
        (λ n e. record { held = is_held_same r.both.trace start a b conn reply n.event ∙ e.held; waiting = ap (list_any (is_of_event n.event)) (waits_same r.both.trace start a b conn reply) ∙ e.waiting }) out.requests;
    noted = out.noted;
    slots = slots_same (size_for i.outbox.session.window) s.commands.room names held' ((Empties b ∷ []) ∷ t1) (emptied_item start a b conn reply ∷ r.both.trace) (held_same r.both.trace start a b conn reply) out.slots;
    distinct = distinct_same r.both.trace start a b conn reply out.distinct;
    over = out.over;
    some = refl;
    of_it = refl;
    walk = λ o limits acts first late rest sent.
        ap (λ w. on_effects false (Empty (wire b.number) ∷ (Send conn number reply ∷ rest)) w) (h.walk o limits acts first sent (ap (λ v. first && v) (sym (late_same r.both.event start a b conn reply)) ∙ late))
        ∙ ap (λ w. on_effects false (Send conn number reply ∷ rest) w) (one_walk i names notes s r own xs k t1 (Some (h.place)) xs h.held h.functions begun b is wired s.commands xs o acts (Some (h.by)) sent);
  }
