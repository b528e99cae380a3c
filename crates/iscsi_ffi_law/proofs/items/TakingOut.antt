-- Held requests are taken out as a request executes, one after the other: each is held no more, and its use ends.
use Rattle.std.proofs.Common.{◌≡◌, ℕ, suc, ◌+◌, ◌<◌, ◌≤◌, ◌==◌, ◌||◌, ⊎_elim, cond, Bool, true, false, List, [], ◌∷◌, ◌++◌, length, map, count_by, nat_lt, Option, Some, None, refl, ap, sym, subst, ◌∙◌, arith, append_assoc, eq-eqb, le-ltb, lt-ltb, find, is_some, slice_index_or, length-append}
use Rattle.iscsi_ffi_law.proofs.requests.KeptCounts.{held_or_waiting}
use Rattle.iscsi_ffi_commands.specs.Commands.{Commands}
use Rattle.iscsi_outbox_law.proofs.general.PairLemmas.{each-weaken}
use Rattle.std.specs.List.{list_any}
use Rattle.std.proofs.lemmas.Bool.{cases_lt, eqb-true, false≢true}
use Rattle.std.proofs.lemmas.List.{append-nil}
use Rattle.iscsi_wire.specs.Fields.{cmd_sn}
use Rattle.iscsi_wire.specs.Serial.{wire}
use Rattle.iscsi_rules.specs.declared.effect.Effect.{Effect}
use Rattle.iscsi_rules.specs.declared.effect.Effect.TheVariants.{Empty}
use Rattle.iscsi_rules.specs.rules.Trace.{Arrival, Empties, Mark, Trace, admits_at, first_of, held, is_delivered, is_emptied, shown, waiting}
use Rattle.iscsi_rules.proofs.general.CountLemmas.{one}
use Rattle.iscsi_rules.proofs.items.Forms.{Start}
use Rattle.iscsi_outbox_law.specs.private.Pairs.{EachOf, InOrder}
use Rattle.iscsi_outbox_steps.specs.State.{State as OutboxState}
use Rattle.iscsi_requests.specs.Functions.{WaitingFunctions}
use Rattle.iscsi_requests.specs.declared.functions.WaitingFunction.{WaitingFunction}
use Rattle.iscsi_requests.specs.Numbers.{HeldNumbers, size_for, with_held, index_of}
use Rattle.iscsi_ffi_rules.specs.declared.action.Action.{Action}
use Rattle.iscsi_ffi_rules.specs.declared.action.StopReason.{StopReason}
use Rattle.iscsi_ffi_rules.specs.rules.Calls.{Interface}
use Rattle.iscsi_ffi_rules.specs.rules.Needs.{admitted_by, is_waiting, is_held, is_of_event}
use Rattle.iscsi_ffi_rules.specs.rules.Run.{cids}
use Rattle.iscsi_ffi_rules.specs.rules.Sides.{Side}
use Rattle.iscsi_ffi_steps.specs.State.{State}
use Rattle.iscsi_ffi_steps.specs.Walk.{Doing, in_state, on_effect, on_effects, release_if, walking}
use Rattle.iscsi_ffi_law.specs.Arrived.{AreDistinct}
use Rattle.iscsi_ffi_law.specs.Names.{Name, Note}
use Rattle.iscsi_ffi_law.specs.Parts.{AreFunctions, AreHeld, IsHeldAt, IsNote, IsRequest}
use Rattle.iscsi_ffi_law.specs.Uses.{count_functions, count_held, count_lists, is_place}
use Rattle.iscsi_ffi_law.proofs.items.Between.{IsBetween, IsHeaded}
use Rattle.iscsi_ffi_law.proofs.requests.Core.{Core, core_more, endings_more, one_released}
use Rattle.iscsi_ffi_law.proofs.general.Members.{any_counted, each_in, in_counted}
use Rattle.iscsi_ffi_law.proofs.requests.NameLemmas.{Named, found_named}
use Rattle.iscsi_ffi_law.proofs.items.Plain.{plain_item}
use Rattle.iscsi_ffi_law.proofs.requests.Releases.{endings}
use Rattle.iscsi_ffi_law.proofs.requests.Releasing.{ending}
use Rattle.iscsi_ffi_law.proofs.arrivals.Slots.{IsTurnOf, at, count_then, distinct_then, held_in, long_then, named_then, noted_then, slots_then, slots_same, count_put, index_within}
use Rattle.iscsi_ffi_law.proofs.items.TailSends.{over_still}
use Rattle.iscsi_ffi_law.proofs.items.Walking.{walk_in}

-- one that is taken out isn't held any more
emptied_is : (t : Trace) (b : Arrival) → IsTurnOf t b (Empties b ∷ [])
emptied_is t b = record {
  gone = ap (λ v. cond (is_delivered t b.number || ((v || false) || is_emptied t b.number)) None (first_of (shown (admits_at b.number) t ++ []))) (eq-eqb b.number b.number refl) ∙ either (is_delivered t b.number) (first_of (shown (admits_at b.number) t ++ []));
  others = λ n other.
      ap (λ v. cond (is_delivered t n || ((v || false) || is_emptied t n)) None (first_of (shown (admits_at n) t ++ []))) other
      ∙ ap (λ xs. cond (is_delivered t n || is_emptied t n) None (first_of xs)) (append-nil (shown (admits_at n) t));
  admits = refl;
}
  where
    either : (v : Bool) (x : Option Arrival) → cond (v || true) None x ≡ None
    either true x = refl
    either false x = refl

-- the trace with each of them taken out
abbrev pub emptied_by : List Arrival → Trace → Trace
emptied_by [] t = t
emptied_by (b ∷ bs) t = emptied_by bs ((Empties b ∷ []) ∷ t)

abbrev pub empty_effects : List Arrival → List Effect
empty_effects bs = map (λ (b : Arrival). Empty (wire b.number)) bs

-- what stands for the trace as far as the item went: a request executes, which has its use still; `ended`: the uses that have ended
pub record IsOut (i : Interface) (names : List Name) (notes : List Note) (s : State) (r : Side) (own : Option ℕ) (xs : List (Option ℕ)) (t : Trace) (place : Option ℕ) (ended : List (Option ℕ)) (v : HeldNumbers) (fs : WaitingFunctions) : Type 0 where
  pub long : length v.places ≡ length s.held.places
  pub long_functions : length fs.waiting ≡ length s.functions.waiting
  pub functions_are : AreFunctions (cids i) names fs (waiting t)
  pub uses : (p : ℕ) → count_by (is_place p) v.places + count_lists (λ (f : WaitingFunction). f.request == p) fs.waiting + (ending place p + endings ended p) ≡ count_held p s + count_functions p s + (ending own p + endings xs p)
  pub fewer : length ended + held_or_waiting v fs ≤ length xs + held_or_waiting s.held s.functions
  pub requests : EachOf (IsRequest (record s { held = v; functions = fs }) t) names
  pub noted : EachOf (IsNote (record s { held = v; functions = fs }) r.both.box.links) notes
  pub slots : AreHeld (size_for i.outbox.session.window) s.commands.room names v t
  pub distinct : AreDistinct t
  pub over : (p : ℕ) → 1 ≤ endings ended p → count_by (is_place p) v.places + count_lists (λ (f : WaitingFunction). f.request == p) fs.waiting ≡ 0

module _ (i : Interface) (names : List Name) (notes : List Note) (s : State) (r : Side) (own : Option ℕ) (xs : List (Option ℕ)) (k : IsBetween i names notes s r own xs) where
  -- it has begun to execute
  pub headed_out : (start : Start) (a : Arrival) (h : IsHeaded i names notes s r own xs (plain_item start a None None None) start a) → IsOut i names notes s r own xs (plain_item start a None None None ∷ r.both.trace) (Some (h.place)) xs h.held h.functions
  headed_out start a h = record {
    long = h.long;
    long_functions = h.long_functions;
    functions_are = h.functions_are;
    uses = h.uses;
    fewer = (let few = h.fewer in omega (arith, few));
    requests = h.requests;
    noted = h.noted;
    slots = h.slots;
    distinct = h.distinct;
    over = over_still i names notes s r own xs k (plain_item start a None None None) start a h;
  }

  -- so it stands for a trace that holds the same, and in which the same functions wait
  pub out_as : (t t' : Trace) (place : Option ℕ) (ended : List (Option ℕ)) (v : HeldNumbers) (fs : WaitingFunctions) → ((n : ℕ) → held t' n ≡ held t n) → shown admitted_by t' ≡ shown admitted_by t → waiting t' ≡ waiting t → IsOut i names notes s r own xs t place ended v fs → IsOut i names notes s r own xs t' place ended v fs
  out_as t t' place ended v fs holds admitted waits h = record {
    long = h.long;
    long_functions = h.long_functions;
    functions_are = subst (AreFunctions (cids i) names fs) (sym waits) h.functions_are;
    uses = h.uses;
    fewer = h.fewer;
    requests = each-weaken (IsRequest (record s { held = v; functions = fs }) t) (IsRequest (record s { held = v; functions = fs }) t') names (λ n e. record { held = held_alike n.event ∙ e.held; waiting = ap (list_any (is_of_event n.event)) waits ∙ e.waiting }) h.requests;
    noted = h.noted;
    slots = slots_same (size_for i.outbox.session.window) s.commands.room names v t t' holds h.slots;
    distinct = record {
      numbers = λ n. subst (λ as'. count_by (λ (x : Arrival). x.number == n) as' ≤ 1) (sym admitted) (h.distinct.numbers n);
      events = λ e. subst (λ as'. count_by (λ (x : Arrival). x.event == e) as' + count_by (λ (x : Arrival). x.event == e) (waiting t') ≤ 1) (sym admitted)
          (subst (λ ws. count_by (λ (x : Arrival). x.event == e) (shown admitted_by t) + count_by (λ (x : Arrival). x.event == e) ws ≤ 1) (sym waits) (h.distinct.events e));
    };
    over = h.over;
  }
    where
      held_alike : (event : ℕ) → is_held event t' ≡ is_held event t
      held_alike event =
          ap (λ as'. elim (find (is_of_event event) as') as (λ (y : Option Arrival). Bool) [ Some d ↦ is_some (held t' d.number) | None ↦ false ]) admitted
          ∙ by_found (find (is_of_event event) (shown admitted_by t))
        where
          by_found : (x : Option Arrival) → ◌≡◌ {A = Bool} (elim x [ Some d ↦ is_some (held t' d.number) | None ↦ false ]) (elim x [ Some d ↦ is_some (held t d.number) | None ↦ false ])
          by_found None = refl
          by_found (Some d) = ap is_some (holds d.number)

  -- ---- one is taken out

  module _ (t : Trace) (place : Option ℕ) (ended : List (Option ℕ)) (v : HeldNumbers) (fs : WaitingFunctions) (h : IsOut i names notes s r own xs t place ended v fs) (b : Arrival) (is : held t b.number ≡ Some b) where
    abbrev size : ℕ
    size = size_for i.outbox.session.window

    abbrev out : List Mark
    out = Empties b ∷ []

    abbrev s1 : State
    s1 = record s { held = v; functions = fs }

    pub turn : IsTurnOf t b (Empties b ∷ [])
    turn = emptied_is t b

    pub some : 0 < length v.places
    some = let long = h.long in let more = k.sizes.slots in omega (arith, long, more)

    abbrev it_stands : IsHeldAt names v b
    it_stands = at size s.commands.room names notes k.requests.apart s1 t h.slots h.distinct some b is out turn

    abbrev pub gone_place : ℕ
    gone_place = it_stands.place

    abbrev v' : HeldNumbers
    v' = with_held (cmd_sn b.request) None v

    counted : (p : ℕ) → count_by (is_place p) v'.places + one (it_stands.place == p) ≡ count_by (is_place p) v.places
    counted p = count_then size s.commands.room names notes k.requests.apart s1 t h.slots h.distinct some b is out turn p

    -- what is held doesn't wait
    none_waits : count_lists (λ (f : WaitingFunction). f.request == it_stands.place) fs.waiting ≡ 0
    none_waits =
        let f : Named names b.event it_stands.place = found_named names b.event it_stands.place it_stands.named in
        let q : IsRequest s1 t f.name = each_in (IsRequest s1 t) names f.name f.there h.requests in
        let there : 1 ≤ count_by (λ (x : Arrival). x.event == b.event) (shown admitted_by t) = in_counted (λ (x : Arrival). x.event == b.event) (shown admitted_by t) b (held_in t b.number b is) (eq-eqb b.event b.event refl) in
        let few : count_by (λ (x : Arrival). x.event == b.event) (waiting t) ≤ 0 = (let d = h.distinct.events b.event in omega (arith, d, there)) in
        let none : nat_lt 0 (count_functions f.name.place s1) ≡ false = sym q.waiting ∙ ap (λ e. is_waiting e t) f.event_is ∙ any_counted (λ (x : Arrival). x.event == b.event) (waiting t) ∙ le-ltb 0 (count_by (λ (x : Arrival). x.event == b.event) (waiting t)) few in
        ⊎_elim
        (λ more. absurd (false≢true (sym none ∙ lt-ltb 0 (count_functions f.name.place s1) (subst (λ p. 0 < count_functions p s1) (sym f.place_is) more))))
        (λ less. omega (arith, less)) (cases_lt 0 (count_functions it_stands.place s1))

    over' : (p : ℕ) → 1 ≤ endings (ended ++ Some (it_stands.place) ∷ []) p → count_by (is_place p) v'.places + count_lists (λ (f : WaitingFunction). f.request == p) fs.waiting ≡ 0
    over' p more = by_place (it_stands.place == p) refl
      where
        by_place : (w : Bool) → (it_stands.place == p) ≡ w → count_by (is_place p) v'.places + count_lists (λ (f : WaitingFunction). f.request == p) fs.waiting ≡ 0
        by_place true same =
            let here : one (it_stands.place == p) ≡ 1 = ap one same in
            let none : count_lists (λ (f : WaitingFunction). f.request == p) fs.waiting ≡ 0 = subst (λ q. count_lists (λ (f : WaitingFunction). f.request == q) fs.waiting ≡ 0) (eqb-true it_stands.place p same) none_waits in
            omega (arith, here, none, counted p, h.slots.once p)
        by_place false other =
            let apart : one (it_stands.place == p) ≡ 0 = ap one other in
            let before = h.over p (omega (arith, more, endings_more ended (Some (it_stands.place)) p, apart)) in
            omega (arith, before, counted p, apart)

    pub one_out : IsOut i names notes s r own xs ((Empties b ∷ []) ∷ t) place (ended ++ Some gone_place ∷ []) (with_held (cmd_sn b.request) None v) fs
    one_out = record {
      long = long_then size s.commands.room names notes k.requests.apart s1 t h.slots h.distinct some b is out turn ∙ h.long;
      long_functions = h.long_functions;
      functions_are = h.functions_are;
      uses = λ p. omega (arith, h.uses p, counted p, endings_more ended (Some (it_stands.place)) p);
      fewer = (let few = h.fewer in let put = count_put (λ (x : Option ℕ). is_some x) v.places (index_of (cmd_sn b.request) v) None (index_within (cmd_sn b.request) v some) in let here : one (is_some (slice_index_or v.places (index_of (cmd_sn b.request) v) None)) ≡ 1 = ap (λ (x : Option ℕ). one (is_some x)) it_stands.slot in let long = length-append ended (Some (it_stands.place) ∷ []) in omega (arith, few, put, here, long));
      requests = named_then size s.commands.room names notes k.requests.apart s1 t h.slots h.distinct some b is out turn (λ e. refl) h.requests;
      noted = noted_then size s.commands.room names notes k.requests.apart s1 t h.slots h.distinct some b is out turn r.both.box.links h.noted;
      slots = slots_then size s.commands.room names notes k.requests.apart s1 t h.slots h.distinct some b is out turn;
      distinct = distinct_then size s.commands.room names notes k.requests.apart s1 t h.slots h.distinct some b is out turn refl;
      over = over';
    }

    -- its use ends; `ys`: the uses that have ended as the walk comes there
    pub one_walk : (wired : wire b.number ≡ cmd_sn b.request) (kept : Commands) (ys : List (Option ℕ)) (o : OutboxState) (acts : List Action) (by : Option StopReason) (sent : ℕ)
        → on_effect false (Empty (wire b.number)) (walk_in o (record s { held = v; functions = fs; commands = kept }) acts ys place None by sent)
        ≡ walk_in o (record s { held = with_held (cmd_sn b.request) None v; functions = fs; commands = kept }) acts (ys ++ Some gone_place ∷ []) place None by sent
    one_walk wired kept ys o acts by sent =
        ap (λ n. on_effect false (Empty n) (walk_in o before acts ys place None by sent)) wired
        ∙ ap (λ (z : Option ℕ). walking (λ (d : Doing). release_if z (in_state (λ (x : State). record x { held = with_held (cmd_sn b.request) None x.held }) d)) (walk_in o before acts ys place None by sent)) it_stands.slot
        ∙ ap (λ (d : Doing). record { doing = d; current = place; own = None; by = by; sent = sent }) (one_released (Some (it_stands.place)) (walk_in o after acts ys place None by sent).doing)
        ∙ ap (λ (c : Core). record {
          doing = record { state = record after { outbox = o; cookies = c.cookies; commands = c.commands }; actions = acts; forgets = c.forgets };
          current = place;
          own = None;
          by = by;
          sent = sent;
        }) (sym (core_more s.room ys (Some (it_stands.place)) (record { cookies = s.cookies; commands = kept; forgets = [] })))
      where
        before : State
        before = record s { held = v; functions = fs; commands = kept }

        after : State
        after = record s { held = v'; functions = fs; commands = kept }

  -- ---- several, one after the other

  -- what they come to
  pub record AreOut (t : Trace) (place : Option ℕ) (ended : List (Option ℕ)) (v : HeldNumbers) (fs : WaitingFunctions) (bs : List Arrival) : Type 0 where
    pub held_then : HeldNumbers
    pub places : List (Option ℕ)
    pub many : length places ≡ length bs
    pub out : IsOut i names notes s r own xs (emptied_by bs t) place (ended ++ places) held_then fs
    pub walk : (kept : Commands) (ys : List (Option ℕ)) (o : OutboxState) (acts : List Action) (by : Option StopReason) (sent : ℕ) (rest : List Effect)
        → on_effects false (empty_effects bs ++ rest) (walk_in o (record s { held = v; functions = fs; commands = kept }) acts ys place None by sent)
        ≡ on_effects false rest (walk_in o (record s { held = held_then; functions = fs; commands = kept }) acts (ys ++ places) place None by sent)

  pub all_out : (bs : List Arrival) (t : Trace) (place : Option ℕ) (ended : List (Option ℕ)) (v : HeldNumbers) (fs : WaitingFunctions) → IsOut i names notes s r own xs t place ended v fs
      → EachOf (λ (b : Arrival). held t b.number ≡ Some b) bs → InOrder (λ (b c : Arrival). (b.number == c.number) ≡ false) bs → EachOf (λ (b : Arrival). wire b.number ≡ cmd_sn b.request) bs → AreOut t place ended v fs bs
  all_out [] t place ended v fs h there apart wired = record {
    held_then = v;
    places = [];
    many = refl;
    out = subst (λ (ys : List (Option ℕ)). IsOut i names notes s r own xs t place ys v fs) (sym (append-nil ended)) h;
    walk = λ kept ys o acts by sent rest. ap (λ (zs : List (Option ℕ)). on_effects false rest (walk_in o (record s { held = v; functions = fs; commands = kept }) acts zs place None by sent)) (sym (append-nil ys));
  }
  all_out (b ∷ bs) t place ended v fs h there apart wired =
      let gone : ℕ = gone_place t place ended v fs h b there.0 in
      let still : EachOf (λ (c : Arrival). held ((Empties b ∷ []) ∷ t) c.number ≡ Some c) bs = each_still bs there.1 apart.0 in
      let later : AreOut ((Empties b ∷ []) ∷ t) place (ended ++ Some gone ∷ []) (with_held (cmd_sn b.request) None v) fs bs
      = all_out bs ((Empties b ∷ []) ∷ t) place (ended ++ Some gone ∷ []) (with_held (cmd_sn b.request) None v) fs (one_out t place ended v fs h b there.0) still apart.1 wired.1 in
      let same : (ended ++ Some gone ∷ []) ++ later.places ≡ ended ++ (Some gone ∷ later.places) = append_assoc ended (Some gone ∷ []) later.places in
      record {
        held_then = later.held_then;
        places = Some gone ∷ later.places;
        many = ap suc later.many;
        out = subst (λ (ys : List (Option ℕ)). IsOut i names notes s r own xs (emptied_by bs ((Empties b ∷ []) ∷ t)) place ys later.held_then fs) same later.out;
        walk = λ kept ys o acts by sent rest.
            ap (λ w. on_effects false (empty_effects bs ++ rest) w) (one_walk t place ended v fs h b there.0 wired.0 kept ys o acts by sent)
            ∙ later.walk kept (ys ++ Some gone ∷ []) o acts by sent rest
            ∙ ap (λ (zs : List (Option ℕ)). on_effects false rest (walk_in o (record s { held = later.held_then; functions = fs; commands = kept }) acts zs place None by sent)) (append_assoc ys (Some gone ∷ []) later.places);
      }
    where
      each_still : (cs : List Arrival) → EachOf (λ (c : Arrival). held t c.number ≡ Some c) cs → EachOf (λ (c : Arrival). (b.number == c.number) ≡ false) cs → EachOf (λ (c : Arrival). held ((Empties b ∷ []) ∷ t) c.number ≡ Some c) cs
      each_still [] at other = tt
      each_still (c ∷ cs) at other = ((emptied_is t b).others c.number other.0 ∙ at.0, each_still cs at.1 other.1)
