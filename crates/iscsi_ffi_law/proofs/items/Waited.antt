-- A function that has waited executes: it has a use that isn't any yet, and waits no more.
use Rattle.std.proofs.Common.{◌≡◌, ℕ, ◌+◌, ◌<◌, ◌≤◌, ◌==◌, ◌&&◌, ⊎_elim, not, Bool, true, false, List, ◌∷◌, length, count_by, filter, find, get_or, Option, Some, None, is_some, nat_lt, refl, ap, sym, subst, ◌∙◌, arith, eq-eqb, le-ltb, lt-ltb}
use Rattle.std.specs.List.{list_any, position}
use Rattle.std.proofs.lemmas.Bool.{cases_lt, false≢true}
use Rattle.std.proofs.lemmas.List.{get_or-map, length-map}
use Rattle.iscsi_wire.specs.declared.reply.Reply.{Reply}
use Rattle.iscsi_wire.specs.Fields.{connection_of}
use Rattle.iscsi_rules.specs.rules.Settings.{are_distinct, is_known}
use Rattle.iscsi_rules.specs.rules.Trace.{Arrival, Command as RulesCommand, Mark, held, shown, waiting}
use Rattle.iscsi_rules.proofs.general.CountLemmas.{one}
use Rattle.iscsi_rules.proofs.general.ElementLemmas.{In}
use Rattle.iscsi_rules.proofs.items.Forms.{AfterWaiting}
use Rattle.iscsi_rules.proofs.general.ListLemmas.{fewer_counted}
use Rattle.iscsi_outbox_rules.specs.rules.Boxes.{Link}
use Rattle.iscsi_outbox_rules.specs.rules.Run.{new_link}
use Rattle.iscsi_outbox_law.specs.private.Commands.{is_under_way, link_in}
use Rattle.iscsi_outbox_law.proofs.general.PairLemmas.{each-weaken}
use Rattle.iscsi_outbox_law.proofs.general.PlaceLemmas.{IsPlace, conns_of, known_any, one_place}
use Rattle.iscsi_outbox_law.proofs.connections.Standing.{cids_are, links_apart, stands_nowhere, stands_there}
use Rattle.iscsi_outbox_steps.specs.State.{Limits, State as OutboxState, place_of}
use Rattle.iscsi_requests.specs.Functions.{WaitingFunctions}
use Rattle.iscsi_requests.specs.Numbers.{size_for}
use Rattle.iscsi_requests.specs.declared.functions.WaitingFunction.{WaitingFunction}
use Rattle.iscsi_ffi_rules.specs.declared.action.Action.{Action}
use Rattle.iscsi_ffi_rules.specs.rules.Calls.{Interface}
use Rattle.iscsi_ffi_rules.specs.rules.Needs.{admitted_by, is_held, is_of_event, is_waiting}
use Rattle.iscsi_ffi_rules.specs.rules.Run.{cids}
use Rattle.iscsi_ffi_rules.specs.rules.Sides.{Side}
use Rattle.iscsi_ffi_steps.specs.State.{State}
use Rattle.iscsi_ffi_steps.specs.Walk.{executes, function_on, in_state, on_effect, reason_by, walking}
use Rattle.iscsi_ffi_law.specs.Arrived.{is_first_waiting}
use Rattle.iscsi_ffi_law.specs.Names.{Name, Note, place_named}
use Rattle.iscsi_ffi_law.specs.Parts.{AreFunctions, IsNote, IsRequest}
use Rattle.iscsi_ffi_law.specs.Uses.{count_functions, count_held, count_lists}
use Rattle.iscsi_ffi_law.proofs.arrivals.Asked.{find_nothing}
use Rattle.iscsi_ffi_law.proofs.items.Between.{IsBetween, IsFound, IsHeaded, distinct_same, held_same}
use Rattle.iscsi_ffi_law.proofs.items.Functions.{both, count_left, it_waits, left, left_are, long_left, number_found, waits_left, less_left}
use Rattle.iscsi_ffi_law.proofs.general.Members.{each_in, in_counted, in_each}
use Rattle.iscsi_ffi_law.proofs.requests.NameLemmas.{Named, found_named, place_event}
use Rattle.iscsi_ffi_law.proofs.items.Plain.{plain_item, start_effect, unheld_marks, waits_arrival}
use Rattle.iscsi_ffi_law.proofs.items.QuietItems.{IsUnheld, is_held_on}
use Rattle.iscsi_ffi_law.proofs.requests.Releases.{endings}
use Rattle.iscsi_ffi_law.proofs.arrivals.Slots.{slots_same}
use Rattle.iscsi_ffi_law.proofs.items.Walking.{walk_at, walk_in}

-- where a connection stands among the CIDs
pub record IsCid (i : Interface) (cid p : ℕ) : Type 0 where
  pub within : p < length (cids i)
  pub at : get_or (cids i) p 0 ≡ cid
  pub apart : (q : ℕ) → q < length (cids i) → get_or (cids i) q 0 ≡ cid → q ≡ p

module _ (i : Interface) (names : List Name) (notes : List Note) (s : State) (r : Side) (own : Option ℕ) (xs : List (Option ℕ)) (k : IsBetween i names notes s r own xs) (distinct : are_distinct i.outbox.session.conns ≡ true) where
  pub cids_named : conns_of r.both.box.links ≡ cids i
  cids_named = k.outbox.links.conns ∙ ap (λ (l : Limits). l.cids) k.outbox.sizes.limits

  many : length r.both.box.links ≡ length (cids i)
  many = sym (length-map r.both.box.links (λ (l : Link). l.conn)) ∙ ap length cids_named

  in_links : (q : ℕ) → q < length r.both.box.links → get_or (cids i) q 0 ≡ (link_in r.both.box.links q).conn
  in_links q inside = ap (λ cs. get_or cs q 0) (sym cids_named) ∙ get_or-map (λ (l : Link). l.conn) r.both.box.links q (new_link 0) 0 inside

  -- the connection in this place
  pub cid_at : (p : ℕ) → p < length (cids i) → IsCid i (get_or (cids i) p 0) p
  cid_at p short = record {
    within = short;
    at = refl;
    apart = λ q lt same.
        let here : p < length r.both.box.links = omega (arith, short, many) in
        let there : q < length r.both.box.links = omega (arith, lt, many) in
        one_place r.both.box.links q p (links_apart (is_under_way i.outbox r.both.box.links) i.outbox s.outbox r.both.box k.outbox distinct) there here (sym (in_links q there) ∙ same ∙ in_links p here);
  }

  pub cid_in : (cid p : ℕ) → IsCid i cid p → IsPlace r.both.box.links cid p
  cid_in cid p c = (let inside : p < length r.both.box.links = (let lt = c.within in omega (arith, lt, many)) in record { within = inside; is = sym (in_links p inside) ∙ c.at })

  pub cid_known : (cid : ℕ) → is_known cid i.outbox.session.conns ≡ true → (p : ℕ) × ((place_of s.outbox cid ≡ Some p) × IsCid i cid p)
  cid_known cid known =
      let found = by_place (place_of s.outbox cid) refl in
      let there : IsPlace r.both.box.links cid found.0 = stands_there (is_under_way i.outbox r.both.box.links) i.outbox s.outbox r.both.box k.outbox cid found.0 found.1 in
      let is : get_or (cids i) found.0 0 ≡ cid = in_links found.0 there.within ∙ there.is in
      (found.0, (found.1, subst (λ c. IsCid i c found.0) is (cid_at found.0 (let w = there.within in omega (arith, w, many)))))
    where
      by_place : (x : Option ℕ) → place_of s.outbox cid ≡ x → (p : ℕ) × (place_of s.outbox cid ≡ Some p)
      by_place (Some p) at = (p, at)
      by_place None none =
          absurd (false≢true (sym (stands_nowhere (is_under_way i.outbox r.both.box.links) i.outbox s.outbox r.both.box k.outbox cid none) ∙ ap (list_any (λ c. c == cid)) (k.outbox.links.conns ∙ cids_are (is_under_way i.outbox r.both.box.links) i.outbox s.outbox r.both.box k.outbox) ∙ sym (known_any cid i.outbox.session.conns) ∙ known))

module _ (i : Interface) (names : List Name) (notes : List Note) (s : State) (r : Side) (xs : List (Option ℕ)) (k : IsBetween i names notes s r None xs) (distinct : are_distinct i.outbox.session.conns ≡ true) (a : Arrival) (other : (a.event == r.both.event) ≡ false) (first : is_first_waiting r.both.trace a)
    (known : is_known (connection_of a.request) i.outbox.session.conns ≡ true) (void : Option ℕ) (entering : Option RulesCommand) (reply : Option Reply) where
  abbrev item : List Mark
  item = plain_item AfterWaiting a void entering reply

  place : (p : ℕ) × ((place_of s.outbox (connection_of a.request) ≡ Some p) × IsCid i (connection_of a.request) p)
  place = cid_known i names notes s r None xs k distinct (connection_of a.request) known

  once : (e : ℕ) → count_by (λ (b : Arrival). b.event == e) (waiting r.both.trace) ≤ 1
  once e = let d = k.distinct.events e in omega (arith, d)

  abbrev its : WaitingFunction
  its = (both (cids i) names notes s.functions (waiting r.both.trace) k.functions k.sizes.functions once a first place.0 place.1.1.within place.1.1.at place.1.1.apart).f

  named : place_named names a.event ≡ Some (its.request)
  named = (both (cids i) names notes s.functions (waiting r.both.trace) k.functions k.sizes.functions once a first place.0 place.1.1.within place.1.1.at place.1.1.apart).is.named

  abbrev rest : WaitingFunctions
  rest = left (cids i) names notes s.functions (waiting r.both.trace) k.functions k.sizes.functions once a first place.0 place.1.1.within place.1.1.at place.1.1.apart

  counted : (q : ℕ) → count_lists (λ (f : WaitingFunction). f.request == q) rest.waiting + one (its.request == q) ≡ count_functions q s
  counted q = count_left (cids i) names notes s.functions (waiting r.both.trace) k.functions k.sizes.functions once a first place.0 place.1.1.within place.1.1.at place.1.1.apart q

  waits : waiting (plain_item AfterWaiting a void entering reply ∷ r.both.trace) ≡ filter (λ (b : Arrival). not (b.event == a.event)) (waiting r.both.trace)
  waits = waits_arrival r.both.trace a void entering reply

  u : IsUnheld (plain_item AfterWaiting a void entering reply)
  u = let v = unheld_marks a void entering reply in record { admits = v.admits; admits_none = v.admits_none; delivers = v.delivers; empties = v.empties }

  here : one (its.request == its.request) ≡ 1
  here = ap one (eq-eqb its.request its.request refl)

  -- what waits isn't held
  unheld : count_held its.request s ≡ 0
  unheld =
      let f : Named names a.event its.request = found_named names a.event its.request named in
      let q : IsRequest s r.both.trace f.name = each_in (IsRequest s r.both.trace) names f.name f.there k.requests.named in
      let some : 1 ≤ count_by (λ (b : Arrival). b.event == a.event) (waiting r.both.trace)
      = in_counted (λ (b : Arrival). b.event == a.event) (waiting r.both.trace) a (it_waits (cids i) names notes s.functions (waiting r.both.trace) k.functions k.sizes.functions once a first place.0 place.1.1.within place.1.1.at place.1.1.apart) (eq-eqb a.event a.event refl) in
      let none_shown : count_by (λ (b : Arrival). b.event == a.event) (shown admitted_by r.both.trace) ≡ 0 = (let d = k.distinct.events a.event in omega (arith, d, some)) in
      let none_found : find (is_of_event a.event) (shown admitted_by r.both.trace) ≡ None = find_nothing (is_of_event a.event) (shown admitted_by r.both.trace) (λ b there. by_test b there none_shown (b.event == a.event) refl) in
      let not_held : is_held a.event r.both.trace ≡ false = ap (λ (x : Option Arrival). elim x as (λ (y : Option Arrival). Bool) [ Some b ↦ is_some (held r.both.trace b.number) | None ↦ false ]) none_found in
      let none : nat_lt 0 (count_held f.name.place s) ≡ false = sym q.held ∙ ap (λ e. is_held e r.both.trace) f.event_is ∙ not_held in
      ⊎_elim
      (λ more. absurd (false≢true (sym none ∙ lt-ltb 0 (count_held f.name.place s) (subst (λ p. 0 < count_held p s) (sym f.place_is) more))))
      (λ less. omega (arith, less)) (cases_lt 0 (count_held its.request s))
    where
      by_test : (b : Arrival) → In b (shown admitted_by r.both.trace) → count_by (λ (c : Arrival). c.event == a.event) (shown admitted_by r.both.trace) ≡ 0 → (v : Bool) → (b.event == a.event) ≡ v → (b.event == a.event) ≡ false
      by_test b there none false is = is
      by_test b there none true is = absurd (let some = in_counted (λ (c : Arrival). c.event == a.event) (shown admitted_by r.both.trace) b there is in let no : ⊥ = omega (arith, some, none) in no)

  still : (n : Name) → In n names → IsRequest s r.both.trace n → (v : Bool) → (a.event == n.event) ≡ v → is_waiting n.event (plain_item AfterWaiting a void entering reply ∷ r.both.trace) ≡ nat_lt 0 (count_lists (λ (f : WaitingFunction). f.request == n.place) rest.waiting)
  still n there q true is =
      let same : one (its.request == n.place) ≡ 1 = ap one (place_event names notes k.requests.apart n a.event its.request there named ∙ is) in
      ap (list_any (λ (b : Arrival). b.event == n.event)) waits
      ∙ waits_left (cids i) names notes s.functions (waiting r.both.trace) k.functions k.sizes.functions once a first place.0 place.1.1.within place.1.1.at place.1.1.apart n.event true is
      ∙ sym (le-ltb 0 (count_lists (λ (f : WaitingFunction). f.request == n.place) rest.waiting) (let o = k.functions.once n.place in omega (arith, same, o, counted n.place)))
  still n there q false is =
      let none : one (its.request == n.place) ≡ 0 = ap one (place_event names notes k.requests.apart n a.event its.request there named ∙ is) in
      let same : count_functions n.place s ≡ count_lists (λ (f : WaitingFunction). f.request == n.place) rest.waiting = omega (arith, none, counted n.place) in
      ap (list_any (λ (b : Arrival). b.event == n.event)) waits
      ∙ waits_left (cids i) names notes s.functions (waiting r.both.trace) k.functions k.sizes.functions once a first place.0 place.1.1.within place.1.1.at place.1.1.apart n.event false is
      ∙ q.waiting ∙ ap (nat_lt 0) same

  pub waited_headed : IsHeaded i names notes s r None xs (plain_item AfterWaiting a void entering reply) AfterWaiting a
  waited_headed = record {
    held = s.held;
    functions = rest;
    place = its.request;
    long = refl;
    long_functions = long_left (cids i) names notes s.functions (waiting r.both.trace) k.functions k.sizes.functions once a first place.0 place.1.1.within place.1.1.at place.1.1.apart;
    functions_are = subst (AreFunctions (cids i) names rest) (sym waits) (left_are (cids i) names notes s.functions (waiting r.both.trace) k.functions k.sizes.functions once a first place.0 place.1.1.within place.1.1.at place.1.1.apart);
    named = named;
    uses = λ p. omega (arith, counted p);
    fewer = (let less = less_left (cids i) names notes s.functions (waiting r.both.trace) k.functions k.sizes.functions once a first place.0 place.1.1.within place.1.1.at place.1.1.apart in omega (arith, less));
    requests = in_each (IsRequest (record s { functions = rest }) (plain_item AfterWaiting a void entering reply ∷ r.both.trace)) names
        (λ n there. let q : IsRequest s r.both.trace n = each_in (IsRequest s r.both.trace) names n there k.requests.named in
        record { held = is_held_on r.both.trace (plain_item AfterWaiting a void entering reply) u n.event ∙ q.held; waiting = still n there q (a.event == n.event) refl });
    noted = each-weaken (IsNote s r.both.box.links) (IsNote (record s { functions = rest }) r.both.box.links) notes (λ n q. let none = q.waiting in record { held = q.held; waiting = omega (arith, none, counted n.place); home = q.home }) k.requests.noted_apart;
    slots = slots_same (size_for i.outbox.session.window) s.commands.room names s.held r.both.trace (plain_item AfterWaiting a void entering reply ∷ r.both.trace) (held_same r.both.trace (plain_item AfterWaiting a void entering reply) u) k.slots;
    distinct = distinct_same r.both.trace (plain_item AfterWaiting a void entering reply) u
        (λ e. let same = ap (count_by (λ (x : Arrival). x.event == e)) waits in let fewer = fewer_counted (λ (x : Arrival). x.event == e) (λ (b : Arrival). not (b.event == a.event)) (waiting r.both.trace) in omega (arith, same, fewer)) k.distinct;
    fresh = ⊎_elim (λ some. absurd (let none = k.over its.request (omega (arith, some)) in let no : ⊥ = omega (arith, none, here, counted its.request) in no)) (λ few. omega (arith, few)) (cases_lt 0 (endings xs its.request));
    over = (let o = k.functions.once its.request in omega (arith, unheld, here, o, counted its.request));
    by = reason_by a.request (Some (its.request));
    why = refl;
    walk = λ o limits acts early sent late. by_first early late o limits acts sent;
  }
    where
      by_first : (early : Bool) → (early && not (a.event == r.both.event)) ≡ false → (o : OutboxState) → IsFound i o → (acts : List Action) (sent : ℕ)
          → on_effect early (start_effect AfterWaiting a.request) (walk_at o s acts xs None sent) ≡ walk_in o (record s { held = s.held; functions = rest }) acts xs (Some (its.request)) None (Some (reason_by a.request (Some (its.request)))) sent
      by_first true late o limits acts sent = absurd (false≢true (sym late ∙ ap not other))
      by_first false late o limits acts sent =
          ap (λ z. function_on a.request z (walk_at o s acts xs None sent)) (ap (λ (l : Limits). position (λ (c : ℕ). c == connection_of a.request) l.cids) (limits.limits ∙ sym k.outbox.sizes.limits) ∙ place.1.0)
          ∙ ap (λ z. executes a.request z (walking (in_state (λ t. record t { functions = rest })) (walk_at o s acts xs None sent)))
          (number_found (cids i) names notes s.functions (waiting r.both.trace) k.functions k.sizes.functions once a first place.0 place.1.1.within place.1.1.at place.1.1.apart)
