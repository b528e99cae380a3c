-- A request is taken: it has a place and a word, and one use that isn't any yet.
use Rattle.std.proofs.Common.{◌≡◌, ℕ, zero, suc, ◌+◌, ◌<◌, ◌≤◌, ◌==◌, ◌&&◌, ◌||◌, cond, inl, inr, nat_lt, Bool, true, false, List, [], ◌∷◌, ◌++◌, map, count_by, filter, find, Option, Some, None, option_map, is_some, refl, ap, sym, subst, ◌∙◌, arith, le-ltb, ne_eqb}
use Rattle.std.specs.List.{list_any}
use Rattle.std.proofs.lemmas.Bool.{eqb-true, false≢true}
use Rattle.std.proofs.lemmas.List.Sums.{sum_by-append}
use Rattle.iscsi_rules.specs.rules.Trace.{Arrival, Command as RulesCommand, Trace, entered as entered_commands, held as held_there, shown, waiting}
use Rattle.iscsi_rules.proofs.general.CountLemmas.{one, count-cons}
use Rattle.iscsi_rules.proofs.general.ElementLemmas.{In}
use Rattle.iscsi_outbox_rules.specs.promises.Scope.{nth}
use Rattle.iscsi_outbox_rules.specs.rules.Boxes.{Outgoing}
use Rattle.iscsi_outbox_law.specs.private.Commands.{link_in}
use Rattle.iscsi_outbox_law.specs.private.Pairs.{EachOf, PairsOf}
use Rattle.iscsi_outbox_law.proofs.general.PairLemmas.{each-append, each-weaken, pairs-weaken}
use Rattle.iscsi_requests.specs.Conns.{of_conn}
use Rattle.iscsi_requests.specs.Cookies.{entered, next_place}
use Rattle.iscsi_requests.specs.declared.replies.WaitingReply.{WaitingReply}
use Rattle.iscsi_ffi_rules.specs.rules.Needs.{admitted_by, is_about, is_held, is_of_event as is_of_event_there, is_ticket_of, is_waiting, left_to_write}
use Rattle.iscsi_ffi_rules.specs.rules.Sides.{Asked, Side}
use Rattle.iscsi_ffi_steps.specs.State.{State}
use Rattle.iscsi_ffi_law.specs.Arrived.{AreBefore}
use Rattle.iscsi_ffi_law.specs.Names.{Name, Note, asked_of, is_of_event, place_named}
use Rattle.iscsi_ffi_law.specs.Parts.{AreApart, IsAbout, IsAnswered, IsAtEvent, IsCommand, IsConn, IsKnownOut, IsLiveNamed, IsNamedEvent, IsNote, IsOfCommand, IsOfReply, IsRequest, IsUndue, is_named}
use Rattle.iscsi_ffi_law.specs.Stands.{AreRequests}
use Rattle.iscsi_ffi_law.specs.Uses.{count_functions, count_held, is_place, uses_of}
use Rattle.iscsi_ffi_law.proofs.requests.Cookies.{counted_entered, fresh, none_used, uses_entered, words_entered}
use Rattle.iscsi_ffi_law.proofs.requests.Kept.{count_nothing, filter_members}
use Rattle.iscsi_ffi_law.proofs.general.Lists.{lists_at}
use Rattle.iscsi_ffi_law.proofs.general.Members.{each_in, in_counted}
use Rattle.iscsi_ffi_law.proofs.requests.Releasing.{ending}
use Rattle.iscsi_ffi_law.proofs.general.Words.{words_kept}

-- ---- lists in which nothing passes

pub find_nothing : {A : Type 0} (p : A → Bool) (xs : List A) → ((x : A) → In x xs → p x ≡ false) → find p xs ≡ None
find_nothing p [] none = refl
find_nothing p (x ∷ xs) none = ap (λ v. cond v (Some x) (find p xs)) (none x (inl refl)) ∙ find_nothing p xs (λ y there. none y (inr there))

pub any_nothing : {A : Type 0} (p : A → Bool) (xs : List A) → ((x : A) → In x xs → p x ≡ false) → list_any p xs ≡ false
any_nothing p [] none = refl
any_nothing p (x ∷ xs) none = ap (λ v. v || list_any p xs) (none x (inl refl)) ∙ any_nothing p xs (λ y there. none y (inr there))

nth_each : {A : Type 0} (P : A → Type 0) (k : ℕ) (xs : List A) (x : A) → EachOf P xs → nth k xs ≡ Some x → P x
nth_each P k [] x each is = absurd cc
nth_each P zero (y ∷ xs) x each is = let same : y ≡ x = cc in subst P same each.0
nth_each P (suc k) (y ∷ xs) x each is = nth_each P k xs x each.1 is

pub each_back : {A B : Type 0} (f : A → B) (P : B → Type 0) (xs : List A) → EachOf P (map f xs) → EachOf (λ (x : A). P (f x)) xs
each_back f P [] each = tt
each_back f P (x ∷ xs) each = (each.0, each_back f P xs each.1)

find_more : {A : Type 0} (p : A → Bool) (xs : List A) (y : A) → p y ≡ false → find p (xs ++ y ∷ []) ≡ find p xs
find_more p [] y isnt = ap (λ v. cond v (Some y) None) isnt
find_more p (x ∷ xs) y isnt = ap (λ z. cond (p x) (Some x) z) (find_more p xs y isnt)

pub find_still : {A : Type 0} (p : A → Bool) (xs : List A) (y x : A) → find p xs ≡ Some x → find p (xs ++ y ∷ []) ≡ Some x
find_still p [] y x is = absurd cc
find_still p (z ∷ xs) y x is = by_test (find_still p xs y x) (p z) is
  where
    by_test : (find p xs ≡ Some x → find p (xs ++ y ∷ []) ≡ Some x) → (v : Bool) → cond v (Some z) (find p xs) ≡ Some x → cond v (Some z) (find p (xs ++ y ∷ [])) ≡ Some x
    by_test rest true k = k
    by_test rest false k = rest k

map_push : {A B : Type 0} (f : A → B) (xs : List A) (x : A) → map f (xs ++ x ∷ []) ≡ map f xs ++ f x ∷ []
map_push f [] x = refl
map_push f (y ∷ xs) x = ap (λ zs. f y ∷ zs) (map_push f xs x)

-- ---- one name more

module _ (names : List Name) (n : Name) where
  pub named_still : (event place : ℕ) → place_named names event ≡ Some place → place_named (names ++ n ∷ []) event ≡ Some place
  named_still event place is = by_found (find (is_of_event event) names) refl is
    where
      by_found : (x : Option Name) → find (is_of_event event) names ≡ x → option_map (λ (m : Name). m.place) x ≡ Some place → place_named (names ++ n ∷ []) event ≡ Some place
      by_found None found k = absurd cc
      by_found (Some m) found k = ap (option_map (λ (x : Name). x.place)) (find_still (is_of_event event) names n m found) ∙ k

  some_still : (event : ℕ) → is_some (place_named names event) ≡ true → is_some (place_named (names ++ n ∷ []) event) ≡ true
  some_still event some = by_place (place_named names event) refl some
    where
      by_place : (x : Option ℕ) → place_named names event ≡ x → is_some x ≡ true → is_some (place_named (names ++ n ∷ []) event) ≡ true
      by_place None is k = absurd (false≢true k)
      by_place (Some place) is k = ap is_some (named_still event place is)

  event_still : (x : Option ℕ) → IsNamedEvent names x → IsNamedEvent (names ++ n ∷ []) x
  event_still None k = k
  event_still (Some event) k = some_still event k

  at_still : (request : ℕ) (x : Option ℕ) → IsAtEvent names request x → IsAtEvent (names ++ n ∷ []) request x
  at_still request None k = k
  at_still request (Some event) k = named_still event request k

  reply_still : (answers : List ℕ) (sent : Option ℕ) → IsOfReply names answers sent → IsOfReply (names ++ n ∷ []) answers sent
  reply_still answers None k = k
  reply_still answers (Some place) k = event_still (nth place answers) k

  command_still : (t : Trace) (ticket : Option ℕ) → IsOfCommand names t ticket → IsOfCommand (names ++ n ∷ []) t ticket
  command_still t None k = k
  command_still t (Some ticket) k = (k.0, k.1, some_still k.0.arrival.event k.2)

  known_still : (t : Trace) (answers : List ℕ) (out : Outgoing) → IsKnownOut names t answers out → IsKnownOut (names ++ n ∷ []) t answers out
  known_still t answers out k = record { of_reply = reply_still answers out.sent k.of_reply; of_command = command_still t out.ticket k.of_command; same = k.same; own = k.own }

  count_names : (test : Name → Bool) → count_by test (names ++ n ∷ []) ≡ count_by test names + one (test n)
  count_names test = omega (arith, sum_by-append (λ (m : Name). cond (test m) 1 0) names (n ∷ []), count-cons test n [])

-- ---- all of it

module _ (names : List Name) (notes : List Note) (s : State) (r : Side) (a : AreRequests names notes (λ place. 0) (λ p. []) s r) (before : AreBefore r) (place cookie : ℕ) (free : next_place s.cookies ≡ Some place) where
  abbrev pub new_name : Name
  new_name = record { place = place; event = r.both.event; cookie = cookie }

  abbrev pub names_asked : List Name
  names_asked = names ++ record { place = place; event = r.both.event; cookie = cookie } ∷ []

  abbrev pub state_asked : State
  state_asked = record s { cookies = entered cookie place s.cookies }

  abbrev pub side_asked : Side
  side_asked = record r { asked = r.asked ++ record { event = r.both.event; cookie = cookie } ∷ [] }

  unused : uses_of place s ≡ 0
  unused = omega (arith, a.uses place, none_used s.cookies a.counted place cookie free)

  none_named : count_by (λ (n : Name). n.place == place) names + count_by (λ (n : Note). n.place == place) notes ≡ 0
  none_named =
      let all = words_kept names notes s.cookies a.kept (λ p k. p == place) in
      omega (arith, all, fresh s.cookies a.counted place cookie free)

  other_event : (e : ℕ) → e < r.both.event → (r.both.event == e) ≡ false
  other_event e lt = ne_eqb r.both.event e (λ same. let none : ⊥ = omega (arith, same, lt) in none)

  other_turned : (e : ℕ) → e < r.both.event → (e == r.both.event) ≡ false
  other_turned e lt = ne_eqb e r.both.event (λ same. let none : ⊥ = omega (arith, same, lt) in none)

  events_below : EachOf (λ (n : Name). n.event < r.both.event) names
  events_below = each_back asked_of (λ (x : Asked). x.event < r.both.event) names (subst (EachOf (λ (x : Asked). x.event < r.both.event)) (sym a.asked) before.asked)

  apart_asked : AreApart names_asked notes
  apart_asked = record { places = λ other. by_place other (place == other) refl; events = λ e. by_event e (r.both.event == e) refl }
    where
      by_place : (other : ℕ) (v : Bool) → (place == other) ≡ v → count_by (λ (n : Name). n.place == other) names_asked + count_by (λ (n : Note). n.place == other) notes ≤ 1
      by_place other true same =
          let more : one (place == other) ≡ 1 = ap one same in
          let none : count_by (λ (n : Name). n.place == other) names + count_by (λ (n : Note). n.place == other) notes ≡ 0
          = subst (λ o. count_by (λ (n : Name). n.place == o) names + count_by (λ (n : Note). n.place == o) notes ≡ 0) (eqb-true place other same) none_named in
          omega (arith, more, none, count_names names new_name (λ (n : Name). n.place == other))
      by_place other false same = let none : one (place == other) ≡ 0 = ap one same in omega (arith, none, count_names names new_name (λ (n : Name). n.place == other), a.apart.places other)

      by_event : (e : ℕ) (v : Bool) → (r.both.event == e) ≡ v → count_by (λ (n : Name). n.event == e) names_asked ≤ 1
      by_event e true same =
          let more : one (r.both.event == e) ≡ 1 = ap one same in
          let none : count_by (λ (n : Name). n.event == e) names ≡ 0 = count_nothing (λ (n : Name). n.event == e) names (λ n there.
          let below : n.event < r.both.event = each_in (λ (m : Name). m.event < r.both.event) names n there events_below in
          let at : r.both.event ≡ e = eqb-true r.both.event e same in
          ne_eqb n.event e (λ is. let none : ⊥ = omega (arith, below, at, is) in none)) in
          omega (arith, more, none, count_names names new_name (λ (n : Name). n.event == e))
      by_event e false same = let none : one (r.both.event == e) ≡ 0 = ap one same in omega (arith, none, count_names names new_name (λ (n : Name). n.event == e), a.apart.events e)

  -- the session has nothing of it yet
  not_held : is_held r.both.event r.both.trace ≡ false
  not_held =
      ap (λ (x : Option Arrival). elim x as (λ (y : Option Arrival). Bool) [ Some b ↦ is_some (held_there r.both.trace b.number) | None ↦ false ])
      (find_nothing (is_of_event_there r.both.event) (shown admitted_by r.both.trace) (λ b there. other_turned b.event (each_in (λ (x : Arrival). x.event < r.both.event) (shown admitted_by r.both.trace) b there before.admitted)))

  not_waiting : is_waiting r.both.event r.both.trace ≡ false
  not_waiting = any_nothing (is_of_event_there r.both.event) (waiting r.both.trace) (λ b there. other_turned b.event (each_in (λ (x : Arrival). x.event < r.both.event) (waiting r.both.trace) b there before.waiting))

  not_about : (out : Outgoing) → is_about r.both.event r out ≡ false
  not_about out =
      ap (λ v. v || elim (out.ticket) as (λ (y : Option ℕ). Bool) [ Some k ↦ is_ticket_of r.both.event r.both.trace k | None ↦ false ]) (by_sent out.sent) ∙ by_ticket out.ticket
    where
      by_answer : (x : Option ℕ) → ((e : ℕ) → x ≡ Some e → e < r.both.event) → ◌≡◌ {A = Bool} (elim x [ Some e ↦ e == r.both.event | None ↦ false ]) false
      by_answer None below = refl
      by_answer (Some e) below = other_turned e (below e refl)

      by_sent : (x : Option ℕ) → ◌≡◌ {A = Bool} (elim x [ Some k ↦ elim (nth k r.answers) [ Some e ↦ e == r.both.event | None ↦ false ] | None ↦ false ]) false
      by_sent None = refl
      by_sent (Some k) = by_answer (nth k r.answers) (λ e is. nth_each (λ (x : ℕ). x < r.both.event) k r.answers e before.answers is)

      by_ticket : (x : Option ℕ) → ◌≡◌ {A = Bool} (elim x [ Some k ↦ is_ticket_of r.both.event r.both.trace k | None ↦ false ]) false
      by_ticket None = refl
      by_ticket (Some k) = any_nothing (λ (c : RulesCommand). is_of_event_there r.both.event c.arrival && c.ticket == k) (entered_commands r.both.trace)
          (λ c there. ap (λ v. v && c.ticket == k) (other_turned c.arrival.event (each_in (λ (x : RulesCommand). x.arrival.event < r.both.event) (entered_commands r.both.trace) c there before.entered)))

  not_written : (q : ℕ) (x : Option ℕ) → In x (of_conn q s.unwritten.handed) → is_place place x ≡ false
  not_written q x there = by_test (is_place place x) refl
    where
      by_test : (v : Bool) → is_place place x ≡ v → v ≡ false
      by_test false same = refl
      by_test true same = absurd (let some = in_counted (is_place place) (of_conn q s.unwritten.handed) x there same in let all = lists_at (is_place place) s.unwritten.handed q in let none : ⊥ = omega (arith, some, all, unused) in none)

  pairs_inside : {A B : Type 0} (R S : A → B → Type 0) (xs : List A) (ys : List B) → ((x : A) (y : B) → In x xs → R x y → S x y) → PairsOf R xs ys → PairsOf S xs ys
  pairs_inside R S [] [] f k = tt
  pairs_inside R S (x ∷ xs) (y ∷ ys) f k = (f x y (inl refl) k.0, pairs_inside R S xs ys (λ b c there. f b c (inr there)) k.1)
  pairs_inside R S [] (y ∷ ys) f k = absurd k
  pairs_inside R S (x ∷ xs) [] f k = absurd k

  named_same : (d : RulesCommand) → In d (entered_commands r.both.trace) → is_named names_asked d ≡ is_named names d
  named_same d there =
      ap (λ (x : Option Name). is_some (option_map (λ (n : Name). n.place) x))
      (find_more (is_of_event d.arrival.event) names new_name (other_event d.arrival.event (each_in (λ (x : RulesCommand). x.arrival.event < r.both.event) (entered_commands r.both.trace) d there before.entered)))

  nowhere : (n : ℕ) → n ≤ 0 → nat_lt 0 n ≡ false
  nowhere n few = le-ltb 0 n few

  pub requests_asked : AreRequests names_asked notes (ending (Some place)) (λ q. []) state_asked side_asked
  requests_asked = record {
    asked = map_push asked_of names new_name ∙ ap (λ xs. xs ++ record { event = r.both.event; cookie = cookie } ∷ []) a.asked;
    noted = a.noted;
    apart = apart_asked;
    kept = λ p k. omega (arith, words_entered s.cookies a.counted place cookie free p k, a.kept p k, count_names names new_name (λ (n : Name). n.place == p && n.cookie == k));
    counted = counted_entered s.cookies a.counted place cookie free;
    uses = λ p. omega (arith, uses_entered s.cookies a.counted place cookie free p, a.uses p);
    named = each-append (IsRequest state_asked r.both.trace) names (new_name ∷ []) (each-weaken (IsRequest s r.both.trace) (IsRequest state_asked r.both.trace) names (λ n q. record { held = q.held; waiting = q.waiting }) a.named) (
      record {
        held = not_held ∙ sym (nowhere (count_held place s) (omega (arith, unused)));
        waiting = not_waiting ∙ sym (nowhere (count_functions place s) (omega (arith, unused)));
      },
      tt,
    );
    noted_apart = each-weaken (IsNote s r.both.box.links) (IsNote state_asked r.both.box.links) notes (λ n q. record { held = q.held; waiting = q.waiting; home = q.home }) a.noted_apart;
    tickets = a.tickets;
    commands = subst (PairsOf (IsCommand names_asked side_asked) s.commands.items) (sym (filter_members (is_named names_asked) (is_named names) (entered_commands r.both.trace) named_same))
        (pairs-weaken (IsCommand names r) (IsCommand names_asked side_asked) s.commands.items (filter (is_named names) (entered_commands r.both.trace))
        (λ c d k. record { ticket = k.ticket; unit = k.unit; attr = k.attr; request = named_still names new_name d.arrival.event c.request k.request; live = k.live; going = k.going; marked = k.marked; freed = k.freed }) a.commands);
    live_named = each-weaken (IsLiveNamed names r.both.trace) (IsLiveNamed names_asked r.both.trace) (entered_commands r.both.trace) (λ d k lives. some_still names new_name d.arrival.event (k lives)) a.live_named;
    one_use = a.one_use;
    numbered = a.numbered;
    answers = a.answers;
    once = a.once;
    last = a.last;
    conns = λ q within.
        let c : IsConn names notes [] s r q (link_in r.both.box.links q) = a.conns q within in
        record {
          replies = each-weaken (λ (x : WaitingReply). IsAnswered names r.answers x.log_place x.request) (λ (x : WaitingReply). IsAnswered names_asked r.answers x.log_place x.request) (of_conn q s.replies.waiting)
              (λ x k. at_still names new_name x.request (nth x.log_place r.answers) k) c.replies;
          queued = record {
            sent = c.queued.sent;
            noting = c.queued.noting;
            known = each-weaken (IsKnownOut names r.both.trace r.answers) (IsKnownOut names_asked r.both.trace r.answers) (link_in r.both.box.links q).queue (λ out k. known_still names new_name r.both.trace r.answers out k) c.queued.known;
            covered = c.queued.covered;
          };
          written = pairs_inside (IsAbout names notes r (link_in r.both.box.links q).conn) (IsAbout names_asked notes side_asked (link_in r.both.box.links q).conn) (of_conn q s.unwritten.handed) (left_to_write (link_in r.both.box.links q))
              (λ x y there k. record {
                named = each-append (λ (n : Name). is_about n.event r y.out ≡ is_place n.place x) names (new_name ∷ []) k.named (not_about y.out ∙ sym (not_written q x there), tt);
                noted = k.noted;
              }) c.written;
          noted = c.noted;
        };
    undue = each-weaken (IsUndue names r.answers) (IsUndue names_asked r.answers) r.both.box.undue (λ x k. record { own = k.own; reply = k.reply; ticket = k.ticket; of_reply = reply_still names new_name r.answers x.out.sent k.of_reply }) a.undue;
  }
