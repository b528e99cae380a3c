-- What each step of an event keeps, the event keeps.
use Rattle.std.proofs.Common.{refl, ◌≡◌, ℕ, ◌==◌, Bool, true, List, [], ◌∷◌, ◌++◌, filter_map, Option, Some, None, sym, subst}
use Rattle.std.proofs.lemmas.Bool.{cond_both, eqb-false}
use Rattle.std.proofs.Common.{◌||◌}
use Rattle.iscsi_outbox_rules.proofs.general.EachLemmas.{EachOf, each-at_link}
use Rattle.std.proofs.lemmas.List.{append_assoc, append-nil}
use Rattle.iscsi_wire.specs.Fields.{connection_of}
use Rattle.iscsi_wire.specs.Serial.{lift}
use Rattle.iscsi_wire.specs.declared.request.Request.{Request}
use Rattle.iscsi_rules.specs.declared.effect.Effect.{Effect}
use Rattle.iscsi_rules.specs.declared.effect.Numbers.{Numbers}
use Rattle.iscsi_rules.specs.rules.Trace.{first_of}
use Rattle.iscsi_rules.specs.promises.Order.{in_parts}
use Rattle.iscsi_outbox_rules.specs.rules.Calls.{Opening}
use Rattle.iscsi_outbox_rules.specs.rules.Boxes.{Task, Answer, Box, Link}
use Rattle.iscsi_outbox_rules.specs.rules.Words.{contains}
use Rattle.iscsi_outbox_rules.specs.rules.Queues.{at_link, enter, drop_of, drop_on}
use Rattle.iscsi_outbox_rules.specs.rules.Due.{is_due, settle_from, settle}
use Rattle.iscsi_outbox_rules.specs.rules.Items.{executing, tickets_left, ticket_enabled, reply_sent, closed_in, newly_closed, phase_taken_out, phase_enabled, in_phase, leave, enter_tasks, close_one, close_all, close, send, after_item, after_items, after_event}

-- a connection with this CID was closed or lost
abbrev pub IsOver : ℕ → Link → Type 0
IsOver conn l = l.conn ≡ conn → (l.closed || l.lost) ≡ true

any : (links : List Link) → EachOf (λ (l : Link). Unit {0}) links
any [] = tt
any (l ∷ links) = (tt, any links)

pub over_after : (conn : ℕ) (change : Link → Link) → ((l : Link) → ((change l).closed || (change l).lost) ≡ true) → (links : List Link) → EachOf (IsOver conn) (at_link conn change links)
over_after conn change over links =
    each-at_link (λ (l : Link). Unit {0}) (IsOver conn) conn change links (λ l is k same. over l) (λ l isnt k same. absurd (eqb-false l.conn conn isnt same)) (any links)

pub record Walk (o : Opening) (I : List (List Effect) → Box → Type 0) : Type 0 where
  pub tasks : (items : List (List Effect)) (b : Box) (ts : List Task) → I items b → I items (record b { tasks = ts })
  pub drops : (items : List (List Effect)) (b : Box) (these : ℕ → Bool) → I items b → I items (drop_of these b)
  pub closes : (items : List (List Effect)) (b : Box) (conn : ℕ) → I items b → I items (record b { links = at_link conn (λ l. record l { closed = true }) b.links })
  pub cuts : (items : List (List Effect)) (b : Box) (conn : ℕ) → I items b → I items (record b { links = at_link conn (λ l. record l { closed = true; cut = true }) b.links })
  pub drops_on : (items : List (List Effect)) (b : Box) (conn : ℕ) → EachOf (IsOver conn) b.links → I items b → I items (drop_on conn b)
  pub moves : (items : List (List Effect)) (b : Box) (before rest : List Answer) (a : Answer) → is_due o b before a ≡ true → I items (record b { undue = before ++ a ∷ rest }) → I items (enter a.conn a.out (record b { undue = before ++ rest }))
  pub sends : (items : List (List Effect)) (b : Box) (item : List Effect) (conns closes : List ℕ) → I items b
      → I (items ++ item ∷ []) (send o (executing item) (tickets_left item) conns closes (first_of (filter_map reply_sent item)) b)

settles_from : (o : Opening) (I : List (List Effect) → Box → Type 0) (w : Walk o I) (items : List (List Effect)) (before rest : List Answer) (b : Box) → I items (record b { undue = before ++ rest }) → I items (settle_from o before rest b)
settles_from o I w items before [] b h = subst (λ u. I items (record b { undue = u })) (append-nil before) h
settles_from o I w items before (a ∷ rest) b h =
    cond_both (is_due o b before a) (settle_from o before rest (enter a.conn a.out b)) (settle_from o (before ++ a ∷ []) rest b) (I items)
    (λ due. settles_from o I w items before rest (enter a.conn a.out b) (w.moves items b before rest a due h))
    (λ undue. settles_from o I w items (before ++ a ∷ []) rest b (subst (λ u. I items (record b { undue = u })) (sym (append_assoc before (a ∷ []) rest)) h))

pub settles : (o : Opening) (I : List (List Effect) → Box → Type 0) (w : Walk o I) (items : List (List Effect)) (b : Box) → I items b → I items (settle o b)
settles o I w items b h = settles_from o I w items [] b.undue b h

leaves : (o : Opening) (I : List (List Effect) → Box → Type 0) (w : Walk o I) (items : List (List Effect)) (b : Box) (r : Option Request) (tickets : List ℕ) → I items b → I items (leave r tickets b)
leaves o I w items b (Some r) tickets h = w.drops items (in_phase phase_taken_out tickets b) (contains tickets) (w.tasks items b _ h)
leaves o I w items b None tickets h = w.tasks items b _ h

enters_tasks : (o : Opening) (I : List (List Effect) → Box → Type 0) (w : Walk o I) (items : List (List Effect)) (b : Box) (r : Option Request) (item : List Effect) → I items b → I items (enter_tasks r item b)
enters_tasks o I w items b (Some r) item h = w.tasks items b _ h
enters_tasks o I w items b None item h = h

closes_one : (o : Opening) (I : List (List Effect) → Box → Type 0) (w : Walk o I) (items : List (List Effect)) (b : Box) (by conn : ℕ) → I items b → I items (close_one by conn b)
closes_one o I w items b by conn h =
    cond_both (conn == by) (record b { links = at_link conn (λ l. record l { closed = true }) b.links }) (drop_on conn (record b { links = at_link conn (λ l. record l { closed = true; cut = true }) b.links })) (I items)
    (λ is. w.closes items b conn h)
    (λ is. w.drops_on items (record b { links = at_link conn (λ l. record l { closed = true; cut = true }) b.links }) conn (over_after conn (λ l. record l { closed = true; cut = true }) (λ l. refl) b.links) (w.cuts items b conn h))

closes_all : (o : Opening) (I : List (List Effect) → Box → Type 0) (w : Walk o I) (items : List (List Effect)) (b : Box) (by : ℕ) (conns : List ℕ) → I items b → I items (close_all by conns b)
closes_all o I w items b by [] h = h
closes_all o I w items b by (conn ∷ conns) h = closes_all o I w items (close_one by conn b) by conns (closes_one o I w items b by conn h)

closes_by : (o : Opening) (I : List (List Effect) → Box → Type 0) (w : Walk o I) (items : List (List Effect)) (b : Box) (r : Option Request) (conns : List ℕ) → I items b → I items (close r conns b)
closes_by o I w items b (Some r) conns h = closes_all o I w items b (connection_of r) conns h
closes_by o I w items b None conns h = h

pub item_keeps : (o : Opening) (I : List (List Effect) → Box → Type 0) (w : Walk o I) (items : List (List Effect)) (b : Box) (item : List Effect) → I items b → I (items ++ item ∷ []) (after_item o b item)
item_keeps o I w items b item h =
    let r = executing item in
    let tickets = tickets_left item in
    let conns = closed_in b item in
    let closes = newly_closed b conns in
    let left : Box = leave r tickets b in
    let entered : Box = enter_tasks r item left in
    let closed : Box = close r closes entered in
    let sent : Box = send o r tickets conns closes (first_of (filter_map reply_sent item)) closed in
    let k : I (items ++ item ∷ []) sent = w.sends items closed item conns closes (closes_by o I w items entered r closes (enters_tasks o I w items left r item (leaves o I w items b r tickets h))) in
    settles o I w (items ++ item ∷ []) (in_phase phase_enabled (filter_map ticket_enabled item) sent) (w.tasks (items ++ item ∷ []) sent _ k)

pub items_keep : (o : Opening) (I : List (List Effect) → Box → Type 0) (w : Walk o I) (items : List (List Effect)) (b : Box) (more : List (List Effect)) → I items b → I (items ++ more) (after_items o b more)
items_keep o I w items b [] h = subst (λ its. I its b) (sym (append-nil items)) h
items_keep o I w items b (item ∷ more) h =
    subst (λ its. I its (after_items o (after_item o b item) more)) (append_assoc items (item ∷ []) more)
    (items_keep o I w (items ++ item ∷ []) (after_item o b item) more (item_keeps o I w items b item h))

pub event_keeps : (o : Opening) (I : List (List Effect) → Box → Type 0) (w : Walk o I) → ((items : List (List Effect)) (b : Box) (exp max : ℕ) → I items b → I items (record b { exp = exp; max = max }))
    → (items : List (List Effect)) (b : Box) (effects : List Effect) (numbers : Numbers) → I items b → I (items ++ in_parts effects) (after_event o b effects numbers)
event_keeps o I w numbered items b effects numbers h =
    let b' : Box = after_items o b (in_parts effects) in
    numbered (items ++ in_parts effects) _ numbers.exp (lift b'.max numbers.max) (w.tasks (items ++ in_parts effects) b' _ (items_keep o I w items b (in_parts effects) h))
