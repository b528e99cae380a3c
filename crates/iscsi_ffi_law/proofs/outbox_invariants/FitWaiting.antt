-- With an item one reply more waits at the most, where it sends one.
use Rattle.std.proofs.Common.{◌≡◌, ℕ, ◌+◌, ◌≤◌, ◌==◌, ◌||◌, cond, Bool, true, false, List, [], ◌∷◌, ◌++◌, filter_map, Option, Some, None, refl, sym, subst, ◌∙◌, arith, eq-eqb}
use Rattle.std.proofs.lemmas.Bool.{cond_both, false≢true}
use Rattle.std.proofs.lemmas.List.{append-nil, append_assoc}
use Rattle.iscsi_wire.specs.declared.reply.Reply.{Reply}
use Rattle.iscsi_wire.specs.declared.request.Request.{Request}
use Rattle.iscsi_wire.specs.Fields.{connection_of}
use Rattle.iscsi_rules.specs.declared.effect.Effect.{Effect}
use Rattle.iscsi_rules.specs.rules.Trace.{first_of}
use Rattle.iscsi_rules.proofs.general.CountLemmas.{count-cons, one}
use Rattle.iscsi_outbox_rules.specs.rules.Boxes.{Answer, Box, Link}
use Rattle.iscsi_outbox_rules.specs.rules.Calls.{Opening}
use Rattle.iscsi_outbox_rules.specs.rules.Due.{is_due, settle_from}
use Rattle.iscsi_outbox_rules.specs.rules.Items.{after_item, close, close_all, close_one, closed_in, enter_tasks, executing, in_phase, leave, newly_closed, phase_enabled, phase_taken_out, reply_sent, send, ticket_enabled, tickets_left}
use Rattle.iscsi_outbox_rules.specs.rules.Queues.{at_link, drop_on, enter}
use Rattle.iscsi_outbox_rules.specs.rules.Words.{contains, replies_waiting}
use Rattle.iscsi_outbox_rules.proofs.general.EachLemmas.{EachOf}
use Rattle.iscsi_outbox_rules.proofs.room.RoomReplies.{AreOne, Few, Quiet, few_walk}
use Rattle.iscsi_ffi_law.proofs.outbox_invariants.FitNumbers.{one_sent, sends}

module _ (o : Opening) where
  -- no reply is left out
  abbrev never : ℕ → Bool
  never c = false

  -- with so many at first
  module _ (k : ℕ) where
    -- what an item does by parts, no more wait by it than are sent
    abbrev IsFew : List (List Effect) → Box → Type 0
    IsFew items b = Few o k never items b

    settled_from : (items : List (List Effect)) (before rest : List Answer) (b : Box) → IsFew items (record b { undue = before ++ rest }) → IsFew items (settle_from o before rest b)
    settled_from items before [] b h = subst (λ u. IsFew items (record b { undue = u })) (append-nil before) h
    settled_from items before (a ∷ rest) b h =
        cond_both (is_due o b before a) (settle_from o before rest (enter a.conn a.out b)) (settle_from o (before ++ a ∷ []) rest b) (IsFew items)
        (λ due. settled_from items before rest (enter a.conn a.out b) ((few_walk o k never).moves items b before rest a due h))
        (λ undue. settled_from items (before ++ a ∷ []) rest b (subst (λ u. IsFew items (record b { undue = u })) (sym (append_assoc before (a ∷ []) rest)) h))

    left : (items : List (List Effect)) (b : Box) (r : Option Request) (tickets : List ℕ) → IsFew items b → IsFew items (leave r tickets b)
    left items b (Some r) tickets h = (few_walk o k never).drops items (in_phase phase_taken_out tickets b) (contains tickets) ((few_walk o k never).tasks items b _ h)
    left items b None tickets h = (few_walk o k never).tasks items b _ h

    entered : (items : List (List Effect)) (b : Box) (r : Option Request) (item : List Effect) → IsFew items b → IsFew items (enter_tasks r item b)
    entered items b (Some r) item h = (few_walk o k never).tasks items b _ h
    entered items b None item h = h

    -- a connection that is cut is closed
    cut_over : (conn : ℕ) (links : List Link) → EachOf (λ (l : Link). l.conn ≡ conn → (l.closed || l.lost) ≡ true) (at_link conn (λ l. record l { closed = true; cut = true }) links)
    cut_over conn [] = tt
    cut_over conn (l ∷ links) = (by_conn (l.conn == conn) refl, cut_over conn links)
      where
        by_conn : (v : Bool) → (l.conn == conn) ≡ v → let m : Link = cond v (record l { closed = true; cut = true }) l in m.conn ≡ conn → (m.closed || m.lost) ≡ true
        by_conn true is same = refl
        by_conn false is same = absurd (false≢true (sym is ∙ eq-eqb l.conn conn same))

    closed_one : (items : List (List Effect)) (b : Box) (by conn : ℕ) → IsFew items b → IsFew items (close_one by conn b)
    closed_one items b by conn h =
        let cut : Box = record b { links = at_link conn (λ l. record l { closed = true; cut = true }) b.links } in
        cond_both (conn == by) (record b { links = at_link conn (λ l. record l { closed = true }) b.links }) (drop_on conn cut) (IsFew items)
        (λ is. (few_walk o k never).closes items b conn h)
        (λ is. (few_walk o k never).drops_on items cut conn (cut_over conn b.links) ((few_walk o k never).cuts items b conn h))

    closed_all : (items : List (List Effect)) (b : Box) (by : ℕ) (conns : List ℕ) → IsFew items b → IsFew items (close_all by conns b)
    closed_all items b by [] h = h
    closed_all items b by (conn ∷ conns) h = closed_all items (close_one by conn b) by conns (closed_one items b by conn h)

    closed_by : (items : List (List Effect)) (b : Box) (r : Option Request) (conns : List ℕ) → IsFew items b → IsFew items (close r conns b)
    closed_by items b (Some r) conns h = closed_all items b (connection_of r) conns h
    closed_by items b None conns h = h

    few_item : (items : List (List Effect)) (b : Box) (item : List Effect) → IsFew items b → IsFew (items ++ item ∷ []) (after_item o b item)
    few_item items b item h =
        let r = executing item in
        let tickets = tickets_left item in
        let conns = closed_in b item in
        let closes = newly_closed b conns in
        let gone : Box = leave r tickets b in
        let here : Box = enter_tasks r item gone in
        let behind : Box = close r closes here in
        let sent : Box = send o r tickets conns closes (first_of (filter_map reply_sent item)) behind in
        let x : IsFew (items ++ item ∷ []) sent = (few_walk o k never).sends items behind item conns closes (closed_by items here r closes (entered items gone r item (left items b r tickets h))) in
        settled_from (items ++ item ∷ []) [] sent.undue (in_phase phase_enabled (filter_map ticket_enabled item) sent) ((few_walk o k never).tasks (items ++ item ∷ []) sent _ x)

  none_quiet : (k : ℕ) (links : List Link) → EachOf (Quiet o k never) links
  none_quiet k [] = tt
  none_quiet k (l ∷ links) = ((λ is. absurd (false≢true is)), none_quiet k links)

  pub record IsWaiting (b b' : Box) (more : ℕ) : Type 0 where
    pub alone : AreOne b'.links
    pub few : replies_waiting b' ≤ replies_waiting b + more

  pub item_waiting : (b : Box) (item : List Effect) → AreOne b.links → IsWaiting b (after_item o b item) (sends item)
  item_waiting b item alone =
      let w : ℕ = replies_waiting b in
      let f : Few o w never (item ∷ []) (after_item o b item) = few_item w [] b item (record { alone = alone; quiet_are = none_quiet w b.links; few = omega arith }) in
      let one_item = count-cons (λ (es : List Effect). elim (first_of (filter_map reply_sent es)) [ Some sent ↦ true | None ↦ false ]) item [] in
      record { alone = f.alone; few = omega (arith, f.few, one_item, by_reply (first_of (filter_map reply_sent item))) }
    where
      by_reply : (x : Option (ℕ × Reply)) → one (elim x [ Some sent ↦ true | None ↦ false ]) ≡ one_sent x
      by_reply (Some sent) = refl
      by_reply None = refl
