-- What was taken of a command's own PDUs, and didn't go out, waits on its connection, while no abort or Logout takes it out
-- and the connection isn't lost or closed from elsewhere; and none waits behind its response. So it stays through the items
-- of an event.
use Rattle.std.proofs.Common.{◌≡◌, ℕ, inl, ◌==◌, ◌+◌, ◌&&◌, not, Bool, true, false, List, [], ◌∷◌, ◌++◌, filter, filter_map, Option, Some, None, refl, ap, sym, ◌∙◌}
use Rattle.std.specs.List.{list_any}
use Rattle.std.proofs.lemmas.Bool.{cond_both, false≢true, eqb-false}
use Rattle.iscsi_wire.specs.Fields.{connection_of}
use Rattle.iscsi_wire.specs.declared.reply.Reply.{Reply}
use Rattle.iscsi_wire.specs.declared.request.Request.{Request}
use Rattle.iscsi_rules.specs.declared.effect.Effect.{Effect}
use Rattle.iscsi_rules.specs.declared.effect.Numbers.{Numbers}
use Rattle.iscsi_rules.specs.rules.Trace.{first_of}
use Rattle.iscsi_rules.specs.promises.Order.{in_parts}
use Rattle.iscsi_rules.proofs.general.BoolLemmas.{and_both, and_parts, and_second}
use Rattle.iscsi_outbox_rules.specs.declared.own_pdu.OwnPdu.{OwnPdu}
use Rattle.iscsi_outbox_rules.specs.rules.Calls.{Opening}
use Rattle.iscsi_outbox_rules.specs.rules.Boxes.{Outgoing, Aim, Answer, Link, Box}
use Rattle.iscsi_outbox_rules.specs.rules.Words.{contains, is_of}
use Rattle.iscsi_outbox_rules.specs.rules.Queues.{at_link, takes_more, append, enter, without, emptied, drop_on}
use Rattle.iscsi_outbox_rules.specs.rules.Due.{is_due, settle_from, settle}
use Rattle.iscsi_outbox_rules.specs.rules.Items.{executing, tickets_left, ticket_enabled, reply_sent, closed_in, newly_closed, phase_enabled, in_phase, leave, enter_tasks, close_one, close_all, close, outgoing, answer, send_as, aim, send, after_item, after_items, after_event}
use Rattle.iscsi_outbox_rules.specs.rules.Run.{link_lost}
use Rattle.iscsi_outbox_rules.specs.promises.Scope.{is_taken_out_in}
use Rattle.iscsi_outbox_rules.proofs.general.EachLemmas.{EachOf, each-append, each-at_link, each-filter, each-map}
use Rattle.iscsi_outbox_rules.proofs.commands.CommandRuns.{own_in, own_waiting, OwnEntry, dropped_others, waiting-push}
use Rattle.iscsi_outbox_rules.proofs.commands.LeftRuns.{fewer}
use Rattle.iscsi_outbox_rules.proofs.commands.TaskLives.{taken_by}

-- neither lost nor closed from elsewhere
abbrev pub is_kept : Link → Bool
is_kept l = not l.lost && not l.cut

pub kept : (l : Link) → takes_more l ≡ true → is_kept l ≡ true
kept l more = let parts = and_parts (l.joined && not l.lost) (not l.cut) more in and_both (not l.lost) (not l.cut) (and_second l.joined (not l.lost) parts.0) parts.1

module _ (t c : ℕ) where
  -- behind a reply of the command none of its own PDUs waits
  abbrev pub Behind : List Outgoing → Type 0
  Behind [] = Unit {0}
  Behind (x ∷ queue) = ((place : ℕ) → x.sent ≡ Some place → x.ticket ≡ Some t → own_waiting t c queue ≡ []) × Behind queue

  behind-push : (queue : List Outgoing) (out : Outgoing) → own_in t c out ≡ [] → Behind queue → Behind (queue ++ out ∷ [])
  behind-push [] out none h = ((λ place sent ticket. refl), tt)
  behind-push (x ∷ queue) out none h = ((λ place sent ticket. waiting-push t c queue out none ∙ h.0 place sent ticket), behind-push queue out none h.1)

  behind-filter : (p : Outgoing → Bool) (queue : List Outgoing) → Behind queue → Behind (filter p queue)
  behind-filter p [] h = tt
  behind-filter p (x ∷ queue) h =
      cond_both (p x) (x ∷ filter p queue) (filter p queue) Behind (λ is. ((λ place sent ticket. fewer t c p queue (h.0 place sent ticket)), behind-filter p queue h.1)) (λ is. behind-filter p queue h.1)

  abbrev pub NoneDue : List Answer → Type 0
  NoneDue answers = EachOf (λ (a : Answer). own_in t c a.out ≡ []) answers

  -- these own PDUs of the command went out, and these were taken
  module _ (handed taken : List OwnPdu) where
    pub record Flows (l : Link) : Type 0 where
      pub whole : l.conn ≡ c → is_kept l ≡ true → handed ++ own_waiting t c l.queue ≡ taken
      pub gone : is_kept l ≡ false → l.queue ≡ []
      pub entries : EachOf (OwnEntry t c l.conn) l.queue
      pub behind : Behind l.queue

    pub record FlowsIn (b : Box) : Type 0 where
      pub links : EachOf Flows b.links
      pub undue : NoneDue b.undue

    -- ---- one connection

    flows_append : (out : Outgoing) (l : Link) → own_in t c out ≡ [] → Flows l → Flows (append out l)
    flows_append out l none h =
        cond_both (takes_more l) (record l { queue = l.queue ++ out ∷ [] }) l Flows
        (λ more. record {
          whole = λ at still. ap (λ ys. handed ++ ys) (waiting-push t c l.queue out none) ∙ h.whole at still;
          gone = λ no. absurd (false≢true (sym no ∙ kept l more));
          entries = each-append (OwnEntry t c l.conn) l.queue (out ∷ []) h.entries (inl none, tt);
          behind = behind-push l.queue out none h.behind;
        }) (λ no. h)

    flows_without : (these : ℕ → Bool) (l : Link) → these t ≡ false → Flows l → Flows (without these l)
    flows_without these l apart h = record {
      whole = λ at still. ap (λ ys. handed ++ ys) (dropped_others t c these l.conn l.queue apart h.entries) ∙ h.whole at still;
      gone = λ no. ap (filter (λ out. not (is_of these out))) (h.gone no);
      entries = each-filter (OwnEntry t c l.conn) (λ out. not (is_of these out)) l.queue h.entries;
      behind = behind-filter (λ out. not (is_of these out)) l.queue h.behind;
    }

    flows_closed : (l : Link) → Flows l → Flows (record l { closed = true })
    flows_closed l h = record { whole = h.whole; gone = h.gone; entries = h.entries; behind = h.behind }

    flows_cut : (l : Link) → Flows l → Flows (emptied (record l { closed = true; cut = true }))
    flows_cut l h = record { whole = λ at still. absurd (false≢true (and_second (not l.lost) false still)); gone = λ no. refl; entries = tt; behind = tt }

    pub flows_lost : (l : Link) → Flows l → Flows (emptied (link_lost l))
    flows_lost l h = record { whole = λ at still. absurd (false≢true still); gone = λ no. refl; entries = tt; behind = tt }

    -- a connection that takes nothing more is emptied
    pub flows_emptied : (conn : ℕ) (change : Link → Link) → ((l : Link) → (change l).conn ≡ l.conn) → ((l : Link) → Flows l → Flows (emptied (change l))) → (links : List Link) → EachOf Flows links
        → EachOf Flows (at_link conn emptied (at_link conn change links))
    flows_emptied conn change kept f links h =
        each-at_link Between Flows conn emptied (at_link conn change links) (λ m is k. k.0 is) (λ m isnt k. k.1 isnt)
        (each-at_link Flows Between conn change links
        (λ l is k. ((λ same. f l k), (λ apart. absurd (eqb-false (change l).conn conn apart (kept l ∙ is)))))
        (λ l isnt k. ((λ same. absurd (eqb-false l.conn conn isnt same)), (λ apart. k))) h)
      where
        Between : Link → Type 0
        Between m = (m.conn ≡ conn → Flows (emptied m)) × ((m.conn == conn) ≡ false → Flows m)

    -- ---- one item

    pub flows_enter : (b : Box) (conn : ℕ) (out : Outgoing) → own_in t c out ≡ [] → FlowsIn b → FlowsIn (enter conn out b)
    flows_enter b conn out none h =
        let out' : Outgoing = record out { time = b.time } in
        record { links = each-at_link Flows Flows conn (append out') b.links (λ l is k. flows_append out' l none k) (λ l isnt k. k) h.links; undue = h.undue }

    settles_from : (o : Opening) (before rest : List Answer) (b : Box) → EachOf Flows b.links → NoneDue before → NoneDue rest → FlowsIn (settle_from o before rest b)
    settles_from o before [] b h waits none = record { links = h; undue = waits }
    settles_from o before (a ∷ rest) b h waits none =
        cond_both (is_due o b before a) (settle_from o before rest (enter a.conn a.out b)) (settle_from o (before ++ a ∷ []) rest b) FlowsIn
        (λ due.
        let entered : FlowsIn (enter a.conn a.out (record b { undue = [] })) = flows_enter (record b { undue = [] }) a.conn a.out none.0 (record { links = h; undue = tt }) in
        settles_from o before rest (enter a.conn a.out b) entered.links waits none.1)
        (λ undue. settles_from o (before ++ a ∷ []) rest b h (each-append (λ (x : Answer). own_in t c x.out ≡ []) before (a ∷ []) waits (none.0, tt)) none.1)

    pub flows_settle : (o : Opening) (b : Box) → FlowsIn b → FlowsIn (settle o b)
    flows_settle o b h = settles_from o [] b.undue b h.links tt h.undue

    sends_flow : (o : Opening) (b : Box) (r : Option Request) (tickets conns closes : List ℕ) (x : Option (ℕ × Reply)) → FlowsIn b → FlowsIn (send o r tickets conns closes x b)
    sends_flow o b r tickets conns closes None h = h
    sends_flow o b None tickets conns closes (Some s) h = let k : FlowsIn (enter s.0 (outgoing b None tickets s.1) b) = flows_enter b s.0 (outgoing b None tickets s.1) refl h in record { links = k.links; undue = k.undue }
    sends_flow o b (Some r) tickets conns closes (Some s) h = by_aim (aim o (Some r) s.1)
      where
        by_aim : (x : Option Aim) → FlowsIn (let b' = send_as o (Some r) x conns closes s.0 (outgoing b (Some r) tickets s.1) b in record b' { sent = b'.sent + 1 })
        by_aim None = let k : FlowsIn (enter s.0 (outgoing b (Some r) tickets s.1) b) = flows_enter b s.0 (outgoing b (Some r) tickets s.1) refl h in record { links = k.links; undue = k.undue }
        by_aim (Some about) =
            let a : Answer = answer o b r conns closes s.0 (outgoing b (Some r) tickets s.1) about in
            cond_both (list_any (λ (l : Link). (l.conn == a.conn) && takes_more l) b.links) (record b { undue = b.undue ++ a ∷ [] }) b (λ (b' : Box). FlowsIn (record b' { sent = b'.sent + 1 }))
            (λ may. record { links = h.links; undue = each-append (λ (x : Answer). own_in t c x.out ≡ []) b.undue (a ∷ []) h.undue (refl, tt) })
            (λ may. record { links = h.links; undue = h.undue })

    leaves_flow : (b : Box) (r : Option Request) (tickets : List ℕ) → taken_by t r tickets ≡ false → FlowsIn b → FlowsIn (leave r tickets b)
    leaves_flow b (Some r) tickets apart h = record { links = each-map Flows Flows (without (contains tickets)) b.links (λ l k. flows_without (contains tickets) l apart k) h.links; undue = h.undue }
    leaves_flow b None tickets apart h = record { links = h.links; undue = h.undue }

    enters_flow : (b : Box) (r : Option Request) (item : List Effect) → FlowsIn b → FlowsIn (enter_tasks r item b)
    enters_flow b (Some r) item h = record { links = h.links; undue = h.undue }
    enters_flow b None item h = h

    closes_one : (b : Box) (by conn : ℕ) → FlowsIn b → FlowsIn (close_one by conn b)
    closes_one b by conn h =
        cond_both (conn == by) (record b { links = at_link conn (λ l. record l { closed = true }) b.links }) (drop_on conn (record b { links = at_link conn (λ l. record l { closed = true; cut = true }) b.links })) FlowsIn
        (λ is. record { links = each-at_link Flows Flows conn (λ l. record l { closed = true }) b.links (λ l at k. flows_closed l k) (λ l isnt k. k) h.links; undue = h.undue })
        (λ is. record {
          links = flows_emptied conn (λ l. record l { closed = true; cut = true }) (λ l. refl) flows_cut b.links h.links;
          undue = each-filter (λ (a : Answer). own_in t c a.out ≡ []) (λ (a : Answer). not (a.conn == conn)) b.undue h.undue;
        })

    closes_all : (b : Box) (by : ℕ) (conns : List ℕ) → FlowsIn b → FlowsIn (close_all by conns b)
    closes_all b by [] h = h
    closes_all b by (conn ∷ conns) h = closes_all (close_one by conn b) by conns (closes_one b by conn h)

    closes_flow : (b : Box) (r : Option Request) (conns : List ℕ) → FlowsIn b → FlowsIn (close r conns b)
    closes_flow b (Some r) conns h = closes_all b (connection_of r) conns h
    closes_flow b None conns h = h

    item_flows : (o : Opening) (b : Box) (item : List Effect) → is_taken_out_in t item ≡ false → FlowsIn b → FlowsIn (after_item o b item)
    item_flows o b item apart h =
        let r = executing item in
        let tickets = tickets_left item in
        let conns = closed_in b item in
        let closes = newly_closed b conns in
        let left : Box = leave r tickets b in
        let entering : Box = enter_tasks r item left in
        let closed : Box = close r closes entering in
        let sent : Box = send o r tickets conns closes (first_of (filter_map reply_sent item)) closed in
        let k : FlowsIn sent = sends_flow o closed r tickets conns closes (first_of (filter_map reply_sent item)) (closes_flow entering r closes (enters_flow left r item (leaves_flow b r tickets apart h))) in
        flows_settle o (in_phase phase_enabled (filter_map ticket_enabled item) sent) (record { links = k.links; undue = k.undue })

    items_flow : (o : Opening) (b : Box) (items : List (List Effect)) → EachOf (λ item. is_taken_out_in t item ≡ false) items → FlowsIn b → FlowsIn (after_items o b items)
    items_flow o b [] apart h = h
    items_flow o b (item ∷ items) apart h = items_flow o (after_item o b item) items apart.1 (item_flows o b item apart.0 h)

    pub event_flows : (o : Opening) (b : Box) (effects : List Effect) (numbers : Numbers) → EachOf (λ item. is_taken_out_in t item ≡ false) (in_parts effects) → FlowsIn b → FlowsIn (after_event o b effects numbers)
    event_flows o b effects numbers apart h = let k : FlowsIn (after_items o b (in_parts effects)) = items_flow o b (in_parts effects) apart h in record { links = k.links; undue = k.undue }
