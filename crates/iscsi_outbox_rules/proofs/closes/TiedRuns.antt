-- Each reply that closes its own connection has it among those that it closes, through the steps of an item.
use Rattle.std.proofs.Common.{◌≡◌, ℕ, ◌==◌, ◌+◌, ◌&&◌, Bool, true, false, List, [], ◌∷◌, ◌++◌, length, map, filter_map, Option, Some, None, refl, ap, sym, subst, ◌∙◌}
use Rattle.std.specs.List.{list_any}
use Rattle.std.proofs.lemmas.Bool.{cond_both, false≢true}
use Rattle.std.proofs.lemmas.List.{append_assoc, append-nil}
use Rattle.iscsi_wire.specs.Fields.{connection_of}
use Rattle.iscsi_wire.specs.declared.reply.Reply.{Reply}
use Rattle.iscsi_wire.specs.declared.request.Request.{Request}
use Rattle.iscsi_rules.specs.declared.effect.Effect.{Effect}
use Rattle.iscsi_rules.specs.rules.Trace.{first_of}
use Rattle.iscsi_outbox_rules.specs.rules.Calls.{Opening}
use Rattle.iscsi_outbox_rules.specs.rules.Boxes.{Outgoing, Handed, Aim, Answer, Link, Box}
use Rattle.iscsi_outbox_rules.specs.rules.Words.{contains}
use Rattle.iscsi_outbox_rules.specs.rules.Queues.{at_link, takes_more, append, enter, without, emptied, drop_on}
use Rattle.iscsi_outbox_rules.specs.rules.Due.{is_due, settle_from}
use Rattle.iscsi_outbox_rules.specs.rules.Items.{executing, tickets_left, reply_sent, ticket_enabled, closed_in, newly_closed, phase_enabled, in_phase, leave, enter_tasks, close_one, close_all, close, outgoing, answer, send_as, aim, send, after_item}
use Rattle.iscsi_outbox_rules.specs.promises.Scope.{Sent, nth, is_closed_with}
use Rattle.iscsi_outbox_rules.proofs.general.EachLemmas.{EachOf, each-append, each-second, each-map, each-filter, each-at_link}
use Rattle.iscsi_outbox_rules.proofs.general.SortedLemmas.{each-fewer}
use Rattle.iscsi_outbox_rules.proofs.general.FirstLemmas.{firsts}
use Rattle.iscsi_outbox_rules.proofs.order.LineRuns.{sent_now}
use Rattle.iscsi_outbox_rules.proofs.closes.MarkItems.{MarksStand}
use Rattle.iscsi_outbox_rules.proofs.closes.ClosesLemmas.{closes_tied}
use Rattle.iscsi_outbox_rules.proofs.closes.SealRuns.{line}

module _ (o : Opening) (all : List (List Effect)) (c : ℕ) where
  abbrev pub Tie : Outgoing → Type 0
  Tie x = (p : ℕ) (s : Sent) → x.sent ≡ Some p → nth p (firsts all) ≡ Some s → is_closed_with o s c ≡ true → contains x.closes c ≡ true

  abbrev pub TiedLink : Link → Type 0
  TiedLink l = l.conn ≡ c → EachOf Tie (line c l)

  abbrev pub TiedAnswer : Answer → Type 0
  TiedAnswer a = a.conn ≡ c → Tie a.out

  pub record Tied (b : Box) : Type 0 where
    pub links : EachOf TiedLink b.links
    pub undue : EachOf TiedAnswer b.undue

  pub tied_at : (conn : ℕ) (change : Link → Link) → ((l : Link) → TiedLink l → TiedLink (change l)) → (links : List Link) → EachOf TiedLink links → EachOf TiedLink (at_link conn change links)
  tied_at conn change kept links h = each-at_link TiedLink TiedLink conn change links (λ l is k. kept l k) (λ l is k. k) h

  tied_append : (out : Outgoing) (l : Link) → (l.conn ≡ c → Tie out) → TiedLink l → TiedLink (append out l)
  tied_append out l tie h =
      cond_both (takes_more l) (record l { queue = l.queue ++ out ∷ [] }) l TiedLink
      (λ more at. subst (EachOf Tie) (append_assoc (map (λ (g : Handed). g.out) l.handed) l.queue (out ∷ [])) (each-append Tie (line c l) (out ∷ []) (h at) (tie at, tt))) (λ more. h)

  pub tied_enter : (conn : ℕ) (out : Outgoing) (b : Box) → (conn ≡ c → Tie out) → Tied b → Tied (enter conn out b)
  tied_enter conn out b tie h = record {
    links = each-at_link TiedLink TiedLink conn (append (record out { time = b.time })) b.links (λ l is k. tied_append (record out { time = b.time }) l (λ at. tie (sym is ∙ at)) k) (λ l is k. k) h.links;
    undue = h.undue;
  }

  pub tied_settle : (before rest : List Answer) (b : Box) → Tied (record b { undue = before ++ rest }) → Tied (settle_from o before rest b)
  tied_settle before [] b h = record { links = h.links; undue = subst (EachOf TiedAnswer) (append-nil before) h.undue }
  tied_settle before (a ∷ rest) b h =
      cond_both (is_due o b before a) (settle_from o before rest (enter a.conn a.out b)) (settle_from o (before ++ a ∷ []) rest b) Tied
      (λ due. tied_settle before rest (enter a.conn a.out b)
      (let k : Tied (enter a.conn a.out (record b { undue = before ++ rest })) = tied_enter a.conn a.out (record b { undue = before ++ rest }) (each-second TiedAnswer before (a ∷ rest) h.undue).0
      (record { links = h.links; undue = each-fewer TiedAnswer before (a ∷ rest) rest (λ e. e.1) h.undue }) in
      record { links = k.links; undue = k.undue }))
      (λ due. tied_settle (before ++ a ∷ []) rest b (record { links = h.links; undue = subst (EachOf TiedAnswer) (sym (append_assoc before (a ∷ []) rest)) h.undue }))

  pub tied_emptied : (l : Link) → TiedLink l → TiedLink (emptied l)
  tied_emptied l h at = each-fewer Tie (map (λ (g : Handed). g.out) l.handed) l.queue [] (λ e. tt) (h at)

  pub tied_drop : (conn : ℕ) (b : Box) → Tied b → Tied (drop_on conn b)
  tied_drop conn b h = record { links = tied_at conn emptied tied_emptied b.links h.links; undue = each-filter TiedAnswer _ b.undue h.undue }

  tied_leave : (r : Option Request) (tickets : List ℕ) (b : Box) → Tied b → Tied (leave r tickets b)
  tied_leave (Some r) tickets b h = record {
    links = each-map TiedLink TiedLink (without (contains tickets)) b.links
        (λ l k at. each-fewer Tie (map (λ (g : Handed). g.out) l.handed) l.queue (without (contains tickets) l).queue (λ e. each-filter Tie _ l.queue e) (k at)) h.links;
    undue = h.undue;
  }
  tied_leave None tickets b h = record { links = h.links; undue = h.undue }

  tied_entered : (r : Option Request) (item : List Effect) (b : Box) → Tied b → Tied (enter_tasks r item b)
  tied_entered (Some r) item b h = record { links = h.links; undue = h.undue }
  tied_entered None item b h = h

  tied_close_one : (by conn : ℕ) (b : Box) → Tied b → Tied (close_one by conn b)
  tied_close_one by conn b h =
      cond_both (conn == by) (record b { links = at_link conn (λ l. record l { closed = true }) b.links }) (drop_on conn (record b { links = at_link conn (λ l. record l { closed = true; cut = true }) b.links })) Tied
      (λ own. record { links = tied_at conn (λ l. record l { closed = true }) (λ l k. k) b.links h.links; undue = h.undue })
      (λ own. tied_drop conn (record b { links = at_link conn (λ l. record l { closed = true; cut = true }) b.links }) (record { links = tied_at conn (λ l. record l { closed = true; cut = true }) (λ l k. k) b.links h.links; undue = h.undue }))

  tied_close_all : (by : ℕ) (conns : List ℕ) (b : Box) → Tied b → Tied (close_all by conns b)
  tied_close_all by [] b h = h
  tied_close_all by (conn ∷ conns) b h = tied_close_all by conns (close_one by conn b) (tied_close_one by conn b h)

  tied_close : (r : Option Request) (conns : List ℕ) (b : Box) → Tied b → Tied (close r conns b)
  tied_close (Some r) conns b h = tied_close_all (connection_of r) conns b h
  tied_close None conns b h = h

  -- ---- how many replies were sent

  sent_close_all : (by : ℕ) (conns : List ℕ) (b : Box) → (close_all by conns b).sent ≡ b.sent
  sent_close_all by [] b = refl
  sent_close_all by (conn ∷ conns) b =
      sent_close_all by conns (close_one by conn b)
      ∙ cond_both (conn == by) (record b { links = at_link conn (λ l. record l { closed = true }) b.links }) (drop_on conn (record b { links = at_link conn (λ l. record l { closed = true; cut = true }) b.links })) (λ (x : Box). x.sent ≡ b.sent) (λ own. refl) (λ own. refl)

  sent_before : (r : Option Request) (item : List Effect) (tickets conns : List ℕ) (b : Box) → (close r conns (enter_tasks r item (leave r tickets b))).sent ≡ b.sent
  sent_before (Some r) item tickets conns b = sent_close_all (connection_of r) conns (enter_tasks (Some r) item (leave (Some r) tickets b))
  sent_before None item tickets conns b = refl

  -- ---- what is sent

  tied_send : (b : Box) (r : Option Request) (tickets conns closes : List ℕ) (x : Option (ℕ × Reply))
      → ((s : ℕ × Reply) (out : Outgoing) → x ≡ Some s → out.sent ≡ Some b.sent → ((about : Aim) → aim o r s.1 ≡ Some about → out.closes ≡ closes) → Tie out) → Tied b → Tied (send o r tickets conns closes x b)
  tied_send b r tickets conns closes None tie h = h
  tied_send b None tickets conns closes (Some s) tie h =
      let k : Tied (enter s.0 (outgoing b None tickets s.1) b) = tied_enter s.0 (outgoing b None tickets s.1) b (λ at. tie s (outgoing b None tickets s.1) refl refl (λ about some. absurd cc)) h in
      record { links = k.links; undue = k.undue }
  tied_send b (Some r) tickets conns closes (Some s) tie h = by_aim (aim o (Some r) s.1) refl
    where
      by_aim : (x : Option Aim) → aim o (Some r) s.1 ≡ x → Tied (let b' = send_as o (Some r) x conns closes s.0 (outgoing b (Some r) tickets s.1) b in record b' { sent = b'.sent + 1 })
      by_aim None none =
          let k : Tied (enter s.0 (outgoing b (Some r) tickets s.1) b) =
          tied_enter s.0 (outgoing b (Some r) tickets s.1) b (λ at. tie s (outgoing b (Some r) tickets s.1) refl refl (λ about some. let no_aim : None ≡ Some about = sym none ∙ some in absurd cc)) h in
          record { links = k.links; undue = k.undue }
      by_aim (Some about) some =
          let a : Answer = answer o b r conns closes s.0 (outgoing b (Some r) tickets s.1) about in
          cond_both (list_any (λ (l : Link). (l.conn == a.conn) && takes_more l) b.links) (record b { undue = b.undue ++ a ∷ [] }) b (λ (b' : Box). Tied (record b' { sent = b'.sent + 1 }))
          (λ may. record { links = h.links; undue = each-append TiedAnswer b.undue (a ∷ []) h.undue ((λ at. tie s a.out refl refl (λ why aimed. refl)), tt) }) (λ may. record { links = h.links; undue = h.undue })

  some_same : (x y : Sent) → Some x ≡ Some y → x ≡ y
  some_same x y h = cc

  some_number : (m n : ℕ) → Some m ≡ Some n → m ≡ n
  some_number m n h = cc

  pub tied_item : (cs : List ℕ) → list_any (λ k. k == c) cs ≡ true → (items rest : List (List Effect)) (b : Box) (item : List Effect) → items ++ item ∷ rest ≡ all → b.sent ≡ length (firsts items) → MarksStand cs items b → Tied b
      → Tied (after_item o b item)
  tied_item cs known items rest b item whole counted m h =
      tied_settle [] (in_phase phase_enabled (filter_map ticket_enabled item) sent).undue (in_phase phase_enabled (filter_map ticket_enabled item) sent)
      (let k : Tied sent = tied_send closed r (tickets_left item) (closed_in b item) closes (first_of (filter_map reply_sent item)) tie (tied_close r closes _ (tied_entered r item _ (tied_leave r (tickets_left item) b h))) in
      record { links = k.links; undue = k.undue })
    where
      r : Option Request
      r = executing item

      closes : List ℕ
      closes = newly_closed b (closed_in b item)

      closed : Box
      closed = close r closes (enter_tasks r item (leave r (tickets_left item) b))

      sent : Box
      sent = send o r (tickets_left item) (closed_in b item) closes (first_of (filter_map reply_sent item)) closed

      by_aim : (out : Outgoing) (reply : Reply) (v : Bool) (x : Option Aim) → aim o r reply ≡ x → ((about : Aim) → aim o r reply ≡ Some about → out.closes ≡ closes) → elim x [ Some about ↦ v | None ↦ false ] ≡ true → contains closes c ≡ true → contains out.closes c ≡ true
      by_aim out reply v None is same closing there = absurd (false≢true closing)
      by_aim out reply v (Some about) is same closing there = ap (λ ns. contains ns c) (same about is) ∙ there

      tie : (s : ℕ × Reply) (out : Outgoing) → first_of (filter_map reply_sent item) ≡ Some s → out.sent ≡ Some closed.sent → ((about : Aim) → aim o r s.1 ≡ Some about → out.closes ≡ closes) → Tie out
      tie s out found at same p reply place nth_is closing =
          let now : nth b.sent (firsts all) ≡ Some (record { before = items; item = item; conn = s.0; reply = s.1 }) = sent_now o all items rest item s.0 b.sent s.1 whole found counted in
          let number : b.sent ≡ p = sym (sent_before r item (tickets_left item) closes b) ∙ some_number closed.sent p (sym at ∙ place) in
          let is : record { before = items; item = item; conn = s.0; reply = s.1 } ≡ reply = some_same (record { before = items; item = item; conn = s.0; reply = s.1 }) reply (sym now ∙ ap (λ n. nth n (firsts all)) number ∙ nth_is) in
          let closing' : is_closed_with o (record { before = items; item = item; conn = s.0; reply = s.1 }) c ≡ true = ap (λ x. is_closed_with o x c) is ∙ closing in
          by_aim out s.1 _ (aim o r s.1) refl same closing' (closes_tied o cs c known items b item s.0 s.1 m closing')
