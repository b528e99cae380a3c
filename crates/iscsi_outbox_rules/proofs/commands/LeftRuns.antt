-- No own PDU waits of a command that left.
use Rattle.std.proofs.Common.{◌≡◌, ℕ, ◌==◌, ◌+◌, ◌&&◌, not, cond, Bool, true, false, List, [], ◌∷◌, ◌++◌, map, filter, Option, Some, None, refl, ap, sym, ◌∙◌}
use Rattle.std.specs.List.{list_any}
use Rattle.std.proofs.lemmas.Bool.{cond_both}
use Rattle.iscsi_wire.specs.declared.reply.Reply.{Reply}
use Rattle.iscsi_wire.specs.declared.request.Request.{Request}
use Rattle.iscsi_outbox_rules.specs.declared.own_pdu.OwnPdu.{OwnPdu}
use Rattle.iscsi_outbox_rules.specs.rules.Calls.{Opening}
use Rattle.iscsi_outbox_rules.specs.rules.Boxes.{Task, Outgoing, Aim, Answer, Link, Box}
use Rattle.iscsi_outbox_rules.specs.rules.Words.{contains, is_left_phase, is_of}
use Rattle.iscsi_outbox_rules.specs.rules.Queues.{at_link, takes_more, append, enter, without, emptied}
use Rattle.iscsi_outbox_rules.specs.rules.Items.{phase_taken_out, outgoing, answer, send_as, aim, send}
use Rattle.iscsi_outbox_rules.specs.promises.Deeds.{Deed}
use Rattle.iscsi_outbox_rules.proofs.general.EachLemmas.{EachOf, each-at_link, each-first, each-map, each-second}
use Rattle.iscsi_outbox_rules.proofs.general.TaskWalks.{phased, TaskWalk}
use Rattle.iscsi_outbox_rules.proofs.commands.CommandRuns.{own_in, own_waiting, LinkFits, CommandStands, command_walk, dropped_own, waiting-push}

module _ (t c : ℕ) where
  abbrev pub AllLeft : List Task → Type 0
  AllLeft ts = EachOf (λ (x : Task). x.ticket ≡ t → is_left_phase x.phase ≡ true) ts

  abbrev pub IsSilent : Link → Type 0
  IsSilent l = own_waiting t c l.queue ≡ []

  -- where no command with the ticket is any more but those that left, none of its own PDUs waits
  abbrev pub Silenced : Box → Type 0
  Silenced b = AllLeft b.tasks → EachOf IsSilent b.links

  abbrev pub LeftStands : List Deed → ℕ → Box → Type 0
  LeftStands ds n b = CommandStands t c n ds b × Silenced b

  pub two_empty : (xs ys : List OwnPdu) → xs ++ ys ≡ [] → (xs ≡ []) × (ys ≡ [])
  two_empty [] ys h = (refl, h)
  two_empty (x ∷ xs) ys h = absurd cc

  pub fewer : (p : Outgoing → Bool) (queue : List Outgoing) → own_waiting t c queue ≡ [] → own_waiting t c (filter p queue) ≡ []
  fewer p [] h = refl
  fewer p (x ∷ queue) h =
      let k = two_empty (own_in t c x) (own_waiting t c queue) h in
      cond_both (p x) (x ∷ filter p queue) (filter p queue) (λ ys. own_waiting t c ys ≡ []) (λ is. ap (λ ys. ys ++ own_waiting t c (filter p queue)) k.0 ∙ fewer p queue k.1) (λ is. fewer p queue k.1)

  pub at_conn : (conn : ℕ) (change : Link → Link) (links : List Link) → ((l : Link) → IsSilent l → IsSilent (change l)) → EachOf IsSilent links → EachOf IsSilent (at_link conn change links)
  at_conn conn change links f h = each-at_link IsSilent IsSilent conn change links (λ l is k. f l k) (λ l isnt k. k) h

  pub silent_enters : (b : Box) (conn : ℕ) (out : Outgoing) → own_in t c out ≡ [] → Silenced b → Silenced (enter conn out b)
  silent_enters b conn out none h left =
      let out' : Outgoing = record out { time = b.time } in
      at_conn conn (append out') b.links
      (λ l k. cond_both (takes_more l) (record l { queue = l.queue ++ out' ∷ [] }) l IsSilent (λ more. waiting-push t c l.queue out' none ∙ k) (λ more. k)) (h left)

  silent_sends : (o : Opening) (b : Box) (r : Option Request) (tickets conns closes : List ℕ) (x : Option (ℕ × Reply)) → Silenced b → Silenced (send o r tickets conns closes x b)
  silent_sends o b r tickets conns closes None h = h
  silent_sends o b None tickets conns closes (Some s) h = silent_enters b s.0 (outgoing b None tickets s.1) refl h
  silent_sends o b (Some r) tickets conns closes (Some s) h = by_aim (aim o (Some r) s.1)
    where
      by_aim : (x : Option Aim) → Silenced (let b' = send_as o (Some r) x conns closes s.0 (outgoing b (Some r) tickets s.1) b in record b' { sent = b'.sent + 1 })
      by_aim None = silent_enters b s.0 (outgoing b (Some r) tickets s.1) refl h
      by_aim (Some about) =
          let a : Answer = answer o b r conns closes s.0 (outgoing b (Some r) tickets s.1) about in
          cond_both (list_any (λ (l : Link). (l.conn == a.conn) && takes_more l) b.links) (record b { undue = b.undue ++ a ∷ [] }) b (λ (b' : Box). Silenced (record b' { sent = b'.sent + 1 })) (λ may. h) (λ may. h)

  still_left : (f : Task → Task) (ts : List Task) → ((x : Task) → x.ticket ≡ t → ((f x).ticket ≡ t) × (is_left_phase (f x).phase ≡ true → is_left_phase x.phase ≡ true)) → AllLeft (map f ts) → AllLeft ts
  still_left f [] back h = tt
  still_left f (x ∷ ts) back h = ((λ is. let k = back x is in k.1 (h.0 k.0)), still_left f ts back h.1)

  silent_takes_out : (n : ℕ) (ds : List Deed) (b : Box) (tickets : List ℕ) → CommandStands t c n ds b → Silenced b → AllLeft (map (phased phase_taken_out tickets) b.tasks) → EachOf IsSilent (map (without (contains tickets)) b.links)
  silent_takes_out n ds b tickets stands h left =
      elim (contains tickets t) as (λ v. contains tickets t ≡ v → EachOf IsSilent (map (without (contains tickets)) b.links)) [
        | true ↦ λ of. each-map (LinkFits t c) IsSilent (without (contains tickets)) b.links (λ l f. dropped_own t c (contains tickets) l.conn l.queue of f.0) stands.fits
        | false ↦ λ apart.
            each-map IsSilent IsSilent (without (contains tickets)) b.links (λ l k. fewer (λ out. not (is_of (contains tickets) out)) l.queue k)
            (h (still_left (phased phase_taken_out tickets) b.tasks
            (λ x is.
            let same : phased phase_taken_out tickets x ≡ x = ap (λ v. cond v (record x { phase = phase_taken_out x.phase }) x) (ap (contains tickets) is ∙ apart) in
            (ap (λ (y : Task). y.ticket) same ∙ is, (λ k. ap (λ (y : Task). is_left_phase y.phase) (sym same) ∙ k))) left))
      ] refl

  pub left_walk : (o : Opening) (ds : List Deed) → TaskWalk o t c (LeftStands ds)
  left_walk o ds =
      let w = command_walk t c o ds in
      record {
        takes_out = λ n b tickets h. (w.takes_out n b tickets h.0, (λ left. silent_takes_out n ds b tickets h.0 h.1 left));
        phases = λ n b f onward back h. (w.phases n b f onward back h.0, (λ left. h.1 (still_left f b.tasks (λ x is. ((onward x).ticket ∙ is, back x)) left)));
        enters = λ n k b ts once conns few h. (w.enters n k b ts once conns few h.0, (λ left. h.1 (each-first (λ (x : Task). x.ticket ≡ t → is_left_phase x.phase ≡ true) b.tasks ts left)));
        closes = λ n b conn h. (w.closes n b conn h.0, (λ left. at_conn conn (λ l. record l { closed = true }) b.links (λ l k. k) (h.1 left)));
        cuts = λ n b conn h. (w.cuts n b conn h.0, (λ left. at_conn conn (λ l. record l { closed = true; cut = true }) b.links (λ l k. k) (h.1 left)));
        drops_on = λ n b conn over h. (w.drops_on n b conn over h.0, (λ left. at_conn conn emptied b.links (λ l k. refl) (h.1 left)));
        moves = λ n b before rest a h. (
          w.moves n b before rest a h.0,
          silent_enters (record b { undue = before ++ rest }) a.conn a.out (each-second (λ (x : Answer). own_in t c x.out ≡ []) before (a ∷ rest) h.0.undue).0 h.1,
        );
        sends = λ n b r tickets conns closes x h. (w.sends n b r tickets conns closes x h.0, silent_sends o b r tickets conns closes x h.1);
        numbers = λ n b exp max h. (w.numbers n b exp max h.0, h.1);
        more = λ n k b h. (w.more n k b h.0, h.1);
      }
