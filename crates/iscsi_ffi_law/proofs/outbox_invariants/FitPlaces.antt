-- What waits and what was handed out has its place in the log: so many replies have been sent by then.
use Rattle.std.proofs.Common.{◌≡◌, ℕ, ◌+◌, ◌≤◌, ◌==◌, cond, true, drop, List, [], ◌∷◌, ◌++◌, filter_map, Option, Some, None, sym, subst, arith, ⊎_elim}
use Rattle.std.proofs.lemmas.Bool.{cond_both, false≢true}
use Rattle.iscsi_wire.specs.declared.reply.Reply.{Reply}
use Rattle.iscsi_rules.specs.declared.effect.Effect.{Effect}
use Rattle.iscsi_rules.specs.declared.effect.Numbers.{Numbers}
use Rattle.iscsi_rules.specs.promises.Order.{in_parts}
use Rattle.iscsi_rules.specs.rules.Trace.{first_of}
use Rattle.iscsi_outbox_rules.specs.rules.Boxes.{Answer, Box, Handed, Link, Outgoing}
use Rattle.iscsi_outbox_rules.specs.rules.Calls.{Call, Clears, Hears, Joins, Loses, Nexts, Opening, Puts, Stops, Takes, Writes}
use Rattle.iscsi_outbox_rules.specs.rules.Handing.{is_from_queue, taken_from}
use Rattle.iscsi_outbox_rules.specs.rules.Items.{after_event, after_item, after_items, executing, reply_sent, tickets_left}
use Rattle.iscsi_outbox_rules.specs.rules.Queues.{at_link}
use Rattle.iscsi_outbox_rules.specs.rules.Run.{after_call, new_link, opened}
use Rattle.iscsi_outbox_rules.proofs.general.Chosen.{Chosen, FromQueue, IsNotice, IsPing, chosen_from}
use Rattle.iscsi_outbox_rules.proofs.general.Cuts.{Hand, Idle, next}
use Rattle.iscsi_outbox_rules.proofs.general.EachLemmas.{each-first_of}
use Rattle.iscsi_outbox_rules.specs.promises.Room.{is_other}
use Rattle.iscsi_outbox_law.specs.private.Pairs.{EachOf}
use Rattle.iscsi_outbox_law.proofs.general.PairLemmas.{each-append, each-map, each-new, each-weaken}
use Rattle.iscsi_ffi_rules.proofs.BoxOuts.{OfBox, OfLink, Putting, Sending, of_item, of_other}
use Rattle.iscsi_ffi_law.specs.Parts.{IsBefore}
use Rattle.iscsi_ffi_law.proofs.outbox_invariants.FitLinks.{IsPlain, Moves, behind_close, moved_call, moved_each, moved_event}
use Rattle.iscsi_ffi_law.proofs.outbox_invariants.FitNumbers.{call_sent, closed_sent, event_sent, item_sent, one_sent, sends}
use Rattle.iscsi_ffi_law.proofs.side_invariants.FitSides.{Stays, none_taken, stays_call, stays_close}

-- its place is one of so many
abbrev pub Within : ℕ → Option ℕ → Option ℕ → Type 0
Within n sent ticket = IsBefore n sent

within_more : (n m : ℕ) → n ≤ m → (sent : Option ℕ) → IsBefore n sent → IsBefore m sent
within_more n m le (Some place) lt = omega (arith, lt, le)
within_more n m le None lt = tt

-- all that was handed out
abbrev pub AreHanded : ℕ → List Link → Type 0
AreHanded n links = EachOf (λ (l : Link). EachOf (λ (h : Handed). IsBefore n h.out.sent) l.handed) links

pub record ArePlaced (b : Box) : Type 0 where
  pub outs : OfBox (Within b.sent) b
  pub handed : AreHanded b.sent b.links

outs_more : (n m : ℕ) → n ≤ m → (b : Box) → OfBox (Within n) b → OfBox (Within m) b
outs_more n m le b h = record {
  links = each-weaken (OfLink (Within n)) (OfLink (Within m)) b.links (λ l k. (each-weaken (λ (out : Outgoing). IsBefore n out.sent) (λ (out : Outgoing). IsBefore m out.sent) l.queue (λ out. within_more n m le out.sent) k.0, each-weaken (λ (g : Handed). IsBefore n g.out.sent) (λ (g : Handed). IsBefore m g.out.sent) _ (λ g. within_more n m le g.out.sent) k.1)) h.links;
  undue = each-weaken (λ (a : Answer). IsBefore n a.out.sent) (λ (a : Answer). IsBefore m a.out.sent) b.undue (λ a. within_more n m le a.out.sent) h.undue;
}

pub handed_more : (n m : ℕ) → n ≤ m → (links : List Link) → AreHanded n links → AreHanded m links
handed_more n m le links h =
    each-weaken (λ (l : Link). EachOf (λ (g : Handed). IsBefore n g.out.sent) l.handed) (λ (l : Link). EachOf (λ (g : Handed). IsBefore m g.out.sent) l.handed) links
    (λ l k. each-weaken (λ (g : Handed). IsBefore n g.out.sent) (λ (g : Handed). IsBefore m g.out.sent) l.handed (λ g. within_more n m le g.out.sent) k) h

pub still_handed : (n : ℕ) (ls ms : List Link) → Moves Stays ls ms → AreHanded n ls → AreHanded n ms
still_handed n ls ms v h =
    moved_each Stays (λ (l : Link). EachOf (λ (g : Handed). IsBefore n g.out.sent) l.handed) (λ (l : Link). EachOf (λ (g : Handed). IsBefore n g.out.sent) l.handed) ls ms v (λ l m s k. subst (EachOf (λ (g : Handed). IsBefore n g.out.sent)) (sym s.1) k) h

module _ (o : Opening) where
  -- ---- an event

  outs_item : (b : Box) (item : List Effect) → OfBox (Within b.sent) b → OfBox (Within (after_item o b item).sent) (after_item o b item)
  outs_item b item h =
      let more = item_sent o b item in
      let same = closed_sent o b item in
      let n : ℕ = (after_item o b item).sent in
      of_item (Within n) o b item (by_reply (first_of (filter_map reply_sent item)) (let z : (behind_close b item).sent + sends item ≡ (after_item o b item).sent = omega (arith, more, same) in z)) (outs_more b.sent n (omega (arith, more)) b h)
    where
      by_reply : (x : Option (ℕ × Reply)) → (behind_close b item).sent + one_sent x ≡ (after_item o b item).sent → Sending (Within (after_item o b item).sent) (executing item) (tickets_left item) (behind_close b item).sent x
      by_reply None is = tt
      by_reply (Some s) is = omega (arith, is)

  outs_items : (b : Box) (items : List (List Effect)) → OfBox (Within b.sent) b → OfBox (Within (after_items o b items).sent) (after_items o b items)
  outs_items b [] h = h
  outs_items b (item ∷ items) h = outs_items (after_item o b item) items (outs_item b item h)

  pub placed_event : (b : Box) (effects : List Effect) (numbers : Numbers) → ArePlaced b → ArePlaced (after_event o b effects numbers)
  placed_event b effects numbers h = record {
    outs = (let k = outs_items b (in_parts effects) h.outs in record { links = k.links; undue = k.undue });
    handed = handed_more b.sent (after_event o b effects numbers).sent (let more = event_sent o b effects numbers in omega (arith, more)) (after_event o b effects numbers).links (still_handed b.sent b.links (after_event o b effects numbers).links (moved_event o Stays stays_close b effects numbers) h.handed);
  }

  -- ---- any other call

  chosen_placed : (b : Box) (l : Link) (out : Outgoing) → Chosen o b l out → OfLink (Within b.sent) l → IsBefore b.sent out.sent
  chosen_placed b l out c h =
      ⊎_elim (λ (q : FromQueue o b l out). (subst (EachOf (λ (x : Outgoing). IsBefore b.sent x.sent)) q.queue_is h.0).0)
      (λ rest. ⊎_elim (λ (p : IsPing o b l out). subst (λ (x : Outgoing). IsBefore b.sent x.sent) (sym p.is) tt) (λ (n : IsNotice o b l out). subst (λ (x : Outgoing). IsBefore b.sent x.sent) (sym n.is) tt) rest) c.source

  handed_next : (b : Box) (conn : ℕ) → ArePlaced b → AreHanded b.sent (after_call o b (Nexts conn)).links
  handed_next b conn h = ⊎_elim given (λ (k : Idle o b conn). subst (λ (x : Box). AreHanded b.sent x.links) (sym k.after_is) h.handed) (next o b conn)
    where
      given : Hand o b conn → AreHanded b.sent (after_call o b (Nexts conn)).links
      given k =
          let l : Link = k.handing.link in
          let new : IsBefore b.sent k.handed.out.sent =
          subst (λ (g : Handed). IsBefore b.sent g.out.sent) (sym k.handing.is)
          (chosen_placed b l k.handing.out (chosen_from o b l k.handing.out k.handing.chosen_is) (each-first_of (OfLink (Within b.sent)) (λ (m : Link). m.conn == conn) b.links l k.handing.found h.outs.links)) in
          let all : Link → Type 0 = λ m. EachOf (λ (g : Handed). IsBefore b.sent g.out.sent) m.handed in
          subst (λ (x : Box). AreHanded b.sent x.links) (sym k.after_is)
          (each-map all all (λ m. cond (m.conn == l.conn) (record m { handed = m.handed ++ k.handed ∷ [] }) m) (at_link l.conn (taken_from k.handed.out) b.links)
          (λ m each. cond_both (m.conn == l.conn) (record m { handed = m.handed ++ k.handed ∷ [] }) m all (λ is. each-append (λ (g : Handed). IsBefore b.sent g.out.sent) m.handed (k.handed ∷ []) each (new, tt)) (λ is. each))
          (each-map all all (λ m. cond (m.conn == l.conn) (taken_from k.handed.out m) m) b.links
          (λ m each. cond_both (m.conn == l.conn) (taken_from k.handed.out m) m all (λ is. cond_both (is_from_queue k.handed.out) (record m { queue = drop 1 m.queue }) m all (λ may. each) (λ may. each)) (λ is. each)) h.handed))

  plain_handed : (b : Box) (c : Call) → IsPlain c → AreHanded b.sent b.links → AreHanded b.sent (after_call o b c).links
  plain_handed b c plain h = still_handed b.sent b.links (after_call o b c).links (moved_call o Stays stays_call b c plain) h

  handed_call : (b : Box) (c : Call) → is_other c ≡ true → ArePlaced b → AreHanded b.sent (after_call o b c).links
  handed_call b (Takes effects numbers) other h = absurd (false≢true other)
  handed_call b (Puts p) other h = plain_handed b (Puts p) tt h.handed
  handed_call b (Stops ticket) other h = plain_handed b (Stops ticket) tt h.handed
  handed_call b (Nexts conn) other h = handed_next b conn h
  handed_call b (Writes conn) other h = plain_handed b (Writes conn) tt h.handed
  handed_call b (Hears conn exp_stat_sn tag) other h = plain_handed b (Hears conn exp_stat_sn tag) tt h.handed
  handed_call b (Joins conn stat_sn) other h = plain_handed b (Joins conn stat_sn) tt h.handed
  handed_call b (Loses conn) other h = plain_handed b (Loses conn) tt h.handed
  handed_call b (Clears unit) other h = plain_handed b (Clears unit) tt h.handed

  putting : (b : Box) (c : Call) → Putting (Within b.sent) o b c
  putting b (Takes effects numbers) = tt
  putting b (Puts p) = λ taken. tt
  putting b (Stops ticket) = tt
  putting b (Nexts conn) = tt
  putting b (Writes conn) = tt
  putting b (Hears conn exp_stat_sn tag) = tt
  putting b (Joins conn stat_sn) = tt
  putting b (Loses conn) = tt
  putting b (Clears unit) = tt

  pub placed_call : (b : Box) (c : Call) → is_other c ≡ true → ArePlaced b → ArePlaced (after_call o b c)
  placed_call b c other h =
      let same = call_sent o b c (none_taken o c other) in
      record {
        outs = outs_more b.sent (after_call o b c).sent (omega (arith, same)) (after_call o b c) (of_other (Within b.sent) o b c other tt (putting b c) h.outs);
        handed = handed_more b.sent (after_call o b c).sent (omega (arith, same)) (after_call o b c).links (handed_call b c other h);
      }

  pub placed_opened : ArePlaced (opened o)
  placed_opened = record {
    outs = record { links = each-new (OfLink (Within 0)) (λ (c : ℕ × ℕ). new_link c.0) o.session.conns (λ c. (tt, tt)); undue = tt };
    handed = each-new (λ (l : Link). EachOf (λ (h : Handed). IsBefore 0 h.out.sent) l.handed) (λ (c : ℕ × ℕ). new_link c.0) o.session.conns (λ c. tt);
  }
