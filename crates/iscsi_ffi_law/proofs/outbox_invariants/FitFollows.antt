-- A session and its outbox go together: what was closed, and the commands.
use Rattle.std.proofs.Common.{◌≡◌, ℕ, zero, suc, ◌++◌, ◌+◌, ◌<◌, ◌≤◌, ◌==◌, ◌&&◌, not, cond, nat_lt, max, Bool, true, false, List, [], ◌∷◌, map, filter, length, refl, ap, sym, subst, ◌∙◌, arith}
use Rattle.std.specs.List.{list_any, range_with_len}
use Rattle.std.proofs.lemmas.Bool.{cond_both, false≢true}
use Rattle.iscsi_wire.specs.Serial.{lift}
use Rattle.iscsi_rules.specs.declared.effect.Effect.{Effect}
use Rattle.iscsi_rules.specs.declared.entry.Entry.{Entry}
use Rattle.iscsi_rules.specs.declared.event.Event.{Event}
use Rattle.iscsi_rules.specs.promises.Order.{in_parts}
use Rattle.iscsi_rules.specs.rules.Agenda.{belongs, items_of}
use Rattle.iscsi_rules.specs.rules.Run.{after_event, effects_of_item, entry_of}
use Rattle.iscsi_rules.specs.rules.Trace.{Command, Mark, Trace, after_items, entered, has, is_closed, leaves_ticket, live}
use Rattle.iscsi_rules.proofs.promises.CloseRuns.{Sounds, clear_of, event_sound}
use Rattle.iscsi_rules.proofs.items.FormRuns.{event_going}
use Rattle.iscsi_rules.proofs.items.Forms.{HasForm, HaveForms}
use Rattle.iscsi_rules.proofs.promises.LifeLemmas.{tickets_count}
use Rattle.iscsi_rules.proofs.general.ListLemmas.{any_filter, any_same, list_any-map}
use Rattle.iscsi_outbox_rules.specs.rules.Boxes.{Box, Handed, Link, Task}
use Rattle.iscsi_outbox_rules.specs.rules.Calls.{Call, Clears, Hears, Joins, Loses, Nexts, Opening, Puts, Stops, Takes, Writes}
use Rattle.iscsi_outbox_rules.specs.rules.Items.{after_item, after_items as after_box_items, phase_told}
use Rattle.iscsi_outbox_rules.specs.rules.Run.{after_call, arrived_by_ping, arrived_by_stat_sn, new_link}
use Rattle.iscsi_outbox_rules.specs.rules.Words.{contains, is_live_phase, is_open}
use Rattle.iscsi_outbox_rules.specs.promises.Room.{Both, Happens, Other, after_step, begun}
use Rattle.iscsi_outbox_rules.proofs.closes.ClosedParts.{Parts, effects_each, event_parts}
use Rattle.iscsi_outbox_rules.proofs.room.RoomLives.{SameLive, first_form, lives_event}
use Rattle.iscsi_outbox_rules.proofs.room.RoomSends.{Formed, event_going as event_sends}
use Rattle.iscsi_outbox_law.specs.private.Pairs.{EachOf, InOrder}
use Rattle.iscsi_outbox_law.proofs.general.PairLemmas.{each-new, each-weaken}
use Rattle.iscsi_outbox_law.proofs.invariants.SoundCalls.{TakesNone}
use Rattle.iscsi_ffi_law.specs.Parts.{is_live_ticket}
use Rattle.iscsi_ffi_law.proofs.general.Members.{in_each}
use Rattle.iscsi_ffi_law.proofs.outbox_invariants.FitClosed.{AsIn, SameClosed, closed_empty, closed_item, same_closed}
use Rattle.iscsi_ffi_law.proofs.outbox_invariants.FitLinks.{IsCallRule, IsCloseRule, IsPlain, IsQueueRule, moved_call, moved_each, moved_event, moved_next}
use Rattle.iscsi_ffi_law.proofs.outbox_invariants.FitLives.{SameHomes, home_of_task, homes_call, homes_empty, homes_item, lives_call}

-- ---- item by item

-- the end of an event
abbrev pub told : Box → ℕ → ℕ → Box
told b exp max = record b { tasks = map (λ (x : Task). record x { phase = phase_told x.phase }) b.tasks; exp = exp; max = max }

pub record ItemWalk (o : Opening) (P : Trace → Box → Type 0) : Type 0 where
  pub item : (now : ℕ) (t : Trace) (ms : List Mark) (b : Box) → HasForm o.session now t ms → P t b → P (ms ∷ t) (after_item o b (effects_of_item o.session t ms))
  pub none : (t : Trace) (b : Box) → P t b → P t (after_item o b [])
  pub ends : (t : Trace) (b : Box) (exp max : ℕ) → P t b → P t (told b exp max)

module _ (o : Opening) (P : Trace → Box → Type 0) (w : ItemWalk o P) where
  by_items : (items : List (List Mark)) (t : Trace) (b : Box) (next : ℕ) → HaveForms o.session next (after_items items t) → P t b → P (after_items items t) (after_box_items o b (effects_each o.session t items))
  by_items [] t b next forms h = h
  by_items (item ∷ items) t b next forms h =
      let f = first_form o items item t next forms in
      by_items items (item ∷ t) (after_item o b (effects_of_item o.session t item)) next forms (w.item f.0 t item b f.1 h)

  pub by_event : (now : ℕ) (t : Trace) (e : Event) (b : Box) → HaveForms o.session now t → P t b → let entry = entry_of o.session now t e in P (after_event o.session now t e) (after_call o b (Takes entry.effects entry.numbers))
  by_event now t e b forms h =
      let entry : Entry = entry_of o.session now t e in
      let parts : Parts o.session t (items_of o.session now t e) = event_parts o.session (Formed o.session (λ c. false)) (λ u item x. x) now t e (event_sends o.session (λ c. false) now t e).each in
      let b' : Box = after_box_items o b (in_parts entry.effects) in
      w.ends (after_event o.session now t e) b' entry.numbers.exp (lift b'.max entry.numbers.max) (by_lead parts.lead (in_parts entry.effects) parts.are)
    where
      by_lead : (v : Bool) (ps : List (List Effect)) → ps ≡ cond v ([] ∷ effects_each o.session t (items_of o.session now t e)) (effects_each o.session t (items_of o.session now t e)) → P (after_event o.session now t e) (after_box_items o b ps)
      by_lead true ps is = subst (λ (qs : List (List Effect)). P (after_event o.session now t e) (after_box_items o b qs)) (sym is) (by_items (items_of o.session now t e) t (after_item o b []) (now + 1) (event_going o.session now t e forms) (w.none t b h))
      by_lead false ps is = subst (λ (qs : List (List Effect)). P (after_event o.session now t e) (after_box_items o b qs)) (sym is) (by_items (items_of o.session now t e) t b (now + 1) (event_going o.session now t e forms) h)

-- ---- what goes together

pub record IsTogether (o : Opening) (b : Both) : Type 0 where
  pub forms : HaveForms o.session b.event b.trace
  pub sounds : Sounds o.session b.trace
  pub lives : SameLive o b.box b.trace
  pub homes : SameHomes b.box b.trace
  pub cuts : EachOf (λ (l : Link). l.cut ≡ true → l.closed ≡ true) b.box.links
  pub closed : EachOf (AsIn b.trace) b.box.links

-- one that is cut is closed still
abbrev pub StaysCut : Link → Link → Type 0
StaysCut l m = (l.cut ≡ true → l.closed ≡ true) → m.cut ≡ true → m.closed ≡ true

cut_queue : IsQueueRule StaysCut
cut_queue = record { same = λ l h. h; queued = λ l queue may h. h; then = λ l m n f g h. g (f h) }

pub cut_close : IsCloseRule StaysCut
cut_close = record { queue = cut_queue; closed = λ l h is. refl; cut = λ l h is. refl }

cut_call : IsCallRule StaysCut
cut_call = record {
  kept = record {
    queue = cut_queue;
    written = λ l. cond_both (nat_lt l.written (length l.handed)) (record l { written = l.written + 1 }) l (StaysCut l) (λ may h. h) (λ may h. h);
    heard = λ exp_stat_sn tag l. cond_both (is_open l) (record l { arrived = max l.arrived (max (arrived_by_stat_sn l exp_stat_sn) (arrived_by_ping l tag)) }) l (StaysCut l) (λ may h. h) (λ may h. h);
    joined = λ stat_sn l h. h;
  };
  lost = λ l h. h;
}

closed_call : IsCallRule SameClosed
closed_call = record {
  kept = record {
    queue = same_closed;
    written = λ l. cond_both (nat_lt l.written (length l.handed)) (record l { written = l.written + 1 }) l (SameClosed l) (λ may. (refl, refl)) (λ may. (refl, refl));
    heard = λ exp_stat_sn tag l. cond_both (is_open l) (record l { arrived = max l.arrived (max (arrived_by_stat_sn l exp_stat_sn) (arrived_by_ping l tag)) }) l (SameClosed l) (λ may. (refl, refl)) (λ may. (refl, refl));
    joined = λ stat_sn l. (refl, refl);
  };
  lost = λ l. (refl, refl);
}

-- what holds of each connection, where a call leaves it so
module _ (o : Opening) (R : Link → Link → Type 0) (rule : IsCallRule R) (P Q : Link → Type 0) (keeps : (l m : Link) → R l m → P l → Q m) (hands : (l m : Link) (h : Handed) → R l m → P l → Q (record m { handed = m.handed ++ h ∷ [] })) where
  plain : (b : Box) (c : Call) → IsPlain c → EachOf P b.links → EachOf Q (after_call o b c).links
  plain b c none h = moved_each R P Q b.links (after_call o b c).links (moved_call o R rule b c none) keeps h

  pub each_call : (b : Box) (c : Call) → TakesNone c → EachOf P b.links → EachOf Q (after_call o b c).links
  each_call b (Takes effects numbers) none h = absurd none
  each_call b (Puts p) none h = plain b (Puts p) tt h
  each_call b (Stops ticket) none h = plain b (Stops ticket) tt h
  each_call b (Nexts conn) none h =
      moved_each (λ l m. P l → Q m) P Q b.links (after_call o b (Nexts conn)).links (moved_next o R (λ l m. P l → Q m) rule.kept.queue (λ l m g v p. hands l m g v p) (λ l m v p. keeps l m v p) b conn) (λ l m f p. f p) h
  each_call b (Writes conn) none h = plain b (Writes conn) tt h
  each_call b (Hears conn exp_stat_sn tag) none h = plain b (Hears conn exp_stat_sn tag) tt h
  each_call b (Joins conn stat_sn) none h = plain b (Joins conn stat_sn) tt h
  each_call b (Loses conn) none h = plain b (Loses conn) tt h
  each_call b (Clears unit) none h = plain b (Clears unit) tt h

module _ (o : Opening) where
  closed_walk : ItemWalk o (λ t b. EachOf (AsIn t) b.links)
  closed_walk = record { item = λ now t ms b f h. closed_item o now t ms b f h; none = λ t b h. closed_empty o t b h; ends = λ t b exp max h. h }

  homes_walk : ItemWalk o (λ t b. SameHomes b t)
  homes_walk = record { item = λ now t ms b f h. homes_item o now t ms b f h; none = λ t b h. homes_empty o t b h; ends = λ t b exp max h. same_told b.tasks ∙ h }
    where
      same_told : (ts : List Task) → map home_of_task (map (λ (x : Task). record x { phase = phase_told x.phase }) ts) ≡ map home_of_task ts
      same_told [] = refl
      same_told (x ∷ ts) = ap (λ hs. home_of_task x ∷ hs) (same_told ts)

  pub together_begun : IsTogether o (begun o)
  together_begun = record {
    forms = tt;
    sounds = tt;
    lives = refl;
    homes = refl;
    cuts = each-new (λ (l : Link). l.cut ≡ true → l.closed ≡ true) (λ (c : ℕ × ℕ). new_link c.0) o.session.conns (λ c is. absurd (false≢true is));
    closed = each-new (AsIn []) (λ (c : ℕ × ℕ). new_link c.0) o.session.conns (λ c. refl);
  }

  pub together_event : (b : Both) (e : Event) → belongs o.session e ≡ true → IsTogether o b → IsTogether o (after_step o b (Happens e))
  together_event b e mine h =
      let entry : Entry = entry_of o.session b.event b.trace e in
      record {
        forms = event_going o.session b.event b.trace e h.forms;
        sounds = event_sound o.session b.event b.trace e mine h.sounds;
        lives = lives_event o b.event b.trace e b.box h.forms h.lives;
        homes = by_event o (λ t x. SameHomes x t) homes_walk b.event b.trace e b.box h.forms h.homes;
        cuts = moved_each StaysCut (λ (l : Link). l.cut ≡ true → l.closed ≡ true) (λ (l : Link). l.cut ≡ true → l.closed ≡ true) b.box.links (after_step o b (Happens e)).box.links (moved_event o StaysCut cut_close b.box entry.effects entry.numbers) (λ l m f k. f k) h.cuts;
        closed = by_event o (λ t x. EachOf (AsIn t) x.links) closed_walk b.event b.trace e b.box h.forms h.closed;
      }

  pub together_other : (b : Both) (c : Call) → TakesNone c → IsTogether o b → IsTogether o (after_step o b (Other c))
  together_other b c none h = record {
    forms = h.forms;
    sounds = h.sounds;
    lives = lives_call o b.box c b.trace none h.lives;
    homes = homes_call o b.box c b.trace none h.homes;
    cuts = each_call o StaysCut cut_call (λ (l : Link). l.cut ≡ true → l.closed ≡ true) (λ (l : Link). l.cut ≡ true → l.closed ≡ true) (λ l m f k. f k) (λ l m g f k. f k) b.box c none h.cuts;
    closed = each_call o SameClosed closed_call (AsIn b.trace) (AsIn b.trace) (λ l m v k. v.1 ∙ k ∙ ap (λ n. is_closed n b.trace) (sym v.0)) (λ l m g v k. v.1 ∙ k ∙ ap (λ n. is_closed n b.trace) (sym v.0)) b.box c none h.closed;
  }

  -- ---- what is seen of it

  -- a command that is live in the outbox is so in the session
  pub live_there : (b : Both) → IsTogether o b → (ticket : ℕ) → list_any (λ (t : Task). t.ticket == ticket && is_live_phase t.phase) b.box.tasks ≡ true → is_live_ticket b.trace ticket ≡ true
  live_there b h ticket some =
      sym (any_same (λ (d : Command). not (has (leaves_ticket d.ticket) b.trace) && d.ticket == ticket) (λ (d : Command). d.ticket == ticket && not (has (leaves_ticket d.ticket) b.trace)) (entered b.trace) (λ d. and_swap (not (has (leaves_ticket d.ticket) b.trace)) (d.ticket == ticket)))
      ∙ sym (any_filter (λ (d : Command). d.ticket == ticket) (λ (d : Command). not (has (leaves_ticket d.ticket) b.trace)) (entered b.trace))
      ∙ sym (list_any-map (λ k. k == ticket) (λ (d : Command). d.ticket) (live b.trace))
      ∙ ap (λ ks. contains ks ticket) (sym h.lives)
      ∙ list_any-map (λ k. k == ticket) (λ (t : Task). t.ticket) (filter (λ (t : Task). is_live_phase t.phase) b.box.tasks)
      ∙ any_filter (λ (t : Task). t.ticket == ticket) (λ (t : Task). is_live_phase t.phase) b.box.tasks
      ∙ any_same (λ (t : Task). is_live_phase t.phase && t.ticket == ticket) (λ (t : Task). t.ticket == ticket && is_live_phase t.phase) b.box.tasks (λ t. and_swap (is_live_phase t.phase) (t.ticket == ticket))
      ∙ some
    where
      and_swap : (u v : Bool) → (u && v) ≡ (v && u)
      and_swap true true = refl
      and_swap true false = refl
      and_swap false true = refl
      and_swap false false = refl

  -- the tickets of commands go up, and units are the session's
  pub tickets_up : (b : Both) → IsTogether o b → InOrder (λ (c d : Command). c.ticket < d.ticket) (entered b.trace)
  tickets_up b h = from_tickets (entered b.trace) 1 (length (entered b.trace)) (tickets_count o.session b.trace b.event h.forms)
    where
      all_from : (cs : List Command) (a n : ℕ) → map (λ (c : Command). c.ticket) cs ≡ range_with_len a n → EachOf (λ (c : Command). a ≤ c.ticket) cs
      all_from [] a n is = tt
      all_from (c ∷ cs) a zero is = absurd cc
      all_from (c ∷ cs) a (suc n) is =
          let first : c.ticket ≡ a = cc in
          let rest : map (λ (d : Command). d.ticket) cs ≡ range_with_len (a + 1) n = cc in
          ((let z : a ≤ c.ticket = omega (arith, first) in z), each-weaken (λ (d : Command). a + 1 ≤ d.ticket) (λ (d : Command). a ≤ d.ticket) cs (λ d le. omega (arith, le)) (all_from cs (a + 1) n rest))

      from_tickets : (cs : List Command) (a n : ℕ) → map (λ (c : Command). c.ticket) cs ≡ range_with_len a n → InOrder (λ (c d : Command). c.ticket < d.ticket) cs
      from_tickets [] a n is = tt
      from_tickets (c ∷ cs) a zero is = absurd cc
      from_tickets (c ∷ cs) a (suc n) is =
          let first : c.ticket ≡ a = cc in
          let rest : map (λ (d : Command). d.ticket) cs ≡ range_with_len (a + 1) n = cc in
          (each-weaken (λ (d : Command). a + 1 ≤ d.ticket) (λ (d : Command). c.ticket < d.ticket) cs (λ d le. omega (arith, le, first)) (all_from cs (a + 1) n rest), from_tickets cs (a + 1) n rest)

  pub units_there : (b : Both) → IsTogether o b → EachOf (λ (c : Command). c.unit < o.session.units) (entered b.trace)
  units_there b h = in_each (λ (c : Command). c.unit < o.session.units) (entered b.trace) (λ c there. (clear_of o.session b.trace h.sounds).units c there)
