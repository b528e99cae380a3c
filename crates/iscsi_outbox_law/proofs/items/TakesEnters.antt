-- All commands that enter in an item.
use Rattle.std.proofs.Common.{◌≡◌, ℕ, ◌+◌, ◌<◌, ◌≤◌, ◌==◌, ◌&&◌, ◌||◌, not, nat_lt, cond, Bool, true, List, [], ◌∷◌, ◌++◌, length, map, filter_map, Option, Some, None, refl, ap, sym, subst, ◌∙◌, arith, append-nil, append_assoc, lt-ltb}
use Rattle.std.specs.List.{list_any}
use Rattle.std.proofs.lemmas.Bool.{and_from, true≢false}
use Rattle.std.proofs.lemmas.List.{length-map, length_push}
use Rattle.std.proofs.lemmas.List.Folds.{list_any-append}
use Rattle.iscsi_wire.specs.declared.request.Request.{Request}
use Rattle.iscsi_wire.specs.Fields.{connection_of, is_immediate, itt}
use Rattle.iscsi_rules.specs.declared.effect.Effect.{Effect}
use Rattle.iscsi_rules.specs.declared.effect.Effect.TheVariants.{Deliver, Immediate, Wait, Void, Empty, Enter, Enable, Leave, Send, CloseConn, CloseSession, Ignore}
use Rattle.iscsi_rules.specs.rules.Settings.{is_known}
use Rattle.iscsi_lists.specs.Lists.{last_of}
use Rattle.iscsi_outbox_rules.specs.rules.Calls.{Opening}
use Rattle.iscsi_outbox_rules.specs.rules.Boxes.{Dormant, Task, Outgoing, Handed, Link, Box}
use Rattle.iscsi_outbox_rules.specs.rules.Items.{task_entered}
use Rattle.iscsi_outbox_steps.specs.State.{State, Limits, place_of}
use Rattle.iscsi_outbox_steps.specs.Steps.{enter_command, enter_each, entering, may_enter}
use Rattle.iscsi_tracked.specs.Tracked.{as_command, entered, next_place}
use Rattle.iscsi_outbox_law.specs.private.Pairs.{EachOf, InOrder}
use Rattle.iscsi_outbox_law.specs.private.Commands.{is_under_way}
use Rattle.iscsi_outbox_law.specs.private.Sound.{HasHome, entries_of}
use Rattle.iscsi_outbox_law.specs.private.Stands.{Stands}
use Rattle.iscsi_outbox_law.proofs.general.PairLemmas.{each-append, each-both, each-weaken}
use Rattle.iscsi_outbox_law.proofs.general.PlaceLemmas.{IsPlace}
use Rattle.iscsi_outbox_law.proofs.connections.Standing.{cids_are, stands_nowhere, stands_there}
use Rattle.iscsi_outbox_law.proofs.items.TakesEntering.{entered_stands}

-- ---- connections that are there

-- a connection of the session has its place
pub place_known : (o : Opening) (s : State) (b : Box) → Stands o s b → (cid : ℕ) → is_known cid o.session.conns ≡ true → (p : ℕ) × (place_of s cid ≡ Some p)
place_known o s b h cid known = by_place (place_of s cid) refl
  where
    any_first : (cs : List (ℕ × ℕ)) → is_known cid cs ≡ list_any (λ k. k == cid) (map (λ (c : ℕ × ℕ). c.0) cs)
    any_first [] = refl
    any_first (c ∷ cs) = ap (λ (v : Bool). (c.0 == cid) || v) (any_first cs)

    by_place : (x : Option ℕ) → place_of s cid ≡ x → (p : ℕ) × (place_of s cid ≡ Some p)
    by_place (Some p) found = (p, found)
    by_place None none =
        absurd (true≢false (sym known ∙ any_first o.session.conns ∙ ap (list_any (λ k. k == cid)) (sym (cids_are (is_under_way o b.links) o s b h) ∙ sym h.links.conns) ∙ stands_nowhere (is_under_way o b.links) o s b h cid none))

-- ---- homes

-- what was handed out, and what waits, is of commands that entered on its connection
pub record AreHome (tasks : List Task) (links : List Link) : Type 0 where
  pub handed : EachOf (λ (l : Link). EachOf (λ (g : Handed). HasHome tasks l.conn g.out) l.handed) links
  pub queued : EachOf (λ (l : Link). EachOf (HasHome tasks l.conn) l.queue) links

pub home_more : (tasks more : List Task) (conn : ℕ) (out : Outgoing) → HasHome tasks conn out → HasHome (tasks ++ more) conn out
home_more tasks more conn out h = by_ticket (out.ticket) h
  where
    by_ticket : (x : Option ℕ) → (elim x as (λ (y : Option ℕ). Type 0) [ Some k ↦ list_any (λ (t : Task). t.ticket == k && t.conn == conn) tasks ≡ true | None ↦ Unit {0} ])
        → (elim x as (λ (y : Option ℕ). Type 0) [ Some k ↦ list_any (λ (t : Task). t.ticket == k && t.conn == conn) (tasks ++ more) ≡ true | None ↦ Unit {0} ])
    by_ticket None k = tt
    by_ticket (Some n) k =
        list_any-append (λ (t : Task). t.ticket == n && t.conn == conn) tasks more ∙ ap (λ (w : Bool). w || list_any (λ (t : Task). t.ticket == n && t.conn == conn) more) k

pub homes_more : (tasks more : List Task) (links : List Link) → AreHome tasks links → AreHome (tasks ++ more) links
homes_more tasks more links h = record {
  handed = each-weaken (λ (l : Link). EachOf (λ (g : Handed). HasHome tasks l.conn g.out) l.handed) (λ (l : Link). EachOf (λ (g : Handed). HasHome (tasks ++ more) l.conn g.out) l.handed) links
      (λ l k. each-weaken (λ (g : Handed). HasHome tasks l.conn g.out) (λ (g : Handed). HasHome (tasks ++ more) l.conn g.out) l.handed (λ g j. home_more tasks more l.conn g.out j) k) h.handed;
  queued = each-weaken (λ (l : Link). EachOf (HasHome tasks l.conn) l.queue) (λ (l : Link). EachOf (HasHome (tasks ++ more) l.conn) l.queue) links
      (λ l k. each-weaken (HasHome tasks l.conn) (HasHome (tasks ++ more) l.conn) l.queue (λ out j. home_more tasks more l.conn out j) k) h.queued;
}

-- ---- the walk

module _ (o : Opening) (r : Request) (known : is_known (connection_of r) o.session.conns ≡ true) where
  abbrev task : ℕ → ℕ → Task
  task ticket unit = record { ticket = ticket; conn = connection_of r; unit = unit; tag = itt r; numbered = not (is_immediate r); phase = Dormant }

  -- tickets go up, units are those of the session, and there are places
  pub record MayEnter (s : State) (tasks : List Task) (entries : List (ℕ × ℕ)) : Type 0 where
    pub above : EachOf (λ (e : ℕ × ℕ). EachOf (λ (t : Task). t.ticket < e.0) tasks × (e.1 < o.session.units)) entries
    pub ascending : InOrder (λ (d e : ℕ × ℕ). d.0 < e.0) entries
    pub newest : EachOf (λ (e : ℕ × ℕ). s.tracked.last < e.0) entries
    pub room : length s.tracked.commands + length entries ≤ s.tracked.room

  one_enters : (s : State) (b : Box) (ticket unit : ℕ) (entries : List (ℕ × ℕ)) → Stands o s b → AreHome b.tasks b.links → MayEnter s b.tasks ((ticket, unit) ∷ entries)
      → (place : ℕ) × (p : ℕ) × (elim (place_of s (connection_of r)) as (λ (x : Option ℕ). State) [ Some conn ↦ enter_command (entering conn r ticket unit) s | None ↦ s ] ≡ record s { tracked = entered (entering p r ticket unit) place s.tracked })
      × Stands o (record s { tracked = entered (entering p r ticket unit) place s.tracked }) (record b { tasks = b.tasks ++ task ticket unit ∷ [] })
  one_enters s b ticket unit entries h homes may = (
    free.0,
    at.0,
    ap (λ (x : Option ℕ). elim x as (λ (y : Option ℕ). State) [ Some conn ↦ enter_command (entering conn r ticket unit) s | None ↦ s ]) at.1
        ∙ ap (λ (x : Option ℕ). elim x as (λ (y : Option ℕ). State) [ Some place ↦ cond (may_enter (entering at.0 r ticket unit) s) (record s { tracked = entered (entering at.0 r ticket unit) place s.tracked }) s | None ↦ s ]) free.1
        ∙ ap (λ (w : Bool). cond w (record s { tracked = entered (entering at.0 r ticket unit) free.0 s.tracked }) s) allowed,
    entered_stands o s b h homes.handed homes.queued (entering at.0 r ticket unit) (connection_of r) at.1 may.above.0.0 may.newest.0 within free.0 free.1,
  )
    where
      at : (p : ℕ) × (place_of s (connection_of r) ≡ Some p)
      at = place_known o s b h (connection_of r) known

      within : at.0 < length s.tracked.trails
      within =
          let k : IsPlace b.links (connection_of r) at.0 = stands_there (is_under_way o b.links) o s b h (connection_of r) at.0 at.1 in
          let e = h.sizes.trails in
          let f : length s.limits.cids ≡ length b.links = ap length (sym h.links.conns) ∙ length-map b.links (λ (l : Link). l.conn) in
          omega (arith, k.within, e, f)

      last_some : (ns : List ℕ) → 1 ≤ length ns → (n : ℕ) × (last_of ns ≡ Some n)
      last_some [] some = absurd (omega (arith, some))
      last_some (n ∷ ns) some = (_, refl)

      free : (place : ℕ) × (next_place s.tracked ≡ Some place)
      free = last_some s.tracked.free (let e = h.placed.counted in let f = may.room in omega (arith, e, f))

      allowed : may_enter (entering at.0 r ticket unit) s ≡ true
      allowed =
          and_from (nat_lt s.tracked.last ticket) (nat_lt unit s.limits.units) (lt-ltb s.tracked.last ticket may.newest.0)
          (lt-ltb unit s.limits.units (let e : s.limits.units ≡ o.session.units = ap (λ (l : Limits). l.units) h.sizes.limits in let f = may.above.0.1 in omega (arith, e, f)))

  rest_may : (s : State) (b : Box) (ticket unit place p : ℕ) (entries : List (ℕ × ℕ)) → MayEnter s b.tasks ((ticket, unit) ∷ entries)
      → MayEnter (record s { tracked = entered (entering p r ticket unit) place s.tracked }) (b.tasks ++ task ticket unit ∷ []) entries
  rest_may s b ticket unit place p entries may = record {
    above = each-weaken (λ (e : ℕ × ℕ). (ticket < e.0) × (EachOf (λ (t : Task). t.ticket < e.0) b.tasks × (e.1 < o.session.units))) (λ (e : ℕ × ℕ). EachOf (λ (t : Task). t.ticket < e.0) (b.tasks ++ task ticket unit ∷ []) × (e.1 < o.session.units)) entries
        (λ e k. (each-append (λ (t : Task). t.ticket < e.0) b.tasks (task ticket unit ∷ []) k.1.0 (k.0, tt), k.1.1))
        (each-both (λ (e : ℕ × ℕ). ticket < e.0) (λ (e : ℕ × ℕ). EachOf (λ (t : Task). t.ticket < e.0) b.tasks × (e.1 < o.session.units)) entries may.ascending.0 may.above.1);
    ascending = may.ascending.1;
    newest = may.ascending.0;
    room = (let e = may.room in let f = length_push s.tracked.commands (as_command (entering p r ticket unit) place) in omega (arith, e, f));
  }

  pub enters_from : (effects : List Effect) (s : State) (b : Box) → Stands o s b → AreHome b.tasks b.links → MayEnter s b.tasks (entries_of effects)
      → Stands o (enter_each r effects s) (record b { tasks = b.tasks ++ filter_map (task_entered r) effects })
  enters_from [] s b h homes may = subst (λ ts. Stands o s (record b { tasks = ts })) (sym (append-nil b.tasks)) h
  enters_from (Deliver x ∷ effects) s b h homes may = enters_from effects s b h homes may
  enters_from (Immediate x ∷ effects) s b h homes may = enters_from effects s b h homes may
  enters_from (Wait x ∷ effects) s b h homes may = enters_from effects s b h homes may
  enters_from (Void sn ∷ effects) s b h homes may = enters_from effects s b h homes may
  enters_from (Empty sn ∷ effects) s b h homes may = enters_from effects s b h homes may
  enters_from (Enter ticket unit attr ∷ effects) s b h homes may =
      let k = one_enters s b ticket unit (entries_of effects) h homes may in
      subst (λ x. Stands o (enter_each r effects x) (record b { tasks = b.tasks ++ task ticket unit ∷ filter_map (task_entered r) effects })) (sym k.2)
      (subst (λ ts. Stands o (enter_each r effects (record s { tracked = entered (entering k.1 r ticket unit) k.0 s.tracked })) (record b { tasks = ts })) (append_assoc b.tasks (task ticket unit ∷ []) (filter_map (task_entered r) effects))
      (enters_from effects (record s { tracked = entered (entering k.1 r ticket unit) k.0 s.tracked }) (record b { tasks = b.tasks ++ task ticket unit ∷ [] }) k.3
      (homes_more b.tasks (task ticket unit ∷ []) b.links homes) (rest_may s b ticket unit k.0 k.1 (entries_of effects) may)))
  enters_from (Enable ticket unit ∷ effects) s b h homes may = enters_from effects s b h homes may
  enters_from (Leave ticket unit ∷ effects) s b h homes may = enters_from effects s b h homes may
  enters_from (Send conn stat_sn reply ∷ effects) s b h homes may = enters_from effects s b h homes may
  enters_from (CloseConn conn ∷ effects) s b h homes may = enters_from effects s b h homes may
  enters_from (CloseSession ∷ effects) s b h homes may = enters_from effects s b h homes may
  enters_from (Ignore why ∷ effects) s b h homes may = enters_from effects s b h homes may
