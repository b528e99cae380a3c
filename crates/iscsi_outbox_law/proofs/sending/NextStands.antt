-- What is handed out in both, and what stands after it.
use Rattle.std.proofs.Common.{◌≡◌, ℕ, ◌<◌, ◌==◌, ◌&&◌, ◌||◌, ◌⊎◌, inl, inr, ⊎_elim, cond, Bool, true, false, List, length, filter, set, Option, Some, None, refl, ap, sym, subst, ◌∙◌, arith}
use Rattle.std.specs.List.{list_any}
use Rattle.std.proofs.lemmas.Bool.{eqb-true, eq-eqb, false≢true, true≢false, or_cases}
use Rattle.iscsi_rules.specs.rules.Settings.{are_distinct}
use Rattle.iscsi_arrivals.specs.Counts.{Counts}
use Rattle.iscsi_arrivals.specs.Stamps.{handed_out as handed_out_on}
use Rattle.iscsi_arrivals.specs.Standing.{StandsFor}
use Rattle.iscsi_outbox_rules.specs.rules.Calls.{Opening}
use Rattle.iscsi_outbox_rules.specs.rules.Boxes.{Task, Handed, Outgoing, Link, Box}
use Rattle.iscsi_outbox_rules.specs.rules.Words.{is_left_phase, is_live_phase, is_of, is_open, is_running_phase, max_shown}
use Rattle.iscsi_outbox_rules.specs.rules.Run.{new_link}
use Rattle.iscsi_outbox_state.specs.declared.waiting.Waiting.{Waiting}
use Rattle.iscsi_outbox_steps.specs.State.{State, link_at, max_shown as max_shown_steps}
use Rattle.iscsi_outbox_steps.specs.Steps.{is_live}
use Rattle.iscsi_tracked.specs.declared.command.Command.{Command}
use Rattle.iscsi_tracked.specs.Tracked.{Tracked, find_ticket}
use Rattle.iscsi_outbox_law.specs.private.Links.{place_of_command}
use Rattle.iscsi_outbox_law.specs.private.Commands.{ArePlaced, IsCommand, is_kept, is_under_way, link_in}
use Rattle.iscsi_outbox_law.specs.private.Sound.{HasHome, IsAlive, IsLinkSound, IsSound}
use Rattle.iscsi_outbox_law.specs.private.Stands.{Stands}
use Rattle.iscsi_outbox_law.proofs.general.PairLemmas.{each-at}
use Rattle.iscsi_outbox_law.proofs.general.Members.{In, any_from, each-in, filter_in, find_in, in_find, order-weaken, pair_for, pair_of, in_filter}
use Rattle.iscsi_outbox_law.proofs.general.PlaceLemmas.{IsPlace, one_place, place_found}
use Rattle.iscsi_outbox_law.proofs.connections.Standing.{counts_at}
use Rattle.iscsi_outbox_law.proofs.queues.Waiting.{live_as, max_shown_is}
use Rattle.iscsi_outbox_law.proofs.sending.Fencing.{apart}
use Rattle.iscsi_outbox_law.proofs.commands.Homes.{one_home}
use Rattle.iscsi_outbox_law.proofs.sending.HandedLemmas.{fence_kept}
use Rattle.iscsi_outbox_law.proofs.sending.Giving.{WaitsFirst}
use Rattle.iscsi_outbox_law.proofs.sending.Nexts.{hand_plain}

-- ---- what a waiting PDU is of

-- of no command that is kept
pub record OfNone (b : Box) (item : Waiting) (out : Outgoing) : Type 0 where
  pub command : item.command ≡ None
  pub none : (t : Task) → In t b.tasks → (is_live_phase t.phase || is_left_phase t.phase) ≡ true → is_of (λ k. k == t.ticket) out ≡ false

-- of a live one of its connection
pub record OfLive (v : Tracked) (b : Box) (p : ℕ) (item : Waiting) (out : Outgoing) : Type 0 where
  pub of : Command
  pub kept : In of v.commands
  pub live : is_live of ≡ true
  pub conn_is : of.conn ≡ p
  pub ticket : out.ticket ≡ Some of.ticket
  pub command : item.command ≡ Some of.place
  pub none : (t : Task) → In t b.tasks → is_left_phase t.phase ≡ true → is_of (λ k. k == t.ticket) out ≡ false

named_by : (x : Option ℕ) (k : ℕ) → (elim x as (λ (y : Option ℕ). Bool) [ Some n ↦ n == k | None ↦ false ]) ≡ true → x ≡ Some k
named_by None k is = absurd (false≢true is)
named_by (Some n) k is = ap Some (eqb-true n k is)

unless : (v : Bool) → (v ≡ true → ⊥) → v ≡ false
unless true k = absurd (k refl)
unless false k = refl

left_unnamed : (tasks : List Task) (out : Outgoing) (t : Task) → IsAlive tasks out → In t tasks → is_left_phase t.phase ≡ true → is_of (λ k. k == t.ticket) out ≡ false
left_unnamed tasks out t alive at left =
    unless (is_of (λ k. k == t.ticket) out) (λ is.
    let named : out.ticket ≡ Some t.ticket = named_by (out.ticket) t.ticket is in
    let some : list_any (λ (x : Task). x.ticket == t.ticket && is_left_phase x.phase) tasks ≡ true =
    any_from (λ (x : Task). x.ticket == t.ticket && is_left_phase x.phase) tasks t at (ap (λ (v : Bool). v && is_left_phase t.phase) (eq-eqb t.ticket t.ticket refl) ∙ left) in
    let it : list_any (λ (x : Task). x.ticket == t.ticket && is_left_phase x.phase) tasks ≡ false =
    sym (ap (λ (x : Option ℕ). elim x as (λ (y : Option ℕ). Bool) [ Some n ↦ list_any (λ (z : Task). z.ticket == n && is_left_phase z.phase) tasks | None ↦ false ]) named) ∙ alive in
    true≢false (sym some ∙ it))

pub live_kept : (under : ℕ → Bool) (t : Task) → is_live_phase t.phase ≡ true → is_kept under t ≡ true
live_kept under t live = ap (λ (v : Bool). v || (is_running_phase t.phase || (is_left_phase t.phase && under t.ticket))) live

pub found_ticket : (v : Tracked) (c : Command) (k : ℕ) → ArePlaced v → In c v.commands → c.ticket ≡ k → find_ticket k v ≡ Some c
found_ticket v c k placed at is =
    in_find (λ (x : Command). x.ticket == k) v.commands c at (eq-eqb c.ticket k is)
    (order-weaken (λ (x y : Command). x.ticket < y.ticket) (λ (x y : Command). (x.ticket == k) ≡ true → (y.ticket == k) ≡ true → ⊥) v.commands
    (λ x y lt here there. (let i = eqb-true x.ticket k here in let j = eqb-true y.ticket k there in omega (arith, lt, i, j))) placed.ascending)

module _ (o : Opening) (s : State) (b : Box) (h : Stands o s b) (sound : IsSound o b) (distinct : are_distinct o.session.conns ≡ true) (p : ℕ) (within : p < length b.links) where
  abbrev l : Link
  l = link_in b.links p

  home_task : (out : Outgoing) (k : ℕ) → HasHome b.tasks l.conn out → out.ticket ≡ Some k → list_any (λ (t : Task). t.ticket == k && t.conn == l.conn) b.tasks ≡ true
  home_task out k home is = subst (λ (x : Option ℕ). (elim x as (λ (y : Option ℕ). Type 0) [ Some n ↦ list_any (λ (t : Task). t.ticket == n && t.conn == l.conn) b.tasks ≡ true | None ↦ Unit {0} ])) is home

  -- a live task has a live command
  live_command_of : (t : Task) (k : ℕ) → In t b.tasks → is_live_phase t.phase ≡ true → t.ticket ≡ k → (c : Command) × (find_ticket k s.tracked ≡ Some c) × (is_live c ≡ true)
  live_command_of t k at live is =
      let x : (c : Command) × In c s.tracked.commands × IsCommand (is_under_way o b.links) s.limits.cids b.links c t =
      pair_for (IsCommand (is_under_way o b.links) s.limits.cids b.links) s.tracked.commands (filter (is_kept (is_under_way o b.links)) b.tasks) t
      (filter_in (is_kept (is_under_way o b.links)) b.tasks t at (live_kept (is_under_way o b.links) t live)) h.commands in
      (x.0, found_ticket s.tracked x.0 k h.placed x.1 (x.2.ticket ∙ is), live_as x.0 t x.2.phase ∙ live)

  conn_of_live : (c : Command) (out : Outgoing) → In c s.tracked.commands → HasHome b.tasks l.conn out → out.ticket ≡ Some c.ticket → c.conn ≡ p
  conn_of_live c out kept home is =
      let k : (t : Task) × In t (filter (is_kept (is_under_way o b.links)) b.tasks) × IsCommand (is_under_way o b.links) s.limits.cids b.links c t =
      pair_of (IsCommand (is_under_way o b.links) s.limits.cids b.links) s.tracked.commands (filter (is_kept (is_under_way o b.links)) b.tasks) c kept h.commands in
      let f = in_filter (is_kept (is_under_way o b.links)) b.tasks k.0 k.1 in
      let at : IsPlace b.links k.0.conn c.conn = place_found s.limits.cids b.links k.0.conn c.conn h.links.conns k.2.conn in
      let same : k.0.conn ≡ l.conn =
      one_home b.tasks k.0 l.conn sound.homes.ascending f.0 (subst (λ n. list_any (λ (t : Task). t.ticket == n && t.conn == l.conn) b.tasks ≡ true) k.2.ticket (home_task out c.ticket home is)) in
      one_place b.links c.conn p (apart o s b h sound distinct) at.within within (at.is ∙ same)

  sl : IsLinkSound o b.tasks (link_in b.links p)
  sl = each-at (IsLinkSound o b.tasks) b.links p (new_link 0) within sound.links

  module _ (item : Waiting) (out : Outgoing) (w : WaitsFirst o s b l p item out) where
    pub first_in : In out (link_in b.links p).queue
    first_in = subst (λ (q : List Outgoing). In out q) (sym w.out_first) (inl refl)

    left_none : (t : Task) → In t b.tasks → is_left_phase t.phase ≡ true → is_of (λ k. k == t.ticket) out ≡ false
    left_none t at left = left_unnamed b.tasks out t (each-in (IsAlive b.tasks) (link_in b.links p).queue out first_in sl.alive) at left

    command_is : item.command ≡ place_of_command s.tracked out.ticket
    command_is = ap (λ (i : Waiting). i.command) (sym w.item_is) ∙ w.is.command

    none_by : ((t : Task) → In t b.tasks → is_live_phase t.phase ≡ true → out.ticket ≡ Some t.ticket → ⊥) → (t : Task) → In t b.tasks → (is_live_phase t.phase || is_left_phase t.phase) ≡ true → is_of (λ k. k == t.ticket) out ≡ false
    none_by none t at alive =
        ⊎_elim (λ live. unless (is_of (λ k. k == t.ticket) out) (λ is. none t at live (named_by (out.ticket) t.ticket is))) (λ left. left_none t at left)
        (or_cases (is_live_phase t.phase) (is_left_phase t.phase) alive)

    pub of_what : OfNone b item out ⊎ OfLive s.tracked b p item out
    of_what = by_ticket (out.ticket) refl
      where
        by_live : (k : ℕ) (c : Command) (v : Bool) → out.ticket ≡ Some k → find_ticket k s.tracked ≡ Some c → is_live c ≡ v → OfNone b item out ⊎ OfLive s.tracked b p item out
        by_live k c true is found live =
            let kept = find_in (λ (x : Command). x.ticket == k) s.tracked.commands c found in
            let named : out.ticket ≡ Some c.ticket = is ∙ ap Some (sym (eqb-true c.ticket k kept.1)) in
            inr (record {
              of = c;
              kept = kept.0;
              live = live;
              conn_is = conn_of_live c out kept.0 (each-in (HasHome b.tasks (link_in b.links p).conn) (link_in b.links p).queue out first_in sl.queued) named;
              ticket = named;
              command = command_is ∙ ap (place_of_command s.tracked) is ∙ ap (λ (x : Option Command). elim x as (λ (y : Option Command). Option ℕ) [ Some d ↦ cond (is_live d) (Some d.place) None | None ↦ None ]) found ∙ ap (λ (v : Bool). cond v (Some c.place) None) live;
              none = left_none;
            })
        by_live k c false is found live =
            inl (record {
              command = command_is ∙ ap (place_of_command s.tracked) is ∙ ap (λ (x : Option Command). elim x as (λ (y : Option Command). Option ℕ) [ Some d ↦ cond (is_live d) (Some d.place) None | None ↦ None ]) found ∙ ap (λ (v : Bool). cond v (Some c.place) None) live;
              none = none_by (λ t at alive named.
                  let same : t.ticket ≡ k = (let e : Some t.ticket ≡ Some k = sym named ∙ is in cc) in
                  let x = live_command_of t k at alive same in
                  let d : x.0 ≡ c = (let e : Some x.0 ≡ Some c = sym x.1 ∙ found in cc) in
                  true≢false (sym x.2 ∙ ap is_live d ∙ live));
            })

        by_ticket : (x : Option ℕ) → out.ticket ≡ x → OfNone b item out ⊎ OfLive s.tracked b p item out
        by_ticket None is =
            inl (record {
              command = command_is ∙ ap (place_of_command s.tracked) is;
              none = none_by (λ t at alive named. (let e : None ≡ Some t.ticket = sym is ∙ named in cc));
            })
        by_ticket (Some k) is = by_found (find_ticket k s.tracked) refl
          where
            by_found : (x : Option Command) → find_ticket k s.tracked ≡ x → OfNone b item out ⊎ OfLive s.tracked b p item out
            by_found None found =
                inl (record {
                  command = command_is ∙ ap (place_of_command s.tracked) is ∙ ap (λ (x : Option Command). elim x as (λ (y : Option Command). Option ℕ) [ Some d ↦ cond (is_live d) (Some d.place) None | None ↦ None ]) found;
                  none = none_by (λ t at alive named.
                      let same : t.ticket ≡ k = (let e : Some t.ticket ≡ Some k = sym named ∙ is in cc) in
                      let x = live_command_of t k at alive same in
                      let e : Some x.0 ≡ None = sym x.1 ∙ found in cc);
                })
            by_found (Some c) found = by_live k c (is_live c) is found refl

  -- ---- a ping or a notice

  was : StandsFor (link_at s p) (link_in b.links p)
  was = counts_at (is_under_way o b.links) o s b h p within

  pub next_plain : (g : Handed) (c' : Counts) → is_open l ≡ true → StandsFor c' (handed_out_on g l) → g.out.ticket ≡ None → g.out.fenced ≡ false
      → Stands o (record s { links = set s.links p c'; shown = max_shown_steps s; reached = max_shown_steps s }) (record b { links = set b.links p (handed_out_on g l); shown = max_shown o b; reached = max_shown o b })
  next_plain g c' opens counts untold plain =
      subst (λ n. Stands o (record s { links = set s.links p c'; shown = max_shown_steps s; reached = max_shown_steps s }) (record b { links = set b.links p (handed_out_on g l); shown = n; reached = n })) (max_shown_is o s b h)
      (hand_plain o s b h p g within opens c' counts (λ t at alive. ap (λ (x : Option ℕ). elim x as (λ (y : Option ℕ). Bool) [ Some n ↦ n == t.ticket | None ↦ false ]) untold) (s.fence) (max_shown_steps s)
      (fence_kept o b.links p g within opens was.within was.few_written s.limits.looks s.fence plain h.fence))
