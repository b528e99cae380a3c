-- Whether a PDU of the target's own is taken, and the state after it.
use Rattle.std.proofs.Common.{◌≡◌, ℕ, ◌-◌, ◌<◌, ◌^◌, ◌⊎◌, inl, inr, ⊎_elim, not, cond, Bool, true, false, Option, Some, None, refl, ap, sym, subst, ◌∙◌, arith, lt-ltb}
use Rattle.std.proofs.lemmas.Bool.{leb-false}
use Rattle.iscsi_rules.specs.rules.Settings.{are_distinct}
use Rattle.iscsi_arrivals.specs.Counts.{is_usable_by}
use Rattle.iscsi_outbox_rules.specs.promises.Room.{Fits}
use Rattle.iscsi_outbox_rules.specs.declared.own_pdu.OwnPdu.{OwnPdu}
use Rattle.iscsi_outbox_rules.specs.declared.own_pdu.OwnPdu.TheVariants.{OfCommand, OfConnection}
use Rattle.iscsi_outbox_rules.specs.declared.own_pdu.PutRefusal.{PutRefusal}
use Rattle.iscsi_outbox_rules.specs.declared.own_pdu.PutRefusal.TheVariants.{Unfit, Gone as GoneRefusal, Closed, Full}
use Rattle.iscsi_outbox_rules.specs.rules.Calls.{Opening}
use Rattle.iscsi_outbox_rules.specs.rules.Boxes.{Task, Box}
use Rattle.iscsi_outbox_rules.specs.rules.Queues.{enter as enter_box}
use Rattle.iscsi_outbox_rules.specs.rules.Own.{after_put, is_fit, own_conn, own_outgoing, own_ticket, put_refusal as put_refusal_box, refusal_on as refusal_on_box}
use Rattle.iscsi_outbox_steps.specs.State.{State, link_at, place_of}
use Rattle.iscsi_outbox_steps.specs.Steps.{absent, enter, has_time, home_of, is_full, is_live, own_item, put, put_refusal, refusal_on}
use Rattle.iscsi_tracked.specs.declared.command.Command.{Command}
use Rattle.iscsi_outbox_law.specs.private.Links.{place_of_command}
use Rattle.iscsi_outbox_law.specs.private.Commands.{is_under_way, link_in}
use Rattle.iscsi_outbox_law.specs.private.Sound.{IsSound}
use Rattle.iscsi_outbox_law.specs.private.Stands.{Stands}
use Rattle.iscsi_outbox_law.proofs.general.PlaceLemmas.{IsPlace, place_found}
use Rattle.iscsi_outbox_law.proofs.connections.Standing.{links_apart, stands_there}
use Rattle.iscsi_outbox_law.proofs.queues.Entering.{enter_stands}
use Rattle.iscsi_outbox_law.proofs.queues.Rooms.{own_on, room_is}
use Rattle.iscsi_outbox_law.proofs.calls.Calm.{own_few, room_there}
use Rattle.iscsi_outbox_law.proofs.queues.Puts.{AreLive, NoneLive, both_live, full_is, own_less, refused_nowhere, refused_there}

-- where it goes out, in both
pub record HasPlace (s : State) (b : Box) (p : OwnPdu) : Type 0 where
  pub place : ℕ
  pub command : Option ℕ
  pub cid : ℕ
  pub home : home_of p s ≡ Some (place, command)
  pub conn : own_conn b p ≡ Some cid
  pub at : IsPlace b.links cid place
  pub command_is : command ≡ place_of_command s.tracked (own_ticket p)

abbrev refused_by : Opening → Box → Option ℕ → Option PutRefusal
refused_by o b x = elim x as (λ (y : Option ℕ). Option PutRefusal) [ Some conn ↦ refusal_on_box o b conn | None ↦ Some GoneRefusal ]

pub record HasNone (o : Opening) (s : State) (b : Box) (p : OwnPdu) : Type 0 where
  pub home : home_of p s ≡ None
  pub refused : refused_by o b (own_conn b p) ≡ Some (absent p)

module _ (o : Opening) (s : State) (b : Box) (h : Stands o s b) (sound : IsSound o b) (distinct : are_distinct o.session.conns ≡ true) (p : OwnPdu) where
  homes : (q : OwnPdu) → HasPlace s b q ⊎ HasNone o s b q
  homes (OfCommand ticket header) = ⊎_elim
      (λ (k : AreLive o s b ticket). inl (record {
        place = k.command.conn;
        command = Some k.command.place;
        cid = k.task.conn;
        home = ap (λ (x : Option Command). elim x as (λ (y : Option Command). Option (ℕ × Option ℕ)) [ Some c ↦ Some (c.conn, Some c.place) | None ↦ None ]) k.found;
        conn = ap (λ (x : Option Task). elim x as (λ (y : Option Task). Option ℕ) [ Some t ↦ Some t.conn | None ↦ None ]) k.found_task;
        at = place_found s.limits.cids b.links k.task.conn k.command.conn h.links.conns k.is.conn;
        command_is = sym (ap (λ (x : Option Command). elim x as (λ (y : Option Command). Option ℕ) [ Some c ↦ cond (is_live c) (Some c.place) None | None ↦ None ]) k.ticket_is ∙ ap (λ (v : Bool). cond v (Some k.command.place) None) k.live);
      }))
      (λ (k : NoneLive s b ticket). inr (record {
        home = ap (λ (x : Option Command). elim x as (λ (y : Option Command). Option (ℕ × Option ℕ)) [ Some c ↦ Some (c.conn, Some c.place) | None ↦ None ]) k.found;
        refused = ap (λ (x : Option Task). refused_by o b (elim x as (λ (y : Option Task). Option ℕ) [ Some t ↦ Some t.conn | None ↦ None ])) k.found_task;
      }))
      (both_live o s b h sound distinct ticket)
  homes (OfConnection cid header) = by_place (place_of s cid) refl
    where
      by_place : (x : Option ℕ) → place_of s cid ≡ x → HasPlace s b (OfConnection cid header) ⊎ HasNone o s b (OfConnection cid header)
      by_place (Some place) found = inl (record {
        place = place;
        command = None;
        cid = cid;
        home = ap (λ (x : Option ℕ). elim x as (λ (y : Option ℕ). Option (ℕ × Option ℕ)) [ Some conn ↦ Some (conn, None) | None ↦ None ]) found;
        conn = refl;
        at = stands_there (is_under_way o b.links) o s b h cid place found;
        command_is = refl;
      })
      by_place None none = inr (record {
        home = ap (λ (x : Option ℕ). elim x as (λ (y : Option ℕ). Option (ℕ × Option ℕ)) [ Some conn ↦ Some (conn, None) | None ↦ None ]) none;
        refused = sym (refused_nowhere o s b h sound distinct cid none);
      })

  abbrev step_refusal : Option (ℕ × Option ℕ) → Option PutRefusal
  step_refusal x = elim x as (λ (y : Option (ℕ × Option ℕ)). Option PutRefusal) [ Some home ↦ refusal_on home.0 s | None ↦ Some (absent p) ]

  refused_home : step_refusal (home_of p s) ≡ refused_by o b (own_conn b p)
  refused_home = ⊎_elim
      (λ (k : HasPlace s b p). ap step_refusal k.home ∙ refused_there o s b h sound distinct k.cid k.place k.at ∙ sym (ap (refused_by o b) k.conn))
      (λ (k : HasNone o s b p). ap step_refusal k.home ∙ sym k.refused)
      (homes p)

  pub puts_answered : put_refusal p s ≡ put_refusal_box o b p
  puts_answered = elim (not (is_fit p)) as (λ v. cond v (Some Unfit) (step_refusal (home_of p s)) ≡ cond v (Some Unfit) (refused_by o b (own_conn b p))) [ true ↦ refl | false ↦ refused_home ]

  -- ---- the state after it

  module _ (fits : Fits o b) (timed : b.time < 2 ^ 64 - 1) where
    abbrev steps_by : Option PutRefusal → Option (ℕ × Option ℕ) → State
    steps_by r x = elim r as (λ (z : Option PutRefusal). State) [
      | Some refusal ↦ s
      | None ↦ elim x as (λ (y : Option (ℕ × Option ℕ)). State) [ Some home ↦ enter home.0 (own_item p home.1) s | None ↦ s ]
    ]

    abbrev box_by : Option PutRefusal → Option ℕ → Box
    box_by r x = elim r as (λ (z : Option PutRefusal). Box) [ Some refusal ↦ b | None ↦ elim x as (λ (y : Option ℕ). Box) [ Some conn ↦ enter_box conn (own_outgoing p) b | None ↦ b ] ]

    entered : (k : HasPlace s b p) → refusal_on k.place s ≡ None → Stands o (enter k.place (own_item p k.command) s) (enter_box k.cid (own_outgoing p) b)
    entered k free =
        enter_stands o s b h (links_apart (is_under_way o b.links) o s b h distinct) k.cid k.place k.at (own_item p k.command) (own_outgoing p)
        (record { pdu = refl; sent = refl; takes = refl; fenced = refl; numbered = refl; ends = refl; command = k.command_is }) has_time_now
        (room_is (is_under_way o b.links) o s b h
        (let e = own_less o.own b.links k.place k.at.within room_left (own_few o s b h sound distinct) in let f = room_there o s b h sound distinct fits in omega (arith, e, f)) has_time_now)
      where
        has_time_now : has_time s.waits ≡ true
        has_time_now = lt-ltb s.waits.time (2 ^ 64 - 1) (omega (arith, h.numbers.time, timed))

        not_full : (u f : Bool) → cond u (cond f (Some Full) None) (Some Closed) ≡ None → f ≡ false
        not_full true true e = absurd cc
        not_full true false e = refl
        not_full false f e = absurd cc

        room_left : own_on (link_in b.links k.place) < o.own
        room_left = leb-false o.own (own_on (link_in b.links k.place)) (sym (full_is o s b h sound distinct k.place k.at.within) ∙ not_full (is_usable_by (link_at s k.place)) (is_full k.place s) free)

    by_refusal : (r : Option PutRefusal) → put_refusal p s ≡ r → Stands o (steps_by r (home_of p s)) (box_by r (own_conn b p))
    by_refusal (Some refusal) is = h
    by_refusal None is = ⊎_elim
        (λ (k : HasPlace s b p).
        subst (λ (x : Option (ℕ × Option ℕ)). Stands o (steps_by None x) (box_by None (own_conn b p))) (sym k.home)
        (subst (λ (x : Option ℕ). Stands o (enter k.place (own_item p k.command) s) (box_by None x)) (sym k.conn)
        (entered k (sym (ap step_refusal k.home) ∙ fit_refusal (not (is_fit p)) is))))
        (λ (k : HasNone o s b p). absurd (let e : Some (absent p) ≡ None = sym (ap step_refusal k.home) ∙ fit_refusal (not (is_fit p)) is in cc))
        (homes p)
      where
        fit_refusal : (v : Bool) → cond v (Some Unfit) (step_refusal (home_of p s)) ≡ None → step_refusal (home_of p s) ≡ None
        fit_refusal true e = absurd cc
        fit_refusal false e = e

    pub puts_stands : Stands o (put p s) (after_put o b p)
    puts_stands = subst (λ (r : Option PutRefusal). Stands o (put p s) (box_by r (own_conn b p))) puts_answered (by_refusal (put_refusal p s) refl)
