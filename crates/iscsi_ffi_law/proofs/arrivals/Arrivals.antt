-- A request is taken: what becomes of it goes alike.
use Rattle.std.proofs.Common.{◌≡◌, ℕ, zero, suc, true, List, [], ◌∷◌, ◌++◌, length, Option, Some, None, is_some, refl, ap, sym, subst, ◌∙◌}
use Rattle.std.proofs.lemmas.Bool.{false≢true}
use Rattle.iscsi_rules.specs.declared.event.Event.TheVariants.{Arrive, Done}
use Rattle.iscsi_rules.specs.rules.Trace.{Command, Trace, live}
use Rattle.iscsi_requests.specs.Cookies.{next_place}
use Rattle.iscsi_ffi_rules.specs.declared.refusal.Refusal.{Refusal}
use Rattle.iscsi_ffi_rules.specs.declared.action.Action.{Action}
use Rattle.iscsi_ffi_rules.specs.rules.Calls.{Interface, Arrives}
use Rattle.iscsi_ffi_rules.specs.rules.Clearing.{next_withheld, status_of}
use Rattle.iscsi_ffi_rules.specs.rules.Happening.{happening as happening_there, happens as happens_there}
use Rattle.iscsi_ffi_rules.specs.rules.Run as rules
use Rattle.iscsi_ffi_rules.specs.rules.Sides.{Asked, Side}
use Rattle.iscsi_ffi_steps.specs.State.{State}
use Rattle.iscsi_ffi_steps.specs.Steps.{Answered, Going, Side as StepsSide, arrive, arriving, changed, done, going, happens, heard_first, hold, is_held_first, known, reset_in, resets_in, says}
use Rattle.iscsi_ffi_steps.specs.Steps as steps
use Rattle.iscsi_ffi_steps.specs.Walk.{in_state}
use Rattle.iscsi_ffi_law.specs.Alike.{GoesAlike}
use Rattle.iscsi_ffi_law.specs.Arrived.{IsArrivalFit, IsPlaced, IsBehindFit}
use Rattle.iscsi_ffi_law.specs.Done.{AreDoneFit, IsDoneFit}
use Rattle.iscsi_ffi_law.specs.Stands.{Stands}
use Rattle.iscsi_ffi_law.proofs.arrivals.ArriveOpens.{IsFoundAt, names_open, opens_at, side_open, state_open}
use Rattle.iscsi_ffi_law.proofs.calls.Ends.{GoesTo, found_fit}
use Rattle.iscsi_ffi_law.proofs.arrivals.Refusing.{refused_same}
use Rattle.iscsi_ffi_law.proofs.arrivals.ArriveLaw.{arrives_to}

-- what is asked has nothing to do with those that are withheld
asked_fit : (i : Interface) (n : ℕ) (r : Side) (asked : List Asked) (acts acts' : List Action) → AreDoneFit i n (record { side = r; actions = acts }) → AreDoneFit i n (record { side = record r { asked = asked }; actions = acts' })
asked_fit i zero r asked acts acts' fits = tt
asked_fit i (suc n) r asked acts acts' fits = by_first (asked_fit i n) (next_withheld r) fits
  where
    by_first : ((r' : Side) (asked' : List Asked) (as' bs' : List Action) → AreDoneFit i n (record { side = r'; actions = as' }) → AreDoneFit i n (record { side = record r' { asked = asked' }; actions = bs' })) → (x : Option Command)
        → elim x as (λ (y : Option Command). Type 0) [ Some c ↦ IsDoneFit i r c.ticket (status_of r c) × (let h = happening_there i r (Done c.ticket (status_of r c)) in AreDoneFit i n (record { side = h.side; actions = acts ++ h.actions })) | None ↦ Unit {0} ]
        → elim x as (λ (y : Option Command). Type 0) [
          | Some c ↦ IsDoneFit i (record r { asked = asked }) c.ticket (status_of r c) × (let h = happening_there i (record r { asked = asked }) (Done c.ticket (status_of r c)) in AreDoneFit i n (record { side = h.side; actions = acts' ++ h.actions }))
          | None ↦ Unit {0}
        ]
    by_first later None h = tt
    by_first later (Some c) h = (
      (let k : IsDoneFit i r c.ticket (status_of r c) = h.0 in record { fit = k.fit; room = k.room; stale = k.stale; events = k.events; sent = k.sent; replies = k.replies; few = k.few; there = k.there; takes = k.takes; handed = k.handed }),
      later (happening_there i r (Done c.ticket (status_of r c))).side asked _ _ h.1,
    )

-- ---- the call

module _ (i : Interface) (s : StepsSide) (r : Side) (h : Stands i s r) (cid : ℕ) (header : List ℕ) (cookie : ℕ) (fit : IsArrivalFit i r cid header) (none : rules.refusal_of i r cid ≡ None) (room : is_some (next_place s.state.cookies) ≡ true)
    (placed : (place : ℕ) → next_place s.state.cookies ≡ Some place → IsPlaced s.state place) where
  pub record Free : Type 0 where
    pub place : ℕ
    pub is : next_place s.state.cookies ≡ Some place

  free_place : Free
  free_place = by_place (next_place s.state.cookies) refl room
    where
      by_place : (y : Option ℕ) → next_place s.state.cookies ≡ y → is_some y ≡ true → Free
      by_place None is k = absurd (false≢true k)
      by_place (Some place) is k = record { place = place; is = is }

  abbrev place : ℕ
  place = free_place.place

  within : IsPlaced s.state free_place.place
  within = placed free_place.place free_place.is

  abbrev s1 : State
  s1 = state_open i s r h cid header cookie fit free_place.place free_place.is within

  abbrev r1 : Side
  r1 = side_open i s r h cid header cookie fit free_place.place free_place.is within

  abbrev opened : Going
  opened = record { event = r.both.event; trace = r.both.trace; doing = record { state = s1; actions = []; forgets = [] } }

  by_steps : arrive i cid header cookie s ≡ done (arriving i cid header (Some free_place.place) opened)
  by_steps =
      ap arriving_by (refused_same i s r h (found_fit i r.both.box _ fit.heard) cid ∙ none)
      ∙ ap (λ (z : Option ℕ). done (arriving i cid header z (known cookie z (changed (in_state (heard_first cid header)) (going s))))) free_place.is
      ∙ ap (λ (n : ℕ). done (arriving i cid header (Some free_place.place) (record { event = n; trace = s.trace; doing = record { state = s1; actions = []; forgets = [] } }))) h.event
      ∙ ap (λ (t : Trace). done (arriving i cid header (Some free_place.place) (record { event = r.both.event; trace = t; doing = record { state = s1; actions = []; forgets = [] } }))) h.trace
    where
      arriving_by : Option Refusal → Answered
      arriving_by x = elim x [
        | Some refusal ↦ says s (steps.Refused refusal)
        | None ↦ let z = next_place s.state.cookies in done (arriving i cid header z (known cookie z (changed (in_state (heard_first cid header)) (going s))))
      ]

  by_rules : rules.arrive i r cid header cookie ≡ rules.done (happens_there i r1 (Arrive cid header))
  by_rules = ap arriving_by none
    where
      arriving_by : Option Refusal → rules.Answered
      arriving_by x = elim x [
        | Some refusal ↦ rules.answers r (rules.Refused refusal)
        | None ↦
            let s' = rules.heard_in i r cid header in
            rules.done (happens_there i (record s' { asked = s'.asked ++ record { event = s'.both.event; cookie = cookie } ∷ [] }) (Arrive cid header))
      ]

  arrives_as : GoesTo i (done (arriving i cid header (Some free_place.place) opened)) (rules.done (happens_there i r1 (Arrive cid header))) → GoesAlike i s r (Arrives cid header cookie)
  arrives_as g =
      let e : GoesTo i (arrive i cid header cookie s) (rules.arrive i r cid header cookie)
      = subst (λ (x : Answered). GoesTo i x (rules.arrive i r cid header cookie)) (sym by_steps) (subst (GoesTo i (done (arriving i cid header (Some free_place.place) opened))) (sym by_rules) g) in
      record { answer = e.answer; tells = e.tells; stands = e.stands }

  found_there : IsFoundAt i (names_open i s r h cid header cookie fit free_place.place free_place.is within) h.notes s1 r1 cid header free_place.place
  found_there = opens_at i s r h cid header cookie fit free_place.place free_place.is within none

  pub arrives_alike : IsBehindFit i (rules.heard_in i r cid header) cid header → GoesAlike i s r (Arrives cid header cookie)
  arrives_alike k = arrives_as (arrives_to i _ h.notes s1 r1 cid header place found_there (record {
    withheld = asked_fit i (length (live (happening_there i (rules.heard_in i r cid header) (Arrive cid header)).side.both.trace)) (happening_there i (rules.heard_in i r cid header) (Arrive cid header)).side r1.asked _ _ k.withheld;
  }))
