-- The uses that end as a connection is lost are of requests that are neither held nor wait: each was answered, or its command entered.
use Rattle.std.proofs.Common.{◌≡◌, ℕ, ◌+◌, ◌≤◌, ◌<◌, ◌==◌, ◌&&◌, ◌||◌, ⊎_elim, inl, inr, ◌⊎◌, Bool, true, false, List, [], ◌++◌, length, map, count_by, nat_lt, Option, Some, None, refl, ap, sym, subst, ◌∙◌, arith, lt-ltb, eq-eqb}
use Rattle.std.proofs.lemmas.Bool.{cases_lt, eqb-true, false≢true}
use Rattle.iscsi_rules.specs.rules.Trace.{Command, Trace, entered}
use Rattle.iscsi_rules.proofs.general.BoolLemmas.{and_parts}
use Rattle.iscsi_rules.proofs.general.ElementLemmas.{In, in-append, append-in_second}
use Rattle.iscsi_outbox_rules.specs.promises.Scope.{nth}
use Rattle.iscsi_outbox_rules.specs.rules.Boxes.{Outgoing}
use Rattle.iscsi_outbox_rules.specs.rules.Words.{contains}
use Rattle.iscsi_outbox_law.specs.private.Commands.{link_in}
use Rattle.iscsi_outbox_law.specs.private.Pairs.{EachOf}
use Rattle.iscsi_requests.specs.Conns.{of_conn}
use Rattle.iscsi_requests.specs.declared.replies.WaitingReply.{WaitingReply}
use Rattle.iscsi_ffi_rules.specs.rules.Calls.{Interface}
use Rattle.iscsi_ffi_rules.specs.rules.Needs.{is_about, is_of_event, is_ticket_of, left_to_write}
use Rattle.iscsi_ffi_rules.specs.rules.Sides.{Side}
use Rattle.iscsi_ffi_steps.specs.Steps.{Side as StepsSide}
use Rattle.iscsi_ffi_law.specs.Lost.{IsPast}
use Rattle.iscsi_ffi_law.specs.Names.{Name, Note, place_named}
use Rattle.iscsi_ffi_law.specs.Parts.{IsAbout, IsAnswered, IsAtEvent, IsConn, IsNote, IsRequest, noted_in}
use Rattle.iscsi_ffi_law.specs.Stands.{Stands}
use Rattle.iscsi_ffi_law.specs.Uses.{count_functions, count_held, is_place}
use Rattle.iscsi_ffi_law.proofs.requests.Cookies.{is_word, used_there}
use Rattle.iscsi_ffi_law.proofs.logouts.Dropping.{all_of, endings_places}
use Rattle.iscsi_ffi_law.proofs.aborts.LeavingRequests.{nth_in}
use Rattle.iscsi_ffi_law.proofs.general.Members.{Paired, Passing, any_counted, any_in, each_in, in_counted, map_in, pairs_in}
use Rattle.iscsi_ffi_law.proofs.requests.NameLemmas.{Named, found_named}
use Rattle.iscsi_ffi_law.proofs.requests.Needs.{placed_some}
use Rattle.iscsi_ffi_law.proofs.own_pdus.NotePlaces.{note_there}
use Rattle.iscsi_ffi_law.proofs.requests.Releases.{endings}

or_either : (u v : Bool) → (u || v) ≡ true → (u ≡ true) ⊎ (v ≡ true)
or_either true v h = inl refl
or_either false v h = inr h

-- a use that ends is one of these
ended_in : (xs : List (Option ℕ)) (p : ℕ) → 1 ≤ endings xs p → In (Some p) xs
ended_in xs p some =
    let x : Passing (is_place p) xs = any_in (is_place p) xs (any_counted (is_place p) xs ∙ lt-ltb 0 (count_by (is_place p) xs) (omega (arith, some, endings_places xs p))) in
    subst (λ (y : Option ℕ). In y xs) (placed_some p x.x x.passes) x.there

none_below : (n : ℕ) → nat_lt 0 n ≡ false → n ≡ 0
none_below n none = ⊎_elim (λ more. absurd (false≢true (sym none ∙ lt-ltb 0 n more))) (λ few. omega (arith, few)) (cases_lt 0 n)

module _ (i : Interface) (s : StepsSide) (r : Side) (h : Stands i s r) (answered : EachOf (IsPast r.both.trace) r.answers) (entered_past : EachOf (λ (c : Command). IsPast r.both.trace c.arrival.event) (entered r.both.trace)) where
  abbrev t : Trace
  t = r.both.trace

  -- ---- what neither is held nor waits in the trace

  -- what was answered
  answered_past : (e : ℕ) → contains r.answers e ≡ true → IsPast t e
  answered_past e there =
      let x : Passing (λ (n : ℕ). n == e) r.answers = any_in (λ (n : ℕ). n == e) r.answers there in
      subst (IsPast r.both.trace) (eqb-true x.x e x.passes) (each_in (IsPast r.both.trace) r.answers x.x x.there answered)

  -- that of what was handed out
  about_past : (e : ℕ) (out : Outgoing) → is_about e r out ≡ true → IsPast t e
  about_past e out is = ⊎_elim (by_sent out.sent) (by_ticket out.ticket) (or_either _ _ is)
    where
      by_place : (place : ℕ) (y : Option ℕ) → nth place r.answers ≡ y → elim y as (λ (z : Option ℕ). Bool) [ Some n ↦ n == e | None ↦ false ] ≡ true → IsPast t e
      by_place place None at k = absurd (false≢true k)
      by_place place (Some n) at k = answered_past e (ap (contains r.answers) (sym (eqb-true n e k)) ∙ nth_in place r.answers n at)

      by_sent : (x : Option ℕ) → elim x as (λ (z : Option ℕ). Bool) [ Some place ↦ elim (nth place r.answers) [ Some n ↦ n == e | None ↦ false ] | None ↦ false ] ≡ true → IsPast t e
      by_sent None k = absurd (false≢true k)
      by_sent (Some place) k = by_place place (nth place r.answers) refl k

      by_ticket : (x : Option ℕ) → elim x as (λ (z : Option ℕ). Bool) [ Some ticket ↦ is_ticket_of e r.both.trace ticket | None ↦ false ] ≡ true → IsPast t e
      by_ticket None k = absurd (false≢true k)
      by_ticket (Some ticket) k =
          let c : Passing (λ (d : Command). is_of_event e d.arrival && d.ticket == ticket) (entered t) = any_in (λ (d : Command). is_of_event e d.arrival && d.ticket == ticket) (entered t) k in
          subst (IsPast r.both.trace) (eqb-true c.x.arrival.event e (and_parts (is_of_event e c.x.arrival) (c.x.ticket == ticket) c.passes).0) (each_in (λ (d : Command). IsPast r.both.trace d.arrival.event) (entered r.both.trace) c.x c.there entered_past)

  -- ---- .. is so in what is kept

  named_over : (n : Name) → In n h.names → IsPast t n.event → count_held n.place s.state + count_functions n.place s.state ≡ 0
  named_over n there past =
      let k : IsRequest s.state t n = each_in (IsRequest s.state t) h.names n there h.requests.named in
      let held = none_below (count_held n.place s.state) (sym k.held ∙ past.held) in
      let waits = none_below (count_functions n.place s.state) (sym k.waiting ∙ past.waiting) in
      omega (arith, held, waits)

  event_over : (p e : ℕ) → place_named h.names e ≡ Some p → IsPast t e → count_held p s.state + count_functions p s.state ≡ 0
  event_over p e named past =
      let f : Named h.names e p = found_named h.names e p named in
      subst (λ q. count_held q s.state + count_functions q s.state ≡ 0) f.place_is (named_over f.name f.there (subst (IsPast r.both.trace) (sym f.event_is) past))

  -- what is held, or waits, is a request
  named_there : (p : ℕ) → 1 ≤ count_held p s.state + count_functions p s.state → (n : Name) × In n h.names × (n.place ≡ p)
  named_there p some =
      let c = used_there s.state.cookies h.requests.counted p (omega (arith, some, h.requests.uses p)) in
      let one_word : 1 ≤ count_by (is_word p c.0.cookie) s.state.cookies.requests
      = in_counted (is_word p c.0.cookie) s.state.cookies.requests c.0 c.1 (ap (λ v. v && c.0.cookie == c.0.cookie) (eq-eqb c.0.place p c.2) ∙ eq-eqb c.0.cookie c.0.cookie refl) in
      let words = h.requests.kept p c.0.cookie in
      ⊎_elim
      (λ among.
      let n : Passing (λ (x : Name). x.place == p && x.cookie == c.0.cookie) h.names
      = any_in (λ (x : Name). x.place == p && x.cookie == c.0.cookie) h.names (any_counted (λ (x : Name). x.place == p && x.cookie == c.0.cookie) h.names ∙ lt-ltb 0 (count_by (λ (x : Name). x.place == p && x.cookie == c.0.cookie) h.names) among) in
      (n.x, n.there, eqb-true n.x.place p (and_parts (n.x.place == p) (n.x.cookie == c.0.cookie) n.passes).0))
      (λ none.
      let m : Passing (λ (x : Note). x.place == p && x.cookie == c.0.cookie) h.notes
      = any_in (λ (x : Note). x.place == p && x.cookie == c.0.cookie) h.notes
      (any_counted (λ (x : Note). x.place == p && x.cookie == c.0.cookie) h.notes ∙ lt-ltb 0 (count_by (λ (x : Note). x.place == p && x.cookie == c.0.cookie) h.notes) (omega (arith, none, one_word, words))) in
      let nothing : count_held p s.state + count_functions p s.state ≡ 0 = note_over m.x m.there p (eqb-true m.x.place p (and_parts (m.x.place == p) (m.x.cookie == c.0.cookie) m.passes).0) in
      absurd (let no : ⊥ = omega (arith, some, nothing) in no))
      (cases_lt 0 (count_by (λ (x : Name). x.place == p && x.cookie == c.0.cookie) h.names))
    where
      note_over : (n : Note) → In n h.notes → (q : ℕ) → n.place ≡ q → count_held q s.state + count_functions q s.state ≡ 0
      note_over n there q same =
          let k : IsNote s.state r.both.box.links n = each_in (IsNote s.state r.both.box.links) h.notes n there h.requests.noted_apart in
          let held = k.held in
          let waits = k.waiting in
          subst (λ q'. count_held q' s.state + count_functions q' s.state ≡ 0) same (omega (arith, held, waits))

  -- ---- the connection

  module _ (q : ℕ) (within : q < length r.both.box.links) where
    abbrev conn : ℕ
    conn = (link_in r.both.box.links q).conn

    abbrev c : IsConn h.names h.notes [] s.state r q (link_in r.both.box.links q)
    c = h.requests.conns q within

    reply_over : (p : ℕ) → In (Some p) (map (λ (x : WaitingReply). Some x.request) (of_conn q s.state.replies.waiting)) → count_held p s.state + count_functions p s.state ≡ 0
    reply_over p there =
        let x = map_in (λ (y : WaitingReply). Some y.request) (of_conn q s.state.replies.waiting) (Some p) there in
        let same : x.0.request ≡ p = (let e = x.2 in cc) in
        by_event x.0.log_place x.0.request same (nth x.0.log_place r.answers) refl (each_in (λ (y : WaitingReply). IsAnswered h.names r.answers y.log_place y.request) (of_conn q s.state.replies.waiting) x.0 x.1 c.replies)
      where
        by_event : (place request : ℕ) → request ≡ p → (y : Option ℕ) → nth place r.answers ≡ y → IsAtEvent h.names request y → count_held p s.state + count_functions p s.state ≡ 0
        by_event place request same None is k = absurd k
        by_event place request same (Some e) is k = event_over p e (k ∙ ap (λ (n : ℕ). Some n) same) (answered_past e (nth_in place r.answers e is))

    noted_over : (p : ℕ) → In (Some p) (of_conn q s.state.noted.handed) → count_held p s.state + count_functions p s.state ≡ 0
    noted_over p there =
        let left : List (Option ℕ) = noted_in (of_conn q s.state.unwritten.handed) (left_to_write (link_in r.both.box.links q)) in
        let n = note_there h.notes conn [] (of_conn q s.state.noted.handed) left c.noted (Some p) (append-in_second left (of_conn q s.state.noted.handed) (Some p) there) in
        let k : IsNote s.state r.both.box.links n.0 = each_in (IsNote s.state r.both.box.links) h.notes n.0 n.1 h.requests.noted_apart in
        let held = k.held in
        let waits = k.waiting in
        subst (λ q'. count_held q' s.state + count_functions q' s.state ≡ 0) (let e = n.3 in let same : n.0.place ≡ p = cc in same) (omega (arith, held, waits))

    written_over : (p : ℕ) → In (Some p) (of_conn q s.state.unwritten.handed) → count_held p s.state + count_functions p s.state ≡ 0
    written_over p there =
        let y : Paired (IsAbout h.names h.notes r conn) (Some p) (left_to_write (link_in r.both.box.links q)) = pairs_in (IsAbout h.names h.notes r conn) (of_conn q s.state.unwritten.handed) (left_to_write (link_in r.both.box.links q)) (Some p) there c.written in
        ⊎_elim
        (λ some.
        let n = named_there p some in
        let about : is_about n.0.event r y.y.out ≡ true = each_in (λ (m : Name). is_about m.event r y.y.out ≡ is_place m.place (Some p)) h.names n.0 n.1 y.pair.named ∙ eq-eqb p n.0.place (sym n.2) in
        subst (λ q'. count_held q' s.state + count_functions q' s.state ≡ 0) n.2 (named_over n.0 n.1 (about_past n.0.event y.y.out about)))
        (λ none. omega (arith, none)) (cases_lt 0 (count_held p s.state + count_functions p s.state))

    pub over_lost : (p : ℕ) → 1 ≤ endings (all_of q s.state) p → count_held p s.state + count_functions p s.state ≡ 0
    over_lost p some =
        ⊎_elim (reply_over p)
        (λ later. ⊎_elim (noted_over p) (written_over p) (in-append (of_conn q s.state.noted.handed) (of_conn q s.state.unwritten.handed) (Some p) later))
        (in-append (map (λ (x : WaitingReply). Some x.request) (of_conn q s.state.replies.waiting)) (of_conn q s.state.noted.handed ++ of_conn q s.state.unwritten.handed) (Some p) (ended_in (all_of q s.state) p some))
