-- What the code's choice says of what goes out next.
use Rattle.std.proofs.Common.{◌≡◌, ◌<◌, ℕ, ◌^◌, ◌&&◌, not, nat_lt, Bool, true, false, List, [], ◌∷◌, Option, Some, None, option_map, refl, sym, ap, ◌∙◌, if◌then◌else◌}
use Rattle.std.proofs.lemmas.Bool.{ltb-true}
use Rattle.iscsi_arrivals.specs.Counts.{is_behind_logout_by, is_open_by, tag_of_ping}
use Rattle.iscsi_outbox_state.specs.declared.waiting.Waiting.{Waiting}
use Rattle.iscsi_outbox_state.specs.Waits.{Entry, first_item, queue_at}
use Rattle.iscsi_outbox_steps.specs.declared.given.Given.{Given}
use Rattle.iscsi_outbox_steps.specs.declared.given.Given.TheVariants.{Hands, Nothing, IsOver}
use Rattle.iscsi_outbox_steps.specs.State.{State, is_over, place_of, is_asked_for, link_at, looks, passes, wants_notice, wants_ping}
use Rattle.iscsi_outbox_steps.specs.Steps.{Noticed, Out, Pinged, Waited, after_out, chosen, from_queue, given, given_on, next, numbered}
use Rattle.iscsi_outbox.specs.declared.outbox.choosing.Choice.{Choice}
use Rattle.iscsi_outbox.specs.declared.outbox.choosing.Choice.TheVariants.{Waiting as ToWaiting, Ping, Notice}
use Rattle.iscsi_outbox.specs.private.Choices.{choice_of}

-- something goes out: the connection is open, and has numbers left
pub record GoesOut (conn : ℕ) (s : State) : Type 0 where
  pub is_open : is_open_by (link_at s conn) ≡ true
  pub room : (link_at s conn).handed < 2 ^ 63

pub record WaitingGoes (conn : ℕ) (s : State) : Type 0 where
  pub out : GoesOut conn s
  pub item : Waiting
  pub is : chosen conn s ≡ Some (Waited item)
  pub first : first_item (queue_at s.waits conn) ≡ Some item

pub record PingGoes (conn : ℕ) (s : State) : Type 0 where
  pub out : GoesOut conn s
  pub is : chosen conn s ≡ Some (Pinged (tag_of_ping (link_at s conn).pings))
  pub none : nat_lt (link_at s conn).answered (link_at s conn).pings ≡ false

-- ---- by cases of what is looked at

record Tests (out : Choice) (opened room ping : Bool) (pinged rest : Option Out) : Type 0 where
  is_open : opened ≡ true
  has_room : room ≡ true
  same : (if opened && room then (if ping then pinged else rest) else None) ≡ (if ping then pinged else rest)

tests : (out : Choice) (opened room ping : Bool) (pinged rest : Option Out) → option_map choice_of (if opened && room then (if ping then pinged else rest) else None) ≡ Some out → Tests out opened room ping pinged rest
tests out true true ping pinged rest e = record { is_open = refl; has_room = refl; same = refl }
tests out true false ping pinged rest e = cc
tests out false room ping pinged rest e = cc

pings : (tag : ℕ) (ping : Bool) (rest : Option Out) → option_map choice_of (if ping then Some (Pinged tag) else rest) ≡ Some ToWaiting → ((if ping then Some (Pinged tag) else rest) ≡ rest) × (option_map choice_of rest ≡ Some ToWaiting)
pings tag true rest e = cc
pings tag false rest e = (refl, e)

pinged_not : (tag : ℕ) (ping : Bool) (rest : Option Out) → option_map choice_of (if ping then Some (Pinged tag) else rest) ≡ Some Notice → ((if ping then Some (Pinged tag) else rest) ≡ rest) × (option_map choice_of rest ≡ Some Notice)
pinged_not tag true rest e = cc
pinged_not tag false rest e = (refl, e)

record FirstGoes (rest : Option Out) (q : List Entry) : Type 0 where
  item : Waiting
  is : rest ≡ Some (Waited item)
  first : first_item q ≡ Some item

first_goes : (q : List Entry) (notice : Bool) (pass : Entry → Bool) → option_map choice_of (elim q as (λ (r : List Entry). Option Out) [ [] ↦ if notice then Some Noticed else None | e ∷ es ↦ if pass e then Some (Waited e.item) else None ]) ≡ Some ToWaiting
    → FirstGoes (elim q as (λ (r : List Entry). Option Out) [ [] ↦ if notice then Some Noticed else None | e ∷ es ↦ if pass e then Some (Waited e.item) else None ]) q
first_goes [] true pass h = cc
first_goes [] false pass h = cc
first_goes (e ∷ es) notice pass h =
    elim (pass e) as (λ b. option_map choice_of (if b then Some (Waited e.item) else None) ≡ Some ToWaiting → FirstGoes (if b then Some (Waited e.item) else None) (e ∷ es)) [
      | true ↦ λ h'. record { item = e.item; is = refl; first = refl }
      | false ↦ λ h'. cc
    ] h

pub waiting_goes : (conn : ℕ) (s : State) → option_map choice_of (chosen conn s) ≡ Some ToWaiting → WaitingGoes conn s
waiting_goes conn s e =
    let opened = is_open_by (link_at s conn) in
    let room = nat_lt (link_at s conn).handed (2 ^ 63) in
    let tag = tag_of_ping (link_at s conn).pings in
    let t = tests ToWaiting opened room (wants_ping conn s) (Some (Pinged tag)) (from_queue conn s) e in
    let p = pings tag (wants_ping conn s) (from_queue conn s) (ap (option_map choice_of) (sym t.same) ∙ e) in
    let f = first_goes (queue_at s.waits conn) (wants_notice conn s) (λ (x : Entry). passes conn (record { time = x.time; takes = x.item.takes; fenced = x.item.fenced }) s) p.1 in
    record {
      out = record { is_open = t.is_open; room = ltb-true (link_at s conn).handed (2 ^ 63) t.has_room };
      item = f.item;
      is = t.same ∙ p.0 ∙ f.is;
      first = f.first;
    }

ping_goes_by : (tag : ℕ) (ping : Bool) (q : List Entry) (notice : Bool) (pass : Entry → Bool)
    → option_map choice_of (if ping then Some (Pinged tag) else elim q as (λ (r : List Entry). Option Out) [ [] ↦ if notice then Some Noticed else None | e ∷ es ↦ if pass e then Some (Waited e.item) else None ]) ≡ Some Ping → ping ≡ true
ping_goes_by tag true q notice pass h = refl
ping_goes_by tag false [] true pass h = cc
ping_goes_by tag false [] false pass h = cc
ping_goes_by tag false (e ∷ es) notice pass h =
    elim (pass e) as (λ b. option_map choice_of (if b then Some (Waited e.item) else None) ≡ Some Ping → false ≡ true) [ true ↦ λ h'. cc | false ↦ λ h'. cc ] h

asks_for_none : (looks asked asking behind : Bool) → (looks && asked && not asking && not behind) ≡ true → asking ≡ false
asks_for_none true true false behind e = refl
asks_for_none true true true behind e = cc
asks_for_none true false asking behind e = cc
asks_for_none false asked asking behind e = cc

pub ping_goes : (conn : ℕ) (s : State) → option_map choice_of (chosen conn s) ≡ Some Ping → PingGoes conn s
ping_goes conn s e =
    let opened = is_open_by (link_at s conn) in
    let room = nat_lt (link_at s conn).handed (2 ^ 63) in
    let tag = tag_of_ping (link_at s conn).pings in
    let t = tests Ping opened room (wants_ping conn s) (Some (Pinged tag)) (from_queue conn s) e in
    let p = ping_goes_by tag (wants_ping conn s) (queue_at s.waits conn) (wants_notice conn s) (λ (x : Entry). passes conn (record { time = x.time; takes = x.item.takes; fenced = x.item.fenced }) s) (ap (option_map choice_of) (sym t.same) ∙ e) in
    record {
      out = record { is_open = t.is_open; room = ltb-true (link_at s conn).handed (2 ^ 63) t.has_room };
      is = t.same ∙ ap (λ (b : Bool). if b then Some (Pinged tag) else from_queue conn s) p;
      none = asks_for_none (looks s) (is_asked_for conn s) (nat_lt (link_at s conn).answered (link_at s conn).pings) (is_behind_logout_by (link_at s conn)) p;
    }

pub record NoticeGoes (conn : ℕ) (s : State) : Type 0 where
  pub out : GoesOut conn s
  pub is : chosen conn s ≡ Some Noticed

notice_goes_by : (q : List Entry) (notice : Bool) (pass : Entry → Bool)
    → option_map choice_of (elim q as (λ (r : List Entry). Option Out) [ [] ↦ if notice then Some Noticed else None | e ∷ es ↦ if pass e then Some (Waited e.item) else None ]) ≡ Some Notice
    → elim q as (λ (r : List Entry). Option Out) [ [] ↦ if notice then Some Noticed else None | e ∷ es ↦ if pass e then Some (Waited e.item) else None ] ≡ Some Noticed
notice_goes_by [] true pass h = refl
notice_goes_by [] false pass h = cc
notice_goes_by (e ∷ es) notice pass h =
    elim (pass e) as (λ b. option_map choice_of (if b then Some (Waited e.item) else None) ≡ Some Notice → (if b then Some (Waited e.item) else None) ≡ Some Noticed) [ true ↦ λ h'. cc | false ↦ λ h'. cc ] h

pub notice_goes : (conn : ℕ) (s : State) → option_map choice_of (chosen conn s) ≡ Some Notice → NoticeGoes conn s
notice_goes conn s e =
    let opened = is_open_by (link_at s conn) in
    let room = nat_lt (link_at s conn).handed (2 ^ 63) in
    let tag = tag_of_ping (link_at s conn).pings in
    let t = tests Notice opened room (wants_ping conn s) (Some (Pinged tag)) (from_queue conn s) e in
    let p = pinged_not tag (wants_ping conn s) (from_queue conn s) (ap (option_map choice_of) (sym t.same) ∙ e) in
    record {
      out = record { is_open = t.is_open; room = ltb-true (link_at s conn).handed (2 ^ 63) t.has_room };
      is = t.same ∙ p.0 ∙ notice_goes_by (queue_at s.waits conn) (wants_notice conn s) (λ (x : Entry). passes conn (record { time = x.time; takes = x.item.takes; fenced = x.item.fenced }) s) p.1;
    }

pub nothing_goes : (conn : ℕ) (s : State) → option_map choice_of (chosen conn s) ≡ None → chosen conn s ≡ None
nothing_goes conn s e = elim (chosen conn s) as (λ (o : Option Out). option_map choice_of o ≡ None → o ≡ None) [ Some out ↦ λ h. cc | None ↦ λ h. refl ] e

-- ---- what the call answers, and leaves

pub next_at : (cid conn : ℕ) (s : State) (out : Out) → place_of s cid ≡ Some conn → chosen conn s ≡ Some out → next cid s ≡ after_out conn out s
next_at cid conn s out at is =
    ap (λ (o : Option ℕ). elim o as (λ (q : Option ℕ). State) [ Some place ↦ elim (chosen place s) [ Some x ↦ after_out place x s | None ↦ s ] | None ↦ s ]) at
    ∙ ap (λ (o : Option Out). elim o as (λ (q : Option Out). State) [ Some x ↦ after_out conn x s | None ↦ s ]) is

pub given_at : (cid conn : ℕ) (s : State) (out : Out) → place_of s cid ≡ Some conn → chosen conn s ≡ Some out → given cid s ≡ Hands (numbered conn out s)
given_at cid conn s out at is =
    ap (λ (o : Option ℕ). elim o as (λ (q : Option ℕ). Given) [ Some place ↦ given_on place s | None ↦ Nothing ]) at
    ∙ ap (λ (o : Option Out). elim o as (λ (q : Option Out). Given) [ Some x ↦ Hands (numbered conn x s) | None ↦ (if is_over conn s then IsOver else Nothing) ]) is

pub next_none : (cid conn : ℕ) (s : State) → place_of s cid ≡ Some conn → chosen conn s ≡ None → next cid s ≡ s
next_none cid conn s at is =
    ap (λ (o : Option ℕ). elim o as (λ (q : Option ℕ). State) [ Some place ↦ elim (chosen place s) [ Some x ↦ after_out place x s | None ↦ s ] | None ↦ s ]) at
    ∙ ap (λ (o : Option Out). elim o as (λ (q : Option Out). State) [ Some x ↦ after_out conn x s | None ↦ s ]) is

pub given_none : (cid conn : ℕ) (s : State) → place_of s cid ≡ Some conn → chosen conn s ≡ None → given cid s ≡ (if is_over conn s then IsOver else Nothing)
given_none cid conn s at is =
    ap (λ (o : Option ℕ). elim o as (λ (q : Option ℕ). Given) [ Some place ↦ given_on place s | None ↦ Nothing ]) at
    ∙ ap (λ (o : Option Out). elim o as (λ (q : Option Out). Given) [ Some x ↦ Hands (numbered conn x s) | None ↦ (if is_over conn s then IsOver else Nothing) ]) is
