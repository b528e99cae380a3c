-- All commands that leave in an item, one after another in the steps and all at once in the rules.
use Rattle.std.proofs.Common.{◌≡◌, ℕ, ◌<◌, ◌≤◌, ◌==◌, ◌&&◌, ◌||◌, not, cond, Bool, true, false, List, [], ◌∷◌, map, filter, count_by, Option, Some, None, refl, ap, sym, subst, ◌∙◌, arith}
use Rattle.std.specs.List.{list_any}
use Rattle.std.proofs.lemmas.Bool.{eqb-true, false≢true}
use Rattle.iscsi_wire.specs.declared.request.Request.{Request}
use Rattle.iscsi_arrivals.proofs.CountLemmas.{count-cons}
use Rattle.iscsi_outbox_rules.specs.rules.Calls.{Opening}
use Rattle.iscsi_outbox_rules.specs.rules.Boxes.{Phase, Dormant, Fresh, Started, Completed, Running, Gone, Task, Outgoing, Handed, Answer, Link, Box}
use Rattle.iscsi_outbox_rules.specs.rules.Words.{contains, is_left, is_left_phase, is_live_phase, is_of}
use Rattle.iscsi_outbox_rules.specs.rules.Queues.{takes_more, without}
use Rattle.iscsi_outbox_rules.specs.rules.Own.{is_own}
use Rattle.iscsi_outbox_rules.specs.rules.Items.{leave as leave_box, phase_completed, phase_taken_out}
use Rattle.iscsi_outbox_steps.specs.State.{State}
use Rattle.iscsi_outbox_steps.specs.Steps.{completed, leave, leave_one, taken_out}
use Rattle.iscsi_tracked.specs.declared.command.Command.{Command}
use Rattle.iscsi_outbox_law.specs.private.Pairs.{EachOf, InOrder}
use Rattle.iscsi_outbox_law.specs.private.Sound.{HasHome, is_live_in}
use Rattle.iscsi_outbox_law.specs.private.Stands.{Stands}
use Rattle.iscsi_outbox_law.proofs.general.PairLemmas.{each-map, each-weaken}
use Rattle.iscsi_outbox_law.proofs.general.PlaceLemmas.{AreApart}
use Rattle.iscsi_outbox_law.proofs.commands.TrackedLemmas.{any_map, order_map}
use Rattle.iscsi_outbox_law.proofs.queues.Rooms.{own_on}
use Rattle.iscsi_outbox_law.proofs.queues.Settling.{IsCalm}
use Rattle.iscsi_outbox_law.proofs.items.TakesQueues.{conns_map, moves_without}
use Rattle.iscsi_outbox_law.proofs.items.TakesLeaving.{HaveLeft, leave_one_stands, live_none}

-- ---- what a box keeps through the parts of an item

-- the connection of each answer that waits takes it
abbrev pub AreTaken : List Link → List Answer → Type 0
AreTaken links answers = EachOf (λ (a : Answer). list_any (λ (l : Link). l.conn == a.conn && takes_more l) links ≡ true) answers

pub record IsReady (o : Opening) (b : Box) : Type 0 where
  pub calm : IsCalm o b b.undue
  pub taken : AreTaken b.links b.undue

-- ---- lists

count_fewer : {A : Type 0} (p q : A → Bool) (xs : List A) → count_by p (filter q xs) ≤ count_by p xs
count_fewer p q [] = omega arith
count_fewer p q (x ∷ xs) =
    let rest = count_fewer p q xs in
    let e = count-cons p x xs in
    let f = count-cons p x (filter q xs) in
    elim (q x) as (λ v. count_by p (cond v (x ∷ filter q xs) (filter q xs)) ≤ count_by p (x ∷ xs)) [
      | true ↦ omega (arith, rest, e, f)
      | false ↦ omega (arith, rest, e)
    ]

any_map_more : {A : Type 0} (p : A → Bool) (f : A → A) (xs : List A) → ((x : A) → p x ≡ true → p (f x) ≡ true) → list_any p xs ≡ true → list_any p (map f xs) ≡ true
any_map_more p f [] more some = some
any_map_more p f (x ∷ xs) more some =
    let rest : list_any p xs ≡ true → list_any p (map f xs) ≡ true = any_map_more p f xs more in
    elim (p x) as (λ v. p x ≡ v → (v || list_any p xs) ≡ true → (p (f x) || list_any p (map f xs)) ≡ true) [
      | true ↦ λ is e. ap (λ (w : Bool). w || list_any p (map f xs)) (more x is)
      | false ↦ λ is e. ap (λ (w : Bool). p (f x) || w) (rest e) ∙ or_yes (p (f x))
    ] refl some
  where
    or_yes : (w : Bool) → (w || true) ≡ true
    or_yes true = refl
    or_yes false = refl

-- ---- commands that leave, by their tickets

abbrev pub turned_by : (Phase → Phase) → (ℕ → Bool) → Task → Task
turned_by turn these t = cond (these t.ticket) (record t { phase = turn t.phase }) t

abbrev pub left_by : Option Request → (ℕ → Bool) → Box → Box
left_by (Some r) these b = record b { tasks = map (turned_by phase_taken_out these) b.tasks; links = map (without these) b.links }
left_by None these b = record b { tasks = map (turned_by phase_completed these) b.tasks }

pub leaves_by : (r : Option Request) (tickets : List ℕ) (b : Box) → leave_box r tickets b ≡ left_by r (contains tickets) b
leaves_by (Some r) tickets b = refl
leaves_by None tickets b = refl

abbrev pub or_these : (ℕ → Bool) → (ℕ → Bool) → ℕ → Bool
or_these p q n = p n || q n

module _ (turn : Phase → Phase) where
  pub turned_ticket : (these : ℕ → Bool) (t : Task) → (turned_by turn these t).ticket ≡ t.ticket
  turned_ticket these t = elim (these t.ticket) as (λ w. (cond w (record t { phase = turn t.phase }) t).ticket ≡ t.ticket) [ true ↦ refl | false ↦ refl ]

  pub turned_conn : (these : ℕ → Bool) (t : Task) → (turned_by turn these t).conn ≡ t.conn
  turned_conn these t = elim (these t.ticket) as (λ w. (cond w (record t { phase = turn t.phase }) t).conn ≡ t.conn) [ true ↦ refl | false ↦ refl ]

  turned_none : (ts : List Task) → map (turned_by turn (λ n. false)) ts ≡ ts
  turned_none [] = refl
  turned_none (t ∷ ts) = ap (λ us. t ∷ us) (turned_none ts)

  pub turned_twice : ((p : Phase) → turn (turn p) ≡ turn p) → (p q : ℕ → Bool) (ts : List Task) → map (turned_by turn q) (map (turned_by turn p) ts) ≡ map (turned_by turn (or_these p q)) ts
  turned_twice same p q [] = refl
  turned_twice same p q (t ∷ ts) =
      ap (λ u. u ∷ map (turned_by turn q) (map (turned_by turn p) ts)) (one_twice (p t.ticket)) ∙ ap (λ us. turned_by turn (or_these p q) t ∷ us) (turned_twice same p q ts)
    where
      one_twice : (w : Bool) → turned_by turn q (cond w (record t { phase = turn t.phase }) t) ≡ cond (w || q t.ticket) (record t { phase = turn t.phase }) t
      one_twice false = refl
      one_twice true = elim (q t.ticket) as (λ v. cond v (record t { phase = turn (turn t.phase) }) (record t { phase = turn t.phase }) ≡ record t { phase = turn t.phase }) [
        | true ↦ ap (λ (x : Phase). record t { phase = x }) (same t.phase)
        | false ↦ refl
      ]

  -- one that left has left still
  left_more : ((p : Phase) → is_left_phase p ≡ true → is_left_phase (turn p) ≡ true) → (these : ℕ → Bool) (ts : List Task) (k : ℕ)
      → list_any (λ (t : Task). t.ticket == k && is_left_phase t.phase) ts ≡ true → list_any (λ (t : Task). t.ticket == k && is_left_phase t.phase) (map (turned_by turn these) ts) ≡ true
  left_more stays these ts k some =
      any_map_more (λ (t : Task). t.ticket == k && is_left_phase t.phase) (turned_by turn these) ts
      (λ t is. elim (these t.ticket) as (λ w. ((cond w (record t { phase = turn t.phase }) t).ticket == k && is_left_phase (cond w (record t { phase = turn t.phase }) t).phase) ≡ true) [
        | true ↦ both t.phase (t.ticket == k) is
        | false ↦ is
      ]) some
    where
      both : (p : Phase) (w : Bool) → (w && is_left_phase p) ≡ true → (w && is_left_phase (turn p)) ≡ true
      both p true is = stays p is
      both p false is = absurd (false≢true is)

  -- others live just where they did
  live_other : (these : ℕ → Bool) (k : ℕ) → these k ≡ false → (ts : List Task) → list_any (λ (t : Task). t.ticket == k && is_live_phase t.phase) (map (turned_by turn these) ts) ≡ list_any (λ (t : Task). t.ticket == k && is_live_phase t.phase) ts
  live_other these k isnt [] = refl
  live_other these k isnt (t ∷ ts) =
      ap (λ (w : Bool). w || list_any (λ (u : Task). u.ticket == k && is_live_phase u.phase) (map (turned_by turn these) ts)) (one (t.ticket == k) refl)
      ∙ ap (λ (w : Bool). (t.ticket == k && is_live_phase t.phase) || w) (live_other these k isnt ts)
    where
      one : (w : Bool) → (t.ticket == k) ≡ w → ((turned_by turn these t).ticket == k && is_live_phase (turned_by turn these t).phase) ≡ (t.ticket == k && is_live_phase t.phase)
      one true here =
          ap (λ (w : Bool). (cond w (record t { phase = turn t.phase }) t).ticket == k && is_live_phase (cond w (record t { phase = turn t.phase }) t).phase) (ap these (eqb-true t.ticket k here) ∙ isnt)
      one false there =
          ap (λ n. n == k && is_live_phase (turned_by turn these t).phase) (turned_ticket these t) ∙ ap (λ (w : Bool). w && is_live_phase (turned_by turn these t).phase) there
          ∙ sym (ap (λ (w : Bool). w && is_live_phase t.phase) there)

  -- one that left doesn't live
  live_none_of : ((p : Phase) → is_live_phase (turn p) ≡ false) → (these : ℕ → Bool) (k : ℕ) → these k ≡ true → (ts : List Task) → list_any (λ (t : Task). t.ticket == k && is_live_phase t.phase) (map (turned_by turn these) ts) ≡ false
  live_none_of dead these k is [] = refl
  live_none_of dead these k is (t ∷ ts) =
      ap (λ (w : Bool). w || list_any (λ (u : Task). u.ticket == k && is_live_phase u.phase) (map (turned_by turn these) ts)) (one (t.ticket == k) refl) ∙ live_none_of dead these k is ts
    where
      and_no : (w : Bool) → (w && false) ≡ false
      and_no true = refl
      and_no false = refl

      one : (w : Bool) → (t.ticket == k) ≡ w → ((turned_by turn these t).ticket == k && is_live_phase (turned_by turn these t).phase) ≡ false
      one true here =
          ap (λ (w : Bool). (cond w (record t { phase = turn t.phase }) t).ticket == k && is_live_phase (cond w (record t { phase = turn t.phase }) t).phase) (ap these (eqb-true t.ticket k here) ∙ is)
          ∙ ap (λ (w : Bool). t.ticket == k && w) (dead t.phase) ∙ and_no (t.ticket == k)
      one false there =
          ap (λ n. n == k && is_live_phase (turned_by turn these t).phase) (turned_ticket these t) ∙ ap (λ (w : Bool). w && is_live_phase (turned_by turn these t).phase) there

  -- what a box has of its commands
  pub home_turned : (these : ℕ → Bool) (conn : ℕ) (tasks : List Task) (x : Option ℕ) → (elim x as (λ (y : Option ℕ). Type 0) [ Some k ↦ list_any (λ (t : Task). t.ticket == k && t.conn == conn) tasks ≡ true | None ↦ Unit {0} ])
      → (elim x as (λ (y : Option ℕ). Type 0) [ Some k ↦ list_any (λ (t : Task). t.ticket == k && t.conn == conn) (map (turned_by turn these) tasks) ≡ true | None ↦ Unit {0} ])
  home_turned these conn tasks None h = tt
  home_turned these conn tasks (Some k) h =
      any_map (λ (t : Task). t.ticket == k && t.conn == conn) (turned_by turn these) tasks (λ t. ap (λ n. n == k && (turned_by turn these t).conn == conn) (turned_ticket these t) ∙ ap (λ n. t.ticket == k && n == conn) (turned_conn these t)) ∙ h

  pub calm_turned : (o : Opening) (these : ℕ → Bool) (b : Box) → ((p : Phase) → is_left_phase p ≡ true → is_left_phase (turn p) ≡ true) → IsReady o b → IsReady o (record b { tasks = map (turned_by turn these) b.tasks })
  calm_turned o these b stays k = record {
    calm = record {
      homes = record {
        ascending = order_map (λ (t u : Task). t.ticket < u.ticket) (turned_by turn these) b.tasks (λ t u lt. omega (arith, lt, turned_ticket these t, turned_ticket these u)) k.calm.homes.ascending;
        handed = each-weaken (λ (l : Link). EachOf (λ (g : Handed). HasHome b.tasks l.conn g.out) l.handed) (λ (l : Link). EachOf (λ (g : Handed). HasHome (map (turned_by turn these) b.tasks) l.conn g.out) l.handed) b.links
            (λ l j. each-weaken (λ (g : Handed). HasHome b.tasks l.conn g.out) (λ (g : Handed). HasHome (map (turned_by turn these) b.tasks) l.conn g.out) l.handed (λ g i. home_turned these l.conn b.tasks (g.out.ticket) i) j) k.calm.homes.handed;
      };
      apart = k.calm.apart;
      own = k.calm.own;
      scopes = each-weaken (λ (a : Answer). (n : ℕ) → contains a.out.scope n ≡ true → is_left b n ≡ true) (λ (a : Answer). (n : ℕ) → contains a.out.scope n ≡ true → is_left (record b { tasks = map (turned_by turn these) b.tasks }) n ≡ true) b.undue
          (λ a j n named. left_more stays these b.tasks n (j n named)) k.calm.scopes;
    };
    taken = k.taken;
  }

-- ---- phases

out_twice : (p : Phase) → phase_taken_out (phase_taken_out p) ≡ phase_taken_out p
out_twice Dormant = refl
out_twice Fresh = refl
out_twice Started = refl
out_twice Completed = refl
out_twice Running = refl
out_twice Gone = refl

completed_twice : (p : Phase) → phase_completed (phase_completed p) ≡ phase_completed p
completed_twice Dormant = refl
completed_twice Fresh = refl
completed_twice Started = refl
completed_twice Completed = refl
completed_twice Running = refl
completed_twice Gone = refl

out_left : (p : Phase) → is_left_phase p ≡ true → is_left_phase (phase_taken_out p) ≡ true
out_left Dormant is = absurd (false≢true is)
out_left Fresh is = absurd (false≢true is)
out_left Started is = absurd (false≢true is)
out_left Completed is = absurd (false≢true is)
out_left Running is = refl
out_left Gone is = refl

completed_left : (p : Phase) → is_left_phase p ≡ true → is_left_phase (phase_completed p) ≡ true
completed_left Dormant is = absurd (false≢true is)
completed_left Fresh is = absurd (false≢true is)
completed_left Started is = absurd (false≢true is)
completed_left Completed is = absurd (false≢true is)
completed_left Running is = refl
completed_left Gone is = refl

out_dead : (p : Phase) → is_live_phase (phase_taken_out p) ≡ false
out_dead Dormant = refl
out_dead Fresh = refl
out_dead Started = refl
out_dead Completed = refl
out_dead Running = refl
out_dead Gone = refl

completed_dead : (p : Phase) → is_live_phase (phase_completed p) ≡ false
completed_dead Dormant = refl
completed_dead Fresh = refl
completed_dead Started = refl
completed_dead Completed = refl
completed_dead Running = refl
completed_dead Gone = refl

-- ---- what waits of them

dropped_twice : (p q : ℕ → Bool) (queue : List Outgoing) → filter (λ out. not (is_of q out)) (filter (λ out. not (is_of p out)) queue) ≡ filter (λ out. not (is_of (or_these p q) out)) queue
dropped_twice p q [] = refl
dropped_twice p q (out ∷ queue) =
    let rest = dropped_twice p q queue in
    by_parts (is_of p out) (is_of q out) refl rest
    ∙ sym (ap (λ (w : Bool). cond (not w) (out ∷ filter (λ x. not (is_of (or_these p q) x)) queue) (filter (λ x. not (is_of (or_these p q) x)) queue)) (of_both (out.ticket)))
  where
    of_both : (x : Option ℕ) → (elim x as (λ (y : Option ℕ). Bool) [ Some k ↦ p k || q k | None ↦ false ])
        ≡ ((elim x as (λ (y : Option ℕ). Bool) [ Some k ↦ p k | None ↦ false ]) || (elim x as (λ (y : Option ℕ). Bool) [ Some k ↦ q k | None ↦ false ]))
    of_both None = refl
    of_both (Some k) = refl

    by_parts : (v w : Bool) → is_of q out ≡ w → filter (λ x. not (is_of q x)) (filter (λ x. not (is_of p x)) queue) ≡ filter (λ x. not (is_of (or_these p q) x)) queue
        → filter (λ x. not (is_of q x)) (cond (not v) (out ∷ filter (λ x. not (is_of p x)) queue) (filter (λ x. not (is_of p x)) queue))
        ≡ cond (not (v || w)) (out ∷ filter (λ x. not (is_of (or_these p q) x)) queue) (filter (λ x. not (is_of (or_these p q) x)) queue)
    by_parts true w is same = same
    by_parts false true is same = ap (λ (u : Bool). cond (not u) (out ∷ filter (λ x. not (is_of q x)) (filter (λ x. not (is_of p x)) queue)) (filter (λ x. not (is_of q x)) (filter (λ x. not (is_of p x)) queue))) is ∙ same
    by_parts false false is same =
        ap (λ (u : Bool). cond (not u) (out ∷ filter (λ x. not (is_of q x)) (filter (λ x. not (is_of p x)) queue)) (filter (λ x. not (is_of q x)) (filter (λ x. not (is_of p x)) queue))) is ∙ ap (λ xs. out ∷ xs) same

without_twice : (p q : ℕ → Bool) (links : List Link) → map (without q) (map (without p) links) ≡ map (without (or_these p q)) links
without_twice p q [] = refl
without_twice p q (l ∷ links) = ap (λ xs. record l { queue = xs } ∷ map (without q) (map (without p) links)) (dropped_twice p q l.queue) ∙ ap (λ ls. without (or_these p q) l ∷ ls) (without_twice p q links)

dropped_none : (queue : List Outgoing) → filter (λ out. not (is_of (λ n. false) out)) queue ≡ queue
dropped_none [] = refl
dropped_none (out ∷ queue) =
    ap (λ (w : Bool). cond (not w) (out ∷ filter (λ x. not (is_of (λ n. false) x)) queue) (filter (λ x. not (is_of (λ n. false) x)) queue)) (of_none (out.ticket)) ∙ ap (λ xs. out ∷ xs) (dropped_none queue)
  where
    of_none : (x : Option ℕ) → (elim x as (λ (y : Option ℕ). Bool) [ Some k ↦ false | None ↦ false ]) ≡ false
    of_none None = refl
    of_none (Some k) = refl

without_none : (links : List Link) → map (without (λ n. false)) links ≡ links
without_none [] = refl
without_none (l ∷ links) = ap (λ xs. record l { queue = xs } ∷ map (without (λ n. false)) links) (dropped_none l.queue) ∙ ap (λ ls. l ∷ ls) (without_none links)

-- ---- boxes

left_twice : (r : Option Request) (p q : ℕ → Bool) (b : Box) → left_by r q (left_by r p b) ≡ left_by r (or_these p q) b
left_twice (Some r) p q b =
    ap (λ ts. record b { tasks = ts; links = map (without q) (map (without p) b.links) }) (turned_twice phase_taken_out out_twice p q b.tasks)
    ∙ ap (λ ls. record b { tasks = map (turned_by phase_taken_out (or_these p q)) b.tasks; links = ls }) (without_twice p q b.links)
left_twice None p q b = ap (λ ts. record b { tasks = ts }) (turned_twice phase_completed completed_twice p q b.tasks)

left_none : (r : Option Request) (b : Box) → left_by r (λ n. false) b ≡ b
left_none (Some r) b = ap (λ ts. record b { tasks = ts; links = map (without (λ n. false)) b.links }) (turned_none phase_taken_out b.tasks) ∙ ap (λ ls. record b { links = ls }) (without_none b.links)
left_none None b = ap (λ ts. record b { tasks = ts }) (turned_none phase_completed b.tasks)

lives_other : (r : Option Request) (these : ℕ → Bool) (k : ℕ) (b : Box) → these k ≡ false → is_live_in (left_by r these b) k ≡ is_live_in b k
lives_other (Some r) these k b isnt = live_other phase_taken_out these k isnt b.tasks
lives_other None these k b isnt = live_other phase_completed these k isnt b.tasks

pub lives_none : (r : Option Request) (these : ℕ → Bool) (k : ℕ) (b : Box) → these k ≡ true → is_live_in (left_by r these b) k ≡ false
lives_none (Some r) these k b is = live_none_of phase_taken_out out_dead these k is b.tasks
lives_none None these k b is = live_none_of phase_completed completed_dead these k is b.tasks

ready_without : (o : Opening) (these : ℕ → Bool) (b : Box) → IsReady o b → IsReady o (record b { links = map (without these) b.links })
ready_without o these b k = record {
  calm = record {
    homes = record {
      ascending = k.calm.homes.ascending;
      handed = each-map (λ (l : Link). EachOf (λ (g : Handed). HasHome b.tasks l.conn g.out) l.handed) (λ (l : Link). EachOf (λ (g : Handed). HasHome b.tasks l.conn g.out) l.handed) (without these) b.links (λ l j. j) k.calm.homes.handed;
    };
    apart = subst AreApart (sym (conns_map (without these) (moves_without these) refl b.links)) k.calm.apart;
    own = each-map (λ (l : Link). own_on l ≤ o.own) (λ (l : Link). own_on l ≤ o.own) (without these) b.links
        (λ l j. (let e = count_fewer (λ (out : Outgoing). is_own out.pdu) (λ out. not (is_of these out)) l.queue in omega (arith, e, j))) k.calm.own;
    scopes = k.calm.scopes;
  };
  taken = each-weaken (λ (a : Answer). list_any (λ (l : Link). l.conn == a.conn && takes_more l) b.links ≡ true) (λ (a : Answer). list_any (λ (l : Link). l.conn == a.conn && takes_more l) (map (without these) b.links) ≡ true) b.undue
      (λ a is. any_map (λ (l : Link). l.conn == a.conn && takes_more l) (without these) b.links (λ l. refl) ∙ is) k.taken;
}

ready_left : (o : Opening) (r : Option Request) (these : ℕ → Bool) (b : Box) → IsReady o b → IsReady o (left_by r these b)
ready_left o (Some r) these b k = ready_without o these (record b { tasks = map (turned_by phase_taken_out these) b.tasks }) (calm_turned phase_taken_out o these b out_left k)
ready_left o None these b k = calm_turned phase_completed o these b completed_left k

pub ready_leave : (o : Opening) (r : Option Request) (tickets : List ℕ) (b : Box) → IsReady o b → IsReady o (leave_box r tickets b)
ready_leave o r tickets b k = subst (IsReady o) (sym (leaves_by r tickets b)) (ready_left o r (contains tickets) b k)

same_left : (r : Option Request) (p q : ℕ → Bool) (b : Box) → ((n : ℕ) → p n ≡ q n) → left_by r p b ≡ left_by r q b
same_left r p q b same = ap (λ (these : ℕ → Bool). left_by r these b) (λ i n. same n i)

-- ---- the walk

module _ (o : Opening) (r : Option Request) (b : Box) (ready : IsReady o b) where
  scopes_of : (these : ℕ → Bool) → HaveLeft (left_by r these b)
  scopes_of these = by_request r (ready_left o r these b ready)
    where
      by_request : (x : Option Request) → IsReady o (left_by x these b) → HaveLeft (left_by x these b)
      by_request (Some request) k = k.calm.scopes
      by_request None k = k.calm.scopes

  order_of : (these : ℕ → Bool) → InOrder (λ (t u : Task). t.ticket < u.ticket) (left_by r these b).tasks
  order_of these = (ready_left o r these b ready).calm.homes.ascending

  or_same : (v w : Bool) → (v || (w || false)) ≡ (v || w)
  or_same true w = refl
  or_same false true = refl
  or_same false false = refl

  or_joined : (u v w : Bool) → ((u || v) || w) ≡ (u || (v || w))
  or_joined true v w = refl
  or_joined false v w = refl

  leaves_from : (tickets : List ℕ) (done : ℕ → Bool) (s : State) → Stands o s (left_by r done b) → EachOf (λ k. is_live_in b k ≡ true) tickets → Stands o (leave r tickets s) (left_by r (or_these done (contains tickets)) b)
  leaves_from [] done s h live = subst (Stands o s) (same_left r done (or_these done (contains [])) b (λ n. or_no (done n))) h
    where
      or_no : (w : Bool) → w ≡ (w || false)
      or_no true = refl
      or_no false = refl
  leaves_from (k ∷ tickets) done s h live = by_done (done k) refl (λ more x j. leaves_from tickets more x j live.1)
    where
      one_done : (n : ℕ) → done k ≡ true → or_these done (contains tickets) n ≡ or_these done (contains (k ∷ tickets)) n
      one_done n is = by_test (k == n) refl
        where
          yes : (w : Bool) → w ≡ true → (v u : Bool) → (w || v) ≡ (w || u)
          yes true e v u = refl
          yes false e v u = absurd (false≢true e)

          by_test : (w : Bool) → (k == n) ≡ w → or_these done (contains tickets) n ≡ or_these done (contains (k ∷ tickets)) n
          by_test true here = yes (done n) (ap done (sym (eqb-true k n here)) ∙ is) (contains tickets n) (contains (k ∷ tickets) n)
          by_test false there = sym (ap (λ (w : Bool). done n || (w || contains tickets n)) there)

      by_done : (w : Bool) → done k ≡ w → ((more : ℕ → Bool) (x : State) → Stands o x (left_by r more b) → Stands o (leave r tickets x) (left_by r (or_these more (contains tickets)) b))
          → Stands o (leave r tickets (leave_one r k s)) (left_by r (or_these done (contains (k ∷ tickets))) b)
      by_done true is rest =
          subst (λ (x : Option Command). Stands o (leave r tickets (elim x as (λ (y : Option Command). State) [ Some c ↦ elim r as (λ (z : Option Request). State) [ Some request ↦ taken_out c s | None ↦ completed c s ] | None ↦ s ])) (left_by r (or_these done (contains (k ∷ tickets))) b))
          (sym (live_none o s (left_by r done b) h k (lives_none r done k b is)))
          (subst (Stands o (leave r tickets s)) (same_left r (or_these done (contains tickets)) (or_these done (contains (k ∷ tickets))) b (λ n. one_done n is)) (rest done s h))
      by_done false isnt rest =
          let one : Stands o (leave_one r k s) (leave_box r (k ∷ []) (left_by r done b)) = leave_one_stands o s (left_by r done b) r k h (order_of done) (scopes_of done) (lives_other r done k b isnt ∙ live.0) in
          let next : Stands o (leave_one r k s) (left_by r (or_these done (contains (k ∷ []))) b) = subst (Stands o (leave_one r k s)) (leaves_by r (k ∷ []) (left_by r done b) ∙ left_twice r done (contains (k ∷ [])) b) one in
          subst (Stands o (leave r tickets (leave_one r k s)))
          (same_left r (or_these (or_these done (contains (k ∷ []))) (contains tickets)) (or_these done (contains (k ∷ tickets))) b
          (λ n. ap (λ (w : Bool). w || contains tickets n) (or_same (done n) (k == n)) ∙ or_joined (done n) (k == n) (contains tickets n)))
          (rest (or_these done (contains (k ∷ []))) (leave_one r k s) next)

  -- the commands that leave in an item
  pub leave_stands : (s : State) (tickets : List ℕ) → Stands o s b → EachOf (λ k. is_live_in b k ≡ true) tickets → Stands o (leave r tickets s) (leave_box r tickets b)
  leave_stands s tickets h live =
      subst (Stands o (leave r tickets s)) (same_left r (or_these (λ n. false) (contains tickets)) (contains tickets) b (λ n. refl) ∙ sym (leaves_by r tickets b))
      (leaves_from tickets (λ n. false) s (subst (Stands o s) (sym (left_none r b)) h) live)
