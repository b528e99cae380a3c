-- Of what gives something: a connection that wants a ping; and where none does, an answer that isn't due would be, and of what waits
-- in queues the PDU that entered first passes the fence.
use Rattle.std.proofs.Common.{◌≡◌, ℕ, ◌⊎◌, inl, inr, ⊎_elim, ◌==◌, ◌≤◌, ◌&&◌, ◌||◌, not, cond, Bool, true, false, List, [], ◌∷◌, filter, nat_lt, Option, Some, None, refl, ap, sym, subst, ◌∙◌, arith}
use Rattle.std.specs.List.{list_any, list_all}
use Rattle.std.proofs.lemmas.Bool.{cond_both, false≢true, eqb-true}
use Rattle.std.proofs.lemmas.Bool.Decides.{nat_tests}
use Rattle.iscsi_rules.proofs.traces.ApartLemmas.{eq_sym}
use Rattle.iscsi_rules.proofs.general.BoolLemmas.{and_parts, and_both, and_false, or_first, or_second, or_none, not_true}
use Rattle.iscsi_rules.proofs.general.ElementLemmas.{In, filter-in}
use Rattle.iscsi_rules.proofs.general.ListLemmas.{none_both}
use Rattle.iscsi_outbox_rules.specs.rules.Calls.{Opening}
use Rattle.iscsi_outbox_rules.specs.rules.Boxes.{Task, Outgoing, Handed, Answer, Link, Box}
use Rattle.iscsi_outbox_rules.specs.rules.Words.{contains, is_running_phase, is_running, is_left, is_of, is_open, looks_for_arrival, unwritten, unarrived, under_way, has_under_way}
use Rattle.iscsi_outbox_rules.specs.rules.Due.{is_of_logout, holds, goes_behind, is_due}
use Rattle.iscsi_outbox_rules.specs.rules.Handing.{others, takes_handed, fenced_handed, lets_pass, is_clear, passes_fence, is_ping, is_behind_logout, is_asked_for, wants_ping, ping, first_waiting, chosen, is_over}
use Rattle.iscsi_outbox_rules.specs.promises.Deadlock.{is_some_handed, is_served}
use Rattle.iscsi_outbox_rules.proofs.general.EachLemmas.{EachOf, each-weaken}
use Rattle.iscsi_outbox_rules.proofs.general.SortedLemmas.{SortedBy}
use Rattle.iscsi_outbox_rules.proofs.progress.DeadlockQueues.{Earlier, Timed, has_left}

-- ---- of lists

pub none_of : {A : Type 0} (p : A → Bool) (xs : List A) → EachOf (λ (x : A). p x ≡ false) xs → list_any p xs ≡ false
none_of p [] h = refl
none_of p (x ∷ xs) h = ap (λ v. v || list_any p xs) h.0 ∙ none_of p xs h.1

pub each-none : {A : Type 0} (p : A → Bool) (xs : List A) → list_any p xs ≡ false → EachOf (λ (x : A). p x ≡ false) xs
each-none p [] h = tt
each-none p (x ∷ xs) h = let parts = or_none (p x) (list_any p xs) h in (parts.0, each-none p xs parts.1)

pub each-all : {A : Type 0} (p : A → Bool) (xs : List A) → list_all p xs ≡ true → EachOf (λ (x : A). p x ≡ true) xs
each-all p [] h = tt
each-all p (x ∷ xs) h = let parts = and_parts (p x) (list_all p xs) h in (parts.0, each-all p xs parts.1)

pub each-both : {A : Type 0} (P Q R : A → Type 0) (xs : List A) → ((x : A) → P x → Q x → R x) → EachOf P xs → EachOf Q xs → EachOf R xs
each-both P Q R [] f h k = tt
each-both P Q R (x ∷ xs) f h k = (f x h.0 k.0, each-both P Q R xs f h.1 k.1)

pub any_in : {A : Type 0} (p : A → Bool) (xs : List A) (x : A) → In x xs → p x ≡ true → list_any p xs ≡ true
any_in p [] x there is = absurd there
any_in p (y ∷ xs) x there is = ⊎_elim (λ (same : y ≡ x). or_first (p y) (list_any p xs) (ap p same ∙ is)) (λ later. or_second (p y) (list_any p xs) (any_in p xs x later is)) there

pub any_passing : {A : Type 0} (p q : A → Bool) (xs : List A) → ((x : A) → p x ≡ true → q x ≡ true) → list_any p xs ≡ true → list_any q xs ≡ true
any_passing p q [] f h = h
any_passing p q (x ∷ xs) f h =
    elim (p x) as (λ v. p x ≡ v → (v || list_any p xs) ≡ true → (q x || list_any q xs) ≡ true) [
      | true ↦ λ is here. or_first (q x) (list_any q xs) (f x is)
      | false ↦ λ is later. or_second (q x) (list_any q xs) (any_passing p q xs f later)
    ] refl h

all_filter : {A : Type 0} (p q : A → Bool) (xs : List A) → EachOf (λ (x : A). q x ≡ true → p x ≡ true) xs → list_all p (filter q xs) ≡ true
all_filter p q [] h = refl
all_filter p q (x ∷ xs) h =
    cond_both (q x) (x ∷ filter q xs) (filter q xs) (λ ys. list_all p ys ≡ true) (λ is. and_both (p x) (list_all p (filter q xs)) (h.0 is) (all_filter p q xs h.1)) (λ is. all_filter p q xs h.1)

-- where there is none at all
none_at_all : {A : Type 0} (p : A → Bool) (xs : List A) → list_any (λ (x : A). true) xs ≡ false → list_any p xs ≡ false
none_at_all p [] h = refl
none_at_all p (x ∷ xs) h = absurd (false≢true (sym h))

contained : (P : ℕ → Type 0) (ks : List ℕ) (k : ℕ) → contains ks k ≡ true → EachOf P ks → P k
contained P [] k is h = absurd (false≢true is)
contained P (j ∷ ks) k is h =
    elim (j == k) as (λ v. (j == k) ≡ v → (v || contains ks k) ≡ true → P k) [
      | true ↦ λ same here. subst P (eqb-true j k same) h.0
      | false ↦ λ same later. contained P ks k later h.1
    ] refl is

-- ---- the connection whose first PDU entered first

abbrev pub head_of : List Outgoing → Option ℕ
head_of [] = None
head_of (x ∷ queue) = Some x.time

abbrev pub rank : Link → Option ℕ
rank l = cond (is_open l) (head_of l.queue) None

abbrev pub AtLeast : ℕ → Option ℕ → Type 0
AtLeast n None = Unit {0}
AtLeast n (Some k) = n ≤ k

pub record Least (links : List Link) : Type 0 where
  pub link : Link
  pub time : ℕ
  pub there : In link links
  pub is : rank link ≡ Some time
  pub least : EachOf (λ (m : Link). AtLeast time (rank m)) links

still_least : (n k : ℕ) → n ≤ k → (x : Option ℕ) → AtLeast k x → AtLeast n x
still_least n k low None h = tt
still_least n k low (Some j) h = let z : n ≤ j = omega (arith, low, h) in z

pub least_of : (links : List Link) → EachOf (λ (l : Link). rank l ≡ None) links ⊎ Least links
least_of [] = inl tt
least_of (l ∷ links) = by_rank (rank l) refl (least_of links)
  where
    itself : (n : ℕ) → rank l ≡ Some n → AtLeast n (rank l)
    itself n is = subst (AtLeast n) (sym is) (let z : n ≤ n = omega arith in z)

    by_order : (n : ℕ) → rank l ≡ Some n → (k : Least links) → (v : Bool) → nat_lt k.time n ≡ v → Least (l ∷ links)
    by_order n is k true less =
        let low : k.time ≤ n = grind (arith, nat_tests, less) in
        record { link = k.link; time = k.time; there = inr k.there; is = k.is; least = (subst (AtLeast k.time) (sym is) low, k.least) }
    by_order n is k false less =
        let low : n ≤ k.time = grind (arith, nat_tests, less) in
        record { link = l; time = n; there = inl refl; is = is; least = (itself n is, each-weaken (λ (m : Link). AtLeast k.time (rank m)) (λ (m : Link). AtLeast n (rank m)) links (λ m h. still_least n k.time low (rank m) h) k.least) }

    by_rank : (x : Option ℕ) → rank l ≡ x → EachOf (λ (m : Link). rank m ≡ None) links ⊎ Least links → EachOf (λ (m : Link). rank m ≡ None) (l ∷ links) ⊎ Least (l ∷ links)
    by_rank None is (inl none) = inl (is, none)
    by_rank None is (inr k) = inr (record { link = k.link; time = k.time; there = inr k.there; is = k.is; least = (subst (AtLeast k.time) (sym is) tt, k.least) })
    by_rank (Some n) is (inl none) = inr (record {
      link = l;
      time = n;
      there = inl refl;
      is = is;
      least = (itself n is, each-weaken (λ (m : Link). rank m ≡ None) (λ (m : Link). AtLeast n (rank m)) links (λ m h. subst (AtLeast n) (sym h) tt) none);
    })
    by_rank (Some n) is (inr k) = inr (by_order n is k (nat_lt k.time n) refl)

-- an open connection with something that waits
pub record Ranked (l : Link) (n : ℕ) : Type 0 where
  pub opens : is_open l ≡ true
  pub out : Outgoing
  pub rest : List Outgoing
  pub queue_is : l.queue ≡ out ∷ rest
  pub time_is : out.time ≡ n

pub ranked : (l : Link) (n : ℕ) → rank l ≡ Some n → Ranked l n
ranked l n is = by_open (is_open l) refl is
  where
    by_queue : is_open l ≡ true → (q : List Outgoing) → l.queue ≡ q → head_of q ≡ Some n → Ranked l n
    by_queue opens [] same h = absurd cc
    by_queue opens (x ∷ q) same h = let time : x.time ≡ n = cc in record { opens = opens; out = x; rest = q; queue_is = same; time_is = time }

    by_open : (v : Bool) → is_open l ≡ v → cond v (head_of l.queue) None ≡ Some n → Ranked l n
    by_open true opens h = by_queue opens l.queue refl h
    by_open false opens h = absurd cc

-- nothing waits there
pub unranked : (l : Link) → rank l ≡ None → (is_open l && list_any (λ (out : Outgoing). true) l.queue) ≡ false
unranked l is = by_open (is_open l) is
  where
    by_queue : (q : List Outgoing) → head_of q ≡ None → list_any (λ (out : Outgoing). true) q ≡ false
    by_queue [] h = refl
    by_queue (x ∷ q) h = absurd cc

    by_open : (v : Bool) → cond v (head_of l.queue) None ≡ None → (v && list_any (λ (out : Outgoing). true) l.queue) ≡ false
    by_open true h = by_queue l.queue h
    by_open false h = refl

-- all that waits on an open connection entered no earlier
pub none_earlier : (n time : ℕ) (m : Link) → Timed n m → is_open m ≡ true → AtLeast time (rank m) → EachOf (λ (y : Outgoing). time ≤ y.time) m.queue
none_earlier n time m timed opens least = by_queue m.queue timed.0 (subst (λ v. AtLeast time (cond v (head_of m.queue) None)) opens least)
  where
    by_queue : (q : List Outgoing) → SortedBy Earlier q → AtLeast time (head_of q) → EachOf (λ (y : Outgoing). time ≤ y.time) q
    by_queue [] sorted low = tt
    by_queue (y ∷ q) sorted low = (low, each-weaken (Earlier y) (λ (z : Outgoing). time ≤ z.time) q (λ z less. omega (arith, low, less)) sorted.0)

no_before : (p : Outgoing → Bool) (out : Outgoing) (n : ℕ) → out.time ≡ n → (queue : List Outgoing) → EachOf (λ (y : Outgoing). n ≤ y.time) queue → list_any (λ (y : Outgoing). p y && nat_lt y.time out.time) queue ≡ false
no_before p out n is queue h =
    none_of (λ (y : Outgoing). p y && nat_lt y.time out.time) queue
    (each-weaken (λ (y : Outgoing). n ≤ y.time) (λ (y : Outgoing). (p y && nat_lt y.time out.time) ≡ false) queue
    (λ y low. let z : nat_lt y.time out.time ≡ false = grind (arith, nat_tests, low, is) in ap (λ v. p y && v) z ∙ and_false (p y)) h)

-- ---- the box

module _ (o : Opening) (b : Box) where
  abbrev pub wants : Link → Bool
  wants l = is_open l && wants_ping o b l

  abbrev pub shown : Option Outgoing → Bool
  shown x = list_any (λ (out : Outgoing). true) (elim x [ Some out ↦ out ∷ [] | None ↦ [] ])

  pub gives_ping : (l : Link) → wants l ≡ true → shown (chosen o b l) ≡ true
  gives_ping l h =
      let parts = and_parts (is_open l) (wants_ping o b l) h in
      ap (λ v. shown (cond v (cond (wants_ping o b l) (Some (ping b l)) (first_waiting o b l l.queue)) None)) parts.0 ∙ ap (λ v. shown (cond v (Some (ping b l)) (first_waiting o b l l.queue))) parts.1

  pub gives_first : (l : Link) (out : Outgoing) (rest : List Outgoing) → is_open l ≡ true → wants l ≡ false → l.queue ≡ out ∷ rest → passes_fence o b l out ≡ true → shown (chosen o b l) ≡ true
  gives_first l out rest opens asleep queue passes =
      let unasked : wants_ping o b l ≡ false = sym (ap (λ v. v && wants_ping o b l) opens) ∙ asleep in
      ap (λ v. shown (cond v (cond (wants_ping o b l) (Some (ping b l)) (first_waiting o b l l.queue)) None)) opens ∙ ap (λ v. shown (cond v (Some (ping b l)) (first_waiting o b l l.queue))) unasked
      ∙ ap (λ q. shown (first_waiting o b l q)) queue ∙ ap (λ v. shown (cond v (Some out) None)) passes

  -- what stands of an open connection that wants no ping
  pub record Calm (l : Link) : Type 0 where
    pub written : list_any (λ (h : Handed). true) (unwritten l) ≡ false
    pub unasked : looks_for_arrival o ≡ true → is_asked_for o b l ≡ false

  abbrev pub Ends : Link → Type 0
  Ends l = is_open l ≡ true → list_any (λ (h : Handed). true) (unwritten l) ≡ false → is_behind_logout l ≡ true → is_over b l ≡ true

  pub calm : (l : Link) → is_served b l ≡ true → Ends l → wants l ≡ false → is_open l ≡ true → Calm l
  calm l served ends asleep opens = record { written = written; unasked = λ looks. by_asked looks (is_asked_for o b l) refl }
    where
      second : (not (is_some_handed (unwritten l)) && not (list_any is_ping (unarrived l)) && not (is_over b l)) ≡ true
      second = sym (ap (λ v. not v || (not (is_some_handed (unwritten l)) && not (list_any is_ping (unarrived l)) && not (is_over b l))) opens) ∙ served

      first : ((not (is_some_handed (unwritten l)) && not (list_any is_ping (unarrived l))) ≡ true) × (not (is_over b l) ≡ true)
      first = and_parts (not (is_some_handed (unwritten l)) && not (list_any is_ping (unarrived l))) (not (is_over b l)) second

      parts : (not (is_some_handed (unwritten l)) ≡ true) × (not (list_any is_ping (unarrived l)) ≡ true)
      parts = and_parts (not (is_some_handed (unwritten l))) (not (list_any is_ping (unarrived l))) first.0

      written : list_any (λ (h : Handed). true) (unwritten l) ≡ false
      written = not_true (is_some_handed (unwritten l)) parts.0

      on : (v : Bool) → is_behind_logout l ≡ v → not (is_behind_logout l) ≡ true
      on false is = ap not is
      on true is = absurd (false≢true (sym (not_true (is_over b l) first.1) ∙ ends opens written is))

      by_asked : looks_for_arrival o ≡ true → (v : Bool) → is_asked_for o b l ≡ v → is_asked_for o b l ≡ false
      by_asked looks false is = is
      by_asked looks true is =
          let asked : wants_ping o b l ≡ true =
          and_both (looks_for_arrival o && is_asked_for o b l && not (list_any is_ping (unarrived l))) (not (is_behind_logout l))
          (and_both (looks_for_arrival o && is_asked_for o b l) (not (list_any is_ping (unarrived l))) (and_both (looks_for_arrival o) (is_asked_for o b l) looks is) parts.1) (on (is_behind_logout l) refl) in
          absurd (false≢true (sym asleep ∙ and_both (is_open l) (wants_ping o b l) opens asked))

  abbrev pub IsCalm : Link → Type 0
  IsCalm l = is_open l ≡ true → Calm l

  -- ---- an answer that isn't due

  under_none : (p : Handed → Bool) (l : Link) → IsCalm l → (looks_for_arrival o ≡ true → is_open l ≡ true → list_any p (unarrived l) ≡ false) → list_any p (under_way o l) ≡ false
  under_none p l calms arrived = by_open (is_open l) refl
    where
      by_looks : is_open l ≡ true → (v : Bool) → looks_for_arrival o ≡ v → list_any p (cond v (unarrived l) (unwritten l)) ≡ false
      by_looks opens true looks = arrived looks opens
      by_looks opens false looks = none_at_all p (unwritten l) (calms opens).written

      by_open : (v : Bool) → is_open l ≡ v → list_any p (cond v (cond (looks_for_arrival o) (unarrived l) (unwritten l)) []) ≡ false
      by_open true opens = by_looks opens (looks_for_arrival o) refl
      by_open false opens = refl

  unasked_left : (l : Link) → IsCalm l → looks_for_arrival o ≡ true → is_open l ≡ true → list_any (λ (h : Handed). is_of (is_left b) h.out) (unarrived l) ≡ false
  unasked_left l calms looks opens =
      let none = (or_none (has_under_way o (is_left b) l || (list_any takes_handed (unarrived l) && list_any (λ (m : Link). list_any (λ (out : Outgoing). out.fenced) m.queue) (others b l)))
      (list_any fenced_handed (unarrived l) && list_any (λ (m : Link). list_any (λ (out : Outgoing). out.takes) m.queue) (others b l)) ((calms opens).unasked looks)).0 in
      let first : has_under_way o (is_left b) l ≡ false = (or_none (has_under_way o (is_left b) l) (list_any takes_handed (unarrived l) && list_any (λ (m : Link). list_any (λ (out : Outgoing). out.fenced) m.queue) (others b l)) none).0 in
      sym (ap (λ v. list_any (λ (h : Handed). is_of (is_left b) h.out) (cond v (cond (looks_for_arrival o) (unarrived l) (unwritten l)) [])) opens ∙ ap (λ v. list_any (λ (h : Handed). is_of (is_left b) h.out) (cond v (unarrived l) (unwritten l))) looks) ∙ first

  holds_none : (a : Answer) (l : Link) → IsCalm l → EachOf (λ k. has_left b.tasks k ≡ true) a.out.scope → holds o a l ≡ false
  holds_none a l calms scope =
      ap (λ v. (not (is_of_logout a.aim) && not (l.conn == a.conn)) && v)
      (under_none (λ (h : Handed). is_of (contains a.out.scope) h.out) l calms (λ looks opens. none looks opens (list_any (λ (h : Handed). is_of (contains a.out.scope) h.out) (unarrived l)) refl))
      ∙ and_false (not (is_of_logout a.aim) && not (l.conn == a.conn))
    where
      by_ticket : (x : Option ℕ) → elim x [ Some ticket ↦ contains a.out.scope ticket | None ↦ false ] ≡ true → elim x [ Some ticket ↦ is_left b ticket | None ↦ false ] ≡ true
      by_ticket (Some ticket) h = contained (λ k. has_left b.tasks k ≡ true) a.out.scope ticket h scope
      by_ticket None h = h

      none : looks_for_arrival o ≡ true → is_open l ≡ true → (v : Bool) → list_any (λ (h : Handed). is_of (contains a.out.scope) h.out) (unarrived l) ≡ v → list_any (λ (h : Handed). is_of (contains a.out.scope) h.out) (unarrived l) ≡ false
      none looks opens false is = is
      none looks opens true is =
          absurd (false≢true (sym (unasked_left l calms looks opens)
          ∙ any_passing (λ (h : Handed). is_of (contains a.out.scope) h.out) (λ (h : Handed). is_of (is_left b) h.out) (unarrived l) (λ h k. by_ticket (h.out.ticket) k) is))

  -- the first of those that aren't due would be
  pub none_undue : (a : Answer) (rest : List Answer) → EachOf IsCalm b.links → EachOf (λ k. has_left b.tasks k ≡ true) a.out.scope → list_any (λ (t : Task). is_running_phase t.phase) b.tasks ≡ false → a.uncleared ≡ false
      → is_due o b [] a ≡ false → ⊥
  none_undue a rest calms scope quiet cleared undue =
      let running : list_any (is_running b) a.out.scope ≡ false =
      none_of (is_running b) a.out.scope (each-weaken (λ k. has_left b.tasks k ≡ true) (λ k. is_running b k ≡ false) a.out.scope (λ k h. none_both (λ (t : Task). t.ticket == k) (λ (t : Task). is_running_phase t.phase) b.tasks quiet) scope) in
      let held : list_any (holds o a) b.links ≡ false = none_of (holds o a) b.links (each-weaken IsCalm (λ (l : Link). holds o a l ≡ false) b.links (λ l k. holds_none a l k scope) calms) in
      false≢true
      (sym undue ∙ ap (λ v. not v && not (list_any (holds o a) b.links) && not a.uncleared && not (list_any (goes_behind a) [])) running
      ∙ ap (λ v. not v && not a.uncleared && not (list_any (goes_behind a) [])) held ∙ ap (λ v. not v && not (list_any (goes_behind a) [])) cleared)

  -- ---- what waits in a queue

  module _ (l : Link) (n : ℕ) (r : Ranked l n) (there : In l b.links) where
    -- of another connection it stands among the others
    among : (p : Link → Bool) (m : Link) → not (m.conn == l.conn) ≡ true → p l ≡ true → list_any p (others b m) ≡ true
    among p m apart is =
        any_in p (others b m) l (filter-in (λ (x : Link). is_open x && not (x.conn == m.conn)) b.links l there (and_both (is_open l) (not (l.conn == m.conn)) r.opens (ap not (eq_sym l.conn m.conn) ∙ apart))) is

    waits : (p : Outgoing → Bool) → p r.out ≡ true → list_any p l.queue ≡ true
    waits p is = ap (list_any p) r.queue_is ∙ or_first (p r.out) (list_any p r.rest) is

    module _ (m : Link) (calms : IsCalm m) (opens : is_open m ≡ true) (apart : not (m.conn == l.conn) ≡ true) (late : EachOf (λ (y : Outgoing). n ≤ y.time) m.queue) where
      abbrev taken : Bool
      taken = list_any takes_handed (unarrived m) && list_any (λ (x : Link). list_any (λ (out : Outgoing). out.fenced) x.queue) (others b m)

      abbrev fence : Bool
      fence = list_any fenced_handed (unarrived m) && list_any (λ (x : Link). list_any (λ (out : Outgoing). out.takes) x.queue) (others b m)

      no_fence : r.out.takes ≡ true → looks_for_arrival o ≡ true → list_any fenced_handed (unarrived m) ≡ false
      no_fence takes looks = by_any (list_any fenced_handed (unarrived m)) refl
        where
          by_any : (v : Bool) → list_any fenced_handed (unarrived m) ≡ v → list_any fenced_handed (unarrived m) ≡ false
          by_any false is = is
          by_any true is =
              absurd (false≢true (sym (or_none (has_under_way o (is_left b) m || taken) fence ((calms opens).unasked looks)).1
              ∙ and_both (list_any fenced_handed (unarrived m)) (list_any (λ (x : Link). list_any (λ (out : Outgoing). out.takes) x.queue) (others b m)) is
              (among (λ (x : Link). list_any (λ (out : Outgoing). out.takes) x.queue) m apart (waits (λ (out : Outgoing). out.takes) takes))))

      none_taken : r.out.fenced ≡ true → looks_for_arrival o ≡ true → is_open m ≡ true → list_any takes_handed (unarrived m) ≡ false
      none_taken fenced looks opens' = by_any (list_any takes_handed (unarrived m)) refl
        where
          by_any : (v : Bool) → list_any takes_handed (unarrived m) ≡ v → list_any takes_handed (unarrived m) ≡ false
          by_any false is = is
          by_any true is =
              absurd (false≢true (sym (or_none (has_under_way o (is_left b) m) taken (or_none (has_under_way o (is_left b) m || taken) fence ((calms opens).unasked looks)).0).1
              ∙ and_both (list_any takes_handed (unarrived m)) (list_any (λ (x : Link). list_any (λ (out : Outgoing). out.fenced) x.queue) (others b m)) is
              (among (λ (x : Link). list_any (λ (out : Outgoing). out.fenced) x.queue) m apart (waits (λ (out : Outgoing). out.fenced) fenced))))

      passes : r.out.takes ≡ true → (lets_pass o r.out m && (not r.out.fenced || is_clear o r.out m)) ≡ true
      passes takes = and_both (lets_pass o r.out m) (not r.out.fenced || is_clear o r.out m) lets (by_fenced r.out.fenced refl)
        where
          looked : (v : Bool) → looks_for_arrival o ≡ v → not (v && list_any fenced_handed (unarrived m)) ≡ true
          looked false looks = refl
          looked true looks = ap not (no_fence takes looks)

          lets : lets_pass o r.out m ≡ true
          lets =
              and_both (not (list_any (λ (before : Outgoing). before.fenced && nat_lt before.time r.out.time) m.queue)) (not (looks_for_arrival o && list_any fenced_handed (unarrived m)))
              (ap not (no_before (λ (y : Outgoing). y.fenced) r.out n r.time_is m.queue late)) (looked (looks_for_arrival o) refl)

          by_fenced : (v : Bool) → r.out.fenced ≡ v → (not v || is_clear o r.out m) ≡ true
          by_fenced false fenced = refl
          by_fenced true fenced =
              and_both (not (list_any (λ (before : Outgoing). before.takes && nat_lt before.time r.out.time) m.queue)) (not (list_any takes_handed (under_way o m)))
              (ap not (no_before (λ (y : Outgoing). y.takes) r.out n r.time_is m.queue late)) (ap not (under_none takes_handed m calms (none_taken fenced)))

    pub passes_all : EachOf IsCalm b.links → EachOf (λ (m : Link). is_open m ≡ true → EachOf (λ (y : Outgoing). n ≤ y.time) m.queue) b.links → passes_fence o b l r.out ≡ true
    passes_all calms late = by_takes r.out.takes refl
      where
        by_takes : (v : Bool) → r.out.takes ≡ v → (not v || list_all (λ (m : Link). lets_pass o r.out m && (not r.out.fenced || is_clear o r.out m)) (others b l)) ≡ true
        by_takes false takes = refl
        by_takes true takes =
            all_filter (λ (m : Link). lets_pass o r.out m && (not r.out.fenced || is_clear o r.out m)) (λ (m : Link). is_open m && not (m.conn == l.conn)) b.links
            (each-both IsCalm (λ (m : Link). is_open m ≡ true → EachOf (λ (y : Outgoing). n ≤ y.time) m.queue) (λ (m : Link). (is_open m && not (m.conn == l.conn)) ≡ true → (lets_pass o r.out m && (not r.out.fenced || is_clear o r.out m)) ≡ true) b.links
            (λ m k q is. let parts = and_parts (is_open m) (not (m.conn == l.conn)) is in passes m k parts.0 parts.1 (q parts.0) takes) calms late)
