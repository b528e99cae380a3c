-- What holds of a box through each step of an item and of a call: more than a sound box has, so that each step keeps it.
use Rattle.std.proofs.Common.{◌≡◌, ◌<◌, ◌≤◌, ℕ, ◌==◌, ◌&&◌, not, cond, Bool, true, false, List, [], ◌∷◌, map, filter, count_by, Option, Some, None, refl, ap, sym, subst, ◌∙◌, arith}
use Rattle.std.specs.List.{list_any}
use Rattle.std.proofs.lemmas.Bool.{and_from, and_parts, cond_both, eqb-true, false≢true, false_from_ne_true}
use Rattle.iscsi_rules.specs.rules.Settings.{is_known}
use Rattle.iscsi_rules.proofs.general.ListLemmas.{fewer_counted}
use Rattle.iscsi_outbox_rules.specs.rules.Calls.{Opening}
use Rattle.iscsi_outbox_rules.specs.rules.Boxes.{Task, Outgoing, Handed, Answer, Link, Box}
use Rattle.iscsi_outbox_rules.specs.rules.Words.{contains, is_left_phase, is_of, is_open}
use Rattle.iscsi_outbox_rules.specs.rules.Due.{settle}
use Rattle.iscsi_outbox_rules.specs.rules.Own.{is_own}
use Rattle.iscsi_outbox_rules.specs.rules.Queues.{at_link, takes_more, without}
use Rattle.iscsi_outbox_law.specs.private.Pairs.{EachOf, InOrder}
use Rattle.iscsi_outbox_law.specs.private.Sound.{HasHome, IsAlive, IsFenceFit, IsLinkSound, IsAnswerSound, IsSound}
use Rattle.iscsi_outbox_law.proofs.general.PairLemmas.{each-map, each-weaken}
use Rattle.iscsi_outbox_law.proofs.general.PlaceLemmas.{conns_of}
use Rattle.iscsi_outbox_law.proofs.invariants.SoundLists.{any_mapped, each_passing}
use Rattle.iscsi_outbox_law.proofs.commands.TrackedEnds.{order_filter}

-- the command with this ticket entered on this connection
abbrev pub has_home : List Task → ℕ → ℕ → Bool
has_home tasks conn k = list_any (λ (t : Task). t.ticket == k && t.conn == conn) tasks

-- it left
abbrev pub left_in : List Task → ℕ → Bool
left_in tasks k = list_any (λ (t : Task). t.ticket == k && is_left_phase t.phase) tasks

abbrev pub own_queued : Link → ℕ
own_queued l = count_by (λ (out : Outgoing). is_own out.pdu) l.queue

-- what waits
pub record IsEntryFirm (tasks : List Task) (time conn : ℕ) (out : Outgoing) : Type 0 where
  pub home : HasHome tasks conn out
  pub alive : IsAlive tasks out
  pub fenced : IsFenceFit out
  pub below : out.time < time

pub record IsLinkFirm (o : Opening) (tasks : List Task) (time : ℕ) (l : Link) : Type 0 where
  pub waits : EachOf (IsEntryFirm tasks time l.conn) l.queue
  pub own : own_queued l ≤ o.own
  pub times : InOrder (λ (x y : Outgoing). x.time < y.time) l.queue
  pub idle : is_open l ≡ false → l.queue ≡ []
  pub handed : EachOf (λ (h : Handed). HasHome tasks l.conn h.out) l.handed

-- what answers an abort or a Logout: it is of no command, and waits for a connection that takes it
pub record IsAnswerFirm (tasks : List Task) (links : List Link) (a : Answer) : Type 0 where
  pub scope : (k : ℕ) → contains a.out.scope k ≡ true → left_in tasks k ≡ true
  pub taken : list_any (λ (l : Link). l.conn == a.conn && takes_more l) links ≡ true
  pub ticket : a.out.ticket ≡ None
  pub plain : is_own a.out.pdu ≡ false
  pub takes : a.out.takes ≡ true

pub record AreTasksFirm (o : Opening) (tasks : List Task) : Type 0 where
  pub ascending : InOrder (λ (t u : Task). t.ticket < u.ticket) tasks
  pub known : EachOf (λ (t : Task). is_known t.conn o.session.conns ≡ true) tasks

pub record Firm (o : Opening) (ts : List Task) (time : ℕ) (ls : List Link) (answers : List Answer) : Type 0 where
  pub tasks : AreTasksFirm o ts
  pub links : EachOf (IsLinkFirm o ts time) ls
  pub undue : EachOf (IsAnswerFirm ts ls) answers
  pub conns : conns_of ls ≡ map (λ (c : ℕ × ℕ). c.0) o.session.conns

abbrev pub IsFirm : Opening → Box → Type 0
IsFirm o b = Firm o b.tasks b.time b.links b.undue

-- ---- commands that come and go on

-- each command is still there, and what left stays left
pub record Onto (ts us : List Task) : Type 0 where
  pub homes : (conn k : ℕ) → has_home ts conn k ≡ true → has_home us conn k ≡ true
  pub left : (k : ℕ) → left_in ts k ≡ true → left_in us k ≡ true

abbrev HomeOf : List Task → ℕ → Option ℕ → Type 0
HomeOf tasks conn x = elim x as (λ (y : Option ℕ). Type 0) [ Some k ↦ has_home tasks conn k ≡ true | None ↦ Unit {0} ]

pub home_onto : (ts us : List Task) (conn : ℕ) (out : Outgoing) → Onto ts us → HasHome ts conn out → HasHome us conn out
home_onto ts us conn out onto h = by_ticket (out.ticket) h
  where
    by_ticket : (x : Option ℕ) → HomeOf ts conn x → HomeOf us conn x
    by_ticket (Some k) i = onto.homes conn k i
    by_ticket None i = tt

abbrev of_option : (ℕ → Bool) → Option ℕ → Bool
of_option these x = elim x [ Some k ↦ these k | None ↦ false ]

-- none of these left, where none of the commands had, nor of those that are dropped
pub alive_onto : (ts us : List Task) (these : ℕ → Bool) (out : Outgoing) → ((k : ℕ) → left_in ts k ≡ false → these k ≡ false → left_in us k ≡ false) → is_of these out ≡ false → IsAlive ts out → IsAlive us out
alive_onto ts us these out f unlike h = by_ticket (out.ticket) unlike h
  where
    by_ticket : (x : Option ℕ) → of_option these x ≡ false → of_option (left_in ts) x ≡ false → of_option (left_in us) x ≡ false
    by_ticket (Some k) i j = f k j i
    by_ticket None i j = refl

pub is_of_none : (out : Outgoing) → is_of (λ k. false) out ≡ false
is_of_none out = by_ticket (out.ticket)
  where
    by_ticket : (x : Option ℕ) → of_option (λ k. false) x ≡ false
    by_ticket (Some k) = refl
    by_ticket None = refl

answer_onto : (ts us : List Task) (links : List Link) → Onto ts us → (a : Answer) → IsAnswerFirm ts links a → IsAnswerFirm us links a
answer_onto ts us links onto a h = record { scope = λ k named. onto.left k (h.scope k named); taken = h.taken; ticket = h.ticket; plain = h.plain; takes = h.takes }

module _ (o : Opening) (ts us : List Task) (time : ℕ) (links : List Link) (undue : List Answer) (firm : AreTasksFirm o us) (onto : Onto ts us) where
  -- none is taken out
  pub turned : ((k : ℕ) → left_in us k ≡ true → left_in ts k ≡ true) → Firm o ts time links undue → Firm o us time links undue
  turned same h = record {
    tasks = firm;
    links = each-weaken (IsLinkFirm o ts time) (IsLinkFirm o us time) links
        (λ l k. record {
          waits = each-weaken (IsEntryFirm ts time l.conn) (IsEntryFirm us time l.conn) l.queue
              (λ out e. record {
                home = home_onto ts us l.conn out onto e.home;
                alive = alive_onto ts us (λ n. false) out (λ n unleft unlike. false_from_ne_true (left_in us n) (λ left. false≢true (sym unleft ∙ same n left))) (is_of_none out) e.alive;
                fenced = e.fenced;
                below = e.below;
              }) k.waits;
          own = k.own;
          times = k.times;
          idle = k.idle;
          handed = each-weaken (λ (g : Handed). HasHome ts l.conn g.out) (λ (g : Handed). HasHome us l.conn g.out) l.handed (λ g e. home_onto ts us l.conn g.out onto e) k.handed;
        }) h.links;
    undue = each-weaken (IsAnswerFirm ts links) (IsAnswerFirm us links) undue (answer_onto ts us links onto) h.undue;
    conns = h.conns;
  }

  -- these are taken out, and what waits of them is dropped
  pub dropped : (these : ℕ → Bool) → ((k : ℕ) → left_in ts k ≡ false → these k ≡ false → left_in us k ≡ false) → Firm o ts time links undue → Firm o us time (map (without these) links) undue
  dropped these none h = record {
    tasks = firm;
    links = each-map (IsLinkFirm o ts time) (IsLinkFirm o us time) (without these) links
        (λ l k. record {
          waits = each-weaken (λ (out : Outgoing). IsEntryFirm ts time l.conn out × (not (is_of these out) ≡ true)) (IsEntryFirm us time l.conn) (filter (λ (out : Outgoing). not (is_of these out)) l.queue)
              (λ out e. record {
                home = home_onto ts us l.conn out onto e.0.home;
                alive = alive_onto ts us these out none (unlike (is_of these out) e.1) e.0.alive;
                fenced = e.0.fenced;
                below = e.0.below;
              }) (each_passing (IsEntryFirm ts time l.conn) (λ (out : Outgoing). not (is_of these out)) l.queue k.waits);
          own = (let few = fewer_counted (λ (out : Outgoing). is_own out.pdu) (λ (out : Outgoing). not (is_of these out)) l.queue in let old = k.own in omega (arith, few, old));
          times = order_filter (λ (x y : Outgoing). x.time < y.time) (λ (out : Outgoing). not (is_of these out)) l.queue k.times;
          idle = λ shut. ap (filter (λ (out : Outgoing). not (is_of these out))) (k.idle shut);
          handed = each-weaken (λ (g : Handed). HasHome ts l.conn g.out) (λ (g : Handed). HasHome us l.conn g.out) l.handed (λ g e. home_onto ts us l.conn g.out onto e) k.handed;
        }) h.links;
    undue = each-weaken (IsAnswerFirm ts links) (IsAnswerFirm us (map (without these) links)) undue
        (λ a k. record {
          scope = λ n named. onto.left n (k.scope n named);
          taken = any_mapped (λ (l : Link). l.conn == a.conn && takes_more l) (λ (l : Link). l.conn == a.conn && takes_more l) (without these) links (λ l is. is) k.taken;
          ticket = k.ticket;
          plain = k.plain;
          takes = k.takes;
        }) h.undue;
    conns = conns_without links ∙ h.conns;
  }
    where
      unlike : (v : Bool) → not v ≡ true → v ≡ false
      unlike true is = absurd (false≢true is)
      unlike false is = refl

      conns_without : (ls : List Link) → conns_of (map (without these) ls) ≡ conns_of ls
      conns_without [] = refl
      conns_without (l ∷ ls) = ap (λ (cs : List ℕ). l.conn ∷ cs) (conns_without ls)

-- ---- connections

pub conns_map : (g : Link → Link) → ((l : Link) → (g l).conn ≡ l.conn) → (links : List Link) → conns_of (map g links) ≡ conns_of links
conns_map g same [] = refl
conns_map g same (l ∷ links) = ap (λ (c : ℕ). c ∷ conns_of (map g links)) (same l) ∙ ap (λ (cs : List ℕ). l.conn ∷ cs) (conns_map g same links)

module _ (tasks : List Task) (links : List Link) where
  -- a connection takes more after it where it took more before
  pub still_taken : (g : Link → Link) → ((l : Link) → (g l).conn ≡ l.conn) → ((l : Link) → takes_more l ≡ true → takes_more (g l) ≡ true) → (undue : List Answer) → EachOf (IsAnswerFirm tasks links) undue
      → EachOf (IsAnswerFirm tasks (map g links)) undue
  still_taken g same more undue h =
      each-weaken (IsAnswerFirm tasks links) (IsAnswerFirm tasks (map g links)) undue
      (λ a k. record {
        scope = k.scope;
        taken = any_mapped (λ (l : Link). l.conn == a.conn && takes_more l) (λ (l : Link). l.conn == a.conn && takes_more l) g links
            (λ l is. let parts = and_parts (l.conn == a.conn) (takes_more l) is in and_from ((g l).conn == a.conn) (takes_more (g l)) (ap (λ (c : ℕ). c == a.conn) (same l) ∙ parts.0) (more l parts.1)) k.taken;
        ticket = k.ticket;
        plain = k.plain;
        takes = k.takes;
      }) h

  -- what waits for another connection
  pub taken_elsewhere : (conn : ℕ) (change : Link → Link) (undue : List Answer) → EachOf (IsAnswerFirm tasks links) undue
      → EachOf (IsAnswerFirm tasks (at_link conn change links)) (filter (λ (a : Answer). not (a.conn == conn)) undue)
  taken_elsewhere conn change undue h =
      each-weaken (λ (a : Answer). IsAnswerFirm tasks links a × (not (a.conn == conn) ≡ true)) (IsAnswerFirm tasks (at_link conn change links)) (filter (λ (a : Answer). not (a.conn == conn)) undue)
      (λ a k. record {
        scope = k.0.scope;
        taken = any_mapped (λ (l : Link). l.conn == a.conn && takes_more l) (λ (l : Link). l.conn == a.conn && takes_more l) (λ (l : Link). cond (l.conn == conn) (change l) l) links
            (λ l is.
            let parts = and_parts (l.conn == a.conn) (takes_more l) is in
            let apart : (l.conn == conn) ≡ false = ap (λ (c : ℕ). c == conn) (eqb-true l.conn a.conn parts.0) ∙ unlike (a.conn == conn) k.1 in
            subst (λ (v : Bool). ((cond v (change l) l).conn == a.conn && takes_more (cond v (change l) l)) ≡ true) (sym apart) is) k.0.taken;
        ticket = k.0.ticket;
        plain = k.0.plain;
        takes = k.0.takes;
      }) (each_passing (IsAnswerFirm tasks links) (λ (a : Answer). not (a.conn == conn)) undue h)
    where
      unlike : (v : Bool) → not v ≡ true → v ≡ false
      unlike true is = absurd (false≢true is)
      unlike false is = refl

abbrev pub at_conn : ℕ → (Link → Link) → Link → Link
at_conn conn change l = cond (l.conn == conn) (change l) l

pub at_same : (conn : ℕ) (change : Link → Link) → ((l : Link) → (change l).conn ≡ l.conn) → (l : Link) → (at_conn conn change l).conn ≡ l.conn
at_same conn change same l = cond_both (l.conn == conn) (change l) l (λ (m : Link). m.conn ≡ l.conn) (λ is. same l) (λ is. refl)

-- two changes of one connection are one
pub at_twice : (conn : ℕ) (f g : Link → Link) → ((l : Link) → (g l).conn ≡ l.conn) → (links : List Link) → at_link conn f (at_link conn g links) ≡ at_link conn (λ l. f (g l)) links
at_twice conn f g same [] = refl
at_twice conn f g same (l ∷ links) =
    let rest = at_twice conn f g same links in
    elim (l.conn == conn) as (λ v. (l.conn == conn) ≡ v → cond ((cond v (g l) l).conn == conn) (f (cond v (g l) l)) (cond v (g l) l) ∷ at_link conn f (at_link conn g links) ≡ cond v (f (g l)) l ∷ at_link conn (λ m. f (g m)) links) [
      | true ↦ λ is. ap (λ (w : Bool). cond w (f (g l)) (g l) ∷ at_link conn f (at_link conn g links)) (ap (λ (c : ℕ). c == conn) (same l) ∙ is) ∙ ap (λ (ls : List Link). f (g l) ∷ ls) rest
      | false ↦ λ is. ap (λ (w : Bool). cond w (f l) l ∷ at_link conn f (at_link conn g links)) is ∙ ap (λ (ls : List Link). l ∷ ls) rest
    ] refl

-- ---- a sound box

pub sound_of : (o : Opening) (b : Box) → IsFirm o b → settle o b ≡ b → IsSound o b
sound_of o b h settled = record {
  homes = record {
    ascending = h.tasks.ascending;
    handed = each-weaken (IsLinkFirm o b.tasks b.time) (λ (l : Link). EachOf (λ (g : Handed). HasHome b.tasks l.conn g.out) l.handed) b.links (λ l k. k.handed) h.links;
  };
  known = h.tasks.known;
  links = each-weaken (IsLinkFirm o b.tasks b.time) (IsLinkSound o b.tasks) b.links
      (λ l k. record {
        queued = each-weaken (IsEntryFirm b.tasks b.time l.conn) (HasHome b.tasks l.conn) l.queue (λ out e. e.home) k.waits;
        alive = each-weaken (IsEntryFirm b.tasks b.time l.conn) (IsAlive b.tasks) l.queue (λ out e. e.alive) k.waits;
        fenced = each-weaken (IsEntryFirm b.tasks b.time l.conn) IsFenceFit l.queue (λ out e. e.fenced) k.waits;
        own = k.own;
        times = k.times;
        idle = k.idle;
      }) h.links;
  undue = each-weaken (IsAnswerFirm b.tasks b.links) (IsAnswerSound b) b.undue (λ a k. record { scope = k.scope; taken = k.taken }) h.undue;
  settled = settled;
}
